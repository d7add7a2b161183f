-- An ask that is passed on spares what it spared. The machine for latches spares the index and the words of sessions where it is at an eighth
-- word, and the latches where it rests.
use Rattle.std.proofs.Common.{◌≡◌, refl, sym, subst, arith, inl, inr, ℕ, Bool, true, false}
use Rattle.std.specs.Prelude.{if◌then◌else◌, ⊤}
use Rattle.fkv_plane.specs.declared.asks.Ask.{Ask}
use Rattle.fkv_plane.specs.declared.asks.Ask.TheVariants.{Load, Put, Take, Done}
use Rattle.fkv_plane.specs.declared.places.Places.{Places}
use Rattle.fkv_plane.specs.Passing.{passed}
use Rattle.fkv_plane.specs.Places.{bucket_place}
use Rattle.fkv_latch.specs.declared.latching.Latching.{Latching}
use Rattle.fkv_latch.specs.declared.latching.Latching.TheVariants as latch
use Rattle.fkv_latch.specs.declared.latching.LatchTask.{LatchTask}
use Rattle.fkv_latch.specs.declared.latching.LatchTask.TheVariants.{TakeShared, DropShared, TakeExclusive, DropExclusive}
use Rattle.fkv_latch.specs.Latching.{latch_first, latch_ask, latch_next, is_exclusive, is_free}
use Rattle.law_refine.specs.Footprint.{OwnWords, Part, TheIndex, TheLatches, ThePhase, OfSession, IsOutside, IsEighth, Spares}
use Rattle.law_refine.proofs.Footprint.Outside.{bucket_outside}

-- one that is passed on
pub passed_spares : {A B : Type 0} (part : Part) (p : Places) (ask : Ask A) (its : B) → Spares part p ask → Spares part p (passed ask its)
unfolding passed
passed_spares part p (Load place) its spares = tt
passed_spares part p (Put slot action) its spares = tt
passed_spares part p (Take slot) its spares = tt
passed_spares part p (Done told) its spares = tt
passed_spares part p ask its spares = spares

-- a machine for latches is at an eighth word
abbrev pub IsAtLatch : Places → Latching → Type 0
IsAtLatch p latch.AtRest = ⊤
IsAtLatch p (latch.AddsShare place) = IsEighth p place
IsAtLatch p (latch.GivesBack place) = IsEighth p place
IsAtLatch p (latch.DropsShare place) = IsEighth p place
IsAtLatch p (latch.LoadsWord place) = IsEighth p place
IsAtLatch p (latch.SetsExclusive place word) = IsEighth p place
IsAtLatch p (latch.DropsExclusive place) = IsEighth p place

-- no session has such a word
eighth_outside : (session : ℕ) (own : OwnWords) (p : Places) (place : ℕ) → IsEighth p place → IsOutside (OfSession session own) p place
eighth_outside session own p place its = subst (λ (x : ℕ). IsOutside (OfSession session own) p x) (sym its.at) (bucket_outside session own p its.bucket 7)

-- it changes the bits above the link
above_link : (p : Places) (step : Latching) → IsAtLatch p step → Spares TheIndex p (latch_ask step)
unfolding latch_ask
above_link p latch.AtRest at = tt
above_link p (latch.AddsShare place) at = inr (at, omega arith)
above_link p (latch.GivesBack place) at = inr (at, omega arith)
above_link p (latch.DropsShare place) at = inr (at, omega arith)
above_link p (latch.LoadsWord place) at = tt
above_link p (latch.SetsExclusive place word) at = inr (at, omega arith)
above_link p (latch.DropsExclusive place) at = inr (at, omega arith)

-- the phase word is none
eighth_no_phase : (p : Places) (place : ℕ) → IsEighth p place → IsOutside ThePhase p place
eighth_no_phase p place its = λ e. let at = its.at in omega (arith, e, at)

-- a part that has no such word is spared
of_no_word : (part : Part) (p : Places) → ((place : ℕ) → IsEighth p place → IsOutside part p place) → (step : Latching) → IsAtLatch p step → Spares part p (latch_ask step)
unfolding latch_ask
of_no_word part p outside latch.AtRest at = tt
of_no_word part p outside (latch.AddsShare place) at = inl (outside place at)
of_no_word part p outside (latch.GivesBack place) at = inl (outside place at)
of_no_word part p outside (latch.DropsShare place) at = inl (outside place at)
of_no_word part p outside (latch.LoadsWord place) at = tt
of_no_word part p outside (latch.SetsExclusive place word) at = inl (outside place at)
of_no_word part p outside (latch.DropsExclusive place) at = inl (outside place at)

-- at rest it asks for nothing
at_rest : (p : Places) (step : Latching) → step ≡ latch.AtRest → Spares TheLatches p (latch_ask step)
unfolding latch_ask
at_rest p step e = rw e tt

-- so it spares each part
pub latch_spares : (part : Part) (p : Places) (step : Latching) → IsAtLatch p step → (part ≡ TheLatches → step ≡ latch.AtRest) → Spares part p (latch_ask step)
latch_spares TheIndex p step at rests = above_link p step at
latch_spares TheLatches p step at rests = at_rest p step (rests refl)
latch_spares ThePhase p step at rests = of_no_word ThePhase p (eighth_no_phase p) step at
latch_spares (OfSession session own) p step at rests = of_no_word (OfSession session own) p (eighth_outside session own p) step at

either_at : (c : Bool) (p : Places) (a b : Latching) → IsAtLatch p a → IsAtLatch p b → IsAtLatch p (if c then a else b)
either_at true p a b one other = one
either_at false p a b one other = other

-- a reply leaves it at that word
pub latch_stays : (p : Places) (step : Latching) (reply : ℕ) → IsAtLatch p step → IsAtLatch p (latch_next step reply)
unfolding latch_next
latch_stays p (latch.AddsShare place) reply at = either_at (is_exclusive reply) p (latch.GivesBack place) latch.AtRest at tt
latch_stays p (latch.LoadsWord place) reply at = either_at (is_free reply) p (latch.SetsExclusive place reply) latch.AtRest at tt
latch_stays p step reply at = tt

-- as it begins
pub latch_begins : (p : Places) (task : LatchTask) (bucket : ℕ) → IsAtLatch p (latch_first task (bucket_place p bucket 7))
latch_begins p TakeShared bucket = record { bucket = bucket; at = refl }
latch_begins p DropShared bucket = record { bucket = bucket; at = refl }
latch_begins p TakeExclusive bucket = record { bucket = bucket; at = refl }
latch_begins p DropExclusive bucket = record { bucket = bucket; at = refl }
