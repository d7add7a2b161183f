-- Asks that write none of the guard's words: what is passed on, and what is asked of a latch of the index.
use Rattle.std.proofs.Common.{◌≡◌, ℕ, ◌<◌, arith, sym, subst, Bool, true, false}
use Rattle.std.specs.Prelude.{if◌then◌else◌, ⊤}
use Rattle.fkv_plane.specs.declared.asks.Ask.{Ask}
use Rattle.fkv_plane.specs.declared.places.Places.{Places}
use Rattle.fkv_plane.specs.Passing.{passed}
use Rattle.fkv_plane.specs.Places.{bucket_place}
use Rattle.fkv_flush.specs.GuardWorld.{is_guarded}
use Rattle.fkv_flush.proofs.Shown.{bucket_is_outer}
use Rattle.fkv_latch.specs.declared.latching.LatchTask.{LatchTask}
use Rattle.fkv_latch.specs.declared.latching.LatchTask.TheVariants.{TakeShared, DropShared, TakeExclusive, DropExclusive}
use Rattle.fkv_latch.specs.declared.latching.Latching.{Latching}
use Rattle.fkv_latch.specs.declared.latching.Latching.TheVariants.{AtRest, AddsShare, GivesBack, DropsShare, LoadsWord, SetsExclusive, DropsExclusive}
use Rattle.fkv_latch.specs.Latching.{latch_first, latch_ask, latch_next, is_exclusive, is_free}
use Rattle.law_world.specs.GuardSessions.Steps.{IsOuter}
use Rattle.law_world.proofs.OfGuardSessions.Outer.{passed_owes}

-- what is passed on writes the same word
pub passed_is_outer : {A B : Type 0} (p : Places) (ask : Ask A) (its : B) → IsOuter p ask → IsOuter p (passed ask its)
passed_is_outer p ask its outer = subst (λ (t : Type 0). t) (sym (passed_owes p ask its)) outer

-- a latch is in the index
abbrev pub IsLatchOuter : Places → Latching → Type 0
IsLatchOuter p AtRest = ⊤
IsLatchOuter p (AddsShare place) = is_guarded p place ≡ false
IsLatchOuter p (GivesBack place) = is_guarded p place ≡ false
IsLatchOuter p (DropsShare place) = is_guarded p place ≡ false
IsLatchOuter p (LoadsWord place) = is_guarded p place ≡ false
IsLatchOuter p (SetsExclusive place word) = is_guarded p place ≡ false
IsLatchOuter p (DropsExclusive place) = is_guarded p place ≡ false

pub latch_outer : (p : Places) (step : Latching) → IsLatchOuter p step → IsOuter p (latch_ask step)
unfolding latch_ask
latch_outer p AtRest outer = tt
latch_outer p (AddsShare place) outer = outer
latch_outer p (GivesBack place) outer = outer
latch_outer p (DropsShare place) outer = outer
latch_outer p (LoadsWord place) outer = tt
latch_outer p (SetsExclusive place word) outer = outer
latch_outer p (DropsExclusive place) outer = outer

either_latch : (c : Bool) (p : Places) (a b : Latching) → IsLatchOuter p a → IsLatchOuter p b → IsLatchOuter p (if c then a else b)
either_latch true p a b one other = one
either_latch false p a b one other = other

-- each reply
pub latch_next_outer : (p : Places) (step : Latching) (reply : ℕ) → IsLatchOuter p step → IsLatchOuter p (latch_next step reply)
unfolding latch_next
latch_next_outer p (AddsShare place) reply outer = either_latch (is_exclusive reply) p (GivesBack place) AtRest outer tt
latch_next_outer p (LoadsWord place) reply outer = either_latch (is_free reply) p (SetsExclusive place reply) AtRest outer tt
latch_next_outer p step reply outer = tt

-- a task begins at the latch of a bucket
pub latch_first_outer : (p : Places) (task : LatchTask) (bucket : ℕ) → bucket < p.buckets → IsLatchOuter p (latch_first task (bucket_place p bucket 7))
latch_first_outer p task bucket low = by_task task (bucket_is_outer p bucket 7 (omega (arith, low)) (omega arith))
  where
    by_task : (t : LatchTask) → is_guarded p (bucket_place p bucket 7) ≡ false → IsLatchOuter p (latch_first t (bucket_place p bucket 7))
    by_task TakeShared outer = outer
    by_task DropShared outer = outer
    by_task TakeExclusive outer = outer
    by_task DropExclusive outer = outer
