-- What a session has of latches as it begins a task: a share that it drops, and none of the one that it takes.
use Rattle.std.proofs.Common.{◌≡◌, ℕ, zero, suc, ◌+◌, ◌≤◌, ◌∙◌, refl, ap, subst, arith, List, [], ◌∷◌, Bool, true, false}
use Rattle.std.specs.Prelude.{◌==◌, Some, slice_get}
use Rattle.std.proofs.lemmas.Bool.Decides.{nat_tests}
use Rattle.fkv_words.specs.Fields.{bit_of}
use Rattle.fkv_map.specs.declared.operations.Op.{Op}
use Rattle.fkv_map.specs.Keys.{key_of}
use Rattle.fkv_plane.specs.declared.places.Places.{Places}
use Rattle.fkv_index.specs.declared.homes.Home.{Home}
use Rattle.fkv_index.specs.Slots.{home_of}
use Rattle.fkv_latch.specs.declared.latching.Latching.TheVariants as latching
use Rattle.law_world.specs.Below.fkv_ops.TheTrying.{Trying}
use Rattle.law_world.specs.Below.fkv_ops.TheTrying.TheVariants.{TakesShared, TakesExclusive, DropsExclusive, DropsShared}
use Rattle.law_world.specs.Below.fkv_ops.Trying.{TryState}
use Rattle.law_world.proofs.Below.fkv_ops.Shown.{shares_owed}
use Rattle.law_world.specs.Below.fkv_pending.TheAttempting.{Attempting}
use Rattle.law_world.specs.Below.fkv_pending.TheAttempting.TheVariants.{Tries}
use Rattle.law_world.specs.Below.fkv_pending.PendingRequest.{PendingRequest}
use Rattle.law_world.specs.Below.fkv_pending.Attempting.{AttemptState}
use Rattle.law_world.specs.Below.fkv_session.Catching.{Catching}
use Rattle.law_world.specs.Below.fkv_session.Catching.TheVariants.{Latches}
use Rattle.law_world.specs.Below.fkv_session.Sitting.{Sitting}
use Rattle.law_world.specs.Below.fkv_session.Sitting.TheVariants.{Attempts, CatchesUp, Polls}
use Rattle.law_world.specs.Below.fkv_session.CatchingUp.{CatchState}
use Rattle.law_world.specs.Below.fkv_session.Sessions.{SessionState, Seat, bits_of}
use Rattle.law_world.specs.Below.fkv_session.Shares.{HasItsBuckets, latch_of, is_sharing, sharing}
use Rattle.law_world.proofs.Below.fkv_session.Shown.{there, IsTryOf, owed_in, KnowsShare, owed_at, Book, StepShares}
use Rattle.law_refine.specs.Latches.Latchers.{its_latch, try_latching, attempt_latching, catch_latching, sitting_latching}
use Rattle.law_refine.proofs.OfLatches.TryLatches.{Adds, Gives, Loads, Sets, TryKnows}
use Rattle.law_refine.proofs.OfLatches.AttemptLatches.{AttemptKnows}
use Rattle.law_refine.proofs.OfLatches.CatchLatches.{CatchKnows, TakesAShare}
use Rattle.law_refine.proofs.OfLatches.SessionLatches.{SittingKnows}

record DropsOne (p : Places) (t : TryState) (at : ℕ) : Type 0 where
  some : 1 ≤ shares_owed t
  place : its_latch p t ≡ at

try_drops : (p : Places) (t : TryState) (step : Trying) (at : ℕ) → t.step ≡ step → TryKnows p t step → try_latching t step ≡ latching.DropsShare at → DropsOne p t at
try_drops p t TakesShared at e (alone, Adds same, none) its = cc
try_drops p t TakesShared at e (alone, Gives same, none) its = cc
try_drops p t (TakesExclusive old) at e (alone, Loads same) its = cc
try_drops p t (TakesExclusive old) at e (alone, Sets word same) its = cc
try_drops p t (DropsExclusive found) at e knows its = let other = knows.1 in cc
try_drops p t (DropsShared found) at e knows its = let one = knows.1 in record { some = rw e (omega arith); place = cc }
try_drops p t step at e knows its = cc

try_takes : (p : Places) (t : TryState) (step : Trying) (at : ℕ) → t.step ≡ step → TryKnows p t step → try_latching t step ≡ latching.AddsShare at → shares_owed t ≡ 0
try_takes p t TakesShared at e knows its = let none = knows.2 in rw (e, its, none) refl
try_takes p t (TakesExclusive old) at e (alone, Loads same) its = cc
try_takes p t (TakesExclusive old) at e (alone, Sets word same) its = cc
try_takes p t (DropsExclusive found) at e knows its = let other = knows.1 in cc
try_takes p t (DropsShared found) at e knows its = let one = knows.1 in cc
try_takes p t step at e knows its = cc

-- the latch of a try is that of its request's key
pub same_latch : (k : Seat) (its : HasItsBuckets k) (op : Op) (t : TryState) → IsTryOf k its op t → latch_of k.places (bits_of k) op ≡ its_latch k.places t
same_latch k its op t of =
    let home : ◌≡◌ {A = Home} t.home (home_of (bits_of k) (key_of of.request.op)) = ap (λ (x : TryState). x.home) of.trying.same in
    let its_op = of.its_op in
    rw (home, its_op) refl

same_same : (a b : ℕ) → a ≡ b → (a == b) ≡ true
same_same a b e = grind (arith, nat_tests, e)

owes_some : (m : Book) (a : AttemptState) (step : Attempting) → a.step ≡ step → KnowsShare m.seat m.its a step → AttemptKnows m.seat.places a step → attempt_latching a step ≡ latching.DropsShare m.at
    → 1 ≤ there (latch_of m.seat.places (bits_of m.seat) a.pending.request.op == m.at) (owed_in a step)
owes_some m a Tries e shares knows its =
    let drops = try_drops m.seat.places a.trial a.trial.step m.at refl knows.knows its in
    let some = drops.some in
    let here = same_same _ _ (same_latch m.seat m.its a.pending.request.op a.trial shares ∙ drops.place) in
    rw here some
owes_some m a step e shares knows its = cc

there_none : (b : Bool) (n : ℕ) → n ≡ 0 → there b n ≡ 0
there_none true n e = e
there_none false n e = refl

owes_none : (m : Book) (a : AttemptState) (step : Attempting) (at : ℕ) → AttemptKnows m.seat.places a step → attempt_latching a step ≡ latching.AddsShare at
    → there (latch_of m.seat.places (bits_of m.seat) a.pending.request.op == m.at) (owed_in a step) ≡ 0
owes_none m a Tries at knows its = there_none _ _ (try_takes m.seat.places a.trial a.trial.step at refl knows.knows its)
owes_none m a step at knows its = cc

among : (k : Seat) (at : ℕ) (requests : List PendingRequest) (i : ℕ) (pending : PendingRequest) → slice_get requests i ≡ Some pending → bit_of (is_sharing k at pending) ≤ sharing k at requests
among k at [] i pending got = cc
among k at (first ∷ rest) zero pending got = let same : first ≡ pending = cc in rw same (omega arith)
among k at (first ∷ rest) (suc i) pending got = let behind = among k at rest i pending got in omega (arith, behind)

no_drop : {X : Type 0} (c : CatchState) (step : Catching) (place : ℕ) → CatchKnows c step → catch_latching c step ≡ latching.DropsShare place → X
no_drop c (Latches index) place knows its = absurd (subst TakesAShare its knows)
no_drop c step place knows its = cc

catch_takes : (at place : ℕ) (c : CatchState) (step : Catching) → catch_latching c step ≡ latching.AddsShare place → owed_at at c step ≡ 0
catch_takes at place c (Latches index) its = rw its refl
catch_takes at place c step its = cc

drops_sitting : (m : Book) (s : SessionState) (step : Sitting) → StepShares m s step → SittingKnows m.seat.places s step → sitting_latching s step ≡ latching.DropsShare m.at → m.dropped + 1 ≤ m.added
drops_sitting m s (Attempts has_shifted) shares knows its =
    let some = owes_some m s.attempt s.attempt.step refl shares.known.knows knows.knows its in
    let counted = shares.counted in
    omega (arith, counted, some)
drops_sitting m s (Polls index) shares knows its =
    let some = owes_some m s.attempt s.attempt.step refl shares.known.knows knows.knows its in
    let counted = shares.counted in
    let one = among m.seat m.at s.requests index shares.pending shares.got in
    omega (arith, counted, some, one)
drops_sitting m s (CatchesUp cause) shares knows its = no_drop s.catching s.catching.step m.at knows its
drops_sitting m s step shares knows its = cc

-- who begins to drop a share has one
pub drops : (m : Book) (s : SessionState) → StepShares m s s.step → SittingKnows m.seat.places s s.step → sitting_latching s s.step ≡ latching.DropsShare m.at → m.dropped + 1 ≤ m.added
drops m s shares knows its = drops_sitting m s s.step shares knows its

takes_sitting : (m : Book) (s : SessionState) (step : Sitting) (place : ℕ) → StepShares m s step → SittingKnows m.seat.places s step → sitting_latching s step ≡ latching.AddsShare place → m.added ≤ m.dropped + sharing m.seat m.at s.requests
takes_sitting m s (Attempts has_shifted) place shares knows its =
    let none = owes_none m s.attempt s.attempt.step place knows.knows its in
    let counted = shares.counted in
    omega (arith, counted, none)
takes_sitting m s (Polls index) place shares knows its =
    let none = owes_none m s.attempt s.attempt.step place knows.knows its in
    let counted = shares.counted in
    omega (arith, counted, none)
takes_sitting m s (CatchesUp cause) place shares knows its =
    let none = catch_takes m.at place s.catching s.catching.step its in
    let counted = shares.counted in
    omega (arith, counted, none)
takes_sitting m s step place shares knows its = cc

-- who begins to take a share has no more than its requests share
pub takes : (m : Book) (s : SessionState) (place : ℕ) → StepShares m s s.step → SittingKnows m.seat.places s s.step → sitting_latching s s.step ≡ latching.AddsShare place → m.added ≤ m.dropped + sharing m.seat m.at s.requests
takes m s place shares knows its = takes_sitting m s s.step place shares knows its
