-- The try of a read walks, loads its answer and ends: it swaps, changes and appends nothing.
use Rattle.std.proofs.Common.{◌≡◌, ℕ, refl, Bool, true, false}
use Rattle.std.specs.Prelude.{◌&&◌, not, if◌then◌else◌, ⊤, None, Option, Some}
use Rattle.fkv_words.specs.declared.phase_words.PhaseSaid.{PhaseSaid}
use Rattle.fkv_words.specs.PhaseWords.{phase_said}
use Rattle.fkv_plane.specs.declared.asks.Ask.{Ask}
use Rattle.fkv_plane.specs.declared.asks.Ask.TheVariants.{Done}
use Rattle.fkv_plane.specs.declared.places.Places.{Places}
use Rattle.fkv_latch.specs.declared.latching.LatchAnswer.{LatchAnswer}
use Rattle.fkv_latch.specs.declared.latching.LatchAnswer.TheVariants as latch
use Rattle.fkv_latch.specs.declared.latching.LatchTask.TheVariants.{TakeShared, DropShared, DropExclusive}
use Rattle.law_world.specs.Below.fkv_ops.Reason.TheVariants as reason
use Rattle.law_world.specs.Below.fkv_ops.TryAnswer.{TryAnswer}
use Rattle.law_world.specs.Below.fkv_ops.TryAnswer.TheVariants as answer
use Rattle.law_world.specs.Below.fkv_ops.Occasion.{Occasion}
use Rattle.law_world.specs.Below.fkv_ops.Request.{Request}
use Rattle.law_world.specs.Below.fkv_ops.Seen.{Seen}
use Rattle.law_world.specs.Below.fkv_ops.TheTrying.{Trying}
use Rattle.law_world.specs.Below.fkv_ops.TheTrying.TheVariants.{Ended, TakesShared, LoadsPhase, Walks, CountsTaken, LoadsSafe, SwapsValue, LoadsCurrent, ChangesValue, LoadsAnswer, TakesExclusive, LoadsOld, Appends, LoadsTail, LoadsTaken, DropsExclusive, DropsShared}
use Rattle.law_world.specs.Below.fkv_ops.WalkAnswer.{WalkAnswer}
use Rattle.law_world.specs.Below.fkv_ops.WalkAnswer.TheVariants as walk
use Rattle.law_world.specs.Below.fkv_ops.Requests.{is_read, is_chain_end}
use Rattle.law_world.specs.Below.fkv_ops.Values.{value_of}
use Rattle.law_world.specs.Below.fkv_ops.Walking.{walk_on}
use Rattle.law_world.specs.Below.fkv_ops.Trying.{TryState, with_latch, is_wait, ended_without, ends_so, ends_by, ends, full_at, wants_shared, walks, try_begun, shared_ledto, must_shift, region_met, walked, has_walked, walk_ledto, told_value, answer_ledto, exclusive_dropped, shared_dropped, trying_next, try_next, new_try, is_next_marked, is_still_in, phase_loaded, awaits}
use Rattle.law_world.specs.Below.fkv_pending.PendingRequest.{PendingRequest}
use Rattle.law_refine.specs.Events.Effects.{AreQuiet}
use Rattle.law_refine.specs.Events.Tries.{try_ghosts}
use Rattle.law_refine.proofs.OfEvents.TryEffects.{search_quiet}
use Rattle.law_world.specs.Below.fkv_ops.Bounds.{bounds_at, has_bounds}
use Rattle.law_world.specs.Below.fkv_ops.Waiting.{waiting_of}
use Rattle.law_world.specs.Below.fkv_ops.TheWaiting.{Waiting}

-- no state of an update's alone
abbrev pub IsReadStep : Trying → Type 0
IsReadStep CountsTaken = ⊥
IsReadStep (LoadsSafe addr version) = ⊥
IsReadStep (SwapsValue addr) = ⊥
IsReadStep (LoadsCurrent addr) = ⊥
IsReadStep (ChangesValue addr old) = ⊥
IsReadStep (TakesExclusive old) = ⊥
IsReadStep LoadsOld = ⊥
IsReadStep (Appends its) = ⊥
IsReadStep (LoadsTail waiting) = ⊥
IsReadStep (LoadsTaken waiting) = ⊥
IsReadStep step = ⊤

pub record IsReadTry (t : TryState) : Type 0 where
  pub reads : is_read t.request.op ≡ true
  pub step : IsReadStep t.step

-- ---- what leads to such a state
either_read : (c : Bool) (a b : TryState) → IsReadTry a → IsReadTry b → IsReadTry (if c then a else b)
either_read true a b one other = one
either_read false a b one other = other

-- of a test that is true only what is first
then_read : (c : Bool) (a b : TryState) → c ≡ true → IsReadTry a → IsReadTry (if c then a else b)
then_read true a b e one = one
then_read false a b e one = cc

ended_read : (p : Places) (t : TryState) (its : TryAnswer) → is_read t.request.op ≡ true → IsReadTry (ended_without p t its)
ended_read p t its e =
    either_read (t.has_shared && not (is_wait its)) (with_latch p (record t { has_shared = false }) DropShared (DropsShared its)) (record t { step = Ended its }) (record { reads = e; step = tt }) (record { reads = e; step = tt })

ends_so_read : (p : Places) (t : TryState) (its : TryAnswer) → is_read t.request.op ≡ true → IsReadTry (ends_so p t its)
unfolding ends_so
ends_so_read p t its e = either_read t.has_exclusive (with_latch p (record t { has_exclusive = false }) DropExclusive (DropsExclusive its)) (ended_without p t its) (record { reads = e; step = tt }) (ended_read p t its e)

-- it looks for no room
none_bounded : (b c : Bool) → c ≡ true → (b && not c) ≡ false
none_bounded true true e = refl
none_bounded false true e = refl
none_bounded b false e = cc

ends_by_read : (p : Places) (t : TryState) (its : TryAnswer) (waiting : Option Waiting) → is_read t.request.op ≡ true → IsReadTry (ends_by p t its waiting)
ends_by_read p t its None e = ends_so_read p t its e
ends_by_read p t its (Some waiting) e = rw (none_bounded (has_bounds (bounds_at t.occasion)) (is_read t.request.op) e) (ends_so_read p t its e)

ends_read : (p : Places) (t : TryState) (its : TryAnswer) → is_read t.request.op ≡ true → IsReadTry (ends p t its)
unfolding ends
ends_read p t its e = ends_by_read p t its (waiting_of its) e

walked_read : (p : Places) (t : TryState) (its : WalkAnswer) → is_read t.request.op ≡ true → IsReadTry (walked p t its)
walked_read p t (walk.Found addr version) e = then_read (is_read t.request.op) (record t { walk = walk_on t.walk; step = LoadsAnswer }) (region_met p t addr version _) e (record { reads = e; step = tt })
walked_read p t walk.Nowhere e = then_read (is_read t.request.op) (ends p t answer.Absent) _ e (ends_read p t answer.Absent e)
walked_read p t (walk.OnDisk addr) e =
    then_read (is_read t.request.op) _ _ e
    (either_read (is_chain_end t.request.floor addr) (ends p t answer.Absent) (awaits p t addr) (ends_read p t answer.Absent e) (ends_read p t _ e))
walked_read p t (walk.Value value) e = ends_read p t (answer.Wait reason.Contended) e
walked_read p t walk.Full e = ends_read p t (full_at t.occasion answer.IndexFull) e
walked_read p t walk.Kept e = ends_read p t (full_at t.occasion answer.IndexFull) e
walked_read p t walk.Contended e = ends_read p t (answer.Wait reason.Contended) e

-- ---- each reply to it
shared_read : (p : Places) (t : TryState) (ask : Ask LatchAnswer) → IsReadTry t → IsReadTry (shared_ledto p t ask)
unfolding shared_ledto
shared_read p t (Done latch.Taken) its = either_read (is_next_marked t.request.version) (record t { has_shared = true; step = LoadsPhase }) (walks p (record t { has_shared = true })) (record { reads = its.reads; step = tt }) (record { reads = its.reads; step = tt })
shared_read p t (Done told) its = ends_read p t answer.Shift its.reads
shared_read p t ask its = its

phase_read : (p : Places) (t : TryState) (said : PhaseSaid) → is_read t.request.op ≡ true → IsReadTry (phase_loaded p t said)
unfolding phase_loaded
phase_read p t said reads = either_read (is_still_in said t.request.version) (walks p t) (ends p t answer.Shift) (record { reads = reads; step = tt }) (ends_read p t answer.Shift reads)

walk_read : (p : Places) (t : TryState) (ask : Ask WalkAnswer) → IsReadTry t → IsReadTry (walk_ledto p t ask)
unfolding walk_ledto
walk_read p t (Done told) its =
    let after : TryState = record t { spare = t.walk.spare } in
    either_read (has_walked told && must_shift after) (ends p after answer.Shift) (walked p after told) (ends_read p after answer.Shift its.reads) (walked_read p after told its.reads)
walk_read p t ask its = its

answer_read : (p : Places) (t : TryState) (ask : Ask WalkAnswer) → IsReadTry t → IsReadTry (answer_ledto p t ask)
unfolding answer_ledto
answer_read p t (Done (walk.Value value)) its = ends_read p t (told_value (value_of value)) its.reads
answer_read p t (Done told) its = ends_read p t (answer.Wait reason.Contended) its.reads
answer_read p t ask its = its

exclusive_read : (p : Places) (t : TryState) (end : TryAnswer) (ask : Ask LatchAnswer) → IsReadTry t → IsReadTry (exclusive_dropped p t end ask)
unfolding exclusive_dropped
exclusive_read p t end (Done told) its = ended_read p t end its.reads
exclusive_read p t end ask its = its

dropped_read : (t : TryState) (end : TryAnswer) (ask : Ask LatchAnswer) → IsReadTry t → IsReadTry (shared_dropped t end ask)
unfolding shared_dropped
dropped_read t end (Done told) its = record { reads = its.reads; step = tt }
dropped_read t end ask its = its

step_read : (p : Places) (room : ℕ) (t : TryState) (step : Trying) (reply : ℕ) → IsReadStep step → IsReadTry t → IsReadTry (trying_next p room t step reply)
unfolding trying_next
step_read p room t (Ended end) reply knows its = its
step_read p room t TakesShared reply knows its = shared_read p _ _ (record { reads = its.reads; step = its.step })
step_read p room t LoadsPhase reply knows its = phase_read p t (phase_said reply) its.reads
step_read p room t Walks reply knows its = walk_read p _ _ (record { reads = its.reads; step = its.step })
step_read p room t CountsTaken reply knows its = absurd knows
step_read p room t (LoadsSafe addr version) reply knows its = absurd knows
step_read p room t (SwapsValue addr) reply knows its = absurd knows
step_read p room t (LoadsCurrent addr) reply knows its = absurd knows
step_read p room t (ChangesValue addr old) reply knows its = absurd knows
step_read p room t LoadsAnswer reply knows its = answer_read p _ _ (record { reads = its.reads; step = its.step })
step_read p room t (TakesExclusive old) reply knows its = absurd knows
step_read p room t LoadsOld reply knows its = absurd knows
step_read p room t (Appends made) reply knows its = absurd knows
step_read p room t (LoadsTail waiting) reply knows its = absurd knows
step_read p room t (LoadsTaken waiting) reply knows its = absurd knows
step_read p room t (DropsExclusive end) reply knows its = exclusive_read p _ end _ (record { reads = its.reads; step = its.step })
step_read p room t (DropsShared end) reply knows its = dropped_read _ end _ (record { reads = its.reads; step = its.step })

pub try_read : (p : Places) (room : ℕ) (t : TryState) (reply : ℕ) → IsReadTry t → IsReadTry (try_next p room t reply)
try_read p room t reply its = step_read p room (record t { effect = None }) t.step reply its.step (record { reads = its.reads; step = its.step })

-- it begins with its walk
pub begun_read : (p : Places) (bits : ℕ) (request : Request) (seen : Seen) (occasion : Occasion) (spare : ℕ) → is_read request.op ≡ true → IsReadTry (try_begun p bits request seen occasion spare)
begun_read p bits request seen occasion spare e =
    let its : TryState = new_try bits request seen occasion spare in
    either_read (wants_shared its) (with_latch p its TakeShared TakesShared) (walks p its) (record { reads = e; step = tt }) (record { reads = e; step = tt })

-- no update takes effect by a step of it
pub read_quiet : (p : Places) (room session reader : ℕ) (pending : PendingRequest) (t : TryState) (step : Trying) (reply : ℕ) → IsReadStep step → AreQuiet (try_ghosts p room session reader pending t step reply)
read_quiet p room session reader pending t Walks reply knows = search_quiet p pending.request.op reader t.walk reply
read_quiet p room session reader pending t (SwapsValue addr) reply knows = absurd knows
read_quiet p room session reader pending t (ChangesValue addr old) reply knows = absurd knows
read_quiet p room session reader pending t (Appends its) reply knows = absurd knows
read_quiet p room session reader pending t step reply knows = tt
