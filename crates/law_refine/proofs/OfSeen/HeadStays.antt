-- The keeper alone moves the head. A session's step leaves it where it is, and so does each event of the keeper whose ask does.
use Rattle.std.proofs.Common.{◌≡◌, ◌≢◌, ℕ, zero, suc, ◌∙◌, refl, sym, ap, subst, arith, Bool, true, false, List, ◌∷◌}
use Rattle.std.specs.Prelude.{⊤, if◌then◌else◌, Option, Some, None, replicate, slice_get}
use Rattle.std.proofs.lemmas.List.{set-get_or}
use Rattle.fkv_base.specs.declared.shapes.Shape.{Shape}
use Rattle.fkv_plane.specs.declared.actions.Action.{Action}
use Rattle.fkv_plane.specs.declared.actions.Action.TheVariants as act
use Rattle.fkv_plane.specs.declared.asks.Ask.{Ask}
use Rattle.fkv_plane.specs.declared.asks.Ask.TheVariants.{Load, Store, Swap, Cas, Add, Max, Put, Take, Done}
use Rattle.fkv_plane.specs.declared.places.Places.{Places}
use Rattle.fkv_plane.specs.declared.places.RecordWord.{RecordWord}
use Rattle.fkv_plane.specs.declared.places.RecordWord.TheVariants as rec
use Rattle.fkv_plane.specs.declared.places.SharedWord.TheVariants as one
use Rattle.fkv_plane.specs.Asked.{word_at, words_after}
use Rattle.fkv_plane.specs.Passing.{passed}
use Rattle.fkv_plane.specs.Places.{record_place, shared_place}
use Rattle.fkv_epoch.specs.declared.arming.Arming.{Arming}
use Rattle.fkv_epoch.specs.declared.arming.Arming.TheVariants as arm
use Rattle.fkv_epoch.specs.declared.claiming.Claiming.{Claiming}
use Rattle.fkv_epoch.specs.declared.claiming.Claiming.TheVariants as claim
use Rattle.fkv_epoch.specs.declared.leaving.Leaving.{Leaving}
use Rattle.fkv_epoch.specs.declared.leaving.Leaving.TheVariants as leave
use Rattle.fkv_epoch.specs.declared.protecting.Protecting.{Protecting}
use Rattle.fkv_epoch.specs.declared.protecting.Protecting.TheVariants as protect
use Rattle.fkv_epoch.specs.declared.raising.Raising.{Raising}
use Rattle.fkv_epoch.specs.declared.raising.Raising.TheVariants as raise
use Rattle.fkv_epoch.specs.declared.refreshing.Refreshing.{Refreshing}
use Rattle.fkv_epoch.specs.declared.refreshing.Refreshing.TheVariants as refresh
use Rattle.fkv_epoch.specs.declared.scanning.Scanning.{Scanning}
use Rattle.fkv_epoch.specs.declared.scanning.Scanning.TheVariants as scan
use Rattle.fkv_epoch.specs.Arming.{arm_ask}
use Rattle.fkv_epoch.specs.Claiming.{claim_ask, run_of}
use Rattle.fkv_epoch.specs.Leaving.{leave_ask}
use Rattle.fkv_epoch.specs.Protecting.{protect_ask}
use Rattle.fkv_epoch.specs.Raising.{raise_ask}
use Rattle.fkv_epoch.specs.Refreshing.{refresh_ask}
use Rattle.fkv_epoch.specs.Scanning.{scan_ask}
use Rattle.fkv_epoch.proofs.Shown.{word_spared}
use Rattle.law_world.specs.Below.fkv_flush.Guarded.{first_actor}
use Rattle.law_world.specs.Below.fkv_flush.GuardLevels.{levels_of}
use Rattle.law_world.specs.Below.fkv_flush.GuardSeen.{LastSeen}
use Rattle.law_world.specs.Below.fkv_flush.GuardWorld as guard
use Rattle.law_world.specs.Below.fkv_flush.GuardWorld.{Actor, Work, is_guarded, shift_rests}
use Rattle.law_world.specs.Below.fkv_keeper.Keeping.{keeper_ask}
use Rattle.law_world.specs.Below.fkv_log.Filling.{fill_ask}
use Rattle.law_world.specs.Below.fkv_log.Invalidating.{invalidate_ask}
use Rattle.law_world.specs.Below.fkv_log.Moving.{Mover, move_ask, moving_ask, offset_place}
use Rattle.law_world.specs.Below.fkv_log.Offset.{Offset}
use Rattle.law_world.specs.Below.fkv_log.Offset.TheVariants.{ReadOnly}
use Rattle.law_world.specs.Below.fkv_log.Reserving.{reserve_ask}
use Rattle.law_world.specs.Below.fkv_log.Shifting.{ShiftState, shift_ask, shifting_ask}
use Rattle.law_world.specs.Below.fkv_log.TheFilling.{Filling}
use Rattle.law_world.specs.Below.fkv_log.TheFilling.TheVariants as fill
use Rattle.law_world.specs.Below.fkv_log.TheInvalidating.{Invalidating}
use Rattle.law_world.specs.Below.fkv_log.TheInvalidating.TheVariants as invalidate
use Rattle.law_world.specs.Below.fkv_log.TheMoving.{Moving}
use Rattle.law_world.specs.Below.fkv_log.TheMoving.TheVariants as move
use Rattle.law_world.specs.Below.fkv_log.TheReserving.{Reserving}
use Rattle.law_world.specs.Below.fkv_log.TheReserving.TheVariants as reserve
use Rattle.law_world.specs.Below.fkv_log.TheShifting.{Shifting}
use Rattle.law_world.specs.Below.fkv_log.TheShifting.TheVariants as shift
use Rattle.law_world.specs.Below.fkv_log.TheTurning.{Turning}
use Rattle.law_world.specs.Below.fkv_log.TheTurning.TheVariants as turn
use Rattle.law_world.specs.Below.fkv_log.TurnForm.TheVariants.{OpensOnly}
use Rattle.law_world.specs.Below.fkv_log.Turning.{turn_ask, turning_ask}
use Rattle.law_world.specs.Below.fkv_ops.Appending.{AppendState, append_ask, appending_ask}
use Rattle.law_world.specs.Below.fkv_ops.TheAppending.{Appending}
use Rattle.law_world.specs.Below.fkv_ops.TheAppending.TheVariants as appending
use Rattle.law_world.specs.Below.fkv_ops.TheTrying.{Trying}
use Rattle.law_world.specs.Below.fkv_ops.TheTrying.TheVariants.{SwapsValue, ChangesValue, Appends}
use Rattle.law_world.specs.Below.fkv_ops.Trying.{TryState, try_ask, trying_ask}
use Rattle.law_world.specs.Below.fkv_pending.Attempting.{AttemptState, attempt_ask, attempting_ask}
use Rattle.law_world.specs.Below.fkv_pending.Mailing.{mail_ask}
use Rattle.law_world.specs.Below.fkv_pending.PendingRequest.{PendingRequest}
use Rattle.law_world.specs.Below.fkv_pending.TheAttempting.{Attempting}
use Rattle.law_world.specs.Below.fkv_pending.TheAttempting.TheVariants as attempting
use Rattle.law_world.specs.Below.fkv_pending.TheMailing.{Mailing}
use Rattle.law_world.specs.Below.fkv_pending.TheMailing.TheVariants as mail
use Rattle.law_world.specs.Below.fkv_session.Catching.{Catching}
use Rattle.law_world.specs.Below.fkv_session.Catching.TheVariants as catching
use Rattle.law_world.specs.Below.fkv_session.CatchingUp.{CatchState, catch_ask, catching_ask}
use Rattle.law_world.specs.Below.fkv_session.OwnTurning.{OwnTurning}
use Rattle.law_world.specs.Below.fkv_session.OwnTurning.TheVariants as turning
use Rattle.law_world.specs.Below.fkv_session.OwnTurns.{OwnTurnState, own_turn_ask, own_turning_ask}
use Rattle.law_world.specs.Below.fkv_session.Sessions.{SessionState, Seat, session_ask, sitting_ask}
use Rattle.law_world.specs.Below.fkv_session.Sitting.{Sitting}
use Rattle.law_world.specs.Below.fkv_session.Sitting.TheVariants.{Idle, Attempts, CatchesUp, ClearsMail, Polls, StoresOwing, Turns, StoresCut, Leaves, LoadsDurable}
use Rattle.law_world.specs.Below.fkv_world.Actors.{session_place_named}
use Rattle.law_world.specs.Below.fkv_world.Runs.{World, happens, run}
use Rattle.law_world.specs.Below.fkv_world.World.{Event, Calls, Moves, Commits, Turns as TurnsCall, KeeperMoves, Crashes, Now, seat_at}
use Rattle.law_world.specs.GuardSessions.Attempts.{AttemptWritesOuter}
use Rattle.law_world.specs.GuardSessions.Catches.{CatchWritesOuter}
use Rattle.law_world.specs.GuardSessions.OwnTurns.{own_turn_likeness_at}
use Rattle.law_world.specs.GuardSessions.Likenesses.{last_seen}
use Rattle.law_world.specs.GuardSessions.Rows.{IsOpening, OwnTurnKnows, SittingKnows}
use Rattle.law_world.specs.GuardSessions.Sessions.{SittingWritesOuter, sitting_likeness}
use Rattle.law_world.specs.GuardSessions.Steps.{IsOuter}
use Rattle.law_world.specs.GuardSessions.Tries.{AppendWritesOuter, TryWritesOuter}
use Rattle.law_world.specs.Guarded.GuardEvents as guarded
use Rattle.law_world.specs.Guarded.Shows.{IsOpened, guard_opening, seen_by_guard}
use Rattle.law_world.proofs.Below.fkv_flush.Shown.{Fits, FitsWork}
use Rattle.law_world.proofs.Below.fkv_world.Shown.{is_over}
use Rattle.law_world.proofs.OfGuarded.Outer.{write_outer}
use Rattle.law_world.proofs.OfGuarded.Worlds.{life_shows}
use Rattle.law_world.proofs.OfRuns.OneWord.{keeper_writes, session_writes}
use Rattle.law_refine.proofs.OfRecords.Standing.{unnamed_word}
use Rattle.law_refine.proofs.OfSeen.ShiftTargets.{AllReadOnly, ShiftsReadOnly, TargetsReadOnly, WorkReadOnly, run_targets}

-- the ask writes no other word there
abbrev pub LeavesHead : {A : Type 0} → Ask A → Type 0
LeavesHead (Load place) = ⊤
LeavesHead (Store place word) = shared_place one.Head ≢ place
LeavesHead (Swap place word) = shared_place one.Head ≢ place
LeavesHead (Cas place old new) = shared_place one.Head ≢ place
LeavesHead (Add place k) = shared_place one.Head ≢ place
LeavesHead (Max place k) = shared_place one.Head ≢ place
LeavesHead (Put slot action) = ⊤
LeavesHead (Take slot) = ⊤
LeavesHead (Done its) = ⊤

passed_leaves : {A B : Type 0} (ask : Ask A) (its : B) → LeavesHead ask → LeavesHead (passed ask its)
unfolding passed
passed_leaves (Load place) its leaves = tt
passed_leaves (Store place new) its leaves = leaves
passed_leaves (Swap place new) its leaves = leaves
passed_leaves (Cas place old new) its leaves = leaves
passed_leaves (Add place k) its leaves = leaves
passed_leaves (Max place k) its leaves = leaves
passed_leaves (Put slot action) its leaves = tt
passed_leaves (Take slot) its leaves = tt
passed_leaves (Done inner) its leaves = tt

-- the head is one of the guard's words
guarded_off : (p : Places) (place : ℕ) → is_guarded p place ≡ false → shared_place one.Head ≢ place
guarded_off p place free at = let clash : is_guarded p (shared_place one.Head) ≡ false = subst (λ (x : ℕ). is_guarded p x ≡ false) (sym at) free in cc

outer_leaves : {A : Type 0} (p : Places) (ask : Ask A) → IsOuter p ask → LeavesHead ask
outer_leaves p (Load place) outer = tt
outer_leaves p (Store place new) outer = guarded_off p place outer
outer_leaves p (Swap place new) outer = guarded_off p place outer
outer_leaves p (Cas place old new) outer = guarded_off p place outer
outer_leaves p (Add place k) outer = guarded_off p place outer
outer_leaves p (Max place k) outer = guarded_off p place outer
outer_leaves p (Put slot action) outer = tt
outer_leaves p (Take slot) outer = tt
outer_leaves p (Done its) outer = tt

-- ---- the machines inside
record_off : (p : Places) (addr : ℕ) (word : RecordWord) → shared_place one.Head ≢ record_place p addr word
record_off p addr word e = omega (arith, e)

scan_leaves : (step : Scanning) → LeavesHead (scan_ask step)
unfolding scan_ask
scan_leaves scan.AtRest = tt
scan_leaves scan.LoadsEpoch = tt
scan_leaves (scan.LoadsSession session least) = tt
scan_leaves (scan.RaisesSafe least) = λ e. omega (arith, e)

run_leaves : (action : Action) → LeavesHead (run_of action)
run_leaves (act.SafeReadOnly addr) = λ e. omega (arith, e)
run_leaves (act.Close addr) = λ e. omega (arith, e)
run_leaves (act.Phase phase version) = λ e. omega (arith, e)

claim_leaves : (step : Claiming) → LeavesHead (claim_ask step)
unfolding claim_ask
claim_leaves claim.AtRest = tt
claim_leaves (claim.MeetsSlot slot safe) = tt
claim_leaves (claim.LoadsSafe slot word) = tt
claim_leaves (claim.TakesSlot slot word safe) = λ e. omega (arith, e)
claim_leaves (claim.Receives slot epoch safe) = tt
claim_leaves (claim.Runs slot epoch safe action) = run_leaves action
claim_leaves (claim.FreesSlot slot safe) = λ e. omega (arith, e)

raise_leaves : (step : Raising) → LeavesHead (raise_ask step)
unfolding raise_ask
raise_leaves raise.AtRest = tt
raise_leaves raise.LoadsEpoch = tt
raise_leaves (raise.MeetsSlot slot) = tt
raise_leaves (raise.HoldsSlot slot) = λ e. omega (arith, e)
raise_leaves (raise.HasSlot slot) = tt
raise_leaves (raise.RaisesEpoch slot) = λ e. omega (arith, e)

arm_leaves : (step : Arming) → LeavesHead (arm_ask step)
unfolding arm_ask
arm_leaves arm.AtRest = tt
arm_leaves (arm.PutsAction slot epoch) = tt
arm_leaves (arm.StoresEpoch slot epoch) = λ e. omega (arith, e)

offset_off : (offset : Offset) → offset ≡ ReadOnly → shared_place one.Head ≢ offset_place offset
offset_off ReadOnly is = λ e. omega (arith, e)
offset_off offset is = cc

-- a move of the read-only offset
move_leaves : (step : Moving) (raising : Raising) (arming : Arming) → TargetsReadOnly step → LeavesHead (moving_ask step raising arming)
unfolding moving_ask
move_leaves move.AtRest raising arming targets = tt
move_leaves (move.Raises target) raising arming targets = passed_leaves (raise_ask raising) _ (raise_leaves raising)
move_leaves (move.MovesOffset target) raising arming targets = offset_off target.offset targets
move_leaves (move.Puts target slot) raising arming targets = tt
move_leaves move.Arms raising arming targets = passed_leaves (arm_ask arming) _ (arm_leaves arming)

shift_leaves : (step : Shifting) (m : Mover) → ShiftsReadOnly step m → LeavesHead (shifting_ask step m)
unfolding shifting_ask
shift_leaves shift.AtRest m targets = tt
shift_leaves shift.LoadsTail m targets = tt
shift_leaves (shift.LoadsReadOnly tail) m targets = tt
shift_leaves (shift.Moves tail) m targets = passed_leaves (move_ask m) _ (move_leaves m.step m.raising m.arming targets)

-- a turn that opens only
open_leaves : (shape : Shape) (step : Turning) (m : Mover) → IsOpening step → LeavesHead (turning_ask shape step m)
unfolding turning_ask
open_leaves shape (turn.LoadsLimit OpensOnly tail) m opening = tt
open_leaves shape (turn.LoadsClosed OpensOnly limit) m opening = tt
open_leaves shape (turn.RaisesLimit limit) m opening = λ e. omega (arith, e)
open_leaves shape step m opening = absurd opening

mail_leaves : (number : ℕ) (step : Mailing) → LeavesHead (mail_ask number step)
unfolding mail_ask
mail_leaves number (mail.Ended its) = tt
mail_leaves number (mail.LoadsState task) = tt
mail_leaves number mail.LoadsHeader = tt
mail_leaves number (mail.LoadsKey header) = tt
mail_leaves number (mail.LoadsValue header key) = tt
mail_leaves number (mail.StoresEmpty its) = λ e. omega (arith, e)
mail_leaves number (mail.StoresAddress addr) = λ e. omega (arith, e)
mail_leaves number mail.StoresAsked = λ e. omega (arith, e)

refresh_leaves : (number : ℕ) (step : Refreshing) → LeavesHead (refresh_ask number step)
unfolding refresh_ask
refresh_leaves number (refresh.StoresEpoch epoch) = λ e. omega (arith, e)
refresh_leaves number step = tt

protect_leaves : (number : ℕ) (step : Protecting) → LeavesHead (protect_ask number step)
unfolding protect_ask
protect_leaves number (protect.StoresEpoch epoch) = λ e. omega (arith, e)
protect_leaves number step = tt

leave_leaves : (number : ℕ) (step : Leaving) → LeavesHead (leave_ask number step)
unfolding leave_ask
leave_leaves number leave.AtRest = tt
leave_leaves number leave.StoresZero = λ e. omega (arith, e)

reserve_leaves : (step : Reserving) → LeavesHead (reserve_ask step)
unfolding reserve_ask
reserve_leaves reserve.AtRest = tt
reserve_leaves (reserve.LoadsLimit bound) = tt
reserve_leaves (reserve.LoadsTail limit) = tt
reserve_leaves (reserve.TakesTail tail) = λ e. omega (arith, e)

fill_leaves : (p : Places) (step : Filling) → LeavesHead (fill_ask p step)
unfolding fill_ask
fill_leaves p fill.AtRest = tt
fill_leaves p (fill.StoresValue addr its_words) = record_off p addr.0 rec.Value
fill_leaves p (fill.StoresKey addr its_words) = record_off p addr.0 rec.Key
fill_leaves p (fill.StoresHeader addr its_words) = record_off p addr.0 rec.Header

invalidate_leaves : (p : Places) (step : Invalidating) → LeavesHead (invalidate_ask p step)
unfolding invalidate_ask
invalidate_leaves p invalidate.AtRest = tt
invalidate_leaves p (invalidate.StoresHeader addr header) = record_off p addr.0 rec.Header

-- ---- a try writes its record's words, or words that are none of the guard's
append_leaves : {A : Type 0} (p : Places) (a : AppendState) (step : Appending) (ask : Ask A) → AppendWritesOuter p step ask → (LeavesHead (appending_ask p a step) → LeavesHead ask) → LeavesHead ask
unfolding appending_ask
append_leaves p a (appending.Ended its) ask outer on = on tt
append_leaves p a appending.Reserves ask outer on = on (passed_leaves (reserve_ask a.reserving) _ (reserve_leaves a.reserving))
append_leaves p a (appending.Fills addr) ask outer on = on (passed_leaves (fill_ask p a.filling) _ (fill_leaves p a.filling))
append_leaves p a (appending.Publishes addr) ask outer on = outer_leaves p ask outer
append_leaves p a appending.Invalidates ask outer on = on (passed_leaves (invalidate_ask p a.invalidating) _ (invalidate_leaves p a.invalidating))

try_leaves : {A : Type 0} (p : Places) (t : TryState) (step : Trying) (ask : Ask A) → TryWritesOuter p t step ask → (LeavesHead (trying_ask p t step) → LeavesHead ask) → LeavesHead ask
unfolding trying_ask
try_leaves p t (SwapsValue addr) ask outer on = on (record_off p addr.0 rec.Value)
try_leaves p t (ChangesValue addr old) ask outer on = on (record_off p addr.0 rec.Value)
try_leaves p t (Appends its) ask outer on = append_leaves p t.append t.append.step ask outer (λ leaves. on (passed_leaves (append_ask p t.append) _ leaves))
try_leaves p t step ask outer on = outer_leaves p ask outer

attempt_leaves : {A : Type 0} (p : Places) (number : ℕ) (a : AttemptState) (step : Attempting) (ask : Ask A) → AttemptWritesOuter p a step ask → (LeavesHead (attempting_ask p number a step) → LeavesHead ask) → LeavesHead ask
unfolding attempting_ask
attempt_leaves p number a (attempting.Ended its) ask outer on = on tt
attempt_leaves p number a attempting.Looks ask outer on = on (passed_leaves (mail_ask number a.mailing) _ (mail_leaves number a.mailing))
attempt_leaves p number a attempting.Tries ask outer on = try_leaves p a.trial a.trial.step ask outer (λ leaves. on (passed_leaves (try_ask p a.trial) _ leaves))
attempt_leaves p number a attempting.Puts ask outer on = on (passed_leaves (mail_ask number a.mailing) _ (mail_leaves number a.mailing))

catch_leaves : {A : Type 0} (p : Places) (number : ℕ) (c : CatchState) (requests : List PendingRequest) (step : Catching) (ask : Ask A) → CatchWritesOuter p step ask
    → (LeavesHead (catching_ask p number c requests step) → LeavesHead ask) → LeavesHead ask
unfolding catching_ask
catch_leaves p number c requests catching.Ended ask outer on = on tt
catch_leaves p number c requests catching.Refreshes ask outer on = on (passed_leaves (refresh_ask number c.refreshing) tt (refresh_leaves number c.refreshing))
catch_leaves p number c requests catching.Protects ask outer on = on (passed_leaves (protect_ask number c.protecting) tt (protect_leaves number c.protecting))
catch_leaves p number c requests catching.StoresCut ask outer on = on (λ e. omega (arith, e))
catch_leaves p number c requests catching.StoresOwing ask outer on = on (λ e. omega (arith, e))
catch_leaves p number c requests (catching.Latches index) ask outer on = outer_leaves p ask outer
catch_leaves p number c requests catching.Finishes ask outer on = on (passed_leaves (refresh_ask number c.refreshing) tt (refresh_leaves number c.refreshing))

-- ---- a session's own turn shifts the read-only offset, and opens only
abbrev TurnTargets : OwnTurnState → OwnTurning → Type 0
TurnTargets o turning.Shifts = ShiftsReadOnly o.shift.step o.shift.mover
TurnTargets o step = ⊤

turn_leaves : (shape : Shape) (o : OwnTurnState) (step : OwnTurning) → OwnTurnKnows o step → TurnTargets o step → LeavesHead (own_turning_ask shape o step)
unfolding own_turning_ask
turn_leaves shape o turning.Ended knows targets = tt
turn_leaves shape o turning.Scans knows targets = passed_leaves (scan_ask o.scanning) tt (scan_leaves o.scanning)
turn_leaves shape o turning.Claims knows targets = passed_leaves (claim_ask o.claiming) tt (claim_leaves o.claiming)
turn_leaves shape o turning.Shifts knows targets = passed_leaves (shift_ask o.shift) tt (shift_leaves o.shift.step o.shift.mover targets)
turn_leaves shape o turning.Opens knows targets = passed_leaves (turn_ask shape o.turn) tt (open_leaves shape o.turn.step o.turn.mover knows.1)

abbrev SittingTargets : SessionState → Sitting → Type 0
SittingTargets s (Turns its) = TurnTargets s.own_turn s.own_turn.step
SittingTargets s step = ⊤

sitting_leaves : (k : Seat) (s : SessionState) (step : Sitting) → SittingWritesOuter k s step (sitting_ask k s step) → SittingKnows s step → SittingTargets s step → LeavesHead (sitting_ask k s step)
unfolding sitting_ask
sitting_leaves k s (Idle its) outer knows targets = tt
sitting_leaves k s (Attempts has_shifted) outer knows targets = attempt_leaves k.places k.number s.attempt s.attempt.step _ outer (λ leaves. passed_leaves (attempt_ask k.places k.number s.attempt) _ leaves)
sitting_leaves k s (CatchesUp cause) outer knows targets = catch_leaves k.places k.number s.catching s.requests s.catching.step _ outer (λ leaves. passed_leaves (catch_ask k.places k.number s.catching s.requests) _ leaves)
sitting_leaves k s ClearsMail outer knows targets = passed_leaves (mail_ask k.number s.mailing) _ (mail_leaves k.number s.mailing)
sitting_leaves k s (Polls index) outer knows targets = attempt_leaves k.places k.number s.attempt s.attempt.step _ outer (λ leaves. passed_leaves (attempt_ask k.places k.number s.attempt) _ leaves)
sitting_leaves k s (StoresOwing index) outer knows targets = λ e. omega (arith, e)
sitting_leaves k s (Turns its) outer knows targets = passed_leaves (own_turn_ask k.shape s.own_turn) _ (turn_leaves k.shape s.own_turn s.own_turn.step knows targets)
sitting_leaves k s StoresCut outer knows targets = λ e. omega (arith, e)
sitting_leaves k s Leaves outer knows targets = passed_leaves (leave_ask k.number s.leaving) _ (leave_leaves k.number s.leaving)
sitting_leaves k s LoadsDurable outer knows targets = tt

-- ---- where the guard's actor shifts as the session does
shifts_so : (s : ShiftState) (step : Shifting) (work : Work) → s.step ≡ step → FitsWork (if shift_rests step then None else Some (guard.Shifts s)) work → WorkReadOnly work → ShiftsReadOnly step s.mover
shifts_so s (shift.Moves tail) work at fits targets =
    let same : ShiftsReadOnly s.step s.mover = subst WorkReadOnly fits targets in
    subst (λ (x : Shifting). ShiftsReadOnly x s.mover) at same
shifts_so s step work at fits targets = tt

turn_targets : (o : OwnTurnState) (step : OwnTurning) (x : Actor) (seen : LastSeen) → Fits (own_turn_likeness_at seen o step) x → WorkReadOnly x.work → TurnTargets o step
turn_targets o turning.Shifts x seen fits targets = shifts_so o.shift o.shift.step x.work refl fits.work targets
turn_targets o step x seen fits targets = tt

sitting_targets : (s : SessionState) (step : Sitting) (x : Actor) → Fits (sitting_likeness s step) x → WorkReadOnly x.work → SittingTargets s step
sitting_targets s (Turns its) x fits targets = turn_targets s.own_turn s.own_turn.step x (last_seen s.seen) fits targets
sitting_targets s step x fits targets = tt

-- at first all rest
all_rest : (count : ℕ) (first : Actor) → WorkReadOnly first.work → (i : ℕ) (x : Actor) → slice_get (replicate count first) i ≡ Some x → WorkReadOnly x.work
all_rest zero first its i x got = cc
all_rest (suc count) first its zero x got = let same : first ≡ x = cc in subst (λ (y : Actor). WorkReadOnly y.work) same its
all_rest (suc count) first its (suc i) x got = all_rest count first its i x got

life_targets : (opening : World) (start : ℕ) (events : List Event) → AllReadOnly (seen_by_guard opening start events).now
life_targets opening start events = run_targets (guard_opening opening.now start) (guarded.mapped opening events) (all_rest (guarded.actor_count opening.now) (first_actor start (levels_of opening.now.words).closed) tt)

pub session_leaves : (opening : World) (start : ℕ) (events : List Event) (number : ℕ) (s : SessionState) → IsOpened opening.now start → slice_get (run opening events).now.sessions number ≡ Some s
    → LeavesHead (session_ask (seat_at (run opening events).now number) s)
session_leaves opening start events number s opened found =
    let seated = (life_shows opening start events opened).sessions number s found in
    sitting_leaves (seat_at (run opening events).now number) s s.step (write_outer opening start events opened number s found) seated.sits.knows
    (sitting_targets s s.step seated.actor seated.sits.fits (life_targets opening start events number seated.actor seated.sits.got))

-- ---- the word behind an ask
pub left_there : {A : Type 0} (words : List ℕ) (ask : Ask A) → LeavesHead ask → (levels_of (words_after words ask)).head ≡ (levels_of words).head
left_there words (Load place) leaves = ap (λ (x : List ℕ). word_at x (shared_place one.Head)) (set-get_or words place 0)
left_there words (Store place new) leaves = word_spared words place _ (shared_place one.Head) leaves
left_there words (Swap place new) leaves = word_spared words place _ (shared_place one.Head) leaves
left_there words (Cas place old new) leaves = word_spared words place _ (shared_place one.Head) leaves
left_there words (Add place k) leaves = word_spared words place _ (shared_place one.Head) leaves
left_there words (Max place k) leaves = word_spared words place _ (shared_place one.Head) leaves
left_there words (Put slot action) leaves = refl
left_there words (Take slot) leaves = refl
left_there words (Done its) leaves = refl

-- ---- an event of the keeper whose ask leaves the head, or any other
abbrev pub KeepsHead : Now → Event → Type 0
KeepsHead n (KeeperMoves granted done) = LeavesHead (keeper_ask n.shape n.places n.keeper)
KeepsHead n event = ⊤

moved_stays : (opening : World) (start : ℕ) (before : List Event) (number : ℕ) (found : Option SessionState) → IsOpened opening.now start → (run opening before).now.crashed ≡ false → slice_get (run opening before).now.sessions number ≡ found
    → (levels_of (happens (run opening before) (Moves number)).now.words).head ≡ (levels_of (run opening before).now.words).head
moved_stays opening start before number None opened alive got = unnamed_word (run opening before) (Moves number) (shared_place one.Head) (λ named. none_named (subst (λ (x : Option SessionState). session_place_named (seat_at (run opening before).now number) x ≡ Some (shared_place one.Head)) got named))
  where
    none_named : ◌≡◌ {A = Option ℕ} None (Some (shared_place one.Head)) → ⊥
    none_named e = cc
moved_stays opening start before number (Some s) opened alive got =
    ap (λ (words : List ℕ). (levels_of words).head) (session_writes (run opening before) number s alive got)
    ∙ left_there (run opening before).now.words (session_ask (seat_at (run opening before).now number) s) (session_leaves opening start before number s opened got)

pub head_stays : (opening : World) (start : ℕ) (before : List Event) (event : Event) → IsOpened opening.now start → KeepsHead (run opening before).now event
    → (levels_of (run opening (event ∷ before)).now.words).head ≡ (levels_of (run opening before).now.words).head
unfolding run
head_stays opening start before event opened keeps = by_crash (run opening before).now.crashed refl event keeps
  where
    by_crash : (c : Bool) → (run opening before).now.crashed ≡ c → (event : Event) → KeepsHead (run opening before).now event → (levels_of (happens (run opening before) event).now.words).head ≡ (levels_of (run opening before).now.words).head
    by_crash true over event keeps = ap (λ (x : World). (levels_of x.now.words).head) (is_over (run opening before) event over)
    by_crash false alive (Moves number) keeps = moved_stays opening start before number (slice_get (run opening before).now.sessions number) opened alive refl
    by_crash false alive (KeeperMoves granted done) keeps =
        ap (λ (words : List ℕ). (levels_of words).head) (keeper_writes (run opening before) granted done alive)
        ∙ left_there (run opening before).now.words (keeper_ask (run opening before).now.shape (run opening before).now.places (run opening before).now.keeper) keeps
    by_crash false alive (Calls number call) keeps = unnamed_word (run opening before) (Calls number call) (shared_place one.Head) (λ e. cc)
    by_crash false alive (Commits kind) keeps = unnamed_word (run opening before) (Commits kind) (shared_place one.Head) (λ e. cc)
    by_crash false alive TurnsCall keeps = unnamed_word (run opening before) TurnsCall (shared_place one.Head) (λ e. cc)
    by_crash false alive Crashes keeps = unnamed_word (run opening before) Crashes (shared_place one.Head) (λ e. cc)
