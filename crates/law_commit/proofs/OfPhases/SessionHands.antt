-- A session has an action in hand only right behind the claim of its slot, and puts none that stores a phase.
use Rattle.std.proofs.Common.{◌≡◌, ℕ, ◌+◌, ◌∙◌, refl, sym, subst, List, Bool, true, false}
use Rattle.std.specs.Prelude.{if◌then◌else◌, ◌==◌, nat_lt, ⊤, Option, Some, None}
use Rattle.fkv_map.specs.declared.operations.Call.{Call}
use Rattle.fkv_plane.specs.declared.actions.Action.{Action}
use Rattle.fkv_plane.specs.declared.asks.Ask.{Ask}
use Rattle.fkv_plane.specs.declared.asks.Ask.TheVariants.{Done}
use Rattle.fkv_plane.specs.declared.places.Places.{Places}
use Rattle.fkv_epoch.specs.Leaving.{leave_next}
use Rattle.law_refine.specs.Below.fkv_pending.PendingRequest.{PendingRequest}
use Rattle.law_refine.specs.Below.fkv_pending.Mailing.{mail_next}
use Rattle.law_refine.specs.Below.fkv_session.Told.{Told}
use Rattle.law_refine.specs.Below.fkv_session.Sitting.{Sitting}
use Rattle.law_refine.specs.Below.fkv_session.Sitting.TheVariants.{Idle, Attempts, CatchesUp, ClearsMail, Polls, StoresOwing, Turns, StoresCut, Leaves, LoadsDurable}
use Rattle.law_refine.specs.Below.fkv_session.OwnTurns.{own_turn_given}
use Rattle.law_refine.specs.Below.fkv_session.Sessions.{SessionState, Seat, attempts, shifts, turn_ledto, attempt_moved, caught, own_turn_moved, sitting_ask, session_ask, sitting_next, session_next, sitting_given, session_given, session_begun, asks_after, is_word_ask}
use Rattle.fkv_base.specs.Limits.{drain_slots}
use Rattle.fkv_base.specs.declared.shapes.Shape.{Shape}
use Rattle.fkv_plane.specs.declared.actions.Action.TheVariants as act
use Rattle.fkv_plane.specs.declared.asks.Ask.TheVariants.{Put}
use Rattle.fkv_plane.specs.Passing.{passed}
use Rattle.fkv_epoch.specs.declared.arming.Arming.{Arming}
use Rattle.fkv_epoch.specs.declared.arming.Arming.TheVariants as arm
use Rattle.fkv_epoch.specs.declared.claiming.Claiming.{Claiming}
use Rattle.fkv_epoch.specs.declared.claiming.Claiming.TheVariants as claim
use Rattle.fkv_epoch.specs.declared.leaving.Leaving.{Leaving}
use Rattle.fkv_epoch.specs.declared.leaving.Leaving.TheVariants as leave
use Rattle.fkv_epoch.specs.declared.protecting.Protecting.{Protecting}
use Rattle.fkv_epoch.specs.declared.protecting.Protecting.TheVariants as protect
use Rattle.fkv_epoch.specs.declared.raising.Raising.{Raising}
use Rattle.fkv_epoch.specs.declared.raising.Raising.TheVariants as raise
use Rattle.fkv_epoch.specs.declared.refreshing.Refreshing.{Refreshing}
use Rattle.fkv_epoch.specs.declared.refreshing.Refreshing.TheVariants as refresh
use Rattle.fkv_epoch.specs.declared.scanning.Scanning.{Scanning}
use Rattle.fkv_epoch.specs.declared.scanning.Scanning.TheVariants as scan
use Rattle.fkv_epoch.specs.Arming.{arm_ask}
use Rattle.fkv_epoch.specs.Claiming.{claim_ask, claim_given, claim_next, run_of, slot_after, slot_armed}
use Rattle.fkv_epoch.specs.Leaving.{leave_ask}
use Rattle.fkv_epoch.specs.Protecting.{protect_ask}
use Rattle.fkv_epoch.specs.Raising.{raise_ask}
use Rattle.fkv_epoch.specs.Refreshing.{refresh_ask}
use Rattle.fkv_epoch.specs.Scanning.{scan_ask, scan_next}
use Rattle.law_refine.specs.Below.fkv_log.TheMoving.{Moving}
use Rattle.law_refine.specs.Below.fkv_log.TheMoving.TheVariants as move
use Rattle.law_refine.specs.Below.fkv_log.MoveAnswer.{MoveAnswer}
use Rattle.law_refine.specs.Below.fkv_log.Offset.{Offset}
use Rattle.law_refine.specs.Below.fkv_log.Offset.TheVariants.{Head, ReadOnly}
use Rattle.law_refine.specs.Below.fkv_log.ShiftAnswer.{ShiftAnswer}
use Rattle.law_refine.specs.Below.fkv_log.TheShifting.{Shifting}
use Rattle.law_refine.specs.Below.fkv_log.TheShifting.TheVariants as shift
use Rattle.law_refine.specs.Below.fkv_log.TheTurning.{Turning}
use Rattle.law_refine.specs.Below.fkv_log.TheTurning.TheVariants as turn
use Rattle.law_refine.specs.Below.fkv_log.Moving.{Mover, action_awaited, moving_ask}
use Rattle.law_refine.specs.Below.fkv_log.Shifting.{shift_next, shifting_ask}
use Rattle.law_refine.specs.Below.fkv_log.Turning.{turn_next, turning_ask}
use Rattle.law_refine.specs.Below.fkv_session.Catching.{Catching}
use Rattle.law_refine.specs.Below.fkv_session.Catching.TheVariants as catching
use Rattle.law_refine.specs.Below.fkv_session.OwnTurning.{OwnTurning}
use Rattle.law_refine.specs.Below.fkv_session.OwnTurning.TheVariants as turning
use Rattle.law_refine.specs.Below.fkv_session.CatchingUp.{CatchState, catching_ask}
use Rattle.law_refine.specs.Below.fkv_session.OwnTurns.{OwnTurnState, claim_ledto, open_ledto, own_turning_ask, own_turning_given, own_turning_next, scan_ledto, shift_ledto}
use Rattle.law_refine.proofs.Below.law_world.OfRuns.NoSlots.{IsOffSlots, attempt_off_slots, latch_off, mail_off}
use Rattle.law_commit.specs.Phases.Staged.{claim_hand, phase_in, session_hand, sitting_hand, turn_hand}
use Rattle.law_commit.proofs.SessionSteps.{HoldsBegun, attempt_holds, begun_holds, catch_holds, clear_holds, leave_holds, poll_holds, polls_hold}

abbrev HasNone : SessionState → Type 0
HasNone s = session_hand s ≡ None

-- ---- a claim
either_claim : (c : Bool) (a b : Claiming) → claim_hand a ≡ None → claim_hand b ≡ None → claim_hand (if c then a else b) ≡ None
either_claim true a b one other = one
either_claim false a b one other = other

after_none : (slot : ℕ) (safe : Option ℕ) → claim_hand (slot_after slot safe) ≡ None
unfolding slot_after
after_none slot safe = either_claim (nat_lt (slot + 1) drain_slots) (claim.MeetsSlot (slot + 1) safe) claim.AtRest refl refl

armed_none : (slot word safe : ℕ) → claim_hand (slot_armed slot word safe) ≡ None
unfolding slot_armed
armed_none slot word safe = either_claim _ (claim.TakesSlot slot word safe) (slot_after slot (Some safe)) refl (after_none slot (Some safe))

pub claim_next_none : (step : Claiming) (reply : ℕ) → claim_hand (claim_next step reply) ≡ None
unfolding claim_next
claim_next_none claim.AtRest reply = refl
claim_next_none (claim.MeetsSlot slot None) reply = either_claim (nat_lt reply 2) (slot_after slot None) (claim.LoadsSafe slot reply) (after_none slot None) refl
claim_next_none (claim.MeetsSlot slot (Some safe)) reply = either_claim (nat_lt reply 2) (slot_after slot (Some safe)) (slot_armed slot reply safe) (after_none slot (Some safe)) (armed_none slot reply safe)
claim_next_none (claim.LoadsSafe slot word) reply = armed_none slot word reply
claim_next_none (claim.TakesSlot slot word safe) reply = either_claim (reply == word) _ (slot_after slot (Some safe)) refl (after_none slot (Some safe))
claim_next_none (claim.Receives slot epoch safe) reply = refl
claim_next_none (claim.Runs slot epoch safe action) reply = refl
claim_next_none (claim.FreesSlot slot safe) reply = after_none slot (Some safe)

-- what it is given it has in hand
pub claim_given_hand : (step : Claiming) (action : Action) (its : Action) → claim_hand step ≡ None → claim_hand (claim_given step action) ≡ Some its → its ≡ action
unfolding claim_given
claim_given_hand (claim.Receives slot epoch safe) action its none is = let same : ◌≡◌ {A = Option Action} (Some action) (Some its) = is in cc
claim_given_hand step action its none is = let clash : None ≡ Some its = sym none ∙ is in cc

-- ---- the session's own turn
turn_stays : (o : OwnTurnState) (step : OwnTurning) → o.step ≡ step → turn_hand o step ≡ None → turn_hand o o.step ≡ None
turn_stays o step at none = subst (λ x. turn_hand o x ≡ None) (sym at) none

scan_none : (o : OwnTurnState) (ask : Ask (Unit {0})) → o.step ≡ turning.Scans → turn_hand (scan_ledto o ask) (scan_ledto o ask).step ≡ None
unfolding scan_ledto
scan_none o (Done its) at = refl
scan_none o ask at = turn_stays o turning.Scans at refl

claims_none : (o : OwnTurnState) (ask : Ask (Unit {0})) → o.step ≡ turning.Claims → claim_hand o.claiming ≡ None → turn_hand (claim_ledto o ask) (claim_ledto o ask).step ≡ None
unfolding claim_ledto
claims_none o (Done its) at none = refl
claims_none o ask at none = turn_stays o turning.Claims at none

shifts_none : (o : OwnTurnState) (ask : Ask ShiftAnswer) → o.step ≡ turning.Shifts → turn_hand (shift_ledto o ask) (shift_ledto o ask).step ≡ None
unfolding shift_ledto
shifts_none o (Done its) at = refl
shifts_none o ask at = turn_stays o turning.Shifts at refl

opens_none : (o : OwnTurnState) (ask : Ask MoveAnswer) → o.step ≡ turning.Opens → turn_hand (open_ledto o ask) (open_ledto o ask).step ≡ None
unfolding open_ledto
opens_none o (Done its) at = refl
opens_none o ask at = turn_stays o turning.Opens at refl

turning_none : (shape : Shape) (o : OwnTurnState) (step : OwnTurning) (reply : ℕ) → o.step ≡ step → turn_hand (own_turning_next shape o step reply) (own_turning_next shape o step reply).step ≡ None
unfolding own_turning_next
turning_none shape o turning.Ended reply at = turn_stays o turning.Ended at refl
turning_none shape o turning.Scans reply at = scan_none (record o { scanning = scan_next shape.sessions o.scanning reply }) _ at
turning_none shape o turning.Claims reply at = claims_none (record o { claiming = claim_next o.claiming reply }) _ at (claim_next_none o.claiming reply)
turning_none shape o turning.Shifts reply at = shifts_none (record o { shift = shift_next shape o.shift reply }) _ at
turning_none shape o turning.Opens reply at = opens_none (record o { turn = turn_next shape o.turn reply }) _ at

-- an action that it is given
claims_hand : (o : OwnTurnState) (ask : Ask (Unit {0})) (action its : Action) → o.step ≡ turning.Claims → (claim_hand o.claiming ≡ Some its → its ≡ action) → turn_hand (claim_ledto o ask) (claim_ledto o ask).step ≡ Some its → its ≡ action
unfolding claim_ledto
claims_hand o (Done told) action its at same is = cc
claims_hand o ask action its at same is = same (subst (λ x. turn_hand o x ≡ Some its) at is)

turning_given_hand : (o : OwnTurnState) (step : OwnTurning) (action its : Action) → o.step ≡ step → turn_hand o step ≡ None → turn_hand (own_turning_given o step action) (own_turning_given o step action).step ≡ Some its → its ≡ action
unfolding own_turning_given
turning_given_hand o turning.Claims action its at none is = claims_hand (record o { claiming = claim_given o.claiming action }) (claim_ask (claim_given o.claiming action)) action its at (claim_given_hand o.claiming action its none) is
turning_given_hand o turning.Ended action its at none is = let clash : None ≡ Some its = sym (turn_stays o turning.Ended at refl) ∙ is in cc
turning_given_hand o turning.Scans action its at none is = let clash : None ≡ Some its = sym (turn_stays o turning.Scans at refl) ∙ is in cc
turning_given_hand o turning.Shifts action its at none is = let clash : None ≡ Some its = sym (turn_stays o turning.Shifts at refl) ∙ is in cc
turning_given_hand o turning.Opens action its at none is = let clash : None ≡ Some its = sym (turn_stays o turning.Opens at refl) ∙ is in cc

-- ---- a session
stays_none : (s : SessionState) (step : Sitting) → s.step ≡ step → sitting_hand s step ≡ None → HasNone s
stays_none s step at none = subst (λ x. sitting_hand s x ≡ None) (sym at) none

attempts_none : (k : Seat) (s : SessionState) (has_shifted : Bool) → HasNone (attempts k s has_shifted)
unfolding attempts
attempts_none k s has_shifted = refl

shifted_none : (s : SessionState) → HasNone (shifts s false)
unfolding shifts
shifted_none s = refl

begun : (k : Seat) → HoldsBegun k (λ s step. sitting_hand s step ≡ None)
begun k = record { answered = λ s its other. refl; turns = λ s its other. refl; tries = λ s has_shifted. attempts_none k s has_shifted; polls = λ s index pending. refl; shifted = λ s. shifted_none s; owes = λ s index. refl }

turn_ledto_none : (s : SessionState) (its : Told) (ask : Ask (Unit {0})) → s.step ≡ Turns its → turn_hand s.own_turn s.own_turn.step ≡ None → HasNone (turn_ledto s its ask)
unfolding turn_ledto
turn_ledto_none s its (Done through) at spared = refl
turn_ledto_none s its ask at spared = stays_none s (Turns its) at spared

next_none : (k : Seat) (s : SessionState) (step : Sitting) (reply : ℕ) → s.step ≡ step → HasNone (sitting_next k s step reply)
unfolding sitting_next
next_none k s (Idle its) reply at = stays_none s (Idle its) at refl
next_none k s (Attempts has_shifted) reply at = attempt_holds k (λ s step. sitting_hand s step ≡ None) (begun k) (attempt_moved k s reply) has_shifted _ at refl
next_none k s (CatchesUp cause) reply at = catch_holds k (λ s step. sitting_hand s step ≡ None) (begun k) (caught k s reply) cause _ at refl
next_none k s ClearsMail reply at = clear_holds k (λ s step. sitting_hand s step ≡ None) (begun k) (record s { mailing = mail_next s.mailing reply }) _ at refl
next_none k s (Polls index) reply at = poll_holds k (λ s step. sitting_hand s step ≡ None) (begun k) (attempt_moved k s reply) index _ at refl
next_none k s (StoresOwing index) reply at = polls_hold k (λ s step. sitting_hand s step ≡ None) (begun k) s index
next_none k s (Turns its) reply at = turn_ledto_none (own_turn_moved k s reply) its _ at (turning_none k.shape s.own_turn s.own_turn.step reply refl)
next_none k s StoresCut reply at = refl
next_none k s Leaves reply at = leave_holds k (λ s step. sitting_hand s step ≡ None) (begun k) (record s { leaving = leave_next s.leaving }) _ at refl
next_none k s LoadsDurable reply at = refl

pub session_next_none : (k : Seat) (s : SessionState) (reply : ℕ) → HasNone (session_next k s reply)
session_next_none k s reply = next_none k (record s { asks = asks_after s.asks (is_word_ask (session_ask k s)); effect = None }) s.step reply refl

turn_led_hand : (s : SessionState) (told : Told) (ask : Ask (Unit {0})) (action its : Action) → s.step ≡ Turns told → (turn_hand s.own_turn s.own_turn.step ≡ Some its → its ≡ action) → session_hand (turn_ledto s told ask) ≡ Some its → its ≡ action
unfolding turn_ledto
turn_led_hand s told (Done through) action its at same is = cc
turn_led_hand s told ask action its at same is = same (subst (λ x. sitting_hand s x ≡ Some its) at is)

given_hand : (k : Seat) (s : SessionState) (step : Sitting) (action its : Action) → s.step ≡ step → sitting_hand s step ≡ None → session_hand (sitting_given k s step action) ≡ Some its → its ≡ action
unfolding sitting_given
given_hand k s (Turns told) action its at none is =
    turn_led_hand (record s { own_turn = own_turn_given s.own_turn action }) told _ action its at (turning_given_hand s.own_turn s.own_turn.step action its refl none) is
given_hand k s step action its at none is = let clash : None ≡ Some its = sym (stays_none s step at none) ∙ is in cc

-- what is in hand behind a claim is the action of the slot
pub session_given_hand : (k : Seat) (s : SessionState) (action its : Action) → HasNone s → session_hand (session_given k s action) ≡ Some its → its ≡ action
session_given_hand k s action its none is = given_hand k s s.step action its refl none is

-- a call
pub begun_none : (k : Seat) (s : SessionState) (its : Call) → HasNone (session_begun k s its)
begun_none k s its = begun_holds k (λ s step. sitting_hand s step ≡ None) (begun k) (record { refreshes = λ s. refl; wakes = λ s. refl; clears = λ s. refl; cuts = λ s. refl; loads = λ s. refl }) s its

-- ---- what it puts into a slot stores no phase
abbrev pub PutsNone : {A : Type 0} → Ask A → Type 0
PutsNone (Put slot action) = phase_in (Some action) ≡ None
PutsNone ask = ⊤

pub passed_puts : {A B : Type 0} (ask : Ask A) (its : B) → PutsNone ask → PutsNone (passed ask its)
unfolding passed
passed_puts (Put slot action) its none = none
passed_puts ask its none = tt

off_puts : {A : Type 0} (ask : Ask A) → IsOffSlots ask → PutsNone ask
off_puts (Put slot action) off = absurd off
off_puts ask off = tt

awaited_none : (offset : Offset) (to : ℕ) → phase_in (Some (action_awaited offset to)) ≡ None
awaited_none ReadOnly to = refl
awaited_none Head to = refl

pub raise_puts : (step : Raising) → PutsNone (raise_ask step)
unfolding raise_ask
raise_puts raise.AtRest = tt
raise_puts (raise.HasSlot slot) = tt
raise_puts step = tt

pub arm_puts : (step : Arming) → PutsNone (arm_ask step)
unfolding arm_ask
arm_puts (arm.StoresEpoch slot epoch) = tt
arm_puts step = tt

move_puts : (step : Moving) (raising : Raising) (arming : Arming) → PutsNone (moving_ask step raising arming)
unfolding moving_ask
move_puts move.AtRest raising arming = tt
move_puts (move.Raises target) raising arming = passed_puts (raise_ask raising) _ (raise_puts raising)
move_puts (move.MovesOffset target) raising arming = tt
move_puts (move.Puts target slot) raising arming = awaited_none target.offset target.to
move_puts move.Arms raising arming = passed_puts (arm_ask arming) _ (arm_puts arming)

pub shift_puts : (step : Shifting) (m : Mover) → PutsNone (shifting_ask step m)
unfolding shifting_ask
shift_puts shift.AtRest m = tt
shift_puts shift.LoadsTail m = tt
shift_puts (shift.LoadsReadOnly tail) m = tt
shift_puts (shift.Moves tail) m = passed_puts (moving_ask m.step m.raising m.arming) _ (move_puts m.step m.raising m.arming)

pub turn_puts : (shape : Shape) (step : Turning) (m : Mover) → PutsNone (turning_ask shape step m)
unfolding turning_ask
turn_puts shape turn.AtRest m = tt
turn_puts shape (turn.LoadsLimit form tail) m = tt
turn_puts shape (turn.LoadsClosed form limit) m = tt
turn_puts shape (turn.RaisesLimit limit) m = tt
turn_puts shape (turn.LoadsHead end) m = tt
turn_puts shape (turn.LoadsFlushed end) m = tt
turn_puts shape turn.Moves m = passed_puts (moving_ask m.step m.raising m.arming) _ (move_puts m.step m.raising m.arming)

pub scan_puts : (step : Scanning) → PutsNone (scan_ask step)
unfolding scan_ask
scan_puts scan.AtRest = tt
scan_puts step = tt

run_puts : (action : Action) → PutsNone (run_of action)
run_puts (act.SafeReadOnly addr) = tt
run_puts (act.Close addr) = tt
run_puts (act.Phase phase version) = tt

pub claim_puts : (step : Claiming) → PutsNone (claim_ask step)
unfolding claim_ask
claim_puts claim.AtRest = tt
claim_puts (claim.Receives slot epoch safe) = tt
claim_puts (claim.Runs slot epoch safe action) = run_puts action
claim_puts step = tt

own_turn_puts : (shape : Shape) (o : OwnTurnState) (step : OwnTurning) → PutsNone (own_turning_ask shape o step)
unfolding own_turning_ask
own_turn_puts shape o turning.Ended = tt
own_turn_puts shape o turning.Scans = passed_puts (scan_ask o.scanning) _ (scan_puts o.scanning)
own_turn_puts shape o turning.Claims = passed_puts (claim_ask o.claiming) _ (claim_puts o.claiming)
own_turn_puts shape o turning.Shifts = passed_puts (shifting_ask o.shift.step o.shift.mover) _ (shift_puts o.shift.step o.shift.mover)
own_turn_puts shape o turning.Opens = passed_puts (turning_ask shape o.turn.step o.turn.mover) _ (turn_puts shape o.turn.step o.turn.mover)

refresh_puts : (n : ℕ) (step : Refreshing) → PutsNone (refresh_ask n step)
unfolding refresh_ask
refresh_puts n refresh.AtRest = tt
refresh_puts n step = tt

protect_puts : (n : ℕ) (step : Protecting) → PutsNone (protect_ask n step)
unfolding protect_ask
protect_puts n protect.AtRest = tt
protect_puts n step = tt

catch_puts : (p : Places) (n : ℕ) (c : CatchState) (requests : List PendingRequest) (step : Catching) → PutsNone (catching_ask p n c requests step)
unfolding catching_ask
catch_puts p n c requests catching.Ended = tt
catch_puts p n c requests catching.Refreshes = passed_puts (refresh_ask n c.refreshing) _ (refresh_puts n c.refreshing)
catch_puts p n c requests catching.Protects = passed_puts (protect_ask n c.protecting) _ (protect_puts n c.protecting)
catch_puts p n c requests catching.StoresCut = tt
catch_puts p n c requests catching.StoresOwing = tt
catch_puts p n c requests (catching.Latches index) = passed_puts _ _ (off_puts _ (latch_off c.latching))
catch_puts p n c requests catching.Finishes = passed_puts (refresh_ask n c.refreshing) _ (refresh_puts n c.refreshing)

leave_puts : (n : ℕ) (step : Leaving) → PutsNone (leave_ask n step)
unfolding leave_ask
leave_puts n leave.AtRest = tt
leave_puts n step = tt

sitting_puts : (k : Seat) (s : SessionState) (step : Sitting) → PutsNone (sitting_ask k s step)
unfolding sitting_ask
sitting_puts k s (Idle its) = tt
sitting_puts k s (Attempts has_shifted) = passed_puts _ _ (off_puts _ (attempt_off_slots k.places k.number s.attempt s.attempt.step))
sitting_puts k s (CatchesUp cause) = passed_puts _ _ (catch_puts k.places k.number s.catching s.requests s.catching.step)
sitting_puts k s ClearsMail = passed_puts _ _ (off_puts _ (mail_off k.number s.mailing))
sitting_puts k s (Polls index) = passed_puts _ _ (off_puts _ (attempt_off_slots k.places k.number s.attempt s.attempt.step))
sitting_puts k s (StoresOwing index) = tt
sitting_puts k s (Turns its) = passed_puts _ _ (own_turn_puts k.shape s.own_turn s.own_turn.step)
sitting_puts k s StoresCut = tt
sitting_puts k s Leaves = passed_puts _ _ (leave_puts k.number s.leaving)
sitting_puts k s LoadsDurable = tt

pub session_puts : (k : Seat) (s : SessionState) → PutsNone (session_ask k s)
session_puts k s = sitting_puts k s s.step
