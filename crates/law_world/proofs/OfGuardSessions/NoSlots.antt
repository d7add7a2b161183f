-- A session that sits in a sound world of the guard asks for no slot's action: what goes with an ask goes with it at once.
use Rattle.std.proofs.Common.{◌≡◌, ℕ, ◌∙◌, List, refl, ap, subst, false}
use Rattle.std.specs.Prelude.{Some, slice_get}
use Rattle.fkv_plane.specs.declared.actions.Action.TheVariants as act
use Rattle.fkv_plane.specs.declared.asks.Ask.{Ask}
use Rattle.fkv_plane.specs.declared.asks.Ask.TheVariants.{Put, Take}
use Rattle.fkv_plane.specs.declared.places.Places.{Places}
use Rattle.fkv_epoch.specs.declared.protecting.Protecting.{Protecting}
use Rattle.fkv_epoch.specs.declared.protecting.Protecting.TheVariants as protect
use Rattle.fkv_epoch.specs.declared.refreshing.Refreshing.{Refreshing}
use Rattle.fkv_epoch.specs.declared.refreshing.Refreshing.TheVariants as refresh
use Rattle.fkv_epoch.specs.declared.leaving.Leaving.{Leaving}
use Rattle.fkv_epoch.specs.declared.leaving.Leaving.TheVariants as leave
use Rattle.fkv_epoch.specs.declared.claiming.Claiming.{Claiming}
use Rattle.fkv_epoch.specs.declared.claiming.Claiming.TheVariants as claim
use Rattle.fkv_epoch.specs.declared.raising.Raising.{Raising}
use Rattle.fkv_epoch.specs.declared.raising.Raising.TheVariants as raise
use Rattle.fkv_epoch.specs.declared.arming.Arming.{Arming}
use Rattle.fkv_epoch.specs.declared.arming.Arming.TheVariants as arm
use Rattle.fkv_epoch.specs.Protecting.{protect_ask}
use Rattle.fkv_epoch.specs.Refreshing.{refresh_ask}
use Rattle.fkv_epoch.specs.Leaving.{leave_ask}
use Rattle.fkv_epoch.specs.Scanning.{scan_ask}
use Rattle.fkv_epoch.specs.Claiming.{claim_ask}
use Rattle.fkv_epoch.specs.Raising.{raise_ask}
use Rattle.fkv_epoch.specs.Arming.{arm_ask}
use Rattle.fkv_epoch.specs.EpochWorld as epochs
use Rattle.fkv_log.specs.declared.moving.MoveAnswer.TheVariants as moved
use Rattle.fkv_log.specs.declared.moving.Moving.{Moving}
use Rattle.fkv_log.specs.declared.moving.Moving.TheVariants as move
use Rattle.fkv_log.specs.declared.shifting.ShiftAnswer.TheVariants as shifted
use Rattle.fkv_log.specs.declared.shifting.Shifting.{Shifting}
use Rattle.fkv_log.specs.declared.shifting.Shifting.TheVariants as shift
use Rattle.fkv_log.specs.declared.turning.TurnForm.TheVariants.{OpensOnly}
use Rattle.fkv_log.specs.declared.turning.Turning.{Turning}
use Rattle.fkv_log.specs.declared.turning.Turning.TheVariants as turn
use Rattle.fkv_log.specs.Moving.{Mover, moving_ask, move_ask}
use Rattle.fkv_log.specs.Shifting.{shift_ask, shifting_ask}
use Rattle.fkv_log.specs.Turning.{turn_ask, turning_ask}
use Rattle.fkv_base.specs.declared.shapes.Shape.{Shape}
use Rattle.fkv_latch.specs.declared.latching.Latching.{Latching}
use Rattle.fkv_latch.specs.Latching.{latch_ask}
use Rattle.fkv_pending.specs.declared.attempting.Attempting.{Attempting}
use Rattle.fkv_pending.specs.declared.mailing.Mailing.{Mailing}
use Rattle.fkv_pending.specs.declared.pending_requests.PendingRequest.{PendingRequest}
use Rattle.fkv_pending.specs.Attempting.{AttemptState, attempting_ask, attempt_ask}
use Rattle.fkv_pending.specs.Mailing.{mail_ask}
use Rattle.fkv_session.specs.declared.answers.Told.TheVariants as told
use Rattle.fkv_session.specs.declared.catching_up.Catching.{Catching}
use Rattle.fkv_session.specs.declared.catching_up.Catching.TheVariants as catching
use Rattle.fkv_session.specs.declared.own_turns.OwnTurning.{OwnTurning}
use Rattle.fkv_session.specs.declared.own_turns.OwnTurning.TheVariants as turning
use Rattle.fkv_session.specs.declared.sessions.Sitting.{Sitting}
use Rattle.fkv_session.specs.declared.sessions.Sitting.TheVariants.{Idle, Attempts, CatchesUp, ClearsMail, Polls, StoresOwing, Turns, StoresCut, Leaves, LoadsDurable}
use Rattle.fkv_session.specs.CatchingUp.{CatchState, catching_ask, catch_ask}
use Rattle.fkv_session.specs.OwnTurns.{OwnTurnState, own_turning_ask, own_turn_ask}
use Rattle.fkv_session.specs.Sessions.{SessionState, sitting_ask, session_ask}
use Rattle.fkv_flush.specs.GuardLevels.{levels_of}
use Rattle.fkv_flush.specs.GuardSeen.{LastSeen}
use Rattle.fkv_flush.specs.GuardSlots.{FindsSlots}
use Rattle.fkv_flush.specs.GuardWorld as guard
use Rattle.fkv_flush.specs.GuardWorld.{Actor, Work, GuardWorld, Moves}
use Rattle.fkv_flush.proofs.Shown.{IsSound, Knows, Awake, MoveKnows, ShiftKnows, Fits, finds_slots}
use Rattle.law_world.specs.GuardSessions.Followed.{Sits, seat_in}
use Rattle.law_world.specs.GuardSessions.Likenesses.{last_seen}
use Rattle.law_world.specs.GuardSessions.OwnTurns.{own_turn_likeness_at}
use Rattle.law_world.specs.GuardSessions.Rows.{IsOpening, OwnTurnKnows, SittingKnows}
use Rattle.law_world.specs.GuardSessions.Sessions.{sitting_likeness}
use Rattle.law_world.specs.GuardKeeper.Settled.{is_of_slot}
use Rattle.law_world.proofs.OfGuardKeeper.Slots.{passed_slot}
use Rattle.law_world.proofs.OfGuardSessions.OwnTurns.{scan_slot, claiming_is, work_is}
use Rattle.law_world.proofs.OfGuardSessions.OwnTurnsLed.{shift_asking}
use Rattle.law_world.proofs.OfRuns.NoSlots.{IsOffSlots, attempt_off_slots, latch_off, mail_off}

-- an ask off the slots
off_slot : {A : Type 0} (ask : Ask A) → IsOffSlots ask → is_of_slot ask ≡ false
off_slot (Put slot action) off = absurd off
off_slot (Take slot) off = absurd off
off_slot ask off = refl

mail_slot : (number : ℕ) (m : Mailing) → is_of_slot (mail_ask number m) ≡ false
mail_slot number m = off_slot (mail_ask number m) (mail_off number m)

latch_slot : (l : Latching) → is_of_slot (latch_ask l) ≡ false
latch_slot l = off_slot (latch_ask l) (latch_off l)

attempt_slot : (p : Places) (number : ℕ) (a : AttemptState) (step : Attempting) → is_of_slot (attempting_ask p number a step) ≡ false
attempt_slot p number a step = off_slot (attempting_ask p number a step) (attempt_off_slots p number a step)

refresh_slot : (number : ℕ) (r : Refreshing) → is_of_slot (refresh_ask number r) ≡ false
unfolding refresh_ask
refresh_slot number refresh.AtRest = refl
refresh_slot number r = refl

protect_slot : (number : ℕ) (r : Protecting) → is_of_slot (protect_ask number r) ≡ false
unfolding protect_ask
protect_slot number protect.AtRest = refl
protect_slot number r = refl

leave_slot : (number : ℕ) (l : Leaving) → is_of_slot (leave_ask number l) ≡ false
unfolding leave_ask
leave_slot number leave.AtRest = refl
leave_slot number l = refl

catch_slot : (p : Places) (number : ℕ) (c : CatchState) (requests : List PendingRequest) (step : Catching) → is_of_slot (catching_ask p number c requests step) ≡ false
unfolding catching_ask
catch_slot p number c requests catching.Ended = refl
catch_slot p number c requests catching.Refreshes = passed_slot {B = Unit {0}} (refresh_ask number c.refreshing) tt ∙ refresh_slot number c.refreshing
catch_slot p number c requests catching.Protects = passed_slot {B = Unit {0}} (protect_ask number c.protecting) tt ∙ protect_slot number c.protecting
catch_slot p number c requests catching.StoresCut = refl
catch_slot p number c requests catching.StoresOwing = refl
catch_slot p number c requests (catching.Latches index) = passed_slot {B = Unit {0}} (latch_ask c.latching) tt ∙ latch_slot c.latching
catch_slot p number c requests catching.Finishes = passed_slot {B = Unit {0}} (refresh_ask number c.refreshing) tt ∙ refresh_slot number c.refreshing

-- nobody waits for the action of a slot
claim_slot : (c : Claiming) → ((slot epoch safe : ℕ) → c ≡ claim.Receives slot epoch safe → ⊥) → is_of_slot (claim_ask c) ≡ false
unfolding claim_ask
claim_slot claim.AtRest waits = refl
claim_slot (claim.MeetsSlot slot safe) waits = refl
claim_slot (claim.LoadsSafe slot word) waits = refl
claim_slot (claim.TakesSlot slot word safe) waits = refl
claim_slot (claim.Receives slot epoch safe) waits = absurd (waits slot epoch safe refl)
claim_slot (claim.Runs slot epoch safe (act.SafeReadOnly addr)) waits = refl
claim_slot (claim.Runs slot epoch safe (act.Close addr)) waits = refl
claim_slot (claim.Runs slot epoch safe (act.Phase phase version)) waits = refl
claim_slot (claim.FreesSlot slot safe) waits = refl

raise_slot : (r : Raising) → is_of_slot (raise_ask r) ≡ false
unfolding raise_ask
raise_slot raise.AtRest = refl
raise_slot r = refl

arm_slot : (r : Arming) → is_of_slot (arm_ask r) ≡ false
unfolding arm_ask
arm_slot arm.AtRest = refl
arm_slot r = refl

open_slot : (shape : Shape) (t : Turning) (m : Mover) → IsOpening t → is_of_slot (turning_ask shape t m) ≡ false
unfolding turning_ask
open_slot shape (turn.LoadsLimit OpensOnly tail) m opening = refl
open_slot shape (turn.LoadsClosed OpensOnly limit) m opening = refl
open_slot shape (turn.RaisesLimit limit) m opening = refl
open_slot shape t m opening = absurd opening

module _ (w : GuardWorld) (number : ℕ) (x : Actor) (sound : IsSound w) (got : slice_get w.now.actors number ≡ Some x) where
  move_slot : (step : Moving) (raising : Raising) (arming : Arming) → MoveKnows (levels_of w.now.words) x.machine step raising arming → is_of_slot (moving_ask step raising arming) ≡ false
  unfolding moving_ask
  move_slot move.AtRest raising arming knows = refl
  move_slot (move.Raises target) raising arming knows = passed_slot (raise_ask raising) moved.Through ∙ raise_slot raising
  move_slot (move.MovesOffset target) raising arming knows = refl
  move_slot (move.Puts target slot) raising arming knows = absurd knows
  move_slot move.Arms raising arming knows = passed_slot (arm_ask arming) moved.Through ∙ arm_slot arming

  shift_slot : (step : Shifting) (m : Mover) → ShiftKnows (levels_of w.now.words) x.machine step m → is_of_slot (shifting_ask step m) ≡ false
  unfolding shifting_ask
  shift_slot shift.AtRest m knows = refl
  shift_slot shift.LoadsTail m knows = refl
  shift_slot (shift.LoadsReadOnly tail) m knows = refl
  shift_slot (shift.Moves tail) m knows = passed_slot (move_ask m) (shifted.Through (record { 0 = tail })) ∙ move_slot m.step m.raising m.arming knows

  turn_slot : (seen : LastSeen) (o : OwnTurnState) (step : OwnTurning) → OwnTurnKnows o step → Fits (own_turn_likeness_at seen o step) x → is_of_slot (own_turning_ask w.now.shape o step) ≡ false
  unfolding own_turning_ask
  turn_slot seen o turning.Ended knows fits = refl
  turn_slot seen o turning.Scans knows fits = passed_slot {B = Unit {0}} (scan_ask o.scanning) tt ∙ scan_slot o.scanning
  turn_slot seen o turning.Claims knows fits =
      let finds : FindsSlots w (Moves number) = finds_slots w (Moves number) sound in
      passed_slot {B = Unit {0}} (claim_ask o.claiming) tt
      ∙ claim_slot o.claiming (λ slot epoch safe same. finds.waits number slot epoch safe x got (claiming_is o.claiming x.machine knows fits.machine ∙ ap epochs.Claims same))
  turn_slot seen o turning.Shifts knows fits =
      let its : x.work ≡ guard.Shifts o.shift = work_is o.shift x.work (shift_asking o.shift.step o.shift.mover knows) fits.work in
      let known : ShiftKnows (levels_of w.now.words) x.machine o.shift.step o.shift.mover =
      subst (λ (work : Work). Knows w.now.shape (levels_of w.now.words) (Awake w.now number x.machine) x.machine x.undecided work) its (sound.knows number x got) in
      passed_slot {B = Unit {0}} (shift_ask o.shift) tt ∙ shift_slot o.shift.step o.shift.mover known
  turn_slot seen o turning.Opens knows fits = passed_slot {B = Unit {0}} (turn_ask w.now.shape o.turn) tt ∙ open_slot w.now.shape o.turn.step o.turn.mover knows.1

  sitting_slot : (s : SessionState) (step : Sitting) → SittingKnows s step → Fits (sitting_likeness s step) x → is_of_slot (sitting_ask (seat_in w.now number) s step) ≡ false
  unfolding sitting_ask
  sitting_slot s (Idle its) knows fits = refl
  sitting_slot s (Attempts has_shifted) knows fits = passed_slot (attempt_ask w.now.places number s.attempt) told.Slept ∙ attempt_slot w.now.places number s.attempt s.attempt.step
  sitting_slot s (CatchesUp cause) knows fits = passed_slot (catch_ask w.now.places number s.catching s.requests) told.Slept ∙ catch_slot w.now.places number s.catching s.requests s.catching.step
  sitting_slot s ClearsMail knows fits = passed_slot (mail_ask number s.mailing) told.Slept ∙ mail_slot number s.mailing
  sitting_slot s (Polls index) knows fits = passed_slot (attempt_ask w.now.places number s.attempt) told.Slept ∙ attempt_slot w.now.places number s.attempt s.attempt.step
  sitting_slot s (StoresOwing index) knows fits = refl
  sitting_slot s (Turns its) knows fits = passed_slot (own_turn_ask w.now.shape s.own_turn) its ∙ turn_slot (last_seen s.seen) s.own_turn s.own_turn.step knows fits
  sitting_slot s StoresCut knows fits = refl
  sitting_slot s Leaves knows fits = passed_slot (leave_ask number s.leaving) told.Slept ∙ leave_slot number s.leaving
  sitting_slot s LoadsDurable knows fits = refl

pub session_slot : (w : GuardWorld) (number : ℕ) (x : Actor) (s : SessionState) → Sits w number x s → is_of_slot (session_ask (seat_in w.now number) s) ≡ false
session_slot w number x s sits = sitting_slot w number x sits.sound sits.got s s.step sits.knows sits.fits
