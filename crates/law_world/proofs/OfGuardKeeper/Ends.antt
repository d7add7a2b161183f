-- Where a machine inside the keeper is at its end, nothing of the guard's is under way.
use Rattle.std.proofs.Common.{◌≡◌, ℕ, List, refl, ap, sym, subst, ◌∙◌, Bool, true, false}
use Rattle.std.specs.Prelude.{Option, Some, None, slice_get, ⊤}
use Rattle.fkv_base.specs.declared.shapes.Shape.{Shape}
use Rattle.fkv_plane.specs.declared.actions.Action.{Action}
use Rattle.fkv_plane.specs.declared.asks.Ask.{Ask}
use Rattle.fkv_plane.specs.declared.asks.Ask.TheVariants.{Done}
use Rattle.fkv_plane.specs.declared.places.Places.{Places}
use Rattle.fkv_plane.specs.Passing.{passed, is_done}
use Rattle.fkv_plane.proofs.Shown.{passed_done}
use Rattle.fkv_epoch.specs.declared.raising.Raising.{Raising}
use Rattle.fkv_epoch.specs.declared.raising.Raising.TheVariants as raise
use Rattle.fkv_epoch.specs.declared.arming.Arming.{Arming}
use Rattle.fkv_epoch.specs.declared.arming.Arming.TheVariants as arm
use Rattle.fkv_epoch.specs.Raising.{raise_ask}
use Rattle.fkv_epoch.specs.Arming.{arm_ask}
use Rattle.fkv_epoch.specs.Claiming.{claim_ask}
use Rattle.fkv_epoch.specs.Scanning.{scan_ask}
use Rattle.fkv_epoch.specs.EpochWorld.{EpochMachine, Scans, Claims, is_at_rest}
use Rattle.fkv_log.specs.declared.moving.Moving.{Moving}
use Rattle.fkv_log.specs.declared.moving.Moving.TheVariants as move
use Rattle.fkv_log.specs.declared.shifting.Shifting.{Shifting}
use Rattle.fkv_log.specs.declared.shifting.Shifting.TheVariants as shift
use Rattle.fkv_log.specs.declared.turning.Turning.{Turning}
use Rattle.fkv_log.specs.declared.turning.Turning.TheVariants as turn
use Rattle.fkv_log.specs.Moving.{Mover, move_ask, moving_ask}
use Rattle.fkv_log.specs.Shifting.{shifting_ask, shift_ask}
use Rattle.fkv_log.specs.Turning.{turning_ask, turn_ask}
use Rattle.fkv_commit.specs.declared.deferring.Deferring.TheVariants as defer
use Rattle.fkv_commit.specs.declared.entering.EnterAnswer.{EnterAnswer}
use Rattle.fkv_commit.specs.declared.entering.Entering.{Entering}
use Rattle.fkv_commit.specs.declared.entering.Entering.TheVariants as enter
use Rattle.fkv_commit.specs.declared.seeking.SeekAnswer.{SeekAnswer}
use Rattle.fkv_commit.specs.declared.seeking.Seeking.{Seeking}
use Rattle.fkv_commit.specs.declared.seeking.Seeking.TheVariants as seek
use Rattle.fkv_commit.specs.declared.starting.StartAnswer.{StartAnswer}
use Rattle.fkv_commit.specs.declared.starting.Starting.{Starting}
use Rattle.fkv_commit.specs.declared.starting.Starting.TheVariants as start
use Rattle.fkv_commit.specs.Deferring.{DeferState, defer_ask, deferring_ask}
use Rattle.fkv_commit.specs.Entering.{EnterState, entering_ask}
use Rattle.fkv_commit.specs.Seeking.{SeekState, seeking_ask}
use Rattle.fkv_commit.specs.Starting.{StartState, starting_ask}
use Rattle.fkv_flush.specs.declared.answers.DeviceAnswer.{DeviceAnswer}
use Rattle.fkv_flush.specs.declared.answers.DeviceAnswer.TheVariants as device
use Rattle.fkv_flush.specs.Flushing.{flush_ask}
use Rattle.fkv_flush.specs.Serving.{serve_ask}
use Rattle.fkv_flush.specs.GuardLevels.{Levels, levels_of}
use Rattle.fkv_flush.specs.GuardWorld.{Actor, Work, Flushes, Serves, GuardNow, GuardWorld, GuardEvent, near, put_near, is_idle, shift_rests, turn_rests, guard_run}
use Rattle.fkv_flush.proofs.Shown.{run_now, put_there, Likeness, FitsWork, Follows, MoveKnows, ShiftKnows, TurnKnows, Knows, Awake, IsSound, run_sound}
use Rattle.fkv_maintain.specs.declared.maintaining.MaintainAnswer.{MaintainAnswer}
use Rattle.fkv_maintain.specs.declared.maintaining.MaintainAnswer.TheVariants as answer
use Rattle.fkv_maintain.specs.declared.maintaining.Maintaining.{Maintaining}
use Rattle.fkv_maintain.specs.declared.maintaining.Maintaining.TheVariants as maintain
use Rattle.fkv_maintain.specs.Maintaining.{MaintainState, device_asked, maintaining_ask}
use Rattle.law_world.specs.GuardKeeper.CommitShown.{starting_machine, entering_machine, seeking_machine, StartKnows, EnterKnows, SeekKnows, IsSlotSought, IsActionDeferred}
use Rattle.law_world.specs.GuardKeeper.MaintainShown.{maintaining_machine, maintaining_work, IsUnderWay}
use Rattle.law_world.proofs.OfGuardKeeper.Claimed.{claim_ended}
use Rattle.law_world.proofs.OfGuardKeeper.Deferred.{sought_machine, by_deferred}
use Rattle.law_world.proofs.OfGuardKeeper.Flushed.{is_through, flush_ended}
use Rattle.law_world.proofs.OfGuardSessions.Movers.{clash}
use Rattle.law_world.proofs.OfGuardKeeper.Scanned.{scan_ended}
use Rattle.law_world.proofs.OfGuardKeeper.Served.{serve_ended}

-- what the guard knows of an actor where its events have led
pub follows_known : (w : GuardWorld) (a : ℕ) (x : Actor) (events : List GuardEvent) (shown : Likeness) (words : List ℕ) (actions : List (Option Action)) → IsSound w → slice_get w.now.actors a ≡ Some x
    → (f : Follows w.now a events shown words actions)
    → Knows w.now.shape (levels_of words) (Awake (put_near w.now a (near words actions f.actor)) a f.actor.machine) f.actor.machine f.actor.undecided f.actor.work
follows_known w a x events shown words actions sound got f =
    let there : GuardWorld = record { now = put_near w.now a (near words actions f.actor); past = (guard_run w events).past } in
    let same : guard_run w events ≡ there = ap (λ (n : GuardNow). record { now = n; past = (guard_run w events).past }) (run_now w events ∙ f.same) in
    let its : IsSound there = subst IsSound same (run_sound w events sound) in
    its.knows a f.actor (put_there w.now a x (near words actions f.actor) got)

-- the part of that which a turn goes by
abbrev pub PartKnows : Shape → Levels → EpochMachine → MaintainState → Maintaining → Type 0
PartKnows shape l d m maintain.Shifts = ShiftKnows l d m.shift.step m.shift.mover
PartKnows shape l d m maintain.Turns = TurnKnows shape l d m.turn.step m.turn.mover
PartKnows shape l d m step = ⊤

pub part_known : (shape : Shape) (l : Levels) (A : Type 0) (d : EpochMachine) (undecided : Option ℕ) (m : MaintainState) (step : Maintaining) (work : Work) → FitsWork (maintaining_work m step) work → Knows shape l A d undecided work → PartKnows shape l d m step
part_known shape l A d undecided m maintain.Shifts work f k = subst (λ (its : Work). Knows shape l A d undecided its) f k
part_known shape l A d undecided m maintain.Turns work f k = subst (λ (its : Work). Knows shape l A d undecided its) f k
part_known shape l A d undecided m step work f k = tt

move_asks_so : (l : Levels) (d : EpochMachine) (step : Moving) (raising : Raising) (arming : Arming) → MoveKnows l d step raising arming → is_done (moving_ask step raising arming) ≡ false
unfolding moving_ask raise_ask arm_ask passed
move_asks_so l d move.AtRest raising arming k = absurd k
move_asks_so l d (move.Raises target) raise.AtRest arming k = absurd k.1
move_asks_so l d (move.Raises target) (raise.HasSlot slot) arming k = absurd k.1
move_asks_so l d (move.Raises target) raise.LoadsEpoch arming k = refl
move_asks_so l d (move.Raises target) (raise.MeetsSlot slot) arming k = refl
move_asks_so l d (move.Raises target) (raise.HoldsSlot slot) arming k = refl
move_asks_so l d (move.Raises target) (raise.RaisesEpoch slot) arming k = refl
move_asks_so l d (move.MovesOffset target) raising arming k = refl
move_asks_so l d (move.Puts target slot) raising arming k = refl
move_asks_so l d move.Arms raising (arm.StoresEpoch slot c) k = refl
move_asks_so l d move.Arms raising arm.AtRest k = absurd k
move_asks_so l d move.Arms raising (arm.PutsAction slot c) k = absurd k

shift_asks_so : (l : Levels) (d : EpochMachine) (step : Shifting) (m : Mover) → ShiftKnows l d step m → shift_rests step ≡ false → is_done (shifting_ask step m) ≡ false
unfolding shifting_ask
shift_asks_so l d shift.AtRest m k e = cc
shift_asks_so l d shift.LoadsTail m k e = refl
shift_asks_so l d (shift.LoadsReadOnly tail) m k e = refl
shift_asks_so l d (shift.Moves tail) m k e = passed_done (move_ask m) _ ∙ move_asks_so l d m.step m.raising m.arming k

turn_asks_so : (shape : Shape) (l : Levels) (d : EpochMachine) (step : Turning) (m : Mover) → TurnKnows shape l d step m → turn_rests step ≡ false → is_done (turning_ask shape step m) ≡ false
unfolding turning_ask
turn_asks_so shape l d turn.AtRest m k e = cc
turn_asks_so shape l d turn.Moves m k e = passed_done (move_ask m) _ ∙ move_asks_so l d m.step m.raising m.arming k
turn_asks_so shape l d step m k e = refl

abbrev pub is_device : MaintainAnswer → Bool
is_device answer.Device = true
is_device its = false

device_through : (ask : Ask DeviceAnswer) (its : MaintainAnswer) → device_asked ask ≡ Done its → is_device its ≡ false → is_through ask ≡ true
unfolding device_asked passed
device_through (Done device.Device) answer.Device e f = cc
device_through (Done device.Device) answer.Through e f = cc
device_through (Done device.Device) answer.Spent e f = cc
device_through (Done device.Device) answer.Broken e f = cc
device_through (Done device.Through) its e f = refl
device_through ask its e f = cc

ended_so : {A : Type 0} (ask : Ask A) (its : MaintainAnswer) → passed ask answer.Through ≡ Done its → is_done ask ≡ true
ended_so ask its e = sym (passed_done ask answer.Through) ∙ ap is_done e

-- nothing of a turn is under way
pub record IsTurnOver (m : MaintainState) (step : Maintaining) : Type 0 where
  pub machine : maintaining_machine m step ≡ None
  pub work : maintaining_work m step ≡ None

pub turn_over_at : (shape : Shape) (p : Places) (l : Levels) (d : EpochMachine) (m : MaintainState) (step : Maintaining) (its : MaintainAnswer) → PartKnows shape l d m step → IsUnderWay (maintaining_machine m step) (maintaining_work m step)
    → maintaining_ask shape p m step ≡ Done its → is_device its ≡ false → IsTurnOver m step
unfolding maintaining_ask
turn_over_at shape p l d m maintain.Through its k busy e f = record { machine = refl; work = refl }
turn_over_at shape p l d m maintain.Spent its k busy e f = record { machine = refl; work = refl }
turn_over_at shape p l d m maintain.Broken its k busy e f = record { machine = refl; work = refl }
turn_over_at shape p l d m maintain.Scans its k busy e f = clash (is_at_rest (Scans m.scanning)) (scan_ended m.scanning (ended_so (scan_ask m.scanning) its e)) busy
turn_over_at shape p l d m maintain.Claims its k busy e f = clash (is_at_rest (Claims m.claiming)) (claim_ended m.claiming (ended_so (claim_ask m.claiming) its e)) busy
turn_over_at shape p l d m maintain.Flushes its k busy e f = clash (is_idle (Flushes m.flushing m.bytes)) (flush_ended p m.flushing m.bytes (device_through (flush_ask p m.flushing) its e f)) busy
turn_over_at shape p l d m maintain.Shifts its k busy e f = clash (is_done (shift_ask m.shift)) (ended_so (shift_ask m.shift) its e) (shift_asks_so l d m.shift.step m.shift.mover k busy)
turn_over_at shape p l d m maintain.Turns its k busy e f = clash (is_done (turn_ask shape m.turn)) (ended_so (turn_ask shape m.turn) its e) (turn_asks_so shape l d m.turn.step m.turn.mover k busy)
turn_over_at shape p l d m maintain.Serves its k busy e f = clash (is_idle (Serves m.begin.0 m.serving)) (serve_ended m.begin.0 m.serving (device_through (serve_ask m.serving) its e f)) busy

-- a deferral that seeks a slot, or defers its action, asks for something
sought_asks_at : (raising : Raising) (arming : Arming) → IsSlotSought (record { raising = raising; arming = arming; step = defer.Seeks }) → is_done (defer_ask (record { raising = raising; arming = arming; step = defer.Seeks })) ≡ false
unfolding deferring_ask raise_ask passed
sought_asks_at raise.LoadsEpoch arming k = refl
sought_asks_at (raise.MeetsSlot slot) arming k = refl
sought_asks_at (raise.HoldsSlot slot) arming k = refl
sought_asks_at raise.AtRest arming k = absurd k
sought_asks_at (raise.HasSlot slot) arming k = absurd k
sought_asks_at (raise.RaisesEpoch slot) arming k = absurd k

sought_asks : (d : DeferState) → IsSlotSought d → is_done (defer_ask d) ≡ false
sought_asks d k = sought_machine (λ (e : DeferState). IsSlotSought e → is_done (defer_ask e) ≡ false) d.step d.raising d.arming k (λ next. sought_asks_at next d.arming) k

deferred_asks : (l : Levels) (d : DeferState) → IsActionDeferred l d → is_done (defer_ask d) ≡ false
unfolding deferring_ask raise_ask arm_ask passed
deferred_asks l d k = by_deferred (λ (e : DeferState). is_done (defer_ask e) ≡ false) l d k (λ its slot arming stored. refl) (λ epoch slot c raising. refl)

inner_asks : {A B X : Type 0} (ask : Ask A) (told its : B) → passed ask told ≡ Done its → is_done ask ≡ false → X
inner_asks ask told its e f = clash (is_done (passed ask told)) (ap is_done e) (passed_done ask told ∙ f)

pub start_over : (l : Levels) (s : StartState) (step : Starting) (its : StartAnswer) → StartKnows l s step → starting_ask s step ≡ Done its → starting_machine s step ≡ None
unfolding starting_ask
start_over l s (start.Ended other) its k e = refl
start_over l s start.LoadsPhase its k e = refl
start_over l s (start.Seeks number) its k e = inner_asks (defer_ask s.defer) _ its e (sought_asks s.defer k)
start_over l s (start.StoresPrepare number) its k e = cc
start_over l s (start.LoadsTail number) its k e = cc
start_over l s (start.Defers number first) its k e = inner_asks (defer_ask s.defer) _ its e (deferred_asks l s.defer k)

pub enter_over : (l : Levels) (s : EnterState) (step : Entering) (its : EnterAnswer) → EnterKnows l s step → entering_ask s step ≡ Done its → entering_machine s step ≡ None
unfolding entering_ask
enter_over l s (enter.Ended other) its k e = refl
enter_over l s enter.Seeks its k e = inner_asks (defer_ask s.defer) _ its e (sought_asks s.defer k)
enter_over l s enter.Defers its k e = inner_asks (defer_ask s.defer) _ its e (deferred_asks l s.defer k)

pub seek_over : (l : Levels) (s : SeekState) (step : Seeking) (its : SeekAnswer) → SeekKnows l s step → seeking_ask s step ≡ Done its → seeking_machine s step ≡ None
unfolding seeking_ask
seek_over l s (seek.Ended other) its k e = refl
seek_over l s (seek.LoadsOwing session) its k e = refl
seek_over l s seek.SeeksSlot its k e = inner_asks (defer_ask s.defer) _ its e (sought_asks s.defer k)
seek_over l s (seek.Defers end) its k e = inner_asks (defer_ask s.defer) _ its e (deferred_asks l s.defer k)
seek_over l s step its k e = cc
