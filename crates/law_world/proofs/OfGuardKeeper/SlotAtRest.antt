-- Between two steps the keeper asks nothing of a slot, but where its claim has found no action.
use Rattle.std.proofs.Common.{◌≡◌, ℕ, ◌⊎◌, inl, inr, refl, ◌∙◌, false}
use Rattle.fkv_base.specs.declared.shapes.Shape.{Shape}
use Rattle.fkv_plane.specs.declared.actions.Action.TheVariants as act
use Rattle.fkv_plane.specs.declared.asks.Ask.{Ask}
use Rattle.fkv_plane.specs.declared.asks.Ask.TheVariants.{Done}
use Rattle.fkv_plane.specs.declared.places.Places.{Places}
use Rattle.fkv_plane.specs.Passing.{passed}
use Rattle.fkv_epoch.specs.declared.arming.Arming.{Arming}
use Rattle.fkv_epoch.specs.declared.arming.Arming.TheVariants as arm
use Rattle.fkv_epoch.specs.declared.claiming.Claiming.{Claiming}
use Rattle.fkv_epoch.specs.declared.claiming.Claiming.TheVariants as claim
use Rattle.fkv_epoch.specs.declared.raising.Raising.{Raising}
use Rattle.fkv_epoch.specs.declared.raising.Raising.TheVariants as raise
use Rattle.fkv_epoch.specs.Arming.{arm_ask}
use Rattle.fkv_epoch.specs.Claiming.{claim_ask}
use Rattle.fkv_epoch.specs.Raising.{raise_ask}
use Rattle.fkv_epoch.specs.Scanning.{scan_ask}
use Rattle.fkv_epoch.specs.EpochWorld.{EpochMachine}
use Rattle.fkv_log.specs.declared.moving.MoveAnswer.TheVariants as moved
use Rattle.fkv_log.specs.declared.moving.Moving.{Moving}
use Rattle.fkv_log.specs.declared.moving.Moving.TheVariants as move
use Rattle.fkv_log.specs.declared.shifting.Shifting.{Shifting}
use Rattle.fkv_log.specs.declared.shifting.Shifting.TheVariants as shift
use Rattle.fkv_log.specs.declared.turning.Turning.{Turning}
use Rattle.fkv_log.specs.declared.turning.Turning.TheVariants as turn
use Rattle.fkv_log.specs.Moving.{Mover, move_ask, moving_ask}
use Rattle.fkv_log.specs.Shifting.{shift_ask, shifting_ask}
use Rattle.fkv_log.specs.Turning.{turn_ask, turning_ask}
use Rattle.fkv_commit.specs.declared.deferring.DeferAnswer.TheVariants as deferred
use Rattle.fkv_commit.specs.declared.entering.Entering.{Entering}
use Rattle.fkv_commit.specs.declared.entering.Entering.TheVariants as enter
use Rattle.fkv_commit.specs.declared.seeking.Seeking.{Seeking}
use Rattle.fkv_commit.specs.declared.seeking.Seeking.TheVariants as seek
use Rattle.fkv_commit.specs.declared.starting.Starting.{Starting}
use Rattle.fkv_commit.specs.declared.starting.Starting.TheVariants as start
use Rattle.fkv_commit.specs.Deferring.{DeferState, defer_ask, deferring_ask}
use Rattle.fkv_commit.specs.Entering.{EnterState, enter_ask, entering_ask}
use Rattle.fkv_commit.specs.Finishing.{finish_ask}
use Rattle.fkv_commit.specs.Seeking.{SeekState, seek_ask, seeking_ask}
use Rattle.fkv_commit.specs.Starting.{StartState, start_ask, starting_ask}
use Rattle.fkv_flush.specs.Flushing.{flush_ask}
use Rattle.fkv_flush.specs.Serving.{serve_ask}
use Rattle.fkv_flush.specs.GuardLevels.{Levels}
use Rattle.fkv_flush.proofs.Shown.{MoveKnows, ShiftKnows, TurnKnows}
use Rattle.fkv_maintain.specs.declared.maintaining.MaintainAnswer.{MaintainAnswer}
use Rattle.fkv_maintain.specs.declared.maintaining.MaintainAnswer.TheVariants as answer
use Rattle.fkv_maintain.specs.declared.maintaining.Maintaining.{Maintaining}
use Rattle.fkv_maintain.specs.declared.maintaining.Maintaining.TheVariants as maintain
use Rattle.fkv_maintain.specs.Maintaining.{MaintainState, maintaining_ask, maintain_ask}
use Rattle.fkv_keeper.specs.declared.answers.KeeperTold.{KeeperTold}
use Rattle.fkv_keeper.specs.declared.keepers.Keeping.{Keeping}
use Rattle.fkv_keeper.specs.declared.keepers.Keeping.TheVariants as keeping
use Rattle.fkv_keeper.specs.Keeping.{KeeperState, device_passed, keeping_ask, turn_over}
use Rattle.law_world.specs.GuardKeeper.CommitShown.{StartKnows, EnterKnows, SeekKnows, IsSlotSought, IsActionDeferred}
use Rattle.law_world.specs.GuardKeeper.KeeperShown.{KeepingKnows}
use Rattle.law_world.specs.GuardKeeper.Settled.{is_of_slot}
use Rattle.law_world.proofs.OfGuardKeeper.Deferred.{sought_machine, by_deferred}
use Rattle.law_world.proofs.OfGuardKeeper.EndKept.{finish_slot}
use Rattle.law_world.proofs.OfGuardKeeper.Ends.{PartKnows}
use Rattle.law_world.proofs.OfGuardKeeper.Flushed.{flush_slot}
use Rattle.law_world.proofs.OfGuardKeeper.Quiet.{quiet_slot_at}
use Rattle.law_world.proofs.OfGuardKeeper.Scanned.{scan_slot}
use Rattle.law_world.proofs.OfGuardKeeper.Served.{serve_slot}
use Rattle.law_world.proofs.OfGuardKeeper.Slots.{passed_slot}
use Rattle.law_world.proofs.OfGuardKeeper.TurnLed.{device_slot}

raise_slot : (step : Raising) → is_of_slot (raise_ask step) ≡ false
unfolding raise_ask
raise_slot raise.AtRest = refl
raise_slot step = refl

arm_slot : (step : Arming) → is_of_slot (arm_ask step) ≡ false
unfolding arm_ask
arm_slot arm.AtRest = refl
arm_slot step = refl

move_slot : (l : Levels) (d : EpochMachine) (step : Moving) (raising : Raising) (arming : Arming) → MoveKnows l d step raising arming → is_of_slot (moving_ask step raising arming) ≡ false
unfolding moving_ask
move_slot l d move.AtRest raising arming k = refl
move_slot l d (move.Raises target) raising arming k = passed_slot (raise_ask raising) moved.Through ∙ raise_slot raising
move_slot l d (move.MovesOffset target) raising arming k = refl
move_slot l d (move.Puts target slot) raising arming k = absurd k
move_slot l d move.Arms raising arming k = passed_slot (arm_ask arming) moved.Through ∙ arm_slot arming

shift_slot : (l : Levels) (d : EpochMachine) (step : Shifting) (m : Mover) → ShiftKnows l d step m → is_of_slot (shifting_ask step m) ≡ false
unfolding shifting_ask
shift_slot l d shift.AtRest m k = refl
shift_slot l d shift.LoadsTail m k = refl
shift_slot l d (shift.LoadsReadOnly tail) m k = refl
shift_slot l d (shift.Moves tail) m k = passed_slot (move_ask m) _ ∙ move_slot l d m.step m.raising m.arming k

turn_slot : (shape : Shape) (l : Levels) (d : EpochMachine) (step : Turning) (m : Mover) → TurnKnows shape l d step m → is_of_slot (turning_ask shape step m) ≡ false
unfolding turning_ask
turn_slot shape l d turn.Moves m k = passed_slot (move_ask m) _ ∙ move_slot l d m.step m.raising m.arming k
turn_slot shape l d step m k = refl

-- the claim waits for an action
pub record IsReceiving (m : MaintainState) (step : Maintaining) : Type 0 where
  pub slot : ℕ
  pub epoch : ℕ
  pub safe : ℕ
  pub part : step ≡ maintain.Claims
  pub its : m.claiming ≡ claim.Receives slot epoch safe

claim_rest : (m : MaintainState) (step : Claiming) → m.claiming ≡ step → (is_of_slot (claim_ask step) ≡ false) ⊎ IsReceiving m maintain.Claims
unfolding claim_ask
claim_rest m (claim.Receives slot epoch safe) e = inr (record { slot = slot; epoch = epoch; safe = safe; part = refl; its = e })
claim_rest m (claim.Runs slot epoch safe (act.SafeReadOnly addr)) e = inl refl
claim_rest m (claim.Runs slot epoch safe (act.Close addr)) e = inl refl
claim_rest m (claim.Runs slot epoch safe (act.Phase phase version)) e = inl refl
claim_rest m step e = inl refl

turn_rest : (shape : Shape) (p : Places) (l : Levels) (d : EpochMachine) (m : MaintainState) (step : Maintaining) → PartKnows shape l d m step → (is_of_slot (maintaining_ask shape p m step) ≡ false) ⊎ IsReceiving m step
unfolding maintaining_ask
turn_rest shape p l d m maintain.Claims k = elim (claim_rest m m.claiming refl) [ inl e ↦ inl (passed_slot (claim_ask m.claiming) answer.Through ∙ e) | inr its ↦ inr its ]
turn_rest shape p l d m maintain.Scans k = inl (passed_slot (scan_ask m.scanning) answer.Through ∙ scan_slot m.scanning)
turn_rest shape p l d m maintain.Flushes k = inl (device_slot (flush_ask p m.flushing) ∙ flush_slot p m.flushing)
turn_rest shape p l d m maintain.Shifts k = inl (passed_slot (shift_ask m.shift) answer.Through ∙ shift_slot l d m.shift.step m.shift.mover k)
turn_rest shape p l d m maintain.Turns k = inl (passed_slot (turn_ask shape m.turn) answer.Through ∙ turn_slot shape l d m.turn.step m.turn.mover k)
turn_rest shape p l d m maintain.Serves k = inl (device_slot (serve_ask m.serving) ∙ serve_slot m.serving)
turn_rest shape p l d m step k = inl refl

told_slot : (ask : Ask MaintainAnswer) (told : KeeperTold) → is_of_slot (device_passed ask told) ≡ is_of_slot ask
unfolding device_passed passed
told_slot (Done answer.Device) told = refl
told_slot (Done answer.Through) told = refl
told_slot (Done answer.Spent) told = refl
told_slot (Done answer.Broken) told = refl
told_slot ask told = passed_slot ask told

sought_rest : (d : DeferState) → IsSlotSought d → is_of_slot (defer_ask d) ≡ false
unfolding deferring_ask
sought_rest d k = sought_machine (λ (e : DeferState). is_of_slot (defer_ask e) ≡ false) d.step d.raising d.arming k (λ next. passed_slot (raise_ask next) deferred.NoSlot ∙ raise_slot next)

deferred_rest : (l : Levels) (d : DeferState) → IsActionDeferred l d → is_of_slot (defer_ask d) ≡ false
unfolding deferring_ask raise_ask arm_ask passed
deferred_rest l d k = by_deferred (λ (e : DeferState). is_of_slot (defer_ask e) ≡ false) l d k (λ its slot arming stored. refl) (λ epoch slot c raising. refl)

start_rest : (l : Levels) (s : StartState) (step : Starting) → StartKnows l s step → is_of_slot (starting_ask s step) ≡ false
unfolding starting_ask
start_rest l s (start.Seeks number) k = passed_slot (defer_ask s.defer) _ ∙ sought_rest s.defer k
start_rest l s (start.Defers number first) k = passed_slot (defer_ask s.defer) _ ∙ deferred_rest l s.defer k
start_rest l s step k = refl

enter_rest : (l : Levels) (s : EnterState) (step : Entering) → EnterKnows l s step → is_of_slot (entering_ask s step) ≡ false
unfolding entering_ask
enter_rest l s enter.Seeks k = passed_slot (defer_ask s.defer) _ ∙ sought_rest s.defer k
enter_rest l s enter.Defers k = passed_slot (defer_ask s.defer) _ ∙ deferred_rest l s.defer k
enter_rest l s step k = refl

seek_rest : (l : Levels) (s : SeekState) (step : Seeking) → SeekKnows l s step → is_of_slot (seeking_ask s step) ≡ false
unfolding seeking_ask
seek_rest l s seek.SeeksSlot k = passed_slot (defer_ask s.defer) _ ∙ sought_rest s.defer k
seek_rest l s (seek.Defers end) k = passed_slot (defer_ask s.defer) _ ∙ deferred_rest l s.defer k
seek_rest l s step k = refl

-- in a turn, that is
abbrev pub Receives : KeeperState → Keeping → Type 0
Receives s step = (step ≡ keeping.Maintains) × IsReceiving s.maintain s.maintain.step

pub keeper_rest : (shape : Shape) (p : Places) (l : Levels) (d : EpochMachine) (s : KeeperState) (step : Keeping) → KeepingKnows l s step → (step ≡ keeping.Maintains → PartKnows shape l d s.maintain s.maintain.step)
    → (is_of_slot (keeping_ask shape p s step) ≡ false) ⊎ Receives s step
unfolding keeping_ask
keeper_rest shape p l d s keeping.Starts k part = inl (passed_slot (start_ask s.start) _ ∙ start_rest l s.start s.start.step k)
keeper_rest shape p l d s keeping.Maintains k part = elim (turn_rest shape p l d s.maintain s.maintain.step (part refl)) [
  | inl e ↦ inl (told_slot (maintain_ask shape p s.maintain) (turn_over s) ∙ e)
  | inr its ↦ inr (refl, its)
]
keeper_rest shape p l d s keeping.Enters k part = inl (passed_slot (enter_ask s.enter) (turn_over s) ∙ enter_rest l s.enter s.enter.step k)
keeper_rest shape p l d s keeping.Seeks k part = inl (passed_slot (seek_ask s.seek) (turn_over s) ∙ seek_rest l s.seek s.seek.step k)
keeper_rest shape p l d s keeping.Finishes k part = inl (passed_slot (finish_ask s.seek.points s.finish) (turn_over s) ∙ finish_slot s.seek.points s.finish s.finish.step)
keeper_rest shape p l d s (keeping.Ended its) k part = inl refl
keeper_rest shape p l d s keeping.LoadsPhase k part = inl refl
keeper_rest shape p l d s keeping.Copies k part = inl (quiet_slot_at shape p s keeping.Copies refl)
keeper_rest shape p l d s keeping.Waits k part = inl (quiet_slot_at shape p s keeping.Waits refl)
keeper_rest shape p l d s keeping.Writes k part = inl (quiet_slot_at shape p s keeping.Writes refl)
keeper_rest shape p l d s keeping.Sweeps k part = inl (quiet_slot_at shape p s keeping.Sweeps refl)
