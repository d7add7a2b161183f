-- The keeper has an action in hand only right behind the claim of its slot. It puts one that stores a phase where it defers that phase, and no other.
use Rattle.std.proofs.Common.{◌≡◌, ◌⊎◌, inl, inr, ℕ, ◌∙◌, List, refl, sym, ap, subst, Bool, true, false}
use Rattle.std.specs.Prelude.{⊤, if◌then◌else◌, Option, Some, None, ◌||◌}
use Rattle.fkv_base.specs.declared.phases.Phase.TheVariants as phase
use Rattle.fkv_base.specs.declared.shapes.Shape.{Shape}
use Rattle.fkv_base.specs.declared.faults.Fault.TheVariants as fault
use Rattle.fkv_base.specs.declared.numbers.Serial.{Serial}
use Rattle.fkv_base.specs.declared.numbers.Version.{Version}
use Rattle.fkv_words.specs.declared.phase_words.PhaseSaid.{PhaseSaid}
use Rattle.fkv_words.specs.declared.phase_words.PhaseSaid.TheVariants.{Says}
use Rattle.fkv_words.specs.PhaseWords.{phase_said}
use Rattle.fkv_plane.specs.declared.actions.Action.{Action}
use Rattle.fkv_plane.specs.declared.asks.Ask.{Ask}
use Rattle.fkv_plane.specs.declared.asks.Ask.TheVariants.{Put, Done}
use Rattle.fkv_plane.specs.declared.places.Places.{Places}
use Rattle.fkv_plane.specs.Passing.{passed}
use Rattle.fkv_epoch.specs.Claiming.{claim_ask, claim_given, claim_next}
use Rattle.fkv_epoch.specs.Raising.{raise_ask}
use Rattle.fkv_epoch.specs.Arming.{arm_ask}
use Rattle.fkv_epoch.specs.Scanning.{scan_ask, scan_next}
use Rattle.fkv_index.specs.declared.finding.FindStep.{FindStep}
use Rattle.fkv_index.specs.declared.finding.FindStep.TheVariants as find
use Rattle.fkv_index.specs.declared.finding.Finding.{Finding}
use Rattle.fkv_index.specs.Finding.{find_ask, find_step_ask}
use Rattle.fkv_sweep.specs.declared.sweeping.SweepAnswer.{SweepAnswer}
use Rattle.fkv_sweep.specs.declared.sweeping.SweepAnswer.TheVariants as sweep
use Rattle.fkv_sweep.specs.declared.sweeping.Sweeping.{Sweeping}
use Rattle.fkv_sweep.specs.declared.sweeping.Sweeping.TheVariants as sweeping
use Rattle.fkv_sweep.specs.Sweeping.{Sweeper, sweep_ask, sweeping_ask}
use Rattle.law_refine.specs.Below.fkv_log.MoveAnswer.{MoveAnswer}
use Rattle.law_refine.specs.Below.fkv_log.MoveAnswer.TheVariants as moved
use Rattle.law_refine.specs.Below.fkv_log.ShiftAnswer.{ShiftAnswer}
use Rattle.law_refine.specs.Below.fkv_log.ShiftAnswer.TheVariants as shift
use Rattle.law_refine.specs.Below.fkv_log.Shifting.{shift_next}
use Rattle.law_refine.specs.Below.fkv_log.Turning.{turn_next}
use Rattle.law_refine.specs.Below.fkv_flush.DeviceAnswer.{DeviceAnswer}
use Rattle.law_refine.specs.Below.fkv_flush.DeviceAnswer.TheVariants as device
use Rattle.law_refine.specs.Below.fkv_flush.TheFlushing.{Flushing}
use Rattle.law_refine.specs.Below.fkv_flush.TheFlushing.TheVariants as flush
use Rattle.law_refine.specs.Below.fkv_flush.TheServing.{Serving}
use Rattle.law_refine.specs.Below.fkv_flush.TheServing.TheVariants as serve
use Rattle.law_refine.specs.Below.fkv_flush.Flushing.{bytes_done, bytes_next, flush_ask, flush_done, flush_next}
use Rattle.law_refine.specs.Below.fkv_flush.Serving.{mailbox_from, serve_ask, serve_next, serve_read}
use Rattle.law_refine.specs.Below.fkv_checkpoint.CopyStep.{CopyStep}
use Rattle.law_refine.specs.Below.fkv_checkpoint.CopyStep.TheVariants as copy
use Rattle.law_refine.specs.Below.fkv_checkpoint.Copying.{Copier, copy_step_ask}
use Rattle.law_refine.specs.Below.fkv_commit.Commit.{Commit}
use Rattle.fkv_base.specs.declared.commits.CommitKind.{CommitKind}
use Rattle.law_refine.specs.Below.fkv_commit.Deferred.{Deferred}
use Rattle.law_refine.specs.Below.fkv_commit.Deferred.TheVariants.{EntersPhase, ShowsReadOnly}
use Rattle.law_refine.specs.Below.fkv_commit.DeferAnswer.TheVariants.{NoSlot, Armed}
use Rattle.law_refine.specs.Below.fkv_commit.TheDeferring.{Deferring}
use Rattle.law_refine.specs.Below.fkv_commit.TheDeferring.TheVariants as defer
use Rattle.law_refine.specs.Below.fkv_commit.EnterAnswer.{EnterAnswer}
use Rattle.law_refine.specs.Below.fkv_commit.EnterAnswer.TheVariants as enter
use Rattle.law_refine.specs.Below.fkv_commit.TheEntering.{Entering}
use Rattle.law_refine.specs.Below.fkv_commit.TheEntering.TheVariants as entering
use Rattle.law_refine.specs.Below.fkv_commit.FinishAnswer.{FinishAnswer}
use Rattle.law_refine.specs.Below.fkv_commit.TheFinishing.{Finishing}
use Rattle.law_refine.specs.Below.fkv_commit.TheFinishing.TheVariants as finishing
use Rattle.law_refine.specs.Below.fkv_commit.SeekAnswer.{SeekAnswer}
use Rattle.law_refine.specs.Below.fkv_commit.SeekAnswer.TheVariants as seek
use Rattle.law_refine.specs.Below.fkv_commit.TheSeeking.{Seeking}
use Rattle.law_refine.specs.Below.fkv_commit.TheSeeking.TheVariants as seeking
use Rattle.law_refine.specs.Below.fkv_commit.StartAnswer.{StartAnswer}
use Rattle.law_refine.specs.Below.fkv_commit.StartAnswer.TheVariants as start
use Rattle.law_refine.specs.Below.fkv_commit.TheStarting.{Starting}
use Rattle.law_refine.specs.Below.fkv_commit.TheStarting.TheVariants as starting
use Rattle.law_refine.specs.Below.fkv_commit.WaitAnswer.{WaitAnswer}
use Rattle.law_refine.specs.Below.fkv_commit.WaitAnswer.TheVariants as wait
use Rattle.law_refine.specs.Below.fkv_commit.TheWaiting.{Waiting}
use Rattle.law_refine.specs.Below.fkv_commit.TheWaiting.TheVariants as waiting
use Rattle.law_refine.specs.Below.fkv_commit.Commits.{version_after}
use Rattle.law_refine.specs.Below.fkv_commit.Deferring.{DeferState, action_of, defer_ask, deferring_ask}
use Rattle.law_refine.specs.Below.fkv_commit.Entering.{EnterState, enter_begun, enter_next, entering_ask}
use Rattle.law_refine.specs.Below.fkv_commit.Finishing.{FinishState, finish_next, finishing_ask}
use Rattle.law_refine.specs.Below.fkv_commit.Seeking.{SeekState, seek_begun, seek_next, seeking_ask}
use Rattle.law_refine.specs.Below.fkv_commit.Starting.{StartState, start_begun, start_next, starting_ask}
use Rattle.law_refine.specs.Below.fkv_commit.Waiting.{wait_begun, wait_next, waiting_ask}
use Rattle.law_refine.specs.Below.fkv_manifest.WriteAnswer.{WriteAnswer}
use Rattle.law_refine.specs.Below.fkv_manifest.WriteAnswer.TheVariants as write
use Rattle.law_refine.specs.Below.fkv_manifest.Committing.{commit_next, commit_answer}
use Rattle.law_refine.specs.Below.fkv_maintain.MaintainAnswer.{MaintainAnswer}
use Rattle.law_refine.specs.Below.fkv_maintain.MaintainAnswer.TheVariants as maintain
use Rattle.law_refine.specs.Below.fkv_maintain.TheMaintaining.{Maintaining}
use Rattle.law_refine.specs.Below.fkv_maintain.TheMaintaining.TheVariants as maintaining
use Rattle.law_refine.specs.Below.fkv_maintain.Maintaining.{MaintainState, claim_ledto, device_asked, flush_ledto, flush_told, is_flush_resting, maintain_ask, maintain_called, maintain_given, maintain_next, maintaining_ask, maintaining_called, maintaining_given, maintaining_next, scan_ledto, serve_begun, serve_ledto, shift_ledto, turn_ledto}
use Rattle.law_refine.specs.Below.fkv_keeper.KeeperTold.{KeeperTold}
use Rattle.law_refine.specs.Below.fkv_keeper.KeeperTold.TheVariants.{TurnRefused, CommitRefused}
use Rattle.law_refine.specs.Below.fkv_keeper.TheKeeping.{Keeping}
use Rattle.law_refine.specs.Below.fkv_keeper.TheKeeping.TheVariants.{Ended, Starts, Maintains, LoadsPhase, Enters, Copies, Seeks, Waits, Writes, Finishes, Sweeps}
use Rattle.law_refine.specs.Below.fkv_keeper.Keeping.{KeeperState, commit_asked, copies, copies_next, copy_asked, copy_driven, copy_ledto, device_passed, ended, enter_ledto, finish_ledto, finished, keeper_next, keeping_ask, keeping_called, keeping_given, keeping_next, maintain_ledto, part_begun, phase_ledto, seek_ledto, start_ledto, sweep_passed, sweeps_next, turn_asked, turned, wait_ledto, write_asked, write_ledto, writes_begun, writes_called, copy_taken, is_copy_resting, must_rest, parts_begun, serves_alone, unless_flush_rests, writes_taken_up, asked_for}
use Rattle.law_commit.specs.Phases.Staged.{DefersAt, DefersReadOnly, EnterAt, SeekAt, Stage, StartAt, StepAt, Prepares, DefersProgress, Progresses, DefersPending, Pends, claim_hand, defer_moves, enter_moves, keeper_hand, keeping_hand, keeping_moves, maintain_hand, is_resting, phase_in, seek_moves, stage_out, stage_phase, stage_version, start_moves}
use Rattle.law_commit.proofs.OfPhases.SessionHands.{PutsNone, claim_given_hand, claim_next_none, claim_puts, passed_puts, raise_puts, arm_puts, scan_puts, shift_puts, turn_puts}
use Rattle.law_commit.proofs.Sweeps.{sweep_begins, sweep_moves, sweep_reads}

-- ---- a turn's parts
abbrev TurnHasNone : MaintainState → Type 0
TurnHasNone m = maintain_hand m m.step ≡ None

turn_stays : (m : MaintainState) (step : Maintaining) → m.step ≡ step → maintain_hand m step ≡ None → TurnHasNone m
turn_stays m step at none = subst (λ x. maintain_hand m x ≡ None) (sym at) none

scanned_none : (m : MaintainState) (ask : Ask (Unit {0})) → m.step ≡ maintaining.Scans → TurnHasNone (scan_ledto m ask)
unfolding scan_ledto
scanned_none m (Done its) at = refl
scanned_none m ask at = turn_stays m maintaining.Scans at refl

claimed_none : (m : MaintainState) (ask : Ask (Unit {0})) → m.step ≡ maintaining.Claims → claim_hand m.claiming ≡ None → TurnHasNone (claim_ledto m ask)
unfolding claim_ledto
claimed_none m (Done its) at none = refl
claimed_none m ask at none = turn_stays m maintaining.Claims at none

flushed_none : (m : MaintainState) (ask : Ask DeviceAnswer) → m.step ≡ maintaining.Flushes → TurnHasNone (flush_ledto m ask)
unfolding flush_ledto
flushed_none m (Done device.Through) at = refl
flushed_none m (Done device.Device) at = turn_stays m maintaining.Flushes at refl
flushed_none m ask at = turn_stays m maintaining.Flushes at refl

shifted_none : (m : MaintainState) (ask : Ask ShiftAnswer) → m.step ≡ maintaining.Shifts → TurnHasNone (shift_ledto m ask)
unfolding shift_ledto
shifted_none m (Done (shift.Through tail)) at = refl
shifted_none m (Done (shift.NoSlot tail)) at = refl
shifted_none m (Done (shift.Spent tail)) at = refl
shifted_none m ask at = turn_stays m maintaining.Shifts at refl

served_none : (m : MaintainState) (ask : Ask DeviceAnswer) → m.step ≡ maintaining.Serves → TurnHasNone (serve_ledto m ask)
unfolding serve_ledto
served_none m (Done device.Through) at = refl
served_none m (Done device.Device) at = turn_stays m maintaining.Serves at refl
served_none m ask at = turn_stays m maintaining.Serves at refl

serves_none : (shape : Shape) (m : MaintainState) → TurnHasNone (serve_begun shape m)
serves_none shape m = served_none (record m { serving = mailbox_from shape.sessions 0; step = maintaining.Serves }) (serve_ask (mailbox_from shape.sessions 0)) refl

turned_none : (shape : Shape) (m : MaintainState) (ask : Ask MoveAnswer) → m.step ≡ maintaining.Turns → TurnHasNone (turn_ledto shape m ask)
unfolding turn_ledto
turned_none shape m (Done moved.Through) at = serves_none shape m
turned_none shape m (Done moved.NoSlot) at = serves_none shape (record m { is_drain_full = true })
turned_none shape m (Done moved.Spent) at = refl
turned_none shape m ask at = turn_stays m maintaining.Turns at refl

maintain_none : (shape : Shape) (p : Places) (m : MaintainState) (step : Maintaining) (reply : ℕ) → m.step ≡ step → TurnHasNone (maintaining_next shape p m step reply)
unfolding maintaining_next
maintain_none shape p m maintaining.Scans reply at = scanned_none (record m { scanning = scan_next shape.sessions m.scanning reply }) _ at
maintain_none shape p m maintaining.Claims reply at = claimed_none (record m { claiming = claim_next m.claiming reply }) _ at (claim_next_none m.claiming reply)
maintain_none shape p m maintaining.Flushes reply at = flushed_none (record m { bytes = bytes_next m.flushing m.bytes reply; flushing = flush_next shape.page m.flushing reply }) _ at
maintain_none shape p m maintaining.Shifts reply at = shifted_none (record m { shift = shift_next shape m.shift reply }) _ at
maintain_none shape p m maintaining.Turns reply at = turned_none shape (record m { turn = turn_next shape m.turn reply }) _ at
maintain_none shape p m maintaining.Serves reply at = served_none (record m { serving = serve_next shape.sessions m.begin.0 m.serving reply }) _ at
maintain_none shape p m maintaining.Through reply at = turn_stays m maintaining.Through at refl
maintain_none shape p m maintaining.Spent reply at = turn_stays m maintaining.Spent at refl
maintain_none shape p m maintaining.Broken reply at = turn_stays m maintaining.Broken at refl

-- an action that it is given
claims_hand : (m : MaintainState) (ask : Ask (Unit {0})) (action its : Action) → m.step ≡ maintaining.Claims → (claim_hand m.claiming ≡ Some its → its ≡ action) → maintain_hand (claim_ledto m ask) (claim_ledto m ask).step ≡ Some its → its ≡ action
unfolding claim_ledto
claims_hand m (Done told) action its at same is = cc
claims_hand m ask action its at same is = same (subst (λ x. maintain_hand m x ≡ Some its) at is)

no_hand : (m : MaintainState) (step : Maintaining) (its : Action) {X : Type 0} → m.step ≡ step → maintain_hand m step ≡ None → maintain_hand m m.step ≡ Some its → X
no_hand m step its at none is = let clash : None ≡ Some its = sym (turn_stays m step at none) ∙ is in cc

maintain_given_hand : (m : MaintainState) (step : Maintaining) (action its : Action) → m.step ≡ step → maintain_hand m step ≡ None → maintain_hand (maintaining_given m step action) (maintaining_given m step action).step ≡ Some its → its ≡ action
unfolding maintaining_given
maintain_given_hand m maintaining.Claims action its at none is = claims_hand (record m { claiming = claim_given m.claiming action }) (claim_ask (claim_given m.claiming action)) action its at (claim_given_hand m.claiming action its none) is
maintain_given_hand m maintaining.Scans action its at none is = no_hand m maintaining.Scans its at refl is
maintain_given_hand m maintaining.Flushes action its at none is = no_hand m maintaining.Flushes its at refl is
maintain_given_hand m maintaining.Shifts action its at none is = no_hand m maintaining.Shifts its at refl is
maintain_given_hand m maintaining.Turns action its at none is = no_hand m maintaining.Turns its at refl is
maintain_given_hand m maintaining.Serves action its at none is = no_hand m maintaining.Serves its at refl is
maintain_given_hand m maintaining.Through action its at none is = no_hand m maintaining.Through its at refl is
maintain_given_hand m maintaining.Spent action its at none is = no_hand m maintaining.Spent its at refl is
maintain_given_hand m maintaining.Broken action its at none is = no_hand m maintaining.Broken its at refl is

-- a call of the device gives none
some_none : {X : Type 0} (found : Option Action) (its : Action) → found ≡ None → found ≡ Some its → X
some_none found its none is = let clash : None ≡ Some its = sym none ∙ is in cc

maintain_called_hand : (shape : Shape) (p : Places) (m : MaintainState) (step : Maintaining) (done : Bool) (bytes : List ℕ) (its : Action) → m.step ≡ step
    → maintain_hand (maintaining_called shape p m step done bytes) (maintaining_called shape p m step done bytes).step ≡ Some its → maintain_hand m m.step ≡ Some its
unfolding maintaining_called
maintain_called_hand shape p m maintaining.Flushes true bytes its at is =
    some_none _ its (flushed_none (record m { bytes = bytes_done m.flushing m.bytes; flushing = flush_done shape.page m.flushing true }) (flush_told shape p (flush_done shape.page m.flushing true)) at) is
maintain_called_hand shape p m maintaining.Flushes false bytes its at is = cc
maintain_called_hand shape p m maintaining.Serves true bytes its at is = some_none _ its (served_none (record m { serving = serve_read m.serving bytes }) (serve_ask (serve_read m.serving bytes)) at) is
maintain_called_hand shape p m maintaining.Serves false bytes its at is = cc
maintain_called_hand shape p m maintaining.Scans done bytes its at is = is
maintain_called_hand shape p m maintaining.Claims done bytes its at is = is
maintain_called_hand shape p m maintaining.Shifts done bytes its at is = is
maintain_called_hand shape p m maintaining.Turns done bytes its at is = is
maintain_called_hand shape p m maintaining.Through done bytes its at is = is
maintain_called_hand shape p m maintaining.Spent done bytes its at is = is
maintain_called_hand shape p m maintaining.Broken done bytes its at is = is

-- ---- the keeper
abbrev pub HasNone : KeeperState → Type 0
HasNone s = keeper_hand s ≡ None

stays_none : (s : KeeperState) (step : Keeping) → s.step ≡ step → keeping_hand s step ≡ None → HasNone s
stays_none s step at none = subst (λ x. keeping_hand s x ≡ None) (sym at) none

either_none : (c : Bool) (a b : KeeperState) → HasNone a → HasNone b → HasNone (if c then a else b)
either_none true a b one other = one
either_none false a b one other = other

started_none : (s : KeeperState) (ask : Ask StartAnswer) → s.step ≡ Starts → HasNone (start_ledto s ask)
unfolding start_ledto
started_none s (Done (start.Begun number first)) at = refl
started_none s (Done (start.Refused why)) at = refl
started_none s (Done start.Idle) at = refl
started_none s ask at = stays_none s Starts at refl

maintained_none : (s : KeeperState) (ask : Ask MaintainAnswer) → s.step ≡ Maintains → TurnHasNone s.maintain → HasNone (maintain_ledto s ask)
unfolding maintain_ledto
maintained_none s (Done maintain.Through) at none = refl
maintained_none s (Done maintain.Spent) at none = refl
maintained_none s (Done maintain.Broken) at none = refl
maintained_none s (Done maintain.Device) at none = stays_none s Maintains at none
maintained_none s ask at none = stays_none s Maintains at none

copies_none : (p : Places) (s : KeeperState) (granted : Bool) → HasNone (copies p s granted)
copies_none p s granted = either_none (granted || is_copy_resting s.copy) (record s { copy = copy_taken p s.copy; is_granted = true; step = Copies }) (ended (record s { is_granted = false }) (TurnRefused fault.Memory)) refl refl

copies_next_none : (p : Places) (s : KeeperState) (c : Commit) (granted : Bool) (other : KeeperState) → HasNone other → HasNone (copies_next p s c granted other)
copies_next_none p s c granted other none = either_none c.is_copied other (copies p s granted) none (copies_none p s granted)

part_none : (p : Places) (s : KeeperState) (c : Commit) (said : PhaseSaid) (granted : Bool) → HasNone (part_begun p s c said granted)
part_none p s c (Says phase.InProgress version) granted =
    either_none s.has_entered (copies_next p s c granted (turned s)) (record s { enter = enter_begun s.enter c.number; step = Enters }) (copies_next_none p s c granted (turned s) refl) refl
part_none p s c (Says phase.WaitPending version) granted = copies_next_none p s c granted (record s { seek = seek_begun s.seek c.number s.last.points; has_points = false; step = Seeks }) refl
part_none p s c (Says phase.WaitFlush version) granted = either_none s.has_points (record s { wait = wait_begun c.end c.epoch; step = Waits }) (turned s) refl refl
part_none p s c said granted = refl

-- where a flush rests the turn is over
lets_none : (s : KeeperState) (granted : Bool) (its : KeeperState) → HasNone its → HasNone (unless_flush_rests s granted its)
lets_none s granted its none = either_none (is_flush_resting s.maintain) (turned (record s { is_granted = granted })) its refl none

phase_none : (p : Places) (s : KeeperState) (found : Option Commit) (said : PhaseSaid) (granted : Bool) → HasNone (phase_ledto p s found said granted)
unfolding phase_ledto
phase_none p s None said granted = lets_none s granted (sweeps_next s granted) (sweep_begins HasNone s granted refl refl)
phase_none p s (Some c) said granted =
    either_none s.rests (writes_taken_up s granted) (unless_flush_rests s granted (part_begun p s c said granted))
    (either_none granted (record s { rests = false; is_granted = true; step = Writes }) (turned (record s { is_granted = false })) refl refl) (lets_none s granted (part_begun p s c said granted) (part_none p s c said granted))

entered_none : (s : KeeperState) (ask : Ask EnterAnswer) → s.step ≡ Enters → HasNone (enter_ledto s ask)
unfolding enter_ledto
entered_none s (Done enter.Entered) at = refl
entered_none s (Done its) at = refl
entered_none s ask at = stays_none s Enters at refl

copied_none : (s : KeeperState) (ask : Ask (Unit {0})) → s.step ≡ Copies → HasNone (copy_ledto s ask)
unfolding copy_ledto
copied_none s (Done its) at = refl
copied_none s ask at = stays_none s Copies at refl

sought_none : (s : KeeperState) (ask : Ask SeekAnswer) → s.step ≡ Seeks → HasNone (seek_ledto s ask)
unfolding seek_ledto
sought_none s (Done (seek.Taken end epoch)) at = refl
sought_none s (Done its) at = refl
sought_none s ask at = stays_none s Seeks at refl

writes_none : (shape : Shape) (s : KeeperState) (found : Option Commit) → HasNone (writes_begun shape s found)
writes_none shape s None = refl
writes_none shape s (Some c) = refl

waited_none : (shape : Shape) (s : KeeperState) (ask : Ask WaitAnswer) → s.step ≡ Waits → HasNone (wait_ledto shape s ask)
unfolding wait_ledto
waited_none shape s (Done wait.Flushed) at = writes_none shape s s.commit
waited_none shape s (Done its) at = refl
waited_none shape s ask at = stays_none s Waits at refl

finished_none : (s : KeeperState) (found : Option Commit) → HasNone (finished s found)
finished_none s None = refl
finished_none s (Some c) = refl

finish_none : (s : KeeperState) (ask : Ask FinishAnswer) → s.step ≡ Finishes → HasNone (finish_ledto s ask)
unfolding finish_ledto
finish_none s (Done its) at = finished_none s s.commit
finish_none s ask at = stays_none s Finishes at refl

next_none : (shape : Shape) (p : Places) (s : KeeperState) (step : Keeping) (reply : ℕ) (granted : Bool) → s.step ≡ step → HasNone (keeping_next shape p s step reply granted)
unfolding keeping_next
next_none shape p s (Ended told) reply granted at = stays_none s (Ended told) at refl
next_none shape p s Starts reply granted at = started_none (record s { start = start_next s.start reply }) _ at
next_none shape p s Maintains reply granted at = maintained_none (record s { maintain = maintain_next shape p s.maintain reply }) _ at (maintain_none shape p s.maintain s.maintain.step reply refl)
next_none shape p s LoadsPhase reply granted at = phase_none p s s.commit (phase_said reply) granted
next_none shape p s Enters reply granted at = entered_none (record s { enter = enter_next s.enter reply }) _ at
next_none shape p s Copies reply granted at = copied_none (record s { copy = copy_driven s.copy reply }) _ at
next_none shape p s Seeks reply granted at = sought_none (record s { seek = seek_next s.seek reply }) _ at
next_none shape p s Waits reply granted at = waited_none shape (record s { wait = wait_next s.wait reply }) _ at
next_none shape p s Writes reply granted at = stays_none s Writes at refl
next_none shape p s Finishes reply granted at = finish_none (record s { finish = finish_next s.finish reply }) _ at
next_none shape p s Sweeps reply granted at = sweep_moves HasNone s reply (λ w. stays_none (record s { sweep = w }) Sweeps at refl) (λ w. refl)

pub keeper_next_none : (shape : Shape) (p : Places) (s : KeeperState) (reply : ℕ) (granted : Bool) → HasNone (keeper_next shape p s reply granted)
keeper_next_none shape p s reply granted = next_none shape p s s.step reply granted refl

-- an action, and a call of the device
maintained_hand : (s : KeeperState) (ask : Ask MaintainAnswer) (its : Action) → s.step ≡ Maintains → keeper_hand (maintain_ledto s ask) ≡ Some its → maintain_hand s.maintain s.maintain.step ≡ Some its
unfolding maintain_ledto
maintained_hand s (Done maintain.Through) its at is = cc
maintained_hand s (Done maintain.Spent) its at is = cc
maintained_hand s (Done maintain.Broken) its at is = cc
maintained_hand s (Done maintain.Device) its at is = subst (λ x. keeping_hand s x ≡ Some its) at is
maintained_hand s ask its at is = subst (λ x. keeping_hand s x ≡ Some its) at is

given_hand : (shape : Shape) (p : Places) (s : KeeperState) (step : Keeping) (action its : Action) → s.step ≡ step → HasNone s → keeping_hand s step ≡ None → keeper_hand (keeping_given shape p s step action) ≡ Some its → its ≡ action
unfolding keeping_given
given_hand shape p s Maintains action its at had none is =
    maintain_given_hand s.maintain s.maintain.step action its refl none (maintained_hand (record s { maintain = maintain_given s.maintain action }) (maintain_ask shape p (maintain_given s.maintain action)) its at is)
given_hand shape p s step action its at had none is = some_none (keeper_hand s) its had is

pub keeper_given_hand : (shape : Shape) (p : Places) (s : KeeperState) (action its : Action) → HasNone s → keeper_hand (keeping_given shape p s s.step action) ≡ Some its → its ≡ action
keeper_given_hand shape p s action its none is = given_hand shape p s s.step action its refl none none is

write_none : (s : KeeperState) (found : Option Commit) (answer : WriteAnswer) → s.step ≡ Writes → HasNone (write_ledto s found answer)
unfolding write_ledto
write_none s None answer at = refl
write_none s (Some c) write.Written at = refl
write_none s (Some c) write.Device at = either_none (must_rest s) (turned (record s { rests = true })) s refl (stays_none s Writes at refl)
write_none s (Some c) (write.Broken why) at = stays_none s Writes at refl

writes_called_none : (s : KeeperState) (done : Bool) → s.step ≡ Writes → HasNone (writes_called s done)
writes_called_none s true at = write_none (record s { writes = commit_next s.writes true }) s.commit (commit_answer (commit_next s.writes true)) at
writes_called_none s false at = refl

called_hand : (shape : Shape) (p : Places) (s : KeeperState) (step : Keeping) (done : Bool) (bytes : List ℕ) (its : Action) → s.step ≡ step → keeper_hand (keeping_called shape p s step done bytes) ≡ Some its → keeper_hand s ≡ Some its
unfolding keeping_called
called_hand shape p s Maintains done bytes its at is =
    let inner = maintained_hand (record s { maintain = maintain_called shape p s.maintain done bytes }) (maintain_ask shape p (maintain_called shape p s.maintain done bytes)) its at is in
    subst (λ x. keeping_hand s x ≡ Some its) (sym at) (maintain_called_hand shape p s.maintain s.maintain.step done bytes its refl inner)
called_hand shape p s Writes done bytes its at is = some_none _ its (writes_called_none s done at) is
called_hand shape p s Sweeps done bytes its at is = some_none _ its (sweep_reads HasNone s done bytes (λ w. stays_none (record s { sweep = w }) Sweeps at refl) (λ w. refl) (λ w. refl)) is
called_hand shape p s step done bytes its at is = is

pub keeper_called_hand : (shape : Shape) (p : Places) (s : KeeperState) (done : Bool) (bytes : List ℕ) (its : Action) → keeper_hand (keeping_called shape p s s.step done bytes) ≡ Some its → keeper_hand s ≡ Some its
keeper_called_hand shape p s done bytes its is = called_hand shape p s s.step done bytes its refl is

pub turn_asked_none : (s : KeeperState) → HasNone (turn_asked s)
turn_asked_none s = either_none s.is_broken (ended s (TurnRefused fault.Broken)) (record s { maintain = parts_begun (serves_alone s) s.maintain; is_drain_full = false; step = Maintains }) refl (parts_none (serves_alone s))
  where
    parts_none : (rests : Bool) → maintain_hand (parts_begun rests s.maintain) (parts_begun rests s.maintain).step ≡ None
    parts_none true = refl
    parts_none false = refl

pub commit_asked_none : (s : KeeperState) (kind : CommitKind) → HasNone (commit_asked s kind)
commit_asked_none s kind =
    either_none s.is_broken (ended s (CommitRefused fault.Broken)) (if s.rests then ended s (CommitRefused fault.CommitRunning) else record s { start = start_begun s.start (asked_for s kind); step = Starts }) refl
    (either_none s.rests (ended s (CommitRefused fault.CommitRunning)) (record s { start = start_begun s.start (asked_for s kind); step = Starts }) refl refl)

-- ---- what it puts
-- the action that is out in the stage to which it leads, behind one of the same phase where none was out
pub record PutsPhase (number : Version) (stage after : Stage) (action : Action) : Type 0 where
  pub out : phase_in (Some action) ≡ stage_out number after
  pub none : stage_out number stage ≡ None
  pub stored : is_resting stage ≡ false
  pub phase : stage_phase after ≡ stage_phase stage
  pub version : stage_version number after ≡ stage_version number stage

-- it puts no phase, and the stage stays; or such an action
abbrev pub PutsAt : {A : Type 0} → Version → Stage → Stage → Ask A → Type 0
PutsAt number stage after (Put slot action) = ((phase_in (Some action) ≡ None) × (after ≡ stage)) ⊎ PutsPhase number stage after action
PutsAt number stage after ask = ⊤

none_puts_at : {A : Type 0} (number : Version) (stage after : Stage) (ask : Ask A) → after ≡ stage → PutsNone ask → PutsAt number stage after ask
none_puts_at number stage after (Put slot action) same none = inl (none, same)
none_puts_at number stage after ask same none = tt

passed_puts_at : {A B : Type 0} (number : Version) (stage after : Stage) (ask : Ask A) (its : B) → PutsAt number stage after ask → PutsAt number stage after (passed ask its)
unfolding passed
passed_puts_at number stage after (Put slot action) its puts = puts
passed_puts_at number stage after ask its puts = tt

module _ (number : Version) (its : Deferred) (before out after : Stage) (target : phase_in (Some (action_of its)) ≡ stage_out number out) (none : stage_out number before ≡ None) (stored : is_resting before ≡ false)
    (same_phase : stage_phase out ≡ stage_phase before) (same_version : stage_version number out ≡ stage_version number before) where
  defer_puts_at : (stage : Stage) (d : DeferState) (step : Deferring) → DefersAt its before out after stage step → PutsAt number stage (defer_moves stage out step) (deferring_ask d step)
  unfolding deferring_ask
  defer_puts_at stage d (defer.Ended told) is = tt
  defer_puts_at stage d defer.Seeks is = none_puts_at number stage stage _ refl (passed_puts (raise_ask d.raising) NoSlot (raise_puts d.raising))
  defer_puts_at stage d defer.Holds is = tt
  defer_puts_at stage d (defer.Raises other) is = none_puts_at number stage stage _ refl (passed_puts (raise_ask d.raising) NoSlot (raise_puts d.raising))
  defer_puts_at stage d (defer.Puts other slot epoch) is = inr (record {
    out = ap (λ (x : Deferred). phase_in (Some (action_of x))) is.0 ∙ target;
    none = ap (λ (x : Stage). stage_out number x) is.1 ∙ none;
    stored = ap is_resting is.1 ∙ stored;
    phase = same_phase ∙ sym (ap stage_phase is.1);
    version = same_version ∙ sym (ap (λ (x : Stage). stage_version number x) is.1);
  })
  defer_puts_at stage d (defer.Arms epoch) is = none_puts_at number stage stage _ refl (passed_puts (arm_ask d.arming) (Armed epoch) (arm_puts d.arming))

read_only_puts : (d : DeferState) (step : Deferring) → DefersReadOnly step → PutsNone (deferring_ask d step)
unfolding deferring_ask
read_only_puts d (defer.Ended told) is = tt
read_only_puts d defer.Seeks is = passed_puts (raise_ask d.raising) NoSlot (raise_puts d.raising)
read_only_puts d defer.Holds is = tt
read_only_puts d (defer.Raises other) is = passed_puts (raise_ask d.raising) NoSlot (raise_puts d.raising)
read_only_puts d (defer.Puts (ShowsReadOnly to) slot epoch) is = refl
read_only_puts d (defer.Puts (EntersPhase phase version) slot epoch) is = absurd is
read_only_puts d (defer.Arms epoch) is = passed_puts (arm_ask d.arming) (Armed epoch) (arm_puts d.arming)

seeking_puts : (d : DeferState) (step : Deferring) → step ≡ defer.Seeks → PutsNone (deferring_ask d step)
seeking_puts d step at = read_only_puts d step (subst (λ (x : Deferring). DefersReadOnly x) (sym at) tt)

start_puts_at : (number : Version) (stage : Stage) (s : StartState) (step : Starting) → StartAt number stage s step → PutsAt number stage (start_moves stage s step) (starting_ask s step)
unfolding starting_ask
start_puts_at number stage s (starting.Ended told) is = tt
start_puts_at number stage s starting.LoadsPhase is = tt
start_puts_at number stage s (starting.Seeks its) is = none_puts_at number stage stage _ refl (passed_puts (defer_ask s.defer) start.Idle (seeking_puts s.defer s.defer.step is.2))
start_puts_at number stage s (starting.StoresPrepare its) is = tt
start_puts_at number stage s (starting.LoadsTail its) is = tt
start_puts_at number stage s (starting.Defers its first) is =
    passed_puts_at number stage (defer_moves stage DefersProgress s.defer.step) (defer_ask s.defer) start.Idle
    (defer_puts_at number (EntersPhase phase.InProgress (version_after number)) Prepares DefersProgress Progresses refl refl refl refl refl stage s.defer s.defer.step is.1)

enter_puts_at : (number : Version) (stage : Stage) (s : EnterState) (step : Entering) → EnterAt number stage s step → PutsAt number stage (enter_moves stage s step) (entering_ask s step)
unfolding entering_ask
enter_puts_at number stage s (entering.Ended told) is = tt
enter_puts_at number stage s entering.Seeks is = none_puts_at number stage stage _ refl (passed_puts (defer_ask s.defer) enter.Idle (seeking_puts s.defer s.defer.step is.1))
enter_puts_at number stage s entering.Defers is =
    passed_puts_at number stage (defer_moves stage DefersPending s.defer.step) (defer_ask s.defer) enter.Idle
    (defer_puts_at number (EntersPhase phase.WaitPending (version_after number)) Progresses DefersPending Pends refl refl refl refl refl stage s.defer s.defer.step is.0)

seek_puts_at : (number : Version) (stage : Stage) (s : SeekState) (step : Seeking) → SeekAt number stage s step → PutsAt number stage (seek_moves stage step) (seeking_ask s step)
unfolding seeking_ask
seek_puts_at number stage s seeking.SeeksSlot is = none_puts_at number stage stage _ refl (passed_puts (defer_ask s.defer) seek.Idle (seeking_puts s.defer s.defer.step is.1))
seek_puts_at number stage s (seeking.Defers end) is = none_puts_at number stage stage _ refl (passed_puts (defer_ask s.defer) seek.Idle (read_only_puts s.defer s.defer.step is.1))
seek_puts_at number stage s step is = tt

flush_puts : (p : Places) (step : Flushing) → PutsNone (flush_ask p step)
unfolding flush_ask
flush_puts p flush.AtRest = tt
flush_puts p step = tt

serve_puts : (step : Serving) → PutsNone (serve_ask step)
unfolding serve_ask
serve_puts serve.AtRest = tt
serve_puts step = tt

device_puts : (ask : Ask DeviceAnswer) → PutsNone ask → PutsNone (device_asked ask)
unfolding device_asked passed
device_puts (Done device.Device) puts = tt
device_puts (Done device.Through) puts = tt
device_puts (Put slot action) puts = puts
device_puts ask puts = tt

maintain_puts : (shape : Shape) (p : Places) (m : MaintainState) (step : Maintaining) → PutsNone (maintaining_ask shape p m step)
unfolding maintaining_ask
maintain_puts shape p m maintaining.Scans = passed_puts (scan_ask m.scanning) maintain.Through (scan_puts m.scanning)
maintain_puts shape p m maintaining.Claims = passed_puts (claim_ask m.claiming) maintain.Through (claim_puts m.claiming)
maintain_puts shape p m maintaining.Flushes = device_puts (flush_ask p m.flushing) (flush_puts p m.flushing)
maintain_puts shape p m maintaining.Shifts = passed_puts _ maintain.Through (shift_puts m.shift.step m.shift.mover)
maintain_puts shape p m maintaining.Turns = passed_puts _ maintain.Through (turn_puts shape m.turn.step m.turn.mover)
maintain_puts shape p m maintaining.Serves = device_puts (serve_ask m.serving) (serve_puts m.serving)
maintain_puts shape p m maintaining.Through = tt
maintain_puts shape p m maintaining.Spent = tt
maintain_puts shape p m maintaining.Broken = tt

turn_puts_at : (ask : Ask MaintainAnswer) (told : KeeperTold) → PutsNone ask → PutsNone (device_passed ask told)
unfolding device_passed passed
turn_puts_at (Done maintain.Device) told puts = tt
turn_puts_at (Done maintain.Through) told puts = tt
turn_puts_at (Done maintain.Spent) told puts = tt
turn_puts_at (Done maintain.Broken) told puts = tt
turn_puts_at (Put slot action) told puts = puts
turn_puts_at ask told puts = tt

copy_step_puts : (base : ℕ) (step : CopyStep) → PutsNone (copy_step_ask base step)
unfolding copy_step_ask
copy_step_puts base copy.Ended = tt
copy_step_puts base (copy.LoadsSlot slot) = tt
copy_step_puts base copy.LoadsLink = tt

copy_puts : (its : Option Copier) → PutsNone (copy_asked its)
copy_puts None = tt
copy_puts (Some m) = copy_step_puts m.copying.base m.copying.step

find_puts : (its : Finding) (step : FindStep) → PutsNone (find_step_ask its step)
unfolding find_step_ask
find_puts its find.AtRest = tt
find_puts its (find.LoadsSlot slot) = tt
find_puts its find.LoadsLink = tt
find_puts its (find.LoadsTaken word) = tt
find_puts its (find.TakesBucket word taken) = tt
find_puts its (find.LinksBucket word) = tt

sweep_puts : (w : Sweeper) (step : Sweeping) → PutsNone (sweeping_ask w step)
unfolding sweeping_ask
sweep_puts w sweeping.AtRest = tt
sweep_puts w sweeping.LoadsHead = tt
sweep_puts w sweeping.Takes = tt
sweep_puts w sweeping.Meets = tt
sweep_puts w (sweeping.Finds key) = passed_puts (find_ask w.finding) sweep.Through (find_puts w.finding w.finding.step)
sweep_puts w (sweeping.LoadsKey key addr) = tt
sweep_puts w (sweeping.LoadsHeader key addr) = tt
sweep_puts w (sweeping.Reads key addr) = tt

swept_puts : (ask : Ask SweepAnswer) (told : KeeperTold) → PutsNone ask → PutsNone (sweep_passed ask told)
unfolding sweep_passed passed
swept_puts (Done sweep.Device) told puts = tt
swept_puts (Done sweep.Through) told puts = tt
swept_puts (Put slot action) told puts = puts
swept_puts ask told puts = tt

write_puts : (answer : WriteAnswer) (told : KeeperTold) → PutsNone (write_asked answer told)
write_puts write.Device told = tt
write_puts write.Written told = tt
write_puts (write.Broken why) told = tt

wait_puts : (step : Waiting) → PutsNone (waiting_ask step)
unfolding waiting_ask
wait_puts (waiting.Ended its) = tt
wait_puts waiting.LoadsSafe = tt
wait_puts waiting.LoadsFlushed = tt

finish_puts_at : (number : Version) (stage after : Stage) (points : List Serial) (s : FinishState) (step : Finishing) (told : KeeperTold) → PutsAt number stage after (passed (finishing_ask points s step) told)
unfolding finishing_ask passed
finish_puts_at number stage after points s (finishing.Ended its) told = tt
finish_puts_at number stage after points s (finishing.StoresDurable session) told = tt
finish_puts_at number stage after points s finishing.StoresRest told = tt

keeping_puts_at : (number : Version) (stage : Stage) (shape : Shape) (p : Places) (s : KeeperState) (step : Keeping) → StepAt number stage s step → PutsAt number stage (keeping_moves stage s step) (keeping_ask shape p s step)
unfolding keeping_ask
keeping_puts_at number stage shape p s (Ended told) is = tt
keeping_puts_at number stage shape p s Starts is = passed_puts_at number stage (start_moves stage s.start s.start.step) _ _ (start_puts_at number stage s.start s.start.step is)
keeping_puts_at number stage shape p s Maintains is = none_puts_at number stage stage _ refl (turn_puts_at (maintain_ask shape p s.maintain) _ (maintain_puts shape p s.maintain s.maintain.step))
keeping_puts_at number stage shape p s LoadsPhase is = tt
keeping_puts_at number stage shape p s Enters is = passed_puts_at number stage (enter_moves stage s.enter s.enter.step) _ _ (enter_puts_at number stage s.enter s.enter.step is.1)
keeping_puts_at number stage shape p s Copies is = none_puts_at number stage stage _ refl (passed_puts _ _ (copy_puts s.copy))
keeping_puts_at number stage shape p s Seeks is = passed_puts_at number stage (seek_moves stage s.seek.step) _ _ (seek_puts_at number stage s.seek s.seek.step is.1)
keeping_puts_at number stage shape p s Waits is = none_puts_at number stage stage _ refl (passed_puts _ _ (wait_puts s.wait.step))
keeping_puts_at number stage shape p s Writes is = none_puts_at number stage stage _ refl (write_puts (commit_answer s.writes) _)
keeping_puts_at number stage shape p s Finishes is = finish_puts_at number stage _ s.seek.points s.finish s.finish.step _
keeping_puts_at number stage shape p s Sweeps is = none_puts_at number stage stage _ refl (swept_puts (sweep_ask s.sweep) _ (sweep_puts s.sweep s.sweep.step))

pub keeper_puts_at : (number : Version) (stage : Stage) (shape : Shape) (p : Places) (s : KeeperState) → StepAt number stage s s.step → PutsAt number stage (keeping_moves stage s s.step) (keeping_ask shape p s s.step)
keeper_puts_at number stage shape p s is = keeping_puts_at number stage shape p s s.step is
