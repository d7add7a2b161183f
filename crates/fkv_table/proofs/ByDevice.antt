-- The keeper ends a turn with `Device` at a call of the device that has failed, and nowhere else.
use Rattle.std.proofs.Common.{◌≡◌, ℕ, ◌+◌, refl, sym, ap, subst, ◌∙◌, Bool, true, false, not, arith}
use Rattle.std.specs.Prelude.{List, Option, Some, None, Result, Ok, Err, IsErr, ◌&&◌, ◌||◌, if◌then◌else◌}
use Rattle.atomic_table.specs.Table.{Me}
use Rattle.fkv_base.specs.declared.faults.Fault.{Fault}
use Rattle.fkv_base.specs.declared.faults.Fault.TheVariants as fault
use Rattle.fkv_base.specs.declared.phases.Phase.TheVariants as phase
use Rattle.fkv_base.specs.declared.shapes.Shape.{Shape}
use Rattle.fkv_disk.specs.Asks.{AskedCall, kinds_by}
use Rattle.fkv_disk.specs.Device.{HasCause, MakesCalls}
use Rattle.fkv_disk.specs.Kinds.{Foretold, Kind}
use Rattle.fkv_disk.proofs.Shown.{more_calls, no_call}
use Rattle.law_world.specs.Below.fkv_words.PhaseSaid.{PhaseSaid}
use Rattle.law_world.specs.Below.fkv_words.PhaseSaid.TheVariants.{Says}
use Rattle.law_world.specs.Below.fkv_words.PhaseWords.{phase_said}
use Rattle.fkv_plane.specs.Passing.{is_done, passed}
use Rattle.fkv_plane.specs.declared.actions.Action.{Action}
use Rattle.fkv_plane.specs.declared.asks.Ask.{Ask}
use Rattle.fkv_plane.specs.declared.asks.Ask.TheVariants.{Load, Store, Swap, Cas, Add, Max, Put, Take, Done}
use Rattle.fkv_plane.specs.declared.places.Places.{Places}
use Rattle.fkv_plane.specs.Asked.{asked_place}
use Rattle.fkv_epoch.specs.Claiming.{claim_ask, claim_given, claim_next}
use Rattle.fkv_epoch.specs.Scanning.{scan_ask, scan_next}
use Rattle.law_world.specs.Below.fkv_commit.Commit.{Commit}
use Rattle.law_world.specs.Below.fkv_commit.EnterAnswer.{EnterAnswer}
use Rattle.law_world.specs.Below.fkv_commit.EnterAnswer.TheVariants as enter
use Rattle.law_world.specs.Below.fkv_commit.Entering.{enter_ask, enter_next}
use Rattle.law_world.specs.Below.fkv_commit.FinishAnswer.{FinishAnswer}
use Rattle.law_world.specs.Below.fkv_commit.Finishing.{finish_ask, finish_next}
use Rattle.law_world.specs.Below.fkv_commit.SeekAnswer.{SeekAnswer}
use Rattle.law_world.specs.Below.fkv_commit.SeekAnswer.TheVariants as seek
use Rattle.law_world.specs.Below.fkv_commit.Seeking.{seek_ask, seek_next}
use Rattle.law_world.specs.Below.fkv_commit.StartAnswer.{StartAnswer}
use Rattle.law_world.specs.Below.fkv_commit.StartAnswer.TheVariants as start
use Rattle.law_world.specs.Below.fkv_commit.Starting.{start_ask, start_next}
use Rattle.law_world.specs.Below.fkv_commit.WaitAnswer.{WaitAnswer}
use Rattle.law_world.specs.Below.fkv_commit.WaitAnswer.TheVariants as wait
use Rattle.law_world.specs.Below.fkv_commit.Waiting.{wait_ask, wait_next}
use Rattle.fkv_flush.specs.declared.answers.DeviceAnswer.{DeviceAnswer}
use Rattle.fkv_flush.specs.declared.answers.DeviceAnswer.TheVariants as device
use Rattle.fkv_flush.specs.Flushing.{bytes_done, bytes_next, flush_ask, flush_done, flush_next}
use Rattle.fkv_flush.specs.Serving.{mailbox_from, serve_ask, serve_next, serve_read}
use Rattle.law_world.specs.Below.fkv_log.MoveAnswer.{MoveAnswer}
use Rattle.law_world.specs.Below.fkv_log.MoveAnswer.TheVariants as moved
use Rattle.law_world.specs.Below.fkv_log.ShiftAnswer.{ShiftAnswer}
use Rattle.law_world.specs.Below.fkv_log.ShiftAnswer.TheVariants as shift
use Rattle.law_world.specs.Below.fkv_log.Shifting.{shift_ask, shift_next, shift_next_ask}
use Rattle.law_world.specs.Below.fkv_log.Turning.{turn_ask, turn_next, turn_next_ask}
use Rattle.law_world.specs.Below.fkv_maintain.MaintainAnswer.TheVariants as answer
use Rattle.law_world.specs.Below.fkv_maintain.Maintaining.{MaintainState, claim_ledto, device_asked, flush_ledto, flush_told, is_flush_resting, maintain_called, maintain_given, maintain_next, maintaining_ask, maintaining_called, maintaining_given, maintaining_next, scan_ledto, serve_begun, serve_ledto, shift_ledto, turn_ledto}
use Rattle.law_world.specs.Below.fkv_maintain.TheMaintaining.{Maintaining}
use Rattle.law_world.specs.Below.fkv_maintain.TheMaintaining.TheVariants.{Through, Spent, Broken, Scans, Claims, Flushes, Shifts, Turns, Serves}
use Rattle.law_world.specs.Below.fkv_manifest.Committing.{commit_answer, commit_next}
use Rattle.law_world.specs.Below.fkv_manifest.WriteAnswer.{WriteAnswer}
use Rattle.law_world.specs.Below.fkv_manifest.WriteAnswer.TheVariants as write
use Rattle.law_world.specs.Below.fkv_world.Moves.{keeper_gets}
use Rattle.law_world.specs.Below.fkv_world.Runs.{World}
use Rattle.fkv_keeper.specs.declared.answers.KeeperTold.{KeeperTold}
use Rattle.fkv_keeper.specs.declared.answers.KeeperTold.TheVariants.{Begun, CommitRefused, Device, Turned, TurnRefused}
use Rattle.fkv_keeper.specs.declared.answers.Turn.{Turn}
use Rattle.fkv_keeper.specs.declared.keepers.Keeping.{Keeping}
use Rattle.fkv_keeper.specs.declared.keepers.Keeping.TheVariants.{Copies, Ended, Enters, Finishes, LoadsPhase, Maintains, Seeks, Starts, Sweeps, Waits, Writes}
use Rattle.fkv_keeper.specs.KeeperAsks.{keeper_calls_asked}
use Rattle.fkv_keeper.specs.KeeperRun.{is_in_hand}
use Rattle.fkv_keeper.specs.Keeping.{Finality, KeeperModel, KeeperState, copies, copies_next, copy_driven, copy_ledto, copy_taken, copy_told, device_passed, ended, enter_ledto, finish_ledto, finished, is_copy_resting, keeper_ask, keeper_called, keeper_next, keeper_word_due, keeping_ask, keeping_called, keeping_given, keeping_next, maintain_ledto, must_rest, part_begun, phase_ledto, seek_ledto, start_ledto, sweep_ledto, sweeps_next, turn_asked, turn_over, turned, wait_ledto, write_ledto, writes_begun, writes_taken_up, unless_flush_rests}
use Rattle.fkv_keeper.proofs.Shown.{due_asks}
use Rattle.fkv_keeper.specs.Running.{IsTurnTold}
use Rattle.fkv_keeper.specs.WholeCalls.{calls_told}
use Rattle.fkv_sweep.specs.declared.sweeping.SweepAnswer.{SweepAnswer}
use Rattle.fkv_sweep.specs.declared.sweeping.SweepAnswer.TheVariants as sweep
use Rattle.fkv_sweep.specs.Sweeping.{is_sweeping, sweep_ask, sweep_next, sweep_read, turn_begun}
use Rattle.fkv_table.specs.Desks.{Slot, Knows}
use Rattle.fkv_table.specs.Keeps.{KeeperReplied, KeeperSettled}
use Rattle.fkv_table.specs.Turns.{IsCounted, ended_by_device, told_by_device}

-- ---- what every turn does
-- the device has failed in none of its parts
abbrev Works : Maintaining → Type 0
Works Broken = ⊥
Works step = Unit {0}

still : (s : MaintainState) (step : Maintaining) → s.step ≡ step → Works step → Works s.step
still s step e works = subst Works (sym e) works

scan_led : (s : MaintainState) (ask : Ask (Unit {0})) → s.step ≡ Scans → Works (scan_ledto s ask).step
unfolding scan_ledto
scan_led s (Done its) e = tt
scan_led s ask e = still s Scans e tt

claim_led : (s : MaintainState) (ask : Ask (Unit {0})) → s.step ≡ Claims → Works (claim_ledto s ask).step
unfolding claim_ledto
claim_led s (Done its) e = tt
claim_led s ask e = still s Claims e tt

flush_led : (s : MaintainState) (ask : Ask DeviceAnswer) → s.step ≡ Flushes → Works (flush_ledto s ask).step
unfolding flush_ledto
flush_led s (Done device.Through) e = tt
flush_led s ask e = still s Flushes e tt

shift_led : (s : MaintainState) (ask : Ask ShiftAnswer) → s.step ≡ Shifts → Works (shift_ledto s ask).step
unfolding shift_ledto
shift_led s (Done (shift.Through tail)) e = tt
shift_led s (Done (shift.NoSlot tail)) e = tt
shift_led s (Done (shift.Spent tail)) e = tt
shift_led s ask e = still s Shifts e tt

serve_led : (s : MaintainState) (ask : Ask DeviceAnswer) → s.step ≡ Serves → Works (serve_ledto s ask).step
unfolding serve_ledto
serve_led s (Done device.Through) e = tt
serve_led s ask e = still s Serves e tt

served : (shape : Shape) (s : MaintainState) → Works (serve_begun shape s).step
served shape s = serve_led (record s { serving = mailbox_from shape.sessions 0; step = Serves }) (serve_ask (mailbox_from shape.sessions 0)) refl

turn_led : (shape : Shape) (s : MaintainState) (ask : Ask MoveAnswer) → s.step ≡ Turns → Works (turn_ledto shape s ask).step
unfolding turn_ledto
turn_led shape s (Done moved.Through) e = served shape s
turn_led shape s (Done moved.NoSlot) e = served shape (record s { is_drain_full = true })
turn_led shape s (Done moved.Spent) e = tt
turn_led shape s ask e = still s Turns e tt

replied_at : (shape : Shape) (p : Places) (s : MaintainState) (step : Maintaining) (reply : ℕ) → s.step ≡ step → Works step → Works (maintaining_next shape p s step reply).step
unfolding maintaining_next
replied_at shape p s Scans reply e works = scan_led (record s { scanning = scan_next shape.sessions s.scanning reply }) (scan_ask (scan_next shape.sessions s.scanning reply)) e
replied_at shape p s Claims reply e works = claim_led (record s { claiming = claim_next s.claiming reply }) (claim_ask (claim_next s.claiming reply)) e
replied_at shape p s Flushes reply e works =
    flush_led (record s { bytes = bytes_next s.flushing s.bytes reply; flushing = flush_next shape.page s.flushing reply }) (flush_ask p (flush_next shape.page s.flushing reply)) e
replied_at shape p s Shifts reply e works = shift_led (record s { shift = shift_next shape s.shift reply }) (shift_next_ask shape s.shift reply) e
replied_at shape p s Turns reply e works = turn_led shape (record s { turn = turn_next shape s.turn reply }) (turn_next_ask shape s.turn reply) e
replied_at shape p s Serves reply e works = serve_led (record s { serving = serve_next shape.sessions s.begin.0 s.serving reply }) (serve_ask (serve_next shape.sessions s.begin.0 s.serving reply)) e
replied_at shape p s Broken reply e works = absurd works
replied_at shape p s Through reply e works = still s Through e tt
replied_at shape p s Spent reply e works = still s Spent e tt

given_at : (s : MaintainState) (step : Maintaining) (action : Action) → s.step ≡ step → Works step → Works (maintaining_given s step action).step
unfolding maintaining_given
given_at s Claims action e works = claim_led (record s { claiming = claim_given s.claiming action }) (claim_ask (claim_given s.claiming action)) e
given_at s step action e works = still s step e works

called_at : (shape : Shape) (p : Places) (s : MaintainState) (step : Maintaining) (bytes : List ℕ) → s.step ≡ step → Works step → Works (maintaining_called shape p s step true bytes).step
unfolding maintaining_called
called_at shape p s Flushes bytes e works = flush_led (record s { bytes = bytes_done s.flushing s.bytes; flushing = flush_done shape.page s.flushing true }) (flush_told shape p (flush_done shape.page s.flushing true)) e
called_at shape p s Serves bytes e works = serve_led (record s { serving = serve_read s.serving bytes }) (serve_ask (serve_read s.serving bytes)) e
called_at shape p s step bytes e works = still s step e works

-- ---- what the keeper makes of it
rests : (t : KeeperState) (step : Keeping) → t.step ≡ step → ended_by_device step ≡ false → ended_by_device t.step ≡ false
rests t step e none = ap ended_by_device e ∙ none

passed_led : {A : Type 0} (t : KeeperState) (ask : Ask A) → t.step ≡ Maintains → ended_by_device (maintain_ledto t (passed ask answer.Through)).step ≡ false
unfolding maintain_ledto passed
passed_led t (Load place) e = rests t Maintains e refl
passed_led t (Store place new) e = rests t Maintains e refl
passed_led t (Swap place new) e = rests t Maintains e refl
passed_led t (Cas place old new) e = rests t Maintains e refl
passed_led t (Add place more) e = rests t Maintains e refl
passed_led t (Max place more) e = rests t Maintains e refl
passed_led t (Put slot action) e = rests t Maintains e refl
passed_led t (Take slot) e = rests t Maintains e refl
passed_led t (Done its) e = refl

device_led : (t : KeeperState) (ask : Ask DeviceAnswer) → t.step ≡ Maintains → ended_by_device (maintain_ledto t (device_asked ask)).step ≡ false
unfolding maintain_ledto device_asked
device_led t (Done device.Device) e = rests t Maintains e refl
device_led t ask e = passed_led t ask e

part_led : (shape : Shape) (p : Places) (t : KeeperState) (m : MaintainState) (step : Maintaining) → t.step ≡ Maintains → Works step → ended_by_device (maintain_ledto t (maintaining_ask shape p m step)).step ≡ false
unfolding maintain_ledto maintaining_ask
part_led shape p t m Through e works = refl
part_led shape p t m Spent e works = refl
part_led shape p t m Broken e works = absurd works
part_led shape p t m Scans e works = passed_led t (scan_ask m.scanning) e
part_led shape p t m Claims e works = passed_led t (claim_ask m.claiming) e
part_led shape p t m Flushes e works = device_led t (flush_ask p m.flushing) e
part_led shape p t m Shifts e works = passed_led t (shift_ask m.shift) e
part_led shape p t m Turns e works = passed_led t (turn_ask shape m.turn) e
part_led shape p t m Serves e works = device_led t (serve_ask m.serving) e

-- a part of a turn is under way
works_on : (shape : Shape) (p : Places) (m : MaintainState) (step : Maintaining) (told : KeeperTold) → is_done (device_passed (maintaining_ask shape p m step) told) ≡ false → Works step
unfolding maintaining_ask device_passed passed
works_on shape p m Broken told on = cc
works_on shape p m Through told on = tt
works_on shape p m Spent told on = tt
works_on shape p m Scans told on = tt
works_on shape p m Claims told on = tt
works_on shape p m Flushes told on = tt
works_on shape p m Shifts told on = tt
works_on shape p m Turns told on = tt
works_on shape p m Serves told on = tt

works_at : (shape : Shape) (p : Places) (m : MaintainState) (step : Maintaining) (finished full : Bool) → device_passed (maintaining_ask shape p m step) (Turned finished full) ≡ Done Device → Works step
unfolding maintaining_ask device_passed passed
works_at shape p m Broken finished full asks = cc
works_at shape p m Through finished full asks = tt
works_at shape p m Spent finished full asks = tt
works_at shape p m Scans finished full asks = tt
works_at shape p m Claims finished full asks = tt
works_at shape p m Flushes finished full asks = tt
works_at shape p m Shifts finished full asks = tt
works_at shape p m Turns finished full asks = tt
works_at shape p m Serves finished full asks = tt

either : (b : Bool) (x y : KeeperState) → ended_by_device x.step ≡ false → ended_by_device y.step ≡ false → ended_by_device (if b then x else y).step ≡ false
either true x y one other = one
either false x y one other = other

start_led : (t : KeeperState) (ask : Ask StartAnswer) → t.step ≡ Starts → ended_by_device (start_ledto t ask).step ≡ false
unfolding start_ledto
start_led t (Done (start.Begun number first)) e = refl
start_led t (Done (start.Refused why)) e = refl
start_led t (Done start.Idle) e = refl
start_led t ask e = rests t Starts e refl

copies_by : (p : Places) (s : KeeperState) (granted : Bool) → ended_by_device (copies p s granted).step ≡ false
copies_by p s granted = either (granted || is_copy_resting s.copy) (record s { copy = copy_taken p s.copy; is_granted = true; step = Copies }) (ended (record s { is_granted = false }) (TurnRefused fault.Memory)) refl refl

copies_led : (p : Places) (s : KeeperState) (c : Commit) (granted : Bool) (t : KeeperState) → ended_by_device t.step ≡ false → ended_by_device (copies_next p s c granted t).step ≡ false
copies_led p s c granted t none = either c.is_copied t (copies p s granted) none (copies_by p s granted)

part_begins : (p : Places) (s : KeeperState) (c : Commit) (said : PhaseSaid) (granted : Bool) → ended_by_device (part_begun p s c said granted).step ≡ false
part_begins p s c (Says phase.InProgress version) granted = either s.has_entered _ _ (copies_led p s c granted (turned s) refl) refl
part_begins p s c (Says phase.WaitPending version) granted = copies_led p s c granted _ refl
part_begins p s c (Says phase.WaitFlush version) granted = either s.has_points _ _ refl refl
part_begins p s c said granted = refl

taken_up_led : (s : KeeperState) (granted : Bool) → ended_by_device (writes_taken_up s granted).step ≡ false
taken_up_led s granted = either granted (record s { rests = false; is_granted = true; step = Writes }) (turned (record s { is_granted = false })) refl refl

sweeps_led : (s : KeeperState) (granted : Bool) → ended_by_device (sweeps_next s granted).step ≡ false
sweeps_led s granted =
    either (granted && is_sweeping s.sweep) (record s { sweep = turn_begun s.sweep; is_granted = true; step = Sweeps }) (turned (record s { is_granted = granted })) refl refl

phase_led : (p : Places) (s : KeeperState) (found : Option Commit) (said : PhaseSaid) (granted : Bool) → ended_by_device (phase_ledto p s found said granted).step ≡ false
unfolding phase_ledto
phase_led p s None said granted = either (is_flush_resting s.maintain) (turned (record s { is_granted = granted })) (sweeps_next s granted) refl (sweeps_led s granted)
phase_led p s (Some c) said granted = either s.rests (writes_taken_up s granted) (unless_flush_rests s granted (part_begun p s c said granted)) (taken_up_led s granted)
    (either (is_flush_resting s.maintain) (turned (record s { is_granted = granted })) (part_begun p s c said granted) refl (part_begins p s c said granted))

enter_led : (t : KeeperState) (ask : Ask EnterAnswer) → t.step ≡ Enters → ended_by_device (enter_ledto t ask).step ≡ false
unfolding enter_ledto
enter_led t (Done enter.Entered) e = refl
enter_led t (Done enter.DrainFull) e = refl
enter_led t (Done enter.EpochsSpent) e = refl
enter_led t (Done enter.Idle) e = refl
enter_led t ask e = rests t Enters e refl

copy_led : (t : KeeperState) (ask : Ask (Unit {0})) → t.step ≡ Copies → ended_by_device (copy_ledto t ask).step ≡ false
unfolding copy_ledto
copy_led t (Done its) e = refl
copy_led t ask e = rests t Copies e refl

seek_led : (t : KeeperState) (ask : Ask SeekAnswer) → t.step ≡ Seeks → ended_by_device (seek_ledto t ask).step ≡ false
unfolding seek_ledto
seek_led t (Done (seek.Taken end epoch)) e = refl
seek_led t (Done seek.DrainFull) e = refl
seek_led t (Done seek.EpochsSpent) e = refl
seek_led t (Done seek.Owing) e = refl
seek_led t (Done seek.Idle) e = refl
seek_led t ask e = rests t Seeks e refl

begun_led : (shape : Shape) (t : KeeperState) (found : Option Commit) → ended_by_device (writes_begun shape t found).step ≡ false
begun_led shape t None = refl
begun_led shape t (Some c) = refl

wait_led : (shape : Shape) (t : KeeperState) (ask : Ask WaitAnswer) → t.step ≡ Waits → ended_by_device (wait_ledto shape t ask).step ≡ false
unfolding wait_ledto
wait_led shape t (Done wait.Flushed) e = begun_led shape t t.commit
wait_led shape t (Done wait.NotYet) e = refl
wait_led shape t (Done wait.Idle) e = refl
wait_led shape t ask e = rests t Waits e refl

finished_led : (t : KeeperState) (found : Option Commit) → ended_by_device (finished t found).step ≡ false
finished_led t None = refl
finished_led t (Some c) = refl

finish_led : (t : KeeperState) (ask : Ask FinishAnswer) → t.step ≡ Finishes → ended_by_device (finish_ledto t ask).step ≡ false
unfolding finish_ledto
finish_led t (Done its) e = finished_led t t.commit
finish_led t ask e = rests t Finishes e refl

sweep_led : (t : KeeperState) (ask : Ask SweepAnswer) → t.step ≡ Sweeps → ended_by_device (sweep_ledto t ask).step ≡ false
unfolding sweep_ledto
sweep_led t (Done sweep.Through) e = refl
sweep_led t ask e = rests t Sweeps e refl

write_led : (t : KeeperState) (found : Option Commit) (its : WriteAnswer) → t.step ≡ Writes → ended_by_device (write_ledto t found its).step ≡ false
unfolding write_ledto
write_led t None its e = refl
write_led t (Some c) write.Written e = refl
write_led t (Some c) write.Device e = either (must_rest t) (turned (record t { rests = true })) t refl (rests t Writes e refl)
write_led t (Some c) (write.Broken why) e = rests t Writes e refl

-- ---- the keeper's steps
module _ (shape : Shape) (p : Places) where
  -- a reply to what it asks
  next_at : (s : KeeperState) (step : Keeping) (reply : ℕ) (granted : Bool) → s.step ≡ step → is_done (keeping_ask shape p s step) ≡ false → ended_by_device (keeping_next shape p s step reply granted).step ≡ false
  unfolding keeping_ask keeping_next
  next_at s (Ended its) reply granted e on = cc
  next_at s Starts reply granted e on = start_led (record s { start = start_next s.start reply }) (start_ask (start_next s.start reply)) e
  next_at s Maintains reply granted e on =
      let next : MaintainState = maintain_next shape p s.maintain reply in
      part_led shape p (record s { maintain = next }) next next.step e (replied_at shape p s.maintain s.maintain.step reply refl (works_on shape p s.maintain s.maintain.step (turn_over s) on))
  next_at s LoadsPhase reply granted e on = phase_led p s s.commit (phase_said reply) granted
  next_at s Enters reply granted e on = enter_led (record s { enter = enter_next s.enter reply }) (enter_ask (enter_next s.enter reply)) e
  next_at s Copies reply granted e on = copy_led (record s { copy = copy_driven s.copy reply }) (copy_told (copy_driven s.copy reply)) e
  next_at s Seeks reply granted e on = seek_led (record s { seek = seek_next s.seek reply }) (seek_ask (seek_next s.seek reply)) e
  next_at s Waits reply granted e on = wait_led shape (record s { wait = wait_next s.wait reply }) (wait_ask (wait_next s.wait reply)) e
  next_at s Writes reply granted e on = rests s Writes e refl
  next_at s Finishes reply granted e on = finish_led (record s { finish = finish_next s.finish reply }) (finish_ask s.seek.points (finish_next s.finish reply)) e
  next_at s Sweeps reply granted e on = sweep_led (record s { sweep = sweep_next s.sweep reply }) (sweep_ask (sweep_next s.sweep reply)) e

  pub next_none : (s : KeeperState) (reply : ℕ) (granted : Bool) → is_done (keeper_ask shape p s) ≡ false → ended_by_device (keeper_next shape p s reply granted).step ≡ false
  next_none s reply granted on = next_at s s.step reply granted refl on

  -- who asks hasn't ended
  asks_at : (s : KeeperState) (step : Keeping) → is_done (keeping_ask shape p s step) ≡ false → ended_by_device step ≡ false
  unfolding keeping_ask
  asks_at s (Ended its) on = cc
  asks_at s step on = refl

  pub asks_none : (s : KeeperState) → is_done (keeper_ask shape p s) ≡ false → ended_by_device s.step ≡ false
  asks_none s on = asks_at s s.step on

  -- an action that it gets
  got_at : (s : KeeperState) (step : Keeping) (action : Action) → s.step ≡ step → is_done (keeping_ask shape p s step) ≡ false → ended_by_device (keeping_given shape p s step action).step ≡ false
  unfolding keeping_ask keeping_given
  got_at s Maintains action e on =
      let next : MaintainState = maintain_given s.maintain action in
      part_led shape p (record s { maintain = next }) next next.step e (given_at s.maintain s.maintain.step action refl (works_on shape p s.maintain s.maintain.step (turn_over s) on))
  got_at s (Ended its) action e on = cc
  got_at s step action e on = rests s step e refl

  gets_none : (s : KeeperState) (its : Option Action) → is_done (keeper_ask shape p s) ≡ false → ended_by_device (keeper_gets shape p s its).step ≡ false
  gets_none s None on = asks_none s on
  gets_none s (Some action) on = got_at s s.step action refl on

  -- who asks for the device hasn't ended, and ends only where the call has failed
  device_at : (s : KeeperState) (step : Keeping) → keeping_ask shape p s step ≡ Done Device → ended_by_device step ≡ false
  unfolding keeping_ask
  device_at s (Ended Device) asks = refl
  device_at s (Ended (Turned finished full)) asks = refl
  device_at s (Ended (TurnRefused why)) asks = cc
  device_at s (Ended (Begun number)) asks = refl
  device_at s (Ended (CommitRefused why)) asks = refl
  device_at s step asks = refl

  pub device_none : (s : KeeperState) → keeper_ask shape p s ≡ Done Device → ended_by_device s.step ≡ false
  device_none s asks = device_at s s.step asks

  done_at : (s : KeeperState) (step : Keeping) (bytes : List ℕ) → s.step ≡ step → keeping_ask shape p s step ≡ Done Device → ended_by_device (keeping_called shape p s step true bytes).step ≡ false
  unfolding keeping_ask keeping_called
  done_at s Maintains bytes e asks =
      let next : MaintainState = maintain_called shape p s.maintain true bytes in
      part_led shape p (record s { maintain = next }) next next.step e (called_at shape p s.maintain s.maintain.step bytes refl (works_at shape p s.maintain s.maintain.step false s.is_drain_full asks))
  done_at s Writes bytes e asks = write_led (record s { writes = commit_next s.writes true }) s.commit (commit_answer (commit_next s.writes true)) e
  done_at s Sweeps bytes e asks = sweep_led (record s { sweep = sweep_read s.sweep bytes }) (sweep_ask (sweep_read s.sweep bytes)) e
  done_at s step bytes e asks = rests s step e (device_at s step asks)

  pub done_none : (s : KeeperState) (bytes : List ℕ) → keeper_ask shape p s ≡ Done Device → ended_by_device (keeper_called shape p s true bytes).step ≡ false
  done_none s bytes asks = done_at s s.step bytes refl asks

  -- what a turn is told to have ended with
  told_at : (s : KeeperState) (step : Keeping) (last : Finality) (result : Result Turn Fault) → is_in_hand step ≡ false → IsTurnTold last (keeping_ask shape p s step) result → told_by_device result ≡ ended_by_device step
  unfolding keeping_ask
  told_at s (Ended Device) last result idle told = ap told_by_device told.1
  told_at s (Ended (Turned finished full)) last result idle told = ap told_by_device told.1
  told_at s (Ended (TurnRefused why)) last result idle told = ap told_by_device told
  told_at s (Ended (Begun number)) last result idle told = ap told_by_device told
  told_at s (Ended (CommitRefused why)) last result idle told = ap told_by_device told
  told_at s step last result idle told = cc

pub told_so : (k : KeeperModel) (result : Result Turn Fault) → is_in_hand k.state.step ≡ false → IsTurnTold k.state.last (keeper_ask k.shape k.places k.state) result → told_by_device result ≡ ended_by_device k.state.step
told_so k result idle told = told_at k.shape k.places k.state k.state.step k.state.last result idle told

-- a turn begins
pub begun_none : (k k' : KeeperModel) → k' ≡ record k { state = turn_asked k.state } → ended_by_device k'.state.step ≡ false
begun_none k k' is = ap (λ (x : KeeperModel). ended_by_device x.state.step) is ∙ either k.state.is_broken _ _ refl refl

-- ---- a step at the table
word_asks : (ask : Ask KeeperTold) (place : ℕ) → asked_place ask ≡ Some place → is_done ask ≡ false
word_asks (Done its) place e = cc
word_asks ask place e = refl

module _ {K : Type 0} (at : K → World) where
  settled_none : (me me' : Me Slot (Knows K)) (k k' : KeeperModel) (ask : Ask KeeperTold) → ask ≡ keeper_ask k.shape k.places k.state → ended_by_device k.state.step ≡ false → KeeperSettled at ask me k me' k' → ended_by_device k'.state.step ≡ false
  settled_none me me' k k' (Put slot action) is none t = ap (λ (x : KeeperModel). ended_by_device x.state.step) t.1 ∙ next_none k.shape k.places k.state 0 false (sym (ap is_done is))
  settled_none me me' k k' (Take slot) is none t = ap (λ (x : KeeperModel). ended_by_device x.state.step) t.3 ∙ gets_none k.shape k.places k.state t.0 (sym (ap is_done is))
  settled_none me me' k k' (Load place) is none t = ap (λ (x : KeeperModel). ended_by_device x.state.step) t.1 ∙ none
  settled_none me me' k k' (Store place new) is none t = ap (λ (x : KeeperModel). ended_by_device x.state.step) t.1 ∙ none
  settled_none me me' k k' (Swap place new) is none t = ap (λ (x : KeeperModel). ended_by_device x.state.step) t.1 ∙ none
  settled_none me me' k k' (Cas place old new) is none t = ap (λ (x : KeeperModel). ended_by_device x.state.step) t.1 ∙ none
  settled_none me me' k k' (Add place more) is none t = ap (λ (x : KeeperModel). ended_by_device x.state.step) t.1 ∙ none
  settled_none me me' k k' (Max place more) is none t = ap (λ (x : KeeperModel). ended_by_device x.state.step) t.1 ∙ none
  settled_none me me' k k' (Done its) is none t = ap (λ (x : KeeperModel). ended_by_device x.state.step) t.1 ∙ none

  -- neither before it nor behind it has the device ended the turn
  pub step_none : (key : K) (me me1 me' : Me Slot (Knows K)) (k k1 k' : KeeperModel) (granted : Bool) (first ask : Ask KeeperTold) → KeeperReplied at key me granted k me1 k1 → first ≡ keeper_ask k.shape k.places k.state
      → (place : ℕ) × (asked_place first ≡ Some place) → ask ≡ keeper_ask k1.shape k1.places k1.state → KeeperSettled at ask me1 k1 me' k' → ended_by_device k'.state.step ≡ ended_by_device k.state.step
  step_none key me me1 me' k k1 k' granted first ask replied was (place, e) is settled =
      let on : is_done (keeper_ask k.shape k.places k.state) ≡ false = ap is_done (sym was) ∙ word_asks first place e in
      let behind : ended_by_device k1.state.step ≡ false = ap (λ (s : KeeperState). ended_by_device s.step) replied.state ∙ next_none k.shape k.places k.state _ granted on in
      settled_none me1 me' k1 k' ask is behind settled ∙ sym (asks_none k.shape k.places k.state on)

-- a word that a flush, a copy or a sweep loads
pub word_none : (k k' : KeeperModel) (place word : ℕ) → keeper_word_due k.places k.state ≡ Some place → k' ≡ record k { state = keeper_next k.shape k.places k.state word false } → ended_by_device k'.state.step ≡ ended_by_device k.state.step
word_none k k' place word due is =
    let on : is_done (keeper_ask k.shape k.places k.state) ≡ false = ap is_done (due_asks k.shape k.places k.state place due) in
    ap (λ (x : KeeperModel). ended_by_device x.state.step) is ∙ (next_none k.shape k.places k.state word false on ∙ sym (asks_none k.shape k.places k.state on))

-- ---- how calls of the device count
none_failed : {T V : Type 0} (x : T) (all : Result V Fault) → IsErr {T = T} {E = Fault} (Ok x) → IsErr all
none_failed x all failed = cc

done_once : {T : Type 0} (value : T) (failed failed' : ℕ) (refuses refuses' : ℕ → Bool) → HasCause {T = T} failed failed' (Ok value) → MakesCalls {T = T} 1 refuses refuses' (Ok value) → IsCounted 1 false failed failed' refuses refuses'
done_once value failed failed' refuses refuses' cause counted = record {
  cause = record { later = cause.later; rose = tt; named = tt };
  counted = record { counted = counted.counted; refused = λ i below is. none_failed value (calls_told false) (counted.refused i below is) };
}

failed_once : {T : Type 0} (why : Fault) (failed failed' : ℕ) (refuses refuses' : ℕ → Bool) → HasCause {T = T} failed failed' (Err why) → MakesCalls {T = T} 1 refuses refuses' (Err why) → IsCounted 1 true failed failed' refuses refuses'
failed_once why failed failed' refuses refuses' cause counted = record {
  cause = record { later = cause.later; rose = cause.rose; named = refl };
  counted = record { counted = counted.counted; refused = λ i below is. refl };
}

-- a call that has succeeded, and one that has failed
pub counts_done : {T : Type 0} (k k' : KeeperModel) (value : T) (made failed failed' : ℕ) (refuses refuses' : ℕ → Bool) → keeper_ask k.shape k.places k.state ≡ Done Device → made ≡ keeper_calls_asked (keeper_ask k.shape k.places k.state)
    → (bytes : List ℕ) × (k' ≡ record k { state = keeper_called k.shape k.places k.state true bytes }) → HasCause {T = T} failed failed' (Ok value) → MakesCalls {T = T} made refuses refuses' (Ok value)
    → IsCounted 1 (ended_by_device k'.state.step) failed failed' refuses refuses'
counts_done {T} k k' value made failed failed' refuses refuses' asks is went cause counted =
    let one : made ≡ 1 = is ∙ ap keeper_calls_asked asks in
    let none : ended_by_device k'.state.step ≡ false = ap (λ (x : KeeperModel). ended_by_device x.state.step) went.1 ∙ done_none k.shape k.places k.state went.0 asks in
    subst (λ (by : Bool). IsCounted 1 by failed failed' refuses refuses') (sym none) (done_once value failed failed' refuses refuses' cause (subst (λ (n : ℕ). MakesCalls {T = T} n refuses refuses' (Ok value)) one counted))

pub counts_failed : {T : Type 0} (k k' : KeeperModel) (why : Fault) (made failed failed' : ℕ) (refuses refuses' : ℕ → Bool) → keeper_ask k.shape k.places k.state ≡ Done Device → made ≡ keeper_calls_asked (keeper_ask k.shape k.places k.state)
    → k'.state.step ≡ Ended (TurnRefused fault.Device) → HasCause {T = T} failed failed' (Err why) → MakesCalls {T = T} made refuses refuses' (Err why) → IsCounted 1 (ended_by_device k'.state.step) failed failed' refuses refuses'
counts_failed {T} k k' why made failed failed' refuses refuses' asks is ends cause counted =
    let one : made ≡ 1 = is ∙ ap keeper_calls_asked asks in
    subst (λ (by : Bool). IsCounted 1 by failed failed' refuses refuses') (sym (ap ended_by_device ends)) (failed_once why failed failed' refuses refuses' cause (subst (λ (n : ℕ). MakesCalls {T = T} n refuses refuses' (Err why)) one counted))

-- a turn before its first call, and with one more
pub counts_none : (failed : ℕ) (refuses : ℕ → Bool) → IsCounted 0 false failed failed refuses refuses
counts_none failed refuses = record { cause = record { later = omega arith; rose = tt; named = tt }; counted = no_call refuses (calls_told false) }

pub counts_more : (n m : ℕ) (by : Bool) (failed mid failed' : ℕ) (refuses between refuses' : ℕ → Bool) → IsCounted n false failed mid refuses between → IsCounted m by mid failed' between refuses' → IsCounted (n + m) by failed failed' refuses refuses'
counts_more n m true failed mid failed' refuses between refuses' early late = record {
  cause = record { later = omega (arith, early.cause.later, late.cause.later); rose = omega (arith, early.cause.later, late.cause.rose); named = refl };
  counted = more_calls n m refuses between refuses' (calls_told false) (calls_told true) early.counted (λ err. refl) late.counted;
}
counts_more n m false failed mid failed' refuses between refuses' early late = record {
  cause = record { later = omega (arith, early.cause.later, late.cause.later); rose = tt; named = tt };
  counted = more_calls n m refuses between refuses' (calls_told false) (calls_told false) early.counted (λ err. err) late.counted;
}

-- ---- which call the device has met, and whether it came through
pub met_done : (k k' : KeeperModel) (due : Option AskedCall) (expects expects' : List Kind → Foretold) → keeper_ask k.shape k.places k.state ≡ Done Device
    → (bytes : List ℕ) × (k' ≡ record k { state = keeper_called k.shape k.places k.state true bytes }) → expects' ≡ kinds_by due true expects → expects' ≡ kinds_by due (not (ended_by_device k'.state.step)) expects
met_done k k' due expects expects' asks went kind =
    let none : ended_by_device k'.state.step ≡ false = ap (λ (x : KeeperModel). ended_by_device x.state.step) went.1 ∙ done_none k.shape k.places k.state went.0 asks in
    subst (λ (by : Bool). expects' ≡ kinds_by due (not by) expects) (sym none) kind

pub met_failed : (k' : KeeperModel) (due : Option AskedCall) (expects expects' : List Kind → Foretold) → k'.state.step ≡ Ended (TurnRefused fault.Device)
    → expects' ≡ kinds_by due false expects → expects' ≡ kinds_by due (not (ended_by_device k'.state.step)) expects
met_failed k' due expects expects' ends kind = subst (λ (by : Bool). expects' ≡ kinds_by due (not by) expects) (sym (ap ended_by_device ends)) kind
