-- The keeper asks to write no word of a frame.
use Rattle.std.proofs.Common.{◌≡◌, ℕ, arith, List, true}
use Rattle.std.specs.Prelude.{Option, Some, None}
use Rattle.fkv_base.specs.declared.numbers.Serial.{Serial}
use Rattle.fkv_plane.specs.declared.asks.Ask.{Ask}
use Rattle.fkv_plane.specs.declared.asks.Ask.TheVariants.{Load, Put, Take, Done}
use Rattle.fkv_plane.specs.declared.places.Places.{Places}
use Rattle.fkv_plane.specs.declared.places.SessionWord.TheVariants as own
use Rattle.fkv_plane.specs.Passing.{passed}
use Rattle.fkv_epoch.specs.Arming.{arm_ask}
use Rattle.fkv_epoch.specs.Claiming.{claim_ask}
use Rattle.fkv_epoch.specs.Raising.{raise_ask}
use Rattle.fkv_epoch.specs.Scanning.{scan_ask}
use Rattle.fkv_epoch.specs.EpochWorld.{EpochMachine, Arms, Claims, Raises, Scans}
use Rattle.fkv_log.specs.Shifting.{shift_ask}
use Rattle.fkv_log.specs.Turning.{turn_ask}
use Rattle.fkv_checkpoint.specs.declared.copying.CopyStep.{CopyStep}
use Rattle.fkv_checkpoint.specs.declared.copying.CopyStep.TheVariants as copy
use Rattle.fkv_checkpoint.specs.Copying.{Copier, copy_step_ask}
use Rattle.fkv_commit.specs.declared.deferring.Deferring.{Deferring}
use Rattle.fkv_commit.specs.declared.deferring.Deferring.TheVariants as defer
use Rattle.fkv_commit.specs.declared.entering.Entering.{Entering}
use Rattle.fkv_commit.specs.declared.entering.Entering.TheVariants as enter
use Rattle.fkv_commit.specs.declared.finishing.Finishing.{Finishing}
use Rattle.fkv_commit.specs.declared.finishing.Finishing.TheVariants as finish
use Rattle.fkv_commit.specs.declared.seeking.Seeking.{Seeking}
use Rattle.fkv_commit.specs.declared.seeking.Seeking.TheVariants as seek
use Rattle.fkv_commit.specs.declared.starting.Starting.{Starting}
use Rattle.fkv_commit.specs.declared.starting.Starting.TheVariants as start
use Rattle.fkv_commit.specs.declared.waiting.Waiting.{Waiting}
use Rattle.fkv_commit.specs.declared.waiting.Waiting.TheVariants as wait
use Rattle.fkv_commit.specs.Deferring.{DeferState, defer_ask, deferring_ask}
use Rattle.fkv_commit.specs.Entering.{EnterState, enter_ask, entering_ask}
use Rattle.fkv_commit.specs.Finishing.{FinishState, finish_ask, finishing_ask}
use Rattle.fkv_commit.specs.Seeking.{SeekState, seek_ask, seeking_ask}
use Rattle.fkv_commit.specs.Starting.{StartState, start_ask, starting_ask}
use Rattle.fkv_commit.specs.Waiting.{wait_ask, waiting_ask}
use Rattle.fkv_flush.specs.declared.answers.DeviceAnswer.{DeviceAnswer}
use Rattle.fkv_flush.specs.declared.answers.DeviceAnswer.TheVariants as device
use Rattle.fkv_flush.specs.Flushing.{flush_ask}
use Rattle.fkv_flush.specs.Serving.{serve_ask}
use Rattle.fkv_flush.specs.GuardAsks.{writes, machine_writes}
use Rattle.fkv_flush.specs.GuardLevels.{levels_of}
use Rattle.fkv_flush.specs.GuardSeen.{LastSeen}
use Rattle.fkv_flush.specs.GuardWorld as guard
use Rattle.fkv_flush.specs.GuardWorld.{Actor, GuardWorld, is_idle}
use Rattle.fkv_flush.proofs.Shown.{FitsMachine, FitsWork}
use Rattle.fkv_manifest.specs.declared.answers.WriteAnswer.{WriteAnswer}
use Rattle.fkv_manifest.specs.declared.answers.WriteAnswer.TheVariants as write
use Rattle.fkv_manifest.specs.Committing.{commit_answer}
use Rattle.fkv_maintain.specs.declared.maintaining.MaintainAnswer.{MaintainAnswer}
use Rattle.fkv_maintain.specs.declared.maintaining.MaintainAnswer.TheVariants as answer
use Rattle.fkv_maintain.specs.declared.maintaining.Maintaining.{Maintaining}
use Rattle.fkv_maintain.specs.declared.maintaining.Maintaining.TheVariants as maintain
use Rattle.fkv_maintain.specs.Maintaining.{MaintainState, device_asked, maintain_ask, maintaining_ask}
use Rattle.fkv_sweep.specs.declared.sweeping.SweepAnswer.{SweepAnswer}
use Rattle.fkv_sweep.specs.declared.sweeping.SweepAnswer.TheVariants as swept
use Rattle.fkv_sweep.specs.Sweeping.{sweep_ask}
use Rattle.fkv_sweep.specs.Swept.{IsLoadOrEnd}
use Rattle.fkv_sweep.proofs.Shown.{sweep_loads}
use Rattle.fkv_keeper.specs.declared.answers.KeeperTold.{KeeperTold}
use Rattle.fkv_keeper.specs.declared.keepers.Keeping.{Keeping}
use Rattle.fkv_keeper.specs.declared.keepers.Keeping.TheVariants as keeping
use Rattle.fkv_keeper.specs.Keeping.{KeeperState, copy_asked, device_passed, keeper_ask, keeping_ask, sweep_passed, write_asked}
use Rattle.law_world.specs.GuardKeeper.CommitShown.{FinishKnows, deferring_machine, entering_machine, seeking_machine, starting_machine}
use Rattle.law_world.specs.GuardKeeper.Followed.{IsKeepers}
use Rattle.law_world.specs.GuardKeeper.KeeperShown.{KeepingKnows, keeping_machine, keeping_work}
use Rattle.law_world.specs.GuardKeeper.MaintainShown.{IsUnderWay, maintaining_machine, maintaining_work}
use Rattle.law_world.proofs.OfGuardSessions.WritesOpen.{WritesOpen, low_open, machine_open, own_open, passed_open, work_open}

-- what a part passes on
asked_open : (w : GuardWorld) (ask : Ask DeviceAnswer) → WritesOpen w (writes ask) → WritesOpen w (writes (device_asked ask))
unfolding device_asked passed
asked_open w (Done device.Device) free = tt
asked_open w (Done device.Through) free = tt
asked_open w (Put slot action) free = tt
asked_open w (Take slot) free = tt
asked_open w ask free = free

told_open : (w : GuardWorld) (ask : Ask MaintainAnswer) (told : KeeperTold) → WritesOpen w (writes ask) → WritesOpen w (writes (device_passed ask told))
unfolding device_passed passed
told_open w (Done answer.Device) told free = tt
told_open w (Done answer.Through) told free = tt
told_open w (Done answer.Spent) told free = tt
told_open w (Done answer.Broken) told free = tt
told_open w (Put slot action) told free = tt
told_open w (Take slot) told free = tt
told_open w ask told free = free

write_open : (w : GuardWorld) (answer : WriteAnswer) (told : KeeperTold) → WritesOpen w (writes (write_asked answer told))
write_open w write.Device told = tt
write_open w write.Written told = tt
write_open w (write.Broken why) told = tt

-- loads alone
wait_open : (w : GuardWorld) (step : Waiting) → WritesOpen w (writes (waiting_ask step))
unfolding waiting_ask
wait_open w (wait.Ended its) = tt
wait_open w wait.LoadsSafe = tt
wait_open w wait.LoadsFlushed = tt

copy_open : (w : GuardWorld) (base : ℕ) (step : CopyStep) → WritesOpen w (writes (copy_step_ask base step))
unfolding copy_step_ask
copy_open w base copy.Ended = tt
copy_open w base (copy.LoadsSlot slot) = tt
copy_open w base copy.LoadsLink = tt

copier_open : (w : GuardWorld) (m : Option Copier) → WritesOpen w (writes (copy_asked m))
copier_open w None = tt
copier_open w (Some m) = copy_open w m.copying.base m.copying.step

sweep_open : (w : GuardWorld) (ask : Ask SweepAnswer) (told : KeeperTold) → IsLoadOrEnd ask → WritesOpen w (writes (sweep_passed ask told))
unfolding sweep_passed passed
sweep_open w (Load place) told loads = tt
sweep_open w (Done swept.Device) told loads = tt
sweep_open w (Done swept.Through) told loads = tt
sweep_open w ask told loads = absurd loads

finish_open : (w : GuardWorld) (points : List Serial) (s : FinishState) (step : Finishing) → s.sessions ≡ w.now.places.sessions → FinishKnows s step → WritesOpen w (writes (finishing_ask points s step))
unfolding finishing_ask
finish_open w points s (finish.Ended its) same knows = tt
finish_open w points s (finish.StoresDurable session) same knows = own_open w session own.Durable (omega (arith, same, knows))
finish_open w points s finish.StoresRest same knows = low_open w 2 (omega arith)

module _ (w : GuardWorld) (a : ℕ) (x : Actor) (seen : LastSeen) (s : KeeperState) (keeps : IsKeepers w a x seen s) where
  abbrev P : Places
  P = w.now.places

  drives : (d : EpochMachine) → x.machine ≡ d → is_idle x.work ≡ true → WritesOpen w (machine_writes a d)
  drives d its idle = machine_open w a x d keeps.sound keeps.got its idle

  defer_open : (d : DeferState) (step : Deferring) → FitsMachine (deferring_machine d step) x.machine → is_idle x.work ≡ true → WritesOpen w (writes (deferring_ask d step))
  unfolding deferring_ask
  defer_open d (defer.Ended its) fits idle = tt
  defer_open d defer.Seeks fits idle = passed_open w (raise_ask d.raising) _ (drives (Raises d.raising) fits idle)
  defer_open d defer.Holds fits idle = tt
  defer_open d (defer.Raises its) fits idle = passed_open w (raise_ask d.raising) _ (drives (Raises d.raising) fits idle)
  defer_open d (defer.Puts its slot epoch) fits idle = tt
  defer_open d (defer.Arms epoch) fits idle = passed_open w (arm_ask d.arming) _ (drives (Arms d.arming) fits idle)

  start_open : (c : StartState) (step : Starting) → FitsMachine (starting_machine c step) x.machine → is_idle x.work ≡ true → WritesOpen w (writes (starting_ask c step))
  unfolding starting_ask
  start_open c (start.Ended its) fits idle = tt
  start_open c start.LoadsPhase fits idle = tt
  start_open c (start.Seeks number) fits idle = passed_open w (defer_ask c.defer) _ (defer_open c.defer c.defer.step fits idle)
  start_open c (start.StoresPrepare number) fits idle = low_open w 2 (omega arith)
  start_open c (start.LoadsTail number) fits idle = tt
  start_open c (start.Defers number first) fits idle = passed_open w (defer_ask c.defer) _ (defer_open c.defer c.defer.step fits idle)

  enter_open : (c : EnterState) (step : Entering) → FitsMachine (entering_machine c step) x.machine → is_idle x.work ≡ true → WritesOpen w (writes (entering_ask c step))
  unfolding entering_ask
  enter_open c (enter.Ended its) fits idle = tt
  enter_open c enter.Seeks fits idle = passed_open w (defer_ask c.defer) _ (defer_open c.defer c.defer.step fits idle)
  enter_open c enter.Defers fits idle = passed_open w (defer_ask c.defer) _ (defer_open c.defer c.defer.step fits idle)

  seek_open : (c : SeekState) (step : Seeking) → FitsMachine (seeking_machine c step) x.machine → is_idle x.work ≡ true → WritesOpen w (writes (seeking_ask c step))
  unfolding seeking_ask
  seek_open c (seek.Ended its) fits idle = tt
  seek_open c (seek.LoadsOwing session) fits idle = tt
  seek_open c seek.SeeksSlot fits idle = passed_open w (defer_ask c.defer) _ (defer_open c.defer c.defer.step fits idle)
  seek_open c seek.LoadsCut fits idle = tt
  seek_open c (seek.LoadsOther first) fits idle = tt
  seek_open c seek.LoadsAgain fits idle = tt
  seek_open c seek.StoresWaitFlush fits idle = low_open w 2 (omega arith)
  seek_open c seek.LoadsTail fits idle = tt
  seek_open c (seek.RaisesReadOnly end) fits idle = low_open w 5 (omega arith)
  seek_open c (seek.Defers end) fits idle = passed_open w (defer_ask c.defer) _ (defer_open c.defer c.defer.step fits idle)

  turn_open : (m : MaintainState) (step : Maintaining) → FitsMachine (maintaining_machine m step) x.machine → FitsWork (maintaining_work m step) x.work → IsUnderWay (maintaining_machine m step) (maintaining_work m step)
      → WritesOpen w (writes (maintaining_ask w.now.shape P m step))
  unfolding maintaining_ask
  turn_open m maintain.Through machine work under = tt
  turn_open m maintain.Spent machine work under = tt
  turn_open m maintain.Broken machine work under = tt
  turn_open m maintain.Scans machine work under = passed_open w (scan_ask m.scanning) _ (drives (Scans m.scanning) machine work)
  turn_open m maintain.Claims machine work under = passed_open w (claim_ask m.claiming) _ (drives (Claims m.claiming) machine work)
  turn_open m maintain.Flushes machine work under = asked_open w (flush_ask P m.flushing) (work_open w a x (guard.Flushes m.flushing m.bytes) keeps.sound keeps.got work under)
  turn_open m maintain.Shifts machine work under = passed_open w (shift_ask m.shift) _ (work_open w a x (guard.Shifts m.shift) keeps.sound keeps.got work under)
  turn_open m maintain.Turns machine work under = passed_open w (turn_ask w.now.shape m.turn) _ (work_open w a x (guard.Turns m.turn) keeps.sound keeps.got work under)
  turn_open m maintain.Serves machine work under = asked_open w (serve_ask m.serving) (work_open w a x (guard.Serves m.begin.0 m.serving) keeps.sound keeps.got work under)

  keeping_open : (step : Keeping) → FitsMachine (keeping_machine s step) x.machine → FitsWork (keeping_work s step) x.work → KeepingKnows (levels_of w.now.words) s step → WritesOpen w (writes (keeping_ask w.now.shape P s step))
  unfolding keeping_ask
  keeping_open (keeping.Ended its) machine work knows = tt
  keeping_open keeping.Starts machine work knows = passed_open w (start_ask s.start) _ (start_open s.start s.start.step machine work)
  keeping_open keeping.Maintains machine work knows = told_open w (maintain_ask w.now.shape P s.maintain) _ (turn_open s.maintain s.maintain.step machine work knows)
  keeping_open keeping.LoadsPhase machine work knows = tt
  keeping_open keeping.Enters machine work knows = passed_open w (enter_ask s.enter) _ (enter_open s.enter s.enter.step machine work)
  keeping_open keeping.Copies machine work knows = passed_open w (copy_asked s.copy) _ (copier_open w s.copy)
  keeping_open keeping.Seeks machine work knows = passed_open w (seek_ask s.seek) _ (seek_open s.seek s.seek.step machine work)
  keeping_open keeping.Waits machine work knows = passed_open w (wait_ask s.wait) _ (wait_open w s.wait.step)
  keeping_open keeping.Writes machine work knows = write_open w (commit_answer s.writes) _
  keeping_open keeping.Finishes machine work knows = passed_open w (finish_ask s.seek.points s.finish) _ (finish_open w s.seek.points s.finish s.finish.step keeps.knows.sessions knows)
  keeping_open keeping.Sweeps machine work knows = sweep_open w (sweep_ask s.sweep) _ (sweep_loads s.sweep (record { reads = keeps.knows.loads }))

pub keeper_open : (w : GuardWorld) (a : ℕ) (x : Actor) (seen : LastSeen) (s : KeeperState) → IsKeepers w a x seen s → WritesOpen w (writes (keeper_ask w.now.shape w.now.places s))
keeper_open w a x seen s keeps = keeping_open w a x seen s keeps s.step keeps.fits.machine keeps.fits.work keeps.knows.its
