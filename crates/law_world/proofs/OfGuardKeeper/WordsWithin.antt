-- The word that the keeper's ask names is one that there is: by what it is at, and by what its machine of the epochs asks.
use Rattle.std.proofs.Common.{◌≡◌, ℕ, ◌+◌, ◌<◌, ◌≤◌, refl, sym, subst, arith, List}
use Rattle.std.specs.Prelude.{Option, Some, None, length}
use Rattle.fkv_base.specs.declared.numbers.Serial.{Serial}
use Rattle.fkv_plane.specs.declared.places.SessionWord.TheVariants as own
use Rattle.fkv_plane.specs.declared.places.RecordWord.TheVariants as rec
use Rattle.fkv_index.specs.Slots.{bucket_slots}
use Rattle.fkv_checkpoint.specs.declared.copying.CopyStep.{CopyStep}
use Rattle.fkv_checkpoint.specs.declared.copying.CopyStep.TheVariants as copy
use Rattle.fkv_checkpoint.specs.declared.copying.Copying.{Copying}
use Rattle.fkv_checkpoint.specs.Copying.{Copier, copy_step_ask}
use Rattle.fkv_commit.specs.declared.deferring.Deferring.{Deferring}
use Rattle.fkv_commit.specs.declared.deferring.Deferring.TheVariants as defer
use Rattle.fkv_commit.specs.declared.finishing.Finishing.{Finishing}
use Rattle.fkv_commit.specs.declared.finishing.Finishing.TheVariants as finish
use Rattle.fkv_commit.specs.declared.waiting.Waiting.{Waiting}
use Rattle.fkv_commit.specs.declared.waiting.Waiting.TheVariants as wait
use Rattle.fkv_commit.specs.Finishing.{FinishState, finishing_ask}
use Rattle.fkv_commit.specs.Waiting.{wait_ask, waiting_ask}
use Rattle.fkv_plane.specs.Places.{record_place, word_count}
use Rattle.fkv_flush.specs.declared.flushing.Flushing.{Flushing}
use Rattle.fkv_flush.specs.declared.flushing.Flushing.TheVariants as flush
use Rattle.fkv_flush.specs.declared.serving.Serving.{Serving}
use Rattle.fkv_flush.specs.declared.serving.Serving.TheVariants as serve
use Rattle.fkv_flush.specs.declared.answers.DeviceAnswer.{DeviceAnswer}
use Rattle.fkv_flush.specs.declared.answers.DeviceAnswer.TheVariants as device
use Rattle.fkv_flush.specs.GuardLevels.{levels_of}
use Rattle.fkv_flush.specs.GuardSeen.{LastSeen}
use Rattle.fkv_flush.specs.GuardWorld as guard
use Rattle.fkv_flush.specs.GuardWorld.{Actor, GuardWorld, Work, epoch_world}
use Rattle.fkv_flush.proofs.Shown.{Awake, FitsMachine, FitsWork, Knows, machine_at}
use Rattle.fkv_manifest.specs.declared.answers.WriteAnswer.{WriteAnswer}
use Rattle.fkv_manifest.specs.declared.answers.WriteAnswer.TheVariants as write
use Rattle.fkv_manifest.specs.Committing.{commit_answer}
use Rattle.fkv_maintain.specs.Maintaining.{device_asked}
use Rattle.fkv_keeper.specs.Keeping.{copy_asked, keeper_ask, sweep_passed, write_asked}
use Rattle.fkv_index.specs.Finding.{find_ask}
use Rattle.fkv_sweep.specs.declared.sweeping.SweepAnswer.{SweepAnswer}
use Rattle.fkv_sweep.specs.declared.sweeping.SweepAnswer.TheVariants as swept
use Rattle.fkv_sweep.specs.declared.sweeping.Sweeping.{Sweeping}
use Rattle.fkv_sweep.specs.declared.sweeping.Sweeping.TheVariants as sweep
use Rattle.fkv_sweep.specs.Sweeping.{Sweeper, sweep_ask, sweeping_ask}
use Rattle.law_world.specs.GuardKeeper.CommitShown.{FinishKnows, deferring_machine, entering_machine, seeking_machine, starting_machine}
use Rattle.law_world.specs.GuardKeeper.Followed.{IsKeepers}
use Rattle.law_world.specs.GuardKeeper.KeeperShown.{KeepingKnows, keeping_machine, keeping_work}
use Rattle.law_world.specs.GuardKeeper.MaintainShown.{maintaining_machine, maintaining_work}
use Rattle.law_world.proofs.OfGuarded.KeeperPlaces.{CopierRow, CopyRow, IsAtBucket, IsKeeperRow, KeeperRow, SeekRow}
use Rattle.law_world.proofs.OfGuarded.SweepPlaces.{SweepRow}
use Rattle.law_world.proofs.OfGuardSessions.WordsWithin.{IsWithin, MachineWithin, find_within, machine_within, own_within, passed_within, record_within, shift_within, turn_within}
use Rattle.fkv_base.specs.declared.shapes.Shape.{Shape}
use Rattle.fkv_plane.specs.declared.asks.Ask.{Ask}
use Rattle.fkv_plane.specs.declared.asks.Ask.TheVariants.{Load, Put, Take, Done}
use Rattle.fkv_plane.specs.declared.places.Places.{Places}
use Rattle.fkv_plane.specs.Passing.{passed}
use Rattle.fkv_epoch.specs.Arming.{arm_ask}
use Rattle.fkv_epoch.specs.Claiming.{claim_ask}
use Rattle.fkv_epoch.specs.Raising.{raise_ask}
use Rattle.fkv_epoch.specs.Scanning.{scan_ask}
use Rattle.fkv_epoch.specs.EpochWorld.{EpochMachine, Arms, Claims, Raises, Scans}
use Rattle.fkv_log.specs.Shifting.{shift_ask}
use Rattle.fkv_log.specs.Turning.{turn_ask}
use Rattle.fkv_commit.specs.declared.entering.Entering.{Entering}
use Rattle.fkv_commit.specs.declared.entering.Entering.TheVariants as enter
use Rattle.fkv_commit.specs.declared.seeking.Seeking.{Seeking}
use Rattle.fkv_commit.specs.declared.seeking.Seeking.TheVariants as seek
use Rattle.fkv_commit.specs.declared.starting.Starting.{Starting}
use Rattle.fkv_commit.specs.declared.starting.Starting.TheVariants as start
use Rattle.fkv_commit.specs.Deferring.{DeferState, defer_ask, deferring_ask}
use Rattle.fkv_commit.specs.Entering.{EnterState, enter_ask, entering_ask}
use Rattle.fkv_commit.specs.Finishing.{finish_ask}
use Rattle.fkv_commit.specs.Seeking.{SeekState, seek_ask, seeking_ask}
use Rattle.fkv_commit.specs.Starting.{StartState, start_ask, starting_ask}
use Rattle.fkv_flush.specs.Flushing.{flush_ask}
use Rattle.fkv_flush.specs.Serving.{serve_ask}
use Rattle.fkv_flush.specs.GuardLevels.{Levels}
use Rattle.fkv_maintain.specs.declared.maintaining.MaintainAnswer.{MaintainAnswer}
use Rattle.fkv_maintain.specs.declared.maintaining.MaintainAnswer.TheVariants as answer
use Rattle.fkv_maintain.specs.declared.maintaining.Maintaining.{Maintaining}
use Rattle.fkv_maintain.specs.declared.maintaining.Maintaining.TheVariants as maintain
use Rattle.fkv_maintain.specs.Maintaining.{MaintainState, maintaining_ask, maintain_ask}
use Rattle.fkv_keeper.specs.declared.answers.KeeperTold.{KeeperTold}
use Rattle.fkv_keeper.specs.declared.keepers.Keeping.{Keeping}
use Rattle.fkv_keeper.specs.declared.keepers.Keeping.TheVariants as keeping
use Rattle.fkv_keeper.specs.Keeping.{KeeperState, device_passed, keeping_ask}

-- a machine of the epochs that is driven
driven : (p : Places) (its machine : EpochMachine) → MachineWithin p machine → machine ≡ its → MachineWithin p its
driven p its machine within same = subst (λ (d : EpochMachine). MachineWithin p d) same within

-- a deferral asks what its raise or its arming does
defer_within : (p : Places) (machine : EpochMachine) (d : DeferState) (step : Deferring) → MachineWithin p machine → FitsMachine (deferring_machine d step) machine → IsWithin p (deferring_ask d step)
unfolding deferring_ask
defer_within p machine d (defer.Ended its) within fits = tt
defer_within p machine d defer.Seeks within fits = passed_within p (raise_ask d.raising) _ (driven p (Raises d.raising) machine within fits)
defer_within p machine d defer.Holds within fits = tt
defer_within p machine d (defer.Raises its) within fits = passed_within p (raise_ask d.raising) _ (driven p (Raises d.raising) machine within fits)
defer_within p machine d (defer.Puts its slot epoch) within fits = tt
defer_within p machine d (defer.Arms epoch) within fits = passed_within p (arm_ask d.arming) _ (driven p (Arms d.arming) machine within fits)

start_within : (p : Places) (machine : EpochMachine) (s : StartState) (step : Starting) → MachineWithin p machine → FitsMachine (starting_machine s step) machine → IsWithin p (starting_ask s step)
unfolding starting_ask
start_within p machine s (start.Ended its) within fits = tt
start_within p machine s start.LoadsPhase within fits = omega arith
start_within p machine s (start.Seeks number) within fits = passed_within p (defer_ask s.defer) _ (defer_within p machine s.defer s.defer.step within fits)
start_within p machine s (start.StoresPrepare number) within fits = omega arith
start_within p machine s (start.LoadsTail number) within fits = omega arith
start_within p machine s (start.Defers number first) within fits = passed_within p (defer_ask s.defer) _ (defer_within p machine s.defer s.defer.step within fits)

enter_within : (p : Places) (machine : EpochMachine) (s : EnterState) (step : Entering) → MachineWithin p machine → FitsMachine (entering_machine s step) machine → IsWithin p (entering_ask s step)
unfolding entering_ask
enter_within p machine s (enter.Ended its) within fits = tt
enter_within p machine s enter.Seeks within fits = passed_within p (defer_ask s.defer) _ (defer_within p machine s.defer s.defer.step within fits)
enter_within p machine s enter.Defers within fits = passed_within p (defer_ask s.defer) _ (defer_within p machine s.defer s.defer.step within fits)

-- a session below those that are sought is there
below : (p : Places) (session sessions : ℕ) → session < sessions → sessions ≤ p.sessions → session < p.sessions
below p session sessions low few = omega (arith, low, few)

seek_within : (p : Places) (machine : EpochMachine) (s : SeekState) (step : Seeking) → MachineWithin p machine → FitsMachine (seeking_machine s step) machine → s.sessions ≤ p.sessions → SeekRow s step → IsWithin p (seeking_ask s step)
unfolding seeking_ask
seek_within p machine s (seek.Ended its) within fits few row = tt
seek_within p machine s (seek.LoadsOwing session) within fits few row = own_within p session own.Owing (below p session s.sessions row few)
seek_within p machine s seek.SeeksSlot within fits few row = passed_within p (defer_ask s.defer) _ (defer_within p machine s.defer s.defer.step within fits)
seek_within p machine s seek.LoadsCut within fits few row = own_within p (length s.points) _ (below p (length s.points) s.sessions row few)
seek_within p machine s (seek.LoadsOther first) within fits few row = own_within p (length s.points) _ (below p (length s.points) s.sessions row few)
seek_within p machine s seek.LoadsAgain within fits few row = own_within p (length s.points) _ (below p (length s.points) s.sessions row few)
seek_within p machine s seek.StoresWaitFlush within fits few row = omega arith
seek_within p machine s seek.LoadsTail within fits few row = omega arith
seek_within p machine s (seek.RaisesReadOnly end) within fits few row = omega arith
seek_within p machine s (seek.Defers end) within fits few row = passed_within p (defer_ask s.defer) _ (defer_within p machine s.defer s.defer.step within fits)

finish_within : (p : Places) (points : List Serial) (s : FinishState) (step : Finishing) → s.sessions ≡ p.sessions → FinishKnows s step → IsWithin p (finishing_ask points s step)
unfolding finishing_ask
finish_within p points s (finish.Ended its) same knows = tt
finish_within p points s (finish.StoresDurable session) same knows = own_within p session own.Durable (omega (arith, same, knows))
finish_within p points s finish.StoresRest same knows = omega arith

wait_within : (p : Places) (step : Waiting) → IsWithin p (waiting_ask step)
unfolding waiting_ask
wait_within p (wait.Ended its) = tt
wait_within p wait.LoadsSafe = omega arith
wait_within p wait.LoadsFlushed = omega arith

-- the copy, by its bucket
bucket_within : (p : Places) (c : Copying) (slot : ℕ) → IsAtBucket p c → slot < 8 → c.base + slot < word_count p
bucket_within p c slot its low = let base = its.its_base in let few = its.few in omega (arith, base, few, low)

copy_within : (p : Places) (c : Copying) (step : CopyStep) → CopyRow p c step → IsWithin p (copy_step_ask c.base step)
unfolding copy_step_ask
copy_within p c copy.Ended row = tt
copy_within p c (copy.LoadsSlot slot) row = let few = row.1 in bucket_within p c slot row.0 (omega (arith, few))
copy_within p c copy.LoadsLink row = bucket_within p c bucket_slots row (omega arith)

copier_within : (p : Places) (m : Option Copier) → CopierRow p m → IsWithin p (copy_asked m)
copier_within p None row = tt
copier_within p (Some m) row = copy_within p m.copying m.copying.step row.1

-- A turn's parts.
flush_within : (p : Places) (step : Flushing) → IsWithin p (flush_ask p step)
unfolding flush_ask
flush_within p flush.AtRest = tt
flush_within p flush.LoadsFlushed = omega arith
flush_within p (flush.LoadsEnd flushed) = omega arith
flush_within p (flush.LoadsWord part addr word) = record_within p addr word
flush_within p (flush.WritesPart part) = tt
flush_within p (flush.Syncs end) = tt
flush_within p (flush.RaisesFlushed end) = omega arith

serve_within : (shape : Shape) (l : Levels) (Its : Type 0) (p : Places) (d : EpochMachine) (undecided : Option ℕ) (begin : ℕ) (step : Serving) → p.sessions ≡ shape.sessions → Knows shape l Its d undecided (guard.Serves begin step) → IsWithin p (serve_ask step)
unfolding serve_ask
serve_within shape l Its p d undecided begin serve.AtRest same knows = tt
serve_within shape l Its p d undecided begin (serve.LoadsState session) same knows = own_within p session own.MailState (omega (arith, same, knows))
serve_within shape l Its p d undecided begin (serve.LoadsAddress session) same knows = own_within p session own.MailAddress (omega (arith, same, knows))
serve_within shape l Its p d undecided begin (serve.Reads session addr) same knows = tt
serve_within shape l Its p d undecided begin (serve.StoresHeader session mail) same knows = own_within p session own.MailHeader (omega (arith, same, knows))
serve_within shape l Its p d undecided begin (serve.StoresKey session mail) same knows = own_within p session own.MailKey (omega (arith, same, knows))
serve_within shape l Its p d undecided begin (serve.StoresValue session mail) same knows = own_within p session own.MailValue (omega (arith, same, knows))
serve_within shape l Its p d undecided begin (serve.StoresReady session) same knows = own_within p session own.MailState (omega (arith, same, knows))

-- what a part passes on
asked_within : (p : Places) (ask : Ask DeviceAnswer) → IsWithin p ask → IsWithin p (device_asked ask)
unfolding device_asked passed
asked_within p (Done device.Device) within = tt
asked_within p (Done device.Through) within = tt
asked_within p (Put slot action) within = tt
asked_within p (Take slot) within = tt
asked_within p ask within = within

told_within : (p : Places) (ask : Ask MaintainAnswer) (told : KeeperTold) → IsWithin p ask → IsWithin p (device_passed ask told)
unfolding device_passed passed
told_within p (Done answer.Device) told within = tt
told_within p (Done answer.Through) told within = tt
told_within p (Done answer.Spent) told within = tt
told_within p (Done answer.Broken) told within = tt
told_within p (Put slot action) told within = tt
told_within p (Take slot) told within = tt
told_within p ask told within = within

write_within : (p : Places) (answer : WriteAnswer) (told : KeeperTold) → IsWithin p (write_asked answer told)
write_within p write.Device told = tt
write_within p write.Written told = tt
write_within p (write.Broken why) told = tt

sweep_within : (p : Places) (w : Sweeper) (step : Sweeping) → w.places ≡ p → SweepRow p w step → IsWithin p (sweeping_ask w step)
unfolding sweeping_ask
sweep_within p w sweep.AtRest same row = tt
sweep_within p w sweep.LoadsHead same row = omega arith
sweep_within p w sweep.Takes same row = omega arith
sweep_within p w sweep.Meets same row = tt
sweep_within p w (sweep.Finds key) same row = passed_within p (find_ask w.finding) _ (find_within p w.finding w.finding.step row row.links)
sweep_within p w (sweep.LoadsKey key addr) same row = subst (λ (q : Places). IsWithin {A = SweepAnswer} p (Load (record_place q addr.0 rec.Key))) (sym same) (record_within p addr.0 rec.Key)
sweep_within p w (sweep.LoadsHeader key addr) same row = subst (λ (q : Places). IsWithin {A = SweepAnswer} p (Load (record_place q addr.0 rec.Header))) (sym same) (record_within p addr.0 rec.Header)
sweep_within p w (sweep.Reads key addr) same row = tt

swept_within : (p : Places) (ask : Ask SweepAnswer) (told : KeeperTold) → IsWithin p ask → IsWithin p (sweep_passed ask told)
unfolding sweep_passed passed
swept_within p (Done swept.Device) told within = tt
swept_within p (Done swept.Through) told within = tt
swept_within p (Put slot action) told within = tt
swept_within p (Take slot) told within = tt
swept_within p ask told within = within

module _ (w : GuardWorld) (a : ℕ) (x : Actor) (seen : LastSeen) (s : KeeperState) (keeps : IsKeepers w a x seen s) where
  abbrev P : Places
  P = w.now.places

  its_machine : MachineWithin P x.machine
  its_machine = machine_within P (epoch_world w) a x.machine refl keeps.sound.epochs (machine_at w.now.actors a x keeps.got)

  -- what the actor knows of its work
  its_work : (work : Work) → x.work ≡ work → Knows w.now.shape (levels_of w.now.words) (Awake w.now a x.machine) x.machine x.undecided work
  its_work work same = subst (λ (its : Work). Knows w.now.shape (levels_of w.now.words) (Awake w.now a x.machine) x.machine x.undecided its) same (keeps.sound.knows a x keeps.got)

  turn_asks_within : (m : MaintainState) (step : Maintaining) → FitsMachine (maintaining_machine m step) x.machine → FitsWork (maintaining_work m step) x.work → IsWithin P (maintaining_ask w.now.shape P m step)
  unfolding maintaining_ask
  turn_asks_within m maintain.Through machine work = tt
  turn_asks_within m maintain.Spent machine work = tt
  turn_asks_within m maintain.Broken machine work = tt
  turn_asks_within m maintain.Scans machine work = passed_within P (scan_ask m.scanning) _ (driven P (Scans m.scanning) x.machine its_machine machine)
  turn_asks_within m maintain.Claims machine work = passed_within P (claim_ask m.claiming) _ (driven P (Claims m.claiming) x.machine its_machine machine)
  turn_asks_within m maintain.Flushes machine work = asked_within P (flush_ask P m.flushing) (flush_within P m.flushing)
  turn_asks_within m maintain.Shifts machine work = passed_within P (shift_ask m.shift) _ (shift_within (levels_of w.now.words) P x.machine m.shift.step m.shift.mover (its_work (guard.Shifts m.shift) work) its_machine)
  turn_asks_within m maintain.Turns machine work = passed_within P (turn_ask w.now.shape m.turn) _ (turn_within w.now.shape (levels_of w.now.words) P x.machine m.turn.step m.turn.mover (its_work (guard.Turns m.turn) work) its_machine)
  turn_asks_within m maintain.Serves machine work =
      asked_within P (serve_ask m.serving) (serve_within w.now.shape (levels_of w.now.words) (Awake w.now a x.machine) P x.machine x.undecided m.begin.0 m.serving keeps.sound.fits.sessions (its_work (guard.Serves m.begin.0 m.serving) work))

  keeping_within : (step : Keeping) → FitsMachine (keeping_machine s step) x.machine → FitsWork (keeping_work s step) x.work → KeepingKnows (levels_of w.now.words) s step → s.seek.sessions ≤ P.sessions → KeeperRow P s step
      → IsWithin P (keeping_ask w.now.shape P s step)
  unfolding keeping_ask
  keeping_within (keeping.Ended its) machine work knows few row = tt
  keeping_within keeping.Starts machine work knows few row = passed_within P (start_ask s.start) _ (start_within P x.machine s.start s.start.step its_machine machine)
  keeping_within keeping.Maintains machine work knows few row = told_within P (maintain_ask w.now.shape P s.maintain) _ (turn_asks_within s.maintain s.maintain.step machine work)
  keeping_within keeping.LoadsPhase machine work knows few row = omega arith
  keeping_within keeping.Enters machine work knows few row = passed_within P (enter_ask s.enter) _ (enter_within P x.machine s.enter s.enter.step its_machine machine)
  keeping_within keeping.Copies machine work knows few row = passed_within P (copy_asked s.copy) _ (copier_within P s.copy row)
  keeping_within keeping.Seeks machine work knows few row = passed_within P (seek_ask s.seek) _ (seek_within P x.machine s.seek s.seek.step its_machine machine few row)
  keeping_within keeping.Waits machine work knows few row = passed_within P (wait_ask s.wait) _ (wait_within P s.wait.step)
  keeping_within keeping.Writes machine work knows few row = write_within P (commit_answer s.writes) _
  keeping_within keeping.Finishes machine work knows few row = passed_within P (finish_ask s.seek.points s.finish) _ (finish_within P s.seek.points s.finish s.finish.step keeps.knows.sessions knows)
  keeping_within keeping.Sweeps machine work knows few row = swept_within P (sweep_ask s.sweep) _ (sweep_within P s.sweep s.sweep.step row.0 row.1)

pub keeper_within : (w : GuardWorld) (a : ℕ) (x : Actor) (seen : LastSeen) (s : KeeperState) → IsKeepers w a x seen s → s.seek.sessions ≤ w.now.places.sessions → IsKeeperRow w.now.places s → IsWithin w.now.places (keeper_ask w.now.shape w.now.places s)
keeper_within w a x seen s keeps few row = keeping_within w a x seen s keeps s.step keeps.fits.machine keeps.fits.work keeps.knows.its few row
