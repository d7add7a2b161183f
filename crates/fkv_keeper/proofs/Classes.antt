-- The class of the store for which the keeper starts commits stays, whatever happens.
use Rattle.std.proofs.Common.{◌≡◌, ◌∙◌, ℕ, List, [], ◌∷◌, refl, ap, Bool, true, false}
use Rattle.std.specs.Prelude.{◌&&◌, Option, Some, None, if◌then◌else◌, ◌||◌}
use Rattle.fkv_base.specs.declared.classes.StoreClass.{StoreClass}
use Rattle.fkv_base.specs.declared.phases.Phase.TheVariants as phase
use Rattle.fkv_base.specs.declared.shapes.Shape.{Shape}
use Rattle.fkv_words.specs.declared.phase_words.PhaseSaid.{PhaseSaid}
use Rattle.fkv_words.specs.declared.phase_words.PhaseSaid.TheVariants.{Says}
use Rattle.fkv_words.specs.PhaseWords.{phase_said}
use Rattle.fkv_plane.specs.declared.actions.Action.{Action}
use Rattle.fkv_plane.specs.declared.asks.Ask.{Ask}
use Rattle.fkv_plane.specs.declared.asks.Ask.TheVariants.{Done}
use Rattle.fkv_plane.specs.declared.places.Places.{Places}
use Rattle.fkv_commit.specs.declared.commits.Commit.{Commit}
use Rattle.fkv_commit.specs.declared.entering.EnterAnswer.{EnterAnswer}
use Rattle.fkv_commit.specs.declared.entering.EnterAnswer.TheVariants as enter
use Rattle.fkv_commit.specs.declared.finishing.FinishAnswer.{FinishAnswer}
use Rattle.fkv_commit.specs.declared.seeking.SeekAnswer.{SeekAnswer}
use Rattle.fkv_commit.specs.declared.seeking.SeekAnswer.TheVariants as seek
use Rattle.fkv_commit.specs.declared.starting.StartAnswer.{StartAnswer}
use Rattle.fkv_commit.specs.declared.starting.StartAnswer.TheVariants as start
use Rattle.fkv_commit.specs.declared.starting.StartAsked.{StartAsked}
use Rattle.fkv_commit.specs.declared.waiting.WaitAnswer.{WaitAnswer}
use Rattle.fkv_commit.specs.declared.waiting.WaitAnswer.TheVariants as wait
use Rattle.fkv_commit.specs.Entering.{enter_ask, enter_next}
use Rattle.fkv_commit.specs.Finishing.{finish_ask, finish_next}
use Rattle.fkv_commit.specs.Seeking.{seek_ask, seek_next}
use Rattle.fkv_commit.specs.Starting.{start_ask, start_next}
use Rattle.fkv_commit.specs.Waiting.{wait_ask, wait_next}
use Rattle.fkv_commit.proofs.Shown.{start_asked}
use Rattle.fkv_maintain.specs.declared.maintaining.MaintainAnswer.{MaintainAnswer}
use Rattle.fkv_maintain.specs.declared.maintaining.MaintainAnswer.TheVariants as maintain
use Rattle.fkv_maintain.specs.Maintaining.{is_flush_resting, maintain_ask, maintain_called, maintain_given, maintain_next}
use Rattle.fkv_manifest.specs.declared.answers.WriteAnswer.{WriteAnswer}
use Rattle.fkv_manifest.specs.declared.answers.WriteAnswer.TheVariants as write
use Rattle.fkv_manifest.specs.Committing.{commit_answer, commit_next}
use Rattle.fkv_keeper.specs.declared.keepers.Keeping.{Keeping}
use Rattle.fkv_keeper.specs.declared.keepers.Keeping.TheVariants.{Ended, Starts, Maintains, LoadsPhase, Enters, Copies, Seeks, Waits, Writes, Finishes, Sweeps}
use Rattle.fkv_keeper.specs.Keeping.{KeeperState, must_rest, commit_asked, turn_asked, copies, copies_next, copy_driven, copy_ledto, copy_told, enter_ledto, finish_ledto, finished, is_copy_resting, keeping_called, keeping_given, keeping_next, maintain_ledto, part_begun, phase_ledto, seek_ledto, start_ledto, turned, wait_ledto, write_ledto, writes_begun, writes_called, sweep_ledto, sweep_called}
use Rattle.fkv_keeper.specs.KeeperRun.{BeginsCommit, BeginsTurn, Calls, Gets, KeeperEvent, Replies, begins, is_in_hand, keeper_happens, keeper_run}
use Rattle.fkv_sweep.specs.Sweeping.{is_sweeping, sweep_ask, sweep_next, sweep_read}
use Rattle.fkv_sweep.specs.declared.sweeping.SweepAnswer.{SweepAnswer}
use Rattle.fkv_sweep.specs.declared.sweeping.SweepAnswer.TheVariants as sweep

module _ (class : StoreClass) where
  abbrev Same : KeeperState → Type 0
  Same s = s.start.asked.class ≡ class

  either : (c : Bool) (a b : KeeperState) → Same a → Same b → Same (if c then a else b)
  either true a b one other = one
  either false a b one other = other

  begins_same : (s begun : KeeperState) (busy : Bool) → Same s → Same begun → Same (begins s busy begun)
  begins_same s begun true one other = one
  begins_same s begun false one other = other

  start_same : (s : KeeperState) (ask : Ask StartAnswer) → Same s → Same (start_ledto s ask)
  unfolding start_ledto
  start_same s (Done (start.Begun number first)) was = was
  start_same s (Done its) was = was
  start_same s ask was = was

  maintain_same : (s : KeeperState) (ask : Ask MaintainAnswer) → Same s → Same (maintain_ledto s ask)
  unfolding maintain_ledto
  maintain_same s (Done maintain.Through) was = was
  maintain_same s (Done maintain.Spent) was = was
  maintain_same s (Done maintain.Broken) was = was
  maintain_same s ask was = was

  copies_same : (p : Places) (s : KeeperState) (granted : Bool) → Same s → Same (copies p s granted)
  copies_same p s granted was = either (granted || is_copy_resting s.copy) _ _ was was

  next_same : (p : Places) (s : KeeperState) (c : Commit) (granted : Bool) (other : KeeperState) → Same s → Same other → Same (copies_next p s c granted other)
  next_same p s c granted other was its = either c.is_copied other (copies p s granted) its (copies_same p s granted was)

  part_same : (p : Places) (s : KeeperState) (c : Commit) (said : PhaseSaid) (granted : Bool) → Same s → Same (part_begun p s c said granted)
  part_same p s c (Says phase.InProgress version) granted was = either s.has_entered _ _ (next_same p s c granted (turned s) was was) was
  part_same p s c (Says phase.WaitPending version) granted was = next_same p s c granted _ was was
  part_same p s c (Says phase.WaitFlush version) granted was = either s.has_points _ _ was was
  part_same p s c said granted was = was

  phase_same : (p : Places) (s : KeeperState) (found : Option Commit) (said : PhaseSaid) (granted : Bool) → Same s → Same (phase_ledto p s found said granted)
  unfolding phase_ledto
  phase_same p s None said granted was = either (is_flush_resting s.maintain) _ _ was (either (granted && is_sweeping s.sweep) _ _ was was)
  phase_same p s (Some c) said granted was = either s.rests _ _ (either granted _ _ was was) (either (is_flush_resting s.maintain) _ _ was (part_same p s c said granted was))

  enter_same : (s : KeeperState) (ask : Ask EnterAnswer) → Same s → Same (enter_ledto s ask)
  unfolding enter_ledto
  enter_same s (Done enter.Entered) was = was
  enter_same s (Done enter.DrainFull) was = was
  enter_same s (Done enter.EpochsSpent) was = was
  enter_same s (Done enter.Idle) was = was
  enter_same s ask was = was

  copy_same : (s : KeeperState) (ask : Ask (Unit {0})) → Same s → Same (copy_ledto s ask)
  unfolding copy_ledto
  copy_same s (Done its) was = was
  copy_same s ask was = was

  seek_same : (s : KeeperState) (ask : Ask SeekAnswer) → Same s → Same (seek_ledto s ask)
  unfolding seek_ledto
  seek_same s (Done (seek.Taken end epoch)) was = was
  seek_same s (Done seek.DrainFull) was = was
  seek_same s (Done seek.EpochsSpent) was = was
  seek_same s (Done seek.Owing) was = was
  seek_same s (Done seek.Idle) was = was
  seek_same s ask was = was

  begun_same : (shape : Shape) (s : KeeperState) (found : Option Commit) → Same s → Same (writes_begun shape s found)
  begun_same shape s None was = was
  begun_same shape s (Some c) was = was

  wait_same : (shape : Shape) (s : KeeperState) (ask : Ask WaitAnswer) → Same s → Same (wait_ledto shape s ask)
  unfolding wait_ledto
  wait_same shape s (Done wait.Flushed) was = begun_same shape s s.commit was
  wait_same shape s (Done wait.NotYet) was = was
  wait_same shape s (Done wait.Idle) was = was
  wait_same shape s ask was = was

  finished_same : (s : KeeperState) (found : Option Commit) → Same s → Same (finished s found)
  finished_same s None was = was
  finished_same s (Some c) was = was

  finish_same : (s : KeeperState) (ask : Ask FinishAnswer) → Same s → Same (finish_ledto s ask)
  unfolding finish_ledto
  finish_same s (Done its) was = finished_same s s.commit was
  finish_same s ask was = was

  write_same : (s : KeeperState) (found : Option Commit) (answer : WriteAnswer) → Same s → Same (write_ledto s found answer)
  unfolding write_ledto
  write_same s None answer was = was
  write_same s (Some c) write.Written was = was
  write_same s (Some c) write.Device was = either (must_rest s) _ _ was was
  write_same s (Some c) (write.Broken why) was = was

  called_same : (s : KeeperState) (done : Bool) → Same s → Same (writes_called s done)
  called_same s true was = write_same (record s { writes = commit_next s.writes true }) s.commit (commit_answer (commit_next s.writes true)) was
  called_same s false was = was

  sweep_same : (s : KeeperState) (ask : Ask SweepAnswer) → Same s → Same (sweep_ledto s ask)
  unfolding sweep_ledto
  sweep_same s (Done sweep.Through) was = was
  sweep_same s ask was = was

  read_same : (s : KeeperState) (done : Bool) (bytes : List ℕ) → Same s → Same (sweep_called s done bytes)
  read_same s true bytes was = sweep_same (record s { sweep = sweep_read s.sweep bytes }) (sweep_ask (sweep_read s.sweep bytes)) was
  read_same s false bytes was = was

  -- ---- each event of the keeper
  reply_same : (shape : Shape) (p : Places) (s : KeeperState) (step : Keeping) (reply : ℕ) (granted : Bool) → Same s → Same (keeping_next shape p s step reply granted)
  unfolding keeping_next
  reply_same shape p s (Ended its) reply granted was = was
  reply_same shape p s Starts reply granted was = start_same _ (start_ask (start_next s.start reply)) (ap (λ (a : StartAsked). a.class) (start_asked s.start reply) ∙ was)
  reply_same shape p s Maintains reply granted was = maintain_same _ (maintain_ask shape p (maintain_next shape p s.maintain reply)) was
  reply_same shape p s LoadsPhase reply granted was = phase_same p s s.commit (phase_said reply) granted was
  reply_same shape p s Enters reply granted was = enter_same _ (enter_ask (enter_next s.enter reply)) was
  reply_same shape p s Copies reply granted was = copy_same _ (copy_told (copy_driven s.copy reply)) was
  reply_same shape p s Seeks reply granted was = seek_same _ (seek_ask (seek_next s.seek reply)) was
  reply_same shape p s Waits reply granted was = wait_same shape _ (wait_ask (wait_next s.wait reply)) was
  reply_same shape p s Writes reply granted was = was
  reply_same shape p s Finishes reply granted was = finish_same _ (finish_ask s.seek.points (finish_next s.finish reply)) was
  reply_same shape p s Sweeps reply granted was = sweep_same _ (sweep_ask (sweep_next s.sweep reply)) was

  given_same : (shape : Shape) (p : Places) (s : KeeperState) (step : Keeping) (action : Action) → Same s → Same (keeping_given shape p s step action)
  unfolding keeping_given
  given_same shape p s Maintains action was = maintain_same _ (maintain_ask shape p (maintain_given s.maintain action)) was
  given_same shape p s step action was = was

  device_same : (shape : Shape) (p : Places) (s : KeeperState) (step : Keeping) (done : Bool) (bytes : List ℕ) → Same s → Same (keeping_called shape p s step done bytes)
  unfolding keeping_called
  device_same shape p s Maintains done bytes was = maintain_same _ (maintain_ask shape p (maintain_called shape p s.maintain done bytes)) was
  device_same shape p s Writes done bytes was = called_same s done was
  device_same shape p s Sweeps done bytes was = read_same s done bytes was
  device_same shape p s step done bytes was = was

  happens_same : (shape : Shape) (p : Places) (s : KeeperState) (event : KeeperEvent) → Same s → Same (keeper_happens shape p s event)
  unfolding keeper_happens
  happens_same shape p s BeginsTurn was = begins_same s (turn_asked s) (is_in_hand s.step) was (either s.is_broken _ _ was was)
  happens_same shape p s (BeginsCommit kind) was = begins_same s (commit_asked s kind) (is_in_hand s.step) was (either s.is_broken _ _ was (either s.rests _ _ was was))
  happens_same shape p s (Replies reply granted) was = reply_same shape p s s.step reply granted was
  happens_same shape p s (Gets action) was = given_same shape p s s.step action was
  happens_same shape p s (Calls done bytes) was = device_same shape p s s.step done bytes was

  run_same : (shape : Shape) (p : Places) (opening : KeeperState) (events : List KeeperEvent) → Same opening → Same (keeper_run shape p opening events)
  unfolding keeper_run
  run_same shape p opening [] was = was
  run_same shape p opening (event ∷ before) was = happens_same shape p (keeper_run shape p opening before) event (run_same shape p opening before was)

pub happens_class : (shape : Shape) (p : Places) (s : KeeperState) (event : KeeperEvent) → (keeper_happens shape p s event).start.asked.class ≡ s.start.asked.class
happens_class shape p s event = happens_same s.start.asked.class shape p s event refl

pub run_class : (shape : Shape) (p : Places) (opening : KeeperState) (events : List KeeperEvent) → (keeper_run shape p opening events).start.asked.class ≡ opening.start.asked.class
run_class shape p opening events = run_same opening.start.asked.class shape p opening events refl
