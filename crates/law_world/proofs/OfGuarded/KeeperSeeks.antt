-- Over every run of a keeper it seeks the points of as many sessions as at first.
use Rattle.std.proofs.Common.{◌≡◌, ℕ, ◌∙◌, refl, List, [], ◌∷◌, Bool, true, false}
use Rattle.std.specs.Prelude.{if◌then◌else◌, Option, Some, None, ◌||◌, ◌&&◌}
use Rattle.fkv_base.specs.declared.phases.Phase.TheVariants as phase
use Rattle.fkv_base.specs.declared.shapes.Shape.{Shape}
use Rattle.fkv_words.specs.declared.phase_words.PhaseSaid.{PhaseSaid}
use Rattle.fkv_words.specs.declared.phase_words.PhaseSaid.TheVariants.{Says}
use Rattle.fkv_words.specs.PhaseWords.{phase_said}
use Rattle.fkv_plane.specs.declared.actions.Action.{Action}
use Rattle.fkv_plane.specs.declared.asks.Ask.{Ask}
use Rattle.fkv_plane.specs.declared.asks.Ask.TheVariants.{Done}
use Rattle.fkv_plane.specs.declared.places.Places.{Places}
use Rattle.fkv_commit.specs.declared.commits.Commit.{Commit}
use Rattle.fkv_commit.specs.declared.entering.EnterAnswer.{EnterAnswer}
use Rattle.fkv_commit.specs.declared.entering.EnterAnswer.TheVariants as enter
use Rattle.fkv_commit.specs.declared.finishing.FinishAnswer.{FinishAnswer}
use Rattle.fkv_commit.specs.declared.seeking.SeekAnswer.{SeekAnswer}
use Rattle.fkv_commit.specs.declared.seeking.SeekAnswer.TheVariants as seek
use Rattle.fkv_commit.specs.declared.starting.StartAnswer.{StartAnswer}
use Rattle.fkv_commit.specs.declared.starting.StartAnswer.TheVariants as start
use Rattle.fkv_commit.specs.declared.waiting.WaitAnswer.{WaitAnswer}
use Rattle.fkv_commit.specs.declared.waiting.WaitAnswer.TheVariants as wait
use Rattle.fkv_commit.specs.Entering.{enter_ask, enter_next}
use Rattle.fkv_commit.specs.Finishing.{finish_ask, finish_next}
use Rattle.fkv_commit.specs.Seeking.{seek_ask, seek_next}
use Rattle.fkv_commit.specs.Starting.{start_ask, start_next}
use Rattle.fkv_commit.specs.Waiting.{wait_ask, wait_next}
use Rattle.fkv_commit.proofs.Shown.{seek_begun_keeps, seek_keeps}
use Rattle.fkv_sweep.specs.declared.sweeping.SweepAnswer.{SweepAnswer}
use Rattle.fkv_sweep.specs.declared.sweeping.SweepAnswer.TheVariants as swept
use Rattle.fkv_sweep.specs.Sweeping.{is_sweeping, sweep_ask, sweep_next, sweep_read}
use Rattle.fkv_manifest.specs.declared.answers.WriteAnswer.{WriteAnswer}
use Rattle.fkv_manifest.specs.declared.answers.WriteAnswer.TheVariants as write
use Rattle.fkv_manifest.specs.Committing.{commit_answer, commit_next}
use Rattle.fkv_maintain.specs.declared.maintaining.MaintainAnswer.{MaintainAnswer}
use Rattle.fkv_maintain.specs.declared.maintaining.MaintainAnswer.TheVariants as maintain
use Rattle.fkv_maintain.specs.Maintaining.{MaintainState, maintain_ask, maintain_called, maintain_given, maintain_next, is_flush_resting}
use Rattle.fkv_keeper.specs.declared.keepers.Keeping.{Keeping}
use Rattle.fkv_keeper.specs.declared.keepers.Keeping.TheVariants.{Ended, Starts, Maintains, LoadsPhase, Enters, Copies, Seeks, Waits, Writes, Finishes, Sweeps}
use Rattle.fkv_keeper.specs.KeeperRun.{BeginsCommit, BeginsTurn, Calls, Gets, KeeperEvent, Replies, begins, is_in_hand, keeper_happens, keeper_run}
use Rattle.fkv_keeper.specs.Keeping.{must_rest, KeeperState, commit_asked, copies, copies_next, copy_driven, copy_ledto, enter_ledto, finish_ledto, finished, keeping_called, keeping_given, keeping_next, maintain_ledto, part_begun, phase_ledto, seek_ledto, start_ledto, sweep_called, sweep_ledto, turn_asked, wait_ledto, write_ledto, writes_begun, writes_called, is_copy_resting, copy_told}

abbrev sought : KeeperState → ℕ
sought s = s.seek.sessions

either : (b : Bool) (x y : KeeperState) (n : ℕ) → sought x ≡ n → sought y ≡ n → sought (if b then x else y) ≡ n
either true x y n first second = first
either false x y n first second = second

-- by what the machines inside ask next
start_led : (s : KeeperState) (ask : Ask StartAnswer) → sought (start_ledto s ask) ≡ sought s
unfolding start_ledto
start_led s (Done (start.Begun number first)) = refl
start_led s (Done (start.Refused why)) = refl
start_led s (Done start.Idle) = refl
start_led s ask = refl

maintain_led : (s : KeeperState) (m : MaintainState) (ask : Ask MaintainAnswer) → sought (maintain_ledto (record s { maintain = m }) ask) ≡ sought s
unfolding maintain_ledto
maintain_led s m (Done maintain.Through) = refl
maintain_led s m (Done maintain.Spent) = refl
maintain_led s m (Done maintain.Broken) = refl
maintain_led s m ask = refl

copies_led : (p : Places) (s : KeeperState) (granted : Bool) → sought (copies p s granted) ≡ sought s
copies_led p s granted = either (granted || is_copy_resting s.copy) _ _ (sought s) refl refl

next_led : (p : Places) (s : KeeperState) (c : Commit) (granted : Bool) (else_next : KeeperState) → sought else_next ≡ sought s → sought (copies_next p s c granted else_next) ≡ sought s
next_led p s c granted else_next same = either c.is_copied else_next (copies p s granted) (sought s) same (copies_led p s granted)

part_led : (p : Places) (s : KeeperState) (c : Commit) (said : PhaseSaid) (granted : Bool) → sought (part_begun p s c said granted) ≡ sought s
part_led p s c (Says phase.InProgress version) granted = either s.has_entered _ _ (sought s) (next_led p s c granted _ refl) refl
part_led p s c (Says phase.WaitPending version) granted = next_led p s c granted _ (seek_begun_keeps s.seek c.number s.last.points)
part_led p s c (Says phase.WaitFlush version) granted = either s.has_points _ _ (sought s) refl refl
part_led p s c said granted = refl

phase_led : (p : Places) (s : KeeperState) (commit : Option Commit) (said : PhaseSaid) (granted : Bool) → sought (phase_ledto p s commit said granted) ≡ sought s
unfolding phase_ledto
phase_led p s None said granted = either (is_flush_resting s.maintain) _ _ (sought s) refl (either (granted && is_sweeping s.sweep) _ _ (sought s) refl refl)
phase_led p s (Some c) said granted = either s.rests _ _ (sought s) (either granted _ _ (sought s) refl refl) (either (is_flush_resting s.maintain) _ _ (sought s) refl (part_led p s c said granted))

enter_led : (s : KeeperState) (ask : Ask EnterAnswer) → sought (enter_ledto s ask) ≡ sought s
unfolding enter_ledto
enter_led s (Done enter.Entered) = refl
enter_led s (Done enter.DrainFull) = refl
enter_led s (Done enter.EpochsSpent) = refl
enter_led s (Done enter.Idle) = refl
enter_led s ask = refl

copy_led : (s : KeeperState) (ask : Ask (Unit {0})) → sought (copy_ledto s ask) ≡ sought s
unfolding copy_ledto
copy_led s (Done its) = refl
copy_led s ask = refl

seek_led : (s : KeeperState) (ask : Ask SeekAnswer) → sought (seek_ledto s ask) ≡ sought s
unfolding seek_ledto
seek_led s (Done (seek.Taken end epoch)) = refl
seek_led s (Done seek.DrainFull) = refl
seek_led s (Done seek.EpochsSpent) = refl
seek_led s (Done seek.Owing) = refl
seek_led s (Done seek.Idle) = refl
seek_led s ask = refl

writes_led : (shape : Shape) (s : KeeperState) (commit : Option Commit) → sought (writes_begun shape s commit) ≡ sought s
writes_led shape s None = refl
writes_led shape s (Some c) = refl

wait_led : (shape : Shape) (s : KeeperState) (ask : Ask WaitAnswer) → sought (wait_ledto shape s ask) ≡ sought s
unfolding wait_ledto
wait_led shape s (Done wait.Flushed) = writes_led shape s s.commit
wait_led shape s (Done wait.NotYet) = refl
wait_led shape s (Done wait.Idle) = refl
wait_led shape s ask = refl

finished_led : (s : KeeperState) (commit : Option Commit) → sought (finished s commit) ≡ sought s
finished_led s None = refl
finished_led s (Some c) = refl

finish_led : (s : KeeperState) (ask : Ask FinishAnswer) → sought (finish_ledto s ask) ≡ sought s
unfolding finish_ledto
finish_led s (Done its) = finished_led s s.commit
finish_led s ask = refl

write_led : (s : KeeperState) (commit : Option Commit) (answer : WriteAnswer) → sought (write_ledto s commit answer) ≡ sought s
unfolding write_ledto
write_led s None answer = refl
write_led s (Some c) write.Written = refl
write_led s (Some c) write.Device = either (must_rest s) _ _ (sought s) refl refl
write_led s (Some c) (write.Broken why) = refl

sweep_led : (s : KeeperState) (ask : Ask SweepAnswer) → sought (sweep_ledto s ask) ≡ sought s
unfolding sweep_ledto
sweep_led s (Done swept.Through) = refl
sweep_led s ask = refl

-- so of each event
next_seeks : (shape : Shape) (p : Places) (s : KeeperState) (step : Keeping) (reply : ℕ) (granted : Bool) → sought (keeping_next shape p s step reply granted) ≡ sought s
unfolding keeping_next
next_seeks shape p s (Ended its) reply granted = refl
next_seeks shape p s Starts reply granted = start_led (record s { start = start_next s.start reply }) (start_ask (start_next s.start reply))
next_seeks shape p s Maintains reply granted = maintain_led s (maintain_next shape p s.maintain reply) (maintain_ask shape p (maintain_next shape p s.maintain reply))
next_seeks shape p s LoadsPhase reply granted = phase_led p s s.commit (phase_said reply) granted
next_seeks shape p s Enters reply granted = enter_led (record s { enter = enter_next s.enter reply }) (enter_ask (enter_next s.enter reply))
next_seeks shape p s Copies reply granted = copy_led (record s { copy = copy_driven s.copy reply }) (copy_told (copy_driven s.copy reply))
next_seeks shape p s Seeks reply granted = seek_led (record s { seek = seek_next s.seek reply }) (seek_ask (seek_next s.seek reply)) ∙ seek_keeps s.seek reply
next_seeks shape p s Waits reply granted = wait_led shape (record s { wait = wait_next s.wait reply }) (wait_ask (wait_next s.wait reply))
next_seeks shape p s Writes reply granted = refl
next_seeks shape p s Finishes reply granted = finish_led (record s { finish = finish_next s.finish reply }) (finish_ask s.seek.points (finish_next s.finish reply))
next_seeks shape p s Sweeps reply granted = sweep_led (record s { sweep = sweep_next s.sweep reply }) (sweep_ask (sweep_next s.sweep reply))

given_seeks : (shape : Shape) (p : Places) (s : KeeperState) (step : Keeping) (action : Action) → sought (keeping_given shape p s step action) ≡ sought s
unfolding keeping_given
given_seeks shape p s Maintains action = maintain_led s (maintain_given s.maintain action) (maintain_ask shape p (maintain_given s.maintain action))
given_seeks shape p s step action = refl

writes_seeks : (s : KeeperState) (done : Bool) → sought (writes_called s done) ≡ sought s
writes_seeks s true = write_led (record s { writes = commit_next s.writes true }) s.commit (commit_answer (commit_next s.writes true))
writes_seeks s false = refl

swept_seeks : (s : KeeperState) (done : Bool) (bytes : List ℕ) → sought (sweep_called s done bytes) ≡ sought s
swept_seeks s true bytes = sweep_led (record s { sweep = sweep_read s.sweep bytes }) (sweep_ask (sweep_read s.sweep bytes))
swept_seeks s false bytes = refl

called_seeks : (shape : Shape) (p : Places) (s : KeeperState) (step : Keeping) (done : Bool) (bytes : List ℕ) → sought (keeping_called shape p s step done bytes) ≡ sought s
unfolding keeping_called
called_seeks shape p s Maintains done bytes = maintain_led s (maintain_called shape p s.maintain done bytes) (maintain_ask shape p (maintain_called shape p s.maintain done bytes))
called_seeks shape p s Writes done bytes = writes_seeks s done
called_seeks shape p s Sweeps done bytes = swept_seeks s done bytes
called_seeks shape p s step done bytes = refl

begins_seeks : (s begun : KeeperState) (busy : Bool) → sought begun ≡ sought s → sought (begins s busy begun) ≡ sought s
begins_seeks s begun true same = refl
begins_seeks s begun false same = same

happens_seeks : (shape : Shape) (p : Places) (s : KeeperState) (event : KeeperEvent) → sought (keeper_happens shape p s event) ≡ sought s
unfolding keeper_happens
happens_seeks shape p s BeginsTurn = begins_seeks s (turn_asked s) (is_in_hand s.step) (either s.is_broken _ _ (sought s) refl refl)
happens_seeks shape p s (BeginsCommit kind) = begins_seeks s (commit_asked s kind) (is_in_hand s.step) (either s.is_broken _ _ (sought s) refl (either s.rests _ _ (sought s) refl refl))
happens_seeks shape p s (Replies reply granted) = next_seeks shape p s s.step reply granted
happens_seeks shape p s (Gets action) = given_seeks shape p s s.step action
happens_seeks shape p s (Calls done bytes) = called_seeks shape p s s.step done bytes

pub run_seeks : (shape : Shape) (p : Places) (first : KeeperState) (events : List KeeperEvent) → (keeper_run shape p first events).seek.sessions ≡ first.seek.sessions
unfolding keeper_run
run_seeks shape p first [] = refl
run_seeks shape p first (event ∷ before) = happens_seeks shape p (keeper_run shape p first before) event ∙ run_seeks shape p first before
