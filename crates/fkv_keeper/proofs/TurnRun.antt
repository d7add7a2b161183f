-- A turn tells a finished commit just where it has finished the one in hand; else that one and the newest finished commit stay.
use Rattle.std.proofs.Common.{inl, inr, ◌≡◌, ℕ, ◌∙◌, refl, sym, ap, List, Bool, true, false}
use Rattle.std.specs.Prelude.{◌&&◌, ◌⊎◌, ◌||◌, if◌then◌else◌, Option, Some, None, Result}
use Rattle.fkv_base.specs.declared.faults.Fault.{Fault}
use Rattle.fkv_base.specs.declared.numbers.Addr.{Addr}
use Rattle.fkv_keeper.specs.declared.answers.Turn.{Turn}
use Rattle.fkv_keeper.specs.Running.{number_in_hand, IsCommitKept, IsCommitFinished, IsTurnMade, IsTurnTold}
use Rattle.fkv_base.specs.declared.faults.Fault.TheVariants as fault
use Rattle.fkv_base.specs.declared.phases.Phase.TheVariants as phase
use Rattle.fkv_base.specs.declared.shapes.Shape.{Shape}
use Rattle.fkv_words.specs.declared.phase_words.PhaseSaid.{PhaseSaid}
use Rattle.fkv_words.specs.declared.phase_words.PhaseSaid.TheVariants.{Says}
use Rattle.fkv_words.specs.PhaseWords.{phase_said}
use Rattle.fkv_plane.specs.declared.actions.Action.{Action}
use Rattle.fkv_plane.specs.declared.asks.Ask.{Ask}
use Rattle.fkv_plane.specs.declared.asks.Ask.TheVariants.{Load, Store, Swap, Cas, Add, Max, Put, Take, Done}
use Rattle.fkv_plane.specs.declared.places.Places.{Places}
use Rattle.fkv_plane.specs.Passing.{is_done, passed}
use Rattle.fkv_commit.specs.declared.commits.Commit.{Commit}
use Rattle.fkv_commit.specs.declared.entering.EnterAnswer.{EnterAnswer}
use Rattle.fkv_commit.specs.declared.entering.EnterAnswer.TheVariants as enter
use Rattle.fkv_commit.specs.declared.finishing.FinishAnswer.{FinishAnswer}
use Rattle.fkv_commit.specs.declared.seeking.SeekAnswer.{SeekAnswer}
use Rattle.fkv_commit.specs.declared.seeking.SeekAnswer.TheVariants as seek
use Rattle.fkv_commit.specs.declared.waiting.WaitAnswer.{WaitAnswer}
use Rattle.fkv_commit.specs.declared.waiting.WaitAnswer.TheVariants as wait
use Rattle.fkv_commit.specs.Entering.{enter_ask, enter_next}
use Rattle.fkv_commit.specs.Finishing.{finish_ask, finish_next}
use Rattle.fkv_commit.specs.Seeking.{seek_ask, seek_next}
use Rattle.fkv_commit.specs.Waiting.{wait_ask, wait_next}
use Rattle.fkv_manifest.specs.declared.answers.WriteAnswer.{WriteAnswer}
use Rattle.fkv_manifest.specs.declared.answers.WriteAnswer.TheVariants as write
use Rattle.fkv_manifest.specs.Committing.{commit_answer, commit_next}
use Rattle.fkv_keeper.specs.declared.answers.KeeperTold.{KeeperTold}
use Rattle.fkv_keeper.specs.declared.answers.KeeperTold.TheVariants.{Device, Turned, TurnRefused, Begun, CommitRefused}
use Rattle.fkv_keeper.specs.declared.keepers.Keeping.{Keeping}
use Rattle.fkv_keeper.specs.declared.keepers.Keeping.TheVariants.{Ended, Starts, Maintains, LoadsPhase, Enters, Copies, Seeks, Waits, Writes, Finishes, Sweeps}
use Rattle.fkv_maintain.specs.declared.maintaining.MaintainAnswer.{MaintainAnswer}
use Rattle.fkv_maintain.specs.declared.maintaining.MaintainAnswer.TheVariants as maintain
use Rattle.fkv_keeper.specs.Keeping.{KeeperState, device_passed, write_asked, is_copy_resting, copy_asked, copy_driven, keeping_ask, keeper_ask, ended, maintain_ledto, copies, part_begun, phase_ledto, enter_ledto, copy_ledto, seek_ledto, writes_begun, wait_ledto, finished, finish_ledto, keeping_next, keeper_next, keeping_given, keeper_given, must_rest, parts_begun, write_ledto, copied, points_known, turn_asked, Finality, keeping_called, keeper_called, serves_alone, sweep_ledto, sweep_passed}
use Rattle.fkv_maintain.specs.Maintaining.{is_flush_resting, maintain_ask, maintain_next, maintain_given, maintain_called}
use Rattle.fkv_keeper.proofs.KeeperLeft.{never, nor}
use Rattle.fkv_sweep.specs.Sweeping.{is_sweeping, sweep_ask, sweep_next, sweep_read}
use Rattle.fkv_sweep.specs.declared.sweeping.SweepAnswer.{SweepAnswer}
use Rattle.fkv_sweep.specs.declared.sweeping.SweepAnswer.TheVariants as sweep

abbrev pub TurnRuns : KeeperState → KeeperState → Keeping → Type 0
TurnRuns before s (Ended (Turned true full)) = IsCommitFinished before s
TurnRuns before s (Ended (Begun number)) = ⊥
TurnRuns before s Starts = ⊥
TurnRuns before s step = IsCommitKept before s

pub turn_first : (s : KeeperState) → TurnRuns s (turn_asked s) (turn_asked s).step
turn_first s = cases s.is_broken
  where
    first : KeeperState
    first = record s { maintain = parts_begun (serves_alone s) s.maintain; is_drain_full = false; step = Maintains }

    cases : (b : Bool) → TurnRuns s (if b then ended s (TurnRefused fault.Broken) else first) (if b then ended s (TurnRefused fault.Broken) else first).step
    cases true = (refl, refl)
    cases false = (refl, refl)

either : (before : KeeperState) (b : Bool) (x y : KeeperState) → TurnRuns before x x.step → TurnRuns before y y.step → TurnRuns before (if b then x else y) (if b then x else y).step
either before true x y first second = first
either before false x y first second = second

maintain_led : (before s : KeeperState) (ask : Ask MaintainAnswer) → s.step ≡ Maintains → IsCommitKept before s → TurnRuns before (maintain_ledto s ask) (maintain_ledto s ask).step
unfolding maintain_ledto
maintain_led before s (Done maintain.Through) at kept = kept
maintain_led before s (Done maintain.Spent) at kept = kept
maintain_led before s (Done maintain.Broken) at kept = kept
maintain_led before s (Done maintain.Device) at kept = rw at kept
maintain_led before s ask at kept = rw at kept

copies_led : (before s : KeeperState) (p : Places) (granted : Bool) → IsCommitKept before s → TurnRuns before (copies p s granted) (copies p s granted).step
copies_led before s p granted kept = either before (granted || is_copy_resting s.copy) _ _ kept kept

part_led : (before s : KeeperState) (p : Places) (c : Commit) (said : PhaseSaid) (granted : Bool) → IsCommitKept before s → TurnRuns before (part_begun p s c said granted) (part_begun p s c said granted).step
part_led before s p c (Says phase.InProgress version) granted kept = either before s.has_entered _ _ (either before c.is_copied _ _ kept (copies_led before s p granted kept)) kept
part_led before s p c (Says phase.WaitPending version) granted kept = either before c.is_copied _ _ kept (copies_led before s p granted kept)
part_led before s p c (Says phase.WaitFlush version) granted kept = either before s.has_points _ _ kept kept
part_led before s p c said granted kept = kept

phase_led : (before s : KeeperState) (p : Places) (commit : Option Commit) (said : PhaseSaid) (granted : Bool) → IsCommitKept before s → TurnRuns before (phase_ledto p s commit said granted) (phase_ledto p s commit said granted).step
unfolding phase_ledto
phase_led before s p None said granted kept = either before (is_flush_resting s.maintain) _ _ kept (either before (granted && is_sweeping s.sweep) _ _ kept kept)
phase_led before s p (Some c) said granted kept = either before s.rests _ _ (either before granted _ _ kept kept) (either before (is_flush_resting s.maintain) _ _ kept (part_led before s p c said granted kept))

enter_led : (before s : KeeperState) (ask : Ask EnterAnswer) → s.step ≡ Enters → IsCommitKept before s → TurnRuns before (enter_ledto s ask) (enter_ledto s ask).step
unfolding enter_ledto
enter_led before s (Done enter.Entered) at kept = kept
enter_led before s (Done enter.DrainFull) at kept = kept
enter_led before s (Done enter.EpochsSpent) at kept = kept
enter_led before s (Done enter.Idle) at kept = kept
enter_led before s ask at kept = rw at kept

copied_number : (rests : Bool) (commit : Option Commit) → number_in_hand (copied rests commit) ≡ number_in_hand commit
copied_number rests None = refl
copied_number rests (Some c) = refl

copy_led : (before s : KeeperState) (ask : Ask (Unit {0})) → s.step ≡ Copies → IsCommitKept before s → TurnRuns before (copy_ledto s ask) (copy_ledto s ask).step
unfolding copy_ledto
copy_led before s (Done its) at kept = (kept.0, copied_number (is_copy_resting s.copy) s.commit ∙ kept.1)
copy_led before s ask at kept = rw at kept

known_number : (commit : Option Commit) (end : Addr) (epoch : ℕ) → number_in_hand (points_known commit end epoch) ≡ number_in_hand commit
known_number None end epoch = refl
known_number (Some c) end epoch = refl

seek_led : (before s : KeeperState) (ask : Ask SeekAnswer) → s.step ≡ Seeks → IsCommitKept before s → TurnRuns before (seek_ledto s ask) (seek_ledto s ask).step
unfolding seek_ledto
seek_led before s (Done (seek.Taken end epoch)) at kept = (kept.0, known_number s.commit end epoch ∙ kept.1)
seek_led before s (Done seek.DrainFull) at kept = kept
seek_led before s (Done seek.EpochsSpent) at kept = kept
seek_led before s (Done seek.Owing) at kept = kept
seek_led before s (Done seek.Idle) at kept = kept
seek_led before s ask at kept = rw at kept

writes_led : (before s : KeeperState) (shape : Shape) (commit : Option Commit) → IsCommitKept before s → TurnRuns before (writes_begun shape s commit) (writes_begun shape s commit).step
writes_led before s shape None kept = kept
writes_led before s shape (Some c) kept = kept

wait_led : (before s : KeeperState) (shape : Shape) (ask : Ask WaitAnswer) → s.step ≡ Waits → IsCommitKept before s → TurnRuns before (wait_ledto shape s ask) (wait_ledto shape s ask).step
unfolding wait_ledto
wait_led before s shape (Done wait.Flushed) at kept = writes_led before s shape s.commit kept
wait_led before s shape (Done wait.NotYet) at kept = kept
wait_led before s shape (Done wait.Idle) at kept = kept
wait_led before s shape ask at kept = rw at kept

write_led : (before s : KeeperState) (commit : Option Commit) (answer : WriteAnswer) → s.step ≡ Writes → IsCommitKept before s → TurnRuns before (write_ledto s commit answer) (write_ledto s commit answer).step
unfolding write_ledto
write_led before s None answer at kept = kept
write_led before s (Some c) write.Written at kept = kept
write_led before s (Some c) write.Device at kept = either before (must_rest s) _ _ kept (rw at kept)
write_led before s (Some c) (write.Broken why) at kept = rw at kept

finished_led : (before s : KeeperState) (commit : Option Commit) → s.commit ≡ commit → IsCommitKept before s → TurnRuns before (finished s commit) (finished s commit).step
finished_led before s None at kept = kept
finished_led before s (Some c) at kept = (sym kept.1 ∙ ap number_in_hand at, refl)

finish_led : (before s : KeeperState) (ask : Ask FinishAnswer) → s.step ≡ Finishes → IsCommitKept before s → TurnRuns before (finish_ledto s ask) (finish_ledto s ask).step
unfolding finish_ledto
finish_led before s (Done its) at kept = finished_led before s s.commit refl kept
finish_led before s ask at kept = rw at kept

sweep_led : (before s : KeeperState) (ask : Ask SweepAnswer) → s.step ≡ Sweeps → IsCommitKept before s → TurnRuns before (sweep_ledto s ask) (sweep_ledto s ask).step
unfolding sweep_ledto
sweep_led before s (Done sweep.Through) at kept = kept
sweep_led before s ask at kept = rw at kept

step_runs : (before s : KeeperState) (shape : Shape) (p : Places) (step : Keeping) (reply : ℕ) (granted : Bool) → s.step ≡ step → TurnRuns before s step → is_done (keeping_ask shape p s step) ≡ false
    → TurnRuns before (keeping_next shape p s step reply granted) (keeping_next shape p s step reply granted).step
unfolding keeping_ask keeping_next
step_runs before s shape p (Ended its) reply granted at runs asks = never asks
step_runs before s shape p Starts reply granted at runs asks = absurd runs
step_runs before s shape p Maintains reply granted at runs asks = maintain_led before (record s { maintain = maintain_next shape p s.maintain reply }) _ at runs
step_runs before s shape p LoadsPhase reply granted at runs asks = phase_led before s p s.commit (phase_said reply) granted runs
step_runs before s shape p Enters reply granted at runs asks = enter_led before (record s { enter = enter_next s.enter reply }) _ at runs
step_runs before s shape p Copies reply granted at runs asks = copy_led before (record s { copy = copy_driven s.copy reply }) _ at runs
step_runs before s shape p Seeks reply granted at runs asks = seek_led before (record s { seek = seek_next s.seek reply }) _ at runs
step_runs before s shape p Waits reply granted at runs asks = wait_led before (record s { wait = wait_next s.wait reply }) shape _ at runs
step_runs before s shape p Writes reply granted at runs asks = rw at runs
step_runs before s shape p Finishes reply granted at runs asks = finish_led before (record s { finish = finish_next s.finish reply }) _ at runs
step_runs before s shape p Sweeps reply granted at runs asks = sweep_led before (record s { sweep = sweep_next s.sweep reply }) _ at runs

pub runs_next : (before s : KeeperState) (shape : Shape) (p : Places) (reply : ℕ) (granted : Bool) → TurnRuns before s s.step → is_done (keeper_ask shape p s) ≡ false
    → TurnRuns before (keeper_next shape p s reply granted) (keeper_next shape p s reply granted).step
runs_next before s shape p reply granted runs asks = step_runs before s shape p s.step reply granted refl runs asks

step_given : (before s : KeeperState) (shape : Shape) (p : Places) (step : Keeping) (action : Action) → s.step ≡ step → TurnRuns before s step → TurnRuns before (keeping_given shape p s step action) (keeping_given shape p s step action).step
unfolding keeping_given
step_given before s shape p Maintains action at runs = maintain_led before (record s { maintain = maintain_given s.maintain action }) _ at runs
step_given before s shape p step action at runs = rw at runs

pub runs_given : (before s : KeeperState) (shape : Shape) (p : Places) (action : Action) → TurnRuns before s s.step → TurnRuns before (keeper_given shape p s action) (keeper_given shape p s action).step
runs_given before s shape p action runs = step_given before s shape p s.step action refl runs

step_called : (before s : KeeperState) (shape : Shape) (p : Places) (step : Keeping) (done : Bool) (bytes : List ℕ) → s.step ≡ step → TurnRuns before s step → TurnRuns before (keeping_called shape p s step done bytes) (keeping_called shape p s step done bytes).step
unfolding keeping_called
step_called before s shape p Maintains done bytes at runs = maintain_led before (record s { maintain = maintain_called shape p s.maintain done bytes }) _ at runs
step_called before s shape p Writes true bytes at runs = write_led before (record s { writes = commit_next s.writes true }) s.commit _ at runs
step_called before s shape p Writes false bytes at runs = runs
step_called before s shape p Sweeps true bytes at runs = sweep_led before (record s { sweep = sweep_read s.sweep bytes }) _ at runs
step_called before s shape p Sweeps false bytes at runs = runs
step_called before s shape p step done bytes at runs = rw at runs

pub runs_called : (before s : KeeperState) (shape : Shape) (p : Places) (done : Bool) (bytes : List ℕ) → TurnRuns before s s.step → TurnRuns before (keeper_called shape p s done bytes) (keeper_called shape p s done bytes).step
runs_called before s shape p done bytes runs = step_called before s shape p s.step done bytes refl runs

-- only a turn at its end tells a finished commit

abbrev pub tells_finished : Ask KeeperTold → Bool
tells_finished (Done (Turned true full)) = true
tells_finished ask = false

passed_tells : {A : Type 0} (ask : Ask A) (full : Bool) → tells_finished (passed ask (Turned false full)) ≡ false
unfolding passed
passed_tells (Done its) full = refl
passed_tells (Load place) full = refl
passed_tells (Store place new) full = refl
passed_tells (Swap place new) full = refl
passed_tells (Cas place old new) full = refl
passed_tells (Add place k) full = refl
passed_tells (Max place k) full = refl
passed_tells (Put slot action) full = refl
passed_tells (Take slot) full = refl

device_tells : (ask : Ask MaintainAnswer) (full : Bool) → tells_finished (device_passed ask (Turned false full)) ≡ false
unfolding device_passed passed
device_tells (Done maintain.Device) full = refl
device_tells (Done maintain.Through) full = refl
device_tells (Done maintain.Spent) full = refl
device_tells (Done maintain.Broken) full = refl
device_tells (Load place) full = refl
device_tells (Store place new) full = refl
device_tells (Swap place new) full = refl
device_tells (Cas place old new) full = refl
device_tells (Add place k) full = refl
device_tells (Max place k) full = refl
device_tells (Put slot action) full = refl
device_tells (Take slot) full = refl

sweep_tells : (ask : Ask SweepAnswer) (full : Bool) → tells_finished (sweep_passed ask (Turned false full)) ≡ false
unfolding sweep_passed passed
sweep_tells (Done sweep.Device) full = refl
sweep_tells (Done sweep.Through) full = refl
sweep_tells (Load place) full = refl
sweep_tells (Store place new) full = refl
sweep_tells (Swap place new) full = refl
sweep_tells (Cas place old new) full = refl
sweep_tells (Add place k) full = refl
sweep_tells (Max place k) full = refl
sweep_tells (Put slot action) full = refl
sweep_tells (Take slot) full = refl

write_tells : (answer : WriteAnswer) (full : Bool) → tells_finished (write_asked answer (Turned false full)) ≡ false
write_tells write.Device full = refl
write_tells write.Written full = refl
write_tells (write.Broken why) full = refl

step_made : (before s : KeeperState) (shape : Shape) (p : Places) (step : Keeping) → TurnRuns before s step → ((tells_finished (keeping_ask shape p s step) ≡ true) × IsCommitFinished before s) ⊎ ((tells_finished (keeping_ask shape p s step) ≡ false) × IsCommitKept before s)
unfolding keeping_ask
step_made before s shape p (Ended (Turned true full)) runs = inl (refl, runs)
step_made before s shape p (Ended (Turned false full)) runs = inr (refl, runs)
step_made before s shape p (Ended (TurnRefused why)) runs = inr (refl, runs)
step_made before s shape p (Ended (Begun number)) runs = absurd runs
step_made before s shape p (Ended (CommitRefused why)) runs = inr (refl, runs)
step_made before s shape p (Ended Device) runs = inr (refl, runs)
step_made before s shape p Starts runs = absurd runs
step_made before s shape p Maintains runs = inr (device_tells (maintain_ask shape p s.maintain) s.is_drain_full, runs)
step_made before s shape p LoadsPhase runs = inr (refl, runs)
step_made before s shape p Writes runs = inr (write_tells (commit_answer s.writes) s.is_drain_full, runs)
step_made before s shape p Enters runs = inr (passed_tells (enter_ask s.enter) s.is_drain_full, runs)
step_made before s shape p Copies runs = inr (passed_tells (copy_asked s.copy) s.is_drain_full, runs)
step_made before s shape p Seeks runs = inr (passed_tells (seek_ask s.seek) s.is_drain_full, runs)
step_made before s shape p Waits runs = inr (passed_tells (wait_ask s.wait) s.is_drain_full, runs)
step_made before s shape p Finishes runs = inr (passed_tells (finish_ask s.seek.points s.finish) s.is_drain_full, runs)
step_made before s shape p Sweeps runs = inr (sweep_tells (sweep_ask s.sweep) s.is_drain_full, runs)

kept_made : (before s : KeeperState) (newest : Finality) (ask : Ask KeeperTold) (result : Result Turn Fault) → tells_finished ask ≡ false → IsCommitKept before s → IsTurnTold newest ask result → IsTurnMade before s result
kept_made before s newest (Done (Turned true full)) result tells kept told = never tells
kept_made before s newest (Done (Turned false full)) result tells kept told = rw (told.1, told.3) kept
kept_made before s newest (Done (TurnRefused why)) result tells kept told = rw told kept
kept_made before s newest (Done (Begun number)) result tells kept told = rw told kept
kept_made before s newest (Done (CommitRefused why)) result tells kept told = rw told kept
kept_made before s newest (Done Device) result tells kept told = rw told kept
kept_made before s newest (Load place) result tells kept told = rw told kept
kept_made before s newest (Store place new) result tells kept told = rw told kept
kept_made before s newest (Swap place new) result tells kept told = rw told kept
kept_made before s newest (Cas place old new) result tells kept told = rw told kept
kept_made before s newest (Add place k) result tells kept told = rw told kept
kept_made before s newest (Max place k) result tells kept told = rw told kept
kept_made before s newest (Put slot action) result tells kept told = rw told kept
kept_made before s newest (Take slot) result tells kept told = rw told kept

finish_made : (before s : KeeperState) (newest : Finality) (ask : Ask KeeperTold) (result : Result Turn Fault) → tells_finished ask ≡ true → IsCommitFinished before s → IsTurnTold newest ask result → IsTurnMade before s result
finish_made before s newest (Done (Turned true full)) result tells made told = rw (told.1, told.3.1) made
finish_made before s newest (Done (Turned false full)) result tells made told = nor tells
finish_made before s newest (Done (TurnRefused why)) result tells made told = nor tells
finish_made before s newest (Done (Begun number)) result tells made told = nor tells
finish_made before s newest (Done (CommitRefused why)) result tells made told = nor tells
finish_made before s newest (Done Device) result tells made told = nor tells
finish_made before s newest (Load place) result tells made told = nor tells
finish_made before s newest (Store place new) result tells made told = nor tells
finish_made before s newest (Swap place new) result tells made told = nor tells
finish_made before s newest (Cas place old new) result tells made told = nor tells
finish_made before s newest (Add place k) result tells made told = nor tells
finish_made before s newest (Max place k) result tells made told = nor tells
finish_made before s newest (Put slot action) result tells made told = nor tells
finish_made before s newest (Take slot) result tells made told = nor tells

pub turn_made : (before s : KeeperState) (shape : Shape) (p : Places) (newest : Finality) (result : Result Turn Fault) → TurnRuns before s s.step → IsTurnTold newest (keeper_ask shape p s) result → IsTurnMade before s result
turn_made before s shape p newest result runs told = elim (step_made before s shape p s.step runs) [
  | inl its ↦ finish_made before s newest (keeper_ask shape p s) result its.0 its.1 told
  | inr its ↦ kept_made before s newest (keeper_ask shape p s) result its.0 its.1 told
]
