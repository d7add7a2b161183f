-- The keeper writes nothing below the slots: so the block of the shape is as it was opened.
use Rattle.std.proofs.Common.{◌≡◌, ℕ, ◌≤◌, ◌∙◌, arith, refl, sym, ap, subst, Bool, true, false, List, [], ◌∷◌}
use Rattle.std.specs.Prelude.{⊤, ◌==◌, ◌%◌, if◌then◌else◌, Option, Some, None, ◌||◌}
use Rattle.fkv_base.specs.declared.phases.Phase.TheVariants as phase
use Rattle.fkv_base.specs.declared.shapes.Shape.{Shape}
use Rattle.law_commit.specs.Below.fkv_commit.Commit.{Commit}
use Rattle.fkv_base.specs.declared.commits.CommitKind.{CommitKind}
use Rattle.law_commit.specs.Below.fkv_commit.EnterAnswer.{EnterAnswer}
use Rattle.law_commit.specs.Below.fkv_commit.EnterAnswer.TheVariants as enter
use Rattle.law_commit.specs.Below.fkv_commit.FinishAnswer.{FinishAnswer}
use Rattle.law_commit.specs.Below.fkv_commit.SeekAnswer.{SeekAnswer}
use Rattle.law_commit.specs.Below.fkv_commit.SeekAnswer.TheVariants as seek
use Rattle.law_commit.specs.Below.fkv_commit.StartAnswer.{StartAnswer}
use Rattle.law_commit.specs.Below.fkv_commit.StartAnswer.TheVariants as start
use Rattle.law_commit.specs.Below.fkv_commit.WaitAnswer.{WaitAnswer}
use Rattle.law_commit.specs.Below.fkv_commit.WaitAnswer.TheVariants as wait
use Rattle.law_commit.specs.Below.fkv_commit.Entering.{enter_ask, enter_next}
use Rattle.law_commit.specs.Below.fkv_commit.Finishing.{finish_ask, finish_next}
use Rattle.law_commit.specs.Below.fkv_commit.Seeking.{seek_ask, seek_next}
use Rattle.law_commit.specs.Below.fkv_commit.Starting.{start_ask, start_next}
use Rattle.law_commit.specs.Below.fkv_commit.Waiting.{wait_ask, wait_next}
use Rattle.law_commit.specs.Below.fkv_keeper.TheKeeping.{Keeping}
use Rattle.law_commit.specs.Below.fkv_keeper.TheKeeping.TheVariants.{Ended, Starts, Maintains, LoadsPhase, Enters, Copies, Seeks, Waits, Writes, Finishes, Sweeps}
use Rattle.law_commit.specs.Below.fkv_keeper.Keeping.{KeeperState, come_to, commit_asked, must_rest, turn_asked, copies, copies_next, copy_driven, copy_ledto, enter_ledto, finish_ledto, finished, keeping_called, keeping_given, keeping_next, maintain_ledto, part_begun, phase_ledto, seek_ledto, start_ledto, sweeps_next, turned, unless_flush_rests, wait_ledto, write_ledto, writes_begun, writes_called, writes_taken_up, is_copy_resting, copy_told}
use Rattle.law_commit.specs.Below.fkv_keeper.KeeperAsks.{keeping_calls}
use Rattle.law_commit.proofs.Below.fkv_keeper.Shown.{BeginsRest}
use Rattle.law_commit.specs.Below.fkv_keeper.KeeperRun.{BeginsCommit, BeginsTurn, Calls, Gets, IsOpened, KeeperEvent, Replies, begins, is_in_hand, keeper_happens, keeper_run}
use Rattle.law_commit.specs.Below.fkv_keeper.LastCommits.{slot_place}
use Rattle.law_commit.specs.Below.fkv_maintain.MaintainAnswer.{MaintainAnswer}
use Rattle.law_commit.specs.Below.fkv_maintain.MaintainAnswer.TheVariants as maintain
use Rattle.law_commit.specs.Below.fkv_maintain.Maintaining.{is_flush_resting, maintain_ask, maintain_called, maintain_given, maintain_next}
use Rattle.law_commit.specs.Below.fkv_manifest.WriteAnswer.{WriteAnswer}
use Rattle.law_commit.specs.Below.fkv_manifest.WriteAnswer.TheVariants as write
use Rattle.law_commit.specs.Below.fkv_manifest.TheCommitting.{Committing}
use Rattle.law_commit.specs.Below.fkv_manifest.TheCommitting.TheVariants.{Broken, PutsSlot, SyncsTriples, WritesTriples}
use Rattle.law_commit.specs.Below.fkv_manifest.TheGating.{Gating}
use Rattle.law_commit.specs.Below.fkv_manifest.TheGating.TheVariants as gate
use Rattle.law_commit.specs.Below.fkv_manifest.Committing.{CommitWriter, commit_answer, commit_next, commit_step_call, gate_after}
use Rattle.law_commit.specs.Below.fkv_manifest.Gating.{GateWriter, gate_step_call}
use Rattle.law_commit.specs.Below.fkv_manifest.Made.{with_call}
use Rattle.fkv_plane.specs.declared.actions.Action.{Action}
use Rattle.fkv_plane.specs.declared.asks.Ask.{Ask}
use Rattle.fkv_plane.specs.declared.asks.Ask.TheVariants.{Done}
use Rattle.fkv_plane.specs.declared.places.Places.{Places}
use Rattle.fkv_base.specs.declared.numbers.Version.{Version}
use Rattle.fkv_words.specs.declared.phase_words.PhaseSaid.{PhaseSaid}
use Rattle.fkv_words.specs.declared.phase_words.PhaseSaid.TheVariants.{Says}
use Rattle.fkv_words.specs.PhaseWords.{phase_said}
use Rattle.law_commit.specs.Below.fkv_world.OwnEvents.{keeper_events}
use Rattle.law_commit.specs.Below.fkv_world.Runs.{World, run}
use Rattle.law_commit.specs.Below.fkv_world.World.{Event}
use Rattle.law_commit.proofs.Below.fkv_world.Shown.{keeper_runs}
use Rattle.law_commit.proofs.Shown.{sweep_begins, sweep_moves, sweep_reads}
use Rattle.law_order.proofs.OfImages.Resting.{RestsWell, at_step, happens_well, kept_on, opened_at, opened_well}
use Rattle.law_order.proofs.OfImages.Untouched.{AreAbove, MakesAbove, flush_calls_above}

-- ---- while a commit is written, its slot and its triples lie above the block
abbrev WritesHigh : Keeping → CommitWriter → Type 0
WritesHigh Writes w = (512 ≤ w.area) × (512 ≤ w.gate.place)
WritesHigh step w = ⊤

abbrev IsHigh : KeeperState → Type 0
IsHigh s = WritesHigh s.step s.writes

either : (c : Bool) (a b : KeeperState) → IsHigh a → IsHigh b → IsHigh (if c then a else b)
either true a b one other = one
either false a b one other = other

still : (s : KeeperState) (step : Keeping) → s.step ≡ step → WritesHigh step s.writes → IsHigh s
still s step at high = subst (λ (k : Keeping). WritesHigh k s.writes) (sym at) high

-- a call or a turn begins
turn_high : (s : KeeperState) → IsHigh (turn_asked s)
turn_high s = either s.is_broken _ _ tt tt

commit_high : (s : KeeperState) (kind : CommitKind) → IsHigh (commit_asked s kind)
commit_high s kind = either s.is_broken _ _ tt (either s.rests _ _ tt tt)

begins_high : (s begun : KeeperState) (busy : Bool) → IsHigh s → IsHigh begun → IsHigh (begins s busy begun)
begins_high s begun true one other = one
begins_high s begun false one other = other

-- what each part leads to
start_high : (s : KeeperState) (ask : Ask StartAnswer) → s.step ≡ Starts → IsHigh (start_ledto s ask)
unfolding start_ledto
start_high s (Done (start.Begun number first)) at = tt
start_high s (Done (start.Refused why)) at = tt
start_high s (Done start.Idle) at = tt
start_high s ask at = still s Starts at tt

maintain_high : (s : KeeperState) (ask : Ask MaintainAnswer) → s.step ≡ Maintains → IsHigh (maintain_ledto s ask)
unfolding maintain_ledto
maintain_high s (Done maintain.Through) at = tt
maintain_high s (Done maintain.Spent) at = tt
maintain_high s (Done maintain.Broken) at = tt
maintain_high s ask at = still s Maintains at tt

copies_high : (p : Places) (s : KeeperState) (c : Commit) (granted : Bool) (other : KeeperState) → IsHigh other → IsHigh (copies_next p s c granted other)
copies_high p s c granted other high = either c.is_copied other (copies p s granted) high (either (granted || is_copy_resting s.copy) _ _ tt tt)

part_high : (p : Places) (s : KeeperState) (c : Commit) (said : PhaseSaid) (granted : Bool) → IsHigh (part_begun p s c said granted)
part_high p s c (Says phase.InProgress version) granted = either s.has_entered _ _ (copies_high p s c granted (turned s) tt) tt
part_high p s c (Says phase.WaitPending version) granted = copies_high p s c granted _ tt
part_high p s c (Says phase.WaitFlush version) granted = either s.has_points _ _ tt tt
part_high p s c said granted = tt

phase_high : (p : Places) (s : KeeperState) (found : Option Commit) (said : PhaseSaid) (granted : Bool) → s.rests ≡ false → IsHigh (phase_ledto p s found said granted)
unfolding phase_ledto
phase_high p s None said granted none = either (is_flush_resting s.maintain) _ (sweeps_next s granted) tt (sweep_begins IsHigh s granted tt tt)
phase_high p s (Some c) said granted none = by s.rests none
  where
    by : (rests : Bool) → rests ≡ false → IsHigh (if rests then writes_taken_up s granted else unless_flush_rests s granted (part_begun p s c said granted))
    by true none = cc
    by false none = either (is_flush_resting s.maintain) _ _ tt (part_high p s c said granted)

enter_high : (s : KeeperState) (ask : Ask EnterAnswer) → s.step ≡ Enters → IsHigh (enter_ledto s ask)
unfolding enter_ledto
enter_high s (Done enter.Entered) at = tt
enter_high s (Done enter.DrainFull) at = tt
enter_high s (Done enter.EpochsSpent) at = tt
enter_high s (Done enter.Idle) at = tt
enter_high s ask at = still s Enters at tt

copy_high : (s : KeeperState) (ask : Ask (Unit {0})) → s.step ≡ Copies → IsHigh (copy_ledto s ask)
unfolding copy_ledto
copy_high s (Done its) at = tt
copy_high s ask at = still s Copies at tt

seek_high : (s : KeeperState) (ask : Ask SeekAnswer) → s.step ≡ Seeks → IsHigh (seek_ledto s ask)
unfolding seek_ledto
seek_high s (Done (seek.Taken end epoch)) at = tt
seek_high s (Done seek.DrainFull) at = tt
seek_high s (Done seek.EpochsSpent) at = tt
seek_high s (Done seek.Owing) at = tt
seek_high s (Done seek.Idle) at = tt
seek_high s ask at = still s Seeks at tt

slot_high : (number : Version) → 512 ≤ slot_place number
slot_high number = by_test (number.0 % 2 == 0)
  where
    by_test : (c : Bool) → 512 ≤ (if c then 512 else 1024)
    by_test true = omega arith
    by_test false = omega arith

begun_high : (shape : Shape) (s : KeeperState) (found : Option Commit) → IsHigh (writes_begun shape s found)
begun_high shape s None = tt
begun_high shape s (Some c) = (omega arith, slot_high c.number)

wait_high : (shape : Shape) (s : KeeperState) (ask : Ask WaitAnswer) → s.step ≡ Waits → IsHigh (wait_ledto shape s ask)
unfolding wait_ledto
wait_high shape s (Done wait.Flushed) at = begun_high shape s s.commit
wait_high shape s (Done wait.NotYet) at = tt
wait_high shape s (Done wait.Idle) at = tt
wait_high shape s ask at = still s Waits at tt

finished_high : (s : KeeperState) (found : Option Commit) → IsHigh (finished s found)
finished_high s None = tt
finished_high s (Some c) = tt

finish_high : (s : KeeperState) (ask : Ask FinishAnswer) → s.step ≡ Finishes → IsHigh (finish_ledto s ask)
unfolding finish_ledto
finish_high s (Done its) at = finished_high s s.commit
finish_high s ask at = still s Finishes at tt

-- the writes go on in their places
same_place : (its : GateWriter) (step : Committing) (done : Bool) → (gate_after its step done).place ≡ its.place
unfolding gate_after
same_place its PutsSlot done = refl
same_place its WritesTriples done = refl
same_place its SyncsTriples done = refl
same_place its (Broken why) done = refl

next_high : (w : CommitWriter) (done : Bool) → WritesHigh Writes w → WritesHigh Writes (commit_next w done)
next_high w done high = (high.0, subst (λ (place : ℕ). 512 ≤ place) (sym (same_place w.gate w.step done)) high.1)

written_high : (s : KeeperState) (found : Option Commit) (answer : WriteAnswer) → IsHigh s → IsHigh (write_ledto s found answer)
unfolding write_ledto
written_high s None answer high = tt
written_high s (Some c) write.Written high = tt
written_high s (Some c) write.Device high = either (must_rest s) (turned (record s { rests = true })) s tt high
written_high s (Some c) (write.Broken why) high = high

called_writes_high : (s : KeeperState) (done : Bool) → s.step ≡ Writes → WritesHigh Writes s.writes → IsHigh (writes_called s done)
called_writes_high s true at high = written_high (record s { writes = commit_next s.writes true }) s.commit (commit_answer (commit_next s.writes true)) (still (record s { writes = commit_next s.writes true }) Writes at (next_high s.writes true high))
called_writes_high s false at high = tt

-- ---- each event of the keeper
reply_high : (shape : Shape) (p : Places) (s : KeeperState) (step : Keeping) (reply : ℕ) (granted : Bool) → s.rests ≡ false → s.step ≡ step → WritesHigh step s.writes → IsHigh (keeping_next shape p s step reply granted)
unfolding keeping_next
reply_high shape p s (Ended its) reply granted none at high = still s (Ended its) at tt
reply_high shape p s Starts reply granted none at high = start_high _ (start_ask (start_next s.start reply)) at
reply_high shape p s Maintains reply granted none at high = maintain_high _ (maintain_ask shape p (maintain_next shape p s.maintain reply)) at
reply_high shape p s LoadsPhase reply granted none at high = phase_high p s s.commit (phase_said reply) granted none
reply_high shape p s Enters reply granted none at high = enter_high _ (enter_ask (enter_next s.enter reply)) at
reply_high shape p s Copies reply granted none at high = copy_high _ (copy_told (copy_driven s.copy reply)) at
reply_high shape p s Seeks reply granted none at high = seek_high _ (seek_ask (seek_next s.seek reply)) at
reply_high shape p s Waits reply granted none at high = wait_high shape _ (wait_ask (wait_next s.wait reply)) at
reply_high shape p s Writes reply granted none at high = still s Writes at high
reply_high shape p s Finishes reply granted none at high = finish_high _ (finish_ask s.seek.points (finish_next s.finish reply)) at
reply_high shape p s Sweeps reply granted none at high = sweep_moves IsHigh s reply (λ w. still (record s { sweep = w }) Sweeps at tt) (λ w. tt)

given_high : (shape : Shape) (p : Places) (s : KeeperState) (step : Keeping) (action : Action) → s.step ≡ step → WritesHigh step s.writes → IsHigh (keeping_given shape p s step action)
unfolding keeping_given
given_high shape p s Maintains action at high = maintain_high _ (maintain_ask shape p (maintain_given s.maintain action)) at
given_high shape p s step action at high = still s step at high

called_high : (shape : Shape) (p : Places) (s : KeeperState) (step : Keeping) (done : Bool) (bytes : List ℕ) → s.step ≡ step → WritesHigh step s.writes → IsHigh (keeping_called shape p s step done bytes)
unfolding keeping_called
called_high shape p s Maintains done bytes at high = maintain_high _ (maintain_ask shape p (maintain_called shape p s.maintain done bytes)) at
called_high shape p s Writes done bytes at high = called_writes_high s done at high
called_high shape p s Sweeps done bytes at high = sweep_reads IsHigh s done bytes (λ w. still (record s { sweep = w }) Sweeps at tt) (λ w. tt) (λ w. tt)
called_high shape p s step done bytes at high = still s step at high

step_high : (shape : Shape) (p : Places) (s : KeeperState) (event : KeeperEvent) → s.rests ≡ false → IsHigh s → IsHigh (keeper_happens shape p s event)
unfolding keeper_happens
step_high shape p s BeginsTurn none high = begins_high s (turn_asked s) (is_in_hand s.step) high (turn_high s)
step_high shape p s (BeginsCommit kind) none high = begins_high s (commit_asked s kind) (is_in_hand s.step) high (commit_high s kind)
step_high shape p s (Replies reply granted) none high = reply_high shape p s s.step reply granted none refl high
step_high shape p s (Gets action) none high = given_high shape p s s.step action refl high
step_high shape p s (Calls done bytes) none high = called_high shape p s s.step done bytes refl high

-- and so it is where the keeper has come to
abbrev HighAt : KeeperState → Keeping → Type 0
HighAt s step = WritesHigh step s.writes

record StaysHigh (s : KeeperState) : Type 0 where
  well : RestsWell s
  high : HighAt s (come_to s)

happens_high : (shape : Shape) (p : Places) (s : KeeperState) (event : KeeperEvent) → StaysHigh s → StaysHigh (keeper_happens shape p s event)
happens_high shape p s event is = record {
  well = happens_well shape p s event is.well;
  high = kept_on HighAt shape p s event is.well (step_high shape p s event) resting (λ a same high. subst (λ (w : CommitWriter). WritesHigh Writes w) (sym same.writes) high)
      (λ a broken high. subst (λ (k : Keeping). HighAt a k) (sym broken.step) tt) is.high;
}
  where
    resting : (a : KeeperState) → BeginsRest s event a → HighAt s Writes → HighAt a Writes
    resting a begun high = subst (λ (x : KeeperState). HighAt x Writes) (sym begun.same) (next_high s.writes true high)

run_high : (shape : Shape) (p : Places) (opening : KeeperState) (events : List KeeperEvent) → StaysHigh opening → StaysHigh (keeper_run shape p opening events)
unfolding keeper_run
run_high shape p opening [] high = high
run_high shape p opening (event ∷ before) high = happens_high shape p (keeper_run shape p opening before) event (run_high shape p opening before high)

any_high : (w : CommitWriter) (step : Keeping) → WritesHigh Writes w → WritesHigh step w
any_high w Writes high = high
any_high w step high = tt

opened_high : (s : KeeperState) → IsOpened s → IsHigh s
opened_high s opened = at_rest s.step refl
  where
    at_rest : (step : Keeping) → s.step ≡ step → IsHigh s
    at_rest Writes e = let clash : true ≡ false = sym (ap is_in_hand e) ∙ opened.none_in_hand in absurd (cc)
    at_rest (Ended its) e = still s (Ended its) e tt
    at_rest Starts e = still s Starts e tt
    at_rest Maintains e = still s Maintains e tt
    at_rest LoadsPhase e = still s LoadsPhase e tt
    at_rest Enters e = still s Enters e tt
    at_rest Copies e = still s Copies e tt
    at_rest Sweeps e = still s Sweeps e tt
    at_rest Seeks e = still s Seeks e tt
    at_rest Waits e = still s Waits e tt
    at_rest Finishes e = still s Finishes e tt

opening_high : (s : KeeperState) → IsOpened s → StaysHigh s
opening_high s opened = record { well = opened_well s opened; high = opened_at HighAt s opened (opened_high s opened) }

-- ---- its calls
gate_call_above : (place from : ℕ) (slot : List ℕ) (step : Gating) (done : Bool) → 512 ≤ place → AreAbove 512 (with_call (gate_step_call place from slot step done) [])
unfolding gate_step_call
gate_call_above place from slot gate.Closes done high = (high, tt)
gate_call_above place from slot gate.SyncsClosed done high = tt
gate_call_above place from slot gate.WritesBody done high = (omega (arith, high), tt)
gate_call_above place from slot gate.SyncsBody done high = tt
gate_call_above place from slot gate.Opens done high = (high, tt)
gate_call_above place from slot gate.SyncsOpen done high = tt
gate_call_above place from slot gate.Written done high = tt
gate_call_above place from slot (gate.Broken why) done high = tt

commit_call_above : (w : CommitWriter) (step : Committing) (done : Bool) → WritesHigh Writes w → AreAbove 512 (with_call (commit_step_call w.area w.triples w.gate step done) [])
unfolding commit_step_call
commit_call_above w WritesTriples done high = (high.0, tt)
commit_call_above w SyncsTriples done high = tt
commit_call_above w PutsSlot done high = gate_call_above w.gate.place w.gate.start w.gate.slot w.gate.step done high.1
commit_call_above w (Broken why) done high = tt

keeping_calls_above : (shape : Shape) (s : KeeperState) (step : Keeping) (done : Bool) → WritesHigh step s.writes → AreAbove 512 (keeping_calls shape s step done)
unfolding keeping_calls
keeping_calls_above shape s Maintains done high = flush_calls_above shape s.maintain s.maintain.step done
keeping_calls_above shape s Writes done high = commit_call_above s.writes s.writes.step done high
keeping_calls_above shape s step done high = tt

pub slots_above : (opening : World) (events : List Event) → IsOpened opening.now.keeper → MakesAbove opening 512 events
slots_above opening [] opened = tt
slots_above opening (event ∷ before) opened =
    let s : KeeperState = (run opening before).now.keeper in
    let is : StaysHigh s = subst StaysHigh (sym (keeper_runs opening before)) (run_high opening.now.shape opening.now.places opening.now.keeper (keeper_events opening before) (opening_high opening.now.keeper opened)) in
    let high : HighAt s s.step = at_step HighAt s (λ step. any_high s.writes step) is.high in
    (λ done. keeping_calls_above (run opening before).now.shape s s.step done high, slots_above opening before opened)
