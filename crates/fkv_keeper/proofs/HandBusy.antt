-- A keeper whose call is in hand asks for a word or for the device: whatever it begins asks, and where a machine inside it is at its end it goes on.
use Rattle.std.proofs.Common.{◌≡◌, ℕ, ◌<◌, refl, sym, subst, ap, arith, Bool, true, false, List, [], ◌∷◌, ◌∙◌}
use Rattle.std.specs.Prelude.{◌&&◌, nat_lt, ◌||◌, if◌then◌else◌, Option, Some, None}
use Rattle.std.proofs.lemmas.Bool.Decides.{nat_tests}
use Rattle.fkv_base.specs.declared.faults.Fault.TheVariants as fault
use Rattle.fkv_base.specs.declared.numbers.Serial.{Serial}
use Rattle.fkv_base.specs.declared.phases.Phase.TheVariants as phase
use Rattle.fkv_base.specs.declared.shapes.Shape.{Shape}
use Rattle.fkv_words.specs.declared.phase_words.PhaseSaid.{PhaseSaid}
use Rattle.fkv_words.specs.declared.phase_words.PhaseSaid.TheVariants.{Says}
use Rattle.fkv_words.specs.PhaseWords.{phase_said}
use Rattle.fkv_plane.specs.declared.actions.Action.{Action}
use Rattle.fkv_plane.specs.declared.asks.Ask.{Ask}
use Rattle.fkv_plane.specs.declared.asks.Ask.TheVariants.{Done}
use Rattle.fkv_plane.specs.declared.places.Places.{Places}
use Rattle.fkv_plane.specs.Passing.{is_done, passed}
use Rattle.fkv_epoch.specs.Raising.{raise_ask}
use Rattle.fkv_epoch.specs.Scanning.{scan_ask}
use Rattle.fkv_checkpoint.specs.declared.copying.CopyStep.{CopyStep}
use Rattle.fkv_checkpoint.specs.declared.copying.CopyStep.TheVariants as copying
use Rattle.fkv_checkpoint.specs.declared.copying.Copying.{Copying}
use Rattle.fkv_checkpoint.specs.Copying.{Copier, copy_begun, copy_ask, copy_step_ask, step_rests}
use Rattle.fkv_commit.specs.declared.commits.Commit.{Commit}
use Rattle.fkv_base.specs.declared.commits.CommitKind.{CommitKind}
use Rattle.fkv_commit.specs.declared.entering.EnterAnswer.{EnterAnswer}
use Rattle.fkv_commit.specs.declared.entering.EnterAnswer.TheVariants as enter
use Rattle.fkv_commit.specs.declared.finishing.FinishAnswer.{FinishAnswer}
use Rattle.fkv_commit.specs.declared.seeking.SeekAnswer.{SeekAnswer}
use Rattle.fkv_commit.specs.declared.seeking.SeekAnswer.TheVariants as seek
use Rattle.fkv_commit.specs.declared.starting.StartAnswer.{StartAnswer}
use Rattle.fkv_commit.specs.declared.starting.StartAnswer.TheVariants as start
use Rattle.fkv_commit.specs.declared.waiting.WaitAnswer.{WaitAnswer}
use Rattle.fkv_commit.specs.declared.waiting.WaitAnswer.TheVariants as wait
use Rattle.fkv_commit.specs.Deferring.{deferring_ask, defer_begun}
use Rattle.fkv_commit.specs.Entering.{enter_begun, enter_ask, entering_ask, enter_next}
use Rattle.fkv_commit.specs.Finishing.{FinishState, finish_begun, durable_from, finish_ask, finishing_ask, finish_next}
use Rattle.fkv_commit.specs.Seeking.{SeekState, seek_begun, seek_ask, seeking_ask, seek_next}
use Rattle.fkv_commit.specs.Starting.{start_ask, starting_ask, start_next}
use Rattle.fkv_commit.specs.declared.seeking.Seeking.TheVariants as seeking
use Rattle.fkv_commit.specs.declared.finishing.Finishing.TheVariants as finishing
use Rattle.fkv_commit.specs.Waiting.{wait_begun, wait_ask, waiting_ask, wait_next}
use Rattle.fkv_manifest.specs.declared.answers.WriteAnswer.{WriteAnswer}
use Rattle.fkv_manifest.specs.declared.answers.WriteAnswer.TheVariants as write
use Rattle.fkv_manifest.specs.declared.commits.Committing.{Committing}
use Rattle.fkv_manifest.specs.declared.commits.Committing.TheVariants as writing
use Rattle.fkv_manifest.specs.declared.gates.Gating.{Gating}
use Rattle.fkv_manifest.specs.declared.gates.Gating.TheVariants as gate
use Rattle.fkv_manifest.specs.Committing.{CommitWriter, commit_start, commit_step_next, commit_step_answer, commit_answer, commit_next, gate_after}
use Rattle.fkv_manifest.specs.Gating.{GateWriter, gate_start, gate_answer, gate_next}
use Rattle.fkv_maintain.specs.declared.maintaining.MaintainAnswer.{MaintainAnswer}
use Rattle.fkv_maintain.specs.declared.maintaining.MaintainAnswer.TheVariants as maintain
use Rattle.fkv_flush.specs.Serving.{serve_ask}
use Rattle.fkv_maintain.specs.Parts.{IsServing}
use Rattle.fkv_maintain.specs.Maintaining.{is_flush_resting, maintain_ask, device_asked, maintaining_ask, maintain_next, maintain_given, maintain_called}
use Rattle.fkv_keeper.specs.declared.answers.KeeperTold.TheVariants.{Turned, TurnRefused, CommitRefused}
use Rattle.fkv_keeper.specs.declared.keepers.Keeping.{Keeping}
use Rattle.fkv_keeper.specs.declared.keepers.Keeping.TheVariants.{Ended, Starts, Maintains, LoadsPhase, Enters, Copies, Seeks, Waits, Writes, Finishes, Sweeps}
use Rattle.fkv_keeper.specs.Answers.{is_busy}
use Rattle.fkv_keeper.specs.LastCommits.{is_gate_open}
use Rattle.fkv_keeper.specs.KeeperAsks.{keeper_asks_left}
use Rattle.fkv_keeper.specs.KeeperRun.{KeeperEvent, BeginsTurn, BeginsCommit, Replies, Gets, Calls, is_in_hand, begins, keeper_happens, keeper_run}
use Rattle.fkv_keeper.specs.Keeping.{KeeperState, device_passed, write_asked, turn_over, is_copy_resting, copy_asked, copy_told, copy_driven, keeping_ask, ended, turned, commit_asked, turn_asked, start_ledto, maintain_ledto, copies, copies_next, part_begun, writes_taken_up, parts_begun, must_rest, phase_ledto, enter_ledto, copy_ledto, seek_ledto, checkpoint_used, writes_of, writes_begun, wait_ledto, finished, finish_ledto, keeping_next, keeping_given, write_ledto, keeping_called, unless_flush_rests, serves_alone, sweeps_next, sweep_ledto, sweep_passed}
use Rattle.fkv_keeper.specs.KeeperLaws.{MayRest}
use Rattle.fkv_keeper.proofs.KeeperLeft.{keeper_left, never, nor}
use Rattle.fkv_keeper.proofs.Rests.{begins_rest, rests_still}
use Rattle.fkv_sweep.specs.Sweeping.{is_sweeping, sweep_ask, sweep_next, sweep_read, sweeping_ask, most_records}
use Rattle.std.specs.Option.{is_some}
use Rattle.fkv_sweep.specs.declared.sweeping.SweepAnswer.{SweepAnswer}
use Rattle.fkv_sweep.specs.declared.sweeping.SweepAnswer.TheVariants as sweep
use Rattle.fkv_sweep.specs.declared.sweeping.Sweeping.TheVariants as sweeping

-- the writes of a commit go on: neither they nor those of its slot are at an end
abbrev GoesOn : Gating → Committing → Type 0
GoesOn its (writing.Broken why) = ⊥
GoesOn its step = gate_answer its ≡ write.Device

-- a call that is in hand asks
abbrev BusyAt : Shape → Places → KeeperState → Keeping → Type 0
BusyAt shape p s (Ended its) = Unit {0}
BusyAt shape p s Writes = GoesOn s.writes.gate.step s.writes.step
BusyAt shape p s step = is_busy (keeping_ask shape p s step) ≡ true

abbrev IsBusyNow : Shape → Places → KeeperState → Type 0
IsBusyNow shape p s = BusyAt shape p s s.step

still : (shape : Shape) (p : Places) (s : KeeperState) (step : Keeping) → s.step ≡ step → BusyAt shape p s step → IsBusyNow shape p s
still shape p s step at busy = subst (λ (x : Keeping). BusyAt shape p s x) (sym at) busy

either_busy : (b : Bool) (shape : Shape) (p : Places) (s t : KeeperState) → IsBusyNow shape p s → IsBusyNow shape p t → IsBusyNow shape p (if b then s else t)
either_busy true shape p s t one other = one
either_busy false shape p s t one other = other

-- what it begins

commit_busy : (shape : Shape) (p : Places) (s : KeeperState) (kind : CommitKind) → IsBusyNow shape p (commit_asked s kind)
unfolding keeping_ask starting_ask passed
commit_busy shape p s kind = either_busy s.is_broken shape p _ _ tt (either_busy s.rests shape p _ _ tt refl)

turn_busy : (shape : Shape) (p : Places) (s : KeeperState) → IsBusyNow shape p (turn_asked s)
unfolding keeping_ask maintaining_ask scan_ask serve_ask device_asked device_passed passed
turn_busy shape p s = either_busy s.is_broken shape p _ _ tt (parts (serves_alone s))
  where
    parts : (rests : Bool) → is_busy (device_passed (maintain_ask shape p (parts_begun rests s.maintain)) (Turned false false)) ≡ true
    parts true = refl
    parts false = refl

enters : (shape : Shape) (p : Places) (s : KeeperState) (c : Commit) → IsBusyNow shape p (record s { enter = enter_begun s.enter c.number; step = Enters })
unfolding keeping_ask entering_ask deferring_ask raise_ask passed
enters shape p s c = refl

seeks : (shape : Shape) (p : Places) (s : KeeperState) (c : Commit) → IsBusyNow shape p (record s { seek = seek_begun s.seek c.number s.last.points; has_points = false; step = Seeks })
unfolding keeping_ask seeking_ask deferring_ask raise_ask passed
seeks shape p s c = tested (nat_lt 0 s.seek.sessions)
  where
    first : SeekState
    first = record s.seek { number = c.number; floor = s.last.points; points = [] }

    tested : (b : Bool) → is_busy (passed (seek_ask (if b then record first { step = seeking.LoadsOwing 0 } else record first { defer = defer_begun first.defer; step = seeking.SeeksSlot })) (turn_over s)) ≡ true
    tested true = refl
    tested false = refl

waits : (shape : Shape) (p : Places) (s : KeeperState) (c : Commit) → IsBusyNow shape p (record s { wait = wait_begun c.end c.epoch; step = Waits })
unfolding keeping_ask waiting_ask passed
waits shape p s c = refl

-- a copy has a first bucket
copies_on : (p : Places) (full b : Bool) → nat_lt 0 p.buckets ≡ b → 0 < p.buckets → is_busy (passed (copy_ask (copy_begun p).copying) (Turned false full)) ≡ true
unfolding copy_step_ask passed
copies_on p full true e some = rw e refl
copies_on p full false e some = let no : ⊥ = grind (arith, nat_tests) in absurd no

-- a copy that rests has a slot to load
rests_on : (p : Places) (c : Copying) (step : CopyStep) (full : Bool) → step_rests p c step ≡ true → is_busy (passed (copy_step_ask c.base step) (Turned false full)) ≡ true
unfolding step_rests copy_step_ask passed
rests_on p c copying.Ended full e = cc
rests_on p c (copying.LoadsSlot slot) full e = refl
rests_on p c copying.LoadsLink full e = cc

resting_busy : (copy : Option Copier) (full : Bool) → is_copy_resting copy ≡ true → is_busy (passed (copy_asked copy) (Turned false full)) ≡ true
resting_busy None full e = cc
resting_busy (Some m) full e = rests_on m.places m.copying m.copying.step full e

copies_busy : (shape : Shape) (p : Places) (s : KeeperState) (granted : Bool) → 0 < p.buckets → IsBusyNow shape p (copies p s granted)
unfolding keeping_ask
copies_busy shape p s granted some = by_rest (is_copy_resting s.copy) refl granted
  where
    by_rest : (rests : Bool) → is_copy_resting s.copy ≡ rests → (granted : Bool)
        → IsBusyNow shape p (if granted || rests then record s { copy = if rests then s.copy else Some (copy_begun p); is_granted = true; step = Copies } else ended (record s { is_granted = false }) (TurnRefused fault.Memory))
    by_rest true rests true = resting_busy s.copy s.is_drain_full rests
    by_rest true rests false = resting_busy s.copy s.is_drain_full rests
    by_rest false none true = copies_on p s.is_drain_full (nat_lt 0 p.buckets) refl some
    by_rest false none false = tt

gate_on : (b : Bool) → gate_answer (gate_start b) ≡ write.Device
unfolding gate_answer
gate_on true = refl
gate_on false = refl

start_on : (triples : List ℕ) (its : Gating) → gate_answer its ≡ write.Device → GoesOn its (commit_start triples)
start_on [] its on = on
start_on (b ∷ rest) its on = on

writes_busy : (shape : Shape) (p : Places) (s : KeeperState) (c : Option Commit) → IsBusyNow shape p (writes_begun shape s c)
writes_busy shape p s None = tt
writes_busy shape p s (Some c) = let w = writes_of shape s c (checkpoint_used c c.kind s.last s.copy) in start_on w.triples w.gate.step (gate_on (is_gate_open s.last.gates c.number))

finish_on : (points : List Serial) (its : FinishState) (full b : Bool) → is_busy (passed (finishing_ask points its (if b then finishing.StoresDurable 0 else finishing.StoresRest)) (Turned false full)) ≡ true
unfolding finishing_ask passed
finish_on points its full true = refl
finish_on points its full false = refl

finishes : (shape : Shape) (p : Places) (s : KeeperState) (c : Commit) → IsBusyNow shape p (record s { finish = finish_begun s.finish c.number; step = Finishes })
unfolding keeping_ask durable_from
finishes shape p s c = finish_on s.seek.points (finish_begun s.finish c.number) s.is_drain_full (nat_lt 0 s.finish.sessions)

-- where writes rest they go on, and a turn serves
abbrev GoesOnThere : KeeperState → Type 0
GoesOnThere s = s.rests ≡ true → (is_some s.commit ≡ true) × MayRest s.step × (s.step ≡ Maintains → IsServing s.maintain.step) × GoesOn s.writes.gate.step s.writes.step

-- where a reply leads

started : (shape : Shape) (p : Places) (s : KeeperState) (ask : Ask StartAnswer) → s.step ≡ Starts → start_ask s.start ≡ ask → IsBusyNow shape p (start_ledto s ask)
unfolding start_ledto keeping_ask passed
started shape p s (Done (start.Begun number first)) at same = tt
started shape p s (Done (start.Refused why)) at same = tt
started shape p s (Done start.Idle) at same = tt
started shape p s ask at same = still shape p s Starts at (ap (λ (its : Ask StartAnswer). is_busy (passed its (CommitRefused fault.CommitRunning))) same)

maintained : (shape : Shape) (p : Places) (s : KeeperState) (ask : Ask MaintainAnswer) → s.step ≡ Maintains → maintain_ask shape p s.maintain ≡ ask → IsBusyNow shape p (maintain_ledto s ask)
unfolding maintain_ledto keeping_ask device_passed passed
maintained shape p s (Done maintain.Through) at same = refl
maintained shape p s (Done maintain.Spent) at same = tt
maintained shape p s (Done maintain.Broken) at same = tt
maintained shape p s ask at same = still shape p s Maintains at (ap (λ (its : Ask MaintainAnswer). is_busy (device_passed its (turn_over s))) same)

next_copied : (shape : Shape) (p : Places) (s t : KeeperState) (c : Commit) (granted : Bool) → 0 < p.buckets → IsBusyNow shape p t → IsBusyNow shape p (copies_next p s c granted t)
next_copied shape p s t c granted some held = either_busy c.is_copied shape p t (copies p s granted) held (copies_busy shape p s granted some)

part_busy : (shape : Shape) (p : Places) (s : KeeperState) (c : Commit) (said : PhaseSaid) (granted : Bool) → 0 < p.buckets → IsBusyNow shape p (part_begun p s c said granted)
part_busy shape p s c (Says phase.InProgress version) granted some =
    either_busy s.has_entered shape p (copies_next p s c granted (turned s)) (record s { enter = enter_begun s.enter c.number; step = Enters }) (next_copied shape p s (turned s) c granted some tt) (enters shape p s c)
part_busy shape p s c (Says phase.WaitPending version) granted some = next_copied shape p s (record s { seek = seek_begun s.seek c.number s.last.points; has_points = false; step = Seeks }) c granted some (seeks shape p s c)
part_busy shape p s c (Says phase.WaitFlush version) granted some = either_busy s.has_points shape p (record s { wait = wait_begun c.end c.epoch; step = Waits }) (turned s) (waits shape p s c) tt
part_busy shape p s c said granted some = tt

-- a sweep that goes on loads the head
sweeps_busy : (shape : Shape) (p : Places) (s : KeeperState) (granted : Bool) → IsBusyNow shape p (sweeps_next s granted)
unfolding keeping_ask sweeping_ask sweep_passed passed
sweeps_busy shape p s granted = by granted (is_sweeping s.sweep)
  where
    by : (granted goes : Bool)
        → IsBusyNow shape p (if granted && goes then record s { sweep = record s.sweep { next = s.sweep.at; left = most_records; wanted = []; step = if goes then sweeping.LoadsHead else sweeping.AtRest }; is_granted = true; step = Sweeps } else turned (record s { is_granted = granted }))
    by true true = refl
    by true false = tt
    by false goes = tt

phased : (shape : Shape) (p : Places) (s : KeeperState) (c : Option Commit) (said : PhaseSaid) (granted : Bool) → 0 < p.buckets → GoesOnThere s → IsBusyNow shape p (phase_ledto p s c said granted)
unfolding phase_ledto
phased shape p s None said granted some there = either_busy (is_flush_resting s.maintain) shape p (turned (record s { is_granted = granted })) (sweeps_next s granted) tt (sweeps_busy shape p s granted)
phased shape p s (Some c) said granted some there = by s.rests refl
  where
    by : (rests : Bool) → s.rests ≡ rests → IsBusyNow shape p (if rests then writes_taken_up s granted else unless_flush_rests s granted (part_begun p s c said granted))
    by true rests = either_busy granted shape p _ _ (there rests).3 tt
    by false awake = either_busy (is_flush_resting s.maintain) shape p (turned (record s { is_granted = granted })) (part_begun p s c said granted) tt (part_busy shape p s c said granted some)

entered : (shape : Shape) (p : Places) (s : KeeperState) (ask : Ask EnterAnswer) → s.step ≡ Enters → enter_ask s.enter ≡ ask → IsBusyNow shape p (enter_ledto s ask)
unfolding enter_ledto keeping_ask passed
entered shape p s (Done enter.Entered) at same = tt
entered shape p s (Done enter.DrainFull) at same = tt
entered shape p s (Done enter.EpochsSpent) at same = tt
entered shape p s (Done enter.Idle) at same = tt
entered shape p s ask at same = still shape p s Enters at (ap (λ (its : Ask EnterAnswer). is_busy (passed its (turn_over s))) same)

-- one that asks for more in this turn doesn't rest
told_asks : (copy : Option Copier) (ask : Ask (Unit {0})) → copy_told copy ≡ ask → is_done ask ≡ false → copy_asked copy ≡ ask
told_asks copy ask same asks = by_rest (is_copy_resting copy) same
  where
    by_rest : (rests : Bool) → (if rests then Done tt else copy_asked copy) ≡ ask → copy_asked copy ≡ ask
    by_rest true over = let wrong : true ≡ false = ap is_done over ∙ asks in cc
    by_rest false goes = goes

copied_busy : (shape : Shape) (p : Places) (s : KeeperState) (ask : Ask (Unit {0})) → s.step ≡ Copies → copy_told s.copy ≡ ask → IsBusyNow shape p (copy_ledto s ask)
unfolding copy_ledto keeping_ask passed
copied_busy shape p s (Done its) at same = tt
copied_busy shape p s ask at same = still shape p s Copies at (ap (λ (its : Ask (Unit {0})). is_busy (passed its (turn_over s))) (told_asks s.copy ask same refl))

sought : (shape : Shape) (p : Places) (s : KeeperState) (ask : Ask SeekAnswer) → s.step ≡ Seeks → seek_ask s.seek ≡ ask → IsBusyNow shape p (seek_ledto s ask)
unfolding seek_ledto keeping_ask passed
sought shape p s (Done (seek.Taken end epoch)) at same = tt
sought shape p s (Done seek.DrainFull) at same = tt
sought shape p s (Done seek.EpochsSpent) at same = tt
sought shape p s (Done seek.Owing) at same = tt
sought shape p s (Done seek.Idle) at same = tt
sought shape p s ask at same = still shape p s Seeks at (ap (λ (its : Ask SeekAnswer). is_busy (passed its (turn_over s))) same)

waited : (shape : Shape) (p : Places) (s : KeeperState) (ask : Ask WaitAnswer) → s.step ≡ Waits → wait_ask s.wait ≡ ask → IsBusyNow shape p (wait_ledto shape s ask)
unfolding wait_ledto keeping_ask passed
waited shape p s (Done wait.Flushed) at same = writes_busy shape p s s.commit
waited shape p s (Done wait.NotYet) at same = tt
waited shape p s (Done wait.Idle) at same = tt
waited shape p s ask at same = still shape p s Waits at (ap (λ (its : Ask WaitAnswer). is_busy (passed its (turn_over s))) same)

done_busy : (shape : Shape) (p : Places) (s : KeeperState) (c : Option Commit) → IsBusyNow shape p (finished s c)
done_busy shape p s None = tt
done_busy shape p s (Some c) = tt

finished_busy : (shape : Shape) (p : Places) (s : KeeperState) (ask : Ask FinishAnswer) → s.step ≡ Finishes → finish_ask s.seek.points s.finish ≡ ask → IsBusyNow shape p (finish_ledto s ask)
unfolding finish_ledto keeping_ask passed
finished_busy shape p s (Done its) at same = done_busy shape p s s.commit
finished_busy shape p s ask at same = still shape p s Finishes at (ap (λ (its : Ask FinishAnswer). is_busy (passed its (turn_over s))) same)

swept_busy : (shape : Shape) (p : Places) (s : KeeperState) (ask : Ask SweepAnswer) → s.step ≡ Sweeps → sweep_ask s.sweep ≡ ask → IsBusyNow shape p (sweep_ledto s ask)
unfolding sweep_ledto keeping_ask sweep_passed passed
swept_busy shape p s (Done sweep.Through) at same = tt
swept_busy shape p s ask at same = still shape p s Sweeps at (ap (λ (its : Ask SweepAnswer). is_busy (sweep_passed its (turn_over s))) same)

next_busy : (shape : Shape) (p : Places) (s : KeeperState) (step : Keeping) (reply : ℕ) (granted : Bool) → 0 < p.buckets → s.step ≡ step → GoesOnThere s → IsBusyNow shape p s → IsBusyNow shape p (keeping_next shape p s step reply granted)
unfolding keeping_next
next_busy shape p s (Ended its) reply granted some at there held = held
next_busy shape p s Starts reply granted some at there held = started shape p (record s { start = start_next s.start reply }) (start_ask (start_next s.start reply)) at refl
next_busy shape p s Maintains reply granted some at there held = maintained shape p (record s { maintain = maintain_next shape p s.maintain reply }) (maintain_ask shape p (maintain_next shape p s.maintain reply)) at refl
next_busy shape p s LoadsPhase reply granted some at there held = phased shape p s s.commit (phase_said reply) granted some there
next_busy shape p s Enters reply granted some at there held = entered shape p (record s { enter = enter_next s.enter reply }) (enter_ask (enter_next s.enter reply)) at refl
next_busy shape p s Copies reply granted some at there held = copied_busy shape p (record s { copy = copy_driven s.copy reply }) (copy_told (copy_driven s.copy reply)) at refl
next_busy shape p s Seeks reply granted some at there held = sought shape p (record s { seek = seek_next s.seek reply }) (seek_ask (seek_next s.seek reply)) at refl
next_busy shape p s Waits reply granted some at there held = waited shape p (record s { wait = wait_next s.wait reply }) (wait_ask (wait_next s.wait reply)) at refl
next_busy shape p s Writes reply granted some at there held = held
next_busy shape p s Finishes reply granted some at there held = finished_busy shape p (record s { finish = finish_next s.finish reply }) (finish_ask s.seek.points (finish_next s.finish reply)) at refl
next_busy shape p s Sweeps reply granted some at there held = swept_busy shape p (record s { sweep = sweep_next s.sweep reply }) (sweep_ask (sweep_next s.sweep reply)) at refl

given_busy : (shape : Shape) (p : Places) (s : KeeperState) (step : Keeping) (action : Action) → s.step ≡ step → IsBusyNow shape p s → IsBusyNow shape p (keeping_given shape p s step action)
unfolding keeping_given
given_busy shape p s Maintains action at held = maintained shape p (record s { maintain = maintain_given s.maintain action }) (maintain_ask shape p (maintain_given s.maintain action)) at refl
given_busy shape p s step action at held = held

-- a call of the device that succeeds has the writes go on, or they are at their end
abbrev Led : Gating → Committing → WriteAnswer → Type 0
Led its step write.Written = Unit {0}
Led its step write.Device = GoesOn its step
Led its step (write.Broken why) = ⊥

gate_led : (its : Gating) → gate_answer its ≡ write.Device → Led (gate_next its true) writing.PutsSlot (gate_answer (gate_next its true))
unfolding gate_answer gate_next
gate_led gate.Closes on = refl
gate_led gate.SyncsClosed on = refl
gate_led gate.WritesBody on = refl
gate_led gate.SyncsBody on = refl
gate_led gate.Opens on = refl
gate_led gate.SyncsOpen on = tt
gate_led gate.Written on = cc
gate_led (gate.Broken why) on = cc

write_led : (its : GateWriter) (step : Committing) → GoesOn its.step step → Led (gate_after its step true).step (commit_step_next step true) (commit_step_answer (gate_after its step true) (commit_step_next step true))
unfolding commit_step_answer commit_step_next gate_after
write_led its writing.WritesTriples on = on
write_led its writing.SyncsTriples on = subst (λ (answer : WriteAnswer). Led its.step writing.PutsSlot answer) (sym on) on
write_led its writing.PutsSlot on = gate_led its.step on
write_led its (writing.Broken why) on = absurd on

written : (shape : Shape) (p : Places) (s : KeeperState) (c : Option Commit) (answer : WriteAnswer) → s.step ≡ Writes → Led s.writes.gate.step s.writes.step answer → IsBusyNow shape p (write_ledto s c answer)
unfolding write_ledto
written shape p s None answer at led = tt
written shape p s (Some c) write.Written at led = finishes shape p s c
written shape p s (Some c) write.Device at led = either_busy (must_rest s) shape p _ _ tt (still shape p s Writes at led)
written shape p s (Some c) (write.Broken why) at led = absurd led

called_busy : (shape : Shape) (p : Places) (s : KeeperState) (step : Keeping) (done : Bool) (bytes : List ℕ) → s.step ≡ step → BusyAt shape p s step → IsBusyNow shape p s → IsBusyNow shape p (keeping_called shape p s step done bytes)
unfolding keeping_called
called_busy shape p s Maintains done bytes at here held = maintained shape p (record s { maintain = maintain_called shape p s.maintain done bytes }) (maintain_ask shape p (maintain_called shape p s.maintain done bytes)) at refl
called_busy shape p s Writes true bytes at here held = written shape p (record s { writes = commit_next s.writes true }) s.commit (commit_answer (commit_next s.writes true)) at (write_led s.writes.gate s.writes.step here)
called_busy shape p s Writes false bytes at here held = tt
called_busy shape p s Sweeps true bytes at here held = swept_busy shape p (record s { sweep = sweep_read s.sweep bytes }) (sweep_ask (sweep_read s.sweep bytes)) at refl
called_busy shape p s Sweeps false bytes at here held = tt
called_busy shape p s step done bytes at here held = held

begins_busy : (shape : Shape) (p : Places) (s t : KeeperState) (hand : Bool) → IsBusyNow shape p s → IsBusyNow shape p t → IsBusyNow shape p (begins s hand t)
begins_busy shape p s t true held begun = held
begins_busy shape p s t false held begun = begun

event_busy : (shape : Shape) (p : Places) (s : KeeperState) (event : KeeperEvent) → 0 < p.buckets → GoesOnThere s → IsBusyNow shape p s → IsBusyNow shape p (keeper_happens shape p s event)
unfolding keeper_happens
event_busy shape p s BeginsTurn some there held = begins_busy shape p s (turn_asked s) (is_in_hand s.step) held (turn_busy shape p s)
event_busy shape p s (BeginsCommit kind) some there held = begins_busy shape p s (commit_asked s kind) (is_in_hand s.step) held (commit_busy shape p s kind)
event_busy shape p s (Replies reply granted) some there held = next_busy shape p s s.step reply granted some refl there held
event_busy shape p s (Gets action) some there held = given_busy shape p s s.step action refl held
event_busy shape p s (Calls done bytes) some there held = called_busy shape p s s.step done bytes refl held held

opening_busy : (shape : Shape) (p : Places) (s : KeeperState) (step : Keeping) → is_in_hand step ≡ false → BusyAt shape p s step
opening_busy shape p s (Ended its) idle = tt
opening_busy shape p s step idle = never idle

-- writes that rest go on still, and those that begin to rest go on
led_on : (its : Gating) (step : Committing) (answer : WriteAnswer) → answer ≡ write.Device → Led its step answer → GoesOn its step
led_on its step answer device led = subst (λ (x : WriteAnswer). Led its step x) device led

event_there : (shape : Shape) (p : Places) (s : KeeperState) (event : KeeperEvent) → GoesOnThere s → IsBusyNow shape p s → GoesOnThere (keeper_happens shape p s event)
event_there shape p s event there held is = by s.rests refl
  where
    a : KeeperState
    a = keeper_happens shape p s event

    by : (rests : Bool) → s.rests ≡ rests → (is_some a.commit ≡ true) × MayRest a.step × (a.step ≡ Maintains → IsServing a.maintain.step) × GoesOn a.writes.gate.step a.writes.step
    by true rests =
        let was = there rests in
        let still = rests_still shape p s event rests was.0 was.1 was.2 is in
        (ap is_some still.commit ∙ was.0, still.rests, still.serves, subst (λ (w : CommitWriter). GoesOn w.gate.step w.step) (sym still.writes) was.3)
    by false awake =
        let its = begins_rest shape p s event awake is in
        let here : BusyAt shape p s Writes = subst (λ (x : Keeping). BusyAt shape p s x) its.writes held in
        let next = commit_next s.writes true in
        let on : GoesOn next.gate.step next.step = led_on next.gate.step next.step (commit_answer next) its.answers (write_led s.writes.gate s.writes.step here) in
        subst (λ (x : KeeperState). (is_some x.commit ≡ true) × MayRest x.step × (x.step ≡ Maintains → IsServing x.maintain.step) × GoesOn x.writes.gate.step x.writes.step) (sym its.same) (ap is_some its.in_hand, tt, (λ at. cc), on)

-- a call that is in hand asks, and writes that rest go on
record Asks (shape : Shape) (p : Places) (s : KeeperState) : Type 0 where
  busy : IsBusyNow shape p s
  there : GoesOnThere s

run_asks : (shape : Shape) (p : Places) (opening : KeeperState) (events : List KeeperEvent) → 0 < p.buckets → is_in_hand opening.step ≡ false → opening.rests ≡ false → Asks shape p (keeper_run shape p opening events)
unfolding keeper_run
run_asks shape p opening [] some idle awake = record { busy = opening_busy shape p opening opening.step idle; there = λ rests. never (sym rests ∙ awake) }
run_asks shape p opening (event ∷ before) some idle awake =
    let s = keeper_run shape p opening before in
    let was = run_asks shape p opening before some idle awake in
    record { busy = event_busy shape p s event some was.there was.busy; there = event_there shape p s event was.there was.busy }

-- so where none are left no call is in hand
writes_asked : (its : GateWriter) (step : Committing) (full : Bool) → GoesOn its.step step → is_busy (write_asked (commit_step_answer its step) (Turned false full)) ≡ true
unfolding commit_step_answer
writes_asked its writing.WritesTriples full on = refl
writes_asked its writing.SyncsTriples full on = refl
writes_asked its writing.PutsSlot full on = ap (λ (answer : WriteAnswer). is_busy (write_asked answer (Turned false full))) on
writes_asked its (writing.Broken why) full on = absurd on

busy_so : (shape : Shape) (p : Places) (s : KeeperState) (step : Keeping) → BusyAt shape p s step → is_in_hand step ≡ true → is_busy (keeping_ask shape p s step) ≡ true
unfolding keeping_ask
busy_so shape p s (Ended its) held hand = nor hand
busy_so shape p s Writes held hand = writes_asked s.writes.gate s.writes.step s.is_drain_full held
busy_so shape p s step held hand = held

ended_by : (shape : Shape) (p : Places) (s : KeeperState) (hand : Bool) → is_in_hand s.step ≡ hand → IsBusyNow shape p s → keeper_asks_left shape p s ≡ 0 → hand ≡ false
ended_by shape p s false e held none = refl
ended_by shape p s true e held none =
    let some = (keeper_left shape p s).0 (busy_so shape p s s.step held e) in
    let no : ⊥ = omega (arith, some, none) in absurd no

pub run_ended : (shape : Shape) (p : Places) (opening : KeeperState) (events : List KeeperEvent) → 0 < p.buckets → is_in_hand opening.step ≡ false → opening.rests ≡ false → keeper_asks_left shape p (keeper_run shape p opening events) ≡ 0
    → is_in_hand (keeper_run shape p opening events).step ≡ false
run_ended shape p opening events some idle awake none =
    let s = keeper_run shape p opening events in ended_by shape p s (is_in_hand s.step) refl (run_asks shape p opening events some idle awake).busy none
