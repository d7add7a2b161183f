-- Each reply, action and call of the device leaves a call of the keeper fewer.
use Rattle.std.proofs.Common.{◌≡◌, ℕ, ◌+◌, ◌-◌, ◌<◌, ◌≤◌, ◌∙◌, refl, sym, ap, arith, List, Bool, true, false}
use Rattle.std.specs.Prelude.{◌&&◌, ◌||◌, if◌then◌else◌, Option, Some, None}
use Rattle.fkv_base.specs.declared.faults.Fault.TheVariants as fault
use Rattle.fkv_base.specs.declared.phases.Phase.TheVariants as phase
use Rattle.fkv_base.specs.declared.shapes.Shape.{Shape}
use Rattle.fkv_words.specs.declared.phase_words.PhaseSaid.{PhaseSaid}
use Rattle.fkv_words.specs.declared.phase_words.PhaseSaid.TheVariants.{Says}
use Rattle.fkv_words.specs.PhaseWords.{phase_said}
use Rattle.fkv_plane.specs.declared.actions.Action.{Action}
use Rattle.fkv_plane.specs.declared.asks.Ask.{Ask}
use Rattle.fkv_plane.specs.declared.asks.Ask.TheVariants.{Load, Store, Swap, Cas, Add, Max, Put, Take, Done}
use Rattle.fkv_plane.specs.declared.places.Places.{Places}
use Rattle.fkv_plane.specs.Passing.{is_done, passed}
use Rattle.fkv_plane.proofs.Shown.{passed_done}
use Rattle.fkv_epoch.specs.Claiming.{takes_action}
use Rattle.fkv_checkpoint.specs.Copying.{Copier, copy_begun}
use Rattle.fkv_checkpoint.proofs.Shown.{part_bounded, part_fewer, rests_bounded}
use Rattle.fkv_commit.specs.declared.commits.Commit.{Commit}
use Rattle.fkv_commit.specs.declared.entering.EnterAnswer.{EnterAnswer}
use Rattle.fkv_commit.specs.declared.entering.EnterAnswer.TheVariants as enter
use Rattle.fkv_commit.specs.declared.finishing.FinishAnswer.{FinishAnswer}
use Rattle.fkv_commit.specs.declared.seeking.SeekAnswer.{SeekAnswer}
use Rattle.fkv_commit.specs.declared.seeking.SeekAnswer.TheVariants as seek
use Rattle.fkv_commit.specs.declared.starting.StartAnswer.{StartAnswer}
use Rattle.fkv_commit.specs.declared.starting.StartAnswer.TheVariants as start
use Rattle.fkv_commit.specs.declared.waiting.WaitAnswer.{WaitAnswer}
use Rattle.fkv_commit.specs.declared.waiting.WaitAnswer.TheVariants as wait
use Rattle.fkv_commit.specs.AsksLeft.{start_asks_left, enter_asks_left, seek_asks_left, wait_asks_left, waiting_asks_left, finish_asks_left}
use Rattle.fkv_commit.specs.Entering.{enter_begun, enter_ask, enter_next}
use Rattle.fkv_commit.specs.Finishing.{finish_ask, finish_next}
use Rattle.fkv_commit.specs.Seeking.{seek_begun, seek_ask, seek_next}
use Rattle.fkv_commit.specs.Starting.{start_ask, start_next}
use Rattle.fkv_commit.specs.Waiting.{wait_begun, wait_ask, wait_next}
use Rattle.fkv_commit.proofs.Shown.{start_left, start_fewer, enter_left, enter_begun_left, enter_fewer, seek_left, seek_begun_left, seek_fewer, wait_left, wait_fewer, finish_left, finish_begun_left, finish_fewer}
use Rattle.fkv_manifest.specs.declared.answers.WriteAnswer.{WriteAnswer}
use Rattle.fkv_manifest.specs.declared.answers.WriteAnswer.TheVariants as write
use Rattle.fkv_manifest.specs.declared.commits.Committing.{Committing}
use Rattle.fkv_manifest.specs.declared.commits.Committing.TheVariants as writing
use Rattle.fkv_manifest.specs.declared.gates.Gating.{Gating}
use Rattle.fkv_manifest.specs.declared.gates.Gating.TheVariants as gate
use Rattle.fkv_manifest.specs.Committing.{commit_step_next, commit_step_answer, commit_answer, commit_next, gate_after}
use Rattle.fkv_manifest.specs.Gating.{GateWriter, gate_answer, gate_next, gate_calls_left}
use Rattle.fkv_keeper.specs.declared.answers.KeeperTold.{KeeperTold}
use Rattle.fkv_keeper.specs.declared.answers.KeeperTold.TheVariants.{Device, Turned, TurnRefused, CommitRefused}
use Rattle.fkv_keeper.specs.declared.keepers.Keeping.{Keeping}
use Rattle.fkv_keeper.specs.declared.keepers.Keeping.TheVariants.{Ended, Starts, Maintains, LoadsPhase, Enters, Copies, Seeks, Waits, Writes, Finishes, Sweeps}
use Rattle.fkv_maintain.specs.declared.maintaining.MaintainAnswer.{MaintainAnswer}
use Rattle.fkv_maintain.specs.declared.maintaining.MaintainAnswer.TheVariants as maintain
use Rattle.fkv_maintain.specs.AsksLeft.{maintain_asks_left}
use Rattle.fkv_keeper.specs.KeeperAsks.{committing_calls_left, writes_left, copy_left, most_copy_asks, most_write_asks, most_part_asks, keeping_asks_left, keeper_asks_left, keeping_made, keeper_calls_asked, most_behind_phase}
use Rattle.fkv_keeper.specs.Keeping.{KeeperState, device_passed, write_asked, turn_over, is_copy_resting, copy_asked, copy_told, copy_driven, keeping_ask, keeper_ask, ended, start_ledto, maintain_ledto, copies, part_begun, phase_ledto, enter_ledto, copy_ledto, seek_ledto, writes_begun, wait_ledto, finished, finish_ledto, keeping_next, keeper_next, keeping_given, keeper_given, must_rest, turned, write_ledto, keeping_called, keeper_called, writes_of, checkpoint_used, sweeps_next, sweep_ledto, sweep_passed, writes_taken_up, unless_flush_rests}
use Rattle.fkv_maintain.specs.declared.maintaining.Maintaining.TheVariants.{Broken}
use Rattle.fkv_maintain.specs.Maintaining.{is_flush_resting, MaintainState, maintaining_ask, maintain_ask, maintain_next, maintain_given, maintain_called}
use Rattle.fkv_keeper.proofs.KeeperDevice.{keeper_asked_calls}
use Rattle.fkv_keeper.proofs.KeeperLeft.{never, nor, copy_where, write_busy}
use Rattle.fkv_keeper.proofs.KeeperTakes.{starting_takes, entering_takes, copy_takes, seeking_takes, waiting_takes, finishing_takes, sweeping_takes}
use Rattle.fkv_maintain.proofs.Shown.{passed_takes}
use Rattle.fkv_plane.proofs.Shown.{some_sum, sum_most, sum_whole}
use Rattle.fkv_maintain.proofs.Shown.{maintain_fewer, maintain_given_fewer, maintain_called_fewer}
use Rattle.fkv_sweep.specs.Sweeping.{is_sweeping, sweep_ask, sweep_next, sweep_read, turn_begun}
use Rattle.fkv_sweep.specs.AsksLeft.{steps_asked, is_through, most_sweep_asks, sweep_asks_left}
use Rattle.fkv_sweep.proofs.Shown.{sweep_asked, sweep_fewer, sweep_read_fewer, sweep_turn_bounded}
use Rattle.fkv_plane.specs.AsksLeft.{sum_left}
use Rattle.fkv_sweep.specs.declared.sweeping.SweepAnswer.{SweepAnswer}
use Rattle.fkv_sweep.specs.declared.sweeping.SweepAnswer.TheVariants as sweep

write_done : (answer : WriteAnswer) (told : KeeperTold) → is_done (write_asked answer told) ≡ true
write_done write.Device told = refl
write_done write.Written told = refl
write_done (write.Broken why) told = refl

write_takes : (answer : WriteAnswer) (told : KeeperTold) → takes_action (write_asked answer told) ≡ false
write_takes write.Device told = refl
write_takes write.Written told = refl
write_takes (write.Broken why) told = refl

device_done : (ask : Ask MaintainAnswer) (told : KeeperTold) → is_done (device_passed ask told) ≡ is_done ask
unfolding device_passed passed
device_done (Done maintain.Device) told = refl
device_done (Done maintain.Through) told = refl
device_done (Done maintain.Spent) told = refl
device_done (Done maintain.Broken) told = refl
device_done (Load place) told = refl
device_done (Store place new) told = refl
device_done (Swap place new) told = refl
device_done (Cas place old new) told = refl
device_done (Add place k) told = refl
device_done (Max place k) told = refl
device_done (Put slot action) told = refl
device_done (Take slot) told = refl

device_takes : (ask : Ask MaintainAnswer) (told : KeeperTold) → takes_action (device_passed ask told) ≡ takes_action ask
unfolding device_passed passed
device_takes (Done maintain.Device) told = refl
device_takes (Done maintain.Through) told = refl
device_takes (Done maintain.Spent) told = refl
device_takes (Done maintain.Broken) told = refl
device_takes (Load place) told = refl
device_takes (Store place new) told = refl
device_takes (Swap place new) told = refl
device_takes (Cas place old new) told = refl
device_takes (Add place k) told = refl
device_takes (Max place k) told = refl
device_takes (Put slot action) told = refl
device_takes (Take slot) told = refl

sweep_goes : (ask : Ask SweepAnswer) (told : KeeperTold) → is_done (sweep_passed ask told) ≡ false → (is_through ask ≡ false) × (steps_asked ask ≡ 0)
unfolding sweep_passed passed
sweep_goes (Done sweep.Device) told asks = never asks
sweep_goes (Done sweep.Through) told asks = never asks
sweep_goes (Load place) told asks = (refl, refl)
sweep_goes (Store place new) told asks = (refl, refl)
sweep_goes (Swap place new) told asks = (refl, refl)
sweep_goes (Cas place old new) told asks = (refl, refl)
sweep_goes (Add place k) told asks = (refl, refl)
sweep_goes (Max place k) told asks = (refl, refl)
sweep_goes (Put slot action) told asks = (refl, refl)
sweep_goes (Take slot) told asks = (refl, refl)

sweep_takes : (ask : Ask SweepAnswer) (told : KeeperTold) → takes_action (sweep_passed ask told) ≡ takes_action ask
unfolding sweep_passed passed
sweep_takes (Done sweep.Device) told = refl
sweep_takes (Done sweep.Through) told = refl
sweep_takes (Load place) told = refl
sweep_takes (Store place new) told = refl
sweep_takes (Swap place new) told = refl
sweep_takes (Cas place old new) told = refl
sweep_takes (Add place k) told = refl
sweep_takes (Max place k) told = refl
sweep_takes (Put slot action) told = refl
sweep_takes (Take slot) told = refl

never_done : {A X : Type 0} (ask : Ask A) → is_done ask ≡ true → is_done ask ≡ false → X
never_done ask done asks = never (sym done ∙ asks)

-- whichever of two it is
either : (shape : Shape) (p : Places) (b : Bool) (x y : KeeperState) (n : ℕ) → keeper_asks_left shape p x < n → keeper_asks_left shape p y < n → keeper_asks_left shape p (if b then x else y) < n
either shape p true x y n first second = first
either shape p false x y n first second = second

-- a call at its end has none left
over : (shape : Shape) (p : Places) (s : KeeperState) (told : KeeperTold) (n : ℕ) → 0 < n → keeper_asks_left shape p (ended s told) < n
unfolding keeping_asks_left
over shape p s told n some = some

some_below : (x n : ℕ) → x < n → 0 < n
some_below x n low = omega (arith, low)

-- by what the machines inside ask next

inside_start : (shape : Shape) (p : Places) (s : KeeperState) (old : ℕ) → s.step ≡ Starts → start_asks_left s.start < old → keeper_asks_left shape p s < old
unfolding keeping_asks_left
inside_start shape p s old at fewer = rw at fewer

start_led : (shape : Shape) (p : Places) (s : KeeperState) (old : ℕ) (ask : Ask StartAnswer) → s.step ≡ Starts → start_asks_left s.start < old → keeper_asks_left shape p (start_ledto s ask) < old
unfolding start_ledto keeping_asks_left
start_led shape p s old (Done (start.Begun number first)) at fewer = some_below (start_asks_left s.start) old fewer
start_led shape p s old (Done (start.Refused why)) at fewer = some_below (start_asks_left s.start) old fewer
start_led shape p s old (Done start.Idle) at fewer = some_below (start_asks_left s.start) old fewer
start_led shape p s old ask at fewer = inside_start shape p s old at fewer

below_old : (x a old behind : ℕ) → x ≤ a + behind → a < old → x < old + behind
below_old x a old behind sum fewer = omega (arith, sum, fewer)

above_behind : (a old behind : ℕ) → a < old → behind < old + behind
above_behind a old behind fewer = omega (arith, fewer)

some_more : (old behind : ℕ) → 0 < old + (behind + 1)
some_more old behind = omega arith

inside_maintain : (shape : Shape) (p : Places) (s : KeeperState) (old : ℕ) → s.step ≡ Maintains → maintain_asks_left shape s.maintain < old
    → keeper_asks_left shape p s < old + (most_behind_phase s.sweep.places s.seek.sessions s.finish.sessions + 1)
unfolding keeping_asks_left
inside_maintain shape p s old at fewer =
    let behind = most_behind_phase s.sweep.places s.seek.sessions s.finish.sessions + 1 in
    rw at (below_old (sum_left (maintain_asks_left shape s.maintain) behind) (maintain_asks_left shape s.maintain) old behind (sum_most (maintain_asks_left shape s.maintain) behind) fewer)

maintain_led : (shape : Shape) (p : Places) (s : KeeperState) (old : ℕ) (ask : Ask MaintainAnswer) → s.step ≡ Maintains → maintain_asks_left shape s.maintain < old
    → keeper_asks_left shape p (maintain_ledto s ask) < old + (most_behind_phase s.sweep.places s.seek.sessions s.finish.sessions + 1)
unfolding maintain_ledto keeping_asks_left
maintain_led shape p s old (Done maintain.Through) at fewer = above_behind (maintain_asks_left shape s.maintain) old (most_behind_phase s.sweep.places s.seek.sessions s.finish.sessions + 1) fewer
maintain_led shape p s old (Done maintain.Spent) at fewer = some_more old (most_behind_phase s.sweep.places s.seek.sessions s.finish.sessions)
maintain_led shape p s old (Done maintain.Broken) at fewer = some_more old (most_behind_phase s.sweep.places s.seek.sessions s.finish.sessions)
maintain_led shape p s old (Done maintain.Device) at fewer = inside_maintain shape p s old at fewer
maintain_led shape p s old ask at fewer = inside_maintain shape p s old at fewer

resting_left : (copy : Option Copier) → is_copy_resting copy ≡ true → copy_left copy ≤ most_copy_asks
resting_left None rests = cc
resting_left (Some m) rests = let few = rests_bounded m.places m.copying rests in omega (arith, few)

copies_led : (shape : Shape) (p : Places) (s : KeeperState) (granted : Bool) → keeper_asks_left shape p (copies p s granted) < most_part_asks s.seek.sessions s.finish.sessions + 1
unfolding keeping_asks_left
copies_led shape p s granted = by_rest (is_copy_resting s.copy) refl granted
  where
    by_rest : (rests : Bool) → is_copy_resting s.copy ≡ rests → (granted : Bool)
        → keeper_asks_left shape p (if granted || rests then record s { copy = if rests then s.copy else Some (copy_begun p); is_granted = true; step = Copies } else ended (record s { is_granted = false }) (TurnRefused fault.Memory))
        < most_part_asks s.seek.sessions s.finish.sessions + 1
    by_rest true rests true = let most = resting_left s.copy rests in omega (arith, most)
    by_rest true rests false = let most = resting_left s.copy rests in omega (arith, most)
    by_rest false none true = let most = part_bounded p in omega (arith, most)
    by_rest false none false = omega arith

enters_led : (shape : Shape) (p : Places) (s : KeeperState) (c : Commit) → keeper_asks_left shape p (record s { enter = enter_begun s.enter c.number; step = Enters }) < most_part_asks s.seek.sessions s.finish.sessions + 1
unfolding keeping_asks_left
enters_led shape p s c = let most = enter_begun_left s.enter c.number in omega (arith, most)

seeks_led : (shape : Shape) (p : Places) (s : KeeperState) (c : Commit) → keeper_asks_left shape p (record s { seek = seek_begun s.seek c.number s.last.points; has_points = false; step = Seeks }) < most_part_asks s.seek.sessions s.finish.sessions + 1
unfolding keeping_asks_left
seeks_led shape p s c = let most = seek_begun_left s.seek c.number s.last.points in omega (arith, most)

waits_led : (shape : Shape) (p : Places) (s : KeeperState) (c : Commit) → keeper_asks_left shape p (record s { wait = wait_begun c.end c.epoch; step = Waits }) < most_part_asks s.seek.sessions s.finish.sessions + 1
unfolding keeping_asks_left waiting_asks_left
waits_led shape p s c = let most = sum_most 2 (most_write_asks s.finish.sessions) in omega (arith, most)

part_led : (shape : Shape) (p : Places) (s : KeeperState) (c : Commit) (said : PhaseSaid) (granted : Bool)
    → keeper_asks_left shape p (part_begun p s c said granted) < most_part_asks s.seek.sessions s.finish.sessions + 1
part_led shape p s c (Says phase.InProgress version) granted =
    either shape p s.has_entered _ _ _
    (either shape p c.is_copied _ _ _ (over shape p s (turn_over s) _ (omega arith)) (copies_led shape p s granted))
    (enters_led shape p s c)
part_led shape p s c (Says phase.WaitPending version) granted = either shape p c.is_copied _ _ _ (seeks_led shape p s c) (copies_led shape p s granted)
part_led shape p s c (Says phase.WaitFlush version) granted = either shape p s.has_points _ _ _ (waits_led shape p s c) (over shape p s (turn_over s) _ (omega arith))
part_led shape p s c said granted = over shape p s (turn_over s) _ (omega arith)

-- writes have eight calls at most
gate_bounded : (step : Gating) → gate_calls_left step ≤ 6
gate_bounded gate.Closes = omega arith
gate_bounded gate.SyncsClosed = omega arith
gate_bounded gate.WritesBody = omega arith
gate_bounded gate.SyncsBody = omega arith
gate_bounded gate.Opens = omega arith
gate_bounded gate.SyncsOpen = omega arith
gate_bounded gate.Written = omega arith
gate_bounded (gate.Broken why) = omega arith

committing_bounded : (its : GateWriter) (step : Committing) → committing_calls_left its step ≤ 8
committing_bounded its writing.WritesTriples = let most = gate_bounded its.step in omega (arith, most)
committing_bounded its writing.SyncsTriples = let most = gate_bounded its.step in omega (arith, most)
committing_bounded its writing.PutsSlot = let most = gate_bounded its.step in omega (arith, most)
committing_bounded its (writing.Broken why) = omega arith

takes_up_led : (shape : Shape) (p : Places) (s : KeeperState) → keeper_asks_left shape p (record s { rests = false; is_granted = true; step = Writes }) < most_part_asks s.seek.sessions s.finish.sessions + 1
unfolding keeping_asks_left
takes_up_led shape p s =
    let few = committing_bounded s.writes.gate s.writes.step in
    let most = sum_most (writes_left s.writes) (s.finish.sessions + 1) in
    omega (arith, few, most)

commit_led : (shape : Shape) (p : Places) (s : KeeperState) (c : Commit) (said : PhaseSaid) (granted : Bool)
    → keeper_asks_left shape p (if s.rests then writes_taken_up s granted else unless_flush_rests s granted (part_begun p s c said granted)) < most_part_asks s.seek.sessions s.finish.sessions + 1
commit_led shape p s c said granted = either shape p s.rests _ _ _ (either shape p granted _ _ _ (takes_up_led shape p s) (over shape p (record s { is_granted = false }) (turn_over s) _ (omega arith)))
    (either shape p (is_flush_resting s.maintain) _ _ _ (over shape p (record s { is_granted = granted }) (turn_over s) _ (omega arith)) (part_led shape p s c said granted))

-- or by what a sweep has
within_part : (x parts swept : ℕ) → x < parts + 1 → x < parts + swept + 1
within_part x parts swept low = omega (arith, low)

within_sweep : (x parts swept : ℕ) → x ≤ swept → x < parts + swept + 1
within_sweep x parts swept low = omega (arith, low)

some_behind : (parts swept : ℕ) → 0 < parts + swept + 1
some_behind parts swept = omega arith

goes_led : (shape : Shape) (p : Places) (s : KeeperState) → keeper_asks_left shape p (record s { sweep = turn_begun s.sweep; is_granted = true; step = Sweeps }) < most_behind_phase s.sweep.places s.seek.sessions s.finish.sessions + 1
unfolding keeping_asks_left
goes_led shape p s = within_sweep (sweep_asks_left (turn_begun s.sweep)) (most_part_asks s.seek.sessions s.finish.sessions) (most_sweep_asks s.sweep.places) (sweep_turn_bounded s.sweep)

sweeps_led : (shape : Shape) (p : Places) (s : KeeperState) (granted : Bool) → keeper_asks_left shape p (sweeps_next s granted) < most_behind_phase s.sweep.places s.seek.sessions s.finish.sessions + 1
sweeps_led shape p s granted = either shape p (granted && is_sweeping s.sweep) _ _ _ (goes_led shape p s)
    (over shape p (record s { is_granted = granted }) (turn_over s) _ (some_behind (most_part_asks s.seek.sessions s.finish.sessions) (most_sweep_asks s.sweep.places)))

phase_led : (shape : Shape) (p : Places) (s : KeeperState) (commit : Option Commit) (said : PhaseSaid) (granted : Bool)
    → keeper_asks_left shape p (phase_ledto p s commit said granted) < most_behind_phase s.sweep.places s.seek.sessions s.finish.sessions + 1
unfolding phase_ledto
phase_led shape p s None said granted = either shape p (is_flush_resting s.maintain) _ _ _
    (over shape p (record s { is_granted = granted }) (turn_over s) _ (some_behind (most_part_asks s.seek.sessions s.finish.sessions) (most_sweep_asks s.sweep.places))) (sweeps_led shape p s granted)
phase_led shape p s (Some c) said granted = within_part _ (most_part_asks s.seek.sessions s.finish.sessions) (most_sweep_asks s.sweep.places) (commit_led shape p s c said granted)

inside_enter : (shape : Shape) (p : Places) (s : KeeperState) (old : ℕ) → s.step ≡ Enters → enter_asks_left s.enter < old → keeper_asks_left shape p s < old
unfolding keeping_asks_left
inside_enter shape p s old at fewer = rw at fewer

enter_led : (shape : Shape) (p : Places) (s : KeeperState) (old : ℕ) (ask : Ask EnterAnswer) → s.step ≡ Enters → enter_asks_left s.enter < old → keeper_asks_left shape p (enter_ledto s ask) < old
unfolding enter_ledto keeping_asks_left
enter_led shape p s old (Done enter.Entered) at fewer = some_below (enter_asks_left s.enter) old fewer
enter_led shape p s old (Done enter.DrainFull) at fewer = some_below (enter_asks_left s.enter) old fewer
enter_led shape p s old (Done enter.EpochsSpent) at fewer = some_below (enter_asks_left s.enter) old fewer
enter_led shape p s old (Done enter.Idle) at fewer = some_below (enter_asks_left s.enter) old fewer
enter_led shape p s old ask at fewer = inside_enter shape p s old at fewer

-- a copy that asks for more in this turn doesn't rest
told_goes_on : (copy : Option Copier) (ask : Ask (Unit {0})) → copy_told copy ≡ ask → is_done ask ≡ false → is_copy_resting copy ≡ false
told_goes_on copy ask same asks = by_rest (is_copy_resting copy) same
  where
    by_rest : (rests : Bool) → (if rests then Done tt else copy_asked copy) ≡ ask → rests ≡ false
    by_rest true over = let wrong : true ≡ false = ap is_done over ∙ asks in cc
    by_rest false goes = refl

inside_copy : (shape : Shape) (p : Places) (s : KeeperState) (old : ℕ) → s.step ≡ Copies → copy_left s.copy < old → keeper_asks_left shape p s < old
unfolding keeping_asks_left
inside_copy shape p s old at fewer = rw at fewer

copy_led : (shape : Shape) (p : Places) (s : KeeperState) (old : ℕ) (ask : Ask (Unit {0})) → s.step ≡ Copies → copy_told s.copy ≡ ask → 0 < old → (is_copy_resting s.copy ≡ false → copy_left s.copy < old) → keeper_asks_left shape p (copy_ledto s ask) < old
unfolding copy_ledto keeping_asks_left
copy_led shape p s old (Done its) at told some fewer = some
copy_led shape p s old ask at told some fewer = inside_copy shape p s old at (fewer (told_goes_on s.copy ask told refl))

copy_falls : (copy : Option Copier) (reply : ℕ) → 0 < copy_left copy → is_copy_resting (copy_driven copy reply) ≡ false → copy_left (copy_driven copy reply) < copy_left copy
copy_falls None reply some goes = some
copy_falls (Some m) reply some goes = let fewer = part_fewer m.places m.copying reply goes in omega (arith, fewer, some)

inside_seek : (shape : Shape) (p : Places) (s : KeeperState) (old : ℕ) → s.step ≡ Seeks → seek_asks_left s.seek < old → keeper_asks_left shape p s < old
unfolding keeping_asks_left
inside_seek shape p s old at fewer = rw at fewer

seek_led : (shape : Shape) (p : Places) (s : KeeperState) (old : ℕ) (ask : Ask SeekAnswer) → s.step ≡ Seeks → seek_asks_left s.seek < old → keeper_asks_left shape p (seek_ledto s ask) < old
unfolding seek_ledto keeping_asks_left
seek_led shape p s old (Done (seek.Taken end epoch)) at fewer = some_below (seek_asks_left s.seek) old fewer
seek_led shape p s old (Done seek.DrainFull) at fewer = some_below (seek_asks_left s.seek) old fewer
seek_led shape p s old (Done seek.EpochsSpent) at fewer = some_below (seek_asks_left s.seek) old fewer
seek_led shape p s old (Done seek.Owing) at fewer = some_below (seek_asks_left s.seek) old fewer
seek_led shape p s old (Done seek.Idle) at fewer = some_below (seek_asks_left s.seek) old fewer
seek_led shape p s old ask at fewer = inside_seek shape p s old at fewer

-- the writes of a commit are eight calls at most
gate_most : (step : Gating) → gate_calls_left step ≤ 6
gate_most gate.Closes = omega arith
gate_most gate.SyncsClosed = omega arith
gate_most gate.WritesBody = omega arith
gate_most gate.SyncsBody = omega arith
gate_most gate.Opens = omega arith
gate_most gate.SyncsOpen = omega arith
gate_most gate.Written = omega arith
gate_most (gate.Broken why) = omega arith

writing_most : (its : GateWriter) (step : Committing) → committing_calls_left its step ≤ 8
writing_most its writing.WritesTriples = let most = gate_most its.step in omega (arith, most)
writing_most its writing.SyncsTriples = let most = gate_most its.step in omega (arith, most)
writing_most its writing.PutsSlot = let most = gate_most its.step in omega (arith, most)
writing_most its (writing.Broken why) = omega arith

writes_left_begun : (shape : Shape) (p : Places) (s : KeeperState) (commit : Option Commit) (old : ℕ) → 0 < old
    → keeper_asks_left shape p (writes_begun shape s commit) < old + most_write_asks s.finish.sessions
unfolding keeping_asks_left
writes_left_begun shape p s None old some = omega arith
writes_left_begun shape p s (Some c) old some =
    let writes = writes_of shape s c (checkpoint_used c c.kind s.last s.copy) in
    let most = writing_most writes.gate writes.step in
    let sum = sum_most (writes_left writes) (s.finish.sessions + 1) in
    omega (arith, most, sum, some)

inside_wait : (shape : Shape) (p : Places) (s : KeeperState) (old : ℕ) → s.step ≡ Waits → wait_asks_left s.wait < old → keeper_asks_left shape p s < old + most_write_asks s.finish.sessions
unfolding keeping_asks_left
inside_wait shape p s old at fewer = let most = sum_most (wait_asks_left s.wait) (most_write_asks s.finish.sessions) in rw at (omega (arith, most, fewer))

wait_led : (shape : Shape) (p : Places) (s : KeeperState) (old : ℕ) (ask : Ask WaitAnswer) → s.step ≡ Waits → wait_asks_left s.wait < old
    → keeper_asks_left shape p (wait_ledto shape s ask) < old + most_write_asks s.finish.sessions
unfolding wait_ledto keeping_asks_left
wait_led shape p s old (Done wait.Flushed) at fewer = writes_left_begun shape p s s.commit old (some_below (wait_asks_left s.wait) old fewer)
wait_led shape p s old (Done wait.NotYet) at fewer = omega arith
wait_led shape p s old (Done wait.Idle) at fewer = omega arith
wait_led shape p s old ask at fewer = inside_wait shape p s old at fewer

finished_over : (shape : Shape) (p : Places) (s : KeeperState) (commit : Option Commit) (n : ℕ) → 0 < n → keeper_asks_left shape p (finished s commit) < n
unfolding keeping_asks_left
finished_over shape p s None n some = some
finished_over shape p s (Some c) n some = some

inside_finish : (shape : Shape) (p : Places) (s : KeeperState) (old : ℕ) → s.step ≡ Finishes → finish_asks_left s.finish < old → keeper_asks_left shape p s < old
unfolding keeping_asks_left
inside_finish shape p s old at fewer = rw at fewer

finish_led : (shape : Shape) (p : Places) (s : KeeperState) (old : ℕ) (ask : Ask FinishAnswer) → s.step ≡ Finishes → finish_asks_left s.finish < old → keeper_asks_left shape p (finish_ledto s ask) < old
unfolding finish_ledto
finish_led shape p s old (Done its) at fewer = finished_over shape p s s.commit old (some_below (finish_asks_left s.finish) old fewer)
finish_led shape p s old ask at fewer = inside_finish shape p s old at fewer

inside_sweep : (shape : Shape) (p : Places) (s : KeeperState) (old : ℕ) → s.step ≡ Sweeps → sweep_asks_left s.sweep < old → keeper_asks_left shape p s < old
unfolding keeping_asks_left
inside_sweep shape p s old at fewer = rw at fewer

sweep_led : (shape : Shape) (p : Places) (s : KeeperState) (old : ℕ) (ask : Ask SweepAnswer) → s.step ≡ Sweeps → sweep_asks_left s.sweep < old → keeper_asks_left shape p (sweep_ledto s ask) < old
unfolding sweep_ledto keeping_asks_left
sweep_led shape p s old (Done sweep.Through) at fewer = some_below (sweep_asks_left s.sweep) old fewer
sweep_led shape p s old ask at fewer = inside_sweep shape p s old at fewer

-- each reply leaves fewer, where a word is asked for

below_whole : (x sum whole : ℕ) → whole ≡ sum → x < sum → x < whole
below_whole x sum whole same low = omega (arith, same, low)

keeping_fewer : (shape : Shape) (p : Places) (s : KeeperState) (step : Keeping) (reply : ℕ) (granted : Bool) → s.step ≡ step → is_done (keeping_ask shape p s step) ≡ false
    → takes_action (keeping_ask shape p s step) ≡ false → keeper_asks_left shape p (keeping_next shape p s step reply granted) < keeping_asks_left shape p s step
unfolding keeping_ask keeping_next keeping_asks_left
keeping_fewer shape p s (Ended its) reply granted at asks takes = never asks
keeping_fewer shape p s Starts reply granted at asks takes =
    let inside : is_done (start_ask s.start) ≡ false = sym (passed_done (start_ask s.start) (CommitRefused fault.CommitRunning)) ∙ asks in
    let fewer = start_fewer s.start reply ((start_left s.start).0 inside) in
    start_led shape p (record s { start = start_next s.start reply }) (start_asks_left s.start) (start_ask (start_next s.start reply)) at fewer
keeping_fewer shape p s Maintains reply granted at asks takes =
    let ask = maintain_ask shape p s.maintain in
    let next = maintain_next shape p s.maintain reply in
    let inside : is_done ask ≡ false = sym (device_done ask (turn_over s)) ∙ asks in
    let fewer = maintain_fewer shape p s.maintain reply inside (sym (device_takes ask (turn_over s)) ∙ takes) in
    let whole = sum_whole (maintain_asks_left shape s.maintain) (most_behind_phase s.sweep.places s.seek.sessions s.finish.sessions + 1) (some_below (maintain_asks_left shape next) (maintain_asks_left shape s.maintain) fewer) in
    let led = maintain_led shape p (record s { maintain = next }) (maintain_asks_left shape s.maintain) (maintain_ask shape p next) at fewer in
    below_whole _ _ _ whole led
keeping_fewer shape p s LoadsPhase reply granted at asks takes = phase_led shape p s s.commit (phase_said reply) granted
keeping_fewer shape p s Enters reply granted at asks takes =
    let inside : is_done (enter_ask s.enter) ≡ false = sym (passed_done (enter_ask s.enter) (turn_over s)) ∙ asks in
    let fewer = enter_fewer s.enter reply ((enter_left s.enter).0 inside) in
    enter_led shape p (record s { enter = enter_next s.enter reply }) (enter_asks_left s.enter) (enter_ask (enter_next s.enter reply)) at fewer
keeping_fewer shape p s Copies reply granted at asks takes =
    let inside : is_done (copy_asked s.copy) ≡ false = sym (passed_done (copy_asked s.copy) (turn_over s)) ∙ asks in
    let some = (copy_where s.copy).0 inside in
    copy_led shape p (record s { copy = copy_driven s.copy reply }) (copy_left s.copy) (copy_told (copy_driven s.copy reply)) at refl some (copy_falls s.copy reply some)
keeping_fewer shape p s Seeks reply granted at asks takes =
    let inside : is_done (seek_ask s.seek) ≡ false = sym (passed_done (seek_ask s.seek) (turn_over s)) ∙ asks in
    let fewer = seek_fewer s.seek reply ((seek_left s.seek).0 inside) in
    seek_led shape p (record s { seek = seek_next s.seek reply }) (seek_asks_left s.seek) (seek_ask (seek_next s.seek reply)) at fewer
keeping_fewer shape p s Waits reply granted at asks takes =
    let inside : is_done (wait_ask s.wait) ≡ false = sym (passed_done (wait_ask s.wait) (turn_over s)) ∙ asks in
    let some = (wait_left s.wait).0 inside in
    let fewer = wait_fewer s.wait reply some in
    let whole = sum_whole (wait_asks_left s.wait) (most_write_asks s.finish.sessions) some in
    let led = wait_led shape p (record s { wait = wait_next s.wait reply }) (wait_asks_left s.wait) (wait_ask (wait_next s.wait reply)) at fewer in
    omega (arith, whole, led)
keeping_fewer shape p s Writes reply granted at asks takes = never_done (write_asked (commit_answer s.writes) (turn_over s)) (write_done (commit_answer s.writes) (turn_over s)) asks
keeping_fewer shape p s Finishes reply granted at asks takes =
    let inside : is_done (finish_ask s.seek.points s.finish) ≡ false = sym (passed_done (finish_ask s.seek.points s.finish) (turn_over s)) ∙ asks in
    let fewer = finish_fewer s.finish reply ((finish_left s.seek.points s.finish).0 inside) in
    finish_led shape p (record s { finish = finish_next s.finish reply }) (finish_asks_left s.finish) (finish_ask s.seek.points (finish_next s.finish reply)) at fewer
keeping_fewer shape p s Sweeps reply granted at asks takes =
    let goes = sweep_goes (sweep_ask s.sweep) (turn_over s) asks in
    let some = (sweep_asked s.sweep (sweep_ask s.sweep) refl).0 goes.0 in
    sweep_led shape p (record s { sweep = sweep_next s.sweep reply }) (sweep_asks_left s.sweep) (sweep_ask (sweep_next s.sweep reply)) at (sweep_fewer s.sweep reply some goes.1)

pub keeper_fewer : (shape : Shape) (p : Places) (s : KeeperState) (reply : ℕ) (granted : Bool) → is_done (keeper_ask shape p s) ≡ false → takes_action (keeper_ask shape p s) ≡ false
    → keeper_asks_left shape p (keeper_next shape p s reply granted) < keeper_asks_left shape p s
keeper_fewer shape p s reply granted asks takes = keeping_fewer shape p s s.step reply granted refl asks takes

-- and each action that it waits for

keeping_given_fewer : (shape : Shape) (p : Places) (s : KeeperState) (step : Keeping) (action : Action) → s.step ≡ step → takes_action (keeping_ask shape p s step) ≡ true
    → keeper_asks_left shape p (keeping_given shape p s step action) < keeping_asks_left shape p s step
unfolding keeping_ask keeping_given keeping_asks_left
keeping_given_fewer shape p s (Ended its) action at takes = nor takes
keeping_given_fewer shape p s Starts action at takes = never (sym takes ∙ passed_takes (start_ask s.start) (CommitRefused fault.CommitRunning) ∙ starting_takes s.start)
keeping_given_fewer shape p s Maintains action at takes =
    let ask = maintain_ask shape p s.maintain in
    let next = maintain_given s.maintain action in
    let fewer = maintain_given_fewer shape p s.maintain action (sym (device_takes ask (turn_over s)) ∙ takes) in
    let whole = sum_whole (maintain_asks_left shape s.maintain) (most_behind_phase s.sweep.places s.seek.sessions s.finish.sessions + 1) (some_below (maintain_asks_left shape next) (maintain_asks_left shape s.maintain) fewer) in
    let led = maintain_led shape p (record s { maintain = next }) (maintain_asks_left shape s.maintain) (maintain_ask shape p next) at fewer in
    below_whole _ _ _ whole led
keeping_given_fewer shape p s LoadsPhase action at takes = nor takes
keeping_given_fewer shape p s Enters action at takes = never (sym takes ∙ passed_takes (enter_ask s.enter) (turn_over s) ∙ entering_takes s.enter)
keeping_given_fewer shape p s Copies action at takes = never (sym takes ∙ passed_takes (copy_asked s.copy) (turn_over s) ∙ copy_takes s.copy)
keeping_given_fewer shape p s Seeks action at takes = never (sym takes ∙ passed_takes (seek_ask s.seek) (turn_over s) ∙ seeking_takes s.seek)
keeping_given_fewer shape p s Waits action at takes = never (sym takes ∙ passed_takes (wait_ask s.wait) (turn_over s) ∙ waiting_takes s.wait)
keeping_given_fewer shape p s Writes action at takes = nor (sym (write_takes (commit_answer s.writes) (turn_over s)) ∙ takes)
keeping_given_fewer shape p s Finishes action at takes = never (sym takes ∙ passed_takes (finish_ask s.seek.points s.finish) (turn_over s) ∙ finishing_takes s.seek.points s.finish)
keeping_given_fewer shape p s Sweeps action at takes = never (sym takes ∙ sweep_takes (sweep_ask s.sweep) (turn_over s) ∙ sweeping_takes s.sweep)

pub keeper_given_fewer : (shape : Shape) (p : Places) (s : KeeperState) (action : Action) → takes_action (keeper_ask shape p s) ≡ true → keeper_asks_left shape p (keeper_given shape p s action) < keeper_asks_left shape p s
keeper_given_fewer shape p s action takes = keeping_given_fewer shape p s s.step action refl takes

-- and each call of the device

gate_called : (step : Gating) → gate_answer step ≡ write.Device → gate_calls_left (gate_next step true) < gate_calls_left step
unfolding gate_answer gate_next
gate_called gate.Closes calls = omega arith
gate_called gate.SyncsClosed calls = omega arith
gate_called gate.WritesBody calls = omega arith
gate_called gate.SyncsBody calls = omega arith
gate_called gate.Opens calls = omega arith
gate_called gate.SyncsOpen calls = omega arith
gate_called gate.Written calls = cc
gate_called (gate.Broken why) calls = cc

writing_called : (its : GateWriter) (step : Committing) → commit_step_answer its step ≡ write.Device → committing_calls_left (gate_after its step true) (commit_step_next step true) < committing_calls_left its step
unfolding commit_step_answer commit_step_next gate_after
writing_called its writing.WritesTriples calls = omega arith
writing_called its writing.SyncsTriples calls = omega arith
writing_called its writing.PutsSlot calls = gate_called its.step calls
writing_called its (writing.Broken why) calls = cc

write_led : (shape : Shape) (p : Places) (s : KeeperState) (commit : Option Commit) (answer : WriteAnswer) (old : ℕ) → s.step ≡ Writes → writes_left s.writes < old
    → keeper_asks_left shape p (write_ledto s commit answer) < old + (s.finish.sessions + 1)
unfolding write_ledto keeping_asks_left
write_led shape p s None answer old at fewer = omega arith
write_led shape p s (Some c) write.Written old at fewer = let most = finish_begun_left s.finish c.number in omega (arith, most, fewer)
write_led shape p s (Some c) write.Device old at fewer = by (must_rest s)
  where
    on : keeper_asks_left shape p s < old + (s.finish.sessions + 1)
    on = let most = sum_most (writes_left s.writes) (s.finish.sessions + 1) in rw at (omega (arith, most, fewer))

    by : (rests : Bool) → keeper_asks_left shape p (if rests then turned (record s { rests = true }) else s) < old + (s.finish.sessions + 1)
    by true = omega arith
    by false = on
write_led shape p s (Some c) (write.Broken why) old at fewer = let most = sum_most (writes_left s.writes) (s.finish.sessions + 1) in rw at (omega (arith, most, fewer))

asks_device : (answer : WriteAnswer) (full : Bool) → write_asked answer (Turned false full) ≡ Done Device → answer ≡ write.Device
asks_device write.Device full asks = refl
asks_device write.Written full asks = cc
asks_device (write.Broken why) full asks = cc

turn_asks_device : (ask : Ask MaintainAnswer) (full : Bool) → device_passed ask (Turned false full) ≡ Done Device → ask ≡ Done maintain.Device
unfolding device_passed passed
turn_asks_device (Done maintain.Device) full asks = refl
turn_asks_device (Done maintain.Through) full asks = cc
turn_asks_device (Done maintain.Spent) full asks = cc
turn_asks_device (Done maintain.Broken) full asks = cc
turn_asks_device (Load place) full asks = cc
turn_asks_device (Store place new) full asks = cc
turn_asks_device (Swap place new) full asks = cc
turn_asks_device (Cas place old new) full asks = cc
turn_asks_device (Add place k) full asks = cc
turn_asks_device (Max place k) full asks = cc
turn_asks_device (Put slot action) full asks = cc
turn_asks_device (Take slot) full asks = cc

sweep_asks_device : (ask : Ask SweepAnswer) (full : Bool) → sweep_passed ask (Turned false full) ≡ Done Device → (is_through ask ≡ false) × (steps_asked ask ≡ 1)
unfolding sweep_passed passed
sweep_asks_device (Done sweep.Device) full asks = (refl, refl)
sweep_asks_device (Done sweep.Through) full asks = cc
sweep_asks_device (Load place) full asks = cc
sweep_asks_device (Store place new) full asks = cc
sweep_asks_device (Swap place new) full asks = cc
sweep_asks_device (Cas place old new) full asks = cc
sweep_asks_device (Add place k) full asks = cc
sweep_asks_device (Max place k) full asks = cc
sweep_asks_device (Put slot action) full asks = cc
sweep_asks_device (Take slot) full asks = cc

one_fewer : (x n steps : ℕ) → x ≤ n - steps → steps ≡ 1 → 0 < n → x < n
one_fewer x n steps low one some = omega (arith, low, one, some)

keeping_called_fewer : (shape : Shape) (p : Places) (s : KeeperState) (step : Keeping) (done : Bool) (bytes : List ℕ) → s.step ≡ step → keeping_ask shape p s step ≡ Done Device → keeping_made p s step ≡ 1
    → keeper_asks_left shape p (keeping_called shape p s step done bytes) < keeping_asks_left shape p s step
unfolding keeping_ask keeping_made keeping_called keeping_asks_left
keeping_called_fewer shape p s Maintains done bytes at asks one =
    let ask = maintain_ask shape p s.maintain in
    let next = maintain_called shape p s.maintain done bytes in
    let fewer = maintain_called_fewer shape p s.maintain done bytes (turn_asks_device ask s.is_drain_full asks) in
    let whole = sum_whole (maintain_asks_left shape s.maintain) (most_behind_phase s.sweep.places s.seek.sessions s.finish.sessions + 1) (some_below (maintain_asks_left shape next) (maintain_asks_left shape s.maintain) fewer) in
    let led = maintain_led shape p (record s { maintain = next }) (maintain_asks_left shape s.maintain) (maintain_ask shape p next) at fewer in
    below_whole _ _ _ whole led
keeping_called_fewer shape p s Writes true bytes at asks one =
    let fewer = writing_called s.writes.gate s.writes.step (asks_device (commit_answer s.writes) s.is_drain_full asks) in
    let next = commit_next s.writes true in
    let whole = sum_whole (writes_left s.writes) (s.finish.sessions + 1) (some_below (writes_left next) (writes_left s.writes) fewer) in
    let led = write_led shape p (record s { writes = next }) s.commit (commit_answer next) (writes_left s.writes) at fewer in
    omega (arith, whole, led)
keeping_called_fewer shape p s Writes false bytes at asks one =
    some_sum (writes_left s.writes) (s.finish.sessions + 1) ((write_busy s.writes s.is_drain_full).0 (rw asks refl))
keeping_called_fewer shape p s Sweeps true bytes at asks one =
    let device = sweep_asks_device (sweep_ask s.sweep) s.is_drain_full asks in
    let some = (sweep_asked s.sweep (sweep_ask s.sweep) refl).0 device.0 in
    let fewer = one_fewer (sweep_asks_left (sweep_read s.sweep bytes)) (sweep_asks_left s.sweep) (steps_asked (sweep_ask s.sweep)) (sweep_read_fewer s.sweep bytes) device.1 some in
    sweep_led shape p (record s { sweep = sweep_read s.sweep bytes }) (sweep_asks_left s.sweep) (sweep_ask (sweep_read s.sweep bytes)) at fewer
keeping_called_fewer shape p s Sweeps false bytes at asks one = (sweep_asked s.sweep (sweep_ask s.sweep) refl).0 (sweep_asks_device (sweep_ask s.sweep) s.is_drain_full asks).0
keeping_called_fewer shape p s step done bytes at asks one = cc

pub keeper_called_fewer : (shape : Shape) (p : Places) (s : KeeperState) (done : Bool) (bytes : List ℕ) → keeper_ask shape p s ≡ Done Device
    → keeper_asks_left shape p (keeper_called shape p s done bytes) < keeper_asks_left shape p s
keeper_called_fewer shape p s done bytes asks = keeping_called_fewer shape p s s.step done bytes refl asks (keeper_asked_calls shape p s ∙ ap keeper_calls_asked asks)

pub ended_none : (shape : Shape) (p : Places) (s : KeeperState) (told : KeeperTold) → s.step ≡ Ended told → keeper_asks_left shape p s ≡ 0
unfolding keeping_asks_left
ended_none shape p s told at = rw at refl

-- a call that failed ends the turn
pub broken_refused : (shape : Shape) (p : Places) (s : KeeperState) (m : MaintainState) → m.step ≡ Broken → (maintain_ledto s (maintain_ask shape p m)).step ≡ Ended (TurnRefused fault.Device)
unfolding maintain_ledto maintaining_ask
broken_refused shape p s m at = rw at refl
