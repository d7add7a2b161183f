-- A call of the keeper asks or calls the device just where it has some left, and each reply, action and call leaves fewer.
use Rattle.std.proofs.Common.{◌≡◌, ℕ, ◌+◌, ◌<◌, ◌∙◌, refl, sym, arith, Bool, true, false}
use Rattle.std.specs.Prelude.{Option, Some, None}
use Rattle.fkv_base.specs.declared.faults.Fault.TheVariants as fault
use Rattle.fkv_base.specs.declared.shapes.Shape.{Shape}
use Rattle.fkv_plane.specs.declared.asks.Ask.{Ask}
use Rattle.fkv_plane.specs.declared.asks.Ask.TheVariants.{Load, Store, Swap, Cas, Add, Max, Put, Take, Done}
use Rattle.fkv_plane.specs.declared.places.Places.{Places}
use Rattle.fkv_plane.specs.Passing.{passed}
use Rattle.fkv_checkpoint.specs.declared.copying.CopyStep.{CopyStep}
use Rattle.fkv_checkpoint.specs.declared.copying.CopyStep.TheVariants as copying
use Rattle.fkv_checkpoint.specs.declared.copying.Copying.{Copying}
use Rattle.fkv_checkpoint.specs.Copying.{Copier, copy_step_ask, step_part_left}
use Rattle.fkv_plane.specs.AsksLeft.{AsksWhereLeft, sum_left}
use Rattle.fkv_commit.specs.AsksLeft.{start_asks_left, enter_asks_left, seek_asks_left, wait_asks_left, finish_asks_left}
use Rattle.fkv_commit.specs.Entering.{enter_ask}
use Rattle.fkv_commit.specs.Finishing.{finish_ask}
use Rattle.fkv_commit.specs.Seeking.{seek_ask}
use Rattle.fkv_commit.specs.Starting.{start_ask}
use Rattle.fkv_commit.specs.Waiting.{wait_ask}
use Rattle.fkv_commit.proofs.Shown.{start_left, enter_left, seek_left, wait_left, finish_left}
use Rattle.fkv_manifest.specs.declared.commits.Committing.{Committing}
use Rattle.fkv_manifest.specs.declared.commits.Committing.TheVariants as writing
use Rattle.fkv_manifest.specs.declared.gates.Gating.{Gating}
use Rattle.fkv_manifest.specs.declared.gates.Gating.TheVariants as gate
use Rattle.fkv_manifest.specs.Committing.{CommitWriter, commit_step_answer, commit_answer}
use Rattle.fkv_manifest.specs.Gating.{GateWriter, gate_answer, gate_calls_left}
use Rattle.fkv_keeper.specs.declared.answers.KeeperTold.{KeeperTold}
use Rattle.fkv_keeper.specs.declared.answers.KeeperTold.TheVariants.{Device, Turned, TurnRefused, Begun, CommitRefused}
use Rattle.fkv_keeper.specs.declared.keepers.Keeping.{Keeping}
use Rattle.fkv_keeper.specs.declared.keepers.Keeping.TheVariants.{Ended, Starts, Maintains, LoadsPhase, Enters, Copies, Seeks, Waits, Writes, Finishes, Sweeps}
use Rattle.fkv_maintain.specs.declared.maintaining.MaintainAnswer.{MaintainAnswer}
use Rattle.fkv_maintain.specs.declared.maintaining.MaintainAnswer.TheVariants as maintain
use Rattle.fkv_keeper.specs.Answers.{is_busy}
use Rattle.fkv_maintain.specs.AsksLeft.{GoesOnWhereLeft, maintain_asks_left}
use Rattle.fkv_keeper.specs.KeeperAsks.{committing_calls_left, writes_left, copy_left, most_write_asks, most_behind_phase, keeping_asks_left, keeper_asks_left, IsBusyWhereLeft}
use Rattle.fkv_keeper.specs.Keeping.{KeeperState, device_passed, end_told, write_asked, turn_over, copy_asked, keeping_ask, keeper_ask, finished, sweep_passed}
use Rattle.fkv_maintain.specs.Maintaining.{maintain_ask}
use Rattle.fkv_plane.proofs.Shown.{some_sum, some_inside}
use Rattle.fkv_maintain.proofs.Shown.{maintain_left}
use Rattle.fkv_sweep.specs.Sweeping.{sweep_ask}
use Rattle.fkv_sweep.specs.AsksLeft.{sweep_asks_left}
use Rattle.fkv_sweep.proofs.Shown.{sweep_asked}
use Rattle.fkv_sweep.specs.declared.sweeping.SweepAnswer.{SweepAnswer}
use Rattle.fkv_sweep.specs.declared.sweeping.SweepAnswer.TheVariants as sweep
use Rattle.fkv_sweep.specs.AsksLeft.{GoesOnWhereLeft as SweepsWhereLeft}

pub never : {X : Type 0} → true ≡ false → X
never e = cc

pub nor : {X : Type 0} → false ≡ true → X
nor e = cc

none : {X : Type 0} → 0 < 0 → X
none h = let no : ⊥ = omega (arith, h) in absurd no

-- a call is in hand just where some are left

passed_busy : {A : Type 0} (ask : Ask A) (told : KeeperTold) (left : ℕ) → is_busy (Done told) ≡ false → AsksWhereLeft left ask → IsBusyWhereLeft left (passed ask told)
unfolding passed
passed_busy (Done its) told left idle where_left = (λ busy. never (sym busy ∙ idle), λ some. never (where_left.1 some))
passed_busy (Load place) told left idle where_left = (λ busy. where_left.0 refl, λ some. refl)
passed_busy (Store place new) told left idle where_left = (λ busy. where_left.0 refl, λ some. refl)
passed_busy (Swap place new) told left idle where_left = (λ busy. where_left.0 refl, λ some. refl)
passed_busy (Cas place old new) told left idle where_left = (λ busy. where_left.0 refl, λ some. refl)
passed_busy (Add place k) told left idle where_left = (λ busy. where_left.0 refl, λ some. refl)
passed_busy (Max place k) told left idle where_left = (λ busy. where_left.0 refl, λ some. refl)
passed_busy (Put slot action) told left idle where_left = (λ busy. where_left.0 refl, λ some. refl)
passed_busy (Take slot) told left idle where_left = (λ busy. where_left.0 refl, λ some. refl)

device_busy : (ask : Ask MaintainAnswer) (full : Bool) (left : ℕ) → GoesOnWhereLeft left ask → IsBusyWhereLeft left (device_passed ask (Turned false full))
unfolding device_passed passed
device_busy (Done maintain.Device) full left where_left = (λ busy. where_left.0 refl, λ some. refl)
device_busy (Done maintain.Through) full left where_left = (λ busy. nor busy, λ some. never (where_left.1 some))
device_busy (Done maintain.Spent) full left where_left = (λ busy. nor busy, λ some. never (where_left.1 some))
device_busy (Done maintain.Broken) full left where_left = (λ busy. nor busy, λ some. never (where_left.1 some))
device_busy (Load place) full left where_left = (λ busy. where_left.0 refl, λ some. refl)
device_busy (Store place new) full left where_left = (λ busy. where_left.0 refl, λ some. refl)
device_busy (Swap place new) full left where_left = (λ busy. where_left.0 refl, λ some. refl)
device_busy (Cas place old new) full left where_left = (λ busy. where_left.0 refl, λ some. refl)
device_busy (Add place k) full left where_left = (λ busy. where_left.0 refl, λ some. refl)
device_busy (Max place k) full left where_left = (λ busy. where_left.0 refl, λ some. refl)
device_busy (Put slot action) full left where_left = (λ busy. where_left.0 refl, λ some. refl)
device_busy (Take slot) full left where_left = (λ busy. where_left.0 refl, λ some. refl)

sweep_busy : (ask : Ask SweepAnswer) (full : Bool) (left : ℕ) → SweepsWhereLeft left ask → IsBusyWhereLeft left (sweep_passed ask (Turned false full))
unfolding sweep_passed passed
sweep_busy (Done sweep.Device) full left where_left = (λ busy. where_left.0 refl, λ some. refl)
sweep_busy (Done sweep.Through) full left where_left = (λ busy. nor busy, λ some. never (where_left.1 some))
sweep_busy (Load place) full left where_left = (λ busy. where_left.0 refl, λ some. refl)
sweep_busy (Store place new) full left where_left = (λ busy. where_left.0 refl, λ some. refl)
sweep_busy (Swap place new) full left where_left = (λ busy. where_left.0 refl, λ some. refl)
sweep_busy (Cas place old new) full left where_left = (λ busy. where_left.0 refl, λ some. refl)
sweep_busy (Add place k) full left where_left = (λ busy. where_left.0 refl, λ some. refl)
sweep_busy (Max place k) full left where_left = (λ busy. where_left.0 refl, λ some. refl)
sweep_busy (Put slot action) full left where_left = (λ busy. where_left.0 refl, λ some. refl)
sweep_busy (Take slot) full left where_left = (λ busy. where_left.0 refl, λ some. refl)

sum_where : (ask : Ask KeeperTold) (inside behind : ℕ) → IsBusyWhereLeft inside ask → IsBusyWhereLeft (sum_left inside behind) ask
sum_where ask inside behind its = (λ busy. some_sum inside behind (its.0 busy), λ some. its.1 (some_inside inside behind some))

end_idle : (told : KeeperTold) (full : Bool) → IsBusyWhereLeft 0 (Done (end_told told (Turned false full)))
end_idle Device full = (nor, none)
end_idle (Turned finished some) full = (nor, none)
end_idle (TurnRefused why) full = (nor, none)
end_idle (Begun number) full = (nor, none)
end_idle (CommitRefused why) full = (nor, none)

copy_step_left : (p : Places) (c : Copying) (step : CopyStep) → AsksWhereLeft (step_part_left p c step) (copy_step_ask c.base step)
unfolding step_part_left copy_step_ask
copy_step_left p c copying.Ended = (never, none)
copy_step_left p c (copying.LoadsSlot slot) = (λ asks. omega arith, λ some. refl)
copy_step_left p c copying.LoadsLink = (λ asks. omega arith, λ some. refl)

pub copy_where : (copy : Option Copier) → AsksWhereLeft (copy_left copy) (copy_asked copy)
copy_where None = (never, none)
copy_where (Some m) = copy_step_left m.places m.copying m.copying.step

gate_busy : (step : Gating) (full : Bool) → IsBusyWhereLeft (gate_calls_left step) (write_asked (gate_answer step) (Turned false full))
unfolding gate_answer
gate_busy gate.Closes full = (λ busy. omega arith, λ some. refl)
gate_busy gate.SyncsClosed full = (λ busy. omega arith, λ some. refl)
gate_busy gate.WritesBody full = (λ busy. omega arith, λ some. refl)
gate_busy gate.SyncsBody full = (λ busy. omega arith, λ some. refl)
gate_busy gate.Opens full = (λ busy. omega arith, λ some. refl)
gate_busy gate.SyncsOpen full = (λ busy. omega arith, λ some. refl)
gate_busy gate.Written full = (nor, none)
gate_busy (gate.Broken why) full = (nor, none)

writing_busy : (its : GateWriter) (step : Committing) (full : Bool) → IsBusyWhereLeft (committing_calls_left its step) (write_asked (commit_step_answer its step) (Turned false full))
unfolding commit_step_answer
writing_busy its writing.WritesTriples full = (λ busy. omega arith, λ some. refl)
writing_busy its writing.SyncsTriples full = (λ busy. omega arith, λ some. refl)
writing_busy its writing.PutsSlot full = gate_busy its.step full
writing_busy its (writing.Broken why) full = (nor, none)

pub write_busy : (w : CommitWriter) (full : Bool) → IsBusyWhereLeft (writes_left w) (write_asked (commit_answer w) (Turned false full))
write_busy w full = writing_busy w.gate w.step full

keeping_left : (shape : Shape) (p : Places) (s : KeeperState) (step : Keeping) → IsBusyWhereLeft (keeping_asks_left shape p s step) (keeping_ask shape p s step)
unfolding keeping_ask keeping_asks_left
keeping_left shape p s (Ended its) = end_idle its s.is_drain_full
keeping_left shape p s Starts = passed_busy (start_ask s.start) (CommitRefused fault.CommitRunning) (start_asks_left s.start) refl (start_left s.start)
keeping_left shape p s Maintains =
    let behind = most_behind_phase s.sweep.places s.seek.sessions s.finish.sessions + 1 in
    let left = maintain_asks_left shape s.maintain in
    let ask = maintain_ask shape p s.maintain in
    sum_where (device_passed ask (turn_over s)) left behind (device_busy ask s.is_drain_full left (maintain_left shape p s.maintain))
keeping_left shape p s LoadsPhase = (λ busy. omega arith, λ some. refl)
keeping_left shape p s Enters = passed_busy (enter_ask s.enter) (turn_over s) (enter_asks_left s.enter) refl (enter_left s.enter)
keeping_left shape p s Copies = passed_busy (copy_asked s.copy) (turn_over s) (copy_left s.copy) refl (copy_where s.copy)
keeping_left shape p s Seeks = passed_busy (seek_ask s.seek) (turn_over s) (seek_asks_left s.seek) refl (seek_left s.seek)
keeping_left shape p s Waits =
    sum_where (passed (wait_ask s.wait) (turn_over s)) (wait_asks_left s.wait) (most_write_asks s.finish.sessions) (passed_busy (wait_ask s.wait) (turn_over s) (wait_asks_left s.wait) refl (wait_left s.wait))
keeping_left shape p s Writes = sum_where (write_asked (commit_answer s.writes) (turn_over s)) (writes_left s.writes) (s.finish.sessions + 1) (write_busy s.writes s.is_drain_full)
keeping_left shape p s Finishes = passed_busy (finish_ask s.seek.points s.finish) (turn_over s) (finish_asks_left s.finish) refl (finish_left s.seek.points s.finish)
keeping_left shape p s Sweeps = sweep_busy (sweep_ask s.sweep) s.is_drain_full (sweep_asks_left s.sweep) (sweep_asked s.sweep (sweep_ask s.sweep) refl)

pub keeper_left : (shape : Shape) (p : Places) (s : KeeperState) → IsBusyWhereLeft (keeper_asks_left shape p s) (keeper_ask shape p s)
keeper_left shape p s = keeping_left shape p s s.step

pub keeper_asked : (shape : Shape) (p : Places) (s : KeeperState) (ask : Ask KeeperTold) → ask ≡ keeper_ask shape p s → IsBusyWhereLeft (keeper_asks_left shape p s) ask
keeper_asked shape p s ask e = rw e (keeper_left shape p s)
