-- what was told before, and the updates among those that were looked at
use Rattle.std.proofs.Common.{◌≡◌, ◌++◌, take}
use Rattle.fkv_thread_scripts.specs.Logs.{updates_in}
use Rattle.fkv_thread_scripts.proofs.logs.note_finished.Given as goal

abbrev pub invariant-loop-one : goal.invariant-loop-one
invariant-loop-one l = l.told.items ≡ l.initial.told.items ++ updates_in (take l.one-index l.finished)
