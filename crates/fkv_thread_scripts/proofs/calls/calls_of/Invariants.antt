-- the calls of the lines that were looked at
use Rattle.std.proofs.Common.{◌≡◌, take}
use Rattle.fkv_thread_scripts.specs.Calls.{calls_of}
use Rattle.fkv_thread_scripts.proofs.calls.calls_of.Given as goal

abbrev pub invariant-loop-line : goal.invariant-loop-line
invariant-loop-line l = l.calls.items ≡ calls_of l.session (take l.line-index l.lines)
