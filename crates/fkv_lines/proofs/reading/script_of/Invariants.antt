use Rattle.std.proofs.Common.{◌≡◌, ◌+◌, ◌≤◌, length}
use Rattle.fkv_lines.specs.Words.{most_lines, lines_of}
use Rattle.fkv_lines.specs.Script.{script_of}
use Rattle.fkv_lines.proofs.LineByLine.{continued}
use Rattle.fkv_lines.proofs.reading.script_of.Given as goal

abbrev pub invariant-loop-rest : goal.invariant-loop-rest
invariant-loop-rest l = (l.number ≤ most_lines) × (continued l.mode l.script.opening l.script.lines.items (l.number + 1) (lines_of l.rest) ≡ script_of l.mode l.bytes)

abbrev pub decreases-loop-rest : goal.decreases-loop-rest
decreases-loop-rest l = length l.rest
