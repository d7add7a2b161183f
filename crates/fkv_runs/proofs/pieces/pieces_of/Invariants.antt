-- The pieces so far are those of the lines so far.
use Rattle.std.proofs.Common.{take}
use Rattle.fkv_runs.specs.Pieces.{ArePieces}
use Rattle.fkv_runs.proofs.pieces.pieces_of.Given as goal

abbrev pub invariant-loop-line : goal.invariant-loop-line
invariant-loop-line l = ArePieces l.interleaved (take l.line-index l.lines) l.pieces.items
