-- what is written so far and what the rest writes is what all write
use Rattle.std.proofs.Common.{◌≡◌, ℕ, List, ◌++◌, drop}
use Rattle.std.specs.List.{flat_map}
use Rattle.std.specs.Io.KnownBytes.{Appends}
use Rattle.fkv_texts.specs.Lines.{point_text}
use Rattle.fkv_texts.proofs.lines.write_points.Given as goal

abbrev pub invariant-loop-point : goal.invariant-loop-point
invariant-loop-point g l =
    (text : List ℕ) × Appends (g.W.Write.contents l.fn.output) (g.W.Write.contents l.output) text
    × (text ++ flat_map point_text (drop l.point-index l.points) ≡ flat_map point_text l.points)
