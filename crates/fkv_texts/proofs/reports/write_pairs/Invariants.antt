-- what is written so far and what the rest writes is what all write
use Rattle.std.proofs.Common.{◌≡◌, ℕ, List, ◌++◌, drop}
use Rattle.std.specs.List.{flat_map}
use Rattle.std.specs.Io.KnownBytes.{Appends}
use Rattle.fkv_texts.specs.Reports.{pair_line}
use Rattle.fkv_texts.proofs.reports.write_pairs.Given as goal

abbrev pub invariant-loop-pair : goal.invariant-loop-pair
invariant-loop-pair g l =
    (text : List ℕ) × Appends (g.W.Write.contents l.fn.output) (g.W.Write.contents l.output) text
    × (text ++ flat_map pair_line (drop l.pair-index l.pairs) ≡ flat_map pair_line l.pairs)
