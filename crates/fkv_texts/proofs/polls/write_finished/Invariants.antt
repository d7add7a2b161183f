-- what is written so far and what the rest writes is what all write
use Rattle.std.proofs.Common.{◌≡◌, ℕ, List, ◌++◌, drop}
use Rattle.std.specs.List.{flat_map}
use Rattle.std.specs.Io.KnownBytes.{Appends}
use Rattle.fkv_texts.specs.Polls.{finished_line}
use Rattle.fkv_texts.proofs.polls.write_finished.Given as goal

abbrev pub invariant-loop-its : goal.invariant-loop-its
invariant-loop-its g l =
    (text : List ℕ) × Appends (g.W.Write.contents l.fn.output) (g.W.Write.contents l.output) text
    × (text ++ flat_map (finished_line l.session l.waiting) (drop l.its-index l.finished) ≡ flat_map (finished_line l.session l.waiting) l.finished)
