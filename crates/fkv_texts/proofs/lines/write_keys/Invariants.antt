-- what is written so far and what the rest writes is what all write
use Rattle.std.proofs.Common.{◌≡◌, ℕ, List, ◌++◌, drop}
use Rattle.std.specs.List.{flat_map}
use Rattle.std.specs.Io.KnownBytes.{Appends}
use Rattle.fkv_texts.specs.Lines.{key_text}
use Rattle.fkv_texts.proofs.lines.write_keys.Given as goal

abbrev pub invariant-loop-key : goal.invariant-loop-key
invariant-loop-key g l =
    (text : List ℕ) × Appends (g.W.Write.contents l.fn.output) (g.W.Write.contents l.output) text
    × (text ++ flat_map key_text (drop l.key-index l.keys) ≡ flat_map key_text l.keys)
