use Rattle.std.proofs.Common.{◌≡◌, length, take, drop}
use Rattle.fkv_lines.specs.Reading.{texts}
use Rattle.fkv_lines.specs.Numbers.{numbers_of}
use Rattle.fkv_lines.proofs.Arguments.{with_front}
use Rattle.fkv_lines.proofs.reading.numbers.arguments_of.Given as goal

abbrev pub invariant-loop-i : goal.invariant-loop-i
invariant-loop-i g l = (length l.numbers ≡ length l.words) × (with_front (take l.i l.numbers) (numbers_of (texts (drop l.i l.words))) ≡ numbers_of (texts l.words))
