use Rattle.std.proofs.Common.{◌≡◌, ℕ, ◌*◌, ◌^◌, ◌<◌, length, take, get_or}
use Rattle.fkv_record.specs.Numbers.{spelled}
use Rattle.fkv_record.proofs.numbers.numbers.Given as goal

-- as many bytes as numbers so far
abbrev pub invariant-loop-i : goal.invariant-loop-i
invariant-loop-i g l = record {
  all : length l.numbers ≡ g.row.N;
  words : (k : ℕ) → get_or l.numbers k 0 < 2 ^ 64;
  so_far : take (8 * l.i) l.bytes ≡ spelled (take l.i l.numbers);
}
