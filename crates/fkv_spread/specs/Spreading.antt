-- A bijection of 64-bit words.
use Rattle.std.specs.Prelude.{ℕ, ◌*◌, ◌/◌, ◌%◌, ◌^◌}
use Rattle.std.specs.Int.Bits.{bit_xor}
use Rattle.fkv_spread.specs.declared.keys.Keys.{Keys}
use Rattle.fkv_spread.specs.declared.keys.Keys.TheVariants.{Spread, AsTheyAre}

-- the upper half of a word laid over its lower half
abbrev pub folded : ℕ → ℕ
folded word = bit_xor word (word / 2 ^ 32)

-- a key folded, multiplied by an odd number, and folded again
abbrev pub spread_word : ℕ → ℕ
spread_word key = folded (folded key * 11400714819323198485 % 2 ^ 64)

-- the same with the number by which that one is 1 modulo 2^64
abbrev pub gathered_word : ℕ → ℕ
gathered_word word = folded (folded word * 17428512612931826493 % 2 ^ 64)

-- the number under which a caller's key lies
abbrev pub lies_under : Keys → ℕ → ℕ
lies_under Spread key = spread_word key
lies_under AsTheyAre key = key

-- the caller's key that lies under a number
abbrev pub key_told : Keys → ℕ → ℕ
key_told Spread word = gathered_word word
key_told AsTheyAre word = word
