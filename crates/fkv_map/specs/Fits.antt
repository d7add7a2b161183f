-- Operations whose numbers fit in a word.
use Rattle.std.specs.Prelude.{ℕ, ◌<◌, ◌^◌}
use Rattle.fkv_map.specs.declared.operations.Op.{Op}
use Rattle.fkv_map.specs.declared.operations.Op.TheVariants.{Upsert, Delete, Add, Max, Read, Merge}

abbrev pub NumberFits : ℕ → Type 0
NumberFits n = n < 2 ^ 64

-- an operation's key does, and so does its number
abbrev pub OpFits : Op → Type 0
OpFits (Upsert key value) = NumberFits key.0 × NumberFits value.0
OpFits (Delete key) = NumberFits key.0
OpFits (Add key n) = NumberFits key.0 × NumberFits n
OpFits (Max key n) = NumberFits key.0 × NumberFits n
OpFits (Read key) = NumberFits key.0
OpFits (Merge key which n) = NumberFits key.0 × NumberFits n
