-- What kinds of operations there are.
use Rattle.std.specs.Prelude.{◌==◌, if◌then◌else◌, Bool, true, false, Option, Some, None}
use Rattle.fkv_base.specs.declared.numbers.Addr.{Addr}
use Rattle.fkv_begin.specs.Begin.{from_or_none}
use Rattle.fkv_map.specs.declared.operations.Op.{Op}
use Rattle.fkv_map.specs.declared.operations.Op.TheVariants.{Upsert, Delete, Read}
use Rattle.fkv_index.specs.declared.finding.Purpose.{Purpose}
use Rattle.fkv_index.specs.declared.finding.Purpose.TheVariants as slot
use Rattle.fkv_ops.specs.declared.bounds.Bounds.{Bounds}
use Rattle.fkv_ops.specs.declared.requests.Occasion.{Occasion}
use Rattle.fkv_ops.specs.Bounds.{bounds_at}

abbrev pub is_read : Op → Bool
is_read (Read key) = true
is_read op = false

-- an upsert and a delete make a value that doesn't depend on the old one
abbrev pub is_blind : Op → Bool
is_blind (Upsert key value) = true
is_blind (Delete key) = true
is_blind op = false

-- a read seeks a slot that there is, an update one that it may fill, within its bound where it has one
abbrev pub update_within : Option Bounds → Purpose
update_within None = slot.Update
update_within (Some bounds) = slot.UpdateWithin bounds.taken

abbrev pub purpose_at : Occasion → Op → Purpose
purpose_at occasion op = if is_read op then slot.Read else update_within (bounds_at occasion)

-- An address below a request's floor counts as 0 to it, wherever it stands. So a chain that leads there has ended.
abbrev pub is_chain_end : Addr → Addr → Bool
is_chain_end floor addr = from_or_none floor.0 addr.0 == 0
