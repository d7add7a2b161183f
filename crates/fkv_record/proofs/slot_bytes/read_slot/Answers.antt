use Rattle.std.proofs.Common.{rules}
use Rattle.fkv_record.proofs.Spelling.{numbered_reads}
use Rattle.fkv_record.proofs.SlotApart.{slot_numbered}
use Rattle.fkv_record.proofs.slot_bytes.read_slot.Goals as goal

pub returns : goal.returns
returns c = numbered_reads slot_numbered c.args.bytes.now c.numbers.result (search rules) c.numbers.ensures.words c.numbers.ensures.same c.slot_of.result c.slot_of.ensures
