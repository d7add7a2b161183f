use Rattle.std.proofs.Common.{refl, rules}
use Rattle.fkv_record.proofs.Spelling.{numbered_reads}
use Rattle.fkv_record.proofs.RecordApart.{record_numbered, record_read, record_none}
use Rattle.fkv_record.proofs.record_bytes.read_record.Goals as goal

pub returns : goal.returns
returns c =
    let is = (c.in_ok-header.ensures c.in_ok-header.header).0 refl in
    numbered_reads record_numbered c.args.bytes.now c.numbers.result (search rules) c.numbers.ensures.words c.numbers.ensures.same _
    (record_read c.numbers.result _ (search rules) is refl refl)

pub returns-in_err-header : goal.returns-in_err-header
returns-in_err-header c =
    rw c.from_residual.ensures (numbered_reads record_numbered c.args.bytes.now c.numbers.result (search rules) c.numbers.ensures.words c.numbers.ensures.same _
    (record_none c.numbers.result (search rules) c.in_err-header.ensures))
