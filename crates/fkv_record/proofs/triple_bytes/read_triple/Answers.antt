use Rattle.std.proofs.Common.{get_or, arith, refl, rules}
use Rattle.std.proofs.lemmas.Nat.{and_mask}
use Rattle.fkv_record.proofs.Spelling.{numbered_reads}
use Rattle.fkv_record.proofs.TripleApart.{triple_numbered, triple_read, triple_none}
use Rattle.fkv_record.proofs.triple_bytes.read_triple.Goals as goal
use Rattle.fkv_record.proofs.triple_bytes.read_triple.Goals.{then-tag-via-then-tag, then-tag-via-else-tag+then-addr-eq0, then-tag-via-else-tag+else-addr-eq0+then-addr}

pub returns : goal.returns
returns c =
    numbered_reads triple_numbered c.args.bytes.now c.numbers.result (search rules) c.numbers.ensures.words c.numbers.ensures.same _
    (triple_read c.numbers.result _ (search rules) (omega (arith, and_mask (get_or c.numbers.result 0 0) 32)) refl)

pub returns-then-tag : goal.returns-then-tag
returns-then-tag c =
    numbered_reads triple_numbered c.args.bytes.now c.numbers.result (search rules) c.numbers.ensures.words c.numbers.ensures.same _
    (triple_none c.numbers.result (search rules) (λ x home addr.
    elim c.then-tag.branch [
      | then-tag-via-then-tag w ↦ let b = x.bucket_fits in let t = x.tag_fits in omega arith
      | then-tag-via-else-tag+then-addr-eq0 w ↦ let a = x.some_addr in omega arith
      | then-tag-via-else-tag+else-addr-eq0+then-addr w ↦ let a = x.addr_fits in omega arith
    ]))
