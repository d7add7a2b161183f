-- One record after another.
use Rattle.std.proofs.Common.{◌≡◌, ◌∙◌, ap, sym, arith, ℕ, ◌-◌, List, ◌++◌, length}
use Rattle.std.proofs.lemmas.List.{length-append}
use Rattle.fkv_disk.specs.Bytes.{bytes_at}
use Rattle.fkv_disk.proofs.Shown.{more_reads, no_read, quiet_on, quiet_still}
use Rattle.fkv_record.specs.Places.{record_place}
use Rattle.fkv_warming.specs.Records.{record_words, records_from}
use Rattle.fkv_warming.proofs.Words.{records_more, records_none}
use Rattle.fkv_warming.proofs.records.records_from.Goals as goal

pub loop-addr-init : goal.loop-addr-init
loop-addr-init g c = record {
  quiet = quiet_still g.D.Device.honest g.D.Device.seen g.D.Device.may_leave g.D.Device.moment g.D.Device.left_since g.D.Device.failed c.args.d.now;
  reads = no_read g.D.Device.refuses g.D.Device.expects c.args.d.now;
  up = omega arith;
  many = omega (arith, ap length c.new-words.ensures.items);
  so_far = λ claim. c.new-words.ensures.items ∙ sym (records_none (g.D.Device.seen c.args.d.now) c.args.shape c.args.begin.0 c.args.number.0 c.args.first.0);
}

pub loop-addr-preserved : goal.loop-addr-preserved
loop-addr-preserved g c =
    let quiet = c.loop-addr.invariant.quiet in
    let pushed = c.in_ok-push_record.ensures.ok in
    let up = c.loop-addr.invariant.up in
    let before = c.loop-addr.invariant.many in
    record {
      quiet = quiet_on g.D.Device.honest g.D.Device.seen g.D.Device.may_leave g.D.Device.moment g.D.Device.left_since g.D.Device.failed c.args.d.now c.loop-addr.d c.record_bytes.new.d quiet c.in_ok-bytes.ensures.quiet;
      reads = more_reads g.D.Device.refuses g.D.Device.expects c.args.d.now c.loop-addr.d c.record_bytes.new.d c.loop-addr.invariant.reads c.in_ok-bytes.ensures.reads;
      up = omega (arith, up);
      many = (let more = ap length pushed ∙ length-append c.loop-addr.words.items (record_words c.in_ok-bytes.bytes c.args.begin.0 c.args.number.0) in omega (arith, more, before, up));
      so_far = λ claim.
          let image = g.D.Device.seen c.args.d.now in
          let at = c.loop-addr.addr in
          let bytes : c.in_ok-bytes.bytes ≡ bytes_at image (record_place c.args.shape at) 24 =
          c.in_ok-bytes.ensures.ok (quiet.premise.0 claim) ∙ ap (λ (read : List ℕ). bytes_at read (record_place c.args.shape at) 24) (quiet.same_bytes claim) in
          pushed
          ∙ (ap (λ (words : List ℕ). words ++ record_words c.in_ok-bytes.bytes c.args.begin.0 c.args.number.0) (c.loop-addr.invariant.so_far claim)
          ∙ (ap (λ (read : List ℕ). records_from image c.args.shape c.args.begin.0 c.args.number.0 c.args.first.0 (at - c.args.first.0) ++ record_words read c.args.begin.0 c.args.number.0) bytes
          ∙ records_more image c.args.shape c.args.begin.0 c.args.number.0 c.args.first.0 at up));
    }

pub returns-in_err-bytes-clause-reads : goal.returns-in_err-bytes-clause-reads
returns-in_err-bytes-clause-reads g c =
    more_reads g.D.Device.refuses g.D.Device.expects c.args.d.now c.loop-addr.d c.record_bytes.new.d c.loop-addr.invariant.reads c.record_bytes.ensures.reads

pub returns-in_err-push_record-clause-reads : goal.returns-in_err-push_record-clause-reads
returns-in_err-push_record-clause-reads g c =
    more_reads g.D.Device.refuses g.D.Device.expects c.args.d.now c.loop-addr.d c.record_bytes.new.d c.loop-addr.invariant.reads c.in_ok-bytes.ensures.reads
