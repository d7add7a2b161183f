use Rattle.std.proofs.Common.{◌≡◌, ℕ, false, refl, sym, ap, subst, ◌∙◌}
use Rattle.std.specs.Ordering.{nat_cmp}
use Rattle.std.specs.Option.{is_some}
use Rattle.std.specs.BTreeMap.{BTreeMap, get}
use Rattle.fkv_disk.proofs.Shown.{no_read, more_reads, quiet_still, quiet_on}
use Rattle.fkv_words.specs.Fields.{Reads}
use Rattle.fkv_disk.specs.Bytes.{bytes_at}
use Rattle.fkv_record.specs.Begin.{from_or_none}
use Rattle.fkv_record.specs.Layout.{record_bytes}
use Rattle.fkv_record.specs.Places.{record_place}
use Rattle.fkv_scan.specs.Records.{next_of}
use Rattle.fkv_scan.proofs.Shown.{stands_read, none_read}
use Rattle.fkv_pairs.specs.Gathered.{lower_or_none}
use Rattle.fkv_pairs.proofs.Along.{IsGathering, gather_first, gather_seen, gather_new, all_gathered, next_short, read_of, none_is}
use Rattle.fkv_pairs.proofs.gathering.gather.Goals as goal
use Rattle.fkv_pairs.proofs.gathering.gather.Goals.{then-not-contains_key+in_ok-insert, else-not-contains_key}

pub loop-addr-init : goal.loop-addr-init
loop-addr-init g c = record {
  short = c.requires;
  quiet = quiet_still g.D.Device.honest g.D.Device.seen g.D.Device.may_leave g.D.Device.moment g.D.Device.left_since g.D.Device.failed c.args.d.now;
  reads = no_read g.D.Device.refuses g.D.Device.expects c.args.d.now;
  gathering = λ log its_home claim reads entry newest. gather_first c.law_spellings_apart.ensures.records log reads.faultless its_home (get nat_cmp c.args.values.now) c.args.entry.0 entry newest;
}

pub returns-in_default-clause-ok : goal.returns-in_default-clause-ok
returns-in_default-clause-ok g c = λ log its_home claim reads entry newest.
    let quiet = c.loop-addr.invariant.quiet in
    let gathering = c.loop-addr.invariant.gathering log its_home claim reads entry newest in
    let all = read_of (g.D.Device.seen c.args.d.now) c.args.shape c.args.begin.0 log reads c.loop-addr.addr.0 c.in_ok-found.field-0
    (subst (λ image. Reads record_bytes (bytes_at image (record_place c.args.shape c.loop-addr.addr.0) 24) c.in_ok-found.field-0) (quiet.same_bytes claim) (c.in_ok-found.ensures.ok (quiet.premise.0 claim))) in
    let has = gathering.here_counts c.loop-addr-test.true in
    absurd (none_read log c.loop-addr.addr.0 c.in_ok-found.field-0 all has.0 (none_is c.in_ok-found.field-0 c.in_default.not-Some) has.1.valid.stands)

pub loop-addr-preserved : goal.loop-addr-preserved
loop-addr-preserved g c =
    let quiet = c.loop-addr.invariant.quiet in
    let at = get nat_cmp c.loop-addr.values in
    let a = c.loop-addr.addr.0 in
    let x = c.in-Some.found in
    let is = c.lower_or_none-addr.ensures.lower in
    let place = c.from_or_none-previous.ensures.place in
    record {
      short = next_short c.from_or_none-previous.result.0 a c.lower_or_none-addr.result.0 is c.loop-addr.invariant.short;
      quiet = quiet_on g.D.Device.honest g.D.Device.seen g.D.Device.may_leave g.D.Device.moment g.D.Device.left_since g.D.Device.failed c.args.d.now c.loop-addr.d c.record_at.new.d quiet c.in_ok-found.ensures.quiet;
      reads = more_reads g.D.Device.refuses g.D.Device.expects c.args.d.now c.loop-addr.d c.record_at.new.d c.loop-addr.invariant.reads c.in_ok-found.ensures.reads;
      gathering = λ log its_home claim reads entry newest.
          let so_far = c.loop-addr.invariant.gathering log its_home claim reads entry newest in
          let before = get nat_cmp c.args.values.now in
          let spelled = c.law_spellings_apart.ensures.records in
          let all = read_of (g.D.Device.seen c.args.d.now) c.args.shape c.args.begin.0 log reads a c.in_ok-found.field-0
          (subst (λ image. Reads record_bytes (bytes_at image (record_place c.args.shape a) 24) c.in_ok-found.field-0) (quiet.same_bytes claim) (c.in_ok-found.ensures.ok (quiet.premise.0 claim))) in
          let stands = stands_read log a c.in_ok-found.field-0 all x c.in-Some.is in
          let leads : c.from_or_none-previous.result.0 ≡ next_of log x = place ∙ ap (λ (b : ℕ). from_or_none b x.header.previous.0) (sym reads.begins) in
          let next : c.lower_or_none-addr.result.0 ≡ lower_or_none (next_of log x) a = is ∙ ap (λ (n : ℕ). lower_or_none n a) leads in
          subst (λ n. IsGathering log its_home before (get nat_cmp c.if-not-contains_key.values) n) (sym next) (elim c.if-not-contains_key.branch [
            | then-not-contains_key+in_ok-insert w ↦
                let new : is_some (at x.key.0) ≡ false = sym c.contains_key.ensures ∙ w.if-not-contains_key.true in
                subst (λ (m : BTreeMap ℕ ℕ). IsGathering log its_home before (get nat_cmp m) (lower_or_none (next_of log x) a)) (sym w.values-is)
                (gather_new spelled log reads.faultless its_home before at a c.loop-addr-test.true so_far x stands (get nat_cmp w.insert.new.self) x.key.0 x.value refl refl new w.in_ok-insert.ensures.updates.0)
            | else-not-contains_key w ↦
                subst (λ (m : BTreeMap ℕ ℕ). IsGathering log its_home before (get nat_cmp m) (lower_or_none (next_of log x) a)) (sym w.values-is)
                (gather_seen spelled log reads.faultless its_home before at a c.loop-addr-test.true so_far x stands (sym c.contains_key.ensures ∙ w.if-not-contains_key.false))
          ]);
    }

pub returns-clause-ok : goal.returns-clause-ok
returns-clause-ok g c = λ log its_home claim reads entry newest.
    all_gathered c.law_spellings_apart.ensures.records log reads.faultless its_home (get nat_cmp c.args.values.now) (get nat_cmp c.loop-addr.values)
    (subst (λ n. IsGathering log its_home (get nat_cmp c.args.values.now) (get nat_cmp c.loop-addr.values) n) c.loop-addr-test.false (c.loop-addr.invariant.gathering log its_home claim reads entry newest))

pub returns-in_err-found-clause-reads : goal.returns-in_err-found-clause-reads
returns-in_err-found-clause-reads g c =
    more_reads g.D.Device.refuses g.D.Device.expects c.args.d.now c.loop-addr.d c.record_at.new.d c.loop-addr.invariant.reads c.record_at.ensures.reads

pub returns-in_default-clause-reads : goal.returns-in_default-clause-reads
returns-in_default-clause-reads g c =
    more_reads g.D.Device.refuses g.D.Device.expects c.args.d.now c.loop-addr.d c.record_at.new.d c.loop-addr.invariant.reads c.in_ok-found.ensures.reads

pub returns-in_err-insert-clause-reads : goal.returns-in_err-insert-clause-reads
returns-in_err-insert-clause-reads g c =
    more_reads g.D.Device.refuses g.D.Device.expects c.args.d.now c.loop-addr.d c.record_at.new.d c.loop-addr.invariant.reads c.in_ok-found.ensures.reads
