use Rattle.std.proofs.Common.{◌≡◌, ◌<◌, sym, subst, ◌∙◌, arith}
use Rattle.fkv_disk.proofs.Shown.{more_reads, quiet_on}
use Rattle.fkv_words.specs.Fields.{Reads}
use Rattle.fkv_disk.specs.Bytes.{bytes_at}
use Rattle.fkv_record.specs.Begin.{from_or_none}
use Rattle.fkv_record.specs.Layout.{record_bytes}
use Rattle.fkv_record.specs.Places.{record_place}
use Rattle.fkv_scan.specs.Log.{log_in}
use Rattle.fkv_chains.specs.Along.{IsToFollow}
use Rattle.fkv_chains.proofs.FollowedTo.{IsFollowedTo, read_stands, read_alone, follow_on, led_on, all_followed, invalid_fault, home_fault}
use Rattle.fkv_chains.proofs.following.follow.Goals as goal
use Rattle.fkv_chains.proofs.following.follow.Goals.{then-found-via-then-found, then-found-via-else-found+then-record_home-home}

pub returns-then-found-clause-err : goal.returns-then-found-clause-err
returns-then-found-clause-err g c = λ triples premise.
    let log = log_in (g.D.Device.seen c.args.d.now) c.args.shape c.args.slot.now triples in
    let a = c.loop-addr.addr.0 in
    let x = c.in-Some.found in
    let quiet = c.loop-addr.invariant.quiet in
    let reads : Reads record_bytes (bytes_at (g.D.Device.seen c.args.d.now) (record_place c.args.shape a) 24) c.in_ok-found.field-0 =
    subst (λ image. Reads record_bytes (bytes_at image (record_place c.args.shape a) 24) c.in_ok-found.field-0) (quiet.same_bytes premise.0) (c.in_ok-found.ensures.ok (quiet.premise.0 premise.0)) in
    let led = c.loop-addr.invariant.led triples premise.0 premise.1 in
    elim c.then-found.branch [
      | then-found-via-then-found w ↦ invalid_fault log c.args.home c.args.from.0 a c.loop-addr-test.true x (read_stands log a c.in_ok-found.field-0 x reads c.in-Some.is) (read_alone log a c.in_ok-found.field-0 x reads c.in-Some.is) led w.if-found.true
      | then-found-via-else-found+then-record_home-home w ↦ home_fault log c.args.home c.args.from.0 a c.loop-addr-test.true x (read_stands log a c.in_ok-found.field-0 x reads c.in-Some.is) (read_alone log a c.in_ok-found.field-0 x reads c.in-Some.is) led (λ same. w.if-record_home-home.true (w.record_home.ensures ∙ same))
    ]

pub loop-addr-preserved : goal.loop-addr-preserved
loop-addr-preserved g c =
    let a = c.loop-addr.addr.0 in
    let x = c.in-Some.found in
    let quiet = c.loop-addr.invariant.quiet in
    let place : c.from_or_none-previous.result.0 ≡ from_or_none c.args.slot.now.begin.0 x.header.previous.0 = c.from_or_none-previous.ensures.place in
    let lower : from_or_none c.args.slot.now.begin.0 x.header.previous.0 < a = omega (arith, place, c.if-previous-addr.false) in
    let low = c.loop-addr.invariant.low in
    record {
      low = omega (arith, place, lower, low);
      quiet = quiet_on g.D.Device.honest g.D.Device.seen g.D.Device.may_leave g.D.Device.moment g.D.Device.left_since g.D.Device.failed c.args.d.now c.loop-addr.d c.record_at.new.d quiet c.in_ok-found.ensures.quiet;
      reads = more_reads g.D.Device.refuses g.D.Device.expects c.args.d.now c.loop-addr.d c.record_at.new.d c.loop-addr.invariant.reads c.in_ok-found.ensures.reads;
      above = λ triples claim.
          let log = log_in (g.D.Device.seen c.args.d.now) c.args.shape c.args.slot.now triples in
          let all : Reads record_bytes (bytes_at (g.D.Device.seen c.args.d.now) (record_place c.args.shape a) 24) c.in_ok-found.field-0 =
          subst (λ image. Reads record_bytes (bytes_at image (record_place c.args.shape a) 24) c.in_ok-found.field-0) (quiet.same_bytes claim) (c.in_ok-found.ensures.ok (quiet.premise.0 claim)) in
          let stands = read_stands log a c.in_ok-found.field-0 x all c.in-Some.is in
          subst (λ n. IsFollowedTo log c.args.home c.args.from.0 n) (sym place)
          (follow_on log c.args.home c.args.from.0 a c.loop-addr-test.true x stands (read_alone log a c.in_ok-found.field-0 x all c.in-Some.is)
          (record { held = x; old = record { stands = stands; old_enough = c.if-found-slot.false; falls = lower }; valid = c.if-found.false; same = sym c.record_home.ensures ∙ c.if-record_home-home.false })
          (c.loop-addr.invariant.above triples claim));
      led = λ triples claim led.
          let log = log_in (g.D.Device.seen c.args.d.now) c.args.shape c.args.slot.now triples in
          let all : Reads record_bytes (bytes_at (g.D.Device.seen c.args.d.now) (record_place c.args.shape a) 24) c.in_ok-found.field-0 =
          subst (λ image. Reads record_bytes (bytes_at image (record_place c.args.shape a) 24) c.in_ok-found.field-0) (quiet.same_bytes claim) (c.in_ok-found.ensures.ok (quiet.premise.0 claim)) in
          subst (λ n. IsToFollow log c.args.home n) (sym place)
          (led_on log c.args.home c.args.from.0 a c.loop-addr-test.true x (read_stands log a c.in_ok-found.field-0 x all c.in-Some.is) (read_alone log a c.in_ok-found.field-0 x all c.in-Some.is)
          lower (sym c.record_home.ensures ∙ c.if-record_home-home.false) (c.loop-addr.invariant.led triples claim led));
    }

pub returns-clause-ok : goal.returns-clause-ok
returns-clause-ok g c = λ triples claim.
    let log = log_in (g.D.Device.seen c.args.d.now) c.args.shape c.args.slot.now triples in
    all_followed log c.args.home c.args.from.0 (subst (λ n. IsFollowedTo log c.args.home c.args.from.0 n) c.loop-addr-test.false (c.loop-addr.invariant.above triples claim))

pub returns-in_err-found-clause-reads : goal.returns-in_err-found-clause-reads
returns-in_err-found-clause-reads g c =
    more_reads g.D.Device.refuses g.D.Device.expects c.args.d.now c.loop-addr.d c.record_at.new.d c.loop-addr.invariant.reads c.record_at.ensures.reads

pub returns-in_default-clause-reads : goal.returns-in_default-clause-reads
returns-in_default-clause-reads g c =
    more_reads g.D.Device.refuses g.D.Device.expects c.args.d.now c.loop-addr.d c.record_at.new.d c.loop-addr.invariant.reads c.in_ok-found.ensures.reads

pub returns-then-found-slot-clause-reads : goal.returns-then-found-slot-clause-reads
returns-then-found-slot-clause-reads g c =
    more_reads g.D.Device.refuses g.D.Device.expects c.args.d.now c.loop-addr.d c.record_at.new.d c.loop-addr.invariant.reads c.in_ok-found.ensures.reads

pub returns-then-found-clause-reads : goal.returns-then-found-clause-reads
returns-then-found-clause-reads g c =
    more_reads g.D.Device.refuses g.D.Device.expects c.args.d.now c.loop-addr.d c.record_at.new.d c.loop-addr.invariant.reads c.in_ok-found.ensures.reads
