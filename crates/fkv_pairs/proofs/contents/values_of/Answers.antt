use Rattle.std.proofs.Common.{◌≡◌, ◌<◌, length, sym, ap, subst, ◌∙◌, arith}
use Rattle.std.specs.Prelude.{Some, slice_get}
use Rattle.std.proofs.lemmas.Option.{slice_get-get_or}
use Rattle.std.specs.Ordering.{nat_cmp}
use Rattle.std.specs.BTreeMap.{get}
use Rattle.fkv_disk.proofs.Shown.{more_reads, quiet_on}
use Rattle.fkv_opening.specs.Entries.{entry_home}
use Rattle.fkv_pairs.specs.Gathered.{IsReadFrom, AreGathered}
use Rattle.fkv_pairs.specs.Pairs.{log_of_store}
use Rattle.fkv_pairs.proofs.Faultless.{is_read_from}
use Rattle.fkv_pairs.proofs.Pairing.{gathered_more, entry_here}
use Rattle.fkv_pairs.proofs.contents.values_of.Goals as goal

pub loop-i-preserved : goal.loop-i-preserved
loop-i-preserved g c =
    let quiet = c.loop-i.invariant.quiet in
    record {
      quiet = quiet_on g.D.Device.honest g.D.Device.seen g.D.Device.may_leave g.D.Device.moment g.D.Device.left_since g.D.Device.failed c.args.d.now c.loop-i.d c.gather.new.d quiet c.in_ok-gather.ensures.quiet;
      reads = more_reads g.D.Device.refuses g.D.Device.expects c.args.d.now c.loop-i.d c.gather.new.d c.loop-i.invariant.reads c.in_ok-gather.ensures.reads;
      gathered = λ claim store.
          let image = g.D.Device.seen c.args.d.now in
          let opened = c.args.opened.now in
          let log = log_of_store image opened store in
          let e = c.index.result.now in
          let within = c.loop-i-test.true in
          let many = c.len-i-end.ensures in
          let low : c.loop-i.i < length opened.entries.items = omega (arith, within, many) in
          let so_far = c.loop-i.invariant.gathered claim store in
          let stands : slice_get opened.entries.items c.loop-i.i ≡ Some e = slice_get-get_or opened.entries.items c.loop-i.i e low ∙ ap Some (sym c.index.ensures) in
          let reads = subst (λ i. IsReadFrom i opened.shape opened.begin.0 log) (sym (quiet.same_bytes claim)) (is_read_from image opened store) in
          let entry = entry_here log opened.entries.items store.entries c.loop-i.i e stands in
          gathered_more log (get nat_cmp c.loop-i.values) (get nat_cmp c.gather.new.values) opened.entries.items c.loop-i.i e stands so_far
          (c.in_ok-gather.ensures.ok log (entry_home e) (quiet.premise.0 claim) reads entry so_far.newest);
    }

pub returns-clause-ok : goal.returns-clause-ok
returns-clause-ok g c = λ claim store.
    let last = c.loop-i-test.false in
    let most = c.loop-i.auto.i-end in
    let at_end : c.loop-i.i ≡ length c.args.opened.now.entries.items = omega (arith, last, most) in
    subst (λ n. AreGathered (log_of_store (g.D.Device.seen c.args.d.now) c.args.opened.now store) (get nat_cmp c.loop-i.values) c.args.opened.now.entries.items n) at_end (c.loop-i.invariant.gathered claim store)

pub returns-in_err-gather-clause-reads : goal.returns-in_err-gather-clause-reads
returns-in_err-gather-clause-reads g c =
    more_reads g.D.Device.refuses g.D.Device.expects c.args.d.now c.loop-i.d c.gather.new.d c.loop-i.invariant.reads c.gather.ensures.reads
