use Rattle.std.proofs.Common.{◌≡◌, length, sym, ap, subst, ◌∙◌, arith}
use Rattle.std.specs.Prelude.{Some, slice_get}
use Rattle.std.proofs.lemmas.Option.{slice_get-get_or}
use Rattle.fkv_disk.proofs.Shown.{more_reads, quiet_on}
use Rattle.fkv_scan.specs.Log.{Log, log_in}
use Rattle.fkv_chains.specs.Along.{IsFollowed, IsToFollow}
use Rattle.fkv_chains.proofs.Reaching.{has_chains}
use Rattle.fkv_chains.proofs.Staging.{refused_after, follows_from, one_more, each_way, AreFollowed}
use Rattle.fkv_chains.proofs.Ways.{all_ways}
use Rattle.fkv_chains.proofs.chain_stage.check_chains.Goals as goal

pub returns-in-Err-clause-err : goal.returns-in-Err-clause-err
returns-in-Err-clause-err g c =
    let log = log_in (g.D.Device.seen c.args.d.now) c.args.shape c.args.slot.now c.args.triples.now in
    let log_mid = log_in (g.D.Device.seen c.loop-i.d) c.args.shape c.args.slot.now c.args.triples.now in
    let quiet = c.loop-i.invariant.quiet in
    let triple = c.index-triples-i.result in
    let stands : slice_get c.args.triples.now c.loop-i.i ≡ Some triple = slice_get-get_or c.args.triples.now c.loop-i.i triple c.loop-i-test.true ∙ ap Some (sym c.index-triples-i.is) in
    refused_after (g.D.Device.failed c.args.d.now) (g.D.Device.failed c.loop-i.d) (g.D.Device.failed c.follow.new.d) quiet.no_fewer_failures _ _ log log_mid
    (λ holds.
    let same : log_mid ≡ log = ap (λ image. log_in image c.args.shape c.args.slot.now c.args.triples.now) (quiet.same_bytes holds.0) in
    let led = follows_from log c.args.scanned.now holds.1 c.loop-i.i triple stands c.triple_home-home.result c.way_of-from.result.0 c.triple_home-home.ensures c.way_of-from.ensures.way in
    ((quiet.premise.0 holds.0, subst (λ (l : Log). IsToFollow l c.triple_home-home.result c.way_of-from.result.0) (sym same) led), same))
    c.in-Err.fault (c.in-Err.ensures.err c.args.triples.now)

pub loop-i-preserved : goal.loop-i-preserved
loop-i-preserved g c =
    let log = log_in (g.D.Device.seen c.args.d.now) c.args.shape c.args.slot.now c.args.triples.now in
    let quiet = c.loop-i.invariant.quiet in
    let triple = c.index-triples-i.result in
    let stands : slice_get c.args.triples.now c.loop-i.i ≡ Some triple = slice_get-get_or c.args.triples.now c.loop-i.i triple c.loop-i-test.true ∙ ap Some (sym c.index-triples-i.is) in
    record {
      quiet = quiet_on g.D.Device.honest g.D.Device.seen g.D.Device.may_leave g.D.Device.moment g.D.Device.left_since g.D.Device.failed c.args.d.now c.loop-i.d c.follow.new.d quiet c.in_default.ensures.quiet;
      reads = more_reads g.D.Device.refuses g.D.Device.expects c.args.d.now c.loop-i.d c.follow.new.d c.loop-i.invariant.reads c.in_default.ensures.reads;
      followed = λ claim.
          let same = ap (λ image. log_in image c.args.shape c.args.slot.now c.args.triples.now) (quiet.same_bytes claim) in
          one_more log c.args.scanned.now c.loop-i.i (c.loop-i.invariant.followed claim) triple stands c.triple_home-home.result c.way_of-from.result.0 c.triple_home-home.ensures c.way_of-from.ensures.way
          (subst (λ (l : Log). IsFollowed l c.triple_home-home.result c.way_of-from.result.0) same (c.in_default.ensures.ok c.args.triples.now (quiet.premise.0 claim)));
    }

pub returns-clause-ok : goal.returns-clause-ok
returns-clause-ok g c = λ claim are.
    let log = log_in (g.D.Device.seen c.args.d.now) c.args.shape c.args.slot.now c.args.triples.now in
    let last = c.loop-i-test.false in
    let most = c.loop-i.auto.i-end in
    let at_end : c.loop-i.i ≡ length c.args.triples.now = omega (arith, last, most) in
    has_chains c.law_spellings_apart.ensures.records log c.requires.in_log c.args.scanned.now are
    (all_ways log (each_way log c.args.scanned.now are (subst (λ n. AreFollowed log c.args.scanned.now n) at_end (c.loop-i.invariant.followed claim))))

pub returns-in-Err-clause-reads : goal.returns-in-Err-clause-reads
returns-in-Err-clause-reads g c =
    more_reads g.D.Device.refuses g.D.Device.expects c.args.d.now c.loop-i.d c.follow.new.d c.loop-i.invariant.reads c.in-Err.ensures.reads
