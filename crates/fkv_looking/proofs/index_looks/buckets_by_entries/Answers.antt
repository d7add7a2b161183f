use Rattle.std.proofs.Common.{rules, arith, ◌+◌, get_or}
use Rattle.std.proofs.lemmas.List.{get_or_default}
use Rattle.fkv_looking.specs.Buckets.{greatest, itself}
use Rattle.fkv_looking.proofs.Tallies.{none_above, tally_few, tally_more}
use Rattle.fkv_looking.proofs.index_looks.buckets_by_entries.Goals as goal

pub index_mut-requires : goal.index_mut-requires
index_mut-requires c =
    let low = none_above c.args.entries.now c.loop-number.number-index c.loop-number-test.true in
    let many = c.loop-number.invariant.many in
    omega (arith, low, many, c.loop-number.counts.ok.0)

pub overflow_add-index_mut : goal.overflow_add-index_mut
overflow_add-index_mut c =
    let items = c.args.entries.now in
    let i = c.loop-number.number-index in
    let low = none_above items i c.loop-number-test.true in
    let few = tally_few itself (greatest items + 1) items i (get_or items i 0) c.loop-number.counts.items c.index_mut.result.now c.loop-number-test.true
    (get_or_default items i 0 (get_or items i 0) c.loop-number-test.true) (omega (arith, low)) c.index_mut.ensures.value c.loop-number.invariant in
    search (rules, few)

pub loop-number-preserved : goal.loop-number-preserved
loop-number-preserved c =
    let items = c.args.entries.now in
    let i = c.loop-number.number-index in
    let low = none_above items i c.loop-number-test.true in
    tally_more itself (greatest items + 1) items i (get_or items i 0) c.loop-number.counts.items c.index_mut.result.now c.loop-number-test.true
    (get_or_default items i 0 (get_or items i 0) c.loop-number-test.true) (omega (arith, low)) c.index_mut.ensures.value c.loop-number.invariant
