use Rattle.std.proofs.Common.{rules, ◌<◌, ◌^◌, ◌/◌, length, subst, arith}
use Rattle.std.specs.Map.{keys_of}
use Rattle.std.specs.Map.Iter.{deref_pair}
use Rattle.std.proofs.lemmas.Map.Entries.{length-keys_of}
use Rattle.std.proofs.lemmas.Map.Iter.{rest_more}
use Rattle.fkv_renewing.proofs.Counts.{AreCounting, left_with, count_few, count_in}
use Rattle.fkv_renewing.proofs.counting.count_homes.Goals as goal

pub overflow_add-index_mut : goal.overflow_add-index_mut
overflow_add-index_mut c =
    let homes = keys_of c.args.latest.now.entries in
    let left = left_with c.loop-home.home-iterator c.next.new.self c.in-Some.home.now c.in-Some.field-0-1.now (rest_more deref_pair _ _ _ (c.in-Some.home, c.in-Some.field-0-1) c.in-Some.is c.next.ensures.steps) in
    let so_far = subst (λ hs. AreCounting c.args.bits homes hs c.loop-home.counts.items) left c.loop-home.invariant in
    let low : c.in-Some.home.now / 32768 < length c.loop-home.counts.items = omega (arith, c.if-bucket-len.true, c.loop-home.counts.ok.0) in
    let few = count_few c.args.bits homes (keys_of c.next.new.self) c.loop-home.counts.items c.in-Some.home.now so_far low c.index_mut.result.now c.index_mut.ensures.value in
    let small : c.index_mut.result.now < 2 ^ 63 = omega (arith, few, length-keys_of c.args.latest.now.entries, c.into_iter-home-iterator.ensures.into_iter_gives.1) in
    search (rules, small)

pub loop-home-preserved-then-bucket-len : goal.loop-home-preserved-then-bucket-len
loop-home-preserved-then-bucket-len c =
    let homes = keys_of c.args.latest.now.entries in
    let left = left_with c.loop-home.home-iterator c.next.new.self c.in-Some.home.now c.in-Some.field-0-1.now (rest_more deref_pair _ _ _ (c.in-Some.home, c.in-Some.field-0-1) c.in-Some.is c.next.ensures.steps) in
    let so_far = subst (λ hs. AreCounting c.args.bits homes hs c.loop-home.counts.items) left c.loop-home.invariant in
    let low : c.in-Some.home.now / 32768 < length c.loop-home.counts.items = omega (arith, c.if-bucket-len.true, c.loop-home.counts.ok.0) in
    count_in c.args.bits homes (keys_of c.next.new.self) c.loop-home.counts.items c.in-Some.home.now so_far low c.index_mut.result.now c.index_mut.ensures.value
