use Rattle.std.proofs.Common.{rules, ◌≡◌, ◌<◌, ◌^◌, ◌/◌, true, [], length, refl, sym, subst, ◌∙◌, arith}
use Rattle.std.specs.Map.Iter.{deref_pair}
use Rattle.std.proofs.lemmas.Map.Iter.{rest_more, rest_all}
use Rattle.fkv_room.specs.Counted.{has_entry, homes_of}
use Rattle.fkv_room.proofs.Counts.{AreCounting, left_with, count_few, count_in, all_counted}
use Rattle.fkv_room.proofs.Listing.{few_listed}
use Rattle.fkv_room.proofs.counting.count_homes.Goals as goal

pub overflow_add-index_mut : goal.overflow_add-index_mut
overflow_add-index_mut c =
    let homes = homes_of c.args.homes.now.entries in
    let has : has_entry c.in-Some.known.now ≡ true = sym c.has_entry.ensures ∙ c.if-has_entry.true in
    let left = left_with c.loop-home.home-iterator c.next.new.self c.in-Some.home.now c.in-Some.known.now (rest_more deref_pair _ _ _ (c.in-Some.home, c.in-Some.known) c.in-Some.is c.next.ensures.steps) has in
    let so_far = subst (λ hs. AreCounting c.args.bits homes hs c.loop-home.counts.items) left c.loop-home.invariant in
    let low : c.in-Some.home.now / 32768 < length c.loop-home.counts.items = omega (arith, c.if-bucket-len.true, c.loop-home.counts.ok.0) in
    let few = count_few c.args.bits homes (homes_of c.next.new.self) c.loop-home.counts.items c.in-Some.home.now (c.in-Some.home.now / 32768) so_far refl low c.index_mut.result.now c.index_mut.ensures.value in
    let small : c.index_mut.result.now < 2 ^ 63 = omega (arith, few, few_listed c.args.homes.now.entries, c.into_iter-home-iterator.ensures.into_iter_gives.1) in
    search (rules, small)

pub loop-home-preserved-then-bucket-len : goal.loop-home-preserved-then-bucket-len
loop-home-preserved-then-bucket-len c =
    let homes = homes_of c.args.homes.now.entries in
    let has : has_entry c.in-Some.known.now ≡ true = sym c.has_entry.ensures ∙ c.if-has_entry.true in
    let left = left_with c.loop-home.home-iterator c.next.new.self c.in-Some.home.now c.in-Some.known.now (rest_more deref_pair _ _ _ (c.in-Some.home, c.in-Some.known) c.in-Some.is c.next.ensures.steps) has in
    let so_far = subst (λ hs. AreCounting c.args.bits homes hs c.loop-home.counts.items) left c.loop-home.invariant in
    let low : c.in-Some.home.now / 32768 < length c.loop-home.counts.items = omega (arith, c.if-bucket-len.true, c.loop-home.counts.ok.0) in
    count_in c.args.bits homes (homes_of c.next.new.self) c.loop-home.counts.items c.in-Some.home.now (c.in-Some.home.now / 32768) so_far refl low c.index_mut.result.now c.index_mut.ensures.value

pub returns-clause-ok : goal.returns-clause-ok
returns-clause-ok c =
    let homes = homes_of c.args.homes.now.entries in
    let none : c.loop-home.home-iterator ≡ [] = rest_all deref_pair _ _ _ c.in-None.is c.next.ensures.steps in
    let none_left : homes_of c.loop-home.home-iterator ≡ [] = subst (λ es. homes_of es ≡ []) (sym none) refl in
    record {
      each_bucket = c.loop-home.invariant.each_bucket;
      counted = all_counted c.args.bits homes (homes_of c.loop-home.home-iterator) c.loop-home.counts.items c.loop-home.invariant none_left;
      few = omega (arith, few_listed c.args.homes.now.entries, c.into_iter-home-iterator.ensures.into_iter_gives.1);
    }
