use Rattle.std.proofs.Common.{◌≡◌, rules, ◌^◌, ◌<◌, get_or, length, subst, sym}
use Rattle.fkv_looking.specs.Buckets.{bucket_of}
use Rattle.fkv_looking.proofs.Tallies.{tally_few, tally_more}
use Rattle.fkv_looking.proofs.index_looks.entries_by_bucket.Goals as goal

pub overflow_add-index_mut : goal.overflow_add-index_mut
overflow_add-index_mut c =
    let opened = c.args.opened.now in
    let items = opened.entries.items in
    let i = c.loop-entry.entry-index in
    let x = c.entry-item.result in
    let same = c.deref-entry-items.ensures.value in
    let here : i < length items = subst (λ xs. i < length xs) same c.loop-entry-test.true in
    let next : x ≡ get_or items i x = subst (λ xs. x ≡ get_or xs i x) same c.entry-item.is in
    let low : x.bucket < 2 ^ opened.shape.bucket_bits = subst (λ y. y.bucket < 2 ^ opened.shape.bucket_bits) (sym next) (opened.room.homes.there i x here) in
    let few = tally_few bucket_of (2 ^ opened.shape.bucket_bits) items i x c.loop-entry.counts.items c.index_mut.result.now here next low c.index_mut.ensures.value c.loop-entry.invariant in
    let short = opened.entries.ok.0 in
    search (rules, few)

pub loop-entry-preserved : goal.loop-entry-preserved
loop-entry-preserved c =
    let opened = c.args.opened.now in
    let items = opened.entries.items in
    let i = c.loop-entry.entry-index in
    let x = c.entry-item.result in
    let same = c.deref-entry-items.ensures.value in
    let here : i < length items = subst (λ xs. i < length xs) same c.loop-entry-test.true in
    let next : x ≡ get_or items i x = subst (λ xs. x ≡ get_or xs i x) same c.entry-item.is in
    let low : x.bucket < 2 ^ opened.shape.bucket_bits = subst (λ y. y.bucket < 2 ^ opened.shape.bucket_bits) (sym next) (opened.room.homes.there i x here) in
    tally_more bucket_of (2 ^ opened.shape.bucket_bits) items i x c.loop-entry.counts.items c.index_mut.result.now here next low c.index_mut.ensures.value c.loop-entry.invariant
