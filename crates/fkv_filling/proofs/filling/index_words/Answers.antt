use Rattle.std.proofs.Common.{◌≡◌, ◌+◌, ◌-◌, ◌++◌, length, ap, arith, subst, ◌∙◌}
use Rattle.std.specs.Prelude.{drop, take}
use Rattle.std.proofs.lemmas.List.{length-drop, take_all}
use Rattle.std.proofs.lemmas.List.Sorted.{length_permutation}
use Rattle.fkv_entries.specs.Room.{needed}
use Rattle.fkv_filling.specs.Filled.{AreByTag, first_link, first_words, other_links}
use Rattle.fkv_filling.proofs.Grouped.{going_step}
use Rattle.fkv_filling.proofs.filling.index_words.Goals as goal

pub loop-bucket-preserved : goal.loop-bucket-preserved
loop-bucket-preserved c =
    let going = c.loop-bucket in
    let grouped = c.in_ok-grouped.grouped.items in
    let sorted = c.in_ok-sorted.sorted in
    let view = c.deref.result.now in
    let rest : take (length view - going.next) (drop going.next view) ≡ drop going.next grouped = take_all _ (drop going.next view) (omega (arith, length-drop going.next view)) ∙ ap (drop going.next) c.deref.ensures.value in
    let by_tag : AreByTag (first_words going.bucket (drop going.next grouped)) sorted.items = subst (λ es. AreByTag (first_words going.bucket es) sorted.items) rest c.in_ok-sorted.ensures.ok in
    going_step going.bucket c.args.entries.now grouped going.words.items going.behind.items going.taken going.next sorted.items _ _ _ _ c.in_ok-grouped.ensures.ok going.invariant
    by_tag (length_permutation _ _ by_tag.same) c.in_ok-sorted.ensures.few
    (c.in_ok-push_link.ensures.ok ∙ ap (λ words. going.words.items ++ first_link words going.taken) c.deref-in-loop-bucket.ensures.value)
    (c.in_ok-push_other_links.ensures.ok ∙ ap (λ words. going.behind.items ++ other_links words going.taken) c.deref-in-loop-bucket-2.ensures.value)
    (ap (λ n. going.taken + n) (c.needed-taken.ensures ∙ ap needed (c.len.ensures ∙ sorted.ok.0)))
    (ap (λ n. going.next + n) (c.len-next.ensures ∙ sorted.ok.0))
