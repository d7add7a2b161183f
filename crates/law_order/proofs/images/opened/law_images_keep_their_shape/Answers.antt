-- The law: nothing is written below the slots.
use Rattle.std.proofs.Common.{refl, sym, subst, arith, ◌∙◌}
use Rattle.law_opening.specs.Below.fkv_core.Openings.{beginning}
use Rattle.law_opening.specs.Below.fkv_newest.Newest.{HasShape}
use Rattle.law_commit.specs.Below.fkv_world.Runs.{World, run}
use Rattle.law_commit.specs.Below.law_world.Guarded.OpenedStore.{IsOpenedStore}
use Rattle.law_order.proofs.OfImages.Block.{slots_above}
use Rattle.law_order.proofs.OfImages.Untouched.{left_below, life_above}
use Rattle.law_order.proofs.OfImages.OpenedLong.{long_for}
use Rattle.law_order.proofs.images.opened.law_images_keep_their_shape.Goals as goal

pub returns : goal.returns
returns c = λ o n bytes events image store begins long left.
    let opening : World = beginning n bytes in
    let opened : IsOpenedStore opening o.tail.0 = c.law_guard_opens.ensures o n bytes begins in
    let its = store.newest in
    let told = store.checkpoint.newest in
    let reach = (long_for c.law_spellings_apart.ensures.shapes bytes its long told).slots in
    let above = life_above opening 512 events refl (slots_above opening events opened.now.keeper) in
    let same = left_below bytes 512 (run opening events).past.calls image 0 64 above left (omega arith) (omega (arith, reach)) in
    subst (HasShape image) (sym store.tells.shape) (told.block ∙ same)
