-- The image of a living store of these sizes, and of its margin, is put into the room.
use Rattle.std.proofs.Common.{◌≡◌, ◌+◌, ◌∙◌, ap, inr, true≢false}
use Rattle.fkv_base.specs.Limits.{margin_buckets, overflow_within}
use Rattle.fkv_base.specs.declared.classes.StoreClass.{StoreClass}
use Rattle.fkv_base.specs.declared.classes.StoreClass.TheVariants.{Living}
use Rattle.fkv_face.specs.Sizes.{IsLivingOf, with_margin}
use Rattle.fkv_face.proofs.Results.{put_at}
use Rattle.fkv_face.proofs.stores.fkv_image.Goals as goal

pub returns-in-Ok-image_of : goal.returns-in-Ok-image_of
returns-in-Ok-image_of c =
    let its = c.in-Ok.ensures.living in
    let made = c.with_margin.ensures in
    let living : IsLivingOf (with_margin c.args.sizes.now) c.with_margin.result = record {
      class = made.class ∙ its.class;
      its_sizes = record {
        bucket_bits = made.bucket_bits ∙ its.its_sizes.bucket_bits;
        page = made.page ∙ its.its_sizes.page;
        frames = made.frames ∙ its.its_sizes.frames;
        mutable = made.mutable ∙ its.its_sizes.mutable;
        sessions = made.sessions ∙ its.its_sizes.sessions;
        overflow = made.overflow ∙ (λ i. overflow_within (its.its_sizes.overflow i + margin_buckets (its.class i) (its.its_sizes.sessions i)));
        disk_pages = made.disk_pages ∙ its.its_sizes.disk_pages;
      };
    } in
    record {
      bad = λ no. absurd (true≢false (c.in-Ok.ensures.tested ∙ no));
      good = λ _. inr (c.with_margin.result, living, put_at _ _ c.put.result _ _ (c.deref.ensures.value ∙ c.in-Ok-image_of.ensures.bytes) c.put.ensures);
    }
