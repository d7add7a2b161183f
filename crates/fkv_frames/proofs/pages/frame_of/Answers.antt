-- A remainder by a power of two is a mask.
use Rattle.std.proofs.Common.{◌≡◌, ◌-◌, ap, refl, bit_and}
use Rattle.fkv_base.proofs.Shown.{remainder_is_mask, ring_size_is_power, powers_multiply}
use Rattle.fkv_frames.proofs.pages.frame_of.Goals as goal

pub returns : goal.returns
returns c = rw (ap (λ page. bit_and page (c.args.shape.now.frames - 1)) c.page_of.ensures) (remainder_is_mask _ _ (ring_size_is_power _ _ _ c.args.shape.now.limits.ring_size))
