-- A remainder by a power of two is a mask.
use Rattle.std.proofs.Common.{◌≡◌, ◌-◌, ap, refl, bit_and}
use Rattle.fkv_base.proofs.Shown.{remainder_is_mask, ring_size_is_power, powers_multiply}
use Rattle.fkv_frames.proofs.pages.place_of.Goals as goal

pub returns : goal.returns
returns c = rw (remainder_is_mask c.args.addr.0 _ (powers_multiply _ _ (ring_size_is_power _ _ _ c.args.shape.now.limits.ring_size) (ring_size_is_power _ _ _ c.args.shape.now.limits.page_size))) refl
