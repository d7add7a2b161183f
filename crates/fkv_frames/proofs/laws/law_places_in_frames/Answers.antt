-- Places by frames.
use Rattle.std.proofs.Common.{◌*◌, arith, ap}
use Rattle.fkv_frames.proofs.Open.{ring_by_frames}
use Rattle.fkv_base.specs.Limits.{min_page, max_page, min_frames, max_frames}
use Rattle.fkv_base.proofs.Shown.{ring_between}
use Rattle.fkv_frames.proofs.laws.law_places_in_frames.Goals as goal

pub returns : goal.returns
returns c = λ shape addr.
    let least = (ring_between shape.page min_page max_page shape.limits.page_size).0 in
    let few = (ring_between shape.frames min_frames max_frames shape.limits.ring_size).0 in
    ap (λ x. 3 * x) (ring_by_frames shape.frames shape.page addr (omega (arith, few)) (omega (arith, least)))
