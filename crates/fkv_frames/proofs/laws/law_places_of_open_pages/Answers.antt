-- Places of open addresses.
use Rattle.std.proofs.Common.{◌≡◌, ◌*◌, ◌%◌, ◌<◌, arith, ap}
use Rattle.fkv_frames.specs.Pages.{ring_of}
use Rattle.fkv_frames.proofs.Open.{same_place, last_of, last_place, page_below, page_within}
use Rattle.fkv_base.specs.Limits.{min_page, max_page, min_frames, max_frames}
use Rattle.fkv_base.proofs.Shown.{ring_between}
use Rattle.fkv_frames.proofs.laws.law_places_of_open_pages.Goals as goal

pub returns-clause-apart : goal.returns-clause-apart
returns-clause-apart c = λ shape limit a b v w open_a open_b small_v small_w e.
    let ring = ring_of shape in
    let same : a % ring ≡ b % ring = omega (arith, e, small_v, small_w) in
    (same_place ring limit a b open_a.below open_a.within open_b.below open_b.within same, omega (arith, e, small_v, small_w))

pub returns-clause-each : goal.returns-clause-each
returns-clause-each c = λ shape limit index small below.
    let last = last_place (ring_of shape) limit index small below in
    (last_of (ring_of shape) limit index, record { below = last.0; within = last.1 }, ap (λ x. 3 * x) last.2)

pub returns-clause-pages : goal.returns-clause-pages
returns-clause-pages c = λ shape page addr.
    let least = (ring_between shape.page min_page max_page shape.limits.page_size).0 in
    let some : 0 < shape.page = omega (arith, least) in
    let low = page_below shape.page page addr some in
    let high = page_within shape.page shape.frames page addr some in
    (λ here. (low.1 here.below, high.1 here.within), λ last. record { below = low.0 last.0; within = high.0 last.1 })
