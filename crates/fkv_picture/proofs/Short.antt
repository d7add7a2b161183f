-- A page is not long.
use Rattle.std.proofs.Common.{◌≤◌}
use Rattle.fkv_base.proofs.Shown.{ring_between}
use Rattle.fkv_base.specs.Limits.{min_page, max_page}
use Rattle.fkv_base.specs.declared.shapes.Shape.{Shape}

pub page_short : (s : Shape) → s.page ≤ 65536
page_short s = (ring_between s.page min_page max_page s.limits.page_size).1
