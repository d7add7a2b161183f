-- A log is shorter than what an address can name, and a page is neither empty nor long.
use Rattle.std.proofs.Common.{ℕ, ◌*◌, ◌<◌, ◌≤◌, ◌^◌, arith}
use Rattle.std.proofs.Math.Nat.{mul-le-mul}
use Rattle.fkv_base.proofs.Shown.{ring_between}
use Rattle.fkv_base.specs.Limits.{min_page, max_page, max_disk_pages}
use Rattle.fkv_base.specs.declared.shapes.Shape.{Shape}

pub page_some : (s : Shape) → 1 ≤ s.page
page_some s = let least : min_page ≤ s.page = (ring_between s.page min_page max_page s.limits.page_size).0 in omega (arith, least)

pub page_short : (s : Shape) → s.page ≤ 65536
page_short s = (ring_between s.page min_page max_page s.limits.page_size).1

pub log_short : (s : Shape) (end : ℕ) → end ≤ s.disk_pages * s.page → end < 2 ^ 47
log_short s end on_disk =
    let page : s.page ≤ max_page = page_short s in
    let disk : s.disk_pages ≤ max_disk_pages = s.limits.few_disk in
    let most : s.disk_pages * s.page ≤ max_disk_pages * max_page = mul-le-mul disk page in
    omega (arith, on_disk, most)
