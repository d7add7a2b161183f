-- From where on memory has the records.
use Rattle.std.proofs.Common.{◌≡◌, ◌∙◌, ap, sym, ℕ, ◌+◌, ◌-◌, ◌*◌, ◌/◌, ◌≤◌, arith}
use Rattle.std.specs.Prelude.{max, min}
use Rattle.fkv_base.specs.declared.numbers.Addr.{Addr}
use Rattle.fkv_base.specs.declared.shapes.Shape.{Shape}
use Rattle.fkv_opening.specs.Opening.{opening_limit}
use Rattle.fkv_opening.specs.declared.opened_store.Opened.{Opened}
use Rattle.fkv_warming.specs.Warmed.{IsSameStore, warm_from}

pub from_some : (o : Opened) (most : ℕ) → 1 ≤ warm_from o most
from_some o most = let some = o.some_begin in omega (arith, some)

pub from_begin : (o : Opened) (most : ℕ) → o.begin.0 ≤ warm_from o most
from_begin o most = omega arith

pub from_in_log : (o : Opened) (most : ℕ) → warm_from o most ≤ o.tail.0
from_in_log o most = let ring = o.warm_in_ring in let log = o.warm_in_log in let begin = o.begin_before_scan in let scan = o.upwards in omega (arith, ring, log, begin, scan)

pub from_in_ring : (o : Opened) (most : ℕ) → opening_limit o ≤ warm_from o most + o.shape.frames * o.shape.page
from_in_ring o most = omega arith

-- a store that is the same but for what memory has begins where it did
abbrev from_of : Shape → Addr → Addr → ℕ → ℕ
from_of its_shape begin tail most = max (max (min (tail.0 / its_shape.page + 2) its_shape.disk_pages * its_shape.page - its_shape.frames * its_shape.page) (tail.0 - most)) begin.0

pub from_same : (o warmed : Opened) (most : ℕ) → IsSameStore o warmed → warm_from o most ≡ warm_from warmed most
from_same o warmed most same =
    ap (λ (its_shape : Shape). from_of its_shape o.begin o.tail most) (sym same.shape)
    ∙ ap (λ (begin : Addr). from_of warmed.shape begin o.tail most) (sym same.begin)
    ∙ ap (λ (tail : Addr). from_of warmed.shape warmed.begin tail most) (sym same.tail)
