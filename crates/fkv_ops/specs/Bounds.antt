-- What the calls of a living store leave to its polls: an update at its call has bounds there, and nothing else has.
use Rattle.std.specs.Prelude.{ℕ, ◌-◌, ◌*◌, ◌&&◌, not, nat_le, Bool, true, false, Option, Some, None, ⊤}
use Rattle.fkv_base.specs.declared.classes.StoreClass.{StoreClass}
use Rattle.fkv_base.specs.declared.classes.StoreClass.TheVariants.{Specified, Living}
use Rattle.fkv_base.specs.declared.shapes.Shape.{Shape}
use Rattle.fkv_base.specs.Limits.{margin_buckets, margin_records}
use Rattle.fkv_ops.specs.declared.bounds.Bounds.{Bounds}
use Rattle.fkv_ops.specs.declared.requests.Occasion.{Occasion}
use Rattle.fkv_ops.specs.declared.requests.Occasion.TheVariants.{Call, Poll}

-- all but the margin of the overflow buckets, and of the addresses
abbrev pub bounds_for : StoreClass → Shape → Option Bounds
bounds_for Specified shape = None
bounds_for Living shape = Some (record { taken = shape.overflow - margin_buckets Living shape.sessions; tail = shape.disk_pages * shape.page - margin_records Living shape.sessions })

-- those of a store's calls
abbrev pub bounds_of : Shape → Option Bounds
bounds_of shape = bounds_for shape.class shape

abbrev pub bounds_at : Occasion → Option Bounds
bounds_at (Call bounds) = bounds
bounds_at Poll = None

abbrev pub IsCall : Occasion → Type 0
IsCall (Call bounds) = ⊤
IsCall Poll = ⊥

abbrev pub has_bounds : Option Bounds → Bool
has_bounds None = false
has_bounds (Some bounds) = true

abbrev pub tail_bound : Option Bounds → Option ℕ
tail_bound None = None
tail_bound (Some bounds) = Some bounds.tail

-- a count, or a tail, at which no more than the margin is left
abbrev pub is_past_taken : Option Bounds → ℕ → Bool
is_past_taken None taken = false
is_past_taken (Some bounds) taken = nat_le bounds.taken taken

abbrev pub is_past_tail : Option Bounds → ℕ → Bool
is_past_tail None tail = false
is_past_tail (Some bounds) tail = nat_le bounds.tail tail
