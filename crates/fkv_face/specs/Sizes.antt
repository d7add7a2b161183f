-- Sizes of a store, and what its image has told.
use Rattle.std.specs.Prelude.{◌≡◌, ◌+◌, ℕ, Bool}
use Rattle.fkv_base.specs.Limits.{is_shape, margin_buckets, overflow_within}
use Rattle.fkv_base.specs.declared.classes.StoreClass.TheVariants.{Living}
use Rattle.fkv_base.specs.declared.faults.Damage.{Damage}
use Rattle.fkv_base.specs.declared.faults.Damage.TheVariants as damage
use Rattle.fkv_base.specs.declared.faults.Fault.{Fault}
use Rattle.fkv_base.specs.declared.faults.Fault.TheVariants.{Damaged}
use Rattle.fkv_base.specs.declared.shapes.Shape.{Shape}
use Rattle.fkv_face.specs.declared.sizes.Image.{Image}
use Rattle.fkv_face.specs.declared.sizes.Sizes.{Sizes}
use Rattle.fkv_handles.specs.declared.stores.Recovered.{Recovered}
pub use Rattle.fkv_base.specs.declared.faults.Fault.TheVariants.{BadShape}
pub use Rattle.fkv_face.specs.Points.{ArePoints}
pub use Rattle.std.specs.Prelude.{Err, IfOk, OnErr, is_ok}

-- the shape has these sizes
pub record HasSizes (sizes : Sizes) (shape : Shape) : Type 0 where
  pub bucket_bits : shape.bucket_bits ≡ sizes.bucket_bits
  pub page : shape.page ≡ sizes.page
  pub frames : shape.frames ≡ sizes.frames
  pub mutable : shape.mutable ≡ sizes.mutable_pages
  pub sessions : shape.sessions ≡ sizes.sessions
  pub overflow : shape.overflow ≡ sizes.overflow
  pub disk_pages : shape.disk_pages ≡ sizes.disk_pages

-- it is the shape of a living store, and has these sizes
pub record IsLivingOf (sizes : Sizes) (shape : Shape) : Type 0 where
  pub class : shape.class ≡ Living
  pub its_sizes : HasSizes sizes shape

-- these sizes, with the margin that a living store's calls leave to its polls on top of the overflow buckets
abbrev pub with_margin : Sizes → Sizes
with_margin s = record s { overflow = overflow_within (s.overflow + margin_buckets Living s.sessions) }

-- a living store may have these sizes
abbrev pub are_sizes : Sizes → Bool
are_sizes s = is_shape s.bucket_bits s.page s.frames s.mutable_pages s.sessions s.overflow s.disk_pages

abbrev pub damage_number : Damage → ℕ
damage_number damage.Manifest = 1
damage_number damage.Triple = 2
damage_number damage.Record = 3
damage_number damage.Link = 4
damage_number damage.Full = 5

-- with the last commit's number, and how many homes have an entry
abbrev pub told_of : Recovered → Image → Image
told_of recovered image = record image { number = recovered.number.0; entries = recovered.entries }

-- with the part that is damaged, where that is the fault
abbrev pub damaged_by : Fault → Image → Image
damaged_by (Damaged part place) image = record image { damage = damage_number part; place = place }
damaged_by other image = image
