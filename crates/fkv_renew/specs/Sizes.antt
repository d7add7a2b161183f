-- Which shape has which sizes.
use Rattle.std.specs.Prelude.{◌≡◌}
use Rattle.fkv_base.specs.Limits.{IsShape, IsSmall, IsOfClass}
use Rattle.fkv_base.specs.declared.shapes.Shape.{Shape}
use Rattle.fkv_lines.specs.declared.scripts.Sizes.{Sizes}

-- a store of their class may have these sizes
abbrev pub AreSizes : Sizes → Type 0
AreSizes sizes =
    IsShape sizes.bucket_bits sizes.page sizes.frames sizes.mutable sizes.sessions sizes.overflow sizes.disk_pages
    × IsOfClass sizes.class (IsSmall sizes.bucket_bits sizes.page sizes.frames sizes.overflow sizes.disk_pages)

-- The shape of these sizes, where a store of their class may have them.
pub record HasSizes (sizes : Sizes) (shape : Shape) : Type 0 where
  pub of_its_class : AreSizes sizes
  pub class : shape.class ≡ sizes.class
  pub bucket_bits : shape.bucket_bits ≡ sizes.bucket_bits
  pub page : shape.page ≡ sizes.page
  pub frames : shape.frames ≡ sizes.frames
  pub mutable : shape.mutable ≡ sizes.mutable
  pub sessions : shape.sessions ≡ sizes.sessions
  pub overflow : shape.overflow ≡ sizes.overflow
  pub disk_pages : shape.disk_pages ≡ sizes.disk_pages
