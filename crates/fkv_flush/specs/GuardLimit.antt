-- Where the limit may stand.
use Rattle.std.specs.Prelude.{◌≡◌, ℕ, ◌*◌, ◌≤◌}
use Rattle.fkv_base.specs.declared.shapes.Shape.{Shape}

-- It is the end of so many whole pages, and the device has as many.
pub record EndsPages (shape : Shape) (limit : ℕ) : Type 0 where
  pub pages : ℕ
  pub whole : limit ≡ pages * shape.page
  pub on_device : pages ≤ shape.disk_pages
