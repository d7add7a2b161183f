-- Pages, frames and places of addresses.
use Rattle.std.specs.Prelude.{ℕ, ◌*◌, ◌/◌, ◌%◌}
use Rattle.fkv_base.specs.declared.shapes.Shape.{Shape}

-- how many records all frames hold together
abbrev pub ring_of : Shape → ℕ
ring_of shape = shape.frames * shape.page

-- the page of an address
abbrev pub page_of : Shape → ℕ → ℕ
page_of shape addr = addr / shape.page

-- pages take the frames in turn
abbrev pub frame_of : Shape → ℕ → ℕ
frame_of shape addr = page_of shape addr % shape.frames

-- a record has three words
abbrev pub place_of : Shape → ℕ → ℕ
place_of shape addr = 3 * (addr % ring_of shape)
