-- The addresses whose records the frames hold, and what holds of their places.
use Rattle.std.specs.Prelude.{◌≡◌, ◌↔◌, ℕ, ◌+◌, ◌*◌, ◌%◌, ◌<◌, ◌≤◌}
use Rattle.fkv_base.specs.declared.shapes.Shape.{Shape}
use Rattle.fkv_frames.specs.Pages.{ring_of, page_of, frame_of, place_of}

-- Open below a limit are the last addresses before it, as many as all frames hold.
pub record IsOpen (shape : Shape) (limit addr : ℕ) : Type 0 where
  pub below : addr < limit
  pub within : limit ≤ addr + ring_of shape

-- No word of the frames is of two open addresses, and none is two words of one.
abbrev pub AreOpenPlacesApart : Type 0
AreOpenPlacesApart = (shape : Shape) (limit a b v w : ℕ) → IsOpen shape limit a → IsOpen shape limit b → v < 3 → w < 3
    → place_of shape a + v ≡ place_of shape b + w → (a ≡ b) × (v ≡ w)

-- Each place of the frames is of an open address, once the log is as long as that.
abbrev pub HaveOpenAddresses : Type 0
HaveOpenAddresses = (shape : Shape) (limit index : ℕ) → index < ring_of shape → index < limit
    → (addr : ℕ) × IsOpen shape limit addr × (place_of shape addr ≡ 3 * index)

-- Below a limit at the start of a page the open addresses are those of the last pages, one for each frame.
abbrev pub AreOpenByPages : Type 0
AreOpenByPages = (shape : Shape) (page addr : ℕ) → IsOpen shape (page * shape.page) addr ↔ ((page_of shape addr < page) × (page ≤ page_of shape addr + shape.frames))

-- A record lies in its frame as the address lies in its page.
abbrev pub ArePlacesInFrames : Type 0
ArePlacesInFrames = (shape : Shape) (addr : ℕ) → place_of shape addr ≡ 3 * (frame_of shape addr * shape.page + addr % shape.page)
