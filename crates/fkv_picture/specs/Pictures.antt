-- The picture of a store.
use Rattle.std.specs.Prelude.{◌≡◌, ℕ, ◌-◌, ◌^◌, List, [], ◌∷◌, ◌++◌, codes, length}
use Rattle.fkv_looking.specs.declared.looks.StoreLook.{StoreLook}
use Rattle.fkv_picture.specs.declared.pictures.Picture.{Picture}
use Rattle.fkv_picture.specs.Gauges.{gauges_text}
use Rattle.fkv_picture.specs.Parts.{head_text, index_text, log_text}
use Rattle.fkv_picture.specs.SquareLayouts.{columns_bits, size_of, square_bits}
use Rattle.fkv_picture.specs.StripLayouts.{bars_a_strip, drawn_pages, pages_a_bar, width_of_bars}

-- A picture shows this store. Its strip is as wide as the pages need that are drawn, and its squares are as many as the buckets, or 1024.
pub record IsPictureOf (look : StoreLook) (picture : Picture) : Type 0 where
  pub shown : picture.look.now ≡ look
  pub drawn : picture.strip.drawn ≡ drawn_pages look.opened.shape.disk_pages (length look.pages.items)
  pub pages_a_bar : picture.strip.pages_a_bar ≡ pages_a_bar picture.strip.drawn
  pub bars : picture.strip.bars ≡ bars_a_strip picture.strip.drawn picture.strip.pages_a_bar
  pub width : picture.strip.width ≡ width_of_bars picture.strip.bars
  pub squares : picture.layout.squares ≡ 2 ^ square_bits look.opened.shape.bucket_bits
  pub buckets_a_square : picture.layout.buckets_a_square ≡ 2 ^ (look.opened.shape.bucket_bits - square_bits look.opened.shape.bucket_bits)
  pub columns : picture.layout.columns ≡ 2 ^ columns_bits (square_bits look.opened.shape.bucket_bits)
  pub size : picture.layout.size ≡ size_of picture.layout.columns

-- the text of a picture: whose commit it shows, how much of each capacity is used, the log, and the index
unfoldable pub picture_text : Picture → List ℕ
picture_text picture = let look = picture.look.now in
    let strip = picture.strip in
    let layout = picture.layout in
    head_text look.opened.number.0 look.opened.checkpoint.number.0
    ++ gauges_text look.uses
    ++ log_text strip.drawn strip.pages_a_bar strip.bars strip.width look.pages.items look.opened.shape.page look.opened.tail.0 look.opened.shape.disk_pages look.opened.checkpoint.first.0
    ++ index_text layout.squares layout.buckets_a_square layout.columns layout.size look.index.entries.items look.index.buckets.items
    ++ codes "</svg>" ++ 10 ∷ []
