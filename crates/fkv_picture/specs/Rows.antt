-- How many buckets have each number of entries, as bars one below the other.
use Rattle.std.specs.Prelude.{ℕ, ◌+◌, ◌*◌, min, nat_lt, if◌then◌else◌, List, [], ◌∷◌, ◌++◌, codes, drop, length, slice_index}
use Rattle.std.specs.Fmt.{decimal}
use Rattle.fkv_picture.specs.Bars.{bar_text}
use Rattle.fkv_picture.specs.Each.{each_below}
use Rattle.fkv_picture.specs.Shares.{share, total}

-- what stands behind the number of entries in the last row
abbrev pub sign_of : ℕ → List ℕ
sign_of entries = if nat_lt entries 15 then [] else codes "+"

unfoldable pub label_text : ℕ → ℕ → List ℕ
label_text entries y = codes "<text class='right' x='790' y='" ++ decimal y ++ codes "'>" ++ decimal entries ++ sign_of entries ++ codes "</text>"

unfoldable pub number_text : ℕ → ℕ → ℕ → List ℕ
number_text buckets x y = codes "<text x='" ++ decimal x ++ codes "' y='" ++ decimal y ++ codes "'>" ++ decimal buckets ++ codes "</text>"

-- a number of entries, a bar as long as the share of the buckets that have so many, and how many these are
unfoldable pub row_text : ℕ → ℕ → ℕ → ℕ → List ℕ
row_text entries buckets all y = label_text entries (y + 11) ++ bar_text (codes "used") 800 y (share buckets all 240) 12 ++ number_text buckets (808 + share buckets all 240) (y + 11) ++ 10 ∷ []

-- how many buckets have so many entries; in the last row so many or more
unfoldable pub count_at : List ℕ → ℕ → ℕ
count_at buckets entries = if nat_lt entries 15 then slice_index buckets entries else total (drop 15 buckets)

abbrev pub row_text_at : List ℕ → ℕ → List ℕ
row_text_at buckets entries = row_text entries (count_at buckets entries) (total buckets) (446 + 15 * entries)

-- all rows, in their order: at most 16
unfoldable pub rows_text : List ℕ → List ℕ
rows_text buckets = each_below (row_text_at buckets) (min (length buckets) 16)
