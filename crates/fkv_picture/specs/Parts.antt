-- The parts of a picture, each with its heading.
use Rattle.std.specs.Prelude.{ℕ, List, [], ◌∷◌, ◌++◌, codes, length}
use Rattle.std.specs.Fmt.{decimal}
use Rattle.fkv_looking.specs.declared.page_looks.PageLook.{PageLook}
use Rattle.fkv_picture.specs.declared.stills.Still.TheVariants.{Opening, LogLegend, IndexLegend}
use Rattle.fkv_picture.specs.Marks.{end_text, mark_x, start_text}
use Rattle.fkv_picture.specs.Rows.{rows_text}
use Rattle.fkv_picture.specs.Squares.{squares_text}
use Rattle.fkv_picture.specs.Stills.{still_text}
use Rattle.fkv_picture.specs.Strips.{strip_text}

unfoldable pub head_text : ℕ → ℕ → List ℕ
head_text number checkpoint = still_text Opening ++ codes "<text class='head' x='40' y='48'>Commit " ++ decimal number ++ codes ", with the checkpoint of commit " ++ decimal checkpoint ++ codes "</text>" ++ 10 ∷ []

unfoldable pub drawn_words : ℕ → ℕ → List ℕ
drawn_words drawn a_bar = decimal drawn ++ codes " drawn, " ++ decimal a_bar ++ codes " to a bar"

unfoldable pub in_use_words : ℕ → ℕ → List ℕ
in_use_words pages all = decimal pages ++ codes " of " ++ decimal all ++ codes " pages in use"

-- how much of the log is in use, and how much of it a bar stands for
unfoldable pub log_caption : ℕ → ℕ → ℕ → ℕ → List ℕ
log_caption used on_device drawn a_bar = codes "<text class='part' x='40' y='142'>Log: " ++ in_use_words used on_device ++ codes ", " ++ drawn_words drawn a_bar ++ codes "</text>"

-- the log: its heading, its legend, where the scan begins, the bars, and where the log ends
unfoldable pub log_text : ℕ → ℕ → ℕ → ℕ → List PageLook → ℕ → ℕ → ℕ → ℕ → List ℕ
log_text drawn a_bar bars width pages size tail on_device first =
    log_caption (length pages) on_device drawn a_bar
    ++ still_text LogLegend
    ++ start_text (mark_x a_bar bars width size first) first
    ++ strip_text drawn a_bar bars width pages size tail
    ++ end_text (mark_x a_bar bars width size tail) tail

-- how many buckets there are, and how many of them a square stands for
unfoldable pub index_caption : ℕ → ℕ → List ℕ
index_caption buckets a_square =
    codes "<text class='part' x='40' y='432'>Index: " ++ decimal buckets ++ codes " buckets, " ++ decimal a_square ++ codes " to a square</text><text class='part' x='740' y='432'>Buckets by their entries</text>" ++ 10 ∷ []

-- the index: its heading, the squares, their legend, and how many buckets have each number of entries
unfoldable pub index_text : ℕ → ℕ → ℕ → ℕ → List ℕ → List ℕ → List ℕ
index_text squares a_square columns size entries buckets =
    index_caption (length entries) a_square ++ squares_text squares a_square columns size entries ++ still_text IndexLegend ++ rows_text buckets
