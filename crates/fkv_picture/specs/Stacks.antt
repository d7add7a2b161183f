-- A bar of the strip: how much of each kind its pages hold, one above the other.
use Rattle.std.specs.Prelude.{ℕ, ◌+◌, ◌-◌, min, List, [], ◌∷◌, ◌++◌, codes}
use Rattle.std.specs.Fmt.{decimal}
use Rattle.fkv_picture.specs.declared.columns.Column.{Column}
use Rattle.fkv_picture.specs.Bars.{bar_text}
use Rattle.fkv_picture.specs.Shares.{share}

unfoldable pub counts_words : Column → List ℕ
counts_words column = codes " valid " ++ decimal column.valid ++ codes " invalid " ++ decimal column.invalid ++ codes " lost " ++ decimal column.lost

unfoldable pub more_counts_words : Column → List ℕ
more_counts_words column = codes " newer " ++ decimal column.newer ++ codes " none " ++ decimal column.no_record ++ codes " free " ++ decimal column.free

-- a column in words
unfoldable pub title_text : Column → List ℕ
title_text column = codes "<title>pages from " ++ decimal column.first ++ codes " to " ++ decimal column.end ++ counts_words column ++ more_counts_words column ++ codes "</title>"

-- how tall a part is
abbrev pub height : ℕ → Column → ℕ
height count column = share count column.room 160

-- how tall all but that of the valid records are together
abbrev pub other_heights : Column → ℕ
other_heights column = height column.lost column + height column.invalid column + height column.newer column + height column.no_record column

-- that of the valid records leaves the others their place
abbrev pub valid_height : Column → ℕ
valid_height column = min (height column.valid column) (160 - other_heights column)

-- the parts of a bar, from above, over one as tall as all
unfoldable pub bars_text : Column → ℕ → ℕ → List ℕ
bars_text column x width = let lost_y = 204 + valid_height column in
    let invalid_y = lost_y + height column.lost column in
    let newer_y = invalid_y + height column.invalid column in
    let none_y = newer_y + height column.newer column in
    bar_text (codes "free") x 204 width 160
    ++ bar_text (codes "valid") x 204 width (valid_height column)
    ++ bar_text (codes "lost") x lost_y width (height column.lost column)
    ++ bar_text (codes "invalid") x invalid_y width (height column.invalid column)
    ++ bar_text (codes "newer") x newer_y width (height column.newer column)
    ++ bar_text (codes "none") x none_y width (height column.no_record column)

-- a bar of the strip, with its column in words
unfoldable pub stack_text : Column → ℕ → ℕ → List ℕ
stack_text column x width = codes "<g>" ++ title_text column ++ bars_text column x width ++ codes "</g>" ++ 10 ∷ []
