-- How much of each capacity is used, as bars.
use Rattle.std.specs.Prelude.{ℕ, List, [], ◌∷◌, ◌++◌, codes}
use Rattle.std.specs.Fmt.{decimal}
use Rattle.fkv_looking.specs.declared.uses.Capacity.{Capacity}
use Rattle.fkv_looking.specs.declared.uses.Uses.{Uses}
use Rattle.fkv_picture.specs.Bars.{bar_text}
use Rattle.fkv_picture.specs.Shares.{share}

-- a capacity in words
unfoldable pub gauge_words : List ℕ → ℕ → Capacity → List ℕ
gauge_words name x capacity = codes "<text x='" ++ decimal x ++ codes "' y='84'>" ++ name ++ codes " " ++ decimal capacity.used ++ codes " of " ++ decimal capacity.most ++ codes "</text>"

-- the words, and below them a bar that is filled as far as the capacity is used
unfoldable pub gauge_text : List ℕ → ℕ → Capacity → List ℕ
gauge_text name x capacity = gauge_words name x capacity ++ bar_text (codes "free") x 92 250 10 ++ bar_text (codes "used") x 92 (share capacity.used capacity.most 250) 10 ++ 10 ∷ []

-- all four, side by side
unfoldable pub gauges_text : Uses → List ℕ
gauges_text uses =
    gauge_text (codes "entries") 40 uses.entries
    ++ gauge_text (codes "records") 330 uses.records
    ++ gauge_text (codes "commits") 620 uses.commits
    ++ gauge_text (codes "sessions") 910 uses.sessions
