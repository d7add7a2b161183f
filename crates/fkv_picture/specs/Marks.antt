-- Where the scan of a commit begins, and where its log ends.
use Rattle.std.specs.Prelude.{ℕ, ◌+◌, ◌*◌, ◌/◌, ◌%◌, max, min, nat_lt, if◌then◌else◌, List, [], ◌∷◌, ◌++◌, codes}
use Rattle.std.specs.Fmt.{decimal}
use Rattle.fkv_picture.specs.declared.marks.Mark.{Mark}
use Rattle.fkv_picture.specs.Shares.{capped}

-- how many addresses a bar has
abbrev pub span_of : ℕ → ℕ → ℕ
span_of a_bar size = max (a_bar * size) 1

-- where an address lies in a strip: behind the bars before it, and as far into its own as it is in its pages
abbrev pub mark_x : ℕ → ℕ → ℕ → ℕ → ℕ → ℕ
mark_x a_bar bars width size addr = let span = span_of a_bar size in 40 + min (addr / span) bars * width + min (capped (addr % span * width) / span) 80

-- on which side of its place a text stands
abbrev pub side_of : ℕ → List ℕ
side_of x = if nat_lt x 600 then codes "left" else codes "right"

unfoldable pub tip_text : ℕ → ℕ → List ℕ → List ℕ
tip_text x y tail = codes "<path class='mark' d='M" ++ decimal x ++ codes " " ++ decimal y ++ tail ++ codes "'/>"

-- what is marked, and its address
unfoldable pub label_text : ℕ → ℕ → List ℕ → ℕ → List ℕ
label_text x y words addr =
    codes "<text class='" ++ side_of x ++ codes "' x='" ++ decimal x ++ codes "' y='" ++ decimal y ++ codes "'>" ++ words ++ codes " " ++ decimal addr ++ codes "</text>"

abbrev pub mark_text : Mark → List ℕ
mark_text mark = tip_text mark.tip.x mark.tip.y mark.tip.tail.now ++ label_text mark.label.x mark.label.y mark.label.words.now mark.label.addr ++ 10 ∷ []

-- where the scan begins, above the strip
unfoldable pub start_text : ℕ → ℕ → List ℕ
start_text x addr = tip_text x 202 (codes "l-5 -9h10z") ++ label_text x 189 (codes "the scan begins at") addr ++ 10 ∷ []

-- where the log ends, below the strip
unfoldable pub end_text : ℕ → ℕ → List ℕ
end_text x addr = tip_text x 366 (codes "l-5 9h10z") ++ label_text x 390 (codes "the log ends at") addr ++ 10 ∷ []
