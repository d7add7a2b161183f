-- The words of a mark, piece by piece.
use Rattle.std.proofs.Common.{◌≡◌, ◌∙◌, ℕ, List, ◌++◌, codes, append_assoc, sym, ap}
use Rattle.std.specs.Fmt.{decimal}
use Rattle.fkv_picture.specs.Marks.{label_text, side_of}
use Rattle.fkv_picture.proofs.marks.LabelDisplay.fmt.Goals as goal

abbrev pieces : (side x y words addr : List ℕ) → List ℕ
pieces side x y words addr = codes "<text class='" ++ (side ++ (codes "' x='" ++ (x ++ (codes "' y='" ++ (y ++ (codes "'>" ++ (words ++ (codes " " ++ (addr ++ codes "</text>")))))))))

grouped : (side x y words addr : List ℕ)
    → codes "<text class='" ++ side ++ codes "' x='" ++ x ++ codes "' y='" ++ y ++ codes "'>" ++ words ++ codes " " ++ addr ++ codes "</text>" ≡ pieces side x y words addr
grouped side x y words addr = simp append_assoc

is : (x y : ℕ) (words : List ℕ) (addr : ℕ) (side : List ℕ) → side ≡ side_of x → label_text x y words addr ≡ pieces side (decimal x) (decimal y) words (decimal addr)
unfolding label_text
is x y words addr side at = grouped (side_of x) (decimal x) (decimal y) words (decimal addr) ∙ ap (λ (s : List ℕ). pieces s (decimal x) (decimal y) words (decimal addr)) (sym at)

pub returns-clause-writes : goal.returns-clause-writes
returns-clause-writes g c =
    let it = c.args.self.now in
    let e = is it.x it.y it.words.now it.addr c.side_of-side.result.now c.side_of-side.ensures in
    rw e c.write.ensures.writes
