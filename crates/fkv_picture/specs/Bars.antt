-- A filled rectangle.
use Rattle.std.specs.Prelude.{ℕ, List, ◌++◌, codes}
use Rattle.std.specs.Fmt.{decimal}

unfoldable pub size_text : ℕ → ℕ → List ℕ
size_text width height = codes "width='" ++ decimal width ++ codes "' height='" ++ decimal height ++ codes "'"

-- a rectangle, filled as the style says of its ink
unfoldable pub bar_text : List ℕ → ℕ → ℕ → ℕ → ℕ → List ℕ
bar_text ink x y width height = codes "<rect class='" ++ ink ++ codes "' x='" ++ decimal x ++ codes "' y='" ++ decimal y ++ codes "' " ++ size_text width height ++ codes "/>"
