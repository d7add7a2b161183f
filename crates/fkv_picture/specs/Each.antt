-- Texts one after another.
use Rattle.std.specs.Prelude.{ℕ, zero, suc, List, [], ◌++◌}

-- the texts of the numbers below one, in their order
unfoldable pub each_below : (ℕ → List ℕ) → ℕ → List ℕ
each_below text zero = []
each_below text (suc n) = each_below text n ++ text n
