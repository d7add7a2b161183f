-- How many asks a machine has left, at most, where another machine is inside it.
use Rattle.std.specs.Prelude.{◌≡◌, ℕ, zero, suc, ◌+◌, ◌<◌, ◌↔◌, false}
use Rattle.fkv_plane.specs.declared.asks.Ask.{Ask}
use Rattle.fkv_plane.specs.Passing.{is_done}

-- a machine asks for something just where it has asks left
abbrev pub AsksWhereLeft : {A : Type 0} → ℕ → Ask A → Type 0
AsksWhereLeft left ask = (is_done ask ≡ false) ↔ (0 < left)

-- what the machine inside has left, and what may come behind its end. Where it is at its end already nothing is asked, and none are left
unfoldable pub sum_left : ℕ → ℕ → ℕ
sum_left zero behind = 0
sum_left (suc inside) behind = suc inside + behind
