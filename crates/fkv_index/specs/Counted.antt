-- The asks that a machine makes at most are counted.
use Rattle.std.specs.Prelude.{◌≡◌, ℕ, ◌<◌}
use Rattle.fkv_plane.specs.declared.asks.Ask.{Ask}
use Rattle.fkv_plane.specs.declared.asks.Ask.TheVariants.{Done}

-- while it asks some are left, this one among them, and at its end none
abbrev pub IsCounted : {A : Type 0} → ℕ → Ask A → Type 0
IsCounted left (Done answer) = left ≡ 0
IsCounted left ask = 0 < left
