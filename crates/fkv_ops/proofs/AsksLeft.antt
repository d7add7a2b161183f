-- What a machine has left together with the one inside it.
use Rattle.std.proofs.Common.{ℕ, refl, arith}
use Rattle.fkv_plane.specs.declared.asks.Ask.{Ask}
use Rattle.fkv_plane.specs.declared.asks.Ask.TheVariants.{Done}
use Rattle.fkv_plane.proofs.Shown.{never}
use Rattle.fkv_index.specs.Counted.{IsCounted}
use Rattle.fkv_plane.specs.AsksLeft.{AsksWhereLeft}

pub counted_left : {A : Type 0} (left : ℕ) (ask : Ask A) → IsCounted left ask → AsksWhereLeft left ask
counted_left left (Done answer) counted = (never, λ some. let no : ⊥ = omega (arith, some, counted) in absurd no)
counted_left left ask counted = (λ e. counted, λ some. refl)
