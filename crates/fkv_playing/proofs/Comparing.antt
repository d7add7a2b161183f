-- Outcomes that were compared.
use Rattle.std.proofs.Common.{◌≡◌, ◌≢◌, true, false, not, sym, rules}
use denote.Enum.Bare.{sameb, differs_false, differs_true, same_false, same_true}
use Rattle.fkv_playing.specs.contracts.calls.Outcome.{the_type}
use Rattle.fkv_playing.specs.declared.calls.Outcome.{Outcome}

-- by `!=`
pub is_the_other : (its other : Outcome) → false ≡ not (sameb the_type its other) → its ≡ other
is_the_other its other e = differs_false the_type (search rules) its other (sym e)

pub is_another : (its other : Outcome) → true ≡ not (sameb the_type its other) → its ≢ other
is_another its other e = differs_true the_type its other (sym e)

-- by `==`
pub is_same : (its other : Outcome) → true ≡ sameb the_type its other → its ≡ other
is_same its other e = same_true the_type (search rules) its other (sym e)

pub is_not_same : (its other : Outcome) → false ≡ sameb the_type its other → its ≢ other
is_not_same its other e = same_false the_type its other (sym e)
