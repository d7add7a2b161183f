-- An ask that puts an action into its slot.
use Rattle.std.proofs.Common.{◌≡◌, refl, Bool, true, false}
use Rattle.fkv_plane.specs.declared.asks.Ask.{Ask}
use Rattle.fkv_plane.specs.declared.asks.Ask.TheVariants.{Put}
use Rattle.fkv_plane.specs.Passing.{passed}

abbrev pub is_put : {A : Type 0} → Ask A → Bool
is_put (Put slot action) = true
is_put ask = false

-- whoever passes it on puts the same
pub put_passed : {A B : Type 0} (ask : Ask A) (told : B) → is_put (passed ask told) ≡ is_put ask
unfolding passed
put_passed (Put slot action) told = refl
put_passed ask told = refl
