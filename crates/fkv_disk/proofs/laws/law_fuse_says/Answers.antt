use Rattle.std.proofs.Common.{◌≡◌, ℕ, Bool, not, ◌||◌, refl, ap, arith}
use Rattle.std.specs.Prelude.{nat_le, nat_lt}
use Rattle.std.proofs.lemmas.Bool.Decides.{nat_tests}
use Rattle.fkv_disk.specs.Fuse.{fuse_refuses, passes}
use Rattle.fkv_disk.specs.declared.fuses.FuseState.{FuseState}
use Rattle.fkv_disk.specs.declared.fuses.FuseState.TheVariants.{Sound, Armed, Blown, BlownAt}
use Rattle.fkv_disk.proofs.laws.law_fuse_says.Goals as goal

none_left : (left : ℕ) → nat_le left 0 ≡ not (nat_lt 0 left)
none_left left = grind (arith, nat_tests)

next_call : (state : FuseState) (device : ℕ → Bool) → fuse_refuses state device 0 ≡ (not (passes state) || device 0)
next_call Sound device = refl
next_call (Armed left) device = ap (λ (b : Bool). b || device 0) (none_left left)
next_call Blown device = refl
next_call (BlownAt at n) device = refl

pub returns : goal.returns
returns c = next_call
