-- A fault that is found in the front of an image is one of the image.
use Rattle.std.proofs.Common.{ℕ, List}
use Rattle.std.specs.Prelude.{Result, Ok, Err, IfErr}
use Rattle.fkv_base.specs.declared.faults.Fault.{Fault}
use Rattle.fkv_base.specs.declared.faults.Fault.TheVariants as fault
use Rattle.fkv_base.specs.declared.faults.Damage.TheVariants as damage
use Rattle.fkv_newest.specs.declared.heads.Head.{Head}
use Rattle.fkv_newest.specs.declared.newest_slots.Newest.{Newest}
use Rattle.fkv_newest.specs.Heads.{IsHeadOf}
use Rattle.fkv_newest.specs.Refused.{IsFound, IsRefused}

module _ (before now : ℕ) (premise : Type 0) (image : List ℕ) (head : Head) (read : premise → IsHeadOf image head) where
  of_image : (why : Fault) → IsFound (IsHeadOf image head) image why → IsRefused before now premise image why
  of_image fault.NotAStore found = λ claim. found (read claim)
  of_image (fault.Damaged damage.Manifest index) found = λ claim. found (read claim)
  of_image other found = absurd (found)

  pub refused_of : (r : Result Newest Fault) → IfErr r (IsFound (IsHeadOf image head) image) → IfErr r (IsRefused before now premise image)
  refused_of (Ok n) found = tt
  refused_of (Err why) found = of_image why found
