-- What the law of `read` says.
use Rattle.std.specs.Prelude.{ℕ, List}
use Rattle.law_opening.specs.Below.fkv_core.Openings.{IsOpeningWorld}
use Rattle.law_opening.specs.Below.fkv_opening.Opened.{IsStoreOf}
use Rattle.law_opening.specs.Below.fkv_opening.TheOpened.{Opened}
use Rattle.law_commit.specs.Below.fkv_world.World.{Event, Now}
use Rattle.law_order.specs.Images.Left.{IsLeft}
use Rattle.law_order.specs.Images.Read.{ReadsBack}
use Rattle.law_opening.specs.Lives.Reaching.{ReachesFar}

-- the newest slot of an image is read back
abbrev pub ImagesReadBack : Type 0
ImagesReadBack =
    (o : Opened) (n : Now) (bytes : List ℕ) (events : List Event) (image : List ℕ) (store : IsStoreOf bytes o) → IsOpeningWorld o n → ReachesFar bytes → IsLeft n bytes events image → ReadsBack o n bytes events store image

-- and the image ends behind all that it names
abbrev pub ImagesReachFar : Type 0
ImagesReachFar =
    (o : Opened) (n : Now) (bytes : List ℕ) (events : List Event) (image : List ℕ) → IsStoreOf bytes o → IsOpeningWorld o n → ReachesFar bytes → IsLeft n bytes events image → ReachesFar image
