-- What the law of `fits` says.
use Rattle.std.specs.Prelude.{ℕ, List}
use Rattle.law_opening.specs.Below.fkv_core.Openings.{IsOpeningWorld}
use Rattle.law_opening.specs.Below.fkv_opening.Opened.{IsStoreOf}
use Rattle.law_opening.specs.Below.fkv_opening.TheOpened.{Opened}
use Rattle.law_commit.specs.Below.fkv_world.World.{Event, Now}
use Rattle.law_order.specs.Images.Fits.{AllFit, NamesFit}
use Rattle.law_order.specs.Images.Left.{IsLeft}
use Rattle.law_opening.specs.Lives.Reaching.{ReachesFar}

-- each commit that has begun fits its life
abbrev pub CommitsFitTheirLife : Type 0
CommitsFitTheirLife =
    (o : Opened) (n : Now) (bytes : List ℕ) (events : List Event) → IsStoreOf bytes o → IsOpeningWorld o n → ReachesFar bytes → AllFit o n bytes events

-- and so does the one that an image names
abbrev pub ImagesNameAFit : Type 0
ImagesNameAFit =
    (o : Opened) (n : Now) (bytes : List ℕ) (events : List Event) (image : List ℕ) → IsStoreOf bytes o → IsOpeningWorld o n → ReachesFar bytes → IsLeft n bytes events image → NamesFit o n bytes events image
