-- What the law of `named` says.
use Rattle.std.specs.Prelude.{ℕ, List}
use Rattle.law_opening.specs.Below.fkv_core.Openings.{IsOpeningWorld}
use Rattle.law_opening.specs.Below.fkv_opening.Opened.{IsStoreOf}
use Rattle.law_opening.specs.Below.fkv_opening.TheOpened.{Opened}
use Rattle.law_commit.specs.Below.fkv_world.World.{Event, Now}
use Rattle.law_order.specs.Images.Left.{IsLeft}
use Rattle.law_order.specs.Images.Named.{NamesBegun}
use Rattle.law_opening.specs.Lives.Reaching.{ReachesFar}

-- the newest slot is that of the newest finished commit, or of the one whose gate is being opened
abbrev pub ImagesNameABegun : Type 0
ImagesNameABegun =
    (o : Opened) (n : Now) (bytes : List ℕ) (events : List Event) (image : List ℕ) → IsStoreOf bytes o → IsOpeningWorld o n → ReachesFar bytes → IsLeft n bytes events image → NamesBegun n bytes events image
