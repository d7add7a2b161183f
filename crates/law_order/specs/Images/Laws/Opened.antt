-- What the laws of `opened` say.
use Rattle.std.specs.Prelude.{ℕ, List}
use Rattle.law_opening.specs.Below.fkv_core.Openings.{IsOpeningWorld}
use Rattle.law_opening.specs.Below.fkv_newest.Manifest.{Suits}
use Rattle.law_opening.specs.Below.fkv_newest.Newest.{HasShape, IsNewestOf}
use Rattle.law_opening.specs.Below.fkv_opening.Opened.{IsStoreOf}
use Rattle.law_opening.specs.Below.fkv_opening.TheOpened.{Opened}
use Rattle.fkv_record.specs.declared.manifest_slots.ManifestSlot.{ManifestSlot}
use Rattle.fkv_record.specs.Manifest.{newest_format}
use Rattle.law_commit.specs.Below.fkv_world.World.{Event, Now}
use Rattle.law_order.specs.Images.Left.{IsLeft}
use Rattle.law_order.specs.Images.Opened.{HasSlot, named_in}
use Rattle.law_opening.specs.Lives.Reaching.{ReachesFar}

-- an image begins with the block of the shape
abbrev pub ImagesKeepTheirShape : Type 0
ImagesKeepTheirShape =
    (o : Opened) (n : Now) (bytes : List ℕ) (events : List Event) (image : List ℕ) → IsStoreOf bytes o → IsOpeningWorld o n → ReachesFar bytes → IsLeft n bytes events image → HasShape image o.shape

-- a newest slot with the bytes of a commit is read back as that commit
abbrev pub ImagesNameTheirCommit : Type 0
ImagesNameTheirCommit =
    (o : Opened) (n : Now) (bytes : List ℕ) (events : List Event) (image : List ℕ) (index : ℕ) (slot : ManifestSlot) (suits : Suits o.shape index (newest_format slot) slot) → IsStoreOf bytes o → IsOpeningWorld o n → ReachesFar bytes
    → IsLeft n bytes events image → HasSlot image index slot → IsNewestOf image (named_in image o.shape index slot suits)
