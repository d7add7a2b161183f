-- What the laws of `records` say.
use Rattle.std.specs.Prelude.{◌≡◌, ◌<◌, ◌≤◌, ℕ, List}
use Rattle.law_opening.specs.Below.fkv_core.Openings.{IsOpeningWorld}
use Rattle.fkv_disk.specs.Bytes.{bytes_at}
use Rattle.law_opening.specs.Below.fkv_opening.Opened.{IsStoreOf}
use Rattle.law_opening.specs.Below.fkv_opening.TheOpened.{Opened}
use Rattle.fkv_record.specs.Places.{record_place}
use Rattle.law_opening.specs.Below.fkv_scan.Log as scan
use Rattle.law_commit.specs.Below.fkv_world.World.{Event, Now}
use Rattle.law_opening.specs.Changes.Fits.{CallsFit}
use Rattle.law_order.specs.Images.Left.{IsLeft}
use Rattle.law_order.specs.Images.Records.{ShowsFlushed}
use Rattle.law_opening.specs.Lives.Reaching.{ReachesFar}

-- Records below the flushed offset stand as the log has them, in an image whose log doesn't begin below the opening's begin.
abbrev pub ImagesShowTheLog : Type 0
ImagesShowTheLog =
    (o : Opened) (n : Now) (bytes : List ℕ) (events : List Event) (image : scan.Log) → IsStoreOf bytes o → IsOpeningWorld o n → ReachesFar bytes → CallsFit events
    → IsLeft n bytes events image.image → image.shape ≡ o.shape → o.begin.0 ≤ image.begin → ShowsFlushed o n bytes events image

-- records below the opened end stand as they were
abbrev pub ImagesKeepTheOldRecords : Type 0
ImagesKeepTheOldRecords =
    (o : Opened) (n : Now) (bytes : List ℕ) (events : List Event) (image : List ℕ) (a : ℕ) → IsStoreOf bytes o → IsOpeningWorld o n → ReachesFar bytes → IsLeft n bytes events image
    → 0 < a → a < o.tail.0 → bytes_at image (record_place o.shape a) 24 ≡ bytes_at bytes (record_place o.shape a) 24
