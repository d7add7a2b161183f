-- What the laws of `lengths` say.
use Rattle.std.specs.Prelude.{◌+◌, ◌-◌, ◌<◌, ◌≤◌, ℕ, List, length}
use Rattle.law_opening.specs.Below.fkv_core.Openings.{IsOpeningWorld}
use Rattle.law_opening.specs.Below.fkv_opening.Opened.{IsStoreOf}
use Rattle.law_opening.specs.Below.fkv_opening.TheOpened.{Opened}
use Rattle.fkv_record.specs.Places.{record_place}
use Rattle.law_commit.specs.Below.fkv_world.World.{Event, Now}
use Rattle.law_order.specs.Images.Left.{IsLeft, flushed_so_far}
use Rattle.law_opening.specs.Lives.Reaching.{ReachesFar}

-- no image is shorter than the opened bytes
abbrev pub ImagesReachTheOpened : Type 0
ImagesReachTheOpened =
    (n : Now) (bytes : List ℕ) (events : List Event) (image : List ℕ) → IsLeft n bytes events image → length bytes ≤ length image

-- each ends behind each record that was flushed
abbrev pub ImagesReachTheFlushed : Type 0
ImagesReachTheFlushed =
    (o : Opened) (n : Now) (bytes : List ℕ) (events : List Event) (image : List ℕ) (a : ℕ) → IsStoreOf bytes o → IsOpeningWorld o n → IsLeft n bytes events image
    → o.tail.0 ≤ a → a < flushed_so_far n bytes events → record_place o.shape a + 24 ≤ length image

-- and behind the last record of each end up to the flushed offset
abbrev pub ImagesReachEachEnd : Type 0
ImagesReachEachEnd =
    (o : Opened) (n : Now) (bytes : List ℕ) (events : List Event) (image : List ℕ) (end : ℕ) → IsStoreOf bytes o → IsOpeningWorld o n → ReachesFar bytes → IsLeft n bytes events image
    → 1 < end → end ≤ flushed_so_far n bytes events → record_place o.shape (end - 1) + 24 ≤ length image
