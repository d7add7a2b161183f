-- That each home of a life's log has a slot of the index.
use Rattle.std.specs.Prelude.{◌≡◌, ℕ, List}
use Rattle.law_opening.specs.Below.fkv_core.Openings.{IsOpeningWorld}
use Rattle.law_opening.specs.Below.fkv_opening.Opened.{IsStoreOf}
use Rattle.law_opening.specs.Below.fkv_opening.TheOpened.{Opened}
use Rattle.law_opening.specs.Below.fkv_scan.Log as scan
use Rattle.law_commit.specs.Below.fkv_world.World.{Event, Now}
use Rattle.law_commit.specs.Below.law_paper.Paper.Slots.{HasSlots}
use Rattle.law_order.specs.Decided.Cut.{log_beside}

-- as an image of the store's shape wants it
abbrev pub HomesHaveSlots : Type 0
HomesHaveSlots =
    (bytes : List ℕ) (o : Opened) (n : Now) (events : List Event) (image : scan.Log) → IsStoreOf bytes o → IsOpeningWorld o n → image.shape ≡ o.shape → HasSlots image (log_beside o n bytes events)
