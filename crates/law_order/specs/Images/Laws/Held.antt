-- What the law of `held` says.
use Rattle.std.specs.Prelude.{◌≡◌, ℕ, List}
use Rattle.std.specs.List.{flat_map}
use Rattle.law_opening.specs.Below.fkv_core.Openings.{IsOpeningWorld}
use Rattle.law_opening.specs.Below.fkv_newest.Newest.{IsNewestOf}
use Rattle.law_opening.specs.Below.fkv_newest.TheNewest.{Newest}
use Rattle.law_opening.specs.Below.fkv_opening.Faults.{HasCheckpoint}
use Rattle.law_opening.specs.Below.fkv_opening.Opened.{IsStoreOf}
use Rattle.law_opening.specs.Below.fkv_opening.TheOpened.{Opened}
use Rattle.fkv_record.specs.Layout.{triple_bytes}
use Rattle.fkv_record.specs.declared.triples.Triple.{Triple}
use Rattle.law_commit.specs.Below.fkv_world.World.{Event, Now}
use Rattle.law_order.specs.Images.Held.{HoldsTriples, SuitSlot, area_bytes}
use Rattle.law_order.specs.Images.Left.{IsLeft}
use Rattle.law_opening.specs.Lives.Reaching.{ReachesFar}

-- an image holds the triples of its checkpoint
abbrev pub ImagesHoldTheirTriples : Type 0
ImagesHoldTheirTriples =
    (o : Opened) (n : Now) (bytes : List ℕ) (events : List Event) (image : List ℕ) (store : IsStoreOf bytes o) → IsOpeningWorld o n → ReachesFar bytes → IsLeft n bytes events image → HoldsTriples o n bytes events store image

-- triples whose bytes are those of the area are read back, if they suit the slot
abbrev pub TriplesAreReadBack : Type 0
TriplesAreReadBack =
    (image : List ℕ) (n : Newest) (triples : List Triple) → IsNewestOf image n → flat_map triple_bytes triples ≡ area_bytes image n → SuitSlot n triples → HasCheckpoint image n triples
