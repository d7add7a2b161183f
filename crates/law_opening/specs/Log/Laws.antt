-- What the laws of `log` say.
use Rattle.std.specs.Prelude.{◌≡◌, ◌↔◌, ℕ, List, Some}
use Rattle.fkv_base.specs.declared.numbers.Key.{Key}
use Rattle.fkv_base.specs.declared.numbers.Value.{Value}
use Rattle.fkv_core.specs.Openings.{IsOpeningWorld}
use Rattle.fkv_filling.specs.OpeningIndex.{opening_lists}
use Rattle.law_paper.specs.Below.fkv_opening.Alike.{Agree}
use Rattle.law_paper.specs.Below.fkv_opening.Opened.{IsStoreOf}
use Rattle.law_paper.specs.Below.fkv_opening.TheOpened.{Opened}
use Rattle.law_log.specs.Ghosts.{shown}
use Rattle.law_log.specs.Begins.{IsAbove}
use Rattle.law_log.specs.Enabled.{IsOpened}
use Rattle.law_paper.specs.Below.fkv_pairs.Pairs.{ArePairs, HasValue, log_of_store}
use Rattle.law_refine.specs.Below.fkv_world.World.{Event, Now}
use Rattle.law_refine.specs.Events.GhostEvents.{home_in}
use Rattle.law_opening.specs.Log.Begins.{Begins}
use Rattle.law_refine.specs.Heads.Heads.{LeadToHeads}
use Rattle.law_paper.specs.Paper.Old.{LosesTheRest}
use Rattle.law_opening.specs.Log.Lives.{IsBeside, IsOrdered, KeepsRules}
use Rattle.law_opening.specs.Log.Maps.{opening_map}
use Rattle.law_opening.specs.Log.OpeningLog.{opening_ghosts, opening_log}
use Rattle.law_opening.specs.Log.Records.{HasWhatCounts, map_of}

-- the log of an opened store has the records of its image that count
abbrev pub HasTheRecordsThatCount : Type 0
HasTheRecordsThatCount =
    (image : List ℕ) (o : Opened) (store : IsStoreOf image o) → HasWhatCounts (log_of_store image o store) (opening_log image o)

-- none of them lies below the store's begin, so the log does without what lies there
abbrev pub LogIsAbove : Type 0
LogIsAbove =
    (image : List ℕ) (o : Opened) → IsStoreOf image o → IsAbove o.begin.0 (opening_log image o)

-- each key shows the value that it has in the store
abbrev pub ShowsTheStoresValues : Type 0
ShowsTheStoresValues =
    (image : List ℕ) (o : Opened) (store : IsStoreOf image o) (key : Key) (value : Value) → (shown (home_in o.shape.bucket_bits) (opening_log image o) key.0 ≡ Some value.0) ↔ HasValue (log_of_store image o store) key value

-- the log is one with which the order law begins
abbrev pub BeginsTheOrderLaw : Type 0
BeginsTheOrderLaw =
    (image : List ℕ) (o : Opened) → IsStoreOf image o → IsOpened (home_in o.shape.bucket_bits) (opening_map image o) o.number.0 (opening_ghosts image o)

-- the map from which it begins is that of the store's pairs
abbrev pub BeginsFromItsPairs : Type 0
BeginsFromItsPairs =
    (image : List ℕ) (o : Opened) (store : IsStoreOf image o) (pairs : List (Key × Value)) → ArePairs (log_of_store image o store) pairs → map_of pairs ≡ opening_map image o

-- where images that agree on what recovery reads hold one store, that is one map
abbrev pub MapsAlike : Type 0
MapsAlike =
    (image other : List ℕ) (o : Opened) → IsStoreOf image o → IsStoreOf other o → Agree image other → opening_map other o ≡ opening_map image o

-- the log is one with which the life of the store's world begins
abbrev pub BeginsItsLife : Type 0
BeginsItsLife =
    (image : List ℕ) (o : Opened) (n : Now) → IsStoreOf image o → IsOpeningWorld o n → Begins n (opening_ghosts image o)

-- the index leads to where its chains begin
abbrev pub IndexLeadsToItsHeads : Type 0
IndexLeadsToItsHeads =
    (image : List ℕ) (o : Opened) (n : Now) → IsStoreOf image o → IsOpeningWorld o n → LeadToHeads n (opening_lists o.entries.items) (opening_log image o)

-- the lost ranges lose just the valid records that it doesn't have
abbrev pub LostIsTheRest : Type 0
LostIsTheRest =
    (image : List ℕ) (o : Opened) (store : IsStoreOf image o) → LosesTheRest o.lost.items (log_of_store image o store) (opening_log image o)

-- the laws of the log beside a life hold with no premise
abbrev pub LivesHaveTheirLog : Type 0
LivesHaveTheirLog =
    (bytes : List ℕ) (o : Opened) (n : Now) (events : List Event) → IsStoreOf bytes o → IsOpeningWorld o n → IsBeside o n bytes events

-- and the order law does if the log's events keep to their rules
abbrev pub KeptLogsAreOrdered : Type 0
KeptLogsAreOrdered =
    (bytes : List ℕ) (o : Opened) (n : Now) (events : List Event) → IsStoreOf bytes o → IsOpeningWorld o n → KeepsRules o n bytes events → IsOrdered o n bytes events
