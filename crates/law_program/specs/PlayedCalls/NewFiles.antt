-- New stores in files. Nobody can tell what a file holds, but some bytes hold the store that was opened: those that `create` leaves.
use Rattle.std.specs.Prelude.{◌-◌, ◌^◌, ◌<◌, ℕ, Bool, List, [], length, Option}
use Rattle.std.specs.FinMap.{empty}
use Rattle.fkv_base.specs.declared.shapes.Shape.{Shape}
use Rattle.law_order.specs.Below.fkv_core.Openings.{IsOpeningWorld}
use Rattle.law_order.specs.Below.fkv_core.Worlds.{WorldModel}
use Rattle.law_order.specs.Below.fkv_core.Event as events
use Rattle.law_order.specs.Below.fkv_core.TheTold as tells
use Rattle.law_order.specs.Below.fkv_creating.Created.{IsCreated, IsNewStore}
use Rattle.fkv_map.specs.declared.history.HistoryEntry.{HistoryEntry}
use Rattle.law_order.specs.Below.fkv_opening.TheOpened.{Opened}
use Rattle.fkv_runs.specs.Below.fkv_playing.Players.{PlayerState}
use Rattle.fkv_runs.specs.Files.{IsRunOfLife}
use Rattle.fkv_runs.specs.Openings.{Begins}
use Rattle.fkv_runs.specs.declared.pieces.Piece.{Piece}
use Rattle.law_order.specs.Below.fkv_world.World.{Now}
use Rattle.law_order.specs.Below.law_refine.Results.Results.{NobodyCalls}
use Rattle.law_program.specs.PlayedCalls.PlayedCalls.{IsQuietLife}
use Rattle.law_program.specs.PlayedCalls.Scripts.{ArePiecesOf, EachFits, IsPlayOfMap, SessionOp}

-- A life of a new store shows this world, with which it begins: over bytes as `create` leaves them. No session has a call in hand.
pub record BeginsQuiet (shape : Shape) (opened : Opened) (first : Now) : Type 0 where
  pub bytes : List ℕ
  pub created : IsCreated shape bytes
  pub quiet : IsQuietLife bytes opened first [] first
  pub rests : NobodyCalls first

-- So it is of each new store, whatever holds it.
abbrev pub NewStoresBeginQuiet : Type 0
NewStoresBeginQuiet = (shape : Shape) (opened : Opened) (first : Now) → IsNewStore shape opened → IsOpeningWorld opened first → BeginsQuiet shape opened first

-- So the lines of operations that are played over a new store in a file print what a map says that begins empty.
abbrev pub NewFilesPlayMap : {D : Type 0} → (events.Event → WorldModel D → WorldModel D → Option tells.Told → Bool → Type 0) → Type 0
NewFilesPlayMap {D} engine =
    (shape : Shape) (opened : Opened) (device : D) (history : List HistoryEntry) (keeps_history : Bool) (player : PlayerState D) (pieces : List Piece) (ops : List SessionOp) (text : List ℕ)
    → IsNewStore shape opened → Begins opened device history keeps_history player → ArePiecesOf ops pieces → EachFits ops → length ops < 2 ^ 64 - 1
    → IsRunOfLife engine pieces player text → IsPlayOfMap empty ops text
