-- The life of a new store begins quietly, and its lines are played by the map.
use Rattle.std.proofs.Common.{ℕ, List, [], Bool, subst}
use Rattle.std.specs.Prelude.{Option}
use Rattle.fkv_base.specs.declared.shapes.Shape.{Shape}
use Rattle.law_order.specs.Below.fkv_core.Worlds.{WorldModel}
use Rattle.law_order.specs.Below.fkv_core.Event as events
use Rattle.law_order.specs.Below.fkv_core.TheTold as tells
use Rattle.law_order.specs.Below.fkv_creating.Created.{IsNewStore, created_bytes}
use Rattle.fkv_map.specs.Map.{Map}
use Rattle.law_order.specs.Below.fkv_opening.Opened.{IsStoreOf}
use Rattle.law_order.specs.Below.fkv_opening.TheOpened.{Opened}
use Rattle.law_order.specs.OneHistory.NewLives.{AreCreated, HoldNew}
use Rattle.law_program.specs.PlayedCalls.NewFiles.{NewFilesPlayMap, NewStoresBeginQuiet}
use Rattle.law_program.specs.PlayedCalls.Scripts.{FilesPlayMap, IsPlayOfMap}
use Rattle.law_program.proofs.OfPlayedCalls.NewStores.{PairsAreMap, new_is_empty}
use Rattle.law_program.proofs.OfPlayedCalls.Scripts.{opening_idle, opening_quiet}

holds : AreCreated → HoldNew → (shape : Shape) (o : Opened) → IsNewStore shape o → IsStoreOf (created_bytes [] shape) o
holds created hold shape o new = (hold (created_bytes [] shape) shape o (created [] shape)).1 new

pub begin_quiet : AreCreated → HoldNew → NewStoresBeginQuiet
begin_quiet created hold = λ shape opened first new begins.
    let bytes : List ℕ = created_bytes [] shape in
    record {
      bytes = bytes;
      created = created [] shape;
      quiet = opening_quiet bytes opened first (holds created hold shape opened new) begins;
      rests = opening_idle opened first begins;
    }

pub new_files_play_map : {D : Type 0} (engine : events.Event → WorldModel D → WorldModel D → Option tells.Told → Bool → Type 0) → AreCreated → HoldNew → PairsAreMap → FilesPlayMap engine → NewFilesPlayMap engine
new_files_play_map engine created hold pairs plays = λ shape opened device history keeps_history player pieces ops text new begins are fit few run.
    let bytes : List ℕ = created_bytes [] shape in
    let store : IsStoreOf bytes opened = holds created hold shape opened new in
    subst (λ (m : Map). IsPlayOfMap m ops text) (new_is_empty pairs shape bytes opened store new) (plays bytes opened device history keeps_history player pieces ops text store begins are fit few run)
