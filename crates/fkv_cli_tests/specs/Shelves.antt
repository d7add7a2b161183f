-- A place of stores in memory as a run goes by it, and what a run over it tells.
use Rattle.std.specs.Prelude.{◌≡◌, ◌⊎◌, ⊤, ℕ, List, [], ◌++◌, Bool}
use Rattle.fkv_base.specs.declared.faults.Damage.{Damage}
use Rattle.fkv_base.specs.declared.faults.Fault.TheVariants.{Damaged, NotAStore}
use Rattle.fkv_base.specs.declared.numbers.Key.{Key}
use Rattle.fkv_base.specs.declared.numbers.Value.{Value}
use Rattle.fkv_base.specs.declared.shapes.Shape.{Shape}
use Rattle.fkv_cli.specs.Output.{Devices, HoldsStore, IsLifeInFile, IsRunInFile, IsRunInNewFile, IsUnopened, Places}
use Rattle.fkv_cli_tests.specs.declared.shelves.Shelf.{Shelf}
use Rattle.fkv_creating.specs.Created.{IsNewStore}
use Rattle.fkv_disk.specs.declared.devices.Device.{Ghosts}
use Rattle.fkv_opening.specs.Faults.{IsFaultOf}
use Rattle.fkv_opening.specs.declared.opened_store.Opened.{Opened}
use Rattle.fkv_playing.specs.declared.players.Waits.{Waits}
use Rattle.fkv_runs.specs.Below.fkv_playing.Players.{EngineStep, PlayerState}
use Rattle.fkv_runs.specs.Openings.{IsRecovered, Medium, medium_of}
use Rattle.fkv_runs.specs.declared.pieces.Piece.{Piece}
use Rattle.fkv_texts.specs.Reports.{report_text}
use Rattle.fkv_texts.specs.declared.reports.Opening.TheVariants as opening

-- the name of the store that lies there
abbrev pub shelf_name : Shelf → List ℕ
shelf_name shelf = shelf.name.now

-- and its bytes
abbrev pub shelf_image : Shelf → List ℕ
shelf_image shelf = shelf.image.now

-- Each device of a shelf is honest. The one of the path that is the store's name reads as its bytes, as it is opened. That of a new store is empty.
abbrev pub shelf_files : {F : Type 0} → Ghosts F → (F → Bool) → Shelf → Places F
shelf_files device broken shelf = record {
  engine = EngineStep device.honest device.seen device.may_leave device.failed device.refuses device.expects broken;
  honest = λ disk. ⊤;
  seen = device.seen;
  may_leave = device.may_leave;
  is_opened = λ path disk. (path ≡ shelf_name shelf) × (device.seen disk ≡ shelf_image shelf);
  is_made = λ path disk. device.seen disk ≡ [];
}

-- a device in memory, which crashes leave an image of, and which is made to fail
abbrev pub memory_of : {M : Type 0} → Ghosts M → (M → Bool) → (ℕ → Waits → PlayerState M → PlayerState M → Type 0) → Medium M
memory_of device broken armed = medium_of device.honest device.seen device.may_leave device.failed device.refuses device.expects broken armed

abbrev pub devices_of : {M F : Type 0} → Medium M → Places F → Devices M F
devices_of memory file = record { memory = memory; file = file }

-- The text is the report of the store that these bytes hold, with just its pairs, and then what its life prints over a device that holds it. Where the run
-- breaks off, the life may not have begun.
pub record Reports {F : Type 0} (files : Places F) (image : List ℕ) (pieces : List Piece) (status : ℕ) (text : List ℕ) : Type 0 where
  pub opened : Opened
  pub pairs : List (Key × Value)
  pub recovered : IsRecovered image opened pairs
  pub device : F
  pub holds : HoldsStore files.honest files.seen files.may_leave image opened device
  pub said : List ℕ
  pub life : IsLifeInFile files.engine opened device pieces status said ⊎ ((status ≡ 4) × (said ≡ []))
  pub says : text ≡ report_text opening.Open opened.number opened.points.items pairs ++ said

-- A new store was made: a device was given for it, and the text is what its life prints over a device that holds it.
pub record Makes {F : Type 0} (files : Places F) (path : List ℕ) (shape : Shape) (pieces : List Piece) (status : ℕ) (text : List ℕ) : Type 0 where
  pub opened : Opened
  pub is_new : IsNewStore shape opened
  pub found : F
  pub made : files.is_made path found
  pub device : F
  pub holds : HoldsStore files.honest files.seen files.may_leave (files.seen device) opened device
  pub life : IsLifeInFile files.engine opened device pieces status text

-- What runs over a place tell where one store lies, by its name and its bytes. No premise speaks of a device.
pub record TellsOf {F : Type 0} (files : Places F) (name image : List ℕ) : Type 0 where
  pub reports : (path : List ℕ) (pieces : List Piece) (status : ℕ) (text : List ℕ)
      → IsRunInFile files path pieces status text → (path ≡ name) × Reports files image pieces status text
  pub makes : (path : List ℕ) (shape : Shape) (pieces : List Piece) (status : ℕ) (text : List ℕ)
      → IsRunInNewFile files path shape pieces status text → Makes files path shape pieces status text
  pub not_a_store : (path : List ℕ) → IsUnopened files path NotAStore → (path ≡ name) × IsFaultOf image NotAStore
  pub damaged : (path : List ℕ) (part : Damage) (place : ℕ) → IsUnopened files path (Damaged part place) → (path ≡ name) × IsFaultOf image (Damaged part place)
