-- A life that begins with a store that was opened.
use Rattle.std.specs.Prelude.{◌≡◌, ℕ, Bool, false, List, [], Option, replicate}
use Rattle.fkv_base.specs.declared.numbers.Key.{Key}
use Rattle.fkv_base.specs.declared.numbers.Value.{Value}
use Rattle.fkv_playing.specs.Below.fkv_core.Openings.{IsOpeningWorld}
use Rattle.fkv_playing.specs.Below.fkv_core.Worlds.{WorldModel}
use Rattle.fkv_playing.specs.Below.fkv_core.Event.{Event}
use Rattle.fkv_playing.specs.Below.fkv_core.TheTold.{Told}
use Rattle.fkv_disk.specs.Calls.{torn_image}
use Rattle.fkv_disk.specs.Device.{LeavesOnly}
use Rattle.fkv_disk.specs.Kinds.{Foretold, Kind, noted}
use Rattle.fkv_map.specs.declared.history.HistoryEntry.{HistoryEntry}
use Rattle.fkv_opening.specs.Opened.{IsStoreOf}
use Rattle.fkv_opening.specs.declared.opened_store.Opened.{Opened}
use Rattle.fkv_pairs.specs.Pairs.{ArePairs, log_of_store}
use Rattle.fkv_playing.specs.Players.{EngineStep, PlayerState}
use Rattle.fkv_playing.specs.Seats.{first_seat}
use Rattle.fkv_playing.specs.declared.players.Waits.{Waits}
use Rattle.fkv_playing.specs.declared.players.Waits.TheVariants.{Nothing}

-- an image holds this store, with these pairs
pub record IsRecovered (image : List ℕ) (opened : Opened) (pairs : List (Key × Value)) : Type 0 where
  pub store : IsStoreOf image opened
  pub are_pairs : ArePairs (log_of_store image opened store) pairs

-- a device says of no call to come that it refuses it
abbrev pub RefusesNoCall : {D : Type 0} → (D → ℕ → Bool) → D → Type 0
RefusesNoCall refuses device = (call : ℕ) → refuses device call ≡ false

-- the image that a crash takes of what a device foretells, where each byte that isn't synced is set to this one
abbrev pub foretold_image : Foretold → ℕ → List ℕ
foretold_image its torn = torn_image its.opening its.calls torn

-- the image that a crash takes of a device, by what it foretells of no further call
abbrev pub crash_image : {D : Type 0} → (D → List Kind → Foretold) → D → ℕ → List ℕ
crash_image expects device torn = foretold_image (expects device []) torn

-- Whichever calls come to a device, a crash behind them takes the image that these calls make of this one, all of which was synced.
abbrev pub CrashesFrom : {D : Type 0} → (D → List Kind → Foretold) → List ℕ → D → Type 0
CrashesFrom expects image device = (later : List Kind) (torn : ℕ) → foretold_image (expects device later) torn ≡ torn_image image (noted later []) torn

-- A device is honest, reads as this image, and refuses no call; and a crash leaves just that image of it.
pub record Holds {D : Type 0} (honest : D → Type 0) (seen : D → List ℕ) (may_leave : D → List ℕ → Type 0) (refuses : D → ℕ → Bool) (image : List ℕ) (device : D) : Type 0 where
  pub is_honest : honest device
  pub reads : seen device ≡ image
  pub synced : LeavesOnly image (may_leave device)
  pub sound : RefusesNoCall refuses device

-- What a run goes by of the device of a store: what a step of the engine over it is, which images a crash may leave of it, and the one that it leaves, which is set
-- to this byte where it isn't synced, when it holds an image, when crashes go from an image on, whether it has failed for good, and how it is made to fail behind so many calls.
pub record Medium (D : Type 0) : Type 1 where
  pub engine : Event → WorldModel D → WorldModel D → Option Told → Bool → Type 0
  pub may_leave : D → List ℕ → Type 0
  pub image : D → ℕ → List ℕ
  pub holds : List ℕ → D → Type 0
  pub crashes : List ℕ → D → Type 0
  pub broken : D → Bool
  pub armed : ℕ → Waits → PlayerState D → PlayerState D → Type 0

abbrev pub medium_of : {D : Type 0} → (D → Type 0) → (D → List ℕ) → (D → List ℕ → Type 0) → (D → ℕ) → (D → ℕ → Bool) → (D → List Kind → Foretold) → (D → Bool) → (ℕ → Waits → PlayerState D → PlayerState D → Type 0) → Medium D
medium_of honest seen may_leave failed refuses expects broken armed = record {
  engine = EngineStep honest seen may_leave failed refuses expects broken;
  may_leave = may_leave;
  image = crash_image expects;
  holds = Holds honest seen may_leave refuses;
  crashes = CrashesFrom expects;
  broken = broken;
  armed = armed;
}

-- A player begins with the world of this opened store over this device: all sessions are awake, nothing is to come of the device, and these updates are kept.
pub record Begins {D : Type 0} (opened : Opened) (device : D) (history : List HistoryEntry) (keeps_history : Bool) (player : PlayerState D) : Type 0 where
  pub world : IsOpeningWorld opened player.world.now
  pub over : player.world.device ≡ device
  pub same : player ≡ record { world = player.world; seats = replicate opened.shape.sessions first_seat; history = history; keeps_history = keeps_history; waits = Nothing; sweeps = false }
