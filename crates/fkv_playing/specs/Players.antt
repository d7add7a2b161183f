-- A life that is played.
use Rattle.std.specs.Prelude.{◌≡◌, ℕ, Bool, true, false, List, Option}
use Rattle.fkv_core.specs.Worlds.{IsStep, WorldModel}
use Rattle.fkv_core.specs.declared.events.Event.{Event}
use Rattle.fkv_core.specs.declared.events.Told.{Told}
use Rattle.fkv_disk.specs.Fuse.{armed}
use Rattle.fkv_disk.specs.Fuses.{fuse_device, fuse_refused, fuse_state}
use Rattle.fkv_disk.specs.Kinds.{Foretold, Kind}
use Rattle.fkv_disk.specs.declared.fuses.Fuse.{Fuse}
use Rattle.fkv_map.specs.declared.history.HistoryEntry.{HistoryEntry}
use Rattle.fkv_playing.specs.Seats.{SeatState}
use Rattle.fkv_playing.specs.declared.players.Waits.{Waits}
use Rattle.fkv_playing.specs.declared.players.Waits.TheVariants.{Crash, CrashAtEnd}

-- The world, the seats of its sessions, the updates whose effect was told, the oldest first, where they are kept, what is to come of the device, and whether
-- turns sweep the log's front.
pub record PlayerState (D : Type 0) : Type 0 where
  pub world : WorldModel D
  pub seats : List SeatState
  pub history : List HistoryEntry
  pub keeps_history : Bool
  pub waits : Waits
  pub sweeps : Bool

-- What a step of the engine is, by its contract: the event, the worlds before and after it, what was told, and whether the device has failed for good then.
abbrev pub EngineStep : {D : Type 0} → (D → Type 0) → (D → List ℕ) → (D → List ℕ → Type 0) → (D → ℕ) → (D → ℕ → Bool) → (D → List Kind → Foretold) → (D → Bool) → Event → WorldModel D → WorldModel D → Option Told → Bool → Type 0
EngineStep honest seen may_leave failed refuses expects broken event world after told is_broken =
    IsStep event world.now after.now told (failed world.device) (failed after.device) (refuses world.device) (refuses after.device) (expects world.device) (expects after.device) (honest world.device) (seen world.device) (seen after.device) (may_leave world.device) (may_leave after.device)
    × (is_broken ≡ broken after.device)

-- A crash that was waited for has struck: the device has come to its call, and has failed for good.
abbrev pub is_struck : Waits → Bool → Bool
is_struck Crash is_broken = is_broken
is_struck other is_broken = false

-- A device that has failed for good does not come to a call any more: a crash that is asked for then is taken at the end.
abbrev pub waits_for_crash : Bool → Waits
waits_for_crash true = CrashAtEnd
waits_for_crash false = Crash

-- `count` calls of the device pass, and then each is refused
pub record IsArmed {D : Type 0} (count : ℕ) (waits : Waits) (before after : PlayerState (Fuse D)) : Type 0 where
  pub same : after ≡ record before { world = after.world; waits = waits }
  pub now : after.world.now ≡ before.world.now
  pub device : fuse_device after.world.device ≡ fuse_device before.world.device
  pub state : fuse_state after.world.device ≡ armed count (fuse_state before.world.device)
  pub refused : fuse_refused after.world.device ≡ fuse_refused before.world.device
