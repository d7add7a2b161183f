-- The lives of a run over an honest device: how each begins, the first one and those behind crashes.
use Rattle.std.specs.Prelude.{◌≡◌, ℕ, Bool, List, []}
use Rattle.fkv_base.specs.declared.numbers.Key.{Key}
use Rattle.fkv_base.specs.declared.numbers.Value.{Value}
use Rattle.fkv_disk.specs.Fuse.{FuseLeaves}
use Rattle.fkv_disk.specs.Fuses.{fuse_device, fuse_state}
use Rattle.fkv_disk.specs.declared.fuses.Fuse.{Fuse}
use Rattle.fkv_map.specs.declared.history.HistoryEntry.{HistoryEntry}
use Rattle.law_order.specs.Below.fkv_opening.Opened.{IsStoreOf}
use Rattle.law_order.specs.Below.fkv_opening.TheOpened.{Opened}
use Rattle.fkv_runs.specs.Below.fkv_playing.Players.{IsArmed, PlayerState}
use Rattle.fkv_runs.specs.Below.fkv_playing.Waits.{Waits}
use Rattle.fkv_runs.specs.Crashes.{IsCrash, crash_text}
use Rattle.fkv_runs.specs.Openings.{Begins}
use Rattle.law_order.specs.Below.fkv_world.World.{Event, Now}
use Rattle.law_order.specs.Below.law_opening.Log.Records.{map_of}
use Rattle.law_program.specs.PlayedCalls.EachLine.{IsLifeOver}
use Rattle.law_program.specs.WholeCalls.WholeCalls.{map_after}

module _ {D : Type 0} (seen : D → List ℕ) (may_leave : D → List ℕ → Type 0) (holds : List ℕ → D → Type 0) where
  -- Over a device that holds the image of a store a player begins with a life of it.
  abbrev pub LivesBegin : Type 0
  LivesBegin =
      (image : List ℕ) (opened : Opened) (device : D) (history : List HistoryEntry) (keeps_history : Bool) (player : PlayerState D)
      → IsStoreOf image opened → holds image device → Begins opened device history keeps_history player → IsLifeOver seen may_leave image opened player.world.now [] player

  -- The report of a crash is of a store that the image holds, with which the next life begins; its pairs are the map that the store shows then.
  pub record IsNextLife (image : List ℕ) (checks agrees : Bool) (after : PlayerState D) (text : List ℕ) : Type 0 where
    pub opened : Opened
    pub pairs : List (Key × Value)
    pub says : text ≡ crash_text checks opened pairs agrees
    pub begins : IsLifeOver seen may_leave image opened after.world.now [] after
    pub shows : map_of pairs ≡ map_after opened after.world.now image []

  -- so it is of each crash
  abbrev pub CrashesGoOn : Type 0
  CrashesGoOn = (image : List ℕ) (checks agrees : Bool) (before after : PlayerState D) (text : List ℕ) → IsCrash holds image checks before after agrees text → IsNextLife image checks agrees after text

  -- so a run goes on from life to life
  pub record LivesGoOn : Type 0 where
    pub begin : LivesBegin
    pub crashes : CrashesGoOn

-- ---- a device that is made to fail
-- a fuse reads as its device, and a crash may leave of it what its state says
abbrev pub fuse_seen : {D : Type 0} → (D → List ℕ) → Fuse D → List ℕ
fuse_seen seen fuse = seen (fuse_device fuse)

abbrev pub fuse_may_leave : {D : Type 0} → (D → List ℕ → Type 0) → Fuse D → List ℕ → Type 0
fuse_may_leave may_leave fuse image = FuseLeaves (fuse_state fuse) (may_leave (fuse_device fuse)) image

-- A line by which a call of the device is to fail, or a crash to strike, leaves the life as it is. Turns sweep as before.
abbrev pub ArmingGoesOn : {D : Type 0} → (D → List ℕ) → (D → List ℕ → Type 0) → Type 0
ArmingGoesOn {D} seen may_leave =
    (count : ℕ) (waits : Waits) (bytes : List ℕ) (o : Opened) (first : Now) (life : List Event) (before after : PlayerState (Fuse D)) → IsArmed count waits before after
    → IsLifeOver (fuse_seen seen) (fuse_may_leave may_leave) bytes o first life before
    → IsLifeOver (fuse_seen seen) (fuse_may_leave may_leave) bytes o first life after × (after.sweeps ≡ before.sweeps)
