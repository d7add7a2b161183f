-- Why the keeper refuses a commit, and why it ends a turn early.
use Rattle.std.specs.Prelude.{◌≡◌, ◌⊎◌, ℕ, List, [], ◌∷◌, length, Bool, true, false, Option, Some, None}
use Rattle.fkv_base.specs.declared.commits.CommitKind.{CommitKind}
use Rattle.fkv_base.specs.declared.faults.Fault.{Fault}
use Rattle.fkv_base.specs.declared.faults.Fault.TheVariants as fault
use Rattle.fkv_base.specs.Limits.{is_specified}
use Rattle.fkv_base.specs.declared.shapes.Shape.{Shape}
use Rattle.fkv_plane.specs.declared.places.Places.{Places}
use Rattle.fkv_commit.specs.Exchanges.{AreIdle, Exchange, WasEpochLast}
use Rattle.fkv_commit.specs.declared.starting.StartAsked.{StartAsked}
use Rattle.fkv_commit.specs.Phases.{IsRefusalTrue}
use Rattle.fkv_epoch.specs.Once.{Among}
use Rattle.fkv_keeper.specs.KeeperRun.{BeginsCommit, Calls, KeeperEvent, Replies, is_in_hand, keeper_run}
use Rattle.fkv_keeper.specs.Keeping.{KeeperState, is_copy_resting}
use Rattle.fkv_keeper.specs.declared.keepers.Keeping.TheVariants.{LoadsPhase}
use Rattle.fkv_commit.specs.declared.commits.Commit.{Commit}

-- ---- what was asked for
-- the kind of the commit that was asked for last, where no call was in hand
abbrev pub kind_after : Bool → KeeperEvent → Option CommitKind → Option CommitKind
kind_after false (BeginsCommit kind) was = Some kind
kind_after in_hand event was = was

unfoldable pub kind_asked : Shape → Places → KeeperState → List KeeperEvent → Option CommitKind
kind_asked shape p opening [] = None
kind_asked shape p opening (event ∷ before) = kind_after (is_in_hand (keeper_run shape p opening before).step) event (kind_asked shape p opening before)

-- a call of the device has failed
abbrev pub HasFailed : List KeeperEvent → Type 0
HasFailed events = (bytes : List ℕ) × Among (Calls false bytes) events

-- ---- a commit that is refused
-- The call has changed no word. By what it was replied the cause holds, of a commit of this kind as it was asked for.
pub record IsShown (asked : Option CommitKind) (so : CommitKind → StartAsked) (why : Fault) (told : List Exchange) : Type 0 where
  pub kind : CommitKind
  pub its_kind : asked ≡ Some kind
  pub idle : AreIdle told
  pub shown : IsRefusalTrue (so kind) why told

-- what a refusal goes by: the class for which the keeper starts commits, the lost ranges that it has in hand, and the checkpoint of the newest finished commit
abbrev pub refused_by : KeeperState → CommitKind → StartAsked
refused_by s kind = record { class = s.start.asked.class; kind = kind; lost = length s.lost; checkpoint = s.last.checkpoint.number }

-- The call has asked nothing. A commit of a living store is in hand, and its writes rest.
pub record HasRestingWrites (s : KeeperState) (told : List Exchange) : Type 0 where
  pub none_asked : told ≡ []
  pub living : is_specified s.start.asked.class ≡ false
  pub commit : Commit
  pub in_hand : s.commit ≡ Some commit
  pub rests : s.rests ≡ true

-- It is refused as broken only if a call of the device has failed before. Any other cause is shown by what this call has asked and was replied, or a commit
-- is running whose writes rest.
abbrev pub HasCommitCause : List KeeperEvent → Option CommitKind → KeeperState → List Exchange → Fault → Type 0
HasCommitCause before asked s told fault.Broken = HasFailed before
HasCommitCause before asked s told fault.CommitRunning = IsShown asked (refused_by s) fault.CommitRunning told ⊎ HasRestingWrites s told
HasCommitCause before asked s told why = IsShown asked (refused_by s) why told

-- ---- a turn that ends early
-- This event is a call of the device, and it failed.
abbrev pub IsFailure : KeeperEvent → Type 0
IsFailure event = (bytes : List ℕ) × (event ≡ Calls false bytes)

-- The phase was loaded, and no memory was granted for a copy of the index by the commit in hand, which isn't copied. No copy rests.
pub record IsMemoryRefusal (s : KeeperState) (event : KeeperEvent) : Type 0 where
  pub reply : ℕ
  pub refused : event ≡ Replies reply false
  pub loads : s.step ≡ LoadsPhase
  pub commit : Commit
  pub in_hand : s.commit ≡ Some commit
  pub not_copied : (let c = commit in c.is_copied ≡ false)
  pub none_rests : is_copy_resting s.copy ≡ false

-- It ends as broken only if a call of the device has failed before, and for the device only at its own call, if that failed. It ends for the epochs only if
-- the epoch's word that it has loaded is the last. It ends for memory only where this event grants none for a copy.
abbrev pub HasTurnCause : List KeeperEvent → KeeperState → KeeperEvent → List Exchange → Fault → Type 0
HasTurnCause before s event told fault.Broken = HasFailed before
HasTurnCause before s event told fault.Device = IsFailure event
HasTurnCause before s event told fault.EpochsSpent = WasEpochLast told
HasTurnCause before s event told fault.Memory = IsMemoryRefusal s event
HasTurnCause before s event told why = ⊥
