-- A life by a wrong table whose images name no commit of it, have a fault, and hold no store.
use Rattle.std.specs.Prelude.{◌≡◌, ◌≢◌, ℕ, ◌≤◌, true, replicate, List, [], ◌∷◌, ◌++◌, length, Some}
use Rattle.fkv_base.specs.declared.commits.CommitKind.TheVariants.{Full}
use Rattle.fkv_base.specs.declared.faults.Damage.TheVariants.{Manifest}
use Rattle.fkv_base.specs.declared.faults.Fault.TheVariants.{Damaged}
use Rattle.fkv_base.specs.declared.shapes.Shape.{Shape}
use Rattle.fkv_creating.specs.Created.{created_bytes}
use Rattle.fkv_disk.specs.Bytes.{byte_at}
use Rattle.fkv_disk.specs.Calls.{MayLeave, reads_as}
use Rattle.fkv_manifest.specs.Newest.{newest, slot_in}
use Rattle.fkv_newest.specs.Newest.{HasShape}
use Rattle.fkv_opening.specs.Faults.{IsFaultOf}
use Rattle.fkv_opening.specs.Opened.{IsStoreOf}
use Rattle.fkv_opening.specs.declared.opened_store.Opened.{Opened}
use Rattle.fkv_record.specs.Places.{number_at}
use Rattle.fkv_plane.specs.declared.places.Places.{Places}
use Rattle.law_order.specs.Below.fkv_keeper.Keeping.{KeeperState}
use Rattle.law_order.specs.Below.fkv_session.Sessions.{SessionState}
use Rattle.law_order.specs.Below.fkv_world.Runs.{World}
use Rattle.law_order.specs.Below.fkv_world.World.{Commits, Event, KeeperMoves}
use Rattle.law_order.specs.Below.law_commit.BegunCommits.{BegunCommit}
use Rattle.law_log.specs.Trace.{IsIn}
use Rattle.law_order.specs.Prefix.Law.{NamesCommit}
use Rattle.law_wrong_runs.specs.Tables.{Tables, run_by, slot_says_next_number}
use Rattle.law_wrong_runs.specs.WrongPrefixes.{begun_by_table, kept_world}

-- The bytes with which a life begins: the block of this shape, and a first slot that is in force, of commit 0. The second one's gate is closed.
pub record BeginAtFirst (shape : Shape) (bytes : List ℕ) : Type 0 where
  pub block : HasShape bytes shape
  pub in_force : newest bytes ≡ Some 512
  pub number : number_at (slot_in bytes 512) 8 ≡ 0
  pub closed : byte_at bytes 1024 ≢ 165
  pub long : 1536 ≤ length bytes

-- A commit begins, and the keeper makes the five calls of the device by which it is written.
abbrev pub five_calls : List Event
five_calls = replicate 13 (KeeperMoves true true) ++ Commits Full ∷ []

-- no image that such calls may leave of such bytes names a commit that has begun
abbrev pub NeverNamed : Tables → Shape → World → List Event → Type 0
NeverNamed t shape opening events =
    (bytes image : List ℕ) (c : BegunCommit) → BeginAtFirst shape bytes → MayLeave bytes (run_by t opening events).past.calls image → IsIn c (begun_by_table t opening events) → NamesCommit image c → ⊥

-- and each has a fault
abbrev pub AlwaysFaulty : Tables → Shape → World → List Event → Type 0
AlwaysFaulty t shape opening events = (bytes image : List ℕ) → BeginAtFirst shape bytes → MayLeave bytes (run_by t opening events).past.calls image → IsFaultOf image (Damaged Manifest 1)

-- so none holds a store
abbrev pub NeverAStore : Tables → Shape → World → List Event → Type 0
NeverAStore t shape opening events =
    (bytes image : List ℕ) (o : Opened) → BeginAtFirst shape bytes → MayLeave bytes (run_by t opening events).past.calls image → IsStoreOf image o → ⊥

-- There are such images: of any bytes the calls may leave what they make of them.
abbrev pub MayStay : Tables → World → List Event → Type 0
MayStay t opening events = (bytes : List ℕ) → MayLeave bytes (run_by t opening events).past.calls (reads_as bytes (run_by t opening events).past.calls)

-- So it is if a slot says the number after its commit's. That commit has begun, so it would have to be named. But for the
-- point that this world keeps, a new store's bytes begin such a life, whatever its device held before.
pub record AreWrongImages (its : KeeperState) (one other : SessionState) : Type 0 where
  pub shape : Shape
  pub places : Places
  pub begins : (old : List ℕ) → BeginAtFirst shape (created_bytes old shape)
  pub stays : MayStay (slot_says_next_number shape) (kept_world shape places its one other) five_calls
  pub unnamed : NeverNamed (slot_says_next_number shape) shape (kept_world shape places its one other) five_calls
  pub faulty : AlwaysFaulty (slot_says_next_number shape) shape (kept_world shape places its one other) five_calls
  pub storeless : NeverAStore (slot_says_next_number shape) shape (kept_world shape places its one other) five_calls
