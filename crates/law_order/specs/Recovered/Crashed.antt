-- What a crash leaves of a life that is worked out, where its second commit has begun, and the lives that follow.
use Rattle.std.specs.Prelude.{◌≡◌, ℕ, None, Some, List, [], ◌∷◌}
use Rattle.std.specs.FinMap.{get}
use Rattle.fkv_base.specs.declared.faults.Fault.{Fault}
use Rattle.fkv_disk.specs.Calls.{MayLeave}
use Rattle.fkv_map.specs.History.{content}
use Rattle.fkv_map.specs.declared.history.HistoryEntry.{HistoryEntry}
use Rattle.fkv_map.specs.declared.operations.Reply.TheVariants.{Nothing}
use Rattle.law_opening.specs.Below.fkv_opening.Faults.{IsFaultOf}
use Rattle.law_opening.specs.Below.fkv_opening.Opened.{IsStoreOf}
use Rattle.law_opening.specs.Below.fkv_opening.TheOpened.{Opened}
use Rattle.law_log.specs.Worked.{entry_of, gives_70}
use Rattle.law_opening.specs.Log.Maps.{opening_map}
use Rattle.law_order.specs.OneHistory.Committed.{CrashedLife}
use Rattle.law_order.specs.OneHistory.EachLife.{Life}
use Rattle.law_commit.specs.Below.fkv_world.World.{Event}
use Rattle.law_order.specs.Prefix.Law.{AreLives, BeginsWithKept, calls_so_far, map_of}
use Rattle.law_order.specs.Served.Fits.{CallsFit}
use Rattle.law_order.specs.Tickets.Few.{HasFewCalls}

-- the one update that the first commit keeps
abbrev pub kept_first : List HistoryEntry
kept_first = entry_of 0 1 gives_70 Nothing ∷ []

-- The image holds the first commit, without a fault. The map of its store is the one with which the life began, behind that update alone.
pub record HoldsFirst (its : Life) (image : List ℕ) : Type 0 where
  pub faultless : (fault : Fault) → IsFaultOf image fault → ⊥
  pub number : (r : Opened) → IsStoreOf image r → r.number.0 ≡ 1
  pub pairs : (r : Opened) → IsStoreOf image r → opening_map image r ≡ content (map_of its) kept_first

-- The life began with no key. The crash may leave an image of it, and each that it may leave is so.
pub record CrashKeepsFirst : Type 0 where
  pub crashed : CrashedLife
  pub empty : (key : ℕ) → (let life = crashed in get (map_of life.its) key ≡ None)
  pub image : List ℕ
  pub left : (let life = crashed in let its = life.its in MayLeave its.bytes (calls_so_far its.world its.bytes its.events) image)
  pub each : (other : List ℕ) → (let life = crashed in let its = life.its in MayLeave its.bytes (calls_so_far its.world its.bytes its.events) other) → (let life = crashed in HoldsFirst life.its other)

-- ---- the life after the crash
abbrev pub first_life : CrashKeepsFirst → Life
first_life first = (let life = first.crashed in life.its)

-- A life begins with an image that the crash left, and has these events. It opens as the first commit, and key 5 has the value 70.
pub record GoesOn (first : CrashKeepsFirst) (events : List Event) : Type 0 where
  pub its : Life
  pub same : (let life = its in life.events ≡ events)
  pub lives : AreLives (its ∷ first_life first ∷ [])
  pub number : (let life = its in let o = life.opened in o.number.0 ≡ 1)
  pub pairs : (let life = its in map_of life ≡ content (map_of (first_life first)) kept_first)
  pub value : (let life = its in get (map_of life) 5 ≡ Some 70)
  pub begins : (let life = its in BeginsWithKept life (first_life first ∷ []))

-- So a life with any events follows the crashed one.
pub record CrashGoesOn : Type 0 where
  pub first : CrashKeepsFirst
  pub next : (events : List Event) → CallsFit events → HasFewCalls events → GoesOn first events
