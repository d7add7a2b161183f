-- A keeper's run: turns and commits that are begun, replies, actions and calls of the device, in any order, and what they tell.
use Rattle.std.specs.Prelude.{◌≡◌, ℕ, List, [], ◌∷◌, Bool, true, false, ◌||◌, Option, Some, None}
use Rattle.fkv_base.specs.declared.numbers.Version.{Version}
use Rattle.fkv_base.specs.declared.shapes.Shape.{Shape}
use Rattle.fkv_plane.specs.declared.actions.Action.{Action}
use Rattle.fkv_plane.specs.declared.asks.Ask.{Ask}
use Rattle.fkv_plane.specs.declared.asks.Ask.TheVariants.{Done}
use Rattle.fkv_plane.specs.declared.places.Places.{Places}
use Rattle.fkv_base.specs.declared.commits.CommitKind.{CommitKind}
use Rattle.fkv_manifest.specs.Committing.{CommitWriter}
use Rattle.fkv_maintain.specs.declared.maintaining.Maintaining.TheVariants.{Through}
use Rattle.fkv_maintain.specs.Maintaining.{is_flush_resting}
use Rattle.fkv_sweep.specs.Sweeping.{sweep_begun}
use Rattle.fkv_keeper.specs.declared.answers.KeeperTold.{KeeperTold}
use Rattle.fkv_keeper.specs.declared.answers.KeeperTold.TheVariants.{Device, Turned, Begun}
use Rattle.fkv_keeper.specs.declared.keepers.Keeping.{Keeping}
use Rattle.fkv_keeper.specs.declared.keepers.Keeping.TheVariants.{Ended, Waits, Writes}
use Rattle.fkv_keeper.specs.Keeping.{KeeperState, commit_asked, turn_asked, keeper_ask, keeper_next, keeper_given, keeper_called}

-- what may happen next
pub data KeeperEvent : Type 0 where
  -- a turn is begun, or a commit of a kind, where no call is in hand
  BeginsTurn : KeeperEvent
  BeginsCommit : CommitKind → KeeperEvent
  -- its ask is replied to, and whether memory is granted where the reply leads to a copy, and going on where writes or a flush rest
  Replies : ℕ → Bool → KeeperEvent
  -- it gets the action of a drain slot
  Gets : Action → KeeperEvent
  -- it calls the device: whether the call succeeded, and what it read
  Calls : Bool → List ℕ → KeeperEvent

-- a call is in hand
abbrev pub is_in_hand : Keeping → Bool
is_in_hand (Ended its) = false
is_in_hand step = true

abbrev pub begins : KeeperState → Bool → KeeperState → KeeperState
begins s true begun = s
begins s false begun = begun

unfoldable pub keeper_happens : Shape → Places → KeeperState → KeeperEvent → KeeperState
keeper_happens shape p s BeginsTurn = begins s (is_in_hand s.step) (turn_asked s)
keeper_happens shape p s (BeginsCommit kind) = begins s (is_in_hand s.step) (commit_asked s kind)
keeper_happens shape p s (Replies reply granted) = keeper_next shape p s reply granted
keeper_happens shape p s (Gets action) = keeper_given shape p s action
keeper_happens shape p s (Calls done bytes) = keeper_called shape p s done bytes

-- a whole run, the newest event first
unfoldable pub keeper_run : Shape → Places → KeeperState → List KeeperEvent → KeeperState
keeper_run shape p opening [] = opening
keeper_run shape p opening (event ∷ before) = keeper_happens shape p (keeper_run shape p opening before) event

-- The keeper of a store that was opened: no call and no commit is in hand, no writes and no flush rest, the device has not failed, and no part of a turn is under way.
-- Mailboxes are served of a log that begins where that of the newest finished commit does, and a sweep has nothing to go over.
pub record IsOpened (s : KeeperState) : Type 0 where
  pub none_in_hand : is_in_hand s.step ≡ false
  pub no_commit : s.commit ≡ None
  pub none_rest : s.rests ≡ false
  pub none_flushed : is_flush_resting s.maintain ≡ false
  pub works : s.is_broken ≡ false
  pub turns_rest : s.maintain.step ≡ Through
  pub serves_from : s.maintain.begin ≡ s.last.begin
  pub none_swept : (shape : Shape) × (p : Places) × (s.sweep ≡ sweep_begun shape p s.last.begin s.last.begin)

-- it asks for the device, and the call fails
abbrev pub is_failure : KeeperEvent → Ask KeeperTold → Bool
is_failure (Calls false bytes) (Done Device) = true
is_failure event ask = false

-- a call of the device has failed
unfoldable pub has_failed : Shape → Places → KeeperState → List KeeperEvent → Bool
has_failed shape p opening [] = false
has_failed shape p opening (event ∷ before) = is_failure event (keeper_ask shape p (keeper_run shape p opening before)) || has_failed shape p opening before

-- what it is told to write, and the answers of its calls since then, the newest first
pub record Writing : Type 0 where
  pub first : CommitWriter
  pub answers : List Bool

abbrev pub writing_after : Keeping → KeeperEvent → KeeperState → Writing → Writing
writing_after Waits (Replies reply granted) after w = record { first = after.writes; answers = [] }
writing_after Writes (Calls done bytes) after w = record w { answers = done ∷ w.answers }
writing_after step event after w = w

unfoldable pub writing : Shape → Places → KeeperState → List KeeperEvent → Writing
writing shape p opening [] = record { first = opening.writes; answers = [] }
writing shape p opening (event ∷ before) = writing_after (keeper_run shape p opening before).step event (keeper_run shape p opening (event ∷ before)) (writing shape p opening before)

-- an event ends a call, or goes on with it, where one was in hand, or where it begins one
abbrev pub is_calling : Keeping → KeeperEvent → Bool
is_calling (Ended its) BeginsTurn = true
is_calling (Ended its) (BeginsCommit kind) = true
is_calling (Ended its) event = false
is_calling step event = true

-- the number that was told as begun last, and not as finished since then
abbrev pub open_after : Keeping → Option Version → Option Version
open_after (Ended (Begun number)) was = Some number
open_after (Ended (Turned true full)) was = None
open_after step was = was

abbrev pub open_told : Bool → Keeping → Option Version → Option Version
open_told true after was = open_after after was
open_told false after was = was

unfoldable pub number_open : Shape → Places → KeeperState → List KeeperEvent → Option Version
number_open shape p opening [] = None
number_open shape p opening (event ∷ before) =
    open_told (is_calling (keeper_run shape p opening before).step event) (keeper_run shape p opening (event ∷ before)).step (number_open shape p opening before)
