-- What the guard keeps, said of an event of the engine: from one moment to the next, beside what the guard has at the first.
use Rattle.std.specs.Prelude.{◌≡◌, ◌≢◌, ℕ, ◌+◌, ◌*◌, ◌<◌, ◌≤◌, List, ◌∷◌, ◌++◌, Option, Some, None, slice_get}
use Rattle.fkv_plane.specs.Asked.{word_at}
use Rattle.fkv_plane.specs.Places.{frames_start}
use Rattle.fkv_flush.specs.GuardAsks.{writes}
use Rattle.fkv_flush.specs.GuardLevels.{levels_of}
use Rattle.fkv_flush.specs.GuardSlots.{FindsSlots}
use Rattle.fkv_flush.specs.GuardWorld.{GuardWorld, GuardEvent, guard_run}
use Rattle.fkv_flush.specs.Guarded.{IsOpenPlace, OpensPage}
use Rattle.fkv_keeper.specs.Keeping.{keeper_ask}
use Rattle.fkv_session.specs.Sessions.{SessionState, Seat, session_ask}
use Rattle.fkv_world.specs.World.{Event, Moves, KeeperMoves, Now, seat_at}

-- a word of a frame that the event changes is one of an open place
abbrev pub ChangesOpenPlaces : Now → Now → GuardWorld → Type 0
ChangesOpenPlaces n after w = (place : ℕ) → frames_start n.places ≤ place → word_at after.words place ≢ word_at n.words place → IsOpenPlace w place

-- The place of the word that an event's machine asks to write, if it does: a store of the word as it was counts, and so does a Cas that is lost.
abbrev pub session_writes : Seat → Option SessionState → Option ℕ
session_writes k None = None
session_writes k (Some s) = writes (session_ask k s)

abbrev pub word_written : Now → Event → Option ℕ
word_written n (Moves session) = session_writes (seat_at n session) (slice_get n.sessions session)
word_written n (KeeperMoves granted done) = writes (keeper_ask n.shape n.places n.keeper)
word_written n event = None

-- where it is a word of a frame, it is one of an open place
abbrev pub WritesOpenPlaces : Now → Event → GuardWorld → Type 0
WritesOpenPlaces n event w = (place : ℕ) → word_written n event ≡ Some place → frames_start n.places ≤ place → IsOpenPlace w place

-- the limit rises to the end of a page that the event may open
abbrev pub OpensNextPage : Now → Now → GuardWorld → Type 0
OpensNextPage n after w = (levels_of n.words).limit < (levels_of after.words).limit → (page : ℕ) × ((levels_of after.words).limit ≡ (page + 1) * n.shape.page) × OpensPage w page

-- Each of the guard's events that an event of the engine is finds the slot empty to which it gives an action, and the action in the slot that it takes.
abbrev pub FindTheirSlots : GuardWorld → List GuardEvent → Type 0
FindTheirSlots w events = (later earlier : List GuardEvent) (event : GuardEvent) → events ≡ later ++ (event ∷ earlier) → FindsSlots (guard_run w earlier) event
