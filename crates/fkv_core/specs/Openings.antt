-- The world of a store as its life begins.
use Rattle.std.specs.Prelude.{◌≡◌, ℕ, ◌+◌, ◌==◌, if◌then◌else◌, false, List, [], length, replicate, None, Some, slice_get}
use Rattle.fkv_base.specs.declared.phases.Phase.TheVariants.{Rest}
use Rattle.fkv_keeper.specs.declared.last_commits.Area.{Area}
use Rattle.fkv_keeper.specs.declared.last_commits.Area.TheVariants.{First, Second}
use Rattle.fkv_base.specs.Limits.{drain_slots}
use Rattle.fkv_keeper.specs.Keeping.{Finality}
use Rattle.fkv_keeper.specs.NewKeepers.{ArePlacesOfStore, IsNewKeeper}
use Rattle.fkv_ops.specs.declared.requests.Seen.{Seen}
use Rattle.fkv_opening.specs.Opening.{point_of}
use Rattle.fkv_opening.specs.declared.opened_store.Opened.{Opened}
use Rattle.fkv_session.specs.Sessions.{IsOpened, SessionState, Sitter}
use Rattle.fkv_world.specs.Runs.{World}
use Rattle.fkv_world.specs.World.{Now}
use Rattle.fkv_core.specs.OpeningWords.{AreWordsOfOpened}

-- what the words show a session that loads them
pub record IsOpeningSeen (o : Opened) (seen : Seen) : Type 0 where
  pub phase : seen.phase ≡ Rest
  pub version : seen.version.0 ≡ o.number.0 + 1
  pub head : seen.offsets.head ≡ o.warm
  pub read_only : seen.offsets.read_only ≡ o.tail

-- a session that is awake with no call in hand: its point is its last serial, and its floor the log's begin
pub record IsOpeningSession (o : Opened) (number : ℕ) (s : SessionState) : Type 0 where
  pub opened : IsOpened s
  pub serial : s.serial ≡ point_of o number
  pub floor : s.floor ≡ o.begin
  pub saw : IsOpeningSeen o s.seen

-- it sits at its number, in this store
pub record IsOpeningSitter (o : Opened) (number : ℕ) (s : Sitter) : Type 0 where
  pub shape : s.seat.shape ≡ o.shape
  pub at_number : s.seat.number ≡ number
  pub places : ArePlacesOfStore o.shape s.seat.places
  pub state : IsOpeningSession o number s.state

abbrev pub AreOpeningSitters : Opened → List Sitter → Type 0
AreOpeningSitters o sitters = (number : ℕ) (s : Sitter) → slice_get sitters number ≡ Some s → IsOpeningSitter o number s

-- the area of a number, 0 or 1
abbrev pub area_numbered : ℕ → Area
area_numbered number = if number == 0 then First else Second

-- The newest finished commit, with the gates and the checkpoint that it uses, as the opened store has them.
abbrev pub newest_commit : Opened → Finality
newest_commit o = record {
  number = o.number;
  begin = o.begin;
  points = o.points.items;
  checkpoint = record { number = o.checkpoint.number; first = o.checkpoint.first; triples = o.checkpoint.triples; area = area_numbered o.checkpoint.area };
  gates = o.gates;
}

-- The world of a store that was opened: its words, empty drain slots, a session for each seat, and a keeper at its newest finished commit, with its lost
-- ranges in hand. It goes on.
pub record IsOpeningWorld (o : Opened) (n : Now) : Type 0 where
  pub its_shape : n.shape ≡ o.shape
  pub its_places : ArePlacesOfStore o.shape n.places
  pub its_words : AreWordsOfOpened o n.words
  pub no_actions : n.actions ≡ replicate drain_slots None
  pub seats : length n.sessions ≡ o.shape.sessions
  pub its_sessions : (number : ℕ) (s : SessionState) → slice_get n.sessions number ≡ Some s → IsOpeningSession o number s
  pub its_keeper : IsNewKeeper o.shape (newest_commit o) o.lost.items (record { shape = n.shape; places = n.places; state = n.keeper })
  pub goes_on : n.crashed ≡ false

-- a world of which nothing is past yet, over a device that holds these bytes
abbrev pub beginning : Now → List ℕ → World
beginning n bytes = record { now = n; past = record { opened = bytes; history = []; trace = []; calls = [] } }
