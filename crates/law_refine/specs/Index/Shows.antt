-- How the world of the index shows the engine's, and when its steps are permitted.
use Rattle.std.specs.Prelude.{◌≡◌, ℕ, ◌^◌, true, false, List, [], ◌∷◌, length, slice_get, Option, Some, None, ⊤}
use Rattle.fkv_plane.specs.declared.asks.Ask.{Ask}
use Rattle.fkv_plane.specs.declared.places.Places.{Places}
use Rattle.fkv_plane.specs.declared.places.SharedWord.TheVariants as one
use Rattle.fkv_plane.specs.Places.{shared_place}
use Rattle.fkv_plane.specs.Asked.{asked, asked_place, word_at}
use Rattle.fkv_index.specs.Slots.{link_of}
use Rattle.fkv_index.specs.Publishing.{publish_first}
use Rattle.fkv_index.specs.IndexWorld as index
use Rattle.fkv_index.specs.IndexWorld.{IndexActor, IndexWorld, is_bucket_place, is_link_place, is_publishing, is_seeking, new_entry, index_opening, index_run}
use Rattle.fkv_index.specs.OneEntry.{IsIndexAt}
use Rattle.law_world.specs.Below.fkv_keeper.KeeperRun as keeper
use Rattle.law_world.specs.Below.fkv_keeper.Keeping.{keeper_ask}
use Rattle.law_world.specs.Below.fkv_session.Sessions as sessions
use Rattle.law_world.specs.Below.fkv_session.Sessions.{SessionState, session_ask}
use Rattle.law_world.specs.Below.fkv_world.World.{Event, Moves, KeeperMoves, Now, seat_at}
use Rattle.law_world.specs.Below.fkv_world.Runs.{World, run}
use Rattle.law_refine.specs.Index.Finders.{SessionWork, NoWork, Searches, KeepsSlot, PublishesEntry, IndexPart, session_part, session_search, session_entry}
use Rattle.law_refine.specs.Index.IndexEvents.{mapped}

-- What others do to a word: they leave the count of taken overflow buckets and the slots as they are, and an eighth word of a bucket
-- leads where it led.
pub record KeepsWord (p : Places) (place before after : ℕ) : Type 0 where
  pub count : place ≡ shared_place one.Taken → after ≡ before
  pub slots : is_bucket_place p place ≡ true → is_link_place p place ≡ false → after ≡ before
  pub links : is_bucket_place p place ≡ true → is_link_place p place ≡ true → link_of after ≡ link_of before

abbrev pub KeepsIndex : Places → List ℕ → Option ℕ → (ℕ → ℕ) → Type 0
KeepsIndex p words None f = ⊤
KeepsIndex p words (Some place) f = KeepsWord p place (word_at words place) (f (word_at words place))

abbrev pub SparesIndex : {A : Type 0} → Places → List ℕ → Ask A → Type 0
SparesIndex p words ask = KeepsIndex p words (asked_place ask) (asked ask)

-- so does each ask of a session that neither searches nor publishes, and each of the keeper
abbrev pub SessionSpares : Now → ℕ → Option SessionState → Type 0
SessionSpares n session None = ⊤
SessionSpares n session (Some s) = session_search s ≡ None → session_entry s ≡ None → SparesIndex n.places n.words (session_ask (seat_at n session) s)

abbrev pub IsPermitted : Now → Event → Type 0
IsPermitted n (Moves session) = SessionSpares n session (slice_get n.sessions session)
IsPermitted n (KeeperMoves granted done) = SparesIndex n.places n.words (keeper_ask n.shape n.places n.keeper)
IsPermitted n event = ⊤

-- each step of a life is permitted
abbrev pub ArePermitted : World → List Event → Type 0
ArePermitted opening [] = ⊤
ArePermitted opening (event ∷ before) = IsPermitted (run opening before).now event × ArePermitted opening before

-- the world of the index as a life begins: all rest, and these overflow buckets were linked to each bucket
abbrev pub opening_index : World → (ℕ → List ℕ) → IndexWorld
opening_index opening lists = index_opening opening.now.places opening.now.words lists (length opening.now.sessions)

-- As a life begins the index is in order, there is a session for each seat of the store, and each session and the keeper are as their store
-- was opened; the keeper serves and finishes commits for just the store's sessions.
pub record IsOpened (opening : World) (lists : ℕ → List ℕ) : Type 0 where
  pub its_index : IsIndexAt (opening_index opening lists)
  pub buckets : opening.now.places.buckets ≡ 2 ^ opening.now.shape.bucket_bits
  pub seats : length opening.now.sessions ≡ opening.now.places.sessions
  pub sessions : (i : ℕ) (s : SessionState) → slice_get opening.now.sessions i ≡ Some s → sessions.IsOpened s
  pub served : opening.now.shape.sessions ≡ opening.now.places.sessions
  pub finished : opening.now.keeper.finish.sessions ≡ opening.now.shape.sessions
  pub keeper : keeper.IsOpened opening.now.keeper

-- an actor that neither searches nor publishes
abbrev pub IsFree : IndexActor → Type 0
IsFree a = (is_seeking a.finding.step ≡ false) × (is_publishing a.work ≡ false)

-- it searches as the session does, it has found the slot by which the session goes, or it publishes what the session publishes there
abbrev pub IsWork : SessionWork → IndexActor → Type 0
IsWork NoWork a = IsFree a
IsWork (Searches its) a = (a.work ≡ index.Seeks) × (a.finding ≡ its.finding) × (a.purpose ≡ its.purpose)
IsWork (KeepsSlot slot) a = (a.work ≡ index.Holds slot.place slot.word) × (a.finding.home ≡ slot.home) × (is_seeking a.finding.step ≡ false)
IsWork (PublishesEntry slot addr) a = (a.work ≡ index.Enters (publish_first slot.place slot.word (new_entry addr slot.home.tag))) × (a.finding.home ≡ slot.home) × (is_seeking a.finding.step ≡ false)

-- an actor is a session's: it is about the same, and was told of the same bucket to spare
pub record IsPart (its : IndexPart) (a : IndexActor) : Type 0 where
  pub work : IsWork its.work a
  pub spare : a.spare ≡ its.spare

pub record HasActor (w : IndexWorld) (session : ℕ) (s : SessionState) : Type 0 where
  pub actor : IndexActor
  pub got : slice_get w.now.actors session ≡ Some actor
  pub its : IsPart (session_part s) actor

-- the same words, and an actor for each session
pub record Shows (n : Now) (w : IndexWorld) : Type 0 where
  pub places : w.now.places ≡ n.places
  pub words : w.now.words ≡ n.words
  pub actors : (session : ℕ) (s : SessionState) → slice_get n.sessions session ≡ Some s → HasActor w session s

-- what the index sees of a life: a run of its world
abbrev pub seen_by_index : World → (ℕ → List ℕ) → List Event → IndexWorld
seen_by_index opening lists events = index_run (opening_index opening lists) (mapped opening events)
