-- What holds of the index at every moment of a life, and what an event does to it.
use Rattle.std.specs.Prelude.{◌≡◌, ℕ, ◌<◌, ◌⊎◌, ◌==◌, if◌then◌else◌, List, ◌∷◌, slice_get, Option, Some, None}
use Rattle.fkv_plane.specs.declared.asks.Ask.TheVariants.{Cas, Done}
use Rattle.fkv_plane.specs.declared.places.Places.{Places}
use Rattle.fkv_plane.specs.Asked.{word_at, reply_to}
use Rattle.fkv_plane.specs.Passing.{passed}
use Rattle.fkv_index.specs.declared.finding.FindAnswer.{FindAnswer}
use Rattle.fkv_index.specs.declared.finding.Finding.{Finding}
use Rattle.fkv_index.specs.declared.finding.Found.TheVariants.{Full, Contended}
use Rattle.fkv_index.specs.Buckets.{bucket_words, IsAmong, AreOthers}
use Rattle.fkv_index.specs.Entries.{NewEntry, entry_at, IsEntryAnswered, EntriesMove}
use Rattle.fkv_index.specs.Finding.{find_ask, find_next_ask}
use Rattle.fkv_index.specs.IndexWorld.{new_entry, taken_of}
use Rattle.fkv_index.specs.OneEntry.{IsIndex, HasSlot, IsTrueAnswer, HasLost, Grows}
use Rattle.fkv_index.specs.Searches.{LinksOne}
use Rattle.fkv_index.specs.Slots.{bucket_slots}
use Rattle.fkv_index.specs.SlotOrders.{slot_order, IsFilled, HasTagsOnce, OrdersMove}
use Rattle.law_world.specs.Below.fkv_session.Told.TheVariants as told
use Rattle.law_world.specs.Below.fkv_session.Sessions.{SessionState, session_ask}
use Rattle.law_world.specs.Below.fkv_world.World.{Event, Moves, Now, seat_at}
use Rattle.law_world.specs.Below.fkv_world.Runs.{World, run}
use Rattle.law_refine.specs.Index.Finders.{Search, KeptSlot, SessionWork, Searches, KeepsSlot, PublishesEntry, session_part, session_search}
use Rattle.law_refine.specs.Index.Shows.{IsOpened, seen_by_index}

-- the overflow buckets that follow each bucket, as the run of the index tells them
abbrev pub lists_seen : World → (ℕ → List ℕ) → List Event → ℕ → List ℕ
lists_seen opening lists events = (seen_by_index opening lists events).lists

-- the overflow bucket that a session has to spare: that of its search, where one is under way
abbrev pub spare_held : SessionWork → ℕ → ℕ
spare_held (Searches its) spare = its.finding.spare
spare_held work spare = spare

abbrev pub session_spare : SessionState → ℕ
session_spare s = spare_held (session_part s).work (session_part s).spare

-- The buckets are in order and each home has one entry at most, and each overflow bucket that is taken is in one list, or is what one
-- session has to spare.
pub record IsIndexNow (n : Now) (lists : ℕ → List ℕ) : Type 0 where
  pub spares : ℕ → ℕ
  pub of_sessions : (session : ℕ) (s : SessionState) → slice_get n.sessions session ≡ Some s → spares session ≡ session_spare s
  pub its_index : IsIndex n.places n.words lists spares

-- all overflow buckets are taken, the search has none to spare, and a bucket of its home's list is full of entries of other tags
pub record IsFullNow (p : Places) (words : List ℕ) (lists : ℕ → List ℕ) (f : Finding) : Type 0 where
  pub all_taken : taken_of words ≡ p.overflow
  pub none_spare : f.spare ≡ 0
  pub bucket : ℕ
  pub its_bucket : IsAmong p.buckets f.home.bucket (lists f.home.bucket) bucket
  pub full_of_others : AreOthers (bucket_words p words) f.home.tag bucket bucket_slots

-- so it is where a search ends so; and one that ends as contended has lost a Cas, or what it linked
abbrev pub FullIsSo : Places → List ℕ → (ℕ → List ℕ) → Finding → Type 0
FullIsSo p words lists f = (answer : FindAnswer) → find_next_ask p f (reply_to words (find_ask f)) ≡ Done answer → answer.found ≡ Full → IsFullNow p words lists f

abbrev pub ContendedHasLost : Places → List ℕ → Finding → Type 0
ContendedHasLost p words f = (answer : FindAnswer) → find_next_ask p f (reply_to words (find_ask f)) ≡ Done answer → answer.found ≡ Contended → HasLost words f f.step

-- what a search comes to at the ask that ends it: what is so, and the entry that its home has
pub record IsAnsweredSo (n : Now) (lists : ℕ → List ℕ) (its : Search) : Type 0 where
  pub answer_true : IsTrueAnswer n.places n.words lists its.finding.home (find_next_ask n.places its.finding (reply_to n.words (find_ask its.finding)))
  pub its_entry : IsEntryAnswered (entry_at n.places n.words lists its.finding.home) (find_next_ask n.places its.finding (reply_to n.words (find_ask its.finding)))
  pub its_full : FullIsSo n.places n.words lists its.finding
  pub contended : ContendedHasLost n.places n.words its.finding

abbrev pub AreAnsweredSo : Now → (ℕ → List ℕ) → Type 0
AreAnsweredSo n lists = (session : ℕ) (s : SessionState) (its : Search) → slice_get n.sessions session ≡ Some s → session_search s ≡ Some its → IsAnsweredSo n lists its

-- the slot that a session has found stays its home's until it publishes there
abbrev pub AreSlotsKept : Now → (ℕ → List ℕ) → Type 0
AreSlotsKept n lists = (session : ℕ) (s : SessionState) (slot : KeptSlot) → slice_get n.sessions session ≡ Some s → (session_part s).work ≡ KeepsSlot slot
    → HasSlot n.places (bucket_words n.places n.words) lists slot.home slot.place slot.word

-- the slots of a bucket and of those that follow it are filled from the left, and no two have entries of one tag
pub record IsOrder (order : List ℕ) : Type 0 where
  pub filled : IsFilled order
  pub tags_once : HasTagsOnce order

abbrev pub AreOrders : Now → (ℕ → List ℕ) → Type 0
AreOrders n lists = (bucket : ℕ) → bucket < n.places.buckets → IsOrder (slot_order n.places n.words lists bucket)

-- a session's ask is that of its search, or the Cas of its publish
pub record AsksFor (n : Now) (session : ℕ) (s : SessionState) : Type 0 where
  pub searches : (its : Search) → (session_part s).work ≡ Searches its → session_ask (seat_at n session) s ≡ passed (find_ask its.finding) told.Slept
  pub publishes : (slot : KeptSlot) (addr : ℕ) → (session_part s).work ≡ PublishesEntry slot addr → session_ask (seat_at n session) s ≡ Cas slot.place slot.word (new_entry addr slot.home.tag)

abbrev pub AskForThese : Now → (ℕ → List ℕ) → Type 0
AskForThese n lists = (session : ℕ) (s : SessionState) → slice_get n.sessions session ≡ Some s → AsksFor n session s

-- what holds at every moment of each life that begins as a store was opened, with an index in order
abbrev pub AtEachMoment : (Now → (ℕ → List ℕ) → Type 0) → Type 0
AtEachMoment P = (opening : World) (lists : ℕ → List ℕ) (events : List Event) → IsOpened opening lists → P (run opening events).now (lists_seen opening lists events)

-- the entry that an event publishes: a session's, where the word that it met stands in the slot yet
abbrev pub won_there : List ℕ → SessionWork → Option NewEntry
won_there words (PublishesEntry slot addr) = if word_at words slot.place == slot.word then Some (record { home = slot.home; before = slot.word; entry = new_entry addr slot.home.tag }) else None
won_there words work = None

abbrev pub won_by : List ℕ → Option SessionState → Option NewEntry
won_by words None = None
won_by words (Some s) = won_there words (session_part s).work

abbrev pub entry_won : Now → Event → Option NewEntry
entry_won n (Moves session) = if n.crashed then None else won_by n.words (slice_get n.sessions session)
entry_won n event = None

-- the event is a step of a session's search, which links the bucket that the session has to spare
pub record IsLinkNow (n after : Now) (lists lists_after : ℕ → List ℕ) (event : Event) : Type 0 where
  pub session : ℕ
  pub its_event : event ≡ Moves session
  pub s : SessionState
  pub got : slice_get n.sessions session ≡ Some s
  pub its : Search
  pub searches : session_search s ≡ Some its
  pub links : LinksOne n.places n.words after.words lists lists_after its.finding.home.bucket its.finding.spare

-- A publish that is won gives its home the new entry in the place of the one that it had, and changes one slot; all other homes keep theirs.
-- No other event changes an entry, and none but a link a list. A slot that isn't empty keeps its tag, and lists and the count of taken overflow
-- buckets grow.
pub record MovesIndex (n after : Now) (lists lists_after : ℕ → List ℕ) (event : Event) : Type 0 where
  pub entries : EntriesMove (entry_won n event) (entry_at n.places n.words lists) (entry_at after.places after.words lists_after) n.places
  pub orders : OrdersMove (entry_won n event) n.places n.words after.words lists lists_after
  pub its_lists : (lists_after ≡ lists) ⊎ IsLinkNow n after lists lists_after event
  pub grows : Grows n.places n.words after.words lists lists_after

-- at each event of a life
abbrev pub EachMovesIndex : Type 0
EachMovesIndex = (opening : World) (lists : ℕ → List ℕ) (event : Event) (before : List Event) → IsOpened opening lists
    → MovesIndex (run opening before).now (run opening (event ∷ before)).now (lists_seen opening lists before) (lists_seen opening lists (event ∷ before)) event
