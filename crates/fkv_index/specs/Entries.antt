-- The entry of a home: the one in the order of its slots that has its tag, 0 where none has.
use Rattle.std.specs.Prelude.{◌≡◌, ℕ, zero, suc, ◌+◌, ◌==◌, ◌&&◌, not, if◌then◌else◌, List, [], ◌∷◌, ◌++◌, slice_get, slice_set, Option, Some, None, ⊤}
use Rattle.fkv_plane.specs.declared.asks.Ask.{Ask}
use Rattle.fkv_plane.specs.declared.asks.Ask.TheVariants.{Done}
use Rattle.fkv_plane.specs.declared.places.Places.{Places}
use Rattle.fkv_plane.specs.Asked.{word_at, reply_to}
use Rattle.fkv_index.specs.declared.homes.Home.{Home}
use Rattle.fkv_index.specs.declared.finding.Found.{Found}
use Rattle.fkv_index.specs.declared.finding.Found.TheVariants.{Slot, NoSlot, Full, Kept, Contended}
use Rattle.fkv_index.specs.declared.finding.FindAnswer.{FindAnswer}
use Rattle.fkv_index.specs.declared.publishing.PublishAnswer.{PublishAnswer}
use Rattle.fkv_index.specs.declared.publishing.PublishAnswer.TheVariants.{Won, Lost}
use Rattle.fkv_index.specs.declared.publishing.Publishing.TheVariants as publish
use Rattle.fkv_index.specs.Slots.{bucket_slots, entry_tag}
use Rattle.fkv_index.specs.Finding.{find_ask, find_next_ask}
use Rattle.fkv_index.specs.Publishing.{publish_first, publish_ask, publish_next_ask}
use Rattle.fkv_index.specs.Buckets.{bucket_words, overflow_bucket}
use Rattle.fkv_index.specs.IndexWorld.{SlotWork, Seeks, Enters, IndexActor, IndexEvent, Moves, IndexNow, IndexWorld, index_happens}
use Rattle.fkv_index.specs.OneEntry.{IsHome}

-- so many words of a bucket, from the first of them on
unfoldable pub slots_from : (ℕ → ℕ → ℕ) → ℕ → ℕ → ℕ → List ℕ
slots_from g bucket first zero = []
slots_from g bucket first (suc count) = g bucket first ∷ slots_from g bucket (first + 1) count

-- the words of a bucket's slots, and then of the overflow buckets of its list
unfoldable pub order_of : ℕ → (ℕ → ℕ → ℕ) → ℕ → List ℕ → List ℕ
order_of buckets g bucket [] = slots_from g bucket 0 bucket_slots
order_of buckets g bucket (number ∷ rest) = slots_from g bucket 0 bucket_slots ++ order_of buckets g (overflow_bucket buckets number) rest

-- the first word that is an entry of the tag
unfoldable pub entry_in : ℕ → List ℕ → ℕ
entry_in tag [] = 0
entry_in tag (word ∷ rest) = if not (word == 0) && entry_tag word == tag then word else entry_in tag rest

-- the entry of a home
abbrev pub entry_at : Places → List ℕ → (ℕ → List ℕ) → Home → ℕ
entry_at p words lists home = entry_in home.tag (order_of p.buckets (bucket_words p words) home.bucket (lists home.bucket))

abbrev pub entry_of : IndexWorld → Home → ℕ
entry_of w home = entry_at w.now.places w.now.words w.lists home

-- a search finds the home's entry, 0 where it has none
abbrev pub IsEntryFound : ℕ → Found → Type 0
IsEntryFound entry (Slot place word) = entry ≡ word
IsEntryFound entry NoSlot = entry ≡ 0
IsEntryFound entry Full = ⊤
IsEntryFound entry Kept = ⊤
IsEntryFound entry Contended = ⊤

abbrev pub IsEntryAnswered : ℕ → Ask FindAnswer → Type 0
IsEntryAnswered entry (Done answer) = IsEntryFound entry answer.found
IsEntryAnswered entry ask = ⊤

-- each search answers the entry that its home has at the step that ends it
abbrev pub AnswersEntry : IndexWorld → Type 0
AnswersEntry w = (actor : ℕ) (x : IndexActor) → slice_get w.now.actors actor ≡ Some x → x.work ≡ Seeks
    → IsEntryAnswered (entry_of w x.finding.home) (find_next_ask w.now.places x.finding (reply_to w.now.words (find_ask x.finding)))

-- what the one ask of a publish is answered, with the words after it
abbrev pub publish_answer : List ℕ → ℕ → ℕ → ℕ → Ask PublishAnswer
publish_answer words place word entry = publish_next_ask (publish_first place word entry) (reply_to words (publish_ask (publish_first place word entry)))

-- it is won where the word that was found stands in the slot, and the entry has taken its place; else it is lost, and no word has changed
abbrev pub IsPublishTrue : List ℕ → ℕ → ℕ → ℕ → List ℕ → Ask PublishAnswer → Type 0
IsPublishTrue words place word entry after (Done Won) = (word_at words place ≡ word) × (after ≡ slice_set words place entry)
IsPublishTrue words place word entry after (Done Lost) = (word_at words place ≡ word → ⊥) × (after ≡ words)
IsPublishTrue words place word entry after ask = ⊥

-- each publish ends at its one ask, and what it is answered is so
abbrev pub PublishesTrue : IndexWorld → Type 0
PublishesTrue w = (actor : ℕ) (x : IndexActor) (place word entry : ℕ) → slice_get w.now.actors actor ≡ Some x → x.work ≡ Enters (publish_first place word entry)
    → IsPublishTrue w.now.words place word entry (index_happens w (Moves actor)).now.words (publish_answer w.now.words place word entry)

-- an entry that a step publishes, with its home and the entry that it takes the place of
pub record NewEntry : Type 0 where
  pub home : Home
  pub before : ℕ
  pub entry : ℕ

abbrev pub won_entry : NewEntry → Ask PublishAnswer → Option NewEntry
won_entry its (Done Won) = Some its
won_entry its ask = None

abbrev pub published_in : List ℕ → Home → SlotWork → Option NewEntry
published_in words home (Enters (publish.SwapsEntry place word entry)) = won_entry (record { home = home; before = word; entry = entry }) (publish_answer words place word entry)
published_in words home work = None

abbrev pub published_by : IndexNow → Option IndexActor → Option NewEntry
published_by n None = None
published_by n (Some x) = published_in n.words x.finding.home x.work

abbrev pub published : IndexNow → IndexEvent → Option NewEntry
published n (Moves actor) = published_by n (slice_get n.actors actor)
published n event = None

-- one home gets the new entry, in the place of the one that it had, and all others keep theirs
pub record IsPublished (its : NewEntry) (entry after : Home → ℕ) (p : Places) : Type 0 where
  pub had : entry its.home ≡ its.before
  pub has : after its.home ≡ its.entry
  pub others : (home : Home) → IsHome p home → (home ≡ its.home → ⊥) → after home ≡ entry home

abbrev pub EntriesMove : Option NewEntry → (Home → ℕ) → (Home → ℕ) → Places → Type 0
EntriesMove None entry after p = (home : Home) → IsHome p home → after home ≡ entry home
EntriesMove (Some its) entry after p = IsPublished its entry after p

-- a publish that is answered as won changes the entry of its home, and nothing else changes an entry
abbrev pub EachMovesEntries : IndexWorld → Type 0
EachMovesEntries w = (event : IndexEvent) → EntriesMove (published w.now event) (entry_of w) (entry_of (index_happens w event)) w.now.places
