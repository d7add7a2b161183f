-- What holds of the index at every moment: its buckets in order, one entry for each home, and what searches have found.
use Rattle.std.specs.Prelude.{◌≡◌, ℕ, ◌+◌, ◌^◌, ◌<◌, ◌≤◌, ◌⊎◌, List, [], ◌++◌, slice_get, length, Option, Some, None, ⊤}
use Rattle.fkv_base.specs.declared.numbers.Key.{Key}
use Rattle.fkv_plane.specs.declared.asks.Ask.{Ask}
use Rattle.fkv_plane.specs.declared.asks.Ask.TheVariants.{Load, Done}
use Rattle.fkv_plane.specs.declared.places.Places.{Places}
use Rattle.fkv_plane.specs.Places.{bucket_place, frames_start}
use Rattle.fkv_plane.specs.Asked.{word_at, reply_to}
use Rattle.fkv_index.specs.declared.homes.Home.{Home}
use Rattle.fkv_index.specs.declared.finding.Purpose.TheVariants.{Read}
use Rattle.fkv_index.specs.declared.finding.Found.{Found}
use Rattle.fkv_index.specs.declared.finding.Found.TheVariants.{Slot, NoSlot, Full, Kept, Contended}
use Rattle.fkv_index.specs.declared.finding.FindAnswer.{FindAnswer}
use Rattle.fkv_index.specs.declared.finding.Linking.TheVariants.{Made}
use Rattle.fkv_index.specs.declared.finding.FindStep.{FindStep}
use Rattle.fkv_index.specs.declared.finding.FindStep.TheVariants.{AtRest, LoadsSlot, LoadsLink, LoadsTaken, TakesBucket, LinksBucket}
use Rattle.fkv_index.specs.declared.finding.Finding.{Finding}
use Rattle.fkv_index.specs.Slots.{bucket_slots, home_of, entry_addr, entry_tag, link_of}
use Rattle.fkv_index.specs.Finding.{find_ask, find_next_ask}
use Rattle.fkv_index.specs.Buckets.{bucket_words, overflow_bucket, IsLinked, AreFilled, HasOneEntry, HasPassed, LacksTag, IsMember, IsOnce}
use Rattle.fkv_index.specs.IndexWorld.{Seeks, Holds, IndexActor, IndexEvent, Moves, IndexWorld, taken_of, index_happens, index_run, index_opening}

-- Who has an overflow bucket: nobody while it isn't taken, then the session that took it, and then the bucket to which it was linked.
pub data Owner : Type 0 where
  Nobody : Owner
  SpareOf : ℕ → Owner
  ListedAt : ℕ → Owner

abbrev pub spare_in : Option IndexActor → ℕ
spare_in None = 0
spare_in (Some x) = x.finding.spare

-- the bucket that an actor has to spare, 0 where it has none
abbrev pub spare_at : List IndexActor → ℕ → ℕ
spare_at actors actor = spare_in (slice_get actors actor)

-- each overflow bucket from 1 to the count of those taken is in one list, once, or is one actor's spare, and no other bucket is
pub record AreOwned (taken : ℕ) (lists : ℕ → List ℕ) (spares : ℕ → ℕ) (owner : ℕ → Owner) : Type 0 where
  pub listed : (bucket number : ℕ) → IsMember number (lists bucket) → owner number ≡ ListedAt bucket
  pub in_list : (bucket number : ℕ) → owner number ≡ ListedAt bucket → IsMember number (lists bucket)
  pub once : (bucket : ℕ) → IsOnce (lists bucket)
  pub spared : (actor : ℕ) → 1 ≤ spares actor → owner (spares actor) ≡ SpareOf actor
  pub is_spare : (actor number : ℕ) → owner number ≡ SpareOf actor → spares actor ≡ number
  pub taken_some : (number : ℕ) → 1 ≤ number → number ≤ taken → owner number ≡ Nobody → ⊥
  pub none_else : (number : ℕ) → (1 ≤ number → number ≤ taken → ⊥) → owner number ≡ Nobody

-- a bucket that was never linked is empty, and leads nowhere
pub record IsFresh (g : ℕ → ℕ → ℕ) (bucket : ℕ) : Type 0 where
  pub no_entry : (i : ℕ) → i < bucket_slots → g bucket i ≡ 0
  pub no_link : link_of (g bucket bucket_slots) ≡ 0

-- a slot's word is empty or an entry
abbrev pub IsSlotWord : ℕ → Type 0
IsSlotWord word = (word ≡ 0) ⊎ ((0 < entry_addr word) × (entry_tag word < 2 ^ 15))

-- the index: its buckets are in order, and each home has one entry at most
pub record IsIndex (p : Places) (words : List ℕ) (lists : ℕ → List ℕ) (spares : ℕ → ℕ) : Type 0 where
  pub enough_words : frames_start p ≤ length words
  pub few_taken : taken_of words ≤ p.overflow
  pub linked : (bucket : ℕ) → bucket < p.buckets → IsLinked p.buckets (bucket_words p words) bucket (lists bucket)
  pub filled : (bucket : ℕ) → bucket < p.buckets → AreFilled p.buckets (bucket_words p words) bucket (lists bucket)
  pub one_entry : (bucket : ℕ) → bucket < p.buckets → HasOneEntry p.buckets (bucket_words p words) bucket (lists bucket)
  -- no overflow bucket follows one that isn't there
  pub no_others : (bucket : ℕ) → p.buckets ≤ bucket → lists bucket ≡ []
  pub entries : (m i : ℕ) → m < p.buckets + p.overflow → i < bucket_slots → IsSlotWord (bucket_words p words m i)
  pub owner : ℕ → Owner
  pub owned : AreOwned (taken_of words) lists spares owner
  pub fresh : (number : ℕ) → 1 ≤ number → number ≤ p.overflow → ((bucket : ℕ) → owner number ≡ ListedAt bucket → ⊥) → IsFresh (bucket_words p words) (overflow_bucket p.buckets number)

abbrev pub IsIndexAt : IndexWorld → Type 0
IsIndexAt w = IsIndex w.now.places w.now.words w.lists (spare_at w.now.actors)

-- a home that there is
pub record IsHome (p : Places) (home : Home) : Type 0 where
  pub few : home.bucket < p.buckets
  pub fits : home.tag < 2 ^ 15

-- each key has a home that there is, where there are 2^bits buckets
abbrev pub HomesAreThere : Type 0
HomesAreThere = (p : Places) (bits : ℕ) (key : Key) → p.buckets ≡ 2 ^ bits → IsHome p (home_of bits key)

-- a slot that has held an entry of the tag, and has that entry now or a newer one of the same tag
pub record HasHeld (tag word now : ℕ) : Type 0 where
  pub some : 0 < entry_addr word
  pub its_tag : entry_tag word ≡ tag
  pub some_now : now ≡ 0 → ⊥
  pub tag_now : entry_tag now ≡ tag
  pub rises : entry_addr word ≤ entry_addr now

-- the slot at a place is one of the home's: all slots before it in the order of the list have entries of other tags; and it was empty, or has held the entry
pub record HasSlot (p : Places) (g : ℕ → ℕ → ℕ) (lists : ℕ → List ℕ) (home : Home) (place word : ℕ) : Type 0 where
  pub its_home : IsHome p home
  pub bucket : ℕ
  pub slot : ℕ
  pub in_bucket : slot < bucket_slots
  pub its_place : place ≡ bucket_place p bucket slot
  pub passed : HasPassed p.buckets g home.tag home.bucket (lists home.bucket) bucket slot
  pub held : (word ≡ 0) ⊎ HasHeld home.tag word (g bucket slot)

-- no slot of the home has an entry of its tag
abbrev pub LacksEntry : Places → List ℕ → (ℕ → List ℕ) → Home → Type 0
LacksEntry p words lists home = LacksTag p.buckets (bucket_words p words) home.tag home.bucket (lists home.bucket)

-- what a search comes to is so at that step: the slot has the word, and where it is empty the home has no entry; a read that found no slot found that the home has none
abbrev pub IsTrue : Places → List ℕ → (ℕ → List ℕ) → Home → Found → Type 0
IsTrue p words lists home (Slot place word) = (word_at words place ≡ word) × HasSlot p (bucket_words p words) lists home place word × (word ≡ 0 → LacksEntry p words lists home)
IsTrue p words lists home NoSlot = LacksEntry p words lists home
IsTrue p words lists home Full = p.overflow ≤ taken_of words
IsTrue p words lists home Kept = ⊤
IsTrue p words lists home Contended = ⊤

abbrev pub IsTrueAnswer : Places → List ℕ → (ℕ → List ℕ) → Home → Ask FindAnswer → Type 0
IsTrueAnswer p words lists home (Done answer) = IsTrue p words lists home answer.found
IsTrueAnswer p words lists home ask = ⊤

-- each answer of a search is true at the step that gives it
abbrev pub AnswersTrue : IndexWorld → Type 0
AnswersTrue w = (actor : ℕ) (x : IndexActor) → slice_get w.now.actors actor ≡ Some x → x.work ≡ Seeks
    → IsTrueAnswer w.now.places w.now.words w.lists x.finding.home (find_next_ask w.now.places x.finding (reply_to w.now.words (find_ask x.finding)))

-- a search has lost where another actor's Cas came first, or where others have filled the bucket that it linked and none follows
abbrev pub HasLost : List ℕ → Finding → FindStep → Type 0
HasLost words f AtRest = ⊤
HasLost words f (LoadsSlot slot) = ⊥
HasLost words f LoadsLink = (f.linking ≡ Made) × (link_of (word_at words (f.base + bucket_slots)) ≡ 0)
HasLost words f (LoadsTaken word) = ⊥
HasLost words f (TakesBucket word taken) = taken_of words ≡ taken → ⊥
HasLost words f (LinksBucket word) = word_at words (f.base + bucket_slots) ≡ word → ⊥

-- a search that ends as contended has lost: it has met no word that no store writes
abbrev pub ContendedHaveLost : IndexWorld → Type 0
ContendedHaveLost w = (actor : ℕ) (x : IndexActor) (answer : FindAnswer) → slice_get w.now.actors actor ≡ Some x → x.work ≡ Seeks
    → find_next_ask w.now.places x.finding (reply_to w.now.words (find_ask x.finding)) ≡ Done answer → answer.found ≡ Contended → HasLost w.now.words x.finding x.finding.step

-- the bucket that a search at rest has told its actor of is the one that it owns
abbrev pub SparesTold : IndexWorld → Type 0
SparesTold w = (actor : ℕ) (x : IndexActor) → slice_get w.now.actors actor ≡ Some x → x.finding.step ≡ AtRest → x.spare ≡ spare_at w.now.actors actor

abbrev pub IsLoad : {A : Type 0} → Ask A → Type 0
IsLoad (Load place) = ⊤
IsLoad (Done answer) = ⊤
IsLoad ask = ⊥

-- a read asks for loads alone, and changes no word
abbrev pub ReadsLoad : IndexWorld → Type 0
ReadsLoad w = (actor : ℕ) (x : IndexActor) → slice_get w.now.actors actor ≡ Some x → x.work ≡ Seeks → x.purpose ≡ Read
    → IsLoad (find_ask x.finding) × ((index_happens w (Moves actor)).now.words ≡ w.now.words)

-- and what was found stays found until the entry is published, or another search begins
abbrev pub HaveSlots : IndexWorld → Type 0
HaveSlots w = (actor : ℕ) (x : IndexActor) (place word : ℕ) → slice_get w.now.actors actor ≡ Some x → x.work ≡ Holds place word
    → HasSlot w.now.places (bucket_words w.now.places w.now.words) w.lists x.finding.home place word

-- a slot that isn't empty keeps its tag for good, and its address does not fall
abbrev pub KeepsEntries : Places → List ℕ → List ℕ → Type 0
KeepsEntries p words after = (m i : ℕ) → m < p.buckets + p.overflow → i < bucket_slots → (bucket_words p words m i ≡ 0 → ⊥)
    → (bucket_words p after m i ≡ 0 → ⊥) × (entry_tag (bucket_words p after m i) ≡ entry_tag (bucket_words p words m i)) × (entry_addr (bucket_words p words m i) ≤ entry_addr (bucket_words p after m i))

-- lists grow at their ends
abbrev pub KeepsLists : (ℕ → List ℕ) → (ℕ → List ℕ) → Type 0
KeepsLists lists after = (bucket : ℕ) → (more : List ℕ) × (after bucket ≡ lists bucket ++ more)

-- what an event leaves
pub record Grows (p : Places) (words after : List ℕ) (lists lists_after : ℕ → List ℕ) : Type 0 where
  pub its_entries : KeepsEntries p words after
  pub its_lists : KeepsLists lists lists_after
  pub more_taken : taken_of words ≤ taken_of after

-- what holds at each moment of each run that begins with an index in order
abbrev pub AtEachMoment : (IndexWorld → Type 0) → Type 0
AtEachMoment P = (p : Places) (words : List ℕ) (lists : ℕ → List ℕ) (actors : ℕ) (events : List IndexEvent) → IsIndexAt (index_opening p words lists actors) → P (index_run (index_opening p words lists actors) events)

-- each event keeps the tags of entries and lets lists and the count grow; what else it changes the laws on entries and orders say
abbrev pub EachGrows : IndexWorld → Type 0
EachGrows w = (event : IndexEvent) → Grows w.now.places w.now.words (index_happens w event).now.words w.lists (index_happens w event).lists
