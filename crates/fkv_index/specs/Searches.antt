-- What a search does to the words, and what it may answer, by what it was begun for.
use Rattle.std.specs.Prelude.{◌≡◌, ◌≤◌, ◌<◌, ℕ, ◌+◌, ◌/◌, ◌^◌, ◌⊎◌, List, [], ◌∷◌, ◌++◌, slice_get, slice_set, Some, ⊤}
use Rattle.fkv_plane.specs.declared.asks.Ask.TheVariants.{Done}
use Rattle.fkv_plane.specs.declared.places.Places.{Places}
use Rattle.fkv_plane.specs.declared.places.SharedWord.TheVariants as one
use Rattle.fkv_plane.specs.Places.{shared_place, bucket_place}
use Rattle.fkv_plane.specs.Asked.{word_at, reply_to}
use Rattle.fkv_index.specs.declared.finding.Purpose.{Purpose}
use Rattle.fkv_index.specs.declared.finding.Purpose.TheVariants.{Read, Update, UpdateWithin}
use Rattle.fkv_index.specs.declared.finding.Found.{Found}
use Rattle.fkv_index.specs.declared.finding.Found.TheVariants.{NoSlot, Full, Kept, Contended}
use Rattle.fkv_index.specs.declared.finding.FindAnswer.{FindAnswer}
use Rattle.fkv_index.specs.declared.finding.FindStep.TheVariants.{LoadsSlot, LoadsLink}
use Rattle.fkv_index.specs.declared.finding.Finding.{Finding}
use Rattle.fkv_index.specs.Slots.{bucket_slots, link_of}
use Rattle.fkv_index.specs.Finding.{find_ask, find_next_ask}
use Rattle.fkv_index.specs.Buckets.{bucket_words, IsAmong, AreOthers}
use Rattle.fkv_index.specs.IndexWorld.{Seeks, IndexActor, IndexEvent, Moves, IndexWorld, taken_of, index_happens}
use Rattle.fkv_index.specs.OneEntry.{spare_at, IsSlotWord}

-- all words and lists are as they were
pub record ChangesNothing (words after : List ℕ) (lists lists_after : ℕ → List ℕ) : Type 0 where
  pub same_words : after ≡ words
  pub same_lists : lists_after ≡ lists

-- one more overflow bucket is taken
pub record TakesOne (words after : List ℕ) (lists lists_after : ℕ → List ℕ) : Type 0 where
  pub one_more : after ≡ slice_set words (shared_place one.Taken) (taken_of words + 1)
  pub same_lists : lists_after ≡ lists

-- The last bucket of a list, which led nowhere, leads to this overflow bucket, which is the list's last then. The upper bits of the word that leads there, in which a latch is, stay as they are; so do all
-- other words and lists.
pub record LinksOne (p : Places) (words after : List ℕ) (lists lists_after : ℕ → List ℕ) (bucket number : ℕ) : Type 0 where
  pub last : ℕ
  pub its_last : IsAmong p.buckets bucket (lists bucket) last
  pub led_nowhere : link_of (bucket_words p words last bucket_slots) ≡ 0
  pub leads_there : link_of (bucket_words p after last bucket_slots) ≡ number
  pub same_upper : bucket_words p after last bucket_slots / 2 ^ 48 ≡ bucket_words p words last bucket_slots / 2 ^ 48
  pub other_words : (place : ℕ) → (place ≡ bucket_place p last bucket_slots → ⊥) → word_at after place ≡ word_at words place
  pub its_list : lists_after bucket ≡ lists bucket ++ number ∷ []
  pub other_lists : (other : ℕ) → (other ≡ bucket → ⊥) → lists_after other ≡ lists other

-- a search's step changes nothing, or takes a bucket, or links one to the list of its home's bucket
abbrev pub IsSearchStep : Places → List ℕ → List ℕ → (ℕ → List ℕ) → (ℕ → List ℕ) → ℕ → ℕ → Type 0
IsSearchStep p words after lists lists_after bucket number = ChangesNothing words after lists lists_after ⊎ (TakesOne words after lists lists_after ⊎ LinksOne p words after lists lists_after bucket number)

-- and the one that it links is the one that its session has to spare
abbrev pub SearchesWrite : IndexWorld → Type 0
SearchesWrite w = (actor : ℕ) (x : IndexActor) → slice_get w.now.actors actor ≡ Some x → x.work ≡ Seeks
    → IsSearchStep w.now.places w.now.words (index_happens w (Moves actor)).now.words w.lists (index_happens w (Moves actor)).lists x.finding.home.bucket (spare_at w.now.actors actor)

-- only a search for a read comes to no slot, only one for an update finds all overflow buckets taken, and only one within a bound as many as that
abbrev pub IsFoundFor : Purpose → Found → Type 0
IsFoundFor Read Full = ⊥
IsFoundFor Read Kept = ⊥
IsFoundFor Update NoSlot = ⊥
IsFoundFor Update Kept = ⊥
IsFoundFor (UpdateWithin bound) NoSlot = ⊥
IsFoundFor purpose found = ⊤

-- each search comes to what one of its purpose may come to
abbrev pub AnswersPurpose : IndexWorld → Type 0
AnswersPurpose w = (actor : ℕ) (x : IndexActor) (answer : FindAnswer) → slice_get w.now.actors actor ≡ Some x → x.work ≡ Seeks
    → find_next_ask w.now.places x.finding (reply_to w.now.words (find_ask x.finding)) ≡ Done answer → IsFoundFor x.purpose answer.found

-- Where a search finds all overflow buckets taken its session has none to spare, and some bucket of the list was met full of entries of other tags, which are there yet.
pub record IsFullThen (w : IndexWorld) (actor : ℕ) (x : IndexActor) : Type 0 where
  pub all_taken : taken_of w.now.words ≡ w.now.places.overflow
  pub none_spare : spare_at w.now.actors actor ≡ 0
  pub bucket : ℕ
  pub its_bucket : IsAmong w.now.places.buckets x.finding.home.bucket (w.lists x.finding.home.bucket) bucket
  pub full_of_others : AreOthers (bucket_words w.now.places w.now.words) x.finding.home.tag bucket bucket_slots

abbrev pub FullIsSo : IndexWorld → Type 0
FullIsSo w = (actor : ℕ) (x : IndexActor) (answer : FindAnswer) → slice_get w.now.actors actor ≡ Some x → x.work ≡ Seeks
    → find_next_ask w.now.places x.finding (reply_to w.now.words (find_ask x.finding)) ≡ Done answer → answer.found ≡ Full → IsFullThen w actor x

-- an event that is a step of a search, which links a bucket to one list and changes no other
pub record IsLinkBy (w : IndexWorld) (event : IndexEvent) : Type 0 where
  pub actor : ℕ
  pub its_event : event ≡ Moves actor
  pub x : IndexActor
  pub got : slice_get w.now.actors actor ≡ Some x
  pub seeks : x.work ≡ Seeks
  pub links : LinksOne w.now.places w.now.words (index_happens w event).now.words w.lists (index_happens w event).lists x.finding.home.bucket (spare_at w.now.actors actor)

-- no other event changes a list
abbrev pub ListsMove : IndexWorld → Type 0
ListsMove w = (event : IndexEvent) → ((index_happens w event).lists ≡ w.lists) ⊎ IsLinkBy w event

-- whatever state a search is in, a reply that no store gives ends it as contended, with the spare that it had: a slot's word that is neither empty nor an entry, a link to no overflow bucket, and one link more than it may follow
pub record EndsAtSpoiled (p : Places) (f : Finding) (reply : ℕ) : Type 0 where
  pub slots : (slot : ℕ) → f.step ≡ LoadsSlot slot → (IsSlotWord reply → ⊥) → find_next_ask p f reply ≡ Done (record { found = Contended; spare = f.spare })
  pub far_links : f.step ≡ LoadsLink → p.overflow < link_of reply → find_next_ask p f reply ≡ Done (record { found = Contended; spare = f.spare })
  pub many_links : f.step ≡ LoadsLink → 1 ≤ link_of reply → f.links ≡ 0 → find_next_ask p f reply ≡ Done (record { found = Contended; spare = f.spare })

abbrev pub SpoiledEnd : Type 0
SpoiledEnd = (p : Places) (f : Finding) (reply : ℕ) → EndsAtSpoiled p f reply
