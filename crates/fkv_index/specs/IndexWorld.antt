-- The world of these machines: the words, and how far each actor has come. Others work on the same words too.
use Rattle.std.specs.Prelude.{ℕ, ◌+◌, ◌-◌, ◌*◌, ◌%◌, ◌^◌, ◌==◌, ◌&&◌, ◌||◌, not, nat_lt, nat_le, if◌then◌else◌, Bool, true, false, List, [], ◌∷◌, ◌++◌, replicate, slice_get, slice_set, Option, Some, None}
use Rattle.fkv_plane.specs.declared.asks.Ask.{Ask}
use Rattle.fkv_plane.specs.declared.asks.Ask.TheVariants.{Done}
use Rattle.fkv_plane.specs.declared.places.Places.{Places}
use Rattle.fkv_plane.specs.declared.places.SharedWord.TheVariants as one
use Rattle.fkv_plane.specs.Places.{shared_place, bucket_place, frames_start}
use Rattle.fkv_plane.specs.Asked.{word_at, words_after, reply_to}
use Rattle.fkv_index.specs.declared.homes.Home.{Home}
use Rattle.fkv_index.specs.declared.finding.Purpose.{Purpose}
use Rattle.fkv_index.specs.declared.finding.Purpose.TheVariants.{Read}
use Rattle.fkv_index.specs.declared.finding.Found.{Found}
use Rattle.fkv_index.specs.declared.finding.Found.TheVariants.{Slot}
use Rattle.fkv_index.specs.declared.finding.FindAnswer.{FindAnswer}
use Rattle.fkv_index.specs.declared.finding.FindStep.{FindStep}
use Rattle.fkv_index.specs.declared.finding.FindStep.TheVariants as find
use Rattle.fkv_index.specs.declared.finding.Finding.{Finding}
use Rattle.fkv_index.specs.declared.publishing.Publishing.{Publishing}
use Rattle.fkv_index.specs.declared.publishing.Publishing.TheVariants as publish
use Rattle.fkv_index.specs.Slots.{bucket_slots, entry_addr, link_of}
use Rattle.fkv_index.specs.Finding.{rested, first_finding, find_ask, find_next, find_next_ask}
use Rattle.fkv_index.specs.Publishing.{publish_first, publish_ask, publish_next}

-- What an actor is about.
pub data SlotWork : Type 0 where
  -- it searches, or rests
  Seeks : SlotWork
  -- it has found the slot at this place, and this word in it
  Holds : ℕ → ℕ → SlotWork
  -- it publishes an entry there
  Enters : Publishing → SlotWork

pub record IndexActor : Type 0 where
  pub finding : Finding
  pub work : SlotWork
  -- what its last search was begun for
  pub purpose : Purpose
  -- the overflow bucket that it has to spare, as its last search answered, 0 where it has none
  pub spare : ℕ

-- What may happen next.
pub data IndexEvent : Type 0 where
  -- the actor begins to seek the slot of a home
  BeginsFind : ℕ → Home → Purpose → IndexEvent
  -- the actor begins to publish an entry of this address in the slot that it has found
  BeginsPublish : ℕ → ℕ → IndexEvent
  -- the actor makes its one ask
  Moves : ℕ → IndexEvent
  -- somebody else changes a word, but for what is barred
  Changes : ℕ → ℕ → IndexEvent

pub record IndexNow : Type 0 where
  pub places : Places
  pub words : List ℕ
  pub actors : List IndexActor

pub record IndexWorld : Type 0 where
  pub now : IndexNow
  -- the overflow buckets that were linked to each bucket, in the order of their links
  pub lists : ℕ → List ℕ

-- the count of overflow buckets that are taken
abbrev pub taken_of : List ℕ → ℕ
taken_of words = word_at words (shared_place one.Taken)

abbrev pub is_bucket_place : Places → ℕ → Bool
is_bucket_place p place = nat_le (bucket_place p 0 0) place && nat_lt place (frames_start p)

-- the eighth word of a bucket
abbrev pub is_link_place : Places → ℕ → Bool
is_link_place p place = (place - bucket_place p 0 0) % 8 == bucket_slots

-- others leave the count and the buckets alone, but for an eighth word's upper bits
abbrev pub is_barred : Places → List ℕ → ℕ → ℕ → Bool
is_barred p words place word = place == shared_place one.Taken || (is_bucket_place p place && not (is_link_place p place && link_of word == link_of (word_at words place)))

abbrev pub with_actor : IndexNow → ℕ → IndexActor → IndexNow
with_actor n actor x = record n { actors = slice_set n.actors actor x }

abbrev pub is_publishing : SlotWork → Bool
is_publishing (Enters (publish.SwapsEntry place word entry)) = true
is_publishing work = false

abbrev pub is_seeking : FindStep → Bool
is_seeking find.AtRest = false
is_seeking step = true

-- there is such a home, and the actor is through with what it was about
abbrev pub may_find : Places → Home → IndexActor → Bool
may_find p home x = nat_lt home.bucket p.buckets && nat_lt home.tag (2 ^ 15) && not (is_seeking x.finding.step) && not (is_publishing x.work)

abbrev pub find_begun : IndexNow → ℕ → Home → Purpose → Option IndexActor → IndexNow
find_begun n actor home purpose None = n
find_begun n actor home purpose (Some x) = if may_find n.places home x then with_actor n actor (record x { finding = first_finding n.places home purpose x.spare; work = Seeks; purpose = purpose }) else n

-- the address of an entry is above the one that it takes the place of
abbrev pub may_publish : ℕ → ℕ → Bool
may_publish word addr = nat_lt (entry_addr word) addr && nat_lt addr (2 ^ 48)

abbrev pub new_entry : ℕ → ℕ → ℕ
new_entry addr tag = addr + tag * 2 ^ 48

abbrev pub work_begun : Finding → ℕ → SlotWork → SlotWork
work_begun f addr (Holds place word) = if may_publish word addr then Enters (publish_first place word (new_entry addr f.home.tag)) else Holds place word
work_begun f addr work = work

abbrev pub publish_begun : IndexNow → ℕ → ℕ → Option IndexActor → IndexNow
publish_begun n actor addr None = n
publish_begun n actor addr (Some x) = with_actor n actor (record x { work = work_begun x.finding addr x.work })

-- what a step leads to: the words, and how far its actor has come
pub record IndexNear : Type 0 where
  pub words : List ℕ
  pub finding : Finding
  pub work : SlotWork

abbrev pub near : List ℕ → Finding → SlotWork → IndexNear
near words f work = record { words = words; finding = f; work = work }

abbrev pub found_work : Found → SlotWork
found_work (Slot place word) = Holds place word
found_work found = Seeks

abbrev pub answer_work : Ask FindAnswer → SlotWork
answer_work (Done answer) = found_work answer.found
answer_work ask = Seeks

abbrev pub seek_step : Places → List ℕ → Finding → IndexNear
seek_step p words f =
    near (words_after words (find_ask f)) (find_next p f (reply_to words (find_ask f))) (answer_work (find_next_ask p f (reply_to words (find_ask f))))

abbrev pub enter_step : List ℕ → Finding → Publishing → IndexNear
enter_step words f step = near (words_after words (publish_ask step)) f (Enters (publish_next step (reply_to words (publish_ask step))))

-- one ask of the actor, by the tables of its machine
abbrev pub actor_step : Places → List ℕ → Finding → SlotWork → IndexNear
actor_step p words f Seeks = seek_step p words f
actor_step p words f (Holds place word) = near words f (Holds place word)
actor_step p words f (Enters step) = enter_step words f step

-- a search that ends tells its actor which bucket it has to spare
abbrev pub spare_told : ℕ → Ask FindAnswer → ℕ
spare_told spare (Done answer) = answer.spare
spare_told spare ask = spare

abbrev pub spare_by : Places → List ℕ → Finding → ℕ → SlotWork → ℕ
spare_by p words f spare Seeks = spare_told spare (find_next_ask p f (reply_to words (find_ask f)))
spare_by p words f spare work = spare

abbrev pub actor_after : Places → List ℕ → IndexActor → SlotWork → IndexActor
actor_after p words x work =
    record x { finding = (actor_step p words x.finding work).finding; work = (actor_step p words x.finding work).work; spare = spare_by p words x.finding x.spare work }

abbrev pub moved : IndexNow → ℕ → Option IndexActor → IndexNow
moved n actor None = n
moved n actor (Some x) = record n { words = (actor_step n.places n.words x.finding x.work).words; actors = slice_set n.actors actor (actor_after n.places n.words x x.work) }

abbrev pub index_happens_now : IndexNow → IndexEvent → IndexNow
index_happens_now n (BeginsFind actor home purpose) = find_begun n actor home purpose (slice_get n.actors actor)
index_happens_now n (BeginsPublish actor addr) = publish_begun n actor addr (slice_get n.actors actor)
index_happens_now n (Moves actor) = moved n actor (slice_get n.actors actor)
index_happens_now n (Changes place word) = if is_barred n.places n.words place word then n else record n { words = slice_set n.words place word }

-- the lists with one more number at a bucket's end
abbrev pub with_link : (ℕ → List ℕ) → ℕ → ℕ → ℕ → List ℕ
with_link lists bucket number other = if other == bucket then lists other ++ number ∷ [] else lists other

-- the Cas that links a bucket, where it is won
abbrev pub lists_sought : List ℕ → (ℕ → List ℕ) → Finding → FindStep → ℕ → List ℕ
lists_sought words lists f (find.LinksBucket word) = if word_at words (f.base + bucket_slots) == word then with_link lists f.home.bucket f.spare else lists
lists_sought words lists f step = lists

abbrev pub lists_by : List ℕ → (ℕ → List ℕ) → Finding → SlotWork → ℕ → List ℕ
lists_by words lists f Seeks = lists_sought words lists f f.step
lists_by words lists f work = lists

abbrev pub lists_moved : IndexNow → (ℕ → List ℕ) → Option IndexActor → ℕ → List ℕ
lists_moved n lists None = lists
lists_moved n lists (Some x) = lists_by n.words lists x.finding x.work

abbrev pub lists_after : IndexNow → IndexEvent → (ℕ → List ℕ) → ℕ → List ℕ
lists_after n (Moves actor) lists = lists_moved n lists (slice_get n.actors actor)
lists_after n event lists = lists

unfoldable pub index_happens : IndexWorld → IndexEvent → IndexWorld
index_happens w event = record { now = index_happens_now w.now event; lists = lists_after w.now event w.lists }

-- a whole run, the newest event first
unfoldable pub index_run : IndexWorld → List IndexEvent → IndexWorld
index_run opening [] = opening
index_run opening (event ∷ before) = index_happens (index_run opening before) event

abbrev pub rested_actor : IndexActor
rested_actor = record { finding = rested 0; work = Seeks; purpose = Read; spare = 0 }

-- all actors at rest, and none has a bucket to spare
abbrev pub index_opening : Places → List ℕ → (ℕ → List ℕ) → ℕ → IndexWorld
index_opening p words lists actors = record { now = record { places = p; words = words; actors = replicate actors rested_actor }; lists = lists }
