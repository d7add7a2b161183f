-- When a search is contended, by the words that its steps have met, as the run tells them.
use Rattle.std.specs.Prelude.{◌≡◌, ℕ, ◌<◌, ◌≤◌, ◌⊎◌, ◌==◌, if◌then◌else◌, List, [], ◌∷◌, slice_get, Option, Some, None}
use Rattle.fkv_plane.specs.declared.asks.Ask.{Ask}
use Rattle.fkv_plane.specs.declared.asks.Ask.TheVariants.{Done}
use Rattle.fkv_plane.specs.declared.places.Places.{Places}
use Rattle.fkv_plane.specs.Places.{bucket_place}
use Rattle.fkv_plane.specs.Asked.{asked, asked_place, word_at, reply_to}
use Rattle.fkv_index.specs.declared.homes.Home.{Home}
use Rattle.fkv_index.specs.declared.finding.Found.TheVariants.{Contended}
use Rattle.fkv_index.specs.declared.finding.FindAnswer.{FindAnswer}
use Rattle.fkv_index.specs.declared.finding.FindStep.TheVariants.{AtRest}
use Rattle.fkv_index.specs.declared.finding.Finding.{Finding}
use Rattle.fkv_index.specs.Slots.{bucket_slots, link_of}
use Rattle.fkv_index.specs.Finding.{find_ask, find_next_ask}
use Rattle.fkv_index.specs.Buckets.{bucket_words, IsAmong, IsOther}
use Rattle.fkv_index.specs.IndexWorld.{SlotWork, Seeks, IndexActor, IndexEvent, BeginsFind, Moves, IndexWorld, may_find, index_run, index_opening}
use Rattle.fkv_index.specs.OneEntry.{IsIndexAt}

-- what a step of a search met: a place, the word there, and the word that the step left there
pub record MetWord : Type 0 where
  pub place : ℕ
  pub word : ℕ
  pub left : ℕ

abbrev pub met_at : {A : Type 0} → List ℕ → Ask A → Option ℕ → List MetWord → List MetWord
met_at words ask None met = met
met_at words ask (Some place) met = record { place = place; word = word_at words place; left = asked ask (word_at words place) } ∷ met

abbrev pub met_by : List ℕ → Finding → SlotWork → List MetWord → List MetWord
met_by words f Seeks met = met_at words (find_ask f) (asked_place (find_ask f)) met
met_by words f work met = met

abbrev pub met_moved : List ℕ → Option IndexActor → List MetWord → List MetWord
met_moved words None met = met
met_moved words (Some x) met = met_by words x.finding x.work met

abbrev pub met_begun : Places → Home → Option IndexActor → List MetWord → List MetWord
met_begun p home None met = met
met_begun p home (Some x) met = if may_find p home x then [] else met

abbrev pub met_after : IndexWorld → ℕ → IndexEvent → List MetWord → List MetWord
met_after w actor (BeginsFind i home purpose) met = if i == actor then met_begun w.now.places home (slice_get w.now.actors actor) met else met
met_after w actor (Moves i) met = if i == actor then met_moved w.now.words (slice_get w.now.actors actor) met else met
met_after w actor event met = met

-- what an actor's last search has met since it began, the newest first, as a run tells it
unfoldable pub met_of : IndexWorld → List IndexEvent → ℕ → List MetWord
met_of opening [] actor = []
met_of opening (event ∷ before) actor = met_after (index_run opening before) actor event (met_of opening before actor)

-- the word that was met last at a place
abbrev pub last_met : ℕ → List MetWord → Option ℕ
last_met place [] = None
last_met place (m ∷ before) = if m.place == place then Some m.word else last_met place before

-- the step met an eighth word that led nowhere, and left one that leads on
pub record IsLink (p : Places) (m : MetWord) : Type 0 where
  pub bucket : ℕ
  pub its_place : m.place ≡ bucket_place p bucket bucket_slots
  pub led_nowhere : link_of m.word ≡ 0
  pub leads_on : 1 ≤ link_of m.left

-- one of the steps has linked a bucket
abbrev pub HasLinked : Places → List MetWord → Type 0
HasLinked p [] = ⊥
HasLinked p (m ∷ before) = IsLink p m ⊎ HasLinked p before

-- the search meets another word than it met last at that place
pub record MeetsAnother (words : List ℕ) (ask : Ask FindAnswer) (met : List MetWord) : Type 0 where
  pub place : ℕ
  pub its_place : asked_place ask ≡ Some place
  pub before : ℕ
  pub met_before : last_met place met ≡ Some before
  pub another : word_at words place ≡ before → ⊥

-- the search has linked a bucket, and all slots of its home have entries of other tags again
pub record IsFilledAgain (w : IndexWorld) (home : Home) (met : List MetWord) : Type 0 where
  pub has_linked : HasLinked w.now.places met
  pub all_others : (m i : ℕ) → IsAmong w.now.places.buckets home.bucket (w.lists home.bucket) m → i < bucket_slots → IsOther home.tag (bucket_words w.now.places w.now.words m i)

-- a search under way ends as contended only where it meets another word than before, or where what it linked is filled again
abbrev pub ContendedHaveMet : IndexWorld → (ℕ → List MetWord) → Type 0
ContendedHaveMet w mets = (actor : ℕ) (x : IndexActor) (answer : FindAnswer) → slice_get w.now.actors actor ≡ Some x → x.work ≡ Seeks → (x.finding.step ≡ AtRest → ⊥)
    → find_next_ask w.now.places x.finding (reply_to w.now.words (find_ask x.finding)) ≡ Done answer → answer.found ≡ Contended
    → MeetsAnother w.now.words (find_ask x.finding) (mets actor) ⊎ IsFilledAgain w x.finding.home (mets actor)

-- what holds at each moment of each run that begins with an index in order, of the world and of what searches have met
abbrev pub AtEachMet : (IndexWorld → (ℕ → List MetWord) → Type 0) → Type 0
AtEachMet P = (p : Places) (words : List ℕ) (lists : ℕ → List ℕ) (actors : ℕ) (events : List IndexEvent) → IsIndexAt (index_opening p words lists actors)
    → P (index_run (index_opening p words lists actors) events) (met_of (index_opening p words lists actors) events)
