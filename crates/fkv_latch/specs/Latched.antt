-- What a latch keeps apart, and what its word counts.
use Rattle.std.specs.Prelude.{◌≡◌, ℕ, ◌+◌, ◌<◌, ◌≤◌, ◌==◌, Bool, true, false, List, [], length, replicate, slice_get, sum_by, Some}
use Rattle.fkv_words.specs.declared.bucket_tail.BucketTail.{BucketTail}
use Rattle.fkv_words.specs.Fields.{bit_of}
use Rattle.fkv_words.specs.Layout.{tail_word}
use Rattle.fkv_plane.specs.declared.places.Places.{Places}
use Rattle.fkv_plane.specs.Places.{Name, Bucket, IsWord, place, word_count}
use Rattle.fkv_plane.specs.Asked.{word_at}
use Rattle.fkv_latch.specs.declared.latching.Latching.{Latching}
use Rattle.fkv_latch.specs.declared.latching.Latching.TheVariants.{AtRest, GivesBack, DropsShare, DropsExclusive}
use Rattle.fkv_latch.specs.Latching.{one_share}
use Rattle.fkv_latch.specs.LatchWorld.{LatchActor, LatchWorld, has_latch, times}

-- the words are those of the places, and no latch is held
pub record IsOpened (places : Places) (words : List ℕ) : Type 0 where
  pub enough_words : word_count places ≤ length words
  pub free : (place : ℕ) → has_latch places place ≡ true → word_at words place < one_share

-- all actors at rest, and none holds a latch
abbrev pub opening : Places → ℕ → List ℕ → LatchWorld
opening places actors words = record { places = places; words = words; actors = replicate actors (record { step = AtRest; shared = []; exclusive = [] }) }

-- of all words, just the last ones of the buckets have a latch
abbrev pub names_latch : Name → Bool
names_latch (Bucket bucket word) = word == 7
names_latch name = false

abbrev pub AreLatchesNamed : Type 0
AreLatchesNamed = (p : Places) (name : Name) → IsWord p name → has_latch p (place p name) ≡ names_latch name

-- an exclusive latch that is held stands beside no shared one of that bucket, and beside no other exclusive one
pub record AreLatchesApart (w : LatchWorld) : Type 0 where
  pub from_shared : (place i j : ℕ) (a b : LatchActor) → slice_get w.actors i ≡ Some a → slice_get w.actors j ≡ Some b → 0 < times place a.exclusive → times place b.shared ≡ 0
  pub one_holder : (place i j : ℕ) (a b : LatchActor) → slice_get w.actors i ≡ Some a → slice_get w.actors j ≡ Some b → 0 < times place a.exclusive → 0 < times place b.exclusive → i ≡ j
  pub held_once : (place i : ℕ) (a : LatchActor) → slice_get w.actors i ≡ Some a → times place a.exclusive ≤ 1

-- what a machine has added to the word, and is about to take off
abbrev pub added_shares : ℕ → Latching → ℕ
added_shares place (GivesBack at) = bit_of (at == place)
added_shares place (DropsShare at) = bit_of (at == place)
added_shares place step = 0

abbrev pub set_bits : ℕ → Latching → ℕ
set_bits place (DropsExclusive at) = bit_of (at == place)
set_bits place step = 0

-- the shares that an actor has in the word at a place, and how often it has set bit 63 there
abbrev pub shares_of : ℕ → LatchActor → ℕ
shares_of place a = times place a.shared + added_shares place a.step

abbrev pub bits_of : ℕ → LatchActor → ℕ
bits_of place a = times place a.exclusive + set_bits place a.step

-- the word of a latch counts just the shares of all actors, and has bit 63 as often as they have set it: once or never
pub record IsCounted (w : LatchWorld) (place : ℕ) : Type 0 where
  pub tail : BucketTail
  pub its_word : word_at w.words place ≡ tail_word tail
  pub its_shares : tail.shared ≡ sum_by (shares_of place) w.actors
  pub its_bit : bit_of tail.exclusive ≡ sum_by (bits_of place) w.actors

abbrev pub AreCounted : LatchWorld → Type 0
AreCounted w = (place : ℕ) → has_latch w.places place ≡ true → IsCounted w place
