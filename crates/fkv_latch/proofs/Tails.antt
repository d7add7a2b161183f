-- The word of a latch as the tail of a bucket: what its tests tell, and what one ask makes of it.
use Rattle.std.proofs.Common.{◌≡◌, ℕ, ◌+◌, ◌-◌, ◌%◌, ◌^◌, ◌<◌, ◌≤◌, List, refl, arith, Bool, true, false}
use Rattle.std.specs.Prelude.{◌||◌, nat_lt, not, slice_get, Some}
use Rattle.std.proofs.lemmas.Bool.Decides.{nat_tests}
use Rattle.fkv_words.specs.Fields.{bit_of}
use Rattle.fkv_words.specs.Layout.{tail_word}
use Rattle.fkv_words.specs.declared.bucket_tail.BucketTail.{BucketTail}
use Rattle.fkv_plane.specs.Asked.{word_at}
use Rattle.fkv_latch.specs.Latching.{is_exclusive, is_free}
use Rattle.fkv_latch.specs.LatchWorld.{LatchActor, LatchWorld, has_latch}
use Rattle.fkv_latch.specs.Latched.{shares_of, bits_of}
use Rattle.fkv_latch.specs.Tasks.{LeadsAlike}
use Rattle.fkv_latch.proofs.Sound.{IsSound, few_shares}
use Rattle.fkv_latch.proofs.Apart.{one_within, sound_counted}

pub bit_small : (b : Bool) → bit_of b ≤ 1
bit_small true = omega arith
bit_small false = omega arith

-- the tests of a word are those of its tail
pub exclusive_test : (tail : BucketTail) (word : ℕ) → word ≡ tail_word tail → is_exclusive word ≡ tail.exclusive
exclusive_test tail word its = tested tail.exclusive refl
  where
    tested : (b : Bool) → tail.exclusive ≡ b → is_exclusive word ≡ b
    tested true e =
        let set : bit_of tail.exclusive ≡ 1 = rw e refl in
        let high : 2 ^ 63 ≤ word = omega (arith, its, set) in
        grind (arith, nat_tests, high)
    tested false e =
        let clear : bit_of tail.exclusive ≡ 0 = rw e refl in
        let low : word < 2 ^ 63 = omega (arith, its, clear, tail.overflow_fits, tail.shared_fits) in
        grind (arith, nat_tests, low)

pub free_test : (tail : BucketTail) (word : ℕ) → word ≡ tail_word tail → is_free word ≡ not (tail.exclusive || nat_lt 0 tail.shared)
free_test tail word its = tested tail.exclusive (nat_lt 0 tail.shared) refl refl
  where
    tested : (b c : Bool) → tail.exclusive ≡ b → nat_lt 0 tail.shared ≡ c → is_free word ≡ not (b || c)
    tested true c e f =
        let set : bit_of tail.exclusive ≡ 1 = rw e refl in
        let high : 2 ^ 48 ≤ word = omega (arith, its, set) in
        grind (arith, nat_tests, high)
    tested false true e f =
        let some : 0 < tail.shared = grind (arith, nat_tests, f) in
        let high : 2 ^ 48 ≤ word = omega (arith, its, some) in
        grind (arith, nat_tests, high)
    tested false false e f =
        let clear : bit_of tail.exclusive ≡ 0 = rw e refl in
        let none : tail.shared ≡ 0 = grind (arith, nat_tests, f) in
        let low : word < 2 ^ 48 = omega (arith, its, clear, none, tail.overflow_fits) in
        grind (arith, nat_tests, low)

-- what one ask makes of it
pub share_more : (tail : BucketTail) (word : ℕ) → word ≡ tail_word tail → tail.shared < 2 ^ 14 → LeadsAlike tail (tail.shared + 1) tail.exclusive ((word + 2 ^ 48) % 2 ^ 64)
share_more tail word its few =
    let bit = bit_small tail.exclusive in
    record {
      after = record { overflow = tail.overflow; shared = tail.shared + 1; exclusive = tail.exclusive; overflow_fits = tail.overflow_fits; shared_fits = omega (arith, few) };
      its_word = omega (arith, its, bit, few, tail.overflow_fits);
      same_link = refl;
      its_shares = refl;
      its_bit = refl;
    }

pub share_less : (tail : BucketTail) (word : ℕ) → word ≡ tail_word tail → tail.shared < 2 ^ 14 → 0 < tail.shared → LeadsAlike tail (tail.shared - 1) tail.exclusive ((word + (2 ^ 64 - 2 ^ 48)) % 2 ^ 64)
share_less tail word its few some =
    let bit = bit_small tail.exclusive in
    record {
      after = record { overflow = tail.overflow; shared = tail.shared - 1; exclusive = tail.exclusive; overflow_fits = tail.overflow_fits; shared_fits = omega (arith, few) };
      its_word = omega (arith, its, bit, few, some, tail.overflow_fits);
      same_link = refl;
      its_shares = refl;
      its_bit = refl;
    }

pub bit_more : (tail : BucketTail) (word : ℕ) → word ≡ tail_word tail → word < 2 ^ 48 → LeadsAlike tail 0 true (word + 2 ^ 63)
bit_more tail word its free = record {
  after = record { overflow = tail.overflow; shared = 0; exclusive = true; overflow_fits = tail.overflow_fits; shared_fits = omega arith };
  its_word = omega (arith, its, free);
  same_link = refl;
  its_shares = refl;
  its_bit = refl;
}

pub bit_less : (tail : BucketTail) (word : ℕ) → word ≡ tail_word tail → tail.shared < 2 ^ 14 → tail.exclusive ≡ true → LeadsAlike tail tail.shared false ((word + 2 ^ 63) % 2 ^ 64)
bit_less tail word its few alone =
    let set : bit_of tail.exclusive ≡ 1 = rw alone refl in
    record {
      after = record { overflow = tail.overflow; shared = tail.shared; exclusive = false; overflow_fits = tail.overflow_fits; shared_fits = omega (arith, few) };
      its_word = omega (arith, its, set, few, tail.overflow_fits);
      same_link = refl;
      its_shares = refl;
      its_bit = refl;
    }

-- the tail of a latch, which counts what an actor has there
pub record HasTail (words : List ℕ) (place : ℕ) (a : LatchActor) : Type 0 where
  pub tail : BucketTail
  pub its_word : word_at words place ≡ tail_word tail
  pub few : tail.shared < 2 ^ 14
  pub own_shares : shares_of place a ≤ tail.shared
  pub own_bits : bits_of place a ≤ bit_of tail.exclusive

pub has_tail : (w : LatchWorld) (i place : ℕ) (a : LatchActor) → IsSound w → slice_get w.actors i ≡ Some a → has_latch w.places place ≡ true → HasTail w.words place a
has_tail w i place a sound got has =
    let counted = sound_counted w sound place has in
    let few = few_shares w.places place w.actors sound.actors in
    let shares = one_within (shares_of place) w.actors i a got in
    let bits = one_within (bits_of place) w.actors i a got in
    record {
      tail = counted.tail;
      its_word = counted.its_word;
      few = omega (arith, counted.its_shares, few);
      own_shares = omega (arith, counted.its_shares, shares);
      own_bits = omega (arith, counted.its_bit, bits);
    }
