-- What an actor that holds a latch can rely on.
use Rattle.std.proofs.Common.{◌≡◌, ℕ, zero, suc, ◌+◌, ◌*◌, ◌%◌, ◌^◌, ◌<◌, ◌≤◌, ◌⊎◌, List, [], ◌∷◌, refl, arith, ap, inl, inr, Bool, true, false}
use Rattle.std.specs.Prelude.{Some, ◌==◌, slice_get, sum_by}
use Rattle.std.proofs.lemmas.Bool.Decides.{nat_tests}
use Rattle.std.proofs.lemmas.List.Sums.{sum_by-cons}
use Rattle.fkv_words.specs.Fields.{bit_of}
use Rattle.fkv_words.specs.Layout.{tail_word}
use Rattle.fkv_words.specs.declared.bucket_tail.BucketTail.{BucketTail}
use Rattle.fkv_plane.specs.Asked.{word_at}
use Rattle.fkv_plane.specs.declared.asks.Ask.TheVariants.{Done}
use Rattle.fkv_latch.specs.declared.latching.LatchAnswer.TheVariants.{Taken, Busy}
use Rattle.fkv_latch.specs.declared.latching.Latching.TheVariants.{AddsShare, GivesBack, SetsExclusive}
use Rattle.fkv_latch.specs.Latching.{one_share, exclusive_bit, is_exclusive, latch_ask, latch_next_ask}
use Rattle.fkv_latch.specs.LatchWorld.{LatchActor, LatchWorld, has_latch, latch_of, times}
use Rattle.fkv_latch.specs.Latched.{AreLatchesApart, AreCounted, shares_of, bits_of}
use Rattle.fkv_latch.proofs.Words.{IsAt}
use Rattle.fkv_latch.proofs.Actors.{WorksOnLatch}
use Rattle.fkv_latch.proofs.Sound.{IsSound, StandsAt, held_of, few_shares}

-- one term is within the sum, and two are where they are two
pub one_within : {X : Type 0} (f : X → ℕ) (xs : List X) (i : ℕ) (a : X) → slice_get xs i ≡ Some a → f a ≤ sum_by f xs
one_within f [] i a got = cc
one_within f (x ∷ xs) zero a got = let same : x ≡ a = cc in let all = sum_by-cons f x xs in rw (← same) (omega (arith, all))
one_within f (x ∷ xs) (suc i) a got = omega (arith, one_within f xs i a got, sum_by-cons f x xs)

two_within : {X : Type 0} (f : X → ℕ) (xs : List X) (i j : ℕ) (a b : X) → slice_get xs i ≡ Some a → slice_get xs j ≡ Some b → (i ≡ j) ⊎ (f a + f b ≤ sum_by f xs)
two_within f [] i j a b got other = cc
two_within f (x ∷ xs) zero zero a b got other = inl refl
two_within f (x ∷ xs) zero (suc j) a b got other = let same : x ≡ a = cc in let all = sum_by-cons f x xs in let rest = one_within f xs j b other in inr (rw (← same) (omega (arith, all, rest)))
two_within f (x ∷ xs) (suc i) zero a b got other = let same : x ≡ b = cc in let all = sum_by-cons f x xs in let rest = one_within f xs i a got in inr (rw (← same) (omega (arith, all, rest)))
two_within f (x ∷ xs) (suc i) (suc j) a b got other = elim (two_within f xs i j a b got other) [
  | inl e ↦ inl (ap suc e)
  | inr h ↦ inr (omega (arith, h, sum_by-cons f x xs))
]

-- where an actor holds a latch, it has one
stands_for : (w : LatchWorld) (place i : ℕ) (a : LatchActor) → IsSound w → slice_get w.actors i ≡ Some a → 0 < times place a.shared + times place a.exclusive → StandsAt (word_at w.words place) w.actors place
stands_for w place i a sound got some = sound.stands place ((sound.actors i a got).of_latches place some)

pub sound_apart : (w : LatchWorld) → IsSound w → AreLatchesApart w
sound_apart w sound = record {
  from_shared = λ place i j a b got other some.
      let stands = stands_for w place i a sound got (omega (arith, some)) in
      let bits = one_within (bits_of place) w.actors i a got in
      let none = stands.apart (omega (arith, bits, some)) in
      let held = one_within (held_of place) w.actors j b other in
      omega (arith, held, none);
  one_holder = λ place i j a b got other some more.
      let stands = stands_for w place i a sound got (omega (arith, some)) in
      elim (two_within (bits_of place) w.actors i j a b got other) [
        | inl e ↦ e
        | inr two ↦ absurd (omega (arith, two, some, more, stands.single))
      ];
  held_once = λ place i a got. elim (few_or_some (times place a.exclusive)) [
    | inl none ↦ omega (arith, none)
    | inr some ↦
        let stands = stands_for w place i a sound got (omega (arith, some)) in
        let bits = one_within (bits_of place) w.actors i a got in
        omega (arith, bits, stands.single)
  ];
}
  where
    few_or_some : (n : ℕ) → (n ≡ 0) ⊎ (0 < n)
    few_or_some zero = inl refl
    few_or_some (suc n) = inr (omega arith)

-- a word that counts so, as the tail of a bucket
record TailOf (word shares bits : ℕ) : Type 0 where
  tail : BucketTail
  its_word : word ≡ tail_word tail
  its_shares : tail.shared ≡ shares
  its_bit : bit_of tail.exclusive ≡ bits

tail_of : (word shares bits held : ℕ) → shares < 2 ^ 14 → IsAt word shares bits held → TailOf word shares bits
tail_of word shares bits held few at = tested (bits == 1) refl
  where
    made : (b : Bool) → bit_of b ≡ bits → TailOf word shares bits
    made b same = record {
      tail = record { overflow = word % 2 ^ 48; shared = shares; exclusive = b; overflow_fits = omega arith; shared_fits = omega (arith, few) };
      its_word = omega (arith, at.counted, same);
      its_shares = refl;
      its_bit = same;
    }

    tested : (b : Bool) → (bits == 1) ≡ b → TailOf word shares bits
    tested true e = made true (grind (arith, nat_tests, e))
    tested false e = made false (grind (arith, nat_tests, e, at.single))

-- the latch of a word that is spelled so: who changes nothing else of a tail keeps its latch
pub tail_latch : (tail : BucketTail) → latch_of (tail_word tail) ≡ tail.shared + 2 ^ 15 * bit_of tail.exclusive
tail_latch tail = omega (arith, tail.overflow_fits)

pub sound_counted : (w : LatchWorld) → IsSound w → AreCounted w
sound_counted w sound place has =
    let its = tail_of (word_at w.words place) _ _ _ (few_shares w.places place w.actors sound.actors) (sound.stands place has) in
    record { tail = its.tail; its_word = its.its_word; its_shares = its.its_shares; its_bit = its.its_bit }

-- while an actor holds a latch together with others, bit 63 of its word is clear, and it counts someone
pub shared_stands : (w : LatchWorld) (place i : ℕ) (a : LatchActor) → IsSound w → slice_get w.actors i ≡ Some a → 0 < times place a.shared
    → (word_at w.words place < exclusive_bit) × (one_share ≤ word_at w.words place)
shared_stands w place i a sound got some =
    let stands = stands_for w place i a sound got (omega (arith, some)) in
    let held = one_within (held_of place) w.actors i a got in
    let shares = one_within (shares_of place) w.actors i a got in
    let few = few_shares w.places place w.actors sound.actors in
    grind (arith, stands.counted, stands.single, stands.apart, held, shares, few, some)

-- while one holds it alone, bit 63 is set
pub exclusive_stands : (w : LatchWorld) (place i : ℕ) (a : LatchActor) → IsSound w → slice_get w.actors i ≡ Some a → 0 < times place a.exclusive → exclusive_bit ≤ word_at w.words place
exclusive_stands w place i a sound got some =
    let stands = stands_for w place i a sound got (omega (arith, some)) in
    let bits = one_within (bits_of place) w.actors i a got in
    omega (arith, stands.counted, stands.single, bits, some)

-- where nobody holds it alone, or is about to drop it, bit 63 is clear
no_bits : (f : LatchActor → ℕ) (actors : List LatchActor) → ((i : ℕ) (a : LatchActor) → slice_get actors i ≡ Some a → f a ≡ 0) → sum_by f actors ≡ 0
no_bits f [] none = refl
no_bits f (a ∷ others) none = omega (arith, sum_by-cons f a others, none 0 a refl, no_bits f others (λ i b got. none (suc i) b got))

pub clear_stands : (w : LatchWorld) (place : ℕ) → IsSound w → has_latch w.places place ≡ true → ((i : ℕ) (a : LatchActor) → slice_get w.actors i ≡ Some a → bits_of place a ≡ 0) → word_at w.words place < exclusive_bit
clear_stands w place sound has none =
    let stands = sound.stands place has in
    let few = few_shares w.places place w.actors sound.actors in
    let clear = no_bits (bits_of place) w.actors none in
    omega (arith, stands.counted, few, clear)

-- so a share that is added then is taken, one that meets bit 63 is given back, and nobody takes alone what others share
pub share_is_taken : (place word : ℕ) → word < exclusive_bit → latch_next_ask (AddsShare place) word ≡ Done Taken
unfolding latch_next_ask
share_is_taken place word clear = let e : is_exclusive word ≡ false = grind (arith, nat_tests, clear) in rw e refl

pub share_is_given_back : (place word : ℕ) → exclusive_bit ≤ word → latch_next_ask (AddsShare place) word ≡ latch_ask (GivesBack place)
unfolding latch_next_ask
share_is_given_back place word set = let e : is_exclusive word ≡ true = grind (arith, nat_tests, set) in rw e refl

pub exclusive_is_lost : (w : LatchWorld) (place word i j : ℕ) (a b : LatchActor) → IsSound w → slice_get w.actors i ≡ Some a → 0 < times place a.shared
    → slice_get w.actors j ≡ Some b → b.step ≡ SetsExclusive place word → latch_next_ask b.step (word_at w.words place) ≡ Done Busy
unfolding latch_next_ask
exclusive_is_lost w place word i j a b sound got some other at =
    let low = (shared_stands w place i a sound got some).1 in
    let works : WorksOnLatch w.places (SetsExclusive place word) = rw at at (sound.actors j b other).works in
    let free = works.1 in
    let e : (word_at w.words place == word) ≡ false = grind (arith, nat_tests, low, free) in
    rw (at, e) refl
