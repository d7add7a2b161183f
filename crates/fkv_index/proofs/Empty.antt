-- An empty index is in order.
use Rattle.std.proofs.Common.{◌≡◌, ℕ, zero, suc, ◌+◌, ◌-◌, [], length, refl, inl, arith, sym, ap, ◌∙◌}
use Rattle.std.specs.Prelude.{replicate}
use Rattle.fkv_plane.specs.Places.{bucket_place}
use Rattle.fkv_plane.specs.Asked.{word_at}
use Rattle.fkv_index.specs.Slots.{link_of}
use Rattle.fkv_index.specs.Buckets.{bucket_words}
use Rattle.fkv_index.specs.IndexWorld.{taken_of, rested_actor}
use Rattle.fkv_index.specs.OneEntry.{Owner, Nobody, SpareOf, ListedAt, AreOwned, spare_at}
use Rattle.fkv_index.specs.EighthEntry.{EmptyIsIndex}

zero_at : (n i : ℕ) → word_at (replicate n 0) i ≡ 0
zero_at zero i = refl
zero_at (suc n) zero = refl
zero_at (suc n) (suc i) = zero_at n i

length_zeros : (n : ℕ) → length {A = ℕ} (replicate n 0) ≡ n
length_zeros zero = refl
length_zeros (suc n) = ap suc (length_zeros n)

no_spare : (n actor : ℕ) → spare_at (replicate n rested_actor) actor ≡ 0
no_spare zero actor = refl
no_spare (suc n) zero = refl
no_spare (suc n) (suc actor) = no_spare n actor

nobody : (owner : Owner) → owner ≡ Nobody → (bucket : ℕ) → owner ≡ ListedAt bucket → ⊥
nobody owner none bucket its = let e : Nobody ≡ ListedAt bucket = sym none ∙ its in cc

no_session : (actor : ℕ) → Nobody ≡ SpareOf actor → ⊥
no_session actor e = cc

empty_owned : (actors : ℕ) (taken : ℕ) → taken ≡ 0 → AreOwned taken (λ bucket. []) (spare_at (replicate actors rested_actor)) (λ number. Nobody)
empty_owned actors taken none = record {
  listed = λ bucket number member. absurd member;
  in_list = λ bucket number its. absurd (nobody Nobody refl bucket its);
  once = λ bucket. tt;
  spared = λ actor some. let e = no_spare actors actor in absurd (omega (arith, e, some));
  is_spare = λ actor number its. absurd (no_session actor its);
  taken_some = λ number low high its. omega (arith, low, high, none);
  none_else = λ number out. refl;
}

pub empty_is_index : EmptyIsIndex
empty_is_index p words actors enough =
    let slot : (m i : ℕ) → bucket_words p (replicate words 0) m i ≡ 0 = λ m i. zero_at words (bucket_place p m i) in
    record {
      enough_words = let e = length_zeros words in omega (arith, e, enough);
      few_taken = let e = zero_at words 10 in omega (arith, e);
      linked = λ bucket low. ap link_of (slot bucket 7);
      filled = λ bucket low i j before few empty. slot bucket j;
      one_entry = λ bucket low m k i j a z few high some other e. absurd (some (slot m i));
      no_others = λ bucket high. refl;
      entries = λ m i real low. inl (slot m i);
      owner = λ number. Nobody;
      owned = empty_owned actors (taken_of (replicate words 0)) (zero_at words 10);
      fresh = λ number some few unlisted. record { no_entry = λ i low. slot (p.buckets + (number - 1)) i; no_link = ap link_of (slot (p.buckets + (number - 1)) 7) };
    }
