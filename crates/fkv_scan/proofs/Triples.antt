-- The triples of a checkpoint, one by one.
use Rattle.std.proofs.Common.{◌≡◌, ◌≢◌, ◌⊎◌, inl, inr, ⊎_elim, ℕ, zero, suc, ◌+◌, ◌<◌, List, [], ◌∷◌, ◌++◌, length, true, false, cond, Option, Some, None, refl, sym, ap, subst, ◌∙◌, arith, length-append}
use Rattle.std.specs.Prelude.{slice_get, ◌↔◌}
use Rattle.std.specs.Option.{is_some}
use Rattle.std.specs.Ordering.{nat_cmp, is_eq}
use Rattle.std.proofs.lemmas.Option.{slice_get_within}
use Rattle.fkv_record.specs.declared.triples.Triple.{Triple}
use Rattle.fkv_scan.specs.Log.{triple_home, AreApart, AreBelow}
use Rattle.fkv_scan.specs.Checkpoint.{Checkpoint, IsTripleAt, IsSoundTriple, IsTripleFault}
use Rattle.fkv_scan.proofs.Keys.{got, kept_some, new_some, some_is, some_of}

-- an element of a list with one more
pub got_more : {A : Type 0} (xs : List A) (x : A) (i : ℕ) (y : A) → slice_get (xs ++ x ∷ []) i ≡ Some y → (slice_get xs i ≡ Some y) ⊎ ((i ≡ length xs) × (x ≡ y))
got_more [] x zero y is = inr (refl, some_is x y is)
got_more [] x (suc i) y is = absurd (cc)
got_more (z ∷ xs) x zero y is = inl is
got_more (z ∷ xs) x (suc i) y is = ⊎_elim inl (λ last. inr ((let same = last.0 in omega (arith, same)), last.1)) (got_more xs x i y is)

pub still_there : {A : Type 0} (xs : List A) (x : A) (i : ℕ) (y : A) → slice_get xs i ≡ Some y → slice_get (xs ++ x ∷ []) i ≡ Some y
still_there [] x i y is = absurd (cc)
still_there (z ∷ xs) x zero y is = is
still_there (z ∷ xs) x (suc i) y is = still_there xs x i y is

pub last_there : {A : Type 0} (xs : List A) (x : A) → slice_get (xs ++ x ∷ []) (length xs) ≡ Some x
last_there [] x = refl
last_there (z ∷ xs) x = last_there xs x

-- what the first triples, and the map of their homes, are
pub record AreSeen (triples : List Triple) (at : ℕ → Option ℕ) (i tail : ℕ) : Type 0 where
  pub many : length triples ≡ i
  pub apart : AreApart triples
  pub below : AreBelow tail triples
  pub known : (h j : ℕ) → at h ≡ Some j → (x : Triple) × (slice_get triples j ≡ Some x) × (triple_home x ≡ h)
  pub all : (j : ℕ) (x : Triple) → slice_get triples j ≡ Some x → is_some (at (triple_home x)) ≡ true

-- each is the one that its bytes spell
pub record AreRead (checkpoint : Checkpoint) (triples : List Triple) : Type 0 where
  pub each : (j : ℕ) (x : Triple) → slice_get triples j ≡ Some x → IsTripleAt checkpoint j x
  pub alone : (j : ℕ) (x y : Triple) → slice_get triples j ≡ Some x → IsTripleAt checkpoint j y → y ≡ x

pub none_read : (checkpoint : Checkpoint) → AreRead checkpoint []
none_read checkpoint = record { each = λ j x is. absurd (cc); alone = λ j x y is. absurd (cc) }

element : {A : Type 0} (xs : List A) (j : ℕ) → j < length xs → (x : A) × (slice_get xs j ≡ Some x)
element [] j below = absurd (omega (arith, below))
element (z ∷ xs) zero below = (z, refl)
element (z ∷ xs) (suc j) below = element xs j (omega (arith, below))

pub none_seen : (at : ℕ → Option ℕ) (tail : ℕ) → ((h : ℕ) → at h ≡ None) → AreSeen [] at 0 tail
none_seen at tail empty = record {
  many = refl;
  apart = λ i j x y is. absurd (cc);
  below = λ i x is. absurd (cc);
  known = λ h j is. (let off : None ≡ Some j = sym (empty h) ∙ is in absurd (cc));
  all = λ j x is. absurd (cc);
}

module _ (triples : List Triple) (at : ℕ → Option ℕ) (i tail : ℕ) (seen : AreSeen triples at i tail) (x : Triple) (h : ℕ) (home_is : h ≡ triple_home x) (new : is_some (at h) ≡ false) where
  other : (j : ℕ) (y : Triple) → slice_get triples j ≡ Some y → triple_home y ≢ triple_home x
  other j y is same = (let had = seen.all j y is in let off : true ≡ false = sym had ∙ ap (λ n. is_some (at n)) (same ∙ sym home_is) ∙ new in cc)

  apart_next : AreApart (triples ++ x ∷ [])
  apart_next j k y z is its same =
      ⊎_elim
      (λ first. ⊎_elim (λ second. seen.apart j k y z first second same) (λ last. absurd (other j y first (same ∙ ap triple_home (sym last.1)))) (got_more triples x k z its))
      (λ last. ⊎_elim (λ second. absurd (other k z second (sym same ∙ ap triple_home (sym last.1)))) (λ end. last.0 ∙ sym end.0) (got_more triples x k z its))
      (got_more triples x j y is)

  -- the same with one more
  pub seen_next : (next : ℕ → Option ℕ) → x.addr.0 < tail → ((q : ℕ) → next q ≡ cond (is_eq (nat_cmp h q)) (Some i) (at q)) → AreSeen (triples ++ x ∷ []) next (i + 1) tail
  seen_next next low updates = record {
    many = (let many = seen.many in omega (arith, many, length-append triples (x ∷ [])));
    apart = apart_next;
    below = λ j y is. ⊎_elim (λ was. seen.below j y was) (λ last. subst (λ t. t.addr.0 < tail) last.1 low) (got_more triples x j y is);
    known = λ q j is. ⊎_elim
        (λ this. (x, ap (λ k. slice_get (triples ++ x ∷ []) k) (sym this.1 ∙ sym seen.many) ∙ last_there triples x, sym home_is ∙ this.0))
        (λ was. (let old = seen.known q j was in (old.0, still_there triples x j old.0 old.1, old.2)))
        (got h q i (at q) j (sym (updates q) ∙ is));
    all = λ j y is. ⊎_elim
        (λ was. ap is_some (updates (triple_home y)) ∙ kept_some h (triple_home y) i (at (triple_home y)) (seen.all j y was))
        (λ last. ap is_some (updates (triple_home y)) ∙ new_some h (triple_home y) i (at (triple_home y)) (home_is ∙ ap triple_home last.1))
        (got_more triples x j y is);
  }

pub read_next : (checkpoint : Checkpoint) (triples : List Triple) (i : ℕ) (read : Option Triple) (x : Triple) → AreRead checkpoint triples → length triples ≡ i → ((y : Triple) → (read ≡ Some y) ↔ IsTripleAt checkpoint i y) → read ≡ Some x
    → AreRead checkpoint (triples ++ x ∷ [])
read_next checkpoint triples i read x so_far many reads is = record {
  each = λ j y its. ⊎_elim (λ was. so_far.each j y was)
      (λ last. subst (λ t. IsTripleAt checkpoint j t) last.1 (subst (λ n. IsTripleAt checkpoint n x) (sym (last.0 ∙ many)) ((reads x).0 is))) (got_more triples x j y its);
  alone = λ j y z its fits. ⊎_elim (λ was. so_far.alone j y z was fits)
      (λ last. (let found = (reads z).1 (subst (λ n. IsTripleAt checkpoint n z) (last.0 ∙ many) fits) in sym (some_is x z (sym is ∙ found)) ∙ last.1)) (got_more triples x j y its);
}

module _ (checkpoint : Checkpoint) (triples : List Triple) (at : ℕ → Option ℕ) (i tail : ℕ) (seen : AreSeen triples at i tail) (read_so_far : AreRead checkpoint triples) where
  sound_at : (j : ℕ) → j < i → IsSoundTriple checkpoint j
  sound_at j low =
      let many = seen.many in
      let this = element triples j (omega (arith, many, low)) in
      record {
        held = this.0;
        fits = read_so_far.each j this.0 this.1;
        first = λ k y lower fits same.
            let before = element triples k (omega (arith, many, low, lower)) in
            let equal : y ≡ before.0 = read_so_far.alone k before.0 y before.1 fits in
            let one : k ≡ j = seen.apart k j before.0 this.0 before.1 this.1 (ap triple_home (sym equal) ∙ same) in
            omega (arith, one, lower);
      }

  module _ (read : Option Triple) (reads : (y : Triple) → (read ≡ Some y) ↔ IsTripleAt checkpoint i y) (counted : (let slot = checkpoint.slot in i < slot.triples)) where
    pub fault_none : read ≡ None → IsTripleFault checkpoint i
    fault_none none = record { counted = counted; before = sound_at; here = λ sound. (let off : None ≡ Some sound.held = sym none ∙ (reads sound.held).1 sound.fits in cc) }

    pub fault_again : (x : Triple) (h : ℕ) → read ≡ Some x → h ≡ triple_home x → is_some (at h) ≡ true → IsTripleFault checkpoint i
    fault_again x h is home_is old = record {
      counted = counted;
      before = sound_at;
      here = λ sound.
          let had = some_of (at h) old in
          let known = seen.known h had.0 had.1 in
          let many = seen.many in
          let within = slice_get_within triples had.0 known.0 known.1 in
          let equal : x ≡ sound.held = some_is x sound.held (sym is ∙ (reads sound.held).1 sound.fits) in
          sound.first had.0 known.0 (omega (arith, many, within)) (read_so_far.each had.0 known.0 known.1) (known.2 ∙ home_is ∙ ap triple_home equal);
    }

pub none_is : (o : Option Triple) → ((x : Triple) → o ≡ Some x → ⊥) → o ≡ None
none_is None no_one = refl
none_is (Some x) no_one = absurd (no_one x refl)
