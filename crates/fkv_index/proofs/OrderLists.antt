-- The order of slots as a list: what stays of it, how it grows, and where one word of it changes.
use Rattle.std.proofs.Common.{◌≡◌, ℕ, zero, suc, ◌+◌, ◌-◌, ◌<◌, ◌≤◌, ◌⊎◌, List, [], ◌∷◌, ◌++◌, length, refl, inl, inr, arith, sym, ap, ◌∙◌, subst, append_assoc}
use Rattle.std.specs.Prelude.{slice_index, slice_set, replicate, nat_lt, ⊤}
use Rattle.std.proofs.lemmas.Bool.Decides.{nat_tests}
use Rattle.std.proofs.lemmas.List.{length-append, get_or_append_left, get_or-append_right, get_or-append-add, set-append_left, set-append_right}
use Rattle.fkv_index.specs.Slots.{entry_tag}
use Rattle.fkv_index.specs.Buckets.{overflow_bucket, IsAmong, AreFilled, HasOneEntry, IsMember, IsOnce}
use Rattle.fkv_index.specs.Entries.{slots_from, order_of}
use Rattle.fkv_index.specs.SlotOrders.{IsFilled, HasTagsOnce, IsOneChanged}
use Rattle.fkv_index.proofs.Orders.{truth, among_member}

slots_same : (g g' : ℕ → ℕ → ℕ) (b first count : ℕ) → ((i : ℕ) → first ≤ i → i < first + count → g' b i ≡ g b i) → slots_from g' b first count ≡ slots_from g b first count
unfolding slots_from
slots_same g g' b first zero same = refl
slots_same g g' b first (suc count) same =
    let e : g' b first ≡ g b first = same first (omega arith) (omega arith) in
    let r : slots_from g' b (first + 1) count ≡ slots_from g b (first + 1) count = slots_same g g' b (first + 1) count (λ i low high. same i (omega (arith, low)) (omega (arith, high))) in
    ap (λ x. x ∷ slots_from g' b (first + 1) count) e ∙ ap (λ x. g b first ∷ x) r

pub slots_empty : (g : ℕ → ℕ → ℕ) (b first count : ℕ) → ((i : ℕ) → first ≤ i → i < first + count → g b i ≡ 0) → slots_from g b first count ≡ replicate count 0
unfolding slots_from
slots_empty g b first zero none = refl
slots_empty g b first (suc count) none =
    let e : g b first ≡ 0 = none first (omega arith) (omega arith) in
    let r : slots_from g b (first + 1) count ≡ replicate count 0 = slots_empty g b (first + 1) count (λ i low high. none i (omega (arith, low)) (omega (arith, high))) in
    ap (λ x. x ∷ slots_from g b (first + 1) count) e ∙ ap (λ x. 0 ∷ x) r

slots_length : (g : ℕ → ℕ → ℕ) (b first count : ℕ) → length (slots_from g b first count) ≡ count
unfolding slots_from
slots_length g b first zero = refl
slots_length g b first (suc count) = ap suc (slots_length g b (first + 1) count)

slots_at : (g : ℕ → ℕ → ℕ) (b first count i at : ℕ) → i < count → at ≡ first + i → slice_index (slots_from g b first count) i ≡ g b at
unfolding slots_from
slots_at g b first zero i at low e = absurd (omega (arith, low))
slots_at g b first (suc count) zero at low e = ap (g b) (omega (arith, e))
slots_at g b first (suc count) (suc i) at low e = slots_at g b (first + 1) count i at (omega (arith, low)) (omega (arith, e))

slots_set : (g g' : ℕ → ℕ → ℕ) (b first count i at word : ℕ) → i < count → at ≡ first + i → g' b at ≡ word → ((o : ℕ) → first ≤ o → o < first + count → (o ≡ at → ⊥) → g' b o ≡ g b o)
    → slots_from g' b first count ≡ slice_set (slots_from g b first count) i word
unfolding slots_from
slots_set g g' b first zero i at word low e its same = absurd (omega (arith, low))
slots_set g g' b first (suc count) zero at word low e its same =
    let here : g' b first ≡ word = subst (λ x. g' b x ≡ word) (omega (arith, e)) its in
    let r : slots_from g' b (first + 1) count ≡ slots_from g b (first + 1) count = slots_same g g' b (first + 1) count (λ o under high. same o (omega (arith, under)) (omega (arith, high)) (λ h. omega (arith, h, e, under))) in
    ap (λ x. x ∷ slots_from g' b (first + 1) count) here ∙ ap (λ x. word ∷ x) r
slots_set g g' b first (suc count) (suc i) at word low e its same =
    let here : g' b first ≡ g b first = same first (omega arith) (omega arith) (λ h. omega (arith, h, e)) in
    let r : slots_from g' b (first + 1) count ≡ slice_set (slots_from g b (first + 1) count) i word = slots_set g g' b (first + 1) count i at word (omega (arith, low)) (omega (arith, e)) its (λ o under high. same o (omega (arith, under)) (omega (arith, high))) in
    ap (λ x. x ∷ slots_from g' b (first + 1) count) here ∙ ap (λ x. g b first ∷ x) r

-- slots that keep their words
pub order_same : (k : ℕ) (g g' : ℕ → ℕ → ℕ) (c : ℕ) (list : List ℕ) → ((m i : ℕ) → IsAmong k c list m → i < 7 → g' m i ≡ g m i) → order_of k g' c list ≡ order_of k g c list
unfolding order_of
order_same k g g' c [] same = slots_same g g' c 0 7 (λ i low high. same c i refl (omega (arith, high)))
order_same k g g' c (n ∷ rest) same =
    let a : slots_from g' c 0 7 ≡ slots_from g c 0 7 = slots_same g g' c 0 7 (λ i low high. same c i (inl refl) (omega (arith, high))) in
    let b : order_of k g' (overflow_bucket k n) rest ≡ order_of k g (overflow_bucket k n) rest = order_same k g g' (overflow_bucket k n) rest (λ m i there low. same m i (inr there) low) in
    ap (λ x. x ++ order_of k g' (overflow_bucket k n) rest) a ∙ ap (λ x. slots_from g c 0 7 ++ x) b

-- one more bucket at the end
pub order_more : (k : ℕ) (g : ℕ → ℕ → ℕ) (c : ℕ) (list : List ℕ) (n : ℕ) → order_of k g c (list ++ n ∷ []) ≡ order_of k g c list ++ slots_from g (overflow_bucket k n) 0 7
unfolding order_of
order_more k g c [] n = refl
order_more k g c (r ∷ rest) n = ap (λ x. slots_from g c 0 7 ++ x) (order_more k g (overflow_bucket k r) rest n) ∙ sym (append_assoc (slots_from g c 0 7) (order_of k g (overflow_bucket k r) rest) (slots_from g (overflow_bucket k n) 0 7))

-- no bucket of the list stands in it twice
abbrev pub AllApart : ℕ → ℕ → List ℕ → Type 0
AllApart k c [] = ⊤
AllApart k c (n ∷ rest) = (IsAmong k (overflow_bucket k n) rest c → ⊥) × AllApart k (overflow_bucket k n) rest

pub all_apart : (k c : ℕ) (list : List ℕ) → IsOnce list → ((n : ℕ) → IsMember n list → 1 ≤ n) → ((n : ℕ) → IsMember n list → c ≡ overflow_bucket k n → ⊥) → AllApart k c list
all_apart k c [] once some apart = tt
all_apart k c (r ∷ rest) once some apart = (
  λ among. elim (among_member k (overflow_bucket k r) rest c among) [
    | inl here ↦ apart r (inl refl) here
    | inr found ↦ apart found.0 (inr found.1) found.2
  ],
  all_apart k (overflow_bucket k r) rest once.1 (λ n member. some n (inr member)) (λ n member e.
      let first = some r (inl refl) in
      let other = some n (inr member) in
      once.0 (subst (λ x. IsMember x rest) (omega (arith, e, first, other)) member)),
)

-- one word changes in the first part of a list, or in the second
changed_left : (a a' b b' : List ℕ) (i before word : ℕ) → i < length a → slice_index a i ≡ before → a' ≡ slice_set a i word → b' ≡ b → IsOneChanged before word (a ++ b) (a' ++ b')
changed_left a a' b b' i before word low had set same =
    (i, (let sum = length-append a b in omega (arith, sum, low)), get_or_append_left a b 0 i low ∙ had, ap (λ x. x ++ b') set ∙ ap (λ x. slice_set a i word ++ x) same ∙ sym (set-append_left a b i word low))

changed_right : (a a' b b' : List ℕ) (before word : ℕ) → a' ≡ a → IsOneChanged before word b b' → IsOneChanged before word (a ++ b) (a' ++ b')
changed_right a a' b b' before word same its =
    let sum = length-append a b in
    let low = its.1 in
    let back : length a + its.0 - length a ≡ its.0 = omega arith in (
      length a + its.0,
      omega (arith, sum, low),
      get_or-append-add a b its.0 0 ∙ its.2,
      ap (λ x. x ++ b') same ∙ ap (λ x. a ++ x) (its.3 ∙ ap (λ x. slice_set b x word) (sym back)) ∙ sym (set-append_right a b (length a) (length a + its.0) word refl (omega arith)),
    )

-- one slot of one bucket changes
pub order_set : (k : ℕ) (g g' : ℕ → ℕ → ℕ) (c : ℕ) (list : List ℕ) (m j word : ℕ) → AllApart k c list → IsAmong k c list m → j < 7 → g' m j ≡ word
    → ((o i : ℕ) → IsAmong k c list o → i < 7 → (o ≡ m → i ≡ j → ⊥) → g' o i ≡ g o i) → IsOneChanged (g m j) word (order_of k g c list) (order_of k g' c list)
unfolding order_of
order_set k g g' c [] m j word apart here low its same = (
  j,
  (let long = slots_length g c 0 7 in omega (arith, long, low)),
  slots_at g c 0 7 j j low (omega arith) ∙ ap (λ x. g x j) (sym here),
  slots_set g g' c 0 7 j j word low (omega arith) (subst (λ x. g' x j ≡ word) here its) (λ o under high other. same c o refl (omega (arith, high)) (λ a b. other b)),
)
order_set k g g' c (n ∷ rest) m j word apart (inl here) low its same =
    changed_left (slots_from g c 0 7) (slots_from g' c 0 7) (order_of k g (overflow_bucket k n) rest) (order_of k g' (overflow_bucket k n) rest) j (g m j) word
    (let long = slots_length g c 0 7 in omega (arith, long, low))
    (slots_at g c 0 7 j j low (omega arith) ∙ ap (λ x. g x j) (sym here))
    (slots_set g g' c 0 7 j j word low (omega arith) (subst (λ x. g' x j ≡ word) here its) (λ o under high other. same c o (inl refl) (omega (arith, high)) (λ a b. other b)))
    (order_same k g g' (overflow_bucket k n) rest (λ o i there few. same o i (inr there) few (λ a b. apart.0 (subst (IsAmong k (overflow_bucket k n) rest) (a ∙ here) there))))
order_set k g g' c (n ∷ rest) m j word apart (inr there) low its same =
    changed_right (slots_from g c 0 7) (slots_from g' c 0 7) (order_of k g (overflow_bucket k n) rest) (order_of k g' (overflow_bucket k n) rest) (g m j) word
    (slots_same g g' c 0 7 (λ i under high. same c i (inl refl) (omega (arith, high)) (λ a b. apart.0 (subst (IsAmong k (overflow_bucket k n) rest) (sym a) there))))
    (order_set k g g' (overflow_bucket k n) rest m j word apart.1 there low its (λ o i among few other. same o i (inr among) few other))

-- a list behind one that has no empty slot
filled_behind : (a b : List ℕ) → ((i : ℕ) → i < length a → slice_index a i ≡ 0 → ⊥) → IsFilled b → IsFilled (a ++ b)
filled_behind a b full filled i j before high empty = elim (truth (nat_lt i (length a))) [
  | inl e ↦ let low : i < length a = grind (arith, nat_tests, e) in absurd (full i low (sym (get_or_append_left a b 0 i low) ∙ empty))
  | inr e ↦
      let past : length a ≤ i = grind (arith, nat_tests, e) in
      let sum = length-append a b in
      get_or-append_right a b (length a) j 0 refl (omega (arith, past, before))
      ∙ filled (i - length a) (j - length a) (omega (arith, past, before)) (omega (arith, past, before, high, sum)) (sym (get_or-append_right a b (length a) i 0 refl past) ∙ empty)
]

pub order_filled : (k : ℕ) (g : ℕ → ℕ → ℕ) (c : ℕ) (list : List ℕ) → AreFilled k g c list → IsFilled (order_of k g c list)
unfolding order_of
order_filled k g c [] fills = λ i j before high empty.
    let long = slots_length g c 0 7 in
    let few : j < 7 = omega (arith, long, high) in
    slots_at g c 0 7 j j few (omega arith) ∙ fills i j before few (sym (slots_at g c 0 7 i i (omega (arith, before, few)) (omega arith)) ∙ empty)
order_filled k g c (n ∷ rest) filled = filled_behind (slots_from g c 0 7) (order_of k g (overflow_bucket k n) rest)
    (λ i low empty. let long = slots_length g c 0 7 in let few : i < 7 = omega (arith, long, low) in filled.0 i few (sym (slots_at g c 0 7 i i few (omega arith)) ∙ empty))
    (order_filled k g (overflow_bucket k n) rest filled.1)

-- a word is one of the bucket's, or behind them
row_or_rest : (g : ℕ → ℕ → ℕ) (c : ℕ) (rest : List ℕ) (i : ℕ) → i < length (slots_from g c 0 7 ++ rest)
    → ((i < 7) × (slice_index (slots_from g c 0 7 ++ rest) i ≡ g c i)) ⊎ ((o : ℕ) × (i ≡ 7 + o) × (o < length rest) × (slice_index (slots_from g c 0 7 ++ rest) i ≡ slice_index rest o))
row_or_rest g c rest i high =
    let long = slots_length g c 0 7 in
    let sum = length-append (slots_from g c 0 7) rest in
    elim (truth (nat_lt i 7)) [
      | inl e ↦
          let low : i < 7 = grind (arith, nat_tests, e) in
          inl (low, get_or_append_left (slots_from g c 0 7) rest 0 i (omega (arith, long, low)) ∙ slots_at g c 0 7 i i low (omega arith))
      | inr e ↦
          let past : 7 ≤ i = grind (arith, nat_tests, e) in
          inr (i - 7, omega (arith, past), omega (arith, past, high, sum, long), get_or-append_right (slots_from g c 0 7) rest 7 i 0 long past)
    ]

-- each word of the order is a slot's
order_at : (k : ℕ) (g : ℕ → ℕ → ℕ) (c : ℕ) (list : List ℕ) (i : ℕ) → i < length (order_of k g c list) → (m : ℕ) × (o : ℕ) × IsAmong k c list m × (o < 7) × (slice_index (order_of k g c list) i ≡ g m o)
unfolding order_of
order_at k g c [] i high = let long = slots_length g c 0 7 in let few : i < 7 = omega (arith, long, high) in (c, i, refl, few, slots_at g c 0 7 i i few (omega arith))
order_at k g c (n ∷ rest) i high = elim (row_or_rest g c (order_of k g (overflow_bucket k n) rest) i high) [
  | inl row ↦ (c, i, inl refl, row.0, row.1)
  | inr behind ↦ let its = order_at k g (overflow_bucket k n) rest behind.0 behind.2 in (its.0, its.1, inr its.2, its.3, behind.3 ∙ its.4)
]

-- a word at this place of a bucket's words and the rest
abbrev Seen : (ℕ → ℕ → ℕ) → ℕ → List ℕ → ℕ → Type 0
Seen g c rest i =
    ((i < 7) × (slice_index (slots_from g c 0 7 ++ rest) i ≡ g c i)) ⊎ ((o : ℕ) × (i ≡ 7 + o) × (o < length rest) × (slice_index (slots_from g c 0 7 ++ rest) i ≡ slice_index rest o))

-- the bucket before an order in which each tag stands once
both_seen : (k : ℕ) (g : ℕ → ℕ → ℕ) (c n : ℕ) (rest : List ℕ) → (IsAmong k (overflow_bucket k n) rest c → ⊥) → HasOneEntry k g c (n ∷ rest) → HasTagsOnce (order_of k g (overflow_bucket k n) rest)
    → HasTagsOnce (slots_from g c 0 7 ++ order_of k g (overflow_bucket k n) rest)
both_seen k g c n rest apart one behind i j high top some other e = both (row_or_rest g c (order_of k g (overflow_bucket k n) rest) i high) (row_or_rest g c (order_of k g (overflow_bucket k n) rest) j top)
  where
    -- a bucket of the rest is another one
    off : (x y : ℕ) → x < 7 → y < length (order_of k g (overflow_bucket k n) rest) → (g c x ≡ 0 → ⊥) → (slice_index (order_of k g (overflow_bucket k n) rest) y ≡ 0 → ⊥) → entry_tag (g c x) ≡ entry_tag (slice_index (order_of k g (overflow_bucket k n) rest) y) → ⊥
    off x y few low full has same =
        let its = order_at k g (overflow_bucket k n) rest y low in
        let at_one = one c its.0 x its.1 (inl refl) (inr its.2) few its.3 full (λ none. has (its.4 ∙ none)) (same ∙ ap entry_tag its.4) in
        apart (subst (IsAmong k (overflow_bucket k n) rest) (sym at_one.0) its.2)

    both : Seen g c (order_of k g (overflow_bucket k n) rest) i → Seen g c (order_of k g (overflow_bucket k n) rest) j → i ≡ j
    both (inl a) (inl b) = (one c c i j (inl refl) (inl refl) a.0 b.0 (λ none. some (a.1 ∙ none)) (λ none. other (b.1 ∙ none)) (ap entry_tag (sym a.1) ∙ e ∙ ap entry_tag b.1)).1
    both (inl a) (inr b) = absurd (off i b.0 a.0 b.2 (λ none. some (a.1 ∙ none)) (λ none. other (b.3 ∙ none)) (ap entry_tag (sym a.1) ∙ e ∙ ap entry_tag b.3))
    both (inr a) (inl b) = absurd (off j a.0 b.0 a.2 (λ none. other (b.1 ∙ none)) (λ none. some (a.3 ∙ none)) (ap entry_tag (sym b.1) ∙ sym e ∙ ap entry_tag a.3))
    both (inr a) (inr b) = a.1 ∙ ap (λ x. 7 + x) (behind a.0 b.0 a.2 b.2 (λ none. some (a.3 ∙ none)) (λ none. other (b.3 ∙ none)) (ap entry_tag (sym a.3) ∙ e ∙ ap entry_tag b.3)) ∙ sym b.1

pub order_once : (k : ℕ) (g : ℕ → ℕ → ℕ) (c : ℕ) (list : List ℕ) → AllApart k c list → HasOneEntry k g c list → HasTagsOnce (order_of k g c list)
unfolding order_of
order_once k g c [] apart one = λ i j high top some other e.
    let long = slots_length g c 0 7 in
    let few : i < 7 = omega (arith, long, high) in
    let low : j < 7 = omega (arith, long, top) in
    let a = slots_at g c 0 7 i i few (omega arith) in
    let b = slots_at g c 0 7 j j low (omega arith) in
    (one c c i j refl refl few low (λ none. some (a ∙ none)) (λ none. other (b ∙ none)) (ap entry_tag (sym a) ∙ e ∙ ap entry_tag b)).1
order_once k g c (n ∷ rest) apart one =
    both_seen k g c n rest apart.0 one (order_once k g (overflow_bucket k n) rest apart.1 (λ m o x y a b. one m o x y (inr a) (inr b)))
