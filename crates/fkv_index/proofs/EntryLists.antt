-- The entry of a tag in an order of slots.
use Rattle.std.proofs.Common.{◌≡◌, ℕ, zero, suc, ◌+◌, ◌<◌, ◌≤◌, ◌⊎◌, List, [], ◌∷◌, ◌++◌, refl, inl, inr, arith, sym, ap, ◌∙◌, subst, Bool, true, false, eqb-true}
use Rattle.std.specs.Prelude.{◌==◌, ◌&&◌, not, nat_lt, if◌then◌else◌}
use Rattle.std.proofs.lemmas.Bool.Decides.{nat_tests}
use Rattle.fkv_index.specs.Slots.{entry_tag}
use Rattle.fkv_index.specs.Buckets.{overflow_bucket, IsAmong, HasOneEntry, LacksTag}
use Rattle.fkv_index.specs.Entries.{slots_from, order_of, entry_in}
use Rattle.fkv_index.proofs.Orders.{truth, same_or_not}

-- a word is an entry of the tag
pub record IsOf (tag word : ℕ) : Type 0 where
  pub some : word ≡ 0 → ⊥
  pub its_tag : entry_tag word ≡ tag

-- the first word is the entry, or it is among the others
entry_first : (tag word : ℕ) (rest : List ℕ) → (IsOf tag word × (entry_in tag (word ∷ rest) ≡ word)) ⊎ ((IsOf tag word → ⊥) × (entry_in tag (word ∷ rest) ≡ entry_in tag rest))
unfolding entry_in
entry_first tag word rest = tested (word == 0) (entry_tag word == tag) refl refl
  where
    tested : (a b : Bool) → (word == 0) ≡ a → (entry_tag word == tag) ≡ b
        → (IsOf tag word × ((if not a && b then word else entry_in tag rest) ≡ word)) ⊎ ((IsOf tag word → ⊥) × ((if not a && b then word else entry_in tag rest) ≡ entry_in tag rest))
    tested true b x y = inr ((λ its. its.some (eqb-true word 0 x)), refl)
    tested false true x y = inl (record { some = λ e. absurd (grind (arith, nat_tests, x, e)); its_tag = eqb-true (entry_tag word) tag y }, refl)
    tested false false x y = inr ((λ its. let e = its.its_tag in absurd (grind (arith, nat_tests, y, e))), refl)

-- of the words of a bucket one is the entry, or it is among the rest
row_entry : (g : ℕ → ℕ → ℕ) (tag m first count : ℕ) (rest : List ℕ)
    → ((i : ℕ) × (first ≤ i) × (i < first + count) × IsOf tag (g m i) × (entry_in tag (slots_from g m first count ++ rest) ≡ g m i))
    ⊎ (((i : ℕ) → first ≤ i → i < first + count → IsOf tag (g m i) → ⊥) × (entry_in tag (slots_from g m first count ++ rest) ≡ entry_in tag rest))
unfolding slots_from
row_entry g tag m first zero rest = inr ((λ i low high its. absurd (omega (arith, low, high))), refl)
row_entry g tag m first (suc count) rest = elim (entry_first tag (g m first) (slots_from g m (first + 1) count ++ rest)) [
  | inl here ↦ inl (first, omega arith, omega arith, here.0, here.1)
  | inr past ↦ elim (row_entry g tag m (first + 1) count rest) [
    | inl found ↦ let low = found.1 in let high = found.2 in inl (found.0, omega (arith, low), omega (arith, high), found.3, past.1 ∙ found.4)
    | inr none ↦ inr (
      (λ i low high its. elim (same_or_not i first) [
        | inl e ↦ past.0 (subst (λ x. IsOf tag (g m x)) e its)
        | inr e ↦ none.0 i (elim (truth (nat_lt first i)) [
          | inl t ↦ let above : first < i = grind (arith, nat_tests, t) in omega (arith, above)
          | inr t ↦ absurd (e (grind (arith, nat_tests, t, low)))
        ]) (omega (arith, high)) its
      ]),
      past.1 ∙ none.1,
    )
  ]
]

-- of the slots of the order one is the entry, or none is of the tag
pub order_entry : (k : ℕ) (g : ℕ → ℕ → ℕ) (tag c : ℕ) (list : List ℕ)
    → ((m : ℕ) × (i : ℕ) × IsAmong k c list m × (i < 7) × IsOf tag (g m i) × (entry_in tag (order_of k g c list) ≡ g m i))
    ⊎ (((m i : ℕ) → IsAmong k c list m → i < 7 → IsOf tag (g m i) → ⊥) × (entry_in tag (order_of k g c list) ≡ 0))
unfolding order_of entry_in
order_entry k g tag c [] = elim (row_entry g tag c 0 7 []) [
  | inl found ↦ let high = found.2 in inl (c, found.0, refl, omega (arith, high), found.3, subst (λ x. entry_in tag x ≡ g c found.0) (plain (slots_from g c 0 7)) found.4)
  | inr none ↦ inr ((λ m i here low its. none.0 i (omega arith) (omega (arith, low)) (subst (λ x. IsOf tag (g x i)) here its)), subst (λ x. entry_in tag x ≡ 0) (plain (slots_from g c 0 7)) none.1)
]
  where
    plain : (words : List ℕ) → words ++ [] ≡ words
    plain [] = refl
    plain (word ∷ rest) = ap (λ x. word ∷ x) (plain rest)
order_entry k g tag c (n ∷ rest) = elim (row_entry g tag c 0 7 (order_of k g (overflow_bucket k n) rest)) [
  | inl found ↦ let high = found.2 in inl (c, found.0, inl refl, omega (arith, high), found.3, found.4)
  | inr none ↦ elim (order_entry k g tag (overflow_bucket k n) rest) [
    | inl found ↦ inl (found.0, found.1, inr found.2, found.3, found.4, none.1 ∙ found.5)
    | inr nowhere ↦ inr (
      (λ m i among low its. elim among [
        | inl here ↦ none.0 i (omega arith) (omega (arith, low)) (subst (λ x. IsOf tag (g x i)) here its)
        | inr there ↦ nowhere.0 m i there low its
      ]),
      none.1 ∙ nowhere.1,
    )
  ]
]

-- an entry of the tag is the home's
pub entry_is : (k : ℕ) (g : ℕ → ℕ → ℕ) (tag c : ℕ) (list : List ℕ) (m i : ℕ) → HasOneEntry k g c list → IsAmong k c list m → i < 7 → IsOf tag (g m i) → entry_in tag (order_of k g c list) ≡ g m i
entry_is k g tag c list m i one among low its = elim (order_entry k g tag c list) [
  | inl found ↦
      let same = one found.0 m found.1 i found.2 among found.3 low found.4.some its.some (found.4.its_tag ∙ sym its.its_tag) in
      found.5 ∙ subst (λ x. g x found.1 ≡ g m i) (sym same.0) (ap (λ x. g m x) same.1)
  | inr none ↦ absurd (none.0 m i among low its)
]

pub entry_none : (k : ℕ) (g : ℕ → ℕ → ℕ) (tag c : ℕ) (list : List ℕ) → LacksTag k g tag c list → entry_in tag (order_of k g c list) ≡ 0
entry_none k g tag c list lacks = elim (order_entry k g tag c list) [
  | inl found ↦ absurd (lacks found.0 found.1 found.2 found.3 found.4.some found.4.its_tag)
  | inr none ↦ none.1
]

-- slots with entries of the tag that stay where they are
pub entry_same : (k : ℕ) (g g' : ℕ → ℕ → ℕ) (tag c : ℕ) (list list' : List ℕ) → HasOneEntry k g' c list'
    → ((m i : ℕ) → IsAmong k c list m → i < 7 → IsOf tag (g m i) → IsAmong k c list' m × (g' m i ≡ g m i))
    → ((m i : ℕ) → IsAmong k c list' m → i < 7 → IsOf tag (g' m i) → IsAmong k c list m × (g' m i ≡ g m i))
    → entry_in tag (order_of k g' c list') ≡ entry_in tag (order_of k g c list)
entry_same k g g' tag c list list' one stays stood = elim (order_entry k g tag c list) [
  | inl found ↦
      let there = stays found.0 found.1 found.2 found.3 found.4 in
      entry_is k g' tag c list' found.0 found.1 one there.0 found.3 (subst (IsOf tag) (sym there.1) found.4) ∙ there.1 ∙ sym found.5
  | inr none ↦ elim (order_entry k g' tag c list') [
    | inl found ↦
        let there = stood found.0 found.1 found.2 found.3 found.4 in
        absurd (none.0 found.0 found.1 there.0 found.3 (subst (IsOf tag) there.1 found.4))
    | inr nowhere ↦ nowhere.1 ∙ sym none.1
  ]
]
