-- The pairs that a map's entries show.
use Rattle.std.proofs.Common.{◌≡◌, ◌≢◌, ◌⊎◌, inl, inr, ⊎_elim, ℕ, true, false, cond, List, [], ◌∷◌, sym, ap, subst, ◌∙◌, arith}
use Rattle.std.specs.Prelude.{map, nat_eq, Contains}
use Rattle.std.specs.List.{AllByRecursion}
use Rattle.std.specs.List.Sorted.{IsStrictlySortedBy}
use Rattle.std.specs.Ordering.{nat_cmp}
use Rattle.std.specs.BTreeMap.{BTreeMap, IsOrdered}
use Rattle.std.proofs.lemmas.Bool.Decides.{nat_tests}
use Rattle.std.proofs.lemmas.Cmp.{nat_cmp_total}
use Rattle.std.proofs.lemmas.Map.Keys.{IsStrictlyIncreasing-from_sorted}
use Rattle.std.proofs.lemmas.Map.Lookups.{exact_unsigned}
use Rattle.std.proofs.lemmas.Map.Views.{btree_map_get_iff}
use Rattle.fkv_base.specs.declared.numbers.Key.{Key}
use Rattle.fkv_base.specs.declared.numbers.Value.{Value}
use Rattle.fkv_scan.proofs.Shown.{bool_is}
use Rattle.fkv_room.proofs.Shown.{by_cond, in_rest, in_head, in_tail}
use Rattle.fkv_pairs.specs.Gathered.{AreShown}
use Rattle.fkv_pairs.specs.Pairs.{absent_word}

abbrev pub to_pair : ℕ × ℕ → Key × Value
to_pair e = (record { 0 = e.0 }, record { 0 = e.1 })

-- the entries that have a value
abbrev pub shown_of : List (ℕ × ℕ) → List (Key × Value)
shown_of [] = []
shown_of (e ∷ es) = cond (nat_eq e.1 absent_word) (shown_of es) (to_pair e ∷ shown_of es)

absent_is : (x : ℕ) → nat_eq x absent_word ≡ true → x ≡ absent_word
absent_is x e = grind (arith, nat_tests)

present_is : (x : ℕ) → nat_eq x absent_word ≡ false → x ≢ absent_word
present_is x e = grind (arith, nat_tests)

abbrev key_of : Key × Value → ℕ
key_of pair = pair.0.0

all_shown : (P : ℕ → Type 0) (es : List (ℕ × ℕ)) → AllByRecursion P (map (λ e. e.0) es) → AllByRecursion P (map key_of (shown_of es))
all_shown P [] all = tt
all_shown P (e ∷ es) all = by_cond (λ ps. AllByRecursion P (map key_of ps)) (nat_eq e.1 absent_word) (shown_of es) (to_pair e ∷ shown_of es) (λ absent. all_shown P es all.1) (λ here. (all.0, all_shown P es all.1))

sorted_shown : (es : List (ℕ × ℕ)) → IsStrictlySortedBy nat_cmp (map (λ e. e.0) es) → IsStrictlySortedBy nat_cmp (map key_of (shown_of es))
unfolding IsStrictlySortedBy
sorted_shown [] sorted = tt
sorted_shown (e ∷ es) sorted = by_cond (λ ps. IsStrictlySortedBy nat_cmp (map key_of ps)) (nat_eq e.1 absent_word) (shown_of es) (to_pair e ∷ shown_of es)
    (λ absent. sorted_shown es sorted.1) (λ here. (all_shown _ es sorted.0, sorted_shown es sorted.1))

-- a pair that is shown is an entry with a value
shown_entry : (es : List (ℕ × ℕ)) (pair : Key × Value) → Contains (shown_of es) pair → Contains es (pair.0.0, pair.1.0) × (pair.1.0 ≢ absent_word)
shown_entry [] pair has = absurd (omega (arith, has.1))
shown_entry (e ∷ es) pair has = go (λ had. let rest = shown_entry es pair had in (in_tail e (pair.0.0, pair.1.0) es rest.0, rest.1)) (bool_is (nat_eq e.1 absent_word))
  where
    go : (Contains (shown_of es) pair → Contains (e ∷ es) (pair.0.0, pair.1.0) × (pair.1.0 ≢ absent_word))
        → (nat_eq e.1 absent_word ≡ true) ⊎ (nat_eq e.1 absent_word ≡ false) → Contains (e ∷ es) (pair.0.0, pair.1.0) × (pair.1.0 ≢ absent_word)
    go later (inl absent) = later (subst (λ b. Contains (cond b (shown_of es) (to_pair e ∷ shown_of es)) pair) absent has)
    go later (inr here) = ⊎_elim
        (λ is. (in_head e (pair.0.0, pair.1.0) es (ap (λ (p : Key × Value). let q : ℕ × ℕ = (p.0.0, p.1.0) in q) is), subst (λ (n : ℕ). n ≢ absent_word) (ap (λ (p : Key × Value). p.1.0) is) (present_is e.1 here)))
        later
        (in_rest (to_pair e) pair (shown_of es) (subst (λ b. Contains (cond b (shown_of es) (to_pair e ∷ shown_of es)) pair) here has))

-- and an entry with a value is shown
entry_shown : (es : List (ℕ × ℕ)) (pair : Key × Value) → Contains es (pair.0.0, pair.1.0) → (pair.1.0 ≢ absent_word) → Contains (shown_of es) pair
entry_shown [] pair has some = absurd (omega (arith, has.1))
entry_shown (e ∷ es) pair has some = go (λ rest. entry_shown es pair rest some) (bool_is (nat_eq e.1 absent_word)) (in_rest e (pair.0.0, pair.1.0) es has)
  where
    go : (Contains es (pair.0.0, pair.1.0) → Contains (shown_of es) pair)
        → (nat_eq e.1 absent_word ≡ true) ⊎ (nat_eq e.1 absent_word ≡ false) → (e ≡ (pair.0.0, pair.1.0)) ⊎ Contains es (pair.0.0, pair.1.0) → Contains (shown_of (e ∷ es)) pair
    go later (inl absent) (inl is) = absurd (some (sym (ap (λ (q : ℕ × ℕ). q.1) is) ∙ absent_is e.1 absent))
    go later (inl absent) (inr rest) = subst (λ b. Contains (cond b (shown_of es) (to_pair e ∷ shown_of es)) pair) (sym absent) (later rest)
    go later (inr here) (inl is) = subst (λ b. Contains (cond b (shown_of es) (to_pair e ∷ shown_of es)) pair) (sym here) (in_head (to_pair e) pair (shown_of es) (ap to_pair is))
    go later (inr here) (inr rest) = subst (λ b. Contains (cond b (shown_of es) (to_pair e ∷ shown_of es)) pair) (sym here) (in_tail (to_pair e) pair (shown_of es) (later rest))

-- the entries with a value are what is shown of a map
pub are_shown : (values : BTreeMap ℕ ℕ) → IsOrdered nat_cmp values → AreShown values (shown_of values.entries)
are_shown values ordered = record {
  ascending = IsStrictlyIncreasing-from_sorted (map key_of (shown_of values.entries)) (sorted_shown values.entries ordered);
  all = λ pair.
      let iff = btree_map_get_iff nat_cmp_total exact_unsigned values ordered pair.0.0 pair.1.0 in
      (λ has. let entry = shown_entry values.entries pair has in (iff.1 entry.0, entry.1), λ got. entry_shown values.entries pair (iff.0 got.0) got.1);
}
