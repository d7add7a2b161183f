-- The map that pairs stand for has a value just where the pairs have it.
use Rattle.std.proofs.Common.{◌≡◌, ◌≢◌, ◌⊎◌, inl, inr, ℕ, Bool, true, false, cond, Option, Some, None, List, [], ◌∷◌, refl, sym, ap, ◌∙◌, arith}
use Rattle.std.specs.Prelude.{◌==◌, if◌then◌else◌, Contains}
use Rattle.std.specs.FinMap.{find, get, get-from_entries}
use Rattle.std.specs.Ordering.{eq_by_cmp, nat_cmp}
use Rattle.std.proofs.lemmas.Bool.Decides.{nat_tests}
use Rattle.std.proofs.lemmas.Cmp.{nat_cmp_total}
use Rattle.fkv_base.specs.declared.numbers.Key.{Key}
use Rattle.fkv_base.specs.declared.numbers.Value.{Value}
use Rattle.fkv_map.specs.Map.{as_numbers}
use Rattle.law_refine.specs.Below.fkv_ops.Values.{value_of}
use Rattle.law_paper.specs.Below.fkv_pairs.Pairs.{ArePairs, HasValue, absent_word}
use Rattle.law_paper.proofs.Below.fkv_room.Shown.{in_rest, in_head, in_tail}
use Rattle.law_paper.proofs.Below.fkv_scan.Shown.{at_same, is_same, some_is}
use Rattle.law_paper.specs.Below.fkv_scan.Log.{Log}
use Rattle.law_opening.specs.Log.Records.{map_of}

abbrev pair_of : ℕ → ℕ → Key × Value
pair_of k v = (record { 0 = k }, record { 0 = v })

found_in : (ps : List (Key × Value)) (k v : ℕ) → find nat_cmp k (as_numbers ps) ≡ Some v → Contains ps (pair_of k v)
found_in [] k v is = absurd (cc)
found_in (p ∷ ps) k v is = by_test (eq_by_cmp nat_cmp k p.0.0) refl (found_in ps k v) is
  where
    by_test : (t : Bool) → eq_by_cmp nat_cmp k p.0.0 ≡ t → (find nat_cmp k (as_numbers ps) ≡ Some v → Contains ps (pair_of k v)) → cond t (Some p.1.0) (find nat_cmp k (as_numbers ps)) ≡ Some v → Contains (p ∷ ps) (pair_of k v)
    by_test true same rest is =
        let key : k ≡ p.0.0 = is_same k p.0.0 same in
        let value : p.1.0 ≡ v = some_is p.1.0 v is in
        in_head p (pair_of k v) ps (ap (λ (q : ℕ × ℕ). pair_of q.0 q.1) (let both : ◌≡◌ {A = ℕ × ℕ} (p.0.0, p.1.0) (k, v) = cc in both))
    by_test false other rest is = in_tail p (pair_of k v) ps (rest is)

none_in : (ps : List (Key × Value)) (k v : ℕ) → find nat_cmp k (as_numbers ps) ≡ None → Contains ps (pair_of k v) → ⊥
none_in [] k v none has = omega (arith, has.1)
none_in (p ∷ ps) k v none has = by_test (eq_by_cmp nat_cmp k p.0.0) refl (none_in ps k v) none (in_rest p (pair_of k v) ps has)
  where
    by_test : (t : Bool) → eq_by_cmp nat_cmp k p.0.0 ≡ t → (find nat_cmp k (as_numbers ps) ≡ None → Contains ps (pair_of k v) → ⊥) → cond t (Some p.1.0) (find nat_cmp k (as_numbers ps)) ≡ None → (p ≡ pair_of k v) ⊎ Contains ps (pair_of k v) → ⊥
    by_test true same rest none it = absurd (cc)
    by_test false other rest none (inr later) = rest none later
    by_test false other rest none (inl here) =
        let same : true ≡ false = sym (at_same k p.0.0 (ap (λ (q : Key × Value). q.0.0) (sym here))) ∙ other in
        absurd (cc)

-- what has a key's value where the key has one, and nothing else, is what the map of the pairs has
pub shows_pairs : (log : Log) (pairs : List (Key × Value)) → ArePairs log pairs → (key : ℕ) (has : Option ℕ)
    → ((v : ℕ) → HasValue log (record { 0 = key }) (record { 0 = v }) → has ≡ Some v) → ((v : ℕ) → has ≡ Some v → HasValue log (record { 0 = key }) (record { 0 = v }))
    → has ≡ get (map_of pairs) key
shows_pairs log pairs are key has to from = by_found (find nat_cmp key (as_numbers pairs)) refl ∙ sym (get-from_entries nat_cmp_total (as_numbers pairs) key)
  where
    by_none : (w : Option ℕ) → has ≡ w → find nat_cmp key (as_numbers pairs) ≡ None → w ≡ None
    by_none None is none = refl
    by_none (Some v) is none = absurd (none_in pairs key v none ((are.all (pair_of key v)).1 (from v is)))

    by_found : (found : Option ℕ) → find nat_cmp key (as_numbers pairs) ≡ found → has ≡ find nat_cmp key (as_numbers pairs)
    by_found None none = by_none has refl none ∙ sym none
    by_found (Some v) is = to v ((are.all (pair_of key v)).0 (found_in pairs key v is)) ∙ sym is

-- ---- values and their words
pub value_some : (word v : ℕ) → word ≡ v → v ≢ absent_word → value_of word ≡ Some v
value_some word v same some = let off : (word == absent_word) ≡ false = grind (arith, nat_tests) in rw off (ap Some same)

pub value_is : (word v : ℕ) → value_of word ≡ Some v → (word ≡ v) × (v ≢ absent_word)
value_is word v is = by_test (word == absent_word) refl is
  where
    by_test : (t : Bool) → (word == absent_word) ≡ t → (if t then None else Some word) ≡ Some v → (word ≡ v) × (v ≢ absent_word)
    by_test true none is = absurd (cc)
    by_test false some is =
        let same : word ≡ v = some_is word v is in
        let other : word ≢ absent_word = grind (arith, nat_tests) in
        (same, λ absent. other (same ∙ absent))
