-- The line of keys, by what is noted of each key.
use Rattle.std.proofs.Common.{◌≡◌, ℕ, suc, ◌+◌, ◌<◌, refl, sym, ap, subst, ◌∙◌, true≢false, min, Bool, true, false, not, List, [], ◌∷◌, ◌++◌, length, take, get_or, arith}
use Rattle.std.specs.Prelude.{◌||◌, ◌&&◌, ◌==◌, cond, if◌then◌else◌, Option, Some, None, Result, Ok, Err, IfOk, filter, is_some, unwrap_or, nat_eq, nat_lt}
use Rattle.std.specs.BTreeMap.{BTreeMap, IsOrdered, is_at}
use Rattle.std.specs.BTreeMap as tree
use Rattle.std.specs.Bool.{Decides}
use Rattle.std.specs.Cmp.{nat_cmp_total, nat_eq_equiv, unsigned_Decides, unsigned_tied}
use Rattle.std.specs.FinMap.{get}
use Rattle.std.specs.List.{IsDistinct, flat_map, list_all, list_any}
use Rattle.std.specs.Map.{keys_of, lookup}
use Rattle.std.specs.Option.{option_eq}
use Rattle.std.specs.Ordering.{eq_by_cmp, nat_cmp}
use Rattle.std.specs.Set.{distinct_count}
use Rattle.std.proofs.lemmas.Bool.{and_parts}
use Rattle.std.proofs.lemmas.Bool.Decides.{nat_tests}
use Rattle.std.proofs.lemmas.List.{flat_map_more, take_more}
use Rattle.std.proofs.lemmas.List.Folds.{list_any-append}
use Rattle.std.proofs.lemmas.List.Sums.{count_by-le-length, length-filter}
use Rattle.std.proofs.lemmas.Map.Entries.{btree_map_get_place, length-keys_of, lookup-filter-values, option_filter}
use Rattle.std.proofs.lemmas.Map.Keys.{IsDistinct-from_sorted}
use Rattle.std.proofs.lemmas.Map.Made.{IsDistinct-keys_filter, is_some-lookup, length-from_keys}
use Rattle.std.proofs.lemmas.Option.{slice_get_read}
use Rattle.fkv_lines.specs.declared.scripts.Line.{Line}
use Rattle.fkv_map.specs.Keys.{key_of}
use Rattle.fkv_map.specs.Map.{Map, absent_word}
use Rattle.fkv_thread_scripts.specs.Claims.{AreClaimed, AreClaims, IsLineOfClaims, claim_of, compares, holds}
use Rattle.fkv_thread_scripts.specs.Keys.{IsKeysLine, Update, are_alone, at_key, is_add, is_compared, keys_compared, sum_added, update_in_line, updates_at, updates_of}
use Rattle.fkv_thread_scripts.specs.declared.claims.Claim.{Claim}
use Rattle.fkv_thread_scripts.specs.declared.reports.Keys.{Keys}
use Rattle.fkv_thread_scripts.specs.declared.reports.Keys.TheVariants.{Agree, Differs}

-- what a list gives, and one item more
pub flat_map_on : {X Y : Type 0} (f : X → List Y) (xs : List X) (i : ℕ) (d : X) → i < length xs → flat_map f (take (i + 1) xs) ≡ flat_map f (take i xs) ++ f (get_or xs i d)
flat_map_on f xs i d below = ap (flat_map f) (take_more xs i d below) ∙ sym (flat_map_more f [] (take i xs) (get_or xs i d))

pub claims_on : (before behind : ℕ → Option Claim) (lines : List Line) (i : ℕ) (d : Line) → i < length lines → AreClaimed before behind (update_in_line (get_or lines i d)) → AreClaims before (updates_of (take i lines))
    → AreClaims behind (updates_of (take (i + 1) lines))
claims_on before behind lines i d below claimed are = subst (AreClaims behind) (sym (flat_map_on update_in_line lines i d below)) (claimed (updates_of (take i lines)) are)

-- ---- what is noted of a key says whether it is compared
abbrev compares_in : Option Claim → Bool
compares_in None = false
compares_in (Some claim) = compares claim

min_below : (s m : ℕ) → nat_lt (min s m) m ≡ nat_lt s m
min_below s m = grind (arith, nat_tests)

claim_tells : (us : List Update) → compares_in (claim_of us) ≡ is_compared us
claim_tells [] = refl
claim_tells (u ∷ us) = ap (λ (b : Bool). are_alone (u ∷ us) || (list_all (λ its. is_add its.op) (u ∷ us) && b)) (min_below (sum_added (u ∷ us)) absent_word)

noted_tells : (claims : ℕ → Option Claim) (lines : List Line) (key : ℕ) → AreClaims claims (updates_of lines) → compares_in (claims key) ≡ is_compared (updates_at key lines)
noted_tells claims lines key are = ap compares_in (are key) ∙ claim_tells (updates_at key lines)

-- ---- each key that is compared
same_value : (a b : Option ℕ) → Decides (option_eq nat_eq a b) (a ≡ b)
same_value None None = (λ _. refl, λ _. refl)
same_value None (Some y) = (λ e. absurd (true≢false (sym e)), λ e. absurd (true≢false (ap is_some (sym e))))
same_value (Some x) None = (λ e. absurd (true≢false (sym e)), λ e. absurd (true≢false (ap is_some e)))
same_value (Some x) (Some y) = (λ e. ap (λ (n : ℕ). Some n) ((unsigned_Decides x y).0 e), λ e. (unsigned_Decides x y).1 (ap (λ (o : Option ℕ). unwrap_or o x) e))

either_holds : (b c : Bool) → (not b || c) ≡ true → b ≡ true → c ≡ true
either_holds true c all is = all
either_holds false c all is = absurd (true≢false (sym is))

differs_by : (stored told : Option ℕ) (b c : Bool) → c ≡ option_eq nat_eq stored told → (not b || c) ≡ false → (b ≡ true) × (stored ≡ told → ⊥)
differs_by stored told true c is held = (refl, λ same. true≢false (sym ((same_value stored told).1 same) ∙ (sym is ∙ held)))
differs_by stored told false c is held = absurd (true≢false held)

module _ (told stored : Map) (key : ℕ) where
  agree_by : (e : ℕ × Claim) (es : List (ℕ × Claim)) (b : Bool) → (key == e.0) ≡ b → list_all (holds told stored) (e ∷ es) ≡ true → compares_in (cond b (Some e.1) (lookup (is_at (nat_cmp key)) es)) ≡ true
      → (list_all (holds told stored) es ≡ true → compares_in (lookup (is_at (nat_cmp key)) es) ≡ true → get stored key ≡ get told key) → get stored key ≡ get told key
  agree_by e es true here all is later =
      let same : key ≡ e.0 = (unsigned_Decides key e.0).0 here in
      let its = either_holds (compares e.1) (option_eq nat_eq (get stored e.0) (get told e.0)) (and_parts (holds told stored e) (list_all (holds told stored) es) all).0 is in
      subst (λ (k : ℕ). get stored k ≡ get told k) (sym same) ((same_value (get stored e.0) (get told e.0)).0 its)
  agree_by e es false here all is later = later (and_parts (holds told stored e) (list_all (holds told stored) es) all).1 is

  agree_at : (entries : List (ℕ × Claim)) → list_all (holds told stored) entries ≡ true → compares_in (lookup (is_at (nat_cmp key)) entries) ≡ true → get stored key ≡ get told key
  agree_at [] all is = absurd (true≢false (sym is))
  agree_at (e ∷ es) all is = agree_by e es (is_at (nat_cmp key) e.0) (sym (unsigned_tied key e.0)) all is (λ a i. agree_at es a i)

or_true : (b : Bool) → (b || true) ≡ true
or_true true = refl
or_true false = refl

-- ---- one key more
pub key_on : (told told' stored stored' : Map) (key : ℕ) (claim : Claim) (left rest all : List (ℕ × Claim)) (same : Bool) → told' ≡ told → stored' ≡ stored → left ≡ (key, claim) ∷ rest → same ≡ true → same ≡ option_eq nat_eq (get stored key) (get told key)
    → list_all (holds told stored) all ≡ list_all (holds told stored) left → list_all (holds told' stored') all ≡ list_all (holds told' stored') rest
key_on told told' stored stored' key claim left rest all same told_is stored_is next agree is so =
    let agrees : option_eq nat_eq (get stored key) (get told key) ≡ true = sym is ∙ agree in
    let held : holds told stored (key, claim) ≡ true = ap (λ (b : Bool). not (compares claim) || b) agrees ∙ or_true (not (compares claim)) in
    let step : list_all (holds told stored) left ≡ list_all (holds told stored) rest = ap (list_all (holds told stored)) next ∙ ap (λ (b : Bool). b && list_all (holds told stored) rest) held in
    subst (λ (m : Map). list_all (holds m stored') all ≡ list_all (holds m stored') rest) (sym told_is) (subst (λ (m : Map). list_all (holds told m) all ≡ list_all (holds told m) rest) (sym stored_is) (so ∙ step))

-- and a count that stays below 2^64
pub count_on : (count count' : ℕ) (key : ℕ) (claim : Claim) (left rest all : List (ℕ × Claim)) → left ≡ (key, claim) ∷ rest → compares claim ≡ true → count' ≡ min (count + 1) 18446744073709551615 → length all < 9223372036854775808
    → count + length (filter (λ entry. compares entry.1) left) ≡ length (filter (λ entry. compares entry.1) all) → count' + length (filter (λ entry. compares entry.1) rest) ≡ length (filter (λ entry. compares entry.1) all)
count_on count count' key claim left rest all next here is few so =
    let step : length (filter (λ entry. compares entry.1) left) ≡ suc (length (filter (λ entry. compares entry.1) rest)) =
    ap (λ (es : List (ℕ × Claim)). length (filter (λ entry. compares entry.1) es)) next ∙ ap (λ (b : Bool). length (cond b ((key, claim) ∷ filter (λ entry. compares entry.1) rest) (filter (λ entry. compares entry.1) rest))) here in
    omega (arith, step, is, few, so, length-filter (λ (entry : ℕ × Claim). compares entry.1) all, count_by-le-length (λ (entry : ℕ × Claim). compares entry.1) all)

-- ---- how many are compared
-- the keys of updates that pass a test, where the test fails at a key with no update
abbrev not_none : List Update → Bool
not_none [] = false
not_none (u ∷ us) = true

abbrev key_if : (ℕ → Bool) → Update → List ℕ
key_if test u = if test (key_of u.op).0 then (key_of u.op).0 ∷ [] else []

one_key : (q k : ℕ) (b t tq : Bool) (us : List Update) (u : Update) → nat_eq q k ≡ b → nat_eq k q ≡ b → t ≡ (if b then tq else t) → (list_any (nat_eq q) (if t then k ∷ [] else []) || (tq && not_none us)) ≡ (tq && not_none ((if b then u ∷ [] else []) ++ us))
one_key q k true true true us u here there t_is = rw here refl
one_key q k true true false us u here there same = absurd (true≢false same)
one_key q k true false true us u here there same = absurd (true≢false (sym same))
one_key q k true false false us u here there same = refl
one_key q k false true tq us u here there same = rw here refl
one_key q k false false tq us u here there same = refl

turned : (x y : ℕ) → nat_eq y x ≡ nat_eq x y
turned x y = nat_eq_equiv.symm y x

at_same : (test : ℕ → Bool) (q k : ℕ) (b : Bool) → nat_eq k q ≡ b → test k ≡ (if b then test q else test k)
at_same test q k true is = ap test ((unsigned_Decides k q).0 is)
at_same test q k false is = refl

none_left : (b : Bool) → (b && false) ≡ false
none_left true = refl
none_left false = refl

and_true : (b : Bool) → (b && true) ≡ b
and_true true = refl
and_true false = refl

member_of : (test : ℕ → Bool) (q : ℕ) (us : List Update) → list_any (nat_eq q) (flat_map (key_if test) us) ≡ (test q && not_none (flat_map (at_key q) us))
member_of test q [] = sym (none_left (test q))
member_of test q (u ∷ us) =
    list_any-append (nat_eq q) (key_if test u) (flat_map (key_if test) us)
    ∙ (ap (λ (b : Bool). list_any (nat_eq q) (key_if test u) || b) (member_of test q us)
    ∙ one_key q (key_of u.op).0 (nat_eq (key_of u.op).0 q) (test (key_of u.op).0) (test q) (flat_map (at_key q) us) u (turned (key_of u.op).0 q) refl (at_same test q (key_of u.op).0 (nat_eq (key_of u.op).0 q) refl))

compared_some : (us : List Update) → (is_compared us && not_none us) ≡ is_compared us
compared_some [] = refl
compared_some (u ∷ us) = and_true (is_compared (u ∷ us))

member_compared : (lines : List Line) (q : ℕ) → list_any (nat_eq q) (keys_compared lines) ≡ is_compared (updates_at q lines)
member_compared lines q = member_of (λ k. is_compared (updates_at k lines)) q (updates_of lines) ∙ compared_some (updates_at q lines)

by_number : eq_by_cmp nat_cmp ≡ nat_eq
by_number i x y = unsigned_tied x y i

filtered_by : (claim : Claim) (b : Bool) → is_some (cond b (Some claim) None) ≡ b
filtered_by claim true = refl
filtered_by claim false = refl

filtered : (o : Option Claim) → is_some (option_filter compares o) ≡ compares_in o
filtered None = refl
filtered (Some claim) = filtered_by claim (compares claim)

counted : (m : BTreeMap ℕ Claim) (lines : List Line) → AreClaims (tree.get nat_cmp m) (updates_of lines) → IsOrdered nat_cmp m → length (filter (λ entry. compares entry.1) m.entries) ≡ distinct_count nat_eq (keys_compared lines)
counted m lines are ordered =
    let apart : IsDistinct nat_eq (keys_of m.entries) = subst (λ (E : ℕ → ℕ → Bool). IsDistinct E (keys_of m.entries)) by_number (IsDistinct-from_sorted nat_cmp (keys_of m.entries) ordered) in
    let its = filter (λ entry. compares entry.1) m.entries in
    sym (length-keys_of its)
    ∙ length-from_keys nat_eq_equiv (keys_of its) (keys_compared lines) (IsDistinct-keys_filter nat_eq (λ entry. compares entry.1) m.entries apart)
    (λ q. sym (is_some-lookup (nat_eq q) its)
    ∙ (ap is_some (lookup-filter-values nat_eq_equiv compares q m.entries apart)
    ∙ (filtered (lookup (nat_eq q) m.entries)
    ∙ (ap (λ (E : ℕ → ℕ → Bool). compares_in (lookup (E q) m.entries)) (sym by_number)
    ∙ (noted_tells (tree.get nat_cmp m) lines q are ∙ sym (member_compared lines q))))))

-- ---- the line
line_is : (m : BTreeMap ℕ Claim) (lines : List Line) (told stored : Map) (keys : Keys) → AreClaims (tree.get nat_cmp m) (updates_of lines) → IsOrdered nat_cmp m → IsLineOfClaims m.entries told stored keys → IsKeysLine lines told stored keys
line_is m lines told stored (Agree count) are ordered its =
    (λ key is. agree_at told stored key m.entries its.0 (noted_tells (tree.get nat_cmp m) lines key are ∙ is), its.1 ∙ counted m lines are ordered)
line_is m lines told stored (Differs key) are ordered its =
    let claim = its.0 in let found = its.1 in
    let there = slice_get_read m.entries (length m.entries) found.0 (key.0, claim) refl found.1 (sym found.2) in
    let stands = btree_map_get_place nat_cmp_total m found.0 key.0 claim ordered there in
    let apart = differs_by (get stored key.0) (get told key.0) (compares claim) (option_eq nat_eq (get stored key.0) (get told key.0)) refl its.2 in
    (sym (noted_tells (tree.get nat_cmp m) lines key.0 are) ∙ (ap compares_in stands ∙ apart.0), apart.1)

pub line_of : {E : Type 0} (r : Result Keys E) (m : BTreeMap ℕ Claim) (lines : List Line) (told stored : Map) → AreClaims (tree.get nat_cmp m) (updates_of lines) → IsOrdered nat_cmp m → IfOk r (IsLineOfClaims m.entries told stored) → IfOk r (IsKeysLine lines told stored)
line_of (Ok keys) m lines told stored are ordered its = line_is m lines told stored keys are ordered its
line_of (Err e) m lines told stored are ordered its = tt
