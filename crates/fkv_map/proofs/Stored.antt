-- The entries that are stored, against the map that they stand for.
use Rattle.std.proofs.Common.{◌≡◌, ℕ, ◌<◌, suc, zero, Bool, true, false, cond, ◌&&◌, T, List, [], ◌∷◌, length, get_or, map, Option, Some, None, option_map, refl, sym, ap, ◌∙◌, arith}
use Rattle.std.specs.Cmp.{eq_by_cmp_equiv}
use Rattle.std.specs.declared.cmp.Ordering.{Ordering}
use Rattle.std.specs.declared.cmp.Ordering.TheVariants.{Less, Equal, Greater}
use Rattle.std.specs.Ordering.{nat_cmp, is_lt}
use Rattle.std.specs.Map.{lookup, keys_of}
use Rattle.std.specs.BTreeMap.{is_at}
use Rattle.std.specs.List.Sorted.{IsStrictlySortedBy}
use Rattle.std.specs.FinMap.{get, find, put, insert, remove, entries, entries_sorted, is_sorted, from_entries, get-from_entries, get-insert, get-remove, entries-insert, len-entries, len-empty, same_map, nat_cmp-IsAntisymmetric}
use Rattle.std.specs.FinMap.Entries.{below_all}
use Rattle.std.proofs.lemmas.Cmp.{nat_cmp_total, ranked}
use Rattle.std.proofs.lemmas.Map.Views.{All-after_first}
use Rattle.fkv_base.specs.declared.numbers.Key.{Key}
use Rattle.fkv_base.specs.declared.numbers.Value.{Value}
use Rattle.fkv_map.specs.Map.{Map, as_numbers, IsAscending}

-- the order of keys is that of their numbers
abbrev pub key_cmp : Key → Key → Ordering
key_cmp a b = nat_cmp a.0 b.0

-- what the stored entries have at a key, as a number
abbrev pub number_at : List (Key × Value) → Key → Option ℕ
number_at es key = option_map (λ value. value.0) (lookup (is_at (key_cmp key)) es)

-- the map that stored entries stand for
abbrev pub map_of : List (Key × Value) → Map
map_of es = from_entries (as_numbers es)

number_of_cond : (b : Bool) (value : Value) (rest : Option Value) → option_map (λ (v : Value). v.0) (cond b (Some value) rest) ≡ cond b (Some value.0) (option_map (λ (v : Value). v.0) rest)
number_of_cond true value rest = refl
number_of_cond false value rest = refl

none_of_cond : (b : Bool) (rest : Option Value) → option_map (λ (v : Value). v.0) (cond b None rest) ≡ cond b None (option_map (λ (v : Value). v.0) rest)
none_of_cond true rest = refl
none_of_cond false rest = refl

find_key : (es : List (Key × Value)) (key : Key) → find nat_cmp key.0 (as_numbers es) ≡ number_at es key
find_key [] key = refl
find_key (e ∷ es) key = ap (cond (is_at (key_cmp key) e.0) (Some e.1.0)) (find_key es key) ∙ sym (number_of_cond (is_at (key_cmp key) e.0) e.1 (lookup (is_at (key_cmp key)) es))

-- the map has what is stored
pub get-map_of : (es : List (Key × Value)) (key : Key) → get (map_of es) key.0 ≡ number_at es key
get-map_of es key = get-from_entries nat_cmp_total (as_numbers es) key.0 ∙ find_key es key

-- to store a value at a key is to insert it
pub map_of-insert : (es fs : List (Key × Value)) (key : Key) (value : Value) → ((q : Key) → lookup (is_at (key_cmp q)) fs ≡ cond (is_at (key_cmp key) q) (Some value) (lookup (is_at (key_cmp q)) es)) → map_of fs ≡ insert (map_of es) key.0 value.0
map_of-insert es fs key value stored = same_map nat_cmp_total nat_cmp-IsAntisymmetric _ _ (λ q.
    let k : Key = record { 0 = q } in
    get-map_of fs k ∙ ap (option_map (λ v. v.0)) (stored k)
    ∙ number_of_cond (is_at (key_cmp key) k) value (lookup (is_at (key_cmp k)) es)
    ∙ ap (cond (is_at (key_cmp key) k) (Some value.0)) (sym (get-map_of es k))
    ∙ ap (λ b. cond b (Some value.0) (get (map_of es) q)) ((eq_by_cmp_equiv nat_cmp_total).symm key.0 q)
    ∙ sym (get-insert nat_cmp_total (map_of es) key.0 value.0 q))

-- to take an entry out is to remove its key
pub map_of-remove : (es fs : List (Key × Value)) (key : Key) → ((q : Key) → lookup (is_at (key_cmp q)) fs ≡ cond (is_at (key_cmp key) q) None (lookup (is_at (key_cmp q)) es)) → map_of fs ≡ remove (map_of es) key.0
map_of-remove es fs key stored = same_map nat_cmp_total nat_cmp-IsAntisymmetric _ _ (λ q.
    let k : Key = record { 0 = q } in
    get-map_of fs k ∙ ap (option_map (λ v. v.0)) (stored k)
    ∙ none_of_cond (is_at (key_cmp key) k) (lookup (is_at (key_cmp k)) es)
    ∙ ap (cond (is_at (key_cmp key) k) None) (sym (get-map_of es k))
    ∙ ap (λ b. cond b None (get (map_of es) q)) ((eq_by_cmp_equiv nat_cmp_total).symm key.0 q)
    ∙ sym (get-remove nat_cmp_total (map_of es) key.0 q))

-- ---- in order
nil_of_length : {A : Type 0} (xs : List A) → length xs ≡ 0 → xs ≡ []
nil_of_length [] e = refl
nil_of_length (x ∷ xs) e = absurd (omega arith)

put_first : (e : Key × Value) (es : List (Key × Value)) → IsStrictlySortedBy key_cmp (keys_of (e ∷ es)) → put nat_cmp e.0.0 e.1.0 (as_numbers es) ≡ as_numbers (e ∷ es)
put_first e [] sorted = refl
put_first e (f ∷ es) sorted =
    let below : key_cmp e.0 f.0 ≡ Less = All-after_first key_cmp e.0 (keys_of (f ∷ es)) sorted 0 f.0 (omega arith) in
    rw below refl

rest_sorted : (e : Key × Value) (es : List (Key × Value)) → IsStrictlySortedBy key_cmp (keys_of (e ∷ es)) → IsStrictlySortedBy key_cmp (keys_of es)
unfolding IsStrictlySortedBy
rest_sorted e es sorted = sorted.1

-- entries that are stored in order are the map's entries
pub entries-map_of : (es : List (Key × Value)) → IsStrictlySortedBy key_cmp (keys_of es) → entries (map_of es) ≡ as_numbers es
entries-map_of [] sorted = nil_of_length _ (sym (len-entries _) ∙ len-empty nat_cmp ℕ)
entries-map_of (e ∷ es) sorted =
    entries-insert nat_cmp_total (map_of es) e.0.0 e.1.0
    ∙ ap (put nat_cmp e.0.0 e.1.0) (entries-map_of es (rest_sorted e es sorted))
    ∙ put_first e es sorted

-- ---- in any map the keys rise
abbrev key_at : List (ℕ × ℕ) → ℕ → ℕ
key_at es i = get_or (map (λ pair. pair.0) es) i 0

parts : (a b : Bool) → T (a && b) → T a × T b
parts true b h = (tt, h)
parts false b h = absurd h

below_from_test : (x y : ℕ) → T (is_lt (nat_cmp x y)) → x < y
below_from_test x y h =
    elim (nat_cmp x y) as (λ r. r ≡ nat_cmp x y → T (is_lt r) → x < y) [
      | Less ↦ λ is test. ranked x y Less is
      | Equal ↦ λ is test. absurd test
      | Greater ↦ λ is test. absurd test
    ] refl h

below_at : (x : ℕ) (es : List (ℕ × ℕ)) → T (below_all nat_cmp x es) → (j : ℕ) → j < length es → x < key_at es j
below_at x [] h j within = absurd (omega arith)
below_at x (e ∷ es) h zero within = below_from_test x e.0 (parts (is_lt (nat_cmp x e.0)) (below_all nat_cmp x es) h).0
below_at x (e ∷ es) h (suc j) within = below_at x es (parts (is_lt (nat_cmp x e.0)) (below_all nat_cmp x es) h).1 j (omega arith)

IsAscending-sorted : (es : List (ℕ × ℕ)) → T (is_sorted nat_cmp es) → IsAscending es
IsAscending-sorted [] h i j before within = absurd (omega arith)
IsAscending-sorted (e ∷ es) h i zero before within = absurd (omega arith)
IsAscending-sorted (e ∷ es) h zero (suc j) before within = below_at e.0 es (parts (below_all nat_cmp e.0 es) (is_sorted nat_cmp es) h).0 j (omega arith)
IsAscending-sorted (e ∷ es) h (suc i) (suc j) before within = IsAscending-sorted es (parts (below_all nat_cmp e.0 es) (is_sorted nat_cmp es) h).1 i j (omega arith) (omega arith)

pub IsAscending-entries : (m : Map) → IsAscending (entries m)
IsAscending-entries m = IsAscending-sorted (entries m) (entries_sorted m)
