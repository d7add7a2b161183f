-- The homes that the scan told of are those that have an entry.
use Rattle.std.proofs.Common.{◌≡◌, ◌⊎◌, inl, inr, ⊎_elim, ℕ, zero, suc, ◌<◌, ◌≤◌, Bool, true, false, cond, List, [], ◌∷◌, length, refl, sym, ap, subst, ◌∙◌, arith}
use Rattle.std.specs.Prelude.{Contains, map}
use Rattle.std.specs.List.{AllByRecursion}
use Rattle.std.specs.List.Sorted.{IsStrictlySortedBy}
use Rattle.std.specs.Ordering.{nat_cmp}
use Rattle.std.specs.BTreeMap.{IsOrdered}
use Rattle.std.proofs.lemmas.Cmp.{nat_cmp_total}
use Rattle.std.proofs.lemmas.List.Kept.{AllPairs-from_increasing}
use Rattle.std.proofs.lemmas.Map.Keys.{IsStrictlyIncreasing-from_sorted}
use Rattle.std.proofs.lemmas.Map.Lookups.{exact_unsigned}
use Rattle.std.proofs.lemmas.Map.Views.{btree_map_get_iff}
use Rattle.fkv_scan.specs.declared.home_scans.HomeScan.{HomeScan}
use Rattle.fkv_scan.specs.declared.scans.Scanned.{Scanned}
use Rattle.fkv_scan.specs.Log.{Log}
use Rattle.fkv_room.specs.Counted.{has_entry, homes_of}
use Rattle.fkv_room.specs.Refused.{IsSound}
use Rattle.fkv_room.specs.Room.{AreHomes}
use Rattle.fkv_room.proofs.Entering.{AreEntries, IsTold, bool_is, told_iff}

pub by_cond : {A : Type 0} (M : A → Type 0) (b : Bool) (x y : A) → (b ≡ true → M x) → (b ≡ false → M y) → M (cond b x y)
by_cond M true x y one other = one refl
by_cond M false x y one other = other refl

pub in_rest : {X : Type 0} (x y : X) (xs : List X) → Contains (x ∷ xs) y → (x ≡ y) ⊎ Contains xs y
in_rest x y xs (zero, low, is) = inl is
in_rest x y xs (suc k, low, is) = inr (k, (let less : k < length xs = omega (arith, low) in less), is)

pub in_head : {X : Type 0} (x y : X) (xs : List X) → x ≡ y → Contains (x ∷ xs) y
in_head x y xs is = (0, (let low : 0 < suc (length xs) = omega arith in low), is)

pub in_tail : {X : Type 0} (x y : X) (xs : List X) → Contains xs y → Contains (x ∷ xs) y
in_tail x y xs has = (suc has.0, (let low : suc has.0 < suc (length xs) = omega (arith, has.1) in low), has.2)

all_listed : (P : ℕ → Type 0) (es : List (ℕ × HomeScan)) → AllByRecursion P (map (λ e. e.0) es) → AllByRecursion P (homes_of es)
all_listed P [] all = tt
all_listed P (e ∷ es) all = by_cond (λ hs. AllByRecursion P hs) (has_entry e.1) (e.0 ∷ homes_of es) (homes_of es) (λ has. (all.0, all_listed P es all.1)) (λ none. all_listed P es all.1)

sorted_listed : (es : List (ℕ × HomeScan)) → IsStrictlySortedBy nat_cmp (map (λ e. e.0) es) → IsStrictlySortedBy nat_cmp (homes_of es)
unfolding IsStrictlySortedBy
sorted_listed [] sorted = tt
sorted_listed (e ∷ es) sorted = by_cond (λ hs. IsStrictlySortedBy nat_cmp hs) (has_entry e.1) (e.0 ∷ homes_of es) (homes_of es)
    (λ has. (all_listed _ es sorted.0, sorted_listed es sorted.1)) (λ none. sorted_listed es sorted.1)

-- no more homes than entries of the map
pub few_listed : (es : List (ℕ × HomeScan)) → length (homes_of es) ≤ length es
few_listed [] = omega arith
few_listed (e ∷ es) = by_cond (λ hs. length hs ≤ suc (length es)) (has_entry e.1) (e.0 ∷ homes_of es) (homes_of es)
    (λ has. let rest = few_listed es in (omega (arith, rest))) (λ none. let rest = few_listed es in (omega (arith, rest)))

-- an entry of the map with this home
abbrev IsListed : List (ℕ × HomeScan) → ℕ → Type 0
IsListed es h = (s : HomeScan) × Contains es (h, s) × (has_entry s ≡ true)

later : (e : ℕ × HomeScan) (es : List (ℕ × HomeScan)) (h : ℕ) → IsListed es h → IsListed (e ∷ es) h
later e es h is = (is.0, in_tail e (h, is.0) es is.1, is.2)

from_list : (es : List (ℕ × HomeScan)) (h : ℕ) → Contains (homes_of es) h → IsListed es h
from_list [] h has = absurd (omega (arith, has.1))
from_list (e ∷ es) h has = ⊎_elim
    (λ is. ⊎_elim (λ same. here is same) (λ rest. later e es h (from_list es h rest)) (in_rest e.0 h (homes_of es) (subst (λ b. Contains (cond b (e.0 ∷ homes_of es) (homes_of es)) h) is has)))
    (λ none. later e es h (from_list es h (subst (λ b. Contains (cond b (e.0 ∷ homes_of es) (homes_of es)) h) none has)))
    (bool_is (has_entry e.1))
  where
    here : has_entry e.1 ≡ true → e.0 ≡ h → IsListed (e ∷ es) h
    here is same = (e.1, in_head e (h, e.1) es (ap (λ n. let q : ℕ × HomeScan = (n, e.1) in q) same), is)

to_list : (es : List (ℕ × HomeScan)) (h : ℕ) (s : HomeScan) → Contains es (h, s) → has_entry s ≡ true → Contains (homes_of es) h
to_list [] h s has is = absurd (omega (arith, has.1))
to_list (e ∷ es) h s has is = by_cond (λ hs. Contains hs h) (has_entry e.1) (e.0 ∷ homes_of es) (homes_of es)
    (λ some. ⊎_elim (λ same. in_head e.0 h (homes_of es) (ap (λ (q : ℕ × HomeScan). q.0) same)) (λ rest. in_tail e.0 h (homes_of es) (to_list es h s rest is)) (in_rest e (h, s) es has))
    (λ none. ⊎_elim (λ same. absurd (apart none same)) (λ rest. to_list es h s rest is) (in_rest e (h, s) es has))
  where
    apart : has_entry e.1 ≡ false → e ≡ (h, s) → ⊥
    apart none same = let off : true ≡ false = sym is ∙ ap (λ (q : ℕ × HomeScan). has_entry q.1) (sym same) ∙ none in absurd (cc)

pub are_homes : (log : Log) (told : Scanned) → AreEntries → IsSound log told → IsOrdered nat_cmp told.homes → AreHomes log (homes_of told.homes.entries)
are_homes log told agree sound ordered = record {
  once = λ i j d less low equal. let rises = AllPairs-from_increasing (homes_of told.homes.entries) (IsStrictlyIncreasing-from_sorted (homes_of told.homes.entries) (sorted_listed told.homes.entries ordered)) i j d less low in omega (arith, rises, equal);
  all = λ h. (λ has. (told_iff log told agree sound h).0 (got h (from_list told.homes.entries h has)), λ entry. given h ((told_iff log told agree sound h).1 entry));
}
  where
    got : (h : ℕ) → IsListed told.homes.entries h → IsTold told h
    got h is = (is.0, (btree_map_get_iff nat_cmp_total exact_unsigned told.homes ordered h is.0).1 is.1, is.2)

    given : (h : ℕ) → IsTold told h → Contains (homes_of told.homes.entries) h
    given h is = to_list told.homes.entries h is.0 ((btree_map_get_iff nat_cmp_total exact_unsigned told.homes ordered h is.0).0 is.1) is.2
