-- The list of what the scan tells, entry by entry.
use Rattle.std.proofs.Common.{◌≡◌, ⊎_elim, ℕ, ◌++◌, true, false, cond, List, [], ◌∷◌, map, refl, sym, ap, subst, ◌∙◌, arith}
use Rattle.std.specs.Prelude.{Contains}
use Rattle.std.specs.List.{AllByRecursion}
use Rattle.std.specs.List.Sorted.{IsStrictlySortedBy, IsStrictlyIncreasing}
use Rattle.std.proofs.lemmas.Map.Keys.{IsStrictlyIncreasing-from_sorted}
use Rattle.std.specs.BTreeMap.{IsOrdered}
use Rattle.std.specs.Ordering.{nat_cmp}
use Rattle.std.proofs.lemmas.List.{map-append, append_assoc}
use Rattle.fkv_scan.specs.declared.home_scans.HomeScan.{HomeScan}
use Rattle.fkv_scan.specs.declared.scans.Scanned.{Scanned}
use Rattle.fkv_scan.proofs.Shown.{bool_is}
use Rattle.fkv_room.proofs.Shown.{by_cond, in_rest, in_head, in_tail}
use Rattle.fkv_entries.specs.declared.home_entries.HomeEntry.{HomeEntry}
use Rattle.fkv_opening.specs.Entries.{entry_home, place_of}
use Rattle.fkv_opening.specs.Listed.{addr_told, has_entry, listed}

module _ (bits : ℕ) (all es rest : List (ℕ × HomeScan)) (entries : List HomeEntry) (h : ℕ) (s : HomeScan) (so_far : map place_of entries ++ listed bits es ≡ listed bits all) (is : es ≡ (h, s) ∷ rest) where
  -- a home that has an entry
  pub list_with : (x : HomeEntry) → has_entry bits h s ≡ true → place_of x ≡ (h, addr_told s) → map place_of (entries ++ x ∷ []) ++ listed bits rest ≡ listed bits all
  list_with x has place =
      ap (λ ps. ps ++ listed bits rest) (map-append place_of entries (x ∷ []))
      ∙ append_assoc (map place_of entries) (place_of x ∷ []) (listed bits rest)
      ∙ ap (λ p. map place_of entries ++ p ∷ listed bits rest) place
      ∙ sym (ap (λ ps. map place_of entries ++ ps) (ap (listed bits) is ∙ ap (λ b. cond b ((h, addr_told s) ∷ listed bits rest) (listed bits rest)) has))
      ∙ so_far

  -- one that has none
  pub list_without : has_entry bits h s ≡ false → map place_of entries ++ listed bits rest ≡ listed bits all
  list_without has =
      sym (ap (λ ps. map place_of entries ++ ps) (ap (listed bits) is ∙ ap (λ b. cond b ((h, addr_told s) ∷ listed bits rest) (listed bits rest)) has))
      ∙ so_far

-- where no home is left
pub list_whole : (bits : ℕ) (all es : List (ℕ × HomeScan)) (entries : List HomeEntry) → map place_of entries ++ listed bits es ≡ listed bits all → es ≡ [] → map place_of entries ≡ listed bits all
list_whole bits all es entries so_far none = sym (append_nil (map place_of entries)) ∙ sym (ap (λ ps. map place_of entries ++ listed bits ps) none) ∙ so_far
  where
    append_nil : (ps : List (ℕ × ℕ)) → ps ++ [] ≡ ps
    append_nil [] = refl
    append_nil (p ∷ ps) = ap (λ qs. p ∷ qs) (append_nil ps)

module _ (bits : ℕ) where
  -- a home with what was told of it, where that is an entry of this address
  abbrev pub IsListed : List (ℕ × HomeScan) → ℕ → ℕ → Type 0
  IsListed es h a = (s : HomeScan) × Contains es (h, s) × (has_entry bits h s ≡ true) × (addr_told s ≡ a)

  later : (e : ℕ × HomeScan) (es : List (ℕ × HomeScan)) (h a : ℕ) → IsListed es h a → IsListed (e ∷ es) h a
  later e es h a is = (is.0, in_tail e (h, is.0) es is.1, is.2, is.3)

  pub from_list : (es : List (ℕ × HomeScan)) (h a : ℕ) → Contains (listed bits es) (h, a) → IsListed es h a
  from_list [] h a has = absurd (omega (arith, has.1))
  from_list (e ∷ es) h a has = ⊎_elim
      (λ is. ⊎_elim (λ same. here is same) (λ rest. later e es h a (from_list es h a rest))
      (in_rest (e.0, addr_told e.1) (h, a) (listed bits es) (subst (λ b. Contains (cond b ((e.0, addr_told e.1) ∷ listed bits es) (listed bits es)) (h, a)) is has)))
      (λ none. later e es h a (from_list es h a (subst (λ b. Contains (cond b ((e.0, addr_told e.1) ∷ listed bits es) (listed bits es)) (h, a)) none has)))
      (bool_is (has_entry bits e.0 e.1))
    where
      here : has_entry bits e.0 e.1 ≡ true → ◌≡◌ {A = ℕ × ℕ} (e.0, addr_told e.1) (h, a) → IsListed (e ∷ es) h a
      here is same = (
        e.1,
        in_head e (h, e.1) es (ap (λ n. let q : ℕ × HomeScan = (n, e.1) in q) (ap (λ (q : ℕ × ℕ). q.0) same)),
        subst (λ n. has_entry bits n e.1 ≡ true) (ap (λ (q : ℕ × ℕ). q.0) same) is,
        ap (λ (q : ℕ × ℕ). q.1) same,
      )

  pub to_list : (es : List (ℕ × HomeScan)) (h : ℕ) (s : HomeScan) → Contains es (h, s) → has_entry bits h s ≡ true → Contains (listed bits es) (h, addr_told s)
  to_list [] h s has is = absurd (omega (arith, has.1))
  to_list (e ∷ es) h s has is = by_cond (λ ps. Contains ps (h, addr_told s)) (has_entry bits e.0 e.1) ((e.0, addr_told e.1) ∷ listed bits es) (listed bits es)
      (λ some. ⊎_elim
      (λ same. in_head (e.0, addr_told e.1) (h, addr_told s) (listed bits es) (ap (λ (q : ℕ × HomeScan). let p : ℕ × ℕ = (q.0, addr_told q.1) in p) same))
      (λ rest. in_tail (e.0, addr_told e.1) (h, addr_told s) (listed bits es) (to_list es h s rest is))
      (in_rest e (h, s) es has))
      (λ none. ⊎_elim (λ same. absurd (apart none same)) (λ rest. to_list es h s rest is) (in_rest e (h, s) es has))
    where
      apart : has_entry bits e.0 e.1 ≡ false → e ≡ (h, s) → ⊥
      apart none same = let off : true ≡ false = sym is ∙ ap (λ (q : ℕ × HomeScan). has_entry bits q.0 q.1) (sym same) ∙ none in absurd (cc)

  all_listed : (P : ℕ → Type 0) (es : List (ℕ × HomeScan)) → AllByRecursion P (map (λ e. e.0) es) → AllByRecursion P (map (λ p. p.0) (listed bits es))
  all_listed P [] all = tt
  all_listed P (e ∷ es) all = by_cond (λ ps. AllByRecursion P (map (λ (p : ℕ × ℕ). p.0) ps)) (has_entry bits e.0 e.1) ((e.0, addr_told e.1) ∷ listed bits es) (listed bits es)
      (λ has. (all.0, all_listed P es all.1)) (λ none. all_listed P es all.1)

  -- the homes stay in their order
  pub sorted_listed : (es : List (ℕ × HomeScan)) → IsStrictlySortedBy nat_cmp (map (λ e. e.0) es) → IsStrictlySortedBy nat_cmp (map (λ p. p.0) (listed bits es))
  unfolding IsStrictlySortedBy
  sorted_listed [] sorted = tt
  sorted_listed (e ∷ es) sorted = by_cond (λ ps. IsStrictlySortedBy nat_cmp (map (λ (p : ℕ × ℕ). p.0) ps)) (has_entry bits e.0 e.1) ((e.0, addr_told e.1) ∷ listed bits es) (listed bits es)
      (λ has. (all_listed _ es sorted.0, sorted_listed es sorted.1)) (λ none. sorted_listed es sorted.1)

pub same_homes : (entries : List HomeEntry) → map (λ p. p.0) (map place_of entries) ≡ map entry_home entries
same_homes [] = refl
same_homes (x ∷ xs) = ap (λ hs. entry_home x ∷ hs) (same_homes xs)

-- so the homes of the entries ascend
pub ascending_told : (bits : ℕ) (told : Scanned) → IsOrdered nat_cmp told.homes → (entries : List HomeEntry) → map place_of entries ≡ listed bits told.homes.entries → IsStrictlyIncreasing (map entry_home entries)
ascending_told bits told ordered entries is = IsStrictlyIncreasing-from_sorted (map entry_home entries) (subst (λ hs. IsStrictlySortedBy nat_cmp hs) same (sorted_listed bits told.homes.entries ordered))
  where
    same : map (λ p. p.0) (listed bits told.homes.entries) ≡ map entry_home entries
    same = ap (λ ps. map (λ (p : ℕ × ℕ). p.0) ps) (sym is) ∙ same_homes entries
