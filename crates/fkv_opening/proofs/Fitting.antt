-- Whatever the scan told, the index has room for the entries.
use Rattle.std.proofs.Common.{◌≡◌, ℕ, zero, suc, ◌+◌, ◌*◌, ◌/◌, ◌<◌, ◌≤◌, ◌^◌, true, cond, Option, Some, None, List, [], ◌∷◌, length, map, get_or, refl, sym, ap, subst, ◌∙◌, arith}
use Rattle.std.specs.Prelude.{All, AllPairs, ◌||◌, nat_eq, count_by}
use Rattle.std.specs.Option.{is_some}
use Rattle.std.specs.Ordering.{nat_cmp}
use Rattle.std.specs.BTreeMap.{IsOrdered}
use Rattle.std.proofs.lemmas.Bool.Decides.{nat_tests}
use Rattle.std.proofs.lemmas.List.{length-map, get_or-map}
use Rattle.std.proofs.lemmas.List.Kept.{AllPairs-from_increasing}
use Rattle.std.proofs.lemmas.List.Sums.{sum_by-cons}
use Rattle.fkv_base.specs.declared.numbers.Addr.{Addr}
use Rattle.fkv_scan.specs.declared.home_scans.HomeScan.{HomeScan}
use Rattle.fkv_scan.specs.declared.scans.Scanned.{Scanned}
use Rattle.fkv_entries.specs.declared.home_entries.HomeEntry.{HomeEntry}
use Rattle.fkv_entries.specs.Room.{bucket_words, taken_below, AreApart, HaveRoom}
use Rattle.fkv_entries.proofs.Shown.{words_counted}
use Rattle.fkv_room.specs.Counted.{goes_on, homes_of}
use Rattle.fkv_room.specs.Counted as room
use Rattle.fkv_room.specs.Room.{in_bucket, taken}
use Rattle.fkv_room.proofs.Shown.{by_cond}
use Rattle.fkv_opening.specs.Entries.{entry_home, place_of}
use Rattle.fkv_opening.specs.Listed.{addr_or, addr_told, is_addr, has_entry, listed}
use Rattle.fkv_opening.proofs.Listing.{same_homes, ascending_told}
use Rattle.fkv_opening.proofs.Telling.{both}

room_has : (newest below : Option Addr) → is_addr (addr_or newest (addr_or below 0)) ≡ true → (is_some newest || goes_on below) ≡ true
room_has (Some a) below is = refl
room_has None (Some a) is = grind (arith, nat_tests)
room_has None None is = absurd (let off : 0 < 0 = grind (arith, nat_tests) in omega (arith, off))

-- a home that has an entry here has one for the room
told_room : (s : HomeScan) → is_addr (addr_told s) ≡ true → room.has_entry s ≡ true
unfolding addr_told room.has_entry
told_room s is = room_has s.newest s.below is

fewer : (bits b : ℕ) (es : List (ℕ × HomeScan)) → in_bucket (map (λ p. p.0) (listed bits es)) b ≤ in_bucket (homes_of es) b
fewer bits b [] = omega arith
fewer bits b (e ∷ es) = by_cond (λ ps. in_bucket (map (λ (p : ℕ × ℕ). p.0) ps) b ≤ in_bucket (homes_of (e ∷ es)) b) (has_entry bits e.0 e.1) ((e.0, addr_told e.1) ∷ listed bits es) (listed bits es)
    (λ has.
    let there : room.has_entry e.1 ≡ true = told_room e.1 (both _ _ has) in
    let here : homes_of (e ∷ es) ≡ e.0 ∷ homes_of es = ap (λ t. cond t (e.0 ∷ homes_of es) (homes_of es)) there in
    let rest = fewer bits b es in
    subst (λ hs. in_bucket (e.0 ∷ map (λ (p : ℕ × ℕ). p.0) (listed bits es)) b ≤ in_bucket hs b) (sym here)
    (omega (arith, rest, sum_by-cons (λ h. cond (nat_eq (h / 2 ^ 15) b) 1 0) e.0 (homes_of es), sum_by-cons (λ h. cond (nat_eq (h / 2 ^ 15) b) 1 0) e.0 (map (λ (p : ℕ × ℕ). p.0) (listed bits es)))))
    (λ none.
    let rest = fewer bits b es in
    by_cond (λ hs. in_bucket (map (λ (p : ℕ × ℕ). p.0) (listed bits es)) b ≤ in_bucket hs b) (room.has_entry e.1) (e.0 ∷ homes_of es) (homes_of es)
    (λ some. omega (arith, rest, sum_by-cons (λ h. cond (nat_eq (h / 2 ^ 15) b) 1 0) e.0 (homes_of es)))
    (λ off. rest))

its_bucket : (x : HomeEntry) → entry_home x / 2 ^ 15 ≡ x.bucket
its_bucket x = let fits = x.entry.tag_fits in omega (arith, fits)

counted_alike : (b : ℕ) (xs : List HomeEntry) → count_by (λ x. nat_eq x.bucket b) xs ≡ in_bucket (map entry_home xs) b
counted_alike b [] = refl
counted_alike b (x ∷ xs) =
    let same : ◌≡◌ {A = ℕ} (cond (nat_eq (entry_home x / 2 ^ 15) b) 1 0) (cond (nat_eq x.bucket b) 1 0) = ap (λ n. cond (nat_eq n b) 1 0) (its_bucket x) in
    omega (
      arith,
      same,
      counted_alike b xs,
      sum_by-cons (λ (y : HomeEntry). cond (nat_eq y.bucket b) 1 0) x xs,
      sum_by-cons (λ h. cond (nat_eq (h / 2 ^ 15) b) 1 0) (entry_home x) (map entry_home xs),
    )

module _ (bits overflow : ℕ) (told : Scanned) (ordered : IsOrdered nat_cmp told.homes) (entries : List HomeEntry) (are : map place_of entries ≡ listed bits told.homes.entries) where
  few_words : (b : ℕ) → length (bucket_words b entries) ≤ in_bucket (homes_of told.homes.entries) b
  few_words b =
      let homes : map (λ p. p.0) (listed bits told.homes.entries) ≡ map entry_home entries = ap (λ ps. map (λ (p : ℕ × ℕ). p.0) ps) (sym are) ∙ same_homes entries in
      let few = subst (λ hs. in_bucket hs b ≤ in_bucket (homes_of told.homes.entries) b) homes (fewer bits b told.homes.entries) in
      omega (arith, words_counted b entries, counted_alike b entries, few)

  few_taken : (b : ℕ) → taken_below entries b ≤ taken (homes_of told.homes.entries) b
  unfolding taken_below
  few_taken zero = omega arith
  few_taken (suc b) =
      let few = few_words b in
      let rest = few_taken b in
      omega (arith, few, rest)

  apart : AllPairs AreApart entries
  apart i j d less low same_bucket same_tag =
      let rises = AllPairs-from_increasing (map entry_home entries) (ascending_told bits told ordered entries are) i j (entry_home d) less (omega (arith, low, length-map entries entry_home)) in
      let first = get_or-map entry_home entries i d in
      let second = get_or-map entry_home entries j d in
      let same : entry_home (get_or entries i d) ≡ entry_home (get_or entries j d) = ap (λ n. n * 2 ^ 15 + (let x = get_or entries i d in x.entry.tag)) same_bucket ∙ ap (λ n. (let x = get_or entries j d in x.bucket) * 2 ^ 15 + n) same_tag in
      omega (arith, rises, first, second, same)

  pub have_room : All (λ x. x.bucket < 2 ^ bits) entries → taken (homes_of told.homes.entries) (2 ^ bits) ≤ overflow → HaveRoom (2 ^ bits) overflow entries
  have_room there enough = record {
    homes = record { once = apart; there = there };
    enough = (let few = few_taken (2 ^ bits) in omega (arith, few, enough));
  }
