-- What the scan tells are the entries of the log.
use Rattle.std.proofs.Common.{◌≡◌, ◌≢◌, inl, inr, ⊎_elim, ℕ, ◌<◌, ◌≤◌, ◌^◌, true, false, Option, Some, None, List, map, refl, sym, ap, subst, ◌∙◌, arith}
use Rattle.std.specs.Prelude.{Contains, ◌&&◌, ◌/◌, ◌%◌, nat_lt, Bool}
use Rattle.std.specs.Ordering.{nat_cmp}
use Rattle.std.specs.BTreeMap.{get, IsOrdered}
use Rattle.std.proofs.lemmas.Bool.Decides.{nat_tests}
use Rattle.std.proofs.Math.Nat.{mod-lt}
use Rattle.std.proofs.lemmas.Nat.{pow_pos}
use Rattle.std.proofs.lemmas.Cmp.{nat_cmp_total}
use Rattle.std.proofs.lemmas.Map.Lookups.{exact_unsigned}
use Rattle.std.proofs.lemmas.Map.Views.{btree_map_get_iff}
use Rattle.fkv_base.specs.declared.numbers.Addr.{Addr}
use Rattle.fkv_scan.specs.declared.home_scans.HomeScan.{HomeScan}
use Rattle.fkv_scan.specs.declared.scans.Scanned.{Scanned}
use Rattle.fkv_record.specs.declared.records.Record.{Record}
use Rattle.fkv_scan.specs.Log.{Log, AreBelow, record_home}
use Rattle.fkv_scan.specs.Records.{IsCounted}
use Rattle.fkv_scan.specs.Scan.{GoesOn, by_triple, by_none, by_record}
use Rattle.fkv_scan.specs.Scanned.{AreScanned, GoesOnAt, IsEntryOf, IsGreatestOf, IsHomeScan}
use Rattle.fkv_scan.proofs.Shown.{bool_is}
use Rattle.fkv_chains.specs.Chains.{HasChains}
use Rattle.fkv_chains.specs.Entries.{HasEntry, IsEntry}
use Rattle.fkv_room.proofs.Shown.{unmet_none}
use Rattle.fkv_entries.specs.declared.home_entries.HomeEntry.{HomeEntry}
use Rattle.fkv_opening.specs.Entries.{place_of, AreEntries}
use Rattle.fkv_opening.specs.Listed.{addr_or, addr_told, is_addr, has_entry, listed}
use Rattle.fkv_opening.proofs.Listing.{IsListed, from_list, to_list, ascending_told}

-- the entries that the scan tells are those of the store
abbrev pub Agree : Type 0
Agree = (log : Log) (told : Scanned) → AreBelow log.tail log.triples → AreScanned log told → HasChains log → (its_home : ℕ) (entry : Option Addr) → IsEntryOf log its_home entry → HasEntry log its_home entry

some_way : (n : ℕ) → is_addr n ≡ true → n ≢ 0
some_way n is = grind (arith, nat_tests)

no_way : (n : ℕ) → is_addr n ≡ false → n < 2 ^ 48 → n ≡ 0
no_way n is low = grind (arith, nat_tests)

-- where a scan begins and ends
pub record IsBounded (log : Log) : Type 0 where
  pub some : 1 ≤ log.start
  pub upwards : log.start ≤ log.tail
  pub short : log.tail < 2 ^ 48

below_start : (log : Log) (h q : ℕ) → 1 ≤ log.start → GoesOn log h log.tail q → q < log.start
below_start log h q some (by_triple t low) = low
below_start log h q some (by_none none is) = omega (arith, some, is)
below_start log h q some (by_record c x from to valid is low) = low

entry_some : (log : Log) (h : ℕ) (newest : Option Addr) (way : Addr) → IsGreatestOf (IsCounted log h) log.start log.tail newest → GoesOnAt log h log.tail way.0
    → is_addr (addr_or newest way.0) ≡ true → (a : Addr) × (a.0 ≡ addr_or newest way.0) × IsEntryOf log h (Some a)
entry_some log h (Some a) way newest below is = (a, refl, inl newest)
entry_some log h None way newest below is = (way, refl, inr (newest, below, some_way way.0 is))

entry_none : (log : Log) (h : ℕ) (newest : Option Addr) (way : Addr) → IsBounded log → IsGreatestOf (IsCounted log h) log.start log.tail newest → GoesOnAt log h log.tail way.0
    → is_addr (addr_or newest way.0) ≡ false → IsEntryOf log h None
entry_none log h (Some a) way bounds newest below off =
    let low : a.0 < 2 ^ 48 = omega (arith, newest.below, bounds.short) in
    let none : a.0 ≡ 0 = no_way a.0 off low in
    absurd (omega (arith, none, newest.from_on, bounds.some))
entry_none log h None way bounds newest below off =
    let under = below_start log h way.0 bounds.some below.there in
    let low : way.0 < 2 ^ 48 = omega (arith, under, bounds.upwards, bounds.short) in
    (newest, subst (λ (n : ℕ). GoesOnAt log h log.tail n) (no_way way.0 off low) below)

told_some : (log : Log) (h : ℕ) (s : HomeScan) → IsHomeScan log h s → is_addr (addr_told s) ≡ true → (a : Addr) × (a.0 ≡ addr_told s) × IsEntryOf log h (Some a)
unfolding addr_told
told_some log h s is has =
    let e = entry_some log h s.newest is.way is.newest is.below (subst (λ b. is_addr (addr_or s.newest (addr_or b 0)) ≡ true) is.known has) in
    (e.0, e.1 ∙ ap (λ b. addr_or s.newest (addr_or b 0)) (sym is.known), e.2)

told_none : (log : Log) (h : ℕ) (s : HomeScan) → IsBounded log → IsHomeScan log h s → is_addr (addr_told s) ≡ false → IsEntryOf log h None
unfolding addr_told
told_none log h s bounds is has = entry_none log h s.newest is.way bounds is.newest is.below (subst (λ b. is_addr (addr_or s.newest (addr_or b 0)) ≡ false) is.known has)

one_entry : (log : Log) (h a b : ℕ) → IsEntry log h a → IsEntry log h b → a ≡ b
one_entry log h a b first second =
    let up = first.greatest b second.counts.0 second.counts.1 in
    let down = second.greatest a first.counts.0 first.counts.1 in
    omega (arith, up, down)

-- what the scan told of a home, where that is an entry of this address
abbrev IsTold : ℕ → Scanned → ℕ → ℕ → Type 0
IsTold bits told h a = (s : HomeScan) × (get nat_cmp told.homes h ≡ Some s) × (has_entry bits h s ≡ true) × (addr_told s ≡ a)

pub both : (a b : Bool) → (a && b) ≡ true → a ≡ true
both true b is = refl
both false b is = is

and_true : (a b : Bool) → a ≡ true → b ≡ true → (a && b) ≡ true
and_true a b first second = cc

-- the home of a record is in a bucket of the index
record_bucket : (bits : ℕ) (x : Record) → record_home bits x / 2 ^ 15 < 2 ^ bits
unfolding record_home
record_bucket bits x =
    let tag : x.key.0 / 2 ^ bits % 2 ^ 15 < 2 ^ 15 = omega arith in
    let low : x.key.0 % 2 ^ bits < 2 ^ bits = mod-lt x.key.0 {m = 2 ^ bits} (pow_pos bits) in
    omega (arith, tag, low)

-- and so is that of an entry
entry_bucket : (log : Log) (h a : ℕ) → IsEntry log h a → nat_lt (h / 2 ^ 15) (2 ^ log.shape.bucket_bits) ≡ true
entry_bucket log h a is =
    let valid = is.counts.1.valid in
    let low : h / 2 ^ 15 < 2 ^ log.shape.bucket_bits = subst (λ n. n / 2 ^ 15 < 2 ^ log.shape.bucket_bits) valid.same (record_bucket log.shape.bucket_bits is.counts.0) in
    grind (arith, nat_tests, low)

module _ (log : Log) (told : Scanned) (agree : Agree) (bounds : IsBounded log) (below : AreBelow log.tail log.triples) (scanned : AreScanned log told) (chains : HasChains log) where
  abbrev bits : ℕ
  bits = log.shape.bucket_bits

  entry_is : (h : ℕ) (entry : Option Addr) → IsEntryOf log h entry → HasEntry log h entry
  entry_is h entry is = agree log told below scanned chains h entry is

  to_entry : (h a : ℕ) → IsTold bits told h a → IsEntry log h a
  to_entry h a is =
      let e = told_some log h is.0 (scanned.each h is.0 is.1) (both (is_addr (addr_told is.0)) (nat_lt (h / 2 ^ 15) (2 ^ bits)) is.2) in
      subst (λ (n : ℕ). IsEntry log h n) (e.1 ∙ is.3) (entry_is h (Some e.0) e.2)

  from_entry : (h a : ℕ) → IsEntry log h a → (o : Option HomeScan) → get nat_cmp told.homes h ≡ o → IsTold bits told h a
  from_entry h a entry None is = absurd (entry_is h None (unmet_none log h (scanned.others h is)) a entry)
  from_entry h a entry (Some s) is = ⊎_elim
      (λ has. (let e = told_some log h s (scanned.each h s is) has in
      let same : addr_told s ≡ a = one_entry log h (addr_told s) a (subst (λ (n : ℕ). IsEntry log h n) e.1 (entry_is h (Some e.0) e.2)) entry in
      (s, is, and_true (is_addr (addr_told s)) (nat_lt (h / 2 ^ 15) (2 ^ bits)) has (entry_bucket log h a entry), same)))
      (λ has. absurd (entry_is h None (told_none log h s bounds (scanned.each h s is) has) a entry))
      (bool_is (is_addr (addr_told s)))

  pub are_entries : IsOrdered nat_cmp told.homes → (entries : List HomeEntry) → map place_of entries ≡ listed bits told.homes.entries → AreEntries log entries
  are_entries ordered entries is = record {
    all = λ h a. (λ has. to_entry h a (got h a (from_list bits told.homes.entries h a (subst (λ ps. Contains ps (h, a)) is has))), λ entry. given h a (from_entry h a entry (get nat_cmp told.homes h) refl));
    ascending = ascending_told bits told ordered entries is;
  }
    where
      got : (h a : ℕ) → IsListed bits told.homes.entries h a → IsTold bits told h a
      got h a its = (its.0, (btree_map_get_iff nat_cmp_total exact_unsigned told.homes ordered h its.0).1 its.1, its.2, its.3)

      given : (h a : ℕ) → IsTold bits told h a → Contains (map place_of entries) (h, a)
      given h a its =
          let there = to_list bits told.homes.entries h its.0 ((btree_map_get_iff nat_cmp_total exact_unsigned told.homes ordered h its.0).0 its.1) its.2 in
          subst (λ ps. Contains ps (h, a)) (sym is) (subst (λ (n : ℕ). Contains (listed bits told.homes.entries) (h, n)) its.3 there)
