-- A home has an entry just where the scan told of one.
use Rattle.std.proofs.Common.{◌≡◌, ◌≢◌, ◌⊎◌, inl, inr, ⊎_elim, ℕ, Bool, true, false, Option, Some, None, refl, subst, arith}
use Rattle.std.specs.Prelude.{nat_lt, ◌||◌, ◌↔◌}
use Rattle.std.specs.Option.{is_some}
use Rattle.std.specs.Ordering.{nat_cmp}
use Rattle.std.specs.BTreeMap.{get}
use Rattle.std.proofs.lemmas.Bool.Decides.{nat_tests}
use Rattle.fkv_base.specs.declared.numbers.Addr.{Addr}
use Rattle.fkv_scan.specs.declared.home_scans.HomeScan.{HomeScan}
use Rattle.fkv_scan.specs.declared.scans.Scanned.{Scanned}
use Rattle.fkv_scan.specs.Log.{Log, AreBelow}
use Rattle.fkv_scan.specs.Records.{IsCounted}
use Rattle.fkv_scan.specs.Scan.{GoesOn, by_triple, by_none, by_record}
use Rattle.fkv_scan.specs.Scanned.{AreScanned, GoesOnAt, IsEntryOf, IsGreatestOf, IsHomeScan, IsUnmet}
use Rattle.fkv_chains.specs.Chains.{HasChains}
use Rattle.fkv_chains.specs.Entries.{HasEntry, IsEntry}
use Rattle.fkv_room.specs.Counted.{goes_on, has_entry}
use Rattle.fkv_room.specs.Refused.{IsSound}

-- the entries that the scan tells are those of the store
abbrev pub AreEntries : Type 0
AreEntries = (log : Log) (told : Scanned) → AreBelow log.tail log.triples → AreScanned log told → HasChains log → (its_home : ℕ) (entry : Option Addr) → IsEntryOf log its_home entry → HasEntry log its_home entry

pub bool_is : (b : Bool) → (b ≡ true) ⊎ (b ≡ false)
bool_is true = inl refl
bool_is false = inr refl

some_way : (n : ℕ) → nat_lt 0 n ≡ true → n ≢ 0
some_way n is = grind (arith, nat_tests)

no_way : (n : ℕ) → nat_lt 0 n ≡ false → n ≡ 0
no_way n is = grind (arith, nat_tests)

entry_some : (log : Log) (h : ℕ) (newest : Option Addr) (way : Addr) → IsGreatestOf (IsCounted log h) log.start log.tail newest → GoesOnAt log h log.tail way.0
    → (is_some newest || goes_on (Some way)) ≡ true → (a : Addr) × IsEntryOf log h (Some a)
entry_some log h (Some a) way newest below is = (a, inl newest)
entry_some log h None way newest below is = (way, inr (newest, below, some_way way.0 is))

entry_none : (log : Log) (h : ℕ) (newest : Option Addr) (way : Addr) → IsGreatestOf (IsCounted log h) log.start log.tail newest → GoesOnAt log h log.tail way.0
    → (is_some newest || goes_on (Some way)) ≡ false → IsEntryOf log h None
entry_none log h (Some a) way newest below off = let wrong : true ≡ false = off in absurd (cc)
entry_none log h None way newest below off = (newest, subst (λ (n : ℕ). GoesOnAt log h log.tail n) (no_way way.0 off) below)

told_some : (log : Log) (h : ℕ) (s : HomeScan) → IsHomeScan log h s → has_entry s ≡ true → (a : Addr) × IsEntryOf log h (Some a)
unfolding has_entry
told_some log h s is has = entry_some log h s.newest is.way is.newest is.below (subst (λ b. (is_some s.newest || goes_on b) ≡ true) is.known has)

told_none : (log : Log) (h : ℕ) (s : HomeScan) → IsHomeScan log h s → has_entry s ≡ false → IsEntryOf log h None
unfolding has_entry
told_none log h s is has = entry_none log h s.newest is.way is.newest is.below (subst (λ b. (is_some s.newest || goes_on b) ≡ false) is.known has)

pub unmet_none : (log : Log) (h : ℕ) → IsUnmet log h log.tail → IsEntryOf log h None
unmet_none log h unmet = (λ b y from to counts. unmet.records b y from to counts.kept.here, record { there = by_none unmet.triples refl; alone = alone })
  where
    alone : (q : ℕ) → GoesOn log h log.tail q → q ≡ 0
    alone q (by_triple t low) = absurd (unmet.triples q t)
    alone q (by_none none is) = is
    alone q (by_record c x from to valid is low) = absurd (unmet.records c x from to valid)

-- what the scan told of a home, where that points to an entry
abbrev pub IsTold : Scanned → ℕ → Type 0
IsTold told h = (s : HomeScan) × (get nat_cmp told.homes h ≡ Some s) × (has_entry s ≡ true)

module _ (log : Log) (told : Scanned) (agree : AreEntries) (sound : IsSound log told) where
  entry_is : (h : ℕ) (entry : Option Addr) → IsEntryOf log h entry → HasEntry log h entry
  entry_is h entry is = agree log told sound.below sound.scanned sound.chained h entry is

  to_entry : (h : ℕ) → IsTold told h → (a : ℕ) × IsEntry log h a
  to_entry h is = let e = told_some log h is.0 (sound.scanned.each h is.0 is.1) is.2 in (e.0.0, entry_is h (Some e.0) e.1)

  from_entry : (h a : ℕ) → IsEntry log h a → (o : Option HomeScan) → get nat_cmp told.homes h ≡ o → IsTold told h
  from_entry h a entry None is = absurd (entry_is h None (unmet_none log h (sound.scanned.others h is)) a entry)
  from_entry h a entry (Some s) is = ⊎_elim
      (λ has. (s, is, has))
      (λ has. absurd (entry_is h None (told_none log h s (sound.scanned.each h s is) has) a entry))
      (bool_is (has_entry s))

  pub told_iff : (h : ℕ) → IsTold told h ↔ ((a : ℕ) × IsEntry log h a)
  told_iff h = (to_entry h, λ e. from_entry h e.0 e.1 (get nat_cmp told.homes h) refl)
