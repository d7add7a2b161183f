-- The whole scan.
use Rattle.std.proofs.Common.{◌≡◌, ⊎_elim, ℕ, ◌≤◌, length, Option, Some, None, refl, subst, arith}
use Rattle.std.specs.Prelude.{slice_get}
use Rattle.std.specs.Ordering.{nat_cmp}
use Rattle.std.specs.BTreeMap.{get}
use Rattle.std.proofs.lemmas.Option.{slice_get_within}
use Rattle.fkv_base.specs.declared.faults.Fault.{Fault}
use Rattle.fkv_base.specs.declared.faults.Fault.TheVariants as fault
use Rattle.fkv_base.specs.declared.numbers.Addr.{Addr}
use Rattle.fkv_record.specs.declared.triples.Triple.{Triple}
use Rattle.fkv_scan.specs.declared.home_scans.HomeScan.{HomeScan}
use Rattle.fkv_scan.specs.declared.scans.Scanned.{Scanned}
use Rattle.fkv_scan.specs.Log.{Log, HasTriple, HasNoTriple, AreBelow}
use Rattle.fkv_scan.specs.Records.{IsValid}
use Rattle.fkv_scan.specs.Scan.{HasNone, by_triple, by_none, IsScannedTo, IsLed, AreLed, IsScanFault}
use Rattle.fkv_scan.specs.Scanned.{GoesOnAt, IsHomeScan, TellsNewer, AreScanned}
use Rattle.fkv_scan.specs.Known.{IsWay, Knows, KnowsOf, KnowsAll}
use Rattle.fkv_scan.specs.Refused.{IsRefused}
use Rattle.fkv_scan.proofs.Greatest.{below_or_not}
use Rattle.fkv_scan.proofs.Meets.{rose_before}

-- what is refused of a later moment, under a premise that follows
pub refused_after : (before mid now : ℕ) → before ≤ mid → (premise premise_mid : Type 0) (log log_mid : Log) (why : Fault) → (premise → premise_mid × (log_mid ≡ log)) → IsRefused mid now premise_mid log_mid why
    → IsRefused before now premise log why
refused_after before mid now later premise premise_mid log log_mid (fault.Damaged part place) to off = λ holds. subst (λ l. IsScanFault l (fault.Damaged part place)) (to holds).1 (off (to holds).0)
refused_after before mid now later premise premise_mid log log_mid fault.Device to off = rose_before before mid now later off
refused_after before mid now later premise premise_mid log log_mid fault.Memory to off = off
refused_after before mid now later premise premise_mid log log_mid other to off = absurd (off)

module _ (log : Log) (below : AreBelow log.tail log.triples) (records : IsScannedTo log log.tail) (led : AreLed log (length log.triples)) where
  -- each triple is tested
  leads : (i : ℕ) (triple : Triple) → slice_get log.triples i ≡ Some triple → IsLed log triple
  leads i triple is = led i triple (slice_get_within log.triples i triple is) is

  -- a triple that leads into the scan leads to a record
  some_record : (its_home addr : ℕ) → HasTriple log its_home addr → log.start ≤ addr → HasNone (IsValid log its_home) log.start log.tail → ⊥
  some_record its_home addr t high none =
      let at = t.address in
      let there = leads t.place t.triple t.stands (omega (arith, at, high)) in
      let low = below t.place t.triple t.stands in
      none t.triple.addr.0 there.0 (omega (arith, at, high)) low (subst (λ h. IsValid log h t.triple.addr.0 there.0) t.same there.1)

  no_triple : (its_home : ℕ) → IsWay log its_home log.tail None → HasNoTriple log its_home
  no_triple its_home way addr t = ⊎_elim (λ low. way.0 addr (by_triple t low)) (λ high. some_record its_home addr t high way.1) (below_or_not addr log.start)

  -- so it is known of each home where its chain goes on
  way_found : (its_home : ℕ) (s : HomeScan) (o : Option Addr) → s.below ≡ o → IsWay log its_home log.tail o → (way : Addr) × (s.below ≡ Some way) × GoesOnAt log its_home log.tail way.0
  way_found its_home s None is way = absurd (way.0 0 (by_none (no_triple its_home way) refl))
  way_found its_home s (Some w) is way = (w, is, way)

  is_home_scan : (its_home : ℕ) (s : HomeScan) → Knows log its_home log.tail s → IsHomeScan log its_home s
  is_home_scan its_home s knows =
      let way = way_found its_home s s.below refl knows.below in
      record { newest = knows.newest; way = way.0; known = way.1; below = way.2 }

  known_of : (its_home : ℕ) (o o' : Option HomeScan) → o ≡ o' → KnowsOf log its_home log.tail o → KnowsOf log its_home log.tail o'
  known_of its_home o o' is knows = subst (λ known. KnowsOf log its_home log.tail known) is knows

  pub are_scanned : (scanned : Scanned) → KnowsAll log log.tail (get nat_cmp scanned.homes) → TellsNewer log log.tail scanned.newer → AreScanned log scanned
  are_scanned scanned all newer = record {
    sound = record { records = records; triples = leads };
    each = λ its_home s is. is_home_scan its_home s (known_of its_home (get nat_cmp scanned.homes its_home) (Some s) is (all its_home));
    others = λ its_home is. known_of its_home (get nat_cmp scanned.homes its_home) None is (all its_home);
    newer = newer;
  }
