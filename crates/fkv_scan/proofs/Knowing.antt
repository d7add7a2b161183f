-- What is known of the homes, from one record to the next.
use Rattle.std.proofs.Common.{◌≡◌, ⊎_elim, ℕ, zero, suc, ◌+◌, ◌-◌, ◌<◌, ◌≤◌, Bool, true, false, Option, Some, None, refl, sym, ap, subst, ◌∙◌, arith}
use Rattle.std.specs.Prelude.{nat_lt, ◌||◌, if◌then◌else◌}
use Rattle.std.proofs.lemmas.Bool.Decides.{nat_tests}
use Rattle.fkv_base.specs.declared.numbers.Addr.{Addr}
use Rattle.fkv_record.specs.declared.records.Record.{Record}
use Rattle.fkv_scan.specs.declared.home_scans.HomeScan.{HomeScan}
use Rattle.fkv_scan.specs.Log.{Log, record_home}
use Rattle.fkv_scan.specs.Records.{Stands, next_of, version_of, losses_of, IsValid, IsKept, IsCounted}
use Rattle.fkv_scan.specs.Scan.{HasNone, GoesOn, by_triple, by_none, by_record, IsLinked, IsFit}
use Rattle.fkv_scan.specs.Scanned.{IsGreatestOf, IsUnmet}
use Rattle.fkv_scan.specs.Known.{IsWay, Knows, KnowsOf}
use Rattle.fkv_scan.specs.Steps.{met, unled, known_or}
use Rattle.fkv_scan.proofs.Greatest.{greatest_here, known_more, none_more}
use Rattle.fkv_scan.proofs.Ways.{goes_on_more, goes_on_back, NewWay, way_more}

-- a home of which the address tells nothing
pub knows_more : (log : Log) (its_home a : ℕ) (o : Option HomeScan) → KnowsOf log its_home a o → ((y : Record) → IsValid log its_home a y → ⊥) → KnowsOf log its_home (a + 1) o
knows_more log its_home a None unmet none = record { triples = unmet.triples; records = none_more (IsValid log its_home) log.start a unmet.records none }
knows_more log its_home a (Some s) knows none = record {
  newest = known_more (IsCounted log its_home) log.start a s.newest knows.newest (λ y counted. none y counted.kept.here);
  last = known_more (IsKept log its_home) log.start a s.last knows.last (λ y kept. none y kept.here);
  version = knows.version;
  below = way_more log its_home a s.below knows.below none;
}

-- a home of which none of the next addresses tells anything
pub knows_until : (log : Log) (its_home from : ℕ) (o : Option HomeScan) → KnowsOf log its_home from o → (n : ℕ) → ((c : ℕ) (y : Record) → from ≤ c → c < from + n → IsValid log its_home c y → ⊥) → KnowsOf log its_home (from + n) o
knows_until log its_home from o knows zero none = subst (λ a. KnowsOf log its_home a o) (let e : from ≡ from + zero = omega arith in e) knows
knows_until log its_home from o knows (suc n) none = subst (λ a. KnowsOf log its_home a o) (let e : from + n + 1 ≡ from + suc n = omega arith in e)
    (knows_more log its_home (from + n) o (knows_until log its_home from o knows n (λ c y on below. none c y on (omega (arith, below)))) (λ y there. none (from + n) y (omega arith) (omega arith) there))

pub knows_up_to : (log : Log) (its_home from to : ℕ) (o : Option HomeScan) → from ≤ to → KnowsOf log its_home from o → ((c : ℕ) (y : Record) → from ≤ c → c < to → IsValid log its_home c y → ⊥) → KnowsOf log its_home to o
knows_up_to log its_home from to o upwards knows none =
    let e : from + (to - from) ≡ to = omega (arith, upwards) in
    subst (λ a. KnowsOf log its_home a o) e (knows_until log its_home from o knows (to - from) (λ c y on below. none c y on (omega (arith, below, upwards))))

-- a home that isn't met yet goes on nowhere
unmet_way : (log : Log) (its_home a q : ℕ) → IsUnmet log its_home a → GoesOn log its_home a q → q ≡ 0
unmet_way log its_home a q unmet (by_triple t small) = absurd (unmet.triples q t)
unmet_way log its_home a q unmet (by_none none is) = is
unmet_way log its_home a q unmet (by_record c x from below valid is small) = absurd (unmet.records c x from below valid)

pub knows_unmet : (log : Log) (its_home a : ℕ) → IsUnmet log its_home a → Knows log its_home a unled
knows_unmet log its_home a unmet = record {
  newest = λ b y from below counted. unmet.records b y from below counted.kept.here;
  last = λ b y from below kept. unmet.records b y from below kept.here;
  version = λ b y some. absurd (cc);
  below = record { there = by_none unmet.triples refl; alone = λ q goes. unmet_way log its_home a q unmet goes };
}

pub knows_or : (log : Log) (its_home a : ℕ) (o : Option HomeScan) → KnowsOf log its_home a o → Knows log its_home a (known_or o)
knows_or log its_home a None unmet = knows_unmet log its_home a unmet
knows_or log its_home a (Some s) knows = knows

module _ (log : Log) (addr : Addr) (x : Record) (from : log.start ≤ addr.0) (fits : IsFit log addr.0 x) (alone : (y : Record) → Stands log addr.0 y → y ≡ x) (valid : x.header.invalid ≡ false)
    (linked : IsLinked log addr.0 x) where
  abbrev pub a : ℕ
  a = addr.0

  abbrev pub its_home : ℕ
  its_home = record_home log.shape.bucket_bits x

  here : IsValid log its_home a x
  here = record { stands = fits.stands; valid = valid; same = refl }

  module _ (s : HomeScan) (knows : Knows log its_home a s) where
    lost_too : 0 < losses_of log a x → (y : Record) → Stands log a y → losses_of log a y ≡ 0 → ⊥
    lost_too lost y stands kept = (let e : losses_of log a x ≡ 0 = ap (λ r. losses_of log a r) (sym (alone y stands)) ∙ kept in omega (arith, e, lost))

    some_lost : (is_lost : Bool) → is_lost ≡ nat_lt 0 (losses_of log a x) → is_lost ≡ true → 0 < losses_of log a x
    some_lost is_lost lost is = (let e : nat_lt 0 (losses_of log a x) ≡ true = sym lost ∙ is in grind (arith, nat_tests, e))

    none_lost : (is_lost : Bool) → is_lost ≡ nat_lt 0 (losses_of log a x) → is_lost ≡ false → losses_of log a x ≡ 0
    none_lost is_lost lost is = (let e : nat_lt 0 (losses_of log a x) ≡ false = sym lost ∙ is in grind (arith, nat_tests, e))

    newest_met : (is_lost newer : Bool) → is_lost ≡ nat_lt 0 (losses_of log a x) → newer ≡ nat_lt log.version (version_of log x)
        → IsGreatestOf (IsCounted log its_home) log.start (a + 1) (if is_lost || newer then s.newest else Some addr)
    newest_met true newer lost new = known_more (IsCounted log its_home) log.start a s.newest knows.newest
        (λ y counted. lost_too (some_lost true lost refl) y counted.kept.here.stands counted.kept.not_lost)
    newest_met false true lost new = known_more (IsCounted log its_home) log.start a s.newest knows.newest
        (λ y counted.
        let old = counted.old_enough in
        let version : version_of log y ≡ version_of log x = ap (λ r. version_of log r) (alone y counted.kept.here.stands) in
        let e : nat_lt log.version (version_of log x) ≡ true = sym new in
        let above : log.version < version_of log x = grind (arith, nat_tests, e) in
        omega (arith, old, version, above))
    newest_met false false lost new = greatest_here (IsCounted log its_home) log.start a from (
      x,
      record {
        kept = record { here = here; not_lost = none_lost false lost refl };
        old_enough = (let e : nat_lt log.version (version_of log x) ≡ false = sym new in grind (arith, nat_tests, e));
      },
    )

    last_met : (is_lost : Bool) → is_lost ≡ nat_lt 0 (losses_of log a x) → IsGreatestOf (IsKept log its_home) log.start (a + 1) (if is_lost then s.last else Some addr)
    last_met true lost = known_more (IsKept log its_home) log.start a s.last knows.last (λ y kept. lost_too (some_lost true lost refl) y kept.here.stands kept.not_lost)
    last_met false lost = greatest_here (IsKept log its_home) log.start a from (x, record { here = here; not_lost = none_lost false lost refl })

    version_met : (is_lost : Bool) (b : Addr) (y : Record) → (if is_lost then s.last else Some addr) ≡ Some b → Stands log b.0 y
        → version_of log y ≡ (let version = (if is_lost then s.last_version else record { 0 = version_of log x }) in version.0)
    version_met true b y is stands = knows.version b y is stands
    version_met false b y is stands =
        let same : addr ≡ b = cc in
        ap (λ r. version_of log r) (alone y (subst (λ n. Stands log n.0 y) (sym same) stands))

    new_is : (q : ℕ) → NewWay log its_home a q → next_of log x ≡ q
    new_is q new = ap (λ r. next_of log r) (sym (alone new.0 new.1.stands)) ∙ new.2

    -- a record that leads into the scan isn't the first of its home
    not_first : log.start ≤ next_of log x → HasNone (IsValid log its_home) log.start a → (b : Bool) → b ≡ nat_lt 0 (losses_of log a x) → ⊥
    not_first high none true lost =
        let some = some_lost true lost refl in
        let there = linked.lost (λ is. omega (arith, some, is)) high in
        none (next_of log x) there.0 high fits.falls there.1
    not_first high none false lost =
        let low = linked.first (none_lost false lost refl) (λ c y on below kept. none c y on below kept.here) in
        omega (arith, low, high)

    way_within : (o : Option Addr) → IsWay log its_home a o → log.start ≤ next_of log x → IsWay log its_home (a + 1) o
    way_within None way high = absurd (not_first high way.1 (nat_lt 0 (losses_of log a x)) refl)
    way_within (Some w) way high = record {
      there = goes_on_more log its_home a w.0 way.there;
      alone = λ q goes. ⊎_elim (λ was. way.alone q was) (λ new. (let is = new_is q new in let small = new.3 in absurd (omega (arith, is, small, high)))) (goes_on_back log its_home a q goes);
    }

    below_met : (small : Bool) → small ≡ nat_lt (next_of log x) log.start → IsWay log its_home (a + 1) (if small then Some (record { 0 = next_of log x }) else s.below)
    below_met true is =
        let e : nat_lt (next_of log x) log.start ≡ true = sym is in
        let low : next_of log x < log.start = grind (arith, nat_tests, e) in
        record {
          there = by_record a x from (omega arith) here refl low;
          alone = λ q goes. ⊎_elim (λ was. sym (linked.below low q was)) (λ new. sym (new_is q new)) (goes_on_back log its_home a q goes);
        }
    below_met false is =
        let e : nat_lt (next_of log x) log.start ≡ false = sym is in
        way_within s.below knows.below (grind (arith, nat_tests, e))

    pub knows_met : (is_lost : Bool) → is_lost ≡ nat_lt 0 (losses_of log a x) → Knows log its_home (a + 1) (met s addr (record { 0 = next_of log x }) (record { 0 = version_of log x }) is_lost log.start log.version)
    unfolding met
    knows_met is_lost lost = record {
      newest = newest_met is_lost (nat_lt log.version (version_of log x)) lost refl;
      last = last_met is_lost lost;
      version = version_met is_lost;
      below = below_met (nat_lt (next_of log x) log.start) refl;
    }
