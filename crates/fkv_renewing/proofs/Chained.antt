-- In a renewed log recovery's scan and chains find no fault.
use Rattle.std.proofs.Common.{◌≡◌, ◌≢◌, ⊎_elim, ℕ, ◌+◌, ◌-◌, ◌<◌, ◌≤◌, List, [], length, Some, refl, sym, ap, subst, ◌∙◌, arith}
use Rattle.std.specs.Prelude.{slice_get}
use Rattle.std.proofs.lemmas.Bool.{cases_eq, cases_lt}
use Rattle.fkv_base.specs.declared.numbers.Key.{Key}
use Rattle.fkv_base.specs.declared.numbers.Value.{Value}
use Rattle.fkv_marks.proofs.Shown.{version_small}
use Rattle.fkv_words.specs.Fields.{SpellsApart}
use Rattle.fkv_record.specs.declared.lost_ranges.LostRange.{LostRange}
use Rattle.fkv_record.specs.declared.records.Record.{Record}
use Rattle.fkv_record.specs.declared.triples.Triple.{Triple}
use Rattle.fkv_record.specs.Begin.{from_or_none}
use Rattle.fkv_record.specs.Layout.{record_bytes}
use Rattle.fkv_record.proofs.Shown.{from_first}
use Rattle.fkv_scan.specs.Log.{Log, record_home}
use Rattle.fkv_scan.specs.Records.{Stands, next_of, IsKept, version_of, losses, losses_of}
use Rattle.fkv_scan.specs.Scan.{GoesOn, by_triple, by_none, by_record, HasNone, HasScan, IsGreatest, IsLinked}
use Rattle.fkv_chains.specs.Chains.{HasChains}
use Rattle.fkv_chains.specs.Entries.{Counts}
use Rattle.fkv_chains.specs.Reached.{Reached, in_scan, led_to, linked}
use Rattle.fkv_renewing.specs.Logs.{IsRenewedLog}
use Rattle.fkv_renewing.specs.Records.{IsRecordOf, key_home}
use Rattle.fkv_renewing.proofs.Listed.{held, one_held}

home_is : (bits : ℕ) (x : Record) → record_home bits x ≡ key_home bits x.key
unfolding record_home
home_is bits x = refl

none_lose : (a version : ℕ) → losses [] a version ≡ 0
unfolding losses
none_lose a version = refl

no_triple : (ts : List Triple) (place : ℕ) (t : Triple) → ts ≡ [] → slice_get ts place ≡ Some t → ⊥
no_triple ts place t none is = let off : slice_get {X = Triple} [] place ≡ Some t = subst (λ (xs : List Triple). slice_get xs place ≡ Some t) none is in cc

-- the record at an address, with its pair
pub record IsAt (log : Log) (pairs : List (Key × Value)) (c : ℕ) : Type 0 where
  pub pair : Key × Value
  pub held : Record
  pub of_pair : slice_get pairs (c - 1) ≡ Some pair
  pub is : IsRecordOf log.shape.bucket_bits pairs (c - 1) pair held
  pub stands : Stands log c held

module _ (spelled : SpellsApart record_bytes) (log : Log) (pairs : List (Key × Value)) (records : List Record) (renewed : IsRenewedLog log pairs records) where
  pub at : (c : ℕ) → 1 ≤ c → c < log.tail → IsAt log pairs c
  at c some low =
      let pair = held pairs (c - 1) (let p : c - 1 < length pairs = omega (arith, some, low, renewed.tail) in p) in
      let x = held records (c - 1) (let p : c - 1 < length records = omega (arith, some, low, renewed.tail, renewed.are_records.many) in p) in
      let here : (c - 1) + 1 ≡ c = omega (arith, some) in
      record {
        pair = pair.0;
        held = x.0;
        of_pair = pair.1;
        is = renewed.are_records.each (c - 1) pair.0 x.0 pair.1 x.1;
        stands = subst (λ (n : ℕ). Stands log n x.0) here (renewed.stand (c - 1) x.0 x.1);
      }

  pub one : (c : ℕ) (x y : Record) → Stands log c x → Stands log c y → x ≡ y
  one c x y first second = spelled x y (first ∙ sym second)

  pub home_at : (c : ℕ) (is : IsAt log pairs c) → record_home log.shape.bucket_bits is.held ≡ key_home log.shape.bucket_bits is.pair.0
  home_at c is = home_is log.shape.bucket_bits is.held ∙ ap (λ (k : Key). key_home log.shape.bucket_bits k) is.is.key

  -- its log begins at address 1, so a record leads where its header does
  leads_on : (x : Record) → next_of log x ≡ x.header.previous.0
  leads_on x = ap (λ (b : ℕ). from_or_none b x.header.previous.0) renewed.begin ∙ from_first x.header.previous.0

  pub unlost : (a : ℕ) (x : Record) → losses_of log a x ≡ 0
  unlost a x = subst (λ (ranges : List LostRange). losses ranges a (version_of log x) ≡ 0) (sym renewed.lost) (none_lose a (version_of log x))

  pub version_one : (x : Record) → x.header.version.0 ≡ 1 → version_of log x ≡ 1
  version_one x is = version_small log.version x.header.version.0 (omega (arith, is)) (omega (arith, renewed.version)) ∙ is

  kept : (c : ℕ) (is : IsAt log pairs c) (h : ℕ) → key_home log.shape.bucket_bits is.pair.0 ≡ h → IsKept log h c is.held
  kept c is h same = record { here = record { stands = is.stands; valid = is.is.valid; same = home_at c is ∙ same }; not_lost = unlost c is.held }

  -- what a record leads to is another of its home
  pub leads_to : (c : ℕ) (is : IsAt log pairs c) → 1 ≤ c → c < log.tail → is.held.header.previous.0 ≢ 0 → (to : IsAt log pairs is.held.header.previous.0) × (key_home log.shape.bucket_bits to.pair.0 ≡ key_home log.shape.bucket_bits is.pair.0)
  leads_to c is some low leads =
      let previous = is.held.header.previous.0 in
      let up : 1 ≤ previous = omega (arith, leads) in
      let down : previous < log.tail = omega (arith, is.is.leads.among, low) in
      let to = at previous up down in
      let here = is.is.leads.here leads in
      (to, ap (λ (pair : Key × Value). key_home log.shape.bucket_bits pair.0) (one_held pairs (previous - 1) to.pair here.0 to.of_pair here.1) ∙ here.2)

  -- ---- the scan
  on_zero : (h to q : ℕ) → GoesOn log h to q → q ≡ 0
  on_zero h to q (by_triple has below) = absurd (no_triple log.triples has.place has.triple renewed.triples has.stands)
  on_zero h to q (by_none none is) = is
  on_zero h to q (by_record c x from low valid is below) = omega (arith, below, renewed.start)

  nearest : (c : ℕ) (is : IsAt log pairs c) → 1 ≤ c → c < log.tail → (b : ℕ) → IsGreatest (IsKept log (record_home log.shape.bucket_bits is.held)) log.start c b → is.held.header.previous.0 ≡ b
  nearest c is some low b greatest = ⊎_elim
      (λ below. absurd (
      let other = at b (let p : 1 ≤ b = omega (arith, greatest.from_on, renewed.start) in p) (let p : b < log.tail = omega (arith, greatest.below, low) in p) in
      let same : greatest.here.0 ≡ other.held = one b greatest.here.0 other.held greatest.here.1.here.stands other.stands in
      let its_home : key_home log.shape.bucket_bits other.pair.0 ≡ key_home log.shape.bucket_bits is.pair.0 =
      sym (home_at b other) ∙ ap (λ (x : Record). record_home log.shape.bucket_bits x) (sym same) ∙ greatest.here.1.here.same ∙ home_at c is in
      is.is.leads.none_above (b - 1) other.pair (let p : is.held.header.previous.0 ≤ b - 1 = omega (arith, below) in p)
      (let p : b - 1 < c - 1 = omega (arith, greatest.below, greatest.from_on, renewed.start) in p) other.of_pair its_home))
      (λ not_below. ⊎_elim
      (λ above. absurd (
      let leads : is.held.header.previous.0 ≢ 0 = (λ zero_is. omega (arith, zero_is, above)) in
      let to = leads_to c is some low leads in
      greatest.none_above is.held.header.previous.0 to.0.held (let p : b + 1 ≤ is.held.header.previous.0 = omega (arith, above) in p)
      (let p : is.held.header.previous.0 < c = omega (arith, is.is.leads.among, some) in p)
      (kept is.held.header.previous.0 to.0 (record_home log.shape.bucket_bits is.held) (to.1 ∙ sym (home_at c is)))))
      (λ not_above. omega (arith, not_below, not_above))
      (cases_lt b is.held.header.previous.0))
      (cases_lt is.held.header.previous.0 b)

  none_before : (c : ℕ) (is : IsAt log pairs c) → 1 ≤ c → c < log.tail → HasNone (IsKept log (record_home log.shape.bucket_bits is.held)) log.start c → is.held.header.previous.0 ≡ 0
  none_before c is some low none = ⊎_elim
      (λ same. same)
      (λ leads. absurd (
      let to = leads_to c is some low leads in
      none is.held.header.previous.0 to.0.held (let p : log.start ≤ is.held.header.previous.0 = omega (arith, leads, renewed.start) in p)
      (let p : is.held.header.previous.0 < c = omega (arith, is.is.leads.among, some) in p)
      (kept is.held.header.previous.0 to.0 (record_home log.shape.bucket_bits is.held) (to.1 ∙ sym (home_at c is)))))
      (cases_eq is.held.header.previous.0 0)

  is_linked : (c : ℕ) (is : IsAt log pairs c) → 1 ≤ c → c < log.tail → IsLinked log c is.held
  is_linked c is some low = record {
    nearest = λ not_lost b greatest. (
      leads_on is.held ∙ nearest c is some low b greatest,
      λ y stands.
          let other = at b (let p : 1 ≤ b = omega (arith, greatest.from_on, renewed.start) in p) (let p : b < log.tail = omega (arith, greatest.below, low) in p) in
          let same : y ≡ other.held = one b y other.held stands other.stands in
          let version : version_of log y ≡ 1 = version_one y (ap (λ (x : Record). x.header.version.0) same ∙ other.is.version) in
          omega (arith, version, version_one is.held is.is.version),
    );
    first = λ not_lost none. omega (arith, leads_on is.held, none_before c is some low none, renewed.start);
    lost = λ is_lost up. absurd (is_lost (unlost c is.held));
    below = λ low_enough q on. omega (arith, low_enough, renewed.start, on_zero (record_home log.shape.bucket_bits is.held) c q on);
  }

  pub has_scan : HasScan log
  has_scan = record {
    records = λ c from low.
        let some : 1 ≤ c = omega (arith, from, renewed.start) in
        let is = at c some low in
        let version = version_one is.held is.is.version in
        record {
          held = is.held;
          fits = record { stands = is.stands; new_enough = omega (arith, version, renewed.oldest); old_enough = omega (arith, version); falls = omega (arith, leads_on is.held, is.is.leads.among, some) };
          linked = λ valid. is_linked c is some low;
        };
    triples = λ i triple stands. absurd (no_triple log.triples i triple renewed.triples stands);
  }

  -- ---- the chains
  pub in_log : (a : ℕ) → Reached log a → (1 ≤ a) × (a < log.tail)
  in_log a (in_scan _ x from low stands valid) = (omega (arith, from, renewed.start), low)
  in_log a (led_to h _ has) = absurd (no_triple log.triples has.place has.triple renewed.triples has.stands)
  in_log a (linked b _ x reached stands same some) =
      let within = in_log b reached in
      let is = at b within.0 within.1 in
      let record_is : x ≡ is.held = one b x is.held stands is.stands in
      let address : is.held.header.previous.0 ≡ a = sym (leads_on is.held) ∙ ap (λ (y : Record). next_of log y) (sym record_is) ∙ same in
      (omega (arith, some), omega (arith, address, is.is.leads.among, within.1))

  pub has_chains : HasChains log
  has_chains = λ a reached below. absurd (omega (arith, (in_log a reached).0, below, renewed.start))

  -- ---- what counts
  pub counts : (c : ℕ) (is : IsAt log pairs c) → 1 ≤ c → c < log.tail → Counts log (key_home log.shape.bucket_bits is.pair.0) c is.held
  counts c is some low = record {
    reached = in_scan c is.held (omega (arith, some, renewed.start)) low is.stands is.is.valid;
    valid = (kept c is (key_home log.shape.bucket_bits is.pair.0) refl).here;
    old_enough = omega (arith, is.is.version, renewed.version);
    version = λ from. omega (arith, version_one is.held is.is.version, renewed.version);
    not_lost = λ from. unlost c is.held;
  }

  -- a record that counts, with its pair
  pub counted : (h c : ℕ) (x : Record) → Counts log h c x → (is : IsAt log pairs c) × (x ≡ is.held) × (key_home log.shape.bucket_bits is.pair.0 ≡ h)
  counted h c x is_counted =
      let within = in_log c is_counted.reached in
      let is = at c within.0 within.1 in
      let same : x ≡ is.held = one c x is.held is_counted.valid.stands is.stands in
      (is, same, sym (home_at c is) ∙ ap (λ (y : Record). record_home log.shape.bucket_bits y) (sym same) ∙ is_counted.valid.same)
