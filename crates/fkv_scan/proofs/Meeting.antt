-- What a valid record makes of what is known of its home.
use Rattle.std.proofs.Common.{◌≡◌, ◌≢◌, ◌⊎◌, inl, inr, ⊎_elim, ℕ, ◌<◌, ◌≤◌, Bool, true, false, Option, Some, None, refl, sym, ap, subst, ◌∙◌, arith}
use Rattle.std.specs.Prelude.{nat_lt, nat_le, ◌&&◌, ◌||◌, ◌==◌, if◌then◌else◌, ◌↔◌}
use Rattle.std.proofs.lemmas.Bool.Decides.{nat_tests}
use Rattle.fkv_base.specs.declared.numbers.Addr.{Addr}
use Rattle.fkv_record.specs.declared.records.Record.{Record}
use Rattle.fkv_scan.specs.declared.home_scans.HomeScan.{HomeScan}
use Rattle.fkv_scan.specs.Log.{Log, record_home}
use Rattle.fkv_scan.specs.Records.{Stands, next_of, version_of, losses_of, IsValid, IsKept}
use Rattle.fkv_scan.specs.Scan.{HasNone, Has, IsGreatest, GoesOn, IsLinked}
use Rattle.fkv_scan.specs.Scanned.{IsGreatestOf}
use Rattle.fkv_scan.specs.Known.{IsWay, Knows}
use Rattle.fkv_scan.specs.Steps.{is_way, is_next, is_first, links}
use Rattle.fkv_scan.proofs.Greatest.{greatest_same, greatest_is_some}

both : (p q : Bool) → (p && q) ≡ true → (p ≡ true) × (q ≡ true)
both true true is = (refl, refl)
both true false is = absurd (cc)
both false q is = absurd (cc)

not_both : (p q : Bool) → (p && q) ≡ false → (p ≡ false) ⊎ (q ≡ false)
not_both true true is = absurd (cc)
not_both true false is = inr refl
not_both false q is = inl refl

same_of : (m n : ℕ) → (m == n) ≡ true → m ≡ n
same_of m n is = grind (arith, nat_tests, is)

other_of : (m n : ℕ) → (m == n) ≡ false → m ≢ n
other_of m n is same = grind (arith, nat_tests, is, same)

at_most_of : (m n : ℕ) → nat_le m n ≡ true → m ≤ n
at_most_of m n is = grind (arith, nat_tests, is)

above_of : (m n : ℕ) → nat_le m n ≡ false → n < m
above_of m n is = grind (arith, nat_tests, is)

less_of : (m n : ℕ) → nat_lt m n ≡ true → m < n
less_of m n is = grind (arith, nat_tests, is)

not_less_of : (m n : ℕ) → nat_lt m n ≡ false → n ≤ m
not_less_of m n is = grind (arith, nat_tests, is)

addr_same : (b c : Addr) → b.0 ≡ c.0 → b ≡ c
addr_same b c same = ap (λ n. record { 0 = n }) same

pub bool_is : (b : Bool) → (b ≡ true) ⊎ (b ≡ false)
bool_is true = inl refl
bool_is false = inr refl

module _ (log : Log) (a : ℕ) (x : Record) where
  abbrev pub its_home : ℕ
  its_home = record_home log.shape.bucket_bits x

  abbrev pub previous : ℕ
  previous = next_of log x

  abbrev pub previous_addr : Addr
  previous_addr = record { 0 = next_of log x }

  -- the address below the start
  way_is : (o : Option Addr) → IsWay log its_home a o → is_way o previous ≡ true → (q : ℕ) → GoesOn log its_home a q → previous ≡ q
  way_is None way is q goes = absurd (way.0 q goes)
  way_is (Some w) way is q goes = sym (same_of w.0 previous is) ∙ sym (way.alone q goes)

  way_is_not : (o : Option Addr) → IsWay log its_home a o → is_way o previous ≡ false → ((q : ℕ) → GoesOn log its_home a q → previous ≡ q) → ⊥
  way_is_not None way is goes = absurd (cc)
  way_is_not (Some w) way is goes = other_of w.0 previous is (sym (goes w.0 way.there))

  -- the last record
  first_is : (o : Option Addr) → IsGreatestOf (IsKept log its_home) log.start a o → is_first o ≡ true → HasNone (IsKept log its_home) log.start a
  first_is None last is = last
  first_is (Some b) last is = absurd (cc)

  first_is_not : (o : Option Addr) → IsGreatestOf (IsKept log its_home) log.start a o → is_first o ≡ false → (b : ℕ) × IsGreatest (IsKept log its_home) log.start a b
  first_is_not None last is = absurd (cc)
  first_is_not (Some b) last is = (b.0, last)

  next_is : (o : Option Addr) (version : ℕ) → IsGreatestOf (IsKept log its_home) log.start a o → is_next o version previous_addr (version_of log x) ≡ true
      → IsGreatest (IsKept log its_home) log.start a previous × (o ≡ Some previous_addr) × (version ≤ version_of log x)
  next_is None version last is = absurd (cc)
  next_is (Some b) version last is =
      let parts = both (b.0 == previous) (nat_le version (version_of log x)) is in
      let same = same_of b.0 previous parts.0 in
      (subst (λ n. IsGreatest (IsKept log its_home) log.start a n) same last, ap Some (addr_same b previous_addr same), at_most_of version (version_of log x) parts.1)

  next_is_not : (o : Option Addr) (version : ℕ) → IsGreatestOf (IsKept log its_home) log.start a o → is_next o version previous_addr (version_of log x) ≡ false
      → HasNone (IsKept log its_home) log.start a ⊎ ((b : Addr) × (o ≡ Some b) × IsGreatest (IsKept log its_home) log.start a b.0 × ((previous ≢ b.0) ⊎ (version_of log x < version)))
  next_is_not None version last is = inl last
  next_is_not (Some b) version last is = inr (
    b,
    refl,
    last,
    ⊎_elim (λ off. inl (λ same. other_of b.0 previous off (sym same))) (λ newer. inr (above_of version (version_of log x) newer)) (not_both (b.0 == previous) (nat_le version (version_of log x)) is),
  )

  module _ (s : HomeScan) (leads : Bool) (knows : Knows log its_home a s) where
    -- below the start
    linked_below : (is_lost : Bool) → is_lost ≡ nat_lt 0 (losses_of log a x) → previous < log.start → is_way s.below previous ≡ true → (is_lost || is_first s.last) ≡ true → IsLinked log a x
    linked_below true lost low way last = record {
      nearest = λ not_lost. absurd (let t = less_of 0 (losses_of log a x) (sym lost) in omega (arith, t, not_lost));
      first = λ not_lost none. low;
      lost = λ is_lost high. absurd (omega (arith, low, high));
      below = λ small q goes. way_is s.below knows.below way q goes;
    }
    linked_below false lost low way last = record {
      nearest = λ not_lost b greatest. absurd (greatest_is_some (IsKept log its_home) log.start a b greatest (first_is s.last knows.last last));
      first = λ not_lost none. low;
      lost = λ is_lost high. absurd (omega (arith, low, high));
      below = λ small q goes. way_is s.below knows.below way q goes;
    }

    -- within the scan
    linked_within_lost : losses_of log a x ≢ 0 → log.start ≤ previous → Has (IsValid log its_home) previous → IsLinked log a x
    linked_within_lost lost high has = record {
      nearest = λ not_lost. absurd (lost not_lost);
      first = λ not_lost. absurd (lost not_lost);
      lost = λ is_lost from. has;
      below = λ small. absurd (omega (arith, small, high));
    }

    linked_within : losses_of log a x ≡ 0 → log.start ≤ previous → is_next s.last s.last_version.0 previous_addr (version_of log x) ≡ true → IsLinked log a x
    linked_within not_lost high next =
        let is = next_is s.last s.last_version.0 knows.last next in
        record {
          nearest = λ kept b greatest.
              let same = greatest_same (IsKept log its_home) log.start a previous b is.0 greatest in (
                same,
                λ y stands.
                    let known = knows.version previous_addr y is.1 (subst (λ n. Stands log n y) (sym same) stands) in
                    let most = is.2 in
                    omega (arith, known, most),
              );
          first = λ kept none. absurd (greatest_is_some (IsKept log its_home) log.start a previous is.0 none);
          lost = λ is_lost. absurd (is_lost not_lost);
          below = λ small. absurd (omega (arith, small, high));
        }

    -- not linked
    off_below : (is_lost : Bool) → is_lost ≡ nat_lt 0 (losses_of log a x) → previous < log.start → (is_way s.below previous && (is_lost || is_first s.last)) ≡ false → IsLinked log a x → ⊥
    off_below is_lost lost low off linked =
        ⊎_elim (λ way. way_is_not s.below knows.below way (λ q goes. linked.below low q goes))
        (λ last. off_last is_lost lost last) (not_both (is_way s.below previous) (is_lost || is_first s.last) off)
      where
        off_last : (is_lost : Bool) → is_lost ≡ nat_lt 0 (losses_of log a x) → (is_lost || is_first s.last) ≡ false → ⊥
        off_last true lost last = absurd (cc)
        off_last false lost last =
            let not_lost : losses_of log a x ≡ 0 = (let t = not_less_of 0 (losses_of log a x) (sym lost) in omega (arith, t)) in
            let b = first_is_not s.last knows.last last in
            let near = linked.nearest not_lost b.0 b.1 in
            let same = near.0 in
            let from = b.1.from_on in
            omega (arith, same, from, low)

    off_within : losses_of log a x ≡ 0 → log.start ≤ previous → is_next s.last s.last_version.0 previous_addr (version_of log x) ≡ false → IsLinked log a x → ⊥
    off_within not_lost high next linked =
        ⊎_elim (λ none. (let low = linked.first not_lost none in omega (arith, low, high)))
        (λ some.
        let near = linked.nearest not_lost some.0.0 some.2 in
        ⊎_elim (λ other. other near.0)
        (λ newer. (let version = knows.version some.0 some.2.here.0 some.1 some.2.here.1.here.stands in
        let most = near.1 some.2.here.0 some.2.here.1.here.stands in omega (arith, version, most, newer))) some.3)
        (next_is_not s.last s.last_version.0 knows.last next)

    abbrev pub Leads : Bool → Type 0
    Leads is_lost = is_lost ≡ true → log.start ≤ previous → (leads ≡ true) ↔ Has (IsValid log its_home) previous

    decided_within : (is_lost : Bool) → is_lost ≡ nat_lt 0 (losses_of log a x) → Leads is_lost → log.start ≤ previous → (answer : Bool) → (if is_lost then leads else is_next s.last s.last_version.0 previous_addr (version_of log x)) ≡ answer
        → ((answer ≡ true → IsLinked log a x) × (answer ≡ false → IsLinked log a x → ⊥))
    decided_within true lost leading high answer is =
        let some : losses_of log a x ≢ 0 = (let t = less_of 0 (losses_of log a x) (sym lost) in omega (arith, t)) in (
          λ yes. linked_within_lost some high ((leading refl high).0 (is ∙ yes)),
          λ no linked. (let has = (leading refl high).1 (linked.lost some high) in let never : true ≡ false = sym has ∙ is ∙ no in absurd (cc)),
        )
    decided_within false lost leading high answer is =
        let none : losses_of log a x ≡ 0 = (let t = not_less_of 0 (losses_of log a x) (sym lost) in omega (arith, t)) in
        (λ yes. linked_within none high (is ∙ yes), λ no linked. off_within none high (is ∙ no) linked)

    decided : (is_lost : Bool) → is_lost ≡ nat_lt 0 (losses_of log a x) → Leads is_lost → (small : Bool) → nat_lt previous log.start ≡ small → (answer : Bool)
        → (if small then is_way s.below previous && (is_lost || is_first s.last) else if is_lost then leads else is_next s.last s.last_version.0 previous_addr (version_of log x)) ≡ answer
        → ((answer ≡ true → IsLinked log a x) × (answer ≡ false → IsLinked log a x → ⊥))
    decided is_lost lost leading true low answer is = (
      λ yes. (let parts = both (is_way s.below previous) (is_lost || is_first s.last) (is ∙ yes) in linked_below is_lost lost (less_of previous log.start low) parts.0 parts.1),
      λ no. off_below is_lost lost (less_of previous log.start low) (is ∙ no),
    )
    decided is_lost lost leading false high answer is = decided_within is_lost lost leading (not_less_of previous log.start high) answer is

    -- the test says whether the record is linked
    pub links_is : (is_lost : Bool) → is_lost ≡ nat_lt 0 (losses_of log a x) → Leads is_lost → links s previous_addr (version_of log x) is_lost leads log.start ≡ true → IsLinked log a x
    unfolding links
    links_is is_lost lost leading on = (decided is_lost lost leading (nat_lt previous log.start) refl (links s previous_addr (version_of log x) is_lost leads log.start) refl).0 on

    pub links_is_not : (is_lost : Bool) → is_lost ≡ nat_lt 0 (losses_of log a x) → Leads is_lost → links s previous_addr (version_of log x) is_lost leads log.start ≡ false → IsLinked log a x → ⊥
    unfolding links
    links_is_not is_lost lost leading off = (decided is_lost lost leading (nat_lt previous log.start) refl (links s previous_addr (version_of log x) is_lost leads log.start) refl).1 off
