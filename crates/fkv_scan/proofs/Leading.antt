-- What the triples tell of the homes before the scan.
use Rattle.std.proofs.Common.{◌≡◌, ◌⊎◌, inl, inr, ⊎_elim, ℕ, ◌+◌, ◌<◌, ◌≤◌, List, length, Bool, true, false, cond, Option, Some, None, refl, sym, ap, subst, ◌∙◌, arith}
use Rattle.std.specs.Prelude.{nat_lt, slice_get, if◌then◌else◌}
use Rattle.std.specs.Option.{is_some}
use Rattle.std.specs.Ordering.{nat_cmp, is_eq}
use Rattle.std.proofs.lemmas.Bool.Decides.{nat_tests}
use Rattle.std.proofs.lemmas.Option.{slice_get_past}
use Rattle.fkv_record.specs.declared.triples.Triple.{Triple}
use Rattle.fkv_scan.specs.declared.home_scans.HomeScan.{HomeScan}
use Rattle.fkv_scan.specs.Log.{Log, HasTriple, HasNoTriple, AreApart, triple_home}
use Rattle.fkv_scan.specs.Records.{IsValid, IsKept, IsCounted}
use Rattle.fkv_scan.specs.Scan.{GoesOn, by_triple, by_none, by_record, IsLed, AreLed}
use Rattle.fkv_scan.specs.Known.{IsWay, Knows, KnowsOf, KnowsAll}
use Rattle.fkv_scan.specs.Steps.{led}
use Rattle.fkv_scan.proofs.Greatest.{at_or_below, below_or_not, none_at_start}
use Rattle.fkv_scan.proofs.Keys.{got, kept_some, new_some, some_is}

-- one of the first so many triples leads to a home, from the log's begin on
pub record IsLedBy (triples : List Triple) (begin start n h : ℕ) (s : HomeScan) : Type 0 where
  pub place : ℕ
  pub triple : Triple
  pub below : place < n
  pub stands : slice_get triples place ≡ Some triple
  pub same : triple_home triple ≡ h
  pub in_log : begin ≤ triple.addr.0
  pub tells : s ≡ led triple.addr start

-- what the first so many triples tell
pub record AreLedHomes (triples : List Triple) (begin start n : ℕ) (at : ℕ → Option HomeScan) : Type 0 where
  pub each : (h : ℕ) (s : HomeScan) → at h ≡ Some s → IsLedBy triples begin start n h s
  pub all : (j : ℕ) (triple : Triple) → j < n → slice_get triples j ≡ Some triple → begin ≤ triple.addr.0 → is_some (at (triple_home triple)) ≡ true

pub none_led : (triples : List Triple) (begin start : ℕ) (at : ℕ → Option HomeScan) → ((h : ℕ) → at h ≡ None) → AreLedHomes triples begin start 0 at
none_led triples begin start at empty = record {
  each = λ h s is. (let off : None ≡ Some s = sym (empty h) ∙ is in absurd (cc));
  all = λ j triple below. absurd (omega (arith, below));
}

led_more : (triples : List Triple) (begin start n h : ℕ) (s : HomeScan) → IsLedBy triples begin start n h s → IsLedBy triples begin start (n + 1) h s
led_more triples begin start n h s by =
    record { place = by.place; triple = by.triple; below = (let low = by.below in omega (arith, low)); stands = by.stands; same = by.same; in_log = by.in_log; tells = by.tells }

-- the next triple, from the log's begin on
pub led_next : (triples : List Triple) (begin start n : ℕ) (at next : ℕ → Option HomeScan) (triple : Triple) (h : ℕ) (new : HomeScan) → AreLedHomes triples begin start n at → slice_get triples n ≡ Some triple
    → begin ≤ triple.addr.0 → h ≡ triple_home triple → new ≡ led triple.addr start → ((q : ℕ) → next q ≡ cond (is_eq (nat_cmp h q)) (Some new) (at q)) → AreLedHomes triples begin start (n + 1) next
led_next triples begin start n at next triple h new so_far stands in_log home_is new_is updates = record {
  each = λ q s is. ⊎_elim
      (λ this. record { place = n; triple = triple; below = omega arith; stands = stands; same = sym home_is ∙ this.0; in_log = in_log; tells = sym this.1 ∙ new_is })
      (λ was. led_more triples begin start n q s (so_far.each q s was))
      (got h q new (at q) s (sym (updates q) ∙ is));
  all = λ j other below its its_in_log. ⊎_elim
      (λ less. ap is_some (updates (triple_home other)) ∙ kept_some h (triple_home other) new (at (triple_home other)) (so_far.all j other less its its_in_log))
      (λ same.
      (let equal : triple ≡ other = some_is triple other (sym stands ∙ ap (λ k. slice_get triples k) (sym same) ∙ its) in
      ap is_some (updates (triple_home other)) ∙ new_some h (triple_home other) new (at (triple_home other)) (home_is ∙ ap triple_home equal)))
      (at_or_below j n below);
}

-- one below it is none
pub led_past : (triples : List Triple) (begin start n : ℕ) (at : ℕ → Option HomeScan) (triple : Triple) → AreLedHomes triples begin start n at → slice_get triples n ≡ Some triple
    → triple.addr.0 < begin → AreLedHomes triples begin start (n + 1) at
led_past triples begin start n at triple so_far stands low = record {
  each = λ q s is. led_more triples begin start n q s (so_far.each q s is);
  all = λ j other below its in_log. ⊎_elim (λ less. so_far.all j other less its in_log)
      (λ same.
      (let equal : triple ≡ other = some_is triple other (sym stands ∙ ap (λ k. slice_get triples k) (sym same) ∙ its) in
      let addr : triple.addr.0 ≡ other.addr.0 = ap (λ (t : Triple). t.addr.0) equal in absurd (omega (arith, addr, low, in_log))))
      (at_or_below j n below);
}

module _ (log : Log) (apart : AreApart log.triples) where
  within : (j : ℕ) (triple : Triple) → slice_get log.triples j ≡ Some triple → j < length log.triples
  within j triple is = ⊎_elim (λ less. less) (λ past. (let off : None ≡ Some triple = sym (slice_get_past log.triples j past) ∙ is in absurd (cc))) (below_or_not j (length log.triples))

  nothing_met : (its_home q : ℕ) → GoesOn log its_home log.start q → (HasTriple log its_home q × (q < log.start)) ⊎ (HasNoTriple log its_home × (q ≡ 0))
  nothing_met its_home q (by_triple t small) = inl (t, small)
  nothing_met its_home q (by_none none is) = inr (none, is)
  nothing_met its_home q (by_record c x from below valid is small) = absurd (omega (arith, from, below))

  -- a home with a triple
  module _ (its_home place : ℕ) (triple : Triple) (stands : slice_get log.triples place ≡ Some triple) (same : triple_home triple ≡ its_home) (in_log : log.begin ≤ triple.addr.0) where
    its : HasTriple log its_home triple.addr.0
    its = record { place = place; triple = triple; stands = stands; same = same; address = refl; in_log = in_log }

    alone : (q : ℕ) → HasTriple log its_home q → q ≡ triple.addr.0
    alone q other =
        let at : other.place ≡ place = apart other.place place other.triple triple other.stands stands (other.same ∙ sym same) in
        let equal : other.triple ≡ triple = some_is other.triple triple (sym other.stands ∙ ap (λ k. slice_get log.triples k) at ∙ stands) in
        sym other.address ∙ ap (λ t. t.addr.0) equal

    way_led : (small : Bool) → small ≡ nat_lt triple.addr.0 log.start → IsWay log its_home log.start (if small then Some triple.addr else None)
    way_led true is =
        let e : nat_lt triple.addr.0 log.start ≡ true = sym is in
        record {
          there = by_triple its (grind (arith, nat_tests, e));
          alone = λ q goes. ⊎_elim (λ t. alone q t.0) (λ none. absurd (none.0 triple.addr.0 its)) (nothing_met its_home q goes);
        }
    way_led false is = (
      λ q goes. ⊎_elim
          (λ t. (let equal = alone q t.0 in let small = t.1 in let e : nat_lt triple.addr.0 log.start ≡ false = sym is in
          let large : log.start ≤ triple.addr.0 = grind (arith, nat_tests, e) in omega (arith, equal, small, large)))
          (λ none. none.0 triple.addr.0 its) (nothing_met its_home q goes),
      none_at_start (IsValid log its_home) log.start,
    )

    knows_led : Knows log its_home log.start (led triple.addr log.start)
    knows_led = record {
      newest = none_at_start (IsCounted log its_home) log.start;
      last = none_at_start (IsKept log its_home) log.start;
      version = λ b y some. absurd (cc);
      below = way_led (nat_lt triple.addr.0 log.start) refl;
    }

  knows_by : (its_home : ℕ) (s : HomeScan) → IsLedBy log.triples log.begin log.start (length log.triples) its_home s → Knows log its_home log.start s
  knows_by its_home s by = subst (λ t. Knows log its_home log.start t) (sym by.tells) (knows_led its_home by.place by.triple by.stands by.same by.in_log)

  knows_at : (at : ℕ → Option HomeScan) → AreLedHomes log.triples log.begin log.start (length log.triples) at → (its_home : ℕ) (o : Option HomeScan) → at its_home ≡ o → KnowsOf log its_home log.start o
  knows_at at told its_home None is = record {
    triples = λ addr t. (let at_addr = t.address in let its_in_log = t.in_log in let has = told.all t.place t.triple (within t.place t.triple t.stands) t.stands (omega (arith, at_addr, its_in_log)) in
        let off : true ≡ false = sym has ∙ ap (λ h. is_some (at h)) t.same ∙ ap is_some is in cc);
    records = none_at_start (IsValid log its_home) log.start;
  }
  knows_at at told its_home (Some s) is = knows_by its_home s (told.each its_home s is)

  -- what all triples tell is what is known before the scan
  pub knows_first : (at : ℕ → Option HomeScan) → AreLedHomes log.triples log.begin log.start (length log.triples) at → KnowsAll log log.start at
  knows_first at told its_home = knows_at at told its_home (at its_home) refl

-- one triple more
pub led_to_more : (log : Log) (n : ℕ) (triple : Triple) → AreLed log n → slice_get log.triples n ≡ Some triple → IsLed log triple → AreLed log (n + 1)
led_to_more log n triple before stands here i other below its =
    ⊎_elim (λ less. before i other less its)
    (λ same. (let equal : triple ≡ other = some_is triple other (sym stands ∙ ap (λ k. slice_get log.triples k) (sym same) ∙ its) in subst (λ t. IsLed log t) equal here)) (at_or_below i n below)
