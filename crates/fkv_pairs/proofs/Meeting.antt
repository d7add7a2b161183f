-- The records of the scan: what is reached there is valid, and which record is the greatest of a kind.
use Rattle.std.proofs.Common.{◌≡◌, ◌≢◌, ◌⊎◌, inl, inr, ⊎_elim, ℕ, zero, suc, ◌+◌, ◌<◌, ◌≤◌, Bool, true, false, refl, sym, ap, subst, ◌∙◌, arith}
use Rattle.std.proofs.lemmas.Bool.{cases_eq, cases_lt}
use Rattle.fkv_words.specs.Fields.{SpellsApart}
use Rattle.fkv_record.specs.declared.records.Record.{Record}
use Rattle.fkv_record.specs.Layout.{record_bytes}
use Rattle.fkv_scan.specs.Log.{Log, record_home}
use Rattle.fkv_scan.specs.Records.{Stands, next_of, version_of, losses_of, IsValid, IsKept, IsCounted}
use Rattle.fkv_scan.specs.Scan.{Has, HasNone, IsGreatest, IsScanned, IsLinked}
use Rattle.fkv_scan.proofs.Shown.{at_or_below}
use Rattle.fkv_chains.specs.Reached.{Reached, in_scan, led_to, linked}
use Rattle.fkv_pairs.specs.Gathered.{IsFaultless}

-- the greatest address below another whose record has P, or that there is none
abbrev pub Greatest : (ℕ → Record → Type 0) → ℕ → ℕ → Type 0
Greatest P from a = ((b : ℕ) × IsGreatest P from a b) ⊎ HasNone P from a

module _ (P : ℕ → Record → Type 0) (from : ℕ) where
  none_more : (first a : ℕ) → HasNone P first a → (Has P a → ⊥) → HasNone P first (suc a)
  none_more first a none off b y on below this =
      ⊎_elim (λ less. none b y on less this) (λ same. off (y, subst (λ (n : ℕ). P n y) same this)) (at_or_below b a (omega (arith, below)))

  greatest_here : (a : ℕ) → from ≤ a → Has P a → IsGreatest P from (suc a) a
  greatest_here a on has = record { from_on = on; below = omega arith; here = has; none_above = λ b y above below this. absurd (omega (arith, above, below)) }

  greatest_more : (a : ℕ) → from ≤ a → Greatest P from a → Has P a ⊎ (Has P a → ⊥) → Greatest P from (suc a)
  greatest_more a on before (inl has) = inl (a, greatest_here a on has)
  greatest_more a on (inl found) (inr off) = inl (
    found.0,
    record {
      from_on = found.1.from_on;
      below = (let low = found.1.below in omega (arith, low));
      here = found.1.here;
      none_above = none_more (found.0 + 1) a found.1.none_above off;
    },
  )
  greatest_more a on (inr none) (inr off) = inr (none_more from a none off)

  pub greatest_below : (a : ℕ) → ((c : ℕ) → from ≤ c → c < a → Has P c ⊎ (Has P c → ⊥)) → Greatest P from a
  greatest_below zero test = inr (λ b y on below this. absurd (omega (arith, below)))
  greatest_below (suc a) test = ⊎_elim
      (λ low. inr (λ b y on below this. absurd (omega (arith, on, below, low))))
      (λ on. greatest_more a on (greatest_below a (λ c from_c below. test c from_c (omega (arith, below)))) (test a on (omega arith)))
      (cases_lt a from)

-- a valid record stands in the scan
abbrev pub IsMet : Log → ℕ → Type 0
IsMet log a = (a < log.tail) × (x : Record) × Stands log a x × (let z = x in z.header.invalid ≡ false)

module _ (spelled : SpellsApart record_bytes) (log : Log) (sound : IsFaultless log) where
  pub one : (a : ℕ) (x y : Record) → Stands log a x → Stands log a y → x ≡ y
  one a x y first second = spelled x y (first ∙ sym second)

  -- whether a record of the scan is a kept one of a home, and one that counts
  module _ (its_home c : ℕ) (this : IsScanned log c) where
    kept_by : (invalid : Bool) → this.held.header.invalid ≡ invalid → (record_home log.shape.bucket_bits this.held ≡ its_home) ⊎ (record_home log.shape.bucket_bits this.held ≡ its_home → ⊥)
        → (losses_of log c this.held ≡ 0) ⊎ (losses_of log c this.held ≡ 0 → ⊥) → Has (IsKept log its_home) c ⊎ (Has (IsKept log its_home) c → ⊥)
    kept_by true is home loss = inr (λ kept.
        let same = one c kept.0 this.held kept.1.here.stands this.fits.stands in
        let never : true ≡ false = sym is ∙ ap (λ (x : Record). x.header.invalid) (sym same) ∙ kept.1.here.valid in
        absurd (cc))
    kept_by false is (inr other) loss = inr (λ kept.
        let same = one c kept.0 this.held kept.1.here.stands this.fits.stands in
        other (ap (λ (x : Record). record_home log.shape.bucket_bits x) (sym same) ∙ kept.1.here.same))
    kept_by false is (inl same_home) (inr lost) = inr (λ kept.
        let same = one c kept.0 this.held kept.1.here.stands this.fits.stands in
        lost (ap (λ (x : Record). losses_of log c x) (sym same) ∙ kept.1.not_lost))
    kept_by false is (inl same_home) (inl kept) = inl (this.held, record { here = record { stands = this.fits.stands; valid = is; same = same_home }; not_lost = kept })

    kept_or_not : Has (IsKept log its_home) c ⊎ (Has (IsKept log its_home) c → ⊥)
    kept_or_not = kept_by this.held.header.invalid refl (cases_eq (record_home log.shape.bucket_bits this.held) its_home) (cases_eq (losses_of log c this.held) 0)

    counted_by : Has (IsKept log its_home) c → Has (IsCounted log its_home) c ⊎ (Has (IsCounted log its_home) c → ⊥)
    counted_by kept = ⊎_elim
        (λ newer. inr (λ has.
        let same = one c has.0 kept.0 has.1.kept.here.stands kept.1.here.stands in
        let old : version_of log kept.0 ≤ log.version = subst (λ (x : Record). version_of log x ≤ log.version) same has.1.old_enough in
        absurd (omega (arith, newer, old))))
        (λ old. inl (kept.0, record { kept = kept.1; old_enough = old }))
        (cases_lt log.version (version_of log kept.0))

    counted_or_not : Has (IsCounted log its_home) c ⊎ (Has (IsCounted log its_home) c → ⊥)
    counted_or_not = ⊎_elim counted_by (λ off. inr (λ has. off (has.0, has.1.kept))) kept_or_not

  pub nearest : (its_home a : ℕ) → a ≤ log.tail → Greatest (IsKept log its_home) log.start a
  nearest its_home a within = greatest_below (IsKept log its_home) log.start a (λ c from below. kept_or_not its_home c (sound.scan.records c from (omega (arith, below, within))))

  pub newest : (its_home : ℕ) → Greatest (IsCounted log its_home) log.start log.tail
  newest its_home = greatest_below (IsCounted log its_home) log.start log.tail (λ c from below. counted_or_not its_home c (sound.scan.records c from below))

  -- what the scan found of a record
  module _ (a : ℕ) (x : Record) (from : log.start ≤ a) (within : a < log.tail) (stands : Stands log a x) where
    this : IsScanned log a
    this = sound.scan.records a from within

    same : this.held ≡ x
    same = one a this.held x this.fits.stands stands

    pub links : x.header.invalid ≡ false → IsLinked log a x
    links valid = subst (λ (y : Record). IsLinked log a y) same (this.linked (ap (λ (y : Record). y.header.invalid) same ∙ valid))

    pub scan_falls : next_of log x < a
    scan_falls = subst (λ (y : Record). next_of log y < a) same this.fits.falls

    -- a valid one that leads into the scan leads to a valid one there
    leads_to_valid : x.header.invalid ≡ false → log.start ≤ next_of log x → Has (IsValid log (record_home log.shape.bucket_bits x)) (next_of log x)
    leads_to_valid valid high = ⊎_elim
        (λ kept. by_nearest kept (nearest (record_home log.shape.bucket_bits x) a (omega (arith, within))))
        (λ lost. (links valid).lost lost high)
        (cases_eq (losses_of log a x) 0)
      where
        by_nearest : losses_of log a x ≡ 0 → Greatest (IsKept log (record_home log.shape.bucket_bits x)) log.start a → Has (IsValid log (record_home log.shape.bucket_bits x)) (next_of log x)
        by_nearest kept (inl found) = subst (λ (n : ℕ). Has (IsValid log (record_home log.shape.bucket_bits x)) n) (sym ((links valid).nearest kept found.0 found.1).0) (found.1.here.0, found.1.here.1.here)
        by_nearest kept (inr none) = (let low = (links valid).first kept none in absurd (omega (arith, low, high)))

  met_next : (a b : ℕ) (x : Record) → log.start ≤ a → log.start ≤ b → Stands log a x → next_of log x ≡ b → IsMet log a → IsMet log b
  met_next a b x from high stands is met =
      let equal : met.1 ≡ x = one a met.1 x met.2 stands in
      let valid : x.header.invalid ≡ false = ap (λ (y : Record). y.header.invalid) (sym equal) ∙ met.3 in
      let there = leads_to_valid a x from met.0 stands valid (omega (arith, high, is)) in
      let lower = scan_falls a x from met.0 stands in
      let within = met.0 in
      (omega (arith, lower, is, within), there.0, subst (λ (n : ℕ). Stands log n there.0) is there.1.stands, there.1.valid)

  -- below the start a record leads below itself
  pub chain_falls : (a : ℕ) (x : Record) → Reached log a → a < log.start → Stands log a x → next_of log x < a
  chain_falls a x reached low stands =
      let this = sound.chains a reached low in
      subst (λ (y : Record). next_of log y < a) (one a this.held x this.old.stands stands) this.old.falls

  -- what is reached from the start on is a valid record of the scan
  pub met : (a : ℕ) → Reached log a → log.start ≤ a → IsMet log a
  met a (in_scan _ x from within stands valid) high = (within, x, stands, valid)
  met a (led_to its_home _ t) high =
      let at = t.address in
      let leads = sound.scan.triples t.place t.triple t.stands (omega (arith, high, at)) in
      let lower = sound.below t.place t.triple t.stands in
      (omega (arith, lower, at), leads.0, subst (λ (n : ℕ). Stands log n leads.0) at leads.1.stands, leads.1.valid)
  met b (linked a _ x reached stands is some) high = ⊎_elim
      (λ low. (let falls = chain_falls a x reached low stands in absurd (omega (arith, falls, is, high, low))))
      (λ from. met_next a b x from high stands is (met a reached from))
      (cases_lt a log.start)

  -- and address 0 isn't reached
  pub some_reached : (a : ℕ) → Reached log a → a ≢ 0
  some_reached a (in_scan _ x from within stands valid) none = (let some = sound.some_start in omega (arith, from, some, none))
  some_reached a (led_to its_home _ t) none = (let at = t.address in let some = t.triple.some_addr in omega (arith, at, none, some))
  some_reached b (linked a _ x reached stands is some) none = some none
