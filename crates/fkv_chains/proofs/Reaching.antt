-- What is reached below the scan's start lies on the chains that go on there.
use Rattle.std.proofs.Common.{◌≡◌, ◌≢◌, ◌⊎◌, inl, inr, ⊎_elim, ℕ, zero, suc, ◌+◌, ◌<◌, ◌≤◌, Bool, true, false, refl, sym, ap, subst, ◌∙◌, arith}
use Rattle.std.proofs.lemmas.Bool.{cases_eq, cases_lt}
use Rattle.fkv_words.specs.Fields.{SpellsApart}
use Rattle.fkv_record.specs.declared.records.Record.{Record}
use Rattle.fkv_record.specs.Layout.{record_bytes}
use Rattle.fkv_scan.specs.declared.scans.Scanned.{Scanned}
use Rattle.fkv_scan.specs.Log.{Log, HasTriple, AreBelow, record_home}
use Rattle.fkv_scan.specs.Records.{Stands, next_of, losses_of, IsValid, IsKept}
use Rattle.fkv_scan.specs.Scan.{Has, HasNone, IsGreatest, IsScanned, IsLinked, GoesOn, by_triple, by_record}
use Rattle.fkv_scan.specs.Scanned.{AreScanned, GoesOnAt}
use Rattle.fkv_chains.specs.Reached.{Reached, in_scan, led_to, linked, LeadsTo, from_triple, from_record}
use Rattle.fkv_chains.specs.Along.{IsAlong, here, on, IsOf, IsFollowed}
use Rattle.fkv_chains.specs.Chains.{HasChains}
use Rattle.fkv_chains.proofs.Ways.{at_way}

-- what is reached is a valid record of the scan, or lies on a chain below its start
pub data Told (log : Log) (a : ℕ) : Type 0 where
  of_scan : log.start ≤ a → a < log.tail → (x : Record) → Stands log a x → x.header.invalid ≡ false → Told log a
  of_chain : a < log.start → (its_home w : ℕ) → GoesOnAt log its_home log.tail w → IsAlong log w a → Told log a

-- an address that is at most a number is below it or is it
at_or_below : (b a : ℕ) → b < suc a → (b < a) ⊎ (b ≡ a)
at_or_below b a less = grind arith

-- a chain goes on from a record
along_next : (log : Log) (w a : ℕ) (x : Record) → ((y : Record) → Stands log a y → y ≡ x) → Stands log a x → next_of log x ≢ 0 → IsAlong log w a → IsAlong log w (next_of log x)
along_next log w a x alone stands more (here _ some) = on a (next_of log x) x some stands (here (next_of log x) more)
along_next log w a x alone stands more (on _ _ y some its rest) = on w (next_of log x) y some its (along_next log (next_of log y) a x alone stands more rest)

module _ (apart : SpellsApart record_bytes) (log : Log) (in_log : AreBelow log.tail log.triples) (told : Scanned) (are : AreScanned log told) where
  one : (a : ℕ) (x y : Record) → Stands log a x → Stands log a y → x ≡ y
  one a x y first second = apart x y (first ∙ sym second)

  -- whether a record of the scan is a kept one of a home
  module _ (its_home c : ℕ) (this : IsScanned log c) where
    kept_by : (invalid : Bool) → this.held.header.invalid ≡ invalid → (record_home log.shape.bucket_bits this.held ≡ its_home) ⊎ (record_home log.shape.bucket_bits this.held ≡ its_home → ⊥)
        → (losses_of log c this.held ≡ 0) ⊎ (losses_of log c this.held ≡ 0 → ⊥) → Has (IsKept log its_home) c ⊎ (Has (IsKept log its_home) c → ⊥)
    kept_by true is home loss = inr (λ kept.
        let same = one c kept.0 this.held kept.1.here.stands this.fits.stands in
        let never : true ≡ false = sym is ∙ ap (λ (x : Record). x.header.invalid) (sym same) ∙ kept.1.here.valid in
        absurd (cc))
    kept_by false is (inr other) loss = inr (λ kept.
        let same = one c kept.0 this.held kept.1.here.stands this.fits.stands in
        other (ap (λ (x : Record). record_home log.shape.bucket_bits x) (sym same) ∙ kept.1.here.same))
    kept_by false is (inl same_home) (inr lost) = inr (λ kept.
        let same = one c kept.0 this.held kept.1.here.stands this.fits.stands in
        lost (ap (λ (x : Record). losses_of log c x) (sym same) ∙ kept.1.not_lost))
    kept_by false is (inl same_home) (inl kept) = inl (this.held, record { here = record { stands = this.fits.stands; valid = is; same = same_home }; not_lost = kept })

    kept_or_not : Has (IsKept log its_home) c ⊎ (Has (IsKept log its_home) c → ⊥)
    kept_or_not = kept_by this.held.header.invalid refl (cases_eq (record_home log.shape.bucket_bits this.held) its_home) (cases_eq (losses_of log c this.held) 0)

  -- the nearest kept record of a home below an address, or that there is none
  abbrev Nearest : ℕ → ℕ → Type 0
  Nearest its_home a = ((b : ℕ) × IsGreatest (IsKept log its_home) log.start a b) ⊎ HasNone (IsKept log its_home) log.start a

  module _ (its_home a : ℕ) where
    nearest_here : log.start ≤ a → Has (IsKept log its_home) a → IsGreatest (IsKept log its_home) log.start (suc a) a
    nearest_here from has = record { from_on = from; below = omega arith; here = has; none_above = λ b y above below this. absurd (omega (arith, above, below)) }

    none_more : (from : ℕ) → HasNone (IsKept log its_home) from a → (Has (IsKept log its_home) a → ⊥) → HasNone (IsKept log its_home) from (suc a)
    none_more from none off b y on_from below this =
        ⊎_elim (λ less. none b y on_from less this) (λ same. off (y, subst (λ (n : ℕ). IsKept log its_home n y) same this)) (at_or_below b a below)

    nearest_more : Nearest its_home a → (Has (IsKept log its_home) a → ⊥) → Nearest its_home (suc a)
    nearest_more (inl found) off = inl (
      found.0,
      record {
        from_on = found.1.from_on;
        below = (let low = found.1.below in omega (arith, low));
        here = found.1.here;
        none_above = none_more (found.0 + 1) found.1.none_above off;
      },
    )
    nearest_more (inr none) off = inr (none_more log.start none off)

  nearest : (its_home a : ℕ) → a ≤ log.tail → Nearest its_home a
  nearest its_home zero within = inr (λ b y from below this. absurd (omega (arith, below)))
  nearest its_home (suc a) within = ⊎_elim
      (λ low. inr (λ b y from below this. absurd (omega (arith, from, below, low))))
      (λ from. ⊎_elim (λ has. inl (a, nearest_here its_home a from has)) (λ off. nearest_more its_home a (nearest its_home a (omega (arith, within))) off)
      (kept_or_not its_home a (are.sound.records a from (omega (arith, within)))))
      (cases_lt a log.start)

  -- a valid record that leads into the scan leads to a valid one of its home
  module _ (a : ℕ) (x : Record) (from : log.start ≤ a) (within : a < log.tail) (stands : Stands log a x) (valid : x.header.invalid ≡ false) where
    this : IsScanned log a
    this = are.sound.records a from within

    same : this.held ≡ x
    same = one a this.held x this.fits.stands stands

    links : IsLinked log a x
    links = subst (λ (y : Record). IsLinked log a y) same (this.linked (ap (λ (y : Record). y.header.invalid) same ∙ valid))

    falls : next_of log x < a
    falls = subst (λ (y : Record). next_of log y < a) same this.fits.falls

    by_nearest : losses_of log a x ≡ 0 → log.start ≤ next_of log x → Nearest (record_home log.shape.bucket_bits x) a → Has (IsValid log (record_home log.shape.bucket_bits x)) (next_of log x)
    by_nearest kept high (inl found) =
        let leads = (links.nearest kept found.0 found.1).0 in
        subst (λ (n : ℕ). Has (IsValid log (record_home log.shape.bucket_bits x)) n) (sym leads) (found.1.here.0, found.1.here.1.here)
    by_nearest kept high (inr none) = (let low = links.first kept none in absurd (omega (arith, low, high)))

    leads_to_valid : log.start ≤ next_of log x → Has (IsValid log (record_home log.shape.bucket_bits x)) (next_of log x)
    leads_to_valid high = ⊎_elim (λ kept. by_nearest kept high (nearest (record_home log.shape.bucket_bits x) a (omega (arith, within)))) (λ lost. links.lost lost high)
        (cases_eq (losses_of log a x) 0)

  module _ (followed : (its_home w : ℕ) → GoesOnAt log its_home log.tail w → IsFollowed log its_home w) where
    -- where a home's chain goes on it begins
    begins : (its_home a : ℕ) → a ≢ 0 → a < log.start → GoesOn log its_home log.tail a → Told log a
    begins its_home a some low goes = of_chain low its_home a (at_way log told are its_home a some goes) (here a some)

    goes_on : (a b its_home w : ℕ) (x : Record) → Stands log a x → next_of log x ≡ b → b ≢ 0 → GoesOnAt log its_home log.tail w → IsAlong log w a → IsOf log its_home a → (b < a) × IsAlong log w b × (record_home log.shape.bucket_bits x ≡ its_home)
    goes_on a b its_home w x stands is some at along is_of =
        let equal : x ≡ is_of.held = one a x is_of.held stands is_of.old.stands in
        let falls : next_of log x < a = subst (λ (y : Record). next_of log y < a) (sym equal) is_of.old.falls in
        let next : IsAlong log w (next_of log x) = along_next log w a x (λ y its. one a y x its stands) stands (λ none. some (sym is ∙ none)) along in (
          omega (arith, falls, is),
          subst (λ (n : ℕ). IsAlong log w n) is next,
          ap (λ (y : Record). record_home log.shape.bucket_bits y) equal ∙ is_of.same,
        )

    told_next : (a b : ℕ) (x : Record) → Stands log a x → next_of log x ≡ b → b ≢ 0 → Told log a → Told log b
    told_next a b x stands is some (of_scan from within y its valid) =
        let equal : x ≡ y = one a x y stands its in
        let valid_x : x.header.invalid ≡ false = ap (λ (z : Record). z.header.invalid) equal ∙ valid in
        ⊎_elim
        (λ low. begins (record_home log.shape.bucket_bits x) b some low (by_record a x from within (record { stands = stands; valid = valid_x; same = refl }) is low))
        (λ high.
        let leads : Has (IsValid log (record_home log.shape.bucket_bits x)) (next_of log x) = leads_to_valid a x from within stands valid_x (omega (arith, high, is)) in
        let lower : next_of log x < a = falls a x from within stands valid_x in
        of_scan high (omega (arith, lower, is, within)) leads.0 (subst (λ (n : ℕ). Stands log n leads.0) is leads.1.stands) leads.1.valid)
        (cases_lt b log.start)
    told_next a b x stands is some (of_chain low its_home w at along) =
        let next = goes_on a b its_home w x stands is some at along (followed its_home w at a along) in
        of_chain (omega (arith, next.0, low)) its_home w at next.1

    some_addr : (its_home a : ℕ) → HasTriple log its_home a → a ≢ 0
    some_addr its_home a t none = (let at = t.address in let some = t.triple.some_addr in omega (arith, at, none, some))

    pub told_of : (a : ℕ) → Reached log a → Told log a
    told_of a (in_scan _ x from within stands valid) = of_scan from within x stands valid
    told_of a (led_to its_home _ t) = ⊎_elim
        (λ low. begins its_home a (some_addr its_home a t) low (by_triple t low))
        (λ high.
        let at = t.address in
        let leads = are.sound.triples t.place t.triple t.stands (omega (arith, high, at)) in
        let lower = in_log t.place t.triple t.stands in
        of_scan high (omega (arith, lower, at)) leads.0 (subst (λ (n : ℕ). Stands log n leads.0) at leads.1.stands) leads.1.valid)
        (cases_lt a log.start)
    told_of b (linked a _ x reached stands is some) = told_next a b x stands is some (told_of a reached)

    -- a home that leads below the start leads to what its own chain has there
    abbrev OnChain : ℕ → ℕ → Type 0
    OnChain its_home a = (w : ℕ) × GoesOnAt log its_home log.tail w × IsAlong log w a

    record_leads : (its_home a b : ℕ) (x : Record) → Stands log b x → record_home log.shape.bucket_bits x ≡ its_home → next_of log x ≡ a → a ≢ 0 → a < log.start → Told log b → OnChain its_home a
    record_leads its_home a b x stands same is some low (of_scan from within y its valid) =
        let equal : x ≡ y = one b x y stands its in
        let valid_x : x.header.invalid ≡ false = ap (λ (z : Record). z.header.invalid) equal ∙ valid in
        (a, at_way log told are its_home a some (by_record b x from within (record { stands = stands; valid = valid_x; same = same }) is low), here a some)
    record_leads its_home a b x stands same is some low (of_chain _ other w at along) =
        let next = goes_on b a other w x stands is some at along (followed other w at b along) in
        (w, subst (λ (h : ℕ). GoesOnAt log h log.tail w) (sym next.2 ∙ same) at, next.1)

    pub on_chain : (its_home a : ℕ) → LeadsTo log its_home a → a < log.start → OnChain its_home a
    on_chain its_home a (from_triple t) low = (a, at_way log told are its_home a (some_addr its_home a t) (by_triple t low), here a (some_addr its_home a t))
    on_chain its_home a (from_record b x reached stands same is some) low = record_leads its_home a b x stands same is some low (told_of b reached)

    -- some home leads to what is reached there
    pub some_home : (a : ℕ) → Reached log a → a < log.start → (its_home : ℕ) × LeadsTo log its_home a
    some_home a (in_scan _ x from within stands valid) low = absurd (omega (arith, from, low))
    some_home a (led_to its_home _ t) low = (its_home, from_triple t)
    some_home b (linked a _ x reached stands is some) low = (record_home log.shape.bucket_bits x, from_record a x reached stands refl is some)

    is_of : (its_home a : ℕ) → LeadsTo log its_home a → a < log.start → IsOf log its_home a
    is_of its_home a leads low = (let chain = on_chain its_home a leads low in followed its_home chain.0 chain.1 a chain.2)

    pub has_chains : HasChains log
    has_chains a reached low =
        let home = some_home a reached low in
        let this = is_of home.0 a home.1 low in
        record {
          held = this.held;
          old = this.old;
          valid = this.valid;
          same = λ leading leads.
              let other = is_of leading a leads low in
              ap (λ (x : Record). record_home log.shape.bucket_bits x) (one a this.held other.held this.old.stands other.old.stands) ∙ other.same;
        }
