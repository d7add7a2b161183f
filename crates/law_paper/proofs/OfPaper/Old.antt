-- A commit is in force with the opening's checkpoint: recovery finds no fault in scan and chains. What counts is what the log has of versions up to the commit's.
use Rattle.std.proofs.Common.{◌≡◌, ◌≢◌, ◌⊎◌, inl, inr, ⊎_elim, ℕ, zero, suc, ◌+◌, ◌-◌, ◌<◌, ◌≤◌, Bool, true, false, Some, List, refl, sym, ap, subst, ◌∙◌, arith, true≢false}
use Rattle.std.specs.Prelude.{slice_get}
use Rattle.std.proofs.lemmas.Bool.{cases_lt, cases_eq}
use Rattle.fkv_chains.specs.Chains.{HasChains}
use Rattle.fkv_chains.specs.Entries.{Counts}
use Rattle.fkv_chains.specs.Reached.{LeadsTo, from_triple, from_record, Reached, in_scan, led_to, linked}
use Rattle.fkv_marks.specs.Marks.{mark}
use Rattle.fkv_marks.specs.Window.{version_in}
use Rattle.fkv_marks.proofs.Shown.{version_marked, version_told}
use Rattle.law_log.specs.Chains.{Cell, Published, version_at}
use Rattle.law_log.proofs.Shown.{above_live}
use Rattle.law_log.specs.Ghosts.{Log}
use Rattle.law_log.specs.Trace.{IsIn}
use Rattle.fkv_record.specs.Layout.{record_bytes}
use Rattle.fkv_record.specs.declared.records.Record.{Record}
use Rattle.fkv_record.specs.declared.triples.Triple.{Triple}
use Rattle.fkv_scan.specs.Log as scan
use Rattle.fkv_scan.specs.Log.{HasTriple, HasNoTriple, record_home, triple_home}
use Rattle.fkv_scan.specs.Records.{Stands, next_of, version_of, losses, losses_of, IsValid, IsKept}
use Rattle.fkv_scan.specs.Scan.{Has, HasNone, IsGreatest, GoesOn, by_triple, by_none, by_record, IsLinked as IsScanLinked, IsScanned, IsLed, HasScan}
use Rattle.fkv_words.specs.Fields.{SpellsApart}
use Rattle.fkv_ops.specs.Values.{value_of}
use Rattle.law_paper.specs.Paper.Images.{ShowsCell}
use Rattle.law_paper.specs.Paper.Old.{StandsOnOld}
use Rattle.law_paper.specs.Paper.Values.{ShowsUpto, CountsAsLog, TellsCell}
use Rattle.law_paper.proofs.OfPaper.Down.{versions_fall}
use Rattle.law_paper.proofs.OfPaper.Here.{Showing, IsHere, IsNext, is_read, dropped_scanned, one, here, as_shown, in_own, of_chain, its_home, since_here, next_in, below_in, leads_nearest, leads_first, leads_in}
use Rattle.law_paper.proofs.OfPaper.Reach.{one_was, start_some, falls_in, was_low, was_some, its_bits, leads_same, same_triple, triple_there, stood, stands_now, valid_was, valid_now, again, goes_was}
use Rattle.law_paper.proofs.OfPaper.Sound.{triple_once}
use Rattle.law_paper.proofs.OfPaper.Values.{shows_upto}

-- ---- the greatest of those with a property that can be told
module _ (P : ℕ → Record → Type 0) where
  none_more : (from a : ℕ) → HasNone P from a → ((y : Record) → P a y → ⊥) → HasNone P from (a + 1)
  none_more from a none here b y on low this = ⊎_elim (λ less. none b y on less this) (λ more. here y (subst (λ (n : ℕ). P n y) (let n : b ≡ a = omega (arith, more, low) in n) this)) (cases_lt b a)

  greatest_here : (from a : ℕ) → from ≤ a → Has P a → IsGreatest P from (a + 1) a
  greatest_here from a on has = record { from_on = on; below = omega arith; here = has; none_above = λ b y above low this. absurd (omega (arith, above, low)) }

  greatest_more : (from a b : ℕ) → IsGreatest P from a b → ((y : Record) → P a y → ⊥) → IsGreatest P from (a + 1) b
  greatest_more from a b greatest here =
      let low = greatest.below in
      record { from_on = greatest.from_on; below = omega (arith, low); here = greatest.here; none_above = none_more (b + 1) a greatest.none_above here }

  greatest_or_none : (from n : ℕ) → ((a : ℕ) → from ≤ a → a < from + n → Has P a ⊎ ((y : Record) → P a y → ⊥)) → ((b : ℕ) × IsGreatest P from (from + n) b) ⊎ HasNone P from (from + n)
  greatest_or_none from zero tell = inr (λ b y on low this. absurd (omega (arith, on, low)))
  greatest_or_none from (suc n) tell =
      let at : from + n + 1 ≡ from + suc n = omega arith in
      ⊎_elim
      (λ has. inl (from + n, subst (λ (m : ℕ). IsGreatest P from m (from + n)) at (greatest_here from (from + n) (omega arith) has)))
      (λ none. ⊎_elim
      (λ some. inl (some.0, subst (λ (m : ℕ). IsGreatest P from m some.0) at (greatest_more from (from + n) some.0 some.1 none)))
      (λ nothing. inr (subst (λ (m : ℕ). HasNone P from m) at (none_more from (from + n) nothing none)))
      (greatest_or_none from n (λ a on low. tell a on (omega (arith, low)))))
      (tell (from + n) (omega arith) (omega arith))

zero_or : (n : ℕ) → (n ≡ 0) ⊎ (n ≢ 0)
zero_or zero = inl refl
zero_or (suc n) = inr (λ is. omega (arith, is))

module _ (home : ℕ → ℕ) (was image : scan.Log) (g : Log) (spells : SpellsApart record_bytes) (paper : StandsOnOld home was image g) where
  -- the log has nothing below the begin
  begins : image.begin ≤ was.start
  begins = (let same = paper.goes_on.begin in let low = paper.opened.begins in omega (arith, same, low))

  above : (a : ℕ) (cell : Cell) → g.cells a ≡ Published cell → image.begin ≤ a
  above a cell is =
      let same = paper.goes_on.begin in
      let low = begins in
      let up = paper.opened.upwards in
      ⊎_elim
      (λ old. let counts = (paper.before.counted (home cell.key) a old).0 (paper.orderly.chains.its_chain a cell is) in let some = was_some spells paper.opened a counts.1.reached in omega (arith, same, some))
      (λ new. omega (arith, low, up, new))
      (cases_lt a was.tail)

  above_in : (h a : ℕ) → IsIn a (g.chains h) → image.begin ≤ a
  above_in h a has = let its = paper.orderly.chains.in_chain h a has in above a its.cell its.its

  abbrev it : Showing home was.tail image g
  it = record { spells = spells; orderly = paper.orderly; shows = paper.shows; begins = (let low = begins in let up = paper.opened.upwards in omega (arith, low, up)) }

  old_home : (a : ℕ) (p : IsHere was.tail image g a) (x : Record) → Stands image a x → record_home was.shape.bucket_bits x ≡ home (let c = p.cell in c.key)
  old_home a p x stands = sym (its_bits spells paper.opened paper.goes_on x) ∙ its_home it a p x stands

  -- ---- how headers are read
  -- in the opening's scan as they were read then
  read_still : (a : ℕ) (x : Record) → was.start ≤ a → a < was.tail → Stands was a x → version_of image x ≡ version_of was x
  read_still a x from low stands =
      let s = paper.opened.scan.records a from low in
      let same : s.held ≡ x = one_was spells paper.opened a s.held x s.fits.stands stands in
      let least : was.oldest ≤ version_of was x = subst (λ (y : Record). was.oldest ≤ version_of was y) same s.fits.new_enough in
      let most : version_of was x ≤ was.version + 1 = subst (λ (y : Record). version_of was y ≤ was.version + 1) same s.fits.old_enough in
      let own : mark (version_of was x) ≡ x.header.version.0 = version_marked was.version x.header.version.0 x.header.some_version x.header.version_fits in
      let oldest = paper.goes_on.oldest in
      let newer = paper.goes_on.newer in
      ap (λ (n : ℕ). version_in image.version n) (sym own)
      ∙ version_told image.version image.oldest (version_of was x) paper.recent.some paper.recent.in_window (omega (arith, least, oldest)) (omega (arith, most, newer))

  losses_still : (a : ℕ) (x : Record) → was.start ≤ a → a < was.tail → Stands was a x → losses image.lost a (version_of was x) ≡ losses_of image a x
  losses_still a x from low stands = ap (λ (n : ℕ). losses image.lost a n) (sym (read_still a x from low stands))

  -- and from its end on as the version of the record
  version_read : (a : ℕ) → was.tail ≤ a → (p : IsHere was.tail image g a) → version_of image (let s = p.shown in s.held) ≡ (let c = p.cell in c.version)
  version_read a new p =
      let s : ShowsCell was.tail image a p.cell = p.shown in
      is_read was.tail image g paper.recent s.held (let c = p.cell in c.version) (s.same new) (paper.recent.published a p.cell p.its new) (paper.cut.young a p.cell p.its p.low)

  -- ---- what is reached
  abbrev Splits : ℕ → Type 0
  Splits a = ((a < was.tail) × Reached was a) ⊎ ((was.tail ≤ a) × IsHere was.tail image g a)

  next_splits : (h b : ℕ) → IsIn b (g.chains h) → b < image.tail → Splits b
  next_splits h b has low = ⊎_elim
      (λ old. inl (old, (let c = (paper.before.counted h b old).0 has in c.1.reached)))
      (λ new. inr (new, (of_chain it h b has (above_in h b has) low).0))
      (cases_lt b was.tail)

  pub splits : (a : ℕ) → Reached image a → Splits a
  splits a (in_scan _ x from low stands valid) = ⊎_elim
      (λ old. inl (old, in_scan a x (let s = paper.goes_on.start in omega (arith, from, s)) old (stood spells paper.opened paper.goes_on a x (let s = paper.goes_on.start in start_some spells paper.opened a (omega (arith, from, s))) old stands) valid))
      (λ new. inr (new, since_here it a x new low stands valid))
      (cases_lt a was.tail)
  splits a (led_to h _ t) = (let r : Reached was a = led_to h a (same_triple spells paper.opened paper.goes_on h a t) in inl (was_low spells paper.opened a r, r))
  splits b (linked a _ x reached stands is some) = elim (splits a reached) [
    | inl old ↦ (let r : Reached was b = linked a b x old.1 (stood spells paper.opened paper.goes_on a x (was_some spells paper.opened a old.1) old.0 stands) (sym (leads_same spells paper.opened paper.goes_on x) ∙ is) some in inl (was_low spells paper.opened b r, r))
    | inr new ↦
        let p : IsHere was.tail image g a = new.1 in
        let to = leads_in it a b p x stands is some in
        let low = to.1 in
        let under = p.low in
        next_splits _ b to.0 (omega (arith, low, under))
  ]

  -- ---- kept is what stands in a chain
  kept_in : (h b : ℕ) (y : Record) → was.start ≤ b → b < image.tail → IsKept image h b y → IsIn b (g.chains h)
  kept_in h b y from low kept =
      let at : record_home was.shape.bucket_bits y ≡ h = sym (its_bits spells paper.opened paper.goes_on y) ∙ kept.here.same in
      ⊎_elim
      (λ old.
      let stood_y = stood spells paper.opened paper.goes_on b y (start_some spells paper.opened b from) old kept.here.stands in
      subst (λ (n : ℕ). IsIn b (g.chains n)) at ((paper.loses b y from old stood_y kept.here.valid).1 (losses_still b y from old stood_y ∙ kept.not_lost)))
      (λ new.
      let p : IsHere was.tail image g b = since_here it b y new low kept.here.stands kept.here.valid in
      subst (λ (n : ℕ). IsIn b (g.chains n)) (sym (old_home b p y kept.here.stands) ∙ at) (in_own it b p))
      (cases_lt b was.tail)

  in_kept : (h b : ℕ) → IsIn b (g.chains h) → was.start ≤ b → b < image.tail → Has (IsKept image h) b
  in_kept h b has from low =
      let p = of_chain it h b has (above_in h b has) low in
      let s : ShowsCell was.tail image b (let q = p.0 in q.cell) = (let q = p.0 in q.shown) in
      let at : record_home was.shape.bucket_bits s.held ≡ h = old_home b p.0 s.held s.stands ∙ p.1 in
      let here_is : IsValid image h b s.held = record { stands = s.stands; valid = s.valid; same = its_bits spells paper.opened paper.goes_on s.held ∙ at } in
      ⊎_elim
      (λ old.
      let stood_s = stood spells paper.opened paper.goes_on b s.held (start_some spells paper.opened b from) old s.stands in
      (s.held, record { here = here_is; not_lost = sym (losses_still b s.held from old stood_s) ∙ (paper.loses b s.held from old stood_s s.valid).0 (subst (λ (n : ℕ). IsIn b (g.chains n)) (sym at) has) }))
      (λ new. (s.held, record { here = here_is; not_lost = paper.shows.none_lost b s.held new s.stands }))
      (cases_lt b was.tail)

  -- ---- a record of a chain, in the scan
  module _ (a : ℕ) (from : was.start ≤ a) (p : IsHere was.tail image g a) where
    abbrev x : Record
    x = let s = p.shown in s.held

    abbrev h : ℕ
    h = record_home was.shape.bucket_bits x

    stands_x : Stands image a x
    stands_x = let s = p.shown in s.stands

    in_h : IsIn a (g.chains h)
    in_h = subst (λ (n : ℕ). IsIn a (g.chains n)) (sym (old_home a p x stands_x)) (in_own it a p)

    next : IsNext image.begin (g.chains h) (next_of image x) × (next_of image x < a)
    next = next_in it h a p in_h

    below_is : (b : ℕ) → IsIn b (g.chains h) → b < a → b ≤ next_of image x
    below_is b has low = below_in it h a p in_h b has (above_in h b has) low

    -- it leads to the nearest that is kept
    to_nearest : (b : ℕ) → IsGreatest (IsKept image h) was.start a b → next_of image x ≡ b
    to_nearest = leads_nearest it h a p in_h was.start begins (kept_in h) (in_kept h)

    to_first : HasNone (IsKept image h) was.start a → next_of image x < was.start
    to_first = leads_first it h a p in_h was.start begins (kept_in h) (in_kept h) paper.opened.some_start

  -- ---- what the opening's scan tells, told of this image
  -- whether a record of a home is kept there can be told
  tell_was : (h a : ℕ) → was.start ≤ a → a < was.tail → Has (IsKept was h) a ⊎ ((y : Record) → IsKept was h a y → ⊥)
  tell_was h a from low =
      let s = paper.opened.scan.records a from low in
      let x : Record = s.held in
      by_valid x s.fits.stands x.header.invalid refl
    where
      by_valid : (x : Record) → Stands was a x → (t : Bool) → x.header.invalid ≡ t → Has (IsKept was h) a ⊎ ((y : Record) → IsKept was h a y → ⊥)
      by_valid x stands true is = inr (λ y kept. true≢false (sym is ∙ ap (λ (z : Record). z.header.invalid) (one_was spells paper.opened a x y stands kept.here.stands) ∙ kept.here.valid))
      by_valid x stands false is = ⊎_elim
          (λ same. ⊎_elim
          (λ none. inl (x, record { here = record { stands = stands; valid = is; same = same }; not_lost = none }))
          (λ some. inr (λ y kept. some (ap (λ (z : Record). losses_of was a z) (one_was spells paper.opened a x y stands kept.here.stands) ∙ kept.not_lost)))
          (zero_or (losses_of was a x)))
          (λ other. inr (λ y kept. other (ap (record_home was.shape.bucket_bits) (one_was spells paper.opened a x y stands kept.here.stands) ∙ kept.here.same)))
          (cases_eq (record_home was.shape.bucket_bits x) h)

  find_was : (h a : ℕ) → was.start ≤ a → a ≤ was.tail → ((b : ℕ) × IsGreatest (IsKept was h) was.start a b) ⊎ HasNone (IsKept was h) was.start a
  find_was h a from low =
      let at : was.start + (a - was.start) ≡ a = omega (arith, from) in
      subst (λ (m : ℕ). ((b : ℕ) × IsGreatest (IsKept was h) was.start m b) ⊎ HasNone (IsKept was h) was.start m) at
      (greatest_or_none (IsKept was h) was.start (a - was.start) (λ b on less. tell_was h b on (omega (arith, less, at, low))))

  -- a record that was scanned as the store was opened
  module _ (a : ℕ) (from : was.start ≤ a) (low : a < was.tail) where
    abbrev scanned_was : IsScanned was a
    scanned_was = paper.opened.scan.records a from low

    abbrev y : Record
    y = let s = scanned_was in s.held

    stands_y : Stands was a y
    stands_y = let s = scanned_was in s.fits.stands

    -- where it leads it led
    leads_still : next_of image y ≡ next_of was y
    leads_still = leads_same spells paper.opened paper.goes_on y

    still_y : Stands image a y
    still_y = stands_now spells paper.opened paper.goes_on a y (start_some spells paper.opened a from) low stands_y

    module _ (valid : y.header.invalid ≡ false) where
      abbrev links : IsScanLinked was a y
      links = let s = scanned_was in s.linked valid

      abbrev hy : ℕ
      hy = record_home was.shape.bucket_bits y

      -- where it isn't lost now it stands in its chain
      module _ (not_lost : losses_of image a y ≡ 0) where
        in_chain_y : IsIn a (g.chains hy)
        in_chain_y = (paper.loses a y from low stands_y valid).1 (losses_still a y from low stands_y ∙ not_lost)

        here_y : IsHere was.tail image g a
        here_y = (of_chain it hy a in_chain_y (above_in hy a in_chain_y) (let l = paper.goes_on.longer in omega (arith, low, l))).0

        y_is : y ≡ (let p = here_y in let s = p.shown in s.held)
        y_is = as_shown it a here_y y still_y

        counts_y : Has (Counts was hy) a
        counts_y = (paper.before.counted hy a low).0 in_chain_y

        not_lost_was : losses_of was a y ≡ 0
        not_lost_was = ap (λ (z : Record). losses_of was a z) (one_was spells paper.opened a y counts_y.0 stands_y counts_y.1.valid.stands) ∙ counts_y.1.not_lost from

        leads_y : (b : ℕ) → IsGreatest (IsKept image (record_home image.shape.bucket_bits y)) image.start a b → next_of image y ≡ b
        leads_y b greatest =
            let g1 : IsGreatest (IsKept image (record_home was.shape.bucket_bits (let p = here_y in let s = p.shown in s.held))) was.start a b =
            subst (λ (n : ℕ). IsGreatest (IsKept image (record_home was.shape.bucket_bits (let p = here_y in let s = p.shown in s.held))) n a b) paper.goes_on.start
            (subst (λ (n : ℕ). IsGreatest (IsKept image n) image.start a b) (its_bits spells paper.opened paper.goes_on y ∙ ap (record_home was.shape.bucket_bits) y_is) greatest) in
            ap (λ (z : Record). next_of image z) y_is ∙ to_nearest a from here_y b g1

        first_y : HasNone (IsKept image (record_home image.shape.bucket_bits y)) image.start a → next_of image y < image.start
        first_y none =
            let n1 : HasNone (IsKept image (record_home was.shape.bucket_bits (let p = here_y in let s = p.shown in s.held))) was.start a =
            subst (λ (n : ℕ). HasNone (IsKept image (record_home was.shape.bucket_bits (let p = here_y in let s = p.shown in s.held))) n a) paper.goes_on.start
            (subst (λ (n : ℕ). HasNone (IsKept image n) image.start a) (its_bits spells paper.opened paper.goes_on y ∙ ap (record_home was.shape.bucket_bits) y_is) none) in
            let low = to_first a from here_y n1 in
            let is = ap (λ (z : Record). next_of image z) y_is in
            let s = paper.goes_on.start in
            omega (arith, low, is, s)

        -- the one that it leads to isn't newer, as the opening's scan has told
        version_y : (b : ℕ) → next_of image y ≡ b → was.start ≤ b → b < a → IsIn b (g.chains hy) → (z : Record) → Stands image b z → version_of image z ≤ version_of image y
        version_y b is on less has z stands =
            let counts = (paper.before.counted hy b (omega (arith, less, low))).0 has in
            let kept : IsKept was hy b counts.0 = record { here = counts.1.valid; not_lost = counts.1.not_lost on } in
            elim (find_was hy a from (omega (arith, low))) [
              | inl most ↦
                  let near = links.nearest not_lost_was most.0 most.1 in
                  let same : b ≡ most.0 = sym is ∙ leads_still ∙ near.0 in
                  let stood_z = stood spells paper.opened paper.goes_on b z (start_some spells paper.opened b on) (omega (arith, less, low)) stands in
                  let older = near.1 z (subst (λ (n : ℕ). Stands was n z) same stood_z) in
                  let read_z = read_still b z on (omega (arith, less, low)) stood_z in
                  let read_y = read_still a y from low stands_y in
                  omega (arith, older, read_z, read_y)
              | inr none ↦ absurd (none b counts.0 on less kept)
            ]

        nearest_y : (b : ℕ) → IsGreatest (IsKept image (record_home image.shape.bucket_bits y)) image.start a b → (next_of image y ≡ b) × ((z : Record) → Stands image b z → version_of image z ≤ version_of image y)
        nearest_y b greatest =
            let is = leads_y b greatest in
            let on = greatest.from_on in
            let less = greatest.below in
            let s = paper.goes_on.start in
            let l = paper.goes_on.longer in
            let has = kept_in (record_home image.shape.bucket_bits y) b greatest.here.0 (omega (arith, on, s)) (omega (arith, less, low, l)) greatest.here.1 in
            (is, version_y b is (omega (arith, on, s)) less (subst (λ (n : ℕ). IsIn b (g.chains n)) (its_bits spells paper.opened paper.goes_on y) has))

      -- a lost one leads to a valid one
      lost_was : losses_of image a y ≢ 0 → image.start ≤ next_of was y → Has (IsValid image (record_home image.shape.bucket_bits y)) (next_of was y)
      lost_was lost on =
          let s = paper.goes_on.start in
          let falls = (let sc = scanned_was in sc.fits.falls) in
          elim (zero_or (losses_of was a y)) [
            | inl kept ↦ elim (find_was hy a from (omega (arith, low))) [
              | inl most ↦
                  let near = links.nearest kept most.0 most.1 in
                  let here_is = most.1.here in
                  let v = valid_now spells paper.opened paper.goes_on hy most.0 here_is.0 (start_some spells paper.opened most.0 most.1.from_on) (let m = most.1.below in omega (arith, m, low)) here_is.1.here in
                  subst (λ (n : ℕ). Has (IsValid image (record_home image.shape.bucket_bits y)) n) (sym near.0) (here_is.0, subst (λ (n : ℕ). IsValid image n most.0 here_is.0) (sym (its_bits spells paper.opened paper.goes_on y)) v)
              | inr none ↦ (let under = links.first kept none in absurd (omega (arith, under, on, s)))
            ]
            | inr gone ↦
                let has = links.lost gone (omega (arith, on, s)) in
                (has.0, subst (λ (n : ℕ). IsValid image n (next_of was y) has.0) (sym (its_bits spells paper.opened paper.goes_on y)) (valid_now spells paper.opened paper.goes_on hy (next_of was y) has.0 (start_some spells paper.opened (next_of was y) (omega (arith, on, s))) (omega (arith, falls, low)) has.1))
          ]

      lost_y : losses_of image a y ≢ 0 → image.start ≤ next_of image y → Has (IsValid image (record_home image.shape.bucket_bits y)) (next_of image y)
      lost_y lost on = subst (λ (n : ℕ). Has (IsValid image (record_home image.shape.bucket_bits y)) n) (sym leads_still) (lost_was lost (subst (λ (n : ℕ). image.start ≤ n) leads_still on))

      below_y : next_of image y < image.start → (q : ℕ) → GoesOn image (record_home image.shape.bucket_bits y) a q → next_of image y ≡ q
      below_y under q goes =
          let s = paper.goes_on.start in
          leads_still ∙ links.below (omega (arith, under, s, leads_still)) q (goes_was spells paper.opened paper.goes_on hy a q (omega (arith, low)) (subst (λ (n : ℕ). GoesOn image n a q) (its_bits spells paper.opened paper.goes_on y) goes))

      pub linked_y : IsScanLinked image a y
      linked_y = record {
        nearest = λ not_lost b greatest. nearest_y not_lost b greatest;
        first = λ not_lost none. first_y not_lost none;
        lost = λ lost on. lost_y lost on;
        below = λ under q goes. below_y under q goes;
      }

    pub old_scanned : IsScanned image a
    old_scanned =
        let sc = scanned_was in
        let read = read_still a y from low stands_y in
        let oldest = paper.goes_on.oldest in
        let least = sc.fits.new_enough in
        let most = sc.fits.old_enough in
        let newer = paper.goes_on.newer in
        record {
          held = y;
          fits = record { stands = still_y; new_enough = omega (arith, read, least, oldest); old_enough = omega (arith, read, most, newer); falls = (let falls = sc.fits.falls in omega (arith, falls, leads_still)) };
          linked = λ valid. linked_y valid;
        }

  -- ---- where a chain of the opening goes on
  record_goes : (h c : ℕ) (x : Record) → was.start ≤ c → c < was.tail → IsValid was h c x → next_of was x < was.start → (q : ℕ) → GoesOn was h c q → next_of was x ≡ q
  record_goes h c x from low valid under q goes =
      let sc = paper.opened.scan.records c from low in
      let is : x ≡ sc.held = one_was spells paper.opened c x sc.held valid.stands sc.fits.stands in
      let links = sc.linked (sym (ap (λ (z : Record). z.header.invalid) is) ∙ valid.valid) in
      let same = ap (λ (z : Record). next_of was z) is in
      let at : record_home was.shape.bucket_bits sc.held ≡ h = sym (ap (record_home was.shape.bucket_bits) is) ∙ valid.same in
      same ∙ links.below (omega (arith, same, under)) q (subst (λ (n : ℕ). GoesOn was n c q) (sym at) goes)

  goes_same : (h p q : ℕ) → GoesOn was h was.tail p → GoesOn was h was.tail q → p ≡ q
  goes_same h p q (by_triple t low) (by_triple u under) = triple_once was h p q paper.opened.apart t u
  goes_same h p q (by_triple t low) (by_none none is) = absurd (none p t)
  goes_same h p q (by_triple t low) (by_record c x from within valid leads under) = sym (record_goes h c x from within valid (omega (arith, leads, under)) p (by_triple t low)) ∙ leads
  goes_same h p q (by_none none is) (by_triple u under) = absurd (none q u)
  goes_same h p q (by_none none is) (by_none nothing at) = is ∙ sym at
  goes_same h p q (by_none none is) (by_record c x from within valid leads under) = sym (record_goes h c x from within valid (omega (arith, leads, under)) p (by_none none is)) ∙ leads
  goes_same h p q (by_record c x from within valid leads under) (by_triple u low) = sym leads ∙ record_goes h c x from within valid (omega (arith, leads, under)) q (by_triple u low)
  goes_same h p q (by_record c x from within valid leads under) (by_none nothing at) = sym leads ∙ record_goes h c x from within valid (omega (arith, leads, under)) q (by_none nothing at)
  goes_same h p q (by_record c x from within valid leads under) (by_record d y on inside good to low) = ⊎_elim
      (λ less. sym (record_goes h d y on inside good (omega (arith, to, low)) p (by_record c x from less valid leads under)) ∙ to)
      (λ more. ⊎_elim
      (λ greater. sym leads ∙ record_goes h c x from within valid (omega (arith, leads, under)) q (by_record d y on greater good to low))
      (λ most.
      let same : d ≡ c = omega (arith, more, most) in
      let one_record = one_was spells paper.opened c x y valid.stands (subst (λ (n : ℕ). Stands was n y) same good.stands) in
      sym leads ∙ ap (λ (z : Record). next_of was z) one_record ∙ to)
      (cases_lt d c))
      (cases_lt c d)

  -- where a valid record stands each that stands is valid
  valid_there : (h b : ℕ) (x : Record) → Has (IsValid was h) b → Stands was b x → x.header.invalid ≡ false
  valid_there h b x (y, is) stands = ap (λ (z : Record). z.header.invalid) (one_was spells paper.opened b x y stands is.stands) ∙ is.valid

  -- what was reached in the scan is valid
  reached_valid : (b : ℕ) → Reached was b → was.start ≤ b → (x : Record) → Stands was b x → x.header.invalid ≡ false
  reached_valid b (in_scan _ y from within stands valid) on x here_stands = ap (λ (z : Record). z.header.invalid) (one_was spells paper.opened b x y here_stands stands) ∙ valid
  reached_valid b (led_to h _ t) on x here_stands =
      let addr = t.address in
      let has = paper.opened.scan.triples t.place t.triple t.stands (omega (arith, addr, on)) in
      valid_there (triple_home t.triple) b x (subst (λ (n : ℕ). Has (IsValid was (triple_home t.triple)) n) addr has) here_stands
  reached_valid b (linked a _ y reached stands is some) on x here_stands =
      let low = was_low spells paper.opened a reached in
      let falls = falls_in spells paper.opened a y low reached stands in
      let from : was.start ≤ a = omega (arith, falls, is, on) in
      let sc = paper.opened.scan.records a from low in
      let same : y ≡ sc.held = one_was spells paper.opened a y sc.held stands sc.fits.stands in
      let links = sc.linked (sym (ap (λ (z : Record). z.header.invalid) same) ∙ reached_valid a reached from y stands) in
      let at : next_of was sc.held ≡ b = sym (ap (λ (z : Record). next_of was z) same) ∙ is in
      let has : Has (IsValid was (record_home was.shape.bucket_bits sc.held)) b = elim (zero_or (losses_of was a sc.held)) [
        | inl kept ↦ elim (find_was (record_home was.shape.bucket_bits sc.held) a from (omega (arith, low))) [
          | inl most ↦ (let near = links.nearest kept most.0 most.1 in let here_is = most.1.here in subst (λ (n : ℕ). Has (IsValid was (record_home was.shape.bucket_bits sc.held)) n) (sym near.0 ∙ at) (here_is.0, here_is.1.here))
          | inr none ↦ (let under = links.first kept none in absurd (omega (arith, under, at, on)))
        ]
        | inr gone ↦ subst (λ (n : ℕ). Has (IsValid was (record_home was.shape.bucket_bits sc.held)) n) at (links.lost gone (omega (arith, at, on)))
      ] in
      valid_there (record_home was.shape.bucket_bits sc.held) b x has here_stands

  -- a record below the start that was reached counts for each home that leads there
  counts_below : (h q : ℕ) → Reached was q → q < was.start → LeadsTo was h q → Has (Counts was h) q
  counts_below h q reached under leads =
      let c = paper.opened.chains q reached under in
      (c.held, record { reached = reached; valid = record { stands = c.old.stands; valid = c.valid; same = c.same h leads }; old_enough = c.old.old_enough; version = λ on. absurd (omega (arith, on, under)); not_lost = λ on. absurd (omega (arith, on, under)) })

  counts_chain : (h q : ℕ) → q < was.start → Has (Counts was h) q → IsIn q (g.chains h)
  counts_chain h q under has = (let up = paper.opened.upwards in (paper.before.counted h q (omega (arith, under, up))).1 has)

  goes_chain : (h q : ℕ) → q ≢ 0 → GoesOn was h was.tail q → IsIn q (g.chains h) × (q < was.start)
  goes_chain h q some (by_triple t under) = (counts_chain h q under (counts_below h q (led_to h q t) under (from_triple t)), under)
  goes_chain h q some (by_none none is) = absurd (some is)
  goes_chain h q some (by_record c x from within valid leads under) =
      let r : Reached was c = in_scan c x from within valid.stands valid.valid in
      (counts_chain h q under (counts_below h q (linked c q x r valid.stands leads some) under (from_record c x r valid.stands valid.same leads some)), under)

  -- the greatest of a chain below the start is where that goes on
  chain_goes : (h p : ℕ) → IsIn p (g.chains h) → p < was.start → ((b : ℕ) → IsIn b (g.chains h) → b < was.start → b ≤ p) → GoesOn was h was.tail p
  chain_goes h p has under most =
      let up = paper.opened.upwards in
      let counts = (paper.before.counted h p (omega (arith, under, up))).0 has in
      by_reach p counts.0 counts.1 under most counts.1.reached
    where
      its_home_is : (p : ℕ) (z : Record) → Counts was h p z → p < was.start → (k : ℕ) → LeadsTo was k p → k ≡ h
      its_home_is p z counts under k leads =
          let c = paper.opened.chains p counts.reached under in
          sym (c.same k leads) ∙ ap (record_home was.shape.bucket_bits) (one_was spells paper.opened p c.held z c.old.stands counts.valid.stands) ∙ counts.valid.same

      by_reach : (p : ℕ) (z : Record) → Counts was h p z → p < was.start → ((b : ℕ) → IsIn b (g.chains h) → b < was.start → b ≤ p) → Reached was p → GoesOn was h was.tail p
      by_reach p z counts under most (in_scan _ y from within stands valid) = absurd (omega (arith, from, under))
      by_reach p z counts under most (led_to k _ t) = by_triple (subst (λ (n : ℕ). HasTriple was n p) (its_home_is p z counts under k (from_triple t)) t) under
      by_reach p z counts under most (linked b _ y reached stands is some) =
          let same : record_home was.shape.bucket_bits y ≡ h = its_home_is p z counts under (record_home was.shape.bucket_bits y) (from_record b y reached stands refl is some) in
          let low = was_low spells paper.opened b reached in
          let falls = falls_in spells paper.opened b y low reached stands in
          ⊎_elim
          (λ below.
          let c = paper.opened.chains b reached below in
          let is_y = one_was spells paper.opened b c.held y c.old.stands stands in
          let counts_b : Has (Counts was h) b = (
            c.held,
            record {
              reached = reached;
              valid = record { stands = c.old.stands; valid = c.valid; same = ap (record_home was.shape.bucket_bits) is_y ∙ same };
              old_enough = c.old.old_enough;
              version = λ on. absurd (omega (arith, on, below));
              not_lost = λ on. absurd (omega (arith, on, below));
            },
          ) in
          let up = most b (counts_chain h b below counts_b) below in
          absurd (omega (arith, up, falls, is)))
          (λ from. by_record b y from low (record { stands = stands; valid = reached_valid b reached from y stands; same = same }) is under)
          (cases_lt b was.start)

  -- ---- a record of this life
  module _ (a : ℕ) (new : was.tail ≤ a) (p : IsHere was.tail image g a) where
    abbrev from_start : was.start ≤ a
    from_start = let up = paper.opened.upwards in omega (arith, up, new)

    abbrev xn : Record
    xn = let s = p.shown in s.held

    abbrev hn : ℕ
    hn = record_home was.shape.bucket_bits xn

    cell_version : version_of image xn ≡ version_at (g.cells a)
    cell_version = version_read a new p ∙ ap version_at (sym p.its)

    version_n : (b : ℕ) → was.start ≤ b → IsIn b (g.chains hn) → b < a → (z : Record) → Stands image b z → version_of image z ≤ version_of image xn
    version_n b on has less z stands =
        let low = p.low in
        let q = of_chain it hn b has (above_in hn b has) (omega (arith, less, low)) in
        let r : IsHere was.tail image g b = q.0 in
        let s = r.shown in
        let cell_is = ap version_at r.its in
        let fall = versions_fall g.cells (g.chains hn) (paper.orderly.chains.linked hn) (paper.orderly.falls hn) a b (in_h a from_start p) has less in
        let own = cell_version in
        ⊎_elim
        (λ old.
        let counts = (paper.before.counted hn b old).0 has in
        let stood_z = stood spells paper.opened paper.goes_on b z (start_some spells paper.opened b on) old stands in
        let read = read_still b z on old stood_z in
        let is = ap (λ (y : Record). version_of was y) (one_was spells paper.opened b z counts.0 stood_z counts.1.valid.stands) in
        let most = counts.1.version on in
        let its = paper.before.one_version b r.cell old r.its in
        omega (arith, read, is, most, its, cell_is, fall, own))
        (λ later.
        let is = ap (λ (y : Record). version_of image y) (one it b z s.held stands s.stands) in
        let read = version_read b later r in
        omega (arith, is, read, cell_is, fall, own))
        (cases_lt b was.tail)

    nearest_n : (b : ℕ) → IsGreatest (IsKept image (record_home image.shape.bucket_bits xn)) image.start a b → (next_of image xn ≡ b) × ((z : Record) → Stands image b z → version_of image z ≤ version_of image xn)
    nearest_n b greatest =
        let g1 : IsGreatest (IsKept image hn) was.start a b = subst (λ (n : ℕ). IsGreatest (IsKept image hn) n a b) paper.goes_on.start (subst (λ (n : ℕ). IsGreatest (IsKept image n) image.start a b) (its_bits spells paper.opened paper.goes_on xn) greatest) in
        let on = g1.from_on in
        let less = g1.below in
        let low = p.low in
        (to_nearest a from_start p b g1, version_n b on (kept_in hn b g1.here.0 on (omega (arith, less, low)) g1.here.1) less)

    first_n : HasNone (IsKept image (record_home image.shape.bucket_bits xn)) image.start a → next_of image xn < image.start
    first_n none =
        let n1 : HasNone (IsKept image hn) was.start a = subst (λ (n : ℕ). HasNone (IsKept image hn) n a) paper.goes_on.start (subst (λ (n : ℕ). HasNone (IsKept image n) image.start a) (its_bits spells paper.opened paper.goes_on xn) none) in
        let low = to_first a from_start p n1 in
        let s = paper.goes_on.start in
        omega (arith, low, s)

    goes_n : (q : ℕ) → next_of image xn < was.start → GoesOn image hn a q → GoesOn was hn was.tail q
    goes_n q under (by_triple t low) = by_triple (same_triple spells paper.opened paper.goes_on hn q t) (let s = paper.goes_on.start in omega (arith, low, s))
    goes_n q under (by_none none is) = by_none (λ t it. none t (triple_there spells paper.opened paper.goes_on hn t it)) is
    goes_n q under (by_record c y least within valid leads low) =
        let s = paper.goes_on.start in
        ⊎_elim
        (λ old. by_record c y (omega (arith, least, s)) old (valid_was spells paper.opened paper.goes_on hn c y (start_some spells paper.opened c (omega (arith, least, s))) old valid) (sym (leads_same spells paper.opened paper.goes_on y) ∙ leads) (omega (arith, low, s)))
        (λ later.
        let below = p.low in
        let r : IsHere was.tail image g c = since_here it c y later (omega (arith, within, below)) valid.stands valid.valid in
        let at : home (let d = r.cell in d.key) ≡ hn = sym (old_home c r y valid.stands) ∙ sym (its_bits spells paper.opened paper.goes_on y) ∙ valid.same in
        let up = below_is a from_start p c (subst (λ (n : ℕ). IsIn c (g.chains n)) at (in_own it c r)) within in
        absurd (omega (arith, up, under, least, s)))
        (cases_lt c was.tail)

    below_n : next_of image xn < image.start → (q : ℕ) → GoesOn image (record_home image.shape.bucket_bits xn) a q → next_of image xn ≡ q
    below_n low q goes =
        let s = paper.goes_on.start in
        let up = paper.opened.upwards in
        let under : next_of image xn < was.start = omega (arith, low, s) in
        let there = goes_n q under (subst (λ (n : ℕ). GoesOn image n a q) (its_bits spells paper.opened paper.goes_on xn) goes) in
        elim (next a from_start p).0 [
          | inl none ↦ elim (zero_or q) [
            | inl nothing ↦ none ∙ sym nothing
            | inr some ↦ (let c = goes_chain hn q some there in let less = c.1 in let most = below_is a from_start p q c.0 (omega (arith, less, up, new)) in absurd (some (omega (arith, most, none))))
          ]
          | inr has ↦ goes_same hn (next_of image xn) q (chain_goes hn (next_of image xn) has.0 under (λ b its less. below_is a from_start p b its (omega (arith, less, up, new)))) there
        ]

    pub linked_n : IsScanLinked image a xn
    linked_n = record {
      nearest = λ not_lost b greatest. nearest_n b greatest;
      first = λ not_lost none. first_n none;
      lost = λ lost on. absurd (lost (paper.shows.none_lost a xn new (let s = p.shown in s.stands)));
      below = λ low q goes. below_n low q goes;
    }

  new_scanned : (a : ℕ) → was.tail ≤ a → a < image.tail → IsScanned image a
  new_scanned a new low = elim (paper.shows.decided a new low) [
    | inl published ↦
        let p : IsHere was.tail image g a = here it a published.0 published.1 (above a published.0 published.1) low in
        let s : ShowsCell was.tail image a published.0 = p.shown in
        let version = version_read a new p in
        let least = paper.recent.published a published.0 published.1 new in
        let young = paper.cut.young a published.0 published.1 low in
        let up = paper.opened.upwards in
        record {
          held = s.held;
          fits = record { stands = s.stands; new_enough = omega (arith, version, least); old_enough = omega (arith, version, young); falls = (next a (omega (arith, up, new)) p).1 };
          linked = λ valid. linked_n a new p;
        }
    | inr dropped ↦ dropped_scanned was.tail image g paper.recent a dropped.0 dropped.1 new (paper.shows.dropped a dropped.0 dropped.1 new low)
  ]

  scanned : (a : ℕ) → image.start ≤ a → a < image.tail → IsScanned image a
  scanned a on low = ⊎_elim
      (λ old. old_scanned a (let s = paper.goes_on.start in omega (arith, on, s)) old)
      (λ new. new_scanned a new low)
      (cases_lt a was.tail)

  led : (i : ℕ) (triple : Triple) → slice_get image.triples i ≡ Some triple → IsLed image triple
  led i triple stands on =
      let s = paper.goes_on.start in
      let there : slice_get was.triples i ≡ Some triple = subst (λ (ts : List Triple). slice_get ts i ≡ Some triple) paper.goes_on.triples stands in
      let has = paper.opened.scan.triples i triple there (omega (arith, on, s)) in
      (has.0, valid_now spells paper.opened paper.goes_on (triple_home triple) triple.addr.0 has.0 (start_some spells paper.opened triple.addr.0 (omega (arith, on, s))) (paper.opened.below i triple there) has.1)

  pub has_scan : HasScan image
  has_scan = record { records = scanned; triples = led }

  -- ---- the chains below
  leading_is : (a : ℕ) (reached : Reached was a) (under : a < was.start) (leading : ℕ) → LeadsTo image leading a → record_home was.shape.bucket_bits (let c = paper.opened.chains a reached under in c.held) ≡ leading
  leading_is a reached under leading (from_triple t) = (let c = paper.opened.chains a reached under in c.same leading (from_triple (same_triple spells paper.opened paper.goes_on leading a t)))
  leading_is a reached under leading (from_record b y there stands at leads some) = elim (splits b there) [
    | inl old ↦ (let c = paper.opened.chains a reached under in c.same leading (from_record b y old.1 (stood spells paper.opened paper.goes_on b y (was_some spells paper.opened b old.1) old.0 stands) (sym (its_bits spells paper.opened paper.goes_on y) ∙ at) (sym (leads_same spells paper.opened paper.goes_on y) ∙ leads) some))
    | inr later ↦
        let r : IsHere was.tail image g b = later.1 in
        let own : home (let c = r.cell in c.key) ≡ leading = sym (old_home b r y stands) ∙ sym (its_bits spells paper.opened paper.goes_on y) ∙ at in
        let up = paper.opened.upwards in
        let counts = (paper.before.counted (home (let c = r.cell in c.key)) a (omega (arith, under, up))).0 (leads_in it b a r y stands leads some).0 in
        let c = paper.opened.chains a reached under in
        ap (record_home was.shape.bucket_bits) (one_was spells paper.opened a c.held counts.0 c.old.stands counts.1.valid.stands) ∙ counts.1.valid.same ∙ own
  ]

  pub has_chains : HasChains image
  has_chains a reached low =
      let s = paper.goes_on.start in
      let up = paper.opened.upwards in
      let under : a < was.start = omega (arith, low, s) in
      elim (splits a reached) [
        | inl old ↦
            let c = paper.opened.chains a old.1 under in
            record {
              held = c.held;
              old = record {
                stands = stands_now spells paper.opened paper.goes_on a c.held (was_some spells paper.opened a old.1) old.0 c.old.stands;
                old_enough = (let o = c.old.old_enough in let n = paper.goes_on.newer in omega (arith, o, n));
                falls = (let falls = c.old.falls in omega (arith, falls, leads_same spells paper.opened paper.goes_on c.held));
              };
              valid = c.valid;
              same = λ leading leads. its_bits spells paper.opened paper.goes_on c.held ∙ leading_is a old.1 under leading leads;
            }
        | inr later ↦ (let at = later.0 in absurd (omega (arith, at, under, up)))
      ]

  -- ---- what counts
  pub counts_of : (h a : ℕ) → IsIn a (g.chains h) → version_at (g.cells a) ≤ image.version → Has (Counts image h) a
  counts_of h a has old =
      let its = paper.orderly.chains.in_chain h a has in
      let young : (let c = its.cell in c.version) ≤ image.version = subst (λ (n : ℕ). n ≤ image.version) (ap version_at its.its) old in
      let low = paper.cut.covered a its.cell its.its young in
      let q = of_chain it h a has (above_in h a has) low in
      let s = (let r : IsHere was.tail image g a = q.0 in r.shown) in
      let at : record_home was.shape.bucket_bits s.held ≡ h = old_home a q.0 s.held s.stands ∙ q.1 in
      let valid : IsValid image h a s.held = record { stands = s.stands; valid = s.valid; same = its_bits spells paper.opened paper.goes_on s.held ∙ at } in
      ⊎_elim
      (λ before.
      let counts = (paper.before.counted h a before).0 has in
      let c = counts.1 in (
        counts.0,
        record {
          reached = again spells paper.opened paper.goes_on a c.reached;
          valid = valid_now spells paper.opened paper.goes_on h a counts.0 (was_some spells paper.opened a c.reached) before c.valid;
          old_enough = (let o = c.old_enough in let n = paper.goes_on.newer in omega (arith, o, n));
          version = λ on.
              let st = paper.goes_on.start in
              let from : was.start ≤ a = omega (arith, on, st) in
              let read = read_still a counts.0 from before c.valid.stands in
              let o = c.version from in
              let n = paper.goes_on.newer in
              omega (arith, read, o, n);
          not_lost = λ on.
              let st = paper.goes_on.start in
              let from : was.start ≤ a = omega (arith, on, st) in
              sym (losses_still a counts.0 from before c.valid.stands) ∙ (paper.loses a counts.0 from before c.valid.stands c.valid.valid).0 (subst (λ (n : ℕ). IsIn a (g.chains n)) (sym c.valid.same) has);
        },
      ))
      (λ new.
      let under = s.low in
      let up = paper.opened.upwards in
      let st = paper.goes_on.start in (
        s.held,
        record {
          reached = in_scan a s.held (omega (arith, st, up, new)) low s.stands s.valid;
          valid = valid;
          old_enough = omega (arith, under, young, (let r : IsHere was.tail image g a = q.0 in ap version_at (sym r.its) ∙ ap version_at its.its));
          version = λ on. (let read = version_read a new q.0 in omega (arith, read, young, (let r : IsHere was.tail image g a = q.0 in ap version_at (sym r.its) ∙ ap version_at its.its)));
          not_lost = λ on. paper.shows.none_lost a s.held new s.stands;
        },
      ))
      (cases_lt a was.tail)

  pub of_counts : (h a : ℕ) (x : Record) → Counts image h a x → IsIn a (g.chains h) × (version_at (g.cells a) ≤ image.version)
  of_counts h a x counts = elim (splits a counts.reached) [
    | inl old ↦
        let before = old.0 in
        let st = paper.goes_on.start in
        let v = valid_was spells paper.opened paper.goes_on h a x (was_some spells paper.opened a old.1) before counts.valid in
        let has : IsIn a (g.chains h) = ⊎_elim
        (λ under. counts_chain h a under (
          x,
          record {
            reached = old.1;
            valid = v;
            old_enough = (let c = paper.opened.chains a old.1 under in let is = ap (λ (z : Record). z.header.version.0) (one_was spells paper.opened a x c.held v.stands c.old.stands) in let o = c.old.old_enough in omega (arith, is, o));
            version = λ on. absurd (omega (arith, on, under));
            not_lost = λ on. absurd (omega (arith, on, under));
          },
        ))
        (λ on. subst (λ (n : ℕ). IsIn a (g.chains n)) v.same ((paper.loses a x on before v.stands v.valid).1 (losses_still a x on before v.stands ∙ counts.not_lost (omega (arith, on, st)))))
        (cases_lt a was.start) in
        let its = paper.orderly.chains.in_chain h a has in
        let version = paper.before.one_version a its.cell before its.its in
        let is = ap version_at its.its in
        let n = paper.goes_on.newer in
        (has, omega (arith, is, version, n))
    | inr later ↦
        let p : IsHere was.tail image g a = later.1 in
        let at : home (let c = p.cell in c.key) ≡ h = sym (old_home a p x counts.valid.stands) ∙ sym (its_bits spells paper.opened paper.goes_on x) ∙ counts.valid.same in
        let is = ap (λ (y : Record). version_of image y) (as_shown it a p x counts.valid.stands) in
        let same = version_read a later.0 p in
        let version = ap version_at p.its in
        let st = paper.goes_on.start in
        let up = paper.opened.upwards in
        let new = later.0 in
        let enough = counts.version (omega (arith, st, up, new)) in
        (subst (λ (n : ℕ). IsIn a (g.chains n)) at (in_own it a p), omega (arith, is, same, version, enough))
  ]

  tells : (h a : ℕ) (x : Record) → Counts image h a x → TellsCell (g.cells a) x
  tells h a x counts =
      let c = of_counts h a x counts in
      let its = paper.orderly.chains.in_chain h a c.0 in
      let low = paper.cut.covered a its.cell its.its (subst (λ (n : ℕ). n ≤ image.version) (ap version_at its.its) c.1) in
      let s = paper.shows.published a its.cell its.its (above a its.cell its.its) low in
      let is : x ≡ s.held = one it a x s.held counts.valid.stands s.stands in
      record { cell = its.cell; its = its.its; its_key = ap (λ (y : Record). y.key.0) is ∙ s.its_key; its_value = ap (λ (y : Record). value_of y.value) is ∙ s.its_value }

  pub old_counts_as_log : CountsAsLog home image g
  old_counts_as_log = record {
    homes = paper.shows.homes;
    orderly = paper.orderly;
    counts = λ h a has old begun. counts_of h a has old;
    stands = λ h a x counts. (let c = of_counts h a x counts in (c.0, c.1, above_in h a c.0));
    tells = tells;
    live = (above_live home image.begin g paper.orderly.chains paper.orderly.none above).1 image.version;
  }

  pub old_shows : ShowsUpto home image g
  old_shows = shows_upto home image g spells old_counts_as_log
