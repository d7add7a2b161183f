-- Where the chain of a home goes on below the scan's start, and what is reached there.
use Rattle.std.proofs.Common.{◌≡◌, ◌≢◌, ⊎_elim, ℕ, ◌<◌, ◌≤◌, false, refl, sym, ap, subst, ◌∙◌, arith}
use Rattle.std.specs.Prelude.{slice_get}
use Rattle.std.proofs.lemmas.Bool.{cases_lt}
use Rattle.fkv_words.specs.Fields.{SpellsApart}
use Rattle.fkv_record.specs.declared.records.Record.{Record}
use Rattle.fkv_record.specs.declared.triples.Triple.{Triple}
use Rattle.fkv_record.specs.Layout.{record_bytes}
use Rattle.fkv_scan.specs.Log.{Log, HasTriple, record_home}
use Rattle.fkv_scan.specs.Records.{Stands, next_of, IsValid}
use Rattle.fkv_scan.specs.Scan.{GoesOn, by_triple, by_none, by_record}
use Rattle.fkv_scan.proofs.Shown.{some_is}
use Rattle.fkv_chains.specs.Reached.{Reached, in_scan, led_to, linked, LeadsTo, from_triple, from_record}
use Rattle.fkv_chains.specs.Along.{IsAlong, here, on}
use Rattle.fkv_pairs.specs.Gathered.{IsFaultless}
use Rattle.fkv_pairs.proofs.Meeting.{one, links, met, some_reached}

-- one chain goes on into another
pub along_on : (log : Log) (a b c : ℕ) → IsAlong log a b → IsAlong log b c → IsAlong log a c
along_on log a b c (here _ some) second = second
along_on log a b c (on _ _ x some stands rest) second = on a c x some stands (along_on log (next_of log x) b c rest second)

-- a home leads below the start to where this record lies on its chain
pub record IsOnWay (log : Log) (its_home b : ℕ) : Type 0 where
  pub way : ℕ
  pub goes : GoesOn log its_home log.tail way
  pub along : IsAlong log way b

module _ (spelled : SpellsApart record_bytes) (log : Log) (sound : IsFaultless log) where
  -- a home has one triple
  one_triple : (its_home q r : ℕ) → HasTriple log its_home q → HasTriple log its_home r → q ≡ r
  one_triple its_home q r t u =
      let at : t.place ≡ u.place = sound.apart t.place u.place t.triple u.triple t.stands u.stands (t.same ∙ sym u.same) in
      let same : t.triple ≡ u.triple = some_is t.triple u.triple (sym t.stands ∙ ap (λ (n : ℕ). slice_get log.triples n) at ∙ u.stands) in
      sym t.address ∙ ap (λ (x : Triple). x.addr.0) same ∙ u.address

  -- a record of the scan leads to where the chain goes on by what lies below it
  module _ (its_home c : ℕ) (x : Record) (from : log.start ≤ c) (within : c < log.tail) (valid : IsValid log its_home c x) (low : next_of log x < log.start) where
    leads_on : (q : ℕ) → GoesOn log its_home c q → next_of log x ≡ q
    leads_on q goes = (links spelled log sound c x from within valid.stands valid.valid).below low q (subst (λ (h : ℕ). GoesOn log h c q) (sym valid.same) goes)

  two_records : (its_home c d : ℕ) (x y : Record) → log.start ≤ c → c < log.tail → IsValid log its_home c x → next_of log x < log.start
      → log.start ≤ d → d < log.tail → IsValid log its_home d y → next_of log y < log.start → next_of log x ≡ next_of log y
  two_records its_home c d x y from within valid low from_d within_d valid_d low_d = ⊎_elim
      (λ less. sym (leads_on its_home d y from_d within_d valid_d low_d (next_of log x) (by_record c x from less valid refl low)))
      (λ more. ⊎_elim
      (λ less. leads_on its_home c x from within valid low (next_of log y) (by_record d y from_d less valid_d refl low_d))
      (λ no_more.
      let same : c ≡ d = omega (arith, more, no_more) in
      let there : Stands log d x = subst (λ (n : ℕ). Stands log n x) same valid.stands in
      ap (λ (z : Record). next_of log z) (one spelled log sound d x y there valid_d.stands))
      (cases_lt d c))
      (cases_lt c d)

  -- it goes on at one place
  pub one_way : (its_home q r : ℕ) → GoesOn log its_home log.tail q → GoesOn log its_home log.tail r → q ≡ r
  one_way its_home q r (by_triple t low) (by_triple u low_r) = one_triple its_home q r t u
  one_way its_home q r (by_triple t low) (by_none none is) = absurd (none q t)
  one_way its_home q r (by_triple t low) (by_record d y from within valid is low_r) = sym (leads_on its_home d y from within valid (omega (arith, is, low_r)) q (by_triple t low)) ∙ is
  one_way its_home q r (by_none none is) (by_triple u low) = absurd (none r u)
  one_way its_home q r (by_none none is) (by_none none_r is_r) = is ∙ sym is_r
  one_way its_home q r (by_none none is) (by_record d y from within valid is_r low_r) = sym (leads_on its_home d y from within valid (omega (arith, is_r, low_r)) q (by_none none is)) ∙ is_r
  one_way its_home q r (by_record c x from within valid is low) (by_triple u low_r) = sym is ∙ leads_on its_home c x from within valid (omega (arith, is, low)) r (by_triple u low_r)
  one_way its_home q r (by_record c x from within valid is low) (by_none none is_r) = sym is ∙ leads_on its_home c x from within valid (omega (arith, is, low)) r (by_none none is_r)
  one_way its_home q r (by_record c x from within valid is low) (by_record d y from_d within_d valid_d is_r low_r) =
      sym is ∙ two_records its_home c d x y from within valid (omega (arith, is, low)) from_d within_d valid_d (omega (arith, is_r, low_r)) ∙ is_r

  -- the home of a record below the start is each that leads to it
  home_there : (leading b : ℕ) (y : Record) → Reached log b → b < log.start → Stands log b y → LeadsTo log leading b → leading ≡ record_home log.shape.bucket_bits y
  home_there leading b y reached low stands leads =
      let this = sound.chains b reached low in
      sym (this.same leading leads) ∙ ap (λ (x : Record). record_home log.shape.bucket_bits x) (one spelled log sound b this.held y this.old.stands stands)

  -- what a record of the scan leads to
  way_from : (a b : ℕ) (x : Record) → log.start ≤ a → b < log.start → Reached log a → Stands log a x → next_of log x ≡ b → b ≢ 0 → IsOnWay log (record_home log.shape.bucket_bits x) b
  way_from a b x from low reached stands is some =
      let this = met spelled log sound a reached from in
      let valid : x.header.invalid ≡ false = ap (λ (y : Record). y.header.invalid) (one spelled log sound a x this.1 stands this.2) ∙ this.3 in
      record { way = b; goes = by_record a x from this.0 (record { stands = stands; valid = valid; same = refl }) is low; along = here b some }

  way_on : (a b : ℕ) (x : Record) → a ≢ 0 → Stands log a x → next_of log x ≡ b → b ≢ 0 → IsOnWay log (record_home log.shape.bucket_bits x) a → IsOnWay log (record_home log.shape.bucket_bits x) b
  way_on a b x some_a stands is some before =
      let step : IsAlong log a b = on a b x some_a stands (subst (λ (n : ℕ). IsAlong log n b) (sym is) (here b some)) in
      record { way = before.way; goes = before.goes; along = along_on log before.way a b before.along step }

  -- what is reached below the start lies on the chain of its home there
  pub on_way : (b : ℕ) (y : Record) → Reached log b → b < log.start → Stands log b y → IsOnWay log (record_home log.shape.bucket_bits y) b
  on_way b y (in_scan _ x from within stands valid) low there = absurd (omega (arith, from, low))
  on_way b y (led_to its_home _ t) low there =
      subst (λ (h : ℕ). IsOnWay log h b) (home_there its_home b y (led_to its_home b t) low there (from_triple t))
      (record { way = b; goes = by_triple t low; along = here b (some_reached spelled log sound b (led_to its_home b t)) })
  on_way b y (linked a _ x reached stands is some) low there =
      let reached_b : Reached log b = linked a b x reached stands is some in
      subst (λ (h : ℕ). IsOnWay log h b) (home_there (record_home log.shape.bucket_bits x) b y reached_b low there (from_record a x reached stands refl is some))
      (⊎_elim
      (λ low_a. way_on a b x (some_reached spelled log sound a reached) stands is some (on_way a x reached low_a stands))
      (λ from. way_from a b x from low reached stands is some)
      (cases_lt a log.start))
