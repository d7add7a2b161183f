-- What was reached as a store was opened is reached again by a scan that goes on from there.
use Rattle.std.proofs.Common.{◌≡◌, ℕ, ◌<◌, ◌≤◌, Some, List, sym, ap, subst, ◌∙◌, arith}
use Rattle.std.specs.Prelude.{slice_get}
use Rattle.fkv_chains.specs.Reached.{Reached, in_scan, led_to, linked}
use Rattle.fkv_record.specs.Begin.{from_or_none}
use Rattle.fkv_record.specs.Layout.{record_bytes}
use Rattle.fkv_record.specs.declared.records.Record.{Record}
use Rattle.fkv_record.specs.declared.triples.Triple.{Triple}
use Rattle.fkv_scan.specs.Log as scan
use Rattle.fkv_scan.specs.Log.{HasTriple, record_home}
use Rattle.fkv_scan.specs.Records.{Stands, next_of, IsValid}
use Rattle.fkv_scan.specs.Scan.{GoesOn, by_triple, by_none, by_record}
use Rattle.fkv_words.specs.Fields.{SpellsApart}
use Rattle.law_paper.specs.Paper.Old.{GoesOnFrom, WasSound}
use Rattle.law_paper.proofs.Reached.{leads_down, reached_begun, reached_low}

module _ {was : scan.Log} (spells : SpellsApart record_bytes) (sound : WasSound was) where
  pub one_was : (a : ℕ) (x y : Record) → Stands was a x → Stands was a y → x ≡ y
  one_was a x y first second = spells x y (first ∙ sym second)

  pub start_some : (a : ℕ) → was.start ≤ a → was.begin ≤ a
  start_some a from = (let some = sound.begins in omega (arith, from, some))

  -- what is reached lies below the end, and leads below itself
  pub falls_in : (a : ℕ) (x : Record) → a < was.tail → Reached was a → Stands was a x → next_of was x < a
  falls_in = leads_down spells sound.scan sound.chains sound.below

  pub was_low : (a : ℕ) → Reached was a → a < was.tail
  was_low = reached_low spells sound.scan sound.chains sound.below

  -- and it doesn't lie below the begin
  pub was_some : (a : ℕ) → Reached was a → was.begin ≤ a
  was_some = reached_begun was sound.begins

  module _ {image : scan.Log} (goes_on : GoesOnFrom was image) where
    -- where a record leads
    pub leads_same : (x : Record) → next_of image x ≡ next_of was x
    leads_same x = ap (λ (b : ℕ). from_or_none b x.header.previous.0) goes_on.begin

    -- the home of a record
    pub its_bits : (x : Record) → record_home image.shape.bucket_bits x ≡ record_home was.shape.bucket_bits x
    its_bits x = ap (λ (n : ℕ). record_home n x) goes_on.bits

    pub same_triple : (h t : ℕ) → HasTriple image h t → HasTriple was h t
    same_triple h t it = record { place = it.place; triple = it.triple; stands = subst (λ (ts : List Triple). slice_get ts it.place ≡ Some it.triple) goes_on.triples it.stands; same = it.same; address = it.address; in_log = (let b = goes_on.begin in let on = it.in_log in omega (arith, b, on)) }

    pub triple_there : (h t : ℕ) → HasTriple was h t → HasTriple image h t
    triple_there h t it = record { place = it.place; triple = it.triple; stands = subst (λ (ts : List Triple). slice_get ts it.place ≡ Some it.triple) (sym goes_on.triples) it.stands; same = it.same; address = it.address; in_log = (let b = goes_on.begin in let on = it.in_log in omega (arith, b, on)) }

    pub stood : (a : ℕ) (x : Record) → was.begin ≤ a → a < was.tail → Stands image a x → Stands was a x
    stood a x some low stands = (goes_on.bytes a x some low).1 stands

    pub stands_now : (a : ℕ) (x : Record) → was.begin ≤ a → a < was.tail → Stands was a x → Stands image a x
    stands_now a x some low stands = (goes_on.bytes a x some low).0 stands

    pub valid_was : (h a : ℕ) (x : Record) → was.begin ≤ a → a < was.tail → IsValid image h a x → IsValid was h a x
    valid_was h a x some low v = record { stands = stood a x some low v.stands; valid = v.valid; same = sym (its_bits x) ∙ v.same }

    pub valid_now : (h a : ℕ) (x : Record) → was.begin ≤ a → a < was.tail → IsValid was h a x → IsValid image h a x
    valid_now h a x some low v = record { stands = stands_now a x some low v.stands; valid = v.valid; same = its_bits x ∙ v.same }

    pub again : (a : ℕ) → Reached was a → Reached image a
    again a (in_scan _ x from within stands valid) =
        in_scan a x (let s = goes_on.start in omega (arith, from, s)) (let l = goes_on.longer in omega (arith, within, l)) (stands_now a x (start_some a from) within stands) valid
    again a (led_to h _ t) = led_to h a (triple_there h a t)
    again b (linked a _ x reached stands is some) = linked a b x (again a reached) (stands_now a x (was_some a reached) (was_low a reached) stands) (leads_same x ∙ is) some

    -- where a chain goes on below the start it went on
    pub goes_was : (h a q : ℕ) → a ≤ was.tail → GoesOn image h a q → GoesOn was h a q
    goes_was h a q low (by_triple t under) = by_triple (same_triple h q t) (let s = goes_on.start in omega (arith, under, s))
    goes_was h a q low (by_none none is) = by_none (λ t it. none t (triple_there h t it)) is
    goes_was h a q low (by_record c y least within valid leads under) =
        let s = goes_on.start in
        let on : was.start ≤ c = omega (arith, least, s) in
        by_record c y on within (valid_was h c y (start_some c on) (omega (arith, within, low)) valid) (sym (leads_same y) ∙ leads) (omega (arith, under, s))
