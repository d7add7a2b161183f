-- Slots and their numbers.
use Rattle.std.proofs.Common.{◌≡◌, ◌≢◌, ℕ, ◌^◌, ◌<◌, List, [], ◌∷◌, ◌++◌, length, take, drop, get_or, Some, None, refl, sym, ◌∙◌, arith}
use Rattle.std.proofs.lemmas.List.{take-append-drop}
use Rattle.std.proofs.Math.Bridge.{le_prop}
use Rattle.fkv_words.specs.Fields.{Reads, SpellsApart}
use Rattle.fkv_words.proofs.Shown.{same_made, reads_made}
use Rattle.fkv_record.specs.declared.points.Points.{Points}
use Rattle.fkv_record.specs.declared.slots.Slot.{Slot}
use Rattle.fkv_record.specs.Layout.{point_numbers, first_layout, slot_bytes}
use Rattle.fkv_record.proofs.Spelling.{AreWords, IsNumbered, numbered_apart}
use Rattle.fkv_record.proofs.PointApart.{points_apart, point_words, length-point_numbers}

slot_words : (x : Slot) → AreWords (first_layout x)
unfolding first_layout
slot_words x = (omega arith, (x.number_fits, (x.first_fits, (x.end_fits, (x.triples_fit, (x.area_fits, point_words x.points))))))

length-first_layout : (x : Slot) → length (first_layout x) ≡ 64
unfolding first_layout
length-first_layout x = omega (arith, length-point_numbers x.points)

slot_same : (x y : Slot) → x.number ≡ y.number → x.first.0 ≡ y.first.0 → x.end.0 ≡ y.end.0 → x.triples ≡ y.triples → x.area ≡ y.area → x.points ≡ y.points → x ≡ y
slot_same x y n f e t a p =
    let parts : ◌≡◌ {A = ℕ × ℕ × ℕ × ℕ × ℕ × Points} (x.number, x.first.0, x.end.0, x.triples, x.area, x.points) (y.number, y.first.0, y.end.0, y.triples, y.area, y.points) = cc in
    same_made {A = ℕ × ℕ × ℕ × ℕ × ℕ × Points} {P = λ p. (p.0 < 2 ^ 64) × (p.1 < 2 ^ 64) × (p.2 < 2 ^ 64) × (p.3 < 2 ^ 64) × (p.4 < 2 ^ 64)}
    (λ p h. record { number = p.0; first = record { 0 = p.1 }; end = record { 0 = p.2 }; triples = p.3; area = p.4; points = p.5; number_fits = h.0; first_fits = h.1; end_fits = h.2; triples_fit = h.3; area_fits = h.4 })
    (λ p. hlevel le_prop)
    (x.number, x.first.0, x.end.0, x.triples, x.area, x.points) (y.number, y.first.0, y.end.0, y.triples, y.area, y.points)
    (x.number_fits, x.first_fits, x.end_fits, x.triples_fit, x.area_fits) (y.number_fits, y.first_fits, y.end_fits, y.triples_fit, y.area_fits) parts

layout_apart : SpellsApart first_layout
unfolding first_layout
layout_apart x y e =
    let n : x.number ≡ y.number = cc in
    let f : x.first.0 ≡ y.first.0 = cc in
    let l : x.end.0 ≡ y.end.0 = cc in
    let t : x.triples ≡ y.triples = cc in
    let a : x.area ≡ y.area = cc in
    let p : point_numbers x.points ≡ point_numbers y.points = cc in
    slot_same x y n f l t a (points_apart x.points y.points p)

pub slot_numbered : IsNumbered slot_bytes first_layout 64
unfolding slot_bytes
slot_numbered = record { same = λ x. refl; words = slot_words; len = length-first_layout }

pub slot_apart : SpellsApart slot_bytes
slot_apart = numbered_apart slot_numbered layout_apart

-- the first seven numbers, and those after them
pub record IsParted (numbers front places : List ℕ) : Type 0 where
  pub len : length front ≡ 7
  pub joined : front ++ places ≡ numbers

pub parted_at : (numbers front places : List ℕ) → length front ≡ 7 → front ≡ take 7 numbers → places ≡ drop 7 numbers → IsParted numbers front places
parted_at numbers front places len f p = record { len = len; joined = rw (f, p) (take-append-drop 7 numbers) }

-- what the seven numbers and those after them are in a layout
pub record Matches (x : Slot) (front places : List ℕ) : Type 0 where
  pub gate : get_or front 0 0 ≡ 165
  pub number : x.number ≡ get_or front 1 0
  pub first : x.first.0 ≡ get_or front 2 0
  pub end : x.end.0 ≡ get_or front 3 0
  pub triples : x.triples ≡ get_or front 4 0
  pub area : x.area ≡ get_or front 5 0
  pub points : point_numbers x.points ≡ get_or front 6 0 ∷ places

matching : (x : Slot) (front places : List ℕ) → length front ≡ 7 → first_layout x ≡ front ++ places → Matches x front places
unfolding first_layout
matching x (a ∷ b ∷ c ∷ d ∷ e ∷ f ∷ g ∷ []) places len h =
    record { gate = cc; number = cc; first = cc; end = cc; triples = cc; area = cc; points = cc }
matching x front places len h = absurd (omega arith)

matched : (x : Slot) (front places : List ℕ) → length front ≡ 7 → Matches x front places → first_layout x ≡ front ++ places
unfolding first_layout
matched x (a ∷ b ∷ c ∷ d ∷ e ∷ f ∷ g ∷ []) places len m =
    let gate = m.gate in
    let number = m.number in
    let first = m.first in
    let end = m.end in
    let triples = m.triples in
    let area = m.area in
    let points = m.points in
    cc
matched x front places len m = absurd (omega arith)

pub slot_read : (x : Slot) (numbers front places : List ℕ) → IsParted numbers front places → Matches x front places → Reads first_layout numbers (Some x)
slot_read x numbers front places parts m = reads_made first_layout layout_apart x numbers (matched x front places parts.len m ∙ parts.joined)

pub slot_closed : (numbers front places : List ℕ) → IsParted numbers front places → get_or front 0 0 ≢ 165 → Reads first_layout numbers None
slot_closed numbers front places parts closed x =
    (λ s. let never : ⊥ = cc in absurd never, λ e. absurd (closed (matching x front places parts.len (e ∙ sym parts.joined)).gate))

pub slot_pointless : (numbers front places : List ℕ) → IsParted numbers front places → Reads point_numbers (get_or front 6 0 ∷ places) None → Reads first_layout numbers None
slot_pointless numbers front places parts none x = (
  λ s. let never : ⊥ = cc in absurd never,
  λ e.
      let here = (none x.points).1 (matching x front places parts.len (e ∙ sym parts.joined)).points in
      let never : ⊥ = cc in
      absurd never,
)
