-- Manifest slots are told apart by their numbers.
use Rattle.std.proofs.Common.{◌≡◌, ◌≢◌, ℕ, ◌+◌, ◌-◌, ◌^◌, ◌<◌, ◌≤◌, List, [], ◌∷◌, ◌++◌, length, take, drop, get_or, Bool, true, false, Option, Some, None, replicate, refl, sym, ap, subst, ◌∙◌, arith}
use Rattle.std.proofs.lemmas.List.{take_at, drop_at, take-append-drop, drop_more, drop-drop, drop_all, length-drop, length-take-le}
use Rattle.std.proofs.Math.Bridge.{le_prop}
use Rattle.std.specs.Prelude.{if◌then◌else◌}
use Rattle.fkv_words.specs.Fields.{Reads}
use Rattle.fkv_words.proofs.Shown.{same_made}
use Rattle.fkv_record.specs.declared.formats.Format.{Format}
use Rattle.fkv_record.specs.declared.formats.Format.TheVariants.{First, Second, Third, Fourth}
use Rattle.fkv_record.specs.declared.lost_ranges.LostRanges.{LostRanges}
use Rattle.fkv_record.specs.declared.manifest_slots.ManifestSlot.{ManifestSlot}
use Rattle.fkv_record.specs.declared.points.Points.{Points}
use Rattle.fkv_record.specs.Formats.{format_number, point_places}
use Rattle.fkv_record.specs.Manifest.{range_numbers, is_held, layout, manifest_numbers, named_checkpoint, named_begin}
use Rattle.fkv_record.specs.Numbers.{padded}
use Rattle.fkv_record.specs.Points.{serial_numbers}
use Rattle.fkv_record.specs.Sections.{checkpoint_of, begin_of, points_in, ranges_in}
use Rattle.fkv_record.proofs.ManifestSections.{sections, tail_numbers, sectioned, own_checkpoint, first_begin, second_begin, third_begin, points_fit, ranges_fit, length-padded, places_within}
use Rattle.fkv_record.proofs.PointPlaces.{points_in_apart}
use Rattle.fkv_record.proofs.RangePlaces.{ranges_in_apart}

-- where the parts of a slot stand among the numbers
abbrev pub places_at : Format → List ℕ → List ℕ
places_at f numbers = take (point_places f) (drop 7 numbers)

abbrev pub ranges_at : Format → List ℕ → List ℕ
ranges_at f numbers = take (48 - point_places f) (drop (9 + point_places f) numbers)

-- between the begin and the format
abbrev pub rest_at : List ℕ → List ℕ
rest_at numbers = take 5 (drop 58 numbers)

-- the begin and what stands behind it: as they are read, and as they are written
abbrev pub ends_at : List ℕ → List ℕ
ends_at numbers = get_or numbers 57 0 ∷ (rest_at numbers ++ get_or numbers 63 0 ∷ [])

abbrev pub end_numbers : Format → ManifestSlot → List ℕ
end_numbers f x = named_begin f x ∷ 0 ∷ 0 ∷ 0 ∷ 0 ∷ 0 ∷ format_number f ∷ []

-- what the numbers say of a slot
pub record Tells (f : Format) (x : ManifestSlot) (numbers : List ℕ) : Type 0 where
  pub held : is_held f x ≡ true
  pub gate : get_or numbers 0 0 ≡ 165
  pub number : x.number ≡ get_or numbers 1 0
  pub first : x.first.0 ≡ get_or numbers 2 0
  pub end : x.end.0 ≡ get_or numbers 3 0
  pub triples : x.triples ≡ get_or numbers 4 0
  pub area : x.area ≡ get_or numbers 5 0
  pub points : points_in (point_places f) x.points ≡ get_or numbers 6 0 ∷ places_at f numbers
  pub named : named_checkpoint f x ≡ get_or numbers (7 + point_places f) 0
  pub lost : ranges_in (48 - point_places f) x.lost ≡ get_or numbers (8 + point_places f) 0 ∷ ranges_at f numbers
  pub begin : named_begin f x ≡ get_or numbers 57 0
  pub rest : rest_at numbers ≡ replicate 5 0
  pub format : format_number f ≡ get_or numbers 63 0

-- 64 numbers in their parts
abbrev pub parts : Format → List ℕ → List ℕ
parts f numbers =
    (get_or numbers 0 0 ∷ get_or numbers 1 0 ∷ get_or numbers 2 0 ∷ get_or numbers 3 0 ∷ get_or numbers 4 0 ∷ get_or numbers 5 0 ∷ get_or numbers 6 0 ∷ [])
    ++ (places_at f numbers ++ get_or numbers (7 + point_places f) 0 ∷ get_or numbers (8 + point_places f) 0 ∷ (ranges_at f numbers ++ get_or numbers 57 0 ∷ (rest_at numbers ++ get_or numbers 63 0 ∷ [])))

seven : (numbers : List ℕ) → 7 ≤ length numbers
    → numbers ≡ (get_or numbers 0 0 ∷ get_or numbers 1 0 ∷ get_or numbers 2 0 ∷ get_or numbers 3 0 ∷ get_or numbers 4 0 ∷ get_or numbers 5 0 ∷ get_or numbers 6 0 ∷ []) ++ drop 7 numbers
seven (a ∷ b ∷ c ∷ d ∷ e ∷ f ∷ g ∷ numbers) len = refl
seven numbers len = absurd (omega arith)

-- the last of the numbers
last_one : (numbers : List ℕ) → length numbers ≡ 64 → drop 63 numbers ≡ get_or numbers 63 0 ∷ []
last_one numbers len =
    drop_more numbers 63 0 (omega arith) ∙ ap (λ (l : List ℕ). get_or numbers 63 0 ∷ l) (drop_all 64 numbers (omega arith))

-- so many of them, and what follows
some_of : (numbers : List ℕ) (from many to : ℕ) → from + many ≡ to → drop from numbers ≡ take many (drop from numbers) ++ drop to numbers
some_of numbers from many to e =
    sym (take-append-drop many (drop from numbers)) ∙ ap (λ (l : List ℕ). take many (drop from numbers) ++ l) (drop-drop many from numbers ∙ ap (λ (k : ℕ). drop k numbers) e)

pub parted : (f : Format) (numbers : List ℕ) → length numbers ≡ 64 → numbers ≡ parts f numbers
parted f numbers len =
    let within = places_within f in
    let p : ℕ = point_places f in
    let places = some_of numbers 7 p (7 + p) refl in
    let one = drop_more numbers (7 + p) 0 (omega (arith, within)) in
    let two = drop_more numbers (8 + p) 0 (omega (arith, within)) in
    let next : drop (7 + p + 1) numbers ≡ drop (8 + p) numbers = ap (λ (k : ℕ). drop k numbers) (let e : 7 + p + 1 ≡ 8 + p = omega arith in e) in
    let after : drop (8 + p + 1) numbers ≡ drop (9 + p) numbers = ap (λ (k : ℕ). drop k numbers) (let e : 8 + p + 1 ≡ 9 + p = omega arith in e) in
    let ranges = some_of numbers (9 + p) (48 - p) 57 (omega (arith, within)) in
    let begin : drop 57 numbers ≡ get_or numbers 57 0 ∷ drop 58 numbers = drop_more numbers 57 0 (omega arith) in
    let rest : drop 58 numbers ≡ rest_at numbers ++ drop 63 numbers = some_of numbers 58 5 63 refl in
    let end : drop 57 numbers ≡ get_or numbers 57 0 ∷ (rest_at numbers ++ get_or numbers 63 0 ∷ []) =
    begin ∙ ap (λ (l : List ℕ). get_or numbers 57 0 ∷ l) (rest ∙ ap (λ (l : List ℕ). rest_at numbers ++ l) (last_one numbers len)) in
    let behind : drop (9 + p) numbers ≡ ranges_at f numbers ++ get_or numbers 57 0 ∷ (rest_at numbers ++ get_or numbers 63 0 ∷ []) = ranges ∙ ap (λ (l : List ℕ). ranges_at f numbers ++ l) end in
    let tail : drop (7 + p) numbers ≡ get_or numbers (7 + p) 0 ∷ get_or numbers (8 + p) 0 ∷ (ranges_at f numbers ++ get_or numbers 57 0 ∷ (rest_at numbers ++ get_or numbers 63 0 ∷ [])) =
    one ∙ ap (λ (l : List ℕ). get_or numbers (7 + p) 0 ∷ l) (next ∙ two ∙ ap (λ (l : List ℕ). get_or numbers (8 + p) 0 ∷ l) (after ∙ behind)) in
    let all : drop 7 numbers ≡ places_at f numbers ++ get_or numbers (7 + p) 0 ∷ get_or numbers (8 + p) 0 ∷ (ranges_at f numbers ++ get_or numbers 57 0 ∷ (rest_at numbers ++ get_or numbers 63 0 ∷ [])) =
    places ∙ ap (λ (l : List ℕ). places_at f numbers ++ l) tail in
    seven numbers (omega arith) ∙ ap (λ (l : List ℕ). (get_or numbers 0 0 ∷ get_or numbers 1 0 ∷ get_or numbers 2 0 ∷ get_or numbers 3 0 ∷ get_or numbers 4 0 ∷ get_or numbers 5 0 ∷ get_or numbers 6 0 ∷ []) ++ l) all

-- lists that begin with as many numbers
append_apart : (xs ys us vs : List ℕ) → length xs ≡ length us → xs ++ ys ≡ us ++ vs → (xs ≡ us) × (ys ≡ vs)
append_apart xs ys us vs len e = (
  sym (take_at xs ys (length xs) refl) ∙ ap (take (length xs)) e ∙ take_at us vs (length xs) (sym len),
  sym (drop_at xs ys (length xs) refl) ∙ ap (drop (length xs)) e ∙ drop_at us vs (length xs) (sym len),
)

length-places_at : (f : Format) (numbers : List ℕ) → length numbers ≡ 64 → length (places_at f numbers) ≡ point_places f
length-places_at f numbers len =
    let within = places_within f in
    length-take-le (point_places f) (drop 7 numbers) (omega (arith, within, length-drop 7 numbers))

length-ranges_at : (f : Format) (numbers : List ℕ) → length numbers ≡ 64 → length (ranges_at f numbers) ≡ 48 - point_places f
length-ranges_at f numbers len =
    let within = places_within f in
    length-take-le (48 - point_places f) (drop (9 + point_places f) numbers) (omega (arith, within, length-drop (9 + point_places f) numbers))

pub length-rest_at : (numbers : List ℕ) → length numbers ≡ 64 → length (rest_at numbers) ≡ 5
length-rest_at numbers len = length-take-le 5 (drop 58 numbers) (omega (arith, length-drop 58 numbers))

-- the numbers of a slot tell it
pub telling : (f : Format) (x : ManifestSlot) (numbers : List ℕ) → length numbers ≡ 64 → is_held f x ≡ true → layout f x ≡ numbers → Tells f x numbers
telling f x numbers len held e =
    let p : ℕ = point_places f in
    let same : sections f x ≡ parts f numbers = sym (sectioned f x held) ∙ e ∙ parted f numbers len in
    let behind : padded p (serial_numbers x.points.serials.items) ++ tail_numbers f x ≡ places_at f numbers ++ get_or numbers (7 + p) 0 ∷ get_or numbers (8 + p) 0 ∷ (ranges_at f numbers ++ ends_at numbers) = cc in
    let points = append_apart (padded p (serial_numbers x.points.serials.items)) (tail_numbers f x) (places_at f numbers) (get_or numbers (7 + p) 0 ∷ get_or numbers (8 + p) 0 ∷ (ranges_at f numbers ++ ends_at numbers))
    (length-padded p (serial_numbers x.points.serials.items) (points_fit f x held) ∙ sym (length-places_at f numbers len)) behind in
    let tail = points.1 in
    let used = points.0 in
    let last : padded (48 - p) (range_numbers x.lost.ranges.items) ++ end_numbers f x ≡ ranges_at f numbers ++ ends_at numbers = cc in
    let ranges = append_apart (padded (48 - p) (range_numbers x.lost.ranges.items)) (end_numbers f x) (ranges_at f numbers) (ends_at numbers)
    (length-padded (48 - p) (range_numbers x.lost.ranges.items) (ranges_fit f x) ∙ sym (length-ranges_at f numbers len)) last in
    let lost = ranges.0 in
    let ends : end_numbers f x ≡ ends_at numbers = ranges.1 in
    let begin : named_begin f x ≡ get_or numbers 57 0 = cc in
    let zeros : 0 ∷ 0 ∷ 0 ∷ 0 ∷ 0 ∷ format_number f ∷ [] ≡ rest_at numbers ++ get_or numbers 63 0 ∷ [] = cc in
    let rest = append_apart (0 ∷ 0 ∷ 0 ∷ 0 ∷ 0 ∷ []) (format_number f ∷ []) (rest_at numbers) (get_or numbers 63 0 ∷ []) (sym (length-rest_at numbers len)) zeros in
    let format = rest.1 in
    record {
      held = held;
      gate = cc;
      number = cc;
      first = cc;
      end = cc;
      triples = cc;
      area = cc;
      points = cc;
      named = cc;
      lost = cc;
      begin = begin;
      rest = sym rest.0;
      format = cc;
    }

-- and what the numbers tell has them
pub told : (f : Format) (x : ManifestSlot) (numbers : List ℕ) → length numbers ≡ 64 → Tells f x numbers → layout f x ≡ numbers
told f x numbers len t =
    let gate = t.gate in
    let number = t.number in
    let first = t.first in
    let end = t.end in
    let triples = t.triples in
    let area = t.area in
    let points = t.points in
    let named = t.named in
    let lost = t.lost in
    let begin = t.begin in
    let format = t.format in
    let zeros : rest_at numbers ++ get_or numbers 63 0 ∷ [] ≡ 0 ∷ 0 ∷ 0 ∷ 0 ∷ 0 ∷ get_or numbers 63 0 ∷ [] = ap (λ (l : List ℕ). l ++ get_or numbers 63 0 ∷ []) t.rest in
    let same : sections f x ≡ parts f numbers = cc in
    sectioned f x t.held ∙ same ∙ sym (parted f numbers len)

manifest_same : (x y : ManifestSlot) → x.number ≡ y.number → x.first.0 ≡ y.first.0 → x.end.0 ≡ y.end.0 → x.triples ≡ y.triples → x.area ≡ y.area → x.points ≡ y.points
    → x.checkpoint ≡ y.checkpoint → x.lost ≡ y.lost → x.begin.0 ≡ y.begin.0 → x ≡ y
manifest_same x y n f e t a p c l b =
    let parts : ◌≡◌ {A = ℕ × ℕ × ℕ × ℕ × ℕ × Points × ℕ × LostRanges × ℕ} (x.number, x.first.0, x.end.0, x.triples, x.area, x.points, x.checkpoint, x.lost, x.begin.0)
    (y.number, y.first.0, y.end.0, y.triples, y.area, y.points, y.checkpoint, y.lost, y.begin.0) = cc in
    same_made {A = ℕ × ℕ × ℕ × ℕ × ℕ × Points × ℕ × LostRanges × ℕ} {P = λ p. (p.0 < 2 ^ 64) × (p.1 < 2 ^ 64) × (p.2 < 2 ^ 64) × (p.3 < 2 ^ 64) × (p.4 < 2 ^ 64) × (p.6 < 2 ^ 64) × (p.8 < 2 ^ 64)}
    (λ p h. record {
      number = p.0;
      first = record { 0 = p.1 };
      end = record { 0 = p.2 };
      triples = p.3;
      area = p.4;
      points = p.5;
      checkpoint = p.6;
      lost = p.7;
      begin = record { 0 = p.8 };
      number_fits = h.0;
      first_fits = h.1;
      end_fits = h.2;
      triples_fit = h.3;
      area_fits = h.4;
      checkpoint_fits = h.5;
      begin_fits = h.6;
    })
    (λ p. hlevel le_prop)
    (x.number, x.first.0, x.end.0, x.triples, x.area, x.points, x.checkpoint, x.lost, x.begin.0) (y.number, y.first.0, y.end.0, y.triples, y.area, y.points, y.checkpoint, y.lost, y.begin.0)
    (x.number_fits, x.first_fits, x.end_fits, x.triples_fit, x.area_fits, x.checkpoint_fits, x.begin_fits) (y.number_fits, y.first_fits, y.end_fits, y.triples_fit, y.area_fits, y.checkpoint_fits, y.begin_fits) parts

-- the commit whose checkpoint the numbers name
abbrev pub checkpoint_at : Format → List ℕ → ℕ
checkpoint_at f numbers = checkpoint_of f (get_or numbers 1 0) (get_or numbers (7 + point_places f) 0)

checkpoint_told : (f : Format) (x : ManifestSlot) (numbers : List ℕ) → Tells f x numbers → x.checkpoint ≡ checkpoint_at f numbers
checkpoint_told First x numbers t = own_checkpoint x t.held ∙ t.number
checkpoint_told Second x numbers t = t.named
checkpoint_told Third x numbers t = t.named
checkpoint_told Fourth x numbers t = t.named

-- where they say that the log begins
abbrev pub begin_at : Format → List ℕ → ℕ
begin_at f numbers = begin_of f (get_or numbers 57 0)

begin_told : (f : Format) (x : ManifestSlot) (numbers : List ℕ) → Tells f x numbers → x.begin.0 ≡ begin_at f numbers
begin_told First x numbers t = first_begin x t.held
begin_told Second x numbers t = second_begin x t.held
begin_told Third x numbers t = third_begin x t.held
begin_told Fourth x numbers t = t.begin

-- a slot of the parts that the numbers tell
pub record HasParts (f : Format) (y : ManifestSlot) (numbers : List ℕ) : Type 0 where
  pub number : y.number ≡ get_or numbers 1 0
  pub first : y.first.0 ≡ get_or numbers 2 0
  pub end : y.end.0 ≡ get_or numbers 3 0
  pub triples : y.triples ≡ get_or numbers 4 0
  pub area : y.area ≡ get_or numbers 5 0
  pub points : points_in (point_places f) y.points ≡ get_or numbers 6 0 ∷ places_at f numbers
  pub checkpoint : y.checkpoint ≡ checkpoint_at f numbers
  pub lost : ranges_in (48 - point_places f) y.lost ≡ get_or numbers (8 + point_places f) 0 ∷ ranges_at f numbers
  pub begin : y.begin.0 ≡ begin_at f numbers

-- is the only one that they can tell
pub only_one : (f : Format) (x y : ManifestSlot) (numbers : List ℕ) → Tells f x numbers → HasParts f y numbers → x ≡ y
only_one f x y numbers t h =
    manifest_same x y (t.number ∙ sym h.number) (t.first ∙ sym h.first) (t.end ∙ sym h.end) (t.triples ∙ sym h.triples) (t.area ∙ sym h.area)
    (points_in_apart (point_places f) x.points y.points (t.points ∙ sym h.points)) (checkpoint_told f x numbers t ∙ sym h.checkpoint)
    (ranges_in_apart (48 - point_places f) x.lost y.lost (t.lost ∙ sym h.lost)) (begin_told f x numbers t ∙ sym h.begin)

pub parts_told : (f : Format) (x : ManifestSlot) (numbers : List ℕ) → Tells f x numbers → HasParts f x numbers
parts_told f x numbers t = record {
  number = t.number;
  first = t.first;
  end = t.end;
  triples = t.triples;
  area = t.area;
  points = t.points;
  checkpoint = checkpoint_told f x numbers t;
  lost = t.lost;
  begin = begin_told f x numbers t;
}

-- no two formats have one number
pub format_apart : (f g : Format) → format_number f ≡ format_number g → f ≡ g
format_apart First First e = refl
format_apart First Second e = absurd (omega arith)
format_apart First Third e = absurd (omega arith)
format_apart First Fourth e = absurd (omega arith)
format_apart Second First e = absurd (omega arith)
format_apart Second Second e = refl
format_apart Second Third e = absurd (omega arith)
format_apart Second Fourth e = absurd (omega arith)
format_apart Third First e = absurd (omega arith)
format_apart Third Second e = absurd (omega arith)
format_apart Third Third e = refl
format_apart Third Fourth e = absurd (omega arith)
format_apart Fourth First e = absurd (omega arith)
format_apart Fourth Second e = absurd (omega arith)
format_apart Fourth Third e = absurd (omega arith)
format_apart Fourth Fourth e = refl

-- a value that stands there only where a test holds
pub there : (b : Bool) (l n : List ℕ) → ◌≡◌ {A = Option (List ℕ)} (if b then Some l else None) (Some n) → (b ≡ true) × (l ≡ n)
there true l n e = let same : l ≡ n = cc in (refl, same)
there false l n e = let never : ⊥ = cc in absurd never

-- what a format can hold, and its numbers
pub numbers_held : (p : Format × ManifestSlot) (numbers : List ℕ) → manifest_numbers p ≡ Some numbers → (is_held p.0 p.1 ≡ true) × (layout p.0 p.1 ≡ numbers)
unfolding manifest_numbers
numbers_held p numbers e = there (is_held p.0 p.1) (layout p.0 p.1) numbers e

pub held_numbers : (p : Format × ManifestSlot) (numbers : List ℕ) → is_held p.0 p.1 ≡ true → layout p.0 p.1 ≡ numbers → manifest_numbers p ≡ Some numbers
unfolding manifest_numbers
held_numbers p numbers held e = rw (held, e) refl

pub spelled_tells : (p : Format × ManifestSlot) (numbers : List ℕ) → length numbers ≡ 64 → manifest_numbers p ≡ Some numbers → Tells p.0 p.1 numbers
spelled_tells p numbers len e =
    let held = numbers_held p numbers e in
    telling p.0 p.1 numbers len held.0 held.1

-- who tells the same numbers is the same slot, in the same format
same_told : (f g : Format) (x y : ManifestSlot) (numbers : List ℕ) → Tells f x numbers → Tells g y numbers → ◌≡◌ {A = Format × ManifestSlot} (f, x) (g, y)
same_told f g x y numbers t u =
    let format : g ≡ f = format_apart g f (u.format ∙ sym t.format) in
    let mine : Tells f y numbers = subst (λ (h : Format). Tells h y numbers) format u in
    let slot : x ≡ y = only_one f x y numbers t (parts_told f y numbers mine) in
    cc

pub read_some : (f : Format) (y : ManifestSlot) (numbers : List ℕ) → length numbers ≡ 64 → Tells f y numbers → Reads manifest_numbers (Some numbers) (Some (f, y))
read_some f y numbers len t p = (
  λ s.
      let same : ◌≡◌ {A = Format × ManifestSlot} (f, y) p = cc in
      subst (λ (q : Format × ManifestSlot). manifest_numbers q ≡ Some numbers) same (held_numbers (f, y) numbers t.held (told f y numbers len t)),
  λ e. ap Some (same_told f p.0 y p.1 numbers t (spelled_tells p numbers len e)),
)

pub read_none : (numbers : List ℕ) → length numbers ≡ 64 → ((f : Format) (x : ManifestSlot) → Tells f x numbers → ⊥) → Reads manifest_numbers (Some numbers) None
read_none numbers len none p =
    (λ s. let never : ⊥ = cc in absurd never, λ e. absurd (none p.0 p.1 (spelled_tells p numbers len e)))

-- what was read in the places that the code counts
pub points_given : (f : Format) (r : ℕ) (numbers : List ℕ) (found : Option Points) → length numbers ≡ 64 → r ≡ point_places f
    → Reads (points_in (length (take (7 + r - 7) (drop 7 numbers)))) (get_or numbers 6 0 ∷ take (7 + r - 7) (drop 7 numbers)) found → Reads (points_in (point_places f)) (get_or numbers 6 0 ∷ places_at f numbers) found
points_given f r numbers found len e reads =
    let many : 7 + r - 7 ≡ point_places f = omega (arith, e) in
    let here = subst (λ (k : ℕ). Reads (points_in (length (take k (drop 7 numbers)))) (get_or numbers 6 0 ∷ take k (drop 7 numbers)) found) many reads in
    subst (λ (n : ℕ). Reads (points_in n) (get_or numbers 6 0 ∷ places_at f numbers) found) (length-places_at f numbers len) here

pub lost_given : (f : Format) (r : ℕ) (numbers : List ℕ) (found : Option LostRanges) → length numbers ≡ 64 → r ≡ point_places f
    → Reads (ranges_in (length (take (57 - (7 + r + 2)) (drop (7 + r + 2) numbers)))) (get_or numbers (7 + r + 1) 0 ∷ take (57 - (7 + r + 2)) (drop (7 + r + 2) numbers)) found
    → Reads (ranges_in (48 - point_places f)) (get_or numbers (8 + point_places f) 0 ∷ ranges_at f numbers) found
lost_given f r numbers found len e reads =
    let within = places_within f in
    let at : 7 + r + 2 ≡ 9 + point_places f = omega (arith, e) in
    let count : 7 + r + 1 ≡ 8 + point_places f = omega (arith, e) in
    let many : 57 - (7 + r + 2) ≡ 48 - point_places f = omega (arith, e, within) in
    let one = subst (λ (k : ℕ). Reads (ranges_in (length (take k (drop (7 + r + 2) numbers)))) (get_or numbers (7 + r + 1) 0 ∷ take k (drop (7 + r + 2) numbers)) found) many reads in
    let two = subst (λ (k : ℕ). Reads (ranges_in (length (take (48 - point_places f) (drop k numbers)))) (get_or numbers (7 + r + 1) 0 ∷ take (48 - point_places f) (drop k numbers)) found) at one in
    let three = subst (λ (k : ℕ). Reads (ranges_in (length (ranges_at f numbers))) (get_or numbers k 0 ∷ ranges_at f numbers) found) count two in
    subst (λ (n : ℕ). Reads (ranges_in n) (get_or numbers (8 + point_places f) 0 ∷ ranges_at f numbers) found) (length-ranges_at f numbers len) three

-- a slot that the format can't hold, or whose checkpoint or begin isn't the one that stands there, is not told
pub not_held : (f : Format) (y : ManifestSlot) (numbers : List ℕ) → is_held f y ≡ false → HasParts f y numbers → (x : ManifestSlot) → Tells f x numbers → ⊥
not_held f y numbers other h x t =
    let same : x ≡ y = only_one f x y numbers t h in
    let held : is_held f y ≡ true = subst (λ (z : ManifestSlot). is_held f z ≡ true) same t.held in
    let never : ⊥ = cc in
    never

pub not_named : (f : Format) (y : ManifestSlot) (numbers : List ℕ) → named_checkpoint f y ≢ get_or numbers (7 + point_places f) 0 → HasParts f y numbers → (x : ManifestSlot) → Tells f x numbers → ⊥
not_named f y numbers other h x t =
    let same : x ≡ y = only_one f x y numbers t h in
    other (subst (λ (z : ManifestSlot). named_checkpoint f z ≡ get_or numbers (7 + point_places f) 0) same t.named)

pub not_begun : (f : Format) (y : ManifestSlot) (numbers : List ℕ) → named_begin f y ≢ get_or numbers 57 0 → HasParts f y numbers → (x : ManifestSlot) → Tells f x numbers → ⊥
not_begun f y numbers other h x t =
    let same : x ≡ y = only_one f x y numbers t h in
    other (subst (λ (z : ManifestSlot). named_begin f z ≡ get_or numbers 57 0) same t.begin)
