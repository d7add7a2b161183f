-- The numbers of a manifest slot, part by part, alike in every format.
use Rattle.std.proofs.Common.{◌≡◌, ℕ, ◌+◌, ◌-◌, ◌≤◌, List, [], ◌∷◌, ◌++◌, length, replicate, Bool, true, false, refl, sym, ap, ◌∙◌, arith}
use Rattle.std.specs.Prelude.{◌==◌, if◌then◌else◌}
use Rattle.std.proofs.lemmas.List.{append_assoc, length-append, length-replicate, length-map, nil_from_length, replicate-append-replicate}
use Rattle.std.proofs.lemmas.Bool.Decides.{nat_tests}
use Rattle.fkv_base.specs.declared.numbers.Serial.{Serial}
use Rattle.fkv_record.specs.declared.formats.Format.{Format}
use Rattle.fkv_record.specs.declared.formats.Format.TheVariants.{First, Second, Third, Fourth}
use Rattle.fkv_record.specs.declared.lost_ranges.LostRange.{LostRange}
use Rattle.fkv_record.specs.declared.manifest_slots.ManifestSlot.{ManifestSlot}
use Rattle.fkv_record.specs.Formats.{format_number, point_places}
use Rattle.fkv_record.specs.Manifest.{range_numbers, is_held, layout, first_numbers, second_numbers, third_numbers, fourth_numbers, named_checkpoint, named_begin, front_numbers, lost_numbers, newest_format, newest_numbers, said_in}
use Rattle.fkv_record.specs.Numbers.{padded}
use Rattle.fkv_record.specs.Points.{serial_numbers}
use Rattle.fkv_record.proofs.RangePlaces.{length-range_numbers}

-- padding begins behind the first numbers
padded_behind : (xs ys : List ℕ) (n m : ℕ) → length xs ≡ n → padded (n + m) (xs ++ ys) ≡ xs ++ padded m ys
padded_behind xs ys n m len =
    let left : n + m - length (xs ++ ys) ≡ m - length ys = omega (arith, length-append xs ys) in
    ap (λ (k : ℕ). (xs ++ ys) ++ replicate k 0) left ∙ append_assoc xs ys (replicate (m - length ys) 0)

pub length-padded : (n : ℕ) (xs : List ℕ) → length xs ≤ n → length (padded n xs) ≡ n
length-padded n xs le = omega (arith, length-append xs (replicate (n - length xs) 0), length-replicate {A = ℕ} (n - length xs) 0)

-- the seven numbers before the points
abbrev pub head_numbers : ManifestSlot → List ℕ
head_numbers x = 165 ∷ x.number ∷ x.first.0 ∷ x.end.0 ∷ x.triples ∷ x.area ∷ length x.points.serials.items ∷ []

-- what stands behind the places of the points
abbrev pub tail_numbers : Format → ManifestSlot → List ℕ
tail_numbers f x = named_checkpoint f x ∷ length x.lost.ranges.items ∷ (padded (48 - point_places f) (range_numbers x.lost.ranges.items) ++ named_begin f x ∷ 0 ∷ 0 ∷ 0 ∷ 0 ∷ 0 ∷ format_number f ∷ [])

abbrev pub sections : Format → ManifestSlot → List ℕ
sections f x = head_numbers x ++ (padded (point_places f) (serial_numbers x.points.serials.items) ++ tail_numbers f x)

-- zeros behind a number of places are zeros behind fewer, and so many more
padded_more : (n m : ℕ) (xs : List ℕ) → length xs ≤ n → padded (n + m) xs ≡ padded n xs ++ replicate m 0
padded_more n m xs le =
    let left : n + m - length xs ≡ n - length xs + m = omega arith in
    rw (left, ← (replicate-append-replicate {A = ℕ} (n - length xs) m 0)) (sym (append_assoc xs (replicate (n - length xs) 0) (replicate m 0)))

-- a head of seven numbers, points in so many places, two numbers, and ranges in so many places
spread : (head points two ranges : List ℕ) (places left many : ℕ) → length head ≡ 7 → length points ≤ places → length two ≡ 2 → 9 + places + left ≡ many
    → padded many (padded (7 + places) (head ++ points) ++ (two ++ ranges)) ≡ (head ++ padded places points) ++ (two ++ padded left ranges)
spread head points two ranges places left many head-len fit two-len all =
    let front : padded (7 + places) (head ++ points) ≡ head ++ padded places points = padded_behind head points 7 places head-len in
    let front-len : length (head ++ padded places points) ≡ 7 + places = omega (arith, length-append head (padded places points), length-padded places points fit) in
    let behind : many ≡ 7 + places + (2 + left) = omega arith in
    ap (λ (l : List ℕ). padded many (l ++ (two ++ ranges))) front
    ∙ ap (λ (k : ℕ). padded k ((head ++ padded places points) ++ (two ++ ranges))) behind
    ∙ padded_behind (head ++ padded places points) (two ++ ranges) (7 + places) (2 + left) front-len
    ∙ ap (λ (l : List ℕ). (head ++ padded places points) ++ l) (padded_behind two ranges 2 left two-len)

-- and what follows them
followed : (head points two ranges rest : List ℕ) → ((head ++ points) ++ (two ++ ranges)) ++ rest ≡ head ++ (points ++ (two ++ (ranges ++ rest)))
followed head points two ranges rest =
    append_assoc (head ++ points) (two ++ ranges) rest
    ∙ append_assoc head points ((two ++ ranges) ++ rest)
    ∙ ap (λ (l : List ℕ). head ++ (points ++ l)) (append_assoc two ranges rest)

-- the layouts before the fourth: nothing stands between the ranges and the format
later : (head points two ranges : List ℕ) (places left format : ℕ) → length head ≡ 7 → length points ≤ places → length two ≡ 2 → length ranges ≤ left → places + left ≡ 48
    → padded 63 (padded (7 + places) (head ++ points) ++ (two ++ ranges)) ++ format ∷ [] ≡ head ++ (padded places points ++ (two ++ (padded left ranges ++ 0 ∷ 0 ∷ 0 ∷ 0 ∷ 0 ∷ 0 ∷ format ∷ [])))
later head points two ranges places left format head-len fit two-len ranges-fit all =
    ap (λ (l : List ℕ). l ++ format ∷ []) (spread head points two ranges places (left + 6) 63 head-len fit two-len (omega arith))
    ∙ followed head (padded places points) two (padded (left + 6) ranges) (format ∷ [])
    ∙ ap (λ (l : List ℕ). head ++ (padded places points ++ (two ++ (l ++ format ∷ [])))) (padded_more left 6 ranges ranges-fit)
    ∙ ap (λ (l : List ℕ). head ++ (padded places points ++ (two ++ l))) (append_assoc (padded left ranges) (replicate 6 0) (format ∷ []))

-- the fourth: the begin stands between them
latest : (head points two ranges : List ℕ) (places left begin format : ℕ) → length head ≡ 7 → length points ≤ places → length two ≡ 2 → length ranges ≤ left → places + left ≡ 48
    → padded 63 (padded 57 (padded (7 + places) (head ++ points) ++ (two ++ ranges)) ++ begin ∷ []) ++ format ∷ []
    ≡ head ++ (padded places points ++ (two ++ (padded left ranges ++ begin ∷ 0 ∷ 0 ∷ 0 ∷ 0 ∷ 0 ∷ format ∷ [])))
latest head points two ranges places left begin format head-len fit two-len ranges-fit all =
    let parts : List ℕ = (head ++ padded places points) ++ (two ++ padded left ranges) in
    let one = length-append (head ++ padded places points) (two ++ padded left ranges) in
    let many : length parts ≡ 57 = omega (arith, one, length-append head (padded places points), length-padded places points fit, length-append two (padded left ranges), length-padded left ranges ranges-fit) in
    ap (λ (l : List ℕ). padded 63 (l ++ begin ∷ []) ++ format ∷ []) (spread head points two ranges places left 57 head-len fit two-len (omega arith))
    ∙ ap (λ (l : List ℕ). l ++ format ∷ []) (padded_behind parts (begin ∷ []) 57 6 many)
    ∙ append_assoc parts (padded 6 (begin ∷ [])) (format ∷ [])
    ∙ followed head (padded places points) two (padded left ranges) (begin ∷ 0 ∷ 0 ∷ 0 ∷ 0 ∷ 0 ∷ format ∷ [])

-- the slot has no more points than there are places
pub points_fit : (f : Format) (x : ManifestSlot) → is_held f x ≡ true → length (serial_numbers x.points.serials.items) ≤ point_places f
points_fit First x held = let len = length-map {A = Serial} {B = ℕ} x.points.serials.items (λ s. s.0) in grind (arith, nat_tests, len, held)
points_fit Second x held = let len = length-map {A = Serial} {B = ℕ} x.points.serials.items (λ s. s.0) in grind (arith, nat_tests, len, held)
points_fit Third x held = let few = x.points.few_sessions in omega (arith, length-map {A = Serial} {B = ℕ} x.points.serials.items (λ s. s.0))
points_fit Fourth x held = let few = x.points.few_sessions in omega (arith, length-map {A = Serial} {B = ℕ} x.points.serials.items (λ s. s.0))

-- nor more lost ranges
pub ranges_fit : (f : Format) (x : ManifestSlot) → length (range_numbers x.lost.ranges.items) ≤ 48 - point_places f
ranges_fit First x = let few = x.lost.few_ranges in omega (arith, length-range_numbers x.lost.ranges.items)
ranges_fit Second x = let few = x.lost.few_ranges in omega (arith, length-range_numbers x.lost.ranges.items)
ranges_fit Third x = let few = x.lost.few_ranges in omega (arith, length-range_numbers x.lost.ranges.items)
ranges_fit Fourth x = let few = x.lost.few_ranges in omega (arith, length-range_numbers x.lost.ranges.items)

no_ranges : (x : ManifestSlot) → is_held First x ≡ true → x.lost.ranges.items ≡ []
no_ranges x held = nil_from_length x.lost.ranges.items (grind (arith, nat_tests, held))

-- in the first three formats the log begins at its first record
pub first_begin : (x : ManifestSlot) → is_held First x ≡ true → x.begin.0 ≡ 1
first_begin x held = grind (arith, nat_tests, held)

pub second_begin : (x : ManifestSlot) → is_held Second x ≡ true → x.begin.0 ≡ 1
second_begin x held = grind (arith, nat_tests, held)

pub third_begin : (x : ManifestSlot) → is_held Third x ≡ true → x.begin.0 ≡ 1
third_begin x held = grind (arith, nat_tests, held)

pub own_checkpoint : (x : ManifestSlot) → is_held First x ≡ true → x.checkpoint ≡ x.number
own_checkpoint x held = grind (arith, nat_tests, held)

first_sections : (x : ManifestSlot) → is_held First x ≡ true → first_numbers x ≡ sections First x
unfolding first_numbers
first_sections x held =
    let points = serial_numbers x.points.serials.items in
    padded_behind (head_numbers x) points 7 57 refl
    ∙ ap (λ (l : List ℕ). head_numbers x ++ l) (padded_more 8 49 points (points_fit First x held))
    ∙ ap (λ (l : List LostRange). head_numbers x ++ (padded 8 points ++ 0 ∷ length l ∷ (padded 40 (range_numbers l) ++ 0 ∷ 0 ∷ 0 ∷ 0 ∷ 0 ∷ 0 ∷ 0 ∷ []))) (sym (no_ranges x held))

second_sections : (x : ManifestSlot) → is_held Second x ≡ true → second_numbers x ≡ sections Second x
unfolding second_numbers
second_sections x held =
    later (head_numbers x) (serial_numbers x.points.serials.items) (x.checkpoint ∷ length x.lost.ranges.items ∷ []) (range_numbers x.lost.ranges.items) 8 40 2
    refl (points_fit Second x held) refl (ranges_fit Second x) refl

third_sections : (x : ManifestSlot) → is_held Third x ≡ true → third_numbers x ≡ sections Third x
unfolding third_numbers
third_sections x held =
    later (head_numbers x) (serial_numbers x.points.serials.items) (x.checkpoint ∷ length x.lost.ranges.items ∷ []) (range_numbers x.lost.ranges.items) 32 16 3
    refl (points_fit Third x held) refl (ranges_fit Third x) refl

fourth_sections : (x : ManifestSlot) → fourth_numbers x ≡ sections Fourth x
unfolding fourth_numbers
fourth_sections x =
    latest (head_numbers x) (serial_numbers x.points.serials.items) (x.checkpoint ∷ length x.lost.ranges.items ∷ []) (range_numbers x.lost.ranges.items) 32 16 x.begin.0 4
    refl (points_fit Fourth x refl) refl (ranges_fit Fourth x) refl

-- what a format can hold has these parts in it
pub sectioned : (f : Format) (x : ManifestSlot) → is_held f x ≡ true → layout f x ≡ sections f x
sectioned First x held = first_sections x held
sectioned Second x held = second_sections x held
sectioned Third x held = third_sections x held
sectioned Fourth x held = fourth_sections x

-- the numbers before the begin, as they are put together
abbrev pub built : Format → ManifestSlot → List ℕ
built f x = ((padded (7 + point_places f) (front_numbers x) ++ named_checkpoint f x ∷ []) ++ length x.lost.ranges.items ∷ []) ++ range_numbers x.lost.ranges.items

pub places_within : (f : Format) → point_places f ≤ 48
places_within First = omega arith
places_within Second = omega arith
places_within Third = omega arith
places_within Fourth = omega arith

built_parts : (f : Format) (x : ManifestSlot) → built f x ≡ padded (7 + point_places f) (head_numbers x ++ serial_numbers x.points.serials.items) ++ ((named_checkpoint f x ∷ length x.lost.ranges.items ∷ []) ++ range_numbers x.lost.ranges.items)
built_parts f x =
    let points = padded (7 + point_places f) (front_numbers x) in
    ap (λ (l : List ℕ). l ++ range_numbers x.lost.ranges.items) (append_assoc points (named_checkpoint f x ∷ []) (length x.lost.ranges.items ∷ []))
    ∙ append_assoc points (named_checkpoint f x ∷ length x.lost.ranges.items ∷ []) (range_numbers x.lost.ranges.items)

pub length-front : (f : Format) (x : ManifestSlot) → is_held f x ≡ true → length (front_numbers x) ≤ 7 + point_places f
length-front f x held = omega (arith, points_fit f x held)

pub length-built : (f : Format) (x : ManifestSlot) → is_held f x ≡ true → length (built f x) ≤ 57
length-built f x held =
    let points = padded (7 + point_places f) (front_numbers x) in
    let ranges = range_numbers x.lost.ranges.items in
    let points-len = length-padded (7 + point_places f) (front_numbers x) (length-front f x held) in
    let one = length-append points (named_checkpoint f x ∷ []) in
    let two = length-append (points ++ named_checkpoint f x ∷ []) (length x.lost.ranges.items ∷ []) in
    let all = length-append ((points ++ named_checkpoint f x ∷ []) ++ length x.lost.ranges.items ∷ []) ranges in
    omega (arith, points-len, one, two, all, ranges_fit f x, places_within f)

-- and with it
abbrev pub begun : Format → ManifestSlot → List ℕ
begun f x = padded 57 (built f x) ++ named_begin f x ∷ []

pub length-begun : (f : Format) (x : ManifestSlot) → is_held f x ≡ true → length (begun f x) ≡ 58
length-begun f x held = omega (arith, length-append (padded 57 (built f x)) (named_begin f x ∷ []), length-padded 57 (built f x) (length-built f x held))

-- with the last zeros and the format they are the layout
pub whole : (f : Format) (x : ManifestSlot) → is_held f x ≡ true → padded 63 (begun f x) ++ format_number f ∷ [] ≡ layout f x
whole f x held =
    ap (λ (l : List ℕ). padded 63 (padded 57 l ++ named_begin f x ∷ []) ++ format_number f ∷ []) (built_parts f x)
    ∙ latest (head_numbers x) (serial_numbers x.points.serials.items) (named_checkpoint f x ∷ length x.lost.ranges.items ∷ []) (range_numbers x.lost.ranges.items) (point_places f) (48 - point_places f) (named_begin f x) (format_number f)
    refl (points_fit f x held) refl (ranges_fit f x) (omega (arith, places_within f))
    ∙ sym (sectioned f x held)

-- a slot is written in the format that it has
pub newest_held : (x : ManifestSlot) → is_held (newest_format x) x ≡ true
newest_held x = by_begin (x.begin.0 == 1) refl
  where
    by_begin : (first : Bool) → (x.begin.0 == 1) ≡ first → is_held (if first then Third else Fourth) x ≡ true
    by_begin true is = is
    by_begin false is = refl

pub newest_whole : (x : ManifestSlot) → newest_numbers (said_in x) ≡ layout (newest_format x) x
newest_whole x = by_begin (x.begin.0 == 1) refl
  where
    by_begin : (first : Bool) → (x.begin.0 == 1) ≡ first
        → padded 63 (padded 57 (padded 39 (front_numbers x) ++ lost_numbers x) ++ (if first then 0 else x.begin.0) ∷ []) ++ (if first then 3 else 4) ∷ [] ≡ layout (if first then Third else Fourth) x
    by_begin true is = ap (λ (l : List ℕ). padded 63 (padded 57 l ++ 0 ∷ []) ++ 3 ∷ []) (sym (built_parts Third x)) ∙ whole Third x is
    by_begin false is = ap (λ (l : List ℕ). padded 63 (padded 57 l ++ x.begin.0 ∷ []) ++ 4 ∷ []) (sym (built_parts Fourth x)) ∙ whole Fourth x refl

-- and in the third where its log begins at the first record
pub third_format : (x : ManifestSlot) → x.begin.0 ≡ 1 → newest_format x ≡ Third
third_format x first = ap (λ (b : Bool). if b then Third else Fourth) (let is : (x.begin.0 == 1) ≡ true = grind (arith, nat_tests, first) in is)

pub length-layout : (f : Format) (x : ManifestSlot) → is_held f x ≡ true → length (layout f x) ≡ 64
length-layout f x held =
    let few : length (begun f x) ≤ 63 = omega (arith, length-begun f x held) in
    omega (arith, ap length (whole f x held), length-append (padded 63 (begun f x)) (format_number f ∷ []), length-padded 63 (begun f x) few)
