-- Points and their numbers.
use Rattle.std.proofs.Common.{◌≡◌, ℕ, zero, suc, ◌+◌, ◌-◌, ◌<◌, ◌≤◌, List, [], ◌∷◌, ◌++◌, length, All, take, drop, replicate, get_or, set, Some, refl, sym, ap, ◌∙◌, arith}
use Rattle.std.proofs.Math.Bridge.{le_prop}
use Rattle.std.proofs.lemmas.List.{take_at, drop_at, take-append-drop, length-append, length-replicate, length-map, length-take-le, append_assoc, map-append}
use Rattle.std.proofs.Math.Seq.{take-suc, set-append_seam}
use Rattle.fkv_base.specs.declared.numbers.Serial.{Serial}
use Rattle.fkv_base.specs.Limits.{max_sessions, last_serial}
use Rattle.fkv_words.specs.Fields.{Reads, SpellsApart}
use Rattle.fkv_words.proofs.Shown.{same_made, reads_made}
use Rattle.fkv_record.specs.declared.points.Points.{Points}
use Rattle.fkv_record.specs.Layout.{point_numbers}
use Rattle.fkv_record.specs.Numbers.{padded}
use Rattle.fkv_record.specs.Points.{serial_numbers}
use Rattle.fkv_record.proofs.Spelling.{AreWords, words_append}

-- how many points there are, the points, and zeros
pub point_parts : (x : Points) → point_numbers x ≡ length x.serials.items ∷ (serial_numbers x.serials.items ++ replicate (57 - length x.serials.items) 0)
unfolding point_numbers
point_parts x =
    let left : 58 - suc (length (serial_numbers x.serials.items)) ≡ 57 - length x.serials.items = omega (arith, length-map {A = Serial} {B = ℕ} x.serials.items (λ s. s.0)) in
    ap (λ (n : ℕ). length x.serials.items ∷ (serial_numbers x.serials.items ++ replicate n 0)) left

-- the places that these points fill
pub record Fills (x : Points) (sessions : ℕ) (places : List ℕ) : Type 0 where
  pub count : length x.serials.items ≡ sessions
  pub used : take sessions places ≡ serial_numbers x.serials.items
  pub unused : drop sessions places ≡ replicate (57 - sessions) 0

fills : (x : Points) (sessions : ℕ) (places : List ℕ) → point_numbers x ≡ sessions ∷ places → Fills x sessions places
fills x sessions places e =
    let parts = point_parts x in
    let count : length x.serials.items ≡ sessions = cc in
    let is : places ≡ serial_numbers x.serials.items ++ replicate (57 - length x.serials.items) 0 = cc in
    let len : length (serial_numbers x.serials.items) ≡ sessions = omega (arith, length-map {A = Serial} {B = ℕ} x.serials.items (λ s. s.0)) in
    record {
      count = count;
      used = rw is (take_at (serial_numbers x.serials.items) (replicate (57 - length x.serials.items) 0) sessions len);
      unused = rw is (drop_at (serial_numbers x.serials.items) (replicate (57 - length x.serials.items) 0) sessions len ∙ ap (λ (n : ℕ). replicate (57 - n) 0) count);
    }

filled : (x : Points) (sessions : ℕ) (places : List ℕ) → Fills x sessions places → point_numbers x ≡ sessions ∷ places
filled x sessions places f =
    let parts = point_parts x in
    let count = f.count in
    let whole : serial_numbers x.serials.items ++ replicate (57 - length x.serials.items) 0 ≡ places = rw (count, ← f.used, ← f.unused) (take-append-drop sessions places) in
    cc

pub serials_apart : (xs ys : List Serial) → serial_numbers xs ≡ serial_numbers ys → xs ≡ ys
serials_apart [] [] e = refl
serials_apart [] (y ∷ ys) e = let never : ⊥ = cc in absurd never
serials_apart (x ∷ xs) [] e = let never : ⊥ = cc in absurd never
serials_apart (x ∷ xs) (y ∷ ys) e =
    let number : x.0 ≡ y.0 = cc in
    let first : x ≡ y = ap (λ (n : ℕ). record { 0 = n }) number in
    let tails : serial_numbers xs ≡ serial_numbers ys = cc in
    let others = serials_apart xs ys tails in
    cc

pub points_same : (x y : Points) → x.serials.items ≡ y.serials.items → x ≡ y
points_same x y e =
    same_made {A = List Serial} {P = λ p. (0 < length p) × (length p ≤ max_sessions) × All (λ s. s.0 ≤ last_serial) p}
    (λ p h. record { serials = record { items = p }; some_session = h.0; few_sessions = h.1; serials_fit = h.2 })
    (λ p. hlevel le_prop) x.serials.items y.serials.items
    (x.some_session, x.few_sessions, x.serials_fit) (y.some_session, y.few_sessions, y.serials_fit) e

pub points_apart : SpellsApart point_numbers
points_apart x y e =
    let mine = fills x (length y.serials.items) (serial_numbers y.serials.items ++ replicate (57 - length y.serials.items) 0) (e ∙ point_parts y) in
    let theirs = fills y (length y.serials.items) (serial_numbers y.serials.items ++ replicate (57 - length y.serials.items) 0) (point_parts y) in
    points_same x y (serials_apart x.serials.items y.serials.items (sym mine.used ∙ theirs.used))

pub points_read : (x : Points) (sessions : ℕ) (places : List ℕ) → Fills x sessions places → Reads point_numbers (sessions ∷ places) (Some x)
points_read x sessions places f = reads_made point_numbers points_apart x (sessions ∷ places) (filled x sessions places f)

-- the numbers of serials that fit do
pub numbers_fit : (xs : List Serial) → All (λ s. s.0 ≤ last_serial) xs → All (λ n. n ≤ last_serial) (serial_numbers xs)
numbers_fit [] fits k d lt = absurd (omega arith)
numbers_fit (x ∷ xs) fits zero d lt = fits zero (record { 0 = d }) (omega arith)
numbers_fit (x ∷ xs) fits (suc k) d lt = numbers_fit xs (λ j e j-lt. fits (suc j) e (omega arith)) k d (omega arith)

pub serial_words : (xs : List Serial) → All (λ s. s.0 ≤ last_serial) xs → AreWords (serial_numbers xs)
serial_words [] fits = tt
serial_words (x ∷ xs) fits =
    let first : x.0 ≤ last_serial = fits zero x (omega arith) in
    (omega arith, serial_words xs (λ j e j-lt. fits (suc j) e (omega arith)))

pub zero_words : (n : ℕ) → AreWords (replicate n 0)
zero_words zero = tt
zero_words (suc n) = (omega arith, zero_words n)

pub point_words : (x : Points) → AreWords (point_numbers x)
point_words x =
    let few = x.few_sessions in
    rw (point_parts x) (omega arith, words_append (serial_numbers x.serials.items) (replicate (57 - length x.serials.items) 0) (serial_words x.serials.items x.serials_fit) (zero_words (57 - length x.serials.items)))

pub length-point_numbers : (x : Points) → length (point_numbers x) ≡ 58
length-point_numbers x =
    let few = x.few_sessions in
    omega (arith, ap length (point_parts x), length-append (serial_numbers x.serials.items) (replicate (57 - length x.serials.items) 0), length-replicate {A = ℕ} (57 - length x.serials.items) 0, length-map {A = Serial} {B = ℕ} x.serials.items (λ s. s.0))

-- one point more, over a zero
pub one_more_point : (xs : List Serial) (i n : ℕ) (d : Serial) → i < length xs → length xs ≤ 57 → set (padded 58 (n ∷ serial_numbers (take i xs))) (i + 1) (get_or xs i d).0 ≡ padded 58 (n ∷ serial_numbers (take (i + 1) xs))
one_more_point xs i n d here few =
    let before : List ℕ = n ∷ serial_numbers (take i xs) in
    let many : length before ≡ i + 1 = omega (arith, here, length-map {A = Serial} {B = ℕ} (take i xs) (λ s. s.0), length-take-le i xs (omega (arith, here))) in
    let more : serial_numbers (take (i + 1) xs) ≡ serial_numbers (take i xs) ++ (get_or xs i d).0 ∷ [] =
    ap (λ (k : ℕ). serial_numbers (take k xs)) (let e : i + 1 ≡ suc i = omega arith in e)
    ∙ ap (λ (l : List Serial). serial_numbers l) (take-suc xs i d here)
    ∙ map-append {A = Serial} {B = ℕ} (λ s. s.0) (take i xs) (get_or xs i d ∷ []) in
    let rest : ℕ = 56 - i in
    let left : 58 - length before ≡ suc rest = omega (arith, many, here, few) in
    let right : 58 - length (n ∷ serial_numbers (take (i + 1) xs)) ≡ rest = omega (arith, ap length more, length-append (serial_numbers (take i xs)) ((get_or xs i d).0 ∷ []), many, here, few) in
    ap (λ (k : ℕ). set (before ++ replicate k 0) (i + 1) (get_or xs i d).0) left
    ∙ ap (λ (k : ℕ). set (before ++ 0 ∷ replicate rest 0) k (get_or xs i d).0) (sym many)
    ∙ set-append_seam before 0 (replicate rest 0) (get_or xs i d).0
    ∙ sym (append_assoc before ((get_or xs i d).0 ∷ []) (replicate rest 0))
    ∙ ap (λ (l : List ℕ). (n ∷ l) ++ replicate rest 0) (sym more)
    ∙ ap (λ (k : ℕ). (n ∷ serial_numbers (take (i + 1) xs)) ++ replicate k 0) (sym right)
