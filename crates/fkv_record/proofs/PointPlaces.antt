-- Points in any number of places.
use Rattle.std.proofs.Common.{◌≡◌, ℕ, ◌-◌, ◌≤◌, List, ◌∷◌, ◌++◌, length, take, drop, replicate, Some, None, Option, sym, ap, ◌∙◌, arith}
use Rattle.std.proofs.lemmas.List.{take_at, drop_at, take-append-drop, length-map, length-take}
use Rattle.fkv_base.specs.declared.numbers.Serial.{Serial}
use Rattle.fkv_words.specs.Fields.{Reads, SpellsApart}
use Rattle.fkv_words.proofs.Shown.{reads_made}
use Rattle.fkv_record.specs.declared.points.Points.{Points}
use Rattle.fkv_record.specs.Layout.{point_numbers}
use Rattle.fkv_record.specs.Points.{serial_numbers}
use Rattle.fkv_record.specs.Sections.{points_in}
use Rattle.fkv_record.proofs.PointApart.{serials_apart, points_same, point_parts}

length-serial_numbers : (x : Points) → length (serial_numbers x.serials.items) ≡ length x.serials.items
length-serial_numbers x = length-map {A = Serial} {B = ℕ} x.serials.items (λ s. s.0)

-- the places that these points fill
pub record Stands (n : ℕ) (x : Points) (sessions : ℕ) (places : List ℕ) : Type 0 where
  pub count : length x.serials.items ≡ sessions
  pub used : take sessions places ≡ serial_numbers x.serials.items
  pub unused : drop sessions places ≡ replicate (n - sessions) 0

pub stands : (n : ℕ) (x : Points) (sessions : ℕ) (places : List ℕ) → points_in n x ≡ sessions ∷ places → Stands n x sessions places
stands n x sessions places e =
    let count : length x.serials.items ≡ sessions = cc in
    let len = length-serial_numbers x in
    let is : places ≡ serial_numbers x.serials.items ++ replicate (n - length (serial_numbers x.serials.items)) 0 = cc in
    let here : length (serial_numbers x.serials.items) ≡ sessions = len ∙ count in
    record {
      count = count;
      used = rw is (take_at (serial_numbers x.serials.items) (replicate (n - length (serial_numbers x.serials.items)) 0) sessions here);
      unused = rw is (drop_at (serial_numbers x.serials.items) (replicate (n - length (serial_numbers x.serials.items)) 0) sessions here ∙ ap (λ (k : ℕ). replicate (n - k) 0) here);
    }

standing : (n : ℕ) (x : Points) (sessions : ℕ) (places : List ℕ) → Stands n x sessions places → points_in n x ≡ sessions ∷ places
standing n x sessions places f =
    let count = f.count in
    let whole : serial_numbers x.serials.items ++ replicate (n - length (serial_numbers x.serials.items)) 0 ≡ places = rw (length-serial_numbers x, count, ← f.used, ← f.unused) (take-append-drop sessions places) in
    cc

pub points_in_apart : (n : ℕ) → SpellsApart (points_in n)
points_in_apart n x y e =
    let mine = stands n x _ _ e in
    let theirs = stands n y (length y.serials.items) _ (λ i. points_in n y) in
    points_same x y (serials_apart x.serials.items y.serials.items (sym mine.used ∙ theirs.used))

pub points_read_in : (n : ℕ) (x : Points) (sessions : ℕ) (places : List ℕ) → Stands n x sessions places → Reads (points_in n) (sessions ∷ places) (Some x)
points_read_in n x sessions places f = reads_made (points_in n) (points_in_apart n) x (sessions ∷ places) (standing n x sessions places f)

pub points_none_in : (n sessions : ℕ) (places : List ℕ) → ((x : Points) → Stands n x sessions places → ⊥) → Reads (points_in n) (sessions ∷ places) None
points_none_in n sessions places none x =
    (λ s. let never : ⊥ = cc in absurd never, λ e. absurd (none x (stands n x sessions places e)))

-- behind a slot of the first layout there are 57 places
pub points_first : (sessions : ℕ) (places : List ℕ) (found : Option Points) → length places ≡ 57 → Reads (points_in (length places)) (sessions ∷ places) found → Reads point_numbers (sessions ∷ places) found
points_first sessions places found len reads x =
    let same : point_numbers x ≡ points_in (length places) x = point_parts x ∙ ap (λ (k : ℕ). length x.serials.items ∷ (serial_numbers x.serials.items ++ replicate k 0)) (omega (arith, len, length-serial_numbers x)) in
    (λ s. same ∙ (reads x).0 s, λ e. (reads x).1 (sym same ∙ e))

-- they stand within the places
pub stands_within : (x : Points) (sessions : ℕ) (places : List ℕ) → Stands (length places) x sessions places → sessions ≤ length places
stands_within x sessions places f =
    omega (arith, f.count, length-serial_numbers x, ap length f.used, length-take {A = ℕ} sessions places)
