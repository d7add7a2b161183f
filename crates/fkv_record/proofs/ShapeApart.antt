-- Shapes and their bytes.
use Rattle.std.proofs.Common.{◌≡◌, ◌≢◌, ℕ, ◌≤◌, ◌<◌, ◌^◌, ◌++◌, List, ◌∷◌, length, get_or, None, Some, Result, Ok, Err, refl, sym, ap, ◌∙◌, arith, rules}
use Rattle.std.proofs.Math.Bridge.{le_prop}
use Rattle.std.proofs.Math.Bool.{Bool-set}
use Rattle.std.proofs.lemmas.Bool.Decides.{nat_tests}
use Rattle.std.specs.Prelude.{IsTrue, IsOk, IfOk}
use Rattle.std.specs.Result.{result_ok}
use Rattle.fkv_base.specs.declared.faults.Fault.{Fault}
use Rattle.std.specs.Int.{w64, from_le_bytes}
use Rattle.fkv_base.specs.declared.shapes.Shape.{Shape}
use Rattle.fkv_base.specs.declared.classes.StoreClass.{StoreClass}
use Rattle.fkv_base.specs.declared.classes.StoreClass.TheVariants.{Specified, Living}
use Rattle.fkv_base.specs.Limits.{IsShape, IsSmall, IsOfClass, is_ring_size, min_page, max_page, min_frames, max_frames}
use Rattle.fkv_words.specs.Fields.{Reads, SpellsApart}
use Rattle.fkv_words.proofs.Shown.{same_made, reads_made}
use Rattle.fkv_record.specs.Numbers.{spelled}
use Rattle.fkv_record.specs.Layout.{image_text, shape_text, size_numbers, shape_bytes}
use Rattle.fkv_record.proofs.Spelling.{AreWords, IsNumbered, numbered_apart, eight_numbers}

-- the text as one number, and the sizes
abbrev pub text_number : StoreClass → ℕ
text_number class = from_le_bytes w64 (image_text class)

abbrev pub shape_numbers : Shape → List ℕ
shape_numbers x = from_le_bytes w64 (shape_text x) ∷ size_numbers x

-- eight numbers as the sizes of a store of a class
abbrev are_sizes : List ℕ → Type 0
are_sizes numbers = IsShape (get_or numbers 1 0) (get_or numbers 2 0) (get_or numbers 3 0) (get_or numbers 4 0) (get_or numbers 5 0) (get_or numbers 6 0) (get_or numbers 7 0)

abbrev these_small : List ℕ → Type 0
these_small numbers = IsSmall (get_or numbers 1 0) (get_or numbers 2 0) (get_or numbers 3 0) (get_or numbers 6 0) (get_or numbers 7 0)

ring_small : (size least most : ℕ) → IsTrue (is_ring_size size least most) → size ≤ most
ring_small size least most h = grind (arith, nat_tests)

text_fits : (class : StoreClass) → text_number class < 2 ^ 64
text_fits Specified = omega arith
text_fits Living = omega arith

texts_apart : (a b : StoreClass) → text_number a ≡ text_number b → a ≡ b
texts_apart Specified Specified e = refl
texts_apart Specified Living e = absurd (omega (arith, e))
texts_apart Living Specified e = absurd (omega (arith, e))
texts_apart Living Living e = refl

text_spelled : (class : StoreClass) (sizes : List ℕ) → image_text class ++ spelled sizes ≡ spelled (text_number class ∷ sizes)
text_spelled Specified sizes = refl
text_spelled Living sizes = refl

shape_words : (x : Shape) → AreWords (shape_numbers x)
shape_words x =
    let limits = x.limits in
    let page = ring_small x.page min_page max_page limits.page_size in
    let frames = ring_small x.frames min_frames max_frames limits.ring_size in
    (text_fits x.class, (omega arith, (omega arith, (omega arith, (omega arith, (omega arith, (omega arith, (omega arith, tt))))))))

-- the class and the sizes as one, and what limits them
abbrev Sized : Type 0
Sized = StoreClass × ℕ × ℕ × ℕ × ℕ × ℕ × ℕ × ℕ

abbrev IsLimited : Sized → Type 0
IsLimited p = IsShape p.1 p.2 p.3 p.4 p.5 p.6 p.7 × IsOfClass p.0 (IsSmall p.1 p.2 p.3 p.6 p.7)

shape_same : (x y : Shape) → x.class ≡ y.class → size_numbers x ≡ size_numbers y → x ≡ y
shape_same x y k e =
    let a : x.bucket_bits ≡ y.bucket_bits = cc in
    let b : x.page ≡ y.page = cc in
    let c : x.frames ≡ y.frames = cc in
    let d : x.mutable ≡ y.mutable = cc in
    let s : x.sessions ≡ y.sessions = cc in
    let o : x.overflow ≡ y.overflow = cc in
    let p : x.disk_pages ≡ y.disk_pages = cc in
    let parts : ◌≡◌ {A = Sized} (x.class, x.bucket_bits, x.page, x.frames, x.mutable, x.sessions, x.overflow, x.disk_pages) (y.class, y.bucket_bits, y.page, y.frames, y.mutable, y.sessions, y.overflow, y.disk_pages) = cc in
    same_made {A = Sized} {P = IsLimited}
    (λ p h. record { class = p.0; bucket_bits = p.1; page = p.2; frames = p.3; mutable = p.4; sessions = p.5; overflow = p.6; disk_pages = p.7; limits = h.0; of_its_class = h.1 })
    (λ p. hlevel (le_prop, Bool-set))
    (x.class, x.bucket_bits, x.page, x.frames, x.mutable, x.sessions, x.overflow, x.disk_pages) (y.class, y.bucket_bits, y.page, y.frames, y.mutable, y.sessions, y.overflow, y.disk_pages)
    (x.limits, x.of_its_class) (y.limits, y.of_its_class) parts

numbers_apart : SpellsApart shape_numbers
numbers_apart x y e =
    let sizes : size_numbers x ≡ size_numbers y = cc in
    let text : text_number x.class ≡ text_number y.class = cc in
    shape_same x y (texts_apart x.class y.class text) sizes

pub shape_numbered : IsNumbered shape_bytes shape_numbers 8
unfolding shape_bytes
shape_numbered = record { same = λ x. text_spelled x.class (size_numbers x); words = shape_words; len = λ x. refl }

pub shape_apart : SpellsApart shape_bytes
shape_apart = numbered_apart shape_numbered numbers_apart

-- the shape of the sizes that a class's constructor took for this text, or none
pub shape_read : (class : StoreClass) (numbers : List ℕ) (r : Result Shape Fault) → length numbers ≡ 8 → get_or numbers 0 0 ≡ text_number class
    → (are_sizes numbers → IsOfClass class (these_small numbers) → IsOk r) → IfOk r (λ s. s.class ≡ class)
    → IfOk r (λ s. s.bucket_bits ≡ get_or numbers 1 0) → IfOk r (λ s. s.page ≡ get_or numbers 2 0) → IfOk r (λ s. s.frames ≡ get_or numbers 3 0) → IfOk r (λ s. s.mutable ≡ get_or numbers 4 0)
    → IfOk r (λ s. s.sessions ≡ get_or numbers 5 0) → IfOk r (λ s. s.overflow ≡ get_or numbers 6 0) → IfOk r (λ s. s.disk_pages ≡ get_or numbers 7 0)
    → Reads shape_numbers numbers (result_ok r)
shape_read class numbers (Ok s) len text takes its bits page frames mutable sessions overflow disk =
    let each = eight_numbers numbers len in
    let first : from_le_bytes w64 (shape_text s) ≡ get_or numbers 0 0 = ap text_number its ∙ sym text in
    let same : shape_numbers s ≡ numbers = cc in
    reads_made shape_numbers numbers_apart s numbers same
shape_read class numbers (Err f) len text takes its bits page frames mutable sessions overflow disk =
    λ x. (
      λ s. let never : ⊥ = cc in absurd never,
      λ e.
          let each = eight_numbers numbers len in
          let b : x.bucket_bits ≡ get_or numbers 1 0 = cc in
          let p : x.page ≡ get_or numbers 2 0 = cc in
          let fr : x.frames ≡ get_or numbers 3 0 = cc in
          let m : x.mutable ≡ get_or numbers 4 0 = cc in
          let se : x.sessions ≡ get_or numbers 5 0 = cc in
          let o : x.overflow ≡ get_or numbers 6 0 = cc in
          let d : x.disk_pages ≡ get_or numbers 7 0 = cc in
          let first : from_le_bytes w64 (shape_text x) ≡ get_or numbers 0 0 = cc in
          let same : x.class ≡ class = texts_apart x.class class (first ∙ text) in
          let limits : are_sizes numbers = rw (← b, ← p, ← fr, ← m, ← se, ← o, ← d) x.limits in
          let small : IsOfClass class (these_small numbers) = rw (← b, ← p, ← fr, ← o, ← d, ← same) x.of_its_class in
          let ok = takes limits small in
          search rules,
    )

pub shape_none : (numbers : List ℕ) → length numbers ≡ 8 → get_or numbers 0 0 ≢ text_number Specified → get_or numbers 0 0 ≢ text_number Living → Reads shape_numbers numbers None
shape_none numbers len not_specified not_living x = (
  λ s. let never : ⊥ = cc in absurd never,
  λ e.
      let each = eight_numbers numbers len in
      let first : get_or numbers 0 0 ≡ from_le_bytes w64 (shape_text x) = cc in
      neither x.class first,
)
  where
    neither : (class : StoreClass) → get_or numbers 0 0 ≡ text_number class → None ≡ Some x
    neither Specified e = absurd (not_specified e)
    neither Living e = absurd (not_living e)
