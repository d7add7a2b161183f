-- Triples and their bytes.
use Rattle.std.proofs.Common.{◌≡◌, ℕ, ◌+◌, ◌*◌, ◌^◌, ◌<◌, List, [], ◌∷◌, length, get_or, Some, None, refl, arith}
use Rattle.std.proofs.Math.Bridge.{le_prop}
use Rattle.fkv_words.specs.Fields.{Reads, SpellsApart}
use Rattle.fkv_words.proofs.Shown.{same_made, reads_made}
use Rattle.fkv_record.specs.declared.triples.Triple.{Triple}
use Rattle.fkv_record.specs.Layout.{triple_bytes}
use Rattle.fkv_record.specs.Numbers.{spelled}
use Rattle.fkv_record.proofs.Spelling.{AreWords, IsNumbered, numbered_apart, two_numbers}

-- the first eight bytes as one number
abbrev pub triple_numbers : Triple → List ℕ
triple_numbers x = (x.bucket + x.tag * 2 ^ 32) ∷ x.addr.0 ∷ []

triple_spelled : (x : Triple) → triple_bytes x ≡ spelled (triple_numbers x)
unfolding triple_bytes
triple_spelled x = let b = x.bucket_fits in let t = x.tag_fits in grind arith

triple_words : (x : Triple) → AreWords (triple_numbers x)
triple_words x =
    let b = x.bucket_fits in
    let t = x.tag_fits in
    let a = x.addr_fits in
    (omega arith, (omega arith, tt))

triple_same : (x y : Triple) → x.bucket ≡ y.bucket → x.tag ≡ y.tag → x.addr.0 ≡ y.addr.0 → x ≡ y
triple_same x y b t a =
    let parts : ◌≡◌ {A = ℕ × ℕ × ℕ} (x.bucket, x.tag, x.addr.0) (y.bucket, y.tag, y.addr.0) = cc in
    same_made {A = ℕ × ℕ × ℕ} {P = λ p. (p.0 < 2 ^ 32) × (p.1 < 2 ^ 15) × (0 < p.2) × (p.2 < 2 ^ 48)}
    (λ p h. record { bucket = p.0; tag = p.1; addr = record { 0 = p.2 }; bucket_fits = h.0; tag_fits = h.1; some_addr = h.2; addr_fits = h.3 })
    (λ p. hlevel le_prop) (x.bucket, x.tag, x.addr.0) (y.bucket, y.tag, y.addr.0)
    (x.bucket_fits, x.tag_fits, x.some_addr, x.addr_fits) (y.bucket_fits, y.tag_fits, y.some_addr, y.addr_fits) parts

numbers_apart : SpellsApart triple_numbers
numbers_apart x y e =
    let home : x.bucket + x.tag * 2 ^ 32 ≡ y.bucket + y.tag * 2 ^ 32 = cc in
    let addr : x.addr.0 ≡ y.addr.0 = cc in
    let x-fits = x.bucket_fits in
    let y-fits = y.bucket_fits in
    triple_same x y (omega arith) (omega arith) addr

pub triple_numbered : IsNumbered triple_bytes triple_numbers 2
triple_numbered = record { same = triple_spelled; words = triple_words; len = λ x. refl }

pub triple_apart : SpellsApart triple_bytes
triple_apart = numbered_apart triple_numbered numbers_apart

pub triple_read : (numbers : List ℕ) (made : Triple) → length numbers ≡ 2
    → made.bucket + made.tag * 2 ^ 32 ≡ get_or numbers 0 0 → made.addr.0 ≡ get_or numbers 1 0 → Reads triple_numbers numbers (Some made)
triple_read numbers made len home addr =
    let each = two_numbers numbers len in
    let same : triple_numbers made ≡ numbers = cc in
    reads_made triple_numbers numbers_apart made numbers same

pub triple_none : (numbers : List ℕ) → length numbers ≡ 2
    → ((x : Triple) → x.bucket + x.tag * 2 ^ 32 ≡ get_or numbers 0 0 → x.addr.0 ≡ get_or numbers 1 0 → ⊥) → Reads triple_numbers numbers None
triple_none numbers len none x = (
  λ s. let never : ⊥ = cc in absurd never,
  λ e.
      let each = two_numbers numbers len in
      let home : x.bucket + x.tag * 2 ^ 32 ≡ get_or numbers 0 0 = cc in
      let addr : x.addr.0 ≡ get_or numbers 1 0 = cc in
      absurd (none x home addr),
)
