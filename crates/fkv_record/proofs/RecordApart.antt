-- Records and their bytes.
use Rattle.std.proofs.Common.{◌≡◌, ℕ, ◌^◌, ◌<◌, List, length, get_or, Some, None, refl, arith}
use Rattle.std.proofs.Math.Bridge.{le_prop}
use Rattle.fkv_words.specs.declared.headers.Header.{Header}
use Rattle.fkv_words.specs.Fields.{Reads, SpellsApart}
use Rattle.fkv_words.specs.Layout.{header_word}
use Rattle.fkv_words.proofs.Shown.{header_apart, bit_small, same_made, reads_made}
use Rattle.fkv_record.specs.declared.records.Record.{Record}
use Rattle.fkv_record.specs.Layout.{record_numbers, record_bytes}
use Rattle.fkv_record.proofs.Spelling.{AreWords, IsNumbered, numbered_apart, three_numbers}

record_words : (x : Record) → AreWords (record_numbers x)
record_words x =
    let bit = bit_small x.header.invalid in
    let fits = x.header.previous_fits in
    let version = x.header.version_fits in
    let header : header_word x.header < 2 ^ 64 = omega arith in
    (header, (x.key_fits, (x.value_fits, tt)))

record_same : (x y : Record) → x.header ≡ y.header → x.key.0 ≡ y.key.0 → x.value ≡ y.value → x ≡ y
record_same x y h k v =
    let parts : ◌≡◌ {A = Header × ℕ × ℕ} (x.header, x.key.0, x.value) (y.header, y.key.0, y.value) = cc in
    same_made {A = Header × ℕ × ℕ} {P = λ p. (p.1 < 2 ^ 64) × (p.2 < 2 ^ 64)}
    (λ p h. record { header = p.0; key = record { 0 = p.1 }; value = p.2; key_fits = h.0; value_fits = h.1 })
    (λ p. hlevel le_prop) (x.header, x.key.0, x.value) (y.header, y.key.0, y.value)
    (x.key_fits, x.value_fits) (y.key_fits, y.value_fits) parts

numbers_apart : SpellsApart record_numbers
numbers_apart x y e =
    let header : header_word x.header ≡ header_word y.header = cc in
    let key : x.key.0 ≡ y.key.0 = cc in
    let value : x.value ≡ y.value = cc in
    record_same x y (header_apart x.header y.header header) key value

pub record_numbered : IsNumbered record_bytes record_numbers 3
unfolding record_bytes
record_numbered = record { same = λ x. refl; words = record_words; len = λ x. refl }

pub record_apart : SpellsApart record_bytes
record_apart = numbered_apart record_numbered numbers_apart

pub record_read : (numbers : List ℕ) (made : Record) → length numbers ≡ 3
    → header_word made.header ≡ get_or numbers 0 0 → made.key.0 ≡ get_or numbers 1 0 → made.value ≡ get_or numbers 2 0 → Reads record_numbers numbers (Some made)
record_read numbers made len header key value =
    let each = three_numbers numbers len in
    let same : record_numbers made ≡ numbers = cc in
    reads_made record_numbers numbers_apart made numbers same

pub record_none : (numbers : List ℕ) → length numbers ≡ 3 → Reads header_word (get_or numbers 0 0) None → Reads record_numbers numbers None
record_none numbers len none x = (
  λ s. let never : ⊥ = cc in absurd never,
  λ e.
      let each = three_numbers numbers len in
      let first : header_word x.header ≡ get_or numbers 0 0 = cc in
      let never = (none x.header).1 first in
      let absent : ⊥ = cc in
      absurd absent,
)
