-- No two values have one word.
use Rattle.std.proofs.Common.{◌≡◌, ℕ, ◌^◌, ◌<◌, Bool, arith}
use Rattle.std.proofs.Math.Bridge.{le_prop}
use Rattle.fkv_base.specs.declared.phases.Phase.{Phase}
use Rattle.fkv_words.specs.declared.entries.Entry.{Entry}
use Rattle.fkv_words.specs.declared.bucket_tail.BucketTail.{BucketTail}
use Rattle.fkv_words.specs.declared.headers.Header.{Header}
use Rattle.fkv_words.specs.declared.phase_word.PhaseWord.{PhaseWord}
use Rattle.fkv_words.specs.declared.wide_phase.WidePhase.{WidePhase}
use Rattle.fkv_words.specs.declared.cut_word.CutWord.{CutWord}
use Rattle.fkv_words.specs.Fields.{SpellsApart}
use Rattle.fkv_words.specs.Layout.{entry_word, tail_word, header_word, phase_word, wide_word, cut_word}
use Rattle.fkv_words.proofs.Bits.{same_bit, bit_small, same_phase, few_phases}
use Rattle.fkv_words.proofs.Spelled.{same_made}

entry_same : (x y : Entry) → x.addr.0 ≡ y.addr.0 → x.tag ≡ y.tag → x ≡ y
entry_same x y a t =
    let parts : ◌≡◌ {A = ℕ × ℕ} (x.addr.0, x.tag) (y.addr.0, y.tag) = cc in
    same_made {A = ℕ × ℕ} {P = λ p. (0 < p.0) × (p.0 < 2 ^ 48) × (p.1 < 2 ^ 15)}
    (λ p h. record { addr = record { 0 = p.0 }; tag = p.1; some_addr = h.0; addr_fits = h.1; tag_fits = h.2 })
    (λ p. hlevel le_prop) (x.addr.0, x.tag) (y.addr.0, y.tag)
    (x.some_addr, x.addr_fits, x.tag_fits) (y.some_addr, y.addr_fits, y.tag_fits) parts

pub entry_apart : SpellsApart entry_word
entry_apart x y e = entry_same x y (omega arith) (omega arith)

tail_same : (x y : BucketTail) → x.overflow ≡ y.overflow → x.shared ≡ y.shared → x.exclusive ≡ y.exclusive → x ≡ y
tail_same x y o s l =
    let parts : ◌≡◌ {A = ℕ × ℕ × Bool} (x.overflow, x.shared, x.exclusive) (y.overflow, y.shared, y.exclusive) = cc in
    same_made {A = ℕ × ℕ × Bool} {P = λ p. (p.0 < 2 ^ 48) × (p.1 < 2 ^ 15)}
    (λ p h. record { overflow = p.0; shared = p.1; exclusive = p.2; overflow_fits = h.0; shared_fits = h.1 })
    (λ p. hlevel le_prop) (x.overflow, x.shared, x.exclusive) (y.overflow, y.shared, y.exclusive)
    (x.overflow_fits, x.shared_fits) (y.overflow_fits, y.shared_fits) parts

pub tail_apart : SpellsApart tail_word
tail_apart x y e =
    let a = bit_small x.exclusive in
    let b = bit_small y.exclusive in
    tail_same x y (omega arith) (omega arith) (same_bit x.exclusive y.exclusive (omega arith))

header_same : (x y : Header) → x.previous.0 ≡ y.previous.0 → x.version.0 ≡ y.version.0 → x.invalid ≡ y.invalid → x ≡ y
header_same x y p v i =
    let parts : ◌≡◌ {A = ℕ × ℕ × Bool} (x.previous.0, x.version.0, x.invalid) (y.previous.0, y.version.0, y.invalid) = cc in
    same_made {A = ℕ × ℕ × Bool} {P = λ p. (p.0 < 2 ^ 48) × (0 < p.1) × (p.1 < 2 ^ 13)}
    (λ p h. record { previous = record { 0 = p.0 }; version = record { 0 = p.1 }; invalid = p.2; previous_fits = h.0; some_version = h.1; version_fits = h.2 })
    (λ p. hlevel le_prop) (x.previous.0, x.version.0, x.invalid) (y.previous.0, y.version.0, y.invalid)
    (x.previous_fits, x.some_version, x.version_fits) (y.previous_fits, y.some_version, y.version_fits) parts

pub header_apart : SpellsApart header_word
header_apart x y e =
    let a = bit_small x.invalid in
    let b = bit_small y.invalid in
    header_same x y (omega arith) (omega arith) (same_bit x.invalid y.invalid (omega arith))

phase_same : (x y : PhaseWord) → x.version.0 ≡ y.version.0 → x.phase ≡ y.phase → x ≡ y
phase_same x y v p =
    let parts : ◌≡◌ {A = ℕ × Phase} (x.version.0, x.phase) (y.version.0, y.phase) = cc in
    same_made {A = ℕ × Phase} {P = λ p. (0 < p.0) × (p.0 < 2 ^ 13)}
    (λ p h. record { version = record { 0 = p.0 }; phase = p.1; some_version = h.0; version_fits = h.1 })
    (λ p. hlevel le_prop) (x.version.0, x.phase) (y.version.0, y.phase)
    (x.some_version, x.version_fits) (y.some_version, y.version_fits) parts

pub phase_apart : SpellsApart phase_word
phase_apart x y e = phase_same x y (omega arith) (same_phase x.phase y.phase (omega arith))

wide_same : (x y : WidePhase) → x.version.0 ≡ y.version.0 → x.phase ≡ y.phase → x ≡ y
wide_same x y v p =
    let parts : ◌≡◌ {A = ℕ × Phase} (x.version.0, x.phase) (y.version.0, y.phase) = cc in
    same_made {A = ℕ × Phase} {P = λ p. (0 < p.0) × (p.0 < 2 ^ 45)}
    (λ p h. record { version = record { 0 = p.0 }; phase = p.1; some_version = h.0; version_fits = h.1 })
    (λ p. hlevel le_prop) (x.version.0, x.phase) (y.version.0, y.phase)
    (x.some_version, x.version_fits) (y.some_version, y.version_fits) parts

pub wide_apart : SpellsApart wide_word
wide_apart x y e =
    let a = few_phases x.phase in
    let b = few_phases y.phase in
    wide_same x y (omega (arith, e, a, b)) (same_phase x.phase y.phase (omega (arith, e, a, b)))

cut_same : (x y : CutWord) → x.serial.0 ≡ y.serial.0 → x.version.0 ≡ y.version.0 → x ≡ y
cut_same x y s v =
    let parts : ◌≡◌ {A = ℕ × ℕ} (x.serial.0, x.version.0) (y.serial.0, y.version.0) = cc in
    same_made {A = ℕ × ℕ} {P = λ p. (p.0 < 2 ^ 48) × (p.1 < 2 ^ 13)}
    (λ p h. record { serial = record { 0 = p.0 }; version = record { 0 = p.1 }; serial_fits = h.0; version_fits = h.1 })
    (λ p. hlevel le_prop) (x.serial.0, x.version.0) (y.serial.0, y.version.0)
    (x.serial_fits, x.version_fits) (y.serial_fits, y.version_fits) parts

pub cut_apart : SpellsApart cut_word
cut_apart x y e = cut_same x y (omega arith) (omega arith)
