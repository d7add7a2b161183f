-- What stands where in the bytes of a log.
use Rattle.std.proofs.Common.{◌≡◌, ℕ, zero, suc, ◌+◌, ◌*◌, ◌<◌, List, [], ◌∷◌, ◌++◌, length, Some, refl, ap, ◌∙◌, arith}
use Rattle.std.specs.Prelude.{slice_get}
use Rattle.std.specs.List.{flat_map}
use Rattle.std.proofs.lemmas.List.{get_or_append_left, get_or-append-add, length-append}
use Rattle.std.proofs.lemmas.List.Concat.{flat_map-cons}
use Rattle.fkv_disk.specs.Bytes.{byte_at}
use Rattle.fkv_record.specs.declared.records.Record.{Record}
use Rattle.fkv_record.specs.Layout.{record_bytes, record_numbers}
use Rattle.fkv_record.proofs.Shown.{length-spelled}

pub long_record : (x : Record) → length (record_bytes x) ≡ 24
unfolding record_bytes
long_record x = length-spelled (record_numbers x)

pub long_log : (records : List Record) → length (flat_map record_bytes records) ≡ 24 * length records
long_log [] = refl
long_log (x ∷ xs) = omega (arith, ap length (flat_map-cons record_bytes x xs), length-append (record_bytes x) (flat_map record_bytes xs), long_record x, long_log xs)

pub log_byte : (records : List Record) (i k : ℕ) (x : Record) → slice_get records i ≡ Some x → k < 24 → byte_at (flat_map record_bytes records) (24 * i + k) ≡ byte_at (record_bytes x) k
log_byte [] i k x is low = absurd (cc)
log_byte (y ∷ ys) zero k x is low =
    let same : y ≡ x = cc in
    ap (λ (s : List ℕ). byte_at s (24 * 0 + k)) (flat_map-cons record_bytes y ys)
    ∙ ap (λ (n : ℕ). byte_at (record_bytes y ++ flat_map record_bytes ys) n) (let e : 24 * 0 + k ≡ k = omega arith in e)
    ∙ get_or_append_left (record_bytes y) (flat_map record_bytes ys) 0 k (omega (arith, low, long_record y))
    ∙ ap (λ (z : Record). byte_at (record_bytes z) k) same
log_byte (y ∷ ys) (suc i) k x is low =
    ap (λ (s : List ℕ). byte_at s (24 * suc i + k)) (flat_map-cons record_bytes y ys)
    ∙ ap (λ (n : ℕ). byte_at (record_bytes y ++ flat_map record_bytes ys) n) (let e : 24 * suc i + k ≡ length (record_bytes y) + (24 * i + k) = omega (arith, long_record y) in e)
    ∙ get_or-append-add (record_bytes y) (flat_map record_bytes ys) (24 * i + k) 0
    ∙ log_byte ys i k x is low
