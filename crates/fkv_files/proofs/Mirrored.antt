-- What a write makes of a device, and what a read of all its bytes gives.
use Rattle.std.proofs.Math.Seq.{take-append_seam}
use Rattle.std.proofs.Common.{◌≡◌, ◌∙◌, ◌+◌, ℕ, List, ◌++◌, length, take, true, false, sym, ap, arith}
use Rattle.fkv_disk.specs.Bytes.{byte_at, bytes_at, range_end}
use Rattle.fkv_disk.specs.Device.{Writes}
use Rattle.fkv_disk.proofs.Shown.{byte_at-written_out, is_listed, length-written}

-- A write that was made is one that may have failed.
pub any_in_range : (at : ℕ) (bytes old new : List ℕ) → Writes at bytes true old new → Writes at bytes false old new
any_in_range at bytes old new is =
    let size = ap length is ∙ length-written old at bytes in
    (omega (arith, size), omega (arith, size), λ i out. ap (λ (b : List ℕ). byte_at b i) is ∙ byte_at-written_out old at bytes i out)

pub all_bytes : (bytes : List ℕ) (n : ℕ) → length bytes ≡ n → bytes_at bytes 0 n ≡ bytes
all_bytes bytes n size = sym (is_listed bytes n (λ k. byte_at bytes (0 + k)) size (λ i below. ap (λ (k : ℕ). byte_at bytes k) (let so : i ≡ 0 + i = omega arith in so)))

pub put_back : (n : ℕ) (new rest : List ℕ) → n ≡ length new → take n (new ++ rest) ≡ new
put_back n new rest size = ap (λ (k : ℕ). take k (new ++ rest)) size ∙ take-append_seam new rest
