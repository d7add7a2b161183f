-- Where the bytes of a range are the same, it reads alike.
use Rattle.std.proofs.Common.{◌≡◌, ℕ, ◌+◌, ◌<◌, ◌≤◌, ◌∙◌, arith, List}
use Rattle.fkv_disk.specs.Bytes.{byte_at, bytes_at}
use Rattle.fkv_disk.proofs.Shown.{byte_at-bytes_at, is_listed, length-bytes_at}

pub range_same : (xs ys : List ℕ) (at n : ℕ) → ((i : ℕ) → at ≤ i → i < at + n → byte_at xs i ≡ byte_at ys i) → bytes_at xs at n ≡ bytes_at ys at n
range_same xs ys at n each =
    is_listed (bytes_at xs at n) n (λ k. byte_at ys (at + k)) (length-bytes_at xs at n)
    (λ k below. byte_at-bytes_at xs at n k below ∙ each (at + k) (omega arith) (omega (arith, below)))
