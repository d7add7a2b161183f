-- The numbers that eight bytes hold, whatever number they were spelled from.
use Rattle.std.proofs.Common.{◌≡◌, ℕ, zero, suc, ◌+◌, ◌<◌, ◌%◌, ◌^◌, ◌∙◌, arith, refl, ap, List, ◌∷◌}
use Rattle.std.specs.Int.{byte_at, bytes_low_first, to_le_bytes, w64}

same_from : (i k m n : ℕ) → ((j : ℕ) → j < i + k → byte_at j m ≡ byte_at j n) → bytes_low_first i k m ≡ bytes_low_first i k n
same_from i zero m n each = refl
same_from i (suc k) m n each =
    ap (λ (b : ℕ). b ∷ bytes_low_first (suc i) k m) (each i (omega arith)) ∙ ap (λ (rest : List ℕ). byte_at i n ∷ rest) (same_from (suc i) k m n (λ j low. each j (omega (arith, low))))

low_byte : (n j : ℕ) → j < 8 → byte_at j (n % 2 ^ 64) ≡ byte_at j n
low_byte n zero low = omega arith
low_byte n (suc zero) low = omega arith
low_byte n (suc (suc zero)) low = omega arith
low_byte n (suc (suc (suc zero))) low = omega arith
low_byte n (suc (suc (suc (suc zero)))) low = omega arith
low_byte n (suc (suc (suc (suc (suc zero))))) low = omega arith
low_byte n (suc (suc (suc (suc (suc (suc zero)))))) low = omega arith
low_byte n (suc (suc (suc (suc (suc (suc (suc zero))))))) low = omega arith
low_byte n (suc (suc (suc (suc (suc (suc (suc (suc j)))))))) low = absurd (omega (arith, low))

pub low_bytes : (n : ℕ) → to_le_bytes w64 (n % 2 ^ 64) ≡ to_le_bytes w64 n
low_bytes n = same_from 0 8 (n % 2 ^ 64) n (λ j low. low_byte n j low)

pub low_word : (n : ℕ) → n % 2 ^ 64 < 2 ^ 64
low_word n = omega arith
