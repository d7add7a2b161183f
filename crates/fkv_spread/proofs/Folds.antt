-- To fold twice changes nothing, and the two factors cancel.
use Rattle.std.proofs.Common.{◌≡◌, ℕ, ◌+◌, ◌*◌, ◌/◌, ◌%◌, ◌^◌, ◌<◌, refl, ap, ◌∙◌, mul_assoc, arith}
use Rattle.std.specs.Int.{bit_at}
use Rattle.std.specs.Int.Bits.{bit_xor, xor_zero_r}
use Rattle.std.proofs.lemmas.Nat.{mod-mul-add, mul-mod_first, xor_lt, xor_shr}
use Rattle.std.proofs.lemmas.Nat.Bits.{bit_at_xor, bit_at-lt, same_from_bits}
use Rattle.fkv_spread.specs.Spreading.{folded, gathered_word, spread_word}

folded_lt : (n : ℕ) → n < 2 ^ 64 → folded n < 2 ^ 64
folded_lt n small = xor_lt 64 n (n / 2 ^ 32) small (omega arith)

-- of two bits, one added twice
twice : (a b : ℕ) → a < 2 → ((a + b) % 2 + b) % 2 ≡ a
twice a b small = omega arith

xor_twice : (n h : ℕ) → bit_xor (bit_xor n h) h ≡ n
xor_twice n h = same_from_bits _ _ (λ i. bit_at_xor (bit_xor n h) h i ∙ ap (λ (b : ℕ). (b + bit_at h i) % 2) (bit_at_xor n h i) ∙ twice (bit_at n i) (bit_at h i) (bit_at-lt n i))

-- a fold leaves the upper half
same_half : (n : ℕ) → n < 2 ^ 64 → folded n / 2 ^ 32 ≡ n / 2 ^ 32
same_half n small =
    let none : n / 2 ^ 32 / 2 ^ 32 ≡ 0 = omega arith in
    xor_shr n (n / 2 ^ 32) 32 ∙ ap (bit_xor (n / 2 ^ 32)) none ∙ xor_zero_r (n / 2 ^ 32)

folded_twice : (n : ℕ) → n < 2 ^ 64 → folded (folded n) ≡ n
folded_twice n small = ap (bit_xor (folded n)) (same_half n small) ∙ xor_twice n (n / 2 ^ 32)

spread_out : (n k : ℕ) → n * (k * 2 ^ 64 + 1) ≡ n * k * 2 ^ 64 + n
spread_out n k = grind arith

-- Two factors that are 1 modulo 2^64 cancel.
cancel : (n c d k : ℕ) → c * d ≡ k * 2 ^ 64 + 1 → n < 2 ^ 64 → n * c % 2 ^ 64 * d % 2 ^ 64 ≡ n
cancel n c d k one small = mul-mod_first (n * c) d (2 ^ 64) ∙ ap (λ (p : ℕ). p % 2 ^ 64) (mul_assoc n c d ∙ ap (λ (p : ℕ). n * p) one ∙ spread_out n k) ∙ mod-mul-add (n * k) (2 ^ 64) n small

-- So do the halves of a spread.
undone : (n c d k : ℕ) → c * d ≡ k * 2 ^ 64 + 1 → n < 2 ^ 64 → folded (folded (folded (folded n * c % 2 ^ 64)) * d % 2 ^ 64) ≡ n
undone n c d k one small =
    ap (λ (p : ℕ). folded (p * d % 2 ^ 64)) (folded_twice (folded n * c % 2 ^ 64) (omega arith))
    ∙ ap folded (cancel (folded n) c d k one (folded_lt n small)) ∙ folded_twice n small

pub gathered-spread : (key : ℕ) → key < 2 ^ 64 → gathered_word (spread_word key) ≡ key
gathered-spread key small = undone key 11400714819323198485 17428512612931826493 10771413168148108919 refl small

pub spread-gathered : (word : ℕ) → word < 2 ^ 64 → spread_word (gathered_word word) ≡ word
spread-gathered word small = undone word 17428512612931826493 11400714819323198485 10771413168148108919 refl small
