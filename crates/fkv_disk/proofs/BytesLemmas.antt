-- What stands at each offset after a write, and what a read gives of it.
use Rattle.std.proofs.Common.{◌≡◌, ◌⊎◌, inl, inr, ℕ, zero, suc, ◌+◌, ◌-◌, ◌<◌, ◌≤◌, max, List, length, Bool, true, false, refl, sym, ◌∙◌, ap, arith}
use Rattle.std.specs.Prelude.{if◌then◌else◌}
use Rattle.std.proofs.lemmas.Bool.Decides.{nat_tests}
use Rattle.std.proofs.lemmas.List.{get_or_past, ext_get_or}
use Rattle.std.proofs.lemmas.List.FromFn.{get_or-map-range_with_len, fill_by_all}
use Rattle.fkv_disk.specs.Bytes.{byte_at, listed, bytes_at, covers, range_end, written}
use Rattle.fkv_disk.specs.Stays.{length-listed, length-written}

pub byte_at-listed : (n : ℕ) (f : ℕ → ℕ) (i : ℕ) → i < n → byte_at (listed n f) i ≡ f i
unfolding listed
byte_at-listed n f i below = get_or-map-range_with_len f 0 n i i 0 below (omega arith)

-- a list is known by its length and what stands at each offset
pub is_listed : (bytes : List ℕ) (n : ℕ) (f : ℕ → ℕ) → length bytes ≡ n → ((i : ℕ) → i < n → byte_at bytes i ≡ f i) → bytes ≡ listed n f
unfolding listed
is_listed bytes n f size each = fill_by_all f bytes n 0 size each

pub same_bytes : (xs ys : List ℕ) → length xs ≡ length ys → ((i : ℕ) → byte_at xs i ≡ byte_at ys i) → xs ≡ ys
same_bytes xs ys size each = ext_get_or 0 xs ys size (λ i below. each i)

pub byte_at_past : (bytes : List ℕ) (i : ℕ) → length bytes ≤ i → byte_at bytes i ≡ 0
byte_at_past bytes i past = get_or_past bytes i 0 past

-- an offset lies in a range, or outside of it
pub covered : (at n i : ℕ) → covers at n i ≡ true → (at ≤ i) × (i < at + n)
covered at n i is_in = grind (arith, nat_tests)

pub in_range : (at n i : ℕ) → at ≤ i → i < at + n → covers at n i ≡ true
in_range at n i from below = grind (arith, nat_tests)

pub before_range : (at n i : ℕ) → i < at → covers at n i ≡ false
before_range at n i before = grind (arith, nat_tests)

pub after_range : (at n i : ℕ) → at + n ≤ i → covers at n i ≡ false
after_range at n i after = grind (arith, nat_tests)

pub range_end_most : (at n : ℕ) → range_end at n ≤ at + n
range_end_most at zero = omega arith
range_end_most at (suc n) = omega arith

pub range_end_is : (at n : ℕ) → 0 < n → range_end at n ≡ at + n
range_end_is at zero some = absurd (omega arith)
range_end_is at (suc n) some = refl

module _ (old : List ℕ) (at : ℕ) (bytes : List ℕ) where
  after_write : ℕ → ℕ
  after_write i = if covers at (length bytes) i then byte_at bytes (i - at) else byte_at old i

  pub byte_at-written_in : (i : ℕ) → covers at (length bytes) i ≡ true → byte_at (written old at bytes) i ≡ byte_at bytes (i - at)
  byte_at-written_in i is_in =
      let span = covered at (length bytes) i is_in in
      let end : range_end at (length bytes) ≡ at + length bytes = range_end_is at (length bytes) (omega arith) in
      byte_at-listed _ _ i (omega arith) ∙ ap (λ (b : Bool). if b then byte_at bytes (i - at) else byte_at old i) is_in

  pub byte_at-written_out : (i : ℕ) → covers at (length bytes) i ≡ false → byte_at (written old at bytes) i ≡ byte_at old i
  byte_at-written_out i is_out = by_place (below_or i)
    where
      below_or : (i : ℕ) → (i < max (length old) (range_end at (length bytes))) ⊎ (max (length old) (range_end at (length bytes)) ≤ i)
      below_or i = grind arith

      by_place : (i < max (length old) (range_end at (length bytes))) ⊎ (max (length old) (range_end at (length bytes)) ≤ i) → byte_at (written old at bytes) i ≡ byte_at old i
      by_place (inl below) = byte_at-listed _ _ i below ∙ ap (λ (b : Bool). if b then byte_at bytes (i - at) else byte_at old i) is_out
      by_place (inr past) = byte_at_past (written old at bytes) i (omega (arith, length-written old at bytes)) ∙ sym (byte_at_past old i (omega arith))

-- a read of a range gives what stands at its offsets
pub byte_at-bytes_at : (bytes : List ℕ) (at n k : ℕ) → k < n → byte_at (bytes_at bytes at n) k ≡ byte_at bytes (at + k)
byte_at-bytes_at bytes at n k below = byte_at-listed n _ k below

pub length-bytes_at : (bytes : List ℕ) (at n : ℕ) → length (bytes_at bytes at n) ≡ n
length-bytes_at bytes at n = length-listed n _

-- two media that agree on a range read alike there
pub bytes_at_same : (xs ys : List ℕ) (at n : ℕ) → ((i : ℕ) → at ≤ i → i < at + n → byte_at xs i ≡ byte_at ys i) → bytes_at xs at n ≡ bytes_at ys at n
bytes_at_same xs ys at n each = is_listed (bytes_at xs at n) n _ (length-bytes_at xs at n) (λ k below. byte_at-bytes_at xs at n k below ∙ each (at + k) (omega arith) (omega arith))

-- what a write has put down is read back
pub bytes_at-written : (old : List ℕ) (at : ℕ) (bytes : List ℕ) → bytes_at (written old at bytes) at (length bytes) ≡ bytes
bytes_at-written old at bytes = sym (is_listed bytes (length bytes) _ refl (λ k below. sym (there k below)))
  where
    there : (k : ℕ) → k < length bytes → byte_at (written old at bytes) (at + k) ≡ byte_at bytes k
    there k below = byte_at-written_in old at bytes (at + k) (in_range at (length bytes) (at + k) (omega arith) (omega arith)) ∙ ap (λ (j : ℕ). byte_at bytes j) (let same : (at + k) - at ≡ k = omega arith in same)

-- a read outside of it is what it was
pub bytes_at-written_out : (old : List ℕ) (at : ℕ) (bytes : List ℕ) (from n : ℕ) → (from + n ≤ at) ⊎ (at + length bytes ≤ from) → bytes_at (written old at bytes) from n ≡ bytes_at old from n
bytes_at-written_out old at bytes from n (inl before) = bytes_at_same _ _ from n (λ i above below. byte_at-written_out old at bytes i (before_range at (length bytes) i (omega arith)))
bytes_at-written_out old at bytes from n (inr after) = bytes_at_same _ _ from n (λ i above below. byte_at-written_out old at bytes i (after_range at (length bytes) i (omega arith)))
