-- The bytes of a medium. They have an end, and past it each byte reads as 0.
use Rattle.std.specs.Prelude.{ℕ, zero, suc, ◌+◌, ◌-◌, ◌<◌, max, List, length, map, Bool, ◌&&◌, nat_lt, nat_le, if◌then◌else◌, slice_index_or}
use Rattle.std.specs.List.{range_with_len}

-- the byte at an offset, 0 past the end
abbrev pub byte_at : List ℕ → ℕ → ℕ
byte_at bytes i = slice_index_or bytes i 0

-- the list of f 0 to f (n - 1)
unfoldable pub listed : ℕ → (ℕ → ℕ) → List ℕ
listed n f = map f (range_with_len 0 n)

-- the n bytes from an offset on, those past the end 0: what a read gives
abbrev pub bytes_at : List ℕ → ℕ → ℕ → List ℕ
bytes_at bytes at n = listed n (λ k. byte_at bytes (at + k))

-- whether the range of n bytes from an offset on has this offset
abbrev pub covers : ℕ → ℕ → ℕ → Bool
covers at n i = nat_le at i && nat_lt i (at + n)

-- where that range ends; an empty one reaches nowhere
abbrev pub range_end : ℕ → ℕ → ℕ
range_end at zero = 0
range_end at (suc n) = at + suc n

-- the bytes after a write: its own in its range, elsewhere those of before, and 0 in a gap
abbrev pub written : List ℕ → ℕ → List ℕ → List ℕ
written old at bytes = listed (max (length old) (range_end at (length bytes))) (λ i. if covers at (length bytes) i then byte_at bytes (i - at) else byte_at old i)

-- each of them is a byte
abbrev pub AreBytes : List ℕ → Type 0
AreBytes bytes = (i : ℕ) → byte_at bytes i < 256
