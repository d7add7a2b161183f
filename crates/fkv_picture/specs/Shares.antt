-- Sums, and how long they are drawn.
use Rattle.std.specs.Prelude.{ℕ, ◌+◌, ◌-◌, ◌*◌, ◌/◌, ◌^◌, ◌==◌, max, min, if◌then◌else◌, List}
use Rattle.std.specs.List.{fold}

-- a number, or the greatest of 64 bits where it is above that
abbrev pub capped : ℕ → ℕ
capped n = min n (2 ^ 64 - 1)

-- the capped sum of some numbers
abbrev pub total : List ℕ → ℕ
total numbers = fold (λ sum n. capped (sum + n)) 0 numbers

-- how long a part is drawn if the whole has this length: at least 2 where it isn't empty
abbrev pub share : ℕ → ℕ → ℕ → ℕ
share part whole length = if part == 0 then 0 else min (max (capped (part * length) / max whole 1) 2) length
