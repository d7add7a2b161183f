-- How a device counts that fails once.
use Rattle.std.specs.Prelude.{ℕ, zero, suc, ◌-◌, Option, None, Some, Bool, true, nat_lt, if◌then◌else◌}

-- after one call
abbrev pub counted_down : Option ℕ → Option ℕ
counted_down None = None
counted_down (Some zero) = None
counted_down (Some (suc left)) = Some left

-- how many calls it has refused
abbrev pub refusals : Option ℕ → ℕ
refusals None = 1
refusals (Some left) = 0

-- Which of the calls to come are refused: the one, and of the others those that its device refuses, which doesn't get that one.
abbrev pub once_refuses : Option ℕ → (ℕ → Bool) → ℕ → Bool
once_refuses None device = device
once_refuses (Some left) device = λ i. if nat_lt i left then device i else (if nat_lt left i then device (i - 1) else true)
