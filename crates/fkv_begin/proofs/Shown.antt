-- What crates above may cite: where an address leads in a log that begins later.
use Rattle.std.proofs.Common.{◌≡◌, ◌≢◌, ℕ, ◌<◌, ◌≤◌, arith}
use Rattle.std.proofs.lemmas.Bool.Decides.{nat_tests}
use Rattle.fkv_begin.specs.Begin.{from_or_none}

-- nowhere from below the begin
pub from_below : (begin a : ℕ) → a < begin → from_or_none begin a ≡ 0
unfolding from_or_none
from_below begin a below = grind (arith, nat_tests, below)

-- and from the begin on there
pub from_on : (begin a : ℕ) → begin ≤ a → from_or_none begin a ≡ a
unfolding from_or_none
from_on begin a on = grind (arith, nat_tests, on)

-- never further
pub from_lower : (begin a : ℕ) → from_or_none begin a ≤ a
unfolding from_or_none
from_lower begin a = grind (arith, nat_tests)

-- where it leads somewhere, that is from the begin on
pub from_some : (begin a : ℕ) → from_or_none begin a ≢ 0 → begin ≤ from_or_none begin a
unfolding from_or_none
from_some begin a some = grind (arith, nat_tests, some)

-- a log that begins at its first record keeps each address
pub from_first : (a : ℕ) → from_or_none 1 a ≡ a
unfolding from_or_none
from_first a = grind (arith, nat_tests)
