-- Which addresses lie in memory, by the head that a session has seen.
use Rattle.std.specs.Prelude.{ℕ, ◌-◌, ◌==◌, ◌&&◌, not, nat_lt, Bool}

-- an address of a chain that lies within a ring from the head on
unfoldable pub is_in_memory : ℕ → ℕ → ℕ → Bool
is_in_memory ring head addr = not (addr == 0) && not (nat_lt addr head) && nat_lt (addr - head) ring
