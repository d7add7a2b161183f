-- Lives in which so few calls begin that no ticket comes again.
use Rattle.std.specs.Prelude.{ℕ, suc, ◌-◌, ◌^◌, ◌<◌, List, [], ◌∷◌}
use Rattle.law_commit.specs.Below.fkv_world.World.{Event, Calls}

-- how many calls of sessions begin
abbrev pub with_begun : Event → ℕ → ℕ
with_begun (Calls number call) count = suc count
with_begun event count = count

abbrev pub calls_in : List Event → ℕ
calls_in [] = 0
calls_in (event ∷ before) = with_begun event (calls_in before)

-- fewer than 2^64 - 1 of them
abbrev pub HasFewCalls : List Event → Type 0
HasFewCalls events = calls_in events < 2 ^ 64 - 1
