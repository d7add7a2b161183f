-- The keeper moves alone, and how many asks a call of a session and one of the keeper have at most.
use Rattle.std.specs.Prelude.{⊤, ℕ, ◌+◌, List, [], ◌∷◌}
use Rattle.fkv_base.specs.declared.shapes.Shape.{Shape}
use Rattle.fkv_keeper.specs.KeeperAsks.{most_behind_phase}
use Rattle.fkv_keeper.specs.Keeping.{KeeperState}
use Rattle.fkv_maintain.specs.AsksLeft.{most_maintain_asks}
use Rattle.fkv_map.specs.declared.operations.Call.TheVariants.{Poll}
use Rattle.fkv_plane.specs.declared.places.Places.{Places}
use Rattle.fkv_session.specs.AsksLeft.{call_bound}
use Rattle.fkv_world.specs.World.{Event, KeeperMoves}

-- each of these is a move of the keeper, whatever is granted to it, and whatever its call of the device comes to
abbrev pub IsKeeperMove : Event → Type 0
IsKeeperMove (KeeperMoves granted done) = ⊤
IsKeeperMove event = ⊥

abbrev pub AreKeeperMoves : List Event → Type 0
AreKeeperMoves [] = ⊤
AreKeeperMoves (event ∷ before) = IsKeeperMove event × AreKeeperMoves before

-- no call of a session may ask more than a poll, which tries each request that waits
abbrev pub most_session_asks : Shape → ℕ
most_session_asks shape = call_bound shape Poll

-- nor one of the keeper more than a turn, by the sessions of which it seeks the points and finishes commits, and by the index that a sweep searches
abbrev pub most_keeper_asks : Shape → Places → KeeperState → ℕ
most_keeper_asks shape p s = most_maintain_asks shape + (most_behind_phase s.sweep.places s.seek.sessions s.finish.sessions + 1)
