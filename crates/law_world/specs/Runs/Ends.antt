-- How a call comes to its end: by the asks that its machine has left.
use Rattle.std.specs.Prelude.{◌≡◌, ℕ, ◌<◌, false, replicate, Option, Some, None, ⊤, slice_get}
use Rattle.fkv_epoch.specs.Claiming.{takes_action}
use Rattle.fkv_keeper.specs.Keeping.{keeper_ask}
use Rattle.fkv_keeper.specs.KeeperAsks.{keeper_asks_left}
use Rattle.fkv_session.specs.AsksLeft.{session_asks_left}
use Rattle.fkv_session.specs.Sessions.{SessionState, session_ask}
use Rattle.fkv_world.specs.Runs.{World, run}
use Rattle.fkv_world.specs.World.{Moves, Now, seat_at}

-- The asks that the call of a session has left, at most, and those of the keeper's call: none where it has ended.
abbrev pub left_at : Now → ℕ → Option SessionState → ℕ
left_at n session None = 0
left_at n session (Some its) = session_asks_left (seat_at n session) its

abbrev pub asks_left_of : Now → ℕ → ℕ
asks_left_of n session = left_at n session (slice_get n.sessions session)

abbrev pub asks_left_of_keeper : Now → ℕ
asks_left_of_keeper n = keeper_asks_left n.shape n.places n.keeper

-- The session doesn't stand before a slot whose action it takes. It comes to one only in the step that takes the action too, where the slot has one.
abbrev pub StandsAtNone : Now → ℕ → Option SessionState → Type 0
StandsAtNone n session None = ⊤
StandsAtNone n session (Some its) = takes_action (session_ask (seat_at n session) its) ≡ false

abbrev pub StandsAtNoSlot : Now → ℕ → Type 0
StandsAtNoSlot n session = StandsAtNone n session (slice_get n.sessions session)

abbrev pub KeeperStandsAtNoSlot : Now → Type 0
KeeperStandsAtNoSlot n = takes_action (keeper_ask n.shape n.places n.keeper) ≡ false

-- a session alone moves, so often, and before none of these moves it stands at a slot
abbrev pub moves_alone : World → ℕ → ℕ → World
moves_alone w session count = run w (replicate count (Moves session))

abbrev pub IsFreeToMove : World → ℕ → ℕ → Type 0
IsFreeToMove w session count = (k : ℕ) → k < count → StandsAtNoSlot (moves_alone w session k).now session
