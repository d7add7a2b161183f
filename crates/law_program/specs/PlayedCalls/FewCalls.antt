-- How many calls begin by the pieces of a script.
use Rattle.std.specs.Prelude.{◌≡◌, ◌≤◌, ◌<◌, ◌+◌, ◌-◌, ◌*◌, ◌^◌, ℕ, List, [], ◌∷◌, length}
use Rattle.fkv_base.specs.Limits.{max_sessions}
use Rattle.fkv_runs.specs.Below.fkv_playing.Finishes.{most_rounds}
use Rattle.fkv_runs.specs.Below.fkv_playing.Players.{PlayerState}
use Rattle.fkv_runs.specs.Below.fkv_playing.Queues.{QueueState}
use Rattle.fkv_runs.specs.Below.fkv_playing.Waits.{Waits}
use Rattle.fkv_runs.specs.declared.pieces.Piece.{Piece}
use Rattle.fkv_runs.specs.declared.pieces.Piece.TheVariants.{Group, Finish}
use Rattle.law_order.specs.Below.fkv_world.World.{Event}
use Rattle.law_order.specs.Tickets.Few.{calls_in}

-- so many calls are left to begin, beside those that are in hand
abbrev pub left_in : List QueueState → ℕ
left_in [] = 0
left_in (queue ∷ others) = length queue.left + left_in others

-- In each of its rounds a finish refreshes and polls each session, and the keeper takes a turn.
abbrev pub most_of_finish : ℕ
most_of_finish = most_rounds * (2 * max_sessions + 1)

-- at most so many calls begin by a piece
abbrev pub begun_in : Piece → ℕ
begun_in (Group calls) = length calls.items
begun_in Finish = most_of_finish
begun_in other = 0

abbrev pub begun_in_all : List Piece → ℕ
begun_in_all [] = 0
begun_in_all (piece ∷ later) = begun_in piece + begun_in_all later

-- with the calls of these pieces fewer than 2^64 - 1 calls begin in a life of these events
abbrev pub HasFewWith : List Event → List Piece → Type 0
HasFewWith events pieces = calls_in events + begun_in_all pieces < 2 ^ 64 - 1

-- a store has few sessions, and a player a seat for each of them
abbrev pub HasFewSeats : {D : Type 0} → PlayerState D → Type 0
HasFewSeats player = length player.seats ≤ max_sessions

-- a line that fails a device, or crashes it, leaves the seats
abbrev pub ArmsKeepSeats : {D : Type 0} → (ℕ → Waits → PlayerState D → PlayerState D → Type 0) → Type 0
ArmsKeepSeats {D} armed = (count : ℕ) (waits : Waits) (before after : PlayerState D) → armed count waits before after → after.seats ≡ before.seats
