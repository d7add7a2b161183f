-- How many asks a session's machines have left, at most: the sum of those of the machine inside that is under way, and of what may come
-- behind it. The puts and takes of actions count with them.
use Rattle.std.specs.Prelude.{◌≡◌, ℕ, ◌+◌, ◌-◌, ◌*◌, true, false, if◌then◌else◌, List, length, slice_get}
use Rattle.std.specs.List.{count_by}
use Rattle.fkv_base.specs.Limits.{drain_slots, max_pending}
use Rattle.fkv_base.specs.declared.shapes.Shape.{Shape}
use Rattle.fkv_map.specs.declared.operations.Call.{Call}
use Rattle.fkv_map.specs.declared.operations.Call.TheVariants as call
use Rattle.fkv_plane.specs.declared.places.Places.{Places}
use Rattle.fkv_plane.specs.Passing.{is_done}
use Rattle.fkv_epoch.specs.Refreshing.{refresh_finish, refresh_asks_left}
use Rattle.fkv_epoch.specs.Protecting.{protect_asks_left}
use Rattle.fkv_epoch.specs.Leaving.{leave_asks_left}
use Rattle.fkv_epoch.specs.Scanning.{scan_asks_left}
use Rattle.fkv_epoch.specs.Claiming.{claim_asks_left}
use Rattle.fkv_log.specs.Moving.{move_asks_most}
use Rattle.fkv_log.specs.Shifting.{shift_ask, shift_asks_left}
use Rattle.fkv_log.specs.Turning.{turn_ask, turn_asks_left, asks_past_closed}
use Rattle.fkv_log.specs.declared.turning.TurnForm.TheVariants.{OpensOnly}
use Rattle.fkv_latch.specs.declared.latching.Latching.{Latching}
use Rattle.fkv_latch.specs.declared.latching.Latching.TheVariants.{AtRest, AddsShare, LoadsWord, SetsExclusive}
use Rattle.fkv_plane.specs.AsksLeft.{sum_left}
use Rattle.fkv_pending.specs.declared.pending_requests.PendingRequest.{PendingRequest}
use Rattle.fkv_pending.specs.AsksLeft.{attempt_asks_left}
use Rattle.fkv_pending.specs.Mailing.{mail_asks_left}
use Rattle.fkv_pending.specs.Pending.{is_unlatched}
use Rattle.fkv_session.specs.declared.catching_up.Catching.{Catching}
use Rattle.fkv_session.specs.declared.catching_up.Catching.TheVariants as catch
use Rattle.fkv_session.specs.declared.own_turns.OwnTurning.{OwnTurning}
use Rattle.fkv_session.specs.declared.own_turns.OwnTurning.TheVariants as own_turn
use Rattle.fkv_session.specs.declared.sessions.CatchCause.TheVariants as cause
use Rattle.fkv_session.specs.declared.sessions.Sitting.{Sitting}
use Rattle.fkv_session.specs.declared.sessions.Sitting.TheVariants as sitting
use Rattle.fkv_session.specs.CatchingUp.{CatchState, latched}
use Rattle.fkv_session.specs.OwnTurns.{OwnTurnState}
use Rattle.fkv_session.specs.Sessions.{Seat, SessionState}

-- the updates that wait without their latches
abbrev pub unlatched : List PendingRequest → ℕ
unlatched requests = count_by is_unlatched requests

-- those but the one that is taking its latch
abbrev pub unlatched_besides : List PendingRequest → ℕ → ℕ
unlatched_besides requests index = unlatched (latched requests index (slice_get requests index))

-- A latch that is taken was one ask, and leaves the second to the one that follows. Only the last is given back
unfoldable pub share_asks_left : Latching → ℕ
share_asks_left AtRest = 0
share_asks_left (AddsShare place) = 2
share_asks_left (LoadsWord place) = 3
share_asks_left (SetsExclusive place word) = 2
share_asks_left step = 1

-- who refreshes stores the epoch word at the end
abbrev pub finish_asks_left : CatchState → ℕ
finish_asks_left c = if c.is_refresh then refresh_asks_left (refresh_finish c.refreshing) else 0

-- behind what is loaded come the cut word and the owing word, a latch for each update, one that is given back, and the epoch word
unfoldable pub catching_asks_left : CatchState → List PendingRequest → Catching → ℕ
catching_asks_left c requests catch.Ended = 0
catching_asks_left c requests catch.Refreshes = sum_left (refresh_asks_left c.refreshing) (unlatched requests + 4)
catching_asks_left c requests catch.Protects = sum_left (protect_asks_left c.protecting) (unlatched requests + finish_asks_left c + 3)
catching_asks_left c requests catch.StoresCut = unlatched requests + finish_asks_left c + 3
catching_asks_left c requests catch.StoresOwing = unlatched requests + finish_asks_left c + 2
catching_asks_left c requests (catch.Latches index) = sum_left (share_asks_left c.latching) (unlatched_besides requests index + finish_asks_left c)
catching_asks_left c requests catch.Finishes = refresh_asks_left c.refreshing

abbrev pub catch_asks_left : CatchState → List PendingRequest → ℕ
catch_asks_left c requests = catching_asks_left c requests c.step

-- those of a session that catches up, from its beginning on
abbrev pub most_catch_asks : List PendingRequest → ℕ
most_catch_asks requests = unlatched requests + 8

-- a turn's parts, as they begin
abbrev pub most_opening_asks : ℕ
most_opening_asks = asks_past_closed OpensOnly + 2

abbrev pub most_shift_asks : ℕ
most_shift_asks = move_asks_most + 2

abbrev pub most_claim_asks : ℕ
most_claim_asks = 5 * drain_slots + 1

abbrev pub most_own_turn_asks : Shape → ℕ
most_own_turn_asks shape = shape.sessions + 2 + (most_claim_asks + (most_shift_asks + most_opening_asks))

-- a shift or an opening that is at its end has none left
unfoldable pub own_turning_asks_left : Shape → OwnTurnState → OwnTurning → ℕ
own_turning_asks_left shape o own_turn.Ended = 0
own_turning_asks_left shape o own_turn.Scans = sum_left (scan_asks_left shape.sessions o.scanning) (most_claim_asks + (most_shift_asks + most_opening_asks))
own_turning_asks_left shape o own_turn.Claims = sum_left (claim_asks_left o.claiming) (most_shift_asks + most_opening_asks)
own_turning_asks_left shape o own_turn.Shifts = if is_done (shift_ask o.shift) then 0 else shift_asks_left o.shift + most_opening_asks
own_turning_asks_left shape o own_turn.Opens = if is_done (turn_ask shape o.turn) then 0 else turn_asks_left o.turn

abbrev pub own_turn_asks_left : Shape → OwnTurnState → ℕ
own_turn_asks_left shape o = own_turning_asks_left shape o o.step

-- those of an attempt
abbrev pub most_attempt_asks : Places → ℕ
most_attempt_asks p = 8 * (p.overflow + 1) + 2 * p.ring + 31

-- a poll from an index on: for each request from there an attempt and the owing word, and behind them a turn
abbrev pub most_poll_asks : Seat → List PendingRequest → ℕ → ℕ
most_poll_asks k requests index = (length requests - index) * (most_attempt_asks k.places + 1) + most_own_turn_asks k.shape

-- a first attempt that meets a shift has the session catch up and attempts it once more
unfoldable pub sitting_asks_left : Seat → SessionState → Sitting → ℕ
sitting_asks_left k s (sitting.Idle its) = 0
sitting_asks_left k s (sitting.Attempts false) = sum_left (attempt_asks_left k.places s.attempt) (most_catch_asks s.requests + (most_attempt_asks k.places + most_own_turn_asks k.shape))
sitting_asks_left k s (sitting.Attempts true) = sum_left (attempt_asks_left k.places s.attempt) (most_own_turn_asks k.shape)
sitting_asks_left k s (sitting.CatchesUp cause.Shifts) = sum_left (catch_asks_left s.catching s.requests) (most_attempt_asks k.places + most_own_turn_asks k.shape)
sitting_asks_left k s (sitting.CatchesUp why) = catch_asks_left s.catching s.requests
sitting_asks_left k s sitting.ClearsMail = sum_left (mail_asks_left s.mailing) (most_poll_asks k s.requests 0)
sitting_asks_left k s (sitting.Polls index) = sum_left (attempt_asks_left k.places s.attempt) (most_poll_asks k s.requests (index + 1) + 1)
sitting_asks_left k s (sitting.StoresOwing index) = most_poll_asks k s.requests index + 1
sitting_asks_left k s (sitting.Turns its) = own_turn_asks_left k.shape s.own_turn
sitting_asks_left k s sitting.StoresCut = 2
sitting_asks_left k s sitting.Leaves = leave_asks_left s.leaving
sitting_asks_left k s sitting.LoadsDurable = 1

abbrev pub session_asks_left : Seat → SessionState → ℕ
session_asks_left k s = sitting_asks_left k s s.step

-- the words that its seat has are those of a store of its shape
pub record IsOfShape (k : Seat) : Type 0 where
  pub overflow : k.places.overflow ≡ k.shape.overflow
  pub ring : k.places.ring ≡ k.shape.frames * k.shape.page

-- eight words of each bucket of a chain, two of each record of the ring, and 64
abbrev pub try_bound : Shape → ℕ
try_bound shape = 8 * (shape.overflow + 1) + 2 * (shape.frames * shape.page) + 64

-- an operation is tried twice at most, a poll tries each request once, and no other call tries any
abbrev pub call_bound : Shape → Call → ℕ
call_bound shape (call.Op op) = 2 * try_bound shape + 128
call_bound shape call.Poll = max_pending * try_bound shape + 128
call_bound shape its = 128
