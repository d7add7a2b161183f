-- In prepare each update that waits shares its latch.
use Rattle.std.specs.Prelude.{◌≡◌, ◌||◌, ⊤, ℕ, Bool, true, false, List, [], ◌∷◌}
use Rattle.law_refine.specs.Below.fkv_ops.TryAnswer.{TryAnswer}
use Rattle.law_refine.specs.Below.fkv_ops.TryAnswer.TheVariants as tried
use Rattle.law_refine.specs.Below.fkv_ops.Seen.{Seen}
use Rattle.law_refine.specs.Below.fkv_ops.Trying.{is_prepare}
use Rattle.law_refine.specs.Below.fkv_pending.PendingRequest.{PendingRequest}
use Rattle.fkv_plane.specs.declared.asks.Ask.{Ask}
use Rattle.fkv_plane.specs.declared.asks.Ask.TheVariants.{Done}
use Rattle.law_refine.specs.Below.fkv_session.Catching.{Catching}
use Rattle.law_refine.specs.Below.fkv_session.Catching.TheVariants.{Ended, Finishes, Protects, Refreshes}
use Rattle.law_refine.specs.Below.fkv_session.Sitting.{Sitting}
use Rattle.law_refine.specs.Below.fkv_session.Sitting.TheVariants.{Attempts, CatchesUp, Polls}
use Rattle.law_refine.specs.Below.fkv_session.SessionRun.{SessionEvent, Replies, session_run}
use Rattle.law_refine.specs.Below.fkv_session.Sessions.{Seat, SessionState}
use Rattle.law_refine.specs.Below.fkv_session.Shares.{AllUpdatesShare, attempt_told, is_shift}
use Rattle.law_refine.specs.Below.fkv_world.Opened.{HasBecome}
use Rattle.law_refine.specs.Below.fkv_world.OwnEvents.{session_events}
use Rattle.law_refine.specs.Below.fkv_world.Runs.{World}
use Rattle.law_refine.specs.Below.fkv_world.World.{Event, seat_at}
use Rattle.law_refine.specs.Below.law_world.Guarded.Shows as guard
use Rattle.law_refine.specs.Latches.Shows as latches
use Rattle.law_commit.specs.Floor.Stands.{OpensSeen}

abbrev pub is_shifted : Ask TryAnswer → Bool
is_shifted (Done tried.Shift) = true
is_shifted ask = false

-- An attempt ends as a shift and isn't made again: the second one at a call, or one of a poll. (At a poll the two faults are never told.)
abbrev pub shifts_at : Seat → SessionState → Sitting → ℕ → Bool
shifts_at k s (Attempts true) reply = is_shifted (attempt_told k s reply)
shifts_at k s (Polls index) reply = is_shift (attempt_told k s reply)
shifts_at k s step reply = false

abbrev pub shifts_by : Seat → SessionState → SessionEvent → Bool
shifts_by k s (Replies reply) = shifts_at k s s.step reply
shifts_by k s event = false

-- there was one
unfoldable pub has_shifted : Seat → SessionState → List SessionEvent → Bool
has_shifted k first [] = false
has_shifted k first (event ∷ before) = shifts_by k (session_run k first before) event || has_shifted k first before

-- in prepare all share
abbrev pub ShareIn : Seen → List PendingRequest → Type 0
ShareIn seen requests = is_prepare seen.phase ≡ true → AllUpdatesShare requests

-- A session that takes up a phase goes by what it takes up once it has taken its shares. While it takes them, some may share already.
abbrev pub ShareCatching : SessionState → Catching → Type 0
ShareCatching s Refreshes = ShareIn s.seen s.requests
ShareCatching s Protects = ShareIn s.seen s.requests
ShareCatching s Finishes = ShareIn s.catching.seen s.requests
ShareCatching s Ended = ShareIn s.catching.seen s.requests
ShareCatching s step = ⊤

abbrev pub ShareSitting : SessionState → Sitting → Type 0
ShareSitting s (CatchesUp cause) = ShareCatching s s.catching.step
ShareSitting s step = ShareIn s.seen s.requests

-- So it is at each moment of each session, if none of its attempts has ended so: between its calls and in them.
abbrev pub SharesInPrepare : Type 0
SharesInPrepare =
    (opening : World) (start : ℕ) (events : List Event) (session : ℕ) (first its : SessionState) → guard.IsOpened opening.now start → latches.IsOpened opening.now → OpensSeen opening.now → HasBecome opening events session first its
    → has_shifted (seat_at opening.now session) first (session_events opening session events) ≡ false → ShareSitting its its.step
