-- What a session has reserved, and how a reply moves that beside the log's events of the step.
use Rattle.std.specs.Prelude.{◌≡◌, ⊤, ℕ, ◌<◌, ◌≤◌, List, [], ◌∷◌, Option, Some, None, slice_get}
use Rattle.fkv_map.specs.declared.history.HistoryEntry.{HistoryEntry}
use Rattle.law_log.specs.Chains.{Cell, Logged, Unborn, Reserved}
use Rattle.law_log.specs.Ghosts.{Log, Ghosts, GhostEvent, Publishes, Drops, ghost_run}
use Rattle.fkv_plane.specs.declared.places.SharedWord.TheVariants as one
use Rattle.fkv_plane.specs.Asked.{asked, asked_place, word_at}
use Rattle.fkv_plane.specs.Places.{shared_place}
use Rattle.law_world.specs.Below.fkv_session.Sitting.{Sitting}
use Rattle.law_world.specs.Below.fkv_session.Sitting.TheVariants as sitting
use Rattle.law_world.specs.Below.fkv_session.Sessions.{SessionState, Seat, session_ask, session_next}
use Rattle.law_world.specs.Below.fkv_world.Past.{Traced}
use Rattle.law_world.specs.Below.fkv_world.World.{Now}
use Rattle.law_refine.specs.Events.GhostEvents.{safe_at}
use Rattle.law_refine.specs.Events.Reservations.{MovesOn, Reservation, attempt_reserves}
use Rattle.law_refine.specs.Events.Sessions.{sitting_ghosts}

abbrev pub sitting_reserves : ℕ → SessionState → Sitting → Option Reservation
sitting_reserves session s (sitting.Attempts has_shifted) = attempt_reserves session s.attempt s.attempt.step
sitting_reserves session s (sitting.Polls index) = attempt_reserves session s.attempt s.attempt.step
sitting_reserves session s step = None

abbrev pub reserved_by : ℕ → SessionState → Option Reservation
reserved_by session s = sitting_reserves session s s.step

-- A reply moves it as the step's events say: it stays, an address is taken at the tail, or the record is published or given up.
abbrev pub MovesReserved : Seat → List Traced → SessionState → ℕ → Type 0
MovesReserved k trace s reply =
    MovesOn (asked_place (session_ask k s)) (asked (session_ask k s)) reply (sitting_ghosts k trace s s.step reply) (reserved_by k.number s) (reserved_by k.number (session_next k s reply))

-- the session of this number has reserved this
pub record HasReserved (n : Now) (number : ℕ) (its : Reservation) : Type 0 where
  pub state : SessionState
  pub found : slice_get n.sessions number ≡ Some state
  pub reserved : reserved_by number state ≡ Some its

-- no two sessions have reserved one address
abbrev pub ReservationsAreApart : Now → Type 0
ReservationsAreApart n = (number other : ℕ) (its another : Reservation) → HasReserved n number its → HasReserved n other another → its.addr ≡ another.addr → number ≡ other

-- and what is reserved is at or above the safe read-only offset, and below the tail
abbrev pub tail_at : Now → ℕ
tail_at n = word_at n.words (shared_place one.Tail)

abbrev pub ReservationsAreOpen : Now → Type 0
ReservationsAreOpen n = (number : ℕ) (its : Reservation) → HasReserved n number its → (safe_at n ≤ its.addr) × (its.addr < tail_at n)

-- no address of the log from this one up has a record
abbrev pub IsUnbornFrom : ℕ → Ghosts → Type 0
IsUnbornFrom tail ghosts = (a : ℕ) → tail ≤ a → ghosts.log.cells a ≡ Unborn

-- no address has a record that is reserved
abbrev pub ReservesNothing : Ghosts → Type 0
ReservesNothing ghosts = (a : ℕ) (entry : HistoryEntry) (cell : Cell) → ghosts.log.cells a ≡ Reserved entry cell → ⊥

-- what a session has reserved is reserved in the log, with its entry and its record
abbrev pub AreReserved : Now → Ghosts → Type 0
AreReserved n ghosts = (number : ℕ) (its : Reservation) → HasReserved n number its → ghosts.log.cells its.addr ≡ Reserved its.entry its.cell

-- and what is reserved in the log is so by a session
pub record IsOfSession (n : Now) (a : ℕ) (entry : HistoryEntry) (cell : Cell) : Type 0 where
  pub number : ℕ
  pub its : Reservation
  pub has : HasReserved n number its
  pub its_addr : its.addr ≡ a
  pub its_entry : its.entry ≡ entry
  pub its_cell : its.cell ≡ cell

abbrev pub AreOfSessions : Now → Ghosts → Type 0
AreOfSessions n ghosts = (a : ℕ) (entry : HistoryEntry) (cell : Cell) → ghosts.log.cells a ≡ Reserved entry cell → IsOfSession n a entry cell

-- each record that these events publish or give up was reserved until then
abbrev pub IsReserved : Logged → Type 0
IsReserved (Reserved entry cell) = ⊤
IsReserved logged = ⊥

abbrev pub meets_reserved : Log → GhostEvent → Type 0
meets_reserved log (Publishes a) = IsReserved (log.cells a)
meets_reserved log (Drops a) = IsReserved (log.cells a)
meets_reserved log event = ⊤

unfoldable pub AllMeetReserved : (ℕ → ℕ) → Ghosts → List GhostEvent → Type 0
AllMeetReserved home ghosts [] = ⊤
AllMeetReserved home ghosts (event ∷ before) = meets_reserved (ghost_run home ghosts before).log event × AllMeetReserved home ghosts before
