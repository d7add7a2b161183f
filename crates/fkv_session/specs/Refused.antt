-- What a refused call leaves: all that it found but what its try has used up, and what it took up where it has caught up on its way.
use Rattle.std.specs.Prelude.{◌≡◌, ◌||◌, if◌then◌else◌, Bool, true, false, None, List, [], ◌∷◌, map}
use Rattle.fkv_base.specs.declared.faults.Fault.{Fault}
use Rattle.fkv_map.specs.declared.operations.Call.{Call}
use Rattle.fkv_pending.specs.declared.pending_requests.PendingRequest.{PendingRequest}
use Rattle.fkv_pending.specs.Pending.{with_latch}
use Rattle.fkv_session.specs.declared.answers.Told.TheVariants.{Refused}
use Rattle.fkv_session.specs.declared.sessions.Sitting.{Sitting}
use Rattle.fkv_session.specs.declared.sessions.Sitting.TheVariants.{Idle, CatchesUp}
use Rattle.fkv_session.specs.Sessions.{SessionState, Seat, is_busy, refuses, session_begun}
use Rattle.fkv_session.specs.SessionRun.{SessionEvent, Begins, session_run}

-- by what event a call begins, and as what the session stood then
abbrev pub begun_from : SessionState → SessionEvent → SessionState → SessionState
begun_from s (Begins its) earlier = if is_busy s.step then earlier else s
begun_from s event earlier = earlier

-- the session as it stood where the last call began
unfoldable pub before_call : Seat → SessionState → List SessionEvent → SessionState
before_call k opening [] = opening
before_call k opening (event ∷ before) = begun_from (session_run k opening before) event (before_call k opening before)

abbrev pub is_catching_up : Sitting → Bool
is_catching_up (CatchesUp cause) = true
is_catching_up step = false

abbrev pub catches_up_by : SessionState → SessionEvent → Bool → Bool
catches_up_by s (Begins its) earlier = if is_busy s.step then earlier else false
catches_up_by s event earlier = is_catching_up s.step || earlier

-- since the last call began, the session has caught up with the store, or gone some way
unfoldable pub has_caught_up : Seat → SessionState → List SessionEvent → Bool
has_caught_up k opening [] = false
has_caught_up k opening (event ∷ before) = catches_up_by (session_run k opening before) event (has_caught_up k opening before)

-- requests, whoever of them shares a latch
abbrev pub but_latches : List PendingRequest → List PendingRequest
but_latches requests = map (λ p. with_latch p false) requests

-- no serial and no ticket is taken, no request comes or goes, and what a poll has finished stays
pub record IsLeft (before after : SessionState) : Type 0 where
  pub serial : after.serial ≡ before.serial
  pub ticket : after.ticket ≡ before.ticket
  pub awake : after.is_awake ≡ before.is_awake
  pub finished : after.finished ≡ before.finished
  pub requests : but_latches after.requests ≡ but_latches before.requests

-- it goes by what it went by, and the requests share what they shared
pub record HasTakenNothingUp (before after : SessionState) : Type 0 where
  pub seen : after.seen ≡ before.seen
  pub requests : after.requests ≡ before.requests

pub record IsRefusal (before after : SessionState) (has_caught_up : Bool) : Type 0 where
  pub left : IsLeft before after
  pub took_nothing_up : has_caught_up ≡ false → HasTakenNothingUp before after

-- A call that is refused before its first ask leaves all as it was, and tells so.
abbrev pub IsRefusedWhole : Seat → SessionState → Call → Fault → Type 0
IsRefusedWhole k s its why = (session_begun k s its).step ≡ Idle (Refused why) → session_begun k s its ≡ refuses (record s { asks = 0; effect = None; wants_turn = false }) why
