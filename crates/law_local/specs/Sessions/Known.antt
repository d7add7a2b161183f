-- What is known of each request of a session that waits, and of the attempt that is under way, whatever facts these are.
use Rattle.std.specs.Prelude.{◌≡◌, ◌≢◌, ℕ, Bool, true, false, Some, None, slice_get}
use Rattle.fkv_map.specs.declared.operations.Call.{Call}
use Rattle.fkv_map.specs.declared.operations.Call.TheVariants as call
use Rattle.fkv_map.specs.declared.operations.Op.{Op}
use Rattle.fkv_plane.specs.declared.asks.Ask.{Ask}
use Rattle.fkv_plane.specs.declared.asks.Ask.TheVariants.{Done}
use Rattle.fkv_ops.specs.declared.answers.TryAnswer.{TryAnswer}
use Rattle.fkv_ops.specs.declared.answers.TryAnswer.TheVariants as tried
use Rattle.fkv_ops.specs.declared.requests.Occasion.TheVariants.{Call as AtCall, Poll as AtPoll}
use Rattle.fkv_ops.specs.declared.requests.Seen.{Seen}
use Rattle.fkv_pending.specs.declared.pending_requests.PendingRequest.{PendingRequest}
use Rattle.fkv_pending.specs.Attempting.{AttemptState, attempt_ask, attempt_begun, attempt_next}
use Rattle.fkv_pending.specs.Pending.{with_latch}
use Rattle.fkv_session.specs.declared.sessions.CatchCause.{CatchCause}
use Rattle.fkv_session.specs.declared.sessions.CatchCause.TheVariants.{Shifts}
use Rattle.fkv_session.specs.declared.sessions.Sitting.{Sitting}
use Rattle.fkv_session.specs.declared.sessions.Sitting.TheVariants.{Attempts, CatchesUp, ClearsMail, Polls, StoresOwing}
use Rattle.fkv_session.specs.CatchingUp.{CatchState, catch_ask, catch_next, catch_requests}
use Rattle.fkv_session.specs.Sessions.{SessionState, Seat, bits_of, room_of, is_finished, refusal_of, request_in_hand}
use Rattle.fkv_ops.specs.Bounds.{bounds_of}

-- an attempt is under way
abbrev pub is_attempting : Sitting → Bool
is_attempting (Attempts has_shifted) = true
is_attempting (Polls index) = true
is_attempting step = false

-- a poll is under way
abbrev pub is_polling : Sitting → Bool
is_polling ClearsMail = true
is_polling (Polls index) = true
is_polling (StoresOwing index) = true
is_polling step = false

-- Each request that waits is known so, but for the one that is polled: what the list has of it is out of date while its attempt is under
-- way. And so is the attempt.
pub record KnowsRequests (P : PendingRequest → Type 0) (Q : AttemptState → Type 0) (s : SessionState) : Type 0 where
  pub waiting : (index : ℕ) (pending : PendingRequest) → slice_get s.requests index ≡ Some pending → s.step ≢ Polls index → P pending
  pub attempted : is_attempting s.step ≡ true → Q s.attempt

-- what is known of a request that waits is known of the attempt that a poll begins for it
abbrev pub IsHandedOver : Seat → Seen → (PendingRequest → Type 0) → (AttemptState → Type 0) → Type 0
IsHandedOver k seen P Q = (pending : PendingRequest) (spare : ℕ) (is_orphaned : Bool) → P pending → Q (attempt_begun k.places (bits_of k) pending seen AtPoll spare is_orphaned)

-- and of an attempt that a call begins it is known as well
abbrev pub IsKnownAnew : Seat → PendingRequest → Seen → (AttemptState → Type 0) → Type 0
IsKnownAnew k pending seen Q = (spare : ℕ) (is_orphaned : Bool) → Q (attempt_begun k.places (bits_of k) pending seen (AtCall (bounds_of k.shape)) spare is_orphaned)

-- the answers with which a call's request is accepted and waits: a second shift is one of them
abbrev pub is_accepted : Bool → TryAnswer → Bool
is_accepted has_shifted (tried.Wait why) = true
is_accepted has_shifted (tried.AwaitsDisk sought) = true
is_accepted has_shifted tried.Shift = has_shifted
is_accepted has_shifted its = false

-- the attempt as a reply leaves it, and what it asks then
abbrev pub attempt_after : Seat → SessionState → ℕ → AttemptState
attempt_after k s reply = attempt_next k.places (bits_of k) (room_of k) k.number s.attempt reply

abbrev pub attempt_comes_to : Seat → SessionState → ℕ → Ask TryAnswer
attempt_comes_to k s reply = attempt_ask k.places k.number (attempt_after k s reply)

-- how the session has caught up with the store by a reply, and what is asked then
abbrev pub catch_after : Seat → SessionState → ℕ → CatchState
catch_after k s reply = catch_next k.places (bits_of k) k.number s.catching s.requests reply

abbrev pub catch_comes_to : Seat → SessionState → ℕ → Ask (Unit {0})
catch_comes_to k s reply = catch_ask k.places k.number (catch_after k s reply) (catch_requests s.catching s.requests reply)

-- the session as it goes by what it has caught up with
abbrev pub caught_up_at : Seat → SessionState → ℕ → SessionState
caught_up_at k s reply = record s { seen = (catch_after k s reply).seen }

-- By a reply what was known before (P and Q) is what is known behind it (P' and Q').
pub record KeepsKnown (k : Seat) (s : SessionState) (reply : ℕ) (P P' : PendingRequest → Type 0) (Q Q' : AttemptState → Type 0) : Type 0 where
  -- each request that waits
  pub waits : (pending : PendingRequest) → P pending → P' pending
  -- the attempt that goes on, or ends
  pub attempts : is_attempting s.step ≡ true → Q s.attempt → Q' (attempt_after k s reply)
  -- the request of a call that is accepted
  pub accepts : (has_shifted : Bool) (its : TryAnswer) → s.step ≡ Attempts has_shifted → attempt_comes_to k s reply ≡ Done its → is_accepted has_shifted its ≡ true → Q' (attempt_after k s reply) → P' (attempt_after k s reply).pending
  -- the request that goes on waiting behind its poll
  pub keeps : (index : ℕ) (its : TryAnswer) → s.step ≡ Polls index → attempt_comes_to k s reply ≡ Done its → is_finished its ≡ false → Q' (attempt_after k s reply) → P' (attempt_after k s reply).pending
  -- the attempt for the next request of a poll
  pub hands_over : is_polling s.step ≡ true → IsHandedOver k s.seen P' Q'
  -- the attempt that begins anew behind a shift
  pub begins_anew : (its : Unit {0}) → s.step ≡ CatchesUp Shifts → catch_comes_to k s reply ≡ Done its → IsKnownAnew k (request_in_hand (caught_up_at k s reply)) (catch_after k s reply).seen Q'
  -- the request whose latch is taken
  pub latches : (cause : CatchCause) (pending : PendingRequest) → s.step ≡ CatchesUp cause → P' pending → P' (with_latch pending true)

-- the operation is in hand
abbrev pub with_op : SessionState → Op → SessionState
with_op s op = record s { op = op }

-- It is known of the attempt that a call begins, where it begins one.
pub record BeginsKnown (k : Seat) (s : SessionState) (its : Call) (P : PendingRequest → Type 0) (Q : AttemptState → Type 0) : Type 0 where
  -- for its operation
  pub calls : (op : Op) → its ≡ call.Op op → refusal_of s op ≡ None → IsKnownAnew k (request_in_hand (with_op s op)) s.seen Q
  -- for the first request of a poll
  pub polls : its ≡ call.Poll → s.is_awake ≡ true → IsHandedOver k s.seen P Q

-- a test is passed
abbrev pub Passes : {A : Type 0} → (A → Bool) → A → Type 0
Passes test it = test it ≡ true
