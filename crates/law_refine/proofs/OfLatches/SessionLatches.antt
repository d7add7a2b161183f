-- How a session's calls, and the replies and actions that it gets, move its machine for latches.
use Rattle.std.proofs.Common.{◌≡◌, ℕ, ◌+◌, ◌∙◌, refl, sym, ap, subst, List, [], Bool, true, false, length}
use Rattle.std.specs.Prelude.{if◌then◌else◌, ◌==◌, ◌||◌, not, ⊤, Option, Some, None, slice_get, slice_set}
use Rattle.fkv_base.specs.declared.faults.Fault.{Fault}
use Rattle.fkv_base.specs.declared.faults.Fault.TheVariants as fault
use Rattle.fkv_map.specs.declared.operations.Call.{Call}
use Rattle.fkv_map.specs.declared.operations.Call.TheVariants as call
use Rattle.fkv_map.specs.declared.operations.Op.{Op}
use Rattle.fkv_plane.specs.declared.actions.Action.{Action}
use Rattle.fkv_plane.specs.declared.asks.Ask.{Ask}
use Rattle.fkv_plane.specs.declared.asks.Ask.TheVariants.{Load, Store, Swap, Cas, Add, Max, Put, Take, Done}
use Rattle.fkv_plane.specs.declared.places.Places.{Places}
use Rattle.fkv_plane.specs.Passing.{passed, is_done}
use Rattle.fkv_epoch.specs.declared.leaving.Leaving.TheVariants.{StoresZero}
use Rattle.fkv_epoch.specs.Leaving.{leave_ask, leave_next}
use Rattle.fkv_latch.specs.declared.latching.Latching.{Latching}
use Rattle.fkv_latch.specs.declared.latching.Latching.TheVariants as latching
use Rattle.fkv_latch.specs.Latching.{latch_ask, latch_next, latch_next_ask}
use Rattle.fkv_latch.specs.LatchWorld.{is_at_rest}
use Rattle.law_world.specs.Below.fkv_ops.Reason.{Reason}
use Rattle.law_world.specs.Below.fkv_ops.Reason.TheVariants as reason
use Rattle.law_world.specs.Below.fkv_ops.TryAnswer.{TryAnswer}
use Rattle.law_world.specs.Below.fkv_ops.TryAnswer.TheVariants as tried
use Rattle.law_world.specs.Below.fkv_ops.Occasion.TheVariants.{Call as AtCall, Poll as AtPoll}
use Rattle.law_world.specs.Below.fkv_ops.Bounds.{bounds_of}
use Rattle.law_world.specs.Below.fkv_ops.TheTrying.{Trying}
use Rattle.law_world.specs.Below.fkv_ops.TheTrying.TheVariants.{TakesShared, TakesExclusive, DropsExclusive, DropsShared}
use Rattle.law_world.specs.Below.fkv_ops.Requests.{is_read}
use Rattle.law_world.specs.Below.fkv_ops.Trying.{TryState, trying_ask}
use Rattle.law_world.specs.Below.fkv_pending.TheAttempting.{Attempting}
use Rattle.law_world.specs.Below.fkv_pending.TheAttempting.TheVariants.{Ended, Tries}
use Rattle.law_world.specs.Below.fkv_pending.MailAnswer.{MailAnswer}
use Rattle.law_world.specs.Below.fkv_pending.MailAnswer.TheVariants.{Cleared}
use Rattle.law_world.specs.Below.fkv_pending.MailTask.TheVariants.{Clear}
use Rattle.law_world.specs.Below.fkv_pending.TheMailing.TheVariants.{LoadsState}
use Rattle.law_world.specs.Below.fkv_pending.PendingRequest.{PendingRequest}
use Rattle.law_world.specs.Below.fkv_pending.Mailing.{mail_ask, mail_next}
use Rattle.law_world.specs.Below.fkv_pending.Attempting.{AttemptState, attempt_ask, attempting_ask}
use Rattle.law_world.proofs.Below.fkv_pending.Shown.{is_attempt_end, AttemptRestsOrAsks, attempt_done, attempt_begun_rests, attempt_rests}
use Rattle.law_world.specs.Below.fkv_session.Told.{Told}
use Rattle.law_world.specs.Below.fkv_session.Told.TheVariants as told
use Rattle.law_world.specs.Below.fkv_session.Catching.{Catching}
use Rattle.law_world.specs.Below.fkv_session.Catching.TheVariants.{Latches}
use Rattle.law_world.specs.Below.fkv_session.CatchCause.{CatchCause}
use Rattle.law_world.specs.Below.fkv_session.CatchCause.TheVariants.{Refreshes, Wakes, Shifts}
use Rattle.law_world.specs.Below.fkv_session.Sitting.{Sitting}
use Rattle.law_world.specs.Below.fkv_session.Sitting.TheVariants.{Idle, Attempts, CatchesUp, ClearsMail, Polls, StoresOwing, Turns, StoresCut, Leaves, LoadsDurable}
use Rattle.law_world.specs.Below.fkv_session.CatchingUp.{CatchState, catching_ask, catch_ask, refresh_begun, wake_begun}
use Rattle.law_world.specs.Below.fkv_session.OwnTurns.{own_turn_begun, own_turn_ask, own_turn_given}
use Rattle.law_world.specs.Below.fkv_session.Sessions.{SessionState, Seat, bits_of, room_of, answers, refuses, answers_after_turn, request_in_hand, attempts, polls_request, polls_at, refusal_of, op_begun, refresh_call, poll_begun, poll_call, sleep_call, wake_call, call_begun, session_begun, ticket_after, attempt_left, poll_left, serial_taken, update_done, is_no_room, lacks_room, with_request, accepts, shifts, attempted, attempt_ledto, caught_up, catch_ledto, clear_ledto, is_finished, is_owed, request_finished, finishes_request, keeps_request, poll_ledto, turn_ledto, leave_ledto, attempt_moved, caught, own_turn_moved, sitting_ask, session_ask, sitting_next, session_next, sitting_given, session_given, asks_after, is_word_ask}
use Rattle.law_world.proofs.OfGuardSessions.AttemptsOuter.{HomesAreLow}
use Rattle.law_world.proofs.OfGuardSessions.SessionsOuter.{Homes}
use Rattle.law_refine.specs.Latches.Latchers.{try_latching, attempt_latching, catch_latching, sitting_latching, session_latching, attempt_alone, sitting_alone, session_alone}
use Rattle.law_refine.proofs.OfLatches.TryLatches.{alone_given, is_first}
use Rattle.law_refine.proofs.OfLatches.AttemptLatches.{FitsAt, KeepsAt, IsFree, free_then, AttemptKnows, AttemptLed, attempt_begun_led, attempt_led, resting}
use Rattle.law_refine.proofs.OfLatches.CatchLatches.{CatchKnows, CatchLed, catch_led, alone_none, catch_ended}

pub record IsAttempt (p : Places) (a : AttemptState) : Type 0 where
  pub rests : AttemptRestsOrAsks a
  pub knows : AttemptKnows p a a.step

abbrev pub SittingKnows : Places → SessionState → Sitting → Type 0
SittingKnows p s (Attempts has_shifted) = IsAttempt p s.attempt
SittingKnows p s (Polls index) = IsAttempt p s.attempt
SittingKnows p s (CatchesUp cause) = CatchKnows s.catching s.catching.step
SittingKnows p s step = ⊤

pub record SessionLed (p : Places) (step : Latching) (held : List ℕ) (s : SessionState) : Type 0 where
  pub knows : SittingKnows p s s.step
  pub fits : FitsAt p step held (session_latching s) (session_alone p s)

abbrev Free : Seat → SessionState → Type 0
Free k s = SessionLed k.places latching.AtRest [] s

either_led : (c : Bool) (k : Seat) (a b : SessionState) → Free k a → Free k b → Free k (if c then a else b)
either_led true k a b one other = one
either_led false k a b one other = other

freed : (k : Seat) (step : Latching) (held : List ℕ) (s : SessionState) → IsFree step held → Free k s → SessionLed k.places step held s
freed k step held s free led = rw (free.rests, free.none) led

-- where no machine for latches is in hand
plain : (k : Seat) (s : SessionState) (step : Sitting) → s.step ≡ step → SittingKnows k.places s step → sitting_latching s step ≡ latching.AtRest → sitting_alone k.places s step ≡ [] → Free k s
plain k s step at knows rests none =
    let at' = sym at in
    record {
      knows = subst (λ x. SittingKnows k.places s x) at' knows;
      fits = subst (λ x. FitsAt k.places latching.AtRest [] (sitting_latching s x) (sitting_alone k.places s x)) at' (KeepsAt (sym rests) (sym none) (ap is_first rests));
    }

answers_led : (k : Seat) (s : SessionState) (its : Told) → Free k (answers s its)
answers_led k s its = record { knows = tt; fits = KeepsAt refl refl refl }

turn_after_led : (k : Seat) (s : SessionState) (its : Told) → Free k (answers_after_turn s its)
turn_after_led k s its = either_led s.wants_turn k (record s { own_turn = own_turn_begun s.own_turn; step = Turns its }) (answers s its) (record { knows = tt; fits = KeepsAt refl refl refl }) (answers_led k s its)

attempts_led : (k : Seat) (s : SessionState) (has_shifted : Bool) → Homes k → Free k (attempts k s has_shifted)
unfolding attempts
attempts_led k s has_shifted homes =
    let its = attempt_begun_led k.places (bits_of k) (request_in_hand s) s.seen (AtCall (bounds_of k.shape)) s.spare s.is_orphaned homes in
    record { knows = record { rests = attempt_begun_rests k.places (bits_of k) (request_in_hand s) s.seen (AtCall (bounds_of k.shape)) s.spare s.is_orphaned; knows = its.knows }; fits = its.fits }

polls_request_led : (k : Seat) (s : SessionState) (index : ℕ) (found : Option PendingRequest) → Homes k → Free k (polls_request k s index found)
polls_request_led k s index None homes = turn_after_led k s (told.Polled (length s.requests))
polls_request_led k s index (Some pending) homes =
    let its = attempt_begun_led k.places (bits_of k) pending s.seen AtPoll s.spare s.is_orphaned homes in
    record { knows = record { rests = attempt_begun_rests k.places (bits_of k) pending s.seen AtPoll s.spare s.is_orphaned; knows = its.knows }; fits = its.fits }

polls_led : (k : Seat) (s : SessionState) (index : ℕ) → Homes k → Free k (polls_at k s index)
unfolding polls_at
polls_led k s index homes = polls_request_led k s index (slice_get s.requests index) homes

accepts_led : (k : Seat) (s : SessionState) (why : Reason) → Free k (accepts s why)
unfolding accepts
accepts_led k s why =
    either_led (is_read s.op) k (answers (with_request (record s { ticket = ticket_after s.ticket })) (told.PendingRead (record { 0 = ticket_after s.ticket })))
    (answers_after_turn (with_request (serial_taken (record s { wants_turn = is_no_room why }))) (told.Pending (record { 0 = s.serial + 1 }) why))
    (answers_led k (with_request (record s { ticket = ticket_after s.ticket })) (told.PendingRead (record { 0 = ticket_after s.ticket })))
    (turn_after_led k (with_request (serial_taken (record s { wants_turn = is_no_room why }))) (told.Pending (record { 0 = s.serial + 1 }) why))

shifts_led : (k : Seat) (s : SessionState) (has_shifted : Bool) → Free k (shifts s has_shifted)
unfolding shifts
shifts_led k s false = record { knows = tt; fits = KeepsAt refl refl refl }
shifts_led k s true = accepts_led k s reason.Contended

attempted_led : (k : Seat) (s : SessionState) (has_shifted : Bool) (its : TryAnswer) → Free k (attempted s has_shifted its)
attempted_led k s has_shifted (tried.Done reply) = either_led (is_read s.op) k (answers s told.Absent) (update_done s reply) (answers_led k s told.Absent) (answers_led k (serial_taken s) (told.Done (record { 0 = s.serial + 1 }) reply))
attempted_led k s has_shifted (tried.Found value) = answers_led k s (told.Found value)
attempted_led k s has_shifted tried.Absent = answers_led k s told.Absent
attempted_led k s has_shifted (tried.Wait why) = accepts_led k s why
attempted_led k s has_shifted (tried.AwaitsDisk sought) = accepts_led k s reason.Disk
attempted_led k s has_shifted tried.Shift = shifts_led k s has_shifted
attempted_led k s has_shifted tried.IndexFull = answers_led k s (told.Refused fault.IndexFull)
attempted_led k s has_shifted tried.LogFull = answers_led k s (told.Refused fault.LogFull)

-- an attempt at its end works on no latch
end_is_free : (p : Places) (a : AttemptState) (at : Attempting) (step : Latching) (held : List ℕ) → is_attempt_end at ≡ true → FitsAt p step held (attempt_latching a at) (attempt_alone p a at) → IsFree step held
end_is_free p a (Ended its) step held ends fits = free_then p step held fits
end_is_free p a at step held ends fits = cc

has_ended : (k : Seat) (a : AttemptState) (its : TryAnswer) → AttemptRestsOrAsks a → attempt_ask k.places k.number a ≡ Done its → is_attempt_end a.step ≡ true
has_ended k a its rests asks = sym (attempt_done k.places k.number a rests) ∙ ap is_done asks

attempt_ends : (k : Seat) (step : Latching) (held : List ℕ) (s : SessionState) (has_shifted : Bool) (ask : Ask TryAnswer) → s.step ≡ Attempts has_shifted → attempt_ask k.places k.number s.attempt ≡ ask → AttemptRestsOrAsks s.attempt
    → AttemptLed k.places step held s.attempt → SessionLed k.places step held (attempt_ledto s has_shifted ask)
unfolding attempt_ledto
attempt_ends k step held s has_shifted (Done its) at asks rests led =
    freed k step held (attempted (attempt_left s) has_shifted its) (end_is_free k.places s.attempt s.attempt.step step held (has_ended k s.attempt its rests asks) led.fits) (attempted_led k (attempt_left s) has_shifted its)
attempt_ends k step held s has_shifted ask at asks rests led =
    let at' = sym at in
    record {
      knows = subst (λ x. SittingKnows k.places s x) at' (record { rests = rests; knows = led.knows });
      fits = subst (λ x. FitsAt k.places step held (sitting_latching s x) (sitting_alone k.places s x)) at' led.fits;
    }

finishes_led : (k : Seat) (s : SessionState) (index : ℕ) (its : TryAnswer) → Homes k → Free k (finishes_request k s index its)
unfolding finishes_request
finishes_led k s index its homes =
    either_led (is_owed s) k (request_finished s index its) (polls_at k (request_finished s index its) index) (record { knows = tt; fits = KeepsAt refl refl refl }) (polls_led k (request_finished s index its) index homes)

keeps_led : (k : Seat) (s : SessionState) (index : ℕ) (its : TryAnswer) → Homes k → Free k (keeps_request k s index its)
unfolding keeps_request
keeps_led k s index its homes = polls_led k (record s { requests = slice_set s.requests index s.attempt.pending; wants_turn = s.wants_turn || lacks_room its }) (index + 1) homes

poll_ends : (k : Seat) (step : Latching) (held : List ℕ) (s : SessionState) (index : ℕ) (ask : Ask TryAnswer) → s.step ≡ Polls index → attempt_ask k.places k.number s.attempt ≡ ask → Homes k → AttemptRestsOrAsks s.attempt
    → AttemptLed k.places step held s.attempt → SessionLed k.places step held (poll_ledto k s index ask)
unfolding poll_ledto
poll_ends k step held s index (Done its) at asks homes rests led =
    freed k step held _ (end_is_free k.places s.attempt s.attempt.step step held (has_ended k s.attempt its rests asks) led.fits)
    (either_led (is_finished its) k (finishes_request k (poll_left s) index its) (keeps_request k (poll_left s) index its)
    (finishes_led k (poll_left s) index its homes) (keeps_led k (poll_left s) index its homes))
poll_ends k step held s index ask at asks homes rests led =
    let at' = sym at in
    record {
      knows = subst (λ x. SittingKnows k.places s x) at' (record { rests = rests; knows = led.knows });
      fits = subst (λ x. FitsAt k.places step held (sitting_latching s x) (sitting_alone k.places s x)) at' led.fits;
    }

caught_up_led : (k : Seat) (s : SessionState) (cause : CatchCause) → Homes k → Free k (caught_up k s cause)
caught_up_led k s Refreshes homes = answers_led k s _
caught_up_led k s Wakes homes = answers_led k (record s { is_awake = true }) _
caught_up_led k s Shifts homes = attempts_led k s true homes

catch_ends : (k : Seat) (step : Latching) (s : SessionState) (cause : CatchCause) (ask : Ask (Unit {0})) → s.step ≡ CatchesUp cause → catch_ask k.places k.number s.catching s.requests ≡ ask → Homes k
    → CatchLed k.places step s.catching → SessionLed k.places step [] (catch_ledto k s cause ask)
unfolding catch_ledto
catch_ends k step s cause (Done its) at asks homes led =
    let rests = catch_ended k.places k.number s.catching s.requests s.catching.step its led.knows asks in
    freed k step [] _ (free_then k.places step [] (subst (λ x. FitsAt k.places step [] x []) rests led.fits)) (caught_up_led k (record s { seen = s.catching.seen }) cause homes)
catch_ends k step s cause ask at asks homes led =
    let at' = sym at in
    record {
      knows = subst (λ x. SittingKnows k.places s x) at' led.knows;
      fits = subst (λ x. FitsAt k.places step [] (sitting_latching s x) (sitting_alone k.places s x)) at' led.fits;
    }

clear_led : (k : Seat) (s : SessionState) (ask : Ask MailAnswer) → s.step ≡ ClearsMail → Homes k → Free k (clear_ledto k s ask)
unfolding clear_ledto
clear_led k s (Done Cleared) at homes = polls_led k (record s { is_orphaned = false }) 0 homes
clear_led k s (Done its) at homes = polls_led k s 0 homes
clear_led k s ask at homes = plain k s ClearsMail at tt refl refl

turn_led : (k : Seat) (s : SessionState) (its : Told) (ask : Ask (Unit {0})) → s.step ≡ Turns its → Free k (turn_ledto s its ask)
unfolding turn_ledto
turn_led k s its (Done through) at = answers_led k s its
turn_led k s its ask at = plain k s (Turns its) at tt refl refl

leave_led : (k : Seat) (s : SessionState) (ask : Ask (Unit {0})) → s.step ≡ Leaves → Free k (leave_ledto s ask)
unfolding leave_ledto
leave_led k s (Done its) at = answers_led k (record s { is_awake = false }) told.Slept
leave_led k s ask at = plain k s Leaves at tt refl refl

-- what a reply leads to
abbrev Led : Seat → SessionState → Sitting → ℕ → SessionState → Type 0
Led k s step reply after = SessionLed k.places (latch_next (sitting_latching s step) reply) (alone_given (sitting_latching s step) (latch_next_ask (sitting_latching s step) reply) (sitting_alone k.places s step)) after

at_rest : (k : Seat) (s : SessionState) (reply : ℕ) → Free k s → SessionLed k.places (latch_next latching.AtRest reply) [] s
at_rest k s reply led = resting (λ x. SessionLed k.places x [] s) reply led

step_led : (k : Seat) (s : SessionState) (asks : ℕ) (step : Sitting) (reply : ℕ) → s.step ≡ step → Homes k → SittingKnows k.places s step → Led k s step reply (sitting_next k (record s { asks = asks; effect = None }) step reply)
unfolding sitting_next
step_led k s asks (Idle its) reply at homes knows = at_rest k _ reply (plain k (record s { asks = asks; effect = None }) (Idle its) at tt refl refl)
step_led k s asks (Attempts has_shifted) reply at homes knows =
    let moved : SessionState = attempt_moved k (record s { asks = asks; effect = None }) reply in
    attempt_ends k _ _ moved has_shifted (attempt_ask k.places k.number moved.attempt) at refl (attempt_rests k.places (bits_of k) (room_of k) k.number s.attempt reply knows.rests)
    (attempt_led k.places (bits_of k) (room_of k) k.number s.attempt reply homes knows.rests knows.knows)
step_led k s asks (CatchesUp cause) reply at homes knows =
    let moved : SessionState = caught k (record s { asks = asks; effect = None }) reply in
    subst (λ x. SessionLed k.places (latch_next (catch_latching s.catching s.catching.step) reply) x (catch_ledto k moved cause (catch_ask k.places k.number moved.catching moved.requests))) (sym (alone_none s.catching s.catching.step reply knows))
    (catch_ends k _ moved cause (catch_ask k.places k.number moved.catching moved.requests) at refl homes (catch_led k.places (bits_of k) k.number s.catching s.requests reply homes knows))
step_led k s asks ClearsMail reply at homes knows =
    at_rest k _ reply (clear_led k (record s { asks = asks; effect = None; mailing = mail_next s.mailing reply }) (mail_ask k.number (mail_next s.mailing reply)) at homes)
step_led k s asks (Polls index) reply at homes knows =
    let moved : SessionState = attempt_moved k (record s { asks = asks; effect = None }) reply in
    poll_ends k _ _ moved index (attempt_ask k.places k.number moved.attempt) at refl homes (attempt_rests k.places (bits_of k) (room_of k) k.number s.attempt reply knows.rests)
    (attempt_led k.places (bits_of k) (room_of k) k.number s.attempt reply homes knows.rests knows.knows)
step_led k s asks (StoresOwing index) reply at homes knows = at_rest k _ reply (polls_led k (record s { asks = asks; effect = None }) index homes)
step_led k s asks (Turns its) reply at homes knows =
    let moved : SessionState = own_turn_moved k (record s { asks = asks; effect = None }) reply in
    at_rest k _ reply (turn_led k moved its (own_turn_ask k.shape moved.own_turn) at)
step_led k s asks StoresCut reply at homes knows = at_rest k (record s { asks = asks; effect = None; leaving = StoresZero; step = Leaves }) reply (record { knows = tt; fits = KeepsAt refl refl refl })
step_led k s asks Leaves reply at homes knows =
    at_rest k _ reply (leave_led k (record s { asks = asks; effect = None; leaving = leave_next s.leaving }) (leave_ask k.number (leave_next s.leaving)) at)
step_led k s asks LoadsDurable reply at homes knows = at_rest k _ reply (answers_led k (record s { asks = asks; effect = None }) _)

-- each reply
pub session_led : (k : Seat) (s : SessionState) (reply : ℕ) → HomesAreLow k.places (bits_of k) → SittingKnows k.places s s.step
    → SessionLed k.places (latch_next (session_latching s) reply) (alone_given (session_latching s) (latch_next_ask (session_latching s) reply) (session_alone k.places s)) (session_next k s reply)
session_led k s reply homes knows = step_led k s (asks_after s.asks (is_word_ask (session_ask k s))) s.step reply refl homes knows

-- an action is given to a turn alone
kept : (k : Seat) (s : SessionState) (step : Sitting) → s.step ≡ step → SittingKnows k.places s step → sitting_latching s step ≡ latching.AtRest → SessionLed k.places latching.AtRest (sitting_alone k.places s step) s
kept k s step at knows rests =
    let at' = sym at in
    record {
      knows = subst (λ x. SittingKnows k.places s x) at' knows;
      fits = subst (λ x. FitsAt k.places latching.AtRest (sitting_alone k.places s step) (sitting_latching s x) (sitting_alone k.places s x)) at' (KeepsAt (sym rests) refl (ap is_first rests));
    }

given_step : (k : Seat) (s : SessionState) (step : Sitting) (action : Action) → s.step ≡ step → SittingKnows k.places s step → sitting_latching s step ≡ latching.AtRest
    → SessionLed k.places latching.AtRest (sitting_alone k.places s step) (sitting_given k s step action)
unfolding sitting_given
given_step k s (Turns its) action at knows rests = turn_led k (record s { own_turn = own_turn_given s.own_turn action }) its (own_turn_ask k.shape (own_turn_given s.own_turn action)) at
given_step k s (Idle its) action at knows rests = kept k s (Idle its) at knows rests
given_step k s (Attempts has_shifted) action at knows rests = kept k s (Attempts has_shifted) at knows rests
given_step k s (CatchesUp cause) action at knows rests = kept k s (CatchesUp cause) at knows rests
given_step k s ClearsMail action at knows rests = kept k s ClearsMail at knows rests
given_step k s (Polls index) action at knows rests = kept k s (Polls index) at knows rests
given_step k s (StoresOwing index) action at knows rests = kept k s (StoresOwing index) at knows rests
given_step k s StoresCut action at knows rests = kept k s StoresCut at knows rests
given_step k s Leaves action at knows rests = kept k s Leaves at knows rests
given_step k s LoadsDurable action at knows rests = kept k s LoadsDurable at knows rests

pub given_led : (k : Seat) (s : SessionState) (action : Action) → SittingKnows k.places s s.step → session_latching s ≡ latching.AtRest → SessionLed k.places latching.AtRest (session_alone k.places s) (session_given k s action)
given_led k s action knows rests = given_step k s s.step action refl knows rests

-- a call that begins
op_led : (k : Seat) (s : SessionState) (op : Op) (why : Option Fault) → Homes k → Free k (op_begun k s op why)
unfolding op_begun
op_led k s op (Some why) homes = answers_led k s (told.Refused why)
op_led k s op None homes = attempts_led k (record s { op = op }) false homes

poll_led : (k : Seat) (s : SessionState) → Homes k → Free k (poll_begun k s)
poll_led k s homes = either_led s.is_orphaned k (record s { mailing = LoadsState Clear; step = ClearsMail }) (polls_at k s 0) (record { knows = tt; fits = KeepsAt refl refl refl }) (polls_led k s 0 homes)

call_led : (k : Seat) (s : SessionState) (its : Call) → Homes k → Free k (call_begun k s its)
unfolding refresh_call poll_call sleep_call wake_call
call_led k s (call.Op op) homes = op_led k s op (refusal_of s op) homes
call_led k s call.Refresh homes =
    either_led s.is_awake k (record s { catching = refresh_begun s.catching s.seen s.serial; step = CatchesUp Refreshes }) (refuses s fault.Asleep) (record { knows = tt; fits = KeepsAt refl refl refl }) (answers_led k s _)
call_led k s call.Poll homes = either_led s.is_awake k (poll_begun k (record s { finished = [] })) (refuses s fault.Asleep) (poll_led k (record s { finished = [] }) homes) (answers_led k s _)
call_led k s call.Sleep homes =
    either_led (not s.is_awake) k (refuses s fault.Asleep) (if length s.requests == 0 then record s { step = StoresCut } else refuses s fault.PendingLeft) (answers_led k s _)
    (either_led (length s.requests == 0) k (record s { step = StoresCut }) (refuses s fault.PendingLeft) (record { knows = tt; fits = KeepsAt refl refl refl }) (answers_led k s _))
call_led k s call.Wake homes =
    either_led s.is_awake k (refuses s fault.Awake) (record s { catching = wake_begun s.catching s.seen s.serial; step = CatchesUp Wakes }) (answers_led k s _) (record { knows = tt; fits = KeepsAt refl refl refl })
call_led k s call.Durable homes = record { knows = tt; fits = KeepsAt refl refl refl }

pub begun_led : (k : Seat) (s : SessionState) (its : Call) → HomesAreLow k.places (bits_of k) → SessionLed k.places latching.AtRest [] (session_begun k s its)
begun_led k s its homes = call_led k (record s { asks = 0; effect = None; wants_turn = false }) its homes

-- what is passed on twice is passed on
pub passed_twice : {A B C : Type 0} (ask : Ask A) (one : B) (other : C) → passed (passed ask one) other ≡ passed ask other
unfolding passed
passed_twice (Load place) one other = refl
passed_twice (Store place new) one other = refl
passed_twice (Swap place new) one other = refl
passed_twice (Cas place old new) one other = refl
passed_twice (Add place k) one other = refl
passed_twice (Max place k) one other = refl
passed_twice (Put slot action) one other = refl
passed_twice (Take slot) one other = refl
passed_twice (Done inner) one other = refl

try_asks : (p : Places) (t : TryState) (step : Trying) (told : Told) → is_at_rest (try_latching t step) ≡ false → passed (passed (trying_ask p t step) tried.Shift) told ≡ passed (latch_ask (try_latching t step)) told
unfolding trying_ask
try_asks p t TakesShared told works = passed_twice (passed (latch_ask t.latching) tried.Shift) tried.Shift told ∙ passed_twice (latch_ask t.latching) tried.Shift told
try_asks p t (TakesExclusive old) told works = passed_twice (passed (latch_ask t.latching) tried.Shift) tried.Shift told ∙ passed_twice (latch_ask t.latching) tried.Shift told
try_asks p t (DropsExclusive its) told works = passed_twice (passed (latch_ask t.latching) its) tried.Shift told ∙ passed_twice (latch_ask t.latching) its told
try_asks p t (DropsShared its) told works = passed_twice (passed (latch_ask t.latching) its) tried.Shift told ∙ passed_twice (latch_ask t.latching) its told
try_asks p t step told works = cc

attempt_asks : (p : Places) (session : ℕ) (a : AttemptState) (step : Attempting) (told : Told) → is_at_rest (attempt_latching a step) ≡ false → passed (attempting_ask p session a step) told ≡ passed (latch_ask (attempt_latching a step)) told
unfolding attempting_ask
attempt_asks p session a Tries told works = try_asks p a.trial a.trial.step told works
attempt_asks p session a step told works = cc

catch_asks : (p : Places) (session : ℕ) (c : CatchState) (requests : List PendingRequest) (step : Catching) (told : Told) → is_at_rest (catch_latching c step) ≡ false
    → passed (catching_ask p session c requests step) told ≡ passed (latch_ask (catch_latching c step)) told
unfolding catching_ask
catch_asks p session c requests (Latches index) told works = passed_twice (latch_ask c.latching) tt told
catch_asks p session c requests step told works = cc

sitting_asks : (k : Seat) (s : SessionState) (step : Sitting) → is_at_rest (sitting_latching s step) ≡ false → sitting_ask k s step ≡ passed (latch_ask (sitting_latching s step)) told.Slept
unfolding sitting_ask
sitting_asks k s (Attempts has_shifted) works = attempt_asks k.places k.number s.attempt s.attempt.step told.Slept works
sitting_asks k s (Polls index) works = attempt_asks k.places k.number s.attempt s.attempt.step told.Slept works
sitting_asks k s (CatchesUp cause) works = catch_asks k.places k.number s.catching s.requests s.catching.step told.Slept works
sitting_asks k s step works = cc

-- where a session works on a latch its ask is the machine's
pub session_asks : (k : Seat) (s : SessionState) → is_at_rest (session_latching s) ≡ false → session_ask k s ≡ passed (latch_ask (session_latching s)) told.Slept
session_asks k s works = sitting_asks k s s.step works
