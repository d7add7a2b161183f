-- How a reply to a session moves what it has reserved, beside the log's events of the step: none but an attempt reserves anything.
use Rattle.std.proofs.Common.{◌≡◌, ℕ, ◌+◌, ◌∙◌, refl, sym, ap, subst, Bool, true, false, List, []}
use Rattle.std.specs.Prelude.{◌||◌, if◌then◌else◌, Option, Some, None, slice_get, slice_set}
use Rattle.fkv_plane.specs.declared.asks.Ask.{Ask}
use Rattle.fkv_plane.specs.declared.asks.Ask.TheVariants.{Done}
use Rattle.fkv_plane.specs.Asked.{asked, asked_place}
use Rattle.fkv_plane.specs.Passing.{is_done}
use Rattle.fkv_epoch.specs.Leaving.{leave_ask, leave_next}
use Rattle.law_world.specs.Below.fkv_ops.Reason.{Reason}
use Rattle.law_world.specs.Below.fkv_ops.Reason.TheVariants as reason
use Rattle.law_world.specs.Below.fkv_ops.TryAnswer.{TryAnswer}
use Rattle.law_world.specs.Below.fkv_ops.TryAnswer.TheVariants as tried
use Rattle.law_world.specs.Below.fkv_ops.Occasion.TheVariants.{Call as AtCall, Poll as AtPoll}
use Rattle.law_world.specs.Below.fkv_ops.Bounds.{bounds_of}
use Rattle.law_world.specs.Below.fkv_ops.Requests.{is_read}
use Rattle.law_world.specs.Below.fkv_pending.TheAttempting.{Attempting}
use Rattle.law_world.specs.Below.fkv_pending.TheAttempting.TheVariants as attempting
use Rattle.law_world.specs.Below.fkv_pending.MailAnswer.{MailAnswer}
use Rattle.law_world.specs.Below.fkv_pending.MailAnswer.TheVariants.{Cleared}
use Rattle.law_world.specs.Below.fkv_pending.PendingRequest.{PendingRequest}
use Rattle.law_world.specs.Below.fkv_pending.Mailing.{mail_ask, mail_next}
use Rattle.law_world.specs.Below.fkv_pending.Attempting.{AttemptState, attempt_ask}
use Rattle.law_world.proofs.Below.fkv_pending.Shown.{is_attempt_end, AttemptRestsOrAsks, attempt_done, attempt_rests}
use Rattle.law_world.specs.Below.fkv_session.Told.{Told}
use Rattle.law_world.specs.Below.fkv_session.Told.TheVariants as told
use Rattle.law_world.specs.Below.fkv_session.CatchCause.{CatchCause}
use Rattle.law_world.specs.Below.fkv_session.CatchCause.TheVariants as cause
use Rattle.law_world.specs.Below.fkv_session.Sitting.{Sitting}
use Rattle.law_world.specs.Below.fkv_session.Sitting.TheVariants.{Idle, Attempts, CatchesUp, ClearsMail, Polls, StoresOwing, Turns, StoresCut, Leaves, LoadsDurable}
use Rattle.law_world.specs.Below.fkv_session.CatchingUp.{catch_ask}
use Rattle.law_world.specs.Below.fkv_session.OwnTurns.{own_turn_ask, own_turn_begun}
use Rattle.law_world.specs.Below.fkv_session.Sessions.{SessionState, Seat, bits_of, room_of, sitting_ask, session_ask, answers, answers_after_turn, request_in_hand, attempts, polls_request, polls_at, update_done, is_no_room, with_request, serial_taken, ticket_after, accepts, shifts, attempted, attempt_left, poll_left, attempt_ledto, caught_up, catch_ledto, clear_ledto, is_finished, is_owed, request_finished, finishes_request, lacks_room, keeps_request, poll_ledto, turn_ledto, leave_ledto, attempt_moved, caught, own_turn_moved, sitting_next, is_word_ask, asks_after}
use Rattle.law_world.specs.Below.fkv_world.Past.{Traced}
use Rattle.law_world.specs.Below.fkv_world.Runs.{World, run}
use Rattle.law_world.specs.Below.fkv_world.World.{Event, seat_at}
use Rattle.law_world.specs.GuardSessions.Rows.{SittingKnows}
use Rattle.law_world.specs.Guarded.Shows.{IsOpened}
use Rattle.law_world.proofs.OfGuarded.Worlds.{life_shows}
use Rattle.law_refine.specs.Events.Lines.{read_in_hand, read_waiting}
use Rattle.law_refine.specs.Events.Reservations.{MovesOn, Keeps, Reservation, attempt_reserves}
use Rattle.law_refine.specs.Events.Reserved.{MovesReserved, reserved_by, sitting_reserves}
use Rattle.law_refine.specs.Events.Sessions.{attempt_ghosts, ticket_of, sitting_ghosts}
use Rattle.law_refine.proofs.OfEvents.AppendSteps.{passes}
use Rattle.law_refine.proofs.OfEvents.AttemptSteps.{attempt_begun_free, attempt_on}

-- nothing is reserved by it
abbrev pub IsFreeOf : ℕ → SessionState → Type 0
IsFreeOf number s = reserved_by number s ≡ None

pub either_free : (number : ℕ) (c : Bool) (a b : SessionState) → IsFreeOf number a → IsFreeOf number b → IsFreeOf number (if c then a else b)
either_free number true a b one other = one
either_free number false a b one other = other

pub attempts_free : (number : ℕ) (k : Seat) (s : SessionState) (has_shifted : Bool) → IsFreeOf number (attempts k s has_shifted)
unfolding attempts
attempts_free number k s has_shifted = attempt_begun_free number k.places (bits_of k) (request_in_hand s) s.seen (AtCall (bounds_of k.shape)) s.spare s.is_orphaned

after_turn_free : (number : ℕ) (s : SessionState) (its : Told) → IsFreeOf number (answers_after_turn s its)
after_turn_free number s its = either_free number s.wants_turn (record s { own_turn = own_turn_begun s.own_turn; step = Turns its }) (answers s its) refl refl

request_free : (number : ℕ) (k : Seat) (s : SessionState) (index : ℕ) (found : Option PendingRequest) → IsFreeOf number (polls_request k s index found)
request_free number k s index None = after_turn_free number s _
request_free number k s index (Some pending) = attempt_begun_free number k.places (bits_of k) pending s.seen AtPoll s.spare s.is_orphaned

pub polls_free : (number : ℕ) (k : Seat) (s : SessionState) (index : ℕ) → IsFreeOf number (polls_at k s index)
unfolding polls_at
polls_free number k s index = request_free number k s index (slice_get s.requests index)

-- ---- where an attempt ends
accepts_free : (number : ℕ) (s : SessionState) (why : Reason) → IsFreeOf number (accepts s why)
unfolding accepts
accepts_free number s why =
    either_free number (is_read s.op) (answers (with_request (record s { ticket = ticket_after s.ticket })) (told.PendingRead (record { 0 = ticket_after s.ticket })))
    (answers_after_turn (with_request (serial_taken (record s { wants_turn = is_no_room why }))) (told.Pending (record { 0 = s.serial + 1 }) why)) refl
    (after_turn_free number (with_request (serial_taken (record s { wants_turn = is_no_room why }))) (told.Pending (record { 0 = s.serial + 1 }) why))

shifts_free : (number : ℕ) (s : SessionState) (has_shifted : Bool) → IsFreeOf number (shifts s has_shifted)
unfolding shifts
shifts_free number s false = refl
shifts_free number s true = accepts_free number s reason.Contended

attempted_free : (number : ℕ) (s : SessionState) (has_shifted : Bool) (its : TryAnswer) → IsFreeOf number (attempted s has_shifted its)
attempted_free number s has_shifted (tried.Done its) = either_free number (is_read s.op) (answers s told.Absent) (update_done s its) refl refl
attempted_free number s has_shifted (tried.Found value) = refl
attempted_free number s has_shifted tried.Absent = refl
attempted_free number s has_shifted (tried.Wait why) = accepts_free number s why
attempted_free number s has_shifted (tried.AwaitsDisk sought) = accepts_free number s reason.Disk
attempted_free number s has_shifted tried.Shift = shifts_free number s has_shifted
attempted_free number s has_shifted tried.IndexFull = refl
attempted_free number s has_shifted tried.LogFull = refl

finishes_free : (number : ℕ) (k : Seat) (s : SessionState) (index : ℕ) (its : TryAnswer) → IsFreeOf number (finishes_request k s index its)
unfolding finishes_request
finishes_free number k s index its = either_free number (is_owed s) (request_finished s index its) (polls_at k (request_finished s index its) index) refl (polls_free number k (request_finished s index its) index)

keeps_free : (number : ℕ) (k : Seat) (s : SessionState) (index : ℕ) (its : TryAnswer) → IsFreeOf number (keeps_request k s index its)
unfolding keeps_request
keeps_free number k s index its = polls_free number k (record s { requests = slice_set s.requests index s.attempt.pending; wants_turn = s.wants_turn || lacks_room its }) (index + 1)

ended_holds_none : (number : ℕ) (a : AttemptState) (step : Attempting) → is_attempt_end step ≡ true → attempt_reserves number a step ≡ None
ended_holds_none number a (attempting.Ended its) ends = refl
ended_holds_none number a step ends = cc

called_holds : (number : ℕ) (s : SessionState) (has_shifted : Bool) (ask : Ask TryAnswer) → s.step ≡ Attempts has_shifted → is_done ask ≡ is_attempt_end s.attempt.step
    → attempt_reserves number s.attempt s.attempt.step ≡ reserved_by number (attempt_ledto s has_shifted ask)
unfolding attempt_ledto
called_holds number s has_shifted (Done its) at ends = ended_holds_none number s.attempt s.attempt.step (sym ends) ∙ sym (attempted_free number (attempt_left s) has_shifted its)
called_holds number s has_shifted ask at ends = sym (ap (sitting_reserves number s) at)

polled_holds : (number : ℕ) (k : Seat) (s : SessionState) (index : ℕ) (ask : Ask TryAnswer) → s.step ≡ Polls index → is_done ask ≡ is_attempt_end s.attempt.step
    → attempt_reserves number s.attempt s.attempt.step ≡ reserved_by number (poll_ledto k s index ask)
unfolding poll_ledto
polled_holds number k s index (Done its) at ends =
    ended_holds_none number s.attempt s.attempt.step (sym ends)
    ∙ sym (either_free number (is_finished its) (finishes_request k (poll_left s) index its) (keeps_request k (poll_left s) index its)
    (finishes_free number k (poll_left s) index its) (keeps_free number k (poll_left s) index its))
polled_holds number k s index ask at ends = sym (ap (sitting_reserves number s) at)

-- ---- each other state
caught_free : (number : ℕ) (k : Seat) (s : SessionState) (its : CatchCause) → IsFreeOf number (caught_up k s its)
caught_free number k s cause.Refreshes = refl
caught_free number k s cause.Wakes = refl
caught_free number k s cause.Shifts = attempts_free number k s true

pub catch_free : (number : ℕ) (k : Seat) (s : SessionState) (its : CatchCause) (ask : Ask (Unit {0})) → s.step ≡ CatchesUp its → IsFreeOf number (catch_ledto k s its ask)
unfolding catch_ledto
catch_free number k s its (Done through) at = caught_free number k (record s { seen = s.catching.seen }) its
catch_free number k s its ask at = ap (sitting_reserves number s) at

pub clear_free : (number : ℕ) (k : Seat) (s : SessionState) (ask : Ask MailAnswer) → s.step ≡ ClearsMail → IsFreeOf number (clear_ledto k s ask)
unfolding clear_ledto
clear_free number k s (Done Cleared) at = polls_free number k (record s { is_orphaned = false }) 0
clear_free number k s (Done its) at = polls_free number k s 0
clear_free number k s ask at = ap (sitting_reserves number s) at

pub turn_free : (number : ℕ) (s : SessionState) (its : Told) (ask : Ask (Unit {0})) → s.step ≡ Turns its → IsFreeOf number (turn_ledto s its ask)
unfolding turn_ledto
turn_free number s its (Done through) at = refl
turn_free number s its ask at = ap (sitting_reserves number s) at

pub leave_free : (number : ℕ) (s : SessionState) (ask : Ask (Unit {0})) → s.step ≡ Leaves → IsFreeOf number (leave_ledto s ask)
unfolding leave_ledto
leave_free number s (Done its) at = refl
leave_free number s ask at = ap (sitting_reserves number s) at

-- ---- each reply to a session
free_on : (place : Option ℕ) (change : ℕ → ℕ) (reply number : ℕ) (after : SessionState) → IsFreeOf number after → MovesOn place change reply [] None (reserved_by number after)
free_on place change reply number after free = rw free (Keeps [] None tt)

rests_called : (s : SessionState) (has_shifted : Bool) → s.step ≡ Attempts has_shifted → SittingKnows s s.step → AttemptRestsOrAsks s.attempt
rests_called s has_shifted at knows = subst (SittingKnows s) at knows

rests_polled : (s : SessionState) (index : ℕ) → s.step ≡ Polls index → SittingKnows s s.step → AttemptRestsOrAsks s.attempt
rests_polled s index at knows = subst (SittingKnows s) at knows

abbrev MovesSitting : Seat → List Traced → SessionState → ℕ → Sitting → ℕ → Type 0
MovesSitting k trace s asks step reply =
    MovesOn (asked_place (sitting_ask k s step)) (asked (sitting_ask k s step)) reply (sitting_ghosts k trace s step reply) (sitting_reserves k.number s step) (reserved_by k.number (sitting_next k (record s { asks = asks; effect = None }) step reply))

sitting_on : (k : Seat) (trace : List Traced) (s : SessionState) (asks : ℕ) (step : Sitting) (reply : ℕ) → s.step ≡ step → SittingKnows s s.step → MovesSitting k trace s asks step reply
unfolding sitting_next sitting_ask
sitting_on k trace s asks (Idle its) reply at knows = free_on _ _ reply k.number (record s { asks = asks; effect = None }) (ap (sitting_reserves k.number (record s { asks = asks; effect = None })) at)
sitting_on k trace s asks (Attempts has_shifted) reply at knows =
    let rests = rests_called s has_shifted at knows in
    let after : SessionState = attempt_moved k (record s { asks = asks; effect = None }) reply in
    let held = called_holds k.number after has_shifted (attempt_ask k.places k.number after.attempt) at (attempt_done k.places k.number after.attempt (attempt_rests k.places (bits_of k) (room_of k) k.number s.attempt reply rests)) in
    passes (attempt_ask k.places k.number s.attempt) told.Slept reply _ _ _
    (subst (λ (x : Option Reservation). MovesOn (asked_place (attempt_ask k.places k.number s.attempt)) (asked (attempt_ask k.places k.number s.attempt)) reply (attempt_ghosts k (read_in_hand k.number trace) s.attempt reply) (attempt_reserves k.number s.attempt s.attempt.step) x)
    held (attempt_on k (read_in_hand k.number trace) s.attempt reply rests))
sitting_on k trace s asks (Polls index) reply at knows =
    let rests = rests_polled s index at knows in
    let reader : ℕ = read_waiting k.number (ticket_of s.attempt.pending.name) trace in
    let after : SessionState = attempt_moved k (record s { asks = asks; effect = None }) reply in
    let held = polled_holds k.number k after index (attempt_ask k.places k.number after.attempt) at (attempt_done k.places k.number after.attempt (attempt_rests k.places (bits_of k) (room_of k) k.number s.attempt reply rests)) in
    passes (attempt_ask k.places k.number s.attempt) told.Slept reply _ _ _
    (subst (λ (x : Option Reservation). MovesOn (asked_place (attempt_ask k.places k.number s.attempt)) (asked (attempt_ask k.places k.number s.attempt)) reply (attempt_ghosts k reader s.attempt reply) (attempt_reserves k.number s.attempt s.attempt.step) x)
    held (attempt_on k reader s.attempt reply rests))
sitting_on k trace s asks (CatchesUp its) reply at knows =
    let after : SessionState = caught k (record s { asks = asks; effect = None }) reply in
    let ask : Ask (Unit {0}) = catch_ask k.places k.number after.catching after.requests in
    free_on _ _ reply k.number (catch_ledto k after its ask) (catch_free k.number k after its ask at)
sitting_on k trace s asks ClearsMail reply at knows =
    let after : SessionState = record s { asks = asks; effect = None; mailing = mail_next s.mailing reply } in
    let ask : Ask MailAnswer = mail_ask k.number (mail_next s.mailing reply) in
    free_on _ _ reply k.number (clear_ledto k after ask) (clear_free k.number k after ask at)
sitting_on k trace s asks (StoresOwing index) reply at knows = free_on _ _ reply k.number (polls_at k (record s { asks = asks; effect = None }) index) (polls_free k.number k (record s { asks = asks; effect = None }) index)
sitting_on k trace s asks (Turns its) reply at knows =
    let after : SessionState = own_turn_moved k (record s { asks = asks; effect = None }) reply in
    let ask : Ask (Unit {0}) = own_turn_ask k.shape after.own_turn in
    free_on _ _ reply k.number (turn_ledto after its ask) (turn_free k.number after its ask at)
sitting_on k trace s asks StoresCut reply at knows = Keeps [] None tt
sitting_on k trace s asks Leaves reply at knows =
    let after : SessionState = record s { asks = asks; effect = None; leaving = leave_next s.leaving } in
    let ask : Ask (Unit {0}) = leave_ask k.number (leave_next s.leaving) in
    free_on _ _ reply k.number (leave_ledto after ask) (leave_free k.number after ask at)
sitting_on k trace s asks LoadsDurable reply at knows = Keeps [] None tt

pub session_on : (k : Seat) (trace : List Traced) (s : SessionState) (reply : ℕ) → SittingKnows s s.step → MovesReserved k trace s reply
session_on k trace s reply knows = sitting_on k trace s (asks_after s.asks (is_word_ask (session_ask k s))) s.step reply refl knows

-- at every moment of a life
pub life_on : (opening : World) (start : ℕ) (events : List Event) (number : ℕ) (s : SessionState) (reply : ℕ) → IsOpened opening.now start → slice_get (run opening events).now.sessions number ≡ Some s
    → MovesReserved (seat_at (run opening events).now number) (run opening events).past.trace s reply
life_on opening start events number s reply opened found =
    session_on (seat_at (run opening events).now number) (run opening events).past.trace s reply ((life_shows opening start events opened).sessions number s found).sits.knows
