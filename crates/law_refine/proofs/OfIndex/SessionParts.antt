-- What a session is about in the index, and how a reply moves it.
use Rattle.std.proofs.Common.{◌≡◌, ℕ, ◌+◌, ◌∙◌, refl, sym, ap, subst, List, [], ◌∷◌, Bool, true, false, length}
use Rattle.std.specs.Prelude.{if◌then◌else◌, ◌==◌, ◌||◌, not, ⊤, Option, Some, None, slice_get, slice_set}
use Rattle.fkv_base.specs.declared.faults.Fault.{Fault}
use Rattle.fkv_base.specs.declared.faults.Fault.TheVariants as fault
use Rattle.fkv_map.specs.declared.operations.Call.{Call}
use Rattle.fkv_map.specs.declared.operations.Call.TheVariants as call
use Rattle.fkv_map.specs.declared.operations.Op.{Op}
use Rattle.fkv_plane.specs.declared.actions.Action.{Action}
use Rattle.fkv_plane.specs.declared.asks.Ask.{Ask}
use Rattle.fkv_plane.specs.declared.asks.Ask.TheVariants.{Done}
use Rattle.fkv_plane.specs.declared.places.Places.{Places}
use Rattle.fkv_plane.specs.Passing.{is_done}
use Rattle.fkv_epoch.specs.declared.leaving.Leaving.TheVariants.{StoresZero}
use Rattle.fkv_epoch.specs.Leaving.{leave_ask, leave_next}
use Rattle.law_world.specs.Below.fkv_ops.Reason.{Reason}
use Rattle.law_world.specs.Below.fkv_ops.Reason.TheVariants as reason
use Rattle.law_world.specs.Below.fkv_ops.TryAnswer.{TryAnswer}
use Rattle.law_world.specs.Below.fkv_ops.TryAnswer.TheVariants as tried
use Rattle.law_world.specs.Below.fkv_ops.Occasion.TheVariants.{Call as AtCall, Poll as AtPoll}
use Rattle.law_world.specs.Below.fkv_ops.Bounds.{bounds_of}
use Rattle.law_world.specs.Below.fkv_ops.Requests.{is_read}
use Rattle.law_world.specs.Below.fkv_pending.MailAnswer.{MailAnswer}
use Rattle.law_world.specs.Below.fkv_pending.MailAnswer.TheVariants.{Cleared}
use Rattle.law_world.specs.Below.fkv_pending.MailTask.TheVariants.{Clear}
use Rattle.law_world.specs.Below.fkv_pending.TheMailing.TheVariants.{LoadsState}
use Rattle.law_world.specs.Below.fkv_pending.PendingRequest.{PendingRequest}
use Rattle.law_world.specs.Below.fkv_pending.Mailing.{mail_ask, mail_next}
use Rattle.law_world.specs.Below.fkv_pending.Attempting.{AttemptState, attempt_ask}
use Rattle.law_world.proofs.Below.fkv_pending.Shown.{AttemptRestsOrAsks, attempt_done, attempt_begun_rests, attempt_rests}
use Rattle.law_world.specs.Below.fkv_session.Told.{Told}
use Rattle.law_world.specs.Below.fkv_session.Told.TheVariants as told
use Rattle.law_world.specs.Below.fkv_session.CatchCause.{CatchCause}
use Rattle.law_world.specs.Below.fkv_session.CatchCause.TheVariants.{Refreshes, Wakes, Shifts}
use Rattle.law_world.specs.Below.fkv_session.Sitting.{Sitting}
use Rattle.law_world.specs.Below.fkv_session.Sitting.TheVariants.{Idle, Attempts, CatchesUp, ClearsMail, Polls, StoresOwing, Turns, StoresCut, Leaves, LoadsDurable}
use Rattle.law_world.specs.Below.fkv_session.CatchingUp.{catch_ask, refresh_begun, wake_begun}
use Rattle.law_world.specs.Below.fkv_session.OwnTurns.{own_turn_begun, own_turn_ask, own_turn_given}
use Rattle.law_world.specs.Below.fkv_session.Sessions.{SessionState, Seat, IsOpened, is_busy, bits_of, room_of, answers, refuses, answers_after_turn, request_in_hand, attempts, polls_request, polls_at, refusal_of, op_begun, refresh_call, poll_begun, poll_call, sleep_call, wake_call, call_begun, ticket_after, attempt_left, poll_left, serial_taken, update_done, is_no_room, lacks_room, with_request, accepts, shifts, attempted, attempt_ledto, caught_up, catch_ledto, clear_ledto, is_finished, is_owed, request_finished, finishes_request, keeps_request, poll_ledto, turn_ledto, leave_ledto, attempt_moved, caught, own_turn_moved, session_ask, sitting_next, session_next, session_begun, session_given, sitting_given, asks_after, is_word_ask}
use Rattle.law_world.specs.Below.fkv_session.SessionRun.{SessionEvent, Begins as BeginsCall, Replies, Gets, begins, session_happens, session_run}
use Rattle.fkv_index.proofs.Shown.{homes_are_there}
use Rattle.law_refine.specs.Index.Finders.{NoWork, IndexPart, sitting_part, session_part}
use Rattle.law_refine.specs.Index.Searching.{AreSearchesMoved}
use Rattle.law_refine.proofs.OfIndex.Goes.{Drops, Goes, part, IsQuiet, stays_part, leads_on, search_moves}
use Rattle.law_refine.proofs.OfIndex.AttemptParts.{HaveHomes, AttemptKnows, AttemptGoes, attempt_begun_goes, attempt_goes, attempt_end_part}

pub record IsAttempt (p : Places) (a : AttemptState) : Type 0 where
  pub rests : AttemptRestsOrAsks a
  pub knows : AttemptKnows p a a.step

abbrev pub SittingKnows : Places → SessionState → Sitting → Type 0
SittingKnows p s (Attempts has_shifted) = IsAttempt p s.attempt
SittingKnows p s (Polls index) = IsAttempt p s.attempt
SittingKnows p s step = ⊤

-- behind a reply
pub record SessionGoes (p : Places) (reply : ℕ) (before : IndexPart) (s : SessionState) : Type 0 where
  pub knows : SittingKnows p s s.step
  pub goes : Goes p reply before (session_part s)

-- from where it is about nothing
abbrev Free : Seat → ℕ → SessionState → Type 0
Free k spare s = SessionGoes k.places 0 (part NoWork spare) s

abbrev pub Homes : Seat → Type 0
Homes k = HaveHomes k.places (bits_of k)

either_led : (c : Bool) (k : Seat) {spare : ℕ} (a b : SessionState) → Free k spare a → Free k spare b → Free k spare (if c then a else b)
either_led true k a b one other = one
either_led false k a b one other = other

freed : (k : Seat) (reply : ℕ) (before : IndexPart) (spare : ℕ) (s : SessionState) → Goes k.places reply before (part NoWork spare) → Free k spare s → SessionGoes k.places reply before s
freed k reply before spare s goes led = record { knows = led.knows; goes = leads_on k.places reply 0 before (session_part s) spare goes led.goes }

rests : (k : Seat) (spare : ℕ) → Goes k.places 0 (part NoWork spare) (part NoWork spare)
rests k spare = record { work = Drops tt refl; spare = refl }

-- where it is about nothing
plain : (k : Seat) (s : SessionState) (step : Sitting) → s.step ≡ step → SittingKnows k.places s step → sitting_part s step ≡ part NoWork s.spare → Free k s.spare s
plain k s step at knows none = record {
  knows = subst (λ x. SittingKnows k.places s x) (sym at) knows;
  goes = subst (λ x. Goes k.places 0 (part NoWork s.spare) x) (sym (ap (λ (x : Sitting). sitting_part s x) at ∙ none)) (rests k s.spare);
}

answers_led : (k : Seat) (s : SessionState) (its : Told) → Free k s.spare (answers s its)
answers_led k s its = record { knows = tt; goes = rests k s.spare }

turn_after_led : (k : Seat) (s : SessionState) (its : Told) → Free k s.spare (answers_after_turn s its)
turn_after_led k s its = either_led s.wants_turn k (record s { own_turn = own_turn_begun s.own_turn; step = Turns its }) (answers s its) (record { knows = tt; goes = rests k s.spare }) (answers_led k s its)

attempts_led : (k : Seat) (s : SessionState) (has_shifted : Bool) → Homes k → Free k s.spare (attempts k s has_shifted)
unfolding attempts
attempts_led k s has_shifted homes =
    let its = attempt_begun_goes k.places (bits_of k) 0 (request_in_hand s) s.seen (AtCall (bounds_of k.shape)) s.spare s.is_orphaned homes in
    record { knows = record { rests = attempt_begun_rests k.places (bits_of k) (request_in_hand s) s.seen (AtCall (bounds_of k.shape)) s.spare s.is_orphaned; knows = its.knows }; goes = its.goes }

polls_request_led : (k : Seat) (s : SessionState) (index : ℕ) (found : Option PendingRequest) → Homes k → Free k s.spare (polls_request k s index found)
polls_request_led k s index None homes = turn_after_led k s (told.Polled (length s.requests))
polls_request_led k s index (Some pending) homes =
    let its = attempt_begun_goes k.places (bits_of k) 0 pending s.seen AtPoll s.spare s.is_orphaned homes in
    record { knows = record { rests = attempt_begun_rests k.places (bits_of k) pending s.seen AtPoll s.spare s.is_orphaned; knows = its.knows }; goes = its.goes }

polls_led : (k : Seat) (s : SessionState) (index : ℕ) → Homes k → Free k s.spare (polls_at k s index)
unfolding polls_at
polls_led k s index homes = polls_request_led k s index (slice_get s.requests index) homes

accepts_led : (k : Seat) (s : SessionState) (why : Reason) → Free k s.spare (accepts s why)
unfolding accepts
accepts_led k s why =
    either_led (is_read s.op) k (answers (with_request (record s { ticket = ticket_after s.ticket })) (told.PendingRead (record { 0 = ticket_after s.ticket })))
    (answers_after_turn (with_request (serial_taken (record s { wants_turn = is_no_room why }))) (told.Pending (record { 0 = s.serial + 1 }) why))
    (answers_led k (with_request (record s { ticket = ticket_after s.ticket })) (told.PendingRead (record { 0 = ticket_after s.ticket })))
    (turn_after_led k (with_request (serial_taken (record s { wants_turn = is_no_room why }))) (told.Pending (record { 0 = s.serial + 1 }) why))

shifts_led : (k : Seat) (s : SessionState) (has_shifted : Bool) → Free k s.spare (shifts s has_shifted)
unfolding shifts
shifts_led k s false = record { knows = tt; goes = rests k s.spare }
shifts_led k s true = accepts_led k s reason.Contended

attempted_led : (k : Seat) (s : SessionState) (has_shifted : Bool) (its : TryAnswer) → Free k s.spare (attempted s has_shifted its)
attempted_led k s has_shifted (tried.Done reply) = either_led (is_read s.op) k (answers s told.Absent) (update_done s reply) (answers_led k s told.Absent) (answers_led k (serial_taken s) (told.Done (record { 0 = s.serial + 1 }) reply))
attempted_led k s has_shifted (tried.Found value) = answers_led k s (told.Found value)
attempted_led k s has_shifted tried.Absent = answers_led k s told.Absent
attempted_led k s has_shifted (tried.Wait why) = accepts_led k s why
attempted_led k s has_shifted (tried.AwaitsDisk sought) = accepts_led k s reason.Disk
attempted_led k s has_shifted tried.Shift = shifts_led k s has_shifted
attempted_led k s has_shifted tried.IndexFull = answers_led k s (told.Refused fault.IndexFull)
attempted_led k s has_shifted tried.LogFull = answers_led k s (told.Refused fault.LogFull)

has_ended : (k : Seat) (reply : ℕ) (before : IndexPart) (a : AttemptState) (its : TryAnswer) → AttemptRestsOrAsks a → attempt_ask k.places k.number a ≡ Done its → AttemptGoes k.places reply before a → Goes k.places reply before (part NoWork a.spare)
has_ended k reply before a its rests asks led = subst (λ x. Goes k.places reply before x) (attempt_end_part a a.step (sym (attempt_done k.places k.number a rests) ∙ ap is_done asks)) led.goes

attempt_ends : (k : Seat) (reply : ℕ) (before : IndexPart) (s : SessionState) (has_shifted : Bool) (ask : Ask TryAnswer) → s.step ≡ Attempts has_shifted → attempt_ask k.places k.number s.attempt ≡ ask → AttemptRestsOrAsks s.attempt
    → AttemptGoes k.places reply before s.attempt → SessionGoes k.places reply before (attempt_ledto s has_shifted ask)
unfolding attempt_ledto
attempt_ends k reply before s has_shifted (Done its) at asks rests led =
    freed k reply before s.attempt.spare (attempted (attempt_left s) has_shifted its) (has_ended k reply before s.attempt its rests asks led) (attempted_led k (attempt_left s) has_shifted its)
attempt_ends k reply before s has_shifted ask at asks rests led = record {
  knows = subst (λ x. SittingKnows k.places s x) (sym at) (record { rests = rests; knows = led.knows });
  goes = subst (λ x. Goes k.places reply before (sitting_part s x)) (sym at) led.goes;
}

finishes_led : (k : Seat) (s : SessionState) (index : ℕ) (its : TryAnswer) → Homes k → Free k s.spare (finishes_request k s index its)
unfolding finishes_request
finishes_led k s index its homes =
    either_led (is_owed s) k (request_finished s index its) (polls_at k (request_finished s index its) index) (record { knows = tt; goes = rests k s.spare }) (polls_led k (request_finished s index its) index homes)

keeps_led : (k : Seat) (s : SessionState) (index : ℕ) (its : TryAnswer) → Homes k → Free k s.spare (keeps_request k s index its)
unfolding keeps_request
keeps_led k s index its homes = polls_led k (record s { requests = slice_set s.requests index s.attempt.pending; wants_turn = s.wants_turn || lacks_room its }) (index + 1) homes

poll_ends : (k : Seat) (reply : ℕ) (before : IndexPart) (s : SessionState) (index : ℕ) (ask : Ask TryAnswer) → s.step ≡ Polls index → attempt_ask k.places k.number s.attempt ≡ ask → Homes k → AttemptRestsOrAsks s.attempt
    → AttemptGoes k.places reply before s.attempt → SessionGoes k.places reply before (poll_ledto k s index ask)
unfolding poll_ledto
poll_ends k reply before s index (Done its) at asks homes rests led =
    freed k reply before s.attempt.spare _ (has_ended k reply before s.attempt its rests asks led)
    (either_led (is_finished its) k (finishes_request k (poll_left s) index its) (keeps_request k (poll_left s) index its)
    (finishes_led k (poll_left s) index its homes) (keeps_led k (poll_left s) index its homes))
poll_ends k reply before s index ask at asks homes rests led = record {
  knows = subst (λ x. SittingKnows k.places s x) (sym at) (record { rests = rests; knows = led.knows });
  goes = subst (λ x. Goes k.places reply before (sitting_part s x)) (sym at) led.goes;
}

caught_up_led : (k : Seat) (s : SessionState) (cause : CatchCause) → Homes k → Free k s.spare (caught_up k s cause)
caught_up_led k s Refreshes homes = answers_led k s _
caught_up_led k s Wakes homes = answers_led k (record s { is_awake = true }) _
caught_up_led k s Shifts homes = attempts_led k s true homes

catch_ends : (k : Seat) (s : SessionState) (cause : CatchCause) (ask : Ask (Unit {0})) → s.step ≡ CatchesUp cause → Homes k → Free k s.spare (catch_ledto k s cause ask)
unfolding catch_ledto
catch_ends k s cause (Done its) at homes = caught_up_led k (record s { seen = s.catching.seen }) cause homes
catch_ends k s cause ask at homes = plain k s (CatchesUp cause) at tt refl

clear_led : (k : Seat) (s : SessionState) (ask : Ask MailAnswer) → s.step ≡ ClearsMail → Homes k → Free k s.spare (clear_ledto k s ask)
unfolding clear_ledto
clear_led k s (Done Cleared) at homes = polls_led k (record s { is_orphaned = false }) 0 homes
clear_led k s (Done its) at homes = polls_led k s 0 homes
clear_led k s ask at homes = plain k s ClearsMail at tt refl

turn_led : (k : Seat) (s : SessionState) (its : Told) (ask : Ask (Unit {0})) → s.step ≡ Turns its → Free k s.spare (turn_ledto s its ask)
unfolding turn_ledto
turn_led k s its (Done through) at = answers_led k s its
turn_led k s its ask at = plain k s (Turns its) at tt refl

leave_led : (k : Seat) (s : SessionState) (ask : Ask (Unit {0})) → s.step ≡ Leaves → Free k s.spare (leave_ledto s ask)
unfolding leave_ledto
leave_led k s (Done its) at = answers_led k (record s { is_awake = false }) told.Slept
leave_led k s ask at = plain k s Leaves at tt refl

at_rest : (k : Seat) (s : SessionState) (spare reply : ℕ) → Free k spare s → SessionGoes k.places reply (part NoWork spare) s
at_rest k s spare reply led = freed k reply (part NoWork spare) spare s (record { work = Drops tt refl; spare = refl }) led

step_led : (k : Seat) (s : SessionState) (asks : ℕ) (step : Sitting) (reply : ℕ) → s.step ≡ step → Homes k → SittingKnows k.places s step → SessionGoes k.places reply (sitting_part s step) (sitting_next k (record s { asks = asks; effect = None }) step reply)
unfolding sitting_next
step_led k s asks (Idle its) reply at homes knows = at_rest k _ s.spare reply (plain k (record s { asks = asks; effect = None }) (Idle its) at tt refl)
step_led k s asks (Attempts has_shifted) reply at homes knows =
    let moved : SessionState = attempt_moved k (record s { asks = asks; effect = None }) reply in
    attempt_ends k reply _ moved has_shifted (attempt_ask k.places k.number moved.attempt) at refl (attempt_rests k.places (bits_of k) (room_of k) k.number s.attempt reply knows.rests)
    (attempt_goes k.places (bits_of k) (room_of k) k.number s.attempt reply homes knows.rests knows.knows)
step_led k s asks (CatchesUp cause) reply at homes knows =
    let moved : SessionState = caught k (record s { asks = asks; effect = None }) reply in
    at_rest k _ s.spare reply (catch_ends k moved cause (catch_ask k.places k.number moved.catching moved.requests) at homes)
step_led k s asks ClearsMail reply at homes knows =
    at_rest k _ s.spare reply (clear_led k (record s { asks = asks; effect = None; mailing = mail_next s.mailing reply }) (mail_ask k.number (mail_next s.mailing reply)) at homes)
step_led k s asks (Polls index) reply at homes knows =
    let moved : SessionState = attempt_moved k (record s { asks = asks; effect = None }) reply in
    poll_ends k reply _ moved index (attempt_ask k.places k.number moved.attempt) at refl homes (attempt_rests k.places (bits_of k) (room_of k) k.number s.attempt reply knows.rests)
    (attempt_goes k.places (bits_of k) (room_of k) k.number s.attempt reply homes knows.rests knows.knows)
step_led k s asks (StoresOwing index) reply at homes knows = at_rest k _ s.spare reply (polls_led k (record s { asks = asks; effect = None }) index homes)
step_led k s asks (Turns its) reply at homes knows =
    let moved : SessionState = own_turn_moved k (record s { asks = asks; effect = None }) reply in
    at_rest k _ s.spare reply (turn_led k moved its (own_turn_ask k.shape moved.own_turn) at)
step_led k s asks StoresCut reply at homes knows = at_rest k (record s { asks = asks; effect = None; leaving = StoresZero; step = Leaves }) s.spare reply (record { knows = tt; goes = rests k s.spare })
step_led k s asks Leaves reply at homes knows =
    at_rest k _ s.spare reply (leave_led k (record s { asks = asks; effect = None; leaving = leave_next s.leaving }) (leave_ask k.number (leave_next s.leaving)) at)
step_led k s asks LoadsDurable reply at homes knows = at_rest k _ s.spare reply (answers_led k (record s { asks = asks; effect = None }) _)

-- each reply
pub session_goes : (k : Seat) (s : SessionState) (reply : ℕ) → Homes k → SittingKnows k.places s s.step → SessionGoes k.places reply (session_part s) (session_next k s reply)
session_goes k s reply homes knows = step_led k s (asks_after s.asks (is_word_ask (session_ask k s))) s.step reply refl homes knows

-- an action is given to a turn alone
given_led : (k : Seat) (s : SessionState) (step : Sitting) (action : Action) → s.step ≡ step → SittingKnows k.places s step → (sitting_part s step).work ≡ NoWork → SessionGoes k.places 0 (sitting_part s step) (sitting_given k s step action)
unfolding sitting_given
given_led k s (Turns its) action at knows none = turn_led k (record s { own_turn = own_turn_given s.own_turn action }) its (own_turn_ask k.shape (own_turn_given s.own_turn action)) at
given_led k s step action at knows none = record {
  knows = subst (λ x. SittingKnows k.places s x) (sym at) knows;
  goes = subst (λ x. Goes k.places 0 (sitting_part s step) (sitting_part s x)) (sym at) (stays_part k.places 0 (sitting_part s step) (subst IsQuiet (sym none) tt));
}

pub given_goes : (k : Seat) (s : SessionState) (action : Action) → SittingKnows k.places s s.step → (session_part s).work ≡ NoWork → SessionGoes k.places 0 (session_part s) (session_given k s action)
given_goes k s action knows none = given_led k s s.step action refl knows none

given_knows : (k : Seat) (s : SessionState) (step : Sitting) (action : Action) → s.step ≡ step → SittingKnows k.places s step → SittingKnows k.places (sitting_given k s step action) (sitting_given k s step action).step
unfolding sitting_given
given_knows k s (Turns its) action at knows = (turn_led k (record s { own_turn = own_turn_given s.own_turn action }) its (own_turn_ask k.shape (own_turn_given s.own_turn action)) at).knows
given_knows k s step action at knows = subst (λ x. SittingKnows k.places s x) (sym at) knows

-- a call that begins
op_led : (k : Seat) (s : SessionState) (op : Op) (why : Option Fault) → Homes k → Free k s.spare (op_begun k s op why)
unfolding op_begun
op_led k s op (Some why) homes = answers_led k s (told.Refused why)
op_led k s op None homes = attempts_led k (record s { op = op }) false homes

poll_led : (k : Seat) (s : SessionState) → Homes k → Free k s.spare (poll_begun k s)
poll_led k s homes = either_led s.is_orphaned k (record s { mailing = LoadsState Clear; step = ClearsMail }) (polls_at k s 0) (record { knows = tt; goes = rests k s.spare }) (polls_led k s 0 homes)

call_led : (k : Seat) (s : SessionState) (its : Call) → Homes k → Free k s.spare (call_begun k s its)
unfolding refresh_call poll_call sleep_call wake_call
call_led k s (call.Op op) homes = op_led k s op (refusal_of s op) homes
call_led k s call.Refresh homes =
    either_led s.is_awake k (record s { catching = refresh_begun s.catching s.seen s.serial; step = CatchesUp Refreshes }) (refuses s fault.Asleep) (record { knows = tt; goes = rests k s.spare }) (answers_led k s _)
call_led k s call.Poll homes = either_led s.is_awake k (poll_begun k (record s { finished = [] })) (refuses s fault.Asleep) (poll_led k (record s { finished = [] }) homes) (answers_led k s _)
call_led k s call.Sleep homes =
    either_led (not s.is_awake) k (refuses s fault.Asleep) (if length s.requests == 0 then record s { step = StoresCut } else refuses s fault.PendingLeft) (answers_led k s _)
    (either_led (length s.requests == 0) k (record s { step = StoresCut }) (refuses s fault.PendingLeft) (record { knows = tt; goes = rests k s.spare }) (answers_led k s _))
call_led k s call.Wake homes =
    either_led s.is_awake k (refuses s fault.Awake) (record s { catching = wake_begun s.catching s.seen s.serial; step = CatchesUp Wakes }) (answers_led k s _) (record { knows = tt; goes = rests k s.spare })
call_led k s call.Durable homes = record { knows = tt; goes = rests k s.spare }

pub call_goes : (k : Seat) (s : SessionState) (its : Call) → Homes k → SessionGoes k.places 0 (part NoWork s.spare) (session_begun k s its)
call_goes k s its homes = call_led k (record s { asks = 0; effect = None; wants_turn = false }) its homes

begun_knows : (k : Seat) (s : SessionState) (its : Call) (busy : Bool) → Homes k → SittingKnows k.places s s.step → SittingKnows k.places (begins k s busy its) (begins k s busy its).step
begun_knows k s its true homes knows = knows
begun_knows k s its false homes knows = (call_led k (record s { asks = 0; effect = None; wants_turn = false }) its homes).knows

pub idle_knows : (p : Places) (s : SessionState) (step : Sitting) → is_busy step ≡ false → SittingKnows p s step
idle_knows p s (Idle its) idle = tt
idle_knows p s step idle = cc

pub idle_part : (s : SessionState) (step : Sitting) → is_busy step ≡ false → sitting_part s step ≡ part NoWork s.spare
idle_part s (Idle its) idle = refl
idle_part s step idle = cc

event_knows : (k : Seat) (s : SessionState) (event : SessionEvent) → Homes k → SittingKnows k.places s s.step → SittingKnows k.places (session_happens k s event) (session_happens k s event).step
unfolding session_happens
event_knows k s (BeginsCall its) homes knows = begun_knows k s its (is_busy s.step) homes knows
event_knows k s (Replies reply) homes knows = (session_goes k s reply homes knows).knows
event_knows k s (Gets action) homes knows = given_knows k s s.step action refl knows

pub run_knows : (k : Seat) (opening : SessionState) (events : List SessionEvent) → Homes k → IsOpened opening → SittingKnows k.places (session_run k opening events) (session_run k opening events).step
unfolding session_run
run_knows k opening [] homes opened = idle_knows k.places opening opening.step opened.none_in_hand
run_knows k opening (event ∷ before) homes opened = event_knows k (session_run k opening before) event homes (run_knows k opening before homes opened)

-- what the law of searches says
pub run_moves : AreSearchesMoved
run_moves k opening events reply opened its =
    let homes : Homes k = λ key. homes_are_there k.places (bits_of k) key its in
    let goes = session_goes k (session_run k opening events) reply homes (run_knows k opening events homes opened) in
    search_moves k.places reply (session_part (session_run k opening events)).work (session_part (session_next k (session_run k opening events) reply)).work (session_part (session_next k (session_run k opening events) reply)).spare goes.goes.work
