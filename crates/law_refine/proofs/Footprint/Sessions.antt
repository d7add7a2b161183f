-- A session spares each part but where it works there: where it searches or publishes, where it works on a latch, where a task with its
-- mailbox is under way, and where it stores a mark.
use Rattle.std.proofs.Common.{◌≡◌, ℕ, ◌+◌, refl, sym, subst, List, [], ◌∷◌, length, Bool, true, false}
use Rattle.std.specs.Prelude.{if◌then◌else◌, ◌==◌, ◌||◌, not, ⊤, Option, Some, None, slice_get, slice_set}
use Rattle.fkv_base.specs.declared.faults.Fault.{Fault}
use Rattle.fkv_base.specs.declared.faults.Fault.TheVariants as fault
use Rattle.fkv_map.specs.declared.operations.Call.{Call}
use Rattle.fkv_map.specs.declared.operations.Call.TheVariants as call
use Rattle.fkv_map.specs.declared.operations.Op.{Op}
use Rattle.fkv_plane.specs.declared.actions.Action.{Action}
use Rattle.fkv_plane.specs.declared.asks.Ask.{Ask}
use Rattle.fkv_plane.specs.declared.asks.Ask.TheVariants.{Done}
use Rattle.fkv_plane.specs.declared.places.Places.{Places}
use Rattle.fkv_epoch.specs.Leaving.{leave_next}
use Rattle.fkv_latch.specs.declared.latching.Latching.TheVariants as latching
use Rattle.law_world.specs.Below.fkv_ops.Reason.{Reason}
use Rattle.law_world.specs.Below.fkv_ops.Reason.TheVariants as reason
use Rattle.law_world.specs.Below.fkv_ops.TryAnswer.{TryAnswer}
use Rattle.law_world.specs.Below.fkv_ops.TryAnswer.TheVariants as tried
use Rattle.law_world.specs.Below.fkv_ops.Occasion.TheVariants.{Call as AtCall, Poll as AtPoll}
use Rattle.law_world.specs.Below.fkv_ops.Bounds.{bounds_of}
use Rattle.law_world.specs.Below.fkv_ops.Requests.{is_read}
use Rattle.law_world.specs.Below.fkv_pending.MailAnswer.{MailAnswer}
use Rattle.law_world.specs.Below.fkv_pending.MailAnswer.TheVariants.{Cleared}
use Rattle.law_world.specs.Below.fkv_pending.MailTask.TheVariants.{Clear}
use Rattle.law_world.specs.Below.fkv_pending.TheMailing.TheVariants.{LoadsState}
use Rattle.law_world.specs.Below.fkv_pending.PendingRequest.{PendingRequest}
use Rattle.law_world.specs.Below.fkv_pending.Mailing.{mail_next}
use Rattle.law_world.specs.Below.fkv_session.Told.{Told}
use Rattle.law_world.specs.Below.fkv_session.Told.TheVariants as told
use Rattle.law_world.specs.Below.fkv_session.CatchCause.{CatchCause}
use Rattle.law_world.specs.Below.fkv_session.CatchCause.TheVariants.{Refreshes, Wakes, Shifts}
use Rattle.law_world.specs.Below.fkv_session.Sitting.{Sitting}
use Rattle.law_world.specs.Below.fkv_session.Sitting.TheVariants.{Idle, Attempts, CatchesUp, ClearsMail, Polls, StoresOwing, Turns, StoresCut, Leaves, LoadsDurable}
use Rattle.law_world.specs.Below.fkv_session.CatchingUp.{refresh_begun, wake_begun}
use Rattle.law_world.specs.Below.fkv_session.OwnTurns.{own_turn_begun, own_turn_given}
use Rattle.law_world.specs.Below.fkv_session.Sessions.{SessionState, Seat, IsOpened, bits_of, room_of, answers, refuses, answers_after_turn, request_in_hand, attempts, polls_request, polls_at, refusal_of, op_begun, refresh_call, poll_begun, poll_call, sleep_call, wake_call, call_begun, ticket_after, attempt_left, poll_left, serial_taken, update_done, is_no_room, lacks_room, with_request, accepts, shifts, attempted, attempt_ledto, caught_up, catch_ledto, clear_ledto, is_finished, is_owed, request_finished, finishes_request, keeps_request, poll_ledto, turn_ledto, leave_ledto, attempt_moved, caught, own_turn_moved, sitting_ask, session_ask, sitting_next, session_next, sitting_given, session_given, asks_after, is_word_ask, is_busy}
use Rattle.law_world.specs.Below.fkv_session.SessionRun.{SessionEvent, Begins, Replies, Gets, begins, session_happens, session_run}
use Rattle.law_refine.specs.Footprint.{Part, TheIndex, TheLatches, ThePhase, TheMarks, TheMailbox, HasSeat, Spares}
use Rattle.law_refine.specs.Index.Finders.{sitting_part, search_in, entry_in}
use Rattle.law_refine.specs.Latches.Latchers.{sitting_latching}
use Rattle.law_refine.specs.Mail.Mailers.{sitting_mailing}
use Rattle.law_refine.proofs.Footprint.Attempts.{mail_spares, is_other, IsAttemptSparing, attempt_spares, attempt_begun_spares, attempt_next_spares}
use Rattle.law_refine.proofs.Footprint.Catches.{IsCatchSparing, is_marking, not_marks, catch_spares, catch_next_spares}
use Rattle.law_refine.proofs.Footprint.Epochs.{leave_spares}
use Rattle.law_refine.proofs.Footprint.Latching.{passed_spares}
use Rattle.law_refine.proofs.Footprint.OwnTurns.{IsOwnTurnSparing, turn_stores, own_turn_spares, own_turn_next_spares, own_turn_given_spares, own_turn_begun_spares}
use Rattle.law_refine.proofs.OfIndex.SessionParts.{SittingKnows}
use Rattle.law_refine.proofs.Footprint.Outside.{owing_outside, cut_outside}

-- by its step: its attempt, its catching up, or its own turn keeps to its bounds
abbrev pub SittingBounds : Places → SessionState → Sitting → Type 0
SittingBounds p s (Attempts has_shifted) = IsAttemptSparing p s.attempt
SittingBounds p s (Polls index) = IsAttemptSparing p s.attempt
SittingBounds p s (CatchesUp cause) = IsCatchSparing p s.catching
SittingBounds p s (Turns its) = IsOwnTurnSparing s.own_turn
SittingBounds p s step = ⊤

abbrev pub IsSessionSparing : Places → SessionState → Type 0
IsSessionSparing p s = SittingBounds p s s.step

-- it stores one of its marks
abbrev pub sitting_marks : SessionState → Sitting → Bool
sitting_marks s (CatchesUp cause) = is_marking s.catching.step
sitting_marks s (StoresOwing index) = true
sitting_marks s StoresCut = true
sitting_marks s step = false

-- in its own turn it is about to store a phase
abbrev pub sitting_stores : SessionState → Sitting → Bool
sitting_stores s (Turns its) = turn_stores s.own_turn s.own_turn.step
sitting_stores s step = false

-- no machine that works on the part is under way
pub record SittingRests (part : Part) (k : Seat) (s : SessionState) (step : Sitting) : Type 0 where
  pub knows : part ≡ TheIndex → SittingKnows k.places s step
  pub search : part ≡ TheIndex → search_in (sitting_part s step).work ≡ None
  pub entry : part ≡ TheIndex → entry_in (sitting_part s step).work ≡ None
  pub latch : part ≡ TheLatches → sitting_latching s step ≡ latching.AtRest
  pub mail : part ≡ TheMailbox k.number → sitting_mailing s step ≡ None
  pub marks : part ≡ TheMarks k.number → sitting_marks s step ≡ false
  pub phase : part ≡ ThePhase → sitting_stores s step ≡ false

abbrev pub SessionRests : Part → Seat → SessionState → Type 0
SessionRests part k s = SittingRests part k s s.step

-- what it asks for
sitting_spares : (part : Part) (k : Seat) (s : SessionState) (step : Sitting) → HasSeat part k.places k.number → SittingBounds k.places s step → SittingRests part k s step → Spares part k.places (sitting_ask k s step)
unfolding sitting_ask
sitting_spares part k s (Idle its) there at rests = tt
sitting_spares part k s (Attempts has_shifted) there at rests =
    passed_spares part k.places _ _ (attempt_spares part k.places k.number s.attempt there at (record { knows = λ index. (rests.knows index).knows; search = rests.search; entry = rests.entry; latch = rests.latch; mail = rests.mail }))
sitting_spares part k s (CatchesUp cause) there at rests = passed_spares part k.places _ _ (catch_spares part k.places k.number s.catching s.requests there at rests.latch rests.marks)
sitting_spares part k s ClearsMail there at rests = passed_spares part k.places _ _ (mail_spares part k.places k.number s.mailing there (is_other part k.number s.mailing rests.mail))
sitting_spares part k s (Polls index) there at rests =
    passed_spares part k.places _ _ (attempt_spares part k.places k.number s.attempt there at (record { knows = λ same. (rests.knows same).knows; search = rests.search; entry = rests.entry; latch = rests.latch; mail = rests.mail }))
sitting_spares part k s (StoresOwing index) there at rests = owing_outside part k.places k.number there (not_marks part k.number rests.marks)
sitting_spares part k s (Turns its) there at rests = passed_spares part k.places _ _ (own_turn_spares part k.places k.shape s.own_turn at rests.phase)
sitting_spares part k s StoresCut there at rests = cut_outside part k.places k.number s.seen.version.0 there (not_marks part k.number rests.marks)
sitting_spares part k s Leaves there at rests = passed_spares part k.places _ _ (leave_spares part k.places k.number s.leaving there)
sitting_spares part k s LoadsDurable there at rests = tt

pub session_asks_spares : (part : Part) (k : Seat) (s : SessionState) → HasSeat part k.places k.number → IsSessionSparing k.places s → SessionRests part k s → Spares part k.places (session_ask k s)
session_asks_spares part k s there at rests = sitting_spares part k s s.step there at rests

-- where a call and a reply lead
either_spares : (c : Bool) (p : Places) (a b : SessionState) → IsSessionSparing p a → IsSessionSparing p b → IsSessionSparing p (if c then a else b)
either_spares true p a b one other = one
either_spares false p a b one other = other

stays_spares : (p : Places) (s : SessionState) (step : Sitting) → s.step ≡ step → SittingBounds p s step → IsSessionSparing p s
stays_spares p s step at spared = subst (λ x. SittingBounds p s x) (sym at) spared

turn_after_spares : (p : Places) (s : SessionState) (its : Told) → IsSessionSparing p (answers_after_turn s its)
turn_after_spares p s its = either_spares s.wants_turn p (record s { own_turn = own_turn_begun s.own_turn; step = Turns its }) (answers s its) (own_turn_begun_spares s.own_turn) tt

attempts_spares : (k : Seat) (s : SessionState) (has_shifted : Bool) → IsSessionSparing k.places (attempts k s has_shifted)
unfolding attempts
attempts_spares k s has_shifted = attempt_begun_spares k.places (bits_of k) (request_in_hand s) s.seen (AtCall (bounds_of k.shape)) s.spare s.is_orphaned

polls_request_spares : (k : Seat) (s : SessionState) (index : ℕ) (found : Option PendingRequest) → IsSessionSparing k.places (polls_request k s index found)
polls_request_spares k s index None = turn_after_spares k.places s (told.Polled (length s.requests))
polls_request_spares k s index (Some pending) = attempt_begun_spares k.places (bits_of k) pending s.seen AtPoll s.spare s.is_orphaned

polling_spares : (k : Seat) (s : SessionState) (index : ℕ) → IsSessionSparing k.places (polls_at k s index)
unfolding polls_at
polling_spares k s index = polls_request_spares k s index (slice_get s.requests index)

accepts_spares : (p : Places) (s : SessionState) (why : Reason) → IsSessionSparing p (accepts s why)
unfolding accepts
accepts_spares p s why =
    either_spares (is_read s.op) p (answers (with_request (record s { ticket = ticket_after s.ticket })) (told.PendingRead (record { 0 = ticket_after s.ticket })))
    (answers_after_turn (with_request (serial_taken (record s { wants_turn = is_no_room why }))) (told.Pending (record { 0 = s.serial + 1 }) why))
    tt (turn_after_spares p (with_request (serial_taken (record s { wants_turn = is_no_room why }))) (told.Pending (record { 0 = s.serial + 1 }) why))

shifts_spares : (p : Places) (s : SessionState) (has_shifted : Bool) → IsSessionSparing p (shifts s has_shifted)
unfolding shifts
shifts_spares p s false = tt
shifts_spares p s true = accepts_spares p s reason.Contended

attempted_spares : (p : Places) (s : SessionState) (has_shifted : Bool) (its : TryAnswer) → IsSessionSparing p (attempted s has_shifted its)
attempted_spares p s has_shifted (tried.Done reply) = either_spares (is_read s.op) p (answers s told.Absent) (update_done s reply) tt tt
attempted_spares p s has_shifted (tried.Wait why) = accepts_spares p s why
attempted_spares p s has_shifted (tried.AwaitsDisk sought) = accepts_spares p s reason.Disk
attempted_spares p s has_shifted tried.Shift = shifts_spares p s has_shifted
attempted_spares p s has_shifted its = tt

attempt_ledto_spares : (p : Places) (s : SessionState) (has_shifted : Bool) (ask : Ask TryAnswer) → s.step ≡ Attempts has_shifted → IsAttemptSparing p s.attempt → IsSessionSparing p (attempt_ledto s has_shifted ask)
unfolding attempt_ledto
attempt_ledto_spares p s has_shifted (Done its) at spared = attempted_spares p (attempt_left s) has_shifted its
attempt_ledto_spares p s has_shifted ask at spared = stays_spares p s (Attempts has_shifted) at spared

finishes_spares : (k : Seat) (s : SessionState) (index : ℕ) (its : TryAnswer) → IsSessionSparing k.places (finishes_request k s index its)
unfolding finishes_request
finishes_spares k s index its = either_spares (is_owed s) k.places (request_finished s index its) (polls_at k (request_finished s index its) index) tt (polling_spares k (request_finished s index its) index)

keeps_spares : (k : Seat) (s : SessionState) (index : ℕ) (its : TryAnswer) → IsSessionSparing k.places (keeps_request k s index its)
unfolding keeps_request
keeps_spares k s index its = polling_spares k (record s { requests = slice_set s.requests index s.attempt.pending; wants_turn = s.wants_turn || lacks_room its }) (index + 1)

poll_ledto_spares : (k : Seat) (s : SessionState) (index : ℕ) (ask : Ask TryAnswer) → s.step ≡ Polls index → IsAttemptSparing k.places s.attempt → IsSessionSparing k.places (poll_ledto k s index ask)
unfolding poll_ledto
poll_ledto_spares k s index (Done its) at spared =
    either_spares (is_finished its) k.places (finishes_request k (poll_left s) index its) (keeps_request k (poll_left s) index its)
    (finishes_spares k (poll_left s) index its) (keeps_spares k (poll_left s) index its)
poll_ledto_spares k s index ask at spared = stays_spares k.places s (Polls index) at spared

caught_up_spares : (k : Seat) (s : SessionState) (cause : CatchCause) → IsSessionSparing k.places (caught_up k s cause)
caught_up_spares k s Refreshes = tt
caught_up_spares k s Wakes = tt
caught_up_spares k s Shifts = attempts_spares k s true

catch_ledto_spares : (k : Seat) (s : SessionState) (cause : CatchCause) (ask : Ask (Unit {0})) → s.step ≡ CatchesUp cause → IsCatchSparing k.places s.catching → IsSessionSparing k.places (catch_ledto k s cause ask)
unfolding catch_ledto
catch_ledto_spares k s cause (Done its) at place = caught_up_spares k (record s { seen = s.catching.seen }) cause
catch_ledto_spares k s cause ask at place = stays_spares k.places s (CatchesUp cause) at place

clear_spares : (k : Seat) (s : SessionState) (ask : Ask MailAnswer) → s.step ≡ ClearsMail → IsSessionSparing k.places (clear_ledto k s ask)
unfolding clear_ledto
clear_spares k s (Done Cleared) at = polling_spares k (record s { is_orphaned = false }) 0
clear_spares k s (Done its) at = polling_spares k s 0
clear_spares k s ask at = stays_spares k.places s ClearsMail at tt

turn_ledto_spares : (p : Places) (s : SessionState) (its : Told) (ask : Ask (Unit {0})) → s.step ≡ Turns its → IsOwnTurnSparing s.own_turn → IsSessionSparing p (turn_ledto s its ask)
unfolding turn_ledto
turn_ledto_spares p s its (Done through) at spared = tt
turn_ledto_spares p s its ask at spared = stays_spares p s (Turns its) at spared

leave_ledto_spares : (p : Places) (s : SessionState) (ask : Ask (Unit {0})) → s.step ≡ Leaves → IsSessionSparing p (leave_ledto s ask)
unfolding leave_ledto
leave_ledto_spares p s (Done its) at = tt
leave_ledto_spares p s ask at = stays_spares p s Leaves at tt

next_spares : (k : Seat) (s : SessionState) (step : Sitting) (reply : ℕ) → s.step ≡ step → SittingBounds k.places s step → IsSessionSparing k.places (sitting_next k s step reply)
unfolding sitting_next
next_spares k s (Idle its) reply at spared = stays_spares k.places s (Idle its) at tt
next_spares k s (Attempts has_shifted) reply at spared = attempt_ledto_spares k.places (attempt_moved k s reply) has_shifted _ at (attempt_next_spares k.places (bits_of k) (room_of k) k.number s.attempt reply spared)
next_spares k s (CatchesUp cause) reply at spared = catch_ledto_spares k (caught k s reply) cause _ at (catch_next_spares k.places (bits_of k) k.number s.catching s.requests reply spared)
next_spares k s ClearsMail reply at spared = clear_spares k (record s { mailing = mail_next s.mailing reply }) _ at
next_spares k s (Polls index) reply at spared = poll_ledto_spares k (attempt_moved k s reply) index _ at (attempt_next_spares k.places (bits_of k) (room_of k) k.number s.attempt reply spared)
next_spares k s (StoresOwing index) reply at spared = polling_spares k s index
next_spares k s (Turns its) reply at spared = turn_ledto_spares k.places (own_turn_moved k s reply) its _ at (own_turn_next_spares k.shape s.own_turn reply spared)
next_spares k s StoresCut reply at spared = tt
next_spares k s Leaves reply at spared = leave_ledto_spares k.places (record s { leaving = leave_next s.leaving }) _ at
next_spares k s LoadsDurable reply at spared = tt

counted_spares : (p : Places) (s : SessionState) (asks : ℕ) (step : Sitting) → SittingBounds p s step → SittingBounds p (record s { asks = asks; effect = None }) step
counted_spares p s asks (Attempts has_shifted) spared = spared
counted_spares p s asks (Polls index) spared = spared
counted_spares p s asks (Turns its) spared = spared
counted_spares p s asks (CatchesUp cause) spared = spared
counted_spares p s asks step spared = tt

session_next_spares : (k : Seat) (s : SessionState) (reply : ℕ) → IsSessionSparing k.places s → IsSessionSparing k.places (session_next k s reply)
session_next_spares k s reply spared =
    let asks : ℕ = asks_after s.asks (is_word_ask (session_ask k s)) in
    next_spares k (record s { asks = asks; effect = None }) s.step reply refl (counted_spares k.places s asks s.step spared)

given_spares : (k : Seat) (s : SessionState) (step : Sitting) (action : Action) → s.step ≡ step → SittingBounds k.places s step → IsSessionSparing k.places (sitting_given k s step action)
unfolding sitting_given
given_spares k s (Turns its) action at spared = turn_ledto_spares k.places (record s { own_turn = own_turn_given s.own_turn action }) its _ at (own_turn_given_spares s.own_turn action spared)
given_spares k s step action at spared = stays_spares k.places s step at spared

session_given_spares : (k : Seat) (s : SessionState) (action : Action) → IsSessionSparing k.places s → IsSessionSparing k.places (session_given k s action)
session_given_spares k s action spared = given_spares k s s.step action refl spared

-- a call
op_spares : (k : Seat) (s : SessionState) (op : Op) (why : Option Fault) → IsSessionSparing k.places (op_begun k s op why)
unfolding op_begun
op_spares k s op (Some why) = tt
op_spares k s op None = attempts_spares k (record s { op = op }) false

refresh_call_spares : (p : Places) (s : SessionState) → IsSessionSparing p (refresh_call s)
unfolding refresh_call
refresh_call_spares p s = either_spares s.is_awake p (record s { catching = refresh_begun s.catching s.seen s.serial; step = CatchesUp Refreshes }) (refuses s fault.Asleep) tt tt

poll_begun_spares : (k : Seat) (s : SessionState) → IsSessionSparing k.places (poll_begun k s)
poll_begun_spares k s = either_spares s.is_orphaned k.places (record s { mailing = LoadsState Clear; step = ClearsMail }) (polls_at k s 0) tt (polling_spares k s 0)

poll_call_spares : (k : Seat) (s : SessionState) → IsSessionSparing k.places (poll_call k s)
unfolding poll_call
poll_call_spares k s = either_spares s.is_awake k.places (poll_begun k (record s { finished = [] })) (refuses s fault.Asleep) (poll_begun_spares k (record s { finished = [] })) tt

sleep_spares : (p : Places) (s : SessionState) → IsSessionSparing p (sleep_call s)
unfolding sleep_call
sleep_spares p s = either_spares (not s.is_awake) p (refuses s fault.Asleep) _ tt (either_spares (length s.requests == 0) p (record s { step = StoresCut }) (refuses s fault.PendingLeft) tt tt)

wake_spares : (p : Places) (s : SessionState) → IsSessionSparing p (wake_call s)
unfolding wake_call
wake_spares p s = either_spares s.is_awake p (refuses s fault.Awake) (record s { catching = wake_begun s.catching s.seen s.serial; step = CatchesUp Wakes }) tt tt

call_spares : (k : Seat) (s : SessionState) (its : Call) → IsSessionSparing k.places (call_begun k s its)
call_spares k s (call.Op op) = op_spares k s op (refusal_of s op)
call_spares k s call.Refresh = refresh_call_spares k.places s
call_spares k s call.Poll = poll_call_spares k s
call_spares k s call.Sleep = sleep_spares k.places s
call_spares k s call.Wake = wake_spares k.places s
call_spares k s call.Durable = tt

begins_spares : (k : Seat) (s : SessionState) (busy : Bool) (its : Call) → IsSessionSparing k.places s → IsSessionSparing k.places (begins k s busy its)
begins_spares k s true its spared = spared
begins_spares k s false its spared = call_spares k (record s { asks = 0; effect = None; wants_turn = false }) its

happens_spares : (k : Seat) (s : SessionState) (event : SessionEvent) → IsSessionSparing k.places s → IsSessionSparing k.places (session_happens k s event)
unfolding session_happens
happens_spares k s (Begins its) spared = begins_spares k s (is_busy s.step) its spared
happens_spares k s (Replies reply) spared = session_next_spares k s reply spared
happens_spares k s (Gets action) spared = session_given_spares k s action spared

opened_spares : (p : Places) (s : SessionState) (step : Sitting) → is_busy step ≡ false → SittingBounds p s step
opened_spares p s (Idle its) idle = tt
opened_spares p s step idle = cc

-- at every moment of a session's run
pub session_run_spares : (k : Seat) (opening : SessionState) (events : List SessionEvent) → IsOpened opening → IsSessionSparing k.places (session_run k opening events)
unfolding session_run
session_run_spares k opening [] opened = opened_spares k.places opening opening.step opened.none_in_hand
session_run_spares k opening (event ∷ before) opened = happens_spares k (session_run k opening before) event (session_run_spares k opening before opened)
