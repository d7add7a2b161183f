-- How a session works on its mailbox: where each reply, each action and each call leads, beside the machine of the mailbox's world.
use Rattle.std.proofs.Common.{◌≡◌, ℕ, ◌+◌, ◌∙◌, refl, sym, ap, subst, Bool, true, false}
use Rattle.std.specs.Prelude.{if◌then◌else◌, ◌==◌, ◌||◌, not, Option, Some, None, [], slice_get, slice_set, length}
use Rattle.fkv_base.specs.declared.faults.Fault.{Fault}
use Rattle.fkv_base.specs.declared.faults.Fault.TheVariants as fault
use Rattle.fkv_map.specs.declared.operations.Call.{Call}
use Rattle.fkv_map.specs.declared.operations.Call.TheVariants as call
use Rattle.fkv_map.specs.declared.operations.Op.{Op}
use Rattle.fkv_plane.specs.declared.actions.Action.{Action}
use Rattle.fkv_plane.specs.declared.asks.Ask.{Ask}
use Rattle.fkv_plane.specs.declared.asks.Ask.TheVariants.{Done}
use Rattle.fkv_epoch.specs.Leaving.{leave_next}
use Rattle.law_world.specs.Below.fkv_ops.Reason.{Reason}
use Rattle.law_world.specs.Below.fkv_ops.Reason.TheVariants as reason
use Rattle.law_world.specs.Below.fkv_ops.TryAnswer.{TryAnswer}
use Rattle.law_world.specs.Below.fkv_ops.TryAnswer.TheVariants as tried
use Rattle.law_world.specs.Below.fkv_ops.Occasion.TheVariants.{Call as AtCall, Poll as AtPoll}
use Rattle.law_world.specs.Below.fkv_ops.Bounds.{bounds_of}
use Rattle.law_world.specs.Below.fkv_ops.Requests.{is_read}
use Rattle.law_world.specs.Below.fkv_pending.TheAttempting.{Attempting}
use Rattle.law_world.specs.Below.fkv_pending.TheAttempting.TheVariants as attempting
use Rattle.law_world.specs.Below.fkv_pending.MailAnswer.TheVariants as mail
use Rattle.law_world.specs.Below.fkv_pending.MailTask.TheVariants.{Clear}
use Rattle.law_world.specs.Below.fkv_pending.TheMailing.{Mailing}
use Rattle.law_world.specs.Below.fkv_pending.TheMailing.TheVariants as mailing
use Rattle.law_world.specs.Below.fkv_pending.PendingRequest.{PendingRequest}
use Rattle.law_world.specs.Below.fkv_pending.Attempting.{AttemptState}
use Rattle.law_world.specs.Below.fkv_pending.Mailing.{mail_ask, mail_next}
use Rattle.law_world.specs.Below.fkv_pending.MailWorld.{is_at_end}
use Rattle.law_world.specs.Below.fkv_session.Told.{Told}
use Rattle.law_world.specs.Below.fkv_session.Told.TheVariants as told
use Rattle.law_world.specs.Below.fkv_session.CatchCause.{CatchCause}
use Rattle.law_world.specs.Below.fkv_session.CatchCause.TheVariants.{Refreshes, Wakes, Shifts}
use Rattle.law_world.specs.Below.fkv_session.Sitting.{Sitting}
use Rattle.law_world.specs.Below.fkv_session.Sitting.TheVariants.{Idle, Attempts, CatchesUp, ClearsMail, Polls, StoresOwing, Turns, StoresCut, Leaves, LoadsDurable}
use Rattle.law_world.specs.Below.fkv_session.CatchingUp.{refresh_begun, wake_begun}
use Rattle.law_world.specs.Below.fkv_session.OwnTurns.{own_turn_begun, own_turn_given}
use Rattle.law_world.specs.Below.fkv_session.Sessions.{SessionState, Seat, bits_of, room_of, answers, refuses, answers_after_turn, request_in_hand, attempts, polls_request, polls_at, refusal_of, op_begun, refresh_call, poll_begun, poll_call, sleep_call, wake_call, call_begun, session_begun, ticket_after, attempt_left, poll_left, serial_taken, update_done, is_no_room, lacks_room, with_request, accepts, shifts, attempted, attempt_ledto, caught_up, catch_ledto, clear_ledto, is_finished, is_owed, request_finished, finishes_request, keeps_request, poll_ledto, turn_ledto, leave_ledto, attempt_moved, caught, own_turn_moved, session_ask, sitting_next, session_next, sitting_given, session_given, asks_after, is_word_ask, is_busy}
use Rattle.law_refine.specs.Mail.Mailers.{attempt_mailing, sitting_mailing, session_mailing, IsAsFar}
use Rattle.law_refine.proofs.OfMail.AttemptSits.{begun, moved_of, IsUnderWay, AttemptSits, AttemptLeads, begun_same, attempt_begun_leads, attempt_next_leads, through_ends}

-- what is known of a session beside the machine of its mailbox's world
abbrev pub SittingSits : SessionState → Sitting → Mailing → Type 0
SittingSits s (Attempts has_shifted) m = AttemptSits s.attempt s.attempt.step m
SittingSits s (Polls index) m = AttemptSits s.attempt s.attempt.step m
SittingSits s ClearsMail m = IsUnderWay s.mailing m
SittingSits s step m = is_at_end m ≡ true

abbrev pub SessionSits : SessionState → Mailing → Type 0
SessionSits s m = SittingSits s s.step m

-- what a session leads to
abbrev pub SessionLeads : SessionState → Mailing → Type 0
SessionLeads s m = SessionSits s (begun m (session_mailing s))

either_leads : (c : Bool) (a b : SessionState) (m : Mailing) → SessionLeads a m → SessionLeads b m → SessionLeads (if c then a else b) m
either_leads true a b m one other = one
either_leads false a b m one other = other

-- it goes on with its machine
attempts_on : (s : SessionState) (has_shifted : Bool) (m : Mailing) → s.step ≡ Attempts has_shifted → AttemptLeads s.attempt m → SessionLeads s m
attempts_on s has_shifted m at leads = subst (λ (x : Sitting). SittingSits s x (begun m (sitting_mailing s x))) (sym at) leads

polls_on : (s : SessionState) (index : ℕ) (m : Mailing) → s.step ≡ Polls index → AttemptLeads s.attempt m → SessionLeads s m
polls_on s index m at leads = subst (λ (x : Sitting). SittingSits s x (begun m (sitting_mailing s x))) (sym at) leads

clears_on : (s : SessionState) (m : Mailing) → s.step ≡ ClearsMail → IsUnderWay s.mailing m → SessionLeads s m
clears_on s m at its =
    subst (λ (x : Sitting). SittingSits s x (begun m (sitting_mailing s x))) (sym at)
    (ap (λ (x : Mailing). begun m (Some x)) (sym its.0) ∙ begun_same m ∙ its.0, its.1)

-- or works on no mailbox
abbrev IsApart : Sitting → Type 0
IsApart (Attempts has_shifted) = ⊥
IsApart (Polls index) = ⊥
IsApart ClearsMail = ⊥
IsApart step = Unit {0}

apart_sits : (s : SessionState) (step : Sitting) (m : Mailing) → IsApart step → is_at_end m ≡ true → SittingSits s step (begun m (sitting_mailing s step))
apart_sits s (Attempts has_shifted) m apart ended = absurd apart
apart_sits s (Polls index) m apart ended = absurd apart
apart_sits s ClearsMail m apart ended = absurd apart
apart_sits s (Idle its) m apart ended = ended
apart_sits s (CatchesUp cause) m apart ended = ended
apart_sits s (StoresOwing index) m apart ended = ended
apart_sits s (Turns its) m apart ended = ended
apart_sits s StoresCut m apart ended = ended
apart_sits s Leaves m apart ended = ended
apart_sits s LoadsDurable m apart ended = ended

apart_on : (s : SessionState) (step : Sitting) (m : Mailing) → s.step ≡ step → IsApart step → is_at_end m ≡ true → SessionLeads s m
apart_on s step m at apart ended = subst (λ (x : Sitting). SittingSits s x (begun m (sitting_mailing s x))) (sym at) (apart_sits s step m apart ended)

turn_after_leads : (s : SessionState) (its : Told) (m : Mailing) → is_at_end m ≡ true → SessionLeads (answers_after_turn s its) m
turn_after_leads s its m ended = either_leads s.wants_turn (record s { own_turn = own_turn_begun s.own_turn; step = Turns its }) (answers s its) m ended ended

attempts_leads : (k : Seat) (s : SessionState) (has_shifted : Bool) (m : Mailing) → is_at_end m ≡ true → SessionLeads (attempts k s has_shifted) m
unfolding attempts
attempts_leads k s has_shifted m ended = attempt_begun_leads k.places (bits_of k) (request_in_hand s) s.seen (AtCall (bounds_of k.shape)) s.spare s.is_orphaned m ended

polls_request_leads : (k : Seat) (s : SessionState) (index : ℕ) (found : Option PendingRequest) (m : Mailing) → is_at_end m ≡ true → SessionLeads (polls_request k s index found) m
polls_request_leads k s index None m ended = turn_after_leads s (told.Polled (length s.requests)) m ended
polls_request_leads k s index (Some pending) m ended = attempt_begun_leads k.places (bits_of k) pending s.seen AtPoll s.spare s.is_orphaned m ended

polls_leads : (k : Seat) (s : SessionState) (index : ℕ) (m : Mailing) → is_at_end m ≡ true → SessionLeads (polls_at k s index) m
unfolding polls_at
polls_leads k s index m ended = polls_request_leads k s index (slice_get s.requests index) m ended

accepts_leads : (s : SessionState) (why : Reason) (m : Mailing) → is_at_end m ≡ true → SessionLeads (accepts s why) m
unfolding accepts
accepts_leads s why m ended =
    either_leads (is_read s.op) (answers (with_request (record s { ticket = ticket_after s.ticket })) (told.PendingRead (record { 0 = ticket_after s.ticket })))
    (answers_after_turn (with_request (serial_taken (record s { wants_turn = is_no_room why }))) (told.Pending (record { 0 = s.serial + 1 }) why)) m
    ended (turn_after_leads (with_request (serial_taken (record s { wants_turn = is_no_room why }))) (told.Pending (record { 0 = s.serial + 1 }) why) m ended)

shifts_leads : (s : SessionState) (has_shifted : Bool) (m : Mailing) → is_at_end m ≡ true → SessionLeads (shifts s has_shifted) m
unfolding shifts
shifts_leads s false m ended = ended
shifts_leads s true m ended = accepts_leads s reason.Contended m ended

attempted_leads : (s : SessionState) (has_shifted : Bool) (its : TryAnswer) (m : Mailing) → is_at_end m ≡ true → SessionLeads (attempted s has_shifted its) m
attempted_leads s has_shifted (tried.Done reply) m ended = either_leads (is_read s.op) (answers s told.Absent) (update_done s reply) m ended ended
attempted_leads s has_shifted (tried.Found value) m ended = ended
attempted_leads s has_shifted tried.Absent m ended = ended
attempted_leads s has_shifted (tried.Wait why) m ended = accepts_leads s why m ended
attempted_leads s has_shifted (tried.AwaitsDisk sought) m ended = accepts_leads s reason.Disk m ended
attempted_leads s has_shifted tried.Shift m ended = shifts_leads s has_shifted m ended
attempted_leads s has_shifted tried.IndexFull m ended = ended
attempted_leads s has_shifted tried.LogFull m ended = ended

attempt_ledto_leads : (s : SessionState) (has_shifted : Bool) (ask : Ask TryAnswer) (m : Mailing) → s.step ≡ Attempts has_shifted → AttemptLeads s.attempt m → ((its : TryAnswer) → ask ≡ Done its → is_at_end m ≡ true)
    → SessionLeads (attempt_ledto s has_shifted ask) m
unfolding attempt_ledto
attempt_ledto_leads s has_shifted (Done its) m at leads through = attempted_leads (attempt_left s) has_shifted its m (through its refl)
attempt_ledto_leads s has_shifted ask m at leads through = attempts_on s has_shifted m at leads

finishes_leads : (k : Seat) (s : SessionState) (index : ℕ) (its : TryAnswer) (m : Mailing) → is_at_end m ≡ true → SessionLeads (finishes_request k s index its) m
unfolding finishes_request
finishes_leads k s index its m ended = either_leads (is_owed s) (request_finished s index its) (polls_at k (request_finished s index its) index) m ended (polls_leads k (request_finished s index its) index m ended)

keeps_leads : (k : Seat) (s : SessionState) (index : ℕ) (its : TryAnswer) (m : Mailing) → is_at_end m ≡ true → SessionLeads (keeps_request k s index its) m
unfolding keeps_request
keeps_leads k s index its m ended = polls_leads k (record s { requests = slice_set s.requests index s.attempt.pending; wants_turn = s.wants_turn || lacks_room its }) (index + 1) m ended

poll_ledto_leads : (k : Seat) (s : SessionState) (index : ℕ) (ask : Ask TryAnswer) (m : Mailing) → s.step ≡ Polls index → AttemptLeads s.attempt m → ((its : TryAnswer) → ask ≡ Done its → is_at_end m ≡ true)
    → SessionLeads (poll_ledto k s index ask) m
unfolding poll_ledto
poll_ledto_leads k s index (Done its) m at leads through =
    either_leads (is_finished its) (finishes_request k (poll_left s) index its) (keeps_request k (poll_left s) index its) m
    (finishes_leads k (poll_left s) index its m (through its refl)) (keeps_leads k (poll_left s) index its m (through its refl))
poll_ledto_leads k s index ask m at leads through = polls_on s index m at leads

caught_up_leads : (k : Seat) (s : SessionState) (cause : CatchCause) (m : Mailing) → is_at_end m ≡ true → SessionLeads (caught_up k s cause) m
caught_up_leads k s Refreshes m ended = ended
caught_up_leads k s Wakes m ended = ended
caught_up_leads k s Shifts m ended = attempts_leads k s true m ended

catch_ledto_leads : (k : Seat) (s : SessionState) (cause : CatchCause) (ask : Ask (Unit {0})) (m : Mailing) → s.step ≡ CatchesUp cause → is_at_end m ≡ true → SessionLeads (catch_ledto k s cause ask) m
unfolding catch_ledto
catch_ledto_leads k s cause (Done its) m at ended = caught_up_leads k (record s { seen = s.catching.seen }) cause m ended
catch_ledto_leads k s cause ask m at ended = apart_on s (CatchesUp cause) m at tt ended

clear_leads : (k : Seat) (s : SessionState) (m : Mailing) → s.step ≡ ClearsMail → s.mailing ≡ m → SessionLeads (clear_ledto k s (mail_ask k.number m)) m
unfolding clear_ledto mail_ask
clear_leads k s (mailing.Ended mail.Cleared) at same = polls_leads k (record s { is_orphaned = false }) 0 _ refl
clear_leads k s (mailing.Ended mail.NotReady) at same = polls_leads k s 0 _ refl
clear_leads k s (mailing.Ended (mail.Taken its)) at same = polls_leads k s 0 _ refl
clear_leads k s (mailing.Ended mail.Asked) at same = polls_leads k s 0 _ refl
clear_leads k s (mailing.Ended mail.Occupied) at same = polls_leads k s 0 _ refl
clear_leads k s (mailing.LoadsState task) at same = clears_on s _ at (sym same, ap is_at_end same)
clear_leads k s mailing.LoadsHeader at same = clears_on s _ at (sym same, ap is_at_end same)
clear_leads k s (mailing.LoadsKey header) at same = clears_on s _ at (sym same, ap is_at_end same)
clear_leads k s (mailing.LoadsValue header key) at same = clears_on s _ at (sym same, ap is_at_end same)
clear_leads k s (mailing.StoresEmpty its) at same = clears_on s _ at (sym same, ap is_at_end same)
clear_leads k s (mailing.StoresAddress addr) at same = clears_on s _ at (sym same, ap is_at_end same)
clear_leads k s mailing.StoresAsked at same = clears_on s _ at (sym same, ap is_at_end same)

turn_ledto_leads : (s : SessionState) (its : Told) (ask : Ask (Unit {0})) (m : Mailing) → s.step ≡ Turns its → is_at_end m ≡ true → SessionLeads (turn_ledto s its ask) m
unfolding turn_ledto
turn_ledto_leads s its (Done through) m at ended = ended
turn_ledto_leads s its ask m at ended = apart_on s (Turns its) m at tt ended

leave_ledto_leads : (s : SessionState) (ask : Ask (Unit {0})) (m : Mailing) → s.step ≡ Leaves → is_at_end m ≡ true → SessionLeads (leave_ledto s ask) m
unfolding leave_ledto
leave_ledto_leads s (Done its) m at ended = ended
leave_ledto_leads s ask m at ended = apart_on s Leaves m at tt ended

next_leads : (k : Seat) (s : SessionState) (step : Sitting) (reply : ℕ) (m : Mailing) → s.step ≡ step → SittingSits s step m → SessionLeads (sitting_next k s step reply) (moved_of (sitting_mailing s step) m reply)
unfolding sitting_next
next_leads k s (Idle its) reply m at sits = apart_on s (Idle its) m at tt sits
next_leads k s (Attempts has_shifted) reply m at sits =
    let leads = attempt_next_leads k.places (bits_of k) (room_of k) k.number s.attempt reply m sits in
    attempt_ledto_leads (attempt_moved k s reply) has_shifted _ (moved_of (attempt_mailing s.attempt s.attempt.step) m reply) at leads
    (λ its e. through_ends k.places k.number (attempt_moved k s reply).attempt its (moved_of (attempt_mailing s.attempt s.attempt.step) m reply) leads e)
next_leads k s (CatchesUp cause) reply m at sits = catch_ledto_leads k (caught k s reply) cause _ m at sits
next_leads k s ClearsMail reply m at sits = clear_leads k (record s { mailing = mail_next s.mailing reply }) (mail_next s.mailing reply) at refl
next_leads k s (Polls index) reply m at sits =
    let leads = attempt_next_leads k.places (bits_of k) (room_of k) k.number s.attempt reply m sits in
    poll_ledto_leads k (attempt_moved k s reply) index _ (moved_of (attempt_mailing s.attempt s.attempt.step) m reply) at leads
    (λ its e. through_ends k.places k.number (attempt_moved k s reply).attempt its (moved_of (attempt_mailing s.attempt s.attempt.step) m reply) leads e)
next_leads k s (StoresOwing index) reply m at sits = polls_leads k s index m sits
next_leads k s (Turns its) reply m at sits = turn_ledto_leads (own_turn_moved k s reply) its _ m at sits
next_leads k s StoresCut reply m at sits = sits
next_leads k s Leaves reply m at sits = leave_ledto_leads (record s { leaving = leave_next s.leaving }) _ m at sits
next_leads k s LoadsDurable reply m at sits = sits

counted_sits : (s : SessionState) (asks : ℕ) (step : Sitting) (m : Mailing) → SittingSits s step m → SittingSits (record s { asks = asks; effect = None }) step m
counted_sits s asks (Attempts has_shifted) m sits = sits
counted_sits s asks (Polls index) m sits = sits
counted_sits s asks ClearsMail m sits = sits
counted_sits s asks (Idle its) m sits = sits
counted_sits s asks (CatchesUp cause) m sits = sits
counted_sits s asks (StoresOwing index) m sits = sits
counted_sits s asks (Turns its) m sits = sits
counted_sits s asks StoresCut m sits = sits
counted_sits s asks Leaves m sits = sits
counted_sits s asks LoadsDurable m sits = sits

counted_mailing : (s : SessionState) (asks : ℕ) (step : Sitting) → sitting_mailing (record s { asks = asks; effect = None }) step ≡ sitting_mailing s step
counted_mailing s asks (Attempts has_shifted) = refl
counted_mailing s asks (Polls index) = refl
counted_mailing s asks ClearsMail = refl
counted_mailing s asks (Idle its) = refl
counted_mailing s asks (CatchesUp cause) = refl
counted_mailing s asks (StoresOwing index) = refl
counted_mailing s asks (Turns its) = refl
counted_mailing s asks StoresCut = refl
counted_mailing s asks Leaves = refl
counted_mailing s asks LoadsDurable = refl

-- each reply
pub session_next_leads : (k : Seat) (s : SessionState) (reply : ℕ) (m : Mailing) → SessionSits s m → SessionLeads (session_next k s reply) (moved_of (session_mailing s) m reply)
session_next_leads k s reply m sits =
    let asks : ℕ = asks_after s.asks (is_word_ask (session_ask k s)) in
    subst (λ (x : Option Mailing). SessionLeads (session_next k s reply) (moved_of x m reply)) (counted_mailing s asks s.step)
    (next_leads k (record s { asks = asks; effect = None }) s.step reply m refl (counted_sits s asks s.step m sits))

-- where no task is under way, a state stays so
none_sits : (s : SessionState) (step : Sitting) (m : Mailing) → sitting_mailing s step ≡ None → SittingSits s step m → SittingSits s step (begun m (sitting_mailing s step))
none_sits s step m none sits = subst (λ (x : Option Mailing). SittingSits s step (begun m x)) (sym none) sits

pub session_none_leads : (s : SessionState) (m : Mailing) → session_mailing s ≡ None → SessionSits s m → SessionLeads s m
session_none_leads s m none sits = none_sits s s.step m none sits

-- each action
given_leads : (k : Seat) (s : SessionState) (step : Sitting) (action : Action) (m : Mailing) → s.step ≡ step → session_mailing s ≡ None → SessionSits s m → SittingSits s step m → SessionLeads (sitting_given k s step action) m
unfolding sitting_given
given_leads k s (Turns its) action m at none sits ended = turn_ledto_leads (record s { own_turn = own_turn_given s.own_turn action }) its _ m at ended
given_leads k s (Idle its) action m at none sits ended = session_none_leads s m none sits
given_leads k s (Attempts has_shifted) action m at none sits ended = session_none_leads s m none sits
given_leads k s (CatchesUp cause) action m at none sits ended = session_none_leads s m none sits
given_leads k s ClearsMail action m at none sits ended = session_none_leads s m none sits
given_leads k s (Polls index) action m at none sits ended = session_none_leads s m none sits
given_leads k s (StoresOwing index) action m at none sits ended = session_none_leads s m none sits
given_leads k s StoresCut action m at none sits ended = session_none_leads s m none sits
given_leads k s Leaves action m at none sits ended = session_none_leads s m none sits
given_leads k s LoadsDurable action m at none sits ended = session_none_leads s m none sits

pub session_given_leads : (k : Seat) (s : SessionState) (action : Action) (m : Mailing) → session_mailing s ≡ None → SessionSits s m → SessionLeads (session_given k s action) m
session_given_leads k s action m none sits = given_leads k s s.step action m refl none sits sits

-- each call
op_leads : (k : Seat) (s : SessionState) (op : Op) (why : Option Fault) (m : Mailing) → is_at_end m ≡ true → SessionLeads (op_begun k s op why) m
unfolding op_begun
op_leads k s op (Some why) m ended = ended
op_leads k s op None m ended = attempts_leads k (record s { op = op }) false m ended

refresh_leads : (s : SessionState) (m : Mailing) → is_at_end m ≡ true → SessionLeads (refresh_call s) m
unfolding refresh_call
refresh_leads s m ended = either_leads s.is_awake (record s { catching = refresh_begun s.catching s.seen s.serial; step = CatchesUp Refreshes }) (refuses s fault.Asleep) m ended ended

poll_begun_leads : (k : Seat) (s : SessionState) (m : Mailing) → is_at_end m ≡ true → SessionLeads (poll_begun k s) m
poll_begun_leads k s m ended =
    either_leads s.is_orphaned (record s { mailing = mailing.LoadsState Clear; step = ClearsMail }) (polls_at k s 0) m
    (ap (λ (c : Bool). if c then mailing.LoadsState Clear else m) ended, refl) (polls_leads k s 0 m ended)

poll_leads : (k : Seat) (s : SessionState) (m : Mailing) → is_at_end m ≡ true → SessionLeads (poll_call k s) m
unfolding poll_call
poll_leads k s m ended = either_leads s.is_awake (poll_begun k (record s { finished = [] })) (refuses s fault.Asleep) m (poll_begun_leads k (record s { finished = [] }) m ended) ended

sleep_leads : (s : SessionState) (m : Mailing) → is_at_end m ≡ true → SessionLeads (sleep_call s) m
unfolding sleep_call
sleep_leads s m ended = either_leads (not s.is_awake) (refuses s fault.Asleep) _ m ended (either_leads (length s.requests == 0) (record s { step = StoresCut }) (refuses s fault.PendingLeft) m ended ended)

wake_leads : (s : SessionState) (m : Mailing) → is_at_end m ≡ true → SessionLeads (wake_call s) m
unfolding wake_call
wake_leads s m ended = either_leads s.is_awake (refuses s fault.Awake) (record s { catching = wake_begun s.catching s.seen s.serial; step = CatchesUp Wakes }) m ended ended

call_leads : (k : Seat) (s : SessionState) (its : Call) (m : Mailing) → is_at_end m ≡ true → SessionLeads (call_begun k s its) m
call_leads k s (call.Op op) m ended = op_leads k s op (refusal_of s op) m ended
call_leads k s call.Refresh m ended = refresh_leads s m ended
call_leads k s call.Poll m ended = poll_leads k s m ended
call_leads k s call.Sleep m ended = sleep_leads s m ended
call_leads k s call.Wake m ended = wake_leads s m ended
call_leads k s call.Durable m ended = ended

pub session_begun_leads : (k : Seat) (s : SessionState) (its : Call) (m : Mailing) → is_at_end m ≡ true → SessionLeads (session_begun k s its) m
session_begun_leads k s its m ended = call_leads k (record s { asks = 0; effect = None; wants_turn = false }) its m ended

pub idle_ends : (s : SessionState) (step : Sitting) (m : Mailing) → is_busy step ≡ false → SittingSits s step m → is_at_end m ≡ true
idle_ends s (Idle its) m idle sits = sits
idle_ends s step m idle sits = cc

pub idle_sits : (s : SessionState) (step : Sitting) (m : Mailing) → is_busy step ≡ false → is_at_end m ≡ true → SittingSits s step m
idle_sits s (Idle its) m idle ended = ended
idle_sits s step m idle ended = cc

-- how far the machine of the mailbox's world is
attempt_far : (a : AttemptState) (step : Attempting) (m : Mailing) → AttemptSits a step m → IsAsFar (attempt_mailing a step) m
attempt_far a (attempting.Ended its) m sits = sits
attempt_far a attempting.Looks m sits = sits.0
attempt_far a attempting.Tries m sits = sits.0
attempt_far a attempting.Puts m sits = sits

pub sits_far : (s : SessionState) (m : Mailing) → SessionSits s m → IsAsFar (session_mailing s) m
sits_far s m sits = by_step s.step sits
  where
    by_step : (step : Sitting) → SittingSits s step m → IsAsFar (sitting_mailing s step) m
    by_step (Attempts has_shifted) its = attempt_far s.attempt s.attempt.step m its
    by_step (Polls index) its = attempt_far s.attempt s.attempt.step m its
    by_step ClearsMail its = its
    by_step (Idle told) its = its
    by_step (CatchesUp cause) its = its
    by_step (StoresOwing index) its = its
    by_step (Turns told) its = its
    by_step StoresCut its = its
    by_step Leaves its = its
    by_step LoadsDurable its = its
