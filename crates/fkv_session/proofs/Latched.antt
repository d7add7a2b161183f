-- In prepare all updates that wait share their latches, as long as no reply has left one without.
use Rattle.std.proofs.Common.{◌≡◌, ℕ, ◌+◌, List, [], ◌∷◌, ◌++◌, length, refl, sym, subst, Bool, true, false}
use Rattle.std.specs.Prelude.{slice_get, slice_set, Option, Some, None, if◌then◌else◌, not, ◌==◌, ◌||◌}
use Rattle.std.specs.List.{remove}
use Rattle.fkv_base.specs.declared.faults.Fault.{Fault}
use Rattle.fkv_base.specs.declared.faults.Fault.TheVariants as fault
use Rattle.fkv_map.specs.declared.operations.Call.{Call}
use Rattle.fkv_map.specs.declared.operations.Call.TheVariants as call
use Rattle.fkv_map.specs.declared.operations.Op.{Op}
use Rattle.fkv_plane.specs.declared.actions.Action.{Action}
use Rattle.fkv_plane.specs.declared.asks.Ask.{Ask}
use Rattle.fkv_plane.specs.declared.asks.Ask.TheVariants.{Done}
use Rattle.fkv_plane.specs.Passing.{passed}
use Rattle.fkv_epoch.specs.Leaving.{leave_next}
use Rattle.fkv_ops.specs.Bounds.{bounds_of}
use Rattle.fkv_ops.specs.declared.answers.Reason.{Reason}
use Rattle.fkv_ops.specs.declared.answers.Reason.TheVariants as reason
use Rattle.fkv_ops.specs.declared.answers.TryAnswer.{TryAnswer}
use Rattle.fkv_ops.specs.declared.answers.TryAnswer.TheVariants as tried
use Rattle.fkv_ops.specs.declared.requests.Occasion.TheVariants.{Call as AtCall, Poll as AtPoll}
use Rattle.fkv_ops.specs.Requests.{is_read}
use Rattle.fkv_ops.specs.Trying.{is_wait, is_prepare}
use Rattle.fkv_pending.specs.declared.attempting.Attempting.{Attempting}
use Rattle.fkv_pending.specs.declared.attempting.Attempting.TheVariants.{Ended}
use Rattle.fkv_pending.specs.declared.mailing.MailAnswer.{MailAnswer}
use Rattle.fkv_pending.specs.declared.mailing.MailAnswer.TheVariants.{Cleared}
use Rattle.fkv_pending.specs.declared.mailing.MailTask.TheVariants.{Clear}
use Rattle.fkv_pending.specs.declared.mailing.Mailing.TheVariants.{LoadsState}
use Rattle.fkv_pending.specs.declared.pending_requests.PendingRequest.{PendingRequest}
use Rattle.fkv_pending.specs.Mailing.{mail_next}
use Rattle.fkv_pending.specs.Attempting.{AttemptState, attempt_ask, attempt_next}
use Rattle.fkv_pending.proofs.Shown.{AttemptRestsOrAsks, attempt_begun_rests, attempt_rests}
use Rattle.fkv_session.specs.declared.answers.Told.{Told}
use Rattle.fkv_session.specs.declared.answers.Told.TheVariants as told
use Rattle.fkv_session.specs.declared.sessions.CatchCause.{CatchCause}
use Rattle.fkv_session.specs.declared.sessions.CatchCause.TheVariants.{Refreshes, Wakes, Shifts}
use Rattle.fkv_session.specs.declared.sessions.Sitting.{Sitting}
use Rattle.fkv_session.specs.declared.sessions.Sitting.TheVariants.{Idle, Attempts, CatchesUp, ClearsMail, Polls, StoresOwing, Turns, StoresCut, Leaves, LoadsDurable}
use Rattle.fkv_session.specs.CatchingUp.{refresh_begun, wake_begun, catch_ask}
use Rattle.fkv_session.specs.OwnTurns.{own_turn_begun, own_turn_given}
use Rattle.fkv_session.specs.Sessions.{SessionState, Seat, bits_of, room_of, is_busy, answers, refuses, answers_after_turn, request_in_hand, attempts, polls_request, polls_at, refusal_of, op_begun, refresh_call, poll_begun, poll_call, sleep_call, wake_call, call_begun, ticket_after, attempt_left, poll_left, serial_taken, update_done, is_no_room, lacks_room, with_request, accepts, shifts, attempted, attempt_ledto, caught_up, catch_ledto, clear_ledto, is_finished, is_owed, request_finished, finishes_request, keeps_request, poll_ledto, turn_ledto, leave_ledto, attempt_moved, caught, own_turn_moved, sitting_ask, session_ask, sitting_next, sitting_given, asks_after, is_word_ask}
use Rattle.fkv_session.specs.SessionRun.{SessionEvent, Begins, Replies, Gets, begins, session_happens, session_run}
use Rattle.fkv_session.proofs.AttemptMade.{attempt_ends}
use Rattle.fkv_ops.specs.declared.requests.Seen.{Seen}
use Rattle.fkv_session.specs.Shares.{HasItsBuckets, AllUpdatesShare, is_shift, meets_exclusive, misses_at, misses, has_missed}
use Rattle.fkv_session.proofs.AttemptLatched.{HasIt, KnowsLatch, InLatch, begun_in, attempt_in}
use Rattle.fkv_session.proofs.CatchLatched.{AllShareIn, InTaking, catch_taking, catch_ended, all_set, all_removed, all_behind}

-- what is known while an attempt is under way
pub record IsTrying (k : Seat) (its : HasItsBuckets k) (seen : Seen) (requests : List PendingRequest) (a : AttemptState) : Type 0 where
  pub all : AllShareIn seen requests
  pub rests : AttemptRestsOrAsks a
  pub knows : InLatch k its seen a

abbrev pub StepLatched : (k : Seat) → HasItsBuckets k → SessionState → Sitting → Type 0
StepLatched k its s (Attempts has_shifted) = IsTrying k its s.seen s.requests s.attempt
StepLatched k its s (CatchesUp cause) = InTaking s.seen s.requests s.catching
StepLatched k its s (Polls i) = IsTrying k its s.seen s.requests s.attempt
StepLatched k its s step = AllShareIn s.seen s.requests

abbrev pub LatchedAfter : (k : Seat) → HasItsBuckets k → SessionState → Type 0
LatchedAfter k its s = StepLatched k its s s.step

still : (k : Seat) (its : HasItsBuckets k) (s : SessionState) (step : Sitting) → s.step ≡ step → StepLatched k its s step → LatchedAfter k its s
still k its s step e holds = subst (λ (x : Sitting). StepLatched k its s x) (sym e) holds

either_latched : (c : Bool) (k : Seat) (its : HasItsBuckets k) (a b : SessionState) → LatchedAfter k its a → LatchedAfter k its b → LatchedAfter k its (if c then a else b)
either_latched true k its a b one other = one
either_latched false k its a b one other = other

abbrev All : SessionState → Type 0
All s = AllShareIn s.seen s.requests

turn_latched : (k : Seat) (its : HasItsBuckets k) (s : SessionState) (it : Told) → All s → LatchedAfter k its (answers_after_turn s it)
turn_latched k its s it all = either_latched s.wants_turn k its (record s { own_turn = own_turn_begun s.own_turn; step = Turns it }) (answers s it) all all

attempts_latched : (k : Seat) (its : HasItsBuckets k) (s : SessionState) (has_shifted : Bool) → All s → LatchedAfter k its (attempts k s has_shifted)
unfolding attempts
attempts_latched k its s has_shifted all = record {
  all = all;
  rests = attempt_begun_rests k.places (bits_of k) (request_in_hand s) s.seen (AtCall (bounds_of k.shape)) s.spare s.is_orphaned;
  knows = begun_in k its (request_in_hand s) s.seen (AtCall (bounds_of k.shape)) s.spare s.is_orphaned;
}

found_latched : (k : Seat) (its : HasItsBuckets k) (s : SessionState) (i : ℕ) (found : Option PendingRequest) → All s → LatchedAfter k its (polls_request k s i found)
found_latched k its s i None all = turn_latched k its s (told.Polled (length s.requests)) all
found_latched k its s i (Some pending) all =
    record { all = all; rests = attempt_begun_rests k.places (bits_of k) pending s.seen AtPoll s.spare s.is_orphaned; knows = begun_in k its pending s.seen AtPoll s.spare s.is_orphaned }

polls_latched : (k : Seat) (its : HasItsBuckets k) (s : SessionState) (i : ℕ) → All s → LatchedAfter k its (polls_at k s i)
unfolding polls_at
polls_latched k its s i all = found_latched k its s i (slice_get s.requests i) all

accepts_latched : (k : Seat) (its : HasItsBuckets k) (s : SessionState) (why : Reason) → All s → HasIt s.seen s.attempt.pending → LatchedAfter k its (accepts s why)
unfolding accepts
accepts_latched k its s why all has =
    let behind : AllShareIn s.seen (s.requests ++ s.attempt.pending ∷ []) = λ prepare. all_behind s.requests s.attempt.pending (has prepare) (all prepare) in
    either_latched (is_read s.op) k its (answers (with_request (record s { ticket = ticket_after s.ticket })) (told.PendingRead (record { 0 = ticket_after s.ticket })))
    (answers_after_turn (with_request (serial_taken (record s { wants_turn = is_no_room why }))) (told.Pending (record { 0 = s.serial + 1 }) why)) behind
    (turn_latched k its (with_request (serial_taken (record s { wants_turn = is_no_room why }))) (told.Pending (record { 0 = s.serial + 1 }) why) behind)

shifts_latched : (k : Seat) (its : HasItsBuckets k) (s : SessionState) (has_shifted : Bool) → (has_shifted ≡ true → ⊥) → All s → LatchedAfter k its (shifts s has_shifted)
unfolding shifts
shifts_latched k its s false first all = (refl, all)
shifts_latched k its s true first all = absurd (first refl)

attempted_latched : (k : Seat) (its : HasItsBuckets k) (s : SessionState) (has_shifted : Bool) (found : TryAnswer) → (has_shifted ≡ true → is_shift (Done found) ≡ false) → All s → (is_wait found ≡ true → HasIt s.seen s.attempt.pending)
    → LatchedAfter k its (attempted s has_shifted found)
attempted_latched k its s has_shifted (tried.Done reply) first all has = either_latched (is_read s.op) k its (answers s told.Absent) (update_done s reply) all all
attempted_latched k its s has_shifted (tried.Found value) first all has = all
attempted_latched k its s has_shifted tried.Absent first all has = all
attempted_latched k its s has_shifted (tried.Wait why) first all has = accepts_latched k its s why all (has refl)
attempted_latched k its s has_shifted (tried.AwaitsDisk sought) first all has = accepts_latched k its s reason.Disk all (has refl)
attempted_latched k its s has_shifted tried.Shift first all has = shifts_latched k its s has_shifted (λ e. (let none = first e in cc)) all
attempted_latched k its s has_shifted tried.IndexFull first all has = all
attempted_latched k its s has_shifted tried.LogFull first all has = all

ended_knows : (k : Seat) (its : HasItsBuckets k) (seen : Seen) (a : AttemptState) (found : TryAnswer) → a.step ≡ Ended found → InLatch k its seen a → is_wait found ≡ true → HasIt seen a.pending
ended_knows k its seen a found e knows = subst (λ (x : Attempting). KnowsLatch k its seen a x) e knows

attempt_led : (k : Seat) (its : HasItsBuckets k) (s : SessionState) (has_shifted : Bool) (ask : Ask TryAnswer) → s.step ≡ Attempts has_shifted → attempt_ask k.places k.number s.attempt ≡ ask → (has_shifted ≡ true → is_shift ask ≡ false)
    → IsTrying k its s.seen s.requests s.attempt → LatchedAfter k its (attempt_ledto s has_shifted ask)
unfolding attempt_ledto
attempt_led k its s has_shifted (Done found) e asks first holds =
    attempted_latched k its (attempt_left s) has_shifted found first holds.all (ended_knows k its s.seen s.attempt found (attempt_ends k.places k.number s.attempt found holds.rests asks) holds.knows)
attempt_led k its s has_shifted ask e asks first holds = still k its s (Attempts has_shifted) e holds

-- a poll
finishes_latched : (k : Seat) (its : HasItsBuckets k) (s : SessionState) (i : ℕ) (found : TryAnswer) → All s → LatchedAfter k its (finishes_request k s i found)
unfolding finishes_request
finishes_latched k its s i found all =
    let removed : AllShareIn s.seen (remove s.requests i) = λ prepare. all_removed s.requests i (all prepare) in
    either_latched (is_owed s) k its (request_finished s i found) (polls_at k (request_finished s i found) i) removed (polls_latched k its (request_finished s i found) i removed)

waits_then : (found : TryAnswer) → is_finished found ≡ false → is_shift (Done found) ≡ false → is_wait found ≡ true
waits_then (tried.Done reply) e none = cc
waits_then (tried.Found value) e none = cc
waits_then tried.Absent e none = cc
waits_then (tried.Wait why) e none = refl
waits_then (tried.AwaitsDisk sought) e none = refl
waits_then tried.Shift e none = cc
waits_then tried.IndexFull e none = cc
waits_then tried.LogFull e none = cc

keeps_latched : (k : Seat) (its : HasItsBuckets k) (s : SessionState) (i : ℕ) (found : TryAnswer) → All s → HasIt s.seen s.attempt.pending → LatchedAfter k its (keeps_request k s i found)
unfolding keeps_request
keeps_latched k its s i found all has =
    polls_latched k its (record s { requests = slice_set s.requests i s.attempt.pending; wants_turn = s.wants_turn || lacks_room found }) (i + 1) (λ prepare. all_set s.requests i s.attempt.pending (has prepare) (all prepare))

poll_either : (k : Seat) (its : HasItsBuckets k) (s : SessionState) (i : ℕ) (found : TryAnswer) (done : Bool) → is_finished found ≡ done → is_shift (Done found) ≡ false → All s → (is_wait found ≡ true → HasIt s.seen s.attempt.pending)
    → LatchedAfter k its (if done then finishes_request k s i found else keeps_request k s i found)
poll_either k its s i found true e none all has = finishes_latched k its s i found all
poll_either k its s i found false e none all has = keeps_latched k its s i found all (has (waits_then found e none))

poll_led : (k : Seat) (its : HasItsBuckets k) (s : SessionState) (i : ℕ) (ask : Ask TryAnswer) → s.step ≡ Polls i → attempt_ask k.places k.number s.attempt ≡ ask → is_shift ask ≡ false → IsTrying k its s.seen s.requests s.attempt
    → LatchedAfter k its (poll_ledto k s i ask)
unfolding poll_ledto
poll_led k its s i (Done found) e asks none holds =
    poll_either k its (poll_left s) i found (is_finished found) refl none holds.all (ended_knows k its s.seen s.attempt found (attempt_ends k.places k.number s.attempt found holds.rests asks) holds.knows)
poll_led k its s i ask e asks none holds = still k its s (Polls i) e holds

-- a take-up
caught_up_latched : (k : Seat) (its : HasItsBuckets k) (s : SessionState) (cause : CatchCause) → All s → LatchedAfter k its (caught_up k s cause)
caught_up_latched k its s Refreshes all = all
caught_up_latched k its s Wakes all = all
caught_up_latched k its s Shifts all = attempts_latched k its s true all

catch_led : (k : Seat) (its : HasItsBuckets k) (s : SessionState) (cause : CatchCause) (ask : Ask (Unit {0})) → s.step ≡ CatchesUp cause → catch_ask k.places k.number s.catching s.requests ≡ ask → InTaking s.seen s.requests s.catching
    → LatchedAfter k its (catch_ledto k s cause ask)
unfolding catch_ledto
catch_led k its s cause (Done it) e asks knows = caught_up_latched k its (record s { seen = s.catching.seen }) cause (catch_ended k s.seen s.requests s.catching it asks knows)
catch_led k its s cause ask e asks knows = still k its s (CatchesUp cause) e knows

clear_led : (k : Seat) (its : HasItsBuckets k) (s : SessionState) (ask : Ask MailAnswer) → s.step ≡ ClearsMail → All s → LatchedAfter k its (clear_ledto k s ask)
unfolding clear_ledto
clear_led k its s (Done Cleared) e all = polls_latched k its (record s { is_orphaned = false }) 0 all
clear_led k its s (Done it) e all = polls_latched k its s 0 all
clear_led k its s ask e all = still k its s ClearsMail e all

turn_led : (k : Seat) (its : HasItsBuckets k) (s : SessionState) (it : Told) (ask : Ask (Unit {0})) → s.step ≡ Turns it → All s → LatchedAfter k its (turn_ledto s it ask)
unfolding turn_ledto
turn_led k its s it (Done through) e all = all
turn_led k its s it ask e all = still k its s (Turns it) e all

leave_led : (k : Seat) (its : HasItsBuckets k) (s : SessionState) (ask : Ask (Unit {0})) → s.step ≡ Leaves → All s → LatchedAfter k its (leave_ledto s ask)
unfolding leave_ledto
leave_led k its s (Done it) e all = all
leave_led k its s ask e all = still k its s Leaves e all

trying_next : (k : Seat) (its : HasItsBuckets k) (seen : Seen) (requests : List PendingRequest) (a : AttemptState) (reply : ℕ) → IsTrying k its seen requests a → IsTrying k its seen requests (attempt_next k.places (bits_of k) (room_of k) k.number a reply)
trying_next k its seen requests a reply holds = record { all = holds.all; rests = attempt_rests k.places (bits_of k) (room_of k) k.number a reply holds.rests; knows = attempt_in k its seen a reply holds.knows }

-- each reply
next_latched : (k : Seat) (its : HasItsBuckets k) (s : SessionState) (asks : ℕ) (step : Sitting) (reply : ℕ) → s.step ≡ step → misses_at k s step reply ≡ false → StepLatched k its s step
    → LatchedAfter k its (sitting_next k (record s { asks = asks; effect = None }) step reply)
unfolding sitting_next sitting_ask
next_latched k its s asks (Idle it) reply e none holds = still k its (record s { asks = asks; effect = None }) (Idle it) e holds
next_latched k its s asks (Attempts true) reply e none holds =
    attempt_led k its (attempt_moved k (record s { asks = asks; effect = None }) reply) true _ e refl (λ shifted. none) (trying_next k its s.seen s.requests s.attempt reply holds)
next_latched k its s asks (Attempts false) reply e none holds =
    attempt_led k its (attempt_moved k (record s { asks = asks; effect = None }) reply) false _ e refl (λ shifted. cc) (trying_next k its s.seen s.requests s.attempt reply holds)
next_latched k its s asks (CatchesUp cause) reply e none holds =
    let here : meets_exclusive (passed {B = Told} (catch_ask k.places k.number s.catching s.requests) told.Slept) reply ≡ false = subst (λ (x : Sitting). meets_exclusive (sitting_ask k s x) reply ≡ false) e none in
    catch_led k its (caught k (record s { asks = asks; effect = None }) reply) cause _ e refl (catch_taking k s.seen s.requests s.catching reply holds here)
next_latched k its s asks ClearsMail reply e none holds = clear_led k its (record s { asks = asks; effect = None; mailing = mail_next s.mailing reply }) _ e holds
next_latched k its s asks (Polls i) reply e none holds =
    poll_led k its (attempt_moved k (record s { asks = asks; effect = None }) reply) i _ e refl none (trying_next k its s.seen s.requests s.attempt reply holds)
next_latched k its s asks (StoresOwing i) reply e none holds = polls_latched k its (record s { asks = asks; effect = None }) i holds
next_latched k its s asks (Turns it) reply e none holds = turn_led k its (own_turn_moved k (record s { asks = asks; effect = None }) reply) it _ e holds
next_latched k its s asks StoresCut reply e none holds = holds
next_latched k its s asks Leaves reply e none holds = leave_led k its (record s { asks = asks; effect = None; leaving = leave_next s.leaving }) _ e holds
next_latched k its s asks LoadsDurable reply e none holds = holds

given_latched : (k : Seat) (its : HasItsBuckets k) (s : SessionState) (step : Sitting) (action : Action) → s.step ≡ step → StepLatched k its s step → LatchedAfter k its (sitting_given k s step action)
unfolding sitting_given
given_latched k its s (Turns it) action e holds = turn_led k its (record s { own_turn = own_turn_given s.own_turn action }) it _ e holds
given_latched k its s (Idle it) action e holds = still k its s (Idle it) e holds
given_latched k its s (Attempts has_shifted) action e holds = still k its s (Attempts has_shifted) e holds
given_latched k its s (CatchesUp cause) action e holds = still k its s (CatchesUp cause) e holds
given_latched k its s ClearsMail action e holds = still k its s ClearsMail e holds
given_latched k its s (Polls i) action e holds = still k its s (Polls i) e holds
given_latched k its s (StoresOwing i) action e holds = still k its s (StoresOwing i) e holds
given_latched k its s StoresCut action e holds = still k its s StoresCut e holds
given_latched k its s Leaves action e holds = still k its s Leaves e holds
given_latched k its s LoadsDurable action e holds = still k its s LoadsDurable e holds

-- a call that begins
begun_op : (k : Seat) (its : HasItsBuckets k) (s : SessionState) (op : Op) (why : Option Fault) → All s → LatchedAfter k its (op_begun k s op why)
unfolding op_begun
begun_op k its s op (Some why) all = all
begun_op k its s op None all = attempts_latched k its (record s { op = op }) false all

begun_poll : (k : Seat) (its : HasItsBuckets k) (s : SessionState) → All s → LatchedAfter k its (poll_begun k s)
begun_poll k its s all = either_latched s.is_orphaned k its (record s { mailing = LoadsState Clear; step = ClearsMail }) (polls_at k s 0) all (polls_latched k its s 0 all)

begun_call : (k : Seat) (its : HasItsBuckets k) (s : SessionState) (it : Call) → All s → LatchedAfter k its (call_begun k s it)
unfolding refresh_call poll_call sleep_call wake_call
begun_call k its s (call.Op op) all = begun_op k its s op (refusal_of s op) all
begun_call k its s call.Refresh all = either_latched s.is_awake k its (record s { catching = refresh_begun s.catching s.seen s.serial; step = CatchesUp Refreshes }) (refuses s fault.Asleep) (refl, all) all
begun_call k its s call.Poll all = either_latched s.is_awake k its (poll_begun k (record s { finished = [] })) (refuses s fault.Asleep) (begun_poll k its (record s { finished = [] }) all) all
begun_call k its s call.Sleep all =
    let sleeps : SessionState = record s { step = StoresCut } in
    either_latched (not s.is_awake) k its (refuses s fault.Asleep) (if length s.requests == 0 then sleeps else refuses s fault.PendingLeft) all (either_latched (length s.requests == 0) k its sleeps (refuses s fault.PendingLeft) all all)
begun_call k its s call.Wake all = either_latched s.is_awake k its (refuses s fault.Awake) (record s { catching = wake_begun s.catching s.seen s.serial; step = CatchesUp Wakes }) all (refl, all)
begun_call k its s call.Durable all = all

idle_all : (k : Seat) (its : HasItsBuckets k) (s : SessionState) (step : Sitting) → is_busy step ≡ false → StepLatched k its s step → All s
idle_all k its s (Idle it) idle holds = holds
idle_all k its s step idle holds = cc

all_idle : (k : Seat) (its : HasItsBuckets k) (s : SessionState) (step : Sitting) → is_busy step ≡ false → All s → StepLatched k its s step
all_idle k its s (Idle it) idle all = all
all_idle k its s step idle all = cc

begins_latched : (k : Seat) (its : HasItsBuckets k) (s : SessionState) (it : Call) (busy : Bool) → is_busy s.step ≡ busy → LatchedAfter k its s → LatchedAfter k its (begins k s busy it)
begins_latched k its s it true e holds = holds
begins_latched k its s it false e holds = begun_call k its (record s { asks = 0; effect = None; wants_turn = false }) it (idle_all k its s s.step e holds)

event_latched : (k : Seat) (its : HasItsBuckets k) (s : SessionState) (event : SessionEvent) → misses k s event ≡ false → LatchedAfter k its s → LatchedAfter k its (session_happens k s event)
unfolding session_happens
event_latched k its s (Begins it) none holds = begins_latched k its s it (is_busy s.step) refl holds
event_latched k its s (Replies reply) none holds = next_latched k its s (asks_after s.asks (is_word_ask (session_ask k s))) s.step reply refl none holds
event_latched k its s (Gets action) none holds = given_latched k its s s.step action refl holds

first_none : (a b : Bool) → (a || b) ≡ false → (a ≡ false) × (b ≡ false)
first_none true b e = cc
first_none false b e = (refl, e)

pub run_latched : (k : Seat) (its : HasItsBuckets k) (first : SessionState) (events : List SessionEvent) → LatchedAfter k its first → has_missed k first events ≡ false → LatchedAfter k its (session_run k first events)
unfolding session_run has_missed
run_latched k its first [] begins none = begins
run_latched k its first (event ∷ before) begins none =
    let both = first_none (misses k (session_run k first before) event) (has_missed k first before) none in
    event_latched k its (session_run k first before) event both.0 (run_latched k its first before begins both.1)

-- from a moment at which the session isn't in prepare
pub run_prepared : (k : Seat) (first : SessionState) (events : List SessionEvent) → HasItsBuckets k → is_busy first.step ≡ false → is_prepare first.seen.phase ≡ false → has_missed k first events ≡ false
    → is_busy (session_run k first events).step ≡ false → is_prepare (session_run k first events).seen.phase ≡ true → AllUpdatesShare (session_run k first events).requests
run_prepared k first events its idle other none rests prepare =
    idle_all k its (session_run k first events) (session_run k first events).step rests
    (run_latched k its first events (all_idle k its first first.step idle (λ e. absurd (never (is_prepare first.seen.phase) e other))) none) prepare
  where
    never : (b : Bool) → b ≡ true → b ≡ false → ⊥
    never b e f = cc
