-- The requests of a session never outgrow their room, and what is asked is counted as the reply comes, and nowhere else.
use Rattle.std.proofs.Common.{◌≡◌, ℕ, zero, suc, ◌+◌, ◌<◌, ◌≤◌, refl, arith, Bool, true, false, List, [], ◌∷◌, ◌++◌, length}
use Rattle.std.specs.Prelude.{⊤, ◌==◌, ◌||◌, not, if◌then◌else◌, Option, Some, None, slice_get, slice_set}
use Rattle.std.specs.List.{remove}
use Rattle.std.proofs.lemmas.Bool.{eqb-false}
use Rattle.std.proofs.lemmas.List.{length-set, length_push}
use Rattle.fkv_base.specs.Limits.{max_pending}
use Rattle.fkv_base.specs.declared.faults.Fault.{Fault}
use Rattle.fkv_base.specs.declared.faults.Fault.TheVariants as fault
use Rattle.fkv_map.specs.declared.operations.Call.{Call}
use Rattle.fkv_map.specs.declared.operations.Call.TheVariants as call
use Rattle.fkv_map.specs.declared.operations.Op.{Op}
use Rattle.fkv_map.specs.Map.{is_reserved}
use Rattle.fkv_plane.specs.declared.actions.Action.{Action}
use Rattle.fkv_plane.specs.declared.asks.Ask.{Ask}
use Rattle.fkv_plane.specs.declared.asks.Ask.TheVariants.{Done}
use Rattle.fkv_epoch.specs.Leaving.{leave_ask, leave_next}
use Rattle.fkv_latch.specs.declared.latching.LatchAnswer.{LatchAnswer}
use Rattle.fkv_latch.specs.declared.latching.LatchAnswer.TheVariants.{Taken}
use Rattle.fkv_latch.specs.Latching.{latch_next_ask}
use Rattle.fkv_ops.specs.declared.answers.Reason.{Reason}
use Rattle.fkv_ops.specs.declared.answers.Reason.TheVariants as reason
use Rattle.fkv_ops.specs.declared.answers.TryAnswer.{TryAnswer}
use Rattle.fkv_ops.specs.declared.answers.TryAnswer.TheVariants as tried
use Rattle.fkv_ops.specs.Requests.{is_read}
use Rattle.fkv_pending.specs.declared.mailing.MailAnswer.{MailAnswer}
use Rattle.fkv_pending.specs.declared.mailing.MailAnswer.TheVariants.{Cleared}
use Rattle.fkv_pending.specs.declared.mailing.MailTask.TheVariants.{Clear}
use Rattle.fkv_pending.specs.declared.mailing.Mailing.TheVariants.{LoadsState}
use Rattle.fkv_pending.specs.declared.pending_requests.PendingRequest.{PendingRequest}
use Rattle.fkv_pending.specs.Mailing.{mail_ask, mail_next}
use Rattle.fkv_pending.specs.Attempting.{attempt_ask}
use Rattle.fkv_pending.specs.Pending.{with_latch}
use Rattle.fkv_session.specs.declared.answers.Told.{Told}
use Rattle.fkv_session.specs.declared.answers.Told.TheVariants as told
use Rattle.fkv_session.specs.declared.catching_up.Catching.{Catching}
use Rattle.fkv_session.specs.declared.catching_up.Catching.TheVariants as catch
use Rattle.fkv_session.specs.declared.sessions.CatchCause.{CatchCause}
use Rattle.fkv_session.specs.declared.sessions.CatchCause.TheVariants.{Refreshes, Wakes, Shifts}
use Rattle.fkv_session.specs.declared.sessions.Sitting.{Sitting}
use Rattle.fkv_session.specs.declared.sessions.Sitting.TheVariants.{Idle, Attempts, CatchesUp, ClearsMail, Polls, StoresOwing, Turns, StoresCut, Leaves, LoadsDurable}
use Rattle.fkv_session.specs.CatchingUp.{CatchState, catch_ask, refresh_begun, wake_begun, catching_requests, latched, latch_marked}
use Rattle.fkv_session.specs.OwnTurns.{own_turn_ask, own_turn_begun, own_turn_given}
use Rattle.fkv_session.specs.Sessions.{Seat, SessionState, is_busy, session_ask, answers, refuses, answers_after_turn, attempts, polls_request, polls_at, is_full, is_spent, refusal_of, op_begun, refresh_call, poll_begun, poll_call, sleep_call, wake_call, call_begun, session_begun, attempt_left, poll_left, serial_taken, is_no_room, with_request, ticket_after, accepts, shifts, attempted, attempt_ledto, catch_ledto, clear_ledto, is_finished, is_owed, request_finished, finishes_request, lacks_room, keeps_request, poll_ledto, turn_ledto, leave_ledto, attempt_moved, caught, own_turn_moved, sitting_next, session_next, sitting_given, session_given, asks_after, is_word_ask, IsOpened}
use Rattle.fkv_session.specs.SessionRun.{SessionEvent, Begins, Replies, Gets, begins, session_happens, session_run}

-- while an operation is in hand there is room for its request
abbrev pub NeedsRoom : List PendingRequest → Sitting → Type 0
NeedsRoom requests (Attempts has_shifted) = length requests < max_pending
NeedsRoom requests (CatchesUp Shifts) = length requests < max_pending
NeedsRoom requests step = ⊤

-- so many asks are counted, and the requests are within their room
pub record KeepsRoom (asks : ℕ) (s : SessionState) : Type 0 where
  pub counted : s.asks ≡ asks
  pub few : length s.requests ≤ max_pending
  pub room : NeedsRoom s.requests s.step

either_keeps : (b : Bool) (n : ℕ) (s t : SessionState) → KeepsRoom n s → KeepsRoom n t → KeepsRoom n (if b then s else t)
either_keeps true n s t one other = one
either_keeps false n s t one other = other

answers_keep : (n : ℕ) (s : SessionState) (its : Told) → s.asks ≡ n → length s.requests ≤ max_pending → KeepsRoom n (answers s its)
answers_keep n s its same few = record { counted = same; few = few; room = tt }

turn_keeps : (n : ℕ) (s : SessionState) (its : Told) → s.asks ≡ n → length s.requests ≤ max_pending → KeepsRoom n (answers_after_turn s its)
turn_keeps n s its same few =
    either_keeps s.wants_turn n (record s { own_turn = own_turn_begun s.own_turn; step = Turns its }) (answers s its) (record { counted = same; few = few; room = tt }) (answers_keep n s its same few)

within : (requests : List PendingRequest) → length requests < max_pending → length requests ≤ max_pending
within requests fewer = omega (arith, fewer)

attempts_keep : (n : ℕ) (k : Seat) (s : SessionState) (has_shifted : Bool) → s.asks ≡ n → length s.requests < max_pending → KeepsRoom n (attempts k s has_shifted)
unfolding attempts
attempts_keep n k s has_shifted same fewer = record { counted = same; few = within s.requests fewer; room = fewer }

found_keeps : (n : ℕ) (k : Seat) (s : SessionState) (index : ℕ) (got : Option PendingRequest) → s.asks ≡ n → length s.requests ≤ max_pending → KeepsRoom n (polls_request k s index got)
found_keeps n k s index None same few = turn_keeps n s (told.Polled (length s.requests)) same few
found_keeps n k s index (Some pending) same few = record { counted = same; few = few; room = tt }

polls_keep : (n : ℕ) (k : Seat) (s : SessionState) (index : ℕ) → s.asks ≡ n → length s.requests ≤ max_pending → KeepsRoom n (polls_at k s index)
unfolding polls_at
polls_keep n k s index same few = found_keeps n k s index (slice_get s.requests index) same few

one_more : (requests : List PendingRequest) (pending : PendingRequest) → length requests < max_pending → length (requests ++ pending ∷ []) ≤ max_pending
one_more requests pending fewer = let one = length_push requests pending in omega (arith, one, fewer)

accepts_keep : (n : ℕ) (s : SessionState) (why : Reason) → s.asks ≡ n → length s.requests < max_pending → KeepsRoom n (accepts s why)
unfolding accepts
accepts_keep n s why same fewer =
    let few = one_more s.requests s.attempt.pending fewer in
    either_keeps (is_read s.op) n _ _ (answers_keep n (with_request (record s { ticket = ticket_after s.ticket })) (told.PendingRead (record { 0 = ticket_after s.ticket })) same few)
    (turn_keeps n (with_request (serial_taken (record s { wants_turn = is_no_room why }))) (told.Pending (record { 0 = s.serial + 1 }) why) same few)

shifts_keep : (n : ℕ) (s : SessionState) (has_shifted : Bool) → s.asks ≡ n → length s.requests < max_pending → KeepsRoom n (shifts s has_shifted)
unfolding shifts
shifts_keep n s false same fewer = record { counted = same; few = within s.requests fewer; room = fewer }
shifts_keep n s true same fewer = accepts_keep n s reason.Contended same fewer

attempted_keeps : (n : ℕ) (s : SessionState) (has_shifted : Bool) (its : TryAnswer) → s.asks ≡ n → length s.requests < max_pending → KeepsRoom n (attempted s has_shifted its)
attempted_keeps n s has_shifted (tried.Done its) same fewer =
    let few = within s.requests fewer in
    either_keeps (is_read s.op) n _ _ (answers_keep n s told.Absent same few) (answers_keep n (serial_taken s) (told.Done (record { 0 = s.serial + 1 }) its) same few)
attempted_keeps n s has_shifted (tried.Found value) same fewer = answers_keep n s (told.Found value) same (within s.requests fewer)
attempted_keeps n s has_shifted tried.Absent same fewer = answers_keep n s told.Absent same (within s.requests fewer)
attempted_keeps n s has_shifted (tried.Wait why) same fewer = accepts_keep n s why same fewer
attempted_keeps n s has_shifted (tried.AwaitsDisk sought) same fewer = accepts_keep n s reason.Disk same fewer
attempted_keeps n s has_shifted tried.Shift same fewer = shifts_keep n s has_shifted same fewer
attempted_keeps n s has_shifted tried.IndexFull same fewer = answers_keep n s (told.Refused fault.IndexFull) same (within s.requests fewer)
attempted_keeps n s has_shifted tried.LogFull same fewer = answers_keep n s (told.Refused fault.LogFull) same (within s.requests fewer)

still : (n : ℕ) (s : SessionState) (step : Sitting) → s.step ≡ step → s.asks ≡ n → length s.requests ≤ max_pending → NeedsRoom s.requests step → KeepsRoom n s
still n s step at same few room = record { counted = same; few = few; room = rw at room }

attempt_keeps : (n : ℕ) (s : SessionState) (has_shifted : Bool) (ask : Ask TryAnswer) → s.step ≡ Attempts has_shifted → s.asks ≡ n → length s.requests < max_pending → KeepsRoom n (attempt_ledto s has_shifted ask)
unfolding attempt_ledto
attempt_keeps n s has_shifted (Done its) at same fewer = attempted_keeps n (attempt_left s) has_shifted its same fewer
attempt_keeps n s has_shifted ask at same fewer = still n s (Attempts has_shifted) at same (within s.requests fewer) fewer

-- as many requests wait as before
marked_length : (requests : List PendingRequest) (index : ℕ) (got : Option PendingRequest) → length (latched requests index got) ≡ length requests
marked_length requests index None = refl
marked_length requests index (Some pending) = length-set requests index (with_latch pending true)

latch_length : (requests : List PendingRequest) (index : ℕ) (ask : Ask LatchAnswer) → length (latch_marked requests index ask) ≡ length requests
unfolding latch_marked
latch_length requests index (Done Taken) = marked_length requests index (slice_get requests index)
latch_length requests index ask = refl

caught_length : (c : CatchState) (requests : List PendingRequest) (step : Catching) (reply : ℕ) → length (catching_requests c requests step reply) ≡ length requests
unfolding catching_requests
caught_length c requests (catch.Latches index) reply = latch_length requests index (latch_next_ask c.latching reply)
caught_length c requests step reply = refl

catch_keeps : (n : ℕ) (k : Seat) (s : SessionState) (cause : CatchCause) (ask : Ask (Unit {0})) → s.step ≡ CatchesUp cause → s.asks ≡ n → length s.requests ≤ max_pending → NeedsRoom s.requests (CatchesUp cause)
    → KeepsRoom n (catch_ledto k s cause ask)
unfolding catch_ledto
catch_keeps n k s Refreshes (Done its) at same few room = answers_keep n (record s { seen = s.catching.seen }) (told.Refreshed s.catching.seen.phase s.catching.seen.version) same few
catch_keeps n k s Wakes (Done its) at same few room = answers_keep n (record s { seen = s.catching.seen; is_awake = true }) (told.Woken s.catching.seen.phase s.catching.seen.version) same few
catch_keeps n k s Shifts (Done its) at same few room = attempts_keep n k (record s { seen = s.catching.seen }) true same room
catch_keeps n k s cause ask at same few room = still n s (CatchesUp cause) at same few room

clear_keeps : (n : ℕ) (k : Seat) (s : SessionState) (ask : Ask MailAnswer) → s.step ≡ ClearsMail → s.asks ≡ n → length s.requests ≤ max_pending → KeepsRoom n (clear_ledto k s ask)
unfolding clear_ledto
clear_keeps n k s (Done Cleared) at same few = polls_keep n k (record s { is_orphaned = false }) 0 same few
clear_keeps n k s (Done its) at same few = polls_keep n k s 0 same few
clear_keeps n k s ask at same few = still n s ClearsMail at same few tt

removed_few : (requests : List PendingRequest) (index : ℕ) → length (remove requests index) ≤ length requests
removed_few [] zero = omega arith
removed_few [] (suc index) = omega arith
removed_few (first ∷ others) zero = omega arith
removed_few (first ∷ others) (suc index) = let few = removed_few others index in omega (arith, few)

finishes_keeps : (n : ℕ) (k : Seat) (s : SessionState) (index : ℕ) (its : TryAnswer) → s.asks ≡ n → length s.requests ≤ max_pending → KeepsRoom n (finishes_request k s index its)
unfolding finishes_request
finishes_keeps n k s index its same few =
    let removed = removed_few s.requests index in
    let fewer : length (remove s.requests index) ≤ max_pending = omega (arith, removed, few) in
    either_keeps (is_owed s) n (request_finished s index its) (polls_at k (request_finished s index its) index) (record { counted = same; few = fewer; room = tt }) (polls_keep n k (request_finished s index its) index same fewer)

keeps_keeps : (n : ℕ) (k : Seat) (s : SessionState) (index : ℕ) (its : TryAnswer) → s.asks ≡ n → length s.requests ≤ max_pending → KeepsRoom n (keeps_request k s index its)
unfolding keeps_request
keeps_keeps n k s index its same few =
    let length_same = length-set s.requests index s.attempt.pending in
    polls_keep n k (record s { requests = slice_set s.requests index s.attempt.pending; wants_turn = s.wants_turn || lacks_room its }) (index + 1) same (omega (arith, length_same, few))

poll_keeps : (n : ℕ) (k : Seat) (s : SessionState) (index : ℕ) (ask : Ask TryAnswer) → s.step ≡ Polls index → s.asks ≡ n → length s.requests ≤ max_pending → KeepsRoom n (poll_ledto k s index ask)
unfolding poll_ledto
poll_keeps n k s index (Done its) at same few = either_keeps (is_finished its) n _ _ (finishes_keeps n k (poll_left s) index its same few) (keeps_keeps n k (poll_left s) index its same few)
poll_keeps n k s index ask at same few = still n s (Polls index) at same few tt

turned_keeps : (n : ℕ) (s : SessionState) (its : Told) (ask : Ask (Unit {0})) → s.step ≡ Turns its → s.asks ≡ n → length s.requests ≤ max_pending → KeepsRoom n (turn_ledto s its ask)
unfolding turn_ledto
turned_keeps n s its (Done through) at same few = answers_keep n s its same few
turned_keeps n s its ask at same few = still n s (Turns its) at same few tt

left_keeps : (n : ℕ) (s : SessionState) (ask : Ask (Unit {0})) → s.step ≡ Leaves → s.asks ≡ n → length s.requests ≤ max_pending → KeepsRoom n (leave_ledto s ask)
unfolding leave_ledto
left_keeps n s (Done its) at same few = answers_keep n (record s { is_awake = false }) told.Slept same few
left_keeps n s ask at same few = still n s Leaves at same few tt

caught_room : (before after : List PendingRequest) (cause : CatchCause) → length after ≡ length before → NeedsRoom before (CatchesUp cause) → NeedsRoom after (CatchesUp cause)
caught_room before after Refreshes same room = tt
caught_room before after Wakes same room = tt
caught_room before after Shifts same room = omega (arith, same, room)

next_keeps : (n : ℕ) (k : Seat) (s : SessionState) (step : Sitting) (reply : ℕ) → s.step ≡ step → s.asks ≡ n → length s.requests ≤ max_pending → NeedsRoom s.requests step → KeepsRoom n (sitting_next k s step reply)
unfolding sitting_next
next_keeps n k s (Idle its) reply at same few room = still n s (Idle its) at same few tt
next_keeps n k s (Attempts has_shifted) reply at same few room = attempt_keeps n (attempt_moved k s reply) has_shifted (attempt_ask k.places k.number (attempt_moved k s reply).attempt) at same room
next_keeps n k s (CatchesUp cause) reply at same few room =
    let length_same = caught_length s.catching s.requests s.catching.step reply in
    catch_keeps n k (caught k s reply) cause (catch_ask k.places k.number (caught k s reply).catching (caught k s reply).requests) at same (omega (arith, length_same, few)) (caught_room s.requests (caught k s reply).requests cause length_same room)
next_keeps n k s ClearsMail reply at same few room = clear_keeps n k (record s { mailing = mail_next s.mailing reply }) (mail_ask k.number (mail_next s.mailing reply)) at same few
next_keeps n k s (Polls index) reply at same few room = poll_keeps n k (attempt_moved k s reply) index (attempt_ask k.places k.number (attempt_moved k s reply).attempt) at same few
next_keeps n k s (StoresOwing index) reply at same few room = polls_keep n k s index same few
next_keeps n k s (Turns its) reply at same few room = turned_keeps n (own_turn_moved k s reply) its (own_turn_ask k.shape (own_turn_moved k s reply).own_turn) at same few
next_keeps n k s StoresCut reply at same few room = record { counted = same; few = few; room = tt }
next_keeps n k s Leaves reply at same few room = left_keeps n (record s { leaving = leave_next s.leaving }) (leave_ask k.number (leave_next s.leaving)) at same few
next_keeps n k s LoadsDurable reply at same few room = answers_keep n s (told.Durable (record { 0 = reply })) same few

-- a reply counts the ask that it answers
pub reply_keeps : (k : Seat) (s : SessionState) (reply : ℕ) → length s.requests ≤ max_pending → NeedsRoom s.requests s.step → KeepsRoom (asks_after s.asks (is_word_ask (session_ask k s))) (session_next k s reply)
reply_keeps k s reply few room = next_keeps _ k (record s { asks = asks_after s.asks (is_word_ask (session_ask k s)); effect = None }) s.step reply refl refl few room

given_keeps : (n : ℕ) (k : Seat) (s : SessionState) (step : Sitting) (action : Action) → s.step ≡ step → s.asks ≡ n → length s.requests ≤ max_pending → NeedsRoom s.requests step → KeepsRoom n (sitting_given k s step action)
unfolding sitting_given
given_keeps n k s (Turns its) action at same few room = turned_keeps n (record s { own_turn = own_turn_given s.own_turn action }) its (own_turn_ask k.shape (own_turn_given s.own_turn action)) at same few
given_keeps n k s step action at same few room = still n s step at same few room

-- an action counts for none
pub action_keeps : (k : Seat) (s : SessionState) (action : Action) → length s.requests ≤ max_pending → NeedsRoom s.requests s.step → KeepsRoom s.asks (session_given k s action)
action_keeps k s action few room = given_keeps s.asks k s s.step action refl refl few room

-- an operation that isn't refused has room
abbrev RoomUnlessRefused : List PendingRequest → Option Fault → Type 0
RoomUnlessRefused requests None = length requests < max_pending
RoomUnlessRefused requests (Some why) = ⊤

not_full : (requests : List PendingRequest) → length requests ≤ max_pending → is_full requests ≡ false → length requests < max_pending
not_full requests few free = let no = eqb-false (length requests) max_pending free in omega (arith, few, no)

room_unless_refused : (s : SessionState) (op : Op) → length s.requests ≤ max_pending → RoomUnlessRefused s.requests (refusal_of s op)
room_unless_refused s op few = tested (not s.is_awake) (is_reserved op) (is_full s.requests) refl (is_spent s op)
  where
    tested : (b c d : Bool) → is_full s.requests ≡ d → (e : Bool)
        → RoomUnlessRefused s.requests (if b then Some fault.Asleep else if c then Some fault.ValueReserved else if d then Some fault.PendingFull else if e then Some fault.SerialsSpent else None)
    tested true c d free e = tt
    tested false true d free e = tt
    tested false false true free e = tt
    tested false false false free true = tt
    tested false false false free false = not_full s.requests few free

op_keeps : (k : Seat) (s : SessionState) (op : Op) (why : Option Fault) → s.asks ≡ 0 → length s.requests ≤ max_pending → RoomUnlessRefused s.requests why → KeepsRoom 0 (op_begun k s op why)
unfolding op_begun
op_keeps k s op (Some why) same few room = answers_keep 0 s (told.Refused why) same few
op_keeps k s op None same few room = attempts_keep 0 k (record s { op = op }) false same room

call_keeps : (k : Seat) (s : SessionState) (its : Call) → s.asks ≡ 0 → length s.requests ≤ max_pending → KeepsRoom 0 (call_begun k s its)
unfolding refresh_call poll_call sleep_call wake_call
call_keeps k s (call.Op op) same few = op_keeps k s op (refusal_of s op) same few (room_unless_refused s op few)
call_keeps k s call.Refresh same few =
    either_keeps s.is_awake 0 (record s { catching = refresh_begun s.catching s.seen s.serial; step = CatchesUp Refreshes }) (refuses s fault.Asleep) (record { counted = same; few = few; room = tt }) (answers_keep 0 s (told.Refused fault.Asleep) same few)
call_keeps k s call.Poll same few =
    let its : SessionState = record s { finished = [] } in
    either_keeps s.is_awake 0 (poll_begun k its) (refuses s fault.Asleep)
    (either_keeps s.is_orphaned 0 (record its { mailing = LoadsState Clear; step = ClearsMail }) (polls_at k its 0) (record { counted = same; few = few; room = tt }) (polls_keep 0 k its 0 same few))
    (answers_keep 0 s (told.Refused fault.Asleep) same few)
call_keeps k s call.Sleep same few =
    either_keeps (not s.is_awake) 0 (refuses s fault.Asleep) _ (answers_keep 0 s (told.Refused fault.Asleep) same few)
    (either_keeps (length s.requests == 0) 0 (record s { step = StoresCut }) (refuses s fault.PendingLeft) (record { counted = same; few = few; room = tt }) (answers_keep 0 s (told.Refused fault.PendingLeft) same few))
call_keeps k s call.Wake same few =
    either_keeps s.is_awake 0 (refuses s fault.Awake) (record s { catching = wake_begun s.catching s.seen s.serial; step = CatchesUp Wakes }) (answers_keep 0 s (told.Refused fault.Awake) same few) (record { counted = same; few = few; room = tt })
call_keeps k s call.Durable same few = record { counted = same; few = few; room = tt }

-- a call begins with none counted
pub begun_keeps : (k : Seat) (s : SessionState) (its : Call) → length s.requests ≤ max_pending → KeepsRoom 0 (session_begun k s its)
begun_keeps k s its few = call_keeps k (record s { asks = 0; effect = None; wants_turn = false }) its refl few

-- at every moment of a run
pub record HasRoomNow (s : SessionState) : Type 0 where
  pub few : length s.requests ≤ max_pending
  pub room : NeedsRoom s.requests s.step

room_now : (n : ℕ) (s : SessionState) → KeepsRoom n s → HasRoomNow s
room_now n s keeps = record { few = keeps.few; room = keeps.room }

begins_room : (k : Seat) (s : SessionState) (busy : Bool) (its : Call) → HasRoomNow s → HasRoomNow (begins k s busy its)
begins_room k s true its now = now
begins_room k s false its now = room_now 0 (session_begun k s its) (begun_keeps k s its now.few)

event_room : (k : Seat) (s : SessionState) (event : SessionEvent) → HasRoomNow s → HasRoomNow (session_happens k s event)
unfolding session_happens
event_room k s (Begins its) now = begins_room k s (is_busy s.step) its now
event_room k s (Replies reply) now = room_now _ (session_next k s reply) (reply_keeps k s reply now.few now.room)
event_room k s (Gets action) now = room_now _ (session_given k s action) (action_keeps k s action now.few now.room)

idle_room : (requests : List PendingRequest) (step : Sitting) → is_busy step ≡ false → NeedsRoom requests step
idle_room requests (Idle its) idle = tt
idle_room requests step idle = cc

pub run_room : (k : Seat) (opening : SessionState) (events : List SessionEvent) → IsOpened opening → HasRoomNow (session_run k opening events)
unfolding session_run
run_room k opening [] opened = record { few = rw opened.none_wait (omega arith); room = idle_room opening.requests opening.step opened.none_in_hand }
run_room k opening (event ∷ before) opened = event_room k (session_run k opening before) event (run_room k opening before opened)
