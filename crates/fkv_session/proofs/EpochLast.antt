-- A session that refreshes stores its epoch word last, and has taken up by then the phase word that it has loaded.
use Rattle.std.proofs.Common.{◌≡◌, ℕ, ◌+◌, ◌∙◌, List, [], ◌∷◌, length, refl, ap, sym, subst, Bool, true, false}
use Rattle.std.specs.Prelude.{Option, Some, None, if◌then◌else◌, not, ◌==◌, ◌≢◌, ◌||◌, slice_get, slice_set}
use Rattle.fkv_base.specs.declared.faults.Fault.{Fault}
use Rattle.fkv_base.specs.declared.faults.Fault.TheVariants as fault
use Rattle.fkv_map.specs.declared.operations.Call.{Call}
use Rattle.fkv_map.specs.declared.operations.Call.TheVariants as call
use Rattle.fkv_map.specs.declared.operations.Op.{Op}
use Rattle.fkv_plane.specs.declared.actions.Action.{Action}
use Rattle.fkv_plane.specs.declared.asks.Ask.{Ask}
use Rattle.fkv_plane.specs.declared.asks.Ask.TheVariants.{Store, Done}
use Rattle.fkv_plane.specs.declared.places.SessionWord.TheVariants as own
use Rattle.fkv_plane.specs.Places.{session_place}
use Rattle.fkv_plane.specs.Passing.{passed}
use Rattle.fkv_epoch.specs.declared.refreshing.Refreshing.{Refreshing}
use Rattle.fkv_epoch.specs.declared.refreshing.Refreshing.TheVariants as refresh
use Rattle.fkv_epoch.specs.Leaving.{leave_next}
use Rattle.fkv_epoch.specs.Refreshing.{refresh_ask}
use Rattle.fkv_ops.specs.declared.answers.Reason.{Reason}
use Rattle.fkv_ops.specs.declared.answers.Reason.TheVariants as reason
use Rattle.fkv_ops.specs.declared.answers.TryAnswer.{TryAnswer}
use Rattle.fkv_ops.specs.declared.answers.TryAnswer.TheVariants as tried
use Rattle.fkv_ops.specs.Requests.{is_read}
use Rattle.fkv_pending.specs.declared.mailing.MailAnswer.{MailAnswer}
use Rattle.fkv_pending.specs.declared.mailing.MailAnswer.TheVariants.{Cleared}
use Rattle.fkv_pending.specs.declared.pending_requests.PendingRequest.{PendingRequest}
use Rattle.fkv_pending.specs.Mailing.{mail_next}
use Rattle.fkv_session.specs.declared.answers.Told.{Told}
use Rattle.fkv_session.specs.declared.answers.Told.TheVariants as told
use Rattle.fkv_session.specs.declared.catching_up.Catching.{Catching}
use Rattle.fkv_session.specs.declared.catching_up.Catching.TheVariants as catching
use Rattle.fkv_session.specs.declared.sessions.CatchCause.{CatchCause}
use Rattle.fkv_session.specs.declared.sessions.CatchCause.TheVariants.{Refreshes, Wakes, Shifts}
use Rattle.fkv_session.specs.declared.sessions.Sitting.{Sitting}
use Rattle.fkv_session.specs.declared.sessions.Sitting.TheVariants.{Idle, Attempts, CatchesUp, ClearsMail, Polls, StoresOwing, Turns, StoresCut, Leaves, LoadsDurable}
use Rattle.fkv_session.specs.CatchingUp.{catching_ask, catch_requests}
use Rattle.fkv_session.specs.OwnTurns.{own_turn_given}
use Rattle.fkv_session.specs.Sessions.{SessionState, Seat, IsOpened, bits_of, is_busy, answers, answers_after_turn, ticket_after, attempts, polls_request, polls_at, refusal_of, op_begun, refresh_call, poll_begun, poll_call, sleep_call, wake_call, call_begun, attempt_left, poll_left, serial_taken, update_done, is_no_room, with_request, accepts, shifts, attempted, attempt_ledto, caught_up, catch_ledto, clear_ledto, is_finished, is_owed, request_finished, lacks_room, finishes_request, keeps_request, poll_ledto, turn_ledto, leave_ledto, attempt_moved, caught, own_turn_moved, sitting_ask, session_ask, sitting_next, sitting_given, refuses, asks_after, is_word_ask}
use Rattle.fkv_session.specs.SessionRun.{SessionEvent, Begins, Replies, Gets, begins, session_happens, session_run}
use Rattle.fkv_session.specs.InOrder.{Exchange, exchanged_by, exchanged, IsEpochLast}
use Rattle.fkv_session.proofs.PhaseTaken.{CatchKnows, RefreshKnows, IsTaken, step_knows}

-- who wakes stores its epoch word first
abbrev pub refreshes : CatchCause → Bool
refreshes Wakes = false
refreshes cause = true

abbrev pub StepKnows : Seat → List Exchange → SessionState → Sitting → Type 0
StepKnows k exchanges s (CatchesUp cause) = CatchKnows k.number exchanges s.seen (refreshes cause) s.catching s.catching.step
StepKnows k exchanges s step = Unit {0}

abbrev KnowsAfter : Seat → List Exchange → SessionState → Type 0
KnowsAfter k exchanges s = StepKnows k exchanges s s.step

either_known : (c : Bool) (k : Seat) (exchanges : List Exchange) (a b : SessionState) → KnowsAfter k exchanges a → KnowsAfter k exchanges b → KnowsAfter k exchanges (if c then a else b)
either_known true k exchanges a b one other = one
either_known false k exchanges a b one other = other

still_known : (k : Seat) (exchanges : List Exchange) (s : SessionState) (step : Sitting) → s.step ≡ step → StepKnows k exchanges s step → KnowsAfter k exchanges s
still_known k exchanges s step e knows = subst (λ (x : Sitting). StepKnows k exchanges s x) (sym e) knows

turn_known : (k : Seat) (s : SessionState) (its : Told) → KnowsAfter k [] (answers_after_turn s its)
turn_known k s its = either_known s.wants_turn k [] _ (answers s its) tt tt

attempts_known : (k : Seat) (exchanges : List Exchange) (s : SessionState) (has_shifted : Bool) → KnowsAfter k exchanges (attempts k s has_shifted)
unfolding attempts
attempts_known k exchanges s has_shifted = tt

found_known : (k : Seat) (s : SessionState) (i : ℕ) (found : Option PendingRequest) → KnowsAfter k [] (polls_request k s i found)
found_known k s i None = turn_known k s (told.Polled (length s.requests))
found_known k s i (Some pending) = tt

polls_known : (k : Seat) (s : SessionState) (i : ℕ) → KnowsAfter k [] (polls_at k s i)
unfolding polls_at
polls_known k s i = found_known k s i (slice_get s.requests i)

accepts_known : (k : Seat) (s : SessionState) (why : Reason) → KnowsAfter k [] (accepts s why)
unfolding accepts
accepts_known k s why =
    either_known (is_read s.op) k [] (answers (with_request (record s { ticket = ticket_after s.ticket })) (told.PendingRead (record { 0 = ticket_after s.ticket }))) _ tt
    (turn_known k (with_request (serial_taken (record s { wants_turn = is_no_room why }))) (told.Pending (record { 0 = s.serial + 1 }) why))

shifts_known : (k : Seat) (s : SessionState) (has_shifted : Bool) → KnowsAfter k [] (shifts s has_shifted)
unfolding shifts
shifts_known k s false = record { same = refl; loaded = tt; none = tt }
shifts_known k s true = accepts_known k s reason.Contended

attempted_known : (k : Seat) (s : SessionState) (has_shifted : Bool) (its : TryAnswer) → KnowsAfter k [] (attempted s has_shifted its)
attempted_known k s has_shifted (tried.Done reply) = either_known (is_read s.op) k [] (answers s told.Absent) (update_done s reply) tt tt
attempted_known k s has_shifted (tried.Found value) = tt
attempted_known k s has_shifted tried.Absent = tt
attempted_known k s has_shifted (tried.Wait why) = accepts_known k s why
attempted_known k s has_shifted (tried.AwaitsDisk sought) = accepts_known k s reason.Disk
attempted_known k s has_shifted tried.Shift = shifts_known k s has_shifted
attempted_known k s has_shifted tried.IndexFull = tt
attempted_known k s has_shifted tried.LogFull = tt

attempt_known : (k : Seat) (s : SessionState) (has_shifted : Bool) (ask : Ask TryAnswer) → s.step ≡ Attempts has_shifted → KnowsAfter k [] (attempt_ledto s has_shifted ask)
unfolding attempt_ledto
attempt_known k s has_shifted (Done its) e = attempted_known k (attempt_left s) has_shifted its
attempt_known k s has_shifted ask e = still_known k [] s (Attempts has_shifted) e tt

caught_up_known : (k : Seat) (exchanges : List Exchange) (s : SessionState) (cause : CatchCause) → KnowsAfter k exchanges (caught_up k s cause)
caught_up_known k exchanges s Refreshes = tt
caught_up_known k exchanges s Wakes = tt
caught_up_known k exchanges s Shifts = attempts_known k exchanges s true

catch_known : (k : Seat) (exchanges : List Exchange) (s : SessionState) (cause : CatchCause) (ask : Ask (Unit {0})) → s.step ≡ CatchesUp cause → StepKnows k exchanges s (CatchesUp cause) → KnowsAfter k exchanges (catch_ledto k s cause ask)
unfolding catch_ledto
catch_known k exchanges s cause (Done its) e knows = caught_up_known k exchanges (record s { seen = s.catching.seen }) cause
catch_known k exchanges s cause ask e knows = still_known k exchanges s (CatchesUp cause) e knows

clear_known : (k : Seat) (s : SessionState) (ask : Ask MailAnswer) → s.step ≡ ClearsMail → KnowsAfter k [] (clear_ledto k s ask)
unfolding clear_ledto
clear_known k s (Done Cleared) e = polls_known k (record s { is_orphaned = false }) 0
clear_known k s (Done its) e = polls_known k s 0
clear_known k s ask e = still_known k [] s ClearsMail e tt

finishes_known : (k : Seat) (s : SessionState) (i : ℕ) (its : TryAnswer) → KnowsAfter k [] (finishes_request k s i its)
unfolding finishes_request
finishes_known k s i its = either_known (is_owed s) k [] (request_finished s i its) (polls_at k (request_finished s i its) i) tt (polls_known k (request_finished s i its) i)

keeps_known : (k : Seat) (s : SessionState) (i : ℕ) (its : TryAnswer) → KnowsAfter k [] (keeps_request k s i its)
unfolding keeps_request
keeps_known k s i its = polls_known k (record s { requests = slice_set s.requests i s.attempt.pending; wants_turn = s.wants_turn || lacks_room its }) (i + 1)

poll_known : (k : Seat) (s : SessionState) (i : ℕ) (ask : Ask TryAnswer) → s.step ≡ Polls i → KnowsAfter k [] (poll_ledto k s i ask)
unfolding poll_ledto
poll_known k s i (Done its) e =
    either_known (is_finished its) k [] (finishes_request k (poll_left s) i its) (keeps_request k (poll_left s) i its) (finishes_known k (poll_left s) i its) (keeps_known k (poll_left s) i its)
poll_known k s i ask e = still_known k [] s (Polls i) e tt

turned_known : (k : Seat) (s : SessionState) (its : Told) (ask : Ask (Unit {0})) → s.step ≡ Turns its → KnowsAfter k [] (turn_ledto s its ask)
unfolding turn_ledto
turned_known k s its (Done through) e = tt
turned_known k s its ask e = still_known k [] s (Turns its) e tt

left_known : (k : Seat) (s : SessionState) (ask : Ask (Unit {0})) → s.step ≡ Leaves → KnowsAfter k [] (leave_ledto s ask)
unfolding leave_ledto
left_known k s (Done its) e = tt
left_known k s ask e = still_known k [] s Leaves e tt

-- what it asks
asks_so : (k : Seat) (s : SessionState) (cause : CatchCause) → s.step ≡ CatchesUp cause → session_ask k s ≡ passed (catching_ask k.places k.number s.catching s.requests s.catching.step) told.Slept
unfolding sitting_ask
asks_so k s cause e = ap (sitting_ask k s) e

caught_known : (k : Seat) (before : List Exchange) (s : SessionState) (asks : ℕ) (cause : CatchCause) (reply : ℕ) → s.step ≡ CatchesUp cause → StepKnows k before s (CatchesUp cause)
    → StepKnows k (record { ask = session_ask k s; reply = reply } ∷ before) (caught k (record s { asks = asks; effect = None }) reply) (CatchesUp cause)
caught_known k before s asks cause reply e knows =
    let t : SessionState = caught k (record s { asks = asks; effect = None }) reply in
    subst (λ (x : Ask Told). StepKnows k (record { ask = x; reply = reply } ∷ before) t (CatchesUp cause)) (sym (asks_so k s cause e))
    (step_knows k.places (bits_of k) k.number before s.seen (refreshes cause) s.catching s.requests (catch_requests s.catching s.requests reply) s.catching.step reply refl knows)

next_known : (k : Seat) (before : List Exchange) (s : SessionState) (asks : ℕ) (step : Sitting) (reply : ℕ) → s.step ≡ step → StepKnows k before s step
    → KnowsAfter k (exchanged_by k s step (Replies reply) before) (sitting_next k (record s { asks = asks; effect = None }) step reply)
unfolding sitting_next
next_known k before s asks (Idle its) reply e knows = let t : SessionState = record s { asks = asks; effect = None } in still_known k [] t (Idle its) e tt
next_known k before s asks (Attempts has_shifted) reply e knows = let t : SessionState = record s { asks = asks; effect = None } in attempt_known k (attempt_moved k t reply) has_shifted _ e
next_known k before s asks (CatchesUp cause) reply e knows =
    let t : SessionState = record s { asks = asks; effect = None } in
    catch_known k (record { ask = session_ask k s; reply = reply } ∷ before) (caught k t reply) cause _ e (caught_known k before s asks cause reply e knows)
next_known k before s asks ClearsMail reply e knows = let t : SessionState = record s { asks = asks; effect = None } in clear_known k (record t { mailing = mail_next s.mailing reply }) _ e
next_known k before s asks (Polls i) reply e knows = let t : SessionState = record s { asks = asks; effect = None } in poll_known k (attempt_moved k t reply) i _ e
next_known k before s asks (StoresOwing i) reply e knows = polls_known k (record s { asks = asks; effect = None }) i
next_known k before s asks (Turns its) reply e knows = let t : SessionState = record s { asks = asks; effect = None } in turned_known k (own_turn_moved k t reply) its _ e
next_known k before s asks StoresCut reply e knows = tt
next_known k before s asks Leaves reply e knows = let t : SessionState = record s { asks = asks; effect = None } in left_known k (record t { leaving = leave_next s.leaving }) _ e
next_known k before s asks LoadsDurable reply e knows = tt

-- where nothing is replied to
same_known : (k : Seat) (before : List Exchange) (s : SessionState) (step : Sitting) (its : Call) → StepKnows k before s step → StepKnows k (exchanged_by k s step (Begins its) before) s step
same_known k before s (CatchesUp cause) its knows = knows
same_known k before s step its knows = tt

given_known : (k : Seat) (before : List Exchange) (s : SessionState) (step : Sitting) (action : Action) → s.step ≡ step → StepKnows k before s step → KnowsAfter k (exchanged_by k s step (Gets action) before) (sitting_given k s step action)
unfolding sitting_given
given_known k before s (Turns its) action e knows = turned_known k (record s { own_turn = own_turn_given s.own_turn action }) its _ e
given_known k before s (CatchesUp cause) action e knows = still_known k before s (CatchesUp cause) e knows
given_known k before s (Idle its) action e knows = still_known k [] s (Idle its) e tt
given_known k before s (Attempts has_shifted) action e knows = still_known k [] s (Attempts has_shifted) e tt
given_known k before s ClearsMail action e knows = still_known k [] s ClearsMail e tt
given_known k before s (Polls i) action e knows = still_known k [] s (Polls i) e tt
given_known k before s (StoresOwing i) action e knows = still_known k [] s (StoresOwing i) e tt
given_known k before s StoresCut action e knows = still_known k [] s StoresCut e tt
given_known k before s Leaves action e knows = still_known k [] s Leaves e tt
given_known k before s LoadsDurable action e knows = still_known k [] s LoadsDurable e tt

-- a call that begins
op_known : (k : Seat) (s : SessionState) (op : Op) (why : Option Fault) → KnowsAfter k [] (op_begun k s op why)
unfolding op_begun
op_known k s op (Some why) = tt
op_known k s op None = attempts_known k [] (record s { op = op }) false

polls_begun : (k : Seat) (s : SessionState) → KnowsAfter k [] (poll_begun k s)
polls_begun k s = either_known s.is_orphaned k [] _ (polls_at k s 0) tt (polls_known k s 0)

call_known : (k : Seat) (s : SessionState) (its : Call) → KnowsAfter k [] (call_begun k s its)
unfolding refresh_call poll_call sleep_call wake_call
call_known k s (call.Op op) = op_known k s op (refusal_of s op)
call_known k s call.Refresh = either_known s.is_awake k [] _ (refuses s fault.Asleep) (record { same = refl; loaded = tt; none = tt }) tt
call_known k s call.Poll = either_known s.is_awake k [] (poll_begun k (record s { finished = [] })) (refuses s fault.Asleep) (polls_begun k (record s { finished = [] })) tt
call_known k s call.Sleep = either_known (not s.is_awake) k [] (refuses s fault.Asleep) _ tt (either_known (length s.requests == 0) k [] (record s { step = StoresCut }) (refuses s fault.PendingLeft) tt tt)
call_known k s call.Wake = either_known s.is_awake k [] (refuses s fault.Awake) _ tt refl
call_known k s call.Durable = tt

begins_known : (k : Seat) (before : List Exchange) (s : SessionState) (step : Sitting) (its : Call) (busy : Bool) → s.step ≡ step → is_busy step ≡ busy → StepKnows k before s step → KnowsAfter k (exchanged_by k s step (Begins its) before) (begins k s busy its)
begins_known k before s step its true e busy knows = still_known k (exchanged_by k s step (Begins its) before) s step e (same_known k before s step its knows)
begins_known k before s (Idle told) its false e busy knows = call_known k (record s { asks = 0; effect = None; wants_turn = false }) its
begins_known k before s step its false e busy knows = cc

event_known : (k : Seat) (before : List Exchange) (s : SessionState) (event : SessionEvent) → StepKnows k before s s.step → KnowsAfter k (exchanged_by k s s.step event before) (session_happens k s event)
unfolding session_happens
event_known k before s (Begins its) knows = begins_known k before s s.step its (is_busy s.step) refl refl knows
event_known k before s (Replies reply) knows = next_known k before s (asks_after s.asks (is_word_ask (session_ask k s))) s.step reply refl knows
event_known k before s (Gets action) knows = given_known k before s s.step action refl knows

opening_known : (k : Seat) (s : SessionState) (step : Sitting) → is_busy step ≡ false → StepKnows k [] s step
opening_known k s (Idle its) idle = tt
opening_known k s step idle = cc

run_known : (k : Seat) (opening : SessionState) (events : List SessionEvent) → IsOpened opening → KnowsAfter k (exchanged k opening events) (session_run k opening events)
unfolding session_run exchanged
run_known k opening [] opened = opening_known k opening opening.step opened.none_in_hand
run_known k opening (event ∷ before) opened = event_known k (exchanged k opening before) (session_run k opening before) event (run_known k opening before opened)

-- as it is said
not_refreshing : (n : ℕ) (step : Refreshing) (exchanges : List Exchange) (place word : ℕ) → RefreshKnows step exchanges → passed (passed {B = Unit {0}} (refresh_ask n step) tt) told.Slept ≡ Store place word → ⊥
unfolding refresh_ask passed
not_refreshing n refresh.AtRest exchanges place word knows e = knows
not_refreshing n (refresh.StoresEpoch epoch) exchanges place word knows e = knows
not_refreshing n step exchanges place word knows e = cc

stored_taken : (k : Seat) (exchanges : List Exchange) (s : SessionState) (step : Catching) (place word : ℕ) → CatchKnows k.number exchanges s.seen true s.catching step
    → passed (catching_ask k.places k.number s.catching s.requests step) told.Slept ≡ Store place word → IsTaken k.number exchanges s.seen s.catching
unfolding catching_ask passed
stored_taken k exchanges s catching.Ended place word knows e = cc
stored_taken k exchanges s catching.Refreshes place word knows e = absurd (not_refreshing k.number s.catching.refreshing exchanges place word knows.loaded e)
stored_taken k exchanges s catching.Protects place word knows e = cc
stored_taken k exchanges s (catching.Latches i) place word knows e = knows.1 refl
stored_taken k exchanges s catching.StoresCut place word knows e = knows refl
stored_taken k exchanges s catching.StoresOwing place word knows e = knows refl
stored_taken k exchanges s catching.Finishes place word knows e = knows refl

refreshes_so : (cause : CatchCause) → cause ≢ Wakes → refreshes cause ≡ true
refreshes_so Refreshes other = refl
refreshes_so Shifts other = refl
refreshes_so Wakes other = absurd (other refl)

last_so : (k : Seat) (exchanges : List Exchange) (s : SessionState) (cause : CatchCause) → s.step ≡ CatchesUp cause → CatchKnows k.number exchanges s.seen true s.catching s.catching.step → IsEpochLast k s exchanges
last_so k exchanges s cause e knows =
    let asks = asks_so k s cause e in
    record {
      phase = λ word stores. rw e (stored_taken k exchanges s s.catching.step (session_place k.number own.Epoch) word knows (sym asks ∙ stores)).taken;
      last = λ place word stores. (stored_taken k exchanges s s.catching.step place word knows (sym asks ∙ stores)).none;
    }

pub run_epoch : (k : Seat) (opening : SessionState) (events : List SessionEvent) (cause : CatchCause) → IsOpened opening → (session_run k opening events).step ≡ CatchesUp cause → cause ≢ Wakes
    → IsEpochLast k (session_run k opening events) (exchanged k opening events)
run_epoch k opening events cause opened e other =
    let s : SessionState = session_run k opening events in
    let exchanges : List Exchange = exchanged k opening events in
    let knows : StepKnows k exchanges s (CatchesUp cause) = subst (λ (x : Sitting). StepKnows k exchanges s x) e (run_known k opening events opened) in
    last_so k exchanges s cause e (subst (λ (r : Bool). CatchKnows k.number exchanges s.seen r s.catching s.catching.step) (refreshes_so cause other) knows)
