-- At every moment of a run a session that sleeps has nothing that waits, and does no more than it may.
use Rattle.std.proofs.Common.{◌≡◌, ℕ, ◌+◌, List, [], ◌∷◌, length, refl, arith, sym, subst, Bool, true, false}
use Rattle.std.specs.Prelude.{slice_get, Option, Some, None, if◌then◌else◌, not, ◌==◌}
use Rattle.std.proofs.lemmas.Bool.Decides.{nat_tests}
use Rattle.fkv_base.specs.declared.faults.Fault.{Fault}
use Rattle.fkv_base.specs.declared.faults.Fault.TheVariants as fault
use Rattle.fkv_map.specs.declared.operations.Call.{Call}
use Rattle.fkv_map.specs.declared.operations.Call.TheVariants as call
use Rattle.fkv_map.specs.declared.operations.Op.{Op}
use Rattle.fkv_plane.specs.declared.actions.Action.{Action}
use Rattle.fkv_plane.specs.declared.asks.Ask.{Ask}
use Rattle.fkv_plane.specs.declared.asks.Ask.TheVariants.{Done}
use Rattle.fkv_epoch.specs.Leaving.{leave_next}
use Rattle.fkv_latch.specs.declared.latching.LatchAnswer.{LatchAnswer}
use Rattle.fkv_latch.specs.declared.latching.LatchAnswer.TheVariants.{Taken as LatchTaken}
use Rattle.fkv_latch.specs.Latching.{latch_next_ask}
use Rattle.fkv_ops.specs.declared.answers.Reason.{Reason}
use Rattle.fkv_ops.specs.declared.answers.Reason.TheVariants as reason
use Rattle.fkv_ops.specs.declared.answers.TryAnswer.{TryAnswer}
use Rattle.fkv_ops.specs.declared.answers.TryAnswer.TheVariants as tried
use Rattle.fkv_ops.specs.Requests.{is_read}
use Rattle.fkv_pending.specs.declared.mailing.MailAnswer.{MailAnswer}
use Rattle.fkv_pending.specs.declared.mailing.MailAnswer.TheVariants.{Cleared}
use Rattle.fkv_pending.specs.declared.pending_requests.PendingRequest.{PendingRequest}
use Rattle.fkv_pending.specs.Mailing.{mail_next}
use Rattle.fkv_session.specs.declared.answers.Told.{Told}
use Rattle.fkv_session.specs.declared.answers.Told.TheVariants as told
use Rattle.fkv_session.specs.declared.catching_up.Catching.{Catching}
use Rattle.fkv_session.specs.declared.catching_up.Catching.TheVariants.{Latches}
use Rattle.fkv_session.specs.declared.sessions.CatchCause.{CatchCause}
use Rattle.fkv_session.specs.declared.sessions.CatchCause.TheVariants.{Refreshes, Wakes, Shifts}
use Rattle.fkv_session.specs.declared.sessions.Sitting.{Sitting}
use Rattle.fkv_session.specs.declared.sessions.Sitting.TheVariants.{Idle, Attempts, CatchesUp, ClearsMail, Polls, StoresOwing, Turns, StoresCut, Leaves, LoadsDurable}
use Rattle.fkv_session.specs.Asleep.{IsAsleep}
use Rattle.fkv_session.specs.CatchingUp.{CatchState, latched, latch_marked, catching_requests}
use Rattle.fkv_session.specs.OwnTurns.{own_turn_given}
use Rattle.fkv_session.specs.Sessions.{SessionState, Seat, is_busy, answers, refuses, answers_after_turn, ticket_after, attempts, polls_request, polls_at, refusal_of, op_begun, refresh_call, poll_begun, poll_call, sleep_call, wake_call, call_begun, attempt_left, poll_left, serial_taken, update_done, is_no_room, with_request, accepts, shifts, attempted, attempt_ledto, catch_ledto, clear_ledto, is_finished, is_owed, request_finished, finishes_request, keeps_request, poll_ledto, turn_ledto, leave_ledto, attempt_moved, caught, own_turn_moved, sitting_next, sitting_given, asks_after, is_word_ask, session_ask, IsOpened}
use Rattle.fkv_session.specs.SessionRun.{SessionEvent, Begins, Replies, Gets, begins, session_happens, session_run}

-- where it may sleep nothing waits, and elsewhere it is awake
abbrev pub IsSleepSound : SessionState → Sitting → Type 0
IsSleepSound s (Idle its) = s.is_awake ≡ false → IsAsleep s.requests (Idle its)
IsSleepSound s LoadsDurable = s.is_awake ≡ false → s.requests ≡ []
IsSleepSound s (CatchesUp Wakes) = s.requests ≡ []
IsSleepSound s StoresCut = (s.is_awake ≡ true) × (s.requests ≡ [])
IsSleepSound s Leaves = (s.is_awake ≡ true) × (s.requests ≡ [])
IsSleepSound s step = s.is_awake ≡ true

abbrev IsSoundNow : SessionState → Type 0
IsSoundNow s = IsSleepSound s s.step

still : (s : SessionState) (step : Sitting) → s.step ≡ step → IsSleepSound s step → IsSoundNow s
still s step e sound = subst (λ (x : Sitting). IsSleepSound s x) (sym e) sound

either_sound : (c : Bool) (a b : SessionState) → IsSoundNow a → IsSoundNow b → IsSoundNow (if c then a else b)
either_sound true a b one other = one
either_sound false a b one other = other

not_asleep : {A : Type 0} (c : Bool) → c ≡ true → c ≡ false → A
not_asleep true is not_so = cc
not_asleep false is not_so = cc

awake_answers : (s : SessionState) (its : Told) → s.is_awake ≡ true → IsSoundNow (answers s its)
awake_answers s its awake = λ asleep. not_asleep s.is_awake awake asleep

turn_sound : (s : SessionState) (its : Told) → s.is_awake ≡ true → IsSoundNow (answers_after_turn s its)
turn_sound s its awake = either_sound s.wants_turn _ (answers s its) awake (awake_answers s its awake)

attempts_sound : (k : Seat) (s : SessionState) (has_shifted : Bool) → s.is_awake ≡ true → IsSoundNow (attempts k s has_shifted)
unfolding attempts
attempts_sound k s has_shifted awake = awake

polls_found : (k : Seat) (s : SessionState) (i : ℕ) (found : Option PendingRequest) → s.is_awake ≡ true → IsSoundNow (polls_request k s i found)
polls_found k s i None awake = turn_sound s (told.Polled (length s.requests)) awake
polls_found k s i (Some pending) awake = awake

polls_sound : (k : Seat) (s : SessionState) (i : ℕ) → s.is_awake ≡ true → IsSoundNow (polls_at k s i)
unfolding polls_at
polls_sound k s i awake = polls_found k s i (slice_get s.requests i) awake

accepts_sound : (s : SessionState) (why : Reason) → s.is_awake ≡ true → IsSoundNow (accepts s why)
unfolding accepts
accepts_sound s why awake =
    either_sound (is_read s.op) (answers (with_request (record s { ticket = ticket_after s.ticket })) (told.PendingRead (record { 0 = ticket_after s.ticket }))) _
    (awake_answers (with_request (record s { ticket = ticket_after s.ticket })) _ awake)
    (turn_sound (with_request (serial_taken (record s { wants_turn = is_no_room why }))) (told.Pending (record { 0 = s.serial + 1 }) why) awake)

shifts_sound : (s : SessionState) (has_shifted : Bool) → s.is_awake ≡ true → IsSoundNow (shifts s has_shifted)
unfolding shifts
shifts_sound s false awake = awake
shifts_sound s true awake = accepts_sound s reason.Contended awake

attempted_sound : (s : SessionState) (has_shifted : Bool) (its : TryAnswer) → s.is_awake ≡ true → IsSoundNow (attempted s has_shifted its)
attempted_sound s has_shifted (tried.Done reply) awake = either_sound (is_read s.op) (answers s told.Absent) (update_done s reply) (awake_answers s told.Absent awake) (awake_answers (serial_taken s) _ awake)
attempted_sound s has_shifted (tried.Found value) awake = awake_answers s (told.Found value) awake
attempted_sound s has_shifted tried.Absent awake = awake_answers s told.Absent awake
attempted_sound s has_shifted (tried.Wait why) awake = accepts_sound s why awake
attempted_sound s has_shifted (tried.AwaitsDisk sought) awake = accepts_sound s reason.Disk awake
attempted_sound s has_shifted tried.Shift awake = shifts_sound s has_shifted awake
attempted_sound s has_shifted tried.IndexFull awake = awake_answers s _ awake
attempted_sound s has_shifted tried.LogFull awake = awake_answers s _ awake

attempt_sound : (s : SessionState) (has_shifted : Bool) (ask : Ask TryAnswer) → s.step ≡ Attempts has_shifted → s.is_awake ≡ true → IsSoundNow (attempt_ledto s has_shifted ask)
unfolding attempt_ledto
attempt_sound s has_shifted (Done its) e awake = attempted_sound (attempt_left s) has_shifted its awake
attempt_sound s has_shifted ask e awake = still s (Attempts has_shifted) e awake

catch_sound : (k : Seat) (s : SessionState) (cause : CatchCause) (ask : Ask (Unit {0})) → s.step ≡ CatchesUp cause → IsSleepSound s (CatchesUp cause) → IsSoundNow (catch_ledto k s cause ask)
unfolding catch_ledto
catch_sound k s Refreshes (Done its) e sound = awake_answers (record s { seen = s.catching.seen }) _ sound
catch_sound k s Wakes (Done its) e sound = awake_answers (record s { seen = s.catching.seen; is_awake = true }) _ refl
catch_sound k s Shifts (Done its) e sound = attempts_sound k (record s { seen = s.catching.seen }) true sound
catch_sound k s cause ask e sound = still s (CatchesUp cause) e sound

clear_sound : (k : Seat) (s : SessionState) (ask : Ask MailAnswer) → s.step ≡ ClearsMail → s.is_awake ≡ true → IsSoundNow (clear_ledto k s ask)
unfolding clear_ledto
clear_sound k s (Done Cleared) e awake = polls_sound k (record s { is_orphaned = false }) 0 awake
clear_sound k s (Done its) e awake = polls_sound k s 0 awake
clear_sound k s ask e awake = still s ClearsMail e awake

finishes_sound : (k : Seat) (s : SessionState) (i : ℕ) (its : TryAnswer) → s.is_awake ≡ true → IsSoundNow (finishes_request k s i its)
unfolding finishes_request
finishes_sound k s i its awake = either_sound (is_owed s) (request_finished s i its) (polls_at k (request_finished s i its) i) awake (polls_sound k (request_finished s i its) i awake)

keeps_sound : (k : Seat) (s : SessionState) (i : ℕ) (its : TryAnswer) → s.is_awake ≡ true → IsSoundNow (keeps_request k s i its)
unfolding keeps_request
keeps_sound k s i its awake = polls_sound k _ (i + 1) awake

poll_sound : (k : Seat) (s : SessionState) (i : ℕ) (ask : Ask TryAnswer) → s.step ≡ Polls i → s.is_awake ≡ true → IsSoundNow (poll_ledto k s i ask)
unfolding poll_ledto
poll_sound k s i (Done its) e awake = either_sound (is_finished its) _ (keeps_request k (poll_left s) i its) (finishes_sound k (poll_left s) i its awake) (keeps_sound k (poll_left s) i its awake)
poll_sound k s i ask e awake = still s (Polls i) e awake

turned_sound : (s : SessionState) (its : Told) (ask : Ask (Unit {0})) → s.step ≡ Turns its → s.is_awake ≡ true → IsSoundNow (turn_ledto s its ask)
unfolding turn_ledto
turned_sound s its (Done through) e awake = awake_answers s its awake
turned_sound s its ask e awake = still s (Turns its) e awake

left_sound : (s : SessionState) (ask : Ask (Unit {0})) → s.step ≡ Leaves → (s.is_awake ≡ true) × (s.requests ≡ []) → IsSoundNow (leave_ledto s ask)
unfolding leave_ledto
left_sound s (Done its) e sound = λ asleep. record { none_wait = sound.1; accepts_none = tt }
left_sound s ask e sound = still s Leaves e sound

-- where nothing waits, no request shares a latch either
latched_none : (requests : List PendingRequest) (i : ℕ) (found : Option PendingRequest) → requests ≡ [] → latched requests i found ≡ []
latched_none requests i None none = none
latched_none requests i (Some p) none = rw none refl

marked_none : (requests : List PendingRequest) (i : ℕ) (ask : Ask LatchAnswer) → requests ≡ [] → latch_marked requests i ask ≡ []
unfolding latch_marked
marked_none requests i (Done LatchTaken) none = latched_none requests i (slice_get requests i) none
marked_none requests i ask none = none

caught_none : (c : CatchState) (requests : List PendingRequest) (step : Catching) (reply : ℕ) → requests ≡ [] → catching_requests c requests step reply ≡ []
unfolding catching_requests
caught_none c requests (Latches i) reply none = marked_none requests i (latch_next_ask c.latching reply) none
caught_none c requests step reply none = none

caught_sound : (k : Seat) (s : SessionState) (cause : CatchCause) (reply : ℕ) → IsSleepSound s (CatchesUp cause) → IsSleepSound (caught k s reply) (CatchesUp cause)
caught_sound k s Refreshes reply sound = sound
caught_sound k s Wakes reply sound = caught_none s.catching s.requests s.catching.step reply sound
caught_sound k s Shifts reply sound = sound

next_sound : (k : Seat) (s : SessionState) (step : Sitting) (reply : ℕ) → s.step ≡ step → IsSleepSound s step → IsSoundNow (sitting_next k s step reply)
unfolding sitting_next
next_sound k s (Idle its) reply e sound = still s (Idle its) e sound
next_sound k s (Attempts has_shifted) reply e sound = attempt_sound (attempt_moved k s reply) has_shifted _ e sound
next_sound k s (CatchesUp cause) reply e sound = catch_sound k (caught k s reply) cause _ e (caught_sound k s cause reply sound)
next_sound k s ClearsMail reply e sound = clear_sound k (record s { mailing = mail_next s.mailing reply }) _ e sound
next_sound k s (Polls i) reply e sound = poll_sound k (attempt_moved k s reply) i _ e sound
next_sound k s (StoresOwing i) reply e sound = polls_sound k s i sound
next_sound k s (Turns its) reply e sound = turned_sound (own_turn_moved k s reply) its _ e sound
next_sound k s StoresCut reply e sound = sound
next_sound k s Leaves reply e sound = left_sound (record s { leaving = leave_next s.leaving }) _ e sound
next_sound k s LoadsDurable reply e sound = λ asleep. record { none_wait = sound asleep; accepts_none = tt }

given_sound : (k : Seat) (s : SessionState) (step : Sitting) (action : Action) → s.step ≡ step → IsSleepSound s step → IsSoundNow (sitting_given k s step action)
unfolding sitting_given
given_sound k s (Turns its) action e sound = turned_sound (record s { own_turn = own_turn_given s.own_turn action }) its _ e sound
given_sound k s step action e sound = still s step e sound

-- a call that begins
refused_sound : (s : SessionState) → (s.is_awake ≡ false → s.requests ≡ []) → IsSoundNow (refuses s fault.Asleep)
refused_sound s none = λ asleep. record { none_wait = none asleep; accepts_none = refl }

by_awake : (s t : SessionState) → (s.is_awake ≡ true → IsSoundNow t) → (s.is_awake ≡ false → IsSoundNow t) → IsSoundNow t
by_awake s t awake asleep = tested s.is_awake refl
  where
    tested : (c : Bool) → s.is_awake ≡ c → IsSoundNow t
    tested true e = awake e
    tested false e = asleep e

op_sound : (k : Seat) (s : SessionState) (op : Op) (why : Option Fault) → (s.is_awake ≡ false → why ≡ Some fault.Asleep) → (s.is_awake ≡ false → s.requests ≡ []) → IsSoundNow (op_begun k s op why)
unfolding op_begun
op_sound k s op (Some why) refused none = λ asleep. record { none_wait = none asleep; accepts_none = let so = refused asleep in cc }
op_sound k s op None refused none = by_awake s (attempts k (record s { op = op }) false) (λ awake. attempts_sound k (record s { op = op }) false awake) (λ asleep. let so = refused asleep in cc)

clears_sound : (k : Seat) (s : SessionState) → s.is_awake ≡ true → IsSoundNow (poll_begun k s)
clears_sound k s awake = either_sound s.is_orphaned _ (polls_at k s 0) awake (polls_sound k s 0 awake)

-- by whether it is awake
way : (s a b : SessionState) (c : Bool) → (c ≡ true → IsSoundNow a) → (c ≡ false → IsSoundNow b) → IsSoundNow (if c then a else b)
way s a b true one other = one refl
way s a b false one other = other refl

is_awake_so : (c : Bool) → not c ≡ false → c ≡ true
is_awake_so true so = refl
is_awake_so false so = cc

no_requests : (requests : List PendingRequest) → (length requests == 0) ≡ true → requests ≡ []
no_requests [] none = refl
no_requests (p ∷ rest) none = absurd (grind (arith, nat_tests, none))

call_sound : (k : Seat) (s : SessionState) (its : Call) → (s.is_awake ≡ false → s.requests ≡ []) → IsSoundNow (call_begun k s its)
unfolding refresh_call poll_call sleep_call wake_call
call_sound k s (call.Op op) none = op_sound k s op (refusal_of s op) (λ asleep. rw asleep refl) none
call_sound k s call.Refresh none = way s _ (refuses s fault.Asleep) s.is_awake (λ awake. awake) (λ asleep. refused_sound s none)
call_sound k s call.Poll none = way s _ (refuses s fault.Asleep) s.is_awake (λ awake. clears_sound k (record s { finished = [] }) awake) (λ asleep. refused_sound s none)
call_sound k s call.Sleep none =
    way s (refuses s fault.Asleep) _ (not s.is_awake) (λ asleep. refused_sound s none)
    (λ stays. let awake = is_awake_so s.is_awake stays in way s (record s { step = StoresCut }) (refuses s fault.PendingLeft) (length s.requests == 0) (λ empty. (awake, no_requests s.requests empty)) (λ some. awake_answers s _ awake))
call_sound k s call.Wake none = way s (refuses s fault.Awake) _ s.is_awake (λ awake. awake_answers s _ awake) (λ asleep. none asleep)
call_sound k s call.Durable none = none

idle_none : (s : SessionState) (step : Sitting) → is_busy step ≡ false → IsSleepSound s step → s.is_awake ≡ false → s.requests ≡ []
idle_none s (Idle its) idle sound = λ asleep. (sound asleep).none_wait
idle_none s step idle sound = cc

begins_sound : (k : Seat) (s : SessionState) (its : Call) (busy : Bool) → is_busy s.step ≡ busy → IsSoundNow s → IsSoundNow (begins k s busy its)
begins_sound k s its true e sound = sound
begins_sound k s its false e sound = call_sound k (record s { asks = 0; effect = None; wants_turn = false }) its (idle_none s s.step e sound)

counted_sound : (s : SessionState) (asks : ℕ) (step : Sitting) → IsSleepSound s step → IsSleepSound (record s { asks = asks; effect = None }) step
counted_sound s asks (Idle its) sound = sound
counted_sound s asks (CatchesUp Refreshes) sound = sound
counted_sound s asks (CatchesUp Wakes) sound = sound
counted_sound s asks (CatchesUp Shifts) sound = sound
counted_sound s asks (Attempts has_shifted) sound = sound
counted_sound s asks ClearsMail sound = sound
counted_sound s asks (Polls i) sound = sound
counted_sound s asks (StoresOwing i) sound = sound
counted_sound s asks (Turns its) sound = sound
counted_sound s asks StoresCut sound = sound
counted_sound s asks Leaves sound = sound
counted_sound s asks LoadsDurable sound = sound

event_sound : (k : Seat) (s : SessionState) (event : SessionEvent) → IsSoundNow s → IsSoundNow (session_happens k s event)
unfolding session_happens
event_sound k s (Begins its) sound = begins_sound k s its (is_busy s.step) refl sound
event_sound k s (Replies reply) sound =
    let asks : ℕ = asks_after s.asks (is_word_ask (session_ask k s)) in
    next_sound k (record s { asks = asks; effect = None }) s.step reply refl (counted_sound s asks s.step sound)
event_sound k s (Gets action) sound = given_sound k s s.step action refl sound

opening_sound : (s : SessionState) (step : Sitting) → is_busy step ≡ false → s.is_awake ≡ true → IsSleepSound s step
opening_sound s (Idle its) idle awake = λ asleep. not_asleep s.is_awake awake asleep
opening_sound s step idle awake = cc

run_sound : (k : Seat) (opening : SessionState) (events : List SessionEvent) → IsOpened opening → IsSoundNow (session_run k opening events)
unfolding session_run
run_sound k opening [] opened = opening_sound opening opening.step opened.none_in_hand opened.awake
run_sound k opening (event ∷ before) opened = event_sound k (session_run k opening before) event (run_sound k opening before opened)

asleep_so : (s : SessionState) (step : Sitting) → IsSleepSound s step → s.is_awake ≡ false → IsAsleep s.requests step
asleep_so s (Idle its) sound asleep = sound asleep
asleep_so s LoadsDurable sound asleep = record { none_wait = sound asleep; accepts_none = tt }
asleep_so s (CatchesUp Wakes) sound asleep = record { none_wait = sound; accepts_none = tt }
asleep_so s (CatchesUp Refreshes) sound asleep = not_asleep s.is_awake sound asleep
asleep_so s (CatchesUp Shifts) sound asleep = not_asleep s.is_awake sound asleep
asleep_so s (Attempts has_shifted) sound asleep = not_asleep s.is_awake sound asleep
asleep_so s ClearsMail sound asleep = not_asleep s.is_awake sound asleep
asleep_so s (Polls i) sound asleep = not_asleep s.is_awake sound asleep
asleep_so s (StoresOwing i) sound asleep = not_asleep s.is_awake sound asleep
asleep_so s (Turns its) sound asleep = not_asleep s.is_awake sound asleep
asleep_so s StoresCut sound asleep = not_asleep s.is_awake sound.0 asleep
asleep_so s Leaves sound asleep = not_asleep s.is_awake sound.0 asleep

-- at every moment of a run
pub run_asleep : (k : Seat) (opening : SessionState) (events : List SessionEvent) → IsOpened opening → (session_run k opening events).is_awake ≡ false → IsAsleep (session_run k opening events).requests (session_run k opening events).step
run_asleep k opening events opened asleep = asleep_so (session_run k opening events) (session_run k opening events).step (run_sound k opening events opened) asleep
