-- What a refused call leaves, at every moment of a run.
use Rattle.std.proofs.Common.{◌≡◌, ℕ, ◌+◌, ◌∙◌, zero, suc, List, [], ◌∷◌, length, refl, ap, sym, subst, Bool, true, false}
use Rattle.std.specs.Prelude.{slice_get, slice_set, Option, Some, None, if◌then◌else◌, not, ◌||◌, ◌==◌}
use Rattle.fkv_base.specs.declared.faults.Fault.{Fault}
use Rattle.fkv_base.specs.declared.faults.Fault.TheVariants as fault
use Rattle.fkv_base.specs.declared.numbers.Serial.{Serial}
use Rattle.fkv_map.specs.declared.operations.Call.{Call}
use Rattle.fkv_map.specs.declared.operations.Call.TheVariants as call
use Rattle.fkv_map.specs.declared.operations.Op.{Op}
use Rattle.fkv_plane.specs.declared.actions.Action.{Action}
use Rattle.fkv_plane.specs.declared.asks.Ask.{Ask}
use Rattle.fkv_plane.specs.declared.asks.Ask.TheVariants.{Done}
use Rattle.fkv_epoch.specs.Leaving.{leave_next}
use Rattle.fkv_latch.specs.declared.latching.LatchAnswer.{LatchAnswer}
use Rattle.fkv_latch.specs.declared.latching.LatchAnswer.TheVariants.{Taken}
use Rattle.fkv_latch.specs.Latching.{latch_next_ask}
use Rattle.fkv_ops.specs.declared.answers.Reason.{Reason}
use Rattle.fkv_ops.specs.declared.answers.Reason.TheVariants as reason
use Rattle.fkv_ops.specs.declared.answers.TryAnswer.{TryAnswer}
use Rattle.fkv_ops.specs.declared.answers.TryAnswer.TheVariants as tried
use Rattle.fkv_ops.specs.Requests.{is_read}
use Rattle.fkv_pending.specs.declared.mailing.MailAnswer.{MailAnswer}
use Rattle.fkv_pending.specs.declared.mailing.MailAnswer.TheVariants.{Cleared}
use Rattle.fkv_pending.specs.declared.pending_requests.PendingRequest.{PendingRequest}
use Rattle.fkv_pending.specs.Pending.{with_latch}
use Rattle.fkv_pending.specs.Mailing.{mail_next}
use Rattle.fkv_session.specs.declared.answers.Told.{Told}
use Rattle.fkv_session.specs.declared.answers.Told.TheVariants as told
use Rattle.fkv_session.specs.declared.catching_up.Catching.{Catching}
use Rattle.fkv_session.specs.declared.catching_up.Catching.TheVariants.{Latches}
use Rattle.fkv_session.specs.declared.sessions.CatchCause.{CatchCause}
use Rattle.fkv_session.specs.declared.sessions.CatchCause.TheVariants.{Refreshes, Wakes, Shifts}
use Rattle.fkv_session.specs.declared.sessions.Sitting.{Sitting}
use Rattle.fkv_session.specs.declared.sessions.Sitting.TheVariants.{Idle, Attempts, CatchesUp, ClearsMail, Polls, StoresOwing, Turns, StoresCut, Leaves, LoadsDurable}
use Rattle.fkv_session.specs.CatchingUp.{CatchState, latched, latch_marked, catching_requests}
use Rattle.fkv_session.specs.OwnTurns.{own_turn_given}
use Rattle.fkv_session.specs.Sessions.{SessionState, Seat, is_busy, answers, refuses, answers_after_turn, attempts, polls_request, polls_at, refusal_of, op_begun, refresh_call, poll_begun, poll_call, sleep_call, wake_call, call_begun, attempt_left, poll_left, update_done, serial_taken, ticket_after, is_no_room, with_request, accepts, shifts, attempted, attempt_ledto, catch_ledto, clear_ledto, is_finished, is_owed, request_finished, finishes_request, keeps_request, poll_ledto, turn_ledto, leave_ledto, attempt_moved, caught, own_turn_moved, sitting_next, sitting_given, asks_after, is_word_ask, session_ask}
use Rattle.fkv_session.specs.SessionRun.{SessionEvent, Begins, Replies, Gets, begins, session_happens, session_run}
use Rattle.fkv_session.specs.Sessions.{IsOpened}
use Rattle.fkv_session.specs.Refused.{begun_from, before_call, is_catching_up, catches_up_by, has_caught_up, but_latches, IsLeft, HasTakenNothingUp, IsRefusal}

-- how the session stands to the one that began the call, by how far the call has come
abbrev pub IsSpared : SessionState → Bool → SessionState → Sitting → Type 0
IsSpared b caught s (Attempts has_shifted) = IsLeft b s × (has_shifted ≡ false → HasTakenNothingUp b s) × (has_shifted ≡ true → caught ≡ true)
IsSpared b caught s (CatchesUp Shifts) = IsLeft b s
IsSpared b caught s (Idle (told.Refused why)) = IsRefusal b s caught
IsSpared b caught s (Turns (told.Refused why)) = ⊥
IsSpared b caught s step = Unit {0}

abbrev pub IsSparedNow : SessionState → Bool → SessionState → Type 0
IsSparedNow b caught s = IsSpared b caught s s.step

still : (b : SessionState) (c : Bool) (s : SessionState) (step : Sitting) → s.step ≡ step → IsSpared b c s step → IsSparedNow b c s
still b c s step e spared = subst (λ (x : Sitting). IsSpared b c s x) (sym e) spared

either_spared : (t : Bool) (b : SessionState) (c : Bool) (x y : SessionState) → IsSparedNow b c x → IsSparedNow b c y → IsSparedNow b c (if t then x else y)
either_spared true b c x y one other = one
either_spared false b c x y one other = other

latch_twice : (p : PendingRequest) → with_latch (with_latch p true) false ≡ with_latch p false
unfolding with_latch
latch_twice p = refl

set_spared : (requests : List PendingRequest) (i : ℕ) (p : PendingRequest) → slice_get requests i ≡ Some p → but_latches (slice_set requests i (with_latch p true)) ≡ but_latches requests
set_spared [] i p got = refl
set_spared (o ∷ rest) zero p got =
    let same : o ≡ p = cc in
    ap (λ (first : PendingRequest). first ∷ but_latches rest) (latch_twice p ∙ ap (λ (x : PendingRequest). with_latch x false) (sym same))
set_spared (o ∷ rest) (suc i) p got = ap (λ (behind : List PendingRequest). with_latch o false ∷ behind) (set_spared rest i p got)

latched_spared : (requests : List PendingRequest) (i : ℕ) (found : Option PendingRequest) → slice_get requests i ≡ found → but_latches (latched requests i found) ≡ but_latches requests
latched_spared requests i None got = refl
latched_spared requests i (Some p) got = set_spared requests i p got

marked_spared : (requests : List PendingRequest) (i : ℕ) (ask : Ask LatchAnswer) → but_latches (latch_marked requests i ask) ≡ but_latches requests
unfolding latch_marked
marked_spared requests i (Done Taken) = latched_spared requests i (slice_get requests i) refl
marked_spared requests i ask = refl

pub caught_spared : (c : CatchState) (requests : List PendingRequest) (step : Catching) (reply : ℕ) → but_latches (catching_requests c requests step reply) ≡ but_latches requests
unfolding catching_requests
caught_spared c requests (Latches i) reply = marked_spared requests i (latch_next_ask c.latching reply)
caught_spared c requests step reply = refl

turn_spared : (b : SessionState) (c : Bool) (s : SessionState) (left : ℕ) → IsSparedNow b c (answers_after_turn s (told.Polled left))
turn_spared b c s left = either_spared s.wants_turn b c _ (answers s (told.Polled left)) tt tt

polls_found : (b : SessionState) (c : Bool) (k : Seat) (s : SessionState) (i : ℕ) (found : Option PendingRequest) → IsSparedNow b c (polls_request k s i found)
polls_found b c k s i None = turn_spared b c s (length s.requests)
polls_found b c k s i (Some pending) = tt

polls_spared : (b : SessionState) (c : Bool) (k : Seat) (s : SessionState) (i : ℕ) → IsSparedNow b c (polls_at k s i)
unfolding polls_at
polls_spared b c k s i = polls_found b c k s i (slice_get s.requests i)

pended_spared : (b : SessionState) (c : Bool) (s : SessionState) (serial : Serial) (why : Reason) → IsSparedNow b c (answers_after_turn s (told.Pending serial why))
pended_spared b c s serial why = either_spared s.wants_turn b c _ (answers s (told.Pending serial why)) tt tt

accepts_spared : (b : SessionState) (c : Bool) (s : SessionState) (why : Reason) → IsSparedNow b c (accepts s why)
unfolding accepts
accepts_spared b c s why =
    either_spared (is_read s.op) b c (answers (with_request (record s { ticket = ticket_after s.ticket })) (told.PendingRead (record { 0 = ticket_after s.ticket }))) _ tt
    (pended_spared b c (with_request (serial_taken (record s { wants_turn = is_no_room why }))) (record { 0 = s.serial + 1 }) why)

shifts_spared : (b : SessionState) (c : Bool) (s : SessionState) (has_shifted : Bool) → IsLeft b s → IsSparedNow b c (shifts s has_shifted)
unfolding shifts
shifts_spared b c s false left = record { serial = left.serial; ticket = left.ticket; awake = left.awake; finished = left.finished; requests = left.requests }
shifts_spared b c s true left = accepts_spared b c s reason.Contended

refused_spared : (b : SessionState) (c : Bool) (s : SessionState) (why : Fault) (has_shifted : Bool) → IsSpared b c s (Attempts has_shifted) → IsSparedNow b c (refuses s why)
refused_spared b c s why false spared = record {
  left = record { serial = spared.0.serial; ticket = spared.0.ticket; awake = spared.0.awake; finished = spared.0.finished; requests = spared.0.requests };
  took_nothing_up = λ e. let whole = spared.1 refl in record { seen = whole.seen; requests = whole.requests };
}
refused_spared b c s why true spared = record {
  left = record { serial = spared.0.serial; ticket = spared.0.ticket; awake = spared.0.awake; finished = spared.0.finished; requests = spared.0.requests };
  took_nothing_up = λ e. let some : c ≡ true = spared.2 refl in cc;
}

attempted_spared : (b : SessionState) (c : Bool) (s : SessionState) (has_shifted : Bool) (its : TryAnswer) → IsSpared b c s (Attempts has_shifted) → IsSparedNow b c (attempted s has_shifted its)
attempted_spared b c s has_shifted (tried.Done reply) spared = either_spared (is_read s.op) b c (answers s told.Absent) (update_done s reply) tt tt
attempted_spared b c s has_shifted (tried.Found value) spared = tt
attempted_spared b c s has_shifted tried.Absent spared = tt
attempted_spared b c s has_shifted (tried.Wait why) spared = accepts_spared b c s why
attempted_spared b c s has_shifted (tried.AwaitsDisk sought) spared = accepts_spared b c s reason.Disk
attempted_spared b c s has_shifted tried.Shift spared = shifts_spared b c s has_shifted spared.0
attempted_spared b c s has_shifted tried.IndexFull spared = refused_spared b c s fault.IndexFull has_shifted spared
attempted_spared b c s has_shifted tried.LogFull spared = refused_spared b c s fault.LogFull has_shifted spared

copied : (b : SessionState) (c : Bool) (s t : SessionState) (has_shifted : Bool) → t.serial ≡ s.serial → t.ticket ≡ s.ticket → t.is_awake ≡ s.is_awake → t.finished ≡ s.finished → t.seen ≡ s.seen → t.requests ≡ s.requests
    → IsSpared b c s (Attempts has_shifted) → IsSpared b c t (Attempts has_shifted)
copied b c s t has_shifted e0 e1 e2 e3 e4 e5 spared = (
  record { serial = e0 ∙ spared.0.serial; ticket = e1 ∙ spared.0.ticket; awake = e2 ∙ spared.0.awake; finished = e3 ∙ spared.0.finished; requests = ap but_latches e5 ∙ spared.0.requests },
  (λ e. let whole = spared.1 e in record { seen = e4 ∙ whole.seen; requests = e5 ∙ whole.requests }),
  spared.2,
)

attempt_spared : (b : SessionState) (c : Bool) (s : SessionState) (has_shifted : Bool) (ask : Ask TryAnswer) → s.step ≡ Attempts has_shifted → IsSpared b c s (Attempts has_shifted) → IsSparedNow b c (attempt_ledto s has_shifted ask)
unfolding attempt_ledto
attempt_spared b c s has_shifted (Done its) e spared = attempted_spared b c (attempt_left s) has_shifted its (copied b c s (attempt_left s) has_shifted refl refl refl refl refl refl spared)
attempt_spared b c s has_shifted ask e spared = still b c s (Attempts has_shifted) e spared

attempts_spared : (b : SessionState) (c : Bool) (k : Seat) (s : SessionState) (has_shifted : Bool) → IsSpared b c s (Attempts has_shifted) → IsSparedNow b c (attempts k s has_shifted)
unfolding attempts
attempts_spared b c k s has_shifted spared = copied b c s (attempts k s has_shifted) has_shifted refl refl refl refl refl refl spared

left_shifted : (b s t : SessionState) → t.serial ≡ s.serial → t.ticket ≡ s.ticket → t.is_awake ≡ s.is_awake → t.finished ≡ s.finished → but_latches t.requests ≡ but_latches s.requests → IsLeft b s → IsLeft b t
left_shifted b s t e0 e1 e2 e3 e4 left = record { serial = e0 ∙ left.serial; ticket = e1 ∙ left.ticket; awake = e2 ∙ left.awake; finished = e3 ∙ left.finished; requests = e4 ∙ left.requests }

catch_spared : (b : SessionState) (k : Seat) (s : SessionState) (cause : CatchCause) (ask : Ask (Unit {0})) → s.step ≡ CatchesUp cause → IsSpared b true s (CatchesUp cause) → IsSparedNow b true (catch_ledto k s cause ask)
unfolding catch_ledto
catch_spared b k s Refreshes (Done its) e spared = tt
catch_spared b k s Wakes (Done its) e spared = tt
catch_spared b k s Shifts (Done its) e spared =
    let t : SessionState = record s { seen = s.catching.seen } in
    attempts_spared b true k t true (left_shifted b s t refl refl refl refl refl spared, (λ e. cc), (λ e. refl))
catch_spared b k s cause ask e spared = still b true s (CatchesUp cause) e spared

caught_left : (b : SessionState) (c : Bool) (k : Seat) (s : SessionState) (cause : CatchCause) (reply : ℕ) → IsSpared b c s (CatchesUp cause) → IsSpared b true (caught k s reply) (CatchesUp cause)
caught_left b c k s Refreshes reply spared = tt
caught_left b c k s Wakes reply spared = tt
caught_left b c k s Shifts reply spared = left_shifted b s (caught k s reply) refl refl refl refl (caught_spared s.catching s.requests s.catching.step reply) spared

clear_spared : (b : SessionState) (c : Bool) (k : Seat) (s : SessionState) (ask : Ask MailAnswer) → s.step ≡ ClearsMail → IsSparedNow b c (clear_ledto k s ask)
unfolding clear_ledto
clear_spared b c k s (Done Cleared) e = polls_spared b c k (record s { is_orphaned = false }) 0
clear_spared b c k s (Done its) e = polls_spared b c k s 0
clear_spared b c k s ask e = still b c s ClearsMail e tt

finishes_spared : (b : SessionState) (c : Bool) (k : Seat) (s : SessionState) (i : ℕ) (its : TryAnswer) → IsSparedNow b c (finishes_request k s i its)
unfolding finishes_request
finishes_spared b c k s i its = either_spared (is_owed s) b c (request_finished s i its) _ tt (polls_spared b c k (request_finished s i its) i)

keeps_spared : (b : SessionState) (c : Bool) (k : Seat) (s : SessionState) (i : ℕ) (its : TryAnswer) → IsSparedNow b c (keeps_request k s i its)
unfolding keeps_request
keeps_spared b c k s i its = polls_spared b c k _ (i + 1)

poll_spared : (b : SessionState) (c : Bool) (k : Seat) (s : SessionState) (i : ℕ) (ask : Ask TryAnswer) → s.step ≡ Polls i → IsSparedNow b c (poll_ledto k s i ask)
unfolding poll_ledto
poll_spared b c k s i (Done its) e = either_spared (is_finished its) b c (finishes_request k (poll_left s) i its) _ (finishes_spared b c k (poll_left s) i its) (keeps_spared b c k (poll_left s) i its)
poll_spared b c k s i ask e = still b c s (Polls i) e tt

turned_spared : (b : SessionState) (c : Bool) (s : SessionState) (its : Told) → IsSpared b c s (Turns its) → IsSpared b c (answers s its) (Idle its)
turned_spared b c s (told.Refused why) spared = absurd spared
turned_spared b c s its spared = tt

turning_spared : (b : SessionState) (c : Bool) (s t : SessionState) (its : Told) → IsSpared b c s (Turns its) → IsSpared b c t (Turns its)
turning_spared b c s t (told.Refused why) spared = absurd spared
turning_spared b c s t its spared = tt

turns_spared : (b : SessionState) (c : Bool) (s : SessionState) (its : Told) (ask : Ask (Unit {0})) → s.step ≡ Turns its → IsSpared b c s (Turns its) → IsSparedNow b c (turn_ledto s its ask)
unfolding turn_ledto
turns_spared b c s its (Done through) e spared = turned_spared b c s its spared
turns_spared b c s its ask e spared = still b c s (Turns its) e spared

leave_spared : (b : SessionState) (c : Bool) (s : SessionState) (ask : Ask (Unit {0})) → s.step ≡ Leaves → IsSparedNow b c (leave_ledto s ask)
unfolding leave_ledto
leave_spared b c s (Done its) e = tt
leave_spared b c s ask e = still b c s Leaves e tt

idle_spared : (b : SessionState) (c : Bool) (s t : SessionState) (its : Told) → t.serial ≡ s.serial → t.ticket ≡ s.ticket → t.is_awake ≡ s.is_awake → t.finished ≡ s.finished → t.seen ≡ s.seen → t.requests ≡ s.requests
    → IsSpared b c s (Idle its) → IsSpared b c t (Idle its)
idle_spared b c s t (told.Refused why) e0 e1 e2 e3 e4 e5 spared = record {
  left = left_shifted b s t e0 e1 e2 e3 (ap but_latches e5) spared.left;
  took_nothing_up = λ e. let whole = spared.took_nothing_up e in record { seen = e4 ∙ whole.seen; requests = e5 ∙ whole.requests };
}
idle_spared b c s t its e0 e1 e2 e3 e4 e5 spared = tt

next_spared : (b : SessionState) (c : Bool) (k : Seat) (s : SessionState) (step : Sitting) (reply : ℕ) → s.step ≡ step → IsSpared b c s step → IsSparedNow b (is_catching_up step || c) (sitting_next k s step reply)
unfolding sitting_next
next_spared b c k s (Idle its) reply e spared = still b c s (Idle its) e spared
next_spared b c k s (Attempts has_shifted) reply e spared = attempt_spared b c (attempt_moved k s reply) has_shifted _ e (copied b c s (attempt_moved k s reply) has_shifted refl refl refl refl refl refl spared)
next_spared b c k s (CatchesUp cause) reply e spared = catch_spared b k (caught k s reply) cause _ e (caught_left b c k s cause reply spared)
next_spared b c k s ClearsMail reply e spared = clear_spared b c k (record s { mailing = mail_next s.mailing reply }) _ e
next_spared b c k s (Polls i) reply e spared = poll_spared b c k (attempt_moved k s reply) i _ e
next_spared b c k s (StoresOwing i) reply e spared = polls_spared b c k s i
next_spared b c k s (Turns its) reply e spared = turns_spared b c (own_turn_moved k s reply) its _ e (turning_spared b c s (own_turn_moved k s reply) its spared)
next_spared b c k s StoresCut reply e spared = tt
next_spared b c k s Leaves reply e spared = leave_spared b c (record s { leaving = leave_next s.leaving }) _ e
next_spared b c k s LoadsDurable reply e spared = tt

caught_more : (b : SessionState) (c : Bool) (s : SessionState) (step : Sitting) → IsSpared b c s step → IsSpared b (is_catching_up step || c) s step
caught_more b c s (CatchesUp Refreshes) spared = tt
caught_more b c s (CatchesUp Wakes) spared = tt
caught_more b c s (CatchesUp Shifts) spared = spared
caught_more b c s (Idle its) spared = spared
caught_more b c s (Attempts has_shifted) spared = spared
caught_more b c s ClearsMail spared = tt
caught_more b c s (Polls i) spared = tt
caught_more b c s (StoresOwing i) spared = tt
caught_more b c s (Turns its) spared = spared
caught_more b c s StoresCut spared = tt
caught_more b c s Leaves spared = tt
caught_more b c s LoadsDurable spared = tt

given_spared : (b : SessionState) (c : Bool) (k : Seat) (s : SessionState) (step : Sitting) (action : Action) → s.step ≡ step → IsSpared b c s step → IsSparedNow b (is_catching_up step || c) (sitting_given k s step action)
unfolding sitting_given
given_spared b c k s (Turns its) action e spared =
    let t : SessionState = record s { own_turn = own_turn_given s.own_turn action } in
    turns_spared b c t its _ e (turning_spared b c s t its spared)
given_spared b c k s step action e spared = still b (is_catching_up step || c) s step e (caught_more b c s step spared)

op_spared : (b : SessionState) (k : Seat) (s : SessionState) (op : Op) (why : Option Fault) → IsLeft b s → HasTakenNothingUp b s → IsSparedNow b false (op_begun k s op why)
unfolding op_begun
op_spared b k s op (Some why) left whole = refused_spared b false s why false (left, (λ e. whole), (λ e. cc))
op_spared b k s op None left whole =
    let t : SessionState = record s { op = op } in
    attempts_spared b false k t false (copied b false s t false refl refl refl refl refl refl (left, (λ e. whole), (λ e. cc)))

call_spared : (b : SessionState) (k : Seat) (s : SessionState) (its : Call) → IsLeft b s → HasTakenNothingUp b s → IsSparedNow b false (call_begun k s its)
unfolding refresh_call poll_call sleep_call wake_call
call_spared b k s (call.Op op) left whole = op_spared b k s op (refusal_of s op) left whole
call_spared b k s call.Refresh left whole = either_spared s.is_awake b false _ (refuses s fault.Asleep) tt (refused_spared b false s fault.Asleep false (left, (λ e. whole), (λ e. cc)))
call_spared b k s call.Poll left whole =
    either_spared s.is_awake b false (poll_begun k (record s { finished = [] })) (refuses s fault.Asleep)
    (either_spared s.is_orphaned b false _ (polls_at k (record s { finished = [] }) 0) tt (polls_spared b false k (record s { finished = [] }) 0))
    (refused_spared b false s fault.Asleep false (left, (λ e. whole), (λ e. cc)))
call_spared b k s call.Sleep left whole =
    either_spared (not s.is_awake) b false (refuses s fault.Asleep) _ (refused_spared b false s fault.Asleep false (left, (λ e. whole), (λ e. cc)))
    (either_spared (length s.requests == 0) b false _ (refuses s fault.PendingLeft) tt (refused_spared b false s fault.PendingLeft false (left, (λ e. whole), (λ e. cc))))
call_spared b k s call.Wake left whole = either_spared s.is_awake b false (refuses s fault.Awake) _ (refused_spared b false s fault.Awake false (left, (λ e. whole), (λ e. cc))) tt
call_spared b k s call.Durable left whole = tt

begins_spared : (b : SessionState) (c : Bool) (k : Seat) (s : SessionState) (its : Call) (busy : Bool) → IsSparedNow b c s → IsSparedNow (if busy then b else s) (if busy then c else false) (begins k s busy its)
begins_spared b c k s its true spared = spared
begins_spared b c k s its false spared =
    call_spared s k (record s { asks = 0; effect = None; wants_turn = false }) its
    (record { serial = refl; ticket = refl; awake = refl; finished = refl; requests = refl }) (record { seen = refl; requests = refl })

restarted : (b : SessionState) (c : Bool) (s t : SessionState) (step : Sitting) → t.serial ≡ s.serial → t.ticket ≡ s.ticket → t.is_awake ≡ s.is_awake → t.finished ≡ s.finished → t.seen ≡ s.seen → t.requests ≡ s.requests
    → IsSpared b c s step → IsSpared b c t step
restarted b c s t (Attempts has_shifted) e0 e1 e2 e3 e4 e5 spared = copied b c s t has_shifted e0 e1 e2 e3 e4 e5 spared
restarted b c s t (CatchesUp Shifts) e0 e1 e2 e3 e4 e5 spared = left_shifted b s t e0 e1 e2 e3 (ap but_latches e5) spared
restarted b c s t (CatchesUp Refreshes) e0 e1 e2 e3 e4 e5 spared = tt
restarted b c s t (CatchesUp Wakes) e0 e1 e2 e3 e4 e5 spared = tt
restarted b c s t (Idle its) e0 e1 e2 e3 e4 e5 spared = idle_spared b c s t its e0 e1 e2 e3 e4 e5 spared
restarted b c s t (Turns its) e0 e1 e2 e3 e4 e5 spared = turning_spared b c s t its spared
restarted b c s t ClearsMail e0 e1 e2 e3 e4 e5 spared = tt
restarted b c s t (Polls i) e0 e1 e2 e3 e4 e5 spared = tt
restarted b c s t (StoresOwing i) e0 e1 e2 e3 e4 e5 spared = tt
restarted b c s t StoresCut e0 e1 e2 e3 e4 e5 spared = tt
restarted b c s t Leaves e0 e1 e2 e3 e4 e5 spared = tt
restarted b c s t LoadsDurable e0 e1 e2 e3 e4 e5 spared = tt

event_spared : (b : SessionState) (c : Bool) (k : Seat) (s : SessionState) (event : SessionEvent) → IsSparedNow b c s → IsSparedNow (begun_from s event b) (catches_up_by s event c) (session_happens k s event)
unfolding session_happens
event_spared b c k s (Begins its) spared = begins_spared b c k s its (is_busy s.step) spared
event_spared b c k s (Replies reply) spared =
    let t : SessionState = record s { asks = asks_after s.asks (is_word_ask (session_ask k s)); effect = None } in
    next_spared b c k t s.step reply refl (restarted b c s t s.step refl refl refl refl refl refl spared)
event_spared b c k s (Gets action) spared = given_spared b c k s s.step action refl spared

opening_spared : (s : SessionState) (step : Sitting) → is_busy step ≡ false → IsSpared s false s step
opening_spared s (Idle (told.Refused why)) idle = record {
  left = record { serial = refl; ticket = refl; awake = refl; finished = refl; requests = refl };
  took_nothing_up = λ e. record { seen = refl; requests = refl };
}
opening_spared s (Idle its) idle = tt
opening_spared s step idle = cc

pub run_spared : (k : Seat) (opening : SessionState) (events : List SessionEvent) → IsOpened opening → IsSparedNow (before_call k opening events) (has_caught_up k opening events) (session_run k opening events)
unfolding session_run before_call has_caught_up
run_spared k opening [] opened = opening_spared opening opening.step opened.none_in_hand
run_spared k opening (event ∷ before) opened =
    event_spared (before_call k opening before) (has_caught_up k opening before) k (session_run k opening before) event (run_spared k opening before opened)

pub run_refusal : (k : Seat) (opening : SessionState) (events : List SessionEvent) (why : Fault) → IsOpened opening → (session_run k opening events).step ≡ Idle (told.Refused why)
    → IsRefusal (before_call k opening events) (session_run k opening events) (has_caught_up k opening events)
run_refusal k opening events why opened e =
    subst (λ (x : Sitting). IsSpared (before_call k opening events) (has_caught_up k opening events) (session_run k opening events) x) e (run_spared k opening events opened)
