-- A reply that makes an effect leads to no drain slot, so the session tells the effect as the event is over.
use Rattle.std.proofs.Common.{◌≡◌, ℕ, ◌+◌, ◌∙◌, refl, sym, Bool, true, false}
use Rattle.std.specs.Prelude.{⊤, Option, Some, None, if◌then◌else◌, ◌||◌, slice_get, slice_set}
use Rattle.fkv_map.specs.declared.history.HistoryEntry.{HistoryEntry}
use Rattle.fkv_plane.specs.declared.asks.Ask.{Ask}
use Rattle.fkv_plane.specs.declared.asks.Ask.TheVariants.{Put, Take, Done}
use Rattle.fkv_pending.specs.declared.mailing.MailAnswer.{MailAnswer}
use Rattle.fkv_pending.specs.declared.mailing.MailAnswer.TheVariants.{Cleared}
use Rattle.fkv_pending.specs.declared.pending_requests.PendingRequest.{PendingRequest}
use Rattle.fkv_ops.specs.declared.answers.Reason.{Reason}
use Rattle.fkv_ops.specs.declared.answers.TryAnswer.{TryAnswer}
use Rattle.fkv_ops.specs.declared.answers.TryAnswer.TheVariants as tried
use Rattle.fkv_ops.specs.Requests.{is_read}
use Rattle.fkv_session.specs.declared.answers.Told.{Told}
use Rattle.fkv_session.specs.declared.sessions.Sitting.{Sitting}
use Rattle.fkv_session.specs.declared.sessions.Sitting.TheVariants.{Idle, Attempts, CatchesUp, ClearsMail, Polls, StoresOwing, Turns, StoresCut, Leaves, LoadsDurable}
use Rattle.fkv_session.specs.Sessions.{SessionState, Seat, is_finished, is_owed, answers_after_turn, accepts, shifts, attempted, attempt_ledto, attempt_left, clear_ledto, polls_request, polls_at, finishes_request, keeps_request, request_finished, poll_left, poll_ledto, session_ask, session_next, sitting_ask, sitting_next}
use Rattle.fkv_session.specs.Sessions.{is_no_room, lacks_room, serial_taken, with_request, attempt_moved, caught, own_turn_moved}
use Rattle.fkv_session.specs.CatchingUp.{catching_ask}
use Rattle.fkv_session.specs.OwnTurns.{own_turning_ask}
use Rattle.fkv_epoch.specs.Refreshing.{refresh_ask}
use Rattle.fkv_epoch.specs.Scanning.{scan_ask}
use Rattle.fkv_plane.specs.Passing.{passed}
use Rattle.fkv_epoch.proofs.Shown.{none_some}
use Rattle.fkv_plane.specs.Asked.{reply_to}
use Rattle.fkv_world.specs.Moves.{Near, session_settled, session_asks}
use Rattle.fkv_session.specs.declared.sessions.CatchCause.{CatchCause}
use Rattle.fkv_session.specs.declared.sessions.CatchCause.TheVariants.{Refreshes, Wakes, Shifts}
use Rattle.fkv_session.specs.Sessions.{attempts, catch_ledto, leave_ledto, turn_ledto}
use Rattle.law_world.proofs.OfRuns.NoSlots.{IsOffSlots, passed_off, attempt_off_slots}

-- of a session at a step
abbrev pub IsOff : Seat → SessionState → Type 0
IsOff k s = IsOffSlots (session_ask k s)

either_off : (k : Seat) (b : Bool) (s other : SessionState) → IsOff k s → IsOff k other → IsOff k (if b then s else other)
either_off k true s other one two = one
either_off k false s other one two = two

turn_off : (k : Seat) (s : SessionState) (its : Told) → IsOff k (answers_after_turn s its)
unfolding sitting_ask own_turning_ask scan_ask passed
turn_off k s its = either_off k s.wants_turn _ _ tt tt

accepts_off : (k : Seat) (s : SessionState) (why : Reason) → IsOff k (accepts s why)
unfolding sitting_ask accepts
accepts_off k s why = either_off k (is_read s.op) _ _ tt (turn_off k (with_request (serial_taken (record s { wants_turn = is_no_room why }))) _)

shifts_off : (k : Seat) (s : SessionState) (again : Bool) → IsOff k (shifts s again)
unfolding sitting_ask shifts catching_ask refresh_ask passed
shifts_off k s false = tt
shifts_off k s true = accepts_off k s _

attempted_off : (k : Seat) (s : SessionState) (again : Bool) (its : TryAnswer) → IsOff k (attempted s again its)
unfolding sitting_ask
attempted_off k s again (tried.Done its) = either_off k (is_read s.op) _ _ tt tt
attempted_off k s again (tried.Found value) = tt
attempted_off k s again tried.Absent = tt
attempted_off k s again (tried.Wait why) = accepts_off k s why
attempted_off k s again (tried.AwaitsDisk sought) = accepts_off k s _
attempted_off k s again tried.Shift = shifts_off k s again
attempted_off k s again tried.IndexFull = tt
attempted_off k s again tried.LogFull = tt

pub at_call_off : (k : Seat) (s : SessionState) (again : Bool) → s.step ≡ Attempts again → IsOff k s
unfolding sitting_ask
at_call_off k s again e = rw e (passed_off _ _ (attempt_off_slots k.places k.number s.attempt s.attempt.step))

at_poll_off : (k : Seat) (s : SessionState) (index : ℕ) → s.step ≡ Polls index → IsOff k s
unfolding sitting_ask
at_poll_off k s index e = rw e (passed_off _ _ (attempt_off_slots k.places k.number s.attempt s.attempt.step))

pub call_off : (k : Seat) (s : SessionState) (again : Bool) (ask : Ask TryAnswer) → s.step ≡ Attempts again → IsOff k (attempt_ledto s again ask)
unfolding attempt_ledto
call_off k s again (Done its) e = attempted_off k (attempt_left s) again its
call_off k s again ask e = at_call_off k s again e

pub polls_off : (k : Seat) (s : SessionState) (index : ℕ) (found : Option PendingRequest) → IsOff k (polls_request k s index found)
polls_off k s index None = turn_off k s _
polls_off k s index (Some pending) = at_poll_off k _ index refl

stores_off : (k : Seat) (s : SessionState) (index : ℕ) → s.step ≡ StoresOwing index → IsOff k s
unfolding sitting_ask
stores_off k s index e = rw e tt

abbrev kept : SessionState → ℕ → TryAnswer → SessionState
kept s index its = record (poll_left s) { requests = slice_set s.requests index s.attempt.pending; wants_turn = s.wants_turn || lacks_room its }

pub poll_off : (k : Seat) (s : SessionState) (index : ℕ) (ask : Ask TryAnswer) → s.step ≡ Polls index → IsOff k (poll_ledto k s index ask)
unfolding poll_ledto finishes_request keeps_request polls_at
poll_off k s index (Done its) e = either_off k (is_finished its) _ _
    (either_off k (is_owed (poll_left s)) (request_finished (poll_left s) index its) _ (stores_off k (request_finished (poll_left s) index its) index refl) (polls_off k (request_finished (poll_left s) index its) index (slice_get (request_finished (poll_left s) index its).requests index)))
    (polls_off k (kept s index its) (index + 1) (slice_get (kept s index its).requests (index + 1)))
poll_off k s index ask e = at_poll_off k s index e

-- every other reply makes none
pub catch_keeps : (k : Seat) (s : SessionState) (cause : CatchCause) (ask : Ask (Unit {0})) → (catch_ledto k s cause ask).effect ≡ s.effect
unfolding catch_ledto attempts
catch_keeps k s Refreshes (Done its) = refl
catch_keeps k s Wakes (Done its) = refl
catch_keeps k s Shifts (Done its) = refl
catch_keeps k s cause ask = refl

pub turn_keeps : (s : SessionState) (its : Told) (ask : Ask (Unit {0})) → (turn_ledto s its ask).effect ≡ s.effect
unfolding turn_ledto
turn_keeps s its (Done through) = refl
turn_keeps s its ask = refl

pub leave_keeps : (s : SessionState) (ask : Ask (Unit {0})) → (leave_ledto s ask).effect ≡ s.effect
unfolding leave_ledto
leave_keeps s (Done through) = refl
leave_keeps s ask = refl

either_keeps : (b : Bool) (s other : SessionState) (its : Option HistoryEntry) → s.effect ≡ its → other.effect ≡ its → (if b then s else other).effect ≡ its
either_keeps true s other its one two = one
either_keeps false s other its one two = two

polls_keep : (k : Seat) (s : SessionState) (index : ℕ) (found : Option PendingRequest) → (polls_request k s index found).effect ≡ s.effect
polls_keep k s index None = either_keeps s.wants_turn _ _ s.effect refl refl
polls_keep k s index (Some pending) = refl

clear_keeps : (k : Seat) (s : SessionState) (ask : Ask MailAnswer) → (clear_ledto k s ask).effect ≡ s.effect
unfolding clear_ledto polls_at
clear_keeps k s (Done Cleared) = polls_keep k (record s { is_orphaned = false }) 0 (slice_get s.requests 0)
clear_keeps k s (Done its) = polls_keep k s 0 (slice_get s.requests 0)
clear_keeps k s ask = refl

none_there : {A : Type 0} (found : Option HistoryEntry) (its : HistoryEntry) → found ≡ None → found ≡ Some its → A
none_there found its none some = none_some its (sym none ∙ some)

next_off : (k : Seat) (s : SessionState) (step : Sitting) (reply : ℕ) (its : HistoryEntry) → s.step ≡ step → s.effect ≡ None → (sitting_next k s step reply).effect ≡ Some its → IsOff k (sitting_next k s step reply)
unfolding sitting_next polls_at
next_off k s (Idle told) reply its e none some = none_there _ its none some
next_off k s (Attempts again) reply its e none some = call_off k (attempt_moved k s reply) again _ e
next_off k s (CatchesUp cause) reply its e none some = none_there _ its (catch_keeps k (caught k s reply) cause _ ∙ none) some
next_off k s ClearsMail reply its e none some = none_there _ its (clear_keeps k _ _ ∙ none) some
next_off k s (Polls index) reply its e none some = poll_off k (attempt_moved k s reply) index _ e
next_off k s (StoresOwing index) reply its e none some = none_there _ its (polls_keep k s index (slice_get s.requests index) ∙ none) some
next_off k s (Turns told) reply its e none some = none_there _ its (turn_keeps (own_turn_moved k s reply) told _ ∙ none) some
next_off k s StoresCut reply its e none some = none_there _ its none some
next_off k s Leaves reply its e none some = none_there _ its (leave_keeps _ _ ∙ none) some
next_off k s LoadsDurable reply its e none some = none_there _ its none some

effect_off : (k : Seat) (s : SessionState) (reply : ℕ) (its : HistoryEntry) → (session_next k s reply).effect ≡ Some its → IsOff k (session_next k s reply)
effect_off k s reply its some = next_off k _ s.step reply its refl refl some

-- so nothing comes behind it in its step
settled_off : (k : Seat) (n : Near SessionState) (ask : Ask Told) → IsOffSlots ask → (session_settled k n ask).machine ≡ n.machine
unfolding session_settled
settled_off k n (Put slot action) off = absurd off
settled_off k n (Take slot) off = absurd off
settled_off k n ask off = refl

abbrev pub IsWordAsk : Ask Told → Type 0
IsWordAsk (Put slot action) = ⊥
IsWordAsk (Take slot) = ⊥
IsWordAsk (Done its) = ⊥
IsWordAsk ask = ⊤

pub effect_stays : (k : Seat) (n : Near SessionState) (ask : Ask Told) (its : HistoryEntry) → IsWordAsk ask → (session_next k n.machine (reply_to n.words ask)).effect ≡ Some its
    → (session_asks k n ask).machine ≡ session_next k n.machine (reply_to n.words ask)
unfolding session_asks
effect_stays k n (Put slot action) its word some = absurd word
effect_stays k n (Take slot) its word some = absurd word
effect_stays k n (Done told) its word some = absurd word
effect_stays k n ask its word some = settled_off k _ _ (effect_off k n.machine (reply_to n.words ask) its some)
