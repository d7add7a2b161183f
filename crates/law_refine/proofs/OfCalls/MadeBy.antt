-- An effect is made by a reply to an attempt alone: it has the name and the operation of the request that is attempted.
use Rattle.std.proofs.Common.{◌≡◌, ℕ, ◌+◌, ◌∙◌, refl, ap, sym, Bool, true, false}
use Rattle.std.specs.Prelude.{Option, Some, None, if◌then◌else◌, ◌||◌, slice_get, slice_set}
use Rattle.fkv_epoch.proofs.Shown.{none_some}
use Rattle.fkv_epoch.specs.Leaving.{leave_next}
use Rattle.fkv_map.specs.declared.history.HistoryEntry.{HistoryEntry}
use Rattle.fkv_map.specs.declared.operations.Reply.{Reply}
use Rattle.law_world.specs.Below.fkv_ops.Reason.{Reason}
use Rattle.law_world.specs.Below.fkv_ops.Reason.TheVariants as reason
use Rattle.law_world.specs.Below.fkv_ops.TryAnswer.{TryAnswer}
use Rattle.law_world.specs.Below.fkv_ops.TryAnswer.TheVariants as tried
use Rattle.law_world.specs.Below.fkv_ops.Requests.{is_read}
use Rattle.law_world.specs.Below.fkv_pending.MailAnswer.{MailAnswer}
use Rattle.law_world.specs.Below.fkv_pending.MailAnswer.TheVariants.{Cleared}
use Rattle.law_world.specs.Below.fkv_pending.PendingRequest.{PendingRequest}
use Rattle.law_world.specs.Below.fkv_pending.RequestName.{RequestName}
use Rattle.law_world.specs.Below.fkv_pending.RequestName.TheVariants.{Update, Read}
use Rattle.law_world.specs.Below.fkv_pending.Mailing.{mail_ask, mail_next}
use Rattle.law_world.specs.Below.fkv_pending.Attempting.{attempt_ask}
use Rattle.fkv_plane.specs.declared.asks.Ask.{Ask}
use Rattle.fkv_plane.specs.declared.asks.Ask.TheVariants.{Done}
use Rattle.law_world.specs.Below.fkv_session.Told.{Told}
use Rattle.law_world.specs.Below.fkv_session.CatchCause.{CatchCause}
use Rattle.law_world.specs.Below.fkv_session.CatchCause.TheVariants as cause
use Rattle.law_world.specs.Below.fkv_session.Sitting.{Sitting}
use Rattle.law_world.specs.Below.fkv_session.Sitting.TheVariants.{Idle, Attempts, CatchesUp, ClearsMail, Polls, StoresOwing, Turns, StoresCut, Leaves, LoadsDurable}
use Rattle.law_world.specs.Below.fkv_session.Sessions.{SessionState, Seat, bits_of, room_of, entry_of, answers_after_turn, attempts, polls_request, polls_at, is_no_room, with_request, serial_taken, accepts, shifts, attempted, attempt_left, poll_left, attempt_ledto, catch_ledto, clear_ledto, is_finished, is_owed, request_finished, finishes_request, lacks_room, keeps_request, poll_ledto, attempt_moved, caught, own_turn_moved, session_next, sitting_next}
use Rattle.law_world.proofs.Below.fkv_session.Shown.{attempt_keeps}
use Rattle.law_world.proofs.OfRuns.EffectStays.{turn_keeps as turned_keeps, leave_keeps}

either_keeps : (b : Bool) (s other : SessionState) (its : Option HistoryEntry) → s.effect ≡ its → other.effect ≡ its → (if b then s else other).effect ≡ its
either_keeps true s other its one two = one
either_keeps false s other its one two = two

turn_keeps : (s : SessionState) (its : Told) → (answers_after_turn s its).effect ≡ s.effect
turn_keeps s its = either_keeps s.wants_turn _ _ s.effect refl refl

accepts_keep : (s : SessionState) (why : Reason) → (accepts s why).effect ≡ s.effect
unfolding accepts
accepts_keep s why = either_keeps (is_read s.op) _ _ s.effect refl (turn_keeps (with_request (serial_taken (record s { wants_turn = is_no_room why }))) _)

shifts_keep : (s : SessionState) (again : Bool) → (shifts s again).effect ≡ s.effect
unfolding shifts
shifts_keep s false = refl
shifts_keep s true = accepts_keep s reason.Contended

attempted_keeps : (s : SessionState) (again : Bool) (its : TryAnswer) → (attempted s again its).effect ≡ s.effect
attempted_keeps s again (tried.Done its) = either_keeps (is_read s.op) _ _ s.effect refl refl
attempted_keeps s again (tried.Found value) = refl
attempted_keeps s again tried.Absent = refl
attempted_keeps s again (tried.Wait why) = accepts_keep s why
attempted_keeps s again (tried.AwaitsDisk sought) = accepts_keep s reason.Disk
attempted_keeps s again tried.Shift = shifts_keep s again
attempted_keeps s again tried.IndexFull = refl
attempted_keeps s again tried.LogFull = refl

pub call_keeps : (s : SessionState) (again : Bool) (ask : Ask TryAnswer) → (attempt_ledto s again ask).effect ≡ s.effect
unfolding attempt_ledto
call_keeps s again (Done its) = attempted_keeps (attempt_left s) again its
call_keeps s again ask = refl

request_keeps : (k : Seat) (s : SessionState) (index : ℕ) (found : Option PendingRequest) → (polls_request k s index found).effect ≡ s.effect
request_keeps k s index None = turn_keeps s _
request_keeps k s index (Some pending) = refl

polls_keep : (k : Seat) (s : SessionState) (index : ℕ) → (polls_at k s index).effect ≡ s.effect
unfolding polls_at
polls_keep k s index = request_keeps k s index (slice_get s.requests index)

poll_keeps : (k : Seat) (s : SessionState) (index : ℕ) (ask : Ask TryAnswer) → (poll_ledto k s index ask).effect ≡ s.effect
unfolding poll_ledto finishes_request keeps_request
poll_keeps k s index (Done its) = either_keeps (is_finished its) _ _ s.effect
    (either_keeps (is_owed (poll_left s)) (request_finished (poll_left s) index its) _ s.effect refl
    (polls_keep k (request_finished (poll_left s) index its) index))
    (polls_keep k (record (poll_left s) { requests = slice_set s.requests index s.attempt.pending; wants_turn = s.wants_turn || lacks_room its }) (index + 1))
poll_keeps k s index ask = refl

catch_keeps : (k : Seat) (s : SessionState) (its : CatchCause) (ask : Ask (Unit {0})) → (catch_ledto k s its ask).effect ≡ s.effect
unfolding catch_ledto attempts
catch_keeps k s cause.Refreshes (Done through) = refl
catch_keeps k s cause.Wakes (Done through) = refl
catch_keeps k s cause.Shifts (Done through) = refl
catch_keeps k s its ask = refl

clear_keeps : (k : Seat) (s : SessionState) (ask : Ask MailAnswer) → (clear_ledto k s ask).effect ≡ s.effect
unfolding clear_ledto
clear_keeps k s (Done Cleared) = polls_keep k (record s { is_orphaned = false }) 0
clear_keeps k s (Done its) = polls_keep k s 0
clear_keeps k s ask = refl

-- it is of this session and this request
pub record IsMadeBy (number : ℕ) (pending : PendingRequest) (its : HistoryEntry) : Type 0 where
  pub session : its.session ≡ number
  pub name : pending.name ≡ Update its.serial
  pub op : its.op ≡ pending.request.op

abbrev pub IsMadeAt : ℕ → PendingRequest → HistoryEntry → Sitting → Type 0
IsMadeAt number pending its (Attempts has_shifted) = IsMadeBy number pending its
IsMadeAt number pending its (Polls index) = IsMadeBy number pending its
IsMadeAt number pending its step = ⊥

entry_made : (number : ℕ) (pending : PendingRequest) (name : RequestName) (reply : Option Reply) (its : HistoryEntry) → pending.name ≡ name → entry_of number pending name reply ≡ Some its → IsMadeBy number pending its
entry_made number pending name None its named e = cc
entry_made number pending (Update serial) (Some reply) its named e =
    let same : record { session = number; serial = serial; op = pending.request.op; reply = reply } ≡ its = cc in
    record { session = sym (ap (λ (x : HistoryEntry). x.session) same); name = named ∙ ap (λ (x : HistoryEntry). Update x.serial) same; op = sym (ap (λ (x : HistoryEntry). x.op) same) }
entry_made number pending (Read ticket) (Some reply) its named e = cc

moved_made : (k : Seat) (s : SessionState) (reply : ℕ) (its : HistoryEntry) → (attempt_moved k s reply).effect ≡ Some its → IsMadeBy k.number s.attempt.pending its
moved_made k s reply its e =
    let after : PendingRequest = (attempt_moved k s reply).attempt.pending in
    let keeps = attempt_keeps k.places (bits_of k) (room_of k) k.number s.attempt reply in
    let made = entry_made k.number after after.name (attempt_moved k s reply).attempt.effect its refl e in
    record { session = made.session; name = sym keeps.name ∙ made.name; op = made.op ∙ keeps.op }

none_there : {A : Type 0} (found : Option HistoryEntry) (its : HistoryEntry) → found ≡ None → found ≡ Some its → A
none_there found its none some = none_some its (sym none ∙ some)

sitting_made : (k : Seat) (s : SessionState) (step : Sitting) (reply : ℕ) (its : HistoryEntry) → s.effect ≡ None → (sitting_next k s step reply).effect ≡ Some its → IsMadeAt k.number s.attempt.pending its step
unfolding sitting_next
sitting_made k s (Idle told) reply its none some = none_there _ its none some
sitting_made k s (Attempts again) reply its none some =
    moved_made k s reply its (sym (call_keeps (attempt_moved k s reply) again (attempt_ask k.places k.number (attempt_moved k s reply).attempt)) ∙ some)
sitting_made k s (CatchesUp why) reply its none some = none_there _ its (catch_keeps k (caught k s reply) why _ ∙ none) some
sitting_made k s ClearsMail reply its none some = none_there _ its (clear_keeps k (record s { mailing = mail_next s.mailing reply }) (mail_ask k.number (mail_next s.mailing reply)) ∙ none) some
sitting_made k s (Polls index) reply its none some =
    moved_made k s reply its (sym (poll_keeps k (attempt_moved k s reply) index (attempt_ask k.places k.number (attempt_moved k s reply).attempt)) ∙ some)
sitting_made k s (StoresOwing index) reply its none some = none_there _ its (polls_keep k s index ∙ none) some
sitting_made k s (Turns told) reply its none some = none_there _ its (turned_keeps (own_turn_moved k s reply) told _ ∙ none) some
sitting_made k s StoresCut reply its none some = none_there _ its none some
sitting_made k s Leaves reply its none some = none_there _ its (leave_keeps (record s { leaving = leave_next s.leaving }) _ ∙ none) some
sitting_made k s LoadsDurable reply its none some = none_there _ its none some

pub made_at : (k : Seat) (s : SessionState) (reply : ℕ) (its : HistoryEntry) → (session_next k s reply).effect ≡ Some its → IsMadeAt k.number s.attempt.pending its s.step
made_at k s reply its some = sitting_made k _ s.step reply its refl some
