-- The effect of a reply to a session is what takes effect by the log's events of the step.
use Rattle.std.proofs.Common.{◌≡◌, ℕ, ◌+◌, ◌∙◌, refl, sym, ap, subst, Bool, true, false, List, []}
use Rattle.std.specs.Prelude.{◌||◌, if◌then◌else◌, Option, Some, None, slice_get, slice_set}
use Rattle.fkv_plane.specs.declared.asks.Ask.{Ask}
use Rattle.fkv_plane.specs.declared.asks.Ask.TheVariants.{Done}
use Rattle.fkv_plane.specs.Passing.{passed}
use Rattle.fkv_epoch.specs.Leaving.{leave_ask, leave_next}
use Rattle.law_world.specs.Below.fkv_ops.Reason.{Reason}
use Rattle.law_world.specs.Below.fkv_ops.Reason.TheVariants as reason
use Rattle.law_world.specs.Below.fkv_ops.TryAnswer.{TryAnswer}
use Rattle.law_world.specs.Below.fkv_ops.TryAnswer.TheVariants as tried
use Rattle.law_world.specs.Below.fkv_ops.Requests.{is_read}
use Rattle.law_world.specs.Below.fkv_pending.MailAnswer.{MailAnswer}
use Rattle.law_world.specs.Below.fkv_pending.MailAnswer.TheVariants.{Cleared}
use Rattle.law_world.specs.Below.fkv_pending.PendingRequest.{PendingRequest}
use Rattle.law_world.specs.Below.fkv_pending.Mailing.{mail_ask, mail_next}
use Rattle.law_world.specs.Below.fkv_pending.Attempting.{AttemptState, attempt_ask, attempt_next}
use Rattle.law_world.proofs.Below.fkv_pending.Shown.{AttemptRestsOrAsks}
use Rattle.law_world.specs.Below.fkv_session.Told.{Told}
use Rattle.law_world.specs.Below.fkv_session.Told.TheVariants as told
use Rattle.law_world.specs.Below.fkv_session.CatchCause.{CatchCause}
use Rattle.law_world.specs.Below.fkv_session.CatchCause.TheVariants as cause
use Rattle.law_world.specs.Below.fkv_session.Sitting.{Sitting}
use Rattle.law_world.specs.Below.fkv_session.Sitting.TheVariants.{Idle, Attempts, CatchesUp, ClearsMail, Polls, StoresOwing, Turns, StoresCut, Leaves, LoadsDurable}
use Rattle.law_world.specs.Below.fkv_session.CatchingUp.{catch_ask}
use Rattle.law_world.specs.Below.fkv_session.OwnTurns.{own_turn_ask, own_turn_begun}
use Rattle.law_world.specs.Below.fkv_session.Sessions.{SessionState, Seat, bits_of, room_of, sitting_ask, session_ask, answers, answers_after_turn, attempts, polls_request, polls_at, update_done, is_no_room, with_request, serial_taken, ticket_after, accepts, shifts, attempted, attempt_left, poll_left, attempt_ledto, caught_up, catch_ledto, clear_ledto, is_finished, is_owed, request_finished, finishes_request, lacks_room, keeps_request, poll_ledto, attempt_moved, caught, own_turn_moved, sitting_next, is_word_ask, asks_after, entry_of}
use Rattle.law_world.specs.Below.fkv_world.Past.{Traced}
use Rattle.law_world.specs.Below.fkv_world.Runs.{World, run}
use Rattle.law_world.specs.Below.fkv_world.World.{Event, seat_at}
use Rattle.law_world.specs.GuardSessions.Rows.{SittingKnows}
use Rattle.law_world.specs.Guarded.Shows.{IsOpened}
use Rattle.law_world.proofs.OfGuarded.Worlds.{life_shows}
use Rattle.law_refine.specs.Events.Lines.{read_in_hand, read_waiting}
use Rattle.fkv_base.specs.declared.numbers.Serial.{Serial}
use Rattle.fkv_map.specs.declared.history.HistoryEntry.{HistoryEntry}
use Rattle.fkv_map.specs.declared.operations.Op.{Op}
use Rattle.fkv_map.specs.declared.operations.Reply.{Reply}
use Rattle.law_world.specs.Below.fkv_pending.RequestName.{RequestName}
use Rattle.law_world.specs.Below.fkv_pending.RequestName.TheVariants.{Update, Read}
use Rattle.law_world.specs.Below.fkv_pending.Ticket.{Ticket}
use Rattle.law_world.proofs.Below.fkv_session.Shown.{IsSameRequest, attempt_keeps}
use Rattle.law_world.proofs.OfRuns.EffectStays.{turn_keeps, leave_keeps}
use Rattle.law_refine.specs.Events.Appends.{serial_of}
use Rattle.law_refine.specs.Events.Effects.{AreQuiet, Stepped, stepped, TakesEffect, Quietly, TakesItsEffect, AttemptsRead, TakesNoEffect}
use Rattle.law_refine.specs.Events.Names.{is_read_name}
use Rattle.law_refine.specs.Events.Reservations.{attempt_reserves}
use Rattle.law_refine.specs.Events.Reserved.{sitting_reserves}
use Rattle.law_refine.specs.Events.Sessions.{attempt_ghosts, ticket_of, sitting_ghosts}
use Rattle.law_refine.proofs.OfEvents.AttemptEffects.{attempt_quiet, attempt_takes}
use Rattle.law_refine.proofs.OfEvents.RequestNames.{IsAttemptSo, StepIsSo, life_so}
use Rattle.law_refine.proofs.OfEvents.TryEffects.{made_entry, passes_on}

-- ---- where a session goes on, or its call is answered, what it has told as its effect stays
either_keeps : (c : Bool) (a b : SessionState) (made : Option HistoryEntry) → a.effect ≡ made → b.effect ≡ made → (if c then a else b).effect ≡ made
either_keeps true a b made one other = one
either_keeps false a b made one other = other

attempts_keeps : (k : Seat) (s : SessionState) (has_shifted : Bool) → (attempts k s has_shifted).effect ≡ s.effect
unfolding attempts
attempts_keeps k s has_shifted = refl

after_turn_keeps : (s : SessionState) (its : Told) → (answers_after_turn s its).effect ≡ s.effect
after_turn_keeps s its = either_keeps s.wants_turn (record s { own_turn = own_turn_begun s.own_turn; step = Turns its }) (answers s its) s.effect refl refl

request_keeps : (k : Seat) (s : SessionState) (index : ℕ) (found : Option PendingRequest) → (polls_request k s index found).effect ≡ s.effect
request_keeps k s index None = after_turn_keeps s _
request_keeps k s index (Some pending) = refl

pub polls_keeps : (k : Seat) (s : SessionState) (index : ℕ) → (polls_at k s index).effect ≡ s.effect
unfolding polls_at
polls_keeps k s index = request_keeps k s index (slice_get s.requests index)

accepts_keeps : (s : SessionState) (why : Reason) → (accepts s why).effect ≡ s.effect
unfolding accepts
accepts_keeps s why =
    either_keeps (is_read s.op) (answers (with_request (record s { ticket = ticket_after s.ticket })) (told.PendingRead (record { 0 = ticket_after s.ticket })))
    (answers_after_turn (with_request (serial_taken (record s { wants_turn = is_no_room why }))) (told.Pending (record { 0 = s.serial + 1 }) why)) s.effect refl
    (after_turn_keeps (with_request (serial_taken (record s { wants_turn = is_no_room why }))) (told.Pending (record { 0 = s.serial + 1 }) why))

shifts_keeps : (s : SessionState) (has_shifted : Bool) → (shifts s has_shifted).effect ≡ s.effect
unfolding shifts
shifts_keeps s false = refl
shifts_keeps s true = accepts_keeps s reason.Contended

attempted_keeps : (s : SessionState) (has_shifted : Bool) (its : TryAnswer) → (attempted s has_shifted its).effect ≡ s.effect
attempted_keeps s has_shifted (tried.Done its) = either_keeps (is_read s.op) (answers s told.Absent) (update_done s its) s.effect refl refl
attempted_keeps s has_shifted (tried.Found value) = refl
attempted_keeps s has_shifted tried.Absent = refl
attempted_keeps s has_shifted (tried.Wait why) = accepts_keeps s why
attempted_keeps s has_shifted (tried.AwaitsDisk sought) = accepts_keeps s reason.Disk
attempted_keeps s has_shifted tried.Shift = shifts_keeps s has_shifted
attempted_keeps s has_shifted tried.IndexFull = refl
attempted_keeps s has_shifted tried.LogFull = refl

pub called_keeps : (s : SessionState) (has_shifted : Bool) (ask : Ask TryAnswer) → (attempt_ledto s has_shifted ask).effect ≡ s.effect
unfolding attempt_ledto
called_keeps s has_shifted (Done its) = attempted_keeps (attempt_left s) has_shifted its
called_keeps s has_shifted ask = refl

finishes_keeps : (k : Seat) (s : SessionState) (index : ℕ) (its : TryAnswer) → (finishes_request k s index its).effect ≡ s.effect
unfolding finishes_request
finishes_keeps k s index its = either_keeps (is_owed s) (request_finished s index its) (polls_at k (request_finished s index its) index) s.effect refl (polls_keeps k (request_finished s index its) index)

keeps_keeps : (k : Seat) (s : SessionState) (index : ℕ) (its : TryAnswer) → (keeps_request k s index its).effect ≡ s.effect
unfolding keeps_request
keeps_keeps k s index its = polls_keeps k (record s { requests = slice_set s.requests index s.attempt.pending; wants_turn = s.wants_turn || lacks_room its }) (index + 1)

pub polled_keeps : (k : Seat) (s : SessionState) (index : ℕ) (ask : Ask TryAnswer) → (poll_ledto k s index ask).effect ≡ s.effect
unfolding poll_ledto
polled_keeps k s index (Done its) =
    either_keeps (is_finished its) (finishes_request k (poll_left s) index its) (keeps_request k (poll_left s) index its) s.effect
    (finishes_keeps k (poll_left s) index its) (keeps_keeps k (poll_left s) index its)
polled_keeps k s index ask = refl

caught_keeps : (k : Seat) (s : SessionState) (its : CatchCause) → (caught_up k s its).effect ≡ s.effect
caught_keeps k s cause.Refreshes = refl
caught_keeps k s cause.Wakes = refl
caught_keeps k s cause.Shifts = attempts_keeps k s true

pub catch_keeps : (k : Seat) (s : SessionState) (its : CatchCause) (ask : Ask (Unit {0})) → (catch_ledto k s its ask).effect ≡ s.effect
unfolding catch_ledto
catch_keeps k s its (Done through) = caught_keeps k (record s { seen = s.catching.seen }) its
catch_keeps k s its ask = refl

pub clear_keeps : (k : Seat) (s : SessionState) (ask : Ask MailAnswer) → (clear_ledto k s ask).effect ≡ s.effect
unfolding clear_ledto
clear_keeps k s (Done Cleared) = polls_keeps k (record s { is_orphaned = false }) 0
clear_keeps k s (Done its) = polls_keeps k s 0
clear_keeps k s ask = refl

-- ---- an update's effect is the entry that it would make, and a read has none
abbrev entry_with : ℕ → Serial → Op → Reply → Option HistoryEntry
entry_with number serial op reply = Some (record { session = number; serial = serial; op = op; reply = reply })

update_entry : (number : ℕ) (p q : PendingRequest) (serial : Serial) (made : Option Reply) → q.name ≡ Update serial → p.request.op ≡ q.request.op → entry_of number p (Update serial) made ≡ made_entry number q made
update_entry number p q serial None e op = refl
update_entry number p q serial (Some its) e op =
    ap (λ (o : Op). entry_with number serial o its) op ∙ ap (λ (n : RequestName). entry_with number (serial_of n) q.request.op its) (sym e)

read_entry : (number : ℕ) (p : PendingRequest) (ticket : Ticket) (made : Option Reply) → entry_of number p (Read ticket) made ≡ None
read_entry number p ticket None = refl
read_entry number p ticket (Some its) = refl

-- ---- each reply to a session
rests_called : (s : SessionState) (has_shifted : Bool) → s.step ≡ Attempts has_shifted → SittingKnows s s.step → AttemptRestsOrAsks s.attempt
rests_called s has_shifted at knows = subst (SittingKnows s) at knows

rests_polled : (s : SessionState) (index : ℕ) → s.step ≡ Polls index → SittingKnows s s.step → AttemptRestsOrAsks s.attempt
rests_polled s index at knows = subst (SittingKnows s) at knows

attempt_makes : (k : Seat) (reader : ℕ) (s : SessionState) (reply : ℕ) (made : Option HistoryEntry) → AttemptRestsOrAsks s.attempt → IsAttemptSo s.attempt → made ≡ (attempt_moved k s reply).effect
    → TakesEffect (stepped k.places s.attempt.pending.request.version (attempt_reserves k.number s.attempt s.attempt.step) (passed (attempt_ask k.places k.number s.attempt) told.Slept) reply) (attempt_ghosts k reader s.attempt reply) made
attempt_makes k reader s reply made rests so e = by_name s.attempt.pending.name refl
  where
    after : AttemptState
    after = attempt_next k.places (bits_of k) (room_of k) k.number s.attempt reply

    same : IsSameRequest after.pending s.attempt.pending
    same = attempt_keeps k.places (bits_of k) (room_of k) k.number s.attempt reply

    named : (name : RequestName) → s.attempt.pending.name ≡ name → made ≡ entry_of k.number after.pending name after.effect
    named name at = e ∙ ap (λ (n : RequestName). entry_of k.number after.pending n after.effect) (same.name ∙ at)

    by_name : (name : RequestName) → s.attempt.pending.name ≡ name → TakesEffect (stepped k.places s.attempt.pending.request.version (attempt_reserves k.number s.attempt s.attempt.step) (passed (attempt_ask k.places k.number s.attempt) told.Slept) reply) (attempt_ghosts k reader s.attempt reply) made
    by_name (Update serial) at =
        subst (λ (x : Option HistoryEntry). TakesEffect (stepped k.places s.attempt.pending.request.version (attempt_reserves k.number s.attempt s.attempt.step) (passed (attempt_ask k.places k.number s.attempt) told.Slept) reply) (attempt_ghosts k reader s.attempt reply) x)
        (sym (named (Update serial) at ∙ update_entry k.number after.pending s.attempt.pending serial after.effect at same.op)) (passes_on k.places s.attempt.pending.request.version _ (attempt_ask k.places k.number s.attempt) told.Slept reply _ _ (attempt_takes k reader s.attempt reply rests so.tries_so))
    by_name (Read ticket) at =
        subst (λ (x : Option HistoryEntry). TakesEffect (stepped k.places s.attempt.pending.request.version (attempt_reserves k.number s.attempt s.attempt.step) (passed (attempt_ask k.places k.number s.attempt) told.Slept) reply) (attempt_ghosts k reader s.attempt reply) x) (sym (named (Read ticket) at ∙ read_entry k.number after.pending ticket after.effect))
        (Quietly (attempt_ghosts k reader s.attempt reply) (attempt_quiet k reader s.attempt reply (sym so.named ∙ ap is_read_name at) so.tries_so))

-- a read makes none
read_none : (k : Seat) (s : SessionState) (reply : ℕ) → is_read s.attempt.pending.request.op ≡ true → IsAttemptSo s.attempt → (attempt_moved k s reply).effect ≡ None
read_none k s reply reads so = by_name after.pending.name (ap is_read_name same.name ∙ (so.named ∙ reads))
  where
    after : AttemptState
    after = attempt_next k.places (bits_of k) (room_of k) k.number s.attempt reply

    same : IsSameRequest after.pending s.attempt.pending
    same = attempt_keeps k.places (bits_of k) (room_of k) k.number s.attempt reply

    by_name : (name : RequestName) → is_read_name name ≡ true → entry_of k.number after.pending name after.effect ≡ None
    by_name (Update serial) e = cc
    by_name (Read ticket) e = read_entry k.number after.pending ticket after.effect

nothing_made : (its_step : Stepped) (made : Option HistoryEntry) → made ≡ None → TakesEffect its_step [] made
nothing_made its_step made none = rw none (Quietly [] tt)

sitting_takes : (k : Seat) (trace : List Traced) (s : SessionState) (asks : ℕ) (step : Sitting) (reply : ℕ) → s.step ≡ step → SittingKnows s s.step → StepIsSo s.attempt step
    → TakesEffect (stepped k.places s.attempt.pending.request.version (sitting_reserves k.number s step) (sitting_ask k s step) reply) (sitting_ghosts k trace s step reply) (sitting_next k (record s { asks = asks; effect = None }) step reply).effect
unfolding sitting_next sitting_ask
sitting_takes k trace s asks (Idle its) reply at knows so = Quietly [] tt
sitting_takes k trace s asks (Attempts has_shifted) reply at knows so =
    let after : SessionState = attempt_moved k (record s { asks = asks; effect = None }) reply in
    attempt_makes k (read_in_hand k.number trace) s reply _ (rests_called s has_shifted at knows) so (called_keeps after has_shifted (attempt_ask k.places k.number after.attempt))
sitting_takes k trace s asks (Polls index) reply at knows so =
    let after : SessionState = attempt_moved k (record s { asks = asks; effect = None }) reply in
    attempt_makes k (read_waiting k.number (ticket_of s.attempt.pending.name) trace) s reply _ (rests_polled s index at knows) so (polled_keeps k after index (attempt_ask k.places k.number after.attempt))
sitting_takes k trace s asks (CatchesUp its) reply at knows so =
    let after : SessionState = caught k (record s { asks = asks; effect = None }) reply in
    nothing_made _ _ (catch_keeps k after its (catch_ask k.places k.number after.catching after.requests))
sitting_takes k trace s asks ClearsMail reply at knows so =
    nothing_made _ _ (clear_keeps k (record s { asks = asks; effect = None; mailing = mail_next s.mailing reply }) (mail_ask k.number (mail_next s.mailing reply)))
sitting_takes k trace s asks (StoresOwing index) reply at knows so = nothing_made _ _ (polls_keeps k (record s { asks = asks; effect = None }) index)
sitting_takes k trace s asks (Turns its) reply at knows so =
    let after : SessionState = own_turn_moved k (record s { asks = asks; effect = None }) reply in
    nothing_made _ _ (turn_keeps after its (own_turn_ask k.shape after.own_turn))
sitting_takes k trace s asks StoresCut reply at knows so = Quietly [] tt
sitting_takes k trace s asks Leaves reply at knows so =
    nothing_made _ _ (leave_keeps (record s { asks = asks; effect = None; leaving = leave_next s.leaving }) (leave_ask k.number (leave_next s.leaving)))
sitting_takes k trace s asks LoadsDurable reply at knows so = Quietly [] tt

-- at every moment of a life
pub life_takes : (opening : World) (start : ℕ) (events : List Event) (number : ℕ) (s : SessionState) (reply : ℕ) → IsOpened opening.now start → slice_get (run opening events).now.sessions number ≡ Some s
    → TakesItsEffect (seat_at (run opening events).now number) (run opening events).past.trace s reply
life_takes opening start events number s reply opened found =
    let k : Seat = seat_at (run opening events).now number in
    sitting_takes k (run opening events).past.trace s (asks_after s.asks (is_word_ask (session_ask k s))) s.step reply refl ((life_shows opening start events opened).sessions number s found).sits.knows (life_so opening start events number s opened found).sits

-- a read's attempt makes none, and no update takes effect by its events
read_takes : (k : Seat) (trace : List Traced) (s : SessionState) (asks : ℕ) (step : Sitting) (reply : ℕ) → AttemptsRead s step → StepIsSo s.attempt step
    → AreQuiet (sitting_ghosts k trace s step reply) × ((sitting_next k (record s { asks = asks; effect = None }) step reply).effect ≡ None)
unfolding sitting_next
read_takes k trace s asks (Attempts has_shifted) reply reads so =
    let after : SessionState = attempt_moved k (record s { asks = asks; effect = None }) reply in
    (attempt_quiet k (read_in_hand k.number trace) s.attempt reply reads so.tries_so, called_keeps after has_shifted (attempt_ask k.places k.number after.attempt) ∙ read_none k s reply reads so)
read_takes k trace s asks (Polls index) reply reads so =
    let after : SessionState = attempt_moved k (record s { asks = asks; effect = None }) reply in
    (attempt_quiet k (read_waiting k.number (ticket_of s.attempt.pending.name) trace) s.attempt reply reads so.tries_so, polled_keeps k after index (attempt_ask k.places k.number after.attempt) ∙ read_none k s reply reads so)
read_takes k trace s asks step reply reads so = absurd reads

pub life_reads : (opening : World) (start : ℕ) (events : List Event) (number : ℕ) (s : SessionState) (reply : ℕ) → IsOpened opening.now start → slice_get (run opening events).now.sessions number ≡ Some s → AttemptsRead s s.step
    → TakesNoEffect (seat_at (run opening events).now number) (run opening events).past.trace s reply
life_reads opening start events number s reply opened found reads =
    let k : Seat = seat_at (run opening events).now number in
    let its = read_takes k (run opening events).past.trace s (asks_after s.asks (is_word_ask (session_ask k s))) s.step reply reads (life_so opening start events number s opened found).sits in
    record { quiet = its.0; none = its.1 }
