-- At every moment of a run each update that waits is as its serial was taken, and the attempt in hand is of the request that it should be.
use Rattle.std.proofs.Common.{◌≡◌, ℕ, ◌+◌, ◌∙◌, zero, suc, List, [], ◌∷◌, ◌++◌, length, refl, arith, ap, sym, subst, inl, inr, Bool, true, false}
use Rattle.std.specs.Prelude.{slice_get, slice_set, Option, Some, None, if◌then◌else◌, not, ◌==◌}
use Rattle.std.specs.List.{remove}
use Rattle.std.proofs.lemmas.Bool.Decides.{nat_tests}
use Rattle.fkv_base.specs.declared.faults.Fault.{Fault}
use Rattle.fkv_base.specs.declared.numbers.Version.{Version}
use Rattle.fkv_map.specs.declared.operations.Call.{Call}
use Rattle.fkv_map.specs.declared.operations.Call.TheVariants as call
use Rattle.fkv_map.specs.declared.operations.Op.{Op}
use Rattle.fkv_map.specs.declared.operations.Reply.{Reply}
use Rattle.fkv_plane.specs.declared.actions.Action.{Action}
use Rattle.fkv_plane.specs.declared.asks.Ask.{Ask}
use Rattle.fkv_plane.specs.declared.asks.Ask.TheVariants.{Done}
use Rattle.fkv_epoch.specs.Leaving.{leave_next}
use Rattle.fkv_latch.specs.declared.latching.LatchAnswer.{LatchAnswer}
use Rattle.fkv_latch.specs.declared.latching.LatchAnswer.TheVariants.{Taken as LatchTaken}
use Rattle.fkv_latch.specs.Latching.{latch_next_ask}
use Rattle.fkv_ops.specs.Bounds.{bounds_of}
use Rattle.fkv_ops.specs.declared.answers.Reason.{Reason}
use Rattle.fkv_ops.specs.declared.answers.Reason.TheVariants as reason
use Rattle.fkv_ops.specs.declared.answers.TryAnswer.{TryAnswer}
use Rattle.fkv_ops.specs.declared.answers.TryAnswer.TheVariants as tried
use Rattle.fkv_ops.specs.declared.requests.Occasion.TheVariants.{Call as AtCall, Poll as AtPoll}
use Rattle.fkv_ops.specs.Requests.{is_read}
use Rattle.fkv_pending.specs.declared.mailing.MailAnswer.{MailAnswer}
use Rattle.fkv_pending.specs.declared.mailing.MailAnswer.TheVariants.{Cleared}
use Rattle.fkv_pending.specs.declared.pending_requests.PendingRequest.{PendingRequest}
use Rattle.fkv_pending.specs.declared.pending_requests.RequestName.{RequestName}
use Rattle.fkv_pending.specs.declared.pending_requests.RequestName.TheVariants.{Update, Read}
use Rattle.fkv_pending.specs.Pending.{with_latch}
use Rattle.fkv_pending.specs.Mailing.{mail_next}
use Rattle.fkv_session.specs.declared.answers.Told.{Told}
use Rattle.fkv_session.specs.declared.answers.Told.TheVariants as told
use Rattle.fkv_session.specs.declared.catching_up.Catching.{Catching}
use Rattle.fkv_session.specs.declared.catching_up.Catching.TheVariants.{Latches}
use Rattle.fkv_session.specs.declared.sessions.CatchCause.{CatchCause}
use Rattle.fkv_session.specs.declared.sessions.CatchCause.TheVariants.{Refreshes, Wakes, Shifts}
use Rattle.fkv_session.specs.declared.sessions.Sitting.{Sitting}
use Rattle.fkv_session.specs.declared.sessions.Sitting.TheVariants.{Idle, Attempts, CatchesUp, ClearsMail, Polls, StoresOwing, Turns, StoresCut, Leaves, LoadsDurable}
use Rattle.fkv_session.specs.CatchingUp.{CatchState, latched, latch_marked, catching_requests}
use Rattle.fkv_session.specs.OwnTurns.{own_turn_given}
use Rattle.fkv_session.specs.Sessions.{SessionState, Seat, bits_of, room_of, is_busy, answers, answers_after_turn, version_within, ticket_after, name_of, request_in_hand, attempts, polls_request, polls_at, refusal_of, op_begun, refresh_call, poll_begun, poll_call, sleep_call, wake_call, call_begun, attempt_left, poll_left, serial_taken, update_done, is_no_room, with_request, accepts, shifts, attempted, attempt_ledto, caught_up, catch_ledto, clear_ledto, is_finished, is_owed, request_finished, finishes_request, keeps_request, poll_ledto, turn_ledto, leave_ledto, attempt_moved, caught, own_turn_moved, sitting_next, sitting_given, asks_after, is_word_ask, session_ask, IsOpened}
use Rattle.fkv_session.specs.SessionRun.{SessionEvent, Begins, Replies, Gets, begins, session_happens, session_run}
use Rattle.fkv_session.specs.Replies as law
use Rattle.fkv_session.specs.Replies.{op_after, op_called}
use Rattle.fkv_session.specs.Versions.{TakenAt, taken_at_after, taken_by, versions_taken, IsVersionOf, IsAsTaken, AreAsTaken, IsAttemptOfCall, IsAttemptOfRequest}
use Rattle.fkv_session.proofs.AttemptKeeps.{attempt_keeps, begun_same}

pub record IsCallInHand (called : Option Op) (s : SessionState) : Type 0 where
  pub called_so : called ≡ Some s.op
  pub name : s.attempt.pending.name ≡ name_of s
  pub op : s.attempt.pending.request.op ≡ s.op
  pub version : IsVersionOf s.seen.version.0 s.attempt.pending.request.version.0

-- what is attempted, by how far the call has come
abbrev pub KnowsRequest : Option Op → SessionState → Sitting → Type 0
KnowsRequest called s (Attempts has_shifted) = IsCallInHand called s
KnowsRequest called s (CatchesUp Shifts) = called ≡ Some s.op
KnowsRequest called s (Polls i) = IsAttemptOfRequest s.requests i s.attempt.pending
KnowsRequest called s step = Unit {0}

pub record IsKept (taken : List TakenAt) (called : Option Op) (s : SessionState) (step : Sitting) : Type 0 where
  pub waiting : AreAsTaken taken s.requests
  pub knows : KnowsRequest called s step

-- behind an event, before which the session's serial was this
abbrev IsKeptAfter : List TakenAt → Option Op → ℕ → SessionState → Type 0
IsKeptAfter taken called n s = IsKept (taken_by n s called taken) called s s.step

same_taken : (s : SessionState) (called : Option Op) (taken : List TakenAt) → taken_by s.serial s called taken ≡ taken
same_taken s called taken = let same : (s.serial == s.serial) ≡ true = grind (arith, nat_tests) in rw same refl

either_kept : (c : Bool) (taken : List TakenAt) (called : Option Op) (n : ℕ) (a b : SessionState) → IsKeptAfter taken called n a → IsKeptAfter taken called n b → IsKeptAfter taken called n (if c then a else b)
either_kept true taken called n a b one other = one
either_kept false taken called n a b one other = other

-- a state that takes no serial
calm : (taken : List TakenAt) (called : Option Op) (s : SessionState) (step : Sitting) → s.step ≡ step → AreAsTaken taken s.requests → KnowsRequest called s step → IsKeptAfter taken called s.serial s
calm taken called s step e waiting knows =
    rw (same_taken s called taken) (record { waiting = waiting; knows = subst (λ (x : Sitting). KnowsRequest called s x) (sym e) knows })

-- lists of requests
more_taken : (taken : List TakenAt) (it : TakenAt) (requests : List PendingRequest) → AreAsTaken taken requests → AreAsTaken (it ∷ taken) requests
more_taken taken it [] waiting = tt
more_taken taken it (p ∷ rest) waiting = (one p.name p.request.op p.request.version.0 waiting.0, more_taken taken it rest waiting.1)
  where
    one : (name : RequestName) (op : Op) (version : ℕ) → IsAsTaken taken name op version → IsAsTaken (it ∷ taken) name op version
    one (Update serial) op version its = inr its
    one (Read ticket) op version its = tt

abbrev IsSoTaken : List TakenAt → PendingRequest → Type 0
IsSoTaken taken p = IsAsTaken taken p.name p.request.op p.request.version.0

taken_append : (taken : List TakenAt) (requests : List PendingRequest) (p : PendingRequest) → AreAsTaken taken requests → IsSoTaken taken p → AreAsTaken taken (requests ++ p ∷ [])
taken_append taken [] p waiting its = (its, tt)
taken_append taken (o ∷ rest) p waiting its = (waiting.0, taken_append taken rest p waiting.1 its)

taken_removed : (taken : List TakenAt) (requests : List PendingRequest) (i : ℕ) → AreAsTaken taken requests → AreAsTaken taken (remove requests i)
taken_removed taken [] zero waiting = waiting
taken_removed taken [] (suc i) waiting = waiting
taken_removed taken (o ∷ rest) zero waiting = waiting.1
taken_removed taken (o ∷ rest) (suc i) waiting = (waiting.0, taken_removed taken rest i waiting.1)

taken_set : (taken : List TakenAt) (requests : List PendingRequest) (i : ℕ) (p : PendingRequest) → AreAsTaken taken requests → IsSoTaken taken p → AreAsTaken taken (slice_set requests i p)
taken_set taken [] i p waiting its = waiting
taken_set taken (o ∷ rest) zero p waiting its = (its, waiting.1)
taken_set taken (o ∷ rest) (suc i) p waiting its = (waiting.0, taken_set taken rest i p waiting.1 its)

taken_got : (taken : List TakenAt) (requests : List PendingRequest) (i : ℕ) (p : PendingRequest) → slice_get requests i ≡ Some p → AreAsTaken taken requests → IsSoTaken taken p
taken_got taken [] i p got waiting = cc
taken_got taken (o ∷ rest) zero p got waiting = let same : o ≡ p = cc in subst (λ (x : PendingRequest). IsSoTaken taken x) same waiting.0
taken_got taken (o ∷ rest) (suc i) p got waiting = taken_got taken rest i p got waiting.1

latched_taken : (taken : List TakenAt) (requests : List PendingRequest) (i : ℕ) (found : Option PendingRequest) → slice_get requests i ≡ found → AreAsTaken taken requests → AreAsTaken taken (latched requests i found)
unfolding with_latch
latched_taken taken requests i None got waiting = waiting
latched_taken taken requests i (Some p) got waiting = taken_set taken requests i (with_latch p true) waiting (taken_got taken requests i p got waiting)

marked_taken : (taken : List TakenAt) (requests : List PendingRequest) (i : ℕ) (ask : Ask LatchAnswer) → AreAsTaken taken requests → AreAsTaken taken (latch_marked requests i ask)
unfolding latch_marked
marked_taken taken requests i (Done LatchTaken) waiting = latched_taken taken requests i (slice_get requests i) refl waiting
marked_taken taken requests i ask waiting = waiting

caught_taken : (taken : List TakenAt) (c : CatchState) (requests : List PendingRequest) (step : Catching) (reply : ℕ) → AreAsTaken taken requests → AreAsTaken taken (catching_requests c requests step reply)
unfolding catching_requests
caught_taken taken c requests (Latches i) reply waiting = marked_taken taken requests i (latch_next_ask c.latching reply) waiting
caught_taken taken c requests step reply waiting = waiting

-- of the request at the index, as it was taken
attempt_taken : (taken : List TakenAt) (requests : List PendingRequest) (i : ℕ) (p : PendingRequest) → AreAsTaken taken requests → IsAttemptOfRequest requests i p → IsSoTaken taken p
attempt_taken taken requests i p waiting its = rw its.name (rw its.op (rw its.version (taken_got taken requests i its.request its.waits waiting)))

-- the version of a request that is accepted
within : (version : ℕ) → IsVersionOf version (version_within version)
within version = λ fits. let some = fits.0 in let few = fits.1 in omega (arith, some, few)

-- answers
plain_kept : (taken : List TakenAt) (called : Option Op) (s : SessionState) (its : Told) → AreAsTaken taken s.requests → IsKeptAfter taken called s.serial (answers s its)
plain_kept taken called s its waiting = calm taken called (answers s its) (Idle its) refl waiting tt

turn_kept : (taken : List TakenAt) (called : Option Op) (s : SessionState) (its : Told) (n : ℕ) → AreAsTaken (taken_by n s called taken) s.requests → IsKeptAfter taken called n (answers_after_turn s its)
turn_kept taken called s its n waiting = either_kept s.wants_turn taken called n _ (answers s its) (record { waiting = waiting; knows = tt }) (record { waiting = waiting; knows = tt })

attempts_kept : (taken : List TakenAt) (called : Option Op) (k : Seat) (s : SessionState) (has_shifted : Bool) → called ≡ Some s.op → AreAsTaken taken s.requests → IsKeptAfter taken called s.serial (attempts k s has_shifted)
unfolding attempts
attempts_kept taken called k s has_shifted op waiting =
    let same = begun_same k.places (bits_of k) (request_in_hand s) s.seen (AtCall (bounds_of k.shape)) s.spare s.is_orphaned in
    calm taken called _ (Attempts has_shifted) refl waiting
    (record { called_so = op; name = same.name; op = same.op; version = subst (λ (its : Version). IsVersionOf s.seen.version.0 its.0) (sym same.version) (within s.seen.version.0) })

polls_found : (taken : List TakenAt) (called : Option Op) (k : Seat) (s : SessionState) (i : ℕ) (found : Option PendingRequest) → slice_get s.requests i ≡ found → AreAsTaken taken s.requests → IsKeptAfter taken called s.serial (polls_request k s i found)
polls_found taken called k s i None got waiting = turn_kept taken called s (told.Polled (length s.requests)) s.serial (rw (same_taken s called taken) waiting)
polls_found taken called k s i (Some pending) got waiting =
    let same = begun_same k.places (bits_of k) pending s.seen AtPoll s.spare s.is_orphaned in
    calm taken called _ (Polls i) refl waiting (record { request = pending; waits = got; name = same.name; op = same.op; version = same.version })

polls_kept : (taken : List TakenAt) (called : Option Op) (k : Seat) (s : SessionState) (i : ℕ) → AreAsTaken taken s.requests → IsKeptAfter taken called s.serial (polls_at k s i)
unfolding polls_at
polls_kept taken called k s i waiting = polls_found taken called k s i (slice_get s.requests i) refl waiting

-- what an attempt at a call ends with
next_taken : (n version : ℕ) (op : Op) (called : Option Op) (taken : List TakenAt) → called ≡ Some op → taken_at_after (n + 1 == n) (n + 1) version called taken ≡ record { serial = n + 1; op = op; version = version } ∷ taken
next_taken n version op called taken its = let other : (n + 1 == n) ≡ false = grind (arith, nat_tests) in rw other (rw its refl)

accepts_either : (taken : List TakenAt) (called : Option Op) (s : SessionState) (why : Reason) (c : Bool) → IsCallInHand called s → s.attempt.pending.name ≡ (if c then Read (record { 0 = ticket_after s.ticket }) else Update (record { 0 = s.serial + 1 }))
    → AreAsTaken taken s.requests
    → IsKeptAfter taken called s.serial (if c then answers (with_request (record s { ticket = ticket_after s.ticket })) (told.PendingRead (record { 0 = ticket_after s.ticket }))
    else answers_after_turn (with_request (serial_taken (record s { wants_turn = is_no_room why }))) (told.Pending (record { 0 = s.serial + 1 }) why))
accepts_either taken called s why true its name waiting =
    let so : IsSoTaken taken s.attempt.pending = rw name tt in
    plain_kept taken called (with_request (record s { ticket = ticket_after s.ticket })) _ (taken_append taken s.requests s.attempt.pending waiting so)
accepts_either taken called s why false its name waiting =
    let it : TakenAt = record { serial = s.serial + 1; op = s.op; version = s.seen.version.0 } in
    let so : IsSoTaken (it ∷ taken) s.attempt.pending = rw name (inl (refl, (sym its.op, its.version))) in
    turn_kept taken called (with_request (serial_taken (record s { wants_turn = is_no_room why }))) _ s.serial
    (subst (λ (now : List TakenAt). AreAsTaken now (s.requests ++ s.attempt.pending ∷ [])) (sym (next_taken s.serial s.seen.version.0 s.op called taken its.called_so))
    (taken_append (it ∷ taken) s.requests s.attempt.pending (more_taken taken it s.requests waiting) so))

accepts_kept : (taken : List TakenAt) (called : Option Op) (s : SessionState) (why : Reason) → IsCallInHand called s → AreAsTaken taken s.requests → IsKeptAfter taken called s.serial (accepts s why)
unfolding accepts
accepts_kept taken called s why its waiting = accepts_either taken called s why (is_read s.op) its its.name waiting

shifts_kept : (taken : List TakenAt) (called : Option Op) (s : SessionState) (has_shifted : Bool) → IsCallInHand called s → AreAsTaken taken s.requests → IsKeptAfter taken called s.serial (shifts s has_shifted)
unfolding shifts
shifts_kept taken called s false its waiting = calm taken called _ (CatchesUp Shifts) refl waiting its.called_so
shifts_kept taken called s true its waiting = accepts_kept taken called s reason.Contended its waiting

done_kept : (taken : List TakenAt) (called : Option Op) (s : SessionState) (reply : Reply) → called ≡ Some s.op → AreAsTaken taken s.requests → IsKeptAfter taken called s.serial (update_done s reply)
done_kept taken called s reply op waiting = record {
  waiting = subst (λ (now : List TakenAt). AreAsTaken now s.requests) (sym (next_taken s.serial s.seen.version.0 s.op called taken op)) (more_taken taken _ s.requests waiting);
  knows = tt;
}

attempted_kept : (taken : List TakenAt) (called : Option Op) (s : SessionState) (has_shifted : Bool) (its : TryAnswer) → IsCallInHand called s → AreAsTaken taken s.requests → IsKeptAfter taken called s.serial (attempted s has_shifted its)
attempted_kept taken called s has_shifted (tried.Done reply) its waiting = either_kept (is_read s.op) taken called s.serial (answers s told.Absent) (update_done s reply) (plain_kept taken called s told.Absent waiting) (done_kept taken called s reply its.called_so waiting)
attempted_kept taken called s has_shifted (tried.Found value) its waiting = plain_kept taken called s (told.Found value) waiting
attempted_kept taken called s has_shifted tried.Absent its waiting = plain_kept taken called s told.Absent waiting
attempted_kept taken called s has_shifted (tried.Wait why) its waiting = accepts_kept taken called s why its waiting
attempted_kept taken called s has_shifted (tried.AwaitsDisk sought) its waiting = accepts_kept taken called s reason.Disk its waiting
attempted_kept taken called s has_shifted tried.Shift its waiting = shifts_kept taken called s has_shifted its waiting
attempted_kept taken called s has_shifted tried.IndexFull its waiting = plain_kept taken called s _ waiting
attempted_kept taken called s has_shifted tried.LogFull its waiting = plain_kept taken called s _ waiting

attempt_kept : (taken : List TakenAt) (called : Option Op) (s : SessionState) (has_shifted : Bool) (ask : Ask TryAnswer) → s.step ≡ Attempts has_shifted → IsCallInHand called s → AreAsTaken taken s.requests → IsKeptAfter taken called s.serial (attempt_ledto s has_shifted ask)
unfolding attempt_ledto
attempt_kept taken called s has_shifted (Done its) e in_call waiting =
    attempted_kept taken called (attempt_left s) has_shifted its (record { called_so = in_call.called_so; name = in_call.name; op = in_call.op; version = in_call.version }) waiting
attempt_kept taken called s has_shifted ask e in_call waiting = calm taken called s (Attempts has_shifted) e waiting in_call

seen_knows : (called : Option Op) (s t : SessionState) (cause : CatchCause) → s.op ≡ t.op → KnowsRequest called s (CatchesUp cause) → KnowsRequest called t (CatchesUp cause)
seen_knows called s t Refreshes same knows = tt
seen_knows called s t Wakes same knows = tt
seen_knows called s t Shifts same knows = knows ∙ ap Some same

caught_up_kept : (taken : List TakenAt) (called : Option Op) (k : Seat) (s : SessionState) (cause : CatchCause) → KnowsRequest called s (CatchesUp cause) → AreAsTaken taken s.requests → IsKeptAfter taken called s.serial (caught_up k s cause)
caught_up_kept taken called k s Refreshes knows waiting = plain_kept taken called s _ waiting
caught_up_kept taken called k s Wakes knows waiting = plain_kept taken called (record s { is_awake = true }) _ waiting
caught_up_kept taken called k s Shifts knows waiting = attempts_kept taken called k s true knows waiting

catch_kept : (taken : List TakenAt) (called : Option Op) (k : Seat) (s : SessionState) (cause : CatchCause) (ask : Ask (Unit {0})) → s.step ≡ CatchesUp cause → KnowsRequest called s (CatchesUp cause) → AreAsTaken taken s.requests
    → IsKeptAfter taken called s.serial (catch_ledto k s cause ask)
unfolding catch_ledto
catch_kept taken called k s cause (Done its) e knows waiting = caught_up_kept taken called k (record s { seen = s.catching.seen }) cause (seen_knows called s (record s { seen = s.catching.seen }) cause refl knows) waiting
catch_kept taken called k s cause ask e knows waiting = calm taken called s (CatchesUp cause) e waiting knows

clear_kept : (taken : List TakenAt) (called : Option Op) (k : Seat) (s : SessionState) (ask : Ask MailAnswer) → s.step ≡ ClearsMail → AreAsTaken taken s.requests → IsKeptAfter taken called s.serial (clear_ledto k s ask)
unfolding clear_ledto
clear_kept taken called k s (Done Cleared) e waiting = polls_kept taken called k (record s { is_orphaned = false }) 0 waiting
clear_kept taken called k s (Done its) e waiting = polls_kept taken called k s 0 waiting
clear_kept taken called k s ask e waiting = calm taken called s ClearsMail e waiting tt

finishes_kept : (taken : List TakenAt) (called : Option Op) (k : Seat) (s : SessionState) (i : ℕ) (its : TryAnswer) → AreAsTaken taken s.requests → IsKeptAfter taken called s.serial (finishes_request k s i its)
unfolding finishes_request
finishes_kept taken called k s i its waiting =
    let rest = taken_removed taken s.requests i waiting in
    either_kept (is_owed s) taken called s.serial (request_finished s i its) (polls_at k (request_finished s i its) i) (calm taken called (request_finished s i its) (StoresOwing i) refl rest tt) (polls_kept taken called k (request_finished s i its) i rest)

keeps_kept : (taken : List TakenAt) (called : Option Op) (k : Seat) (s : SessionState) (i : ℕ) (its : TryAnswer) → IsAttemptOfRequest s.requests i s.attempt.pending → AreAsTaken taken s.requests → IsKeptAfter taken called s.serial (keeps_request k s i its)
unfolding keeps_request
keeps_kept taken called k s i its same waiting = polls_kept taken called k _ (i + 1) (taken_set taken s.requests i s.attempt.pending waiting (attempt_taken taken s.requests i s.attempt.pending waiting same))

poll_kept : (taken : List TakenAt) (called : Option Op) (k : Seat) (s : SessionState) (i : ℕ) (ask : Ask TryAnswer) → s.step ≡ Polls i → IsAttemptOfRequest s.requests i s.attempt.pending → AreAsTaken taken s.requests → IsKeptAfter taken called s.serial (poll_ledto k s i ask)
unfolding poll_ledto
poll_kept taken called k s i (Done its) e same waiting =
    either_kept (is_finished its) taken called s.serial _ (keeps_request k (poll_left s) i its) (finishes_kept taken called k (poll_left s) i its waiting) (keeps_kept taken called k (poll_left s) i its same waiting)
poll_kept taken called k s i ask e same waiting = calm taken called s (Polls i) e waiting same

turned_kept : (taken : List TakenAt) (called : Option Op) (s : SessionState) (its : Told) (ask : Ask (Unit {0})) → s.step ≡ Turns its → AreAsTaken taken s.requests → IsKeptAfter taken called s.serial (turn_ledto s its ask)
unfolding turn_ledto
turned_kept taken called s its (Done through) e waiting = plain_kept taken called s its waiting
turned_kept taken called s its ask e waiting = calm taken called s (Turns its) e waiting tt

left_kept : (taken : List TakenAt) (called : Option Op) (s : SessionState) (ask : Ask (Unit {0})) → s.step ≡ Leaves → AreAsTaken taken s.requests → IsKeptAfter taken called s.serial (leave_ledto s ask)
unfolding leave_ledto
left_kept taken called s (Done its) e waiting = plain_kept taken called (record s { is_awake = false }) _ waiting
left_kept taken called s ask e waiting = calm taken called s Leaves e waiting tt

moved_call : (k : Seat) (called : Option Op) (s : SessionState) (reply : ℕ) → IsCallInHand called s → IsCallInHand called (attempt_moved k s reply)
moved_call k called s reply its =
    let same = attempt_keeps k.places (bits_of k) (room_of k) k.number s.attempt reply in
    record { called_so = its.called_so; name = same.name ∙ its.name; op = same.op ∙ its.op; version = subst (λ (v : Version). IsVersionOf s.seen.version.0 v.0) (sym same.version) its.version }

pub moved_request : (k : Seat) (s : SessionState) (i reply : ℕ) → IsAttemptOfRequest s.requests i s.attempt.pending → IsAttemptOfRequest s.requests i (attempt_moved k s reply).attempt.pending
moved_request k s i reply its =
    let same = attempt_keeps k.places (bits_of k) (room_of k) k.number s.attempt reply in
    record { request = its.request; waits = its.waits; name = same.name ∙ its.name; op = same.op ∙ its.op; version = same.version ∙ its.version }

next_kept : (taken : List TakenAt) (called : Option Op) (k : Seat) (s : SessionState) (step : Sitting) (reply : ℕ) → s.step ≡ step → AreAsTaken taken s.requests → KnowsRequest called s step → IsKeptAfter taken called s.serial (sitting_next k s step reply)
unfolding sitting_next
next_kept taken called k s (Idle its) reply e waiting knows = calm taken called s (Idle its) e waiting tt
next_kept taken called k s (Attempts has_shifted) reply e waiting knows = attempt_kept taken called (attempt_moved k s reply) has_shifted _ e (moved_call k called s reply knows) waiting
next_kept taken called k s (CatchesUp cause) reply e waiting knows = catch_kept taken called k (caught k s reply) cause _ e (seen_knows called s (caught k s reply) cause refl knows) (caught_taken taken s.catching s.requests s.catching.step reply waiting)
next_kept taken called k s ClearsMail reply e waiting knows = clear_kept taken called k (record s { mailing = mail_next s.mailing reply }) _ e waiting
next_kept taken called k s (Polls i) reply e waiting knows = poll_kept taken called k (attempt_moved k s reply) i _ e (moved_request k s i reply knows) waiting
next_kept taken called k s (StoresOwing i) reply e waiting knows = polls_kept taken called k s i waiting
next_kept taken called k s (Turns its) reply e waiting knows = turned_kept taken called (own_turn_moved k s reply) its _ e waiting
next_kept taken called k s StoresCut reply e waiting knows = calm taken called _ Leaves refl waiting tt
next_kept taken called k s Leaves reply e waiting knows = left_kept taken called (record s { leaving = leave_next s.leaving }) _ e waiting
next_kept taken called k s LoadsDurable reply e waiting knows = plain_kept taken called s _ waiting

given_kept : (taken : List TakenAt) (called : Option Op) (k : Seat) (s : SessionState) (step : Sitting) (action : Action) → s.step ≡ step → AreAsTaken taken s.requests → KnowsRequest called s step → IsKeptAfter taken called s.serial (sitting_given k s step action)
unfolding sitting_given
given_kept taken called k s (Turns its) action e waiting knows = turned_kept taken called (record s { own_turn = own_turn_given s.own_turn action }) its _ e waiting
given_kept taken called k s step action e waiting knows = calm taken called s step e waiting knows

-- a call that begins
begun_kept : (taken : List TakenAt) (called : Option Op) (k : Seat) (s : SessionState) (op : Op) (why : Option Fault) → called ≡ Some op → AreAsTaken taken s.requests → IsKeptAfter taken called s.serial (op_begun k s op why)
unfolding op_begun
begun_kept taken called k s op (Some why) its waiting = plain_kept taken called s _ waiting
begun_kept taken called k s op None its waiting = attempts_kept taken called k (record s { op = op }) false its waiting

clears_kept : (taken : List TakenAt) (called : Option Op) (k : Seat) (s : SessionState) → AreAsTaken taken s.requests → IsKeptAfter taken called s.serial (poll_begun k s)
clears_kept taken called k s waiting = either_kept s.is_orphaned taken called s.serial _ (polls_at k s 0) (calm taken called _ ClearsMail refl waiting tt) (polls_kept taken called k s 0 waiting)

call_kept : (taken : List TakenAt) (called : Option Op) (k : Seat) (s : SessionState) (its : Call) → AreAsTaken taken s.requests → IsKeptAfter taken (law.op_begun false its called) s.serial (call_begun k s its)
unfolding refresh_call poll_call sleep_call wake_call
call_kept taken called k s (call.Op op) waiting = begun_kept taken (Some op) k s op (refusal_of s op) refl waiting
call_kept taken called k s call.Refresh waiting = either_kept s.is_awake taken None s.serial _ _ (calm taken None _ (CatchesUp Refreshes) refl waiting tt) (plain_kept taken None s _ waiting)
call_kept taken called k s call.Poll waiting = either_kept s.is_awake taken None s.serial _ _ (clears_kept taken None k (record s { finished = [] }) waiting) (plain_kept taken None s _ waiting)
call_kept taken called k s call.Sleep waiting =
    either_kept (not s.is_awake) taken None s.serial _ _ (plain_kept taken None s _ waiting) (either_kept (length s.requests == 0) taken None s.serial _ _ (calm taken None _ StoresCut refl waiting tt) (plain_kept taken None s _ waiting))
call_kept taken called k s call.Wake waiting = either_kept s.is_awake taken None s.serial _ _ (plain_kept taken None s _ waiting) (calm taken None _ (CatchesUp Wakes) refl waiting tt)
call_kept taken called k s call.Durable waiting = calm taken None _ LoadsDurable refl waiting tt

begins_kept : (taken : List TakenAt) (called : Option Op) (k : Seat) (s : SessionState) (its : Call) (busy : Bool) → IsKept taken called s s.step → IsKeptAfter taken (law.op_begun busy its called) s.serial (begins k s busy its)
begins_kept taken called k s its true held = calm taken called s s.step refl held.waiting held.knows
begins_kept taken called k s its false held = call_kept taken called k (record s { asks = 0; effect = None; wants_turn = false }) its held.waiting

-- the count of asks and the effect of the step before are nothing to it
pub counted_knows : (called : Option Op) (s : SessionState) (asks : ℕ) (step : Sitting) → KnowsRequest called s step → KnowsRequest called (record s { asks = asks; effect = None }) step
counted_knows called s asks (Attempts has_shifted) its = record { called_so = its.called_so; name = its.name; op = its.op; version = its.version }
counted_knows called s asks (Polls i) its = its
counted_knows called s asks (CatchesUp cause) its = seen_knows called s (record s { asks = asks; effect = None }) cause refl its
counted_knows called s asks step its = tt

event_kept : (taken : List TakenAt) (called : Option Op) (k : Seat) (s : SessionState) (event : SessionEvent) → IsKept taken called s s.step → IsKeptAfter taken (op_after s event called) s.serial (session_happens k s event)
unfolding session_happens
event_kept taken called k s (Begins its) held = begins_kept taken called k s its (is_busy s.step) held
event_kept taken called k s (Replies reply) held =
    let asks : ℕ = asks_after s.asks (is_word_ask (session_ask k s)) in
    next_kept taken called k (record s { asks = asks; effect = None }) s.step reply refl held.waiting (counted_knows called s asks s.step held.knows)
event_kept taken called k s (Gets action) held = given_kept taken called k s s.step action refl held.waiting held.knows

opening_kept : (s : SessionState) (step : Sitting) → is_busy step ≡ false → s.requests ≡ [] → IsKept [] None s step
opening_kept s (Idle its) idle none = record { waiting = rw none tt; knows = tt }
opening_kept s step idle none = cc

-- at every moment of a run
pub run_kept : (k : Seat) (opening : SessionState) (events : List SessionEvent) → IsOpened opening → IsKept (versions_taken k opening events) (op_called k opening events) (session_run k opening events) (session_run k opening events).step
unfolding session_run versions_taken op_called
run_kept k opening [] opened = opening_kept opening opening.step opened.none_in_hand opened.none_wait
run_kept k opening (event ∷ before) opened = event_kept (versions_taken k opening before) (op_called k opening before) k (session_run k opening before) event (run_kept k opening before opened)

pub run_taken : (k : Seat) (opening : SessionState) (events : List SessionEvent) → IsOpened opening → AreAsTaken (versions_taken k opening events) (session_run k opening events).requests
run_taken k opening events opened = (run_kept k opening events opened).waiting

call_of : (called : Option Op) (s : SessionState) (step : Sitting) (has_shifted : Bool) → step ≡ Attempts has_shifted → KnowsRequest called s step → IsAttemptOfCall s called s.attempt.pending
call_of called s (Attempts shifted) has_shifted e knows = record { op = knows.called_so ∙ ap Some (sym knows.op); version = knows.version }
call_of called s step has_shifted e knows = cc

request_of_poll : (called : Option Op) (s : SessionState) (step : Sitting) (i : ℕ) → step ≡ Polls i → KnowsRequest called s step → IsAttemptOfRequest s.requests i s.attempt.pending
request_of_poll called s (Polls j) i e knows = let same : j ≡ i = cc in subst (λ (x : ℕ). IsAttemptOfRequest s.requests x s.attempt.pending) same knows
request_of_poll called s step i e knows = cc

pub run_call : (k : Seat) (opening : SessionState) (events : List SessionEvent) (has_shifted : Bool) → IsOpened opening → (session_run k opening events).step ≡ Attempts has_shifted
    → IsAttemptOfCall (session_run k opening events) (op_called k opening events) (session_run k opening events).attempt.pending
run_call k opening events has_shifted opened at = call_of _ (session_run k opening events) (session_run k opening events).step has_shifted at (run_kept k opening events opened).knows

pub run_request : (k : Seat) (opening : SessionState) (events : List SessionEvent) (i : ℕ) → IsOpened opening → (session_run k opening events).step ≡ Polls i
    → IsAttemptOfRequest (session_run k opening events).requests i (session_run k opening events).attempt.pending
run_request k opening events i opened at = request_of_poll (op_called k opening events) (session_run k opening events) (session_run k opening events).step i at (run_kept k opening events opened).knows
