-- A request of a session is named by its operation, and its attempt tries it so: a read as a read does, and an update in its version.
use Rattle.std.proofs.Common.{◌≡◌, ℕ, ◌+◌, ◌∙◌, zero, suc, List, [], ◌∷◌, ◌++◌, length, refl, ap, sym, subst, Bool, true, false}
use Rattle.std.specs.Prelude.{slice_get, slice_set, Option, Some, None, if◌then◌else◌, not, ◌==◌, ◌||◌, ⊤}
use Rattle.std.specs.List.{remove}
use Rattle.fkv_base.specs.declared.faults.Fault.{Fault}
use Rattle.fkv_map.specs.declared.operations.Call.{Call}
use Rattle.fkv_map.specs.declared.operations.Call.TheVariants as call
use Rattle.fkv_map.specs.declared.operations.Op.{Op}
use Rattle.fkv_plane.specs.declared.actions.Action.{Action}
use Rattle.fkv_plane.specs.declared.asks.Ask.{Ask}
use Rattle.fkv_plane.specs.declared.asks.Ask.TheVariants.{Done}
use Rattle.fkv_plane.specs.declared.places.Places.{Places}
use Rattle.fkv_epoch.specs.Leaving.{leave_ask, leave_next}
use Rattle.fkv_epoch.proofs.Shown.{none_some, some_same}
use Rattle.fkv_latch.specs.declared.latching.LatchAnswer.{LatchAnswer}
use Rattle.fkv_latch.specs.declared.latching.LatchAnswer.TheVariants.{Taken}
use Rattle.fkv_latch.specs.Latching.{latch_next_ask}
use Rattle.law_world.specs.Below.fkv_ops.DiskRecord.{DiskRecord}
use Rattle.law_world.specs.Below.fkv_ops.Reason.{Reason}
use Rattle.law_world.specs.Below.fkv_ops.Reason.TheVariants as reason
use Rattle.law_world.specs.Below.fkv_ops.TryAnswer.{TryAnswer}
use Rattle.law_world.specs.Below.fkv_ops.TryAnswer.TheVariants as answer
use Rattle.law_world.specs.Below.fkv_ops.Occasion.{Occasion}
use Rattle.law_world.specs.Below.fkv_ops.Occasion.TheVariants.{Call as AtCall, Poll as AtPoll}
use Rattle.law_world.specs.Below.fkv_ops.Bounds.{bounds_of}
use Rattle.law_world.specs.Below.fkv_ops.Seen.{Seen}
use Rattle.law_world.specs.Below.fkv_ops.Requests.{is_read}
use Rattle.law_world.specs.Below.fkv_ops.Trying.{TryState, try_ask}
use Rattle.law_world.specs.Below.fkv_pending.TheAttempting.{Attempting}
use Rattle.law_world.specs.Below.fkv_pending.TheAttempting.TheVariants.{Ended, Looks, Tries, Puts}
use Rattle.law_world.specs.Below.fkv_pending.MailAnswer.{MailAnswer}
use Rattle.law_world.specs.Below.fkv_pending.MailAnswer.TheVariants as mail
use Rattle.law_world.specs.Below.fkv_pending.MailTask.TheVariants.{Clear}
use Rattle.law_world.specs.Below.fkv_pending.TheMailing.TheVariants.{LoadsState}
use Rattle.law_world.specs.Below.fkv_pending.PendingRequest.{PendingRequest}
use Rattle.law_world.specs.Below.fkv_pending.RequestName.{RequestName}
use Rattle.law_world.specs.Below.fkv_pending.Mailing.{mail_ask, mail_next}
use Rattle.law_world.specs.Below.fkv_pending.Pending.{with_sought, with_held, with_latch}
use Rattle.law_world.specs.Below.fkv_pending.Attempting.{AttemptState, attempt_begun, attempt_ask, waits_for_disk, puts_addr, puts, tries, is_seeking_read, goes_on, look_ledto, held_kept, awaits_record, tried, try_ledto, put_ledto, mail_moved, try_moved, attempting_next, attempt_next, new_attempt}
use Rattle.law_world.specs.Below.fkv_session.Told.{Told}
use Rattle.law_world.specs.Below.fkv_session.Told.TheVariants as told
use Rattle.law_world.specs.Below.fkv_session.Catching.{Catching}
use Rattle.law_world.specs.Below.fkv_session.Catching.TheVariants.{Latches}
use Rattle.law_world.specs.Below.fkv_session.CatchCause.{CatchCause}
use Rattle.law_world.specs.Below.fkv_session.CatchCause.TheVariants as cause
use Rattle.law_world.specs.Below.fkv_session.Sitting.{Sitting}
use Rattle.law_world.specs.Below.fkv_session.Sitting.TheVariants.{Idle, Attempts, CatchesUp, ClearsMail, Polls, StoresOwing, Turns, StoresCut, Leaves, LoadsDurable}
use Rattle.law_world.specs.Below.fkv_session.CatchingUp.{CatchState, catch_ask, latched, latch_marked, catching_requests}
use Rattle.law_world.specs.Below.fkv_session.OwnTurns.{own_turn_ask, own_turn_begun, own_turn_given}
use Rattle.law_world.specs.Below.fkv_session.SessionRun.{SessionEvent, Begins, Replies, Gets, begins, session_happens, session_run}
use Rattle.law_world.specs.Below.fkv_session.Sessions.{SessionState, Seat, bits_of, room_of, is_busy, session_ask, answers, answers_after_turn, request_in_hand, attempts, polls_request, polls_at, update_done, is_no_room, with_request, serial_taken, ticket_after, accepts, shifts, attempted, attempt_left, poll_left, attempt_ledto, caught_up, catch_ledto, clear_ledto, is_finished, is_owed, request_finished, finishes_request, lacks_room, keeps_request, poll_ledto, turn_ledto, leave_ledto, attempt_moved, caught, own_turn_moved, sitting_next, sitting_given, is_word_ask, asks_after, refusal_of, op_begun, refresh_call, poll_begun, poll_call, sleep_call, wake_call, call_begun}
use Rattle.law_world.proofs.Below.fkv_session.Shown.{attempt_keeps}
use Rattle.fkv_map.specs.declared.operations.Call.TheVariants.{Refresh}
use Rattle.law_world.specs.Below.fkv_world.OwnEvents.{session_part_of}
use Rattle.law_world.specs.Below.fkv_world.Runs.{World, happens, run}
use Rattle.law_world.specs.Below.fkv_world.World.{Event, Now, seat_at}
use Rattle.law_world.proofs.Below.fkv_world.Shown.{happens_session}
use Rattle.law_world.specs.Guarded.Shows as guard
use Rattle.law_world.proofs.OfRuns.Nothing.{none_then}
use Rattle.law_refine.specs.Events.Names.{is_read_name, IsNamedSo, AreNamedSo, AttemptsNamedSo, RequestsAreNamed}
use Rattle.law_refine.proofs.OfEvents.ReadTries.{IsReadTry, try_read, begun_read}
use Rattle.law_refine.proofs.OfEvents.TryAppends.{IsTryAt, begun_at, try_at}
use Rattle.law_refine.proofs.OfEvents.Looks.{look_holds}

-- ---- an attempt
-- the try of this request: a read's is one of a read, and what it appends has the mark of the request's version, and its key
pub record IsTryOf (pending : PendingRequest) (t : TryState) : Type 0 where
  pub reads : is_read pending.request.op ≡ true → IsReadTry t
  pub of_request : IsTryAt pending.request t

-- by the attempt's control state
abbrev pub TriesAt : PendingRequest → TryState → Attempting → Type 0
TriesAt pending t Tries = IsTryOf pending t
TriesAt pending t step = ⊤

abbrev pub TriesIts : AttemptState → Type 0
TriesIts a = TriesAt a.pending a.trial a.step

-- its request is named by its operation, and is tried so
pub record IsAttemptSo (a : AttemptState) : Type 0 where
  pub named : IsNamedSo a.pending
  pub tries_so : TriesIts a

either_tries : (c : Bool) (a b : AttemptState) → TriesIts a → TriesIts b → TriesIts (if c then a else b)
either_tries true a b one other = one
either_tries false a b one other = other

still_tries : (a : AttemptState) (step : Attempting) → a.step ≡ step → TriesAt a.pending a.trial step → TriesIts a
still_tries a step at its = subst (TriesAt a.pending a.trial) (sym at) its

puts_tries : (a : AttemptState) (sought : Option DiskRecord) → TriesIts (puts_addr a sought)
puts_tries a None = tt
puts_tries a (Some sought) = tt

tries_anew : (p : Places) (bits : ℕ) (a : AttemptState) → TriesIts (tries p bits a)
tries_anew p bits a = record {
  reads = λ e. begun_read p bits a.pending.request a.seen a.occasion a.spare e;
  of_request = begun_at p bits a.pending.request a.seen a.occasion a.spare;
}

look_tries : (p : Places) (bits : ℕ) (a : AttemptState) (ask : Ask MailAnswer) → a.step ≡ Looks → TriesIts (look_ledto p bits a ask)
look_tries p bits a ask at =
    look_holds (λ its. TriesIts its) (λ its told. tt) (λ its sought. puts_tries its sought) p bits (λ its. tries_anew p bits its) a ask
    (still_tries a Looks at tt)

awaits_tries : (a : AttemptState) (sought : DiskRecord) → TriesIts (awaits_record a sought)
awaits_tries a sought = either_tries a.pending.has_asked (waits_for_disk its) (puts next) tt (puts_tries next next.pending.sought)
  where
    its : AttemptState
    its = record a { pending = with_held a.pending (held_kept a.pending.request.held sought.entry) }

    next : AttemptState
    next = record its { pending = with_sought its.pending (Some sought) }

tried_tries : (a : AttemptState) (its : TryAnswer) → TriesIts (tried a its)
tried_tries a (answer.AwaitsDisk sought) = awaits_tries a sought
tried_tries a (answer.Wait its) = tt
tried_tries a its = tt

led_tries : (a : AttemptState) (ask : Ask TryAnswer) → TriesIts a → TriesIts (try_ledto a ask)
unfolding try_ledto
led_tries a (Done its) so = tried_tries (record a { spare = a.trial.spare; pending = with_latch a.pending a.trial.has_shared }) its
led_tries a ask so = so

put_tries : (a : AttemptState) (ask : Ask MailAnswer) → a.step ≡ Puts → TriesIts (put_ledto a ask)
unfolding put_ledto
put_tries a (Done mail.Asked) at = tt
put_tries a (Done other) at = tt
put_tries a ask at = still_tries a Puts at tt

-- each reply to it
attempting_tries : (p : Places) (bits room session : ℕ) (a : AttemptState) (step : Attempting) (reply : ℕ) → a.step ≡ step → TriesIts a → TriesIts (attempting_next p bits room session (record a { effect = None }) step reply)
unfolding attempting_next
attempting_tries p bits room session a (Ended its) reply at so = so
attempting_tries p bits room session a Looks reply at so = look_tries p bits (mail_moved (record a { effect = None }) reply) (mail_ask session (mail_next a.mailing reply)) at
attempting_tries p bits room session a Tries reply at tries_so =
    let its : AttemptState = try_moved p room (record a { effect = None }) reply in
    let so : IsTryOf a.pending a.trial = subst (TriesAt a.pending a.trial) at tries_so in
    led_tries its (try_ask p its.trial) (still_tries its Tries at (record { reads = λ e. try_read p room a.trial reply (so.reads e); of_request = try_at p room a.pending.request a.trial reply so.of_request }))
attempting_tries p bits room session a Puts reply at so = put_tries (mail_moved (record a { effect = None }) reply) (mail_ask session (mail_next a.mailing reply)) at

moved_so : (k : Seat) (a : AttemptState) (reply : ℕ) → IsAttemptSo a → IsAttemptSo (attempt_next k.places (bits_of k) (room_of k) k.number a reply)
moved_so k a reply its =
    let same = attempt_keeps k.places (bits_of k) (room_of k) k.number a reply in
    record { named = ap is_read_name same.name ∙ (its.named ∙ sym (ap is_read same.op)); tries_so = attempting_tries k.places (bits_of k) (room_of k) k.number a a.step reply refl its.tries_so }

-- and how it begins
either_attempt : (c : Bool) (a b : AttemptState) → IsAttemptSo a → IsAttemptSo b → IsAttemptSo (if c then a else b)
either_attempt true a b one other = one
either_attempt false a b one other = other

puts_so : (a : AttemptState) (sought : Option DiskRecord) → IsNamedSo a.pending → IsAttemptSo (puts_addr a sought)
puts_so a None named = record { named = named; tries_so = tt }
puts_so a (Some sought) named = record { named = named; tries_so = tt }

begun_so : (p : Places) (bits : ℕ) (pending : PendingRequest) (seen : Seen) (occasion : Occasion) (spare : ℕ) (is_orphaned : Bool) → IsNamedSo pending
    → IsAttemptSo (attempt_begun p bits pending seen occasion spare is_orphaned)
begun_so p bits pending seen occasion spare is_orphaned named =
    let its : AttemptState = new_attempt bits pending seen occasion spare is_orphaned in
    either_attempt pending.has_asked _ (goes_on p bits its) (record { named = named; tries_so = tt })
    (either_attempt (is_seeking_read its) (puts its) (tries p bits its) (puts_so its its.pending.sought named) (record { named = named; tries_so = tries_anew p bits its }))

-- ---- the requests that wait
one_more : (requests : List PendingRequest) (pending : PendingRequest) → AreNamedSo requests → IsNamedSo pending → AreNamedSo (requests ++ pending ∷ [])
one_more [] pending all its = (its, tt)
one_more (o ∷ rest) pending all its = (all.0, one_more rest pending all.1 its)

one_less : (requests : List PendingRequest) (i : ℕ) → AreNamedSo requests → AreNamedSo (remove requests i)
one_less [] zero all = all
one_less [] (suc i) all = all
one_less (o ∷ rest) zero all = all.1
one_less (o ∷ rest) (suc i) all = (all.0, one_less rest i all.1)

one_set : (requests : List PendingRequest) (i : ℕ) (pending : PendingRequest) → AreNamedSo requests → IsNamedSo pending → AreNamedSo (slice_set requests i pending)
one_set [] i pending all its = all
one_set (o ∷ rest) zero pending all its = (its, all.1)
one_set (o ∷ rest) (suc i) pending all its = (all.0, one_set rest i pending all.1 its)

one_at : (requests : List PendingRequest) (i : ℕ) (pending : PendingRequest) → slice_get requests i ≡ Some pending → AreNamedSo requests → IsNamedSo pending
one_at [] i pending got all = cc
one_at (o ∷ rest) zero pending got all = let same : o ≡ pending = cc in subst IsNamedSo same all.0
one_at (o ∷ rest) (suc i) pending got all = one_at rest i pending got all.1

latched_so : (requests : List PendingRequest) (i : ℕ) (found : Option PendingRequest) → slice_get requests i ≡ found → AreNamedSo requests → AreNamedSo (latched requests i found)
unfolding with_latch
latched_so requests i None got all = all
latched_so requests i (Some pending) got all = one_set requests i (with_latch pending true) all (one_at requests i pending got all)

marked_so : (requests : List PendingRequest) (i : ℕ) (ask : Ask LatchAnswer) → AreNamedSo requests → AreNamedSo (latch_marked requests i ask)
unfolding latch_marked
marked_so requests i (Done Taken) all = latched_so requests i (slice_get requests i) refl all
marked_so requests i ask all = all

caught_all : (c : CatchState) (requests : List PendingRequest) (step : Catching) (reply : ℕ) → AreNamedSo requests → AreNamedSo (catching_requests c requests step reply)
unfolding catching_requests
caught_all c requests (Latches i) reply all = marked_so requests i (latch_next_ask c.latching reply) all
caught_all c requests step reply all = all

-- ---- a session
abbrev pub StepIsSo : AttemptState → Sitting → Type 0
StepIsSo a (Attempts has_shifted) = IsAttemptSo a
StepIsSo a (Polls index) = IsAttemptSo a
StepIsSo a step = ⊤

pub record IsSo (s : SessionState) : Type 0 where
  pub waiting : AreNamedSo s.requests
  pub sits : StepIsSo s.attempt s.step

either_so : (c : Bool) (a b : SessionState) → IsSo a → IsSo b → IsSo (if c then a else b)
either_so true a b one other = one
either_so false a b one other = other

still_so : (s : SessionState) (step : Sitting) → s.step ≡ step → AreNamedSo s.requests → StepIsSo s.attempt step → IsSo s
still_so s step at all its = record { waiting = all; sits = subst (StepIsSo s.attempt) (sym at) its }

plain : (s : SessionState) (its : Told) → AreNamedSo s.requests → IsSo (answers s its)
plain s its all = record { waiting = all; sits = tt }

hand_named : (c : Bool) (ticket serial : RequestName) → is_read_name ticket ≡ true → is_read_name serial ≡ false → is_read_name (if c then ticket else serial) ≡ c
hand_named true ticket serial one other = one
hand_named false ticket serial one other = other

attempts_so : (k : Seat) (s : SessionState) (has_shifted : Bool) → AreNamedSo s.requests → IsSo (attempts k s has_shifted)
unfolding attempts
attempts_so k s has_shifted all = record { waiting = all; sits = begun_so k.places (bits_of k) (request_in_hand s) s.seen (AtCall (bounds_of k.shape)) s.spare s.is_orphaned (hand_named (is_read s.op) _ _ refl refl) }

turns_so : (s : SessionState) (its : Told) → AreNamedSo s.requests → IsSo (answers_after_turn s its)
turns_so s its all = either_so s.wants_turn (record s { own_turn = own_turn_begun s.own_turn; step = Turns its }) (answers s its) (record { waiting = all; sits = tt }) (plain s its all)

request_so : (k : Seat) (s : SessionState) (index : ℕ) (found : Option PendingRequest) → slice_get s.requests index ≡ found → AreNamedSo s.requests → IsSo (polls_request k s index found)
request_so k s index None got all = turns_so s _ all
request_so k s index (Some pending) got all = record { waiting = all; sits = begun_so k.places (bits_of k) pending s.seen AtPoll s.spare s.is_orphaned (one_at s.requests index pending got all) }

polls_so : (k : Seat) (s : SessionState) (index : ℕ) → AreNamedSo s.requests → IsSo (polls_at k s index)
unfolding polls_at
polls_so k s index all = request_so k s index (slice_get s.requests index) refl all

accepts_so : (s : SessionState) (why : Reason) → AreNamedSo s.requests → IsNamedSo s.attempt.pending → IsSo (accepts s why)
unfolding accepts
accepts_so s why all named =
    let more = one_more s.requests s.attempt.pending all named in
    either_so (is_read s.op) (answers (with_request (record s { ticket = ticket_after s.ticket })) (told.PendingRead (record { 0 = ticket_after s.ticket })))
    (answers_after_turn (with_request (serial_taken (record s { wants_turn = is_no_room why }))) (told.Pending (record { 0 = s.serial + 1 }) why))
    (plain (with_request (record s { ticket = ticket_after s.ticket })) (told.PendingRead (record { 0 = ticket_after s.ticket })) more)
    (turns_so (with_request (serial_taken (record s { wants_turn = is_no_room why }))) (told.Pending (record { 0 = s.serial + 1 }) why) more)

shifts_so : (s : SessionState) (has_shifted : Bool) → AreNamedSo s.requests → IsNamedSo s.attempt.pending → IsSo (shifts s has_shifted)
unfolding shifts
shifts_so s false all named = record { waiting = all; sits = tt }
shifts_so s true all named = accepts_so s reason.Contended all named

attempted_so : (s : SessionState) (has_shifted : Bool) (its : TryAnswer) → AreNamedSo s.requests → IsNamedSo s.attempt.pending → IsSo (attempted s has_shifted its)
attempted_so s has_shifted (answer.Done its) all named = either_so (is_read s.op) (answers s told.Absent) (update_done s its) (plain s told.Absent all) (record { waiting = all; sits = tt })
attempted_so s has_shifted (answer.Found value) all named = plain s (told.Found value) all
attempted_so s has_shifted answer.Absent all named = plain s told.Absent all
attempted_so s has_shifted (answer.Wait why) all named = accepts_so s why all named
attempted_so s has_shifted (answer.AwaitsDisk sought) all named = accepts_so s reason.Disk all named
attempted_so s has_shifted answer.Shift all named = shifts_so s has_shifted all named
attempted_so s has_shifted answer.IndexFull all named = record { waiting = all; sits = tt }
attempted_so s has_shifted answer.LogFull all named = record { waiting = all; sits = tt }

called_so : (s : SessionState) (has_shifted : Bool) (ask : Ask TryAnswer) → s.step ≡ Attempts has_shifted → AreNamedSo s.requests → IsAttemptSo s.attempt → IsSo (attempt_ledto s has_shifted ask)
unfolding attempt_ledto
called_so s has_shifted (Done its) at all tries = attempted_so (attempt_left s) has_shifted its all tries.named
called_so s has_shifted ask at all tries = still_so s (Attempts has_shifted) at all tries

finishes_so : (k : Seat) (s : SessionState) (index : ℕ) (its : TryAnswer) → AreNamedSo s.requests → IsSo (finishes_request k s index its)
unfolding finishes_request
finishes_so k s index its all =
    let less = one_less s.requests index all in
    either_so (is_owed s) (request_finished s index its) (polls_at k (request_finished s index its) index) (record { waiting = less; sits = tt }) (polls_so k (request_finished s index its) index less)

keeps_so : (k : Seat) (s : SessionState) (index : ℕ) (its : TryAnswer) → AreNamedSo s.requests → IsNamedSo s.attempt.pending → IsSo (keeps_request k s index its)
unfolding keeps_request
keeps_so k s index its all named =
    polls_so k (record s { requests = slice_set s.requests index s.attempt.pending; wants_turn = s.wants_turn || lacks_room its }) (index + 1) (one_set s.requests index s.attempt.pending all named)

polled_so : (k : Seat) (s : SessionState) (index : ℕ) (ask : Ask TryAnswer) → s.step ≡ Polls index → AreNamedSo s.requests → IsAttemptSo s.attempt → IsSo (poll_ledto k s index ask)
unfolding poll_ledto
polled_so k s index (Done its) at all tries =
    either_so (is_finished its) (finishes_request k (poll_left s) index its) (keeps_request k (poll_left s) index its)
    (finishes_so k (poll_left s) index its all) (keeps_so k (poll_left s) index its all tries.named)
polled_so k s index ask at all tries = still_so s (Polls index) at all tries

caught_so : (k : Seat) (s : SessionState) (its : CatchCause) → AreNamedSo s.requests → IsSo (caught_up k s its)
caught_so k s cause.Refreshes all = record { waiting = all; sits = tt }
caught_so k s cause.Wakes all = record { waiting = all; sits = tt }
caught_so k s cause.Shifts all = attempts_so k s true all

catch_so : (k : Seat) (s : SessionState) (its : CatchCause) (ask : Ask (Unit {0})) → s.step ≡ CatchesUp its → AreNamedSo s.requests → IsSo (catch_ledto k s its ask)
unfolding catch_ledto
catch_so k s its (Done through) at all = caught_so k (record s { seen = s.catching.seen }) its all
catch_so k s its ask at all = still_so s (CatchesUp its) at all tt

clear_so : (k : Seat) (s : SessionState) (ask : Ask MailAnswer) → s.step ≡ ClearsMail → AreNamedSo s.requests → IsSo (clear_ledto k s ask)
unfolding clear_ledto
clear_so k s (Done mail.Cleared) at all = polls_so k (record s { is_orphaned = false }) 0 all
clear_so k s (Done its) at all = polls_so k s 0 all
clear_so k s ask at all = still_so s ClearsMail at all tt

turned_so : (s : SessionState) (its : Told) (ask : Ask (Unit {0})) → s.step ≡ Turns its → AreNamedSo s.requests → IsSo (turn_ledto s its ask)
unfolding turn_ledto
turned_so s its (Done through) at all = plain s its all
turned_so s its ask at all = still_so s (Turns its) at all tt

left_so : (s : SessionState) (ask : Ask (Unit {0})) → s.step ≡ Leaves → AreNamedSo s.requests → IsSo (leave_ledto s ask)
unfolding leave_ledto
left_so s (Done its) at all = record { waiting = all; sits = tt }
left_so s ask at all = still_so s Leaves at all tt

-- each reply
sitting_so : (k : Seat) (s : SessionState) (step : Sitting) (reply : ℕ) → s.step ≡ step → AreNamedSo s.requests → StepIsSo s.attempt step → IsSo (sitting_next k s step reply)
unfolding sitting_next
sitting_so k s (Idle its) reply at all tries = still_so s (Idle its) at all tt
sitting_so k s (Attempts has_shifted) reply at all tries =
    let after : SessionState = attempt_moved k s reply in
    called_so after has_shifted (attempt_ask k.places k.number after.attempt) at all (moved_so k s.attempt reply tries)
sitting_so k s (Polls index) reply at all tries =
    let after : SessionState = attempt_moved k s reply in
    polled_so k after index (attempt_ask k.places k.number after.attempt) at all (moved_so k s.attempt reply tries)
sitting_so k s (CatchesUp its) reply at all tries =
    let after : SessionState = caught k s reply in
    catch_so k after its (catch_ask k.places k.number after.catching after.requests) at (caught_all s.catching s.requests s.catching.step reply all)
sitting_so k s ClearsMail reply at all tries = clear_so k (record s { mailing = mail_next s.mailing reply }) (mail_ask k.number (mail_next s.mailing reply)) at all
sitting_so k s (StoresOwing index) reply at all tries = polls_so k s index all
sitting_so k s (Turns its) reply at all tries =
    let after : SessionState = own_turn_moved k s reply in
    turned_so after its (own_turn_ask k.shape after.own_turn) at all
sitting_so k s StoresCut reply at all tries = record { waiting = all; sits = tt }
sitting_so k s Leaves reply at all tries = left_so (record s { leaving = leave_next s.leaving }) (leave_ask k.number (leave_next s.leaving)) at all
sitting_so k s LoadsDurable reply at all tries = record { waiting = all; sits = tt }

-- an action that it gets
given_so : (k : Seat) (s : SessionState) (step : Sitting) (action : Action) → s.step ≡ step → IsSo s → IsSo (sitting_given k s step action)
unfolding sitting_given
given_so k s (Turns its) action at so =
    let after : SessionState = record s { own_turn = own_turn_given s.own_turn action } in
    turned_so after its (own_turn_ask k.shape after.own_turn) at so.waiting
given_so k s step action at so = so

-- and a call that begins
op_so : (k : Seat) (s : SessionState) (op : Op) (why : Option Fault) → AreNamedSo s.requests → IsSo (op_begun k s op why)
unfolding op_begun
op_so k s op (Some why) all = record { waiting = all; sits = tt }
op_so k s op None all = attempts_so k (record s { op = op }) false all

clears_so : (k : Seat) (s : SessionState) → AreNamedSo s.requests → IsSo (poll_begun k s)
clears_so k s all = either_so s.is_orphaned (record s { mailing = LoadsState Clear; step = ClearsMail }) (polls_at k s 0) (record { waiting = all; sits = tt }) (polls_so k s 0 all)

call_so : (k : Seat) (s : SessionState) (its : Call) → AreNamedSo s.requests → IsSo (call_begun k s its)
unfolding refresh_call poll_call sleep_call wake_call
call_so k s (call.Op op) all = op_so k s op (refusal_of s op) all
call_so k s call.Refresh all = either_so s.is_awake _ _ (record { waiting = all; sits = tt }) (record { waiting = all; sits = tt })
call_so k s call.Poll all = either_so s.is_awake _ _ (clears_so k (record s { finished = [] }) all) (record { waiting = all; sits = tt })
call_so k s call.Sleep all = either_so (not s.is_awake) _ _ (record { waiting = all; sits = tt }) (either_so (length s.requests == 0) _ _ (record { waiting = all; sits = tt }) (record { waiting = all; sits = tt }))
call_so k s call.Wake all = either_so s.is_awake _ _ (record { waiting = all; sits = tt }) (record { waiting = all; sits = tt })
call_so k s call.Durable all = record { waiting = all; sits = tt }

begins_so : (k : Seat) (s : SessionState) (busy : Bool) (its : Call) → IsSo s → IsSo (begins k s busy its)
begins_so k s true its so = so
begins_so k s false its so = call_so k (record s { asks = 0; effect = None; wants_turn = false }) its so.waiting

event_so : (k : Seat) (s : SessionState) (event : SessionEvent) → IsSo s → IsSo (session_happens k s event)
unfolding session_happens
event_so k s (Begins its) so = begins_so k s (is_busy s.step) its so
event_so k s (Replies reply) so = sitting_so k (record s { asks = asks_after s.asks (is_word_ask (session_ask k s)); effect = None }) s.step reply refl so.waiting so.sits
event_so k s (Gets action) so = given_so k s s.step action refl so

run_so : (k : Seat) (opening : SessionState) (events : List SessionEvent) → IsSo opening → IsSo (session_run k opening events)
unfolding session_run
run_so k opening [] so = so
run_so k opening (event ∷ before) so = event_so k (session_run k opening before) event (run_so k opening before so)

-- ---- over a life
abbrev AreSo : Now → Type 0
AreSo n = (number : ℕ) (s : SessionState) → slice_get n.sessions number ≡ Some s → IsSo s

happens_so : (w : World) (event : Event) (number : ℕ) (s : SessionState) (before : Option SessionState) → AreSo w.now → slice_get w.now.sessions number ≡ before → slice_get (happens w event).now.sessions number ≡ Some s → IsSo s
happens_so w event number s None are e found = none_some s (sym (none_then w event number e) ∙ found)
happens_so w event number s (Some before) are e found =
    let after : SessionState = session_run (seat_at w.now number) before (session_part_of w.now number event) in
    let same : s ≡ after = some_same s after (sym found ∙ happens_session w event number before e) in
    subst IsSo (sym same) (run_so (seat_at w.now number) before (session_part_of w.now number event) (are number before e))

opened_so : (s : SessionState) (step : Sitting) → s.step ≡ step → is_busy step ≡ false → s.requests ≡ [] → IsSo s
opened_so s (Idle its) at idle none = still_so s (Idle its) at (subst AreNamedSo (sym none) tt) tt
opened_so s step at idle none = cc

pub life_so : (opening : World) (start : ℕ) (events : List Event) (number : ℕ) (s : SessionState) → guard.IsOpened opening.now start → slice_get (run opening events).now.sessions number ≡ Some s → IsSo s
unfolding run
life_so opening start [] number s opened found = let its = opened.sessions number s found in opened_so s s.step refl its.none_in_hand its.none_wait
life_so opening start (event ∷ before) number s opened found =
    happens_so (run opening before) event number s (slice_get (run opening before).now.sessions number) (λ at x e. life_so opening start before at x opened e) refl found

-- so its requests are named by their operations
sits_named : (s : SessionState) (step : Sitting) → StepIsSo s.attempt step → AttemptsNamedSo s step
sits_named s (Attempts has_shifted) its = its.named
sits_named s (Polls index) its = its.named
sits_named s step its = tt

pub life_named : (opening : World) (start : ℕ) (events : List Event) (number : ℕ) (s : SessionState) → guard.IsOpened opening.now start → slice_get (run opening events).now.sessions number ≡ Some s → RequestsAreNamed s
life_named opening start events number s opened found =
    let so = life_so opening start events number s opened found in
    record { waiting = so.waiting; attempted = sits_named s s.step so.sits }
