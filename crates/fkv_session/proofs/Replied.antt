-- At every moment of a run each effect that was told has been answered, but for that of the attempt in hand; and it is of the operation that
-- its serial was taken for.
use Rattle.std.proofs.Common.{◌≡◌, ℕ, ◌+◌, ◌∙◌, zero, suc, List, [], ◌∷◌, ◌++◌, length, refl, arith, ap, sym, subst, inl, inr, Bool, true, false}
use Rattle.std.specs.Prelude.{slice_get, slice_set, map, Option, Some, None, if◌then◌else◌, not, ◌==◌}
use Rattle.std.specs.List.{remove}
use Rattle.std.proofs.lemmas.Bool.Decides.{nat_tests}
use Rattle.fkv_base.specs.declared.faults.Fault.{Fault}
use Rattle.fkv_map.specs.declared.history.HistoryEntry.{HistoryEntry}
use Rattle.fkv_map.specs.declared.operations.Call.{Call}
use Rattle.fkv_map.specs.declared.operations.Call.TheVariants as call
use Rattle.fkv_map.specs.declared.operations.Op.{Op}
use Rattle.fkv_map.specs.declared.operations.Reply.{Reply}
use Rattle.fkv_plane.specs.declared.actions.Action.{Action}
use Rattle.fkv_plane.specs.declared.asks.Ask.{Ask}
use Rattle.fkv_plane.specs.declared.asks.Ask.TheVariants.{Done}
use Rattle.fkv_epoch.specs.Leaving.{leave_next}
use Rattle.fkv_latch.specs.declared.latching.LatchAnswer.{LatchAnswer}
use Rattle.fkv_latch.specs.declared.latching.LatchAnswer.TheVariants.{Taken as LatchTaken}
use Rattle.fkv_latch.specs.Latching.{latch_next_ask}
use Rattle.fkv_ops.specs.Bounds.{bounds_of}
use Rattle.fkv_ops.specs.declared.answers.Reason.{Reason}
use Rattle.fkv_ops.specs.declared.answers.Reason.TheVariants as reason
use Rattle.fkv_ops.specs.declared.answers.TryAnswer.{TryAnswer}
use Rattle.fkv_ops.specs.declared.answers.TryAnswer.TheVariants as tried
use Rattle.fkv_ops.specs.declared.requests.Occasion.TheVariants.{Call as AtCall, Poll as AtPoll}
use Rattle.fkv_ops.specs.Requests.{is_read}
use Rattle.fkv_pending.specs.declared.mailing.MailAnswer.{MailAnswer}
use Rattle.fkv_pending.specs.declared.mailing.MailAnswer.TheVariants.{Cleared}
use Rattle.fkv_pending.specs.declared.pending_requests.PendingRequest.{PendingRequest}
use Rattle.fkv_pending.specs.declared.pending_requests.RequestName.{RequestName}
use Rattle.fkv_pending.specs.declared.pending_requests.RequestName.TheVariants.{Update, Read}
use Rattle.fkv_pending.specs.Pending.{with_latch}
use Rattle.fkv_pending.specs.Mailing.{mail_next}
use Rattle.fkv_pending.specs.Attempting.{AttemptState, attempt_begun, attempt_ask}
use Rattle.fkv_pending.proofs.Shown.{AttemptRestsOrAsks, attempt_begun_rests, attempt_rests}
use Rattle.fkv_session.specs.declared.answers.Finished.{Finished}
use Rattle.fkv_session.specs.declared.answers.Finished.TheVariants as finished
use Rattle.fkv_session.specs.declared.answers.Told.{Told}
use Rattle.fkv_session.specs.declared.answers.Told.TheVariants as told
use Rattle.fkv_session.specs.declared.catching_up.Catching.{Catching}
use Rattle.fkv_session.specs.declared.catching_up.Catching.TheVariants.{Latches}
use Rattle.fkv_session.specs.declared.sessions.CatchCause.{CatchCause}
use Rattle.fkv_session.specs.declared.sessions.CatchCause.TheVariants.{Refreshes, Wakes, Shifts}
use Rattle.fkv_session.specs.declared.sessions.Sitting.{Sitting}
use Rattle.fkv_session.specs.declared.sessions.Sitting.TheVariants.{Idle, Attempts, CatchesUp, ClearsMail, Polls, StoresOwing, Turns, StoresCut, Leaves, LoadsDurable}
use Rattle.fkv_session.specs.CatchingUp.{CatchState, latched, latch_marked, catching_requests}
use Rattle.fkv_session.specs.OwnTurns.{own_turn_given}
use Rattle.fkv_session.specs.Sessions.{SessionState, Seat, IsOpened, bits_of, room_of, is_busy, answers, answers_after_turn, ticket_after, name_of, request_in_hand, attempts, polls_request, polls_at, refusal_of, op_begun, refresh_call, poll_begun, poll_call, sleep_call, wake_call, call_begun, session_begun, attempt_left, poll_left, serial_taken, update_done, is_no_room, with_request, accepts, shifts, attempted, attempt_ledto, caught_up, catch_ledto, clear_ledto, finished_of, is_finished, is_owed, request_finished, finishes_request, keeps_request, poll_ledto, turn_ledto, leave_ledto, entry_of, attempt_moved, caught, own_turn_moved, sitting_next, sitting_given, asks_after, is_word_ask, session_ask}
use Rattle.fkv_session.specs.SessionRun.{SessionEvent, Begins, Replies, Gets, begins, session_happens, session_run, Telling, telling, answered, is_calling, told_after, tellings, with_coming, in_hand}
use Rattle.fkv_session.specs.Accounts.{number_of}
use Rattle.fkv_session.specs.Replies as law
use Rattle.fkv_session.specs.Replies.{effect_behind, with_effect, effects_told, op_after, op_called, Taken, taken_after, serials_taken, done_by, done_by_poll, done_told, AreAnswered, WasTaken}
use Rattle.fkv_session.proofs.AttemptKeeps.{attempt_keeps, begun_same}
use Rattle.fkv_session.proofs.AttemptMade.{made_in, made_of, KnowsUpdate, begun_so, begun_nothing, attempt_so, attempt_ends}
use Rattle.fkv_session.proofs.Books.{number_append}
use Rattle.fkv_session.proofs.Made.{reply_of, MadeFrom}
use Rattle.fkv_session.proofs.Requests.{IsSameRequest}
use Rattle.fkv_session.proofs.Sound.{settled}
use Rattle.fkv_session.proofs.UpdateEnds.{IsUpdateEnd}

-- an update's name goes with an operation that is none of a read, and for which its serial was taken
abbrev pub IsNameOf : List Taken → RequestName → Op → Type 0
IsNameOf taken (Update serial) op = (is_read op ≡ false) × WasTaken taken serial.0 op
IsNameOf taken (Read ticket) op = Unit {0}

abbrev pub AreNamesOf : List Taken → List PendingRequest → Type 0
AreNamesOf taken [] = Unit {0}
AreNamesOf taken (p ∷ rest) = IsNameOf taken p.name p.request.op × AreNamesOf taken rest

pub record IsOfTaken (number : ℕ) (taken : List Taken) (its : HistoryEntry) : Type 0 where
  pub session : its.session ≡ number
  pub update : is_read its.op ≡ false
  pub op : WasTaken taken its.serial.0 its.op

abbrev pub AreOfTaken : ℕ → List Taken → List HistoryEntry → Type 0
AreOfTaken number taken [] = Unit {0}
AreOfTaken number taken (it ∷ before) = IsOfTaken number taken it × AreOfTaken number taken before

-- what holds of the effects that have been answered
pub record IsSettled (number : ℕ) (effects : List HistoryEntry) (taken : List Taken) (before : List Telling) (requests : List PendingRequest) (finished : List Finished) : Type 0 where
  pub replies : AreAnswered effects before finished
  pub own : AreOfTaken number taken effects
  pub waiting : AreNamesOf taken requests

-- what holds of an attempt in hand
pub record IsUnderWay (a : AttemptState) : Type 0 where
  pub rests : AttemptRestsOrAsks a
  pub knows : is_read a.pending.request.op ≡ false → KnowsUpdate a a.step

pub record IsCallOf (called : Option Op) (s : SessionState) : Type 0 where
  pub called_so : called ≡ Some s.op
  pub name : s.attempt.pending.name ≡ name_of s
  pub op : s.attempt.pending.request.op ≡ s.op
  pub under_way : IsUnderWay s.attempt

pub record IsPollOf (taken : List Taken) (s : SessionState) : Type 0 where
  pub name : IsNameOf taken s.attempt.pending.name s.attempt.pending.request.op
  pub under_way : IsUnderWay s.attempt

abbrev pub KnowsCall : List Taken → Option Op → SessionState → Sitting → Type 0
KnowsCall taken called s (Attempts has_shifted) = IsCallOf called s
KnowsCall taken called s (CatchesUp Shifts) = called ≡ Some s.op
KnowsCall taken called s (Polls i) = IsPollOf taken s
KnowsCall taken called s step = Unit {0}

abbrev pub entry_made : ℕ → AttemptState → Option Reply → Option HistoryEntry
entry_made number a its = entry_of number a.pending a.pending.name its

-- the effect of the attempt in hand
abbrev pub effect_coming : Seat → SessionState → Sitting → Option HistoryEntry
effect_coming k s (Attempts has_shifted) = entry_made k.number s.attempt (made_of s.attempt)
effect_coming k s (Polls i) = entry_made k.number s.attempt (made_of s.attempt)
effect_coming k s step = None

pub record IsTold (k : Seat) (effects : List HistoryEntry) (taken : List Taken) (called : Option Op) (before : List Telling) (s : SessionState) (step : Sitting) : Type 0 where
  pub settled_ones : List HistoryEntry
  pub its_effects : effects ≡ with_effect (effect_coming k s step) settled_ones
  pub books : IsSettled k.number settled_ones taken before s.requests (in_hand step s.finished)
  pub knows : KnowsCall taken called s step

-- behind an event, before which the session's serial was this
abbrev pub IsToldAfter : Seat → List HistoryEntry → List Taken → Option Op → ℕ → List Telling → SessionState → Type 0
IsToldAfter k effects taken called n before s = IsTold k (with_effect s.effect effects) (taken_after (s.serial == n) s.serial called taken) called (settled s.step s.finished before) s s.step

same_taken : (n : ℕ) (called : Option Op) (taken : List Taken) → taken_after (n == n) n called taken ≡ taken
same_taken n called taken = let same : (n == n) ≡ true = grind (arith, nat_tests) in rw same refl

next_taken : (n : ℕ) (op : Op) (taken : List Taken) → taken_after (n + 1 == n) (n + 1) (Some op) taken ≡ record { serial = n + 1; op = op } ∷ taken
next_taken n op taken = let other : (n + 1 == n) ≡ false = grind (arith, nat_tests) in rw other refl

-- more was taken
more_names : (taken : List Taken) (it : Taken) (requests : List PendingRequest) → AreNamesOf taken requests → AreNamesOf (it ∷ taken) requests
more_names taken it [] names = tt
more_names taken it (p ∷ rest) names = (more_name p.name p.request.op names.0, more_names taken it rest names.1)
  where
    more_name : (name : RequestName) (op : Op) → IsNameOf taken name op → IsNameOf (it ∷ taken) name op
    more_name (Update serial) op its = (its.0, inr its.1)
    more_name (Read ticket) op its = tt

more_own : (number : ℕ) (taken : List Taken) (it : Taken) (effects : List HistoryEntry) → AreOfTaken number taken effects → AreOfTaken number (it ∷ taken) effects
more_own number taken it [] own = tt
more_own number taken it (o ∷ rest) own = (record { session = own.0.session; update = own.0.update; op = inr own.0.op }, more_own number taken it rest own.1)

names_append : (taken : List Taken) (requests : List PendingRequest) (p : PendingRequest) → AreNamesOf taken requests → IsNameOf taken p.name p.request.op → AreNamesOf taken (requests ++ p ∷ [])
names_append taken [] p names its = (its, tt)
names_append taken (o ∷ rest) p names its = (names.0, names_append taken rest p names.1 its)

names_removed : (taken : List Taken) (requests : List PendingRequest) (i : ℕ) → AreNamesOf taken requests → AreNamesOf taken (remove requests i)
names_removed taken [] zero names = names
names_removed taken [] (suc i) names = names
names_removed taken (o ∷ rest) zero names = names.1
names_removed taken (o ∷ rest) (suc i) names = (names.0, names_removed taken rest i names.1)

names_set : (taken : List Taken) (requests : List PendingRequest) (i : ℕ) (p : PendingRequest) → AreNamesOf taken requests → IsNameOf taken p.name p.request.op → AreNamesOf taken (slice_set requests i p)
names_set taken [] i p names its = names
names_set taken (o ∷ rest) zero p names its = (its, names.1)
names_set taken (o ∷ rest) (suc i) p names its = (names.0, names_set taken rest i p names.1 its)

name_at : (taken : List Taken) (requests : List PendingRequest) (i : ℕ) (p : PendingRequest) → slice_get requests i ≡ Some p → AreNamesOf taken requests → IsNameOf taken p.name p.request.op
name_at taken [] i p got names = cc
name_at taken (o ∷ rest) zero p got names = let same : o ≡ p = cc in subst (λ (x : PendingRequest). IsNameOf taken x.name x.request.op) same names.0
name_at taken (o ∷ rest) (suc i) p got names = name_at taken rest i p got names.1

latched_names : (taken : List Taken) (requests : List PendingRequest) (i : ℕ) (found : Option PendingRequest) → slice_get requests i ≡ found → AreNamesOf taken requests → AreNamesOf taken (latched requests i found)
unfolding with_latch
latched_names taken requests i None got names = names
latched_names taken requests i (Some p) got names = names_set taken requests i (with_latch p true) names (name_at taken requests i p got names)

marked_names : (taken : List Taken) (requests : List PendingRequest) (i : ℕ) (ask : Ask LatchAnswer) → AreNamesOf taken requests → AreNamesOf taken (latch_marked requests i ask)
unfolding latch_marked
marked_names taken requests i (Done LatchTaken) names = latched_names taken requests i (slice_get requests i) refl names
marked_names taken requests i ask names = names

caught_names : (taken : List Taken) (c : CatchState) (requests : List PendingRequest) (step : Catching) (reply : ℕ) → AreNamesOf taken requests → AreNamesOf taken (catching_requests c requests step reply)
unfolding catching_requests
caught_names taken c requests (Latches i) reply names = marked_names taken requests i (latch_next_ask c.latching reply) names
caught_names taken c requests step reply names = names

-- a state that goes on
still : (k : Seat) (effects : List HistoryEntry) (taken : List Taken) (called : Option Op) (before : List Telling) (s : SessionState) (step : Sitting) → s.step ≡ step
    → IsTold k (with_effect s.effect effects) taken called (settled step s.finished before) s step → IsToldAfter k effects taken called s.serial before s
still k effects taken called before s step e its =
    rw (same_taken s.serial called taken) (subst (λ (x : Sitting). IsTold k (with_effect s.effect effects) taken called (settled x s.finished before) s x) (sym e) its)

-- one that takes no serial, with no attempt in hand
calm : (k : Seat) (effects : List HistoryEntry) (taken : List Taken) (called : Option Op) (before : List Telling) (s : SessionState) (step : Sitting) → s.step ≡ step
    → effect_coming k s step ≡ None → KnowsCall taken called s step → IsSettled k.number (with_effect s.effect effects) taken (settled step s.finished before) s.requests (in_hand step s.finished)
    → IsToldAfter k effects taken called s.serial before s
calm k effects taken called before s step e none knows books =
    still k effects taken called before s step e (record { settled_ones = with_effect s.effect effects; its_effects = rw none refl; books = books; knows = knows })

either_told : (c : Bool) (k : Seat) (effects : List HistoryEntry) (taken : List Taken) (called : Option Op) (n : ℕ) (before : List Telling) (a b : SessionState)
    → IsToldAfter k effects taken called n before a → IsToldAfter k effects taken called n before b → IsToldAfter k effects taken called n before (if c then a else b)
either_told true k effects taken called n before a b one other = one
either_told false k effects taken called n before a b one other = other

same_name : (taken : List Taken) (p q : PendingRequest) → IsSameRequest p q → IsNameOf taken q.name q.request.op → IsNameOf taken p.name p.request.op
same_name taken p q same name = rw same.name (rw same.op name)

none_made : (k : Seat) (effects : List HistoryEntry) (taken : List Taken) (before : List Telling) (s : SessionState) (ones : List HistoryEntry)
    → with_effect s.effect effects ≡ with_effect (entry_of k.number s.attempt.pending s.attempt.pending.name None) ones → IsSettled k.number ones taken before s.requests []
    → IsSettled k.number (with_effect s.effect effects) taken before s.requests []
none_made k effects taken before s ones parts books =
    subst (λ (x : List HistoryEntry). IsSettled k.number x taken before s.requests []) (sym parts) books

-- an answer that tells no update as done
abbrev pub TellsNone : Told → Type 0
TellsNone (told.Done serial its) = ⊥
TellsNone (told.Polled left) = ⊥
TellsNone its = Unit {0}

tells_none : (its : Told) (finished : List Finished) (before : List Telling) → TellsNone its → done_told (telling its finished ∷ before) ≡ done_told before
tells_none (told.Done serial its) finished before none = absurd none
tells_none (told.Polled left) finished before none = absurd none
tells_none (told.Pending serial why) finished before none = refl
tells_none (told.Found value) finished before none = refl
tells_none told.Absent finished before none = refl
tells_none (told.PendingRead ticket) finished before none = refl
tells_none (told.Refreshed phase version) finished before none = refl
tells_none (told.Woken phase version) finished before none = refl
tells_none told.Slept finished before none = refl
tells_none (told.Durable serial) finished before none = refl
tells_none (told.Refused why) finished before none = refl

plain_books : (number : ℕ) (effects : List HistoryEntry) (taken : List Taken) (before : List Telling) (requests : List PendingRequest) (its : Told) (finished : List Finished) → TellsNone its
    → IsSettled number effects taken before requests [] → IsSettled number effects taken (telling its finished ∷ before) requests []
plain_books number effects taken before requests its finished none books = record {
  replies = λ such. rw (tells_none its finished before none) (books.replies such);
  own = books.own;
  waiting = books.waiting;
}

plain_told : (k : Seat) (effects : List HistoryEntry) (taken : List Taken) (called : Option Op) (before : List Telling) (s : SessionState) (its : Told) → TellsNone its
    → IsSettled k.number (with_effect s.effect effects) taken before s.requests [] → IsToldAfter k effects taken called s.serial before (answers s its)
plain_told k effects taken called before s its none books =
    calm k effects taken called before (answers s its) (Idle its) refl refl tt (plain_books k.number (with_effect s.effect effects) taken before s.requests its s.finished none books)

-- a poll tells what it has in hand
polled_books : (number : ℕ) (effects : List HistoryEntry) (taken : List Taken) (before : List Telling) (requests : List PendingRequest) (left : ℕ) (finished : List Finished)
    → IsSettled number effects taken before requests finished → IsSettled number effects taken (telling (told.Polled left) finished ∷ before) requests []
polled_books number effects taken before requests left finished books = record {
  replies = λ such.
      let was = books.replies such in
      let both = number_append such (done_by_poll finished) (done_told before) in
      omega (arith, was, both);
  own = books.own;
  waiting = books.waiting;
}

turn_told : (k : Seat) (effects : List HistoryEntry) (taken : List Taken) (called : Option Op) (n : ℕ) (before : List Telling) (s : SessionState) (its : Told) (now : List Taken)
    → taken_after (s.serial == n) s.serial called taken ≡ now → IsSettled k.number (with_effect s.effect effects) now (telling its s.finished ∷ before) s.requests []
    → IsToldAfter k effects taken called n before (answers_after_turn s its)
turn_told k effects taken called n before s its now e books =
    either_told s.wants_turn k effects taken called n before _ (answers s its)
    (rw e (record { settled_ones = with_effect s.effect effects; its_effects = refl; books = books; knows = tt }))
    (rw e (record { settled_ones = with_effect s.effect effects; its_effects = refl; books = books; knows = tt }))

none_coming : (number : ℕ) (a : AttemptState) → made_of a ≡ None → entry_made number a (made_of a) ≡ None
none_coming number a e = ap (entry_made number a) e

attempts_told : (k : Seat) (effects : List HistoryEntry) (taken : List Taken) (called : Option Op) (before : List Telling) (s : SessionState) (has_shifted : Bool) → called ≡ Some s.op
    → IsSettled k.number (with_effect s.effect effects) taken before s.requests [] → IsToldAfter k effects taken called s.serial before (attempts k s has_shifted)
unfolding attempts
attempts_told k effects taken called before s has_shifted op books =
    let same = begun_same k.places (bits_of k) (request_in_hand s) s.seen (AtCall (bounds_of k.shape)) s.spare s.is_orphaned in
    let begun = begun_so k.places (bits_of k) (request_in_hand s) s.seen (AtCall (bounds_of k.shape)) s.spare s.is_orphaned in
    let none = begun_nothing k.places (bits_of k) (request_in_hand s) s.seen (AtCall (bounds_of k.shape)) s.spare s.is_orphaned in
    let rests = attempt_begun_rests k.places (bits_of k) (request_in_hand s) s.seen (AtCall (bounds_of k.shape)) s.spare s.is_orphaned in
    let begins : AttemptState = attempt_begun k.places (bits_of k) (request_in_hand s) s.seen (AtCall (bounds_of k.shape)) s.spare s.is_orphaned in
    calm k effects taken called before _ (Attempts has_shifted) refl (none_coming k.number begins none)
    (record { called_so = op; name = same.name; op = same.op; under_way = record { rests = rests; knows = begun.knows } }) books

polls_found : (k : Seat) (effects : List HistoryEntry) (taken : List Taken) (called : Option Op) (before : List Telling) (s : SessionState) (i : ℕ) (found : Option PendingRequest) → slice_get s.requests i ≡ found
    → IsSettled k.number (with_effect s.effect effects) taken before s.requests s.finished → IsToldAfter k effects taken called s.serial before (polls_request k s i found)
polls_found k effects taken called before s i None got books =
    turn_told k effects taken called s.serial before s (told.Polled (length s.requests)) taken (same_taken s.serial called taken)
    (polled_books k.number (with_effect s.effect effects) taken before s.requests (length s.requests) s.finished books)
polls_found k effects taken called before s i (Some pending) got books =
    let same = begun_same k.places (bits_of k) pending s.seen AtPoll s.spare s.is_orphaned in
    let begun = begun_so k.places (bits_of k) pending s.seen AtPoll s.spare s.is_orphaned in
    let none = begun_nothing k.places (bits_of k) pending s.seen AtPoll s.spare s.is_orphaned in
    let rests = attempt_begun_rests k.places (bits_of k) pending s.seen AtPoll s.spare s.is_orphaned in
    let name = name_at taken s.requests i pending got books.waiting in
    let begins : AttemptState = attempt_begun k.places (bits_of k) pending s.seen AtPoll s.spare s.is_orphaned in
    calm k effects taken called before _ (Polls i) refl (none_coming k.number begins none)
    (record { name = same_name taken begins.pending pending same name; under_way = record { rests = rests; knows = begun.knows } }) books

polls_told : (k : Seat) (effects : List HistoryEntry) (taken : List Taken) (called : Option Op) (before : List Telling) (s : SessionState) (i : ℕ)
    → IsSettled k.number (with_effect s.effect effects) taken before s.requests s.finished → IsToldAfter k effects taken called s.serial before (polls_at k s i)
unfolding polls_at
polls_told k effects taken called before s i books = polls_found k effects taken called before s i (slice_get s.requests i) refl books

-- what an attempt at a call ends with, where it has made nothing
accepts_either : (k : Seat) (effects : List HistoryEntry) (taken : List Taken) (called : Option Op) (before : List Telling) (s : SessionState) (why : Reason) (c : Bool) → is_read s.op ≡ c
    → IsSettled k.number (with_effect s.effect effects) taken before s.requests [] → called ≡ Some s.op → s.attempt.pending.request.op ≡ s.op
    → s.attempt.pending.name ≡ (if c then Read (record { 0 = ticket_after s.ticket }) else Update (record { 0 = s.serial + 1 }))
    → IsToldAfter k effects taken called s.serial before (if c then answers (with_request (record s { ticket = ticket_after s.ticket })) (told.PendingRead (record { 0 = ticket_after s.ticket }))
    else answers_after_turn (with_request (serial_taken (record s { wants_turn = is_no_room why }))) (told.Pending (record { 0 = s.serial + 1 }) why))
accepts_either k effects taken called before s why true r books op same its =
    let name : IsNameOf taken s.attempt.pending.name s.attempt.pending.request.op = rw its tt in
    plain_told k effects taken called before (with_request (record s { ticket = ticket_after s.ticket })) (told.PendingRead (record { 0 = ticket_after s.ticket })) tt
    (record { replies = books.replies; own = books.own; waiting = names_append taken s.requests s.attempt.pending books.waiting name })
accepts_either k effects taken called before s why false r books op same its =
    let it : Taken = record { serial = s.serial + 1; op = s.op } in
    let name : IsNameOf (it ∷ taken) s.attempt.pending.name s.attempt.pending.request.op = rw its (rw same (r, inl (refl, refl))) in
    turn_told k effects taken called s.serial before (with_request (serial_taken (record s { wants_turn = is_no_room why }))) (told.Pending (record { 0 = s.serial + 1 }) why) (it ∷ taken)
    (ap (λ (o : Option Op). taken_after (s.serial + 1 == s.serial) (s.serial + 1) o taken) op ∙ next_taken s.serial s.op taken)
    (record {
      replies = books.replies;
      own = more_own k.number taken it (with_effect s.effect effects) books.own;
      waiting = names_append (it ∷ taken) s.requests s.attempt.pending (more_names taken it s.requests books.waiting) name;
    })

accepts_told : (k : Seat) (effects : List HistoryEntry) (taken : List Taken) (called : Option Op) (before : List Telling) (s : SessionState) (why : Reason) → IsCallOf called s
    → IsSettled k.number (with_effect s.effect effects) taken before s.requests [] → IsToldAfter k effects taken called s.serial before (accepts s why)
unfolding accepts
accepts_told k effects taken called before s why its books = accepts_either k effects taken called before s why (is_read s.op) refl books its.called_so its.op its.name

shifts_told : (k : Seat) (effects : List HistoryEntry) (taken : List Taken) (called : Option Op) (before : List Telling) (s : SessionState) (has_shifted : Bool) → IsCallOf called s
    → IsSettled k.number (with_effect s.effect effects) taken before s.requests [] → IsToldAfter k effects taken called s.serial before (shifts s has_shifted)
unfolding shifts
shifts_told k effects taken called before s false its books = calm k effects taken called before _ (CatchesUp Shifts) refl refl its.called_so books
shifts_told k effects taken called before s true its books = accepts_told k effects taken called before s reason.Contended its books

-- an update is done at its call: what its attempt has made is answered
done_either : (k : Seat) (effects : List HistoryEntry) (taken : List Taken) (called : Option Op) (before : List Telling) (s : SessionState) (reply : Reply) (c : Bool) (ones : List HistoryEntry) → is_read s.op ≡ c
    → with_effect s.effect effects ≡ with_effect (entry_made k.number s.attempt (Some reply)) ones → IsSettled k.number ones taken before s.requests [] → called ≡ Some s.op → s.attempt.pending.request.op ≡ s.op
    → s.attempt.pending.name ≡ (if c then Read (record { 0 = ticket_after s.ticket }) else Update (record { 0 = s.serial + 1 }))
    → IsToldAfter k effects taken called s.serial before (if c then answers s told.Absent else update_done s reply)
done_either k effects taken called before s reply true ones r parts books op same its =
    let none : entry_made k.number s.attempt (Some reply) ≡ None = ap (λ (name : RequestName). entry_of k.number s.attempt.pending name (Some reply)) its in
    let all : with_effect s.effect effects ≡ ones = parts ∙ ap (λ (o : Option HistoryEntry). with_effect o ones) none in
    plain_told k effects taken called before s told.Absent tt (subst (λ (x : List HistoryEntry). IsSettled k.number x taken before s.requests []) (sym all) books)
done_either k effects taken called before s reply false ones r parts books op same its =
    let it : Taken = record { serial = s.serial + 1; op = s.op } in
    let entry : HistoryEntry = record { session = k.number; serial = record { 0 = s.serial + 1 }; op = s.attempt.pending.request.op; reply = reply } in
    let made : entry_made k.number s.attempt (Some reply) ≡ Some entry = ap (λ (name : RequestName). entry_of k.number s.attempt.pending name (Some reply)) its in
    let all : with_effect s.effect effects ≡ entry ∷ ones = parts ∙ ap (λ (o : Option HistoryEntry). with_effect o ones) made in
    let now : taken_after (s.serial + 1 == s.serial) (s.serial + 1) called taken ≡ it ∷ taken = ap (λ (o : Option Op). taken_after (s.serial + 1 == s.serial) (s.serial + 1) o taken) op ∙ next_taken s.serial s.op taken in
    rw now (record {
      settled_ones = entry ∷ ones;
      its_effects = all;
      books = record {
        replies = λ such.
            let was = books.replies such in
            omega (arith, was);
        own = (record { session = refl; update = ap is_read same ∙ r; op = inl (refl, sym same) }, more_own k.number taken it ones books.own);
        waiting = more_names taken it s.requests books.waiting;
      };
      knows = tt;
    })

attempted_told : (k : Seat) (effects : List HistoryEntry) (taken : List Taken) (called : Option Op) (before : List Telling) (s : SessionState) (has_shifted : Bool) (its : TryAnswer) (ones : List HistoryEntry)
    → with_effect s.effect effects ≡ with_effect (entry_made k.number s.attempt (reply_of its)) ones → IsSettled k.number ones taken before s.requests [] → IsCallOf called s
    → IsToldAfter k effects taken called s.serial before (attempted s has_shifted its)
attempted_told k effects taken called before s has_shifted (tried.Done reply) ones parts books its = done_either k effects taken called before s reply (is_read s.op) ones refl parts books its.called_so its.op its.name
attempted_told k effects taken called before s has_shifted (tried.Found value) ones parts books its = plain_told k effects taken called before s (told.Found value) tt (none_made k effects taken before s ones parts books)
attempted_told k effects taken called before s has_shifted tried.Absent ones parts books its = plain_told k effects taken called before s told.Absent tt (none_made k effects taken before s ones parts books)
attempted_told k effects taken called before s has_shifted (tried.Wait why) ones parts books its = accepts_told k effects taken called before s why its (none_made k effects taken before s ones parts books)
attempted_told k effects taken called before s has_shifted (tried.AwaitsDisk sought) ones parts books its = accepts_told k effects taken called before s reason.Disk its (none_made k effects taken before s ones parts books)
attempted_told k effects taken called before s has_shifted tried.Shift ones parts books its = shifts_told k effects taken called before s has_shifted its (none_made k effects taken before s ones parts books)
attempted_told k effects taken called before s has_shifted tried.IndexFull ones parts books its = plain_told k effects taken called before s _ tt (none_made k effects taken before s ones parts books)
attempted_told k effects taken called before s has_shifted tried.LogFull ones parts books its = plain_told k effects taken called before s _ tt (none_made k effects taken before s ones parts books)

attempt_told : (k : Seat) (effects : List HistoryEntry) (taken : List Taken) (called : Option Op) (before : List Telling) (s : SessionState) (has_shifted : Bool) (ask : Ask TryAnswer) (ones : List HistoryEntry)
    → s.step ≡ Attempts has_shifted → attempt_ask k.places k.number s.attempt ≡ ask
    → with_effect s.effect effects ≡ with_effect (entry_made k.number s.attempt (made_of s.attempt)) ones → IsSettled k.number ones taken before s.requests [] → IsCallOf called s
    → IsToldAfter k effects taken called s.serial before (attempt_ledto s has_shifted ask)
unfolding attempt_ledto
attempt_told k effects taken called before s has_shifted (Done its) ones e asks parts books in_call =
    let ended = attempt_ends k.places k.number s.attempt its in_call.under_way.rests asks in
    attempted_told k effects taken called before (attempt_left s) has_shifted its ones (parts ∙ ap (λ x. with_effect (entry_made k.number s.attempt (made_in s.attempt x)) ones) ended) books
    (record { called_so = in_call.called_so; name = in_call.name; op = in_call.op; under_way = in_call.under_way })
attempt_told k effects taken called before s has_shifted ask ones e asks parts books in_call =
    still k effects taken called before s (Attempts has_shifted) e (record { settled_ones = ones; its_effects = parts; books = books; knows = in_call })

caught_up_told : (k : Seat) (effects : List HistoryEntry) (taken : List Taken) (called : Option Op) (before : List Telling) (s : SessionState) (cause : CatchCause) → KnowsCall taken called s (CatchesUp cause)
    → IsSettled k.number (with_effect s.effect effects) taken before s.requests [] → IsToldAfter k effects taken called s.serial before (caught_up k s cause)
caught_up_told k effects taken called before s Refreshes knows books = plain_told k effects taken called before s _ tt books
caught_up_told k effects taken called before s Wakes knows books = plain_told k effects taken called before (record s { is_awake = true }) _ tt books
caught_up_told k effects taken called before s Shifts knows books = attempts_told k effects taken called before s true knows books

seen_knows : (taken : List Taken) (called : Option Op) (s t : SessionState) (cause : CatchCause) → s.op ≡ t.op → KnowsCall taken called s (CatchesUp cause) → KnowsCall taken called t (CatchesUp cause)
seen_knows taken called s t Refreshes same knows = tt
seen_knows taken called s t Wakes same knows = tt
seen_knows taken called s t Shifts same knows = knows ∙ ap Some same

catch_told : (k : Seat) (effects : List HistoryEntry) (taken : List Taken) (called : Option Op) (before : List Telling) (s : SessionState) (cause : CatchCause) (ask : Ask (Unit {0})) → s.step ≡ CatchesUp cause
    → KnowsCall taken called s (CatchesUp cause) → IsSettled k.number (with_effect s.effect effects) taken before s.requests [] → IsToldAfter k effects taken called s.serial before (catch_ledto k s cause ask)
unfolding catch_ledto
catch_told k effects taken called before s cause (Done its) e knows books =
    caught_up_told k effects taken called before (record s { seen = s.catching.seen }) cause (seen_knows taken called s (record s { seen = s.catching.seen }) cause refl knows) books
catch_told k effects taken called before s cause ask e knows books = calm k effects taken called before s (CatchesUp cause) e refl knows books

clear_told : (k : Seat) (effects : List HistoryEntry) (taken : List Taken) (called : Option Op) (before : List Telling) (s : SessionState) (ask : Ask MailAnswer) → s.step ≡ ClearsMail
    → IsSettled k.number (with_effect s.effect effects) taken before s.requests s.finished → IsToldAfter k effects taken called s.serial before (clear_ledto k s ask)
unfolding clear_ledto
clear_told k effects taken called before s (Done Cleared) e books = polls_told k effects taken called before (record s { is_orphaned = false }) 0 books
clear_told k effects taken called before s (Done its) e books = polls_told k effects taken called before s 0 books
clear_told k effects taken called before s ask e books = calm k effects taken called before s ClearsMail e refl tt books

-- a poll tells what its attempt has made
by_poll_append : (xs ys : List Finished) → done_by_poll (xs ++ ys) ≡ done_by_poll xs ++ done_by_poll ys
by_poll_append [] ys = refl
by_poll_append (finished.Update serial reply ∷ rest) ys = ap (λ (its : List law.UpdateDone). record { serial = serial; reply = reply } ∷ its) (by_poll_append rest ys)
by_poll_append (finished.Read ticket value ∷ rest) ys = by_poll_append rest ys

-- as many of these are such as are told
abbrev pub TellsMade : List HistoryEntry → List Finished → Type 0
TellsMade effects told = (such : law.UpdateDone → Bool) → number_of such (map done_by effects) ≡ number_of such (done_by_poll told)

more_books : (number : ℕ) (made : Option HistoryEntry) (ones : List HistoryEntry) (taken : List Taken) (before : List Telling) (requests : List PendingRequest) (finished more : List Finished)
    → TellsMade (with_effect made []) more → AreOfTaken number taken (with_effect made []) → IsSettled number ones taken before requests finished → IsSettled number (with_effect made ones) taken before requests (finished ++ more)
more_books number None ones taken before requests finished more tells own books = record {
  replies = λ such.
      let was = books.replies such in
      let none = tells such in
      let both = number_append such (done_by_poll finished) (done_by_poll more) in
      let parted : number_of such (done_by_poll (finished ++ more)) ≡ number_of such (done_by_poll finished ++ done_by_poll more) = ap (number_of such) (by_poll_append finished more) in
      omega (arith, was, none, both, parted);
  own = books.own;
  waiting = books.waiting;
}
more_books number (Some entry) ones taken before requests finished more tells own books = record {
  replies = λ such.
      let was = books.replies such in
      let one = tells such in
      let both = number_append such (done_by_poll finished) (done_by_poll more) in
      let parted : number_of such (done_by_poll (finished ++ more)) ≡ number_of such (done_by_poll finished ++ done_by_poll more) = ap (number_of such) (by_poll_append finished more) in
      omega (arith, was, one, both, parted);
  own = (own.0, books.own);
  waiting = books.waiting;
}

finished_tells : (number : ℕ) (pending : PendingRequest) (name : RequestName) (its : TryAnswer) → is_finished its ≡ true → (taken : List Taken) → IsNameOf taken name pending.request.op → (is_read pending.request.op ≡ false → IsUpdateEnd its)
    → TellsMade (with_effect (entry_of number pending name (reply_of its)) []) (finished_of name its ∷ []) × AreOfTaken number taken (with_effect (entry_of number pending name (reply_of its)) [])
finished_tells number pending (Update serial) (tried.Done reply) f taken name ends = (λ such. refl, (record { session = refl; update = name.0; op = name.1 }, tt))
finished_tells number pending (Update serial) (tried.Found value) f taken name ends = absurd (ends name.0)
finished_tells number pending (Update serial) tried.Absent f taken name ends = absurd (ends name.0)
finished_tells number pending (Update serial) its f taken name ends = cc
finished_tells number pending (Read ticket) (tried.Found value) f taken name ends = (λ such. refl, tt)
finished_tells number pending (Read ticket) (tried.Done reply) f taken name ends = (λ such. refl, tt)
finished_tells number pending (Read ticket) its f taken name ends = (λ such. refl, tt)

finishes_told : (k : Seat) (effects : List HistoryEntry) (taken : List Taken) (called : Option Op) (before : List Telling) (s : SessionState) (i : ℕ) (its : TryAnswer) (ones : List HistoryEntry) → is_finished its ≡ true
    → with_effect s.effect effects ≡ with_effect (entry_made k.number s.attempt (reply_of its)) ones → IsSettled k.number ones taken before s.requests s.finished → IsNameOf taken s.attempt.pending.name s.attempt.pending.request.op
    → (is_read s.attempt.pending.request.op ≡ false → IsUpdateEnd its) → IsToldAfter k effects taken called s.serial before (finishes_request k s i its)
unfolding finishes_request
finishes_told k effects taken called before s i its ones f parts books name ends =
    let tells = finished_tells k.number s.attempt.pending s.attempt.pending.name its f taken name ends in
    let all = more_books k.number (entry_made k.number s.attempt (reply_of its)) ones taken before s.requests s.finished (finished_of s.attempt.pending.name its ∷ []) tells.0 tells.1 books in
    let more : IsSettled k.number (with_effect s.effect effects) taken before s.requests (s.finished ++ finished_of s.attempt.pending.name its ∷ []) = subst (λ (x : List HistoryEntry). IsSettled k.number x taken before s.requests (s.finished ++ finished_of s.attempt.pending.name its ∷ [])) (sym parts) all in
    let after : IsSettled k.number (with_effect s.effect effects) taken before (remove s.requests i) (s.finished ++ finished_of s.attempt.pending.name its ∷ []) = record { replies = more.replies; own = more.own; waiting = names_removed taken s.requests i more.waiting } in
    either_told (is_owed s) k effects taken called s.serial before (request_finished s i its) (polls_at k (request_finished s i its) i)
    (calm k effects taken called before (request_finished s i its) (StoresOwing i) refl refl tt after)
    (polls_told k effects taken called before (request_finished s i its) i after)

no_reply : (its : TryAnswer) → is_finished its ≡ false → reply_of its ≡ None
no_reply (tried.Done reply) f = cc
no_reply its f = refl

keeps_told : (k : Seat) (effects : List HistoryEntry) (taken : List Taken) (called : Option Op) (before : List Telling) (s : SessionState) (i : ℕ) (its : TryAnswer)
    → IsSettled k.number (with_effect s.effect effects) taken before s.requests s.finished → IsNameOf taken s.attempt.pending.name s.attempt.pending.request.op
    → IsToldAfter k effects taken called s.serial before (keeps_request k s i its)
unfolding keeps_request
keeps_told k effects taken called before s i its books name =
    polls_told k effects taken called before _ (i + 1) (record { replies = books.replies; own = books.own; waiting = names_set taken s.requests i s.attempt.pending books.waiting name })

ended_poll : (k : Seat) (effects : List HistoryEntry) (taken : List Taken) (called : Option Op) (before : List Telling) (s : SessionState) (i : ℕ) (its : TryAnswer) (ones : List HistoryEntry) (c : Bool) → is_finished its ≡ c
    → with_effect s.effect effects ≡ with_effect (entry_made k.number s.attempt (reply_of its)) ones → IsSettled k.number ones taken before s.requests s.finished → IsNameOf taken s.attempt.pending.name s.attempt.pending.request.op
    → (is_read s.attempt.pending.request.op ≡ false → IsUpdateEnd its) → IsToldAfter k effects taken called s.serial before (if c then finishes_request k s i its else keeps_request k s i its)
ended_poll k effects taken called before s i its ones true f parts books name ends = finishes_told k effects taken called before s i its ones f parts books name ends
ended_poll k effects taken called before s i its ones false f parts books name ends =
    let none : entry_made k.number s.attempt (reply_of its) ≡ None = ap (entry_made k.number s.attempt) (no_reply its f) in
    let all : with_effect s.effect effects ≡ ones = parts ∙ ap (λ (o : Option HistoryEntry). with_effect o ones) none in
    keeps_told k effects taken called before s i its (subst (λ (x : List HistoryEntry). IsSettled k.number x taken before s.requests s.finished) (sym all) books) name

poll_told : (k : Seat) (effects : List HistoryEntry) (taken : List Taken) (called : Option Op) (before : List Telling) (s : SessionState) (i : ℕ) (ask : Ask TryAnswer) (ones : List HistoryEntry)
    → s.step ≡ Polls i → attempt_ask k.places k.number s.attempt ≡ ask
    → with_effect s.effect effects ≡ with_effect (entry_made k.number s.attempt (made_of s.attempt)) ones → IsSettled k.number ones taken before s.requests s.finished → IsPollOf taken s
    → IsToldAfter k effects taken called s.serial before (poll_ledto k s i ask)
unfolding poll_ledto
poll_told k effects taken called before s i (Done its) ones e asks parts books in_poll =
    let ended = attempt_ends k.places k.number s.attempt its in_poll.under_way.rests asks in
    ended_poll k effects taken called before (poll_left s) i its ones (is_finished its) refl (parts ∙ ap (λ x. with_effect (entry_made k.number s.attempt (made_in s.attempt x)) ones) ended) books in_poll.name
    (λ update. subst (λ x. KnowsUpdate s.attempt x) ended (in_poll.under_way.knows update))
poll_told k effects taken called before s i ask ones e asks parts books in_poll =
    still k effects taken called before s (Polls i) e (record { settled_ones = ones; its_effects = parts; books = books; knows = in_poll })

turned_told : (k : Seat) (effects : List HistoryEntry) (taken : List Taken) (called : Option Op) (before : List Telling) (s : SessionState) (its : Told) (ask : Ask (Unit {0})) → s.step ≡ Turns its
    → IsSettled k.number (with_effect s.effect effects) taken (telling its s.finished ∷ before) s.requests [] → IsToldAfter k effects taken called s.serial before (turn_ledto s its ask)
unfolding turn_ledto
turned_told k effects taken called before s its (Done through) e books = calm k effects taken called before _ (Idle its) refl refl tt books
turned_told k effects taken called before s its ask e books = calm k effects taken called before s (Turns its) e refl tt books

left_told : (k : Seat) (effects : List HistoryEntry) (taken : List Taken) (called : Option Op) (before : List Telling) (s : SessionState) (ask : Ask (Unit {0})) → s.step ≡ Leaves
    → IsSettled k.number (with_effect s.effect effects) taken before s.requests [] → IsToldAfter k effects taken called s.serial before (leave_ledto s ask)
unfolding leave_ledto
left_told k effects taken called before s (Done its) e books = plain_told k effects taken called before (record s { is_awake = false }) told.Slept tt books
left_told k effects taken called before s ask e books = calm k effects taken called before s Leaves e refl tt books

-- a reply to the attempt in hand
entry_op : (number : ℕ) (p q : PendingRequest) (name : RequestName) (its : Option Reply) → p.request.op ≡ q.request.op → entry_of number p name its ≡ entry_of number q name its
entry_op number p q name None same = refl
entry_op number p q (Update serial) (Some its) same = ap (λ (op : Op). Some (record { session = number; serial = serial; op = op; reply = its })) same
entry_op number p q (Read ticket) (Some its) same = refl

entry_same : (number : ℕ) (p q : PendingRequest) (its : Option Reply) → IsSameRequest p q → entry_of number p p.name its ≡ entry_of number q q.name its
entry_same number p q its same = ap (λ (name : RequestName). entry_of number p name its) same.name ∙ entry_op number p q q.name its same.op

moved_effects : (number : ℕ) (p q : PendingRequest) (step made before : Option Reply) (effects ones : List HistoryEntry) → IsSameRequest p q → MadeFrom step made before
    → effects ≡ with_effect (entry_of number q q.name before) ones → with_effect (entry_of number p p.name step) effects ≡ with_effect (entry_of number p p.name made) ones
moved_effects number p q None made before effects ones same its parts =
    parts ∙ ap (λ o. with_effect o ones) (sym (entry_same number p q before same) ∙ ap (entry_of number p p.name) (sym its))
moved_effects number p q (Some reply) made before effects ones same its parts =
    let none : entry_of number q q.name before ≡ None = ap (entry_of number q q.name) its.1 in
    let all : effects ≡ ones = parts ∙ ap (λ o. with_effect o ones) none in
    ap (with_effect (entry_of number p p.name (Some reply))) all ∙ ap (λ o. with_effect (entry_of number p p.name o) ones) (sym its.0)

moved_under_way : (k : Seat) (s : SessionState) (reply : ℕ) → IsUnderWay s.attempt → IsUnderWay (attempt_moved k s reply).attempt
moved_under_way k s reply its = record {
  rests = attempt_rests k.places (bits_of k) (room_of k) k.number s.attempt reply its.rests;
  knows = (attempt_so k.places (bits_of k) (room_of k) k.number s.attempt reply its.knows).knows;
}

moved_parts : (k : Seat) (s : SessionState) (reply : ℕ) (effects ones : List HistoryEntry) → IsUnderWay s.attempt → effects ≡ with_effect (entry_made k.number s.attempt (made_of s.attempt)) ones
    → with_effect (attempt_moved k s reply).effect effects ≡ with_effect (entry_made k.number (attempt_moved k s reply).attempt (made_of (attempt_moved k s reply).attempt)) ones
moved_parts k s reply effects ones its parts =
    moved_effects k.number (attempt_moved k s reply).attempt.pending s.attempt.pending _ _ (made_of s.attempt) effects ones (attempt_keeps k.places (bits_of k) (room_of k) k.number s.attempt reply)
    (attempt_so k.places (bits_of k) (room_of k) k.number s.attempt reply its.knows).made parts

-- what holds where no attempt is in hand
at_rest : (k : Seat) (effects : List HistoryEntry) (taken : List Taken) (called : Option Op) (before : List Telling) (s : SessionState) (step : Sitting) → effect_coming k s step ≡ None
    → IsTold k effects taken called before s step → IsSettled k.number effects taken before s.requests (in_hand step s.finished)
at_rest k effects taken called before s step none its =
    subst (λ (x : List HistoryEntry). IsSettled k.number x taken before s.requests (in_hand step s.finished)) (sym (its.its_effects ∙ ap (λ o. with_effect o its.settled_ones) none)) its.books

none_books : (k : Seat) (effects : List HistoryEntry) (taken : List Taken) (before : List Telling) (s : SessionState) (finished : List Finished) → s.effect ≡ None → IsSettled k.number effects taken before s.requests finished
    → IsSettled k.number (with_effect s.effect effects) taken before s.requests finished
none_books k effects taken before s finished none books = subst (λ (o : Option HistoryEntry). IsSettled k.number (with_effect o effects) taken before s.requests finished) (sym none) books

next_told : (k : Seat) (effects : List HistoryEntry) (taken : List Taken) (called : Option Op) (before : List Telling) (s : SessionState) (step : Sitting) (reply : ℕ) → s.step ≡ step → is_busy step ≡ true → s.effect ≡ None
    → IsTold k effects taken called (with_coming step s.finished before) s step → IsToldAfter k effects taken called s.serial before (sitting_next k s step reply)
unfolding sitting_next
next_told k effects taken called before s (Idle its) reply e busy none held = cc
next_told k effects taken called before s (Attempts has_shifted) reply e busy none held =
    let same = attempt_keeps k.places (bits_of k) (room_of k) k.number s.attempt reply in
    attempt_told k effects taken called before (attempt_moved k s reply) has_shifted _ held.settled_ones e refl (moved_parts k s reply effects held.settled_ones held.knows.under_way held.its_effects) held.books
    (record { called_so = held.knows.called_so; name = same.name ∙ held.knows.name; op = same.op ∙ held.knows.op; under_way = moved_under_way k s reply held.knows.under_way })
next_told k effects taken called before s (CatchesUp cause) reply e busy none held =
    let books = at_rest k effects taken called before s (CatchesUp cause) refl held in
    let all = none_books k effects taken before s [] none books in
    catch_told k effects taken called before (caught k s reply) cause _ e (seen_knows taken called s (caught k s reply) cause refl held.knows)
    (record { replies = all.replies; own = all.own; waiting = caught_names taken s.catching s.requests s.catching.step reply all.waiting })
next_told k effects taken called before s ClearsMail reply e busy none held = clear_told k effects taken called before (record s { mailing = mail_next s.mailing reply }) _ e (none_books k effects taken _ s _ none (at_rest k effects taken called before s ClearsMail refl held))
next_told k effects taken called before s (Polls i) reply e busy none held =
    let same = attempt_keeps k.places (bits_of k) (room_of k) k.number s.attempt reply in
    poll_told k effects taken called before (attempt_moved k s reply) i _ held.settled_ones e refl (moved_parts k s reply effects held.settled_ones held.knows.under_way held.its_effects) held.books
    (record { name = same_name taken _ _ same held.knows.name; under_way = moved_under_way k s reply held.knows.under_way })
next_told k effects taken called before s (StoresOwing i) reply e busy none held = polls_told k effects taken called before s i (none_books k effects taken _ s _ none (at_rest k effects taken called before s (StoresOwing i) refl held))
next_told k effects taken called before s (Turns its) reply e busy none held = turned_told k effects taken called before (own_turn_moved k s reply) its _ e (none_books k effects taken _ s _ none (at_rest k effects taken called _ s (Turns its) refl held))
next_told k effects taken called before s StoresCut reply e busy none held = calm k effects taken called before _ Leaves refl refl tt (none_books k effects taken _ s _ none (at_rest k effects taken called before s StoresCut refl held))
next_told k effects taken called before s Leaves reply e busy none held = left_told k effects taken called before (record s { leaving = leave_next s.leaving }) _ e (none_books k effects taken _ s _ none (at_rest k effects taken called before s Leaves refl held))
next_told k effects taken called before s LoadsDurable reply e busy none held = plain_told k effects taken called before s _ tt (none_books k effects taken _ s _ none (at_rest k effects taken called before s LoadsDurable refl held))

-- a call that begins
begun_told : (k : Seat) (effects : List HistoryEntry) (taken : List Taken) (called : Option Op) (before : List Telling) (s : SessionState) (op : Op) (why : Option Fault) → called ≡ Some op
    → IsSettled k.number (with_effect s.effect effects) taken before s.requests [] → IsToldAfter k effects taken called s.serial before (op_begun k s op why)
unfolding op_begun
begun_told k effects taken called before s op (Some why) its books = plain_told k effects taken called before s _ tt books
begun_told k effects taken called before s op None its books = attempts_told k effects taken called before (record s { op = op }) false its books

clears_told : (k : Seat) (effects : List HistoryEntry) (taken : List Taken) (called : Option Op) (before : List Telling) (s : SessionState) → IsSettled k.number (with_effect s.effect effects) taken before s.requests s.finished
    → IsToldAfter k effects taken called s.serial before (poll_begun k s)
clears_told k effects taken called before s books =
    either_told s.is_orphaned k effects taken called s.serial before _ (polls_at k s 0) (calm k effects taken called before _ ClearsMail refl refl tt books) (polls_told k effects taken called before s 0 books)

call_told : (k : Seat) (effects : List HistoryEntry) (taken : List Taken) (called : Option Op) (before : List Telling) (s : SessionState) (its : Call) → IsSettled k.number (with_effect s.effect effects) taken before s.requests []
    → IsToldAfter k effects taken (law.op_begun false its called) s.serial before (call_begun k s its)
unfolding refresh_call poll_call sleep_call wake_call
call_told k effects taken called before s (call.Op op) books = begun_told k effects taken (Some op) before s op (refusal_of s op) refl books
call_told k effects taken called before s call.Refresh books =
    either_told s.is_awake k effects taken None s.serial before _ _ (calm k effects taken None before _ (CatchesUp Refreshes) refl refl tt books) (plain_told k effects taken None before s _ tt books)
call_told k effects taken called before s call.Poll books =
    either_told s.is_awake k effects taken None s.serial before _ _ (clears_told k effects taken None before (record s { finished = [] }) (record { replies = books.replies; own = books.own; waiting = books.waiting })) (plain_told k effects taken None before s _ tt books)
call_told k effects taken called before s call.Sleep books =
    either_told (not s.is_awake) k effects taken None s.serial before _ _ (plain_told k effects taken None before s _ tt books)
    (either_told (length s.requests == 0) k effects taken None s.serial before _ _ (calm k effects taken None before _ StoresCut refl refl tt books) (plain_told k effects taken None before s _ tt books))
call_told k effects taken called before s call.Wake books =
    either_told s.is_awake k effects taken None s.serial before _ _ (plain_told k effects taken None before s _ tt books) (calm k effects taken None before _ (CatchesUp Wakes) refl refl tt books)
call_told k effects taken called before s call.Durable books = calm k effects taken None before _ LoadsDurable refl refl tt books

-- an event
abbrev pub IsToldNow : Seat → List HistoryEntry → List Taken → Option Op → List Telling → SessionState → Type 0
IsToldNow k effects taken called before s = IsTold k effects taken called (with_coming s.step s.finished before) s s.step

settles : (step : Sitting) (finished : List Finished) (before : List Telling) → with_coming step finished (answered step finished before) ≡ settled step finished before
settles (Idle its) finished before = refl
settles (Turns its) finished before = refl
settles step finished before = refl

now_told : (k : Seat) (effects : List HistoryEntry) (taken : List Taken) (called : Option Op) (n : ℕ) (before : List Telling) (s : SessionState) → IsToldAfter k effects taken called n before s
    → IsToldNow k (with_effect s.effect effects) (taken_after (s.serial == n) s.serial called taken) called (answered s.step s.finished before) s
now_told k effects taken called n before s its =
    subst (λ (all : List Telling). IsTold k (with_effect s.effect effects) (taken_after (s.serial == n) s.serial called taken) called all s s.step) (sym (settles s.step s.finished before)) its

idle_hand : (step : Sitting) (finished : List Finished) → is_busy step ≡ false → in_hand step finished ≡ []
idle_hand (Idle its) finished idle = refl
idle_hand step finished idle = cc

idle_coming : (step : Sitting) (finished : List Finished) (before : List Telling) → is_busy step ≡ false → with_coming step finished before ≡ before
idle_coming (Idle its) finished before idle = refl
idle_coming step finished before idle = cc

pub idle_none : (k : Seat) (s : SessionState) (step : Sitting) → is_busy step ≡ false → effect_coming k s step ≡ None
idle_none k s (Idle its) idle = refl
idle_none k s step idle = cc

same_now : (k : Seat) (effects : List HistoryEntry) (taken : List Taken) (called : Option Op) (before : List Telling) (s : SessionState) → IsToldNow k effects taken called before s
    → IsToldNow k effects (taken_after (s.serial == s.serial) s.serial called taken) called before s
same_now k effects taken called before s its = rw (same_taken s.serial called taken) its

-- a call that begins tells no effect
either_effect : (c : Bool) (a b : SessionState) (its : Option HistoryEntry) → a.effect ≡ its → b.effect ≡ its → (if c then a else b).effect ≡ its
either_effect true a b its one other = one
either_effect false a b its one other = other

found_effect : (k : Seat) (s : SessionState) (i : ℕ) (found : Option PendingRequest) → (polls_request k s i found).effect ≡ s.effect
found_effect k s i None = either_effect s.wants_turn _ (answers s _) s.effect refl refl
found_effect k s i (Some pending) = refl

polls_effect : (k : Seat) (s : SessionState) (i : ℕ) → (polls_at k s i).effect ≡ s.effect
unfolding polls_at
polls_effect k s i = found_effect k s i (slice_get s.requests i)

op_effect : (k : Seat) (s : SessionState) (op : Op) (why : Option Fault) → (op_begun k s op why).effect ≡ s.effect
unfolding op_begun attempts
op_effect k s op (Some why) = refl
op_effect k s op None = refl

call_effect : (k : Seat) (s : SessionState) (its : Call) → (call_begun k s its).effect ≡ s.effect
unfolding refresh_call poll_call sleep_call wake_call
call_effect k s (call.Op op) = op_effect k s op (refusal_of s op)
call_effect k s call.Refresh = either_effect s.is_awake _ _ s.effect refl refl
call_effect k s call.Poll = either_effect s.is_awake _ _ s.effect (either_effect s.is_orphaned _ (polls_at k (record s { finished = [] }) 0) s.effect refl (polls_effect k (record s { finished = [] }) 0)) refl
call_effect k s call.Sleep = either_effect (not s.is_awake) _ _ s.effect refl (either_effect (length s.requests == 0) _ _ s.effect refl refl)
call_effect k s call.Wake = either_effect s.is_awake _ _ s.effect refl refl
call_effect k s call.Durable = refl

begins_now : (k : Seat) (effects : List HistoryEntry) (taken : List Taken) (called : Option Op) (before : List Telling) (s : SessionState) (its : Call) (busy : Bool) → is_busy s.step ≡ busy → IsToldNow k effects taken called before s
    → IsToldNow k effects (taken_after ((begins k s busy its).serial == s.serial) (begins k s busy its).serial (law.op_begun busy its called) taken) (law.op_begun busy its called)
    (told_after (if busy then false else true) (begins k s busy its) before) (begins k s busy its)
begins_now k effects taken called before s its true e held = same_now k effects taken called before s held
begins_now k effects taken called before s its false e held =
    let rest = at_rest k effects taken called (with_coming s.step s.finished before) s s.step (idle_none k s s.step e) held in
    let told_so = subst (λ (all : List Telling). IsSettled k.number effects taken all s.requests (in_hand s.step s.finished)) (idle_coming s.step s.finished before e) rest in
    let books : IsSettled k.number effects taken before s.requests [] = subst (λ (its : List Finished). IsSettled k.number effects taken before s.requests its) (idle_hand s.step s.finished e) told_so in
    let begun : SessionState = record s { asks = 0; effect = None; wants_turn = false } in
    let after = call_told k effects taken called before begun its (record { replies = books.replies; own = books.own; waiting = books.waiting }) in
    let now = now_told k effects taken (law.op_begun false its called) s.serial before (session_begun k s its) after in
    subst (λ (o : Option HistoryEntry). IsToldNow k (with_effect o effects) (taken_after ((session_begun k s its).serial == s.serial) (session_begun k s its).serial (law.op_begun false its called) taken) (law.op_begun false its called)
    (answered (session_begun k s its).step (session_begun k s its).finished before) (session_begun k s its)) (call_effect k begun its) now

next_now : (k : Seat) (effects : List HistoryEntry) (taken : List Taken) (called : Option Op) (before : List Telling) (s : SessionState) (step : Sitting) (reply : ℕ) (busy : Bool) → s.step ≡ step → is_busy step ≡ busy → s.effect ≡ None
    → IsTold k effects taken called (with_coming step s.finished before) s step
    → IsToldNow k (with_effect (sitting_next k s step reply).effect effects) (taken_after ((sitting_next k s step reply).serial == s.serial) (sitting_next k s step reply).serial called taken) called
    (told_after busy (sitting_next k s step reply) before) (sitting_next k s step reply)
unfolding sitting_next
next_now k effects taken called before s step reply true e busy none held = now_told k effects taken called s.serial before (sitting_next k s step reply) (next_told k effects taken called before s step reply e busy none held)
next_now k effects taken called before s (Idle its) reply false e busy none held =
    let now = same_now k effects taken called before s (subst (λ (x : Sitting). IsTold k effects taken called (with_coming x s.finished before) s x) (sym e) held) in
    subst (λ (o : Option HistoryEntry). IsToldNow k (with_effect o effects) (taken_after (s.serial == s.serial) s.serial called taken) called before s) (sym none) now
next_now k effects taken called before s step reply false e busy none held = cc

-- a step that leaves the session as it is
still_now : (k : Seat) (effects : List HistoryEntry) (taken : List Taken) (called : Option Op) (before : List Telling) (s : SessionState) (step : Sitting) → s.step ≡ step
    → IsTold k effects taken called (with_coming step s.finished (answered step s.finished before)) s step → IsToldNow k effects (taken_after (s.serial == s.serial) s.serial called taken) called (answered s.step s.finished before) s
still_now k effects taken called before s step e held =
    same_now k effects taken called (answered s.step s.finished before) s (subst (λ (x : Sitting). IsTold k effects taken called (with_coming x s.finished (answered x s.finished before)) s x) (sym e) held)

-- an action tells no effect
given_turn : (k : Seat) (effects : List HistoryEntry) (taken : List Taken) (called : Option Op) (before : List Telling) (s : SessionState) (its : Told) (ask : Ask (Unit {0})) → s.step ≡ Turns its
    → IsSettled k.number effects taken (telling its s.finished ∷ before) s.requests []
    → IsToldNow k effects (taken_after ((turn_ledto s its ask).serial == s.serial) (turn_ledto s its ask).serial called taken) called (told_after true (turn_ledto s its ask) before) (turn_ledto s its ask)
unfolding turn_ledto
given_turn k effects taken called before s its (Done through) e books = rw (same_taken s.serial called taken) (record { settled_ones = effects; its_effects = refl; books = books; knows = tt })
given_turn k effects taken called before s its ask e books = still_now k effects taken called before s (Turns its) e (record { settled_ones = effects; its_effects = refl; books = books; knows = tt })

given_now : (k : Seat) (effects : List HistoryEntry) (taken : List Taken) (called : Option Op) (before : List Telling) (s : SessionState) (step : Sitting) (action : Action) → s.step ≡ step
    → IsTold k effects taken called (with_coming step s.finished before) s step
    → IsToldNow k effects (taken_after ((sitting_given k s step action).serial == s.serial) (sitting_given k s step action).serial called taken) called (told_after (is_busy step) (sitting_given k s step action) before) (sitting_given k s step action)
unfolding sitting_given
given_now k effects taken called before s (Turns its) action e held = given_turn k effects taken called before (record s { own_turn = own_turn_given s.own_turn action }) its _ e (at_rest k effects taken called _ s (Turns its) refl held)
given_now k effects taken called before s (Idle its) action e held = same_now k effects taken called before s (subst (λ (x : Sitting). IsTold k effects taken called (with_coming x s.finished before) s x) (sym e) held)
given_now k effects taken called before s (Attempts has_shifted) action e held = still_now k effects taken called before s (Attempts has_shifted) e held
given_now k effects taken called before s (CatchesUp cause) action e held = still_now k effects taken called before s (CatchesUp cause) e held
given_now k effects taken called before s ClearsMail action e held = still_now k effects taken called before s ClearsMail e held
given_now k effects taken called before s (Polls i) action e held = still_now k effects taken called before s (Polls i) e held
given_now k effects taken called before s (StoresOwing i) action e held = still_now k effects taken called before s (StoresOwing i) e held
given_now k effects taken called before s StoresCut action e held = still_now k effects taken called before s StoresCut e held
given_now k effects taken called before s Leaves action e held = still_now k effects taken called before s Leaves e held
given_now k effects taken called before s LoadsDurable action e held = still_now k effects taken called before s LoadsDurable e held

under_way_same : (s t : SessionState) → s.attempt ≡ t.attempt → IsUnderWay s.attempt → IsUnderWay t.attempt
under_way_same s t same its = subst IsUnderWay same its

-- the count of asks and the effect of the step before are nothing to what holds
counted : (k : Seat) (effects : List HistoryEntry) (taken : List Taken) (called : Option Op) (before : List Telling) (s : SessionState) (asks : ℕ) (step : Sitting) → IsTold k effects taken called before s step
    → IsTold k effects taken called before (record s { asks = asks; effect = None }) step
counted k effects taken called before s asks (Attempts has_shifted) its = record {
  settled_ones = its.settled_ones;
  its_effects = its.its_effects;
  books = its.books;
  knows = record { called_so = its.knows.called_so; name = its.knows.name; op = its.knows.op; under_way = its.knows.under_way };
}
counted k effects taken called before s asks (Polls i) its = record {
  settled_ones = its.settled_ones;
  its_effects = its.its_effects;
  books = its.books;
  knows = record { name = its.knows.name; under_way = its.knows.under_way };
}
counted k effects taken called before s asks (CatchesUp cause) its = record { settled_ones = its.settled_ones; its_effects = its.its_effects; books = its.books; knows = seen_knows taken called s (record s { asks = asks; effect = None }) cause refl its.knows }
counted k effects taken called before s asks (Idle told_one) its = record { settled_ones = its.settled_ones; its_effects = its.its_effects; books = its.books; knows = tt }
counted k effects taken called before s asks (Turns told_one) its = record { settled_ones = its.settled_ones; its_effects = its.its_effects; books = its.books; knows = tt }
counted k effects taken called before s asks step its = record { settled_ones = its.settled_ones; its_effects = its.its_effects; books = its.books; knows = tt }

pub event_told : (k : Seat) (effects : List HistoryEntry) (taken : List Taken) (called : Option Op) (before : List Telling) (s : SessionState) (event : SessionEvent) → IsToldNow k effects taken called before s
    → IsToldNow k (with_effect (effect_behind event (session_happens k s event)) effects) (taken_after ((session_happens k s event).serial == s.serial) (session_happens k s event).serial (op_after s event called) taken) (op_after s event called)
    (told_after (is_calling s event) (session_happens k s event) before) (session_happens k s event)
unfolding session_happens
event_told k effects taken called before s (Begins its) held = begins_now k effects taken called before s its (is_busy s.step) refl held
event_told k effects taken called before s (Replies reply) held =
    let asks : ℕ = asks_after s.asks (is_word_ask (session_ask k s)) in
    next_now k effects taken called before (record s { asks = asks; effect = None }) s.step reply (is_busy s.step) refl refl refl (counted k effects taken called (with_coming s.step s.finished before) s asks s.step held)
event_told k effects taken called before s (Gets action) held = given_now k effects taken called before s s.step action refl held

opening_told : (k : Seat) (s : SessionState) (step : Sitting) → is_busy step ≡ false → s.requests ≡ [] → IsTold k [] [] None (with_coming step s.finished []) s step
opening_told k s (Idle its) idle none = record {
  settled_ones = [];
  its_effects = refl;
  books = record { replies = λ such. refl; own = tt; waiting = rw none tt };
  knows = tt;
}
opening_told k s step idle none = cc

-- at every moment of a run
pub run_told : (k : Seat) (opening : SessionState) (events : List SessionEvent) → IsOpened opening
    → IsToldNow k (effects_told k opening events) (serials_taken k opening events) (op_called k opening events) (tellings k opening events) (session_run k opening events)
unfolding session_run tellings effects_told serials_taken op_called
run_told k opening [] opened = opening_told k opening opening.step opened.none_in_hand opened.none_wait
run_told k opening (event ∷ before) opened =
    event_told k (effects_told k opening before) (serials_taken k opening before) (op_called k opening before) (tellings k opening before) (session_run k opening before) event (run_told k opening before opened)
