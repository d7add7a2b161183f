-- At every moment of a poll the requests that waited as it began are parted as far as it has come.
use Rattle.std.proofs.Common.{◌≡◌, ℕ, ◌+◌, ◌∙◌, suc, List, [], ◌∷◌, ◌++◌, length, refl, arith, ap, sym, subst, Bool, true, false}
use Rattle.std.specs.Prelude.{slice_get, slice_set, Option, Some, None, if◌then◌else◌, not, ◌==◌, ⊤}
use Rattle.std.specs.List.{remove}
use Rattle.fkv_base.specs.declared.faults.Fault.{Fault}
use Rattle.fkv_map.specs.declared.operations.Call.{Call}
use Rattle.fkv_map.specs.declared.operations.Call.TheVariants as call
use Rattle.fkv_map.specs.declared.operations.Op.{Op}
use Rattle.fkv_plane.specs.declared.actions.Action.{Action}
use Rattle.fkv_plane.specs.declared.asks.Ask.{Ask}
use Rattle.fkv_plane.specs.declared.asks.Ask.TheVariants.{Done}
use Rattle.fkv_epoch.specs.Leaving.{leave_next}
use Rattle.fkv_ops.specs.declared.answers.Reason.{Reason}
use Rattle.fkv_ops.specs.declared.answers.Reason.TheVariants as reason
use Rattle.fkv_ops.specs.declared.answers.TryAnswer.{TryAnswer}
use Rattle.fkv_ops.specs.declared.answers.TryAnswer.TheVariants as answer
use Rattle.fkv_ops.specs.Requests.{is_read}
use Rattle.fkv_pending.specs.declared.mailing.MailAnswer.{MailAnswer}
use Rattle.fkv_pending.specs.declared.mailing.MailAnswer.TheVariants.{Cleared}
use Rattle.fkv_pending.specs.declared.pending_requests.PendingRequest.{PendingRequest}
use Rattle.fkv_pending.specs.declared.pending_requests.RequestName.{RequestName}
use Rattle.fkv_pending.specs.declared.pending_requests.RequestName.TheVariants.{Update, Read}
use Rattle.fkv_pending.specs.Attempting.{attempt_ask}
use Rattle.fkv_pending.specs.Mailing.{mail_next}
use Rattle.fkv_session.specs.declared.answers.Finished.{Finished}
use Rattle.fkv_session.specs.declared.answers.Told.{Told}
use Rattle.fkv_session.specs.declared.answers.Told.TheVariants as told
use Rattle.fkv_session.specs.declared.sessions.CatchCause.{CatchCause}
use Rattle.fkv_session.specs.declared.sessions.CatchCause.TheVariants.{Refreshes, Wakes, Shifts}
use Rattle.fkv_session.specs.declared.sessions.Sitting.{Sitting}
use Rattle.fkv_session.specs.declared.sessions.Sitting.TheVariants.{Idle, Attempts, CatchesUp, ClearsMail, Polls, StoresOwing, Turns, StoresCut, Leaves, LoadsDurable}
use Rattle.fkv_session.specs.Accounts.{name_finished, names_of}
use Rattle.fkv_session.specs.OwnTurns.{own_turn_given}
use Rattle.fkv_session.specs.Polls.{IsSameRequest, IsParted, no_more, is_finished as parts_finished, waits_on, with_attempted, attempted_at, attempted_by, attempted_in_poll, IsPollOf}
use Rattle.fkv_session.specs.Refused.{begun_from, before_call}
use Rattle.fkv_session.specs.Replies.{op_called}
use Rattle.fkv_session.specs.Sessions.{SessionState, Seat, bits_of, room_of, is_busy, answers, answers_after_turn, ticket_after, attempts, polls_request, polls_at, refusal_of, op_begun, refresh_call, poll_begun, poll_call, sleep_call, wake_call, call_begun, attempt_left, poll_left, serial_taken, update_done, is_no_room, with_request, accepts, shifts, attempted, attempt_ledto, catch_ledto, clear_ledto, finished_of, is_finished, is_owed, request_finished, finishes_request, keeps_request, poll_ledto, turn_ledto, leave_ledto, attempt_moved, caught, own_turn_moved, sitting_next, sitting_given, asks_after, is_word_ask, session_ask, IsOpened}
use Rattle.fkv_session.specs.SessionRun.{SessionEvent, Begins, Replies, Gets, begins, session_happens, session_run, is_calling}
use Rattle.fkv_session.specs.Versions.{IsAttemptOfRequest}
use Rattle.fkv_session.proofs.AttemptKeeps.{attempt_keeps}
use Rattle.fkv_session.proofs.Versioned.{KnowsRequest, moved_request, counted_knows, run_kept}

-- parted as far as the index: what waits from there on has not been attempted yet
pub data IsPartedUpTo : List PendingRequest → List RequestName → List Finished → ℕ → List PendingRequest → Type 0 where
  no_further : (rest : List PendingRequest) → IsPartedUpTo rest [] [] 0 rest
  one_finished : (p : PendingRequest) (it : Finished) (rest waiting : List PendingRequest) (tried : List RequestName) (finished : List Finished) (i : ℕ) → name_finished it ≡ p.name → IsPartedUpTo rest tried finished i waiting
      → IsPartedUpTo (p ∷ rest) (p.name ∷ tried) (it ∷ finished) i waiting
  one_waits : (p q : PendingRequest) (rest waiting : List PendingRequest) (tried : List RequestName) (finished : List Finished) (i : ℕ) → IsSameRequest p q → IsPartedUpTo rest tried finished i waiting
      → IsPartedUpTo (p ∷ rest) (p.name ∷ tried) finished (suc i) (q ∷ waiting)

finish_first : (waited : List PendingRequest) (p : PendingRequest) (it : Finished) → slice_get waited 0 ≡ Some p → name_finished it ≡ p.name → IsPartedUpTo waited (p.name ∷ []) (it ∷ []) 0 (remove waited 0)
finish_first [] p it got its = cc
finish_first (o ∷ rest) p it got its =
    let same : o ≡ p = cc in
    subst (λ (x : PendingRequest). IsPartedUpTo (o ∷ rest) (x.name ∷ []) (it ∷ []) 0 rest) same (one_finished o it rest rest [] [] 0 (its ∙ ap (λ (x : PendingRequest). x.name) (sym same)) (no_further rest))

finish_more : (waited : List PendingRequest) (tried : List RequestName) (finished : List Finished) (i : ℕ) (waiting : List PendingRequest) (p : PendingRequest) (it : Finished) → IsPartedUpTo waited tried finished i waiting
    → slice_get waiting i ≡ Some p → name_finished it ≡ p.name → IsPartedUpTo waited (tried ++ p.name ∷ []) (finished ++ it ∷ []) i (remove waiting i)
finish_more waited tried finished i waiting p it (no_further rest) got its = finish_first rest p it got its
finish_more waited tried finished i waiting p it (one_finished o one rest others before done n o_so parted) got its =
    one_finished o one rest (remove others n) (before ++ p.name ∷ []) (done ++ it ∷ []) n o_so (finish_more rest before done n others p it parted got its)
finish_more waited tried finished i waiting p it (one_waits o q rest others before done j same parted) got its =
    one_waits o q rest (remove others j) (before ++ p.name ∷ []) (done ++ it ∷ []) j same (finish_more rest before done j others p it parted got its)

keep_first : (waited : List PendingRequest) (p q : PendingRequest) → slice_get waited 0 ≡ Some p → IsSameRequest p q → IsPartedUpTo waited (p.name ∷ []) [] 1 (slice_set waited 0 q)
keep_first [] p q got same = cc
keep_first (o ∷ rest) p q got same =
    let one : o ≡ p = cc in
    subst (λ (x : PendingRequest). IsPartedUpTo (o ∷ rest) (x.name ∷ []) [] 1 (q ∷ rest)) one (one_waits o q rest rest [] [] 0 (subst (λ (x : PendingRequest). IsSameRequest x q) (sym one) same) (no_further rest))

keep_more : (waited : List PendingRequest) (tried : List RequestName) (finished : List Finished) (i : ℕ) (waiting : List PendingRequest) (p q : PendingRequest) → IsPartedUpTo waited tried finished i waiting
    → slice_get waiting i ≡ Some p → IsSameRequest p q → IsPartedUpTo waited (tried ++ p.name ∷ []) finished (suc i) (slice_set waiting i q)
keep_more waited tried finished i waiting p q (no_further rest) got same = keep_first rest p q got same
keep_more waited tried finished i waiting p q (one_finished o one rest others before done n o_so parted) got same =
    one_finished o one rest (slice_set others n q) (before ++ p.name ∷ []) done (suc n) o_so (keep_more rest before done n others p q parted got same)
keep_more waited tried finished i waiting p q (one_waits o r rest others before done j o_same parted) got same =
    one_waits o r rest (slice_set others j q) (before ++ p.name ∷ []) done (suc j) o_same (keep_more rest before done j others p q parted got same)

-- past the last index all are parted
none_first : (waited : List PendingRequest) → slice_get waited 0 ≡ None → waited ≡ []
none_first [] none = refl
none_first (p ∷ rest) none = cc

parted_whole : (waited : List PendingRequest) (tried : List RequestName) (finished : List Finished) (i : ℕ) (waiting : List PendingRequest) → IsPartedUpTo waited tried finished i waiting → slice_get waiting i ≡ None
    → (tried ≡ names_of waited) × IsParted waited finished waiting
parted_whole waited tried finished i waiting (no_further rest) none = rw (none_first rest none) (refl, no_more)
parted_whole waited tried finished i waiting (one_finished p it rest others before done n its parted) none =
    let whole = parted_whole rest before done n others parted none in
    (ap (λ (names : List RequestName). p.name ∷ names) whole.0, parts_finished p it rest others done its whole.1)
parted_whole waited tried finished i waiting (one_waits p q rest others before done j same parted) none =
    let whole = parted_whole rest before done j others parted none in
    (ap (λ (names : List RequestName). p.name ∷ names) whole.0, waits_on p q rest others done same whole.1)

-- by what the call tells
abbrev pub IsPollTold : List PendingRequest → List RequestName → List Finished → List PendingRequest → Told → Type 0
IsPollTold waited tried finished waiting (told.Polled left) = IsPollOf waited tried finished waiting left
IsPollTold waited tried finished waiting its = ⊤

abbrev pub IsPolling : List PendingRequest → List RequestName → SessionState → Sitting → Type 0
IsPolling waited tried s (Idle its) = IsPollTold waited tried s.finished s.requests its
IsPolling waited tried s (Turns its) = IsPollTold waited tried s.finished s.requests its
IsPolling waited tried s ClearsMail = IsPartedUpTo waited tried s.finished 0 s.requests
IsPolling waited tried s (Polls i) = IsPartedUpTo waited tried s.finished i s.requests
IsPolling waited tried s (StoresOwing i) = IsPartedUpTo waited tried s.finished i s.requests
IsPolling waited tried s step = ⊤

abbrev IsPollingNow : List PendingRequest → List RequestName → SessionState → Type 0
IsPollingNow waited tried s = IsPolling waited tried s s.step

still : (waited : List PendingRequest) (tried : List RequestName) (s : SessionState) (step : Sitting) → s.step ≡ step → IsPolling waited tried s step → IsPollingNow waited tried s
still waited tried s step e polling = subst (λ (x : Sitting). IsPolling waited tried s x) (sym e) polling

either_polls : (c : Bool) (waited : List PendingRequest) (tried : List RequestName) (a b : SessionState) → IsPollingNow waited tried a → IsPollingNow waited tried b → IsPollingNow waited tried (if c then a else b)
either_polls true waited tried a b one other = one
either_polls false waited tried a b one other = other

turn_polls : (waited : List PendingRequest) (tried : List RequestName) (s : SessionState) (its : Told) → IsPollTold waited tried s.finished s.requests its → IsPollingNow waited tried (answers_after_turn s its)
turn_polls waited tried s its so = either_polls s.wants_turn waited tried _ (answers s its) so so

attempts_polls : (waited : List PendingRequest) (tried : List RequestName) (k : Seat) (s : SessionState) (has_shifted : Bool) → IsPollingNow waited tried (attempts k s has_shifted)
unfolding attempts
attempts_polls waited tried k s has_shifted = tt

polls_found : (waited : List PendingRequest) (tried : List RequestName) (k : Seat) (s : SessionState) (i : ℕ) (found : Option PendingRequest) → slice_get s.requests i ≡ found → IsPartedUpTo waited tried s.finished i s.requests
    → IsPollingNow waited tried (polls_request k s i found)
polls_found waited tried k s i None got parted =
    let whole = parted_whole waited tried s.finished i s.requests parted got in
    turn_polls waited tried s (told.Polled (length s.requests)) (record { each_attempted = whole.0; parted = whole.1; counted = refl })
polls_found waited tried k s i (Some pending) got parted = parted

polls_on : (waited : List PendingRequest) (tried : List RequestName) (k : Seat) (s : SessionState) (i : ℕ) → IsPartedUpTo waited tried s.finished i s.requests → IsPollingNow waited tried (polls_at k s i)
unfolding polls_at
polls_on waited tried k s i parted = polls_found waited tried k s i (slice_get s.requests i) refl parted

-- a call of another kind
accepts_polls : (waited : List PendingRequest) (tried : List RequestName) (s : SessionState) (why : Reason) → IsPollingNow waited tried (accepts s why)
unfolding accepts
accepts_polls waited tried s why =
    either_polls (is_read s.op) waited tried (answers (with_request (record s { ticket = ticket_after s.ticket })) (told.PendingRead (record { 0 = ticket_after s.ticket }))) _
    tt (turn_polls waited tried (with_request (serial_taken (record s { wants_turn = is_no_room why }))) (told.Pending (record { 0 = s.serial + 1 }) why) tt)

shifts_polls : (waited : List PendingRequest) (tried : List RequestName) (s : SessionState) (has_shifted : Bool) → IsPollingNow waited tried (shifts s has_shifted)
unfolding shifts
shifts_polls waited tried s false = tt
shifts_polls waited tried s true = accepts_polls waited tried s reason.Contended

attempted_polls : (waited : List PendingRequest) (tried : List RequestName) (s : SessionState) (has_shifted : Bool) (its : TryAnswer) → IsPollingNow waited tried (attempted s has_shifted its)
attempted_polls waited tried s has_shifted (answer.Done reply) = either_polls (is_read s.op) waited tried (answers s told.Absent) (update_done s reply) tt tt
attempted_polls waited tried s has_shifted (answer.Found value) = tt
attempted_polls waited tried s has_shifted answer.Absent = tt
attempted_polls waited tried s has_shifted (answer.Wait why) = accepts_polls waited tried s why
attempted_polls waited tried s has_shifted (answer.AwaitsDisk sought) = accepts_polls waited tried s reason.Disk
attempted_polls waited tried s has_shifted answer.Shift = shifts_polls waited tried s has_shifted
attempted_polls waited tried s has_shifted answer.IndexFull = tt
attempted_polls waited tried s has_shifted answer.LogFull = tt

attempt_polls : (waited : List PendingRequest) (tried : List RequestName) (s : SessionState) (has_shifted : Bool) (ask : Ask TryAnswer) → s.step ≡ Attempts has_shifted → IsPollingNow waited tried (attempt_ledto s has_shifted ask)
unfolding attempt_ledto
attempt_polls waited tried s has_shifted (Done its) e = attempted_polls waited tried (attempt_left s) has_shifted its
attempt_polls waited tried s has_shifted ask e = still waited tried s (Attempts has_shifted) e tt

catch_polls : (waited : List PendingRequest) (tried : List RequestName) (k : Seat) (s : SessionState) (cause : CatchCause) (ask : Ask (Unit {0})) → s.step ≡ CatchesUp cause → IsPollingNow waited tried (catch_ledto k s cause ask)
unfolding catch_ledto
catch_polls waited tried k s Refreshes (Done its) e = tt
catch_polls waited tried k s Wakes (Done its) e = tt
catch_polls waited tried k s Shifts (Done its) e = attempts_polls waited tried k (record s { seen = s.catching.seen }) true
catch_polls waited tried k s cause ask e = still waited tried s (CatchesUp cause) e tt

left_polls : (waited : List PendingRequest) (tried : List RequestName) (s : SessionState) (ask : Ask (Unit {0})) → s.step ≡ Leaves → IsPollingNow waited tried (leave_ledto s ask)
unfolding leave_ledto
left_polls waited tried s (Done its) e = tt
left_polls waited tried s ask e = still waited tried s Leaves e tt

turned_polls : (waited : List PendingRequest) (tried : List RequestName) (s : SessionState) (its : Told) (ask : Ask (Unit {0})) → s.step ≡ Turns its → IsPollTold waited tried s.finished s.requests its → IsPollingNow waited tried (turn_ledto s its ask)
unfolding turn_ledto
turned_polls waited tried s its (Done through) e so = so
turned_polls waited tried s its ask e so = still waited tried s (Turns its) e so

-- a poll
clear_polls : (waited : List PendingRequest) (tried : List RequestName) (k : Seat) (s : SessionState) (ask : Ask MailAnswer) → s.step ≡ ClearsMail → IsPartedUpTo waited tried s.finished 0 s.requests → IsPollingNow waited tried (clear_ledto k s ask)
unfolding clear_ledto
clear_polls waited tried k s (Done Cleared) e parted = polls_on waited tried k (record s { is_orphaned = false }) 0 parted
clear_polls waited tried k s (Done its) e parted = polls_on waited tried k s 0 parted
clear_polls waited tried k s ask e parted = still waited tried s ClearsMail e parted

finished_name : (name : RequestName) (its : TryAnswer) → name_finished (finished_of name its) ≡ name
finished_name (Update serial) (answer.Done reply) = refl
finished_name (Update serial) (answer.Found value) = refl
finished_name (Update serial) its = refl
finished_name (Read ticket) (answer.Found value) = refl
finished_name (Read ticket) its = refl

finishes_polls : (waited : List PendingRequest) (tried : List RequestName) (k : Seat) (s : SessionState) (i : ℕ) (its : TryAnswer) → IsAttemptOfRequest s.requests i s.attempt.pending → IsPartedUpTo waited tried s.finished i s.requests
    → IsPollingNow waited (tried ++ s.attempt.pending.name ∷ []) (finishes_request k s i its)
unfolding finishes_request
finishes_polls waited tried k s i its same parted =
    let name = s.attempt.pending.name in
    let more = finish_more waited tried s.finished i s.requests same.request (finished_of name its) parted same.waits (finished_name name its ∙ same.name) in
    let now = subst (λ (x : RequestName). IsPartedUpTo waited (tried ++ x ∷ []) (s.finished ++ finished_of name its ∷ []) i (remove s.requests i)) (sym same.name) more in
    either_polls (is_owed s) waited (tried ++ name ∷ []) (request_finished s i its) (polls_at k (request_finished s i its) i) now (polls_on waited (tried ++ name ∷ []) k (request_finished s i its) i now)

keeps_polls : (waited : List PendingRequest) (tried : List RequestName) (k : Seat) (s : SessionState) (i : ℕ) (its : TryAnswer) → IsAttemptOfRequest s.requests i s.attempt.pending → IsPartedUpTo waited tried s.finished i s.requests
    → IsPollingNow waited (tried ++ s.attempt.pending.name ∷ []) (keeps_request k s i its)
unfolding keeps_request
keeps_polls waited tried k s i its same parted =
    let kept = keep_more waited tried s.finished i s.requests same.request s.attempt.pending parted same.waits (record { name = same.name; op = same.op; version = same.version }) in
    let now = subst (λ (x : RequestName). IsPartedUpTo waited (tried ++ x ∷ []) s.finished (suc i) (slice_set s.requests i s.attempt.pending)) (sym same.name) kept in
    polls_on waited (tried ++ s.attempt.pending.name ∷ []) k _ (i + 1) (subst (λ (n : ℕ). IsPartedUpTo waited (tried ++ s.attempt.pending.name ∷ []) s.finished n (slice_set s.requests i s.attempt.pending)) (omega arith) now)

poll_polls : (waited : List PendingRequest) (tried : List RequestName) (k : Seat) (s : SessionState) (i : ℕ) (ask : Ask TryAnswer) → s.step ≡ Polls i → IsAttemptOfRequest s.requests i s.attempt.pending → IsPartedUpTo waited tried s.finished i s.requests
    → IsPollingNow waited (with_attempted ask s.attempt.pending.name tried) (poll_ledto k s i ask)
unfolding poll_ledto
poll_polls waited tried k s i (Done its) e same parted =
    either_polls (is_finished its) waited (tried ++ s.attempt.pending.name ∷ []) _ (keeps_request k (poll_left s) i its) (finishes_polls waited tried k (poll_left s) i its same parted) (keeps_polls waited tried k (poll_left s) i its same parted)
poll_polls waited tried k s i ask e same parted = still waited tried s (Polls i) e parted

next_polls : (waited : List PendingRequest) (tried : List RequestName) (called : Option Op) (k : Seat) (s : SessionState) (step : Sitting) (reply : ℕ) → s.step ≡ step → KnowsRequest called s step → IsPolling waited tried s step
    → IsPollingNow waited (attempted_at k s step reply tried) (sitting_next k s step reply)
unfolding sitting_next
next_polls waited tried called k s (Idle its) reply e knows polling = still waited tried s (Idle its) e polling
next_polls waited tried called k s (Attempts has_shifted) reply e knows polling = attempt_polls waited tried (attempt_moved k s reply) has_shifted _ e
next_polls waited tried called k s (CatchesUp cause) reply e knows polling = catch_polls waited tried k (caught k s reply) cause _ e
next_polls waited tried called k s ClearsMail reply e knows polling = clear_polls waited tried k (record s { mailing = mail_next s.mailing reply }) _ e polling
next_polls waited tried called k s (Polls i) reply e knows polling =
    let moved = moved_request k s i reply knows in
    let name : (attempt_moved k s reply).attempt.pending.name ≡ s.attempt.pending.name = (attempt_keeps k.places (bits_of k) (room_of k) k.number s.attempt reply).name in
    subst (λ (x : RequestName). IsPollingNow waited (with_attempted (attempt_ask k.places k.number (attempt_moved k s reply).attempt) x tried) (poll_ledto k (attempt_moved k s reply) i (attempt_ask k.places k.number (attempt_moved k s reply).attempt))) name
    (poll_polls waited tried k (attempt_moved k s reply) i (attempt_ask k.places k.number (attempt_moved k s reply).attempt) e moved polling)
next_polls waited tried called k s (StoresOwing i) reply e knows polling = polls_on waited tried k s i polling
next_polls waited tried called k s (Turns its) reply e knows polling = turned_polls waited tried (own_turn_moved k s reply) its _ e polling
next_polls waited tried called k s StoresCut reply e knows polling = tt
next_polls waited tried called k s Leaves reply e knows polling = left_polls waited tried (record s { leaving = leave_next s.leaving }) _ e
next_polls waited tried called k s LoadsDurable reply e knows polling = tt

given_polls : (waited : List PendingRequest) (tried : List RequestName) (k : Seat) (s : SessionState) (step : Sitting) (action : Action) → s.step ≡ step → IsPolling waited tried s step → IsPollingNow waited tried (sitting_given k s step action)
unfolding sitting_given
given_polls waited tried k s (Turns its) action e polling = turned_polls waited tried (record s { own_turn = own_turn_given s.own_turn action }) its _ e polling
given_polls waited tried k s step action e polling = still waited tried s step e polling

-- a call that begins
op_polls : (waited : List PendingRequest) (k : Seat) (s : SessionState) (op : Op) (why : Option Fault) → IsPollingNow waited [] (op_begun k s op why)
unfolding op_begun
op_polls waited k s op (Some why) = tt
op_polls waited k s op None = attempts_polls waited [] k (record s { op = op }) false

clears_polls : (k : Seat) (s : SessionState) → s.finished ≡ [] → IsPollingNow s.requests [] (poll_begun k s)
clears_polls k s none =
    let parted : IsPartedUpTo s.requests [] s.finished 0 s.requests = rw none (no_further s.requests) in
    either_polls s.is_orphaned s.requests [] _ (polls_at k s 0) parted (polls_on s.requests [] k s 0 parted)

call_polls : (k : Seat) (s : SessionState) (its : Call) → IsPollingNow s.requests [] (call_begun k s its)
unfolding refresh_call poll_call sleep_call wake_call
call_polls k s (call.Op op) = op_polls s.requests k s op (refusal_of s op)
call_polls k s call.Refresh = either_polls s.is_awake s.requests [] _ _ tt tt
call_polls k s call.Poll = either_polls s.is_awake s.requests [] _ _ (clears_polls k (record s { finished = [] }) refl) tt
call_polls k s call.Sleep = either_polls (not s.is_awake) s.requests [] _ _ tt (either_polls (length s.requests == 0) s.requests [] _ _ tt tt)
call_polls k s call.Wake = either_polls s.is_awake s.requests [] _ _ tt tt
call_polls k s call.Durable = tt

-- while a call is in hand
abbrev pub PollsWhereBusy : List PendingRequest → List RequestName → SessionState → Sitting → Type 0
PollsWhereBusy waited tried s step = is_busy step ≡ true → IsPolling waited tried s step

counted_polls : (waited : List PendingRequest) (tried : List RequestName) (s : SessionState) (asks : ℕ) (step : Sitting) → IsPolling waited tried s step → IsPolling waited tried (record s { asks = asks; effect = None }) step
counted_polls waited tried s asks (Idle its) polling = polling
counted_polls waited tried s asks (Turns its) polling = polling
counted_polls waited tried s asks ClearsMail polling = polling
counted_polls waited tried s asks (Polls i) polling = polling
counted_polls waited tried s asks (StoresOwing i) polling = polling
counted_polls waited tried s asks step polling = tt

begins_polls : (earlier : SessionState) (tried : List RequestName) (k : Seat) (s : SessionState) (its : Call) (busy : Bool) → (if busy then false else true) ≡ true
    → IsPollingNow (if busy then earlier else s).requests (if busy then tried else []) (begins k s busy its)
begins_polls earlier tried k s its true calling = cc
begins_polls earlier tried k s its false calling = call_polls k (record s { asks = 0; effect = None; wants_turn = false }) its

-- an event of a call
event_polls : (earlier : SessionState) (tried : List RequestName) (called : Option Op) (k : Seat) (s : SessionState) (event : SessionEvent) → KnowsRequest called s s.step → PollsWhereBusy earlier.requests tried s s.step → is_calling s event ≡ true
    → IsPollingNow (begun_from s event earlier).requests (attempted_by k s event tried) (session_happens k s event)
unfolding session_happens
event_polls earlier tried called k s (Begins its) knows polling calling = begins_polls earlier tried k s its (is_busy s.step) calling
event_polls earlier tried called k s (Replies reply) knows polling calling =
    let asks : ℕ = asks_after s.asks (is_word_ask (session_ask k s)) in
    next_polls earlier.requests tried called k (record s { asks = asks; effect = None }) s.step reply refl (counted_knows called s asks s.step knows) (counted_polls earlier.requests tried s asks s.step (polling calling))
event_polls earlier tried called k s (Gets action) knows polling calling = given_polls earlier.requests tried k s s.step action refl (polling calling)

-- what else happens leaves no call in hand, or the call as it was
begins_busy : (earlier : SessionState) (tried : List RequestName) (k : Seat) (s : SessionState) (its : Call) (busy : Bool) → (if busy then false else true) ≡ false → PollsWhereBusy earlier.requests tried s s.step
    → PollsWhereBusy (if busy then earlier else s).requests (if busy then tried else []) (begins k s busy its) (begins k s busy its).step
begins_busy earlier tried k s its true calling polling = polling
begins_busy earlier tried k s its false calling polling = cc

replies_idle : (k : Seat) (s : SessionState) (step : Sitting) (reply : ℕ) → s.step ≡ step → is_busy step ≡ false → is_busy (sitting_next k s step reply).step ≡ false
unfolding sitting_next
replies_idle k s (Idle its) reply e idle = ap is_busy e
replies_idle k s step reply e idle = cc

given_idle : (k : Seat) (s : SessionState) (step : Sitting) (action : Action) → s.step ≡ step → is_busy step ≡ false → is_busy (sitting_given k s step action).step ≡ false
unfolding sitting_given
given_idle k s (Idle its) action e idle = ap is_busy e
given_idle k s step action e idle = cc

both : {A : Type 0} (c : Bool) → c ≡ false → c ≡ true → A
both true e f = cc
both false e f = cc

event_spared : (earlier : SessionState) (tried : List RequestName) (k : Seat) (s : SessionState) (event : SessionEvent) → PollsWhereBusy earlier.requests tried s s.step → is_calling s event ≡ false
    → PollsWhereBusy (begun_from s event earlier).requests (attempted_by k s event tried) (session_happens k s event) (session_happens k s event).step
unfolding session_happens
event_spared earlier tried k s (Begins its) polling calling = begins_busy earlier tried k s its (is_busy s.step) calling polling
event_spared earlier tried k s (Replies reply) polling calling =
    λ busy. both _ (replies_idle k (record s { asks = asks_after s.asks (is_word_ask (session_ask k s)); effect = None }) s.step reply refl calling) busy
event_spared earlier tried k s (Gets action) polling calling = λ busy. both _ (given_idle k s s.step action refl calling) busy

event_busy : (earlier : SessionState) (tried : List RequestName) (called : Option Op) (k : Seat) (s : SessionState) (event : SessionEvent) → KnowsRequest called s s.step → PollsWhereBusy earlier.requests tried s s.step
    → PollsWhereBusy (begun_from s event earlier).requests (attempted_by k s event tried) (session_happens k s event) (session_happens k s event).step
event_busy earlier tried called k s event knows polling = tested (is_calling s event) refl
  where
    tested : (c : Bool) → is_calling s event ≡ c → PollsWhereBusy (begun_from s event earlier).requests (attempted_by k s event tried) (session_happens k s event) (session_happens k s event).step
    tested true calling = λ busy. event_polls earlier tried called k s event knows polling calling
    tested false calling = event_spared earlier tried k s event polling calling

-- at every moment of a run
run_busy : (k : Seat) (opening : SessionState) (events : List SessionEvent) → IsOpened opening
    → PollsWhereBusy (before_call k opening events).requests (attempted_in_poll k opening events) (session_run k opening events) (session_run k opening events).step
unfolding session_run before_call attempted_in_poll
run_busy k opening [] opened = λ busy. both _ opened.none_in_hand busy
run_busy k opening (event ∷ before) opened =
    event_busy (before_call k opening before) (attempted_in_poll k opening before) (op_called k opening before) k (session_run k opening before) event (run_kept k opening before opened).knows (run_busy k opening before opened)

poll_told : (waited : List PendingRequest) (tried : List RequestName) (s : SessionState) (step : Sitting) (left : ℕ) → step ≡ Idle (told.Polled left) → IsPolling waited tried s step → IsPollOf waited tried s.finished s.requests left
poll_told waited tried s step left e polling = subst (λ (x : Sitting). IsPolling waited tried s x) e polling

-- where a call ends
pub run_polled : (k : Seat) (opening : SessionState) (event : SessionEvent) (before : List SessionEvent) (left : ℕ) → IsOpened opening → is_calling (session_run k opening before) event ≡ true
    → (session_run k opening (event ∷ before)).step ≡ Idle (told.Polled left)
    → IsPollOf (before_call k opening (event ∷ before)).requests (attempted_in_poll k opening (event ∷ before)) (session_run k opening (event ∷ before)).finished (session_run k opening (event ∷ before)).requests left
unfolding session_run before_call attempted_in_poll
run_polled k opening event before left opened calling ends =
    poll_told (begun_from (session_run k opening before) event (before_call k opening before)).requests (attempted_by k (session_run k opening before) event (attempted_in_poll k opening before))
    (session_happens k (session_run k opening before) event) (session_happens k (session_run k opening before) event).step left ends
    (event_polls (before_call k opening before) (attempted_in_poll k opening before) (op_called k opening before) k (session_run k opening before) event (run_kept k opening before opened).knows (run_busy k opening before opened) calling)
