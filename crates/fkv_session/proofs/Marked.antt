-- What a session has stored last as its cut words and its owing word, at every moment of a run.
use Rattle.std.proofs.Common.{◌≡◌, ℕ, ◌+◌, ◌*◌, ◌-◌, ◌<◌, ◌≤◌, ◌∙◌, zero, suc, List, [], ◌∷◌, ◌++◌, length, refl, arith, ap, sym, subst, inl, inr, Bool, true, false}
use Rattle.std.specs.Prelude.{slice_get, slice_set, Option, Some, None, if◌then◌else◌, not, cond, ◌==◌, ◌&&◌, ◌≢◌, ◌⊎◌, nat_lt, ◌||◌, ◌%◌}
use Rattle.std.specs.List.{remove, count_by, position}
use Rattle.std.proofs.lemmas.Bool.Decides.{nat_tests}
use Rattle.std.proofs.lemmas.List.Sums.{sum_by-cons}
use Rattle.fkv_base.specs.Limits.{last_version}
use Rattle.fkv_base.specs.declared.faults.Fault.TheVariants as fault
use Rattle.fkv_base.specs.declared.numbers.Version.{Version}
use Rattle.fkv_plane.specs.declared.asks.Ask.{Ask}
use Rattle.fkv_plane.specs.declared.asks.Ask.TheVariants.{Load, Store, Done}
use Rattle.fkv_plane.specs.declared.places.Places.{Places}
use Rattle.fkv_plane.specs.declared.places.SessionWord.TheVariants as own
use Rattle.fkv_plane.specs.Places.{session_place}
use Rattle.fkv_plane.specs.Passing.{passed}
use Rattle.fkv_epoch.specs.declared.values.Seen as loaded
use Rattle.fkv_epoch.specs.declared.refreshing.RefreshAnswer.{RefreshAnswer}
use Rattle.fkv_epoch.specs.declared.refreshing.RefreshAnswer.TheVariants.{Loaded, Stored}
use Rattle.fkv_epoch.specs.declared.leaving.Leaving.TheVariants.{StoresZero}
use Rattle.fkv_epoch.specs.Leaving.{leave_next}
use Rattle.fkv_epoch.specs.Refreshing.{refresh_next, refresh_finish}
use Rattle.fkv_epoch.specs.Protecting.{protect_next}
use Rattle.fkv_latch.specs.declared.latching.LatchAnswer.{LatchAnswer}
use Rattle.fkv_latch.specs.declared.latching.LatchAnswer.TheVariants.{Taken}
use Rattle.fkv_latch.specs.Latching.{latch_next, latch_next_ask}
use Rattle.fkv_ops.specs.Bounds.{bounds_of}
use Rattle.fkv_ops.specs.declared.answers.Reason.{Reason}
use Rattle.fkv_ops.specs.declared.answers.Reason.TheVariants as reason
use Rattle.fkv_ops.specs.declared.answers.TryAnswer.{TryAnswer}
use Rattle.fkv_ops.specs.declared.answers.TryAnswer.TheVariants as tried
use Rattle.fkv_ops.specs.declared.requests.Occasion.TheVariants.{Call as AtCall, Poll as AtPoll}
use Rattle.fkv_ops.specs.declared.requests.Seen.{Seen}
use Rattle.fkv_ops.specs.Requests.{is_read}
use Rattle.fkv_pending.specs.declared.mailing.MailAnswer.{MailAnswer}
use Rattle.fkv_pending.specs.declared.mailing.MailAnswer.TheVariants.{Cleared}
use Rattle.fkv_pending.specs.declared.pending_requests.PendingRequest.{PendingRequest}
use Rattle.fkv_pending.specs.Pending.{with_latch, is_unlatched, is_update_of}
use Rattle.fkv_pending.specs.Mailing.{mail_next}
use Rattle.fkv_pending.specs.Attempting.{attempt_begun}
use Rattle.fkv_words.specs.declared.phase_words.PhaseSaid.{PhaseSaid}
use Rattle.fkv_words.specs.declared.phase_words.PhaseSaid.TheVariants.{Says, Spoiled}
use Rattle.fkv_words.specs.PhaseWords.{phase_said}
use Rattle.fkv_words.proofs.Shown.{said_version}
use Rattle.fkv_session.specs.declared.answers.Told.{Told}
use Rattle.fkv_session.specs.declared.answers.Told.TheVariants as told
use Rattle.fkv_session.specs.declared.catching_up.Catching.{Catching}
use Rattle.fkv_session.specs.declared.catching_up.Catching.TheVariants as catching
use Rattle.fkv_session.specs.declared.sessions.CatchCause.{CatchCause}
use Rattle.fkv_session.specs.declared.sessions.CatchCause.TheVariants.{Refreshes, Wakes, Shifts}
use Rattle.fkv_session.specs.declared.sessions.Sitting.{Sitting}
use Rattle.fkv_session.specs.declared.sessions.Sitting.TheVariants.{Idle, Attempts, CatchesUp, ClearsMail, Polls, StoresOwing, Turns, StoresCut, Leaves, LoadsDurable}
use Rattle.fkv_session.specs.CatchingUp.{CatchState, refresh_begun, cut_of, cut_at, catching_ask, catch_ask, seen_after, finishes, latch_begun, latch_wanted, latches, cuts, is_same_version, enters_prepare, takes_up, refresh_ledto, protect_ledto, latched, latch_marked, catching_requests, latch_ledto, finish_ledto, catching_next}
use Rattle.fkv_session.specs.OwnTurns.{own_turn_begun}
use Rattle.fkv_session.specs.Sessions.{SessionState, Seat, bits_of, room_of, is_busy, answers, answers_after_turn, version_within, request_in_hand, attempts, polls_request, polls_at, ticket_after, attempt_left, poll_left, serial_taken, update_done, is_no_room, lacks_room, with_request, accepts, shifts, attempted, attempt_ledto, caught_up, catch_ledto, clear_ledto, is_finished, is_owed, request_finished, finishes_request, keeps_request, poll_ledto, turn_ledto, leave_ledto, attempt_moved, caught, own_turn_moved, sitting_ask, sitting_next}
use Rattle.fkv_session.specs.Words.{IsMark, stored_by, left_with}
use Rattle.fkv_session.proofs.AttemptKeeps.{attempt_keeps, begun_same}
use Rattle.fkv_session.proofs.CatchKeeps.{catch_serial}
use Rattle.fkv_session.proofs.MarksSpared.{IsOff, StoresOff, passed_off, refresh_off, protect_off, leave_off, latch_off, mail_off, attempt_off}
use Rattle.fkv_session.proofs.Requests.{IsSameRequest}
use Rattle.fkv_session.proofs.TurnSpared.{IsOwnTurnSparing, own_turn_off, own_turn_spares, own_turn_begun_spares}

-- updates of the version before this one
abbrev pub owed_of : ℕ → List PendingRequest → ℕ
owed_of version requests = count_by (is_update_of (record { 0 = version - 1 })) requests

-- where the session has left a version for this one: what its cut word tells, and the owing word
abbrev pub HasCut : ℕ → (ℕ → ℕ) → Option ℕ → ℕ → Type 0
HasCut n words None version = Unit {0}
HasCut n words (Some serial) version = (1 ≤ version) × (version ≤ last_version) × (words (session_place n (cut_of (version - 1))) ≡ cut_at serial (version - 1))

abbrev pub HasOwing : ℕ → (ℕ → ℕ) → Option ℕ → ℕ → List PendingRequest → Type 0
HasOwing n words None version requests = Unit {0}
HasOwing n words (Some serial) version requests = words (session_place n own.Owing) ≡ owed_of version requests

pub record IsMarked (n : ℕ) (words : ℕ → ℕ) (left : Option ℕ) (version : ℕ) (requests : List PendingRequest) : Type 0 where
  pub cut : HasCut n words left version
  pub owing : HasOwing n words left version requests

-- while the session catches up
abbrev pub CatchAt : ℕ → (ℕ → ℕ) → Option ℕ → Seen → ℕ → CatchState → List PendingRequest → Catching → Type 0
CatchAt n words left seen serial c requests catching.Refreshes = (c.seen ≡ seen) × IsMarked n words left seen.version.0 requests
CatchAt n words left seen serial c requests catching.Protects = (c.seen ≡ seen) × IsMarked n words left seen.version.0 requests
CatchAt n words left seen serial c requests catching.StoresCut = ((c.seen.version.0 == seen.version.0) ≡ false) × (1 ≤ c.seen.version.0) × (c.seen.version.0 ≤ last_version)
CatchAt n words left seen serial c requests catching.StoresOwing =
    ((c.seen.version.0 == seen.version.0) ≡ false) × (1 ≤ c.seen.version.0) × (c.seen.version.0 ≤ last_version) × (words (session_place n (cut_of (c.seen.version.0 - 1))) ≡ cut_at serial (c.seen.version.0 - 1))
CatchAt n words left seen serial c requests step = IsMarked n words (left_with (c.seen.version.0 == seen.version.0) serial left) c.seen.version.0 requests

-- behind the store of the step
abbrev pub ReadyAt : ℕ → (ℕ → ℕ) → Option ℕ → Seen → ℕ → CatchState → List PendingRequest → Catching → Type 0
ReadyAt n words left seen serial c requests catching.StoresCut = CatchAt n words left seen serial c requests catching.StoresOwing
ReadyAt n words left seen serial c requests catching.StoresOwing = CatchAt n words left seen serial c requests catching.Finishes
ReadyAt n words left seen serial c requests step = CatchAt n words left seen serial c requests step

pub record IsCatching (n : ℕ) (words : ℕ → ℕ) (left : Option ℕ) (s : SessionState) : Type 0 where
  pub serial : s.catching.serial ≡ s.serial
  pub at : CatchAt n words left s.seen s.serial s.catching s.requests s.catching.step

-- a request that a poll attempts is the one at its place
pub record IsAt (requests : List PendingRequest) (index : ℕ) (pending : PendingRequest) : Type 0 where
  pub its : PendingRequest
  pub at : slice_get requests index ≡ Some its
  pub same : IsSameRequest pending its

abbrev pub StepMarks : Seat → (ℕ → ℕ) → Option ℕ → SessionState → Sitting → Type 0
StepMarks k words left s (Attempts has_shifted) = IsMarked k.number words left s.seen.version.0 s.requests × (s.attempt.pending.request.version.0 ≡ version_within s.seen.version.0)
StepMarks k words left s (CatchesUp cause) = IsCatching k.number words left s
StepMarks k words left s (Polls index) = IsMarked k.number words left s.seen.version.0 s.requests × IsAt s.requests index s.attempt.pending
StepMarks k words left s (StoresOwing index) = HasCut k.number words left s.seen.version.0
StepMarks k words left s (Turns its) = IsMarked k.number words left s.seen.version.0 s.requests × IsOwnTurnSparing s.own_turn
StepMarks k words left s step = IsMarked k.number words left s.seen.version.0 s.requests

-- places
apart : (a b : ℕ) → (a < b) ⊎ (b < a) → (a == b) ≡ false
apart a b (inl below) = grind (arith, nat_tests, below)
apart a b (inr above) = grind (arith, nat_tests, above)

mark_from : (n place : ℕ) → IsMark n place → 24 + 16 * n + 1 ≤ place
mark_from n place (inl e) = omega (arith, e)
mark_from n place (inr (inl e)) = omega (arith, e)
mark_from n place (inr (inr e)) = omega (arith, e)

mark_to : (n place : ℕ) → IsMark n place → place ≤ 24 + 16 * n + 3
mark_to n place (inl e) = omega (arith, e)
mark_to n place (inr (inl e)) = omega (arith, e)
mark_to n place (inr (inr e)) = omega (arith, e)

pub off_apart : (n at place : ℕ) → IsOff n at → IsMark n place → (at == place) ≡ false
off_apart n at place (inl below) mark = let from = mark_from n place mark in apart at place (inl (omega (arith, below, from)))
off_apart n at place (inr above) mark = let to = mark_to n place mark in apart at place (inr (omega (arith, above, to)))

pub off_word : (n : ℕ) (ask : Ask Told) (place before : ℕ) → StoresOff n ask → IsMark n place → stored_by ask place before ≡ before
off_word n (Store at word) place before off mark = rw (off_apart n at place off mark) refl
off_word n ask place before off mark = refl

pub cut_mark : (n : ℕ) (even : Bool) → IsMark n (session_place n (if even then own.EvenCut else own.OddCut))
cut_mark n true = inl refl
cut_mark n false = inr (inl refl)

pub owing_mark : (n : ℕ) → IsMark n (session_place n own.Owing)
owing_mark n = inr (inr refl)

cut_off : (n : ℕ) (ask : Ask Told) (words : ℕ → ℕ) (left : Option ℕ) (version : ℕ) → StoresOff n ask → HasCut n words left version → HasCut n (λ place. stored_by ask place (words place)) left version
cut_off n ask words None version off has = tt
cut_off n ask words (Some serial) version off has = (has.0, has.1, off_word n ask (session_place n (cut_of (version - 1))) (words (session_place n (cut_of (version - 1)))) off (cut_mark n ((version - 1) % 2 == 0)) ∙ has.2)

owing_off : (n : ℕ) (ask : Ask Told) (words : ℕ → ℕ) (left : Option ℕ) (version : ℕ) (requests : List PendingRequest) → StoresOff n ask → HasOwing n words left version requests
    → HasOwing n (λ place. stored_by ask place (words place)) left version requests
owing_off n ask words None version requests off has = tt
owing_off n ask words (Some serial) version requests off has = off_word n ask (session_place n own.Owing) (words (session_place n own.Owing)) off (owing_mark n) ∙ has

marked_off : (n : ℕ) (ask : Ask Told) (words : ℕ → ℕ) (left : Option ℕ) (version : ℕ) (requests : List PendingRequest) → StoresOff n ask → IsMarked n words left version requests
    → IsMarked n (λ place. stored_by ask place (words place)) left version requests
marked_off n ask words left version requests off marked = record { cut = cut_off n ask words left version off marked.cut; owing = owing_off n ask words left version requests off marked.owing }

pub same_place : (at word before : ℕ) → stored_by (Store at word) at before ≡ word
same_place at word before = let same : (at == at) ≡ true = grind (arith, nat_tests) in rw same refl

other_place : (at place word before : ℕ) → (at < place) ⊎ (place < at) → stored_by (Store at word) place before ≡ before
other_place at place word before other = rw (apart at place other) refl

cut_below : (n : ℕ) (even : Bool) → session_place n (if even then own.EvenCut else own.OddCut) < session_place n own.Owing
cut_below n true = omega arith
cut_below n false = omega arith

other_cut : (n : ℕ) (c d : Bool) → d ≡ not c → (session_place n (if c then own.EvenCut else own.OddCut) < session_place n (if d then own.EvenCut else own.OddCut)) ⊎ (session_place n (if d then own.EvenCut else own.OddCut) < session_place n (if c then own.EvenCut else own.OddCut))
other_cut n true true e = cc
other_cut n true false e = inl (omega arith)
other_cut n false true e = inr (omega arith)
other_cut n false false e = cc

parity : (v : ℕ) → 1 ≤ v → ((v - 1) % 2 == 0) ≡ not (v % 2 == 0)
parity v some = tested (v % 2 == 0) ((v - 1) % 2 == 0) refl refl
  where
    tested : (c d : Bool) → (v % 2 == 0) ≡ c → ((v - 1) % 2 == 0) ≡ d → d ≡ not c
    tested true true e f = let a : v % 2 ≡ 0 = grind (arith, nat_tests, e) in let b : (v - 1) % 2 ≡ 0 = grind (arith, nat_tests, f) in absurd (omega (arith, a, b, some))
    tested true false e f = refl
    tested false true e f = refl
    tested false false e f = let a : v % 2 ≢ 0 = grind (arith, nat_tests, e) in let b : (v - 1) % 2 ≢ 0 = grind (arith, nat_tests, f) in absurd (omega (arith, a, b, some))

-- how many updates are owed
first_owed : (version : Version) (p : PendingRequest) (rest : List PendingRequest) → count_by (is_update_of version) (p ∷ rest) ≡ cond (is_update_of version p) 1 0 + count_by (is_update_of version) rest
first_owed version p rest = sum_by-cons (λ x. cond (is_update_of version x) 1 0) p rest

behind_owed : (version : Version) (p : PendingRequest) (xs ys : List PendingRequest) → count_by (is_update_of version) xs ≡ count_by (is_update_of version) ys → count_by (is_update_of version) (p ∷ xs) ≡ count_by (is_update_of version) (p ∷ ys)
behind_owed version p xs ys same = let one = first_owed version p xs in let other = first_owed version p ys in omega (arith, one, other, same)

not_owed : (version : Version) (p : PendingRequest) (rest : List PendingRequest) → is_update_of version p ≡ false → count_by (is_update_of version) (p ∷ rest) ≡ count_by (is_update_of version) rest
not_owed version p rest none =
    let all = first_owed version p rest in
    let one : ◌≡◌ {A = ℕ} (cond (is_update_of version p) 1 0) 0 = ap (λ (c : Bool). cond c 1 0) none in
    omega (arith, all, one)

owed_append : (version : Version) (requests : List PendingRequest) (p : PendingRequest) → is_update_of version p ≡ false → count_by (is_update_of version) (requests ++ p ∷ []) ≡ count_by (is_update_of version) requests
owed_append version [] p none = not_owed version p [] none
owed_append version (o ∷ rest) p none = behind_owed version o (rest ++ p ∷ []) rest (owed_append version rest p none)

owed_removed : (version : Version) (requests : List PendingRequest) (i : ℕ) (p : PendingRequest) → slice_get requests i ≡ Some p → is_update_of version p ≡ false → count_by (is_update_of version) (remove requests i) ≡ count_by (is_update_of version) requests
owed_removed version [] i p got none = cc
owed_removed version (o ∷ rest) zero p got none = let same : p ≡ o = cc in sym (not_owed version o rest (subst (λ (x : PendingRequest). is_update_of version x ≡ false) same none))
owed_removed version (o ∷ rest) (suc i) p got none = behind_owed version o (remove rest i) rest (owed_removed version rest i p got none)

owed_set : (version : Version) (requests : List PendingRequest) (i : ℕ) (p q : PendingRequest) → slice_get requests i ≡ Some q → is_update_of version p ≡ is_update_of version q → count_by (is_update_of version) (slice_set requests i p) ≡ count_by (is_update_of version) requests
owed_set version [] i p q got same = refl
owed_set version (o ∷ rest) zero p q got same =
    let its : q ≡ o = cc in
    let one = first_owed version p rest in
    let other = first_owed version o rest in
    let counts : ◌≡◌ {A = ℕ} (cond (is_update_of version p) 1 0) (cond (is_update_of version o) 1 0) = ap (λ (c : Bool). cond c 1 0) (subst (λ (x : PendingRequest). is_update_of version p ≡ is_update_of version x) its same) in
    omega (arith, one, other, counts)
owed_set version (o ∷ rest) (suc i) p q got same = behind_owed version o (slice_set rest i p) rest (owed_set version rest i p q got same)

same_owed : (version : Version) (p q : PendingRequest) → IsSameRequest p q → is_update_of version p ≡ is_update_of version q
same_owed version p q same = rw same.op (rw same.version refl)

latch_same : (p : PendingRequest) → IsSameRequest (with_latch p true) p
unfolding with_latch
latch_same p = record { name = refl; op = refl; version = refl }

latched_owed : (version : Version) (requests : List PendingRequest) (i : ℕ) (found : Option PendingRequest) → slice_get requests i ≡ found → count_by (is_update_of version) (latched requests i found) ≡ count_by (is_update_of version) requests
latched_owed version requests i None got = refl
latched_owed version requests i (Some p) got = owed_set version requests i (with_latch p true) p got (same_owed version (with_latch p true) p (latch_same p))

marked_owed : (version : Version) (requests : List PendingRequest) (i : ℕ) (ask : Ask LatchAnswer) → count_by (is_update_of version) (latch_marked requests i ask) ≡ count_by (is_update_of version) requests
unfolding latch_marked
marked_owed version requests i (Done Taken) = latched_owed version requests i (slice_get requests i) refl
marked_owed version requests i ask = refl

-- as many are owed of other requests
owed_kept : (n : ℕ) (words : ℕ → ℕ) (left : Option ℕ) (version : ℕ) (requests after : List PendingRequest) → (1 ≤ version → version ≤ last_version → owed_of version after ≡ owed_of version requests) → IsMarked n words left version requests
    → IsMarked n words left version after
owed_kept n words left version requests after same marked = record { cut = marked.cut; owing = kept left marked.cut marked.owing }
  where
    kept : (left : Option ℕ) → HasCut n words left version → HasOwing n words left version requests → HasOwing n words left version after
    kept None cut has = tt
    kept (Some serial) cut has = has ∙ sym (same cut.0 cut.1)

-- what happens to a session of which this is told
pub record Moment : Type 0 where
  pub seat : Seat
  pub words : ℕ → ℕ
  pub left : Option ℕ
  -- the version and the serial that it had
  pub version : ℕ
  pub serial : ℕ

abbrev pub LeavesSo : Moment → SessionState → Option ℕ → Type 0
LeavesSo m s left = left_with (s.seen.version.0 == m.version) m.serial m.left ≡ left

abbrev pub MarksAfter : Moment → SessionState → Type 0
MarksAfter m s = StepMarks m.seat m.words (left_with (s.seen.version.0 == m.version) m.serial m.left) s s.step

pub still : (m : Moment) (s : SessionState) (left : Option ℕ) (step : Sitting) → LeavesSo m s left → s.step ≡ step → StepMarks m.seat m.words left s step → MarksAfter m s
still m s left step so e marks = rw so (subst (λ (x : Sitting). StepMarks m.seat m.words left s x) (sym e) marks)

pub either_marks : (c : Bool) (m : Moment) (a b : SessionState) → MarksAfter m a → MarksAfter m b → MarksAfter m (if c then a else b)
either_marks true m a b one other = one
either_marks false m a b one other = other

abbrev pub MarkedBy : Moment → SessionState → Option ℕ → Type 0
MarkedBy m s left = IsMarked m.seat.number m.words left s.seen.version.0 s.requests

pub answer_marks : (m : Moment) (s : SessionState) (its : Told) (left : Option ℕ) → LeavesSo m s left → MarkedBy m s left → MarksAfter m (answers s its)
answer_marks m s its left so marked = still m (answers s its) left (Idle its) so refl marked

turn_marks : (m : Moment) (s : SessionState) (its : Told) (left : Option ℕ) → LeavesSo m s left → MarkedBy m s left → MarksAfter m (answers_after_turn s its)
turn_marks m s its left so marked =
    let turns : SessionState = record s { own_turn = own_turn_begun s.own_turn; step = Turns its } in
    either_marks s.wants_turn m turns (answers s its) (still m turns left (Turns its) so refl (marked, own_turn_begun_spares s.own_turn)) (answer_marks m s its left so marked)

pub attempts_marks : (m : Moment) (s : SessionState) (has_shifted : Bool) (left : Option ℕ) → LeavesSo m s left → MarkedBy m s left → MarksAfter m (attempts m.seat s has_shifted)
unfolding attempts
attempts_marks m s has_shifted left so marked =
    let same = begun_same m.seat.places (bits_of m.seat) (request_in_hand s) s.seen (AtCall (bounds_of m.seat.shape)) s.spare s.is_orphaned in
    let begun : SessionState = record s { attempt = attempt_begun m.seat.places (bits_of m.seat) (request_in_hand s) s.seen (AtCall (bounds_of m.seat.shape)) s.spare s.is_orphaned; step = Attempts has_shifted } in
    still m begun left (Attempts has_shifted) so refl (marked, ap (λ (v : Version). v.0) same.version)

found_marks : (m : Moment) (s : SessionState) (i : ℕ) (found : Option PendingRequest) (left : Option ℕ) → slice_get s.requests i ≡ found → LeavesSo m s left → MarkedBy m s left → MarksAfter m (polls_request m.seat s i found)
found_marks m s i None left got so marked = turn_marks m s (told.Polled (length s.requests)) left so marked
found_marks m s i (Some pending) left got so marked =
    let begun : SessionState = record s { attempt = attempt_begun m.seat.places (bits_of m.seat) pending s.seen AtPoll s.spare s.is_orphaned; step = Polls i } in
    still m begun left (Polls i) so refl (marked, record { its = pending; at = got; same = begun_same m.seat.places (bits_of m.seat) pending s.seen AtPoll s.spare s.is_orphaned })

pub polls_marks : (m : Moment) (s : SessionState) (i : ℕ) (left : Option ℕ) → LeavesSo m s left → MarkedBy m s left → MarksAfter m (polls_at m.seat s i)
unfolding polls_at
polls_marks m s i left so marked = found_marks m s i (slice_get s.requests i) left refl so marked

-- a request that is accepted is of the session's version
and_false : (b c : Bool) → c ≡ false → (b && c) ≡ false
and_false true c e = e
and_false false c e = refl

newest : (v : ℕ) → 1 ≤ v → v ≤ last_version → (version_within v == v - 1) ≡ false
newest v some fits = apart (version_within v) (v - 1) (inr (omega (arith, some, fits)))

newest_owed : (v : ℕ) (p : PendingRequest) → p.request.version.0 ≡ version_within v → 1 ≤ v → v ≤ last_version → is_update_of (record { 0 = v - 1 }) p ≡ false
newest_owed v p its some fits = and_false (not (is_read p.request.op)) (p.request.version.0 == v - 1) (ap (λ (n : ℕ). n == v - 1) its ∙ newest v some fits)

accepted_marks : (m : Moment) (s : SessionState) (left : Option ℕ) → s.attempt.pending.request.version.0 ≡ version_within s.seen.version.0 → MarkedBy m s left → MarkedBy m (with_request s) left
accepted_marks m s left its marked =
    owed_kept m.seat.number m.words left s.seen.version.0 s.requests (s.requests ++ s.attempt.pending ∷ [])
    (λ some fits. owed_append (record { 0 = s.seen.version.0 - 1 }) s.requests s.attempt.pending (newest_owed s.seen.version.0 s.attempt.pending its some fits)) marked

accepts_marks : (m : Moment) (s : SessionState) (why : Reason) (left : Option ℕ) → LeavesSo m s left → s.attempt.pending.request.version.0 ≡ version_within s.seen.version.0 → MarkedBy m s left → MarksAfter m (accepts s why)
unfolding accepts
accepts_marks m s why left so its marked =
    either_marks (is_read s.op) m _ _
    (answer_marks m (with_request (record s { ticket = ticket_after s.ticket })) (told.PendingRead (record { 0 = ticket_after s.ticket })) left so (accepted_marks m (record s { ticket = ticket_after s.ticket }) left its marked))
    (turn_marks m (with_request (serial_taken (record s { wants_turn = is_no_room why }))) (told.Pending (record { 0 = s.serial + 1 }) why) left so (accepted_marks m (serial_taken (record s { wants_turn = is_no_room why })) left its marked))

shifts_marks : (m : Moment) (s : SessionState) (has_shifted : Bool) (left : Option ℕ) → LeavesSo m s left → s.attempt.pending.request.version.0 ≡ version_within s.seen.version.0 → MarkedBy m s left → MarksAfter m (shifts s has_shifted)
unfolding shifts
shifts_marks m s false left so its marked = still m (record s { catching = refresh_begun s.catching s.seen s.serial; step = CatchesUp Shifts }) left (CatchesUp Shifts) so refl (record { serial = refl; at = (refl, marked) })
shifts_marks m s true left so its marked = accepts_marks m s reason.Contended left so its marked

attempted_marks : (m : Moment) (s : SessionState) (has_shifted : Bool) (its : TryAnswer) (left : Option ℕ) → LeavesSo m s left → s.attempt.pending.request.version.0 ≡ version_within s.seen.version.0 → MarkedBy m s left
    → MarksAfter m (attempted s has_shifted its)
attempted_marks m s has_shifted (tried.Done reply) left so its marked = either_marks (is_read s.op) m (answers s told.Absent) (update_done s reply) (answer_marks m s told.Absent left so marked) (answer_marks m (serial_taken s) (told.Done (record { 0 = s.serial + 1 }) reply) left so marked)
attempted_marks m s has_shifted (tried.Found value) left so its marked = answer_marks m s (told.Found value) left so marked
attempted_marks m s has_shifted tried.Absent left so its marked = answer_marks m s told.Absent left so marked
attempted_marks m s has_shifted (tried.Wait why) left so its marked = accepts_marks m s why left so its marked
attempted_marks m s has_shifted (tried.AwaitsDisk sought) left so its marked = accepts_marks m s reason.Disk left so its marked
attempted_marks m s has_shifted tried.Shift left so its marked = shifts_marks m s has_shifted left so its marked
attempted_marks m s has_shifted tried.IndexFull left so its marked = answer_marks m s (told.Refused fault.IndexFull) left so marked
attempted_marks m s has_shifted tried.LogFull left so its marked = answer_marks m s (told.Refused fault.LogFull) left so marked

attempt_marks : (m : Moment) (s : SessionState) (has_shifted : Bool) (ask : Ask TryAnswer) (left : Option ℕ) → s.step ≡ Attempts has_shifted → LeavesSo m s left → s.attempt.pending.request.version.0 ≡ version_within s.seen.version.0 → MarkedBy m s left
    → MarksAfter m (attempt_ledto s has_shifted ask)
unfolding attempt_ledto
attempt_marks m s has_shifted (Done its) left e so newest_one marked = attempted_marks m (attempt_left s) has_shifted its left so newest_one marked
attempt_marks m s has_shifted ask left e so newest_one marked = still m s left (Attempts has_shifted) so e (marked, newest_one)

caught_up_marks : (m : Moment) (s : SessionState) (cause : CatchCause) (left : Option ℕ) → LeavesSo m s left → MarkedBy m s left → MarksAfter m (caught_up m.seat s cause)
caught_up_marks m s Refreshes left so marked = answer_marks m s (told.Refreshed s.seen.phase s.seen.version) left so marked
caught_up_marks m s Wakes left so marked = answer_marks m (record s { is_awake = true }) (told.Woken s.seen.phase s.seen.version) left so marked
caught_up_marks m s Shifts left so marked = attempts_marks m s true left so marked

-- where a take-up ends all is told of the version that was left
pub same_left : (n serial : ℕ) (left : Option ℕ) → left_with (n == n) serial left ≡ left
same_left n serial left = let same : (n == n) ≡ true = grind (arith, nat_tests) in rw same refl

ended_marks : (p : Places) (n : ℕ) (words : ℕ → ℕ) (left : Option ℕ) (seen : Seen) (serial : ℕ) (c : CatchState) (requests : List PendingRequest) (step : Catching) (its : Unit {0}) → catching_ask p n c requests step ≡ Done its
    → CatchAt n words left seen serial c requests step → IsMarked n words (left_with (c.seen.version.0 == seen.version.0) serial left) c.seen.version.0 requests
unfolding catching_ask
ended_marks p n words left seen serial c requests catching.Refreshes its e at = rw at.0 (rw (same_left seen.version.0 serial left) at.1)
ended_marks p n words left seen serial c requests catching.Protects its e at = rw at.0 (rw (same_left seen.version.0 serial left) at.1)
ended_marks p n words left seen serial c requests catching.StoresCut its e at = cc
ended_marks p n words left seen serial c requests catching.StoresOwing its e at = cc
ended_marks p n words left seen serial c requests catching.Ended its e at = at
ended_marks p n words left seen serial c requests (catching.Latches i) its e at = at
ended_marks p n words left seen serial c requests catching.Finishes its e at = at

-- a session that has not changed its version yet
abbrev pub HasNotLeft : Moment → SessionState → Type 0
HasNotLeft m s = (m.version ≡ s.seen.version.0) × (m.serial ≡ s.serial)

catch_marks : (m : Moment) (s : SessionState) (cause : CatchCause) (ask : Ask (Unit {0})) → s.step ≡ CatchesUp cause → catch_ask m.seat.places m.seat.number s.catching s.requests ≡ ask → HasNotLeft m s
    → IsCatching m.seat.number m.words m.left s → MarksAfter m (catch_ledto m.seat s cause ask)
unfolding catch_ledto
catch_marks m s cause (Done its) e asks same at =
    let ended = ended_marks m.seat.places m.seat.number m.words m.left s.seen s.serial s.catching s.requests s.catching.step its asks at.at in
    let so : LeavesSo m (record s { seen = s.catching.seen }) (left_with (s.catching.seen.version.0 == s.seen.version.0) s.serial m.left) = rw same.0 (rw same.1 refl) in
    caught_up_marks m (record s { seen = s.catching.seen }) cause (left_with (s.catching.seen.version.0 == s.seen.version.0) s.serial m.left) so ended
catch_marks m s cause ask e asks same at =
    still m s m.left (CatchesUp cause) (ap (λ (n : ℕ). left_with (s.seen.version.0 == n) m.serial m.left) same.0 ∙ same_left s.seen.version.0 m.serial m.left) e (record { serial = at.serial; at = at.at })

-- the take-up
either_at : (c : Bool) (n : ℕ) (words : ℕ → ℕ) (left : Option ℕ) (seen : Seen) (serial : ℕ) (a b : CatchState) (requests : List PendingRequest) → CatchAt n words left seen serial a requests a.step → CatchAt n words left seen serial b requests b.step
    → CatchAt n words left seen serial (if c then a else b) requests (if c then a else b).step
either_at true n words left seen serial a b requests one other = one
either_at false n words left seen serial a b requests one other = other

abbrev pub IsPast : ℕ → (ℕ → ℕ) → Option ℕ → Seen → ℕ → CatchState → List PendingRequest → Type 0
IsPast n words left seen serial c requests = IsMarked n words (left_with (c.seen.version.0 == seen.version.0) serial left) c.seen.version.0 requests

abbrev pub IsAtOf : ℕ → (ℕ → ℕ) → Option ℕ → Seen → ℕ → CatchState → List PendingRequest → Type 0
IsAtOf n words left seen serial c requests = CatchAt n words left seen serial c requests c.step

finishes_at : (n : ℕ) (words : ℕ → ℕ) (left : Option ℕ) (seen : Seen) (serial : ℕ) (c : CatchState) (requests : List PendingRequest) → IsPast n words left seen serial c requests → IsAtOf n words left seen serial (finishes c) requests
finishes_at n words left seen serial c requests past = either_at c.is_refresh n words left seen serial (record c { refreshing = refresh_finish c.refreshing; step = catching.Finishes }) (record c { step = catching.Ended }) requests past past

begun_at : (p : Places) (bits n : ℕ) (words : ℕ → ℕ) (left : Option ℕ) (seen : Seen) (serial : ℕ) (c : CatchState) (requests : List PendingRequest) (i : ℕ) (found : Option PendingRequest) → IsPast n words left seen serial c requests
    → IsAtOf n words left seen serial (latch_begun p bits c i found) requests
begun_at p bits n words left seen serial c requests i None past = finishes_at n words left seen serial c requests past
begun_at p bits n words left seen serial c requests i (Some pending) past = past

wanted_at : (p : Places) (bits n : ℕ) (words : ℕ → ℕ) (left : Option ℕ) (seen : Seen) (serial : ℕ) (c : CatchState) (requests : List PendingRequest) (at : Option ℕ) → IsPast n words left seen serial c requests
    → IsAtOf n words left seen serial (latch_wanted p bits c requests at) requests
wanted_at p bits n words left seen serial c requests None past = finishes_at n words left seen serial c requests past
wanted_at p bits n words left seen serial c requests (Some i) past = begun_at p bits n words left seen serial c requests i (slice_get requests i) past

latches_at : (p : Places) (bits n : ℕ) (words : ℕ → ℕ) (left : Option ℕ) (seen : Seen) (serial : ℕ) (c : CatchState) (requests : List PendingRequest) → IsPast n words left seen serial c requests
    → IsAtOf n words left seen serial (latches p bits c requests) requests
latches_at p bits n words left seen serial c requests past =
    either_at c.is_entering n words left seen serial (latch_wanted p bits c requests (position is_unlatched requests)) (finishes c) requests (wanted_at p bits n words left seen serial c requests (position is_unlatched requests) past)
    (finishes_at n words left seen serial c requests past)

equal_number : (a b : ℕ) → (a == b) ≡ true → a ≡ b
equal_number a b e = grind (arith, nat_tests, e)

turned_test : (a b : ℕ) (c : Bool) → (a == b) ≡ c → (b == a) ≡ c
turned_test a b true e = let same : a ≡ b = equal_number a b e in grind (arith, nat_tests, same)
turned_test a b false e = grind (arith, nat_tests, e)

-- a version that a phase word says is one that there is
abbrev pub FitsVersion : ℕ → Type 0
FitsVersion version = (1 ≤ version) × (version ≤ last_version)

abbrev pub SaysVersion : PhaseSaid → Type 0
SaysVersion Spoiled = Unit {0}
SaysVersion (Says phase version) = FitsVersion version.0

says_fits : (word : ℕ) (said : PhaseSaid) → phase_said word ≡ said → SaysVersion said
says_fits word Spoiled e = tt
says_fits word (Says phase version) e = said_version word phase version e

phase_fits : (word : ℕ) → SaysVersion (phase_said word)
phase_fits word = says_fits word (phase_said word) refl

seen_fits : (seen : Seen) (values : loaded.Seen) (said : PhaseSaid) → SaysVersion said → is_same_version seen (seen_after seen values said) ≡ false → FitsVersion (seen_after seen values said).version.0
seen_fits seen values Spoiled says e = let same : (seen.version.0 == seen.version.0) ≡ true = grind (arith, nat_tests) in cc
seen_fits seen values (Says phase version) says e = says

cuts_at : (p : Places) (bits n : ℕ) (words : ℕ → ℕ) (left : Option ℕ) (seen : Seen) (serial : ℕ) (c : CatchState) (requests : List PendingRequest) (same : Bool) → (c.seen.version.0 == seen.version.0) ≡ same → (same ≡ false → FitsVersion c.seen.version.0) → IsMarked n words left seen.version.0 requests
    → IsAtOf n words left seen serial (cuts p bits c requests (not same)) requests
cuts_at p bits n words left seen serial c requests false e fits marked = (e, (fits refl).0, (fits refl).1)
cuts_at p bits n words left seen serial c requests true e fits marked =
    let its : c.seen.version.0 ≡ seen.version.0 = equal_number c.seen.version.0 seen.version.0 e in
    latches_at p bits n words left seen serial c requests (rw e (rw its marked))

takes_at : (p : Places) (bits n : ℕ) (words : ℕ → ℕ) (left : Option ℕ) (seen : Seen) (serial : ℕ) (c : CatchState) (requests : List PendingRequest) (after : Seen) → c.seen ≡ seen → (is_same_version c.seen after ≡ false → FitsVersion after.version.0) → IsMarked n words left seen.version.0 requests
    → IsAtOf n words left seen serial (takes_up p bits c requests after) requests
takes_at p bits n words left seen serial c requests after e fits marked =
    cuts_at p bits n words left seen serial (record c { seen = after; is_entering = enters_prepare c.seen after }) requests (is_same_version c.seen after)
    (turned_test seen.version.0 after.version.0 (is_same_version c.seen after) (ap (λ (x : Seen). x.version.0 == after.version.0) (sym e))) fits marked

still_at : (n : ℕ) (words : ℕ → ℕ) (left : Option ℕ) (seen : Seen) (serial : ℕ) (c : CatchState) (requests : List PendingRequest) (step : Catching) → c.step ≡ step → CatchAt n words left seen serial c requests step → IsAtOf n words left seen serial c requests
still_at n words left seen serial c requests step e at = subst (λ (x : Catching). CatchAt n words left seen serial c requests x) (sym e) at

refreshed_at : (p : Places) (bits n : ℕ) (words : ℕ → ℕ) (left : Option ℕ) (seen : Seen) (serial : ℕ) (c : CatchState) (requests : List PendingRequest) (ask : Ask RefreshAnswer) → c.step ≡ catching.Refreshes → c.seen ≡ seen
    → IsMarked n words left seen.version.0 requests → IsAtOf n words left seen serial (refresh_ledto p bits c requests ask) requests
unfolding refresh_ledto
refreshed_at p bits n words left seen serial c requests (Done (Loaded values)) s e marked = takes_at p bits n words left seen serial c requests (seen_after c.seen values (phase_said values.phase)) e (seen_fits c.seen values (phase_said values.phase) (phase_fits values.phase)) marked
refreshed_at p bits n words left seen serial c requests (Done Stored) s e marked = rw e (rw (same_left seen.version.0 serial left) marked)
refreshed_at p bits n words left seen serial c requests ask s e marked = still_at n words left seen serial c requests catching.Refreshes s (e, marked)

protected_at : (p : Places) (bits n : ℕ) (words : ℕ → ℕ) (left : Option ℕ) (seen : Seen) (serial : ℕ) (c : CatchState) (requests : List PendingRequest) (ask : Ask loaded.Seen) → c.step ≡ catching.Protects → c.seen ≡ seen
    → IsMarked n words left seen.version.0 requests → IsAtOf n words left seen serial (protect_ledto p bits c requests ask) requests
unfolding protect_ledto
protected_at p bits n words left seen serial c requests (Done values) s e marked = takes_at p bits n words left seen serial c requests (seen_after c.seen values (phase_said values.phase)) e (seen_fits c.seen values (phase_said values.phase) (phase_fits values.phase)) marked
protected_at p bits n words left seen serial c requests ask s e marked = still_at n words left seen serial c requests catching.Protects s (e, marked)

latch_at : (p : Places) (bits n : ℕ) (words : ℕ → ℕ) (left : Option ℕ) (seen : Seen) (serial : ℕ) (c : CatchState) (requests : List PendingRequest) (i : ℕ) (ask : Ask LatchAnswer) → c.step ≡ catching.Latches i
    → IsPast n words left seen serial c requests → IsAtOf n words left seen serial (latch_ledto p bits c requests ask) requests
unfolding latch_ledto
latch_at p bits n words left seen serial c requests i (Done Taken) s past = latches_at p bits n words left seen serial c requests past
latch_at p bits n words left seen serial c requests i (Done its) s past = finishes_at n words left seen serial c requests past
latch_at p bits n words left seen serial c requests i ask s past = still_at n words left seen serial c requests (catching.Latches i) s past

finish_at : (n : ℕ) (words : ℕ → ℕ) (left : Option ℕ) (seen : Seen) (serial : ℕ) (c : CatchState) (requests : List PendingRequest) (ask : Ask RefreshAnswer) → c.step ≡ catching.Finishes → IsPast n words left seen serial c requests
    → IsAtOf n words left seen serial (finish_ledto c ask) requests
unfolding finish_ledto
finish_at n words left seen serial c requests (Done its) s past = past
finish_at n words left seen serial c requests ask s past = still_at n words left seen serial c requests catching.Finishes s past

step_at : (p : Places) (bits n : ℕ) (words : ℕ → ℕ) (left : Option ℕ) (seen : Seen) (serial : ℕ) (c : CatchState) (requests : List PendingRequest) (step : Catching) (reply : ℕ) → c.step ≡ step
    → ReadyAt n words left seen serial c requests step
    → IsAtOf n words left seen serial (catching_next p bits n c (catching_requests c requests step reply) step reply) (catching_requests c requests step reply)
unfolding catching_next catching_requests
step_at p bits n words left seen serial c requests catching.Ended reply s at = still_at n words left seen serial c requests catching.Ended s at
step_at p bits n words left seen serial c requests catching.Refreshes reply s at = refreshed_at p bits n words left seen serial (record c { refreshing = refresh_next c.refreshing reply }) requests _ s at.0 at.1
step_at p bits n words left seen serial c requests catching.Protects reply s at = protected_at p bits n words left seen serial (record c { protecting = protect_next c.protecting reply }) requests _ s at.0 at.1
step_at p bits n words left seen serial c requests catching.StoresCut reply s at = at
step_at p bits n words left seen serial c requests catching.StoresOwing reply s at = latches_at p bits n words left seen serial c requests at
step_at p bits n words left seen serial c requests (catching.Latches i) reply s at =
    let its : CatchState = record c { latching = latch_next c.latching reply } in
    let after : List PendingRequest = latch_marked requests i (latch_next_ask c.latching reply) in
    latch_at p bits n words left seen serial its after i _ s
    (owed_kept n words (left_with (c.seen.version.0 == seen.version.0) serial left) c.seen.version.0 requests after (λ some fits. marked_owed (record { 0 = c.seen.version.0 - 1 }) requests i (latch_next_ask c.latching reply)) at)
step_at p bits n words left seen serial c requests catching.Finishes reply s at = finish_at n words left seen serial (record c { refreshing = refresh_next c.refreshing reply }) requests _ s at

twice_off : {A : Type 0} (n : ℕ) (ask : Ask A) → StoresOff n ask → StoresOff n (passed {B = Told} (passed {B = Unit {0}} ask tt) told.Slept)
twice_off n ask off = passed_off n (passed ask tt) told.Slept (passed_off n ask tt off)

-- what the step stores
ready_at : (k : Seat) (words : ℕ → ℕ) (left : Option ℕ) (s : SessionState) (step : Catching) → s.catching.serial ≡ s.serial → CatchAt k.number words left s.seen s.serial s.catching s.requests step
    → ReadyAt k.number (λ place. stored_by (passed (catching_ask k.places k.number s.catching s.requests step) told.Slept) place (words place)) left s.seen s.serial s.catching s.requests step
unfolding catching_ask passed
ready_at k words left s catching.Ended same at = marked_off k.number (Done told.Slept) words (left_with (s.catching.seen.version.0 == s.seen.version.0) s.serial left) s.catching.seen.version.0 s.requests tt at
ready_at k words left s catching.Refreshes same at = (at.0, marked_off k.number _ words left s.seen.version.0 s.requests (twice_off k.number _ (refresh_off k.number s.catching.refreshing)) at.1)
ready_at k words left s catching.Protects same at = (at.0, marked_off k.number _ words left s.seen.version.0 s.requests (twice_off k.number _ (protect_off k.number s.catching.protecting)) at.1)
ready_at k words left s catching.StoresCut same at =
    (at.0, at.1, at.2, same_place (session_place k.number (cut_of (s.catching.seen.version.0 - 1))) (cut_at s.catching.serial (s.catching.seen.version.0 - 1)) _ ∙ ap (λ (n : ℕ). cut_at n (s.catching.seen.version.0 - 1)) same)
ready_at k words left s catching.StoresOwing same at =
    let cut = other_place (session_place k.number own.Owing) (session_place k.number (cut_of (s.catching.seen.version.0 - 1))) _ (words (session_place k.number (cut_of (s.catching.seen.version.0 - 1)))) (inr (cut_below k.number ((s.catching.seen.version.0 - 1) % 2 == 0))) in
    rw at.0 (record { cut = (at.1, at.2, cut ∙ at.3); owing = same_place (session_place k.number own.Owing) _ (words (session_place k.number own.Owing)) })
ready_at k words left s (catching.Latches i) same at =
    marked_off k.number _ words (left_with (s.catching.seen.version.0 == s.seen.version.0) s.serial left) s.catching.seen.version.0 s.requests (twice_off k.number _ (latch_off k.number s.catching.latching)) at
ready_at k words left s catching.Finishes same at =
    marked_off k.number _ words (left_with (s.catching.seen.version.0 == s.seen.version.0) s.serial left) s.catching.seen.version.0 s.requests (twice_off k.number _ (refresh_off k.number s.catching.refreshing)) at

-- polls, turns and sleep
clear_marks : (m : Moment) (s : SessionState) (ask : Ask MailAnswer) (left : Option ℕ) → s.step ≡ ClearsMail → LeavesSo m s left → MarkedBy m s left → MarksAfter m (clear_ledto m.seat s ask)
unfolding clear_ledto
clear_marks m s (Done Cleared) left e so marked = polls_marks m (record s { is_orphaned = false }) 0 left so marked
clear_marks m s (Done its) left e so marked = polls_marks m s 0 left so marked
clear_marks m s ask left e so marked = still m s left ClearsMail so e marked

not_owing : (update : Bool) (version v : ℕ) → 1 ≤ v → (update && nat_lt version v) ≡ false → (update && version == v - 1) ≡ false
not_owing false version v some e = refl
not_owing true version v some e = let above : v ≤ version = grind (arith, nat_tests, e) in apart version (v - 1) (inr (omega (arith, above, some)))

finishes_either : (m : Moment) (s : SessionState) (i : ℕ) (its : TryAnswer) (left : Option ℕ) (c : Bool) → is_owed s ≡ c → LeavesSo m s left → MarkedBy m s left → IsAt s.requests i s.attempt.pending
    → MarksAfter m (if c then request_finished s i its else polls_at m.seat (request_finished s i its) i)
finishes_either m s i its left true e so marked at = still m (request_finished s i its) left (StoresOwing i) so refl marked.cut
finishes_either m s i its left false e so marked at =
    polls_marks m (request_finished s i its) i left so
    (owed_kept m.seat.number m.words left s.seen.version.0 s.requests (remove s.requests i)
    (λ some fits. owed_removed (record { 0 = s.seen.version.0 - 1 }) s.requests i at.its at.at
    (sym (same_owed (record { 0 = s.seen.version.0 - 1 }) s.attempt.pending at.its at.same) ∙ not_owing (not (is_read s.attempt.pending.request.op)) s.attempt.pending.request.version.0 s.seen.version.0 some e)) marked)

finishes_marks : (m : Moment) (s : SessionState) (i : ℕ) (its : TryAnswer) (left : Option ℕ) → LeavesSo m s left → MarkedBy m s left → IsAt s.requests i s.attempt.pending → MarksAfter m (finishes_request m.seat s i its)
unfolding finishes_request
finishes_marks m s i its left so marked at = finishes_either m s i its left (is_owed s) refl so marked at

keeps_marks : (m : Moment) (s : SessionState) (i : ℕ) (its : TryAnswer) (left : Option ℕ) → LeavesSo m s left → MarkedBy m s left → IsAt s.requests i s.attempt.pending → MarksAfter m (keeps_request m.seat s i its)
unfolding keeps_request
keeps_marks m s i its left so marked at =
    let after : SessionState = record s { requests = slice_set s.requests i s.attempt.pending; wants_turn = s.wants_turn || lacks_room its } in
    polls_marks m after (i + 1) left so
    (owed_kept m.seat.number m.words left s.seen.version.0 s.requests (slice_set s.requests i s.attempt.pending)
    (λ some fits. owed_set (record { 0 = s.seen.version.0 - 1 }) s.requests i s.attempt.pending at.its at.at (same_owed (record { 0 = s.seen.version.0 - 1 }) s.attempt.pending at.its at.same)) marked)

poll_marks : (m : Moment) (s : SessionState) (i : ℕ) (ask : Ask TryAnswer) (left : Option ℕ) → s.step ≡ Polls i → LeavesSo m s left → MarkedBy m s left → IsAt s.requests i s.attempt.pending → MarksAfter m (poll_ledto m.seat s i ask)
unfolding poll_ledto
poll_marks m s i (Done its) left e so marked at =
    let at_left : IsAt s.requests i s.attempt.pending = record { its = at.its; at = at.at; same = at.same } in
    either_marks (is_finished its) m (finishes_request m.seat (poll_left s) i its) (keeps_request m.seat (poll_left s) i its) (finishes_marks m (poll_left s) i its left so marked at_left) (keeps_marks m (poll_left s) i its left so marked at_left)
poll_marks m s i ask left e so marked at = still m s left (Polls i) so e (marked, at)

pub turned_marks : (m : Moment) (s : SessionState) (its : Told) (ask : Ask (Unit {0})) (left : Option ℕ) → s.step ≡ Turns its → LeavesSo m s left → MarkedBy m s left → IsOwnTurnSparing s.own_turn → MarksAfter m (turn_ledto s its ask)
unfolding turn_ledto
turned_marks m s its (Done through) left e so marked sparing = answer_marks m s its left so marked
turned_marks m s its ask left e so marked sparing = still m s left (Turns its) so e (marked, sparing)

left_marks : (m : Moment) (s : SessionState) (ask : Ask (Unit {0})) (left : Option ℕ) → s.step ≡ Leaves → LeavesSo m s left → MarkedBy m s left → MarksAfter m (leave_ledto s ask)
unfolding leave_ledto
left_marks m s (Done its) left e so marked = answer_marks m (record s { is_awake = false }) told.Slept left so marked
left_marks m s ask left e so marked = still m s left Leaves so e marked

-- a poll stores how many are left
owing_stored : (n : ℕ) (words : ℕ → ℕ) (left : Option ℕ) (version : ℕ) (requests : List PendingRequest) → HasCut n words left version
    → IsMarked n (λ place. stored_by (Store (session_place n own.Owing) (owed_of version requests)) place (words place)) left version requests
owing_stored n words None version requests has = record { cut = tt; owing = tt }
owing_stored n words (Some serial) version requests has = record {
  cut = (has.0, has.1, other_place (session_place n own.Owing) (session_place n (cut_of (version - 1))) _ (words (session_place n (cut_of (version - 1)))) (inr (cut_below n ((version - 1) % 2 == 0))) ∙ has.2);
  owing = same_place (session_place n own.Owing) _ (words (session_place n own.Owing));
}

-- sleep stores the other cut word
cut_stored : (n : ℕ) (words : ℕ → ℕ) (left : Option ℕ) (version word : ℕ) (requests : List PendingRequest) → IsMarked n words left version requests
    → IsMarked n (λ place. stored_by (Store (session_place n (cut_of version)) word) place (words place)) left version requests
cut_stored n words None version word requests marked = record { cut = tt; owing = tt }
cut_stored n words (Some serial) version word requests marked =
    let other = other_cut n (version % 2 == 0) ((version - 1) % 2 == 0) (parity version marked.cut.0) in
    record {
      cut = (marked.cut.0, marked.cut.1, other_place (session_place n (cut_of version)) (session_place n (cut_of (version - 1))) word (words (session_place n (cut_of (version - 1)))) other ∙ marked.cut.2);
      owing = other_place (session_place n (cut_of version)) (session_place n own.Owing) word (words (session_place n own.Owing)) (inl (cut_below n (version % 2 == 0))) ∙ marked.owing;
    }

same_through : (p q o : PendingRequest) → IsSameRequest p q → IsSameRequest q o → IsSameRequest p o
same_through p q o one other = record { name = one.name ∙ other.name; op = one.op ∙ other.op; version = one.version ∙ other.version }

-- the moment of a reply
abbrev pub moment_of : Seat → (ℕ → ℕ) → Option ℕ → SessionState → Moment
moment_of k words left s = record { seat = k; words = words; left = left; version = s.seen.version.0; serial = s.serial }

pub next_marks : (k : Seat) (words : ℕ → ℕ) (left : Option ℕ) (s : SessionState) (asks : ℕ) (step : Sitting) (reply : ℕ) → s.step ≡ step → is_busy step ≡ true → k.number < k.places.sessions → StepMarks k words left s step
    → MarksAfter (moment_of k (λ place. stored_by (sitting_ask k s step) place (words place)) left s) (sitting_next k (record s { asks = asks; effect = None }) step reply)
unfolding sitting_next sitting_ask
next_marks k words left s asks (Idle its) reply e busy some marks = cc
next_marks k words left s asks (Attempts has_shifted) reply e busy some marks =
    let t : SessionState = record s { asks = asks; effect = None } in
    attempt_marks (moment_of k _ left s) (attempt_moved k t reply) has_shifted _ left e (same_left s.seen.version.0 s.serial left)
    (ap (λ (v : Version). v.0) (attempt_keeps k.places (bits_of k) (room_of k) k.number s.attempt reply).version ∙ marks.1)
    (marked_off k.number _ words left s.seen.version.0 s.requests (passed_off k.number _ told.Slept (attempt_off k.places k.number s.attempt some)) marks.0)
next_marks k words left s asks (CatchesUp cause) reply e busy some marks =
    let t : SessionState = record s { asks = asks; effect = None } in
    catch_marks (moment_of k _ left s) (caught k t reply) cause _ e refl (refl, refl)
    (record {
      serial = catch_serial k.places (bits_of k) k.number s.catching s.requests reply ∙ marks.serial;
      at = step_at k.places (bits_of k) k.number _ left s.seen s.serial s.catching s.requests s.catching.step reply refl (ready_at k words left s s.catching.step marks.serial marks.at);
    })
next_marks k words left s asks ClearsMail reply e busy some marks =
    let t : SessionState = record s { asks = asks; effect = None } in
    clear_marks (moment_of k _ left s) (record t { mailing = mail_next s.mailing reply }) _ left e (same_left s.seen.version.0 s.serial left)
    (marked_off k.number _ words left s.seen.version.0 s.requests (passed_off k.number _ told.Slept (mail_off k.number s.mailing)) marks)
next_marks k words left s asks (Polls i) reply e busy some marks =
    let t : SessionState = record s { asks = asks; effect = None } in
    let kept = attempt_keeps k.places (bits_of k) (room_of k) k.number s.attempt reply in
    poll_marks (moment_of k _ left s) (attempt_moved k t reply) i _ left e (same_left s.seen.version.0 s.serial left)
    (marked_off k.number _ words left s.seen.version.0 s.requests (passed_off k.number _ told.Slept (attempt_off k.places k.number s.attempt some)) marks.0)
    (record { its = marks.1.its; at = marks.1.at; same = same_through _ s.attempt.pending marks.1.its kept marks.1.same })
next_marks k words left s asks (StoresOwing i) reply e busy some marks =
    let t : SessionState = record s { asks = asks; effect = None } in
    polls_marks (moment_of k _ left s) t i left (same_left s.seen.version.0 s.serial left) (owing_stored k.number words left s.seen.version.0 s.requests marks)
next_marks k words left s asks (Turns its) reply e busy some marks =
    let t : SessionState = record s { asks = asks; effect = None } in
    turned_marks (moment_of k _ left s) (own_turn_moved k t reply) its _ left e (same_left s.seen.version.0 s.serial left)
    (marked_off k.number _ words left s.seen.version.0 s.requests (passed_off k.number _ its (own_turn_off k.number k.shape s.own_turn marks.1)) marks.0) (own_turn_spares k.shape s.own_turn reply marks.1)
next_marks k words left s asks StoresCut reply e busy some marks =
    let t : SessionState = record s { asks = asks; effect = None; leaving = StoresZero; step = Leaves } in
    still (moment_of k _ left s) t left Leaves (same_left s.seen.version.0 s.serial left) refl (cut_stored k.number words left s.seen.version.0 _ s.requests marks)
next_marks k words left s asks Leaves reply e busy some marks =
    let t : SessionState = record s { asks = asks; effect = None } in
    left_marks (moment_of k _ left s) (record t { leaving = leave_next s.leaving }) _ left e (same_left s.seen.version.0 s.serial left)
    (marked_off k.number _ words left s.seen.version.0 s.requests (passed_off k.number _ told.Slept (leave_off k.number s.leaving)) marks)
next_marks k words left s asks LoadsDurable reply e busy some marks =
    let t : SessionState = record s { asks = asks; effect = None } in
    answer_marks (moment_of k _ left s) t (told.Durable (record { 0 = reply })) left (same_left s.seen.version.0 s.serial left) (marked_off k.number (Load (session_place k.number own.Durable)) words left s.seen.version.0 s.requests tt marks)
