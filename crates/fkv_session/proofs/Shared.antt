-- At every moment of a run the shares that a session has added to a latch are those that it has taken off, those that its requests share,
-- and what the machine in hand has yet to take off or keep.
use Rattle.std.proofs.Common.{◌≡◌, ℕ, ◌+◌, ◌-◌, ◌^◌, ◌∙◌, List, [], ◌∷◌, ◌++◌, length, refl, arith, ap, sym, subst, Bool, true, false}
use Rattle.std.specs.Prelude.{slice_get, slice_set, Option, Some, None, if◌then◌else◌, not, ◌==◌, ◌&&◌, ◌||◌}
use Rattle.std.specs.List.{remove}
use Rattle.fkv_words.specs.Fields.{bit_of}
use Rattle.fkv_base.specs.declared.faults.Fault.{Fault}
use Rattle.fkv_base.specs.declared.faults.Fault.TheVariants as fault
use Rattle.fkv_map.specs.declared.operations.Call.{Call}
use Rattle.fkv_map.specs.declared.operations.Call.TheVariants as call
use Rattle.fkv_map.specs.declared.operations.Op.{Op}
use Rattle.fkv_plane.specs.declared.actions.Action.{Action}
use Rattle.fkv_plane.specs.declared.asks.Ask.{Ask}
use Rattle.fkv_plane.specs.declared.asks.Ask.TheVariants.{Load, Store, Done}
use Rattle.fkv_plane.specs.declared.places.SessionWord.TheVariants as own
use Rattle.fkv_plane.specs.Places.{session_place}
use Rattle.fkv_plane.specs.Passing.{passed}
use Rattle.fkv_epoch.specs.Leaving.{leave_ask, leave_next}
use Rattle.fkv_latch.specs.declared.latching.Latching.{Latching}
use Rattle.fkv_latch.specs.declared.latching.Latching.TheVariants as latching
use Rattle.fkv_latch.specs.Latching.{one_share, latch_ask}
use Rattle.fkv_ops.specs.Bounds.{bounds_of}
use Rattle.fkv_ops.specs.declared.answers.Reason.{Reason}
use Rattle.fkv_ops.specs.declared.answers.Reason.TheVariants as reason
use Rattle.fkv_ops.specs.declared.answers.TryAnswer.{TryAnswer}
use Rattle.fkv_ops.specs.declared.answers.TryAnswer.TheVariants as tried
use Rattle.fkv_ops.specs.declared.requests.Occasion.TheVariants.{Call as AtCall, Poll as AtPoll}
use Rattle.fkv_ops.specs.Requests.{is_read}
use Rattle.fkv_ops.specs.Trying.{is_wait}
use Rattle.fkv_pending.specs.declared.attempting.Attempting.{Attempting}
use Rattle.fkv_pending.specs.declared.attempting.Attempting.TheVariants.{Ended}
use Rattle.fkv_pending.specs.declared.mailing.MailAnswer.{MailAnswer}
use Rattle.fkv_pending.specs.declared.mailing.MailAnswer.TheVariants.{Cleared}
use Rattle.fkv_pending.specs.declared.mailing.MailTask.TheVariants.{Clear}
use Rattle.fkv_pending.specs.declared.mailing.Mailing.TheVariants.{LoadsState}
use Rattle.fkv_pending.specs.declared.pending_requests.PendingRequest.{PendingRequest}
use Rattle.fkv_pending.specs.Mailing.{mail_ask, mail_next}
use Rattle.fkv_pending.specs.Attempting.{AttemptState, attempt_begun, attempt_ask, attempt_next}
use Rattle.fkv_pending.proofs.Shown.{AttemptRestsOrAsks, attempt_begun_rests, attempt_rests}
use Rattle.fkv_session.specs.declared.answers.Told.{Told}
use Rattle.fkv_session.specs.declared.answers.Told.TheVariants as told
use Rattle.fkv_session.specs.declared.catching_up.Catching.{Catching}
use Rattle.fkv_session.specs.declared.catching_up.Catching.TheVariants as catching
use Rattle.fkv_session.specs.declared.sessions.CatchCause.{CatchCause}
use Rattle.fkv_session.specs.declared.sessions.CatchCause.TheVariants.{Refreshes, Wakes, Shifts}
use Rattle.fkv_session.specs.declared.sessions.Sitting.{Sitting}
use Rattle.fkv_session.specs.declared.sessions.Sitting.TheVariants.{Idle, Attempts, CatchesUp, ClearsMail, Polls, StoresOwing, Turns, StoresCut, Leaves, LoadsDurable}
use Rattle.fkv_session.specs.CatchingUp.{CatchState, cut_of, cut_at, owing, refresh_begun, wake_begun, catching_ask, catch_ask, catch_next, catch_requests}
use Rattle.fkv_session.specs.OwnTurns.{own_turn_begun, own_turn_ask, own_turn_given}
use Rattle.fkv_session.specs.Sessions.{SessionState, Seat, IsOpened, bits_of, room_of, is_busy, answers, refuses, answers_after_turn, request_in_hand, attempts, polls_request, polls_at, refusal_of, op_begun, refresh_call, poll_begun, poll_call, sleep_call, wake_call, call_begun, ticket_after, attempt_left, poll_left, serial_taken, update_done, is_no_room, lacks_room, with_request, accepts, shifts, attempted, attempt_ledto, caught_up, catch_ledto, clear_ledto, is_finished, is_owed, request_finished, finishes_request, keeps_request, poll_ledto, turn_ledto, leave_ledto, attempt_moved, caught, own_turn_moved, sitting_ask, session_ask, sitting_next, sitting_given, asks_after, is_word_ask}
use Rattle.fkv_session.specs.SessionRun.{SessionEvent, Begins, Replies, Gets, begins, session_happens, session_run}
use Rattle.fkv_session.specs.Shares.{added_by, added_behind, times_added, shares_added, shares_dropped, HasItsBuckets, latch_of, is_sharing, sharing, OnlyUpdatesShare}
use Rattle.fkv_session.proofs.AttemptKeeps.{attempt_keeps, begun_same}
use Rattle.fkv_session.proofs.AttemptMade.{attempt_ends}
use Rattle.fkv_session.proofs.AttemptShares.{there, owed_in, ReadsNone, KnowsShare, begun_shares, attempt_shares}
use Rattle.fkv_session.proofs.CatchShares.{giving_at, LatchesSo, owed_at, KnowsCatch, catch_shares, sharing_set, sharing_removed, sharing_behind, only_set, only_removed, only_behind, only_at}
use Rattle.fkv_session.proofs.SharesSpared.{SharesNone, none_added, none_dropped, passed_added, passed_none, leave_none, mail_none, own_turn_none}

-- one latch of a store, and what was added to it and taken off by now
pub record Book : Type 0 where
  pub seat : Seat
  pub its : HasItsBuckets seat
  pub at : ℕ
  pub added : ℕ
  pub dropped : ℕ

pub record IsPlain (m : Book) (requests : List PendingRequest) : Type 0 where
  pub counted : m.added ≡ m.dropped + sharing m.seat m.at requests
  pub only : OnlyUpdatesShare requests

abbrev pub owed_by : Book → AttemptState → ℕ
owed_by m a = there (latch_of m.seat.places (bits_of m.seat) a.pending.request.op == m.at) (owed_in a a.step)

pub record IsKnown (m : Book) (a : AttemptState) : Type 0 where
  pub rests : AttemptRestsOrAsks a
  pub reads : ReadsNone a.pending
  pub knows : KnowsShare m.seat m.its a a.step

pub record IsAttempting (m : Book) (requests : List PendingRequest) (a : AttemptState) : Type 0 where
  pub counted : m.added ≡ m.dropped + (sharing m.seat m.at requests + owed_by m a)
  pub only : OnlyUpdatesShare requests
  pub known : IsKnown m a

pub record IsCatching (m : Book) (requests : List PendingRequest) (c : CatchState) : Type 0 where
  pub counted : m.added ≡ m.dropped + (sharing m.seat m.at requests + owed_at m.at c c.step)
  pub only : OnlyUpdatesShare requests
  pub knows : KnowsCatch m.seat requests c c.step

-- what the request that a poll attempts shared before is in the attempt's hand
pub record IsPolling (m : Book) (requests : List PendingRequest) (i : ℕ) (a : AttemptState) : Type 0 where
  pub pending : PendingRequest
  pub got : slice_get requests i ≡ Some pending
  pub counted : m.added + bit_of (is_sharing m.seat m.at pending) ≡ m.dropped + (sharing m.seat m.at requests + owed_by m a)
  pub only : OnlyUpdatesShare requests
  pub known : IsKnown m a

abbrev pub StepShares : Book → SessionState → Sitting → Type 0
StepShares m s (Attempts has_shifted) = IsAttempting m s.requests s.attempt
StepShares m s (CatchesUp cause) = IsCatching m s.requests s.catching
StepShares m s (Polls i) = IsPolling m s.requests i s.attempt
StepShares m s step = IsPlain m s.requests

abbrev pub SharesAfter : Book → SessionState → Type 0
SharesAfter m s = StepShares m s s.step

still : (m : Book) (s : SessionState) (step : Sitting) → s.step ≡ step → StepShares m s step → SharesAfter m s
still m s step e holds = subst (λ (x : Sitting). StepShares m s x) (sym e) holds

either_shares : (c : Bool) (m : Book) (a b : SessionState) → SharesAfter m a → SharesAfter m b → SharesAfter m (if c then a else b)
either_shares true m a b one other = one
either_shares false m a b one other = other

turn_shares : (m : Book) (s : SessionState) (its : Told) → IsPlain m s.requests → SharesAfter m (answers_after_turn s its)
turn_shares m s its plain = either_shares s.wants_turn m (record s { own_turn = own_turn_begun s.own_turn; step = Turns its }) (answers s its) plain plain

there_none : (b : Bool) (n : ℕ) → n ≡ 0 → there b n ≡ 0
there_none true n e = e
there_none false n e = refl

share_there : (has at : Bool) → bit_of (has && at) ≡ there at (bit_of has)
share_there true true = refl
share_there true false = refl
share_there false true = refl
share_there false false = refl

-- an attempt begins
attempts_shares : (m : Book) (s : SessionState) (has_shifted : Bool) → IsPlain m s.requests → SharesAfter m (attempts m.seat s has_shifted)
unfolding attempts
attempts_shares m s has_shifted plain =
    let begun = begun_shares m.seat m.its (request_in_hand s) s.seen (AtCall (bounds_of m.seat.shape)) s.spare s.is_orphaned (λ e. refl) in
    let a : AttemptState = attempt_begun m.seat.places (bits_of m.seat) (request_in_hand s) s.seen (AtCall (bounds_of m.seat.shape)) s.spare s.is_orphaned in
    let none : owed_by m a ≡ 0 = there_none (latch_of m.seat.places (bits_of m.seat) a.pending.request.op == m.at) (owed_in a a.step) begun.owes in
    let counted = plain.counted in
    record {
      counted = omega (arith, counted, none);
      only = plain.only;
      known = record { rests = attempt_begun_rests m.seat.places (bits_of m.seat) (request_in_hand s) s.seen (AtCall (bounds_of m.seat.shape)) s.spare s.is_orphaned; reads = begun.reads; knows = begun.knows };
    }

found_shares : (m : Book) (s : SessionState) (i : ℕ) (found : Option PendingRequest) → slice_get s.requests i ≡ found → IsPlain m s.requests → SharesAfter m (polls_request m.seat s i found)
found_shares m s i None got plain = turn_shares m s (told.Polled (length s.requests)) plain
found_shares m s i (Some pending) got plain =
    let begun = begun_shares m.seat m.its pending s.seen AtPoll s.spare s.is_orphaned (only_at s.requests i pending got plain.only) in
    let same = begun_same m.seat.places (bits_of m.seat) pending s.seen AtPoll s.spare s.is_orphaned in
    let a : AttemptState = attempt_begun m.seat.places (bits_of m.seat) pending s.seen AtPoll s.spare s.is_orphaned in
    let its : ◌≡◌ {A = ℕ} (owed_by m a) (there (latch_of m.seat.places (bits_of m.seat) pending.request.op == m.at) (bit_of pending.request.has_latch)) =
    ap (λ (n : ℕ). there (latch_of m.seat.places (bits_of m.seat) a.pending.request.op == m.at) n) begun.owes ∙ ap (λ (o : Op). there (latch_of m.seat.places (bits_of m.seat) o == m.at) (bit_of pending.request.has_latch)) same.op in
    let shared = share_there pending.request.has_latch (latch_of m.seat.places (bits_of m.seat) pending.request.op == m.at) in
    let counted = plain.counted in
    record {
      pending = pending;
      got = got;
      counted = omega (arith, counted, its, shared);
      only = plain.only;
      known = record { rests = attempt_begun_rests m.seat.places (bits_of m.seat) pending s.seen AtPoll s.spare s.is_orphaned; reads = begun.reads; knows = begun.knows };
    }

polls_shares : (m : Book) (s : SessionState) (i : ℕ) → IsPlain m s.requests → SharesAfter m (polls_at m.seat s i)
unfolding polls_at
polls_shares m s i plain = found_shares m s i (slice_get s.requests i) refl plain

-- an attempt of a call that has ended
pub record IsAtEnd (m : Book) (requests : List PendingRequest) (p : PendingRequest) : Type 0 where
  pub counted : m.added ≡ m.dropped + (sharing m.seat m.at requests + bit_of (is_sharing m.seat m.at p))
  pub only : OnlyUpdatesShare requests
  pub reads : ReadsNone p

ended_plain : (m : Book) (requests : List PendingRequest) (p : PendingRequest) → IsAtEnd m requests p → p.request.has_latch ≡ false → IsPlain m requests
ended_plain m requests p ends none =
    let counted = ends.counted in
    let its : ◌≡◌ {A = ℕ} (bit_of (is_sharing m.seat m.at p)) 0 = ap (λ (b : Bool). bit_of (b && latch_of m.seat.places (bits_of m.seat) p.request.op == m.at)) none in
    record { counted = omega (arith, counted, its); only = ends.only }

accepted_plain : (m : Book) (requests : List PendingRequest) (p : PendingRequest) → IsAtEnd m requests p → IsPlain m (requests ++ p ∷ [])
accepted_plain m requests p ends =
    let counted = ends.counted in
    let its = sharing_behind m.seat m.at requests p in
    record { counted = omega (arith, counted, its); only = only_behind requests p ends.reads ends.only }

accepts_shares : (m : Book) (s : SessionState) (why : Reason) → IsAtEnd m s.requests s.attempt.pending → SharesAfter m (accepts s why)
unfolding accepts
accepts_shares m s why ends =
    let plain = accepted_plain m s.requests s.attempt.pending ends in
    either_shares (is_read s.op) m (answers (with_request (record s { ticket = ticket_after s.ticket })) (told.PendingRead (record { 0 = ticket_after s.ticket })))
    (answers_after_turn (with_request (serial_taken (record s { wants_turn = is_no_room why }))) (told.Pending (record { 0 = s.serial + 1 }) why)) plain
    (turn_shares m (with_request (serial_taken (record s { wants_turn = is_no_room why }))) (told.Pending (record { 0 = s.serial + 1 }) why) plain)

shifts_shares : (m : Book) (s : SessionState) (has_shifted : Bool) → IsAtEnd m s.requests s.attempt.pending → s.attempt.pending.request.has_latch ≡ false → SharesAfter m (shifts s has_shifted)
unfolding shifts
shifts_shares m s false ends none =
    let plain = ended_plain m s.requests s.attempt.pending ends none in
    let counted = plain.counted in
    record { counted = omega (arith, counted); only = plain.only; knows = tt }
shifts_shares m s true ends none = accepts_shares m s reason.Contended ends

attempted_shares : (m : Book) (s : SessionState) (has_shifted : Bool) (its : TryAnswer) → IsAtEnd m s.requests s.attempt.pending → (is_wait its ≡ false → s.attempt.pending.request.has_latch ≡ false) → SharesAfter m (attempted s has_shifted its)
attempted_shares m s has_shifted (tried.Done reply) ends none =
    let plain = ended_plain m s.requests s.attempt.pending ends (none refl) in
    either_shares (is_read s.op) m (answers s told.Absent) (update_done s reply) plain plain
attempted_shares m s has_shifted (tried.Found value) ends none = ended_plain m s.requests s.attempt.pending ends (none refl)
attempted_shares m s has_shifted tried.Absent ends none = ended_plain m s.requests s.attempt.pending ends (none refl)
attempted_shares m s has_shifted (tried.Wait why) ends none = accepts_shares m s why ends
attempted_shares m s has_shifted (tried.AwaitsDisk sought) ends none = accepts_shares m s reason.Disk ends
attempted_shares m s has_shifted tried.Shift ends none = shifts_shares m s has_shifted ends (none refl)
attempted_shares m s has_shifted tried.IndexFull ends none = ended_plain m s.requests s.attempt.pending ends (none refl)
attempted_shares m s has_shifted tried.LogFull ends none = ended_plain m s.requests s.attempt.pending ends (none refl)

-- what an attempt that has ended owes is what its request shares
end_owes : (m : Book) (a : AttemptState) (its : TryAnswer) → a.step ≡ Ended its → owed_by m a ≡ bit_of (is_sharing m.seat m.at a.pending)
end_owes m a its e =
    ap (λ (x : Attempting). there (latch_of m.seat.places (bits_of m.seat) a.pending.request.op == m.at) (owed_in a x)) e ∙ sym (share_there a.pending.request.has_latch (latch_of m.seat.places (bits_of m.seat) a.pending.request.op == m.at))

end_knows : (m : Book) (a : AttemptState) (its : TryAnswer) → a.step ≡ Ended its → IsKnown m a → is_wait its ≡ false → a.pending.request.has_latch ≡ false
end_knows m a its e known = subst (λ (x : Attempting). KnowsShare m.seat m.its a x) e known.knows

attempt_led : (m : Book) (s : SessionState) (has_shifted : Bool) (ask : Ask TryAnswer) → s.step ≡ Attempts has_shifted → attempt_ask m.seat.places m.seat.number s.attempt ≡ ask → IsAttempting m s.requests s.attempt
    → SharesAfter m (attempt_ledto s has_shifted ask)
unfolding attempt_ledto
attempt_led m s has_shifted (Done its) e asks holds =
    let ended = attempt_ends m.seat.places m.seat.number s.attempt its holds.known.rests asks in
    let counted = holds.counted in
    let owes = end_owes m s.attempt its ended in
    attempted_shares m (attempt_left s) has_shifted its (record { counted = omega (arith, counted, owes); only = holds.only; reads = holds.known.reads }) (end_knows m s.attempt its ended holds.known)
attempt_led m s has_shifted ask e asks holds = still m s (Attempts has_shifted) e holds

-- a poll
waits_not : (its : TryAnswer) → is_finished its ≡ true → is_wait its ≡ false
waits_not (tried.Done reply) e = refl
waits_not (tried.Found value) e = refl
waits_not tried.Absent e = refl
waits_not (tried.Wait why) e = cc
waits_not (tried.AwaitsDisk sought) e = cc
waits_not tried.Shift e = refl
waits_not tried.IndexFull e = refl
waits_not tried.LogFull e = refl

finishes_shares : (m : Book) (s : SessionState) (i : ℕ) (its : TryAnswer) → IsPlain m (remove s.requests i) → SharesAfter m (finishes_request m.seat s i its)
unfolding finishes_request
finishes_shares m s i its plain = either_shares (is_owed s) m (request_finished s i its) (polls_at m.seat (request_finished s i its) i) plain (polls_shares m (request_finished s i its) i plain)

keeps_shares : (m : Book) (s : SessionState) (i : ℕ) (its : TryAnswer) → IsPlain m (slice_set s.requests i s.attempt.pending) → SharesAfter m (keeps_request m.seat s i its)
unfolding keeps_request
keeps_shares m s i its plain = polls_shares m (record s { requests = slice_set s.requests i s.attempt.pending; wants_turn = s.wants_turn || lacks_room its }) (i + 1) plain

poll_either : (m : Book) (s : SessionState) (i : ℕ) (its : TryAnswer) (done : Bool) → is_finished its ≡ done → s.attempt.step ≡ Ended its → IsPolling m s.requests i s.attempt
    → SharesAfter m (if done then finishes_request m.seat (poll_left s) i its else keeps_request m.seat (poll_left s) i its)
poll_either m s i its true e ended holds =
    let counted = holds.counted in
    let owes = end_owes m s.attempt its ended in
    let none = end_knows m s.attempt its ended holds.known (waits_not its e) in
    let free : ◌≡◌ {A = ℕ} (bit_of (is_sharing m.seat m.at s.attempt.pending)) 0 = ap (λ (b : Bool). bit_of (b && latch_of m.seat.places (bits_of m.seat) s.attempt.pending.request.op == m.at)) none in
    let removed = sharing_removed m.seat m.at s.requests i holds.pending holds.got in
    finishes_shares m (poll_left s) i its (record { counted = omega (arith, counted, owes, free, removed); only = only_removed s.requests i holds.only })
poll_either m s i its false e ended holds =
    let counted = holds.counted in
    let owes = end_owes m s.attempt its ended in
    let set = sharing_set m.seat m.at s.requests i s.attempt.pending holds.pending holds.got in
    keeps_shares m (poll_left s) i its (record { counted = omega (arith, counted, owes, set); only = only_set s.requests i s.attempt.pending holds.known.reads holds.only })

poll_led : (m : Book) (s : SessionState) (i : ℕ) (ask : Ask TryAnswer) → s.step ≡ Polls i → attempt_ask m.seat.places m.seat.number s.attempt ≡ ask → IsPolling m s.requests i s.attempt → SharesAfter m (poll_ledto m.seat s i ask)
unfolding poll_ledto
poll_led m s i (Done its) e asks holds = poll_either m s i its (is_finished its) refl (attempt_ends m.seat.places m.seat.number s.attempt its holds.known.rests asks) holds
poll_led m s i ask e asks holds = still m s (Polls i) e holds

-- a take-up
caught_up_shares : (m : Book) (s : SessionState) (cause : CatchCause) → IsPlain m s.requests → SharesAfter m (caught_up m.seat s cause)
caught_up_shares m s Refreshes plain = plain
caught_up_shares m s Wakes plain = plain
caught_up_shares m s Shifts plain = attempts_shares m s true plain

latch_asks : (at : ℕ) (step : Latching) (its : Unit {0}) (k : Seat) (requests : List PendingRequest) (i : ℕ) → passed {B = Unit {0}} (latch_ask step) tt ≡ Done its → LatchesSo k requests i step → giving_at at step ≡ 0
unfolding latch_ask passed
latch_asks at (latching.AddsShare place) its k requests i e so = refl
latch_asks at (latching.GivesBack place) its k requests i e so = cc
latch_asks at step its k requests i e so = absurd so

catch_done : (k : Seat) (at : ℕ) (c : CatchState) (requests : List PendingRequest) (step : Catching) (its : Unit {0}) → catching_ask k.places k.number c requests step ≡ Done its → KnowsCatch k requests c step → owed_at at c step ≡ 0
unfolding catching_ask
catch_done k at c requests (catching.Latches i) its e knows = latch_asks at c.latching its k requests i e knows
catch_done k at c requests step its e knows = refl

catch_led : (m : Book) (s : SessionState) (cause : CatchCause) (ask : Ask (Unit {0})) → s.step ≡ CatchesUp cause → catch_ask m.seat.places m.seat.number s.catching s.requests ≡ ask → IsCatching m s.requests s.catching → SharesAfter m (catch_ledto m.seat s cause ask)
unfolding catch_ledto
catch_led m s cause (Done its) e asks holds =
    let counted = holds.counted in
    let none = catch_done m.seat m.at s.catching s.requests s.catching.step its asks holds.knows in
    caught_up_shares m (record s { seen = s.catching.seen }) cause (record { counted = omega (arith, counted, none); only = holds.only })
catch_led m s cause ask e asks holds = still m s (CatchesUp cause) e holds

clear_led : (m : Book) (s : SessionState) (ask : Ask MailAnswer) → s.step ≡ ClearsMail → IsPlain m s.requests → SharesAfter m (clear_ledto m.seat s ask)
unfolding clear_ledto
clear_led m s (Done Cleared) e plain = polls_shares m (record s { is_orphaned = false }) 0 plain
clear_led m s (Done its) e plain = polls_shares m s 0 plain
clear_led m s ask e plain = still m s ClearsMail e plain

turn_led : (m : Book) (s : SessionState) (its : Told) (ask : Ask (Unit {0})) → s.step ≡ Turns its → IsPlain m s.requests → SharesAfter m (turn_ledto s its ask)
unfolding turn_ledto
turn_led m s its (Done through) e plain = plain
turn_led m s its ask e plain = still m s (Turns its) e plain

leave_led : (m : Book) (s : SessionState) (ask : Ask (Unit {0})) → s.step ≡ Leaves → IsPlain m s.requests → SharesAfter m (leave_ledto s ask)
unfolding leave_ledto
leave_led m s (Done its) e plain = plain
leave_led m s ask e plain = still m s Leaves e plain

-- the book behind an ask
abbrev pub asked : {A : Type 0} → Book → Ask A → Book
asked m ask = record m { added = added_by one_share m.at ask + m.added; dropped = added_by (2 ^ 64 - one_share) m.at ask + m.dropped }

none_asked : {A : Type 0} (m : Book) (ask : Ask A) (requests : List PendingRequest) → SharesNone ask → IsPlain m requests → IsPlain (asked m ask) requests
none_asked m ask requests none plain =
    let counted = plain.counted in
    let one = none_added m.at ask none in
    let other = none_dropped m.at ask none in
    record { counted = omega (arith, counted, one, other); only = plain.only }

-- an attempt behind a reply
pub record Attempted (m : Book) (a : AttemptState) (reply : ℕ) : Type 0 where
  pub known : IsKnown m (attempt_next m.seat.places (bits_of m.seat) (room_of m.seat) m.seat.number a reply)
  pub count : owed_by m a + added_by one_share m.at (passed {B = Told} (attempt_ask m.seat.places m.seat.number a) told.Slept)
      ≡ owed_by m (attempt_next m.seat.places (bits_of m.seat) (room_of m.seat) m.seat.number a reply) + added_by (2 ^ 64 - one_share) m.at (passed {B = Told} (attempt_ask m.seat.places m.seat.number a) told.Slept)

attempt_known : (m : Book) (a : AttemptState) (reply : ℕ) → IsKnown m a → Attempted m a reply
attempt_known m a reply known =
    let k : Seat = m.seat in
    let next : AttemptState = attempt_next k.places (bits_of k) (room_of k) k.number a reply in
    let shares = attempt_shares k m.its a reply known.reads known.knows in
    let count = shares.count.counts m.at in
    let same = attempt_keeps k.places (bits_of k) (room_of k) k.number a reply in
    let its : ◌≡◌ {A = ℕ} (there (latch_of k.places (bits_of k) a.pending.request.op == m.at) (owed_in next next.step)) (owed_by m next) =
    ap (λ (o : Op). there (latch_of k.places (bits_of k) o == m.at) (owed_in next next.step)) (sym same.op) in
    let one = passed_added one_share m.at (attempt_ask k.places k.number a) told.Slept in
    let other = passed_added (2 ^ 64 - one_share) m.at (attempt_ask k.places k.number a) told.Slept in
    record {
      known = record { rests = attempt_rests k.places (bits_of k) (room_of k) k.number a reply known.rests; reads = shares.reads; knows = shares.knows };
      count = omega (arith, count, its, one, other);
    }

attempting_next : (m : Book) (requests : List PendingRequest) (a : AttemptState) (reply : ℕ) → IsAttempting m requests a
    → IsAttempting (asked m (passed {B = Told} (attempt_ask m.seat.places m.seat.number a) told.Slept)) requests (attempt_next m.seat.places (bits_of m.seat) (room_of m.seat) m.seat.number a reply)
attempting_next m requests a reply holds =
    let next = attempt_known m a reply holds.known in
    let counted = holds.counted in
    let count = next.count in
    record { counted = omega (arith, counted, count); only = holds.only; known = record { rests = next.known.rests; reads = next.known.reads; knows = next.known.knows } }

polling_next : (m : Book) (requests : List PendingRequest) (i : ℕ) (a : AttemptState) (reply : ℕ) → IsPolling m requests i a
    → IsPolling (asked m (passed {B = Told} (attempt_ask m.seat.places m.seat.number a) told.Slept)) requests i (attempt_next m.seat.places (bits_of m.seat) (room_of m.seat) m.seat.number a reply)
polling_next m requests i a reply holds =
    let next = attempt_known m a reply holds.known in
    let counted = holds.counted in
    let count = next.count in
    record { pending = holds.pending; got = holds.got; counted = omega (arith, counted, count); only = holds.only; known = record { rests = next.known.rests; reads = next.known.reads; knows = next.known.knows } }

catching_next : (m : Book) (requests : List PendingRequest) (c : CatchState) (reply : ℕ) → IsCatching m requests c
    → IsCatching (asked m (passed {B = Told} (catch_ask m.seat.places m.seat.number c requests) told.Slept)) (catch_requests c requests reply) (catch_next m.seat.places (bits_of m.seat) m.seat.number c requests reply)
catching_next m requests c reply holds =
    let next = catch_shares m.seat requests c reply holds.knows holds.only in
    let counted = holds.counted in
    let count = next.count m.at in
    let one = passed_added one_share m.at (catch_ask m.seat.places m.seat.number c requests) told.Slept in
    let other = passed_added (2 ^ 64 - one_share) m.at (catch_ask m.seat.places m.seat.number c requests) told.Slept in
    record { counted = omega (arith, counted, count, one, other); only = next.only; knows = next.knows }

-- each reply
next_shares : (m : Book) (s : SessionState) (asks : ℕ) (step : Sitting) (reply : ℕ) → s.step ≡ step → StepShares m s step → SharesAfter (asked m (sitting_ask m.seat s step)) (sitting_next m.seat (record s { asks = asks; effect = None }) step reply)
unfolding sitting_next sitting_ask
next_shares m s asks (Idle its) reply e holds = still (asked m (Done its)) (record s { asks = asks; effect = None }) (Idle its) e (none_asked m (Done its) s.requests tt holds)
next_shares m s asks (Attempts has_shifted) reply e holds =
    let ask : Ask Told = passed (attempt_ask m.seat.places m.seat.number s.attempt) told.Slept in
    attempt_led (asked m ask) (attempt_moved m.seat (record s { asks = asks; effect = None }) reply) has_shifted _ e refl (attempting_next m s.requests s.attempt reply holds)
next_shares m s asks (CatchesUp cause) reply e holds =
    let ask : Ask Told = passed (catch_ask m.seat.places m.seat.number s.catching s.requests) told.Slept in
    catch_led (asked m ask) (caught m.seat (record s { asks = asks; effect = None }) reply) cause _ e refl (catching_next m s.requests s.catching reply holds)
next_shares m s asks ClearsMail reply e holds =
    let ask : Ask Told = passed (mail_ask m.seat.number s.mailing) told.Slept in
    clear_led (asked m ask) (record s { asks = asks; effect = None; mailing = mail_next s.mailing reply }) _ e (none_asked m ask s.requests (passed_none _ told.Slept (mail_none m.seat.number s.mailing)) holds)
next_shares m s asks (Polls i) reply e holds =
    let ask : Ask Told = passed (attempt_ask m.seat.places m.seat.number s.attempt) told.Slept in
    poll_led (asked m ask) (attempt_moved m.seat (record s { asks = asks; effect = None }) reply) i _ e refl (polling_next m s.requests i s.attempt reply holds)
next_shares m s asks (StoresOwing i) reply e holds =
    let ask : Ask Told = Store (session_place m.seat.number own.Owing) (owing s.seen s.requests) in
    polls_shares (asked m ask) (record s { asks = asks; effect = None }) i (none_asked m ask s.requests tt holds)
next_shares m s asks (Turns its) reply e holds =
    let ask : Ask Told = passed (own_turn_ask m.seat.shape s.own_turn) its in
    turn_led (asked m ask) (own_turn_moved m.seat (record s { asks = asks; effect = None }) reply) its _ e (none_asked m ask s.requests (passed_none _ its (own_turn_none m.seat.shape s.own_turn)) holds)
next_shares m s asks StoresCut reply e holds =
    let ask : Ask Told = Store (session_place m.seat.number (cut_of s.seen.version.0)) (cut_at s.serial s.seen.version.0) in
    none_asked m ask s.requests tt holds
next_shares m s asks Leaves reply e holds =
    let ask : Ask Told = passed (leave_ask m.seat.number s.leaving) told.Slept in
    leave_led (asked m ask) (record s { asks = asks; effect = None; leaving = leave_next s.leaving }) _ e (none_asked m ask s.requests (passed_none _ told.Slept (leave_none m.seat.number s.leaving)) holds)
next_shares m s asks LoadsDurable reply e holds =
    let ask : Ask Told = Load (session_place m.seat.number own.Durable) in
    none_asked m ask s.requests tt holds

given_shares : (m : Book) (s : SessionState) (step : Sitting) (action : Action) → s.step ≡ step → StepShares m s step → SharesAfter m (sitting_given m.seat s step action)
unfolding sitting_given
given_shares m s (Turns its) action e holds = turn_led m (record s { own_turn = own_turn_given s.own_turn action }) its _ e holds
given_shares m s (Idle its) action e holds = still m s (Idle its) e holds
given_shares m s (Attempts has_shifted) action e holds = still m s (Attempts has_shifted) e holds
given_shares m s (CatchesUp cause) action e holds = still m s (CatchesUp cause) e holds
given_shares m s ClearsMail action e holds = still m s ClearsMail e holds
given_shares m s (Polls i) action e holds = still m s (Polls i) e holds
given_shares m s (StoresOwing i) action e holds = still m s (StoresOwing i) e holds
given_shares m s StoresCut action e holds = still m s StoresCut e holds
given_shares m s Leaves action e holds = still m s Leaves e holds
given_shares m s LoadsDurable action e holds = still m s LoadsDurable e holds

-- a call that begins
begun_op : (m : Book) (s : SessionState) (op : Op) (why : Option Fault) → IsPlain m s.requests → SharesAfter m (op_begun m.seat s op why)
unfolding op_begun
begun_op m s op (Some why) plain = plain
begun_op m s op None plain = attempts_shares m (record s { op = op }) false plain

begun_poll : (m : Book) (s : SessionState) → IsPlain m s.requests → SharesAfter m (poll_begun m.seat s)
begun_poll m s plain = either_shares s.is_orphaned m (record s { mailing = LoadsState Clear; step = ClearsMail }) (polls_at m.seat s 0) plain (polls_shares m s 0 plain)

begins_catching : (m : Book) (requests : List PendingRequest) (c : CatchState) (step : Catching) → owed_at m.at c step ≡ 0 → c.step ≡ step → KnowsCatch m.seat requests c step → IsPlain m requests → IsCatching m requests c
begins_catching m requests c step none e knows plain =
    let counted = plain.counted in
    let its : owed_at m.at c c.step ≡ 0 = ap (λ (x : Catching). owed_at m.at c x) e ∙ none in
    record { counted = omega (arith, counted, its); only = plain.only; knows = subst (λ (x : Catching). KnowsCatch m.seat requests c x) (sym e) knows }

begun_call : (m : Book) (s : SessionState) (its : Call) → IsPlain m s.requests → SharesAfter m (call_begun m.seat s its)
unfolding refresh_call poll_call sleep_call wake_call
begun_call m s (call.Op op) plain = begun_op m s op (refusal_of s op) plain
begun_call m s call.Refresh plain =
    let refreshes : SessionState = record s { catching = refresh_begun s.catching s.seen s.serial; step = CatchesUp Refreshes } in
    either_shares s.is_awake m refreshes (refuses s fault.Asleep) (begins_catching m s.requests refreshes.catching catching.Refreshes refl refl tt plain) plain
begun_call m s call.Poll plain = either_shares s.is_awake m (poll_begun m.seat (record s { finished = [] })) (refuses s fault.Asleep) (begun_poll m (record s { finished = [] }) plain) plain
begun_call m s call.Sleep plain =
    let sleeps : SessionState = record s { step = StoresCut } in
    either_shares (not s.is_awake) m (refuses s fault.Asleep) (if length s.requests == 0 then sleeps else refuses s fault.PendingLeft) plain (either_shares (length s.requests == 0) m sleeps (refuses s fault.PendingLeft) plain plain)
begun_call m s call.Wake plain =
    let wakes : SessionState = record s { catching = wake_begun s.catching s.seen s.serial; step = CatchesUp Wakes } in
    either_shares s.is_awake m (refuses s fault.Awake) wakes plain (begins_catching m s.requests wakes.catching catching.Protects refl refl tt plain)
begun_call m s call.Durable plain = plain

idle_plain : (m : Book) (s : SessionState) (step : Sitting) → is_busy step ≡ false → StepShares m s step → IsPlain m s.requests
idle_plain m s (Idle its) idle holds = holds
idle_plain m s step idle holds = cc

begins_shares : (m : Book) (s : SessionState) (its : Call) (busy : Bool) → is_busy s.step ≡ busy → SharesAfter m s → SharesAfter m (begins m.seat s busy its)
begins_shares m s its true e holds = holds
begins_shares m s its false e holds = begun_call m (record s { asks = 0; effect = None; wants_turn = false }) its (idle_plain m s s.step e holds)

-- the book of a run
abbrev pub book_of : (k : Seat) → HasItsBuckets k → SessionState → List SessionEvent → ℕ → Book
book_of k its opening events at = record { seat = k; its = its; at = at; added = shares_added k opening events at; dropped = shares_dropped k opening events at }

abbrev pub behind : Book → SessionState → SessionEvent → Book
behind m s event = record m { added = added_behind m.seat s event one_share m.at + m.added; dropped = added_behind m.seat s event (2 ^ 64 - one_share) m.at + m.dropped }

nothing_behind : (m : Book) (s : SessionState) → SharesAfter m s → SharesAfter (record m { added = 0 + m.added; dropped = 0 + m.dropped }) s
nothing_behind m s holds =
    let one : ◌≡◌ {A = ℕ} m.added (0 + m.added) = omega arith in
    let other : ◌≡◌ {A = ℕ} m.dropped (0 + m.dropped) = omega arith in
    subst (λ (n : ℕ). SharesAfter (record m { added = 0 + m.added; dropped = n }) s) other (subst (λ (n : ℕ). SharesAfter (record m { added = n; dropped = m.dropped }) s) one holds)

event_shares : (m : Book) (s : SessionState) (event : SessionEvent) → SharesAfter m s → SharesAfter (behind m s event) (session_happens m.seat s event)
unfolding session_happens
event_shares m s (Begins its) holds = nothing_behind m (begins m.seat s (is_busy s.step) its) (begins_shares m s its (is_busy s.step) refl holds)
event_shares m s (Replies reply) holds = next_shares m s (asks_after s.asks (is_word_ask (session_ask m.seat s))) s.step reply refl holds
event_shares m s (Gets action) holds = nothing_behind m (sitting_given m.seat s s.step action) (given_shares m s s.step action refl holds)

opening_plain : (m : Book) (s : SessionState) (step : Sitting) → is_busy step ≡ false → IsPlain m s.requests → StepShares m s step
opening_plain m s (Idle its) idle plain = plain
opening_plain m s step idle plain = cc

no_requests : (m : Book) (requests : List PendingRequest) → requests ≡ [] → m.added ≡ 0 → m.dropped ≡ 0 → IsPlain m requests
no_requests m [] none added dropped = record { counted = omega (arith, added, dropped); only = tt }
no_requests m (p ∷ rest) none added dropped = cc

pub run_shares : (k : Seat) (its : HasItsBuckets k) (opening : SessionState) (events : List SessionEvent) (at : ℕ) → IsOpened opening → SharesAfter (book_of k its opening events at) (session_run k opening events)
unfolding session_run times_added
run_shares k its opening [] at opened =
    opening_plain (book_of k its opening [] at) opening opening.step opened.none_in_hand (no_requests (book_of k its opening [] at) opening.requests opened.none_wait refl refl)
run_shares k its opening (event ∷ before) at opened =
    event_shares (book_of k its opening before at) (session_run k opening before) event (run_shares k its opening before at opened)

-- what the law says
pub run_accounts : (k : Seat) (opening : SessionState) (events : List SessionEvent) (at : ℕ) → IsOpened opening → HasItsBuckets k → is_busy (session_run k opening events).step ≡ false
    → shares_added k opening events at ≡ shares_dropped k opening events at + sharing k at (session_run k opening events).requests
run_accounts k opening events at opened its rests =
    (idle_plain (book_of k its opening events at) (session_run k opening events) (session_run k opening events).step rests (run_shares k its opening events at opened)).counted

only_of : (m : Book) (s : SessionState) (step : Sitting) → StepShares m s step → OnlyUpdatesShare s.requests
only_of m s (Idle its) holds = holds.only
only_of m s (Attempts has_shifted) holds = holds.only
only_of m s (CatchesUp cause) holds = holds.only
only_of m s ClearsMail holds = holds.only
only_of m s (Polls i) holds = holds.only
only_of m s (StoresOwing i) holds = holds.only
only_of m s (Turns its) holds = holds.only
only_of m s StoresCut holds = holds.only
only_of m s Leaves holds = holds.only
only_of m s LoadsDurable holds = holds.only

pub run_updates : (k : Seat) (opening : SessionState) (events : List SessionEvent) → IsOpened opening → HasItsBuckets k → OnlyUpdatesShare (session_run k opening events).requests
run_updates k opening events opened its =
    only_of (book_of k its opening events 0) (session_run k opening events) (session_run k opening events).step (run_shares k its opening events 0 opened)
