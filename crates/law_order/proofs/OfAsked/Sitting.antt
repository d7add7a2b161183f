-- What a session's requests have asked for, over each reply, each call that begins and each action that is given.
use Rattle.std.proofs.Common.{◌≡◌, ℕ, ◌+◌, ◌≤◌, ◌∙◌, refl, sym, ap, subst, arith, Bool, true, false, List, [], ◌∷◌, ◌++◌, length}
use Rattle.std.specs.Prelude.{◌==◌, ◌||◌, not, if◌then◌else◌, Option, Some, None, slice_get, slice_set}
use Rattle.std.specs.List.{remove}
use Rattle.fkv_base.specs.declared.faults.Fault.{Fault}
use Rattle.fkv_base.specs.declared.faults.Fault.TheVariants as fault
use Rattle.fkv_base.specs.declared.numbers.Addr.{Addr}
use Rattle.fkv_map.specs.declared.operations.Call.{Call}
use Rattle.fkv_map.specs.declared.operations.Call.TheVariants as call
use Rattle.fkv_map.specs.declared.operations.Op.{Op}
use Rattle.fkv_plane.specs.declared.actions.Action.{Action}
use Rattle.fkv_plane.specs.declared.asks.Ask.{Ask}
use Rattle.fkv_plane.specs.declared.asks.Ask.TheVariants.{Done}
use Rattle.fkv_plane.specs.declared.places.Places.{Places}
use Rattle.fkv_plane.specs.Passing.{is_done}
use Rattle.fkv_epoch.specs.Leaving.{leave_ask, leave_next}
use Rattle.fkv_latch.specs.declared.latching.LatchAnswer.{LatchAnswer}
use Rattle.fkv_latch.specs.declared.latching.LatchAnswer.TheVariants.{Taken as LatchTaken}
use Rattle.fkv_latch.specs.Latching.{latch_next_ask}
use Rattle.law_commit.specs.Below.fkv_ops.Reason.{Reason}
use Rattle.law_commit.specs.Below.fkv_ops.Reason.TheVariants as reason
use Rattle.law_commit.specs.Below.fkv_ops.TryAnswer.{TryAnswer}
use Rattle.law_commit.specs.Below.fkv_ops.TryAnswer.TheVariants as tried
use Rattle.law_commit.specs.Below.fkv_ops.Occasion.{Occasion}
use Rattle.law_commit.specs.Below.fkv_ops.Occasion.TheVariants.{Call as AtCall, Poll as AtPoll}
use Rattle.law_commit.specs.Below.fkv_ops.Bounds.{bounds_of}
use Rattle.law_commit.specs.Below.fkv_ops.Requests.{is_read}
use Rattle.law_commit.specs.Below.fkv_pending.TheAttempting.{Attempting}
use Rattle.law_commit.specs.Below.fkv_pending.TheAttempting.TheVariants as attempting
use Rattle.law_commit.specs.Below.fkv_pending.MailAnswer.TheVariants as mail
use Rattle.law_commit.specs.Below.fkv_pending.MailTask.{MailTask}
use Rattle.law_commit.specs.Below.fkv_pending.MailTask.TheVariants.{Clear}
use Rattle.law_commit.specs.Below.fkv_pending.TheMailing.{Mailing}
use Rattle.law_commit.specs.Below.fkv_pending.TheMailing.TheVariants as mailing
use Rattle.law_commit.specs.Below.fkv_pending.PendingRequest.{PendingRequest}
use Rattle.law_commit.specs.Below.fkv_pending.Mailing.{mail_ask, mail_next}
use Rattle.law_commit.specs.Below.fkv_pending.MailWorld.{is_at_end}
use Rattle.law_commit.specs.Below.fkv_pending.Attempting.{AttemptState, attempting_ask, attempt_ask, attempt_next}
use Rattle.law_commit.proofs.Below.fkv_pending.Shown.{is_attempt_end, AttemptRestsOrAsks, attempt_begun_rests, attempt_done, attempt_rests}
use Rattle.law_commit.specs.Below.fkv_session.Told.{Told as Answer}
use Rattle.law_commit.specs.Below.fkv_session.Told.TheVariants as told
use Rattle.law_commit.specs.Below.fkv_session.Catching.{Catching}
use Rattle.law_commit.specs.Below.fkv_session.Catching.TheVariants.{Latches}
use Rattle.law_commit.specs.Below.fkv_session.CatchCause.{CatchCause}
use Rattle.law_commit.specs.Below.fkv_session.CatchCause.TheVariants.{Refreshes, Wakes, Shifts}
use Rattle.law_commit.specs.Below.fkv_session.Sitting.{Sitting}
use Rattle.law_commit.specs.Below.fkv_session.Sitting.TheVariants.{Idle, Attempts, CatchesUp, ClearsMail, Polls, StoresOwing, Turns, StoresCut, Leaves, LoadsDurable}
use Rattle.law_commit.specs.Below.fkv_session.CatchingUp.{CatchState, refresh_begun, wake_begun, latched, latch_marked, catching_requests}
use Rattle.law_commit.specs.Below.fkv_session.OwnTurns.{own_turn_ask, own_turn_begun, own_turn_given}
use Rattle.law_commit.specs.Below.fkv_session.Sessions.{SessionState, Seat, bits_of, room_of, is_busy, answers, answers_after_turn, request_in_hand, attempts, polls_request, polls_at, refuses, refusal_of, op_begun, refresh_call, poll_begun, poll_call, sleep_call, wake_call, call_begun, session_begun, session_ask, session_next, session_given, attempt_left, poll_left, serial_taken, update_done, shifts, ticket_after, is_no_room, with_request, accepts, attempted, attempt_ledto, caught_up, catch_ledto, clear_ledto, is_owed, request_finished, finishes_request, lacks_room, keeps_request, poll_ledto, turn_ledto, leave_ledto, attempt_moved, caught, own_turn_moved, sitting_next, sitting_given, asks_after, is_word_ask}
use Rattle.law_commit.specs.Below.fkv_session.Shares.{HasItsBuckets}
use Rattle.law_commit.specs.Below.law_refine.Mail.Mailers.{attempt_mailing, sitting_mailing, session_mailing}
use Rattle.law_order.specs.Asked.Asked.{HasAskedSought}
use Rattle.law_order.proofs.OfAsked.Askers.{asker, askers, asked_count, asked_most, AllSought, Await, askers_behind, askers_set, askers_left, none_asked, none_sought, all_behind, all_set, all_left, one_of, latched_await, all_then}
use Rattle.law_order.proofs.OfAsked.Attempts.{EndsSo, asks_on, AttemptTold, AttemptAt, AttemptAsks, begun_asks, attempt_asks}
use Rattle.law_order.proofs.OfAsked.Told.{IsAt, Tells, Told, told_change}

attempt_told : (asked : Option Addr) (task : Option MailTask) (a : AttemptState) (step : Attempting) (reply : ℕ) (asked' : Option Addr) → Told asked task (attempt_mailing a step) reply asked' → AttemptTold asked task a step reply asked'
attempt_told asked task a (attempting.Ended its) reply asked' tells = tells
attempt_told asked task a attempting.Looks reply asked' tells = tells
attempt_told asked task a attempting.Tries reply asked' tells = tells
attempt_told asked task a attempting.Puts reply asked' tells = tells

ended_step : (p : Places) (n : ℕ) (a : AttemptState) (its : TryAnswer) → AttemptRestsOrAsks a → attempt_ask p n a ≡ Done its → a.step ≡ attempting.Ended its
unfolding attempting_ask
ended_step p n a its rests e = by_step a.step (sym (attempt_done p n a rests) ∙ ap is_done e) e
  where
    by_step : (step : Attempting) → is_attempt_end step ≡ true → attempting_ask p n a step ≡ Done its → step ≡ attempting.Ended its
    by_step (attempting.Ended end) is ends = let same : end ≡ its = cc in ap (λ (x : TryAnswer). attempting.Ended x) same
    by_step step is ends = cc

module _ (k : Seat) (buckets : HasItsBuckets k) where
  -- an attempt beside the other requests
  pub record IsAttempt (asked : Option Addr) (task : Option MailTask) (others : List PendingRequest) (occasion : Occasion) (a : AttemptState) : Type 0 where
    pub all : AllSought asked others
    pub asks : AttemptAsks k.places (bits_of k) (room_of k) buckets asked task (askers others) occasion a
    pub rests : AttemptRestsOrAsks a

  abbrev pub SitsAsking : Option Addr → Option MailTask → SessionState → Sitting → Type 0
  SitsAsking asked task s (Attempts has_shifted) = IsAttempt asked task s.requests (AtCall (bounds_of k.shape)) s.attempt
  SitsAsking asked task s (Polls index) = IsAttempt asked task (remove s.requests index) AtPoll s.attempt
  SitsAsking asked task s ClearsMail = Await asked s.requests s.is_orphaned × (s.is_orphaned ≡ true) × IsAt task Clear s.mailing
  SitsAsking asked task s step = Await asked s.requests s.is_orphaned

  abbrev pub SessionAsks : Option Addr → Option MailTask → SessionState → Type 0
  SessionAsks asked task s = SitsAsking asked task s s.step

  module _ (asked : Option Addr) (task : Option MailTask) where
    abbrev Asks : SessionState → Type 0
    Asks s = SessionAsks asked task s

    abbrev Waits : SessionState → Type 0
    Waits s = Await asked s.requests s.is_orphaned

    either_asks : (c : Bool) (a b : SessionState) → Asks a → Asks b → Asks (if c then a else b)
    either_asks true a b one other = one
    either_asks false a b one other = other

    still : (s : SessionState) (step : Sitting) → s.step ≡ step → SitsAsking asked task s step → Asks s
    still s step at its = subst (λ (x : Sitting). SitsAsking asked task s x) (sym at) its

    turn_asks : (s : SessionState) (its : Answer) → Waits s → Asks (answers_after_turn s its)
    turn_asks s its waits = either_asks s.wants_turn (record s { own_turn = own_turn_begun s.own_turn; step = Turns its }) (answers s its) waits waits

    -- ---- attempts that begin
    attempts_asks : (s : SessionState) (has_shifted : Bool) → Waits s → Asks (attempts k s has_shifted)
    unfolding attempts
    attempts_asks s has_shifted waits =
        let few : askers s.requests + asker s.is_orphaned ≤ asked_count asked = waits.few in
        record {
          all = waits.all;
          asks = begun_asks k.places (bits_of k) (room_of k) buckets asked task (askers s.requests) (AtCall (bounds_of k.shape)) (request_in_hand s) s.seen s.spare s.is_orphaned (none_asked asked (request_in_hand s) refl) (omega (arith, few));
          rests = attempt_begun_rests k.places (bits_of k) (request_in_hand s) s.seen (AtCall (bounds_of k.shape)) s.spare s.is_orphaned;
        }

    polls_found : (s : SessionState) (index : ℕ) (found : Option PendingRequest) → slice_get s.requests index ≡ found → Waits s → Asks (polls_request k s index found)
    polls_found s index None got waits = turn_asks s (told.Polled (length s.requests)) waits
    polls_found s index (Some pending) got waits =
        let few : askers s.requests + asker s.is_orphaned ≤ asked_count asked = waits.few in
        let left : askers s.requests ≡ askers (remove s.requests index) + asker pending.has_asked = askers_left s.requests index pending got in
        record {
          all = all_left asked s.requests index waits.all;
          asks = begun_asks k.places (bits_of k) (room_of k) buckets asked task (askers (remove s.requests index)) AtPoll pending s.seen s.spare s.is_orphaned (one_of asked s.requests index pending got waits.all) (omega (arith, few, left));
          rests = attempt_begun_rests k.places (bits_of k) pending s.seen AtPoll s.spare s.is_orphaned;
        }

    polls_asks : (s : SessionState) (index : ℕ) → Waits s → Asks (polls_at k s index)
    unfolding polls_at
    polls_asks s index waits = polls_found s index (slice_get s.requests index) refl waits

    -- ---- attempts that end
    record HasEnded (others : List PendingRequest) (occasion : Occasion) (a : AttemptState) (its : TryAnswer) : Type 0 where
      all : AllSought asked others
      sought : HasAskedSought asked a.pending
      few : askers others + (asker (asks_on a (attempting.Ended its)) + asker a.is_orphaned) ≤ asked_count asked
      ends : EndsSo occasion its

    ended : (others : List PendingRequest) (occasion : Occasion) (a : AttemptState) (its : TryAnswer) → IsAttempt asked task others occasion a → attempt_ask k.places k.number a ≡ Done its → HasEnded others occasion a its
    ended others occasion a its is e =
        let at : a.step ≡ attempting.Ended its = ended_step k.places k.number a its is.rests e in
        record {
          all = is.all;
          sought = is.asks.sought;
          few = subst (λ (x : Attempting). askers others + (asker (asks_on a x) + asker a.is_orphaned) ≤ asked_count asked) at is.asks.few;
          ends = subst (λ (x : Occasion). EndsSo x its) is.asks.same (subst (λ (x : Attempting). AttemptAt k.places (bits_of k) (room_of k) buckets task a x) at is.asks.at);
        }

    -- without the one that has ended
    dropped : (requests : List PendingRequest) (is_orphaned : Bool) → AllSought asked requests → askers requests + (asker false + asker is_orphaned) ≤ asked_count asked → Await asked requests is_orphaned
    dropped requests is_orphaned all few = record { all = all; few = omega (arith, few) }

    accepts_asks : (s : SessionState) (why : Reason) → AllSought asked s.requests → HasAskedSought asked s.attempt.pending → askers s.requests + (asker s.attempt.pending.has_asked + asker s.is_orphaned) ≤ asked_count asked → Asks (accepts s why)
    unfolding accepts
    accepts_asks s why all sought few =
        let count : askers (s.requests ++ s.attempt.pending ∷ []) ≡ askers s.requests + asker s.attempt.pending.has_asked = askers_behind s.requests s.attempt.pending in
        let more : Await asked (s.requests ++ s.attempt.pending ∷ []) s.is_orphaned = record { all = all_behind asked s.requests s.attempt.pending all sought; few = omega (arith, count, few) } in
        let update : SessionState = with_request (serial_taken (record s { wants_turn = is_no_room why })) in
        either_asks (is_read s.op) (answers (with_request (record s { ticket = ticket_after s.ticket })) (told.PendingRead (record { 0 = ticket_after s.ticket })))
        (answers_after_turn update (told.Pending (record { 0 = s.serial + 1 }) why)) more (turn_asks update (told.Pending (record { 0 = s.serial + 1 }) why) more)

    shifts_asks : (s : SessionState) (has_shifted : Bool) → AllSought asked s.requests → HasAskedSought asked s.attempt.pending → askers s.requests + (asker s.attempt.pending.has_asked + asker s.is_orphaned) ≤ asked_count asked → Asks (shifts s has_shifted)
    unfolding shifts
    shifts_asks s false all sought few = record { all = all; few = omega (arith, few) }
    shifts_asks s true all sought few = accepts_asks s reason.Contended all sought few

    attempted_asks : (s : SessionState) (has_shifted : Bool) (its : TryAnswer) → HasEnded s.requests (AtCall (bounds_of k.shape)) s.attempt its → Asks (attempted (attempt_left s) has_shifted its)
    attempted_asks s has_shifted (tried.Done reply) is =
        let waits : Await asked s.requests s.attempt.is_orphaned = dropped s.requests s.attempt.is_orphaned is.all is.few in
        either_asks (is_read s.op) (answers (attempt_left s) told.Absent) (update_done (attempt_left s) reply) waits waits
    attempted_asks s has_shifted (tried.Found value) is = dropped s.requests s.attempt.is_orphaned is.all is.few
    attempted_asks s has_shifted tried.Absent is = dropped s.requests s.attempt.is_orphaned is.all is.few
    attempted_asks s has_shifted (tried.Wait why) is = accepts_asks (attempt_left s) why is.all is.sought is.few
    attempted_asks s has_shifted (tried.AwaitsDisk sought) is = absurd is.ends
    attempted_asks s has_shifted tried.Shift is = shifts_asks (attempt_left s) has_shifted is.all is.sought is.few
    attempted_asks s has_shifted tried.IndexFull is = dropped s.requests s.attempt.is_orphaned is.all is.few
    attempted_asks s has_shifted tried.LogFull is = dropped s.requests s.attempt.is_orphaned is.all is.few

    called_asks : (s : SessionState) (has_shifted : Bool) (ask : Ask TryAnswer) → s.step ≡ Attempts has_shifted → IsAttempt asked task s.requests (AtCall (bounds_of k.shape)) s.attempt → attempt_ask k.places k.number s.attempt ≡ ask → Asks (attempt_ledto s has_shifted ask)
    unfolding attempt_ledto
    called_asks s has_shifted (Done its) at is e = attempted_asks s has_shifted its (ended s.requests (AtCall (bounds_of k.shape)) s.attempt its is e)
    called_asks s has_shifted ask at is e = still s (Attempts has_shifted) at is

    finishes_asks : (s : SessionState) (index : ℕ) (its : TryAnswer) → Await asked (remove s.requests index) s.is_orphaned → Asks (finishes_request k s index its)
    unfolding finishes_request
    finishes_asks s index its waits = either_asks (is_owed s) (request_finished s index its) (polls_at k (request_finished s index its) index) waits (polls_asks (request_finished s index its) index waits)

    keeps_asks : (s : SessionState) (index : ℕ) (its : TryAnswer) → Await asked (slice_set s.requests index s.attempt.pending) s.is_orphaned → Asks (keeps_request k s index its)
    unfolding keeps_request
    keeps_asks s index its waits = polls_asks (record s { requests = slice_set s.requests index s.attempt.pending; wants_turn = s.wants_turn || lacks_room its }) (index + 1) waits

    -- the one that has ended is kept
    kept_asks : (s : SessionState) (index : ℕ) (its : TryAnswer) → AllSought asked (remove s.requests index) → HasAskedSought asked s.attempt.pending
        → askers (remove s.requests index) + (asker s.attempt.pending.has_asked + asker s.is_orphaned) ≤ asked_count asked → Asks (keeps_request k s index its)
    kept_asks s index its all sought few =
        let set : askers (slice_set s.requests index s.attempt.pending) ≤ askers (remove s.requests index) + asker s.attempt.pending.has_asked = askers_set s.requests index s.attempt.pending in
        keeps_asks s index its (record { all = all_set asked s.requests index s.attempt.pending all sought; few = omega (arith, set, few) })

    polled_asks : (s : SessionState) (index : ℕ) (its : TryAnswer) → HasEnded (remove s.requests index) AtPoll s.attempt its → Asks (poll_ledto k s index (Done its))
    unfolding poll_ledto
    polled_asks s index (tried.Done reply) is = finishes_asks (poll_left s) index (tried.Done reply) (dropped (remove s.requests index) s.attempt.is_orphaned is.all is.few)
    polled_asks s index (tried.Found value) is = finishes_asks (poll_left s) index (tried.Found value) (dropped (remove s.requests index) s.attempt.is_orphaned is.all is.few)
    polled_asks s index tried.Absent is = finishes_asks (poll_left s) index tried.Absent (dropped (remove s.requests index) s.attempt.is_orphaned is.all is.few)
    polled_asks s index (tried.Wait why) is = kept_asks (poll_left s) index (tried.Wait why) is.all is.sought is.few
    polled_asks s index (tried.AwaitsDisk sought) is = absurd is.ends
    polled_asks s index tried.Shift is = kept_asks (poll_left s) index tried.Shift is.all is.sought is.few
    polled_asks s index tried.IndexFull is = absurd is.ends
    polled_asks s index tried.LogFull is = absurd is.ends

    poll_asks : (s : SessionState) (index : ℕ) (ask : Ask TryAnswer) → s.step ≡ Polls index → IsAttempt asked task (remove s.requests index) AtPoll s.attempt → attempt_ask k.places k.number s.attempt ≡ ask → Asks (poll_ledto k s index ask)
    unfolding poll_ledto
    poll_asks s index (Done its) at is e = polled_asks s index its (ended (remove s.requests index) AtPoll s.attempt its is e)
    poll_asks s index ask at is e = still s (Polls index) at is

    -- ---- catching up
    found_await : (requests : List PendingRequest) (is_orphaned : Bool) (index : ℕ) (found : Option PendingRequest) → slice_get requests index ≡ found → Await asked requests is_orphaned → Await asked (latched requests index found) is_orphaned
    found_await requests is_orphaned index None got waits = waits
    found_await requests is_orphaned index (Some pending) got waits = latched_await asked requests is_orphaned index pending got waits

    marked_await : (requests : List PendingRequest) (is_orphaned : Bool) (index : ℕ) (ask : Ask LatchAnswer) → Await asked requests is_orphaned → Await asked (latch_marked requests index ask) is_orphaned
    unfolding latch_marked
    marked_await requests is_orphaned index (Done LatchTaken) waits = found_await requests is_orphaned index (slice_get requests index) refl waits
    marked_await requests is_orphaned index ask waits = waits

    caught_await : (c : CatchState) (requests : List PendingRequest) (is_orphaned : Bool) (step : Catching) (reply : ℕ) → Await asked requests is_orphaned → Await asked (catching_requests c requests step reply) is_orphaned
    unfolding catching_requests
    caught_await c requests is_orphaned (Latches index) reply waits = marked_await requests is_orphaned index (latch_next_ask c.latching reply) waits
    caught_await c requests is_orphaned step reply waits = waits

    caught_asks : (s : SessionState) (cause : CatchCause) → Waits s → Asks (caught_up k s cause)
    caught_asks s Refreshes waits = waits
    caught_asks s Wakes waits = waits
    caught_asks s Shifts waits = attempts_asks s true waits

    catch_asks : (s : SessionState) (cause : CatchCause) (ask : Ask (Unit {0})) → s.step ≡ CatchesUp cause → Waits s → Asks (catch_ledto k s cause ask)
    unfolding catch_ledto
    catch_asks s cause (Done its) at waits = caught_asks (record s { seen = s.catching.seen }) cause waits
    catch_asks s cause ask at waits = still s (CatchesUp cause) at waits

    -- ---- the others
    turned_asks : (s : SessionState) (its : Answer) (ask : Ask (Unit {0})) → s.step ≡ Turns its → Waits s → Asks (turn_ledto s its ask)
    unfolding turn_ledto
    turned_asks s its (Done through) at waits = waits
    turned_asks s its ask at waits = still s (Turns its) at waits

    left_asks : (s : SessionState) (ask : Ask (Unit {0})) → s.step ≡ Leaves → Waits s → Asks (leave_ledto s ask)
    unfolding leave_ledto
    left_asks s (Done its) at waits = waits
    left_asks s ask at waits = still s Leaves at waits

    action_asks : (s : SessionState) (step : Sitting) (action : Action) → s.step ≡ step → SitsAsking asked task s step → Asks (sitting_given k s step action)
    unfolding sitting_given
    action_asks s (Turns its) action at waits = turned_asks (record s { own_turn = own_turn_given s.own_turn action }) its (own_turn_ask k.shape (own_turn_given s.own_turn action)) at waits
    action_asks s step action at its = still s step at its

    -- an action that is given
    pub given_asks : (s : SessionState) (action : Action) → SessionAsks asked task s → SessionAsks asked task (session_given k s action)
    given_asks s action its = action_asks s s.step action refl its

    op_asks : (s : SessionState) (op : Op) (why : Option Fault) → Waits s → Asks (op_begun k s op why)
    unfolding op_begun
    op_asks s op (Some why) waits = waits
    op_asks s op None waits = attempts_asks (record s { op = op }) false waits

    clears_asks : (s : SessionState) → Waits s → Asks (poll_begun k s)
    clears_asks s waits = by_orphan s.is_orphaned refl
      where
        by_orphan : (c : Bool) → s.is_orphaned ≡ c → Asks (if c then record s { mailing = mailing.LoadsState Clear; step = ClearsMail } else polls_at k s 0)
        by_orphan true e = (waits, e, refl)
        by_orphan false e = polls_asks s 0 waits

    call_asks : (s : SessionState) (its : Call) → Waits s → Asks (call_begun k s its)
    unfolding refresh_call poll_call sleep_call wake_call
    call_asks s (call.Op op) waits = op_asks s op (refusal_of s op) waits
    call_asks s call.Refresh waits = either_asks s.is_awake (record s { catching = refresh_begun s.catching s.seen s.serial; step = CatchesUp Refreshes }) (refuses s fault.Asleep) waits waits
    call_asks s call.Poll waits = either_asks s.is_awake (poll_begun k (record s { finished = [] })) (refuses s fault.Asleep) (clears_asks (record s { finished = [] }) waits) waits
    call_asks s call.Sleep waits =
        either_asks (not s.is_awake) (refuses s fault.Asleep) (if length s.requests == 0 then record s { step = StoresCut } else refuses s fault.PendingLeft) waits
        (either_asks (length s.requests == 0) (record s { step = StoresCut }) (refuses s fault.PendingLeft) waits waits)
    call_asks s call.Wake waits = either_asks s.is_awake (refuses s fault.Awake) (record s { catching = wake_begun s.catching s.seen s.serial; step = CatchesUp Wakes }) waits waits
    call_asks s call.Durable waits = waits

    idle_waits : (s : SessionState) (step : Sitting) → is_busy step ≡ false → SitsAsking asked task s step → Waits s
    idle_waits s (Idle its) idle waits = waits
    idle_waits s step idle its = cc

    -- a call that begins where none is in hand
    pub call_begun_asks : (s : SessionState) (its : Call) → is_busy s.step ≡ false → SessionAsks asked task s → SessionAsks asked task (session_begun k s its)
    call_begun_asks s its idle sits = call_asks (record s { asks = 0; effect = None; wants_turn = false }) its (idle_waits s s.step idle sits)

    idle_asks : (s : SessionState) (step : Sitting) → is_busy step ≡ false → Waits s → SitsAsking asked task s step
    idle_asks s (Idle its) idle waits = waits
    idle_asks s step idle waits = cc

    -- a session with no call in hand
    pub idle_session : (s : SessionState) → is_busy s.step ≡ false → Await asked s.requests s.is_orphaned → SessionAsks asked task s
    idle_session s idle waits = idle_asks s s.step idle waits

  -- ---- each reply
  module _ (asked : Option Addr) (task : Option MailTask) (asked' : Option Addr) where
    moved_attempt : (others : List PendingRequest) (occasion : Occasion) (a : AttemptState) (reply : ℕ) → IsAttempt asked task others occasion a → Told asked task (attempt_mailing a a.step) reply asked'
        → IsAttempt asked' task others occasion (attempt_next k.places (bits_of k) (room_of k) k.number a reply)
    moved_attempt others occasion a reply is tells =
        let after : AttemptState = attempt_next k.places (bits_of k) (room_of k) k.number a reply in
        let asks : AttemptAsks k.places (bits_of k) (room_of k) buckets asked' task (askers others) occasion after =
        attempt_asks k.places (bits_of k) (room_of k) buckets asked task asked' (askers others) occasion k.number a reply is.asks (attempt_told asked task a a.step reply asked' tells) in
        let few : askers others + (asker (asks_on a a.step) + asker a.is_orphaned) ≤ asked_count asked = is.asks.few in
        let few_then : askers others + (asker (asks_on after after.step) + asker after.is_orphaned) ≤ asked_count asked' = asks.few in
        record {
          all = all_then asked asked' others (told_change asked task (attempt_mailing a a.step) reply asked' tells) (omega (arith, few)) (omega (arith, few_then)) is.all;
          asks = asks;
          rests = attempt_rests k.places (bits_of k) (room_of k) k.number a reply is.rests;
        }

    then_await : (requests : List PendingRequest) (is_orphaned : Bool) → asked' ≡ asked → Await asked requests is_orphaned → Await asked' requests is_orphaned
    then_await requests is_orphaned same waits = subst (λ (x : Option Addr). Await x requests is_orphaned) (sym same) waits

    clears_still : (s : SessionState) (next : Mailing) → s.step ≡ ClearsMail → s.mailing ≡ next → Await asked' s.requests s.is_orphaned → s.is_orphaned ≡ true → IsAt task Clear next → SessionAsks asked' task s
    clears_still s next at same waits orphan its = still asked' task s ClearsMail at (waits, orphan, subst (IsAt task Clear) (sym same) its)

    clear_asks : (s : SessionState) (next : Mailing) → s.step ≡ ClearsMail → s.mailing ≡ next → Await asked s.requests s.is_orphaned → s.is_orphaned ≡ true → task ≡ Some Clear → (is_at_end next ≡ false → IsAt task Clear next) → Tells asked task next asked'
        → SessionAsks asked' task (clear_ledto k s (mail_ask k.number next))
    unfolding clear_ledto mail_ask
    clear_asks s (mailing.Ended mail.Cleared) at same waits orphan clears goes tells =
        let one : asker s.is_orphaned ≡ 1 = ap asker orphan in
        let most : asked_count asked ≤ 1 = asked_most asked in
        let few : askers s.requests + asker s.is_orphaned ≤ asked_count asked = waits.few in
        polls_asks asked' task (record s { is_orphaned = false }) 0 (record { all = none_sought asked' s.requests (omega (arith, one, most, few)); few = omega (arith, one, most, few) })
    clear_asks s (mailing.Ended (mail.Taken its)) at same waits orphan clears goes tells = let clash = tells.0 in cc
    clear_asks s (mailing.Ended mail.Asked) at same waits orphan clears goes tells = let clash = tells.task in cc
    clear_asks s (mailing.Ended mail.NotReady) at same waits orphan clears goes tells = polls_asks asked' task s 0 (then_await s.requests s.is_orphaned tells waits)
    clear_asks s (mailing.Ended mail.Occupied) at same waits orphan clears goes tells = polls_asks asked' task s 0 (then_await s.requests s.is_orphaned tells waits)
    clear_asks s next at same waits orphan clears goes tells = clears_still s next at same (then_await s.requests s.is_orphaned tells waits) orphan (goes refl)

    row_asks : (s : SessionState) (asks : ℕ) (step : Sitting) (reply : ℕ) → s.step ≡ step → SitsAsking asked task s step → Told asked task (sitting_mailing s step) reply asked'
        → SessionAsks asked' task (sitting_next k (record s { asks = asks; effect = None }) step reply)
    unfolding sitting_next
    row_asks s asks (Idle its) reply at waits tells = still asked' task (record s { asks = asks; effect = None }) (Idle its) at (then_await s.requests s.is_orphaned tells waits)
    row_asks s asks (Attempts has_shifted) reply at is tells =
        called_asks asked' task (attempt_moved k (record s { asks = asks; effect = None }) reply) has_shifted _ at (moved_attempt s.requests (AtCall (bounds_of k.shape)) s.attempt reply is tells) refl
    row_asks s asks (CatchesUp cause) reply at waits tells =
        catch_asks asked' task (caught k (record s { asks = asks; effect = None }) reply) cause _ at (caught_await asked' task s.catching s.requests s.is_orphaned s.catching.step reply (then_await s.requests s.is_orphaned tells waits))
    row_asks s asks ClearsMail reply at sits tells =
        clear_asks (record s { asks = asks; effect = None; mailing = mail_next s.mailing reply }) (mail_next s.mailing reply) at refl sits.0 sits.1 (tells.task Clear sits.2) (tells.goes Clear sits.2) tells.tells
    row_asks s asks (Polls index) reply at is tells =
        poll_asks asked' task (attempt_moved k (record s { asks = asks; effect = None }) reply) index _ at (moved_attempt (remove s.requests index) AtPoll s.attempt reply is tells) refl
    row_asks s asks (StoresOwing index) reply at waits tells = polls_asks asked' task (record s { asks = asks; effect = None }) index (then_await s.requests s.is_orphaned tells waits)
    row_asks s asks (Turns its) reply at waits tells =
        turned_asks asked' task (own_turn_moved k (record s { asks = asks; effect = None }) reply) its _ at (then_await s.requests s.is_orphaned tells waits)
    row_asks s asks StoresCut reply at waits tells = then_await s.requests s.is_orphaned tells waits
    row_asks s asks Leaves reply at waits tells =
        left_asks asked' task (record s { asks = asks; effect = None; leaving = leave_next s.leaving }) (leave_ask k.number (leave_next s.leaving)) at (then_await s.requests s.is_orphaned tells waits)
    row_asks s asks LoadsDurable reply at waits tells = then_await s.requests s.is_orphaned tells waits

    pub next_asks : (s : SessionState) (reply : ℕ) → SessionAsks asked task s → Told asked task (session_mailing s) reply asked' → SessionAsks asked' task (session_next k s reply)
    next_asks s reply sits tells = row_asks s (asks_after s.asks (is_word_ask (session_ask k s))) s.step reply refl sits tells
