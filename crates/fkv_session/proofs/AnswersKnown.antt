-- What a call knows of its answer, at each of its steps: what its try has come to, and what it has loaded.
use Rattle.std.proofs.Common.{◌≡◌, ℕ, ◌+◌, List, [], ◌∷◌, length, refl, sym, subst, ◌∙◌, arith, Bool, true, false}
use Rattle.std.proofs.lemmas.Bool.Decides.{nat_tests}
use Rattle.std.specs.Prelude.{⊤, Option, Some, None, if◌then◌else◌, not, ◌==◌, ◌||◌, slice_get, slice_set}
use Rattle.fkv_base.specs.declared.faults.Fault.{Fault}
use Rattle.fkv_base.specs.declared.faults.Fault.TheVariants as fault
use Rattle.fkv_base.specs.declared.numbers.Serial.{Serial}
use Rattle.fkv_map.specs.declared.operations.Call.{Call}
use Rattle.fkv_map.specs.declared.operations.Call.TheVariants as call
use Rattle.fkv_map.specs.declared.operations.Op.{Op}
use Rattle.fkv_map.specs.declared.operations.Reply.{Reply}
use Rattle.fkv_plane.specs.declared.actions.Action.{Action}
use Rattle.fkv_plane.specs.declared.asks.Ask.{Ask}
use Rattle.fkv_plane.specs.declared.asks.Ask.TheVariants.{Load, Done}
use Rattle.fkv_plane.specs.declared.places.Places.{Places}
use Rattle.fkv_plane.specs.declared.places.SessionWord.TheVariants as own
use Rattle.fkv_plane.specs.declared.places.SharedWord.TheVariants as one
use Rattle.fkv_plane.specs.Places.{shared_place, session_place}
use Rattle.fkv_plane.specs.Passing.{is_done}
use Rattle.fkv_epoch.specs.Leaving.{leave_next}
use Rattle.fkv_ops.specs.Bounds.{bounds_of}
use Rattle.fkv_ops.specs.declared.answers.Reason.{Reason}
use Rattle.fkv_ops.specs.declared.answers.Reason.TheVariants as reason
use Rattle.fkv_ops.specs.declared.answers.TryAnswer.{TryAnswer}
use Rattle.fkv_ops.specs.declared.answers.TryAnswer.TheVariants as tried
use Rattle.fkv_ops.specs.declared.requests.Occasion.TheVariants.{Call as AtCall}
use Rattle.fkv_ops.specs.declared.requests.Seen.{Seen}
use Rattle.fkv_ops.specs.Requests.{is_read}
use Rattle.fkv_ops.specs.TryRun.{Trial}
use Rattle.fkv_pending.specs.declared.attempting.Attempting.{Attempting}
use Rattle.fkv_pending.specs.declared.attempting.Attempting.TheVariants.{Ended}
use Rattle.fkv_pending.specs.declared.mailing.MailAnswer.{MailAnswer}
use Rattle.fkv_pending.specs.declared.mailing.MailAnswer.TheVariants.{Cleared}
use Rattle.fkv_pending.specs.declared.pending_requests.PendingRequest.{PendingRequest}
use Rattle.fkv_pending.specs.Mailing.{mail_next}
use Rattle.fkv_pending.specs.Attempting.{AttemptState, attempting_ask, attempt_ask}
use Rattle.fkv_pending.proofs.Shown.{is_attempt_end, AttemptRestsOrAsks, attempt_done, attempt_begun_rests, attempt_rests}
use Rattle.fkv_session.specs.declared.answers.Told.{Told}
use Rattle.fkv_session.specs.declared.answers.Told.TheVariants as told
use Rattle.fkv_session.specs.declared.sessions.CatchCause.{CatchCause}
use Rattle.fkv_session.specs.declared.sessions.CatchCause.TheVariants.{Refreshes, Wakes, Shifts}
use Rattle.fkv_session.specs.declared.sessions.Sitting.{Sitting}
use Rattle.fkv_session.specs.declared.sessions.Sitting.TheVariants.{Idle, Attempts, CatchesUp, ClearsMail, Polls, StoresOwing, Turns, StoresCut, Leaves, LoadsDurable}
use Rattle.fkv_session.specs.CatchingUp.{catch_ask, catch_requests}
use Rattle.fkv_session.specs.InOrder.{Exchange, loaded_last, IsTakenUp}
use Rattle.fkv_session.specs.OwnTurns.{own_turn_given}
use Rattle.fkv_session.specs.Sessions.{SessionState, Seat, bits_of, room_of, is_busy, answers, refuses, answers_after_turn, ticket_after, request_in_hand, attempts, polls_request, polls_at, refusal_of, op_begun, refresh_call, poll_begun, poll_call, sleep_call, wake_call, call_begun, attempt_left, poll_left, serial_taken, update_done, is_no_room, with_request, accepts, shifts, attempted, attempt_ledto, catch_ledto, clear_ledto, is_finished, is_owed, request_finished, lacks_room, finishes_request, keeps_request, poll_ledto, turn_ledto, leave_ledto, attempt_moved, caught, own_turn_moved, sitting_ask, sitting_next, sitting_given}
use Rattle.fkv_session.specs.Shares.{HasItsBuckets}
use Rattle.fkv_session.specs.TrueAnswers.{trial_of, IsPhaseSeen}
use Rattle.fkv_session.proofs.CallTries.{LastTry, HasAwaited, HasShifted, SomeTry, TryEnded, AttemptAt, AttemptNow, AttemptEnd, begun_ran, ended_true, more_last, attempt_goes, HasRefreshed, has_refreshed, more_refreshed}
use Rattle.fkv_session.proofs.PhaseTold.{PhaseNow, phase_step, phase_taken, refresh_now, wake_now}

-- what an operation is answered, by its last try
abbrev pub OpKnown : Trial → List Exchange → Told → Type 0
OpKnown c asked (told.Done serial reply) = is_read c.request.op ≡ false
OpKnown c asked (told.Pending serial why) = (is_read c.request.op ≡ false) × LastTry c asked why
OpKnown c asked (told.Found value) = TryEnded c asked (tried.Found value)
OpKnown c asked told.Absent = TryEnded c asked tried.Absent
OpKnown c asked (told.PendingRead ticket) = (is_read c.request.op ≡ true) × SomeTry c asked
OpKnown c asked (told.Refused fault.IndexFull) = TryEnded c asked tried.IndexFull
OpKnown c asked (told.Refused fault.LogFull) = TryEnded c asked tried.LogFull
OpKnown c asked its = ⊥

-- what another call is answered
abbrev pub OtherKnown : Seat → Seen → List Exchange → SessionState → Call → Told → Type 0
OtherKnown k was asked s call.Refresh (told.Refreshed phase version) = IsPhaseSeen was s.seen (loaded_last asked (shared_place one.Phase)) phase version
OtherKnown k was asked s call.Wake (told.Woken phase version) = IsPhaseSeen was s.seen (loaded_last asked (shared_place one.Phase)) phase version × (s.is_awake ≡ true)
OtherKnown k was asked s call.Durable (told.Durable serial) = loaded_last asked (session_place k.number own.Durable) ≡ Some serial.0
OtherKnown k was asked s call.Sleep told.Slept = s.is_awake ≡ false
OtherKnown k was asked s call.Poll (told.Polled left) = ⊤
OtherKnown k was asked s its it = ⊥

-- the call that catches up for itself
abbrev pub call_of : CatchCause → Call
call_of Wakes = call.Wake
call_of cause = call.Refresh

not_done : (ask : Ask TryAnswer) (its : TryAnswer) → is_done ask ≡ false → ask ≡ Done its → ⊥
not_done (Done it) its e same = cc
not_done ask its e same = cc

-- an attempt that answers has ended
end_at : (c : Trial) (asked : List Exchange) (p : Places) (n : ℕ) (a : AttemptState) (step : Attempting) (its : TryAnswer) → AttemptAt c asked a step → is_done (attempting_ask p n a step) ≡ is_attempt_end step → attempting_ask p n a step ≡ Done its
    → AttemptEnd c asked its
unfolding attempting_ask
end_at c asked p n a (Ended it) its at done e = let same : it ≡ its = cc in subst (λ (x : TryAnswer). AttemptEnd c asked x) same at
end_at c asked p n a step its at done e = absurd (not_done (attempting_ask p n a step) its done e)

module _ (k : Seat) (buckets : HasItsBuckets k) (was : Seen) (called : Option Call) where
  -- where a call ends
  pub data EndKnown (asked : List Exchange) (s : SessionState) (its : Told) : Type 0 where
    ByOp : called ≡ Some (call.Op s.op) → OpKnown (trial_of k buckets s.seen s.floor s.op) asked its → EndKnown asked s its
    ByOther : (other : Call) → called ≡ Some other → OtherKnown k was asked s other its → EndKnown asked s its

  -- a turn keeps what its call is answered behind it
  abbrev pub StepKnown : List Exchange → SessionState → Sitting → Type 0
  StepKnown asked s (Idle its) = ⊤
  StepKnown asked s (Attempts has_shifted) = (called ≡ Some (call.Op s.op)) × AttemptRestsOrAsks s.attempt × AttemptNow (trial_of k buckets s.seen s.floor s.op) asked s.attempt × (has_shifted ≡ true → HasRefreshed asked)
  StepKnown asked s (CatchesUp Shifts) = (called ≡ Some (call.Op s.op)) × PhaseNow s.seen asked s.catching
  StepKnown asked s (CatchesUp cause) = (called ≡ Some (call_of cause)) × (s.seen ≡ was) × PhaseNow s.seen asked s.catching
  StepKnown asked s (Turns (told.Pending serial why)) = (called ≡ Some (call.Op s.op)) × (is_read s.op ≡ false) × LastTry (trial_of k buckets s.seen s.floor s.op) asked why
  StepKnown asked s (Turns (told.Polled left)) = called ≡ Some call.Poll
  StepKnown asked s (Turns its) = ⊥
  StepKnown asked s StoresCut = called ≡ Some call.Sleep
  StepKnown asked s Leaves = called ≡ Some call.Sleep
  StepKnown asked s LoadsDurable = called ≡ Some call.Durable
  StepKnown asked s step = called ≡ Some call.Poll

  abbrev AfterKnown : List Exchange → SessionState → Sitting → Type 0
  AfterKnown asked s (Idle its) = EndKnown asked s its
  AfterKnown asked s step = StepKnown asked s step

  abbrev pub KnownAfter : List Exchange → SessionState → Type 0
  KnownAfter asked s = AfterKnown asked s s.step

  abbrev pub KnownNow : List Exchange → SessionState → Type 0
  KnownNow asked s = StepKnown asked s s.step

  step_after : (asked : List Exchange) (s : SessionState) (step : Sitting) → is_busy step ≡ true → StepKnown asked s step → AfterKnown asked s step
  step_after asked s (Idle its) busy known = cc
  step_after asked s step busy known = known

  after_step : (asked : List Exchange) (s : SessionState) (step : Sitting) → AfterKnown asked s step → StepKnown asked s step
  after_step asked s (Idle its) known = tt
  after_step asked s step known = known

  still : (asked : List Exchange) (s : SessionState) (step : Sitting) → s.step ≡ step → is_busy step ≡ true → StepKnown asked s step → KnownAfter asked s
  still asked s step e busy known = subst (λ (x : Sitting). AfterKnown asked s x) (sym e) (step_after asked s step busy known)

  either : (b : Bool) (asked : List Exchange) (one other : SessionState) → KnownAfter asked one → KnownAfter asked other → KnownAfter asked (if b then one else other)
  either true asked one other known known_other = known
  either false asked one other known known_other = known_other

  turn_waits : (asked : List Exchange) (s : SessionState) (serial : Serial) (why : Reason) → called ≡ Some (call.Op s.op) → is_read s.op ≡ false → LastTry (trial_of k buckets s.seen s.floor s.op) asked why → KnownAfter asked (answers_after_turn s (told.Pending serial why))
  turn_waits asked s serial why op update last = either s.wants_turn asked _ (answers s (told.Pending serial why)) (op, update, last) (ByOp op (update, last))

  turn_polled : (asked : List Exchange) (s : SessionState) (left : ℕ) → called ≡ Some call.Poll → KnownAfter asked (answers_after_turn s (told.Polled left))
  turn_polled asked s left poll = either s.wants_turn asked _ (answers s (told.Polled left)) poll (ByOther call.Poll poll tt)

  attempts_known : (asked : List Exchange) (s : SessionState) (has_shifted : Bool) → called ≡ Some (call.Op s.op) → (has_shifted ≡ true → HasRefreshed asked) → KnownAfter asked (attempts k s has_shifted)
  unfolding attempts
  attempts_known asked s has_shifted op has =
      (op, attempt_begun_rests k.places (bits_of k) (request_in_hand s) s.seen (AtCall (bounds_of k.shape)) s.spare s.is_orphaned, begun_ran (trial_of k buckets s.seen s.floor s.op) asked s.spare, has)

  found_known : (asked : List Exchange) (s : SessionState) (i : ℕ) (found : Option PendingRequest) → called ≡ Some call.Poll → KnownAfter asked (polls_request k s i found)
  found_known asked s i None poll = turn_polled asked s (length s.requests) poll
  found_known asked s i (Some pending) poll = poll

  polls_known : (asked : List Exchange) (s : SessionState) (i : ℕ) → called ≡ Some call.Poll → KnownAfter asked (polls_at k s i)
  unfolding polls_at
  polls_known asked s i poll = found_known asked s i (slice_get s.requests i) poll

  -- what an attempt at a call leads to
  accepts_known : (asked : List Exchange) (s : SessionState) (why : Reason) → called ≡ Some (call.Op s.op) → LastTry (trial_of k buckets s.seen s.floor s.op) asked why → KnownAfter asked (accepts s why)
  unfolding accepts
  accepts_known asked s why op last = tested (is_read s.op) refl
    where
      tested : (b : Bool) → is_read s.op ≡ b
          → KnownAfter asked (if b then answers (with_request (record s { ticket = ticket_after s.ticket })) (told.PendingRead (record { 0 = ticket_after s.ticket }))
          else answers_after_turn (with_request (serial_taken (record s { wants_turn = is_no_room why }))) (told.Pending (record { 0 = s.serial + 1 }) why))
      tested true e = ByOp op (e, record { why = why; last = last })
      tested false e = turn_waits asked (with_request (serial_taken (record s { wants_turn = is_no_room why }))) (record { 0 = s.serial + 1 }) why op e last

  shifts_known : (asked : List Exchange) (s : SessionState) (has_shifted : Bool) → called ≡ Some (call.Op s.op) → (has_shifted ≡ true → HasRefreshed asked) → TryEnded (trial_of k buckets s.seen s.floor s.op) asked tried.Shift → KnownAfter asked (shifts s has_shifted)
  unfolding shifts
  shifts_known asked s false op has ended = (op, refresh_now s.seen asked s.catching s.serial)
  shifts_known asked s true op has ended = accepts_known asked s reason.Contended op (HasShifted refl ended (has refl))

  done_known : (asked : List Exchange) (s : SessionState) (its : Reply) → called ≡ Some (call.Op s.op) → is_read s.op ≡ false → KnownAfter asked (if is_read s.op then answers s told.Absent else update_done s its)
  done_known asked s its op update = tested (is_read s.op) refl
    where
      tested : (b : Bool) → is_read s.op ≡ b → KnownAfter asked (if b then answers s told.Absent else update_done s its)
      tested true e = absurd (never (sym e ∙ update))
        where
          never : true ≡ false → ⊥
          never e = cc
      tested false e = ByOp op update

  attempted_known : (asked : List Exchange) (s : SessionState) (has_shifted : Bool) (its : TryAnswer) → called ≡ Some (call.Op s.op) → (has_shifted ≡ true → HasRefreshed asked) → AttemptEnd (trial_of k buckets s.seen s.floor s.op) asked its → KnownAfter asked (attempted s has_shifted its)
  attempted_known asked s has_shifted (tried.Done its) op has end = done_known asked s its op (ended_true (trial_of k buckets s.seen s.floor s.op) asked (tried.Done its) end)
  attempted_known asked s has_shifted (tried.Found value) op has end = ByOp op end
  attempted_known asked s has_shifted tried.Absent op has end = ByOp op end
  attempted_known asked s has_shifted (tried.Wait why) op has end = accepts_known asked s why op end
  attempted_known asked s has_shifted (tried.AwaitsDisk sought) op has end = accepts_known asked s reason.Disk op (HasAwaited refl (record { it = sought; ended = end }))
  attempted_known asked s has_shifted tried.Shift op has end = shifts_known asked s has_shifted op has end
  attempted_known asked s has_shifted tried.IndexFull op has end = ByOp op end
  attempted_known asked s has_shifted tried.LogFull op has end = ByOp op end

  attempt_known : (asked : List Exchange) (s : SessionState) (has_shifted : Bool) (ask : Ask TryAnswer) → s.step ≡ Attempts has_shifted → StepKnown asked s (Attempts has_shifted) → attempt_ask k.places k.number s.attempt ≡ ask
      → KnownAfter asked (attempt_ledto s has_shifted ask)
  unfolding attempt_ledto
  attempt_known asked s has_shifted (Done its) e known asks =
      attempted_known asked (attempt_left s) has_shifted its known.0 known.3
      (end_at (trial_of k buckets s.seen s.floor s.op) asked k.places k.number s.attempt s.attempt.step its known.2 (attempt_done k.places k.number s.attempt known.1) asks)
  attempt_known asked s has_shifted ask e known asks = still asked s (Attempts has_shifted) e refl known

  -- catching up
  phase_so : (asked : List Exchange) (s : SessionState) (its : Unit {0}) → s.seen ≡ was → PhaseNow s.seen asked s.catching → catch_ask k.places k.number s.catching s.requests ≡ Done its
      → IsPhaseSeen was s.catching.seen (loaded_last asked (shared_place one.Phase)) s.catching.seen.phase s.catching.seen.version
  phase_so asked s its same phase asks = record {
    its_phase = refl;
    its_version = refl;
    its_word = subst (λ (x : Seen). IsTakenUp x s.catching.seen (loaded_last asked (shared_place one.Phase))) same (phase_taken k.places k.number s.seen asked s.catching s.requests s.catching.step its phase asks);
  }

  catch_known : (asked : List Exchange) (s : SessionState) (cause : CatchCause) (ask : Ask (Unit {0})) → s.step ≡ CatchesUp cause → StepKnown asked s (CatchesUp cause) → catch_ask k.places k.number s.catching s.requests ≡ ask
      → KnownAfter asked (catch_ledto k s cause ask)
  unfolding catch_ledto
  catch_known asked s Refreshes (Done its) e known asks = ByOther call.Refresh known.0 (phase_so asked s its known.1 known.2 asks)
  catch_known asked s Wakes (Done its) e known asks = ByOther call.Wake known.0 (phase_so asked s its known.1 known.2 asks, refl)
  catch_known asked s Shifts (Done its) e known asks =
      attempts_known asked (record s { seen = s.catching.seen }) true known.0
      (λ _. has_refreshed asked s.seen s.catching.seen (phase_taken k.places k.number s.seen asked s.catching s.requests s.catching.step its known.1 asks))
  catch_known asked s cause ask e known asks = still asked s (CatchesUp cause) e refl known

  -- polls
  clear_known : (asked : List Exchange) (s : SessionState) (ask : Ask MailAnswer) → s.step ≡ ClearsMail → called ≡ Some call.Poll → KnownAfter asked (clear_ledto k s ask)
  unfolding clear_ledto
  clear_known asked s (Done Cleared) e poll = polls_known asked (record s { is_orphaned = false }) 0 poll
  clear_known asked s (Done its) e poll = polls_known asked s 0 poll
  clear_known asked s ask e poll = still asked s ClearsMail e refl poll

  finishes_known : (asked : List Exchange) (s : SessionState) (i : ℕ) (its : TryAnswer) → called ≡ Some call.Poll → KnownAfter asked (finishes_request k s i its)
  unfolding finishes_request
  finishes_known asked s i its poll = either (is_owed s) asked (request_finished s i its) (polls_at k (request_finished s i its) i) poll (polls_known asked (request_finished s i its) i poll)

  keeps_known : (asked : List Exchange) (s : SessionState) (i : ℕ) (its : TryAnswer) → called ≡ Some call.Poll → KnownAfter asked (keeps_request k s i its)
  unfolding keeps_request
  keeps_known asked s i its poll = polls_known asked (record s { requests = slice_set s.requests i s.attempt.pending; wants_turn = s.wants_turn || lacks_room its }) (i + 1) poll

  poll_known : (asked : List Exchange) (s : SessionState) (i : ℕ) (ask : Ask TryAnswer) → s.step ≡ Polls i → called ≡ Some call.Poll → KnownAfter asked (poll_ledto k s i ask)
  unfolding poll_ledto
  poll_known asked s i (Done its) e poll =
      either (is_finished its) asked (finishes_request k (poll_left s) i its) (keeps_request k (poll_left s) i its) (finishes_known asked (poll_left s) i its poll) (keeps_known asked (poll_left s) i its poll)
  poll_known asked s i ask e poll = still asked s (Polls i) e refl poll

  -- turns and sleep
  turned_known : (asked : List Exchange) (s : SessionState) (its : Told) (ask : Ask (Unit {0})) → s.step ≡ Turns its → StepKnown asked s (Turns its) → KnownAfter asked (turn_ledto s its ask)
  unfolding turn_ledto
  turned_known asked s (told.Pending serial why) (Done through) e known = ByOp known.0 (known.1, known.2)
  turned_known asked s (told.Polled left) (Done through) e known = ByOther call.Poll known tt
  turned_known asked s its (Done through) e known = absurd known
  turned_known asked s its ask e known = still asked s (Turns its) e refl known

  more_turned : (asked : List Exchange) (it : Exchange) (s : SessionState) (its : Told) → StepKnown asked s (Turns its) → StepKnown (it ∷ asked) s (Turns its)
  more_turned asked it s (told.Pending serial why) known = (known.0, known.1, more_last (trial_of k buckets s.seen s.floor s.op) asked it why known.2)
  more_turned asked it s (told.Polled left) known = known
  more_turned asked it s its known = absurd known

  left_known : (asked : List Exchange) (s : SessionState) (ask : Ask (Unit {0})) → s.step ≡ Leaves → called ≡ Some call.Sleep → KnownAfter asked (leave_ledto s ask)
  unfolding leave_ledto
  left_known asked s (Done its) e sleep = ByOther call.Sleep sleep refl
  left_known asked s ask e sleep = still asked s Leaves e refl sleep

  -- behind each reply
  abbrev with_ask : SessionState → Sitting → ℕ → List Exchange → List Exchange
  with_ask s step reply asked = record { ask = sitting_ask k s step; reply = reply } ∷ asked

  caught_known : (asked : List Exchange) (s : SessionState) (asks : ℕ) (cause : CatchCause) (reply : ℕ) → StepKnown asked s (CatchesUp cause) → StepKnown (with_ask s (CatchesUp cause) reply asked) (caught k (record s { asks = asks; effect = None }) reply) (CatchesUp cause)
  unfolding sitting_ask
  caught_known asked s asks Refreshes reply known =
      (known.0, known.1, phase_step k.places (bits_of k) k.number s.seen asked s.catching s.requests (catch_requests s.catching s.requests reply) s.catching.step reply refl known.2)
  caught_known asked s asks Wakes reply known =
      (known.0, known.1, phase_step k.places (bits_of k) k.number s.seen asked s.catching s.requests (catch_requests s.catching s.requests reply) s.catching.step reply refl known.2)
  caught_known asked s asks Shifts reply known =
      (known.0, phase_step k.places (bits_of k) k.number s.seen asked s.catching s.requests (catch_requests s.catching s.requests reply) s.catching.step reply refl known.1)

  next_known : (asked : List Exchange) (s : SessionState) (asks : ℕ) (step : Sitting) (reply : ℕ) → s.step ≡ step → is_busy step ≡ true → StepKnown asked s step
      → KnownAfter (with_ask s step reply asked) (sitting_next k (record s { asks = asks; effect = None }) step reply)
  unfolding sitting_next sitting_ask
  next_known asked s asks (Idle its) reply e busy known = cc
  next_known asked s asks (Attempts has_shifted) reply e busy known =
      let t : SessionState = record s { asks = asks; effect = None } in
      attempt_known (with_ask s (Attempts has_shifted) reply asked) (attempt_moved k t reply) has_shifted _ e (
        known.0,
        attempt_rests k.places (bits_of k) (room_of k) k.number s.attempt reply known.1,
        attempt_goes k buckets s.seen s.floor s.op asked s.attempt s.attempt.step reply refl known.2,
        λ shifted. more_refreshed asked _ (known.3 shifted),
      ) refl
  next_known asked s asks (CatchesUp cause) reply e busy known =
      let t : SessionState = record s { asks = asks; effect = None } in
      catch_known (with_ask s (CatchesUp cause) reply asked) (caught k t reply) cause _ e (caught_known asked s asks cause reply known) refl
  next_known asked s asks ClearsMail reply e busy known = let t : SessionState = record s { asks = asks; effect = None } in clear_known (with_ask s ClearsMail reply asked) (record t { mailing = mail_next s.mailing reply }) _ e known
  next_known asked s asks (Polls i) reply e busy known = let t : SessionState = record s { asks = asks; effect = None } in poll_known (with_ask s (Polls i) reply asked) (attempt_moved k t reply) i _ e known
  next_known asked s asks (StoresOwing i) reply e busy known = polls_known (with_ask s (StoresOwing i) reply asked) (record s { asks = asks; effect = None }) i known
  next_known asked s asks (Turns its) reply e busy known =
      let t : SessionState = record s { asks = asks; effect = None } in
      turned_known (with_ask s (Turns its) reply asked) (own_turn_moved k t reply) its _ e (moved_turned its (more_turned asked (record { ask = sitting_ask k s (Turns its); reply = reply }) s its known))
    where
      moved_turned : (its : Told) → StepKnown (with_ask s (Turns its) reply asked) s (Turns its) → StepKnown (with_ask s (Turns its) reply asked) (own_turn_moved k (record s { asks = asks; effect = None }) reply) (Turns its)
      moved_turned (told.Pending serial why) known = known
      moved_turned (told.Polled left) known = known
      moved_turned its known = absurd known
  next_known asked s asks StoresCut reply e busy known = known
  next_known asked s asks Leaves reply e busy known = let t : SessionState = record s { asks = asks; effect = None } in left_known (with_ask s Leaves reply asked) (record t { leaving = leave_next s.leaving }) _ e known
  next_known asked s asks LoadsDurable reply e busy known = ByOther call.Durable known (loaded_there (session_place k.number own.Durable) reply asked)
    where
      loaded_there : (place reply : ℕ) (before : List Exchange) → loaded_last (record { ask = Load place; reply = reply } ∷ before) place ≡ Some reply
      loaded_there place reply before = rw (itself place) refl
        where
          itself : (n : ℕ) → (n == n) ≡ true
          itself n = grind (arith, nat_tests)

  given_known : (asked : List Exchange) (s : SessionState) (step : Sitting) (action : Action) → s.step ≡ step → is_busy step ≡ true → StepKnown asked s step → KnownAfter asked (sitting_given k s step action)
  unfolding sitting_given
  given_known asked s (Turns its) action e busy known = turned_known asked (record s { own_turn = own_turn_given s.own_turn action }) its _ e (moved_turned its known)
    where
      moved_turned : (its : Told) → StepKnown asked s (Turns its) → StepKnown asked (record s { own_turn = own_turn_given s.own_turn action }) (Turns its)
      moved_turned (told.Pending serial why) known = known
      moved_turned (told.Polled left) known = known
      moved_turned its known = absurd known
  given_known asked s step action e busy known = still asked s step e busy known

  idle_next : (asked : List Exchange) (s : SessionState) (asks : ℕ) (step : Sitting) (reply : ℕ) → s.step ≡ step → is_busy step ≡ false → KnownNow (with_ask s step reply asked) (sitting_next k (record s { asks = asks; effect = None }) step reply)
  unfolding sitting_next
  idle_next asked s asks (Idle its) reply e rests = subst (λ (x : Sitting). StepKnown (with_ask s (Idle its) reply asked) (record s { asks = asks; effect = None }) x) (sym e) tt
  idle_next asked s asks step reply e rests = cc

  pub next_now : (asked : List Exchange) (s : SessionState) (asks : ℕ) (step : Sitting) (reply : ℕ) → s.step ≡ step → StepKnown asked s step → KnownNow (with_ask s step reply asked) (sitting_next k (record s { asks = asks; effect = None }) step reply)
  next_now asked s asks step reply e known = tested (is_busy step) refl
    where
      tested : (b : Bool) → is_busy step ≡ b → KnownNow (with_ask s step reply asked) (sitting_next k (record s { asks = asks; effect = None }) step reply)
      tested true busy = let after : SessionState = sitting_next k (record s { asks = asks; effect = None }) step reply in after_step _ after after.step (next_known asked s asks step reply e busy known)
      tested false rests = idle_next asked s asks step reply e rests

  idle_given : (asked : List Exchange) (s : SessionState) (step : Sitting) (action : Action) → s.step ≡ step → is_busy step ≡ false → KnownNow asked (sitting_given k s step action)
  unfolding sitting_given
  idle_given asked s (Idle its) action e rests = subst (λ (x : Sitting). StepKnown asked s x) (sym e) tt
  idle_given asked s step action e rests = cc

  pub given_now : (asked : List Exchange) (s : SessionState) (step : Sitting) (action : Action) → s.step ≡ step → StepKnown asked s step → KnownNow asked (sitting_given k s step action)
  given_now asked s step action e known = tested (is_busy step) refl
    where
      tested : (b : Bool) → is_busy step ≡ b → KnownNow asked (sitting_given k s step action)
      tested true busy = let after : SessionState = sitting_given k s step action in after_step asked after after.step (given_known asked s step action e busy known)
      tested false rests = idle_given asked s step action e rests

  pub next_end : (asked : List Exchange) (s : SessionState) (asks : ℕ) (reply : ℕ) (its : Told) → is_busy s.step ≡ true → KnownNow asked s → (sitting_next k (record s { asks = asks; effect = None }) s.step reply).step ≡ Idle its
      → EndKnown (with_ask s s.step reply asked) (sitting_next k (record s { asks = asks; effect = None }) s.step reply) its
  next_end asked s asks reply its busy known e =
      let after : SessionState = sitting_next k (record s { asks = asks; effect = None }) s.step reply in
      subst (λ (x : Sitting). AfterKnown (with_ask s s.step reply asked) after x) e (next_known asked s asks s.step reply refl busy known)

  pub given_end : (asked : List Exchange) (s : SessionState) (action : Action) (its : Told) → is_busy s.step ≡ true → KnownNow asked s → (sitting_given k s s.step action).step ≡ Idle its → EndKnown asked (sitting_given k s s.step action) its
  given_end asked s action its busy known e =
      let after : SessionState = sitting_given k s s.step action in
      subst (λ (x : Sitting). AfterKnown asked after x) e (given_known asked s s.step action refl busy known)

-- a call that begins
module _ (k : Seat) (buckets : HasItsBuckets k) where
  abbrev BegunKnown : Seen → Option Call → SessionState → Type 0
  BegunKnown was called s = KnownNow k buckets was called [] s

  either_begun : (b : Bool) (was : Seen) (called : Option Call) (one other : SessionState) → BegunKnown was called one → BegunKnown was called other → BegunKnown was called (if b then one else other)
  either_begun true was called one other known known_other = known
  either_begun false was called one other known known_other = known_other

  op_known : (was : Seen) (s : SessionState) (op : Op) (found : Option Fault) → BegunKnown was (Some (call.Op op)) (op_begun k s op found)
  unfolding op_begun
  op_known was s op (Some why) = tt
  op_known was s op None =
      let its : SessionState = record s { op = op } in
      let after : SessionState = attempts k its false in
      after_step k buckets was (Some (call.Op op)) [] after after.step (attempts_known k buckets was (Some (call.Op op)) [] its false refl (λ e. cc))

  pub call_known : (s : SessionState) (its : Call) → BegunKnown s.seen (Some its) (call_begun k s its)
  unfolding refresh_call poll_call sleep_call wake_call
  call_known s (call.Op op) = op_known s.seen s op (refusal_of s op)
  call_known s call.Refresh = either_begun s.is_awake s.seen (Some call.Refresh) _ (refuses s fault.Asleep) (refl, refl, refresh_now s.seen [] s.catching s.serial) tt
  call_known s call.Poll =
      let its : SessionState = record s { finished = [] } in
      let after : SessionState = polls_at k its 0 in
      either_begun s.is_awake s.seen (Some call.Poll) (poll_begun k its) (refuses s fault.Asleep)
      (either_begun s.is_orphaned s.seen (Some call.Poll) _ after refl (after_step k buckets s.seen (Some call.Poll) [] after after.step (polls_known k buckets s.seen (Some call.Poll) [] its 0 refl))) tt
  call_known s call.Sleep =
      either_begun (not s.is_awake) s.seen (Some call.Sleep) (refuses s fault.Asleep) _ tt (either_begun (length s.requests == 0) s.seen (Some call.Sleep) (record s { step = StoresCut }) (refuses s fault.PendingLeft) refl tt)
  call_known s call.Wake = either_begun s.is_awake s.seen (Some call.Wake) (refuses s fault.Awake) _ tt (refl, refl, wake_now s.seen [] s.catching s.serial)
  call_known s call.Durable = refl
