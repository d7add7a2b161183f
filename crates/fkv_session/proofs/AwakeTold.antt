-- A session is awake unless the last of its answers that tell of that is that it sleeps; and it falls asleep where it stores 0 as its epoch word.
use Rattle.std.proofs.Common.{◌≡◌, ℕ, ◌+◌, ◌∙◌, List, [], ◌∷◌, length, refl, sym, ap, subst, Bool, true, false}
use Rattle.std.specs.Prelude.{◌≢◌, ⊤, Option, Some, None, if◌then◌else◌, not, ◌==◌, ◌||◌, slice_get, slice_set}
use Rattle.fkv_base.specs.declared.faults.Fault.{Fault}
use Rattle.fkv_base.specs.declared.faults.Fault.TheVariants as fault
use Rattle.fkv_map.specs.declared.operations.Call.{Call}
use Rattle.fkv_map.specs.declared.operations.Call.TheVariants as call
use Rattle.fkv_map.specs.declared.operations.Op.{Op}
use Rattle.fkv_plane.specs.declared.actions.Action.{Action}
use Rattle.fkv_plane.specs.declared.asks.Ask.{Ask}
use Rattle.fkv_plane.specs.declared.asks.Ask.TheVariants.{Load, Store, Done}
use Rattle.fkv_plane.specs.declared.places.SessionWord.TheVariants as own
use Rattle.fkv_plane.specs.Places.{session_place}
use Rattle.fkv_plane.specs.Passing.{passed}
use Rattle.fkv_epoch.specs.declared.leaving.Leaving.{Leaving}
use Rattle.fkv_epoch.specs.declared.leaving.Leaving.TheVariants as leave
use Rattle.fkv_epoch.specs.Leaving.{leave_ask, leave_next}
use Rattle.fkv_ops.specs.declared.answers.Reason.{Reason}
use Rattle.fkv_ops.specs.declared.answers.Reason.TheVariants as reason
use Rattle.fkv_ops.specs.declared.answers.TryAnswer.{TryAnswer}
use Rattle.fkv_ops.specs.declared.answers.TryAnswer.TheVariants as tried
use Rattle.fkv_ops.specs.Requests.{is_read}
use Rattle.fkv_pending.specs.declared.mailing.MailAnswer.{MailAnswer}
use Rattle.fkv_pending.specs.declared.mailing.MailAnswer.TheVariants.{Cleared}
use Rattle.fkv_pending.specs.declared.pending_requests.PendingRequest.{PendingRequest}
use Rattle.fkv_pending.specs.Mailing.{mail_next}
use Rattle.fkv_session.specs.declared.answers.Finished.{Finished}
use Rattle.fkv_session.specs.declared.answers.Told.{Told}
use Rattle.fkv_session.specs.declared.answers.Told.TheVariants as told
use Rattle.fkv_session.specs.declared.sessions.CatchCause.{CatchCause}
use Rattle.fkv_session.specs.declared.sessions.CatchCause.TheVariants.{Refreshes, Wakes, Shifts}
use Rattle.fkv_session.specs.declared.sessions.Sitting.{Sitting}
use Rattle.fkv_session.specs.declared.sessions.Sitting.TheVariants.{Idle, Attempts, CatchesUp, ClearsMail, Polls, StoresOwing, Turns, StoresCut, Leaves, LoadsDurable}
use Rattle.fkv_session.specs.InOrder.{epoch_place}
use Rattle.fkv_session.proofs.AsleepKept.{run_asleep}
use Rattle.fkv_session.specs.OwnTurns.{own_turn_given}
use Rattle.fkv_session.specs.Sessions.{SessionState, Seat, IsOpened, asks_after, is_word_ask, is_busy, answers, refuses, answers_after_turn, ticket_after, attempts, polls_request, polls_at, refusal_of, op_begun, refresh_call, poll_begun, poll_call, sleep_call, wake_call, call_begun, attempt_left, poll_left, serial_taken, update_done, is_no_room, with_request, accepts, shifts, attempted, attempt_ledto, catch_ledto, clear_ledto, is_finished, is_owed, request_finished, lacks_room, finishes_request, keeps_request, poll_ledto, turn_ledto, leave_ledto, attempt_moved, caught, own_turn_moved, sitting_ask, session_ask, sitting_next, sitting_given}
use Rattle.fkv_session.specs.SessionRun.{SessionEvent, Begins, Replies, Gets, Telling, begins, is_calling, session_happens, session_run, answered, told_after, tellings}
use Rattle.fkv_session.specs.Asleep.{IsStepAsleep, is_awake_told}

-- an answer that tells nothing of sleep
abbrev pub TellsNoSleep : Told → Type 0
TellsNoSleep told.Slept = ⊥
TellsNoSleep (told.Woken phase version) = ⊥
TellsNoSleep its = ⊤

-- what each step knows
abbrev pub SleepRow : SessionState → Sitting → Type 0
SleepRow s (Turns its) = TellsNoSleep its
SleepRow s Leaves = s.leaving ≡ leave.StoresZero
SleepRow s step = ⊤

module _ (k : Seat) (ask : Ask Told) (awake : Bool) where
  -- behind a step with this ask, of a session that was awake or not
  abbrev pub AwakeAt : SessionState → Sitting → Type 0
  AwakeAt s (Idle told.Slept) = (s.is_awake ≡ false) × (ask ≡ Store (epoch_place k) 0)
  AwakeAt s (Idle (told.Woken phase version)) = s.is_awake ≡ true
  AwakeAt s (Idle its) = s.is_awake ≡ awake
  AwakeAt s (Turns its) = (s.is_awake ≡ awake) × TellsNoSleep its
  AwakeAt s Leaves = (s.is_awake ≡ awake) × (s.leaving ≡ leave.StoresZero)
  AwakeAt s step = s.is_awake ≡ awake

  abbrev pub AwakeNow : SessionState → Type 0
  AwakeNow s = AwakeAt s s.step

  either : (b : Bool) (one other : SessionState) → AwakeNow one → AwakeNow other → AwakeNow (if b then one else other)
  either true one other now now_other = now
  either false one other now now_other = now_other

  row_at : (s : SessionState) (step : Sitting) → is_busy step ≡ true → s.is_awake ≡ awake → SleepRow s step → AwakeAt s step
  row_at s (Idle its) busy same row = cc
  row_at s (Turns its) busy same row = (same, row)
  row_at s Leaves busy same row = (same, row)
  row_at s step busy same row = same

  still : (s : SessionState) (step : Sitting) → s.step ≡ step → is_busy step ≡ true → s.is_awake ≡ awake → SleepRow s step → AwakeNow s
  still s step e busy same row = subst (λ (x : Sitting). AwakeAt s x) (sym e) (row_at s step busy same row)

  turn_awake : (s : SessionState) (its : Told) → TellsNoSleep its → s.is_awake ≡ awake → AwakeNow (answers s its) → AwakeNow (answers_after_turn s its)
  turn_awake s its plain same now = either s.wants_turn _ (answers s its) (same, plain) now

  attempts_awake : (s : SessionState) (has_shifted : Bool) → s.is_awake ≡ awake → AwakeNow (attempts k s has_shifted)
  unfolding attempts
  attempts_awake s has_shifted same = same

  found_awake : (s : SessionState) (i : ℕ) (found : Option PendingRequest) → s.is_awake ≡ awake → AwakeNow (polls_request k s i found)
  found_awake s i None same = turn_awake s (told.Polled (length s.requests)) tt same same
  found_awake s i (Some pending) same = same

  polls_awake : (s : SessionState) (i : ℕ) → s.is_awake ≡ awake → AwakeNow (polls_at k s i)
  unfolding polls_at
  polls_awake s i same = found_awake s i (slice_get s.requests i) same

  accepts_awake : (s : SessionState) (why : Reason) → s.is_awake ≡ awake → AwakeNow (accepts s why)
  unfolding accepts
  accepts_awake s why same =
      either (is_read s.op) (answers (with_request (record s { ticket = ticket_after s.ticket })) (told.PendingRead (record { 0 = ticket_after s.ticket }))) _ same
      (turn_awake (with_request (serial_taken (record s { wants_turn = is_no_room why }))) (told.Pending (record { 0 = s.serial + 1 }) why) tt same same)

  shifts_awake : (s : SessionState) (has_shifted : Bool) → s.is_awake ≡ awake → AwakeNow (shifts s has_shifted)
  unfolding shifts
  shifts_awake s false same = same
  shifts_awake s true same = accepts_awake s reason.Contended same

  attempted_awake : (s : SessionState) (has_shifted : Bool) (its : TryAnswer) → s.is_awake ≡ awake → AwakeNow (attempted s has_shifted its)
  attempted_awake s has_shifted (tried.Done reply) same = either (is_read s.op) (answers s told.Absent) (update_done s reply) same same
  attempted_awake s has_shifted (tried.Found value) same = same
  attempted_awake s has_shifted tried.Absent same = same
  attempted_awake s has_shifted (tried.Wait why) same = accepts_awake s why same
  attempted_awake s has_shifted (tried.AwaitsDisk sought) same = accepts_awake s reason.Disk same
  attempted_awake s has_shifted tried.Shift same = shifts_awake s has_shifted same
  attempted_awake s has_shifted tried.IndexFull same = same
  attempted_awake s has_shifted tried.LogFull same = same

  attempt_awake : (s : SessionState) (has_shifted : Bool) (its : Ask TryAnswer) → s.step ≡ Attempts has_shifted → s.is_awake ≡ awake → AwakeNow (attempt_ledto s has_shifted its)
  unfolding attempt_ledto
  attempt_awake s has_shifted (Done its) e same = attempted_awake (attempt_left s) has_shifted its same
  attempt_awake s has_shifted its e same = still s (Attempts has_shifted) e refl same tt

  catch_awake : (s : SessionState) (cause : CatchCause) (its : Ask (Unit {0})) → s.step ≡ CatchesUp cause → s.is_awake ≡ awake → AwakeNow (catch_ledto k s cause its)
  unfolding catch_ledto
  catch_awake s Refreshes (Done its) e same = same
  catch_awake s Wakes (Done its) e same = refl
  catch_awake s Shifts (Done its) e same = attempts_awake (record s { seen = s.catching.seen }) true same
  catch_awake s cause its e same = still s (CatchesUp cause) e refl same tt

  clear_awake : (s : SessionState) (its : Ask MailAnswer) → s.step ≡ ClearsMail → s.is_awake ≡ awake → AwakeNow (clear_ledto k s its)
  unfolding clear_ledto
  clear_awake s (Done Cleared) e same = polls_awake (record s { is_orphaned = false }) 0 same
  clear_awake s (Done its) e same = polls_awake s 0 same
  clear_awake s its e same = still s ClearsMail e refl same tt

  finishes_awake : (s : SessionState) (i : ℕ) (its : TryAnswer) → s.is_awake ≡ awake → AwakeNow (finishes_request k s i its)
  unfolding finishes_request
  finishes_awake s i its same = either (is_owed s) (request_finished s i its) (polls_at k (request_finished s i its) i) same (polls_awake (request_finished s i its) i same)

  keeps_awake : (s : SessionState) (i : ℕ) (its : TryAnswer) → s.is_awake ≡ awake → AwakeNow (keeps_request k s i its)
  unfolding keeps_request
  keeps_awake s i its same = polls_awake (record s { requests = slice_set s.requests i s.attempt.pending; wants_turn = s.wants_turn || lacks_room its }) (i + 1) same

  poll_awake : (s : SessionState) (i : ℕ) (its : Ask TryAnswer) → s.step ≡ Polls i → s.is_awake ≡ awake → AwakeNow (poll_ledto k s i its)
  unfolding poll_ledto
  poll_awake s i (Done its) e same =
      either (is_finished its) (finishes_request k (poll_left s) i its) (keeps_request k (poll_left s) i its) (finishes_awake (poll_left s) i its same) (keeps_awake (poll_left s) i its same)
  poll_awake s i its e same = still s (Polls i) e refl same tt

  plain_answer : (s : SessionState) (its : Told) → TellsNoSleep its → s.is_awake ≡ awake → AwakeNow (answers s its)
  plain_answer s told.Slept plain same = absurd plain
  plain_answer s (told.Woken phase version) plain same = absurd plain
  plain_answer s its plain same = same

  turned_awake : (s : SessionState) (its : Told) (through : Ask (Unit {0})) → s.step ≡ Turns its → TellsNoSleep its → s.is_awake ≡ awake → AwakeNow (turn_ledto s its through)
  unfolding turn_ledto
  turned_awake s its (Done through) e plain same = plain_answer s its plain same
  turned_awake s its through e plain same = still s (Turns its) e refl same plain

  left_awake : (s : SessionState) (leaving : Leaving) → leaving ≡ leave.StoresZero → s.is_awake ≡ awake → ask ≡ passed (leave_ask k.number leaving) told.Slept
      → AwakeNow (leave_ledto (record s { leaving = leave_next leaving }) (leave_ask k.number (leave_next leaving)))
  unfolding leave_ledto leave_next leave_ask passed
  left_awake s leave.StoresZero e same asks = (refl, asks)
  left_awake s leave.AtRest e same asks = cc

  next_awake : (s : SessionState) (asks : ℕ) (step : Sitting) (reply : ℕ) → s.step ≡ step → is_busy step ≡ true → ask ≡ sitting_ask k s step → s.is_awake ≡ awake → SleepRow s step
      → AwakeNow (sitting_next k (record s { asks = asks; effect = None }) step reply)
  unfolding sitting_next sitting_ask
  next_awake s asks (Idle its) reply e busy asked same row = cc
  next_awake s asks (Attempts has_shifted) reply e busy asked same row = attempt_awake (attempt_moved k (record s { asks = asks; effect = None }) reply) has_shifted _ e same
  next_awake s asks (CatchesUp cause) reply e busy asked same row = catch_awake (caught k (record s { asks = asks; effect = None }) reply) cause _ e same
  next_awake s asks ClearsMail reply e busy asked same row = let t : SessionState = record s { asks = asks; effect = None } in clear_awake (record t { mailing = mail_next s.mailing reply }) _ e same
  next_awake s asks (Polls i) reply e busy asked same row = poll_awake (attempt_moved k (record s { asks = asks; effect = None }) reply) i _ e same
  next_awake s asks (StoresOwing i) reply e busy asked same row = polls_awake (record s { asks = asks; effect = None }) i same
  next_awake s asks (Turns its) reply e busy asked same row = turned_awake (own_turn_moved k (record s { asks = asks; effect = None }) reply) its _ e row same
  next_awake s asks StoresCut reply e busy asked same row = (same, refl)
  next_awake s asks Leaves reply e busy asked same row = left_awake (record s { asks = asks; effect = None }) s.leaving row same asked
  next_awake s asks LoadsDurable reply e busy asked same row = same

  given_awake : (s : SessionState) (step : Sitting) (action : Action) → s.step ≡ step → is_busy step ≡ true → s.is_awake ≡ awake → SleepRow s step → AwakeNow (sitting_given k s step action)
  unfolding sitting_given
  given_awake s (Turns its) action e busy same row = turned_awake (record s { own_turn = own_turn_given s.own_turn action }) its _ e row same
  given_awake s step action e busy same row = still s step e busy same row

  row_of : (s : SessionState) (step : Sitting) → AwakeAt s step → SleepRow s step
  row_of s (Turns its) at = at.1
  row_of s Leaves at = at.1
  row_of s (Idle its) at = tt
  row_of s (Attempts has_shifted) at = tt
  row_of s (CatchesUp cause) at = tt
  row_of s ClearsMail at = tt
  row_of s (Polls i) at = tt
  row_of s (StoresOwing i) at = tt
  row_of s StoresCut at = tt
  row_of s LoadsDurable at = tt

  -- where the call is answered
  told_so : (s : SessionState) (step : Sitting) (finished : List Finished) (before : List Telling) → AwakeAt s step → awake ≡ is_awake_told before → s.is_awake ≡ is_awake_told (answered step finished before)
  told_so s (Idle told.Slept) finished before at e = at.0
  told_so s (Idle (told.Woken phase version)) finished before at e = at
  told_so s (Idle (told.Done serial reply)) finished before at e = at ∙ e
  told_so s (Idle (told.Pending serial why)) finished before at e = at ∙ e
  told_so s (Idle (told.Found value)) finished before at e = at ∙ e
  told_so s (Idle told.Absent) finished before at e = at ∙ e
  told_so s (Idle (told.PendingRead ticket)) finished before at e = at ∙ e
  told_so s (Idle (told.Refreshed phase version)) finished before at e = at ∙ e
  told_so s (Idle (told.Polled left)) finished before at e = at ∙ e
  told_so s (Idle (told.Durable serial)) finished before at e = at ∙ e
  told_so s (Idle (told.Refused why)) finished before at e = at ∙ e
  told_so s (Turns its) finished before at e = at.0 ∙ e
  told_so s Leaves finished before at e = at.0 ∙ e
  told_so s step finished before at e = at ∙ e

  -- a call that begins
  op_awake : (s : SessionState) (op : Op) (why : Option Fault) → s.is_awake ≡ awake → AwakeNow (op_begun k s op why)
  unfolding op_begun
  op_awake s op (Some why) same = same
  op_awake s op None same = attempts_awake (record s { op = op }) false same

  pub call_awake : (s : SessionState) (its : Call) → s.is_awake ≡ awake → AwakeNow (call_begun k s its)
  unfolding refresh_call poll_call sleep_call wake_call
  call_awake s (call.Op op) same = op_awake s op (refusal_of s op) same
  call_awake s call.Refresh same = either s.is_awake _ (refuses s fault.Asleep) same same
  call_awake s call.Poll same =
      let its : SessionState = record s { finished = [] } in
      either s.is_awake (poll_begun k its) (refuses s fault.Asleep) (either s.is_orphaned _ (polls_at k its 0) same (polls_awake its 0 same)) same
  call_awake s call.Sleep same = either (not s.is_awake) (refuses s fault.Asleep) _ same (either (length s.requests == 0) (record s { step = StoresCut }) (refuses s fault.PendingLeft) same same)
  call_awake s call.Wake same = either s.is_awake (refuses s fault.Awake) _ same same
  call_awake s call.Durable same = same

-- over a run
record IsAwakeSo (s : SessionState) (before : List Telling) : Type 0 where
  same : s.is_awake ≡ is_awake_told before
  row : SleepRow s s.step

abbrev no_ask : Ask Told
no_ask = Done told.Slept

no_store : {A : Type 0} (k : Seat) → no_ask ≡ Store (epoch_place k) 0 → A
no_store k e = cc

after_so : (k : Seat) (ask : Ask Told) (awake : Bool) (s : SessionState) (before : List Telling) → AwakeNow k ask awake s → awake ≡ is_awake_told before → IsAwakeSo s (told_after true s before)
after_so k ask awake s before now e = record { same = told_so k ask awake s s.step s.finished before now e; row = row_of k ask awake s s.step now }

begins_so : (k : Seat) (s : SessionState) (before : List Telling) (its : Call) (busy : Bool) → is_busy s.step ≡ busy → IsAwakeSo s before → IsAwakeSo (begins k s busy its) (told_after (if busy then false else true) (begins k s busy its) before)
begins_so k s before its true e so = so
begins_so k s before its false e so = after_so k no_ask s.is_awake _ before (call_awake k no_ask s.is_awake (record s { asks = 0; effect = None; wants_turn = false }) its refl) so.same

idle_next : (k : Seat) (s : SessionState) (asks : ℕ) (before : List Telling) (step : Sitting) (reply : ℕ) → s.step ≡ step → is_busy step ≡ false → IsAwakeSo s before → IsAwakeSo (sitting_next k (record s { asks = asks; effect = None }) step reply) before
unfolding sitting_next
idle_next k s asks before (Idle its) reply e idle so = record { same = so.same; row = subst (λ (x : Sitting). SleepRow (record s { asks = asks; effect = None }) x) (sym e) tt }
idle_next k s asks before step reply e idle so = cc

idle_given : (k : Seat) (s : SessionState) (before : List Telling) (step : Sitting) (action : Action) → s.step ≡ step → is_busy step ≡ false → IsAwakeSo s before → IsAwakeSo (sitting_given k s step action) before
unfolding sitting_given
idle_given k s before (Idle its) action e idle so = so
idle_given k s before step action e idle so = cc

event_so : (k : Seat) (s : SessionState) (before : List Telling) (event : SessionEvent) → IsAwakeSo s before → IsAwakeSo (session_happens k s event) (told_after (is_calling s event) (session_happens k s event) before)
unfolding session_happens
event_so k s before (Begins its) so = begins_so k s before its (is_busy s.step) refl so
event_so k s before (Replies reply) so = tested (is_busy s.step) refl
  where
    asks : ℕ
    asks = asks_after s.asks (is_word_ask (session_ask k s))

    after : SessionState
    after = sitting_next k (record s { asks = asks; effect = None }) s.step reply

    tested : (b : Bool) → is_busy s.step ≡ b → IsAwakeSo after (told_after b after before)
    tested true busy = after_so k (session_ask k s) s.is_awake after before (next_awake k (session_ask k s) s.is_awake s asks s.step reply refl busy refl refl so.row) so.same
    tested false idle = idle_next k s asks before s.step reply refl idle so
event_so k s before (Gets action) so = tested (is_busy s.step) refl
  where
    after : SessionState
    after = sitting_given k s s.step action

    tested : (b : Bool) → is_busy s.step ≡ b → IsAwakeSo after (told_after b after before)
    tested true busy = after_so k no_ask s.is_awake after before (given_awake k no_ask s.is_awake s s.step action refl busy refl so.row) so.same
    tested false idle = idle_given k s before s.step action refl idle so

opening_row : (s : SessionState) (step : Sitting) → is_busy step ≡ false → SleepRow s step
opening_row s (Idle its) idle = tt
opening_row s step idle = cc

run_so : (k : Seat) (opening : SessionState) (events : List SessionEvent) → IsOpened opening → IsAwakeSo (session_run k opening events) (tellings k opening events)
unfolding session_run tellings
run_so k opening [] opened = record { same = opened.awake; row = opening_row opening opening.step opened.none_in_hand }
run_so k opening (event ∷ before) opened = event_so k (session_run k opening before) (tellings k opening before) event (run_so k opening before opened)

pub run_awake : (k : Seat) (opening : SessionState) (events : List SessionEvent) → IsOpened opening → (session_run k opening events).is_awake ≡ is_awake_told (tellings k opening events)
run_awake k opening events opened = (run_so k opening events opened).same

-- ---- how it comes to sleep
-- it sleeps, and is not about to wake
abbrev pub Sleeps : SessionState → Type 0
Sleeps s = (s.is_awake ≡ false) × (s.step ≢ CatchesUp Wakes)

-- it asks nothing, or what is durable
pub data AsksNone (k : Seat) (ask : Ask Told) : Type 0 where
  Rests : (its : Told) → ask ≡ Done its → AsksNone k ask
  Loads : ask ≡ Load (session_place k.number own.Durable) → AsksNone k ask

-- from where a reply leads to sleep
pub data SleepsFrom (k : Seat) (s : SessionState) : Type 0 where
  SleepsOn : Sleeps s → AsksNone k (session_ask k s) → SleepsFrom k s
  FallsAsleep : session_ask k s ≡ Store (epoch_place k) 0 → SleepsFrom k s

clash : {A : Type 0} (b : Bool) → b ≡ true → b ≡ false → A
clash true yes_so no_so = cc
clash false yes_so no_so = cc

asleep_asks : (k : Seat) (s : SessionState) (step : Sitting) → IsStepAsleep step → step ≢ CatchesUp Wakes → AsksNone k (sitting_ask k s step)
unfolding sitting_ask
asleep_asks k s (Idle its) rests other = Rests its refl
asleep_asks k s LoadsDurable rests other = Loads refl
asleep_asks k s (CatchesUp Wakes) rests other = absurd (other refl)
asleep_asks k s (CatchesUp Refreshes) rests other = absurd rests
asleep_asks k s (CatchesUp Shifts) rests other = absurd rests
asleep_asks k s step rests other = absurd rests

-- where it was awake
fell_by : (k : Seat) (ask : Ask Told) (s : SessionState) (step : Sitting) → AwakeAt k ask true s step → s.is_awake ≡ false → ask ≡ Store (epoch_place k) 0
fell_by k ask s (Idle told.Slept) at asleep = at.1
fell_by k ask s (Idle (told.Woken phase version)) at asleep = clash s.is_awake at asleep
fell_by k ask s (Idle (told.Done serial reply)) at asleep = clash s.is_awake at asleep
fell_by k ask s (Idle (told.Pending serial why)) at asleep = clash s.is_awake at asleep
fell_by k ask s (Idle (told.Found value)) at asleep = clash s.is_awake at asleep
fell_by k ask s (Idle told.Absent) at asleep = clash s.is_awake at asleep
fell_by k ask s (Idle (told.PendingRead ticket)) at asleep = clash s.is_awake at asleep
fell_by k ask s (Idle (told.Refreshed phase version)) at asleep = clash s.is_awake at asleep
fell_by k ask s (Idle (told.Polled left)) at asleep = clash s.is_awake at asleep
fell_by k ask s (Idle (told.Durable serial)) at asleep = clash s.is_awake at asleep
fell_by k ask s (Idle (told.Refused why)) at asleep = clash s.is_awake at asleep
fell_by k ask s (Turns its) at asleep = clash s.is_awake at.0 asleep
fell_by k ask s Leaves at asleep = clash s.is_awake at.0 asleep
fell_by k ask s step at asleep = clash s.is_awake at asleep

-- where it was about to wake
wakes_so : (k : Seat) (s : SessionState) (its : Ask (Unit {0})) → s.step ≡ CatchesUp Wakes → Sleeps (catch_ledto k s Wakes its) → ⊥
unfolding catch_ledto
wakes_so k s (Done its) e sleeps = clash true refl sleeps.0
wakes_so k s its e sleeps = sleeps.1 e

idle_same : (k : Seat) (s : SessionState) (asks : ℕ) (step : Sitting) (reply : ℕ) → is_busy step ≡ false → (sitting_next k (record s { asks = asks; effect = None }) step reply).is_awake ≡ s.is_awake
unfolding sitting_next
idle_same k s asks (Idle its) reply idle = refl
idle_same k s asks step reply idle = cc

falls_so : (k : Seat) (s : SessionState) (asks reply : ℕ) → SleepRow s s.step → s.is_awake ≡ true → (sitting_next k (record s { asks = asks; effect = None }) s.step reply).is_awake ≡ false → session_ask k s ≡ Store (epoch_place k) 0
falls_so k s asks reply row awake asleep = tested (is_busy s.step) refl
  where
    after : SessionState
    after = sitting_next k (record s { asks = asks; effect = None }) s.step reply

    tested : (b : Bool) → is_busy s.step ≡ b → session_ask k s ≡ Store (epoch_place k) 0
    tested true busy = fell_by k (session_ask k s) after after.step (next_awake k (session_ask k s) true s asks s.step reply refl busy refl awake row) asleep
    tested false idle = clash s.is_awake awake (sym (idle_same k s asks s.step reply idle) ∙ asleep)

next_sleeps : (k : Seat) (s : SessionState) (asks : ℕ) (step : Sitting) (reply : ℕ) → s.step ≡ step → SleepRow s s.step → (s.is_awake ≡ false → IsStepAsleep step) → Sleeps (sitting_next k (record s { asks = asks; effect = None }) step reply) → SleepsFrom k s
unfolding sitting_next
next_sleeps k s asks step reply e row rests sleeps = tested s.is_awake refl
  where
    by_step : (step : Sitting) → s.step ≡ step → IsStepAsleep step → s.is_awake ≡ false → step ≢ CatchesUp Wakes → SleepsFrom k s
    by_step step e rests asleep other =
        SleepsOn (asleep, subst (λ (x : Sitting). x ≢ CatchesUp Wakes) (sym e) other) (subst (λ (x : Sitting). AsksNone k (sitting_ask k s x)) (sym e) (asleep_asks k s step rests other))

    -- of one that slept
    slept : (step : Sitting) → s.step ≡ step → IsStepAsleep step → s.is_awake ≡ false → Sleeps (sitting_next k (record s { asks = asks; effect = None }) step reply) → SleepsFrom k s
    slept (CatchesUp Wakes) e rests asleep sleeps = absurd (wakes_so k (caught k (record s { asks = asks; effect = None }) reply) _ e sleeps)
    slept (CatchesUp Refreshes) e rests asleep sleeps = absurd rests
    slept (CatchesUp Shifts) e rests asleep sleeps = absurd rests
    slept (Idle its) e rests asleep sleeps = by_step (Idle its) e rests asleep (λ same. cc)
    slept LoadsDurable e rests asleep sleeps = by_step LoadsDurable e rests asleep (λ same. cc)
    slept step e rests asleep sleeps = absurd rests

    tested : (b : Bool) → s.is_awake ≡ b → SleepsFrom k s
    tested true awake = FallsAsleep (falls_so k s asks reply row awake (subst (λ (x : Sitting). (sitting_next k (record s { asks = asks; effect = None }) x reply).is_awake ≡ false) (sym e) sleeps.0))
    tested false asleep = slept step e (rests asleep) asleep sleeps

-- by an action
given_same : (k : Seat) (s : SessionState) (step : Sitting) (action : Action) → IsStepAsleep step → sitting_given k s step action ≡ s
unfolding sitting_given
given_same k s (Turns its) action rests = absurd rests
given_same k s step action rests = refl

idle_kept : (k : Seat) (s : SessionState) (step : Sitting) (action : Action) → is_busy step ≡ false → sitting_given k s step action ≡ s
unfolding sitting_given
idle_kept k s (Idle its) action idle = refl
idle_kept k s step action idle = cc

given_sleeps : (k : Seat) (s : SessionState) (action : Action) → SleepRow s s.step → (s.is_awake ≡ false → IsStepAsleep s.step) → Sleeps (sitting_given k s s.step action) → Sleeps s
given_sleeps k s action row rests sleeps = tested s.is_awake refl
  where
    after : SessionState
    after = sitting_given k s s.step action

    busy_so : (b : Bool) → is_busy s.step ≡ b → s.is_awake ≡ true → Sleeps s
    busy_so true busy awake = no_store k (fell_by k no_ask after after.step (given_awake k no_ask true s s.step action refl busy awake row) sleeps.0)
    busy_so false idle awake = clash s.is_awake awake (sym (ap (λ (x : SessionState). x.is_awake) (idle_kept k s s.step action idle)) ∙ sleeps.0)

    tested : (b : Bool) → s.is_awake ≡ b → Sleeps s
    tested true awake = busy_so (is_busy s.step) refl awake
    tested false asleep = subst Sleeps (given_same k s s.step action (rests asleep)) sleeps

-- by a call
begun_sleeps : (k : Seat) (s : SessionState) (its : Call) (busy : Bool) → is_busy s.step ≡ busy → Sleeps (begins k s busy its) → Sleeps s
begun_sleeps k s its true e sleeps = sleeps
begun_sleeps k s its false e sleeps = (tested s.is_awake refl, idle_no_wake s.step e)
  where
    t : SessionState
    t = record s { asks = 0; effect = None; wants_turn = false }

    tested : (b : Bool) → s.is_awake ≡ b → s.is_awake ≡ false
    tested true awake = no_store k (fell_by k no_ask (call_begun k t its) (call_begun k t its).step (call_awake k no_ask true t its awake) sleeps.0)
    tested false asleep = asleep

    idle_no_wake : (step : Sitting) → is_busy step ≡ false → step ≢ CatchesUp Wakes
    idle_no_wake (Idle it) idle = λ same. cc
    idle_no_wake step idle = cc

-- over a run
pub run_falls : (k : Seat) (opening : SessionState) (before : List SessionEvent) (reply : ℕ) → IsOpened opening → Sleeps (session_run k opening (Replies reply ∷ before)) → SleepsFrom k (session_run k opening before)
unfolding session_run session_happens
run_falls k opening before reply opened sleeps =
    let s : SessionState = session_run k opening before in
    next_sleeps k s (asks_after s.asks (is_word_ask (session_ask k s))) s.step reply refl (run_so k opening before opened).row (λ asleep. (run_asleep k opening before opened asleep).accepts_none) sleeps

pub run_given : (k : Seat) (opening : SessionState) (before : List SessionEvent) (action : Action) → IsOpened opening → Sleeps (session_run k opening (Gets action ∷ before)) → Sleeps (session_run k opening before)
unfolding session_run session_happens
run_given k opening before action opened sleeps =
    given_sleeps k (session_run k opening before) action (run_so k opening before opened).row (λ asleep. (run_asleep k opening before opened asleep).accepts_none) sleeps

pub run_begun : (k : Seat) (opening : SessionState) (before : List SessionEvent) (its : Call) → Sleeps (session_run k opening (Begins its ∷ before)) → Sleeps (session_run k opening before)
unfolding session_run session_happens
run_begun k opening before its sleeps = begun_sleeps k (session_run k opening before) its (is_busy (session_run k opening before).step) refl sleeps
