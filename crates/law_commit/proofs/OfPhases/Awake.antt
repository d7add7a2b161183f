-- A session is awake but while it sleeps and wakes.
use Rattle.std.proofs.Common.{◌≡◌, ℕ, ◌+◌, List, [], ◌∷◌, length, refl, sym, ◌∙◌, subst, Bool, true, false}
use Rattle.std.specs.Prelude.{Option, Some, None, if◌then◌else◌, not, ◌==◌, ◌||◌, slice_get, slice_set}
use Rattle.std.specs.List.{position}
use Rattle.fkv_base.specs.declared.faults.Fault.{Fault}
use Rattle.fkv_base.specs.declared.faults.Fault.TheVariants as fault
use Rattle.fkv_map.specs.declared.operations.Call.{Call}
use Rattle.fkv_map.specs.declared.operations.Call.TheVariants as call
use Rattle.fkv_map.specs.declared.operations.Op.{Op}
use Rattle.fkv_plane.specs.declared.actions.Action.{Action}
use Rattle.fkv_plane.specs.declared.asks.Ask.{Ask}
use Rattle.fkv_plane.specs.declared.asks.Ask.TheVariants.{Done}
use Rattle.fkv_plane.specs.declared.places.Places.{Places}
use Rattle.fkv_epoch.specs.declared.refreshing.RefreshAnswer.{RefreshAnswer}
use Rattle.fkv_epoch.specs.declared.refreshing.RefreshAnswer.TheVariants.{Loaded, Stored}
use Rattle.fkv_epoch.specs.declared.values.Seen as loaded
use Rattle.fkv_epoch.specs.Leaving.{leave_next}
use Rattle.fkv_latch.specs.declared.latching.LatchAnswer.{LatchAnswer}
use Rattle.fkv_latch.specs.declared.latching.LatchAnswer.TheVariants.{Taken}
use Rattle.law_refine.specs.Below.fkv_ops.Reason.{Reason}
use Rattle.law_refine.specs.Below.fkv_ops.Reason.TheVariants as reason
use Rattle.law_refine.specs.Below.fkv_ops.TryAnswer.{TryAnswer}
use Rattle.law_refine.specs.Below.fkv_ops.TryAnswer.TheVariants as tried
use Rattle.law_refine.specs.Below.fkv_ops.Seen.{Seen}
use Rattle.law_refine.specs.Below.fkv_ops.Requests.{is_read}
use Rattle.law_refine.specs.Below.fkv_pending.MailAnswer.{MailAnswer}
use Rattle.law_refine.specs.Below.fkv_pending.MailAnswer.TheVariants.{Cleared}
use Rattle.law_refine.specs.Below.fkv_pending.PendingRequest.{PendingRequest}
use Rattle.law_refine.specs.Below.fkv_pending.Mailing.{mail_next}
use Rattle.law_refine.specs.Below.fkv_pending.Pending.{is_unlatched}
use Rattle.fkv_words.specs.PhaseWords.{phase_said}
use Rattle.law_refine.specs.Below.fkv_session.Told.{Told}
use Rattle.law_refine.specs.Below.fkv_session.Told.TheVariants as told
use Rattle.law_refine.specs.Below.fkv_session.Catching.{Catching}
use Rattle.law_refine.specs.Below.fkv_session.Catching.TheVariants as catching
use Rattle.law_refine.specs.Below.fkv_session.CatchCause.{CatchCause}
use Rattle.law_refine.specs.Below.fkv_session.CatchCause.TheVariants.{Refreshes, Wakes, Shifts}
use Rattle.law_refine.specs.Below.fkv_session.Sitting.{Sitting}
use Rattle.law_refine.specs.Below.fkv_session.Sitting.TheVariants.{Idle, Attempts, CatchesUp, ClearsMail, Polls, StoresOwing, Turns, StoresCut, Leaves, LoadsDurable}
use Rattle.law_refine.specs.Below.fkv_session.CatchingUp.{CatchState, catching_next, cuts, enters_prepare, finish_ledto, finishes, is_same_version, latch_begun, latch_ledto, latch_wanted, latches, protect_ledto, refresh_ledto, seen_after, takes_up}
use Rattle.law_refine.specs.Below.fkv_session.OwnTurns.{own_turn_given}
use Rattle.law_refine.specs.Below.fkv_session.Sessions.{IsOpened, SessionState, Seat, accepts, answers, answers_after_turn, attempt_ledto, attempt_left, attempt_moved, asks_after, attempted, attempts, bits_of, call_begun, catch_ledto, caught, caught_up, clear_ledto, finishes_request, is_busy, is_finished, is_no_room, is_owed, is_word_ask, keeps_request, lacks_room, leave_ledto, op_begun, own_turn_moved, poll_begun, poll_call, poll_ledto, poll_left, polls_at, polls_request, refresh_call, refusal_of, refuses, request_finished, serial_taken, session_ask, shifts, sitting_given, sitting_next, sleep_call, ticket_after, turn_ledto, update_done, wake_call, with_request}
use Rattle.law_refine.specs.Below.fkv_session.SessionRun.{Begins, Gets, Replies, SessionEvent, begins, session_happens, session_run}
use Rattle.law_refine.specs.Below.fkv_world.Opened.{HasBecome}
use Rattle.law_refine.specs.Below.fkv_world.OwnEvents.{session_events}
use Rattle.law_refine.specs.Below.fkv_world.Runs.{World}
use Rattle.law_refine.specs.Below.fkv_world.World.{Event, seat_at}
use Rattle.law_refine.proofs.Below.law_world.OfSessions.OwnRun.{of_run, opened_so}
use Rattle.law_commit.specs.Phases.Projected.{SitsAwake}
use Rattle.law_commit.specs.Phases.Stamped.{is_live, is_live_at}

abbrev pub SitsSo : SessionState → Type 0
SitsSo a = SitsAwake a a.step

-- it is awake yet
abbrev Awake : SessionState → Type 0
Awake a = (a.is_awake ≡ true) × SitsSo a

either_awake : (c : Bool) (a b : SessionState) → Awake a → Awake b → Awake (if c then a else b)
either_awake true a b one other = one
either_awake false a b one other = other

still : (s : SessionState) (step : Sitting) → s.step ≡ step → SitsAwake s step → s.is_awake ≡ true → Awake s
still s step at sits e = (e, subst (λ (x : Sitting). SitsAwake s x) (sym at) sits)

turn_awake : (s : SessionState) (its : Told) → s.is_awake ≡ true → Awake (answers_after_turn s its)
turn_awake s its e = either_awake s.wants_turn _ (answers s its) (e, e) (e, tt)

attempts_awake : (k : Seat) (s : SessionState) (has_shifted : Bool) → s.is_awake ≡ true → Awake (attempts k s has_shifted)
unfolding attempts
attempts_awake k s has_shifted e = (e, e)

found_awake : (k : Seat) (s : SessionState) (i : ℕ) (found : Option PendingRequest) → s.is_awake ≡ true → Awake (polls_request k s i found)
found_awake k s i None e = turn_awake s (told.Polled (length s.requests)) e
found_awake k s i (Some pending) e = (e, e)

polls_awake : (k : Seat) (s : SessionState) (i : ℕ) → s.is_awake ≡ true → Awake (polls_at k s i)
unfolding polls_at
polls_awake k s i e = found_awake k s i (slice_get s.requests i) e

accepts_awake : (s : SessionState) (why : Reason) → s.is_awake ≡ true → Awake (accepts s why)
unfolding accepts
accepts_awake s why e =
    either_awake (is_read s.op) (answers (with_request (record s { ticket = ticket_after s.ticket })) (told.PendingRead (record { 0 = ticket_after s.ticket }))) _ (e, tt)
    (turn_awake (with_request (serial_taken (record s { wants_turn = is_no_room why }))) (told.Pending (record { 0 = s.serial + 1 }) why) e)

shifts_awake : (s : SessionState) (has_shifted : Bool) → s.is_awake ≡ true → Awake (shifts s has_shifted)
unfolding shifts
shifts_awake s false e = (e, (e, refl))
shifts_awake s true e = accepts_awake s reason.Contended e

attempted_awake : (s : SessionState) (has_shifted : Bool) (its : TryAnswer) → s.is_awake ≡ true → Awake (attempted s has_shifted its)
attempted_awake s has_shifted (tried.Done reply) e = either_awake (is_read s.op) (answers s told.Absent) (update_done s reply) (e, tt) (e, tt)
attempted_awake s has_shifted (tried.Found value) e = (e, tt)
attempted_awake s has_shifted tried.Absent e = (e, tt)
attempted_awake s has_shifted (tried.Wait why) e = accepts_awake s why e
attempted_awake s has_shifted (tried.AwaitsDisk sought) e = accepts_awake s reason.Disk e
attempted_awake s has_shifted tried.Shift e = shifts_awake s has_shifted e
attempted_awake s has_shifted tried.IndexFull e = (e, tt)
attempted_awake s has_shifted tried.LogFull e = (e, tt)

attempt_awake : (s : SessionState) (has_shifted : Bool) (ask : Ask TryAnswer) → s.step ≡ Attempts has_shifted → s.is_awake ≡ true → Awake (attempt_ledto s has_shifted ask)
unfolding attempt_ledto
attempt_awake s has_shifted (Done its) at e = attempted_awake (attempt_left s) has_shifted its e
attempt_awake s has_shifted ask at e = still s (Attempts has_shifted) at e e

clear_awake : (k : Seat) (s : SessionState) (ask : Ask MailAnswer) → s.step ≡ ClearsMail → s.is_awake ≡ true → Awake (clear_ledto k s ask)
unfolding clear_ledto
clear_awake k s (Done Cleared) at e = polls_awake k (record s { is_orphaned = false }) 0 e
clear_awake k s (Done its) at e = polls_awake k s 0 e
clear_awake k s ask at e = still s ClearsMail at e e

finishes_awake : (k : Seat) (s : SessionState) (i : ℕ) (its : TryAnswer) → s.is_awake ≡ true → Awake (finishes_request k s i its)
unfolding finishes_request
finishes_awake k s i its e = either_awake (is_owed s) (request_finished s i its) (polls_at k (request_finished s i its) i) (e, e) (polls_awake k (request_finished s i its) i e)

keeps_awake : (k : Seat) (s : SessionState) (i : ℕ) (its : TryAnswer) → s.is_awake ≡ true → Awake (keeps_request k s i its)
unfolding keeps_request
keeps_awake k s i its e = polls_awake k (record s { requests = slice_set s.requests i s.attempt.pending; wants_turn = s.wants_turn || lacks_room its }) (i + 1) e

poll_awake : (k : Seat) (s : SessionState) (i : ℕ) (ask : Ask TryAnswer) → s.step ≡ Polls i → s.is_awake ≡ true → Awake (poll_ledto k s i ask)
unfolding poll_ledto
poll_awake k s i (Done its) at e =
    either_awake (is_finished its) (finishes_request k (poll_left s) i its) (keeps_request k (poll_left s) i its) (finishes_awake k (poll_left s) i its e) (keeps_awake k (poll_left s) i its e)
poll_awake k s i ask at e = still s (Polls i) at e e

turned_awake : (s : SessionState) (its : Told) (ask : Ask (Unit {0})) → s.step ≡ Turns its → s.is_awake ≡ true → Awake (turn_ledto s its ask)
unfolding turn_ledto
turned_awake s its (Done through) at e = (e, tt)
turned_awake s its ask at e = still s (Turns its) at e e

-- leaving ends in sleep
left_so : (s : SessionState) (ask : Ask (Unit {0})) → s.step ≡ Leaves → s.is_awake ≡ true → SitsSo (leave_ledto s ask)
unfolding leave_ledto
left_so s (Done its) at e = tt
left_so s ask at e = (still s Leaves at e e).1

-- catching up keeps why
module _ (is : Bool) where
  abbrev IsOne : CatchState → Type 0
  IsOne c = c.is_refresh ≡ is

  either_one : (t : Bool) (a b : CatchState) → IsOne a → IsOne b → IsOne (if t then a else b)
  either_one true a b one other = one
  either_one false a b one other = other

  finishes_one : (c : CatchState) → IsOne c → IsOne (finishes c)
  finishes_one c e = either_one c.is_refresh _ (record c { step = catching.Ended }) e e

  begun_one : (p : Places) (bits : ℕ) (c : CatchState) (i : ℕ) (found : Option PendingRequest) → IsOne c → IsOne (latch_begun p bits c i found)
  begun_one p bits c i None e = finishes_one c e
  begun_one p bits c i (Some pending) e = e

  wanted_one : (p : Places) (bits : ℕ) (c : CatchState) (requests : List PendingRequest) (at : Option ℕ) → IsOne c → IsOne (latch_wanted p bits c requests at)
  wanted_one p bits c requests None e = finishes_one c e
  wanted_one p bits c requests (Some i) e = begun_one p bits c i (slice_get requests i) e

  latches_one : (p : Places) (bits : ℕ) (c : CatchState) (requests : List PendingRequest) → IsOne c → IsOne (latches p bits c requests)
  latches_one p bits c requests e = either_one c.is_entering (latch_wanted p bits c requests (position is_unlatched requests)) (finishes c) (wanted_one p bits c requests (position is_unlatched requests) e) (finishes_one c e)

  cuts_one : (p : Places) (bits : ℕ) (c : CatchState) (requests : List PendingRequest) (leaves : Bool) → IsOne c → IsOne (cuts p bits c requests leaves)
  cuts_one p bits c requests true e = e
  cuts_one p bits c requests false e = latches_one p bits c requests e

  takes_one : (p : Places) (bits : ℕ) (c : CatchState) (requests : List PendingRequest) (after : Seen) → IsOne c → IsOne (takes_up p bits c requests after)
  takes_one p bits c requests after e = cuts_one p bits (record c { seen = after; is_entering = enters_prepare c.seen after }) requests (not (is_same_version c.seen after)) e

  refreshed_one : (p : Places) (bits : ℕ) (c : CatchState) (requests : List PendingRequest) (ask : Ask RefreshAnswer) → IsOne c → IsOne (refresh_ledto p bits c requests ask)
  unfolding refresh_ledto
  refreshed_one p bits c requests (Done (Loaded values)) e = takes_one p bits c requests (seen_after c.seen values (phase_said values.phase)) e
  refreshed_one p bits c requests (Done Stored) e = e
  refreshed_one p bits c requests ask e = e

  protected_one : (p : Places) (bits : ℕ) (c : CatchState) (requests : List PendingRequest) (ask : Ask loaded.Seen) → IsOne c → IsOne (protect_ledto p bits c requests ask)
  unfolding protect_ledto
  protected_one p bits c requests (Done values) e = takes_one p bits c requests (seen_after c.seen values (phase_said values.phase)) e
  protected_one p bits c requests ask e = e

  latched_one : (p : Places) (bits : ℕ) (c : CatchState) (requests : List PendingRequest) (ask : Ask LatchAnswer) → IsOne c → IsOne (latch_ledto p bits c requests ask)
  unfolding latch_ledto
  latched_one p bits c requests (Done Taken) e = latches_one p bits c requests e
  latched_one p bits c requests (Done its) e = finishes_one c e
  latched_one p bits c requests ask e = e

  finished_one : (c : CatchState) (ask : Ask RefreshAnswer) → IsOne c → IsOne (finish_ledto c ask)
  unfolding finish_ledto
  finished_one c (Done its) e = e
  finished_one c ask e = e

  next_one : (p : Places) (bits n : ℕ) (c : CatchState) (requests : List PendingRequest) (step : Catching) (reply : ℕ) → IsOne c → IsOne (catching_next p bits n c requests step reply)
  unfolding catching_next
  next_one p bits n c requests catching.Ended reply e = e
  next_one p bits n c requests catching.Refreshes reply e = refreshed_one p bits _ requests _ e
  next_one p bits n c requests catching.Protects reply e = protected_one p bits _ requests _ e
  next_one p bits n c requests catching.StoresCut reply e = e
  next_one p bits n c requests catching.StoresOwing reply e = latches_one p bits c requests e
  next_one p bits n c requests (catching.Latches i) reply e = latched_one p bits _ requests _ e
  next_one p bits n c requests catching.Finishes reply e = finished_one _ _ e

caught_so : (k : Seat) (s : SessionState) (cause : CatchCause) → SitsAwake s (CatchesUp cause) → Awake (caught_up k s cause)
caught_so k s Refreshes sits = (sits.0, tt)
caught_so k s Wakes sits = (refl, tt)
caught_so k s Shifts sits = attempts_awake k s true sits.0

catch_so : (k : Seat) (s : SessionState) (cause : CatchCause) (ask : Ask (Unit {0})) → s.step ≡ CatchesUp cause → SitsAwake s (CatchesUp cause) → SitsSo (catch_ledto k s cause ask)
unfolding catch_ledto
catch_so k s Refreshes (Done its) at sits = (caught_so k (record s { seen = s.catching.seen }) Refreshes sits).1
catch_so k s Wakes (Done its) at sits = (caught_so k (record s { seen = s.catching.seen }) Wakes sits).1
catch_so k s Shifts (Done its) at sits = (caught_so k (record s { seen = s.catching.seen }) Shifts sits).1
catch_so k s cause ask at sits = subst (λ (x : Sitting). SitsAwake s x) (sym at) sits

pub moved_so : (k : Seat) (s : SessionState) (asks : ℕ) (cause : CatchCause) (reply : ℕ) → SitsAwake s (CatchesUp cause) → SitsAwake (caught k (record s { asks = asks; effect = None }) reply) (CatchesUp cause)
moved_so k s asks Refreshes reply sits = (sits.0, next_one true k.places (bits_of k) k.number s.catching _ s.catching.step reply sits.1)
moved_so k s asks Shifts reply sits = (sits.0, next_one true k.places (bits_of k) k.number s.catching _ s.catching.step reply sits.1)
moved_so k s asks Wakes reply sits = (sits.0, next_one false k.places (bits_of k) k.number s.catching _ s.catching.step reply sits.1)

-- each reply
pub next_so : (k : Seat) (s : SessionState) (asks : ℕ) (step : Sitting) (reply : ℕ) → s.step ≡ step → SitsAwake s step → SitsSo (sitting_next k (record s { asks = asks; effect = None }) step reply)
unfolding sitting_next
next_so k s asks (Idle its) reply at sits = subst (λ (x : Sitting). SitsAwake (record s { asks = asks; effect = None }) x) (sym at) tt
next_so k s asks (Attempts has_shifted) reply at sits = let t : SessionState = record s { asks = asks; effect = None } in (attempt_awake (attempt_moved k t reply) has_shifted _ at sits).1
next_so k s asks (CatchesUp cause) reply at sits = catch_so k (caught k (record s { asks = asks; effect = None }) reply) cause _ at (moved_so k s asks cause reply sits)
next_so k s asks ClearsMail reply at sits = let t : SessionState = record s { asks = asks; effect = None } in (clear_awake k (record t { mailing = mail_next s.mailing reply }) _ at sits).1
next_so k s asks (Polls i) reply at sits = let t : SessionState = record s { asks = asks; effect = None } in (poll_awake k (attempt_moved k t reply) i _ at sits).1
next_so k s asks (StoresOwing i) reply at sits = (polls_awake k (record s { asks = asks; effect = None }) i sits).1
next_so k s asks (Turns its) reply at sits = let t : SessionState = record s { asks = asks; effect = None } in (turned_awake (own_turn_moved k t reply) its _ at sits).1
next_so k s asks StoresCut reply at sits = sits
next_so k s asks Leaves reply at sits = let t : SessionState = record s { asks = asks; effect = None } in left_so (record t { leaving = leave_next s.leaving }) _ at sits
next_so k s asks LoadsDurable reply at sits = tt

pub given_so : (k : Seat) (s : SessionState) (step : Sitting) (action : Action) → s.step ≡ step → SitsAwake s step → SitsSo (sitting_given k s step action)
unfolding sitting_given
given_so k s (Turns its) action at sits = (turned_awake (record s { own_turn = own_turn_given s.own_turn action }) its _ at sits).1
given_so k s step action at sits = subst (λ (x : Sitting). SitsAwake s x) (sym at) sits

-- a call that begins
op_so : (k : Seat) (s : SessionState) (op : Op) (why : Option Fault) → (why ≡ None → s.is_awake ≡ true) → SitsSo (op_begun k s op why)
unfolding op_begun
op_so k s op (Some why) e = tt
op_so k s op None e = (attempts_awake k (record s { op = op }) false (e refl)).1

none_refused : (awake : Bool) (rest : Option Fault) → (if not awake then Some fault.Asleep else rest) ≡ None → awake ≡ true
none_refused true rest e = refl
none_refused false rest e = cc

by_awake : (awake : Bool) (a b : SessionState) → (awake ≡ true → SitsSo a) → (awake ≡ false → SitsSo b) → SitsSo (if awake then a else b)
by_awake true a b one other = one refl
by_awake false a b one other = other refl

not_awake : (awake : Bool) (a b : SessionState) → (awake ≡ true → SitsSo b) → (awake ≡ false → SitsSo a) → SitsSo (if not awake then a else b)
not_awake true a b one other = one refl
not_awake false a b one other = other refl

call_so : (k : Seat) (s : SessionState) (its : Call) → SitsSo (call_begun k s its)
unfolding refresh_call poll_call sleep_call wake_call
call_so k s (call.Op op) = op_so k s op (refusal_of s op) (λ e. none_refused s.is_awake _ e)
call_so k s call.Refresh = by_awake s.is_awake _ (refuses s fault.Asleep) (λ e. (e, refl)) (λ e. tt)
call_so k s call.Poll = by_awake s.is_awake (poll_begun k (record s { finished = [] })) (refuses s fault.Asleep)
    (λ e. (either_awake s.is_orphaned _ (polls_at k (record s { finished = [] }) 0) (e, e) (polls_awake k (record s { finished = [] }) 0 e)).1) (λ e. tt)
call_so k s call.Sleep = not_awake s.is_awake (refuses s fault.Asleep) _
    (λ e. (either_awake (length s.requests == 0) (record s { step = StoresCut }) (refuses s fault.PendingLeft) (e, e) (e, tt)).1) (λ e. tt)
call_so k s call.Wake = by_awake s.is_awake (refuses s fault.Awake) _ (λ e. tt) (λ e. (e, refl))
call_so k s call.Durable = tt

pub begins_so : (k : Seat) (s : SessionState) (its : Call) (busy : Bool) → SitsSo s → SitsSo (begins k s busy its)
begins_so k s its true sits = sits
begins_so k s its false sits = call_so k (record s { asks = 0; effect = None; wants_turn = false }) its

-- so it is at each moment of its run
idle_so : (s : SessionState) (step : Sitting) → is_busy step ≡ false → SitsAwake s step
idle_so s (Idle told) idle = tt
idle_so s step idle = cc

pub happens_so : (k : Seat) (s : SessionState) (event : SessionEvent) → SitsSo s → SitsSo (session_happens k s event)
unfolding session_happens
happens_so k s (Begins its) sits = begins_so k s its (is_busy s.step) sits
happens_so k s (Replies reply) sits = next_so k s (asks_after s.asks (is_word_ask (session_ask k s))) s.step reply refl sits
happens_so k s (Gets action) sits = given_so k s s.step action refl sits

pub run_so : (k : Seat) (first : SessionState) (events : List SessionEvent) → IsOpened first → SitsSo (session_run k first events)
unfolding session_run
run_so k first [] opened = idle_so first first.step opened.none_in_hand
run_so k first (event ∷ before) opened = happens_so k (session_run k first before) event (run_so k first before opened)

pub life_so : (opening : World) (events : List Event) (session : ℕ) (first its : SessionState) → HasBecome opening events session first its → SitsAwake its its.step
life_so opening events session first its became =
    of_run SitsSo opening events session first its became (run_so (seat_at opening.now session) first (session_events opening session events) (opened_so opening events session first its became))

-- so it is live where it is awake
live_at : (s : SessionState) (step : Sitting) → SitsAwake s step → is_live_at s step ≡ s.is_awake
live_at s (Idle told) sits = refl
live_at s LoadsDurable sits = refl
live_at s (CatchesUp Refreshes) sits = sits.1 ∙ sym sits.0
live_at s (CatchesUp Wakes) sits = sits.1 ∙ sym sits.0
live_at s (CatchesUp Shifts) sits = sits.1 ∙ sym sits.0
live_at s (Attempts has_shifted) sits = sym sits
live_at s ClearsMail sits = sym sits
live_at s (Polls i) sits = sym sits
live_at s (StoresOwing i) sits = sym sits
live_at s (Turns told) sits = sym sits
live_at s StoresCut sits = sym sits
live_at s Leaves sits = sym sits

pub life_live : (opening : World) (events : List Event) (session : ℕ) (first its : SessionState) → HasBecome opening events session first its → is_live its ≡ its.is_awake
life_live opening events session first its became = live_at its its.step (life_so opening events session first its became)
