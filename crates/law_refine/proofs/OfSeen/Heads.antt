-- By each reply, action and call: the head that a session has seen is no lower than before, and no higher than the head is.
use Rattle.std.proofs.Common.{◌≡◌, ℕ, ◌+◌, ◌≤◌, refl, sym, arith, ap, subst, Bool, true, false, [], length}
use Rattle.std.specs.Prelude.{⊤, Option, Some, None, if◌then◌else◌, not, ◌==◌, ◌||◌, slice_get, slice_set}
use Rattle.fkv_base.specs.declared.faults.Fault.{Fault}
use Rattle.fkv_epoch.specs.Leaving.{leave_ask, leave_next}
use Rattle.fkv_map.specs.declared.operations.Call.{Call}
use Rattle.fkv_map.specs.declared.operations.Call.TheVariants as call
use Rattle.fkv_map.specs.declared.operations.Op.{Op}
use Rattle.law_world.specs.Below.fkv_ops.Reason.{Reason}
use Rattle.law_world.specs.Below.fkv_ops.Reason.TheVariants as reason
use Rattle.law_world.specs.Below.fkv_ops.TryAnswer.{TryAnswer}
use Rattle.law_world.specs.Below.fkv_ops.TryAnswer.TheVariants as answer
use Rattle.law_world.specs.Below.fkv_ops.Requests.{is_read}
use Rattle.law_world.specs.Below.fkv_pending.MailAnswer.{MailAnswer}
use Rattle.law_world.specs.Below.fkv_pending.MailAnswer.TheVariants as mail
use Rattle.law_world.specs.Below.fkv_pending.MailTask.TheVariants.{Clear}
use Rattle.law_world.specs.Below.fkv_pending.TheMailing.TheVariants.{LoadsState}
use Rattle.law_world.specs.Below.fkv_pending.PendingRequest.{PendingRequest}
use Rattle.law_world.specs.Below.fkv_pending.Attempting.{attempt_ask}
use Rattle.law_world.specs.Below.fkv_pending.Mailing.{mail_ask, mail_next}
use Rattle.fkv_plane.specs.declared.actions.Action.{Action}
use Rattle.fkv_plane.specs.declared.asks.Ask.{Ask}
use Rattle.fkv_plane.specs.declared.asks.Ask.TheVariants.{Load, Done}
use Rattle.fkv_plane.specs.declared.places.SharedWord.TheVariants as one
use Rattle.fkv_plane.specs.Passing.{passed}
use Rattle.fkv_plane.specs.Places.{shared_place}
use Rattle.law_world.specs.Below.fkv_session.Told.{Told}
use Rattle.law_world.specs.Below.fkv_session.Told.TheVariants as told
use Rattle.law_world.specs.Below.fkv_session.CatchCause.{CatchCause}
use Rattle.law_world.specs.Below.fkv_session.CatchCause.TheVariants as cause
use Rattle.law_world.specs.Below.fkv_session.Sitting.{Sitting}
use Rattle.law_world.specs.Below.fkv_session.Sitting.TheVariants.{Idle, Attempts, CatchesUp, ClearsMail, Polls, StoresOwing, Turns, StoresCut, Leaves, LoadsDurable}
use Rattle.law_world.specs.Below.fkv_session.CatchingUp.{catch_ask, refresh_begun, wake_begun}
use Rattle.law_world.specs.Below.fkv_session.OwnTurns.{own_turn_ask, own_turn_begun, own_turn_given}
use Rattle.law_world.specs.Below.fkv_session.Sessions.{SessionState, Seat, bits_of, is_busy, sitting_ask, session_ask, answers, answers_after_turn, attempts, polls_request, polls_at, refusal_of, op_begun, refresh_call, poll_begun, poll_call, sleep_call, wake_call, call_begun, session_begun, attempt_left, poll_left, serial_taken, update_done, is_no_room, with_request, ticket_after, accepts, shifts, attempted, attempt_ledto, caught_up, catch_ledto, clear_ledto, is_finished, is_owed, request_finished, finishes_request, lacks_room, keeps_request, poll_ledto, turn_ledto, leave_ledto, attempt_moved, caught, own_turn_moved, sitting_next, is_word_ask, asks_after, session_next, sitting_given, session_given}
use Rattle.law_local.specs.Tries.TryRows.{head_in}
use Rattle.law_refine.proofs.OfSeen.Catches.{CatchSees, catch_asks_head, catch_more, catch_sees, loads_head}

-- ---- what it has seen, and what it has loaded to go by next
abbrev pub IsBetween : ℕ → ℕ → ℕ → Type 0
IsBetween low high head = (low ≤ head) × (head ≤ high)

abbrev SitsSeeing : ℕ → SessionState → Sitting → Type 0
SitsSeeing high s (CatchesUp its) = CatchSees (IsBetween (head_in s.seen) high) s.catching
SitsSeeing high s step = ⊤

pub record Sees (low high : ℕ) (s : SessionState) : Type 0 where
  pub seen : IsBetween low high (head_in s.seen)
  -- while it catches up, so is what it has loaded to go by next, and no lower than what it has seen
  pub sits : SitsSeeing high s s.step

-- where it loads the head, that is its ask
abbrev pub loads : SessionState → Sitting → Bool
loads s (CatchesUp its) = loads_head s.catching s.catching.step
loads s step = false

sitting_loads : (k : Seat) (s : SessionState) (step : Sitting) → loads s step ≡ true → sitting_ask k s step ≡ Load (shared_place one.Head)
unfolding sitting_ask passed
sitting_loads k s (CatchesUp its) e = ap (λ (x : Ask (Unit {0})). passed x told.Slept) (catch_asks_head k.places k.number s.catching s.requests s.catching.step e)
sitting_loads k s step e = cc

pub asks_head : (k : Seat) (s : SessionState) → loads s s.step ≡ true → session_ask k s ≡ Load (shared_place one.Head)
asks_head k s e = sitting_loads k s s.step e

-- ---- of other bounds
higher_between : (low high higher : ℕ) → high ≤ higher → (head : ℕ) → IsBetween low high head → IsBetween low higher head
higher_between low high higher up head its = let below = its.1 in (its.0, omega (arith, up, below))

sits_higher : (high higher : ℕ) (s : SessionState) (step : Sitting) → high ≤ higher → SitsSeeing high s step → SitsSeeing higher s step
sits_higher high higher s (CatchesUp its) up sees = catch_more (IsBetween (head_in s.seen) high) (IsBetween (head_in s.seen) higher) s.catching (higher_between (head_in s.seen) high higher up) sees
sits_higher high higher s step up sees = tt

-- the head rises
pub sees_higher : (low high higher : ℕ) (s : SessionState) → high ≤ higher → Sees low high s → Sees low higher s
sees_higher low high higher s up its = record { seen = higher_between low high higher up (head_in s.seen) its.seen; sits = sits_higher high higher s s.step up its.sits }

-- it has seen what it has seen
pub sees_own : (low high : ℕ) (s : SessionState) → Sees low high s → Sees (head_in s.seen) high s
sees_own low high s its = record { seen = (omega arith, its.seen.1); sits = its.sits }

module _ (low high : ℕ) where
  abbrev Saw : SessionState → Type 0
  Saw s = IsBetween low high (head_in s.seen)

  still : (s : SessionState) (step : Sitting) → s.step ≡ step → Saw s → SitsSeeing high s step → Sees low high s
  still s step at saw sits = record { seen = saw; sits = subst (SitsSeeing high s) (sym at) sits }

  either_sees : (b : Bool) (a c : SessionState) → Sees low high a → Sees low high c → Sees low high (if b then a else c)
  either_sees true a c one other = one
  either_sees false a c one other = other

  -- ---- what begins
  plain : (s : SessionState) (its : Told) → Saw s → Sees low high (answers s its)
  plain s its saw = record { seen = saw; sits = tt }

  turns_see : (s : SessionState) (its : Told) → Saw s → Sees low high (answers_after_turn s its)
  turns_see s its saw = either_sees s.wants_turn (record s { own_turn = own_turn_begun s.own_turn; step = Turns its }) (answers s its) (record { seen = saw; sits = tt }) (plain s its saw)

  attempts_see : (k : Seat) (s : SessionState) (has_shifted : Bool) → Saw s → Sees low high (attempts k s has_shifted)
  unfolding attempts
  attempts_see k s has_shifted saw = record { seen = saw; sits = tt }

  request_sees : (k : Seat) (s : SessionState) (index : ℕ) (found : Option PendingRequest) → Saw s → Sees low high (polls_request k s index found)
  request_sees k s index None saw = turns_see s (told.Polled (length s.requests)) saw
  request_sees k s index (Some pending) saw = record { seen = saw; sits = tt }

  polls_see : (k : Seat) (s : SessionState) (index : ℕ) → Saw s → Sees low high (polls_at k s index)
  unfolding polls_at
  polls_see k s index saw = request_sees k s index (slice_get s.requests index) saw

  -- it goes by what it went by until it has caught up
  refreshes_see : (s : SessionState) (why : CatchCause) → Saw s → Sees low high (record s { catching = refresh_begun s.catching s.seen s.serial; step = CatchesUp why })
  refreshes_see s why saw = record { seen = saw; sits = record { seen = (omega arith, saw.1); loads = tt } }

  wakes_see : (s : SessionState) → Saw s → Sees low high (record s { catching = wake_begun s.catching s.seen s.serial; step = CatchesUp cause.Wakes })
  wakes_see s saw = record { seen = saw; sits = record { seen = (omega arith, saw.1); loads = tt } }

  -- ---- where an attempt ends
  accepts_see : (s : SessionState) (why : Reason) → Saw s → Sees low high (accepts s why)
  unfolding accepts
  accepts_see s why saw =
      either_sees (is_read s.op) (answers (with_request (record s { ticket = ticket_after s.ticket })) (told.PendingRead (record { 0 = ticket_after s.ticket })))
      (answers_after_turn (with_request (serial_taken (record s { wants_turn = is_no_room why }))) (told.Pending (record { 0 = s.serial + 1 }) why))
      (plain (with_request (record s { ticket = ticket_after s.ticket })) (told.PendingRead (record { 0 = ticket_after s.ticket })) saw)
      (turns_see (with_request (serial_taken (record s { wants_turn = is_no_room why }))) (told.Pending (record { 0 = s.serial + 1 }) why) saw)

  shifts_see : (s : SessionState) (has_shifted : Bool) → Saw s → Sees low high (shifts s has_shifted)
  unfolding shifts
  shifts_see s false saw = refreshes_see s cause.Shifts saw
  shifts_see s true saw = accepts_see s reason.Contended saw

  attempted_sees : (s : SessionState) (has_shifted : Bool) (its : TryAnswer) → Saw s → Sees low high (attempted s has_shifted its)
  attempted_sees s has_shifted (answer.Done made) saw = either_sees (is_read s.op) (answers s told.Absent) (update_done s made) (plain s told.Absent saw) (record { seen = saw; sits = tt })
  attempted_sees s has_shifted (answer.Found value) saw = plain s (told.Found value) saw
  attempted_sees s has_shifted answer.Absent saw = plain s told.Absent saw
  attempted_sees s has_shifted (answer.Wait why) saw = accepts_see s why saw
  attempted_sees s has_shifted (answer.AwaitsDisk sought) saw = accepts_see s reason.Disk saw
  attempted_sees s has_shifted answer.Shift saw = shifts_see s has_shifted saw
  attempted_sees s has_shifted answer.IndexFull saw = record { seen = saw; sits = tt }
  attempted_sees s has_shifted answer.LogFull saw = record { seen = saw; sits = tt }

  called_sees : (s : SessionState) (has_shifted : Bool) (ask : Ask TryAnswer) → s.step ≡ Attempts has_shifted → Saw s → Sees low high (attempt_ledto s has_shifted ask)
  unfolding attempt_ledto
  called_sees s has_shifted (Done its) at saw = attempted_sees (attempt_left s) has_shifted its saw
  called_sees s has_shifted ask at saw = still s (Attempts has_shifted) at saw tt

  finishes_see : (k : Seat) (s : SessionState) (index : ℕ) (its : TryAnswer) → Saw s → Sees low high (finishes_request k s index its)
  unfolding finishes_request
  finishes_see k s index its saw =
      either_sees (is_owed s) (request_finished s index its) (polls_at k (request_finished s index its) index) (record { seen = saw; sits = tt }) (polls_see k (request_finished s index its) index saw)

  keeps_see : (k : Seat) (s : SessionState) (index : ℕ) (its : TryAnswer) → Saw s → Sees low high (keeps_request k s index its)
  unfolding keeps_request
  keeps_see k s index its saw = polls_see k (record s { requests = slice_set s.requests index s.attempt.pending; wants_turn = s.wants_turn || lacks_room its }) (index + 1) saw

  polled_sees : (k : Seat) (s : SessionState) (index : ℕ) (ask : Ask TryAnswer) → s.step ≡ Polls index → Saw s → Sees low high (poll_ledto k s index ask)
  unfolding poll_ledto
  polled_sees k s index (Done its) at saw =
      either_sees (is_finished its) (finishes_request k (poll_left s) index its) (keeps_request k (poll_left s) index its) (finishes_see k (poll_left s) index its saw) (keeps_see k (poll_left s) index its saw)
  polled_sees k s index ask at saw = still s (Polls index) at saw tt

  -- ---- each other state
  caught_up_sees : (k : Seat) (s : SessionState) (its : CatchCause) → Saw s → Sees low high (caught_up k s its)
  caught_up_sees k s cause.Refreshes saw = record { seen = saw; sits = tt }
  caught_up_sees k s cause.Wakes saw = record { seen = saw; sits = tt }
  caught_up_sees k s cause.Shifts saw = attempts_see k s true saw

  catch_led_sees : (k : Seat) (s : SessionState) (its : CatchCause) (ask : Ask (Unit {0})) → s.step ≡ CatchesUp its → Saw s → CatchSees (IsBetween (head_in s.seen) high) s.catching → Sees low high (catch_ledto k s its ask)
  unfolding catch_ledto
  catch_led_sees k s its (Done through) at saw catches =
      let before = saw.0 in
      let rises = catches.seen.0 in
      caught_up_sees k (record s { seen = s.catching.seen }) its (omega (arith, before, rises), catches.seen.1)
  catch_led_sees k s its ask at saw catches = still s (CatchesUp its) at saw catches

  clear_sees : (k : Seat) (s : SessionState) (ask : Ask MailAnswer) → s.step ≡ ClearsMail → Saw s → Sees low high (clear_ledto k s ask)
  unfolding clear_ledto
  clear_sees k s (Done mail.Cleared) at saw = polls_see k (record s { is_orphaned = false }) 0 saw
  clear_sees k s (Done its) at saw = polls_see k s 0 saw
  clear_sees k s ask at saw = still s ClearsMail at saw tt

  turned_sees : (s : SessionState) (its : Told) (ask : Ask (Unit {0})) → s.step ≡ Turns its → Saw s → Sees low high (turn_ledto s its ask)
  unfolding turn_ledto
  turned_sees s its (Done through) at saw = plain s its saw
  turned_sees s its ask at saw = still s (Turns its) at saw tt

  left_sees : (s : SessionState) (ask : Ask (Unit {0})) → s.step ≡ Leaves → Saw s → Sees low high (leave_ledto s ask)
  unfolding leave_ledto
  left_sees s (Done its) at saw = record { seen = saw; sits = tt }
  left_sees s ask at saw = still s Leaves at saw tt

  -- ---- each reply
  next_sits : (k : Seat) (s : SessionState) (step : Sitting) (reply : ℕ) → s.step ≡ step → Saw s → SitsSeeing high s step → (loads s step ≡ true → IsBetween (head_in s.seen) high reply) → Sees low high (sitting_next k s step reply)
  unfolding sitting_next
  next_sits k s (Idle its) reply at saw sits told = still s (Idle its) at saw tt
  next_sits k s (Attempts has_shifted) reply at saw sits told =
      let after : SessionState = attempt_moved k s reply in
      called_sees after has_shifted (attempt_ask k.places k.number after.attempt) at saw
  next_sits k s (Polls index) reply at saw sits told =
      let after : SessionState = attempt_moved k s reply in
      polled_sees k after index (attempt_ask k.places k.number after.attempt) at saw
  next_sits k s (CatchesUp its) reply at saw sits told =
      let after : SessionState = caught k s reply in
      catch_led_sees k after its (catch_ask k.places k.number after.catching after.requests) at saw
      (catch_sees (IsBetween (head_in s.seen) high) k.places (bits_of k) k.number s.catching after.requests s.catching.step reply refl sits.seen sits.loads told)
  next_sits k s ClearsMail reply at saw sits told = clear_sees k (record s { mailing = mail_next s.mailing reply }) (mail_ask k.number (mail_next s.mailing reply)) at saw
  next_sits k s (StoresOwing index) reply at saw sits told = polls_see k s index saw
  next_sits k s (Turns its) reply at saw sits told =
      let after : SessionState = own_turn_moved k s reply in
      turned_sees after its (own_turn_ask k.shape after.own_turn) at saw
  next_sits k s StoresCut reply at saw sits told = record { seen = saw; sits = tt }
  next_sits k s Leaves reply at saw sits told = left_sees (record s { leaving = leave_next s.leaving }) (leave_ask k.number (leave_next s.leaving)) at saw
  next_sits k s LoadsDurable reply at saw sits told = record { seen = saw; sits = tt }

  quiet : (s : SessionState) (asks : ℕ) (step : Sitting) → SitsSeeing high s step → SitsSeeing high (record s { asks = asks; effect = None }) step
  quiet s asks (CatchesUp its) sits = sits
  quiet s asks step sits = tt

  same_loads : (s : SessionState) (asks : ℕ) (step : Sitting) → loads (record s { asks = asks; effect = None }) step ≡ true → loads s step ≡ true
  same_loads s asks (CatchesUp its) e = e
  same_loads s asks step e = cc

  pub next_sees : (k : Seat) (s : SessionState) (reply : ℕ) → Sees low high s → (loads s s.step ≡ true → IsBetween (head_in s.seen) high reply) → Sees low high (session_next k s reply)
  next_sees k s reply its told =
      let asks : ℕ = asks_after s.asks (is_word_ask (session_ask k s)) in
      next_sits k (record s { asks = asks; effect = None }) s.step reply refl its.seen (quiet s asks s.step its.sits) (λ e. told (same_loads s asks s.step e))

  -- an action that it gets
  given_sits : (k : Seat) (s : SessionState) (step : Sitting) (action : Action) → s.step ≡ step → Sees low high s → Sees low high (sitting_given k s step action)
  unfolding sitting_given
  given_sits k s (Turns its) action at sees =
      let after : SessionState = record s { own_turn = own_turn_given s.own_turn action } in
      turned_sees after its (own_turn_ask k.shape after.own_turn) at sees.seen
  given_sits k s step action at sees = sees

  pub given_sees : (k : Seat) (s : SessionState) (action : Action) → Sees low high s → Sees low high (session_given k s action)
  given_sees k s action its = given_sits k s s.step action refl its

  -- and a call that begins
  op_sees : (k : Seat) (s : SessionState) (op : Op) (why : Option Fault) → Saw s → Sees low high (op_begun k s op why)
  unfolding op_begun
  op_sees k s op (Some why) saw = record { seen = saw; sits = tt }
  op_sees k s op None saw = attempts_see k (record s { op = op }) false saw

  clears_see : (k : Seat) (s : SessionState) → Saw s → Sees low high (poll_begun k s)
  clears_see k s saw = either_sees s.is_orphaned (record s { mailing = LoadsState Clear; step = ClearsMail }) (polls_at k s 0) (record { seen = saw; sits = tt }) (polls_see k s 0 saw)

  call_sees : (k : Seat) (s : SessionState) (its : Call) → Saw s → Sees low high (call_begun k s its)
  unfolding refresh_call poll_call sleep_call wake_call
  call_sees k s (call.Op op) saw = op_sees k s op (refusal_of s op) saw
  call_sees k s call.Refresh saw = either_sees s.is_awake _ _ (refreshes_see s cause.Refreshes saw) (record { seen = saw; sits = tt })
  call_sees k s call.Poll saw = either_sees s.is_awake _ _ (clears_see k (record s { finished = [] }) saw) (record { seen = saw; sits = tt })
  call_sees k s call.Sleep saw =
      either_sees (not s.is_awake) _ _ (record { seen = saw; sits = tt }) (either_sees (length s.requests == 0) _ _ (record { seen = saw; sits = tt }) (record { seen = saw; sits = tt }))
  call_sees k s call.Wake saw = either_sees s.is_awake _ _ (record { seen = saw; sits = tt }) (wakes_see s saw)
  call_sees k s call.Durable saw = record { seen = saw; sits = tt }

  pub begun_sees : (k : Seat) (s : SessionState) (its : Call) → Sees low high s → Sees low high (session_begun k s its)
  begun_sees k s its sees = call_sees k (record s { asks = 0; effect = None; wants_turn = false }) its sees.seen

-- as a store opens
opened_at : (head : ℕ) (s : SessionState) (step : Sitting) → s.step ≡ step → is_busy step ≡ false → head_in s.seen ≤ head → Sees 0 head s
opened_at head s (Idle its) at idle low = still 0 head s (Idle its) at (omega arith, low) tt
opened_at head s step at idle low = cc

pub opened_sees : (head : ℕ) (s : SessionState) → is_busy s.step ≡ false → head_in s.seen ≤ head → Sees 0 head s
opened_sees head s idle low = opened_at head s s.step refl idle low
