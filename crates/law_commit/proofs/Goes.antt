-- What an event leaves of a session that doesn't catch up: what it goes by stays, its serial rises by an attempt at a call alone, and it may begin to
-- catch up.
use Rattle.std.proofs.Common.{◌≡◌, ℕ, ◌+◌, ◌⊎◌, inl, inr, [], length, refl, sym, subst, Bool, true, false}
use Rattle.std.specs.Prelude.{Option, Some, None, if◌then◌else◌, not, ◌==◌, ◌||◌, slice_get, slice_set}
use Rattle.fkv_base.specs.declared.faults.Fault.{Fault}
use Rattle.fkv_base.specs.declared.faults.Fault.TheVariants as fault
use Rattle.fkv_map.specs.declared.operations.Call.{Call}
use Rattle.fkv_map.specs.declared.operations.Call.TheVariants as call
use Rattle.fkv_map.specs.declared.operations.Op.{Op}
use Rattle.fkv_plane.specs.declared.actions.Action.{Action}
use Rattle.fkv_plane.specs.declared.asks.Ask.{Ask}
use Rattle.fkv_plane.specs.declared.asks.Ask.TheVariants.{Done}
use Rattle.fkv_epoch.specs.declared.protecting.Protecting.TheVariants as protect
use Rattle.fkv_epoch.specs.declared.refreshing.Refreshing.TheVariants as refresh
use Rattle.fkv_epoch.specs.Leaving.{leave_next}
use Rattle.law_refine.specs.Below.fkv_ops.Reason.{Reason}
use Rattle.law_refine.specs.Below.fkv_ops.Reason.TheVariants as reason
use Rattle.law_refine.specs.Below.fkv_ops.TryAnswer.{TryAnswer}
use Rattle.law_refine.specs.Below.fkv_ops.TryAnswer.TheVariants as tried
use Rattle.law_refine.specs.Below.fkv_ops.Seen.{Seen}
use Rattle.law_refine.specs.Below.fkv_ops.Requests.{is_read}
use Rattle.law_refine.specs.Below.fkv_pending.MailAnswer.{MailAnswer}
use Rattle.law_refine.specs.Below.fkv_pending.MailAnswer.TheVariants.{Cleared}
use Rattle.law_refine.specs.Below.fkv_pending.PendingRequest.{PendingRequest}
use Rattle.law_refine.specs.Below.fkv_pending.Mailing.{mail_next}
use Rattle.law_refine.specs.Below.fkv_session.Told.{Told}
use Rattle.law_refine.specs.Below.fkv_session.Told.TheVariants as told
use Rattle.law_refine.specs.Below.fkv_session.Catching.{Catching}
use Rattle.law_refine.specs.Below.fkv_session.Catching.TheVariants as catching
use Rattle.law_refine.specs.Below.fkv_session.Sitting.{Sitting}
use Rattle.law_refine.specs.Below.fkv_session.Sitting.TheVariants.{Idle, Attempts, CatchesUp, ClearsMail, Polls, StoresOwing, Turns, StoresCut, Leaves, LoadsDurable}
use Rattle.law_refine.specs.Below.fkv_session.CatchingUp.{CatchState}
use Rattle.law_refine.specs.Below.fkv_session.OwnTurns.{own_turn_given}
use Rattle.law_refine.specs.Below.fkv_session.Sessions.{SessionState, Seat, answers, answers_after_turn, ticket_after, attempts, polls_request, polls_at, refusal_of, op_begun, refresh_call, poll_begun, poll_call, sleep_call, wake_call, call_begun, attempt_left, poll_left, serial_taken, update_done, is_no_room, with_request, accepts, shifts, attempted, attempt_ledto, clear_ledto, is_finished, is_owed, request_finished, lacks_room, finishes_request, keeps_request, poll_ledto, turn_ledto, leave_ledto, attempt_moved, own_turn_moved, sitting_next, sitting_given, refuses}

-- where it begins to catch up, it goes by what the session goes by, and loads the epoch first; it knows whether it refreshes
abbrev pub HasBegun : Seen → CatchState → Catching → Type 0
HasBegun seen c catching.Refreshes = (c.seen ≡ seen) × (c.refreshing ≡ refresh.LoadsEpoch) × (c.is_refresh ≡ true)
HasBegun seen c catching.Protects = (c.seen ≡ seen) × (c.protecting ≡ protect.LoadsEpoch) × (c.is_refresh ≡ false)
HasBegun seen c step = ⊥

abbrev pub BeginsToCatch : SessionState → Sitting → Type 0
BeginsToCatch a (CatchesUp cause) = HasBegun a.seen a.catching a.catching.step
BeginsToCatch a step = Unit {0}

pub record Calm (was : Seen) (n : ℕ) (a : SessionState) : Type 0 where
  pub seen : a.seen ≡ was
  pub serial : a.serial ≡ n
  pub begins : BeginsToCatch a a.step

-- it may have taken the next serial
pub record Goes (was : Seen) (n : ℕ) (a : SessionState) : Type 0 where
  pub seen : a.seen ≡ was
  pub serial : (a.serial ≡ n) ⊎ (a.serial ≡ n + 1)
  pub begins : BeginsToCatch a a.step

pub calm_goes : {was : Seen} {n : ℕ} {a : SessionState} → Calm was n a → Goes was n a
calm_goes its = record { seen = its.seen; serial = inl its.serial; begins = its.begins }

either_calm : (c : Bool) {was : Seen} {n : ℕ} (a b : SessionState) → Calm was n a → Calm was n b → Calm was n (if c then a else b)
either_calm true a b one other = one
either_calm false a b one other = other

either_goes : (c : Bool) {was : Seen} {n : ℕ} (a b : SessionState) → Goes was n a → Goes was n b → Goes was n (if c then a else b)
either_goes true a b one other = one
either_goes false a b one other = other

still : (s : SessionState) (step : Sitting) → s.step ≡ step → BeginsToCatch s step → Calm s.seen s.serial s
still s step e begins = record { seen = refl; serial = refl; begins = subst (λ (x : Sitting). BeginsToCatch s x) (sym e) begins }

turn_calm : (s : SessionState) (its : Told) → Calm s.seen s.serial (answers_after_turn s its)
turn_calm s its = either_calm s.wants_turn _ (answers s its) (record { seen = refl; serial = refl; begins = tt }) (record { seen = refl; serial = refl; begins = tt })

pub attempts_calm : (k : Seat) (s : SessionState) (has_shifted : Bool) → Calm s.seen s.serial (attempts k s has_shifted)
unfolding attempts
attempts_calm k s has_shifted = record { seen = refl; serial = refl; begins = tt }

found_calm : (k : Seat) (s : SessionState) (i : ℕ) (found : Option PendingRequest) → Calm s.seen s.serial (polls_request k s i found)
found_calm k s i None = turn_calm s (told.Polled (length s.requests))
found_calm k s i (Some pending) = record { seen = refl; serial = refl; begins = tt }

polls_calm : (k : Seat) (s : SessionState) (i : ℕ) → Calm s.seen s.serial (polls_at k s i)
unfolding polls_at
polls_calm k s i = found_calm k s i (slice_get s.requests i)

-- the end of an attempt at a call
rose : {was : Seen} {n : ℕ} {a : SessionState} → Calm was (n + 1) a → Goes was n a
rose its = record { seen = its.seen; serial = inr its.serial; begins = its.begins }

accepts_goes : (s : SessionState) (why : Reason) → Goes s.seen s.serial (accepts s why)
unfolding accepts
accepts_goes s why =
    either_goes (is_read s.op) (answers (with_request (record s { ticket = ticket_after s.ticket })) (told.PendingRead (record { 0 = ticket_after s.ticket }))) _ (record { seen = refl; serial = inl refl; begins = tt })
    (rose (turn_calm (with_request (serial_taken (record s { wants_turn = is_no_room why }))) (told.Pending (record { 0 = s.serial + 1 }) why)))

shifts_goes : (s : SessionState) (has_shifted : Bool) → Goes s.seen s.serial (shifts s has_shifted)
unfolding shifts
shifts_goes s false = record { seen = refl; serial = inl refl; begins = (refl, refl, refl) }
shifts_goes s true = accepts_goes s reason.Contended

attempted_goes : (s : SessionState) (has_shifted : Bool) (its : TryAnswer) → Goes s.seen s.serial (attempted s has_shifted its)
attempted_goes s has_shifted (tried.Done reply) = either_goes (is_read s.op) (answers s told.Absent) (update_done s reply) (record { seen = refl; serial = inl refl; begins = tt }) (record { seen = refl; serial = inr refl; begins = tt })
attempted_goes s has_shifted (tried.Found value) = record { seen = refl; serial = inl refl; begins = tt }
attempted_goes s has_shifted tried.Absent = record { seen = refl; serial = inl refl; begins = tt }
attempted_goes s has_shifted (tried.Wait why) = accepts_goes s why
attempted_goes s has_shifted (tried.AwaitsDisk sought) = accepts_goes s reason.Disk
attempted_goes s has_shifted tried.Shift = shifts_goes s has_shifted
attempted_goes s has_shifted tried.IndexFull = record { seen = refl; serial = inl refl; begins = tt }
attempted_goes s has_shifted tried.LogFull = record { seen = refl; serial = inl refl; begins = tt }

attempt_goes : (s : SessionState) (has_shifted : Bool) (ask : Ask TryAnswer) → s.step ≡ Attempts has_shifted → Goes s.seen s.serial (attempt_ledto s has_shifted ask)
unfolding attempt_ledto
attempt_goes s has_shifted (Done its) e = attempted_goes (attempt_left s) has_shifted its
attempt_goes s has_shifted ask e = calm_goes (still s (Attempts has_shifted) e tt)

-- polls, turns and leaving
clear_calm : (k : Seat) (s : SessionState) (ask : Ask MailAnswer) → s.step ≡ ClearsMail → Calm s.seen s.serial (clear_ledto k s ask)
unfolding clear_ledto
clear_calm k s (Done Cleared) e = polls_calm k (record s { is_orphaned = false }) 0
clear_calm k s (Done its) e = polls_calm k s 0
clear_calm k s ask e = still s ClearsMail e tt

finishes_calm : (k : Seat) (s : SessionState) (i : ℕ) (its : TryAnswer) → Calm s.seen s.serial (finishes_request k s i its)
unfolding finishes_request
finishes_calm k s i its = either_calm (is_owed s) (request_finished s i its) (polls_at k (request_finished s i its) i) (record { seen = refl; serial = refl; begins = tt }) (polls_calm k (request_finished s i its) i)

keeps_calm : (k : Seat) (s : SessionState) (i : ℕ) (its : TryAnswer) → Calm s.seen s.serial (keeps_request k s i its)
unfolding keeps_request
keeps_calm k s i its = polls_calm k (record s { requests = slice_set s.requests i s.attempt.pending; wants_turn = s.wants_turn || lacks_room its }) (i + 1)

poll_calm : (k : Seat) (s : SessionState) (i : ℕ) (ask : Ask TryAnswer) → s.step ≡ Polls i → Calm s.seen s.serial (poll_ledto k s i ask)
unfolding poll_ledto
poll_calm k s i (Done its) e =
    either_calm (is_finished its) (finishes_request k (poll_left s) i its) (keeps_request k (poll_left s) i its) (finishes_calm k (poll_left s) i its) (keeps_calm k (poll_left s) i its)
poll_calm k s i ask e = still s (Polls i) e tt

turned_calm : (s : SessionState) (its : Told) (ask : Ask (Unit {0})) → s.step ≡ Turns its → Calm s.seen s.serial (turn_ledto s its ask)
unfolding turn_ledto
turned_calm s its (Done through) e = record { seen = refl; serial = refl; begins = tt }
turned_calm s its ask e = still s (Turns its) e tt

left_calm : (s : SessionState) (ask : Ask (Unit {0})) → s.step ≡ Leaves → Calm s.seen s.serial (leave_ledto s ask)
unfolding leave_ledto
left_calm s (Done its) e = record { seen = refl; serial = refl; begins = tt }
left_calm s ask e = still s Leaves e tt

-- a call that begins
op_calm : (k : Seat) (s : SessionState) (op : Op) (why : Option Fault) → Calm s.seen s.serial (op_begun k s op why)
unfolding op_begun
op_calm k s op (Some why) = record { seen = refl; serial = refl; begins = tt }
op_calm k s op None = attempts_calm k (record s { op = op }) false

polls_begun : (k : Seat) (s : SessionState) → Calm s.seen s.serial (poll_begun k s)
polls_begun k s = either_calm s.is_orphaned _ (polls_at k s 0) (record { seen = refl; serial = refl; begins = tt }) (polls_calm k s 0)

pub call_calm : (k : Seat) (s : SessionState) (its : Call) → Calm s.seen s.serial (call_begun k s its)
unfolding refresh_call poll_call sleep_call wake_call
call_calm k s (call.Op op) = op_calm k s op (refusal_of s op)
call_calm k s call.Refresh = either_calm s.is_awake _ (refuses s fault.Asleep) (record { seen = refl; serial = refl; begins = (refl, refl, refl) }) (record { seen = refl; serial = refl; begins = tt })
call_calm k s call.Poll = either_calm s.is_awake (poll_begun k (record s { finished = [] })) (refuses s fault.Asleep) (polls_begun k (record s { finished = [] })) (record { seen = refl; serial = refl; begins = tt })
call_calm k s call.Sleep =
    either_calm (not s.is_awake) (refuses s fault.Asleep) _ (record { seen = refl; serial = refl; begins = tt })
    (either_calm (length s.requests == 0) (record s { step = StoresCut }) (refuses s fault.PendingLeft) (record { seen = refl; serial = refl; begins = tt }) (record { seen = refl; serial = refl; begins = tt }))
call_calm k s call.Wake = either_calm s.is_awake (refuses s fault.Awake) _ (record { seen = refl; serial = refl; begins = tt }) (record { seen = refl; serial = refl; begins = (refl, refl, refl) })
call_calm k s call.Durable = record { seen = refl; serial = refl; begins = tt }

-- what a reply leads to, where the session doesn't catch up
abbrev pub MovesOn : Seat → SessionState → Sitting → ℕ → ℕ → Type 0
MovesOn k s (Attempts has_shifted) asks reply = Goes s.seen s.serial (sitting_next k (record s { asks = asks; effect = None }) (Attempts has_shifted) reply)
MovesOn k s (CatchesUp cause) asks reply = Unit {0}
MovesOn k s step asks reply = Calm s.seen s.serial (sitting_next k (record s { asks = asks; effect = None }) step reply)

pub moves_on : (k : Seat) (s : SessionState) (asks : ℕ) (step : Sitting) (reply : ℕ) → s.step ≡ step → MovesOn k s step asks reply
unfolding sitting_next
moves_on k s asks (Idle its) reply e = still (record s { asks = asks; effect = None }) (Idle its) e tt
moves_on k s asks (Attempts has_shifted) reply e = let t : SessionState = record s { asks = asks; effect = None } in attempt_goes (attempt_moved k t reply) has_shifted _ e
moves_on k s asks (CatchesUp cause) reply e = tt
moves_on k s asks ClearsMail reply e = let t : SessionState = record s { asks = asks; effect = None } in clear_calm k (record t { mailing = mail_next s.mailing reply }) _ e
moves_on k s asks (Polls i) reply e = let t : SessionState = record s { asks = asks; effect = None } in poll_calm k (attempt_moved k t reply) i _ e
moves_on k s asks (StoresOwing i) reply e = polls_calm k (record s { asks = asks; effect = None }) i
moves_on k s asks (Turns its) reply e = let t : SessionState = record s { asks = asks; effect = None } in turned_calm (own_turn_moved k t reply) its _ e
moves_on k s asks StoresCut reply e = record { seen = refl; serial = refl; begins = tt }
moves_on k s asks Leaves reply e = let t : SessionState = record s { asks = asks; effect = None } in left_calm (record t { leaving = leave_next s.leaving }) _ e
moves_on k s asks LoadsDurable reply e = record { seen = refl; serial = refl; begins = tt }

-- and what an action leads to
abbrev pub IsGiven : Seat → SessionState → Sitting → Action → Type 0
IsGiven k s (Turns its) action = Calm s.seen s.serial (sitting_given k s (Turns its) action)
IsGiven k s step action = sitting_given k s step action ≡ s

pub given_on : (k : Seat) (s : SessionState) (step : Sitting) (action : Action) → s.step ≡ step → IsGiven k s step action
unfolding sitting_given
given_on k s (Turns its) action e = turned_calm (record s { own_turn = own_turn_given s.own_turn action }) its _ e
given_on k s (Idle its) action e = refl
given_on k s (Attempts has_shifted) action e = refl
given_on k s (CatchesUp cause) action e = refl
given_on k s ClearsMail action e = refl
given_on k s (Polls i) action e = refl
given_on k s (StoresOwing i) action e = refl
given_on k s StoresCut action e = refl
given_on k s Leaves action e = refl
given_on k s LoadsDurable action e = refl
