-- One step of a session, and one call that begins: the guard's events, where they lead, and what is known then.
use Rattle.std.proofs.Common.{◌≡◌, ℕ, ◌<◌, ◌∙◌, [], ◌++◌, refl, sym, ap, subst, Bool, true, false}
use Rattle.std.specs.Prelude.{Option, Some, None, slice_get, if◌then◌else◌, not, ◌==◌, length}
use Rattle.fkv_base.specs.declared.faults.Fault.{Fault}
use Rattle.fkv_base.specs.declared.faults.Fault.TheVariants as fault
use Rattle.fkv_map.specs.declared.operations.Call.{Call}
use Rattle.fkv_map.specs.declared.operations.Call.TheVariants as call
use Rattle.fkv_plane.specs.Asked.{words_after, reply_to}
use Rattle.fkv_epoch.specs.declared.leaving.Leaving.{Leaving}
use Rattle.fkv_epoch.specs.declared.leaving.Leaving.TheVariants as leave
use Rattle.fkv_epoch.specs.Leaving.{leave_ask, leave_next}
use Rattle.fkv_epoch.specs.EpochWorld.{own_epoch}
use Rattle.fkv_flush.specs.GuardWorld.{Actor, GuardNow, GuardWorld}
use Rattle.fkv_flush.proofs.Shown.{IsSound, Fits, Follows}
use Rattle.fkv_session.specs.declared.catching_up.Catching.{Catching}
use Rattle.fkv_session.specs.declared.catching_up.Catching.TheVariants as catching
use Rattle.fkv_session.specs.declared.sessions.CatchCause.{CatchCause}
use Rattle.fkv_session.specs.declared.sessions.CatchCause.TheVariants.{Refreshes, Wakes}
use Rattle.fkv_session.specs.declared.sessions.Sitting.{Sitting}
use Rattle.fkv_session.specs.declared.sessions.Sitting.TheVariants.{Idle, Attempts, CatchesUp, ClearsMail, Polls, StoresOwing, Turns, StoresCut, Leaves, LoadsDurable}
use Rattle.fkv_session.specs.CatchingUp.{refresh_begun, wake_begun}
use Rattle.fkv_session.specs.Sessions.{SessionState, Seat, is_busy, sitting_ask, sitting_next, session_ask, session_next, session_begun, call_begun, op_begun, refusal_of, refresh_call, poll_call, sleep_call, wake_call, refuses, poll_begun, leave_ledto, asks_after, is_word_ask}
use Rattle.law_world.specs.GuardSessions.Likenesses.{last_seen, through}
use Rattle.law_world.specs.GuardSessions.Steps.{Onward, Stays, Starts, GoesOn, onward_events}
use Rattle.law_world.specs.GuardSessions.Catches.{catch_likeness_at}
use Rattle.law_world.specs.GuardSessions.Sessions.{sitting_events, sitting_onward, sitting_likeness, session_likeness, is_protected_at, is_protected_catching, SittingWritesOuter, SessionWritesOuter, called_guard_events}
use Rattle.law_world.specs.GuardSessions.Followed.{IsProtectedAt, SessionFollows, seat_in, is_turning}
use Rattle.law_world.proofs.OfGuardSessions.Onwards.{IsSessions, goes_onward}
use Rattle.law_world.proofs.OfGuardSessions.Outer.{no_event}
use Rattle.law_world.proofs.OfGuardSessions.Catches.{protecting_is}
use Rattle.law_world.specs.GuardSessions.Rows.{CatchKnows, SittingKnows}
use Rattle.law_world.proofs.OfGuardSessions.Kept.{words_kept, wakes}
use Rattle.law_world.proofs.OfGuardSessions.Sessions.{stays_protected, session_step}
use Rattle.law_world.proofs.OfGuardSessions.SessionsLed.{begun_led}

module _ (w : GuardWorld) (number : ℕ) (x : Actor) (sound : IsSound w) (got : slice_get w.now.actors number ≡ Some x) (below : number < w.now.places.sessions) where
  abbrev After : SessionState → ℕ → Sitting → SessionState
  After s asks step = sitting_next (seat_in w.now number) (record s { asks = asks; effect = None }) step (reply_to w.now.words (sitting_ask (seat_in w.now number) s step))

  abbrev Kept : SessionState → ℕ → Sitting → Type 0
  Kept s asks step = is_protected_at (After s asks step) (After s asks step).step ≡ true → 0 < own_epoch (words_after w.now.words (sitting_ask (seat_in w.now number) s step)) number

  -- who catches up
  catching_kept : (s : SessionState) (asks : ℕ) (cause : CatchCause) (step : Catching) → s.step ≡ CatchesUp cause → s.catching.step ≡ step → (is_protected_catching step ≡ true → 0 < own_epoch w.now.words number) → SittingKnows s (CatchesUp cause)
      → SittingWritesOuter (seat_in w.now number) s (CatchesUp cause) (sitting_ask (seat_in w.now number) s (CatchesUp cause)) → Fits (sitting_likeness s (CatchesUp cause)) x → Kept s asks (CatchesUp cause)
  catching_kept s asks cause catching.Protects at inner protected knows owes fits p =
      let its : CatchKnows s.catching catching.Protects = subst (λ t. CatchKnows s.catching t) inner knows in
      let like : Fits (catch_likeness_at s.catching catching.Protects) x = subst (λ t. Fits (catch_likeness_at s.catching t) x) inner fits in
      wakes w number x sound got below s asks cause s.catching.protecting refl inner at its.1 (protecting_is s.catching.protecting x.machine its.1 like.machine) p
  catching_kept s asks cause step at inner protected knows owes fits p =
      words_kept w number x sound got below s (CatchesUp cause) refl (ap is_protected_catching inner) (protected refl) knows owes fits

  sitting_kept : (s : SessionState) (asks : ℕ) (step : Sitting) → s.step ≡ step → is_turning step ≡ false → (is_protected_at s step ≡ true → 0 < own_epoch w.now.words number) → SittingKnows s step
      → SittingWritesOuter (seat_in w.now number) s step (sitting_ask (seat_in w.now number) s step) → Fits (sitting_likeness s step) x → Kept s asks step
  unfolding sitting_next leave_ledto leave_next leave_ask
  sitting_kept s asks (Idle its) at other protected knows owes fits p =
      let awake : s.is_awake ≡ true = subst (λ t. is_protected_at (record s { asks = asks; effect = None }) t ≡ true) at p in
      words_kept w number x sound got below s (Idle its) refl awake (protected awake) knows owes fits
  sitting_kept s asks (Attempts has_shifted) at other protected knows owes fits p = words_kept w number x sound got below s (Attempts has_shifted) refl refl (protected refl) knows owes fits
  sitting_kept s asks (CatchesUp cause) at other protected knows owes fits p = catching_kept s asks cause s.catching.step at refl protected knows owes fits p
  sitting_kept s asks ClearsMail at other protected knows owes fits p = words_kept w number x sound got below s ClearsMail refl refl (protected refl) knows owes fits
  sitting_kept s asks (Polls index) at other protected knows owes fits p = words_kept w number x sound got below s (Polls index) refl refl (protected refl) knows owes fits
  sitting_kept s asks (StoresOwing index) at other protected knows owes fits p = words_kept w number x sound got below s (StoresOwing index) refl refl (protected refl) knows owes fits
  sitting_kept s asks (Turns its) at other protected knows owes fits p = cc
  sitting_kept s asks StoresCut at other protected knows owes fits p = words_kept w number x sound got below s StoresCut refl refl (protected refl) knows owes fits
  sitting_kept s asks Leaves at other protected knows owes fits p = gone s.leaving knows p
    where
      gone : (l : Leaving) → l ≡ leave.StoresZero
          → (let after : SessionState = leave_ledto (record s { asks = asks; effect = None; leaving = leave_next l }) (leave_ask number (leave_next l)) in is_protected_at after after.step ≡ true) → 0 < own_epoch (words_after w.now.words (sitting_ask (seat_in w.now number) s Leaves)) number
      gone leave.StoresZero e q = cc
      gone leave.AtRest e q = cc
  sitting_kept s asks LoadsDurable at other protected knows owes fits p = words_kept w number x sound got below s LoadsDurable refl p (protected p) knows owes fits

  -- what was protected and didn't leave
  stayed_kept : (s : SessionState) (step : Sitting) → is_turning step ≡ false → (is_protected_at s step ≡ true → 0 < own_epoch w.now.words number) → SittingKnows s step
      → SittingWritesOuter (seat_in w.now number) s step (sitting_ask (seat_in w.now number) s step) → Fits (sitting_likeness s step) x → stays_protected s step ≡ true → 0 < own_epoch (words_after w.now.words (sitting_ask (seat_in w.now number) s step)) number
  stayed_kept s Leaves other protected knows owes fits stays = cc
  stayed_kept s step other protected knows owes fits stays = words_kept w number x sound got below s step other stays (protected stays) knows owes fits

  protected_now : (s : SessionState) → IsProtectedAt number w.now.words s → IsSessions w.now.places.sessions number (is_protected_at s s.step) w.now.words
  protected_now s protected = record { below = below; epoch = protected }

-- A step of a session that doesn't turn.
pub session_follows : (w : GuardWorld) (number : ℕ) (x : Actor) (s : SessionState) → IsSound w → slice_get w.now.actors number ≡ Some x → number < w.now.places.sessions → is_turning s.step ≡ false → SittingKnows s s.step → IsProtectedAt number w.now.words s
    → SessionWritesOuter (seat_in w.now number) s → Fits (session_likeness s) x
    → (let k : Seat = seat_in w.now number in
    let after : SessionState = session_next k s (reply_to w.now.words (session_ask k s)) in
    SessionFollows w.now number (onward_events number (sitting_onward after after.step) ++ sitting_events k w.now.words s s.step (session_ask k s)) after (words_after w.now.words (session_ask k s)) w.now.actions)
session_follows w number x s sound got below other knows protected owes fits =
    let k : Seat = seat_in w.now number in
    let asks : ℕ = asks_after s.asks (is_word_ask (session_ask k s)) in
    let after : SessionState = session_next k s (reply_to w.now.words (session_ask k s)) in
    let moved = session_step w.now number x s got other (protected_now w number x sound got below s protected) knows owes fits in
    record {
      follows = goes_onward (stays_protected s s.step) w.now number x (sitting_events k w.now.words s s.step (session_ask k s)) moved.its.mid (sitting_onward after after.step) (session_likeness after) (words_after w.now.words (session_ask k s)) w.now.actions got
          (record { below = below; epoch = stayed_kept w number x sound got below s s.step other protected knows owes fits }) moved.its.moved moved.its.leads;
      knows = moved.knows;
      protected = sitting_kept w number x sound got below s asks s.step refl other protected knows owes fits;
    }

none_more : (number : ℕ) (onward : Onward) → onward_events number onward ++ [] ≡ onward_events number onward
none_more number Stays = refl
none_more number (Starts task) = refl
none_more number GoesOn = refl

-- behind the start of a call a session is protected only if it was awake
called_awake : (k : Seat) (s : SessionState) (its : Call) (awake : Bool) → s.is_awake ≡ awake → (let after : SessionState = call_begun k s its in is_protected_at after after.step ≡ true) → awake ≡ true
unfolding op_begun refresh_call poll_call sleep_call wake_call
called_awake k s its true e p = refl
called_awake k s (call.Op op) false e p = refused (refusal_of s op) (rw e refl) p
  where
    refused : (why : Option Fault) → why ≡ Some fault.Asleep → (let after : SessionState = op_begun k s op why in is_protected_at after after.step ≡ true) → false ≡ true
    refused (Some its) same q = sym e ∙ q
    refused None same q = cc
called_awake k s call.Refresh false e p = by_test s.is_awake e p
  where
    by_test : (b : Bool) → b ≡ false → (let after : SessionState = if b then record s { catching = refresh_begun s.catching s.seen s.serial; step = CatchesUp Refreshes } else refuses s fault.Asleep in is_protected_at after after.step ≡ true) → false ≡ true
    by_test true f q = cc
    by_test false f q = sym e ∙ q
called_awake k s call.Poll false e p = by_test s.is_awake e p
  where
    by_test : (b : Bool) → b ≡ false → (let after : SessionState = if b then poll_begun k (record s { finished = [] }) else refuses s fault.Asleep in is_protected_at after after.step ≡ true) → false ≡ true
    by_test true f q = cc
    by_test false f q = sym e ∙ q
called_awake k s call.Sleep false e p = by_test s.is_awake e p
  where
    by_test : (b : Bool) → b ≡ false → (let after : SessionState = if not b then refuses s fault.Asleep else if length s.requests == 0 then record s { step = StoresCut } else refuses s fault.PendingLeft in is_protected_at after after.step ≡ true) → false ≡ true
    by_test true f q = cc
    by_test false f q = sym e ∙ q
called_awake k s call.Wake false e p = by_test s.is_awake e p
  where
    by_test : (b : Bool) → b ≡ false → (let after : SessionState = if b then refuses s fault.Awake else record s { catching = wake_begun s.catching s.seen s.serial; step = CatchesUp Wakes } in is_protected_at after after.step ≡ true) → false ≡ true
    by_test true f q = cc
    by_test false f q = q
called_awake k s call.Durable false e p = sym e ∙ p

idle_through : (s : SessionState) (step : Sitting) → is_busy step ≡ false → sitting_likeness s step ≡ through (last_seen s.seen)
idle_through s (Idle its) idle = refl
idle_through s step idle = cc

idle_awake : (s : SessionState) (step : Sitting) → is_busy step ≡ false → is_protected_at s step ≡ s.is_awake
idle_awake s (Idle its) idle = refl
idle_awake s step idle = cc

-- A call that begins, where none is in hand.
pub call_follows : (n : GuardNow) (number : ℕ) (x : Actor) (s : SessionState) (its : Call) → slice_get n.actors number ≡ Some x → number < n.places.sessions → is_busy s.step ≡ false → IsProtectedAt number n.words s → Fits (session_likeness s) x
    → (let after : SessionState = session_begun (seat_in n number) s its in SessionFollows n number (called_guard_events (seat_in n number) after) after n.words n.actions)
call_follows n number x s its got below idle protected fits =
    let k : Seat = seat_in n number in
    let after : SessionState = session_begun k s its in
    let led = begun_led k s its in
    let free : Fits (through (last_seen s.seen)) x = subst (λ l. Fits l x) (idle_through s s.step idle) fits in
    let epoch : s.is_awake ≡ true → 0 < own_epoch n.words number = λ e. protected (idle_awake s s.step idle ∙ e) in
    let still : Follows n number [] (through (last_seen s.seen)) n.words n.actions = record { actor = x; same = no_event n number x n.words got refl; fits = free } in
    let led_to = goes_onward s.is_awake n number x [] (through (last_seen s.seen)) (sitting_onward after after.step) (session_likeness after) n.words n.actions got (record { below = below; epoch = epoch }) still led.leads in
    record {
      follows = subst (λ events. Follows n number events (session_likeness after) n.words n.actions) (none_more number (sitting_onward after after.step)) led_to;
      knows = led.knows;
      protected = λ p. epoch (called_awake k (record s { asks = 0; effect = None; wants_turn = false }) its s.is_awake refl p);
    }
