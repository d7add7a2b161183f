-- At every moment of a session's run its try holds a latch alone only between two versions, and it adds a share in catching up only as it enters prepare.
use Rattle.std.proofs.Common.{◌≡◌, ℕ, ◌<◌, refl, sym, subst, List, [], ◌∷◌, Bool, true, false}
use Rattle.std.specs.Prelude.{⊤, None}
use Rattle.fkv_map.specs.declared.operations.Call.{Call}
use Rattle.fkv_plane.specs.declared.actions.Action.{Action}
use Rattle.fkv_plane.specs.declared.asks.Ask.{Ask}
use Rattle.fkv_plane.specs.declared.asks.Ask.TheVariants.{Done}
use Rattle.fkv_epoch.specs.Leaving.{leave_next}
use Rattle.law_refine.specs.Below.fkv_ops.Occasion.TheVariants.{Call as AtCall, Poll as AtPoll}
use Rattle.law_refine.specs.Below.fkv_pending.PendingRequest.{PendingRequest}
use Rattle.law_refine.specs.Below.fkv_pending.Mailing.{mail_next}
use Rattle.law_refine.specs.Below.fkv_session.Told.{Told}
use Rattle.law_refine.specs.Below.fkv_session.Sitting.{Sitting}
use Rattle.law_refine.specs.Below.fkv_session.Sitting.TheVariants.{Idle, Attempts, CatchesUp, ClearsMail, Polls, StoresOwing, Turns, StoresCut, Leaves, LoadsDurable}
use Rattle.law_refine.specs.Below.fkv_session.OwnTurns.{own_turn_given}
use Rattle.law_refine.specs.Below.fkv_session.Sessions.{SessionState, Seat, IsOpened, bits_of, room_of, request_in_hand, attempts, shifts, turn_ledto, attempt_moved, caught, own_turn_moved, session_ask, sitting_next, session_next, sitting_given, session_given, asks_after, is_word_ask, is_busy}
use Rattle.law_refine.specs.Below.fkv_session.SessionRun.{SessionEvent, Begins, Replies, Gets, begins, session_happens, session_run}
use Rattle.fkv_index.specs.Slots.{home_of}
use Rattle.fkv_map.specs.Keys.{key_of}
use Rattle.law_commit.proofs.OfShares.Enters.{IsEnteringSo, catch_enters}
use Rattle.law_commit.proofs.OfShares.AttemptsMove.{IsAttemptMoving, attempt_begun_moving, attempt_next_moving}
use Rattle.law_commit.proofs.SessionSteps.{HoldsBegun, HoldsCalled, attempt_holds, begun_holds, catch_holds, clear_holds, leave_holds, poll_holds, polls_hold}
use Rattle.law_refine.specs.Below.fkv_ops.Bounds.{bounds_of}

module _ (k : Seat) (homes : (pending : PendingRequest) → (home_of (bits_of k) (key_of pending.request.op)).bucket < k.places.buckets) where
  -- an attempt goes by what the session has seen
  abbrev pub SittingMoving : SessionState → Sitting → Type 0
  SittingMoving s (Attempts has_shifted) = IsAttemptMoving s.seen s.attempt
  SittingMoving s (Polls index) = IsAttemptMoving s.seen s.attempt
  SittingMoving s (CatchesUp cause) = IsEnteringSo k.places s.seen s.requests s.catching
  SittingMoving s step = ⊤

  abbrev pub IsSessionMoving : SessionState → Type 0
  IsSessionMoving s = SittingMoving s s.step

  -- where a call and a reply lead
  stays_moving : (s : SessionState) (step : Sitting) → s.step ≡ step → SittingMoving s step → IsSessionMoving s
  stays_moving s step at moving = subst (λ x. SittingMoving s x) (sym at) moving

  attempts_moving : (s : SessionState) (has_shifted : Bool) → IsSessionMoving (attempts k s has_shifted)
  unfolding attempts
  attempts_moving s has_shifted = attempt_begun_moving k.places (bits_of k) (request_in_hand s) s.seen (AtCall (bounds_of k.shape)) s.spare s.is_orphaned

  shifted_moving : (s : SessionState) → IsSessionMoving (shifts s false)
  unfolding shifts
  shifted_moving s = refl

  begun_moving : HoldsBegun k SittingMoving
  begun_moving = record {
    answered = λ s its other. tt;
    turns = λ s its other. tt;
    tries = λ s has_shifted. attempts_moving s has_shifted;
    polls = λ s index pending. attempt_begun_moving k.places (bits_of k) pending s.seen AtPoll s.spare s.is_orphaned;
    shifted = λ s. shifted_moving s;
    owes = λ s index. tt;
  }

  turn_moving : (s : SessionState) (its : Told) (ask : Ask (Unit {0})) → s.step ≡ Turns its → IsSessionMoving (turn_ledto s its ask)
  unfolding turn_ledto
  turn_moving s its (Done through) at = tt
  turn_moving s its ask at = stays_moving s (Turns its) at tt

  next_moving : (s : SessionState) (step : Sitting) (reply : ℕ) → s.step ≡ step → SittingMoving s step → IsSessionMoving (sitting_next k s step reply)
  unfolding sitting_next
  next_moving s (Idle its) reply at moving = stays_moving s (Idle its) at tt
  next_moving s (Attempts has_shifted) reply at moving = attempt_holds k SittingMoving begun_moving (attempt_moved k s reply) has_shifted _ at (attempt_next_moving k.places (bits_of k) (room_of k) k.number s.seen s.attempt reply moving)
  next_moving s (CatchesUp cause) reply at moving = catch_holds k SittingMoving begun_moving (caught k s reply) cause _ at (catch_enters k (λ pending. homes pending) s.seen s.requests s.catching reply moving)
  next_moving s ClearsMail reply at moving = clear_holds k SittingMoving begun_moving (record s { mailing = mail_next s.mailing reply }) _ at tt
  next_moving s (Polls index) reply at moving = poll_holds k SittingMoving begun_moving (attempt_moved k s reply) index _ at (attempt_next_moving k.places (bits_of k) (room_of k) k.number s.seen s.attempt reply moving)
  next_moving s (StoresOwing index) reply at moving = polls_hold k SittingMoving begun_moving s index
  next_moving s (Turns its) reply at moving = turn_moving (own_turn_moved k s reply) its _ at
  next_moving s StoresCut reply at moving = tt
  next_moving s Leaves reply at moving = leave_holds k SittingMoving begun_moving (record s { leaving = leave_next s.leaving }) _ at tt
  next_moving s LoadsDurable reply at moving = tt

  counted_moving : (s : SessionState) (asks : ℕ) (step : Sitting) → SittingMoving s step → SittingMoving (record s { asks = asks; effect = None }) step
  counted_moving s asks (Attempts has_shifted) moving = moving
  counted_moving s asks (Polls index) moving = moving
  counted_moving s asks (Turns its) moving = tt
  counted_moving s asks (Idle its) moving = tt
  counted_moving s asks (CatchesUp cause) moving = moving
  counted_moving s asks ClearsMail moving = tt
  counted_moving s asks (StoresOwing index) moving = tt
  counted_moving s asks StoresCut moving = tt
  counted_moving s asks Leaves moving = tt
  counted_moving s asks LoadsDurable moving = tt

  session_next_moving : (s : SessionState) (reply : ℕ) → IsSessionMoving s → IsSessionMoving (session_next k s reply)
  session_next_moving s reply moving =
      let asks : ℕ = asks_after s.asks (is_word_ask (session_ask k s)) in
      next_moving (record s { asks = asks; effect = None }) s.step reply refl (counted_moving s asks s.step moving)

  given_moving : (s : SessionState) (step : Sitting) (action : Action) → s.step ≡ step → SittingMoving s step → IsSessionMoving (sitting_given k s step action)
  unfolding sitting_given
  given_moving s (Turns its) action at moving = turn_moving (record s { own_turn = own_turn_given s.own_turn action }) its _ at
  given_moving s (Idle its) action at moving = stays_moving s (Idle its) at moving
  given_moving s (Attempts has_shifted) action at moving = stays_moving s (Attempts has_shifted) at moving
  given_moving s (CatchesUp cause) action at moving = stays_moving s (CatchesUp cause) at moving
  given_moving s ClearsMail action at moving = stays_moving s ClearsMail at moving
  given_moving s (Polls index) action at moving = stays_moving s (Polls index) at moving
  given_moving s (StoresOwing index) action at moving = stays_moving s (StoresOwing index) at moving
  given_moving s StoresCut action at moving = stays_moving s StoresCut at moving
  given_moving s Leaves action at moving = stays_moving s Leaves at moving
  given_moving s LoadsDurable action at moving = stays_moving s LoadsDurable at moving

  session_given_moving : (s : SessionState) (action : Action) → IsSessionMoving s → IsSessionMoving (session_given k s action)
  session_given_moving s action moving = given_moving s s.step action refl moving

  -- a call
  called_moving : HoldsCalled SittingMoving
  called_moving = record { refreshes = λ s. refl; wakes = λ s. refl; clears = λ s. tt; cuts = λ s. tt; loads = λ s. tt }

  begins_moving : (s : SessionState) (busy : Bool) (its : Call) → IsSessionMoving s → IsSessionMoving (begins k s busy its)
  begins_moving s true its moving = moving
  begins_moving s false its moving = begun_holds k SittingMoving begun_moving called_moving s its

  happens_moving : (s : SessionState) (event : SessionEvent) → IsSessionMoving s → IsSessionMoving (session_happens k s event)
  unfolding session_happens
  happens_moving s (Begins its) moving = begins_moving s (is_busy s.step) its moving
  happens_moving s (Replies reply) moving = session_next_moving s reply moving
  happens_moving s (Gets action) moving = session_given_moving s action moving

  opened_moving : (s : SessionState) (step : Sitting) → is_busy step ≡ false → SittingMoving s step
  opened_moving s (Idle its) idle = tt
  opened_moving s step idle = cc

  -- at every moment of a session's run
  pub session_run_moving : (opening : SessionState) (events : List SessionEvent) → IsOpened opening → IsSessionMoving (session_run k opening events)
  unfolding session_run
  session_run_moving opening [] opened = opened_moving opening opening.step opened.none_in_hand
  session_run_moving opening (event ∷ before) opened = happens_moving (session_run k opening before) event (session_run_moving opening before opened)
