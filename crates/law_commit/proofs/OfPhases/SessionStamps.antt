-- Each event of a session keeps the stamps of its views, if the guard's loads go on with it.
use Rattle.std.proofs.Common.{◌≡◌, ℕ, List, refl, sym, ap, subst, true, false}
use Rattle.std.specs.Prelude.{Option, Some, None}
use Rattle.fkv_plane.specs.declared.actions.Action.{Action}
use Rattle.fkv_plane.specs.declared.asks.Ask.{Ask}
use Rattle.fkv_plane.specs.declared.asks.Ask.TheVariants.{Done}
use Rattle.fkv_plane.specs.Passing.{is_done}
use Rattle.fkv_epoch.specs.EpochWorld.{EpochMachine, Loads, epoch_of}
use Rattle.fkv_map.specs.declared.operations.Call.{Call}
use Rattle.law_refine.specs.Below.fkv_session.Catching.{Catching}
use Rattle.law_refine.specs.Below.fkv_session.Catching.TheVariants as catching
use Rattle.law_refine.specs.Below.fkv_session.CatchCause.{CatchCause}
use Rattle.law_refine.specs.Below.fkv_session.CatchCause.TheVariants.{Refreshes, Wakes, Shifts}
use Rattle.law_refine.specs.Below.fkv_session.Sitting.{Sitting}
use Rattle.law_refine.specs.Below.fkv_session.Sitting.TheVariants.{Idle, Attempts, CatchesUp, ClearsMail, Polls, StoresOwing, Turns, StoresCut, Leaves, LoadsDurable}
use Rattle.law_refine.specs.Below.fkv_session.CatchingUp.{catch_ask, catch_requests}
use Rattle.law_refine.specs.Below.fkv_session.Sessions.{SessionState, Seat, attempts, bits_of, caught, caught_up, catch_ledto, is_busy, sitting_given, sitting_next}
use Rattle.law_refine.specs.Below.fkv_session.SessionRun.{begins}
use Rattle.law_commit.specs.Phases.Stamped.{CatchStamped, IsOf, IsUnderWay, SessionStamped, SittingStamped, driven, force_by, loads_by}
use Rattle.law_commit.specs.Views.{Sight, View, loads_phase, sight_left, sight_moved, with_loaded}
use Rattle.law_commit.proofs.Goes.{BeginsToCatch, Goes, HasBegun, calm_goes, call_calm, given_on, moves_on}
use Rattle.law_commit.proofs.Sights.{IsPlain}
use Rattle.law_commit.proofs.OfPhases.CatchStamps.{asks_under_way, done_stamped, replies_keep}

-- the machine of the epochs that a session drives while it catches up
abbrev pub sitting_driven : SessionState → Sitting → Option EpochMachine
sitting_driven s (CatchesUp cause) = driven s.catching s.catching.step
sitting_driven s step = None

module _ (l f : Loads) where
  -- where it begins to catch up
  begun_stamped : (its : Sight) (a : SessionState) (step : Catching) → its.view.stamp ≡ f.phase → its.coming ≡ None → HasBegun a.seen a.catching step → CatchStamped its l f a.catching step × IsUnderWay step
  begun_stamped its a catching.Refreshes stamp none begun = let loads = begun.1 in ((begun.2, rw loads (stamp, none)), tt)
  begun_stamped its a catching.Protects stamp none begun = let loads = begun.1 in ((begun.2, rw loads none), tt)
  begun_stamped its a step stamp none begun = absurd begun

  step_stamped : (its : Sight) (a : SessionState) (step : Sitting) → its.view.stamp ≡ f.phase → its.coming ≡ None → BeginsToCatch a step → SittingStamped its l f a step
  step_stamped its a (CatchesUp cause) stamp none begins = begun_stamped its a a.catching.step stamp none begins
  step_stamped its a step stamp none begins = (stamp, none)

  goes_stamped : (its : Sight) (was : _) (n : ℕ) (a : SessionState) → (its.view.stamp ≡ f.phase) × (its.coming ≡ None) → Goes was n a → SessionStamped its l f a
  goes_stamped its was n a plain goes = step_stamped its a a.step plain.0 plain.1 goes.begins

  pub plain_stamped : (its : Sight) (s : SessionState) (step : Sitting) → IsPlain step → SittingStamped its l f s step → (its.view.stamp ≡ f.phase) × (its.coming ≡ None)
  plain_stamped its s (CatchesUp cause) plain stamped = absurd plain
  plain_stamped its s (Idle told) plain stamped = stamped
  plain_stamped its s (Attempts has_shifted) plain stamped = stamped
  plain_stamped its s ClearsMail plain stamped = stamped
  plain_stamped its s (Polls i) plain stamped = stamped
  plain_stamped its s (StoresOwing i) plain stamped = stamped
  plain_stamped its s (Turns told) plain stamped = stamped
  plain_stamped its s StoresCut plain stamped = stamped
  plain_stamped its s Leaves plain stamped = stamped
  plain_stamped its s LoadsDurable plain stamped = stamped

  -- once it has caught up, what was coming is its view
  through_stamped : (its : Sight) (a : SessionState) (coming : Option View) (step : Sitting) → IsPlain step → its.coming ≡ coming → IsOf coming f.phase → SittingStamped (sight_left step its) l f a step
  through_stamped its a None step plain e of = absurd of
  through_stamped its a (Some view) (CatchesUp cause) plain e of = absurd plain
  through_stamped its a (Some view) step plain e of = rw e (of, refl)

  caught_stamped : (its : Sight) (k : Seat) (s : SessionState) (cause : CatchCause) → IsOf its.coming f.phase → SessionStamped (sight_left (caught_up k s cause).step its) l f (caught_up k s cause)
  unfolding attempts
  caught_stamped its k s Refreshes of = through_stamped its (caught_up k s Refreshes) its.coming (caught_up k s Refreshes).step tt refl of
  caught_stamped its k s Wakes of = through_stamped its (caught_up k s Wakes) its.coming (caught_up k s Wakes).step tt refl of
  caught_stamped its k s Shifts of = through_stamped its (caught_up k s Shifts) its.coming (caught_up k s Shifts).step tt refl of

  left_stamped : (its : Sight) (k : Seat) (s : SessionState) (cause : CatchCause) (ask : Ask (Unit {0})) → s.step ≡ CatchesUp cause → CatchStamped its l f s.catching s.catching.step
      → catch_ask k.places k.number s.catching s.requests ≡ ask → SessionStamped (sight_left (catch_ledto k s cause ask).step its) l f (catch_ledto k s cause ask)
  unfolding catch_ledto
  left_stamped its k s cause (Done through) e stamped asks = caught_stamped its k (record s { seen = s.catching.seen }) cause (done_stamped k.places k.number its l f s.catching s.requests s.catching.step through stamped asks)
  left_stamped its k s cause ask e stamped asks = rw e (stamped, asks_under_way k.places k.number s.catching s.requests s.catching.step (ap is_done asks))

  still_stamped : (its : Sight) (s a : SessionState) → a ≡ s → SessionStamped its l f s → SessionStamped its l f a
  still_stamped its s a same stamped = subst (λ (x : SessionState). SessionStamped its l f x) (sym same) stamped

  -- the action of a slot
  pub given_stamped : (its : Sight) (k : Seat) (s : SessionState) (step : Sitting) (action : Action) → s.step ≡ step → SessionStamped its l f s → SessionStamped its l f (sitting_given k s step action)
  given_stamped its k s (Turns told) action e stamped =
      goes_stamped its s.seen s.serial _ (plain_stamped its s (Turns told) tt (subst (λ (x : Sitting). SittingStamped its l f s x) e stamped)) (calm_goes (given_on k s (Turns told) action e))
  given_stamped its k s (Idle told) action e stamped = still_stamped its s _ (given_on k s (Idle told) action e) stamped
  given_stamped its k s (Attempts has_shifted) action e stamped = still_stamped its s _ (given_on k s (Attempts has_shifted) action e) stamped
  given_stamped its k s (CatchesUp cause) action e stamped = still_stamped its s _ (given_on k s (CatchesUp cause) action e) stamped
  given_stamped its k s ClearsMail action e stamped = still_stamped its s _ (given_on k s ClearsMail action e) stamped
  given_stamped its k s (Polls i) action e stamped = still_stamped its s _ (given_on k s (Polls i) action e) stamped
  given_stamped its k s (StoresOwing i) action e stamped = still_stamped its s _ (given_on k s (StoresOwing i) action e) stamped
  given_stamped its k s StoresCut action e stamped = still_stamped its s _ (given_on k s StoresCut action e) stamped
  given_stamped its k s Leaves action e stamped = still_stamped its s _ (given_on k s Leaves action e) stamped
  given_stamped its k s LoadsDurable action e stamped = still_stamped its s _ (given_on k s LoadsDurable action e) stamped

  idle_plain : (step : Sitting) → is_busy step ≡ false → IsPlain step
  idle_plain (Idle told) idle = tt
  idle_plain step idle = cc

  -- a call that begins
  pub begins_stamped : (its : Sight) (k : Seat) (s : SessionState) (call : Call) (busy : _) → is_busy s.step ≡ busy → SessionStamped its l f s → SessionStamped its l f (begins k s busy call)
  begins_stamped its k s call true e stamped = stamped
  begins_stamped its k s call false e stamped =
      goes_stamped its s.seen s.serial _ (plain_stamped its s s.step (idle_plain s.step e) stamped) (calm_goes (call_calm k (record s { asks = 0; effect = None; wants_turn = false }) call))

-- a reply
catching_stamped : (words : List ℕ) (its : Sight) (l f : Loads) (k : Seat) (s : SessionState) (asks : ℕ) (cause : CatchCause) (reply : ℕ) → s.step ≡ CatchesUp cause → CatchStamped its l f s.catching s.catching.step
    → SessionStamped (sight_moved words s (CatchesUp cause) reply (sitting_next k (record s { asks = asks; effect = None }) (CatchesUp cause) reply).step its) (loads_by l (driven s.catching s.catching.step) (epoch_of words))
    (force_by l f (driven s.catching s.catching.step) (epoch_of words)) (sitting_next k (record s { asks = asks; effect = None }) (CatchesUp cause) reply)
unfolding sitting_next
catching_stamped words its l f k s asks cause reply e stamped =
    let t : SessionState = caught k (record s { asks = asks; effect = None }) reply in
    left_stamped (loads_by l (driven s.catching s.catching.step) (epoch_of words)) (force_by l f (driven s.catching s.catching.step) (epoch_of words)) (with_loaded words (loads_phase s.catching s.catching.step) reply its) k t cause
    (catch_ask k.places k.number t.catching t.requests) e (replies_keep words k.places (bits_of k) k.number its l f s.catching (catch_requests s.catching s.requests reply) reply stamped) refl

pub next_stamped : (words : List ℕ) (its : Sight) (l f : Loads) (k : Seat) (s : SessionState) (asks : ℕ) (step : Sitting) (reply : ℕ) → s.step ≡ step → SittingStamped its l f s step
    → SessionStamped (sight_moved words s step reply (sitting_next k (record s { asks = asks; effect = None }) step reply).step its) (loads_by l (sitting_driven s step) (epoch_of words)) (force_by l f (sitting_driven s step) (epoch_of words))
    (sitting_next k (record s { asks = asks; effect = None }) step reply)
next_stamped words its l f k s asks (CatchesUp cause) reply e stamped = catching_stamped words its l f k s asks cause reply e stamped.0
next_stamped words its l f k s asks (Attempts has_shifted) reply e stamped = goes_stamped l f its s.seen s.serial _ stamped (moves_on k s asks (Attempts has_shifted) reply e)
next_stamped words its l f k s asks (Idle told) reply e stamped = goes_stamped l f its s.seen s.serial _ stamped (calm_goes (moves_on k s asks (Idle told) reply e))
next_stamped words its l f k s asks ClearsMail reply e stamped = goes_stamped l f its s.seen s.serial _ stamped (calm_goes (moves_on k s asks ClearsMail reply e))
next_stamped words its l f k s asks (Polls i) reply e stamped = goes_stamped l f its s.seen s.serial _ stamped (calm_goes (moves_on k s asks (Polls i) reply e))
next_stamped words its l f k s asks (StoresOwing i) reply e stamped = goes_stamped l f its s.seen s.serial _ stamped (calm_goes (moves_on k s asks (StoresOwing i) reply e))
next_stamped words its l f k s asks (Turns told) reply e stamped = goes_stamped l f its s.seen s.serial _ stamped (calm_goes (moves_on k s asks (Turns told) reply e))
next_stamped words its l f k s asks StoresCut reply e stamped = goes_stamped l f its s.seen s.serial _ stamped (calm_goes (moves_on k s asks StoresCut reply e))
next_stamped words its l f k s asks Leaves reply e stamped = goes_stamped l f its s.seen s.serial _ stamped (calm_goes (moves_on k s asks Leaves reply e))
next_stamped words its l f k s asks LoadsDurable reply e stamped = goes_stamped l f its s.seen s.serial _ stamped (calm_goes (moves_on k s asks LoadsDurable reply e))
