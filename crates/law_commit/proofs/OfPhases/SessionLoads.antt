-- What a session's events are to the guard: of its own loads they do what its machine does, and of another session's nothing.
use Rattle.std.proofs.Common.{◌≡◌, ◌≢◌, ℕ, List, [], ◌∷◌, ◌++◌, refl, sym, subst, Bool, true, false}
use Rattle.std.specs.Prelude.{Option, Some, None, ◌==◌, if◌then◌else◌, slice_get}
use Rattle.fkv_plane.specs.declared.asks.Ask.{Ask}
use Rattle.fkv_plane.specs.declared.asks.Ask.TheVariants.{Done}
use Rattle.fkv_plane.specs.declared.places.Places.{Places}
use Rattle.fkv_plane.specs.declared.places.RecordWord.TheVariants as rec
use Rattle.fkv_plane.specs.Asked.{asked, reply_to, word_at}
use Rattle.fkv_plane.specs.Places.{record_place}
use Rattle.fkv_plane.specs.Passing.{is_done}
use Rattle.fkv_epoch.specs.declared.arming.Arming.{Arming}
use Rattle.fkv_epoch.specs.declared.claiming.Claiming.{Claiming}
use Rattle.fkv_epoch.specs.declared.claiming.Claiming.TheVariants as claim
use Rattle.fkv_epoch.specs.declared.leaving.Leaving.{Leaving}
use Rattle.fkv_epoch.specs.declared.leaving.Leaving.TheVariants as leave
use Rattle.fkv_epoch.specs.declared.protecting.Protecting.{Protecting}
use Rattle.fkv_epoch.specs.declared.protecting.Protecting.TheVariants as protect
use Rattle.fkv_epoch.specs.declared.raising.Raising.{Raising}
use Rattle.fkv_epoch.specs.declared.refreshing.Refreshing.{Refreshing}
use Rattle.fkv_epoch.specs.declared.refreshing.Refreshing.TheVariants as refresh
use Rattle.fkv_epoch.specs.declared.scanning.Scanning.{Scanning}
use Rattle.fkv_epoch.specs.declared.scanning.Scanning.TheVariants as scan
use Rattle.fkv_epoch.specs.EpochWorld as epochs
use Rattle.fkv_epoch.specs.EpochWorld.{EpochMachine, is_at_rest}
use Rattle.law_refine.specs.Below.fkv_flush.GuardAsks.{writes}
use Rattle.law_refine.specs.Below.fkv_flush.GuardCalm.{AreOther}
use Rattle.law_refine.specs.Below.fkv_flush.GuardSeen.{LastSeen}
use Rattle.law_refine.specs.Below.fkv_flush.GuardWorld as guard
use Rattle.law_refine.specs.Below.fkv_flush.GuardWorld.{Actor, GuardEvent, GuardWorld, Moves, guard_happens, guard_run, is_idle}
use Rattle.law_refine.proofs.Below.fkv_flush.Shown.{Fits, FitsMachine}
use Rattle.fkv_index.specs.declared.publishing.Publishing.{Publishing}
use Rattle.fkv_index.specs.declared.publishing.Publishing.TheVariants.{SwapsEntry}
use Rattle.law_refine.specs.Below.fkv_log.TheMoving.{Moving}
use Rattle.law_refine.specs.Below.fkv_log.TheMoving.TheVariants as move
use Rattle.law_refine.specs.Below.fkv_log.ReserveAnswer.{ReserveAnswer}
use Rattle.law_refine.specs.Below.fkv_log.ReserveAnswer.TheVariants.{Reserved}
use Rattle.law_refine.specs.Below.fkv_log.TheShifting.{Shifting}
use Rattle.law_refine.specs.Below.fkv_log.TheShifting.TheVariants as shift
use Rattle.law_refine.specs.Below.fkv_log.Moving.{Mover}
use Rattle.law_refine.specs.Below.fkv_log.Reserving.{reserve_next_ask}
use Rattle.law_refine.specs.Below.fkv_ops.Appending.{AppendState}
use Rattle.law_refine.specs.Below.fkv_ops.Trying.{TryState}
use Rattle.law_refine.specs.Below.fkv_ops.TheAppending.{Appending}
use Rattle.law_refine.specs.Below.fkv_ops.TheAppending.TheVariants as appending
use Rattle.law_refine.specs.Below.fkv_ops.TheTrying.{Trying}
use Rattle.law_refine.specs.Below.fkv_ops.TheTrying.TheVariants.{Appends, ChangesValue, SwapsValue}
use Rattle.law_refine.specs.Below.fkv_pending.Attempting.{AttemptState}
use Rattle.law_refine.specs.Below.fkv_pending.TheAttempting.{Attempting}
use Rattle.law_refine.specs.Below.fkv_pending.TheAttempting.TheVariants.{Tries}
use Rattle.law_refine.specs.Below.fkv_session.Catching.{Catching}
use Rattle.law_refine.specs.Below.fkv_session.Catching.TheVariants as catching
use Rattle.law_refine.specs.Below.fkv_session.OwnTurning.{OwnTurning}
use Rattle.law_refine.specs.Below.fkv_session.OwnTurning.TheVariants as turning
use Rattle.law_refine.specs.Below.fkv_session.Sitting.{Sitting}
use Rattle.law_refine.specs.Below.fkv_session.Sitting.TheVariants.{Attempts, CatchesUp, Leaves, Polls, Turns}
use Rattle.law_refine.specs.Below.fkv_session.CatchingUp.{CatchState}
use Rattle.law_refine.specs.Below.fkv_session.OwnTurns.{OwnTurnState}
use Rattle.law_refine.specs.Below.fkv_session.Sessions.{Seat, SessionState, room_of, session_ask}
use Rattle.law_refine.specs.Below.law_world.GuardSessions.Attempts.{attempt_events, attempt_likeness_at}
use Rattle.law_refine.specs.Below.law_world.GuardSessions.Catches.{catch_events, catch_machine, protect_machine, refresh_machine}
use Rattle.law_refine.specs.Below.law_world.GuardSessions.OwnTurns.{claim_machine, moving_machine, own_turn_likeness_at, scan_machine, shift_machine}
use Rattle.law_refine.specs.Below.law_world.GuardSessions.Sessions.{leave_machine, session_guard_events, called_guard_events, session_likeness, sitting_events, sitting_likeness, sitting_onward}
use Rattle.law_refine.specs.Below.law_world.GuardSessions.Steps.{GoesOn, Onward, Starts, Stays, changed_at, onward_events, outer_events}
use Rattle.law_refine.specs.Below.law_world.GuardSessions.Tries.{append_events, is_for_entry, publish_events, reserved_events, try_events, try_likeness_at}
use Rattle.law_commit.specs.Phases.Stamped.{driven}
use Rattle.law_commit.proofs.OfPhases.GuardLoads.{IsBlind, LoadsBy, blind_moved, idle_drives, own_moved, rest_blind, stay, tails_through}
use Rattle.law_commit.proofs.OfPhases.SessionStamps.{sitting_driven}
use Rattle.law_commit.proofs.Sights.{IsPlain}

-- ---- they are none of another session
module _ (a b : ℕ) (other : Some a ≢ Some b) where
  onward_other : (its : Onward) (events : List GuardEvent) → AreOther events b → AreOther (onward_events a its ++ events) b
  onward_other Stays events others = others
  onward_other (Starts task) events others = (other, others)
  onward_other GoesOn events others = (other, others)

  only_onward : (its : Onward) → AreOther (onward_events a its) b
  only_onward Stays = tt
  only_onward (Starts task) = (other, tt)
  only_onward GoesOn = (other, tt)

  changed_other : (words : List ℕ) (at : Option ℕ) (f : ℕ → ℕ) → AreOther (changed_at a words at f) b
  changed_other words None f = tt
  changed_other words (Some place) f = (other, tt)

  outer_other : {A : Type 0} (words : List ℕ) (ask : Ask A) → AreOther (outer_events a words ask) b
  outer_other words ask = changed_other words (writes ask) (asked ask)

  either_other : (test : Bool) (xs ys : List GuardEvent) → AreOther xs b → AreOther ys b → AreOther (if test then xs else ys) b
  either_other true xs ys one two = one
  either_other false xs ys one two = two

  reserved_other : (s : AppendState) (ask : Ask ReserveAnswer) → AreOther (reserved_events a s ask) b
  reserved_other s (Done (Reserved addr)) = either_other (is_for_entry s addr) _ _ (other, tt) (other, (other, tt))
  reserved_other s ask = (other, tt)

  published_other : {A : Type 0} (words : List ℕ) (step : Publishing) (ask : Ask A) → AreOther (publish_events a words step ask) b
  published_other words (SwapsEntry place word entry) ask = either_other (word_at words place == word) _ _ (other, outer_other words ask) (outer_other words ask)
  published_other words step ask = outer_other words ask

  appended_other : {A : Type 0} (room : ℕ) (words : List ℕ) (s : AppendState) (step : Appending) (ask : Ask A) → AreOther (append_events a room words s step ask) b
  appended_other room words s appending.Reserves ask = reserved_other s (reserve_next_ask room s.reserving (reply_to words ask))
  appended_other room words s (appending.Fills addr) ask = (other, tt)
  appended_other room words s (appending.Publishes addr) ask = published_other words s.publishing ask
  appended_other room words s appending.Invalidates ask = (other, tt)
  appended_other room words s step ask = outer_other words ask

  tried_other : {A : Type 0} (room : ℕ) (words : List ℕ) (p : Places) (t : TryState) (step : Trying) (ask : Ask A) → AreOther (try_events a room words p t step ask) b
  tried_other room words p t (SwapsValue addr) ask = (other, tt)
  tried_other room words p t (ChangesValue addr old) ask = either_other (word_at words (record_place p addr.0 rec.Value) == old) _ _ (other, tt) tt
  tried_other room words p t (Appends its) ask = appended_other room words t.append t.append.step ask
  tried_other room words p t step ask = outer_other words ask

  attempted_other : {A : Type 0} (room : ℕ) (words : List ℕ) (p : Places) (s : AttemptState) (step : Attempting) (ask : Ask A) → AreOther (attempt_events a room words p s step ask) b
  attempted_other room words p s Tries ask = tried_other room words p s.trial s.trial.step ask
  attempted_other room words p s step ask = outer_other words ask

  caught_other : {A : Type 0} (words : List ℕ) (step : Catching) (ask : Ask A) → AreOther (catch_events a words step ask) b
  caught_other words catching.Refreshes ask = (other, tt)
  caught_other words catching.Protects ask = (other, tt)
  caught_other words catching.Finishes ask = (other, tt)
  caught_other words step ask = outer_other words ask

sat_other : {A : Type 0} (k : Seat) (words : List ℕ) (s : SessionState) (step : Sitting) (ask : Ask A) (b : ℕ) → Some k.number ≢ Some b → AreOther (sitting_events k words s step ask) b
sat_other k words s (Attempts has_shifted) ask b other = attempted_other k.number b other (room_of k) words k.places s.attempt s.attempt.step ask
sat_other k words s (Polls index) ask b other = attempted_other k.number b other (room_of k) words k.places s.attempt s.attempt.step ask
sat_other k words s (CatchesUp cause) ask b other = caught_other k.number b other words s.catching.step ask
sat_other k words s (Turns its) ask b other = (other, tt)
sat_other k words s Leaves ask b other = (other, tt)
sat_other k words s step ask b other = outer_other k.number b other words ask

pub session_other : (k : Seat) (words : List ℕ) (s after : SessionState) (b : ℕ) → Some k.number ≢ Some b → AreOther (session_guard_events k words s after) b
session_other k words s after b other =
    either_other k.number b other (is_done (session_ask k s)) [] _ tt (onward_other k.number b other (sitting_onward after after.step) _ (sat_other k words s s.step (session_ask k s) b other))

pub called_other : (k : Seat) (after : SessionState) (b : ℕ) → Some k.number ≢ Some b → AreOther (called_guard_events k after) b
called_other k after b other = only_onward k.number b other (sitting_onward after after.step)

-- ---- what a session begins or lets go on changes no loads
pub onward_loads : (w : GuardWorld) (a b : ℕ) (its : Onward) (events : List GuardEvent) (machine : Option EpochMachine) → LoadsBy w events b machine → LoadsBy w (onward_events a its ++ events) b machine
unfolding guard_run guard_happens tails_through
onward_loads w a b Stays events machine loads = loads
onward_loads w a b (Starts task) events machine loads = record { loads = loads.loads; in_force = loads.in_force; last_tail = loads.last_tail; tail_in_force = loads.tail_in_force }
onward_loads w a b GoesOn events machine loads = record { loads = loads.loads; in_force = loads.in_force; last_tail = loads.last_tail; tail_in_force = loads.tail_in_force }

pub called_loads : (w : GuardWorld) (k : Seat) (after : SessionState) (b : ℕ) → LoadsBy w (called_guard_events k after) b None
unfolding guard_run guard_happens tails_through
called_loads w k after b = by_onward (sitting_onward after after.step)
  where
    by_onward : (its : Onward) → LoadsBy w (onward_events k.number its) b None
    by_onward Stays = stay w b
    by_onward (Starts task) = record { loads = refl; in_force = refl; last_tail = λ t. refl; tail_in_force = λ t. refl }
    by_onward GoesOn = record { loads = refl; in_force = refl; last_tail = λ t. refl; tail_in_force = λ t. refl }

-- ---- where it doesn't catch up, its machine loads none of them
abbrev pub BlindOf : Option EpochMachine → Type 0
BlindOf None = Unit {0}
BlindOf (Some machine) = IsBlind machine

pub fits_blind : (shown : Option EpochMachine) (machine : EpochMachine) → FitsMachine shown machine → BlindOf shown → IsBlind machine
fits_blind None machine rests blind = rest_blind machine rests
fits_blind (Some its) machine same blind = subst IsBlind (sym same) blind

scan_blind : (step : Scanning) → BlindOf (scan_machine step)
scan_blind scan.AtRest = tt
scan_blind step = tt

claim_blind : (step : Claiming) → BlindOf (claim_machine step)
claim_blind claim.AtRest = tt
claim_blind step = tt

moving_blind : (step : Moving) (raising : Raising) (arming : Arming) → BlindOf (moving_machine step raising arming)
moving_blind move.AtRest raising arming = tt
moving_blind (move.Raises target) raising arming = tt
moving_blind (move.MovesOffset target) raising arming = tt
moving_blind (move.Puts target slot) raising arming = tt
moving_blind move.Arms raising arming = tt

shift_blind : (step : Shifting) (m : Mover) → BlindOf (shift_machine step m)
shift_blind (shift.Moves tail) m = moving_blind m.step m.raising m.arming
shift_blind step m = tt

turn_blind : (seen : LastSeen) (o : OwnTurnState) (step : OwnTurning) → BlindOf (own_turn_likeness_at seen o step).machine
turn_blind seen o turning.Ended = tt
turn_blind seen o turning.Scans = scan_blind o.scanning
turn_blind seen o turning.Claims = claim_blind o.claiming
turn_blind seen o turning.Shifts = shift_blind o.shift.step o.shift.mover
turn_blind seen o turning.Opens = tt

try_blind : (seen : LastSeen) (t : TryState) (step : Trying) → BlindOf (try_likeness_at seen t step).machine
try_blind seen t (Appends its) = tt
try_blind seen t step = tt

attempt_blind : (seen : LastSeen) (s : AttemptState) (step : Attempting) → BlindOf (attempt_likeness_at seen s step).machine
attempt_blind seen s Tries = try_blind seen s.trial s.trial.step
attempt_blind seen s step = tt

leave_blind : (step : Leaving) → BlindOf (leave_machine step)
leave_blind leave.AtRest = tt
leave_blind step = tt

pub sitting_blind : (s : SessionState) (step : Sitting) → IsPlain step → BlindOf (sitting_likeness s step).machine
sitting_blind s (Attempts has_shifted) plain = attempt_blind _ s.attempt s.attempt.step
sitting_blind s (Polls index) plain = attempt_blind _ s.attempt s.attempt.step
sitting_blind s (CatchesUp cause) plain = absurd plain
sitting_blind s (Turns its) plain = turn_blind _ s.own_turn s.own_turn.step
sitting_blind s Leaves plain = leave_blind s.leaving
sitting_blind s step plain = tt

module _ (w : GuardWorld) (a : ℕ) (x : Actor) (got : slice_get w.now.actors a ≡ Some x) where
  abbrev Stay : List GuardEvent → Type 0
  Stay events = LoadsBy w events a None

  changed_stay : (words : List ℕ) (at : Option ℕ) (f : ℕ → ℕ) → Stay (changed_at a words at f)
  unfolding guard_run guard_happens tails_through
  changed_stay words None f = stay w a
  changed_stay words (Some place) f = record { loads = refl; in_force = refl; last_tail = λ t. refl; tail_in_force = λ t. refl }

  outer_stay : {A : Type 0} (words : List ℕ) (ask : Ask A) → Stay (outer_events a words ask)
  outer_stay words ask = changed_stay words (writes ask) (asked ask)

  either_stay : (test : Bool) (xs ys : List GuardEvent) → Stay xs → Stay ys → Stay (if test then xs else ys)
  either_stay true xs ys one two = one
  either_stay false xs ys one two = two

  published_too : (events : List GuardEvent) → Stay events → Stay (guard.Publishes a ∷ events)
  unfolding guard_run guard_happens tails_through
  published_too events its = record { loads = its.loads; in_force = its.in_force; last_tail = its.last_tail; tail_in_force = its.tail_in_force }

  updated_stay : (addr word : ℕ) → Stay (guard.Updates a addr word ∷ [])
  unfolding guard_run guard_happens tails_through
  updated_stay addr word = record { loads = refl; in_force = refl; last_tail = λ t. refl; tail_in_force = λ t. refl }

  none_stay : Stay []
  none_stay = stay w a

  module _ (blind : IsBlind x.machine) where
    moved_stay : Stay (Moves a ∷ [])
    moved_stay = blind_moved w a x got blind

    reserved_stay : (s : AppendState) (ask : Ask ReserveAnswer) → Stay (reserved_events a s ask)
    reserved_stay s (Done (Reserved addr)) = either_stay (is_for_entry s addr) _ _ moved_stay (published_too _ moved_stay)
    reserved_stay s ask = moved_stay

    published_stay : {A : Type 0} (words : List ℕ) (step : Publishing) (ask : Ask A) → Stay (publish_events a words step ask)
    published_stay words (SwapsEntry place word entry) ask = either_stay (word_at words place == word) _ _ (published_too _ (outer_stay words ask)) (outer_stay words ask)
    published_stay words step ask = outer_stay words ask

    appended_stay : {A : Type 0} (room : ℕ) (words : List ℕ) (s : AppendState) (step : Appending) (ask : Ask A) → Stay (append_events a room words s step ask)
    appended_stay room words s appending.Reserves ask = reserved_stay s (reserve_next_ask room s.reserving (reply_to words ask))
    appended_stay room words s (appending.Fills addr) ask = moved_stay
    appended_stay room words s (appending.Publishes addr) ask = published_stay words s.publishing ask
    appended_stay room words s appending.Invalidates ask = moved_stay
    appended_stay room words s step ask = outer_stay words ask

    tried_stay : {A : Type 0} (room : ℕ) (words : List ℕ) (p : Places) (t : TryState) (step : Trying) (ask : Ask A) → Stay (try_events a room words p t step ask)
    tried_stay room words p t (SwapsValue addr) ask = updated_stay addr.0 _
    tried_stay room words p t (ChangesValue addr old) ask = either_stay (word_at words (record_place p addr.0 rec.Value) == old) _ _ (updated_stay addr.0 _) none_stay
    tried_stay room words p t (Appends its) ask = appended_stay room words t.append t.append.step ask
    tried_stay room words p t step ask = outer_stay words ask

    attempted_stay : {A : Type 0} (room : ℕ) (words : List ℕ) (p : Places) (s : AttemptState) (step : Attempting) (ask : Ask A) → Stay (attempt_events a room words p s step ask)
    attempted_stay room words p s Tries ask = tried_stay room words p s.trial s.trial.step ask
    attempted_stay room words p s step ask = outer_stay words ask

  -- ---- and where it catches up, it is that of the refresh or the wake
  resting_stay : is_at_rest x.machine ≡ true → LoadsBy w (Moves a ∷ []) a None
  resting_stay rests = blind_moved w a x got (rest_blind x.machine rests)

  driven_by : (machine : EpochMachine) → is_idle x.work ≡ true → x.machine ≡ machine → LoadsBy w (Moves a ∷ []) a (Some machine)
  driven_by machine idle same = subst (λ (m : EpochMachine). LoadsBy w (Moves a ∷ []) a (Some m)) same (own_moved w a x got (idle_drives x.work idle))

  refresh_loads : (step : Refreshing) → is_idle x.work ≡ true → FitsMachine (refresh_machine step) x.machine → LoadsBy w (Moves a ∷ []) a (Some (epochs.Refreshes step))
  refresh_loads refresh.AtRest idle fits = let its = resting_stay fits in record { loads = its.loads; in_force = its.in_force; last_tail = its.last_tail; tail_in_force = its.tail_in_force }
  refresh_loads step idle fits = driven_by (epochs.Refreshes step) idle fits

  protect_loads : (step : Protecting) → is_idle x.work ≡ true → FitsMachine (protect_machine step) x.machine → LoadsBy w (Moves a ∷ []) a (Some (epochs.Protects step))
  protect_loads protect.AtRest idle fits = let its = resting_stay fits in record { loads = its.loads; in_force = its.in_force; last_tail = its.last_tail; tail_in_force = its.tail_in_force }
  protect_loads step idle fits = driven_by (epochs.Protects step) idle fits

  catch_loads : {A : Type 0} (words : List ℕ) (c : CatchState) (step : Catching) (ask : Ask A) → is_idle x.work ≡ true → FitsMachine (catch_machine c step) x.machine → LoadsBy w (catch_events a words step ask) a (driven c step)
  catch_loads words c catching.Refreshes ask idle fits = refresh_loads c.refreshing idle fits
  catch_loads words c catching.Protects ask idle fits = protect_loads c.protecting idle fits
  catch_loads words c catching.Finishes ask idle fits = refresh_loads c.refreshing idle fits
  catch_loads words c step ask idle fits = outer_stay words ask

sat_loads : {A : Type 0} (w : GuardWorld) (k : Seat) (words : List ℕ) (x : Actor) (s : SessionState) (step : Sitting) (ask : Ask A) → slice_get w.now.actors k.number ≡ Some x → Fits (sitting_likeness s step) x
    → LoadsBy w (sitting_events k words s step ask) k.number (sitting_driven s step)
sat_loads w k words x s (Attempts has_shifted) ask got fits =
    attempted_stay w k.number x got (fits_blind _ x.machine fits.machine (sitting_blind s (Attempts has_shifted) tt)) (room_of k) words k.places s.attempt s.attempt.step ask
sat_loads w k words x s (Polls index) ask got fits =
    attempted_stay w k.number x got (fits_blind _ x.machine fits.machine (sitting_blind s (Polls index) tt)) (room_of k) words k.places s.attempt s.attempt.step ask
sat_loads w k words x s (CatchesUp cause) ask got fits = catch_loads w k.number x got words s.catching s.catching.step ask fits.work fits.machine
sat_loads w k words x s (Turns its) ask got fits = moved_stay w k.number x got (fits_blind _ x.machine fits.machine (sitting_blind s (Turns its) tt))
sat_loads w k words x s Leaves ask got fits = moved_stay w k.number x got (fits_blind _ x.machine fits.machine (sitting_blind s Leaves tt))
sat_loads w k words x s step ask got fits = outer_stay w k.number x got words ask

-- a session's own step
pub session_loads : (w : GuardWorld) (k : Seat) (words : List ℕ) (x : Actor) (s after : SessionState) → slice_get w.now.actors k.number ≡ Some x → Fits (session_likeness s) x → is_done (session_ask k s) ≡ false
    → LoadsBy w (session_guard_events k words s after) k.number (sitting_driven s s.step)
session_loads w k words x s after got fits asks =
    rw asks (onward_loads w k.number k.number (sitting_onward after after.step) (sitting_events k words s s.step (session_ask k s)) (sitting_driven s s.step) (sat_loads w k words x s s.step (session_ask k s) got fits))
