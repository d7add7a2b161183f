-- Over a life the tails of each session's views are those that the guard's run found with the phase.
use Rattle.std.proofs.Common.{◌≡◌, ℕ, ◌≤◌, ◌∙◌, inl, inr, List, [], ◌∷◌, ◌++◌, refl, arith, sym, ap, subst, Bool, true, false}
use Rattle.std.specs.Prelude.{Option, Some, None, slice_get}
use Rattle.fkv_base.specs.declared.shapes.Shape.{Shape}
use Rattle.fkv_epoch.specs.declared.refreshing.Refreshing.TheVariants as refresh
use Rattle.fkv_epoch.specs.EpochWorld as epochs
use Rattle.fkv_epoch.specs.EpochWorld.{EpochMachine, Loads, sight_of, with_load}
use Rattle.law_refine.specs.Below.fkv_flush.GuardPhase.{KeepsTails, PhaseTails, phase_tails, tails_after, with_tail}
use Rattle.law_refine.specs.Below.fkv_flush.GuardWorld.{GuardEvent, GuardWorld, guard_run, levels}
use Rattle.law_refine.specs.Below.fkv_flush.Guarded as flush
use Rattle.law_refine.specs.Below.fkv_log.Reserved.{tail_of}
use Rattle.fkv_plane.specs.declared.places.Places.{Places}
use Rattle.fkv_plane.specs.declared.places.SharedWord.TheVariants as one
use Rattle.fkv_plane.specs.Asked.{word_at}
use Rattle.fkv_plane.specs.Places.{shared_place}
use Rattle.law_refine.specs.Below.fkv_session.Sitting.{Sitting}
use Rattle.law_refine.specs.Below.fkv_session.Sitting.TheVariants.{CatchesUp, Idle}
use Rattle.law_refine.specs.Below.fkv_session.Sessions.{Seat, SessionState, is_busy}
use Rattle.law_refine.specs.Below.fkv_session.SessionRun.{Begins, Gets, Replies, SessionEvent, session_happens, session_run}
use Rattle.fkv_words.specs.declared.phase_words.PhaseSaid.{PhaseSaid}
use Rattle.fkv_words.specs.declared.phase_words.PhaseSaid.TheVariants.{Says, Spoiled}
use Rattle.fkv_words.specs.PhaseWords.{phase_said}
use Rattle.law_refine.specs.Below.fkv_world.Opened.{HasBecome}
use Rattle.law_refine.specs.Below.fkv_world.OwnEvents.{session_events, session_part_of}
use Rattle.law_refine.specs.Below.fkv_world.Runs.{World, read_by_keeper, run}
use Rattle.law_refine.specs.Below.fkv_world.World.{Event, Now, seat_at}
use Rattle.law_refine.proofs.Below.fkv_world.Shown.{same_seat, session_runs, session_runs_on}
use Rattle.law_refine.proofs.Below.law_world.OfSessions.OwnRun.{of_run}
use Rattle.law_refine.specs.Below.law_world.Guarded.GuardEvents.{actor_count, guard_events, mapped}
use Rattle.law_refine.specs.Below.law_world.Guarded.Shows as guard
use Rattle.law_refine.specs.Below.law_world.Guarded.Shows.{Shows, guard_opening, seen_by_guard}
use Rattle.law_refine.proofs.Below.law_world.OfGuarded.Worlds.{life_shows, runs_on}
use Rattle.law_refine.specs.Events.GhostEvents.{safe_at}
use Rattle.law_commit.specs.Phases.Stamped.{SessionStamped, SittingStamped, force_by, loads_by}
use Rattle.law_commit.specs.Views.{Sight, View, completed, loads_phase, sight_by, sight_in, sight_left, sight_moved, sight_opened, sight_through, view_said, with_loaded}
use Rattle.law_commit.specs.Views as views
use Rattle.law_commit.proofs.OfPhases.Awake.{life_live}
use Rattle.law_commit.proofs.OfPhases.GuardLoads.{tail_by, tail_force_by, tail_now, tails_through}
use Rattle.law_commit.proofs.OfPhases.LifeStamps.{IsStamping, event_behind}
use Rattle.law_commit.proofs.OfPhases.SafeSeen.{EitherLoaded, IsLoaded, coming_loaded, found_so, view_loaded}

-- ---- a sight whose stamps are its tails
abbrev tail_stamped : View → View
tail_stamped its = record its { stamp = its.tail }

abbrev coming_tail_stamped : Option View → Option View
coming_tail_stamped None = None
coming_tail_stamped (Some view) = Some (tail_stamped view)

abbrev by_tails : Sight → Sight
by_tails its = record { view = tail_stamped its.view; coming = coming_tail_stamped its.coming }

-- words where the epoch reads as the tail does
abbrev tail_words : ℕ → List ℕ
tail_words tail = tail ∷ tail ∷ tail ∷ tail ∷ []

-- it moves as a sight does where such words stand
module _ (words : List ℕ) where
  abbrev alike : List ℕ
  alike = tail_words (tail_of words)

  said_alike : (before : View) (said : PhaseSaid) → tail_stamped (view_said words before said) ≡ view_said alike (tail_stamped before) said
  said_alike before Spoiled = refl
  said_alike before (Says phase version) = refl

  loaded_alike : (its : Sight) (loads : Bool) (reply : ℕ) → by_tails (with_loaded words loads reply its) ≡ with_loaded alike loads reply (by_tails its)
  loaded_alike its true reply = ap (λ (v : View). record { view = tail_stamped its.view; coming = Some v }) (said_alike its.view (phase_said reply))
  loaded_alike its false reply = refl

  completed_alike : (coming : Option View) (its : Sight) → by_tails (completed coming its) ≡ completed (coming_tail_stamped coming) (by_tails its)
  completed_alike None its = refl
  completed_alike (Some view) its = refl

  left_alike : (step : Sitting) (its : Sight) → by_tails (sight_left step its) ≡ sight_left step (by_tails its)
  left_alike (CatchesUp cause) its = refl
  left_alike step its = completed_alike its.coming its

  moved_alike : (s : SessionState) (step : Sitting) (reply : ℕ) (next : Sitting) (its : Sight) → by_tails (sight_moved words s step reply next its) ≡ sight_moved alike s step reply next (by_tails its)
  moved_alike s (CatchesUp cause) reply next its =
      let loads : Bool = loads_phase s.catching s.catching.step in
      left_alike next (with_loaded words loads reply its) ∙ ap (sight_left next) (loaded_alike its loads reply)
  moved_alike s step reply next its = refl

  by_alike : (k : Seat) (s : SessionState) (event : SessionEvent) (its : Sight) → by_tails (sight_by words k s event its) ≡ sight_by alike k s event (by_tails its)
  by_alike k s (Replies reply) its = moved_alike s s.step reply (session_happens k s (Replies reply)).step its
  by_alike k s (Begins call) its = refl
  by_alike k s (Gets action) its = refl

  through_alike : (k : Seat) (s : SessionState) (events : List SessionEvent) (its : Sight) → by_tails (sight_through words k s events its) ≡ sight_through alike k s events (by_tails its)
  unfolding sight_through
  through_alike k s [] its = refl
  through_alike k s (event ∷ before) its =
      by_alike k (session_run k s before) event (sight_through words k s before its) ∙ ap (sight_by alike k (session_run k s before) event) (through_alike k s before its)

-- ---- the tails of the loads, where tails stand for epochs
load_phase : (l : Loads) (sight : Option epochs.Sight) (tail : ℕ) → (with_load l sight tail).phase ≡ with_tail l.phase sight tail
load_phase l None tail = refl
load_phase l (Some epochs.OfPhase) tail = refl
load_phase l (Some epochs.OfReadOnly) tail = refl
load_phase l (Some epochs.OfHead) tail = refl

last_phase : (l : Loads) (machine : Option EpochMachine) (tail : ℕ) → (loads_by l machine tail).phase ≡ tail_by l.phase machine tail
last_phase l None tail = refl
last_phase l (Some machine) tail = load_phase l (sight_of machine) tail

force_phase : (l f : Loads) (machine : Option EpochMachine) (tail : ℕ) → (force_by l f machine tail).phase ≡ tail_force_by l.phase f.phase machine tail
force_phase l f None tail = refl
force_phase l f (Some (epochs.Protects step)) tail = load_phase f (sight_of (epochs.Protects step)) tail
force_phase l f (Some (epochs.Refreshes (refresh.StoresEpoch stored))) tail = refl
force_phase l f (Some machine) tail = refl

-- The session's tails are stamps by loads whose values of the phase are the tails that it found.
record HasTails (its : Sight) (t : PhaseTails) (session : ℕ) (s : SessionState) : Type 0 where
  l : Loads
  f : Loads
  stamped : SessionStamped (by_tails its) l f s
  last : l.phase ≡ t.last session
  in_force : f.phase ≡ t.in_force session

-- ---- one event
tails_by : (n : Now) (w : GuardWorld) (t : PhaseTails) (its : Sight) (session : ℕ) (k : Seat) (s : SessionState) → w.now.words ≡ n.words → (own : List SessionEvent) (events : List GuardEvent) → IsStamping w events session k s own
    → HasTails its t session s → HasTails (sight_through n.words k s own its) (tails_through w events t) session (session_run k s own)
tails_by n w t its session k s words own events one tails =
    let tail : ℕ = tail_of n.words in
    let same : tail_now w ≡ tail = ap tail_of words in
    let moved = one.through (tail_words tail) (by_tails its) tails.l tails.f tails.stamped in
    record {
      l = loads_by tails.l one.machine tail;
      f = force_by tails.l tails.f one.machine tail;
      stamped = subst (λ (x : Sight). SessionStamped x (loads_by tails.l one.machine tail) (force_by tails.l tails.f one.machine tail) (session_run k s own)) (sym (through_alike n.words k s own its)) moved;
      last = rw (one.loads.last_tail t, same, sym tails.last) (last_phase tails.l one.machine tail);
      in_force = rw (one.loads.tail_in_force t, same, sym tails.last, sym tails.in_force) (force_phase tails.l tails.f one.machine tail);
    }

-- ---- and a life
tails_on : (first : GuardWorld) (later before : List GuardEvent) → phase_tails first (later ++ before) ≡ tails_through (guard_run first before) later (phase_tails first before)
unfolding phase_tails tails_through
tails_on first [] before = refl
tails_on first (event ∷ later) before =
    ap (λ (w : GuardWorld). tails_after w.now event (phase_tails first (later ++ before))) (runs_on first later before)
    ∙ ap (tails_after (guard_run (guard_run first before) later).now event) (tails_on first later before)

abbrev opened_loads : ℕ → Loads
opened_loads tail = record { phase = tail; read_only = tail; head = tail }

opened_at : (n : Now) (first : SessionState) (step : Sitting) → is_busy step ≡ false → SittingStamped (by_tails (sight_opened n first)) (opened_loads (tail_of n.words)) (opened_loads (tail_of n.words)) first step
opened_at n first (Idle told) idle = (refl, refl)
opened_at n first step idle = cc

abbrev tails_of : World → ℕ → List Event → PhaseTails
tails_of opening start events = phase_tails (guard_opening opening.now start) (mapped opening events)

life_tails : (opening : World) (start session : ℕ) (first : SessionState) (events : List Event) → guard.IsOpened opening.now start → slice_get opening.now.sessions session ≡ Some first
    → HasTails (sight_in opening session first events) (tails_of opening start events) session (session_run (seat_at opening.now session) first (session_events opening session events))
unfolding sight_in session_events session_run mapped phase_tails
life_tails opening start session first [] opened found = record {
  l = opened_loads (tail_of opening.now.words);
  f = opened_loads (tail_of opening.now.words);
  stamped = opened_at opening.now first first.step (opened.sessions session first found).none_in_hand;
  last = refl;
  in_force = refl;
}
life_tails opening start session first (event ∷ before) opened found =
    let now : Now = (run opening before).now in
    let read : List ℕ = read_by_keeper (run opening before) in
    let w : GuardWorld = seen_by_guard opening start before in
    let s : SessionState = session_run (seat_at opening.now session) first (session_events opening session before) in
    let part : List SessionEvent = session_part_of now session event in
    let its : Sight = sight_in opening session first before in
    let shows = life_shows opening start before opened in
    let one = event_behind now w session s shows (session_runs opening session first before found) read event in
    let seated = subst (λ (k : Seat). IsStamping w (guard_events now read event) session k s part) (same_seat opening before session) one in
    let last = tails_by now w (tails_of opening start before) its session (seat_at opening.now session) s shows.words part (guard_events now read event) seated (life_tails opening start session first before opened found) in
    let joined = sym (session_runs_on (seat_at opening.now session) first part (session_events opening session before)) in
    subst (λ (x : SessionState). HasTails (sight_in opening session first (event ∷ before)) (tails_of opening start (event ∷ before)) session x) joined
    (subst (λ (t : PhaseTails). HasTails (sight_in opening session first (event ∷ before)) t session (session_run (seat_at opening.now session) s part)) (sym (tails_on (guard_opening opening.now start) (guard_events now read event) (mapped opening before))) last)

session_tails : (opening : World) (start : ℕ) (events : List Event) (session : ℕ) (first its : SessionState) → guard.IsOpened opening.now start → HasBecome opening events session first its
    → HasTails (views.sight_of opening events session) (tails_of opening start events) session its
session_tails opening start events session first its opened became =
    rw (found_so opening events session first became.was)
    (of_run (λ (s : SessionState). HasTails (sight_in opening session first events) (tails_of opening start events) session s) opening events session first its became (life_tails opening start session first events opened became.was))

-- ---- what the guard's law says of them
abbrev pub TailsAreKept : Type 0
TailsAreKept =
    (shape : Shape) (places : Places) (actors : ℕ) (words : List ℕ) (start : ℕ) (events : List GuardEvent) → flush.IsOpened shape places actors words start
    → KeepsTails (guard_run (flush.opening shape places actors words start) events) (phase_tails (flush.opening shape places actors words start) events)

module _ (kept : TailsAreKept) (opening : World) (start : ℕ) (events : List Event) (session : ℕ) (first its : SessionState) (opened : guard.IsOpened opening.now start) (became : HasBecome opening events session first its) where
  abbrev w : GuardWorld
  w = seen_by_guard opening start events

  abbrev sight : Sight
  sight = views.sight_of opening events session

  keeps : KeepsTails w (tails_of opening start events)
  keeps = kept opening.now.shape opening.now.places (actor_count opening.now) opening.now.words start (mapped opening events) opened.words

  shows : Shows (run opening events).now w
  shows = life_shows opening start events opened

  same_safe : (levels w).safe_read_only ≡ safe_at (run opening events).now
  same_safe = ap (λ (words : List ℕ). word_at words (shared_place one.SafeReadOnly)) shows.words

  tails : HasTails sight (tails_of opening start events) session its
  tails = session_tails opening start events session first its opened became

  -- of a load in force, and of the last one
  force_below : (tail : ℕ) → IsLoaded w session tail tails.f.phase → safe_at (run opening events).now ≤ tail
  force_below tail is =
      let low = keeps.safe session is.goes in
      let loaded = is.loaded in
      let found = tails.in_force in
      omega (arith, low, loaded, found, same_safe)

  last_below : (tail : ℕ) → IsLoaded w session tail tails.l.phase → safe_at (run opening events).now ≤ tail
  last_below tail is =
      let low = keeps.safe session is.goes in
      let later = keeps.in_force session in
      let loaded = is.loaded in
      let found = tails.last in
      omega (arith, low, later, loaded, found, same_safe)

  either_below : (tail : ℕ) → EitherLoaded w session tail tails.l tails.f → safe_at (run opening events).now ≤ tail
  either_below tail (inl is) = last_below tail is
  either_below tail (inr is) = force_below tail is

  pub safe_below_view : its.is_awake ≡ true → safe_at (run opening events).now ≤ sight.view.tail
  safe_below_view awake =
      let seat = shows.sessions session its became.is_now in
      force_below sight.view.tail (view_loaded w session seat.actor seat.sits.sound seat.sits.got seat.sits.below tails.l tails.f (by_tails sight) its its.step seat.sits.fits seat.sits.protected tails.stamped (life_live opening events session first its became ∙ awake))

  pub safe_below_coming : (view : View) → sight.coming ≡ Some view → safe_at (run opening events).now ≤ view.tail
  safe_below_coming view comes =
      let seat = shows.sessions session its became.is_now in
      either_below view.tail
      (coming_loaded w session seat.actor seat.sits.sound seat.sits.got seat.sits.below tails.l tails.f (by_tails sight) (tail_stamped view) its its.step (ap coming_tail_stamped comes) seat.sits.fits seat.sits.protected tails.stamped)
