-- Each view that a session goes by, or that is coming, was loaded behind the raise of each safe epoch.
use Rattle.std.proofs.Common.{◌≡◌, ℕ, ◌<◌, ◌≤◌, ◌∙◌, ◌⊎◌, inl, inr, List, refl, arith, ap, subst, Bool, true, false}
use Rattle.std.specs.Prelude.{Option, Some, None, if◌then◌else◌, slice_get}
use Rattle.fkv_epoch.specs.declared.protecting.Protecting.{Protecting}
use Rattle.fkv_epoch.specs.declared.protecting.Protecting.TheVariants as protect
use Rattle.fkv_epoch.specs.declared.refreshing.Refreshing.{Refreshing}
use Rattle.fkv_epoch.specs.declared.refreshing.Refreshing.TheVariants as refresh
use Rattle.fkv_epoch.specs.EpochWorld as epochs
use Rattle.fkv_epoch.specs.EpochWorld.{EpochMachine, Loads, OfPhase, own_epoch, safe_of}
use Rattle.fkv_epoch.specs.Once.{InForceSinceRaise, SeenSinceRaise, goes_by}
use Rattle.fkv_epoch.proofs.Shown.{is_protected}
use Rattle.fkv_epoch.specs.Protected.{is_protecting}
use Rattle.law_refine.specs.Below.fkv_flush.GuardWorld.{Actor, GuardWorld, epoch_world}
use Rattle.law_refine.specs.Below.fkv_flush.Guarded.{GoesBy}
use Rattle.law_refine.proofs.Below.fkv_flush.Shown.{Fits, FitsMachine, IsSound, machine_at}
use Rattle.law_refine.specs.Below.fkv_session.Catching.{Catching}
use Rattle.law_refine.specs.Below.fkv_session.Catching.TheVariants as catching
use Rattle.law_refine.specs.Below.fkv_session.Sitting.{Sitting}
use Rattle.law_refine.specs.Below.fkv_session.Sitting.TheVariants.{Idle, Attempts, CatchesUp, ClearsMail, Polls, StoresOwing, Turns, StoresCut, Leaves, LoadsDurable}
use Rattle.law_refine.specs.Below.fkv_session.CatchingUp.{CatchState}
use Rattle.law_refine.specs.Below.fkv_session.Sessions.{SessionState}
use Rattle.law_refine.specs.Below.fkv_world.Opened.{HasBecome}
use Rattle.law_refine.specs.Below.fkv_world.Runs.{World, run}
use Rattle.law_refine.specs.Below.fkv_world.World.{Event}
use Rattle.law_refine.proofs.Below.law_world.OfSessions.OwnRun.{of_run}
use Rattle.law_refine.specs.Below.law_world.Guarded.LoadedSince.{HaveLoadedSince}
use Rattle.law_refine.specs.Below.law_world.Guarded.Shows as guard
use Rattle.law_refine.specs.Below.law_world.Guarded.Shows.{seen_by_guard}
use Rattle.law_refine.specs.Below.law_world.GuardSessions.Catches.{catch_machine, held_machine, protect_machine, refresh_machine}
use Rattle.law_refine.specs.Below.law_world.GuardSessions.Sessions.{is_protected_at, is_protected_catching, sitting_likeness}
use Rattle.law_refine.proofs.Below.law_world.OfGuarded.LoadedSince.{life_safe_loaded}
use Rattle.law_refine.proofs.Below.law_world.OfGuarded.Worlds.{life_shows}
use Rattle.law_commit.specs.Phases.Stamped.{CatchStamped, HeldStamped, IsOf, IsUnderWay, ProtectStamped, RefreshStamped, SessionStamped, SittingStamped, is_live, is_live_at}
use Rattle.law_commit.specs.Views.{Sight, View, sight_found, sight_in, sight_of}
use Rattle.law_commit.proofs.OfPhases.GuardLoads.{IsBlind, rest_blind}
use Rattle.law_commit.proofs.OfPhases.LifeStamps.{life_stamped}
use Rattle.law_commit.proofs.OfPhases.SessionLoads.{fits_blind, sitting_blind}
use Rattle.law_commit.proofs.Sights.{IsPlain}

-- a machine that loads nothing goes by what was loaded
blind_goes : (machine : EpochMachine) → IsBlind machine → goes_by OfPhase machine ≡ true
blind_goes (epochs.Protects protect.AtRest) blind = refl
blind_goes (epochs.Protects step) blind = absurd blind
blind_goes (epochs.Refreshes step) blind = refl
blind_goes (epochs.Leaves step) blind = refl
blind_goes (epochs.Scans step) blind = refl
blind_goes (epochs.Claims step) blind = refl
blind_goes (epochs.Raises step) blind = refl
blind_goes (epochs.HasRaised slot epoch) blind = refl
blind_goes (epochs.Arms step) blind = refl

refresh_goes : (step : Refreshing) (machine : EpochMachine) → FitsMachine (refresh_machine step) machine → goes_by OfPhase machine ≡ true
refresh_goes refresh.AtRest machine fits = blind_goes machine (rest_blind machine fits)
refresh_goes step machine fits = ap (goes_by OfPhase) fits

held_goes : (c : CatchState) (is_refresh : Bool) (machine : EpochMachine) → c.is_refresh ≡ is_refresh → FitsMachine (held_machine c) machine → goes_by OfPhase machine ≡ true
held_goes c true machine e fits = refresh_goes c.refreshing machine (subst (λ (b : Bool). FitsMachine (if b then refresh_machine c.refreshing else None) machine) e fits)
held_goes c false machine e fits = blind_goes machine (rest_blind machine (subst (λ (b : Bool). FitsMachine (if b then refresh_machine c.refreshing else None) machine) e fits))

-- A stamp is that of this load of the phase, and the session goes by its phase.
pub record IsLoaded (w : GuardWorld) (session stamp phase : ℕ) : Type 0 where
  pub loaded : stamp ≡ phase
  pub goes : GoesBy w.now session OfPhase

-- it is that of its last load, or of the one in force
abbrev pub EitherLoaded : GuardWorld → ℕ → ℕ → Loads → Loads → Type 0
EitherLoaded w session stamp l f = IsLoaded w session stamp l.phase ⊎ IsLoaded w session stamp f.phase

-- by whatever values its sight is stamped
module _ (w : GuardWorld) (session : ℕ) (x : Actor) (sound : IsSound w) (got : slice_get w.now.actors session ≡ Some x) (below : session < w.now.places.sessions) (l f : Loads) where
  counts : 0 < own_epoch w.now.words session → goes_by OfPhase x.machine ≡ true → GoesBy w.now session OfPhase
  counts some goes = record { is_session = below; is_protected = some; machine = x.machine; its_machine = machine_at w.now.actors session x got; has_loaded = goes }

  -- ---- the view by which it goes
  refresh_view : (its : Sight) (step : Refreshing) → RefreshStamped its l f step → its.view.stamp ≡ f.phase
  refresh_view its refresh.LoadsEpoch stamped = stamped.0
  refresh_view its (refresh.LoadsPhase loaded) stamped = stamped.0
  refresh_view its (refresh.LoadsReadOnly loaded phase) stamped = stamped.1
  refresh_view its (refresh.LoadsHead loaded phase read_only) stamped = stamped.1
  refresh_view its refresh.AtRest stamped = absurd stamped
  refresh_view its (refresh.HasLoaded loaded values) stamped = absurd stamped
  refresh_view its (refresh.StoresEpoch stored) stamped = absurd stamped

  held_view : (its : Sight) (c : CatchState) → c.is_refresh ≡ true → HeldStamped its l f c c.is_refresh → its.view.stamp ≡ f.phase
  held_view its c refreshes held = let its_held = subst (λ (b : Bool). HeldStamped its l f c b) refreshes held in its_held.2

  catch_view : (its : Sight) (c : CatchState) (step : Catching) → c.is_refresh ≡ true → CatchStamped its l f c step → IsUnderWay step → its.view.stamp ≡ f.phase
  catch_view its c catching.Refreshes refreshes stamped under = refresh_view its c.refreshing stamped.1
  catch_view its c catching.Protects refreshes stamped under = let wakes = stamped.0 in cc
  catch_view its c catching.StoresCut refreshes stamped under = held_view its c refreshes stamped
  catch_view its c catching.StoresOwing refreshes stamped under = held_view its c refreshes stamped
  catch_view its c (catching.Latches index) refreshes stamped under = held_view its c refreshes stamped.0
  catch_view its c catching.Finishes refreshes stamped under = stamped.2
  catch_view its c catching.Ended refreshes stamped under = absurd under

  catch_goes : (c : CatchState) (step : Catching) → c.is_refresh ≡ true → (its : Sight) → CatchStamped its l f c step → IsUnderWay step → FitsMachine (catch_machine c step) x.machine → goes_by OfPhase x.machine ≡ true
  catch_goes c catching.Refreshes refreshes its stamped under fits = refresh_goes c.refreshing x.machine fits
  catch_goes c catching.Protects refreshes its stamped under fits = let wakes = stamped.0 in cc
  catch_goes c catching.StoresCut refreshes its stamped under fits = held_goes c c.is_refresh x.machine refl fits
  catch_goes c catching.StoresOwing refreshes its stamped under fits = held_goes c c.is_refresh x.machine refl fits
  catch_goes c (catching.Latches index) refreshes its stamped under fits = held_goes c c.is_refresh x.machine refl fits
  catch_goes c catching.Finishes refreshes its stamped under fits = refresh_goes c.refreshing x.machine fits
  catch_goes c catching.Ended refreshes its stamped under fits = absurd under

  catch_protected : (c : CatchState) (step : Catching) (its : Sight) → c.is_refresh ≡ true → CatchStamped its l f c step → is_protected_catching step ≡ true
  catch_protected c catching.Protects its refreshes stamped = let wakes = stamped.0 in cc
  catch_protected c catching.Refreshes its refreshes stamped = refl
  catch_protected c step its refreshes stamped = refl

  caught_view : (its : Sight) (c : CatchState) → c.is_refresh ≡ true → FitsMachine (catch_machine c c.step) x.machine → (is_protected_catching c.step ≡ true → 0 < own_epoch w.now.words session)
      → CatchStamped its l f c c.step × IsUnderWay c.step → IsLoaded w session its.view.stamp f.phase
  caught_view its c refreshes fits protects stamped = record {
    loaded = catch_view its c c.step refreshes stamped.0 stamped.1;
    goes = counts (protects (catch_protected c c.step its refreshes stamped.0)) (catch_goes c c.step refreshes its stamped.0 stamped.1 fits);
  }

  plain_view : (its : Sight) (s : SessionState) (step : Sitting) → IsPlain step → Fits (sitting_likeness s step) x → 0 < own_epoch w.now.words session → its.view.stamp ≡ f.phase → IsLoaded w session its.view.stamp f.phase
  plain_view its s step plain fits some stamp = record { loaded = stamp; goes = counts some (blind_goes x.machine (fits_blind (sitting_likeness s step).machine x.machine fits.machine (sitting_blind s step plain))) }

  pub view_loaded : (its : Sight) (s : SessionState) (step : Sitting) → Fits (sitting_likeness s step) x → (is_protected_at s step ≡ true → 0 < own_epoch w.now.words session) → SittingStamped its l f s step → is_live_at s step ≡ true
      → IsLoaded w session its.view.stamp f.phase
  view_loaded its s (CatchesUp cause) fits protects stamped live = caught_view its s.catching live fits.machine protects stamped
  view_loaded its s (Idle told) fits protects stamped live = plain_view its s (Idle told) tt fits (protects live) stamped.0
  view_loaded its s LoadsDurable fits protects stamped live = plain_view its s LoadsDurable tt fits (protects live) stamped.0
  view_loaded its s (Attempts has_shifted) fits protects stamped live = plain_view its s (Attempts has_shifted) tt fits (protects refl) stamped.0
  view_loaded its s ClearsMail fits protects stamped live = plain_view its s ClearsMail tt fits (protects refl) stamped.0
  view_loaded its s (Polls i) fits protects stamped live = plain_view its s (Polls i) tt fits (protects refl) stamped.0
  view_loaded its s (StoresOwing i) fits protects stamped live = plain_view its s (StoresOwing i) tt fits (protects refl) stamped.0
  view_loaded its s (Turns told) fits protects stamped live = plain_view its s (Turns told) tt fits (protects refl) stamped.0
  view_loaded its s StoresCut fits protects stamped live = plain_view its s StoresCut tt fits (protects refl) stamped.0
  view_loaded its s Leaves fits protects stamped live = plain_view its s Leaves tt fits (protects refl) stamped.0

  -- ---- the view that is coming
  abbrev Loaded : View → Type 0
  Loaded view = EitherLoaded w session view.stamp l f

  coming_last : (its : Sight) (view : View) → its.coming ≡ Some view → IsOf its.coming l.phase → 0 < own_epoch w.now.words session → goes_by OfPhase x.machine ≡ true → Loaded view
  coming_last its view comes of some goes = inl (record { loaded = subst (λ (v : Option View). IsOf v l.phase) comes of; goes = counts some goes })

  coming_in_force : (its : Sight) (view : View) → its.coming ≡ Some view → IsOf its.coming f.phase → 0 < own_epoch w.now.words session → goes_by OfPhase x.machine ≡ true → Loaded view
  coming_in_force its view comes of some goes = inr (record { loaded = subst (λ (v : Option View). IsOf v f.phase) comes of; goes = counts some goes })

  none_comes : (its : Sight) (view : View) → its.coming ≡ Some view → its.coming ≡ None → Loaded view
  none_comes its view comes none = cc

  refresh_coming : (its : Sight) (view : View) (step : Refreshing) → its.coming ≡ Some view → 0 < own_epoch w.now.words session → FitsMachine (refresh_machine step) x.machine → RefreshStamped its l f step → Loaded view
  refresh_coming its view refresh.LoadsEpoch comes some fits stamped = none_comes its view comes stamped.1
  refresh_coming its view (refresh.LoadsPhase loaded) comes some fits stamped = none_comes its view comes stamped.1
  refresh_coming its view (refresh.LoadsReadOnly loaded phase) comes some fits stamped = coming_last its view comes stamped.0 some (refresh_goes (refresh.LoadsReadOnly loaded phase) x.machine fits)
  refresh_coming its view (refresh.LoadsHead loaded phase read_only) comes some fits stamped = coming_last its view comes stamped.0 some (refresh_goes (refresh.LoadsHead loaded phase read_only) x.machine fits)
  refresh_coming its view refresh.AtRest comes some fits stamped = absurd stamped
  refresh_coming its view (refresh.HasLoaded loaded values) comes some fits stamped = absurd stamped
  refresh_coming its view (refresh.StoresEpoch stored) comes some fits stamped = absurd stamped

  protected_at : (step : Protecting) → x.machine ≡ epochs.Protects step → is_protecting (epochs.Protects step) ≡ true → 0 < own_epoch w.now.words session
  protected_at step same its = is_protected (epoch_world w) sound.epochs session (epochs.Protects step) below (machine_at w.now.actors session x got ∙ ap Some same) its

  protect_coming : (its : Sight) (view : View) (step : Protecting) → its.coming ≡ Some view → FitsMachine (protect_machine step) x.machine → ProtectStamped its l f step → Loaded view
  protect_coming its view protect.LoadsEpoch comes fits stamped = none_comes its view comes stamped
  protect_coming its view (protect.StoresEpoch stored) comes fits stamped = none_comes its view comes stamped
  protect_coming its view protect.LoadsPhase comes fits stamped = none_comes its view comes stamped
  protect_coming its view (protect.LoadsReadOnly phase) comes fits stamped =
      coming_in_force its view comes stamped.1 (protected_at (protect.LoadsReadOnly phase) fits refl) (ap (goes_by OfPhase) fits)
  protect_coming its view (protect.LoadsHead phase read_only) comes fits stamped =
      coming_in_force its view comes stamped.1 (protected_at (protect.LoadsHead phase read_only) fits refl) (ap (goes_by OfPhase) fits)
  protect_coming its view protect.AtRest comes fits stamped = absurd stamped

  held_coming : (its : Sight) (view : View) (c : CatchState) (is_refresh : Bool) → c.is_refresh ≡ is_refresh → its.coming ≡ Some view → 0 < own_epoch w.now.words session → FitsMachine (held_machine c) x.machine → HeldStamped its l f c is_refresh → Loaded view
  held_coming its view c true e comes some fits stamped = coming_last its view comes stamped.1 some (held_goes c true x.machine e fits)
  held_coming its view c false e comes some fits stamped = coming_in_force its view comes stamped some (held_goes c false x.machine e fits)

  catch_coming : (its : Sight) (view : View) (c : CatchState) (step : Catching) → its.coming ≡ Some view → FitsMachine (catch_machine c step) x.machine → (is_protected_catching step ≡ true → 0 < own_epoch w.now.words session)
      → CatchStamped its l f c step → IsUnderWay step → Loaded view
  catch_coming its view c catching.Refreshes comes fits protects stamped under = refresh_coming its view c.refreshing comes (protects refl) fits stamped.1
  catch_coming its view c catching.Protects comes fits protects stamped under = protect_coming its view c.protecting comes fits stamped.1
  catch_coming its view c catching.StoresCut comes fits protects stamped under = held_coming its view c c.is_refresh refl comes (protects refl) fits stamped
  catch_coming its view c catching.StoresOwing comes fits protects stamped under = held_coming its view c c.is_refresh refl comes (protects refl) fits stamped
  catch_coming its view c (catching.Latches index) comes fits protects stamped under = held_coming its view c c.is_refresh refl comes (protects refl) fits stamped.0
  catch_coming its view c catching.Finishes comes fits protects stamped under = coming_last its view comes stamped.1 (protects refl) (refresh_goes c.refreshing x.machine fits)
  catch_coming its view c catching.Ended comes fits protects stamped under = absurd under

  pub coming_loaded : (its : Sight) (view : View) (s : SessionState) (step : Sitting) → its.coming ≡ Some view → Fits (sitting_likeness s step) x → (is_protected_at s step ≡ true → 0 < own_epoch w.now.words session)
      → SittingStamped its l f s step → Loaded view
  coming_loaded its view s (CatchesUp cause) comes fits protects stamped = catch_coming its view s.catching s.catching.step comes fits.machine protects stamped.0 stamped.1
  coming_loaded its view s (Idle told) comes fits protects stamped = none_comes its view comes stamped.1
  coming_loaded its view s (Attempts has_shifted) comes fits protects stamped = none_comes its view comes stamped.1
  coming_loaded its view s ClearsMail comes fits protects stamped = none_comes its view comes stamped.1
  coming_loaded its view s (Polls i) comes fits protects stamped = none_comes its view comes stamped.1
  coming_loaded its view s (StoresOwing i) comes fits protects stamped = none_comes its view comes stamped.1
  coming_loaded its view s (Turns told) comes fits protects stamped = none_comes its view comes stamped.1
  coming_loaded its view s StoresCut comes fits protects stamped = none_comes its view comes stamped.1
  coming_loaded its view s Leaves comes fits protects stamped = none_comes its view comes stamped.1
  coming_loaded its view s LoadsDurable comes fits protects stamped = none_comes its view comes stamped.1

-- ---- over a life
-- each stamp of a load since the raise of an epoch is above it
force_above : (w : GuardWorld) (session epoch stamp : ℕ) → HaveLoadedSince w epoch → IsLoaded w session stamp (w.past.in_force session).phase → epoch < stamp
unfolding InForceSinceRaise
force_above w session epoch stamp since is = let high : epoch < (w.past.in_force session).phase = since.1 session OfPhase is.goes in let same = is.loaded in omega (arith, high, same)

last_above : (w : GuardWorld) (session epoch stamp : ℕ) → HaveLoadedSince w epoch → IsLoaded w session stamp (w.past.loads session).phase → epoch < stamp
unfolding SeenSinceRaise
last_above w session epoch stamp since is = let high : epoch < (w.past.loads session).phase = since.0 session OfPhase is.goes in let same = is.loaded in omega (arith, high, same)

either_above : (w : GuardWorld) (session epoch stamp : ℕ) → HaveLoadedSince w epoch → EitherLoaded w session stamp (w.past.loads session) (w.past.in_force session) → epoch < stamp
either_above w session epoch stamp since (inl is) = last_above w session epoch stamp since is
either_above w session epoch stamp since (inr is) = force_above w session epoch stamp since is

pub found_so : (opening : World) (events : List Event) (session : ℕ) (first : SessionState) → slice_get opening.now.sessions session ≡ Some first → sight_of opening events session ≡ sight_in opening session first events
found_so opening events session first found = ap (sight_found opening events session) found

pub session_stamped : (opening : World) (start : ℕ) (events : List Event) (session : ℕ) (first its : SessionState) → guard.IsOpened opening.now start → HasBecome opening events session first its
    → SessionStamped (sight_of opening events session) ((seen_by_guard opening start events).past.loads session) ((seen_by_guard opening start events).past.in_force session) its
session_stamped opening start events session first its opened became =
    rw (found_so opening events session first became.was)
    (of_run (λ (s : SessionState). SessionStamped (sight_in opening session first events) ((seen_by_guard opening start events).past.loads session) ((seen_by_guard opening start events).past.in_force session) s) opening events session first its became
    (life_stamped opening start session first events opened became.was))

pub safe_view : (opening : World) (start : ℕ) (events : List Event) (session : ℕ) (first its : SessionState) (epoch : ℕ) → guard.IsOpened opening.now start → HasBecome opening events session first its
    → is_live its ≡ true → epoch ≤ safe_of (run opening events).now.words → epoch < (sight_of opening events session).view.stamp
safe_view opening start events session first its epoch opened became live safe =
    let w : GuardWorld = seen_by_guard opening start events in
    let seat = (life_shows opening start events opened).sessions session its became.is_now in
    force_above w session epoch _ (life_safe_loaded opening start events epoch opened safe)
    (view_loaded w session seat.actor seat.sits.sound seat.sits.got seat.sits.below (w.past.loads session) (w.past.in_force session) (sight_of opening events session) its its.step seat.sits.fits seat.sits.protected
    (session_stamped opening start events session first its opened became) live)

pub safe_coming : (opening : World) (start : ℕ) (events : List Event) (session : ℕ) (first its : SessionState) (epoch : ℕ) (view : View) → guard.IsOpened opening.now start → HasBecome opening events session first its
    → (sight_of opening events session).coming ≡ Some view → epoch ≤ safe_of (run opening events).now.words → epoch < view.stamp
safe_coming opening start events session first its epoch view opened became comes safe =
    let w : GuardWorld = seen_by_guard opening start events in
    let seat = (life_shows opening start events opened).sessions session its became.is_now in
    either_above w session epoch _ (life_safe_loaded opening start events epoch opened safe)
    (coming_loaded w session seat.actor seat.sits.sound seat.sits.got seat.sits.below (w.past.loads session) (w.past.in_force session) (sight_of opening events session) view its its.step comes seat.sits.fits seat.sits.protected
    (session_stamped opening start events session first its opened became))
