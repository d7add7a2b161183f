-- What the guard's events do to a session's loads of the values by which it goes, and to the tails that it finds with the phase.
use Rattle.std.proofs.Common.{◌≡◌, ◌≢◌, ℕ, ◌∙◌, List, [], ◌∷◌, refl, arith, sym, ap, Bool, true, false}
use Rattle.std.specs.Prelude.{Option, Some, None, ◌==◌, if◌then◌else◌, slice_get}
use Rattle.std.proofs.lemmas.Bool.Decides.{nat_tests}
use Rattle.fkv_epoch.specs.declared.protecting.Protecting.TheVariants as protect
use Rattle.fkv_epoch.specs.declared.refreshing.Refreshing.TheVariants as refresh
use Rattle.fkv_epoch.specs.EpochWorld as epochs
use Rattle.fkv_epoch.specs.EpochWorld.{EpochMachine, EpochPast, Loads, Sight, epoch_of, in_force_by, is_at_rest, loaded, past_moved, past_seen, sight_of, with_load}
use Rattle.law_refine.specs.Below.fkv_flush.GuardCalm.{AreOther, IsOther}
use Rattle.law_refine.specs.Below.fkv_flush.GuardPhase.{PhaseTails, tail_loaded, tail_taken_up, tails_after, tails_in_force, tails_moved, tails_seen, with_tail}
use Rattle.law_refine.specs.Below.fkv_flush.GuardWorld.{Actor, GuardEvent, GuardWorld, Moves, Sees, Work, Shifts, Turns, drives_epochs, epoch_now, guard_happens, guard_run, is_idle, is_none, levels, machine_moved, sight_moved, shift_drives, turn_drives}
use Rattle.law_refine.specs.Below.fkv_flush.GuardWorld as guard
use Rattle.law_refine.specs.Below.fkv_log.TheShifting.{Shifting}
use Rattle.law_refine.specs.Below.fkv_log.TheShifting.TheVariants as shift
use Rattle.law_refine.specs.Below.fkv_log.TheTurning.{Turning}
use Rattle.law_refine.specs.Below.fkv_log.TheTurning.TheVariants as turn
use Rattle.law_commit.specs.Phases.Stamped.{force_by, loads_by}

-- the tails found with the phase, behind these events of the guard's world
unfoldable pub tails_through : GuardWorld → List GuardEvent → PhaseTails → PhaseTails
tails_through w [] t = t
tails_through w (event ∷ before) t = tails_after (guard_run w before).now event (tails_through w before t)

-- what an ask of this machine makes of the tail last found, and of the one in force
abbrev pub tail_by : ℕ → Option EpochMachine → ℕ → ℕ
tail_by last None tail = last
tail_by last (Some machine) tail = with_tail last (sight_of machine) tail

abbrev pub tail_force_by : ℕ → ℕ → Option EpochMachine → ℕ → ℕ
tail_force_by last goes_by None tail = goes_by
tail_force_by last goes_by (Some (epochs.Protects step)) tail = with_tail goes_by (sight_of (epochs.Protects step)) tail
tail_force_by last goes_by (Some (epochs.Refreshes (refresh.StoresEpoch stored))) tail = last
tail_force_by last goes_by (Some machine) tail = goes_by

abbrev pub tail_now : GuardWorld → ℕ
tail_now w = (levels w).tail

-- Behind these events the session's loads are those of before, behind an ask of this machine; and so are the tails that it found.
pub record LoadsBy (w : GuardWorld) (events : List GuardEvent) (session : ℕ) (driven : Option EpochMachine) : Type 0 where
  pub loads : (guard_run w events).past.loads session ≡ loads_by (w.past.loads session) driven (epoch_of w.now.words)
  pub in_force : (guard_run w events).past.in_force session ≡ force_by (w.past.loads session) (w.past.in_force session) driven (epoch_of w.now.words)
  pub last_tail : (t : PhaseTails) → (tails_through w events t).last session ≡ tail_by (t.last session) driven (tail_now w)
  pub tail_in_force : (t : PhaseTails) → (tails_through w events t).in_force session ≡ tail_force_by (t.last session) (t.in_force session) driven (tail_now w)

-- they stay
pub stay : (w : GuardWorld) (session : ℕ) → LoadsBy w [] session None
unfolding guard_run tails_through
stay w session = record { loads = refl; in_force = refl; last_tail = λ t. refl; tail_in_force = λ t. refl }

-- a machine that loads none of them, and stores no epoch
abbrev pub IsBlind : EpochMachine → Type 0
IsBlind (epochs.Protects protect.AtRest) = Unit {0}
IsBlind (epochs.Protects step) = ⊥
IsBlind (epochs.Refreshes refresh.AtRest) = Unit {0}
IsBlind (epochs.Refreshes step) = ⊥
IsBlind machine = Unit {0}

pub rest_blind : (machine : EpochMachine) → is_at_rest machine ≡ true → IsBlind machine
rest_blind (epochs.Protects protect.AtRest) rests = tt
rest_blind (epochs.Protects step) rests = cc
rest_blind (epochs.Refreshes refresh.AtRest) rests = tt
rest_blind (epochs.Refreshes step) rests = cc
rest_blind (epochs.Leaves step) rests = tt
rest_blind (epochs.Scans step) rests = tt
rest_blind (epochs.Claims step) rests = tt
rest_blind (epochs.Raises step) rests = tt
rest_blind (epochs.HasRaised slot epoch) rests = tt
rest_blind (epochs.Arms step) rests = tt

blind_loads : (machine : EpochMachine) (l : Loads) (epoch : ℕ) → IsBlind machine → loads_by l (Some machine) epoch ≡ l
blind_loads (epochs.Protects protect.AtRest) l epoch blind = refl
blind_loads (epochs.Protects step) l epoch blind = absurd blind
blind_loads (epochs.Refreshes refresh.AtRest) l epoch blind = refl
blind_loads (epochs.Refreshes step) l epoch blind = absurd blind
blind_loads (epochs.Leaves step) l epoch blind = refl
blind_loads (epochs.Scans step) l epoch blind = refl
blind_loads (epochs.Claims step) l epoch blind = refl
blind_loads (epochs.Raises step) l epoch blind = refl
blind_loads (epochs.HasRaised slot raised) l epoch blind = refl
blind_loads (epochs.Arms step) l epoch blind = refl

blind_force : (machine : EpochMachine) (l f : Loads) (epoch : ℕ) → IsBlind machine → force_by l f (Some machine) epoch ≡ f
blind_force (epochs.Protects protect.AtRest) l f epoch blind = refl
blind_force (epochs.Protects step) l f epoch blind = absurd blind
blind_force (epochs.Refreshes refresh.AtRest) l f epoch blind = refl
blind_force (epochs.Refreshes step) l f epoch blind = absurd blind
blind_force (epochs.Leaves step) l f epoch blind = refl
blind_force (epochs.Scans step) l f epoch blind = refl
blind_force (epochs.Claims step) l f epoch blind = refl
blind_force (epochs.Raises step) l f epoch blind = refl
blind_force (epochs.HasRaised slot raised) l f epoch blind = refl
blind_force (epochs.Arms step) l f epoch blind = refl

blind_tail : (machine : EpochMachine) (last tail : ℕ) → IsBlind machine → tail_by last (Some machine) tail ≡ last
blind_tail (epochs.Protects protect.AtRest) last tail blind = refl
blind_tail (epochs.Protects step) last tail blind = absurd blind
blind_tail (epochs.Refreshes refresh.AtRest) last tail blind = refl
blind_tail (epochs.Refreshes step) last tail blind = absurd blind
blind_tail (epochs.Leaves step) last tail blind = refl
blind_tail (epochs.Scans step) last tail blind = refl
blind_tail (epochs.Claims step) last tail blind = refl
blind_tail (epochs.Raises step) last tail blind = refl
blind_tail (epochs.HasRaised slot raised) last tail blind = refl
blind_tail (epochs.Arms step) last tail blind = refl

blind_tail_force : (machine : EpochMachine) (last goes_by tail : ℕ) → IsBlind machine → tail_force_by last goes_by (Some machine) tail ≡ goes_by
blind_tail_force (epochs.Protects protect.AtRest) last goes_by tail blind = refl
blind_tail_force (epochs.Protects step) last goes_by tail blind = absurd blind
blind_tail_force (epochs.Refreshes refresh.AtRest) last goes_by tail blind = refl
blind_tail_force (epochs.Refreshes step) last goes_by tail blind = absurd blind
blind_tail_force (epochs.Leaves step) last goes_by tail blind = refl
blind_tail_force (epochs.Scans step) last goes_by tail blind = refl
blind_tail_force (epochs.Claims step) last goes_by tail blind = refl
blind_tail_force (epochs.Raises step) last goes_by tail blind = refl
blind_tail_force (epochs.HasRaised slot raised) last goes_by tail blind = refl
blind_tail_force (epochs.Arms step) last goes_by tail blind = refl

-- ---- an ask of the session's own machine
own_load : (loads : ℕ → Loads) (session : ℕ) (sight : Option Sight) (epoch : ℕ) → loaded loads session sight epoch session ≡ with_load (loads session) sight epoch
own_load loads session sight epoch = let same : (session == session) ≡ true = grind (arith, nat_tests) in rw same refl

own_taken : (past : EpochPast) (session : ℕ) → epochs.taken_up past session session ≡ past.loads session
own_taken past session = let same : (session == session) ≡ true = grind (arith, nat_tests) in rw same refl

own_force : (past : EpochPast) (session epoch : ℕ) (machine : EpochMachine) → in_force_by past session epoch machine session ≡ force_by (past.loads session) (past.in_force session) (Some machine) epoch
own_force past session epoch (epochs.Protects protect.LoadsPhase) = own_load past.in_force session (Some epochs.OfPhase) epoch
own_force past session epoch (epochs.Protects (protect.LoadsReadOnly phase)) = own_load past.in_force session (Some epochs.OfReadOnly) epoch
own_force past session epoch (epochs.Protects (protect.LoadsHead phase read_only)) = own_load past.in_force session (Some epochs.OfHead) epoch
own_force past session epoch (epochs.Protects step) = refl
own_force past session epoch (epochs.Refreshes (refresh.StoresEpoch stored)) = own_taken past session
own_force past session epoch (epochs.Refreshes step) = refl
own_force past session epoch (epochs.Leaves step) = refl
own_force past session epoch (epochs.Scans step) = refl
own_force past session epoch (epochs.Claims step) = refl
own_force past session epoch (epochs.Raises step) = refl
own_force past session epoch (epochs.HasRaised slot raised) = refl
own_force past session epoch (epochs.Arms step) = refl

own_tail : (tails : ℕ → ℕ) (session : ℕ) (sight : Option Sight) (tail : ℕ) → tail_loaded tails session sight tail session ≡ with_tail (tails session) sight tail
own_tail tails session sight tail = let same : (session == session) ≡ true = grind (arith, nat_tests) in rw same refl

own_tail_taken : (t : PhaseTails) (session : ℕ) → tail_taken_up t session session ≡ t.last session
own_tail_taken t session = let same : (session == session) ≡ true = grind (arith, nat_tests) in rw same refl

own_tail_force : (t : PhaseTails) (session tail : ℕ) (machine : EpochMachine) → tails_in_force t session tail machine session ≡ tail_force_by (t.last session) (t.in_force session) (Some machine) tail
own_tail_force t session tail (epochs.Protects step) = own_tail t.in_force session (sight_of (epochs.Protects step)) tail
own_tail_force t session tail (epochs.Refreshes (refresh.StoresEpoch stored)) = own_tail_taken t session
own_tail_force t session tail (epochs.Refreshes step) = refl
own_tail_force t session tail (epochs.Leaves step) = refl
own_tail_force t session tail (epochs.Scans step) = refl
own_tail_force t session tail (epochs.Claims step) = refl
own_tail_force t session tail (epochs.Raises step) = refl
own_tail_force t session tail (epochs.HasRaised slot raised) = refl
own_tail_force t session tail (epochs.Arms step) = refl

pub own_moved : (w : GuardWorld) (session : ℕ) (x : Actor) → slice_get w.now.actors session ≡ Some x → drives_epochs x.work ≡ true → LoadsBy w (Moves session ∷ []) session (Some x.machine)
unfolding guard_run guard_happens tails_through
own_moved w session x got drives = record {
  loads = rw (got, drives) (own_load w.past.loads session (sight_of x.machine) (epoch_of w.now.words));
  in_force = rw (got, drives) (own_force w.past session (epoch_of w.now.words) x.machine);
  last_tail = λ t. rw (got, drives) (own_tail t.last session (sight_of x.machine) (tail_now w));
  tail_in_force = λ t. rw (got, drives) (own_tail_force t session (tail_now w) x.machine);
}

still_moved : (w : GuardWorld) (session : ℕ) (x : Actor) → slice_get w.now.actors session ≡ Some x → drives_epochs x.work ≡ false → LoadsBy w (Moves session ∷ []) session None
unfolding guard_run guard_happens tails_through
still_moved w session x got drives = record { loads = rw (got, drives) refl; in_force = rw (got, drives) refl; last_tail = λ t. rw (got, drives) refl; tail_in_force = λ t. rw (got, drives) refl }

-- of one that loads nothing
pub blind_moved : (w : GuardWorld) (session : ℕ) (x : Actor) → slice_get w.now.actors session ≡ Some x → IsBlind x.machine → LoadsBy w (Moves session ∷ []) session None
blind_moved w session x got blind = by_driven (drives_epochs x.work) refl
  where
    by_driven : (drives : Bool) → drives_epochs x.work ≡ drives → LoadsBy w (Moves session ∷ []) session None
    by_driven false e = still_moved w session x got e
    by_driven true e =
        let its = own_moved w session x got e in
        record {
          loads = its.loads ∙ blind_loads x.machine (w.past.loads session) (epoch_of w.now.words) blind;
          in_force = its.in_force ∙ blind_force x.machine (w.past.loads session) (w.past.in_force session) (epoch_of w.now.words) blind;
          last_tail = λ t. its.last_tail t ∙ blind_tail x.machine (t.last session) (tail_now w) blind;
          tail_in_force = λ t. its.tail_in_force t ∙ blind_tail_force x.machine (t.last session) (t.in_force session) (tail_now w) blind;
        }

pub idle_drives : (work : Work) → is_idle work ≡ true → drives_epochs work ≡ true
idle_drives (Shifts s) idle = shift_so s.step idle
  where
    shift_so : (step : Shifting) → guard.shift_rests step ≡ true → shift_drives step ≡ true
    shift_so (shift.Moves tail) rests = refl
    shift_so step rests = rests
idle_drives (Turns s) idle = turn_so s.step idle
  where
    turn_so : (step : Turning) → guard.turn_rests step ≡ true → turn_drives step ≡ true
    turn_so turn.Moves rests = refl
    turn_so step rests = rests
idle_drives work idle = idle

-- ---- an event of another actor
other_test : (a b : ℕ) → Some a ≢ Some b → (b == a) ≡ false
other_test a b other = by_test (b == a) refl
  where
    by_test : (test : Bool) → (b == a) ≡ test → test ≡ false
    by_test false e = refl
    by_test true e = absurd (other (ap Some (sym (grind (arith, nat_tests, e)))))

other_load : (loads : ℕ → Loads) (a b : ℕ) (sight : Option Sight) (epoch : ℕ) → (b == a) ≡ false → loaded loads a sight epoch b ≡ loads b
other_load loads a b sight epoch other = rw other refl

other_taken : (past : EpochPast) (a b : ℕ) → (b == a) ≡ false → epochs.taken_up past a b ≡ past.in_force b
other_taken past a b other = rw other refl

other_force : (past : EpochPast) (a b epoch : ℕ) (machine : EpochMachine) → (b == a) ≡ false → in_force_by past a epoch machine b ≡ past.in_force b
other_force past a b epoch (epochs.Protects protect.LoadsPhase) other = other_load past.in_force a b (Some epochs.OfPhase) epoch other
other_force past a b epoch (epochs.Protects (protect.LoadsReadOnly phase)) other = other_load past.in_force a b (Some epochs.OfReadOnly) epoch other
other_force past a b epoch (epochs.Protects (protect.LoadsHead phase read_only)) other = other_load past.in_force a b (Some epochs.OfHead) epoch other
other_force past a b epoch (epochs.Protects step) other = refl
other_force past a b epoch (epochs.Refreshes (refresh.StoresEpoch stored)) other = other_taken past a b other
other_force past a b epoch (epochs.Refreshes step) other = refl
other_force past a b epoch (epochs.Leaves step) other = refl
other_force past a b epoch (epochs.Scans step) other = refl
other_force past a b epoch (epochs.Claims step) other = refl
other_force past a b epoch (epochs.Raises step) other = refl
other_force past a b epoch (epochs.HasRaised slot raised) other = refl
other_force past a b epoch (epochs.Arms step) other = refl

other_tail : (tails : ℕ → ℕ) (a b : ℕ) (sight : Option Sight) (tail : ℕ) → (b == a) ≡ false → tail_loaded tails a sight tail b ≡ tails b
other_tail tails a b sight tail other = rw other refl

other_tail_taken : (t : PhaseTails) (a b : ℕ) → (b == a) ≡ false → tail_taken_up t a b ≡ t.in_force b
other_tail_taken t a b other = rw other refl

other_tail_force : (t : PhaseTails) (a b tail : ℕ) (machine : EpochMachine) → (b == a) ≡ false → tails_in_force t a tail machine b ≡ t.in_force b
other_tail_force t a b tail (epochs.Protects step) other = other_tail t.in_force a b (sight_of (epochs.Protects step)) tail other
other_tail_force t a b tail (epochs.Refreshes (refresh.StoresEpoch stored)) other = other_tail_taken t a b other
other_tail_force t a b tail (epochs.Refreshes step) other = refl
other_tail_force t a b tail (epochs.Leaves step) other = refl
other_tail_force t a b tail (epochs.Scans step) other = refl
other_tail_force t a b tail (epochs.Claims step) other = refl
other_tail_force t a b tail (epochs.Raises step) other = refl
other_tail_force t a b tail (epochs.HasRaised slot raised) other = refl
other_tail_force t a b tail (epochs.Arms step) other = refl

-- what is past has these loads of the session, and it found these tails
record HasLoads (past after : EpochPast) (t found : PhaseTails) (session : ℕ) : Type 0 where
  loads : after.loads session ≡ past.loads session
  in_force : after.in_force session ≡ past.in_force session
  last_tail : found.last session ≡ t.last session
  tail_in_force : found.in_force session ≡ t.in_force session

other_moves : (w : GuardWorld) (t : PhaseTails) (a b : ℕ) (found : Option Actor) → (b == a) ≡ false → HasLoads w.past (machine_moved w.now a w.past found) t (tails_moved w.now a t found) b
other_moves w t a b None other = record { loads = refl; in_force = refl; last_tail = refl; tail_in_force = refl }
other_moves w t a b (Some x) other = by_driven (drives_epochs x.work)
  where
    tails : PhaseTails
    tails = record { last = tail_loaded t.last a (sight_of x.machine) (tail_now w); in_force = tails_in_force t a (tail_now w) x.machine }

    by_driven : (drives : Bool) → HasLoads w.past (if drives then past_moved (epoch_now w.now) a w.past (Some x.machine) else w.past) t (if drives then tails else t) b
    by_driven false = record { loads = refl; in_force = refl; last_tail = refl; tail_in_force = refl }
    by_driven true = record {
      loads = other_load w.past.loads a b (sight_of x.machine) (epoch_of w.now.words) other;
      in_force = other_force w.past a b (epoch_of w.now.words) x.machine other;
      last_tail = other_tail t.last a b (sight_of x.machine) (tail_now w) other;
      tail_in_force = other_tail_force t a b (tail_now w) x.machine other;
    }

other_sees : (w : GuardWorld) (t : PhaseTails) (a b : ℕ) (sight : Sight) (found : Option Actor) → (b == a) ≡ false → HasLoads w.past (sight_moved w.now a sight w.past found) t (tails_seen w.now a sight t found) b
other_sees w t a b sight None other = record { loads = refl; in_force = refl; last_tail = refl; tail_in_force = refl }
other_sees w t a b sight (Some x) other = by_free (is_none x.undecided)
  where
    tails : PhaseTails
    tails = record { last = tail_loaded t.last a (Some sight) (tail_now w); in_force = tail_loaded t.in_force a (Some sight) (tail_now w) }

    by_free : (free : Bool) → HasLoads w.past (if free then past_seen (epoch_now w.now) a sight w.past (Some x.machine) else w.past) t (if free then tails else t) b
    by_free false = record { loads = refl; in_force = refl; last_tail = refl; tail_in_force = refl }
    by_free true = record {
      loads = other_load w.past.loads a b (Some sight) (epoch_of w.now.words) other;
      in_force = other_load w.past.in_force a b (Some sight) (epoch_of w.now.words) other;
      last_tail = other_tail t.last a b (Some sight) (tail_now w) other;
      tail_in_force = other_tail t.in_force a b (Some sight) (tail_now w) other;
    }

other_one : (w : GuardWorld) (t : PhaseTails) (event : GuardEvent) (b : ℕ) → IsOther event b → HasLoads w.past (guard_happens w event).past t (tails_after w.now event t) b
unfolding guard_happens
other_one w t (Moves a) b other = other_moves w t a b (slice_get w.now.actors a) (other_test a b other)
other_one w t (Sees a sight) b other = other_sees w t a b sight (slice_get w.now.actors a) (other_test a b other)
other_one w t event b other = record { loads = refl; in_force = refl; last_tail = refl; tail_in_force = refl }

other_runs : (w : GuardWorld) (t : PhaseTails) (events : List GuardEvent) (b : ℕ) → AreOther events b → HasLoads w.past (guard_run w events).past t (tails_through w events t) b
unfolding guard_run tails_through
other_runs w t [] b others = record { loads = refl; in_force = refl; last_tail = refl; tail_in_force = refl }
other_runs w t (event ∷ before) b others =
    let past = other_runs w t before b others.1 in
    let last = other_one (guard_run w before) (tails_through w before t) event b others.0 in
    record { loads = last.loads ∙ past.loads; in_force = last.in_force ∙ past.in_force; last_tail = last.last_tail ∙ past.last_tail; tail_in_force = last.tail_in_force ∙ past.tail_in_force }

-- tails of any kind: the loads don't hang on them
no_tails : PhaseTails
no_tails = record { last = λ session. 0; in_force = λ session. 0 }

pub others_stay : (w : GuardWorld) (events : List GuardEvent) (b : ℕ) → AreOther events b → LoadsBy w events b None
others_stay w events b others =
    let its = other_runs w no_tails events b others in
    record { loads = its.loads; in_force = its.in_force; last_tail = λ t. (other_runs w t events b others).last_tail; tail_in_force = λ t. (other_runs w t events b others).tail_in_force }
