-- Every event keeps the world sound.
use Rattle.std.proofs.Common.{◌≡◌, ℕ, ◌≤◌, refl, arith, inl, Bool, true, false}
use Rattle.std.specs.Prelude.{Option, Some, None, slice_get, ◌==◌, ◌&&◌, not, nat_lt, if◌then◌else◌}
use Rattle.std.proofs.lemmas.Bool.Decides.{nat_tests}
use Rattle.fkv_epoch.specs.declared.protecting.Protecting.TheVariants as protect
use Rattle.fkv_epoch.specs.declared.refreshing.Refreshing.{Refreshing}
use Rattle.fkv_epoch.specs.declared.refreshing.Refreshing.TheVariants as refresh
use Rattle.fkv_epoch.specs.declared.leaving.Leaving.TheVariants as leave
use Rattle.fkv_epoch.specs.declared.scanning.Scanning.TheVariants as scan
use Rattle.fkv_epoch.specs.declared.claiming.Claiming.TheVariants as claim
use Rattle.fkv_epoch.specs.declared.raising.Raising.{Raising}
use Rattle.fkv_epoch.specs.declared.raising.Raising.TheVariants as raise
use Rattle.fkv_epoch.specs.Refreshing.{refresh_finish}
use Rattle.fkv_epoch.specs.Raising.{raise_on}
use Rattle.fkv_epoch.specs.EpochWorld.{EpochMachine, Protects, Refreshes, Leaves, Scans, Claims, Raises, HasRaised, Arms, EpochTask, ToProtect, ToRefresh, ToLeave, ToScan, ToClaim, ToRaise, Sight, Loads, EpochWorld, is_at_rest, may_begin, first_machine, begun, resumed, moved, past_moved, epoch_of, own_epoch, loaded, with_load, with_machine}
use Rattle.fkv_epoch.specs.Once.{goes_by}
use Rattle.fkv_epoch.proofs.Epochs.{AreFrom, Knows}
use Rattle.fkv_epoch.proofs.Slots.{Fate, Holds, Slots}
use Rattle.fkv_epoch.proofs.Sound.{IsSound, quiet, slot_table, weight}
use Rattle.fkv_epoch.proofs.SessionSteps.{machine_changed, protect_moves, refresh_moves, leave_moves}
use Rattle.fkv_epoch.proofs.ScanSteps.{scan_moves}
use Rattle.fkv_epoch.proofs.ClaimSteps.{claim_moves}
use Rattle.fkv_epoch.proofs.RaiseSteps.{raise_moves, bear_moves, arm_moves}

pub no_load : (loads : ℕ → Loads) (a epoch : ℕ) → loaded loads a None epoch ≡ loads
no_load loads a epoch = λ i s. cases s (s == a) i
  where
    cases : (s : ℕ) (b : Bool) → (if b then with_load (loads s) None epoch else loads s) ≡ loads s
    cases s true = refl
    cases s false = refl

-- an actor turns to another machine, or another step of its own, and nothing else happens
turns : (w : EpochWorld) (a : ℕ) (d d' : EpochMachine) → IsSound w → slice_get w.now.actors a ≡ Some d → weight d' ≤ weight d
    → ((sight : Sight) → goes_by sight d' ≡ true → goes_by sight d ≡ true)
    → Knows w.now.sessions (epoch_of w.now.words) (own_epoch w.now.words a) (w.past.loads a) (AreFrom (own_epoch w.now.words) w.past.in_force w.now.actors) a d'
    → ((owners : ℕ → Option ℕ) (fates : ℕ → Fate) → Slots (slot_table w.now w.past owners fates) w.now.actors → Holds (slot_table w.now w.past owners fates) a d')
    → IsSound (record { now = with_machine w.now a d'; past = w.past })
turns w a d d' sound got lighter less knows holds =
    let none = no_load w.past.loads a (epoch_of w.now.words) in
    rw none at (quiet w a d d' None sound got (inl lighter) (machine_changed w a d d' sound got less) knows holds)

rest_goes : (d : EpochMachine) (s : Sight) → is_at_rest d ≡ true → goes_by s d ≡ true
rest_goes (Protects protect.AtRest) s r = refl
rest_goes (Protects protect.LoadsEpoch) s r = cc
rest_goes (Protects (protect.StoresEpoch e)) s r = cc
rest_goes (Protects protect.LoadsPhase) s r = cc
rest_goes (Protects (protect.LoadsReadOnly p)) s r = cc
rest_goes (Protects (protect.LoadsHead p q)) s r = cc
rest_goes (Refreshes x) s r = refl
rest_goes (Leaves x) s r = refl
rest_goes (Scans x) s r = refl
rest_goes (Claims x) s r = refl
rest_goes (Raises x) s r = refl
rest_goes (HasRaised x y) s r = refl
rest_goes (Arms x) s r = refl

both : (b c : Bool) → (b && c) ≡ true → (b ≡ true) × (c ≡ true)
both true true e = (refl, refl)
both true false e = cc
both false true e = cc
both false false e = cc

begins : (w : EpochWorld) (a : ℕ) (task : EpochTask) (d : EpochMachine) → IsSound w → slice_get w.now.actors a ≡ Some d → is_at_rest d ≡ true → may_begin w.now a task ≡ true
    → IsSound (record { now = with_machine w.now a (first_machine task); past = w.past })
begins w a ToProtect d sound got r may = turns w a d (Protects protect.LoadsEpoch) sound got (omega arith) (λ s g. rest_goes d s r) (grind (arith, nat_tests, may)) (λ o f s. tt)
begins w a ToRefresh d sound got r may =
    let m = both (nat_lt a w.now.sessions) (not (own_epoch w.now.words a == 0)) may in
    turns w a d (Refreshes refresh.LoadsEpoch) sound got (omega arith) (λ s g. rest_goes d s r) (grind (arith, nat_tests, m), grind (arith, nat_tests, m)) (λ o f s. tt)
begins w a ToLeave d sound got r may = turns w a d (Leaves leave.StoresZero) sound got (omega arith) (λ s g. rest_goes d s r) (grind (arith, nat_tests, may)) (λ o f s. tt)
begins w a ToScan d sound got r may = turns w a d (Scans scan.LoadsEpoch) sound got (omega arith) (λ s g. rest_goes d s r) tt (λ o f s. tt)
begins w a ToClaim d sound got r may = turns w a d (Claims (claim.MeetsSlot 0 None)) sound got (omega arith) (λ s g. rest_goes d s r) tt (λ o f s. omega arith)
begins w a ToRaise d sound got r may = turns w a d (Raises raise.LoadsEpoch) sound got (omega arith) (λ s g. rest_goes d s r) tt (λ o f s. tt)

pub begun_sound : (w : EpochWorld) (a : ℕ) (task : EpochTask) (found : Option EpochMachine) → slice_get w.now.actors a ≡ found → IsSound w → IsSound (record { now = begun w.now a task found; past = w.past })
begun_sound w a task None got sound = sound
begun_sound w a task (Some d) got sound = cases (is_at_rest d && may_begin w.now a task) refl
  where
    cases : (b : Bool) → (is_at_rest d && may_begin w.now a task) ≡ b → IsSound (record { now = if b then with_machine w.now a (first_machine task) else w.now; past = w.past })
    cases true e = let t = both (is_at_rest d) (may_begin w.now a task) e in begins w a task d sound got t.0 t.1
    cases false e = sound

stays : (w : EpochWorld) (a : ℕ) (d : EpochMachine) → IsSound w → slice_get w.now.actors a ≡ Some d → IsSound (record { now = with_machine w.now a d; past = w.past })
stays w a d sound got = turns w a d d sound got (omega arith) (λ s g. g) (sound.epochs.knows a d got) (λ o f s. s.holds a d got)

refresh_resumes : (w : EpochWorld) (a : ℕ) (step : Refreshing) → IsSound w → slice_get w.now.actors a ≡ Some (Refreshes step) → IsSound (record { now = with_machine w.now a (Refreshes (refresh_finish step)); past = w.past })
unfolding refresh_finish
refresh_resumes w a refresh.AtRest sound got = stays w a (Refreshes refresh.AtRest) sound got
refresh_resumes w a refresh.LoadsEpoch sound got = stays w a (Refreshes refresh.LoadsEpoch) sound got
refresh_resumes w a (refresh.LoadsPhase e) sound got = stays w a (Refreshes (refresh.LoadsPhase e)) sound got
refresh_resumes w a (refresh.LoadsReadOnly e p) sound got = stays w a (Refreshes (refresh.LoadsReadOnly e p)) sound got
refresh_resumes w a (refresh.LoadsHead e p r) sound got = stays w a (Refreshes (refresh.LoadsHead e p r)) sound got
refresh_resumes w a (refresh.HasLoaded e v) sound got =
    turns w a (Refreshes (refresh.HasLoaded e v)) (Refreshes (refresh.StoresEpoch e)) sound got (omega arith) (λ s g. refl) (sound.epochs.knows a (Refreshes (refresh.HasLoaded e v)) got) (λ o f s. tt)
refresh_resumes w a (refresh.StoresEpoch e) sound got = stays w a (Refreshes (refresh.StoresEpoch e)) sound got

raise_resumes : (w : EpochWorld) (a : ℕ) (step : Raising) → IsSound w → slice_get w.now.actors a ≡ Some (Raises step) → IsSound (record { now = with_machine w.now a (Raises (raise_on step)); past = w.past })
unfolding raise_on
raise_resumes w a raise.AtRest sound got = stays w a (Raises raise.AtRest) sound got
raise_resumes w a raise.LoadsEpoch sound got = stays w a (Raises raise.LoadsEpoch) sound got
raise_resumes w a (raise.MeetsSlot k) sound got = stays w a (Raises (raise.MeetsSlot k)) sound got
raise_resumes w a (raise.HoldsSlot k) sound got = stays w a (Raises (raise.HoldsSlot k)) sound got
raise_resumes w a (raise.HasSlot k) sound got =
    turns w a (Raises (raise.HasSlot k)) (Raises (raise.RaisesEpoch k)) sound got (omega arith) (λ s g. refl) tt (λ o f s. s.holds a (Raises (raise.HasSlot k)) got)
raise_resumes w a (raise.RaisesEpoch k) sound got = stays w a (Raises (raise.RaisesEpoch k)) sound got

pub resumed_sound : (w : EpochWorld) (a : ℕ) (found : Option EpochMachine) → slice_get w.now.actors a ≡ found → IsSound w → IsSound (record { now = resumed w.now a found; past = w.past })
resumed_sound w a None got sound = sound
resumed_sound w a (Some (Refreshes step)) got sound = refresh_resumes w a step sound got
resumed_sound w a (Some (Raises step)) got sound = raise_resumes w a step sound got
resumed_sound w a (Some (Protects x)) got sound = stays w a (Protects x) sound got
resumed_sound w a (Some (Leaves x)) got sound = stays w a (Leaves x) sound got
resumed_sound w a (Some (Scans x)) got sound = stays w a (Scans x) sound got
resumed_sound w a (Some (Claims x)) got sound = stays w a (Claims x) sound got
resumed_sound w a (Some (HasRaised x y)) got sound = stays w a (HasRaised x y) sound got
resumed_sound w a (Some (Arms x)) got sound = stays w a (Arms x) sound got

pub moved_sound : (w : EpochWorld) (a : ℕ) (found : Option EpochMachine) → slice_get w.now.actors a ≡ found → IsSound w → IsSound (record { now = moved w.now a found; past = past_moved w.now a w.past found })
moved_sound w a None got sound = sound
moved_sound w a (Some (Protects step)) got sound = protect_moves w a step sound got
moved_sound w a (Some (Refreshes step)) got sound = refresh_moves w a step sound got
moved_sound w a (Some (Leaves step)) got sound = leave_moves w a step sound got
moved_sound w a (Some (Scans step)) got sound = scan_moves w a step sound got
moved_sound w a (Some (Claims step)) got sound = claim_moves w a step sound got
moved_sound w a (Some (Raises step)) got sound = raise_moves w a step sound got
moved_sound w a (Some (HasRaised k c)) got sound = bear_moves w a k c sound got
moved_sound w a (Some (Arms step)) got sound = arm_moves w a step sound got
