-- What a session goes by after a step of an epoch machine: what it went by before, or what it has just loaded.
use Rattle.std.proofs.Common.{◌≡◌, ℕ, ◌<◌, ◌⊎◌, refl, arith, inl, inr, Bool, true, false}
use Rattle.fkv_base.specs.Limits.{drain_slots}
use Rattle.std.specs.Prelude.{Some, slice_get}
use Rattle.fkv_plane.specs.declared.places.SessionWord.TheVariants as own
use Rattle.fkv_plane.specs.Places.{session_place}
use Rattle.fkv_epoch.specs.declared.protecting.Protecting.TheVariants as protect
use Rattle.fkv_epoch.specs.declared.refreshing.Refreshing.TheVariants as refresh
use Rattle.fkv_epoch.specs.declared.leaving.Leaving.TheVariants as leave
use Rattle.fkv_epoch.specs.declared.scanning.Scanning.TheVariants as scan
use Rattle.fkv_epoch.specs.declared.claiming.Claiming.TheVariants as claim
use Rattle.fkv_epoch.specs.declared.raising.Raising.TheVariants as raise
use Rattle.fkv_epoch.specs.declared.arming.Arming.TheVariants as arm
use Rattle.fkv_epoch.specs.Protecting.{protect_ask, protect_next}
use Rattle.fkv_epoch.specs.Refreshing.{refresh_ask, refresh_next}
use Rattle.fkv_epoch.specs.Leaving.{leave_ask, leave_next}
use Rattle.fkv_epoch.specs.Scanning.{scan_ask}
use Rattle.fkv_epoch.specs.Claiming.{claim_ask}
use Rattle.fkv_epoch.specs.Raising.{raise_ask}
use Rattle.fkv_epoch.specs.Arming.{arm_ask}
use Rattle.fkv_epoch.specs.EpochWorld.{EpochMachine, Protects, Refreshes, Leaves, Scans, Claims, Raises, Arms, Sight, OfPhase, OfReadOnly, OfHead, EpochWorld, machine_step, own_epoch, sight_of}
use Rattle.fkv_epoch.specs.Once.{goes_by}
use Rattle.fkv_epoch.proofs.Shown.{word_written, IsSound}
use Rattle.fkv_flush.specs.GuardAsks.{machine_writes}
use Rattle.fkv_flush.proofs.GuardEpochs.{Spares, stepped_spared, own_elsewhere, run_writes}

-- the step loads this value, or its session, protected, went by it before
abbrev pub WasProtected : EpochWorld → ℕ → EpochMachine → Sight → Type 0
WasProtected w a d x = (sight_of d ≡ Some x) ⊎ ((goes_by x d ≡ true) × (0 < own_epoch w.now.words a))

-- the next step writes its session's epoch word
abbrev pub writes_own : EpochMachine → Bool
writes_own (Protects (protect.StoresEpoch e)) = true
writes_own (Refreshes (refresh.StoresEpoch e)) = true
writes_own (Leaves leave.StoresZero) = true
writes_own d = false

pub elsewhere : (w : EpochWorld) (a : ℕ) (d : EpochMachine) → IsSound w → slice_get w.now.actors a ≡ Some d → writes_own d ≡ false → Spares (machine_writes a d) (session_place a own.Epoch)
unfolding protect_ask refresh_ask leave_ask scan_ask claim_ask raise_ask arm_ask
elsewhere w a (Protects (protect.StoresEpoch e)) sound got not_own = cc
elsewhere w a (Refreshes (refresh.StoresEpoch e)) sound got not_own = cc
elsewhere w a (Leaves leave.StoresZero) sound got not_own = cc
elsewhere w a (Scans (scan.RaisesSafe m)) sound got not_own = λ e. omega (arith, e)
elsewhere w a (Claims (claim.TakesSlot slot word z)) sound got not_own = let h = (sound.slots.holds a (Claims (claim.TakesSlot slot word z)) got).0 in λ e. omega (arith, e, h)
elsewhere w a (Claims (claim.Runs slot c z action)) sound got not_own =
    own_elsewhere w.now.sessions w.now.sessions (session_place a own.Epoch) (Claims (claim.Runs slot c z action)) (machine_writes w.now.sessions (Claims (claim.Runs slot c z action))) (run_writes w.now.sessions w.now.sessions slot c z action)
    (omega arith) (λ e _. omega (arith, e)) (λ h i. omega (arith, h, i)) (λ h e. omega (arith, h)) (λ _ h _. omega (arith, h))
elsewhere w a (Claims (claim.FreesSlot slot z)) sound got not_own = let h = (sound.slots.holds a (Claims (claim.FreesSlot slot z)) got).0 in λ e. omega (arith, e, h)
elsewhere w a (Raises (raise.HoldsSlot slot)) sound got not_own = let h : slot < drain_slots = sound.slots.holds a (Raises (raise.HoldsSlot slot)) got in λ e. omega (arith, e, h)
elsewhere w a (Raises (raise.RaisesEpoch slot)) sound got not_own = λ e. omega (arith, e)
elsewhere w a (Arms (arm.StoresEpoch slot c)) sound got not_own = let h = (sound.slots.holds a (Arms (arm.StoresEpoch slot c)) got).0 in λ e. omega (arith, e, h)
elsewhere w a d sound got not_own = tt

-- the epoch word was not 0 before a step that doesn't write it
still_protected : (w : EpochWorld) (a : ℕ) (d : EpochMachine) → IsSound w → slice_get w.now.actors a ≡ Some d → writes_own d ≡ false
    → 0 < own_epoch (machine_step w.now.sessions a w.now.words w.now.actions d).words a → 0 < own_epoch w.now.words a
still_protected w a d sound got elsewhere_it p =
    let same = stepped_spared w.now.sessions a w.now.words w.now.actions d (session_place a own.Epoch) (elsewhere w a d sound got elsewhere_it) in
    omega (arith, p, same)

pub stepped_counts : (w : EpochWorld) (a : ℕ) (d : EpochMachine) (x : Sight) → IsSound w → slice_get w.now.actors a ≡ Some d
    → 0 < own_epoch (machine_step w.now.sessions a w.now.words w.now.actions d).words a → goes_by x (machine_step w.now.sessions a w.now.words w.now.actions d).machine ≡ true
    → WasProtected w a d x
unfolding protect_ask protect_next refresh_ask refresh_next leave_ask leave_next
stepped_counts w a (Protects protect.AtRest) x sound got p g = inr (refl, p)
stepped_counts w a (Protects protect.LoadsEpoch) x sound got p g = cc
stepped_counts w a (Protects (protect.StoresEpoch e)) x sound got p g = cc
stepped_counts w a (Protects protect.LoadsPhase) OfPhase sound got p g = inl refl
stepped_counts w a (Protects protect.LoadsPhase) OfReadOnly sound got p g = cc
stepped_counts w a (Protects protect.LoadsPhase) OfHead sound got p g = cc
stepped_counts w a (Protects (protect.LoadsReadOnly q)) OfPhase sound got p g = inr (refl, still_protected w a (Protects (protect.LoadsReadOnly q)) sound got refl p)
stepped_counts w a (Protects (protect.LoadsReadOnly q)) OfReadOnly sound got p g = inl refl
stepped_counts w a (Protects (protect.LoadsReadOnly q)) OfHead sound got p g = cc
stepped_counts w a (Protects (protect.LoadsHead q r)) OfPhase sound got p g = inr (refl, still_protected w a (Protects (protect.LoadsHead q r)) sound got refl p)
stepped_counts w a (Protects (protect.LoadsHead q r)) OfReadOnly sound got p g = inr (refl, still_protected w a (Protects (protect.LoadsHead q r)) sound got refl p)
stepped_counts w a (Protects (protect.LoadsHead q r)) OfHead sound got p g = inl refl
stepped_counts w a (Refreshes (refresh.StoresEpoch e)) x sound got p g = inr (refl, (sound.epochs.knows a (Refreshes (refresh.StoresEpoch e)) got).1)
stepped_counts w a (Leaves leave.StoresZero) x sound got p g =
    let inside : a < w.now.sessions = sound.epochs.knows a (Leaves leave.StoresZero) got in
    let zeroed = word_written w.now.words (session_place a own.Epoch) 0 (omega (arith, inside, sound.enough_words)) in
    absurd (omega (arith, p, zeroed))
stepped_counts w a d x sound got p g = inr (refl, still_protected w a d sound got refl p)
