-- What the epoch machines do to the words and to what counts, event by event.
use Rattle.std.proofs.Common.{◌≡◌, ◌≢◌, ℕ, ◌+◌, ◌-◌, ◌*◌, ◌<◌, ◌≤◌, ◌⊎◌, List, refl, arith, inl, inr, Bool, true, false, max}
use Rattle.fkv_base.specs.Limits.{drain_slots}
use Rattle.std.specs.Prelude.{Option, Some, None, ⊤, slice_get}
use Rattle.std.proofs.lemmas.List.{set-get_or}
use Rattle.fkv_plane.specs.declared.asks.Ask.{Ask}
use Rattle.fkv_plane.specs.declared.asks.Ask.TheVariants.{Load, Store, Swap, Cas, Add, Max, Put, Take, Done}
use Rattle.fkv_plane.specs.declared.actions.Action.{Action}
use Rattle.fkv_plane.specs.declared.actions.Action.TheVariants as act
use Rattle.fkv_plane.specs.declared.places.SessionWord.TheVariants as own
use Rattle.fkv_plane.specs.Places.{session_place}
use Rattle.fkv_plane.specs.Asked.{word_at, words_after, reply_to}
use Rattle.fkv_epoch.specs.declared.protecting.Protecting.TheVariants as protect
use Rattle.fkv_epoch.specs.declared.refreshing.Refreshing.TheVariants as refresh
use Rattle.fkv_epoch.specs.declared.leaving.Leaving.TheVariants as leave
use Rattle.fkv_epoch.specs.declared.scanning.Scanning.TheVariants as scan
use Rattle.fkv_epoch.specs.declared.claiming.Claiming.{Claiming}
use Rattle.fkv_epoch.specs.declared.claiming.Claiming.TheVariants as claim
use Rattle.fkv_epoch.specs.declared.raising.Raising.TheVariants as raise
use Rattle.fkv_epoch.specs.declared.arming.Arming.TheVariants as arm
use Rattle.fkv_epoch.specs.Protecting.{protect_ask}
use Rattle.fkv_epoch.specs.Refreshing.{refresh_ask}
use Rattle.fkv_epoch.specs.Leaving.{leave_ask}
use Rattle.fkv_epoch.specs.Scanning.{scan_ask}
use Rattle.fkv_epoch.specs.Claiming.{claim_ask, claim_next}
use Rattle.fkv_epoch.specs.Raising.{raise_ask}
use Rattle.fkv_epoch.specs.Arming.{arm_ask}
use Rattle.fkv_epoch.specs.EpochWorld.{EpochMachine, Protects, Refreshes, Leaves, Scans, Claims, Raises, HasRaised, Arms, EpochWorld, machine_step, claimed, received, own_epoch, safe_of}
use Rattle.fkv_epoch.proofs.Shown.{word_spared, word_written, IsSound}
use Rattle.fkv_flush.specs.GuardAsks.{writes, machine_writes}

abbrev pub Spares : Option ℕ → ℕ → Type 0
Spares None p = ⊤
Spares (Some q) p = p ≢ q

-- a word that the ask doesn't write is the same after it
pub spared : {A : Type 0} (words : List ℕ) (ask : Ask A) (p : ℕ) → Spares (writes ask) p → word_at (words_after words ask) p ≡ word_at words p
spared words (Load place) p h = rw (set-get_or words place 0) refl
spared words (Store place new) p h = word_spared words place new p h
spared words (Swap place new) p h = word_spared words place new p h
spared words (Cas place old new) p h = word_spared words place _ p h
spared words (Add place k) p h = word_spared words place _ p h
spared words (Max place k) p h = word_spared words place _ p h
spared words (Put slot action) p h = refl
spared words (Take slot) p h = refl
spared words (Done answer) p h = refl

received_words : (words : List ℕ) (actions : List (Option Action)) (slot epoch safe : ℕ) (found : Option Action) → (received words actions slot epoch safe found).words ≡ words
received_words words actions slot epoch safe None = refl
received_words words actions slot epoch safe (Some x) = refl

claimed_words : (words : List ℕ) (actions : List (Option Action)) (step : Claiming) → (claimed words actions step).words ≡ words
claimed_words words actions claim.AtRest = refl
claimed_words words actions (claim.MeetsSlot slot safe) = refl
claimed_words words actions (claim.LoadsSafe slot word) = refl
claimed_words words actions (claim.TakesSlot slot word safe) = refl
claimed_words words actions (claim.Receives slot epoch safe) = received_words words actions slot epoch safe _
claimed_words words actions (claim.Runs slot epoch safe action) = refl
claimed_words words actions (claim.FreesSlot slot safe) = refl

-- so is a word that a step of an epoch machine doesn't write
pub stepped_spared : (S a : ℕ) (words : List ℕ) (actions : List (Option Action)) (d : EpochMachine) (p : ℕ) → Spares (machine_writes a d) p
    → word_at (machine_step S a words actions d).words p ≡ word_at words p
stepped_spared S a words actions (Protects step) p h = spared words (protect_ask a step) p h
stepped_spared S a words actions (Refreshes step) p h = spared words (refresh_ask a step) p h
stepped_spared S a words actions (Leaves step) p h = spared words (leave_ask a step) p h
stepped_spared S a words actions (Scans step) p h = spared words (scan_ask step) p h
stepped_spared S a words actions (Claims step) p h = rw (claimed_words (words_after words (claim_ask step)) actions (claim_next step (reply_to words (claim_ask step)))) (spared words (claim_ask step) p h)
stepped_spared S a words actions (Raises step) p h = spared words (raise_ask step) p h
stepped_spared S a words actions (HasRaised slot epoch) p h = refl
stepped_spared S a words actions (Arms step) p h = spared words (arm_ask step) p h

-- the next step runs an action
abbrev pub runs : EpochMachine → Bool
runs (Claims (claim.Runs slot epoch safe action)) = true
runs machine = false

-- the next step raises the safe epoch
abbrev pub ends_scan : EpochMachine → Bool
ends_scan (Scans (scan.RaisesSafe least)) = true
ends_scan machine = false

-- A step of the actor a writes the epoch, or ends a scan with the safe epoch, or writes a slot, or its own session's epoch word, or
-- runs an action.
abbrev pub OwnAt : ℕ → ℕ → EpochMachine → Option ℕ → Type 0
OwnAt S a d None = ⊤
OwnAt S a d (Some p) = (p ≡ 0) ⊎ (((p ≡ 1) × (ends_scan d ≡ true)) ⊎ (((16 ≤ p) × (p < 24)) ⊎ (((a < S) × (p ≡ 24 + 16 * a)) ⊎ ((2 ≤ p) × (p < 10) × (runs d ≡ true)))))

pub run_writes : (S a slot c z : ℕ) (action : Action) → OwnAt S a (Claims (claim.Runs slot c z action)) (machine_writes a (Claims (claim.Runs slot c z action)))
unfolding claim_ask
run_writes S a slot c z (act.SafeReadOnly addr) = inr (inr (inr (inr (omega arith, omega arith, refl))))
run_writes S a slot c z (act.Close addr) = inr (inr (inr (inr (omega arith, omega arith, refl))))
run_writes S a slot c z (act.Phase phase version) = inr (inr (inr (inr (omega arith, omega arith, refl))))

pub own_writes : (w : EpochWorld) (a : ℕ) (d : EpochMachine) → IsSound w → slice_get w.now.actors a ≡ Some d → OwnAt w.now.sessions a d (machine_writes a d)
unfolding protect_ask refresh_ask leave_ask scan_ask claim_ask raise_ask arm_ask
own_writes w a (Protects (protect.StoresEpoch e)) sound got = inr (inr (inr (inl ((sound.epochs.knows a (Protects (protect.StoresEpoch e)) got).0, omega arith))))
own_writes w a (Refreshes (refresh.StoresEpoch e)) sound got = inr (inr (inr (inl ((sound.epochs.knows a (Refreshes (refresh.StoresEpoch e)) got).0, omega arith))))
own_writes w a (Leaves leave.StoresZero) sound got = inr (inr (inr (inl (sound.epochs.knows a (Leaves leave.StoresZero) got, omega arith))))
own_writes w a (Scans (scan.RaisesSafe m)) sound got = inr (inl (refl, refl))
own_writes w a (Claims (claim.TakesSlot slot word z)) sound got = let h = (sound.slots.holds a (Claims (claim.TakesSlot slot word z)) got).0 in inr (inr (inl (omega arith, omega (arith, h))))
own_writes w a (Claims (claim.Runs slot c z action)) sound got = run_writes w.now.sessions a slot c z action
own_writes w a (Claims (claim.FreesSlot slot z)) sound got = let h = (sound.slots.holds a (Claims (claim.FreesSlot slot z)) got).0 in inr (inr (inl (omega arith, omega (arith, h))))
own_writes w a (Raises (raise.HoldsSlot slot)) sound got = let h : slot < drain_slots = sound.slots.holds a (Raises (raise.HoldsSlot slot)) got in inr (inr (inl (omega arith, omega (arith, h))))
own_writes w a (Raises (raise.RaisesEpoch slot)) sound got = inl refl
own_writes w a (Arms (arm.StoresEpoch slot c)) sound got = let h = (sound.slots.holds a (Arms (arm.StoresEpoch slot c)) got).0 in inr (inr (inl (omega arith, omega (arith, h))))
own_writes w a d sound got = tt

-- a place that is none of these is spared
pub own_elsewhere : (S a p : ℕ) (d : EpochMachine) (at : Option ℕ) → OwnAt S a d at → 1 ≤ p → (p ≡ 1 → ends_scan d ≡ true → ⊥) → (16 ≤ p → p < 24 → ⊥) → (a < S → p ≢ 24 + 16 * a) → (2 ≤ p → p < 10 → runs d ≡ true → ⊥) → Spares at p
own_elsewhere S a p d None h low scan drain mine guard_run = tt
own_elsewhere S a p d (Some q) (inl h) low scan drain mine guard_run = λ e. omega (arith, e, h, low)
own_elsewhere S a p d (Some q) (inr (inl h)) low scan drain mine guard_run = λ e. scan (omega (arith, e, h.0)) h.1
own_elsewhere S a p d (Some q) (inr (inr (inl h))) low scan drain mine guard_run = λ e. drain (omega (arith, e, h.0)) (omega (arith, e, h.1))
own_elsewhere S a p d (Some q) (inr (inr (inr (inl h)))) low scan drain mine guard_run = λ e. mine h.0 (omega (arith, e, h.1))
own_elsewhere S a p d (Some q) (inr (inr (inr (inr h)))) low scan drain mine guard_run = λ e. guard_run (omega (arith, e, h.0)) (omega (arith, e, h.1)) h.2

-- another session's epoch word
pub others_epoch : (w : EpochWorld) (a s : ℕ) (d : EpochMachine) → IsSound w → slice_get w.now.actors a ≡ Some d → s ≢ a → own_epoch (machine_step w.now.sessions a w.now.words w.now.actions d).words s ≡ own_epoch w.now.words s
others_epoch w a s d sound got n =
    stepped_spared w.now.sessions a w.now.words w.now.actions d (session_place s own.Epoch)
    (own_elsewhere w.now.sessions a (session_place s own.Epoch) d (machine_writes a d) (own_writes w a d sound got)
    (omega arith) (λ e _. omega (arith, e)) (λ h i. omega (arith, h, i)) (λ _ e. n (omega (arith, e))) (λ _ h _. omega (arith, h)))

-- the offsets, and each other shared word but the phase, are no word of these machines, but where an action is run
pub offsets_spared : (w : EpochWorld) (a p : ℕ) (d : EpochMachine) → IsSound w → slice_get w.now.actors a ≡ Some d → runs d ≡ false → 2 ≤ p → p < 16 → word_at (machine_step w.now.sessions a w.now.words w.now.actions d).words p ≡ word_at w.now.words p
offsets_spared w a p d sound got quiet low high =
    stepped_spared w.now.sessions a w.now.words w.now.actions d p
    (own_elsewhere w.now.sessions a p d (machine_writes a d) (own_writes w a d sound got)
    (omega (arith, low)) (λ e _. omega (arith, e, low)) (λ h i. omega (arith, h, high)) (λ _ e. omega (arith, e, high)) (λ _ _ r. cc))

-- the safe epoch never falls
pub safe_rises : (w : EpochWorld) (a : ℕ) (d : EpochMachine) → IsSound w → slice_get w.now.actors a ≡ Some d → safe_of w.now.words ≤ safe_of (machine_step w.now.sessions a w.now.words w.now.actions d).words
unfolding scan_ask
safe_rises w a (Scans (scan.RaisesSafe m)) sound got = let h = word_written w.now.words 1 (max (safe_of w.now.words) (m - 1)) (omega (arith, sound.enough_words)) in omega (arith, h)
safe_rises w a d sound got = kept d got refl
  where
    kept : (x : EpochMachine) → slice_get w.now.actors a ≡ Some x → ends_scan x ≡ false → safe_of w.now.words ≤ safe_of (machine_step w.now.sessions a w.now.words w.now.actions x).words
    kept x its quiet =
        let same = stepped_spared w.now.sessions a w.now.words w.now.actions x 1
        (own_elsewhere w.now.sessions a 1 x (machine_writes a x) (own_writes w a x sound its)
        (omega arith) (λ _ y. cc) (λ h i. omega (arith, h)) (λ _ e. omega (arith, e)) (λ h _ _. omega (arith, h))) in
        omega (arith, same)
