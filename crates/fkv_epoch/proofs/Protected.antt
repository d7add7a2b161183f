-- A protected session stays so up to the store of its leave.
use Rattle.std.proofs.Common.{◌≡◌, ◌≢◌, ℕ, ◌+◌, ◌*◌, ◌<◌, List, length, refl, arith, sym, ap, inl, inr, ◌∙◌, Bool, true, false}
use Rattle.std.specs.Prelude.{Option, Some, None, slice_get, slice_set, ◌&&◌, if◌then◌else◌}
use Rattle.std.proofs.lemmas.List.{set-get_or}
use Rattle.fkv_plane.specs.declared.actions.Action.{Action}
use Rattle.fkv_plane.specs.declared.actions.Action.TheVariants as act
use Rattle.fkv_plane.specs.Asked.{word_at, words_after, reply_to}
use Rattle.fkv_plane.specs.Plane.{action_at}
use Rattle.fkv_plane.specs.Places.{session_place, drain_place}
use Rattle.fkv_plane.specs.declared.places.SessionWord.TheVariants as own
use Rattle.fkv_epoch.specs.declared.protecting.Protecting.TheVariants as protect
use Rattle.fkv_epoch.specs.declared.refreshing.Refreshing.TheVariants as refresh
use Rattle.fkv_epoch.specs.declared.leaving.Leaving.TheVariants as leave
use Rattle.fkv_epoch.specs.declared.scanning.Scanning.TheVariants as scan
use Rattle.fkv_epoch.specs.declared.claiming.Claiming.{Claiming}
use Rattle.fkv_epoch.specs.declared.claiming.Claiming.TheVariants as claim
use Rattle.fkv_epoch.specs.declared.raising.Raising.TheVariants as raise
use Rattle.fkv_epoch.specs.declared.arming.Arming.TheVariants as arm
use Rattle.fkv_epoch.specs.Protecting.{protect_ask}
use Rattle.fkv_epoch.specs.Refreshing.{refresh_ask}
use Rattle.fkv_epoch.specs.Leaving.{leave_ask}
use Rattle.fkv_epoch.specs.Scanning.{scan_ask}
use Rattle.fkv_epoch.specs.Claiming.{claim_ask, claim_next}
use Rattle.fkv_epoch.specs.Raising.{raise_ask}
use Rattle.fkv_epoch.specs.Arming.{arm_ask}
use Rattle.fkv_epoch.specs.EpochWorld.{EpochMachine, Protects, Refreshes, Leaves, Scans, Claims, Raises, HasRaised, Arms, EpochTask, EpochEvent, Begins, Resumes, Puts, Moves, Sees, Changes, Loads, EpochWorld, epoch_happens, epoch_of, own_epoch, is_at_rest, may_begin, begun, resumed, put, moved, first_machine, with_machine, received, claimed, machine_step, is_own}
use Rattle.fkv_epoch.specs.Protected.{epoch_in_hand, HoldsNoZero, is_protecting, IsProtected, StaysProtected}
use Rattle.fkv_epoch.proofs.Items.{word_written, word_spared, same_or, some_same}
use Rattle.fkv_epoch.proofs.Epochs.{AreFrom, Knows}
use Rattle.fkv_epoch.proofs.Sound.{IsSound}
use Rattle.fkv_epoch.proofs.Outer.{own_session, not_both}

-- no epoch in hand is 0
hand_some : (S E word epoch : ℕ) (l : Loads) (From : ℕ → ℕ → Type 0) (a : ℕ) (d : EpochMachine) → Knows S E word l From a d → epoch_in_hand d ≡ Some epoch → 0 < epoch
hand_some S E w epoch l F a (Protects (protect.StoresEpoch e)) k h = let same = some_same e epoch h in omega (arith, same, k.1)
hand_some S E w epoch l F a (Refreshes (refresh.LoadsPhase e)) k h = let same = some_same e epoch h in omega (arith, same, k.2)
hand_some S E w epoch l F a (Refreshes (refresh.LoadsReadOnly e x)) k h = let same = some_same e epoch h in omega (arith, same, k.2)
hand_some S E w epoch l F a (Refreshes (refresh.LoadsHead e x y)) k h = let same = some_same e epoch h in omega (arith, same, k.2)
hand_some S E w epoch l F a (Refreshes (refresh.HasLoaded e x)) k h = let same = some_same e epoch h in omega (arith, same, k.2)
hand_some S E w epoch l F a (Refreshes (refresh.StoresEpoch e)) k h = let same = some_same e epoch h in omega (arith, same, k.2)
hand_some S E w epoch l F a d k h = cc

pub holds_no_zero : (w : EpochWorld) → IsSound w → HoldsNoZero w
holds_no_zero w sound a epoch d got h = hand_some w.now.sessions (epoch_of w.now.words) (own_epoch w.now.words a) epoch (w.past.loads a) (AreFrom (own_epoch w.now.words) w.past.in_force w.now.actors) a d (sound.epochs.knows a d got) h

-- who has stored it, or refreshes, is protected
protecting_some : (S E word : ℕ) (l : Loads) (From : ℕ → ℕ → Type 0) (a : ℕ) (d : EpochMachine) → a < S → Knows S E word l From a d → is_protecting d ≡ true → 0 < word
protecting_some S E w l F a (Protects protect.AtRest) i k h = k i
protecting_some S E w l F a (Protects protect.LoadsPhase) i k h = k.1
protecting_some S E w l F a (Protects (protect.LoadsReadOnly x)) i k h = k.1
protecting_some S E w l F a (Protects (protect.LoadsHead x y)) i k h = k.1
protecting_some S E w l F a (Refreshes refresh.AtRest) i k h = k i
protecting_some S E w l F a (Refreshes refresh.LoadsEpoch) i k h = k.1
protecting_some S E w l F a (Refreshes (refresh.LoadsPhase x)) i k h = k.1
protecting_some S E w l F a (Refreshes (refresh.LoadsReadOnly x y)) i k h = k.1
protecting_some S E w l F a (Refreshes (refresh.LoadsHead x y z)) i k h = k.1
protecting_some S E w l F a (Refreshes (refresh.HasLoaded x y)) i k h = k.1
protecting_some S E w l F a (Refreshes (refresh.StoresEpoch x)) i k h = k.1
protecting_some S E w l F a d i k h = cc

pub is_protected : (w : EpochWorld) → IsSound w → IsProtected w
is_protected w sound s d inside got h = protecting_some w.now.sessions (epoch_of w.now.words) (own_epoch w.now.words s) (w.past.loads s) (AreFrom (own_epoch w.now.words) w.past.in_force w.now.actors) s d inside (sound.epochs.knows s d got) h

-- a load writes back what it finds, and another word's store spares this one
loaded_stays : (words : List ℕ) (place s : ℕ) → 0 < own_epoch words s → 0 < own_epoch (slice_set words place (word_at words place)) s
loaded_stays words place s h = rw (set-get_or words place 0) h

other_stays : (words : List ℕ) (place word s : ℕ) → session_place s own.Epoch ≢ place → 0 < own_epoch words s → 0 < own_epoch (slice_set words place word) s
other_stays words place word s apart h = let same = word_spared words place word (session_place s own.Epoch) apart in omega (arith, same, h)

-- the store of an epoch by the actor a, which is some other's or not 0
store_stays : (words : List ℕ) (a word s : ℕ) → 24 + 16 * s < length words → (s ≡ a → 0 < word) → 0 < own_epoch words s → 0 < own_epoch (slice_set words (session_place a own.Epoch) word) s
store_stays words a word s inside some h = elim (same_or s a) [
  | inl e ↦ let now : own_epoch (slice_set words (session_place a own.Epoch) word) a ≡ word = word_written words (session_place a own.Epoch) word (omega (arith, inside, e)) in let p = some e in rw e (omega (arith, now, p))
  | inr n ↦ other_stays words (session_place a own.Epoch) word s (λ e. n (omega (arith, e))) h
]

received_words : (words : List ℕ) (actions : List (Option Action)) (slot epoch safe : ℕ) (found : Option Action) → (received words actions slot epoch safe found).words ≡ words
received_words words actions slot epoch safe None = refl
received_words words actions slot epoch safe (Some action) = refl

claimed_words : (words : List ℕ) (actions : List (Option Action)) (step : Claiming) → (claimed words actions step).words ≡ words
claimed_words words actions (claim.Receives slot epoch safe) = received_words words actions slot epoch safe (action_at actions slot)
claimed_words words actions step = refl

claim_stays : (w : EpochWorld) (a : ℕ) (step : Claiming) (s : ℕ) → IsSound w → slice_get w.now.actors a ≡ Some (Claims step) → 0 < own_epoch w.now.words s → 0 < own_epoch (words_after w.now.words (claim_ask step)) s
unfolding claim_ask
claim_stays w a claim.AtRest s sound got h = h
claim_stays w a (claim.MeetsSlot slot z) s sound got h = loaded_stays w.now.words (drain_place slot) s h
claim_stays w a (claim.LoadsSafe slot word) s sound got h = loaded_stays w.now.words 1 s h
claim_stays w a (claim.TakesSlot slot word z) s sound got h = let k = sound.slots.holds a (Claims (claim.TakesSlot slot word z)) got in other_stays w.now.words (drain_place slot) _ s (λ e. omega (arith, e, k.0)) h
claim_stays w a (claim.Receives slot epoch z) s sound got h = h
claim_stays w a (claim.Runs slot epoch z (act.SafeReadOnly addr)) s sound got h = other_stays w.now.words 6 _ s (λ e. omega (arith, e)) h
claim_stays w a (claim.Runs slot epoch z (act.Close addr)) s sound got h = other_stays w.now.words 9 _ s (λ e. omega (arith, e)) h
claim_stays w a (claim.Runs slot epoch z (act.Phase phase version)) s sound got h = other_stays w.now.words 2 _ s (λ e. omega (arith, e)) h
claim_stays w a (claim.FreesSlot slot z) s sound got h = let k = sound.slots.holds a (Claims (claim.FreesSlot slot z)) got in other_stays w.now.words (drain_place slot) 0 s (λ e. omega (arith, e, k.0)) h

-- one ask of the actor a
abbrev pub Stays : EpochWorld → ℕ → EpochMachine → ℕ → Type 0
Stays w a d s = s < w.now.sessions → slice_get w.now.actors a ≡ Some d → (s ≡ a → d ≡ Leaves leave.StoresZero → ⊥) → 0 < own_epoch w.now.words s
    → 0 < own_epoch (machine_step w.now.sessions a w.now.words w.now.actions d).words s

move_stays : (w : EpochWorld) (a : ℕ) (d : EpochMachine) (s : ℕ) → IsSound w → Stays w a d s
unfolding protect_ask refresh_ask leave_ask scan_ask raise_ask arm_ask
move_stays w a (Protects protect.AtRest) s sound i got held h = h
move_stays w a (Protects protect.LoadsEpoch) s sound i got held h = loaded_stays w.now.words 0 s h
move_stays w a (Protects (protect.StoresEpoch e)) s sound i got held h = store_stays w.now.words a e s (omega (arith, i, sound.enough_words)) (λ same. (sound.epochs.knows a (Protects (protect.StoresEpoch e)) got).1) h
move_stays w a (Protects protect.LoadsPhase) s sound i got held h = loaded_stays w.now.words 2 s h
move_stays w a (Protects (protect.LoadsReadOnly p)) s sound i got held h = loaded_stays w.now.words 5 s h
move_stays w a (Protects (protect.LoadsHead p r)) s sound i got held h = loaded_stays w.now.words 8 s h
move_stays w a (Refreshes refresh.AtRest) s sound i got held h = h
move_stays w a (Refreshes refresh.LoadsEpoch) s sound i got held h = loaded_stays w.now.words 0 s h
move_stays w a (Refreshes (refresh.LoadsPhase e)) s sound i got held h = loaded_stays w.now.words 2 s h
move_stays w a (Refreshes (refresh.LoadsReadOnly e p)) s sound i got held h = loaded_stays w.now.words 5 s h
move_stays w a (Refreshes (refresh.LoadsHead e p r)) s sound i got held h = loaded_stays w.now.words 8 s h
move_stays w a (Refreshes (refresh.HasLoaded e v)) s sound i got held h = h
move_stays w a (Refreshes (refresh.StoresEpoch e)) s sound i got held h = store_stays w.now.words a e s (omega (arith, i, sound.enough_words)) (λ same. (sound.epochs.knows a (Refreshes (refresh.StoresEpoch e)) got).2) h
move_stays w a (Leaves leave.AtRest) s sound i got held h = h
move_stays w a (Leaves leave.StoresZero) s sound i got held h = store_stays w.now.words a 0 s (omega (arith, i, sound.enough_words)) (λ same. absurd (held same refl)) h
move_stays w a (Scans scan.AtRest) s sound i got held h = h
move_stays w a (Scans scan.LoadsEpoch) s sound i got held h = loaded_stays w.now.words 0 s h
move_stays w a (Scans (scan.LoadsSession t m)) s sound i got held h = loaded_stays w.now.words (session_place t own.Epoch) s h
move_stays w a (Scans (scan.RaisesSafe m)) s sound i got held h = other_stays w.now.words 1 _ s (λ e. omega (arith, e)) h
move_stays w a (Claims step) s sound i got held h =
    rw (claimed_words (words_after w.now.words (claim_ask step)) w.now.actions (claim_next step (reply_to w.now.words (claim_ask step)))) (claim_stays w a step s sound got h)
move_stays w a (Raises raise.AtRest) s sound i got held h = h
move_stays w a (Raises raise.LoadsEpoch) s sound i got held h = loaded_stays w.now.words 0 s h
move_stays w a (Raises (raise.MeetsSlot slot)) s sound i got held h = loaded_stays w.now.words (drain_place slot) s h
move_stays w a (Raises (raise.HoldsSlot slot)) s sound i got held h = let k = sound.slots.holds a (Raises (raise.HoldsSlot slot)) got in other_stays w.now.words (drain_place slot) _ s (λ e. omega (arith, e, k)) h
move_stays w a (Raises (raise.HasSlot slot)) s sound i got held h = h
move_stays w a (Raises (raise.RaisesEpoch slot)) s sound i got held h = other_stays w.now.words 0 _ s (λ e. omega (arith, e)) h
move_stays w a (HasRaised slot c) s sound i got held h = h
move_stays w a (Arms arm.AtRest) s sound i got held h = h
move_stays w a (Arms (arm.PutsAction slot c)) s sound i got held h = h
move_stays w a (Arms (arm.StoresEpoch slot c)) s sound i got held h = let k = sound.slots.holds a (Arms (arm.StoresEpoch slot c)) got in other_stays w.now.words (drain_place slot) (c + 2) s (λ e. omega (arith, e, k.0)) h

-- events that write no word
begun_words : (w : EpochWorld) (a : ℕ) (task : EpochTask) (found : Option EpochMachine) → (begun w.now a task found).words ≡ w.now.words
begun_words w a task None = refl
begun_words w a task (Some d) = cases (is_at_rest d && may_begin w.now a task)
  where
    cases : (b : Bool) → (if b then with_machine w.now a (first_machine task) else w.now).words ≡ w.now.words
    cases true = refl
    cases false = refl

resumed_words : (w : EpochWorld) (a : ℕ) (found : Option EpochMachine) → (resumed w.now a found).words ≡ w.now.words
resumed_words w a None = refl
resumed_words w a (Some d) = refl

put_words : (w : EpochWorld) (a : ℕ) (action : Action) (found : Option EpochMachine) → (put w.now a action found).words ≡ w.now.words
put_words w a action None = refl
put_words w a action (Some (HasRaised slot c)) = refl
put_words w a action (Some d) = refl

pub stays_protected : (w : EpochWorld) (event : EpochEvent) → IsSound w → StaysProtected w event
unfolding StaysProtected epoch_happens
stays_protected w (Begins a task) sound s i h held = rw (begun_words w a task (slice_get w.now.actors a)) h
stays_protected w (Resumes a) sound s i h held = rw (resumed_words w a (slice_get w.now.actors a)) h
stays_protected w (Puts a action) sound s i h held = rw (put_words w a action (slice_get w.now.actors a)) h
stays_protected w (Sees t sight) sound s i h held = h
stays_protected w (Changes place word) sound s i h held = cases (is_own w.now.sessions place) refl
  where
    cases : (b : Bool) → is_own w.now.sessions place ≡ b → 0 < own_epoch (if b then w.now else record w.now { words = slice_set w.now.words place word }).words s
    cases true e = h
    cases false e = other_stays w.now.words place word s (λ same. not_both (is_own w.now.sessions place) (own_session w.now.sessions s place i (omega (arith, same))) e) h
stays_protected w (Moves a) sound s i h held = found (slice_get w.now.actors a) refl
  where
    found : (d : Option EpochMachine) → slice_get w.now.actors a ≡ d → 0 < own_epoch (moved w.now a d).words s
    found None got = h
    found (Some d) got = move_stays w a d s sound i got (λ same leaves. held (record { its_step = ap Moves (sym same); is_leaving = ap (slice_get w.now.actors) same ∙ (got ∙ ap Some leaves) })) h
