-- What crates above need of a sound world, besides the law.
use Rattle.std.proofs.Common.{◌≡◌, ℕ, ◌-◌, ◌^◌, ◌<◌, ◌≤◌, arith, ap}
use Rattle.std.specs.Prelude.{Some, None, max, min, slice_get}
use Rattle.fkv_words.specs.declared.wide_phase.WidePhase.{WidePhase}
use Rattle.fkv_words.specs.Layout.{max_version, phase_spelled, wide_word}
use Rattle.fkv_plane.specs.Plane.{action_at}
use Rattle.fkv_words.specs.Phases.{phase_number}
use Rattle.fkv_epoch.specs.Claiming.{phase_stored}
use Rattle.fkv_epoch.specs.declared.claiming.Claiming.TheVariants as claim
use Rattle.fkv_epoch.specs.EpochWorld.{Claims, HasRaised, Sight, EpochWorld, Armed, epoch_of, safe_of, own_epoch, drain_word}
use Rattle.fkv_epoch.specs.Once.{load_of, Counts, Among, FindsAction}
use Rattle.fkv_epoch.proofs.Slots.{stage, Waiting}
use Rattle.fkv_epoch.proofs.Sound.{IsSound, slot_table}

-- no session has loaded anything at an epoch that is not reached, so none has seen past the epoch as it is raised
pub no_load_ahead : (w : EpochWorld) (session : ℕ) (sight : Sight) → IsSound w → load_of (w.past.loads session) sight ≤ epoch_of w.now.words
no_load_ahead w session sight sound = sound.epochs.loads_below session sight

-- what is in force was loaded no later than the last load
pub in_force_is_no_later : (w : EpochWorld) (session : ℕ) (sight : Sight) → IsSound w → load_of (w.past.in_force session) sight ≤ load_of (w.past.loads session) sight
in_force_is_no_later w session sight sound = sound.epochs.force_below session sight

-- and no earlier than at the epoch that is the session's own
pub own_epoch_is_no_later : (w : EpochWorld) (session : ℕ) (sight : Sight) → IsSound w → Counts w.now session sight → own_epoch w.now.words session ≤ load_of (w.past.in_force session) sight
own_epoch_is_no_later w session sight sound counts = (sound.epochs.above_word session counts.is_session counts.machine counts.its_machine).loaded sight counts.is_protected counts.has_loaded

-- the safe epoch is below the epoch
pub safe_is_below : (w : EpochWorld) → IsSound w → safe_of w.now.words < epoch_of w.now.words
safe_is_below w sound = let h = sound.epochs.safe_below in omega arith

-- the epoch is far from the largest number, so it never wraps
pub epoch_is_small : (w : EpochWorld) → IsSound w → epoch_of w.now.words < 2 ^ 49
epoch_is_small w sound = omega (arith, sound.bounded, sound.few_actors)

-- an epoch that arms an action was raised
pub armed_is_raised : (w : EpochWorld) (x : Armed) → IsSound w → Among x w.past.armed → x.epoch < epoch_of w.now.words
armed_is_raised w x sound among =
    let raised : ¬ (epoch_of w.now.words ≤ x.epoch) = λ h. let s = sound.slots.armed_stage x among in let u = ap stage (sound.slots.not_raised x.epoch h) in omega arith in
    omega (arith, raised)

-- a slot that is about to get an action has none
pub bearer_finds_none : (w : EpochWorld) (a slot c : ℕ) → IsSound w → slice_get w.now.actors a ≡ Some (HasRaised slot c) → action_at w.now.actions slot ≡ None
bearer_finds_none w a slot c sound got = (sound.slots.holds a (HasRaised slot c) got).3

-- the slot of a Cas that is about to be won has the action that was armed there
pub claimer_finds_action : (w : EpochWorld) (a slot word safe : ℕ) → IsSound w → slice_get w.now.actors a ≡ Some (Claims (claim.TakesSlot slot word safe)) → drain_word w.now.words slot ≡ word
    → FindsAction w slot (word - 2)
claimer_finds_action w a slot word safe sound got found =
    let h = sound.slots.holds a (Claims (claim.TakesSlot slot word safe)) got in
    let some : 2 ≤ word = h.2 in
    let wait : Waiting (slot_table w.now w.past sound.owners sound.fates) slot (word - 2) = sound.slots.waiting slot (word - 2) h.0 (omega (arith, found, some)) in
    record { action = wait.action; at_home = wait.at_home; was_armed = wait.was_armed }

-- so no claim ever waits for an action
pub no_claim_waits : (w : EpochWorld) (a slot c safe : ℕ) → IsSound w → slice_get w.now.actors a ≡ Some (Claims (claim.Receives slot c safe)) → ⊥
no_claim_waits w a slot c safe sound got = sound.slots.holds a (Claims (claim.Receives slot c safe)) got

-- a phase word is stored as it is spelled
pub phase_is_stored : (x : WidePhase) → phase_stored x.phase x.version ≡ wide_word x
phase_is_stored x =
    let within : max (min x.version.0 max_version) 1 ≡ x.version.0 = omega (arith, x.some_version, x.version_fits) in
    ap (λ (n : ℕ). phase_spelled n (phase_number x.phase)) within
