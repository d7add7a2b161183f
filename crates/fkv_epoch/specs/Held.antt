-- Which slot a machine holds, and that nobody else does so.
use Rattle.std.specs.Prelude.{◌≡◌, ◌≢◌, ℕ, ◌<◌, Option, Some, None, slice_get}
use Rattle.fkv_base.specs.Limits.{drain_slots}
use Rattle.fkv_epoch.specs.declared.claiming.Claiming.TheVariants as claim
use Rattle.fkv_epoch.specs.declared.raising.Raising.TheVariants as raise
use Rattle.fkv_epoch.specs.declared.arming.Arming.TheVariants as arm
use Rattle.fkv_epoch.specs.EpochWorld.{EpochMachine, Claims, Raises, HasRaised, Arms, EpochNow, drain_word}

-- the slot that a machine holds: from the Cas that takes it up to the store that arms it or frees it
abbrev pub slot_held : EpochMachine → Option ℕ
slot_held (Raises (raise.HasSlot slot)) = Some slot
slot_held (Raises (raise.RaisesEpoch slot)) = Some slot
slot_held (HasRaised slot epoch) = Some slot
slot_held (Arms (arm.StoresEpoch slot epoch)) = Some slot
slot_held (Claims (claim.Runs slot epoch safe action)) = Some slot
slot_held (Claims (claim.FreesSlot slot safe)) = Some slot
slot_held machine = None

-- The slot's word says that it is held, no other actor holds it, and nobody's Cas is about to take it.
pub record IsHeldAlone (n : EpochNow) (actor slot : ℕ) : Type 0 where
  pub within : slot < drain_slots
  pub marked : drain_word n.words slot ≡ 1
  pub alone : (other : ℕ) (machine : EpochMachine) → slice_get n.actors other ≡ Some machine → slot_held machine ≡ Some slot → other ≡ actor
  pub untaken : (other word safe : ℕ) → slice_get n.actors other ≡ Some (Claims (claim.TakesSlot slot word safe)) → drain_word n.words slot ≢ word

-- so it is with each slot that an actor holds
abbrev pub AreHeldAlone : EpochNow → Type 0
AreHeldAlone n = (actor slot : ℕ) (machine : EpochMachine) → slice_get n.actors actor ≡ Some machine → slot_held machine ≡ Some slot → IsHeldAlone n actor slot
