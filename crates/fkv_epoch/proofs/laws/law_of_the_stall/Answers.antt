use Rattle.std.proofs.Common.{◌≡◌, ℕ, zero, suc, ◌<◌, refl, arith}
use Rattle.fkv_base.specs.Limits.{drain_slots}
use Rattle.fkv_epoch.specs.Protecting.{protect_ask, protect_next}
use Rattle.fkv_epoch.specs.Leaving.{leave_ask, leave_next}
use Rattle.fkv_epoch.specs.Scanning.{scan_ask, scan_next, sessions_from, least_of}
use Rattle.fkv_epoch.specs.Claiming.{claim_ask, claim_next, claim_given, slot_after, slot_armed}
use Rattle.fkv_epoch.specs.Raising.{raise_ask, raise_next, raise_on, free_after}
use Rattle.fkv_epoch.specs.Arming.{arm_ask, arm_next}
use Rattle.fkv_epoch.specs.EpochWorld.{epoch_happens, epoch_run, own_epoch, drain_word}
use Rattle.fkv_epoch.specs.Stall.{stall_words}
use Rattle.fkv_epoch.proofs.laws.law_of_the_stall.Goals as goal

free_slot : (slot : ℕ) → slot < drain_slots → drain_word stall_words slot ≡ 0
free_slot zero few = refl
free_slot (suc zero) few = refl
free_slot (suc (suc zero)) few = refl
free_slot (suc (suc (suc zero))) few = refl
free_slot (suc (suc (suc (suc zero)))) few = refl
free_slot (suc (suc (suc (suc (suc zero))))) few = refl
free_slot (suc (suc (suc (suc (suc (suc zero)))))) few = refl
free_slot (suc (suc (suc (suc (suc (suc (suc zero))))))) few = refl
free_slot (suc (suc (suc (suc (suc (suc (suc (suc s)))))))) few = absurd (omega (arith, few))

awake : (session : ℕ) → session < 1 → own_epoch stall_words session ≡ 1
awake zero h = refl
awake (suc s) h = absurd (omega (arith, h))

pub returns-clause-opened : goal.returns-clause-opened
returns-clause-opened c = record {
  few_sessions = omega arith;
  with_others = omega arith;
  few_actors = omega arith;
  enough_words = omega arith;
  first_epoch = refl;
  nothing_safe = refl;
  awake = awake;
  slots_free = free_slot;
}

pub returns-clause-stalls : goal.returns-clause-stalls
unfolding protect_ask protect_next leave_ask leave_next scan_ask scan_next sessions_from least_of claim_ask claim_next claim_given slot_after slot_armed raise_ask raise_next raise_on free_after arm_ask arm_next epoch_happens epoch_run
returns-clause-stalls c = record { stored_late = refl; already_safe = refl; yet_to_load = refl; has_run = refl }
