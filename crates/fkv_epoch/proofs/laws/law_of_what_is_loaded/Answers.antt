use Rattle.std.proofs.Common.{◌≡◌, ℕ, true, false, refl, arith, ap}
use Rattle.std.proofs.lemmas.Bool.Decides.{nat_tests}
use Rattle.std.specs.Prelude.{nat_le}
use Rattle.fkv_base.specs.Limits.{last_epoch}
use Rattle.fkv_plane.specs.declared.asks.Ask.TheVariants.{Store}
use Rattle.fkv_epoch.specs.declared.protecting.Protecting.TheVariants as protect
use Rattle.fkv_epoch.specs.declared.refreshing.Refreshing.TheVariants as refresh
use Rattle.fkv_epoch.specs.Protecting.{protect_ask, protect_next, protect_next_ask}
use Rattle.fkv_epoch.specs.Refreshing.{refresh_ask, refresh_next, refresh_finish}
use Rattle.fkv_epoch.specs.Claiming.{claim_ask}
use Rattle.fkv_epoch.specs.Raising.{raise_ask, raise_next, raise_next_ask}
use Rattle.fkv_epoch.specs.EpochWorld.{Protects, Refreshes, OfPhase, OfReadOnly, OfHead}
use Rattle.fkv_epoch.specs.Told.{sight_place, LoadsItsSight, IsSpent, SeeksSlot}
use Rattle.fkv_epoch.proofs.Facts.{phase_is_stored}
use Rattle.fkv_epoch.proofs.laws.law_of_what_is_loaded.Goals as goal

loads_its_sight : LoadsItsSight
unfolding protect_ask refresh_ask
loads_its_sight session (Protects protect.LoadsPhase) OfPhase said = refl
loads_its_sight session (Protects (protect.LoadsReadOnly phase)) OfReadOnly said = refl
loads_its_sight session (Protects (protect.LoadsHead phase read_only)) OfHead said = refl
loads_its_sight session (Refreshes (refresh.LoadsPhase epoch)) OfPhase said = refl
loads_its_sight session (Refreshes (refresh.LoadsReadOnly epoch phase)) OfReadOnly said = refl
loads_its_sight session (Refreshes (refresh.LoadsHead epoch phase read_only)) OfHead said = refl
loads_its_sight session machine sight said = cc

pub returns-clause-sights : goal.returns-clause-sights
returns-clause-sights c = loads_its_sight

pub returns-clause-refresh : goal.returns-clause-refresh
unfolding refresh_ask refresh_next refresh_finish
returns-clause-refresh c = λ session epoch phase read_only head reply. record { asks = refl; has_loaded = refl; stores = refl }

pub returns-clause-protect : goal.returns-clause-protect
unfolding protect_ask protect_next protect_next_ask
returns-clause-protect c = λ session epoch stored phase read_only head. record { asks = refl; is_through = refl }

pub returns-clause-seen : goal.returns-clause-seen
returns-clause-seen c = λ phase read_only head. record { its_phase = refl; its_read_only = refl; its_head = refl }

is_spent : (epoch : ℕ) → nat_le last_epoch epoch ≡ true → IsSpent epoch
unfolding raise_next raise_next_ask
is_spent epoch last = record { answers = rw last; is_through = rw last }

seeks_slot : (epoch : ℕ) → nat_le last_epoch epoch ≡ false → SeeksSlot epoch
unfolding raise_ask raise_next raise_next_ask
seeks_slot epoch below = record { asks = rw below; meets = rw below }

pub returns-clause-raise : goal.returns-clause-raise
unfolding raise_ask
returns-clause-raise c = record { loads = refl; spent = λ epoch last. is_spent epoch (grind (arith, nat_tests, last)); seeks = λ epoch below. seeks_slot epoch (grind (arith, nat_tests, below)) }

pub returns-clause-phase : goal.returns-clause-phase
unfolding claim_ask
returns-clause-phase c = λ slot epoch safe x. ap (λ word. Store (sight_place OfPhase) word) (phase_is_stored x)
