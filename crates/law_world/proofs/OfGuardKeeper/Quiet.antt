-- The keeper where none of the guard's machines is under way: it loads the phase, copies, waits, writes or sweeps, or its call is at its end.
use Rattle.std.proofs.Common.{◌≡◌, ℕ, List, [], refl, ◌∙◌, Bool, true, false}
use Rattle.std.specs.Prelude.{Option, Some, None}
use Rattle.fkv_base.specs.declared.shapes.Shape.{Shape}
use Rattle.fkv_plane.specs.declared.actions.Action.{Action}
use Rattle.fkv_plane.specs.declared.asks.Ask.{Ask}
use Rattle.fkv_plane.specs.declared.asks.Ask.TheVariants.{Done}
use Rattle.fkv_plane.specs.Passing.{passed}
use Rattle.fkv_plane.specs.declared.places.Places.{Places}
use Rattle.fkv_checkpoint.specs.declared.copying.CopyStep.{CopyStep}
use Rattle.fkv_checkpoint.specs.declared.copying.CopyStep.TheVariants as copy
use Rattle.fkv_checkpoint.specs.Copying.{Copier, copy_step_ask}
use Rattle.fkv_commit.specs.declared.waiting.Waiting.{Waiting}
use Rattle.fkv_commit.specs.declared.waiting.Waiting.TheVariants as wait
use Rattle.fkv_commit.specs.Waiting.{waiting_ask, wait_ask}
use Rattle.fkv_index.specs.declared.finding.Finding.{Finding}
use Rattle.fkv_index.specs.declared.finding.FindStep.{FindStep}
use Rattle.fkv_index.specs.declared.finding.FindStep.TheVariants as find
use Rattle.fkv_index.specs.Finding.{find_ask, find_step_ask}
use Rattle.fkv_sweep.specs.declared.sweeping.SweepAnswer.{SweepAnswer}
use Rattle.fkv_sweep.specs.declared.sweeping.SweepAnswer.TheVariants as swept
use Rattle.fkv_sweep.specs.declared.sweeping.Sweeping.{Sweeping}
use Rattle.fkv_sweep.specs.declared.sweeping.Sweeping.TheVariants as sweep
use Rattle.fkv_sweep.specs.Sweeping.{Sweeper, sweep_ask, sweeping_ask}
use Rattle.fkv_flush.specs.GuardSeen.{LastSeen}
use Rattle.fkv_flush.specs.GuardWorld.{GuardNow, GuardEvent}
use Rattle.fkv_flush.proofs.Shown.{Follows}
use Rattle.fkv_manifest.specs.declared.answers.WriteAnswer.{WriteAnswer}
use Rattle.fkv_manifest.specs.declared.answers.WriteAnswer.TheVariants as write
use Rattle.fkv_manifest.specs.Committing.{commit_answer}
use Rattle.fkv_keeper.specs.declared.answers.KeeperTold.{KeeperTold}
use Rattle.fkv_keeper.specs.declared.keepers.Keeping.{Keeping}
use Rattle.fkv_keeper.specs.declared.keepers.Keeping.TheVariants as keeping
use Rattle.fkv_keeper.specs.Keeping.{KeeperState, copy_asked, sweep_passed, write_asked, keeping_ask, keeper_ask, turn_over}
use Rattle.law_world.specs.GuardKeeper.KeeperShown.{OfStore}
use Rattle.law_world.specs.GuardKeeper.KeeperEvents.{part_begins}
use Rattle.law_world.specs.GuardKeeper.Settled.{is_of_slot}
use Rattle.law_world.specs.GuardKeeper.Followed.{KeeperLed, likeness}
use Rattle.law_world.proofs.OfGuardKeeper.KeeperLed.{StepLed, slotless_step}
use Rattle.law_world.proofs.OfGuardKeeper.Slots.{passed_slot}

abbrev pub is_quiet : Keeping → Bool
is_quiet (keeping.Ended its) = true
is_quiet keeping.LoadsPhase = true
is_quiet keeping.Copies = true
is_quiet keeping.Waits = true
is_quiet keeping.Writes = true
is_quiet keeping.Sweeps = true
is_quiet step = false

-- the keeper has come there, and is one of the store as before
pub record IsQuietAs (s there : KeeperState) : Type 0 where
  pub quiet : is_quiet there.step ≡ true
  pub store : (p : Places) → OfStore p s → OfStore p there

quiet_at : (n : GuardNow) (a : ℕ) (events : List GuardEvent) (seen : LastSeen) (there : KeeperState) (step : Keeping) (words : List ℕ) (actions : List (Option Action)) → is_quiet step ≡ true → OfStore n.places there
    → Follows n a events (likeness seen None None) words actions → KeeperLed n a events seen (record there { step = step }) words actions
quiet_at n a events seen there (keeping.Ended its) words actions quiet same f = record { follows = f; knows = record { sessions = same.0; loads = same.1; its = tt } }
quiet_at n a events seen there keeping.LoadsPhase words actions quiet same f = record { follows = f; knows = record { sessions = same.0; loads = same.1; its = tt } }
quiet_at n a events seen there keeping.Copies words actions quiet same f = record { follows = f; knows = record { sessions = same.0; loads = same.1; its = tt } }
quiet_at n a events seen there keeping.Waits words actions quiet same f = record { follows = f; knows = record { sessions = same.0; loads = same.1; its = tt } }
quiet_at n a events seen there keeping.Writes words actions quiet same f = record { follows = f; knows = record { sessions = same.0; loads = same.1; its = tt } }
quiet_at n a events seen there keeping.Sweeps words actions quiet same f = record { follows = f; knows = record { sessions = same.0; loads = same.1; its = tt } }
quiet_at n a events seen there step words actions quiet same f = cc

pub quiet_led : (n : GuardNow) (a : ℕ) (events : List GuardEvent) (seen : LastSeen) (there : KeeperState) (words : List ℕ) (actions : List (Option Action)) → is_quiet there.step ≡ true → OfStore n.places there
    → Follows n a events (likeness seen None None) words actions → KeeperLed n a events seen there words actions
quiet_led n a events seen there words actions quiet same f = quiet_at n a events seen there there.step words actions quiet same f

copy_slot_at : (base : ℕ) (step : CopyStep) → is_of_slot (copy_step_ask base step) ≡ false
unfolding copy_step_ask
copy_slot_at base copy.Ended = refl
copy_slot_at base (copy.LoadsSlot slot) = refl
copy_slot_at base copy.LoadsLink = refl

pub copy_slot : (its : Option Copier) → is_of_slot (copy_asked its) ≡ false
copy_slot None = refl
copy_slot (Some m) = copy_slot_at m.copying.base m.copying.step

wait_slot : (step : Waiting) → is_of_slot (waiting_ask step) ≡ false
unfolding waiting_ask
wait_slot (wait.Ended its) = refl
wait_slot wait.LoadsSafe = refl
wait_slot wait.LoadsFlushed = refl

write_slot : (its : WriteAnswer) (told : KeeperTold) → is_of_slot (write_asked its told) ≡ false
write_slot write.Device told = refl
write_slot write.Written told = refl
write_slot (write.Broken why) told = refl

find_slot : (f : Finding) (step : FindStep) → is_of_slot (find_step_ask f step) ≡ false
unfolding find_step_ask
find_slot f find.AtRest = refl
find_slot f step = refl

sweeping_slot : (w : Sweeper) (step : Sweeping) → is_of_slot (sweeping_ask w step) ≡ false
unfolding sweeping_ask
sweeping_slot w (sweep.Finds key) = passed_slot (find_ask w.finding) swept.Through ∙ find_slot w.finding w.finding.step
sweeping_slot w step = refl

sweep_slot : (ask : Ask SweepAnswer) (told : KeeperTold) → is_of_slot (sweep_passed ask told) ≡ is_of_slot ask
unfolding sweep_passed passed
sweep_slot (Done swept.Device) told = refl
sweep_slot (Done swept.Through) told = refl
sweep_slot ask told = passed_slot ask told

pub quiet_slot_at : (shape : Shape) (p : Places) (s : KeeperState) (step : Keeping) → is_quiet step ≡ true → is_of_slot (keeping_ask shape p s step) ≡ false
unfolding keeping_ask
quiet_slot_at shape p s (keeping.Ended its) quiet = refl
quiet_slot_at shape p s keeping.LoadsPhase quiet = refl
quiet_slot_at shape p s keeping.Copies quiet = passed_slot (copy_asked s.copy) (turn_over s) ∙ copy_slot s.copy
quiet_slot_at shape p s keeping.Waits quiet = passed_slot (wait_ask s.wait) (turn_over s) ∙ wait_slot s.wait.step
quiet_slot_at shape p s keeping.Writes quiet = write_slot (commit_answer s.writes) (turn_over s)
quiet_slot_at shape p s keeping.Sweeps quiet = sweep_slot (sweep_ask s.sweep) (turn_over s) ∙ sweeping_slot s.sweep s.sweep.step
quiet_slot_at shape p s step quiet = cc

-- it asks nothing of a slot
pub quiet_slot : (shape : Shape) (p : Places) (s : KeeperState) → is_quiet s.step ≡ true → is_of_slot (keeper_ask shape p s) ≡ false
quiet_slot shape p s quiet = quiet_slot_at shape p s s.step quiet

pub quiet_step : (n : GuardNow) (a : ℕ) (events : List GuardEvent) (seen : LastSeen) (granted : Bool) (there : KeeperState) (words : List ℕ) → is_quiet there.step ≡ true → OfStore n.places there
    → Follows n a events (likeness seen None None) words n.actions → StepLed n a events seen granted there words
quiet_step n a events seen granted there words quiet same f =
    slotless_step n a events seen granted there words (quiet_slot n.shape n.places there quiet) (quiet_led n a events seen there words n.actions quiet same f)

-- nothing of the guard's begins with it
pub quiet_begins : (a : ℕ) (s : KeeperState) (step : Keeping) → is_quiet step ≡ true → part_begins a s step ≡ []
quiet_begins a s (keeping.Ended its) quiet = refl
quiet_begins a s keeping.LoadsPhase quiet = refl
quiet_begins a s keeping.Copies quiet = refl
quiet_begins a s keeping.Waits quiet = refl
quiet_begins a s keeping.Writes quiet = refl
quiet_begins a s keeping.Sweeps quiet = refl
quiet_begins a s step quiet = cc
