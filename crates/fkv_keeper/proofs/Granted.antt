-- What was granted counts only where a copy or a sweep begins or is refused, or writes or a flush rest, and there the state says it.
use Rattle.std.proofs.Common.{◌≡◌, ℕ, Bool, true, false, refl}
use Rattle.std.specs.Prelude.{◌&&◌, ◌||◌, Option, Some, None, if◌then◌else◌}
use Rattle.fkv_base.specs.declared.faults.Fault.TheVariants as fault
use Rattle.fkv_base.specs.declared.phases.Phase.TheVariants as phase
use Rattle.fkv_base.specs.declared.shapes.Shape.{Shape}
use Rattle.fkv_words.specs.declared.phase_words.PhaseSaid.{PhaseSaid}
use Rattle.fkv_words.specs.declared.phase_words.PhaseSaid.TheVariants.{Says, Spoiled}
use Rattle.fkv_words.specs.PhaseWords.{phase_said}
use Rattle.fkv_plane.specs.declared.places.Places.{Places}
use Rattle.fkv_checkpoint.specs.Copying.{copy_begun}
use Rattle.fkv_commit.specs.declared.commits.Commit.{Commit}
use Rattle.fkv_commit.specs.Entering.{enter_begun}
use Rattle.fkv_commit.specs.Seeking.{seek_begun}
use Rattle.fkv_keeper.specs.declared.answers.KeeperTold.TheVariants.{TurnRefused}
use Rattle.fkv_keeper.specs.declared.keepers.Keeping.{Keeping}
use Rattle.fkv_keeper.specs.declared.keepers.Keeping.TheVariants.{LoadsPhase, Enters, Copies, Seeks, Sweeps}
use Rattle.fkv_maintain.specs.Maintaining.{is_flush_resting}
use Rattle.fkv_sweep.specs.Sweeping.{is_sweeping, turn_begun}
use Rattle.fkv_keeper.specs.Keeping.{KeeperState, is_copy_resting, ended, turned, copies, part_begun, writes_taken_up, phase_ledto, keeping_next, keeper_next, sweeps_next, unless_flush_rests}

-- a step that goes by the grant leads where its state says
abbrev SaysGranted : (Bool → KeeperState) → Bool → Type 0
SaysGranted leads granted = leads granted ≡ leads (leads granted).is_granted

copies_says : (p : Places) (s : KeeperState) (granted : Bool) → SaysGranted (copies p s) granted
copies_says p s true = refl
copies_says p s false = by_rest (is_copy_resting s.copy)
  where
    led : Bool → Bool → KeeperState
    led rests granted = if granted || rests then record s { copy = if rests then s.copy else Some (copy_begun p); is_granted = true; step = Copies } else ended (record s { is_granted = false }) (TurnRefused fault.Memory)

    by_rest : (rests : Bool) → led rests false ≡ led rests (led rests false).is_granted
    by_rest true = refl
    by_rest false = refl

either_says : (p : Places) (s : KeeperState) (is_copied : Bool) (other : KeeperState) (granted : Bool) → SaysGranted (λ g. if is_copied then other else copies p s g) granted
either_says p s true other granted = refl
either_says p s false other granted = copies_says p s granted

entered_says : (p : Places) (s : KeeperState) (has_entered is_copied : Bool) (copied entered : KeeperState) (granted : Bool)
    → SaysGranted (λ g. if has_entered then (if is_copied then copied else copies p s g) else entered) granted
entered_says p s true is_copied copied entered granted = either_says p s is_copied copied granted
entered_says p s false is_copied copied entered granted = refl

part_says : (p : Places) (s : KeeperState) (c : Commit) (said : PhaseSaid) (granted : Bool) → SaysGranted (part_begun p s c said) granted
part_says p s c (Says phase.InProgress version) granted = entered_says p s s.has_entered c.is_copied (turned s) (record s { enter = enter_begun s.enter c.number; step = Enters }) granted
part_says p s c (Says phase.WaitPending version) granted = either_says p s c.is_copied (record s { seek = seek_begun s.seek c.number s.last.points; has_points = false; step = Seeks }) granted
part_says p s c (Says phase.WaitFlush version) granted = refl
part_says p s c (Says phase.Rest version) granted = refl
part_says p s c (Says phase.Prepare version) granted = refl
part_says p s c Spoiled granted = refl

lets_says : (s : KeeperState) (its : Bool → KeeperState) (granted rests : Bool) → SaysGranted its granted → SaysGranted (λ g. if rests then turned (record s { is_granted = g }) else its g) granted
lets_says s its granted true says = refl
lets_says s its granted false says = says

sweeps_says : (s : KeeperState) (granted : Bool) → SaysGranted (sweeps_next s) granted
sweeps_says s true = by_goes (is_sweeping s.sweep)
  where
    led : Bool → Bool → KeeperState
    led goes granted = if granted && goes then record s { sweep = turn_begun s.sweep; is_granted = true; step = Sweeps } else turned (record s { is_granted = granted })

    by_goes : (goes : Bool) → led goes true ≡ led goes (led goes true).is_granted
    by_goes true = refl
    by_goes false = refl
sweeps_says s false = refl

phase_says : (p : Places) (s : KeeperState) (commit : Option Commit) (said : PhaseSaid) (granted : Bool) → SaysGranted (phase_ledto p s commit said) granted
unfolding phase_ledto
phase_says p s None said granted = lets_says s (sweeps_next s) granted (is_flush_resting s.maintain) (sweeps_says s granted)
phase_says p s (Some c) said granted = by s.rests granted
  where
    by : (rests granted : Bool) → SaysGranted (λ g. if rests then writes_taken_up s g else unless_flush_rests s g (part_begun p s c said g)) granted
    by true true = refl
    by true false = refl
    by false granted = lets_says s (part_begun p s c said) granted (is_flush_resting s.maintain) (part_says p s c said granted)

step_says : (shape : Shape) (p : Places) (s : KeeperState) (step : Keeping) (reply : ℕ) (granted : Bool) → SaysGranted (keeping_next shape p s step reply) granted
unfolding keeping_next
step_says shape p s LoadsPhase reply granted = phase_says p s s.commit (phase_said reply) granted
step_says shape p s step reply granted = refl

pub is_granted_so : (shape : Shape) (p : Places) (s : KeeperState) (reply : ℕ) (granted : Bool) → keeper_next shape p s reply granted ≡ keeper_next shape p s reply (keeper_next shape p s reply granted).is_granted
is_granted_so shape p s reply granted = step_says shape p s s.step reply granted
