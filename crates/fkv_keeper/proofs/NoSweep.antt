-- A step that lets go on what rests, and nothing else, begins no sweep.
use Rattle.std.proofs.Common.{◌≡◌, ◌∙◌, ℕ, Bool, true, false, ap, sym, refl, inl, inr, subst}
use Rattle.std.specs.Prelude.{Option, None, not, ◌&&◌, ◌||◌, if◌then◌else◌}
use Rattle.std.specs.Option.{is_some}
use Rattle.fkv_base.specs.declared.shapes.Shape.{Shape}
use Rattle.fkv_words.specs.PhaseWords.{phase_said}
use Rattle.fkv_plane.specs.declared.places.Places.{Places}
use Rattle.fkv_commit.specs.declared.commits.Commit.{Commit}
use Rattle.fkv_maintain.specs.Maintaining.{is_flush_resting}
use Rattle.fkv_keeper.specs.declared.keepers.Keeping.{Keeping}
use Rattle.fkv_keeper.specs.declared.keepers.Keeping.TheVariants.{LoadsPhase, Finishes, Sweeps}
use Rattle.fkv_keeper.specs.CheckpointLaws.{MayStep}
use Rattle.fkv_keeper.specs.Keeping.{KeeperState, granted_for, is_resting, keeper_next, keeping_next, phase_ledto, sweeps_next, turned, unless_flush_rests}
use Rattle.fkv_keeper.specs.KeeperRun.{Replies, keeper_happens}
use Rattle.fkv_keeper.specs.SweepLaws.{IsSweepAfter}
use Rattle.fkv_keeper.proofs.CheckpointMoves.{each_move}
use Rattle.fkv_keeper.proofs.SweepMoves.{sweep_moves}

-- whether something rests that may go on: a flush, or the writes of the commit in hand
abbrev pub rest_goes_on : KeeperState → Bool
rest_goes_on s = is_flush_resting s.maintain || (s.rests && is_some s.commit)

-- what is granted then, with no commit in hand, and where no flush rests: nothing
granted_none : (rests flush has_room : Bool) → flush ≡ false → (if (rests || flush) || not false then (flush || (rests && false)) else has_room) ≡ false
granted_none true true has_room e = cc
granted_none true false has_room e = refl
granted_none false true has_room e = cc
granted_none false false has_room e = refl

none_granted : (s : KeeperState) (has_room : Bool) → s.commit ≡ None → is_flush_resting s.maintain ≡ false → granted_for s has_room (rest_goes_on s) ≡ false
none_granted s has_room none e =
    ap (λ (c : Option Commit). if is_resting s || not (is_some c) then (is_flush_resting s.maintain || (s.rests && is_some c)) else has_room) none ∙ granted_none s.rests (is_flush_resting s.maintain) has_room e

-- so no sweep goes on
not_swept : (s : KeeperState) (granted flush : Bool) → (flush ≡ false → granted ≡ false) → (if flush then turned (record s { is_granted = granted }) else sweeps_next s granted).step ≡ Sweeps → ⊥
not_swept s granted true so is = cc
not_swept s true false so is = let never : true ≡ false = so refl in cc
not_swept s false false so is = cc

phase_leads : (shape : Shape) (p : Places) (s : KeeperState) (reply : ℕ) (granted : Bool) → s.step ≡ LoadsPhase → s.commit ≡ None → keeper_next shape p s reply granted ≡ unless_flush_rests s granted (sweeps_next s granted)
unfolding keeping_next phase_ledto
phase_leads shape p s reply granted e none = ap (λ (step : Keeping). keeping_next shape p s step reply granted) e ∙ ap (λ (c : Option Commit). phase_ledto p s c (phase_said reply) granted) none

never_finished : (rests : Bool) → MayStep rests Finishes Sweeps → ⊥
never_finished true steps = steps
never_finished false steps = steps

module _ (shape : Shape) (p : Places) (s : KeeperState) (reply : ℕ) (has_room : Bool) where
  abbrev granted : Bool
  granted = granted_for s has_room (rest_goes_on s)

  abbrev after : KeeperState
  after = keeper_next shape p s reply granted

  swept_after : IsSweepAfter (Replies reply granted) s.step s after
  unfolding keeper_happens
  swept_after = sweep_moves shape p s (Replies reply granted)

  steps_after : MayStep s.rests s.step after.step
  unfolding keeper_happens
  steps_after = (each_move shape p s (Replies reply granted)).one.steps

  none_from : (step : Keeping) → s.step ≡ step → IsSweepAfter (Replies reply granted) step s after → after.step ≡ Sweeps → s.step ≡ Sweeps
  none_from Sweeps e its sweeps = e
  none_from LoadsPhase e (inl left) sweeps = left.none_begins sweeps
  none_from LoadsPhase e (inr begun) sweeps =
      absurd (not_swept s granted (is_flush_resting s.maintain) (λ flush. none_granted s has_room begun.no_commit flush) (sym (ap (λ (x : KeeperState). x.step) (phase_leads shape p s reply granted e begun.no_commit)) ∙ sweeps))
  none_from Finishes e (inl left) sweeps = left.none_begins sweeps
  none_from Finishes e (inr set) sweeps = absurd (never_finished s.rests (subst (λ (x : Keeping). MayStep s.rests Finishes x) sweeps (subst (λ (x : Keeping). MayStep s.rests x after.step) e steps_after)))
  none_from step e left sweeps = left.none_begins sweeps

  pub none_let : after.step ≡ Sweeps → s.step ≡ Sweeps
  none_let sweeps = none_from s.step refl swept_after sweeps
