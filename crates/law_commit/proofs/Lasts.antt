-- The newest finished commit stays the same in a life, or a newer one comes.
use Rattle.std.proofs.Common.{◌≡◌, ◌⊎◌, inl, inr, ℕ, ◌<◌, ◌∙◌, List, [], ◌∷◌, ◌++◌, refl, ap, sym, subst, arith}
use Rattle.std.specs.Prelude.{Some}
use Rattle.fkv_base.specs.declared.shapes.Shape.{Shape}
use Rattle.fkv_plane.specs.declared.places.Places.{Places}
use Rattle.law_refine.specs.Below.fkv_commit.Commit.{Commit}
use Rattle.law_refine.specs.Below.fkv_keeper.CheckpointLaws.{IsFinished}
use Rattle.law_refine.specs.Below.fkv_keeper.Keeping.{Finality, KeeperState}
use Rattle.law_refine.specs.Below.fkv_keeper.KeeperRun.{IsOpened, KeeperEvent, keeper_happens, keeper_run}
use Rattle.law_refine.specs.Below.fkv_world.Opened.{IsOpenedWorld}
use Rattle.law_refine.specs.Below.fkv_world.OwnEvents.{keeper_events, keeper_part_of}
use Rattle.law_refine.specs.Below.fkv_world.Runs.{World, run}
use Rattle.law_refine.specs.Below.fkv_world.World.{Event}
use Rattle.law_refine.specs.Below.law_world.Guarded.Shows as guard
use Rattle.law_refine.specs.Below.law_world.Standing.Opening.{AreNumbersInTurn}
use Rattle.law_refine.proofs.Below.fkv_keeper.Shown.{each_move}
use Rattle.law_refine.proofs.Below.fkv_world.Shown.{keeper_runs}
use Rattle.law_commit.specs.Phases.Staged.{OpensAtRest}
use Rattle.law_commit.proofs.InTurn.{NextInHand, run_next}
use Rattle.law_commit.proofs.NextNumbers.{numbers_in_turn}
use Rattle.law_commit.proofs.OfPhases.LifeStages.{life_staged}

abbrev pub IsOrNewer : Finality → Finality → Type 0
IsOrNewer before after = (after ≡ before) ⊎ (before.number.0 < after.number.0)

and_then : (x y z : Finality) → IsOrNewer x y → IsOrNewer y z → IsOrNewer x z
and_then x y z (inl one) (inl other) = inl (other ∙ one)
and_then x y z (inl one) (inr more) = (let same = ap (λ (f : Finality). f.number.0) one in inr (omega (arith, same, more)))
and_then x y z (inr more) (inl other) = (let same = ap (λ (f : Finality). f.number.0) other in inr (omega (arith, same, more)))
and_then x y z (inr more) (inr last) = inr (omega (arith, more, last))

-- ---- of a keeper
event_last : (shape : Shape) (p : Places) (s : KeeperState) (event : KeeperEvent) → NextInHand s → IsOrNewer s.last (keeper_happens shape p s event).last
event_last shape p s event next = by (each_move shape p s event).lists.lists
  where
    a : KeeperState
    a = keeper_happens shape p s event

    by : ((a.last ≡ s.last) × (a.lost ≡ s.lost)) ⊎ ((c : Commit) × (s.commit ≡ Some c) × IsFinished s a c) → IsOrNewer s.last a.last
    by (inl same) = inl same.0
    by (inr ends) =
        let number = ap (λ (f : Finality). f.number.0) ends.2.last in
        let follows = next ends.0 ends.1 in
        inr (omega (arith, number, follows))

later_last : (shape : Shape) (p : Places) (opening : KeeperState) (later own : List KeeperEvent) → IsOpened opening → AreNumbersInTurn shape p opening (later ++ own) → IsOrNewer (keeper_run shape p opening own).last (keeper_run shape p opening (later ++ own)).last
unfolding keeper_run AreNumbersInTurn
later_last shape p opening [] own opened turn = inl refl
later_last shape p opening (event ∷ later) own opened turn =
    let s : KeeperState = keeper_run shape p opening (later ++ own) in
    and_then (keeper_run shape p opening own).last s.last (keeper_happens shape p s event).last (later_last shape p opening later own opened turn.1) (event_last shape p s event (run_next shape p opening (later ++ own) opened turn.1))

-- ---- in a life
module _ (opening : World) (start : ℕ) (guarded : guard.IsOpened opening.now start) (opened : IsOpenedWorld opening) (rests : OpensAtRest opening.now) where
  one_last : (event : Event) (before : List Event) → IsOrNewer (run opening before).now.keeper.last (run opening (event ∷ before)).now.keeper.last
  unfolding keeper_events
  one_last event before =
      let own : List KeeperEvent = keeper_events opening before in
      let part : List KeeperEvent = keeper_part_of (run opening before) event in
      let turn = numbers_in_turn opening (event ∷ before) opened (life_staged opening start (event ∷ before) guarded opened rests).rests in
      let goes = later_last opening.now.shape opening.now.places opening.now.keeper part own opened.keeper turn in
      subst (λ (s : KeeperState). IsOrNewer s.last (run opening (event ∷ before)).now.keeper.last) (sym (keeper_runs opening before))
      (subst (λ (s : KeeperState). IsOrNewer (keeper_run opening.now.shape opening.now.places opening.now.keeper own).last s.last) (sym (keeper_runs opening (event ∷ before))) goes)

  pub life_last : (later moment : List Event) → IsOrNewer (run opening moment).now.keeper.last (run opening (later ++ moment)).now.keeper.last
  life_last [] moment = inl refl
  life_last (event ∷ later) moment =
      and_then (run opening moment).now.keeper.last (run opening (later ++ moment)).now.keeper.last (run opening (event ∷ (later ++ moment))).now.keeper.last (life_last later moment) (one_last event (later ++ moment))
