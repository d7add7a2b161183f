-- A full commit writes the copy that is finished as its writes begin.
use Rattle.std.proofs.Common.{◌≡◌, ◌∙◌, sym, ap, subst, refl, List, [], ◌∷◌, ◌++◌}
use Rattle.std.specs.Prelude.{Some}
use Rattle.std.proofs.Common.{append_assoc}
use Rattle.fkv_base.specs.declared.commits.CommitKind.{CommitKind}
use Rattle.fkv_base.specs.declared.commits.CommitKind.TheVariants.{Full}
use Rattle.law_commit.specs.Below.fkv_commit.Commit.{Commit}
use Rattle.law_commit.specs.Below.fkv_keeper.CheckpointLaws.{IsFullWritten, IsWrittenAs}
use Rattle.law_commit.specs.Below.fkv_keeper.KeeperRun.{IsOpened, KeeperEvent, keeper_happens, keeper_run}
use Rattle.law_commit.specs.Below.fkv_keeper.Keeping.{KeeperState}
use Rattle.law_commit.specs.Below.fkv_keeper.TheKeeping.TheVariants.{Waits, Writes}
use Rattle.law_commit.proofs.Below.fkv_keeper.Shown.{run_writes}
use Rattle.law_commit.specs.Below.fkv_world.OwnEvents.{keeper_events, keeper_part_of}
use Rattle.law_commit.specs.Below.fkv_world.Runs.{World, run}
use Rattle.law_commit.specs.Below.fkv_world.World.{Event}
use Rattle.law_commit.specs.BegunCommits.{BegunCommit, commit_opening}
use Rattle.law_order.specs.Images.Copied.{WritesItsCopy}
use Rattle.law_order.proofs.OfImages.Moments.{GoodFrom, IfFirst, event_good, good_on}
use Rattle.law_order.proofs.OfImages.NamedNow.{AllGood}
use Rattle.law_order.proofs.OfImages.WordsRead.{of_part}
use Rattle.law_commit.specs.Below.law_world.Keeper.Lives.{keeper_after, replies_copied}

-- as each full commit does
abbrev pub CopiesIfFull : World → List Event → BegunCommit → Type 0
CopiesIfFull opening events c = c.parts.kind ≡ Full → WritesItsCopy opening events c

module _ (opening : World) (events : List Event) (opened : IsOpened opening.now.keeper) where
  full_copied : (later moment : List Event) (event : KeeperEvent) (c : Commit) → events ≡ later ++ moment
      → (keeper_after opening (keeper_events opening moment)).step ≡ Waits → (keeper_after opening (event ∷ keeper_events opening moment)).step ≡ Writes → (keeper_after opening (event ∷ keeper_events opening moment)).commit ≡ Some c
      → CopiesIfFull opening events (commit_opening (keeper_after opening (event ∷ keeper_events opening moment)) c)
  full_copied later moment event c split waits writes found = λ full.
      let before : List KeeperEvent = keeper_events opening moment in
      let s : KeeperState = keeper_after opening before in
      let a : KeeperState = keeper_after opening (event ∷ before) in
      let its = run_writes opening.now.shape opening.now.places opening.now.keeper before event opened waits writes in
      let same : its.commit ≡ c = (let both : Some its.commit ≡ Some c = sym its.stays ∙ found in cc) in
      let written : IsFullWritten opening.now.shape opening.now.places (replies_copied opening before) s a its.commit =
      subst (λ (k : CommitKind). IsWrittenAs k opening.now.shape opening.now.places (replies_copied opening before) s a its.commit) (ap (λ (x : Commit). x.kind) same ∙ full) its.written in
      record {
        later = later;
        moment = moment;
        split = split;
        waits = waits;
        hand = its.commit;
        in_hand = its.in_hand;
        its = record { number = ap (λ (x : Commit). x.number) (sym same); kind = ap (λ (x : Commit). x.kind) (sym same); first = ap (λ (x : Commit). x.first) (sym same); end = ap (λ (x : Commit). x.end) (sym same) };
        copied = written.copy;
        triples = written.triples;
      }

  first_copied : (later moment : List Event) → events ≡ later ++ moment
      → (let s = keeper_after opening (keeper_events opening moment) in (event : KeeperEvent) → GoodFrom (CopiesIfFull opening events) s (keeper_happens opening.now.shape opening.now.places s event))
  unfolding keeper_run
  first_copied later moment split = λ event c waits writes found. full_copied later moment event c split waits writes found

  copies_on : (later moment : List Event) → events ≡ later ++ moment → AllGood opening.now.shape opening.now.places opening.now.keeper (CopiesIfFull opening events) (keeper_events opening moment)
  unfolding keeper_events
  copies_on later [] split = tt
  copies_on later (event ∷ before) split =
      let here : events ≡ (later ++ event ∷ []) ++ before = split ∙ sym (append_assoc later (event ∷ []) before) in
      let part : List KeeperEvent = keeper_part_of (run opening before) event in
      let new : IfFirst (CopiesIfFull opening events) opening.now.shape opening.now.places (keeper_after opening (keeper_events opening before)) part =
      of_part opening before event (λ x q k own. IfFirst (CopiesIfFull opening events) x q k own) (event_good (CopiesIfFull opening events) (run opening before) event) in
      good_on (CopiesIfFull opening events) opening.now.shape opening.now.places opening.now.keeper part (keeper_events opening before) (new (first_copied (later ++ event ∷ []) before here)) (copies_on (later ++ event ∷ []) before here)

  pub all_copied : AllGood opening.now.shape opening.now.places opening.now.keeper (CopiesIfFull opening events) (keeper_events opening events)
  all_copied = copies_on [] events refl
