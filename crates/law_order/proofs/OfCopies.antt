-- A full commit has written the copy that was finished and in hand as its end was loaded.
use Rattle.std.proofs.Common.{◌≡◌, inl, inr, ℕ, ◌∙◌, List, ap, refl, sym, subst}
use Rattle.std.specs.Prelude.{◌⊎◌, ◌++◌, Option}
use Rattle.fkv_base.specs.declared.commits.CommitKind.{CommitKind}
use Rattle.fkv_base.specs.declared.commits.CommitKind.TheVariants.{Full}
use Rattle.law_commit.specs.Below.fkv_checkpoint.CopyWorld.{CopyWorld}
use Rattle.law_commit.specs.Below.fkv_checkpoint.Copying.{Copier}
use Rattle.law_commit.specs.Below.fkv_commit.Commit.{Commit}
use Rattle.law_commit.specs.Below.fkv_keeper.CheckpointLaws.{IsBeforeWrites}
use Rattle.law_commit.specs.Below.fkv_keeper.Keeping.{bytes_copied, triples_written}
use Rattle.law_commit.specs.Below.fkv_keeper.TheKeeping.TheVariants.{Seeks}
use Rattle.law_commit.specs.Below.fkv_world.Runs.{World, run}
use Rattle.law_commit.specs.Below.fkv_world.World.{Event}
use Rattle.law_commit.specs.BegunCommits.{BegunCommit, life_begun}
use Rattle.law_commit.specs.Copied.Runs.{HasInHand, seen_by_copy}
use Rattle.law_commit.specs.Decided.Ended.{CommitsHaveEnded, HadMoment, LoadsEnd, Span, span_of, span_opened}
use Rattle.law_commit.specs.Laws.Copied.{CopiesAreInHand, CopiesBeginForCommits}
use Rattle.law_commit.specs.Quiet.{OpensQuiet}
use Rattle.law_log.specs.Trace.{IsIn}
use Rattle.law_commit.specs.Below.law_refine.Index.Shows as index
use Rattle.law_order.specs.Opened.{HasWrittenCopy}
use Rattle.law_order.proofs.OfImages.Resting.{life_comes}

module _ (held : CopiesAreInHand) (begun : CopiesBeginForCommits) (opening : World) (lists : ℕ → List ℕ) (in_order : index.IsOpened opening lists) where
  written_at : (later moment : List Event) (c : BegunCommit) → LoadsEnd (span_of c) (run opening moment).now → c.parts.kind ≡ Full → HasWrittenCopy opening lists (later ++ moment) c
  written_at later moment c its full =
      let copy : CopyWorld = seen_by_copy opening lists moment in
      let commit : Commit = its.commit in
      let kind : commit.kind ≡ Full = ap (λ (x : Span). x.kind) (sym its.its) ∙ full in
      let hand : HasInHand opening.now.places (run opening moment).now.keeper copy =
      held opening lists moment in_order commit its.in_hand kind its.copied its.works (subst IsBeforeWrites (sym (life_comes opening moment Seeks in_order.keeper its.seeks (λ may. may))) tt) in
      record {
        moment = moment;
        later = later;
        split = refl;
        commit = commit;
        in_hand = its.in_hand;
        its = its.its;
        begun = begun opening lists moment in_order commit its.in_hand kind its.copied;
        finished = hand.finished;
        written = its.triples ∙ (ap (λ (k : CommitKind). triples_written k (run opening moment).now.keeper.copy) full ∙ ap (λ (m : Option Copier). bytes_copied m) hand.in_hand);
      }

pub full_written : CommitsHaveEnded → CopiesAreInHand → CopiesBeginForCommits → (opening : World) (start : ℕ) (lists : ℕ → List ℕ) (events : List Event) → OpensQuiet opening start → index.IsOpened opening lists
    → (c : BegunCommit) → IsIn c (life_begun opening events) → c.parts.kind ≡ Full → HasWrittenCopy opening lists events c ⊎ (span_of c ≡ span_opened opening)
full_written ended held begun opening start lists events quiet in_order c there full = elim (ended opening start events c quiet there) [
  | inl its ↦
      let had : HadMoment (LoadsEnd (span_of c)) opening events = its.end in
      inl (subst (λ (e : List Event). HasWrittenCopy opening lists e c) (sym had.split) (written_at held begun opening lists in_order had.later had.moment c had.was full))
  | inr first ↦ inr first
]
