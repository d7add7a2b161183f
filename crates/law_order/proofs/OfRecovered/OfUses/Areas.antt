-- No commit of a life has written where the opened triples stand.
use Rattle.std.proofs.Common.{◌≡◌, inl, inr, ℕ, ◌≤◌, ◌∙◌, arith, sym, ap, subst, List}
use Rattle.fkv_base.specs.declared.commits.CommitKind.{CommitKind}
use Rattle.fkv_base.specs.declared.commits.CommitKind.TheVariants.{Full}
use Rattle.fkv_base.specs.declared.numbers.Version.{Version}
use Rattle.law_opening.specs.Below.fkv_core.Openings.{IsOpeningWorld}
use Rattle.law_commit.specs.Below.fkv_keeper.Keeping.{Finality}
use Rattle.law_commit.specs.Below.fkv_keeper.Checkpoint.{Checkpoint}
use Rattle.law_opening.specs.Below.fkv_opening.TheOpened.{Opened}
use Rattle.law_commit.specs.Below.fkv_world.World.{Event, Now}
use Rattle.law_commit.specs.BegunCommits.{BegunCommit, commit_opened}
use Rattle.law_commit.specs.CommitParts.{kind_opened, triples_opened}
use Rattle.law_order.specs.Images.Fits.{AllFit}
use Rattle.law_order.specs.Images.Named.{AreTriplesOf, IsMadeBy, begun_so_far}
use Rattle.law_commit.specs.Below.law_world.Standing.Standing.{triples_in}

pub opened_older : (o : Opened) (n : Now) → IsOpeningWorld o n → n.keeper.last.checkpoint.number.0 ≤ o.number.0
opened_older o n its = subst (λ (last : Finality). last.checkpoint.number.0 ≤ o.number.0) (sym its.its_keeper.newest) o.no_newer

made_opened : (n : Now) (bytes : List ℕ) (d : BegunCommit) (its : Checkpoint) (stored : List ℕ) → d ≡ commit_opened n bytes → IsMadeBy d its stored → stored ≡ triples_in n.shape bytes its
made_opened n bytes d its stored first made =
    let full : kind_opened n.keeper.last ≡ Full = sym (ap (λ (x : BegunCommit). x.parts.kind) first) ∙ made.full in
    let own : (let last = n.keeper.last in last.checkpoint) ≡ its = sym (ap (λ (x : BegunCommit). x.parts.checkpoint) first) ∙ made.checkpoint in
    let wrote : d.parts.triples ≡ triples_in n.shape bytes (let last = n.keeper.last in last.checkpoint) =
    ap (λ (x : BegunCommit). x.parts.triples) first ∙ ap (λ (k : CommitKind). triples_opened k (triples_in n.shape bytes n.keeper.last.checkpoint)) full in
    sym made.triples ∙ (wrote ∙ ap (λ (x : Checkpoint). triples_in n.shape bytes x) own)

pub same_triples : (o : Opened) (n : Now) (bytes : List ℕ) (events : List Event) (image : List ℕ) (c : BegunCommit) → IsOpeningWorld o n → AllFit o n bytes events → c.parts.checkpoint ≡ n.keeper.last.checkpoint
    → AreTriplesOf n.shape bytes (commit_opened n bytes) (begun_so_far n bytes events) c.parts.checkpoint (triples_in n.shape image c.parts.checkpoint)
    → triples_in n.shape image c.parts.checkpoint ≡ triples_in n.shape bytes c.parts.checkpoint
same_triples o n bytes events image c begins fit used (inr old) = old.1
same_triples o n bytes events image c begins fit used (inl by) =
    let d : BegunCommit = by.0 in
    let made : IsMadeBy d c.parts.checkpoint (triples_in n.shape image c.parts.checkpoint) = by.2 in
    elim (fit d by.1) [
      | inl fits ↦
          let number : d.number.0 ≡ n.keeper.last.checkpoint.number.0 = sym (ap (λ (v : Version). v.0) made.own) ∙ ap (λ (x : Checkpoint). x.number.0) (made.checkpoint ∙ used) in
          let older = opened_older o n begins in
          let newer = fits.newer in
          absurd (omega (arith, number, older, newer))
      | inr first ↦ made_opened n bytes d c.parts.checkpoint (triples_in n.shape image c.parts.checkpoint) first made
    ]
