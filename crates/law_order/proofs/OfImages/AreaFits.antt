-- The checkpoint that a full commit makes fits into its area.
use Rattle.std.proofs.Common.{◌≡◌, ℕ, ◌^◌, ◌≤◌, ◌∙◌, arith, sym, ap, subst, List, [], ◌∷◌, length}
use Rattle.std.specs.Prelude.{Some}
use Rattle.fkv_base.specs.declared.commits.CommitKind.{CommitKind}
use Rattle.fkv_base.specs.declared.commits.CommitKind.TheVariants.{Full}
use Rattle.fkv_base.specs.declared.shapes.Shape.{Shape}
use Rattle.law_commit.specs.Below.fkv_checkpoint.Copied.{copied_after}
use Rattle.law_commit.proofs.Below.fkv_checkpoint.Shown.{copy_fits}
use Rattle.law_commit.specs.Below.fkv_commit.Commit.{Commit}
use Rattle.law_commit.specs.Below.fkv_keeper.CheckpointLaws.{IsFullWritten, IsWrittenAs, copy_replies}
use Rattle.law_commit.specs.Below.fkv_keeper.Keeping.{KeeperState}
use Rattle.law_commit.specs.Below.fkv_keeper.KeeperRun.{IsOpened, KeeperEvent, keeper_run}
use Rattle.law_commit.specs.Below.fkv_keeper.TheKeeping.TheVariants.{Waits, Writes}
use Rattle.law_commit.specs.Below.fkv_keeper.Checkpoint.{Checkpoint}
use Rattle.law_commit.proofs.Below.fkv_keeper.Shown.{run_writes}
use Rattle.fkv_plane.specs.declared.places.Places.{Places}
use Rattle.fkv_record.specs.Places.{most_triples}
use Rattle.law_commit.specs.BegunCommits.{BegunCommit, commit_opening}
use Rattle.law_order.proofs.OfImages.NamedNow.{AllGood}

-- so it is of each full commit
abbrev pub FitsArea : Shape → BegunCommit → Type 0
FitsArea shape c = c.parts.kind ≡ Full → c.parts.checkpoint.triples ≤ most_triples shape

few_copied : (shape : Shape) (p : Places) (replies : List ℕ) → p.buckets ≡ 2 ^ shape.bucket_bits → p.overflow ≡ shape.overflow → length (copied_after p replies) ≤ most_triples shape
few_copied shape p replies buckets overflow = let few = copy_fits p replies in omega (arith, few, buckets, overflow)

full_fits : (shape : Shape) (p : Places) (replies : List ℕ) (s a : KeeperState) (c : Commit) (kind : CommitKind) → kind ≡ Full → p.buckets ≡ 2 ^ shape.bucket_bits → p.overflow ≡ shape.overflow → IsWrittenAs kind shape p replies s a c → a.used.triples ≤ most_triples shape
full_fits shape p replies s a c kind full buckets overflow written =
    let its : IsFullWritten shape p replies s a c = subst (λ (k : CommitKind). IsWrittenAs k shape p replies s a c) full written in
    subst (λ (x : Checkpoint). x.triples ≤ most_triples shape) (sym its.used) (few_copied shape p replies buckets overflow)

pub begun_fits : (shape : Shape) (p : Places) (opening : KeeperState) (event : KeeperEvent) (before : List KeeperEvent) (c : Commit) → IsOpened opening → p.buckets ≡ 2 ^ shape.bucket_bits → p.overflow ≡ shape.overflow
    → (keeper_run shape p opening before).step ≡ Waits → (keeper_run shape p opening (event ∷ before)).step ≡ Writes → (keeper_run shape p opening (event ∷ before)).commit ≡ Some c
    → FitsArea shape (commit_opening (keeper_run shape p opening (event ∷ before)) c)
begun_fits shape p opening event before c opened buckets overflow waits writes found = λ full.
    let its = run_writes shape p opening before event opened waits writes in
    let same : c ≡ its.commit = (let both : Some c ≡ Some its.commit = sym found ∙ its.stays in cc) in
    full_fits shape p (copy_replies shape p opening before) (keeper_run shape p opening before) (keeper_run shape p opening (event ∷ before)) its.commit its.commit.kind (ap (λ (x : Commit). x.kind) (sym same) ∙ full) buckets overflow its.written

-- what is so of each commit whose writes begin is so of all
pub all_good : (shape : Shape) (p : Places) (opening : KeeperState) (Good : BegunCommit → Type 0)
    → ((event : KeeperEvent) (before : List KeeperEvent) (c : Commit) → (keeper_run shape p opening before).step ≡ Waits → (keeper_run shape p opening (event ∷ before)).step ≡ Writes → (keeper_run shape p opening (event ∷ before)).commit ≡ Some c
    → Good (commit_opening (keeper_run shape p opening (event ∷ before)) c))
    → (events : List KeeperEvent) → AllGood shape p opening Good events
all_good shape p opening Good each [] = tt
all_good shape p opening Good each (event ∷ before) = (λ c waits writes found. each event before c waits writes found, all_good shape p opening Good each before)
