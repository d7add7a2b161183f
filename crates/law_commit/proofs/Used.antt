-- The checkpoint that the commit in hand uses, as it is written.
use Rattle.std.proofs.Common.{◌≡◌, ◌∙◌, ℕ, List, ap, sym, subst}
use Rattle.std.specs.Prelude.{Some}
use Rattle.fkv_base.specs.declared.commits.CommitKind.{CommitKind}
use Rattle.fkv_base.specs.declared.commits.CommitKind.TheVariants.{Full, Log}
use Rattle.fkv_base.specs.declared.shapes.Shape.{Shape}
use Rattle.fkv_plane.specs.declared.places.Places.{Places}
use Rattle.law_refine.specs.Below.fkv_commit.Commit.{Commit}
use Rattle.law_refine.specs.Below.fkv_keeper.Checkpoint.{Checkpoint}
use Rattle.law_refine.specs.Below.fkv_keeper.CheckpointLaws.{IsBehindWait, IsBeingWritten, UsesAs, begun_with, copy_replies}
use Rattle.law_refine.specs.Below.fkv_keeper.Keeping.{KeeperState}
use Rattle.law_refine.specs.Below.fkv_keeper.KeeperRun.{IsOpened, KeeperEvent, Writing, keeper_run, writing}
use Rattle.law_refine.proofs.Below.fkv_keeper.Shown.{come_behind, run_used}
use Rattle.law_commit.proofs.BegunStands.{same_commit}

-- a full one its own, and a log commit the newest finished one's
abbrev pub UsesBy : CommitKind → KeeperState → Commit → Type 0
UsesBy Full s c = (s.used.number ≡ c.number) × (s.used.first ≡ c.first)
UsesBy Log s c = s.used ≡ s.last.checkpoint

uses_by : (kind : CommitKind) (p : Places) (replies : List ℕ) (w : Writing) (s : KeeperState) (c : Commit) → UsesAs kind p replies w s c → UsesBy kind s c
uses_by Full p replies w s c uses = (ap (λ (x : Checkpoint). x.number) uses.used, ap (λ (x : Checkpoint). x.first) uses.used)
uses_by Log p replies w s c uses = uses.used

pub run_uses_by : (shape : Shape) (p : Places) (opening : KeeperState) (events : List KeeperEvent) (c : Commit) → IsOpened opening → IsBehindWait (keeper_run shape p opening events).step → (keeper_run shape p opening events).commit ≡ Some c
    → UsesBy c.kind (keeper_run shape p opening events) c
run_uses_by shape p opening events c opened behind found =
    let s : KeeperState = keeper_run shape p opening events in
    let used : IsBeingWritten p (copy_replies shape p opening events) (begun_with shape p opening events) (writing shape p opening events) s = run_used shape p opening events opened (come_behind s behind) in
    subst (λ (x : Commit). UsesBy x.kind s x) (same_commit used.commit c (sym used.in_hand ∙ found)) (uses_by used.commit.kind p (copy_replies shape p opening events) (writing shape p opening events) s used.commit used.uses)
