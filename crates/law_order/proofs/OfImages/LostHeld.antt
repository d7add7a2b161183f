-- The lost ranges in hand: those with which the store was opened, until a full commit is finished. From then on the checkpoint is newer.
use Rattle.std.proofs.Common.{◌≡◌, ◌⊎◌, inl, inr, ℕ, ◌<◌, ◌∙◌, arith, refl, sym, ap, subst, List, [], ◌∷◌}
use Rattle.std.specs.Prelude.{Some}
use Rattle.fkv_base.specs.declared.commits.CommitKind.{CommitKind}
use Rattle.fkv_base.specs.declared.commits.CommitKind.TheVariants.{Full, Log}
use Rattle.fkv_base.specs.declared.shapes.Shape.{Shape}
use Rattle.law_commit.specs.Below.fkv_commit.Commit.{Commit}
use Rattle.law_commit.specs.Below.fkv_keeper.CheckpointLaws.{IsBehindWait, IsFinished, UsesAs, copy_replies}
use Rattle.law_commit.specs.Below.fkv_keeper.Keeping.{Finality, KeeperState, lost_left}
use Rattle.law_commit.specs.Below.fkv_keeper.KeeperRun.{IsOpened, KeeperEvent, Writing, keeper_happens, keeper_run, writing}
use Rattle.law_commit.specs.Below.fkv_keeper.Checkpoint.{Checkpoint}
use Rattle.law_commit.proofs.Below.fkv_keeper.Shown.{come_behind, each_move, run_used}
use Rattle.fkv_plane.specs.declared.places.Places.{Places}
use Rattle.fkv_record.specs.declared.lost_ranges.LostRange.{LostRange}
use Rattle.law_order.proofs.OfImages.WordsRead.{Always, always_last}

-- these ranges with this checkpoint, or none with one that is newer than a number
abbrev pub HoldsLost : ℕ → List LostRange → Checkpoint → List LostRange → Checkpoint → Type 0
HoldsLost least first checkpoint lost used = ((lost ≡ []) × (least < used.number.0)) ⊎ ((lost ≡ first) × (used ≡ checkpoint))

-- the commit that is being written is newer than that
abbrev pub HandIsNewer : ℕ → KeeperState → Type 0
HandIsNewer least s = (c : Commit) → s.commit ≡ Some c → IsBehindWait s.step → least < c.number.0

-- a full commit uses a checkpoint of its own number, and a log commit the last one's
abbrev pub UsesBy : CommitKind → KeeperState → Commit → Type 0
UsesBy Full s c = s.used.number.0 ≡ c.number.0
UsesBy Log s c = s.used ≡ s.last.checkpoint

pub left_held : (least : ℕ) (first : List LostRange) (checkpoint : Checkpoint) (kind : CommitKind) (s : KeeperState) (c : Commit) → HoldsLost least first checkpoint s.lost s.last.checkpoint → UsesBy kind s c → least < c.number.0
    → HoldsLost least first checkpoint (lost_left kind s.lost) s.used
left_held least first checkpoint Full s c held uses newer = inl (refl, omega (arith, uses, newer))
left_held least first checkpoint Log s c (inl none) uses newer = inl (none.0, subst (λ (x : Checkpoint). least < x.number.0) (sym uses) none.1)
left_held least first checkpoint Log s c (inr its) uses newer = inr (its.0, uses ∙ its.1)

uses_by : (kind : CommitKind) (p : Places) (replies : List ℕ) (w : Writing) (s : KeeperState) (c : Commit) → UsesAs kind p replies w s c → UsesBy kind s c
uses_by Log p replies w s c uses = uses.used
uses_by Full p replies w s c uses = ap (λ (x : Checkpoint). x.number.0) uses.used

pub run_uses : (shape : Shape) (p : Places) (opening : KeeperState) (events : List KeeperEvent) (c : Commit) → IsOpened opening → IsBehindWait (keeper_run shape p opening events).step → (keeper_run shape p opening events).commit ≡ Some c
    → UsesBy c.kind (keeper_run shape p opening events) c
run_uses shape p opening events c opened behind found =
    let its = run_used shape p opening events opened (come_behind (keeper_run shape p opening events) behind) in
    let same : its.commit ≡ c = (let both : Some its.commit ≡ Some c = sym its.in_hand ∙ found in cc) in
    subst (λ (x : Commit). UsesBy x.kind (keeper_run shape p opening events) x) same (uses_by its.commit.kind p (copy_replies shape p opening events) (writing shape p opening events) (keeper_run shape p opening events) its.commit its.uses)

event_held : (least : ℕ) (first : List LostRange) (checkpoint : Checkpoint) (s a : KeeperState) → HoldsLost least first checkpoint s.lost s.last.checkpoint → HandIsNewer least s → ((c : Commit) → s.commit ≡ Some c → IsBehindWait s.step → UsesBy c.kind s c)
    → ((a.last ≡ s.last) × (a.lost ≡ s.lost)) ⊎ ((c : Commit) × (s.commit ≡ Some c) × IsFinished s a c) → HoldsLost least first checkpoint a.lost a.last.checkpoint
event_held least first checkpoint s a held newer uses (inl same) =
    subst (λ (x : Finality). HoldsLost least first checkpoint a.lost x.checkpoint) (sym same.0) (subst (λ (x : List LostRange). HoldsLost least first checkpoint x s.last.checkpoint) (sym same.1) held)
event_held least first checkpoint s a held newer uses (inr over) =
    let c : Commit = over.0 in
    let its = over.2 in
    let behind : IsBehindWait s.step = subst IsBehindWait (sym its.finishes) tt in
    let left = left_held least first checkpoint c.kind s c held (uses c over.1 behind) (newer c over.1 behind) in
    subst (λ (x : Finality). HoldsLost least first checkpoint a.lost x.checkpoint) (sym its.last) (subst (λ (x : List LostRange). HoldsLost least first checkpoint x s.used) (sym its.lost) left)

pub run_held : (shape : Shape) (p : Places) (least : ℕ) (opening : KeeperState) (events : List KeeperEvent) → IsOpened opening → Always (HandIsNewer least) shape p opening events
    → HoldsLost least opening.lost opening.last.checkpoint (keeper_run shape p opening events).lost (keeper_run shape p opening events).last.checkpoint
unfolding keeper_run Always
run_held shape p least opening [] opened newer = inr (refl, refl)
run_held shape p least opening (event ∷ before) opened newer =
    let s : KeeperState = keeper_run shape p opening before in
    let move = each_move shape p s event in
    event_held least opening.lost opening.last.checkpoint s (keeper_happens shape p s event) (run_held shape p least opening before opened newer.1) (always_last (HandIsNewer least) shape p opening before newer.1)
    (λ c found behind. run_uses shape p opening before c opened behind found) move.lists.lists
