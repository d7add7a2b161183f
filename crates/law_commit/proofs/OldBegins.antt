-- The log of a commit that uses the checkpoint with which the store was opened begins where it did then: until a full commit is finished no sweep is set.
use Rattle.std.proofs.Common.{◌≡◌, ◌⊎◌, inl, inr, ℕ, ◌<◌, ◌≤◌, ◌∙◌, List, [], ◌∷◌, refl, ap, sym, subst, arith, Bool, true, false}
use Rattle.std.specs.Prelude.{Some, ◌&&◌, ◌||◌, ◌==◌, ◌^◌, not, nat_le, if◌then◌else◌}
use Rattle.fkv_base.specs.Limits.{is_specified}
use Rattle.fkv_base.specs.declared.commits.CommitKind.{CommitKind}
use Rattle.fkv_base.specs.declared.commits.CommitKind.TheVariants.{Full, Log}
use Rattle.fkv_base.specs.declared.numbers.Addr.{Addr}
use Rattle.fkv_base.specs.declared.numbers.Serial.{Serial}
use Rattle.fkv_base.specs.declared.numbers.Version.{Version}
use Rattle.fkv_base.specs.declared.shapes.Shape.{Shape}
use Rattle.fkv_plane.specs.declared.places.Places.{Places}
use Rattle.fkv_sweep.specs.Sweeping.{Sweeper, sweep_begun}
use Rattle.law_refine.specs.Below.fkv_commit.Commit.{Commit}
use Rattle.law_refine.specs.Below.fkv_keeper.Checkpoint.{Checkpoint}
use Rattle.law_refine.specs.Below.fkv_keeper.CheckpointLaws.{IsBehindWait, IsFinished}
use Rattle.law_refine.specs.Below.fkv_keeper.Keeping.{Finality, KeeperState, is_full, sweep_set}
use Rattle.law_refine.specs.Below.fkv_keeper.KeeperRun.{IsOpened, KeeperEvent, keeper_happens, keeper_run}
use Rattle.law_refine.specs.Below.fkv_keeper.SlotLaws.{HasBegin}
use Rattle.law_refine.specs.Below.fkv_keeper.SweepLaws.{IsSweepSet}
use Rattle.law_refine.specs.Below.fkv_keeper.TheKeeping.TheVariants.{Writes}
use Rattle.law_refine.specs.Below.fkv_world.OwnEvents.{keeper_events}
use Rattle.law_refine.specs.Below.fkv_world.Runs.{World, run}
use Rattle.law_refine.specs.Below.fkv_world.World.{Event}
use Rattle.law_refine.specs.Below.law_world.Standing.Opening.{AreNumbersInTurn}
use Rattle.law_refine.proofs.Below.fkv_keeper.Shown.{each_move, run_begins, sweep_moves}
use Rattle.law_refine.proofs.Below.law_world.OfKeeper.OwnRun.{of_keeper}
use Rattle.law_commit.specs.Begins.{OldBeginAsOpened, OpensScanned}
use Rattle.law_commit.specs.BegunCommits.{life_begun}
use Rattle.law_commit.specs.CommitParts.{CommitParts}
use Rattle.law_commit.proofs.AllBegun.{AllParts, event_parts, opened_parts, parts_of}
use Rattle.law_commit.proofs.InTurn.{NextInHand, run_next, some_commit}
use Rattle.law_commit.proofs.NextNumbers.{numbers_in_turn}
use Rattle.law_commit.proofs.OfPhases.LifeStages.{life_staged}
use Rattle.law_commit.proofs.Specified.{HasNone, event_none, hand_stays, is_none}
use Rattle.law_commit.proofs.Used.{UsesBy, run_uses_by}

-- ---- of a keeper
-- no full commit was finished yet; or the checkpoint in force is a newer one
abbrev NotYet : Addr → Checkpoint → KeeperState → Type 0
NotYet begin first s = HasNone s.sweep × (s.last.begin ≡ begin) × (s.last.checkpoint ≡ first)

record IsOld (begin : Addr) (first : Checkpoint) (s : KeeperState) : Type 0 where
  low : first.number.0 ≤ s.last.number.0
  so : NotYet begin first s ⊎ (first.number.0 < s.last.checkpoint.number.0)

-- a log commit sets none
log_none : (a c d e : Bool) (x y : Sweeper) → HasNone y → HasNone (if not a && false && c && d && e then x else y)
log_none true c d e x y none = none
log_none false c d e x y none = none

kind_none : (kind : CommitKind) (a c d e : Bool) (x y : Sweeper) → kind ≡ Log → HasNone y → HasNone (if not a && is_full kind && c && d && e then x else y)
kind_none Log a c d e x y log none = log_none a c d e x y none
kind_none Full a c d e x y log none = cc

set_none : (s : KeeperState) (c : Commit) → c.kind ≡ Log → HasNone s.sweep → HasNone (sweep_set s c)
set_none s c log none =
    kind_none c.kind (is_specified s.start.asked.class) (s.sweep.at.0 == s.sweep.from.0 || s.sweep.to.0 == c.begin.0) (nat_le c.begin.0 c.first.0) (nat_le c.first.0 (2 ^ 48)) (sweep_begun s.sweep.shape s.sweep.places c.begin c.first) s.sweep log none

module _ (begin : Addr) (first : Checkpoint) (s a : KeeperState) (next : NextInHand s) where
  -- where nothing is finished
  same_set : a.last ≡ s.last → IsSweepSet s a → HasNone a.sweep
  same_set same set =
      let number = ap (λ (f : Finality). f.number.0) (sym same ∙ set.newest) in
      let follows = next set.commit set.in_hand in
      absurd (omega (arith, number, follows))

  same_old : a.last ≡ s.last → (HasNone s.sweep → HasNone a.sweep) → IsOld begin first s → IsOld begin first a
  same_old same none old = record {
    low = (let low = old.low in let number = ap (λ (f : Finality). f.number.0) same in omega (arith, low, number));
    so = elim old.so [
      | inl not ↦ inl (none not.0, ap (λ (f : Finality). f.begin) same ∙ not.1, ap (λ (f : Finality). f.checkpoint) same ∙ not.2)
      | inr newer ↦ inr (let checkpoint = ap (λ (f : Finality). f.checkpoint.number.0) same in omega (arith, newer, checkpoint))
    ];
  }

  -- where the commit in hand is
  module _ (c : Commit) (found : s.commit ≡ Some c) (last : a.last.number ≡ c.number) (begins : a.last.begin ≡ c.begin) (uses : a.last.checkpoint ≡ s.used) where
    number_up : first.number.0 ≤ s.last.number.0 → first.number.0 < c.number.0
    number_up low = let follows = next c found in omega (arith, low, follows)

    ends_old : (kind : CommitKind) → c.kind ≡ kind → UsesBy kind s c → (HasNone s.sweep → c.begin ≡ s.last.begin) → (c.kind ≡ Log → HasNone s.sweep → HasNone a.sweep) → IsOld begin first s → IsOld begin first a
    ends_old Full is by stays none old =
        let up = number_up old.low in
        let number = ap (λ (v : Version). v.0) last in
        let used = ap (λ (v : Version). v.0) (ap (λ (x : Checkpoint). x.number) uses ∙ by.0) in
        record { low = omega (arith, up, number); so = inr (omega (arith, up, used)) }
    ends_old Log is by stays none old = record {
      low = (let up = number_up old.low in let number = ap (λ (v : Version). v.0) last in omega (arith, up, number));
      so = elim old.so [
        | inl not ↦ inl (none is not.0, begins ∙ (stays not.0 ∙ not.1), uses ∙ (by ∙ not.2))
        | inr newer ↦ inr (let used = ap (λ (x : Checkpoint). x.number.0) (uses ∙ by) in omega (arith, newer, used))
      ];
    }

event_old : (shape : Shape) (p : Places) (opening : KeeperState) (event : KeeperEvent) (before : List KeeperEvent) → IsOpened opening → AreNumbersInTurn shape p opening before → IsOld opening.last.begin opening.last.checkpoint (keeper_run shape p opening before)
    → IsOld opening.last.begin opening.last.checkpoint (keeper_happens shape p (keeper_run shape p opening before) event)
event_old shape p opening event before opened turn past = by (each_move shape p s event).lists.lists
  where
    s : KeeperState
    s = keeper_run shape p opening before

    a : KeeperState
    a = keeper_happens shape p s event

    next : NextInHand s
    next = run_next shape p opening before opened turn

    by : ((a.last ≡ s.last) × (a.lost ≡ s.lost)) ⊎ ((c : Commit) × (s.commit ≡ Some c) × IsFinished s a c) → IsOld opening.last.begin opening.last.checkpoint a
    by (inl same) =
        same_old opening.last.begin opening.last.checkpoint s a next same.0 (λ none. event_none event s.step s a (same_set opening.last.begin opening.last.checkpoint s a next same.0) none (sweep_moves shape p s event)) past
    by (inr ends) =
        let c : Commit = ends.0 in
        let found : s.commit ≡ Some c = ends.1 in
        let last = ends.2.last in
        ends_old opening.last.begin opening.last.checkpoint s a next c found (ap (λ (f : Finality). f.number) last) (ap (λ (f : Finality). f.begin) last) (ap (λ (f : Finality). f.checkpoint) last) c.kind refl
        (run_uses_by shape p opening before c opened (subst IsBehindWait (sym ends.2.finishes) tt) found) (λ none. hand_stays s c none ((run_begins shape p opening before opened).commit c found))
        (λ log none. event_none event s.step s a
        (λ set. is_none (sweep_set s set.commit) a.sweep set.same (set_none s set.commit (ap (λ (x : Commit). x.kind) (some_commit s.commit set.commit c set.in_hand found) ∙ log) none)) none (sweep_moves shape p s event))
        past

run_is_old : (shape : Shape) (p : Places) (opening : KeeperState) (events : List KeeperEvent) → IsOpened opening → AreNumbersInTurn shape p opening events → opening.last.checkpoint.number.0 ≤ opening.last.number.0
    → IsOld opening.last.begin opening.last.checkpoint (keeper_run shape p opening events)
unfolding keeper_run AreNumbersInTurn
run_is_old shape p opening [] opened turn low = record { low = low; so = inl (subst HasNone (sym opened.none_swept.2) refl, refl, refl) }
run_is_old shape p opening (event ∷ before) opened turn low = event_old shape p opening event before opened turn.1 (run_is_old shape p opening before opened turn.1 low)

-- As it is written it uses that checkpoint only where it is a log commit, and no full one was finished.
old_hand : (kind : CommitKind) (first : Checkpoint) (begin : Addr) (s : KeeperState) (c : Commit) → c.kind ≡ kind → UsesBy kind s c → NextInHand s → s.commit ≡ Some c → HasBegin s → IsOld begin first s → s.used.number ≡ first.number → c.begin ≡ begin
old_hand Full first begin s c is by next found has old used =
    let low = old.low in
    let follows = next c found in
    let own = ap (λ (v : Version). v.0) (sym by.0 ∙ used) in
    absurd (omega (arith, low, follows, own))
old_hand Log first begin s c is by next found has old used = elim old.so [
  | inl not ↦ hand_stays s c not.0 (has.commit c found) ∙ not.1
  | inr newer ↦ (let same = ap (λ (v : Version). v.0) (ap (λ (x : Checkpoint). x.number) (sym by) ∙ used) in absurd (omega (arith, newer, same)))
]

pub run_old : (shape : Shape) (p : Places) (opening : KeeperState) (events : List KeeperEvent) (c : Commit) → IsOpened opening → AreNumbersInTurn shape p opening events → opening.last.checkpoint.number.0 ≤ opening.last.number.0
    → IsBehindWait (keeper_run shape p opening events).step → (keeper_run shape p opening events).commit ≡ Some c → (keeper_run shape p opening events).used.number ≡ opening.last.checkpoint.number → c.begin ≡ opening.last.begin
run_old shape p opening events c opened turn low behind found used =
    old_hand c.kind opening.last.checkpoint opening.last.begin (keeper_run shape p opening events) c refl (run_uses_by shape p opening events c opened behind found) (run_next shape p opening events opened turn) found (run_begins shape p opening events opened)
    (run_is_old shape p opening events opened turn low) used

-- ---- in a life
module _ (opening : World) (start : ℕ) (opens : OpensScanned opening start) where
  abbrev Old : Version → CommitParts → List Serial → Type 0
  Old number x points = x.checkpoint.number ≡ opening.now.keeper.last.checkpoint.number → x.begin ≡ opening.now.keeper.last.begin

  abbrev HandOld : KeeperState → Type 0
  HandOld s = s.step ≡ Writes → (c : Commit) → s.commit ≡ Some c → s.used.number ≡ opening.now.keeper.last.checkpoint.number → c.begin ≡ opening.now.keeper.last.begin

  hand_old : (events : List Event) → HandOld (run opening events).now.keeper
  hand_old events = of_keeper HandOld opening events (λ writes c found used.
      run_old opening.now.shape opening.now.places opening.now.keeper (keeper_events opening events) c opens.quiet.opened.keeper
      (numbers_in_turn opening events opens.quiet.opened (life_staged opening start events opens.quiet.guarded opens.quiet.opened opens.quiet.seen.rests).rests) opens.no_newer (subst IsBehindWait (sym writes) tt) found used)

  all_old : (events : List Event) → AllParts Old (life_begun opening events)
  all_old [] = opened_parts Old opening (λ same. refl)
  all_old (event ∷ before) = event_parts Old opening before event (λ at c is. hand_old before at c is) (all_old before)

pub begun_old : OldBeginAsOpened
begun_old opening start events c opens there = parts_of (Old opening start opens) c (life_begun opening events) there (all_old opening start opens events)
