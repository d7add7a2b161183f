-- A live session leaves a version from its prepare alone, by the floor of its view and by how far the view that is coming may be.
use Rattle.std.proofs.Common.{◌≡◌, ◌⊎◌, inl, inr, ℕ, zero, suc, ◌+◌, ◌*◌, ◌<◌, ◌≤◌, ◌∙◌, refl, sym, ap, subst, arith, true}
use Rattle.std.specs.Prelude.{Option, Some, None}
use Rattle.fkv_base.specs.declared.numbers.Version.{Version}
use Rattle.fkv_base.specs.declared.phases.Phase.{Phase}
use Rattle.fkv_base.specs.declared.phases.Phase.TheVariants.{Rest, Prepare, InProgress, WaitPending, WaitFlush}
use Rattle.law_refine.specs.Below.fkv_ops.Trying.{is_prepare}
use Rattle.law_refine.specs.Below.fkv_session.Catching.{Catching}
use Rattle.law_refine.specs.Below.fkv_session.Catching.TheVariants as catching
use Rattle.law_refine.specs.Below.fkv_session.Sitting.{Sitting}
use Rattle.law_refine.specs.Below.fkv_session.CatchingUp.{CatchState}
use Rattle.law_paper.specs.Phases as paper
use Rattle.law_commit.specs.Floor.Stands.{HasFloor, PaperHasFloor, PaperIsSound, stage_number}
use Rattle.law_commit.specs.Phases.Projected.{is_coming, paper_view}
use Rattle.law_commit.specs.Phases.Staged.{Stage}
use Rattle.law_commit.specs.Ranks.{rank}
use Rattle.law_commit.specs.Shares.Leaving.{HasLoaded, LeavesFromPrepare}
use Rattle.law_commit.specs.Views.{IsComing, IsTakenFrom, Sight, TakesUp, View, sight_of}
use Rattle.law_commit.proofs.Sights.{coming_seen, view_seen}
use Rattle.law_commit.proofs.OfFloor.Stands.{few_stages, has_floor, life_floored}
use Rattle.law_commit.proofs.OfShares.Alone.{rising}
use Rattle.law_commit.proofs.OfShares.Onward.{rank_high}
use Rattle.law_commit.proofs.OfQuiet.Live.{rank_low}

-- ---- ranks
-- in no phase but prepare the rank is above that of rest
most_rank : (phase : Phase) (version : ℕ) → (rank phase version ≤ 5 * version) ⊎ (is_prepare phase ≡ true)
most_rank Rest version = inl (omega arith)
most_rank Prepare version = inr refl
most_rank InProgress version = inl (omega arith)
most_rank WaitPending version = inl (omega arith)
most_rank WaitFlush version = inl (omega arith)

-- before in-progress, and from in-progress on
early : (n stage : ℕ) (phase next : Phase) (version coming : ℕ) → stage ≤ 1 → 5 * n ≤ rank phase version + 1 → rank next coming ≤ 5 * n + stage → version ≤ coming → coming ≡ version
early n stage phase next version coming few low high rises =
    let top = rank_low phase version in
    let bottom = rank_high next coming in
    omega (arith, few, low, high, rises, top, bottom)

late : (n stage : ℕ) (phase next : Phase) (version coming : ℕ) → stage ≤ 4 → 5 * n + 1 ≤ rank phase version → rank next coming ≤ 5 * n + stage → version ≤ coming → (coming ≡ version) ⊎ (is_prepare phase ≡ true)
late n stage phase next version coming few low high rises =
    let bottom = rank_high next coming in
    elim (most_rank phase version) [
      | inl top ↦ inl (omega (arith, few, low, high, rises, top, bottom))
      | inr prepares ↦ inr prepares
    ]

split : (n : ℕ) → (n ≤ 1) ⊎ (2 ≤ n)
split zero = inl (omega arith)
split (suc zero) = inl (omega arith)
split (suc (suc n)) = inr (omega arith)

-- a rank that a live view may have
pub record IsFloored (number : Version) (stage : Stage) (its : ℕ) : Type 0 where
  pub rest : 5 * number.0 ≤ its + 1
  pub in_progress : 2 ≤ stage_number stage → 5 * number.0 + 1 ≤ its

pub leaves_so : (number : Version) (stage : Stage) (phase next : Phase) (version coming : ℕ) → IsFloored number stage (rank phase version)
    → rank next coming ≤ 5 * number.0 + stage_number stage → version ≤ coming → (coming ≡ version) ⊎ (is_prepare phase ≡ true)
leaves_so number stage phase next version coming floor high rises = elim (split (stage_number stage)) [
  | inl few ↦ inl (early number.0 (stage_number stage) phase next version coming few floor.rest high rises)
  | inr far ↦ late number.0 (stage_number stage) phase next version coming (few_stages stage) (floor.in_progress far) high rises
]

-- ---- in a life
taken_by : (sight : Sight) (c : CatchState) (step : Catching) → HasLoaded step → TakesUp sight c step → IsTakenFrom sight.coming c.seen
taken_by sight c catching.Refreshes loaded takes = absurd loaded
taken_by sight c catching.Protects loaded takes = absurd loaded
taken_by sight c catching.Ended loaded takes = takes
taken_by sight c catching.StoresCut loaded takes = takes
taken_by sight c catching.StoresOwing loaded takes = takes
taken_by sight c (catching.Latches i) loaded takes = takes
taken_by sight c catching.Finishes loaded takes = takes

pub leaves_from_prepare : PaperIsSound → PaperHasFloor → LeavesFromPrepare
leaves_from_prepare paper_sound paper_floor opening start events session first its cause guarded opens became awake at loaded =
    let lived = life_floored opening start events guarded became.opened opens paper_sound in
    let own = has_floor opening start events lived.number lived.stage lived.p lived.its paper_floor session first its became awake in
    let shown = lived.its.life.sessions.there session first its became in
    let takes : TakesUp (sight_of opening events session) its.catching its.catching.step = subst (λ (step : Sitting). IsComing (sight_of opening events session) its step) at (coming_seen opening events session first its became) in
    by_coming (sight_of opening events session).coming refl (taken_by (sight_of opening events session) its.catching its.catching.step loaded takes) lived.number lived.stage lived.its.staged.fits.some own lived.p lived.its.sound lived.its.papers.base lived.its.papers.at shown.comes shown.coming
  where
    by_coming : (found : Option View) → (sight_of opening events session).coming ≡ found → IsTakenFrom found its.catching.seen → (number : Version) (stage : Stage) → 0 < number.0 → HasFloor number stage (sight_of opening events session).view
        → (p : paper.Phasing) → paper.IsSound p → p.base ≡ 5 * number.0 → p.stage ≡ stage_number stage → p.sessions.comes session ≡ is_coming (sight_of opening events session).coming
        → ((view : View) → (sight_of opening events session).coming ≡ Some view → p.sessions.coming session ≡ paper_view view) → (its.catching.seen.version.0 ≡ its.seen.version.0) ⊎ (is_prepare its.seen.phase ≡ true)
    by_coming None e takes number stage some floor p sound base at_stage comes coming = absurd takes
    by_coming (Some view) e takes number stage some floor p sound base at_stage comes coming =
        let counts = sound.coming session (comes ∙ ap is_coming e) in
        let high = (subst (λ (v : paper.View). paper.Sees p v) (coming view e) counts).low in
        let saw = view_seen opening events session first its became in
        let its_view : View = (sight_of opening events session).view in
        let either = leaves_so number stage its_view.phase view.phase its_view.version.0 view.version.0 (record { rest = floor.rest; in_progress = floor.in_progress }) (omega (arith, high, base, at_stage)) (rising paper_sound paper_floor opening start events guarded opens session first its view became e) in
        elim either [
          | inl same ↦ inl (ap (λ (v : Version). v.0) takes.version ∙ same ∙ sym (ap (λ (v : Version). v.0) saw.version))
          | inr prepares ↦ inr (subst (λ (phase : Phase). is_prepare phase ≡ true) (sym saw.phase) prepares)
        ]
