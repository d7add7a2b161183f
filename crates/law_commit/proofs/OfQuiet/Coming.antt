-- A session that wakes and has loaded the phase goes on to a later version than the commit's too, from wait-pending on.
use Rattle.std.proofs.Common.{◌≡◌, ℕ, ◌+◌, ◌*◌, ◌<◌, ◌≤◌, ◌∙◌, List, arith, refl, ap, subst, Bool, true, false}
use Rattle.std.specs.Prelude.{nat_le, Some}
use Rattle.std.proofs.lemmas.Bool.Decides.{nat_tests}
use Rattle.law_refine.specs.Below.fkv_session.Sessions.{SessionState}
use Rattle.law_refine.specs.Below.fkv_world.Opened.{HasBecome}
use Rattle.law_refine.specs.Below.fkv_world.Runs.{World, run}
use Rattle.law_refine.specs.Below.fkv_world.World.{Event}
use Rattle.law_paper.specs.Phases as paper
use Rattle.law_paper.specs.Phases.{FitStage, defers, enters, flushes, goes_on, pends, prepares, rests}
use Rattle.law_commit.specs.Floor.Stands.{PaperIsSound}
use Rattle.law_commit.specs.Phases.Projected.{is_coming, paper_view}
use Rattle.law_commit.specs.Quiet.{OpensQuiet, pending_rank, rank_now}
use Rattle.law_commit.specs.Views.{View, sight_of}
use Rattle.law_commit.proofs.OfFloor.Stands.{life_floored}
use Rattle.law_commit.proofs.OfQuiet.Live.{rank_low}
use Rattle.law_commit.proofs.OfQuiet.Ranks.{few_stages, staged_rank}

-- in wait-pending and behind it the raise for wait-pending is safe
record IsPending (safe : ℕ) (r : paper.Raises) : Type 0 where
  some : 0 < r.pending
  low : r.pending ≤ safe

pending_safe : (stage safe tail : ℕ) (r : paper.Raises) → FitStage stage safe tail r → 3 ≤ stage → IsPending safe r
pending_safe stage safe tail r (rests at a b c d) far = absurd (omega (arith, at, far))
pending_safe stage safe tail r (prepares at a b c d) far = absurd (omega (arith, at, far))
pending_safe stage safe tail r (defers at a b c d e) far = absurd (omega (arith, at, far))
pending_safe stage safe tail r (goes_on at a b c d e f) far = absurd (omega (arith, at, far))
pending_safe stage safe tail r (enters at a b c d e f) far = absurd (omega (arith, at, far))
pending_safe stage safe tail r (pends at a b c some low e f) far = record { some = some; low = low }
pending_safe stage safe tail r (flushes at a b c some low e f) far = record { some = some; low = low }

seen_far : (p : paper.Phasing) (v : paper.View) (version number : ℕ) → paper.IsStaged p → paper.Sees p v → p.base ≡ 5 * number → p.stage ≤ 4 → pending_rank version ≤ p.base + p.stage → 5 * version + 2 ≤ v.rank
seen_far p v version number staged sees base few high = by_stage (nat_le 3 p.stage) refl
  where
    by_stage : (c : Bool) → nat_le 3 p.stage ≡ c → 5 * version + 2 ≤ v.rank
    by_stage true is =
        let its = pending_safe p.stage p.safe p.tail p.raises staged (grind (arith, nat_tests, is)) in
        let after = sees.after in
        let low = its.low in
        let up = sees.pending its.some (omega (arith, low, after)) in
        omega (arith, up, base, few, high)
    by_stage false is =
        let below : p.stage < 3 = grind (arith, nat_tests, is) in
        let floor = sees.floor in
        omega (arith, floor, base, below, high)

pub coming_later : PaperIsSound → (opening : World) (start : ℕ) (events : List Event) (version session : ℕ) (first its : SessionState) (view : View) → OpensQuiet opening start → HasBecome opening events session first its → pending_rank version ≤ rank_now opening events
    → (sight_of opening events session).coming ≡ Some view → version < view.version.0
coming_later paper_sound opening start events version session first its view opens became high is =
    let lived = life_floored opening start events opens.guarded opens.opened opens.seen paper_sound in
    let shown = lived.its.life.sessions.there session first its became in
    let sees = subst (λ (v : paper.View). paper.Sees lived.p v) (shown.coming view is) (lived.its.sound.coming session (shown.comes ∙ ap is_coming is)) in
    let base = lived.its.papers.base in
    let at = lived.its.papers.at in
    let few = few_stages lived.stage in
    let said = staged_rank (run opening events).now lived.number lived.stage lived.its.staged in
    let up = seen_far lived.p (paper_view view) version lived.number.0 lived.its.sound.staged sees base (omega (arith, at, few)) (omega (arith, high, said, base, at)) in
    let low = rank_low view.phase view.version.0 in
    omega (arith, up, low)
