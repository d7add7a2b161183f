-- So in each life the view of each live session has its floor.
use Rattle.std.proofs.Common.{◌≡◌, ◌*◌, inr, inl, ℕ, ◌+◌, ◌<◌, ◌≤◌, ◌∙◌, List, [], ◌∷◌, refl, arith, sym, ap, subst, Bool, true, false}
use Rattle.std.specs.Prelude.{Some, None, if◌then◌else◌}
use Rattle.fkv_base.specs.declared.numbers.Version.{Version}
use Rattle.law_refine.specs.Below.fkv_commit.Commit.{Commit}
use Rattle.law_refine.specs.Below.fkv_flush.GuardWorld.{guard_run}
use Rattle.law_refine.specs.Below.fkv_keeper.TheKeeping.{Keeping}
use Rattle.law_refine.specs.Below.fkv_keeper.TheKeeping.TheVariants.{Ended, Starts, Maintains, LoadsPhase, Enters, Copies, Seeks, Waits, Writes, Finishes, Sweeps}
use Rattle.law_refine.specs.Below.fkv_keeper.KeeperRun.{is_in_hand}
use Rattle.law_refine.specs.Below.fkv_keeper.Keeping.{KeeperState, come_to}
use Rattle.law_refine.specs.Below.fkv_session.Sessions.{SessionState}
use Rattle.law_refine.specs.Below.fkv_world.Opened.{HasBecome, IsOpenedWorld}
use Rattle.law_refine.specs.Below.fkv_world.Runs.{World, run}
use Rattle.law_refine.specs.Below.fkv_world.World.{Event, Now}
use Rattle.law_refine.specs.Below.law_world.Guarded.GuardEvents.{mapped}
use Rattle.law_refine.specs.Below.law_world.Guarded.Shows as guard
use Rattle.law_refine.specs.Below.law_world.Guarded.Shows.{seen_by_guard}
use Rattle.law_paper.specs.Phases as paper
use Rattle.law_paper.specs.Phases.{AreEnabled, Phasing, phase_run}
use Rattle.law_commit.specs.Floor.OnPaper.{LivesAreOnPaper}
use Rattle.law_commit.specs.Floor.Stands.{AreNear, FloorAlwaysStands, HasFloor, HasSeenEnd, IsWritten, OpensSeen, PaperHasFloor, PaperIsSound, SeesCommit, ViewsAreNear, stage_number}
use Rattle.law_commit.specs.Phases.Projected.{BeginsAtRest, ShowsLife, paper_view, phasing_opened}
use Rattle.law_commit.specs.Phases.Staged.{DefersPending, DefersProgress, Flushes, Pends, Prepares, Progresses, Rests, Stage}
use Rattle.law_commit.specs.Views.{View, sight_of}
use Rattle.law_commit.proofs.OfFloor.Armed.{ArmedSo}
use Rattle.law_commit.proofs.OfFloor.KeeperFits.{Ground, KeeperFits, KeepingFits}
use Rattle.law_commit.proofs.OfFloor.LifeFloor.{Floored, LifeFloored, event_floored, ground_of}
use Rattle.law_commit.proofs.OfFloor.OnPaper.{begins_on_paper}
use Rattle.law_commit.proofs.OfPhases.LifeStages.{opens_staged}
use Rattle.law_commit.proofs.OfPhases.OpeningSound.{opening_sound}
use Rattle.law_commit.proofs.OfPhases.SessionsShown.{opening_shown}

-- ---- as a life begins
abbrev version_of : ℕ → Version
version_of x = record { 0 = x }

begins_at_rest : (n : Now) → OpensSeen n → BeginsAtRest n (record { 0 = n.keeper.last.number.0 + 1 })
begins_at_rest n opens = record { says = opens.rests.says; phase = opens.seen; version_seen = λ session first found. ap version_of (opens.rests.seen session first found) }

idle_fits : (g : Ground) (s : KeeperState) (step : Keeping) → is_in_hand step ≡ false → KeepingFits g s step
idle_fits g s (Ended told) idle = tt
idle_fits g s step idle = cc

opened_fits : (g : Ground) (s : KeeperState) → is_in_hand s.step ≡ false → s.commit ≡ None → s.rests ≡ false → KeeperFits g s
opened_fits g s idle none awake = record {
  hand = record {
    first = λ c is. let clash : None ≡ Some c = sym none ∙ is in cc;
    points = λ c is yes. let clash : None ≡ Some c = sym none ∙ is in cc;
    rests = λ rests. let clash : false ≡ true = sym awake ∙ rests in cc;
  };
  step = idle_fits g s s.step idle;
}

opened_armed : (opening : World) (start : ℕ) (number : Version) → ArmedSo (seen_by_guard opening start []) number Rests 0
unfolding mapped guard_run
opened_armed opening start number = record { low = λ y among. absurd among; since = λ y among is. absurd among; about = λ by slot epoch action about is. cc }

opening_floored : (opening : World) (start : ℕ) → guard.IsOpened opening.now start → OpensSeen opening.now → LifeFloored opening start []
unfolding run
opening_floored opening start guarded opens =
    let n : Now = opening.now in
    let version : Version = record { 0 = n.keeper.last.number.0 + 1 } in
    let begins = opening_sound n start version guarded (begins_at_rest n opens) in
    let shows : ShowsLife (phasing_opened n version) opening [] = record { words = begins.words; safe = refl; sessions = opening_shown opening } in
    record {
      number = version;
      stage = Rests;
      p = phasing_opened n version;
      its = record {
        staged = opens_staged n start guarded opens.rests;
        life = shows;
        on_paper = begins_on_paper opening shows;
        sound = begins.sound;
        papers = record { base = refl; at = refl; raised = (refl, refl, refl) };
        fits = opened_fits _ n.keeper guarded.keeper.none_in_hand guarded.keeper.no_commit guarded.keeper.none_rest;
        due = omega arith;
        armed = opened_armed opening start version;
      };
    }

pub life_floored : (opening : World) (start : ℕ) (events : List Event) → guard.IsOpened opening.now start → IsOpenedWorld opening → OpensSeen opening.now → PaperIsSound → LifeFloored opening start events
life_floored opening start [] guarded opened opens paper_sound = opening_floored opening start guarded opens
life_floored opening start (event ∷ before) guarded opened opens paper_sound =
    let past = life_floored opening start before guarded opened opens paper_sound in
    event_floored opening start guarded opened paper_sound before event past.number past.stage past.p past.its

pub on_paper : PaperIsSound → LivesAreOnPaper
on_paper paper_sound opening start events guarded opened opens = (life_floored opening start events guarded opened opens paper_sound).its.on_paper.paper

-- ---- what a live session has seen
none_enabled : (p : Phasing) → AreEnabled p []
unfolding AreEnabled
none_enabled p = tt

run_none : (p : Phasing) → phase_run p [] ≡ p
unfolding phase_run
run_none p = refl

module _ (opening : World) (start : ℕ) (events : List Event) (number : Version) (stage : Stage) (p : Phasing) (its : Floored opening start events number stage p) (paper_floor : PaperHasFloor) (session : ℕ) (first its_state : SessionState)
    (became : HasBecome opening events session first its_state) (awake : its_state.is_awake ≡ true) where
  abbrev seen : View
  seen = (sight_of opening events session).view

  floor_shown : paper.HasFloor p (paper_view seen)
  floor_shown =
      let shown = its.life.sessions.there session first its_state became in
      let floor = subst (λ (q : Phasing). paper.HaveFloor q) (run_none p) (paper_floor p [] its.sound (none_enabled p)) in
      subst (λ (v : paper.View). paper.HasFloor p v) (shown.view awake) (floor session (shown.live ∙ awake))

  pub has_floor : HasFloor number stage seen
  has_floor =
      let floor = floor_shown in
      let base = its.papers.base in
      let at = its.papers.at in
      let low = floor.low in
      let rest = floor.rest in
      record {
        low = omega (arith, low, base, at);
        rest = omega (arith, rest, base);
        in_progress = λ far. let it = (floor.in_progress (omega (arith, far, at))).0 in omega (arith, it, base);
        wait_pending = λ far. let it = floor.wait_pending (omega (arith, far, at)) in omega (arith, it, base);
      }

  -- once the raise for the commit's end is safe
  seen_end : (c : Commit) → 0 < p.raises.ending → p.raises.ending ≤ p.safe → c.end.0 ≡ p.raises.end → HasSeenEnd number c seen
  seen_end c some safe end =
      let it = floor_shown.ending some safe in
      let base = its.papers.base in
      let rank = it.0 in
      let tail = it.1 in
      record { rank = omega (arith, rank, base); tail = omega (arith, tail, end) }

  written_end : (s : KeeperState) (step : Keeping) (c : Commit) → s.step ≡ step → KeeperFits (ground_of p p.epoch) s → s.commit ≡ Some c → IsWritten step → HasSeenEnd number c seen
  written_end s Writes c at fits is written =
      let here : KeepingFits (ground_of p p.epoch) s Writes = subst (λ (x : Keeping). KeepingFits (ground_of p p.epoch) s x) at fits.step in
      seen_end c here.1.0 here.1.1 (fits.hand.points c is here.0).end_is
  written_end s Finishes c at fits is written =
      let here : KeepingFits (ground_of p p.epoch) s Finishes = subst (λ (x : Keeping). KeepingFits (ground_of p p.epoch) s x) at fits.step in
      seen_end c here.1.0 here.1.1 (fits.hand.points c is here.0).end_is
  written_end s (Ended told) c at fits is written = absurd written
  written_end s Starts c at fits is written = absurd written
  written_end s Maintains c at fits is written = absurd written
  written_end s LoadsPhase c at fits is written = absurd written
  written_end s Enters c at fits is written = absurd written
  written_end s Copies c at fits is written = absurd written
  written_end s Sweeps c at fits is written = absurd written
  written_end s Seeks c at fits is written = absurd written
  written_end s Waits c at fits is written = absurd written

  -- where its writes rest too
  come_end : (s : KeeperState) (c : Commit) → KeeperFits (ground_of p p.epoch) s → s.commit ≡ Some c → IsWritten (come_to s) → HasSeenEnd number c seen
  come_end s c fits is written = by s.rests refl written
    where
      by : (rests : Bool) → s.rests ≡ rests → IsWritten (if rests then Writes else s.step) → HasSeenEnd number c seen
      by true rests written = let safe = fits.hand.rests rests in seen_end c safe.1.0 safe.1.1 (fits.hand.points c is safe.0).end_is
      by false awake written = written_end s s.step c refl fits is written

  sees_commit : (c : Commit) → (run opening events).now.keeper.commit ≡ Some c → SeesCommit (run opening events).now number stage c seen
  sees_commit c is =
      let hand = its.fits.hand in
      let at = its.papers.at in
      let same = hand.first c is in
      let safe = its.life.safe in
      record {
        first = λ far. let it = (floor_shown.in_progress (omega (arith, far, at))).1 in omega (arith, it, same);
        ending = λ has low.
            let ending = hand.points c is has in
            let epoch = ending.epoch_is in
            seen_end c ending.some (omega (arith, epoch, low, safe)) ending.end_is;
        written = λ written. come_end (run opening events).now.keeper c its.fits is written;
      }

pub floor_stands : PaperIsSound → PaperHasFloor → FloorAlwaysStands
floor_stands paper_sound paper_floor opening start events guarded opened opens =
    let lived = life_floored opening start events guarded opened opens paper_sound in
    record {
      number = lived.number;
      stage = lived.stage;
      staged = lived.its.staged;
      floor = λ session first its became awake. has_floor opening start events lived.number lived.stage lived.p lived.its paper_floor session first its became awake;
      commit = λ session first its c became awake is. sees_commit opening start events lived.number lived.stage lived.p lived.its paper_floor session first its became awake c is;
    }

-- ---- two live sessions
pub few_stages : (stage : Stage) → stage_number stage ≤ 4
few_stages Rests = omega arith
few_stages Prepares = omega arith
few_stages DefersProgress = omega arith
few_stages Progresses = omega arith
few_stages DefersPending = omega arith
few_stages Pends = omega arith
few_stages Flushes = omega arith

floors_near : (number : Version) (stage : Stage) (one other : View) → HasFloor number stage one → HasFloor number stage other → AreNear one other
floors_near number stage one other its also version is =
    let few = few_stages stage in
    let low = its.low in
    let rest = its.rest in
    let high = also.low in
    let far : (2 ≤ stage_number stage) × (5 * version ≡ 5 * number.0 + 5) = elim is [ inl e ↦ (omega (arith, e, few, low, rest), omega (arith, e, few, low, rest)) | inr e ↦ (omega (arith, e, few, low, rest), omega (arith, e, few, low, rest)) ] in
    let some = also.in_progress far.0 in
    let same = far.1 in
    (omega (arith, some, same), omega (arith, high, few, same))

pub views_near : PaperIsSound → PaperHasFloor → ViewsAreNear
views_near paper_sound paper_floor opening start events guarded opened opens session other first its next also became awake too and =
    let stands = floor_stands paper_sound paper_floor opening start events guarded opened opens in
    floors_near stands.number stands.stage (sight_of opening events session).view (sight_of opening events other).view (stands.floor session first its became awake) (stands.floor other next also too and)
