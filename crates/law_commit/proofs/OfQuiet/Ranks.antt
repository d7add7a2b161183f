-- The rank of the phase word never falls.
use Rattle.std.proofs.Common.{◌≡◌, ◌⊎◌, inl, inr, ℕ, ◌+◌, ◌*◌, ◌≤◌, ◌∙◌, List, [], ◌∷◌, refl, arith, ap}
use Rattle.fkv_base.specs.declared.numbers.Version.{Version}
use Rattle.fkv_base.specs.declared.phases.Phase.TheVariants as phases
use Rattle.law_refine.specs.Below.fkv_commit.Deferred.{Deferred}
use Rattle.law_refine.specs.Below.fkv_commit.Deferred.TheVariants.{EntersPhase}
use Rattle.law_refine.specs.Below.fkv_commit.TheDeferring.{Deferring}
use Rattle.law_refine.specs.Below.fkv_commit.TheDeferring.TheVariants as defer
use Rattle.law_refine.specs.Below.fkv_commit.TheEntering.{Entering}
use Rattle.law_refine.specs.Below.fkv_commit.TheEntering.TheVariants as enter
use Rattle.law_refine.specs.Below.fkv_commit.TheFinishing.{Finishing}
use Rattle.law_refine.specs.Below.fkv_commit.TheFinishing.TheVariants as finish
use Rattle.law_refine.specs.Below.fkv_commit.TheSeeking.{Seeking}
use Rattle.law_refine.specs.Below.fkv_commit.TheSeeking.TheVariants as seek
use Rattle.law_refine.specs.Below.fkv_commit.TheStarting.{Starting}
use Rattle.law_refine.specs.Below.fkv_commit.TheStarting.TheVariants as start
use Rattle.law_refine.specs.Below.fkv_commit.Commits.{version_after}
use Rattle.law_refine.specs.Below.fkv_commit.Entering.{EnterState}
use Rattle.law_refine.specs.Below.fkv_commit.Starting.{StartState}
use Rattle.law_refine.specs.Below.fkv_keeper.TheKeeping.{Keeping}
use Rattle.law_refine.specs.Below.fkv_keeper.TheKeeping.TheVariants.{Starts, Maintains, Enters, Seeks, Finishes}
use Rattle.law_refine.specs.Below.fkv_keeper.Keeping.{KeeperState}
use Rattle.law_refine.specs.Below.fkv_world.Opened.{IsOpenedWorld}
use Rattle.law_refine.specs.Below.fkv_world.Runs.{World, run}
use Rattle.law_refine.specs.Below.fkv_world.World.{Event, Now}
use Rattle.law_refine.specs.Below.law_world.Guarded.Shows.{IsOpened}
use Rattle.law_refine.proofs.OfRecords.Puts.{is_put}
use Rattle.law_commit.specs.Floor.Stands.{stage_number}
use Rattle.law_commit.specs.Phases.Staged.{DefersAt, DefersPending, DefersProgress, EnterAt, FinishAt, FitsVersion, Flushes, IsStaged, OpensAtRest, Pends, Prepares, Progresses, Rests, Stage, StartAt, StepAt, defer_moves, enter_moves, finish_moves, finish_number, is_resting, keeping_moves, keeping_number, seek_moves, stage_phase, stage_run, stage_version, start_moves}
use Rattle.law_commit.specs.Quiet.{OpensQuiet, RanksRise, rank_now, rank_said, word_rank}
use Rattle.law_commit.specs.Ranks.{rank}
use Rattle.law_commit.proofs.OfFloor.KeeperPuts.{KeeperPuts, keeper_puts}
use Rattle.law_commit.proofs.OfPhases.LifeStages.{event_on, life_staged}
use Rattle.law_commit.proofs.OfPhases.StageMoves.{LedOn, Quietly, Replied, RunBySession}

-- ---- by the stage
pub few_stages : (stage : Stage) → stage_number stage ≤ 4
few_stages Rests = omega arith
few_stages Prepares = omega arith
few_stages DefersProgress = omega arith
few_stages Progresses = omega arith
few_stages DefersPending = omega arith
few_stages Pends = omega arith
few_stages Flushes = omega arith

stage_rank : (number : Version) (stage : Stage) → FitsVersion number stage → rank (stage_phase stage) (stage_version number stage).0 ≡ 5 * number.0 + stage_number stage
stage_rank number Rests fits = omega arith
stage_rank number Prepares fits = omega arith
stage_rank number DefersProgress fits = omega arith
stage_rank number Progresses fits = let low = fits.lower refl in omega (arith, low)
stage_rank number DefersPending fits = let low = fits.lower refl in omega (arith, low)
stage_rank number Pends fits = let low = fits.lower refl in omega (arith, low)
stage_rank number Flushes fits = let low = fits.lower refl in omega (arith, low)

pub staged_rank : (n : Now) (number : Version) (stage : Stage) → IsStaged n number stage → word_rank n ≡ 5 * number.0 + stage_number stage
staged_rank n number stage its = ap rank_said its.word ∙ stage_rank number stage its.fits

-- ---- where steps lead
abbrev IsUp : Version → Stage → Version → Stage → Type 0
IsUp number stage next after = 5 * number.0 + stage_number stage ≤ 5 * next.0 + stage_number after

same_up : (number next : Version) (stage after : Stage) → next ≡ number → after ≡ stage → IsUp number stage next after
same_up number next stage after version same = rw (version, same) (omega arith)

run_up : (stage : Stage) → stage_number stage ≤ stage_number (stage_run stage)
run_up Rests = omega arith
run_up Prepares = omega arith
run_up DefersProgress = omega arith
run_up Progresses = omega arith
run_up DefersPending = omega arith
run_up Pends = omega arith
run_up Flushes = omega arith

defer_up : (its : Deferred) (from out after stage : Stage) (step : Deferring) → stage_number from ≤ stage_number out → DefersAt its from out after stage step → stage_number stage ≤ stage_number (defer_moves stage out step)
defer_up its from out after stage (defer.Puts other slot epoch) up at = let same = ap stage_number at.1 in omega (arith, up, same)
defer_up its from out after stage step up at = omega arith

start_up : (number : Version) (stage : Stage) (s : StartState) (step : Starting) → StartAt number stage s step → stage_number stage ≤ stage_number (start_moves stage s step)
start_up number stage s (start.StoresPrepare its) at = let same = ap stage_number at.1 in omega (arith, same)
start_up number stage s (start.Defers its first) at = defer_up (EntersPhase phases.InProgress (version_after number)) Prepares DefersProgress Progresses stage s.defer.step (omega arith) at.1
start_up number stage s step at = omega arith

enter_up : (number : Version) (stage : Stage) (s : EnterState) (step : Entering) → EnterAt number stage s step → stage_number stage ≤ stage_number (enter_moves stage s step)
enter_up number stage s enter.Defers at = defer_up (EntersPhase phases.WaitPending (version_after number)) Progresses DefersPending Pends stage s.defer.step (omega arith) at.0
enter_up number stage s step at = omega arith

seek_up : (stage : Stage) (step : Seeking) → stage_number stage ≤ stage_number (seek_moves stage step)
seek_up stage seek.StoresWaitFlush = few_stages stage
seek_up stage step = omega arith

finish_up : (number : Version) (stage : Stage) (step : Finishing) → FitsVersion number stage → FinishAt stage step → IsUp number stage (finish_number number step) (finish_moves stage step)
finish_up number stage finish.StoresRest fits at =
    let few = few_stages stage in
    let low = fits.lower (ap is_resting at) in
    omega (arith, few, low)
finish_up number stage step fits at = omega arith

keeping_up : (number : Version) (stage : Stage) (s : KeeperState) (step : Keeping) → FitsVersion number stage → StepAt number stage s step → IsUp number stage (keeping_number number s step) (keeping_moves stage s step)
keeping_up number stage s Starts fits at = let up = start_up number stage s.start s.start.step at in omega (arith, up)
keeping_up number stage s Enters fits at = let up = enter_up number stage s.enter s.enter.step at.1 in omega (arith, up)
keeping_up number stage s Seeks fits at = let up = seek_up stage s.seek.step in omega (arith, up)
keeping_up number stage s Finishes fits at = finish_up number stage s.finish.step fits at.1
keeping_up number stage s step fits at = omega arith

-- as an action is put
putting_up : (number : Version) (stage : Stage) (s : KeeperState) (step : Keeping) → KeeperPuts s step → StepAt number stage s step → stage_number stage ≤ stage_number (keeping_moves stage s step)
putting_up number stage s Starts puts at = start_up number stage s.start s.start.step at
putting_up number stage s Enters puts at = enter_up number stage s.enter s.enter.step at.1
putting_up number stage s Seeks puts at = seek_up stage s.seek.step
putting_up number stage s Maintains puts at = omega arith
putting_up number stage s step puts at = absurd puts

through : (number between next : Version) (stage at after : Stage) → IsUp number stage between at → IsUp between at next after → IsUp number stage next after
through number between next stage at after one other = omega (arith, one, other)

-- ---- an event
module _ (n after : Now) (number : Version) (stage : Stage) (its : IsStaged n number stage) where
  replied_up : (between : Version) (at : Stage) → Replied n number between stage at → IsUp number stage between at
  replied_up between at (inl kept) = same_up number between stage at kept.version kept.same
  replied_up between at (inr (inl stored)) = rw (stored.version, stored.moves) (keeping_up number stage n.keeper n.keeper.step its.fits its.keeper.step)
  replied_up between at (inr (inr ran)) = let up = run_up stage in rw (ran.version, ran.runs) (omega (arith, up))

  led_up : (next : Version) (there : Stage) → LedOn n after.keeper after.words number next stage there → IsUp number stage next there
  led_up next there led =
      let onto = led.onto in
      through number onto.between next stage onto.at there (replied_up onto.between onto.at onto.replied)
      (elim onto.settled [
        | inl plain ↦ same_up onto.between next onto.at there plain.version plain.same
        | inr puts ↦
            let is = keeper_puts onto.between onto.at n.shape n.places onto.led onto.led.step onto.keeper.step (ap is_put puts.asks) in
            let up = putting_up onto.between onto.at onto.led onto.led.step is onto.keeper.step in
            rw (puts.version, puts.moves) (omega (arith, up))
      ])

  how_up : (next : Version) (there : Stage) → Quietly n after.keeper number next stage there ⊎ (RunBySession n after.keeper number next stage there ⊎ LedOn n after.keeper after.words number next stage there) → IsUp number stage next there
  how_up next there (inl quiet) = same_up number next stage there quiet.same.version quiet.same.same
  how_up next there (inr (inl session)) = let up = run_up stage in rw (session.ran.version, session.ran.runs) (omega (arith, up))
  how_up next there (inr (inr led)) = led_up next there led

-- ---- a life
pub rank_up : (opening : World) (start : ℕ) (events : List Event) (event : Event) → IsOpened opening.now start → IsOpenedWorld opening → OpensAtRest opening.now → rank_now opening events ≤ rank_now opening (event ∷ events)
rank_up opening start events event guarded opened rests =
    let n : Now = (run opening events).now in
    let after : Now = (run opening (event ∷ events)).now in
    let past = life_staged opening start events guarded opened rests in
    let there = event_on opening start guarded opened events event past.number past.stage past.staged in
    let up = how_up n after past.number past.stage past.staged there.on.its_number there.on.its_stage there.how in
    let was = staged_rank n past.number past.stage past.staged in
    let is = staged_rank after there.on.its_number there.on.its_stage there.on.staged in
    omega (arith, up, was, is)

pub ranks_rise : RanksRise
ranks_rise opening start events event opens = rank_up opening start events event opens.guarded opens.opened opens.seen.rests

-- it is the lowest as the life begins
not_below : (low mid high : ℕ) → low ≤ mid → mid ≤ high → low ≤ high
not_below low mid high one other = omega (arith, one, other)

pub rank_first : (opening : World) (start : ℕ) (events : List Event) → OpensQuiet opening start → word_rank opening.now ≤ rank_now opening events
unfolding run
rank_first opening start [] opens = omega arith
rank_first opening start (event ∷ before) opens = not_below (word_rank opening.now) (rank_now opening before) (rank_now opening (event ∷ before)) (rank_first opening start before opens) (ranks_rise opening start before event opens)
