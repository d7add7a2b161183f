-- In each life what is on paper goes on with the stages of its commits.
use Rattle.std.proofs.Common.{◌≡◌, inl, inr, ℕ, ◌^◌, ◌<◌, ◌≤◌, ◌∙◌, List, ◌∷◌, refl, arith, sym, ap, subst, Bool, true, false}
use Rattle.std.specs.Prelude.{Option, Some, None}
use Rattle.fkv_base.specs.Limits.{last_version}
use Rattle.fkv_base.specs.declared.numbers.Version.{Version}
use Rattle.fkv_base.specs.declared.phases.Phase.TheVariants as phases
use Rattle.fkv_plane.specs.declared.actions.Action.{Action}
use Rattle.fkv_plane.specs.declared.actions.Action.TheVariants as act
use Rattle.fkv_plane.specs.declared.places.SharedWord.TheVariants as one
use Rattle.fkv_plane.specs.Asked.{reply_to, word_at, words_after}
use Rattle.fkv_plane.specs.Places.{shared_place}
use Rattle.fkv_epoch.specs.declared.claiming.Claiming.{Claiming}
use Rattle.fkv_epoch.specs.declared.claiming.Claiming.TheVariants as claim
use Rattle.fkv_epoch.specs.EpochWorld.{Armed, epoch_of, safe_of}
use Rattle.fkv_epoch.proofs.Shown.{epoch_is_small}
use Rattle.law_refine.specs.Below.fkv_commit.Commit.{Commit}
use Rattle.law_refine.specs.Below.fkv_commit.Deferred.TheVariants.{EntersPhase}
use Rattle.law_refine.specs.Below.fkv_commit.TheDeferring.{Deferring}
use Rattle.law_refine.specs.Below.fkv_commit.TheEntering.{Entering}
use Rattle.law_refine.specs.Below.fkv_commit.TheFinishing.{Finishing}
use Rattle.law_refine.specs.Below.fkv_commit.TheFinishing.TheVariants as finishing
use Rattle.law_refine.specs.Below.fkv_commit.TheSeeking.{Seeking}
use Rattle.law_refine.specs.Below.fkv_commit.TheSeeking.TheVariants as seeking
use Rattle.law_refine.specs.Below.fkv_commit.TheStarting.{Starting}
use Rattle.law_refine.specs.Below.fkv_commit.TheStarting.TheVariants as starting
use Rattle.law_refine.specs.Below.fkv_commit.Commits.{version_after}
use Rattle.law_refine.specs.Below.fkv_commit.Seeking.{SeekState}
use Rattle.law_refine.specs.Below.fkv_commit.Starting.{StartState}
use Rattle.law_refine.specs.Below.fkv_flush.GuardLevels.{levels_of}
use Rattle.law_refine.specs.Below.fkv_flush.GuardWorld.{GuardWorld, epoch_world, guard_run}
use Rattle.law_refine.specs.Below.fkv_keeper.TheKeeping.{Keeping}
use Rattle.law_refine.specs.Below.fkv_keeper.TheKeeping.TheVariants.{Ended, Starts, Maintains, LoadsPhase, Enters, Copies, Seeks, Waits, Writes, Finishes, Sweeps}
use Rattle.law_refine.specs.Below.fkv_keeper.Keeping.{KeeperState, commit_asked, keeper_ask, keeper_next, keeping_next, turn_asked}
use Rattle.law_refine.specs.Below.fkv_maintain.TheMaintaining.{Maintaining}
use Rattle.law_refine.specs.Below.fkv_maintain.TheMaintaining.TheVariants as maintain
use Rattle.law_refine.specs.Below.fkv_maintain.Maintaining.{MaintainState}
use Rattle.law_refine.specs.Below.fkv_session.OwnTurning.{OwnTurning}
use Rattle.law_refine.specs.Below.fkv_session.OwnTurning.TheVariants as turning
use Rattle.law_refine.specs.Below.fkv_session.Sitting.{Sitting}
use Rattle.law_refine.specs.Below.fkv_session.Sitting.TheVariants.{Turns}
use Rattle.law_refine.specs.Below.fkv_session.OwnTurns.{OwnTurnState}
use Rattle.law_refine.specs.Below.fkv_session.Sessions.{SessionState}
use Rattle.law_refine.specs.Below.fkv_world.Moves.{keeper_gets}
use Rattle.law_refine.specs.Below.fkv_world.Opened.{IsOpenedWorld}
use Rattle.law_refine.specs.Below.fkv_world.Runs.{World, read_by_keeper, run}
use Rattle.law_refine.specs.Below.fkv_world.World.{Event, Now}
use Rattle.law_refine.specs.Below.law_world.Guarded.GuardEvents.{guard_events}
use Rattle.law_refine.specs.Below.law_world.Guarded.Shows as guard
use Rattle.law_refine.specs.Below.law_world.Guarded.Shows.{seen_by_guard}
use Rattle.law_refine.specs.Below.law_world.GuardKeeper.KeeperShown.{KeepingKnows}
use Rattle.law_refine.proofs.Below.law_world.OfGuarded.Kept.{is_steps}
use Rattle.law_refine.proofs.Below.law_world.OfGuarded.Worlds.{life_shows}
use Rattle.law_paper.specs.Phases as paper
use Rattle.law_paper.specs.Phases.{PhaseEvent, Phasing, RaisesEnding, RaisesPending, RaisesProgress, StoresNext, WaitsFlush, phase_after, phase_run}
use Rattle.law_refine.proofs.Footprint.Commits.{finish_stores, seek_stores, start_stores}
use Rattle.law_refine.proofs.Footprint.Keepers.{keeper_stores}
use Rattle.law_refine.proofs.OfRecords.Puts.{is_put}
use Rattle.law_commit.specs.Floor.Stands.{PaperIsSound}
use Rattle.law_commit.specs.Phases.Projected.{ShowsLife, ShowsSessions, session_phase_events}
use Rattle.law_commit.specs.Phases.Running.{IsSafeRun, claim_runs, keeping_runs, maintain_runs, sitting_runs, turn_runs}
use Rattle.law_commit.specs.Phases.Staged.{DefersAt, DefersPending, DefersProgress, EnterAt, FinishAt, FitsVersion, Flushes, HasInHand, IsStaged, Pends, Prepares, Progresses, Rests, SeekAt, Stage, StartAt, StepAt, WithKeeper, WithSession, claim_hand, defer_moves, enter_moves, finish_moves, finish_number, hand_found, held, is_resting, keeper_hand, keeping_hand, keeping_moves, keeping_number, maintain_hand, phase_in, seek_moves, sitting_hand, stage_out, stage_phase, stage_run, stage_version, start_moves, turn_hand}
use Rattle.law_commit.proofs.OfFloor.Armed.{ArmedSo, Onward, armed_on, stays_onward}
use Rattle.law_commit.proofs.OfFloor.KeeperFits.{EndingFits, EnterFits, Ground, HandFits, IsEnding, KeeperFits, KeepingFits, PendingFits, ProgressFits, SeekFits, StartFits}
use Rattle.law_commit.proofs.OfFloor.KeeperGoes.{KeeperReply, StoresReady, asked_fits, called_fits, commit_asked_fits, enter_puts_fit, given_fits, keeper_goes_fits, rest_fits, seek_puts_fit, start_puts_fit, turn_asked_fits, turn_puts_fit}
use Rattle.law_commit.proofs.OfFloor.KeeperOver.{IsOver, hand_over, keeper_reply, over_fits}
use Rattle.law_commit.proofs.OfFloor.KeeperPuts.{KeeperPuts, keeper_puts}
use Rattle.law_commit.proofs.OfFloor.OnPaper.{LeadsHere, goes_on_paper}
use Rattle.law_commit.proofs.OfFloor.Papers.{Papers, RaisedAt, one_more, staged_rank}
use Rattle.law_commit.proofs.OfFloor.Paths.{Path, SameAddresses, ending_raises, ending_step, one_on, pending_raises, pending_step, prepares_step, progress_first, progress_step, raises_epoch, rests_step, runs_step, stores_epoch, waited_raises, waits_step}
use Rattle.law_commit.proofs.OfPhases.LifeStages.{event_on, low_now}
use Rattle.law_commit.proofs.OfPhases.QuietShown.{life_on, rest_events, rest_shown, risen}
use Rattle.law_commit.proofs.OfPhases.SafeRuns.{keeper_runs, sessions_run}
use Rattle.law_commit.proofs.OfPhases.SessionsShown.{events_same, events_shown}
use Rattle.law_commit.proofs.OfPhases.StageMoves.{Kept, LedOn, OwnStore, Plain, QuietKeeper, Ran, Replied, RunBySession}

-- ---- who has an action in hand runs it
record HandRuns (runs : Option Armed) (action : Action) : Type 0 where
  its : Armed
  is : runs ≡ Some its
  same : its.action ≡ action

some_same : {X : Type 0} {x y : X} → ◌≡◌ {A = Option X} (Some x) (Some y) → x ≡ y
some_same e = cc

claim_hand_runs : (step : Claiming) (action : Action) → claim_hand step ≡ Some action → HandRuns (claim_runs step) action
claim_hand_runs (claim.Runs slot epoch safe its) action is = record { its = record { slot = slot; epoch = epoch; action = its }; is = refl; same = some_same is }
claim_hand_runs step action is = cc

turn_hand_runs : (o : OwnTurnState) (step : OwnTurning) (action : Action) → turn_hand o step ≡ Some action → HandRuns (turn_runs o step) action
turn_hand_runs o turning.Claims action is = claim_hand_runs o.claiming action is
turn_hand_runs o step action is = cc

sitting_hand_runs : (s : SessionState) (step : Sitting) (action : Action) → sitting_hand s step ≡ Some action → HandRuns (sitting_runs s step) action
sitting_hand_runs s (Turns its) action is = turn_hand_runs s.own_turn s.own_turn.step action is
sitting_hand_runs s step action is = cc

maintain_hand_runs : (m : MaintainState) (step : Maintaining) (action : Action) → maintain_hand m step ≡ Some action → HandRuns (maintain_runs m step) action
maintain_hand_runs m maintain.Claims action is = claim_hand_runs m.claiming action is
maintain_hand_runs m step action is = cc

keeping_hand_runs : (s : KeeperState) (step : Keeping) (action : Action) → keeping_hand s step ≡ Some action → HandRuns (keeping_runs s step) action
keeping_hand_runs s Maintains action is = maintain_hand_runs s.maintain s.maintain.step action is
keeping_hand_runs s step action is = cc

-- ---- what a store of the keeper's finds
hand_ready : (g : Ground) (s : KeeperState) (step : Keeping) (action : Action) → keeping_hand s step ≡ Some action → StoresReady g s step
hand_ready g s Maintains action is = tt
hand_ready g s step action is = cc

kept_ready : (g : Ground) (s : KeeperState) (step : Keeping) → keeper_stores s step ≡ false → StoresReady g s step
kept_ready g s Starts none = λ so. let clash : false ≡ true = sym none ∙ so in cc
kept_ready g s Seeks none = λ so. let clash : false ≡ true = sym none ∙ so in cc
kept_ready g s (Ended told) none = tt
kept_ready g s Maintains none = tt
kept_ready g s LoadsPhase none = tt
kept_ready g s Enters none = tt
kept_ready g s Copies none = tt
kept_ready g s Sweeps none = tt
kept_ready g s Waits none = tt
kept_ready g s Writes none = tt
kept_ready g s Finishes none = tt

record StartStores (number : Version) (stage : Stage) (s : StartState) (step : Starting) : Type 0 where
  rests : stage ≡ Rests
  moves : start_moves stage s step ≡ Prepares

start_stored : (number : Version) (stage : Stage) (s : StartState) (step : Starting) → start_stores step ≡ true → StartAt number stage s step → StartStores number stage s step
start_stored number stage s (starting.StoresPrepare its) so is = record { rests = is.1; moves = refl }
start_stored number stage s (starting.Ended told) so is = cc
start_stored number stage s starting.LoadsPhase so is = cc
start_stored number stage s (starting.Seeks its) so is = cc
start_stored number stage s (starting.LoadsTail its) so is = cc
start_stored number stage s (starting.Defers its first) so is = cc

record SeekStores (stage after : Stage) : Type 0 where
  pends : stage ≡ Pends
  moves : after ≡ Flushes

seek_stored : (number : Version) (stage : Stage) (s : SeekState) (step : Seeking) → seek_stores step ≡ true → SeekAt number stage s step → SeekStores stage (seek_moves stage step)
seek_stored number stage s seeking.StoresWaitFlush so is = record { pends = is.0; moves = refl }
seek_stored number stage s step so is = cc

record FinishStores (number next : Version) (stage after : Stage) : Type 0 where
  version : next ≡ version_after number
  moves : after ≡ Rests

finish_stored : (number : Version) (stage : Stage) (step : Finishing) → finish_stores step ≡ true → FinishStores number (finish_number number step) stage (finish_moves stage step)
finish_stored number stage finishing.StoresRest so = record { version = refl; moves = refl }
finish_stored number stage step so = cc

finish_at : (stage : Stage) (step : Finishing) → FinishAt stage step → stage ≡ Flushes
finish_at stage (finishing.Ended told) is = absurd is
finish_at stage (finishing.StoresDurable session) is = is
finish_at stage finishing.StoresRest is = is

-- no writes rest but where wait-flush is stored
rests_none : (number : Version) (stage : Stage) (s : KeeperState) → HasInHand number stage s → (stage ≡ Flushes → ⊥) → s.rests ≡ false
rests_none number stage s has other = by s.rests refl
  where
    by : (b : Bool) → s.rests ≡ b → b ≡ false
    by true rests = absurd (other (has.rests rests))
    by false awake = refl

none_rests : (number : Version) (stage : Stage) (s : KeeperState) (found : Option Commit) → s.commit ≡ found → HasInHand number stage s → stage ≡ Rests → found ≡ None
none_rests number stage s None is has rests = refl
none_rests number stage s (Some c) is has rests = let stored = (has.hand c is).1 in let clash : true ≡ false = sym (ap is_resting rests) ∙ stored in cc

-- ---- what is known at a moment
abbrev pub ground_of : Phasing → ℕ → Ground
ground_of p top = record { raises = p.raises; tail = p.tail; safe = p.safe; before = p.epoch; epoch = top }

-- What is on paper shows the life, is sound, and is at its stage; the keeper and what is armed fit its raises.
pub record Floored (opening : World) (start : ℕ) (events : List Event) (number : Version) (stage : Stage) (p : Phasing) : Type 0 where
  pub staged : IsStaged (run opening events).now number stage
  pub life : ShowsLife p opening events
  pub on_paper : LeadsHere opening events p
  pub sound : paper.IsSound p
  pub papers : Papers p number stage
  pub fits : KeeperFits (ground_of p p.epoch) (run opening events).now.keeper
  pub due : p.raises.due ≤ p.epoch
  pub armed : ArmedSo (seen_by_guard opening start events) number stage p.raises.due

pub record LifeFloored (opening : World) (start : ℕ) (events : List Event) : Type 0 where
  pub number : Version
  pub stage : Stage
  pub p : Phasing
  pub its : Floored opening start events number stage p

module _ (opening : World) (start : ℕ) (guarded : guard.IsOpened opening.now start) (opened : IsOpenedWorld opening) (paper_sound : PaperIsSound) (events : List Event) (event : Event) (number : Version) (stage : Stage) (p : Phasing)
    (was : Floored opening start events number stage p) where
  abbrev here : Now
  here = (run opening events).now

  abbrev there : Now
  there = (run opening (event ∷ events)).now

  abbrev guards : GuardWorld
  guards = seen_by_guard opening start events

  abbrev own : List PhaseEvent
  own = session_phase_events here event

  abbrev top : ℕ
  top = epoch_of there.words

  abbrev Way : List PhaseEvent → Version → Stage → Type 0
  Way list next after = Path p number stage p.raises.due p.epoch top own list next after

  abbrev ground : List PhaseEvent → Ground
  ground list = ground_of (phase_run p list) top

  knows : KeepingKnows (levels_of guards.now.words) here.keeper here.keeper.step
  knows = (life_shows opening start events guarded).keeper.keeps.knows.its

  epoch_same : p.epoch ≡ epoch_of guards.now.words
  epoch_same = was.life.words.epoch ∙ ap epoch_of (sym (life_shows opening start events guarded).words)

  own_way : Way own number stage
  own_way =
      let still = events_same p here event in
      let shown = events_shown p opening events event opened was.life.words was.life.sessions in
      let up = risen opening start events event guarded in
      record {
        enabled = shown.enabled;
        papers = record { base = still.base ∙ was.papers.base; at = still.stage ∙ was.papers.at; raised = subst (λ (r : paper.Raises). RaisedAt stage r) (sym still.raises) was.papers.raised };
        tail = refl;
        safe = refl;
        sessions = refl;
        epoch = let a = still.epoch in let b = was.life.words.epoch in let c = up.epoch in omega (arith, a, b, c);
        onward = stays_onward number stage p.raises.due (phase_run p own).raises.due p.epoch (ap (λ (r : paper.Raises). r.due) still.raises) was.due;
      }

  -- ---- where they lead
  finish : (list : List PhaseEvent) (next : Version) (after : Stage) → Way list next after → IsStaged there next after → KeeperFits (ground list) there.keeper → LifeFloored opening start (event ∷ events)
  finish list next after path staged fits =
      let q : Phasing = phase_run p list in
      let still = events_same p here event in
      let shown = events_shown p opening events event opened was.life.words was.life.sessions in
      let up = risen opening start events event guarded in
      let tail_low : q.tail ≤ word_at there.words (shared_place one.Tail) = let a = path.tail in let b = still.tail in let c = was.life.words.tail in let d = up.tail in omega (arith, a, b, c, d) in
      let safe_low : q.safe ≤ safe_of there.words = let a = path.safe in let b = still.safe in let c = was.life.safe in let d = up.safe in omega (arith, a, b, c, d) in
      let sessions = subst (λ (x : paper.Sessions). ShowsSessions x opening (event ∷ events)) (sym path.sessions) shown.shows in
      let rest = rest_shown p opening start events event guarded opened list (stage_phase after) (stage_version next after) staged.word (staged_rank q next after path.papers staged.fits) sessions path.epoch tail_low safe_low path.enabled in
      let r : Phasing = phase_run p (rest_events there.words q list) in
      let same = rest.commit in
      let shows = life_shows opening start (event ∷ events) guarded in
      let over : IsOver (ground list) (ground_of r r.epoch) = record {
        first = ap (λ (x : paper.Raises). x.first) same.raises;
        ending = ap (λ (x : paper.Raises). x.ending) same.raises;
        end = ap (λ (x : paper.Raises). x.end) same.raises;
        tail = let a = rest.shows.words.tail in omega (arith, a, tail_low);
        safe = let a = rest.shows.safe in omega (arith, a, safe_low);
      } in
      let steps = is_steps here (read_by_keeper (run opening events)) event in
      let before = life_shows opening start events guarded in
      let onward : Onward number next stage after p.raises.due q.raises.due (epoch_of guards.now.words) = subst (λ (x : ℕ). Onward number next stage after p.raises.due q.raises.due x) epoch_same path.onward in
      let armed : ArmedSo (guard_run guards (guard_events here (read_by_keeper (run opening events)) event)) next after q.raises.due =
      armed_on here guards number next stage after p.raises.due q.raises.due before was.staged.out was.armed onward _ steps.actor (guard_events here (read_by_keeper (run opening events)) event) before.sound steps.step in
      record {
        number = next;
        stage = after;
        p = r;
        its = record {
          staged = staged;
          life = rest.shows;
          on_paper = goes_on_paper opening events event p (rest_events there.words q list) was.on_paper rest.enabled rest.shows;
          sound = paper_sound p (rest_events there.words q list) was.sound rest.enabled;
          papers = record { base = same.base ∙ path.papers.base; at = same.stage ∙ path.papers.at; raised = subst (λ (x : paper.Raises). RaisedAt after x) (sym same.raises) path.papers.raised };
          fits = over_fits (ground list) (ground_of r r.epoch) over (levels_of (seen_by_guard opening start (event ∷ events)).now.words) there.keeper shows.keeper.keeps.knows.its fits;
          due = let a = ap (λ (x : paper.Raises). x.due) same.raises in let b = path.onward.low in let c = rest.shows.words.epoch in let d = was.life.words.epoch in let e = up.epoch in omega (arith, a, b, c, d, e);
          armed = subst (λ (x : ℕ). ArmedSo (seen_by_guard opening start (event ∷ events)) next after x) (sym (ap (λ (x : paper.Raises). x.due) same.raises))
              (subst (λ (x : GuardWorld). ArmedSo x next after q.raises.due) (sym (life_on opening start events event)) armed);
        };
      }

  -- ---- what the keeper knew before
  record GoesTo (r : Phasing) : Type 0 where
    epoch : r.epoch ≡ p.epoch
    tail : r.tail ≡ p.tail
    safe : r.safe ≡ p.safe
    raises : SameAddresses p.raises r.raises

  abbrev Goes : List PhaseEvent → Type 0
  Goes list = GoesTo (phase_run p list)

  own_goes : Goes own
  own_goes =
      let still = events_same p here event in
      record {
        epoch = still.epoch;
        tail = still.tail;
        safe = still.safe;
        raises = record { first = ap (λ (r : paper.Raises). r.first) still.raises; ending = ap (λ (r : paper.Raises). r.ending) still.raises; end = ap (λ (r : paper.Raises). r.end) still.raises };
      }

  keeper_then : (list : List PhaseEvent) → Goes list → KeeperFits (ground list) here.keeper
  keeper_then list goes =
      let tail = goes.tail in
      let safe = goes.safe in
      let over : IsOver (ground_of p p.epoch) (ground list) = record { first = goes.raises.first; ending = goes.raises.ending; end = goes.raises.end; tail = omega (arith, tail); safe = omega (arith, safe) } in
      over_fits (ground_of p p.epoch) (ground list) over (levels_of guards.now.words) here.keeper knows was.fits

  -- its reply
  led_fits : (granted : Bool) (list : List PhaseEvent) → Goes list → there.words ≡ words_after here.words (keeper_ask here.shape here.places here.keeper) → StoresReady (ground list) here.keeper here.keeper.step
      → KeeperFits (ground list) (keeper_next here.shape here.places here.keeper (reply_to here.words (keeper_ask here.shape here.places here.keeper)) granted)
  led_fits granted list goes words ready =
      let g : Ground = ground list in
      let before = life_shows opening start events guarded in
      let fits = keeper_then list goes in
      let tail = goes.tail in
      let safe = goes.safe in
      let epoch = goes.epoch in
      let a = was.life.words.tail in
      let b = was.life.safe in
      let c = was.life.words.epoch in
      let small : epoch_of here.words < 2 ^ 49 = subst (λ (x : List ℕ). epoch_of x < 2 ^ 49) before.words (epoch_is_small (epoch_world guards) before.sound.epochs) in
      let low = low_now opening start guarded opened events in
      let says : KeeperReply g here.keeper here.keeper.step (reply_to here.words (keeper_ask here.shape here.places here.keeper)) =
      keeper_reply g here.words (omega (arith, a, tail)) (omega (arith, b, safe)) (omega (arith, c, epoch)) small (omega (arith, low)) there.words refl (levels_of guards.now.words) here.shape here.places here.keeper here.keeper.step knows words in
      keeper_goes_fits g (levels_of guards.now.words) number stage here.shape here.places here.keeper here.keeper.step (reply_to here.words (keeper_ask here.shape here.places here.keeper)) granted refl was.staged.keeper.step knows ready says fits.hand fits.step

  -- ---- an event that stores nothing and puts nothing
  quiet_keeper : (its : KeeperState) → QuietKeeper here its → KeeperFits (ground own) its
  quiet_keeper its how =
      let g : Ground = ground own in
      let fits = keeper_then own own_goes in
      elim how [
        | inl same ↦ subst (λ (x : KeeperState). KeeperFits g x) (sym same) fits
        | inr more ↦ elim more [
          | inl called ↦ subst (λ (x : KeeperState). KeeperFits g x) (sym called.2) (called_fits g here.shape here.places here.keeper here.keeper.step called.0 called.1 refl fits.hand fits.step fits)
          | inr asked ↦ elim asked [
            | inl commit ↦ subst (λ (x : KeeperState). KeeperFits g x) (sym commit.1) (asked_fits g here.keeper (commit_asked here.keeper commit.0) fits (commit_asked_fits g here.keeper commit.0 fits.hand))
            | inr turn ↦ subst (λ (x : KeeperState). KeeperFits g x) (sym turn) (asked_fits g here.keeper (turn_asked here.keeper) fits (turn_asked_fits g here.keeper fits.hand))
          ]
        ]
      ]

  way_to : (list : List PhaseEvent) (next its : Version) (after at : Stage) → its ≡ next → at ≡ after → Way list next after → Way list its at
  way_to list next its after at version same path = subst (λ (v : Version). Way list v at) (sym version) (subst (λ (x : Stage). Way list next x) (sym same) path)

  -- ---- the action that is out runs
  safe_due : (action : Action) (its : Armed) → Some action ≡ stage_out number stage → its.action ≡ action → IsSafeRun opening start events its → p.raises.due ≤ p.safe
  safe_due action its out same run_safe =
      let since = was.armed.since its run_safe.armed (ap Some same ∙ out) in
      let low = run_safe.safe in
      let b = was.life.safe in
      omega (arith, since, low, b)

  abbrev run_event : PhaseEvent
  run_event = StoresNext (phase_run p own).raises.due

  run_way : (action : Action) → Some action ≡ stage_out number stage → p.raises.due ≤ p.safe → Way (run_event ∷ own) number (stage_run stage)
  run_way action out safe =
      let q : Phasing = phase_run p own in
      let still = events_same p here event in
      let due = ap (λ (r : paper.Raises). r.due) still.raises in
      let q_safe = still.safe in
      let low = was.due in
      let step = runs_step q number p.epoch (omega (arith, due, low)) stage action out own_way.papers (omega (arith, due, q_safe, safe)) in
      let epoch = (stores_epoch q q.raises.due).3 in
      let top_low = own_way.epoch in
      one_on p number stage p.raises.due p.epoch top own own number number stage (stage_run stage) run_event own_way step (omega (arith, epoch, top_low))

  -- an event that leaves the epoch and the addresses
  goes_on : (list : List PhaseEvent) (later : PhaseEvent) → Goes list → (phase_after (phase_run p list) later).epoch ≡ (phase_run p list).epoch → (phase_after (phase_run p list) later).tail ≡ (phase_run p list).tail
      → (phase_after (phase_run p list) later).safe ≡ (phase_run p list).safe → SameAddresses (phase_run p list).raises (phase_after (phase_run p list) later).raises → Goes (later ∷ list)
  goes_on list later before epoch tail safe raises =
      subst (λ (r : Phasing). GoesTo r) (sym (one_more p list later)) (record {
        epoch = epoch ∙ before.epoch;
        tail = tail ∙ before.tail;
        safe = safe ∙ before.safe;
        raises = record { first = raises.first ∙ before.raises.first; ending = raises.ending ∙ before.raises.ending; end = raises.end ∙ before.raises.end };
      })

  run_goes : Goes (run_event ∷ own)
  unfolding phase_after
  run_goes = goes_on own run_event own_goes refl refl refl (record { first = refl; ending = refl; end = refl })

  prepare_goes : Goes (paper.Prepares ∷ own)
  unfolding phase_after
  prepare_goes = goes_on own paper.Prepares own_goes refl refl refl (record { first = refl; ending = refl; end = refl })

  wait_goes : Goes (WaitsFlush ∷ own)
  unfolding phase_after
  wait_goes = goes_on own WaitsFlush own_goes refl refl refl (record { first = refl; ending = refl; end = refl })

  by_session : (next : Version) (after : Stage) → RunBySession here there.keeper number next stage after → IsStaged there next after → LifeFloored opening start (event ∷ events)
  by_session next after r staged =
      let action : Action = act.Phase r.ran.its r.ran.its_version in
      let has : held here (WithSession r.session) ≡ Some action = ap (λ (x : Option SessionState). phase_in (hand_found x)) r.got ∙ ap phase_in r.ran.has in
      let out = was.staged.out.its_own (WithSession r.session) action has in
      let runs = sitting_hand_runs r.s r.s.step action r.ran.has in
      let safe = safe_due action runs.its out runs.same (sessions_run opening start events r.session r.s runs.its guarded r.got runs.is) in
      finish (run_event ∷ own) next after (way_to (run_event ∷ own) number next (stage_run stage) after r.ran.version r.ran.runs (run_way action out safe)) staged
      (subst (λ (x : KeeperState). KeeperFits (ground (run_event ∷ own)) x) (sym r.keeper) (keeper_then (run_event ∷ own) run_goes))

  -- ---- the keeper is led on
  -- behind its reply
  record Behind (led : KeeperState) (between : Version) (at : Stage) : Type 0 where
    list : List PhaseEvent
    path : Way list between at
    epoch : (phase_run p list).epoch ≡ p.epoch
    fits : KeeperFits (ground list) led

  module _ (granted : Bool) (led : KeeperState) (is_led : led ≡ keeper_next here.shape here.places here.keeper (reply_to here.words (keeper_ask here.shape here.places here.keeper)) granted)
      (words : there.words ≡ words_after here.words (keeper_ask here.shape here.places here.keeper)) (between : Version) (at : Stage) where
    led_so : (list : List PhaseEvent) → KeeperFits (ground list) (keeper_next here.shape here.places here.keeper (reply_to here.words (keeper_ask here.shape here.places here.keeper)) granted) → KeeperFits (ground list) led
    led_so list fits = subst (λ (x : KeeperState). KeeperFits (ground list) x) (sym is_led) fits

    kept_behind : Kept here number between stage at → Behind led between at
    kept_behind kept = record {
      list = own;
      path = way_to own number between stage at kept.version kept.same own_way;
      epoch = own_goes.epoch;
      fits = led_so own (led_fits granted own own_goes words (kept_ready (ground own) here.keeper here.keeper.step kept.stores));
    }

    ran_behind : Ran number between stage at (keeper_hand here.keeper) → Behind led between at
    ran_behind ran =
        let action : Action = act.Phase ran.its ran.its_version in
        let has : held here WithKeeper ≡ Some action = ap phase_in ran.has in
        let out = was.staged.out.its_own WithKeeper action has in
        let runs = keeping_hand_runs here.keeper here.keeper.step action ran.has in
        let safe = safe_due action runs.its out runs.same (keeper_runs opening start events runs.its guarded runs.is) in
        record {
          list = run_event ∷ own;
          path = way_to (run_event ∷ own) number between (stage_run stage) at ran.version ran.runs (run_way action out safe);
          epoch = run_goes.epoch;
          fits = led_so (run_event ∷ own) (led_fits granted (run_event ∷ own) run_goes words (hand_ready (ground (run_event ∷ own)) here.keeper here.keeper.step action ran.has));
        }

    -- a phase of its own is stored
    abbrev Ready : Keeping → List PhaseEvent → Type 0
    Ready step list = StoresReady (ground list) here.keeper step

    due_low : (phase_run p own).raises.due ≤ p.epoch
    due_low = own_way.onward.low

    prepared : (step : Keeping) → here.keeper.step ≡ step → step ≡ Starts → start_stores here.keeper.start.step ≡ true → StartAt number stage here.keeper.start here.keeper.start.step → between ≡ number → at ≡ start_moves stage here.keeper.start here.keeper.start.step → Behind led between at
    prepared step is starts so start_at version moves =
        let stored = start_stored number stage here.keeper.start here.keeper.start.step so start_at in
        let q : Phasing = phase_run p own in
        let papers : Papers q number Rests = subst (λ (x : Stage). Papers q number x) stored.rests own_way.papers in
        let from : Way own number Rests = subst (λ (x : Stage). Way own number x) stored.rests own_way in
        let step_on = prepares_step q number p.epoch due_low papers in
        let epoch = (stores_epoch q 0).0 in
        let low = own_way.epoch in
        let path = one_on p number stage p.raises.due p.epoch top own own number number Rests Prepares paper.Prepares from step_on (omega (arith, epoch, low)) in
        let none = none_rests number stage here.keeper here.keeper.commit refl was.staged.keeper.has stored.rests in
        let ready : Ready here.keeper.step (paper.Prepares ∷ own) = subst (λ (x : Keeping). Ready x (paper.Prepares ∷ own)) (sym (is ∙ starts)) (λ stores. none) in
        record {
          list = paper.Prepares ∷ own;
          path = way_to (paper.Prepares ∷ own) number between Prepares at version (moves ∙ stored.moves) path;
          epoch = prepare_goes.epoch;
          fits = led_so (paper.Prepares ∷ own) (led_fits granted (paper.Prepares ∷ own) prepare_goes words ready);
        }

    flushed : here.keeper.step ≡ Seeks → seek_stores here.keeper.seek.step ≡ true → SeekAt number stage here.keeper.seek here.keeper.seek.step → between ≡ number → at ≡ seek_moves stage here.keeper.seek.step → Behind led between at
    flushed is so seek_at version moves =
        let stored = seek_stored number stage here.keeper.seek here.keeper.seek.step so seek_at in
        let q : Phasing = phase_run p own in
        let papers : Papers q number Pends = subst (λ (x : Stage). Papers q number x) stored.pends own_way.papers in
        let from : Way own number Pends = subst (λ (x : Stage). Way own number x) stored.pends own_way in
        let step_on = waits_step q number p.epoch due_low papers in
        let epoch = (stores_epoch q 0).1 in
        let low = own_way.epoch in
        let path = one_on p number stage p.raises.due p.epoch top own own number number Pends Flushes WaitsFlush from step_on (omega (arith, epoch, low)) in
        let none : (phase_run p (WaitsFlush ∷ own)).raises.ending ≡ 0 = ap (λ (r : Phasing). r.raises.ending) (one_more p own WaitsFlush) ∙ (ap (λ (r : paper.Raises). r.ending) (waited_raises q) ∙ papers.raised) in
        let ready : Ready here.keeper.step (WaitsFlush ∷ own) = subst (λ (x : Keeping). Ready x (WaitsFlush ∷ own)) (sym is) (λ stores. none) in
        record {
          list = WaitsFlush ∷ own;
          path = way_to (WaitsFlush ∷ own) number between Flushes at version (moves ∙ stored.moves) path;
          epoch = wait_goes.epoch;
          fits = led_so (WaitsFlush ∷ own) (led_fits granted (WaitsFlush ∷ own) wait_goes words ready);
        }

    rested : here.keeper.step ≡ Finishes → finish_stores here.keeper.finish.step ≡ true → StepAt number stage here.keeper Finishes → between ≡ finish_number number here.keeper.finish.step → at ≡ finish_moves stage here.keeper.finish.step → Behind led between at
    rested is so finishes version moves =
        let stored = finish_stored number stage here.keeper.finish.step so in
        let flushes = finish_at stage here.keeper.finish.step finishes.1 in
        let q : Phasing = phase_run p own in
        let papers : Papers q number Flushes = subst (λ (x : Stage). Papers q number x) flushes own_way.papers in
        let from : Way own number Flushes = subst (λ (x : Stage). Way own number x) flushes own_way in
        let fits = keeper_then own own_goes in
        let ending : KeepingFits (ground own) here.keeper Finishes = subst (λ (x : Keeping). KeepingFits (ground own) here.keeper x) is fits.step in
        let low_number : number.0 < last_version = was.staged.fits.lower (ap is_resting flushes) in
        let step_on = rests_step q number p.epoch due_low low_number papers ending.1.0 ending.1.1 in
        let epoch = (stores_epoch q 0).2 in
        let low = own_way.epoch in
        let path = one_on p number stage p.raises.due p.epoch top own own number (version_after number) Flushes Rests paper.Rests from step_on (omega (arith, epoch, low)) in
        let done : KeeperFits (ground (paper.Rests ∷ own)) (keeping_next here.shape here.places here.keeper Finishes (reply_to here.words (keeper_ask here.shape here.places here.keeper)) granted) =
        rest_fits (ground (paper.Rests ∷ own)) here.shape here.places here.keeper finishes.2.0 (reply_to here.words (keeper_ask here.shape here.places here.keeper)) granted so finishes.2.1 finishes.3 in
        record {
          list = paper.Rests ∷ own;
          path = way_to (paper.Rests ∷ own) (version_after number) between Rests at (version ∙ stored.version) (moves ∙ stored.moves) path;
          epoch = ap (λ (r : Phasing). r.epoch) (one_more p own paper.Rests) ∙ (epoch ∙ own_goes.epoch);
          fits = led_so (paper.Rests ∷ own) (subst (λ (x : Keeping). KeeperFits (ground (paper.Rests ∷ own)) (keeping_next here.shape here.places here.keeper x (reply_to here.words (keeper_ask here.shape here.places here.keeper)) granted)) (sym is) done);
        }

    stored_by : (step : Keeping) → here.keeper.step ≡ step → OwnStore here.keeper step → StepAt number stage here.keeper step → between ≡ keeping_number number here.keeper step → at ≡ keeping_moves stage here.keeper step → Behind led between at
    stored_by Starts is own_store at_step version moves = prepared Starts is refl own_store at_step version moves
    stored_by Seeks is own_store at_step version moves = flushed is own_store at_step.1 version moves
    stored_by Finishes is own_store at_step version moves = rested is own_store at_step version moves
    stored_by (Ended told) is own_store at_step version moves = absurd own_store
    stored_by Maintains is own_store at_step version moves = absurd own_store
    stored_by LoadsPhase is own_store at_step version moves = absurd own_store
    stored_by Enters is own_store at_step version moves = absurd own_store
    stored_by Copies is own_store at_step version moves = absurd own_store
    stored_by Sweeps is own_store at_step version moves = absurd own_store
    stored_by Waits is own_store at_step version moves = absurd own_store
    stored_by Writes is own_store at_step version moves = absurd own_store

    behind : Replied here number between stage at → Behind led between at
    behind (inl kept) = kept_behind kept
    behind (inr (inl stored)) = stored_by here.keeper.step refl stored.own was.staged.keeper.step stored.version stored.moves
    behind (inr (inr ran)) = ran_behind ran

  -- ---- and what goes with it
  plain : (led : KeeperState) (between next : Version) (at after : Stage) → Behind led between at → Plain here led there.keeper between next at after → IsStaged there next after → LifeFloored opening start (event ∷ events)
  plain led between next at after behind its staged =
      finish behind.list next after (way_to behind.list between next at after its.version its.same behind.path) staged
      (elim its.keeper [
        | inl same ↦ subst (λ (x : KeeperState). KeeperFits (ground behind.list) x) (sym same) behind.fits
        | inr gets ↦ subst (λ (x : KeeperState). KeeperFits (ground behind.list) x) (sym gets.1) (got gets.0)
      ])
    where
      got : (found : Option Action) → KeeperFits (ground behind.list) (keeper_gets here.shape here.places led found)
      got None = behind.fits
      got (Some action) = given_fits (ground behind.list) here.shape here.places led led.step action refl behind.fits

  module _ (granted : Bool) (led : KeeperState) (between next : Version) (at after : Stage) (behind : Behind led between at) (at_led : StepAt between at led led.step) (led_has : HasInHand between at led) (version : next ≡ between) (moves : after ≡ keeping_moves at led led.step)
      (its : there.keeper ≡ keeper_next here.shape here.places led 0 granted) (staged : IsStaged there next after) where
    abbrev q1 : Phasing
    q1 = phase_run p behind.list

    q1_some : 0 < q1.epoch
    q1_some = let epoch = behind.epoch in let safe = was.sound.raised.safe in omega (arith, epoch, safe)

    settled_so : (list : List PhaseEvent) (step : Keeping) → led.step ≡ step → KeeperFits (ground list) (keeping_next here.shape here.places led step 0 granted) → KeeperFits (ground list) there.keeper
    settled_so list step is fits =
        subst (λ (x : KeeperState). KeeperFits (ground list) x) (sym its) (subst (λ (x : Keeping). KeeperFits (ground list) (keeping_next here.shape here.places led x 0 granted)) (sym is) fits)

    q1_due : q1.raises.due ≤ p.epoch
    q1_due = behind.path.onward.low

    q1_low : q1.epoch ≤ p.epoch
    q1_low = let epoch = behind.epoch in omega (arith, epoch)

    puts_progress : led.step ≡ Starts → KeeperPuts led Starts → LifeFloored opening start (event ∷ events)
    puts_progress is puts =
        let first : ℕ = puts.first.0 in
        let e : PhaseEvent = RaisesProgress first in
        let fits : StartFits (ground behind.list) led.commit led.start led.start.step = subst (λ (x : Keeping). KeepingFits (ground behind.list) led x) is behind.fits.step in
        let starts = subst (λ (x : Starting). StartFits (ground behind.list) led.commit led.start x) puts.is fits in
        let ready = subst (λ (x : Deferring). ProgressFits (ground behind.list) first x) puts.puts.is starts.1 in
        let start_at : StartAt between at led.start led.start.step = subst (λ (x : Keeping). StepAt between at led x) is at_led in
        let defers = (subst (λ (x : Starting). StartAt between at led.start x) puts.is start_at).1 in
        let deferred = subst (λ (x : Deferring). DefersAt (EntersPhase phases.InProgress (version_after between)) Prepares DefersProgress Progresses at x) puts.puts.is defers in
        let prepares : at ≡ Prepares = deferred.1 in
        let moved_start : after ≡ start_moves at led.start led.start.step = subst (λ (x : Keeping). after ≡ keeping_moves at led x) is moves in
        let moved_defer = subst (λ (x : Starting). after ≡ start_moves at led.start x) puts.is moved_start in
        let is_after : after ≡ DefersProgress = subst (λ (x : Deferring). after ≡ defer_moves at DefersProgress x) puts.puts.is moved_defer in
        let staged_fits : FitsVersion next DefersProgress = subst (λ (x : Stage). FitsVersion next x) is_after staged.fits in
        let low_number : between.0 < last_version = subst (λ (v : Version). v.0 < last_version) version (staged_fits.lower refl) in
        let awake : led.rests ≡ false = rests_none between at led led_has (λ flushes. let clash : Prepares ≡ Flushes = sym prepares ∙ flushes in cc) in
        let papers = subst (λ (x : Stage). Papers q1 between x) prepares behind.path.papers in
        let from = subst (λ (x : Stage). Way behind.list between x) prepares behind.path in
        let step = progress_step q1 between p.epoch q1_due low_number q1_some q1_low first papers ready.0 in
        let raised = (raises_epoch q1 first).0 in
        let up = ready.1 in
        let path = one_on p number stage p.raises.due p.epoch top own behind.list between between Prepares DefersProgress e from step (omega (arith, raised, up)) in
        let same : first ≡ (phase_run p (e ∷ behind.list)).raises.first = sym (ap (λ (r : Phasing). r.raises.first) (one_more p behind.list e) ∙ progress_first q1 first) in
        finish (e ∷ behind.list) next after (way_to (e ∷ behind.list) between next DefersProgress after version is_after path) staged
        (settled_so (e ∷ behind.list) Starts is (start_puts_fit (ground (e ∷ behind.list)) here.shape here.places led puts.its puts.first puts.puts.its puts.puts.slot puts.puts.epoch 0 granted is puts.is puts.puts.is starts.0 awake same))

    puts_pending : led.step ≡ Enters → KeeperPuts led Enters → LifeFloored opening start (event ∷ events)
    puts_pending is puts =
        let e : PhaseEvent = RaisesPending in
        let fits : EnterFits (ground behind.list) led.enter led.enter.step = subst (λ (x : Keeping). KeepingFits (ground behind.list) led x) is behind.fits.step in
        let enters = subst (λ (x : Entering). EnterFits (ground behind.list) led.enter x) puts.is fits in
        let up = subst (λ (x : Deferring). PendingFits (ground behind.list) x) puts.puts.is enters in
        let enter_at : EnterAt between at led.enter led.enter.step = (subst (λ (x : Keeping). StepAt between at led x) is at_led).1 in
        let defers = (subst (λ (x : Entering). EnterAt between at led.enter x) puts.is enter_at).0 in
        let deferred = subst (λ (x : Deferring). DefersAt (EntersPhase phases.WaitPending (version_after between)) Progresses DefersPending Pends at x) puts.puts.is defers in
        let progresses : at ≡ Progresses = deferred.1 in
        let moved_enter : after ≡ enter_moves at led.enter led.enter.step = subst (λ (x : Keeping). after ≡ keeping_moves at led x) is moves in
        let moved_defer = subst (λ (x : Entering). after ≡ enter_moves at led.enter x) puts.is moved_enter in
        let is_after : after ≡ DefersPending = subst (λ (x : Deferring). after ≡ defer_moves at DefersPending x) puts.puts.is moved_defer in
        let staged_fits : FitsVersion next DefersPending = subst (λ (x : Stage). FitsVersion next x) is_after staged.fits in
        let low_number : between.0 < last_version = subst (λ (v : Version). v.0 < last_version) version (staged_fits.lower refl) in
        let papers = subst (λ (x : Stage). Papers q1 between x) progresses behind.path.papers in
        let from = subst (λ (x : Stage). Way behind.list between x) progresses behind.path in
        let step = pending_step q1 between p.epoch q1_due low_number q1_some q1_low papers in
        let raised = (raises_epoch q1 0).1 in
        let path = one_on p number stage p.raises.due p.epoch top own behind.list between between Progresses DefersPending e from step (omega (arith, raised, up)) in
        let kept = pending_raises q1 in
        let same = one_more p behind.list e in
        let over : SameAddresses q1.raises (phase_run p (e ∷ behind.list)).raises = subst (λ (r : Phasing). SameAddresses q1.raises r.raises) (sym same) kept in
        let hand = hand_over (ground behind.list) (ground (e ∷ behind.list)) (grounds_over (e ∷ behind.list) over (step.beside.tail) (step.beside.safe) same) led.commit led.has_points led.rests behind.fits.hand in
        finish (e ∷ behind.list) next after (way_to (e ∷ behind.list) between next DefersPending after version is_after path) staged
        (settled_so (e ∷ behind.list) Enters is (enter_puts_fit (ground (e ∷ behind.list)) here.shape here.places led puts.puts.its puts.puts.slot puts.puts.epoch 0 granted is puts.is puts.puts.is hand))
      where
        grounds_over : (list : List PhaseEvent) → SameAddresses q1.raises (phase_run p list).raises → (phase_after q1 RaisesPending).tail ≡ q1.tail → (phase_after q1 RaisesPending).safe ≡ q1.safe → phase_run p list ≡ phase_after q1 RaisesPending → IsOver (ground behind.list) (ground list)
        grounds_over list addresses tail safe same =
            let t = ap (λ (r : Phasing). r.tail) same in
            let s = ap (λ (r : Phasing). r.safe) same in
            record { first = addresses.first; ending = addresses.ending; end = addresses.end; tail = omega (arith, t, tail); safe = omega (arith, s, safe) }

    puts_ending : led.step ≡ Seeks → KeeperPuts led Seeks → LifeFloored opening start (event ∷ events)
    puts_ending is puts =
        let end : ℕ = puts.end.0 in
        let e : PhaseEvent = RaisesEnding end in
        let fits : SeekFits (ground behind.list) led.seek led.seek.step = subst (λ (x : Keeping). KeepingFits (ground behind.list) led x) is behind.fits.step in
        let seeks = subst (λ (x : Seeking). SeekFits (ground behind.list) led.seek x) puts.is fits in
        let ready = subst (λ (x : Deferring). EndingFits (ground behind.list) end x) puts.puts.is seeks in
        let seek_at : SeekAt between at led.seek led.seek.step = (subst (λ (x : Keeping). StepAt between at led x) is at_led).1 in
        let flushes : at ≡ Flushes = (subst (λ (x : Seeking). SeekAt between at led.seek x) puts.is seek_at).0 in
        let moved_seek : after ≡ seek_moves at led.seek.step = subst (λ (x : Keeping). after ≡ keeping_moves at led x) is moves in
        let is_after : after ≡ Flushes = subst (λ (x : Seeking). after ≡ seek_moves at x) puts.is moved_seek ∙ flushes in
        let papers = subst (λ (x : Stage). Papers q1 between x) flushes behind.path.papers in
        let from = subst (λ (x : Stage). Way behind.list between x) flushes behind.path in
        let step = ending_step q1 between p.epoch q1_due end papers ready.0 ready.1 in
        let raised = (raises_epoch q1 end).2 in
        let up = ready.2 in
        let path = one_on p number stage p.raises.due p.epoch top own behind.list between between Flushes Flushes e from step (omega (arith, raised, up)) in
        let same = one_more p behind.list e in
        let does = ending_raises q1 end in
        let some = q1_some in
        let first_is : (phase_run p (e ∷ behind.list)).raises.first ≡ q1.raises.first = ap (λ (r : Phasing). r.raises.first) same ∙ does.first in
        let ending_is : (phase_run p (e ∷ behind.list)).raises.ending ≡ q1.epoch = ap (λ (r : Phasing). r.raises.ending) same ∙ does.ending in
        let end_same : (phase_run p (e ∷ behind.list)).raises.end ≡ end = ap (λ (r : Phasing). r.raises.end) same ∙ does.end_is in
        let ending : IsEnding (phase_run p (e ∷ behind.list)).raises end puts.puts.epoch = record { some = omega (arith, ending_is, some); epoch_is = ready.3 ∙ sym ending_is; end_is = sym end_same } in
        let hand : HandFits (ground (e ∷ behind.list)) led.commit led.has_points led.rests = record {
          first = λ c in_hand. behind.fits.hand.first c in_hand ∙ sym first_is;
          points = λ c in_hand so. let old = behind.fits.hand.points c in_hand so in let had = old.some in let none = ready.0 in absurd (omega (arith, had, none));
          rests = λ rests. let old = (behind.fits.hand.rests rests).1 in let had = old.0 in let none = ready.0 in absurd (omega (arith, had, none));
        } in
        finish (e ∷ behind.list) next after (way_to (e ∷ behind.list) between next Flushes after version is_after path) staged
        (settled_so (e ∷ behind.list) Seeks is (seek_puts_fit (ground (e ∷ behind.list)) here.shape here.places led puts.end puts.puts.its puts.puts.slot puts.puts.epoch 0 granted is puts.is puts.puts.is hand ending))

    puts_turn : led.step ≡ Maintains → LifeFloored opening start (event ∷ events)
    puts_turn is =
        finish behind.list next after (way_to behind.list between next at after version (subst (λ (x : Keeping). after ≡ keeping_moves at led x) is moves) behind.path) staged
        (settled_so behind.list Maintains is (turn_puts_fit (ground behind.list) here.shape here.places led 0 granted is behind.fits.hand))

    puts_by : (step : Keeping) → led.step ≡ step → KeeperPuts led step → LifeFloored opening start (event ∷ events)
    puts_by Starts is puts = puts_progress is puts
    puts_by Enters is puts = puts_pending is puts
    puts_by Seeks is puts = puts_ending is puts
    puts_by Maintains is puts = puts_turn is
    puts_by (Ended told) is puts = absurd puts
    puts_by LoadsPhase is puts = absurd puts
    puts_by Copies is puts = absurd puts
    puts_by Sweeps is puts = absurd puts
    puts_by Waits is puts = absurd puts
    puts_by Writes is puts = absurd puts
    puts_by Finishes is puts = absurd puts

  led_on : (next : Version) (after : Stage) → LedOn here there.keeper there.words number next stage after → IsStaged there next after → LifeFloored opening start (event ∷ events)
  led_on next after its staged =
      let onto = its.onto in
      let there_behind = behind its.granted onto.led onto.is_led onto.words_are onto.between onto.at onto.replied in
      elim onto.settled [
        | inl calm ↦ plain onto.led onto.between next onto.at after there_behind calm staged
        | inr puts ↦ puts_by its.granted onto.led onto.between next onto.at after there_behind onto.keeper.step onto.keeper.has puts.version puts.moves puts.keeper staged onto.led.step refl
            (keeper_puts onto.between onto.at here.shape here.places onto.led onto.led.step onto.keeper.step (ap is_put puts.asks))
      ]

  pub event_floored : LifeFloored opening start (event ∷ events)
  event_floored =
      let on = event_on opening start guarded opened events event number stage was.staged in
      elim on.how [
        | inl quiet ↦ finish own on.on.its_number on.on.its_stage (way_to own number on.on.its_number stage on.on.its_stage quiet.same.version quiet.same.same own_way) on.on.staged (quiet_keeper there.keeper quiet.keeper)
        | inr more ↦ elim more [
          | inl session ↦ by_session on.on.its_number on.on.its_stage session on.on.staged
          | inr keeper ↦ led_on on.on.its_number on.on.its_stage keeper on.on.staged
        ]
      ]
