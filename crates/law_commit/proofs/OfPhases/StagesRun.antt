-- As the action that is out runs, the keeper is at the stage to which that leads, whoever runs it.
use Rattle.std.proofs.Common.{◌≡◌, inl, inr, refl}
use Rattle.fkv_base.specs.declared.numbers.Version.{Version}
use Rattle.fkv_base.specs.declared.phases.Phase.TheVariants.{InProgress, WaitPending}
use Rattle.law_refine.specs.Below.fkv_commit.Deferred.{Deferred}
use Rattle.law_refine.specs.Below.fkv_commit.Deferred.TheVariants.{EntersPhase}
use Rattle.law_refine.specs.Below.fkv_commit.DeferAnswer.TheVariants.{Held, NoSlot, Spent, Armed}
use Rattle.law_refine.specs.Below.fkv_commit.TheDeferring.{Deferring}
use Rattle.law_refine.specs.Below.fkv_commit.TheDeferring.TheVariants as defer
use Rattle.law_refine.specs.Below.fkv_commit.EnterAnswer.TheVariants as enter
use Rattle.law_refine.specs.Below.fkv_commit.TheEntering.{Entering}
use Rattle.law_refine.specs.Below.fkv_commit.TheEntering.TheVariants as entering
use Rattle.law_refine.specs.Below.fkv_commit.TheFinishing.{Finishing}
use Rattle.law_refine.specs.Below.fkv_commit.TheFinishing.TheVariants as finishing
use Rattle.law_refine.specs.Below.fkv_commit.TheSeeking.{Seeking}
use Rattle.law_refine.specs.Below.fkv_commit.TheSeeking.TheVariants as seeking
use Rattle.law_refine.specs.Below.fkv_commit.StartAnswer.TheVariants as start
use Rattle.law_refine.specs.Below.fkv_commit.TheStarting.{Starting}
use Rattle.law_refine.specs.Below.fkv_commit.TheStarting.TheVariants as starting
use Rattle.law_refine.specs.Below.fkv_commit.Commits.{version_after}
use Rattle.law_refine.specs.Below.fkv_commit.Entering.{EnterState}
use Rattle.law_refine.specs.Below.fkv_commit.Seeking.{SeekState}
use Rattle.law_refine.specs.Below.fkv_commit.Starting.{StartState}
use Rattle.law_refine.specs.Below.fkv_keeper.TheKeeping.{Keeping}
use Rattle.law_refine.specs.Below.fkv_keeper.TheKeeping.TheVariants.{Ended, Starts, Maintains, LoadsPhase, Enters, Copies, Seeks, Waits, Writes, Finishes, Sweeps}
use Rattle.law_refine.specs.Below.fkv_keeper.Keeping.{KeeperState}
use Rattle.law_commit.specs.Phases.Staged.{Stage, Rests, Prepares, DefersProgress, Progresses, DefersPending, Pends, Flushes, DefersAt, EarlyAt, EnterAt, FinishAt, KeeperAt, SeekAt, StartAt, StepAt, stage_run}

-- ---- the keeper's step is so at another stage if its parts are, and none of them flushes
module _ (number : Version) (stage other : Stage) (not_flushes : stage ≡ Flushes → ⊥) (s : KeeperState) where
  finish_runs : (step : Finishing) → FinishAt stage step → FinishAt other step
  finish_runs (finishing.Ended its) is = is
  finish_runs (finishing.StoresDurable session) is = absurd (not_flushes is)
  finish_runs finishing.StoresRest is = absurd (not_flushes is)

  module _ (starts : StartAt number stage s.start s.start.step → StartAt number other s.start s.start.step) (enters : EnterAt number stage s.enter s.enter.step → EnterAt number other s.enter s.enter.step)
      (seeks : SeekAt number stage s.seek s.seek.step → SeekAt number other s.seek s.seek.step) where
    step_runs : (step : Keeping) → StepAt number stage s step → StepAt number other s step
    step_runs Starts is = starts is
    step_runs Enters is = (is.0, enters is.1)
    step_runs Seeks is = (is.0, seeks is.1)
    step_runs Waits is = absurd (not_flushes is.0)
    step_runs Writes is = absurd (not_flushes is.0)
    step_runs Finishes is = (is.0, finish_runs s.finish.step is.1, is.2, is.3)
    step_runs step is = tt

-- ---- in-progress is stored
progress_defers : (its : Deferred) (step : Deferring) → DefersAt its Prepares DefersProgress Progresses DefersProgress step → DefersAt its Prepares DefersProgress Progresses Progresses step
progress_defers its (defer.Raises other) is = cc
progress_defers its (defer.Puts other slot epoch) is = cc
progress_defers its (defer.Arms epoch) is = inr refl
progress_defers its (defer.Ended (Armed epoch)) is = inr refl
progress_defers its (defer.Ended Held) is = cc
progress_defers its (defer.Ended NoSlot) is = cc
progress_defers its (defer.Ended Spent) is = cc
progress_defers its defer.Seeks is = cc
progress_defers its defer.Holds is = cc

-- a phase isn't deferred at a stage that is none of its own
not_deferred : {X : Type 0} (its : Deferred) (before out after stage : Stage) (step : Deferring) → (stage ≡ before → ⊥) → (stage ≡ out → ⊥) → (stage ≡ after → ⊥) → DefersAt its before out after stage step → X
not_deferred its before out after stage (defer.Raises other) not_before not_out not_after is = absurd (not_before is.1)
not_deferred its before out after stage (defer.Puts other slot epoch) not_before not_out not_after is = absurd (not_before is.1)
not_deferred its before out after stage (defer.Arms epoch) not_before not_out not_after (inl e) = absurd (not_out e)
not_deferred its before out after stage (defer.Arms epoch) not_before not_out not_after (inr e) = absurd (not_after e)
not_deferred its before out after stage (defer.Ended (Armed epoch)) not_before not_out not_after (inl e) = absurd (not_out e)
not_deferred its before out after stage (defer.Ended (Armed epoch)) not_before not_out not_after (inr e) = absurd (not_after e)
not_deferred its before out after stage step not_before not_out not_after is = absurd (not_before is)

progress_starts : (number : Version) (s : StartState) (step : Starting) → StartAt number DefersProgress s step → StartAt number Progresses s step
progress_starts number s (starting.Ended (start.Begun its first)) is = (is.0, inr refl)
progress_starts number s (starting.Ended start.Idle) is = tt
progress_starts number s (starting.Ended (start.Refused why)) is = tt
progress_starts number s starting.LoadsPhase is = tt
progress_starts number s (starting.Seeks its) is = let clash : DefersProgress ≡ Rests = is.1 in cc
progress_starts number s (starting.StoresPrepare its) is = let clash : DefersProgress ≡ Rests = is.1 in cc
progress_starts number s (starting.LoadsTail its) is = let clash : DefersProgress ≡ Prepares = is.1 in cc
progress_starts number s (starting.Defers its first) is = (is.0, progress_defers (EntersPhase InProgress (version_after number)) s.defer.step is.1)

progress_enters : (number : Version) (s : EnterState) (step : Entering) → EnterAt number DefersProgress s step → EnterAt number Progresses s step
progress_enters number s (entering.Ended enter.Entered) (inl e) = cc
progress_enters number s (entering.Ended enter.Entered) (inr e) = cc
progress_enters number s (entering.Ended enter.Idle) is = refl
progress_enters number s (entering.Ended enter.DrainFull) is = refl
progress_enters number s (entering.Ended enter.EpochsSpent) is = refl
progress_enters number s entering.Seeks is = let clash : DefersProgress ≡ Progresses = is.0 in cc
progress_enters number s entering.Defers is = not_deferred (EntersPhase WaitPending (version_after number)) Progresses DefersPending Pends DefersProgress s.defer.step (λ e. cc) (λ e. cc) (λ e. cc) is.0

progress_seeks : (number : Version) (s : SeekState) (step : Seeking) → SeekAt number DefersProgress s step → SeekAt number Progresses s step
progress_seeks number s (seeking.Ended its) is = tt
progress_seeks number s (seeking.LoadsOwing session) is = cc
progress_seeks number s seeking.SeeksSlot is = let clash : DefersProgress ≡ Pends = is.0 in cc
progress_seeks number s seeking.LoadsCut is = let clash : DefersProgress ≡ Pends = is.0 in cc
progress_seeks number s (seeking.LoadsOther first) is = let clash : DefersProgress ≡ Pends = is.0 in cc
progress_seeks number s seeking.LoadsAgain is = let clash : DefersProgress ≡ Pends = is.0 in cc
progress_seeks number s seeking.StoresWaitFlush is = let clash : DefersProgress ≡ Pends = is.0 in cc
progress_seeks number s seeking.LoadsTail is = let clash : DefersProgress ≡ Flushes = is.0 in cc
progress_seeks number s (seeking.RaisesReadOnly end) is = let clash : DefersProgress ≡ Flushes = is.0 in cc
progress_seeks number s (seeking.Defers end) is = let clash : DefersProgress ≡ Flushes = is.0 in cc

progress_early : (s : KeeperState) (step : Keeping) → EarlyAt Progresses s step
progress_early s Enters = tt
progress_early s (Ended told) = λ e. refl
progress_early s Starts = λ e. refl
progress_early s Maintains = λ e. refl
progress_early s LoadsPhase = λ e. refl
progress_early s Copies = λ e. refl
progress_early s Sweeps = λ e. refl
progress_early s Seeks = λ e. refl
progress_early s Waits = λ e. refl
progress_early s Writes = λ e. refl
progress_early s Finishes = λ e. refl

-- ---- wait-pending is stored
pending_defers : (its : Deferred) (step : Deferring) → DefersAt its Progresses DefersPending Pends DefersPending step → DefersAt its Progresses DefersPending Pends Pends step
pending_defers its (defer.Raises other) is = cc
pending_defers its (defer.Puts other slot epoch) is = cc
pending_defers its (defer.Arms epoch) is = inr refl
pending_defers its (defer.Ended (Armed epoch)) is = inr refl
pending_defers its (defer.Ended Held) is = cc
pending_defers its (defer.Ended NoSlot) is = cc
pending_defers its (defer.Ended Spent) is = cc
pending_defers its defer.Seeks is = cc
pending_defers its defer.Holds is = cc

pending_starts : (number : Version) (s : StartState) (step : Starting) → StartAt number DefersPending s step → StartAt number Pends s step
pending_starts number s (starting.Ended (start.Begun its first)) (starts, inl e) = cc
pending_starts number s (starting.Ended (start.Begun its first)) (starts, inr e) = cc
pending_starts number s (starting.Ended start.Idle) is = tt
pending_starts number s (starting.Ended (start.Refused why)) is = tt
pending_starts number s starting.LoadsPhase is = tt
pending_starts number s (starting.Seeks its) is = let clash : DefersPending ≡ Rests = is.1 in cc
pending_starts number s (starting.StoresPrepare its) is = let clash : DefersPending ≡ Rests = is.1 in cc
pending_starts number s (starting.LoadsTail its) is = let clash : DefersPending ≡ Prepares = is.1 in cc
pending_starts number s (starting.Defers its first) is = not_deferred (EntersPhase InProgress (version_after number)) Prepares DefersProgress Progresses DefersPending s.defer.step (λ e. cc) (λ e. cc) (λ e. cc) is.1

pending_enters : (number : Version) (s : EnterState) (step : Entering) → EnterAt number DefersPending s step → EnterAt number Pends s step
pending_enters number s (entering.Ended enter.Entered) is = inr refl
pending_enters number s (entering.Ended enter.Idle) is = cc
pending_enters number s (entering.Ended enter.DrainFull) is = cc
pending_enters number s (entering.Ended enter.EpochsSpent) is = cc
pending_enters number s entering.Seeks is = let clash : DefersPending ≡ Progresses = is.0 in cc
pending_enters number s entering.Defers is = (pending_defers (EntersPhase WaitPending (version_after number)) s.defer.step is.0, λ done. let clash : DefersPending ≡ Progresses = is.1 done in cc)

pending_seeks : (number : Version) (s : SeekState) (step : Seeking) → SeekAt number DefersPending s step → SeekAt number Pends s step
pending_seeks number s (seeking.Ended its) is = tt
pending_seeks number s (seeking.LoadsOwing session) is = refl
pending_seeks number s seeking.SeeksSlot is = (refl, is.1)
pending_seeks number s seeking.LoadsCut is = (refl, is.1)
pending_seeks number s (seeking.LoadsOther first) is = (refl, is.1)
pending_seeks number s seeking.LoadsAgain is = (refl, is.1)
pending_seeks number s seeking.StoresWaitFlush is = (refl, is.1)
pending_seeks number s seeking.LoadsTail is = let clash : DefersPending ≡ Flushes = is.0 in cc
pending_seeks number s (seeking.RaisesReadOnly end) is = let clash : DefersPending ≡ Flushes = is.0 in cc
pending_seeks number s (seeking.Defers end) is = let clash : DefersPending ≡ Flushes = is.0 in cc

pending_early : (s : KeeperState) (step : Keeping) → EarlyAt DefersPending s step → EarlyAt Pends s step
pending_early s Enters early = tt
pending_early s (Ended told) early = early
pending_early s Starts early = early
pending_early s Maintains early = early
pending_early s LoadsPhase early = early
pending_early s Copies early = early
pending_early s Sweeps early = early
pending_early s Seeks early = early
pending_early s Waits early = early
pending_early s Writes early = early
pending_early s Finishes early = early

pub runs_on : (number : Version) (stage : Stage) (s : KeeperState) → KeeperAt number stage s → KeeperAt number (stage_run stage) s
runs_on number DefersProgress s its =
    let has = its.has in
    record { has = record { next = has.next; hand = λ c in_hand. ((has.hand c in_hand).0, refl); rests = λ rests. let clash : DefersProgress ≡ Flushes = has.rests rests in cc }; early = progress_early s s.step; step = step_runs number DefersProgress Progresses (λ e. cc) s (λ is. progress_starts number s.start s.start.step is) (λ is. progress_enters number s.enter s.enter.step is) (λ is. progress_seeks number s.seek s.seek.step is) s.step its.step }
runs_on number DefersPending s its =
    let has = its.has in
    record { has = record { next = has.next; hand = λ c in_hand. ((has.hand c in_hand).0, refl); rests = λ rests. let clash : DefersPending ≡ Flushes = has.rests rests in cc }; early = pending_early s s.step its.early; step = step_runs number DefersPending Pends (λ e. cc) s (λ is. pending_starts number s.start s.start.step is) (λ is. pending_enters number s.enter s.enter.step is) (λ is. pending_seeks number s.seek s.seek.step is) s.step its.step }
runs_on number Rests s its = its
runs_on number Prepares s its = its
runs_on number Progresses s its = its
runs_on number Pends s its = its
runs_on number Flushes s its = its
