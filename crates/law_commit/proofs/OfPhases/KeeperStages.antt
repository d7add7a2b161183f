-- Each event of the keeper's own leaves it at the stage to which it leads.
use Rattle.std.proofs.Common.{◌≡◌, ◌⊎◌, inl, inr, ℕ, ◌+◌, ◌<◌, ◌∙◌, List, refl, arith, sym, ap, subst, Bool, true, false}
use Rattle.std.specs.Prelude.{⊤, if◌then◌else◌, nat_lt, Option, Some, None, ◌||◌}
use Rattle.fkv_base.specs.Limits.{last_version}
use Rattle.fkv_base.specs.declared.faults.Fault.TheVariants as fault
use Rattle.fkv_base.specs.declared.numbers.Addr.{Addr}
use Rattle.fkv_base.specs.declared.numbers.Serial.{Serial}
use Rattle.fkv_base.specs.declared.numbers.Version.{Version}
use Rattle.fkv_base.specs.declared.phases.Phase.TheVariants as phase
use Rattle.fkv_base.specs.declared.shapes.Shape.{Shape}
use Rattle.fkv_words.specs.declared.phase_words.PhaseSaid.{PhaseSaid}
use Rattle.fkv_words.specs.declared.phase_words.PhaseSaid.TheVariants.{Says}
use Rattle.fkv_words.specs.PhaseWords.{phase_said}
use Rattle.fkv_plane.specs.declared.actions.Action.{Action}
use Rattle.fkv_plane.specs.declared.asks.Ask.{Ask}
use Rattle.fkv_plane.specs.declared.asks.Ask.TheVariants.{Done}
use Rattle.fkv_plane.specs.declared.places.Places.{Places}
use Rattle.law_refine.specs.Below.fkv_commit.Commit.{Commit}
use Rattle.fkv_base.specs.declared.commits.CommitKind.{CommitKind}
use Rattle.law_refine.specs.Below.fkv_commit.EnterAnswer.{EnterAnswer}
use Rattle.law_refine.specs.Below.fkv_commit.EnterAnswer.TheVariants as enter
use Rattle.law_refine.specs.Below.fkv_commit.TheEntering.{Entering}
use Rattle.law_refine.specs.Below.fkv_commit.TheEntering.TheVariants as entering
use Rattle.law_refine.specs.Below.fkv_commit.TheFinishing.{Finishing}
use Rattle.law_refine.specs.Below.fkv_commit.TheFinishing.TheVariants as finishing
use Rattle.law_refine.specs.Below.fkv_commit.SeekAnswer.{SeekAnswer}
use Rattle.law_refine.specs.Below.fkv_commit.SeekAnswer.TheVariants as seek
use Rattle.law_refine.specs.Below.fkv_commit.TheSeeking.{Seeking}
use Rattle.law_refine.specs.Below.fkv_commit.TheSeeking.TheVariants as seeking
use Rattle.law_refine.specs.Below.fkv_commit.StartAnswer.{StartAnswer}
use Rattle.law_refine.specs.Below.fkv_commit.StartAnswer.TheVariants as start
use Rattle.law_refine.specs.Below.fkv_commit.TheStarting.{Starting}
use Rattle.law_refine.specs.Below.fkv_commit.TheStarting.TheVariants as starting
use Rattle.law_refine.specs.Below.fkv_commit.WaitAnswer.{WaitAnswer}
use Rattle.law_refine.specs.Below.fkv_commit.WaitAnswer.TheVariants as wait
use Rattle.law_refine.specs.Below.fkv_commit.Commits.{version_after}
use Rattle.law_refine.specs.Below.fkv_commit.Deferring.{defer_ask}
use Rattle.law_refine.specs.Below.fkv_commit.DeferAnswer.{DeferAnswer}
use Rattle.law_refine.specs.Below.fkv_commit.Deferred.TheVariants.{EntersPhase}
use Rattle.law_refine.specs.Below.fkv_commit.TheDeferring.{Deferring}
use Rattle.law_refine.specs.Below.fkv_commit.TheDeferring.TheVariants as defer
use Rattle.law_refine.specs.Below.fkv_commit.FinishAnswer.{FinishAnswer}
use Rattle.law_refine.specs.Below.fkv_commit.Entering.{EnterState, enter_begun, enter_ask, enter_next, entering_ask}
use Rattle.law_refine.specs.Below.fkv_commit.Finishing.{FinishState, durable_from, finish_ask, finishing_ask, finishing_next}
use Rattle.law_refine.specs.Below.fkv_commit.Seeking.{SeekState, seek_begun, seek_ask, seek_next}
use Rattle.law_refine.specs.Below.fkv_commit.Starting.{StartState, start_begun, start_ask, start_next, starting_ask}
use Rattle.law_refine.specs.Below.fkv_commit.Waiting.{wait_begun, wait_ask, wait_next}
use Rattle.fkv_plane.specs.Passing.{is_done, passed}
use Rattle.law_refine.specs.Below.fkv_manifest.WriteAnswer.{WriteAnswer}
use Rattle.law_refine.specs.Below.fkv_manifest.WriteAnswer.TheVariants as write
use Rattle.law_refine.specs.Below.fkv_manifest.Committing.{commit_next, commit_answer}
use Rattle.law_refine.specs.Below.fkv_maintain.MaintainAnswer.{MaintainAnswer}
use Rattle.law_refine.specs.Below.fkv_maintain.MaintainAnswer.TheVariants as maintain
use Rattle.law_refine.specs.Below.fkv_maintain.Maintaining.{is_flush_resting, maintain_ask, maintain_next, maintain_given, maintain_called}
use Rattle.law_refine.specs.Below.fkv_keeper.KeeperTold.{KeeperTold}
use Rattle.law_refine.specs.Below.fkv_keeper.KeeperTold.TheVariants.{TurnRefused, CommitRefused}
use Rattle.law_refine.specs.Below.fkv_keeper.TheKeeping.{Keeping}
use Rattle.law_refine.specs.Below.fkv_keeper.TheKeeping.TheVariants.{Ended, Starts, Maintains, LoadsPhase, Enters, Copies, Seeks, Waits, Writes, Finishes, Sweeps}
use Rattle.law_refine.specs.Below.fkv_keeper.Keeping.{KeeperState, ended, turned, commit_asked, turn_asked, start_ledto, maintain_ledto, copies, copies_next, must_rest, part_begun, parts_begun, serves_alone, unless_flush_rests, phase_ledto, enter_ledto, copied, copy_ledto, points_known, seek_ledto, writes_begun, wait_ledto, finished, finish_ledto, copy_driven, keeping_next, keeper_next, keeping_given, write_ledto, writes_called, writes_taken_up, keeping_called, copy_taken, is_copy_resting, copy_told, asked_for, sweeps_next}
use Rattle.law_refine.specs.Below.fkv_keeper.KeeperRun.{is_in_hand}
use Rattle.law_commit.specs.Phases.Staged.{FitsVersion, DefersAt, defer_moves, Stage, Rests, Prepares, DefersProgress, Progresses, DefersPending, Pends, Flushes, stage_phase, stage_version, is_resting, is_early, StartsIt, StartAt, EnterAt, SeekAt, FinishAt, StepAt, EarlyAt, HasInHand, KeeperAt, start_moves, enter_moves, seek_moves, finish_moves, keeping_moves, finish_number, keeping_number}
use Rattle.law_commit.proofs.OfPhases.CommitStages.{StartSays, start_goes, enter_goes, SeeksAt, seek_begins, seek_goes}
use Rattle.law_commit.proofs.Sweeps.{sweep_begins, sweep_moves, sweep_reads}

-- ---- where nothing but the control state changes
ended_at : (number : Version) (stage : Stage) (s : KeeperState) (told : KeeperTold) → HasInHand number stage s → (s.has_entered ≡ false → is_early stage ≡ true) → KeeperAt number stage (ended s told)
ended_at number stage s told has early = record { has = record { next = has.next; hand = has.hand; rests = has.rests }; early = early; step = tt }

either_at : (number : Version) (stage : Stage) (c : Bool) (a b : KeeperState) → (c ≡ true → KeeperAt number stage a) → (c ≡ false → KeeperAt number stage b) → KeeperAt number stage (if c then a else b)
either_at number stage true a b one other = one refl
either_at number stage false a b one other = other refl

at_step : (number : Version) (stage : Stage) (s : KeeperState) (step : Keeping) → s.step ≡ step → HasInHand number stage s → EarlyAt stage s step → StepAt number stage s step → KeeperAt number stage s
at_step number stage s step at has early its = record { has = has; early = subst (λ x. EarlyAt stage s x) (sym at) early; step = subst (λ x. StepAt number stage s x) (sym at) its }

-- ---- a commit starts
-- what it tells: one that has begun is behind prepare
abbrev StartTells : Version → Stage → Ask StartAnswer → Type 0
StartTells number stage (Done (start.Begun its first)) = StartsIt number its × ((stage ≡ DefersProgress) ⊎ (stage ≡ Progresses))
StartTells number stage ask = ⊤

passed_tells : (number : Version) (stage : Stage) (ask : Ask DeferAnswer) → StartTells number stage (passed ask start.Idle)
unfolding passed
passed_tells number stage (Done told) = tt
passed_tells number stage ask = tt

start_tells : (number : Version) (stage : Stage) (s : StartState) (step : Starting) → StartAt number stage s step → StartTells number stage (starting_ask s step)
unfolding starting_ask
start_tells number stage s (starting.Ended (start.Begun its first)) is = is
start_tells number stage s (starting.Ended start.Idle) is = tt
start_tells number stage s (starting.Ended (start.Refused why)) is = tt
start_tells number stage s starting.LoadsPhase is = tt
start_tells number stage s (starting.Seeks its) is = passed_tells number stage (defer_ask s.defer)
start_tells number stage s (starting.StoresPrepare its) is = tt
start_tells number stage s (starting.LoadsTail its) is = tt
start_tells number stage s (starting.Defers its first) is = passed_tells number stage (defer_ask s.defer)

some_same : {X : Type 0} {x y : X} → ◌≡◌ {A = Option X} (Some x) (Some y) → x ≡ y
some_same e = cc

behind_early : (stage : Stage) → (stage ≡ DefersProgress) ⊎ (stage ≡ Progresses) → is_early stage ≡ true
behind_early stage (inl e) = ap is_early e
behind_early stage (inr e) = ap is_early e

behind_stored : (stage : Stage) → (stage ≡ DefersProgress) ⊎ (stage ≡ Progresses) → is_resting stage ≡ false
behind_stored stage (inl e) = ap is_resting e
behind_stored stage (inr e) = ap is_resting e

started_at : (number : Version) (stage : Stage) (s : KeeperState) (ask : Ask StartAnswer) → s.step ≡ Starts → HasInHand number stage s → (s.has_entered ≡ false → is_early stage ≡ true) → StartAt number stage s.start s.start.step
    → StartTells number stage ask → KeeperAt number stage (start_ledto s ask)
unfolding start_ledto
started_at number stage s (Done (start.Begun its first)) at has early is tells = record {
  has = record { next = has.next; hand = λ c in_hand. (ap (λ (x : Commit). x.number) (sym (some_same in_hand)) ∙ tells.0.same, behind_stored stage tells.1); rests = λ e. cc };
  early = λ e. behind_early stage tells.1;
  step = tt;
}
started_at number stage s (Done (start.Refused why)) at has early is tells = ended_at number stage s _ has early
started_at number stage s (Done start.Idle) at has early is tells = ended_at number stage s _ has early
started_at number stage s ask at has early is tells = at_step number stage s Starts at has early is

-- as it goes on none is in hand
none_stays : (number : Version) (stage after : Stage) (s : KeeperState) → is_resting stage ≡ true → HasInHand number stage s → HasInHand number after s
none_stays number stage after s resting has = record {
  next = has.next;
  hand = λ c in_hand. let clash : true ≡ false = sym resting ∙ (has.hand c in_hand).1 in cc;
  rests = λ rests. let clash : true ≡ false = sym resting ∙ ap is_resting (has.rests rests) in cc;
}

starts_has : (number : Version) (stage : Stage) (s : KeeperState) (step : Starting) → s.start.step ≡ step → HasInHand number stage s → StartAt number stage s.start step → HasInHand number (start_moves stage s.start step) s
starts_has number stage s (starting.Ended told) at has is = has
starts_has number stage s starting.LoadsPhase at has is = has
starts_has number stage s (starting.Seeks its) at has is = has
starts_has number stage s (starting.StoresPrepare its) at has is = none_stays number stage Prepares s (ap is_resting is.1) has
starts_has number stage s (starting.LoadsTail its) at has is = has
starts_has number stage s (starting.Defers its first) at has is = defers_has s.start.defer.step is.1
  where
    defers_has : (step : Deferring) → DefersAt (EntersPhase phase.InProgress (version_after number)) Prepares DefersProgress Progresses stage step → HasInHand number (defer_moves stage DefersProgress step) s
    defers_has (defer.Puts other slot epoch) defers = record { next = has.next; hand = λ c in_hand. ((has.hand c in_hand).0, refl); rests = λ rests. let clash : Prepares ≡ Flushes = sym defers.1 ∙ has.rests rests in cc }
    defers_has (defer.Ended told) defers = has
    defers_has defer.Seeks defers = has
    defers_has defer.Holds defers = has
    defers_has (defer.Raises other) defers = has
    defers_has (defer.Arms epoch) defers = has

early_moves : (stage : Stage) (s : StartState) (step : Starting) (entered : Bool) → (entered ≡ false → is_early stage ≡ true) → entered ≡ false → is_early (start_moves stage s step) ≡ true
early_moves stage s (starting.Ended told) entered early e = early e
early_moves stage s starting.LoadsPhase entered early e = early e
early_moves stage s (starting.Seeks its) entered early e = early e
early_moves stage s (starting.StoresPrepare its) entered early e = refl
early_moves stage s (starting.LoadsTail its) entered early e = early e
early_moves stage s (starting.Defers its first) entered early e = by_step s.defer.step
  where
    by_step : (step : Deferring) → is_early (defer_moves stage DefersProgress step) ≡ true
    by_step (defer.Puts other slot epoch) = refl
    by_step (defer.Ended told) = early e
    by_step defer.Seeks = early e
    by_step defer.Holds = early e
    by_step (defer.Raises other) = early e
    by_step (defer.Arms epoch) = early e

-- ---- a turn
maintained_at : (number : Version) (stage : Stage) (s : KeeperState) (ask : Ask MaintainAnswer) → s.step ≡ Maintains → HasInHand number stage s → (s.has_entered ≡ false → is_early stage ≡ true) → KeeperAt number stage (maintain_ledto s ask)
unfolding maintain_ledto
maintained_at number stage s (Done maintain.Through) at has early = record { has = record { next = has.next; hand = has.hand; rests = has.rests }; early = early; step = tt }
maintained_at number stage s (Done maintain.Spent) at has early = ended_at number stage s _ has early
maintained_at number stage s (Done maintain.Broken) at has early = record { has = record { next = has.next; hand = has.hand; rests = λ e. cc }; early = early; step = tt }
maintained_at number stage s (Done maintain.Device) at has early = at_step number stage s Maintains at has early tt
maintained_at number stage s ask at has early = at_step number stage s Maintains at has early tt

-- what the phase calls for
copies_at : (number : Version) (stage : Stage) (p : Places) (s : KeeperState) (granted : Bool) → HasInHand number stage s → (s.has_entered ≡ false → is_early stage ≡ true) → KeeperAt number stage (copies p s granted)
copies_at number stage p s granted has early =
    either_at number stage (granted || is_copy_resting s.copy) (record s { copy = copy_taken p s.copy; is_granted = true; step = Copies }) (ended (record s { is_granted = false }) (TurnRefused fault.Memory))
    (λ yes. record { has = record { next = has.next; hand = has.hand; rests = has.rests }; early = early; step = tt }) (λ no. record { has = record { next = has.next; hand = has.hand; rests = has.rests }; early = early; step = tt })

copies_next_at : (number : Version) (stage : Stage) (p : Places) (s : KeeperState) (c : Commit) (granted : Bool) (other : KeeperState) → HasInHand number stage s → (s.has_entered ≡ false → is_early stage ≡ true) → KeeperAt number stage other
    → KeeperAt number stage (copies_next p s c granted other)
copies_next_at number stage p s c granted other has early its = either_at number stage c.is_copied other (copies p s granted) (λ yes. its) (λ no. copies_at number stage p s granted has early)

module _ (number : Version) (p : Places) (s : KeeperState) (c : Commit) (in_hand : s.commit ≡ Some c) (granted : Bool) where
  turned_at : (stage : Stage) → HasInHand number stage s → (s.has_entered ≡ false → is_early stage ≡ true) → KeeperAt number stage (turned s)
  turned_at stage has early = ended_at number stage s _ has early

  enters_at : (stage : Stage) → HasInHand number stage s → (s.has_entered ≡ false → stage ≡ Progresses) → (s.has_entered ≡ false → is_early stage ≡ true)
      → KeeperAt number stage (if s.has_entered then copies_next p s c granted (turned s) else record s { enter = enter_begun s.enter c.number; step = Enters })
  enters_at stage has progresses early =
      either_at number stage s.has_entered (copies_next p s c granted (turned s)) (record s { enter = enter_begun s.enter c.number; step = Enters })
      (λ yes. copies_next_at number stage p s c granted (turned s) has early (turned_at stage has early))
      (λ no. record { has = record { next = has.next; hand = has.hand; rests = has.rests }; early = tt; step = ((has.hand c in_hand).0, (progresses no, refl)) })

  part_at : (stage : Stage) → s.rests ≡ false → HasInHand number stage s → (s.has_entered ≡ false → is_early stage ≡ true) → KeeperAt number stage (part_begun p s c (Says (stage_phase stage) (stage_version number stage)) granted)
  part_at Rests awake has early = turned_at Rests has early
  part_at Prepares awake has early = turned_at Prepares has early
  part_at DefersProgress awake has early = turned_at DefersProgress has early
  part_at Progresses awake has early = enters_at Progresses has (λ no. refl) early
  part_at DefersPending awake has early = enters_at DefersPending has (λ no. let clash : false ≡ true = early no in cc) early
  part_at Pends awake has early =
      let begun : SeeksAt number Pends (seek_begun s.seek c.number s.last.points) = seek_begins number Pends s.seek c.number s.last.points (has.hand c in_hand).0 refl in
      copies_next_at number Pends p s c granted (record s { seek = seek_begun s.seek c.number s.last.points; has_points = false; step = Seeks }) has early
      (record { has = record { next = has.next; hand = has.hand; rests = has.rests }; early = early; step = (begun.same, begun.at) })
  part_at Flushes awake has early =
      either_at number Flushes s.has_points (record s { wait = wait_begun c.end c.epoch; step = Waits }) (turned s)
      (λ yes. record { has = record { next = has.next; hand = has.hand; rests = has.rests }; early = early; step = (refl, awake) }) (λ no. turned_at Flushes has early)

-- writes that rest go on, or rest still
taken_up_at : (number : Version) (stage : Stage) (s : KeeperState) (granted : Bool) → HasInHand number stage s → (s.has_entered ≡ false → is_early stage ≡ true) → stage ≡ Flushes → KeeperAt number stage (writes_taken_up s granted)
taken_up_at number stage s granted has early is =
    either_at number stage granted (record s { rests = false; is_granted = true; step = Writes }) (turned (record s { is_granted = false }))
    (λ yes. record { has = record { next = has.next; hand = has.hand; rests = λ e. cc }; early = early; step = (is, refl) })
    (λ no. record { has = record { next = has.next; hand = has.hand; rests = has.rests }; early = early; step = tt })

-- where a flush rests the turn is over
lets_at : (number : Version) (stage : Stage) (s : KeeperState) (granted : Bool) (its : KeeperState) → HasInHand number stage s → (s.has_entered ≡ false → is_early stage ≡ true) → KeeperAt number stage its → KeeperAt number stage (unless_flush_rests s granted its)
lets_at number stage s granted its has early led =
    either_at number stage (is_flush_resting s.maintain) (turned (record s { is_granted = granted })) its (λ rests. record { has = record { next = has.next; hand = has.hand; rests = has.rests }; early = early; step = tt }) (λ calm. led)

phase_at : (number : Version) (stage : Stage) (p : Places) (s : KeeperState) (found : Option Commit) (granted : Bool) → s.commit ≡ found → HasInHand number stage s → (s.has_entered ≡ false → is_early stage ≡ true)
    → KeeperAt number stage (phase_ledto p s found (Says (stage_phase stage) (stage_version number stage)) granted)
unfolding phase_ledto
phase_at number stage p s None granted at has early =
    lets_at number stage s granted (sweeps_next s granted) has early
    (sweep_begins (KeeperAt number stage) s granted (record { has = record { next = has.next; hand = has.hand; rests = has.rests }; early = early; step = tt }) (record { has = record { next = has.next; hand = has.hand; rests = has.rests }; early = early; step = tt }))
phase_at number stage p s (Some c) granted at has early =
    let part : KeeperState = part_begun p s c (Says (stage_phase stage) (stage_version number stage)) granted in
    either_at number stage s.rests (writes_taken_up s granted) (unless_flush_rests s granted part) (λ rests. taken_up_at number stage s granted has early (has.rests rests))
    (λ awake. lets_at number stage s granted part has early (part_at number p s c at granted stage awake has early))

-- ---- the parts that defer wait-pending, copy and seek
abbrev EnterTells : Stage → Ask EnterAnswer → Type 0
EnterTells stage (Done enter.Entered) = (stage ≡ DefersPending) ⊎ (stage ≡ Pends)
EnterTells stage (Done told) = stage ≡ Progresses
EnterTells stage ask = ⊤

passed_enters : (stage : Stage) (ask : Ask DeferAnswer) → (is_done ask ≡ true → stage ≡ Progresses) → EnterTells stage (passed ask enter.Idle)
unfolding passed
passed_enters stage (Done told) is = is refl
passed_enters stage ask is = tt

enter_tells : (number : Version) (stage : Stage) (s : EnterState) (step : Entering) → EnterAt number stage s step → EnterTells stage (entering_ask s step)
unfolding entering_ask
enter_tells number stage s (entering.Ended enter.Entered) is = is
enter_tells number stage s (entering.Ended enter.Idle) is = is
enter_tells number stage s (entering.Ended enter.DrainFull) is = is
enter_tells number stage s (entering.Ended enter.EpochsSpent) is = is
enter_tells number stage s entering.Seeks is = passed_enters stage (defer_ask s.defer) (λ done. is.0)
enter_tells number stage s entering.Defers is = passed_enters stage (defer_ask s.defer) is.1

progresses_early : (stage : Stage) → stage ≡ Progresses → is_early stage ≡ true
progresses_early stage e = ap is_early e

entered_at : (number : Version) (stage : Stage) (s : KeeperState) (ask : Ask EnterAnswer) → s.step ≡ Enters → HasInHand number stage s → s.enter.number ≡ number → EnterAt number stage s.enter s.enter.step → EnterTells stage ask
    → KeeperAt number stage (enter_ledto s ask)
unfolding enter_ledto
entered_at number stage s (Done enter.Entered) at has same is tells = record { has = record { next = has.next; hand = has.hand; rests = has.rests }; early = λ e. cc; step = tt }
entered_at number stage s (Done enter.DrainFull) at has same is tells = record { has = record { next = has.next; hand = has.hand; rests = has.rests }; early = λ e. progresses_early stage tells; step = tt }
entered_at number stage s (Done enter.EpochsSpent) at has same is tells = ended_at number stage s _ has (λ e. progresses_early stage tells)
entered_at number stage s (Done enter.Idle) at has same is tells = ended_at number stage s _ has (λ e. progresses_early stage tells)
entered_at number stage s ask at has same is tells = at_step number stage s Enters at has tt (same, is)

enters_has : (number : Version) (stage : Stage) (s : KeeperState) (step : Entering) → HasInHand number stage s → EnterAt number stage s.enter step → HasInHand number (enter_moves stage s.enter step) s
enters_has number stage s (entering.Ended told) has is = has
enters_has number stage s entering.Seeks has is = has
enters_has number stage s entering.Defers has is = by_step s.enter.defer.step is.0
  where
    by_step : (step : Deferring) → DefersAt (EntersPhase phase.WaitPending (version_after number)) Progresses DefersPending Pends stage step → HasInHand number (defer_moves stage DefersPending step) s
    by_step (defer.Puts other slot epoch) defers = record { next = has.next; hand = λ c in_hand. ((has.hand c in_hand).0, refl); rests = λ rests. let clash : Progresses ≡ Flushes = sym defers.1 ∙ has.rests rests in cc }
    by_step (defer.Ended told) defers = has
    by_step defer.Seeks defers = has
    by_step defer.Holds defers = has
    by_step (defer.Raises other) defers = has
    by_step (defer.Arms epoch) defers = has

-- a copy
copied_hand : (number : Version) (stage : Stage) (rests : Bool) (found : Option Commit) → ((c : Commit) → found ≡ Some c → (c.number ≡ number) × (is_resting stage ≡ false)) → (c : Commit) → copied rests found ≡ Some c → (c.number ≡ number) × (is_resting stage ≡ false)
copied_hand number stage rests None hand c is = cc
copied_hand number stage rests (Some its) hand c is =
    let has = hand its refl in
    (ap (λ (x : Commit). x.number) (sym (some_same is)) ∙ has.0, has.1)

copied_at : (number : Version) (stage : Stage) (s : KeeperState) (ask : Ask (Unit {0})) → s.step ≡ Copies → HasInHand number stage s → (s.has_entered ≡ false → is_early stage ≡ true) → KeeperAt number stage (copy_ledto s ask)
unfolding copy_ledto
copied_at number stage s (Done its) at has early = record { has = record { next = has.next; hand = copied_hand number stage (is_copy_resting s.copy) s.commit has.hand; rests = has.rests }; early = early; step = tt }
copied_at number stage s ask at has early = at_step number stage s Copies at has early tt

-- the points
known_hand : (number : Version) (stage : Stage) (found : Option Commit) (end : Addr) (epoch : ℕ) → ((c : Commit) → found ≡ Some c → (c.number ≡ number) × (is_resting stage ≡ false))
    → (c : Commit) → points_known found end epoch ≡ Some c → (c.number ≡ number) × (is_resting stage ≡ false)
known_hand number stage None end epoch hand c is = cc
known_hand number stage (Some its) end epoch hand c is =
    let has = hand its refl in
    (ap (λ (x : Commit). x.number) (sym (some_same is)) ∙ has.0, has.1)

sought_at : (number : Version) (stage : Stage) (s : KeeperState) (ask : Ask SeekAnswer) → s.step ≡ Seeks → HasInHand number stage s → (s.has_entered ≡ false → is_early stage ≡ true) → s.seek.number ≡ number
    → SeekAt number stage s.seek s.seek.step → KeeperAt number stage (seek_ledto s ask)
unfolding seek_ledto
sought_at number stage s (Done (seek.Taken end epoch)) at has early same is = record { has = record { next = has.next; hand = known_hand number stage s.commit end epoch has.hand; rests = has.rests }; early = early; step = tt }
sought_at number stage s (Done seek.DrainFull) at has early same is = record { has = record { next = has.next; hand = has.hand; rests = has.rests }; early = early; step = tt }
sought_at number stage s (Done seek.EpochsSpent) at has early same is = ended_at number stage s _ has early
sought_at number stage s (Done seek.Owing) at has early same is = ended_at number stage s _ has early
sought_at number stage s (Done seek.Idle) at has early same is = ended_at number stage s _ has early
sought_at number stage s ask at has early same is = at_step number stage s Seeks at has early (same, is)

seeks_has : (number : Version) (stage : Stage) (s : KeeperState) (step : Seeking) → HasInHand number stage s → HasInHand number (seek_moves stage step) s
seeks_has number stage s seeking.StoresWaitFlush has = record { next = has.next; hand = λ c in_hand. ((has.hand c in_hand).0, refl); rests = λ e. refl }
seeks_has number stage s step has = has

seeks_early : (number : Version) (stage : Stage) (s : SeekState) (step : Seeking) (entered : Bool) → SeekAt number stage s step → (entered ≡ false → is_early stage ≡ true) → entered ≡ false → is_early (seek_moves stage step) ≡ true
seeks_early number stage s seeking.StoresWaitFlush entered is early e = let clash : false ≡ true = sym (ap is_early is.0) ∙ early e in cc
seeks_early number stage s step entered is early e = early e

-- ---- the wait, the writes and the finish
written_at : (number : Version) (stage : Stage) (shape : Shape) (s : KeeperState) (found : Option Commit) → HasInHand number stage s → (s.has_entered ≡ false → is_early stage ≡ true) → (stage ≡ Flushes) × (s.rests ≡ false)
    → KeeperAt number stage (writes_begun shape s found)
written_at number stage shape s None has early is = ended_at number stage s _ has early
written_at number stage shape s (Some c) has early is = record { has = record { next = has.next; hand = has.hand; rests = has.rests }; early = early; step = is }

waited_at : (number : Version) (stage : Stage) (shape : Shape) (s : KeeperState) (ask : Ask WaitAnswer) → s.step ≡ Waits → HasInHand number stage s → (s.has_entered ≡ false → is_early stage ≡ true) → (stage ≡ Flushes) × (s.rests ≡ false)
    → KeeperAt number stage (wait_ledto shape s ask)
unfolding wait_ledto
waited_at number stage shape s (Done wait.Flushed) at has early is = written_at number stage shape s s.commit has early is
waited_at number stage shape s (Done wait.NotYet) at has early is = ended_at number stage s _ has early
waited_at number stage shape s (Done wait.Idle) at has early is = ended_at number stage s _ has early
waited_at number stage shape s ask at has early is = at_step number stage s Waits at has early is

durable_at : (sessions session : ℕ) → FinishAt Flushes (durable_from sessions session)
unfolding durable_from
durable_at sessions session = by_test (nat_lt session sessions)
  where
    by_test : (b : Bool) → FinishAt Flushes (if b then finishing.StoresDurable session else finishing.StoresRest)
    by_test true = refl
    by_test false = refl

finish_stays : (stage : Stage) (step : Finishing) → stage ≡ Flushes → FinishAt Flushes step → FinishAt stage step
finish_stays stage step is its = subst (λ (x : Stage). FinishAt x step) (sym is) its

-- a durable word is stored
more_durable : (number : Version) (stage : Stage) (s : KeeperState) (ask : Ask FinishAnswer) → s.step ≡ Finishes → HasInHand number stage s → (s.has_entered ≡ false → is_early stage ≡ true) → StepAt number stage s Finishes
    → (points : List Serial) → finish_ask points s.finish ≡ ask → KeeperAt number stage (finish_ledto s ask)
unfolding finish_ledto finishing_ask
more_durable number stage s (Done told) at has early is points asks = absurd (no_end s.finish.step is.1 asks)
  where
    no_end : (step : Finishing) → FinishAt stage step → finishing_ask points s.finish step ≡ Done told → ⊥
    no_end (finishing.Ended its) none e = none
    no_end (finishing.StoresDurable session) none e = cc
    no_end finishing.StoresRest none e = cc
more_durable number stage s ask at has early is points asks = at_step number stage s Finishes at has early is

-- rest is stored: the commit in hand is the newest finished one
rest_at : (number : Version) (stage : Stage) (s : KeeperState) (c : Commit) → s.commit ≡ Some c → s.rests ≡ false → HasInHand number stage s → number.0 < last_version → KeeperAt (version_after number) Rests (finished s (Some c))
rest_at number stage s c in_hand awake has low =
    let same = ap (λ (v : Version). v.0) (has.hand c in_hand).0 in
    record { has = record { next = omega (arith, same, low); hand = λ other none. cc; rests = λ rests. let clash : false ≡ true = sym awake ∙ rests in cc }; early = λ e. refl; step = tt }

module _ (number : Version) (stage : Stage) (s : KeeperState) where
  finish_led : Finishing → FinishState
  finish_led step = record s.finish { step = finishing_next s.finish step }

  by_finish : (step : Finishing) → s.step ≡ Finishes → HasInHand number stage s → (s.has_entered ≡ false → is_early stage ≡ true) → FitsVersion number stage → s.finish.number ≡ number → FinishAt stage step → (c : Commit) → s.commit ≡ Some c → s.rests ≡ false
      → KeeperAt (finish_number number step) (finish_moves stage step) (finish_ledto (record s { finish = record s.finish { step = finishing_next s.finish step } }) (finish_ask s.seek.points (record s.finish { step = finishing_next s.finish step })))
  unfolding finishing_next finishing_ask finish_ledto
  by_finish (finishing.Ended its) at has early fits same none c in_hand awake = absurd none
  by_finish (finishing.StoresDurable session) at has early fits same is c in_hand awake =
      more_durable number stage (record s { finish = record s.finish { step = durable_from s.finish.sessions (session + 1) } }) (finish_ask s.seek.points (record s.finish { step = durable_from s.finish.sessions (session + 1) })) at
      (record { next = has.next; hand = has.hand; rests = has.rests }) early (same, finish_stays stage (durable_from s.finish.sessions (session + 1)) is (durable_at s.finish.sessions (session + 1)), (c, in_hand), awake) s.seek.points refl
  by_finish finishing.StoresRest at has early fits same is c in_hand awake =
      let after : KeeperState = record s { finish = record s.finish { step = finishing_next s.finish finishing.StoresRest } } in
      subst (λ (x : Option Commit). KeeperAt (version_after number) Rests (finished after x)) (sym in_hand) (rest_at number stage after c in_hand awake (record { next = has.next; hand = has.hand; rests = has.rests }) (fits.lower (has.hand c in_hand).1))

-- ---- a reply
-- what the phase word says as it is loaded
abbrev pub KeeperSays : Version → Stage → KeeperState → Keeping → ℕ → Type 0
KeeperSays number stage s Starts reply = StartSays number stage s.start.step reply
KeeperSays number stage s LoadsPhase reply = phase_said reply ≡ Says (stage_phase stage) (stage_version number stage)
KeeperSays number stage s step reply = ⊤

replied_at : (number : Version) (stage : Stage) (shape : Shape) (p : Places) (s : KeeperState) (step : Keeping) (reply : ℕ) (granted : Bool) → s.step ≡ step → HasInHand number stage s → EarlyAt stage s step → StepAt number stage s step
    → FitsVersion number stage → KeeperSays number stage s step reply → KeeperAt (keeping_number number s step) (keeping_moves stage s step) (keeping_next shape p s step reply granted)
unfolding keeping_next
replied_at number stage shape p s (Ended told) reply granted at has early is fits says = at_step number stage s (Ended told) at has early tt
replied_at number stage shape p s Starts reply granted at has early is fits says =
    let after : Stage = start_moves stage s.start s.start.step in
    let here = starts_has number stage s s.start.step refl has is in
    let goes = start_goes number stage s.start s.start.step reply refl is says in
    started_at number after (record s { start = start_next s.start reply }) (start_ask (start_next s.start reply)) at (record { next = here.next; hand = here.hand; rests = here.rests }) (λ e. early_moves stage s.start s.start.step s.has_entered early e)
    goes (start_tells number after (start_next s.start reply) (start_next s.start reply).step goes)
replied_at number stage shape p s Maintains reply granted at has early is fits says =
    maintained_at number stage (record s { maintain = maintain_next shape p s.maintain reply }) (maintain_ask shape p (maintain_next shape p s.maintain reply)) at (record { next = has.next; hand = has.hand; rests = has.rests }) early
replied_at number stage shape p s LoadsPhase reply granted at has early is fits says =
    subst (λ (x : PhaseSaid). KeeperAt number stage (phase_ledto p s s.commit x granted)) (sym says) (phase_at number stage p s s.commit granted refl has early)
replied_at number stage shape p s Enters reply granted at has early is fits says =
    let after : Stage = enter_moves stage s.enter s.enter.step in
    let here = enters_has number stage s s.enter.step has is.1 in
    let goes = enter_goes number stage s.enter s.enter.step reply refl is.0 is.1 in
    entered_at number after (record s { enter = enter_next s.enter reply }) (enter_ask (enter_next s.enter reply)) at (record { next = here.next; hand = here.hand; rests = here.rests }) goes.same goes.at
    (enter_tells number after (enter_next s.enter reply) (enter_next s.enter reply).step goes.at)
replied_at number stage shape p s Copies reply granted at has early is fits says =
    copied_at number stage (record s { copy = copy_driven s.copy reply }) (copy_told (copy_driven s.copy reply)) at (record { next = has.next; hand = has.hand; rests = has.rests }) early
replied_at number stage shape p s Seeks reply granted at has early is fits says =
    let after : Stage = seek_moves stage s.seek.step in
    let here = seeks_has number stage s s.seek.step has in
    let goes = seek_goes number stage s.seek s.seek.step reply refl is.0 is.1 in
    sought_at number after (record s { seek = seek_next s.seek reply }) (seek_ask (seek_next s.seek reply)) at (record { next = here.next; hand = here.hand; rests = here.rests }) (λ e. seeks_early number stage s.seek s.seek.step s.has_entered is.1 early e) goes.same goes.at
replied_at number stage shape p s Waits reply granted at has early is fits says =
    waited_at number stage shape (record s { wait = wait_next s.wait reply }) (wait_ask (wait_next s.wait reply)) at (record { next = has.next; hand = has.hand; rests = has.rests }) early is
replied_at number stage shape p s Writes reply granted at has early is fits says = at_step number stage s Writes at has early is
replied_at number stage shape p s Finishes reply granted at has early is fits says = by_finish number stage s s.finish.step at has early fits is.0 is.1 is.2.0 is.2.1 is.3
replied_at number stage shape p s Sweeps reply granted at has early is fits says =
    sweep_moves (KeeperAt number stage) s reply (λ w. at_step number stage (record s { sweep = w }) Sweeps at (record { next = has.next; hand = has.hand; rests = has.rests }) early tt) (λ w. record { has = record { next = has.next; hand = has.hand; rests = has.rests }; early = early; step = tt })

pub keeper_replied_at : (number : Version) (stage : Stage) (shape : Shape) (p : Places) (s : KeeperState) (reply : ℕ) (granted : Bool) → KeeperAt number stage s → FitsVersion number stage → KeeperSays number stage s s.step reply
    → KeeperAt (keeping_number number s s.step) (keeping_moves stage s s.step) (keeper_next shape p s reply granted)
keeper_replied_at number stage shape p s reply granted its fits says = replied_at number stage shape p s s.step reply granted refl its.has its.early its.step fits says

-- ---- an action, and a call of the device
given_at : (number : Version) (stage : Stage) (shape : Shape) (p : Places) (s : KeeperState) (step : Keeping) (action : Action) → s.step ≡ step → KeeperAt number stage s → EarlyAt stage s step → KeeperAt number stage (keeping_given shape p s step action)
unfolding keeping_given
given_at number stage shape p s Maintains action at its early =
    let has = its.has in
    maintained_at number stage (record s { maintain = maintain_given s.maintain action }) (maintain_ask shape p (maintain_given s.maintain action)) at (record { next = has.next; hand = has.hand; rests = has.rests }) early
given_at number stage shape p s step action at its early = its

pub keeper_given_at : (number : Version) (stage : Stage) (shape : Shape) (p : Places) (s : KeeperState) (action : Action) → KeeperAt number stage s → KeeperAt number stage (keeping_given shape p s s.step action)
keeper_given_at number stage shape p s action its = given_at number stage shape p s s.step action refl its its.early

write_at : (number : Version) (stage : Stage) (s : KeeperState) (found : Option Commit) (answer : WriteAnswer) → s.commit ≡ found → s.step ≡ Writes → HasInHand number stage s → (s.has_entered ≡ false → is_early stage ≡ true) → (stage ≡ Flushes) × (s.rests ≡ false)
    → KeeperAt number stage (write_ledto s found answer)
unfolding write_ledto
write_at number stage s None answer in_hand at has early is = ended_at number stage s _ has early
write_at number stage s (Some c) write.Written in_hand at has early is =
    record { has = record { next = has.next; hand = has.hand; rests = has.rests }; early = early; step = ((has.hand c in_hand).0, finish_stays stage (durable_from s.finish.sessions 0) is.0 (durable_at s.finish.sessions 0), (c, in_hand), is.1) }
write_at number stage s (Some c) write.Device in_hand at has early is =
    either_at number stage (must_rest s) (turned (record s { rests = true })) s (λ yes. record { has = record { next = has.next; hand = has.hand; rests = λ e. is.0 }; early = early; step = tt }) (λ no. at_step number stage s Writes at has early is)
write_at number stage s (Some c) (write.Broken why) in_hand at has early is = at_step number stage s Writes at has early is

writes_at : (number : Version) (stage : Stage) (s : KeeperState) (done : Bool) → s.step ≡ Writes → HasInHand number stage s → (s.has_entered ≡ false → is_early stage ≡ true) → (stage ≡ Flushes) × (s.rests ≡ false) → KeeperAt number stage (writes_called s done)
writes_at number stage s true at has early is = write_at number stage (record s { writes = commit_next s.writes true }) s.commit (commit_answer (commit_next s.writes true)) refl at (record { next = has.next; hand = has.hand; rests = has.rests }) early is
writes_at number stage s false at has early is = record { has = record { next = has.next; hand = has.hand; rests = λ e. cc }; early = early; step = tt }

called_at : (number : Version) (stage : Stage) (shape : Shape) (p : Places) (s : KeeperState) (step : Keeping) (done : Bool) (bytes : List ℕ) → s.step ≡ step → KeeperAt number stage s → EarlyAt stage s step → StepAt number stage s step
    → KeeperAt number stage (keeping_called shape p s step done bytes)
unfolding keeping_called
called_at number stage shape p s Maintains done bytes at its early is =
    let has = its.has in
    maintained_at number stage (record s { maintain = maintain_called shape p s.maintain done bytes }) (maintain_ask shape p (maintain_called shape p s.maintain done bytes)) at (record { next = has.next; hand = has.hand; rests = has.rests }) early
called_at number stage shape p s Writes done bytes at its early is = writes_at number stage s done at its.has early is
called_at number stage shape p s Sweeps done bytes at its early is =
    let has = its.has in
    sweep_reads (KeeperAt number stage) s done bytes (λ w. at_step number stage (record s { sweep = w }) Sweeps at (record { next = has.next; hand = has.hand; rests = has.rests }) early tt) (λ w. record { has = record { next = has.next; hand = has.hand; rests = has.rests }; early = early; step = tt })
    (λ w. record { has = record { next = has.next; hand = has.hand; rests = λ e. cc }; early = early; step = tt })
called_at number stage shape p s step done bytes at its early is = its

pub keeper_called_at : (number : Version) (stage : Stage) (shape : Shape) (p : Places) (s : KeeperState) (done : Bool) (bytes : List ℕ) → KeeperAt number stage s → KeeperAt number stage (keeping_called shape p s s.step done bytes)
keeper_called_at number stage shape p s done bytes its = called_at number stage shape p s s.step done bytes refl its its.early its.step

-- ---- what is begun where no call is in hand
idle_early : (stage : Stage) (s : KeeperState) (step : Keeping) → is_in_hand step ≡ false → EarlyAt stage s step → s.has_entered ≡ false → is_early stage ≡ true
idle_early stage s (Ended told) idle early = early
idle_early stage s step idle early = cc

pub turn_asked_at : (number : Version) (stage : Stage) (s : KeeperState) → KeeperAt number stage s → is_in_hand s.step ≡ false → KeeperAt number stage (turn_asked s)
turn_asked_at number stage s its idle =
    let has = its.has in
    let early = idle_early stage s s.step idle its.early in
    either_at number stage s.is_broken (ended s (TurnRefused fault.Broken)) (record s { maintain = parts_begun (serves_alone s) s.maintain; is_drain_full = false; step = Maintains })
    (λ yes. ended_at number stage s _ has early) (λ no. record { has = record { next = has.next; hand = has.hand; rests = has.rests }; early = early; step = tt })

pub commit_asked_at : (number : Version) (stage : Stage) (s : KeeperState) (kind : CommitKind) → KeeperAt number stage s → is_in_hand s.step ≡ false → KeeperAt number stage (commit_asked s kind)
commit_asked_at number stage s kind its idle =
    let has = its.has in
    let early = idle_early stage s s.step idle its.early in
    either_at number stage s.is_broken (ended s (CommitRefused fault.Broken)) (if s.rests then ended s (CommitRefused fault.CommitRunning) else record s { start = start_begun s.start (asked_for s kind); step = Starts })
    (λ yes. ended_at number stage s _ has early)
    (λ no. either_at number stage s.rests (ended s (CommitRefused fault.CommitRunning)) (record s { start = start_begun s.start (asked_for s kind); step = Starts }) (λ rests. ended_at number stage s _ has early) (λ awake. record { has = record { next = has.next; hand = has.hand; rests = has.rests }; early = early; step = tt }))
