-- While a commit is under way the log does without what its begin leaves out, in the versions up to the commit's. For no record is of a later one as its first
-- address is loaded.
use Rattle.std.proofs.Common.{◌≡◌, ◌∙◌, inl, inr, ℕ, ◌+◌, ◌≤◌, List, [], ◌∷◌, ◌++◌, ap, sym, subst, arith, true, false}
use Rattle.std.specs.Prelude.{Some, None}
use Rattle.fkv_base.specs.declared.numbers.Addr.{Addr}
use Rattle.fkv_base.specs.declared.numbers.Version.{Version}
use Rattle.fkv_base.specs.declared.shapes.Shape.{Shape}
use Rattle.fkv_base.specs.declared.faults.Fault.TheVariants as fault
use Rattle.fkv_plane.specs.declared.places.Places.{Places}
use Rattle.fkv_plane.specs.Passing.{passed}
use Rattle.fkv_sweep.specs.Sweeping.{Sweeper}
use Rattle.law_commit.specs.Below.fkv_commit.Commit.{Commit}
use Rattle.law_commit.specs.Below.fkv_commit.Starting.{starting_ask}
use Rattle.law_commit.specs.Below.fkv_commit.TheStarting.{Starting}
use Rattle.law_commit.specs.Below.fkv_commit.TheStarting.TheVariants as starting
use Rattle.law_commit.specs.Below.fkv_keeper.Keeping.{Finality, KeeperState, is_swept, keeper_ask, keeping_ask}
use Rattle.law_commit.specs.Below.fkv_keeper.KeeperRun.{KeeperEvent, is_in_hand, keeper_happens, keeper_run}
use Rattle.law_commit.specs.Below.fkv_keeper.SlotLaws.{HasBegin}
use Rattle.law_commit.specs.Below.fkv_keeper.KeeperTold.TheVariants.{CommitRefused}
use Rattle.law_commit.specs.Below.fkv_keeper.TheKeeping.{Keeping}
use Rattle.law_commit.specs.Below.fkv_keeper.TheKeeping.TheVariants.{Starts}
use Rattle.law_commit.specs.Below.fkv_world.OwnEvents.{keeper_events, keeper_part_of}
use Rattle.law_commit.specs.Below.fkv_world.Runs.{run}
use Rattle.law_commit.specs.Below.fkv_world.World.{Event, Now}
use Rattle.law_commit.specs.Below.law_refine.Events.GhostEvents.{life_ghosts, mapped}
use Rattle.law_commit.specs.Phases.Staged.{Stage, Prepares, StartAt, StepAt, stage_version}
use Rattle.law_commit.specs.Versions.Cells.{CellsUpto}
use Rattle.law_commit.specs.Versions.Laws.{HasCellsUpto, version_now}
use Rattle.law_commit.proofs.Below.fkv_keeper.Shown.{run_begins}
use Rattle.law_commit.proofs.Below.fkv_world.Shown.{happens_keeper, keeper_runs, keeper_runs_on, places_stay, shape_stays}
use Rattle.law_commit.proofs.Below.law_world.OfKeeper.OwnRun.{keeper_begins}
use Rattle.law_commit.proofs.OfPhases.LifeStages.{Lived, life_staged, version_now as stage_now}
use Rattle.law_log.specs.Begins.{EachVersionStaysLive, Live, LiveAtRest, LiveUpto}
use Rattle.law_log.specs.Enabled.{AreEnabled}
use Rattle.law_log.specs.Ghosts.{Log}
use Rattle.law_order.specs.Apart.Lives.{OpensApart}
use Rattle.law_order.specs.Known.Begins.{BegunLife, begin_in, home_of_world}
use Rattle.law_order.proofs.OfOneHistory.StaysLive.{life_stays, life_upto}
use Rattle.law_order.proofs.OfSwept.Sound.{SweepsSo, sweep_live}
use Rattle.law_order.proofs.OfSwept.Starts.{CameUnderWay, IsUnderWay, LoadsFirst, came_under_way}
use Rattle.law_order.proofs.OfSwept.Told.{IsSlotAsk, event_parts}

-- The log does without what lies below the begin of the newest finished commit. So it does below the end of a sweep that is done and began there.
pub record GoesUpto (version : ℕ) (home : ℕ → ℕ) (log : Log) (s : KeeperState) : Type 0 where
  pub last : LiveUpto version s.last.begin.0 home log
  pub swept : is_swept s.sweep ≡ true → s.sweep.from ≡ s.last.begin → LiveUpto version s.sweep.to.0 home log

same_upto : (version : ℕ) (home : ℕ → ℕ) (log : Log) (s a : KeeperState) → a.last ≡ s.last → a.sweep ≡ s.sweep → GoesUpto version home log s → GoesUpto version home log a
same_upto version home log s a last sweep its = record {
  last = subst (λ (l : Finality). LiveUpto version l.begin.0 home log) (sym last) its.last;
  swept = λ done from. subst (λ (w : Sweeper). LiveUpto version w.to.0 home log) (sym sweep)
      (its.swept (ap (λ (w : Sweeper). is_swept w) (sym sweep) ∙ done) (ap (λ (w : Sweeper). w.from) (sym sweep) ∙ from ∙ ap (λ (l : Finality). l.begin) last));
}

-- a start that is about to load its first address turns to no drain slot
loads_slot : {X : Type 0} (s : KeeperState) (step : Starting) → LoadsFirst step → IsSlotAsk (passed (starting_ask s.start step) (CommitRefused fault.CommitRunning)) → X
unfolding starting_ask passed
loads_slot s (starting.LoadsTail number) loads slot = absurd slot
loads_slot s step loads slot = absurd loads

loads_no_slot : {X : Type 0} (shape : Shape) (p : Places) (s : KeeperState) → s.step ≡ Starts → LoadsFirst s.start.step → IsSlotAsk (keeper_ask shape p s) → X
unfolding keeping_ask
loads_no_slot shape p s at loads slot = loads_slot s s.start.step loads (subst (λ (k : Keeping). IsSlotAsk (keeping_ask shape p s k)) at slot)

module _ (life : BegunLife) where
  abbrev H : ℕ → ℕ
  H = home_of_world life.opening

  abbrev log_behind : List Event → Log
  log_behind events = (life_ghosts life.opening life.ghosts events).log

  abbrev keeper_behind : List Event → KeeperState
  keeper_behind events = (run life.opening events).now.keeper

  abbrev next_number : KeeperState → ℕ
  next_number s = s.last.number.0 + 1

  -- so it is while a commit is under way
  abbrev pub UptoSo : List Event → Type 0
  UptoSo events = IsUnderWay (keeper_behind events) → GoesUpto (next_number (keeper_behind events)) H (log_behind events) (keeper_behind events)

  lived : (events : List Event) → Lived life.opening events
  lived events = life_staged life.opening life.start events life.begins.store.now life.begins.world life.begins.rests.rests

  -- ---- at first none is
  not_first : IsUnderWay life.opening.now.keeper → ⊥
  not_first (inl (c, is)) = let clash : None ≡ Some c = sym life.begins.world.keeper.no_commit ∙ is in cc
  not_first (inr (at, past)) = let clash : true ≡ false = ap is_in_hand (sym at) ∙ life.begins.world.keeper.none_in_hand in cc

  pub upto_first : UptoSo []
  unfolding run
  upto_first under = absurd (not_first under)

  -- ---- where the first address is loaded, the phase word says prepare of the number that is next
  prepares : (number : Version) (stage : Stage) (s : KeeperState) → s.step ≡ Starts → LoadsFirst s.start.step → StepAt number stage s s.step → stage ≡ Prepares
  prepares number stage s at loads step = by s.start.step loads (subst (λ (k : Keeping). StepAt number stage s k) at step)
    where
      by : (start : Starting) → LoadsFirst start → StartAt number stage s.start start → stage ≡ Prepares
      by (starting.LoadsTail its) loads starts = starts.1
      by start loads starts = absurd loads

  version_low : (before : List Event) → (keeper_behind before).step ≡ Starts → LoadsFirst (let m = (keeper_behind before).start in m.step) → version_now life.opening before ≤ next_number (keeper_behind before)
  version_low before at loads =
      let its = lived before in
      let staged = its.staged in
      let stage : its.stage ≡ Prepares = prepares its.number its.stage (keeper_behind before) at loads staged.keeper.step in
      let now : version_now life.opening before ≡ (stage_version its.number its.stage).0 = stage_now (run life.opening before).now its.number its.stage staged in
      let version : (stage_version its.number its.stage).0 ≡ its.number.0 = ap (λ (k : Stage). (stage_version its.number k).0) stage in
      let next = staged.keeper.has.next in
      omega (arith, now, version, next)

  module _ (rest : LiveAtRest) (versions : EachVersionStaysLive) (cells : HasCellsUpto) (opens : OpensApart life) (before : List Event) (event : Event) (enabled : AreEnabled H life.ghosts (mapped life.opening before)) (sweeps : SweepsSo life before)
      (live : Live (begin_in (run life.opening before)) H (log_behind before)) (its : UptoSo before) where
    abbrev N : Now
    N = (run life.opening before).now

    abbrev first : KeeperState
    first = N.keeper

    cells_low : CellsUpto (version_now life.opening before) (log_behind before)
    cells_low = cells life.opening life.start life.ghosts before (record { guarded = life.begins.store.now; opened = life.begins.world; rests = life.begins.rests.rests; unborn = life.begins.unborn; upto = opens.upto })

    fresh : first.step ≡ Starts → LoadsFirst (let m = first.start in m.step) → GoesUpto (next_number first) H (log_behind before) first
    fresh at loads =
        let low = version_low before at loads in
        record {
          last = life_upto life (version_now life.opening before) (next_number first) first.last.begin.0 [] before rest enabled cells_low low live;
          swept = λ done from. life_upto life (version_now life.opening before) (next_number first) first.sweep.to.0 [] before rest enabled cells_low low (sweep_live life before enabled sweeps live done from);
        }

    -- ---- behind an event of the keeper
    abbrev There : KeeperState → Type 0
    There a = IsUnderWay a → GoesUpto (next_number a) H (log_behind before) a

    on_same : (s a : KeeperState) → a.last ≡ s.last → a.sweep ≡ s.sweep → GoesUpto (next_number s) H (log_behind before) s → GoesUpto (next_number a) H (log_behind before) a
    on_same s a last sweep goes = same_upto (next_number a) H (log_behind before) s a last sweep (subst (λ (l : Finality). GoesUpto (l.number.0 + 1) H (log_behind before) s) (sym last) goes)

    later_begins : (later : List KeeperEvent) → HasBegin (keeper_run N.shape N.places first later)
    later_begins later =
        subst (λ (x : Shape). HasBegin (keeper_run x N.places first later)) (sym (shape_stays life.opening before))
        (subst (λ (q : Places). HasBegin (keeper_run life.opening.now.shape q first later)) (sym (places_stay life.opening before))
        (subst (λ (s : KeeperState). HasBegin (keeper_run life.opening.now.shape life.opening.now.places s later)) (sym (keeper_runs life.opening before))
        (subst HasBegin (keeper_runs_on life.opening.now.shape life.opening.now.places life.opening.now.keeper later (keeper_events life.opening before))
        (run_begins life.opening.now.shape life.opening.now.places life.opening.now.keeper (later ++ keeper_events life.opening before) life.begins.world.keeper))))

    one_step : (own : KeeperEvent) → HasBegin (keeper_happens N.shape N.places first own) → There (keeper_happens N.shape N.places first own)
    one_step own has under =
        let came : CameUnderWay N.shape N.places first own = came_under_way N.shape N.places first own (keeper_begins life.opening before life.begins.world) has under in
        let stays = came.stays in
        on_same first (keeper_happens N.shape N.places first own) stays.last stays.sweep (elim came.before [ inl was ↦ its was | inr loads ↦ fresh loads.0 loads.1 ])

    two_steps : (s : KeeperState) (own : KeeperEvent) → HasBegin s → HasBegin (keeper_happens N.shape N.places s own) → IsSlotAsk (keeper_ask N.shape N.places s) → There s → There (keeper_happens N.shape N.places s own)
    two_steps s own has had slot so under =
        let came : CameUnderWay N.shape N.places s own = came_under_way N.shape N.places s own has had under in
        let stays = came.stays in
        on_same s (keeper_happens N.shape N.places s own) stays.last stays.sweep (elim came.before [ inl was ↦ so was | inr loads ↦ loads_no_slot N.shape N.places s loads.0 loads.1 slot ])

    behind_part : There (keeper_run N.shape N.places first (keeper_part_of (run life.opening before) event))
    unfolding keeper_run
    behind_part =
        event_parts (run life.opening before) event (λ own. There (keeper_run N.shape N.places first own)) its (λ own told. one_step own (later_begins (own ∷ [])))
        (λ own other told slot. two_steps (keeper_happens N.shape N.places first own) other (later_begins (own ∷ [])) (later_begins (other ∷ own ∷ [])) slot (one_step own (later_begins (own ∷ []))))

    there : There (keeper_behind (event ∷ before))
    unfolding run
    there = subst There (sym (happens_keeper (run life.opening before) event)) behind_part

    -- as the log grows. What lies below is fixed
    pub upto_then : AreEnabled H life.ghosts (mapped life.opening (event ∷ before)) → (begin_in (run life.opening (event ∷ before)) ≤ (log_behind before).fixed) → ((keeper_behind (event ∷ before)).sweep.to.0 ≤ (log_behind before).fixed) → UptoSo (event ∷ before)
    upto_then later last_fixed to_fixed under =
        let s : KeeperState = keeper_behind (event ∷ before) in
        let goes = there under in
        record {
          last = life_stays life (LiveUpto (next_number s)) s.last.begin.0 (event ∷ []) before (versions (next_number s)) later last_fixed goes.last;
          swept = λ done from. life_stays life (LiveUpto (next_number s)) s.sweep.to.0 (event ∷ []) before (versions (next_number s)) later to_fixed (goes.swept done from);
        }

  -- ---- so for the begin of the commit in hand, in the versions up to its own
  pub hand_upto : (events : List Event) (c : Commit) → UptoSo events → (keeper_behind events).commit ≡ Some c → LiveUpto c.number.0 c.begin.0 H (log_behind events)
  hand_upto events c so is =
      let s : KeeperState = keeper_behind events in
      let goes : GoesUpto (next_number s) H (log_behind events) s = so (inl (c, is)) in
      let its = lived events in
      let has = its.staged.keeper.has in
      let number : c.number.0 ≡ its.number.0 = ap (λ (v : Version). v.0) ((has.hand c is).0) in
      let same : c.number.0 ≡ next_number s = number ∙ has.next in
      let begins = (keeper_begins life.opening events life.begins.world).commit c is in
      subst (λ (v : ℕ). LiveUpto v c.begin.0 H (log_behind events)) (sym same) (elim begins [
        | inl stays ↦ subst (λ (a : Addr). LiveUpto (next_number s) a.0 H (log_behind events)) (sym stays) goes.last
        | inr moved ↦ subst (λ (a : Addr). LiveUpto (next_number s) a.0 H (log_behind events)) (sym moved.to) (goes.swept moved.swept moved.from)
      ])
