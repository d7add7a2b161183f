-- Where the keeper sweeps nothing, its sweep stays where it began. So each commit's log begins where that of the newest finished one does.
use Rattle.std.proofs.Common.{◌≡◌, ◌⊎◌, ◌∙◌, ℕ, Bool, true, false, List, [], ◌∷◌, ◌++◌, ap, append_assoc, arith, inl, inr, refl, subst, sym}
use Rattle.std.specs.Prelude.{◌==◌, ◌&&◌, Option, Some, None, if◌then◌else◌}
use Rattle.std.proofs.lemmas.Bool.Decides.{nat_tests}
use Rattle.fkv_base.specs.declared.shapes.Shape.{Shape}
use Rattle.fkv_commit.specs.declared.commits.Commit.{Commit}
use Rattle.fkv_keeper.specs.declared.answers.KeeperTold.{KeeperTold}
use Rattle.fkv_keeper.specs.declared.answers.KeeperTold.TheVariants.{Device}
use Rattle.fkv_keeper.specs.declared.keepers.Keeping.{Keeping}
use Rattle.fkv_keeper.specs.declared.keepers.Keeping.TheVariants.{LoadsPhase, Finishes, Sweeps}
use Rattle.fkv_keeper.specs.CheckpointLaws.{IsFinished}
use Rattle.fkv_keeper.specs.Keeping.{Finality, KeeperState, keeper_ask, keeper_next, keeping_ask, may_set, sweep_passed, sweep_set, turn_over}
use Rattle.fkv_keeper.specs.KeeperRun.{BeginsCommit, BeginsTurn, Calls, Gets, IsOpened, KeeperEvent, Replies, keeper_happens, keeper_run}
use Rattle.fkv_keeper.specs.SlotLaws.{HasBegin, HasMoved}
use Rattle.fkv_keeper.specs.SweepLaws.{IsSweepAfter}
use Rattle.fkv_keeper.proofs.Shown.{each_move, run_begins, run_loading, sweep_moves}
use Rattle.fkv_plane.specs.Asked.{reply_to}
use Rattle.fkv_plane.specs.Passing.{passed}
use Rattle.fkv_plane.specs.Plane.{action_at}
use Rattle.fkv_plane.specs.declared.actions.Action.{Action}
use Rattle.fkv_plane.specs.declared.asks.Ask.{Ask}
use Rattle.fkv_plane.specs.declared.asks.Ask.TheVariants.{Load, Put, Take, Done}
use Rattle.fkv_plane.specs.declared.places.Places.{Places}
use Rattle.fkv_sweep.specs.declared.sweeping.SweepAnswer.{SweepAnswer}
use Rattle.fkv_sweep.specs.declared.sweeping.SweepAnswer.TheVariants as swept
use Rattle.fkv_sweep.specs.Swept.{IsLoadOrEnd}
use Rattle.fkv_sweep.specs.Sweeping.{Sweeper, sweep_ask, sweep_begun, turn_begun}
use Rattle.fkv_sweep.proofs.Shown.{sweep_loads}
use Rattle.fkv_world.specs.Moves.{Near}
use Rattle.fkv_world.specs.Opened.{IsOpenedWorld}
use Rattle.fkv_world.specs.OwnEvents.{keeper_events, keeper_got, keeper_part, keeper_part_of, keeper_slots, keeper_steps}
use Rattle.fkv_world.specs.Runs.{World, read_by_keeper, run}
use Rattle.fkv_world.specs.World as world
use Rattle.fkv_world.specs.World.{Event, near}
use Rattle.fkv_world.proofs.Shown.{keeper_runs, places_stay, shape_stays}
use Rattle.fkv_core.specs.Unswept.{BeginStays, NeverSweeps, UnsweptLivesKeepBegin}

-- ---- one event of the keeper's own
-- its sweep is where it began
abbrev AtFirst : Sweeper → Type 0
AtFirst w = w.at.0 ≡ w.from.0

same_first : (w after : Sweeper) → after ≡ w → AtFirst w → AtFirst after
same_first w after same first = subst AtFirst (sym same) first

set_first : (may : Bool) (w other : Sweeper) → AtFirst w → AtFirst other → AtFirst (if may then w else other)
set_first true w other first its = first
set_first false w other first its = its

event_first : (event : KeeperEvent) (step : Keeping) (s a : KeeperState) → (step ≡ Sweeps → ⊥) → AtFirst s.sweep → IsSweepAfter event step s a → AtFirst a.sweep
event_first (Replies reply granted) Sweeps s a idle first is = absurd (idle refl)
event_first (Calls true bytes) Sweeps s a idle first is = absurd (idle refl)
event_first (Calls false bytes) Sweeps s a idle first is = absurd (idle refl)
event_first (Replies reply granted) LoadsPhase s a idle first (inl left) = same_first s.sweep a.sweep left.same first
event_first (Replies reply granted) LoadsPhase s a idle first (inr begun) = same_first (turn_begun s.sweep) a.sweep begun.same first
event_first (Replies reply granted) Finishes s a idle first (inl left) = same_first s.sweep a.sweep left.same first
event_first (Replies reply granted) Finishes s a idle first (inr set) =
    let c : Commit = set.commit in
    same_first (sweep_set s c) a.sweep set.same (set_first (may_set s c) (sweep_begun s.sweep.shape s.sweep.places c.begin c.first) s.sweep refl first)
event_first event step s a idle first left = same_first s.sweep a.sweep left.same first

-- and then a sweep that is done has moved nothing
done_same : (at to : ℕ) → (at == to) ≡ true → at ≡ to
done_same at to e = grind (arith, nat_tests, e)

hand_same : (s : KeeperState) (c : Commit) → AtFirst s.sweep → (c.begin ≡ s.last.begin) ⊎ HasMoved s c → c.begin.0 ≡ s.last.begin.0
hand_same s c first (inl same) = rw same refl
hand_same s c first (inr moved) =
    let to : c.begin.0 ≡ s.sweep.to.0 = rw moved.to refl in
    let from : s.sweep.from.0 ≡ s.last.begin.0 = rw moved.from refl in
    let done : s.sweep.at.0 ≡ s.sweep.to.0 = done_same s.sweep.at.0 s.sweep.to.0 moved.swept in
    omega (arith, first, to, from, done)

last_same : (begin : ℕ) (s a : KeeperState) → AtFirst s.sweep → HasBegin s → s.last.begin.0 ≡ begin → ((a.last ≡ s.last) × (a.lost ≡ s.lost)) ⊎ ((c : Commit) × (s.commit ≡ Some c) × IsFinished s a c) → a.last.begin.0 ≡ begin
last_same begin s a first has last (inl same) = ap (λ (f : Finality). f.begin.0) same.0 ∙ last
last_same begin s a first has last (inr ends) = ap (λ (f : Finality). f.begin.0) ends.2.last ∙ (hand_same s ends.0 first (has.commit ends.0 ends.1) ∙ last)

-- a sweep asks for no action
never_puts : (ask : Ask SweepAnswer) (told : KeeperTold) (slot : ℕ) (action : Action) → IsLoadOrEnd ask → sweep_passed ask told ≡ Put slot action → ⊥
unfolding sweep_passed passed
never_puts (Load place) told slot action loads e = cc
never_puts (Done swept.Device) told slot action loads e = cc
never_puts (Done swept.Through) told slot action loads e = cc
never_puts ask told slot action loads e = absurd loads

never_takes : (ask : Ask SweepAnswer) (told : KeeperTold) (slot : ℕ) → IsLoadOrEnd ask → sweep_passed ask told ≡ Take slot → ⊥
unfolding sweep_passed passed
never_takes (Load place) told slot loads e = cc
never_takes (Done swept.Device) told slot loads e = cc
never_takes (Done swept.Through) told slot loads e = cc
never_takes ask told slot loads e = absurd loads

sweep_asks : (shape : Shape) (p : Places) (s : KeeperState) → s.step ≡ Sweeps → keeper_ask shape p s ≡ sweep_passed (sweep_ask s.sweep) (turn_over s)
unfolding keeping_ask
sweep_asks shape p s e = ap (λ (step : Keeping). keeping_ask shape p s step) e

-- ---- over a run of the keeper
module _ (shape : Shape) (p : Places) (opening : KeeperState) (opened : IsOpened opening) where
  abbrev state : List KeeperEvent → KeeperState
  state own = keeper_run shape p opening own

  record Stays (s : KeeperState) : Type 0 where
    first : AtFirst s.sweep
    last : s.last.begin.0 ≡ opening.last.begin.0

  run_by : (event : KeeperEvent) (own : List KeeperEvent) → state (event ∷ own) ≡ keeper_happens shape p (state own) event
  unfolding keeper_run
  run_by event own = refl

  none_by : state [] ≡ opening
  unfolding keeper_run
  none_by = refl

  opened_stays : Stays (state [])
  opened_stays = subst Stays (sym none_by) (record { first = subst AtFirst (sym opened.none_swept.2) refl; last = refl })

  event_stays : (event : KeeperEvent) (own : List KeeperEvent) → ((state own).step ≡ Sweeps → ⊥) → Stays (state own) → Stays (state (event ∷ own))
  event_stays event own idle was =
      let s : KeeperState = state own in
      subst Stays (sym (run_by event own))
      (record {
        first = event_first event s.step s (keeper_happens shape p s event) idle was.first (sweep_moves shape p s event);
        last = last_same opening.last.begin.0 s (keeper_happens shape p s event) was.first (run_begins shape p opening own opened) was.last (each_move shape p s event).lists.lists;
      })

  puts_idle : (own : List KeeperEvent) (slot : ℕ) (action : Action) → keeper_ask shape p (state own) ≡ Put slot action → (state own).step ≡ Sweeps → ⊥
  puts_idle own slot action asks sweeps =
      let s : KeeperState = state own in
      never_puts (sweep_ask s.sweep) (turn_over s) slot action (sweep_loads s.sweep (run_loading shape p opening own opened)) (sym (sweep_asks shape p s sweeps) ∙ asks)

  takes_idle : (own : List KeeperEvent) (slot : ℕ) → keeper_ask shape p (state own) ≡ Take slot → (state own).step ≡ Sweeps → ⊥
  takes_idle own slot asks sweeps =
      let s : KeeperState = state own in
      never_takes (sweep_ask s.sweep) (turn_over s) slot (sweep_loads s.sweep (run_loading shape p opening own opened)) (sym (sweep_asks shape p s sweeps) ∙ asks)

  got_stays : (found : Option Action) (own : List KeeperEvent) → ((state own).step ≡ Sweeps → ⊥) → Stays (state own) → Stays (state (keeper_got found ++ own))
  got_stays None own idle was = was
  got_stays (Some action) own idle was = event_stays (Gets action) own idle was

  slots_stay : (actions : List (Option Action)) (granted : Bool) (own : List KeeperEvent) (ask : Ask KeeperTold) → keeper_ask shape p (state own) ≡ ask → Stays (state own) → Stays (state (keeper_slots actions granted ask ++ own))
  unfolding keeper_slots
  slots_stay actions granted own (Put slot action) asks was = event_stays (Replies 0 granted) own (puts_idle own slot action asks) was
  slots_stay actions granted own (Take slot) asks was = got_stays (action_at actions slot) own (takes_idle own slot asks) was
  slots_stay actions granted own ask asks was = was

  -- a reply, and what the slot behind it leads to
  reply_stays : (actions : List (Option Action)) (granted : Bool) (own : List KeeperEvent) (reply : ℕ) → ((state own).step ≡ Sweeps → ⊥) → Stays (state own)
      → Stays (state ((keeper_slots actions granted (keeper_ask shape p (keeper_next shape p (state own) reply granted)) ++ Replies reply granted ∷ []) ++ own))
  unfolding keeper_run keeper_happens
  reply_stays actions granted own reply idle was =
      let later : List KeeperEvent = keeper_slots actions granted (keeper_ask shape p (state (Replies reply granted ∷ own))) in
      subst (λ (its : List KeeperEvent). Stays (state its)) (sym (append_assoc later (Replies reply granted ∷ []) own))
      (slots_stay actions granted (Replies reply granted ∷ own) (keeper_ask shape p (state (Replies reply granted ∷ own))) refl (event_stays (Replies reply granted) own idle was))

  steps_stay : (granted done : Bool) (read words : List ℕ) (actions : List (Option Action)) (own : List KeeperEvent) (ask : Ask KeeperTold) → keeper_ask shape p (state own) ≡ ask → ((state own).step ≡ Sweeps → ⊥) → Stays (state own)
      → Stays (state (keeper_steps shape p granted done read (record { machine = state own; words = words; actions = actions }) ask ++ own))
  unfolding keeper_steps
  steps_stay granted done read words actions own (Done Device) asks idle was = event_stays (Calls done read) own idle was
  steps_stay granted done read words actions own (Done its) asks idle was = was
  steps_stay granted done read words actions own (Put slot action) asks idle was = slots_stay actions granted own (Put slot action) asks was
  steps_stay granted done read words actions own (Take slot) asks idle was = slots_stay actions granted own (Take slot) asks was
  steps_stay granted done read words actions own ask asks idle was = reply_stays actions granted own (reply_to words ask) idle was

  part_stays : (read words : List ℕ) (actions : List (Option Action)) (own : List KeeperEvent) (event : Event) → ((state own).step ≡ Sweeps → ⊥) → Stays (state own)
      → Stays (state (keeper_part shape p read (record { machine = state own; words = words; actions = actions }) event ++ own))
  unfolding keeper_part
  part_stays read words actions own (world.Commits kind) idle was = event_stays (BeginsCommit kind) own idle was
  part_stays read words actions own world.Turns idle was = event_stays BeginsTurn own idle was
  part_stays read words actions own (world.KeeperMoves granted done) idle was = steps_stay granted done read words actions own (keeper_ask shape p (state own)) refl idle was
  part_stays read words actions own event idle was = was

  either_stays : (crashed : Bool) (part own : List KeeperEvent) → Stays (state own) → Stays (state (part ++ own)) → Stays (state ((if crashed then [] else part) ++ own))
  either_stays true part own was next = was
  either_stays false part own was next = next

-- ---- in a life
-- the opened keeper sweeps nothing
opened_idle : (s : KeeperState) (step : Keeping) → s.step ≡ step → IsOpened s → s.step ≡ Sweeps → ⊥
opened_idle s Sweeps e opened sweeps = let never : true ≡ false = sym (rw e refl) ∙ opened.none_in_hand in cc
opened_idle s step e opened sweeps = let never : step ≡ Sweeps = sym e ∙ sweeps in cc

pub unswept_idle : (opening : World) (events : List Event) → IsOpenedWorld opening → NeverSweeps opening events → (run opening events).now.keeper.step ≡ Sweeps → ⊥
unfolding run
unswept_idle opening [] opened never sweeps = opened_idle opening.now.keeper opening.now.keeper.step refl opened.keeper sweeps
unswept_idle opening (event ∷ before) opened never sweeps = never.0 sweeps

life_stays : (opening : World) (events : List Event) (opened : IsOpenedWorld opening) → NeverSweeps opening events
    → Stays opening.now.shape opening.now.places opening.now.keeper opened.keeper (keeper_run opening.now.shape opening.now.places opening.now.keeper (keeper_events opening events))
unfolding keeper_events
life_stays opening [] opened never = opened_stays opening.now.shape opening.now.places opening.now.keeper opened.keeper
life_stays opening (event ∷ before) opened never =
    let shape : Shape = opening.now.shape in
    let p : Places = opening.now.places in
    let own : List KeeperEvent = keeper_events opening before in
    let s : KeeperState = keeper_run shape p opening.now.keeper own in
    let w : World = run opening before in
    let read : List ℕ = read_by_keeper w in
    let was = life_stays opening before opened never.1 in
    let runs : w.now.keeper ≡ s = keeper_runs opening before in
    let idle : s.step ≡ Sweeps → ⊥ = subst (λ (x : KeeperState). x.step ≡ Sweeps → ⊥) runs (unswept_idle opening before opened never.1) in
    let part = part_stays shape p opening.now.keeper opened.keeper read w.now.words w.now.actions own event idle was in
    let here = subst (λ (x : KeeperState). Stays shape p opening.now.keeper opened.keeper (keeper_run shape p opening.now.keeper (keeper_part shape p read (record { machine = x; words = w.now.words; actions = w.now.actions }) event ++ own))) (sym runs) part in
    let placed = subst (λ (x : Places). Stays shape p opening.now.keeper opened.keeper (keeper_run shape p opening.now.keeper (keeper_part shape x read (near w.now w.now.keeper) event ++ own))) (sym (places_stay opening before)) here in
    let shaped = subst (λ (x : Shape). Stays shape p opening.now.keeper opened.keeper (keeper_run shape p opening.now.keeper (keeper_part x w.now.places read (near w.now w.now.keeper) event ++ own))) (sym (shape_stays opening before)) placed in
    either_stays shape p opening.now.keeper opened.keeper w.now.crashed (keeper_part w.now.shape w.now.places read (near w.now w.now.keeper) event) own was shaped

pub unswept_keeps : UnsweptLivesKeepBegin
unswept_keeps opening events opened never = ap (λ (s : KeeperState). s.last.begin.0) (keeper_runs opening events) ∙ (life_stays opening events opened never).last
