-- The writes of a commit begin by the first event of the keeper in an event of its life.
use Rattle.std.proofs.Common.{◌≡◌, ℕ, ◌∙◌, refl, sym, ap, subst, Bool, true, false, List, [], ◌∷◌, ◌++◌}
use Rattle.std.specs.Prelude.{if◌then◌else◌, Option, Some, None}
use Rattle.fkv_base.specs.declared.shapes.Shape.{Shape}
use Rattle.law_commit.specs.Below.fkv_commit.Commit.{Commit}
use Rattle.law_commit.specs.Below.fkv_commit.TheWaiting.{Waiting}
use Rattle.law_commit.specs.Below.fkv_commit.TheWaiting.TheVariants as waits
use Rattle.law_commit.specs.Below.fkv_commit.Waiting.{waiting_ask}
use Rattle.law_commit.specs.Below.fkv_keeper.KeeperTold.{KeeperTold}
use Rattle.law_commit.specs.Below.fkv_keeper.KeeperTold.TheVariants.{Device}
use Rattle.law_commit.specs.Below.fkv_keeper.TheKeeping.{Keeping}
use Rattle.law_commit.specs.Below.fkv_keeper.TheKeeping.TheVariants.{Waits, Writes}
use Rattle.law_commit.specs.Below.fkv_keeper.Keeping.{KeeperState, keeper_ask, keeper_next, keeping_ask, keeping_given, turn_over}
use Rattle.law_commit.specs.Below.fkv_keeper.KeeperRun.{BeginsCommit, BeginsTurn, Calls, Gets, KeeperEvent, Replies, keeper_happens, keeper_run}
use Rattle.fkv_plane.specs.declared.actions.Action.{Action}
use Rattle.fkv_plane.specs.declared.asks.Ask.{Ask}
use Rattle.fkv_plane.specs.declared.asks.Ask.TheVariants.{Load, Store, Swap, Cas, Add, Max, Put, Take, Done}
use Rattle.fkv_plane.specs.declared.places.Places.{Places}
use Rattle.fkv_plane.specs.Asked.{reply_to}
use Rattle.fkv_plane.specs.Passing.{passed}
use Rattle.fkv_plane.specs.Plane.{action_at}
use Rattle.law_commit.specs.Below.fkv_world.Moves.{Near}
use Rattle.law_commit.specs.Below.fkv_world.OwnEvents.{keeper_got, keeper_part, keeper_part_of, keeper_slots, keeper_steps}
use Rattle.law_commit.specs.Below.fkv_world.Runs.{World, read_by_keeper}
use Rattle.law_commit.specs.Below.fkv_world.World as world
use Rattle.law_commit.specs.Below.fkv_world.World.{Event, near}
use Rattle.law_commit.proofs.Below.fkv_world.Shown.{keeper_runs_on}
use Rattle.law_commit.specs.BegunCommits.{BegunCommit, commit_opening}
use Rattle.law_order.proofs.OfImages.NamedNow.{AllGood}

module _ (Good : BegunCommit → Type 0) where
  -- what is known of a commit whose writes begin between two states
  abbrev pub GoodFrom : KeeperState → KeeperState → Type 0
  GoodFrom s a = (c : Commit) → s.step ≡ Waits → a.step ≡ Writes → a.commit ≡ Some c → Good (commit_opening a c)

  -- so of each first event, so of all
  abbrev pub IfFirst : Shape → Places → KeeperState → List KeeperEvent → Type 0
  IfFirst shape p s events = ((event : KeeperEvent) → GoodFrom s (keeper_happens shape p s event)) → AllGood shape p s Good events

  wait_loads : (step : Waiting) (told : KeeperTold) (slot : ℕ) (action : Action) → passed (waiting_ask step) told ≡ Put slot action → ⊥
  unfolding waiting_ask passed
  wait_loads (waits.Ended its) told slot action e = cc
  wait_loads waits.LoadsSafe told slot action e = cc
  wait_loads waits.LoadsFlushed told slot action e = cc

  no_put : (shape : Shape) (p : Places) (s : KeeperState) (slot : ℕ) (action : Action) → s.step ≡ Waits → keeper_ask shape p s ≡ Put slot action → ⊥
  unfolding keeping_ask
  no_put shape p s slot action at e = wait_loads s.wait.step (turn_over s) slot action (sym (ap (λ (k : Keeping). keeping_ask shape p s k) at) ∙ e)

  given_waits : (shape : Shape) (p : Places) (s : KeeperState) (action : Action) → s.step ≡ Waits → (keeper_happens shape p s (Gets action)).step ≡ Writes → ⊥
  unfolding keeper_happens keeping_given
  given_waits shape p s action at writes =
      let there : (keeping_given shape p s Waits action).step ≡ Writes = subst (λ (k : Keeping). (keeping_given shape p s k action).step ≡ Writes) at writes in
      let clash : Waits ≡ Writes = sym at ∙ there in
      cc

  got_good : (shape : Shape) (p : Places) (s : KeeperState) (found : Option Action) (before : List KeeperEvent) → AllGood shape p s Good before → AllGood shape p s Good (keeper_got found ++ before)
  unfolding keeper_run
  got_good shape p s None before good = good
  got_good shape p s (Some action) before good = (λ c waits writes found. absurd (given_waits shape p (keeper_run shape p s before) action waits writes), good)

  slots_good : (shape : Shape) (p : Places) (s : KeeperState) (actions : List (Option Action)) (granted : Bool) (before : List KeeperEvent) (ask : Ask KeeperTold) → keeper_ask shape p (keeper_run shape p s before) ≡ ask
      → AllGood shape p s Good before → AllGood shape p s Good (keeper_slots actions granted ask ++ before)
  unfolding keeper_slots
  slots_good shape p s actions granted before (Put slot action) e good = (λ c waits writes found. absurd (no_put shape p (keeper_run shape p s before) slot action waits e), good)
  slots_good shape p s actions granted before (Take slot) e good = got_good shape p s (action_at actions slot) before good
  slots_good shape p s actions granted before (Load place) e good = good
  slots_good shape p s actions granted before (Store place new) e good = good
  slots_good shape p s actions granted before (Swap place new) e good = good
  slots_good shape p s actions granted before (Cas place old new) e good = good
  slots_good shape p s actions granted before (Add place n) e good = good
  slots_good shape p s actions granted before (Max place n) e good = good
  slots_good shape p s actions granted before (Done its) e good = good

  one_good : (shape : Shape) (p : Places) (s : KeeperState) (event : KeeperEvent) → IfFirst shape p s (event ∷ [])
  unfolding keeper_run
  one_good shape p s event = λ first. (first event, tt)

  got_alone : (shape : Shape) (p : Places) (s : KeeperState) (found : Option Action) → IfFirst shape p s (keeper_got found)
  got_alone shape p s None = λ first. tt
  got_alone shape p s (Some action) = one_good shape p s (Gets action)

  word_good : (shape : Shape) (p : Places) (n : Near KeeperState) (granted : Bool) (ask : Ask KeeperTold)
      → IfFirst shape p n.machine (keeper_slots n.actions granted (keeper_ask shape p (keeper_next shape p n.machine (reply_to n.words ask) granted)) ++ Replies (reply_to n.words ask) granted ∷ [])
  unfolding keeper_run keeper_happens
  word_good shape p n granted ask = λ first.
      slots_good shape p n.machine n.actions granted (Replies (reply_to n.words ask) granted ∷ []) (keeper_ask shape p (keeper_next shape p n.machine (reply_to n.words ask) granted)) refl
      (one_good shape p n.machine (Replies (reply_to n.words ask) granted) first)

  steps_good : (shape : Shape) (p : Places) (granted done : Bool) (read : List ℕ) (n : Near KeeperState) (ask : Ask KeeperTold) → IfFirst shape p n.machine (keeper_steps shape p granted done read n ask)
  unfolding keeper_steps keeper_slots
  steps_good shape p granted done read n (Done Device) = one_good shape p n.machine (Calls done read)
  steps_good shape p granted done read n (Done its) = λ first. tt
  steps_good shape p granted done read n (Put slot action) = one_good shape p n.machine (Replies 0 granted)
  steps_good shape p granted done read n (Take slot) = got_alone shape p n.machine (action_at n.actions slot)
  steps_good shape p granted done read n (Load place) = word_good shape p n granted (Load place)
  steps_good shape p granted done read n (Store place new) = word_good shape p n granted (Store place new)
  steps_good shape p granted done read n (Swap place new) = word_good shape p n granted (Swap place new)
  steps_good shape p granted done read n (Cas place old new) = word_good shape p n granted (Cas place old new)
  steps_good shape p granted done read n (Add place count) = word_good shape p n granted (Add place count)
  steps_good shape p granted done read n (Max place count) = word_good shape p n granted (Max place count)

  part_good : (shape : Shape) (p : Places) (read : List ℕ) (n : Near KeeperState) (event : Event) → IfFirst shape p n.machine (keeper_part shape p read n event)
  unfolding keeper_part
  part_good shape p read n (world.Commits kind) = one_good shape p n.machine (BeginsCommit kind)
  part_good shape p read n world.Turns = one_good shape p n.machine BeginsTurn
  part_good shape p read n (world.KeeperMoves granted done) = steps_good shape p granted done read n (keeper_ask shape p n.machine)
  part_good shape p read n (world.Calls session call) = λ first. tt
  part_good shape p read n (world.Moves session) = λ first. tt
  part_good shape p read n world.Crashes = λ first. tt

  pub event_good : (w : World) (event : Event) → IfFirst w.now.shape w.now.places w.now.keeper (keeper_part_of w event)
  event_good w event = by_crash w.now.crashed
    where
      by_crash : (c : Bool) → IfFirst w.now.shape w.now.places w.now.keeper (if c then [] else keeper_part w.now.shape w.now.places (read_by_keeper w) (near w.now w.now.keeper) event)
      by_crash true = λ first. tt
      by_crash false = part_good w.now.shape w.now.places (read_by_keeper w) (near w.now w.now.keeper) event

  pub good_on : (shape : Shape) (p : Places) (first : KeeperState) (later before : List KeeperEvent) → AllGood shape p (keeper_run shape p first before) Good later → AllGood shape p first Good before → AllGood shape p first Good (later ++ before)
  good_on shape p first [] before new old = old
  good_on shape p first (event ∷ later) before new old = (
    subst (λ (a : KeeperState). GoodFrom (keeper_run shape p first (later ++ before)) a) (sym (keeper_runs_on shape p first (event ∷ later) before))
        (subst (λ (s : KeeperState). GoodFrom s (keeper_run shape p (keeper_run shape p first before) (event ∷ later))) (sym (keeper_runs_on shape p first later before)) new.0),
    good_on shape p first later before new.1 old,
  )
