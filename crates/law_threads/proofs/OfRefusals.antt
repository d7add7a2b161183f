-- The keeper's own events at a table say which call has begun last, and the law of its refusals does the rest.
use Rattle.std.proofs.Common.{◌≡◌, ◌⊎◌, inl, inr, ◌∙◌, ℕ, List, [], ◌∷◌, ◌++◌, refl, ap, sym, subst, Bool, true, false}
use Rattle.std.specs.Prelude.{Option, Some, Result, Err}
use Rattle.std.proofs.lemmas.Bool.{false≢true}
use Rattle.fkv_base.specs.declared.commits.CommitKind.{CommitKind}
use Rattle.fkv_base.specs.declared.faults.Fault.{Fault}
use Rattle.fkv_base.specs.declared.numbers.Version.{Version}
use Rattle.fkv_base.specs.declared.shapes.Shape.{Shape}
use Rattle.fkv_plane.specs.declared.asks.Ask.{Ask}
use Rattle.fkv_plane.specs.declared.asks.Ask.TheVariants.{Done}
use Rattle.fkv_plane.specs.declared.places.Places.{Places}
use Rattle.law_causes.specs.Ends.{Begun, Commit, RefusalsHaveCauses, Turn, begun_after, last_call}
use Rattle.law_order.specs.Below.fkv_core.Openings.{beginning}
use Rattle.law_order.specs.Below.fkv_keeper.KeeperRun.{BeginsCommit, BeginsTurn, KeeperEvent, is_in_hand, keeper_run}
use Rattle.law_order.specs.Below.fkv_keeper.KeeperTold.{KeeperTold}
use Rattle.law_order.specs.Below.fkv_keeper.KeeperTold.TheVariants.{Device}
use Rattle.law_order.specs.Below.fkv_keeper.Keeping.{KeeperModel, KeeperState, keeper_ask}
use Rattle.law_order.specs.Below.fkv_keeper.Running.{IsBeginTold, IsTurnTold}
use Rattle.law_order.specs.Below.fkv_keeper.Turn as told
use Rattle.law_order.specs.Below.fkv_opening.TheOpened.{Opened}
use Rattle.law_order.specs.Below.fkv_world.Opened.{IsOpenedWorld}
use Rattle.law_order.specs.Below.fkv_world.OwnEvents.{keeper_events}
use Rattle.law_order.specs.Below.fkv_world.Runs.{World, run}
use Rattle.law_order.specs.Below.fkv_world.World.{Now}
use Rattle.law_order.proofs.Below.fkv_world.Shown.{keeper_runs}
use Rattle.law_order.proofs.OfRules.Beginning.{world_opens}
use Rattle.fkv_seats.specs.Rule.{led}
use Rattle.fkv_table.specs.declared.happenings.Happening.{Happening}
use Rattle.fkv_table.specs.declared.happenings.Happening.TheVariants.{Commits, Turns}
use Rattle.fkv_table.specs.KeeperCalls.{HasGoneOn, HasKept}
use Rattle.fkv_table.specs.Planes.{plane}
use Rattle.fkv_table.specs.Turns.{asks_device}
use Rattle.fkv_table.proofs.Lives.{led_run}
use Rattle.law_threads.specs.Calls.{IsOver, events_of}
use Rattle.law_threads.specs.Refusals.{HasAskedFor, HasRefusedCommit, HasRefusedTurn, IsInTurn, IsKeeperAt, OfEachRefusal}
use Rattle.law_threads.specs.Turns.{HasTurned}
use Rattle.law_threads.proofs.KeeperKinds.{BeginNothing, BeginsNothing}
use Rattle.law_threads.proofs.OfKinds.{alive_at, commit_own, own_of_call, own_of_steps, turn_own}

-- ---- the keeper's own events
begins_none : (in_hand : Bool) (event : KeeperEvent) (was : Option Begun) → BeginsNothing event → begun_after in_hand event was ≡ was
begins_none in_hand BeginsTurn was none = absurd none
begins_none in_hand (BeginsCommit kind) was none = absurd none
begins_none true event was none = refl
begins_none false event was none = refl

module _ (shape : Shape) (p : Places) (opening : KeeperState) where
  -- events that begin no call leave it
  stays_last : (its own : List KeeperEvent) → BeginNothing its → last_call shape p opening (its ++ own) ≡ last_call shape p opening own
  unfolding last_call
  stays_last [] own none = refl
  stays_last (event ∷ its) own none = begins_none (is_in_hand (keeper_run shape p opening (its ++ own)).step) event (last_call shape p opening (its ++ own)) none.0 ∙ stays_last its own none.1

  turn_last : (own : List KeeperEvent) → is_in_hand (keeper_run shape p opening own).step ≡ false → last_call shape p opening (BeginsTurn ∷ own) ≡ Some Turn
  unfolding last_call
  turn_last own idle = ap (λ (b : Bool). begun_after b BeginsTurn (last_call shape p opening own)) idle

  commit_last : (own : List KeeperEvent) (kind : CommitKind) → is_in_hand (keeper_run shape p opening own).step ≡ false → last_call shape p opening (BeginsCommit kind ∷ own) ≡ Some (Commit kind)
  unfolding last_call
  commit_last own kind idle = ap (λ (b : Bool). begun_after b (BeginsCommit kind) (last_call shape p opening own)) idle

device_asked : (ask : Ask KeeperTold) → asks_device ask ≡ true → ask ≡ Done Device
device_asked (Done Device) asks = refl
device_asked ask asks = absurd (false≢true asks)

-- ---- at a table
module _ {K : Type 0} (at : K → World) (law : RefusalsHaveCauses) (key : K) (o : Opened) (n : Now) (bytes : List ℕ) (over : IsOver at key o n bytes) where
  abbrev w : World
  w = beginning n bytes

  opened : IsOpenedWorld w
  opened = world_opens o n bytes over.begins

  abbrev own : List Happening → List KeeperEvent
  own seen = keeper_events w (events_of seen)

  abbrev state : List Happening → KeeperState
  state seen = keeper_run w.now.shape w.now.places w.now.keeper (own seen)

  abbrev last : List Happening → Option Begun
  last seen = last_call w.now.shape w.now.places w.now.keeper (own seen)

  -- the machine is the one that its own events have led to
  machine_so : (seen : List Happening) (k : KeeperModel) → IsKeeperAt at key seen k → k ≡ record { shape = w.now.shape; places = w.now.places; state = state seen }
  machine_so seen k its =
      let shape : k.shape ≡ w.now.shape = its.at_work.keeping.shape ∙ ap (λ (x : World). x.now.shape) over.same in
      let places : k.places ≡ w.now.places = its.at_work.keeping.places ∙ ap (λ (x : World). x.now.places) over.same in
      let its_state : k.state ≡ state seen =
      its.at_work.keeping.state
      ∙ (ap (λ (es : List Happening). (led (plane at) (at key) es).now.keeper) its.seen
      ∙ (ap (λ (x : World). x.now.keeper) (led_run at (at key) seen)
      ∙ (ap (λ (x : World). (run x (events_of seen)).now.keeper) over.same ∙ keeper_runs w (events_of seen)))) in
      λ i. record { shape = shape i; places = places i; state = its_state i }

  -- so it asks, and tells
  of_machine : (P : Shape → Places → KeeperState → Type 0) (seen : List Happening) (k : KeeperModel) → IsKeeperAt at key seen k → P k.shape k.places k.state → P w.now.shape w.now.places (state seen)
  of_machine P seen k its holds = subst (λ (x : KeeperModel). P x.shape x.places x.state) (machine_so seen k its) holds

  -- which call has begun last
  is_turn : (from behind : List Happening) → IsInTurn at key from behind → last behind ≡ Some Turn
  is_turn from behind its = by its.went
    where
      by : ((is_in_hand its.machine.state.step ≡ false) × HasKept Turns from behind) ⊎ ((asks_device (keeper_ask its.machine.shape its.machine.places its.machine.state) ≡ true) × HasGoneOn from behind) → last behind ≡ Some Turn
      by (inl begun) =
          let call = own_of_call w (alive_at w opened) Turns BeginsTurn from behind begun.1 (λ es. turn_own w (alive_at w opened) es) in
          ap (last_call w.now.shape w.now.places w.now.keeper) call.so
          ∙ (stays_last w.now.shape w.now.places w.now.keeper call.its (BeginsTurn ∷ own from) call.none
          ∙ turn_last w.now.shape w.now.places w.now.keeper (own from) (of_machine (λ shape p s. is_in_hand s.step ≡ false) from its.machine its.was begun.0))
      by (inr stood) =
          let steps = own_of_steps w (alive_at w opened) stood.1.steps from stood.1.begins in
          ap (λ (es : List Happening). last es) stood.1.so
          ∙ (ap (last_call w.now.shape w.now.places w.now.keeper) steps.so
          ∙ (stays_last w.now.shape w.now.places w.now.keeper steps.its (own from) steps.none
          ∙ law.device w.now.shape w.now.places w.now.keeper (own from) opened.keeper
          (of_machine (λ shape p s. keeper_ask shape p s ≡ Done Device) from its.machine its.was (device_asked (keeper_ask its.machine.shape its.machine.places its.machine.state) stood.0))))

  is_commit : (kind : CommitKind) (from behind : List Happening) (machine : KeeperModel) → IsKeeperAt at key from machine → is_in_hand machine.state.step ≡ false → HasKept (Commits kind) from behind → last behind ≡ Some (Commit kind)
  is_commit kind from behind machine was idle kept =
      let call = own_of_call w (alive_at w opened) (Commits kind) (BeginsCommit kind) from behind kept (λ es. commit_own w (alive_at w opened) kind es) in
      ap (last_call w.now.shape w.now.places w.now.keeper) call.so
      ∙ (stays_last w.now.shape w.now.places w.now.keeper call.its (BeginsCommit kind ∷ own from) call.none
      ∙ commit_last w.now.shape w.now.places w.now.keeper (own from) kind (of_machine (λ shape p s. is_in_hand s.step ≡ false) from machine was idle))

  -- the keeper that is ready is at work
  turned_at : (behind : List Happening) (answer : Result told.Turn Fault) → HasTurned at key behind answer → (k : KeeperModel) × IsKeeperAt at key behind k × (is_in_hand k.state.step ≡ false) × IsTurnTold k.state.last (keeper_ask k.shape k.places k.state) answer
  turned_at behind answer its = (
    its.machine,
    record { table = its.table; seat = its.seat; me = its.me; at_work = record { opened = its.ready.opened; same_table = its.ready.same_table; keeping = its.ready.keeping }; seen = its.seen },
    its.ready.idle,
    its.told,
  )

  pub no_turn : (from behind : List Happening) (answer : Result told.Turn Fault) (why : Fault) → IsInTurn at key from behind → HasTurned at key behind answer → answer ≡ Err why → HasRefusedTurn (at key) behind why
  no_turn from behind answer why in_turn turned is =
      let now = turned_at behind answer turned in
      subst (λ (x : World). HasRefusedTurn x behind why) (sym over.same)
      (law.turns w.now.shape w.now.places w.now.keeper (own behind) why opened.keeper (is_turn from behind in_turn)
      (of_machine (λ shape p s. is_in_hand s.step ≡ false) behind now.0 now.1 now.2)
      (of_machine (λ shape p s. IsTurnTold s.last (keeper_ask shape p s) (Err why)) behind now.0 now.1 (subst (λ (x : Result told.Turn Fault). IsTurnTold now.0.state.last (keeper_ask now.0.shape now.0.places now.0.state) x) is now.3)))

  pub no_commit : (kind : CommitKind) (from behind : List Happening) (answer : Result Version Fault) (why : Fault) → HasAskedFor at key kind from behind answer → answer ≡ Err why → HasRefusedCommit (at key) kind behind why
  no_commit kind from behind answer why its is =
      subst (λ (x : World). HasRefusedCommit x kind behind why) (sym over.same)
      (law.commits w.now.shape w.now.places w.now.keeper (own behind) kind why opened.keeper (is_commit kind from behind its.machine its.was its.idle its.kept)
      (of_machine (λ shape p s. is_in_hand s.step ≡ false) behind its.after its.now its.over)
      (of_machine (λ shape p s. IsBeginTold (keeper_ask shape p s) (Err why)) behind its.after its.now (subst (λ (x : Result Version Fault). IsBeginTold (keeper_ask its.after.shape its.after.places its.after.state) x) is its.told)))

pub each_refusal : {K : Type 0} (at : K → World) → RefusalsHaveCauses → OfEachRefusal at
each_refusal at law = record {
  turns = λ key from behind answer in_turn turned o n bytes over why is. no_turn at law key o n bytes over from behind answer why in_turn turned is;
  commits = λ key kind from behind answer its o n bytes over why is. no_commit at law key o n bytes over kind from behind answer why its is;
}
