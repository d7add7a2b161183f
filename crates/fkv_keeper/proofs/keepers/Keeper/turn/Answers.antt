-- A turn goes on as a turn, and what it tells at its end is what it has made.
use Rattle.std.proofs.Common.{rules, ◌≡◌, ◌∙◌, ℕ, refl, sym, ap, subst, false}
use Rattle.std.specs.Prelude.{Err}
use Rattle.std.specs.Result.{is_ok}
use Rattle.fkv_base.specs.declared.faults.Fault.TheVariants.{DrainFull}
use Rattle.fkv_plane.specs.declared.asks.Ask.{Ask}
use Rattle.fkv_plane.specs.Passing.{is_done}
use Rattle.fkv_keeper.specs.declared.answers.KeeperTold.{KeeperTold}
use Rattle.fkv_keeper.specs.Keeping.{KeeperModel, KeeperState, keeper_ask, keeper_next, keeper_given, turn_asked}
use Rattle.fkv_keeper.specs.Running.{IsTurnTold}
use Rattle.fkv_disk.specs.Device.{MakesCalls}
use Rattle.fkv_base.specs.declared.shapes.Shape.{Shape}
use Rattle.fkv_plane.specs.declared.asks.Ask.TheVariants.{Done}
use Rattle.fkv_plane.specs.declared.places.Places.{Places}
use Rattle.fkv_plane.specs.Plane.{Plane}
use Rattle.fkv_keeper.specs.declared.answers.KeeperTold.TheVariants.{Device}
use Rattle.fkv_keeper.specs.KeeperAsks.{keeper_calls_asked}
use Rattle.fkv_keeper.specs.WholeCalls.{HasStopped, IsHonestTurnSoFar, IsTurnSoFar}
use Rattle.fkv_keeper.proofs.WholeCalls.{of_store, ended_stops, none_same, none_stops, put_steps, take_steps, word_steps, turn_by_words, honest_turn_by_words, turn_by_device, honest_turn_by_device, turn_first as first_asked, honest_turn_first}
use Rattle.fkv_keeper.proofs.TurnRun.{TurnRuns, turn_first, runs_next, runs_given, runs_called, turn_made}
use Rattle.fkv_keeper.proofs.keepers.Keeper.turn.Goals as goal

pub asks-preserved-in-Device : goal.asks-preserved-in-Device
asks-preserved-in-Device g c =
    let now = c.asks.self in
    let its = c.call_device.ensures.next.1 in
    let begun = turn_asked c.args.self.now.state in
    let far : KeeperModel → Type 0 = λ (k : KeeperModel). IsTurnSoFar k.shape k.places begun c.args.plane.now k.state c.asks.plane (g.D.Device.failed c.args.d.now) (g.D.Device.failed c.call_device.new.d) (g.D.Device.refuses c.args.d.now) (g.D.Device.refuses c.call_device.new.d) in
    let honest_far : KeeperModel → Type 0 = λ (k : KeeperModel). IsHonestTurnSoFar k.shape k.places begun c.args.plane.now k.state c.asks.plane (g.D.Device.seen c.args.d.now) (g.D.Device.seen c.call_device.new.d) (g.D.Device.may_leave c.args.d.now) (g.D.Device.may_leave c.call_device.new.d) in
    let asks : keeper_ask now.shape now.places now.state ≡ Done Device = sym c.ask.ensures ∙ c.in-Done.is ∙ ap (λ (told : KeeperTold). Done told) c.in-Device.is in
    let counted = subst (λ (n : ℕ). MakesCalls n (g.D.Device.refuses c.asks.d) (g.D.Device.refuses c.call_device.new.d) c.call_device.result) (c.call_device.ensures.asked ∙ ap keeper_calls_asked asks) c.call_device.ensures.counted in
    record {
      shape = ap (λ (k : KeeperModel). k.shape) its ∙ c.asks.invariant.shape;
      places = ap (λ (k : KeeperModel). k.places) its ∙ c.asks.invariant.places;
      runs = subst (λ (s : KeeperState). TurnRuns c.args.self.now.state s s.step) (sym (ap (λ (k : KeeperModel). k.state) its)) (runs_called c.args.self.now.state now.state now.shape now.places (is_ok c.call_device.result) c.call_device.ensures.next.0 c.asks.invariant.runs);
      asked = subst far (sym its) (turn_by_device now.shape now.places begun c.args.plane.now now.state _ c.asks.plane c.call_device.result _ _ _ _ _ _ _ c.asks.invariant.asked asks refl c.call_device.ensures.cause counted);
      device = λ h. let honest = c.asks.invariant.honest.0 h in subst honest_far (sym (c.call_device.ensures.read honest))
          (honest_turn_by_device now.shape now.places begun c.args.plane.now now.state _ c.asks.plane (is_ok c.call_device.result) _ _ _ _ _ _ (c.asks.invariant.device h) asks refl (c.call_device.ensures.calls honest));
      honest = (λ h. c.call_device.ensures.honest.0 (c.asks.invariant.honest.0 h), λ h. c.asks.invariant.honest.1 (c.call_device.ensures.honest.1 h));
    }

pub asks-preserved-in-Some : goal.asks-preserved-in-Some
asks-preserved-in-Some g c =
    let now = c.asks.self in
    let its = c.take-in-Some.ensures.next in
    let begun = turn_asked c.args.self.now.state in
    let far : KeeperModel → Type 0 = λ (k : KeeperModel). IsTurnSoFar k.shape k.places begun c.args.plane.now k.state c.take.new.self (g.D.Device.failed c.args.d.now) (g.D.Device.failed c.asks.d) (g.D.Device.refuses c.args.d.now) (g.D.Device.refuses c.asks.d) in
    let honest_far : KeeperModel → Type 0 = λ (k : KeeperModel). IsHonestTurnSoFar k.shape k.places begun c.args.plane.now k.state c.take.new.self (g.D.Device.seen c.args.d.now) (g.D.Device.seen c.asks.d) (g.D.Device.may_leave c.args.d.now) (g.D.Device.may_leave c.asks.d) in
    let step = take_steps now.shape now.places now.state (keeper_given now.shape now.places now.state c.in-Some.action) c.asks.plane c.take.new.self c.in-Take.slot c.in-Some.action (sym c.ask.ensures ∙ c.in-Take.is) (sym c.take.ensures.value ∙ c.in-Some.is) c.take.ensures.after refl in
    record {
      shape = ap (λ (k : KeeperModel). k.shape) its ∙ c.asks.invariant.shape;
      places = ap (λ (k : KeeperModel). k.places) its ∙ c.asks.invariant.places;
      runs = subst (λ (s : KeeperState). TurnRuns c.args.self.now.state s s.step) (sym (ap (λ (k : KeeperModel). k.state) its)) (runs_given c.args.self.now.state now.state now.shape now.places c.in-Some.action c.asks.invariant.runs);
      asked = subst far (sym its) (turn_by_words now.shape now.places begun c.args.plane.now _ now.state _ c.asks.plane _ _ _ _ _ tt c.asks.invariant.asked step);
      device = λ h. subst honest_far (sym its) (honest_turn_by_words now.shape now.places begun c.args.plane.now _ now.state _ c.asks.plane _ _ _ _ _ tt (c.asks.invariant.device h) step);
      honest = c.asks.invariant.honest;
    }

pub returns-in-None-clause-made : goal.returns-in-None-clause-made
returns-in-None-clause-made g c =
    let now = c.asks.self in
    turn_made c.args.self.now.state now.state now.shape now.places now.state.last (Err DrainFull) c.asks.invariant.runs
    (subst (λ (a : Ask KeeperTold). IsTurnTold now.state.last a (Err DrainFull)) (sym (sym c.ask.ensures ∙ c.in-Take.is)) refl)

pub asks-preserved-in-Put : goal.asks-preserved-in-Put
asks-preserved-in-Put g c =
    let now = c.asks.self in
    let its = c.go_on.ensures.next in
    let begun = turn_asked c.args.self.now.state in
    let far : KeeperModel → Type 0 = λ (k : KeeperModel). IsTurnSoFar k.shape k.places begun c.args.plane.now k.state c.put.new.self (g.D.Device.failed c.args.d.now) (g.D.Device.failed c.asks.d) (g.D.Device.refuses c.args.d.now) (g.D.Device.refuses c.asks.d) in
    let honest_far : KeeperModel → Type 0 = λ (k : KeeperModel). IsHonestTurnSoFar k.shape k.places begun c.args.plane.now k.state c.put.new.self (g.D.Device.seen c.args.d.now) (g.D.Device.seen c.asks.d) (g.D.Device.may_leave c.args.d.now) (g.D.Device.may_leave c.asks.d) in
    let step = put_steps now.shape now.places now.state (keeper_next now.shape now.places now.state 0 c.go_on.new.self.state.is_granted) c.asks.plane c.put.new.self c.in-Put.slot c.in-Put.action c.go_on.new.self.state.is_granted (sym c.ask.ensures ∙ c.in-Put.is) c.put.ensures.after refl in
    record {
      shape = ap (λ (k : KeeperModel). k.shape) its ∙ c.asks.invariant.shape;
      places = ap (λ (k : KeeperModel). k.places) its ∙ c.asks.invariant.places;
      runs = subst (λ (s : KeeperState). TurnRuns c.args.self.now.state s s.step) (sym (ap (λ (k : KeeperModel). k.state) its)) (runs_next c.args.self.now.state now.state now.shape now.places _ _ c.asks.invariant.runs (ap is_done (sym c.ask.ensures ∙ c.in-Put.is)));
      asked = subst far (sym its) (turn_by_words now.shape now.places begun c.args.plane.now _ now.state _ c.asks.plane _ _ _ _ _ tt c.asks.invariant.asked step);
      device = λ h. subst honest_far (sym its) (honest_turn_by_words now.shape now.places begun c.args.plane.now _ now.state _ c.asks.plane _ _ _ _ _ tt (c.asks.invariant.device h) step);
      honest = c.asks.invariant.honest;
    }

pub asks-preserved : goal.asks-preserved
asks-preserved g c =
    let now = c.asks.self in
    let asks : is_done (keeper_ask now.shape now.places now.state) ≡ false = search rules in
    let its = c.go_on-in_default.ensures.next in
    let begun = turn_asked c.args.self.now.state in
    let far : KeeperModel → Type 0 = λ (k : KeeperModel). IsTurnSoFar k.shape k.places begun c.args.plane.now k.state c.perform-reply.new.self (g.D.Device.failed c.args.d.now) (g.D.Device.failed c.asks.d) (g.D.Device.refuses c.args.d.now) (g.D.Device.refuses c.asks.d) in
    let honest_far : KeeperModel → Type 0 = λ (k : KeeperModel). IsHonestTurnSoFar k.shape k.places begun c.args.plane.now k.state c.perform-reply.new.self (g.D.Device.seen c.args.d.now) (g.D.Device.seen c.asks.d) (g.D.Device.may_leave c.args.d.now) (g.D.Device.may_leave c.asks.d) in
    let step = word_steps now.shape now.places now.state (keeper_next now.shape now.places now.state c.perform-reply.result c.go_on-in_default.new.self.state.is_granted) c.asks.plane c.perform-reply.new.self c.ask.result c.perform-reply.result c.go_on-in_default.new.self.state.is_granted c.ask.ensures c.in_default.not-Put c.in_default.not-Take c.in_default.not-Done c.perform-reply.ensures.reply c.perform-reply.ensures.after refl in
    record {
      shape = ap (λ (k : KeeperModel). k.shape) its ∙ c.asks.invariant.shape;
      places = ap (λ (k : KeeperModel). k.places) its ∙ c.asks.invariant.places;
      runs = subst (λ (s : KeeperState). TurnRuns c.args.self.now.state s s.step) (sym (ap (λ (k : KeeperModel). k.state) its)) (runs_next c.args.self.now.state now.state now.shape now.places _ _ c.asks.invariant.runs asks);
      asked = subst far (sym its) (turn_by_words now.shape now.places begun c.args.plane.now _ now.state _ c.asks.plane _ _ _ _ _ tt c.asks.invariant.asked step);
      device = λ h. subst honest_far (sym its) (honest_turn_by_words now.shape now.places begun c.args.plane.now _ now.state _ c.asks.plane _ _ _ _ _ tt (c.asks.invariant.device h) step);
      honest = c.asks.invariant.honest;
    }

pub asks-init : goal.asks-init
asks-init g c =
    let first = c.begin_turn.ensures.next in
    let before = c.args.self.now in
    let begun = turn_asked before.state in
    record {
      shape = refl;
      places = refl;
      runs = subst (λ (k : KeeperModel). TurnRuns before.state k.state k.state.step) (sym first) (turn_first before.state);
      asked = subst (λ (k : KeeperModel). IsTurnSoFar k.shape k.places begun c.args.plane.now k.state c.args.plane.now (g.D.Device.failed c.args.d.now) (g.D.Device.failed c.args.d.now) (g.D.Device.refuses c.args.d.now) (g.D.Device.refuses c.args.d.now)) (sym first)
          (first_asked before.shape before.places begun c.args.plane.now _ _);
      device = λ h. subst (λ (k : KeeperModel). IsHonestTurnSoFar k.shape k.places begun c.args.plane.now k.state c.args.plane.now (g.D.Device.seen c.args.d.now) (g.D.Device.seen c.args.d.now) (g.D.Device.may_leave c.args.d.now) (g.D.Device.may_leave c.args.d.now)) (sym first)
          (honest_turn_first before.shape before.places begun c.args.plane.now _ _);
      honest = (λ h. h, λ h. h);
    }

pub returns-in-None-clause-stopped : goal.returns-in-None-clause-stopped
returns-in-None-clause-stopped g c =
    let now = c.asks.self in
    let shape : c.asks.self.shape ≡ c.args.self.now.shape = c.asks.invariant.shape ∙ ap (λ (k : KeeperModel). k.shape) c.begin_turn.ensures.next in
    let places : c.asks.self.places ≡ c.args.self.now.places = c.asks.invariant.places ∙ ap (λ (k : KeeperModel). k.places) c.begin_turn.ensures.next in
    of_store (λ (s : Shape) (p : Places). HasStopped c.take.new.self (keeper_ask s p now.state)) _ _ _ _ shape places
    (none_stops c.asks.plane c.take.new.self (keeper_ask now.shape now.places now.state) c.in-Take.slot (sym c.ask.ensures ∙ c.in-Take.is) (sym c.take.ensures.value ∙ c.in-None.is) (none_same c.asks.plane c.take.new.self c.in-Take.slot (sym c.take.ensures.value ∙ c.in-None.is) c.take.ensures.after))

pub returns-in-None-clause-asked : goal.returns-in-None-clause-asked
returns-in-None-clause-asked g c =
    let shape : c.asks.self.shape ≡ c.args.self.now.shape = c.asks.invariant.shape ∙ ap (λ (k : KeeperModel). k.shape) c.begin_turn.ensures.next in
    let places : c.asks.self.places ≡ c.args.self.now.places = c.asks.invariant.places ∙ ap (λ (k : KeeperModel). k.places) c.begin_turn.ensures.next in
    of_store (λ (s : Shape) (p : Places). IsTurnSoFar s p (turn_asked c.args.self.now.state) c.args.plane.now c.asks.self.state c.take.new.self (g.D.Device.failed c.args.d.now) (g.D.Device.failed c.asks.d) (g.D.Device.refuses c.args.d.now) (g.D.Device.refuses c.asks.d)) _ _ _ _ shape places (subst (λ (at : Plane). IsTurnSoFar c.asks.self.shape c.asks.self.places (turn_asked c.args.self.now.state) c.args.plane.now c.asks.self.state at (g.D.Device.failed c.args.d.now) (g.D.Device.failed c.asks.d) (g.D.Device.refuses c.args.d.now) (g.D.Device.refuses c.asks.d)) (sym (none_same c.asks.plane c.take.new.self c.in-Take.slot (sym c.take.ensures.value ∙ c.in-None.is) c.take.ensures.after)) c.asks.invariant.asked)

pub returns-in-None-clause-device : goal.returns-in-None-clause-device
returns-in-None-clause-device g c =
    let shape : c.asks.self.shape ≡ c.args.self.now.shape = c.asks.invariant.shape ∙ ap (λ (k : KeeperModel). k.shape) c.begin_turn.ensures.next in
    let places : c.asks.self.places ≡ c.args.self.now.places = c.asks.invariant.places ∙ ap (λ (k : KeeperModel). k.places) c.begin_turn.ensures.next in
    λ h. of_store (λ (s : Shape) (p : Places). IsHonestTurnSoFar s p (turn_asked c.args.self.now.state) c.args.plane.now c.asks.self.state c.take.new.self (g.D.Device.seen c.args.d.now) (g.D.Device.seen c.asks.d) (g.D.Device.may_leave c.args.d.now) (g.D.Device.may_leave c.asks.d)) _ _ _ _ shape places (subst (λ (at : Plane). IsHonestTurnSoFar c.asks.self.shape c.asks.self.places (turn_asked c.args.self.now.state) c.args.plane.now c.asks.self.state at (g.D.Device.seen c.args.d.now) (g.D.Device.seen c.asks.d) (g.D.Device.may_leave c.args.d.now) (g.D.Device.may_leave c.asks.d)) (sym (none_same c.asks.plane c.take.new.self c.in-Take.slot (sym c.take.ensures.value ∙ c.in-None.is) c.take.ensures.after)) (c.asks.invariant.device h))

pub returns-in_default-told : goal.returns-in_default-told
returns-in_default-told g c =
    let now = c.asks.self in
    let asks : keeper_ask now.shape now.places now.state ≡ Done c.in-Done.told = sym c.ask.ensures ∙ c.in-Done.is in
    let told : IsTurnTold now.state.last (keeper_ask now.shape now.places now.state) c.turn_told.result = subst (λ (a : Ask KeeperTold). IsTurnTold now.state.last a c.turn_told.result) (sym asks) c.turn_told.ensures in
    let stopped : HasStopped c.asks.plane (keeper_ask now.shape now.places now.state) = subst (λ (a : Ask KeeperTold). HasStopped c.asks.plane a) (sym asks) (ended_stops c.asks.plane c.in-Done.told c.in_default-told.not-Device) in
    let shape : c.asks.self.shape ≡ c.args.self.now.shape = c.asks.invariant.shape ∙ ap (λ (k : KeeperModel). k.shape) c.begin_turn.ensures.next in
    let places : c.asks.self.places ≡ c.args.self.now.places = c.asks.invariant.places ∙ ap (λ (k : KeeperModel). k.places) c.begin_turn.ensures.next in
    record {
      told = of_store (λ (s : Shape) (p : Places). IsTurnTold now.state.last (keeper_ask s p now.state) c.turn_told.result) _ _ _ _ shape places told;
      made = turn_made c.args.self.now.state now.state now.shape now.places now.state.last c.turn_told.result c.asks.invariant.runs told;
      stopped = of_store (λ (s : Shape) (p : Places). HasStopped c.asks.plane (keeper_ask s p now.state)) _ _ _ _ shape places stopped;
      asked = of_store (λ (s : Shape) (p : Places). IsTurnSoFar s p (turn_asked c.args.self.now.state) c.args.plane.now now.state c.asks.plane (g.D.Device.failed c.args.d.now) (g.D.Device.failed c.asks.d) (g.D.Device.refuses c.args.d.now) (g.D.Device.refuses c.asks.d)) _ _ _ _ shape places c.asks.invariant.asked;
      device = λ h. of_store (λ (s : Shape) (p : Places). IsHonestTurnSoFar s p (turn_asked c.args.self.now.state) c.args.plane.now now.state c.asks.plane (g.D.Device.seen c.args.d.now) (g.D.Device.seen c.asks.d) (g.D.Device.may_leave c.args.d.now) (g.D.Device.may_leave c.asks.d)) _ _ _ _ shape places (c.asks.invariant.device h);
      honest = c.asks.invariant.honest;
    }
