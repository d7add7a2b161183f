-- Each kind of event leads where the rules of the world lead.
use Rattle.std.specs.Prelude.{true, false}
use Rattle.fkv_world.specs.World.{Now}
use Rattle.fkv_core.specs.Worlds.{states_of}
use Rattle.fkv_core.proofs.Answered.{lived}
use Rattle.fkv_core.proofs.Seated.{session_called_so, session_moved_so}
use Rattle.fkv_core.proofs.Steps.{call_step, move_step, commit_step, turn_step, keeper_step, crash_step, no_step}
use Rattle.fkv_core.proofs.worlds.World.advance.Goals as goal

pub invariant_of-self : goal.invariant_of-self
invariant_of-self g c =
    let inside = c.self.inside in
    let n : Now = record { shape = inside.keeper.shape; places = inside.keeper.places; words = inside.words.words; actions = inside.words.actions; sessions = states_of inside.sessions.items; keeper = inside.keeper.state; crashed = inside.crashed } in
    (session_called_so n c.in-Call.number c.in-Call.call inside.sessions.items c.called.new.sessions.items c.called.result c.self.invariant c.called.ensures).seated

pub invariant_of-self-in-Move : goal.invariant_of-self-in-Move
invariant_of-self-in-Move g c =
    let inside = c.self.inside in
    let n : Now = record { shape = inside.keeper.shape; places = inside.keeper.places; words = inside.words.words; actions = inside.words.actions; sessions = states_of inside.sessions.items; keeper = inside.keeper.state; crashed = inside.crashed } in
    (session_moved_so n c.in-Move.number inside.words c.moved.new.words inside.sessions.items c.moved.new.sessions.items c.moved.result c.self.invariant c.moved.ensures).seated

pub returns-in-Call-clause-step : goal.returns-in-Call-clause-step
returns-in-Call-clause-step g c = λ told tells.
    let inside = c.self.inside in
    let n : Now = record { shape = inside.keeper.shape; places = inside.keeper.places; words = inside.words.words; actions = inside.words.actions; sessions = states_of inside.sessions.items; keeper = inside.keeper.state; crashed = inside.crashed } in
    rw (← c.self.view_is, c.in-Call.is) (call_step n c.in-Call.number c.in-Call.call inside.sessions.items c.called.new.sessions.items c.called.result told _ _ _ _ _ _ c.if-self.false c.self.invariant c.called.ensures (rw (← c.in-Call.is) tells))

pub returns-in-Move-clause-step : goal.returns-in-Move-clause-step
returns-in-Move-clause-step g c = λ told tells.
    let inside = c.self.inside in
    let n : Now = record { shape = inside.keeper.shape; places = inside.keeper.places; words = inside.words.words; actions = inside.words.actions; sessions = states_of inside.sessions.items; keeper = inside.keeper.state; crashed = inside.crashed } in
    rw (← c.self.view_is, c.in-Move.is) (move_step n c.in-Move.number inside.words c.moved.new.words inside.sessions.items c.moved.new.sessions.items c.moved.result told _ _ _ _ _ _ c.if-self.false c.self.invariant c.moved.ensures (rw (← c.in-Move.is) tells))

pub returns-in-Call-clause-ended : goal.returns-in-Call-clause-ended
returns-in-Call-clause-ended g c =
    let inside = c.self.inside in
    let n : Now = record { shape = inside.keeper.shape; places = inside.keeper.places; words = inside.words.words; actions = inside.words.actions; sessions = states_of inside.sessions.items; keeper = inside.keeper.state; crashed = inside.crashed } in
    rw (← c.self.view_is, c.in-Call.is) (lived n.crashed _ _ c.if-self.false (session_called_so n c.in-Call.number c.in-Call.call inside.sessions.items c.called.new.sessions.items c.called.result c.self.invariant c.called.ensures).over)

pub returns-in-Move-clause-ended : goal.returns-in-Move-clause-ended
returns-in-Move-clause-ended g c =
    let inside = c.self.inside in
    let n : Now = record { shape = inside.keeper.shape; places = inside.keeper.places; words = inside.words.words; actions = inside.words.actions; sessions = states_of inside.sessions.items; keeper = inside.keeper.state; crashed = inside.crashed } in
    rw (← c.self.view_is, c.in-Move.is) (lived n.crashed _ _ c.if-self.false (session_moved_so n c.in-Move.number inside.words c.moved.new.words inside.sessions.items c.moved.new.sessions.items c.moved.result c.self.invariant c.moved.ensures).over)

pub returns-in-Commit-clause-step : goal.returns-in-Commit-clause-step
returns-in-Commit-clause-step g c = λ told tells.
    let inside = c.self.inside in
    let n : Now = record { shape = inside.keeper.shape; places = inside.keeper.places; words = inside.words.words; actions = inside.words.actions; sessions = states_of inside.sessions.items; keeper = inside.keeper.state; crashed = inside.crashed } in
    rw (← c.self.view_is, c.in-Commit.is) (commit_step n c.in-Commit.kind c.keeper_commit.new.keeper c.keeper_commit.result told _ _ _ _ _ _ c.if-self.false c.keeper_commit.ensures.next c.keeper_commit.ensures.ended (rw (← c.in-Commit.is) tells))

pub returns-in-Turn-clause-step : goal.returns-in-Turn-clause-step
returns-in-Turn-clause-step g c = λ told tells.
    let inside = c.self.inside in
    let n : Now = record { shape = inside.keeper.shape; places = inside.keeper.places; words = inside.words.words; actions = inside.words.actions; sessions = states_of inside.sessions.items; keeper = inside.keeper.state; crashed = inside.crashed } in
    rw (← c.self.view_is, c.in-Turn.is) (turn_step n c.keeper_turn.new.keeper c.keeper_turn.result told _ _ _ _ _ _ c.if-self.false c.keeper_turn.ensures.next c.keeper_turn.ensures.ended (rw (← c.in-Turn.is) tells))

pub returns-in-KeeperMove-clause-step : goal.returns-in-KeeperMove-clause-step
returns-in-KeeperMove-clause-step g c = λ told tells.
    let inside = c.self.inside in
    let n : Now = record { shape = inside.keeper.shape; places = inside.keeper.places; words = inside.words.words; actions = inside.words.actions; sessions = states_of inside.sessions.items; keeper = inside.keeper.state; crashed = inside.crashed } in
    rw (← c.self.view_is, c.in-KeeperMove.is) (keeper_step false n c.keeper_move.new.words c.keeper_move.new.keeper c.keeper_move.result told _ _ _ _ _ _ _ _ _ _ _ c.if-self.false c.keeper_move.ensures.moved c.keeper_move.ensures.ended (rw (← c.in-KeeperMove.is) tells))

pub returns-in-SweepMove-clause-step : goal.returns-in-SweepMove-clause-step
returns-in-SweepMove-clause-step g c = λ told tells.
    let inside = c.self.inside in
    let n : Now = record { shape = inside.keeper.shape; places = inside.keeper.places; words = inside.words.words; actions = inside.words.actions; sessions = states_of inside.sessions.items; keeper = inside.keeper.state; crashed = inside.crashed } in
    rw (← c.self.view_is, c.in-SweepMove.is) (keeper_step true n c.keeper_move-in-SweepMove.new.words c.keeper_move-in-SweepMove.new.keeper c.keeper_move-in-SweepMove.result told _ _ _ _ _ _ _ _ _ _ _ c.if-self.false c.keeper_move-in-SweepMove.ensures.moved c.keeper_move-in-SweepMove.ensures.ended (rw (← c.in-SweepMove.is) tells))

pub returns-in-Crash-clause-step : goal.returns-in-Crash-clause-step
returns-in-Crash-clause-step g c = λ told tells.
    let inside = c.self.inside in
    let n : Now = record { shape = inside.keeper.shape; places = inside.keeper.places; words = inside.words.words; actions = inside.words.actions; sessions = states_of inside.sessions.items; keeper = inside.keeper.state; crashed = inside.crashed } in
    rw (← c.self.view_is, c.in-Crash.is) (crash_step n told _ _ _ _ _ _ c.if-self.false tells)

pub returns-then-self-clause-step : goal.returns-then-self-clause-step
returns-then-self-clause-step g c = λ told tells.
    let inside = c.self.inside in
    let n : Now = record { shape = inside.keeper.shape; places = inside.keeper.places; words = inside.words.words; actions = inside.words.actions; sessions = states_of inside.sessions.items; keeper = inside.keeper.state; crashed = inside.crashed } in
    rw (← c.self.view_is) (no_step c.args.event n _ _ _ _ _ _ c.if-self.true told tells)
