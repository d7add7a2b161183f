-- A call begins with no more asks left than its bound.
use Rattle.std.proofs.Common.{◌≡◌, ◌≤◌, ◌*◌, length, rules}
use Rattle.fkv_base.specs.Limits.{max_pending}
use Rattle.fkv_session.specs.AsksLeft.{IsOfShape}
use Rattle.fkv_session.proofs.SessionLeft.{session_begun_most}
use Rattle.fkv_session.proofs.contexts.Context.begin.Goals as goal

pub returns-clause-bounded : goal.returns-clause-bounded
returns-clause-bounded c =
    let now = c.args.self.now in
    let overflow : now.seat.places.overflow ≡ now.seat.shape.overflow = search rules in
    let ring : now.seat.places.ring ≡ now.seat.shape.frames * now.seat.shape.page = search rules in
    let few : length now.state.requests ≤ max_pending = search rules in
    let of : IsOfShape now.seat = record { overflow = overflow; ring = ring } in
    session_begun_most now.seat now.state c.args.call c.begin_call.new.self.state (search rules) of few
