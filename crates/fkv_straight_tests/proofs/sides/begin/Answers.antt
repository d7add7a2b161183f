-- The line has led on from where it stood as it was made.
use Rattle.std.proofs.Common.{ap, ◌∙◌}
use Rattle.fkv_session.specs.Alike.{standing}
use Rattle.fkv_session.specs.Sessions.{Sitter}
use Rattle.fkv_straight.specs.Standing.{begins}
use Rattle.fkv_straight_tests.proofs.sides.begin.Goals as goal

pub catch_up-requires-clause-led : goal.catch_up-requires-clause-led
catch_up-requires-clause-led g c =
    let did = c.run-went.ensures.stopped c.in-Stopped.is in
    (c.new-line.result, did.0, ap (λ (x : Sitter). standing (begins x.seat x.state c.args.call)) did.1 ∙ did.2)
