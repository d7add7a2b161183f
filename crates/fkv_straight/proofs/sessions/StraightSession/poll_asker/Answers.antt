-- What its straight calls go by lasts through the poll, and where the poll stops the machine would begin it alike.
use Rattle.std.proofs.Common.{◌≡◌, ◌∙◌, rules}
use Rattle.fkv_map.specs.declared.operations.Call.TheVariants as call
use Rattle.fkv_straight.proofs.Endings.{begun_alike}
use Rattle.fkv_straight.proofs.Goings.{some_on}
use Rattle.fkv_straight.proofs.sessions.StraightSession.poll_asker.Goals as goal

pub invariant_of-self : goal.invariant_of-self
invariant_of-self g c = some_on _ _ c.self.inside.going c.poll_asker-straight.ensures.goes_by c.self.invariant

pub invariant_of-self-2 : goal.invariant_of-self-2
invariant_of-self-2 g c = some_on _ _ c.self.inside.going c.poll_asker-straight.ensures.goes_by c.self.invariant

pub returns-in_default-clause-stopped : goal.returns-in_default-clause-stopped
returns-in_default-clause-stopped g c = λ so. let same : c.self.inside.machine ≡ c.args.self.now = search rules in (
  c.poll_asker-straight.ensures.led,
  c.in_default.ensures.stopped ∙ same,
  begun_alike c.args.self.now.seat (g.L.Line.seat c.args.line.now) c.args.self.now.state (g.L.Line.stands c.args.line.now) call.Poll c.requires.seat
      (c.law_of_standing.ensures.begins c.args.self.now.seat c.args.self.now.state (g.L.Line.stands c.args.line.now) call.Poll c.requires.alike),
)
