-- What the pass has seen has led the session to where it rests, and the same lasts of the machine.
use Rattle.std.proofs.Common.{ap, ◌∙◌}
use Rattle.fkv_session.specs.Alike.{Lasting, lasting}
use Rattle.fkv_table.proofs.sessions.Session.serial.Goals as goal

pub returns-clause-given : goal.returns-clause-given
unfolding lasting
returns-clause-given g c =
    let rests = c.requires.ready.rests in
    record {
      its = rests.seated.first;
      there = rests.seated.was;
      last = c.serial.ensures.value ∙ ap (λ (l : Lasting). l.serial) rests.alike ∙ ap (λ s. s.serial) rests.seated.state;
    }
