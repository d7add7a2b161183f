-- An eighth word that leads nowhere has room for a link.
use Rattle.std.proofs.Common.{arith, subst}
use Rattle.fkv_index.specs.Finding.{IsStepInRange}
use Rattle.fkv_index.proofs.Ranges.{link_in_range, taken_in_range}
use Rattle.fkv_index.proofs.finding.find_led.Goals as goal

pub returns-in-LoadsLink-clause-range : goal.returns-in-LoadsLink-clause-range
returns-in-LoadsLink-clause-range c =
    rw c.link_led.ensures (link_in_range c.args.places.now c.args.f c.args.reply c.requires.base_fits c.requires.its_spare (omega arith))

pub returns-in-LoadsTaken-clause-range : goal.returns-in-LoadsTaken-clause-range
returns-in-LoadsTaken-clause-range c =
    rw c.taken_led.ensures (taken_in_range c.args.places.now c.args.f c.in-LoadsTaken.word c.args.reply c.requires.base_fits c.requires.its_spare (subst (IsStepInRange c.args.places.now c.args.f.spare) c.in-LoadsTaken.is c.requires.its_step))
