use Rattle.fkv_posted.specs.Outcomes.{calls_in}
use Rattle.fkv_posted.proofs.Calling.{are_of_device}
use Rattle.fkv_posted.proofs.laws.law_of_outcomes.Goals as goal

pub returns : goal.returns
returns c = are_of_device c.args.p.now.log.opened (calls_in c.args.p.now.log.outcomes)
