-- The keeper and the device.
use Rattle.fkv_world.proofs.Shown.{asks_while_done, failed_broken, not_done_broken}
use Rattle.law_world.proofs.runs.law_of_the_device.Goals as goal

pub returns-clause-asks : goal.returns-clause-asks
returns-clause-asks c = λ opening events opened asks. asks_while_done opening events opened asks

pub returns-clause-broken : goal.returns-clause-broken
returns-clause-broken c = λ opening events opened some. not_done_broken opening events opened some

pub returns-clause-failed : goal.returns-clause-failed
returns-clause-failed c = λ opening events opened failed. failed_broken opening events opened failed
