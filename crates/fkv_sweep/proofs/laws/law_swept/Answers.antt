-- Over each run.
use Rattle.fkv_sweep.proofs.Sound.{all_swept, reads_above, loads_alone}
use Rattle.fkv_sweep.proofs.laws.law_swept.Goals as goal

pub returns-clause-swept : goal.returns-clause-swept
returns-clause-swept c = all_swept

pub returns-clause-above : goal.returns-clause-above
returns-clause-above c = reads_above

pub returns-clause-loads : goal.returns-clause-loads
returns-clause-loads c = loads_alone
