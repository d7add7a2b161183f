use Rattle.fkv_newest.proofs.Faultless.{told_alike, faults_alike}
use Rattle.fkv_newest.proofs.laws.law_read_alike.Goals as goal

pub returns-clause-told : goal.returns-clause-told
returns-clause-told c = λ image other n same told. told_alike image other same n told

pub returns-clause-faults : goal.returns-clause-faults
returns-clause-faults c = λ image other why same found. faults_alike image other same why found
