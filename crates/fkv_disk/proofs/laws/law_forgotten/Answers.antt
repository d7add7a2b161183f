use Rattle.fkv_disk.proofs.Forgotten.{forgotten_reads, forgotten_leaves}
use Rattle.fkv_disk.proofs.laws.law_forgotten.Goals as goal

pub returns-clause-reads : goal.returns-clause-reads
returns-clause-reads c = forgotten_reads

pub returns-clause-leaves : goal.returns-clause-leaves
returns-clause-leaves c = forgotten_leaves
