use Rattle.fkv_opening.proofs.Agreeing.{store_alike, fault_alike, flip}
use Rattle.fkv_opening.proofs.laws.law_opens_alike.Goals as goal

pub returns-clause-store : goal.returns-clause-store
returns-clause-store c = λ image other opened same store. store_alike image other same c.law_spellings_apart.ensures.records opened store

pub returns-clause-fault : goal.returns-clause-fault
returns-clause-fault c = λ image other why same found. fault_alike image other same c.law_spellings_apart.ensures.records why found

pub returns-clause-turned : goal.returns-clause-turned
returns-clause-turned c = flip
