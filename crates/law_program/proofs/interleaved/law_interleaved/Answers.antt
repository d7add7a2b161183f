-- By each beat of the engine.
use Rattle.law_program.proofs.OfPlayedCalls.Interleaved.{finishes_go_on, groups_go_on, queues_fit, quiet_shown}
use Rattle.law_program.proofs.OfPlayedCalls.Led.{engine_leads}
use Rattle.law_program.proofs.interleaved.law_interleaved.Goals as goal

pub returns-clause-groups : goal.returns-clause-groups
returns-clause-groups g c = λ all. groups_go_on _ _ _ (engine_leads _ _ _ _ _ _ _ all)

pub returns-clause-finishes : goal.returns-clause-finishes
returns-clause-finishes g c = λ all. finishes_go_on _ _ _ (engine_leads _ _ _ _ _ _ _ all)

pub returns-clause-quiet : goal.returns-clause-quiet
returns-clause-quiet g c = quiet_shown _ _

pub returns-clause-queues : goal.returns-clause-queues
returns-clause-queues g c = queues_fit
