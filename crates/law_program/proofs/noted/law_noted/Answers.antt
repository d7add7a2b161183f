-- By each beat of the engine.
use Rattle.law_program.proofs.OfPlayedCalls.Led.{engine_leads}
use Rattle.law_program.proofs.OfPlayedCalls.NotedGroups.{calls_idle, finishes_noted, groups_noted}
use Rattle.law_program.proofs.noted.law_noted.Goals as goal

pub returns-clause-groups : goal.returns-clause-groups
returns-clause-groups g c = λ all. groups_noted _ _ _ (engine_leads _ _ _ _ _ _ _ all) c.law_effects_told.ensures.behind c.law_guard_opens.ensures

pub returns-clause-finishes : goal.returns-clause-finishes
returns-clause-finishes g c = λ all. finishes_noted _ _ _ (engine_leads _ _ _ _ _ _ _ all) c.law_effects_told.ensures.behind c.law_guard_opens.ensures

pub returns-clause-queues : goal.returns-clause-queues
returns-clause-queues g c = calls_idle
