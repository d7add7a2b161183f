-- The law, by the list of a life's events with what its device holds.
use Rattle.law_world.proofs.OfGuarded.Reads.{heard_as_held, held_list, is_held}
use Rattle.law_world.proofs.guard_reads.law_reads.Goals as goal

pub returns-clause-same : goal.returns-clause-same
returns-clause-same c = λ opening list held. heard_as_held opening list held

pub returns-clause-each : goal.returns-clause-each
returns-clause-each c = λ opening events. (held_list opening events, is_held opening events)
