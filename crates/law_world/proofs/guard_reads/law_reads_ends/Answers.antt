-- The law, by the runs of the machines.
use Rattle.law_world.proofs.OfGuarded.ReadSlots.{heard_ended, heard_keeper_ended}
use Rattle.law_world.proofs.guard_reads.law_reads_ends.Goals as goal

pub returns-clause-session : goal.returns-clause-session
returns-clause-session c = λ opening start list session its opened there none. heard_ended opening start opened list session its there none

pub returns-clause-keeper : goal.returns-clause-keeper
returns-clause-keeper c = λ opening start list opened none. heard_keeper_ended opening start opened list none
