-- The law, by what the guard's world shows of such a life.
use Rattle.law_world.proofs.OfGuarded.ReadSlots.{heard_apart, heard_count, heard_finds, heard_keeper_rests, heard_session_rests, heard_within}
use Rattle.law_world.proofs.guard_reads.law_reads_slots.Goals as goal

pub returns-clause-finds : goal.returns-clause-finds
returns-clause-finds c = λ opening start list event opened. heard_finds opening start opened list event

pub returns-clause-within : goal.returns-clause-within
returns-clause-within c = λ opening start list event slot opened named. heard_within opening start opened list event slot named

pub returns-clause-count : goal.returns-clause-count
returns-clause-count c = λ opening start list opened. heard_count opening start opened list

pub returns-clause-apart : goal.returns-clause-apart
returns-clause-apart c = λ opening start later before it event slot opened going named others. heard_apart opening start opened later before it event slot going named others

pub returns-clause-session : goal.returns-clause-session
returns-clause-session c = λ opening start list session its opened there. heard_session_rests opening start opened list session its there

pub returns-clause-keeper : goal.returns-clause-keeper
returns-clause-keeper c = λ opening start list opened. heard_keeper_rests opening start opened list
