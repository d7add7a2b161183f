-- The law, by what the guard's world shows of such a life.
use Rattle.law_world.proofs.OfGuarded.ReadSlots.{heard_keeper_place, heard_session_place}
use Rattle.law_world.proofs.guard_reads.law_reads_places.Goals as goal

pub returns-clause-session : goal.returns-clause-session
returns-clause-session c = λ opening start list session place its opened there named. heard_session_place opening start opened list session place its there named

pub returns-clause-keeper : goal.returns-clause-keeper
returns-clause-keeper c = λ opening start list place opened few named. heard_keeper_place opening start opened list place few named
