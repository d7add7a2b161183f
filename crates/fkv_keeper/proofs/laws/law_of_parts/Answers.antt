-- The law, by what one event begins and tells.
use Rattle.fkv_keeper.proofs.PartMoves.{each_part}
use Rattle.fkv_keeper.proofs.PointsFound.{run_found, has_found}
use Rattle.fkv_keeper.proofs.laws.law_of_parts.Goals as goal

pub returns-clause-begins : goal.returns-clause-begins
returns-clause-begins c = λ shape p s event. (each_part shape p s event).begins

pub returns-clause-knows : goal.returns-clause-knows
returns-clause-knows c = λ shape p s event. (each_part shape p s event).knows

pub returns-clause-found : goal.returns-clause-found
returns-clause-found c = λ shape p opening events opened. has_found _ _ (run_found shape p opening events opened)

pub returns-clause-waits : goal.returns-clause-waits
returns-clause-waits c = λ shape p opening events opened now. (run_found shape p opening events opened).waiting now
