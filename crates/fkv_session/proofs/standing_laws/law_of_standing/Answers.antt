-- Where two sessions stand alike, by each step, and over a run.
use Rattle.fkv_session.proofs.StandAlike.{attempted_same, begun_same, given_same, next_same, same_ask, same_lasting}
use Rattle.fkv_session.proofs.AnswerAlike.{answered_alike}
use Rattle.fkv_session.proofs.standing_laws.law_of_standing.Goals as goal

pub returns-clause-begins : goal.returns-clause-begins
returns-clause-begins c = begun_same

pub returns-clause-operations : goal.returns-clause-operations
returns-clause-operations c = attempted_same

pub returns-clause-asks : goal.returns-clause-asks
returns-clause-asks c = same_ask

pub returns-clause-replies : goal.returns-clause-replies
returns-clause-replies c = next_same

pub returns-clause-actions : goal.returns-clause-actions
returns-clause-actions c = given_same

pub returns-clause-lasts : goal.returns-clause-lasts
returns-clause-lasts c = same_lasting

pub returns-clause-answers : goal.returns-clause-answers
returns-clause-answers c = answered_alike
