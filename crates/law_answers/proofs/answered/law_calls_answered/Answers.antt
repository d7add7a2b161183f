-- The law, event by event.
use Rattle.law_answers.proofs.OfAnswered.Moved.{still_in_hand}
use Rattle.law_answers.proofs.OfAnswered.OneEvent.{its_answer, none_came}
use Rattle.law_answers.proofs.answered.law_calls_answered.Goals as goal

pub returns-clause-answered : goal.returns-clause-answered
returns-clause-answered c = λ w event actor busy alive over. its_answer w event actor busy alive over

pub returns-clause-goes_on : goal.returns-clause-goes_on
returns-clause-goes_on c = λ w event actor busy alive same. none_came w event actor busy alive same

pub returns-clause-moves : goal.returns-clause-moves
returns-clause-moves c = λ w actor moves busy same. still_in_hand actor w moves busy same
