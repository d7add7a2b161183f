-- What an event leaves of the words and of the actions.
use Rattle.law_world.proofs.OfRuns.OneWord.{keeper_writes, one_slot, one_word, session_writes}
use Rattle.law_world.proofs.OfRuns.SlotCount.{slots_stay}
use Rattle.law_world.proofs.runs.law_of_one_word.Goals as goal

pub returns-clause-word : goal.returns-clause-word
returns-clause-word c = λ w event place other. one_word w event place other

pub returns-clause-slot : goal.returns-clause-slot
returns-clause-slot c = λ w event slot other. one_slot w event slot other

pub returns-clause-slots : goal.returns-clause-slots
returns-clause-slots c = λ opening events. slots_stay opening events

pub returns-clause-session : goal.returns-clause-session
returns-clause-session c = λ w session its alive found. session_writes w session its alive found

pub returns-clause-keeper : goal.returns-clause-keeper
returns-clause-keeper c = λ w granted done alive. keeper_writes w granted done alive
