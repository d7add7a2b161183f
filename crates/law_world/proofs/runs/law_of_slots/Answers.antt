-- The machine that put an action arms it, and the one that took an action runs it.
use Rattle.law_world.proofs.OfRuns.InHand.Lives.{keeper_in_hand, session_in_hand}
use Rattle.law_world.proofs.runs.law_of_slots.Goals as goal

pub returns-clause-session : goal.returns-clause-session
returns-clause-session c = λ w session slot its after alive found none named is. session_in_hand w session slot its after alive found none named is

pub returns-clause-keeper : goal.returns-clause-keeper
returns-clause-keeper c = λ opening events granted done slot opened alive named. keeper_in_hand opening events granted done slot opened alive named
