-- The law, by what each session goes by.
use Rattle.law_opening.proofs.OfChanges.Falls.{life_chains_fall}
use Rattle.law_opening.proofs.OfChanges.Life.{life_holds}
use Rattle.law_opening.proofs.OfChanges.LifeEvents.{life_headers, life_low}
use Rattle.law_opening.proofs.OfChanges.LifeLogs.{life_linked}
use Rattle.law_opening.proofs.published.law_changes_published.Goals as goal

pub returns-clause-published : goal.returns-clause-published
returns-clause-published c = λ opening start lists ghosts events begins. (life_holds opening start lists ghosts events begins).published

pub returns-clause-linked : goal.returns-clause-linked
returns-clause-linked c = λ opening start lists ghosts events begins. life_linked opening start lists ghosts events begins

pub returns-clause-falls : goal.returns-clause-falls
returns-clause-falls c = λ opening start lists ghosts events begins falls. life_chains_fall opening start lists ghosts events begins falls

pub returns-clause-headers : goal.returns-clause-headers
returns-clause-headers c = λ opening start lists ghosts events begins. life_headers opening start lists ghosts begins events

pub returns-clause-old : goal.returns-clause-old
returns-clause-old c = λ opening start lists ghosts events a begins low. life_low opening start lists ghosts events a begins low
