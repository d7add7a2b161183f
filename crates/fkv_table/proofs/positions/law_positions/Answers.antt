-- The law, by the place of each position.
use Rattle.fkv_table.proofs.Laid.{apart, below, laid_found, laid_set}
use Rattle.fkv_table.proofs.positions.law_positions.Goals as goal

pub returns-clause-apart : goal.returns-clause-apart
returns-clause-apart c = apart

pub returns-clause-below : goal.returns-clause-below
returns-clause-below c = below

pub returns-clause-found : goal.returns-clause-found
returns-clause-found c = laid_found

pub returns-clause-changed : goal.returns-clause-changed
returns-clause-changed c = laid_set
