-- The law, by the events of a try's steps, which are enabled.
use Rattle.law_local.proofs.OfTries.Changes.{reserve_enabled, swap_enabled, cas_enabled}
use Rattle.law_local.proofs.tries.law_try_enabled.Goals as goal

pub returns-clause-reserves : goal.returns-clause-reserves
returns-clause-reserves c = reserve_enabled

pub returns-clause-swaps : goal.returns-clause-swaps
returns-clause-swaps c = swap_enabled

pub returns-clause-cases : goal.returns-clause-cases
returns-clause-cases c = cas_enabled
