-- The law, by what holds of a log at each moment.
use Rattle.law_log.proofs.LogSteps.{run_held}
use Rattle.law_log.proofs.laws.law_chains_fall.Goals as goal

pub returns-clause-fall : goal.returns-clause-fall
returns-clause-fall c = λ home m version opening events opened enabled h. let held = run_held home m version opening events opened enabled in (held.chains.linked h, held.falls h)

pub returns-clause-newest : goal.returns-clause-newest
returns-clause-newest c = λ home m version opening events opened enabled. (run_held home m version opening events opened enabled).newest
