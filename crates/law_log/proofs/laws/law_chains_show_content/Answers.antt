-- The law, by what holds of a log at each moment.
use Rattle.law_log.proofs.LogSteps.{run_held}
use Rattle.law_log.proofs.laws.law_chains_show_content.Goals as goal

pub returns-clause-content : goal.returns-clause-content
returns-clause-content c = λ home m version opening events opened enabled. (run_held home m version opening events opened enabled).shows

pub returns-clause-legal : goal.returns-clause-legal
returns-clause-legal c = λ home m version opening events opened enabled. (run_held home m version opening events opened enabled).legal
