-- The law, by what holds of each version at each moment.
use Rattle.law_log.proofs.LogSteps.{run_upto, run_in_order}
use Rattle.law_log.proofs.laws.law_versions_show_content.Goals as goal

pub returns-clause-content : goal.returns-clause-content
returns-clause-content c = λ home m version opening events opened enabled. (run_upto home m version opening events opened enabled).shows

pub returns-clause-legal : goal.returns-clause-legal
returns-clause-legal c = λ home m version opening events opened enabled. (run_upto home m version opening events opened enabled).legal

pub returns-clause-order : goal.returns-clause-order
returns-clause-order c = λ home m version opening events opened enabled. (run_in_order home m version opening events opened enabled).in_order
