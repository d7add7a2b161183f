-- The law, by what holds of log, trace and reads at each moment.
use Rattle.law_log.proofs.Sound.{run_sound}
use Rattle.law_log.proofs.laws.law_calls_in_order.Goals as goal

pub returns-clause-orders : goal.returns-clause-orders
returns-clause-orders c = λ home m version opening events opened enabled. (run_sound home m version opening events opened enabled).orders

pub returns-clause-fresh : goal.returns-clause-fresh
returns-clause-fresh c = λ home m version opening events opened enabled. (run_sound home m version opening events opened enabled).fresh
