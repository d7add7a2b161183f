-- The law, by the rows of walks.
use Rattle.law_log.proofs.Shown.{run_held, log_steps}
use Rattle.law_log.specs.Ghosts.{ghost_run, log_after}
use Rattle.law_local.proofs.OfTries.WalkBegins.{walk_begins}
use Rattle.law_local.proofs.OfTries.WalkRows.{walk_grows, walk_leads, walk_tells}
use Rattle.law_local.proofs.tries.law_walk_rows.Goals as goal

pub returns-clause-stay : goal.returns-clause-stay
returns-clause-stay c = λ w home m version opening events event opened enabled is_enabled keeps knows.
    let held = run_held home m version opening events opened enabled in
    walk_grows home m (ghost_run home opening events).log (log_after home (ghost_run home opening events).log event) w held (log_steps home m (ghost_run home opening events) event held is_enabled).grows knows

pub returns-clause-leads_on : goal.returns-clause-leads_on
returns-clause-leads_on c = walk_leads

pub returns-clause-tells : goal.returns-clause-tells
returns-clause-tells c = walk_tells

pub returns-clause-begins : goal.returns-clause-begins
returns-clause-begins c = walk_begins
