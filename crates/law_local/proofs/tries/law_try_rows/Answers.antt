-- The law, by the rows of tries.
use Rattle.law_log.proofs.Shown.{run_held, log_steps}
use Rattle.law_log.specs.Ghosts.{ghost_run, log_after}
use Rattle.law_local.proofs.OfTries.TryBegins.{try_begins}
use Rattle.law_local.proofs.OfTries.TryGrows.{request_later, try_grows}
use Rattle.law_local.proofs.OfTries.TrySteps.{try_leads}
use Rattle.law_local.proofs.tries.law_try_rows.Goals as goal

pub returns-clause-later : goal.returns-clause-later
returns-clause-later c = request_later

pub returns-clause-begins : goal.returns-clause-begins
returns-clause-begins c = try_begins

pub returns-clause-stay : goal.returns-clause-stay
returns-clause-stay c = λ t home m version opening events event opened enabled is_enabled keeps knows.
    let held = run_held home m version opening events opened enabled in
    try_grows home m (ghost_run home opening events).log (log_after home (ghost_run home opening events).log event) t held (log_steps home m (ghost_run home opening events) event held is_enabled).grows keeps knows

pub returns-clause-leads_on : goal.returns-clause-leads_on
returns-clause-leads_on c = try_leads
