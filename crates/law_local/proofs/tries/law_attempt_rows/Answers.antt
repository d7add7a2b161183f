-- The law, by the rows of requests that wait and of attempts.
use Rattle.law_log.proofs.Shown.{run_held, log_steps}
use Rattle.law_log.specs.Ghosts.{ghost_run, log_after}
use Rattle.law_local.proofs.OfTries.AttemptGrows.{pending_grows, pending_later, attempt_grows}
use Rattle.law_local.proofs.OfTries.AttemptSteps.{attempt_begins, attempt_leads}
use Rattle.law_local.proofs.OfTries.Keeping.{older_kept_for}
use Rattle.law_local.proofs.OfTries.OwnEvents.{attempt_needs}
use Rattle.law_local.proofs.tries.law_attempt_rows.Goals as goal

pub returns-clause-waits : goal.returns-clause-waits
returns-clause-waits c = λ pending seen home m version opening events event opened enabled is_enabled keeps knows.
    let held = run_held home m version opening events opened enabled in
    pending_grows home m (ghost_run home opening events).log (log_after home (ghost_run home opening events).log event) pending seen held (log_steps home m (ghost_run home opening events) event held is_enabled).grows knows

pub returns-clause-later : goal.returns-clause-later
returns-clause-later c = pending_later

pub returns-clause-begins : goal.returns-clause-begins
returns-clause-begins c = attempt_begins

pub returns-clause-stay : goal.returns-clause-stay
returns-clause-stay c = λ a home m version opening events event opened enabled is_enabled keeps knows.
    let held = run_held home m version opening events opened enabled in
    attempt_grows home m (ghost_run home opening events).log (log_after home (ghost_run home opening events).log event) a held (log_steps home m (ghost_run home opening events) event held is_enabled).grows keeps knows

pub returns-clause-rest : goal.returns-clause-rest
returns-clause-rest c = λ a home m version opening events event opened enabled is_enabled older knows.
    let held = run_held home m version opening events opened enabled in
    let grows = (log_steps home m (ghost_run home opening events) event held is_enabled).grows in
    attempt_grows home m (ghost_run home opening events).log (log_after home (ghost_run home opening events).log event) a held grows
    (older_kept_for home m (ghost_run home opening events).log (log_after home (ghost_run home opening events).log event) a held grows older knows) knows

pub returns-clause-leads_on : goal.returns-clause-leads_on
returns-clause-leads_on c = attempt_leads

pub returns-clause-own : goal.returns-clause-own
returns-clause-own c = attempt_needs
