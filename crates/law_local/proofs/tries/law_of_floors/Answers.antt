-- The law, by what a way and a key that reads as absent are at each moment.
use Rattle.law_log.proofs.Shown.{log_steps, run_held}
use Rattle.law_log.specs.Ghosts.{ghost_run, log_after}
use Rattle.law_local.specs.Tries.TryRows.{key_in}
use Rattle.law_local.proofs.OfTries.Floors.{absent_grows, absent_old, begins_live, below_is_absent, comes_live_grows, goes_by_floor}
use Rattle.law_local.proofs.OfTries.OnWay.{low_grows}
use Rattle.law_local.proofs.tries.law_of_floors.Goals as goal

pub returns-clause-begins : goal.returns-clause-begins
returns-clause-begins c = begins_live

pub returns-clause-ends : goal.returns-clause-ends
returns-clause-ends c = λ home log floor request from to low orderly fixed comes under.
    let finds = below_is_absent home log orderly floor fixed (key_in request) from to low comes under in
    (finds, absent_old home log orderly request from finds)

pub returns-clause-goes : goal.returns-clause-goes
returns-clause-goes c = λ home log floor key from at low said cell orderly fixed comes its other same. goes_by_floor home log orderly floor fixed key from at low said cell comes its other same

pub returns-clause-absent : goal.returns-clause-absent
returns-clause-absent c = λ key from home m version opening events event opened enabled is_enabled keeps knows.
    let held = run_held home m version opening events opened enabled in
    absent_grows home m (ghost_run home opening events).log (log_after home (ghost_run home opening events).log event) key from held (log_steps home m (ghost_run home opening events) event held is_enabled).grows knows

pub returns-clause-live : goal.returns-clause-live
returns-clause-live c = λ floor key from to low home m version opening events event opened enabled is_enabled keeps knows.
    let held = run_held home m version opening events opened enabled in
    let grows = (log_steps home m (ghost_run home opening events) event held is_enabled).grows in
    let log = (ghost_run home opening events).log in
    let after = log_after home (ghost_run home opening events).log event in
    (low_grows home m log after floor grows knows.0, comes_live_grows home m log after floor key from to low held grows knows.0 knows.1)
