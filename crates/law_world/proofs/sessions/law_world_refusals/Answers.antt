-- By the law of refusals, of its own run.
use Rattle.std.specs.Prelude.{◌≡◌}
use Rattle.fkv_session.specs.Refused.{IsRefusal, before_call, has_caught_up}
use Rattle.fkv_session.specs.declared.answers.Told.TheVariants.{Refused}
use Rattle.fkv_session.specs.declared.sessions.Sitting.TheVariants.{Idle}
use Rattle.fkv_session.proofs.Shown.{begun_caused, begun_refused, begun_whole, run_refusal}
use Rattle.fkv_world.specs.OwnEvents.{session_events}
use Rattle.fkv_world.specs.World.{seat_at}
use Rattle.law_world.proofs.OfSessions.OwnRun.{of_run, opened_so, to_run}
use Rattle.law_world.proofs.sessions.law_world_refusals.Goals as goal

pub returns-clause-at_once : goal.returns-clause-at_once
returns-clause-at_once c = λ opening events session first its call why became. begun_whole (seat_at opening.now session) its call why

pub returns-clause-later : goal.returns-clause-later
returns-clause-later c = λ opening events session first its why became refused. of_run (λ s. IsRefusal (before_call (seat_at opening.now session) first (session_events opening session events)) s (has_caught_up (seat_at opening.now session) first (session_events opening session events))) opening events session first its became (run_refusal (seat_at opening.now session) first (session_events opening session events) why (opened_so opening events session first its became) (to_run (λ s. s.step ≡ Idle (Refused why)) opening events session first its became refused))

pub returns-clause-cause : goal.returns-clause-cause
returns-clause-cause c = λ opening events session first its call why became refused. begun_caused (seat_at opening.now session) its call why refused

pub returns-clause-refused : goal.returns-clause-refused
returns-clause-refused c = λ opening events session first its call why became cause. begun_refused (seat_at opening.now session) its call why cause
