-- By the law of requests, of its own run.
use Rattle.std.specs.Prelude.{◌≡◌, ◌-◌, ◌^◌, false, min}
use Rattle.fkv_session.specs.Asleep.{IsAsleep}
use Rattle.fkv_session.specs.Counted.{words_replied}
use Rattle.fkv_session.specs.Polls.{IsPollOf, attempted_in_poll}
use Rattle.fkv_session.specs.Refused.{before_call}
use Rattle.fkv_session.specs.Replies.{op_called}
use Rattle.fkv_session.specs.Tickets.{AreTicketsInTurn}
use Rattle.fkv_session.specs.Versions.{AreAsTaken, IsAttemptOfCall, IsAttemptOfRequest, IsVersion, versions_taken}
use Rattle.fkv_session.specs.declared.answers.Told.TheVariants.{Polled}
use Rattle.fkv_session.specs.declared.sessions.Sitting.TheVariants.{Attempts, Idle, Polls}
use Rattle.fkv_session.proofs.Shown.{run_asleep, run_call, run_counted, run_request, run_taken, run_tickets, run_version}
use Rattle.fkv_world.specs.Opened.{life_told}
use Rattle.fkv_world.specs.OwnEvents.{session_events}
use Rattle.fkv_world.specs.World.{seat_at}
use Rattle.law_world.proofs.OfSessions.OwnRun.{of_run, opened_so, polled_so, to_run}
use Rattle.law_world.proofs.sessions.law_world_requests.Goals as goal

pub returns-clause-tickets : goal.returns-clause-tickets
returns-clause-tickets c = λ opening events session first its became. of_run (λ s. AreTicketsInTurn s.ticket (life_told opening events session first)) opening events session first its became (run_tickets (seat_at opening.now session) first (session_events opening session events) (opened_so opening events session first its became))

pub returns-clause-versions : goal.returns-clause-versions
returns-clause-versions c = λ opening events session first its became. of_run (λ s. AreAsTaken (versions_taken (seat_at opening.now session) first (session_events opening session events)) s.requests) opening events session first its became (run_taken (seat_at opening.now session) first (session_events opening session events) (opened_so opening events session first its became))

pub returns-clause-version_fits : goal.returns-clause-version_fits
returns-clause-version_fits c = λ opening events session first its became fits. of_run (λ s. IsVersion s.seen.version.0) opening events session first its became (run_version (seat_at opening.now session) first (session_events opening session events) (opened_so opening events session first its became) fits)

pub returns-clause-at_calls : goal.returns-clause-at_calls
returns-clause-at_calls c = λ opening events session first its has_shifted became attempts. of_run (λ s. IsAttemptOfCall s (op_called (seat_at opening.now session) first (session_events opening session events)) s.attempt.pending) opening events session first its became (run_call (seat_at opening.now session) first (session_events opening session events) has_shifted (opened_so opening events session first its became) (to_run (λ s. s.step ≡ Attempts has_shifted) opening events session first its became attempts))

pub returns-clause-in_polls : goal.returns-clause-in_polls
returns-clause-in_polls c = λ opening events session first its index became polls. of_run (λ s. IsAttemptOfRequest s.requests index s.attempt.pending) opening events session first its became (run_request (seat_at opening.now session) first (session_events opening session events) index (opened_so opening events session first its became) (to_run (λ s. s.step ≡ Polls index) opening events session first its became polls))

pub returns-clause-counted : goal.returns-clause-counted
returns-clause-counted c = λ opening events session first its became. of_run (λ s. s.asks ≡ min (words_replied (seat_at opening.now session) first (session_events opening session events)) (2 ^ 64 - 1)) opening events session first its became (run_counted (seat_at opening.now session) first (session_events opening session events) (opened_so opening events session first its became))

pub returns-clause-asleep : goal.returns-clause-asleep
returns-clause-asleep c = λ opening events session first its became asleep. of_run (λ s. IsAsleep s.requests s.step) opening events session first its became (run_asleep (seat_at opening.now session) first (session_events opening session events) (opened_so opening events session first its became) (to_run (λ s. s.is_awake ≡ false) opening events session first its became asleep))

pub returns-clause-polls : goal.returns-clause-polls
returns-clause-polls c = λ opening events session first its event before left became newest calling ends. of_run (λ s. IsPollOf (before_call (seat_at opening.now session) first (session_events opening session events)).requests (attempted_in_poll (seat_at opening.now session) first (session_events opening session events)) s.finished s.requests left) opening events session first its became (polled_so (seat_at opening.now session) first (session_events opening session events) event before left newest (opened_so opening events session first its became) calling (to_run (λ s. s.step ≡ Idle (Polled left)) opening events session first its became ends))
