-- By the law of reads, of its own run.
use Rattle.std.specs.Prelude.{◌≡◌, Some}
use Rattle.fkv_session.specs.Reads.{AreReadsAnswered, IsAttemptOf, reads_ended}
use Rattle.fkv_session.specs.Replies.{op_called}
use Rattle.fkv_session.specs.SessionRun.{in_hand}
use Rattle.fkv_session.specs.declared.sessions.Sitting.TheVariants.{Attempts, Polls}
use Rattle.fkv_session.proofs.Shown.{run_attempted, run_called, run_reads}
use Rattle.fkv_world.specs.Opened.{life_told}
use Rattle.fkv_world.specs.OwnEvents.{session_events}
use Rattle.fkv_world.specs.World.{seat_at}
use Rattle.law_world.proofs.OfSessions.OwnRun.{of_run, opened_so, seated, to_run}
use Rattle.law_world.proofs.sessions.law_world_reads.Goals as goal

pub returns-clause-answers : goal.returns-clause-answers
returns-clause-answers c = λ opening events session first its became. of_run (λ s. AreReadsAnswered (reads_ended (seat_at opening.now session) first (session_events opening session events)) (life_told opening events session first) (in_hand s.step s.finished)) opening events session first its became (run_reads (seat_at opening.now session) first (session_events opening session events) (opened_so opening events session first its became))

pub returns-clause-called : goal.returns-clause-called
returns-clause-called c = λ opening events session first its has_shifted became attempts. of_run (λ s. op_called (seat_at opening.now session) first (session_events opening session events) ≡ Some s.attempt.pending.request.op) opening events session first its became (run_called (seat_at opening.now session) first (session_events opening session events) has_shifted (opened_so opening events session first its became) (to_run (λ s. s.step ≡ Attempts has_shifted) opening events session first its became attempts))

pub returns-clause-polled : goal.returns-clause-polled
returns-clause-polled c = λ opening events session first its index became polls. of_run (λ s. IsAttemptOf s.requests index s.attempt.pending) opening events session first its became (run_attempted (seat_at opening.now session) first (session_events opening session events) index (opened_so opening events session first its became) (seated opening events session first its became) (to_run (λ s. s.step ≡ Polls index) opening events session first its became polls))
