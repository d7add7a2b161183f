-- By the law of sessions, of its own run.
use Rattle.std.specs.Prelude.{◌≤◌}
use Rattle.fkv_session.specs.Accounts.{AreAccountedFor, AreInTurn, IsAnsweredOnce, RiseWithin, names_of}
use Rattle.fkv_session.specs.SessionRun.{in_hand}
use Rattle.fkv_session.proofs.Shown.{answered_once, run_holds}
use Rattle.fkv_world.specs.Opened.{life_told}
use Rattle.fkv_world.specs.OwnEvents.{session_events}
use Rattle.fkv_world.specs.World.{seat_at}
use Rattle.law_world.proofs.OfSessions.OwnRun.{of_run, opened_so, to_run}
use Rattle.law_world.proofs.sessions.law_world_sessions.Goals as goal

pub returns-clause-serials : goal.returns-clause-serials
returns-clause-serials c = λ opening events session first its became. of_run (λ s. AreInTurn first.serial s.serial (life_told opening events session first)) opening events session first its became ((run_holds (seat_at opening.now session) first (session_events opening session events) (opened_so opening events session first its became)).books.serials)

pub returns-clause-accounts : goal.returns-clause-accounts
returns-clause-accounts c = λ opening events session first its became. of_run (λ s. AreAccountedFor (life_told opening events session first) (names_of s.requests) (in_hand s.step s.finished)) opening events session first its became ((run_holds (seat_at opening.now session) first (session_events opening session events) (opened_so opening events session first its became)).books.accounts)

pub returns-clause-once : goal.returns-clause-once
returns-clause-once c = λ opening events session first its serial became above below. of_run (λ s. IsAnsweredOnce (life_told opening events session first) (names_of s.requests) (in_hand s.step s.finished) serial) opening events session first its became (answered_once _ _ _ _ _ serial (run_holds (seat_at opening.now session) first (session_events opening session events) (opened_so opening events session first its became)).books above (to_run (λ s. serial ≤ s.serial) opening events session first its became below))

pub returns-clause-order : goal.returns-clause-order
returns-clause-order c = λ opening events session first its became. of_run (λ s. RiseWithin first.serial s.serial (names_of s.requests)) opening events session first its became ((run_holds (seat_at opening.now session) first (session_events opening session events) (opened_so opening events session first its became)).books.rising)
