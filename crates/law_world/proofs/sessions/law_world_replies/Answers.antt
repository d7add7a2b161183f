-- By the law of replies, of its own run.
use Rattle.std.specs.Prelude.{◌≡◌, ◌<◌, ◌≤◌, ◌⊎◌, false}
use Rattle.fkv_session.specs.Accounts.{names_of}
use Rattle.fkv_session.specs.Replies.{AreOfTheirCalls, AreRepliesOfEffects, HasOneEffect, op_called, serials_taken}
use Rattle.fkv_session.specs.SessionRun.{in_hand}
use Rattle.fkv_session.specs.Sessions.{is_busy}
use Rattle.fkv_session.proofs.Shown.{run_none, run_once, run_own, run_replies}
use Rattle.fkv_world.specs.Opened.{life_effects, life_told}
use Rattle.fkv_world.specs.OwnEvents.{session_events}
use Rattle.fkv_world.specs.World.{seat_at}
use Rattle.law_world.proofs.OfSessions.OwnRun.{of_run, opened_so, to_run}
use Rattle.law_world.proofs.sessions.law_world_replies.Goals as goal

pub returns-clause-replies : goal.returns-clause-replies
returns-clause-replies c = λ opening events session first its became. of_run (λ s. AreRepliesOfEffects (life_effects opening events session first) (life_told opening events session first) (in_hand s.step s.finished) (is_busy s.step)) opening events session first its became (run_replies (seat_at opening.now session) first (session_events opening session events) (opened_so opening events session first its became))

pub returns-clause-once : goal.returns-clause-once
returns-clause-once c = λ opening events session first its serial became rests above below. of_run (λ s. HasOneEffect (life_effects opening events session first) (names_of s.requests) serial) opening events session first its became (run_once (seat_at opening.now session) first (session_events opening session events) serial (opened_so opening events session first its became) (to_run (λ s. is_busy s.step ≡ false) opening events session first its became rests) above (to_run (λ s. serial ≤ s.serial) opening events session first its became below))

pub returns-clause-no_other : goal.returns-clause-no_other
returns-clause-no_other c = λ opening events session first its serial became rests outside. run_none (seat_at opening.now session) first (session_events opening session events) serial (opened_so opening events session first its became) (to_run (λ s. is_busy s.step ≡ false) opening events session first its became rests) (to_run (λ s. (serial ≤ first.serial) ⊎ (s.serial < serial)) opening events session first its became outside)

pub returns-clause-operations : goal.returns-clause-operations
returns-clause-operations c = λ opening events session first its became. of_run (λ s. AreOfTheirCalls session s (op_called (seat_at opening.now session) first (session_events opening session events)) (serials_taken (seat_at opening.now session) first (session_events opening session events)) (life_effects opening events session first)) opening events session first its became (run_own (seat_at opening.now session) first (session_events opening session events) (opened_so opening events session first its became))
