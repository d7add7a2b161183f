-- By the law of latches, of its own run.
use Rattle.std.specs.Prelude.{◌≡◌, ◌+◌, false}
use Rattle.fkv_latch.specs.Latching.{one_share}
use Rattle.fkv_plane.specs.declared.asks.Ask.TheVariants.{Add}
use Rattle.fkv_session.specs.Sessions.{is_busy, session_ask, session_next}
use Rattle.fkv_session.specs.Shares.{OnlyUpdatesShare, shares_added, shares_dropped, sharing}
use Rattle.fkv_session.proofs.Shown.{run_accounts, run_updates}
use Rattle.fkv_world.specs.OwnEvents.{session_events}
use Rattle.fkv_world.specs.World.{seat_at}
use Rattle.law_world.proofs.OfSessions.OwnRun.{all_share, gives_back, of_run, opened_so, to_run}
use Rattle.std.specs.Prelude.{◌-◌, ◌^◌}
use Rattle.law_world.proofs.sessions.law_world_latches.Goals as goal

pub returns-clause-updates : goal.returns-clause-updates
returns-clause-updates c = λ opening events session first its became buckets. of_run (λ s. OnlyUpdatesShare s.requests) opening events session first its became (run_updates (seat_at opening.now session) first (session_events opening session events) (opened_so opening events session first its became) buckets)

pub returns-clause-accounts : goal.returns-clause-accounts
returns-clause-accounts c = λ opening events session first its place became buckets rests. of_run (λ s. shares_added (seat_at opening.now session) first (session_events opening session events) place ≡ shares_dropped (seat_at opening.now session) first (session_events opening session events) place + sharing (seat_at opening.now session) place s.requests) opening events session first its became (run_accounts (seat_at opening.now session) first (session_events opening session events) place (opened_so opening events session first its became) buckets (to_run (λ s. is_busy s.step ≡ false) opening events session first its became rests))

pub returns-clause-gives_back : goal.returns-clause-gives_back
returns-clause-gives_back c = λ opening events session first its place reply became buckets adds exclusive. of_run (λ s. session_ask (seat_at opening.now session) (session_next (seat_at opening.now session) s reply) ≡ Add place (2 ^ 64 - one_share)) opening events session first its became (gives_back (seat_at opening.now session) first (session_events opening session events) place reply (opened_so opening events session first its became) buckets (to_run (λ s. session_ask (seat_at opening.now session) s ≡ Add place one_share) opening events session first its became adds) exclusive)

pub returns-clause-prepare : goal.returns-clause-prepare
returns-clause-prepare c = λ opening later before session first was its became became_later buckets idle other none rests prepare. all_share opening later before session first was its became became_later buckets idle other none rests prepare
