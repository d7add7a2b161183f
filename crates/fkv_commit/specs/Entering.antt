-- How a commit goes on to wait-pending: a drain slot is held, and wait-pending is deferred until all have seen in-progress.
use Rattle.std.specs.Prelude.{ℕ}
use Rattle.fkv_base.specs.declared.numbers.Version.{Version}
use Rattle.fkv_base.specs.declared.phases.Phase.TheVariants.{WaitPending}
use Rattle.fkv_plane.specs.declared.asks.Ask.{Ask}
use Rattle.fkv_plane.specs.declared.asks.Ask.TheVariants.{Done}
use Rattle.fkv_plane.specs.Passing.{passed}
use Rattle.fkv_commit.specs.declared.deferring.Deferred.TheVariants.{EntersPhase}
use Rattle.fkv_commit.specs.declared.deferring.DeferAnswer.{DeferAnswer}
use Rattle.fkv_commit.specs.declared.deferring.DeferAnswer.TheVariants.{Held, Spent, Armed}
use Rattle.fkv_commit.specs.declared.entering.EnterAnswer.{EnterAnswer}
use Rattle.fkv_commit.specs.declared.entering.EnterAnswer.TheVariants.{Idle, Entered, DrainFull, EpochsSpent}
use Rattle.fkv_commit.specs.declared.entering.Entering.{Entering}
use Rattle.fkv_commit.specs.declared.entering.Entering.TheVariants.{Ended, Seeks, Defers}
use Rattle.fkv_commit.specs.Commits.{version_after}
use Rattle.fkv_commit.specs.Deferring.{DeferState, defer_begun, defer_ask, defer_next, defer_on}

pub record EnterState : Type 0 where
  -- the commit's
  pub number : Version
  pub defer : DeferState
  pub step : Entering

abbrev pub enter_begun : EnterState → Version → EnterState
enter_begun s number = record s { number = number; defer = defer_begun s.defer; step = Seeks }

-- what each state asks
unfoldable pub entering_ask : EnterState → Entering → Ask EnterAnswer
entering_ask s (Ended its) = Done its
entering_ask s Seeks = passed (defer_ask s.defer) Idle
entering_ask s Defers = passed (defer_ask s.defer) Idle

abbrev pub enter_ask : EnterState → Ask EnterAnswer
enter_ask s = entering_ask s s.step

-- by what is asked next as a slot is sought
unfoldable pub seek_led : EnterState → Ask DeferAnswer → EnterState
seek_led s (Done Held) = record s { defer = defer_on s.defer (EntersPhase WaitPending (version_after s.number)); step = Defers }
seek_led s (Done Spent) = record s { step = Ended EpochsSpent }
seek_led s (Done its) = record s { step = Ended DrainFull }
seek_led s ask = s

-- by what is asked next as wait-pending is deferred
unfoldable pub defer_led : EnterState → Ask DeferAnswer → EnterState
defer_led s (Done (Armed epoch)) = record s { step = Ended Entered }
defer_led s (Done its) = record s { step = Ended Idle }
defer_led s ask = s

-- where the reply leads
unfoldable pub entering_next : EnterState → Entering → ℕ → EnterState
entering_next s (Ended its) reply = s
entering_next s Seeks reply = seek_led (record s { defer = defer_next s.defer reply }) (defer_ask (defer_next s.defer reply))
entering_next s Defers reply = defer_led (record s { defer = defer_next s.defer reply }) (defer_ask (defer_next s.defer reply))

abbrev pub enter_next : EnterState → ℕ → EnterState
enter_next s reply = entering_next s s.step reply
