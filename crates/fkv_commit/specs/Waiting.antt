-- How a commit waits until it may write its manifest: until the epoch of its last arming is safe, so that all have seen wait-flush, and the
-- log is flushed up to the commit's end.
use Rattle.std.specs.Prelude.{ℕ, nat_le, if◌then◌else◌}
use Rattle.fkv_base.specs.declared.numbers.Addr.{Addr}
use Rattle.fkv_plane.specs.declared.asks.Ask.{Ask}
use Rattle.fkv_plane.specs.declared.asks.Ask.TheVariants.{Load, Done}
use Rattle.fkv_plane.specs.declared.places.SharedWord.TheVariants as one
use Rattle.fkv_plane.specs.Places.{shared_place}
use Rattle.fkv_commit.specs.declared.waiting.WaitAnswer.{WaitAnswer}
use Rattle.fkv_commit.specs.declared.waiting.WaitAnswer.TheVariants.{NotYet, Flushed}
use Rattle.fkv_commit.specs.declared.waiting.Waiting.{Waiting}
use Rattle.fkv_commit.specs.declared.waiting.Waiting.TheVariants.{Ended, LoadsSafe, LoadsFlushed}

pub record WaitState : Type 0 where
  -- where the commit ends
  pub end : Addr
  -- the epoch of its last arming
  pub epoch : ℕ
  pub step : Waiting

abbrev pub wait_begun : Addr → ℕ → WaitState
wait_begun end epoch = record { end = end; epoch = epoch; step = LoadsSafe }

-- what each state asks
unfoldable pub waiting_ask : Waiting → Ask WaitAnswer
waiting_ask (Ended its) = Done its
waiting_ask LoadsSafe = Load (shared_place one.SafeEpoch)
waiting_ask LoadsFlushed = Load (shared_place one.Flushed)

abbrev pub wait_ask : WaitState → Ask WaitAnswer
wait_ask s = waiting_ask s.step

-- where the reply leads: flushed is loaded only where the epoch is safe
unfoldable pub waiting_next : Addr → ℕ → Waiting → ℕ → Waiting
waiting_next end epoch (Ended its) reply = Ended its
waiting_next end epoch LoadsSafe reply = if nat_le epoch reply then LoadsFlushed else Ended NotYet
waiting_next end epoch LoadsFlushed reply = if nat_le end.0 reply then Ended Flushed else Ended NotYet

abbrev pub wait_next : WaitState → ℕ → WaitState
wait_next s reply = record s { step = waiting_next s.end s.epoch s.step reply }
