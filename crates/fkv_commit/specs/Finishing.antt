-- How a commit finishes once its manifest is written: each session's durable word becomes its point, and then the phase is rest.
use Rattle.std.specs.Prelude.{ℕ, ◌+◌, ◌<◌, nat_lt, if◌then◌else◌, List, slice_get, Option, Some, None, ⊤}
use Rattle.fkv_base.specs.Limits.{max_sessions}
use Rattle.fkv_base.specs.declared.numbers.Serial.{Serial}
use Rattle.fkv_base.specs.declared.numbers.Version.{Version}
use Rattle.fkv_base.specs.declared.phases.Phase.TheVariants.{Rest}
use Rattle.fkv_plane.specs.declared.asks.Ask.{Ask}
use Rattle.fkv_plane.specs.declared.asks.Ask.TheVariants.{Store, Done}
use Rattle.fkv_plane.specs.declared.places.SharedWord.TheVariants as one
use Rattle.fkv_plane.specs.declared.places.SessionWord.TheVariants as own
use Rattle.fkv_plane.specs.Places.{shared_place, session_place}
use Rattle.fkv_epoch.specs.Claiming.{phase_stored}
use Rattle.fkv_commit.specs.declared.finishing.FinishAnswer.{FinishAnswer}
use Rattle.fkv_commit.specs.declared.finishing.FinishAnswer.TheVariants.{Finished}
use Rattle.fkv_commit.specs.declared.finishing.Finishing.{Finishing}
use Rattle.fkv_commit.specs.declared.finishing.Finishing.TheVariants.{Ended, StoresDurable, StoresRest}
use Rattle.fkv_commit.specs.Commits.{version_after}

pub record FinishState : Type 0 where
  pub sessions : ℕ
  -- the commit's
  pub number : Version
  pub step : Finishing

abbrev pub IsFinishInRange : Finishing → Type 0
IsFinishInRange (Ended its) = ⊤
IsFinishInRange (StoresDurable session) = session < max_sessions
IsFinishInRange StoresRest = ⊤

-- the durable words from this session's on are stored, and then rest
unfoldable pub durable_from : ℕ → ℕ → Finishing
durable_from sessions session = if nat_lt session sessions then StoresDurable session else StoresRest

abbrev pub finish_begun : FinishState → Version → FinishState
finish_begun s number = record s { number = number; step = durable_from s.sessions 0 }

-- a session's point, 0 where it has none
abbrev pub point_of : Option Serial → ℕ
point_of None = 0
point_of (Some point) = point.0

-- what each state asks
unfoldable pub finishing_ask : List Serial → FinishState → Finishing → Ask FinishAnswer
finishing_ask points s (Ended its) = Done its
finishing_ask points s (StoresDurable session) = Store (session_place session own.Durable) (point_of (slice_get points session))
finishing_ask points s StoresRest = Store (shared_place one.Phase) (phase_stored Rest (version_after s.number))

abbrev pub finish_ask : List Serial → FinishState → Ask FinishAnswer
finish_ask points s = finishing_ask points s s.step

-- where the reply leads
unfoldable pub finishing_next : FinishState → Finishing → Finishing
finishing_next s (Ended its) = Ended its
finishing_next s (StoresDurable session) = durable_from s.sessions (session + 1)
finishing_next s StoresRest = Ended Finished

abbrev pub finish_next : FinishState → ℕ → FinishState
finish_next s reply = record s { step = finishing_next s s.step }
