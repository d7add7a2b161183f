-- How a protected session refreshes: what it goes by first, its epoch word last.
use Rattle.std.specs.Prelude.{ℕ}
use Rattle.fkv_plane.specs.declared.asks.Ask.{Ask}
use Rattle.fkv_plane.specs.declared.asks.Ask.TheVariants.{Load, Store, Done}
use Rattle.fkv_plane.specs.declared.places.SharedWord.TheVariants as one
use Rattle.fkv_plane.specs.declared.places.SessionWord.TheVariants as own
use Rattle.fkv_plane.specs.Places.{shared_place, session_place}
use Rattle.fkv_epoch.specs.declared.refreshing.RefreshAnswer.{RefreshAnswer}
use Rattle.fkv_epoch.specs.declared.refreshing.RefreshAnswer.TheVariants.{Loaded, Stored}
use Rattle.fkv_epoch.specs.declared.refreshing.Refreshing.{Refreshing}
use Rattle.fkv_epoch.specs.declared.refreshing.Refreshing.TheVariants.{AtRest, LoadsEpoch, LoadsPhase, LoadsReadOnly, LoadsHead, HasLoaded, StoresEpoch}
use Rattle.fkv_epoch.specs.Values.{seen}

pub record Refresher : Type 0 where
  pub session : ℕ
  pub step : Refreshing

-- what each state asks
unfoldable pub refresh_ask : ℕ → Refreshing → Ask RefreshAnswer
refresh_ask session AtRest = Done Stored
refresh_ask session LoadsEpoch = Load (shared_place one.Epoch)
refresh_ask session (LoadsPhase epoch) = Load (shared_place one.Phase)
refresh_ask session (LoadsReadOnly epoch phase) = Load (shared_place one.ReadOnly)
refresh_ask session (LoadsHead epoch phase read_only) = Load (shared_place one.Head)
refresh_ask session (HasLoaded epoch values) = Done (Loaded values)
refresh_ask session (StoresEpoch epoch) = Store (session_place session own.Epoch) epoch

-- where the reply leads
unfoldable pub refresh_next : Refreshing → ℕ → Refreshing
refresh_next AtRest reply = AtRest
refresh_next LoadsEpoch reply = LoadsPhase reply
refresh_next (LoadsPhase epoch) reply = LoadsReadOnly epoch reply
refresh_next (LoadsReadOnly epoch phase) reply = LoadsHead epoch phase reply
refresh_next (LoadsHead epoch phase read_only) reply = HasLoaded epoch (seen phase read_only reply)
refresh_next (HasLoaded epoch values) reply = HasLoaded epoch values
refresh_next (StoresEpoch epoch) reply = AtRest

-- where it goes on once the session has taken up what it has seen
unfoldable pub refresh_finish : Refreshing → Refreshing
refresh_finish (HasLoaded epoch values) = StoresEpoch epoch
refresh_finish step = step

-- how many asks it has left until it ends or waits for its session
unfoldable pub refresh_asks_left : Refreshing → ℕ
refresh_asks_left AtRest = 0
refresh_asks_left LoadsEpoch = 4
refresh_asks_left (LoadsPhase epoch) = 3
refresh_asks_left (LoadsReadOnly epoch phase) = 2
refresh_asks_left (LoadsHead epoch phase read_only) = 1
refresh_asks_left (HasLoaded epoch values) = 0
refresh_asks_left (StoresEpoch epoch) = 1

-- how many come later, once its session lets it go on
unfoldable pub refresh_asks_later : Refreshing → ℕ
refresh_asks_later AtRest = 0
refresh_asks_later (StoresEpoch epoch) = 0
refresh_asks_later step = 1
