-- How a session leaves: one store.
use Rattle.std.specs.Prelude.{ℕ}
use Rattle.fkv_plane.specs.declared.asks.Ask.{Ask}
use Rattle.fkv_plane.specs.declared.asks.Ask.TheVariants.{Store, Done}
use Rattle.fkv_plane.specs.declared.places.SessionWord.TheVariants as own
use Rattle.fkv_plane.specs.Places.{session_place}
use Rattle.fkv_epoch.specs.declared.leaving.Leaving.{Leaving}
use Rattle.fkv_epoch.specs.declared.leaving.Leaving.TheVariants.{AtRest, StoresZero}

pub record Leaver : Type 0 where
  pub session : ℕ
  pub step : Leaving

-- what each state asks
unfoldable pub leave_ask : ℕ → Leaving → Ask (Unit {0})
leave_ask session AtRest = Done tt
leave_ask session StoresZero = Store (session_place session own.Epoch) 0

-- where the reply leads
unfoldable pub leave_next : Leaving → Leaving
leave_next AtRest = AtRest
leave_next StoresZero = AtRest

-- how many asks it has left
unfoldable pub leave_asks_left : Leaving → ℕ
leave_asks_left AtRest = 0
leave_asks_left StoresZero = 1
