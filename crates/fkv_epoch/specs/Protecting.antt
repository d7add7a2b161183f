-- How a session becomes protected: its epoch word first, then what it goes by.
use Rattle.std.specs.Prelude.{ℕ}
use Rattle.fkv_plane.specs.declared.asks.Ask.{Ask}
use Rattle.fkv_plane.specs.declared.asks.Ask.TheVariants.{Load, Store, Done}
use Rattle.fkv_plane.specs.declared.places.SharedWord.TheVariants as one
use Rattle.fkv_plane.specs.declared.places.SessionWord.TheVariants as own
use Rattle.fkv_plane.specs.Places.{shared_place, session_place}
use Rattle.fkv_epoch.specs.declared.values.Seen.{Seen}
use Rattle.fkv_epoch.specs.declared.protecting.Protecting.{Protecting}
use Rattle.fkv_epoch.specs.declared.protecting.Protecting.TheVariants.{AtRest, LoadsEpoch, StoresEpoch, LoadsPhase, LoadsReadOnly, LoadsHead}
use Rattle.fkv_epoch.specs.Values.{seen}

pub record Protector : Type 0 where
  pub session : ℕ
  pub step : Protecting

-- what each state asks
unfoldable pub protect_ask : ℕ → Protecting → Ask Seen
protect_ask session AtRest = Done (seen 0 0 0)
protect_ask session LoadsEpoch = Load (shared_place one.Epoch)
protect_ask session (StoresEpoch epoch) = Store (session_place session own.Epoch) epoch
protect_ask session LoadsPhase = Load (shared_place one.Phase)
protect_ask session (LoadsReadOnly phase) = Load (shared_place one.ReadOnly)
protect_ask session (LoadsHead phase read_only) = Load (shared_place one.Head)

-- where the reply leads
unfoldable pub protect_next : Protecting → ℕ → Protecting
protect_next AtRest reply = AtRest
protect_next LoadsEpoch reply = StoresEpoch reply
protect_next (StoresEpoch epoch) reply = LoadsPhase
protect_next LoadsPhase reply = LoadsReadOnly reply
protect_next (LoadsReadOnly phase) reply = LoadsHead phase reply
protect_next (LoadsHead phase read_only) reply = AtRest

-- what is asked next: at the end the answer, and else what the next state asks
unfoldable pub protect_next_ask : ℕ → Protecting → ℕ → Ask Seen
protect_next_ask session (LoadsHead phase read_only) reply = Done (seen phase read_only reply)
protect_next_ask session step reply = protect_ask session (protect_next step reply)

-- how many asks it has left
unfoldable pub protect_asks_left : Protecting → ℕ
protect_asks_left AtRest = 0
protect_asks_left LoadsEpoch = 5
protect_asks_left (StoresEpoch epoch) = 4
protect_asks_left LoadsPhase = 3
protect_asks_left (LoadsReadOnly phase) = 2
protect_asks_left (LoadsHead phase read_only) = 1
