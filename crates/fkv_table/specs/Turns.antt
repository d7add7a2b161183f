-- What comes next of a turn that is made in pieces, and whether it has ended because the device failed.
use Rattle.std.specs.Prelude.{◌≡◌, ℕ, Bool, true, false, Result, Ok, Err}
use Rattle.fkv_base.specs.declared.faults.Fault.{Fault}
use Rattle.fkv_base.specs.declared.faults.Fault.TheVariants as fault
use Rattle.fkv_disk.specs.Device.{HasCause, MakesCalls}
use Rattle.fkv_keeper.specs.declared.answers.KeeperTold.{KeeperTold}
use Rattle.fkv_keeper.specs.declared.answers.KeeperTold.TheVariants.{Device as AtDevice, TurnRefused}
use Rattle.fkv_keeper.specs.declared.answers.Turn.{Turn}
use Rattle.fkv_keeper.specs.declared.keepers.Keeping.{Keeping}
use Rattle.fkv_keeper.specs.declared.keepers.Keeping.TheVariants.{Ended}
use Rattle.fkv_keeper.specs.Keeping.{KeeperModel, keeper_ask}
use Rattle.fkv_keeper.specs.KeeperRun.{is_in_hand}
use Rattle.fkv_keeper.specs.Running.{IsTurnTold}
use Rattle.fkv_keeper.specs.WholeCalls.{calls_told}
use Rattle.fkv_plane.specs.declared.asks.Ask.{Ask}
use Rattle.fkv_plane.specs.declared.asks.Ask.TheVariants.{Done}
use Rattle.fkv_table.specs.declared.turns.TurnAsk.{TurnAsk}
use Rattle.fkv_table.specs.declared.turns.TurnAsk.TheVariants.{Device, Over}

-- the device is asked for
abbrev pub asks_device : Ask KeeperTold → Bool
asks_device (Done AtDevice) = true
asks_device ask = false

-- The keeper asks for the device; or no call is in hand, and the turn has ended so.
abbrev pub IsTurnAsked : KeeperModel → TurnAsk → Type 0
IsTurnAsked k Device = asks_device (keeper_ask k.shape k.places k.state) ≡ true
IsTurnAsked k (Over result) = (is_in_hand k.state.step ≡ false) × IsTurnTold k.state.last (keeper_ask k.shape k.places k.state) result

-- ---- a turn that the device has ended
abbrev pub is_device : Fault → Bool
is_device fault.Device = true
is_device why = false

-- the keeper has ended its turn with `Device`
abbrev pub ended_by_device : Keeping → Bool
ended_by_device (Ended (TurnRefused why)) = is_device why
ended_by_device step = false

-- a turn is told to have ended so
abbrev pub told_by_device : Result Turn Fault → Bool
told_by_device (Ok turn) = false
told_by_device (Err why) = is_device why

abbrev pub over_by_device : TurnAsk → Bool
over_by_device Device = false
over_by_device (Over result) = told_by_device result

-- The device was called so often, no more and no less. It has ended the turn only if its count of failures rose, and where it refuses one of these calls it has.
pub record IsCounted (count : ℕ) (by_device : Bool) (failed failed' : ℕ) (refuses refuses' : ℕ → Bool) : Type 0 where
  pub cause : HasCause failed failed' (calls_told by_device)
  pub counted : MakesCalls count refuses refuses' (calls_told by_device)
