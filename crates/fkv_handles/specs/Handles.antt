-- What handles hold, and what a store gives.
use Rattle.std.specs.Prelude.{◌≡◌, ℕ, Bool, List, [], Option, None, Some, Result, Ok, Err, is_some, slice_get, slice_set}
use Rattle.fkv_base.specs.declared.faults.Fault.TheVariants.{NoSession}
use Rattle.fkv_base.specs.declared.numbers.Addr.{Addr}
use Rattle.fkv_base.specs.declared.numbers.Key.{Key}
use Rattle.fkv_disk.specs.Asks.{AskedCall}
use Rattle.fkv_posted.specs.declared.outcomes.Told.{Told}
use Rattle.fkv_posted.specs.declared.posted.Posted.{Posted}
use Rattle.fkv_spread.specs.declared.keys.Keys.{Keys}
use Rattle.fkv_handles.specs.declared.keepers.Keeper.{Keeper}
use Rattle.fkv_handles.specs.declared.refusals.Refusal.{Refusal}
use Rattle.fkv_handles.specs.declared.refusals.Refusal.TheVariants.{Fault as Refused, HandleTaken}
use Rattle.fkv_handles.specs.declared.sessions.Session.{Session}
use Rattle.fkv_handles.specs.declared.stores.Store.{Store}
use Rattle.fkv_keeper.specs.KeeperAsks.{keeper_due}
use Rattle.fkv_threads.specs.Models as model
use Rattle.fkv_threads.specs.Watches.{IsHonestlyTold}

-- by what a table knows how its store was opened
abbrev pub Opening : Type 0
Opening = model.Opening Posted

-- a session between two calls, and the keeper
abbrev pub Sitting : Type 0
Sitting = model.Sitting Opening

abbrev pub Watch : Type 0
Watch = model.Watch Opening Posted

-- the session that a handle holds, until it is ended
abbrev pub sitting_of : Session → Option Sitting
sitting_of s = s.seated

-- how the keys of its calls lie in the store
abbrev pub keys_of : Session → Keys
keys_of s = s.keys

-- the keeper that a handle holds, until it is ended
abbrev pub watch_of : Keeper → Option Watch
watch_of k = k.seat

-- the sessions that a store still has, each at its number
abbrev pub store_sessions : Store → List (Option Sitting)
store_sessions s = s.sessions.items

-- the keeper that it still has
abbrev pub store_keeper : Store → Option Watch
store_keeper s = s.keeper

abbrev pub store_keys : Store → Keys
store_keys s = s.keys

-- it isn't closed
abbrev pub store_is_open : Store → Bool
store_is_open s = is_some s.table

-- the call of the device that the keeper makes next
abbrev pub due_of : Option Watch → Option AskedCall
due_of (Some w) = keeper_due w.machine
due_of None = None

-- the keys that the sweep's last turn has found wanted, as the store has them
abbrev pub wanted_of : Option Watch → List Key
wanted_of (Some w) = w.machine.state.sweep.wanted
wanted_of None = []

-- where the log of the newest finished commit begins
abbrev pub begin_of : Option Watch → Option Addr
begin_of (Some w) = Some w.machine.state.last.begin
begin_of None = None

-- what is told of a read that is posted is what was last written there
abbrev pub IsToldHonestly : Told → Option Watch → Type 0
IsToldHonestly told (Some w) = IsHonestlyTold told w
IsToldHonestly told None = Unit {0}

-- What lies at a number is given: the session of that number once, in a handle.
abbrev pub GivesAt : Keys → List (Option Sitting) → ℕ → Option (Option Sitting) → Result Session Refusal → List (Option Sitting) → Type 0
GivesAt keys before number None (Err why) after = (why ≡ Refused NoSession) × (after ≡ before)
GivesAt keys before number None (Ok session) after = ⊥
GivesAt keys before number (Some None) (Err why) after = (why ≡ HandleTaken) × (after ≡ before)
GivesAt keys before number (Some None) (Ok session) after = ⊥
GivesAt keys before number (Some (Some its)) (Ok session) after = (sitting_of session ≡ Some its) × (keys_of session ≡ keys) × (after ≡ slice_set before number None)
GivesAt keys before number (Some (Some its)) (Err why) after = ⊥

abbrev pub IsGiven : Keys → List (Option Sitting) → ℕ → Result Session Refusal → List (Option Sitting) → Type 0
IsGiven keys before number result after = GivesAt keys before number (slice_get before number) result after

-- the keeper is given once, in a handle
abbrev pub IsKeeperGiven : Option Watch → Result Keeper Refusal → Option Watch → Type 0
IsKeeperGiven None (Err why) after = (why ≡ HandleTaken) × (after ≡ None)
IsKeeperGiven None (Ok keeper) after = ⊥
IsKeeperGiven (Some its) (Ok keeper) after = (watch_of keeper ≡ Some its) × (after ≡ None)
IsKeeperGiven (Some its) (Err why) after = ⊥
