-- A call of a device that is still to be made, and what making it is.
use Rattle.std.specs.Prelude.{ℕ, List, [], ◌∷◌, Bool, Option, Some, None}
use Rattle.fkv_disk.specs.Calls.{Call, Write, Sync}
use Rattle.fkv_disk.specs.Kinds.{Kind, Reading, Writing, Syncing, Foretold, after_kind}
use Rattle.fkv_disk.specs.declared.asks.DeviceAsk.{DeviceAsk}
use Rattle.fkv_disk.specs.declared.asks.DeviceAsk.TheVariants as ask

-- a read of so many bytes from an offset on, a write of these bytes from there on, or a sync
pub data AskedCall : Type 0 where
  Reads : (at : ℕ) → (count : ℕ) → AskedCall
  Writes : (at : ℕ) → (bytes : List ℕ) → AskedCall
  Syncs : AskedCall

-- the call that is asked for, if one is
abbrev pub asked_call : Option DeviceAsk → Option AskedCall
asked_call None = None
asked_call (Some (ask.Read at count)) = Some (Reads at count)
asked_call (Some (ask.Write at bytes)) = Some (Writes at bytes.now)
asked_call (Some ask.Sync) = Some Syncs

-- the first of these writes and syncs, before it is made
abbrev pub first_asked : List Call → Option AskedCall
first_asked [] = None
first_asked (Write at bytes done ∷ rest) = Some (Writes at bytes)
first_asked (Sync done ∷ rest) = Some Syncs

-- the write or sync that it is once it is made, and whether it succeeded
abbrev pub calls_by : Option AskedCall → Bool → List Call
calls_by None done = []
calls_by (Some (Reads at count)) done = []
calls_by (Some (Writes at bytes)) done = Write at bytes done ∷ []
calls_by (Some Syncs) done = Sync done ∷ []

-- how many calls of the device it is
abbrev pub count_by : Option AskedCall → ℕ
count_by None = 0
count_by (Some call) = 1

-- what a device says of itself and the calls to come once it is made, and whether it came through
abbrev pub kinds_by : Option AskedCall → Bool → (List Kind → Foretold) → List Kind → Foretold
kinds_by None done says = says
kinds_by (Some (Reads at count)) done says = after_kind Reading says
kinds_by (Some (Writes at bytes)) done says = after_kind (Writing at bytes done) says
kinds_by (Some Syncs) done says = after_kind (Syncing done) says
