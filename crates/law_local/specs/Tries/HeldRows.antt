-- What a request knows of the log: by the record of the device that it holds, and by the one that it seeks.
use Rattle.std.specs.Prelude.{◌≡◌, ◌≢◌, ℕ, ◌<◌, ⊤, Option, Some, None}
use Rattle.fkv_index.specs.Slots.{entry_addr}
use Rattle.law_log.specs.Chains.{value_at, IsWithin}
use Rattle.law_log.specs.Ghosts.{Log, first_from}
use Rattle.fkv_ops.specs.declared.answers.DiskRecord.{DiskRecord}
use Rattle.fkv_ops.specs.declared.requests.HeldRecord.{HeldRecord}
use Rattle.fkv_ops.specs.Values.{value_of}
use Rattle.law_local.specs.Tries.Floors.{ComesLive, GoesOnByFloor}

-- the word is the value of the first record of the key from an address on, and that record lies on the device, below this address
pub record IsValueBelow (home : ℕ → ℕ) (log : Log) (key from word low : ℕ) : Type 0 where
  pub begins : IsWithin from (log.chains (home key))
  pub some : 0 < first_from home log key from
  pub below : first_from home log key from < low
  pub value : value_of word ≡ value_at (log.cells (first_from home log key from))

-- A held record is the first one of the key, or the way from its entry goes on behind it, by the floor of the request.
pub record IsHeldFrom (home : ℕ → ℕ) (log : Log) (floor key low : ℕ) (held : HeldRecord) : Type 0 where
  pub own : held.key.0 ≡ key → IsValueBelow home log key (entry_addr held.entry) held.value low
  pub another : held.key.0 ≢ key → GoesOnByFloor home log floor key (entry_addr held.entry) held.previous.0 low

abbrev pub HeldKnows : (ℕ → ℕ) → Log → ℕ → ℕ → ℕ → Option HeldRecord → Type 0
HeldKnows home log floor key low None = ⊤
HeldKnows home log floor key low (Some held) = IsHeldFrom home log floor key low held

-- a record that is sought lies on the way from its entry, on the device
abbrev pub IsSoughtFrom : (ℕ → ℕ) → Log → ℕ → ℕ → ℕ → DiskRecord → Type 0
IsSoughtFrom home log floor key low it = ComesLive home log floor key (entry_addr it.entry) it.addr.0 low

abbrev pub SoughtKnows : (ℕ → ℕ) → Log → ℕ → ℕ → ℕ → Option DiskRecord → Type 0
SoughtKnows home log floor key low None = ⊤
SoughtKnows home log floor key low (Some it) = IsSoughtFrom home log floor key low it
