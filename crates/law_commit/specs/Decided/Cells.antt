-- Which addresses of the log are taken, and which are decided.
use Rattle.std.specs.Prelude.{◌≡◌, ◌≢◌, ◌<◌, ◌≤◌, ⊤, ℕ, None}
use Rattle.fkv_map.specs.declared.history.HistoryEntry.{HistoryEntry}
use Rattle.law_log.specs.Chains.{Cell, Logged, Unborn, Reserved, Published, Dropped}
use Rattle.law_log.specs.Ghosts.{Log}
use Rattle.law_log.specs.Trace.{IsIn}
use Rattle.law_commit.specs.Versions.Cells.{made_in}

-- an address is taken: its record is being made, stands or was given up
abbrev pub IsTaken : Logged → Type 0
IsTaken logged = made_in logged ≢ None

-- so is each from this address up to that one
abbrev pub TakenFrom : ℕ → ℕ → Log → Type 0
TakenFrom first tail log = (a : ℕ) → first ≤ a → a < tail → IsTaken (log.cells a)

-- below an address no record is being made
abbrev pub DecidedBelow : ℕ → Log → Type 0
DecidedBelow bound log = (a : ℕ) (entry : HistoryEntry) (cell : Cell) → a < bound → log.cells a ≡ Reserved entry cell → ⊥

-- a record stands, or was given up
abbrev pub IsSettled : Logged → Type 0
IsSettled Unborn = ⊥
IsSettled (Reserved entry cell) = ⊥
IsSettled (Published cell) = ⊤
IsSettled (Dropped cell) = ⊤

-- so does each from this address up to that one
abbrev pub SettledFrom : ℕ → ℕ → Log → Type 0
SettledFrom first bound log = (a : ℕ) → first ≤ a → a < bound → IsSettled (log.cells a)

-- each address that stands in a chain is taken
abbrev pub ChainsTaken : Log → Type 0
ChainsTaken log = (h a : ℕ) → IsIn a (log.chains h) → IsTaken (log.cells a)
