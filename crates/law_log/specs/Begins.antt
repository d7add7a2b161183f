-- What of a log counts above an address at which it begins.
use Rattle.std.specs.Prelude.{◌≡◌, ◌⊎◌, ⊤, ◌<◌, ◌≤◌, ℕ, None, List, [], ◌∷◌, ◌++◌}
use Rattle.fkv_map.specs.Map.{Map}
use Rattle.fkv_map.specs.declared.history.HistoryEntry.{HistoryEntry}
use Rattle.law_log.specs.Chains.{Cell, Unborn, Reserved, Published, value_at, head_of, IsWithin, NoneLater}
use Rattle.law_log.specs.Ghosts.{Log, Ghosts, GhostEvent, Reserves, first_from, newest_of, newest_upto, shown, shown_upto, ghost_run}
use Rattle.law_log.specs.Enabled.{AreChains, AreEnabled, IsOpened}

-- A log does without its records below an address: each key's newest record lies at or above it, or the key reads as absent.
abbrev pub Live : ℕ → (ℕ → ℕ) → Log → Type 0
Live begin home log = (key : ℕ) → (begin ≤ newest_of home log key) ⊎ (shown home log key ≡ None)

-- And so it does in the versions up to one.
abbrev pub LiveUpto : ℕ → ℕ → (ℕ → ℕ) → Log → Type 0
LiveUpto version begin home log = (key : ℕ) → (begin ≤ newest_upto home log version key) ⊎ (shown_upto home log version key ≡ None)

-- A walk for a key does without the records below a floor: what it comes to from an address lies at or above that, or reads as absent.
abbrev pub IsWalkLive : ℕ → (ℕ → ℕ) → Log → ℕ → ℕ → Type 0
IsWalkLive floor home log key from = (floor ≤ first_from home log key from) ⊎ (value_at (log.cells (first_from home log key from)) ≡ None)

-- no record stands in a chain below an address, as in a log that was opened with this begin
abbrev pub IsAbove : ℕ → Log → Type 0
IsAbove begin log = (a : ℕ) (cell : Cell) → log.cells a ≡ Published cell → begin ≤ a

-- All below an address is over: it changes no more in place, and no record is being made there.
pub record IsOver (begin : ℕ) (log : Log) : Type 0 where
  pub fixed : begin ≤ log.fixed
  pub none_reserved : (a : ℕ) (entry : HistoryEntry) (cell : Cell) → log.cells a ≡ Reserved entry cell → begin ≤ a

-- these events take no address below it
abbrev pub TakesAbove : ℕ → GhostEvent → Type 0
TakesAbove begin (Reserves a entry cell) = begin ≤ a
TakesAbove begin event = ⊤

abbrev pub TakeAbove : ℕ → List GhostEvent → Type 0
TakeAbove begin [] = ⊤
TakeAbove begin (event ∷ before) = TakesAbove begin event × TakeAbove begin before

-- ---- what the laws say
-- what holds of a begin goes on to hold, from a moment on at which all below it is over, while no address below it is taken
abbrev pub StaysFromThere : (ℕ → (ℕ → ℕ) → Log → Type 0) → Type 0
StaysFromThere P =
    (home : ℕ → ℕ) (m : Map) (version : ℕ) (opening : Ghosts) (later before : List GhostEvent) (begin : ℕ) → IsOpened home m version opening → AreEnabled home opening (later ++ before)
    → IsOver begin (ghost_run home opening before).log → TakeAbove begin later → P begin home (ghost_run home opening before).log → P begin home (ghost_run home opening (later ++ before)).log

-- so does what holds of each version by itself
abbrev pub EachVersionStaysLive : Type 0
EachVersionStaysLive = (version : ℕ) → StaysFromThere (LiveUpto version)

-- a log without records below its begin does without them
abbrev pub AboveIsLive : Type 0
AboveIsLive = (home : ℕ → ℕ) (begin : ℕ) (log : Log) → AreChains home log → log.cells 0 ≡ Unborn → IsAbove begin log → Live begin home log × ((version : ℕ) → LiveUpto version begin home log)

-- where no record is of a later version than one, that goes for the versions up to it
abbrev pub LiveAtRest : Type 0
LiveAtRest = (home : ℕ → ℕ) (begin version : ℕ) (log : Log) → ((h : ℕ) → NoneLater log.cells (log.chains h) version) → Live begin home log → LiveUpto version begin home log

-- a walk that begins where its chain does, by a floor that isn't above the log's begin
abbrev pub WalksBeginLive : Type 0
WalksBeginLive =
    (home : ℕ → ℕ) (begin floor : ℕ) (log : Log) (key : ℕ) → floor ≤ begin → Live begin home log → IsWalkLive floor home log key (head_of (log.chains (home key)))

-- a walk goes on so, from wherever it has come to in its chain
abbrev pub WalksStayLive : Type 0
WalksStayLive =
    (home : ℕ → ℕ) (m : Map) (version : ℕ) (opening : Ghosts) (later before : List GhostEvent) (floor key from : ℕ) → IsOpened home m version opening → AreEnabled home opening (later ++ before)
    → (let log = (ghost_run home opening before).log in (floor ≤ log.fixed) × IsWithin from (log.chains (home key)) × IsWalkLive floor home log key from)
    → IsWalkLive floor home (ghost_run home opening (later ++ before)).log key from

-- where it has come below its floor, its key reads as absent
abbrev pub ReadsAbsentBelow : Type 0
ReadsAbsentBelow =
    (home : ℕ → ℕ) (floor : ℕ) (log : Log) (key from : ℕ) → AreChains home log → log.cells 0 ≡ Unborn → IsWithin from (log.chains (home key)) → from < floor → IsWalkLive floor home log key from
    → value_at (log.cells (first_from home log key from)) ≡ None
