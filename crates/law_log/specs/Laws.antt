-- The laws of a log of cells and chains, over every list of events that are enabled.
use Rattle.std.specs.Prelude.{◌≡◌, ◌⊎◌, ◌≤◌, ℕ, List, ◌∷◌, ◌++◌}
use Rattle.fkv_map.specs.Map.{Map}
use Rattle.fkv_map.specs.History.{IsLegal}
use Rattle.fkv_map.specs.Keys.{key_of}
use Rattle.law_log.specs.Trace.{Effect, IsIn, history_of, value_in, upto, OrdersCalls, ReadsAreFresh}
use Rattle.law_log.specs.Chains.{Cell, Published, VersionsFall}
use Rattle.law_log.specs.Ghosts.{Ghosts, GhostEvent, shown, shown_upto, newest_in, ghost_run}
use Rattle.law_log.specs.Enabled.{AreEnabled, IsOpened, IsFixed, IsLinked}

-- what holds after each list of events that keep to their rules, of a log that was opened with a map and a version
abbrev pub AtEachMoment : ((ℕ → ℕ) → Map → ℕ → Ghosts → Type 0) → Type 0
AtEachMoment P =
    (home : ℕ → ℕ) (m : Map) (version : ℕ) (opening : Ghosts) (events : List GhostEvent) → IsOpened home m version opening → AreEnabled home opening events
    → P home m version (ghost_run home opening events)

-- the history is legal from the opening map
abbrev pub HistoryIsLegal : (ℕ → ℕ) → Map → ℕ → Ghosts → Type 0
HistoryIsLegal home m version g = IsLegal m (history_of g.log.history)

-- for each key the newest record of its home's chain shows its value in the content
abbrev pub ChainsShowContent : (ℕ → ℕ) → Map → ℕ → Ghosts → Type 0
ChainsShowContent home m version g = (key : ℕ) → shown home g.log key ≡ value_in m g.log.history key

-- the effects of versions up to each one, from the opening's on, are legal by themselves
abbrev pub VersionsAreLegal : (ℕ → ℕ) → Map → ℕ → Ghosts → Type 0
VersionsAreLegal home m version g = (n : ℕ) → version ≤ n → IsLegal m (history_of (upto n g.log.history))

-- for each version the newest record of a key of versions up to it shows the key's value in the content of the effects up to it
abbrev pub NewestShowsContent : (ℕ → ℕ) → Map → ℕ → Ghosts → Type 0
NewestShowsContent home m version g = (n key : ℕ) → version ≤ n → shown_upto home g.log n key ≡ value_in m (upto n g.log.history) key

-- down each chain addresses fall, each record leads to the next, and versions never rise
abbrev pub ChainsFall : (ℕ → ℕ) → Map → ℕ → Ghosts → Type 0
ChainsFall home m version g = (h : ℕ) → IsLinked g.log.cells (g.log.chains h) × VersionsFall g.log.cells (g.log.chains h)

-- a record that may still change in place is the newest of its key and its version
abbrev pub MutableIsNewest : (ℕ → ℕ) → Map → ℕ → Ghosts → Type 0
MutableIsNewest home m version g = (a : ℕ) (cell : Cell) → g.log.cells a ≡ Published cell → (newest_in home g.log cell.version cell.key ≡ a) ⊎ IsFixed g.log a

-- the home of the key that an effect is on
abbrev pub home_of : (ℕ → ℕ) → Effect → ℕ
home_of home effect = home (key_of effect.entry.op).0

-- of each home effects come in the order of their versions
abbrev pub AreInOrder : (ℕ → ℕ) → List Effect → Type 0
AreInOrder home effects =
    (newer older : List Effect) (effect earlier : Effect) → effects ≡ newer ++ effect ∷ older → IsIn earlier older → home_of home earlier ≡ home_of home effect
    → earlier.version ≤ effect.version

-- so of the history
abbrev pub VersionsInOrder : (ℕ → ℕ) → Map → ℕ → Ghosts → Type 0
VersionsInOrder home m version g = AreInOrder home g.log.history

-- effects are in the order of their calls
abbrev pub CallsAreOrdered : (ℕ → ℕ) → Map → ℕ → Ghosts → Type 0
CallsAreOrdered home m version g = OrdersCalls g.log.history g.trace

-- and reads are fresh
abbrev pub ReadsGiveContent : (ℕ → ℕ) → Map → ℕ → Ghosts → Type 0
ReadsGiveContent home m version g = ReadsAreFresh m g.log.history g.trace
