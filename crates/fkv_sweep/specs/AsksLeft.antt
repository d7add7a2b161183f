-- How many asks and calls of the device a turn of a sweep has left, at most.
use Rattle.std.specs.Prelude.{◌≡◌, ℕ, ◌+◌, ◌-◌, ◌*◌, ◌^◌, ◌<◌, ◌↔◌, Bool, true, false}
use Rattle.fkv_plane.specs.declared.asks.Ask.{Ask}
use Rattle.fkv_plane.specs.declared.asks.Ask.TheVariants.{Done}
use Rattle.fkv_plane.specs.declared.places.Places.{Places}
use Rattle.fkv_plane.specs.AsksLeft.{sum_left}
use Rattle.fkv_index.specs.Finding.{asks_left}
use Rattle.fkv_sweep.specs.declared.sweeping.SweepAnswer.{SweepAnswer}
use Rattle.fkv_sweep.specs.declared.sweeping.SweepAnswer.TheVariants as answer
use Rattle.fkv_sweep.specs.declared.sweeping.Sweeping.{Sweeping}
use Rattle.fkv_sweep.specs.declared.sweeping.Sweeping.TheVariants.{AtRest, LoadsHead, Takes, Meets, Finds, LoadsKey, LoadsHeader, Reads}
use Rattle.fkv_sweep.specs.Sweeping.{Sweeper, most_records}

-- a sweep is at its end, and neither about to ask for something nor to call the device
abbrev pub is_through : Ask SweepAnswer → Bool
is_through (Done answer.Through) = true
is_through ask = false

-- it goes on by a read of the device
abbrev pub steps_asked : Ask SweepAnswer → ℕ
steps_asked (Done answer.Device) = 1
steps_asked ask = 0

-- it asks or calls just where it has some left
abbrev pub GoesOnWhereLeft : ℕ → Ask SweepAnswer → Type 0
GoesOnWhereLeft left ask = (is_through ask ≡ false) ↔ (0 < left)

-- down a chain: two loads, or a read, for each record, of which each lies below the one before
abbrev pub chain_asks : ℕ
chain_asks = 2 * 2 ^ 48

-- for a record that is met: its read, or the load where it was read with others, the search for its home's slot, and the way down the chain
abbrev pub record_asks : Places → ℕ
record_asks p = 1 + (8 * (p.overflow + 1) + 3) + chain_asks

-- for all that the turn may still meet behind it
abbrev pub asks_behind : Sweeper → ℕ
asks_behind s = (s.left - 1) * record_asks s.places

unfoldable pub sweeping_asks_left : Sweeper → Sweeping → ℕ
sweeping_asks_left s AtRest = 0
sweeping_asks_left s LoadsHead = 1 + record_asks s.places + asks_behind s
sweeping_asks_left s Takes = record_asks s.places + asks_behind s
sweeping_asks_left s Meets = record_asks s.places + asks_behind s
sweeping_asks_left s (Finds key) = sum_left (asks_left s.finding) (chain_asks + asks_behind s)
sweeping_asks_left s (LoadsKey key addr) = 2 + 2 * addr.0 + asks_behind s
sweeping_asks_left s (LoadsHeader key addr) = 1 + 2 * addr.0 + asks_behind s
sweeping_asks_left s (Reads key addr) = 2 + 2 * addr.0 + asks_behind s

abbrev pub sweep_asks_left : Sweeper → ℕ
sweep_asks_left s = sweeping_asks_left s s.step

-- a turn has so many at most
abbrev pub most_sweep_asks : Places → ℕ
most_sweep_asks p = 1 + most_records * record_asks p
