-- Numbers that fit in a word: the device has eight bytes for each, so it gives back no others.
use Rattle.std.specs.Prelude.{◌≡◌, ⊤, ℕ, List, [], ◌∷◌, Option, Some, None}
use Rattle.fkv_map.specs.Fits.{NumberFits, OpFits}
use Rattle.fkv_map.specs.declared.operations.Call.{Call}
use Rattle.fkv_map.specs.declared.operations.Call.TheVariants as call
use Rattle.law_log.specs.Chains.{Cell, Published}
use Rattle.law_log.specs.Ghosts.{Log}
use Rattle.law_refine.specs.Below.fkv_world.World.{Event, Calls}

abbrev pub CallFits : Call → Type 0
CallFits (call.Op op) = OpFits op
CallFits its = ⊤

-- so do those of the calls of a life
abbrev pub EventFits : Event → Type 0
EventFits (Calls session its) = CallFits its
EventFits event = ⊤

abbrev pub CallsFit : List Event → Type 0
CallsFit [] = ⊤
CallsFit (event ∷ before) = EventFits event × CallsFit before

-- a record's key does, and its value
abbrev pub ValueFits : Option ℕ → Type 0
ValueFits None = ⊤
ValueFits (Some n) = NumberFits n

abbrev pub CellFits : Cell → Type 0
CellFits cell = NumberFits cell.key × ValueFits cell.value

-- and those of each record of a log
abbrev pub CellsFit : Log → Type 0
CellsFit log = (a : ℕ) (cell : Cell) → log.cells a ≡ Published cell → CellFits cell
