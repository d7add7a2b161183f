-- An ask as a step of the table.
use Rattle.std.specs.Prelude.{ℕ}
use mathlib.Core.Option.{none}
use Rattle.atomic_table.specs.Table.{Step, step}
use Rattle.fkv_plane.specs.declared.asks.Ask.{Ask}
use Rattle.fkv_plane.specs.declared.asks.Ask.TheVariants.{Load, Store, Swap, Cas, Add, Max, Put, Take, Done}
use Rattle.fkv_table.specs.Positions.{position}

-- a store is made by a swap, which tells the word as it was
abbrev pub step_of : {A S : Type 0} → ℕ → Ask A → Step S
step_of slots (Load place) = step slots (position place) 0 0 none
step_of slots (Store place new) = step slots (position place) new 0 none
step_of slots (Swap place new) = step slots (position place) new 0 none
step_of slots (Cas place old new) = step slots (position place) old new none
step_of slots (Add place k) = step slots (position place) k 0 none
step_of slots (Max place k) = step slots (position place) k 0 none
step_of slots (Put slot action) = step slots 0 0 0 none
step_of slots (Take slot) = step slots 0 0 0 none
step_of slots (Done answer) = step slots 0 0 0 none
