-- The numbers of the phases.
use Rattle.std.specs.Prelude.{ℕ}
use Rattle.fkv_base.specs.declared.phases.Phase.{Phase}
use Rattle.fkv_base.specs.declared.phases.Phase.TheVariants.{Rest, Prepare, InProgress, WaitPending, WaitFlush}

-- the phases in their order, from 0
abbrev pub phase_number : Phase → ℕ
phase_number Rest = 0
phase_number Prepare = 1
phase_number InProgress = 2
phase_number WaitPending = 3
phase_number WaitFlush = 4
