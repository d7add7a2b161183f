-- The names of the phases, as the program prints them.
use Rattle.std.specs.Prelude.{ℕ, List, codes}
use Rattle.fkv_base.specs.declared.phases.Phase.{Phase}
use Rattle.fkv_base.specs.declared.phases.Phase.TheVariants.{Rest, Prepare, InProgress, WaitPending, WaitFlush}

abbrev pub phase_name : Phase → List ℕ
phase_name Rest = codes "rest"
phase_name Prepare = codes "prepare"
phase_name InProgress = codes "in-progress"
phase_name WaitPending = codes "wait-pending"
phase_name WaitFlush = codes "wait-flush"
