-- The calls of the keeper's handle. One that was ended answers `Broken`, and stays so.
use Rattle.std.specs.Prelude.{◌≡◌, Option, None, Some, Result, Err}
use Rattle.fkv_base.specs.declared.commits.CommitKind.{CommitKind}
use Rattle.fkv_base.specs.declared.faults.Fault.{Fault}
use Rattle.fkv_base.specs.declared.faults.Fault.TheVariants.{Broken}
use Rattle.fkv_base.specs.declared.numbers.Version.{Version}
use Rattle.fkv_disk.specs.declared.devices.Device.{Ghosts}
use Rattle.fkv_posted.specs.declared.outcomes.Told.{Told}
use Rattle.fkv_posted.specs.declared.posted.Posted.{Posted}
use Rattle.fkv_threads.specs.Below.fkv_table.TurnAsk.{TurnAsk}
use Rattle.fkv_threads.specs.Below.fkv_table.TurnAsk.TheVariants.{Over}
use Rattle.fkv_threads.specs.Models.{Opening, Watch}
use Rattle.fkv_threads.specs.Watches.{IsAskedToCommit, IsDriven, IsTold}

module _ (device : Ghosts Posted) where
  abbrev pub IsTurnedBy : Option (Watch (Opening Posted) Posted) → TurnAsk → Option (Watch (Opening Posted) Posted) → Type 0
  IsTurnedBy (Some w) next (Some w') = IsDriven device w next w'
  IsTurnedBy (Some w) next None = ⊥
  IsTurnedBy None next None = next ≡ Over (Err Broken)
  IsTurnedBy None next (Some w') = ⊥

  abbrev pub IsToldBy : Told → Option (Watch (Opening Posted) Posted) → TurnAsk → Option (Watch (Opening Posted) Posted) → Type 0
  IsToldBy told (Some w) next (Some w') = IsTold device told w next w'
  IsToldBy told (Some w) next None = ⊥
  IsToldBy told None next None = next ≡ Over (Err Broken)
  IsToldBy told None next (Some w') = ⊥

  abbrev pub IsAskedBy : CommitKind → Option (Watch (Opening Posted) Posted) → Result Version Fault → Option (Watch (Opening Posted) Posted) → Type 0
  IsAskedBy kind (Some w) result (Some w') = IsAskedToCommit device kind w result w'
  IsAskedBy kind (Some w) result None = ⊥
  IsAskedBy kind None result None = result ≡ Err Broken
  IsAskedBy kind None result (Some w') = ⊥
