-- Where a turn is over.
use Rattle.std.specs.Prelude.{⊤, Result}
use Rattle.fkv_base.specs.declared.faults.Fault.{Fault}
use Rattle.fkv_keeper.specs.declared.answers.Turn.{Turn}
use Rattle.law_threads.specs.Below.fkv_table.TurnAsk.{TurnAsk}
use Rattle.law_threads.specs.Below.fkv_table.TurnAsk.TheVariants.{Device, Over}

-- So it is of the turn's answer, where the turn is over.
abbrev pub IfOver : TurnAsk → (Result Turn Fault → Type 0) → Type 0
IfOver Device P = ⊤
IfOver (Over answer) P = P answer
