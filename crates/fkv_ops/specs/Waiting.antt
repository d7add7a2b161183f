-- Why a request would wait, apart from all else that a try may come to.
use Rattle.std.specs.Prelude.{Option, Some, None}
use Rattle.fkv_ops.specs.declared.answers.TryAnswer.{TryAnswer}
use Rattle.fkv_ops.specs.declared.answers.TryAnswer.TheVariants as answer
use Rattle.fkv_ops.specs.declared.answers.Waiting.{Waiting}
use Rattle.fkv_ops.specs.declared.answers.Waiting.TheVariants.{For, ForRecord}

abbrev pub told_of : Waiting → TryAnswer
told_of (For reason) = answer.Wait reason
told_of (ForRecord its) = answer.AwaitsDisk its

abbrev pub waiting_of : TryAnswer → Option Waiting
waiting_of (answer.Wait reason) = Some (For reason)
waiting_of (answer.AwaitsDisk its) = Some (ForRecord its)
waiting_of its = None
