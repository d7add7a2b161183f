use Rattle.std.proofs.Common.{◌≡◌, take}
use Rattle.fkv_picture.specs.Shares.{total}
use Rattle.fkv_picture.proofs.shares.total.Given as goal

abbrev pub invariant-loop-number : goal.invariant-loop-number
invariant-loop-number l = l.total ≡ total (take l.number-index l.numbers)
