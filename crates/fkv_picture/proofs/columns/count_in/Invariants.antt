use Rattle.std.proofs.Common.{◌≡◌, take}
use Rattle.fkv_picture.specs.Columns.{count_in}
use Rattle.fkv_picture.proofs.columns.count_in.Given as goal

abbrev pub invariant-loop-page : goal.invariant-loop-page
invariant-loop-page l = l.sum ≡ count_in l.class (take l.page-index l.pages)
