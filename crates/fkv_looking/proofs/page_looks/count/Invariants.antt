use Rattle.std.proofs.Common.{◌≡◌, take, count_by}
use Rattle.fkv_looking.specs.Classes.{is_class}
use Rattle.fkv_looking.proofs.page_looks.count.Given as goal

abbrev pub invariant-loop-found : goal.invariant-loop-found
invariant-loop-found l = l.count ≡ count_by (is_class l.class) (take l.found-index l.classes)
