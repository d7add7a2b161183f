use Rattle.std.proofs.Common.{◌≡◌, take, count_by}
use Rattle.fkv_scan.specs.Records.{is_in}
use Rattle.fkv_looking.proofs.classes.is_lost.Given as goal

abbrev pub invariant-loop-range : goal.invariant-loop-range
invariant-loop-range l = count_by (is_in l.addr.0 l.version.0) (take l.range-index l.ranges) ≡ 0
