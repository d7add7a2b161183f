use Rattle.std.specs.Map.{keys_of}
use Rattle.fkv_renewing.proofs.Counts.{AreCounting}
use Rattle.fkv_renewing.proofs.counting.count_homes.Given as goal

abbrev pub invariant-loop-home : goal.invariant-loop-home
invariant-loop-home l = AreCounting l.bits (keys_of l.latest.entries) (keys_of l.home-iterator) l.counts.items
