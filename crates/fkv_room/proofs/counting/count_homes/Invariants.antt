use Rattle.fkv_room.specs.Counted.{homes_of}
use Rattle.fkv_room.proofs.Counts.{AreCounting}
use Rattle.fkv_room.proofs.counting.count_homes.Given as goal

abbrev pub invariant-loop-home : goal.invariant-loop-home
invariant-loop-home l = AreCounting l.bits (homes_of l.homes.entries) (homes_of l.home-iterator) l.counts.items
