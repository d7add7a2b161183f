use Rattle.std.proofs.Common.{◌≡◌, ◌<◌, ◌^◌, map, ◌++◌}
use Rattle.std.specs.Prelude.{All}
use Rattle.fkv_opening.specs.Entries.{place_of}
use Rattle.fkv_opening.specs.Listed.{listed}
use Rattle.fkv_opening.proofs.entries.entries_of.Given as goal

abbrev pub invariant-loop-home : goal.invariant-loop-home
invariant-loop-home l = (map place_of l.entries.items ++ listed l.bits l.home-iterator ≡ listed l.bits l.homes.entries) × All (λ x. x.bucket < 2 ^ l.bits) l.entries.items
