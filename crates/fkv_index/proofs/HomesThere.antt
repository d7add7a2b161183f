-- The home of a key is one that there is.
use Rattle.std.proofs.Common.{arith}
use Rattle.std.proofs.lemmas.Nat.{pow_pos}
use Rattle.fkv_index.specs.OneEntry.{HomesAreThere}

pub homes_are_there : HomesAreThere
homes_are_there p bits key same = record { few = omega (arith, pow_pos bits, same); fits = omega arith }
