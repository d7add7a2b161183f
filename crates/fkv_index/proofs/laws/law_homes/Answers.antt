-- The home of a key is one that there is.
use Rattle.fkv_index.proofs.HomesThere.{homes_are_there}
use Rattle.fkv_index.proofs.laws.law_homes.Goals as goal

pub returns : goal.returns
returns c = homes_are_there
