-- A new machine over no triples.
use Rattle.std.proofs.Common.{◌∙◌, refl}
use Rattle.fkv_keeper.specs.Keeping.{no_writes}
use Rattle.fkv_keeper.proofs.leading.no_writes.Goals as goal

pub returns : goal.returns
unfolding no_writes
returns c = c.new-3.ensures ∙ rw c.new-2.ensures (rw c.new.ensures.items refl)
