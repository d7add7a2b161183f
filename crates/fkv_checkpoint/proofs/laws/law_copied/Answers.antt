-- Over every list of replies.
use Rattle.fkv_checkpoint.proofs.CopyAsks.{part_bounded, part_fewer, rests_bounded, rests_in_parts}
use Rattle.fkv_checkpoint.proofs.Told.{copies_all, copy_ends, copies_triples, copy_fits}
use Rattle.fkv_checkpoint.proofs.laws.law_copied.Goals as goal

pub returns-clause-told : goal.returns-clause-told
returns-clause-told c = copies_all

pub returns-clause-ends : goal.returns-clause-ends
returns-clause-ends c = copy_ends

pub returns-clause-triples : goal.returns-clause-triples
returns-clause-triples c = copies_triples

pub returns-clause-fits : goal.returns-clause-fits
returns-clause-fits c = copy_fits

pub returns-clause-time : goal.returns-clause-time
returns-clause-time c = λ p copying. record { begins = part_bounded p; rests = rests_bounded p copying; fewer = part_fewer p copying }

pub returns-clause-parts : goal.returns-clause-parts
returns-clause-parts c = rests_in_parts
