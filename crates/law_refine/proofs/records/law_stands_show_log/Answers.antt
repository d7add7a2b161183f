-- The law, by what each event leaves standing.
use Rattle.law_refine.proofs.OfRecords.Life.{life_holds}
use Rattle.law_refine.proofs.records.law_stands_show_log.Goals as goal

pub returns : goal.returns
returns c = λ opening start ghosts events opened none free published. (life_holds opening start ghosts events opened none free published).shows
