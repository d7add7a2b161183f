-- The law: a published record is born, so below the tail.
use Rattle.law_refine.proofs.OfRecords.Below.{event_below, life_below, published_permitted}
use Rattle.law_refine.proofs.OfRecords.Meets.{life_meets_published}
use Rattle.law_refine.proofs.records.law_records_published.Goals as goal

pub returns-clause-event : goal.returns-clause-event
returns-clause-event c = λ opening start ghosts before event opened none its. event_below opening start ghosts before event opened none its

pub returns-clause-below : goal.returns-clause-below
returns-clause-below c = λ opening start ghosts events opened none its. life_below opening start ghosts events opened none its

pub returns-clause-permitted : goal.returns-clause-permitted
returns-clause-permitted c = λ opening start ghosts events opened none its. published_permitted opening start ghosts events opened none its

pub returns-clause-meets : goal.returns-clause-meets
returns-clause-meets c = λ opening start ghosts events opened none free its. life_meets_published opening start ghosts opened none free events its
