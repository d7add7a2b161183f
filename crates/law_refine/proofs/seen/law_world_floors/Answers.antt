-- The law, by what each step of a session leaves of its floors.
use Rattle.law_refine.proofs.OfSeen.Floors.{floors_lie, floors_stay}
use Rattle.law_refine.proofs.seen.law_world_floors.Goals as goal

pub returns-clause-stay : goal.returns-clause-stay
returns-clause-stay c = λ opening before event begin tells have. floors_stay begin opening before event tells have

pub returns-clause-lie : goal.returns-clause-lie
returns-clause-lie c = λ opening events begin opens tells. floors_lie begin opening events opens tells
