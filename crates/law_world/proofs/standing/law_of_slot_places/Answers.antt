use Rattle.law_world.proofs.OfStanding.SlotPlaces.{place_by_parity}
use Rattle.law_world.proofs.standing.law_of_slot_places.Goals as goal

pub returns : goal.returns
returns c = λ number. place_by_parity number
