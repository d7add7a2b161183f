-- The wrong images, by the law of gates. Those of new stores are such.
use Rattle.law_wrong_runs.proofs.OfImages.{wrong_images}
use Rattle.law_wrong_runs.proofs.laws.law_of_wrong_images.Goals as goal

pub returns : goal.returns
returns c = λ keeper one other. wrong_images c.law_gates.ensures.written c.law_gates.ensures.store c.law_slots_are_named.ensures.newest c.law_new_stores.ensures.created keeper one other
