-- By what an opened store's life begins with, and how its keeper is then.
use Rattle.std.proofs.Common.{◌∙◌, sym}
use Rattle.law_order.proofs.in_turn.law_ends_open.Goals as goal

pub returns : goal.returns
returns c = λ bytes o n store its.
    let begins = c.law_life_begins.ensures bytes o n store its in
    record {
      guarded = begins.store.now;
      opened = begins.world;
      seen = begins.rests;
      sought = its.its_keeper.sought ∙ sym its.its_places.sessions;
    }
