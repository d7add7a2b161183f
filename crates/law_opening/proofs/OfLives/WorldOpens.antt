-- The world of an opened store is one as a life begins.
use Rattle.std.proofs.Common.{refl, sym, ◌∙◌, ℕ, List}
use Rattle.law_paper.specs.Below.fkv_opening.TheOpened.{Opened}
use Rattle.law_refine.specs.Below.fkv_world.Opened.{IsOpenedWorld}
use Rattle.law_refine.specs.Below.fkv_world.World.{Now}
use Rattle.fkv_core.specs.Openings.{IsOpeningWorld, beginning}
use Rattle.law_opening.proofs.OfLives.GuardOpens.{its_keeper_opens}

pub world_opens : (o : Opened) (n : Now) (bytes : List ℕ) → IsOpeningWorld o n → IsOpenedWorld (beginning n bytes)
world_opens o n bytes its = record {
  goes_on = its.goes_on;
  no_history = refl;
  no_trace = refl;
  no_calls = refl;
  seats = its.seats ∙ sym its.its_places.sessions;
  keeper = its_keeper_opens o n its;
  sessions = λ number s found. (its.its_sessions number s found).opened;
}
