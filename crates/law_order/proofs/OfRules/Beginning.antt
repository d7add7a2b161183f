-- The world with which the life of an opened store begins.
use Rattle.std.proofs.Common.{◌∙◌, ap, sym, refl, ℕ, List}
use Rattle.fkv_sweep.specs.Sweeping.{sweep_begun}
use Rattle.law_opening.specs.Below.fkv_core.Openings.{IsOpeningWorld, beginning}
use Rattle.law_commit.specs.Below.fkv_keeper.Keeping.{Finality}
use Rattle.law_commit.specs.Below.fkv_keeper.KeeperRun.{is_in_hand}
use Rattle.law_opening.specs.Below.fkv_opening.TheOpened.{Opened}
use Rattle.law_commit.specs.Below.fkv_world.Opened.{IsOpenedWorld}
use Rattle.law_commit.specs.Below.fkv_world.World.{Now}

pub world_opens : (o : Opened) (n : Now) (bytes : List ℕ) → IsOpeningWorld o n → IsOpenedWorld (beginning n bytes)
world_opens o n bytes its = record {
  goes_on = its.goes_on;
  no_history = refl;
  no_trace = refl;
  no_calls = refl;
  seats = its.seats ∙ sym its.its_places.sessions;
  keeper =
      (let k = its.its_keeper in
      record {
        none_in_hand = ap is_in_hand k.no_call;
        no_commit = k.no_commit;
        none_rest = k.none_rest;
        none_flushed = k.none_flushed;
        works = k.works;
        turns_rest = k.turns_rest;
        serves_from = k.serves_from ∙ sym (ap (λ (last : Finality). last.begin) k.newest);
        none_swept = (n.shape, n.places, k.none_swept ∙ sym (ap (λ (last : Finality). sweep_begun n.shape n.places last.begin last.begin) k.newest));
      });
  sessions = λ number s found. (its.its_sessions number s found).opened;
}
