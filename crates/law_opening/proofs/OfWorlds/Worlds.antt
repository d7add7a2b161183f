-- The world of any opened store.
use Rattle.std.proofs.Common.{◌≡◌, ℕ, ◌+◌, ◌^◌, ◌++◌, None, false, refl, subst, arith}
use Rattle.std.specs.Prelude.{replicate}
use Rattle.fkv_base.specs.Limits.{drain_slots}
use Rattle.law_paper.specs.Below.fkv_opening.TheOpened.{Opened}
use Rattle.law_refine.specs.Below.fkv_world.World.{Now}
use Rattle.fkv_core.specs.OpeningWords.{frames_of, words_before_frames}
use Rattle.fkv_core.specs.Openings.{IsOpeningSession, IsOpeningWorld}
use Rattle.law_opening.proofs.OfWorlds.Index.{IsIndex, index_of}
use Rattle.law_opening.proofs.OfWorlds.Keepers.{keeper_of, keeper_opens}
use Rattle.law_opening.proofs.OfWorlds.Places.{places_fit, places_of}
use Rattle.law_opening.proofs.OfWorlds.Sessions.{each_opens, sessions_from, so_many}

its_index : (o : Opened) → IsIndex (2 ^ o.shape.bucket_bits) o.shape.overflow o.entries.items
its_index o = index_of (2 ^ o.shape.bucket_bits) o.shape.overflow o.entries.items

pub world_of : Opened → Now
world_of o = record {
  shape = o.shape;
  places = places_of o.shape;
  words = words_before_frames o (its_index o).words (its_index o).taken ++ frames_of o;
  actions = replicate drain_slots None;
  sessions = sessions_from o 0 o.shape.sessions;
  keeper = keeper_of o;
  crashed = false;
}

pub world_opens : (o : Opened) → IsOpeningWorld o (world_of o)
unfolding world_of
world_opens o = record {
  its_shape = refl;
  its_places = places_fit o.shape;
  its_words = record { index = (its_index o).words; taken = (its_index o).taken; filled = (its_index o).filled; whole = refl };
  no_actions = refl;
  seats = so_many o 0 o.shape.sessions;
  its_sessions = λ number s found. subst (λ (at : ℕ). IsOpeningSession o at s) (let same : 0 + number ≡ number = omega arith in same) (each_opens o 0 o.shape.sessions number s found);
  its_keeper = keeper_opens o;
  goes_on = refl;
}
