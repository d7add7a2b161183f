-- What a search and an append do is so, if it is so of each event that they have.
use Rattle.std.proofs.Common.{ℕ, List, [], ◌∷◌}
use Rattle.fkv_map.specs.declared.operations.Op.{Op}
use Rattle.fkv_map.specs.declared.operations.Op.TheVariants.{Read}
use Rattle.fkv_plane.specs.declared.asks.Ask.{Ask}
use Rattle.fkv_plane.specs.declared.asks.Ask.TheVariants.{Done}
use Rattle.fkv_plane.specs.declared.places.Places.{Places}
use Rattle.law_world.specs.Below.fkv_log.TheInvalidating.{Invalidating}
use Rattle.law_world.specs.Below.fkv_log.TheInvalidating.TheVariants as invalidating
use Rattle.law_world.specs.Below.fkv_log.ReserveAnswer.{ReserveAnswer}
use Rattle.law_world.specs.Below.fkv_log.Reserving.{reserve_next_ask}
use Rattle.fkv_index.specs.declared.finding.FindAnswer.{FindAnswer}
use Rattle.fkv_index.specs.declared.finding.Found.{Found}
use Rattle.fkv_index.specs.declared.finding.Found.TheVariants.{Slot, NoSlot}
use Rattle.fkv_index.specs.declared.publishing.PublishAnswer.{PublishAnswer}
use Rattle.fkv_index.specs.declared.publishing.PublishAnswer.TheVariants.{Won}
use Rattle.fkv_index.specs.Finding.{find_next_ask}
use Rattle.fkv_index.specs.Publishing.{publish_next_ask}
use Rattle.law_world.specs.Below.fkv_ops.TheAppending.{Appending}
use Rattle.law_world.specs.Below.fkv_ops.TheAppending.TheVariants as appending
use Rattle.law_world.specs.Below.fkv_ops.TheWalking.{Walking}
use Rattle.law_world.specs.Below.fkv_ops.TheWalking.TheVariants.{Finds}
use Rattle.law_world.specs.Below.fkv_ops.Appending.{AppendState}
use Rattle.law_world.specs.Below.fkv_ops.Walking.{WalkState}
use Rattle.law_log.specs.Ghosts.{Drops, FindsEntry, GhostEvent, Publishes}
use Rattle.law_refine.specs.Events.Appends.{append_ghosts, invalidate_ghosts, publish_ghosts, reserved_ghosts, NewRecord}
use Rattle.law_refine.specs.Events.Tries.{find_ghosts, found_ghosts, search_ghosts, walk_ghosts}

-- ---- a read's search finds the entry, and no other search does anything
module _ (AllAre : List GhostEvent → Type 0) (none : AllAre []) (reader : ℕ) (finds : AllAre (FindsEntry reader ∷ [])) where
  found_all : (its : Found) → AllAre (found_ghosts reader its)
  found_all (Slot place word) = finds
  found_all NoSlot = finds
  found_all its = none

  find_all : (ask : Ask FindAnswer) → AllAre (find_ghosts reader ask)
  find_all (Done its) = found_all its.found
  find_all ask = none

  walk_all : (p : Places) (w : WalkState) (step : Walking) (reply : ℕ) → AllAre (walk_ghosts p reader w step reply)
  walk_all p w Finds reply = find_all (find_next_ask p w.finding reply)
  walk_all p w step reply = none

  pub search_all : (p : Places) (op : Op) (w : WalkState) (reply : ℕ) → AllAre (search_ghosts p op reader w reply)
  search_all p (Read key) w reply = walk_all p w w.step reply
  search_all p op w reply = none

-- ---- an append reserves, and then publishes its record or gives it up
module _ (AllAre : List GhostEvent → Type 0) (none : AllAre []) (drops : (addr : ℕ) → AllAre (Drops addr ∷ [])) where
  pub invalidate_all : (its : Invalidating) → AllAre (invalidate_ghosts its)
  invalidate_all invalidating.AtRest = none
  invalidate_all (invalidating.StoresHeader addr header) = drops addr.0

  module _ (publishes : (addr : ℕ) → AllAre (Publishes addr ∷ [])) where
    publish_all : (addr : ℕ) (ask : Ask PublishAnswer) → AllAre (publish_ghosts addr ask)
    publish_all addr (Done Won) = publishes addr
    publish_all addr ask = none

    pub append_all : (room : ℕ) (a : AppendState) (made : NewRecord) (step : Appending) (reply : ℕ) → ((ask : Ask ReserveAnswer) → AllAre (reserved_ghosts a made ask)) → AllAre (append_ghosts room a made step reply)
    append_all room a made appending.Reserves reply reserves = reserves (reserve_next_ask room a.reserving reply)
    append_all room a made (appending.Publishes addr) reply reserves = publish_all addr.0 (publish_next_ask a.publishing reply)
    append_all room a made appending.Invalidates reply reserves = invalidate_all a.invalidating
    append_all room a made step reply reserves = none
