-- The law, by what stands of the newest finished commit and of the one that is written.
use Rattle.std.proofs.Common.{inl, inr, List, ℕ}
use Rattle.law_opening.specs.Below.fkv_core.Openings.{beginning}
use Rattle.law_commit.specs.Below.fkv_keeper.LastCommits.{slot_place}
use Rattle.law_commit.specs.Below.fkv_manifest.Newest.{slot_in}
use Rattle.law_commit.specs.Below.fkv_world.OwnEvents.{keeper_events}
use Rattle.law_commit.specs.Below.fkv_world.Opened.{IsOpenedWorld}
use Rattle.law_commit.specs.Below.fkv_world.Runs.{World, run}
use Rattle.law_commit.specs.BegunCommits.{BegunCommit, commit_opened}
use Rattle.law_commit.specs.Below.law_world.Guarded.OpenedStore.{IsOpenedStore}
use Rattle.law_order.proofs.OfImages.AtRest.{opens_at_rest, world_opens}
use Rattle.law_order.proofs.OfImages.Begun.{HasSlot}
use Rattle.law_order.proofs.OfImages.AreaFits.{FitsArea, all_good, begun_fits}
use Rattle.law_order.proofs.OfImages.LifeNamed.{life_named}
use Rattle.law_order.proofs.OfImages.SealedStands.{sealed_stands}
use Rattle.law_order.specs.Images.Named.{AreSlotOf, begun_so_far}
use Rattle.fkv_base.specs.declared.shapes.Shape.{Shape}
use Rattle.law_opening.specs.Lives.OpenedFrom.{IsOpenedFrom}
use Rattle.law_commit.specs.Below.law_world.Keeper.Lives.{IsLifeTold, life_writing}
use Rattle.law_order.proofs.images.named.law_images_name_a_begun.Goals as goal

slot_either : (shape : Shape) (opened : List ℕ) (first : BegunCommit) (Good : BegunCommit → Type 0) (c : BegunCommit) (bytes : List ℕ) → HasSlot shape opened first Good c bytes → AreSlotOf shape opened first c bytes
slot_either shape opened first Good c bytes (inl written) = inl written.0
slot_either shape opened first Good c bytes (inr old) = inr old

pub returns : goal.returns
returns c = λ o n bytes events image store begins long left.
    let opening : World = beginning n bytes in
    let opened : IsOpenedStore opening o.tail.0 = c.law_guard_opens.ensures o n bytes begins in
    let world : IsOpenedWorld opening = world_opens o n bytes begins opened in
    let from : IsOpenedFrom bytes o n = record { store = store; world = begins; long = c.law_long_opens.ensures.behind bytes o long store } in
    let told = c.law_told_opens.ensures bytes o n from in
    let rests = opens_at_rest o n begins in
    let life : IsLifeTold opening events = record { opened = world; told = told; in_turn = c.law_begun.ensures.numbers opening o.tail.0 events world opened.now rests } in
    let fits = all_good n.shape n.places n.keeper (FitsArea n.shape) (λ event before commit waits writes found. begun_fits n.shape n.places n.keeper event before commit opened.now.keeper told.buckets told.overflow waits writes found) (keeper_events opening events) in
    let seals = sealed_stands (begun_so_far n bytes events) (run opening events).now.keeper (life_writing opening events).first image (c.law_begun.ensures.begun opening events world) (c.law_world_one_commit_stands.ensures.written opening events image life left) in
    let named = life_named c.law_gates.ensures.begun opening (FitsArea n.shape) events image life fits (λ it good. good) (c.law_world_one_commit_stands.ensures.calls opening events world) seals left
    (c.law_world_one_commit_stands.ensures.stands opening events image life left) (c.law_world_one_commit_stands.ensures.triples opening events image life left) in
    let has = named.has in
    record {
      commit = named.commit;
      begun = named.is_in;
      current = named.current (c.law_begun.ensures.in_turn opening o.tail.0 events world opened.now rests);
      sealed = named.sealed (c.law_begun.ensures.in_turn opening o.tail.0 events world opened.now rests);
      in_force = has.in_force;
      slot = slot_either n.shape bytes (commit_opened n bytes) (FitsArea n.shape) named.commit (slot_in image (let it = named.commit in slot_place it.number)) has.slot;
      triples = has.triples;
      fit = has.fit;
      behind = has.behind;
    }
