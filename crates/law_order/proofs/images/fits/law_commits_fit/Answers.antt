-- The law, by what is known of each commit as its writes begin.
use Rattle.std.proofs.Common.{◌≡◌, ◌⊎◌, inl, inr, ℕ, List, [], ◌∷◌}
use Rattle.law_opening.specs.Below.fkv_core.Openings.{beginning}
use Rattle.law_commit.specs.Below.fkv_keeper.LastCommits.{slot_place}
use Rattle.law_commit.specs.Below.fkv_manifest.Newest.{slot_in}
use Rattle.law_opening.specs.Below.fkv_opening.TheOpened.{Opened}
use Rattle.law_commit.specs.Below.fkv_world.Opened.{IsOpenedWorld}
use Rattle.law_commit.specs.Below.fkv_world.Runs.{World, run}
use Rattle.law_commit.specs.Below.fkv_world.World.{Now}
use Rattle.law_commit.specs.BegunCommits.{BegunCommit, commit_opened}
use Rattle.law_commit.specs.Below.law_world.Guarded.OpenedStore.{IsOpenedStore}
use Rattle.law_order.specs.Images.Fits.{FitsLife}
use Rattle.law_order.specs.Images.Left.{flushed_so_far}
use Rattle.law_order.specs.Images.Named.{AreSlotOf, begun_so_far, slot_of}
use Rattle.law_order.proofs.OfImages.AtRest.{opens_at_rest, world_opens}
use Rattle.law_order.proofs.OfImages.Begun.{HasSlot}
use Rattle.law_order.proofs.OfImages.BeginsFit.{begin_of}
use Rattle.law_order.proofs.OfImages.LifeFits.{BeginFits, FitsWritten, begin_fit, life_fits}
use Rattle.law_order.proofs.OfImages.LifeNamed.{life_known, life_named}
use Rattle.law_order.proofs.OfImages.SealedStands.{sealed_stands}
use Rattle.law_opening.specs.Lives.OpenedFrom.{IsOpenedFrom}
use Rattle.law_commit.specs.Below.law_world.Keeper.Lives.{IsLifeTold, life_writing}
use Rattle.law_order.proofs.images.fits.law_commits_fit.Goals as goal

slot_either : (o : Opened) (n : Now) (flushed : ℕ) (opened : List ℕ) (first c : BegunCommit) (bytes : List ℕ) → n.shape ≡ o.shape → BeginFits o n c → HasSlot n.shape opened first (FitsWritten o n flushed) c bytes
    → ((bytes ≡ slot_of n.shape c) × FitsLife o n flushed c) ⊎ ((c ≡ first) × (bytes ≡ slot_in opened (slot_place first.number)))
slot_either o n flushed opened first c bytes same begin (inl written) = inl (written.0, begin_fit o n flushed c same written.1 begin)
slot_either o n flushed opened first c bytes same begin (inr old) = inr old

slot_only : (o : Opened) (n : Now) (flushed : ℕ) (opened : List ℕ) (first c : BegunCommit) (bytes : List ℕ) → HasSlot n.shape opened first (FitsWritten o n flushed) c bytes → AreSlotOf n.shape opened first c bytes
slot_only o n flushed opened first c bytes (inl written) = inl written.0
slot_only o n flushed opened first c bytes (inr old) = inr old

pub returns-clause-each : goal.returns-clause-each
unfolding run
returns-clause-each c = λ o n bytes events store begins long.
    let opening : World = beginning n bytes in
    let opened : IsOpenedStore opening o.tail.0 = c.law_guard_opens.ensures o n bytes begins in
    let world : IsOpenedWorld opening = world_opens o n bytes begins opened in
    let from : IsOpenedFrom bytes o n = record { store = store; world = begins; long = c.law_long_opens.ensures.behind bytes o long store } in
    let told = c.law_told_opens.ensures bytes o n from in
    let life : IsLifeTold opening events = record { opened = world; told = told; in_turn = c.law_begun.ensures.numbers opening o.tail.0 events world opened.now (opens_at_rest o n begins) } in
    let fits = life_fits o n bytes events begins life c.law_of_slots.ensures.room (λ before event. c.law_world_is_guarded.ensures.rises opening o.tail.0 before (event ∷ []) opened.now) in
    λ d is. elim (life_known opening (FitsWritten o n (flushed_so_far n bytes events)) events life fits d is) [
      | inl good ↦ inl (begin_fit o n (flushed_so_far n bytes events) d begins.its_shape good (begin_of c.law_ends_open.ensures c.law_begun.ensures.on c.law_begun.ensures.stay c.law_commits_cut.ensures.begins c.law_commits_cut.ensures.as_opened o n bytes events d store begins is))
      | inr first ↦ inr first
    ]

pub returns-clause-named : goal.returns-clause-named
unfolding run
returns-clause-named c = λ o n bytes events image store begins long left.
    let opening : World = beginning n bytes in
    let flushed : ℕ = flushed_so_far n bytes events in
    let opened : IsOpenedStore opening o.tail.0 = c.law_guard_opens.ensures o n bytes begins in
    let world : IsOpenedWorld opening = world_opens o n bytes begins opened in
    let from : IsOpenedFrom bytes o n = record { store = store; world = begins; long = c.law_long_opens.ensures.behind bytes o long store } in
    let told = c.law_told_opens.ensures bytes o n from in
    let rests = opens_at_rest o n begins in
    let life : IsLifeTold opening events = record { opened = world; told = told; in_turn = c.law_begun.ensures.numbers opening o.tail.0 events world opened.now rests } in
    let fits = life_fits o n bytes events begins life c.law_of_slots.ensures.room (λ before event. c.law_world_is_guarded.ensures.rises opening o.tail.0 before (event ∷ []) opened.now) in
    let seals = sealed_stands (begun_so_far n bytes events) (run opening events).now.keeper (life_writing opening events).first image (c.law_begun.ensures.begun opening events world) (c.law_world_one_commit_stands.ensures.written opening events image life left) in
    let named = life_named c.law_gates.ensures.begun opening (FitsWritten o n flushed) events image life fits (λ it good. good.room) (c.law_world_one_commit_stands.ensures.calls opening events world) seals left
    (c.law_world_one_commit_stands.ensures.stands opening events image life left) (c.law_world_one_commit_stands.ensures.triples opening events image life left) in
    let has = named.has in
    record {
      named = record {
        commit = named.commit;
        begun = named.is_in;
        current = named.current (c.law_begun.ensures.in_turn opening o.tail.0 events world opened.now rests);
        sealed = named.sealed (c.law_begun.ensures.in_turn opening o.tail.0 events world opened.now rests);
        in_force = has.in_force;
        slot = slot_only o n flushed bytes (commit_opened n bytes) named.commit (slot_in image (let it = named.commit in slot_place it.number)) has.slot;
        triples = has.triples;
        fit = has.fit;
        behind = has.behind;
      };
      slot = slot_either o n flushed bytes (commit_opened n bytes) named.commit (slot_in image (let it = named.commit in slot_place it.number)) begins.its_shape (begin_of c.law_ends_open.ensures c.law_begun.ensures.on c.law_begun.ensures.stay c.law_commits_cut.ensures.begins c.law_commits_cut.ensures.as_opened o n bytes events named.commit store begins named.is_in) has.slot;
    }
