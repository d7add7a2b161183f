-- The law: no commit is written before its log is flushed, and the flushed offset never falls.
use Rattle.std.proofs.Common.{◌*◌, ◌≤◌, subst, [], ◌∷◌}
use Rattle.fkv_base.specs.declared.shapes.Shape.{Shape}
use Rattle.law_opening.specs.Below.fkv_core.Openings.{beginning}
use Rattle.law_commit.specs.Below.fkv_keeper.Keeping.{KeeperState, come_to}
use Rattle.law_commit.specs.Below.fkv_world.Runs.{World, run}
use Rattle.law_commit.specs.Below.law_world.Guarded.OpenedStore.{IsOpenedStore}
use Rattle.law_order.proofs.OfImages.EndsFlushed.{ends_higher, flushed_at, life_ends, on_device, written}
use Rattle.law_order.proofs.images.ends.law_commits_end_flushed.Goals as goal

pub returns-clause-flushed : goal.returns-clause-flushed
unfolding run
returns-clause-flushed c = λ o n bytes events begins.
    let opening : World = beginning n bytes in
    let opened : IsOpenedStore opening o.tail.0 = c.law_guard_opens.ensures o n bytes begins in
    let s : KeeperState = (run opening events).now.keeper in
    written (flushed_at (run opening events)) s (come_to s)
    (life_ends opening events opened.now.keeper (λ before event. (c.law_world_is_guarded.ensures.rises opening o.tail.0 before (event ∷ []) opened.now).flushed)).ends

pub returns-clause-on_device : goal.returns-clause-on_device
returns-clause-on_device c = λ o n bytes events begins.
    let opening : World = beginning n bytes in
    let opened : IsOpenedStore opening o.tail.0 = c.law_guard_opens.ensures o n bytes begins in
    let s : KeeperState = (run opening events).now.keeper in
    let order = c.law_world_is_guarded.ensures.order opening o.tail.0 events opened.now in
    let paged = c.law_world_is_guarded.ensures.paged opening o.tail.0 events opened.now in
    let most : flushed_at (run opening events) ≤ n.shape.disk_pages * n.shape.page =
    on_device _ _ _ _ _ paged.pages n.shape.page n.shape.disk_pages order.flushed_below order.safe_below order.read_only_below order.tail_below paged.whole paged.on_device in
    ends_higher (flushed_at (run opening events)) (o.shape.disk_pages * o.shape.page) s (come_to s) (subst (λ (x : Shape). flushed_at (run opening events) ≤ x.disk_pages * x.page) begins.its_shape most)
    (returns-clause-flushed c o n bytes events begins)
