-- The sessions of the table that was opened go on from the store's points.
use Rattle.std.proofs.Common.{◌≡◌, ◌∙◌, sym}
use Rattle.fkv_threading.proofs.Told.{is_played, kept_nothing}
use Rattle.fkv_threading.proofs.playing.play.Goals as goal

pub invariant_of-keeping : goal.invariant_of-keeping
invariant_of-keeping g c =
    let its = c.in_ok-table.ensures.keeper in
    (its.idle, kept_nothing g.D.Device _ c.of-first.result.value _ _ its.nothing_seen (its.device ∙ sym c.of-first.ensures))

pub returns-clause-ok : goal.returns-clause-ok
returns-clause-ok g c =
    let made = c.in_ok-table.ensures in
    let same : c.deref-3.result.now ≡ c.args.opened.points.items = c.deref-3.ensures.value ∙ (c.in_ok-points.ensures.ok ∙ c.deref.ensures.value) in
    is_played g.D.Device (λ its. its.is_whole) (λ its. its.logs.items) (λ its. its.keeper.device) (λ its. its.keeper.finished) (λ its. its.keeper.begun) (λ its. its.keeper.fault) c.play_over.result _ c.args.opened c.args.lines.now c.args.device c.of-first.result.value _ _ (rw c.deref-2.ensures made.over) made.count same c.of-first.ensures c.play_over.ensures.ok

pub play_over-requires-clause-first : goal.play_over-requires-clause-first
play_over-requires-clause-first g c κs within = rw c.deref-2.ensures c.in_ok-table.ensures.sessions
