-- The thread at this number keeps its promise.
use Rattle.std.proofs.Common.{◌∙◌, sym, ap, length, refl, ℕ}
use Rattle.fkv_threads.specs.Below.fkv_table.Planes.{opening_of}
use Rattle.fkv_threading.specs.Told.{part_at}
use Rattle.fkv_threading.proofs.Told.{counted, logs_more, next_at}
use Rattle.fkv_threading.proofs.playing.joined.Goals as goal

pub loop-handle-preserved : goal.loop-handle-preserved
loop-handle-preserved g c =
    let items = c.args.handles.items in
    let inv = c.loop-handle.invariant in
    let at = length c.loop-handle.yielded in
    let gives = c.into_iter-handle-iterator.ensures.into_iter_gives in
    let there = next_at items c.loop-handle.yielded _ c.loop-handle.handle-iterator c.next.new.self c.next.result c.in-Some.handle gives.0 (gives.1 ∙ c.args.handles.ok.0) c.loop-handle.yielded_by c.in-Some.is c.next.ensures.steps in
    let promised = c.requires at c.in-Some.handle there ∙ ap (λ (n : ℕ). part_at c.args.table.now.table.shared.key c.args.points.now c.args.lines.now n) (sym inv.0) in
    let pushed = c.in_ok-push.ensures.items in (
      counted _ _ _ _ _ pushed inv.0,
      logs_more (opening_of g.D.Device.seen) c.args.table.now.table.shared.key c.args.points.now c.args.lines.now c.loop-handle.are_whole _ c.in_ok-log.field-0.is_whole c.loop-handle.logs.items c.push.new.self.items c.in_ok-log.field-0.log _ pushed refl inv.1 promised c.in_ok-log.ensures.0,
    )
