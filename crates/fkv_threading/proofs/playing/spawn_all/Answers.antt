-- The thread of the session at this number promises what that session is told.
use Rattle.std.proofs.Common.{◌≡◌, ◌∙◌, ap, arith, sym, subst, length, IfOk}
use Rattle.fkv_threads.specs.Below.fkv_table.Planes.{opening_of}
use Rattle.fkv_threading.specs.Told.{IsTold, part_of}
use Rattle.fkv_threading.proofs.Told.{counted, next_at, one_at, promised_at}
use Rattle.fkv_threading.proofs.playing.spawn_all.Goals as goal

pub spawn_with-spawned-requires-clause-keeps : goal.spawn_with-spawned-requires-clause-keeps
spawn_with-spawned-requires-clause-keeps g c =
    let items = c.args.players.items in
    let inv = c.loop-player.invariant in
    let at = length c.loop-player.yielded in
    let gives = c.into_iter-player-iterator.ensures.into_iter_gives in
    let there = next_at items c.loop-player.yielded _ c.loop-player.player-iterator c.next.new.self c.next.result c.in-Some.player gives.0 (gives.1 ∙ c.args.players.ok.0) c.loop-player.yielded_by c.in-Some.is c.next.ensures.steps in
    let number : c.len-number.result ≡ at = omega (arith, inv.0, c.len-number.ensures, c.loop-player.handles.ok.0) in
    let seat = c.requires at c.in-Some.player there ∙ sym (promised_at c.args.table.now.table.shared.key at c.len-number.result c.args.points.now _ c.args.lines.now number c.point_of.ensures) in
    λ lifetimes outlives r given. (subst (λ part. IfOk r (λ end. IsTold (opening_of g.D.Device.seen) part end.is_whole end.log)) seat given.0, given.1)

pub loop-player-preserved : goal.loop-player-preserved
loop-player-preserved g c =
    let inv = c.loop-player.invariant in
    let pushed = c.in_ok-push.ensures.items in
    let number : c.len-number.result ≡ length c.loop-player.handles.items = omega (arith, c.len-number.ensures, c.loop-player.handles.ok.0) in (
      counted _ _ _ _ _ pushed inv.0,
      one_at _ c.loop-player.handles.items c.push.new.self.items _ pushed inv.1
          (ap (λ p. part_of p.table.now.table.shared.key p.number p.point p.lines.now) c.in-Ok.ensures.ok ∙ promised_at c.args.table.now.table.shared.key _ c.len-number.result c.args.points.now _ c.args.lines.now number c.point_of.ensures),
    )
