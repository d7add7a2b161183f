-- Each session sits at the table with its number, as the table's opening says of its place in the list, and was told nothing yet.
use Rattle.std.proofs.Common.{◌≡◌, ◌∙◌, ap, arith, sym, length}
use Rattle.fkv_threading.proofs.Told.{counted, next_at, one_at, seated_at}
use Rattle.fkv_threading.proofs.playing.seated.Goals as goal

pub player_of-requires : goal.player_of-requires
player_of-requires g c =
    let items = c.args.sessions.items in
    let at = length c.loop-seat.yielded in
    let gives = c.into_iter-seat-iterator.ensures.into_iter_gives in
    let there = next_at items c.loop-seat.yielded _ c.loop-seat.seat-iterator c.next.new.self c.next.result c.in-Some.seat gives.0 (gives.1 ∙ c.args.sessions.ok.0) c.loop-seat.yielded_by c.in-Some.is c.next.ensures.steps in
    ap (λ s. s.seen) (c.requires.first at c.in-Some.seat there).1

pub loop-seat-preserved : goal.loop-seat-preserved
loop-seat-preserved g c =
    let items = c.args.sessions.items in
    let inv = c.loop-seat.invariant in
    let at = length c.loop-seat.yielded in
    let gives = c.into_iter-seat-iterator.ensures.into_iter_gives in
    let there = next_at items c.loop-seat.yielded _ c.loop-seat.seat-iterator c.next.new.self c.next.result c.in-Some.seat gives.0 (gives.1 ∙ c.args.sessions.ok.0) c.loop-seat.yielded_by c.in-Some.is c.next.ensures.steps in
    let begun = (c.requires.first at c.in-Some.seat there).1 in
    let pushed = c.in_ok-push.ensures.items in
    let number : c.len-number.result ≡ length c.loop-seat.players.items = omega (arith, c.len-number.ensures, c.loop-seat.players.ok.0) in (
      counted _ _ _ _ _ pushed inv.0,
      one_at _ c.loop-seat.players.items c.push.new.self.items _ pushed inv.1
          (c.player_of.ensures ∙ seated_at c.args.table.now.table.shared.key _ _ _ _ c.args.points.now _ c.args.lines.now _ (ap (λ s. s.key) begun) (ap (λ s. s.number) begun ∙ sym inv.0) number c.point_of.ensures c.in_ok-calls.ensures.calls),
    )
