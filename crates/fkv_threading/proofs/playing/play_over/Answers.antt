-- There is a seat for each session.
use Rattle.std.proofs.Common.{ℕ, subst, IfOk}
use Rattle.fkv_threading.specs.Told.{WerePlayed}
use Rattle.fkv_threading.proofs.playing.play_over.Goals as goal

pub returns-clause-ok : goal.returns-clause-ok
returns-clause-ok g c = subst
    (λ (n : ℕ). IfOk c.play_seats.result (λ its. WerePlayed g.D.Device c.args.table.now.table.shared.key c.args.keeping.first c.args.points.now c.args.lines.now n its.is_whole its.logs.items its.keeper.device its.keeper.finished its.keeper.begun its.keeper.fault))
    c.in_ok-players.ensures.count c.play_seats.ensures.ok
