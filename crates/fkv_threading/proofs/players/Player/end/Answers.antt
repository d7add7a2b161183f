-- Its answered calls are the first of its lines.
use Rattle.std.proofs.Common.{◌≡◌, ◌≤◌, true, List, length, subst}
use Rattle.fkv_map.specs.declared.operations.Call.{Call}
use Rattle.fkv_threads.specs.Below.fkv_table.Planes.{opening_of}
use Rattle.fkv_threading.specs.Told.{IsTold}
use Rattle.fkv_threading.proofs.Told.{told_all}
use Rattle.fkv_threading.proofs.players.Player.end.Goals as goal

pub returns : goal.returns
returns g c =
    let told = told_all (opening_of g.D.Device.seen) (record { key = c.self.inside.seat.key; number = c.self.inside.seat.number; point = c.self.inside.point; calls = c.self.inside.calls.items }) c.self.inside.answered c.are_all.result c.self.inside.log c.self.inside.seat.seen
    (subst (λ (xs : List Call). c.are_all.result ≡ true → length xs ≤ c.self.inside.answered) c.deref.ensures.value c.are_all.ensures) c.self.invariant in
    subst (λ part. IsTold (opening_of g.D.Device.seen) part c.are_all.result c.self.inside.log) c.self.view_is told
