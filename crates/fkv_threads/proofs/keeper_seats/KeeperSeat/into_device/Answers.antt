-- The keeper watched over its table.
use Rattle.std.proofs.Common.{refl, subst}
use Rattle.fkv_threads.specs.Models.{IsWatching}
use Rattle.fkv_threads.proofs.keeper_seats.KeeperSeat.into_device.Goals as goal

pub returns-clause-watching : goal.returns-clause-watching
returns-clause-watching g c = subst (λ w. IsWatching g.D.Device w) c.self.view_is (record { pass = c.self.inside.pass.seat.table_id; me = c.self.inside.pass.seat.me; its = c.self.invariant; seen = refl })
