-- The keeper's device is as its pass has seen it.
use Rattle.fkv_threading.proofs.Told.{is_kept}
use Rattle.fkv_threading.proofs.keeping.Keeping.end.Goals as goal

pub returns : goal.returns
returns g c = is_kept g.D.Device c.self.inside.seat _ c.self.inside.first.value _ _ _ _ c.self.view_is c.into_device.ensures.device c.into_device.ensures.watching c.self.invariant.1
