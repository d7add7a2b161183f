-- It asks or calls where some are left, and all of them are.
use Rattle.std.proofs.Common.{refl}
use Rattle.fkv_maintain.proofs.MaintainLeft.{maintain_asked, maintain_begun_left}
use Rattle.fkv_maintain.proofs.maintaining.Maintain.start.Goals as goal

pub returns-clause-left : goal.returns-clause-left
returns-clause-left c = rw (← c.self.view_is) (maintain_asked c.self.inside.shape c.self.inside.places _ c.ask.result c.ask.ensures)

pub returns-clause-bounded : goal.returns-clause-bounded
returns-clause-bounded c = rw (← c.self.view_is, c.start.ensures.next) (maintain_begun_left c.self.inside.shape _ refl refl)
