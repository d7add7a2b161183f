-- The store was opened, or the image was refused.
use Rattle.std.proofs.Common.{inl, inr, refl}
use Rattle.fkv_base.specs.declared.faults.Fault.TheVariants.{Memory}
use Rattle.fkv_face.specs.Stores.{Opened, Refused}
use Rattle.fkv_face.proofs.Results.{told_fault}
use Rattle.fkv_face.proofs.stores.fkv_open.Goals as goal

pub returns-in-Ok-new : goal.returns-in-Ok-new
returns-in-Ok-new c = Opened c.in-Ok.store c.in-Ok.recovered (rw (← c.keys_told.ensures, ← c.most_told.ensures) c.in-Ok.ensures.opened) (inl refl) c.tell.ensures.sizes c.tell.ensures.image c.tell.ensures.points

pub returns-in-Ok : goal.returns-in-Ok
returns-in-Ok c =
    Opened c.in-Ok.store c.in-Ok.recovered (rw (← c.keys_told.ensures, ← c.most_told.ensures) c.in-Ok.ensures.opened) (inr (told_fault Memory c.refused.result c.refused.ensures)) c.tell.ensures.sizes c.tell.ensures.image c.tell.ensures.points

pub returns : goal.returns
returns c = Refused c.in-Err.why c.in-Err.ensures.refused (told_fault c.in-Err.why c.refused-in-Err.result c.refused-in-Err.ensures) refl refl c.damaged.ensures refl
