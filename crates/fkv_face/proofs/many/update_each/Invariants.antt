-- So far the keys before are updated.
use Rattle.std.proofs.Common.{take}
use Rattle.fkv_posted.specs.contracts.posted.PostedDevice.TheImpl as medium
use Rattle.fkv_handles.specs.Below.fkv_table.Planes.{opening_of}
use Rattle.fkv_face.specs.Many as says
use Rattle.fkv_face.proofs.many.update_each.Given as goal

abbrev pub invariant-loop-i : goal.invariant-loop-i
invariant-loop-i l = says.AreCalled (says.IsEachUpdate (opening_of medium.seen-value.it) (says.making l.kind)) l.fn.session.value (take l.i (says.zip l.keys l.numbers)) l.fn.told l.told l.session.value
