-- So far the keys before are read.
use Rattle.std.proofs.Common.{take}
use Rattle.fkv_posted.specs.contracts.posted.PostedDevice.TheImpl as medium
use Rattle.fkv_handles.specs.Below.fkv_table.Planes.{opening_of}
use Rattle.fkv_face.specs.Many as says
use Rattle.fkv_face.proofs.many.read_each.Given as goal

abbrev pub invariant-loop-i : goal.invariant-loop-i
invariant-loop-i l = says.AreCalled (says.IsEachRead (opening_of medium.seen-value.it)) l.fn.session.value (take l.i l.keys) l.fn.told l.told l.session.value
