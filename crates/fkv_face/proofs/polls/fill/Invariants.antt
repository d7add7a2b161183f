-- So far the front of the room has the requests.
use Rattle.std.proofs.Common.{◌≡◌, ◌++◌, map, take, drop}
use Rattle.fkv_face.specs.Polls as says
use Rattle.fkv_face.proofs.polls.fill.Given as goal

abbrev pub invariant-loop-i : goal.invariant-loop-i
invariant-loop-i l = (l.into ≡ map says.request_of (take l.i l.list) ++ drop l.i l.fn.into)
