-- So far the front of the room has the keys.
use Rattle.std.proofs.Common.{◌≡◌, ◌++◌, map, take, drop}
use Rattle.fkv_face.proofs.keepers.tell_keys.Given as goal

abbrev pub invariant-loop-i : goal.invariant-loop-i
invariant-loop-i l = (l.keys ≡ map (λ k. k.0) (take l.i l.wanted) ++ drop l.i l.fn.keys)
