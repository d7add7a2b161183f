-- So far there is a place for each session.
use Rattle.std.proofs.Common.{◌≡◌, Some, map}
use Rattle.fkv_handles.proofs.opening.untaken.Given as goal

abbrev pub invariant-loop-seated : goal.invariant-loop-seated
invariant-loop-seated l = l.places.items ≡ map Some l.yielded
