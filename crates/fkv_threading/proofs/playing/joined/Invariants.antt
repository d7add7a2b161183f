-- Each log so far is what the session at its number was told.
use Rattle.std.proofs.Common.{◌≡◌, length}
use Rattle.fkv_threads.specs.Below.fkv_table.Planes.{opening_of}
use Rattle.fkv_threading.specs.Told.{AreLogs}
use Rattle.fkv_threading.proofs.playing.joined.Given as goal

abbrev pub invariant-loop-handle : goal.invariant-loop-handle
invariant-loop-handle g l = (length l.logs.items ≡ length l.yielded) × AreLogs (opening_of g.D.Device.seen) l.table.table.shared.key l.points l.lines l.are_whole l.logs.items
