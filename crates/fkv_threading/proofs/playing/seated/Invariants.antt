-- Each session so far sits at its number.
use Rattle.std.proofs.Common.{◌≡◌, length}
use Rattle.fkv_threading.specs.Told.{AreSeated}
use Rattle.fkv_threading.proofs.playing.seated.Given as goal

abbrev pub invariant-loop-seat : goal.invariant-loop-seat
invariant-loop-seat g l = (length l.players.items ≡ length l.yielded) × AreSeated l.table.table.shared.key l.points l.lines l.players.items
