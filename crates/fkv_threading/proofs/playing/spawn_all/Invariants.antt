-- Each thread so far promises what the session at its number is told.
use Rattle.std.proofs.Common.{◌≡◌, length}
use Rattle.fkv_threads.specs.Below.fkv_table.Starts.{EachAt}
use Rattle.fkv_threading.specs.Told.{part_at, part_of}
use Rattle.fkv_threading.proofs.playing.spawn_all.Given as goal

abbrev pub invariant-loop-player : goal.invariant-loop-player
invariant-loop-player g l =
    (length l.handles.items ≡ length l.yielded)
    × EachAt l.handles.items (λ i h. part_of h.promise.table.now.table.shared.key h.promise.number h.promise.point h.promise.lines.now ≡ part_at l.table.table.shared.key l.points l.lines i)
