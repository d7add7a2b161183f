-- So far there is a seat for each session.
use Rattle.std.proofs.Common.{◌≡◌, map}
use Rattle.fkv_threads.specs.Models.{sitting_at}
use Rattle.fkv_threads.proofs.opening.seats.Given as goal

abbrev pub invariant-loop-session : goal.invariant-loop-session
invariant-loop-session g l = l.seats.items ≡ map (sitting_at l.table.value.table.shared.key l.table.value.table.shared.table_id) l.yielded
