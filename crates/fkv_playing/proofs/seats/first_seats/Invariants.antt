-- So many first seats as the loop has counted.
use Rattle.std.proofs.Common.{◌≡◌, replicate}
use Rattle.fkv_playing.specs.Seats.{first_seat}
use Rattle.fkv_playing.proofs.seats.first_seats.Given as goal

abbrev pub invariant-loop : goal.invariant-loop
invariant-loop l = l.seats.items ≡ replicate l.counter first_seat
