-- what is pushed so far, and the calls of the rest, are the calls of all
use Rattle.std.proofs.Common.{◌≡◌, ◌++◌, drop}
use Rattle.fkv_playing.specs.Finishes.{calls_of_seats}
use Rattle.fkv_playing.proofs.finishes.push_round.Given as goal

abbrev pub invariant-loop-number : goal.invariant-loop-number
invariant-loop-number l = l.calls.items ++ calls_of_seats l.number (drop l.number l.seats) ≡ l.fn.calls.items ++ calls_of_seats 0 l.seats
