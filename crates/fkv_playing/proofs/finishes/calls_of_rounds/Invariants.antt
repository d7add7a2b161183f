-- so many rounds so far
use Rattle.std.proofs.Common.{◌≡◌}
use Rattle.fkv_playing.specs.Finishes.{round_of, rounds}
use Rattle.fkv_playing.proofs.finishes.calls_of_rounds.Given as goal

abbrev pub invariant-loop : goal.invariant-loop
invariant-loop l = l.calls.items ≡ rounds l.counter (round_of l.seats)
