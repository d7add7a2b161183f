use Rattle.std.proofs.Common.{◌≡◌}
use Rattle.fkv_core.proofs.Written.{written_over}
use Rattle.fkv_core.proofs.opening_words.write_words.Given as goal

abbrev pub invariant-loop-place : goal.invariant-loop-place
invariant-loop-place l = l.plane ≡ written_over l.fn.plane l.words l.place
