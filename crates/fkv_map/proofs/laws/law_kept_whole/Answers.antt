use Rattle.std.proofs.Common.{arith}
use Rattle.fkv_map.proofs.KeptEntries.{kept_all}
use Rattle.fkv_map.proofs.laws.law_kept_whole.Goals as goal

pub returns : goal.returns
returns c = λ history points last. kept_all history points (λ session. omega (arith, last session))
