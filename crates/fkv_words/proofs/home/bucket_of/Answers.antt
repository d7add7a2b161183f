use Rattle.std.proofs.Common.{sym, arith}
use Rattle.fkv_words.proofs.Large.{rem_all}
use Rattle.fkv_words.proofs.home.bucket_of.Goals as goal

pub returns-then-bits-ge64 : goal.returns-then-bits-ge64
returns-then-bits-ge64 c = sym (rem_all c.args.key.0 c.args.bits (omega arith) (omega arith))
