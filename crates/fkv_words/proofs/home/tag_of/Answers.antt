use Rattle.std.proofs.Common.{arith}
use Rattle.fkv_words.proofs.Large.{div_none}
use Rattle.fkv_words.proofs.home.tag_of.Goals as goal

pub returns-then-bits-ge64 : goal.returns-then-bits-ge64
returns-then-bits-ge64 c = let none = div_none c.args.key.0 c.args.bits (omega arith) (omega arith) in omega arith
