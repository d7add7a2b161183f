use Rattle.std.proofs.Common.{arith, refl}
use Rattle.fkv_straight.proofs.Tests.{said_plainly}
use Rattle.fkv_straight.proofs.words.header_said.Goals as goal

-- no bit above the version is set
pub returns : goal.returns
returns c = said_plainly c.args.word _ _ (omega arith) (omega arith) c.addr_of-previous.ensures refl
