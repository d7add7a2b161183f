use Rattle.std.proofs.Common.{arith}
use Rattle.fkv_words.specs.Layout.{header_word}
use Rattle.fkv_words.proofs.Bits.{bit_is}
use Rattle.fkv_words.proofs.Spelled.{reads_made}
use Rattle.fkv_words.proofs.Apart.{header_apart}
use Rattle.fkv_words.proofs.headers.Header.unpack.Goals as goal

pub returns : goal.returns
returns c = reads_made header_word header_apart _ c.args.word (let bit = bit_is c.field-3.result (omega arith) in omega arith)
