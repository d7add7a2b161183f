use Rattle.std.proofs.Common.{arith}
use Rattle.fkv_words.specs.Layout.{cut_word}
use Rattle.fkv_words.proofs.Spelled.{reads_made}
use Rattle.fkv_words.proofs.Apart.{cut_apart}
use Rattle.fkv_words.proofs.cut_word.CutWord.unpack.Goals as goal

pub returns : goal.returns
returns c = reads_made cut_word cut_apart _ c.args.word (omega arith)
