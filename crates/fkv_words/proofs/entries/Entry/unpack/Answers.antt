use Rattle.std.proofs.Common.{arith}
use Rattle.fkv_words.specs.Layout.{entry_word}
use Rattle.fkv_words.proofs.Spelled.{reads_made}
use Rattle.fkv_words.proofs.Apart.{entry_apart}
use Rattle.fkv_words.proofs.entries.Entry.unpack.Goals as goal

pub returns : goal.returns
returns c = reads_made entry_word entry_apart _ c.args.word (omega arith)
