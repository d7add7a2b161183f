use Rattle.std.proofs.Common.{arith, refl}
use Rattle.fkv_words.specs.Layout.{phase_word}
use Rattle.fkv_words.proofs.Spelled.{reads_made}
use Rattle.fkv_words.proofs.Apart.{phase_apart}
use Rattle.fkv_words.proofs.phase_word.PhaseWord.unpack.Goals as goal

pub returns : goal.returns
returns c = reads_made phase_word phase_apart _ c.args.word (let number = (c.in_ok-phase.ensures c.in_ok-phase.phase).0 refl in omega arith)
