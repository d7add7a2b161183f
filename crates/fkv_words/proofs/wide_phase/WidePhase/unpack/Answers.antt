use Rattle.std.proofs.Common.{arith, refl}
use Rattle.fkv_words.specs.Layout.{wide_word}
use Rattle.fkv_words.proofs.Spelled.{reads_made}
use Rattle.fkv_words.proofs.Apart.{wide_apart}
use Rattle.fkv_words.proofs.wide_phase.WidePhase.unpack.Goals as goal

pub returns : goal.returns
returns c = reads_made wide_word wide_apart _ c.args.word (let number = (c.in_ok-phase.ensures c.in_ok-phase.phase).0 refl in omega arith)
