-- What was spread is gathered again.
use Rattle.std.proofs.Common.{◌*◌, ◌%◌, ◌^◌, ◌∙◌, ap}
use Rattle.fkv_spread.specs.Spreading.{folded, gathered_word}
use Rattle.fkv_spread.proofs.Folds.{gathered-spread}
use Rattle.fkv_spread.proofs.spreading.spread.Goals as goal

pub returns-clause-back : goal.returns-clause-back
returns-clause-back c = ap gathered_word (c.folded-2.ensures ∙ ap (λ n. folded (n * 11400714819323198485 % 2 ^ 64)) c.folded.ensures) ∙ gathered-spread c.args.key c.ranges.key.fits
