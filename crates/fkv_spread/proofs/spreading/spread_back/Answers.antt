-- What was gathered is spread again.
use Rattle.std.proofs.Common.{◌*◌, ◌%◌, ◌^◌, ◌∙◌, ap}
use Rattle.fkv_spread.specs.Spreading.{folded, spread_word}
use Rattle.fkv_spread.proofs.Folds.{spread-gathered}
use Rattle.fkv_spread.proofs.spreading.spread_back.Goals as goal

pub returns-clause-back : goal.returns-clause-back
returns-clause-back c = ap spread_word (c.folded-2.ensures ∙ ap (λ n. folded (n * 17428512612931826493 % 2 ^ 64)) c.folded.ensures) ∙ spread-gathered c.args.word c.ranges.word.fits
