use Rattle.std.proofs.Common.{rules, ℕ, List, ◌==◌, length}
use Rattle.std.specs.Prelude.{not}
use Rattle.std.proofs.lemmas.Iterator.Consumers.{map_from_collect, YieldsList-from_filter}
use Rattle.std.proofs.lemmas.Iterator.Splits.{YieldsList-from_slice_split}
use Rattle.fkv_lines.specs.Words.{words_of}
use Rattle.fkv_lines.proofs.reading.words.words_of.Goals as goal

pub returns : goal.returns
unfolding words_of
returns c =
    map_from_collect _ c.collect.ensures.ran
    (YieldsList-from_filter _ (λ (word : List ℕ). not (length word == 0))
    (YieldsList-from_slice_split _ (λ byte. byte == 32) c.args.line.now (cc) (cc) (cc) (λ x b q k. search rules))
    (cc) (λ x b q k. search rules))
