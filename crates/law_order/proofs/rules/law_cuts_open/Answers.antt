-- By the words that an opened store tells.
use Rattle.std.specs.Prelude.{[]}
use Rattle.law_order.proofs.OfRules.Cuts.{cuts_open, durable_opens}
use Rattle.law_order.proofs.rules.law_cuts_open.Goals as goal

pub returns-clause-words : goal.returns-clause-words
returns-clause-words c = λ o n its. (c.law_guard_opens.ensures o n [] its).now.words.enough_words

pub returns-clause-cuts : goal.returns-clause-cuts
returns-clause-cuts c = λ o n its. cuts_open o n its (c.law_words_open.ensures.words o n its)

pub returns-clause-durable : goal.returns-clause-durable
returns-clause-durable c = λ o n its. durable_opens o n its (c.law_words_open.ensures.words o n its)
