-- The law, by the words as they stand one after another, and by what each session has seen.
use Rattle.fkv_core.proofs.OpeningPlaces.{seen_as_told, stand_as_told}
use Rattle.fkv_core.proofs.laws.law_words_open.Goals as goal

pub returns-clause-words : goal.returns-clause-words
returns-clause-words c = λ o n its. stand_as_told o n.words its.its_words

pub returns-clause-seen : goal.returns-clause-seen
returns-clause-seen c = λ o n its session s once own found are told. seen_as_told o session s once own (its.its_sessions session s found) are told
