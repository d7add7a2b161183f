use Rattle.std.proofs.Common.{◌≡◌, ◌++◌}
use Rattle.fkv_core.specs.OpeningWords.{words_of_sessions, words_once}
use Rattle.fkv_core.proofs.opening_words.words_in_order.Given as goal

abbrev pub invariant-loop-session : goal.invariant-loop-session
invariant-loop-session l = l.words.items ≡ words_once l.opened l.index.taken ++ words_of_sessions l.opened l.session
