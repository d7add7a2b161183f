-- The law, by what the store was opened with.
use Rattle.std.proofs.Common.{⊎_elim, sym, ◌∙◌, arith}
use Rattle.std.proofs.lemmas.Bool.{cases_lt}
use Rattle.law_opening.proofs.changing.law_lives_are_above.Goals as goal

pub returns : goal.returns
returns c = λ o n bytes events store world a cell is. ⊎_elim
    (λ old. c.law_log_above.ensures bytes o store a cell (sym (c.law_lives_change_published.ensures.old o n bytes events a store world old) ∙ is))
    (λ new. let begins = o.begin_before_scan in let up = o.upwards in omega (arith, begins, up, new))
    (cases_lt a o.tail.0)
