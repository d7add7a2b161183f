-- The law, part by part.
use Rattle.std.proofs.Common.{arith}
use Rattle.fkv_base.specs.declared.classes.StoreClass.TheVariants.{Specified}
use Rattle.fkv_marks.proofs.Shown.{mark_small, marks_differ, oldest_some, version_told, window_small}
use Rattle.law_marks.proofs.Words.{come_again, cuts_show, headers_show, phases_show}
use Rattle.law_marks.proofs.laws.law_marks.Goals as goal

pub returns-clause-headers : goal.returns-clause-headers
returns-clause-headers c = headers_show

pub returns-clause-cuts : goal.returns-clause-cuts
returns-clause-cuts c = cuts_show

pub returns-clause-phases : goal.returns-clause-phases
returns-clause-phases c = phases_show

pub returns-clause-stay : goal.returns-clause-stay
returns-clause-stay c = λ version few. mark_small version (omega (arith, few))

pub returns-clause-again : goal.returns-clause-again
returns-clause-again c = come_again

pub returns-clause-near : goal.returns-clause-near
returns-clause-near c = marks_differ

pub returns-clause-window : goal.returns-clause-window
returns-clause-window c = λ class checkpoint number version within old new.
    let some = oldest_some class checkpoint in
    version_told number _ version (omega (arith, some)) within old new

pub returns-clause-specified : goal.returns-clause-specified
returns-clause-specified c = λ checkpoint number few. window_small Specified checkpoint number few
