-- Each piece computes.
use Rattle.std.proofs.Common.{refl}
use Rattle.fkv_words.specs.PhaseWords.{phase_said}
use Rattle.law_commit.specs.Worked.{RanksInTurn, CountsUpto, ViewsChange, RaisesChange, BegunChange, OpenedWith, AskedChanges, ToldChanges}

pub ranks_so : RanksInTurn
ranks_so = record { rests = refl; prepares = refl; in_progress = refl; wait_pending = refl; wait_flush = refl; rests_again = refl; of_prepare = refl; of_in_progress = refl }

pub counts_so : CountsUpto
counts_so = refl

pub views_so : ViewsChange
unfolding phase_said
views_so = record {
  refreshes = λ c epoch. refl;
  wakes = λ c. refl;
  loads_others = λ c. refl;
  cuts = λ c. refl;
  comes = λ view. refl;
  spoiled = λ view. refl;
  goes_on = λ its cause. refl;
  completes = λ view next told. refl;
}

pub raises_so : RaisesChange
raises_so = record {
  first = λ slot epoch action its. refl;
  second = λ slot epoch action its. refl;
  third = λ slot epoch action its. refl;
  turn = λ slot epoch action its. refl;
  loads = λ place epoch its. refl;
  finish = λ full its. refl;
  unfinished = λ full its. refl;
}

pub begun_so : BegunChange
begun_so = record {
  opens = λ s c done before. refl;
  seals = λ s c before. refl;
  fails = λ s before. refl;
  writes = λ s done before. refl;
  finishes = λ c before full. refl;
  goes_on = λ before. refl;
}

pub opened_so : OpenedWith
opened_so = record { full = λ last used. refl; log = λ last used. refl; full_triples = refl; log_triples = refl; end = λ n opened. refl }

pub asked_so : AskedChanges
asked_so = record { asks = λ n before. refl; in_hand = λ n c before. refl; turns = λ n before. refl }

pub told_so : ToldChanges
told_so = record { told = λ last. refl; others = λ last. refl }
