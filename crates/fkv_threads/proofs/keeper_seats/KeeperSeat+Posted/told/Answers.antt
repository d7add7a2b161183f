-- The call that was posted is answered, and the turn goes on.
use Rattle.std.proofs.Common.{sym, ◌∙◌}
use Rattle.std.proofs.lemmas.Bool.{false≢true}
use Rattle.fkv_threads.proofs.keeper_seats.KeeperSeat+Posted.told.Goals as goal

pub returns : goal.returns
returns c = record {
  told = rw (← c.self.view_is) (record {
    answers = λ _. let s = c.step.ensures.stepped in record {
      medium = c.tell.new.self;
      told_to = record { its = c.tell.ensures.told; shown = c.tell.ensures.shown; opened = c.tell.ensures.opened; outcomes = c.tell.ensures.outcomes; failures = c.tell.ensures.failures };
      stepped = record { same = record { key = s.same.key; table = s.same.table }; called = s.called; went = s.went; due = s.due; counted = s.counted; fewer = s.fewer; moments = s.moments; recovered = s.recovered; driven = s.driven };
    };
    begins = λ idle. absurd (false≢true (sym idle ∙ c.if-not-self.false));
  });
}
