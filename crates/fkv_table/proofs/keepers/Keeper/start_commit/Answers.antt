-- A commit's start, and its steps to their end.
use Rattle.std.proofs.Common.{◌∙◌, sym, ap, subst}
use Rattle.fkv_keeper.specs.Keeping.{KeeperModel}
use Rattle.fkv_keeper.specs.KeeperRun.{is_in_hand}
use Rattle.fkv_table.specs.Keeps.{IsKeeping}
use Rattle.fkv_table.specs.Planes.{opening_of}
use Rattle.fkv_table.proofs.KeeperCalled.{kept_so, over_idle}
use Rattle.fkv_table.proofs.KeeperCommits.{commit_calls, commit_over, leaves_device}
use Rattle.fkv_table.proofs.keepers.Keeper.start_commit.Goals as goal

pub begin_told-requires-clause-over : goal.begin_told-requires-clause-over
begin_told-requires-clause-over g c =
    commit_over c.word_steps.new.machine c.word_steps.result (c.word_steps.ensures.beginning c.begin_commit.ensures.beginning) c.word_steps.ensures.told

pub begin_told-requires-clause-idle : goal.begin_told-requires-clause-idle
begin_told-requires-clause-idle g c =
    over_idle (opening_of g.D.Device.seen) _ _ _ c.requires.ready.opened.opening c.word_steps.ensures.keeping
    (commit_over c.word_steps.new.machine c.word_steps.result (c.word_steps.ensures.beginning c.begin_commit.ensures.beginning) c.word_steps.ensures.told)

pub returns-clause-kept : goal.returns-clause-kept
returns-clause-kept g c =
    kept_so (opening_of g.D.Device.seen) _ _ _ c.args.self.now.machine _ _ c.requires.ready.keeping c.begin_commit.ensures.noted c.word_steps.ensures.went

pub returns-clause-device : goal.returns-clause-device
returns-clause-device g c =
    leaves_device (opening_of g.D.Device.seen) _ _ _
    (c.word_steps.ensures.calls ∙ commit_calls (opening_of g.D.Device.seen) _ _ _ c.args.self.now.machine c.args.kind c.requires.ready.opened.opening c.requires.ready.keeping c.begin_commit.ensures.noted)

pub returns-clause-ready : goal.returns-clause-ready
returns-clause-ready g c =
    let r = c.requires.ready in
    let same = c.begin_told.ensures.same in
    let over = commit_over c.word_steps.new.machine c.word_steps.result (c.word_steps.ensures.beginning c.begin_commit.ensures.beginning) c.word_steps.ensures.told in
    record {
      opened = r.opened;
      same_table = c.word_steps.ensures.seat.0 ∙ (c.begin_commit.ensures.seat.0 ∙ r.same_table);
      keeping = subst (λ (k : KeeperModel). IsKeeping (opening_of g.D.Device.seen) c.args.table.now.table.shared.key c.word_steps.new.seat.me k) (sym same) c.word_steps.ensures.keeping;
      idle = ap (λ (k : KeeperModel). is_in_hand k.state.step) same ∙ over_idle (opening_of g.D.Device.seen) _ _ _ r.opened.opening c.word_steps.ensures.keeping over;
    }
