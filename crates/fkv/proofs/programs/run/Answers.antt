use Rattle.std.proofs.Common.{ap}
use Rattle.fkv.proofs.AllLives.{writes_all_lives}
use Rattle.fkv.proofs.FewCalls.{seats_in}
use Rattle.fkv.proofs.FileReplies.{writes_file_map}
use Rattle.fkv.proofs.Lives.{writes_in_lives}
use Rattle.fkv.proofs.Replies.{writes_map}
use Rattle.fkv.proofs.programs.run.Goals as goal

pub returns-clause-replies : goal.returns-clause-replies
returns-clause-replies g c = writes_map _ _ _ c.run.result _ _ c.run.ensures.whole c.law_played_scripts.ensures.new

pub returns-clause-file_replies : goal.returns-clause-file_replies
returns-clause-file_replies g c = writes_file_map _ _ _ c.run.result _ _ c.run.ensures.whole c.law_new_files.ensures.plays

pub returns-clause-each_line : goal.returns-clause-each_line
returns-clause-each_line g c = c.law_each_line.ensures (λ device. tt)

pub returns-clause-runs : goal.returns-clause-runs
returns-clause-runs g c =
    c.law_lives_joined.ensures (λ device. tt) (λ count waits its before after armed shown. c.law_arming.ensures count waits its.bytes its.opened its.first its.events before after armed shown)
    (λ count waits before after armed. ap seats_in armed.same)

pub returns-clause-in_lives : goal.returns-clause-in_lives
returns-clause-in_lives g c =
    writes_in_lives _ _ _ _ _ c.run.result _ _ c.run.ensures.whole c.law_each_life.ensures.begin
    (c.law_lives_joined.ensures (λ device. tt) (λ count waits its before after armed shown. c.law_arming.ensures count waits its.bytes its.opened its.first its.events before after armed shown)
    (λ count waits before after armed. ap seats_in armed.same))

pub returns-clause-all_lives : goal.returns-clause-all_lives
returns-clause-all_lives g c =
    writes_all_lives _ _ _ _ _ c.run.result _ _ c.run.ensures.whole (c.law_all_lives.ensures (λ device. tt) (λ count waits its before after armed shown. c.law_arming_shown.ensures count waits its before after armed shown)
    (λ count waits before after armed. ap seats_in armed.same)
    (λ count waits before after armed. c.law_arming_noted.ensures count waits before after armed))
