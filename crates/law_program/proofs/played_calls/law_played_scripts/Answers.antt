-- The law, line by line.
use Rattle.law_program.proofs.OfPlayedCalls.Replies.{lines_reply}
use Rattle.law_program.proofs.OfPlayedCalls.Scripts.{files_play_map, lives_play_map, new_stores_play_map}
use Rattle.law_program.proofs.OfPlayedCalls.Steps.{engine_rules}
use Rattle.law_program.proofs.played_calls.law_played_scripts.Goals as goal

pub returns-clause-lives : goal.returns-clause-lives
returns-clause-lives g c = lives_play_map _ (lines_reply c.law_order.ensures.legal c.law_order.ensures.ordered c.law_order.ensures.fresh c.law_whole_calls.ensures _ (engine_rules _ _ _ _ _ _ _))

pub returns-clause-new : goal.returns-clause-new
returns-clause-new g c =
    new_stores_play_map _ c.law_log_opened.ensures.pairs
    (lines_reply c.law_order.ensures.legal c.law_order.ensures.ordered c.law_order.ensures.fresh c.law_whole_calls.ensures _ (engine_rules _ _ _ _ _ _ _))

pub returns-clause-files : goal.returns-clause-files
returns-clause-files g c = files_play_map _ (lines_reply c.law_order.ensures.legal c.law_order.ensures.ordered c.law_order.ensures.fresh c.law_whole_calls.ensures _ (engine_rules _ _ _ _ _ _ _))
