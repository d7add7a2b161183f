-- The law, by that of new stores and that of played scripts.
use Rattle.law_program.proofs.OfPlayedCalls.NewFiles.{begin_quiet, new_files_play_map}
use Rattle.law_program.proofs.new_files.law_new_files.Goals as goal

pub returns-clause-quiet : goal.returns-clause-quiet
returns-clause-quiet g c = begin_quiet c.law_new_stores.ensures.created c.law_new_stores.ensures.holds

pub returns-clause-plays : goal.returns-clause-plays
returns-clause-plays g c = new_files_play_map _ c.law_new_stores.ensures.created c.law_new_stores.ensures.holds c.law_log_opened.ensures.pairs c.law_played_scripts.ensures.files
