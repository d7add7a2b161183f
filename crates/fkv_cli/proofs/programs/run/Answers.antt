use Rattle.fkv_cli.proofs.Words.{refusal_breaks, refuses_words, runs_words, words_break}
use Rattle.fkv_cli.proofs.programs.run.Goals as goal

pub returns-in-Ok-clause-whole : goal.returns-in-Ok-clause-whole
returns-in-Ok-clause-whole g c = runs_words _ _ _ c.in-Ok.options _ _ _ _ c.in-Ok.ensures c.status_of.ensures c.run_with-ended.ensures.whole

pub returns-in-Ok-clause-part : goal.returns-in-Ok-clause-part
returns-in-Ok-clause-part g c = words_break _ _ _ c.in-Ok.options _ _ _ _ c.in-Ok.ensures c.status_of.ensures c.run_with-ended.ensures.part

pub returns-in-Err-clause-whole : goal.returns-in-Err-clause-whole
returns-in-Err-clause-whole g c other =
    let told = c.refuse_words.ensures.whole other in
    refuses_words _ _ _ c.in-Err.fault _ _ _ c.in-Err.ensures other told.0 told.1

pub returns-in-Err-clause-part : goal.returns-in-Err-clause-part
returns-in-Err-clause-part g c four = refusal_breaks _ _ _ c.in-Err.fault _ _ c.in-Err.ensures (c.refuse_words.ensures.part four)
