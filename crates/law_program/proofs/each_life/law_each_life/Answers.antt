-- The law, by what a device holds.
use Rattle.law_program.proofs.OfPlayedCalls.Lives.{crashes_go_on, lives_begin}
use Rattle.law_program.proofs.each_life.law_each_life.Goals as goal

pub returns : goal.returns
returns g c = record { begin = lives_begin _ _ _ _; crashes = crashes_go_on _ _ _ _ c.law_log_opened.ensures.pairs }
