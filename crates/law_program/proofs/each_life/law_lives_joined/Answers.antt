-- The law, by those of lines and of lives.
use Rattle.law_program.proofs.OfPlayedCalls.Runs.{runs_go_on}
use Rattle.law_program.proofs.each_life.law_lives_joined.Goals as goal

pub returns : goal.returns
returns g c = λ all arms seats settings. let beats = c.law_interleaved.ensures in runs_go_on _ _ _ settings (c.law_each_line.ensures all) c.law_each_life.ensures.crashes arms (beats.groups all) (beats.finishes all) beats.quiet beats.queues (λ device image left. left) seats
