-- The law, by what sessions have loaded and asked for.
use Rattle.law_opening.proofs.OfChanges.OfFits.Life.{life_fits}
use Rattle.law_opening.proofs.fitting.law_logs_fit.Goals as goal

pub returns : goal.returns
returns c = λ opening start lists ghosts events begins fits. life_fits opening start lists ghosts begins c.law_world_flushed_is_synced.ensures.calls c.law_mail.ensures.words events fits
