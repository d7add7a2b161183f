-- The law, part by part.
use Rattle.law_opening.proofs.OfLives.CommitStands.{life_told, steps_keep}
use Rattle.law_opening.proofs.lives.law_opened_commit_stands.Goals as goal

pub returns-clause-told : goal.returns-clause-told
returns-clause-told g c = λ bytes o n events from in_turn. life_told o n bytes events from in_turn

pub returns-clause-stands : goal.returns-clause-stands
returns-clause-stands g c = λ o n steps image its left. steps_keep g.D.Device.seen g.D.Device.may_leave o n c.args.device.now steps its image left
