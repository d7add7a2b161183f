-- The law, by the event that took place.
use Rattle.law_answers.proofs.OfEffects.Stepped.{tells_effect, tells_last}
use Rattle.law_answers.proofs.effects.law_step_tells_effect.Goals as goal

pub returns-clause-newest_first : goal.returns-clause-newest_first
returns-clause-newest_first g c = λ opening start events its after told life step.
    tells_effect g.D.Device.honest g.D.Device.seen g.D.Device.may_leave g.D.Device.failed g.D.Device.refuses g.D.Device.expects c.law_effects_told.ensures.behind opening start events its c.args.world.now after told life step

pub returns-clause-oldest_first : goal.returns-clause-oldest_first
returns-clause-oldest_first g c = λ opening start events its after told life step.
    tells_last g.D.Device.honest g.D.Device.seen g.D.Device.may_leave g.D.Device.failed g.D.Device.refuses g.D.Device.expects c.law_effects_told.ensures.behind opening start events its c.args.world.now after told life step
