-- The law, by what the contracts say of each life.
use Rattle.law_answers.proofs.OfAnswered.Tells.{goes_on, goes_on_alone}
use Rattle.law_answers.proofs.answered.law_life_goes_on.Goals as goal

pub returns-clause-step : goal.returns-clause-step
returns-clause-step g c = λ opening start events its after told life step still.
    goes_on g.D.Device.honest g.D.Device.seen g.D.Device.may_leave g.D.Device.failed g.D.Device.refuses opening start events c.args.world.now after told life g.D.Device.expects its step still

pub returns-clause-finish : goal.returns-clause-finish
returns-clause-finish g c = λ opening start events actor after told life alone still.
    goes_on_alone g.D.Device.honest g.D.Device.seen g.D.Device.may_leave g.D.Device.failed g.D.Device.refuses opening start events c.args.world.now after told life actor alone still
