-- The law, by how calls end in every life.
use Rattle.law_answers.proofs.OfAnswered.Tells.{keeper_told, session_tells}
use Rattle.law_answers.proofs.answered.law_finish_tells.Goals as goal

pub returns-clause-session : goal.returns-clause-session
returns-clause-session g c = λ opening start events number after told life busy its.
    session_tells g.D.Device.honest g.D.Device.seen g.D.Device.may_leave g.D.Device.failed g.D.Device.refuses opening start events c.args.world.now after told life
    c.law_world_ends.ensures.over c.law_world_ends.ensures.few c.law_world_ends.ensures.few_of_shape number busy its

pub returns-clause-keeper : goal.returns-clause-keeper
returns-clause-keeper g c = λ opening start events after told life seeks busy its.
    keeper_told g.D.Device.honest g.D.Device.seen g.D.Device.may_leave g.D.Device.failed g.D.Device.refuses opening start events c.args.world.now after told life
    c.law_world_ends.ensures.keeper_over c.law_world_ends.ensures.keeper_few c.law_world_ends.ensures.keeper_few_of_store seeks busy its
