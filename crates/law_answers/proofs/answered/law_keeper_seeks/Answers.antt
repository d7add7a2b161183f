-- The law, by what a new keeper tells, and the limits of a shape.
use Rattle.std.proofs.Common.{◌≡◌, arith}
use Rattle.law_answers.proofs.answered.law_keeper_seeks.Goals as goal

pub returns-clause-few : goal.returns-clause-few
returns-clause-few c = λ o n its.
    let sought : n.keeper.seek.sessions ≡ o.shape.sessions = its.its_keeper.sought in
    let few = o.shape.limits.few_sessions in
    omega (arith, sought, few)

pub returns-clause-there : goal.returns-clause-there
returns-clause-there c = λ o n its.
    let sought : n.keeper.seek.sessions ≡ o.shape.sessions = its.its_keeper.sought in
    let there : n.places.sessions ≡ o.shape.sessions = its.its_places.sessions in
    omega (arith, sought, there)
