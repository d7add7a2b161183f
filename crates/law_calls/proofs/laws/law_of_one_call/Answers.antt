-- The law, by the keeper's ask.
use Rattle.law_calls.proofs.Steps.{steps_make_one}
use Rattle.law_calls.proofs.laws.law_of_one_call.Goals as goal

pub returns : goal.returns
returns g c = λ its n after told was is step. steps_make_one n its step.granted step.done _ _ _ _ step.uses
