-- The law, of a call that is moved alone.
use Rattle.law_program.proofs.OfWholeCalls.Calls.{whole_call}
use Rattle.law_program.proofs.whole_calls.law_whole_calls.Goals as goal

pub returns : goal.returns
returns c = λ bytes o n before number moves op s its answer world legal ordered reads nobody alive found is_now at.
    whole_call bytes o n before number moves op s its answer world legal ordered reads nobody alive found is_now at
