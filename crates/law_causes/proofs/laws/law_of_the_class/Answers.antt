-- What happens leaves the class as it was opened.
use Rattle.std.proofs.Common.{◌∙◌}
use Rattle.fkv_keeper.proofs.Shown.{run_class}
use Rattle.law_causes.proofs.laws.law_of_the_class.Goals as goal

pub returns : goal.returns
returns c = λ shape p last lost k events opened. run_class shape p k.state events ∙ opened.class
