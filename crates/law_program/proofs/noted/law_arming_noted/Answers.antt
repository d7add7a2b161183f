-- By the line.
use Rattle.law_program.proofs.OfPlayedCalls.Checked.{armed_notes}
use Rattle.law_program.proofs.noted.law_arming_noted.Goals as goal

pub returns : goal.returns
returns g c = armed_notes
