-- Each start, and a call of the device.
use Rattle.law_world.proofs.OfRuns.Starts.{call_starts, commit_starts, device_called, turn_starts}
use Rattle.law_world.proofs.runs.law_of_starts.Goals as goal

pub returns-clause-call : goal.returns-clause-call
returns-clause-call c = λ w session call its alive found. call_starts w session call its alive found

pub returns-clause-commit : goal.returns-clause-commit
returns-clause-commit c = λ w kind alive. commit_starts w kind alive

pub returns-clause-turn : goal.returns-clause-turn
returns-clause-turn c = λ w alive. turn_starts w alive

pub returns-clause-device : goal.returns-clause-device
returns-clause-device c = λ w granted done alive asks. device_called w granted done alive asks
