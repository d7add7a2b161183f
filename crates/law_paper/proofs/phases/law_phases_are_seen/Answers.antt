use Rattle.law_paper.proofs.OfPhases.Seen.{run_sound, run_rises, run_floor}
use Rattle.law_paper.proofs.phases.law_phases_are_seen.Goals as goal

pub returns : goal.returns
returns c = record { sound = run_sound; rises = run_rises; floor = run_floor }
