-- The worked runs, computed.
use Rattle.std.proofs.Common.{refl}
use Rattle.law_log.proofs.Worked.{worked_opened, worked_enabled, both_adds_wrong, both_adds_late, stale_read}
use Rattle.law_log.specs.Ghosts.{ghosts_after, ghost_run, set_at}
use Rattle.law_log.proofs.laws.law_of_worked_runs.Goals as goal

pub returns-clause-kept : goal.returns-clause-kept
unfolding ghosts_after ghost_run set_at
returns-clause-kept c = record { opened = worked_opened; enabled = worked_enabled; key_5 = refl; key_6 = refl }

pub returns-clause-fixed : goal.returns-clause-fixed
returns-clause-fixed c = both_adds_wrong

pub returns-clause-copied : goal.returns-clause-copied
returns-clause-copied c = both_adds_late

pub returns-clause-stale : goal.returns-clause-stale
returns-clause-stale c = stale_read
