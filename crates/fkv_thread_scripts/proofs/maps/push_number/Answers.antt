-- A session without a log or a point adds nothing.
use Rattle.fkv_thread_scripts.proofs.Pushed.{without_log, without_point}
use Rattle.fkv_thread_scripts.proofs.maps.push_number.Goals as goal

pub returns-in_default-clause-ok : goal.returns-in_default-clause-ok
returns-in_default-clause-ok c = without_log _ _ _ _ c.in_default.ensures'.lookup.0

pub returns-in_default-2-clause-ok : goal.returns-in_default-2-clause-ok
returns-in_default-2-clause-ok c = without_point _ _ _ _ c.in_default.ensures.lookup.0
