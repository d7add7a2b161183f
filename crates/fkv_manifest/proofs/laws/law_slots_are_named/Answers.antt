use Rattle.fkv_manifest.proofs.Spelled.{slot_spelled, newest_spelled}
use Rattle.fkv_manifest.proofs.laws.law_slots_are_named.Goals as goal

pub returns-clause-first : goal.returns-clause-first
returns-clause-first c = slot_spelled

pub returns-clause-newest : goal.returns-clause-newest
returns-clause-newest c = newest_spelled
