-- The law, by the keeper's own events.
use Rattle.fkv_core.proofs.Unswept.{unswept_keeps}
use Rattle.fkv_core.proofs.laws.law_unswept.Goals as goal

pub returns : goal.returns
returns c = unswept_keeps
