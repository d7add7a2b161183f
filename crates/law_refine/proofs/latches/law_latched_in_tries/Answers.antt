-- The law, by what stands between events.
use Rattle.law_world.specs.Below.fkv_world.Runs.{run}
use Rattle.law_refine.specs.Latches.Shows.{seen_by_latches}
use Rattle.law_refine.proofs.OfLatches.InTries.{holds_beside_none, holds_in_tries}
use Rattle.law_refine.proofs.OfLatches.Permitted.{life_holds}
use Rattle.law_refine.proofs.latches.law_latched_in_tries.Goals as goal

pub returns : goal.returns
returns c = record {
  shares = λ first events session s opened found. holds_in_tries (run first events).now (seen_by_latches first events) session s (life_holds first events opened) found;
  beside_none = λ first events place i j s t opened at other alone. holds_beside_none (run first events).now (seen_by_latches first events) place i j s t (life_holds first events opened) at other alone;
}
