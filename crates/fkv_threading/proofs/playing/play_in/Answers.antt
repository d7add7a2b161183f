-- Each thread gives back what its session was told, and the keeper stays the one at this table.
use Rattle.std.proofs.Common.{◌∙◌, subst}
use Rattle.fkv_threading.specs.Told.{IsKept}
use Rattle.fkv_threading.proofs.playing.play_in.Goals as goal

pub returns-clause-ok : goal.returns-clause-ok
returns-clause-ok g c = record {
  count = c.in_ok-logs.ensures.count ∙ c.in_ok-handles.ensures.count;
  each = c.in_ok-logs.ensures.told;
  kept = subst (λ k. IsKept g.D.Device k c.args.keeping.first c.play_keeper-keeper.result.device c.play_keeper-keeper.result.finished c.play_keeper-keeper.result.begun c.play_keeper-keeper.result.fault) c.requires.keeper c.play_keeper-keeper.ensures;
}
