-- What a write of the commit does to the device is the keeper's one call.
use Rattle.std.proofs.Common.{true, false}
use Rattle.fkv_manifest.specs.Committing.{commit_call}
use Rattle.fkv_keeper.proofs.KeeperDevice.{does_adds}
use Rattle.fkv_keeper.proofs.keepers.Keeper.call_for_commit.Goals as goal

pub returns-in-Ok-clause-calls : goal.returns-in-Ok-clause-calls
returns-in-Ok-clause-calls g c honest = rw (← c.self.view_is) (does_adds (commit_call c.self.inside.writes true) _ _ _ _ (c.in-Ok.ensures.does honest))

pub returns-in-Err-clause-calls : goal.returns-in-Err-clause-calls
returns-in-Err-clause-calls g c honest = rw (← c.self.view_is) (does_adds (commit_call c.self.inside.writes false) _ _ _ _ (c.in-Err.ensures.does honest))
