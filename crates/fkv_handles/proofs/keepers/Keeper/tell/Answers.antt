-- The handle's call is that of the keeper that it holds.
use Rattle.fkv_handles.proofs.keepers.Keeper.tell.Goals as goal

pub returns-in-Some : goal.returns-in-Some
returns-in-Some c = record { told = rw c.in-Some.is c.told.ensures.told }
