-- The handle's call is that of the keeper that it holds.
use Rattle.fkv_handles.proofs.keepers.Keeper.turn.Goals as goal

pub returns-in-Some : goal.returns-in-Some
returns-in-Some c = record { turned = rw c.in-Some.is c.drive.ensures.driven }
