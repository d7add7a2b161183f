-- The handle's call is that of the keeper that it holds.
use Rattle.fkv_handles.proofs.keepers.Keeper.ask_trim.Goals as goal

pub returns-in-Some : goal.returns-in-Some
returns-in-Some c = record { begun = rw c.in-Some.is c.ask_trim.ensures.asked }
