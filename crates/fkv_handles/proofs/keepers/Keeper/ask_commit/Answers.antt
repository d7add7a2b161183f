-- The handle's call is that of the keeper that it holds.
use Rattle.fkv_handles.proofs.keepers.Keeper.ask_commit.Goals as goal

pub returns-in-Some : goal.returns-in-Some
returns-in-Some c = record { begun = rw c.in-Some.is c.ask_commit.ensures.asked }
