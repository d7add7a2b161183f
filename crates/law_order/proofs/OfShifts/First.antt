-- As a life begins no attempt has shifted.
use Rattle.std.proofs.Common.{refl}
use Rattle.law_commit.specs.Below.fkv_world.OwnEvents.{session_events}
use Rattle.law_commit.specs.Below.fkv_world.Runs.{World}
use Rattle.law_commit.specs.Shares.Waiting.{has_shifted}
use Rattle.law_order.specs.Apart.Lives.{NoneHasShifted}
use Rattle.std.specs.Prelude.{[]}

pub none_first : (opening : World) → NoneHasShifted opening []
unfolding session_events has_shifted
none_first opening session first was = refl
