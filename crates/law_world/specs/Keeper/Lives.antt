-- A life for the keeper, in the words of the laws of the keeper.
use Rattle.std.specs.Prelude.{ℕ, Bool, List, Option}
use Rattle.fkv_keeper.specs.CheckpointLaws.{BegunWith, begun_with, copy_replies}
use Rattle.fkv_keeper.specs.KeeperRun.{KeeperEvent, Writing, keeper_run, writing}
use Rattle.fkv_keeper.specs.Keeping.{KeeperState}
use Rattle.law_world.specs.Standing.Opening.{AreNumbersInTurn, IsToldBy}
use Rattle.law_world.specs.Standing.Standing.{Standing, is_writing, standing}
use Rattle.fkv_world.specs.Opened.{IsOpenedWorld}
use Rattle.fkv_world.specs.OwnEvents.{keeper_events}
use Rattle.fkv_world.specs.Runs.{World}
use Rattle.fkv_world.specs.World.{Event}

-- the keeper of a world after these events of its own
abbrev pub keeper_after : World → List KeeperEvent → KeeperState
keeper_after opening own = keeper_run opening.now.shape opening.now.places opening.now.keeper own

-- the replies that its last copy had by then, and the commit that had begun last
abbrev pub replies_copied : World → List KeeperEvent → List ℕ
replies_copied opening own = copy_replies opening.now.shape opening.now.places opening.now.keeper own

abbrev pub begun_last : World → List KeeperEvent → Option BegunWith
begun_last opening own = begun_with opening.now.shape opening.now.places opening.now.keeper own

-- what it is told to write in a life, and the answers since then
abbrev pub life_writing : World → List Event → Writing
life_writing opening events = writing opening.now.shape opening.now.places opening.now.keeper (keeper_events opening events)

-- what stands of the newest finished commit, and whether the next one is being written
abbrev pub life_standing : World → List Event → Standing
life_standing opening events = standing opening.now.shape opening.now.places opening.past.opened opening.now.keeper (keeper_events opening events)

abbrev pub is_life_writing : World → List Event → Bool
is_life_writing opening events = is_writing opening.now.shape opening.now.places opening.now.keeper (keeper_events opening events)

-- A life of an opened world whose keeper was told the truth of what the device held, and in which each commit that begins has the number behind
-- the newest finished one's.
pub record IsLifeTold (opening : World) (events : List Event) : Type 0 where
  pub opened : IsOpenedWorld opening
  pub told : IsToldBy opening.now.shape opening.now.places opening.past.opened opening.now.keeper
  pub in_turn : AreNumbersInTurn opening.now.shape opening.now.places opening.now.keeper (keeper_events opening events)
