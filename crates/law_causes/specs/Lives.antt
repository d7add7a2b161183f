-- A life for the keeper, in the words of its causes.
use Rattle.std.specs.Prelude.{List, Option}
use Rattle.fkv_base.specs.declared.commits.CommitKind.{CommitKind}
use Rattle.fkv_commit.specs.Exchanges.{Exchange}
use Rattle.fkv_keeper.specs.DrainLaws.{call_told}
use Rattle.fkv_keeper.specs.Keeping.{KeeperState}
use Rattle.fkv_keeper.specs.KeeperRun.{KeeperEvent, keeper_run}
use Rattle.fkv_world.specs.Runs.{World}
use Rattle.law_causes.specs.Causes.{kind_asked}

-- the keeper of a world after these events of its own
abbrev pub keeper_before : World → List KeeperEvent → KeeperState
keeper_before opening own = keeper_run opening.now.shape opening.now.places opening.now.keeper own

-- the kind of the commit that was asked for last, and what the call that has begun last has asked and was replied
abbrev pub kind_of_life : World → List KeeperEvent → Option CommitKind
kind_of_life opening own = kind_asked opening.now.shape opening.now.places opening.now.keeper own

abbrev pub told_in_life : World → List KeeperEvent → List Exchange
told_in_life opening own = call_told opening.now.shape opening.now.places opening.now.keeper own
