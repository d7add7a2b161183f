-- The commits that have finished, and those of which callers were told, each by its number and its points.
use Rattle.std.specs.Prelude.{true, if◌then◌else◌, List, [], ◌∷◌}
use Rattle.fkv_base.specs.declared.numbers.Serial.{Serial}
use Rattle.fkv_base.specs.declared.numbers.Version.{Version}
use Rattle.law_refine.specs.Below.fkv_keeper.Keeping.{Finality}
use Rattle.law_refine.specs.Below.fkv_keeper.KeeperTold.TheVariants.{Turned}
use Rattle.law_refine.specs.Below.fkv_world.Past.{Traced, TraceEvent, KeeperAnswered}
use Rattle.law_commit.specs.BegunCommits.{BegunCommit}

-- what is told of a commit that has finished
pub record ToldCommit : Type 0 where
  pub number : Version
  pub points : List Serial

abbrev pub told_of : Finality → ToldCommit
told_of last = record { number = last.number; points = last.points }

-- each list has the newest first
abbrev pub commits_finished : List BegunCommit → List ToldCommit
commits_finished [] = []
commits_finished (c ∷ before) = if c.is_finished then record { number = c.number; points = c.points } ∷ commits_finished before else commits_finished before

-- the answer to a turn that finishes one tells it
abbrev pub with_told : TraceEvent → List ToldCommit → List ToldCommit
with_told (KeeperAnswered (Turned true full) last) before = told_of last ∷ before
with_told event before = before

-- in a trace, before these
abbrev pub commits_told : List Traced → List ToldCommit → List ToldCommit
commits_told [] first = first
commits_told (it ∷ before) first = with_told it.its (commits_told before first)
