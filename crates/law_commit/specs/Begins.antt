-- Where the logs of the commits that have begun begin.
use Rattle.std.specs.Prelude.{◌≡◌, ◌≤◌, ◌⊎◌, ⊤, ℕ, true, List, [], ◌∷◌, Some}
use Rattle.fkv_base.specs.Limits.{is_specified}
use Rattle.law_refine.specs.Below.fkv_commit.Commit.{Commit}
use Rattle.law_refine.specs.Below.fkv_keeper.SlotLaws.{HasMoved}
use Rattle.law_refine.specs.Below.fkv_world.Opened.{IsOpenedWorld}
use Rattle.law_refine.specs.Below.fkv_world.Runs.{World}
use Rattle.law_refine.specs.Below.fkv_world.World.{Event, Now}
use Rattle.law_refine.specs.Events.Reserved.{tail_at}
use Rattle.law_log.specs.Trace.{IsIn}
use Rattle.law_commit.specs.BegunCommits.{BegunCommit, life_begun}
use Rattle.law_commit.specs.CommitParts.{CommitParts}
use Rattle.law_commit.specs.Decided.Ended.{HadMoment, Span, span_of}
use Rattle.law_commit.specs.Quiet.{OpensQuiet}

-- The commit is in hand. A sweep is done that began where the log of the newest finished commit does, and the commit's log begins at its end.
pub record MovesThen (x : Span) (n : Now) : Type 0 where
  pub commit : Commit
  pub in_hand : n.keeper.commit ≡ Some commit
  pub begin : x.begin ≡ commit.begin
  pub first : x.first ≡ commit.first
  pub moved : HasMoved n.keeper commit

-- its log begins where that of the newest finished commit does, or at the end of such a sweep
abbrev pub BeginsThen : Span → Now → Type 0
BeginsThen x n = (x.begin ≡ n.keeper.last.begin) ⊎ MovesThen x n

-- so it was of each commit that has begun, at a moment of the life
abbrev pub BegunBeginThen : Type 0
BegunBeginThen =
    (opening : World) (events : List Event) (c : BegunCommit) → IsOpenedWorld opening → IsIn c (life_begun opening events)
    → HadMoment (BeginsThen (span_of c)) opening events

-- the log of each begins at or above the begin of the opening's
abbrev pub BegunBeginOn : Type 0
BegunBeginOn =
    (opening : World) (events : List Event) (c : BegunCommit) → IsOpenedWorld opening → IsIn c (life_begun opening events)
    → opening.now.keeper.last.begin.0 ≤ c.parts.begin.0

-- none begins below the one before it
abbrev pub BeginsBehind : BegunCommit → List BegunCommit → Type 0
BeginsBehind c [] = ⊤
BeginsBehind c (earlier ∷ before) = earlier.parts.begin.0 ≤ c.parts.begin.0

abbrev pub NoneBeginsLower : List BegunCommit → Type 0
NoneBeginsLower [] = ⊤
NoneBeginsLower (c ∷ before) = BeginsBehind c before × NoneBeginsLower before

abbrev pub BeginsNeverFall : Type 0
BeginsNeverFall = (opening : World) (events : List Event) → IsOpenedWorld opening → NoneBeginsLower (life_begun opening events)

-- in a specified store the log of each begins where the opening's does
abbrev pub SpecifiedBeginsStay : Type 0
SpecifiedBeginsStay =
    (opening : World) (events : List Event) (c : BegunCommit) → IsOpenedWorld opening → is_specified opening.now.keeper.start.asked.class ≡ true → IsIn c (life_begun opening events)
    → c.parts.begin ≡ opening.now.keeper.last.begin

-- ---- what recovery scans
-- Its log begins at or below its first address, and that of the checkpoint that it uses.
pub record BeginsBelow (x : CommitParts) : Type 0 where
  pub first : x.begin.0 ≤ x.first.0
  pub scan : x.begin.0 ≤ x.checkpoint.first.0

-- A store was just opened at rest, as its sessions have seen. Its checkpoint isn't newer than its commit. Its log begins at or below the first address of that
-- checkpoint, which isn't above the tail.
pub record OpensScanned (opening : World) (start : ℕ) : Type 0 where
  pub quiet : OpensQuiet opening start
  pub no_newer : opening.now.keeper.last.checkpoint.number.0 ≤ opening.now.keeper.last.number.0
  pub before_scan : opening.now.keeper.last.begin.0 ≤ opening.now.keeper.last.checkpoint.first.0
  pub below_tail : opening.now.keeper.last.checkpoint.first.0 ≤ tail_at opening.now

abbrev pub BegunBeginBelow : Type 0
BegunBeginBelow =
    (opening : World) (start : ℕ) (events : List Event) (c : BegunCommit) → OpensScanned opening start → IsIn c (life_begun opening events)
    → BeginsBelow c.parts

-- One that uses the checkpoint with which the store was opened begins where the opening's does: until a full commit is finished no sweep is set.
abbrev pub OldBeginAsOpened : Type 0
OldBeginAsOpened =
    (opening : World) (start : ℕ) (events : List Event) (c : BegunCommit) → OpensScanned opening start → IsIn c (life_begun opening events)
    → c.parts.checkpoint.number ≡ opening.now.keeper.last.checkpoint.number → c.parts.begin ≡ opening.now.keeper.last.begin
