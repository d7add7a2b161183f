-- The points that commits take: the keeper makes them of cut words that it loads at different moments, and they are the sessions' points.
use Rattle.std.specs.Prelude.{◌≡◌, ◌⊎◌, ◌+◌, ◌≤◌, ℕ, true, false, List, [], ◌∷◌, ◌++◌, Some, ⊤}
use Rattle.fkv_base.specs.declared.numbers.Serial.{Serial}
use Rattle.law_refine.specs.Below.fkv_commit.Commit.{Commit}
use Rattle.law_refine.specs.Below.fkv_commit.Cuts.{cut_of, other_cut_of}
use Rattle.law_refine.specs.Below.fkv_keeper.Keeping.{KeeperState}
use Rattle.fkv_map.specs.History.{point_of}
use Rattle.fkv_plane.specs.Places.{session_place}
use Rattle.law_refine.specs.Below.fkv_session.CatchingUp.{cut_at}
use Rattle.law_refine.specs.Below.fkv_session.Sessions.{SessionState}
use Rattle.law_refine.specs.Below.fkv_world.Opened.{HasBecome}
use Rattle.law_refine.specs.Below.fkv_world.Runs.{World, run}
use Rattle.law_refine.specs.Below.fkv_world.World.{Event}
use Rattle.law_log.specs.Trace.{IsIn}
use Rattle.law_commit.specs.Accepted.{point}
use Rattle.law_commit.specs.LastSerials.{serial_at}
use Rattle.law_commit.specs.BegunCommits.{BegunCommit, life_begun}
use Rattle.law_commit.specs.Cuts.{ShowCuts, word_now}
use Rattle.law_commit.specs.PrefixPast.{serials_asked}
use Rattle.law_commit.specs.Quiet.{OpensQuiet, pending_rank, rank_now}

-- A store was just opened at rest, and its words show its newest commit. The points of this commit are its sessions' serials.
pub record OpensPointed (opening : World) (start : ℕ) : Type 0 where
  pub quiet : OpensQuiet opening start
  pub cuts : ShowCuts opening.now
  pub points : (session : ℕ) → point_of opening.now.keeper.last.points session ≡ serial_at opening.now session

-- ---- the cut words
-- the two of a session: that of this version, and the other
abbrev pub first_cut : World → List Event → ℕ → ℕ → ℕ
first_cut opening events session version = word_now opening events (session_place session (cut_of version))

abbrev pub other_cut : World → List Event → ℕ → ℕ → ℕ
other_cut opening events session version = word_now opening events (session_place session (other_cut_of version))

-- a cut of the version behind this one, at some serial
abbrev pub IsNextCut : ℕ → ℕ → Type 0
IsNextCut version word = (serial : ℕ) × (word ≡ cut_at serial (version + 1))

-- From a moment to a later one the first word stays, or becomes the cut of the version at the point. The other stays, or becomes a cut of the next one.
pub record GoOn (version point word beside next_word next_beside : ℕ) : Type 0 where
  pub first : (next_word ≡ word) ⊎ (next_word ≡ cut_at point version)
  pub other : (next_beside ≡ beside) ⊎ IsNextCut version next_beside

-- So they do while the phase is wait-pending.
abbrev pub CutsGoOn : Type 0
CutsGoOn =
    (opening : World) (start : ℕ) (later before : List Event) (version session : ℕ) (first its : SessionState) → OpensQuiet opening start → HasBecome opening before session first its
    → rank_now opening before ≡ pending_rank version → rank_now opening (later ++ before) ≡ pending_rank version
    → GoOn version (point opening before session version) (first_cut opening before session version) (other_cut opening before session version) (first_cut opening (later ++ before) session version)
    (other_cut opening (later ++ before) session version)

-- ---- the points
-- these are the sessions' points of a version
abbrev pub ArePointsOf : World → List Event → ℕ → List Serial → Type 0
ArePointsOf opening events version points = (session : ℕ) → point_of points session ≡ point opening events session version

-- once the commit in hand has its points, they are those of its number
abbrev pub TakesPoints : Type 0
TakesPoints =
    (opening : World) (start : ℕ) (events : List Event) (c : Commit) → OpensPointed opening start → (run opening events).now.keeper.commit ≡ Some c → (run opening events).now.keeper.has_points ≡ true
    → ArePointsOf opening events c.number.0 (run opening events).now.keeper.seek.points

-- so are those of each commit that has begun, with the opening's
abbrev pub BegunHavePoints : Type 0
BegunHavePoints =
    (opening : World) (start : ℕ) (events : List Event) (c : BegunCommit) → OpensPointed opening start → IsIn c (life_begun opening events) → ArePointsOf opening events c.number.0 c.points

-- the newest that has begun is the one in hand, with the points that were taken, as long as it isn't finished
pub record IsAsTaken (s : KeeperState) (c : BegunCommit) : Type 0 where
  pub commit : Commit
  pub in_hand : s.commit ≡ Some commit
  pub number : (let it = commit in it.number ≡ c.number)
  pub taken : s.has_points ≡ true
  pub points : c.points ≡ s.seek.points

abbrev pub BeginsAsTaken : KeeperState → List BegunCommit → Type 0
BeginsAsTaken s [] = ⊤
BeginsAsTaken s (c ∷ older) = c.is_finished ≡ false → IsAsTaken s c

abbrev pub BegunAreAsTaken : Type 0
BegunAreAsTaken =
    (opening : World) (start : ℕ) (events : List Event) → OpensPointed opening start → BeginsAsTaken (run opening events).now.keeper (life_begun opening events)

-- ---- what a session's point lies between
-- it is no less than the serial that the session had given as the commit in hand was asked for
abbrev pub SinceAsked : Type 0
SinceAsked =
    (opening : World) (start : ℕ) (events : List Event) (c : Commit) (session : ℕ) → OpensQuiet opening start → (run opening events).now.keeper.commit ≡ Some c
    → serials_asked opening events session ≤ point opening events session c.number.0

-- no more than it has given
abbrev pub UpToGiven : Type 0
UpToGiven =
    (opening : World) (start : ℕ) (events : List Event) (session version : ℕ) → OpensQuiet opening start → point opening events session version ≤ serial_at (run opening events).now session

-- and no more than its point of a later version
abbrev pub RisesByVersion : Type 0
RisesByVersion = (opening : World) (events : List Event) (session version later : ℕ) → version ≤ later → point opening events session version ≤ point opening events session later

-- ---- and the commit before it
-- the points of the newest finished commit are those of its number
abbrev pub LastHasPoints : Type 0
LastHasPoints =
    (opening : World) (start : ℕ) (events : List Event) → OpensPointed opening start → ArePointsOf opening events (run opening events).now.keeper.last.number.0 (run opening events).now.keeper.last.points

-- those of the commit in hand are no less
abbrev pub RisesFromLast : Type 0
RisesFromLast =
    (opening : World) (start : ℕ) (events : List Event) (c : Commit) (session : ℕ) → OpensPointed opening start → (run opening events).now.keeper.commit ≡ Some c → (run opening events).now.keeper.has_points ≡ true
    → point_of (run opening events).now.keeper.last.points session ≤ point_of (run opening events).now.keeper.seek.points session
