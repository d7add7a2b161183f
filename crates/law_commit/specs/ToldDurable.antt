-- What sessions were told as durable: their points in sealed commits.
use Rattle.std.specs.Prelude.{◌≡◌, ◌+◌, ◌<◌, ◌≤◌, ⊤, ℕ, true, List, [], ◌∷◌}
use Rattle.fkv_map.specs.History.{point_of}
use Rattle.fkv_plane.specs.declared.places.SessionWord.TheVariants.{Durable}
use Rattle.fkv_plane.specs.Places.{session_place}
use Rattle.law_refine.specs.Below.fkv_world.Runs.{World, run}
use Rattle.law_refine.specs.Below.fkv_world.World.{Event}
use Rattle.law_log.specs.Trace.{IsIn}
use Rattle.law_commit.specs.BegunCommits.{BegunCommit, life_begun}
use Rattle.law_commit.specs.Cuts.{ShowsDurable, word_now}
use Rattle.law_commit.specs.Points.{OpensPointed}
use Rattle.law_commit.specs.ToldPoints.{ToldPoint, points_told}

-- What a session was told as durable is its point in a commit whose open gate is synced. It is no less than its point in each commit that was told as finished
-- before its call: those have numbers up to so many behind the opening's.
pub record IsSealedPoint (opening : World) (events : List Event) (session : ℕ) (told : ToldPoint) : Type 0 where
  pub commit : BegunCommit
  pub begun : IsIn commit (life_begun opening events)
  pub is_sealed : (let c = commit in c.is_sealed ≡ true)
  pub point : (let c = commit in told.point ≡ point_of c.points session)
  pub since : (d : BegunCommit) → IsIn d (life_begun opening events) → d.number.0 ≤ opening.now.keeper.last.number.0 + told.finished → point_of d.points session ≤ told.point

-- so is each answer in a life
abbrev pub TellsSealedPoints : Type 0
TellsSealedPoints =
    (opening : World) (start : ℕ) (events : List Event) (session : ℕ) (told : ToldPoint) → OpensPointed opening start → ShowsDurable opening.now → IsIn told (points_told session (run opening events).past.trace)
    → IsSealedPoint opening events session told

-- of points that were told, the newest first, none is more than the one told next, and the newest is no more than this
abbrev pub NoneFalls : ℕ → List ToldPoint → Type 0
NoneFalls most [] = ⊤
NoneFalls most (told ∷ before) = (told.point ≤ most) × NoneFalls told.point before

-- what a session was told never falls, and is no more than its durable word
abbrev pub ToldNeverFalls : Type 0
ToldNeverFalls =
    (opening : World) (start : ℕ) (events : List Event) (session : ℕ) → OpensPointed opening start → ShowsDurable opening.now → session < opening.now.places.sessions
    → NoneFalls (word_now opening events (session_place session Durable)) (points_told session (run opening events).past.trace)
