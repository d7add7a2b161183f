-- Lives by wrong tables in which a clause of the law of prefixes fails: of what is told as durable, and of the points of commits.
use Rattle.std.specs.Prelude.{◌≡◌, ℕ, true, replicate, List, [], ◌∷◌, ◌++◌, Some}
use Rattle.std.specs.FinMap.{get}
use Rattle.law_order.specs.Below.fkv_commit.Commit.{Commit}
use Rattle.fkv_base.specs.declared.commits.CommitKind.TheVariants.{Full}
use Rattle.fkv_base.specs.declared.shapes.Shape.{Shape}
use Rattle.fkv_base.specs.declared.numbers.Serial.{Serial}
use Rattle.law_order.specs.Below.fkv_keeper.Keeping.{KeeperState}
use Rattle.law_order.specs.Below.fkv_keeper.NewKeepers.{ArePlacesOfStore}
use Rattle.fkv_map.specs.History.{IsLegal, content, kept}
use Rattle.fkv_map.specs.Map.{Map, applied}
use Rattle.fkv_map.specs.declared.operations.Call.TheVariants as call
use Rattle.law_order.specs.Below.fkv_opening.TheOpened.{Opened}
use Rattle.fkv_plane.specs.declared.places.Places.{Places}
use Rattle.law_order.specs.Below.fkv_session.Sessions.{SessionState}
use Rattle.law_order.specs.Below.fkv_world.Opened.{IsOpenedWorld}
use Rattle.law_order.specs.Below.fkv_world.Runs.{World, run}
use Rattle.law_order.specs.Below.fkv_world.World.{Calls, Commits, Event, KeeperMoves, Moves}
use Rattle.law_order.specs.Below.law_commit.BegunCommits.{BegunCommit}
use Rattle.law_order.specs.Below.law_commit.PrefixPast.{PrefixPast, prefix_past}
use Rattle.law_order.specs.Below.law_commit.ToldPoints.{ToldPoint, points_told}
use Rattle.law_log.specs.Trace.{IsIn, history_of, upto, value_in}
use Rattle.law_log.specs.Worked.{gives_70, no_map}
use Rattle.law_order.specs.OneHistory.EachLife.{Life}
use Rattle.law_order.specs.Prefix.Law.{BeginsWithKept, IsCurrent, IsToldDurable, TakesFairPoints, map_of, points_of}
use Rattle.law_order.specs.Below.law_refine.Calls.Calls.{effects_in_log}
use Rattle.law_wrong_runs.specs.Tables.{Tables, add_copies_in_fuzzy_region, commit_keeps_nothing, right_tables, run_by, serial_is_told_as_durable}
use Rattle.law_wrong_runs.specs.WrongLives.{fuzzy_events, gives_events, opened_world}

-- ---- what a life leaves
-- its commits are those of the keeper's own events, and sessions are told this by the table
abbrev pub past_by : Tables → World → List Event → PrefixPast
past_by t opening events = record (prefix_past opening events) { told = λ session. points_told session (run_by t opening events).past.trace }

-- what session 0 was told as durable is its point in a sealed commit
abbrev pub LeavesDurable : Opened → Tables → World → List Event → Type 0
LeavesDurable o t opening events = (told : ToldPoint) → IsIn told ((past_by t opening events).told 0) → IsToldDurable o (past_by t opening events) 0 told

-- some commit is current, as the one has to be that an image holds
abbrev pub LeavesCurrent : Tables → World → List Event → Type 0
LeavesCurrent t opening events = (c : BegunCommit) × IsCurrent (past_by t opening events) c

-- the commit in hand has fair points
abbrev pub TakesFair : Tables → World → List Event → Type 0
TakesFair t opening events = TakesFairPoints (run_by t opening events).now (prefix_past opening events)

-- what these points keep of it is legal from an empty map, as it has to be where a next life begins
abbrev pub KeepsLegal : List Serial → World → Type 0
KeepsLegal points w = IsLegal no_map (kept (history_of (effects_in_log w.past.history)) points)

-- An image of a commit has for each key the value that the updates of versions up to its number leave. These points keep just that, from an empty map.
abbrev pub KeepsValues : ℕ → List Serial → World → Type 0
KeepsValues number points w =
    (key : ℕ) → value_in no_map (upto number (effects_in_log w.past.history)) key ≡ get (content no_map (kept (history_of (effects_in_log w.past.history)) points)) key

-- so do the points of the commit in hand
abbrev pub KeepsItsValues : World → Type 0
KeepsItsValues w = (c : Commit) → w.now.keeper.commit ≡ Some c → KeepsValues c.number.0 w.now.keeper.seek.points w

-- ---- the beginning: a store that was just opened, of which nothing is kept yet
abbrev pub with_nothing_kept : KeeperState → KeeperState
with_nothing_kept k = record k { last = record k.last { points = [] }; lost = [] }

abbrev pub new_world : Shape → Places → KeeperState → SessionState → SessionState → World
new_world shape places keeper one other = opened_world shape places (with_nothing_kept keeper) one other

-- Session 0 gives a key a value, and asks what is durable.
abbrev pub asks_durable : List Event
asks_durable = replicate 2 (Moves 0) ++ Calls 0 call.Durable ∷ gives_events

-- Or a full commit begins.
abbrev pub begins_commit : List Event
begins_commit = replicate 8 (KeeperMoves true true) ++ Commits Full ∷ gives_events

-- points that keep its update
abbrev pub given_point : List Serial
given_point = record { 0 = 1 } ∷ []

-- points that keep all updates of both sessions
abbrev pub all_points : List Serial
all_points = record { 0 = 4 } ∷ record { 0 = 1 } ∷ []

-- ---- a life behind another
-- A life of any store, in which session 0 gives a key a value.
abbrev pub giving_life : List ℕ → Opened → World → Life
giving_life bytes o w = record { bytes = bytes; opened = o; world = w.now; events = begins_commit }

-- what it makes of an empty map
abbrev pub given_map : Map
given_map = applied no_map gives_70

-- The first life begins with an empty map and without points, and the second one with this map and these points.
pub record IsBehind (m : Map) (points : List Serial) (first its : Life) : Type 0 where
  pub empty : map_of first ≡ no_map
  pub no_points : points_of first ≡ []
  pub pairs : map_of its ≡ m
  pub its_points : points_of its ≡ points

-- then the second begins with what was kept of the first, as the law asks
abbrev pub FollowsWith : Map → List Serial → World → Type 0
FollowsWith m points w = (bytes : List ℕ) (o : Opened) (its : Life) → IsBehind m points (giving_life bytes o w) its → BeginsWithKept its (giving_life bytes o w ∷ [])

-- or it never does
abbrev pub NeverFollowsWith : Map → List Serial → World → Type 0
NeverFollowsWith m points w = (bytes : List ℕ) (o : Opened) (its : Life) → IsBehind m points (giving_life bytes o w) its → BeginsWithKept its (giving_life bytes o w ∷ []) → ⊥

-- In a store of this shape, with its places: if session 0 is told its last serial as durable, no commit has that as its point, and so none is current. By the
-- right table it is told its point in the commit with which the store was opened. If a commit keeps nothing, its point is below what session 0 had given as
-- it was asked for. Nor do its points keep what an image of it has; a point that keeps session 0's update does. If a record is copied that session 0 may still change, no life can begin with all that was done;
-- by the right table one can. If the next life begins without the update that its points keep, or with one that they don't keep, it doesn't begin with what was
-- kept. If it begins with just that update, and the point that keeps it, it does.
pub record AreWrongCommits (keeper : KeeperState) (one other : SessionState) : Type 0 where
  pub shape : Shape
  pub places : Places
  pub fits : ArePlacesOfStore shape places
  pub opened : IsOpenedWorld (new_world shape places keeper one other)
  pub undurable : (o : Opened) → LeavesDurable o serial_is_told_as_durable (new_world shape places keeper one other) asks_durable → ⊥
  pub durable_right : (o : Opened) → LeavesDurable o right_tables (new_world shape places keeper one other) asks_durable
  pub uncurrent : LeavesCurrent serial_is_told_as_durable (new_world shape places keeper one other) asks_durable → ⊥
  pub unfair : TakesFair commit_keeps_nothing (new_world shape places keeper one other) begins_commit → ⊥
  pub unpaired : KeepsItsValues (run_by commit_keeps_nothing (new_world shape places keeper one other) begins_commit) → ⊥
  pub paired_right : KeepsValues 1 given_point (run (new_world shape places keeper one other) begins_commit)
  pub unkept : KeepsLegal all_points (run_by add_copies_in_fuzzy_region (opened_world shape places keeper one other) fuzzy_events) → ⊥
  pub kept_right : KeepsLegal all_points (run (opened_world shape places keeper one other) fuzzy_events)
  pub forgotten : NeverFollowsWith no_map given_point (new_world shape places keeper one other)
  pub ahead : NeverFollowsWith given_map [] (new_world shape places keeper one other)
  pub follows_right : FollowsWith given_map given_point (new_world shape places keeper one other)
