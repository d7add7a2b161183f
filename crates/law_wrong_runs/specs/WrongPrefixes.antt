-- Lives by wrong tables in which a clause of the law of prefixes fails: of commits that are told, of their numbers, of points that rise, and of reads in time.
use Rattle.std.specs.Prelude.{◌≡◌, ℕ, ◌≤◌, true, false, replicate, List, [], ◌∷◌, ◌++◌, None}
use Rattle.fkv_base.specs.declared.commits.CommitKind.TheVariants.{Full}
use Rattle.fkv_base.specs.declared.shapes.Shape.{Shape}
use Rattle.law_order.specs.Below.fkv_keeper.Keeping.{KeeperState}
use Rattle.law_order.specs.Below.fkv_keeper.KeeperRun as keeper
use Rattle.law_order.specs.Below.fkv_keeper.NewKeepers.{ArePlacesOfStore}
use Rattle.fkv_map.specs.History.{AreAtMost}
use Rattle.fkv_map.specs.declared.operations.Call.TheVariants as call
use Rattle.fkv_map.specs.declared.operations.Op.TheVariants.{Read}
use Rattle.fkv_map.specs.declared.operations.Reply.{Reply}
use Rattle.fkv_plane.specs.declared.places.Places.{Places}
use Rattle.law_order.specs.Below.fkv_session.Sessions.{SessionState}
use Rattle.law_order.specs.Below.fkv_world.Opened.{IsOpenedWorld}
use Rattle.law_order.specs.Below.fkv_world.Runs.{World}
use Rattle.law_order.specs.Below.fkv_world.World.{Calls, Commits, Event, KeeperMoves, Turns}
use Rattle.law_order.specs.Below.law_commit.BegunCommits.{AreInTurn, BegunCommit, begun_by, commit_opened}
use Rattle.law_order.specs.Below.law_commit.FinishedCommits.{commits_finished, commits_told, told_of}
use Rattle.law_order.specs.Below.law_refine.Calls.Calls.{effects_in_log}
use Rattle.law_order.specs.Below.law_refine.Events.Lines.{lines_of}
use Rattle.law_log.specs.Trace.{AnswersRead, IsIn, history_of}
use Rattle.law_log.specs.Worked.{no_map}
use Rattle.law_order.specs.Rules.InTime.{IsInTime}
use Rattle.law_wrong_runs.specs.Tables.{Tables, commit_is_written_at_once, commit_skips_a_number, each_turn_tells_a_finish, read_gives_opening_state, right_tables, run_by}
use Rattle.law_wrong_runs.specs.WrongCommits.{given_point}
use Rattle.law_wrong_runs.specs.WrongLives.{gives_events, opened_world, read_events}

-- ---- what a life leaves
-- The commits that have begun by a table, as of the right one: by what each move of the keeper comes from and leads to. Each call of the device succeeds.
abbrev pub begun_at : World → Event → World → List BegunCommit → List BegunCommit
begun_at w (KeeperMoves granted done) after before = begun_by w.now.keeper w.now.keeper.step (keeper.Calls done []) after.now.keeper.step before
begun_at w event after before = before

unfoldable pub begun_by_table : Tables → World → List Event → List BegunCommit
begun_by_table t opening [] = commit_opened opening.now opening.past.opened ∷ []
begun_by_table t opening (event ∷ before) = begun_at (run_by t opening before) event (run_by t opening (event ∷ before)) (begun_by_table t opening before)

-- the finished ones are those that were told as finished
abbrev pub LeavesTold : Tables → World → List Event → Type 0
LeavesTold t opening events = commits_finished (begun_by_table t opening events) ≡ commits_told (run_by t opening events).past.trace (told_of opening.now.keeper.last ∷ [])

-- each has the number after that of the one before
abbrev pub LeavesInTurn : Tables → World → List Event → Type 0
LeavesInTurn t opening events = AreInTurn (begun_by_table t opening events)

-- no point falls from one to a newer one
abbrev pub LeavesRising : Tables → World → List Event → Type 0
LeavesRising t opening events =
    (older newer : BegunCommit) → IsIn older (begun_by_table t opening events) → IsIn newer (begun_by_table t opening events) → older.number.0 ≤ newer.number.0 → AreAtMost older.points newer.points

-- each read of key 5 that was answered gives the value that the key had at some moment since its call
abbrev pub LeavesInTime : World → World → Type 0
LeavesInTime at_call w =
    (reader : ℕ) (reply : Reply) → IsIn (AnswersRead reader reply) (lines_of (λ session. 0) w.past.trace)
    → IsInTime no_map (history_of (effects_in_log at_call.past.history)) (history_of (effects_in_log w.past.history)) 5 reply

-- ---- the beginnings, and the lives
-- the opening's commit is the first, with these gates, and keeps one update of session 0; no copy is in hand
abbrev pub with_point_kept : KeeperState → KeeperState
with_point_kept k = record k { last = record k.last { number = record { 0 = 0 }; points = given_point; gates = (true, false) }; lost = []; copy = None }

abbrev pub kept_world : Shape → Places → KeeperState → SessionState → SessionState → World
kept_world shape places its one other = opened_world shape places (with_point_kept its) one other

-- the keeper makes a whole turn
abbrev pub one_turn : List Event
one_turn = replicate 40 (KeeperMoves true true) ++ Turns ∷ []

-- a full commit begins, and the keeper has made so many calls of the device: its gate's opening write is called by the fourth, or by the sixth if it stood open
abbrev pub four_calls : List Event
four_calls = replicate 12 (KeeperMoves true true) ++ Commits Full ∷ []

abbrev pub six_calls : List Event
six_calls = replicate 14 (KeeperMoves true true) ++ Commits Full ∷ []

-- session 1 begins a read of key 5, which session 0 has given a value
abbrev pub read_begun : List Event
read_begun = Calls 1 (call.Op (Read (record { 0 = 5 }))) ∷ gives_events

-- In a store of this shape, with its places: if each turn tells that it has finished a commit, what was told isn't what has finished. By the right table it is. If a
-- commit's number is one more than it has to be, the numbers aren't in turn. If a commit keeps nothing, a point falls. If a read is told what the store was opened
-- with, it isn't in time.
pub record AreWrongPrefixes (its : KeeperState) (one other : SessionState) : Type 0 where
  pub shape : Shape
  pub places : Places
  pub fits : ArePlacesOfStore shape places
  pub opened : IsOpenedWorld (kept_world shape places its one other)
  pub untold : LeavesTold each_turn_tells_a_finish (kept_world shape places its one other) one_turn → ⊥
  pub told_right : LeavesTold right_tables (kept_world shape places its one other) one_turn
  pub unturned : LeavesInTurn (commit_skips_a_number shape) (kept_world shape places its one other) six_calls → ⊥
  pub fallen : LeavesRising (commit_is_written_at_once shape) (kept_world shape places its one other) four_calls → ⊥
  pub late : LeavesInTime (run_by read_gives_opening_state (opened_world shape places its one other) read_begun) (run_by read_gives_opening_state (opened_world shape places its one other) read_events) → ⊥
  pub in_time_right : LeavesInTime (run_by right_tables (opened_world shape places its one other) read_begun) (run_by right_tables (opened_world shape places its one other) read_events)
