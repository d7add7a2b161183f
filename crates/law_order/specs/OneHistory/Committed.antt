-- A life that is worked out, with a full commit and a log commit: of a new store, two sessions, and its keeper.
use Rattle.std.specs.Prelude.{◌≡◌, ◌+◌, ℕ, true, false, replicate, map, List, [], ◌∷◌, ◌++◌}
use Rattle.fkv_base.specs.declared.commits.CommitKind.{CommitKind}
use Rattle.fkv_base.specs.declared.commits.CommitKind.TheVariants.{Full, Log}
use Rattle.fkv_base.specs.declared.phases.Phase.TheVariants.{Rest}
use Rattle.fkv_base.specs.declared.shapes.Shape.{Shape}
use Rattle.law_commit.specs.Below.fkv_keeper.KeeperTold.TheVariants.{Begun}
use Rattle.law_commit.specs.Below.fkv_keeper.TheKeeping.TheVariants.{Ended}
use Rattle.fkv_map.specs.declared.operations.Call.{Call}
use Rattle.fkv_map.specs.declared.operations.Call.TheVariants as call
use Rattle.fkv_map.specs.declared.operations.Reply.TheVariants.{Nothing, Number}
use Rattle.fkv_record.specs.Points.{serial_numbers}
use Rattle.law_commit.specs.Below.fkv_session.Sessions.{SessionState}
use Rattle.law_commit.specs.Below.fkv_world.World.{Event, Calls, Moves, Commits, Turns, KeeperMoves, Now}
use Rattle.law_commit.specs.CommitParts.{kind_opened}
use Rattle.law_log.specs.Trace.{Effect}
use Rattle.law_log.specs.Worked.{adds_5, entry_of, gives_70}
use Rattle.law_order.specs.OneHistory.EachLife.{Life}
use Rattle.law_order.specs.OneHistory.NewLives.{IsNewLife, IsOrderedLife}
use Rattle.law_order.specs.Rules.Ordered.{effects_so_far, now_after}

-- ---- its events, the newest first
-- a call of a session, or of the keeper, moved to its end by so many steps
abbrev pub session_call : ℕ → Call → ℕ → List Event → List Event
session_call session its steps before = replicate steps (Moves session) ++ (Calls session its ∷ before)

abbrev pub keeper_call : Event → ℕ → List Event → List Event
keeper_call its steps before = replicate steps (KeeperMoves true true) ++ (its ∷ before)

abbrev pub both_refresh : ℕ → List Event → List Event
both_refresh steps before = session_call 1 call.Refresh steps (session_call 0 call.Refresh steps before)

-- Session 0 gives key 5 the value 70. A full commit begins, and a turn stores in-progress once both sessions have seen prepare.
abbrev pub begun_events : List Event
begun_events = keeper_call Turns 29 (both_refresh 5 (keeper_call (Commits Full) 8 (session_call 0 (call.Op gives_70) 8 [])))

-- Both see in-progress. Session 1 adds 5 in the next version, by a new record, while the index is copied and points are taken. Both see wait-flush, and the next
-- turn finishes the commit. Both see rest.
abbrev pub full_events : List Event
full_events =
    both_refresh 5 (keeper_call Turns 44 (both_refresh 5 (keeper_call Turns 32 (keeper_call Turns 32 (session_call 1 (call.Op adds_5) 14 (both_refresh 7 begun_events))))))

-- A log commit begins. A crash may come here, before anything of it is written.
abbrev pub crashed_events : List Event
crashed_events = keeper_call (Commits Log) 8 full_events

-- Else the log commit goes the same way. It waits one turn more for its end to be flushed.
abbrev pub committed_events : List Event
committed_events =
    both_refresh 5 (keeper_call Turns 36 (both_refresh 5 (keeper_call Turns 22 (keeper_call Turns 36 (both_refresh 7 (keeper_call Turns 29 (both_refresh 5 crashed_events)))))))

-- what takes effect by them: an update of version 1, which the full commit keeps, and one of version 2
abbrev pub committed_history : List Effect
committed_history =
    record { entry = entry_of 1 1 adds_5 (Number (record { 0 = 75 })); version = 2 }
    ∷ record { entry = entry_of 0 1 gives_70 Nothing; version = 1 }
    ∷ []

-- ---- what is said of it
-- The newest finished commit is of this kind, number and points. Both sessions have seen rest of the version behind it.
pub record HasFinished (kind : CommitKind) (number : ℕ) (points : List ℕ) (n : Now) : Type 0 where
  pub its_kind : kind_opened n.keeper.last ≡ kind
  pub its_number : n.keeper.last.number.0 ≡ number
  pub its_points : serial_numbers n.keeper.last.points ≡ points
  pub phases : map (λ (s : SessionState). s.seen.phase) n.sessions ≡ replicate 2 Rest
  pub versions : map (λ (s : SessionState). s.seen.version.0) n.sessions ≡ replicate 2 (number + 1)

-- The commit that has begun is this one, and nothing of it is written: the keeper works, and its newest finished commit is still the first one, with these points.
pub record HasBegunNext (n : Now) : Type 0 where
  pub told : n.keeper.step ≡ Ended (Begun (record { 0 = 2 }))
  pub works : n.keeper.is_broken ≡ false
  pub its_number : n.keeper.last.number.0 ≡ 1
  pub its_points : n.keeper.last.points ≡ record { 0 = 1 } ∷ record { 0 = 0 } ∷ []

-- A life of a new store ends there by a crash. Both updates have taken effect by then.
pub record CrashedLife : Type 0 where
  pub its : Life
  pub shape : Shape
  pub is_new : IsNewLife shape its
  pub events : (let life = its in life.events ≡ crashed_events)
  pub begun : (let life = its in HasBegunNext (now_after life.world life.bytes life.events))
  pub effects : (let life = its in effects_so_far life.world life.bytes life.events ≡ committed_history)

-- A life of a new store goes on to the end of both. It has finished the full commit, which keeps the one update, and then the log commit, which keeps both. It meets each
-- premise of the order law, which says this of it.
pub record CommittedLife : Type 0 where
  pub its : Life
  pub shape : Shape
  pub is_new : IsNewLife shape its
  pub events : (let life = its in life.events ≡ committed_events)
  pub full : (let life = its in HasFinished Full 1 (1 ∷ 0 ∷ []) (now_after life.world life.bytes full_events))
  pub log : (let life = its in HasFinished Log 2 (1 ∷ 1 ∷ []) (now_after life.world life.bytes committed_events))
  pub effects : (let life = its in effects_so_far life.world life.bytes life.events ≡ committed_history)
  pub ordered : IsOrderedLife its
