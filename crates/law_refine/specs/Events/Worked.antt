-- Lives of two sessions, and what they are to the log; and a trace's lines.
use Rattle.std.specs.Prelude.{◌≡◌, ℕ, true, false, replicate, List, [], ◌∷◌, ◌++◌, Some, None}
use Rattle.fkv_base.specs.declared.phases.Phase.TheVariants.{Rest}
use Rattle.fkv_base.specs.declared.shapes.Shape.{Shape}
use Rattle.fkv_map.specs.declared.operations.Call.TheVariants as call
use Rattle.fkv_map.specs.declared.operations.Op.{Op}
use Rattle.fkv_map.specs.declared.operations.Op.TheVariants.{Upsert, Read}
use Rattle.fkv_map.specs.declared.operations.Reply.TheVariants.{Nothing, Number, Found, Absent}
use Rattle.law_log.specs.Ghosts.{GhostEvent, Tells, FindsEntry, TakesValue, Reserves, Publishes, Drops, Changes, Fixes, shown}
use Rattle.law_log.specs.Trace.{Effect, TraceLine, CallsUpdate, RefusesUpdate, GivesResult, CallsRead, AnswersRead}
use Rattle.law_log.specs.Worked.{adds_5, cell_of, empty_log, entry_of, gives_70}
use Rattle.fkv_plane.specs.declared.places.Places.{Places}
use Rattle.law_world.specs.Below.fkv_keeper.Keeping.{KeeperState}
use Rattle.law_world.specs.Below.fkv_ops.Reason.TheVariants.{Disk}
use Rattle.law_world.specs.Below.fkv_session.Finished.TheVariants as finished
use Rattle.law_world.specs.Below.fkv_session.Told.TheVariants as told
use Rattle.law_world.specs.Below.fkv_session.Sitting.TheVariants.{Idle}
use Rattle.law_world.specs.Below.fkv_session.Sessions.{SessionState}
use Rattle.law_world.specs.Runs.Added.{told_at}
use Rattle.law_world.specs.Below.fkv_world.Opened.{IsOpenedWorld}
use Rattle.law_world.specs.Below.fkv_world.Past.{Traced, Called, Answered}
use Rattle.law_world.specs.Below.fkv_world.Runs.{World}
use Rattle.law_world.specs.Below.fkv_world.World.{Event, Calls, Moves}
use Rattle.law_refine.specs.Events.GhostEvents.{fixed_ghosts, home_in, mapped, life_ghosts}
use Rattle.law_refine.specs.Events.Lines.{lines_of}

-- The words of a store for two sessions with one bucket and two frames of four records: the epoch is 1, the phase is rest in version 1, the log begins at 1 and its limit is 8, and
-- both sessions are awake.
abbrev pub first_words : List ℕ
first_words = 1 ∷ 0 ∷ 1 ∷ 1 ∷ 8 ∷ 1 ∷ 1 ∷ 1 ∷ 1 ∷ 1 ∷ replicate 14 0 ++ (1 ∷ replicate 15 0 ++ (1 ∷ replicate 47 0))

-- a session as its store was opened
abbrev pub first_session : SessionState → SessionState
first_session s = record s {
  seen = record { phase = Rest; version = record { 0 = 1 }; offsets = record { head = record { 0 = 1 }; read_only = record { 0 = 1 } } };
  serial = 0;
  ticket = 0;
  requests = [];
  is_orphaned = false;
  spare = 0;
  is_awake = true;
  wants_turn = false;
  asks = 0;
  effect = None;
  finished = [];
  step = Idle told.Slept;
}

abbrev pub first_world : Shape → Places → KeeperState → SessionState → SessionState → World
first_world shape places keeper one other = record {
  now = record { shape = shape; places = places; words = first_words; actions = replicate 8 None; sessions = first_session one ∷ first_session other ∷ []; keeper = keeper; crashed = false };
  past = record { opened = []; history = []; trace = []; calls = [] };
}

-- Session 0 gives key 5 a value, session 1 adds to it. The first appends a record. The other one has found it as a read begins that finds it too;
-- then it changes the value, which the read loads.
abbrev pub worked_events : List Event
worked_events =
    Moves 0 ∷ Moves 1 ∷ Moves 1 ∷ Moves 0 ∷ Moves 0 ∷ Moves 0 ∷ Calls 0 (call.Op (Read (record { 0 = 5 })))
    ∷ Moves 1 ∷ Moves 1 ∷ Moves 1 ∷ Calls 1 (call.Op adds_5)
    ∷ Moves 0 ∷ Moves 0 ∷ Moves 0 ∷ Moves 0 ∷ Moves 0 ∷ Moves 0 ∷ Moves 0 ∷ Moves 0 ∷ Calls 0 (call.Op gives_70)
    ∷ []

-- the number of the read is 3, since three lines stood in the trace
abbrev pub worked_ghosts : List GhostEvent
worked_ghosts =
    Tells (AnswersRead 3 (Found (record { 0 = 75 }))) ∷ TakesValue 3
    ∷ Tells (GivesResult 1 1 (Number (record { 0 = 75 }))) ∷ Changes 1 (entry_of 1 1 adds_5 (Number (record { 0 = 75 })))
    ∷ FindsEntry 3 ∷ Tells (CallsRead 3 5)
    ∷ Tells (CallsUpdate 1 1 adds_5)
    ∷ Tells (GivesResult 0 1 Nothing) ∷ Publishes 1 ∷ Reserves 1 (entry_of 0 1 gives_70 Nothing) (cell_of 5 70 0) ∷ Tells (CallsUpdate 0 1 gives_70)
    ∷ []

-- in version 1
abbrev pub worked_history : List Effect
worked_history =
    record { entry = entry_of 1 1 adds_5 (Number (record { 0 = 75 })); version = 1 }
    ∷ record { entry = entry_of 0 1 gives_70 Nothing; version = 1 }
    ∷ []

-- Both sessions give the key a value, each having found its slot empty: the first publishes its record, and the other one's is lost, and given up.
abbrev pub gives_8 : Op
gives_8 = Upsert (record { 0 = 5 }) (record { 0 = 8 })

abbrev pub lost_events : List Event
lost_events =
    replicate 8 (Moves 1) ++ (replicate 7 (Moves 0) ++ Moves 1 ∷ Moves 0 ∷ Calls 1 (call.Op gives_8) ∷ Calls 0 (call.Op gives_70) ∷ [])

abbrev pub lost_ghosts : List GhostEvent
lost_ghosts =
    Drops 2 ∷ Reserves 2 (entry_of 1 1 gives_8 Nothing) (cell_of 5 8 0)
    ∷ Tells (GivesResult 0 1 Nothing) ∷ Publishes 1 ∷ Reserves 1 (entry_of 0 1 gives_70 Nothing) (cell_of 5 70 0)
    ∷ Tells (CallsUpdate 1 1 gives_8) ∷ Tells (CallsUpdate 0 1 gives_70)
    ∷ []

-- Session 1 has loaded the value that it would add to as session 0 swaps it for 8: its Cas is lost, and changes nothing. A poll tries the update again.
abbrev pub swapped_events : List Event
swapped_events =
    replicate 5 (Moves 1) ++ Calls 1 call.Poll ∷ Moves 1
    ∷ (replicate 4 (Moves 0) ++ Calls 0 (call.Op gives_8)
    ∷ (replicate 4 (Moves 1) ++ Calls 1 (call.Op adds_5)
    ∷ (replicate 8 (Moves 0) ++ Calls 0 (call.Op gives_70) ∷ [])))

abbrev pub swapped_ghosts : List GhostEvent
swapped_ghosts =
    Tells (GivesResult 1 1 (Number (record { 0 = 13 }))) ∷ Changes 1 (entry_of 1 1 adds_5 (Number (record { 0 = 13 })))
    ∷ Tells (GivesResult 0 2 Nothing) ∷ Changes 1 (entry_of 0 2 gives_8 Nothing) ∷ Tells (CallsUpdate 0 2 gives_8)
    ∷ Tells (CallsUpdate 1 1 adds_5)
    ∷ Tells (GivesResult 0 1 Nothing) ∷ Publishes 1 ∷ Reserves 1 (entry_of 0 1 gives_70 Nothing) (cell_of 5 70 0) ∷ Tells (CallsUpdate 0 1 gives_70)
    ∷ []

-- The word that stands for no value is refused as a value, and leaves the serial free; then a read finds that the key has none.
abbrev pub gives_none : Op
gives_none = Upsert (record { 0 = 5 }) (record { 0 = 18446744073709551615 })

abbrev pub refused_events : List Event
refused_events = replicate 8 (Moves 0) ++ Calls 0 (call.Op gives_70) ∷ Moves 0 ∷ Calls 0 (call.Op (Read (record { 0 = 5 }))) ∷ Calls 0 (call.Op gives_none) ∷ []

-- the number of the read is 2: the call that was refused and its answer stood in the trace
abbrev pub refused_ghosts : List GhostEvent
refused_ghosts =
    Tells (GivesResult 0 1 Nothing) ∷ Publishes 1 ∷ Reserves 1 (entry_of 0 1 gives_70 Nothing) (cell_of 5 70 0) ∷ Tells (CallsUpdate 0 1 gives_70)
    ∷ Tells (AnswersRead 2 Absent) ∷ TakesValue 2 ∷ FindsEntry 2 ∷ Tells (CallsRead 2 5)
    ∷ Tells (RefusesUpdate 0 1) ∷ Tells (CallsUpdate 0 1 gives_none)
    ∷ []

-- A trace in which an update of session 0 waits, and then a read. The session reads once more, and a poll finishes both.
abbrev pub polled_trace : List Traced
polled_trace =
    told_at 0 (
    Answered 0 (record { its = told.Polled 0; finished = finished.Update (record { 0 = 1 }) (Number (record { 0 = 75 })) ∷ finished.Read (record { 0 = 1 }) (Some (record { 0 = 70 })) ∷ [] })
    ∷ Called 0 call.Poll
    ∷ Answered 0 (record { its = told.Absent; finished = [] })
    ∷ Called 0 (call.Op (Read (record { 0 = 6 })))
    ∷ Answered 0 (record { its = told.PendingRead (record { 0 = 1 }); finished = [] })
    ∷ Called 0 (call.Op (Read (record { 0 = 5 })))
    ∷ Answered 0 (record { its = told.Pending (record { 0 = 1 }) Disk; finished = [] })
    ∷ Called 0 (call.Op adds_5)
    ∷ Called 1 (call.Op gives_8)
    ∷ []
    )

-- the read that waited has number 3, and the other one 5
abbrev pub polled_lines : List TraceLine
polled_lines =
    AnswersRead 3 (Found (record { 0 = 70 })) ∷ GivesResult 0 1 (Number (record { 0 = 75 }))
    ∷ AnswersRead 5 Absent ∷ CallsRead 5 6 ∷ CallsRead 3 5 ∷ CallsUpdate 0 1 adds_5 ∷ CallsUpdate 1 1 gives_8
    ∷ []

-- Such a store with this keeper is one that was opened, and its life is this to the log: which then has these effects, and shows 75 for key 5. So are
-- the lives in which a record is lost, in which a value is swapped, and in which a call is refused. The trace has its lines; and a safe read-only offset
-- that rises from 1 to 5 fixes what lies below 5.
pub record IsWorkedLife (keeper : KeeperState) (one other : SessionState) : Type 0 where
  pub shape : Shape
  pub places : Places
  pub opened : IsOpenedWorld (first_world shape places keeper one other)
  pub events : mapped (first_world shape places keeper one other) worked_events ≡ worked_ghosts
  pub history : (life_ghosts (first_world shape places keeper one other) empty_log worked_events).log.history ≡ worked_history
  pub value : shown (home_in shape.bucket_bits) (life_ghosts (first_world shape places keeper one other) empty_log worked_events).log 5 ≡ Some 75
  pub lost : mapped (first_world shape places keeper one other) lost_events ≡ lost_ghosts
  pub swapped : mapped (first_world shape places keeper one other) swapped_events ≡ swapped_ghosts
  pub refused : mapped (first_world shape places keeper one other) refused_events ≡ refused_ghosts
  pub polled : lines_of (λ session. 0) polled_trace ≡ polled_lines
  pub fixed : fixed_ghosts 1 5 ≡ Fixes 5 ∷ []
