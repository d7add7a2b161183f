-- What a session's step is to the guard makes no call of the device, and so it is with what a call begins.
use Rattle.std.proofs.Common.{ℕ, List, [], ◌++◌}
use Rattle.std.specs.Prelude.{Option, Some, None, ◌==◌}
use Rattle.fkv_plane.specs.declared.asks.Ask.{Ask}
use Rattle.fkv_plane.specs.declared.asks.Ask.TheVariants.{Done}
use Rattle.fkv_plane.specs.declared.places.Places.{Places}
use Rattle.fkv_plane.specs.declared.places.RecordWord.TheVariants as rec
use Rattle.fkv_plane.specs.Asked.{asked, word_at, reply_to}
use Rattle.fkv_plane.specs.Passing.{is_done}
use Rattle.fkv_plane.specs.Places.{record_place}
use Rattle.fkv_log.specs.Reserving.{reserve_next_ask}
use Rattle.fkv_log.specs.declared.reserving.ReserveAnswer.{ReserveAnswer}
use Rattle.fkv_log.specs.declared.reserving.ReserveAnswer.TheVariants.{Reserved}
use Rattle.fkv_index.specs.declared.publishing.Publishing.{Publishing}
use Rattle.fkv_index.specs.declared.publishing.Publishing.TheVariants.{SwapsEntry}
use Rattle.fkv_flush.specs.GuardAsks.{writes}
use Rattle.fkv_flush.specs.GuardWorld.{GuardEvent}
use Rattle.fkv_ops.specs.Appending.{AppendState}
use Rattle.fkv_ops.specs.Trying.{TryState}
use Rattle.fkv_ops.specs.declared.appending.Appending.{Appending}
use Rattle.fkv_ops.specs.declared.appending.Appending.TheVariants as appending
use Rattle.fkv_ops.specs.declared.trying.Trying.{Trying}
use Rattle.fkv_ops.specs.declared.trying.Trying.TheVariants.{SwapsValue, ChangesValue, Appends}
use Rattle.fkv_pending.specs.Attempting.{AttemptState}
use Rattle.fkv_pending.specs.declared.attempting.Attempting.{Attempting}
use Rattle.fkv_pending.specs.declared.attempting.Attempting.TheVariants.{Tries}
use Rattle.fkv_session.specs.declared.catching_up.Catching.{Catching}
use Rattle.fkv_session.specs.declared.catching_up.Catching.TheVariants.{Refreshes, Protects, Finishes}
use Rattle.fkv_session.specs.declared.sessions.Sitting.{Sitting}
use Rattle.fkv_session.specs.declared.sessions.Sitting.TheVariants.{Attempts, CatchesUp, Polls, Turns, Leaves}
use Rattle.fkv_session.specs.Sessions.{SessionState, Seat, room_of, session_ask}
use Rattle.law_world.specs.GuardSessions.Steps.{Onward, Stays, Starts, GoesOn, onward_events, changed_at, outer_events}
use Rattle.law_world.specs.GuardSessions.Tries.{is_for_entry, reserved_events, publish_events, append_events, try_events}
use Rattle.law_world.specs.GuardSessions.Attempts.{attempt_events}
use Rattle.law_world.specs.GuardSessions.Catches.{catch_events}
use Rattle.law_world.specs.GuardSessions.Sessions.{sitting_events, sitting_onward, session_guard_events, called_guard_events}
use Rattle.law_world.proofs.OfGuardKeeper.NoCalls.{MakeNone, none_by_test}

goes_onward : (a : ℕ) (its : Onward) (before : List GuardEvent) → MakeNone before → MakeNone (onward_events a its ++ before)
goes_onward a Stays before none = none
goes_onward a (Starts task) before none = (tt, none)
goes_onward a GoesOn before none = (tt, none)

onward_alone : (a : ℕ) (its : Onward) → MakeNone (onward_events a its)
onward_alone a Stays = tt
onward_alone a (Starts task) = (tt, tt)
onward_alone a GoesOn = (tt, tt)

changed : (a : ℕ) (words : List ℕ) (at : Option ℕ) (f : ℕ → ℕ) → MakeNone (changed_at a words at f)
changed a words None f = tt
changed a words (Some place) f = (tt, tt)

outer : {A : Type 0} (a : ℕ) (words : List ℕ) (ask : Ask A) → MakeNone (outer_events a words ask)
outer a words ask = changed a words (writes ask) (asked ask)

reserved : (a : ℕ) (s : AppendState) (ask : Ask ReserveAnswer) → MakeNone (reserved_events a s ask)
reserved a s (Done (Reserved addr)) = none_by_test (is_for_entry s addr) _ _ (tt, tt) (tt, (tt, tt))
reserved a s ask = (tt, tt)

published : {A : Type 0} (a : ℕ) (words : List ℕ) (step : Publishing) (ask : Ask A) → MakeNone (publish_events a words step ask)
published a words (SwapsEntry place word entry) ask = none_by_test (word_at words place == word) _ _ (tt, outer a words ask) (outer a words ask)
published a words step ask = outer a words ask

appended : {A : Type 0} (a room : ℕ) (words : List ℕ) (s : AppendState) (step : Appending) (ask : Ask A) → MakeNone (append_events a room words s step ask)
appended a room words s appending.Reserves ask = reserved a s (reserve_next_ask room s.reserving (reply_to words ask))
appended a room words s (appending.Fills addr) ask = (tt, tt)
appended a room words s (appending.Publishes addr) ask = published a words s.publishing ask
appended a room words s appending.Invalidates ask = (tt, tt)
appended a room words s step ask = outer a words ask

tried : {A : Type 0} (a room : ℕ) (words : List ℕ) (p : Places) (t : TryState) (step : Trying) (ask : Ask A) → MakeNone (try_events a room words p t step ask)
tried a room words p t (SwapsValue addr) ask = (tt, tt)
tried a room words p t (ChangesValue addr old) ask = none_by_test (word_at words (record_place p addr.0 rec.Value) == old) _ _ (tt, tt) tt
tried a room words p t (Appends its) ask = appended a room words t.append t.append.step ask
tried a room words p t step ask = outer a words ask

attempted : {A : Type 0} (a room : ℕ) (words : List ℕ) (p : Places) (s : AttemptState) (step : Attempting) (ask : Ask A) → MakeNone (attempt_events a room words p s step ask)
attempted a room words p s Tries ask = tried a room words p s.trial s.trial.step ask
attempted a room words p s step ask = outer a words ask

caught : {A : Type 0} (a : ℕ) (words : List ℕ) (step : Catching) (ask : Ask A) → MakeNone (catch_events a words step ask)
caught a words Refreshes ask = (tt, tt)
caught a words Protects ask = (tt, tt)
caught a words Finishes ask = (tt, tt)
caught a words step ask = outer a words ask

sat : {A : Type 0} (k : Seat) (words : List ℕ) (s : SessionState) (step : Sitting) (ask : Ask A) → MakeNone (sitting_events k words s step ask)
sat k words s (Attempts has_shifted) ask = attempted k.number (room_of k) words k.places s.attempt s.attempt.step ask
sat k words s (Polls index) ask = attempted k.number (room_of k) words k.places s.attempt s.attempt.step ask
sat k words s (CatchesUp cause) ask = caught k.number words s.catching.step ask
sat k words s (Turns its) ask = (tt, tt)
sat k words s Leaves ask = (tt, tt)
sat k words s step ask = outer k.number words ask

-- a session's step
pub session_none : (k : Seat) (words : List ℕ) (s after : SessionState) → MakeNone (session_guard_events k words s after)
session_none k words s after = none_by_test (is_done (session_ask k s)) [] _ tt (goes_onward k.number (sitting_onward after after.step) (sitting_events k words s s.step (session_ask k s)) (sat k words s s.step (session_ask k s)))

-- and a call that begins
pub called_none : (k : Seat) (after : SessionState) → MakeNone (called_guard_events k after)
called_none k after = onward_alone k.number (sitting_onward after after.step)
