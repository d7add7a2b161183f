-- The updates that the lines of a life call are of numbers that fit, where the calls of its events are.
use Rattle.std.proofs.Common.{◌≡◌, ℕ, sym, subst, Bool, true, false, cond, List, [], ◌∷◌, ◌++◌}
use Rattle.std.specs.Prelude.{⊤, ◌&&◌, nat_eq, if◌then◌else◌, length, Option, Some, None, slice_get}
use Rattle.fkv_map.specs.declared.operations.Call.{Call}
use Rattle.fkv_map.specs.declared.operations.Call.TheVariants as call
use Rattle.fkv_map.specs.declared.operations.Op.{Op}
use Rattle.fkv_map.specs.declared.operations.Op.TheVariants.{Upsert, Delete, Add, Max, Read, Merge}
use Rattle.law_log.specs.Trace.{TraceLine, CallsUpdate, RefusesUpdate, GivesResult, CallsRead, AnswersRead, called_as}
use Rattle.law_refine.specs.Below.fkv_keeper.TheKeeping.{Keeping}
use Rattle.law_refine.specs.Below.fkv_keeper.TheKeeping.TheVariants.{Ended}
use Rattle.law_refine.specs.Below.fkv_keeper.Keeping.{Finality}
use Rattle.law_refine.specs.Below.fkv_keeper.KeeperRun.{is_in_hand}
use Rattle.law_refine.specs.Below.fkv_session.Finished.{Finished}
use Rattle.law_refine.specs.Below.fkv_session.Finished.TheVariants as finished
use Rattle.law_refine.specs.Below.fkv_session.Told.{Told}
use Rattle.law_refine.specs.Below.fkv_session.Told.TheVariants as told
use Rattle.law_refine.specs.Below.fkv_session.Sitting.{Sitting}
use Rattle.law_refine.specs.Below.fkv_session.Sitting.TheVariants.{Idle}
use Rattle.law_refine.specs.Below.fkv_session.Sessions.{SessionState, is_busy}
use Rattle.law_refine.specs.Below.law_world.Runs.Added.{told_at, call_begun, begun_by, call_answered, session_answered, keeper_told, ended_by, told_by, is_calling}
use Rattle.law_refine.specs.Below.fkv_world.Past.{Traced, TraceEvent, Called, Answered, CommitAsked, TurnAsked}
use Rattle.law_refine.specs.Below.fkv_world.Runs.{World, happens, run}
use Rattle.law_refine.specs.Below.fkv_world.World.{Event, Calls, Moves, Commits, Turns, KeeperMoves, Crashes, Now}
use Rattle.law_refine.proofs.Below.law_world.OfRuns.Added.{trace_so}
use Rattle.law_refine.specs.Calls.Calls.{lines_of_life}
use Rattle.law_refine.specs.Events.GhostEvents.{serials_in}
use Rattle.law_refine.specs.Events.Lines.{CallMade, op_line, call_lines, finished_line, finished_lines, refused_op, refused_call, refused_lines, answer_lines, event_lines, lines_of, last_call, next_serial}
use Rattle.fkv_map.specs.Fits.{OpFits}
use Rattle.law_opening.specs.Changes.Fits.{CallFits, CallsFit, EventFits}

-- each update that these lines call is of numbers that fit
abbrev pub LineFits : TraceLine → Type 0
LineFits (CallsUpdate session serial op) = OpFits op
LineFits line = ⊤

abbrev pub LinesFit : List TraceLine → Type 0
LinesFit [] = ⊤
LinesFit (line ∷ before) = LineFits line × LinesFit before

abbrev pub FoundFits : Option Op → Type 0
FoundFits None = ⊤
FoundFits (Some op) = OpFits op

found_fits : (t : Bool) (one other : Option Op) → FoundFits one → FoundFits other → FoundFits (cond t one other)
found_fits true one other fits others = fits
found_fits false one other fits others = others

pub called_fits : (trace : List TraceLine) (session serial : ℕ) → LinesFit trace → FoundFits (called_as trace session serial)
called_fits [] session serial fits = tt
called_fits (CallsUpdate s n op ∷ before) session serial fits = found_fits (nat_eq s session && nat_eq n serial) (Some op) (called_as before session serial) fits.0 (called_fits before session serial fits.1)
called_fits (RefusesUpdate s n ∷ before) session serial fits = found_fits (nat_eq s session && nat_eq n serial) None (called_as before session serial) tt (called_fits before session serial fits.1)
called_fits (GivesResult s n reply ∷ before) session serial fits = called_fits before session serial fits.1
called_fits (CallsRead reader key ∷ before) session serial fits = called_fits before session serial fits.1
called_fits (AnswersRead reader reply ∷ before) session serial fits = called_fits before session serial fits.1

-- ---- a trace
-- the calls that a trace has
abbrev IsTracedFit : TraceEvent → Type 0
IsTracedFit (Called session its) = CallFits its
IsTracedFit event = ⊤

abbrev AreTracedFit : List TraceEvent → Type 0
AreTracedFit [] = ⊤
AreTracedFit (event ∷ before) = IsTracedFit event × AreTracedFit before

abbrev TraceFits : List Traced → Type 0
TraceFits [] = ⊤
TraceFits (it ∷ before) = IsTracedFit it.its × TraceFits before

-- ---- what an event adds
both_traced : (later before : List TraceEvent) → AreTracedFit later → AreTracedFit before → AreTracedFit (later ++ before)
both_traced [] before one other = other
both_traced (event ∷ later) before one other = (one.0, both_traced later before one.1 other)

answered_fit : (session : ℕ) (was : Bool) (step : Sitting) (list : List Finished) → AreTracedFit (call_answered session was step list)
answered_fit session true (Idle its) list = (tt, tt)
answered_fit session was step list = tt

session_fit : (session : ℕ) (was : Bool) (after : Option SessionState) → AreTracedFit (session_answered session was after)
session_fit session was None = tt
session_fit session was (Some after) = answered_fit session was after.step after.finished

keeper_fit : (was : Bool) (step : Keeping) (last : Finality) → AreTracedFit (keeper_told was step last)
keeper_fit true (Ended its) last = (tt, tt)
keeper_fit was step last = tt

ended_fit : (n after : Now) (event : Event) → AreTracedFit (ended_by n after event)
unfolding ended_by
ended_fit n after (Calls session its) = session_fit session (is_calling true (slice_get n.sessions session)) (slice_get after.sessions session)
ended_fit n after (Moves session) = session_fit session (is_calling false (slice_get n.sessions session)) (slice_get after.sessions session)
ended_fit n after (Commits kind) = keeper_fit (if is_in_hand n.keeper.step then false else true) after.keeper.step after.keeper.last
ended_fit n after Turns = keeper_fit (if is_in_hand n.keeper.step then false else true) after.keeper.step after.keeper.last
ended_fit n after (KeeperMoves granted done) = keeper_fit (is_in_hand n.keeper.step) after.keeper.step after.keeper.last
ended_fit n after Crashes = tt

unless : (busy : Bool) (event : TraceEvent) → IsTracedFit event → AreTracedFit (if busy then [] else event ∷ [])
unless true event fits = tt
unless false event fits = (fits, tt)

call_fit : (session : ℕ) (its : Call) (found : Option SessionState) → CallFits its → AreTracedFit (call_begun session its found)
call_fit session its None fits = tt
call_fit session its (Some s) fits = unless (is_busy s.step) (Called session its) fits

begun_fit : (n : Now) (event : Event) → EventFits event → AreTracedFit (begun_by n event)
unfolding begun_by
begun_fit n (Calls session its) fits = call_fit session its (slice_get n.sessions session) fits
begun_fit n (Commits kind) fits = unless (is_in_hand n.keeper.step) (CommitAsked kind) tt
begun_fit n Turns fits = unless (is_in_hand n.keeper.step) TurnAsked tt
begun_fit n (Moves session) fits = tt
begun_fit n (KeeperMoves granted done) fits = tt
begun_fit n Crashes fits = tt

told_fit : (n after : Now) (event : Event) → EventFits event → AreTracedFit (told_by n after event)
told_fit n after event fits = by_test n.crashed
  where
    by_test : (c : Bool) → AreTracedFit (if c then [] else ended_by n after event ++ begun_by n event)
    by_test true = tt
    by_test false = both_traced (ended_by n after event) (begun_by n event) (ended_fit n after event) (begun_fit n event fits)

-- ---- a life's trace
put_before : (effects : ℕ) (added : List TraceEvent) (before : List Traced) → AreTracedFit added → TraceFits before → TraceFits (told_at effects added ++ before)
put_before effects [] before fits was = was
put_before effects (event ∷ added) before fits was = (fits.0, put_before effects added before fits.1 was)

trace_fits : (opening : World) (events : List Event) → opening.past.trace ≡ [] → CallsFit events → TraceFits (run opening events).past.trace
unfolding run
trace_fits opening [] none fits = subst TraceFits (sym none) tt
trace_fits opening (event ∷ before) none fits =
    let w : World = run opening before in
    subst TraceFits (sym (trace_so w event))
    (put_before (length (happens w event).past.history) (told_by w.now (happens w event).now event) w.past.trace (told_fit w.now (happens w event).now event fits.0) (trace_fits opening before none fits.1))

-- ---- its lines
both_lines : (later before : List TraceLine) → LinesFit later → LinesFit before → LinesFit (later ++ before)
both_lines [] before one other = other
both_lines (line ∷ later) before one other = (one.0, both_lines later before one.1 other)

op_fits : (session number serial : ℕ) (op : Op) → OpFits op → LineFits (op_line session number serial op)
op_fits session number serial (Read key) fits = tt
op_fits session number serial (Upsert key value) fits = fits
op_fits session number serial (Delete key) fits = fits
op_fits session number serial (Add key n) fits = fits
op_fits session number serial (Max key n) fits = fits
op_fits session number serial (Merge key which n) fits = fits

called_lines : (first : ℕ → ℕ) (before : List Traced) (session : ℕ) (its : Call) → CallFits its → LinesFit (call_lines first before session its)
called_lines first before session (call.Op op) fits = (op_fits session (length before) (next_serial first session before) op fits, tt)
called_lines first before session its fits = tt

finished_fits : (session : ℕ) (before : List Traced) (it : Finished) → LineFits (finished_line session before it)
finished_fits session before (finished.Update serial its) = tt
finished_fits session before (finished.Read ticket value) = tt

list_fits : (session : ℕ) (before : List Traced) (list : List Finished) → LinesFit (finished_lines session before list)
list_fits session before [] = tt
list_fits session before (it ∷ rest) = both_lines (finished_lines session before rest) (finished_line session before it ∷ []) (list_fits session before rest) (finished_fits session before it, tt)

refused_op_fits : (session serial : ℕ) (op : Op) → LinesFit (refused_op session serial op)
refused_op_fits session serial (Read key) = tt
refused_op_fits session serial op = (tt, tt)

refused_call_fits : (session serial : ℕ) (its : Call) → LinesFit (refused_call session serial its)
refused_call_fits session serial (call.Op op) = refused_op_fits session serial op
refused_call_fits session serial its = tt

refused_fits : (session serial : ℕ) (made : Option CallMade) → LinesFit (refused_lines session serial made)
refused_fits session serial None = tt
refused_fits session serial (Some made) = refused_call_fits session serial made.call

answer_fits : (first : ℕ → ℕ) (before : List Traced) (session : ℕ) (its : Told) (list : List Finished) → LinesFit (answer_lines first before session its list)
answer_fits first before session (told.Done serial its) list = (tt, tt)
answer_fits first before session (told.Found value) list = (tt, tt)
answer_fits first before session told.Absent list = (tt, tt)
answer_fits first before session (told.Polled left) list = list_fits session before list
answer_fits first before session (told.Refused why) list = refused_fits session (next_serial first session before) (last_call session before)
answer_fits first before session its list = tt

event_fits : (first : ℕ → ℕ) (before : List Traced) (event : TraceEvent) → IsTracedFit event → LinesFit (event_lines first before event)
event_fits first before (Called session its) fits = called_lines first before session its fits
event_fits first before (Answered session its) fits = answer_fits first before session its.its its.finished
event_fits first before event fits = tt

lines_fit : (first : ℕ → ℕ) (trace : List Traced) → TraceFits trace → LinesFit (lines_of first trace)
unfolding lines_of
lines_fit first [] fits = tt
lines_fit first (it ∷ before) fits = both_lines (event_lines first before it.its) (lines_of first before) (event_fits first before it.its fits.0) (lines_fit first before fits.1)

pub life_lines_fit : (opening : World) (events : List Event) → opening.past.trace ≡ [] → CallsFit events → LinesFit (lines_of_life opening events)
life_lines_fit opening events none fits = lines_fit (serials_in opening.now) (run opening events).past.trace (trace_fits opening events none fits)
