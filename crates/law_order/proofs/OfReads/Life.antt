-- Over each life the reads of sessions stand in the log as their control states say, and each answer of a read is enabled.
use Rattle.std.proofs.Common.{◌≡◌, ℕ, ◌<◌, ◌∙◌, refl, sym, ap, subst, arith, inl, Bool, true, false, List, [], ◌∷◌, ◌++◌, length}
use Rattle.std.specs.Prelude.{◌==◌, if◌then◌else◌, map, slice_get, Some}
use Rattle.std.proofs.lemmas.Bool.Decides.{nat_tests}
use Rattle.fkv_epoch.proofs.Shown.{some_same}
use Rattle.fkv_map.specs.declared.operations.Call.{Call}
use Rattle.fkv_map.specs.declared.operations.Call.TheVariants as call
use Rattle.fkv_map.specs.declared.operations.Op.TheVariants as op
use Rattle.law_log.specs.Ghosts.{Ghosts, GhostEvent, Tells, Fixes, Reading, ghosts_after, ghost_run}
use Rattle.law_log.specs.Trace.{TraceLine}
use Rattle.law_log.proofs.Shown.{run_on, set_there}
use Rattle.law_commit.specs.Below.fkv_session.Finished.{Finished}
use Rattle.law_commit.specs.Below.fkv_session.Sitting.{Sitting}
use Rattle.law_commit.specs.Below.fkv_session.Sitting.TheVariants.{Idle}
use Rattle.law_commit.specs.Below.fkv_session.Sessions.{SessionState, Seat, is_busy, session_ask, session_begun}
use Rattle.law_commit.specs.Below.law_world.Runs.Added.{call_answered, told_at, told_by}
use Rattle.law_commit.specs.Below.fkv_world.Past.{Traced, TraceEvent, Called, Answered}
use Rattle.law_commit.specs.Below.fkv_world.Runs.{World, happens, run}
use Rattle.law_commit.specs.Below.fkv_world.World.{Event, seat_at, near}
use Rattle.law_commit.proofs.Below.law_world.OfRuns.Added.{trace_so}
use Rattle.law_commit.specs.Below.law_refine.Calls.Calls.{event_adds}
use Rattle.law_order.specs.Known.Answered.{EachAnswered}
use Rattle.law_order.specs.Known.Begins.{home_of_world}
use Rattle.law_commit.specs.Below.law_refine.Events.GhostEvents.{fixed_ghosts, life_ghosts, mapped, own_ghosts, safe_at, serials_in, ghost_events}
use Rattle.law_commit.specs.Below.law_refine.Events.Lines.{read_in_hand, read_waiting, call_lines, event_lines, lines_added}
use Rattle.law_commit.specs.Below.law_refine.Events.Sessions.{step_ghosts}
use Rattle.law_order.specs.Reads.Reads.{SessionReadings, readings_of, AllWait, SitsReads, SessionReads, ReadsKnown}
use Rattle.law_order.proofs.OfReads.Answers.{AreSame, same_wait, same_sits, tell, AllCallOther, told_reads, both_other, end_lines, end_calls, end_each, end_sits}
use Rattle.law_order.proofs.OfReads.Coming.{IsInHandAs, Comes, IsFreshly, begun_comes}
use Rattle.law_order.proofs.OfReads.LifeNumbers.{others_given, others_waiting, others_hand, begins_other, goes_other, same_number, effects_behind, begins_trace, goes_trace}
use Rattle.law_order.proofs.OfReads.Numbers.{IsOwn, own_below, own_same, Numbered, called_hand}
use Rattle.law_order.proofs.OfReads.Steps.{StepFacts, steps_by, steps_touch}
use Rattle.law_order.proofs.OfReads.Touched.{untouched}
use Rattle.law_commit.proofs.Below.law_refine.OfCalls.Called.{with_called}
use Rattle.law_commit.proofs.Below.law_refine.OfCalls.Telling.{is_of_keeper, AreOfKeeper}
use Rattle.law_order.proofs.OfReads.Turns.{Begins, Goes, moved_to}
use Rattle.law_commit.proofs.Below.law_refine.OfCalls.Life.{AreOthers, keepers_other}

-- ---- the log behind an event
-- what the event does, before it tells anything
abbrev pub acted : World → Event → List GhostEvent
acted w event = fixed_ghosts (safe_at w.now) (safe_at (happens w event).now) ++ own_ghosts w event

abbrev pub base_of : World → Ghosts → List Event → Event → Ghosts
base_of opening ghosts before event = ghost_run (home_of_world opening) (life_ghosts opening ghosts before) (acted (run opening before) event)

pub life_next : (opening : World) (ghosts : Ghosts) (before : List Event) (event : Event) → (run opening before).now.crashed ≡ false
    → life_ghosts opening ghosts (event ∷ before) ≡ tell (home_of_world opening) (base_of opening ghosts before event) (event_adds opening before event)
unfolding mapped ghost_events
life_next opening ghosts before event alive =
    let home = home_of_world opening in
    let lines : List GhostEvent = map Tells (event_adds opening before event) in
    ap (λ (c : Bool). ghost_run home ghosts ((if c then [] else lines ++ acted (run opening before) event) ++ mapped opening before)) alive
    ∙ (run_on home ghosts (lines ++ acted (run opening before) event) (mapped opening before) ∙ run_on home (life_ghosts opening ghosts before) lines (acted (run opening before) event))

pub life_over : (opening : World) (ghosts : Ghosts) (before : List Event) (event : Event) → (run opening before).now.crashed ≡ true → life_ghosts opening ghosts (event ∷ before) ≡ life_ghosts opening ghosts before
unfolding mapped ghost_events
life_over opening ghosts before event over =
    ap (λ (c : Bool). ghost_run (home_of_world opening) ghosts ((if c then [] else map Tells (event_adds opening before event) ++ acted (run opening before) event) ++ mapped opening before)) over

-- what is fixed leaves reads
fixed_reads : (home : ℕ → ℕ) (g : Ghosts) (before safe : ℕ) (own : List GhostEvent) → (ghost_run home g (fixed_ghosts before safe ++ own)).reads ≡ (ghost_run home g own).reads
unfolding ghost_run ghosts_after
fixed_reads home g before safe own = by_test (safe == before)
  where
    by_test : (c : Bool) → (ghost_run home g ((if c then [] else Fixes safe ∷ []) ++ own)).reads ≡ (ghost_run home g own).reads
    by_test true = refl
    by_test false = refl

-- ---- the lines that an event adds
quiet_lines : (first : ℕ → ℕ) (effects : ℕ) (told : List TraceEvent) (trace : List Traced) → AreOfKeeper told → lines_added first trace (told_at effects told) ≡ []
unfolding lines_added
quiet_lines first effects [] trace all = refl
quiet_lines first effects (it ∷ before) trace all = by_event it all.0 (quiet_lines first effects before trace all.1)
  where
    by_event : (event : TraceEvent) → is_of_keeper event → lines_added first trace (told_at effects before) ≡ [] → event_lines first (told_at effects before ++ trace) event ++ lines_added first trace (told_at effects before) ≡ []
    by_event (Called session its) own none = absurd own
    by_event (Answered session its) own none = absurd own
    by_event event own none = none

goes_lines : (first : ℕ → ℕ) (effects number : ℕ) (step : Sitting) (list : List Finished) (trace : List Traced) → lines_added first trace (told_at effects (call_answered number true step list)) ≡ end_lines first trace number step list ++ []
unfolding lines_added
goes_lines first effects number (Idle its) list trace = refl
goes_lines first effects number step list trace = refl

begins_lines : (first : ℕ → ℕ) (effects number : ℕ) (its : Call) (step : Sitting) (list : List Finished) (trace : List Traced)
    → lines_added first trace (told_at effects (call_answered number true step list ++ Called number its ∷ [])) ≡ end_lines first (with_called effects number its trace) number step list ++ (call_lines first trace number its ++ [])
unfolding lines_added
begins_lines first effects number its (Idle answer) list trace = refl
begins_lines first effects number its step list trace = refl

-- ---- a session that takes no part
stay_same : (reads after : ℕ → Reading) (effects number : ℕ) (told : List TraceEvent) (trace : List Traced) (busy : Bool) → AreOthers number told → ((reader : ℕ) → IsOwn number reader trace → after reader ≡ reads reader) → Numbered number trace busy
    → AreSame (readings_of reads trace number) (readings_of after (told_at effects told ++ trace) number) busy
stay_same reads after effects number told trace busy all same numbered = record {
  given = λ ticket. others_given number ticket effects told trace all;
  waiting = λ ticket given. ap after (others_waiting number ticket effects told trace all) ∙ same (read_waiting number ticket trace) (numbered.waits ticket given);
  in_hand = λ e. ap after (others_hand number effects told trace all) ∙ same (read_in_hand number trace) (numbered.in_hand e);
}

stays_so : (w : World) (event : Event) (number : ℕ) (s : SessionState) (reads after : ℕ → Reading) → AreOthers number (told_by w.now (happens w event).now event) → ((reader : ℕ) → IsOwn number reader w.past.trace → after reader ≡ reads reader)
    → Numbered number w.past.trace (is_busy s.step) → SessionReads reads w.past.trace number s → SessionReads after (happens w event).past.trace number s
stays_so w event number s reads after all same numbered so =
    subst (λ trace. SessionReads after trace number s) (sym (trace_so w event))
    (same_sits (readings_of reads w.past.trace number) (readings_of after (told_at (effects_behind w event) (told_by w.now (happens w event).now event) ++ w.past.trace) number) s s.step
    (stay_same reads after (effects_behind w event) number (told_by w.now (happens w event).now event) w.past.trace (is_busy s.step) all same numbered) so)

-- ---- a call that begins
-- its line calls no read that was called before
call_other : (first : ℕ → ℕ) (trace : List Traced) (number reader : ℕ) (its : Call) → reader < length trace → AllCallOther reader (call_lines first trace number its ++ [])
call_other first trace number reader (call.Op (op.Read key)) low = (λ same. omega (arith, low, same), tt)
call_other first trace number reader (call.Op o) low = (tt, tt)
call_other first trace number reader its low = tt

-- the read in hand is called then
call_in_hand : (home : ℕ → ℕ) (base : Ghosts) (first : ℕ → ℕ) (effects number : ℕ) (its : Call) (trace : List Traced)
    → IsInHandAs (readings_of (tell home base (call_lines first trace number its ++ [])).reads (with_called effects number its trace) number) its
unfolding ghost_run ghosts_after
call_in_hand home base first effects number (call.Op (op.Read key)) trace = λ read.
    let hand : read_in_hand number (with_called effects number (call.Op (op.Read key)) trace) ≡ length trace = called_hand effects number (call.Op (op.Read key)) trace in
    inl (base.log.history, ap (tell home base (call_lines first trace number (call.Op (op.Read key)) ++ [])).reads hand ∙ set_there base.reads (length trace) _)
call_in_hand home base first effects number (call.Op o) trace = λ read. cc
call_in_hand home base first effects number its trace = tt

call_waits : (home : ℕ → ℕ) (base : Ghosts) (reads : ℕ → Reading) (first : ℕ → ℕ) (effects number : ℕ) (its : Call) (trace : List Traced) (s : SessionState) → base.reads ≡ reads → Numbered number trace false → AllWait (readings_of reads trace number) s.requests
    → AllWait (readings_of (tell home base (call_lines first trace number its ++ [])).reads (with_called effects number its trace) number) s.requests
call_waits home base reads first effects number its trace s same numbered all =
    same_wait (readings_of reads trace number) (readings_of (tell home base (call_lines first trace number its ++ [])).reads (with_called effects number its trace) number) false s.requests
    (record {
      given = λ ticket. refl;
      waiting = λ ticket given.
          told_reads home base (call_lines first trace number its ++ []) (read_waiting number ticket trace) (call_other first trace number (read_waiting number ticket trace) its (own_below number (read_waiting number ticket trace) trace (numbered.waits ticket given)))
          ∙ ap (λ (f : ℕ → Reading). f (read_waiting number ticket trace)) same;
      in_hand = λ e. never e;
    })
    all
  where
    never : {X : Type 0} → false ≡ true → X
    never e = cc

-- ---- each event
-- what is shown of it: each answer is enabled, and how far reads have come then
pub record IsAnsweredSo (opening : World) (ghosts : Ghosts) (before : List Event) (event : Event) : Type 0 where
  pub each : EachAnswered (home_of_world opening) (base_of opening ghosts before event) (event_adds opening before event)
  pub known : (number : ℕ) (s : SessionState) → slice_get (happens (run opening before) event).now.sessions number ≡ Some s
      → SessionReads (tell (home_of_world opening) (base_of opening ghosts before event) (event_adds opening before event)).reads (happens (run opening before) event).past.trace number s

base_reads : (opening : World) (ghosts : Ghosts) (before : List Event) (event : Event) (own : List GhostEvent) → own_ghosts (run opening before) event ≡ own
    → (base_of opening ghosts before event).reads ≡ (ghost_run (home_of_world opening) (life_ghosts opening ghosts before) own).reads
base_reads opening ghosts before event own e =
    fixed_reads (home_of_world opening) (life_ghosts opening ghosts before) (safe_at (run opening before).now) (safe_at (happens (run opening before) event).now) (own_ghosts (run opening before) event)
    ∙ ap (λ (events : List GhostEvent). (ghost_run (home_of_world opening) (life_ghosts opening ghosts before) events).reads) e

at_reader : (f g : ℕ → Reading) (reader : ℕ) → f ≡ g → f reader ≡ g reader
at_reader f g reader e = ap (λ (h : ℕ → Reading). h reader) e

-- none of a session's
pub rests_so : (opening : World) (ghosts : Ghosts) (before : List Event) (event : Event) → AreOfKeeper (told_by (run opening before).now (happens (run opening before) event).now event) → own_ghosts (run opening before) event ≡ []
    → ((number : ℕ) → slice_get (happens (run opening before) event).now.sessions number ≡ slice_get (run opening before).now.sessions number)
    → ((number : ℕ) (s : SessionState) → slice_get (run opening before).now.sessions number ≡ Some s → Numbered number (run opening before).past.trace (is_busy s.step)) → ReadsKnown opening ghosts before → IsAnsweredSo opening ghosts before event
unfolding ghost_run
rests_so opening ghosts before event quiet own stay numbered known =
    let w : World = run opening before in
    let base : Ghosts = base_of opening ghosts before event in
    let none : event_adds opening before event ≡ [] = quiet_lines (serials_in opening.now) (effects_behind w event) (told_by w.now (happens w event).now event) w.past.trace quiet in
    record {
      each = subst (EachAnswered (home_of_world opening) base) (sym none) tt;
      known = λ number s found.
          let was = sym (stay number) ∙ found in
          subst (λ lines. SessionReads (tell (home_of_world opening) base lines).reads (happens w event).past.trace number s) (sym none)
          (stays_so w event number s (life_ghosts opening ghosts before).reads base.reads (keepers_other number (told_by w.now (happens w event).now event) quiet)
          (λ reader is_own. at_reader base.reads (life_ghosts opening ghosts before).reads reader (base_reads opening ghosts before event [] own)) (numbered number s was) (known number s was));
    }

-- of another number
apart_numbers : (number other reader : ℕ) (trace : List Traced) → (number == other) ≡ false → IsOwn number reader trace → IsOwn other reader trace → ⊥
apart_numbers number other reader trace e one two = let same : number ≡ other = own_same number other reader trace one two in clash e same
  where
    clash : (number == other) ≡ false → number ≡ other → ⊥
    clash e same = grind (arith, nat_tests, e, same)

pub idle_waits : (r : SessionReadings) (s : SessionState) (step : Sitting) → is_busy step ≡ false → SitsReads r s step → AllWait r s.requests
idle_waits r s (Idle its) idle so = so
idle_waits r s step idle so = cc

-- a call that begins
pub begins_so : (opening : World) (ghosts : Ghosts) (before : List Event) (event : Event) (its : Begins (run opening before) event) → own_ghosts (run opening before) event ≡ []
    → ((number : ℕ) (s : SessionState) → slice_get (run opening before).now.sessions number ≡ Some s → Numbered number (run opening before).past.trace (is_busy s.step)) → ReadsKnown opening ghosts before → IsAnsweredSo opening ghosts before event
unfolding ghost_run
begins_so opening ghosts before event its own numbered known = record {
  each = subst (EachAnswered home base) (sym lines) (end_each home base first earlier behind its.number after after.step comes (call_each its.its));
  known = λ number s found. by_number number s found (its.number == number) refl;
}
  where
    w : World
    w = run opening before

    home : ℕ → ℕ
    home = home_of_world opening

    first : ℕ → ℕ
    first = serials_in opening.now

    reads : ℕ → Reading
    reads = (life_ghosts opening ghosts before).reads

    base : Ghosts
    base = base_of opening ghosts before event

    after : SessionState
    after = session_begun (seat_at w.now its.number) its.s its.its

    behind : List Traced
    behind = with_called (effects_behind w event) its.number its.its w.past.trace

    earlier : List TraceLine
    earlier = call_lines first w.past.trace its.number its.its ++ []

    lines : event_adds opening before event ≡ end_lines first behind its.number after.step after.finished ++ earlier
    lines = ap (λ told. lines_added first w.past.trace (told_at (effects_behind w event) told)) its.told ∙ begins_lines first (effects_behind w event) its.number its.its after.step after.finished w.past.trace

    base_same : base.reads ≡ reads
    base_same = base_reads opening ghosts before event [] own

    idle : Numbered its.number w.past.trace false
    idle = subst (Numbered its.number w.past.trace) its.idle (numbered its.number its.s its.found)

    waits : AllWait (readings_of reads w.past.trace its.number) its.s.requests
    waits = idle_waits (readings_of reads w.past.trace its.number) its.s its.s.step its.idle (known its.number its.s its.found)

    comes : Comes (readings_of (tell home base earlier).reads behind its.number) after
    comes = begun_comes (readings_of (tell home base earlier).reads behind its.number) (seat_at w.now its.number) its.s its.its (call_waits home base reads first (effects_behind w event) its.number its.its w.past.trace its.s base_same idle waits)
        (call_in_hand home base first (effects_behind w event) its.number its.its w.past.trace)

    call_each : (made : Call) → EachAnswered home base (call_lines first w.past.trace its.number made ++ [])
    call_each (call.Op (op.Read key)) = (tt, tt)
    call_each (call.Op o) = (tt, tt)
    call_each made = tt

    all_lines : (reader : ℕ) → reader < length w.past.trace → AllCallOther reader (end_lines first behind its.number after.step after.finished ++ earlier)
    all_lines reader low =
        both_other reader (end_lines first behind its.number after.step after.finished) earlier (end_calls reader first behind its.number after.step after.finished) (call_other first w.past.trace its.number reader its.its low)

    by_number : (number : ℕ) (s : SessionState) → slice_get (happens w event).now.sessions number ≡ Some s → (c : Bool) → (its.number == number) ≡ c → SessionReads (tell home base (event_adds opening before event)).reads (happens w event).past.trace number s
    by_number number s found false e =
        let was = sym (its.others number e) ∙ found in
        subst (λ told. SessionReads (tell home base told).reads (happens w event).past.trace number s) (sym lines)
        (stays_so w event number s reads (tell home base (end_lines first behind its.number after.step after.finished ++ earlier)).reads (begins_other w event number its e)
        (λ reader is_own. told_reads home base (end_lines first behind its.number after.step after.finished ++ earlier) reader (all_lines reader (own_below number reader w.past.trace is_own)) ∙ at_reader base.reads reads reader base_same)
        (numbered number s was) (known number s was))
    by_number number s found true e =
        let same : its.number ≡ number = same_number its.number number e in
        let now : after ≡ s = some_same after s (sym its.now ∙ (ap (slice_get (happens w event).now.sessions) same ∙ found)) in
        subst (λ told. SessionReads (tell home base told).reads (happens w event).past.trace number s) (sym lines)
        (subst (λ (x : SessionState). SessionReads (tell home base (end_lines first behind its.number after.step after.finished ++ earlier)).reads (happens w event).past.trace number x) now
        (subst (λ n. SessionReads (tell home base (end_lines first behind its.number after.step after.finished ++ earlier)).reads (happens w event).past.trace n after) same
        (subst (λ trace. SessionReads (tell home base (end_lines first behind its.number after.step after.finished ++ earlier)).reads trace its.number after) (sym (begins_trace w event its))
        (end_sits home base first earlier behind (effects_behind w event) its.number after after.step comes))))

-- a step of a call
pub goes_so : (opening : World) (ghosts : Ghosts) (before : List Event) (event : Event) (its : Goes (run opening before) event)
    → own_ghosts (run opening before) event ≡ step_ghosts (seat_at (run opening before).now its.number) (run opening before).past.trace its.s (run opening before).now.words (session_ask (seat_at (run opening before).now its.number) its.s)
    → StepFacts (home_of_world opening) (life_ghosts opening ghosts before) (seat_at (run opening before).now its.number) (run opening before).past.trace (run opening before).now.words its.s → IsFreshly (moved_to (run opening before) its.number its.s)
    → ((number : ℕ) (s : SessionState) → slice_get (run opening before).now.sessions number ≡ Some s → Numbered number (run opening before).past.trace (is_busy s.step)) → ReadsKnown opening ghosts before → IsAnsweredSo opening ghosts before event
unfolding ghost_run
goes_so opening ghosts before event its own facts fresh numbered known = record {
  each = subst (EachAnswered home base) (sym lines) (end_each home base first [] w.past.trace its.number after after.step comes tt);
  known = λ number s found. by_number number s found (its.number == number) refl;
}
  where
    w : World
    w = run opening before

    home : ℕ → ℕ
    home = home_of_world opening

    first : ℕ → ℕ
    first = serials_in opening.now

    g : Ghosts
    g = life_ghosts opening ghosts before

    base : Ghosts
    base = base_of opening ghosts before event

    k : Seat
    k = seat_at w.now its.number

    after : SessionState
    after = moved_to w its.number its.s

    steps : List GhostEvent
    steps = step_ghosts k w.past.trace its.s w.now.words (session_ask k its.s)

    lines : event_adds opening before event ≡ end_lines first w.past.trace its.number after.step after.finished ++ []
    lines = ap (λ told. lines_added first w.past.trace (told_at (effects_behind w event) told)) its.told ∙ goes_lines first (effects_behind w event) its.number after.step after.finished w.past.trace

    base_same : base.reads ≡ (ghost_run home g steps).reads
    base_same = base_reads opening ghosts before event steps own

    comes : Comes (readings_of (tell home base []).reads w.past.trace its.number) after
    comes = subst (λ (f : ℕ → Reading). Comes (readings_of f w.past.trace its.number) after) (sym base_same) (steps_by home g k w.past.trace (near w.now its.s) (session_ask k its.s) refl facts fresh)

    by_number : (number : ℕ) (s : SessionState) → slice_get (happens w event).now.sessions number ≡ Some s → (c : Bool) → (its.number == number) ≡ c → SessionReads (tell home base (event_adds opening before event)).reads (happens w event).past.trace number s
    by_number number s found false e =
        let was = sym (its.others number e) ∙ found in
        subst (λ told. SessionReads (tell home base told).reads (happens w event).past.trace number s) (sym lines)
        (stays_so w event number s g.reads (tell home base (end_lines first w.past.trace its.number after.step after.finished ++ [])).reads (goes_other w event number its e)
        (λ reader is_own.
        told_reads home base (end_lines first w.past.trace its.number after.step after.finished ++ []) reader (both_other reader (end_lines first w.past.trace its.number after.step after.finished) [] (end_calls reader first w.past.trace its.number after.step after.finished) tt)
        ∙ (at_reader base.reads (ghost_run home g steps).reads reader base_same
        ∙ untouched (λ other. IsOwn its.number other w.past.trace) home g steps reader (steps_touch home g k w.past.trace w.now.words its.s (session_ask k its.s) facts) (λ mine. apart_numbers its.number number reader w.past.trace e mine is_own)))
        (numbered number s was) (known number s was))
    by_number number s found true e =
        let same : its.number ≡ number = same_number its.number number e in
        let now : after ≡ s = some_same after s (sym its.now ∙ (ap (slice_get (happens w event).now.sessions) same ∙ found)) in
        subst (λ told. SessionReads (tell home base told).reads (happens w event).past.trace number s) (sym lines)
        (subst (λ (x : SessionState). SessionReads (tell home base (end_lines first w.past.trace its.number after.step after.finished ++ [])).reads (happens w event).past.trace number x) now
        (subst (λ n. SessionReads (tell home base (end_lines first w.past.trace its.number after.step after.finished ++ [])).reads (happens w event).past.trace n after) same
        (subst (λ trace. SessionReads (tell home base (end_lines first w.past.trace its.number after.step after.finished ++ [])).reads trace its.number after) (sym (goes_trace w event its))
        (end_sits home base first [] w.past.trace (effects_behind w event) its.number after after.step comes))))
