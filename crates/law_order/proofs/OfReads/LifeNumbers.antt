-- At each moment of a life the numbers of each session's reads are its own.
use Rattle.std.proofs.Common.{◌≡◌, ℕ, ◌∙◌, refl, sym, ap, subst, arith, Bool, true, false, List, [], ◌∷◌, ◌++◌, length}
use Rattle.std.specs.Prelude.{◌==◌, slice_get, Some}
use Rattle.std.proofs.lemmas.Bool.Decides.{nat_tests}
use Rattle.fkv_epoch.proofs.Shown.{some_same}
use Rattle.fkv_map.specs.declared.operations.Call.{Call}
use Rattle.law_commit.specs.Below.fkv_session.Finished.{Finished}
use Rattle.law_commit.specs.Below.fkv_session.Sitting.{Sitting}
use Rattle.law_commit.specs.Below.fkv_session.Sitting.TheVariants.{Idle}
use Rattle.law_commit.specs.Below.fkv_session.SessionRun.{telling}
use Rattle.law_commit.specs.Below.fkv_session.Sessions.{SessionState, is_busy, session_begun}
use Rattle.law_commit.specs.Below.law_world.Runs.Added.{call_answered, told_at, told_by}
use Rattle.law_commit.specs.Below.fkv_world.Opened.{IsOpenedWorld}
use Rattle.law_commit.specs.Below.fkv_world.Past.{Traced, TraceEvent, Called}
use Rattle.law_commit.specs.Below.fkv_world.Runs.{World, happens, run}
use Rattle.law_commit.specs.Below.fkv_world.World.{Event, seat_at}
use Rattle.law_commit.proofs.Below.fkv_world.Shown.{is_over}
use Rattle.law_commit.proofs.Below.law_world.OfRuns.Added.{trace_so}
use Rattle.law_commit.specs.Below.law_refine.Events.Lines.{read_in_hand, read_waiting}
use Rattle.law_order.specs.Reads.Reads.{is_given}
use Rattle.law_order.proofs.OfReads.Numbers.{Numbered, none_numbered, other_given, other_waiting, other_hand, other_numbered, called_numbered, answered_numbered}
use Rattle.law_commit.proofs.Below.law_refine.OfCalls.Called.{with_called}
use Rattle.law_commit.proofs.Below.law_refine.OfCalls.Telling.{AreOfKeeper}
use Rattle.law_order.proofs.OfReads.Turns.{Begins, Goes, Turn, Rests, BeginsOne, GoesOne, moved_to, turn_of}
use Rattle.law_commit.proofs.Below.law_refine.OfCalls.Life.{AreOthers, both_others, end_other, keepers_other}

-- ---- what others tell
pub others_given : (number ticket effects : ℕ) (told : List TraceEvent) (trace : List Traced) → AreOthers number told → is_given number ticket (told_at effects told ++ trace) ≡ is_given number ticket trace
others_given number ticket effects [] trace all = refl
others_given number ticket effects (it ∷ before) trace all = other_given number ticket (record { its = it; effects = effects }) (told_at effects before ++ trace) all.0 ∙ others_given number ticket effects before trace all.1

pub others_waiting : (number ticket effects : ℕ) (told : List TraceEvent) (trace : List Traced) → AreOthers number told → read_waiting number ticket (told_at effects told ++ trace) ≡ read_waiting number ticket trace
others_waiting number ticket effects [] trace all = refl
others_waiting number ticket effects (it ∷ before) trace all = other_waiting number ticket (record { its = it; effects = effects }) (told_at effects before ++ trace) all.0 ∙ others_waiting number ticket effects before trace all.1

pub others_hand : (number effects : ℕ) (told : List TraceEvent) (trace : List Traced) → AreOthers number told → read_in_hand number (told_at effects told ++ trace) ≡ read_in_hand number trace
others_hand number effects [] trace all = refl
others_hand number effects (it ∷ before) trace all = other_hand number (record { its = it; effects = effects }) (told_at effects before ++ trace) all.0 ∙ others_hand number effects before trace all.1

others_numbered : (number effects : ℕ) (told : List TraceEvent) (trace : List Traced) (busy : Bool) → AreOthers number told → Numbered number trace busy → Numbered number (told_at effects told ++ trace) busy
others_numbered number effects [] trace busy all its = its
others_numbered number effects (it ∷ before) trace busy all its = other_numbered number (record { its = it; effects = effects }) (told_at effects before ++ trace) busy all.0 (others_numbered number effects before trace busy all.1 its)

pub begins_other : (w : World) (event : Event) (number : ℕ) (its : Begins w event) → (its.number == number) ≡ false → AreOthers number (told_by w.now (happens w event).now event)
begins_other w event number its other =
    let after : SessionState = session_begun (seat_at w.now its.number) its.s its.its in
    subst (AreOthers number) (sym its.told) (both_others number (call_answered its.number true after.step after.finished) (Called its.number its.its ∷ []) (end_other number its.number after.step after.finished other) (other, tt))

pub goes_other : (w : World) (event : Event) (number : ℕ) (its : Goes w event) → (its.number == number) ≡ false → AreOthers number (told_by w.now (happens w event).now event)
goes_other w event number its other =
    let after : SessionState = moved_to w its.number its.s in
    subst (AreOthers number) (sym its.told) (end_other number its.number after.step after.finished other)

-- ---- the session's own
end_numbered : (effects number : ℕ) (step : Sitting) (list : List Finished) (behind : List Traced) → Numbered number behind true → Numbered number (told_at effects (call_answered number true step list) ++ behind) (is_busy step)
end_numbered effects number (Idle its) list behind was = answered_numbered effects number (telling its list) behind was
end_numbered effects number step list behind was = was

pub behind_call : (effects number : ℕ) (its : Call) (step : Sitting) (list : List Finished) (trace : List Traced)
    → told_at effects (call_answered number true step list ++ Called number its ∷ []) ++ trace ≡ told_at effects (call_answered number true step list) ++ with_called effects number its trace
behind_call effects number its (Idle answer) list trace = refl
behind_call effects number its step list trace = refl

-- ---- each event
pub same_number : (n k : ℕ) → (n == k) ≡ true → n ≡ k
same_number n k e = grind (arith, nat_tests, e)

-- the trace behind an event
abbrev pub effects_behind : World → Event → ℕ
effects_behind w event = length (happens w event).past.history

rests_numbered : (w : World) (event : Event) (number : ℕ) (busy : Bool) → AreOfKeeper (told_by w.now (happens w event).now event) → Numbered number w.past.trace busy → Numbered number (happens w event).past.trace busy
rests_numbered w event number busy quiet was =
    subst (λ trace. Numbered number trace busy) (sym (trace_so w event)) (others_numbered number (effects_behind w event) (told_by w.now (happens w event).now event) w.past.trace busy (keepers_other number (told_by w.now (happens w event).now event) quiet) was)

others_stay : (w : World) (event : Event) (number : ℕ) (busy : Bool) → AreOthers number (told_by w.now (happens w event).now event) → Numbered number w.past.trace busy → Numbered number (happens w event).past.trace busy
others_stay w event number busy others was =
    subst (λ trace. Numbered number trace busy) (sym (trace_so w event)) (others_numbered number (effects_behind w event) (told_by w.now (happens w event).now event) w.past.trace busy others was)

pub begins_trace : (w : World) (event : Event) (its : Begins w event)
    → (happens w event).past.trace ≡ told_at (effects_behind w event) (call_answered its.number true (session_begun (seat_at w.now its.number) its.s its.its).step (session_begun (seat_at w.now its.number) its.s its.its).finished) ++ with_called (effects_behind w event) its.number its.its w.past.trace
begins_trace w event its =
    let after : SessionState = session_begun (seat_at w.now its.number) its.s its.its in
    trace_so w event ∙ (ap (λ told. told_at (effects_behind w event) told ++ w.past.trace) its.told ∙ behind_call (effects_behind w event) its.number its.its after.step after.finished w.past.trace)

pub goes_trace : (w : World) (event : Event) (its : Goes w event) → (happens w event).past.trace ≡ told_at (effects_behind w event) (call_answered its.number true (moved_to w its.number its.s).step (moved_to w its.number its.s).finished) ++ w.past.trace
goes_trace w event its = trace_so w event ∙ ap (λ told. told_at (effects_behind w event) told ++ w.past.trace) its.told

abbrev AreNumbered : World → Type 0
AreNumbered w = (number : ℕ) (s : SessionState) → slice_get w.now.sessions number ≡ Some s → Numbered number w.past.trace (is_busy s.step)

turn_numbered : (w : World) (event : Event) → Turn w event → AreNumbered w → AreNumbered (happens w event)
turn_numbered w event (Rests quiet own stay) was number s found = rests_numbered w event number (is_busy s.step) quiet (was number s (sym (stay number) ∙ found))
turn_numbered w event (BeginsOne its) was number s found = by_number (its.number == number) refl
  where
    after : SessionState
    after = session_begun (seat_at w.now its.number) its.s its.its

    by_number : (c : Bool) → (its.number == number) ≡ c → Numbered number (happens w event).past.trace (is_busy s.step)
    by_number false e = others_stay w event number (is_busy s.step) (begins_other w event number its e) (was number s (sym (its.others number e) ∙ found))
    by_number true e =
        let same : its.number ≡ number = same_number its.number number e in
        let now : after ≡ s = some_same after s (sym its.now ∙ (ap (slice_get (happens w event).now.sessions) same ∙ found)) in
        let idle : Numbered its.number w.past.trace false = subst (Numbered its.number w.past.trace) its.idle (was its.number its.s its.found) in
        subst (λ (x : SessionState). Numbered number (happens w event).past.trace (is_busy x.step)) now
        (subst (λ n. Numbered n (happens w event).past.trace (is_busy after.step)) same
        (subst (λ trace. Numbered its.number trace (is_busy after.step)) (sym (begins_trace w event its))
        (end_numbered (effects_behind w event) its.number after.step after.finished (with_called (effects_behind w event) its.number its.its w.past.trace) (called_numbered (effects_behind w event) its.number its.its w.past.trace idle))))
turn_numbered w event (GoesOne its) was number s found = by_number (its.number == number) refl
  where
    after : SessionState
    after = moved_to w its.number its.s

    by_number : (c : Bool) → (its.number == number) ≡ c → Numbered number (happens w event).past.trace (is_busy s.step)
    by_number false e = others_stay w event number (is_busy s.step) (goes_other w event number its e) (was number s (sym (its.others number e) ∙ found))
    by_number true e =
        let same : its.number ≡ number = same_number its.number number e in
        let now : after ≡ s = some_same after s (sym its.now ∙ (ap (slice_get (happens w event).now.sessions) same ∙ found)) in
        let busy : Numbered its.number w.past.trace true = subst (Numbered its.number w.past.trace) its.busy (was its.number its.s its.found) in
        subst (λ (x : SessionState). Numbered number (happens w event).past.trace (is_busy x.step)) now
        (subst (λ n. Numbered n (happens w event).past.trace (is_busy after.step)) same
        (subst (λ trace. Numbered its.number trace (is_busy after.step)) (sym (goes_trace w event its))
        (end_numbered (effects_behind w event) its.number after.step after.finished w.past.trace busy)))

happens_numbered : (w : World) (event : Event) → AreNumbered w → AreNumbered (happens w event)
happens_numbered w event was = by_crash w.now.crashed refl
  where
    by_crash : (crashed : Bool) → w.now.crashed ≡ crashed → AreNumbered (happens w event)
    by_crash true over = subst AreNumbered (sym (is_over w event over)) was
    by_crash false alive = turn_numbered w event (turn_of w event alive) was

run_numbered : (opening : World) (events : List Event) → IsOpenedWorld opening → AreNumbered (run opening events)
unfolding run
run_numbered opening [] opened = λ number s found.
    subst (λ trace. Numbered number trace (is_busy s.step)) (sym opened.no_trace) (subst (Numbered number []) (sym (opened.sessions number s found).none_in_hand) (none_numbered number))
run_numbered opening (event ∷ before) opened = happens_numbered (run opening before) event (run_numbered opening before opened)

pub life_numbered : (opening : World) (events : List Event) (number : ℕ) (s : SessionState) → IsOpenedWorld opening → slice_get (run opening events).now.sessions number ≡ Some s → Numbered number (run opening events).past.trace (is_busy s.step)
life_numbered opening events number s opened found = run_numbered opening events opened number s found
