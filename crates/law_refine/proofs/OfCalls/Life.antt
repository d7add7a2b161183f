-- Over a life each session stands to its calls as the lines of the trace say.
use Rattle.std.proofs.Common.{◌≡◌, ℕ, zero, suc, ◌+◌, ◌∙◌, List, [], ◌∷◌, ◌++◌, length, refl, arith, ap, sym, subst, Bool, true, false, append-nil}
use Rattle.std.specs.Prelude.{slice_get, ◌==◌, ⊤}
use Rattle.std.proofs.lemmas.Bool.Decides.{nat_tests}
use Rattle.fkv_epoch.proofs.Shown.{some_same}
use Rattle.law_world.specs.Below.fkv_session.Finished.{Finished}
use Rattle.law_world.specs.Below.fkv_session.Told.{Told}
use Rattle.law_world.specs.Below.fkv_session.Told.TheVariants as told
use Rattle.law_world.specs.Below.fkv_session.Sitting.{Sitting}
use Rattle.law_world.specs.Below.fkv_session.Sitting.TheVariants.{Idle, Attempts, Polls}
use Rattle.law_world.specs.Below.fkv_session.Accounts.{AreInTurn, serials_given, serials_after}
use Rattle.law_world.specs.Below.fkv_session.Replies.{effects_told, op_called, serials_taken}
use Rattle.law_world.specs.Below.fkv_session.SessionRun.{SessionEvent, Begins, Replies, Gets, session_happens, session_run, Telling, with_finished, all_told, with_coming}
use Rattle.law_world.specs.Below.fkv_session.Sessions.{SessionState, Seat, IsOpened, is_busy}
use Rattle.law_world.proofs.Below.fkv_session.Shown.{IsTold, run_holds, run_request, run_told}
use Rattle.law_world.specs.Runs.Added.{call_answered, told_at, told_by}
use Rattle.law_world.specs.Below.fkv_world.Opened.{HasBecome, IsOpenedWorld, answers_of, life_told}
use Rattle.law_world.specs.Below.fkv_world.OwnEvents.{session_events}
use Rattle.law_world.specs.Below.fkv_world.Past.{Traced, TraceEvent, Called, Answered}
use Rattle.law_world.specs.Below.fkv_world.Runs.{World, happens, run}
use Rattle.law_world.specs.Below.fkv_world.World.{Event, seat_at}
use Rattle.law_world.proofs.OfSessions.Heard.{life_heard}
use Rattle.law_world.proofs.OfSessions.OwnRun.{of_run, opened_so}
use Rattle.law_world.proofs.Below.fkv_world.Shown.{same_seat, session_runs, session_runs_on}
use Rattle.law_world.proofs.OfRuns.Added.{trace_so}
use Rattle.law_refine.specs.Events.GhostEvents.{serial_in, serials_in}
use Rattle.law_refine.specs.Events.Lines.{newest_serial, next_serial, lines_of}
use Rattle.law_refine.proofs.OfCalls.Standing.{Ledger, Stands, IsStanding, IsCalm, Knows, next_stands, given_stands, begun_stands}
use Rattle.law_refine.proofs.OfCalls.Telling.{is_of_keeper, AreOfKeeper, AreReplies, Part, Starts, GoesOn, TellsSo, Keepers, Sessions, tells_so}
use Rattle.law_refine.proofs.OfCalls.Called.{ledger_of, is_other, other_told, same_number, with_called, own_begun, with_answered, IsRefusal, own_answered}

-- at a moment of the life: what was answered has been told
abbrev pub Stood : Ledger → SessionState → Sitting → Type 0
Stood l s (Idle its) = IsCalm ⊥ l s.serial s.ticket s.requests
Stood l s step = Stands ⊥ l s.serial s.ticket s.op s.requests step

-- ---- a session's own run
-- what is attempted
pub run_knows : (k : Seat) (first : SessionState) (events : List SessionEvent) → IsOpened first → Knows (session_run k first events) (session_run k first events).step
run_knows k first events opened = by_step (session_run k first events).step refl
  where
    by_step : (step : Sitting) → (session_run k first events).step ≡ step → Knows (session_run k first events) step
    by_step (Attempts has_shifted) e =
        let s : SessionState = session_run k first events in
        let its : IsTold k (effects_told k first events) (serials_taken k first events) (op_called k first events) (all_told k first events) s (Attempts has_shifted)
        = subst (λ (x : Sitting). IsTold k (effects_told k first events) (serials_taken k first events) (op_called k first events) (all_told k first events) s x) e (run_told k first events opened) in
        record { at = record { name = its.knows.name; op = its.knows.op }; under_way = its.knows.under_way }
    by_step (Polls index) e = let its = run_request k first events index opened e in record { its = its.request; at = its.waits; name = its.name; op = its.op }
    by_step step e = tt

part_stands : (l : Ledger) (k : Seat) (first : SessionState) (before later : List SessionEvent) → IsOpened first → AreReplies later → IsStanding ⊥ l (session_run k first before) → IsStanding ⊥ l (session_run k first (later ++ before))
unfolding session_run session_happens
part_stands l k first before [] opened all stands = stands
part_stands l k first before (Begins its ∷ later) opened all stands = absurd all
part_stands l k first before (Replies reply ∷ later) opened all stands =
    next_stands ⊥ l k (session_run k first (later ++ before)) reply (λ f. absurd f) (run_knows k first (later ++ before) opened) (part_stands l k first before later opened all stands)
part_stands l k first before (Gets action ∷ later) opened all stands =
    let s : SessionState = session_run k first (later ++ before) in
    given_stands ⊥ l k s s.step action refl (part_stands l k first before later opened all stands)

-- ---- the next serial
idle_coming : (step : Sitting) (finished : List Finished) (its : List Telling) → is_busy step ≡ false → with_coming step finished its ≡ its
idle_coming (Idle answer) finished its idle = refl
idle_coming step finished its idle = cc

newest_after : (first count : ℕ) → newest_serial first (serials_after first count) ≡ first + count
newest_after first zero = omega arith
newest_after first (suc count) = refl

pub told_so : (opening : World) (events : List Event) (number : ℕ) (first its : SessionState) → HasBecome opening events number first its → is_busy its.step ≡ false
    → life_told opening events number first ≡ answers_of number (run opening events).past.trace
told_so opening events number first its became idle = life_heard opening events number first its became ∙ idle_coming its.step its.finished (answers_of number (run opening events).past.trace) idle

pub next_at : (opening : World) (events : List Event) (number : ℕ) (first its : SessionState) → HasBecome opening events number first its → is_busy its.step ≡ false
    → next_serial (serials_in opening.now) number (run opening events).past.trace ≡ its.serial + 1
next_at opening events number first its became idle =
    let given : List Telling = answers_of number (run opening events).past.trace in
    let turn : AreInTurn first.serial its.serial (life_told opening events number first) = of_run (λ (s : SessionState). AreInTurn first.serial s.serial (life_told opening events number first)) opening events number first its became
    ((run_holds (seat_at opening.now number) first (session_events opening number events) (opened_so opening events number first its became)).books.serials) in
    let now : AreInTurn first.serial its.serial given = subst (AreInTurn first.serial its.serial) (told_so opening events number first its became idle) turn in
    let begun : serials_in opening.now number ≡ first.serial = ap serial_in became.was in
    let newest : newest_serial (serials_in opening.now number) (serials_given given) ≡ its.serial
    = ap (λ (n : ℕ). newest_serial n (serials_given given)) begun ∙ (ap (newest_serial first.serial) now.in_turn ∙ (newest_after first.serial (length (serials_given given)) ∙ sym now.counted)) in
    ap (λ (n : ℕ). n + 1) newest

-- ---- what an event tells
pub told_split : (effects : ℕ) (later before : List TraceEvent) (trace : List Traced) → told_at effects (later ++ before) ++ trace ≡ told_at effects later ++ (told_at effects before ++ trace)
told_split effects [] before trace = refl
told_split effects (it ∷ later) before trace = ap (λ (x : List Traced). record { its = it; effects = effects } ∷ x) (told_split effects later before trace)

refusal_serial : (first : ℕ → ℕ) (number effects : ℕ) (its : Told) (list : List Finished) (trace : List Traced) → IsRefusal its → next_serial first number (with_answered effects number its list trace) ≡ next_serial first number trace
refusal_serial first number effects (told.Refused why) list trace refusal = rw (same_number number) refl
refusal_serial first number effects its list trace refusal = absurd refusal

-- a call that has come to its end, or goes on
ended_stood : (first : ℕ → ℕ) (number effects : ℕ) (trace : List Traced) (its : SessionState) (step : Sitting) → its.step ≡ step → IsStanding ⊥ (ledger_of first number trace) its
    → (is_busy step ≡ false → next_serial first number (told_at effects (call_answered number true step its.finished) ++ trace) ≡ its.serial + 1)
    → Stood (ledger_of first number (told_at effects (call_answered number true step its.finished) ++ trace)) its step
ended_stood first number effects trace its (Idle answer) at stands next =
    own_answered ⊥ first number effects its.serial its.ticket its.op its.requests trace answer (with_finished answer its.finished)
    (λ refusal. sym (refusal_serial first number effects answer (with_finished answer its.finished) trace refusal) ∙ next refl)
    (subst (Stands ⊥ (ledger_of first number trace) its.serial its.ticket its.op its.requests) at stands)
ended_stood first number effects trace its step at stands next = subst (Stands ⊥ (ledger_of first number trace) its.serial its.ticket its.op its.requests) at stands

pub idle_calm : (l : Ledger) (s : SessionState) (step : Sitting) → is_busy step ≡ false → Stood l s step → IsCalm ⊥ l s.serial s.ticket s.requests
idle_calm l s (Idle its) idle stood = stood
idle_calm l s step idle stood = cc

busy_stands : (l : Ledger) (s : SessionState) (step : Sitting) → is_busy step ≡ true → Stood l s step → Stands ⊥ l s.serial s.ticket s.op s.requests step
busy_stands l s (Idle its) busy stood = cc
busy_stands l s step busy stood = stood

-- how the session stands as it comes to its end, before that is told
pub record ComesOn (first : ℕ → ℕ) (number effects : ℕ) (trace : List Traced) (its : SessionState) (told : List TraceEvent) : Type 0 where
  pub behind : List Traced
  pub begun : List TraceEvent
  pub is_told : told ≡ call_answered number true its.step its.finished ++ begun
  pub is_behind : behind ≡ told_at effects begun ++ trace
  pub stands : IsStanding ⊥ (ledger_of first number behind) its

pub part_comes : (first : ℕ → ℕ) (k k0 : Seat) (number effects : ℕ) (trace : List Traced) (opened : SessionState) (own : List SessionEvent) (s its : SessionState) (told : List TraceEvent) → IsOpened opened → k ≡ k0
    → s ≡ session_run k0 opened own → Part k number s its told → (is_busy s.step ≡ false → next_serial first number trace ≡ s.serial + 1) → Stood (ledger_of first number trace) s s.step
    → ComesOn first number effects trace its told
part_comes first k k0 number effects trace opened own s its told is_opened seat ran (Starts made idle begins is_told) next stood = record {
  behind = with_called effects number made trace;
  begun = Called number made ∷ [];
  is_told = is_told;
  is_behind = refl;
  stands = subst (IsStanding ⊥ (ledger_of first number (with_called effects number made trace))) (sym begins)
      (begun_stands ⊥ (ledger_of first number (with_called effects number made trace)) k s made
      (own_begun ⊥ first number effects s.serial s.ticket s.requests trace made (next idle) (idle_calm (ledger_of first number trace) s s.step idle stood)));
}
part_comes first k k0 number effects trace opened own s its told is_opened seat ran (GoesOn events busy all goes is_told) next stood = record {
  behind = trace;
  begun = [];
  is_told = is_told ∙ sym (append-nil (call_answered number true its.step its.finished));
  is_behind = refl;
  stands = subst (IsStanding ⊥ (ledger_of first number trace)) (sym same)
      (part_stands (ledger_of first number trace) k0 opened own events is_opened all (subst (IsStanding ⊥ (ledger_of first number trace)) ran (busy_stands (ledger_of first number trace) s s.step busy stood)));
}
  where
    same : its ≡ session_run k0 opened (events ++ own)
    same = goes ∙ (ap (λ (x : Seat). session_run x s events) seat ∙ (ap (λ (x : SessionState). session_run k0 x events) ran ∙ sym (session_runs_on k0 opened events own)))

-- and as it is told
comes_stood : (first : ℕ → ℕ) (number effects : ℕ) (trace after : List Traced) (its : SessionState) (told : List TraceEvent) → after ≡ told_at effects told ++ trace → (is_busy its.step ≡ false → next_serial first number after ≡ its.serial + 1)
    → ComesOn first number effects trace its told → Stood (ledger_of first number after) its its.step
comes_stood first number effects trace after its told is_after next comes =
    subst (λ (x : List Traced). Stood (ledger_of first number x) its its.step) (sym same)
    (ended_stood first number effects comes.behind its its.step refl comes.stands (λ idle. ap (next_serial first number) (sym same) ∙ next idle))
  where
    same : after ≡ told_at effects (call_answered number true its.step its.finished) ++ comes.behind
    same =
        is_after
        ∙ (ap (λ (x : List TraceEvent). told_at effects x ++ trace) comes.is_told
        ∙ (told_split effects (call_answered number true its.step its.finished) comes.begun trace ∙ ap (λ (x : List Traced). told_at effects (call_answered number true its.step its.finished) ++ x) (sym comes.is_behind)))

-- ---- others' events
abbrev pub AreOthers : ℕ → List TraceEvent → Type 0
AreOthers number [] = ⊤
AreOthers number (it ∷ before) = is_other number it × AreOthers number before

others_told : (first : ℕ → ℕ) (number effects : ℕ) (told : List TraceEvent) (trace : List Traced) → AreOthers number told → ledger_of first number (told_at effects told ++ trace) ≡ ledger_of first number trace
others_told first number effects [] trace all = refl
others_told first number effects (it ∷ before) trace all = other_told first number (record { its = it; effects = effects }) (told_at effects before ++ trace) all.0 ∙ others_told first number effects before trace all.1

pub keepers_other : (number : ℕ) (told : List TraceEvent) → AreOfKeeper told → AreOthers number told
keepers_other number [] all = tt
keepers_other number (it ∷ before) all = (by_event it all.0, keepers_other number before all.1)
  where
    by_event : (event : TraceEvent) → is_of_keeper event → is_other number event
    by_event (Called session its) its_own = absurd its_own
    by_event (Answered session its) its_own = absurd its_own
    by_event event its_own = tt

pub both_others : (number : ℕ) (later before : List TraceEvent) → AreOthers number later → AreOthers number before → AreOthers number (later ++ before)
both_others number [] before ones others = others
both_others number (it ∷ later) before ones others = (ones.0, both_others number later before ones.1 others)

pub end_other : (number at : ℕ) (step : Sitting) (list : List Finished) → (at == number) ≡ false → AreOthers number (call_answered at true step list)
end_other number at (Idle its) list other = (other, tt)
end_other number at step list other = tt

part_others : (number at : ℕ) (k : Seat) (s its : SessionState) (told : List TraceEvent) → (at == number) ≡ false → Part k at s its told → AreOthers number told
part_others number at k s its told other (Starts made idle begins is_told) =
    subst (AreOthers number) (sym is_told) (both_others number (call_answered at true its.step its.finished) (Called at made ∷ []) (end_other number at its.step its.finished other) (other, tt))
part_others number at k s its told other (GoesOn events busy all goes is_told) = subst (AreOthers number) (sym is_told) (end_other number at its.step its.finished other)

others_stood : (first : ℕ → ℕ) (number effects : ℕ) (told : List TraceEvent) (trace after : List Traced) (s its : SessionState) → after ≡ told_at effects told ++ trace → AreOthers number told → s ≡ its
    → Stood (ledger_of first number trace) s s.step → Stood (ledger_of first number after) its its.step
others_stood first number effects told trace after s its is_after all same stood =
    subst (λ (x : SessionState). Stood (ledger_of first number after) x x.step) same
    (subst (λ (l : Ledger). Stood l s s.step) (sym (ap (ledger_of first number) is_after ∙ others_told first number effects told trace all)) stood)

-- ---- each event of a life
event_stood : (opening : World) (event : Event) (before : List Event) (number : ℕ) (first s its : SessionState) → HasBecome opening before number first s → HasBecome opening (event ∷ before) number first its
    → s ≡ session_run (seat_at opening.now number) first (session_events opening number before) → TellsSo (run opening before) event
    → Stood (ledger_of (serials_in opening.now) number (run opening before).past.trace) s s.step → Stood (ledger_of (serials_in opening.now) number (happens (run opening before) event).past.trace) its its.step
unfolding run
event_stood opening event before number first s its had became ran (Keepers quiet stay) stood =
    others_stood (serials_in opening.now) number (length (happens (run opening before) event).past.history) _ (run opening before).past.trace _ s its (trace_so (run opening before) event) (keepers_other number _ quiet)
    (some_same s its (sym had.is_now ∙ (sym (stay number) ∙ became.is_now))) stood
event_stood opening event before number first s its had became ran (Sessions at was now found is_now others part) stood = by_number (at == number) refl
  where
    w : World
    w = run opening before

    by_number : (c : Bool) → (at == number) ≡ c → Stood (ledger_of (serials_in opening.now) number (happens w event).past.trace) its its.step
    by_number false other =
        others_stood (serials_in opening.now) number (length (happens w event).past.history) _ w.past.trace _ s its (trace_so w event) (part_others number at (seat_at w.now at) was now _ other part)
        (some_same s its (sym had.is_now ∙ (sym (others number other) ∙ became.is_now))) stood
    by_number true e =
        let same : at ≡ number = grind (arith, nat_tests, e) in
        let was_s : was ≡ s = some_same was s (sym found ∙ (ap (slice_get w.now.sessions) same ∙ had.is_now)) in
        let now_its : now ≡ its = some_same now its (sym is_now ∙ (ap (slice_get (happens w event).now.sessions) same ∙ became.is_now)) in
        let mine : Part (seat_at w.now number) number s its (told_by w.now (happens w event).now event)
        = subst (λ (x : SessionState). Part (seat_at w.now number) number x its (told_by w.now (happens w event).now event)) was_s
        (subst (λ (x : SessionState). Part (seat_at w.now number) number was x (told_by w.now (happens w event).now event)) now_its
        (subst (λ (i : ℕ). Part (seat_at w.now i) i was now (told_by w.now (happens w event).now event)) same part)) in
        comes_stood (serials_in opening.now) number (length (happens w event).past.history) w.past.trace (happens w event).past.trace its (told_by w.now (happens w event).now event) (trace_so w event)
        (next_at opening (event ∷ before) number first its became)
        (part_comes (serials_in opening.now) (seat_at w.now number) (seat_at opening.now number) number (length (happens w event).past.history) w.past.trace first (session_events opening number before) s its _
        (became.opened.sessions number first became.was) (same_seat opening before number) ran mine (next_at opening before number first s had) stood)

opened_stood : (opening : World) (number : ℕ) (s : SessionState) → IsOpenedWorld opening → IsOpened s → Stood (ledger_of (serials_in opening.now) number opening.past.trace) s s.step
unfolding lines_of
opened_stood opening number s opened its = by_step s.step its.none_in_hand
  where
    calm : IsCalm ⊥ (ledger_of (serials_in opening.now) number opening.past.trace) s.serial s.ticket s.requests
    calm = rw opened.no_trace (rw its.none_wait (record { waiting = tt; none = refl; later = λ n above. refl }))

    by_step : (step : Sitting) → is_busy step ≡ false → Stood (ledger_of (serials_in opening.now) number opening.past.trace) s step
    by_step (Idle answer) idle = calm
    by_step step idle = cc

pub life_stood : (opening : World) (events : List Event) (number : ℕ) (first its : SessionState) → HasBecome opening events number first its
    → Stood (ledger_of (serials_in opening.now) number (run opening events).past.trace) its its.step
unfolding run
life_stood opening [] number first its became = opened_stood opening number its became.opened (became.opened.sessions number its became.is_now)
life_stood opening (event ∷ before) number first its became =
    let s : SessionState = session_run (seat_at opening.now number) first (session_events opening number before) in
    let had : HasBecome opening before number first s = record { opened = became.opened; was = became.was; is_now = session_runs opening number first before became.was } in
    event_stood opening event before number first s its had became refl (tells_so (run opening before) event) (life_stood opening before number first s had)
