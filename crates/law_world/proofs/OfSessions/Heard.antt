-- What callers see a session answer is what its own run has told.
use Rattle.std.proofs.Common.{◌≡◌, ℕ, ◌∙◌, ◌++◌, List, [], ◌∷◌, length, refl, ap, sym, subst, Bool, true, false, arith}
use Rattle.std.specs.Prelude.{⊤, Option, Some, None, slice_get, ◌==◌, if◌then◌else◌}
use Rattle.std.proofs.lemmas.Bool.Decides.{nat_tests}
use Rattle.fkv_plane.specs.declared.actions.Action.{Action}
use Rattle.fkv_plane.specs.declared.asks.Ask.{Ask}
use Rattle.fkv_plane.specs.declared.asks.Ask.TheVariants.{Put, Take, Done}
use Rattle.fkv_plane.specs.Asked.{reply_to}
use Rattle.fkv_plane.specs.Plane.{action_at}
use Rattle.fkv_map.specs.declared.operations.Call.{Call}
use Rattle.fkv_session.specs.declared.answers.Finished.{Finished}
use Rattle.fkv_session.specs.declared.answers.Told.{Told}
use Rattle.fkv_session.specs.declared.sessions.Sitting.{Sitting}
use Rattle.fkv_session.specs.declared.sessions.Sitting.TheVariants.{Idle}
use Rattle.fkv_session.specs.Sessions.{SessionState, Seat, is_busy, session_ask, session_next}
use Rattle.fkv_session.specs.SessionRun as session
use Rattle.fkv_session.specs.SessionRun.{SessionEvent, Telling, answered, session_happens, session_run, telling, tellings, told_after, with_coming}
use Rattle.fkv_keeper.specs.declared.keepers.Keeping.{Keeping}
use Rattle.fkv_keeper.specs.declared.keepers.Keeping.TheVariants.{Ended}
use Rattle.fkv_keeper.specs.Keeping.{Finality}
use Rattle.fkv_keeper.specs.KeeperRun.{is_in_hand}
use Rattle.fkv_world.specs.Actors.{is_of_session}
use Rattle.law_world.specs.Runs.Added.{told_at, call_begun, begun_by, call_answered, session_answered, keeper_told, is_calling, ended_by, told_by}
use Rattle.fkv_world.specs.Moves.{Near}
use Rattle.fkv_world.specs.Opened.{HasBecome, answer_to, answers_of, life_told}
use Rattle.fkv_world.specs.OwnEvents.{session_got, session_slots, session_steps, session_part, session_part_found, session_part_of, session_events}
use Rattle.fkv_world.specs.Past.{Traced, TraceEvent, Called, CommitAsked, TurnAsked}
use Rattle.fkv_world.specs.Runs.{World, happens, run}
use Rattle.fkv_world.specs.World.{Event, Calls, Moves, Commits, Turns, KeeperMoves, Crashes, Now, seat_at, near}
use Rattle.law_world.proofs.OfRuns.Added.{trace_so}
use Rattle.law_world.proofs.OfRuns.Nothing.{idle_ask}
use Rattle.law_world.proofs.OfSessions.OwnRun.{here}
use Rattle.fkv_world.proofs.Shown.{is_over, session_written, goes_so, same_seat, session_runs, session_runs_on}

-- what one run tells behind another
nothing_behind : {A : Type 0} (its : List A) → its ++ [] ≡ its
nothing_behind [] = refl
nothing_behind (it ∷ rest) = ap (λ (more : List _). it ∷ more) (nothing_behind rest)

answered_on : (step : Sitting) (finished : List Finished) (later before : List Telling) → answered step finished (later ++ before) ≡ answered step finished later ++ before
answered_on (Idle its) finished later before = refl
answered_on step finished later before = refl

told_on : (calling : Bool) (after : SessionState) (later before : List Telling) → told_after calling after (later ++ before) ≡ told_after calling after later ++ before
told_on true after later before = answered_on after.step after.finished later before
told_on false after later before = refl

tellings_on : (k : Seat) (opening : SessionState) (later before : List SessionEvent) → tellings k opening (later ++ before) ≡ tellings k (session_run k opening before) later ++ tellings k opening before
unfolding tellings session_run
tellings_on k opening [] before = refl
tellings_on k opening (event ∷ later) before =
    ap (λ (told : List Telling). told_after (session.is_calling s event) (session_happens k s event) told) (tellings_on k opening later before)
    ∙ (told_on (session.is_calling s event) (session_happens k s event) (tellings k (session_run k opening before) later) (tellings k opening before)
    ∙ ap (λ (x : SessionState). told_after (session.is_calling x event) (session_happens k x event) (tellings k (session_run k opening before) later) ++ tellings k opening before) (session_runs_on k opening later before))
  where
    s : SessionState
    s = session_run k opening (later ++ before)

-- a session that is busy has not been answered, and one that asks for something is busy
unanswered : (step : Sitting) (finished : List Finished) → is_busy step ≡ true → answered step finished [] ≡ []
unanswered (Idle its) finished busy = cc
unanswered step finished busy = refl

none_told : (step : Sitting) (s : SessionState) → s.step ≡ step → told_after (is_busy step) s [] ≡ []
none_told (Idle its) s e = refl
none_told step s e = rw e refl

abbrev IsDone : Ask Told → Type 0
IsDone (Done its) = ⊤
IsDone ask = ⊥

busy_by : (k : Seat) (s : SessionState) (ask : Ask Told) (busy : Bool) → session_ask k s ≡ ask → (IsDone ask → ⊥) → is_busy s.step ≡ busy → is_busy s.step ≡ true
busy_by k s ask true asks more e = e
busy_by k s ask false asks more e = absurd (more (subst IsDone (sym (idle_ask k s s.step e).1 ∙ asks) tt))

busy : (k : Seat) (s : SessionState) (ask : Ask Told) → session_ask k s ≡ ask → (IsDone ask → ⊥) → is_busy s.step ≡ true
busy k s ask asks more = busy_by k s ask (is_busy s.step) asks more refl

-- behind a reply
one_more : (k : Seat) (s after : SessionState) → is_busy s.step ≡ true → told_after (is_busy s.step) after [] ++ told_after true s [] ≡ told_after true after []
one_more k s after e = rw (e, unanswered s.step s.finished e) (nothing_behind (told_after true after []))

got_behind : (k : Seat) (s : SessionState) (found : Option Action) → is_busy s.step ≡ true → tellings k s (session_got found) ++ told_after true s [] ≡ told_after true (session_run k s (session_got found)) []
unfolding tellings session_run session_happens
got_behind k s None e = refl
got_behind k s (Some action) e = one_more k s _ e

behind : (k : Seat) (s : SessionState) (actions : List (Option Action)) (ask : Ask Told) → session_ask k s ≡ ask → tellings k s (session_slots actions ask) ++ told_after true s [] ≡ told_after true (session_run k s (session_slots actions ask)) []
unfolding session_slots tellings session_run session_happens
behind k s actions (Put slot action) asks = one_more k s _ (busy k s (Put slot action) asks (λ done. done))
behind k s actions (Take slot) asks = got_behind k s (action_at actions slot) (busy k s (Take slot) asks (λ done. done))
behind k s actions ask asks = refl

got_told : (k : Seat) (s : SessionState) (found : Option Action) → is_busy s.step ≡ true → tellings k s (session_got found) ≡ told_after (is_busy s.step) (session_run k s (session_got found)) []
unfolding tellings session_run session_happens
got_told k s None e = sym (none_told s.step s refl)
got_told k s (Some action) e = refl

word_told : (k : Seat) (n : Near SessionState) (reply : ℕ) → is_busy n.machine.step ≡ true
    → tellings k n.machine (session_slots n.actions (session_ask k (session_next k n.machine reply)) ++ session.Replies reply ∷ [])
    ≡ told_after (is_busy n.machine.step) (session_run k n.machine (session_slots n.actions (session_ask k (session_next k n.machine reply)) ++ session.Replies reply ∷ [])) []
unfolding tellings session_run session_happens
word_told k n reply e =
    tellings_on k n.machine (session_slots n.actions (session_ask k s)) (session.Replies reply ∷ [])
    ∙ (ap (λ (b : Bool). tellings k s (session_slots n.actions (session_ask k s)) ++ told_after b s []) e
    ∙ (behind k s n.actions (session_ask k s) refl
    ∙ (ap (λ (x : SessionState). told_after true x []) (sym (session_runs_on k n.machine (session_slots n.actions (session_ask k s)) (session.Replies reply ∷ [])))
    ∙ ap (λ (b : Bool). told_after b (session_run k n.machine (session_slots n.actions (session_ask k s) ++ session.Replies reply ∷ [])) []) (sym e))))
  where
    s : SessionState
    s = session_next k n.machine reply

-- a step tells what its end has
steps_told : (k : Seat) (n : Near SessionState) (ask : Ask Told) → session_ask k n.machine ≡ ask → tellings k n.machine (session_steps k n ask) ≡ told_after (is_busy n.machine.step) (session_run k n.machine (session_steps k n ask)) []
unfolding session_steps session_slots tellings session_run session_happens
steps_told k n (Done its) asks = sym (none_told n.machine.step n.machine refl)
steps_told k n (Put slot action) asks = refl
steps_told k n (Take slot) asks = got_told k n.machine (action_at n.actions slot) (busy k n.machine (Take slot) asks (λ done. done))
steps_told k n ask asks = word_told k n (reply_to n.words ask) (busy k n.machine ask asks (λ done. done))

-- what is heard of a list of what callers see
heard : ℕ → List TraceEvent → List Telling → List Telling
heard number [] told = told
heard number (it ∷ before) told = answer_to number it (heard number before told)

heard_so : (number effects : ℕ) (its : List TraceEvent) (trace : List Traced) → answers_of number (told_at effects its ++ trace) ≡ heard number its (answers_of number trace)
unfolding heard
heard_so number effects [] trace = refl
heard_so number effects (it ∷ before) trace = ap (answer_to number it) (heard_so number effects before trace)

heard_on : (number : ℕ) (later before : List TraceEvent) (told : List Telling) → heard number (later ++ before) told ≡ heard number later (heard number before told)
unfolding heard
heard_on number [] before told = refl
heard_on number (it ∷ later) before told = ap (answer_to number it) (heard_on number later before told)

-- no start is an answer
either_quiet : (number : ℕ) (b : Bool) (it : TraceEvent) (told : List Telling) → answer_to number it told ≡ told → heard number (if b then [] else it ∷ []) told ≡ told
unfolding heard
either_quiet number true it told quiet = refl
either_quiet number false it told quiet = quiet

begun_quiet : (number : ℕ) (n : Now) (event : Event) (told : List Telling) → heard number (begun_by n event) told ≡ told
unfolding begun_by heard
begun_quiet number n (Calls at call) told = its (slice_get n.sessions at)
  where
    its : (found : Option SessionState) → heard number (call_begun at call found) told ≡ told
    its None = refl
    its (Some s) = either_quiet number (is_busy s.step) (Called at call) told refl
begun_quiet number n (Commits kind) told = either_quiet number (is_in_hand n.keeper.step) (CommitAsked kind) told refl
begun_quiet number n Turns told = either_quiet number (is_in_hand n.keeper.step) TurnAsked told refl
begun_quiet number n event told = refl

-- nor is another's answer the session's
keeper_quiet : (number : ℕ) (was : Bool) (step : Keeping) (last : Finality) (told : List Telling) → heard number (keeper_told was step last) told ≡ told
unfolding heard
keeper_quiet number true (Ended its) last told = refl
keeper_quiet number true step last told = refl
keeper_quiet number false step last told = refl

other_quiet : (number at : ℕ) (was : Bool) (after : Option SessionState) (told : List Telling) → (at == number) ≡ false → heard number (session_answered at was after) told ≡ told
unfolding heard
other_quiet number at was None told other = refl
other_quiet number at was (Some s) told other = its was s.step
  where
    its : (was : Bool) (step : Sitting) → heard number (call_answered at was step s.finished) told ≡ told
    its true (Idle answer) = rw other refl
    its true step = refl
    its false step = refl

others_quiet : (number : ℕ) (n after : Now) (event : Event) (told : List Telling) → is_of_session number event ≡ false → heard number (ended_by n after event) told ≡ told
unfolding ended_by heard
others_quiet number n after (Calls at call) told other = other_quiet number at (is_calling true (slice_get n.sessions at)) (slice_get after.sessions at) told other
others_quiet number n after (Moves at) told other = other_quiet number at (is_calling false (slice_get n.sessions at)) (slice_get after.sessions at) told other
others_quiet number n after (Commits kind) told other = keeper_quiet number _ after.keeper.step after.keeper.last told
others_quiet number n after Turns told other = keeper_quiet number _ after.keeper.step after.keeper.last told
others_quiet number n after (KeeperMoves granted done) told other = keeper_quiet number _ after.keeper.step after.keeper.last told
others_quiet number n after Crashes told other = refl

-- its own answer is
own_heard : (number at : ℕ) (was : Bool) (step : Sitting) (s : SessionState) (told : List Telling) → (at == number) ≡ true → s.step ≡ step → heard number (call_answered at was step s.finished) told ≡ told_after was s [] ++ told
unfolding heard
own_heard number at true (Idle its) s told same e = rw (same, e) refl
own_heard number at true step s told same e = rw e refl
own_heard number at false step s told same e = refl

-- an event of the session
part_told : (k : Seat) (n : Near SessionState) (number at : ℕ) (was : Bool) (event : Event) (its : List SessionEvent) (told : List Telling)
    → tellings k n.machine its ≡ told_after was (session_run k n.machine its) [] → (at == number) ≡ true
    → heard number (session_answered at was (Some (session_run k n.machine its))) told ≡ tellings k n.machine its ++ told
part_told k n number at was event its told tells same =
    own_heard number at was (session_run k n.machine its).step (session_run k n.machine its) told same refl ∙ ap (λ (more : List Telling). more ++ told) (sym tells)

call_told : (k : Seat) (s : SessionState) (call : Call) → tellings k s (session.Begins call ∷ []) ≡ told_after (is_calling true (Some s)) (session_run k s (session.Begins call ∷ [])) []
unfolding tellings session_run session_happens
call_told k s call = refl

own_ended : (w : World) (event : Event) (number : ℕ) (s : SessionState) (told : List Telling) → is_of_session number event ≡ true → slice_get w.now.sessions number ≡ Some s
    → slice_get (happens w event).now.sessions number ≡ Some (session_run (seat_at w.now number) s (session_part (seat_at w.now number) (near w.now s) event))
    → heard number (ended_by w.now (happens w event).now event) told ≡ tellings (seat_at w.now number) s (session_part (seat_at w.now number) (near w.now s) event) ++ told
unfolding ended_by session_part
own_ended w (Calls at call) number s told own found after =
    let same : at ≡ number = grind (arith, nat_tests, own) in
    ap (λ (i : ℕ). heard number (session_answered at (is_calling true (slice_get w.now.sessions i)) (slice_get (happens w (Calls at call)).now.sessions i)) told) same
    ∙ (rw (found, after) (part_told (seat_at w.now number) (near w.now s) number at (is_calling true (Some s)) (Calls at call) (session.Begins call ∷ []) told (call_told (seat_at w.now number) s call) own))
own_ended w (Moves at) number s told own found after =
    let same : at ≡ number = grind (arith, nat_tests, own) in
    ap (λ (i : ℕ). heard number (session_answered at (is_calling false (slice_get w.now.sessions i)) (slice_get (happens w (Moves at)).now.sessions i)) told) same
    ∙ (rw (found, after) (part_told (seat_at w.now number) (near w.now s) number at (is_calling false (Some s)) (Moves at) (session_steps (seat_at w.now number) (near w.now s) (session_ask (seat_at w.now number) s)) told
    (steps_told (seat_at w.now number) (near w.now s) (session_ask (seat_at w.now number) s) refl) own))
own_ended w (Commits kind) number s told own found after = cc
own_ended w Turns number s told own found after = cc
own_ended w (KeeperMoves granted done) number s told own found after = cc
own_ended w Crashes number s told own found after = cc

no_tellings : (k : Seat) (s : SessionState) → tellings k s [] ≡ []
unfolding tellings
no_tellings k s = refl

alive_heard : (w : World) (event : Event) (number : ℕ) (s : SessionState) (own : Bool) (told : List Telling) → is_of_session number event ≡ own → slice_get w.now.sessions number ≡ Some s → w.now.crashed ≡ false
    → heard number (ended_by w.now (happens w event).now event) told ≡ tellings (seat_at w.now number) s (if own then session_part (seat_at w.now number) (near w.now s) event else []) ++ told
alive_heard w event number s true told e found alive =
    own_ended w event number s told e found (session_written w event number s e alive found ∙ ap (λ (y : SessionState). Some y) (goes_so (seat_at w.now number) (near w.now s) event))
alive_heard w event number s false told e found alive =
    others_quiet number w.now (happens w event).now event told e ∙ ap (λ (more : List Telling). more ++ told) (sym (no_tellings (seat_at w.now number) s))

event_heard : (w : World) (event : Event) (number : ℕ) (s : SessionState) (crashed : Bool) → w.now.crashed ≡ crashed → slice_get w.now.sessions number ≡ Some s
    → answers_of number (happens w event).past.trace ≡ tellings (seat_at w.now number) s (if crashed then [] else session_part_found w.now number event (Some s)) ++ answers_of number w.past.trace
event_heard w event number s true e found = ap (λ (x : World). answers_of number x.past.trace) (is_over w event e) ∙ ap (λ (more : List Telling). more ++ answers_of number w.past.trace) (sym (no_tellings (seat_at w.now number) s))
event_heard w event number s false e found =
    ap (answers_of number) (trace_so w event)
    ∙ (heard_so number (length (happens w event).past.history) (told_by w.now (happens w event).now event) w.past.trace
    ∙ (ap (λ (b : Bool). heard number (if b then [] else ended_by w.now (happens w event).now event ++ begun_by w.now event) (answers_of number w.past.trace)) e
    ∙ (heard_on number (ended_by w.now (happens w event).now event) (begun_by w.now event) (answers_of number w.past.trace)
    ∙ (ap (heard number (ended_by w.now (happens w event).now event)) (begun_quiet number w.now event (answers_of number w.past.trace))
    ∙ alive_heard w event number s (is_of_session number event) (answers_of number w.past.trace) refl found e))))

happens_heard : (w : World) (event : Event) (number : ℕ) (s : SessionState) → slice_get w.now.sessions number ≡ Some s
    → answers_of number (happens w event).past.trace ≡ tellings (seat_at w.now number) s (session_part_of w.now number event) ++ answers_of number w.past.trace
happens_heard w event number s found =
    event_heard w event number s w.now.crashed refl found
    ∙ ap (λ (y : Option SessionState). tellings (seat_at w.now number) s (if w.now.crashed then [] else session_part_found w.now number event y) ++ answers_of number w.past.trace) (sym found)

-- over a whole life
pub run_heard : (opening : World) (events : List Event) (number : ℕ) (first : SessionState) → opening.past.trace ≡ [] → slice_get opening.now.sessions number ≡ Some first
    → answers_of number (run opening events).past.trace ≡ tellings (seat_at opening.now number) first (session_events opening number events)
unfolding run session_events
run_heard opening [] number first none found = ap (answers_of number) none ∙ sym (no_tellings (seat_at opening.now number) first)
run_heard opening (event ∷ before) number first none found =
    happens_heard w event number s (session_runs opening number first before found)
    ∙ (ap (λ (told : List Telling). tellings (seat_at w.now number) s (session_part_of w.now number event) ++ told) (run_heard opening before number first none found)
    ∙ (ap (λ (k : Seat). tellings k s (session_part_of w.now number event) ++ tellings (seat_at opening.now number) first (session_events opening number before)) (same_seat opening before number)
    ∙ sym (tellings_on (seat_at opening.now number) first (session_part_of w.now number event) (session_events opening number before))))
  where
    w : World
    w = run opening before

    s : SessionState
    s = session_run (seat_at opening.now number) first (session_events opening number before)

pub life_heard : (opening : World) (events : List Event) (number : ℕ) (first its : SessionState) → HasBecome opening events number first its
    → life_told opening events number first ≡ with_coming its.step its.finished (answers_of number (run opening events).past.trace)
life_heard opening events number first its became =
    ap (λ (s : SessionState). with_coming s.step s.finished (tellings (seat_at opening.now number) first (session_events opening number events))) (sym (here opening events number first its became))
    ∙ ap (with_coming its.step its.finished) (sym (run_heard opening events number first became.opened.no_trace became.was))
