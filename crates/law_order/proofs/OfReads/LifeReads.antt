-- At each moment of a life: what is known of the session that moves, and what follows of its event.
use Rattle.std.proofs.Common.{◌≡◌, ℕ, ◌∙◌, refl, sym, ap, subst, Bool, true, false, List, [], ◌∷◌}
use Rattle.std.specs.Prelude.{◌==◌, slice_get, Some}
use Rattle.law_log.specs.Ghosts.{Ghosts}
use Rattle.law_log.specs.Enabled.{AreEnabled}
use Rattle.law_log.proofs.Shown.{run_held}
use Rattle.law_commit.specs.Below.fkv_session.Sitting.{Sitting}
use Rattle.law_commit.specs.Below.fkv_session.Sitting.TheVariants.{Idle, Attempts, Polls}
use Rattle.law_commit.specs.Below.fkv_session.Replies.{effects_told, op_called, serials_taken}
use Rattle.law_commit.specs.Below.fkv_session.SessionRun.{SessionEvent, session_run, all_told}
use Rattle.law_commit.specs.Below.fkv_session.Sessions.{SessionState, Seat, IsOpened, is_busy}
use Rattle.law_commit.proofs.Below.fkv_session.Shown.{IsTold, IsUnderWay, run_told}
use Rattle.law_commit.specs.Below.law_local.Sessions.Inputs.{AttemptsSo}
use Rattle.law_commit.specs.Below.law_local.Sessions.Known.{is_attempting}
use Rattle.law_commit.specs.Below.law_local.Tries.TryRows.{floor_in}
use Rattle.law_commit.proofs.Below.law_local.OfSessions.SessionInputs.{run_so}
use Rattle.law_commit.proofs.Below.law_local.OfTries.OnWay.{orderly}
use Rattle.fkv_epoch.proofs.Shown.{some_same}
use Rattle.law_commit.specs.Below.law_world.Runs.Added.{told_at, told_by}
use Rattle.law_commit.specs.Below.fkv_world.OwnEvents.{session_events}
use Rattle.law_commit.specs.Below.fkv_world.Past.{TraceEvent}
use Rattle.law_commit.specs.Below.fkv_world.Runs.{World, happens, run}
use Rattle.law_commit.specs.Below.fkv_world.World.{Event, seat_at}
use Rattle.law_commit.proofs.Below.fkv_world.Shown.{is_over, same_seat, session_runs}
use Rattle.law_commit.specs.Below.law_refine.Calls.Calls.{event_adds}
use Rattle.law_order.specs.Known.Answered.{EachAnswered, acted_ghosts}
use Rattle.law_order.specs.Known.Begins.{BegunLife, begin_in, home_of_world}
use Rattle.law_order.specs.Known.Floors.{GoesByBegin}
use Rattle.law_order.specs.Known.Knows.{AreKnown}
use Rattle.law_order.specs.Known.Told.{AreToldTruly, NamesAreApart, TicketsAreApart}
use Rattle.law_commit.specs.Below.law_refine.Events.GhostEvents.{life_ghosts, mapped, moved_ghosts, own_ghosts, serials_in}
use Rattle.law_commit.specs.Below.law_refine.Events.Lines.{lines_added}
use Rattle.law_commit.proofs.Below.law_refine.OfEvents.RequestNames.{life_named}
use Rattle.law_order.specs.Reads.Reads.{readings_of, SitsReads, SessionReads, ReadsKnown, AreReadsKnown}
use Rattle.law_order.proofs.OfKnown.Begins.{live_below}
use Rattle.law_order.proofs.OfKnown.Newest.{known_now}
use Rattle.law_order.proofs.OfReads.Coming.{IsFreshly}
use Rattle.law_order.proofs.OfReads.Life.{IsAnsweredSo, life_next, life_over, rests_so, begins_so, goes_so}
use Rattle.law_order.proofs.OfReads.LifeNumbers.{same_number, effects_behind, life_numbered}
use Rattle.law_order.proofs.OfReads.Numbers.{Numbered}
use Rattle.law_order.proofs.OfReads.Steps.{StepFacts}
use Rattle.law_order.proofs.OfReads.Turns.{Begins, Goes, Turn, Rests, BeginsOne, GoesOne, moved_to, turn_of}

-- ---- the newest moment
pub reads_now : (opening : World) (ghosts : Ghosts) (events : List Event) → AreReadsKnown opening ghosts events → ReadsKnown opening ghosts events
unfolding AreReadsKnown
reads_now opening ghosts [] all = all
reads_now opening ghosts (event ∷ before) all = all.1

apart_now : (opening : World) (events : List Event) → TicketsAreApart opening events → NamesAreApart (run opening events).now
unfolding TicketsAreApart
apart_now opening [] all = all
apart_now opening (event ∷ before) all = all.1

apart_before : (opening : World) (event : Event) (before : List Event) → TicketsAreApart opening (event ∷ before) → NamesAreApart (run opening before).now
unfolding TicketsAreApart
apart_before opening event before all = apart_now opening before all.0

-- ---- each session was there as the life began
turn_back : (w : World) (event : Event) (number : ℕ) (s : SessionState) → Turn w event → slice_get (happens w event).now.sessions number ≡ Some s → (was : SessionState) × (slice_get w.now.sessions number ≡ Some was)
turn_back w event number s (Rests quiet own stay) found = (s, sym (stay number) ∙ found)
turn_back w event number s (BeginsOne its) found = by_number (its.number == number) refl
  where
    by_number : (c : Bool) → (its.number == number) ≡ c → (was : SessionState) × (slice_get w.now.sessions number ≡ Some was)
    by_number true e = (its.s, sym (ap (slice_get w.now.sessions) (same_number its.number number e)) ∙ its.found)
    by_number false e = (s, sym (its.others number e) ∙ found)
turn_back w event number s (GoesOne its) found = by_number (its.number == number) refl
  where
    by_number : (c : Bool) → (its.number == number) ≡ c → (was : SessionState) × (slice_get w.now.sessions number ≡ Some was)
    by_number true e = (its.s, sym (ap (slice_get w.now.sessions) (same_number its.number number e)) ∙ its.found)
    by_number false e = (s, sym (its.others number e) ∙ found)

back_one : (w : World) (event : Event) (number : ℕ) (s : SessionState) → slice_get (happens w event).now.sessions number ≡ Some s → (was : SessionState) × (slice_get w.now.sessions number ≡ Some was)
back_one w event number s found = by_crash w.now.crashed refl
  where
    by_crash : (crashed : Bool) → w.now.crashed ≡ crashed → (was : SessionState) × (slice_get w.now.sessions number ≡ Some was)
    by_crash true over = (s, sym (ap (λ (x : World). slice_get x.now.sessions number) (is_over w event over)) ∙ found)
    by_crash false alive = turn_back w event number s (turn_of w event alive) found

first_of : (opening : World) (events : List Event) (number : ℕ) (s : SessionState) → slice_get (run opening events).now.sessions number ≡ Some s → (first : SessionState) × (slice_get opening.now.sessions number ≡ Some first)
unfolding run
first_of opening [] number s found = (s, found)
first_of opening (event ∷ before) number s found = let was = back_one (run opening before) event number s found in first_of opening before number was.0 was.1

-- ---- its own run
run_under_way : (k : Seat) (first : SessionState) (own : List SessionEvent) → IsOpened first → is_attempting (session_run k first own).step ≡ true → IsUnderWay (session_run k first own).attempt
run_under_way k first own opened attempting = by_step (session_run k first own).step refl attempting
  where
    by_step : (step : Sitting) → (session_run k first own).step ≡ step → is_attempting step ≡ true → IsUnderWay (session_run k first own).attempt
    by_step (Attempts has_shifted) e is =
        let s : SessionState = session_run k first own in
        let its : IsTold k (effects_told k first own) (serials_taken k first own) (op_called k first own) (all_told k first own) s (Attempts has_shifted)
        = subst (λ (x : Sitting). IsTold k (effects_told k first own) (serials_taken k first own) (op_called k first own) (all_told k first own) s x) e (run_told k first own opened) in
        its.knows.under_way
    by_step (Polls index) e is =
        let s : SessionState = session_run k first own in
        let its : IsTold k (effects_told k first own) (serials_taken k first own) (op_called k first own) (all_told k first own) s (Polls index)
        = subst (λ (x : Sitting). IsTold k (effects_told k first own) (serials_taken k first own) (op_called k first own) (all_told k first own) s x) e (run_told k first own opened) in
        its.knows.under_way
    by_step step e is = cc

-- ---- the step of a session
moment_facts : (life : BegunLife) (before : List Event) (event : Event) → AreEnabled (home_of_world life.opening) life.ghosts (mapped life.opening before)
    → AreKnown life.opening life.ghosts before → GoesByBegin life.opening life.ghosts before → TicketsAreApart life.opening (event ∷ before)
    → AreToldTruly (home_of_world life.opening) (life_ghosts life.opening life.ghosts before).log (run life.opening before).now → AreReadsKnown life.opening life.ghosts before
    → (its : Goes (run life.opening before) event)
    → StepFacts (home_of_world life.opening) (life_ghosts life.opening life.ghosts before) (seat_at (run life.opening before).now its.number) (run life.opening before).past.trace (run life.opening before).now.words its.s
moment_facts life before event enabled known begin apart truly reads its =
    let w : World = run life.opening before in
    let k : Seat = seat_at w.now its.number in
    let first = first_of life.opening before its.number its.s its.found in
    let own : List SessionEvent = session_events life.opening its.number before in
    let opened : IsOpened first.0 = life.begins.world.sessions its.number first.0 first.1 in
    let seat : k ≡ seat_at life.opening.now its.number = same_seat life.opening before its.number in
    let same : its.s ≡ session_run (seat_at life.opening.now its.number) first.0 own = some_same its.s (session_run (seat_at life.opening.now its.number) first.0 own) (sym its.found ∙ session_runs life.opening its.number first.0 before first.1) in
    record {
      busy = its.busy;
      orderly = orderly (home_of_world life.opening) life.map (life_ghosts life.opening life.ghosts before).log (run_held (home_of_world life.opening) life.map life.number life.ghosts (mapped life.opening before) life.begins.log enabled);
      live = λ attempting.
          live_below (begin_in w) (floor_in its.s.attempt.pending.request) (home_of_world life.opening) (life_ghosts life.opening life.ghosts before).log ((begin.floors its.number its.s its.found).theirs.attempted attempting) begin.live;
      knows = (known_now life.opening life.ghosts before known its.number its.s its.found).attempted;
      says = truly its.number its.s its.found;
      inputs = subst (λ (x : Seat). AttemptsSo x its.s) (sym seat) (subst (AttemptsSo (seat_at life.opening.now its.number)) (sym same) (run_so (seat_at life.opening.now its.number) first.0 own opened));
      under_way = subst (λ (x : SessionState). is_attempting x.step ≡ true → IsUnderWay x.attempt) (sym same) (run_under_way (seat_at life.opening.now its.number) first.0 own opened);
      named = life_named life.opening life.start before its.number its.s life.begins.store.now its.found;
      apart = apart_before life.opening event before apart its.number its.s its.found;
      numbered = subst (Numbered its.number w.past.trace) its.busy (life_numbered life.opening before its.number its.s life.begins.world its.found);
      reads = reads_now life.opening life.ghosts before reads its.number its.s its.found;
    }

freshly : (opening : World) (before : List Event) (event : Event) → TicketsAreApart opening (event ∷ before) → (its : Goes (run opening before) event) → IsFreshly (moved_to (run opening before) its.number its.s)
unfolding run
freshly opening before event apart its = λ ticket at. apart_now opening (event ∷ before) apart its.number (moved_to (run opening before) its.number its.s) its.now

begins_own : (w : World) (event : Event) (its : Begins w event) → own_ghosts w event ≡ []
begins_own w event its = ap (own_ghosts w) its.is

goes_own : (w : World) (event : Event) (its : Goes w event) → own_ghosts w event ≡ moved_ghosts w its.number (Some its.s)
goes_own w event its = ap (own_ghosts w) its.is ∙ ap (moved_ghosts w its.number) its.found

alive_so : (life : BegunLife) (before : List Event) (event : Event) → AreEnabled (home_of_world life.opening) life.ghosts (mapped life.opening before)
    → AreKnown life.opening life.ghosts before → GoesByBegin life.opening life.ghosts before → TicketsAreApart life.opening (event ∷ before)
    → AreToldTruly (home_of_world life.opening) (life_ghosts life.opening life.ghosts before).log (run life.opening before).now → AreReadsKnown life.opening life.ghosts before
    → Turn (run life.opening before) event → IsAnsweredSo life.opening life.ghosts before event
alive_so life before event enabled known begin apart truly reads (Rests quiet own stay) =
    rests_so life.opening life.ghosts before event quiet own stay (λ n s found. life_numbered life.opening before n s life.begins.world found) (reads_now life.opening life.ghosts before reads)
alive_so life before event enabled known begin apart truly reads (BeginsOne its) =
    begins_so life.opening life.ghosts before event its (begins_own (run life.opening before) event its) (λ n s found. life_numbered life.opening before n s life.begins.world found) (reads_now life.opening life.ghosts before reads)
alive_so life before event enabled known begin apart truly reads (GoesOne its) =
    goes_so life.opening life.ghosts before event its (goes_own (run life.opening before) event its) (moment_facts life before event enabled known begin apart truly reads its)
    (freshly life.opening before event apart its) (λ n s found. life_numbered life.opening before n s life.begins.world found) (reads_now life.opening life.ghosts before reads)

-- ---- after a crash nothing is told
over_told : (w : World) (event : Event) → w.now.crashed ≡ true → told_by w.now (happens w event).now event ≡ []
over_told w event over = rw over refl

over_adds : (opening : World) (before : List Event) (event : Event) → (run opening before).now.crashed ≡ true → event_adds opening before event ≡ []
unfolding lines_added
over_adds opening before event over =
    ap (λ (told : List TraceEvent). lines_added (serials_in opening.now) (run opening before).past.trace (told_at (effects_behind (run opening before) event) told)) (over_told (run opening before) event over)

-- ---- what is shown
pub answers_enabled : (life : BegunLife) (before : List Event) (event : Event) → AreEnabled (home_of_world life.opening) life.ghosts (mapped life.opening before)
    → AreKnown life.opening life.ghosts before → GoesByBegin life.opening life.ghosts before → TicketsAreApart life.opening (event ∷ before)
    → AreToldTruly (home_of_world life.opening) (life_ghosts life.opening life.ghosts before).log (run life.opening before).now → AreReadsKnown life.opening life.ghosts before
    → EachAnswered (home_of_world life.opening) (acted_ghosts life.opening life.ghosts before event) (event_adds life.opening before event)
unfolding run
answers_enabled life before event enabled known begin apart truly reads = by_crash (run life.opening before).now.crashed refl
  where
    by_crash : (crashed : Bool) → (run life.opening before).now.crashed ≡ crashed → EachAnswered (home_of_world life.opening) (acted_ghosts life.opening life.ghosts before event) (event_adds life.opening before event)
    by_crash true over = subst (EachAnswered (home_of_world life.opening) (acted_ghosts life.opening life.ghosts before event)) (sym (over_adds life.opening before event over)) tt
    by_crash false alive = (alive_so life before event enabled known begin apart truly reads (turn_of (run life.opening before) event alive)).each

reads_go : (life : BegunLife) (before : List Event) (event : Event) → AreEnabled (home_of_world life.opening) life.ghosts (mapped life.opening before)
    → AreKnown life.opening life.ghosts before → GoesByBegin life.opening life.ghosts before → TicketsAreApart life.opening (event ∷ before)
    → AreToldTruly (home_of_world life.opening) (life_ghosts life.opening life.ghosts before).log (run life.opening before).now → AreReadsKnown life.opening life.ghosts before
    → ReadsKnown life.opening life.ghosts (event ∷ before)
unfolding run
reads_go life before event enabled known begin apart truly reads = by_crash (run life.opening before).now.crashed refl
  where
    by_crash : (crashed : Bool) → (run life.opening before).now.crashed ≡ crashed → ReadsKnown life.opening life.ghosts (event ∷ before)
    by_crash true over = λ n s found.
        let same : happens (run life.opening before) event ≡ run life.opening before = is_over (run life.opening before) event over in
        subst (λ (g : Ghosts). SessionReads g.reads (happens (run life.opening before) event).past.trace n s) (sym (life_over life.opening life.ghosts before event over))
        (subst (λ (x : World). SessionReads (life_ghosts life.opening life.ghosts before).reads x.past.trace n s) (sym same)
        (reads_now life.opening life.ghosts before reads n s (sym (ap (λ (x : World). slice_get x.now.sessions n) same) ∙ found)))
    by_crash false alive = λ n s found.
        subst (λ (g : Ghosts). SessionReads g.reads (happens (run life.opening before) event).past.trace n s) (sym (life_next life.opening life.ghosts before event alive))
        ((alive_so life before event enabled known begin apart truly reads (turn_of (run life.opening before) event alive)).known n s found)

pub reads_go_on : (life : BegunLife) (before : List Event) (event : Event) → AreEnabled (home_of_world life.opening) life.ghosts (mapped life.opening before)
    → AreKnown life.opening life.ghosts before → GoesByBegin life.opening life.ghosts before → TicketsAreApart life.opening (event ∷ before)
    → AreToldTruly (home_of_world life.opening) (life_ghosts life.opening life.ghosts before).log (run life.opening before).now → AreReadsKnown life.opening life.ghosts before
    → AreEnabled (home_of_world life.opening) life.ghosts (mapped life.opening (event ∷ before)) → AreReadsKnown life.opening life.ghosts (event ∷ before)
unfolding AreReadsKnown
reads_go_on life before event enabled known begin apart truly reads later =
    (reads, reads_go life before event enabled known begin apart truly reads)

-- ---- as the life begins
idle_sits : (opening : World) (ghosts : Ghosts) (n : ℕ) (s : SessionState) (step : Sitting) → is_busy step ≡ false → s.requests ≡ [] → SitsReads (readings_of ghosts.reads opening.past.trace n) s step
idle_sits opening ghosts n s (Idle its) idle none = λ index pending got. let at = sym (ap (λ requests. slice_get requests index) none) ∙ got in cc
idle_sits opening ghosts n s step idle none = cc

pub reads_begin_so : (life : BegunLife) → AreReadsKnown life.opening life.ghosts []
unfolding AreReadsKnown run
reads_begin_so life = λ n s found.
    let its = life.begins.world.sessions n s found in
    idle_sits life.opening (life_ghosts life.opening life.ghosts []) n s s.step its.none_in_hand its.none_wait
