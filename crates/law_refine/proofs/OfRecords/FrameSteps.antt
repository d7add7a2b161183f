-- No event of a life writes a word of a frame but a step of a session that may write it next.
use Rattle.std.proofs.Common.{◌≡◌, ◌≢◌, ◌⊎◌, ℕ, ◌<◌, ◌≤◌, ◌∙◌, inl, inr, refl, sym, ap, subst, arith, Bool, true, false, List, [], ◌∷◌}
use Rattle.std.specs.Prelude.{Option, Some, None, slice_get, nat_lt, nat_le, not, ◌==◌, ◌&&◌, if◌then◌else◌}
use Rattle.std.proofs.lemmas.Bool.Decides.{nat_tests}
use Rattle.fkv_map.specs.declared.operations.Call.{Call}
use Rattle.fkv_epoch.specs.EpochWorld.{is_at_rest, own_epoch}
use Rattle.fkv_epoch.proofs.Shown.{same_or, some_same}
use Rattle.fkv_plane.specs.declared.places.Places.{Places}
use Rattle.fkv_plane.specs.Asked.{word_at}
use Rattle.fkv_plane.specs.Places.{frames_start}
use Rattle.law_world.specs.Below.fkv_flush.GuardCalm.{IsOther}
use Rattle.law_world.specs.Below.fkv_flush.Guarded.{event_writes, IsPermittedEvent, ArePermittedEvents}
use Rattle.law_world.specs.Below.fkv_flush.GuardWorld as guard
use Rattle.law_world.specs.Below.fkv_flush.GuardWorld.{Actor, GuardWorld, GuardEvent, Begins, Resumes, Publishes, Updates, RaisesReadOnly, RaisesFor, Changes, guard_happens, guard_run, is_idle, may_update}
use Rattle.law_world.proofs.Below.fkv_flush.Shown.{IsSound, Spares, unwritten}
use Rattle.law_world.specs.Below.fkv_keeper.TheKeeping.{Keeping}
use Rattle.law_world.specs.Below.fkv_keeper.TheKeeping.TheVariants as keeping
use Rattle.law_world.specs.Below.fkv_keeper.Keeping.{KeeperState, serves_alone}
use Rattle.law_world.specs.Below.fkv_keeper.KeeperRun.{is_in_hand}
use Rattle.law_world.specs.Below.fkv_maintain.TheMaintaining.{Maintaining}
use Rattle.law_world.specs.Below.fkv_maintain.TheMaintaining.TheVariants as maintain
use Rattle.law_world.specs.Below.fkv_maintain.Maintaining.{MaintainState}
use Rattle.law_world.specs.Below.fkv_session.Sessions.{SessionState, is_busy, session_begun}
use Rattle.law_world.specs.GuardSessions.Sessions.{sitting_onward}
use Rattle.law_world.specs.GuardSessions.Steps.{onward_events}
use Rattle.law_world.specs.GuardKeeper.KeeperActors.{keeper_actor}
use Rattle.law_world.specs.GuardKeeper.KeeperEvents.{keeper_move_events, turn_asked_events, turn_task}
use Rattle.law_world.specs.GuardKeeper.KeeperShown.{keeping_work}
use Rattle.law_world.specs.GuardKeeper.MaintainShown.{maintaining_work}
use Rattle.law_world.specs.Below.fkv_world.Moves.{session_moved}
use Rattle.law_world.specs.Below.fkv_world.Runs.{World, happens, read_by_keeper, run}
use Rattle.law_world.specs.Below.fkv_world.World.{Event, Calls, Moves, Commits, Turns, KeeperMoves, Crashes, Now, seat_at, near}
use Rattle.law_world.specs.Guarded.GuardEvents.{called_events, moved_events, keeper_number, life_events, guard_events}
use Rattle.law_world.specs.Guarded.Shows.{IsOpened, Shows, seen_by_guard}
use Rattle.law_world.proofs.OfGuarded.OneStep.{IsQuiet, IsStep}
use Rattle.law_world.proofs.OfGuarded.Permitted.{are_permitted}
use Rattle.law_world.proofs.OfGuarded.Worlds.{happens_shows, life_shows}
use Rattle.law_world.proofs.OfGuarded.Kept.{is_steps}
use Rattle.law_world.proofs.OfGuarded.KeeperSteps.{actor_above, keeper_steps}
use Rattle.law_world.proofs.OfGuarded.Outer.{write_outer}
use Rattle.law_refine.proofs.OfRecords.FrameEvents.{HasWord, IsNoFrame, Writes, onward_none, no_frame, session_frame, writes_none}
use Rattle.law_refine.proofs.OfRecords.FrameWords.{FrameWord, sitting_word}
use Rattle.law_refine.proofs.OfRecords.Writers.{IsFrameWork, frame_work, change_none}

-- ---- the first event of a step alone may write a word
quiet_same : (w : GuardWorld) (event : GuardEvent) (place : ℕ) → IsQuiet event → word_at (guard_happens w event).now.words place ≡ word_at w.now.words place
quiet_same w (Begins a task) place quiet = unwritten w (Begins a task) place tt
quiet_same w (Resumes a) place quiet = unwritten w (Resumes a) place tt
quiet_same w (Publishes a) place quiet = unwritten w (Publishes a) place tt
quiet_same w event place quiet = absurd quiet

written_or : (found : Option ℕ) (place : ℕ) → (found ≡ Some place) ⊎ Spares found place
written_or None place = inr tt
written_or (Some q) place = elim (same_or q place) [
  | inl same ↦ inl (ap Some same)
  | inr other ↦ inr (λ e. other (sym e))
]

one_writes : (w : GuardWorld) (event : GuardEvent) (place : ℕ) → word_at (guard_happens w event).now.words place ≢ word_at w.now.words place → event_writes w.now event ≡ Some place
one_writes w event place changes = elim (written_or (event_writes w.now event) place) [
  | inl writes ↦ writes
  | inr spares ↦ absurd (changes (unwritten w event place spares))
]

step_written : (keeper a : ℕ) (w : GuardWorld) (events : List GuardEvent) (place : ℕ) → IsStep keeper a events → word_at (guard_run w events).now.words place ≢ word_at w.now.words place → Writes w place events
unfolding guard_run
step_written keeper a w [] place step changes = absurd (changes refl)
step_written keeper a w (event ∷ before) place step changes = elim step.0.place [
  | inl quiet ↦ inr (step_written keeper a w before place step.1 (λ e. changes (quiet_same (guard_run w before) event place quiet ∙ e)))
  | inr first ↦ inl (one_writes w event place (subst (λ (b : List GuardEvent). word_at (guard_happens (guard_run w b) event).now.words place ≢ word_at w.now.words place) first.0 changes))
]

-- ---- of the keeper
record FirstWriter (w : GuardWorld) (a place : ℕ) : Type 0 where
  event : GuardEvent
  own : (b : ℕ) → a ≢ b → IsOther event b
  permitted : IsPermittedEvent w.now event
  its_place : event_writes w.now event ≡ Some place

first_written : (keeper a : ℕ) (w : GuardWorld) (events : List GuardEvent) (place : ℕ) → IsStep keeper a events → ArePermittedEvents w events → word_at (guard_run w events).now.words place ≢ word_at w.now.words place → FirstWriter w a place
unfolding guard_run
first_written keeper a w [] place step permitted changes = absurd (changes refl)
first_written keeper a w (event ∷ before) place step permitted changes = elim step.0.place [
  | inl quiet ↦ first_written keeper a w before place step.1 permitted.1 (λ e. changes (quiet_same (guard_run w before) event place quiet ∙ e))
  | inr first ↦ record {
    event = event;
    own = first.1;
    permitted = subst (λ (b : List GuardEvent). IsPermittedEvent (guard_run w b).now event) first.0 permitted.0;
    its_place = one_writes w event place (subst (λ (b : List GuardEvent). word_at (guard_happens (guard_run w b) event).now.words place ≢ word_at w.now.words place) first.0 changes);
  }
]

own_actor : (a c : ℕ) → ((b : ℕ) → a ≢ b → ◌≢◌ {A = Option ℕ} (Some c) (Some b)) → a ≡ c
own_actor a c own = elim (same_or a c) [
  | inl same ↦ same
  | inr other ↦ absurd (own c other refl)
]

first_two : (b c d e : Bool) → (b && c && d && e) ≡ true → b ≡ true
first_two true c d e it = refl
first_two false c d e it = cc

first_of : (b c : Bool) → (b && c) ≡ true → b ≡ true
first_of true c it = refl
first_of false c it = cc

is_session : (w : GuardWorld) (a addr : ℕ) (x : Actor) → may_update w.now a x addr ≡ true → a < w.now.places.sessions
is_session w a addr x may =
    let awake = first_two (guard.is_awake w.now a x) (is_idle x.work) (nat_le x.seen.read_only addr) (nat_lt addr (word_at w.now.words 3)) may in
    let one = first_of (nat_lt a w.now.places.sessions && not (own_epoch w.now.words a == 0)) (is_at_rest x.machine) awake in
    let low : nat_lt a w.now.places.sessions ≡ true = first_of (nat_lt a w.now.places.sessions) (not (own_epoch w.now.words a == 0)) one in
    grind (arith, nat_tests, low)

writer_works : (w : GuardWorld) (a : ℕ) (x : Actor) (place : ℕ) (event : GuardEvent) → IsSound w → slice_get w.now.actors a ≡ Some x → w.now.places.sessions ≤ a → ((b : ℕ) → a ≢ b → IsOther event b) → IsPermittedEvent w.now event
    → event_writes w.now event ≡ Some place → frames_start w.now.places ≤ place → IsFrameWork x.work
writer_works w a x place (guard.Moves c) sound got none own permitted e high =
    let same : a ≡ c = own_actor a c own in
    frame_work w a x place sound got (subst (λ (b : ℕ). event_writes w.now (guard.Moves b) ≡ Some place) (sym same) e) high
writer_works w a x place (Updates c addr word) sound got none own permitted e high =
    let same : a ≡ c = own_actor a c own in
    let may : may_update w.now c x addr ≡ true = permitted x (subst (λ (b : ℕ). slice_get w.now.actors b ≡ Some x) same got) in
    let low = is_session w c addr x may in
    absurd (omega (arith, low, same, none))
writer_works w a x place (RaisesReadOnly c to) sound got none own permitted e high = let same = some_same 5 place e in absurd (omega (arith, same, high))
writer_works w a x place (RaisesFor c action) sound got none own permitted e high = let same = some_same 0 place e in absurd (omega (arith, same, high))
writer_works w a x place (Changes c at word) sound got none own permitted e high = change_none w at place e high
writer_works w a x place event sound got none own permitted e high = writes_none place e

-- what it drives writes no frame
maintaining_none : (s : MaintainState) (step : Maintaining) → IsNoFrame (maintaining_work s step)
maintaining_none s maintain.Flushes = λ its. its
maintaining_none s maintain.Shifts = λ its. its
maintaining_none s maintain.Turns = λ its. its
maintaining_none s maintain.Serves = λ its. its
maintaining_none s step = tt

keeping_none : (s : KeeperState) (step : Keeping) → IsNoFrame (keeping_work s step)
keeping_none s keeping.Maintains = maintaining_none s.maintain s.maintain.step
keeping_none s step = tt

keeper_none : (n : Now) (w : GuardWorld) (read : List ℕ) (granted done : Bool) (place : ℕ) → n.crashed ≡ false → Shows n w → frames_start w.now.places ≤ place
    → word_at (guard_run w (life_events n read (KeeperMoves granted done))).now.words place ≢ word_at w.now.words place → ⊥
unfolding life_events
keeper_none n w read granted done place alive shows high changes =
    let k : ℕ = keeper_number n in
    let a : ℕ = keeper_actor k n.keeper in
    let x : Actor = shows.keeper.actor in
    let its = shows.keeper.keeps in
    let events : List GuardEvent = keeper_move_events a n.shape n.places granted done read n.keeper n.words in
    let permitted : ArePermittedEvents w events = subst (λ (b : Bool). ArePermittedEvents w (if b then [] else events)) alive (are_permitted n w read (KeeperMoves granted done) tt shows) in
    let f = first_written k a w events place (keeper_steps k n.shape n.places granted done read n.keeper n.words) permitted changes in
    let sessions : w.now.places.sessions ≡ k = ap (λ (p : Places). p.sessions) shows.places in
    let above : k ≤ a = actor_above k n.keeper in
    no_frame (keeping_work n.keeper n.keeper.step) x.work its.fits.work (keeping_none n.keeper n.keeper.step)
    (writer_works w a x place f.event shows.sound its.got (omega (arith, sessions, above)) f.own f.permitted f.its_place high)

-- ---- which step of a session it is
pub record FrameWriter (n : Now) (event : Event) : Type 0 where
  pub number : ℕ
  pub moves : event ≡ Moves number
  pub state : SessionState
  pub found : slice_get n.sessions number ≡ Some state
  pub word : FrameWord
  pub its_word : sitting_word state state.step ≡ Some word

called_none : (n : Now) (w : GuardWorld) (place number : ℕ) (call : Call) (found : Option SessionState) → Writes w place (called_events n number call found) → ⊥
called_none n w place number call None its = its
called_none n w place number call (Some s) its = by_test (is_busy s.step) its
  where
    after : SessionState
    after = session_begun (seat_at n number) s call

    by_test : (c : Bool) → Writes w place (if c then [] else onward_events number (sitting_onward after after.step)) → ⊥
    by_test true its = its
    by_test false its = onward_none w place number (sitting_onward after after.step) its

asked_none : (w : GuardWorld) (place a : ℕ) (s : KeeperState) → Writes w place (turn_asked_events a s) → ⊥
asked_none w place a s its = by_tests (is_in_hand s.step) s.is_broken its
  where
    by_tests : (b c : Bool) → Writes w place (if b then [] else (if c then [] else Begins a (turn_task s.maintain.begin.0 (serves_alone s)) ∷ [])) → ⊥
    by_tests true c its = its
    by_tests false true its = its
    by_tests false false (inl e) = writes_none place e
    by_tests false false (inr none) = none

moved_frame : (n : Now) (w : GuardWorld) (place number : ℕ) (found : Option SessionState) → slice_get n.sessions number ≡ found → Shows n w → Writes w place (moved_events n number found) → frames_start w.now.places ≤ place → FrameWriter n (Moves number)
moved_frame n w place number None there shows its high = absurd its
moved_frame n w place number (Some s) there shows its high =
    let seat = shows.sessions number s there in
    let has : HasWord (sitting_word s s.step) = session_frame w (seat_at n number) seat.actor place n.words s (session_moved (seat_at n number) (near n s)).machine shows.sound seat.sits.got seat.sits.fits.work its high in
    record { number = number; moves = refl; state = s; found = there; word = has.0; its_word = has.1 }

life_frame : (n : Now) (w : GuardWorld) (read : List ℕ) (event : Event) (place : ℕ) → Shows n w → frames_start w.now.places ≤ place → Writes w place (life_events n read event)
    → ((granted done : Bool) → event ≡ KeeperMoves granted done → ⊥) → FrameWriter n event
unfolding life_events
life_frame n w read (Calls number call) place shows high its keeper = absurd (called_none n w place number call (slice_get n.sessions number) its)
life_frame n w read (Moves number) place shows high its keeper = moved_frame n w place number (slice_get n.sessions number) refl shows its high
life_frame n w read (Commits kind) place shows high its keeper = absurd its
life_frame n w read Turns place shows high its keeper = absurd (asked_none w place (keeper_actor (keeper_number n) n.keeper) n.keeper its)
life_frame n w read (KeeperMoves granted done) place shows high its keeper = absurd (keeper granted done refl)
life_frame n w read Crashes place shows high its keeper = absurd its

event_frame : (n : Now) (w : GuardWorld) (read : List ℕ) (event : Event) (place : ℕ) → Shows n w → frames_start w.now.places ≤ place → word_at (guard_run w (guard_events n read event)).now.words place ≢ word_at w.now.words place → FrameWriter n event
unfolding guard_run
event_frame n w read event place shows high changes = by_crash n.crashed refl
  where
    by_crash : (b : Bool) → n.crashed ≡ b → FrameWriter n event
    by_crash true e = absurd (changes (ap (λ (b : Bool). word_at (guard_run w (if b then [] else life_events n read event)).now.words place) e))
    by_crash false e =
        let alive : word_at (guard_run w (life_events n read event)).now.words place ≢ word_at w.now.words place =
        λ same. changes (ap (λ (b : Bool). word_at (guard_run w (if b then [] else life_events n read event)).now.words place) e ∙ same) in
        let steps = is_steps n read event in
        let step : IsStep (keeper_number n) steps.actor (life_events n read event) = subst (λ (b : Bool). IsStep (keeper_number n) steps.actor (if b then [] else life_events n read event)) e steps.step in
        life_frame n w read event place shows high (step_written (keeper_number n) steps.actor w (life_events n read event) place step alive)
        (λ granted done same. keeper_none n w read granted done place e shows high (subst (λ (x : Event). word_at (guard_run w (life_events n read x)).now.words place ≢ word_at w.now.words place) same alive))

-- ---- in a life
pub life_writer : (opening : World) (start : ℕ) (before : List Event) (event : Event) (place : ℕ) → IsOpened opening.now start → frames_start (run opening before).now.places ≤ place
    → word_at (happens (run opening before) event).now.words place ≢ word_at (run opening before).now.words place → FrameWriter (run opening before).now event
life_writer opening start before event place opened high changes =
    let b : World = run opening before in
    let w : GuardWorld = seen_by_guard opening start before in
    let read : List ℕ = read_by_keeper b in
    let shows = life_shows opening start before opened in
    let after = happens_shows b.now w read event (write_outer opening start before opened) shows in
    event_frame b.now w read event place shows (subst (λ (p : Places). frames_start p ≤ place) (sym shows.places) high)
    (subst (λ (words : List ℕ). word_at (guard_run w (guard_events b.now read event)).now.words place ≢ word_at words place) (sym shows.words)
    (subst (λ (words : List ℕ). word_at words place ≢ word_at b.now.words place) (sym after.words) changes))
