-- A call that is in hand goes on over one event, or the trace gets its answer.
use Rattle.std.proofs.Common.{◌≡◌, ℕ, suc, ◌∙◌, refl, sym, ap, subst, arith, inl, inr, ◌⊎◌, List, [], ◌∷◌, ◌++◌, length, Bool, true, false}
use Rattle.std.specs.Prelude.{Option, Some, None, ◌==◌, not, slice_get}
use Rattle.std.proofs.lemmas.Bool.{and_parts}
use Rattle.std.proofs.lemmas.Bool.Decides.{nat_tests}
use Rattle.fkv_base.specs.declared.commits.CommitKind.TheVariants.{Full}
use Rattle.law_opening.specs.Below.fkv_keeper.TheKeeping.{Keeping}
use Rattle.law_opening.specs.Below.fkv_keeper.TheKeeping.TheVariants.{Ended}
use Rattle.law_opening.specs.Below.fkv_keeper.KeeperRun.{is_in_hand}
use Rattle.law_opening.specs.Below.fkv_keeper.Keeping.{Finality, KeeperState}
use Rattle.fkv_map.specs.declared.operations.Call.TheVariants.{Poll}
use Rattle.law_opening.specs.Below.fkv_session.Finished.{Finished}
use Rattle.law_opening.specs.Below.fkv_session.Sitting.{Sitting}
use Rattle.law_opening.specs.Below.fkv_session.Sitting.TheVariants.{Idle}
use Rattle.law_opening.specs.Below.fkv_session.SessionRun.{telling}
use Rattle.law_opening.specs.Below.fkv_session.Sessions.{SessionState, is_busy}
use Rattle.law_opening.specs.Below.fkv_world.Actors.{is_of_keeper, is_of_session, session_goes}
use Rattle.law_opening.specs.Below.law_world.Runs.Added.{begun_by, call_answered, ended_by, keeper_told, told_at, told_by}
use Rattle.law_opening.specs.Below.fkv_world.Past.{TraceEvent, Answered, KeeperAnswered}
use Rattle.law_opening.specs.Below.fkv_world.Runs.{World, happens}
use Rattle.law_opening.specs.Below.fkv_world.World.{Calls, Commits, Event, KeeperMoves, Moves, Now, Turns, near, seat_at}
use Rattle.law_opening.proofs.Below.law_world.OfRuns.Nothing.{in_hand as called_in_hand, keeper_in_hand, keeper_none_in_hand, no_session, none_in_hand}
use Rattle.law_opening.proofs.Below.fkv_world.Shown.{is_over, keeper_apart, keeper_own, session_apart, session_own, session_written}
use Rattle.law_opening.proofs.Below.law_world.OfRuns.Added.{trace_so}
use Rattle.law_opening.specs.Below.fkv_core.Actor.{Actor}
use Rattle.law_opening.specs.Below.fkv_core.Actor.TheVariants.{Session, Keeper}
use Rattle.law_opening.specs.Below.fkv_core.Alone.{has_call, in_hand, is_seat_busy}
use Rattle.law_opening.specs.Below.fkv_core.Lives.{answers_of}
use Rattle.law_answers.specs.Answered.Answers.{GetsAnswer}

-- a session's call that is in hand
pub record IsBusy (n : Now) (number : ℕ) : Type 0 where
  pub its : SessionState
  pub found : slice_get n.sessions number ≡ Some its
  pub busy : is_busy its.step ≡ true

not_over : (crashed : Bool) → not crashed ≡ true → crashed ≡ false
not_over true e = cc
not_over false e = refl

pub alive_of : (n : Now) (actor : Actor) → in_hand n actor ≡ true → n.crashed ≡ false
alive_of n actor busy = not_over n.crashed (and_parts (not n.crashed) (has_call n actor) busy).0

pub call_of : (n : Now) (actor : Actor) → in_hand n actor ≡ true → has_call n actor ≡ true
call_of n actor busy = (and_parts (not n.crashed) (has_call n actor) busy).1

seat_of : (n : Now) (number : ℕ) (found : Option SessionState) → slice_get n.sessions number ≡ found → is_seat_busy found ≡ true → IsBusy n number
seat_of n number None there busy = cc
seat_of n number (Some its) there busy = record { its = its; found = there; busy = busy }

pub busy_of : (n : Now) (number : ℕ) → in_hand n (Session number) ≡ true → IsBusy n number
busy_of n number busy = seat_of n number (slice_get n.sessions number) refl (call_of n (Session number) busy)

pub session_still : (n : Now) (number : ℕ) (its : SessionState) → n.crashed ≡ false → slice_get n.sessions number ≡ Some its → is_busy its.step ≡ true → in_hand n (Session number) ≡ true
session_still n number its alive found busy = rw alive (rw found busy)

pub keeper_still : (n : Now) → n.crashed ≡ false → is_in_hand n.keeper.step ≡ true → in_hand n Keeper ≡ true
keeper_still n alive busy = rw alive busy

-- over an event the call is in hand still, and no answer comes, or its answer comes
abbrev pub StepsOn : Actor → World → World → Type 0
StepsOn actor w after = ((answers_of after.past.trace ≡ answers_of w.past.trace) × (in_hand w.now actor ≡ true → in_hand after.now actor ≡ true)) ⊎ GetsAnswer actor w after

unmoved : (actor : Actor) (w after : World) → after ≡ w → StepsOn actor w after
unmoved actor w after same = subst (λ (it : World). StepsOn actor w it) (sym same) (inl (refl, λ busy. busy))

-- a move of a session
sitting_moved : (number : ℕ) (w after : World) (step : Sitting) (finished : List Finished) (effects : ℕ) → after.past.trace ≡ told_at effects (call_answered number true step finished ++ []) ++ w.past.trace
    → (is_busy step ≡ true → in_hand after.now (Session number) ≡ true) → StepsOn (Session number) w after
sitting_moved number w after (Idle its) finished effects adds busy = inr (Answered number (telling its finished), ap answers_of adds, refl)
sitting_moved number w after step finished effects adds busy = inl (ap answers_of adds, λ was. busy refl)

told_of_move : (n after : Now) (number : ℕ) (its next : SessionState) → n.crashed ≡ false → slice_get n.sessions number ≡ Some its → is_busy its.step ≡ true → slice_get after.sessions number ≡ Some next
    → told_by n after (Moves number) ≡ call_answered number true next.step next.finished ++ []
unfolding ended_by begun_by
told_of_move n after number its next alive found busy there = rw alive (rw found (rw busy (rw there refl)))

same_number : (number : ℕ) → (number == number) ≡ true
same_number number = grind (arith, nat_tests)

busy_moved : (w : World) (number : ℕ) (its : SessionState) → w.now.crashed ≡ false → slice_get w.now.sessions number ≡ Some its → is_busy its.step ≡ true → StepsOn (Session number) w (happens w (Moves number))
busy_moved w number its alive found busy =
    let after : World = happens w (Moves number) in
    let own : is_of_session number (Moves number) ≡ true = same_number number in
    let next : SessionState = (session_goes (seat_at w.now number) (near w.now its) (Moves number)).machine in
    let there : slice_get after.now.sessions number ≡ Some next = session_written w (Moves number) number its own alive found in
    let goes_on : after.now.crashed ≡ false = ap (λ (n : Now). n.crashed) (session_own w (Moves number) number its own alive found) ∙ alive in
    let tells : told_by w.now after.now (Moves number) ≡ call_answered number true next.step next.finished ++ [] = told_of_move w.now after.now number its next alive found busy there in
    let adds = trace_so w (Moves number) ∙ ap (λ (events : List TraceEvent). told_at (length after.past.history) events ++ w.past.trace) tells in
    sitting_moved number w after next.step next.finished (length after.past.history) adds (λ still. session_still after.now number next goes_on there still)

seat_moved : (w : World) (number : ℕ) (its : SessionState) (busy : Bool) → w.now.crashed ≡ false → slice_get w.now.sessions number ≡ Some its → is_busy its.step ≡ busy
    → StepsOn (Session number) w (happens w (Moves number))
seat_moved w number its true alive found busy = busy_moved w number its alive found busy
seat_moved w number its false alive found idle = unmoved (Session number) w (happens w (Moves number)) (none_in_hand w number its found idle)

found_moved : (w : World) (number : ℕ) (found : Option SessionState) → w.now.crashed ≡ false → slice_get w.now.sessions number ≡ found → StepsOn (Session number) w (happens w (Moves number))
found_moved w number None alive there = unmoved (Session number) w (happens w (Moves number)) (no_session w number Poll there).1
found_moved w number (Some its) alive there = seat_moved w number its (is_busy its.step) alive there refl

session_at : (w : World) (number : ℕ) (crashed : Bool) → w.now.crashed ≡ crashed → StepsOn (Session number) w (happens w (Moves number))
session_at w number true over = unmoved (Session number) w (happens w (Moves number)) (is_over w (Moves number) over)
session_at w number false alive = found_moved w number (slice_get w.now.sessions number) alive refl

pub session_steps : (w : World) (number : ℕ) → StepsOn (Session number) w (happens w (Moves number))
session_steps w number = session_at w number w.now.crashed refl

-- a move of the keeper
keeping_moved : (w after : World) (step : Keeping) (last : Finality) (effects : ℕ) → after.past.trace ≡ told_at effects (keeper_told true step last ++ []) ++ w.past.trace
    → (is_in_hand step ≡ true → in_hand after.now Keeper ≡ true) → StepsOn Keeper w after
keeping_moved w after (Ended its) last effects adds busy = inr (KeeperAnswered its last, ap answers_of adds, tt)
keeping_moved w after step last effects adds busy = inl (ap answers_of adds, λ was. busy refl)

told_of_keeper : (n after : Now) (granted done : Bool) → n.crashed ≡ false → is_in_hand n.keeper.step ≡ true
    → told_by n after (KeeperMoves granted done) ≡ keeper_told true after.keeper.step after.keeper.last ++ []
unfolding ended_by begun_by
told_of_keeper n after granted done alive busy = rw alive (rw busy refl)

keeper_moved : (w : World) (granted done : Bool) → w.now.crashed ≡ false → is_in_hand w.now.keeper.step ≡ true → StepsOn Keeper w (happens w (KeeperMoves granted done))
keeper_moved w granted done alive busy =
    let after : World = happens w (KeeperMoves granted done) in
    let goes_on : after.now.crashed ≡ false = ap (λ (n : Now). n.crashed) (keeper_own w (KeeperMoves granted done) refl alive) ∙ alive in
    let tells : told_by w.now after.now (KeeperMoves granted done) ≡ keeper_told true after.now.keeper.step after.now.keeper.last ++ [] = told_of_keeper w.now after.now granted done alive busy in
    let adds = trace_so w (KeeperMoves granted done) ∙ ap (λ (events : List TraceEvent). told_at (length after.past.history) events ++ w.past.trace) tells in
    keeping_moved w after after.now.keeper.step after.now.keeper.last (length after.past.history) adds (λ still. keeper_still after.now goes_on still)

keeper_at : (w : World) (granted done crashed busy : Bool) → w.now.crashed ≡ crashed → is_in_hand w.now.keeper.step ≡ busy → StepsOn Keeper w (happens w (KeeperMoves granted done))
keeper_at w granted done true busy over its = unmoved Keeper w (happens w (KeeperMoves granted done)) (is_over w (KeeperMoves granted done) over)
keeper_at w granted done false true alive its = keeper_moved w granted done alive its
keeper_at w granted done false false alive its = unmoved Keeper w (happens w (KeeperMoves granted done)) (keeper_none_in_hand w granted done its)

pub keeper_steps : (w : World) (granted done : Bool) → StepsOn Keeper w (happens w (KeeperMoves granted done))
keeper_steps w granted done = keeper_at w granted done w.now.crashed (is_in_hand w.now.keeper.step) refl refl

-- any event, in a life that goes on
abbrev pub GoesOn : Actor → World → World → Type 0
GoesOn actor w after = (in_hand after.now actor ≡ true) ⊎ GetsAnswer actor w after

by_step : (actor : Actor) (w after : World) → StepsOn actor w after → in_hand w.now actor ≡ true → GoesOn actor w after
by_step actor w after (inl stays) busy = inl (stays.1 busy)
by_step actor w after (inr answered) busy = inr answered

session_beside : (w : World) (event : Event) (number : ℕ) → is_of_session number event ≡ false → in_hand w.now (Session number) ≡ true → (happens w event).now.crashed ≡ false → GoesOn (Session number) w (happens w event)
session_beside w event number other busy alive =
    let was = busy_of w.now number busy in
    inl (session_still (happens w event).now number was.its alive (session_apart w event number other ∙ was.found) was.busy)

keeper_beside : (w : World) (event : Event) → is_of_keeper event ≡ false → in_hand w.now Keeper ≡ true → (happens w event).now.crashed ≡ false → GoesOn Keeper w (happens w event)
keeper_beside w event other busy alive =
    inl (keeper_still (happens w event).now alive (ap (λ (s : KeeperState). is_in_hand s.step) (keeper_apart w event other) ∙ call_of w.now Keeper busy))

session_goes_on : (w : World) (event : Event) (number : ℕ) (own : Bool) → is_of_session number event ≡ own → in_hand w.now (Session number) ≡ true → (happens w event).now.crashed ≡ false → GoesOn (Session number) w (happens w event)
session_goes_on w event number false other busy alive = session_beside w event number other busy alive
session_goes_on w (Calls session its) number true own busy alive =
    let same : session ≡ number = grind (arith, nat_tests, own) in
    let was = busy_of w.now number busy in
    let there : slice_get w.now.sessions session ≡ Some was.its = ap (λ (at : ℕ). slice_get w.now.sessions at) same ∙ was.found in
    by_step (Session number) w (happens w (Calls session its)) (unmoved (Session number) w (happens w (Calls session its)) (called_in_hand w session its was.its there was.busy)) busy
session_goes_on w (Moves session) number true own busy alive =
    let same : session ≡ number = grind (arith, nat_tests, own) in
    subst (λ (at : ℕ). GoesOn (Session number) w (happens w (Moves at))) (sym same) (by_step (Session number) w (happens w (Moves number)) (session_steps w number) busy)
session_goes_on w event number true own busy alive = cc

keeper_goes_on : (w : World) (event : Event) → in_hand w.now Keeper ≡ true → (happens w event).now.crashed ≡ false → GoesOn Keeper w (happens w event)
keeper_goes_on w (KeeperMoves granted done) busy alive = by_step Keeper w (happens w (KeeperMoves granted done)) (keeper_steps w granted done) busy
keeper_goes_on w (Commits kind) busy alive =
    by_step Keeper w (happens w (Commits kind)) (unmoved Keeper w (happens w (Commits kind)) (keeper_in_hand w kind (call_of w.now Keeper busy)).0) busy
keeper_goes_on w Turns busy alive = by_step Keeper w (happens w Turns) (unmoved Keeper w (happens w Turns) (keeper_in_hand w Full (call_of w.now Keeper busy)).1) busy
keeper_goes_on w event busy alive = keeper_beside w event refl busy alive

pub goes_on : (w : World) (event : Event) (actor : Actor) → in_hand w.now actor ≡ true → (happens w event).now.crashed ≡ false → GoesOn actor w (happens w event)
goes_on w event (Session number) busy alive = session_goes_on w event number (is_of_session number event) refl busy alive
goes_on w event Keeper busy alive = keeper_goes_on w event busy alive

-- a list that is longer by an answer is another one
pub no_more : (its : TraceEvent) (answers : List TraceEvent) → answers ≡ its ∷ answers → ⊥
no_more its answers same = let longer : length answers ≡ suc (length answers) = ap length same in omega (arith, longer)

-- no call is in hand any more, so its answer came; and none came, so it is in hand still
ends_so : (actor : Actor) (w after : World) → GoesOn actor w after → in_hand after.now actor ≡ false → GetsAnswer actor w after
ends_so actor w after (inl busy) over = cc
ends_so actor w after (inr answered) over = answered

stays_so : (actor : Actor) (w after : World) → GoesOn actor w after → answers_of after.past.trace ≡ answers_of w.past.trace → in_hand after.now actor ≡ true
stays_so actor w after (inl busy) same = busy
stays_so actor w after (inr answered) same = absurd (no_more answered.0 (answers_of w.past.trace) (sym same ∙ answered.1))

pub its_answer : (w : World) (event : Event) (actor : Actor) → in_hand w.now actor ≡ true → (happens w event).now.crashed ≡ false → in_hand (happens w event).now actor ≡ false → GetsAnswer actor w (happens w event)
its_answer w event actor busy alive over = ends_so actor w (happens w event) (goes_on w event actor busy alive) over

pub none_came : (w : World) (event : Event) (actor : Actor) → in_hand w.now actor ≡ true → (happens w event).now.crashed ≡ false → answers_of (happens w event).past.trace ≡ answers_of w.past.trace
    → in_hand (happens w event).now actor ≡ true
none_came w event actor busy alive same = stays_so actor w (happens w event) (goes_on w event actor busy alive) same
