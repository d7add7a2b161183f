-- Over an honest device a life goes on by each beat of a call, and shows the device with the world.
use Rattle.std.proofs.Common.{◌≡◌, ◌≢◌, ◌∙◌, ℕ, zero, suc, List, [], ◌∷◌, ◌++◌, Bool, true, false, ap, append_assoc, inl, inr, length, refl, replicate, sym, subst}
use Rattle.std.specs.Prelude.{Option, Some, None, ⊤}
use Rattle.law_order.specs.Below.fkv_core.Lives.{IsAnswerSaid, IsSaid, LeadsOn, answers_of}
use Rattle.law_order.specs.Below.fkv_core.Told.{IsKeepingTold, IsTold, keeper_told}
use Rattle.law_order.specs.Below.fkv_core.Unswept.{NeverSweeps}
use Rattle.law_order.specs.Below.fkv_core.Worlds.{BeginsNoSweep, WorldModel, may_sweep, took_place}
use Rattle.law_order.specs.Below.fkv_core.Event as events
use Rattle.law_order.specs.Below.fkv_core.TheTold as tells
use Rattle.law_order.specs.Below.fkv_core.TheTold.TheVariants as told
use Rattle.fkv_disk.specs.Kinds.{Foretold, Kind}
use Rattle.fkv_disk.specs.Device.{IsAfter}
use Rattle.fkv_epoch.proofs.Shown.{none_some, some_same}
use Rattle.law_order.specs.Below.fkv_keeper.KeeperRun.{is_in_hand}
use Rattle.law_order.specs.Below.fkv_keeper.Answers.{IsKeeperTold}
use Rattle.law_order.specs.Below.fkv_keeper.Keeping.{Finality, KeeperState, end_told}
use Rattle.law_order.specs.Below.fkv_keeper.KeeperAsk.{KeeperAsk}
use Rattle.law_order.specs.Below.fkv_keeper.KeeperAsk.TheVariants as ask
use Rattle.law_order.specs.Below.fkv_keeper.KeeperTold.{KeeperTold}
use Rattle.law_order.specs.Below.fkv_keeper.KeeperTold.TheVariants.{Begun, CommitRefused, Device, TurnRefused, Turned}
use Rattle.law_order.specs.Below.fkv_keeper.TheKeeping.{Keeping}
use Rattle.law_order.specs.Below.fkv_keeper.TheKeeping.TheVariants.{Ended}
use Rattle.fkv_map.specs.declared.operations.Call.{Call}
use Rattle.fkv_runs.specs.Below.fkv_playing.Beats.{IsBeat, asked_of, event_of, heard, seats_behind, sweeps_behind, turn_move}
use Rattle.fkv_runs.specs.Below.fkv_playing.Groups.{is_struck_by}
use Rattle.fkv_runs.specs.Below.fkv_playing.InTurn.{InTurn}
use Rattle.fkv_runs.specs.Below.fkv_playing.Players.{EngineStep, PlayerState, is_struck}
use Rattle.fkv_runs.specs.Below.fkv_playing.Seats.{SeatState}
use Rattle.fkv_runs.specs.Below.fkv_playing.Texts.{text_heard, text_of}
use Rattle.fkv_runs.specs.Below.fkv_playing.ActorCall.{ActorCall}
use Rattle.fkv_runs.specs.Below.fkv_playing.ActorCall.TheVariants.{Session, Commit, Trim, Turn}
use Rattle.fkv_runs.specs.Below.fkv_playing.Outcome.{Outcome}
use Rattle.fkv_runs.specs.Below.fkv_playing.Outcome.TheVariants.{GoesOn}
use Rattle.fkv_runs.specs.Below.fkv_playing.Stage.{Stage}
use Rattle.fkv_runs.specs.Below.fkv_playing.Stage.TheVariants as stage
use Rattle.fkv_runs.specs.Below.fkv_playing.Telling.{Telling}
use Rattle.law_order.specs.Below.fkv_world.Opened.{IsOpenedWorld}
use Rattle.law_order.specs.Below.fkv_world.Past.{Answered, KeeperAnswered, TraceEvent}
use Rattle.law_order.specs.Below.fkv_world.Runs.{World, run}
use Rattle.law_order.specs.Below.fkv_world.World.{Event, KeeperMoves, Moves, Now}
use Rattle.law_program.specs.PlayedCalls.EachLine.{AreMovesOf, IsMoveOf, IsOfKeeper, begun_by}
use Rattle.law_program.proofs.OfPlayedCalls.Beats.{HasEnded, ended_heard, unheard, unheard_then, untold}
use Rattle.law_program.proofs.OfPlayedCalls.Unswept.{step_unswept}

-- ---- by the engine's rules
-- A step leads on each life of an opened store that shows the world and the device before it, and tells what its event gives. One that may not sweep
-- begins no sweep.
pub record IsLeading {D : Type 0} (seen : D → List ℕ) (may_leave : D → List ℕ → Type 0) (its : events.Event) (world after : WorldModel D) (said : Option tells.Told) : Type 0 where
  pub granted : Bool
  pub done : Bool
  pub leads : LeadsOn world.now after.now (took_place its granted done) said (seen world.device) (seen after.device) (may_leave world.device) (may_leave after.device)
  pub tells : IsTold world.now.crashed world.now after.now (took_place its granted done) said
  pub no_sweep : may_sweep its ≡ false → BeginsNoSweep world.now.keeper after.now.keeper

abbrev pub LeadsLives : {D : Type 0} → (D → List ℕ) → (D → List ℕ → Type 0) → (events.Event → WorldModel D → WorldModel D → Option tells.Told → Bool → Type 0) → Type 0
LeadsLives {D} seen may_leave engine =
    (its : events.Event) (world after : WorldModel D) (said : Option tells.Told) (broken : Bool) → engine its world after said broken → IsLeading seen may_leave its world after said

pub engine_leads : {D : Type 0} (honest : D → Type 0) (seen : D → List ℕ) (may_leave : D → List ℕ → Type 0) (failed : D → ℕ) (refuses : D → ℕ → Bool) (expects : D → List Kind → Foretold) (broken : D → Bool) → ((device : D) → honest device)
    → LeadsLives seen may_leave (EngineStep honest seen may_leave failed refuses expects broken)
engine_leads honest seen may_leave failed refuses expects broken all = λ its world after said is_broken step.
    record { granted = step.0.granted; done = step.0.done; leads = step.0.life (all world.device); tells = step.0.tells; no_sweep = step.0.no_sweep }

-- ---- the event of a beat
abbrev pub IsEventAt : Stage → ActorCall → Event → Type 0
IsEventAt stage.Begins its event = event ≡ begun_by its
IsEventAt stage.Moves its event = IsMoveOf its event

-- a turn's move is the keeper's, whether it may sweep or not
turn_takes : (sweeps granted done : Bool) → took_place (turn_move sweeps) granted done ≡ KeeperMoves granted done
turn_takes true granted done = refl
turn_takes false granted done = refl

pub took_at : (sweeps : Bool) (at : Stage) (its : ActorCall) (granted done : Bool) → IsEventAt at its (took_place (event_of sweeps at its) granted done)
took_at sweeps stage.Begins (Session number asked) granted done = refl
took_at sweeps stage.Begins (Commit kind) granted done = refl
took_at sweeps stage.Begins Trim granted done = refl
took_at sweeps stage.Begins Turn granted done = refl
took_at sweeps stage.Moves (Session number asked) granted done = refl
took_at sweeps stage.Moves (Commit kind) granted done = (granted, done, refl)
took_at sweeps stage.Moves Trim granted done = (granted, done, refl)
took_at sweeps stage.Moves Turn granted done = (granted, done, turn_takes sweeps granted done)

-- where turns don't sweep, no event may begin a sweep
none_may : (at : Stage) (its : ActorCall) → may_sweep (event_of false at its) ≡ false
none_may stage.Begins (Session number asked) = refl
none_may stage.Begins (Commit kind) = refl
none_may stage.Begins Trim = refl
none_may stage.Begins Turn = refl
none_may stage.Moves (Session number asked) = refl
none_may stage.Moves (Commit kind) = refl
none_may stage.Moves Trim = refl
none_may stage.Moves Turn = refl

-- nor do they behind any call but a trim
still_none : (at : Stage) (its : ActorCall) → its ≢ Trim → sweeps_behind at its false ≡ false
still_none stage.Begins (Session number asked) plain = refl
still_none stage.Begins (Commit kind) plain = refl
still_none stage.Begins Trim plain = absurd (plain refl)
still_none stage.Begins Turn plain = refl
still_none stage.Moves (Session number asked) plain = refl
still_none stage.Moves (Commit kind) plain = refl
still_none stage.Moves Trim plain = refl
still_none stage.Moves Turn plain = refl

moves_both : (its : ActorCall) (later before : List Event) → AreMovesOf its later → AreMovesOf its before → AreMovesOf its (later ++ before)
moves_both its [] before newer older = older
moves_both its (event ∷ later) before newer older = (newer.0, moves_both its later before newer.1 older)

one_longer : (xs : List Event) (x : Event) → length (xs ++ x ∷ []) ≡ suc (length xs)
one_longer [] x = refl
one_longer (y ∷ xs) x = ap suc (one_longer xs x)

-- a session's moves are all alike
pub alike : (number : ℕ) (asked : Call) (moves : List Event) → AreMovesOf (Session number asked) moves → moves ≡ replicate (length moves) (Moves number)
alike number asked [] are = refl
alike number asked (event ∷ before) are = ap (λ (x : Event). x ∷ before) are.0 ∙ ap (λ (x : List Event). Moves number ∷ x) (alike number asked before are.1)

-- ---- what the keeper is told
abbrev pub IsKeepers : ActorCall → Type 0
IsKeepers (Session number asked) = ⊥
IsKeepers its = ⊤

asks_said : (given : KeeperAsk) (said : tells.Told) → Some said ≡ keeper_told given → IsOfKeeper said
asks_said (ask.Turned its) said e = subst IsOfKeeper (sym (some_same _ _ e)) tt
asks_said (ask.Begun its) said e = subst IsOfKeeper (sym (some_same _ _ e)) tt
asks_said given said e = none_some said (sym e)

keeping_said : (was_busy : Bool) (step : Keeping) (s : KeeperState) (said : tells.Told) → IsKeepingTold was_busy step s (Some said) → IsOfKeeper said
keeping_said true (Ended its) s said so = asks_said so.0 said so.2
keeping_said was_busy step s said so = none_some said (sym so)

event_said : (sweeps : Bool) (at : Stage) (its : ActorCall) (n after : Now) (granted done : Bool) (said : tells.Told) → IsKeepers its → IsTold false n after (took_place (event_of sweeps at its) granted done) (Some said) → IsOfKeeper said
event_said sweeps at (Session number asked) n after granted done said keeper so = absurd keeper
event_said sweeps stage.Begins (Commit kind) n after granted done said keeper so = keeping_said _ after.keeper.step after.keeper said so
event_said sweeps stage.Begins Trim n after granted done said keeper so = keeping_said _ after.keeper.step after.keeper said so
event_said sweeps stage.Begins Turn n after granted done said keeper so = keeping_said _ after.keeper.step after.keeper said so
event_said sweeps stage.Moves (Commit kind) n after granted done said keeper so = keeping_said (is_in_hand n.keeper.step) after.keeper.step after.keeper said so
event_said sweeps stage.Moves Trim n after granted done said keeper so = keeping_said (is_in_hand n.keeper.step) after.keeper.step after.keeper said so
event_said sweeps stage.Moves Turn n after granted done said keeper so =
    keeping_said (is_in_hand n.keeper.step) after.keeper.step after.keeper said (subst (λ (x : Event). IsTold false n after x (Some said)) (turn_takes sweeps granted done) so)

said_by_keeper : (sweeps : Bool) (at : Stage) (its : ActorCall) (crashed : Bool) (n after : Now) (granted done : Bool) (said : tells.Told) → IsKeepers its → IsTold crashed n after (took_place (event_of sweeps at its) granted done) (Some said)
    → IsOfKeeper said
said_by_keeper sweeps at its true n after granted done said keeper so = none_some said (sym so)
said_by_keeper sweeps at its false n after granted done said keeper so = event_said sweeps at its n after granted done said keeper so

-- the seats stay then
seats_kept : (asked : Call) (seats : List SeatState) (said : tells.Told) → IsOfKeeper said → seats_behind asked seats (Some said) ≡ seats
seats_kept asked seats (told.Session number answer) by_keeper = absurd by_keeper
seats_kept asked seats (told.Commit begun) by_keeper = refl
seats_kept asked seats (told.Turn its) by_keeper = refl

-- ---- beat by beat
-- a life shows the world and the device
pub record ShowsBoth {D : Type 0} (seen : D → List ℕ) (may_leave : D → List ℕ → Type 0) (opening : World) (life : List Event) (world : WorldModel D) : Type 0 where
  pub shows : (run opening life).now ≡ world.now
  pub device : IsAfter (run opening life).past.opened (run opening life).past.calls (seen world.device) (may_leave world.device)

-- in the life the keeper has swept nothing, and turns don't sweep
abbrev pub SweepsNothing : {D : Type 0} → World → List Event → PlayerState D → Type 0
SweepsNothing opening life player = NeverSweeps opening life × (player.sweeps ≡ false)

-- It shows them behind a beat. By any call but a trim nothing is swept still.
pub record IsLedTo {D : Type 0} (seen : D → List ℕ) (may_leave : D → List ℕ → Type 0) (its : ActorCall) (opening : World) (at : Stage) (life : List Event) (before after : PlayerState D) : Type 0 where
  pub event : Event
  pub is_at : IsEventAt at its event
  pub shows : ShowsBoth seen may_leave opening (event ∷ life) after.world
  pub unswept : its ≢ Trim → SweepsNothing opening life before → SweepsNothing opening (event ∷ life) after

-- The first event is the first beat's, and behind it its actor alone moves.
pub record IsLedBy {D : Type 0} (seen : D → List ℕ) (may_leave : D → List ℕ → Type 0) (its : ActorCall) (opening : World) (at : Stage) (count : ℕ) (life : List Event) (after : WorldModel D) : Type 0 where
  pub event : Event
  pub is_at : IsEventAt at its event
  pub moves : List Event
  pub are_moves : AreMovesOf its moves
  pub many : length moves ≡ count
  pub shows : ShowsBoth seen may_leave opening (moves ++ event ∷ life) after

-- What was told is the one answer that a life has had since.
pub record IsOneAnswer (opening : World) (life later : List Event) (said : tells.Told) : Type 0 where
  pub answer : TraceEvent
  pub all : answers_of (run opening later).past.trace ≡ answer ∷ answers_of (run opening life).past.trace
  pub is_said : IsAnswerSaid answer (Some said)

one_said : (opening : World) (life : List Event) (event : Event) (its : Option tells.Told) (said : tells.Told) → its ≡ Some said
    → IsSaid its (answers_of (run opening life).past.trace) (answers_of (run opening (event ∷ life)).past.trace) → IsOneAnswer opening life (event ∷ life) said
one_said opening life event its said was (inl none) = none_some said (sym none.0 ∙ was)
one_said opening life event its said was (inr one) = record { answer = one.0; all = one.1; is_said = subst (IsAnswerSaid one.0) was one.2 }

-- where nothing is told there is no answer
keeper_says : (k : KeeperTold) (full : Bool) (last : Finality) (given : KeeperAsk) → IsKeeperTold last (end_told k (Turned false full)) given → None ≡ keeper_told given → ⊥
keeper_says Device full last given so e = none_some _ (e ∙ ap keeper_told so.1)
keeper_says (Turned finished drained) full last given so e = none_some _ (e ∙ ap keeper_told so.1)
keeper_says (TurnRefused why) full last given so e = none_some _ (e ∙ ap keeper_told so)
keeper_says (Begun number) full last given so e = none_some _ (e ∙ ap keeper_told so)
keeper_says (CommitRefused why) full last given so e = none_some _ (e ∙ ap keeper_told so)

answer_says : (answer : TraceEvent) → IsAnswerSaid answer None → ⊥
answer_says (Answered number its) so = none_some _ so.1
answer_says (KeeperAnswered k last) so = keeper_says k so.0 last so.1 so.2 so.3
answer_says answer so = absurd so

none_said : (its : Option tells.Told) (before after : List TraceEvent) → its ≡ None → IsSaid its before after → after ≡ before
none_said its before after none (inl same) = same.1
none_said its before after none (inr one) = absurd (answer_says one.0 (subst (IsAnswerSaid one.0) none one.2))

-- What is printed is what the call was told, and this is the one answer of the life that the beats have led on.
pub record IsToldLast {D : Type 0} (seen : D → List ℕ) (may_leave : D → List ℕ → Type 0) (telling : Telling) (its : ActorCall) (opening : World) (at : Stage) (count : ℕ) (life : List Event) (before after : PlayerState D) (text : List ℕ) : Type 0 where
  pub said : tells.Told
  pub says : text ≡ text_of telling (asked_of its) before.seats after.world.now said
  pub by_keeper : IsKeepers its → IsOfKeeper said
  pub seats : IsKeepers its → after.seats ≡ before.seats
  pub led : IsLedBy seen may_leave its opening at count life after.world
  pub one : IsOneAnswer opening life (led.moves ++ led.event ∷ life) said
  pub unswept : its ≢ Trim → SweepsNothing opening life before → SweepsNothing opening (led.moves ++ led.event ∷ life) after

module _ {D : Type 0} (seen : D → List ℕ) (may_leave : D → List ℕ → Type 0) (engine : events.Event → WorldModel D → WorldModel D → Option tells.Told → Bool → Type 0) (leads : LeadsLives seen may_leave engine) (telling : Telling) (its : ActorCall) where
  -- by a beat of any call but a trim the keeper sweeps nothing still
  pub none_swept : (opening : World) → IsOpenedWorld opening → (at : Stage) (life : List Event) (before after : PlayerState D) (outcome : Outcome) (text : List ℕ) (event : Event) → (run opening life).now ≡ before.world.now
      → (run opening (event ∷ life)).now ≡ after.world.now → (may_sweep (event_of before.sweeps at its) ≡ false → BeginsNoSweep before.world.now.keeper after.world.now.keeper)
      → IsBeat engine telling its at before after outcome text → its ≢ Trim → SweepsNothing opening life before → SweepsNothing opening (event ∷ life) after
  none_swept opening opened at life before after outcome text event was is no_sweep beat plain swept = (
    step_unswept opening event life before.world.now after.world.now opened swept.0 was is (no_sweep (ap (λ (x : Bool). may_sweep (event_of x at its)) swept.1 ∙ none_may at its)),
    beat.sweeps ∙ (ap (sweeps_behind at its) swept.1 ∙ still_none at its plain),
  )

  pub one_on : (opening : World) → IsOpenedWorld opening → (at : Stage) (life : List Event) (before after : PlayerState D) (outcome : Outcome) (text : List ℕ) → ShowsBoth seen may_leave opening life before.world
      → IsBeat engine telling its at before after outcome text → IsLedTo seen may_leave its opening at life before after
  one_on opening opened at life before after outcome text was beat =
      let led = leads (event_of before.sweeps at its) before.world after.world beat.its beat.broken beat.step in
      let on = led.leads opening life opened was.shows was.device in
      let event : Event = took_place (event_of before.sweeps at its) led.granted led.done in
      record {
        event = event;
        is_at = took_at before.sweeps at its led.granted led.done;
        shows = record { shows = on.shows; device = on.device };
        unswept = none_swept opening opened at life before after outcome text event was.shows on.shows led.no_sweep beat;
      }

  pub told_last : (opening : World) → IsOpenedWorld opening → (at : Stage) (count : ℕ) (life : List Event) (before after : PlayerState D) (outcome : Outcome) (text : List ℕ) → ShowsBoth seen may_leave opening life before.world → HasEnded outcome
      → InTurn (IsBeat engine telling its) GoesOn (at ∷ replicate count stage.Moves) before after outcome text → IsToldLast seen may_leave telling its opening at count life before after text
  told_last opening opened at zero life before after outcome text was ended beat =
      let end = ended_heard (is_struck before.waits beat.broken) beat.its outcome beat.ends ended in
      let led = leads (event_of before.sweeps at its) before.world after.world beat.its beat.broken beat.step in
      let on = led.leads opening life opened was.shows was.device in
      let event : Event = took_place (event_of before.sweeps at its) led.granted led.done in
      let by_keeper : IsKeepers its → IsOfKeeper end.said
      = λ keeper. said_by_keeper before.sweeps at its before.world.now.crashed before.world.now after.world.now led.granted led.done end.said keeper
      (subst (λ (x : Option tells.Told). IsTold before.world.now.crashed before.world.now after.world.now event x) end.was led.tells) in
      record {
        said = end.said;
        says = beat.says ∙ ap (text_heard telling (asked_of its) before.seats after.world.now) end.hears;
        by_keeper = by_keeper;
        seats = λ keeper. beat.seats ∙ (ap (seats_behind (asked_of its) before.seats) end.hears ∙ seats_kept (asked_of its) before.seats end.said (by_keeper keeper));
        led = record {
          event = event;
          is_at = took_at before.sweeps at its led.granted led.done;
          moves = [];
          are_moves = tt;
          many = refl;
          shows = record { shows = on.shows; device = on.device };
        };
        one = one_said opening life event beat.its end.said end.was on.says;
        unswept = none_swept opening opened at life before after outcome text event was.shows on.shows led.no_sweep beat;
      }
  told_last opening opened at (suc count) life before after outcome text was ended beats =
      let between : PlayerState D = beats.0 in
      let beat : IsBeat engine telling its at before between GoesOn beats.1 = beats.3 in
      let none : heard (is_struck before.waits beat.broken) beat.its ≡ None = unheard (is_struck before.waits beat.broken) beat.its beat.ends in
      let silent : beats.1 ≡ [] = beat.says ∙ ap (text_heard telling (asked_of its) before.seats between.world.now) none in
      let seats : between.seats ≡ before.seats = beat.seats ∙ ap (seats_behind (asked_of its) before.seats) none in
      let leading = leads (event_of before.sweeps at its) before.world between.world beat.its beat.broken beat.step in
      let on = leading.leads opening life opened was.shows was.device in
      let event : Event = took_place (event_of before.sweeps at its) leading.granted leading.done in
      let unsaid : answers_of (run opening (event ∷ life)).past.trace ≡ answers_of (run opening life).past.trace
      = none_said beat.its _ _ (untold (is_struck before.waits beat.broken) beat.its beat.ends) on.says in
      let rest = told_last opening opened stage.Moves count (event ∷ life) between after outcome beats.2 (record { shows = on.shows; device = on.device }) ended beats.4 in
      let led = rest.led in
      let same : led.moves ++ led.event ∷ event ∷ life ≡ (led.moves ++ led.event ∷ []) ++ event ∷ life = sym (append_assoc led.moves (led.event ∷ []) (event ∷ life)) in
      let last = rest.one in
      record {
        said = rest.said;
        says = beats.5 ∙ (ap (λ (x : List ℕ). x ++ beats.2) silent ∙ (rest.says ∙ ap (λ (x : List SeatState). text_of telling (asked_of its) x after.world.now rest.said) seats));
        by_keeper = rest.by_keeper;
        seats = λ keeper. rest.seats keeper ∙ seats;
        led = record {
          event = event;
          is_at = took_at before.sweeps at its leading.granted leading.done;
          moves = led.moves ++ led.event ∷ [];
          are_moves = moves_both its led.moves (led.event ∷ []) led.are_moves (led.is_at, tt);
          many = one_longer led.moves led.event ∙ ap suc led.many;
          shows = subst (λ (x : List Event). ShowsBoth seen may_leave opening x after.world) same led.shows;
        };
        one = record {
          answer = last.answer;
          all = ap (λ (x : List Event). answers_of (run opening x).past.trace) (sym same) ∙ (last.all ∙ ap (λ (x : List TraceEvent). last.answer ∷ x) unsaid);
          is_said = last.is_said;
        };
        unswept = λ plain swept. subst (λ (x : List Event). SweepsNothing opening x after) same
            (rest.unswept plain (none_swept opening opened at life before between GoesOn beats.1 event was.shows on.shows leading.no_sweep beat plain swept));
      }

-- ---- where a crash strikes
-- the call has printed nothing
pub struck_alone : {D : Type 0} (engine : events.Event → WorldModel D → WorldModel D → Option tells.Told → Bool → Type 0) (telling : Telling) (its : ActorCall) (at : Stage) (count : ℕ) (before after : PlayerState D) (outcome : Outcome) (text : List ℕ)
    → true ≡ is_struck_by outcome → InTurn (IsBeat engine telling its) GoesOn (at ∷ replicate count stage.Moves) before after outcome text → text ≡ []
struck_alone engine telling its at zero before after outcome text struck beat =
    beat.says ∙ unheard_then telling (asked_of its) before.seats after.world.now (is_struck before.waits beat.broken) beat.its (struck ∙ ap is_struck_by beat.ends)
struck_alone {D} engine telling its at (suc count) before after outcome text struck beats =
    let between : PlayerState D = beats.0 in
    let beat : IsBeat engine telling its at before between GoesOn beats.1 = beats.3 in
    let silent : beats.1 ≡ [] = beat.says ∙ ap (text_heard telling (asked_of its) before.seats between.world.now) (unheard (is_struck before.waits beat.broken) beat.its beat.ends) in
    let rest : beats.2 ≡ [] = struck_alone engine telling its stage.Moves count between after outcome beats.2 struck beats.4 in
    beats.5 ∙ (ap (λ (x : List ℕ). x ++ beats.2) silent ∙ rest)
