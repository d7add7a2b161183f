-- The beats of one session's call, up to the one in which it is answered.
use Rattle.std.proofs.Common.{◌≡◌, ◌≢◌, ◌∙◌, ℕ, zero, suc, List, [], ◌∷◌, ◌++◌, Bool, true, false, ap, replicate, refl, sym, subst}
use Rattle.std.specs.Prelude.{Option, Some, None, Result, Ok, Err}
use Rattle.fkv_base.specs.declared.faults.Fault.{Fault}
use Rattle.law_order.specs.Below.fkv_core.Worlds.{WorldModel}
use Rattle.law_order.specs.Below.fkv_core.Event as events
use Rattle.law_order.specs.Below.fkv_core.TheTold as tells
use Rattle.law_order.specs.Below.fkv_core.TheTold.TheVariants as told
use Rattle.law_order.specs.Below.fkv_keeper.Finished as keeper
use Rattle.law_order.specs.Below.fkv_keeper.Turn as turns
use Rattle.fkv_map.specs.declared.operations.Call.{Call}
use Rattle.fkv_runs.specs.Below.fkv_playing.Beats.{IsBeat, heard, outcome_of, outcome_of_finished, outcome_of_told, outcome_of_turn, seats_behind}
use Rattle.fkv_runs.specs.Below.fkv_playing.Groups.{is_struck_by}
use Rattle.fkv_runs.specs.Below.fkv_playing.InTurn.{InTurn}
use Rattle.fkv_runs.specs.Below.fkv_playing.Players.{PlayerState, is_struck}
use Rattle.fkv_runs.specs.Below.fkv_playing.Seats.{SeatState}
use Rattle.fkv_runs.specs.Below.fkv_playing.Texts.{text_heard, text_of}
use Rattle.fkv_runs.specs.Below.fkv_playing.ActorCall.TheVariants.{Session}
use Rattle.fkv_runs.specs.Below.fkv_playing.Outcome.{Outcome}
use Rattle.fkv_runs.specs.Below.fkv_playing.Outcome.TheVariants.{GoesOn, Struck}
use Rattle.fkv_runs.specs.Below.fkv_playing.Stage.{Stage}
use Rattle.fkv_runs.specs.Below.fkv_playing.Stage.TheVariants as stage
use Rattle.fkv_runs.specs.Below.fkv_playing.Telling.{Telling}
use Rattle.law_order.specs.Below.fkv_world.Runs.{World, run}
use Rattle.law_order.specs.Below.fkv_world.World.{Event, Moves, Now}
use Rattle.law_program.proofs.OfPlayedCalls.Steps.{GoesByRules, IsAnsweredNow, IsRuled, answered_now, led_on, stage_event}

-- ---- by the outcome
-- a call is over that was answered, and no crash has struck
abbrev pub HasEnded : Outcome → Type 0
HasEnded outcome = (outcome ≢ GoesOn) × (is_struck_by outcome ≡ false)

finished_ends : (its : Option keeper.Finished) → outcome_of_finished its ≢ GoesOn
finished_ends None = λ e. cc
finished_ends (Some its) = λ e. cc

turn_ends : (its : Result turns.Turn Fault) → outcome_of_turn its ≢ GoesOn
turn_ends (Ok turn) = finished_ends turn.finished
turn_ends (Err fault) = λ e. cc

told_ends : (said : tells.Told) → outcome_of_told said ≢ GoesOn
told_ends (told.Session number answer) = λ e. cc
told_ends (told.Commit begun) = λ e. cc
told_ends (told.Turn its) = turn_ends its

-- where a call goes on nothing was heard
pub unheard : (struck : Bool) (its : Option tells.Told) → GoesOn ≡ outcome_of struck its → heard struck its ≡ None
unheard true its e = cc
unheard false None e = refl
unheard false (Some said) e = absurd (told_ends said (sym e))

-- for nothing was told
pub untold : (struck : Bool) (its : Option tells.Told) → GoesOn ≡ outcome_of struck its → its ≡ None
untold true its e = cc
untold false None e = refl
untold false (Some said) e = absurd (told_ends said (sym e))

-- where it has ended something was
pub record IsHeard (struck : Bool) (its : Option tells.Told) : Type 0 where
  pub said : tells.Told
  pub was : its ≡ Some said
  pub hears : heard struck its ≡ Some said

pub ended_heard : (struck : Bool) (its : Option tells.Told) (outcome : Outcome) → outcome ≡ outcome_of struck its → HasEnded outcome → IsHeard struck its
ended_heard true its outcome e ended = let none : is_struck_by Struck ≡ false = subst (λ (x : Outcome). is_struck_by x ≡ false) e ended.1 in cc
ended_heard false None outcome e ended = absurd (ended.0 e)
ended_heard false (Some said) outcome e ended = record { said = said; was = refl; hears = refl }

-- ---- what is told is no crash
finished_calm : (its : Option keeper.Finished) → is_struck_by (outcome_of_finished its) ≡ false
finished_calm None = refl
finished_calm (Some its) = refl

turn_calm : (its : Result turns.Turn Fault) → is_struck_by (outcome_of_turn its) ≡ false
turn_calm (Ok turn) = finished_calm turn.finished
turn_calm (Err fault) = refl

told_calm : (said : tells.Told) → is_struck_by (outcome_of_told said) ≡ false
told_calm (told.Session number answer) = refl
told_calm (told.Commit begun) = refl
told_calm (told.Turn its) = turn_calm its

pub outcome_calm : (its : Option tells.Told) → is_struck_by (outcome_of false its) ≡ false
outcome_calm None = refl
outcome_calm (Some said) = told_calm said

-- nobody hears what was told in a beat in which a crash strikes
pub unheard_then : (telling : Telling) (asked : Call) (seats : List SeatState) (n : Now) (struck : Bool) (its : Option tells.Told) → true ≡ is_struck_by (outcome_of struck its) → text_heard telling asked seats n (heard struck its) ≡ []
unheard_then telling asked seats n true its e = refl
unheard_then telling asked seats n false its e = let never : true ≡ false = e ∙ outcome_calm its in cc

-- ---- beat by beat
-- The life has gone on with these events to the world behind a call, the session has been answered, and this is printed.
pub record EndsCall {D : Type 0} (telling : Telling) (number : ℕ) (call : Call) (were : List SeatState) (opening : World) (life : List Event) (after : PlayerState D) (text : List ℕ) : Type 0 where
  pub shows : (run opening life).now ≡ after.world.now
  pub said : tells.Told
  pub answered : IsAnsweredNow number after.world.now said
  pub says : text ≡ text_of telling call were after.world.now said
  pub seats : after.seats ≡ seats_behind call were (Some said)

module _ {D : Type 0} (engine : events.Event → WorldModel D → WorldModel D → Option tells.Told → Bool → Type 0) (rules : GoesByRules engine) (telling : Telling) (number : ℕ) (call : Call) (opening : World) where
  ruled : (at : Stage) (before after : PlayerState D) (outcome : Outcome) (text : List ℕ) → (beat : IsBeat engine telling (Session number call) at before after outcome text)
      → IsRuled (stage_event at number call) before.world.now after.world.now beat.its
  ruled at before after outcome text beat = rules before.sweeps at number call before.world after.world beat.its beat.broken beat.step

  -- the last one
  last_beat : (at : Stage) (life : List Event) (before after : PlayerState D) (outcome : Outcome) (text : List ℕ) → (run opening life).now ≡ before.world.now → HasEnded outcome
      → IsBeat engine telling (Session number call) at before after outcome text → EndsCall telling number call before.seats opening (stage_event at number call ∷ life) after text
  last_beat at life before after outcome text shows ended beat =
      let its = ended_heard (is_struck before.waits beat.broken) beat.its outcome beat.ends ended in
      let step = ruled at before after outcome text beat in
      record {
        shows = led_on at number call opening life before.world.now after.world.now beat.its shows step;
        said = its.said;
        answered = answered_now at number call before.world.now after.world.now its.said (subst (λ (x : Option tells.Told). IsRuled (stage_event at number call) before.world.now after.world.now x) its.was step);
        says = beat.says ∙ ap (text_heard telling call before.seats after.world.now) its.hears;
        seats = beat.seats ∙ ap (seats_behind call before.seats) its.hears;
      }

  -- one behind which the call goes on
  pub record GoesSilently (at : Stage) (life : List Event) (before after : PlayerState D) (text : List ℕ) : Type 0 where
    pub shows : (run opening (stage_event at number call ∷ life)).now ≡ after.world.now
    pub seats : after.seats ≡ before.seats
    pub silent : text ≡ []

  silent_beat : (at : Stage) (life : List Event) (before after : PlayerState D) (text : List ℕ) → (run opening life).now ≡ before.world.now
      → IsBeat engine telling (Session number call) at before after GoesOn text → GoesSilently at life before after text
  silent_beat at life before after text shows beat =
      let none : heard (is_struck before.waits beat.broken) beat.its ≡ None = unheard (is_struck before.waits beat.broken) beat.its beat.ends in
      record {
        shows = led_on at number call opening life before.world.now after.world.now beat.its shows (ruled at before after GoesOn text beat);
        seats = beat.seats ∙ ap (seats_behind call before.seats) none;
        silent = beat.says ∙ ap (text_heard telling call before.seats after.world.now) none;
      }

  one_before : (count : ℕ) (event : Event) (life : List Event) → replicate count event ++ event ∷ life ≡ event ∷ (replicate count event ++ life)
  one_before zero event life = refl
  one_before (suc count) event life = ap (λ (x : List Event). event ∷ x) (one_before count event life)

  -- all of them
  pub beats_end : (at : Stage) (moves : ℕ) (life : List Event) (before after : PlayerState D) (outcome : Outcome) (text : List ℕ) → (run opening life).now ≡ before.world.now → HasEnded outcome
      → InTurn (IsBeat engine telling (Session number call)) GoesOn (at ∷ replicate moves stage.Moves) before after outcome text
      → EndsCall telling number call before.seats opening (replicate moves (Moves number) ++ stage_event at number call ∷ life) after text
  beats_end at zero life before after outcome text shows ended beat = last_beat at life before after outcome text shows ended beat
  beats_end at (suc moves) life before after outcome text shows ended beats =
      let between : PlayerState D = beats.0 in
      let first = silent_beat at life before between beats.1 shows beats.3 in
      let rest = beats_end stage.Moves moves (stage_event at number call ∷ life) between after outcome beats.2 first.shows ended beats.4 in
      record {
        shows = ap (λ (x : List Event). (run opening x).now) (sym (one_before moves (Moves number) (stage_event at number call ∷ life))) ∙ rest.shows;
        said = rest.said;
        answered = rest.answered;
        says = beats.5 ∙ (ap (λ (x : List ℕ). x ++ beats.2) first.silent ∙ (rest.says ∙ ap (λ (x : List SeatState). text_of telling call x after.world.now rest.said) first.seats));
        seats = rest.seats ∙ ap (λ (x : List SeatState). seats_behind call x (Some rest.said)) first.seats;
      }
