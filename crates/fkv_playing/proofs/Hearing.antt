-- Beats in which a call has ended.
use Rattle.std.proofs.Common.{◌≡◌, ℕ, Bool, true, List, Option, Result, Ok, Err, refl, sym, ap, subst, ◌∙◌}
use Rattle.std.specs.Prelude.{IfOk}
use Rattle.fkv_core.specs.Told.{IsAnswerBehind, IsLastAnswer}
use Rattle.fkv_core.specs.Worlds.{WorldModel}
use Rattle.fkv_core.specs.declared.events.Event.{Event}
use Rattle.fkv_core.specs.declared.events.Told.{Told}
use Rattle.fkv_map.specs.declared.operations.Call.{Call}
use Rattle.fkv_playing.specs.Beats.{IsBeat, IsHeard, asked_of, event_of, heard, outcome_of, seats_behind, sweeps_behind}
use Rattle.fkv_playing.specs.InTurn.{Writes}
use Rattle.fkv_playing.specs.Players.{PlayerState, is_struck}
use Rattle.fkv_playing.specs.Seats.{SeatState}
use Rattle.fkv_playing.specs.Texts.{text_heard}
use Rattle.fkv_playing.specs.declared.calls.ActorCall.{ActorCall}
use Rattle.fkv_playing.specs.declared.calls.Outcome.{Outcome}
use Rattle.fkv_playing.specs.declared.calls.Stage.{Stage}
use Rattle.fkv_playing.specs.declared.calls.Telling.{Telling}
use Rattle.fkv_playing.proofs.Silence.{unheard, unheard_of}

-- What is heard behind a step is printed and noted, and nothing else changes.
heard_beat : {D : Type 0} (engine : Event → WorldModel D → WorldModel D → Option Told → Bool → Type 0) (telling : Telling) (call : ActorCall) (stage : Stage)
    (before : PlayerState D) (world : WorldModel D) (its : Option Told) (broken : Bool) (seats : List SeatState) (outcome : Outcome) (text : List ℕ)
    → engine (event_of before.sweeps stage call) before.world world its broken → outcome ≡ outcome_of (is_struck before.waits broken) its
    → text ≡ text_heard telling (asked_of call) before.seats world.now (heard (is_struck before.waits broken) its)
    → seats ≡ seats_behind (asked_of call) before.seats (heard (is_struck before.waits broken) its)
    → IsBeat engine telling call stage before (record (unheard_of before stage call world) { seats = seats }) outcome text
heard_beat engine telling call stage before world its broken seats outcome text step ends says noted = record {
  its = its;
  broken = broken;
  step = step;
  same = refl;
  ends = ends;
  says = says;
  seats = noted;
  history = refl;
  sweeps = refl;
}

-- The same by equations, as the code has them: `failed` tells whether a device has failed for good, `shown` is what the player shows before the beat, and
-- `between` is what the step leaves where nothing is heard.
heard_so : {D : Type 0} (engine : Event → WorldModel D → WorldModel D → Option Told → Bool → Type 0) (failed : D → Bool)
    (telling : Telling) (call : ActorCall) (stage : Stage) (shown before between after : PlayerState D)
    (event : Event) (sweeps : Bool) (asked : Call) (world : WorldModel D) (its : Option Told) (outcome : Outcome) (text : List ℕ)
    → shown ≡ before → event ≡ event_of shown.sweeps stage call → sweeps ≡ sweeps_behind stage call shown.sweeps → asked ≡ asked_of call
    → engine event shown.world world its (failed world.device) → between ≡ unheard shown event sweeps world
    → IsHeard failed telling asked its between after outcome text → IsBeat engine telling call stage before after outcome text
heard_so {D} engine failed telling call stage shown before between after event sweeps asked world its outcome text is_shown begun swept asks step left hears =
    let leaves : between ≡ unheard_of shown stage call world =
    left ∙ ap (λ (its_event : Event). unheard shown its_event sweeps world) begun
    ∙ ap (λ (its_sweeps : Bool). unheard shown (event_of shown.sweeps stage call) its_sweeps world) swept in
    let here : IsHeard failed telling (asked_of call) its (unheard_of shown stage call world) after outcome text =
    subst (λ (its_call : Call). IsHeard failed telling its_call its (unheard_of shown stage call world) after outcome text) asks
    (subst (λ (player : PlayerState D). IsHeard failed telling asked its player after outcome text) leaves hears) in
    let beat : IsBeat engine telling call stage shown (record (unheard_of shown stage call world) { seats = after.seats }) outcome text =
    heard_beat engine telling call stage shown world its (failed world.device) after.seats outcome text
    (subst (λ (its_event : Event). engine its_event shown.world world its (failed world.device)) begun step) here.ends here.says here.seats in
    let ended : IsBeat engine telling call stage shown after outcome text =
    subst (λ (player : PlayerState D). IsBeat engine telling call stage shown player outcome text) (sym here.same) beat in
    subst (λ (player : PlayerState D). IsBeat engine telling call stage player after outcome text) is_shown ended

if_ok_more : {T E : Type 0} (P Q : T → Type 0) (result : Result T E) → ((its : T) → P its → Q its) → IfOk result P → IfOk result Q
if_ok_more P Q (Ok its) more h = more its h
if_ok_more P Q (Err fault) more h = tt

-- A call has ended, and its answer is heard.
pub heard_step : {D E : Type 0} (engine : Event → WorldModel D → WorldModel D → Option Told → Bool → Type 0) (failed : D → Bool)
    (telling : Telling) (call : ActorCall) (stage : Stage) (shown before between after : PlayerState D)
    (event : Event) (sweeps : Bool) (asked : Call) (world : WorldModel D) (has_ended : Bool) (result : Result Outcome E) (a b : Option (List ℕ))
    → shown ≡ before → event ≡ event_of shown.sweeps stage call → sweeps ≡ sweeps_behind stage call shown.sweeps → asked ≡ asked_of call
    → ((told : Option Told) → IsAnswerBehind has_ended event world.now told → engine event shown.world world told (failed world.device)) → has_ended ≡ true
    → between ≡ unheard shown event sweeps world
    → IfOk result (λ outcome. (its : Option Told) × IsLastAnswer event between.world.now its × Writes (IsHeard failed telling asked its between after outcome) a b)
    → IfOk result (λ outcome. Writes (IsBeat engine telling call stage before after outcome) a b)
heard_step {D} engine failed telling call stage shown before between after event sweeps asked world has_ended result a b is_shown begun swept asks steps ends left hears =
    if_ok_more (λ outcome. (its : Option Told) × IsLastAnswer event between.world.now its × Writes (IsHeard failed telling asked its between after outcome) a b)
    (λ outcome. Writes (IsBeat engine telling call stage before after outcome) a b) result
    (λ outcome given.
    let told : Option Told = given.0 in
    let last : IsLastAnswer event world.now told = subst (λ (player : PlayerState D). IsLastAnswer event player.world.now told) left given.1 in
    let tells : IsAnswerBehind has_ended event world.now told = subst (λ (ended : Bool). IsAnswerBehind ended event world.now told) (sym ends) last in (
      given.2.0,
      heard_so engine failed telling call stage shown before between after event sweeps asked world told outcome given.2.0 is_shown begun swept asks (steps told tells) left given.2.1,
      given.2.2,
    )) hears
