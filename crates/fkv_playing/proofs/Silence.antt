-- Beats in which nothing is heard.
use Rattle.std.proofs.Common.{◌≡◌, Bool, [], ◌++◌, Option, None, refl, sym, ap, subst, ◌∙◌}
use Rattle.fkv_core.specs.Worlds.{WorldModel}
use Rattle.fkv_core.specs.declared.events.Event.{Event}
use Rattle.fkv_core.specs.declared.events.Told.{Told}
use Rattle.fkv_playing.specs.Beats.{IsBeat, asked_of, effects_behind, event_of, heard, outcome_of, seats_behind, sweeps_behind}
use Rattle.fkv_playing.specs.Players.{PlayerState, is_struck}
use Rattle.fkv_playing.specs.Texts.{text_heard}
use Rattle.fkv_playing.specs.declared.calls.ActorCall.{ActorCall}
use Rattle.fkv_playing.specs.declared.calls.Outcome.{Outcome}
use Rattle.fkv_playing.specs.declared.calls.Stage.{Stage}
use Rattle.fkv_playing.specs.declared.calls.Telling.{Telling}

-- what a step leaves in which nothing is heard
abbrev pub unheard : {D : Type 0} → PlayerState D → Event → Bool → WorldModel D → PlayerState D
unheard before event sweeps world =
    record before { world = world; history = before.history ++ effects_behind before.keeps_history event world.now; sweeps = sweeps }

-- and what one of this call at its stage leaves
abbrev pub unheard_of : {D : Type 0} → PlayerState D → Stage → ActorCall → WorldModel D → PlayerState D
unheard_of before stage call world = unheard before (event_of before.sweeps stage call) (sweeps_behind stage call before.sweeps) world

-- Where nothing is heard of what a step told, nothing is printed, and the seats stay as they were.
pub silent_beat : {D : Type 0} (engine : Event → WorldModel D → WorldModel D → Option Told → Bool → Type 0)
    (telling : Telling) (call : ActorCall) (stage : Stage) (before : PlayerState D) (world : WorldModel D) (its : Option Told) (broken : Bool)
    → engine (event_of before.sweeps stage call) before.world world its broken → heard (is_struck before.waits broken) its ≡ None
    → IsBeat engine telling call stage before (unheard_of before stage call world) (outcome_of (is_struck before.waits broken) its) []
silent_beat engine telling call stage before world its broken step silent = record {
  its = its;
  broken = broken;
  step = step;
  same = refl;
  ends = refl;
  says = ap (text_heard telling (asked_of call) before.seats world.now) (sym silent);
  seats = ap (seats_behind (asked_of call) before.seats) (sym silent);
  history = refl;
  sweeps = refl;
}

-- The same by equations, as the code has them: `failed` tells whether a device has failed for good, and `shown` is what the player shows before the beat.
pub silent_step : {D : Type 0} (engine : Event → WorldModel D → WorldModel D → Option Told → Bool → Type 0) (failed : D → Bool)
    (telling : Telling) (call : ActorCall) (stage : Stage) (shown before after : PlayerState D)
    (event : Event) (sweeps : Bool) (world : WorldModel D) (its : Option Told) (struck : Bool) (outcome : Outcome)
    → shown ≡ before → event ≡ event_of shown.sweeps stage call → sweeps ≡ sweeps_behind stage call shown.sweeps
    → engine event shown.world world its (failed world.device) → after ≡ unheard shown event sweeps world
    → struck ≡ is_struck after.waits (failed after.world.device) → outcome ≡ outcome_of struck its → heard struck its ≡ None
    → IsBeat engine telling call stage before after outcome []
silent_step {D} engine failed telling call stage shown before after event sweeps world its struck outcome is_shown begun swept step left strikes ends silent =
    let broken : Bool = failed world.device in
    let strikes_here : struck ≡ is_struck shown.waits broken =
    subst (λ (player : PlayerState D). struck ≡ is_struck player.waits (failed player.world.device)) left strikes in
    let leaves : after ≡ unheard_of shown stage call world =
    left ∙ ap (λ (its_event : Event). unheard shown its_event sweeps world) begun
    ∙ ap (λ (its_sweeps : Bool). unheard shown (event_of shown.sweeps stage call) its_sweeps world) swept in
    let comes_out : outcome ≡ outcome_of (is_struck shown.waits broken) its = ends ∙ ap (λ (strike : Bool). outcome_of strike its) strikes_here in
    let beat : IsBeat engine telling call stage shown (unheard_of shown stage call world) (outcome_of (is_struck shown.waits broken) its) [] =
    silent_beat engine telling call stage shown world its broken
    (subst (λ (its_event : Event). engine its_event shown.world world its broken) begun step)
    (subst (λ (strike : Bool). heard strike its ≡ None) strikes_here silent) in
    let ended : IsBeat engine telling call stage shown (unheard_of shown stage call world) outcome [] =
    subst (λ (its_outcome : Outcome). IsBeat engine telling call stage shown (unheard_of shown stage call world) its_outcome []) (sym comes_out) beat in
    let here : IsBeat engine telling call stage shown after outcome [] =
    subst (λ (player : PlayerState D). IsBeat engine telling call stage shown player outcome []) (sym leaves) ended in
    subst (λ (player : PlayerState D). IsBeat engine telling call stage player after outcome []) is_shown here
