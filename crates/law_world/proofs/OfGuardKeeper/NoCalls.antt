-- Events that make no call of the device.
use Rattle.std.proofs.Common.{◌≡◌, ◌∙◌, refl, ap, List, [], ◌∷◌, ◌++◌, Bool, true, false}
use Rattle.std.specs.Prelude.{⊤, if◌then◌else◌}
use Rattle.fkv_disk.specs.Calls.{Call}
use Rattle.fkv_flush.specs.GuardFlushed.{calls_made, event_calls}
use Rattle.fkv_flush.specs.GuardWorld.{GuardNow, GuardWorld, GuardEvent, Calls, CallsElse, guard_run}

abbrev pub MakesNone : GuardEvent → Type 0
MakesNone (Calls actor done) = ⊥
MakesNone (CallsElse call) = ⊥
MakesNone event = ⊤

abbrev pub MakeNone : List GuardEvent → Type 0
MakeNone [] = ⊤
MakeNone (event ∷ before) = MakesNone event × MakeNone before

event_none : (n : GuardNow) (event : GuardEvent) → MakesNone event → event_calls n event ≡ []
event_none n (Calls actor done) none = absurd none
event_none n (CallsElse call) none = absurd none
event_none n event none = refl

pub none_made : (w : GuardWorld) (events : List GuardEvent) → MakeNone events → calls_made w events ≡ []
unfolding calls_made
none_made w [] none = refl
none_made w (event ∷ before) none =
    ap (λ (calls : List Call). calls ++ calls_made w before) (event_none (guard_run w before).now event none.0) ∙ none_made w before none.1

pub none_by_test : (b : Bool) (events others : List GuardEvent) → MakeNone events → MakeNone others → MakeNone (if b then events else others)
none_by_test true events others s t = s
none_by_test false events others s t = t
