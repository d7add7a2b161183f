-- What the laws of `whole_calls` say.
use Rattle.std.specs.Prelude.{◌≡◌, ℕ, List, Some, false, slice_get}
use Rattle.law_order.specs.Below.fkv_core.Openings.{IsOpeningWorld, beginning}
use Rattle.fkv_map.specs.declared.operations.Op.{Op}
use Rattle.law_order.specs.Below.fkv_opening.TheOpened.{Opened}
use Rattle.law_order.specs.Rules.Ordered.{HasLegalHistory, OrdersItsCalls, ReadsFreshly}
use Rattle.law_order.specs.Below.fkv_session.Told.{Told}
use Rattle.law_order.specs.Below.fkv_session.Sitting.TheVariants.{Idle}
use Rattle.law_order.specs.Below.fkv_session.Sessions.{SessionState}
use Rattle.law_order.specs.Below.fkv_world.Runs.{run}
use Rattle.law_order.specs.Below.fkv_world.World.{Event, Now}
use Rattle.law_order.specs.Below.law_refine.Results.Results.{NobodyCalls, in_call}
use Rattle.law_program.specs.WholeCalls.WholeCalls.{AreGivenSoFar, HappensAlone, IsAnsweredByMap, IsToldAlone}

-- what happens alone is answered by the map
abbrev pub AnswersAlone : Type 0
AnswersAlone =
    (bytes : List ℕ) (o : Opened) (n : Now) (before events : List Event) (op : Op) (its : Told) → HasLegalHistory o n bytes events → OrdersItsCalls o n bytes events → ReadsFreshly o n bytes events
    → AreGivenSoFar n bytes before → HappensAlone n bytes before events op its → IsToldAlone n bytes before events op its → IsAnsweredByMap o n bytes before events op its

-- so is a call whose session alone moves until it is answered
abbrev pub AnswersWholeCalls : Type 0
AnswersWholeCalls =
    (bytes : List ℕ) (o : Opened) (n : Now) (before : List Event) (number moves : ℕ) (op : Op) (s its : SessionState) (answer : Told) → IsOpeningWorld o n
    → HasLegalHistory o n bytes (in_call number moves op before) → OrdersItsCalls o n bytes (in_call number moves op before) → ReadsFreshly o n bytes (in_call number moves op before)
    → NobodyCalls (run (beginning n bytes) before).now → (run (beginning n bytes) before).now.crashed ≡ false → slice_get (run (beginning n bytes) before).now.sessions number ≡ Some s
    → slice_get (run (beginning n bytes) (in_call number moves op before)).now.sessions number ≡ Some its → its.step ≡ Idle answer
    → IsAnsweredByMap o n bytes before (in_call number moves op before) op answer
