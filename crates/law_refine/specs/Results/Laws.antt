-- What the law of `results` says.
use Rattle.std.specs.Prelude.{◌≡◌, ◌+◌, ℕ, List, Some, false, slice_get}
use Rattle.fkv_map.specs.declared.operations.Op.{Op}
use Rattle.law_log.specs.Trace.{GivesResult, IsIn}
use Rattle.law_world.specs.Below.fkv_session.Told.{Told}
use Rattle.law_world.specs.Below.fkv_session.Sitting.TheVariants.{Idle}
use Rattle.law_world.specs.Below.fkv_session.Sessions.{SessionState, is_busy}
use Rattle.law_world.specs.Below.fkv_world.Opened.{IsOpenedWorld}
use Rattle.law_world.specs.Below.fkv_world.Past.{Effect}
use Rattle.law_world.specs.Below.fkv_world.Runs.{World, run}
use Rattle.law_world.specs.Below.fkv_world.World.{Event}
use Rattle.law_refine.specs.Calls.Calls.{lines_of_life}
use Rattle.law_refine.specs.Results.Results.{IsResult, NobodyCalls, StaysOrTakes, history_at, in_call}

-- in a call of a session that moves alone its operation takes effect once, or nothing does
abbrev pub CallsTakeOneEffect : Type 0
CallsTakeOneEffect =
    (opening : World) (before : List Event) (number moves : ℕ) (op : Op) (s : SessionState) → IsOpenedWorld opening → (run opening before).now.crashed ≡ false
    → slice_get (run opening before).now.sessions number ≡ Some s → is_busy s.step ≡ false
    → StaysOrTakes number op (s.serial + 1) (history_at opening before) (history_at opening (in_call number moves op before))

-- the update has taken effect where it is told as done, with the reply that is told
abbrev pub ResultsAreOfTheEffect : Type 0
ResultsAreOfTheEffect =
    (opening : World) (before : List Event) (number moves : ℕ) (op : Op) (s its : SessionState) (answer : Told) → IsOpenedWorld opening → (run opening before).now.crashed ≡ false
    → slice_get (run opening before).now.sessions number ≡ Some s → is_busy s.step ≡ false
    → slice_get (run opening (in_call number moves op before)).now.sessions number ≡ Some its → its.step ≡ Idle answer
    → IsResult number op (s.serial + 1) (history_at opening before) (history_at opening (in_call number moves op before)) answer

-- once a session has no call in hand, its updates that took effect have their results
abbrev pub ResultsAreGivenAtRest : Type 0
ResultsAreGivenAtRest =
    (opening : World) (events : List Event) (number : ℕ) (s : SessionState) (its : Effect) → IsOpenedWorld opening
    → slice_get (run opening events).now.sessions number ≡ Some s → is_busy s.step ≡ false
    → IsIn its (history_at opening events) → its.entry.session ≡ number
    → IsIn (GivesResult number its.entry.serial.0 its.entry.reply) (lines_of_life opening events)

-- and once no session has one, so has each update
abbrev pub AllResultsAreGivenAtRest : Type 0
AllResultsAreGivenAtRest =
    (opening : World) (events : List Event) (its : Effect) → IsOpenedWorld opening → NobodyCalls (run opening events).now → IsIn its (history_at opening events)
    → IsIn (GivesResult its.entry.session its.entry.serial.0 its.entry.reply) (lines_of_life opening events)
