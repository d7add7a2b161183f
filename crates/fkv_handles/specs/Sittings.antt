-- The calls of a session that a handle holds.
use Rattle.std.specs.Prelude.{◌≡◌, ⊤, List, [], Option, None, Some, Result, Ok, Err}
use Rattle.fkv_base.specs.declared.faults.Fault.{Fault}
use Rattle.fkv_base.specs.declared.faults.Fault.TheVariants.{NoSession}
use Rattle.fkv_base.specs.declared.numbers.Serial.{Serial}
use Rattle.fkv_map.specs.declared.operations.Call.{Call}
use Rattle.fkv_session.specs.Answers.{IsAnswerTold}
use Rattle.fkv_session.specs.declared.answers.Answer.{Answer}
use Rattle.fkv_session.specs.declared.answers.Answer.TheVariants.{Refused}
use Rattle.fkv_session.specs.declared.answers.Finished.{Finished}
use Rattle.fkv_session.specs.declared.answers.Told.{Told}
use Rattle.fkv_threads.specs.Below.fkv_world.Runs.{World}
use Rattle.fkv_threads.specs.Below.fkv_table.Calls.{IsLastGiven}
use Rattle.fkv_threads.specs.Calling.{IsCallOf}
use Rattle.fkv_threads.specs.Meetings.{AreOfOneTable, IsMeetingOf}
use Rattle.fkv_threads.specs.Models.{Sitting}

-- what the session's last poll has finished: a handle that was ended has none
abbrev pub finished_in : {K : Type 0} → Option (Sitting K) → List Finished
finished_in (Some s) = s.finished
finished_in None = []

-- two that are in use are of one table, and are two
abbrev pub AreOfOneStore : {K : Type 0} → Option (Sitting K) → Option (Sitting K) → Type 0
AreOfOneStore (Some one) (Some other) = AreOfOneTable one other
AreOfOneStore one other = ⊤

module _ {K : Type 0} (at : K → World) where
  -- Two handles meet. If one was ended, `NoSession` is answered, and both stay as they are.
  abbrev pub HaveMet : Option (Sitting K) → Option (Sitting K) → Result (Unit {0}) Fault → Option (Sitting K) → Option (Sitting K) → Type 0
  HaveMet (Some one) (Some other) (Ok its) (Some one') (Some other') = IsMeetingOf at one other one' other'
  HaveMet (Some one) (Some other) result one' other' = ⊥
  HaveMet one other result one' other' = (result ≡ Err NoSession) × (one' ≡ one) × (other' ≡ other)

  -- The last serial that the session has given. A handle that was ended answers `NoSession`.
  abbrev pub IsLastSerial : Option (Sitting K) → Result Serial Fault → Type 0
  IsLastSerial (Some s) (Ok serial) = IsLastGiven at s.key s.seen s.number serial.0
  IsLastSerial (Some s) (Err why) = ⊥
  IsLastSerial None (Err why) = why ≡ NoSession
  IsLastSerial None (Ok serial) = ⊥

  -- A handle's call. One that was ended answers `NoSession`, and stays so.
  abbrev pub IsCalled : Option (Sitting K) → Call → Answer → Option (Sitting K) → Type 0
  IsCalled (Some s) call answer (Some s') = IsCallOf at s call answer s'
  IsCalled (Some s) call answer None = ⊥
  IsCalled None call answer None = answer ≡ Refused NoSession
  IsCalled None call answer (Some s') = ⊥

  -- A handle's call, and what it was told. The answer to the call is the one that says so.
  abbrev pub IsToldCall : Option (Sitting K) → Call → Told → Option (Sitting K) → Type 0
  IsToldCall s call told s' = (answer : Answer) → IsAnswerTold told (finished_in s') answer → IsCalled s call answer s'
