-- What the thread law says of a call that was run.
use Rattle.std.proofs.Common.{◌≡◌, ℕ, List, refl, subst}
use Rattle.atomic_table.specs.Seated.{TableId}
use Rattle.atomic_table.specs.Table.{Me}
use Rattle.fkv_map.specs.declared.operations.Call.{Call}
use Rattle.fkv_opening.specs.declared.opened_store.Opened.{Opened}
use Rattle.fkv_session.specs.Answers.{IsAnswerTold}
use Rattle.fkv_session.specs.declared.answers.Answer.{Answer}
use Rattle.fkv_session.specs.declared.answers.Finished.{Finished}
use Rattle.fkv_session.specs.declared.answers.Told.{Told}
use Rattle.fkv_session.specs.SessionRun.{telling}
use Rattle.fkv_session.specs.Sessions.{Sitter}
use Rattle.law_threads.specs.Below.fkv_world.Runs.{World}
use Rattle.law_threads.specs.Below.fkv_world.World.{Event, Now}
use Rattle.fkv_seats.specs.Rule.{led}
use Rattle.law_threads.specs.Below.fkv_table.Calls.{HasCalled, IsAnsweredLast, IsReady, IsToldLast}
use Rattle.law_threads.specs.Below.fkv_table.Desks.{Knows, Slot}
use Rattle.law_threads.specs.Below.fkv_table.Happening.{Happening}
use Rattle.law_threads.specs.Below.fkv_table.Planes.{plane}
use Rattle.law_threads.specs.Calls.{CallRun, HasRun, OfEachRun}
use Rattle.law_threads.specs.Durable.{ItsDurableNeverFalls, RecoversItsDurable, TellsItsDurable}
use Rattle.law_threads.specs.Laws.{IsThreadLaw, IsWithin}
use Rattle.fkv_threads.specs.Calling.{IsToldCallOf}
use Rattle.fkv_threads.specs.Models.{Sitting, sitting_of}
use Rattle.fkv_threads.specs.Runs.{IsLawful, OfThisRun, run_of}

module _ {K : Type 0} (at : K → World) where
  of_this : (key : K) (its : CallRun) (If : Opened → Now → List ℕ → List Event → Type 0) (P : Opened → Now → List ℕ → CallRun → Type 0) → HasRun at key its → OfEachRun at If P → OfThisRun at key its If P
  of_this key its If P has law = λ o n bytes over holds. law key o n bytes its over has holds

  lawful : (key : K) (its : CallRun) (If : Opened → Now → List ℕ → List Event → Type 0) → HasRun at key its → IsThreadLaw at If → IsLawful at key its If
  lawful key its If has law = record {
    done = λ o n bytes over holds. law.done key o n bytes its over has holds;
    reads = λ o n bytes over holds. law.reads key o n bytes its over has holds;
    finished = λ o n bytes over holds. law.finished key o n bytes its over has holds;
    polled = λ o n bytes asked over ran holds few k value polls. law.polled key o n bytes asked its over ran has holds few k value polls;
    history = λ o n bytes over holds. law.history key o n bytes its over has holds;
  }

  -- what it was told is the session's newest answer, by each answer that says so
  told_to : (key : K) (behind : List Happening) (number number' : ℕ) (told : Told) (finished : List Finished) (answer : Answer) → number' ≡ number → IsToldLast (led (plane at) (at key) behind) number' (telling told finished)
      → IsAnswerTold told finished answer → IsAnsweredLast (led (plane at) (at key) behind) number answer
  told_to key behind number number' told finished answer same last says =
      record { its = told; finished = finished; last = subst (λ (it : ℕ). IsToldLast (led (plane at) (at key) behind) it (telling told finished)) same last; told = says }

  -- A session that was ready has run this call, was told this, and is ready again. So the thread law speaks of it.
  pub told_call : (key : K) (table seat seat' : TableId) (me me' : Me Slot (Knows K)) (m m' : Sitter) (desk desk' : ℕ) (call : Call) (told : Told) → IsReady at key table seat me m desk → IsReady at key table seat' me' m' desk'
      → m'.seat.number ≡ m.seat.number → HasCalled m.seat.number call me.0.seen me'.0.seen → IsToldLast (led (plane at) (at key) me'.0.seen) m'.seat.number (telling told m'.state.finished)
      → IsThreadLaw at IsWithin → OfEachRun at IsWithin TellsItsDurable → OfEachRun at IsWithin ItsDurableNeverFalls → OfEachRun at IsWithin (RecoversItsDurable at)
      → IsToldCallOf at (sitting_of key table m me) call told (sitting_of key table m' me')
  told_call key table seat seat' me me' m m' desk desk' call told ready ready' same called last law durable never_falls recovered =
      λ answer says.
      let its = run_of m.seat.number call answer me.0.seen me'.0.seen in
      let ran : HasRun at key its = record {
        table = table;
        seat = seat;
        me = me;
        machine = m;
        desk = desk;
        ready = ready;
        number = refl;
        seen = refl;
        called = called;
        answered = told_to key me'.0.seen m.seat.number m'.seat.number told m'.state.finished answer same last says;
        allowed = ready'.rests.seated.allowed;
      } in
      record {
        number = same;
        key = refl;
        table = refl;
        sits = record { pass = seat'; me = me'; machine = m'; desk = desk'; ready = ready'; number = refl; seen = refl; finished = refl };
        called = ran;
        in_lives = lawful key its IsWithin ran law;
        durable = of_this key its IsWithin TellsItsDurable ran durable;
        never_falls = of_this key its IsWithin ItsDurableNeverFalls ran never_falls;
        recovered = of_this key its IsWithin (RecoversItsDurable at) ran recovered;
      }

  -- so it is under other names of the same table
  pub told_there : (key key' : K) (table table' : TableId) (me me' : Me Slot (Knows K)) (m m' : Sitter) (call : Call) (told : Told) (s : Sitting K) → key ≡ key' → table ≡ table' → sitting_of key' table' m me ≡ s
      → IsToldCallOf at (sitting_of key table m me) call told (sitting_of key table m' me') → IsToldCallOf at s call told (sitting_of key' table' m' me')
  told_there key key' table table' me me' m m' call told s same_key same_table is its =
      subst (λ (z : Sitting K). IsToldCallOf at z call told (sitting_of key' table' m' me')) is
      (subst (λ (z : K × TableId). IsToldCallOf at (sitting_of z.0 z.1 m me) call told (sitting_of z.0 z.1 m' me')) (λ i. (same_key i, same_table i)) its)
