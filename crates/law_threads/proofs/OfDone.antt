-- An update that is done has taken effect by what its pass has seen.
use Rattle.std.proofs.Common.{◌≡◌, ℕ, suc, ◌+◌, ◌∙◌, refl, sym, ap, subst, inl, arith, Bool, true, List, [], ◌∷◌, ◌++◌, length}
use Rattle.std.specs.Prelude.{Option, Some, None, cond, ◌&&◌, nat_eq, slice_get, if◌then◌else◌}
use Rattle.std.proofs.lemmas.Bool.Decides.{nat_tests}
use Rattle.fkv_base.specs.declared.numbers.Serial.{Serial}
use Rattle.law_order.specs.Below.fkv_core.Openings.{beginning}
use Rattle.fkv_map.specs.declared.operations.Call.{Call}
use Rattle.fkv_map.specs.declared.operations.Call.TheVariants as call
use Rattle.fkv_map.specs.declared.operations.Op.{Op}
use Rattle.fkv_map.specs.declared.operations.Op.TheVariants.{Read}
use Rattle.fkv_map.specs.declared.operations.Reply.{Reply}
use Rattle.law_order.specs.Below.fkv_opening.TheOpened.{Opened}
use Rattle.law_order.specs.Below.fkv_session.Answer.TheVariants as answer
use Rattle.law_order.specs.Below.fkv_session.Told.{Told}
use Rattle.law_order.specs.Below.fkv_session.Told.TheVariants as told
use Rattle.law_order.specs.Below.fkv_session.Accounts.{AreInTurn, serials_after, serials_given}
use Rattle.law_order.specs.Below.fkv_session.SessionRun.{Telling, telling}
use Rattle.law_order.specs.Below.fkv_session.Sessions.{SessionState}
use Rattle.law_order.specs.Below.fkv_world.Opened.{HasBecome, IsOpenedWorld, answer_to, answers_of, life_told}
use Rattle.law_order.specs.Below.fkv_world.Past.{Traced, TraceEvent, Called, Answered}
use Rattle.law_order.specs.Below.fkv_world.Runs.{World, run}
use Rattle.law_order.specs.Below.fkv_world.World.{Event, Now}
use Rattle.law_log.specs.Trace.{GivesResult, HasReply, IsIn, OrdersCalls, called_as}
use Rattle.law_order.specs.Below.law_refine.Calls.Calls.{effects_of_life, lines_of_life}
use Rattle.law_order.specs.Below.law_refine.Events.GhostEvents.{serial_in, serials_in}
use Rattle.law_order.specs.Below.law_refine.Events.Lines.{lines_of, newest_serial, next_serial}
use Rattle.law_order.proofs.Below.law_refine.OfCalls.Called as ledgers
use Rattle.law_order.proofs.Below.law_refine.OfCalls.Called.{ledger_of, other_told}
use Rattle.law_order.proofs.Below.law_refine.OfCalls.InHand.{WasOpened, was_opened}
use Rattle.law_order.proofs.Below.law_refine.OfCalls.Life.{idle_calm, life_stood, next_at, told_so}
use Rattle.law_order.specs.Rules.Ordered.{OrdersItsCalls}
use Rattle.law_order.proofs.Below.law_refine.OfCalls.Called.{is_other}
use Rattle.fkv_table.specs.declared.happenings.Happening.{Happening}
use Rattle.fkv_table.proofs.Lives.{led_run}
use Rattle.law_threads.specs.Calls.{CallRun, HasRun, IsOver, events_of}
use Rattle.law_threads.specs.Threads.{DoneIsSeen}
use Rattle.law_threads.proofs.Course.{OfOthers, seen_answered, seen_called}
use Rattle.law_threads.proofs.OfRuns.{IsToldIn, earlier, first, idle, is_told, same_number, same_told, since_call, told_with, was}

-- serials are given one after another
abbrev pub GivesSerialsInTurn : Type 0
GivesSerialsInTurn = (opening : World) (events : List Event) (session : ℕ) (first its : SessionState) → HasBecome opening events session first its → AreInTurn first.serial its.serial (life_told opening events session first)

-- ---- its serial
head_of : (x y : ℕ) (xs ys : List ℕ) → x ∷ xs ≡ y ∷ ys → x ≡ y
head_of x y xs ys e = cc

tail_of : (x y : ℕ) (xs ys : List ℕ) → x ∷ xs ≡ y ∷ ys → xs ≡ ys
tail_of x y xs ys e = cc

serial_next : (start serial : ℕ) (before : List ℕ) → serial ∷ before ≡ serials_after start (length (serial ∷ before)) → serial ≡ newest_serial start before + 1
serial_next start serial [] e = head_of serial (start + 1) [] [] e
serial_next start serial (x ∷ xs) e =
    let last : serial ≡ start + suc (suc (length xs)) = head_of serial _ (x ∷ xs) _ e in
    let one : x ≡ start + suc (length xs) = head_of x _ xs _ (tail_of serial _ (x ∷ xs) _ e) in
    omega (arith, last, one)

other_answer : (number : ℕ) (event : TraceEvent) (rest : List Telling) → is_other number event → answer_to number event rest ≡ rest
other_answer number (Answered session its) rest other = rw other refl
other_answer number event rest other = refl

answers_kept : (number : ℕ) (since before : List Traced) → OfOthers number since → answers_of number (since ++ before) ≡ answers_of number before
answers_kept number [] before others = refl
answers_kept number (it ∷ since) before others = other_answer number it.its _ others.0 ∙ answers_kept number since before others.1

-- ---- its operation
same_other : (number : ℕ) (event : TraceEvent) → is_other number event → ledgers.is_other number event
same_other number (Called session its) other = other
same_other number (Answered session its) other = other
same_other number event other = tt

called_kept : (numbers : ℕ → ℕ) (number serial : ℕ) (since before : List Traced) → OfOthers number since → called_as (lines_of numbers (since ++ before)) number serial ≡ called_as (lines_of numbers before) number serial
called_kept numbers number serial [] before others = refl
called_kept numbers number serial (it ∷ since) before others =
    ap (λ (l : _). l.updates serial) (other_told numbers number it (since ++ before) (same_other number it.its others.0)) ∙ called_kept numbers number serial since before others.1

same_op : (o p : Op) → ◌≡◌ {A = Option Op} (Some o) (Some p) → o ≡ p
same_op o p e = cc

none_op : (p : Op) → ◌≡◌ {A = Option Op} None (Some p) → ⊥
none_op p e = cc

own_name : (number serial next : ℕ) → next ≡ serial → (nat_eq number number && nat_eq next serial) ≡ true
own_name number serial next e = grind (arith, nat_tests, e)

its_op : (numbers : ℕ → ℕ) (number serial effects : ℕ) (its : Call) (before : List Traced) (op : Op) → next_serial numbers number before ≡ serial → called_as (lines_of numbers before) number serial ≡ None
    → called_as (lines_of numbers (seen_called effects number its before)) number serial ≡ Some op → its ≡ call.Op op
unfolding lines_of
its_op numbers number serial effects (call.Op (Read key)) before op next none called = absurd (none_op op (sym none ∙ called))
its_op numbers number serial effects (call.Op o) before op next none called =
    ap (λ (x : Op). call.Op x) (same_op o op (ap (λ (b : Bool). cond b (Some o) (called_as (lines_of numbers before) number serial)) (sym (own_name number serial (next_serial numbers number before) next)) ∙ called))
its_op numbers number serial effects its before op next none called = absurd (none_op op (sym none ∙ called))

pub record Taken (its : CallRun) (serial : Serial) (reply : Reply) (w : World) (events : List Event) : Type 0 where
  pub update : HasReply (effects_of_life w events) its.number serial.0 reply
  pub called : (let u = update in its.call ≡ call.Op u.update.effect.entry.op)

module _ (in_turn : GivesSerialsInTurn) {K : Type 0} (at : K → World) (key : K) (its : CallRun) (run_so : HasRun at key its) (serial : Serial) (reply : Reply) (given : its.answer ≡ answer.Done serial reply) where
  abbrev number : ℕ
  number = its.number

  abbrev before : List Event
  before = events_of (earlier at key its run_so)

  abbrev behind : List Event
  behind = events_of (since_call at key its run_so)

  abbrev trace_at : List Event → List Traced
  trace_at events = (run (at key) events).past.trace

  abbrev numbers : ℕ → ℕ
  numbers = serials_in (at key).now

  abbrev its_telling : IsToldIn at (at key) number its.call (earlier at key its run_so) (since_call at key its run_so) (told.Done serial reply) run_so.answered.finished
  its_telling = subst (λ (x : Told). IsToldIn at (at key) number its.call (earlier at key its run_so) (since_call at key its run_so) x run_so.answered.finished) (same_told run_so.answered.its run_so.answered.finished its.answer run_so.answered.told ∙ ap told_with given) (is_told at key its run_so)

  so : trace_at behind ≡ seen_answered its_telling.effects number (told.Done serial reply) its_telling.finished (its_telling.more ++ seen_called its_telling.began number its.call (trace_at before))
  so = sym (ap (λ (w : World). w.past.trace) (led_run at (at key) (since_call at key its run_so)))
      ∙ (its_telling.so ∙ ap (λ (w : World). seen_answered its_telling.effects number (told.Done serial reply) its_telling.finished (its_telling.more ++ seen_called its_telling.began number its.call w.past.trace)) (led_run at (at key) (earlier at key its run_so)))

  opened : IsOpenedWorld (at key)
  opened = run_so.ready.opened.opening.opened

  was_there : WasOpened (at key) before number (first at key its run_so)
  was_there = was_opened (at key) before number (first at key its run_so) opened (ap (λ (w : World). slice_get w.now.sessions number) (sym (led_run at (at key) (earlier at key its run_so))) ∙ was at key its run_so)

  became : HasBecome (at key) behind number was_there.first its_telling.s
  became = record { opened = opened; was = was_there.became.was; is_now = ap (λ (w : World). slice_get w.now.sessions number) (sym (led_run at (at key) (since_call at key its run_so))) ∙ its_telling.found }

  -- the serial is the next one
  answers_now : serials_given (answers_of number (trace_at behind)) ≡ serial.0 ∷ serials_given (answers_of number (trace_at before))
  answers_now =
      ap (λ (x : List Traced). serials_given (answers_of number x)) so
      ∙ (ap (λ (b : Bool). serials_given (if b then telling (told.Done serial reply) its_telling.finished ∷ answers_of number (its_telling.more ++ seen_called its_telling.began number its.call (trace_at before)) else answers_of number (its_telling.more ++ seen_called its_telling.began number its.call (trace_at before)))) (same_number number)
      ∙ ap (λ (x : List Telling). serial.0 ∷ serials_given x) (answers_kept number its_telling.more (seen_called its_telling.began number its.call (trace_at before)) its_telling.others))

  next : next_serial numbers number (trace_at before) ≡ serial.0
  next =
      let given_all : List ℕ = serials_given (answers_of number (trace_at before)) in
      let turn : AreInTurn was_there.first.serial its_telling.s.serial (answers_of number (trace_at behind)) =
      subst (AreInTurn was_there.first.serial its_telling.s.serial) (told_so (at key) behind number was_there.first its_telling.s became its_telling.idle) (in_turn (at key) behind number was_there.first its_telling.s became) in
      let is : serial.0 ∷ given_all ≡ serials_after was_there.first.serial (length (serial.0 ∷ given_all)) = sym answers_now ∙ (turn.in_turn ∙ ap (λ (x : List ℕ). serials_after was_there.first.serial (length x)) answers_now) in
      let begun : numbers number ≡ was_there.first.serial = ap serial_in was_there.became.was in
      ap (λ (x : ℕ). newest_serial x given_all + 1) begun ∙ sym (serial_next was_there.first.serial serial.0 given_all is)

  -- and had not been called before
  none_before : called_as (lines_of numbers (trace_at before)) number serial.0 ≡ None
  none_before =
      let s : SessionState = first at key its run_so in
      let is : s.serial + 1 ≡ serial.0 = sym (next_at (at key) before number was_there.first s was_there.became (idle at key its run_so)) ∙ next in
      ap (λ (n : ℕ). called_as (lines_of numbers (trace_at before)) number n) (sym is)
      ∙ (idle_calm (ledger_of numbers number (trace_at before)) s s.step (idle at key its run_so) (life_stood (at key) before number was_there.first s was_there.became)).none

  module _ (orders : OrdersCalls (effects_of_life (at key) behind) (lines_of_life (at key) behind)) where
    gives : IsIn (GivesResult number serial.0 reply) (lines_of_life (at key) behind)
    unfolding lines_of
    gives = subst (λ (x : List Traced). IsIn (GivesResult number serial.0 reply) (lines_of numbers x)) (sym so) (inl refl)

    update : HasReply (effects_of_life (at key) behind) number serial.0 reply
    update = orders.given number serial.0 reply gives

    called_now : called_as (lines_of_life (at key) behind) number serial.0 ≡ called_as (lines_of numbers (seen_called its_telling.began number its.call (trace_at before))) number serial.0
    unfolding lines_of
    called_now =
        ap (λ (x : List Traced). called_as (lines_of numbers x) number serial.0) so
        ∙ called_kept numbers number serial.0 its_telling.more (seen_called its_telling.began number its.call (trace_at before)) its_telling.others

    pub taken : Taken its serial reply (at key) behind
    taken =
        let effect = update.update.effect in
        let named : called_as (lines_of_life (at key) behind) number serial.0 ≡ Some effect.entry.op =
        (λ i. called_as (lines_of_life (at key) behind) (sym update.update.its_session i) (sym update.update.its_serial i)) ∙ orders.called effect update.update.is_in in
        record { update = update; called = its_op numbers number serial.0 its_telling.began its.call (trace_at before) effect.entry.op next none_before (sym called_now ∙ named) }

pub done_so : GivesSerialsInTurn → {K : Type 0} (at : K → World) (key : K) (o : Opened) (n : Now) (bytes : List ℕ) (its : CallRun) → IsOver at key o n bytes → HasRun at key its → OrdersItsCalls o n bytes (events_of its.behind) → DoneIsSeen o n bytes its
done_so in_turn at key o n bytes its over run_so law serial reply given =
    let there : OrdersCalls (effects_of_life (at key) (events_of (since_call at key its run_so))) (lines_of_life (at key) (events_of (since_call at key its run_so))) =
    subst (λ (x : World × List Happening). OrdersCalls (effects_of_life x.0 (events_of x.1)) (lines_of_life x.0 (events_of x.1))) (λ i. (sym over.same i, run_so.called.so i)) law in
    let so : Taken its serial reply (beginning n bytes) (events_of its.behind) =
    subst (λ (x : World × List Happening). Taken its serial reply x.0 (events_of x.1)) (λ i. (over.same i, sym run_so.called.so i)) (taken in_turn at key its run_so serial reply given there) in
    record { update = so.update; called = so.called }
