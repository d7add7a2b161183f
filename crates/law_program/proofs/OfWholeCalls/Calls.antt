-- A call whose session alone moves is an operation that is alone, so it is answered by the map.
use Rattle.std.proofs.Common.{◌≡◌, ◌∙◌, ℕ, ◌+◌, Bool, true, false, List, [], ◌∷◌, ap, arith, inl, inr, refl, sym, subst}
use Rattle.std.specs.Prelude.{length, slice_get, Some, if◌then◌else◌, ◌==◌}
use Rattle.std.proofs.lemmas.Bool.Decides.{nat_tests}
use Rattle.fkv_base.specs.declared.numbers.Key.{Key}
use Rattle.law_order.specs.Below.fkv_core.Openings.{IsOpeningWorld, beginning}
use Rattle.fkv_epoch.proofs.Shown.{some_same}
use Rattle.fkv_map.specs.declared.operations.Call.TheVariants as call
use Rattle.fkv_map.specs.declared.operations.Op.{Op}
use Rattle.fkv_map.specs.declared.operations.Op.TheVariants.{Read}
use Rattle.fkv_map.specs.declared.operations.Reply.TheVariants as reply
use Rattle.law_order.specs.Below.fkv_opening.TheOpened.{Opened}
use Rattle.law_order.specs.Below.law_opening.Log.Maps.{opening_map}
use Rattle.law_order.specs.Below.fkv_ops.Requests.{is_read}
use Rattle.law_log.specs.Trace as order
use Rattle.law_log.specs.Trace.{AnswersRead, CallsRead, GivesResult, IsIn, TraceLine}
use Rattle.law_order.specs.Rules.Ordered.{HasLegalHistory, OrdersItsCalls, ReadsFreshly, effects_so_far, lines_so_far}
use Rattle.law_order.proofs.OfRules.Beginning.{world_opens}
use Rattle.law_order.specs.Below.fkv_session.Finished.{Finished}
use Rattle.law_order.specs.Below.fkv_session.Told.{Told}
use Rattle.law_order.specs.Below.fkv_session.Told.TheVariants as told
use Rattle.law_order.specs.Below.fkv_session.Sitting.{Sitting}
use Rattle.law_order.specs.Below.fkv_session.Sitting.TheVariants.{Idle}
use Rattle.law_order.specs.Below.fkv_session.SessionRun.{telling}
use Rattle.law_order.specs.Below.fkv_session.Sessions.{SessionState, is_busy}
use Rattle.law_order.specs.Below.fkv_world.Past.{Answered, Called, Effect, Traced}
use Rattle.law_order.specs.Below.fkv_world.Runs.{World, run}
use Rattle.law_order.specs.Below.fkv_world.World.{Event, Now}
use Rattle.law_order.specs.Below.law_refine.Calls.Calls.{effect_in_log, effects_in_log}
use Rattle.law_order.specs.Below.law_refine.Events.GhostEvents.{serials_in}
use Rattle.law_order.specs.Below.law_refine.Events.Lines.{last_call, lines_of, number_of_call}
use Rattle.law_order.specs.Below.law_refine.Results.Results.{IsResult, NobodyCalls, history_at, in_call}
use Rattle.law_order.proofs.Below.law_refine.OfResults.There.{given_at_rest}
use Rattle.law_order.proofs.Below.law_refine.OfResults.InCall.{result_told}
use Rattle.law_program.specs.WholeCalls.WholeCalls.{AreGivenSoFar, HasHappenedAlone, HasReadAlone, IsAnsweredByMap, TellsAlone, TellsRead}
use Rattle.law_program.proofs.OfWholeCalls.CallTold.{TraceAt, in_call_told}
use Rattle.law_program.proofs.OfWholeCalls.Whole.{answered_alone}

-- ---- its lines
-- the call's answer and the call, behind what was told before
abbrev told_since : ℕ → Op → ℕ → ℕ → List Traced → Told → List Finished → List Traced
told_since number op e later before its list = record { its = Answered number (telling its list); effects = later } ∷ record { its = Called number (call.Op op); effects = e } ∷ before

reader_is : (number : ℕ) (op : Op) (e : ℕ) (before : List Traced) → number_of_call (last_call number (record { its = Called number (call.Op op); effects = e } ∷ before)) ≡ length before
reader_is number op e before =
    let own : (number == number) ≡ true = grind (arith, nat_tests) in
    ap (λ (c : Bool). number_of_call (if c then Some (record { call = call.Op op; number = length before }) else last_call number before)) own

found_lines : (first : ℕ → ℕ) (number : ℕ) (op : Op) (e later : ℕ) (before : List Traced) (list : List Finished) (value : _) → TellsRead (lines_of first before) (lines_of first (told_since number op e later before (told.Found value) list)) op (reply.Found value)
unfolding lines_of
found_lines first number (Read key) e later before list value =
    (length before, ap (λ (x : ℕ). AnswersRead x (reply.Found value) ∷ CallsRead (length before) key.0 ∷ lines_of first before) (reader_is number (Read key) e before))
found_lines first number op e later before list value = tt

absent_lines : (first : ℕ → ℕ) (number : ℕ) (op : Op) (e later : ℕ) (before : List Traced) (list : List Finished) → TellsRead (lines_of first before) (lines_of first (told_since number op e later before told.Absent list)) op reply.Absent
unfolding lines_of
absent_lines first number (Read key) e later before list =
    (length before, ap (λ (x : ℕ). AnswersRead x reply.Absent ∷ CallsRead (length before) key.0 ∷ lines_of first before) (reader_is number (Read key) e before))
absent_lines first number op e later before list = tt

told_alone : (first : ℕ → ℕ) (number : ℕ) (op : Op) (before trace : List Traced) (list : List Finished) (its : Told) → TraceAt number (call.Op op) before (Idle its) list trace → TellsAlone (lines_of first before) (lines_of first trace) op its
told_alone first number op before trace list (told.Found value) so =
    subst (λ (x : List Traced). TellsRead (lines_of first before) (lines_of first x) op (reply.Found value)) (sym so.2) (found_lines first number op so.0 so.1 before list value)
told_alone first number op before trace list told.Absent so =
    subst (λ (x : List Traced). TellsRead (lines_of first before) (lines_of first x) op reply.Absent) (sym so.2) (absent_lines first number op so.0 so.1 before list)
told_alone first number op before trace list its so = tt

-- ---- its effects
read_key : (op : Op) → is_read op ≡ true → (key : Key) × (op ≡ Read key)
read_key (Read key) is = (key, refl)
read_key op is = cc

read_alone : (op : Op) (before after : List Effect) → after ≡ before → is_read op ≡ true → HasReadAlone op (effects_in_log before) (effects_in_log after)
read_alone op before after same is = let its = read_key op is in record { key = its.0; its_op = its.1; none = ap effects_in_log same }

happened_alone : (number : ℕ) (op : Op) (serial : ℕ) (before after : List Effect) (its : Told) → IsResult number op serial before after its → HasHappenedAlone op (effects_in_log before) (effects_in_log after) its
happened_alone number op serial before after (told.Done given its) result =
    record { effect = effect_in_log result.0.effect; one = ap effects_in_log result.0.at_front; its_op = result.0.its_op; its_reply = result.1 }
happened_alone number op serial before after (told.Found value) result = read_alone op before after result.0 result.1
happened_alone number op serial before after told.Absent result = read_alone op before after result.0 result.1
happened_alone number op serial before after (told.Pending given why) result = ap effects_in_log result.0
happened_alone number op serial before after (told.PendingRead ticket) result = ap effects_in_log result.0
happened_alone number op serial before after (told.Refused why) result = ap effects_in_log result
happened_alone number op serial before after its result = absurd result

-- ---- what was given before
-- an effect in the log's words is one of the life
record IsOneOf (effects : List Effect) (effect : order.Effect) : Type 0 where
  its : Effect
  is_in : IsIn its effects
  same : effect_in_log its ≡ effect

one_of : (effects : List Effect) (effect : order.Effect) → IsIn effect (effects_in_log effects) → IsOneOf effects effect
one_of [] effect is_in = absurd is_in
one_of (it ∷ before) effect (inl same) = record { its = it; is_in = inl refl; same = same }
one_of (it ∷ before) effect (inr older) = let found = one_of before effect older in record { its = found.its; is_in = inr found.is_in; same = found.same }

-- where nobody calls, all of it
pub all_given_so_far : (o : Opened) (n : Now) (bytes : List ℕ) (events : List Event) → IsOpeningWorld o n → NobodyCalls (run (beginning n bytes) events).now → AreGivenSoFar n bytes events
all_given_so_far o n bytes events world nobody = λ effect is_in.
    let found = one_of (history_at (beginning n bytes) events) effect is_in in
    subst (λ (x : order.Effect). IsIn (GivesResult x.entry.session x.entry.serial.0 x.entry.reply) (lines_so_far n bytes events)) found.same
    (given_at_rest (beginning n bytes) events found.its (world_opens o n bytes world) nobody found.is_in)

-- ---- the whole call
-- from a moment at which all results were given
pub given_call : (bytes : List ℕ) (o : Opened) (n : Now) (before : List Event) (number moves : ℕ) (op : Op) (s its : SessionState) (answer : Told) → IsOpeningWorld o n
    → HasLegalHistory o n bytes (in_call number moves op before) → OrdersItsCalls o n bytes (in_call number moves op before) → ReadsFreshly o n bytes (in_call number moves op before) → AreGivenSoFar n bytes before
    → (run (beginning n bytes) before).now.crashed ≡ false → slice_get (run (beginning n bytes) before).now.sessions number ≡ Some s → is_busy s.step ≡ false
    → slice_get (run (beginning n bytes) (in_call number moves op before)).now.sessions number ≡ Some its → its.step ≡ Idle answer → IsAnsweredByMap o n bytes before (in_call number moves op before) op answer
given_call bytes o n before number moves op s its answer world legal ordered reads given alive found idle is_now at =
    let opening : World = beginning n bytes in
    let events : List Event = in_call number moves op before in
    let result = result_told opening before number moves op s its answer (world_opens o n bytes world) alive found idle is_now at in
    let call_told = in_call_told opening before number moves (call.Op op) s alive found idle in
    let same : call_told.its ≡ its = some_same _ _ (sym call_told.found ∙ is_now) in
    let trace : TraceAt number (call.Op op) (run opening before).past.trace (Idle answer) its.finished (run opening events).past.trace
    = subst (λ (x : Sitting). TraceAt number (call.Op op) (run opening before).past.trace x its.finished (run opening events).past.trace) at
    (subst (λ (x : SessionState). TraceAt number (call.Op op) (run opening before).past.trace x.step x.finished (run opening events).past.trace) same call_told.told) in
    let both = answered_alone (opening_map bytes o) op (effects_so_far n bytes before) (effects_so_far n bytes events) (lines_so_far n bytes before) (lines_so_far n bytes events) answer legal ordered reads given
    (happened_alone number op (s.serial + 1) (history_at opening before) (history_at opening events) answer result)
    (told_alone (serials_in opening.now) number op (run opening before).past.trace (run opening events).past.trace its.finished answer trace) in
    record { reply = both.0; leaves = both.1 }

-- from one at which no session has a call in hand
pub whole_call : (bytes : List ℕ) (o : Opened) (n : Now) (before : List Event) (number moves : ℕ) (op : Op) (s its : SessionState) (answer : Told) → IsOpeningWorld o n
    → HasLegalHistory o n bytes (in_call number moves op before) → OrdersItsCalls o n bytes (in_call number moves op before) → ReadsFreshly o n bytes (in_call number moves op before) → NobodyCalls (run (beginning n bytes) before).now
    → (run (beginning n bytes) before).now.crashed ≡ false → slice_get (run (beginning n bytes) before).now.sessions number ≡ Some s
    → slice_get (run (beginning n bytes) (in_call number moves op before)).now.sessions number ≡ Some its → its.step ≡ Idle answer → IsAnsweredByMap o n bytes before (in_call number moves op before) op answer
whole_call bytes o n before number moves op s its answer world legal ordered reads nobody alive found is_now at =
    given_call bytes o n before number moves op s its answer world legal ordered reads (all_given_so_far o n bytes before world nobody) alive found (nobody number s found) is_now at
