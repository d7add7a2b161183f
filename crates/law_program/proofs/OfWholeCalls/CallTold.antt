-- What the trace gets by a call whose session alone moves: its call, and its answer once that has come.
use Rattle.std.proofs.Common.{◌≡◌, ◌∙◌, ℕ, zero, suc, Bool, true, false, List, [], ◌∷◌, ◌++◌, ap, append_assoc, arith, inl, refl, replicate, sym, subst}
use Rattle.std.specs.Prelude.{length, slice_get, Option, Some, if◌then◌else◌}
use Rattle.std.proofs.lemmas.Bool.Decides.{nat_tests}
use Rattle.fkv_base.specs.declared.numbers.Key.{Key}
use Rattle.fkv_epoch.proofs.Shown.{some_same}
use Rattle.fkv_map.specs.declared.operations.Call.{Call}
use Rattle.fkv_map.specs.declared.operations.Call.TheVariants as call
use Rattle.fkv_map.specs.declared.operations.Op.TheVariants.{Read}
use Rattle.law_order.specs.Below.fkv_session.Finished.{Finished}
use Rattle.law_order.specs.Below.fkv_session.Told.{Told}
use Rattle.law_order.specs.Below.fkv_session.Sitting.{Sitting}
use Rattle.law_order.specs.Below.fkv_session.Sitting.TheVariants.{Idle}
use Rattle.law_order.specs.Below.fkv_session.SessionRun.{telling}
use Rattle.law_order.specs.Below.fkv_session.Sessions.{SessionState, is_busy, sitting_ask}
use Rattle.law_order.specs.Below.fkv_world.Actors.{session_goes}
use Rattle.law_order.specs.Below.law_world.Runs.Added.{begun_by, call_answered, call_begun, ended_by, is_calling, session_answered, told_at, told_by}
use Rattle.law_order.specs.Below.fkv_world.Moves.{session_asks}
use Rattle.law_order.specs.Below.fkv_world.Past.{Answered, Called, TraceEvent, Traced}
use Rattle.law_order.specs.Below.fkv_world.Runs.{World, happens, run}
use Rattle.law_order.specs.Below.fkv_world.World.{Calls, Event, Moves, Now, near, seat_at}
use Rattle.law_order.proofs.Below.fkv_world.Shown.{session_own, session_written}
use Rattle.law_order.proofs.Below.law_world.OfRuns.Added.{trace_so}
use Rattle.law_log.specs.Trace.{CallsRead, IsIn, TraceLine}
use Rattle.law_order.specs.Below.law_refine.Calls.Calls.{event_adds}
use Rattle.law_order.specs.Below.law_refine.Events.GhostEvents.{serials_in}
use Rattle.law_order.specs.Below.law_refine.Events.Lines.{event_lines, lines_added}
use Rattle.law_program.specs.PlayedCalls.PlayedCalls.{called_alone}
use Rattle.law_program.proofs.OfWholeCalls.InLists.{in_left, in_right}

-- the trace has the call, and where the session has none in hand any more its answer
abbrev pub TraceAt : ℕ → Call → List Traced → Sitting → List Finished → List Traced → Type 0
TraceAt number asked before (Idle its) list trace =
    (e : ℕ) × (later : ℕ) × (trace ≡ record { its = Answered number (telling its list); effects = later } ∷ record { its = Called number asked; effects = e } ∷ before)
TraceAt number asked before step list trace = (e : ℕ) × (trace ≡ record { its = Called number asked; effects = e } ∷ before)

-- the call alone
abbrev CalledAlone : ℕ → Call → List Traced → List Traced → Type 0
CalledAlone number asked before trace = (e : ℕ) × (trace ≡ record { its = Called number asked; effects = e } ∷ before)

begins_at : (number : ℕ) (asked : Call) (e : ℕ) (before : List Traced) (step : Sitting) (list : List Finished) → TraceAt number asked before step list (told_at e (call_answered number true step list ++ Called number asked ∷ []) ++ before)
begins_at number asked e before (Idle its) list = (e, e, refl)
begins_at number asked e before step list = (e, refl)

while_busy : (number : ℕ) (asked : Call) (before : List Traced) (step : Sitting) (list : List Finished) (trace : List Traced) → is_busy step ≡ true → TraceAt number asked before step list trace → CalledAlone number asked before trace
while_busy number asked before (Idle its) list trace busy so = cc
while_busy number asked before step list trace busy so = so

goes_at : (number : ℕ) (asked : Call) (e : ℕ) (before : List Traced) (step : Sitting) (list : List Finished) (trace : List Traced) → CalledAlone number asked before trace
    → TraceAt number asked before step list (told_at e (call_answered number true step list ++ []) ++ trace)
goes_at number asked e before (Idle its) list trace so = (so.0, e, ap (λ (x : List Traced). record { its = Answered number (telling its list); effects = e } ∷ x) so.1)
goes_at number asked e before step list trace so = so

-- ---- what an event tells
module _ (number : ℕ) (asked : Call) where
  abbrev tells_call : Bool → Option SessionState → Option SessionState → List TraceEvent
  tells_call crashed was after = if crashed then [] else session_answered number (is_calling true was) after ++ call_begun number asked was

  pub call_told : (n after : Now) (s a : SessionState) → n.crashed ≡ false → slice_get n.sessions number ≡ Some s → is_busy s.step ≡ false → slice_get after.sessions number ≡ Some a
      → told_by n after (Calls number asked) ≡ call_answered number true a.step a.finished ++ Called number asked ∷ []
  unfolding ended_by begun_by
  call_told n after s a alive found idle is_now =
      ap (λ (c : Bool). tells_call c (slice_get n.sessions number) (slice_get after.sessions number)) alive
      ∙ (ap (λ (x : Option SessionState). tells_call false x (slice_get after.sessions number)) found
      ∙ (ap (λ (x : Option SessionState). tells_call false (Some s) x) is_now
      ∙ ap (λ (b : Bool). call_answered number (if b then false else true) a.step a.finished ++ (if b then [] else Called number asked ∷ [])) idle))

  abbrev tells_move : Bool → Option SessionState → Option SessionState → List TraceEvent
  tells_move crashed was after = if crashed then [] else session_answered number (is_calling false was) after ++ []

  move_told : (n after : Now) (s a : SessionState) → n.crashed ≡ false → slice_get n.sessions number ≡ Some s → slice_get after.sessions number ≡ Some a
      → told_by n after (Moves number) ≡ call_answered number (is_busy s.step) a.step a.finished ++ []
  unfolding ended_by begun_by
  move_told n after s a alive found is_now =
      ap (λ (c : Bool). tells_move c (slice_get n.sessions number) (slice_get after.sessions number)) alive
      ∙ (ap (λ (x : Option SessionState). tells_move false x (slice_get after.sessions number)) found
      ∙ ap (λ (x : Option SessionState). tells_move false (Some s) x) is_now)

-- a session that has no call in hand stays as it is
idle_is : (step : Sitting) → is_busy step ≡ false → (its : Told) × (step ≡ Idle its)
idle_is (Idle its) idle = (its, refl)
idle_is step idle = cc

-- ---- over the moves
pub record IsInCall (opening : World) (before : List Event) (number moves : ℕ) (asked : Call) : Type 0 where
  pub its : SessionState
  pub found : slice_get (run opening (called_alone number moves asked before)).now.sessions number ≡ Some its
  pub alive : (run opening (called_alone number moves asked before)).now.crashed ≡ false
  pub told : TraceAt number asked (run opening before).past.trace its.step its.finished (run opening (called_alone number moves asked before)).past.trace

begun : (w : World) (number : ℕ) (asked : Call) (s a : SessionState) → w.now.crashed ≡ false → slice_get w.now.sessions number ≡ Some s → is_busy s.step ≡ false
    → slice_get (happens w (Calls number asked)).now.sessions number ≡ Some a → TraceAt number asked w.past.trace a.step a.finished (happens w (Calls number asked)).past.trace
begun w number asked s a alive found idle is_now =
    let after : World = happens w (Calls number asked) in
    subst (TraceAt number asked w.past.trace a.step a.finished) (sym (trace_so w (Calls number asked)
    ∙ ap (λ (x : List TraceEvent). told_at (length after.past.history) x ++ w.past.trace) (call_told number asked w.now after.now s a alive found idle is_now)))
    (begins_at number asked (length after.past.history) w.past.trace a.step a.finished)

moved : (w : World) (number : ℕ) (asked : Call) (before : List Traced) (s a : SessionState) → w.now.crashed ≡ false → slice_get w.now.sessions number ≡ Some s
    → slice_get (happens w (Moves number)).now.sessions number ≡ Some a → is_busy s.step ≡ true → TraceAt number asked before s.step s.finished w.past.trace
    → TraceAt number asked before a.step a.finished (happens w (Moves number)).past.trace
moved w number asked before s a alive found is_now busy so =
    let after : World = happens w (Moves number) in
    subst (TraceAt number asked before a.step a.finished) (sym (trace_so w (Moves number)
    ∙ ap (λ (x : List TraceEvent). told_at (length after.past.history) x ++ w.past.trace) (move_told number asked w.now after.now s a alive found is_now
    ∙ ap (λ (b : Bool). call_answered number b a.step a.finished ++ []) busy)))
    (goes_at number asked (length after.past.history) before a.step a.finished w.past.trace (while_busy number asked before s.step s.finished w.past.trace busy so))

rested : (w : World) (number : ℕ) (asked : Call) (before : List Traced) (s a : SessionState) → w.now.crashed ≡ false → slice_get w.now.sessions number ≡ Some s
    → slice_get (happens w (Moves number)).now.sessions number ≡ Some a → is_busy s.step ≡ false → a ≡ s → TraceAt number asked before s.step s.finished w.past.trace
    → TraceAt number asked before a.step a.finished (happens w (Moves number)).past.trace
rested w number asked before s a alive found is_now idle same so =
    let after : World = happens w (Moves number) in
    subst (TraceAt number asked before a.step a.finished) (sym (trace_so w (Moves number)
    ∙ ap (λ (x : List TraceEvent). told_at (length after.past.history) x ++ w.past.trace) (move_told number asked w.now after.now s a alive found is_now
    ∙ ap (λ (b : Bool). call_answered number b a.step a.finished ++ []) idle)))
    (subst (λ (x : SessionState). TraceAt number asked before x.step x.finished w.past.trace) (sym same) so)

still : (w : World) (number : ℕ) (s : SessionState) → is_busy s.step ≡ false → (session_goes (seat_at w.now number) (near w.now s) (Moves number)).machine ≡ s
unfolding session_goes session_asks sitting_ask
still w number s idle =
    let its = idle_is s.step idle in
    ap (λ (x : Sitting). (session_asks (seat_at w.now number) (near w.now s) (sitting_ask (seat_at w.now number) s x)).machine) its.1

by_busy : (opening : World) (before : List Event) (number moves : ℕ) (asked : Call) (was : IsInCall opening before number moves asked) (busy : Bool) → is_busy was.its.step ≡ busy → (a : SessionState)
    → slice_get (happens (run opening (called_alone number moves asked before)) (Moves number)).now.sessions number ≡ Some a
    → TraceAt number asked (run opening before).past.trace a.step a.finished (happens (run opening (called_alone number moves asked before)) (Moves number)).past.trace
by_busy opening before number moves asked was true busy a is_now = moved (run opening (called_alone number moves asked before)) number asked (run opening before).past.trace was.its a was.alive was.found is_now busy was.told
by_busy opening before number moves asked was false calm a is_now =
    let w : World = run opening (called_alone number moves asked before) in
    let same : a ≡ was.its = some_same _ _ (sym is_now ∙ session_written w (Moves number) number was.its (grind (arith, nat_tests)) was.alive was.found) ∙ still w number was.its calm in
    rested w number asked (run opening before).past.trace was.its a was.alive was.found is_now calm same was.told

pub in_call_told : (opening : World) (before : List Event) (number moves : ℕ) (asked : Call) (s : SessionState) → (run opening before).now.crashed ≡ false → slice_get (run opening before).now.sessions number ≡ Some s → is_busy s.step ≡ false
    → IsInCall opening before number moves asked
unfolding run
in_call_told opening before number zero asked s alive found idle =
    let w : World = run opening before in
    let a : SessionState = (session_goes (seat_at w.now number) (near w.now s) (Calls number asked)).machine in
    let is_now = session_written w (Calls number asked) number s (grind (arith, nat_tests)) alive found in
    record {
      its = a;
      found = is_now;
      alive = ap (λ (n : Now). n.crashed) (session_own w (Calls number asked) number s (grind (arith, nat_tests)) alive found) ∙ alive;
      told = begun w number asked s a alive found idle is_now;
    }
in_call_told opening before number (suc moves) asked s alive found idle =
    let was = in_call_told opening before number moves asked s alive found idle in
    let w : World = run opening (called_alone number moves asked before) in
    let a : SessionState = (session_goes (seat_at w.now number) (near w.now was.its) (Moves number)).machine in
    let is_now = session_written w (Moves number) number was.its (grind (arith, nat_tests)) was.alive was.found in
    record {
      its = a;
      found = is_now;
      alive = ap (λ (n : Now). n.crashed) (session_own w (Moves number) number was.its (grind (arith, nat_tests)) was.alive was.found) ∙ was.alive;
      told = by_busy opening before number moves asked was (is_busy was.its.step) refl a is_now;
    }

-- ---- in which event the answer is given
-- what an event tells, in the words of the log
added_first : (first : ℕ → ℕ) (before : List Traced) (effects : ℕ) (it : TraceEvent) (rest : List TraceEvent) (line : TraceLine) → IsIn line (event_lines first (told_at effects rest ++ before) it) → IsIn line (lines_added first before (told_at effects (it ∷ rest)))
unfolding lines_added
added_first first before effects it rest line is_in = in_left line (event_lines first (told_at effects rest ++ before) it) (lines_added first before (told_at effects rest)) is_in

added_last : (first : ℕ → ℕ) (before : List Traced) (effects : ℕ) (xs : List TraceEvent) (it : TraceEvent) (line : TraceLine) → IsIn line (event_lines first before it) → IsIn line (lines_added first before (told_at effects (xs ++ it ∷ [])))
unfolding lines_added
added_last first before effects [] it line is_in = in_left line (event_lines first before it) [] is_in
added_last first before effects (x ∷ xs) it line is_in = in_right line _ (lines_added first before (told_at effects (xs ++ it ∷ []))) (added_last first before effects xs it line is_in)

adds_so : (opening : World) (before : List Event) (event : Event) (tells : List TraceEvent) (line : TraceLine) → told_by (run opening before).now (happens (run opening before) event).now event ≡ tells
    → IsIn line (lines_added (serials_in opening.now) (run opening before).past.trace (told_at (length (happens (run opening before) event).past.history) tells)) → IsIn line (event_adds opening before event)
adds_so opening before event tells line so is_in =
    subst (λ (x : List TraceEvent). IsIn line (lines_added (serials_in opening.now) (run opening before).past.trace (told_at (length (happens (run opening before) event).past.history) x))) (sym so) is_in

-- a read's line is added by its call
pub call_line : (opening : World) (before : List Event) (number : ℕ) (asked : Call) (s : SessionState) → (run opening before).now.crashed ≡ false → slice_get (run opening before).now.sessions number ≡ Some s → is_busy s.step ≡ false
    → (k : Key) → asked ≡ call.Op (Read k) → IsIn (CallsRead (length (run opening before).past.trace) k.0) (event_adds opening before (Calls number (call.Op (Read k))))
call_line opening before number asked s alive found idle k is =
    let w : World = run opening before in
    let read : Call = call.Op (Read k) in
    let a : SessionState = (session_goes (seat_at w.now number) (near w.now s) (Calls number read)).machine in
    let is_now = session_written w (Calls number read) number s (grind (arith, nat_tests)) alive found in
    adds_so opening before (Calls number read) (call_answered number true a.step a.finished ++ Called number read ∷ []) (CallsRead (length w.past.trace) k.0)
    (call_told number read w.now (happens w (Calls number read)).now s a alive found idle is_now)
    (added_last (serials_in opening.now) w.past.trace (length (happens w (Calls number read)).past.history) (call_answered number true a.step a.finished) (Called number read) (CallsRead (length w.past.trace) k.0) (inl refl))

-- The answer's lines are added by one event, the call itself or one of the moves.
pub record IsAnsweredIn (opening : World) (before : List Event) (number count : ℕ) (asked : Call) (its : Told) (list : List Finished) : Type 0 where
  pub behind : List Event
  pub answer : Event
  pub between : List Event
  pub so : called_alone number count asked before ≡ behind ++ answer ∷ (between ++ before)
  pub e : ℕ
  pub adds : (line : TraceLine) → IsIn line (event_lines (serials_in opening.now) (record { its = Called number asked; effects = e } ∷ (run opening before).past.trace) (Answered number (telling its list))) → IsIn line (event_adds opening (between ++ before) answer)

answers_at : (number : ℕ) (step : Sitting) (list : List Finished) (its : Told) → step ≡ Idle its → call_answered number true step list ≡ Answered number (telling its list) ∷ []
answers_at number step list its at = ap (λ (x : Sitting). call_answered number true x list) at

-- a move behind it gives none
moved_behind : (opening : World) (before : List Event) (number count : ℕ) (asked : Call) (its : Told) (list : List Finished) → IsAnsweredIn opening before number count asked its list → IsAnsweredIn opening before number (suc count) asked its list
moved_behind opening before number count asked its list given = record {
  behind = Moves number ∷ given.behind;
  answer = given.answer;
  between = given.between;
  so = ap (λ (x : List Event). Moves number ∷ x) given.so;
  e = given.e;
  adds = given.adds;
}

pub answered_in : (opening : World) (before : List Event) (number count : ℕ) (asked : Call) (s : SessionState) → (run opening before).now.crashed ≡ false → slice_get (run opening before).now.sessions number ≡ Some s → is_busy s.step ≡ false
    → (a : SessionState) (its : Told) → slice_get (run opening (called_alone number count asked before)).now.sessions number ≡ Some a → a.step ≡ Idle its → IsAnsweredIn opening before number count asked its a.finished
unfolding run
answered_in opening before number zero asked s alive found idle a its is_now at =
    let w : World = run opening before in
    let after : World = happens w (Calls number asked) in
    record {
      behind = [];
      answer = Calls number asked;
      between = [];
      so = refl;
      e = length after.past.history;
      adds = λ line is_in. adds_so opening before (Calls number asked) (Answered number (telling its a.finished) ∷ Called number asked ∷ []) line
          (call_told number asked w.now after.now s a alive found idle is_now ∙ ap (λ (x : List TraceEvent). x ++ Called number asked ∷ []) (answers_at number a.step a.finished its at))
          (added_first (serials_in opening.now) w.past.trace (length after.past.history) (Answered number (telling its a.finished)) (Called number asked ∷ []) line is_in);
    }
answered_in opening before number (suc count) asked s alive found idle a its is_now at =
    by_step (is_busy was.its.step) refl (λ was_told was_at. answered_in opening before number count asked s alive found idle was.its was_told was.found was_at)
  where
    was : IsInCall opening before number count asked
    was = in_call_told opening before number count asked s alive found idle

    by_step : (busy : Bool) → is_busy was.its.step ≡ busy → ((told : Told) → was.its.step ≡ Idle told → IsAnsweredIn opening before number count asked told was.its.finished) → IsAnsweredIn opening before number (suc count) asked its a.finished
    by_step true busy before_it =
        let so = while_busy number asked (run opening before).past.trace was.its.step was.its.finished (run opening (called_alone number count asked before)).past.trace busy was.told in
        let now : World = run opening (called_alone number count asked before) in
        let after : World = happens now (Moves number) in
        let mid : List Event = replicate count (Moves number) ++ Calls number asked ∷ [] in
        let whole : called_alone number count asked before ≡ mid ++ before = sym (append_assoc (replicate count (Moves number)) (Calls number asked ∷ []) before) in
        record {
          behind = [];
          answer = Moves number;
          between = mid;
          so = ap (λ (x : List Event). Moves number ∷ x) whole;
          e = so.0;
          adds = λ line is_in. subst (λ (x : List Event). IsIn line (event_adds opening x (Moves number))) whole
              (adds_so opening (called_alone number count asked before) (Moves number) (Answered number (telling its a.finished) ∷ []) line
              (move_told number asked now.now after.now was.its a was.alive was.found is_now
              ∙ (ap (λ (b : Bool). call_answered number b a.step a.finished ++ []) busy ∙ ap (λ (x : List TraceEvent). x ++ []) (answers_at number a.step a.finished its at)))
              (added_first (serials_in opening.now) now.past.trace (length after.past.history) (Answered number (telling its a.finished)) [] line
              (subst (λ (x : List Traced). IsIn line (event_lines (serials_in opening.now) x (Answered number (telling its a.finished)))) (sym so.1) is_in)));
        }
    by_step false calm before_it =
        let now : World = run opening (called_alone number count asked before) in
        let same : a ≡ was.its = some_same _ _ (sym is_now ∙ session_written now (Moves number) number was.its (grind (arith, nat_tests)) was.alive was.found) ∙ still now number was.its calm in
        subst (λ (x : SessionState). IsAnsweredIn opening before number (suc count) asked its x.finished) (sym same)
        (moved_behind opening before number count asked its was.its.finished (before_it its (sym (ap (λ (x : SessionState). x.step) same) ∙ at)))
