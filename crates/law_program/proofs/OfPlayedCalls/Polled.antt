-- What a poll has finished: each update is replied by the map that it found.
use Rattle.std.proofs.Common.{◌≡◌, ◌∙◌, ℕ, List, [], ◌∷◌, ◌++◌, false, ap, inl, inr, refl, sym, subst}
use Rattle.std.specs.Prelude.{Some, length, slice_get}
use Rattle.fkv_base.specs.declared.numbers.Key.{Key}
use Rattle.law_order.specs.Below.fkv_core.Openings.{beginning}
use Rattle.fkv_epoch.proofs.Shown.{some_same}
use Rattle.fkv_map.specs.History.{IsLegal, content}
use Rattle.fkv_map.specs.Map.{Map, reply_to}
use Rattle.fkv_map.specs.declared.operations.Call.{Call}
use Rattle.fkv_map.specs.declared.operations.Call.TheVariants as call
use Rattle.fkv_map.specs.declared.operations.Op.TheVariants.{Read}
use Rattle.fkv_map.specs.declared.operations.Reply.{Reply}
use Rattle.fkv_map.proofs.Shown.{IsLegal-earlier, IsLegal-later}
use Rattle.law_order.specs.Below.fkv_opening.TheOpened.{Opened}
use Rattle.fkv_runs.specs.Below.fkv_playing.Players.{PlayerState}
use Rattle.fkv_runs.specs.Below.fkv_playing.Telling.{Telling}
use Rattle.law_order.specs.Below.fkv_session.Answers.{IsAnswerTold}
use Rattle.law_order.specs.Below.fkv_session.SessionRun.{telling}
use Rattle.law_order.specs.Below.fkv_session.Sessions.{SessionState, is_busy}
use Rattle.law_order.specs.Below.fkv_session.Answer.{Answer}
use Rattle.law_order.specs.Below.fkv_session.Answer.TheVariants as answer
use Rattle.law_order.specs.Below.fkv_session.Finished.{Finished}
use Rattle.law_order.specs.Below.fkv_session.Finished.TheVariants as finished
use Rattle.law_order.specs.Below.fkv_session.Told.{Told}
use Rattle.law_order.specs.Below.fkv_session.Told.TheVariants as told
use Rattle.law_order.specs.Below.fkv_session.Sitting.{Sitting}
use Rattle.law_order.specs.Below.fkv_session.Sitting.TheVariants.{Idle}
use Rattle.fkv_texts.specs.Sessions.{finished_by}
use Rattle.law_order.specs.Below.fkv_world.Opened.{IsOpenedWorld}
use Rattle.law_order.specs.Below.fkv_world.Past.{Answered, Called, Traced}
use Rattle.law_order.specs.Below.fkv_world.Runs.{World, run}
use Rattle.law_order.specs.Below.fkv_world.World.{Calls, Event, Now}
use Rattle.law_log.specs.Trace.{CallsRead, Effect, GivesResult, IsIn, history_of}
use Rattle.law_order.specs.Below.law_opening.Log.Maps.{opening_map}
use Rattle.law_order.specs.OneHistory.EachLife.{InEachLife, IsLife, Life}
use Rattle.law_order.specs.Rules.Ordered.{HasLegalHistory, OrdersItsCalls, effects_so_far, lines_so_far}
use Rattle.law_order.proofs.OfRules.Beginning.{world_opens}
use Rattle.law_order.specs.Below.law_refine.Calls.Calls.{event_adds}
use Rattle.law_order.specs.Below.law_refine.Events.GhostEvents.{serials_in}
use Rattle.law_order.specs.Below.law_refine.Events.Lines.{finished_line, finished_lines, lines_of}
use Rattle.law_order.specs.Below.law_refine.Results.Results.{NobodyCalls}
use Rattle.law_program.specs.PlayedCalls.Finished.{AreRepliedAtEffects, IsRepliedAtEffect}
use Rattle.law_program.specs.PlayedCalls.PlayedCalls.{IsQuietLife, called_alone}
use Rattle.law_program.proofs.OfPlayedCalls.Beats.{EndsCall}
use Rattle.law_program.proofs.OfPlayedCalls.InLife.{was_alive, was_there}
use Rattle.law_program.proofs.OfWholeCalls.InLists.{in_left, in_right}
use Rattle.law_program.proofs.OfWholeCalls.CallTold.{IsAnsweredIn, TraceAt, answered_in, call_line, in_call_told}

-- ---- the lines of what is finished
pub finished_in : (number : ℕ) (trace : List Traced) (it : Finished) (list : List Finished) → IsIn it list → IsIn (finished_line number trace it) (finished_lines number trace list)
finished_in number trace it [] is_in = absurd is_in
finished_in number trace it (x ∷ rest) (inl same) =
    in_right (finished_line number trace it) (finished_lines number trace rest) (finished_line number trace x ∷ []) (inl (ap (finished_line number trace) same))
finished_in number trace it (x ∷ rest) (inr more) =
    in_left (finished_line number trace it) (finished_lines number trace rest) (finished_line number trace x ∷ []) (finished_in number trace it rest more)

-- only a poll's answer has any
pub record IsPolled (its : Told) (list : List Finished) (it : Finished) : Type 0 where
  pub left : ℕ
  pub polled : its ≡ told.Polled left
  pub is_in : IsIn it list

pub polled : (its : Told) (list : List Finished) (given : Answer) (it : Finished) → IsAnswerTold its list given → IsIn it (finished_by given) → IsPolled its list it
polled (told.Polled left) list (answer.Polled items count) it is is_in = record { left = left; polled = refl; is_in = subst (IsIn it) is.0 is_in }
polled its list (answer.Polled items count) it is is_in = cc
polled its list given it is is_in = absurd is_in

-- so its line stands in the trace behind the poll
abbrev pub trace_of_call : ℕ → Call → ℕ → ℕ → List Traced → Told → List Finished → List Traced
trace_of_call number asked e later before its list = record { its = Answered number (telling its list); effects = later } ∷ record { its = Called number asked; effects = e } ∷ before

pub line_in : (first : ℕ → ℕ) (number : ℕ) (asked : Call) (e later : ℕ) (before : List Traced) (its : Told) (list : List Finished) (it : Finished) → (is : IsPolled its list it)
    → IsIn (finished_line number (record { its = Called number asked; effects = e } ∷ before) it) (lines_of first (trace_of_call number asked e later before its list))
unfolding lines_of
line_in first number asked e later before its list it is =
    subst (λ (x : Told). IsIn (finished_line number (record { its = Called number asked; effects = e } ∷ before) it) (lines_of first (trace_of_call number asked e later before x list))) (sym is.polled)
    (in_left (finished_line number (record { its = Called number asked; effects = e } ∷ before) it) (finished_lines number (record { its = Called number asked; effects = e } ∷ before) list) _
    (finished_in number (record { its = Called number asked; effects = e } ∷ before) it list is.is_in))

-- ---- at its effect
parted : (effects : List Effect) (effect : Effect) → IsIn effect effects → (newer : List Effect) × (older : List Effect) × (effects ≡ newer ++ effect ∷ older)
parted [] effect is_in = absurd is_in
parted (x ∷ rest) effect (inl same) = ([], rest, ap (λ (y : Effect). y ∷ rest) same)
parted (x ∷ rest) effect (inr more) = let its = parted rest effect more in (x ∷ its.0, its.1, ap (λ (xs : List Effect). x ∷ xs) its.2)

legal_at : (m : Map) (newer older : List Effect) (effect : Effect) → IsLegal m (history_of (newer ++ effect ∷ older)) → effect.entry.reply ≡ reply_to (content m (history_of older)) effect.entry.op
legal_at m [] older effect legal = (IsLegal-later m (history_of older) _ legal).0
legal_at m (x ∷ newer) older effect legal = legal_at m newer older effect (IsLegal-earlier m (history_of (newer ++ effect ∷ older)) _ legal)

pub replied : (bytes : List ℕ) (o : Opened) (first : Now) (life : List Event) (number serial : ℕ) (reply : Reply) → HasLegalHistory o first bytes life → OrdersItsCalls o first bytes life
    → IsIn (GivesResult number serial reply) (lines_so_far first bytes life) → IsRepliedAtEffect bytes o first life number serial reply
replied bytes o first life number serial reply legal ordered line =
    let has = ordered.given number serial reply line in
    let effect : Effect = has.update.effect in
    let at = parted (effects_so_far first bytes life) effect has.update.is_in in
    record {
      newer = at.0;
      older = at.1;
      effect = effect;
      all = at.2;
      its_session = has.update.its_session;
      its_serial = has.update.its_serial;
      called = ordered.called effect has.update.is_in;
      its_reply = sym has.its_reply ∙ legal_at (opening_map bytes o) at.0 at.1 effect (subst (λ (effects : List Effect). IsLegal (opening_map bytes o) (history_of effects)) at.2 legal);
    }

-- ---- a call that has ended
-- The trace has the call and its answer, and a read's line with it.
pub record IsTraced (bytes : List ℕ) (first : Now) (life : List Event) (number count : ℕ) (asked : Call) (its : Told) (list : List Finished) : Type 0 where
  pub e : ℕ
  pub later : ℕ
  pub so : (run (beginning first bytes) (called_alone number count asked life)).past.trace ≡ trace_of_call number asked e later (run (beginning first bytes) life).past.trace its list
  pub line : (k : Key) → asked ≡ call.Op (Read k) → IsIn (CallsRead (length (run (beginning first bytes) life).past.trace) k.0) (event_adds (beginning first bytes) life (Calls number (call.Op (Read k))))
  pub given : IsAnsweredIn (beginning first bytes) life number count asked its list
  -- this is the session then
  pub s : SessionState
  pub found : slice_get (run (beginning first bytes) (called_alone number count asked life)).now.sessions number ≡ Some s
  pub at_rest : (let now = s in now.step ≡ Idle its)
  -- and this it was before, without a call in hand
  pub opened : IsOpenedWorld (beginning first bytes)
  pub alive : (run (beginning first bytes) life).now.crashed ≡ false
  pub was : SessionState
  pub was_found : slice_get (run (beginning first bytes) life).now.sessions number ≡ Some was
  pub idle : is_busy was.step ≡ false

pub traced : {D : Type 0} (telling : Telling) (number count : ℕ) (asked : Call) (bytes : List ℕ) (o : Opened) (first : Now) (life : List Event) (before after : PlayerState D) (text : List ℕ)
    → IsQuietLife bytes o first life before.world.now → NobodyCalls before.world.now
    → (ends : EndsCall telling number asked before.seats (beginning first bytes) (called_alone number count asked life) after text)
    → IsTraced bytes first life number count asked ends.answered.its ends.answered.s.finished
traced telling number count asked bytes o first life before after text quiet nobody ends =
    let opening : World = beginning first bytes in
    let all : List Event = called_alone number count asked life in
    let answered = ends.answered in
    let here : NobodyCalls (run opening life).now = subst NobodyCalls (sym quiet.shows) nobody in
    let alive : (run opening life).now.crashed ≡ false = was_alive opening life number count asked (ap (λ (x : Now). x.crashed) ends.shows ∙ answered.alive) in
    let is_now : slice_get (run opening all).now.sessions number ≡ Some answered.s = ap (λ (x : Now). slice_get x.sessions number) ends.shows ∙ answered.found in
    let there = was_there opening life number count asked answered.s is_now in
    let idle = here number there.s there.found in
    let in_call = in_call_told opening life number count asked there.s alive there.found idle in
    let same : in_call.its ≡ answered.s = some_same _ _ (sym in_call.found ∙ is_now) in
    let at : TraceAt number asked (run opening life).past.trace (Idle answered.its) answered.s.finished (run opening all).past.trace
    = subst (λ (x : Sitting). TraceAt number asked (run opening life).past.trace x answered.s.finished (run opening all).past.trace) answered.at_rest
    (subst (λ (x : SessionState). TraceAt number asked (run opening life).past.trace x.step x.finished (run opening all).past.trace) same in_call.told) in
    record {
      e = at.0;
      later = at.1;
      so = at.2;
      line = λ k is. call_line opening life number asked there.s alive there.found idle k is;
      given = answered_in opening life number count asked there.s alive there.found idle answered.s answered.its is_now answered.at_rest;
      s = answered.s;
      found = is_now;
      at_rest = answered.at_rest;
      opened = world_opens o first bytes quiet.opening;
      alive = alive;
      was = there.s;
      was_found = there.found;
      idle = idle;
    }

module _ (legal : InEachLife HasLegalHistory) (ordered : InEachLife OrdersItsCalls) where
  pub updates_answered : (number count : ℕ) (asked : Call) (bytes : List ℕ) (o : Opened) (first : Now) (life : List Event) (its : Told) (list : List Finished) (given : Answer) → IsTraced bytes first life number count asked its list
      → IsLife (record { bytes = bytes; opened = o; world = first; events = called_alone number count asked life }) → IsAnswerTold its list given → AreRepliedAtEffects bytes o first (called_alone number count asked life) number given
  updates_answered number count asked bytes o first life its list given at is_life is_told serial reply is_in =
      let lived : Life = record { bytes = bytes; opened = o; world = first; events = called_alone number count asked life } in
      let line = line_in (serials_in first) number asked at.e at.later (run (beginning first bytes) life).past.trace its list (finished.Update serial reply) (polled its list given (finished.Update serial reply) is_told is_in) in
      replied bytes o first (called_alone number count asked life) number serial.0 reply (legal lived is_life) (ordered lived is_life)
      (subst (λ (x : List Traced). IsIn (GivesResult number serial.0 reply) (lines_of (serials_in first) x)) (sym at.so) line)
