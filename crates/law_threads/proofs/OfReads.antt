-- A read gives its key's value after a beginning of the history that holds what its pass had seen.
use Rattle.std.proofs.Common.{◌≡◌, ℕ, ◌∙◌, refl, sym, ap, subst, inl, List, [], ◌∷◌, ◌++◌, length, append_assoc}
use Rattle.std.specs.Prelude.{Some, None, false}
use Rattle.std.specs.FinMap.{get}
use Rattle.fkv_base.specs.declared.faults.Fault.{Fault}
use Rattle.fkv_base.specs.declared.numbers.Key.{Key}
use Rattle.law_order.specs.Below.fkv_core.Openings.{beginning}
use Rattle.fkv_map.specs.declared.history.HistoryEntry.{HistoryEntry}
use Rattle.fkv_map.specs.declared.operations.Call.{Call}
use Rattle.fkv_map.specs.declared.operations.Call.TheVariants as call
use Rattle.fkv_map.specs.declared.operations.Op.TheVariants.{Read}
use Rattle.fkv_map.specs.declared.operations.Reply.{Reply}
use Rattle.fkv_map.specs.History.{content}
use Rattle.fkv_map.specs.Map.{Map, reply_to_read}
use Rattle.law_order.specs.Below.fkv_opening.TheOpened.{Opened}
use Rattle.fkv_seats.specs.Rule.{led}
use Rattle.law_order.specs.Below.fkv_session.Answer.{Answer}
use Rattle.law_order.specs.Below.fkv_session.Answer.TheVariants as answer
use Rattle.law_order.specs.Below.fkv_session.Answers.{IsAnswerTold}
use Rattle.law_order.specs.Below.fkv_session.Finished.{Finished}
use Rattle.law_order.specs.Below.fkv_session.Told.{Told}
use Rattle.law_order.specs.Below.fkv_session.Told.TheVariants.{Refused}
use Rattle.law_order.specs.Below.fkv_session.SessionRun.{telling}
use Rattle.law_order.specs.Below.fkv_session.Sessions.{SessionState, refusal_of, session_begun}
use Rattle.law_order.specs.Below.fkv_world.Past.{TraceEvent, Called, Answered}
use Rattle.law_order.specs.Below.fkv_world.Runs.{World, happens}
use Rattle.law_order.specs.Below.fkv_world.World as world
use Rattle.law_order.specs.Below.fkv_world.World.{Event, Now}
use Rattle.law_log.specs.Trace.{AnswersRead, CallsRead, IsIn, TraceLine}
use Rattle.law_order.specs.Below.law_opening.Log.Maps.{opening_map}
use Rattle.law_order.specs.Below.law_world.Runs.Added.{ended_by, told_at}
use Rattle.law_order.specs.Below.law_refine.Calls.Calls.{event_adds}
use Rattle.law_order.specs.Below.law_refine.Events.GhostEvents.{serials_in, traced_by}
use Rattle.law_order.specs.Below.law_refine.Events.Lines.{event_lines, lines_added, read_in_hand}
use Rattle.law_order.specs.Prefix.Law.{history_so_far}
use Rattle.law_order.specs.Rules.InTime.{IsInTime, ReadsInTime}
use Rattle.law_order.proofs.OfReads.Numbers.{called_hand}
use Rattle.fkv_table.specs.declared.happenings.Happening.{Happening}
use Rattle.fkv_table.specs.declared.happenings.Happening.TheVariants.{Calls, Moves}
use Rattle.fkv_table.specs.Events.{event_of}
use Rattle.fkv_table.specs.Planes.{plane}
use Rattle.fkv_table.proofs.Lives.{led_run}
use Rattle.law_threads.specs.Calls.{CallRun, HasRun, IsOver, events_of}
use Rattle.law_threads.specs.Threads.{IsBeginning, ReadsWhatWasSeen, history_seen, read_told}
use Rattle.law_threads.proofs.Course.{Answering, AtOnce, ByStep, InTurn, call_told}
use Rattle.law_threads.proofs.Histories.{begins_with, events_both}
use Rattle.law_threads.proofs.OfRuns.{earlier, first, goes_on, hand_kept, idle, is_told, no_reply, oldest_added, reads_line, refused_at_once, since_call, was}

-- ---- histories
pub widened : (m : Map) (less start last more : List HistoryEntry) (key : ℕ) (reply : Reply) → IsBeginning less start → IsBeginning last more → IsInTime m start last key reply → IsInTime m less more key reply
widened m less start last more key reply front back its = record {
  between = front.newer ++ its.between;
  newer = its.newer ++ back.newer;
  all = back.whole ∙ (ap (λ (x : List HistoryEntry). x ++ back.newer) (its.all ∙ ap (λ (x : List HistoryEntry). x ++ (its.between ++ its.newer)) front.whole) ∙ regroup less front.newer its.between its.newer back.newer);
  value = its.value ∙ ap (λ (x : List HistoryEntry). reply_to_read (get (content m x) key)) (ap (λ (x : List HistoryEntry). x ++ its.between) front.whole ∙ append_assoc less front.newer its.between);
}
  where
    regroup : (a b c d e : List HistoryEntry) → ((a ++ b) ++ (c ++ d)) ++ e ≡ a ++ ((b ++ c) ++ (d ++ e))
    regroup a b c d e =
        ap (λ (x : List HistoryEntry). x ++ e) (append_assoc a b (c ++ d))
        ∙ (append_assoc a (b ++ (c ++ d)) e
        ∙ ap (λ (x : List HistoryEntry). a ++ x) (ap (λ (x : List HistoryEntry). x ++ e) (sym (append_assoc b c d)) ∙ append_assoc (b ++ c) d e))

-- a read of a life, in what was seen
pub seen_in_time : (o : Opened) (n : Now) (bytes : List ℕ) (later between before : List Happening) (start answer : Happening) (reader key : ℕ) (reply : Reply) → ReadsInTime o n bytes (events_of (later ++ answer ∷ (between ++ start ∷ before)))
    → IsIn (CallsRead reader key) (event_adds (beginning n bytes) (events_of before) (event_of start)) → IsIn (AnswersRead reader reply) (event_adds (beginning n bytes) (events_of (between ++ start ∷ before)) (event_of answer))
    → IsInTime (opening_map bytes o) (history_seen n bytes (start ∷ before)) (history_seen n bytes (answer ∷ (between ++ start ∷ before))) key reply
seen_in_time o n bytes later between before start answer reader key reply law calls answers =
    let mid : events_of (between ++ start ∷ before) ≡ events_of between ++ event_of start ∷ events_of before = events_both between (start ∷ before) in
    let opening : World = beginning n bytes in
    let whole : events_of (later ++ answer ∷ (between ++ start ∷ before)) ≡ events_of later ++ event_of answer ∷ (events_of between ++ event_of start ∷ events_of before) =
    events_both later (answer ∷ (between ++ start ∷ before)) ∙ ap (λ (x : List Event). events_of later ++ event_of answer ∷ x) mid in
    let its = law (events_of later) (events_of between) (events_of before) (event_of start) (event_of answer) reader key reply whole calls
    (subst (λ (es : List Event). IsIn (AnswersRead reader reply) (event_adds opening es (event_of answer))) mid answers) in
    subst (λ (es : List Event). IsInTime (opening_map bytes o) (history_seen n bytes (start ∷ before)) (seen_by n bytes (event_of answer ∷ es)) key reply) (sym mid) its
  where
    seen_by : Now → List ℕ → List Event → List HistoryEntry
    seen_by n bytes es = history_so_far n bytes es

-- ---- lines of the call
-- what an event adds behind a world
abbrev adds_to : (ℕ → ℕ) → World → Event → List TraceLine
adds_to first w event = lines_added first w.past.trace (traced_by w event)

module _ {K : Type 0} (at : K → World) (key : K) (its : CallRun) (run_so : HasRun at key its) where
  abbrev start : Happening
  start = Calls its.number its.call

  abbrev world_at : List Happening → World
  world_at es = led (plane at) (at key) es

  abbrev numbers : ℕ → ℕ
  numbers = serials_in (at key).now

  abbrev reader : ℕ
  reader = length (world_at (earlier at key its run_so)).past.trace

  pub to_run : (line : TraceLine) (es : List Happening) (event : Event) → IsIn line (adds_to numbers (world_at es) event) → IsIn line (event_adds (at key) (events_of es) event)
  to_run line es event is_in = subst (λ (w : World). IsIn line (adds_to numbers w event)) (led_run at (at key) es) is_in

  pub call_line : (k : Key) → its.call ≡ call.Op (Read k) → IsIn (CallsRead reader k.0) (event_adds (at key) (events_of (earlier at key its run_so)) (event_of start))
  call_line k is =
      let w : World = world_at (earlier at key its run_so) in
      to_run (CallsRead reader k.0) (earlier at key its run_so) (event_of start)
      (subst (λ (told : List TraceEvent). IsIn (CallsRead reader k.0) (lines_added numbers w.past.trace (told_at (length (happens w (event_of start)).past.history) told)))
      (sym (call_told at (at key) its.number its.call (earlier at key its run_so) (goes_on at key its run_so) (first at key its run_so) (was at key its run_so) (idle at key its run_so)))
      (oldest_added numbers w.past.trace (length (happens w (event_of start)).past.history) (ended_by w.now (happens w (event_of start)).now (event_of start)) (Called its.number its.call) (CallsRead reader k.0)
      (subst (λ (c : Call). IsIn (CallsRead reader k.0) (event_lines numbers w.past.trace (Called its.number c))) (sym is) (inl refl))))

  answer_line : (t : Told) (f list : List Finished) (reply : Reply) (es : List Happening) (step : ByStep at (at key) its.number its.call (earlier at key its run_so) t list es)
      → IsAnswerTold t f its.answer → read_told its.answer ≡ Some reply
      → IsIn (AnswersRead reader reply) (event_adds (at key) (events_of (step.between ++ start ∷ earlier at key its run_so)) (event_of (Moves its.number)))
  answer_line t f list reply es step answered read =
      let mid : List Happening = step.between ++ start ∷ earlier at key its run_so in
      let w : World = world_at mid in
      let hand : read_in_hand its.number w.past.trace ≡ reader = ap (read_in_hand its.number) step.hand.so ∙ (hand_kept its.number step.hand.since _ step.hand.others ∙ called_hand step.hand.effects its.number its.call _) in
      let line : event_lines numbers w.past.trace (Answered its.number (telling t list)) ≡ AnswersRead reader reply ∷ [] =
      reads_line numbers its.number w.past.trace t f _ its.answer reply answered read ∙ ap (λ (x : ℕ). AnswersRead x reply ∷ []) hand in
      to_run (AnswersRead reader reply) mid (event_of (Moves its.number))
      (subst (λ (told : List TraceEvent). IsIn (AnswersRead reader reply) (lines_added numbers w.past.trace (told_at (length (happens w (event_of (Moves its.number))).past.history) told))) (sym step.adds)
      (oldest_added numbers w.past.trace (length (happens w (event_of (Moves its.number))).past.history) [] (Answered its.number (telling t list)) (AnswersRead reader reply)
      (subst (IsIn (AnswersRead reader reply)) (sym line) (inl refl))))

  module _ (o : Opened) (n : Now) (bytes : List ℕ) (over : IsOver at key o n bytes) (law : ReadsInTime o n bytes (events_of its.behind)) where
    by_step : (k : Key) (reply : Reply) (t : Told) (f list : List Finished) → its.call ≡ call.Op (Read k) → IsAnswerTold t f its.answer → read_told its.answer ≡ Some reply
        → ByStep at (at key) its.number its.call (earlier at key its run_so) t list (since_call at key its run_so) → IsInTime (opening_map bytes o) (history_seen n bytes its.before) (history_seen n bytes its.behind) k.0 reply
    by_step k reply t f list is answered read step =
        let mid : List Happening = step.between ++ start ∷ earlier at key its run_so in
        let whole : its.behind ≡ step.later ++ Moves its.number ∷ mid = run_so.called.so ∙ step.all in
        widened (opening_map bytes o) (history_seen n bytes its.before) (history_seen n bytes (start ∷ earlier at key its run_so)) (history_seen n bytes (Moves its.number ∷ mid)) (history_seen n bytes its.behind) k.0 reply
        (begins_with n bytes (start ∷ run_so.called.others) its.before)
        (subst (λ (es : List Happening). IsBeginning (history_seen n bytes (Moves its.number ∷ mid)) (history_seen n bytes es)) (sym whole) (begins_with n bytes step.later (Moves its.number ∷ mid)))
        (seen_in_time o n bytes step.later step.between (earlier at key its run_so) start (Moves its.number) reader k.0 reply (subst (λ (es : List Happening). ReadsInTime o n bytes (events_of es)) whole law)
        (subst (λ (w : World). IsIn (CallsRead reader k.0) (event_adds w (events_of (earlier at key its run_so)) (event_of start))) over.same (call_line k is))
        (subst (λ (w : World). IsIn (AnswersRead reader reply) (event_adds w (events_of mid) (event_of (Moves its.number)))) over.same (answer_line t f list reply (since_call at key its run_so) step answered read)))

    refused_reads : (t : Told) (cause : Fault) (f : List Finished) (given : Answer) (reply : Reply) → t ≡ Refused cause → IsAnswerTold t f given → read_told given ≡ Some reply → ⊥
    refused_reads t cause f given reply is answered read =
        let so : given ≡ answer.Refused cause = subst (λ (x : Told). IsAnswerTold x f given) is answered in no_reply reply (sym (ap read_told so) ∙ read)

    by_how : (k : Key) (reply : Reply) (t : Told) (f list : List Finished) → its.call ≡ call.Op (Read k) → IsAnswerTold t f its.answer → read_told its.answer ≡ Some reply
        → Answering at (at key) its.number its.call (earlier at key its run_so) t list (since_call at key its run_so) → IsInTime (opening_map bytes o) (history_seen n bytes its.before) (history_seen n bytes its.behind) k.0 reply
    by_how k reply t f list is answered read (AtOnce s begun idle_then) =
        let w : World = world_at (earlier at key its run_so) in
        let s' : SessionState = record s { asks = 0; effect = None; wants_turn = false } in
        let refused = refused_at_once (world.seat_at w.now its.number) s' (Read k) (refusal_of s' (Read k)) t (ap (λ (c : Call). (session_begun (world.seat_at w.now its.number) s c).step) (sym is) ∙ begun) in
        absurd (refused_reads t refused.0 f its.answer reply refused.1 answered read)
    by_how k reply t f list is answered read (InTurn step) = by_step k reply t f list is answered read step

    pub reads_so : ReadsWhatWasSeen o n bytes its
    reads_so k reply is read = let told = is_told at key its run_so in by_how k reply run_so.answered.its run_so.answered.finished told.finished is run_so.answered.told read told.how
