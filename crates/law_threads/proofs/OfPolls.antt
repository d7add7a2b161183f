-- A read that a poll answers gives its key's value after a beginning of the history that holds what its pass had seen when it was called.
use Rattle.std.proofs.Common.{◌≡◌, inl, inr, ℕ, ◌≤◌, ◌∙◌, refl, sym, ap, subst, Bool, true, false, List, [], ◌∷◌, ◌++◌, length, append_assoc}
use Rattle.std.specs.Prelude.{Option, Some, None, if◌then◌else◌, slice_get}
use Rattle.fkv_base.specs.declared.numbers.Key.{Key}
use Rattle.fkv_base.specs.declared.numbers.Serial.{Serial}
use Rattle.fkv_base.specs.declared.numbers.Value.{Value}
use Rattle.law_order.specs.Below.fkv_core.Openings.{beginning}
use Rattle.fkv_map.specs.declared.operations.Call.{Call}
use Rattle.fkv_map.specs.declared.operations.Call.TheVariants as call
use Rattle.fkv_map.specs.declared.operations.Reply.{Reply}
use Rattle.law_order.specs.Below.fkv_opening.TheOpened.{Opened}
use Rattle.law_order.specs.Below.fkv_pending.PendingRequest.{PendingRequest}
use Rattle.law_order.specs.Below.fkv_pending.Ticket.{Ticket}
use Rattle.fkv_seats.specs.Rule.{led}
use Rattle.law_order.specs.Below.fkv_session.Answer.{Answer}
use Rattle.law_order.specs.Below.fkv_session.Answer.TheVariants as answer
use Rattle.law_order.specs.Below.fkv_session.Finished.{Finished}
use Rattle.law_order.specs.Below.fkv_session.Finished.TheVariants as finished
use Rattle.law_order.specs.Below.fkv_session.Told.{Told}
use Rattle.law_order.specs.Below.fkv_session.Told.TheVariants as told
use Rattle.law_order.specs.Below.fkv_session.Sitting.TheVariants.{ClearsMail, Idle}
use Rattle.law_order.specs.Below.fkv_session.Answers.{IsAnswerTold}
use Rattle.law_order.specs.Below.fkv_session.SessionRun.{telling}
use Rattle.law_order.specs.Below.fkv_session.Sessions.{Seat, SessionState, poll_begun, poll_call, polls_at, polls_request, refuses, session_begun}
use Rattle.law_order.specs.Below.fkv_world.Past.{Traced, TraceEvent, Answered}
use Rattle.law_order.specs.Below.fkv_world.Runs.{World, happens, run}
use Rattle.law_order.specs.Below.fkv_world.World as world
use Rattle.law_order.specs.Below.fkv_world.World.{Event, Now}
use Rattle.law_log.specs.Trace.{AnswersRead, CallsRead, GivesResult, IsIn}
use Rattle.law_order.specs.Below.law_refine.Events.Lines.{finished_line, finished_lines, lines_added, lines_of, read_reply, read_in_hand, read_waiting}
use Rattle.fkv_table.specs.declared.happenings.Happening.{Happening}
use Rattle.fkv_base.specs.declared.faults.Fault.TheVariants as fault
use Rattle.law_order.specs.Below.fkv_pending.MailTask.TheVariants.{Clear}
use Rattle.law_order.specs.Below.fkv_pending.TheMailing.TheVariants.{LoadsState}
use Rattle.law_order.specs.Below.law_opening.Log.Maps.{opening_map}
use Rattle.law_order.specs.Below.law_world.Runs.Added.{told_at}
use Rattle.law_order.specs.Below.law_refine.Calls.Calls.{event_adds}
use Rattle.law_order.specs.Below.law_refine.Events.GhostEvents.{serials_in}
use Rattle.law_order.specs.Rules.InTime.{IsInTime, ReadsInTime}
use Rattle.law_order.specs.Rules.Ordered.{OrdersItsCalls}
use Rattle.law_order.specs.Tickets.Few.{HasFewCalls}
use Rattle.law_order.proofs.OfReads.Numbers.{called_hand}
use Rattle.law_order.proofs.OfTickets.Events.{before_few}
use Rattle.fkv_table.specs.declared.happenings.Happening.TheVariants.{Calls, Moves}
use Rattle.fkv_table.specs.Events.{event_of}
use Rattle.fkv_table.specs.Planes.{plane}
use Rattle.fkv_table.proofs.Lives.{led_run}
use Rattle.law_threads.specs.Calls.{CallRun, HasRun, IsOver, events_of}
use Rattle.law_threads.specs.Polls.{FinishedIsSeen, HasFinished, IsPolledRead}
use Rattle.law_threads.specs.Threads.{IsBeginning, IsReadSince, history_seen}
use Rattle.law_threads.proofs.Course.{Answering, AtOnce, ByStep, InTurn, seen_answered, seen_called}
use Rattle.law_threads.proofs.Histories.{begins_with, events_both}
use Rattle.law_threads.proofs.OfDurable.{trace_behind}
use Rattle.law_threads.proofs.OfReads.{call_line, seen_in_time, to_run, widened}
use Rattle.law_threads.proofs.OfTickets.{GivesTicketsInTurn, given_now, once_given, others_wait, times_given, waits_now, waits_on}
use Rattle.law_threads.proofs.OfRuns.{IsToldIn, earlier, first, hand_kept, idle, in_left, in_right, is_told, oldest_added, same_told, since_call, told_with, was}

-- ---- a poll's lines
pub finished_in : (number : ℕ) (trace : List Traced) (it : Finished) (list : List Finished) → IsIn it list → IsIn (finished_line number trace it) (finished_lines number trace list)
finished_in number trace it [] is_in = absurd is_in
finished_in number trace it (x ∷ rest) (inl same) = in_right (finished_line number trace it) (finished_lines number trace rest) (finished_line number trace x ∷ []) (inl (ap (finished_line number trace) same))
finished_in number trace it (x ∷ rest) (inr more) = in_left (finished_line number trace it) (finished_lines number trace rest) (finished_line number trace x ∷ []) (finished_in number trace it rest more)

-- what has finished is what was told
pub record ToldPolled (t : Told) (f : List Finished) (it : Finished) : Type 0 where
  pub left : ℕ
  pub polled : t ≡ told.Polled left
  pub is_in : IsIn it f

not_polled : (given other : Answer) (it : Finished) → given ≡ other → (HasFinished other it → ⊥) → HasFinished given it → ⊥
not_polled given other it e none has = none (subst (λ (x : Answer). HasFinished x it) e has)

pub told_polled : (t : Told) (f : List Finished) (given : Answer) (it : Finished) → IsAnswerTold t f given → HasFinished given it → ToldPolled t f it
told_polled (told.Polled left) f (answer.Polled list count) it is has = record { left = left; polled = refl; is_in = subst (IsIn it) is.0 has }
told_polled (told.Polled left) f given it is has = absurd is
told_polled (told.Done s r) f given it is has = absurd (not_polled given _ it is (λ x. x) has)
told_polled (told.Pending s why) f given it is has = absurd (not_polled given _ it is (λ x. x) has)
told_polled (told.Found value) f given it is has = absurd (not_polled given _ it is (λ x. x) has)
told_polled told.Absent f given it is has = absurd (not_polled given _ it is (λ x. x) has)
told_polled (told.PendingRead ticket) f given it is has = absurd (not_polled given _ it is (λ x. x) has)
told_polled (told.Refreshed phase version) f given it is has = absurd (not_polled given _ it is (λ x. x) has)
told_polled (told.Woken phase version) f given it is has = absurd (not_polled given _ it is (λ x. x) has)
told_polled told.Slept f given it is has = absurd (not_polled given _ it is (λ x. x) has)
told_polled (told.Durable s) f given it is has = absurd (not_polled given _ it is (λ x. x) has)
told_polled (told.Refused why) f given it is has = absurd (not_polled given _ it is (λ x. x) has)

-- a poll that is over as it begins has finished nothing
none_at : (k : Seat) (s : SessionState) (found : Option PendingRequest) (t : Told) → s.wants_turn ≡ false → s.finished ≡ [] → (polls_request k s 0 found).step ≡ Idle t → (polls_request k s 0 found).finished ≡ []
none_at k s None t plain list e = rw plain list
none_at k s (Some pending) t plain list e = list

none_at_once : (k : Seat) (s : SessionState) (left : ℕ) → (session_begun k s call.Poll).step ≡ Idle (told.Polled left) → (session_begun k s call.Poll).finished ≡ []
unfolding poll_call polls_at
none_at_once k s left e = by_awake s.is_awake e
  where
    cleared : SessionState
    cleared = record s { asks = 0; effect = None; wants_turn = false }

    by_orphan : (c : Bool) → (if c then record cleared { finished = []; mailing = LoadsState Clear; step = ClearsMail } else polls_request k (record s { asks = 0; effect = None; wants_turn = false; finished = [] }) 0 (slice_get s.requests 0)).step ≡ Idle (told.Polled left)
        → (if c then record s { asks = 0; effect = None; wants_turn = false; finished = []; mailing = LoadsState Clear; step = ClearsMail } else polls_request k (record s { asks = 0; effect = None; wants_turn = false; finished = [] }) 0 (slice_get s.requests 0)).finished ≡ []
    by_orphan true e = refl
    by_orphan false e = none_at k (record s { asks = 0; effect = None; wants_turn = false; finished = [] }) (slice_get s.requests 0) (told.Polled left) refl refl e

    by_awake : (c : Bool) → (if c then poll_begun k (record s { asks = 0; effect = None; wants_turn = false; finished = [] }) else refuses (record s { asks = 0; effect = None; wants_turn = false }) fault.Asleep).step ≡ Idle (told.Polled left)
        → (if c then poll_begun k (record s { asks = 0; effect = None; wants_turn = false; finished = [] }) else refuses (record s { asks = 0; effect = None; wants_turn = false }) fault.Asleep).finished ≡ []
    by_awake true e = by_orphan s.is_orphaned e
    by_awake false e = cc

few_before : (later before : List Event) → HasFewCalls (later ++ before) → HasFewCalls before
few_before [] before few = few
few_before (event ∷ later) before few = few_before later before (before_few event (later ++ before) few)

module _ (in_turn : GivesTicketsInTurn) {K : Type 0} (at : K → World) (key : K) (asked poll : CallRun) (ran : HasRun at key asked) (polled : HasRun at key poll) (k : Key) (reply : Reply) (its : IsPolledRead asked poll k reply) (few : HasFewCalls (events_of poll.behind)) where
  abbrev number : ℕ
  number = poll.number

  abbrev ticket : Ticket
  ticket = its.ticket

  abbrev value : Option Value
  value = its.value

  abbrev trace_at : List Happening → List Traced
  trace_at es = (run (at key) (events_of es)).past.trace

  abbrev first_rest : List Happening
  first_rest = earlier at key asked ran

  abbrev rest : List Happening
  rest = earlier at key poll polled

  in_run : (es : List Happening) → (led (plane at) (at key) es).past.trace ≡ trace_at es
  in_run es = ap (λ (w : World). w.past.trace) (led_run at (at key) es)

  abbrev reader : ℕ
  reader = length (led (plane at) (at key) first_rest).past.trace

  abbrev asked_told : IsToldIn at (at key) asked.number asked.call first_rest (since_call at key asked ran) (told.PendingRead ticket) ran.answered.finished
  asked_told = subst (λ (x : Told). IsToldIn at (at key) asked.number asked.call first_rest (since_call at key asked ran) x ran.answered.finished) (same_told ran.answered.its ran.answered.finished asked.answer ran.answered.told ∙ ap told_with its.waits) (is_told at key asked ran)

  abbrev asked_trace : List Traced
  asked_trace = asked_told.more ++ seen_called asked_told.began asked.number asked.call (led (plane at) (at key) first_rest).past.trace

  asked_so : trace_at asked.behind ≡ seen_answered asked_told.effects number (told.PendingRead ticket) asked_told.finished asked_trace
  asked_so = ap trace_at ran.called.so ∙ (sym (in_run (since_call at key asked ran)) ∙ (asked_told.so ∙ ap (λ (n : ℕ). seen_answered asked_told.effects n (told.PendingRead ticket) asked_told.finished asked_trace) (sym its.same)))

  waits_there : read_waiting number ticket.0 (trace_at asked.behind) ≡ reader
  waits_there =
      ap (read_waiting number ticket.0) asked_so
      ∙ (waits_now number ticket (telling (told.PendingRead ticket) asked_told.finished) asked_told.effects asked_trace refl
      ∙ (ap (λ (n : ℕ). read_in_hand n asked_trace) its.same
      ∙ (hand_kept asked.number asked_told.more _ asked_told.others ∙ called_hand asked_told.began asked.number asked.call _)))

  given_there : 1 ≤ times_given number ticket.0 (trace_at asked.behind)
  given_there = subst (λ (x : List Traced). 1 ≤ times_given number ticket.0 x) (sym asked_so) (given_now number ticket (telling (told.PendingRead ticket) asked_told.finished) asked_told.effects asked_trace refl)

  -- between the call and the poll no ticket comes again
  abbrev between : List Happening
  between = polled.called.others ++ its.later

  whole_rest : rest ≡ between ++ asked.behind
  whole_rest = ap (λ (es : List Happening). polled.called.others ++ es) its.behind ∙ sym (append_assoc polled.called.others its.later asked.behind)

  few_rest : HasFewCalls (events_of rest)
  few_rest =
      few_before (events_of (polled.called.steps ++ Calls number poll.call ∷ [])) (events_of rest)
      (subst HasFewCalls (ap events_of (polled.called.so ∙ sym (append_assoc polled.called.steps (Calls number poll.call ∷ []) rest)) ∙ events_both (polled.called.steps ++ Calls number poll.call ∷ []) rest) few)

  once : times_given number ticket.0 (trace_at rest) ≤ 1
  once = once_given in_turn (at key) (events_of rest) number ticket.0 (first at key poll polled) polled.ready.opened.opening.opened few_rest
      (ap (λ (w : World). slice_get w.now.sessions number) (sym (led_run at (at key) rest)) ∙ was at key poll polled) (idle at key poll polled)

  waits_rest : read_waiting number ticket.0 (trace_at rest) ≡ reader
  waits_rest =
      let behind = trace_behind (at key) between (events_of asked.behind) in
      let same : trace_at rest ≡ behind.later ++ trace_at asked.behind = ap trace_at whole_rest ∙ (ap (λ (es : List Event). (run (at key) es).past.trace) (events_both between asked.behind) ∙ behind.whole) in
      ap (read_waiting number ticket.0) same
      ∙ (waits_on number ticket.0 behind.later (trace_at asked.behind) given_there (subst (λ (x : List Traced). times_given number ticket.0 x ≤ 1) same once) ∙ waits_there)

  poll_line : (left : ℕ) (list : List Finished) (es : List Happening) (step : ByStep at (at key) number poll.call rest (told.Polled left) list es) → IsIn (finished.Read ticket value) list
      → IsIn (AnswersRead reader (read_reply value)) (event_adds (at key) (events_of (step.between ++ Calls number poll.call ∷ rest)) (event_of (Moves number)))
  poll_line left list es step is_in =
      let mid : List Happening = step.between ++ Calls number poll.call ∷ rest in
      let w : World = led (plane at) (at key) mid in
      let waits : read_waiting number ticket.0 w.past.trace ≡ reader =
      ap (read_waiting number ticket.0) step.hand.so ∙ (others_wait number ticket.0 step.hand.since _ step.hand.others ∙ (ap (read_waiting number ticket.0) (in_run rest) ∙ waits_rest)) in
      to_run at key poll polled (AnswersRead reader (read_reply value)) mid (event_of (Moves number))
      (subst (λ (told : List TraceEvent). IsIn (AnswersRead reader (read_reply value)) (lines_added (serials_in (at key).now) w.past.trace (told_at (length (happens w (event_of (Moves number))).past.history) told))) (sym step.adds)
      (oldest_added (serials_in (at key).now) w.past.trace (length (happens w (event_of (Moves number))).past.history) [] (Answered number (telling (told.Polled left) list)) (AnswersRead reader (read_reply value))
      (subst (λ (x : ℕ). IsIn (AnswersRead x (read_reply value)) (finished_lines number w.past.trace list)) waits (finished_in number w.past.trace (finished.Read ticket value) list is_in))))

  module _ (o : Opened) (n : Now) (bytes : List ℕ) (over : IsOver at key o n bytes) (law : ReadsInTime o n bytes (events_of poll.behind)) where
    abbrev start : Happening
    start = Calls asked.number asked.call

    by_step : (left : ℕ) (list : List Finished) → IsIn (finished.Read ticket value) list → ByStep at (at key) number poll.call rest (told.Polled left) list (since_call at key poll polled)
        → IsInTime (opening_map bytes o) (history_seen n bytes asked.before) (history_seen n bytes poll.behind) k.0 (read_reply value)
    by_step left list is_in step =
        let mid : List Happening = step.between ++ Calls number poll.call ∷ rest in
        let since : List Happening = step.between ++ Calls number poll.call ∷ (between ++ ran.called.steps) in
        let same : mid ≡ since ++ start ∷ first_rest =
        ap (λ (es : List Happening). step.between ++ Calls number poll.call ∷ es) (whole_rest ∙ (ap (λ (es : List Happening). between ++ es) ran.called.so ∙ sym (append_assoc between ran.called.steps (start ∷ first_rest))))
        ∙ sym (append_assoc step.between (Calls number poll.call ∷ (between ++ ran.called.steps)) (start ∷ first_rest)) in
        let whole : poll.behind ≡ step.later ++ Moves number ∷ (since ++ start ∷ first_rest) = polled.called.so ∙ (step.all ∙ ap (λ (es : List Happening). step.later ++ Moves number ∷ es) same) in
        widened (opening_map bytes o) (history_seen n bytes asked.before) (history_seen n bytes (start ∷ first_rest)) (history_seen n bytes (Moves number ∷ (since ++ start ∷ first_rest))) (history_seen n bytes poll.behind) k.0 (read_reply value)
        (begins_with n bytes (start ∷ ran.called.others) asked.before)
        (subst (λ (es : List Happening). IsBeginning (history_seen n bytes (Moves number ∷ (since ++ start ∷ first_rest))) (history_seen n bytes es)) (sym whole) (begins_with n bytes step.later (Moves number ∷ (since ++ start ∷ first_rest))))
        (seen_in_time o n bytes step.later since first_rest start (Moves number) reader k.0 (read_reply value) (subst (λ (es : List Happening). ReadsInTime o n bytes (events_of es)) whole law)
        (subst (λ (w : World). IsIn (CallsRead reader k.0) (event_adds w (events_of first_rest) (event_of start))) over.same (call_line at key asked ran k its.reads))
        (subst (λ (x : World × List Happening). IsIn (AnswersRead reader (read_reply value)) (event_adds x.0 (events_of x.1) (event_of (Moves number)))) (λ i. (over.same i, same i)) (poll_line left list (since_call at key poll polled) step is_in)))

    by_how : (left : ℕ) (list : List Finished) → IsIn (finished.Read ticket value) list → Answering at (at key) number poll.call rest (told.Polled left) list (since_call at key poll polled)
        → IsInTime (opening_map bytes o) (history_seen n bytes asked.before) (history_seen n bytes poll.behind) k.0 (read_reply value)
    by_how left list is_in (AtOnce s begun is_list) =
        let w : World = led (plane at) (at key) rest in
        let seat : Seat = world.seat_at w.now number in
        let none : list ≡ [] = sym is_list ∙ (ap (λ (c : Call). (session_begun seat s c).finished) its.polls ∙ none_at_once seat s left (ap (λ (c : Call). (session_begun seat s c).step) (sym its.polls) ∙ begun)) in
        absurd (subst (IsIn (finished.Read ticket value)) none is_in)
    by_how left list is_in (InTurn step) = by_step left list is_in step

    pub polls_so : IsReadSince o n bytes asked.before poll.behind k reply
    polls_so =
        let how = told_polled polled.answered.its polled.answered.finished poll.answer (finished.Read ticket value) polled.answered.told its.has_finished in
        let its_telling : IsToldIn at (at key) number poll.call rest (since_call at key poll polled) (told.Polled how.left) polled.answered.finished =
        subst (λ (x : Told). IsToldIn at (at key) number poll.call rest (since_call at key poll polled) x polled.answered.finished) how.polled (is_told at key poll polled) in
        subst (λ (told : Reply). IsReadSince o n bytes asked.before poll.behind k told) (sym its.told)
        (by_how how.left its_telling.finished (subst (IsIn (finished.Read ticket value)) (sym its_telling.same) how.is_in) its_telling.how)

-- ---- updates that a poll says are finished
polled_line : (numbers : ℕ → ℕ) (number effects left : ℕ) (list : List Finished) (before : List Traced) (serial : Serial) (reply : Reply) → IsIn (finished.Update serial reply) list
    → IsIn (GivesResult number serial.0 reply) (lines_of numbers (seen_answered effects number (told.Polled left) list before))
unfolding lines_of
polled_line numbers number effects left list before serial reply is_in =
    in_left (GivesResult number serial.0 reply) (finished_lines number before list) (lines_of numbers before) (finished_in number before (finished.Update serial reply) list is_in)

pub finished_so : {K : Type 0} (at : K → World) (key : K) (o : Opened) (n : Now) (bytes : List ℕ) (its : CallRun) → IsOver at key o n bytes → HasRun at key its → OrdersItsCalls o n bytes (events_of its.behind) → FinishedIsSeen o n bytes its
finished_so at key o n bytes its over ran law serial reply has =
    let how = told_polled ran.answered.its ran.answered.finished its.answer (finished.Update serial reply) ran.answered.told has in
    let its_telling : IsToldIn at (at key) its.number its.call (earlier at key its ran) (since_call at key its ran) (told.Polled how.left) ran.answered.finished =
    subst (λ (x : Told). IsToldIn at (at key) its.number its.call (earlier at key its ran) (since_call at key its ran) x ran.answered.finished) how.polled (is_told at key its ran) in
    let before : List Traced = its_telling.more ++ seen_called its_telling.began its.number its.call (led (plane at) (at key) (earlier at key its ran)).past.trace in
    let so : (run (beginning n bytes) (events_of its.behind)).past.trace ≡ seen_answered its_telling.effects its.number (told.Polled how.left) its_telling.finished before =
    (λ i. (run (sym over.same i) (events_of (ran.called.so i))).past.trace) ∙ (sym (ap (λ (w : World). w.past.trace) (led_run at (at key) (since_call at key its ran))) ∙ its_telling.so) in
    law.given its.number serial.0 reply
    (subst (λ (x : List Traced). IsIn (GivesResult its.number serial.0 reply) (lines_of (serials_in n) x)) (sym so)
    (polled_line (serials_in n) its.number its_telling.effects how.left its_telling.finished before serial reply (subst (IsIn (finished.Update serial reply)) (sym its_telling.same) how.is_in)))
