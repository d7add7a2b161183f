-- A call that was run: how it was answered, and what callers have seen of it.
use Rattle.std.proofs.Common.{◌≡◌, inl, inr, ℕ, ◌∙◌, refl, sym, ap, subst, arith, true, false, List, [], ◌∷◌, ◌++◌, length, append_assoc}
use Rattle.std.specs.Prelude.{Option, Some, None, slice_get, ◌==◌}
use Rattle.std.proofs.lemmas.Bool.Decides.{nat_tests}
use Rattle.fkv_base.specs.declared.faults.Fault.{Fault}
use Rattle.fkv_map.specs.declared.operations.Call.{Call}
use Rattle.fkv_map.specs.declared.operations.Op.{Op}
use Rattle.fkv_map.specs.declared.operations.Reply.{Reply}
use Rattle.fkv_map.specs.declared.operations.Reply.TheVariants as reply
use Rattle.fkv_seats.specs.declared.views.Role.TheVariants.{Sits}
use Rattle.fkv_seats.specs.Rule.{Quiet, led}
use Rattle.law_order.specs.Below.fkv_session.Answer.{Answer}
use Rattle.law_order.specs.Below.fkv_session.Answer.TheVariants as answer
use Rattle.law_order.specs.Below.fkv_session.Finished.{Finished}
use Rattle.law_order.specs.Below.fkv_session.Told.{Told}
use Rattle.law_order.specs.Below.fkv_session.Told.TheVariants as told
use Rattle.law_order.specs.Below.fkv_session.Sitting.TheVariants.{Idle}
use Rattle.law_order.specs.Below.fkv_session.Answers.{IsAnswerTold}
use Rattle.law_order.specs.Below.fkv_session.SessionRun.{Telling, telling, with_finished}
use Rattle.law_order.specs.Below.fkv_session.Sessions.{Seat, SessionState, attempts, is_busy, op_begun}
use Rattle.law_order.specs.Below.fkv_world.Past.{Traced, TraceEvent, Called, Answered}
use Rattle.law_order.specs.Below.fkv_world.Runs.{World}
use Rattle.law_order.specs.Below.fkv_world.World.{Now}
use Rattle.law_log.specs.Trace.{AnswersRead, IsIn, TraceLine}
use Rattle.law_order.specs.Below.law_world.Runs.Added.{told_at}
use Rattle.law_order.specs.Below.law_refine.Events.Lines.{answer_lines, event_lines, lines_added, read_in_hand}
use Rattle.law_order.proofs.Below.law_refine.OfCalls.Called.{is_other}
use Rattle.law_order.proofs.OfReads.Numbers.{other_hand}
use Rattle.fkv_table.specs.Calls.{AreOthers, IsToldLast}
use Rattle.fkv_table.specs.declared.happenings.Happening.{Happening}
use Rattle.fkv_table.specs.declared.happenings.Happening.TheVariants.{Calls}
use Rattle.fkv_table.specs.Planes.{plane}
use Rattle.fkv_table.proofs.Lives.{quiet_session}
use Rattle.law_threads.specs.Calls.{CallRun, HasRun}
use Rattle.law_threads.specs.Threads.{IsBeginning, history_seen, read_told}
use Rattle.law_threads.proofs.Course.{Answering, Course, Going, OfOthers, Over, course, seen_answered, seen_called}
use Rattle.law_threads.proofs.Histories.{begins_with}

pub same_number : (n : ℕ) → (n == n) ≡ true
same_number n = grind (arith, nat_tests)

not_true : true ≡ false → ⊥
not_true e = cc

quiet_so : {K : Type 0} (at : K → World) (number : ℕ) (xs : List Happening) → AreOthers number xs → Quiet (plane at) (Sits number) xs
quiet_so at number [] others = tt
quiet_so at number (x ∷ xs) others = (others.0, quiet_so at number xs others.1)

-- ---- the trace behind it
head_same : (x y : Traced) (xs ys : List Traced) → x ∷ xs ≡ y ∷ ys → x.its ≡ y.its
head_same x y xs ys e = cc

tail_same : (x y : Traced) (xs ys : List Traced) → x ∷ xs ≡ y ∷ ys → xs ≡ ys
tail_same x y xs ys e = cc

answers_own : (number : ℕ) (its : Telling) (event : TraceEvent) → is_other number event → event ≡ Answered number its → ⊥
answers_own number its event other is = not_true (sym (same_number number) ∙ subst (λ (x : TraceEvent). is_other number x) is other)

call_answers : (number other : ℕ) (its : Call) (telling : Telling) → Called number its ≡ Answered other telling → ⊥
call_answers number other its telling e = cc

told_same : (number : ℕ) (its other : Told) (f g : List Finished) → Answered number (telling its f) ≡ Answered number (telling other g) → its ≡ other
told_same number its other f g e = ap (λ (x : TraceEvent). told_of x) e
  where
    told_of : TraceEvent → Told
    told_of (Answered session t) = t.its
    told_of event = its

list_same : (number : ℕ) (its other : Told) (f g : List Finished) → Answered number (telling its f) ≡ Answered number (telling other g) → with_finished its f ≡ with_finished other g
list_same number its other f g e = ap (λ (x : TraceEvent). list_of x) e
  where
    list_of : TraceEvent → List Finished
    list_of (Answered session t) = t.finished
    list_of event = []

in_hand_tells_none : (number effects eff : ℕ) (its : Call) (telling : Telling) (since trace before earlier : List Traced) → OfOthers number since → trace ≡ since ++ seen_called effects number its earlier
    → trace ≡ record { its = Answered number telling; effects = eff } ∷ before → ⊥
in_hand_tells_none number effects eff its telling [] trace before earlier others so newest = call_answers number number its telling (head_same _ _ _ _ (sym so ∙ newest))
in_hand_tells_none number effects eff its telling (x ∷ since) trace before earlier others so newest = answers_own number telling x.its others.0 (head_same _ _ _ _ (sym so ∙ newest))

none_since : (number eff : ℕ) (telling : Telling) (since trace before behind : List Traced) → OfOthers number since → trace ≡ since ++ behind → trace ≡ record { its = Answered number telling; effects = eff } ∷ before → since ≡ []
none_since number eff telling [] trace before behind others so newest = refl
none_since number eff telling (x ∷ since) trace before behind others so newest = absurd (answers_own number telling x.its others.0 (head_same _ _ _ _ (sym so ∙ newest)))

module _ {K : Type 0} (at : K → World) (opening : World) (number : ℕ) (its : Call) (rest : List Happening) where
  -- how the call was answered, and what callers see of it behind that
  pub record IsToldIn (behind : List Happening) (t : Told) (list : List Finished) : Type 0 where
    pub s : SessionState
    pub found : slice_get (led (plane at) opening behind).now.sessions number ≡ Some s
    pub idle : is_busy s.step ≡ false
    pub finished : List Finished
    pub same : with_finished t finished ≡ with_finished t list
    pub how : Answering at opening number its rest t finished behind
    pub effects : ℕ
    pub more : List Traced
    pub others : OfOthers number more
    pub began : ℕ
    pub so : (led (plane at) opening behind).past.trace ≡ seen_answered effects number t finished (more ++ seen_called began number its (led (plane at) opening rest).past.trace)

  told_in : (behind : List Happening) (t : Told) (list : List Finished) → IsToldLast (led (plane at) opening behind) number (telling t list) → Course at opening number its rest behind → IsToldIn behind t list
  told_in behind t list last (Going hand) = absurd (in_hand_tells_none number hand.effects (length (led (plane at) opening behind).past.history) its (telling t list) hand.since _ last.before _ hand.others hand.so last.newest)
  told_in behind t list last (Over e) =
      let none : e.since ≡ [] = none_since number (length (led (plane at) opening behind).past.history) (telling t list) e.since _ last.before _ e.others e.so last.newest in
      let so : (led (plane at) opening behind).past.trace ≡ seen_answered e.effects number e.its e.finished (e.more ++ seen_called e.began number its (led (plane at) opening rest).past.trace) =
      e.so ∙ ap (λ (x : List Traced). x ++ seen_answered e.effects number e.its e.finished (e.more ++ seen_called e.began number its (led (plane at) opening rest).past.trace)) none in
      let same : e.its ≡ t = told_same number e.its t e.finished list (head_same _ _ _ _ (sym so ∙ last.newest)) in
      let all : with_finished t e.finished ≡ with_finished t list = ap (λ (x : Told). with_finished x e.finished) (sym same) ∙ list_same number e.its t e.finished list (head_same _ _ _ _ (sym so ∙ last.newest)) in
      subst (λ (x : Told). with_finished x e.finished ≡ with_finished x list → IsToldIn behind x list) same (λ listed. record { same = listed; s = e.s; found = e.found; idle = e.idle; finished = e.finished; how = e.how; effects = e.effects; more = e.more; others = e.more_others; began = e.began; so = so }) all

module _ {K : Type 0} (at : K → World) (key : K) (its : CallRun) (run : HasRun at key its) where
  -- what stands in the list before the call's start
  abbrev pub earlier : List Happening
  earlier = run.called.others ++ its.before

  abbrev pub since_call : List Happening
  since_call = run.called.steps ++ Calls its.number its.call ∷ earlier

  pub goes_on : (at key).now.crashed ≡ false
  goes_on = run.ready.opened.opening.opened.goes_on

  abbrev pub first : SessionState
  first = run.ready.rests.seated.first

  pub was : slice_get (led (plane at) (at key) earlier).now.sessions its.number ≡ Some first
  was = quiet_session at (at key) its.number run.called.others its.before (quiet_so at its.number run.called.others run.called.quiet)
      ∙ ((λ i. slice_get (led (plane at) (at key) (sym run.seen i)).now.sessions (sym run.number i)) ∙ run.ready.rests.seated.was)

  pub idle : is_busy first.step ≡ false
  idle = ap (λ (s : SessionState). is_busy s.step) (sym run.ready.rests.seated.state) ∙ run.ready.rests.idle

  its_course : Course at (at key) its.number its.call earlier since_call
  its_course = course at (at key) its.number its.call earlier goes_on first was idle run.called.steps run.called.only

  pub is_told : IsToldIn at (at key) its.number its.call earlier since_call run.answered.its run.answered.finished
  is_told = told_in at (at key) its.number its.call earlier since_call run.answered.its run.answered.finished
      (subst (λ (x : List Happening). IsToldLast (led (plane at) (at key) x) its.number (telling run.answered.its run.answered.finished)) run.called.so run.answered.last) its_course

  -- it begins with what had been seen
  pub begins_so : (n : Now) (bytes : List ℕ) → IsBeginning (history_seen n bytes its.before) (history_seen n bytes its.behind)
  begins_so n bytes =
      subst (λ (x : List Happening). IsBeginning (history_seen n bytes its.before) (history_seen n bytes x))
      (append_assoc run.called.steps (Calls its.number its.call ∷ run.called.others) its.before ∙ sym run.called.so)
      (begins_with n bytes (run.called.steps ++ Calls its.number its.call ∷ run.called.others) its.before)

-- what was told, by the answer
abbrev pub told_with : Answer → Told
told_with (answer.Done serial r) = told.Done serial r
told_with (answer.Pending serial why) = told.Pending serial why
told_with (answer.Found value) = told.Found value
told_with answer.Absent = told.Absent
told_with (answer.PendingRead ticket) = told.PendingRead ticket
told_with (answer.Refreshed phase version) = told.Refreshed phase version
told_with (answer.Woken phase version) = told.Woken phase version
told_with (answer.Polled list left) = told.Polled left
told_with answer.Slept = told.Slept
told_with (answer.Durable serial) = told.Durable serial
told_with (answer.Refused why) = told.Refused why

pub same_told : (t : Told) (f : List Finished) (given : Answer) → IsAnswerTold t f given → t ≡ told_with given
same_told (told.Done serial r) f given is = sym (ap told_with is)
same_told (told.Pending serial why) f given is = sym (ap told_with is)
same_told (told.Found value) f given is = sym (ap told_with is)
same_told told.Absent f given is = sym (ap told_with is)
same_told (told.PendingRead ticket) f given is = sym (ap told_with is)
same_told (told.Refreshed phase version) f given is = sym (ap told_with is)
same_told (told.Woken phase version) f given is = sym (ap told_with is)
same_told (told.Polled left) f (answer.Polled list count) is = ap (λ (n : ℕ). told.Polled n) (sym is.1)
same_told (told.Polled left) f given is = absurd is
same_told told.Slept f given is = sym (ap told_with is)
same_told (told.Durable serial) f given is = sym (ap told_with is)
same_told (told.Refused why) f given is = sym (ap told_with is)

-- ---- lines
pub in_left : (line : TraceLine) (xs ys : List TraceLine) → IsIn line xs → IsIn line (xs ++ ys)
in_left line [] ys is_in = absurd is_in
in_left line (x ∷ xs) ys (inl same) = inl same
in_left line (x ∷ xs) ys (inr more) = inr (in_left line xs ys more)

pub in_right : (line : TraceLine) (xs ys : List TraceLine) → IsIn line ys → IsIn line (xs ++ ys)
in_right line [] ys is_in = is_in
in_right line (x ∷ xs) ys is_in = inr (in_right line xs ys is_in)

-- the lines of the oldest of what is told
pub oldest_added : (first : ℕ → ℕ) (before : List Traced) (effects : ℕ) (xs : List TraceEvent) (it : TraceEvent) (line : TraceLine) → IsIn line (event_lines first before it) → IsIn line (lines_added first before (told_at effects (xs ++ it ∷ [])))
unfolding lines_added
oldest_added first before effects [] it line is_in = in_left line (event_lines first before it) [] is_in
oldest_added first before effects (x ∷ xs) it line is_in = in_right line _ (lines_added first before (told_at effects (xs ++ it ∷ []))) (oldest_added first before effects xs it line is_in)

-- the number of a read in hand
pub hand_kept : (number : ℕ) (since earlier : List Traced) → OfOthers number since → read_in_hand number (since ++ earlier) ≡ read_in_hand number earlier
hand_kept number [] earlier others = refl
hand_kept number (it ∷ since) earlier others = other_hand number it (since ++ earlier) others.0 ∙ hand_kept number since earlier others.1

-- ---- a read's answer
pub no_reply : (its : Reply) → ◌≡◌ {A = Option Reply} None (Some its) → ⊥
no_reply its e = cc

same_some : (its other : Reply) → ◌≡◌ {A = Option Reply} (Some its) (Some other) → its ≡ other
same_some its other e = cc

polled_none : (f : List Finished) (left : ℕ) (given : Answer) (its : Reply) → IsAnswerTold (told.Polled left) f given → read_told given ≡ Some its → ⊥
polled_none f left (answer.Polled list count) its is e = no_reply its e
polled_none f left given its is e = absurd is

pub reads_line : (first : ℕ → ℕ) (number : ℕ) (trace : List Traced) (t : Told) (f list : List Finished) (given : Answer) (its : Reply) → IsAnswerTold t f given → read_told given ≡ Some its
    → answer_lines first trace number t list ≡ AnswersRead (read_in_hand number trace) its ∷ []
reads_line first number trace (told.Found value) f list given its is e = ap (λ (x : Reply). AnswersRead (read_in_hand number trace) x ∷ []) (same_some (reply.Found value) its (sym (ap read_told is) ∙ e))
reads_line first number trace told.Absent f list given its is e = ap (λ (x : Reply). AnswersRead (read_in_hand number trace) x ∷ []) (same_some reply.Absent its (sym (ap read_told is) ∙ e))
reads_line first number trace (told.Done serial r) f list given its is e = absurd (no_reply its (sym (ap read_told is) ∙ e))
reads_line first number trace (told.Pending serial why) f list given its is e = absurd (no_reply its (sym (ap read_told is) ∙ e))
reads_line first number trace (told.PendingRead ticket) f list given its is e = absurd (no_reply its (sym (ap read_told is) ∙ e))
reads_line first number trace (told.Refreshed phase version) f list given its is e = absurd (no_reply its (sym (ap read_told is) ∙ e))
reads_line first number trace (told.Woken phase version) f list given its is e = absurd (no_reply its (sym (ap read_told is) ∙ e))
reads_line first number trace (told.Polled left) f list given its is e = absurd (polled_none f left given its is e)
reads_line first number trace told.Slept f list given its is e = absurd (no_reply its (sym (ap read_told is) ∙ e))
reads_line first number trace (told.Durable serial) f list given its is e = absurd (no_reply its (sym (ap read_told is) ∙ e))
reads_line first number trace (told.Refused why) f list given its is e = absurd (no_reply its (sym (ap read_told is) ∙ e))

-- an operation that is answered as it begins is refused
pub refused_at_once : (k : Seat) (s : SessionState) (op : Op) (why : Option Fault) (t : Told) → (op_begun k s op why).step ≡ Idle t → (cause : Fault) × (t ≡ told.Refused cause)
unfolding op_begun attempts
refused_at_once k s op (Some why) t e = (why, sym (told_of e))
  where
    told_of : Idle (told.Refused why) ≡ Idle t → told.Refused why ≡ t
    told_of e = cc
refused_at_once k s op None t e = cc
