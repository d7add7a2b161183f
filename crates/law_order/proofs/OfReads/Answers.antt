-- The lines of a call's end: each answer of a read is enabled, and the session's reads stand in the trace as they did before it.
use Rattle.std.proofs.Common.{◌≡◌, ◌≢◌, ℕ, ◌∙◌, refl, sym, ap, subst, append_assoc, Bool, true, false, List, [], ◌∷◌, ◌++◌}
use Rattle.std.specs.Prelude.{⊤, if◌then◌else◌, map, Option, Some, None}
use Rattle.fkv_map.specs.declared.operations.Call.{Call}
use Rattle.fkv_map.specs.declared.operations.Call.TheVariants as call
use Rattle.fkv_map.specs.declared.operations.Op.{Op}
use Rattle.fkv_map.specs.declared.operations.Op.TheVariants as op
use Rattle.fkv_base.specs.declared.numbers.Value.{Value}
use Rattle.fkv_map.specs.Keys.{key_of, as_number}
use Rattle.fkv_map.specs.Map.{reply_to_read}
use Rattle.law_log.specs.Ghosts.{Ghosts, Tells, Reading, ghosts_after, ghost_run}
use Rattle.law_log.specs.Trace.{TraceLine, GivesResult, CallsRead, AnswersRead}
use Rattle.law_log.proofs.Shown.{set_else}
use Rattle.law_commit.specs.Below.fkv_pending.PendingRequest.{PendingRequest}
use Rattle.law_commit.specs.Below.fkv_pending.Attempting.{AttemptState, is_poll}
use Rattle.law_commit.specs.Below.fkv_session.Finished.{Finished}
use Rattle.law_commit.specs.Below.fkv_session.Finished.TheVariants as finished
use Rattle.law_commit.specs.Below.fkv_session.Told.{Told}
use Rattle.law_commit.specs.Below.fkv_session.Told.TheVariants as told
use Rattle.law_commit.specs.Below.fkv_session.CatchCause.{CatchCause}
use Rattle.law_commit.specs.Below.fkv_session.CatchCause.TheVariants.{Shifts}
use Rattle.law_commit.specs.Below.fkv_session.Sitting.{Sitting}
use Rattle.law_commit.specs.Below.fkv_session.Sitting.TheVariants.{Idle, Attempts, CatchesUp, ClearsMail, Polls, StoresOwing, Turns}
use Rattle.law_commit.specs.Below.fkv_session.SessionRun.{telling, with_finished}
use Rattle.law_commit.specs.Below.fkv_session.Sessions.{SessionState, is_busy}
use Rattle.law_commit.specs.Below.law_local.Tries.ReadRows.{IsCalledFor, HasRead, SoughtReads, AttemptReads}
use Rattle.law_commit.specs.Below.law_local.Tries.TryRows.{key_in}
use Rattle.law_commit.specs.Below.law_world.Runs.Added.{call_answered, told_at}
use Rattle.law_commit.specs.Below.fkv_world.Past.{Traced, Answered}
use Rattle.law_order.specs.Known.Answered.{EachAnswered}
use Rattle.law_commit.specs.Below.law_refine.Events.Lines.{CallMade, read_in_hand, read_waiting, is_ticket, gives_ticket, read_reply, next_serial, last_call, refused_call, refused_lines, finished_line, finished_lines, answer_lines}
use Rattle.law_commit.specs.Below.law_refine.Events.Sessions.{ticket_of}
use Rattle.law_order.specs.Reads.Reads.{SessionReadings, is_given, readings_of, WaitsSo, AllWait, TriedAs, AllFinished, CatchReads, TurnReads, SitsReads}
use Rattle.law_order.proofs.OfReads.Coming.{with_told, TellsReads, ComesTo}
use Rattle.law_order.proofs.OfReads.Numbers.{with_answered, answered_gives}

-- ---- the same readings
-- as far as they are asked for
pub record AreSame (r after : SessionReadings) (busy : Bool) : Type 0 where
  pub given : (ticket : ℕ) → after.given ticket ≡ r.given ticket
  pub waiting : (ticket : ℕ) → r.given ticket ≡ true → after.waiting ticket ≡ r.waiting ticket
  pub in_hand : busy ≡ true → after.in_hand ≡ r.in_hand

same_waits : (r after : SessionReadings) (busy : Bool) (pending : PendingRequest) → AreSame r after busy → WaitsSo r pending → WaitsSo after pending
same_waits r after busy pending same waits read =
    let was = waits read in
    let ticket : ℕ = ticket_of pending.name in
    (same.given ticket ∙ was.0, subst (λ reading. SoughtReads (key_in pending.request) reading pending.sought) (sym (same.waiting ticket was.0)) was.1)

pub same_wait : (r after : SessionReadings) (busy : Bool) (requests : List PendingRequest) → AreSame r after busy → AllWait r requests → AllWait after requests
same_wait r after busy requests same all index pending got = same_waits r after busy pending same (all index pending got)

same_finished : (r after : SessionReadings) (busy : Bool) (its : List Finished) → AreSame r after busy → AllFinished r its → AllFinished after its
same_finished r after busy [] same all = tt
same_finished r after busy (finished.Update serial reply ∷ rest) same all = (tt, same_finished r after busy rest same all.1)
same_finished r after busy (finished.Read ticket value ∷ rest) same all =
    ((same.given ticket.0 ∙ all.0.0, (all.0.1.0, subst (λ reading. HasRead reading all.0.1.0 (as_number value)) (sym (same.waiting ticket.0 all.0.0)) all.0.1.1)), same_finished r after busy rest same all.1)

same_tried : (r after : SessionReadings) (pending : PendingRequest) (in_poll : Bool) (a : AttemptState) → AreSame r after true → TriedAs r pending in_poll a → TriedAs after pending in_poll a
same_tried r after pending true a same tried_so read =
    let was = tried_so read in
    let ticket : ℕ = ticket_of pending.name in
    (λ e. same.given ticket ∙ was.0 e, subst (λ reading. AttemptReads (key_in pending.request) reading a a.step) (sym (same.waiting ticket (was.0 refl))) was.1)
same_tried r after pending false a same tried_so read =
    let was = tried_so read in
    (λ e. never e, subst (λ reading. AttemptReads (key_in pending.request) reading a a.step) (sym (same.in_hand refl)) was.1)
  where
    never : {X : Type 0} → false ≡ true → X
    never e = cc

same_catch : (r after : SessionReadings) (o : Op) (cause : CatchCause) → AreSame r after true → CatchReads r o cause → CatchReads after o cause
same_catch r after o Shifts same reads = λ read. subst (λ reading. IsCalledFor reading (key_of o).0) (sym (same.in_hand refl)) (reads read)
same_catch r after o cause same reads = tt

same_turn : (r after : SessionReadings) (its : List Finished) (answer : Told) → AreSame r after true → TurnReads r its answer → TurnReads after its answer
same_turn r after its (told.Polled left) same reads = same_finished r after true its same reads
same_turn r after its (told.Found value) same reads = absurd reads
same_turn r after its told.Absent same reads = absurd reads
same_turn r after its (told.PendingRead ticket) same reads = absurd reads
same_turn r after its answer same reads = tt

pub same_sits : (r after : SessionReadings) (s : SessionState) (step : Sitting) → AreSame r after (is_busy step) → SitsReads r s step → SitsReads after s step
same_sits r after s (Idle its) same so = same_wait r after false s.requests same so
same_sits r after s (Attempts has_shifted) same so = (same_wait r after true s.requests same so.0, same_tried r after s.attempt.pending (is_poll s.attempt.occasion) s.attempt same so.1)
same_sits r after s (Polls index) same so = (
  λ i pending got other. same_waits r after true pending same (so.0 i pending got other),
  same_tried r after s.attempt.pending (is_poll s.attempt.occasion) s.attempt same so.1,
  same_finished r after true s.finished same so.2,
)
same_sits r after s (CatchesUp cause) same so = (same_wait r after true s.requests same so.0, same_catch r after s.op cause same so.1)
same_sits r after s ClearsMail same so = (same_wait r after true s.requests same so.0, same_finished r after true s.finished same so.1)
same_sits r after s (StoresOwing index) same so = (same_wait r after true s.requests same so.0, same_finished r after true s.finished same so.1)
same_sits r after s (Turns its) same so = (same_wait r after true s.requests same so.0, same_turn r after s.finished its same so.1)
same_sits r after s step same so = same_wait r after true s.requests same so

-- ---- lines that are told
abbrev pub tell : (ℕ → ℕ) → Ghosts → List TraceLine → Ghosts
tell home g lines = ghost_run home g (map Tells lines)

-- a line that calls no read of this number
abbrev pub calls_other : ℕ → TraceLine → Type 0
calls_other reader (CallsRead own key) = reader ≢ own
calls_other reader line = ⊤

abbrev pub AllCallOther : ℕ → List TraceLine → Type 0
AllCallOther reader [] = ⊤
AllCallOther reader (line ∷ before) = calls_other reader line × AllCallOther reader before

pub told_reads : (home : ℕ → ℕ) (g : Ghosts) (lines : List TraceLine) (reader : ℕ) → AllCallOther reader lines → (tell home g lines).reads reader ≡ g.reads reader
unfolding ghost_run ghosts_after
told_reads home g [] reader all = refl
told_reads home g (CallsRead own key ∷ before) reader all = set_else (tell home g before).reads own _ reader all.0 ∙ told_reads home g before reader all.1
told_reads home g (line ∷ before) reader all = told_reads home g before reader all.1

pub both_other : (reader : ℕ) (later before : List TraceLine) → AllCallOther reader later → AllCallOther reader before → AllCallOther reader (later ++ before)
both_other reader [] before one other = other
both_other reader (line ∷ later) before one other = (one.0, both_other reader later before one.1 other)

finished_calls : (reader session : ℕ) (trace : List Traced) (its : Finished) → calls_other reader (finished_line session trace its)
finished_calls reader session trace (finished.Update serial reply) = tt
finished_calls reader session trace (finished.Read ticket value) = tt

all_finished_call : (reader session : ℕ) (trace : List Traced) (its : List Finished) → AllCallOther reader (finished_lines session trace its)
all_finished_call reader session trace [] = tt
all_finished_call reader session trace (it ∷ rest) =
    both_other reader (finished_lines session trace rest) (finished_line session trace it ∷ []) (all_finished_call reader session trace rest) (finished_calls reader session trace it, tt)

refused_call_none : (reader session serial : ℕ) (its : Call) → AllCallOther reader (refused_call session serial its)
refused_call_none reader session serial (call.Op (op.Read key)) = tt
refused_call_none reader session serial (call.Op o) = (tt, tt)
refused_call_none reader session serial its = tt

refused_none : (reader session serial : ℕ) (made : Option CallMade) → AllCallOther reader (refused_lines session serial made)
refused_none reader session serial None = tt
refused_none reader session serial (Some made) = refused_call_none reader session serial made.call

pub answer_calls : (reader : ℕ) (first : ℕ → ℕ) (trace : List Traced) (session : ℕ) (its : Told) (list : List Finished) → AllCallOther reader (answer_lines first trace session its list)
answer_calls reader first trace session (told.Done serial reply) list = (tt, tt)
answer_calls reader first trace session (told.Found value) list = (tt, tt)
answer_calls reader first trace session told.Absent list = (tt, tt)
answer_calls reader first trace session (told.Polled left) list = all_finished_call reader session trace list
answer_calls reader first trace session (told.Refused why) list = refused_none reader session (next_serial first session trace) (last_call session trace)
answer_calls reader first trace session its list = tt

-- ---- each answer is enabled
value_told : (value : Option Value) → read_reply value ≡ reply_to_read (as_number value)
value_told None = refl
value_told (Some value) = refl

finished_each : (home : ℕ → ℕ) (base : Ghosts) (earlier : List TraceLine) (trace : List Traced) (number : ℕ) (its : List Finished) → AllFinished (readings_of (tell home base earlier).reads trace number) its → EachAnswered home base earlier
    → EachAnswered home base (finished_lines number trace its ++ earlier)
unfolding ghost_run ghosts_after
finished_each home base earlier trace number [] so each = each
finished_each home base earlier trace number (finished.Update serial reply ∷ rest) so each =
    subst (EachAnswered home base) (sym (append_assoc (finished_lines number trace rest) (GivesResult number serial.0 reply ∷ []) earlier)) (finished_each home base (GivesResult number serial.0 reply ∷ earlier) trace number rest so.1 (tt, each))
finished_each home base earlier trace number (finished.Read ticket value ∷ rest) so each =
    subst (EachAnswered home base) (sym (append_assoc (finished_lines number trace rest) (AnswersRead (read_waiting number ticket.0 trace) (read_reply value) ∷ []) earlier))
    (finished_each home base (AnswersRead (read_waiting number ticket.0 trace) (read_reply value) ∷ earlier) trace number rest so.1 ((so.0.1.0, so.0.1.1.0, as_number value, so.0.1.1.1, value_told value), each))

refused_each : (home : ℕ → ℕ) (base : Ghosts) (earlier : List TraceLine) (session serial : ℕ) (made : Option CallMade) → EachAnswered home base earlier → EachAnswered home base (refused_lines session serial made ++ earlier)
refused_each home base earlier session serial None each = each
refused_each home base earlier session serial (Some made) each = by_call made.call
  where
    by_call : (its : Call) → EachAnswered home base (refused_call session serial its ++ earlier)
    by_call (call.Op (op.Read key)) = each
    by_call (call.Op o) = (tt, each)
    by_call its = each

pub answers_each : (home : ℕ → ℕ) (base : Ghosts) (first : ℕ → ℕ) (earlier : List TraceLine) (trace : List Traced) (number : ℕ) (its : Told) (list : List Finished) → TellsReads (readings_of (tell home base earlier).reads trace number) list its → EachAnswered home base earlier
    → EachAnswered home base (answer_lines first trace number its (with_finished its list) ++ earlier)
answers_each home base first earlier trace number (told.Done serial reply) list so each = (tt, each)
answers_each home base first earlier trace number (told.Found value) list so each = ((so.0, so.1.0, Some value.0, so.1.1, refl), each)
answers_each home base first earlier trace number told.Absent list so each = ((so.0, so.1.0, None, so.1.1, refl), each)
answers_each home base first earlier trace number (told.Polled left) list so each = finished_each home base earlier trace number list so each
answers_each home base first earlier trace number (told.Refused why) list so each = refused_each home base earlier number (next_serial first number trace) (last_call number trace) each
answers_each home base first earlier trace number its list so each = each

-- ---- where the answer has been told
if_reads : (reads : ℕ → Reading) (c : Bool) (a b : ℕ) → reads (if c then a else b) ≡ (if c then reads a else reads b)
if_reads reads true a b = refl
if_reads reads false a b = refl

by_ticket : (r : SessionReadings) (ticket : ℕ) (its : Told) → (if is_ticket ticket its then true else r.given ticket) ≡ (with_told r its).given ticket
by_ticket r ticket (told.PendingRead given) = refl
by_ticket r ticket its = refl

by_reading : (r : SessionReadings) (ticket : ℕ) (its : Told) → (if is_ticket ticket its then r.in_hand else r.waiting ticket) ≡ (with_told r its).waiting ticket
by_reading r ticket (told.PendingRead given) = refl
by_reading r ticket its = refl

told_same : (reads after : ℕ → Reading) (trace : List Traced) (effects number : ℕ) (its : Told) (list : List Finished) → ((reader : ℕ) → after reader ≡ reads reader)
    → AreSame (with_told (readings_of reads trace number) its) (readings_of after (with_answered effects number (telling its list) trace) number) false
told_same reads after trace effects number its list same = record {
  given = λ ticket. ap (λ c. if c then true else is_given number ticket trace) (answered_gives number ticket (telling its list)) ∙ by_ticket (readings_of reads trace number) ticket its;
  waiting = λ ticket given.
      same (read_waiting number ticket (with_answered effects number (telling its list) trace))
      ∙ (if_reads reads (gives_ticket number ticket (Answered number (telling its list))) (read_in_hand number trace) (read_waiting number ticket trace)
      ∙ (ap (λ c. if c then reads (read_in_hand number trace) else reads (read_waiting number ticket trace)) (answered_gives number ticket (telling its list)) ∙ by_reading (readings_of reads trace number) ticket its));
  in_hand = λ e. never e;
}
  where
    never : {X : Type 0} → false ≡ true → X
    never e = cc

-- ---- a call's end
-- its lines, where the call has come to its end
abbrev pub end_lines : (ℕ → ℕ) → List Traced → ℕ → Sitting → List Finished → List TraceLine
end_lines first trace number (Idle its) list = answer_lines first trace number its (with_finished its list)
end_lines first trace number step list = []

pub end_calls : (reader : ℕ) (first : ℕ → ℕ) (trace : List Traced) (number : ℕ) (step : Sitting) (list : List Finished) → AllCallOther reader (end_lines first trace number step list)
end_calls reader first trace number (Idle its) list = answer_calls reader first trace number its (with_finished its list)
end_calls reader first trace number step list = tt

pub end_each : (home : ℕ → ℕ) (base : Ghosts) (first : ℕ → ℕ) (earlier : List TraceLine) (trace : List Traced) (number : ℕ) (s : SessionState) (step : Sitting) → ComesTo (readings_of (tell home base earlier).reads trace number) s step → EachAnswered home base earlier
    → EachAnswered home base (end_lines first trace number step s.finished ++ earlier)
end_each home base first earlier trace number s (Idle its) so each = answers_each home base first earlier trace number its s.finished so.1 each
end_each home base first earlier trace number s step so each = each

tell_behind : (home : ℕ → ℕ) (g : Ghosts) (later before : List TraceLine) (reader : ℕ) → AllCallOther reader later → (tell home g (later ++ before)).reads reader ≡ (tell home g before).reads reader
unfolding ghost_run ghosts_after
tell_behind home g [] before reader all = refl
tell_behind home g (CallsRead own key ∷ later) before reader all = set_else (tell home g (later ++ before)).reads own _ reader all.0 ∙ tell_behind home g later before reader all.1
tell_behind home g (line ∷ later) before reader all = tell_behind home g later before reader all.1

pub end_sits : (home : ℕ → ℕ) (base : Ghosts) (first : ℕ → ℕ) (earlier : List TraceLine) (trace : List Traced) (effects number : ℕ) (s : SessionState) (step : Sitting) → ComesTo (readings_of (tell home base earlier).reads trace number) s step
    → SitsReads (readings_of (tell home base (end_lines first trace number step s.finished ++ earlier)).reads (told_at effects (call_answered number true step s.finished) ++ trace) number) s step
end_sits home base first earlier trace effects number s (Idle its) so =
    same_wait (with_told (readings_of (tell home base earlier).reads trace number) its) _ false s.requests
    (told_same (tell home base earlier).reads (tell home base (answer_lines first trace number its (with_finished its s.finished) ++ earlier)).reads trace effects number its s.finished
    (λ reader. tell_behind home base (answer_lines first trace number its (with_finished its s.finished)) earlier reader (answer_calls reader first trace number its (with_finished its s.finished)))) so.0
end_sits home base first earlier trace effects number s step so = so
