-- That the lines of calls and of updates are enabled, event by event.
use Rattle.std.proofs.Common.{◌≡◌, ℕ, ◌+◌, ◌<◌, ◌≤◌, ◌∙◌, List, [], ◌∷◌, ◌++◌, length, refl, arith, ap, sym, subst, Bool, true, false, inl, inr, ◌⊎◌, append_assoc}
use Rattle.std.specs.Prelude.{Option, Some, None, map, ◌==◌, ◌&&◌, if◌then◌else◌, ⊤}
use Rattle.std.proofs.lemmas.Bool.Decides.{nat_tests}
use Rattle.fkv_words.specs.Fields.{bit_of}
use Rattle.fkv_base.specs.declared.numbers.Serial.{Serial}
use Rattle.fkv_map.specs.declared.history.HistoryEntry.{HistoryEntry}
use Rattle.fkv_map.specs.declared.operations.Call.{Call}
use Rattle.fkv_map.specs.declared.operations.Call.TheVariants as call
use Rattle.fkv_map.specs.declared.operations.Op.TheVariants as op
use Rattle.fkv_map.specs.declared.operations.Reply.{Reply}
use Rattle.fkv_map.specs.declared.operations.Reply.TheVariants as reply
use Rattle.law_log.specs.Trace as log
use Rattle.law_log.specs.Trace.{TraceLine, GivesResult, CallsRead, IsIn, called_as, HasUpdate, HasReply}
use Rattle.law_world.specs.Below.fkv_session.Finished.{Finished}
use Rattle.law_world.specs.Below.fkv_session.Finished.TheVariants as finished
use Rattle.law_world.specs.Below.fkv_session.Told.{Told}
use Rattle.law_world.specs.Below.fkv_session.Told.TheVariants as told
use Rattle.law_world.specs.Below.fkv_session.Sitting.{Sitting}
use Rattle.law_world.specs.Below.fkv_session.Sitting.TheVariants.{Idle}
use Rattle.law_world.specs.Below.fkv_session.Accounts.{number_of}
use Rattle.law_world.specs.Below.fkv_session.Replies.{is_of, UpdateDone, done_by, with_done, done_by_poll, done_told, with_effect, AreRepliesOfEffects}
use Rattle.law_world.specs.Below.fkv_session.SessionRun.{Telling, with_finished, in_hand}
use Rattle.law_world.specs.Below.fkv_session.Sessions.{SessionState, is_busy}
use Rattle.law_world.proofs.Below.fkv_session.Shown.{run_none, run_replies}
use Rattle.law_world.specs.Runs.Added.{call_answered, told_at, told_by}
use Rattle.law_world.specs.Below.fkv_world.Opened.{HasBecome, IsOpenedWorld, answers_of, effects_of, life_told}
use Rattle.law_world.specs.Below.fkv_world.Opened as world
use Rattle.law_world.specs.Below.fkv_world.OwnEvents.{session_events}
use Rattle.law_world.specs.Below.fkv_world.Past.{Effect, Traced, TraceEvent, Called, Answered}
use Rattle.law_world.specs.Below.fkv_world.Runs.{World, happens, run}
use Rattle.law_world.specs.Below.fkv_world.World.{Event, seat_at}
use Rattle.law_world.proofs.OfSessions.Effects.{life_made}
use Rattle.law_world.proofs.OfSessions.OwnRun.{of_run, opened_so, to_run}
use Rattle.law_world.proofs.OfRuns.Added.{trace_so}
use Rattle.law_refine.specs.Events.GhostEvents.{serials_in}
use Rattle.law_refine.specs.Events.Lines.{CallMade, last_call, next_serial, call_lines, finished_line, finished_lines, refused_call, refused_lines, answer_lines, event_lines, lines_of, lines_added}
use Rattle.law_refine.specs.Calls.Calls.{effects_in_log, effects_of_life, lines_of_life, event_adds, IsCallEnabled, EachIsEnabled}
use Rattle.law_refine.proofs.OfCalls.Called.{ledger_of, same_number, with_called, with_answered, IsRefusal}
use Rattle.law_refine.proofs.OfCalls.InHand.{WasOpened, was_opened, none_counted}
use Rattle.law_refine.proofs.OfCalls.Life.{told_split, told_so, next_at, life_stood, idle_calm}
use Rattle.law_refine.proofs.OfCalls.Telling.{is_of_keeper, AreOfKeeper, Part, Starts, GoesOn, TellsSo, Keepers, Sessions, tells_so}
use Rattle.law_refine.proofs.OfEvents.Trace.{split_lines}

-- ---- lists
pub each_both : (IsEnabled : List TraceLine → TraceLine → Type 0) (lines later before : List TraceLine) → EachIsEnabled IsEnabled (before ++ lines) later → EachIsEnabled IsEnabled lines before → EachIsEnabled IsEnabled lines (later ++ before)
each_both IsEnabled lines [] before ones others = others
each_both IsEnabled lines (line ∷ later) before ones others = (subst (λ (x : List TraceLine). IsEnabled x line) (sym (append_assoc later before lines)) ones.0, each_both IsEnabled lines later before ones.1 others)

-- the lines of each event that is told are enabled
abbrev pub EventsAreEnabled : (List TraceLine → TraceLine → Type 0) → (ℕ → ℕ) → List Traced → List Traced → Type 0
EventsAreEnabled IsEnabled first before [] = ⊤
EventsAreEnabled IsEnabled first before (it ∷ earlier) = EachIsEnabled IsEnabled (lines_of first (earlier ++ before)) (event_lines first (earlier ++ before) it.its) × EventsAreEnabled IsEnabled first before earlier

pub events_are_enabled : (IsEnabled : List TraceLine → TraceLine → Type 0) (first : ℕ → ℕ) (before added : List Traced) → EventsAreEnabled IsEnabled first before added → EachIsEnabled IsEnabled (lines_of first before) (lines_added first before added)
unfolding lines_added
events_are_enabled IsEnabled first before [] all = tt
events_are_enabled IsEnabled first before (it ∷ earlier) all =
    each_both IsEnabled (lines_of first before) (event_lines first (earlier ++ before) it.its) (lines_added first before earlier)
    (subst (λ (x : List TraceLine). EachIsEnabled IsEnabled x (event_lines first (earlier ++ before) it.its)) (split_lines first earlier before) all.0)
    (events_are_enabled IsEnabled first before earlier all.1)

pub keepers_are_enabled : (IsEnabled : List TraceLine → TraceLine → Type 0) (first : ℕ → ℕ) (before : List Traced) (effects : ℕ) (told : List TraceEvent) → AreOfKeeper told → EventsAreEnabled IsEnabled first before (told_at effects told)
keepers_are_enabled IsEnabled first before effects [] all = tt
keepers_are_enabled IsEnabled first before effects (it ∷ earlier) all = (by_event it all.0, keepers_are_enabled IsEnabled first before effects earlier all.1)
  where
    by_event : (event : TraceEvent) → is_of_keeper event → EachIsEnabled IsEnabled (lines_of first (told_at effects earlier ++ before)) (event_lines first (told_at effects earlier ++ before) event)
    by_event (Called session its) its_own = absurd its_own
    by_event (Answered session its) its_own = absurd its_own
    by_event event its_own = tt

pub in_either : {X : Type 0} (x : X) (xs ys : List X) → IsIn x (xs ++ ys) → IsIn x xs ⊎ IsIn x ys
in_either x [] ys is_in = inr is_in
in_either x (y ∷ xs) ys (inl same) = inl (inl same)
in_either x (y ∷ xs) ys (inr later) = elim (in_either x xs ys later) [
  | inl one ↦ inl (inr one)
  | inr other ↦ inr other
]

-- ---- a read's number is new
no_call : (key reader session : ℕ) (trace : List Traced) (list : List Finished) → IsIn (CallsRead reader key) (finished_lines session trace list) → ⊥
no_call key reader session trace [] is_in = is_in
no_call key reader session trace (it ∷ rest) is_in = elim (in_either (CallsRead reader key) (finished_lines session trace rest) (finished_line session trace it ∷ []) is_in) [
  | inl one ↦ no_call key reader session trace rest one
  | inr other ↦ by_line it other
]
  where
    by_line : (it : Finished) → IsIn (CallsRead reader key) (finished_line session trace it ∷ []) → ⊥
    by_line (finished.Update serial its) (inl same) = cc
    by_line (finished.Update serial its) (inr none) = none
    by_line (finished.Read ticket value) (inl same) = cc
    by_line (finished.Read ticket value) (inr none) = none

refused_calls : (key reader session serial : ℕ) (made : Option CallMade) → IsIn (CallsRead reader key) (refused_lines session serial made) → ⊥
refused_calls key reader session serial None is_in = is_in
refused_calls key reader session serial (Some made) is_in = by_call made.call is_in
  where
    by_call : (its : Call) → IsIn (CallsRead reader key) (refused_call session serial its) → ⊥
    by_call (call.Op (op.Read k)) it = it
    by_call (call.Op o) (inl same) = cc
    by_call (call.Op o) (inr none) = none
    by_call its it = it

pub answer_calls : (key reader session : ℕ) (first : ℕ → ℕ) (trace : List Traced) (its : Told) (list : List Finished) → IsIn (CallsRead reader key) (answer_lines first trace session its list) → ⊥
answer_calls key reader session first trace (told.Done serial its) list (inl same) = cc
answer_calls key reader session first trace (told.Done serial its) list (inr none) = none
answer_calls key reader session first trace (told.Found value) list (inl same) = cc
answer_calls key reader session first trace (told.Found value) list (inr none) = none
answer_calls key reader session first trace told.Absent list (inl same) = cc
answer_calls key reader session first trace told.Absent list (inr none) = none
answer_calls key reader session first trace (told.Polled left) list is_in = no_call key reader session trace list is_in
answer_calls key reader session first trace (told.Refused why) list is_in = refused_calls key reader session (next_serial first session trace) (last_call session trace) is_in
answer_calls key reader session first trace its list is_in = is_in

called_here : (key reader session : ℕ) (first : ℕ → ℕ) (trace : List Traced) (its : Call) → IsIn (CallsRead reader key) (call_lines first trace session its) → reader ≡ length trace
called_here key reader session first trace (call.Op (op.Read k)) (inl same) = let e : length trace ≡ reader = cc in sym e
called_here key reader session first trace (call.Op (op.Read k)) (inr none) = absurd none
called_here key reader session first trace (call.Op o) (inl same) = cc
called_here key reader session first trace (call.Op o) (inr none) = absurd none
called_here key reader session first trace its is_in = absurd is_in

event_calls : (key reader : ℕ) (first : ℕ → ℕ) (trace : List Traced) (it : TraceEvent) → IsIn (CallsRead reader key) (event_lines first trace it) → reader ≡ length trace
event_calls key reader first trace (Called session its) is_in = called_here key reader session first trace its is_in
event_calls key reader first trace (Answered session its) is_in = absurd (answer_calls key reader session first trace its.its its.finished is_in)
event_calls key reader first trace it is_in = absurd is_in

pub called_below : (key reader : ℕ) (first : ℕ → ℕ) (trace : List Traced) → IsIn (CallsRead reader key) (lines_of first trace) → reader < length trace
unfolding lines_of
called_below key reader first [] is_in = absurd is_in
called_below key reader first (it ∷ before) is_in = elim (in_either (CallsRead reader key) (event_lines first before it.its) (lines_of first before) is_in) [
  | inl one ↦ let same = event_calls key reader first before it.its one in omega (arith, same)
  | inr other ↦ let low = called_below key reader first before other in omega (arith, low)
]

-- ---- a call
call_is_enabled : (effects : List log.Effect) (first : ℕ → ℕ) (number : ℕ) (trace : List Traced) (made : Call) → called_as (lines_of first trace) number (next_serial first number trace) ≡ None
    → EachIsEnabled (IsCallEnabled effects) (lines_of first trace) (call_lines first trace number made)
call_is_enabled effects first number trace (call.Op (op.Read key)) none = (λ other is_in. (let low = called_below other (length trace) first trace is_in in omega (arith, low)), tt)
call_is_enabled effects first number trace (call.Op o) none = (none, tt)
call_is_enabled effects first number trace made none = tt

-- ---- an answer
-- an update that this answer tells as done
abbrev pub IsToldDone : Serial → Reply → List UpdateDone → Type 0
IsToldDone serial its [] = ⊥
IsToldDone serial its (done ∷ rest) = ((done.serial ≡ serial) × (done.reply ≡ its)) ⊎ IsToldDone serial its rest

polled_is_enabled : (effects : List log.Effect) (number : ℕ) (lines : List TraceLine) (trace : List Traced) (list : List Finished) → ((serial : Serial) (its : Reply) → IsToldDone serial its (done_by_poll list) → HasReply effects number serial.0 its)
    → EachIsEnabled (IsCallEnabled effects) lines (finished_lines number trace list)
polled_is_enabled effects number lines trace [] has = tt
polled_is_enabled effects number lines trace (finished.Update serial its ∷ rest) has =
    each_both (IsCallEnabled effects) lines (finished_lines number trace rest) (GivesResult number serial.0 its ∷ [])
    (polled_is_enabled effects number (GivesResult number serial.0 its ∷ lines) trace rest (λ s r is_told. has s r (inr is_told))) (has serial its (inl (refl, refl)), tt)
polled_is_enabled effects number lines trace (finished.Read ticket value ∷ rest) has =
    each_both (IsCallEnabled effects) lines (finished_lines number trace rest) (finished_line number trace (finished.Read ticket value) ∷ [])
    (polled_is_enabled effects number (finished_line number trace (finished.Read ticket value) ∷ lines) trace rest has) (tt, tt)

refused_is_enabled : (effects : List log.Effect) (number serial : ℕ) (lines : List TraceLine) (made : Option CallMade) → (HasUpdate effects number serial → ⊥) → EachIsEnabled (IsCallEnabled effects) lines (refused_lines number serial made)
refused_is_enabled effects number serial lines None none = tt
refused_is_enabled effects number serial lines (Some made) none = by_call made.call
  where
    by_call : (its : Call) → EachIsEnabled (IsCallEnabled effects) lines (refused_call number serial its)
    by_call (call.Op (op.Read key)) = tt
    by_call (call.Op o) = (none, tt)
    by_call its = tt

answer_is_enabled : (effects : List log.Effect) (first : ℕ → ℕ) (number : ℕ) (trace : List Traced) (its : Told) (list : List Finished)
    → ((serial : Serial) (r : Reply) → IsToldDone serial r (with_done its (done_by_poll list)) → HasReply effects number serial.0 r) → (IsRefusal its → HasUpdate effects number (next_serial first number trace) → ⊥)
    → EachIsEnabled (IsCallEnabled effects) (lines_of first trace) (answer_lines first trace number its list)
answer_is_enabled effects first number trace (told.Done serial r) list has none = (has serial r (inl (refl, refl)), tt)
answer_is_enabled effects first number trace (told.Found value) list has none = (tt, tt)
answer_is_enabled effects first number trace told.Absent list has none = (tt, tt)
answer_is_enabled effects first number trace (told.Polled left) list has none = polled_is_enabled effects number (lines_of first trace) trace list has
answer_is_enabled effects first number trace (told.Refused why) list has none = refused_is_enabled effects number (next_serial first number trace) (lines_of first trace) (last_call number trace) (none tt)
answer_is_enabled effects first number trace its list has none = tt

-- ---- what is told as done has taken effect with that reply
pub same_reply : Reply → Reply → Bool
same_reply reply.Nothing reply.Nothing = true
same_reply (reply.Number a) (reply.Number b) = a.0 == b.0
same_reply (reply.Found a) (reply.Found b) = a.0 == b.0
same_reply reply.Absent reply.Absent = true
same_reply a b = false

pub reply_is : (a b : Reply) → same_reply a b ≡ true → a ≡ b
unfolding same_reply
reply_is reply.Nothing reply.Nothing e = refl
reply_is (reply.Number a) (reply.Number b) e = let same : a.0 ≡ b.0 = grind (arith, nat_tests, e) in ap (λ (n : ℕ). reply.Number (record { 0 = n })) same
reply_is (reply.Found a) (reply.Found b) e = let same : a.0 ≡ b.0 = grind (arith, nat_tests, e) in ap (λ (n : ℕ). reply.Found (record { 0 = n })) same
reply_is reply.Absent reply.Absent e = refl
reply_is a b e = cc

pub reply_self : (a : Reply) → same_reply a a ≡ true
unfolding same_reply
reply_self reply.Nothing = refl
reply_self (reply.Number a) = same_number a.0
reply_self (reply.Found a) = same_number a.0
reply_self reply.Absent = refl

abbrev is_same : ℕ → Reply → UpdateDone → Bool
is_same serial its done = (done.serial.0 == serial) && same_reply done.reply its

told_counts : (serial : Serial) (its : Reply) (list : List UpdateDone) → IsToldDone serial its list → 1 ≤ number_of (is_same serial.0 its) list
told_counts serial its [] is_told = absurd is_told
told_counts serial its (done ∷ rest) (inl same) =
    let named : (done.serial.0 == serial.0) ≡ true = (let e : done.serial.0 ≡ serial.0 = ap (λ (x : Serial). x.0) same.0 in grind (arith, nat_tests, e)) in
    let replied : same_reply done.reply its ≡ true = ap (λ (x : Reply). same_reply x its) same.1 ∙ reply_self its in
    rw named (rw replied (omega arith))
told_counts serial its (done ∷ rest) (inr later) = let more = told_counts serial its rest later in omega (arith, more)

-- the entry among these
pub record IsEntryAmong (serial : ℕ) (its : Reply) (entries : List HistoryEntry) : Type 0 where
  pub entry : HistoryEntry
  pub is_in : IsIn entry entries
  pub its_serial : entry.serial.0 ≡ serial
  pub its_reply : entry.reply ≡ its

pub both_true : (a b : Bool) → (a && b) ≡ true → (a ≡ true) × (b ≡ true)
both_true true true e = (refl, refl)
both_true true false e = cc
both_true false b e = cc

counted_among : (serial : ℕ) (its : Reply) (entries : List HistoryEntry) → 1 ≤ number_of (is_same serial its) (map done_by entries) → IsEntryAmong serial its entries
counted_among serial its [] one = absurd (omega (arith, one))
counted_among serial its (it ∷ rest) one = by_test (is_same serial its (done_by it)) refl (λ more. counted_among serial its rest more) one
  where
    by_test : (c : Bool) → is_same serial its (done_by it) ≡ c → (1 ≤ number_of (is_same serial its) (map done_by rest) → IsEntryAmong serial its rest)
        → 1 ≤ bit_of c + number_of (is_same serial its) (map done_by rest) → IsEntryAmong serial its (it ∷ rest)
    by_test true e later some =
        let both = both_true (it.serial.0 == serial) (same_reply it.reply its) e in
        let named : it.serial.0 ≡ serial = (let b = both.0 in grind (arith, nat_tests, b)) in
        record { entry = it; is_in = inl refl; its_serial = named; its_reply = reply_is it.reply its both.1 }
    by_test false e later some = let found = later (omega (arith, some)) in record { entry = found.entry; is_in = inr found.is_in; its_serial = found.its_serial; its_reply = found.its_reply }

-- of a session's entries to the history's
in_history : (number : ℕ) (history : List Effect) (entry : HistoryEntry) → IsIn entry (effects_of number history) → (effect : log.Effect) × (IsIn effect (effects_in_log history)) × (effect.entry ≡ entry) × (entry.session ≡ number)
in_history number [] entry is_in = absurd is_in
in_history number (its ∷ before) entry is_in = by_owner (its.entry.session == number) refl (λ more. in_history number before entry more) is_in
  where
    by_owner : (c : Bool) → (its.entry.session == number) ≡ c → (IsIn entry (effects_of number before) → (effect : log.Effect) × (IsIn effect (effects_in_log before)) × (effect.entry ≡ entry) × (entry.session ≡ number))
        → IsIn entry (if c then its.entry ∷ effects_of number before else effects_of number before)
        → (effect : log.Effect) × (IsIn effect (effects_in_log (its ∷ before))) × (effect.entry ≡ entry) × (entry.session ≡ number)
    by_owner true e later (inl same) =
        let mine : its.entry.session ≡ number = grind (arith, nat_tests, e) in
        (record { entry = its.entry; version = its.version.0 }, inl refl, same, ap (λ (x : HistoryEntry). x.session) (sym same) ∙ mine)
    by_owner true e later (inr more) = let found = later more in (found.0, inr found.1, found.2, found.3)
    by_owner false e later more = let found = later more in (found.0, inr found.1, found.2, found.3)

with_in : (entry : HistoryEntry) (coming : Option HistoryEntry) (entries : List HistoryEntry) → IsIn entry entries → IsIn entry (with_effect coming entries)
with_in entry None entries is_in = is_in
with_in entry (Some its) entries is_in = inr is_in

more_counted : (such : UpdateDone → Bool) (its : Told) (list : List UpdateDone) (rest : List UpdateDone) → number_of such (with_done its list) ≤ number_of such (with_done its (list ++ rest))
more_counted such its list rest = by_told its (fewer list)
  where
    fewer : (xs : List UpdateDone) → number_of such xs ≤ number_of such (xs ++ rest)
    fewer [] = omega arith
    fewer (x ∷ xs) = let more = fewer xs in omega (arith, more)

    by_told : (answer : Told) → number_of such list ≤ number_of such (list ++ rest) → number_of such (with_done answer list) ≤ number_of such (with_done answer (list ++ rest))
    by_told (told.Done serial its_reply) less = omega (arith, less)
    by_told answer less = less

-- of a session that has just been answered
has_reply : (opening : World) (events : List Event) (number : ℕ) (first its : SessionState) (answer : Told) (list : List Finished) (effects : ℕ) (trace : List Traced) → HasBecome opening events number first its → is_busy its.step ≡ false
    → (run opening events).past.trace ≡ with_answered effects number answer list trace → (serial : Serial) (r : Reply) → IsToldDone serial r (with_done answer (done_by_poll list)) → HasReply (effects_of_life opening events) number serial.0 r
has_reply opening events number first its answer list effects trace became idle traced serial r is_told = record { update = record { effect = found.0; is_in = found.1; its_session = ap (λ (x : HistoryEntry). x.session) found.2 ∙ found.3; its_serial = ap (λ (x : HistoryEntry). x.serial.0) found.2 ∙ among.its_serial }; its_reply = ap (λ (x : HistoryEntry). x.reply) found.2 ∙ among.its_reply }
  where
    given : List Telling
    given = life_told opening events number first

    replies : AreRepliesOfEffects (world.life_effects opening events number first) given (in_hand its.step its.finished) (is_busy its.step)
    replies = of_run (λ (s : SessionState). AreRepliesOfEffects (world.life_effects opening events number first) given (in_hand s.step s.finished) (is_busy s.step)) opening events number first its became
        (run_replies (seat_at opening.now number) first (session_events opening number events) (opened_so opening events number first its became))

    same : given ≡ record { its = answer; finished = list } ∷ answers_of number trace
    same = told_so opening events number first its became idle ∙ (ap (answers_of number) traced ∙ rw (same_number number) refl)

    many : 1 ≤ number_of (is_same serial.0 r) (done_told given)
    many =
        let one = told_counts serial r (with_done answer (done_by_poll list)) is_told in
        let more = more_counted (is_same serial.0 r) answer (done_by_poll list) (done_told (answers_of number trace)) in
        let all : number_of (is_same serial.0 r) (done_told given) ≡ number_of (is_same serial.0 r) (with_done answer (done_by_poll list ++ done_told (answers_of number trace))) = ap (λ (x : List Telling). number_of (is_same serial.0 r) (done_told x)) same in
        omega (arith, one, more, all)

    among : IsEntryAmong serial.0 r replies.answered
    among = let sum = replies.replies (is_same serial.0 r) in let some = many in counted_among serial.0 r replies.answered (omega (arith, sum, some))

    entries : effects_of number (run opening events).past.history ≡ with_effect replies.coming replies.answered
    entries = sym (life_made opening events number first its became) ∙ replies.its_effects

    found : (effect : log.Effect) × (IsIn effect (effects_of_life opening events)) × (effect.entry ≡ among.entry) × (among.entry.session ≡ number)
    found = in_history number (run opening events).past.history among.entry (subst (IsIn among.entry) (sym entries) (with_in among.entry replies.coming replies.answered among.is_in))

-- a serial that comes next has no effect
pub none_next : (opening : World) (events : List Event) (number : ℕ) (first its : SessionState) → HasBecome opening events number first its → is_busy its.step ≡ false → HasUpdate (effects_of_life opening events) number (its.serial + 1) → ⊥
none_next opening events number first its became idle =
    none_counted number (its.serial + 1) (run opening events).past.history
    (ap (number_of (is_of (its.serial + 1))) (sym (life_made opening events number first its became))
    ∙ run_none (seat_at opening.now number) first (session_events opening number events) (its.serial + 1) (opened_so opening events number first its became)
    (to_run (λ (s : SessionState). is_busy s.step ≡ false) opening events number first its became idle) (inr (to_run (λ (s : SessionState). s.serial < its.serial + 1) opening events number first its became (omega arith))))

-- ---- each event of a life
refusal_next : (first : ℕ → ℕ) (number effects : ℕ) (its : Told) (list : List Finished) (trace : List Traced) → IsRefusal its → next_serial first number (with_answered effects number its list trace) ≡ next_serial first number trace
refusal_next first number effects (told.Refused why) list trace refusal = rw (same_number number) refl
refusal_next first number effects its list trace refusal = absurd refusal

ended_is_enabled : (opening : World) (events : List Event) (number : ℕ) (first its : SessionState) (effects : ℕ) (trace : List Traced) (step : Sitting) → its.step ≡ step → HasBecome opening events number first its
    → (run opening events).past.trace ≡ told_at effects (call_answered number true step its.finished) ++ trace
    → EventsAreEnabled (IsCallEnabled (effects_of_life opening events)) (serials_in opening.now) trace (told_at effects (call_answered number true step its.finished))
ended_is_enabled opening events number first its effects trace (Idle answer) at became traced =
    let idle : is_busy its.step ≡ false = ap is_busy at in (
      answer_is_enabled (effects_of_life opening events) (serials_in opening.now) number trace answer (with_finished answer its.finished)
          (has_reply opening events number first its answer (with_finished answer its.finished) effects trace became idle traced)
          (λ refusal has. none_next opening events number first its became idle
          (subst (HasUpdate (effects_of_life opening events) number)
          (sym (refusal_next (serials_in opening.now) number effects answer (with_finished answer its.finished) trace refusal) ∙ (ap (next_serial (serials_in opening.now) number) (sym traced) ∙ next_at opening events number first its became idle)) has)),
      tt,
    )
ended_is_enabled opening events number first its effects trace step at became traced = tt

pub events_both : (IsEnabled : List TraceLine → TraceLine → Type 0) (first : ℕ → ℕ) (trace : List Traced) (effects : ℕ) (later before : List TraceEvent) → EventsAreEnabled IsEnabled first (told_at effects before ++ trace) (told_at effects later)
    → EventsAreEnabled IsEnabled first trace (told_at effects before) → EventsAreEnabled IsEnabled first trace (told_at effects (later ++ before))
events_both IsEnabled first trace effects [] before ones others = others
events_both IsEnabled first trace effects (it ∷ later) before ones others =
    (subst (λ (x : List Traced). EachIsEnabled IsEnabled (lines_of first x) (event_lines first x it)) (sym (told_split effects later before trace)) ones.0, events_both IsEnabled first trace effects later before ones.1 others)

part_is_enabled : (opening : World) (before : List Event) (event : Event) (number : ℕ) (first s its : SessionState) → HasBecome opening before number first s → HasBecome opening (event ∷ before) number first its
    → Part (seat_at (run opening before).now number) number s its (told_by (run opening before).now (happens (run opening before) event).now event)
    → EventsAreEnabled (IsCallEnabled (effects_of_life opening (event ∷ before))) (serials_in opening.now) (run opening before).past.trace (told_at (length (happens (run opening before) event).past.history) (told_by (run opening before).now (happens (run opening before) event).now event))
unfolding run
part_is_enabled opening before event number first s its had became (Starts made idle begins is_told) =
    subst (λ (x : List TraceEvent). EventsAreEnabled (IsCallEnabled (effects_of_life opening (event ∷ before))) (serials_in opening.now) w.past.trace (told_at effects x)) (sym is_told)
    (events_both (IsCallEnabled (effects_of_life opening (event ∷ before))) (serials_in opening.now) w.past.trace effects (call_answered number true its.step its.finished) (Called number made ∷ [])
    (ended_is_enabled opening (event ∷ before) number first its effects (with_called effects number made w.past.trace) its.step refl became
    (trace_so w event ∙ (ap (λ (x : List TraceEvent). told_at effects x ++ w.past.trace) is_told ∙ told_split effects (call_answered number true its.step its.finished) (Called number made ∷ []) w.past.trace))) (
      call_is_enabled (effects_of_life opening (event ∷ before)) (serials_in opening.now) number w.past.trace made
          (ap (called_as (lines_of_life opening before) number) (next_at opening before number first s had idle) ∙ (idle_calm (ledger_of (serials_in opening.now) number w.past.trace) s s.step idle (life_stood opening before number first s had)).none),
      tt,
    ))
  where
    w : World
    w = run opening before

    effects : ℕ
    effects = length (happens w event).past.history
part_is_enabled opening before event number first s its had became (GoesOn events busy all goes is_told) =
    subst (λ (x : List TraceEvent). EventsAreEnabled (IsCallEnabled (effects_of_life opening (event ∷ before))) (serials_in opening.now) w.past.trace (told_at effects x)) (sym is_told)
    (ended_is_enabled opening (event ∷ before) number first its effects w.past.trace its.step refl became (trace_so w event ∙ ap (λ (x : List TraceEvent). told_at effects x ++ w.past.trace) is_told))
  where
    w : World
    w = run opening before

    effects : ℕ
    effects = length (happens w event).past.history

tells_are_enabled : (opening : World) (before : List Event) (event : Event) → IsOpenedWorld opening → TellsSo (run opening before) event
    → EventsAreEnabled (IsCallEnabled (effects_of_life opening (event ∷ before))) (serials_in opening.now) (run opening before).past.trace (told_at (length (happens (run opening before) event).past.history) (told_by (run opening before).now (happens (run opening before) event).now event))
unfolding run
tells_are_enabled opening before event opened (Keepers quiet stay) = keepers_are_enabled (IsCallEnabled (effects_of_life opening (event ∷ before))) (serials_in opening.now) (run opening before).past.trace (length (happens (run opening before) event).past.history) (told_by (run opening before).now (happens (run opening before) event).now event) quiet
tells_are_enabled opening before event opened (Sessions at s its found is_now others part) =
    let was : WasOpened opening before at s = was_opened opening before at s opened found in
    part_is_enabled opening before event at was.first s its was.became (record { opened = opened; was = was.became.was; is_now = is_now }) part

pub event_is_enabled : (opening : World) (before : List Event) (event : Event) → IsOpenedWorld opening → EachIsEnabled (IsCallEnabled (effects_of_life opening (event ∷ before))) (lines_of_life opening before) (event_adds opening before event)
event_is_enabled opening before event opened = events_are_enabled (IsCallEnabled (effects_of_life opening (event ∷ before))) (serials_in opening.now) (run opening before).past.trace (told_at (length (happens (run opening before) event).past.history) (told_by (run opening before).now (happens (run opening before) event).now event)) (tells_are_enabled opening before event opened (tells_so (run opening before) event))
