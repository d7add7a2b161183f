-- Each ticket whose read a poll has finished was told for a read that the session called. So its key was told with it.
use Rattle.std.proofs.Common.{◌≡◌, ◌∙◌, ◌⊎◌, ℕ, ◌+◌, ◌<◌, ◌≤◌, List, [], ◌∷◌, ◌++◌, Bool, true, false, ap, arith, inl, inr, length, refl, sym, subst}
use Rattle.std.specs.Prelude.{◌==◌, ◌&&◌, if◌then◌else◌, Option, Some, None, slice_get}
use Rattle.std.proofs.lemmas.Bool.Decides.{nat_tests}
use Rattle.fkv_base.specs.declared.numbers.Key.{Key}
use Rattle.fkv_epoch.proofs.Shown.{none_some, some_same}
use Rattle.fkv_map.specs.declared.operations.Call.{Call}
use Rattle.law_order.specs.Below.fkv_pending.RequestName.{RequestName}
use Rattle.law_order.specs.Below.fkv_pending.RequestName.TheVariants.{Read}
use Rattle.law_order.specs.Below.fkv_pending.Ticket.{Ticket}
use Rattle.law_order.specs.Below.fkv_session.Accounts.{AreAccountedFor, left_pending, name_finished, names_finished, names_of, number_of, polled, with_pending}
use Rattle.law_order.specs.Below.fkv_session.SessionRun.{Telling, in_hand, telling}
use Rattle.law_order.specs.Below.fkv_session.Sessions.{SessionState, is_busy}
use Rattle.law_order.proofs.Below.fkv_session.Shown.{run_holds}
use Rattle.law_order.specs.Below.fkv_session.Finished.{Finished}
use Rattle.law_order.specs.Below.fkv_session.Told.{Told}
use Rattle.law_order.specs.Below.fkv_session.Told.TheVariants as told
use Rattle.law_order.specs.Below.fkv_session.Sitting.TheVariants.{Idle}
use Rattle.law_order.specs.Below.fkv_world.Opened.{HasBecome, IsOpenedWorld, answer_to, answers_of, life_told}
use Rattle.law_order.specs.Below.fkv_world.OwnEvents.{session_events}
use Rattle.law_order.specs.Below.fkv_world.Past.{Answered, Called, TraceEvent, Traced}
use Rattle.law_order.specs.Below.fkv_world.Runs.{World, run}
use Rattle.law_order.specs.Below.fkv_world.World.{Event, seat_at}
use Rattle.law_order.proofs.Below.law_world.OfRuns.Nothing.{none_ever}
use Rattle.law_order.proofs.Below.law_world.OfSessions.OwnRun.{of_run, opened_so}
use Rattle.law_order.proofs.Below.law_refine.OfCalls.Life.{told_so}
use Rattle.law_log.specs.Trace.{CallsRead, IsIn}
use Rattle.law_order.specs.Reads.Reads.{is_given}
use Rattle.law_order.proofs.OfReads.Numbers.{IsOwn, is_call_of}
use Rattle.law_order.proofs.OfTickets.Tickets.{is_ticket}
use Rattle.law_order.specs.Below.law_refine.Events.Lines.{CallMade, call_lines, call_made, event_lines, gives_ticket, last_call, lines_of, number_of_call, read_waiting}
use Rattle.law_order.specs.Below.law_refine.Events.Lines as lines
use Rattle.law_order.proofs.Below.law_refine.OfCalls.UpdateLines.{called_below, in_either}
use Rattle.law_program.specs.PlayedCalls.Waiting.{key_made, key_told}
use Rattle.law_program.proofs.OfPlayedCalls.Polled.{trace_of_call}
use Rattle.law_program.proofs.OfPlayedCalls.ReadCalls.{IsReadOf, called_at, called_before, reads_here}

-- ---- a ticket that was left pending was given
-- one where it is so
abbrev one_if : Bool → ℕ
one_if c = number_of (λ (b : Bool). b) (c ∷ [])

told_by : (n : ℕ) (its : Told) (names : List RequestName) (given : Bool) → 1 ≤ number_of (is_ticket n) (with_pending its names) → (1 ≤ number_of (is_ticket n) names → given ≡ true) → (if lines.is_ticket n its then true else given) ≡ true
told_by n (told.PendingRead ticket) names given some rest = by_test (ticket.0 == n) (omega (arith, some))
  where
    by_test : (c : Bool) → 1 ≤ one_if c + number_of (is_ticket n) names → (if c then true else given) ≡ true
    by_test true some = refl
    by_test false some = rest (omega (arith, some))
told_by n (told.Pending serial why) names given some rest = rest (omega (arith, some))
told_by n its names given some rest = rest some

answered_by : (c : Bool) (n : ℕ) (its : Telling) (before : List Telling) (given : Bool) → 1 ≤ number_of (is_ticket n) (left_pending (if c then its ∷ before else before)) → (1 ≤ number_of (is_ticket n) (left_pending before) → given ≡ true)
    → (if c && lines.is_ticket n its.its then true else given) ≡ true
answered_by true n its before given some rest = told_by n its.its (left_pending before) given some rest
answered_by false n its before given some rest = rest some

given_by : (number n : ℕ) (event : TraceEvent) (before : List Traced) → 1 ≤ number_of (is_ticket n) (left_pending (answer_to number event (answers_of number before)))
    → (1 ≤ number_of (is_ticket n) (left_pending (answers_of number before)) → is_given number n before ≡ true) → (if gives_ticket number n event then true else is_given number n before) ≡ true
given_by number n (Answered session its) before some rest = answered_by (session == number) n its (answers_of number before) (is_given number n before) some rest
given_by number n event before some rest = rest some

given_of : (number n : ℕ) (trace : List Traced) → 1 ≤ number_of (is_ticket n) (left_pending (answers_of number trace)) → is_given number n trace ≡ true
given_of number n [] some = absurd (omega (arith, some))
given_of number n (it ∷ before) some = given_by number n it.its before some (given_of number n before)

-- ---- so is each that a poll has finished
same_ticket : (n : ℕ) → (n == n) ≡ true
same_ticket n = grind (arith, nat_tests)

counted : (such : RequestName → Bool) (list : List Finished) (it : Finished) (rest : List RequestName) → IsIn it list → such (name_finished it) ≡ true → 1 ≤ number_of such (names_finished list ++ rest)
counted such [] it rest is_in is = absurd is_in
counted such (x ∷ list) it rest (inl same) is =
    let here : such (name_finished x) ≡ true = ap (λ (y : Finished). such (name_finished y)) same ∙ is in
    let bit : one_if (such (name_finished x)) ≡ 1 = ap one_if here in
    omega (arith, bit)
counted such (x ∷ list) it rest (inr more) is = let many = counted such list it rest more is in omega (arith, many)

-- with what the poll tells, behind these answers
answers_behind : (number e later left : ℕ) (asked : Call) (trace : List Traced) (list : List Finished) → answers_of number (trace_of_call number asked e later trace (told.Polled left) list) ≡ telling (told.Polled left) list ∷ answers_of number trace
answers_behind number e later left asked trace list = ap (λ (c : Bool). if c then telling (told.Polled left) list ∷ answers_of number trace else answers_of number trace) (same_ticket number)

pub ticket_given : (number e later left : ℕ) (asked : Call) (trace : List Traced) (list in_hand : List Finished) (waiting : List RequestName) (ticket : Ticket) (it : Finished) → name_finished it ≡ Read ticket → IsIn it list
    → AreAccountedFor (answers_of number (trace_of_call number asked e later trace (told.Polled left) list)) waiting in_hand → is_given number ticket.0 trace ≡ true
ticket_given number e later left asked trace list in_hand waiting ticket it named is_in accounts =
    let such : RequestName → Bool = is_ticket ticket.0 in
    let now : AreAccountedFor (telling (told.Polled left) list ∷ answers_of number trace) waiting in_hand
    = subst (λ (x : List Telling). AreAccountedFor x waiting in_hand) (answers_behind number e later left asked trace list) accounts in
    let many = counted such list it (polled (answers_of number trace)) is_in (ap such named ∙ same_ticket ticket.0) in
    let where_they_are = now such in
    given_of number ticket.0 trace (omega (arith, many, where_they_are))

-- ---- in a life
-- Each request that the answers of a session at rest left pending waits, or was told as finished.
pub accounted : (opening : World) (life : List Event) (number : ℕ) (s : SessionState) (its : Told) → IsOpenedWorld opening → slice_get (run opening life).now.sessions number ≡ Some s → s.step ≡ Idle its
    → AreAccountedFor (answers_of number (run opening life).past.trace) (names_of s.requests) (in_hand s.step s.finished)
accounted opening life number s its opened found at_rest = by_first (slice_get opening.now.sessions number) refl
  where
    by_first : (first : Option SessionState) → slice_get opening.now.sessions number ≡ first → AreAccountedFor (answers_of number (run opening life).past.trace) (names_of s.requests) (in_hand s.step s.finished)
    by_first None was = none_some s (sym (none_ever opening life number was) ∙ found)
    by_first (Some first) was =
        let became : HasBecome opening life number first s = record { opened = opened; was = was; is_now = found } in
        subst (λ (x : List Telling). AreAccountedFor x (names_of s.requests) (in_hand s.step s.finished)) (told_so opening life number first s became (ap is_busy at_rest))
        (of_run (λ (x : SessionState). AreAccountedFor (life_told opening life number first) (names_of x.requests) (in_hand x.step x.finished)) opening life number first s became
        (run_holds (seat_at opening.now number) first (session_events opening number life) (opened_so opening life number first s became)).books.accounts)

-- ---- and a call was answered so
-- The newest answer with this ticket stands here in the trace.
record IsGivenAt (number n : ℕ) (trace : List Traced) : Type 0 where
  later : List Traced
  it : Traced
  before : List Traced
  so : trace ≡ later ++ it ∷ before
  gives : gives_ticket number n it.its ≡ true
  key : key_told number n trace ≡ key_made (last_call number before) (key_told number n before)
  reader : read_waiting number n trace ≡ number_of_call (last_call number before)

if_told : {A : Type 0} (c : Bool) (x y : A) → c ≡ true → (if c then x else y) ≡ x
if_told c x y e = ap (λ (b : Bool). if b then x else y) e

if_else : {A : Type 0} (c : Bool) (x y : A) → c ≡ false → (if c then x else y) ≡ y
if_else c x y e = ap (λ (b : Bool). if b then x else y) e

given_at : (number n : ℕ) (trace : List Traced) → is_given number n trace ≡ true → IsGivenAt number n trace
given_at number n [] given = cc
given_at number n (it ∷ before) given = by_answer (given_at number n before) (gives_ticket number n it.its) refl
  where
    by_answer : (is_given number n before ≡ true → IsGivenAt number n before) → (c : Bool) → gives_ticket number n it.its ≡ c → IsGivenAt number n (it ∷ before)
    by_answer others true e = record {
      later = [];
      it = it;
      before = before;
      so = refl;
      gives = e;
      key = if_told (gives_ticket number n it.its) (key_made (last_call number before) (key_told number n before)) (key_told number n before) e;
      reader = if_told (gives_ticket number n it.its) (number_of_call (last_call number before)) (read_waiting number n before) e;
    }
    by_answer others false e =
        let rest = others (sym (if_else (gives_ticket number n it.its) true (is_given number n before) e) ∙ given) in
        record {
          later = it ∷ rest.later;
          it = rest.it;
          before = rest.before;
          so = ap (λ (x : List Traced). it ∷ x) rest.so;
          gives = rest.gives;
          key = if_else (gives_ticket number n it.its) (key_made (last_call number before) (key_told number n before)) (key_told number n before) e ∙ rest.key;
          reader = if_else (gives_ticket number n it.its) (number_of_call (last_call number before)) (read_waiting number n before) e ∙ rest.reader;
        }

-- no answer with a ticket is a call
no_call : (number n : ℕ) (event : TraceEvent) → gives_ticket number n event ≡ true → is_call_of number event → ⊥
no_call number n (Called session its) gives own = cc
no_call number n event gives own = absurd own

-- a session that has called nothing has no number of a call
none_own : (number reader : ℕ) (trace : List Traced) → last_call number trace ≡ None → IsOwn number reader trace → ⊥
none_own number reader [] none own = absurd own
none_own number reader (it ∷ before) none own = by_event (none_own number reader before) it.its none own
  where
    by_call : (last_call number before ≡ None → IsOwn number reader before → ⊥) → (c : Bool) (session : ℕ) (its : Call) → (session == number) ≡ c → (if c then Some (record { call = its; number = length before }) else last_call number before) ≡ None
        → (session ≡ number) × (reader ≡ length before) ⊎ IsOwn number reader before → ⊥
    by_call others true session its e none own = none_some (record { call = its; number = length before }) (sym none)
    by_call others false session its e none (inl own) = let same = own.0 in let apart : ⊥ = grind (arith, nat_tests, e, same) in apart
    by_call others false session its e none (inr own) = others none own

    by_event : (last_call number before ≡ None → IsOwn number reader before → ⊥) → (event : TraceEvent) → call_made number (length before) event (last_call number before) ≡ None → (is_call_of number event × (reader ≡ length before)) ⊎ IsOwn number reader before → ⊥
    by_event others (Called session its) none own = by_call others (session == number) session its refl none own
    by_event others event none (inl own) = absurd own.0
    by_event others event none (inr own) = others none own

-- so the first number is no call's of the session, where it had called nothing before the answer
first_own : (number n : ℕ) (later before : List Traced) (it : Traced) → gives_ticket number n it.its ≡ true → last_call number before ≡ None → IsOwn number 0 (later ++ it ∷ before) → ⊥
first_own number n [] before it gives none (inl own) = no_call number n it.its gives own.0
first_own number n [] before it gives none (inr own) = none_own number 0 before none own
first_own number n (x ∷ later) before it gives none (inl own) = let at = own.1 in let long = long_so later in absurd (omega (arith, at, long))
  where
    long_so : (xs : List Traced) → 1 ≤ length (xs ++ it ∷ before)
    long_so [] = omega arith
    long_so (y ∷ xs) = omega arith
first_own number n (x ∷ later) before it gives none (inr own) = first_own number n later before it gives none own

-- ---- the key of the call
last_below : (number : ℕ) (trace : List Traced) (made : CallMade) → last_call number trace ≡ Some made → made.number < length trace
last_below number [] made is = none_some made is
last_below number (it ∷ before) made is = by_event (last_below number before made) it.its is
  where
    by_call : (last_call number before ≡ Some made → made.number < length before) → (c : Bool) (its : Call) → (if c then Some (record { call = its; number = length before }) else last_call number before) ≡ Some made → made.number < length (it ∷ before)
    by_call others true its is = let same = ap (λ (x : CallMade). x.number) (some_same _ _ is) in omega (arith, same)
    by_call others false its is = let low = others is in omega (arith, low)

    by_event : (last_call number before ≡ Some made → made.number < length before) → (event : TraceEvent) → call_made number (length before) event (last_call number before) ≡ Some made → made.number < length (it ∷ before)
    by_event others (Called session its) is = by_call others (session == number) its is
    by_event others event is = let low = others is in omega (arith, low)

-- The line of a read with its number says that the session's last call is of this read.
abbrev ReadsSo : ℕ → ℕ → (ℕ → ℕ) → List Traced → CallMade → Type 0
ReadsSo number key first trace made = last_call number trace ≡ Some made → IsIn (CallsRead made.number key) (lines_of first trace) → IsReadOf made.call key

last_reads : (number key : ℕ) (first : ℕ → ℕ) (trace : List Traced) (made : CallMade) → last_call number trace ≡ Some made → IsIn (CallsRead made.number key) (lines_of first trace) → IsReadOf made.call key
unfolding lines_of
last_reads number key first [] made is line = none_some made is
last_reads number key first (it ∷ before) made is line = by_event (last_reads number key first before made) it.its is line
  where
    earlier : ReadsSo number key first before made → (event : TraceEvent) → last_call number before ≡ Some made → IsIn (CallsRead made.number key) (event_lines first before event ++ lines_of first before) → IsReadOf made.call key
    earlier others event is line = elim (in_either (CallsRead made.number key) (event_lines first before event) (lines_of first before) line) [
      | inl one ↦ let at = called_at key made.number first before event one in let low = last_below number before made is in absurd (omega (arith, at, low))
      | inr other ↦ others is other
    ]

    here : (session : ℕ) (its : Call) → record { call = its; number = length before } ≡ made → IsIn (CallsRead made.number key) (call_lines first before session its ++ lines_of first before) → IsReadOf made.call key
    here session its same line =
        let its_number : length before ≡ made.number = ap (λ (x : CallMade). x.number) same in
        elim (in_either (CallsRead made.number key) (call_lines first before session its) (lines_of first before) line) [
          | inl one ↦ subst (λ (x : Call). IsReadOf x key) (ap (λ (x : CallMade). x.call) same) (reads_here key made.number session first before its one).0
          | inr other ↦ let low = called_below key made.number first before other in absurd (omega (arith, low, its_number))
        ]

    by_call : ReadsSo number key first before made → (c : Bool) (session : ℕ) (its : Call) → (if c then Some (record { call = its; number = length before }) else last_call number before) ≡ Some made
        → IsIn (CallsRead made.number key) (call_lines first before session its ++ lines_of first before) → IsReadOf made.call key
    by_call others true session its is line = here session its (some_same _ _ is) line
    by_call others false session its is line = earlier others (Called session its) is line

    by_event : ReadsSo number key first before made → (event : TraceEvent) → call_made number (length before) event (last_call number before) ≡ Some made → IsIn (CallsRead made.number key) (event_lines first before event ++ lines_of first before) → IsReadOf made.call key
    by_event others (Called session its) is line = by_call others (session == number) session its is line
    by_event others event is line = earlier others event is line

key_by : (asked : Call) (key : ℕ) (before : Option Key) (number : ℕ) → IsReadOf asked key → (k : Key) × (key_made (Some (record { call = asked; number = number })) before ≡ Some k)
key_by asked key before number is = (is.its_key, ap (λ (x : Call). key_made (Some (record { call = x; number = number })) before) is.its_op)

-- The key of a ticket was told, where that was given, and its number is that of a read's line.
pub key_of_given : (number n key : ℕ) (first : ℕ → ℕ) (trace : List Traced) → is_given number n trace ≡ true → IsOwn number (read_waiting number n trace) trace → IsIn (CallsRead (read_waiting number n trace) key) (lines_of first trace)
    → (k : Key) × (key_told number n trace ≡ Some k)
key_of_given number n key first trace given own line = by_call (last_call number at.before) refl
  where
    at : IsGivenAt number n trace
    at = given_at number n trace given

    long : (later before : List Traced) (it : Traced) → length before < length (later ++ it ∷ before)
    long [] before it = omega arith
    long (x ∷ later) before it = let more = long later before it in omega (arith, more)

    parted : (later before : List Traced) (it : Traced) → (later ++ it ∷ []) ++ before ≡ later ++ it ∷ before
    parted [] before it = refl
    parted (x ∷ later) before it = ap (λ (xs : List Traced). x ∷ xs) (parted later before it)

    by_call : (made : Option CallMade) → last_call number at.before ≡ made → (k : Key) × (key_told number n trace ≡ Some k)
    by_call None none =
        let zero_own : IsOwn number 0 (at.later ++ at.it ∷ at.before)
        = subst (λ (x : List Traced). IsOwn number 0 x) at.so (subst (λ (r : ℕ). IsOwn number r trace) (at.reader ∙ ap number_of_call none) own) in
        absurd (first_own number n at.later at.before at.it at.gives none zero_own)
    by_call (Some made) is =
        let reader : read_waiting number n trace ≡ made.number = at.reader ∙ ap number_of_call is in
        let low = last_below number at.before made is in
        let there : IsIn (CallsRead made.number key) (lines_of first ((at.later ++ at.it ∷ []) ++ at.before))
        = subst (λ (x : List Traced). IsIn (CallsRead made.number key) (lines_of first x)) (at.so ∙ sym (parted at.later at.before at.it)) (subst (λ (r : ℕ). IsIn (CallsRead r key) (lines_of first trace)) reader line) in
        let before = called_before key made.number first (at.later ++ at.it ∷ []) at.before low there in
        let its = last_reads number key first at.before made is before in
        let k = key_by made.call key (key_told number n at.before) made.number its in
        (k.0, at.key ∙ (ap (λ (x : Option CallMade). key_made x (key_told number n at.before)) is ∙ k.1))
