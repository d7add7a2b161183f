-- What a seat keeps of the reads that wait: the key of each ticket.
use Rattle.std.proofs.Common.{◌≡◌, ◌≢◌, ◌∙◌, ◌⊎◌, ◌<◌, ℕ, List, [], ◌∷◌, ◌++◌, Bool, true, false, ap, append_assoc, arith, inl, inr, length, refl, replicate, sym, subst}
use Rattle.std.specs.Prelude.{Option, Some, None, cond, nat_eq, option_map, reverse, slice_get, slice_set, ◌==◌, ◌&&◌, if◌then◌else◌}
use Rattle.std.specs.List.{find}
use Rattle.std.proofs.lemmas.Bool.Decides.{nat_tests}
use Rattle.std.proofs.lemmas.List.{append-nil, reverse-append}
use Rattle.fkv_base.specs.declared.numbers.Key.{Key}
use Rattle.law_order.specs.Below.fkv_core.Openings.{beginning}
use Rattle.fkv_epoch.proofs.Shown.{item_spared, item_written, none_some, same_or, some_same}
use Rattle.fkv_map.specs.declared.operations.Call.{Call}
use Rattle.fkv_map.specs.declared.operations.Call.TheVariants as call
use Rattle.fkv_map.specs.declared.operations.Op.TheVariants.{Read}
use Rattle.law_order.specs.Below.fkv_pending.Ticket.{Ticket}
use Rattle.fkv_runs.specs.Below.fkv_playing.Seats.{SeatState, read_of, seat_answered, seat_behind, seats_answered, waiting_behind}
use Rattle.law_order.specs.Below.fkv_session.Answers.{IsAnswerTold}
use Rattle.law_order.specs.Below.fkv_session.SessionRun.{telling}
use Rattle.law_order.specs.Below.fkv_session.Answer.{Answer}
use Rattle.law_order.specs.Below.fkv_session.Answer.TheVariants as answer
use Rattle.law_order.specs.Below.fkv_session.Finished.{Finished}
use Rattle.law_order.specs.Below.fkv_session.Told.{Told}
use Rattle.law_order.specs.Below.fkv_session.Told.TheVariants as told
use Rattle.fkv_texts.specs.Polls.{has_ticket, key_of_ticket}
use Rattle.fkv_texts.specs.Sessions.{key_of_call}
use Rattle.fkv_texts.specs.declared.polls.WaitingRead.{WaitingRead}
use Rattle.law_order.specs.Below.fkv_world.Past.{Answered, Called, TraceEvent, Traced}
use Rattle.law_order.specs.Below.fkv_world.Runs.{run}
use Rattle.law_order.specs.Below.fkv_world.World.{Calls, Event, Moves, Now}
use Rattle.law_log.specs.Trace.{CallsRead, IsIn}
use Rattle.law_order.specs.Rules.Ordered.{lines_so_far}
use Rattle.law_order.specs.Rules.Waiting.{HasWaiting, waiting_read}
use Rattle.law_order.proofs.OfReads.Numbers.{called_hand, other_waiting, same_number}
use Rattle.law_order.proofs.Below.law_refine.OfCalls.Called.{is_other}
use Rattle.law_order.specs.Below.law_refine.Events.GhostEvents.{serials_in}
use Rattle.law_order.specs.Below.law_refine.Events.Lines.{gives_ticket, last_call, lines_of, read_in_hand, read_waiting}
use Rattle.law_program.specs.PlayedCalls.PlayedCalls.{called_alone}
use Rattle.law_program.specs.PlayedCalls.Waiting.{IsReadCalled, SeatsKeepKeys, StandsForKey, key_made, key_or, key_told, reader_of}
use Rattle.law_program.proofs.OfPlayedCalls.Polled.{IsTraced, trace_of_call}
use Rattle.law_program.proofs.OfPlayedCalls.ReadCalls.{IsReadOf, called_before, called_now}
use Rattle.law_program.proofs.OfPlayedCalls.ToldToWait.{has_waiting, none_taken}

-- ---- the keys that are kept
one_mapped : (c : Bool) (read : WaitingRead) (rest : Option WaitingRead) → option_map (λ (x : WaitingRead). x.key) (cond c (Some read) rest) ≡ cond c (Some read.key) (option_map (λ (x : WaitingRead). x.key) rest)
one_mapped true read rest = refl
one_mapped false read rest = refl

-- the last one counts first
key_behind : (waiting : List WaitingRead) (read : WaitingRead) (ticket : Ticket) → key_of_ticket (waiting ++ read ∷ []) ticket ≡ cond (has_ticket ticket read) (Some read.key) (key_of_ticket waiting ticket)
key_behind waiting read ticket =
    ap (λ (xs : List WaitingRead). option_map (λ (x : WaitingRead). x.key) (find (has_ticket ticket) xs)) (reverse-append waiting (read ∷ []))
    ∙ one_mapped (has_ticket ticket read) read (find (has_ticket ticket) (reverse waiting))

-- what isn't the session's tells it no ticket
gives_none : (number ticket : ℕ) (event : TraceEvent) → is_other number event → gives_ticket number ticket event ≡ false
gives_none number ticket (Answered session its) other = rw other refl
gives_none number ticket event other = refl

pub other_told : (number ticket : ℕ) (it : Traced) (trace : List Traced) → is_other number it.its → key_told number ticket (it ∷ trace) ≡ key_told number ticket trace
other_told number ticket it trace other = rw (gives_none number ticket it.its other) refl

-- ---- a ticket goes on to stand for its call
-- where the life has gone on, and the ticket was not told again
pub stands_on : (bytes : List ℕ) (first : Now) (life later front : List Event) (added : List Traced) (number : ℕ) (ticket : Ticket) (key : Key) → later ≡ front ++ life
    → (run (beginning first bytes) later).past.trace ≡ added ++ (run (beginning first bytes) life).past.trace → reader_of bytes first later number ticket ≡ reader_of bytes first life number ticket
    → StandsForKey bytes first life number ticket key → StandsForKey bytes first later number ticket key
stands_on bytes first life later front added number ticket key so grown same stands = record { before = before; read = read }
  where
    more : (added trace : List Traced) (n : ℕ) → n < length trace → n < length (added ++ trace)
    more [] trace n below = below
    more (it ∷ added) trace n below = let rest = more added trace n below in omega (arith, rest)

    before : reader_of bytes first later number ticket < length (run (beginning first bytes) later).past.trace
    before =
        subst (λ (n : ℕ). n < length (run (beginning first bytes) later).past.trace) (sym same)
        (subst (λ (x : List Traced). reader_of bytes first life number ticket < length x) (sym grown) (more added (run (beginning first bytes) life).past.trace (reader_of bytes first life number ticket) stands.before))

    called_on : (reader : ℕ) → IsReadCalled bytes first life number ticket reader key → IsReadCalled bytes first later number ticket reader key
    called_on reader its = record {
      since = front ++ its.since;
      moves = its.moves;
      earlier = its.earlier;
      called = so ∙ (ap (λ (x : List Event). front ++ x) its.called ∙ sym (append_assoc front its.since (called_alone number its.moves (call.Op (Read key)) its.earlier)));
      line = its.line;
      none = its.none;
      waits = its.waits;
      its_number = its.its_number;
    }

    read : (its : ℕ) → IsIn (CallsRead (reader_of bytes first later number ticket) its) (lines_so_far first bytes later) → (its ≡ key.0) × IsReadCalled bytes first later number ticket (reader_of bytes first later number ticket) key
    read its is_in =
        let here : IsIn (CallsRead (reader_of bytes first life number ticket) its) (lines_of (serials_in first) (added ++ (run (beginning first bytes) life).past.trace))
        = subst (λ (x : List Traced). IsIn (CallsRead (reader_of bytes first life number ticket) its) (lines_of (serials_in first) x)) grown
        (subst (λ (n : ℕ). IsIn (CallsRead n its) (lines_so_far first bytes later)) same is_in) in
        let was = stands.read its (called_before its (reader_of bytes first life number ticket) (serials_in first) added (run (beginning first bytes) life).past.trace stands.before here) in
        (was.0, subst (λ (n : ℕ). IsReadCalled bytes first later number ticket n key) (sym same) (called_on (reader_of bytes first life number ticket) was.1))

-- ---- by a call of the session
-- an answer that is no ticket leaves what waits
abbrev waits_still : ℕ → ℕ → Told → List Finished → Type 0
waits_still number ticket its list = gives_ticket number ticket (Answered number (telling its list)) ≡ false

if_still : {A : Type 0} (c : Bool) (x y : A) → c ≡ false → (if c then x else y) ≡ y
if_still c x y e = ap (λ (b : Bool). if b then x else y) e

if_now : {A : Type 0} (c : Bool) (x y : A) → c ≡ true → (if c then x else y) ≡ x
if_now c x y e = ap (λ (b : Bool). if b then x else y) e

both_so : (c d : Bool) → c ≡ true → (c && d) ≡ d
both_so c d e = ap (λ (b : Bool). b && d) e

module _ (bytes : List ℕ) (first : Now) (life : List Event) (number count : ℕ) (asked : Call) where
  abbrev later : List Event
  later = called_alone number count asked life

  abbrev trace : List Traced
  trace = (run (beginning first bytes) life).past.trace

  front_so : later ≡ (replicate count (Moves number) ++ Calls number asked ∷ []) ++ life
  front_so = sym (append_assoc (replicate count (Moves number)) (Calls number asked ∷ []) life)

  module _ (its : Told) (list : List Finished) (at : IsTraced bytes first life number count asked its list) where
    abbrev added : List Traced
    added = record { its = Answered number (telling its list); effects = at.later } ∷ record { its = Called number asked; effects = at.e } ∷ []

    goes_on : (other : ℕ) (ticket : Ticket) (key : Key) → reader_of bytes first later other ticket ≡ reader_of bytes first life other ticket → StandsForKey bytes first life other ticket key → StandsForKey bytes first later other ticket key
    goes_on other ticket key same stands = stands_on bytes first life later (replicate count (Moves number) ++ Calls number asked ∷ []) added other ticket key front_so at.so same stands

    own_still : (ticket : Ticket) → waits_still number ticket.0 its list → reader_of bytes first later number ticket ≡ reader_of bytes first life number ticket
    own_still ticket still =
        ap (read_waiting number ticket.0) at.so
        ∙ if_still (gives_ticket number ticket.0 (Answered number (telling its list))) (read_in_hand number (record { its = Called number asked; effects = at.e } ∷ trace)) (read_waiting number ticket.0 trace) still

    other_still : (other : ℕ) (ticket : Ticket) → (number == other) ≡ false → reader_of bytes first later other ticket ≡ reader_of bytes first life other ticket
    other_still other ticket apart =
        ap (read_waiting other ticket.0) at.so
        ∙ (other_waiting other ticket.0 (record { its = Answered number (telling its list); effects = at.later }) (record { its = Called number asked; effects = at.e } ∷ trace) apart
        ∙ other_waiting other ticket.0 (record { its = Called number asked; effects = at.e }) trace apart)

    abbrev with_call : List Traced
    with_call = record { its = Called number asked; effects = at.e } ∷ trace

    -- nor does the session's own answer, but for a read that goes pending
    keys_still : (ticket : Ticket) → waits_still number ticket.0 its list → key_told number ticket.0 (run (beginning first bytes) later).past.trace ≡ key_told number ticket.0 trace
    keys_still ticket still =
        ap (key_told number ticket.0) at.so
        ∙ if_still (gives_ticket number ticket.0 (Answered number (telling its list))) (key_made (last_call number with_call) (key_told number ticket.0 trace)) (key_told number ticket.0 trace) still

    keys_now : (ticket : Ticket) → gives_ticket number ticket.0 (Answered number (telling its list)) ≡ true
        → key_told number ticket.0 (run (beginning first bytes) later).past.trace ≡ key_or (key_of_call asked) (key_told number ticket.0 trace)
    keys_now ticket gives =
        ap (key_told number ticket.0) at.so
        ∙ (if_now (gives_ticket number ticket.0 (Answered number (telling its list))) (key_made (last_call number with_call) (key_told number ticket.0 trace)) (key_told number ticket.0 trace) gives
        ∙ ap (λ (b : Bool). key_made (if b then Some (record { call = asked; number = length trace }) else last_call number trace) (key_told number ticket.0 trace)) (same_number number))

    other_keys : (other : ℕ) (ticket : Ticket) → (number == other) ≡ false → key_told other ticket.0 (run (beginning first bytes) later).past.trace ≡ key_told other ticket.0 trace
    other_keys other ticket apart =
        ap (key_told other ticket.0) at.so
        ∙ (other_told other ticket.0 (record { its = Answered number (telling its list); effects = at.later }) with_call apart
        ∙ other_told other ticket.0 (record { its = Called number asked; effects = at.e }) trace apart)

    -- the ticket that is told now stands for this call
    own_now : (ticket : Ticket) → gives_ticket number ticket.0 (Answered number (telling its list)) ≡ true → reader_of bytes first later number ticket ≡ length trace
    own_now ticket gives =
        ap (read_waiting number ticket.0) at.so
        ∙ (if_now (gives_ticket number ticket.0 (Answered number (telling its list))) (read_in_hand number (record { its = Called number asked; effects = at.e } ∷ trace)) (read_waiting number ticket.0 trace) gives
        ∙ called_hand at.e number asked trace)

    stands_now : (ticket : Ticket) (key : Key) → its ≡ told.PendingRead ticket → gives_ticket number ticket.0 (Answered number (telling its list)) ≡ true → ((k : Key) → asked ≡ call.Op (Read k) → k ≡ key) → StandsForKey bytes first later number ticket key
    stands_now ticket key waits gives only = record {
      before =
          subst (λ (n : ℕ). n < length (run (beginning first bytes) later).past.trace) (sym (own_now ticket gives))
          (subst (λ (x : List Traced). length trace < length x) (sym at.so) (omega arith));
      read = λ k is_in.
          let here : IsIn (CallsRead (length trace) k) (lines_of (serials_in first) (trace_of_call number asked at.e at.later trace its list))
          = subst (λ (x : List Traced). IsIn (CallsRead (length trace) k) (lines_of (serials_in first) x)) at.so (subst (λ (n : ℕ). IsIn (CallsRead n k) (lines_so_far first bytes later)) (own_now ticket gives) is_in) in
          let read : IsReadOf asked k = called_now k (serials_in first) number at.e at.later asked (Answered number (telling its list)) trace here in
          let same : read.its_key ≡ key = only read.its_key read.its_op in (
            read.same ∙ ap (λ (x : Key). x.0) same,
            subst (λ (n : ℕ). IsReadCalled bytes first later number ticket n key) (sym (own_now ticket gives))
                (subst (λ (x : Key). IsReadCalled bytes first later number ticket (length trace) x) same (called_here read.its_key read.its_op)),
          );
    }
      where
        called_here : (k : Key) → asked ≡ call.Op (Read k) → IsReadCalled bytes first later number ticket (length trace) k
        called_here k is =
            let its_line = at.line k is in
            let now : IsTraced bytes first life number count asked (told.PendingRead ticket) list = subst (λ (x : Told). IsTraced bytes first life number count asked x list) waits at in
            record {
              since = [];
              moves = count;
              earlier = life;
              called = ap (λ (x : Call). called_alone number count x life) is;
              line = its_line;
              none = none_taken bytes first life number count asked ticket list now k is;
              waits = subst (λ (x : Call). HasWaiting (run (beginning first bytes) (called_alone number count x life)).now number ticket) is (has_waiting bytes first life number count asked ticket list now);
              its_number = subst (λ (x : Call). waiting_read first bytes (called_alone number count x life) number ticket ≡ length trace) is (own_now ticket gives);
            }

  own_number : (number == number) ≡ true
  own_number = grind (arith, nat_tests)

  -- what waits, by what the session was told
  module _ (given : Answer) (waiting : List WaitingRead) (were : (ticket : Ticket) → key_of_ticket waiting ticket ≡ key_told number ticket.0 trace)
      (keeps : (ticket : Ticket) (key : Key) → key_of_ticket waiting ticket ≡ Some key → StandsForKey bytes first life number ticket key) where
    kept_so : (its : Told) (list : List Finished) → IsTraced bytes first life number count asked its list → (ticket : Ticket) (key : Key) → waits_still number ticket.0 its list → waiting_behind asked given waiting ≡ waiting
        → key_of_ticket (waiting_behind asked given waiting) ticket ≡ Some key → StandsForKey bytes first later number ticket key
    kept_so its list at ticket key still same found =
        goes_on its list at number ticket key (own_still its list at ticket still) (keeps ticket key (ap (λ (x : List WaitingRead). key_of_ticket x ticket) (sym same) ∙ found))

    found_before : (told_now : Ticket) (asked_key : Option Key) (ticket : Ticket) (key : Key) → nat_eq told_now.0 ticket.0 ≡ false → key_of_ticket (waiting ++ read_of told_now asked_key) ticket ≡ Some key → key_of_ticket waiting ticket ≡ Some key
    found_before told_now None ticket key other found = ap (λ (x : List WaitingRead). key_of_ticket x ticket) (sym (append-nil waiting)) ∙ found
    found_before told_now (Some k) ticket key other found =
        sym (key_behind waiting (record { ticket = told_now; key = k }) ticket ∙ ap (λ (c : Bool). cond c (Some k) (key_of_ticket waiting ticket)) other) ∙ found

    found_now : (told_now : Ticket) (k : Key) (ticket : Ticket) (key : Key) → nat_eq told_now.0 ticket.0 ≡ true → key_of_ticket (waiting ++ read_of told_now (Some k)) ticket ≡ Some key → k ≡ key
    found_now told_now k ticket key same found =
        some_same _ _ (sym (key_behind waiting (record { ticket = told_now; key = k }) ticket ∙ ap (λ (c : Bool). cond c (Some k) (key_of_ticket waiting ticket)) same) ∙ found)

    kept_told : (told_now : Ticket) (list : List Finished) → IsTraced bytes first life number count asked (told.PendingRead told_now) list → (ticket : Ticket) (key : Key) → (c : Bool) → (told_now.0 == ticket.0) ≡ c
        → key_of_ticket (waiting ++ read_of told_now (key_of_call asked)) ticket ≡ Some key → StandsForKey bytes first later number ticket key
    kept_told told_now list at ticket key true e found =
        let same : nat_eq told_now.0 ticket.0 ≡ true = grind (arith, nat_tests, e) in
        let same_number_told : told_now.0 ≡ ticket.0 = grind (arith, nat_tests, e) in
        stands_now (told.PendingRead told_now) list at ticket key (ap (λ (n : ℕ). told.PendingRead (record { 0 = n })) same_number_told) (both_so (number == number) (told_now.0 == ticket.0) own_number ∙ e)
        (λ k is. found_now told_now k ticket key same (subst (λ (x : Call). key_of_ticket (waiting ++ read_of told_now (key_of_call x)) ticket ≡ Some key) is found))
    kept_told told_now list at ticket key false e found =
        let other : nat_eq told_now.0 ticket.0 ≡ false = grind (arith, nat_tests, e) in
        goes_on (told.PendingRead told_now) list at number ticket key (own_still (told.PendingRead told_now) list at ticket (both_so (number == number) (told_now.0 == ticket.0) own_number ∙ e))
        (keeps ticket key (found_before told_now (key_of_call asked) ticket key other found))

    same_waiting : (other : Answer) → given ≡ other → waiting_behind asked given waiting ≡ waiting_behind asked other waiting
    same_waiting other is = ap (λ (x : Answer). waiting_behind asked x waiting) is

    no_ticket : (c : Bool) → c ≡ false → ((number == number) && c) ≡ false
    no_ticket c e = both_so (number == number) c own_number ∙ e

    polled_waiting : (list : List Finished) (left : ℕ) (other : Answer) → given ≡ other → IsAnswerTold (told.Polled left) list other → waiting_behind asked given waiting ≡ waiting
    polled_waiting list left (answer.Polled items count) is polled = same_waiting (answer.Polled items count) is
    polled_waiting list left other is polled = absurd polled

    pub own_kept : (its : Told) (list : List Finished) → IsTraced bytes first life number count asked its list → IsAnswerTold its list given → (ticket : Ticket) (key : Key) → key_of_ticket (waiting_behind asked given waiting) ticket ≡ Some key
        → StandsForKey bytes first later number ticket key
    own_kept (told.PendingRead told_now) list at is ticket key found =
        kept_told told_now list at ticket key (told_now.0 == ticket.0) refl (ap (λ (x : List WaitingRead). key_of_ticket x ticket) (sym (same_waiting (answer.PendingRead told_now) is)) ∙ found)
    own_kept (told.Polled left) list at is ticket key found = kept_so (told.Polled left) list at ticket key (no_ticket false refl) (polled_waiting list left given refl is) found
    own_kept (told.Done serial reply) list at is ticket key found = kept_so (told.Done serial reply) list at ticket key (no_ticket false refl) (same_waiting (answer.Done serial reply) is) found
    own_kept (told.Pending serial why) list at is ticket key found = kept_so (told.Pending serial why) list at ticket key (no_ticket false refl) (same_waiting (answer.Pending serial why) is) found
    own_kept (told.Found value) list at is ticket key found = kept_so (told.Found value) list at ticket key (no_ticket false refl) (same_waiting (answer.Found value) is) found
    own_kept told.Absent list at is ticket key found = kept_so told.Absent list at ticket key (no_ticket false refl) (same_waiting answer.Absent is) found
    own_kept (told.Refreshed phase version) list at is ticket key found = kept_so (told.Refreshed phase version) list at ticket key (no_ticket false refl) (same_waiting (answer.Refreshed phase version) is) found
    own_kept (told.Woken phase version) list at is ticket key found = kept_so (told.Woken phase version) list at ticket key (no_ticket false refl) (same_waiting (answer.Woken phase version) is) found
    own_kept told.Slept list at is ticket key found = kept_so told.Slept list at ticket key (no_ticket false refl) (same_waiting answer.Slept is) found
    own_kept (told.Durable serial) list at is ticket key found = kept_so (told.Durable serial) list at ticket key (no_ticket false refl) (same_waiting (answer.Durable serial) is) found
    own_kept (told.Refused why) list at is ticket key found = kept_so (told.Refused why) list at ticket key (no_ticket false refl) (same_waiting (answer.Refused why) is) found

    -- and it keeps just the keys of the tickets that were told
    same_so : (its : Told) (list : List Finished) → IsTraced bytes first life number count asked its list → (ticket : Ticket) → waits_still number ticket.0 its list → waiting_behind asked given waiting ≡ waiting
        → key_of_ticket (waiting_behind asked given waiting) ticket ≡ key_told number ticket.0 (run (beginning first bytes) later).past.trace
    same_so its list at ticket still stays = ap (λ (x : List WaitingRead). key_of_ticket x ticket) stays ∙ (were ticket ∙ sym (keys_still its list at ticket still))

    key_now : (told_now : Ticket) (asked_key : Option Key) (ticket : Ticket) → nat_eq told_now.0 ticket.0 ≡ true → key_of_ticket (waiting ++ read_of told_now asked_key) ticket ≡ key_or asked_key (key_told number ticket.0 trace)
    key_now told_now None ticket same = ap (λ (x : List WaitingRead). key_of_ticket x ticket) (append-nil waiting) ∙ were ticket
    key_now told_now (Some k) ticket same = key_behind waiting (record { ticket = told_now; key = k }) ticket ∙ ap (λ (c : Bool). cond c (Some k) (key_of_ticket waiting ticket)) same

    key_before : (told_now : Ticket) (asked_key : Option Key) (ticket : Ticket) → nat_eq told_now.0 ticket.0 ≡ false → key_of_ticket (waiting ++ read_of told_now asked_key) ticket ≡ key_told number ticket.0 trace
    key_before told_now None ticket other = ap (λ (x : List WaitingRead). key_of_ticket x ticket) (append-nil waiting) ∙ were ticket
    key_before told_now (Some k) ticket other =
        key_behind waiting (record { ticket = told_now; key = k }) ticket ∙ (ap (λ (c : Bool). cond c (Some k) (key_of_ticket waiting ticket)) other ∙ were ticket)

    same_told : (told_now : Ticket) (list : List Finished) → IsTraced bytes first life number count asked (told.PendingRead told_now) list → (ticket : Ticket) (c : Bool) → (told_now.0 == ticket.0) ≡ c
        → key_of_ticket (waiting ++ read_of told_now (key_of_call asked)) ticket ≡ key_told number ticket.0 (run (beginning first bytes) later).past.trace
    same_told told_now list at ticket true e =
        let same : nat_eq told_now.0 ticket.0 ≡ true = grind (arith, nat_tests, e) in
        key_now told_now (key_of_call asked) ticket same ∙ sym (keys_now (told.PendingRead told_now) list at ticket (both_so (number == number) (told_now.0 == ticket.0) own_number ∙ e))
    same_told told_now list at ticket false e =
        let other : nat_eq told_now.0 ticket.0 ≡ false = grind (arith, nat_tests, e) in
        key_before told_now (key_of_call asked) ticket other ∙ sym (keys_still (told.PendingRead told_now) list at ticket (both_so (number == number) (told_now.0 == ticket.0) own_number ∙ e))

    pub own_told : (its : Told) (list : List Finished) → IsTraced bytes first life number count asked its list → IsAnswerTold its list given → (ticket : Ticket)
        → key_of_ticket (waiting_behind asked given waiting) ticket ≡ key_told number ticket.0 (run (beginning first bytes) later).past.trace
    own_told (told.PendingRead told_now) list at is ticket =
        ap (λ (x : List WaitingRead). key_of_ticket x ticket) (same_waiting (answer.PendingRead told_now) is) ∙ same_told told_now list at ticket (told_now.0 == ticket.0) refl
    own_told (told.Polled left) list at is ticket = same_so (told.Polled left) list at ticket (no_ticket false refl) (polled_waiting list left given refl is)
    own_told (told.Done serial reply) list at is ticket = same_so (told.Done serial reply) list at ticket (no_ticket false refl) (same_waiting (answer.Done serial reply) is)
    own_told (told.Pending serial why) list at is ticket = same_so (told.Pending serial why) list at ticket (no_ticket false refl) (same_waiting (answer.Pending serial why) is)
    own_told (told.Found value) list at is ticket = same_so (told.Found value) list at ticket (no_ticket false refl) (same_waiting (answer.Found value) is)
    own_told told.Absent list at is ticket = same_so told.Absent list at ticket (no_ticket false refl) (same_waiting answer.Absent is)
    own_told (told.Refreshed phase version) list at is ticket = same_so (told.Refreshed phase version) list at ticket (no_ticket false refl) (same_waiting (answer.Refreshed phase version) is)
    own_told (told.Woken phase version) list at is ticket = same_so (told.Woken phase version) list at ticket (no_ticket false refl) (same_waiting (answer.Woken phase version) is)
    own_told told.Slept list at is ticket = same_so told.Slept list at ticket (no_ticket false refl) (same_waiting answer.Slept is)
    own_told (told.Durable serial) list at is ticket = same_so (told.Durable serial) list at ticket (no_ticket false refl) (same_waiting (answer.Durable serial) is)
    own_told (told.Refused why) list at is ticket = same_so (told.Refused why) list at ticket (no_ticket false refl) (same_waiting (answer.Refused why) is)

  -- ---- all seats
  -- a seat behind the answer is another's, or the session's
  data IsSeatBehind (given : Answer) (seats : List SeatState) (other : ℕ) (seat : SeatState) : Type 0 where
    Others : (other ≢ number) → slice_get seats other ≡ Some seat → IsSeatBehind given seats other seat
    Own : (was : SeatState) → other ≡ number → slice_get seats number ≡ Some was → seat ≡ seat_behind asked given was → IsSeatBehind given seats other seat

  seat_behind_so : (given : Answer) (seats : List SeatState) (other : ℕ) (seat : SeatState) (was : Option SeatState) → slice_get seats number ≡ was → slice_get (seat_answered number asked given seats was) other ≡ Some seat
      → IsSeatBehind given seats other seat
  seat_behind_so given seats other seat None there found = by_other (same_or other number)
    where
      by_other : (other ≡ number) ⊎ (other ≢ number) → IsSeatBehind given seats other seat
      by_other (inl same) = none_some seat (sym there ∙ (ap (slice_get seats) (sym same) ∙ found))
      by_other (inr apart) = Others apart found
  seat_behind_so given seats other seat (Some was) there found = by_other (same_or other number)
    where
      by_other : (other ≡ number) ⊎ (other ≢ number) → IsSeatBehind given seats other seat
      by_other (inl same) = Own was same there (some_same _ _ (sym found ∙ (ap (slice_get (slice_set seats number (seat_behind asked given was))) same ∙ item_written seats number was (seat_behind asked given was) there)))
      by_other (inr apart) = Others apart (sym (item_spared seats number other (seat_behind asked given was) apart) ∙ found)

  pub seats_kept : (given : Answer) (seats : List SeatState) (its : Told) (list : List Finished) → IsTraced bytes first life number count asked its list → IsAnswerTold its list given → SeatsKeepKeys bytes first life seats
      → SeatsKeepKeys bytes first later (seats_answered number asked given seats)
  seats_kept given seats its list at is keeps = record {
    told = λ other seat found ticket. told_by other seat ticket (seat_behind_so given seats other seat (slice_get seats number) refl found);
    stand = λ other seat found ticket key kept. stands_by other seat ticket key kept (seat_behind_so given seats other seat (slice_get seats number) refl found);
  }
    where
      told_by : (other : ℕ) (seat : SeatState) (ticket : Ticket) → IsSeatBehind given seats other seat → key_of_ticket seat.waiting ticket ≡ key_told other ticket.0 (run (beginning first bytes) later).past.trace
      told_by other seat ticket (Others apart there) =
          let other_one : (number == other) ≡ false = grind (arith, nat_tests) in
          keeps.told other seat there ticket ∙ sym (other_keys its list at other ticket other_one)
      told_by other seat ticket (Own was same there behind) =
          subst (λ (n : ℕ). key_of_ticket seat.waiting ticket ≡ key_told n ticket.0 (run (beginning first bytes) later).past.trace) (sym same)
          (ap (λ (x : SeatState). key_of_ticket x.waiting ticket) behind ∙ own_told given was.waiting (keeps.told number was there) (keeps.stand number was there) its list at is ticket)

      stands_by : (other : ℕ) (seat : SeatState) (ticket : Ticket) (key : Key) → key_of_ticket seat.waiting ticket ≡ Some key → IsSeatBehind given seats other seat → StandsForKey bytes first later other ticket key
      stands_by other seat ticket key kept (Others apart there) =
          let other_one : (number == other) ≡ false = grind (arith, nat_tests) in
          goes_on its list at other ticket key (other_still its list at other ticket other_one) (keeps.stand other seat there ticket key kept)
      stands_by other seat ticket key kept (Own was same there behind) =
          subst (λ (n : ℕ). StandsForKey bytes first later n ticket key) (sym same)
          (own_kept given was.waiting (keeps.told number was there) (keeps.stand number was there) its list at is ticket key (ap (λ (x : SeatState). key_of_ticket x.waiting ticket) (sym behind) ∙ kept))
