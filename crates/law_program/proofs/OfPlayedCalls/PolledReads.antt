-- The value that a poll gives for a read is one that its key has had since the call. While the keeper has swept nothing, it is the key's at that call.
use Rattle.std.proofs.Common.{◌≡◌, ◌<◌, ◌+◌, ◌∙◌, ℕ, List, [], ◌∷◌, ◌++◌, ap, append_assoc, arith, inl, inr, length, refl, replicate, sym, subst}
use Rattle.std.specs.Prelude.{Option, Some, slice_get}
use Rattle.std.proofs.lemmas.List.{append-nil}
use Rattle.fkv_base.specs.declared.numbers.Key.{Key}
use Rattle.fkv_base.specs.declared.numbers.Value.{Value}
use Rattle.law_order.specs.Below.fkv_core.Openings.{beginning}
use Rattle.law_order.specs.Below.fkv_core.Unswept.{NeverSweeps, UnsweptLivesKeepBegin}
use Rattle.fkv_map.specs.History.{content}
use Rattle.fkv_map.specs.Map.{Map, reply_to}
use Rattle.fkv_map.specs.declared.history.HistoryEntry.{HistoryEntry}
use Rattle.fkv_map.specs.declared.operations.Call.{Call}
use Rattle.fkv_map.specs.declared.operations.Call.TheVariants as call
use Rattle.fkv_map.specs.declared.operations.Op.TheVariants.{Read}
use Rattle.fkv_map.specs.declared.operations.Reply.{Reply}
use Rattle.law_order.specs.Below.fkv_opening.TheOpened.{Opened}
use Rattle.law_order.specs.Below.fkv_pending.Ticket.{Ticket}
use Rattle.fkv_runs.specs.Below.fkv_playing.Seats.{SeatState}
use Rattle.law_order.specs.Below.fkv_session.Accounts.{AreAccountedFor, names_of}
use Rattle.law_order.specs.Below.fkv_session.Answers.{IsAnswerTold}
use Rattle.law_order.specs.Below.fkv_session.SessionRun.{in_hand, telling}
use Rattle.law_order.specs.Below.fkv_session.Answer.{Answer}
use Rattle.law_order.specs.Below.fkv_session.Finished.{Finished}
use Rattle.law_order.specs.Below.fkv_session.Finished.TheVariants as finished
use Rattle.law_order.specs.Below.fkv_session.Told.{Told}
use Rattle.law_order.specs.Below.fkv_session.Told.TheVariants as told
use Rattle.fkv_texts.specs.Polls.{key_of_ticket}
use Rattle.law_order.specs.Below.fkv_world.Opened.{IsOpenedWorld, answers_of}
use Rattle.law_order.specs.Below.fkv_world.Past as world
use Rattle.law_order.specs.Below.fkv_world.Past.{Answered, Called, Traced}
use Rattle.law_order.specs.Below.fkv_world.Runs.{run}
use Rattle.law_order.specs.Below.fkv_world.World.{Calls, Event, Moves, Now}
use Rattle.law_log.specs.Trace.{AnswersRead, CallsRead, Effect, IsIn, TraceLine, history_of}
use Rattle.law_order.specs.Known.Begins.{BeginStays}
use Rattle.law_order.specs.OneHistory.EachLife.{InEachLife, IsLife, Life}
use Rattle.law_order.specs.Below.law_opening.Log.Maps.{opening_map}
use Rattle.law_order.specs.Rules.InTime.{IsInTime, ReadsInTime}
use Rattle.law_order.specs.Rules.Ordered.{ReadsFreshly, effects_so_far, lines_so_far}
use Rattle.law_order.specs.Rules.Waiting.{WaitingReadsInTime, waiting_read}
use Rattle.law_order.proofs.OfReads.LifeNumbers.{life_numbered}
use Rattle.law_order.proofs.OfReads.Numbers.{own_below}
use Rattle.law_order.proofs.Below.law_world.OfRuns.Added.{history_so}
use Rattle.law_order.specs.Below.law_refine.Calls.Calls.{effects_in_log, event_adds}
use Rattle.law_order.specs.Below.law_refine.Events.GhostEvents.{serials_in}
use Rattle.law_order.specs.Below.law_refine.Events.Lines.{event_lines, lines_of, read_reply}
use Rattle.law_program.specs.PlayedCalls.PlayedCalls.{called_alone}
use Rattle.law_program.specs.PlayedCalls.Waiting.{AreKeptAndRead, IsReadAtCall, IsReadCalled, IsReadInTime, SeatsKeepKeys, StandsForKey, key_told, reader_of}
use Rattle.law_program.proofs.OfPlayedCalls.Polled.{IsPolled, IsTraced, finished_in, line_in, polled, trace_of_call}
use Rattle.law_program.proofs.OfPlayedCalls.InLife.{was_there}
use Rattle.law_program.proofs.OfPlayedCalls.ReadCalls.{called_before}
use Rattle.law_program.proofs.OfPlayedCalls.ToldToWait.{call_adds_none}
use Rattle.law_program.proofs.OfPlayedCalls.Tickets.{accounted, key_of_given, ticket_given}
use Rattle.law_program.proofs.OfPlayedCalls.Unswept.{unswept_before}
use Rattle.law_program.proofs.OfWholeCalls.InLists.{in_right}

-- a line stands between others
line_parted : (lines : List TraceLine) (line : TraceLine) → IsIn line lines → (later : List TraceLine) × (before : List TraceLine) × (lines ≡ later ++ line ∷ before)
line_parted [] line is_in = absurd is_in
line_parted (x ∷ rest) line (inl same) = ([], rest, ap (λ (y : TraceLine). y ∷ rest) same)
line_parted (x ∷ rest) line (inr more) = let its = line_parted rest line more in (x ∷ its.0, its.1, ap (λ (xs : List TraceLine). x ∷ xs) its.2)

-- where nothing took effect in between, a reply of that time is the map's
none_more : (first between newer : List HistoryEntry) → first ≡ first ++ (between ++ newer) → between ≡ []
none_more first [] newer all = refl
none_more first (entry ∷ between) newer all = let long = ap length all in let parts = lengths first (entry ∷ (between ++ newer)) in absurd (omega (arith, long, parts))
  where
    lengths : (xs ys : List HistoryEntry) → length (xs ++ ys) ≡ length xs + length ys
    lengths [] ys = omega arith
    lengths (x ∷ xs) ys = let rest = lengths xs ys in omega (arith, rest)

alone_so : (m : Map) (effects : List Effect) (key : Key) (reply : Reply) → IsInTime m (history_of effects) (history_of effects) key.0 reply → reply ≡ reply_to (content m (history_of effects)) (Read key)
alone_so m effects key reply its =
    its.value
    ∙ ap (λ (x : List HistoryEntry). reply_to (content m x) (Read key)) (ap (λ (x : List HistoryEntry). history_of effects ++ x) (none_more (history_of effects) its.between its.newer its.all) ∙ append-nil (history_of effects))

-- a life that has gone on has a history no shorter
one_longer : (bytes : List ℕ) (first : Now) (event : Event) (life : List Event)
    → (more : List HistoryEntry) × (history_of (effects_so_far first bytes (event ∷ life)) ≡ history_of (effects_so_far first bytes life) ++ more)
unfolding run
one_longer bytes first event life = elim (history_so (run (beginning first bytes) life) event) [
  | inl same ↦ ([], ap (λ (x : List world.Effect). history_of (effects_in_log x)) same ∙ sym (append-nil (history_of (effects_so_far first bytes life))))
  | inr its ↦ (its.0.entry ∷ [], ap (λ (x : List world.Effect). history_of (effects_in_log x)) its.1)
]

grown : (bytes : List ℕ) (first : Now) (behind life : List Event)
    → (more : List HistoryEntry) × (history_of (effects_so_far first bytes (behind ++ life)) ≡ history_of (effects_so_far first bytes life) ++ more)
grown bytes first [] life = ([], sym (append-nil (history_of (effects_so_far first bytes life))))
grown bytes first (event ∷ behind) life =
    let rest = grown bytes first behind life in
    let one = one_longer bytes first event (behind ++ life) in
    (rest.0 ++ one.0, one.1 ∙ (ap (λ (x : List HistoryEntry). x ++ one.0) rest.1 ∙ append_assoc (history_of (effects_so_far first bytes life)) rest.0 one.0))

-- so what is in time is so later, too
in_time_still : (m : Map) (first last more all : List HistoryEntry) (key : ℕ) (reply : Reply) → all ≡ last ++ more → IsInTime m first last key reply → IsInTime m first all key reply
in_time_still m first last more all key reply longer its = record {
  between = its.between;
  newer = its.newer ++ more;
  all = longer ∙ (ap (λ (x : List HistoryEntry). x ++ more) its.all ∙ (append_assoc first (its.between ++ its.newer) more ∙ ap (λ (x : List HistoryEntry). first ++ x) (append_assoc its.between its.newer more)));
  value = its.value;
}

module _ (fresh : InEachLife ReadsFreshly) (waiting : InEachLife WaitingReadsInTime) (in_time : InEachLife ReadsInTime) (bytes : List ℕ) (o : Opened) (first : Now) (life : List Event) (number count : ℕ) (asked : Call) (its : Told) (list : List Finished)
    (at : IsTraced bytes first life number count asked its list) (is_life : IsLife (record { bytes = bytes; opened = o; world = first; events = called_alone number count asked life }))
    (unswept : UnsweptLivesKeepBegin) where
  abbrev later : List Event
  later = called_alone number count asked life

  abbrev lived : Life
  lived = record { bytes = bytes; opened = o; world = first; events = called_alone number count asked life }

  -- its number is a read's
  read_before : (ticket : Ticket) (value : Option Value) → IsPolled its list (finished.Read ticket value) → reader_of bytes first life number ticket < length (run (beginning first bytes) life).past.trace
      → (key : ℕ) × IsIn (CallsRead (reader_of bytes first life number ticket) key) (lines_so_far first bytes life)
  read_before ticket value is low =
      let reader : ℕ = reader_of bytes first life number ticket in
      let line : IsIn (AnswersRead reader (read_reply value)) (lines_so_far first bytes later)
      = subst (λ (x : List Traced). IsIn (AnswersRead reader (read_reply value)) (lines_of (serials_in first) x)) (sym at.so)
      (line_in (serials_in first) number asked at.e at.later (run (beginning first bytes) life).past.trace its list (finished.Read ticket value) is) in
      let parts = line_parted (lines_so_far first bytes later) (AnswersRead reader (read_reply value)) line in
      let called = (fresh lived is_life).called parts.0 parts.1 reader (read_reply value) parts.2 in
      let there : IsIn (CallsRead reader called.0) (lines_so_far first bytes later)
      = subst (IsIn (CallsRead reader called.0)) (sym parts.2) (in_right (CallsRead reader called.0) parts.0 (AnswersRead reader (read_reply value) ∷ parts.1) (inr called.1)) in (
        called.0,
        called_before called.0 reader (serials_in first) (record { its = Answered number (telling its list); effects = at.later } ∷ record { its = Called number asked; effects = at.e } ∷ []) (run (beginning first bytes) life).past.trace low
            (subst (λ (x : List Traced). IsIn (CallsRead reader called.0) (lines_of (serials_in first) x)) at.so there),
      )

  -- of the key that is kept
  called_so : (ticket : Ticket) (value : Option Value) (key : Key) → IsPolled its list (finished.Read ticket value) → StandsForKey bytes first life number ticket key → IsReadCalled bytes first life number ticket (reader_of bytes first life number ticket) key
  called_so ticket value key is stands = let before = read_before ticket value is stands.before in (stands.read before.0 before.1).1

  -- and one is kept, since the ticket was given
  key_kept : IsOpenedWorld (beginning first bytes) → (ticket : Ticket) (value : Option Value) → IsPolled its list (finished.Read ticket value)
      → (key : Key) × (key_told number ticket.0 (run (beginning first bytes) life).past.trace ≡ Some key)
  key_kept opened ticket value is =
      let trace : List Traced = (run (beginning first bytes) life).past.trace in
      let reader : ℕ = reader_of bytes first life number ticket in
      let accounts : AreAccountedFor (answers_of number (trace_of_call number asked at.e at.later trace (told.Polled is.left) list)) (names_of at.s.requests) (in_hand at.s.step at.s.finished)
      = subst (λ (x : Told). AreAccountedFor (answers_of number (trace_of_call number asked at.e at.later trace x list)) (names_of at.s.requests) (in_hand at.s.step at.s.finished)) is.polled
      (subst (λ (x : List Traced). AreAccountedFor (answers_of number x) (names_of at.s.requests) (in_hand at.s.step at.s.finished)) at.so (accounted (beginning first bytes) later number at.s its opened at.found at.at_rest)) in
      let given = ticket_given number at.e at.later is.left asked trace list (in_hand at.s.step at.s.finished) (names_of at.s.requests) ticket (finished.Read ticket value) refl is.is_in accounts in
      let was = was_there (beginning first bytes) life number count asked at.s at.found in
      let own = (life_numbered (beginning first bytes) life number was.s opened was.found).waits ticket.0 given in
      let before = read_before ticket value is (own_below number reader trace own) in
      key_of_given number ticket.0 before.0 (serials_in first) trace given own before.1

  -- its answer's line
  answer_line : (ticket : Ticket) (value : Option Value) → IsPolled its list (finished.Read ticket value)
      → IsIn (AnswersRead (reader_of bytes first life number ticket) (read_reply value)) (event_adds (beginning first bytes) (at.given.between ++ life) at.given.answer)
  answer_line ticket value is =
      let call : Traced = record { its = Called number asked; effects = at.given.e } in
      at.given.adds (AnswersRead (reader_of bytes first life number ticket) (read_reply value))
      (subst (λ (x : Told). IsIn (AnswersRead (reader_of bytes first life number ticket) (read_reply value)) (event_lines (serials_in first) (call ∷ (run (beginning first bytes) life).past.trace) (Answered number (telling x list)))) (sym is.polled)
      (finished_in number (call ∷ (run (beginning first bytes) life).past.trace) (finished.Read ticket value) list is.is_in))

  read_in_time : (ticket : Ticket) (value : Option Value) (key : Key) → IsPolled its list (finished.Read ticket value) → StandsForKey bytes first life number ticket key → IsReadInTime bytes o first life later number ticket key value
  read_in_time ticket value key is stands = record { read = read; in_time = so }
    where
      read : IsReadCalled bytes first life number ticket (reader_of bytes first life number ticket) key
      read = called_so ticket value key is stands

      calls : Event
      calls = Calls number (call.Op (Read key))

      between : List Event
      between = at.given.between ++ (read.since ++ replicate read.moves (Moves number))

      answered : List Event
      answered = at.given.answer ∷ (between ++ calls ∷ read.earlier)

      mid : at.given.between ++ life ≡ between ++ calls ∷ read.earlier
      mid =
          ap (λ (x : List Event). at.given.between ++ x) (read.called ∙ sym (append_assoc read.since (replicate read.moves (Moves number)) (calls ∷ read.earlier)))
          ∙ sym (append_assoc at.given.between (read.since ++ replicate read.moves (Moves number)) (calls ∷ read.earlier))

      whole : later ≡ at.given.behind ++ answered
      whole = at.given.so ∙ ap (λ (x : List Event). at.given.behind ++ at.given.answer ∷ x) mid

      by_law : IsInTime (opening_map bytes o) (history_of (effects_so_far first bytes (calls ∷ read.earlier))) (history_of (effects_so_far first bytes answered)) key.0 (read_reply value)
      by_law =
          in_time lived is_life at.given.behind between read.earlier calls at.given.answer (reader_of bytes first life number ticket) key.0 (read_reply value) whole read.line
          (subst (λ (x : List Event). IsIn (AnswersRead (reader_of bytes first life number ticket) (read_reply value)) (event_adds (beginning first bytes) x at.given.answer)) mid (answer_line ticket value is))

      behind : (more : List HistoryEntry) × (history_of (effects_so_far first bytes (at.given.behind ++ answered)) ≡ history_of (effects_so_far first bytes answered) ++ more)
      behind = grown bytes first at.given.behind answered

      so : IsInTime (opening_map bytes o) (history_of (effects_so_far first bytes read.earlier)) (history_of (effects_so_far first bytes later)) key.0 (read_reply value)
      so =
          subst (λ (x : List Effect). IsInTime (opening_map bytes o) (history_of x) (history_of (effects_so_far first bytes later)) key.0 (read_reply value)) (call_adds_none bytes first read.earlier number (call.Op (Read key)))
          (in_time_still (opening_map bytes o) (history_of (effects_so_far first bytes (calls ∷ read.earlier))) (history_of (effects_so_far first bytes answered)) behind.0 (history_of (effects_so_far first bytes later)) key.0 (read_reply value)
          (ap (λ (x : List Event). history_of (effects_so_far first bytes x)) whole ∙ behind.1) by_law)

  read_at_call : NeverSweeps (beginning first bytes) later → (ticket : Ticket) (value : Option Value) (key : Key) → IsPolled its list (finished.Read ticket value) → StandsForKey bytes first life number ticket key
      → IsReadAtCall bytes o first life number ticket key value
  read_at_call never ticket value key is stands = record { read = read; by_map = alone_so (opening_map bytes o) (effects_so_far first bytes read.earlier) key (read_reply value) so }
    where
      read : IsReadCalled bytes first life number ticket (reader_of bytes first life number ticket) key
      read = called_so ticket value key is stands

      calls : Event
      calls = Calls number (call.Op (Read key))

      there : List Event
      there = called_alone number read.moves (call.Op (Read key)) read.earlier

      mid : at.given.between ++ life ≡ (at.given.between ++ read.since) ++ there
      mid = ap (λ (x : List Event). at.given.between ++ x) read.called ∙ sym (append_assoc at.given.between read.since there)

      whole : later ≡ at.given.behind ++ at.given.answer ∷ ((at.given.between ++ read.since) ++ there)
      whole = at.given.so ∙ ap (λ (x : List Event). at.given.behind ++ at.given.answer ∷ x) mid

      -- its keeper has swept nothing, so its log begins where it did
      stays : BeginStays (beginning first bytes) (at.given.answer ∷ ((at.given.between ++ read.since) ++ there))
      stays =
          unswept (beginning first bytes) (at.given.answer ∷ ((at.given.between ++ read.since) ++ there)) at.opened
          (unswept_before (beginning first bytes) at.given.behind (at.given.answer ∷ ((at.given.between ++ read.since) ++ there)) (subst (NeverSweeps (beginning first bytes)) whole never))

      told_there : IsIn (AnswersRead (waiting_read first bytes there number ticket) (read_reply value)) (event_adds (beginning first bytes) ((at.given.between ++ read.since) ++ there) at.given.answer)
      told_there =
          subst (λ (n : ℕ). IsIn (AnswersRead n (read_reply value)) (event_adds (beginning first bytes) ((at.given.between ++ read.since) ++ there) at.given.answer)) (sym read.its_number)
          (subst (λ (x : List Event). IsIn (AnswersRead (reader_of bytes first life number ticket) (read_reply value)) (event_adds (beginning first bytes) x at.given.answer)) mid (answer_line ticket value is))

      by_law : IsInTime (opening_map bytes o) (history_of (effects_so_far first bytes (calls ∷ read.earlier))) (history_of (effects_so_far first bytes there)) key.0 (read_reply value)
      by_law =
          waiting lived is_life at.given.behind (at.given.between ++ read.since) (replicate read.moves (Moves number)) read.earlier calls at.given.answer number key.0 ticket (read_reply value) whole stays read.waits
          (subst (λ (n : ℕ). IsIn (CallsRead n key.0) (event_adds (beginning first bytes) read.earlier calls)) (sym read.its_number) read.line) told_there

      so : IsInTime (opening_map bytes o) (history_of (effects_so_far first bytes read.earlier)) (history_of (effects_so_far first bytes read.earlier)) key.0 (read_reply value)
      so =
          subst (λ (x : List Effect). IsInTime (opening_map bytes o) (history_of x) (history_of (effects_so_far first bytes read.earlier)) key.0 (read_reply value)) (call_adds_none bytes first read.earlier number (call.Op (Read key)))
          (subst (λ (x : List Effect). IsInTime (opening_map bytes o) (history_of (effects_so_far first bytes (calls ∷ read.earlier))) (history_of x) key.0 (read_reply value)) read.none by_law)

  pub reads_answered : IsOpenedWorld (beginning first bytes) → (seats : List SeatState) (given : Answer) → IsAnswerTold its list given → SeatsKeepKeys bytes first life seats → (seat : SeatState) → slice_get seats number ≡ Some seat
      → AreKeptAndRead bytes o first life later number seat.waiting given
  reads_answered opened seats given is_told keeps seat there ticket value is_in =
      let is = polled its list given (finished.Read ticket value) is_told is_in in
      let key = key_kept opened ticket value is in
      let kept : key_of_ticket seat.waiting ticket ≡ Some key.0 = keeps.told number seat there ticket ∙ key.1 in
      let stands = keeps.stand number seat there ticket key.0 kept in
      record { key = key.0; kept = kept; in_time = read_in_time ticket value key.0 is stands; at_call = λ never. read_at_call never ticket value key.0 is stands }
