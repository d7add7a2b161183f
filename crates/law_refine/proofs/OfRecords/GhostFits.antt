-- What the log's events of a session's step have to do with the session: what it changes in place, and that the record which it publishes stands.
use Rattle.std.proofs.Common.{◌≡◌, ℕ, ◌<◌, ◌^◌, ◌∙◌, arith, refl, sym, ap, subst, Bool, true, false, List, [], ◌∷◌, ◌++◌}
use Rattle.std.specs.Prelude.{◌==◌, ◌&&◌, nat_lt, if◌then◌else◌, ⊤, Option, Some, None}
use Rattle.std.proofs.lemmas.Bool.Decides.{nat_tests}
use Rattle.fkv_marks.specs.Marks.{mark}
use Rattle.fkv_epoch.proofs.Shown.{some_same}
use Rattle.fkv_map.specs.declared.history.HistoryEntry.{HistoryEntry}
use Rattle.fkv_map.specs.declared.operations.Op.{Op}
use Rattle.fkv_map.specs.declared.operations.Op.TheVariants.{Read}
use Rattle.fkv_map.specs.Keys.{reply_from}
use Rattle.fkv_words.specs.declared.headers.Header.{Header}
use Rattle.fkv_words.specs.Layout.{header_word}
use Rattle.law_log.specs.Ghosts.{GhostEvent, Publishes, Changes, Drops, Reserves as TakesAddr}
use Rattle.fkv_plane.specs.declared.asks.Ask.{Ask}
use Rattle.fkv_plane.specs.declared.asks.Ask.TheVariants.{Done}
use Rattle.fkv_plane.specs.declared.places.Places.{Places}
use Rattle.fkv_plane.specs.declared.places.RecordWord.{RecordWord}
use Rattle.fkv_plane.specs.declared.places.RecordWord.TheVariants as rec
use Rattle.fkv_plane.specs.Asked.{asked}
use Rattle.law_world.specs.Below.fkv_log.TheInvalidating.{Invalidating}
use Rattle.law_world.specs.Below.fkv_log.TheInvalidating.TheVariants as invalidating
use Rattle.law_world.specs.Below.fkv_log.Invalidating.{invalidated}
use Rattle.law_world.specs.Below.fkv_log.RecordWords.{RecordWords}
use Rattle.law_world.specs.Below.fkv_log.ReserveAnswer.{ReserveAnswer}
use Rattle.law_world.specs.Below.fkv_log.ReserveAnswer.TheVariants as reserve
use Rattle.law_world.specs.Below.fkv_log.Reserving.{reserve_next_ask}
use Rattle.fkv_index.specs.declared.finding.Found.{Found}
use Rattle.fkv_index.specs.declared.finding.Found.TheVariants.{Slot, NoSlot}
use Rattle.fkv_index.specs.declared.finding.FindAnswer.{FindAnswer}
use Rattle.fkv_index.specs.Finding.{find_next_ask}
use Rattle.fkv_index.specs.declared.publishing.PublishAnswer.{PublishAnswer}
use Rattle.fkv_index.specs.declared.publishing.PublishAnswer.TheVariants.{Won}
use Rattle.fkv_index.specs.Publishing.{publish_next_ask}
use Rattle.law_world.specs.Below.fkv_ops.TryAnswer.{TryAnswer}
use Rattle.law_world.specs.Below.fkv_ops.TryAnswer.TheVariants as answer
use Rattle.law_world.specs.Below.fkv_ops.TheAppending.{Appending}
use Rattle.law_world.specs.Below.fkv_ops.TheAppending.TheVariants as appending
use Rattle.law_world.specs.Below.fkv_ops.TheTrying.{Trying}
use Rattle.law_world.specs.Below.fkv_ops.TheTrying.TheVariants.{Walks, SwapsValue, ChangesValue, Appends}
use Rattle.law_world.specs.Below.fkv_ops.TheWalking.{Walking}
use Rattle.law_world.specs.Below.fkv_ops.TheWalking.TheVariants.{Finds}
use Rattle.law_world.specs.Below.fkv_ops.Appending.{AppendState}
use Rattle.law_world.specs.Below.fkv_ops.Trying.{TryState, trying_ask}
use Rattle.law_world.specs.Below.fkv_ops.Values.{value_of}
use Rattle.law_world.specs.Below.fkv_ops.Walking.{WalkState}
use Rattle.law_world.specs.Below.fkv_pending.TheAttempting.{Attempting}
use Rattle.law_world.specs.Below.fkv_pending.TheAttempting.TheVariants.{Tries}
use Rattle.law_world.specs.Below.fkv_pending.PendingRequest.{PendingRequest}
use Rattle.law_world.specs.Below.fkv_pending.Attempting.{AttemptState, attempt_ask, attempt_next, attempting_ask}
use Rattle.law_world.specs.Below.fkv_session.Sitting.{Sitting}
use Rattle.law_world.specs.Below.fkv_session.Sitting.TheVariants.{Attempts, Polls}
use Rattle.law_world.specs.Below.fkv_session.Sessions.{SessionState, Seat, bits_of, room_of, sitting_ask}
use Rattle.law_world.specs.GuardSessions.InPlace.{try_changes, attempt_changes, sitting_changes}
use Rattle.law_world.specs.Below.fkv_world.Past.{Traced}
use Rattle.law_refine.specs.Events.Appends.{entry_made, reserved_ghosts, publish_ghosts, invalidate_ghosts, append_ghosts, NewRecord, new_record}
use Rattle.law_world.specs.GuardSessions.Tries.{is_for_entry}
use Rattle.law_local.specs.Tries.TryRows.{cell_of}
use Rattle.law_refine.specs.Events.Effects.{AreQuiet}
use Rattle.law_refine.specs.Events.Lines.{read_in_hand, read_waiting}
use Rattle.law_refine.specs.Events.Reservations.{Reservation, reservation, append_reserves, invalidate_reserves, try_reserves, attempt_reserves}
use Rattle.law_refine.specs.Events.Reserved.{sitting_reserves}
use Rattle.law_refine.specs.Events.Sessions.{value_ghosts, tried_ghosts, attempt_ghosts, ticket_of, sitting_ghosts}
use Rattle.law_refine.specs.Events.Tries.{found_ghosts, find_ghosts, walk_ghosts, search_ghosts, try_ghosts}
use Rattle.law_log.specs.Chains.{Cell}
use Rattle.law_refine.specs.Records.Cells.{ShowsCell}
use Rattle.law_refine.specs.Records.Headers.{IsGivenUp, IsHeaderOf}
use Rattle.law_refine.proofs.OfEvents.RequestNames as named
use Rattle.law_refine.proofs.OfEvents.TryAppends.{KnowsAt}
use Rattle.law_refine.proofs.OfRecords.AppendRows.{Standing, AppendStands, AppendWrites, GivesUp, InvalidateWrites, IsFilled}
use Rattle.law_refine.proofs.OfRecords.AttemptRows.{AttemptWrites, IsAllowed, IsAttemptSo, TriesAt}
use Rattle.law_refine.proofs.OfRecords.FrameWords.{FrameWord, append_word, asked_passed, attempt_word, sitting_word, try_word}
use Rattle.law_refine.proofs.OfRecords.Numbers.{filled_shows}
use Rattle.law_refine.proofs.OfRecords.SessionRows.{SittingWrites, StepIsSo}
use Rattle.law_refine.proofs.OfRecords.TryRows.{TryStands, TryWrites}

-- what stands for what is reserved shows it, as a valid record
pub record ShowsValid (words : RecordWord → ℕ) (cell : Cell) : Type 0 where
  pub shows : ShowsCell words cell
  pub header : IsHeaderOf cell false (words rec.Header)

abbrev pub ReservedShows : Standing → Option Reservation → Type 0
ReservedShows stands reserved = (its : Reservation) → reserved ≡ Some its → ShowsValid (stands its.addr) its.cell

-- What is given up is what was reserved, and its header is stored so, if the step leaves what it writes. Or it was just taken, at an address that no entry can
-- have.
abbrev pub DropsIt : Standing → Type 0 → Option Reservation → List GhostEvent → Type 0
DropsIt after writes reserved (TakesAddr a entry cell ∷ before) = cell.previous < a → a < 2 ^ 48 → ⊥
DropsIt after writes reserved before = writes → (its : Reservation) → reserved ≡ Some its → IsGivenUp its.addr its.cell (after its.addr rec.Header)

-- By an event a record changes that the session changes in place, by an update that brings no word for none; or the one is published that it has reserved,
-- which stands whole, while it writes no word of a frame. Or one is given up.
abbrev pub fits : Standing → Standing → Type 0 → Option ℕ → Option Reservation → Option FrameWord → GhostEvent → List GhostEvent → Type 0
fits stands after Writes changed reserved word (Changes a entry) before = (changed ≡ Some a) × IsAllowed entry.op
fits stands after Writes changed reserved word (Publishes a) before = ReservedShows stands reserved × (word ≡ None)
fits stands after Writes changed reserved word (Drops a) before = DropsIt after Writes reserved before
fits stands after Writes changed reserved word event before = ⊤

abbrev pub Fit : Standing → Standing → Type 0 → Option ℕ → Option Reservation → Option FrameWord → List GhostEvent → Type 0
Fit stands after Writes changed reserved word [] = ⊤
Fit stands after Writes changed reserved word (event ∷ before) = fits stands after Writes changed reserved word event before × Fit stands after Writes changed reserved word before

either_fit : (stands after : Standing) (Writes : Type 0) (changed : Option ℕ) (reserved : Option Reservation) (word : Option FrameWord) (c : Bool) (a b : List GhostEvent) → Fit stands after Writes changed reserved word a → Fit stands after Writes changed reserved word b → Fit stands after Writes changed reserved word (if c then a else b)
either_fit stands after Writes changed reserved word true a b one other = one
either_fit stands after Writes changed reserved word false a b one other = other

-- ---- an append
-- the header of what it writes has the mark of the record's version
abbrev IsMarked : AppendState → NewRecord → Type 0
IsMarked a made = a.its_words.header.version.0 ≡ mark made.version

not_both : (one other : ℕ) (a : ℕ) → (nat_lt one a && nat_lt a other) ≡ false → one < a → a < other → ⊥
not_both one other a e low high =
    let p : nat_lt one a ≡ true = grind (arith, nat_tests) in
    let q : nat_lt a other ≡ true = grind (arith, nat_tests) in
    let both : (nat_lt one a && nat_lt a other) ≡ true = ap (λ (c : Bool). c && nat_lt a other) p ∙ q in
    let clash : false ≡ true = sym e ∙ both in
    cc

reserved_fit : (stands after : Standing) (Writes : Type 0) (changed : Option ℕ) (a : AppendState) (made : NewRecord) (ask : Ask ReserveAnswer) → Fit stands after Writes changed None None (reserved_ghosts a made ask)
reserved_fit stands after Writes changed a made (Done (reserve.Reserved addr)) = by_test (is_for_entry a addr) refl
  where
    by_test : (c : Bool) → is_for_entry a addr ≡ c → Fit stands after Writes changed None None (if c then TakesAddr addr.0 made.entry (cell_of made.version a.its_words) ∷ [] else Drops addr.0 ∷ TakesAddr addr.0 made.entry (cell_of made.version a.its_words) ∷ [])
    by_test true e = (tt, tt)
    by_test false e = (not_both a.its_words.header.previous.0 (2 ^ 48) addr.0 e, (tt, tt))
reserved_fit stands after Writes changed a made (Done other) = tt
reserved_fit stands after Writes changed a made ask = tt

publish_fit : (stands after : Standing) (Writes : Type 0) (changed : Option ℕ) (reserved : Option Reservation) (word : Option FrameWord) (addr : ℕ) (ask : Ask PublishAnswer) → ReservedShows stands reserved × (word ≡ None) → Fit stands after Writes changed reserved word (publish_ghosts addr ask)
publish_fit stands after Writes changed reserved word addr (Done Won) so = (so, tt)
publish_fit stands after Writes changed reserved word addr (Done other) so = tt
publish_fit stands after Writes changed reserved word addr ask so = tt

dropped_fit : (stands after : Standing) (Writes : Type 0) (changed : Option ℕ) (word : Option FrameWord) (a : AppendState) (made : NewRecord) (step : Invalidating) → IsMarked a made → GivesUp a.its_words step → (Writes → InvalidateWrites after step)
    → Fit stands after Writes changed (invalidate_reserves a made step) word (invalidate_ghosts step)
dropped_fit stands after Writes changed word a made invalidating.AtRest marked gives writes = tt
dropped_fit stands after Writes changed word a made (invalidating.StoresHeader addr header) marked gives writes = (λ written one e. subst (λ (x : Reservation). IsGivenUp x.addr x.cell (after x.addr rec.Header)) (some_same (reservation a made addr.0) one e) (its written), tt)
  where
    its : Writes → IsGivenUp addr.0 (cell_of made.version a.its_words) (after addr.0 rec.Header)
    its written = record {
      header = record {
        header = invalidated a.its_words.header;
        spells = writes written ∙ ap (λ (x : Header). header_word (invalidated x)) gives.0;
        leads = refl;
        its_mark = marked;
        bit = refl;
      };
      falls = gives.1;
    }

valid_shows : (words : RecordWord → ℕ) (version : ℕ) (its : RecordWords) → its.header.version.0 ≡ mark version → IsFilled words its → its.header.invalid ≡ false → ShowsValid words (cell_of version its)
valid_shows words version its marked filled valid = record {
  shows = filled_shows words version its marked filled;
  header = record { header = its.header; spells = filled.header; leads = refl; its_mark = marked; bit = valid };
}

filled_reserved : (stands : Standing) (a : AppendState) (made : NewRecord) (addr : ℕ) → IsMarked a made → IsFilled (stands addr) a.its_words → a.its_words.header.invalid ≡ false → ReservedShows stands (Some (reservation a made addr))
filled_reserved stands a made addr marked filled valid = λ its e. subst (λ (x : Reservation). ShowsValid (stands x.addr) x.cell) (some_same (reservation a made addr) its e) (valid_shows (stands addr) made.version a.its_words marked filled valid)

append_fit : (stands after : Standing) (Writes : Type 0) (changed : Option ℕ) (room : ℕ) (a : AppendState) (made : NewRecord) (step : Appending) (reply : ℕ) → IsMarked a made → AppendStands stands a step → (Writes → AppendWrites stands after a step)
    → Fit stands after Writes changed (append_reserves a made step) (append_word a step) (append_ghosts room a made step reply)
append_fit stands after Writes changed room a made (appending.Ended told) reply marked so writes = tt
append_fit stands after Writes changed room a made appending.Reserves reply marked so writes = reserved_fit stands after Writes changed a made (reserve_next_ask room a.reserving reply)
append_fit stands after Writes changed room a made (appending.Fills addr) reply marked so writes = tt
append_fit stands after Writes changed room a made (appending.Publishes addr) reply marked so writes =
    let falls = so.1 in
    publish_fit stands after Writes changed (Some (reservation a made addr.0)) None addr.0 (publish_next_ask a.publishing reply) (filled_reserved stands a made addr.0 marked so.0 falls.valid, refl)
append_fit stands after Writes changed room a made appending.Invalidates reply marked so writes = dropped_fit stands after Writes changed _ a made a.invalidating marked so writes

-- ---- a try: a search is none of these
found_fit : (stands after : Standing) (Writes : Type 0) (changed : Option ℕ) (reserved : Option Reservation) (word : Option FrameWord) (reader : ℕ) (its : Found) → Fit stands after Writes changed reserved word (found_ghosts reader its)
found_fit stands after Writes changed reserved word reader (Slot place its) = (tt, tt)
found_fit stands after Writes changed reserved word reader NoSlot = (tt, tt)
found_fit stands after Writes changed reserved word reader its = tt

find_fit : (stands after : Standing) (Writes : Type 0) (changed : Option ℕ) (reserved : Option Reservation) (word : Option FrameWord) (reader : ℕ) (ask : Ask FindAnswer) → Fit stands after Writes changed reserved word (find_ghosts reader ask)
find_fit stands after Writes changed reserved word reader (Done its) = found_fit stands after Writes changed reserved word reader its.found
find_fit stands after Writes changed reserved word reader ask = tt

walk_fit : (stands after : Standing) (Writes : Type 0) (changed : Option ℕ) (reserved : Option Reservation) (word : Option FrameWord) (p : Places) (reader : ℕ) (w : WalkState) (step : Walking) (reply : ℕ) → Fit stands after Writes changed reserved word (walk_ghosts p reader w step reply)
walk_fit stands after Writes changed reserved word p reader w Finds reply = find_fit stands after Writes changed reserved word reader (find_next_ask p w.finding reply)
walk_fit stands after Writes changed reserved word p reader w step reply = tt

search_fit : (stands after : Standing) (Writes : Type 0) (changed : Option ℕ) (reserved : Option Reservation) (word : Option FrameWord) (p : Places) (op : Op) (reader : ℕ) (w : WalkState) (reply : ℕ) → Fit stands after Writes changed reserved word (search_ghosts p op reader w reply)
search_fit stands after Writes changed reserved word p (Read key) reader w reply = walk_fit stands after Writes changed reserved word p reader w w.step reply
search_fit stands after Writes changed reserved word p op reader w reply = tt

try_fit : (stands after : Standing) (Writes : Type 0) (p : Places) (room session reader : ℕ) (pending : PendingRequest) (t : TryState) (step : Trying) (reply : ℕ) → IsAllowed pending.request.op → KnowsAt pending.request t step → TryStands stands t step → (Writes → TryWrites stands after t step)
    → Fit stands after Writes (try_changes step) (try_reserves session pending t step) (try_word t step) (try_ghosts p room session reader pending t step reply)
try_fit stands after Writes p room session reader pending t Walks reply allowed knows so writes = search_fit stands after Writes None None None p pending.request.op reader t.walk reply
try_fit stands after Writes p room session reader pending t (SwapsValue addr) reply allowed knows so writes = ((refl, allowed), tt)
try_fit stands after Writes p room session reader pending t (ChangesValue addr old) reply allowed knows so writes = either_fit stands after Writes (Some addr.0) None _ (reply == old) _ [] ((refl, allowed), tt) tt
try_fit stands after Writes p room session reader pending t (Appends made) reply allowed knows so writes = append_fit stands after Writes None room t.append (new_record session pending made) t.append.step reply knows.same.its_mark so writes
try_fit stands after Writes p room session reader pending t step reply allowed knows so writes = tt

-- ---- an attempt and a session
value_fit : (stands after : Standing) (Writes : Type 0) (changed : Option ℕ) (reserved : Option Reservation) (word : Option FrameWord) (op : Op) (reader : ℕ) (ask : Ask TryAnswer) (before : List GhostEvent)
    → Fit stands after Writes changed reserved word before → Fit stands after Writes changed reserved word (value_ghosts op reader ask ++ before)
value_fit stands after Writes changed reserved word (Read key) reader (Done (answer.Found value)) before was = (tt, was)
value_fit stands after Writes changed reserved word (Read key) reader (Done answer.Absent) before was = (tt, was)
value_fit stands after Writes changed reserved word (Read key) reader (Done other) before was = was
value_fit stands after Writes changed reserved word (Read key) reader ask before was = was
value_fit stands after Writes changed reserved word op reader ask before was = was

tried_fit : (stands after : Standing) (Writes : Type 0) (k : Seat) (reader : ℕ) (a : AttemptState) (step : Attempting) (reply : ℕ) → IsAllowed a.pending.request.op → named.TriesAt a.pending a.trial step → TriesAt stands a.trial step → (Writes → AttemptWrites stands after a step)
    → Fit stands after Writes (attempt_changes a step) (attempt_reserves k.number a step) (attempt_word a step) (tried_ghosts k reader a step reply)
tried_fit stands after Writes k reader a Tries reply allowed its so writes = try_fit stands after Writes k.places (room_of k) k.number reader a.pending a.trial a.trial.step reply allowed its.of_request.knows so writes
tried_fit stands after Writes k reader a step reply allowed its so writes = tt

attempt_fit : (stands after : Standing) (Writes : Type 0) (k : Seat) (reader : ℕ) (a : AttemptState) (reply : ℕ) → named.IsAttemptSo a → IsAttemptSo stands a → (Writes → AttemptWrites stands after a a.step)
    → Fit stands after Writes (attempt_changes a a.step) (attempt_reserves k.number a a.step) (attempt_word a a.step) (attempt_ghosts k reader a reply)
attempt_fit stands after Writes k reader a reply its so writes =
    value_fit stands after Writes _ _ _ a.pending.request.op reader (attempt_ask k.places k.number (attempt_next k.places (bits_of k) (room_of k) k.number a reply)) (tried_ghosts k reader a a.step reply)
    (tried_fit stands after Writes k reader a a.step reply so.allowed its.tries_so so.tries_so writes)

pub sitting_fit : (stands after : Standing) (Writes : Type 0) (k : Seat) (trace : List Traced) (s : SessionState) (step : Sitting) (reply : ℕ) → named.StepIsSo s.attempt step → StepIsSo stands s step → (Writes → SittingWrites stands after s step)
    → Fit stands after Writes (sitting_changes s step) (sitting_reserves k.number s step) (sitting_word s step) (sitting_ghosts k trace s step reply)
sitting_fit stands after Writes k trace s (Attempts has_shifted) reply its so writes = attempt_fit stands after Writes k (read_in_hand k.number trace) s.attempt reply its so.0 writes
sitting_fit stands after Writes k trace s (Polls index) reply its so writes = attempt_fit stands after Writes k (read_waiting k.number (ticket_of s.attempt.pending.name) trace) s.attempt reply its so writes
sitting_fit stands after Writes k trace s step reply its so writes = tt

-- ---- what it changes in place is a value's word
try_value : (t : TryState) (step : Trying) (a : ℕ) → try_changes step ≡ Some a → try_word t step ≡ Some (record { addr = a; word = rec.Value })
try_value t (SwapsValue addr) a e = ap (λ (x : ℕ). Some (record { addr = x; word = rec.Value })) (some_same addr.0 a e)
try_value t (ChangesValue addr old) a e = ap (λ (x : ℕ). Some (record { addr = x; word = rec.Value })) (some_same addr.0 a e)
try_value t step a e = cc

attempt_value : (k : AttemptState) (step : Attempting) (a : ℕ) → attempt_changes k step ≡ Some a → attempt_word k step ≡ Some (record { addr = a; word = rec.Value })
attempt_value k Tries a e = try_value k.trial k.trial.step a e
attempt_value k step a e = cc

pub sitting_value : (s : SessionState) (step : Sitting) (a : ℕ) → sitting_changes s step ≡ Some a → sitting_word s step ≡ Some (record { addr = a; word = rec.Value })
sitting_value s (Attempts has_shifted) a e = attempt_value s.attempt s.attempt.step a e
sitting_value s (Polls index) a e = attempt_value s.attempt s.attempt.step a e
sitting_value s step a e = cc

-- ---- where no update takes effect, the word is left as it is found
behind_quiet : (later before : List GhostEvent) → AreQuiet (later ++ before) → AreQuiet before
behind_quiet [] before quiet = quiet
behind_quiet (event ∷ later) before quiet = behind_quiet later before quiet.1

try_quiet : (p : Places) (room session reader : ℕ) (pending : PendingRequest) (t : TryState) (step : Trying) (reply a : ℕ) → try_changes step ≡ Some a → AreQuiet (try_ghosts p room session reader pending t step reply) → asked (trying_ask p t step) reply ≡ reply
unfolding trying_ask
try_quiet p room session reader pending t (SwapsValue addr) reply a e quiet = absurd quiet.0
try_quiet p room session reader pending t (ChangesValue addr old) reply a e quiet = by_test (reply == old) _ quiet
  where
    entry : HistoryEntry
    entry = entry_made session pending (reply_from (value_of old) t.request.op)

    by_test : (c : Bool) (new : ℕ) → AreQuiet (if c then Changes addr.0 entry ∷ [] else []) → (if c then new else reply) ≡ reply
    by_test true new quiet = absurd quiet.0
    by_test false new quiet = refl
try_quiet p room session reader pending t step reply a e quiet = cc

tried_quiet : (k : Seat) (reader : ℕ) (it : AttemptState) (step : Attempting) (reply a : ℕ) → attempt_changes it step ≡ Some a → AreQuiet (tried_ghosts k reader it step reply) → asked (attempting_ask k.places k.number it step) reply ≡ reply
unfolding attempting_ask
tried_quiet k reader it Tries reply a e quiet = asked_passed (trying_ask k.places it.trial it.trial.step) _ reply ∙ try_quiet k.places (room_of k) k.number reader it.pending it.trial it.trial.step reply a e quiet
tried_quiet k reader it step reply a e quiet = cc

attempt_quiet : (k : Seat) (reader : ℕ) (it : AttemptState) (reply a : ℕ) → attempt_changes it it.step ≡ Some a → AreQuiet (attempt_ghosts k reader it reply) → asked (attempt_ask k.places k.number it) reply ≡ reply
attempt_quiet k reader it reply a e quiet =
    tried_quiet k reader it it.step reply a e
    (behind_quiet (value_ghosts it.pending.request.op reader (attempt_ask k.places k.number (attempt_next k.places (bits_of k) (room_of k) k.number it reply))) (tried_ghosts k reader it it.step reply) quiet)

pub sitting_quiet : (k : Seat) (trace : List Traced) (s : SessionState) (step : Sitting) (reply a : ℕ) → sitting_changes s step ≡ Some a → AreQuiet (sitting_ghosts k trace s step reply) → asked (sitting_ask k s step) reply ≡ reply
unfolding sitting_ask
sitting_quiet k trace s (Attempts has_shifted) reply a e quiet = asked_passed (attempt_ask k.places k.number s.attempt) _ reply ∙ attempt_quiet k (read_in_hand k.number trace) s.attempt reply a e quiet
sitting_quiet k trace s (Polls index) reply a e quiet = asked_passed (attempt_ask k.places k.number s.attempt) _ reply ∙ attempt_quiet k (read_waiting k.number (ticket_of s.attempt.pending.name) trace) s.attempt reply a e quiet
sitting_quiet k trace s step reply a e quiet = cc
