-- That the log's events of a try's step are enabled.
use Rattle.std.proofs.Common.{◌≡◌, ℕ, ◌<◌, ◌∙◌, inl, inr, refl, sym, ap, subst, arith, Bool, true, false, None}
use Rattle.std.specs.Prelude.{◌==◌, nat_lt, if◌then◌else◌}
use Rattle.fkv_base.specs.declared.numbers.Addr.{Addr}
use Rattle.fkv_map.specs.declared.history.HistoryEntry.{HistoryEntry}
use Rattle.fkv_map.specs.declared.operations.Reply.{Reply}
use Rattle.fkv_map.specs.Map.{absent_word}
use Rattle.fkv_map.specs.Keys.{key_of, value_applied, reply_from}
use Rattle.fkv_plane.specs.declared.asks.Ask.TheVariants.{Done}
use Rattle.fkv_plane.specs.declared.places.Places.{Places}
use Rattle.fkv_log.specs.declared.reserving.ReserveAnswer.{ReserveAnswer}
use Rattle.fkv_log.specs.declared.reserving.ReserveAnswer.TheVariants as answer
use Rattle.fkv_log.specs.declared.reserving.Reserving.{Reserving}
use Rattle.fkv_log.specs.declared.reserving.Reserving.TheVariants as reserving
use Rattle.fkv_log.specs.Reserving.{reserve_ask, reserve_next, reserve_next_ask, no_room_at, reserved_where}
use Rattle.law_log.specs.Chains.{Cell, IsWithin}
use Rattle.law_log.specs.Ghosts.{Log}
use Rattle.law_log.specs.Enabled.{IsMade, NoneAbove, NoneCopies}
use Rattle.fkv_ops.specs.declared.appending.Appending.{Appending}
use Rattle.fkv_ops.specs.declared.appending.Appending.TheVariants as appending
use Rattle.fkv_ops.specs.declared.requests.Request.{Request}
use Rattle.fkv_ops.specs.declared.requests.Seen.{Seen}
use Rattle.fkv_ops.specs.declared.trying.Trying.TheVariants.{SwapsValue, ChangesValue, Appends}
use Rattle.fkv_ops.specs.Requests.{is_blind}
use Rattle.fkv_ops.specs.Trying.{TryState}
use Rattle.fkv_ops.specs.Values.{value_of, word_of}
use Rattle.fkv_ops.proofs.Shown.{kinds_so}
use Rattle.law_local.specs.Tries.Replies.{IsAboveAll, IsTrueOfReserve, IsTrueOfAppend, IsTrueReply}
use Rattle.law_local.specs.Tries.WalkRows.{begin_of}
use Rattle.law_local.specs.Tries.TryRows.{MayChange, cell_of, IsEntryOf, IsMadeFor, AppendKnows, TryRow, TryKnows}
use Rattle.law_local.specs.Tries.Changes.{IsAlone, IsEnabledChange}
use Rattle.law_local.proofs.OfTries.Tests.{eq_true}
use Rattle.law_local.proofs.OfTries.Made.{made_word}

-- ---- a reservation
no_room_not : (room tail : ℕ) (addr : Addr) → no_room_at room tail ≡ answer.Reserved addr → ⊥
no_room_not room tail addr e = by_test (tail == room) e
  where
    by_test : (b : Bool) → (if b then answer.Full else answer.NoRoom) ≡ answer.Reserved addr → ⊥
    by_test true e = cc
    by_test false e = cc

the_answer : (a b : ReserveAnswer) → Done a ≡ Done b → a ≡ b
the_answer a b e = cc

where_found : (log : Log) (tail found : ℕ) (addr : Addr) → IsAboveAll log found → reserved_where tail found ≡ answer.Reserved addr → IsAboveAll log addr.0
where_found log tail found addr above e = by_test (found == tail) refl e
  where
    same : (x y : Addr) → answer.Reserved x ≡ answer.Reserved y → x ≡ y
    same x y e = cc

    by_test : (b : Bool) → (found == tail) ≡ b → (if b then answer.Reserved (record { 0 = tail }) else answer.Contended) ≡ answer.Reserved addr → IsAboveAll log addr.0
    by_test true is e = subst (λ (a : Addr). IsAboveAll log a.0) (same (record { 0 = tail }) addr e) (subst (IsAboveAll log) (eq_true found tail is) above)
    by_test false is e = cc

-- the address that is reserved is the tail, which lies above all records
reserved_above : (log : Log) (room : ℕ) (step : Reserving) (reply : ℕ) (addr : Addr) → IsTrueOfReserve log step reply → reserve_next_ask room step reply ≡ Done (answer.Reserved addr) → IsAboveAll log addr.0
unfolding reserve_next_ask reserve_next reserve_ask
reserved_above log room reserving.AtRest reply addr says e = cc
reserved_above log room (reserving.LoadsLimit bound) reply addr says e = cc
reserved_above log room (reserving.LoadsTail limit) reply addr says e = by_test (nat_lt reply limit) e
  where
    by_test : (b : Bool) → (if b then reserve_ask (reserving.TakesTail reply) else Done (no_room_at room reply)) ≡ Done (answer.Reserved addr) → IsAboveAll log addr.0
    by_test true e = cc
    by_test false e = absurd (no_room_not room reply addr (the_answer (no_room_at room reply) (answer.Reserved addr) e))
reserved_above log room (reserving.TakesTail tail) reply addr says e = where_found log tail reply addr says (the_answer (reserved_where tail reply) (answer.Reserved addr) e)

within_below : (log : Log) (h a tail : ℕ) → IsAboveAll log tail → IsWithin a (log.chains h) → a < tail
within_below log h a tail above (inl none) = let some = above.some in omega (arith, none, some)
within_below log h a tail above (inr is_in) = above.above h a is_in

at_reserve : (home : ℕ → ℕ) (log : Log) (request : Request) (its : Reply) (cell : Cell) (step : Appending) → step ≡ appending.Reserves → AppendKnows home log request its cell step → AppendKnows home log request its cell appending.Reserves
at_reserve home log request its cell step e knows = subst (AppendKnows home log request its cell) e knows

at_append : (home : ℕ → ℕ) (log : Log) (request : Request) (its : Reply) (cell : Cell) (step : Appending) → step ≡ appending.Reserves → AppendKnows home log request its cell step → IsMadeFor home log request.op its cell
at_append home log request its cell step e knows = (at_reserve home log request its cell step e knows).1

pub reserve_enabled : (home : ℕ → ℕ) (log : Log) (p : Places) (room : ℕ) (t : TryState) (reply : ℕ) (its : Reply) (addr : Addr) (entry : HistoryEntry) → TryKnows home log t → IsTrueReply home log p t t.step reply → t.step ≡ Appends its
    → t.append.step ≡ appending.Reserves → reserve_next_ask room t.append.reserving reply ≡ Done (answer.Reserved addr) → IsEntryOf t.request.op its entry
    → ((cell_of t.request.version.0 t.append.its_words).previous < addr.0) × IsMade home log entry (cell_of t.request.version.0 t.append.its_words)
reserve_enabled home log p room t reply its addr entry knows says at append_at won is = (
  within_below log (home (cell_of t.request.version.0 t.append.its_words).key) (cell_of t.request.version.0 t.append.its_words).previous addr.0 (reserved_above log room t.append.reserving reply addr true_tail won) made.leads,
  made,
)
  where
    row : TryRow home log t (Appends its)
    row = subst (TryRow home log t) at knows.row

    made : IsMade home log entry (cell_of t.request.version.0 t.append.its_words)
    made = at_append home log t.request its (cell_of t.request.version.0 t.append.its_words) t.append.step append_at row.1 entry is

    told : IsTrueReply home log p t (Appends its) reply
    told = subst (λ step. IsTrueReply home log p t step reply) at says

    true_tail : IsTrueOfReserve log t.append.reserving reply
    true_tail = subst (λ step. IsTrueOfAppend log t.append.reserving step reply) append_at told

-- ---- a change in place
change_enabled : (home : ℕ → ℕ) (log : Log) (request : Request) (seen : Seen) (from at word : ℕ) (entry : HistoryEntry) (may : MayChange home log request seen from at) → IsAlone home log request seen at → entry.op ≡ request.op
    → entry.reply ≡ reply_from may.found.cell.value request.op → value_of word ≡ value_applied may.found.cell.value request.op → IsEnabledChange home log at word entry
change_enabled home log request seen from at word entry may alone its_op its_reply its_value = record {
  cell = may.found.cell;
  its = may.found.its;
  change = record {
    not_fixed = let low = alone.not_fixed in let high = may.mutable in omega (arith, low, high);
    no_copies = subst (NoneCopies home log at) (sym may.found.its_version) alone.no_copies;
    none_above = subst (λ v. NoneAbove log (home may.found.cell.key) v) (sym may.found.its_version) (subst (λ k. NoneAbove log (home k) request.version.0) (sym may.found.its_key) alone.newest);
    its_key = may.found.its_key ∙ ap (λ o. (key_of o).0) (sym its_op);
    its_reply = its_reply ∙ ap (reply_from may.found.cell.value) (sym its_op);
  };
  value = its_value ∙ ap (value_applied may.found.cell.value) (sym its_op);
}

-- by a Swap, where the old value doesn't count
pub swap_enabled : (home : ℕ → ℕ) (log : Log) (t : TryState) (addr : Addr) (entry : HistoryEntry) → TryKnows home log t → t.step ≡ SwapsValue addr → IsEntryOf t.request.op (reply_from None t.request.op) entry → IsAlone home log t.request t.seen addr.0
    → IsEnabledChange home log addr.0 (word_of (value_applied None t.request.op)) entry
swap_enabled home log t addr entry knows at is alone =
    let row : TryRow home log t (SwapsValue addr) = subst (TryRow home log t) at knows.row in
    change_enabled home log t.request t.seen (begin_of t.walk) addr.0 (word_of (value_applied None t.request.op)) entry row.2 alone is.0
    (is.1 ∙ sym (kinds_so.same_reply t.request.op row.2.found.cell.value row.1))
    (swapped row.1 ∙ sym (kinds_so.same_value t.request.op row.2.found.cell.value row.1))
  where
    -- any word does for the old one, so the one that stands for none
    swapped : is_blind t.request.op ≡ true → value_of (word_of (value_applied None t.request.op)) ≡ value_applied None t.request.op
    swapped blind = made_word absent_word t.request.op knows.request.plain

-- by a Cas that is won: the word that it found is the one that was loaded
pub cas_enabled : (home : ℕ → ℕ) (log : Log) (p : Places) (t : TryState) (addr : Addr) (old reply : ℕ) (entry : HistoryEntry) → TryKnows home log t → IsTrueReply home log p t t.step reply → t.step ≡ ChangesValue addr old → reply ≡ old
    → IsEntryOf t.request.op (reply_from (value_of old) t.request.op) entry → IsAlone home log t.request t.seen addr.0 → IsEnabledChange home log addr.0 (word_of (value_applied (value_of old) t.request.op)) entry
cas_enabled home log p t addr old reply entry knows says at won is alone =
    let row : TryRow home log t (ChangesValue addr old) = subst (TryRow home log t) at knows.row in
    let told : IsTrueReply home log p t (ChangesValue addr old) reply = subst (λ step. IsTrueReply home log p t step reply) at says in
    let value : value_of old ≡ row.1.found.cell.value = ap value_of (sym won) ∙ told row.1.found.cell row.1.found.its in
    change_enabled home log t.request t.seen (begin_of t.walk) addr.0 (word_of (value_applied (value_of old) t.request.op)) entry row.1 alone is.0
    (is.1 ∙ ap (λ v. reply_from v t.request.op) value)
    (made_word old t.request.op knows.request.plain ∙ ap (λ v. value_applied v t.request.op) value)
