-- Each reply leads a try on to a state in which it goes by what is published.
use Rattle.std.proofs.Common.{◌≡◌, ℕ, inl, refl, sym, subst, Bool, true, false, Option, Some, None}
use Rattle.std.specs.Prelude.{⊤, ◌==◌, ◌&&◌, ◌||◌, not, nat_le, nat_lt, ◌^◌, if◌then◌else◌}
use Rattle.fkv_base.specs.declared.numbers.Addr.{Addr}
use Rattle.fkv_base.specs.declared.numbers.Version.{Version}
use Rattle.fkv_map.specs.Keys.{key_of, reply_from}
use Rattle.fkv_map.specs.Map.{absent_word}
use Rattle.fkv_map.specs.declared.operations.Reply.{Reply}
use Rattle.fkv_words.specs.declared.phase_words.PhaseSaid.{PhaseSaid}
use Rattle.fkv_words.specs.PhaseWords.{phase_said}
use Rattle.fkv_plane.specs.declared.asks.Ask.{Ask}
use Rattle.fkv_plane.specs.declared.asks.Ask.TheVariants.{Done}
use Rattle.fkv_plane.specs.declared.places.Places.{Places}
use Rattle.fkv_index.specs.Slots.{entry_addr}
use Rattle.fkv_index.specs.Publishing.{publish_next, publish_next_ask}
use Rattle.fkv_index.specs.declared.publishing.PublishAnswer.{PublishAnswer}
use Rattle.fkv_index.specs.declared.publishing.PublishAnswer.TheVariants as publish
use Rattle.fkv_latch.specs.Latching.{latch_next, latch_next_ask}
use Rattle.fkv_latch.specs.declared.latching.LatchAnswer.{LatchAnswer}
use Rattle.fkv_latch.specs.declared.latching.LatchAnswer.TheVariants as latch
use Rattle.fkv_latch.specs.declared.latching.LatchTask.TheVariants.{DropExclusive, DropShared, TakeExclusive, TakeShared}
use Rattle.law_refine.specs.Below.fkv_log.Filling.{fill_ask, fill_begun, fill_next}
use Rattle.law_refine.specs.Below.fkv_log.Invalidating.{invalidate_ask, invalidate_next}
use Rattle.law_refine.specs.Below.fkv_log.Regions.{seen_region_of}
use Rattle.law_refine.specs.Below.fkv_log.Reserving.{reserve_next, reserve_next_ask}
use Rattle.law_refine.specs.Below.fkv_log.RecordWords.{RecordWords}
use Rattle.law_refine.specs.Below.fkv_log.Region.{Region}
use Rattle.law_refine.specs.Below.fkv_log.ReserveAnswer.{ReserveAnswer}
use Rattle.law_refine.specs.Below.fkv_log.ReserveAnswer.TheVariants as reserve
use Rattle.law_refine.specs.Below.fkv_ops.Appending.{AppendState, addr_reserved, append_ask, append_ended, append_next, appending_next, fill_ledto, invalidate_ledto, publish_ledto, reserve_ledto}
use Rattle.law_refine.specs.Below.fkv_ops.Requests.{is_blind, is_chain_end, is_read}
use Rattle.law_refine.specs.Below.fkv_ops.Trying.{TryState, answer_ledto, append_ledto, awaits, changes, copies, copies_from, current_ledto, ended_without, ends_so as ends_now, ends_by, is_bounded, tail_loaded, taken_loaded, must_count, count_loaded, ends, appends, exclusive_dropped, exclusive_ledto, full_at, has_walked, held_used, is_own_version, is_wait, met_disk, met_nowhere, met_record, must_shift, new_try, old_ledto, region_met, safe_loaded, shared_dropped, shared_ledto, takes_effect, told_value, try_begun, try_next, trying_next, value_changed, walk_ledto, walked, walks, wants_exclusive, wants_shared, with_latch, is_next_marked, latch_shared, is_still_in, phase_loaded, is_surely_own}
use Rattle.law_refine.specs.Below.fkv_ops.Values.{value_of}
use Rattle.law_refine.specs.Below.fkv_ops.Walking.{WalkState, walk_ask, walk_next, walk_on, walk_rested}
use Rattle.law_refine.specs.Below.fkv_ops.Reason.TheVariants as reason
use Rattle.law_refine.specs.Below.fkv_ops.TryAnswer.{TryAnswer}
use Rattle.law_refine.specs.Below.fkv_ops.TryAnswer.TheVariants as answer
use Rattle.law_refine.specs.Below.fkv_ops.AppendAnswer.{AppendAnswer}
use Rattle.law_refine.specs.Below.fkv_ops.AppendAnswer.TheVariants as append
use Rattle.law_refine.specs.Below.fkv_ops.TheAppending.{Appending}
use Rattle.law_refine.specs.Below.fkv_ops.TheAppending.TheVariants as appending
use Rattle.law_refine.specs.Below.fkv_ops.HeldRecord.{HeldRecord}
use Rattle.law_refine.specs.Below.fkv_ops.Occasion.{Occasion}
use Rattle.law_refine.specs.Below.fkv_ops.Occasion.TheVariants.{Call, Poll}
use Rattle.law_refine.specs.Below.fkv_ops.Request.{Request}
use Rattle.law_refine.specs.Below.fkv_ops.Seen.{Seen}
use Rattle.law_refine.specs.Below.fkv_ops.OldValue.{OldValue}
use Rattle.law_refine.specs.Below.fkv_ops.OldValue.TheVariants.{InMemory, Known}
use Rattle.law_refine.specs.Below.fkv_ops.TheTrying.{Trying}
use Rattle.law_refine.specs.Below.fkv_ops.TheTrying.TheVariants.{Ended, TakesShared, LoadsPhase, Walks, CountsTaken, LoadsSafe, SwapsValue, LoadsCurrent, ChangesValue, LoadsAnswer, TakesExclusive, LoadsOld, Appends, LoadsTail, LoadsTaken, DropsExclusive, DropsShared}
use Rattle.law_refine.specs.Below.fkv_ops.WalkAnswer.{WalkAnswer}
use Rattle.law_refine.specs.Below.fkv_ops.WalkAnswer.TheVariants as walk
use Rattle.law_log.specs.Ghosts.{Log}
use Rattle.law_opening.specs.Changes.Linked.{IsLed}
use Rattle.law_opening.proofs.OfChanges.Rows.{IsAt, IsFound, IsPast, OldSo, TryKnown, TrySo, WalkSo, made_previous}
use Rattle.law_opening.proofs.OfChanges.Walks.{AnswerSo, KeepsWay, WalkTold, past_next, past_on, walk_answers, walk_so}
use Rattle.law_refine.specs.Below.fkv_ops.TheWaiting.{Waiting}
use Rattle.law_refine.specs.Below.fkv_ops.Bounds.{bounds_at, is_past_tail, is_past_taken}
use Rattle.law_refine.specs.Below.fkv_ops.Waiting.{told_of, waiting_of}

abbrev pub TryTold : Log → Places → TryState → Trying → ℕ → Type 0
TryTold log p t Walks reply = WalkTold log p t.walk t.walk.step reply
TryTold log p t step reply = ⊤

-- ---- the words of the record that an append is to write stay
addr_same : (a : AppendState) (addr : Addr) → (addr_reserved a addr).its_words ≡ a.its_words
addr_same a addr = by_test (nat_lt a.its_words.header.previous.0 addr.0 && nat_lt addr.0 (2 ^ 48))
  where
    by_test : (b : Bool) → (if b then record a { filling = fill_begun addr a.its_words; step = appending.Fills addr } else append_ended a append.Contended).its_words ≡ a.its_words
    by_test true = refl
    by_test false = refl

reserve_same : (a : AppendState) (ask : Ask ReserveAnswer) → (reserve_ledto a ask).its_words ≡ a.its_words
unfolding reserve_ledto
reserve_same a (Done (reserve.Reserved addr)) = addr_same a addr
reserve_same a (Done reserve.Full) = refl
reserve_same a (Done reserve.NoRoom) = refl
reserve_same a (Done reserve.Contended) = refl
reserve_same a ask = refl

fill_same : (a : AppendState) (addr : Addr) (ask : Ask (Unit {0})) → (fill_ledto a addr ask).its_words ≡ a.its_words
unfolding fill_ledto
fill_same a addr (Done told) = refl
fill_same a addr ask = refl

publish_same : (a : AppendState) (addr : Addr) (ask : Ask PublishAnswer) → (publish_ledto a addr ask).its_words ≡ a.its_words
unfolding publish_ledto
publish_same a addr (Done publish.Won) = refl
publish_same a addr (Done publish.Lost) = refl
publish_same a addr ask = refl

invalidate_same : (a : AppendState) (ask : Ask (Unit {0})) → (invalidate_ledto a ask).its_words ≡ a.its_words
unfolding invalidate_ledto
invalidate_same a (Done told) = refl
invalidate_same a ask = refl

pub append_same : (p : Places) (room : ℕ) (a : AppendState) (step : Appending) (reply : ℕ) → (appending_next p room a step reply).its_words ≡ a.its_words
unfolding appending_next
append_same p room a (appending.Ended told) reply = refl
append_same p room a appending.Reserves reply = reserve_same (record a { reserving = reserve_next a.reserving reply }) (reserve_next_ask room a.reserving reply)
append_same p room a (appending.Fills addr) reply = fill_same (record a { filling = fill_next a.filling }) addr (fill_ask p (fill_next a.filling))
append_same p room a (appending.Publishes addr) reply = publish_same (record a { publishing = publish_next a.publishing reply }) addr (publish_next_ask a.publishing reply)
append_same p room a appending.Invalidates reply = invalidate_same (record a { invalidating = invalidate_next a.invalidating }) (invalidate_ask p (invalidate_next a.invalidating))

module _ (log : Log) (p : Places) where
  abbrev EntrySo : TryState → Type 0
  EntrySo t = IsLed log (entry_addr t.walk.entry)

  entry_on : (w after : WalkState) → after.entry ≡ w.entry → IsLed log (entry_addr w.entry) → IsLed log (entry_addr after.entry)
  entry_on w after same entry = subst (λ (n : ℕ). IsLed log (entry_addr n)) (sym same) entry

  at_on : (w after : WalkState) (a : ℕ) → after.head ≡ w.head → IsAt log w.head.0 a → IsAt log after.head.0 a
  at_on w after a same at = subst (λ (h : Addr). IsAt log h.0 a) (sym same) at

  -- ---- the end
  ended_so : (t : TryState) (its : TryAnswer) → EntrySo t → TryKnown log (ended_without p t its)
  ended_so t its entry = by_test (t.has_shared && not (is_wait its))
    where
      by_test : (b : Bool) → TryKnown log (if b then with_latch p (record t { has_shared = false }) DropShared (DropsShared its) else record t { step = Ended its })
      by_test true = (entry, tt)
      by_test false = (entry, tt)

  ends_now_so : (t : TryState) (its : TryAnswer) → EntrySo t → TryKnown log (ends_now p t its)
  unfolding ends_now
  ends_now_so t its entry = by_test t.has_exclusive
    where
      by_test : (b : Bool) → TryKnown log (if b then with_latch p (record t { has_exclusive = false }) DropExclusive (DropsExclusive its) else ended_without p t its)
      by_test true = (entry, tt)
      by_test false = ended_so t its entry

  ends_by_so : (t : TryState) (its : TryAnswer) (waiting : Option Waiting) → EntrySo t → TryKnown log (ends_by p t its waiting)
  ends_by_so t its None entry = ends_now_so t its entry
  ends_by_so t its (Some waiting) entry = by_test (is_bounded t)
    where
      by_test : (b : Bool) → TryKnown log (if b then record t { step = LoadsTail waiting } else ends_now p t its)
      by_test true = (entry, tt)
      by_test false = ends_now_so t its entry

  ends_so : (t : TryState) (its : TryAnswer) → EntrySo t → TryKnown log (ends p t its)
  unfolding ends
  ends_so t its entry = ends_by_so t its (waiting_of its) entry

  tail_so : (t : TryState) (waiting : Waiting) (tail : ℕ) → EntrySo t → TryKnown log (tail_loaded p t waiting tail)
  unfolding tail_loaded
  tail_so t waiting tail entry = by_tests (is_past_tail (bounds_at t.occasion) tail) (t.walk.entry == 0)
    where
      by_tests : (a b : Bool) → TryKnown log (if a then ends_now p t answer.LogFull else if b then record t { step = LoadsTaken waiting } else ends_now p t (told_of waiting))
      by_tests true b = ends_now_so t answer.LogFull entry
      by_tests false true = (entry, tt)
      by_tests false false = ends_now_so t (told_of waiting) entry

  taken_so : (t : TryState) (waiting : Waiting) (taken : ℕ) → EntrySo t → TryKnown log (taken_loaded p t waiting taken)
  unfolding taken_loaded
  taken_so t waiting taken entry = by_test (is_past_taken (bounds_at t.occasion) taken)
    where
      by_test : (b : Bool) → TryKnown log (if b then ends_now p t answer.IndexFull else ends_now p t (told_of waiting))
      by_test true = ends_now_so t answer.IndexFull entry
      by_test false = ends_now_so t (told_of waiting) entry

  full_so : (t : TryState) (refused : TryAnswer) (occasion : Occasion) → EntrySo t → TryKnown log (ends p t (full_at occasion refused))
  full_so t refused (Call bounds) entry = ends_so t refused entry
  full_so t refused Poll entry = ends_so t (answer.Wait reason.Full) entry

  -- ---- a new record leads to where the entry did
  appends_so : (t : TryState) (old : ℕ) → EntrySo t → TryKnown log (appends t old)
  unfolding appends
  appends_so t old entry = (entry, entry)

  copies_from_so : (t : TryState) (old : OldValue) → EntrySo t → OldSo t.walk.step old → TryKnown log (copies_from t old)
  unfolding copies_from
  copies_from_so t (Known word) entry so = appends_so t word entry
  copies_from_so t InMemory entry so = by_blind (is_blind t.request.op)
    where
      kept : KeepsWay t.walk (walk_on t.walk)
      kept = past_on t.walk so

      by_blind : (b : Bool) → TryKnown log (if b then appends t absent_word else record t { walk = walk_on t.walk; step = LoadsOld })
      by_blind true = appends_so t absent_word entry
      by_blind false = (entry_on t.walk (walk_on t.walk) kept.entry entry, kept.past)

  copies_so : (t : TryState) (old : OldValue) (is_current : Bool) → EntrySo t → OldSo t.walk.step old → TryKnown log (copies p t old is_current)
  unfolding copies
  copies_so t old is_current entry so = by_test (wants_exclusive t is_current)
    where
      by_test : (b : Bool) → TryKnown log (if b then with_latch p t TakeExclusive (TakesExclusive old) else copies_from t old)
      by_test true = (entry, so)
      by_test false = copies_from_so t old entry so

  -- ---- where the walk has ended
  held_so : (t : TryState) (addr : Addr) (its : Option HeldRecord) → EntrySo t → TryKnown log (held_used p t addr its)
  unfolding held_used
  held_so t addr None entry = ends_so t (answer.AwaitsDisk (record { entry = t.walk.entry; addr = addr })) entry
  held_so t addr (Some it) entry = by_entry (it.entry == t.walk.entry)
    where
      by_end : (b : Bool) → TryKnown log (if b then copies p t (Known absent_word) false else awaits p t it.previous)
      by_end true = copies_so t (Known absent_word) false entry tt
      by_end false = ends_so t (answer.AwaitsDisk (record { entry = t.walk.entry; addr = it.previous })) entry

      by_key : (b : Bool) → TryKnown log (if b then copies p t (Known it.value) false else if is_chain_end t.request.floor it.previous then copies p t (Known absent_word) false else awaits p t it.previous)
      by_key true = copies_so t (Known it.value) false entry tt
      by_key false = by_end (is_chain_end t.request.floor it.previous)

      by_entry : (b : Bool)
          → TryKnown log (if b then (if it.key.0 == (key_of t.request.op).0 then copies p t (Known it.value) false else if is_chain_end t.request.floor it.previous then copies p t (Known absent_word) false else awaits p t it.previous) else awaits p t addr)
      by_entry true = by_key (it.key.0 == (key_of t.request.op).0)
      by_entry false = ends_so t (answer.AwaitsDisk (record { entry = t.walk.entry; addr = addr })) entry

  disk_so : (t : TryState) (addr : Addr) → EntrySo t → TryKnown log (met_disk p t addr)
  disk_so t addr entry = by_tests (is_read t.request.op) (is_blind t.request.op || is_chain_end t.request.floor addr) (is_chain_end t.request.floor addr)
    where
      by_tests : (a b c : Bool)
          → TryKnown log (if a then (if c then ends p t answer.Absent else awaits p t addr) else if b then copies p t (Known absent_word) false else held_used p t addr t.request.held)
      by_tests true b true = ends_so t answer.Absent entry
      by_tests true b false = ends_so t (answer.AwaitsDisk (record { entry = t.walk.entry; addr = addr })) entry
      by_tests false true c = copies_so t (Known absent_word) false entry tt
      by_tests false false c = held_so t addr t.request.held entry

  nowhere_so : (t : TryState) → EntrySo t → TryKnown log (met_nowhere p t)
  nowhere_so t entry = by_tests (is_read t.request.op) (must_count p t)
    where
      by_tests : (a b : Bool) → TryKnown log (if a then ends p t answer.Absent else if b then record t { step = CountsTaken } else copies p t (Known absent_word) false)
      by_tests true b = ends_so t answer.Absent entry
      by_tests false true = (entry, tt)
      by_tests false false = copies_so t (Known absent_word) false entry tt

  count_so : (t : TryState) (taken : ℕ) → EntrySo t → TryKnown log (count_loaded p t taken)
  unfolding count_loaded
  count_so t taken entry = by_test (is_past_taken (bounds_at t.occasion) taken)
    where
      by_test : (b : Bool) → TryKnown log (if b then ends p t answer.IndexFull else copies p t (Known absent_word) false)
      by_test true = ends_so t answer.IndexFull entry
      by_test false = copies_so t (Known absent_word) false entry tt

  module _ (t : TryState) (addr : Addr) (entry : EntrySo t) (found : IsFound t.walk.step) (at : IsAt log t.walk.head.0 addr.0) where
    kept_on : KeepsWay t.walk (walk_on t.walk)
    kept_on = past_on t.walk found

    changes_so : TryKnown log (changes t addr)
    changes_so = by_blind (is_blind t.request.op)
      where
        by_blind : (b : Bool) → TryKnown log (if b then record t { step = SwapsValue addr } else record t { walk = walk_on t.walk; step = LoadsCurrent addr })
        by_blind true = (entry, at)
        by_blind false = (entry_on t.walk (walk_on t.walk) kept_on.entry entry, (kept_on.past, at_on t.walk (walk_on t.walk) addr.0 kept_on.head at))

    region_so : (version : Version) (its : Option Region) → TryKnown log (region_met p t addr version its)
    region_so version None = (entry, found)
    region_so version (Some its) = by_test (is_own_version t version)
      where
        by_test : (b : Bool) → TryKnown log (if b then changes t addr else copies p t InMemory false)
        by_test true = changes_so
        by_test false = copies_so t InMemory false entry found

    record_so : (version : Version) → TryKnown log (met_record p t addr version)
    record_so version = by_read (is_read t.request.op)
      where
        by_read : (b : Bool) → TryKnown log (if b then record t { walk = walk_on t.walk; step = LoadsAnswer } else region_met p t addr version (seen_region_of addr.0 t.seen.offsets))
        by_read true = (entry_on t.walk (walk_on t.walk) kept_on.entry entry, kept_on.past)
        by_read false = region_so version (seen_region_of addr.0 t.seen.offsets)

  walked_so : (t : TryState) (its : WalkAnswer) → EntrySo t → AnswerSo log p t.walk its → TryKnown log (walked p t its)
  walked_so t (walk.Found addr version) entry so = record_so t addr entry so.0 so.1 version
  walked_so t walk.Nowhere entry so = nowhere_so t entry
  walked_so t (walk.OnDisk addr) entry so = disk_so t addr entry
  walked_so t (walk.Value value) entry so = ends_so t (answer.Wait reason.Contended) entry
  walked_so t walk.Full entry so = full_so t answer.IndexFull t.occasion entry
  walked_so t walk.Kept entry so = full_so t answer.IndexFull t.occasion entry
  walked_so t walk.Contended entry so = ends_so t (answer.Wait reason.Contended) entry

  walk_led_so : (t : TryState) (ask : Ask WalkAnswer) → t.step ≡ Walks → EntrySo t → WalkSo log t.walk.head.0 t.walk.loading t.walk.step → walk_ask p t.walk ≡ ask → TryKnown log (walk_ledto p t ask)
  unfolding walk_ledto
  walk_led_so t (Done its) at entry so e = by_test (has_walked its && must_shift (record t { spare = t.walk.spare }))
    where
      by_test : (b : Bool) → TryKnown log (if b then ends p (record t { spare = t.walk.spare }) answer.Shift else walked p (record t { spare = t.walk.spare }) its)
      by_test true = ends_so (record t { spare = t.walk.spare }) answer.Shift entry
      by_test false = walked_so (record t { spare = t.walk.spare }) its entry (walk_answers log p t.walk its so e)
  walk_led_so t ask at entry so e = (entry, subst (TrySo log t.walk (made_previous t)) (sym at) so)

  -- ---- by what is loaded then
  safe_so : (t : TryState) (addr : Addr) (version : Version) (safe : ℕ) → EntrySo t → IsFound t.walk.step → TryKnown log (safe_loaded p t addr version safe)
  safe_so t addr version safe entry found = by_test (nat_le safe addr.0)
    where
      by_test : (b : Bool) → TryKnown log (if b then ends p t (answer.Wait reason.Fuzzy) else copies p t InMemory (is_surely_own t version))
      by_test true = ends_so t (answer.Wait reason.Fuzzy) entry
      by_test false = copies_so t InMemory (is_surely_own t version) entry found

  current_so : (t : TryState) (addr : Addr) (ask : Ask WalkAnswer) → t.step ≡ LoadsCurrent addr → EntrySo t → IsPast t.walk.step → IsAt log t.walk.head.0 addr.0 → TryKnown log (current_ledto p t addr ask)
  unfolding current_ledto
  current_so t addr (Done (walk.Value old)) at entry past there = (entry, there)
  current_so t addr (Done its) at entry past there = ends_so t (answer.Wait reason.Contended) entry
  current_so t addr ask at entry past there = (entry, subst (TrySo log t.walk (made_previous t)) (sym at) (past, there))

  changed_so : (t : TryState) (old found : ℕ) → EntrySo t → TryKnown log (value_changed p t old found)
  changed_so t old found entry = by_test (found == old)
    where
      by_test : (b : Bool) → TryKnown log (if b then takes_effect p t (reply_from (value_of old) t.request.op) else ends p t (answer.Wait reason.Contended))
      by_test true = ends_so (record t { effect = Some (reply_from (value_of old) t.request.op) }) (answer.Done (reply_from (value_of old) t.request.op)) entry
      by_test false = ends_so t (answer.Wait reason.Contended) entry

  answer_so : (t : TryState) (ask : Ask WalkAnswer) → t.step ≡ LoadsAnswer → EntrySo t → IsPast t.walk.step → TryKnown log (answer_ledto p t ask)
  unfolding answer_ledto
  answer_so t (Done (walk.Value value)) at entry past = ends_so t (told_value (value_of value)) entry
  answer_so t (Done its) at entry past = ends_so t (answer.Wait reason.Contended) entry
  answer_so t ask at entry past = (entry, subst (TrySo log t.walk (made_previous t)) (sym at) past)

  exclusive_so : (t : TryState) (old : OldValue) (ask : Ask LatchAnswer) → t.step ≡ TakesExclusive old → EntrySo t → OldSo t.walk.step old → TryKnown log (exclusive_ledto p t old ask)
  unfolding exclusive_ledto
  exclusive_so t old (Done latch.Taken) at entry so = copies_from_so (record t { has_exclusive = true }) old entry so
  exclusive_so t old (Done its) at entry so = ends_so t (answer.Wait reason.Latch) entry
  exclusive_so t old ask at entry so = (entry, subst (TrySo log t.walk (made_previous t)) (sym at) so)

  old_so : (t : TryState) (ask : Ask WalkAnswer) → t.step ≡ LoadsOld → EntrySo t → IsPast t.walk.step → TryKnown log (old_ledto p t ask)
  unfolding old_ledto
  old_so t (Done (walk.Value value)) at entry past = appends_so t value entry
  old_so t (Done its) at entry past = ends_so t (answer.Wait reason.Contended) entry
  old_so t ask at entry past = (entry, subst (TrySo log t.walk (made_previous t)) (sym at) past)

  append_so : (t : TryState) (its : Reply) (ask : Ask AppendAnswer) → t.step ≡ Appends its → EntrySo t → IsLed log (made_previous t) → TryKnown log (append_ledto p t its ask)
  unfolding append_ledto
  append_so t its (Done append.Published) at entry so = ends_so (record t { effect = Some its }) (answer.Done its) entry
  append_so t its (Done append.Full) at entry so = full_so t answer.LogFull t.occasion entry
  append_so t its (Done append.NoRoom) at entry so = ends_so t (answer.Wait reason.NoRoom) entry
  append_so t its (Done append.Contended) at entry so = ends_so t (answer.Wait reason.Contended) entry
  append_so t its ask at entry so = (entry, subst (TrySo log t.walk (made_previous t)) (sym at) so)

  -- ---- latches
  latch_so : (t : TryState) → EntrySo t → TryKnown log (latch_shared p t)
  latch_so t entry = by_mark (is_next_marked t.request.version)
    where
      by_mark : (b : Bool) → TryKnown log (if b then record t { step = LoadsPhase } else walks p t)
      by_mark true = (entry, tt)
      by_mark false = (inl refl, tt)

  phase_so : (t : TryState) (said : PhaseSaid) → EntrySo t → TryKnown log (phase_loaded p t said)
  unfolding phase_loaded
  phase_so t said entry = by_word (is_still_in said t.request.version)
    where
      by_word : (b : Bool) → TryKnown log (if b then walks p t else ends p t answer.Shift)
      by_word true = (inl refl, tt)
      by_word false = ends_so t answer.Shift entry

  shared_so : (t : TryState) (ask : Ask LatchAnswer) → t.step ≡ TakesShared → EntrySo t → TryKnown log (shared_ledto p t ask)
  unfolding shared_ledto
  shared_so t (Done latch.Taken) at entry = latch_so (record t { has_shared = true }) entry
  shared_so t (Done its) at entry = ends_so t answer.Shift entry
  shared_so t ask at entry = (entry, subst (TrySo log t.walk (made_previous t)) (sym at) tt)

  dropped_so : (t : TryState) (its : TryAnswer) (ask : Ask LatchAnswer) → t.step ≡ DropsExclusive its → EntrySo t → TryKnown log (exclusive_dropped p t its ask)
  unfolding exclusive_dropped
  dropped_so t its (Done told) at entry = ended_so t its entry
  dropped_so t its ask at entry = (entry, subst (TrySo log t.walk (made_previous t)) (sym at) tt)

  unshared_so : (t : TryState) (its : TryAnswer) (ask : Ask LatchAnswer) → t.step ≡ DropsShared its → EntrySo t → TryKnown log (shared_dropped t its ask)
  unfolding shared_dropped
  unshared_so t its (Done told) at entry = (entry, tt)
  unshared_so t its ask at entry = (entry, subst (TrySo log t.walk (made_previous t)) (sym at) tt)

  -- ---- by the control state
  row_so : (room : ℕ) (t : TryState) (step : Trying) (reply : ℕ) → t.step ≡ step → EntrySo t → TrySo log t.walk (made_previous t) step → TryTold log p t step reply → TryKnown log (trying_next p room (record t { effect = None }) step reply)
  unfolding trying_next
  row_so room t (Ended its) reply at entry so told = (entry, subst (TrySo log t.walk (made_previous t)) (sym at) so)
  row_so room t TakesShared reply at entry so told = shared_so (record t { effect = None; latching = latch_next t.latching reply }) (latch_next_ask t.latching reply) at entry
  row_so room t LoadsPhase reply at entry so told = phase_so (record t { effect = None }) (phase_said reply) entry
  row_so room t Walks reply at entry so told =
      let its = walk_so log p t.walk reply (entry, so) told in
      walk_led_so (record t { effect = None; walk = walk_next p t.walk reply }) (walk_ask p (walk_next p t.walk reply)) at its.0 its.1 refl
  row_so room t CountsTaken reply at entry so told = count_so (record t { effect = None }) reply entry
  row_so room t (LoadsSafe addr version) reply at entry so told = safe_so (record t { effect = None }) addr version reply entry so
  row_so room t (SwapsValue addr) reply at entry so told = ends_so (record t { effect = Some (reply_from None t.request.op) }) (answer.Done (reply_from None t.request.op)) entry
  row_so room t (LoadsCurrent addr) reply at entry so told =
      let kept = past_next p t.walk reply so.0 in
      current_so (record t { effect = None; walk = walk_next p t.walk reply }) addr (walk_ask p (walk_next p t.walk reply)) at (entry_on t.walk (walk_next p t.walk reply) kept.entry entry) kept.past (at_on t.walk (walk_next p t.walk reply) addr.0 kept.head so.1)
  row_so room t (ChangesValue addr old) reply at entry so told = changed_so (record t { effect = None }) old reply entry
  row_so room t LoadsAnswer reply at entry so told =
      let kept = past_next p t.walk reply so in
      answer_so (record t { effect = None; walk = walk_next p t.walk reply }) (walk_ask p (walk_next p t.walk reply)) at (entry_on t.walk (walk_next p t.walk reply) kept.entry entry) kept.past
  row_so room t (TakesExclusive old) reply at entry so told = exclusive_so (record t { effect = None; latching = latch_next t.latching reply }) old (latch_next_ask t.latching reply) at entry so
  row_so room t LoadsOld reply at entry so told =
      let kept = past_next p t.walk reply so in
      old_so (record t { effect = None; walk = walk_next p t.walk reply }) (walk_ask p (walk_next p t.walk reply)) at (entry_on t.walk (walk_next p t.walk reply) kept.entry entry) kept.past
  row_so room t (Appends its) reply at entry so told =
      append_so (record t { effect = None; append = append_next p room t.append reply }) its (append_ask p (append_next p room t.append reply)) at entry
      (subst (λ (words : RecordWords). IsLed log words.header.previous.0) (sym (append_same p room t.append t.append.step reply)) so)
  row_so room t (LoadsTail waiting) reply at entry so told = tail_so (record t { effect = None }) waiting reply entry
  row_so room t (LoadsTaken waiting) reply at entry so told = taken_so (record t { effect = None }) waiting reply entry
  row_so room t (DropsExclusive its) reply at entry so told = dropped_so (record t { effect = None; latching = latch_next t.latching reply }) its (latch_next_ask t.latching reply) at entry
  row_so room t (DropsShared its) reply at entry so told = unshared_so (record t { effect = None; latching = latch_next t.latching reply }) its (latch_next_ask t.latching reply) at entry

  pub try_so : (room : ℕ) (t : TryState) (reply : ℕ) → TryKnown log t → TryTold log p t t.step reply → TryKnown log (try_next p room t reply)
  try_so room t reply known told = row_so room t t.step reply refl known.0 known.1 told

  -- ---- as it begins
  begun_so : (t : TryState) → EntrySo t → TryKnown log (if wants_shared t then with_latch p t TakeShared TakesShared else walks p t)
  begun_so t entry = by_test (wants_shared t)
    where
      by_test : (b : Bool) → TryKnown log (if b then with_latch p t TakeShared TakesShared else walks p t)
      by_test true = (entry, tt)
      by_test false = (inl refl, tt)

  pub try_begins : (bits : ℕ) (request : Request) (seen : Seen) (occasion : Occasion) (spare : ℕ) → TryKnown log (try_begun p bits request seen occasion spare)
  unfolding walk_rested
  try_begins bits request seen occasion spare = begun_so (new_try bits request seen occasion spare) (inl refl)
