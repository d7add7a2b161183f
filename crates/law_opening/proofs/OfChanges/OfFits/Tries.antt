-- Each reply leads a try on to a state in which what it has loaded and what it makes fit, and what it awaits on the device is there.
use Rattle.std.proofs.Common.{◌≡◌, ℕ, ◌≤◌, refl, sym, subst, Bool, true, false, Option, Some, None}
use Rattle.std.specs.Prelude.{⊤, ◌==◌, ◌&&◌, ◌||◌, not, nat_le, if◌then◌else◌}
use Rattle.fkv_base.specs.declared.numbers.Addr.{Addr}
use Rattle.fkv_base.specs.declared.numbers.Version.{Version}
use Rattle.fkv_latch.specs.Latching.{latch_ask, latch_next, latch_next_ask}
use Rattle.fkv_latch.specs.declared.latching.LatchAnswer.{LatchAnswer}
use Rattle.fkv_latch.specs.declared.latching.LatchAnswer.TheVariants as latch
use Rattle.fkv_latch.specs.declared.latching.LatchTask.TheVariants.{DropExclusive, DropShared, TakeExclusive, TakeShared}
use Rattle.law_refine.specs.Below.fkv_log.Regions.{seen_region_of}
use Rattle.law_refine.specs.Below.fkv_log.Region.{Region}
use Rattle.fkv_map.specs.Fits.{NumberFits, OpFits}
use Rattle.fkv_map.specs.Keys.{key_of, reply_from, value_applied}
use Rattle.fkv_map.specs.Map.{absent_word}
use Rattle.fkv_map.specs.declared.operations.Reply.{Reply}
use Rattle.law_refine.specs.Below.fkv_ops.Appending.{append_ask, append_next}
use Rattle.law_refine.specs.Below.fkv_ops.Requests.{is_blind, is_chain_end, is_read}
use Rattle.law_refine.specs.Below.fkv_ops.Trying.{TryState, answer_ledto, append_ledto, awaits, changes, copies, copies_from, current_ledto, ended_without, ends_so, ends_by, is_bounded, tail_loaded, taken_loaded, must_count, count_loaded, ends, appends, exclusive_dropped, exclusive_ledto, full_at, has_walked, held_used, is_own_version, is_wait, met_disk, met_nowhere, met_record, must_shift, new_try, old_ledto, region_met, safe_loaded, shared_dropped, shared_ledto, takes_effect, told_value, try_ask, try_begun, try_next, trying_ask, trying_next, value_changed, walk_ledto, walked, walks, wants_exclusive, wants_shared, with_latch, is_next_marked, latch_shared, is_still_in, phase_loaded, is_surely_own}
use Rattle.law_refine.specs.Below.fkv_ops.Values.{value_of}
use Rattle.law_refine.specs.Below.fkv_ops.Walking.{walk_ask, walk_next, walk_on, walk_rested}
use Rattle.law_refine.specs.Below.fkv_ops.Reason.TheVariants as reason
use Rattle.law_refine.specs.Below.fkv_ops.TryAnswer.{TryAnswer}
use Rattle.law_refine.specs.Below.fkv_ops.TryAnswer.TheVariants as answer
use Rattle.law_refine.specs.Below.fkv_ops.AppendAnswer.{AppendAnswer}
use Rattle.law_refine.specs.Below.fkv_ops.AppendAnswer.TheVariants as append
use Rattle.law_refine.specs.Below.fkv_ops.HeldRecord.{HeldRecord}
use Rattle.law_refine.specs.Below.fkv_ops.Occasion.{Occasion}
use Rattle.law_refine.specs.Below.fkv_ops.Occasion.TheVariants.{Call, Poll}
use Rattle.law_refine.specs.Below.fkv_ops.Request.{Request}
use Rattle.law_refine.specs.Below.fkv_ops.Seen.{Seen}
use Rattle.law_refine.specs.Below.fkv_ops.OldValue.{OldValue}
use Rattle.law_refine.specs.Below.fkv_ops.OldValue.TheVariants.{InMemory, Known}
use Rattle.law_refine.specs.Below.fkv_ops.TheTrying.{Trying}
use Rattle.law_refine.specs.Below.fkv_ops.TheTrying.TheVariants.{Ended, TakesShared, LoadsPhase, Walks, CountsTaken, LoadsSafe, SwapsValue, LoadsCurrent, ChangesValue, LoadsAnswer, TakesExclusive, LoadsOld, Appends, LoadsTail, LoadsTaken, DropsExclusive, DropsShared}
use Rattle.law_refine.specs.Below.fkv_ops.WalkAnswer.{WalkAnswer}
use Rattle.law_refine.specs.Below.fkv_ops.WalkAnswer.TheVariants as walk
use Rattle.fkv_words.specs.declared.phase_words.PhaseSaid.{PhaseSaid}
use Rattle.fkv_words.specs.PhaseWords.{phase_said}
use Rattle.fkv_plane.specs.declared.asks.Ask.{Ask}
use Rattle.fkv_plane.specs.declared.asks.Ask.TheVariants.{Done}
use Rattle.fkv_plane.specs.declared.places.Places.{Places}
use Rattle.law_opening.proofs.OfChanges.OfFits.Numbers.{absent_fits, applied_fits, key_fits, said_fits, word_fits}
use Rattle.law_opening.proofs.OfChanges.OfFits.Rows.{AnswerOk, BaseOk, HeldOk, IsThere, OldOk, RequestOk, TryOk, TryRow, WalkAnswerOk, WordsOk, led_on}
use Rattle.law_opening.proofs.OfChanges.OfFits.Walks.{WalkValueTold, on_ok, past_ok, walk_answers, walk_ok}
use Rattle.law_opening.proofs.OfChanges.Rows.{TryKnown}
use Rattle.law_opening.proofs.OfChanges.TryRows.{TryTold, append_same}
use Rattle.law_opening.proofs.OfChanges.Walks.{passed_answer}
use Rattle.law_log.specs.Ghosts.{Log}
use Rattle.law_refine.specs.Below.fkv_ops.TheWaiting.{Waiting}
use Rattle.law_refine.specs.Below.fkv_ops.TheWaiting.TheVariants.{For, ForRecord}
use Rattle.law_refine.specs.Below.fkv_ops.Bounds.{bounds_at, is_past_tail, is_past_taken}
use Rattle.law_refine.specs.Below.fkv_ops.Waiting.{told_of}

-- no head that a session has seen lies above the flushed offset, and each value that is loaded of a published record fits
abbrev pub TryValueTold : Log → ℕ → TryState → Trying → ℕ → Type 0
TryValueTold log flushed t Walks reply = (t.walk.head.0 ≤ flushed) × WalkValueTold log t.walk t.walk.step reply
TryValueTold log flushed t (LoadsCurrent addr) reply = WalkValueTold log t.walk t.walk.step reply
TryValueTold log flushed t LoadsAnswer reply = WalkValueTold log t.walk t.walk.step reply
TryValueTold log flushed t LoadsOld reply = WalkValueTold log t.walk t.walk.step reply
TryValueTold log flushed t step reply = ⊤

module _ (begin : ℕ) (log : Log) (flushed : ℕ) (p : Places) where
  abbrev Base : TryState → Type 0
  Base t = BaseOk begin log flushed t

  abbrev Ok : TryState → Type 0
  Ok t = TryOk begin log flushed t

  still : (t : TryState) (step : Trying) → t.step ≡ step → Base t → TryRow log flushed t step → Ok t
  still t step at base ok = (base, subst (TryRow log flushed t) (sym at) ok)

  -- ---- the end
  ended_ok : (t : TryState) (its : TryAnswer) → Base t → AnswerOk log flushed its → Ok (ended_without p t its)
  ended_ok t its base ok = by_test (t.has_shared && not (is_wait its))
    where
      by_test : (b : Bool) → Ok (if b then with_latch p (record t { has_shared = false }) DropShared (DropsShared its) else record t { step = Ended its })
      by_test true = (base, ok)
      by_test false = (base, ok)

  ends_so_ok : (t : TryState) (its : TryAnswer) → Base t → AnswerOk log flushed its → Ok (ends_so p t its)
  unfolding ends_so
  ends_so_ok t its base ok = by_test t.has_exclusive
    where
      by_test : (b : Bool) → Ok (if b then with_latch p (record t { has_exclusive = false }) DropExclusive (DropsExclusive its) else ended_without p t its)
      by_test true = (base, ok)
      by_test false = ended_ok t its base ok

  waits_ok : (t : TryState) (its : TryAnswer) (waiting : Waiting) → Base t → AnswerOk log flushed its → AnswerOk log flushed (told_of waiting) → Ok (ends_by p t its (Some waiting))
  waits_ok t its waiting base ok told = by_test (is_bounded t)
    where
      by_test : (b : Bool) → Ok (if b then record t { step = LoadsTail waiting } else ends_so p t its)
      by_test true = (base, told)
      by_test false = ends_so_ok t its base ok

  ends_ok : (t : TryState) (its : TryAnswer) → Base t → AnswerOk log flushed its → Ok (ends p t its)
  unfolding ends
  ends_ok t (answer.Wait it) base ok = waits_ok t (answer.Wait it) (For it) base ok tt
  ends_ok t (answer.AwaitsDisk it) base ok = waits_ok t (answer.AwaitsDisk it) (ForRecord it) base ok ok
  ends_ok t its base ok = ends_so_ok t its base ok

  tail_ok : (t : TryState) (waiting : Waiting) (tail : ℕ) → Base t → AnswerOk log flushed (told_of waiting) → Ok (tail_loaded p t waiting tail)
  unfolding tail_loaded
  tail_ok t waiting tail base ok = by_tests (is_past_tail (bounds_at t.occasion) tail) (t.walk.entry == 0)
    where
      by_tests : (a b : Bool) → Ok (if a then ends_so p t answer.LogFull else if b then record t { step = LoadsTaken waiting } else ends_so p t (told_of waiting))
      by_tests true b = ends_so_ok t answer.LogFull base tt
      by_tests false true = (base, ok)
      by_tests false false = ends_so_ok t (told_of waiting) base ok

  taken_ok : (t : TryState) (waiting : Waiting) (taken : ℕ) → Base t → AnswerOk log flushed (told_of waiting) → Ok (taken_loaded p t waiting taken)
  unfolding taken_loaded
  taken_ok t waiting taken base ok = by_test (is_past_taken (bounds_at t.occasion) taken)
    where
      by_test : (b : Bool) → Ok (if b then ends_so p t answer.IndexFull else ends_so p t (told_of waiting))
      by_test true = ends_so_ok t answer.IndexFull base tt
      by_test false = ends_so_ok t (told_of waiting) base ok

  index_full_ok : (t : TryState) (occasion : Occasion) → Base t → Ok (ends p t (full_at occasion answer.IndexFull))
  index_full_ok t (Call bounds) base = ends_ok t answer.IndexFull base tt
  index_full_ok t Poll base = ends_ok t (answer.Wait reason.Full) base tt

  log_full_ok : (t : TryState) (occasion : Occasion) → Base t → Ok (ends p t (full_at occasion answer.LogFull))
  log_full_ok t (Call bounds) base = ends_ok t answer.LogFull base tt
  log_full_ok t Poll base = ends_ok t (answer.Wait reason.Full) base tt

  told_ok : (value : Option ℕ) → AnswerOk log flushed (told_value value)
  told_ok None = tt
  told_ok (Some n) = tt

  -- ---- a new record is made of the old value
  appends_ok : (t : TryState) (old : ℕ) → Base t → NumberFits old → Ok (appends t old)
  unfolding appends
  appends_ok t old base fits = (base, λ op. (key_fits t.request.op op, word_fits (value_applied (value_of old) t.request.op) (applied_fits (value_of old) t.request.op (said_fits old fits) op)))

  copies_from_ok : (t : TryState) (old : OldValue) → Base t → OldOk old → Ok (copies_from t old)
  unfolding copies_from
  copies_from_ok t (Known word) base ok = appends_ok t word base ok
  copies_from_ok t InMemory base ok = by_blind (is_blind t.request.op)
    where
      by_blind : (b : Bool) → Ok (if b then appends t absent_word else record t { walk = walk_on t.walk; step = LoadsOld })
      by_blind true = appends_ok t absent_word base absent_fits
      by_blind false = ((base.0, on_ok log flushed p t.walk base.1), tt)

  copies_ok : (t : TryState) (old : OldValue) (is_current : Bool) → Base t → OldOk old → Ok (copies p t old is_current)
  unfolding copies
  copies_ok t old is_current base ok = by_test (wants_exclusive t is_current)
    where
      by_test : (b : Bool) → Ok (if b then with_latch p t TakeExclusive (TakesExclusive old) else copies_from t old)
      by_test true = (base, ok)
      by_test false = copies_from_ok t old base ok

  -- ---- where the walk has ended
  awaits_ok : (t : TryState) (addr : Addr) → Base t → IsThere log flushed addr.0 → Ok (awaits p t addr)
  awaits_ok t addr base there = ends_ok t (answer.AwaitsDisk (record { entry = t.walk.entry; addr = addr })) base there

  held_ok : (t : TryState) (addr : Addr) (its : Option HeldRecord) → Base t → IsThere log flushed addr.0 → HeldOk begin log flushed t.request.floor its → Ok (held_used p t addr its)
  unfolding held_used
  held_ok t addr None base there ok = awaits_ok t addr base there
  held_ok t addr (Some it) base there ok = by_entry (it.entry == t.walk.entry)
    where
      by_end : (b : Bool) → is_chain_end t.request.floor it.previous ≡ b → Ok (if b then copies p t (Known absent_word) false else awaits p t it.previous)
      by_end true e = copies_ok t (Known absent_word) false base absent_fits
      by_end false e = awaits_ok t it.previous base (led_on begin log flushed t.request.floor it.previous ok.1.1 e ok.1.0)

      by_key : (b : Bool) → Ok (if b then copies p t (Known it.value) false else if is_chain_end t.request.floor it.previous then copies p t (Known absent_word) false else awaits p t it.previous)
      by_key true = copies_ok t (Known it.value) false base ok.0
      by_key false = by_end (is_chain_end t.request.floor it.previous) refl

      by_entry : (b : Bool)
          → Ok (if b then (if it.key.0 == (key_of t.request.op).0 then copies p t (Known it.value) false else if is_chain_end t.request.floor it.previous then copies p t (Known absent_word) false else awaits p t it.previous) else awaits p t addr)
      by_entry true = by_key (it.key.0 == (key_of t.request.op).0)
      by_entry false = awaits_ok t addr base there

  disk_ok : (t : TryState) (addr : Addr) → Base t → IsThere log flushed addr.0 → Ok (met_disk p t addr)
  disk_ok t addr base there = by_tests (is_read t.request.op) (is_blind t.request.op || is_chain_end t.request.floor addr) (is_chain_end t.request.floor addr)
    where
      by_tests : (a b c : Bool) → Ok (if a then (if c then ends p t answer.Absent else awaits p t addr) else if b then copies p t (Known absent_word) false else held_used p t addr t.request.held)
      by_tests true b true = ends_ok t answer.Absent base tt
      by_tests true b false = awaits_ok t addr base there
      by_tests false true c = copies_ok t (Known absent_word) false base absent_fits
      by_tests false false c = held_ok t addr t.request.held base there base.0

  nowhere_ok : (t : TryState) → Base t → Ok (met_nowhere p t)
  nowhere_ok t base = by_tests (is_read t.request.op) (must_count p t)
    where
      by_tests : (a b : Bool) → Ok (if a then ends p t answer.Absent else if b then record t { step = CountsTaken } else copies p t (Known absent_word) false)
      by_tests true b = ends_ok t answer.Absent base tt
      by_tests false true = (base, tt)
      by_tests false false = copies_ok t (Known absent_word) false base absent_fits

  count_ok : (t : TryState) (taken : ℕ) → Base t → Ok (count_loaded p t taken)
  unfolding count_loaded
  count_ok t taken base = by_test (is_past_taken (bounds_at t.occasion) taken)
    where
      by_test : (b : Bool) → Ok (if b then ends p t answer.IndexFull else copies p t (Known absent_word) false)
      by_test true = ends_ok t answer.IndexFull base tt
      by_test false = copies_ok t (Known absent_word) false base absent_fits

  changes_ok : (t : TryState) (addr : Addr) → Base t → Ok (changes t addr)
  changes_ok t addr base = by_blind (is_blind t.request.op)
    where
      by_blind : (b : Bool) → Ok (if b then record t { step = SwapsValue addr } else record t { walk = walk_on t.walk; step = LoadsCurrent addr })
      by_blind true = (base, tt)
      by_blind false = ((base.0, on_ok log flushed p t.walk base.1), tt)

  region_ok : (t : TryState) (addr : Addr) (version : Version) (its : Option Region) → Base t → Ok (region_met p t addr version its)
  region_ok t addr version None base = (base, tt)
  region_ok t addr version (Some its) base = by_test (is_own_version t version)
    where
      by_test : (b : Bool) → Ok (if b then changes t addr else copies p t InMemory false)
      by_test true = changes_ok t addr base
      by_test false = copies_ok t InMemory false base tt

  record_ok : (t : TryState) (addr : Addr) (version : Version) → Base t → Ok (met_record p t addr version)
  record_ok t addr version base = by_read (is_read t.request.op)
    where
      by_read : (b : Bool) → Ok (if b then record t { walk = walk_on t.walk; step = LoadsAnswer } else region_met p t addr version (seen_region_of addr.0 t.seen.offsets))
      by_read true = ((base.0, on_ok log flushed p t.walk base.1), tt)
      by_read false = region_ok t addr version (seen_region_of addr.0 t.seen.offsets) base

  walked_ok : (t : TryState) (its : WalkAnswer) → Base t → WalkAnswerOk log flushed its → Ok (walked p t its)
  walked_ok t (walk.Found addr version) base ok = record_ok t addr version base
  walked_ok t walk.Nowhere base ok = nowhere_ok t base
  walked_ok t (walk.OnDisk addr) base ok = disk_ok t addr base ok
  walked_ok t (walk.Value value) base ok = ends_ok t (answer.Wait reason.Contended) base tt
  walked_ok t walk.Full base ok = index_full_ok t t.occasion base
  walked_ok t walk.Kept base ok = index_full_ok t t.occasion base
  walked_ok t walk.Contended base ok = ends_ok t (answer.Wait reason.Contended) base tt

  walk_led_ok : (t : TryState) (ask : Ask WalkAnswer) → t.step ≡ Walks → Base t → walk_ask p t.walk ≡ ask → Ok (walk_ledto p t ask)
  unfolding walk_ledto
  walk_led_ok t (Done its) at base e = by_test (has_walked its && must_shift (record t { spare = t.walk.spare }))
    where
      by_test : (b : Bool) → Ok (if b then ends p (record t { spare = t.walk.spare }) answer.Shift else walked p (record t { spare = t.walk.spare }) its)
      by_test true = ends_ok (record t { spare = t.walk.spare }) answer.Shift base tt
      by_test false = walked_ok (record t { spare = t.walk.spare }) its base (walk_answers log flushed p t.walk its base.1 e)
  walk_led_ok t ask at base e = still t Walks at base tt

  -- ---- by what is loaded then
  safe_ok : (t : TryState) (addr : Addr) (version : Version) (safe : ℕ) → Base t → Ok (safe_loaded p t addr version safe)
  safe_ok t addr version safe base = by_test (nat_le safe addr.0)
    where
      by_test : (b : Bool) → Ok (if b then ends p t (answer.Wait reason.Fuzzy) else copies p t InMemory (is_surely_own t version))
      by_test true = ends_ok t (answer.Wait reason.Fuzzy) base tt
      by_test false = copies_ok t InMemory (is_surely_own t version) base tt

  current_ok : (t : TryState) (addr : Addr) (ask : Ask WalkAnswer) → t.step ≡ LoadsCurrent addr → Base t → Ok (current_ledto p t addr ask)
  unfolding current_ledto
  current_ok t addr (Done (walk.Value old)) at base = (base, tt)
  current_ok t addr (Done its) at base = ends_ok t (answer.Wait reason.Contended) base tt
  current_ok t addr ask at base = still t (LoadsCurrent addr) at base tt

  changed_ok : (t : TryState) (old found : ℕ) → Base t → Ok (value_changed p t old found)
  changed_ok t old found base = by_test (found == old)
    where
      by_test : (b : Bool) → Ok (if b then takes_effect p t (reply_from (value_of old) t.request.op) else ends p t (answer.Wait reason.Contended))
      by_test true = ends_ok (record t { effect = Some (reply_from (value_of old) t.request.op) }) (answer.Done (reply_from (value_of old) t.request.op)) base tt
      by_test false = ends_ok t (answer.Wait reason.Contended) base tt

  answer_ok : (t : TryState) (ask : Ask WalkAnswer) → t.step ≡ LoadsAnswer → Base t → Ok (answer_ledto p t ask)
  unfolding answer_ledto
  answer_ok t (Done (walk.Value value)) at base = ends_ok t (told_value (value_of value)) base (told_ok (value_of value))
  answer_ok t (Done its) at base = ends_ok t (answer.Wait reason.Contended) base tt
  answer_ok t ask at base = still t LoadsAnswer at base tt

  exclusive_ok : (t : TryState) (old : OldValue) (ask : Ask LatchAnswer) → t.step ≡ TakesExclusive old → Base t → OldOk old → Ok (exclusive_ledto p t old ask)
  unfolding exclusive_ledto
  exclusive_ok t old (Done latch.Taken) at base ok = copies_from_ok (record t { has_exclusive = true }) old base ok
  exclusive_ok t old (Done its) at base ok = ends_ok t (answer.Wait reason.Latch) base tt
  exclusive_ok t old ask at base ok = still t (TakesExclusive old) at base ok

  old_ok : (t : TryState) (ask : Ask WalkAnswer) → t.step ≡ LoadsOld → Base t → walk_ask p t.walk ≡ ask → Ok (old_ledto p t ask)
  unfolding old_ledto
  old_ok t (Done (walk.Value value)) at base e = appends_ok t value base (walk_answers log flushed p t.walk (walk.Value value) base.1 e)
  old_ok t (Done its) at base e = ends_ok t (answer.Wait reason.Contended) base tt
  old_ok t ask at base e = still t LoadsOld at base tt

  append_ok : (t : TryState) (its : Reply) (ask : Ask AppendAnswer) → t.step ≡ Appends its → Base t → (OpFits t.request.op → WordsOk t.append.its_words) → Ok (append_ledto p t its ask)
  unfolding append_ledto
  append_ok t its (Done append.Published) at base ok = ends_ok (record t { effect = Some its }) (answer.Done its) base tt
  append_ok t its (Done append.Full) at base ok = log_full_ok t t.occasion base
  append_ok t its (Done append.NoRoom) at base ok = ends_ok t (answer.Wait reason.NoRoom) base tt
  append_ok t its (Done append.Contended) at base ok = ends_ok t (answer.Wait reason.Contended) base tt
  append_ok t its ask at base ok = still t (Appends its) at base ok

  -- ---- latches
  latch_ok : (t : TryState) → Base t → Ok (latch_shared p t)
  latch_ok t base = by_mark (is_next_marked t.request.version)
    where
      by_mark : (b : Bool) → Ok (if b then record t { step = LoadsPhase } else walks p t)
      by_mark true = (base, tt)
      by_mark false = ((base.0, tt), tt)

  phase_ok : (t : TryState) (said : PhaseSaid) → Base t → Ok (phase_loaded p t said)
  unfolding phase_loaded
  phase_ok t said base = by_word (is_still_in said t.request.version)
    where
      by_word : (b : Bool) → Ok (if b then walks p t else ends p t answer.Shift)
      by_word true = ((base.0, tt), tt)
      by_word false = ends_ok t answer.Shift base tt

  shared_ok : (t : TryState) (ask : Ask LatchAnswer) → t.step ≡ TakesShared → Base t → Ok (shared_ledto p t ask)
  unfolding shared_ledto
  shared_ok t (Done latch.Taken) at base = latch_ok (record t { has_shared = true }) base
  shared_ok t (Done its) at base = ends_ok t answer.Shift base tt
  shared_ok t ask at base = still t TakesShared at base tt

  dropped_ok : (t : TryState) (its : TryAnswer) (ask : Ask LatchAnswer) → t.step ≡ DropsExclusive its → Base t → AnswerOk log flushed its → Ok (exclusive_dropped p t its ask)
  unfolding exclusive_dropped
  dropped_ok t its (Done told) at base ok = ended_ok t its base ok
  dropped_ok t its ask at base ok = still t (DropsExclusive its) at base ok

  unshared_ok : (t : TryState) (its : TryAnswer) (ask : Ask LatchAnswer) → t.step ≡ DropsShared its → Base t → AnswerOk log flushed its → Ok (shared_dropped t its ask)
  unfolding shared_dropped
  unshared_ok t its (Done told) at base ok = (base, ok)
  unshared_ok t its ask at base ok = still t (DropsShared its) at base ok

  -- ---- by the control state
  row_ok : (room : ℕ) (t : TryState) (step : Trying) (reply : ℕ) → t.step ≡ step → TryKnown log (record t { step = step }) → TryTold log p t step reply → Base t → TryRow log flushed t step → TryValueTold log flushed t step reply
      → Ok (trying_next p room (record t { effect = None }) step reply)
  unfolding trying_next
  row_ok room t (Ended its) reply at known told base ok value = still (record t { effect = None }) (Ended its) at base ok
  row_ok room t TakesShared reply at known told base ok value = shared_ok (record t { effect = None; latching = latch_next t.latching reply }) (latch_next_ask t.latching reply) at base
  row_ok room t LoadsPhase reply at known told base ok value = phase_ok (record t { effect = None }) (phase_said reply) base
  row_ok room t Walks reply at known told base ok value =
      walk_led_ok (record t { effect = None; walk = walk_next p t.walk reply }) (walk_ask p (walk_next p t.walk reply)) at (base.0, walk_ok log flushed p t.walk reply value.0 known told base.1 value.1) refl
  row_ok room t CountsTaken reply at known told base ok value = count_ok (record t { effect = None }) reply base
  row_ok room t (LoadsSafe addr version) reply at known told base ok value = safe_ok (record t { effect = None }) addr version reply base
  row_ok room t (SwapsValue addr) reply at known told base ok value = ends_ok (record t { effect = Some (reply_from None t.request.op) }) (answer.Done (reply_from None t.request.op)) base tt
  row_ok room t (LoadsCurrent addr) reply at known told base ok value =
      current_ok (record t { effect = None; walk = walk_next p t.walk reply }) addr (walk_ask p (walk_next p t.walk reply)) at (base.0, past_ok log flushed p t.walk reply known.1.0 base.1 value)
  row_ok room t (ChangesValue addr old) reply at known told base ok value = changed_ok (record t { effect = None }) old reply base
  row_ok room t LoadsAnswer reply at known told base ok value =
      answer_ok (record t { effect = None; walk = walk_next p t.walk reply }) (walk_ask p (walk_next p t.walk reply)) at (base.0, past_ok log flushed p t.walk reply known.1 base.1 value)
  row_ok room t (TakesExclusive old) reply at known told base ok value = exclusive_ok (record t { effect = None; latching = latch_next t.latching reply }) old (latch_next_ask t.latching reply) at base ok
  row_ok room t LoadsOld reply at known told base ok value =
      old_ok (record t { effect = None; walk = walk_next p t.walk reply }) (walk_ask p (walk_next p t.walk reply)) at (base.0, past_ok log flushed p t.walk reply known.1 base.1 value) refl
  row_ok room t (Appends its) reply at known told base ok value =
      append_ok (record t { effect = None; append = append_next p room t.append reply }) its (append_ask p (append_next p room t.append reply)) at base
      (λ op. subst WordsOk (sym (append_same p room t.append t.append.step reply)) (ok op))
  row_ok room t (LoadsTail waiting) reply at known told base ok value = tail_ok (record t { effect = None }) waiting reply base ok
  row_ok room t (LoadsTaken waiting) reply at known told base ok value = taken_ok (record t { effect = None }) waiting reply base ok
  row_ok room t (DropsExclusive its) reply at known told base ok value = dropped_ok (record t { effect = None; latching = latch_next t.latching reply }) its (latch_next_ask t.latching reply) at base ok
  row_ok room t (DropsShared its) reply at known told base ok value = unshared_ok (record t { effect = None; latching = latch_next t.latching reply }) its (latch_next_ask t.latching reply) at base ok

  pub try_ok : (room : ℕ) (t : TryState) (reply : ℕ) → TryKnown log t → TryTold log p t t.step reply → Ok t → TryValueTold log flushed t t.step reply → Ok (try_next p room t reply)
  try_ok room t reply known told ok value = row_ok room t t.step reply refl known told ok.0 ok.1 value

  -- ---- what it comes to
  same_answer : (a b : TryAnswer) → Done a ≡ Done b → a ≡ b
  same_answer a b e = cc

  shift : (its : TryAnswer) → its ≡ answer.Shift → AnswerOk log flushed its
  shift its e = subst (AnswerOk log flushed) (sym e) tt

  row_answers : (t : TryState) (step : Trying) (its : TryAnswer) → TryRow log flushed t step → trying_ask p t step ≡ Done its → AnswerOk log flushed its
  unfolding trying_ask
  row_answers t (Ended it) its ok e = subst (AnswerOk log flushed) (same_answer it its e) ok
  row_answers t (DropsExclusive it) its ok e = subst (AnswerOk log flushed) (sym (passed_answer (latch_ask t.latching) it its e)) ok
  row_answers t (DropsShared it) its ok e = subst (AnswerOk log flushed) (sym (passed_answer (latch_ask t.latching) it its e)) ok
  row_answers t TakesShared its ok e = shift its (passed_answer (latch_ask t.latching) answer.Shift its e)
  row_answers t Walks its ok e = shift its (passed_answer (walk_ask p t.walk) answer.Shift its e)
  row_answers t (LoadsCurrent addr) its ok e = shift its (passed_answer (walk_ask p t.walk) answer.Shift its e)
  row_answers t LoadsAnswer its ok e = shift its (passed_answer (walk_ask p t.walk) answer.Shift its e)
  row_answers t (TakesExclusive old) its ok e = shift its (passed_answer (latch_ask t.latching) answer.Shift its e)
  row_answers t LoadsOld its ok e = shift its (passed_answer (walk_ask p t.walk) answer.Shift its e)
  row_answers t (Appends it) its ok e = shift its (passed_answer (append_ask p t.append) answer.Shift its e)
  row_answers t LoadsPhase its ok e = cc
  row_answers t CountsTaken its ok e = cc
  row_answers t (LoadsTail waiting) its ok e = cc
  row_answers t (LoadsTaken waiting) its ok e = cc
  row_answers t (LoadsSafe addr version) its ok e = cc
  row_answers t (SwapsValue addr) its ok e = cc
  row_answers t (ChangesValue addr old) its ok e = cc

  pub try_answers : (t : TryState) (its : TryAnswer) → Ok t → try_ask p t ≡ Done its → AnswerOk log flushed its
  try_answers t its ok e = row_answers t t.step its ok.1 e

  -- ---- as it begins
  begun_ok : (t : TryState) → Base t → Ok (if wants_shared t then with_latch p t TakeShared TakesShared else walks p t)
  begun_ok t base = by_test (wants_shared t)
    where
      by_test : (b : Bool) → Ok (if b then with_latch p t TakeShared TakesShared else walks p t)
      by_test true = (base, tt)
      by_test false = ((base.0, tt), tt)

  pub new_ok : (bits : ℕ) (request : Request) (seen : Seen) (occasion : Occasion) (spare : ℕ) → RequestOk begin log flushed request → Ok (new_try bits request seen occasion spare)
  unfolding walk_rested
  new_ok bits request seen occasion spare held = ((held, tt), tt)

  pub try_begins : (bits : ℕ) (request : Request) (seen : Seen) (occasion : Occasion) (spare : ℕ) → RequestOk begin log flushed request → Ok (try_begun p bits request seen occasion spare)
  try_begins bits request seen occasion spare held = begun_ok (new_try bits request seen occasion spare) (new_ok bits request seen occasion spare held).0
