-- A try ends as a shift at two places alone: where it can't take its share, and where its walk ends.
use Rattle.std.proofs.Common.{◌≡◌, ◌⊎◌, inl, inr, ℕ, refl, sym, subst, Bool, true, false}
use Rattle.std.specs.Prelude.{◌==◌, ◌&&◌, ◌||◌, ⊤, nat_le, not, if◌then◌else◌, Option, Some, None}
use Rattle.fkv_base.specs.declared.numbers.Addr.{Addr}
use Rattle.fkv_base.specs.declared.numbers.Version.{Version}
use Rattle.fkv_latch.specs.declared.latching.LatchAnswer.{LatchAnswer}
use Rattle.fkv_latch.specs.declared.latching.LatchAnswer.TheVariants as latch
use Rattle.fkv_latch.specs.declared.latching.LatchTask.TheVariants.{DropExclusive, DropShared, TakeExclusive, TakeShared}
use Rattle.fkv_latch.specs.declared.latching.Latching.TheVariants.{AddsShare}
use Rattle.fkv_latch.specs.Latching.{is_exclusive, latch_next, latch_next_ask}
use Rattle.law_commit.specs.Below.fkv_log.Region.{Region}
use Rattle.law_commit.specs.Below.fkv_log.Regions.{seen_region_of}
use Rattle.fkv_map.specs.declared.operations.Reply.{Reply}
use Rattle.fkv_map.specs.Keys.{key_of, reply_from}
use Rattle.fkv_map.specs.Map.{absent_word}
use Rattle.law_commit.specs.Below.fkv_ops.Reason.TheVariants as reason
use Rattle.law_commit.specs.Below.fkv_ops.TryAnswer.{TryAnswer}
use Rattle.law_commit.specs.Below.fkv_ops.TryAnswer.TheVariants as answer
use Rattle.law_commit.specs.Below.fkv_ops.TheWaiting.{Waiting}
use Rattle.law_commit.specs.Below.fkv_ops.TheWaiting.TheVariants.{For, ForRecord}
use Rattle.law_commit.specs.Below.fkv_ops.Waiting.{told_of, waiting_of}
use Rattle.law_commit.specs.Below.fkv_ops.Bounds.{IsCall, bounds_at, is_past_tail, is_past_taken}
use Rattle.law_commit.specs.Below.fkv_ops.AppendAnswer.{AppendAnswer}
use Rattle.law_commit.specs.Below.fkv_ops.AppendAnswer.TheVariants as append
use Rattle.law_commit.specs.Below.fkv_ops.HeldRecord.{HeldRecord}
use Rattle.law_commit.specs.Below.fkv_ops.Occasion.{Occasion}
use Rattle.law_commit.specs.Below.fkv_ops.Occasion.TheVariants.{Call, Poll}
use Rattle.law_commit.specs.Below.fkv_ops.Request.{Request}
use Rattle.law_commit.specs.Below.fkv_ops.Seen.{Seen}
use Rattle.law_commit.specs.Below.fkv_ops.OldValue.{OldValue}
use Rattle.law_commit.specs.Below.fkv_ops.OldValue.TheVariants.{InMemory, Known}
use Rattle.law_commit.specs.Below.fkv_ops.TheTrying.{Trying}
use Rattle.law_commit.specs.Below.fkv_ops.TheTrying.TheVariants.{Appends, ChangesValue, CountsTaken, DropsExclusive, DropsShared, Ended, LoadsAnswer, LoadsCurrent, LoadsOld, LoadsPhase, LoadsSafe, LoadsTail, LoadsTaken, SwapsValue, TakesExclusive, TakesShared, Walks}
use Rattle.law_commit.specs.Below.fkv_ops.WalkAnswer.{WalkAnswer}
use Rattle.law_commit.specs.Below.fkv_ops.WalkAnswer.TheVariants as walk
use Rattle.law_commit.specs.Below.fkv_ops.Appending.{append_ask, append_next}
use Rattle.law_commit.specs.Below.fkv_ops.Requests.{is_blind, is_chain_end, is_read}
use Rattle.law_commit.specs.Below.fkv_ops.Trying.{TryState, answer_ledto, append_ledto, appends, awaits, changes, copies, copies_from, count_loaded, current_ledto, ended_without, ends, ends_by, ends_so as ends_now, exclusive_dropped, exclusive_ledto, full_at, has_walked, held_used, is_bounded, is_own_version, is_wait, met_disk, met_nowhere, met_record, must_count, must_shift, new_try, old_ledto, region_met, shared_dropped, shared_ledto, tail_loaded, taken_loaded, takes_effect, told_value, try_begun, try_next, trying_next, walk_ledto, walked, walks, wants_exclusive, wants_shared, with_latch, is_next_marked, is_still_in, phase_loaded, is_surely_own}
use Rattle.law_commit.specs.Below.fkv_ops.Values.{value_of}
use Rattle.law_commit.specs.Below.fkv_ops.Walking.{walk_ask, walk_next, walk_on}
use Rattle.fkv_words.specs.declared.phase_words.PhaseSaid.{PhaseSaid}
use Rattle.fkv_words.specs.PhaseWords.{phase_said}
use Rattle.fkv_plane.specs.declared.asks.Ask.{Ask}
use Rattle.fkv_plane.specs.declared.asks.Ask.TheVariants.{Done}
use Rattle.fkv_plane.specs.declared.places.Places.{Places}
use Rattle.fkv_plane.specs.Places.{bucket_place}
use Rattle.law_order.proofs.OfShifts.Walks.{LoadsNone, walk_none}

-- What is known where a try ends as a shift, and where it is refused as the index or the log is full.
abbrev pub IsShift : Type 0 → Type 0 → TryAnswer → Type 0
IsShift X F answer.Shift = X
IsShift X F answer.IndexFull = F
IsShift X F answer.LogFull = F
IsShift X F its = ⊤

-- as it takes its share it has added none yet, or it has met bit 63; and while it walks, its walk loads no value
abbrev pub ShiftRow : Type 0 → Type 0 → Places → TryState → Trying → Type 0
ShiftRow X F p t (Ended its) = IsShift X F its
ShiftRow X F p t (DropsExclusive its) = IsShift X F its
ShiftRow X F p t (DropsShared its) = IsShift X F its
ShiftRow X F p t TakesShared = (t.latching ≡ AddsShare (bucket_place p t.home.bucket 7)) ⊎ X
ShiftRow X F p t Walks = LoadsNone t.walk.step
ShiftRow X F p t step = ⊤

second_true : (a b : Bool) → (a && b) ≡ true → b ≡ true
second_true true b e = e
second_true false b e = cc

-- only a call has bounds
past_tail : (occasion : Occasion) (tail : ℕ) → is_past_tail (bounds_at occasion) tail ≡ true → IsCall occasion
past_tail (Call bounds) tail past = tt
past_tail Poll tail past = cc

past_taken : (occasion : Occasion) (taken : ℕ) → is_past_taken (bounds_at occasion) taken ≡ true → IsCall occasion
past_taken (Call bounds) taken past = tt
past_taken Poll taken past = cc

module _ (X F : Type 0) (p : Places) where
  abbrev Row : TryState → Type 0
  Row t = ShiftRow X F p t t.step

  still : (t : TryState) (step : Trying) → t.step ≡ step → ShiftRow X F p t step → Row t
  still t step at its = subst (ShiftRow X F p t) (sym at) its

  either : (b : Bool) (one other : TryState) → Row one → Row other → Row (if b then one else other)
  either true one other first second = first
  either false one other first second = second

  without_row : (t : TryState) (its : TryAnswer) → IsShift X F its → Row (ended_without p t its)
  without_row t its so = either (t.has_shared && not (is_wait its)) (with_latch p (record t { has_shared = false }) DropShared (DropsShared its)) (record t { step = Ended its }) so so

  ends_now_row : (t : TryState) (its : TryAnswer) → IsShift X F its → Row (ends_now p t its)
  unfolding ends_now
  ends_now_row t its so = either t.has_exclusive (with_latch p (record t { has_exclusive = false }) DropExclusive (DropsExclusive its)) (ended_without p t its) so (without_row t its so)

  ends_by_row : (t : TryState) (its : TryAnswer) (waiting : Option Waiting) → IsShift X F its → Row (ends_by p t its waiting)
  ends_by_row t its None so = ends_now_row t its so
  ends_by_row t its (Some waiting) so = either (is_bounded t) (record t { step = LoadsTail waiting }) (ends_now p t its) tt (ends_now_row t its so)

  ends_row : (t : TryState) (its : TryAnswer) → IsShift X F its → Row (ends p t its)
  unfolding ends
  ends_row t its so = ends_by_row t its (waiting_of its) so

  -- one that waits neither shifts nor is refused
  waits_so : (waiting : Waiting) → IsShift X F (told_of waiting)
  waits_so (For why) = tt
  waits_so (ForRecord its) = tt

  refused_row : (t : TryState) (past : Bool) (refused : TryAnswer) (on : TryState) → (past ≡ true → IsShift X F refused) → Row on → Row (if past then ends_now p t refused else on)
  refused_row t true refused on so row = ends_now_row t refused (so refl)
  refused_row t false refused on so row = row

  tail_row : (t : TryState) (waiting : Waiting) (tail : ℕ) → (IsCall t.occasion → F) → Row (tail_loaded p t waiting tail)
  unfolding tail_loaded
  tail_row t waiting tail full =
      let looks : TryState = record t { step = LoadsTaken waiting } in
      refused_row t (is_past_tail (bounds_at t.occasion) tail) answer.LogFull (if t.walk.entry == 0 then looks else ends_now p t (told_of waiting)) (λ past. full (past_tail t.occasion tail past))
      (either (t.walk.entry == 0) looks (ends_now p t (told_of waiting)) tt (ends_now_row t (told_of waiting) (waits_so waiting)))

  count_taken_row : (t : TryState) (waiting : Waiting) (taken : ℕ) → (IsCall t.occasion → F) → Row (taken_loaded p t waiting taken)
  unfolding taken_loaded
  count_taken_row t waiting taken full =
      refused_row t (is_past_taken (bounds_at t.occasion) taken) answer.IndexFull (ends_now p t (told_of waiting)) (λ past. full (past_taken t.occasion taken past)) (ends_now_row t (told_of waiting) (waits_so waiting))

  full_row : (t : TryState) (refused : TryAnswer) (occasion : Occasion) → (IsCall occasion → IsShift X F refused) → Row (ends p t (full_at occasion refused))
  full_row t refused (Call bounds) so = ends_row t refused (so tt)
  full_row t refused Poll so = ends_row t (answer.Wait reason.Full) tt

  appends_row : (t : TryState) (old : ℕ) → Row (appends t old)
  unfolding appends
  appends_row t old = tt

  from_row : (t : TryState) (old : OldValue) → Row (copies_from t old)
  unfolding copies_from
  from_row t (Known old) = appends_row t old
  from_row t InMemory = either (is_blind t.request.op) (appends t absent_word) (record t { walk = walk_on t.walk; step = LoadsOld }) (appends_row t absent_word) tt

  copies_row : (t : TryState) (old : OldValue) (is_current : Bool) → Row (copies p t old is_current)
  unfolding copies
  copies_row t old is_current = either (wants_exclusive t is_current) (with_latch p t TakeExclusive (TakesExclusive old)) (copies_from t old) tt (from_row t old)

  awaits_row : (t : TryState) (addr : Addr) → Row (awaits p t addr)
  awaits_row t addr = ends_row t (answer.AwaitsDisk (record { entry = t.walk.entry; addr = addr })) tt

  held_row : (t : TryState) (addr : Addr) (its : Option HeldRecord) → Row (held_used p t addr its)
  unfolding held_used
  held_row t addr None = awaits_row t addr
  held_row t addr (Some held) =
      let end : Bool = is_chain_end t.request.floor held.previous in
      either (held.entry == t.walk.entry) (if held.key.0 == (key_of t.request.op).0 then copies p t (Known held.value) false else if end then copies p t (Known absent_word) false else awaits p t held.previous) (awaits p t addr)
      (either (held.key.0 == (key_of t.request.op).0) (copies p t (Known held.value) false) (if end then copies p t (Known absent_word) false else awaits p t held.previous) (copies_row t (Known held.value) false)
      (either end (copies p t (Known absent_word) false) (awaits p t held.previous) (copies_row t (Known absent_word) false) (awaits_row t held.previous)))
      (awaits_row t addr)

  nowhere_row : (t : TryState) → Row (met_nowhere p t)
  nowhere_row t =
      let counts : TryState = record t { step = CountsTaken } in
      either (is_read t.request.op) (ends p t answer.Absent) (if must_count p t then counts else copies p t (Known absent_word) false) (ends_row t answer.Absent tt)
      (either (must_count p t) counts (copies p t (Known absent_word) false) tt (copies_row t (Known absent_word) false))

  count_row : (t : TryState) (taken : ℕ) → (IsCall t.occasion → F) → Row (count_loaded p t taken)
  unfolding count_loaded
  count_row t taken full = by_test (is_past_taken (bounds_at t.occasion) taken) refl
    where
      by_test : (b : Bool) → is_past_taken (bounds_at t.occasion) taken ≡ b → Row (if b then ends p t answer.IndexFull else copies p t (Known absent_word) false)
      by_test true past = ends_row t answer.IndexFull (full (past_taken t.occasion taken past))
      by_test false past = copies_row t (Known absent_word) false

  disk_row : (t : TryState) (addr : Addr) → Row (met_disk p t addr)
  disk_row t addr =
      let end : Bool = is_chain_end t.request.floor addr in
      either (is_read t.request.op) (if end then ends p t answer.Absent else awaits p t addr) (if is_blind t.request.op || end then copies p t (Known absent_word) false else held_used p t addr t.request.held)
      (either end (ends p t answer.Absent) (awaits p t addr) (ends_row t answer.Absent tt) (awaits_row t addr))
      (either (is_blind t.request.op || end) (copies p t (Known absent_word) false) (held_used p t addr t.request.held) (copies_row t (Known absent_word) false) (held_row t addr t.request.held))

  changes_row : (t : TryState) (addr : Addr) → Row (changes t addr)
  changes_row t addr = either (is_blind t.request.op) (record t { step = SwapsValue addr }) (record t { walk = walk_on t.walk; step = LoadsCurrent addr }) tt tt

  region_row : (t : TryState) (addr : Addr) (version : Version) (its : Option Region) → Row (region_met p t addr version its)
  region_row t addr version None = tt
  region_row t addr version (Some its) = either (is_own_version t version) (changes t addr) (copies p t InMemory false) (changes_row t addr) (copies_row t InMemory false)

  record_row : (t : TryState) (addr : Addr) (version : Version) → Row (met_record p t addr version)
  record_row t addr version =
      either (is_read t.request.op) (record t { walk = walk_on t.walk; step = LoadsAnswer }) (region_met p t addr version (seen_region_of addr.0 t.seen.offsets)) tt (region_row t addr version (seen_region_of addr.0 t.seen.offsets))

  walked_row : (t : TryState) (its : WalkAnswer) → (IsCall t.occasion → F) → Row (walked p t its)
  walked_row t (walk.Found addr version) full = record_row t addr version
  walked_row t walk.Nowhere full = nowhere_row t
  walked_row t (walk.OnDisk addr) full = disk_row t addr
  walked_row t (walk.Value value) full = ends_row t (answer.Wait reason.Contended) tt
  walked_row t walk.Full full = full_row t answer.IndexFull t.occasion full
  walked_row t walk.Kept full = full_row t answer.IndexFull t.occasion full
  walked_row t walk.Contended full = ends_row t (answer.Wait reason.Contended) tt

  led_row : (t : TryState) (ask : Ask WalkAnswer) → t.step ≡ Walks → LoadsNone t.walk.step → (IsCall t.occasion → F) → ((its : WalkAnswer) → ask ≡ Done its → must_shift (record t { spare = t.walk.spare }) ≡ true → X) → Row (walk_ledto p t ask)
  unfolding walk_ledto
  led_row t (Done its) at none full shifts = by_test (has_walked its && must_shift (record t { spare = t.walk.spare })) refl
    where
      by_test : (b : Bool) → (has_walked its && must_shift (record t { spare = t.walk.spare })) ≡ b → Row (if b then ends p (record t { spare = t.walk.spare }) answer.Shift else walked p (record t { spare = t.walk.spare }) its)
      by_test true e = ends_row (record t { spare = t.walk.spare }) answer.Shift (shifts its refl (second_true (has_walked its) (must_shift (record t { spare = t.walk.spare })) e))
      by_test false e = walked_row (record t { spare = t.walk.spare }) its full
  led_row t ask at none full shifts = still t Walks at none

  met_row : (t : TryState) (ask : Ask LatchAnswer) → t.step ≡ TakesShared → X → Row (shared_ledto p t ask)
  unfolding shared_ledto
  met_row t (Done latch.Taken) at x = either (is_next_marked t.request.version) (record t { has_shared = true; step = LoadsPhase }) (walks p (record t { has_shared = true })) tt tt
  met_row t (Done its) at x = ends_row t answer.Shift x
  met_row t ask at x = still t TakesShared at (inr x)

  taken_row : (t : TryState) → Row (shared_ledto p t (Done latch.Taken))
  unfolding shared_ledto
  taken_row t = either (is_next_marked t.request.version) (record t { has_shared = true; step = LoadsPhase }) (walks p (record t { has_shared = true })) tt tt

  phase_row : (t : TryState) (said : PhaseSaid) → (is_still_in said t.request.version ≡ false → X) → Row (phase_loaded p t said)
  unfolding phase_loaded
  phase_row t said other = by_word (is_still_in said t.request.version) refl
    where
      by_word : (b : Bool) → is_still_in said t.request.version ≡ b → Row (if b then walks p t else ends p t answer.Shift)
      by_word true e = tt
      by_word false e = ends_row t answer.Shift (other e)

  exclusive_row : (t : TryState) (old : OldValue) (ask : Ask LatchAnswer) → t.step ≡ TakesExclusive old → Row (exclusive_ledto p t old ask)
  unfolding exclusive_ledto
  exclusive_row t old (Done latch.Taken) at = from_row (record t { has_exclusive = true }) old
  exclusive_row t old (Done its) at = ends_row t (answer.Wait reason.Latch) tt
  exclusive_row t old ask at = still t (TakesExclusive old) at tt

  dropped_row : (t : TryState) (its : TryAnswer) (ask : Ask LatchAnswer) → t.step ≡ DropsExclusive its → IsShift X F its → Row (exclusive_dropped p t its ask)
  unfolding exclusive_dropped
  dropped_row t its (Done told) at so = without_row t its so
  dropped_row t its ask at so = still t (DropsExclusive its) at so

  unshared_row : (t : TryState) (its : TryAnswer) (ask : Ask LatchAnswer) → t.step ≡ DropsShared its → IsShift X F its → Row (shared_dropped t its ask)
  unfolding shared_dropped
  unshared_row t its (Done told) at so = so
  unshared_row t its ask at so = still t (DropsShared its) at so

  effect_row : (t : TryState) (its : Reply) → Row (takes_effect p t its)
  effect_row t its = ends_row (record t { effect = Some its }) (answer.Done its) tt

  current_row : (t : TryState) (addr : Addr) (ask : Ask WalkAnswer) → t.step ≡ LoadsCurrent addr → Row (current_ledto p t addr ask)
  unfolding current_ledto
  current_row t addr (Done (walk.Value old)) at = tt
  current_row t addr (Done its) at = ends_row t (answer.Wait reason.Contended) tt
  current_row t addr ask at = still t (LoadsCurrent addr) at tt

  told_row : (t : TryState) (its : Option ℕ) → Row (ends p t (told_value its))
  told_row t None = ends_row t answer.Absent tt
  told_row t (Some value) = ends_row t (answer.Found (record { 0 = value })) tt

  answer_row : (t : TryState) (ask : Ask WalkAnswer) → t.step ≡ LoadsAnswer → Row (answer_ledto p t ask)
  unfolding answer_ledto
  answer_row t (Done (walk.Value value)) at = told_row t (value_of value)
  answer_row t (Done its) at = ends_row t (answer.Wait reason.Contended) tt
  answer_row t ask at = still t LoadsAnswer at tt

  old_row : (t : TryState) (ask : Ask WalkAnswer) → t.step ≡ LoadsOld → Row (old_ledto p t ask)
  unfolding old_ledto
  old_row t (Done (walk.Value value)) at = appends_row t value
  old_row t (Done its) at = ends_row t (answer.Wait reason.Contended) tt
  old_row t ask at = still t LoadsOld at tt

  append_row : (t : TryState) (its : Reply) (ask : Ask AppendAnswer) → t.step ≡ Appends its → (IsCall t.occasion → F) → Row (append_ledto p t its ask)
  unfolding append_ledto
  append_row t its (Done append.Published) at full = effect_row t its
  append_row t its (Done append.Full) at full = full_row t answer.LogFull t.occasion full
  append_row t its (Done append.NoRoom) at full = ends_row t (answer.Wait reason.NoRoom) tt
  append_row t its (Done append.Contended) at full = ends_row t (answer.Wait reason.Contended) tt
  append_row t its ask at full = still t (Appends its) at tt

-- ---- each reply
-- What is known of the places that lead to one: where a share meets bit 63, where the phase word says something else, where a walk ends that met a later
-- version, and at a call.
pub record ShiftsBy (X F : Type 0) (p : Places) (t : TryState) (reply : ℕ) : Type 0 where
  pub latch : t.step ≡ TakesShared → t.latching ≡ AddsShare (bucket_place p t.home.bucket 7) → is_exclusive reply ≡ true → X
  pub phase : t.step ≡ LoadsPhase → is_still_in (phase_said reply) t.request.version ≡ false → X
  pub walk : t.step ≡ Walks → (its : WalkAnswer) → walk_ask p (walk_next p t.walk reply) ≡ Done its → must_shift (record t { walk = walk_next p t.walk reply }) ≡ true → X
  pub full : IsCall t.occasion → F

module _ (X F : Type 0) (p : Places) (room : ℕ) (t : TryState) (reply : ℕ) (shifts : ShiftsBy X F p t reply) where
  abbrev quiet : TryState
  quiet = record t { effect = None }

  shared_row : t.step ≡ TakesShared → ShiftRow X F p t TakesShared → Row X F p (shared_ledto p (record t { effect = None; latching = latch_next t.latching reply }) (latch_next_ask t.latching reply))
  unfolding latch_next_ask
  shared_row at (inr x) = met_row X F p (record t { effect = None; latching = latch_next t.latching reply }) (latch_next_ask t.latching reply) at x
  shared_row at (inl adds) = by_bit (is_exclusive reply) refl
    where
      by_bit : (b : Bool) → is_exclusive reply ≡ b → Row X F p (shared_ledto p (record t { effect = None; latching = latch_next t.latching reply }) (latch_next_ask t.latching reply))
      by_bit true e = met_row X F p (record t { effect = None; latching = latch_next t.latching reply }) (latch_next_ask t.latching reply) at (shifts.latch at adds e)
      by_bit false e =
          let taken : latch_next_ask t.latching reply ≡ Done latch.Taken = (rw (adds, e) refl) in
          subst (λ (ask : Ask LatchAnswer). Row X F p (shared_ledto p (record t { effect = None; latching = latch_next t.latching reply }) ask)) (sym taken) (taken_row X F p (record t { effect = None; latching = latch_next t.latching reply }))

  row_on : (step : Trying) → t.step ≡ step → ShiftRow X F p t step → Row X F p (trying_next p room (record t { effect = None }) step reply)
  unfolding trying_next
  row_on (Ended its) at row = still X F p quiet (Ended its) at row
  row_on TakesShared at row = shared_row at row
  row_on LoadsPhase at row = phase_row X F p quiet (phase_said reply) (shifts.phase at)
  row_on Walks at row = led_row X F p (record t { effect = None; walk = walk_next p t.walk reply }) (walk_ask p (walk_next p t.walk reply)) at (walk_none p t.walk reply row) shifts.full (λ its e must. shifts.walk at its e must)
  row_on CountsTaken at row = count_row X F p quiet reply shifts.full
  row_on (LoadsSafe addr version) at row =
      either X F p (nat_le reply addr.0) (ends p quiet (answer.Wait reason.Fuzzy)) (copies p quiet InMemory (is_surely_own t version)) (ends_row X F p quiet (answer.Wait reason.Fuzzy) tt) (copies_row X F p quiet InMemory (is_surely_own t version))
  row_on (SwapsValue addr) at row = effect_row X F p quiet (reply_from None t.request.op)
  row_on (LoadsCurrent addr) at row = current_row X F p (record t { effect = None; walk = walk_next p t.walk reply }) addr (walk_ask p (walk_next p t.walk reply)) at
  row_on (ChangesValue addr old) at row =
      either X F p (reply == old) (takes_effect p quiet (reply_from (value_of old) t.request.op)) (ends p quiet (answer.Wait reason.Contended)) (effect_row X F p quiet (reply_from (value_of old) t.request.op)) (ends_row X F p quiet (answer.Wait reason.Contended) tt)
  row_on LoadsAnswer at row = answer_row X F p (record t { effect = None; walk = walk_next p t.walk reply }) (walk_ask p (walk_next p t.walk reply)) at
  row_on (TakesExclusive old) at row = exclusive_row X F p (record t { effect = None; latching = latch_next t.latching reply }) old (latch_next_ask t.latching reply) at
  row_on LoadsOld at row = old_row X F p (record t { effect = None; walk = walk_next p t.walk reply }) (walk_ask p (walk_next p t.walk reply)) at
  row_on (Appends its) at row = append_row X F p (record t { effect = None; append = append_next p room t.append reply }) its (append_ask p (append_next p room t.append reply)) at shifts.full
  row_on (LoadsTail waiting) at row = tail_row X F p quiet waiting reply shifts.full
  row_on (LoadsTaken waiting) at row = count_taken_row X F p quiet waiting reply shifts.full
  row_on (DropsExclusive its) at row = dropped_row X F p (record t { effect = None; latching = latch_next t.latching reply }) its (latch_next_ask t.latching reply) at row
  row_on (DropsShared its) at row = unshared_row X F p (record t { effect = None; latching = latch_next t.latching reply }) its (latch_next_ask t.latching reply) at row

  pub try_shifts : Row X F p t → Row X F p (try_next p room t reply)
  try_shifts row = row_on t.step refl row

-- as a try begins
pub try_begins_row : (X F : Type 0) (p : Places) (bits : ℕ) (request : Request) (seen : Seen) (occasion : Occasion) (spare : ℕ) → (let t = try_begun p bits request seen occasion spare in ShiftRow X F p t t.step)
try_begins_row X F p bits request seen occasion spare =
    let its : TryState = new_try bits request seen occasion spare in
    either X F p (wants_shared its) (with_latch p its TakeShared TakesShared) (walks p its) (inl refl) tt
