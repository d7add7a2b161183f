-- A try stays of its request, by what was seen, and its walk for the request's key.
use Rattle.std.proofs.Common.{◌≡◌, ℕ, refl, sym, ap, subst, Bool, true, false}
use Rattle.std.specs.Prelude.{◌==◌, ◌&&◌, not, nat_le, if◌then◌else◌, Option, Some, None, ◌||◌}
use Rattle.fkv_base.specs.declared.numbers.Addr.{Addr}
use Rattle.fkv_base.specs.declared.numbers.Version.{Version}
use Rattle.fkv_map.specs.declared.operations.Reply.{Reply}
use Rattle.fkv_map.specs.Map.{absent_word}
use Rattle.fkv_map.specs.Keys.{key_of, reply_from}
use Rattle.fkv_words.specs.declared.phase_words.PhaseSaid.{PhaseSaid}
use Rattle.fkv_words.specs.PhaseWords.{phase_said}
use Rattle.fkv_plane.specs.declared.asks.Ask.{Ask}
use Rattle.fkv_plane.specs.declared.asks.Ask.TheVariants.{Done}
use Rattle.fkv_plane.specs.declared.places.Places.{Places}
use Rattle.fkv_log.specs.declared.regions.Region.{Region}
use Rattle.fkv_log.specs.Regions.{seen_region_of}
use Rattle.fkv_latch.specs.declared.latching.LatchAnswer.{LatchAnswer}
use Rattle.fkv_latch.specs.declared.latching.LatchAnswer.TheVariants as latch
use Rattle.fkv_latch.specs.declared.latching.LatchTask.TheVariants.{TakeShared, DropShared, TakeExclusive, DropExclusive}
use Rattle.fkv_latch.specs.Latching.{latch_next_ask}
use Rattle.fkv_index.specs.Slots.{home_of}
use Rattle.fkv_ops.specs.declared.answers.Reason.TheVariants as reason
use Rattle.fkv_ops.specs.declared.answers.TryAnswer.{TryAnswer}
use Rattle.fkv_ops.specs.declared.answers.TryAnswer.TheVariants as answer
use Rattle.fkv_ops.specs.declared.appending.AppendAnswer.{AppendAnswer}
use Rattle.fkv_ops.specs.declared.appending.AppendAnswer.TheVariants as append
use Rattle.fkv_ops.specs.declared.requests.HeldRecord.{HeldRecord}
use Rattle.fkv_ops.specs.declared.requests.Occasion.{Occasion}
use Rattle.fkv_ops.specs.declared.requests.Request.{Request}
use Rattle.fkv_ops.specs.declared.requests.Seen.{Seen}
use Rattle.fkv_ops.specs.declared.trying.OldValue.{OldValue}
use Rattle.fkv_ops.specs.declared.trying.OldValue.TheVariants.{InMemory, Known}
use Rattle.fkv_ops.specs.declared.trying.Trying.{Trying}
use Rattle.fkv_ops.specs.declared.trying.Trying.TheVariants.{Ended, TakesShared, LoadsPhase, Walks, CountsTaken, LoadsSafe, SwapsValue, LoadsCurrent, ChangesValue, LoadsAnswer, TakesExclusive, LoadsOld, Appends, LoadsTail, LoadsTaken, DropsExclusive, DropsShared}
use Rattle.fkv_ops.specs.declared.walking.WalkAnswer.{WalkAnswer}
use Rattle.fkv_ops.specs.declared.walking.WalkAnswer.TheVariants as walk
use Rattle.fkv_ops.specs.Requests.{is_read, is_blind, is_chain_end}
use Rattle.fkv_ops.specs.Values.{value_of}
use Rattle.fkv_ops.specs.Walking.{walk_ask, walk_next, walk_on}
use Rattle.fkv_ops.specs.Appending.{append_ask, append_next}
use Rattle.fkv_ops.specs.Trying.{TryState, with_latch, is_wait, ended_without, ends_so as ends_now, ends_by, is_bounded, tail_loaded, taken_loaded, must_count, count_loaded, ends, takes_effect, full_at, wants_shared, walks, try_begun, is_next_marked, shared_ledto, is_still_in, phase_loaded, is_surely_own, must_shift, wants_exclusive, appends, copies_from, copies, awaits, held_used, changes, is_own_version, region_met, walked, has_walked, walk_ledto, safe_loaded, current_ledto, value_changed, told_value, answer_ledto, exclusive_ledto, old_ledto, append_ledto, exclusive_dropped, shared_dropped, latch_moved, walk_moved, trying_next, try_next, new_try}
use Rattle.law_local.specs.Sessions.Inputs.{WalksFor, IsTryFor}
use Rattle.law_local.specs.Tries.TryRows.{IsWalkFor}
use Rattle.law_local.proofs.OfSessions.WalkInputs.{walk_for, walk_on_for}
use Rattle.fkv_ops.specs.Bounds.{bounds_at, is_past_taken, is_past_tail}
use Rattle.fkv_ops.specs.Waiting.{told_of, waiting_of}
use Rattle.fkv_ops.specs.declared.answers.Waiting.{Waiting}

module _ (bits : ℕ) (request : Request) (seen : Seen) (occasion : Occasion) where
  -- what it was given
  abbrev IsGiven : TryState → Type 0
  IsGiven t = (t.request ≡ request) × (t.seen ≡ seen) × (t.occasion ≡ occasion) × (t.home ≡ home_of bits (key_of request.op))

  -- its walk
  abbrev IsWalking : TryState → Type 0
  IsWalking t = IsWalkFor request seen t.walk

  abbrev IsSo : TryState → Type 0
  IsSo t = IsTryFor bits request seen occasion t

  made : (t : TryState) (step : Trying) → t.step ≡ step → IsGiven t → WalksFor request seen t.walk step → IsSo t
  made t step at given its = record {
    its_request = given.0;
    its_seen = given.1;
    its_occasion = given.2;
    its_home = given.3;
    its_walk = subst (λ (x : Trying). WalksFor request seen t.walk x) (sym at) its;
  }

  either_so : (c : Bool) (a b : TryState) → IsSo a → IsSo b → IsSo (if c then a else b)
  either_so true a b one other = one
  either_so false a b one other = other

  -- its end
  ended_so : (p : Places) (t : TryState) (its : TryAnswer) → IsGiven t → IsSo (ended_without p t its)
  ended_so p t its given =
      let drops : TryState = with_latch p (record t { has_shared = false }) DropShared (DropsShared its) in
      either_so (t.has_shared && not (is_wait its)) drops (record t { step = Ended its }) (made drops (DropsShared its) refl given tt) (made (record t { step = Ended its }) (Ended its) refl given tt)

  ends_now_so : (p : Places) (t : TryState) (its : TryAnswer) → IsGiven t → IsSo (ends_now p t its)
  unfolding ends_now
  ends_now_so p t its given =
      let drops : TryState = with_latch p (record t { has_exclusive = false }) DropExclusive (DropsExclusive its) in
      either_so t.has_exclusive drops (ended_without p t its) (made drops (DropsExclusive its) refl given tt) (ended_so p t its given)

  -- it looks for room before it waits
  ends_by_so : (p : Places) (t : TryState) (its : TryAnswer) (waiting : Option Waiting) → IsGiven t → IsSo (ends_by p t its waiting)
  ends_by_so p t its None given = ends_now_so p t its given
  ends_by_so p t its (Some waiting) given =
      let looks : TryState = record t { step = LoadsTail waiting } in
      either_so (is_bounded t) looks (ends_now p t its) (made looks (LoadsTail waiting) refl given tt) (ends_now_so p t its given)

  ends_so : (p : Places) (t : TryState) (its : TryAnswer) → IsGiven t → IsSo (ends p t its)
  unfolding ends
  ends_so p t its given = ends_by_so p t its (waiting_of its) given

  tail_so : (p : Places) (t : TryState) (waiting : Waiting) (tail : ℕ) → IsGiven t → IsSo (tail_loaded p t waiting tail)
  unfolding tail_loaded
  tail_so p t waiting tail given =
      let looks : TryState = record t { step = LoadsTaken waiting } in
      let next : TryState = if t.walk.entry == 0 then looks else ends_now p t (told_of waiting) in
      either_so (is_past_tail (bounds_at t.occasion) tail) (ends_now p t answer.LogFull) next (ends_now_so p t answer.LogFull given)
      (either_so (t.walk.entry == 0) looks (ends_now p t (told_of waiting)) (made looks (LoadsTaken waiting) refl given tt) (ends_now_so p t (told_of waiting) given))

  taken_so : (p : Places) (t : TryState) (waiting : Waiting) (taken : ℕ) → IsGiven t → IsSo (taken_loaded p t waiting taken)
  unfolding taken_loaded
  taken_so p t waiting taken given =
      either_so (is_past_taken (bounds_at t.occasion) taken) (ends_now p t answer.IndexFull) (ends_now p t (told_of waiting)) (ends_now_so p t answer.IndexFull given) (ends_now_so p t (told_of waiting) given)

  takes_so : (p : Places) (t : TryState) (its : Reply) → IsGiven t → IsSo (takes_effect p t its)
  takes_so p t its given = ends_so p (record t { effect = Some its }) (answer.Done its) given

  -- its walk begins
  walks_so : (p : Places) (t : TryState) → IsGiven t → IsSo (walks p t)
  walks_so p t given = made (walks p t) Walks refl given (record { its_key = ap (λ (r : Request). key_of r.op) given.0; its_head = ap (λ (x : Seen). x.offsets.head) given.1 })

  -- a record is made
  appends_so : (t : TryState) (old : ℕ) → IsGiven t → IsWalking t → IsSo (appends t old)
  unfolding appends
  appends_so t old given its = made (appends t old) (Appends (reply_from (value_of old) t.request.op)) refl given its

  from_so : (t : TryState) (old : OldValue) → IsGiven t → IsWalking t → IsSo (copies_from t old)
  unfolding copies_from
  from_so t (Known old) given its = appends_so t old given its
  from_so t InMemory given its =
      let loads : TryState = record t { walk = walk_on t.walk; step = LoadsOld } in
      either_so (is_blind t.request.op) (appends t absent_word) loads (appends_so t absent_word given its) (made loads LoadsOld refl given (walk_on_for request seen t.walk its))

  copies_so : (p : Places) (t : TryState) (old : OldValue) (is_current : Bool) → IsGiven t → IsWalking t → IsSo (copies p t old is_current)
  unfolding copies
  copies_so p t old is_current given its =
      let takes : TryState = with_latch p t TakeExclusive (TakesExclusive old) in
      either_so (wants_exclusive t is_current) takes (copies_from t old) (made takes (TakesExclusive old) refl given its) (from_so t old given its)

  held_so : (p : Places) (t : TryState) (addr : Addr) (held : Option HeldRecord) → IsGiven t → IsWalking t → IsSo (held_used p t addr held)
  unfolding held_used
  held_so p t addr None given its = ends_so p t _ given
  held_so p t addr (Some held) given its =
      let below : TryState = if is_chain_end t.request.floor held.previous then copies p t (Known absent_word) false else awaits p t held.previous in
      let along : TryState = if held.key.0 == (key_of t.request.op).0 then copies p t (Known held.value) false else below in
      either_so (held.entry == t.walk.entry) along (awaits p t addr)
      (either_so (held.key.0 == (key_of t.request.op).0) (copies p t (Known held.value) false) below (copies_so p t (Known held.value) false given its)
      (either_so (is_chain_end t.request.floor held.previous) (copies p t (Known absent_word) false) (awaits p t held.previous) (copies_so p t (Known absent_word) false given its) (ends_so p t _ given)))
      (ends_so p t _ given)

  -- a record is changed
  changes_so : (t : TryState) (addr : Addr) → IsGiven t → IsWalking t → IsSo (changes t addr)
  changes_so t addr given its =
      let swaps : TryState = record t { step = SwapsValue addr } in
      let loads : TryState = record t { walk = walk_on t.walk; step = LoadsCurrent addr } in
      either_so (is_blind t.request.op) swaps loads (made swaps (SwapsValue addr) refl given its) (made loads (LoadsCurrent addr) refl given (walk_on_for request seen t.walk its))

  region_so : (p : Places) (t : TryState) (addr : Addr) (version : Version) (its : Option Region) → IsGiven t → IsWalking t → IsSo (region_met p t addr version its)
  region_so p t addr version None given its = made (record t { step = LoadsSafe addr version }) (LoadsSafe addr version) refl given its
  region_so p t addr version (Some region) given its =
      either_so (is_own_version t version) (changes t addr) (copies p t InMemory false) (changes_so t addr given its) (copies_so p t InMemory false given its)

  walked_so : (p : Places) (t : TryState) (told : WalkAnswer) → IsGiven t → IsWalking t → IsSo (walked p t told)
  walked_so p t (walk.Found addr version) given its =
      let loads : TryState = record t { walk = walk_on t.walk; step = LoadsAnswer } in
      either_so (is_read t.request.op) loads (region_met p t addr version (seen_region_of addr.0 t.seen.offsets)) (made loads LoadsAnswer refl given (walk_on_for request seen t.walk its))
      (region_so p t addr version (seen_region_of addr.0 t.seen.offsets) given its)
  walked_so p t walk.Nowhere given its =
      let counts : TryState = record t { step = CountsTaken } in
      let update : TryState = if must_count p t then counts else copies p t (Known absent_word) false in
      either_so (is_read t.request.op) (ends p t answer.Absent) update (ends_so p t answer.Absent given)
      (either_so (must_count p t) counts (copies p t (Known absent_word) false) (made counts CountsTaken refl given its) (copies_so p t (Known absent_word) false given its))
  walked_so p t (walk.OnDisk addr) given its =
      let reads : TryState = if is_chain_end t.request.floor addr then ends p t answer.Absent else awaits p t addr in
      let update : TryState = if is_blind t.request.op || is_chain_end t.request.floor addr then copies p t (Known absent_word) false else held_used p t addr t.request.held in
      either_so (is_read t.request.op) reads update (either_so (is_chain_end t.request.floor addr) (ends p t answer.Absent) (awaits p t addr) (ends_so p t answer.Absent given) (ends_so p t _ given))
      (either_so (is_blind t.request.op || is_chain_end t.request.floor addr) (copies p t (Known absent_word) false) (held_used p t addr t.request.held) (copies_so p t (Known absent_word) false given its) (held_so p t addr t.request.held given its))
  walked_so p t (walk.Value value) given its = ends_so p t (answer.Wait reason.Contended) given
  walked_so p t walk.Full given its = ends_so p t (full_at t.occasion answer.IndexFull) given
  walked_so p t walk.Kept given its = ends_so p t (full_at t.occasion answer.IndexFull) given
  walked_so p t walk.Contended given its = ends_so p t (answer.Wait reason.Contended) given

  count_so : (p : Places) (t : TryState) (taken : ℕ) → IsGiven t → IsWalking t → IsSo (count_loaded p t taken)
  unfolding count_loaded
  count_so p t taken given its =
      either_so (is_past_taken (bounds_at t.occasion) taken) (ends p t answer.IndexFull) (copies p t (Known absent_word) false) (ends_so p t answer.IndexFull given) (copies_so p t (Known absent_word) false given its)

  shared_so : (p : Places) (t : TryState) (ask : Ask LatchAnswer) → t.step ≡ TakesShared → IsGiven t → IsSo (shared_ledto p t ask)
  unfolding shared_ledto
  shared_so p t (Done latch.Taken) at given =
      let loads : TryState = record t { has_shared = true; step = LoadsPhase } in
      either_so (is_next_marked t.request.version) loads (walks p (record t { has_shared = true })) (made loads LoadsPhase refl given tt) (walks_so p (record t { has_shared = true }) given)
  shared_so p t (Done told) at given = ends_so p t answer.Shift given
  shared_so p t ask at given = made t TakesShared at given tt

  phase_so : (p : Places) (t : TryState) (said : PhaseSaid) → IsGiven t → IsSo (phase_loaded p t said)
  unfolding phase_loaded
  phase_so p t said given = either_so (is_still_in said t.request.version) (walks p t) (ends p t answer.Shift) (walks_so p t given) (ends_so p t answer.Shift given)

  walk_so : (p : Places) (t : TryState) (ask : Ask WalkAnswer) → t.step ≡ Walks → IsGiven t → IsWalking t → IsSo (walk_ledto p t ask)
  unfolding walk_ledto
  walk_so p t (Done told) at given its =
      let after : TryState = record t { spare = t.walk.spare } in
      either_so (has_walked told && must_shift after) (ends p after answer.Shift) (walked p after told) (ends_so p after answer.Shift given) (walked_so p after told given its)
  walk_so p t ask at given its = made t Walks at given its

  safe_so : (p : Places) (t : TryState) (addr : Addr) (version : Version) (safe : ℕ) → IsGiven t → IsWalking t → IsSo (safe_loaded p t addr version safe)
  safe_so p t addr version safe given its =
      either_so (nat_le safe addr.0) (ends p t (answer.Wait reason.Fuzzy)) (copies p t InMemory (is_surely_own t version)) (ends_so p t (answer.Wait reason.Fuzzy) given) (copies_so p t InMemory (is_surely_own t version) given its)

  current_so : (p : Places) (t : TryState) (addr : Addr) (ask : Ask WalkAnswer) → t.step ≡ LoadsCurrent addr → IsGiven t → IsWalking t → IsSo (current_ledto p t addr ask)
  unfolding current_ledto
  current_so p t addr (Done (walk.Value old)) at given its = made (record t { step = ChangesValue addr old }) (ChangesValue addr old) refl given its
  current_so p t addr (Done told) at given its = ends_so p t (answer.Wait reason.Contended) given
  current_so p t addr ask at given its = made t (LoadsCurrent addr) at given its

  changed_so : (p : Places) (t : TryState) (old found : ℕ) → IsGiven t → IsSo (value_changed p t old found)
  changed_so p t old found given =
      either_so (found == old) (takes_effect p t (reply_from (value_of old) t.request.op)) (ends p t (answer.Wait reason.Contended)) (takes_so p t _ given) (ends_so p t (answer.Wait reason.Contended) given)

  answer_so : (p : Places) (t : TryState) (ask : Ask WalkAnswer) → t.step ≡ LoadsAnswer → IsGiven t → IsWalking t → IsSo (answer_ledto p t ask)
  unfolding answer_ledto
  answer_so p t (Done (walk.Value value)) at given its = ends_so p t (told_value (value_of value)) given
  answer_so p t (Done told) at given its = ends_so p t (answer.Wait reason.Contended) given
  answer_so p t ask at given its = made t LoadsAnswer at given its

  exclusive_so : (p : Places) (t : TryState) (old : OldValue) (ask : Ask LatchAnswer) → t.step ≡ TakesExclusive old → IsGiven t → IsWalking t → IsSo (exclusive_ledto p t old ask)
  unfolding exclusive_ledto
  exclusive_so p t old (Done latch.Taken) at given its = from_so (record t { has_exclusive = true }) old given its
  exclusive_so p t old (Done told) at given its = ends_so p t (answer.Wait reason.Latch) given
  exclusive_so p t old ask at given its = made t (TakesExclusive old) at given its

  old_so : (p : Places) (t : TryState) (ask : Ask WalkAnswer) → t.step ≡ LoadsOld → IsGiven t → IsWalking t → IsSo (old_ledto p t ask)
  unfolding old_ledto
  old_so p t (Done (walk.Value value)) at given its = appends_so t value given its
  old_so p t (Done told) at given its = ends_so p t (answer.Wait reason.Contended) given
  old_so p t ask at given its = made t LoadsOld at given its

  append_so : (p : Places) (t : TryState) (its : Reply) (ask : Ask AppendAnswer) → t.step ≡ Appends its → IsGiven t → IsWalking t → IsSo (append_ledto p t its ask)
  unfolding append_ledto
  append_so p t its (Done append.Published) at given walking = takes_so p t its given
  append_so p t its (Done append.Full) at given walking = ends_so p t (full_at t.occasion answer.LogFull) given
  append_so p t its (Done append.NoRoom) at given walking = ends_so p t (answer.Wait reason.NoRoom) given
  append_so p t its (Done append.Contended) at given walking = ends_so p t (answer.Wait reason.Contended) given
  append_so p t its ask at given walking = made t (Appends its) at given walking

  exclusive_dropped_so : (p : Places) (t : TryState) (its : TryAnswer) (ask : Ask LatchAnswer) → t.step ≡ DropsExclusive its → IsGiven t → IsSo (exclusive_dropped p t its ask)
  unfolding exclusive_dropped
  exclusive_dropped_so p t its (Done told) at given = ended_so p t its given
  exclusive_dropped_so p t its ask at given = made t (DropsExclusive its) at given tt

  shared_dropped_so : (t : TryState) (its : TryAnswer) (ask : Ask LatchAnswer) → t.step ≡ DropsShared its → IsGiven t → IsSo (shared_dropped t its ask)
  unfolding shared_dropped
  shared_dropped_so t its (Done told) at given = made (record t { step = Ended its }) (Ended its) refl given tt
  shared_dropped_so t its ask at given = made t (DropsShared its) at given tt

  step_so : (p : Places) (room : ℕ) (t : TryState) (step : Trying) (reply : ℕ) → t.step ≡ step → IsGiven t → WalksFor request seen t.walk step → IsSo (trying_next p room t step reply)
  unfolding trying_next
  step_so p room t (Ended its) reply at given walking = made t (Ended its) at given tt
  step_so p room t TakesShared reply at given walking = shared_so p (latch_moved t reply) (latch_next_ask t.latching reply) at given
  step_so p room t LoadsPhase reply at given walking = phase_so p t (phase_said reply) given
  step_so p room t Walks reply at given walking = walk_so p (walk_moved p t reply) (walk_ask p (walk_next p t.walk reply)) at given (walk_for p request seen t.walk reply walking)
  step_so p room t CountsTaken reply at given walking = count_so p t reply given walking
  step_so p room t (LoadsSafe addr version) reply at given walking = safe_so p t addr version reply given walking
  step_so p room t (SwapsValue addr) reply at given walking = takes_so p t _ given
  step_so p room t (LoadsCurrent addr) reply at given walking = current_so p (walk_moved p t reply) addr (walk_ask p (walk_next p t.walk reply)) at given (walk_for p request seen t.walk reply walking)
  step_so p room t (ChangesValue addr old) reply at given walking = changed_so p t old reply given
  step_so p room t LoadsAnswer reply at given walking = answer_so p (walk_moved p t reply) (walk_ask p (walk_next p t.walk reply)) at given (walk_for p request seen t.walk reply walking)
  step_so p room t (TakesExclusive old) reply at given walking = exclusive_so p (latch_moved t reply) old (latch_next_ask t.latching reply) at given walking
  step_so p room t LoadsOld reply at given walking = old_so p (walk_moved p t reply) (walk_ask p (walk_next p t.walk reply)) at given (walk_for p request seen t.walk reply walking)
  step_so p room t (Appends its) reply at given walking = append_so p (record t { append = append_next p room t.append reply }) its (append_ask p (append_next p room t.append reply)) at given walking
  step_so p room t (LoadsTail waiting) reply at given walking = tail_so p t waiting reply given
  step_so p room t (LoadsTaken waiting) reply at given walking = taken_so p t waiting reply given
  step_so p room t (DropsExclusive its) reply at given walking = exclusive_dropped_so p (latch_moved t reply) its (latch_next_ask t.latching reply) at given
  step_so p room t (DropsShared its) reply at given walking = shared_dropped_so (latch_moved t reply) its (latch_next_ask t.latching reply) at given

  -- each reply to it
  pub try_so : (p : Places) (room : ℕ) (t : TryState) (reply : ℕ) → IsTryFor bits request seen occasion t → IsTryFor bits request seen occasion (try_next p room t reply)
  try_so p room t reply its = step_so p room (record t { effect = None }) t.step reply refl (its.its_request, its.its_seen, its.its_occasion, its.its_home) its.its_walk

  -- and how it begins
  pub begun_so : (p : Places) (spare : ℕ) → IsTryFor bits request seen occasion (try_begun p bits request seen occasion spare)
  begun_so p spare =
      let its : TryState = new_try bits request seen occasion spare in
      let takes : TryState = with_latch p its TakeShared TakesShared in
      either_so (wants_shared its) takes (walks p its) (made takes TakesShared refl (refl, refl, refl, refl) tt) (walks_so p its (refl, refl, refl, refl))
