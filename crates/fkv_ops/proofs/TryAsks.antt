-- A try asks just where it has asks left, and each reply leaves fewer.
use Rattle.std.proofs.Common.{◌≡◌, ℕ, ◌+◌, ◌*◌, ◌<◌, ◌≤◌, refl, sym, arith, Bool, true, false}
use Rattle.std.specs.Prelude.{◌==◌, ◌&&◌, ◌||◌, not, nat_le, if◌then◌else◌, Option, Some, None}
use Rattle.fkv_base.specs.declared.numbers.Addr.{Addr}
use Rattle.fkv_base.specs.declared.numbers.Version.{Version}
use Rattle.fkv_map.specs.declared.operations.Reply.{Reply}
use Rattle.fkv_map.specs.Map.{absent_word}
use Rattle.fkv_map.specs.Keys.{key_of, reply_from}
use Rattle.fkv_words.specs.declared.phase_words.PhaseSaid.{PhaseSaid}
use Rattle.fkv_words.specs.PhaseWords.{phase_said}
use Rattle.fkv_plane.specs.declared.asks.Ask.{Ask}
use Rattle.fkv_plane.specs.declared.asks.Ask.TheVariants.{Done}
use Rattle.fkv_plane.specs.declared.places.Places.{Places}
use Rattle.fkv_plane.specs.Passing.{is_done}
use Rattle.fkv_log.specs.declared.regions.Region.{Region}
use Rattle.fkv_log.specs.Regions.{seen_region_of}
use Rattle.fkv_latch.specs.declared.latching.LatchAnswer.{LatchAnswer}
use Rattle.fkv_latch.specs.declared.latching.LatchAnswer.TheVariants as latch
use Rattle.fkv_latch.specs.declared.latching.LatchTask.TheVariants.{TakeShared, DropShared, TakeExclusive, DropExclusive}
use Rattle.fkv_latch.specs.Latching.{latch_ask, latch_next, latch_next_ask, asks_left}
use Rattle.fkv_latch.proofs.Shown.{latch_ask_left, latch_fewer}
use Rattle.fkv_ops.specs.declared.answers.Reason.TheVariants as reason
use Rattle.fkv_ops.specs.declared.answers.TryAnswer.{TryAnswer}
use Rattle.fkv_ops.specs.declared.answers.TryAnswer.TheVariants as answer
use Rattle.fkv_ops.specs.declared.appending.AppendAnswer.{AppendAnswer}
use Rattle.fkv_ops.specs.declared.appending.AppendAnswer.TheVariants as append
use Rattle.fkv_ops.specs.declared.requests.HeldRecord.{HeldRecord}
use Rattle.fkv_ops.specs.declared.requests.Occasion.{Occasion}
use Rattle.fkv_ops.specs.declared.requests.Request.{Request}
use Rattle.fkv_ops.specs.declared.requests.Seen.{Seen}
use Rattle.fkv_ops.specs.declared.trying.OldValue.{OldValue}
use Rattle.fkv_ops.specs.declared.trying.OldValue.TheVariants.{InMemory, Known}
use Rattle.fkv_ops.specs.declared.trying.Trying.{Trying}
use Rattle.fkv_ops.specs.declared.trying.Trying.TheVariants.{Ended, TakesShared, LoadsPhase, Walks, CountsTaken, LoadsSafe, SwapsValue, LoadsCurrent, ChangesValue, LoadsAnswer, TakesExclusive, LoadsOld, Appends, LoadsTail, LoadsTaken, DropsExclusive, DropsShared}
use Rattle.fkv_ops.specs.declared.walking.WalkAnswer.{WalkAnswer}
use Rattle.fkv_ops.specs.declared.walking.WalkAnswer.TheVariants as walk
use Rattle.fkv_ops.specs.declared.answers.Waiting.{Waiting}
use Rattle.fkv_ops.specs.declared.answers.Waiting.TheVariants.{For, ForRecord}
use Rattle.fkv_ops.specs.Bounds.{bounds_at, tail_bound, is_past_taken, is_past_tail}
use Rattle.fkv_ops.specs.Waiting.{told_of}
use Rattle.fkv_ops.specs.Values.{value_of}
use Rattle.fkv_ops.specs.Requests.{purpose_at, is_read, is_blind, is_chain_end}
use Rattle.fkv_ops.specs.Walking.{walk_ask, walk_next, walk_on}
use Rattle.fkv_ops.specs.Appending.{append_ask, append_next}
use Rattle.fkv_ops.specs.Trying.{TryState, new_try, trying_ask, try_ask, with_latch, is_wait, ended_without, is_bounded, ends, ends_by, ends_so, tail_loaded, taken_loaded, takes_effect, full_at, walks, wants_shared, try_begun, is_next_marked, latch_shared, shared_ledto, is_still_in, phase_loaded, must_shift, wants_exclusive, words_of, slot_of, appends, copies_from, copies, awaits, held_used, must_count, met_nowhere, count_loaded, met_disk, changes, is_own_version, region_met, met_record, walked, has_walked, walk_ledto, is_surely_own, safe_loaded, current_ledto, value_changed, told_value, answer_ledto, exclusive_ledto, old_ledto, append_ledto, exclusive_dropped, shared_dropped, latch_moved, walk_moved, trying_next, try_next}
use Rattle.fkv_plane.specs.AsksLeft.{AsksWhereLeft, sum_left}
use Rattle.fkv_ops.specs.AsksLeft.{walk_asks_left, most_walk_asks, append_asks_left, most_end_asks, most_append_asks, most_copy_asks, most_asks_behind_walk, most_asks_behind_share, trying_asks_left, try_asks_left}
use Rattle.fkv_plane.proofs.Shown.{none, done_left, none_left, some_inside, passed_left, passed_alone, sum_most, inside_fewer, behind_fewer}
use Rattle.fkv_ops.proofs.WalkAsks.{walk_left, walk_begun_left, walk_fewer, walk_on_left}
use Rattle.fkv_ops.proofs.AppendAsks.{append_left, append_begun_left, append_fewer}

pub trying_left : (p : Places) (t : TryState) (step : Trying) → AsksWhereLeft (trying_asks_left p t step) (trying_ask p t step)
unfolding trying_ask trying_asks_left
trying_left p t (Ended its) = done_left its
trying_left p t TakesShared = passed_left (asks_left t.latching) (most_asks_behind_share p) (latch_ask t.latching) answer.Shift (latch_ask_left t.latching)
trying_left p t LoadsPhase = (λ e. omega arith, λ some. refl)
trying_left p t Walks = passed_left (walk_asks_left p t.walk) most_asks_behind_walk (walk_ask p t.walk) answer.Shift (walk_left p t.walk)
trying_left p t CountsTaken = (λ e. omega arith, λ some. refl)
trying_left p t (LoadsSafe addr version) = (λ e. omega arith, λ some. refl)
trying_left p t (SwapsValue addr) = (λ e. omega arith, λ some. refl)
trying_left p t (LoadsCurrent addr) = passed_left (walk_asks_left p t.walk) (1 + most_end_asks) (walk_ask p t.walk) answer.Shift (walk_left p t.walk)
trying_left p t (ChangesValue addr old) = (λ e. omega arith, λ some. refl)
trying_left p t LoadsAnswer = passed_left (walk_asks_left p t.walk) most_end_asks (walk_ask p t.walk) answer.Shift (walk_left p t.walk)
trying_left p t (TakesExclusive old) = passed_left (asks_left t.latching) (walk_asks_left p (walk_on t.walk) + most_append_asks) (latch_ask t.latching) answer.Shift (latch_ask_left t.latching)
trying_left p t LoadsOld = passed_left (walk_asks_left p t.walk) most_append_asks (walk_ask p t.walk) answer.Shift (walk_left p t.walk)
trying_left p t (Appends its) = passed_left (append_asks_left t.append) most_end_asks (append_ask p t.append) answer.Shift (append_left p t.append)
trying_left p t (LoadsTail waiting) = (λ e. omega arith, λ some. refl)
trying_left p t (LoadsTaken waiting) = (λ e. omega arith, λ some. refl)
trying_left p t (DropsExclusive its) = passed_left (asks_left t.latching) 1 (latch_ask t.latching) its (latch_ask_left t.latching)
trying_left p t (DropsShared its) = passed_alone (asks_left t.latching) (latch_ask t.latching) its (latch_ask_left t.latching)

-- it asks just where it has asks left
pub try_left : (p : Places) (t : TryState) → AsksWhereLeft (try_asks_left p t) (try_ask p t)
try_left p t = trying_left p t t.step

walks_left : (p : Places) (t : TryState) → try_asks_left p (walks p t) ≤ most_walk_asks p + most_asks_behind_walk
unfolding trying_asks_left
walks_left p t =
    let begun = walk_begun_left p t.home (key_of t.request.op) (purpose_at t.occasion t.request.op) t.seen.offsets.head t.spare in
    let both = sum_most (walk_asks_left p (walks p t).walk) most_asks_behind_walk in
    omega (arith, begun, both)

pub try_begun_left : (p : Places) (bits : ℕ) (request : Request) (seen : Seen) (occasion : Occasion) (spare : ℕ) → try_asks_left p (try_begun p bits request seen occasion spare) ≤ 8 * (p.overflow + 1) + 2 * p.ring + 23
unfolding trying_asks_left sum_left asks_left
try_begun_left p bits request seen occasion spare = tested (wants_shared its)
  where
    its : TryState
    its = new_try bits request seen occasion spare

    tested : (b : Bool) → try_asks_left p (if b then with_latch p its TakeShared TakesShared else walks p its) ≤ 8 * (p.overflow + 1) + 2 * p.ring + 23
    tested true = omega arith
    tested false = let begun = walks_left p its in omega (arith, begun)

ended_without_left : (p : Places) (t : TryState) (its : TryAnswer) → try_asks_left p (ended_without p t its) ≤ 1
unfolding trying_asks_left asks_left
ended_without_left p t its = tested (t.has_shared && not (is_wait its))
  where
    tested : (b : Bool) → try_asks_left p (if b then with_latch p (record t { has_shared = false }) DropShared (DropsShared its) else record t { step = Ended its }) ≤ 1
    tested true = omega arith
    tested false = omega arith

ends_so_left : (p : Places) (t : TryState) (its : TryAnswer) → try_asks_left p (ends_so p t its) ≤ 2
unfolding ends_so trying_asks_left sum_left asks_left
ends_so_left p t its = tested t.has_exclusive
  where
    tested : (b : Bool) → try_asks_left p (if b then with_latch p (record t { has_exclusive = false }) DropExclusive (DropsExclusive its) else ended_without p t its) ≤ 2
    tested true = omega arith
    tested false = let few = ended_without_left p t its in omega (arith, few)

waits_left : (p : Places) (t : TryState) (its : TryAnswer) (waiting : Waiting) → try_asks_left p (ends_by p t its (Some waiting)) ≤ 4
unfolding trying_asks_left
waits_left p t its waiting = tested (is_bounded t)
  where
    tested : (b : Bool) → try_asks_left p (if b then record t { step = LoadsTail waiting } else ends_so p t its) ≤ 4
    tested true = omega arith
    tested false = let few = ends_so_left p t its in omega (arith, few)

ends_left : (p : Places) (t : TryState) (its : TryAnswer) → try_asks_left p (ends p t its) ≤ 4
unfolding ends
ends_left p t (answer.Wait it) = waits_left p t (answer.Wait it) (For it)
ends_left p t (answer.AwaitsDisk it) = waits_left p t (answer.AwaitsDisk it) (ForRecord it)
ends_left p t its = let few = ends_so_left p t its in omega (arith, few)

tail_loaded_left : (p : Places) (t : TryState) (waiting : Waiting) (tail : ℕ) → try_asks_left p (tail_loaded p t waiting tail) ≤ 3
unfolding tail_loaded trying_asks_left
tail_loaded_left p t waiting tail = tested (is_past_tail (bounds_at t.occasion) tail) (t.walk.entry == 0)
  where
    tested : (past none : Bool) → try_asks_left p (if past then ends_so p t answer.LogFull else if none then record t { step = LoadsTaken waiting } else ends_so p t (told_of waiting)) ≤ 3
    tested true none = let few = ends_so_left p t answer.LogFull in omega (arith, few)
    tested false true = omega arith
    tested false false = let few = ends_so_left p t (told_of waiting) in omega (arith, few)

taken_loaded_left : (p : Places) (t : TryState) (waiting : Waiting) (taken : ℕ) → try_asks_left p (taken_loaded p t waiting taken) ≤ 2
unfolding taken_loaded
taken_loaded_left p t waiting taken = tested (is_past_taken (bounds_at t.occasion) taken)
  where
    tested : (past : Bool) → try_asks_left p (if past then ends_so p t answer.IndexFull else ends_so p t (told_of waiting)) ≤ 2
    tested true = ends_so_left p t answer.IndexFull
    tested false = ends_so_left p t (told_of waiting)

appends_left : (p : Places) (t : TryState) (old : ℕ) → try_asks_left p (appends t old) ≤ most_append_asks
unfolding appends trying_asks_left
appends_left p t old =
    let begun = append_begun_left (slot_of t) (words_of t.request t.walk.entry (value_of old)) (tail_bound (bounds_at t.occasion)) in
    let both = sum_most (append_asks_left (appends t old).append) most_end_asks in
    omega (arith, begun, both)

copies_from_left : (p : Places) (t : TryState) (old : OldValue) → try_asks_left p (copies_from t old) ≤ walk_asks_left p (walk_on t.walk) + most_append_asks
unfolding copies_from trying_asks_left
copies_from_left p t (Known old) = let few = appends_left p t old in omega (arith, few)
copies_from_left p t InMemory = tested (is_blind t.request.op)
  where
    tested : (b : Bool) → try_asks_left p (if b then appends t absent_word else record t { walk = walk_on t.walk; step = LoadsOld }) ≤ walk_asks_left p (walk_on t.walk) + most_append_asks
    tested true = let few = appends_left p t absent_word in omega (arith, few)
    tested false = sum_most (walk_asks_left p (walk_on t.walk)) most_append_asks

copies_left : (p : Places) (t : TryState) (old : OldValue) (is_current : Bool) → try_asks_left p (copies p t old is_current) ≤ most_copy_asks p t
unfolding copies trying_asks_left sum_left asks_left
copies_left p t old is_current = tested (wants_exclusive t is_current)
  where
    tested : (b : Bool) → try_asks_left p (if b then with_latch p t TakeExclusive (TakesExclusive old) else copies_from t old) ≤ most_copy_asks p t
    tested true = omega arith
    tested false = let few = copies_from_left p t old in omega (arith, few)

takes_effect_left : (p : Places) (t : TryState) (told : Reply) → try_asks_left p (takes_effect p t told) ≤ 4
takes_effect_left p t told = ends_left p (record t { effect = Some told }) (answer.Done told)

held_used_left : (p : Places) (t : TryState) (addr : Addr) (held : Option HeldRecord) → try_asks_left p (held_used p t addr held) ≤ most_copy_asks p t
unfolding held_used
held_used_left p t addr None = let few = ends_left p t (answer.AwaitsDisk (record { entry = t.walk.entry; addr = addr })) in omega (arith, few)
held_used_left p t addr (Some held) = tested (held.entry == t.walk.entry) (held.key.0 == (key_of t.request.op).0) (is_chain_end t.request.floor held.previous)
  where
    tested : (same its last : Bool)
        → try_asks_left p (if same then (if its then copies p t (Known held.value) false else if last then copies p t (Known absent_word) false else awaits p t held.previous) else awaits p t addr) ≤ most_copy_asks p t
    tested false its last = let few = ends_left p t (answer.AwaitsDisk (record { entry = t.walk.entry; addr = addr })) in omega (arith, few)
    tested true true last = copies_left p t (Known held.value) false
    tested true false true = copies_left p t (Known absent_word) false
    tested true false false = let few = ends_left p t (answer.AwaitsDisk (record { entry = t.walk.entry; addr = held.previous })) in omega (arith, few)

met_nowhere_left : (p : Places) (t : TryState) → try_asks_left p (met_nowhere p t) ≤ 1 + most_copy_asks p t
unfolding trying_asks_left
met_nowhere_left p t = tested (is_read t.request.op) (must_count p t)
  where
    tested : (read count : Bool) → try_asks_left p (if read then ends p t answer.Absent else if count then record t { step = CountsTaken } else copies p t (Known absent_word) false) ≤ 1 + most_copy_asks p t
    tested true count = let few = ends_left p t answer.Absent in omega (arith, few)
    tested false true = omega arith
    tested false false = let few = copies_left p t (Known absent_word) false in omega (arith, few)

count_loaded_left : (p : Places) (t : TryState) (taken : ℕ) → try_asks_left p (count_loaded p t taken) ≤ most_copy_asks p t
unfolding count_loaded
count_loaded_left p t taken = tested (is_past_taken (bounds_at t.occasion) taken)
  where
    tested : (b : Bool) → try_asks_left p (if b then ends p t answer.IndexFull else copies p t (Known absent_word) false) ≤ most_copy_asks p t
    tested true = let few = ends_left p t answer.IndexFull in omega (arith, few)
    tested false = copies_left p t (Known absent_word) false

met_disk_left : (p : Places) (t : TryState) (addr : Addr) → try_asks_left p (met_disk p t addr) ≤ most_copy_asks p t
met_disk_left p t addr = tested (is_read t.request.op) (is_chain_end t.request.floor addr) (is_blind t.request.op || is_chain_end t.request.floor addr)
  where
    tested : (read last none : Bool)
        → try_asks_left p (if read then (if last then ends p t answer.Absent else awaits p t addr) else if none then copies p t (Known absent_word) false else held_used p t addr t.request.held) ≤ most_copy_asks p t
    tested true true none = let few = ends_left p t answer.Absent in omega (arith, few)
    tested true false none = let few = ends_left p t (answer.AwaitsDisk (record { entry = t.walk.entry; addr = addr })) in omega (arith, few)
    tested false last true = copies_left p t (Known absent_word) false
    tested false last false = held_used_left p t addr t.request.held

changes_left : (p : Places) (t : TryState) (addr : Addr) → try_asks_left p (changes t addr) ≤ 1 + most_copy_asks p t
unfolding trying_asks_left
changes_left p t addr = tested (is_blind t.request.op)
  where
    tested : (b : Bool) → try_asks_left p (if b then record t { step = SwapsValue addr } else record t { walk = walk_on t.walk; step = LoadsCurrent addr }) ≤ 1 + most_copy_asks p t
    tested true = omega arith
    tested false = let both = sum_most (walk_asks_left p (walk_on t.walk)) (1 + most_end_asks) in omega (arith, both)

region_met_left : (p : Places) (t : TryState) (addr : Addr) (version : Version) (region : Option Region) → try_asks_left p (region_met p t addr version region) ≤ 1 + most_copy_asks p t
unfolding trying_asks_left
region_met_left p t addr version None = omega arith
region_met_left p t addr version (Some its) = tested (is_own_version t version)
  where
    tested : (b : Bool) → try_asks_left p (if b then changes t addr else copies p t InMemory false) ≤ 1 + most_copy_asks p t
    tested true = changes_left p t addr
    tested false = let few = copies_left p t InMemory false in omega (arith, few)

met_record_left : (p : Places) (t : TryState) (addr : Addr) (version : Version) → try_asks_left p (met_record p t addr version) ≤ 1 + most_copy_asks p t
unfolding trying_asks_left
met_record_left p t addr version = tested (is_read t.request.op)
  where
    tested : (b : Bool) → try_asks_left p (if b then record t { walk = walk_on t.walk; step = LoadsAnswer } else region_met p t addr version (seen_region_of addr.0 t.seen.offsets)) ≤ 1 + most_copy_asks p t
    tested true = let both = sum_most (walk_asks_left p (walk_on t.walk)) most_end_asks in omega (arith, both)
    tested false = region_met_left p t addr version (seen_region_of addr.0 t.seen.offsets)

walked_left : (p : Places) (t : TryState) (its : WalkAnswer) → try_asks_left p (walked p t its) ≤ 1 + most_copy_asks p t
walked_left p t (walk.Found addr version) = met_record_left p t addr version
walked_left p t walk.Nowhere = met_nowhere_left p t
walked_left p t (walk.OnDisk addr) = let few = met_disk_left p t addr in omega (arith, few)
walked_left p t (walk.Value value) = let few = ends_left p t (answer.Wait reason.Contended) in omega (arith, few)
walked_left p t walk.Full = let few = ends_left p t (full_at t.occasion answer.IndexFull) in omega (arith, few)
walked_left p t walk.Kept = let few = ends_left p t (full_at t.occasion answer.IndexFull) in omega (arith, few)
walked_left p t walk.Contended = let few = ends_left p t (answer.Wait reason.Contended) in omega (arith, few)

latch_shared_left : (p : Places) (t : TryState) → try_asks_left p (latch_shared p t) ≤ most_asks_behind_share p
unfolding trying_asks_left
latch_shared_left p t = tested (is_next_marked t.request.version)
  where
    tested : (b : Bool) → try_asks_left p (if b then record t { step = LoadsPhase } else walks p t) ≤ most_asks_behind_share p
    tested true = omega arith
    tested false = let few = walks_left p t in omega (arith, few)

phase_loaded_left : (p : Places) (t : TryState) (said : PhaseSaid) → try_asks_left p (phase_loaded p t said) ≤ most_walk_asks p + most_asks_behind_walk
unfolding phase_loaded
phase_loaded_left p t said = tested (is_still_in said t.request.version)
  where
    tested : (b : Bool) → try_asks_left p (if b then walks p t else ends p t answer.Shift) ≤ most_walk_asks p + most_asks_behind_walk
    tested true = walks_left p t
    tested false = let few = ends_left p t answer.Shift in omega (arith, few)

-- where the replies lead
shared_led_fewer : (p : Places) (t : TryState) (old : ℕ) (ask : Ask LatchAnswer) → t.step ≡ TakesShared → asks_left t.latching < old
    → try_asks_left p (shared_ledto p t ask) < sum_left old (most_asks_behind_share p)
unfolding shared_ledto trying_asks_left
shared_led_fewer p t old (Done latch.Taken) at fewer = behind_fewer _ old (most_asks_behind_share p) (omega (arith, fewer)) (latch_shared_left p (record t { has_shared = true }))
shared_led_fewer p t old (Done its) at fewer = behind_fewer _ old (most_asks_behind_share p) (omega (arith, fewer)) (let few = ends_left p t answer.Shift in omega (arith, few))
shared_led_fewer p t old ask at fewer = rw at (inside_fewer (asks_left t.latching) old (most_asks_behind_share p) fewer)

walk_led_fewer : (p : Places) (t : TryState) (old : ℕ) (ask : Ask WalkAnswer) → t.step ≡ Walks → (is_done ask ≡ true → walk_asks_left p (walk_on t.walk) ≤ 2) → walk_asks_left p t.walk < old
    → try_asks_left p (walk_ledto p t ask) < sum_left old most_asks_behind_walk
unfolding walk_ledto trying_asks_left
walk_led_fewer p t old (Done its) at value fewer = behind_fewer _ old most_asks_behind_walk (omega (arith, fewer)) (tested (has_walked its && must_shift after))
  where
    after : TryState
    after = record t { spare = t.walk.spare }

    tested : (b : Bool) → try_asks_left p (if b then ends p after answer.Shift else walked p after its) ≤ most_asks_behind_walk
    tested true = let few = ends_left p after answer.Shift in omega (arith, few)
    tested false = let few = walked_left p after its in let loads = value refl in omega (arith, few, loads)
walk_led_fewer p t old ask at value fewer = rw at (inside_fewer (walk_asks_left p t.walk) old most_asks_behind_walk fewer)

safe_loaded_left : (p : Places) (t : TryState) (addr : Addr) (version : Version) (safe : ℕ) → try_asks_left p (safe_loaded p t addr version safe) ≤ most_copy_asks p t
safe_loaded_left p t addr version safe = tested (nat_le safe addr.0)
  where
    tested : (b : Bool) → try_asks_left p (if b then ends p t (answer.Wait reason.Fuzzy) else copies p t InMemory (is_surely_own t version)) ≤ most_copy_asks p t
    tested true = let few = ends_left p t (answer.Wait reason.Fuzzy) in omega (arith, few)
    tested false = copies_left p t InMemory (is_surely_own t version)

current_led_fewer : (p : Places) (t : TryState) (addr : Addr) (old : ℕ) (ask : Ask WalkAnswer) → t.step ≡ LoadsCurrent addr → walk_asks_left p t.walk < old
    → try_asks_left p (current_ledto p t addr ask) < sum_left old (1 + most_end_asks)
unfolding current_ledto trying_asks_left
current_led_fewer p t addr old (Done (walk.Value value)) at fewer = behind_fewer _ old (1 + most_end_asks) (omega (arith, fewer)) (omega arith)
current_led_fewer p t addr old (Done its) at fewer = behind_fewer _ old (1 + most_end_asks) (omega (arith, fewer)) (let few = ends_left p t (answer.Wait reason.Contended) in omega (arith, few))
current_led_fewer p t addr old ask at fewer = rw at (inside_fewer (walk_asks_left p t.walk) old (1 + most_end_asks) fewer)

value_changed_left : (p : Places) (t : TryState) (old found : ℕ) → try_asks_left p (value_changed p t old found) ≤ 4
value_changed_left p t old found = tested (found == old)
  where
    tested : (b : Bool) → try_asks_left p (if b then takes_effect p t (reply_from (value_of old) t.request.op) else ends p t (answer.Wait reason.Contended)) ≤ 4
    tested true = takes_effect_left p t (reply_from (value_of old) t.request.op)
    tested false = ends_left p t (answer.Wait reason.Contended)

answer_led_fewer : (p : Places) (t : TryState) (old : ℕ) (ask : Ask WalkAnswer) → t.step ≡ LoadsAnswer → walk_asks_left p t.walk < old → try_asks_left p (answer_ledto p t ask) < sum_left old most_end_asks
unfolding answer_ledto trying_asks_left
answer_led_fewer p t old (Done (walk.Value value)) at fewer = behind_fewer _ old most_end_asks (omega (arith, fewer)) (ends_left p t (told_value (value_of value)))
answer_led_fewer p t old (Done its) at fewer = behind_fewer _ old most_end_asks (omega (arith, fewer)) (ends_left p t (answer.Wait reason.Contended))
answer_led_fewer p t old ask at fewer = rw at (inside_fewer (walk_asks_left p t.walk) old most_end_asks fewer)

exclusive_led_fewer : (p : Places) (t : TryState) (from : OldValue) (old : ℕ) (ask : Ask LatchAnswer) → t.step ≡ TakesExclusive from → asks_left t.latching < old
    → try_asks_left p (exclusive_ledto p t from ask) < sum_left old (walk_asks_left p (walk_on t.walk) + most_append_asks)
unfolding exclusive_ledto trying_asks_left
exclusive_led_fewer p t from old (Done latch.Taken) at fewer = behind_fewer _ old (walk_asks_left p (walk_on t.walk) + most_append_asks) (omega (arith, fewer)) (copies_from_left p (record t { has_exclusive = true }) from)
exclusive_led_fewer p t from old (Done its) at fewer = behind_fewer _ old (walk_asks_left p (walk_on t.walk) + most_append_asks) (omega (arith, fewer)) (let few = ends_left p t (answer.Wait reason.Latch) in omega (arith, few))
exclusive_led_fewer p t from old ask at fewer = rw at (inside_fewer (asks_left t.latching) old (walk_asks_left p (walk_on t.walk) + most_append_asks) fewer)

old_led_fewer : (p : Places) (t : TryState) (old : ℕ) (ask : Ask WalkAnswer) → t.step ≡ LoadsOld → walk_asks_left p t.walk < old → try_asks_left p (old_ledto p t ask) < sum_left old most_append_asks
unfolding old_ledto trying_asks_left
old_led_fewer p t old (Done (walk.Value value)) at fewer = behind_fewer _ old most_append_asks (omega (arith, fewer)) (appends_left p t value)
old_led_fewer p t old (Done its) at fewer = behind_fewer _ old most_append_asks (omega (arith, fewer)) (let few = ends_left p t (answer.Wait reason.Contended) in omega (arith, few))
old_led_fewer p t old ask at fewer = rw at (inside_fewer (walk_asks_left p t.walk) old most_append_asks fewer)

append_led_fewer : (p : Places) (t : TryState) (told : Reply) (old : ℕ) (ask : Ask AppendAnswer) → t.step ≡ Appends told → append_asks_left t.append < old
    → try_asks_left p (append_ledto p t told ask) < sum_left old most_end_asks
unfolding append_ledto trying_asks_left
append_led_fewer p t told old (Done append.Published) at fewer = behind_fewer _ old most_end_asks (omega (arith, fewer)) (takes_effect_left p t told)
append_led_fewer p t told old (Done append.Full) at fewer = behind_fewer _ old most_end_asks (omega (arith, fewer)) (ends_left p t (full_at t.occasion answer.LogFull))
append_led_fewer p t told old (Done append.NoRoom) at fewer = behind_fewer _ old most_end_asks (omega (arith, fewer)) (ends_left p t (answer.Wait reason.NoRoom))
append_led_fewer p t told old (Done append.Contended) at fewer = behind_fewer _ old most_end_asks (omega (arith, fewer)) (ends_left p t (answer.Wait reason.Contended))
append_led_fewer p t told old ask at fewer = rw at (inside_fewer (append_asks_left t.append) old most_end_asks fewer)

exclusive_dropped_fewer : (p : Places) (t : TryState) (its : TryAnswer) (old : ℕ) (ask : Ask LatchAnswer) → t.step ≡ DropsExclusive its → asks_left t.latching < old
    → try_asks_left p (exclusive_dropped p t its ask) < sum_left old 1
unfolding exclusive_dropped trying_asks_left
exclusive_dropped_fewer p t its old (Done told) at fewer = behind_fewer _ old 1 (omega (arith, fewer)) (ended_without_left p t its)
exclusive_dropped_fewer p t its old ask at fewer = rw at (inside_fewer (asks_left t.latching) old 1 fewer)

shared_dropped_fewer : (p : Places) (t : TryState) (its : TryAnswer) (old : ℕ) (ask : Ask LatchAnswer) → t.step ≡ DropsShared its → asks_left t.latching < old → try_asks_left p (shared_dropped t its ask) < old
unfolding shared_dropped trying_asks_left
shared_dropped_fewer p t its old (Done told) at fewer = omega (arith, fewer)
shared_dropped_fewer p t its old ask at fewer = rw at fewer

-- where the walk has come to its end, the value is loaded by two asks at most
value_few : (p : Places) (t : TryState) (reply : ℕ) → is_done (walk_ask p (walk_next p t.walk reply)) ≡ true → walk_asks_left p (walk_on (walk_next p t.walk reply)) ≤ 2
value_few p t reply end =
    let its = walk_next p t.walk reply in
    let none = none_left (walk_asks_left p its) (walk_ask p its) (walk_left p its) end in
    let few = walk_on_left p its in
    omega (arith, none, few)

latch_falls : (t : TryState) (reply : ℕ) → 0 < asks_left t.latching → asks_left (latch_next t.latching reply) < asks_left t.latching
latch_falls t reply some = let fewer = latch_fewer t.latching reply in omega (arith, some, fewer)

trying_fewer : (p : Places) (room : ℕ) (t : TryState) (step : Trying) (reply : ℕ) → t.step ≡ step → 0 < trying_asks_left p t step → try_asks_left p (trying_next p room t step reply) < trying_asks_left p t step
unfolding trying_next trying_asks_left
trying_fewer p room t (Ended its) reply at some = none some
trying_fewer p room t TakesShared reply at some =
    shared_led_fewer p (latch_moved t reply) (asks_left t.latching) (latch_next_ask t.latching reply) at (latch_falls t reply (some_inside _ (most_asks_behind_share p) some))
trying_fewer p room t LoadsPhase reply at some = let few = phase_loaded_left p t (phase_said reply) in omega (arith, few)
trying_fewer p room t Walks reply at some =
    walk_led_fewer p (walk_moved p t reply) (walk_asks_left p t.walk) (walk_ask p (walk_next p t.walk reply)) at (value_few p t reply) (walk_fewer p t.walk reply (some_inside _ most_asks_behind_walk some))
trying_fewer p room t CountsTaken reply at some = let few = count_loaded_left p t reply in omega (arith, few)
trying_fewer p room t (LoadsSafe addr version) reply at some = let few = safe_loaded_left p t addr version reply in omega (arith, few)
trying_fewer p room t (SwapsValue addr) reply at some = let few = takes_effect_left p t (reply_from None t.request.op) in omega (arith, few)
trying_fewer p room t (LoadsCurrent addr) reply at some =
    current_led_fewer p (walk_moved p t reply) addr (walk_asks_left p t.walk) (walk_ask p (walk_next p t.walk reply)) at (walk_fewer p t.walk reply (some_inside _ (1 + most_end_asks) some))
trying_fewer p room t (ChangesValue addr old) reply at some = let few = value_changed_left p t old reply in omega (arith, few)
trying_fewer p room t LoadsAnswer reply at some =
    answer_led_fewer p (walk_moved p t reply) (walk_asks_left p t.walk) (walk_ask p (walk_next p t.walk reply)) at (walk_fewer p t.walk reply (some_inside _ most_end_asks some))
trying_fewer p room t (TakesExclusive from) reply at some =
    exclusive_led_fewer p (latch_moved t reply) from (asks_left t.latching) (latch_next_ask t.latching reply) at (latch_falls t reply (some_inside _ (walk_asks_left p (walk_on t.walk) + most_append_asks) some))
trying_fewer p room t LoadsOld reply at some =
    old_led_fewer p (walk_moved p t reply) (walk_asks_left p t.walk) (walk_ask p (walk_next p t.walk reply)) at (walk_fewer p t.walk reply (some_inside _ most_append_asks some))
trying_fewer p room t (Appends told) reply at some =
    append_led_fewer p (record t { append = append_next p room t.append reply }) told (append_asks_left t.append) (append_ask p (append_next p room t.append reply)) at (append_fewer p room t.append reply (some_inside _ most_end_asks some))
trying_fewer p room t (LoadsTail waiting) reply at some = let few = tail_loaded_left p t waiting reply in omega (arith, few)
trying_fewer p room t (LoadsTaken waiting) reply at some = let few = taken_loaded_left p t waiting reply in omega (arith, few)
trying_fewer p room t (DropsExclusive its) reply at some =
    exclusive_dropped_fewer p (latch_moved t reply) its (asks_left t.latching) (latch_next_ask t.latching reply) at (latch_falls t reply (some_inside _ 1 some))
trying_fewer p room t (DropsShared its) reply at some =
    shared_dropped_fewer p (latch_moved t reply) its (asks_left t.latching) (latch_next_ask t.latching reply) at (latch_falls t reply some)

-- what was told counts for nothing
effect_left : (p : Places) (t : TryState) (step : Trying) → trying_asks_left p (record t { effect = None }) step ≡ trying_asks_left p t step
unfolding trying_asks_left
effect_left p t (Ended its) = refl
effect_left p t step = refl

-- each reply leaves fewer
pub try_fewer : (p : Places) (room : ℕ) (t : TryState) (reply : ℕ) → 0 < try_asks_left p t → try_asks_left p (try_next p room t reply) < try_asks_left p t
try_fewer p room t reply some = rw (sym (effect_left p t t.step)) (trying_fewer p room (record t { effect = None }) t.step reply refl (rw (effect_left p t t.step) some))

-- what it asks, wherever that is given
pub asked_left : (p : Places) (t : TryState) (ask : Ask TryAnswer) → ask ≡ try_ask p t → AsksWhereLeft (try_asks_left p t) ask
asked_left p t ask e = rw e (try_left p t)
