-- A try that has begun is at its end, or it asks.
use Rattle.std.proofs.Common.{◌≡◌, ℕ, ◌<◌, refl, ◌∙◌, arith, Bool, true, false}
use Rattle.std.specs.Prelude.{◌==◌, ◌&&◌, ◌||◌, not, nat_le, if◌then◌else◌, Option, Some, None, ⊤}
use Rattle.fkv_base.specs.declared.numbers.Addr.{Addr}
use Rattle.fkv_base.specs.declared.numbers.Version.{Version}
use Rattle.fkv_map.specs.declared.operations.Reply.{Reply}
use Rattle.fkv_map.specs.Map.{absent_word}
use Rattle.fkv_map.specs.Keys.{key_of, reply_from}
use Rattle.fkv_words.specs.declared.phase_words.PhaseSaid.{PhaseSaid}
use Rattle.fkv_words.specs.PhaseWords.{phase_said}
use Rattle.fkv_plane.specs.declared.asks.Ask.{Ask}
use Rattle.fkv_plane.specs.declared.asks.Ask.TheVariants.{Done}
use Rattle.fkv_plane.specs.declared.places.Places.{Places}
use Rattle.fkv_plane.specs.Passing.{passed, is_done}
use Rattle.fkv_plane.proofs.Shown.{passed_done}
use Rattle.fkv_log.specs.declared.regions.Region.{Region}
use Rattle.fkv_log.specs.Regions.{seen_region_of}
use Rattle.fkv_latch.specs.declared.latching.LatchAnswer.{LatchAnswer}
use Rattle.fkv_latch.specs.declared.latching.LatchAnswer.TheVariants as latch
use Rattle.fkv_latch.specs.declared.latching.LatchTask.TheVariants.{TakeShared, DropShared, TakeExclusive, DropExclusive}
use Rattle.fkv_latch.specs.Latching.{latch_ask, latch_next_ask, asks_left}
use Rattle.fkv_latch.proofs.Shown.{latch_ask_left, latch_next_left}
use Rattle.fkv_ops.specs.declared.answers.Reason.TheVariants as reason
use Rattle.fkv_ops.specs.declared.answers.TryAnswer.{TryAnswer}
use Rattle.fkv_ops.specs.declared.answers.TryAnswer.TheVariants as answer
use Rattle.fkv_ops.specs.declared.appending.AppendAnswer.{AppendAnswer}
use Rattle.fkv_ops.specs.declared.appending.AppendAnswer.TheVariants as append
use Rattle.fkv_ops.specs.declared.requests.HeldRecord.{HeldRecord}
use Rattle.fkv_ops.specs.declared.requests.Occasion.{Occasion}
use Rattle.fkv_ops.specs.declared.requests.Request.{Request}
use Rattle.fkv_ops.specs.declared.requests.Seen.{Seen}
use Rattle.fkv_ops.specs.declared.trying.OldValue.{OldValue}
use Rattle.fkv_ops.specs.declared.trying.OldValue.TheVariants.{InMemory, Known}
use Rattle.fkv_ops.specs.declared.trying.Trying.{Trying}
use Rattle.fkv_ops.specs.declared.trying.Trying.TheVariants.{Ended, TakesShared, LoadsPhase, Walks, CountsTaken, LoadsSafe, SwapsValue, LoadsCurrent, ChangesValue, LoadsAnswer, TakesExclusive, LoadsOld, Appends, LoadsTail, LoadsTaken, DropsExclusive, DropsShared}
use Rattle.fkv_ops.specs.declared.walking.WalkAnswer.{WalkAnswer}
use Rattle.fkv_ops.specs.declared.walking.WalkAnswer.TheVariants as walk
use Rattle.fkv_ops.specs.declared.answers.Waiting.{Waiting}
use Rattle.fkv_ops.specs.declared.answers.Waiting.TheVariants.{For, ForRecord}
use Rattle.fkv_ops.specs.Bounds.{bounds_at, tail_bound, is_past_taken, is_past_tail}
use Rattle.fkv_ops.specs.Waiting.{told_of}
use Rattle.fkv_ops.specs.Values.{value_of}
use Rattle.fkv_ops.specs.Requests.{purpose_at, is_read, is_blind, is_chain_end}
use Rattle.fkv_ops.specs.Walking.{walk_ask, walk_next, walk_on}
use Rattle.fkv_ops.specs.Appending.{append_ask, append_next}
use Rattle.fkv_ops.specs.Trying.{TryState, new_try, trying_ask, try_ask, with_latch, is_wait, ended_without, is_bounded, ends, ends_by, ends_so, tail_loaded, taken_loaded, takes_effect, full_at, walks, wants_shared, try_begun, is_next_marked, latch_shared, shared_ledto, is_still_in, phase_loaded, must_shift, wants_exclusive, words_of, slot_of, appends, copies_from, copies, awaits, held_used, must_count, met_nowhere, count_loaded, met_disk, changes, is_own_version, region_met, met_record, walked, has_walked, walk_ledto, is_surely_own, safe_loaded, current_ledto, value_changed, told_value, answer_ledto, exclusive_ledto, old_ledto, append_ledto, exclusive_dropped, shared_dropped, latch_moved, walk_moved, trying_next, try_next}
use Rattle.fkv_plane.specs.AsksLeft.{AsksWhereLeft}
use Rattle.fkv_ops.proofs.WalkRests.{IsWalkUnderWay, walk_done, walk_begun_under_way, walk_rests, walk_found, walk_goes_on}
use Rattle.fkv_ops.proofs.AppendRests.{IsAppendUnderWay, append_done, append_begun_under_way, append_rests, append_goes_on}

abbrev pub is_try_end : Trying → Bool
is_try_end (Ended its) = true
is_try_end step = false

-- where the value of a copy is in memory, the walk can go on to it
abbrev pub CanLoadOld : TryState → OldValue → Type 0
CanLoadOld t InMemory = IsWalkUnderWay (walk_on t.walk)
CanLoadOld t (Known old) = ⊤

-- the machine inside that is driven has asks left
abbrev pub TryAsksAt : TryState → Trying → Type 0
TryAsksAt t (Ended its) = ⊤
TryAsksAt t TakesShared = 0 < asks_left t.latching
TryAsksAt t LoadsPhase = ⊤
TryAsksAt t Walks = IsWalkUnderWay t.walk
TryAsksAt t CountsTaken = ⊤
TryAsksAt t (LoadsSafe addr version) = IsWalkUnderWay (walk_on t.walk)
TryAsksAt t (SwapsValue addr) = ⊤
TryAsksAt t (LoadsCurrent addr) = IsWalkUnderWay t.walk
TryAsksAt t (ChangesValue addr old) = ⊤
TryAsksAt t LoadsAnswer = IsWalkUnderWay t.walk
TryAsksAt t (TakesExclusive old) = (0 < asks_left t.latching) × CanLoadOld t old
TryAsksAt t LoadsOld = IsWalkUnderWay t.walk
TryAsksAt t (Appends its) = IsAppendUnderWay t.append
TryAsksAt t (LoadsTail waiting) = ⊤
TryAsksAt t (LoadsTaken waiting) = ⊤
TryAsksAt t (DropsExclusive its) = 0 < asks_left t.latching
TryAsksAt t (DropsShared its) = 0 < asks_left t.latching

abbrev pub TryRestsOrAsks : TryState → Type 0
TryRestsOrAsks t = TryAsksAt t t.step

latch_asks : {B : Type 0} (t : TryState) (told : B) → 0 < asks_left t.latching → is_done (passed (latch_ask t.latching) told) ≡ false
latch_asks t told some = passed_done (latch_ask t.latching) told ∙ (latch_ask_left t.latching).1 some

walk_asks : {B : Type 0} (p : Places) (t : TryState) (told : B) → IsWalkUnderWay t.walk → is_done (passed (walk_ask p t.walk) told) ≡ false
walk_asks p t told its = passed_done (walk_ask p t.walk) told ∙ walk_done p t.walk its.asks ∙ its.goes_on

append_asks : {B : Type 0} (p : Places) (t : TryState) (told : B) → IsAppendUnderWay t.append → is_done (passed (append_ask p t.append) told) ≡ false
append_asks p t told its = passed_done (append_ask p t.append) told ∙ append_done p t.append its.asks ∙ its.goes_on

trying_done : (p : Places) (t : TryState) (step : Trying) → TryAsksAt t step → is_done (trying_ask p t step) ≡ is_try_end step
unfolding trying_ask
trying_done p t (Ended its) at = refl
trying_done p t TakesShared at = latch_asks t answer.Shift at
trying_done p t LoadsPhase at = refl
trying_done p t Walks at = walk_asks p t answer.Shift at
trying_done p t CountsTaken at = refl
trying_done p t (LoadsSafe addr version) at = refl
trying_done p t (SwapsValue addr) at = refl
trying_done p t (LoadsCurrent addr) at = walk_asks p t answer.Shift at
trying_done p t (ChangesValue addr old) at = refl
trying_done p t LoadsAnswer at = walk_asks p t answer.Shift at
trying_done p t (TakesExclusive old) at = latch_asks t answer.Shift at.0
trying_done p t LoadsOld at = walk_asks p t answer.Shift at
trying_done p t (Appends its) at = append_asks p t answer.Shift at
trying_done p t (LoadsTail waiting) at = refl
trying_done p t (LoadsTaken waiting) at = refl
trying_done p t (DropsExclusive its) at = latch_asks t its at
trying_done p t (DropsShared its) at = latch_asks t its at

-- it is at an end exactly where it has ended
pub try_done : (p : Places) (t : TryState) → TryRestsOrAsks t → is_done (try_ask p t) ≡ is_try_end t.step
try_done p t at = trying_done p t t.step at

walks_rest : (p : Places) (t : TryState) → TryRestsOrAsks (walks p t)
walks_rest p t = walk_begun_under_way p t.home (key_of t.request.op) (purpose_at t.occasion t.request.op) t.seen.offsets.head t.spare

-- as it begins it asks
pub try_begun_rests : (p : Places) (bits : ℕ) (request : Request) (seen : Seen) (occasion : Occasion) (spare : ℕ) → TryRestsOrAsks (try_begun p bits request seen occasion spare)
unfolding asks_left
try_begun_rests p bits request seen occasion spare = tested (wants_shared its)
  where
    its : TryState
    its = new_try bits request seen occasion spare

    tested : (b : Bool) → TryRestsOrAsks (if b then with_latch p its TakeShared TakesShared else walks p its)
    tested true = omega arith
    tested false = walks_rest p its

pub try_begun_asks : (p : Places) (bits : ℕ) (request : Request) (seen : Seen) (occasion : Occasion) (spare : ℕ) → is_done (try_ask p (try_begun p bits request seen occasion spare)) ≡ false
try_begun_asks p bits request seen occasion spare = try_done p begun (try_begun_rests p bits request seen occasion spare) ∙ tested (wants_shared its)
  where
    begun : TryState
    begun = try_begun p bits request seen occasion spare

    its : TryState
    its = new_try bits request seen occasion spare

    tested : (b : Bool) → is_try_end (if b then with_latch p its TakeShared TakesShared else walks p its).step ≡ false
    tested true = refl
    tested false = refl

ended_without_rests : (p : Places) (t : TryState) (its : TryAnswer) → TryRestsOrAsks (ended_without p t its)
unfolding asks_left
ended_without_rests p t its = tested (t.has_shared && not (is_wait its))
  where
    tested : (b : Bool) → TryRestsOrAsks (if b then with_latch p (record t { has_shared = false }) DropShared (DropsShared its) else record t { step = Ended its })
    tested true = omega arith
    tested false = tt

ends_so_rest : (p : Places) (t : TryState) (its : TryAnswer) → TryRestsOrAsks (ends_so p t its)
unfolding ends_so asks_left
ends_so_rest p t its = tested t.has_exclusive
  where
    tested : (b : Bool) → TryRestsOrAsks (if b then with_latch p (record t { has_exclusive = false }) DropExclusive (DropsExclusive its) else ended_without p t its)
    tested true = omega arith
    tested false = ended_without_rests p t its

waits_rest : (p : Places) (t : TryState) (its : TryAnswer) (waiting : Waiting) → TryRestsOrAsks (ends_by p t its (Some waiting))
waits_rest p t its waiting = tested (is_bounded t)
  where
    tested : (b : Bool) → TryRestsOrAsks (if b then record t { step = LoadsTail waiting } else ends_so p t its)
    tested true = tt
    tested false = ends_so_rest p t its

ends_rest : (p : Places) (t : TryState) (its : TryAnswer) → TryRestsOrAsks (ends p t its)
unfolding ends
ends_rest p t (answer.Wait it) = waits_rest p t (answer.Wait it) (For it)
ends_rest p t (answer.AwaitsDisk it) = waits_rest p t (answer.AwaitsDisk it) (ForRecord it)
ends_rest p t its = ends_so_rest p t its

tail_loaded_rests : (p : Places) (t : TryState) (waiting : Waiting) (tail : ℕ) → TryRestsOrAsks (tail_loaded p t waiting tail)
unfolding tail_loaded
tail_loaded_rests p t waiting tail = tested (is_past_tail (bounds_at t.occasion) tail) (t.walk.entry == 0)
  where
    tested : (past none : Bool) → TryRestsOrAsks (if past then ends_so p t answer.LogFull else if none then record t { step = LoadsTaken waiting } else ends_so p t (told_of waiting))
    tested true none = ends_so_rest p t answer.LogFull
    tested false true = tt
    tested false false = ends_so_rest p t (told_of waiting)

taken_loaded_rests : (p : Places) (t : TryState) (waiting : Waiting) (taken : ℕ) → TryRestsOrAsks (taken_loaded p t waiting taken)
unfolding taken_loaded
taken_loaded_rests p t waiting taken = tested (is_past_taken (bounds_at t.occasion) taken)
  where
    tested : (past : Bool) → TryRestsOrAsks (if past then ends_so p t answer.IndexFull else ends_so p t (told_of waiting))
    tested true = ends_so_rest p t answer.IndexFull
    tested false = ends_so_rest p t (told_of waiting)

takes_effect_rests : (p : Places) (t : TryState) (told : Reply) → TryRestsOrAsks (takes_effect p t told)
takes_effect_rests p t told = ends_rest p (record t { effect = Some told }) (answer.Done told)

appends_rest : (t : TryState) (old : ℕ) → TryRestsOrAsks (appends t old)
unfolding appends
appends_rest t old = append_begun_under_way (slot_of t) (words_of t.request t.walk.entry (value_of old)) (tail_bound (bounds_at t.occasion))

copies_from_rest : (t : TryState) (old : OldValue) → CanLoadOld t old → TryRestsOrAsks (copies_from t old)
unfolding copies_from
copies_from_rest t (Known old) can = appends_rest t old
copies_from_rest t InMemory can = tested (is_blind t.request.op)
  where
    tested : (b : Bool) → TryRestsOrAsks (if b then appends t absent_word else record t { walk = walk_on t.walk; step = LoadsOld })
    tested true = appends_rest t absent_word
    tested false = can

copies_rest : (p : Places) (t : TryState) (old : OldValue) (is_current : Bool) → CanLoadOld t old → TryRestsOrAsks (copies p t old is_current)
unfolding copies asks_left
copies_rest p t old is_current can = tested (wants_exclusive t is_current)
  where
    still : (old : OldValue) → CanLoadOld t old → CanLoadOld (with_latch p t TakeExclusive (TakesExclusive old)) old
    still InMemory can = can
    still (Known its) can = can

    tested : (b : Bool) → TryRestsOrAsks (if b then with_latch p t TakeExclusive (TakesExclusive old) else copies_from t old)
    tested true = (omega arith, still old can)
    tested false = copies_from_rest t old can

held_used_rests : (p : Places) (t : TryState) (addr : Addr) (held : Option HeldRecord) → TryRestsOrAsks (held_used p t addr held)
unfolding held_used
held_used_rests p t addr None = ends_rest p t (answer.AwaitsDisk (record { entry = t.walk.entry; addr = addr }))
held_used_rests p t addr (Some held) = tested (held.entry == t.walk.entry) (held.key.0 == (key_of t.request.op).0) (is_chain_end t.request.floor held.previous)
  where
    tested : (same its last : Bool)
        → TryRestsOrAsks (if same then (if its then copies p t (Known held.value) false else if last then copies p t (Known absent_word) false else awaits p t held.previous) else awaits p t addr)
    tested false its last = ends_rest p t (answer.AwaitsDisk (record { entry = t.walk.entry; addr = addr }))
    tested true true last = copies_rest p t (Known held.value) false tt
    tested true false true = copies_rest p t (Known absent_word) false tt
    tested true false false = ends_rest p t (answer.AwaitsDisk (record { entry = t.walk.entry; addr = held.previous }))

met_nowhere_rests : (p : Places) (t : TryState) → TryRestsOrAsks (met_nowhere p t)
met_nowhere_rests p t = tested (is_read t.request.op) (must_count p t)
  where
    tested : (read count : Bool) → TryRestsOrAsks (if read then ends p t answer.Absent else if count then record t { step = CountsTaken } else copies p t (Known absent_word) false)
    tested true count = ends_rest p t answer.Absent
    tested false true = tt
    tested false false = copies_rest p t (Known absent_word) false tt

count_loaded_rests : (p : Places) (t : TryState) (taken : ℕ) → TryRestsOrAsks (count_loaded p t taken)
unfolding count_loaded
count_loaded_rests p t taken = tested (is_past_taken (bounds_at t.occasion) taken)
  where
    tested : (b : Bool) → TryRestsOrAsks (if b then ends p t answer.IndexFull else copies p t (Known absent_word) false)
    tested true = ends_rest p t answer.IndexFull
    tested false = copies_rest p t (Known absent_word) false tt

met_disk_rests : (p : Places) (t : TryState) (addr : Addr) → TryRestsOrAsks (met_disk p t addr)
met_disk_rests p t addr = tested (is_read t.request.op) (is_chain_end t.request.floor addr) (is_blind t.request.op || is_chain_end t.request.floor addr)
  where
    tested : (read last none : Bool)
        → TryRestsOrAsks (if read then (if last then ends p t answer.Absent else awaits p t addr) else if none then copies p t (Known absent_word) false else held_used p t addr t.request.held)
    tested true true none = ends_rest p t answer.Absent
    tested true false none = ends_rest p t (answer.AwaitsDisk (record { entry = t.walk.entry; addr = addr }))
    tested false last true = copies_rest p t (Known absent_word) false tt
    tested false last false = held_used_rests p t addr t.request.held

changes_rest : (t : TryState) (addr : Addr) → IsWalkUnderWay (walk_on t.walk) → TryRestsOrAsks (changes t addr)
changes_rest t addr value = tested (is_blind t.request.op)
  where
    tested : (b : Bool) → TryRestsOrAsks (if b then record t { step = SwapsValue addr } else record t { walk = walk_on t.walk; step = LoadsCurrent addr })
    tested true = tt
    tested false = value

region_met_rests : (p : Places) (t : TryState) (addr : Addr) (version : Version) (region : Option Region) → IsWalkUnderWay (walk_on t.walk) → TryRestsOrAsks (region_met p t addr version region)
region_met_rests p t addr version None value = value
region_met_rests p t addr version (Some its) value = tested (is_own_version t version)
  where
    tested : (b : Bool) → TryRestsOrAsks (if b then changes t addr else copies p t InMemory false)
    tested true = changes_rest t addr value
    tested false = copies_rest p t InMemory false value

met_record_rests : (p : Places) (t : TryState) (addr : Addr) (version : Version) → IsWalkUnderWay (walk_on t.walk) → TryRestsOrAsks (met_record p t addr version)
met_record_rests p t addr version value = tested (is_read t.request.op)
  where
    tested : (b : Bool) → TryRestsOrAsks (if b then record t { walk = walk_on t.walk; step = LoadsAnswer } else region_met p t addr version (seen_region_of addr.0 t.seen.offsets))
    tested true = value
    tested false = region_met_rests p t addr version (seen_region_of addr.0 t.seen.offsets) value

-- of a walk that has found the record the value can be loaded
walked_rests : (p : Places) (t : TryState) (its : WalkAnswer) → ((addr : Addr) (version : Version) → its ≡ walk.Found addr version → IsWalkUnderWay (walk_on t.walk)) → TryRestsOrAsks (walked p t its)
walked_rests p t (walk.Found addr version) value = met_record_rests p t addr version (value addr version refl)
walked_rests p t walk.Nowhere value = met_nowhere_rests p t
walked_rests p t (walk.OnDisk addr) value = met_disk_rests p t addr
walked_rests p t (walk.Value its) value = ends_rest p t (answer.Wait reason.Contended)
walked_rests p t walk.Full value = ends_rest p t (full_at t.occasion answer.IndexFull)
walked_rests p t walk.Kept value = ends_rest p t (full_at t.occasion answer.IndexFull)
walked_rests p t walk.Contended value = ends_rest p t (answer.Wait reason.Contended)

latch_shared_rests : (p : Places) (t : TryState) → TryRestsOrAsks (latch_shared p t)
latch_shared_rests p t = tested (is_next_marked t.request.version)
  where
    tested : (b : Bool) → TryRestsOrAsks (if b then record t { step = LoadsPhase } else walks p t)
    tested true = tt
    tested false = walks_rest p t

phase_loaded_rests : (p : Places) (t : TryState) (said : PhaseSaid) → TryRestsOrAsks (phase_loaded p t said)
unfolding phase_loaded
phase_loaded_rests p t said = tested (is_still_in said t.request.version)
  where
    tested : (b : Bool) → TryRestsOrAsks (if b then walks p t else ends p t answer.Shift)
    tested true = walks_rest p t
    tested false = ends_rest p t answer.Shift

-- where the replies lead
shared_led_rests : (p : Places) (t : TryState) (ask : Ask LatchAnswer) → t.step ≡ TakesShared → AsksWhereLeft (asks_left t.latching) ask → TryRestsOrAsks (shared_ledto p t ask)
unfolding shared_ledto
shared_led_rests p t (Done latch.Taken) at left = latch_shared_rests p (record t { has_shared = true })
shared_led_rests p t (Done its) at left = ends_rest p t answer.Shift
shared_led_rests p t ask at left = rw at (left.0 refl)

walk_led_rests : (p : Places) (t : TryState) (ask : Ask WalkAnswer) → t.step ≡ Walks → (is_done ask ≡ false → IsWalkUnderWay t.walk)
    → ((addr : Addr) (version : Version) → ask ≡ Done (walk.Found addr version) → IsWalkUnderWay (walk_on t.walk)) → TryRestsOrAsks (walk_ledto p t ask)
unfolding walk_ledto
walk_led_rests p t (Done its) at some value = tested (has_walked its && must_shift after)
  where
    after : TryState
    after = record t { spare = t.walk.spare }

    tested : (b : Bool) → TryRestsOrAsks (if b then ends p after answer.Shift else walked p after its)
    tested true = ends_rest p after answer.Shift
    tested false = walked_rests p after its (λ addr version e. value addr version (rw e refl))
walk_led_rests p t ask at some value = rw at (some refl)

safe_loaded_rests : (p : Places) (t : TryState) (addr : Addr) (version : Version) (safe : ℕ) → IsWalkUnderWay (walk_on t.walk) → TryRestsOrAsks (safe_loaded p t addr version safe)
safe_loaded_rests p t addr version safe value = tested (nat_le safe addr.0)
  where
    tested : (b : Bool) → TryRestsOrAsks (if b then ends p t (answer.Wait reason.Fuzzy) else copies p t InMemory (is_surely_own t version))
    tested true = ends_rest p t (answer.Wait reason.Fuzzy)
    tested false = copies_rest p t InMemory (is_surely_own t version) value

current_led_rests : (p : Places) (t : TryState) (addr : Addr) (ask : Ask WalkAnswer) → t.step ≡ LoadsCurrent addr → (is_done ask ≡ false → IsWalkUnderWay t.walk) → TryRestsOrAsks (current_ledto p t addr ask)
unfolding current_ledto
current_led_rests p t addr (Done (walk.Value old)) at some = tt
current_led_rests p t addr (Done its) at some = ends_rest p t (answer.Wait reason.Contended)
current_led_rests p t addr ask at some = rw at (some refl)

value_changed_rests : (p : Places) (t : TryState) (old found : ℕ) → TryRestsOrAsks (value_changed p t old found)
value_changed_rests p t old found = tested (found == old)
  where
    tested : (b : Bool) → TryRestsOrAsks (if b then takes_effect p t (reply_from (value_of old) t.request.op) else ends p t (answer.Wait reason.Contended))
    tested true = takes_effect_rests p t (reply_from (value_of old) t.request.op)
    tested false = ends_rest p t (answer.Wait reason.Contended)

answer_led_rests : (p : Places) (t : TryState) (ask : Ask WalkAnswer) → t.step ≡ LoadsAnswer → (is_done ask ≡ false → IsWalkUnderWay t.walk) → TryRestsOrAsks (answer_ledto p t ask)
unfolding answer_ledto
answer_led_rests p t (Done (walk.Value value)) at some = ends_rest p t (told_value (value_of value))
answer_led_rests p t (Done its) at some = ends_rest p t (answer.Wait reason.Contended)
answer_led_rests p t ask at some = rw at (some refl)

exclusive_led_rests : (p : Places) (t : TryState) (old : OldValue) (ask : Ask LatchAnswer) → t.step ≡ TakesExclusive old → AsksWhereLeft (asks_left t.latching) ask → CanLoadOld t old → TryRestsOrAsks (exclusive_ledto p t old ask)
unfolding exclusive_ledto
exclusive_led_rests p t old (Done latch.Taken) at left can = copies_from_rest (record t { has_exclusive = true }) old (still old can)
  where
    still : (old : OldValue) → CanLoadOld t old → CanLoadOld (record t { has_exclusive = true }) old
    still InMemory can = can
    still (Known its) can = can
exclusive_led_rests p t old (Done its) at left can = ends_rest p t (answer.Wait reason.Latch)
exclusive_led_rests p t old ask at left can = rw at (left.0 refl, can)

old_led_rests : (p : Places) (t : TryState) (ask : Ask WalkAnswer) → t.step ≡ LoadsOld → (is_done ask ≡ false → IsWalkUnderWay t.walk) → TryRestsOrAsks (old_ledto p t ask)
unfolding old_ledto
old_led_rests p t (Done (walk.Value value)) at some = appends_rest t value
old_led_rests p t (Done its) at some = ends_rest p t (answer.Wait reason.Contended)
old_led_rests p t ask at some = rw at (some refl)

append_led_rests : (p : Places) (t : TryState) (told : Reply) (ask : Ask AppendAnswer) → t.step ≡ Appends told → (is_done ask ≡ false → IsAppendUnderWay t.append) → TryRestsOrAsks (append_ledto p t told ask)
unfolding append_ledto
append_led_rests p t told (Done append.Published) at some = takes_effect_rests p t told
append_led_rests p t told (Done append.Full) at some = ends_rest p t (full_at t.occasion answer.LogFull)
append_led_rests p t told (Done append.NoRoom) at some = ends_rest p t (answer.Wait reason.NoRoom)
append_led_rests p t told (Done append.Contended) at some = ends_rest p t (answer.Wait reason.Contended)
append_led_rests p t told ask at some = rw at (some refl)

exclusive_dropped_rests : (p : Places) (t : TryState) (its : TryAnswer) (ask : Ask LatchAnswer) → t.step ≡ DropsExclusive its → AsksWhereLeft (asks_left t.latching) ask → TryRestsOrAsks (exclusive_dropped p t its ask)
unfolding exclusive_dropped
exclusive_dropped_rests p t its (Done told) at left = ended_without_rests p t its
exclusive_dropped_rests p t its ask at left = rw at (left.0 refl)

shared_dropped_rests : (t : TryState) (its : TryAnswer) (ask : Ask LatchAnswer) → t.step ≡ DropsShared its → AsksWhereLeft (asks_left t.latching) ask → TryRestsOrAsks (shared_dropped t its ask)
unfolding shared_dropped
shared_dropped_rests t its (Done told) at left = tt
shared_dropped_rests t its ask at left = rw at (left.0 refl)

-- the walk of a try behind a reply
walk_moves_on : (p : Places) (t : TryState) (reply : ℕ) → IsWalkUnderWay t.walk → is_done (walk_ask p (walk_next p t.walk reply)) ≡ false → IsWalkUnderWay (walk_next p t.walk reply)
walk_moves_on p t reply its asks = walk_goes_on p (walk_next p t.walk reply) (walk_rests p t.walk reply its.asks) asks

trying_rests : (p : Places) (room : ℕ) (t : TryState) (step : Trying) (reply : ℕ) → t.step ≡ step → TryAsksAt t step → TryRestsOrAsks (trying_next p room t step reply)
unfolding trying_next
trying_rests p room t (Ended its) reply at asks = rw at tt
trying_rests p room t TakesShared reply at asks = shared_led_rests p (latch_moved t reply) (latch_next_ask t.latching reply) at (latch_next_left t.latching reply)
trying_rests p room t LoadsPhase reply at asks = phase_loaded_rests p t (phase_said reply)
trying_rests p room t Walks reply at asks =
    let its = walk_next p t.walk reply in
    walk_led_rests p (walk_moved p t reply) (walk_ask p its) at (walk_moves_on p t reply asks) (λ addr version found. walk_found p its addr version (walk_rests p t.walk reply asks.asks) found)
trying_rests p room t CountsTaken reply at asks = count_loaded_rests p t reply
trying_rests p room t (LoadsSafe addr version) reply at asks = safe_loaded_rests p t addr version reply asks
trying_rests p room t (SwapsValue addr) reply at asks = takes_effect_rests p t (reply_from None t.request.op)
trying_rests p room t (LoadsCurrent addr) reply at asks = current_led_rests p (walk_moved p t reply) addr (walk_ask p (walk_next p t.walk reply)) at (walk_moves_on p t reply asks)
trying_rests p room t (ChangesValue addr old) reply at asks = value_changed_rests p t old reply
trying_rests p room t LoadsAnswer reply at asks = answer_led_rests p (walk_moved p t reply) (walk_ask p (walk_next p t.walk reply)) at (walk_moves_on p t reply asks)
trying_rests p room t (TakesExclusive old) reply at asks = exclusive_led_rests p (latch_moved t reply) old (latch_next_ask t.latching reply) at (latch_next_left t.latching reply) (still old asks.1)
  where
    still : (old : OldValue) → CanLoadOld t old → CanLoadOld (latch_moved t reply) old
    still InMemory can = can
    still (Known its) can = can
trying_rests p room t LoadsOld reply at asks = old_led_rests p (walk_moved p t reply) (walk_ask p (walk_next p t.walk reply)) at (walk_moves_on p t reply asks)
trying_rests p room t (Appends told) reply at asks =
    let its = append_next p room t.append reply in
    append_led_rests p (record t { append = its }) told (append_ask p its) at (append_goes_on p its (append_rests p room t.append reply asks.asks))
trying_rests p room t (LoadsTail waiting) reply at asks = tail_loaded_rests p t waiting reply
trying_rests p room t (LoadsTaken waiting) reply at asks = taken_loaded_rests p t waiting reply
trying_rests p room t (DropsExclusive its) reply at asks = exclusive_dropped_rests p (latch_moved t reply) its (latch_next_ask t.latching reply) at (latch_next_left t.latching reply)
trying_rests p room t (DropsShared its) reply at asks = shared_dropped_rests (latch_moved t reply) its (latch_next_ask t.latching reply) at (latch_next_left t.latching reply)

effect_rests : (t : TryState) (step : Trying) → TryAsksAt t step → TryAsksAt (record t { effect = None }) step
effect_rests t (TakesExclusive InMemory) asks = asks
effect_rests t (TakesExclusive (Known old)) asks = asks
effect_rests t step asks = asks

-- it stays so behind each reply
pub try_rests : (p : Places) (room : ℕ) (t : TryState) (reply : ℕ) → TryRestsOrAsks t → TryRestsOrAsks (try_next p room t reply)
try_rests p room t reply asks = trying_rests p room (record t { effect = None }) t.step reply refl (effect_rests t t.step asks)
