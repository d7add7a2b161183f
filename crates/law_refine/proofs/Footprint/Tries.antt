-- A try spares each part: the index where it neither searches nor publishes, and the latches where it works on none.
use Rattle.std.proofs.Common.{◌≡◌, ℕ, refl, sym, subst, inl, Bool, true, false}
use Rattle.std.specs.Prelude.{if◌then◌else◌, ◌==◌, ◌&&◌, not, nat_le, ⊤, Option, Some, None, ◌||◌}
use Rattle.fkv_base.specs.declared.numbers.Addr.{Addr}
use Rattle.fkv_base.specs.declared.numbers.Version.{Version}
use Rattle.fkv_map.specs.declared.operations.Reply.{Reply}
use Rattle.fkv_map.specs.Map.{absent_word}
use Rattle.fkv_map.specs.Keys.{key_of, reply_from}
use Rattle.fkv_words.specs.declared.phase_words.PhaseSaid.{PhaseSaid}
use Rattle.fkv_words.specs.PhaseWords.{phase_said}
use Rattle.fkv_plane.specs.declared.asks.Ask.{Ask}
use Rattle.fkv_plane.specs.declared.asks.Ask.TheVariants.{Done}
use Rattle.fkv_plane.specs.declared.places.Places.{Places}
use Rattle.fkv_plane.specs.declared.places.RecordWord.TheVariants as rec
use Rattle.fkv_latch.specs.declared.latching.LatchAnswer.{LatchAnswer}
use Rattle.fkv_latch.specs.declared.latching.LatchAnswer.TheVariants.{Taken}
use Rattle.fkv_latch.specs.declared.latching.LatchTask.TheVariants.{TakeShared, DropShared, TakeExclusive, DropExclusive}
use Rattle.fkv_latch.specs.Latching.{latch_next_ask}
use Rattle.law_world.specs.Below.fkv_log.Region.{Region}
use Rattle.law_world.specs.Below.fkv_log.Regions.{seen_region_of}
use Rattle.law_world.specs.Below.fkv_ops.Reason.TheVariants as reason
use Rattle.law_world.specs.Below.fkv_ops.TryAnswer.{TryAnswer}
use Rattle.law_world.specs.Below.fkv_ops.TryAnswer.TheVariants as answer
use Rattle.law_world.specs.Below.fkv_ops.AppendAnswer.{AppendAnswer}
use Rattle.law_world.specs.Below.fkv_ops.AppendAnswer.TheVariants as append
use Rattle.law_world.specs.Below.fkv_ops.HeldRecord.{HeldRecord}
use Rattle.law_world.specs.Below.fkv_ops.Occasion.{Occasion}
use Rattle.law_world.specs.Below.fkv_ops.Request.{Request}
use Rattle.law_world.specs.Below.fkv_ops.Seen.{Seen}
use Rattle.law_world.specs.Below.fkv_ops.OldValue.{OldValue}
use Rattle.law_world.specs.Below.fkv_ops.OldValue.TheVariants.{InMemory, Known}
use Rattle.law_world.specs.Below.fkv_ops.TheTrying.{Trying}
use Rattle.law_world.specs.Below.fkv_ops.TheTrying.TheVariants.{Ended, TakesShared, LoadsPhase, Walks, CountsTaken, LoadsSafe, SwapsValue, LoadsCurrent, ChangesValue, LoadsAnswer, TakesExclusive, LoadsOld, Appends, LoadsTail, LoadsTaken, DropsExclusive, DropsShared}
use Rattle.law_world.specs.Below.fkv_ops.WalkAnswer.{WalkAnswer}
use Rattle.law_world.specs.Below.fkv_ops.WalkAnswer.TheVariants as walk
use Rattle.law_world.specs.Below.fkv_ops.Values.{value_of}
use Rattle.law_world.specs.Below.fkv_ops.Requests.{purpose_at, is_read, is_blind, is_chain_end}
use Rattle.law_world.specs.Below.fkv_ops.Walking.{walk_ask, walk_next, walk_on}
use Rattle.law_world.specs.Below.fkv_ops.Appending.{append_ask, append_next}
use Rattle.law_world.specs.Below.fkv_ops.Trying.{TryState, trying_ask, try_ask, with_latch, is_wait, ended_without, ends_so, ends_by, is_bounded, tail_loaded, taken_loaded, must_count, count_loaded, ends, takes_effect, walks, wants_shared, try_begun, shared_ledto, must_shift, wants_exclusive, slot_of, words_of, appends, copies_from, copies, awaits, held_used, met_nowhere, met_disk, changes, is_own_version, region_met, met_record, walked, has_walked, walk_ledto, safe_loaded, current_ledto, value_changed, told_value, answer_ledto, exclusive_ledto, old_ledto, append_ledto, exclusive_dropped, shared_dropped, latch_moved, trying_next, try_next, new_try, is_next_marked, is_surely_own, is_still_in, phase_loaded}
use Rattle.fkv_latch.specs.declared.latching.Latching.TheVariants as latching
use Rattle.law_world.specs.Below.fkv_ops.TheWalking.{Walking}
use Rattle.law_world.specs.Below.fkv_ops.TheWalking.TheVariants as walking
use Rattle.law_refine.specs.Footprint.{Part, TheIndex, TheLatches, Spares}
use Rattle.law_refine.specs.Index.Finders.{walk_work, try_work, search_in, entry_in}
use Rattle.law_refine.specs.Latches.Latchers.{try_latching}
use Rattle.law_refine.proofs.Footprint.Latching.{passed_spares, IsAtLatch, latch_spares, latch_stays, latch_begins}
use Rattle.law_refine.proofs.OfIndex.TryParts.{TryKnowsAt}
use Rattle.law_refine.proofs.OfIndex.WalkParts.{is_finding}
use Rattle.law_refine.proofs.Footprint.Outside.{record_outside}
use Rattle.law_refine.proofs.Footprint.Walks.{IsWalkSparing, walk_spares, walk_next_spares, walk_on_spares, walk_begun_spares}
use Rattle.law_refine.proofs.Footprint.Appends.{IsAppendSparing, append_spares, append_next_spares, append_begun_spares}
use Rattle.law_world.specs.Below.fkv_ops.Bounds.{bounds_at, tail_bound, is_past_taken, is_past_tail}
use Rattle.law_world.specs.Below.fkv_ops.Waiting.{told_of, waiting_of}
use Rattle.law_world.specs.Below.fkv_ops.TheWaiting.{Waiting}

-- its walk up to where it appends, its append from there on, and the latch that it works on
abbrev pub TryBounds : Places → TryState → Trying → Type 0
TryBounds p t Walks = IsWalkSparing p t.walk
TryBounds p t CountsTaken = IsWalkSparing p t.walk
TryBounds p t (LoadsSafe addr version) = IsWalkSparing p t.walk
TryBounds p t (LoadsCurrent addr) = IsWalkSparing p t.walk
TryBounds p t LoadsAnswer = IsWalkSparing p t.walk
TryBounds p t (TakesExclusive old) = IsWalkSparing p t.walk × IsAtLatch p t.latching
TryBounds p t LoadsOld = IsWalkSparing p t.walk
TryBounds p t (Appends its) = IsAppendSparing p t.append
TryBounds p t TakesShared = IsAtLatch p t.latching
TryBounds p t (DropsExclusive its) = IsAtLatch p t.latching
TryBounds p t (DropsShared its) = IsAtLatch p t.latching
TryBounds p t step = ⊤

abbrev pub IsTrySparing : Places → TryState → Type 0
IsTrySparing p t = TryBounds p t t.step

-- no machine that works on the part is under way
pub record TryRests (part : Part) (t : TryState) (step : Trying) : Type 0 where
  pub knows : part ≡ TheIndex → TryKnowsAt t step
  pub search : part ≡ TheIndex → search_in (try_work t step) ≡ None
  pub entry : part ≡ TheIndex → entry_in (try_work t step) ≡ None
  pub latch : part ≡ TheLatches → try_latching t step ≡ latching.AtRest

-- a walk that is no search is past its search
walk_past : (t : TryState) (step : Walking) → search_in (walk_work t step) ≡ None → is_finding step ≡ false
walk_past t walking.Finds none = cc
walk_past t (walking.Ended its) none = refl
walk_past t (walking.Meets addr) none = refl
walk_past t (walking.HasFound addr version) none = refl
walk_past t walking.LoadsValue none = refl

-- what it asks for
trying_spares : (part : Part) (p : Places) (t : TryState) (step : Trying) → TryBounds p t step → TryRests part t step → Spares part p (trying_ask p t step)
unfolding trying_ask
trying_spares part p t (Ended its) bounds rests = tt
trying_spares part p t TakesShared bounds rests = passed_spares part p _ _ (latch_spares part p t.latching bounds rests.latch)
trying_spares part p t LoadsPhase bounds rests = tt
trying_spares part p t Walks bounds rests = passed_spares part p _ _ (walk_spares part p t.walk bounds (λ index. walk_past t t.walk.step (rests.search index)))
trying_spares part p t CountsTaken bounds rests = tt
trying_spares part p t (LoadsSafe addr version) bounds rests = tt
trying_spares part p t (SwapsValue addr) bounds rests = record_outside part p addr.0 rec.Value
trying_spares part p t (LoadsCurrent addr) bounds rests = passed_spares part p _ _ (walk_spares part p t.walk bounds rests.knows)
trying_spares part p t (ChangesValue addr old) bounds rests = inl (record_outside part p addr.0 rec.Value)
trying_spares part p t LoadsAnswer bounds rests = passed_spares part p _ _ (walk_spares part p t.walk bounds rests.knows)
trying_spares part p t (TakesExclusive old) bounds rests = passed_spares part p _ _ (latch_spares part p t.latching bounds.1 rests.latch)
trying_spares part p t LoadsOld bounds rests = passed_spares part p _ _ (walk_spares part p t.walk bounds (λ index. (rests.knows index).past))
trying_spares part p t (Appends its) bounds rests = passed_spares part p _ _ (append_spares part p t t.append bounds rests.entry)
trying_spares part p t (LoadsTail waiting) bounds rests = tt
trying_spares part p t (LoadsTaken waiting) bounds rests = tt
trying_spares part p t (DropsExclusive its) bounds rests = passed_spares part p _ _ (latch_spares part p t.latching bounds rests.latch)
trying_spares part p t (DropsShared its) bounds rests = passed_spares part p _ _ (latch_spares part p t.latching bounds rests.latch)

pub try_spares : (part : Part) (p : Places) (t : TryState) → IsTrySparing p t → TryRests part t t.step → Spares part p (try_ask p t)
try_spares part p t bounds rests = trying_spares part p t t.step bounds rests

-- where a reply leads
either_spares : (c : Bool) (p : Places) (a b : TryState) → IsTrySparing p a → IsTrySparing p b → IsTrySparing p (if c then a else b)
either_spares true p a b one other = one
either_spares false p a b one other = other

stays_spares : (p : Places) (t : TryState) (step : Trying) → t.step ≡ step → TryBounds p t step → IsTrySparing p t
stays_spares p t step at bounds = subst (λ x. TryBounds p t x) (sym at) bounds

without_spares : (p : Places) (t : TryState) (its : TryAnswer) → IsTrySparing p (ended_without p t its)
without_spares p t its = either_spares (t.has_shared && not (is_wait its)) p (with_latch p (record t { has_shared = false }) DropShared (DropsShared its)) (record t { step = Ended its }) (latch_begins p DropShared t.home.bucket) tt

ends_so_spares : (p : Places) (t : TryState) (its : TryAnswer) → IsTrySparing p (ends_so p t its)
unfolding ends_so
ends_so_spares p t its = either_spares t.has_exclusive p (with_latch p (record t { has_exclusive = false }) DropExclusive (DropsExclusive its)) (ended_without p t its) (latch_begins p DropExclusive t.home.bucket) (without_spares p t its)

ends_by_spares : (p : Places) (t : TryState) (its : TryAnswer) (waiting : Option Waiting) → IsTrySparing p (ends_by p t its waiting)
ends_by_spares p t its None = ends_so_spares p t its
ends_by_spares p t its (Some waiting) = either_spares (is_bounded t) p (record t { step = LoadsTail waiting }) (ends_so p t its) (tt) (ends_so_spares p t its)

ends_spares : (p : Places) (t : TryState) (its : TryAnswer) → IsTrySparing p (ends p t its)
unfolding ends
ends_spares p t its = ends_by_spares p t its (waiting_of its)

tail_spares : (p : Places) (t : TryState) (waiting : Waiting) (tail : ℕ) → IsTrySparing p (tail_loaded p t waiting tail)
unfolding tail_loaded
tail_spares p t waiting tail =
    either_spares (is_past_tail (bounds_at t.occasion) tail) p (ends_so p t answer.LogFull) (_) (ends_so_spares p t answer.LogFull) (either_spares (t.walk.entry == 0) p (record t { step = LoadsTaken waiting }) (ends_so p t (told_of waiting)) (tt) (ends_so_spares p t (told_of waiting)))

taken_spares : (p : Places) (t : TryState) (waiting : Waiting) (taken : ℕ) → IsTrySparing p (taken_loaded p t waiting taken)
unfolding taken_loaded
taken_spares p t waiting taken = either_spares (is_past_taken (bounds_at t.occasion) taken) p (ends_so p t answer.IndexFull) (ends_so p t (told_of waiting)) (ends_so_spares p t answer.IndexFull) (ends_so_spares p t (told_of waiting))

walks_spares : (p : Places) (t : TryState) → IsTrySparing p (walks p t)
walks_spares p t = walk_begun_spares p t.home (key_of t.request.op) (purpose_at t.occasion t.request.op) t.seen.offsets.head t.spare

appends_spares : (p : Places) (t : TryState) (old : ℕ) → IsWalkSparing p t.walk → IsTrySparing p (appends t old)
unfolding appends
appends_spares p t old bounds = append_begun_spares p (slot_of t) (words_of t.request t.walk.entry (value_of old)) (tail_bound (bounds_at t.occasion)) bounds.place

copies_from_spares : (p : Places) (t : TryState) (old : OldValue) → IsWalkSparing p t.walk → IsTrySparing p (copies_from t old)
unfolding copies_from
copies_from_spares p t (Known old) bounds = appends_spares p t old bounds
copies_from_spares p t InMemory bounds = either_spares (is_blind t.request.op) p (appends t absent_word) (record t { walk = walk_on t.walk; step = LoadsOld }) (appends_spares p t absent_word bounds) (walk_on_spares p t.walk bounds)

copies_spares : (p : Places) (t : TryState) (old : OldValue) (is_current : Bool) → IsWalkSparing p t.walk → IsTrySparing p (copies p t old is_current)
unfolding copies
copies_spares p t old is_current bounds = either_spares (wants_exclusive t is_current) p (with_latch p t TakeExclusive (TakesExclusive old)) (copies_from t old) (bounds, latch_begins p TakeExclusive t.home.bucket) (copies_from_spares p t old bounds)

held_spares : (p : Places) (t : TryState) (addr : Addr) (held : Option HeldRecord) → IsWalkSparing p t.walk → IsTrySparing p (held_used p t addr held)
unfolding held_used
held_spares p t addr None bounds = ends_spares p t _
held_spares p t addr (Some held) bounds =
    either_spares (held.entry == t.walk.entry) p _ (awaits p t addr)
    (either_spares (held.key.0 == (key_of t.request.op).0) p (copies p t (Known held.value) false) _ (copies_spares p t (Known held.value) false bounds)
    (either_spares (is_chain_end t.request.floor held.previous) p (copies p t (Known absent_word) false) (awaits p t held.previous)
    (copies_spares p t (Known absent_word) false bounds) (ends_spares p t _)))
    (ends_spares p t _)

nowhere_spares : (p : Places) (t : TryState) → IsWalkSparing p t.walk → IsTrySparing p (met_nowhere p t)
nowhere_spares p t bounds =
    either_spares (is_read t.request.op) p (ends p t answer.Absent) _ (ends_spares p t answer.Absent)
    (either_spares (must_count p t) p (record t { step = CountsTaken }) (copies p t (Known absent_word) false) bounds (copies_spares p t (Known absent_word) false bounds))

count_spares : (p : Places) (t : TryState) (taken : ℕ) → IsWalkSparing p t.walk → IsTrySparing p (count_loaded p t taken)
unfolding count_loaded
count_spares p t taken bounds = either_spares (is_past_taken (bounds_at t.occasion) taken) p (ends p t answer.IndexFull) (copies p t (Known absent_word) false) (ends_spares p t answer.IndexFull) (copies_spares p t (Known absent_word) false bounds)

disk_spares : (p : Places) (t : TryState) (addr : Addr) → IsWalkSparing p t.walk → IsTrySparing p (met_disk p t addr)
disk_spares p t addr bounds =
    either_spares (is_read t.request.op) p _ _
    (either_spares (is_chain_end t.request.floor addr) p (ends p t answer.Absent) (awaits p t addr) (ends_spares p t answer.Absent) (ends_spares p t _))
    (either_spares (is_blind t.request.op || is_chain_end t.request.floor addr) p (copies p t (Known absent_word) false) (held_used p t addr t.request.held)
    (copies_spares p t (Known absent_word) false bounds) (held_spares p t addr t.request.held bounds))

changes_spares : (p : Places) (t : TryState) (addr : Addr) → IsWalkSparing p t.walk → IsTrySparing p (changes t addr)
changes_spares p t addr bounds = either_spares (is_blind t.request.op) p (record t { step = SwapsValue addr }) (record t { walk = walk_on t.walk; step = LoadsCurrent addr }) tt (walk_on_spares p t.walk bounds)

region_spares : (p : Places) (t : TryState) (addr : Addr) (version : Version) (found : Option Region) → IsWalkSparing p t.walk → IsTrySparing p (region_met p t addr version found)
region_spares p t addr version None bounds = bounds
region_spares p t addr version (Some its) bounds = either_spares (is_own_version t version) p (changes t addr) (copies p t InMemory false) (changes_spares p t addr bounds) (copies_spares p t InMemory false bounds)

met_spares : (p : Places) (t : TryState) (addr : Addr) (version : Version) → IsWalkSparing p t.walk → IsTrySparing p (met_record p t addr version)
met_spares p t addr version bounds =
    either_spares (is_read t.request.op) p (record t { walk = walk_on t.walk; step = LoadsAnswer }) (region_met p t addr version (seen_region_of addr.0 t.seen.offsets))
    (walk_on_spares p t.walk bounds) (region_spares p t addr version (seen_region_of addr.0 t.seen.offsets) bounds)

walked_spares : (p : Places) (t : TryState) (its : WalkAnswer) → IsWalkSparing p t.walk → IsTrySparing p (walked p t its)
walked_spares p t (walk.Found addr version) bounds = met_spares p t addr version bounds
walked_spares p t walk.Nowhere bounds = nowhere_spares p t bounds
walked_spares p t (walk.OnDisk addr) bounds = disk_spares p t addr bounds
walked_spares p t (walk.Value value) bounds = ends_spares p t _
walked_spares p t walk.Full bounds = ends_spares p t _
walked_spares p t walk.Kept bounds = ends_spares p t _
walked_spares p t walk.Contended bounds = ends_spares p t _

walk_ledto_spares : (p : Places) (t : TryState) (ask : Ask WalkAnswer) → t.step ≡ Walks → IsWalkSparing p t.walk → IsTrySparing p (walk_ledto p t ask)
unfolding walk_ledto
walk_ledto_spares p t (Done its) at bounds =
    let after : TryState = record t { spare = t.walk.spare } in
    either_spares (has_walked its && must_shift after) p (ends p after answer.Shift) (walked p after its) (ends_spares p after answer.Shift) (walked_spares p after its bounds)
walk_ledto_spares p t ask at bounds = stays_spares p t Walks at bounds

safe_spares : (p : Places) (t : TryState) (addr : Addr) (version : Version) (safe : ℕ) → IsWalkSparing p t.walk → IsTrySparing p (safe_loaded p t addr version safe)
safe_spares p t addr version safe bounds = either_spares (nat_le safe addr.0) p (ends p t (answer.Wait reason.Fuzzy)) (copies p t InMemory (is_surely_own t version)) (ends_spares p t _) (copies_spares p t InMemory (is_surely_own t version) bounds)

current_spares : (p : Places) (t : TryState) (addr : Addr) (ask : Ask WalkAnswer) → t.step ≡ LoadsCurrent addr → IsWalkSparing p t.walk → IsTrySparing p (current_ledto p t addr ask)
unfolding current_ledto
current_spares p t addr (Done (walk.Value old)) at bounds = tt
current_spares p t addr (Done its) at bounds = ends_spares p t _
current_spares p t addr ask at bounds = stays_spares p t (LoadsCurrent addr) at bounds

value_spares : (p : Places) (t : TryState) (old found : ℕ) → IsTrySparing p (value_changed p t old found)
value_spares p t old found =
    either_spares (found == old) p (takes_effect p t (reply_from (value_of old) t.request.op)) (ends p t (answer.Wait reason.Contended)) (ends_spares p (record t { effect = Some (reply_from (value_of old) t.request.op) }) _) (ends_spares p t _)

answer_spares : (p : Places) (t : TryState) (ask : Ask WalkAnswer) → t.step ≡ LoadsAnswer → IsWalkSparing p t.walk → IsTrySparing p (answer_ledto p t ask)
unfolding answer_ledto
answer_spares p t (Done (walk.Value value)) at bounds = ends_spares p t (told_value (value_of value))
answer_spares p t (Done its) at bounds = ends_spares p t _
answer_spares p t ask at bounds = stays_spares p t LoadsAnswer at bounds

phase_spares : (p : Places) (t : TryState) (said : PhaseSaid) → IsTrySparing p (phase_loaded p t said)
unfolding phase_loaded
phase_spares p t said = either_spares (is_still_in said t.request.version) p (walks p t) (ends p t answer.Shift) (walks_spares p t) (ends_spares p t answer.Shift)

shared_spares : (p : Places) (t : TryState) (ask : Ask LatchAnswer) → t.step ≡ TakesShared → IsAtLatch p t.latching → IsTrySparing p (shared_ledto p t ask)
unfolding shared_ledto
shared_spares p t (Done Taken) at place = either_spares (is_next_marked t.request.version) p (record t { has_shared = true; step = LoadsPhase }) (walks p (record t { has_shared = true })) tt (walks_spares p (record t { has_shared = true }))
shared_spares p t (Done its) at place = ends_spares p t answer.Shift
shared_spares p t ask at place = stays_spares p t TakesShared at place

exclusive_spares : (p : Places) (t : TryState) (old : OldValue) (ask : Ask LatchAnswer) → t.step ≡ TakesExclusive old → IsWalkSparing p t.walk → IsAtLatch p t.latching → IsTrySparing p (exclusive_ledto p t old ask)
unfolding exclusive_ledto
exclusive_spares p t old (Done Taken) at bounds place = copies_from_spares p (record t { has_exclusive = true }) old bounds
exclusive_spares p t old (Done its) at bounds place = ends_spares p t _
exclusive_spares p t old ask at bounds place = stays_spares p t (TakesExclusive old) at (bounds, place)

old_spares : (p : Places) (t : TryState) (ask : Ask WalkAnswer) → t.step ≡ LoadsOld → IsWalkSparing p t.walk → IsTrySparing p (old_ledto p t ask)
unfolding old_ledto
old_spares p t (Done (walk.Value value)) at bounds = appends_spares p t value bounds
old_spares p t (Done its) at bounds = ends_spares p t _
old_spares p t ask at bounds = stays_spares p t LoadsOld at bounds

append_ledto_spares : (p : Places) (t : TryState) (its : Reply) (ask : Ask AppendAnswer) → t.step ≡ Appends its → IsAppendSparing p t.append → IsTrySparing p (append_ledto p t its ask)
unfolding append_ledto
append_ledto_spares p t its (Done append.Published) at bounds = ends_spares p (record t { effect = Some its }) (answer.Done its)
append_ledto_spares p t its (Done append.Full) at bounds = ends_spares p t _
append_ledto_spares p t its (Done append.NoRoom) at bounds = ends_spares p t _
append_ledto_spares p t its (Done append.Contended) at bounds = ends_spares p t _
append_ledto_spares p t its ask at bounds = stays_spares p t (Appends its) at bounds

dropped_spares : (p : Places) (t : TryState) (its : TryAnswer) (ask : Ask LatchAnswer) → t.step ≡ DropsExclusive its → IsAtLatch p t.latching → IsTrySparing p (exclusive_dropped p t its ask)
unfolding exclusive_dropped
dropped_spares p t its (Done told) at place = without_spares p t its
dropped_spares p t its ask at place = stays_spares p t (DropsExclusive its) at place

unshared_spares : (p : Places) (t : TryState) (its : TryAnswer) (ask : Ask LatchAnswer) → t.step ≡ DropsShared its → IsAtLatch p t.latching → IsTrySparing p (shared_dropped t its ask)
unfolding shared_dropped
unshared_spares p t its (Done told) at place = tt
unshared_spares p t its ask at place = stays_spares p t (DropsShared its) at place

next_spares : (p : Places) (room : ℕ) (t : TryState) (step : Trying) (reply : ℕ) → t.step ≡ step → TryBounds p t step → IsTrySparing p (trying_next p room t step reply)
unfolding trying_next
next_spares p room t (Ended its) reply at bounds = stays_spares p t (Ended its) at tt
next_spares p room t TakesShared reply at bounds = shared_spares p (latch_moved t reply) (latch_next_ask t.latching reply) at (latch_stays p t.latching reply bounds)
next_spares p room t LoadsPhase reply at bounds = phase_spares p t (phase_said reply)
next_spares p room t Walks reply at bounds = walk_ledto_spares p (record t { walk = walk_next p t.walk reply }) (walk_ask p (walk_next p t.walk reply)) at (walk_next_spares p t.walk reply bounds)
next_spares p room t CountsTaken reply at bounds = count_spares p t reply bounds
next_spares p room t (LoadsSafe addr version) reply at bounds = safe_spares p t addr version reply bounds
next_spares p room t (SwapsValue addr) reply at bounds = ends_spares p (record t { effect = Some (reply_from None t.request.op) }) _
next_spares p room t (LoadsCurrent addr) reply at bounds = current_spares p (record t { walk = walk_next p t.walk reply }) addr (walk_ask p (walk_next p t.walk reply)) at (walk_next_spares p t.walk reply bounds)
next_spares p room t (ChangesValue addr old) reply at bounds = value_spares p t old reply
next_spares p room t LoadsAnswer reply at bounds = answer_spares p (record t { walk = walk_next p t.walk reply }) (walk_ask p (walk_next p t.walk reply)) at (walk_next_spares p t.walk reply bounds)
next_spares p room t (TakesExclusive old) reply at bounds = exclusive_spares p (latch_moved t reply) old (latch_next_ask t.latching reply) at bounds.0 (latch_stays p t.latching reply bounds.1)
next_spares p room t LoadsOld reply at bounds = old_spares p (record t { walk = walk_next p t.walk reply }) (walk_ask p (walk_next p t.walk reply)) at (walk_next_spares p t.walk reply bounds)
next_spares p room t (Appends its) reply at bounds = append_ledto_spares p (record t { append = append_next p room t.append reply }) its (append_ask p (append_next p room t.append reply)) at (append_next_spares p room t.append reply bounds)
next_spares p room t (LoadsTail waiting) reply at bounds = tail_spares p t waiting reply
next_spares p room t (LoadsTaken waiting) reply at bounds = taken_spares p t waiting reply
next_spares p room t (DropsExclusive its) reply at bounds = dropped_spares p (latch_moved t reply) its (latch_next_ask t.latching reply) at (latch_stays p t.latching reply bounds)
next_spares p room t (DropsShared its) reply at bounds = unshared_spares p (latch_moved t reply) its (latch_next_ask t.latching reply) at (latch_stays p t.latching reply bounds)

-- the effect that was told is no matter
effect_spares : (p : Places) (t : TryState) (step : Trying) → TryBounds p t step → TryBounds p (record t { effect = None }) step
effect_spares p t (Ended its) bounds = tt
effect_spares p t (SwapsValue addr) bounds = tt
effect_spares p t (ChangesValue addr old) bounds = tt
effect_spares p t step bounds = bounds

-- each reply
pub try_next_spares : (p : Places) (room : ℕ) (t : TryState) (reply : ℕ) → IsTrySparing p t → IsTrySparing p (try_next p room t reply)
try_next_spares p room t reply bounds = next_spares p room (record t { effect = None }) t.step reply refl (effect_spares p t t.step bounds)

-- as it begins
pub try_begun_spares : (p : Places) (bits : ℕ) (request : Request) (seen : Seen) (occasion : Occasion) (spare : ℕ) → IsTrySparing p (try_begun p bits request seen occasion spare)
try_begun_spares p bits request seen occasion spare =
    let its : TryState = new_try bits request seen occasion spare in
    either_spares (wants_shared its) p (with_latch p its TakeShared TakesShared) (walks p its) (latch_begins p TakeShared its.home.bucket) (walks_spares p its)
