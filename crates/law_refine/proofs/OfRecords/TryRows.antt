-- So it is with a try: what stands of the record that it appends is what its append has stored.
use Rattle.std.proofs.Common.{◌≡◌, ℕ, refl, sym, subst, Bool, true, false}
use Rattle.std.specs.Prelude.{◌==◌, ◌&&◌, not, nat_le, if◌then◌else◌, ⊤, Option, Some, None, ◌||◌}
use Rattle.fkv_base.specs.declared.numbers.Addr.{Addr}
use Rattle.fkv_base.specs.declared.numbers.Version.{Version}
use Rattle.fkv_map.specs.declared.operations.Reply.{Reply}
use Rattle.fkv_map.specs.Map.{absent_word}
use Rattle.fkv_map.specs.Keys.{key_of, reply_from}
use Rattle.fkv_words.specs.declared.phase_words.PhaseSaid.{PhaseSaid}
use Rattle.fkv_words.specs.PhaseWords.{phase_said}
use Rattle.fkv_plane.specs.declared.asks.Ask.{Ask}
use Rattle.fkv_plane.specs.declared.asks.Ask.TheVariants.{Done}
use Rattle.fkv_plane.specs.declared.places.Places.{Places}
use Rattle.law_world.specs.Below.fkv_log.Region.{Region}
use Rattle.law_world.specs.Below.fkv_log.Regions.{seen_region_of}
use Rattle.fkv_latch.specs.declared.latching.LatchAnswer.{LatchAnswer}
use Rattle.fkv_latch.specs.declared.latching.LatchAnswer.TheVariants as latch
use Rattle.fkv_latch.specs.declared.latching.LatchTask.TheVariants.{TakeShared, DropShared, TakeExclusive, DropExclusive}
use Rattle.law_world.specs.Below.fkv_ops.Reason.TheVariants as reason
use Rattle.law_world.specs.Below.fkv_ops.TryAnswer.{TryAnswer}
use Rattle.law_world.specs.Below.fkv_ops.TryAnswer.TheVariants as answer
use Rattle.law_world.specs.Below.fkv_ops.AppendAnswer.{AppendAnswer}
use Rattle.law_world.specs.Below.fkv_ops.AppendAnswer.TheVariants as append
use Rattle.law_world.specs.Below.fkv_ops.HeldRecord.{HeldRecord}
use Rattle.law_world.specs.Below.fkv_ops.Occasion.{Occasion}
use Rattle.law_world.specs.Below.fkv_ops.Request.{Request}
use Rattle.law_world.specs.Below.fkv_ops.Seen.{Seen}
use Rattle.law_world.specs.Below.fkv_ops.OldValue.{OldValue}
use Rattle.law_world.specs.Below.fkv_ops.OldValue.TheVariants.{InMemory, Known}
use Rattle.law_world.specs.Below.fkv_ops.TheTrying.{Trying}
use Rattle.law_world.specs.Below.fkv_ops.TheTrying.TheVariants.{Ended, TakesShared, LoadsPhase, Walks, CountsTaken, LoadsSafe, SwapsValue, LoadsCurrent, ChangesValue, LoadsAnswer, TakesExclusive, LoadsOld, Appends, LoadsTail, LoadsTaken, DropsExclusive, DropsShared}
use Rattle.law_world.specs.Below.fkv_ops.WalkAnswer.{WalkAnswer}
use Rattle.law_world.specs.Below.fkv_ops.WalkAnswer.TheVariants as walk
use Rattle.law_world.specs.Below.fkv_ops.Requests.{is_read, is_blind, is_chain_end}
use Rattle.law_world.specs.Below.fkv_ops.Values.{value_of}
use Rattle.law_world.specs.Below.fkv_ops.Walking.{walk_on}
use Rattle.law_world.specs.Below.fkv_ops.Appending.{append_ask, append_next}
use Rattle.law_world.specs.Below.fkv_ops.Trying.{TryState, with_latch, is_wait, ended_without, ends_so as ends_now, ends_by, is_bounded, tail_loaded, taken_loaded, must_count, count_loaded, ends, takes_effect, full_at, wants_shared, walks, try_begun, shared_ledto, must_shift, wants_exclusive, appends, copies_from, copies, awaits, held_used, changes, is_own_version, region_met, walked, has_walked, walk_ledto, safe_loaded, current_ledto, value_changed, told_value, answer_ledto, exclusive_ledto, old_ledto, append_ledto, exclusive_dropped, shared_dropped, trying_next, try_next, new_try, is_next_marked, is_still_in, phase_loaded, is_surely_own}
use Rattle.law_refine.proofs.OfRecords.AppendRows.{Standing, AppendStands, AppendWrites, append_so}
use Rattle.law_world.specs.Below.fkv_ops.Bounds.{bounds_at, is_past_taken, is_past_tail}
use Rattle.law_world.specs.Below.fkv_ops.Waiting.{told_of, waiting_of}
use Rattle.law_world.specs.Below.fkv_ops.TheWaiting.{Waiting}

abbrev pub TryStands : Standing → TryState → Trying → Type 0
TryStands stands t (Appends its) = AppendStands stands t.append t.append.step
TryStands stands t step = ⊤

abbrev pub TryWrites : Standing → Standing → TryState → Trying → Type 0
TryWrites stands after t (Appends its) = AppendWrites stands after t.append t.append.step
TryWrites stands after t step = ⊤

abbrev pub TryStandsNow : Standing → TryState → Type 0
TryStandsNow stands t = TryStands stands t t.step

either_so : (after : Standing) (c : Bool) (a b : TryState) → TryStandsNow after a → TryStandsNow after b → TryStandsNow after (if c then a else b)
either_so after true a b one other = one
either_so after false a b one other = other

still : (after : Standing) (t : TryState) (step : Trying) → t.step ≡ step → TryStands after t step → TryStandsNow after t
still after t step at its = subst (TryStands after t) (sym at) its

ended_so : (after : Standing) (p : Places) (t : TryState) (its : TryAnswer) → TryStandsNow after (ended_without p t its)
ended_so after p t its = either_so after (t.has_shared && not (is_wait its)) (with_latch p (record t { has_shared = false }) DropShared (DropsShared its)) (record t { step = Ended its }) tt tt

ends_so_so : (after : Standing) (p : Places) (t : TryState) (its : TryAnswer) → TryStandsNow after (ends_now p t its)
unfolding ends_now
ends_so_so after p t its = either_so after t.has_exclusive (with_latch p (record t { has_exclusive = false }) DropExclusive (DropsExclusive its)) (ended_without p t its) tt (ended_so after p t its)

ends_by_so : (after : Standing) (p : Places) (t : TryState) (its : TryAnswer) (waiting : Option Waiting) → TryStandsNow after (ends_by p t its waiting)
ends_by_so after p t its None = ends_so_so after p t its
ends_by_so after p t its (Some waiting) = either_so after (is_bounded t) (record t { step = LoadsTail waiting }) (ends_now p t its) (tt) (ends_so_so after p t its)

ends_so : (after : Standing) (p : Places) (t : TryState) (its : TryAnswer) → TryStandsNow after (ends p t its)
unfolding ends
ends_so after p t its = ends_by_so after p t its (waiting_of its)

tail_so : (after : Standing) (p : Places) (t : TryState) (waiting : Waiting) (tail : ℕ) → TryStandsNow after (tail_loaded p t waiting tail)
unfolding tail_loaded
tail_so after p t waiting tail =
    either_so after (is_past_tail (bounds_at t.occasion) tail) (ends_now p t answer.LogFull) (_) (ends_so_so after p t answer.LogFull) (either_so after (t.walk.entry == 0) (record t { step = LoadsTaken waiting }) (ends_now p t (told_of waiting)) (tt) (ends_so_so after p t (told_of waiting)))

taken_so : (after : Standing) (p : Places) (t : TryState) (waiting : Waiting) (taken : ℕ) → TryStandsNow after (taken_loaded p t waiting taken)
unfolding taken_loaded
taken_so after p t waiting taken = either_so after (is_past_taken (bounds_at t.occasion) taken) (ends_now p t answer.IndexFull) (ends_now p t (told_of waiting)) (ends_so_so after p t answer.IndexFull) (ends_so_so after p t (told_of waiting))

appends_so : (after : Standing) (t : TryState) (old : ℕ) → TryStandsNow after (appends t old)
unfolding appends
appends_so after t old = refl

from_so : (after : Standing) (t : TryState) (old : OldValue) → TryStandsNow after (copies_from t old)
unfolding copies_from
from_so after t (Known old) = appends_so after t old
from_so after t InMemory = either_so after (is_blind t.request.op) (appends t absent_word) (record t { walk = walk_on t.walk; step = LoadsOld }) (appends_so after t absent_word) tt

copies_so : (after : Standing) (p : Places) (t : TryState) (old : OldValue) (is_current : Bool) → TryStandsNow after (copies p t old is_current)
unfolding copies
copies_so after p t old is_current = either_so after (wants_exclusive t is_current) (with_latch p t TakeExclusive (TakesExclusive old)) (copies_from t old) tt (from_so after t old)

count_so : (after : Standing) (p : Places) (t : TryState) (taken : ℕ) → TryStandsNow after (count_loaded p t taken)
unfolding count_loaded
count_so after p t taken = either_so after (is_past_taken (bounds_at t.occasion) taken) (ends p t answer.IndexFull) (copies p t (Known absent_word) false) (ends_so after p t answer.IndexFull) (copies_so after p t (Known absent_word) false)

held_so : (after : Standing) (p : Places) (t : TryState) (addr : Addr) (held : Option HeldRecord) → TryStandsNow after (held_used p t addr held)
unfolding held_used
held_so after p t addr None = ends_so after p t _
held_so after p t addr (Some held) =
    either_so after (held.entry == t.walk.entry) _ (awaits p t addr)
    (either_so after (held.key.0 == (key_of t.request.op).0) (copies p t (Known held.value) false) _ (copies_so after p t (Known held.value) false)
    (either_so after (is_chain_end t.request.floor held.previous) (copies p t (Known absent_word) false) (awaits p t held.previous)
    (copies_so after p t (Known absent_word) false) (ends_so after p t _)))
    (ends_so after p t _)

region_so : (after : Standing) (p : Places) (t : TryState) (addr : Addr) (found : Version) (its : Option Region) → TryStandsNow after (region_met p t addr found its)
region_so after p t addr found None = tt
region_so after p t addr found (Some its) =
    either_so after (is_own_version t found) (changes t addr) (copies p t InMemory false)
    (either_so after (is_blind t.request.op) (record t { step = SwapsValue addr }) (record t { walk = walk_on t.walk; step = LoadsCurrent addr }) tt tt) (copies_so after p t InMemory false)

walked_so : (after : Standing) (p : Places) (t : TryState) (its : WalkAnswer) → TryStandsNow after (walked p t its)
walked_so after p t (walk.Found addr found) =
    either_so after (is_read t.request.op) (record t { walk = walk_on t.walk; step = LoadsAnswer }) (region_met p t addr found (seen_region_of addr.0 t.seen.offsets)) tt (region_so after p t addr found (seen_region_of addr.0 t.seen.offsets))
walked_so after p t walk.Nowhere =
    either_so after (is_read t.request.op) (ends p t answer.Absent) _ (ends_so after p t answer.Absent)
    (either_so after (must_count p t) (record t { step = CountsTaken }) (copies p t (Known absent_word) false) tt (copies_so after p t (Known absent_word) false))
walked_so after p t (walk.OnDisk addr) =
    either_so after (is_read t.request.op) _ _
    (either_so after (is_chain_end t.request.floor addr) (ends p t answer.Absent) (awaits p t addr) (ends_so after p t answer.Absent) (ends_so after p t _))
    (either_so after (is_blind t.request.op || is_chain_end t.request.floor addr) (copies p t (Known absent_word) false) (held_used p t addr t.request.held)
    (copies_so after p t (Known absent_word) false) (held_so after p t addr t.request.held))
walked_so after p t (walk.Value value) = ends_so after p t (answer.Wait reason.Contended)
walked_so after p t walk.Full = ends_so after p t (full_at t.occasion answer.IndexFull)
walked_so after p t walk.Kept = ends_so after p t (full_at t.occasion answer.IndexFull)
walked_so after p t walk.Contended = ends_so after p t (answer.Wait reason.Contended)

shared_so : (after : Standing) (p : Places) (t : TryState) (ask : Ask LatchAnswer) → t.step ≡ TakesShared → TryStandsNow after (shared_ledto p t ask)
unfolding shared_ledto
shared_so after p t (Done latch.Taken) at = either_so after (is_next_marked t.request.version) (record t { has_shared = true; step = LoadsPhase }) (walks p (record t { has_shared = true })) tt tt
shared_so after p t (Done told) at = ends_so after p t answer.Shift
shared_so after p t ask at = still after t TakesShared at tt

phase_so : (after : Standing) (p : Places) (t : TryState) (said : PhaseSaid) → TryStandsNow after (phase_loaded p t said)
unfolding phase_loaded
phase_so after p t said = either_so after (is_still_in said t.request.version) (walks p t) (ends p t answer.Shift) tt (ends_so after p t answer.Shift)

walk_so : (after : Standing) (p : Places) (t : TryState) (ask : Ask WalkAnswer) → t.step ≡ Walks → TryStandsNow after (walk_ledto p t ask)
unfolding walk_ledto
walk_so after p t (Done told) at =
    let there : TryState = record t { spare = t.walk.spare } in
    either_so after (has_walked told && must_shift there) (ends p there answer.Shift) (walked p there told) (ends_so after p there answer.Shift) (walked_so after p there told)
walk_so after p t ask at = still after t Walks at tt

safe_so : (after : Standing) (p : Places) (t : TryState) (addr : Addr) (found : Version) (safe : ℕ) → TryStandsNow after (safe_loaded p t addr found safe)
safe_so after p t addr found safe =
    either_so after (nat_le safe addr.0) (ends p t (answer.Wait reason.Fuzzy)) (copies p t InMemory (is_surely_own t found)) (ends_so after p t (answer.Wait reason.Fuzzy)) (copies_so after p t InMemory (is_surely_own t found))

current_so : (after : Standing) (p : Places) (t : TryState) (addr : Addr) (ask : Ask WalkAnswer) → t.step ≡ LoadsCurrent addr → TryStandsNow after (current_ledto p t addr ask)
unfolding current_ledto
current_so after p t addr (Done (walk.Value old)) at = tt
current_so after p t addr (Done told) at = ends_so after p t (answer.Wait reason.Contended)
current_so after p t addr ask at = still after t (LoadsCurrent addr) at tt

changed_so : (after : Standing) (p : Places) (t : TryState) (old found : ℕ) → TryStandsNow after (value_changed p t old found)
changed_so after p t old found =
    either_so after (found == old) (takes_effect p t (reply_from (value_of old) t.request.op)) (ends p t (answer.Wait reason.Contended))
    (ends_so after p (record t { effect = Some (reply_from (value_of old) t.request.op) }) (answer.Done (reply_from (value_of old) t.request.op))) (ends_so after p t (answer.Wait reason.Contended))

answer_so : (after : Standing) (p : Places) (t : TryState) (ask : Ask WalkAnswer) → t.step ≡ LoadsAnswer → TryStandsNow after (answer_ledto p t ask)
unfolding answer_ledto
answer_so after p t (Done (walk.Value value)) at = ends_so after p t (told_value (value_of value))
answer_so after p t (Done told) at = ends_so after p t (answer.Wait reason.Contended)
answer_so after p t ask at = still after t LoadsAnswer at tt

exclusive_so : (after : Standing) (p : Places) (t : TryState) (old : OldValue) (ask : Ask LatchAnswer) → t.step ≡ TakesExclusive old → TryStandsNow after (exclusive_ledto p t old ask)
unfolding exclusive_ledto
exclusive_so after p t old (Done latch.Taken) at = from_so after (record t { has_exclusive = true }) old
exclusive_so after p t old (Done told) at = ends_so after p t (answer.Wait reason.Latch)
exclusive_so after p t old ask at = still after t (TakesExclusive old) at tt

old_so : (after : Standing) (p : Places) (t : TryState) (ask : Ask WalkAnswer) → t.step ≡ LoadsOld → TryStandsNow after (old_ledto p t ask)
unfolding old_ledto
old_so after p t (Done (walk.Value value)) at = appends_so after t value
old_so after p t (Done told) at = ends_so after p t (answer.Wait reason.Contended)
old_so after p t ask at = still after t LoadsOld at tt

append_led : (after : Standing) (p : Places) (t : TryState) (its : Reply) (ask : Ask AppendAnswer) → t.step ≡ Appends its → AppendStands after t.append t.append.step → TryStandsNow after (append_ledto p t its ask)
unfolding append_ledto
append_led after p t its (Done append.Published) at so = ends_so after p (record t { effect = Some its }) (answer.Done its)
append_led after p t its (Done append.Full) at so = ends_so after p t (full_at t.occasion answer.LogFull)
append_led after p t its (Done append.NoRoom) at so = ends_so after p t (answer.Wait reason.NoRoom)
append_led after p t its (Done append.Contended) at so = ends_so after p t (answer.Wait reason.Contended)
append_led after p t its ask at so = still after t (Appends its) at so

exclusive_dropped_so : (after : Standing) (p : Places) (t : TryState) (end : TryAnswer) (ask : Ask LatchAnswer) → t.step ≡ DropsExclusive end → TryStandsNow after (exclusive_dropped p t end ask)
unfolding exclusive_dropped
exclusive_dropped_so after p t end (Done told) at = ended_so after p t end
exclusive_dropped_so after p t end ask at = still after t (DropsExclusive end) at tt

shared_dropped_so : (after : Standing) (t : TryState) (end : TryAnswer) (ask : Ask LatchAnswer) → t.step ≡ DropsShared end → TryStandsNow after (shared_dropped t end ask)
unfolding shared_dropped
shared_dropped_so after t end (Done told) at = tt
shared_dropped_so after t end ask at = still after t (DropsShared end) at tt

-- each reply to it
step_so : (stands after : Standing) (p : Places) (room : ℕ) (t : TryState) (step : Trying) (reply : ℕ) → t.step ≡ step → TryStands stands t step → TryWrites stands after t step → TryStandsNow after (trying_next p room t step reply)
unfolding trying_next
step_so stands after p room t (Ended end) reply at so writes = still after t (Ended end) at tt
step_so stands after p room t TakesShared reply at so writes = shared_so after p _ _ at
step_so stands after p room t LoadsPhase reply at so writes = phase_so after p t (phase_said reply)
step_so stands after p room t Walks reply at so writes = walk_so after p _ _ at
step_so stands after p room t CountsTaken reply at so writes = count_so after p t reply
step_so stands after p room t (LoadsSafe addr found) reply at so writes = safe_so after p t addr found reply
step_so stands after p room t (SwapsValue addr) reply at so writes = ends_so after p (record t { effect = Some (reply_from None t.request.op) }) (answer.Done (reply_from None t.request.op))
step_so stands after p room t (LoadsCurrent addr) reply at so writes = current_so after p _ addr _ at
step_so stands after p room t (ChangesValue addr old) reply at so writes = changed_so after p t old reply
step_so stands after p room t LoadsAnswer reply at so writes = answer_so after p _ _ at
step_so stands after p room t (TakesExclusive old) reply at so writes = exclusive_so after p _ old _ at
step_so stands after p room t LoadsOld reply at so writes = old_so after p _ _ at
step_so stands after p room t (Appends its) reply at so writes =
    append_led after p (record t { append = append_next p room t.append reply }) its (append_ask p (append_next p room t.append reply)) at (append_so stands after p room t.append t.append.step reply refl so writes)
step_so stands after p room t (LoadsTail waiting) reply at so writes = tail_so after p t waiting reply
step_so stands after p room t (LoadsTaken waiting) reply at so writes = taken_so after p t waiting reply
step_so stands after p room t (DropsExclusive end) reply at so writes = exclusive_dropped_so after p _ end _ at
step_so stands after p room t (DropsShared end) reply at so writes = shared_dropped_so after _ end _ at

pub try_so : (stands after : Standing) (p : Places) (room : ℕ) (t : TryState) (reply : ℕ) → TryStandsNow stands t → TryWrites stands after t t.step → TryStandsNow after (try_next p room t reply)
try_so stands after p room t reply so writes = step_so stands after p room (record t { effect = None }) t.step reply refl (quietened t.step so) (quiet_writes t.step writes)
  where
    quietened : (step : Trying) → TryStands stands t step → TryStands stands (record t { effect = None }) step
    quietened (Appends made) so = so
    quietened step so = tt

    quiet_writes : (step : Trying) → TryWrites stands after t step → TryWrites stands after (record t { effect = None }) step
    quiet_writes (Appends made) so = so
    quiet_writes step so = tt

pub begun_so : (after : Standing) (p : Places) (bits : ℕ) (request : Request) (seen : Seen) (occasion : Occasion) (spare : ℕ) → TryStandsNow after (try_begun p bits request seen occasion spare)
begun_so after p bits request seen occasion spare =
    let its : TryState = new_try bits request seen occasion spare in
    either_so after (wants_shared its) (with_latch p its TakeShared TakesShared) (walks p its) tt tt
