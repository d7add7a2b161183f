-- How a reply to a try moves what it has reserved, beside the log's events of the step: none but an append reserves anything.
use Rattle.std.proofs.Common.{◌≡◌, ℕ, ◌∙◌, refl, sym, ap, subst, Bool, true, false, List, [], ◌∷◌}
use Rattle.std.specs.Prelude.{◌==◌, ◌&&◌, not, nat_le, if◌then◌else◌, Option, Some, None, ◌||◌}
use Rattle.fkv_base.specs.declared.numbers.Addr.{Addr}
use Rattle.fkv_base.specs.declared.numbers.Version.{Version}
use Rattle.fkv_map.specs.declared.operations.Reply.{Reply}
use Rattle.fkv_map.specs.Map.{absent_word}
use Rattle.fkv_map.specs.Keys.{key_of, reply_from}
use Rattle.law_log.specs.Ghosts.{GhostEvent, Changes}
use Rattle.fkv_words.specs.declared.phase_words.PhaseSaid.{PhaseSaid}
use Rattle.fkv_words.specs.PhaseWords.{phase_said}
use Rattle.fkv_plane.specs.declared.asks.Ask.{Ask}
use Rattle.fkv_plane.specs.declared.asks.Ask.TheVariants.{Done}
use Rattle.fkv_plane.specs.declared.places.Places.{Places}
use Rattle.fkv_plane.specs.Asked.{asked, asked_place}
use Rattle.fkv_plane.specs.Passing.{is_done}
use Rattle.law_world.specs.Below.fkv_log.Region.{Region}
use Rattle.law_world.specs.Below.fkv_log.Regions.{seen_region_of}
use Rattle.fkv_latch.specs.declared.latching.LatchAnswer.{LatchAnswer}
use Rattle.fkv_latch.specs.declared.latching.LatchAnswer.TheVariants as latch
use Rattle.fkv_latch.specs.declared.latching.LatchTask.TheVariants.{TakeShared, DropShared, TakeExclusive, DropExclusive}
use Rattle.fkv_latch.specs.Latching.{latch_next_ask}
use Rattle.law_world.specs.Below.fkv_ops.Reason.TheVariants as reason
use Rattle.law_world.specs.Below.fkv_ops.TryAnswer.{TryAnswer}
use Rattle.law_world.specs.Below.fkv_ops.TryAnswer.TheVariants as answer
use Rattle.law_world.specs.Below.fkv_ops.TheAppending.{Appending}
use Rattle.law_world.specs.Below.fkv_ops.TheAppending.TheVariants as appending
use Rattle.law_world.specs.Below.fkv_ops.AppendAnswer.{AppendAnswer}
use Rattle.law_world.specs.Below.fkv_ops.AppendAnswer.TheVariants as append
use Rattle.law_world.specs.Below.fkv_ops.HeldRecord.{HeldRecord}
use Rattle.law_world.specs.Below.fkv_ops.Occasion.{Occasion}
use Rattle.law_world.specs.Below.fkv_ops.Request.{Request}
use Rattle.law_world.specs.Below.fkv_ops.Seen.{Seen}
use Rattle.law_world.specs.Below.fkv_ops.OldValue.{OldValue}
use Rattle.law_world.specs.Below.fkv_ops.OldValue.TheVariants.{InMemory, Known}
use Rattle.law_world.specs.Below.fkv_ops.TheTrying.{Trying}
use Rattle.law_world.specs.Below.fkv_ops.TheTrying.TheVariants.{Ended, TakesShared, LoadsPhase, Walks, CountsTaken, LoadsSafe, SwapsValue, LoadsCurrent, ChangesValue, LoadsAnswer, TakesExclusive, LoadsOld, Appends, LoadsTail, LoadsTaken, DropsExclusive, DropsShared}
use Rattle.law_world.specs.Below.fkv_ops.WalkAnswer.{WalkAnswer}
use Rattle.law_world.specs.Below.fkv_ops.WalkAnswer.TheVariants as walk
use Rattle.law_world.specs.Below.fkv_ops.Requests.{is_read, is_blind, is_chain_end}
use Rattle.law_world.specs.Below.fkv_ops.Values.{value_of}
use Rattle.law_world.specs.Below.fkv_ops.Walking.{walk_ask, walk_next, walk_on}
use Rattle.law_world.specs.Below.fkv_ops.Appending.{AppendState, append_ask, append_next}
use Rattle.law_world.specs.Below.fkv_ops.Trying.{TryState, with_latch, is_wait, ended_without, ends_so, ends_by, is_bounded, tail_loaded, taken_loaded, must_count, count_loaded, ends, takes_effect, full_at, walks, wants_shared, try_begun, shared_ledto, must_shift, wants_exclusive, appends, copies_from, copies, awaits, held_used, met_nowhere, met_disk, changes, is_own_version, region_met, met_record, walked, has_walked, walk_ledto, safe_loaded, current_ledto, value_changed, told_value, answer_ledto, exclusive_ledto, old_ledto, append_ledto, exclusive_dropped, shared_dropped, latch_moved, walk_moved, trying_ask, trying_next, try_ask, try_next, new_try, is_next_marked, is_still_in, phase_loaded, is_surely_own}
use Rattle.law_world.proofs.Below.fkv_ops.Shown.{is_append_end, append_done, append_rests, TryRestsOrAsks, IsAppendUnderWay}
use Rattle.law_world.specs.Below.fkv_pending.PendingRequest.{PendingRequest}
use Rattle.law_refine.specs.Events.Appends.{entry_made, append_ghosts, NewRecord, new_record}
use Rattle.law_refine.specs.Events.Reservations.{AreStill, MovesOn, Keeps, Reservation, append_reserves, try_reserves}
use Rattle.law_refine.specs.Events.Tries.{search_ghosts, try_ghosts}
use Rattle.law_refine.proofs.OfEvents.AppendSteps.{passes, append_on}
use Rattle.law_refine.proofs.OfEvents.Searches.{search_all}
use Rattle.law_world.specs.Below.fkv_ops.Bounds.{bounds_at, is_past_taken, is_past_tail}
use Rattle.law_world.specs.Below.fkv_ops.Waiting.{told_of, waiting_of}
use Rattle.law_world.specs.Below.fkv_ops.TheWaiting.{Waiting}

-- nothing is reserved by it
abbrev pub IsFree : TryState → Type 0
IsFree t = (session : ℕ) (pending : PendingRequest) → try_reserves session pending t t.step ≡ None

either_free : (c : Bool) (a b : TryState) → IsFree a → IsFree b → IsFree (if c then a else b)
either_free true a b one other = one
either_free false a b one other = other

without_free : (p : Places) (t : TryState) (its : TryAnswer) → IsFree (ended_without p t its)
without_free p t its =
    either_free (t.has_shared && not (is_wait its)) (with_latch p (record t { has_shared = false }) DropShared (DropsShared its)) (record t { step = Ended its }) (λ session pending. refl) (λ session pending. refl)

ends_so_free : (p : Places) (t : TryState) (its : TryAnswer) → IsFree (ends_so p t its)
unfolding ends_so
ends_so_free p t its = either_free t.has_exclusive (with_latch p (record t { has_exclusive = false }) DropExclusive (DropsExclusive its)) (ended_without p t its) (λ session pending. refl) (without_free p t its)

ends_by_free : (p : Places) (t : TryState) (its : TryAnswer) (waiting : Option Waiting) → IsFree (ends_by p t its waiting)
ends_by_free p t its None = ends_so_free p t its
ends_by_free p t its (Some waiting) = either_free (is_bounded t) (record t { step = LoadsTail waiting }) (ends_so p t its) (λ session pending. refl) (ends_so_free p t its)

ends_free : (p : Places) (t : TryState) (its : TryAnswer) → IsFree (ends p t its)
unfolding ends
ends_free p t its = ends_by_free p t its (waiting_of its)

tail_free : (p : Places) (t : TryState) (waiting : Waiting) (tail : ℕ) → IsFree (tail_loaded p t waiting tail)
unfolding tail_loaded
tail_free p t waiting tail =
    either_free (is_past_tail (bounds_at t.occasion) tail) (ends_so p t answer.LogFull) (if t.walk.entry == 0 then record t { step = LoadsTaken waiting } else ends_so p t (told_of waiting)) (ends_so_free p t answer.LogFull) (either_free (t.walk.entry == 0) (record t { step = LoadsTaken waiting }) (ends_so p t (told_of waiting)) (λ session pending. refl) (ends_so_free p t (told_of waiting)))

taken_free : (p : Places) (t : TryState) (waiting : Waiting) (taken : ℕ) → IsFree (taken_loaded p t waiting taken)
unfolding taken_loaded
taken_free p t waiting taken = either_free (is_past_taken (bounds_at t.occasion) taken) (ends_so p t answer.IndexFull) (ends_so p t (told_of waiting)) (ends_so_free p t answer.IndexFull) (ends_so_free p t (told_of waiting))

appends_free : (t : TryState) (old : ℕ) → IsFree (appends t old)
unfolding appends
appends_free t old = λ session pending. refl

copies_from_free : (t : TryState) (old : OldValue) → IsFree (copies_from t old)
unfolding copies_from
copies_from_free t (Known old) = appends_free t old
copies_from_free t InMemory = either_free (is_blind t.request.op) (appends t absent_word) (record t { walk = walk_on t.walk; step = LoadsOld }) (appends_free t absent_word) (λ session pending. refl)

copies_free : (p : Places) (t : TryState) (old : OldValue) (is_current : Bool) → IsFree (copies p t old is_current)
unfolding copies
copies_free p t old is_current = either_free (wants_exclusive t is_current) (with_latch p t TakeExclusive (TakesExclusive old)) (copies_from t old) (λ session pending. refl) (copies_from_free t old)

held_free : (p : Places) (t : TryState) (addr : Addr) (held : Option HeldRecord) → IsFree (held_used p t addr held)
unfolding held_used
held_free p t addr None = ends_free p t (answer.AwaitsDisk (record { entry = t.walk.entry; addr = addr }))
held_free p t addr (Some held) =
    either_free (held.entry == t.walk.entry)
    (if held.key.0 == (key_of t.request.op).0 then copies p t (Known held.value) false
    else if is_chain_end t.request.floor held.previous then copies p t (Known absent_word) false else awaits p t held.previous)
    (awaits p t addr)
    (either_free (held.key.0 == (key_of t.request.op).0) (copies p t (Known held.value) false)
    (if is_chain_end t.request.floor held.previous then copies p t (Known absent_word) false else awaits p t held.previous)
    (copies_free p t (Known held.value) false)
    (either_free (is_chain_end t.request.floor held.previous) (copies p t (Known absent_word) false) (awaits p t held.previous)
    (copies_free p t (Known absent_word) false) (ends_free p t (answer.AwaitsDisk (record { entry = t.walk.entry; addr = held.previous })))))
    (ends_free p t (answer.AwaitsDisk (record { entry = t.walk.entry; addr = addr })))

nowhere_free : (p : Places) (t : TryState) → IsFree (met_nowhere p t)
nowhere_free p t =
    either_free (is_read t.request.op) (ends p t answer.Absent) (if must_count p t then record t { step = CountsTaken } else copies p t (Known absent_word) false) (ends_free p t answer.Absent)
    (either_free (must_count p t) (record t { step = CountsTaken }) (copies p t (Known absent_word) false) (λ session pending. refl) (copies_free p t (Known absent_word) false))

count_free : (p : Places) (t : TryState) (taken : ℕ) → IsFree (count_loaded p t taken)
unfolding count_loaded
count_free p t taken = either_free (is_past_taken (bounds_at t.occasion) taken) (ends p t answer.IndexFull) (copies p t (Known absent_word) false) (ends_free p t answer.IndexFull) (copies_free p t (Known absent_word) false)

disk_free : (p : Places) (t : TryState) (addr : Addr) → IsFree (met_disk p t addr)
disk_free p t addr =
    let dead : Bool = is_chain_end t.request.floor addr in
    either_free (is_read t.request.op) (if dead then ends p t answer.Absent else awaits p t addr)
    (if is_blind t.request.op || dead then copies p t (Known absent_word) false else held_used p t addr t.request.held)
    (either_free dead (ends p t answer.Absent) (awaits p t addr) (ends_free p t answer.Absent)
    (ends_free p t (answer.AwaitsDisk (record { entry = t.walk.entry; addr = addr }))))
    (either_free (is_blind t.request.op || dead) (copies p t (Known absent_word) false) (held_used p t addr t.request.held)
    (copies_free p t (Known absent_word) false) (held_free p t addr t.request.held))

changes_free : (t : TryState) (addr : Addr) → IsFree (changes t addr)
changes_free t addr = either_free (is_blind t.request.op) (record t { step = SwapsValue addr }) (record t { walk = walk_on t.walk; step = LoadsCurrent addr }) (λ session pending. refl) (λ session pending. refl)

region_free : (p : Places) (t : TryState) (addr : Addr) (version : Version) (region : Option Region) → IsFree (region_met p t addr version region)
region_free p t addr version None = λ session pending. refl
region_free p t addr version (Some its) = either_free (is_own_version t version) (changes t addr) (copies p t InMemory false) (changes_free t addr) (copies_free p t InMemory false)

record_free : (p : Places) (t : TryState) (addr : Addr) (version : Version) → IsFree (met_record p t addr version)
record_free p t addr version =
    either_free (is_read t.request.op) (record t { walk = walk_on t.walk; step = LoadsAnswer }) (region_met p t addr version (seen_region_of addr.0 t.seen.offsets)) (λ session pending. refl) (region_free p t addr version (seen_region_of addr.0 t.seen.offsets))

walked_free : (p : Places) (t : TryState) (its : WalkAnswer) → IsFree (walked p t its)
walked_free p t (walk.Found addr version) = record_free p t addr version
walked_free p t walk.Nowhere = nowhere_free p t
walked_free p t (walk.OnDisk addr) = disk_free p t addr
walked_free p t (walk.Value value) = ends_free p t (answer.Wait reason.Contended)
walked_free p t walk.Full = ends_free p t (full_at t.occasion answer.IndexFull)
walked_free p t walk.Kept = ends_free p t (full_at t.occasion answer.IndexFull)
walked_free p t walk.Contended = ends_free p t (answer.Wait reason.Contended)

-- a try that begins
pub begun_free : (p : Places) (bits : ℕ) (request : Request) (seen : Seen) (occasion : Occasion) (spare : ℕ) → IsFree (try_begun p bits request seen occasion spare)
begun_free p bits request seen occasion spare =
    let its : TryState = new_try bits request seen occasion spare in
    either_free (wants_shared its) (with_latch p its TakeShared TakesShared) (walks p its) (λ session pending. refl) (λ session pending. refl)

-- ---- each state but an append
stays_free : (t : TryState) (step : Trying) → t.step ≡ step → ((session : ℕ) (pending : PendingRequest) → try_reserves session pending t step ≡ None) → IsFree t
stays_free t step at free = λ session pending. ap (try_reserves session pending t) at ∙ free session pending

shared_free : (p : Places) (t : TryState) (ask : Ask LatchAnswer) → t.step ≡ TakesShared → IsFree (shared_ledto p t ask)
unfolding shared_ledto
shared_free p t (Done latch.Taken) at = either_free (is_next_marked t.request.version) (record t { has_shared = true; step = LoadsPhase }) (walks p (record t { has_shared = true })) (λ session pending. refl) (λ session pending. refl)
shared_free p t (Done its) at = ends_free p t answer.Shift
shared_free p t ask at = stays_free t TakesShared at (λ session pending. refl)

phase_free : (p : Places) (t : TryState) (said : PhaseSaid) → IsFree (phase_loaded p t said)
unfolding phase_loaded
phase_free p t said = either_free (is_still_in said t.request.version) (walks p t) (ends p t answer.Shift) (λ session pending. refl) (ends_free p t answer.Shift)

walk_free : (p : Places) (t : TryState) (ask : Ask WalkAnswer) → t.step ≡ Walks → IsFree (walk_ledto p t ask)
unfolding walk_ledto
walk_free p t (Done its) at =
    either_free (has_walked its && must_shift (record t { spare = t.walk.spare })) (ends p (record t { spare = t.walk.spare }) answer.Shift) (walked p (record t { spare = t.walk.spare }) its)
    (ends_free p (record t { spare = t.walk.spare }) answer.Shift) (walked_free p (record t { spare = t.walk.spare }) its)
walk_free p t ask at = stays_free t Walks at (λ session pending. refl)

safe_free : (p : Places) (t : TryState) (addr : Addr) (version : Version) (safe : ℕ) → IsFree (safe_loaded p t addr version safe)
safe_free p t addr version safe =
    either_free (nat_le safe addr.0) (ends p t (answer.Wait reason.Fuzzy)) (copies p t InMemory (is_surely_own t version)) (ends_free p t (answer.Wait reason.Fuzzy)) (copies_free p t InMemory (is_surely_own t version))

current_free : (p : Places) (t : TryState) (addr : Addr) (ask : Ask WalkAnswer) → t.step ≡ LoadsCurrent addr → IsFree (current_ledto p t addr ask)
unfolding current_ledto
current_free p t addr (Done (walk.Value old)) at = λ session pending. refl
current_free p t addr (Done its) at = ends_free p t (answer.Wait reason.Contended)
current_free p t addr ask at = stays_free t (LoadsCurrent addr) at (λ session pending. refl)

effect_free : (p : Places) (t : TryState) (its : Reply) → IsFree (takes_effect p t its)
effect_free p t its = ends_free p (record t { effect = Some its }) (answer.Done its)

changed_free : (p : Places) (t : TryState) (old found : ℕ) → IsFree (value_changed p t old found)
changed_free p t old found =
    either_free (found == old) (takes_effect p t (reply_from (value_of old) t.request.op)) (ends p t (answer.Wait reason.Contended)) (effect_free p t (reply_from (value_of old) t.request.op)) (ends_free p t (answer.Wait reason.Contended))

answer_free : (p : Places) (t : TryState) (ask : Ask WalkAnswer) → t.step ≡ LoadsAnswer → IsFree (answer_ledto p t ask)
unfolding answer_ledto
answer_free p t (Done (walk.Value value)) at = ends_free p t (told_value (value_of value))
answer_free p t (Done its) at = ends_free p t (answer.Wait reason.Contended)
answer_free p t ask at = stays_free t LoadsAnswer at (λ session pending. refl)

exclusive_free : (p : Places) (t : TryState) (old : OldValue) (ask : Ask LatchAnswer) → t.step ≡ TakesExclusive old → IsFree (exclusive_ledto p t old ask)
unfolding exclusive_ledto
exclusive_free p t old (Done latch.Taken) at = copies_from_free (record t { has_exclusive = true }) old
exclusive_free p t old (Done its) at = ends_free p t (answer.Wait reason.Latch)
exclusive_free p t old ask at = stays_free t (TakesExclusive old) at (λ session pending. refl)

old_free : (p : Places) (t : TryState) (ask : Ask WalkAnswer) → t.step ≡ LoadsOld → IsFree (old_ledto p t ask)
unfolding old_ledto
old_free p t (Done (walk.Value value)) at = appends_free t value
old_free p t (Done its) at = ends_free p t (answer.Wait reason.Contended)
old_free p t ask at = stays_free t LoadsOld at (λ session pending. refl)

exclusive_dropped_free : (p : Places) (t : TryState) (its : TryAnswer) (ask : Ask LatchAnswer) → t.step ≡ DropsExclusive its → IsFree (exclusive_dropped p t its ask)
unfolding exclusive_dropped
exclusive_dropped_free p t its (Done told) at = without_free p t its
exclusive_dropped_free p t its ask at = stays_free t (DropsExclusive its) at (λ session pending. refl)

shared_dropped_free : (t : TryState) (its : TryAnswer) (ask : Ask LatchAnswer) → t.step ≡ DropsShared its → IsFree (shared_dropped t its ask)
unfolding shared_dropped
shared_dropped_free t its (Done told) at = λ session pending. refl
shared_dropped_free t its ask at = stays_free t (DropsShared its) at (λ session pending. refl)

-- ---- what they do leaves cells as they are
changed_still : (c : Bool) (its : GhostEvent) → AreStill (its ∷ []) → AreStill (if c then its ∷ [] else [])
changed_still true its still = still
changed_still false its still = tt

-- ---- an append's end is the try's
ended_holds_none : (a : AppendState) (made : NewRecord) (step : Appending) → is_append_end step ≡ true → append_reserves a made step ≡ None
ended_holds_none a made (appending.Ended its) ends = refl
ended_holds_none a made step ends = cc

append_ended_free : (p : Places) (t : TryState) (its : Reply) (told : AppendAnswer) → IsFree (append_ledto p t its (Done told))
unfolding append_ledto
append_ended_free p t its append.Published = effect_free p t its
append_ended_free p t its append.Full = ends_free p t (full_at t.occasion answer.LogFull)
append_ended_free p t its append.NoRoom = ends_free p t (answer.Wait reason.NoRoom)
append_ended_free p t its append.Contended = ends_free p t (answer.Wait reason.Contended)

append_holds : (session : ℕ) (pending : PendingRequest) (p : Places) (t : TryState) (its : Reply) (ask : Ask AppendAnswer) → t.step ≡ Appends its → is_done ask ≡ is_append_end t.append.step
    → append_reserves t.append (new_record session pending its) t.append.step ≡ try_reserves session pending (append_ledto p t its ask) (append_ledto p t its ask).step
unfolding append_ledto
append_holds session pending p t its (Done told) at ends = ended_holds_none t.append (new_record session pending its) t.append.step (sym ends) ∙ sym (append_ended_free p t its told session pending)
append_holds session pending p t its ask at ends = sym (ap (try_reserves session pending t) at)

under_way : (t : TryState) (its : Reply) → t.step ≡ Appends its → TryRestsOrAsks t → IsAppendUnderWay t.append
under_way t its at rests = subst (λ (x : Trying). TryRestsOrAsks (record t { step = x })) at rests

-- ---- each reply to a try
free_on : (place : Option ℕ) (change : ℕ → ℕ) (reply session : ℕ) (pending : PendingRequest) (events : List GhostEvent) (after : TryState) → AreStill events → IsFree after
    → MovesOn place change reply events None (try_reserves session pending after after.step)
free_on place change reply session pending events after still free = rw (free session pending) (Keeps events None still)

trying_on : (p : Places) (room session reader : ℕ) (pending : PendingRequest) (t : TryState) (step : Trying) (reply : ℕ) → t.step ≡ step → TryRestsOrAsks t
    → MovesOn (asked_place (trying_ask p t step)) (asked (trying_ask p t step)) reply (try_ghosts p room session reader pending t step reply) (try_reserves session pending t step)
    (try_reserves session pending (trying_next p room (record t { effect = None }) step reply) (trying_next p room (record t { effect = None }) step reply).step)
unfolding trying_next trying_ask
trying_on p room session reader pending t (Ended its) reply at rests = rw at (Keeps [] None tt)
trying_on p room session reader pending t TakesShared reply at rests = free_on _ _ reply session pending [] (trying_next p room (record t { effect = None }) TakesShared reply) tt (shared_free p (latch_moved (record t { effect = None }) reply) (latch_next_ask t.latching reply) at)
trying_on p room session reader pending t LoadsPhase reply at rests = free_on _ _ reply session pending [] (trying_next p room (record t { effect = None }) LoadsPhase reply) tt (phase_free p (record t { effect = None }) (phase_said reply))
trying_on p room session reader pending t Walks reply at rests = free_on _ _ reply session pending (search_ghosts p pending.request.op reader t.walk reply) (trying_next p room (record t { effect = None }) Walks reply) (search_all AreStill tt reader (tt, tt) p pending.request.op t.walk reply)
    (walk_free p (walk_moved p (record t { effect = None }) reply) (walk_ask p (walk_next p t.walk reply)) at)
trying_on p room session reader pending t CountsTaken reply at rests = free_on _ _ reply session pending [] (trying_next p room (record t { effect = None }) CountsTaken reply) tt (count_free p (record t { effect = None }) reply)
trying_on p room session reader pending t (LoadsSafe addr version) reply at rests = free_on _ _ reply session pending [] (trying_next p room (record t { effect = None }) (LoadsSafe addr version) reply) tt (safe_free p (record t { effect = None }) addr version reply)
trying_on p room session reader pending t (SwapsValue addr) reply at rests =
    free_on _ _ reply session pending (Changes addr.0 (entry_made session pending (reply_from None t.request.op)) ∷ []) (trying_next p room (record t { effect = None }) (SwapsValue addr) reply) (tt, tt) (effect_free p (record t { effect = None }) (reply_from None t.request.op))
trying_on p room session reader pending t (LoadsCurrent addr) reply at rests = free_on _ _ reply session pending [] (trying_next p room (record t { effect = None }) (LoadsCurrent addr) reply) tt (current_free p (walk_moved p (record t { effect = None }) reply) addr (walk_ask p (walk_next p t.walk reply)) at)
trying_on p room session reader pending t (ChangesValue addr old) reply at rests =
    free_on _ _ reply session pending (if reply == old then Changes addr.0 (entry_made session pending (reply_from (value_of old) t.request.op)) ∷ [] else []) (trying_next p room (record t { effect = None }) (ChangesValue addr old) reply)
    (changed_still (reply == old) (Changes addr.0 (entry_made session pending (reply_from (value_of old) t.request.op))) (tt, tt)) (changed_free p (record t { effect = None }) old reply)
trying_on p room session reader pending t LoadsAnswer reply at rests = free_on _ _ reply session pending [] (trying_next p room (record t { effect = None }) LoadsAnswer reply) tt (answer_free p (walk_moved p (record t { effect = None }) reply) (walk_ask p (walk_next p t.walk reply)) at)
trying_on p room session reader pending t (TakesExclusive old) reply at rests = free_on _ _ reply session pending [] (trying_next p room (record t { effect = None }) (TakesExclusive old) reply) tt (exclusive_free p (latch_moved (record t { effect = None }) reply) old (latch_next_ask t.latching reply) at)
trying_on p room session reader pending t LoadsOld reply at rests = free_on _ _ reply session pending [] (trying_next p room (record t { effect = None }) LoadsOld reply) tt (old_free p (walk_moved p (record t { effect = None }) reply) (walk_ask p (walk_next p t.walk reply)) at)
trying_on p room session reader pending t (Appends its) reply at rests =
    let way : IsAppendUnderWay t.append = under_way t its at rests in
    let made = new_record session pending its in
    let a : AppendState = append_next p room t.append reply in
    let after : TryState = record t { effect = None; append = a } in
    let held = append_holds session pending p after its (append_ask p a) at (append_done p a (append_rests p room t.append reply way.asks)) in
    passes (append_ask p t.append) answer.Shift reply _ _ _ (subst (λ (x : Option Reservation). MovesOn (asked_place (append_ask p t.append)) (asked (append_ask p t.append)) reply (append_ghosts room t.append made t.append.step reply) (append_reserves t.append made t.append.step) x) held (append_on p room t.append made reply))
trying_on p room session reader pending t (LoadsTail waiting) reply at rests = free_on _ _ reply session pending [] (trying_next p room (record t { effect = None }) (LoadsTail waiting) reply) tt (tail_free p (record t { effect = None }) waiting reply)
trying_on p room session reader pending t (LoadsTaken waiting) reply at rests = free_on _ _ reply session pending [] (trying_next p room (record t { effect = None }) (LoadsTaken waiting) reply) tt (taken_free p (record t { effect = None }) waiting reply)
trying_on p room session reader pending t (DropsExclusive its) reply at rests = free_on _ _ reply session pending [] (trying_next p room (record t { effect = None }) (DropsExclusive its) reply) tt (exclusive_dropped_free p (latch_moved (record t { effect = None }) reply) its (latch_next_ask t.latching reply) at)
trying_on p room session reader pending t (DropsShared its) reply at rests = free_on _ _ reply session pending [] (trying_next p room (record t { effect = None }) (DropsShared its) reply) tt (shared_dropped_free (latch_moved (record t { effect = None }) reply) its (latch_next_ask t.latching reply) at)

pub try_on : (p : Places) (room session reader : ℕ) (pending : PendingRequest) (t : TryState) (reply : ℕ) → TryRestsOrAsks t
    → MovesOn (asked_place (try_ask p t)) (asked (try_ask p t)) reply (try_ghosts p room session reader pending t t.step reply) (try_reserves session pending t t.step)
    (try_reserves session pending (try_next p room t reply) (try_next p room t reply).step)
try_on p room session reader pending t reply rests = trying_on p room session reader pending t t.step reply refl rests
