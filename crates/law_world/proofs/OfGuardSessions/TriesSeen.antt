-- A try changes a value in place only at or above the read-only offset that its session has seen.
use Rattle.std.proofs.Common.{◌≡◌, ℕ, ◌<◌, ◌≤◌, refl, sym, subst, arith, Bool, true, false}
use Rattle.std.proofs.lemmas.Bool.Decides.{nat_tests}
use Rattle.std.specs.Prelude.{if◌then◌else◌, ◌==◌, ◌&&◌, ◌||◌, not, nat_le, nat_lt, ⊤, Option, Some, None}
use Rattle.fkv_base.specs.declared.numbers.Addr.{Addr}
use Rattle.fkv_base.specs.declared.numbers.Version.{Version}
use Rattle.fkv_map.specs.declared.operations.Reply.{Reply}
use Rattle.fkv_map.specs.Map.{absent_word}
use Rattle.fkv_map.specs.Keys.{key_of, reply_from}
use Rattle.fkv_words.specs.declared.phase_words.PhaseSaid.{PhaseSaid}
use Rattle.fkv_words.specs.PhaseWords.{phase_said}
use Rattle.fkv_plane.specs.declared.asks.Ask.{Ask}
use Rattle.fkv_plane.specs.declared.asks.Ask.TheVariants.{Done}
use Rattle.fkv_plane.specs.declared.places.Places.{Places}
use Rattle.fkv_latch.specs.declared.latching.LatchAnswer.{LatchAnswer}
use Rattle.fkv_latch.specs.declared.latching.LatchAnswer.TheVariants.{Taken}
use Rattle.fkv_latch.specs.declared.latching.LatchTask.TheVariants.{TakeShared, DropShared, TakeExclusive, DropExclusive}
use Rattle.fkv_latch.specs.Latching.{latch_next_ask}
use Rattle.fkv_log.specs.declared.regions.Region.TheVariants.{Disk, Mutable}
use Rattle.fkv_log.specs.Regions.{seen_region_of}
use Rattle.fkv_ops.specs.declared.answers.Reason.TheVariants as reason
use Rattle.fkv_ops.specs.declared.answers.TryAnswer.{TryAnswer}
use Rattle.fkv_ops.specs.declared.answers.TryAnswer.TheVariants as answer
use Rattle.fkv_ops.specs.declared.appending.AppendAnswer.{AppendAnswer}
use Rattle.fkv_ops.specs.declared.appending.AppendAnswer.TheVariants as append
use Rattle.fkv_ops.specs.declared.requests.HeldRecord.{HeldRecord}
use Rattle.fkv_ops.specs.declared.requests.Occasion.{Occasion}
use Rattle.fkv_ops.specs.declared.requests.Request.{Request}
use Rattle.fkv_ops.specs.declared.requests.Seen.{Seen}
use Rattle.fkv_ops.specs.declared.trying.OldValue.{OldValue}
use Rattle.fkv_ops.specs.declared.trying.OldValue.TheVariants.{InMemory, Known}
use Rattle.fkv_ops.specs.declared.trying.Trying.{Trying}
use Rattle.fkv_ops.specs.declared.trying.Trying.TheVariants.{Ended, TakesShared, LoadsPhase, Walks, CountsTaken, LoadsSafe, SwapsValue, LoadsCurrent, ChangesValue, LoadsAnswer, TakesExclusive, LoadsOld, Appends, LoadsTail, LoadsTaken, DropsExclusive, DropsShared}
use Rattle.fkv_ops.specs.declared.walking.WalkAnswer.{WalkAnswer}
use Rattle.fkv_ops.specs.declared.walking.WalkAnswer.TheVariants as walk
use Rattle.fkv_ops.specs.Values.{value_of}
use Rattle.fkv_ops.specs.Requests.{is_read, is_blind, is_chain_end}
use Rattle.fkv_ops.specs.Walking.{walk_ask, walk_next, walk_on}
use Rattle.fkv_ops.specs.Appending.{append_ask, append_next}
use Rattle.fkv_ops.specs.Trying.{TryState, with_latch, is_wait, ended_without, ends_so, ends, is_bounded, ends_by, tail_loaded, taken_loaded, must_count, count_loaded, takes_effect, walks, wants_shared, try_begun, shared_ledto, must_shift, wants_exclusive, appends, copies_from, copies, awaits, held_used, met_nowhere, met_disk, changes, is_own_version, region_met, met_record, walked, has_walked, walk_ledto, safe_loaded, current_ledto, value_changed, told_value, answer_ledto, exclusive_ledto, old_ledto, append_ledto, exclusive_dropped, shared_dropped, latch_moved, trying_next, try_next, new_try, is_next_marked, is_still_in, phase_loaded, is_surely_own}
use Rattle.law_world.proofs.OfGuardSessions.WalksSeen.{IsWalkAbove, TellsAbove, AsksAbove, walk_tells_above, walk_next_above}
use Rattle.fkv_ops.specs.Bounds.{bounds_at, is_past_taken, is_past_tail}
use Rattle.fkv_ops.specs.Waiting.{told_of, waiting_of}
use Rattle.fkv_ops.specs.declared.answers.Waiting.{Waiting}

-- by its step: its walk goes by the head that was seen, and what it has come to change lies at or above the read-only offset
abbrev pub TryAbove : TryState → Trying → Type 0
TryAbove t Walks = IsWalkAbove t.seen.offsets.head.0 t.walk
TryAbove t (SwapsValue addr) = t.seen.offsets.read_only.0 ≤ addr.0
TryAbove t (LoadsCurrent addr) = t.seen.offsets.read_only.0 ≤ addr.0
TryAbove t (ChangesValue addr old) = t.seen.offsets.read_only.0 ≤ addr.0
TryAbove t step = ⊤

-- and it keeps what it has seen
pub record IsTryAbove (seen : Seen) (t : TryState) : Type 0 where
  pub same : t.seen ≡ seen
  pub above : TryAbove t t.step

-- where a reply leads
either_above : (c : Bool) (seen : Seen) (a b : TryState) → IsTryAbove seen a → IsTryAbove seen b → IsTryAbove seen (if c then a else b)
either_above true seen a b one other = one
either_above false seen a b one other = other

stays_above : (seen : Seen) (t : TryState) (step : Trying) → t.step ≡ step → t.seen ≡ seen → TryAbove t step → IsTryAbove seen t
stays_above seen t step at same above = record { same = same; above = subst (λ x. TryAbove t x) (sym at) above }

without_above : (p : Places) (seen : Seen) (t : TryState) (its : TryAnswer) → t.seen ≡ seen → IsTryAbove seen (ended_without p t its)
without_above p seen t its same =
    either_above (t.has_shared && not (is_wait its)) seen (with_latch p (record t { has_shared = false }) DropShared (DropsShared its)) (record t { step = Ended its }) (record { same = same; above = tt }) (record { same = same; above = tt })

ends_so_above : (p : Places) (seen : Seen) (t : TryState) (its : TryAnswer) → t.seen ≡ seen → IsTryAbove seen (ends_so p t its)
unfolding ends_so
ends_so_above p seen t its same = either_above t.has_exclusive seen (with_latch p (record t { has_exclusive = false }) DropExclusive (DropsExclusive its)) (ended_without p t its) (record { same = same; above = tt }) (without_above p seen t its same)

ends_by_above : (p : Places) (seen : Seen) (t : TryState) (its : TryAnswer) (waiting : Option Waiting) → t.seen ≡ seen → IsTryAbove seen (ends_by p t its waiting)
ends_by_above p seen t its None same = ends_so_above p seen t its same
ends_by_above p seen t its (Some waiting) same = either_above (is_bounded t) seen (record t { step = LoadsTail waiting }) (ends_so p t its) (record { same = same; above = tt }) (ends_so_above p seen t its same)

ends_above : (p : Places) (seen : Seen) (t : TryState) (its : TryAnswer) → t.seen ≡ seen → IsTryAbove seen (ends p t its)
unfolding ends
ends_above p seen t its same = ends_by_above p seen t its (waiting_of its) same

tail_above : (p : Places) (seen : Seen) (t : TryState) (waiting : Waiting) (tail : ℕ) → t.seen ≡ seen → IsTryAbove seen (tail_loaded p t waiting tail)
unfolding tail_loaded
tail_above p seen t waiting tail same =
    either_above (is_past_tail (bounds_at t.occasion) tail) seen (ends_so p t answer.LogFull) _ (ends_so_above p seen t answer.LogFull same)
    (either_above (t.walk.entry == 0) seen (record t { step = LoadsTaken waiting }) (ends_so p t (told_of waiting)) (record { same = same; above = tt }) (ends_so_above p seen t (told_of waiting) same))

taken_above : (p : Places) (seen : Seen) (t : TryState) (waiting : Waiting) (taken : ℕ) → t.seen ≡ seen → IsTryAbove seen (taken_loaded p t waiting taken)
unfolding taken_loaded
taken_above p seen t waiting taken same = either_above (is_past_taken (bounds_at t.occasion) taken) seen (ends_so p t answer.IndexFull) (ends_so p t (told_of waiting)) (ends_so_above p seen t answer.IndexFull same) (ends_so_above p seen t (told_of waiting) same)

walks_above : (p : Places) (seen : Seen) (t : TryState) → t.seen ≡ seen → IsTryAbove seen (walks p t)
walks_above p seen t same = record { same = same; above = record { same = refl; above = tt } }

appends_above : (seen : Seen) (t : TryState) (old : ℕ) → t.seen ≡ seen → IsTryAbove seen (appends t old)
unfolding appends
appends_above seen t old same = record { same = same; above = tt }

copies_from_above : (seen : Seen) (t : TryState) (old : OldValue) → t.seen ≡ seen → IsTryAbove seen (copies_from t old)
unfolding copies_from
copies_from_above seen t (Known old) same = appends_above seen t old same
copies_from_above seen t InMemory same = either_above (is_blind t.request.op) seen (appends t absent_word) (record t { walk = walk_on t.walk; step = LoadsOld }) (appends_above seen t absent_word same) (record { same = same; above = tt })

copies_above : (p : Places) (seen : Seen) (t : TryState) (old : OldValue) (is_current : Bool) → t.seen ≡ seen → IsTryAbove seen (copies p t old is_current)
unfolding copies
copies_above p seen t old is_current same = either_above (wants_exclusive t is_current) seen (with_latch p t TakeExclusive (TakesExclusive old)) (copies_from t old) (record { same = same; above = tt }) (copies_from_above seen t old same)

held_above : (p : Places) (seen : Seen) (t : TryState) (addr : Addr) (held : Option HeldRecord) → t.seen ≡ seen → IsTryAbove seen (held_used p t addr held)
unfolding held_used
held_above p seen t addr None same = ends_above p seen t _ same
held_above p seen t addr (Some held) same =
    either_above (held.entry == t.walk.entry) seen _ (awaits p t addr)
    (either_above (held.key.0 == (key_of t.request.op).0) seen (copies p t (Known held.value) false) _ (copies_above p seen t (Known held.value) false same)
    (either_above (is_chain_end t.request.floor held.previous) seen (copies p t (Known absent_word) false) (awaits p t held.previous) (copies_above p seen t (Known absent_word) false same) (ends_above p seen t _ same)))
    (ends_above p seen t _ same)

nowhere_above : (p : Places) (seen : Seen) (t : TryState) → t.seen ≡ seen → IsTryAbove seen (met_nowhere p t)
nowhere_above p seen t same =
    either_above (is_read t.request.op) seen (ends p t answer.Absent) _ (ends_above p seen t answer.Absent same)
    (either_above (must_count p t) seen (record t { step = CountsTaken }) (copies p t (Known absent_word) false) (record { same = same; above = tt }) (copies_above p seen t (Known absent_word) false same))

count_above : (p : Places) (seen : Seen) (t : TryState) (taken : ℕ) → t.seen ≡ seen → IsTryAbove seen (count_loaded p t taken)
unfolding count_loaded
count_above p seen t taken same = either_above (is_past_taken (bounds_at t.occasion) taken) seen (ends p t answer.IndexFull) (copies p t (Known absent_word) false) (ends_above p seen t answer.IndexFull same) (copies_above p seen t (Known absent_word) false same)

disk_above : (p : Places) (seen : Seen) (t : TryState) (addr : Addr) → t.seen ≡ seen → IsTryAbove seen (met_disk p t addr)
disk_above p seen t addr same =
    either_above (is_read t.request.op) seen _ _
    (either_above (is_chain_end t.request.floor addr) seen (ends p t answer.Absent) (awaits p t addr) (ends_above p seen t _ same) (ends_above p seen t _ same))
    (either_above (is_blind t.request.op || is_chain_end t.request.floor addr) seen (copies p t (Known absent_word) false) (held_used p t addr t.request.held)
    (copies_above p seen t (Known absent_word) false same) (held_above p seen t addr t.request.held same))

changes_above : (seen : Seen) (t : TryState) (addr : Addr) → t.seen ≡ seen → t.seen.offsets.read_only.0 ≤ addr.0 → IsTryAbove seen (changes t addr)
changes_above seen t addr same high = either_above (is_blind t.request.op) seen (record t { step = SwapsValue addr }) (record t { walk = walk_on t.walk; step = LoadsCurrent addr }) (record { same = same; above = high }) (record { same = same; above = high })

-- a record at or above the head lies in the mutable region, or its region isn't seen
region_above : (p : Places) (seen : Seen) (t : TryState) (addr : Addr) (version : Version) → t.seen ≡ seen → t.seen.offsets.head.0 ≤ addr.0 → IsTryAbove seen (region_met p t addr version (seen_region_of addr.0 t.seen.offsets))
region_above p seen t addr version same high = by_head (nat_lt addr.0 t.seen.offsets.head.0) refl
  where
    by_offset : (b : Bool) → nat_le t.seen.offsets.read_only.0 addr.0 ≡ b → IsTryAbove seen (region_met p t addr version (if b then Some Mutable else None))
    by_offset true e =
        let over : t.seen.offsets.read_only.0 ≤ addr.0 = grind (arith, nat_tests, e) in
        either_above (is_own_version t version) seen (changes t addr) (copies p t InMemory false) (changes_above seen t addr same over) (copies_above p seen t InMemory false same)
    by_offset false e = record { same = same; above = tt }

    by_head : (b : Bool) → nat_lt addr.0 t.seen.offsets.head.0 ≡ b → IsTryAbove seen (region_met p t addr version (if b then Some Disk else if nat_le t.seen.offsets.read_only.0 addr.0 then Some Mutable else None))
    by_head true e = let low : addr.0 < t.seen.offsets.head.0 = grind (arith, nat_tests, e) in absurd (omega (arith, low, high))
    by_head false e = by_offset (nat_le t.seen.offsets.read_only.0 addr.0) refl

met_above : (p : Places) (seen : Seen) (t : TryState) (addr : Addr) (version : Version) → t.seen ≡ seen → t.seen.offsets.head.0 ≤ addr.0 → IsTryAbove seen (met_record p t addr version)
met_above p seen t addr version same high =
    either_above (is_read t.request.op) seen (record t { walk = walk_on t.walk; step = LoadsAnswer }) (region_met p t addr version (seen_region_of addr.0 t.seen.offsets)) (record { same = same; above = tt }) (region_above p seen t addr version same high)

walked_above : (p : Places) (seen : Seen) (t : TryState) (its : WalkAnswer) → t.seen ≡ seen → TellsAbove t.seen.offsets.head.0 its → IsTryAbove seen (walked p t its)
walked_above p seen t (walk.Found addr version) same tells = met_above p seen t addr version same tells
walked_above p seen t walk.Nowhere same tells = nowhere_above p seen t same
walked_above p seen t (walk.OnDisk addr) same tells = disk_above p seen t addr same
walked_above p seen t (walk.Value value) same tells = ends_above p seen t _ same
walked_above p seen t walk.Full same tells = ends_above p seen t _ same
walked_above p seen t walk.Kept same tells = ends_above p seen t _ same
walked_above p seen t walk.Contended same tells = ends_above p seen t _ same

walk_ledto_above : (p : Places) (seen : Seen) (t : TryState) (ask : Ask WalkAnswer) → t.step ≡ Walks → t.seen ≡ seen → IsWalkAbove t.seen.offsets.head.0 t.walk → AsksAbove t.seen.offsets.head.0 ask → IsTryAbove seen (walk_ledto p t ask)
unfolding walk_ledto
walk_ledto_above p seen t (Done its) at same above tells =
    let after : TryState = record t { spare = t.walk.spare } in
    either_above (has_walked its && must_shift after) seen (ends p after answer.Shift) (walked p after its) (ends_above p seen after answer.Shift same) (walked_above p seen after its same tells)
walk_ledto_above p seen t ask at same above tells = stays_above seen t Walks at same above

safe_above : (p : Places) (seen : Seen) (t : TryState) (addr : Addr) (version : Version) (safe : ℕ) → t.seen ≡ seen → IsTryAbove seen (safe_loaded p t addr version safe)
safe_above p seen t addr version safe same = either_above (nat_le safe addr.0) seen (ends p t (answer.Wait reason.Fuzzy)) (copies p t InMemory (is_surely_own t version)) (ends_above p seen t _ same) (copies_above p seen t InMemory (is_surely_own t version) same)

current_above : (p : Places) (seen : Seen) (t : TryState) (addr : Addr) (ask : Ask WalkAnswer) → t.step ≡ LoadsCurrent addr → t.seen ≡ seen → t.seen.offsets.read_only.0 ≤ addr.0 → IsTryAbove seen (current_ledto p t addr ask)
unfolding current_ledto
current_above p seen t addr (Done (walk.Value old)) at same above = record { same = same; above = above }
current_above p seen t addr (Done its) at same above = ends_above p seen t _ same
current_above p seen t addr ask at same above = stays_above seen t (LoadsCurrent addr) at same above

value_above : (p : Places) (seen : Seen) (t : TryState) (old found : ℕ) → t.seen ≡ seen → IsTryAbove seen (value_changed p t old found)
value_above p seen t old found same =
    either_above (found == old) seen (takes_effect p t (reply_from (value_of old) t.request.op)) (ends p t (answer.Wait reason.Contended))
    (ends_above p seen (record t { effect = Some (reply_from (value_of old) t.request.op) }) _ same) (ends_above p seen t _ same)

answer_above : (p : Places) (seen : Seen) (t : TryState) (ask : Ask WalkAnswer) → t.step ≡ LoadsAnswer → t.seen ≡ seen → IsTryAbove seen (answer_ledto p t ask)
unfolding answer_ledto
answer_above p seen t (Done (walk.Value value)) at same = ends_above p seen t (told_value (value_of value)) same
answer_above p seen t (Done its) at same = ends_above p seen t _ same
answer_above p seen t ask at same = stays_above seen t LoadsAnswer at same tt

phase_above : (p : Places) (seen : Seen) (t : TryState) (said : PhaseSaid) → t.seen ≡ seen → IsTryAbove seen (phase_loaded p t said)
unfolding phase_loaded
phase_above p seen t said same = either_above (is_still_in said t.request.version) seen (walks p t) (ends p t answer.Shift) (walks_above p seen t same) (ends_above p seen t answer.Shift same)

shared_above : (p : Places) (seen : Seen) (t : TryState) (ask : Ask LatchAnswer) → t.step ≡ TakesShared → t.seen ≡ seen → IsTryAbove seen (shared_ledto p t ask)
unfolding shared_ledto
shared_above p seen t (Done Taken) at same =
    either_above (is_next_marked t.request.version) seen (record t { has_shared = true; step = LoadsPhase }) (walks p (record t { has_shared = true })) (record { same = same; above = tt }) (walks_above p seen (record t { has_shared = true }) same)
shared_above p seen t (Done its) at same = ends_above p seen t answer.Shift same
shared_above p seen t ask at same = stays_above seen t TakesShared at same tt

exclusive_above : (p : Places) (seen : Seen) (t : TryState) (old : OldValue) (ask : Ask LatchAnswer) → t.step ≡ TakesExclusive old → t.seen ≡ seen → IsTryAbove seen (exclusive_ledto p t old ask)
unfolding exclusive_ledto
exclusive_above p seen t old (Done Taken) at same = copies_from_above seen (record t { has_exclusive = true }) old same
exclusive_above p seen t old (Done its) at same = ends_above p seen t _ same
exclusive_above p seen t old ask at same = stays_above seen t (TakesExclusive old) at same tt

old_above : (p : Places) (seen : Seen) (t : TryState) (ask : Ask WalkAnswer) → t.step ≡ LoadsOld → t.seen ≡ seen → IsTryAbove seen (old_ledto p t ask)
unfolding old_ledto
old_above p seen t (Done (walk.Value value)) at same = appends_above seen t value same
old_above p seen t (Done its) at same = ends_above p seen t _ same
old_above p seen t ask at same = stays_above seen t LoadsOld at same tt

append_ledto_above : (p : Places) (seen : Seen) (t : TryState) (its : Reply) (ask : Ask AppendAnswer) → t.step ≡ Appends its → t.seen ≡ seen → IsTryAbove seen (append_ledto p t its ask)
unfolding append_ledto
append_ledto_above p seen t its (Done append.Published) at same = ends_above p seen (record t { effect = Some its }) (answer.Done its) same
append_ledto_above p seen t its (Done append.Full) at same = ends_above p seen t _ same
append_ledto_above p seen t its (Done append.NoRoom) at same = ends_above p seen t _ same
append_ledto_above p seen t its (Done append.Contended) at same = ends_above p seen t _ same
append_ledto_above p seen t its ask at same = stays_above seen t (Appends its) at same tt

dropped_above : (p : Places) (seen : Seen) (t : TryState) (its : TryAnswer) (ask : Ask LatchAnswer) → t.step ≡ DropsExclusive its → t.seen ≡ seen → IsTryAbove seen (exclusive_dropped p t its ask)
unfolding exclusive_dropped
dropped_above p seen t its (Done told) at same = without_above p seen t its same
dropped_above p seen t its ask at same = stays_above seen t (DropsExclusive its) at same tt

unshared_above : (seen : Seen) (t : TryState) (its : TryAnswer) (ask : Ask LatchAnswer) → t.step ≡ DropsShared its → t.seen ≡ seen → IsTryAbove seen (shared_dropped t its ask)
unfolding shared_dropped
unshared_above seen t its (Done told) at same = record { same = same; above = tt }
unshared_above seen t its ask at same = stays_above seen t (DropsShared its) at same tt

next_above : (p : Places) (room : ℕ) (seen : Seen) (t : TryState) (step : Trying) (reply : ℕ) → t.step ≡ step → t.seen ≡ seen → TryAbove t step → IsTryAbove seen (trying_next p room t step reply)
unfolding trying_next
next_above p room seen t (Ended its) reply at same above = stays_above seen t (Ended its) at same tt
next_above p room seen t TakesShared reply at same above = shared_above p seen (latch_moved t reply) (latch_next_ask t.latching reply) at same
next_above p room seen t LoadsPhase reply at same above = phase_above p seen t (phase_said reply) same
next_above p room seen t Walks reply at same above =
    let after = walk_next_above p t.seen.offsets.head.0 t.walk reply above in
    walk_ledto_above p seen (record t { walk = walk_next p t.walk reply }) (walk_ask p (walk_next p t.walk reply)) at same after (walk_tells_above p t.seen.offsets.head.0 (walk_next p t.walk reply) after)
next_above p room seen t CountsTaken reply at same above = count_above p seen t reply same
next_above p room seen t (LoadsSafe addr version) reply at same above = safe_above p seen t addr version reply same
next_above p room seen t (SwapsValue addr) reply at same above = ends_above p seen (record t { effect = Some (reply_from None t.request.op) }) _ same
next_above p room seen t (LoadsCurrent addr) reply at same above = current_above p seen (record t { walk = walk_next p t.walk reply }) addr (walk_ask p (walk_next p t.walk reply)) at same above
next_above p room seen t (ChangesValue addr old) reply at same above = value_above p seen t old reply same
next_above p room seen t LoadsAnswer reply at same above = answer_above p seen (record t { walk = walk_next p t.walk reply }) (walk_ask p (walk_next p t.walk reply)) at same
next_above p room seen t (TakesExclusive old) reply at same above = exclusive_above p seen (latch_moved t reply) old (latch_next_ask t.latching reply) at same
next_above p room seen t LoadsOld reply at same above = old_above p seen (record t { walk = walk_next p t.walk reply }) (walk_ask p (walk_next p t.walk reply)) at same
next_above p room seen t (Appends its) reply at same above = append_ledto_above p seen (record t { append = append_next p room t.append reply }) its (append_ask p (append_next p room t.append reply)) at same
next_above p room seen t (LoadsTail waiting) reply at same above = tail_above p seen t waiting reply same
next_above p room seen t (LoadsTaken waiting) reply at same above = taken_above p seen t waiting reply same
next_above p room seen t (DropsExclusive its) reply at same above = dropped_above p seen (latch_moved t reply) its (latch_next_ask t.latching reply) at same
next_above p room seen t (DropsShared its) reply at same above = unshared_above seen (latch_moved t reply) its (latch_next_ask t.latching reply) at same

-- the effect that was told is no matter
effect_above : (t : TryState) (step : Trying) → TryAbove t step → TryAbove (record t { effect = None }) step
effect_above t Walks above = above
effect_above t (SwapsValue addr) above = above
effect_above t (LoadsCurrent addr) above = above
effect_above t (ChangesValue addr old) above = above
effect_above t (Ended its) above = tt
effect_above t TakesShared above = tt
effect_above t LoadsPhase above = tt
effect_above t CountsTaken above = tt
effect_above t (LoadsSafe addr version) above = tt
effect_above t LoadsAnswer above = tt
effect_above t (TakesExclusive old) above = tt
effect_above t LoadsOld above = tt
effect_above t (Appends its) above = tt
effect_above t (LoadsTail waiting) above = tt
effect_above t (LoadsTaken waiting) above = tt
effect_above t (DropsExclusive its) above = tt
effect_above t (DropsShared its) above = tt

-- each reply
pub try_next_above : (p : Places) (room : ℕ) (seen : Seen) (t : TryState) (reply : ℕ) → IsTryAbove seen t → IsTryAbove seen (try_next p room t reply)
try_next_above p room seen t reply its = next_above p room seen (record t { effect = None }) t.step reply refl its.same (effect_above t t.step its.above)

-- as it begins
pub try_begun_above : (p : Places) (bits : ℕ) (request : Request) (seen : Seen) (occasion : Occasion) (spare : ℕ) → IsTryAbove seen (try_begun p bits request seen occasion spare)
try_begun_above p bits request seen occasion spare =
    let its : TryState = new_try bits request seen occasion spare in
    either_above (wants_shared its) seen (with_latch p its TakeShared TakesShared) (walks p its) (record { same = refl; above = tt }) (walks_above p seen its refl)
