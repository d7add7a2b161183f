-- A try keeps its request, what its session has seen, and the entry that its walk goes by.
use Rattle.std.proofs.Common.{◌≡◌, ℕ, ◌∙◌, refl, ap, Bool, true, false, Option, Some, None}
use Rattle.std.specs.Prelude.{◌==◌, ◌&&◌, ◌||◌, not, nat_le, if◌then◌else◌}
use Rattle.fkv_base.specs.declared.numbers.Addr.{Addr}
use Rattle.fkv_base.specs.declared.numbers.Version.{Version}
use Rattle.fkv_marks.specs.Marks.{mark}
use Rattle.fkv_map.specs.declared.operations.Reply.{Reply}
use Rattle.fkv_map.specs.Map.{absent_word}
use Rattle.fkv_map.specs.Keys.{key_of, reply_from}
use Rattle.fkv_words.specs.declared.phase_words.PhaseSaid.{PhaseSaid}
use Rattle.fkv_words.specs.PhaseWords.{phase_said}
use Rattle.fkv_plane.specs.declared.asks.Ask.{Ask}
use Rattle.fkv_plane.specs.declared.asks.Ask.TheVariants.{Done}
use Rattle.fkv_plane.specs.declared.places.Places.{Places}
use Rattle.fkv_log.specs.declared.regions.Region.{Region}
use Rattle.fkv_log.specs.Regions.{seen_region_of}
use Rattle.fkv_latch.specs.declared.latching.LatchAnswer.{LatchAnswer}
use Rattle.fkv_latch.specs.declared.latching.LatchAnswer.TheVariants as latch
use Rattle.fkv_latch.specs.declared.latching.LatchTask.TheVariants.{DropShared, DropExclusive, TakeShared, TakeExclusive}
use Rattle.fkv_latch.specs.Latching.{latch_next, latch_next_ask}
use Rattle.fkv_ops.specs.declared.answers.Reason.TheVariants as reason
use Rattle.fkv_ops.specs.declared.answers.TryAnswer.{TryAnswer}
use Rattle.fkv_ops.specs.declared.answers.TryAnswer.TheVariants as answer
use Rattle.fkv_ops.specs.declared.appending.AppendAnswer.{AppendAnswer}
use Rattle.fkv_ops.specs.declared.appending.AppendAnswer.TheVariants as append
use Rattle.fkv_ops.specs.declared.requests.HeldRecord.{HeldRecord}
use Rattle.fkv_ops.specs.declared.requests.Occasion.{Occasion}
use Rattle.fkv_ops.specs.declared.requests.Request.{Request}
use Rattle.fkv_ops.specs.declared.requests.Seen.{Seen}
use Rattle.fkv_ops.specs.declared.trying.OldValue.{OldValue}
use Rattle.fkv_ops.specs.declared.trying.OldValue.TheVariants.{InMemory, Known}
use Rattle.fkv_ops.specs.declared.trying.Trying.{Trying}
use Rattle.fkv_ops.specs.declared.trying.Trying.TheVariants as try
use Rattle.fkv_ops.specs.declared.walking.WalkAnswer.{WalkAnswer}
use Rattle.fkv_ops.specs.declared.walking.WalkAnswer.TheVariants as walk
use Rattle.fkv_ops.specs.Requests.{is_read, is_blind, is_chain_end}
use Rattle.fkv_ops.specs.Values.{value_of}
use Rattle.fkv_ops.specs.Walking.{walk_ask, walk_next, walk_on}
use Rattle.fkv_ops.specs.Appending.{append_ask, append_next}
use Rattle.fkv_ops.specs.Trying.{TryState, is_wait, with_latch, ended_without, ends_so, ends_by, is_bounded, tail_loaded, taken_loaded, must_count, count_loaded, ends, takes_effect, full_at, walks, wants_shared, try_begun, is_marked, is_next_marked, shared_ledto, is_still_in, phase_loaded, must_shift, wants_exclusive, appends, copies_from, copies, awaits, held_used, met_nowhere, met_disk, changes, is_own_version, region_met, met_record, walked, has_walked, walk_ledto, current_ledto, told_value, answer_ledto, exclusive_ledto, old_ledto, append_ledto, exclusive_dropped, shared_dropped, trying_next, try_next, new_try}
use Rattle.law_local.specs.Tries.Tells.{TryGoesFrom}
use Rattle.law_local.proofs.OfTries.WalkRows.{same_on}
use Rattle.fkv_ops.specs.Bounds.{bounds_at, is_past_taken, is_past_tail}
use Rattle.fkv_ops.specs.Waiting.{told_of, waiting_of}
use Rattle.fkv_ops.specs.declared.answers.Waiting.{Waiting}

pub record KeepsTrial (t t' : TryState) : Type 0 where
  pub request : t'.request ≡ t.request
  pub seen : t'.seen ≡ t.seen
  pub entry : t'.walk.entry ≡ t.walk.entry

by_test : (t : TryState) (b : Bool) (x y : TryState) → KeepsTrial t x → KeepsTrial t y → KeepsTrial t (if b then x else y)
by_test t true x y first second = first
by_test t false x y first second = second

-- behind what changes other fields
from : (t t' t'' : TryState) → KeepsTrial t t' → KeepsTrial t' t'' → KeepsTrial t t''
from t t' t'' first second = record { request = second.request ∙ first.request; seen = second.seen ∙ first.seen; entry = second.entry ∙ first.entry }

same : (t : TryState) → KeepsTrial t t
same t = record { request = refl; seen = refl; entry = refl }

ended_keeps : (p : Places) (t : TryState) (its : TryAnswer) → KeepsTrial t (ended_without p t its)
ended_keeps p t its = by_test t (t.has_shared && not (is_wait its)) (with_latch p (record t { has_shared = false }) DropShared (try.DropsShared its)) (record t { step = try.Ended its })
    (record { request = refl; seen = refl; entry = refl }) (record { request = refl; seen = refl; entry = refl })

ends_so_keeps : (p : Places) (t : TryState) (its : TryAnswer) → KeepsTrial t (ends_so p t its)
unfolding ends_so
ends_so_keeps p t its = by_test t t.has_exclusive (with_latch p (record t { has_exclusive = false }) DropExclusive (try.DropsExclusive its)) (ended_without p t its) (record { request = refl; seen = refl; entry = refl }) (ended_keeps p t its)

ends_by_keeps : (p : Places) (t : TryState) (its : TryAnswer) (waiting : Option Waiting) → KeepsTrial t (ends_by p t its waiting)
ends_by_keeps p t its None = ends_so_keeps p t its
ends_by_keeps p t its (Some waiting) = by_test t (is_bounded t) (record t { step = try.LoadsTail waiting }) (ends_so p t its) (record { request = refl; seen = refl; entry = refl }) (ends_so_keeps p t its)

ends_keeps : (p : Places) (t : TryState) (its : TryAnswer) → KeepsTrial t (ends p t its)
unfolding ends
ends_keeps p t its = ends_by_keeps p t its (waiting_of its)

tail_keeps : (p : Places) (t : TryState) (waiting : Waiting) (tail : ℕ) → KeepsTrial t (tail_loaded p t waiting tail)
unfolding tail_loaded
tail_keeps p t waiting tail =
    by_test t (is_past_tail (bounds_at t.occasion) tail) (ends_so p t answer.LogFull) (if t.walk.entry == 0 then record t { step = try.LoadsTaken waiting } else ends_so p t (told_of waiting)) (ends_so_keeps p t answer.LogFull) (by_test t (t.walk.entry == 0) (record t { step = try.LoadsTaken waiting }) (ends_so p t (told_of waiting)) (record { request = refl; seen = refl; entry = refl }) (ends_so_keeps p t (told_of waiting)))

taken_keeps : (p : Places) (t : TryState) (waiting : Waiting) (taken : ℕ) → KeepsTrial t (taken_loaded p t waiting taken)
unfolding taken_loaded
taken_keeps p t waiting taken = by_test t (is_past_taken (bounds_at t.occasion) taken) (ends_so p t answer.IndexFull) (ends_so p t (told_of waiting)) (ends_so_keeps p t answer.IndexFull) (ends_so_keeps p t (told_of waiting))

appends_keeps : (t : TryState) (old : ℕ) → KeepsTrial t (appends t old)
unfolding appends
appends_keeps t old = record { request = refl; seen = refl; entry = refl }

from_keeps : (t : TryState) (old : OldValue) → KeepsTrial t (copies_from t old)
unfolding copies_from
from_keeps t (Known old) = appends_keeps t old
from_keeps t InMemory = by_test t (is_blind t.request.op) (appends t absent_word) (record t { walk = walk_on t.walk; step = try.LoadsOld }) (appends_keeps t absent_word) (record { request = refl; seen = refl; entry = same_on t.walk })

copies_keeps : (p : Places) (t : TryState) (old : OldValue) (is_current : Bool) → KeepsTrial t (copies p t old is_current)
unfolding copies
copies_keeps p t old is_current = by_test t (wants_exclusive t is_current) (with_latch p t TakeExclusive (try.TakesExclusive old)) (copies_from t old) (record { request = refl; seen = refl; entry = refl }) (from_keeps t old)

awaits_keeps : (p : Places) (t : TryState) (addr : Addr) → KeepsTrial t (awaits p t addr)
awaits_keeps p t addr = ends_keeps p t (answer.AwaitsDisk (record { entry = t.walk.entry; addr = addr }))

held_keeps : (p : Places) (t : TryState) (addr : Addr) (its : Option HeldRecord) → KeepsTrial t (held_used p t addr its)
unfolding held_used
held_keeps p t addr None = awaits_keeps p t addr
held_keeps p t addr (Some held) =
    by_test t (held.entry == t.walk.entry) (if held.key.0 == (key_of t.request.op).0 then copies p t (Known held.value) false else if is_chain_end t.request.floor held.previous then copies p t (Known absent_word) false else awaits p t held.previous) (awaits p t addr)
    (by_test t (held.key.0 == (key_of t.request.op).0) (copies p t (Known held.value) false) (if is_chain_end t.request.floor held.previous then copies p t (Known absent_word) false else awaits p t held.previous) (copies_keeps p t (Known held.value) false)
    (by_test t (is_chain_end t.request.floor held.previous) (copies p t (Known absent_word) false) (awaits p t held.previous) (copies_keeps p t (Known absent_word) false) (awaits_keeps p t held.previous)))
    (awaits_keeps p t addr)

nowhere_keeps : (p : Places) (t : TryState) → KeepsTrial t (met_nowhere p t)
nowhere_keeps p t =
    by_test t (is_read t.request.op) (ends p t answer.Absent) (if must_count p t then record t { step = try.CountsTaken } else copies p t (Known absent_word) false) (ends_keeps p t answer.Absent)
    (by_test t (must_count p t) (record t { step = try.CountsTaken }) (copies p t (Known absent_word) false) (record { request = refl; seen = refl; entry = refl }) (copies_keeps p t (Known absent_word) false))

count_keeps : (p : Places) (t : TryState) (taken : ℕ) → KeepsTrial t (count_loaded p t taken)
unfolding count_loaded
count_keeps p t taken = by_test t (is_past_taken (bounds_at t.occasion) taken) (ends p t answer.IndexFull) (copies p t (Known absent_word) false) (ends_keeps p t answer.IndexFull) (copies_keeps p t (Known absent_word) false)

disk_keeps : (p : Places) (t : TryState) (addr : Addr) → KeepsTrial t (met_disk p t addr)
disk_keeps p t addr =
    by_test t (is_read t.request.op) (if is_chain_end t.request.floor addr then ends p t answer.Absent else awaits p t addr) (if is_blind t.request.op || is_chain_end t.request.floor addr then copies p t (Known absent_word) false else held_used p t addr t.request.held)
    (by_test t (is_chain_end t.request.floor addr) (ends p t answer.Absent) (awaits p t addr) (ends_keeps p t answer.Absent) (awaits_keeps p t addr))
    (by_test t (is_blind t.request.op || is_chain_end t.request.floor addr) (copies p t (Known absent_word) false) (held_used p t addr t.request.held) (copies_keeps p t (Known absent_word) false) (held_keeps p t addr t.request.held))

changes_keeps : (t : TryState) (addr : Addr) → KeepsTrial t (changes t addr)
changes_keeps t addr = by_test t (is_blind t.request.op) (record t { step = try.SwapsValue addr }) (record t { walk = walk_on t.walk; step = try.LoadsCurrent addr }) (record { request = refl; seen = refl; entry = refl }) (record { request = refl; seen = refl; entry = same_on t.walk })

region_keeps : (p : Places) (t : TryState) (addr : Addr) (version : Version) (its : Option Region) → KeepsTrial t (region_met p t addr version its)
region_keeps p t addr version None = record { request = refl; seen = refl; entry = refl }
region_keeps p t addr version (Some its) = by_test t (is_own_version t version) (changes t addr) (copies p t InMemory false) (changes_keeps t addr) (copies_keeps p t InMemory false)

record_keeps : (p : Places) (t : TryState) (addr : Addr) (version : Version) → KeepsTrial t (met_record p t addr version)
record_keeps p t addr version = by_test t (is_read t.request.op) (record t { walk = walk_on t.walk; step = try.LoadsAnswer }) (region_met p t addr version (seen_region_of addr.0 t.seen.offsets)) (record { request = refl; seen = refl; entry = same_on t.walk })
    (region_keeps p t addr version (seen_region_of addr.0 t.seen.offsets))

full_keeps : (p : Places) (t : TryState) (occasion : Occasion) (refused : TryAnswer) → KeepsTrial t (ends p t (full_at occasion refused))
full_keeps p t occasion refused = ends_keeps p t (full_at occasion refused)

walked_keeps : (p : Places) (t : TryState) (its : WalkAnswer) → KeepsTrial t (walked p t its)
walked_keeps p t (walk.Found addr version) = record_keeps p t addr version
walked_keeps p t walk.Nowhere = nowhere_keeps p t
walked_keeps p t (walk.OnDisk addr) = disk_keeps p t addr
walked_keeps p t (walk.Value value) = ends_keeps p t (answer.Wait reason.Contended)
walked_keeps p t walk.Full = full_keeps p t t.occasion answer.IndexFull
walked_keeps p t walk.Kept = full_keeps p t t.occasion answer.IndexFull
walked_keeps p t walk.Contended = ends_keeps p t (answer.Wait reason.Contended)

spared : (t t' : TryState) (spare : ℕ) → KeepsTrial (record t { spare = spare }) t' → KeepsTrial t t'
spared t t' spare keeps = record { request = keeps.request; seen = keeps.seen; entry = keeps.entry }

pub walk_led_keeps : (p : Places) (t : TryState) (ask : Ask WalkAnswer) → KeepsTrial t (walk_ledto p t ask)
unfolding walk_ledto
walk_led_keeps p t (Done its) =
    by_test t (has_walked its && must_shift (record t { spare = t.walk.spare })) (ends p (record t { spare = t.walk.spare }) answer.Shift) (walked p (record t { spare = t.walk.spare }) its)
    (spared t (ends p (record t { spare = t.walk.spare }) answer.Shift) t.walk.spare (ends_keeps p (record t { spare = t.walk.spare }) answer.Shift))
    (spared t (walked p (record t { spare = t.walk.spare }) its) t.walk.spare (walked_keeps p (record t { spare = t.walk.spare }) its))
walk_led_keeps p t ask = same t

-- ---- what keeps request and seen alone
pub record KeepsRequest (t t' : TryState) : Type 0 where
  pub request : t'.request ≡ t.request
  pub seen : t'.seen ≡ t.seen

as_kept : (t u t' : TryState) → u.request ≡ t.request → u.seen ≡ t.seen → KeepsTrial u t' → KeepsRequest t t'
as_kept t u t' request seen keeps = record { request = keeps.request ∙ request; seen = keeps.seen ∙ seen }

walks_kept : (p : Places) (t : TryState) → KeepsRequest t (walks p t)
walks_kept p t = record { request = refl; seen = refl }

by_choice : (t : TryState) (b : Bool) (x y : TryState) → KeepsRequest t x → KeepsRequest t y → KeepsRequest t (if b then x else y)
by_choice t true x y first second = first
by_choice t false x y first second = second

phase_kept : (p : Places) (t : TryState) (said : PhaseSaid) → KeepsRequest t (phase_loaded p t said)
unfolding phase_loaded
phase_kept p t said = by_choice t (is_still_in said t.request.version) (walks p t) (ends p t answer.Shift) (record { request = refl; seen = refl }) (as_kept t t (ends p t answer.Shift) refl refl (ends_keeps p t answer.Shift))

shared_kept : (p : Places) (t : TryState) (ask : Ask LatchAnswer) → KeepsRequest t (shared_ledto p t ask)
unfolding shared_ledto
shared_kept p t (Done latch.Taken) = by_choice t (is_next_marked t.request.version) (record t { has_shared = true; step = try.LoadsPhase }) (walks p (record t { has_shared = true })) (record { request = refl; seen = refl }) (record { request = refl; seen = refl })
shared_kept p t (Done its) = as_kept t t (ends p t answer.Shift) refl refl (ends_keeps p t answer.Shift)
shared_kept p t ask = record { request = refl; seen = refl }

exclusive_kept : (p : Places) (t : TryState) (old : OldValue) (ask : Ask LatchAnswer) → KeepsRequest t (exclusive_ledto p t old ask)
unfolding exclusive_ledto
exclusive_kept p t old (Done latch.Taken) = as_kept t (record t { has_exclusive = true }) (copies_from (record t { has_exclusive = true }) old) refl refl (from_keeps (record t { has_exclusive = true }) old)
exclusive_kept p t old (Done its) = as_kept t t (ends p t (answer.Wait reason.Latch)) refl refl (ends_keeps p t (answer.Wait reason.Latch))
exclusive_kept p t old ask = record { request = refl; seen = refl }

dropped_kept : (p : Places) (t : TryState) (its : TryAnswer) (ask : Ask LatchAnswer) → KeepsRequest t (exclusive_dropped p t its ask)
unfolding exclusive_dropped
dropped_kept p t its (Done told) = as_kept t t (ended_without p t its) refl refl (ended_keeps p t its)
dropped_kept p t its ask = record { request = refl; seen = refl }

unshared_kept : (t : TryState) (its : TryAnswer) (ask : Ask LatchAnswer) → KeepsRequest t (shared_dropped t its ask)
unfolding shared_dropped
unshared_kept t its (Done told) = record { request = refl; seen = refl }
unshared_kept t its ask = record { request = refl; seen = refl }

current_keeps : (p : Places) (t : TryState) (addr : Addr) (ask : Ask WalkAnswer) → KeepsTrial t (current_ledto p t addr ask)
unfolding current_ledto
current_keeps p t addr (Done (walk.Value old)) = record { request = refl; seen = refl; entry = refl }
current_keeps p t addr (Done its) = ends_keeps p t (answer.Wait reason.Contended)
current_keeps p t addr ask = same t

pub answer_keeps : (p : Places) (t : TryState) (ask : Ask WalkAnswer) → KeepsTrial t (answer_ledto p t ask)
unfolding answer_ledto
answer_keeps p t (Done (walk.Value value)) = ends_keeps p t (told_value (value_of value))
answer_keeps p t (Done its) = ends_keeps p t (answer.Wait reason.Contended)
answer_keeps p t ask = same t

old_keeps : (p : Places) (t : TryState) (ask : Ask WalkAnswer) → KeepsTrial t (old_ledto p t ask)
unfolding old_ledto
old_keeps p t (Done (walk.Value value)) = appends_keeps t value
old_keeps p t (Done its) = ends_keeps p t (answer.Wait reason.Contended)
old_keeps p t ask = same t

effect_kept : (p : Places) (t : TryState) (its : Reply) → KeepsRequest t (takes_effect p t its)
effect_kept p t its = as_kept t (record t { effect = Some its }) (takes_effect p t its) refl refl (ends_keeps p (record t { effect = Some its }) (answer.Done its))

append_kept : (p : Places) (t : TryState) (its : Reply) (ask : Ask AppendAnswer) → KeepsRequest t (append_ledto p t its ask)
unfolding append_ledto
append_kept p t its (Done append.Published) = effect_kept p t its
append_kept p t its (Done append.Full) = as_kept t t (ends p t (full_at t.occasion answer.LogFull)) refl refl (full_keeps p t t.occasion answer.LogFull)
append_kept p t its (Done append.NoRoom) = as_kept t t (ends p t (answer.Wait reason.NoRoom)) refl refl (ends_keeps p t (answer.Wait reason.NoRoom))
append_kept p t its (Done append.Contended) = as_kept t t (ends p t (answer.Wait reason.Contended)) refl refl (ends_keeps p t (answer.Wait reason.Contended))
append_kept p t its ask = record { request = refl; seen = refl }

row_kept : (p : Places) (room : ℕ) (t : TryState) (step : Trying) (reply : ℕ) → KeepsRequest t (trying_next p room (record t { effect = None }) step reply)
unfolding trying_next
row_kept p room t (try.Ended its) reply = record { request = refl; seen = refl }
row_kept p room t try.TakesShared reply = let kept = shared_kept p (record t { effect = None; latching = latch_next t.latching reply }) (latch_next_ask t.latching reply) in record { request = kept.request; seen = kept.seen }
row_kept p room t try.LoadsPhase reply = let kept = phase_kept p (record t { effect = None }) (phase_said reply) in record { request = kept.request; seen = kept.seen }
row_kept p room t try.Walks reply = let kept = walk_led_keeps p (record t { effect = None; walk = walk_next p t.walk reply }) (walk_ask p (walk_next p t.walk reply)) in record { request = kept.request; seen = kept.seen }
row_kept p room t try.CountsTaken reply = let kept = count_keeps p (record t { effect = None }) reply in record { request = kept.request; seen = kept.seen }
row_kept p room t (try.LoadsSafe addr version) reply =
    by_choice t (nat_le reply addr.0) (ends p (record t { effect = None }) (answer.Wait reason.Fuzzy)) (copies p (record t { effect = None }) InMemory (not (is_marked t.request.version) && version.0 == mark t.request.version.0))
    (as_kept t (record t { effect = None }) (ends p (record t { effect = None }) (answer.Wait reason.Fuzzy)) refl refl (ends_keeps p (record t { effect = None }) (answer.Wait reason.Fuzzy)))
    (as_kept t (record t { effect = None }) (copies p (record t { effect = None }) InMemory (not (is_marked t.request.version) && version.0 == mark t.request.version.0)) refl refl (copies_keeps p (record t { effect = None }) InMemory (not (is_marked t.request.version) && version.0 == mark t.request.version.0)))
row_kept p room t (try.SwapsValue addr) reply = let kept = effect_kept p (record t { effect = None }) (reply_from None t.request.op) in record { request = kept.request; seen = kept.seen }
row_kept p room t (try.LoadsCurrent addr) reply = let kept = current_keeps p (record t { effect = None; walk = walk_next p t.walk reply }) addr (walk_ask p (walk_next p t.walk reply)) in record { request = kept.request; seen = kept.seen }
row_kept p room t (try.ChangesValue addr old) reply =
    by_choice t (reply == old) (takes_effect p (record t { effect = None }) (reply_from (value_of old) t.request.op)) (ends p (record t { effect = None }) (answer.Wait reason.Contended))
    (as_kept t (record t { effect = Some (reply_from (value_of old) t.request.op) }) (takes_effect p (record t { effect = None }) (reply_from (value_of old) t.request.op)) refl refl (ends_keeps p (record t { effect = Some (reply_from (value_of old) t.request.op) }) (answer.Done (reply_from (value_of old) t.request.op))))
    (as_kept t (record t { effect = None }) (ends p (record t { effect = None }) (answer.Wait reason.Contended)) refl refl (ends_keeps p (record t { effect = None }) (answer.Wait reason.Contended)))
row_kept p room t try.LoadsAnswer reply = let kept = answer_keeps p (record t { effect = None; walk = walk_next p t.walk reply }) (walk_ask p (walk_next p t.walk reply)) in record { request = kept.request; seen = kept.seen }
row_kept p room t (try.TakesExclusive old) reply = let kept = exclusive_kept p (record t { effect = None; latching = latch_next t.latching reply }) old (latch_next_ask t.latching reply) in record { request = kept.request; seen = kept.seen }
row_kept p room t try.LoadsOld reply = let kept = old_keeps p (record t { effect = None; walk = walk_next p t.walk reply }) (walk_ask p (walk_next p t.walk reply)) in record { request = kept.request; seen = kept.seen }
row_kept p room t (try.Appends its) reply = let kept = append_kept p (record t { effect = None; append = append_next p room t.append reply }) its (append_ask p (append_next p room t.append reply)) in record { request = kept.request; seen = kept.seen }
row_kept p room t (try.LoadsTail waiting) reply = let kept = tail_keeps p (record t { effect = None }) waiting reply in record { request = kept.request; seen = kept.seen }
row_kept p room t (try.LoadsTaken waiting) reply = let kept = taken_keeps p (record t { effect = None }) waiting reply in record { request = kept.request; seen = kept.seen }
row_kept p room t (try.DropsExclusive its) reply = let kept = dropped_kept p (record t { effect = None; latching = latch_next t.latching reply }) its (latch_next_ask t.latching reply) in record { request = kept.request; seen = kept.seen }
row_kept p room t (try.DropsShared its) reply = let kept = unshared_kept (record t { effect = None; latching = latch_next t.latching reply }) its (latch_next_ask t.latching reply) in record { request = kept.request; seen = kept.seen }

pub try_kept : (p : Places) (room : ℕ) (t : TryState) (reply : ℕ) → KeepsRequest t (try_next p room t reply)
try_kept p room t reply = row_kept p room t t.step reply

-- ---- as a try begins
pub record IsBegunFor (request : Request) (seen : Seen) (t : TryState) : Type 0 where
  pub its_request : t.request ≡ request
  pub its_seen : t.seen ≡ seen

begun_test : (p : Places) (t : TryState) (b : Bool) → IsBegunFor t.request t.seen (if b then with_latch p t TakeShared try.TakesShared else walks p t)
begun_test p t true = record { its_request = refl; its_seen = refl }
begun_test p t false = record { its_request = refl; its_seen = refl }

pub begun_for : (p : Places) (bits : ℕ) (request : Request) (seen : Seen) (occasion : Occasion) (spare : ℕ) → IsBegunFor request seen (try_begun p bits request seen occasion spare)
begun_for p bits request seen occasion spare =
    let its : TryState = new_try bits request seen occasion spare in
    begun_test p its (wants_shared its)

-- ---- where a try's walk goes down from
row_goes : (p : Places) (room : ℕ) (t : TryState) (step : Trying) (reply : ℕ) → t.step ≡ step → TryGoesFrom p room t step reply
unfolding trying_next
row_goes p room t try.Walks reply at = ap (λ step. (trying_next p room (record t { effect = None }) step reply).walk.entry) at ∙ (walk_led_keeps p (record t { effect = None; walk = walk_next p t.walk reply }) (walk_ask p (walk_next p t.walk reply))).entry
row_goes p room t try.LoadsAnswer reply at = ap (λ step. (trying_next p room (record t { effect = None }) step reply).walk.entry) at ∙ (answer_keeps p (record t { effect = None; walk = walk_next p t.walk reply }) (walk_ask p (walk_next p t.walk reply))).entry
row_goes p room t (try.Ended its) reply at = tt
row_goes p room t try.TakesShared reply at = tt
row_goes p room t try.LoadsPhase reply at = tt
row_goes p room t try.CountsTaken reply at = tt
row_goes p room t (try.LoadsSafe addr version) reply at = tt
row_goes p room t (try.SwapsValue addr) reply at = tt
row_goes p room t (try.LoadsCurrent addr) reply at = tt
row_goes p room t (try.ChangesValue addr old) reply at = tt
row_goes p room t (try.TakesExclusive old) reply at = tt
row_goes p room t try.LoadsOld reply at = tt
row_goes p room t (try.Appends its) reply at = tt
row_goes p room t (try.LoadsTail waiting) reply at = tt
row_goes p room t (try.LoadsTaken waiting) reply at = tt
row_goes p room t (try.DropsExclusive its) reply at = tt
row_goes p room t (try.DropsShared its) reply at = tt

pub try_goes : (p : Places) (room : ℕ) (t : TryState) (reply : ℕ) → TryGoesFrom p room t t.step reply
try_goes p room t reply = row_goes p room t t.step reply refl
