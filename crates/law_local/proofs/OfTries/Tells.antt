-- What a try of a read tells, and where its walk goes down from.
use Rattle.std.proofs.Common.{◌≡◌, ℕ, ◌≤◌, ◌∙◌, refl, sym, ap, subst, Bool, true, false, Option, Some, None}
use Rattle.std.specs.Prelude.{◌&&◌, ◌||◌, not, nat_lt, nat_le, if◌then◌else◌}
use Rattle.fkv_base.specs.declared.numbers.Addr.{Addr}
use Rattle.fkv_base.specs.declared.numbers.Key.{Key}
use Rattle.fkv_map.specs.Map.{absent_word}
use Rattle.fkv_plane.specs.declared.asks.Ask.{Ask}
use Rattle.fkv_plane.specs.declared.asks.Ask.TheVariants.{Done}
use Rattle.fkv_plane.specs.declared.places.Places.{Places}
use Rattle.fkv_plane.specs.Passing.{passed, is_done}
use Rattle.fkv_log.specs.declared.regions.Region.TheVariants as region
use Rattle.fkv_latch.specs.declared.latching.LatchTask.TheVariants.{DropShared, DropExclusive}
use Rattle.fkv_latch.specs.Latching.{latch_ask}
use Rattle.fkv_index.specs.Slots.{entry_addr}
use Rattle.law_log.specs.Chains.{value_at}
use Rattle.law_log.specs.Ghosts.{Log}
use Rattle.fkv_ops.specs.declared.answers.DiskRecord.{DiskRecord}
use Rattle.fkv_ops.specs.declared.answers.Reason.TheVariants as reason
use Rattle.fkv_ops.specs.declared.answers.TryAnswer.{TryAnswer}
use Rattle.fkv_ops.specs.declared.answers.TryAnswer.TheVariants as answer
use Rattle.fkv_ops.specs.declared.requests.Occasion.{Occasion}
use Rattle.fkv_ops.specs.declared.requests.Occasion.TheVariants.{Call, Poll}
use Rattle.fkv_ops.specs.declared.requests.Request.{Request}
use Rattle.fkv_ops.specs.declared.requests.Seen.{Seen}
use Rattle.fkv_ops.specs.declared.trying.OldValue.TheVariants.{Known}
use Rattle.fkv_ops.specs.declared.trying.Trying.{Trying}
use Rattle.fkv_ops.specs.declared.trying.Trying.TheVariants as try
use Rattle.fkv_ops.specs.declared.walking.WalkAnswer.{WalkAnswer}
use Rattle.fkv_ops.specs.declared.walking.WalkAnswer.TheVariants as walk
use Rattle.fkv_ops.specs.Requests.{is_read, is_blind, is_chain_end}
use Rattle.fkv_ops.specs.Values.{value_of}
use Rattle.fkv_ops.specs.Walking.{walk_ask, walk_next, walk_on}
use Rattle.fkv_ops.specs.Appending.{append_ask}
use Rattle.fkv_ops.specs.Trying.{TryState, trying_ask, try_ask, is_wait, with_latch, ended_without, ends_so, ends_by, must_count, ends, full_at, must_shift, copies, awaits, held_used, region_met, walked, has_walked, walk_ledto, told_value, answer_ledto, trying_next, try_next}
use Rattle.law_log.specs.Begins.{Live}
use Rattle.fkv_ops.proofs.Shown.{ends_below}
use Rattle.law_local.specs.Tries.Floors.{HasFloor, ComesLive}
use Rattle.law_local.proofs.OfTries.Floors.{below_is_absent, walk_comes}
use Rattle.law_local.proofs.OfTries.WalkBegins.{walk_lives}
use Rattle.law_local.specs.Tries.OnWay.{ComesBelow, FindsNone, IsOrderly}
use Rattle.law_local.specs.Tries.Replies.{IsTrueReply}
use Rattle.law_local.specs.Tries.WalkRows.{begin_of, WalkKnows, WalkTells}
use Rattle.law_local.specs.Tries.TryRows.{key_in, head_in, floor_in, first_of, WalkIsLive, IsWalkFor, AnswerKnows, IsFree, TryRow, TryKnows}
use Rattle.law_local.specs.Tries.Tells.{ReadTells, TryTells}
use Rattle.law_local.proofs.OfTries.Tests.{not_both}
use Rattle.law_local.proofs.OfTries.WalkRows.{walk_leads, walk_tells, loads_value, loads_same}
use Rattle.law_local.proofs.OfTries.WalkKept.{KeepsKey, walk_keeps}
use Rattle.law_local.proofs.OfTries.TrySteps.{found_value}
use Rattle.fkv_ops.specs.Bounds.{bounds_at, has_bounds}
use Rattle.fkv_ops.specs.Waiting.{waiting_of}
use Rattle.fkv_ops.specs.declared.answers.Waiting.{Waiting}

-- ---- the answer of a read
pub the_answer : (a b : TryAnswer) → Done a ≡ Done b → a ≡ b
the_answer a b e = cc

pub passed_answer : {A : Type 0} (ask : Ask A) (a b : TryAnswer) → passed ask a ≡ Done b → b ≡ a
unfolding passed
passed_answer (Done its) a b e = cc
passed_answer ask a b e = cc

-- a read that ends holds no latch, and is at its end at once
ends_so_free : (p : Places) (t : TryState) (its : TryAnswer) → t.has_shared ≡ false → t.has_exclusive ≡ false → ends_so p t its ≡ record t { step = try.Ended its }
unfolding ends_so
ends_so_free p t its shared alone = by_alone t.has_exclusive alone
  where
    by_shared : (b : Bool) → b ≡ false → (if b && not (is_wait its) then with_latch p (record t { has_shared = false }) DropShared (try.DropsShared its) else record t { step = try.Ended its }) ≡ record t { step = try.Ended its }
    by_shared true e = cc
    by_shared false e = refl

    by_alone : (b : Bool) → b ≡ false → (if b then with_latch p (record t { has_exclusive = false }) DropExclusive (try.DropsExclusive its) else ended_without p t its) ≡ record t { step = try.Ended its }
    by_alone true e = cc
    by_alone false e = by_shared t.has_shared shared

-- and it looks for no room
none_bounded : (b read : Bool) → read ≡ true → (b && not read) ≡ false
none_bounded true true e = refl
none_bounded false true e = refl
none_bounded b false e = cc

ends_by_free : (p : Places) (t : TryState) (its : TryAnswer) (waiting : Option Waiting) → is_read t.request.op ≡ true → ends_by p t its waiting ≡ ends_so p t its
ends_by_free p t its None reads = refl
ends_by_free p t its (Some waiting) reads = rw (none_bounded (has_bounds (bounds_at t.occasion)) (is_read t.request.op) reads) refl

pub ends_free : (p : Places) (t : TryState) (its : TryAnswer) → is_read t.request.op ≡ true → t.has_shared ≡ false → t.has_exclusive ≡ false → ends p t its ≡ record t { step = try.Ended its }
unfolding ends
ends_free p t its reads shared alone = ends_by_free p t its (waiting_of its) reads ∙ ends_so_free p t its shared alone

ended_tells : (home : ℕ → ℕ) (log : Log) (p : Places) (t : TryState) (its : TryAnswer) → ReadTells home log t.request t.seen (begin_of t.walk) its → TryTells home log p (record t { step = try.Ended its })
unfolding trying_ask
ended_tells home log p t its tells = λ told e. subst (ReadTells home log t.request t.seen (begin_of t.walk)) (the_answer its told e) tells

end_tells : (home : ℕ → ℕ) (log : Log) (p : Places) (t : TryState) (its : TryAnswer) → is_read t.request.op ≡ true → IsFree t.request t.has_shared t.has_exclusive → ReadTells home log t.request t.seen (begin_of t.walk) its
    → TryTells home log p (ends p t its)
end_tells home log p t its reads free tells = subst (TryTells home log p) (sym (ends_free p t its reads (free reads).0 (free reads).1)) (ended_tells home log p t its tells)

-- what is under way tells nothing
shift_tells : (home : ℕ → ℕ) (log : Log) (p : Places) (t : TryState) → ((its : TryAnswer) → try_ask p t ≡ Done its → its ≡ answer.Shift) → TryTells home log p t
shift_tells home log p t only = λ its e. subst (ReadTells home log t.request t.seen (begin_of t.walk)) (sym (only its e)) tt

walks_tells : (home : ℕ → ℕ) (log : Log) (p : Places) (t : TryState) → t.step ≡ try.Walks → TryTells home log p t
unfolding trying_ask
walks_tells home log p t at = shift_tells home log p t (λ its e. passed_answer (walk_ask p t.walk) answer.Shift its (ap (trying_ask p t) (sym at) ∙ e))

answer_under_way : (home : ℕ → ℕ) (log : Log) (p : Places) (t : TryState) → t.step ≡ try.LoadsAnswer → TryTells home log p t
unfolding trying_ask
answer_under_way home log p t at = shift_tells home log p t (λ its e. passed_answer (walk_ask p t.walk) answer.Shift its (ap (trying_ask p t) (sym at) ∙ e))

full_tells : (home : ℕ → ℕ) (log : Log) (p : Places) (t : TryState) (occasion : Occasion) → is_read t.request.op ≡ true → IsFree t.request t.has_shared t.has_exclusive → TryTells home log p (ends p t (full_at occasion answer.IndexFull))
full_tells home log p t (Call bounds) reads free = end_tells home log p t answer.IndexFull reads free tt
full_tells home log p t Poll reads free = end_tells home log p t (answer.Wait reason.Full) reads free tt

walked_tells : (home : ℕ → ℕ) (log : Log) (p : Places) (t : TryState) (its : WalkAnswer) → IsOrderly home log → floor_in t.request ≤ log.fixed → WalkIsLive home log t.request t.walk → is_read t.request.op ≡ true → IsFree t.request t.has_shared t.has_exclusive → IsWalkFor t.request t.seen t.walk → WalkTells home log t.walk its
    → TryTells home log p (walked p t its)
walked_tells home log p t (walk.Found addr version) orderly over live reads free walks tells = by_read (is_read t.request.op) reads
  where
    by_read : (b : Bool) → b ≡ true
        → TryTells home log p (if b then record t { walk = walk_on t.walk; step = try.LoadsAnswer } else region_met p t addr version (if nat_lt addr.0 t.seen.offsets.head.0 then Some region.Disk else if nat_le t.seen.offsets.read_only.0 addr.0 then Some region.Mutable else None))
    by_read true e = answer_under_way home log p (record t { walk = walk_on t.walk; step = try.LoadsAnswer }) refl
    by_read false e = cc
walked_tells home log p t walk.Nowhere orderly over live reads free walks tells = by_read (is_read t.request.op) reads
  where
    none : FindsNone home log (key_in t.request) (begin_of t.walk)
    none = subst (λ (k : Key). FindsNone home log k.0 (begin_of t.walk)) walks.its_key tells

    by_read : (b : Bool) → b ≡ true → TryTells home log p (if b then ends p t answer.Absent else if must_count p t then record t { step = try.CountsTaken } else copies p t (Known absent_word) false)
    by_read true e = end_tells home log p t answer.Absent reads free (ap (λ a. value_at (log.cells a)) none.none ∙ ap value_at orderly.none)
    by_read false e = cc
walked_tells home log p t (walk.OnDisk addr) orderly over live reads free walks tells = by_read (is_read t.request.op) reads
  where
    comes : ComesLive home log (floor_in t.request) (key_in t.request) (begin_of t.walk) addr.0 (head_in t.seen)
    comes = walk_comes home log orderly t.request t.walk addr.0 (head_in t.seen) live
        (subst (λ (a : Addr). ComesBelow home log (key_in t.request) (begin_of t.walk) addr.0 a.0) walks.its_head (subst (λ (k : Key). ComesBelow home log k.0 (begin_of t.walk) addr.0 t.walk.head.0) walks.its_key tells))

    by_end : (b : Bool) → is_chain_end t.request.floor addr ≡ b → TryTells home log p (if b then ends p t answer.Absent else awaits p t addr)
    by_end true e = end_tells home log p t answer.Absent reads free (below_is_absent home log orderly (floor_in t.request) over (key_in t.request) (begin_of t.walk) addr.0 (head_in t.seen) comes (ends_below t.request.floor addr comes.comes.some e)).absent
    by_end false e = end_tells home log p t (answer.AwaitsDisk (record { entry = t.walk.entry; addr = addr })) reads free (refl, comes)

    by_read : (b : Bool) → b ≡ true
        → TryTells home log p (if b then (if is_chain_end t.request.floor addr then ends p t answer.Absent else awaits p t addr) else if is_blind t.request.op || is_chain_end t.request.floor addr then copies p t (Known absent_word) false else held_used p t addr t.request.held)
    by_read true e = by_end (is_chain_end t.request.floor addr) refl
    by_read false e = cc
walked_tells home log p t (walk.Value value) orderly over live reads free walks tells = end_tells home log p t (answer.Wait reason.Contended) reads free tt
walked_tells home log p t walk.Full orderly over live reads free walks tells = full_tells home log p t t.occasion reads free
walked_tells home log p t walk.Kept orderly over live reads free walks tells = full_tells home log p t t.occasion reads free
walked_tells home log p t walk.Contended orderly over live reads free walks tells = end_tells home log p t (answer.Wait reason.Contended) reads free tt

walk_led_tells : (home : ℕ → ℕ) (log : Log) (p : Places) (t : TryState) (ask : Ask WalkAnswer) → IsOrderly home log → floor_in t.request ≤ log.fixed → WalkIsLive home log t.request t.walk → is_read t.request.op ≡ true → IsFree t.request t.has_shared t.has_exclusive → t.step ≡ try.Walks → IsWalkFor t.request t.seen t.walk
    → WalkKnows home log t.walk → walk_ask p t.walk ≡ ask → TryTells home log p (walk_ledto p t ask)
unfolding walk_ledto
walk_led_tells home log p t (Done its) orderly over live reads free at walks knows asks = by_shift (has_walked its && must_shift (record t { spare = t.walk.spare }))
  where
    by_shift : (b : Bool) → TryTells home log p (if b then ends p (record t { spare = t.walk.spare }) answer.Shift else walked p (record t { spare = t.walk.spare }) its)
    by_shift true = end_tells home log p (record t { spare = t.walk.spare }) answer.Shift reads free tt
    by_shift false = walked_tells home log p (record t { spare = t.walk.spare }) its orderly over live reads free walks (walk_tells home log p t.walk its knows asks)
walk_led_tells home log p t ask orderly over live reads free at walks knows asks = walks_tells home log p t at

answer_tells : (home : ℕ → ℕ) (log : Log) (p : Places) (t : TryState) (value : ℕ) → is_read t.request.op ≡ true → IsFree t.request t.has_shared t.has_exclusive → value_of value ≡ value_at (log.cells (first_of home log t.request (begin_of t.walk)))
    → TryTells home log p (answer_ledto p t (Done (walk.Value value)))
unfolding answer_ledto
answer_tells home log p t value reads free says = by_value (value_of value) says
  where
    by_value : (its : Option ℕ) → its ≡ value_at (log.cells (first_of home log t.request (begin_of t.walk))) → TryTells home log p (ends p t (told_value its))
    by_value None e = end_tells home log p t answer.Absent reads free (sym e)
    by_value (Some its) e = end_tells home log p t (answer.Found (record { 0 = its })) reads free (sym e)

done_not : {X : Type 0} {A : Type 0} (its : A) → is_done (Done its) ≡ false → X
done_not its e = cc

row_tells : (home : ℕ → ℕ) (log : Log) (p : Places) (room : ℕ) (t : TryState) (step : Trying) (reply : ℕ) → IsOrderly home log → HasFloor home log (floor_in t.request) → is_read t.request.op ≡ true → IsFree t.request t.has_shared t.has_exclusive → t.step ≡ step → TryRow home log t step
    → is_done (trying_ask p t step) ≡ false → IsTrueReply home log p t step reply → TryTells home log p (trying_next p room (record t { effect = None }) step reply)
unfolding trying_next trying_ask
row_tells home log p room t (try.Ended its) reply orderly has reads free at row asks says = done_not its asks
row_tells home log p room t try.TakesShared reply orderly has reads free at row asks says = not_both (is_read t.request.op) reads row
row_tells home log p room t try.LoadsPhase reply orderly has reads free at row asks says = not_both (is_read t.request.op) reads row
row_tells home log p room t try.Walks reply orderly has reads free at row asks says =
    walk_led_tells home log p (record t { effect = None; walk = walk_next p t.walk reply }) (walk_ask p (walk_next p t.walk reply)) orderly has.fixed (walk_lives home log p t.request t.walk reply has (ap (λ (k : Key). k.0) row.0.its_key) row.1 says row.2) reads free at
    (record { its_key = kept.key ∙ row.0.its_key; its_head = kept.head ∙ row.0.its_head }) (walk_leads home log p t.walk reply orderly.chains row.1 says) refl
  where
    kept : KeepsKey t.walk (walk_next p t.walk reply)
    kept = walk_keeps p t.walk reply
row_tells home log p room t try.CountsTaken reply orderly has reads free at row asks says = not_both (is_read t.request.op) reads row.0
row_tells home log p room t (try.LoadsSafe addr version) reply orderly has reads free at row asks says = not_both (is_read t.request.op) reads row.0
row_tells home log p room t (try.SwapsValue addr) reply orderly has reads free at row asks says = not_both (is_read t.request.op) reads row.0
row_tells home log p room t (try.LoadsCurrent addr) reply orderly has reads free at row asks says = not_both (is_read t.request.op) reads row.0
row_tells home log p room t (try.ChangesValue addr old) reply orderly has reads free at row asks says = not_both (is_read t.request.op) reads row.0
row_tells home log p room t try.LoadsAnswer reply orderly has reads free at row asks says =
    subst (λ ask. TryTells home log p (answer_ledto p (record t { effect = None; walk = walk_next p t.walk reply }) ask)) (sym (loads_value p t.walk row.addr reply row.its.loads))
    (answer_tells home log p (record t { effect = None; walk = walk_next p t.walk reply }) reply reads free
    (subst (λ n. value_of reply ≡ value_at (log.cells (first_of home log t.request (entry_addr n)))) (sym (loads_same p t.walk row.addr reply row.its.loads)) (found_value home log p t.request t.seen t.walk row.addr reply row.its says)))
row_tells home log p room t (try.TakesExclusive old) reply orderly has reads free at row asks says = not_both (is_read t.request.op) reads row.0
row_tells home log p room t try.LoadsOld reply orderly has reads free at row asks says = not_both (is_read t.request.op) reads row.0
row_tells home log p room t (try.Appends its) reply orderly has reads free at row asks says = not_both (is_read t.request.op) reads row.0
row_tells home log p room t (try.LoadsTail waiting) reply orderly has reads free at row asks says = not_both (is_read t.request.op) reads row.0
row_tells home log p room t (try.LoadsTaken waiting) reply orderly has reads free at row asks says = not_both (is_read t.request.op) reads row.0
row_tells home log p room t (try.DropsExclusive its) reply orderly has reads free at row asks says = not_both (is_read t.request.op) reads row.0
row_tells home log p room t (try.DropsShared its) reply orderly has reads free at row asks says = not_both (is_read t.request.op) reads row.0

pub read_tells : (home : ℕ → ℕ) (log : Log) (p : Places) (room : ℕ) (t : TryState) (reply : ℕ) → IsOrderly home log → Live (floor_in t.request) home log → TryKnows home log t → is_read t.request.op ≡ true → is_done (try_ask p t) ≡ false → IsTrueReply home log p t t.step reply
    → TryTells home log p (try_next p room t reply)
read_tells home log p room t reply orderly live knows reads asks says = row_tells home log p room t t.step reply orderly (record { fixed = knows.request.low_floor; live = live }) reads knows.free refl knows.row asks says

-- ---- a record that is awaited
awaited : (home : ℕ → ℕ) (log : Log) (request : Request) (seen : Seen) (its : TryAnswer) (it : DiskRecord) → its ≡ answer.AwaitsDisk it → AnswerKnows home log request seen its → AnswerKnows home log request seen (answer.AwaitsDisk it)
awaited home log request seen its it e knows = subst (AnswerKnows home log request seen) e knows

-- what isn't at its end tells nothing, and so does not await
sought_not : {X : Type 0} {A : Type 0} (ask : Ask A) (it : DiskRecord) → passed ask answer.Shift ≡ Done (answer.AwaitsDisk it) → X
unfolding passed
sought_not (Done its) it e = cc
sought_not ask it e = cc

row_seeks : (home : ℕ → ℕ) (log : Log) (p : Places) (t : TryState) (step : Trying) (it : DiskRecord) → TryRow home log t step → trying_ask p t step ≡ Done (answer.AwaitsDisk it) → AnswerKnows home log t.request t.seen (answer.AwaitsDisk it)
unfolding trying_ask
row_seeks home log p t (try.Ended its) it row e = awaited home log t.request t.seen its it (the_answer its (answer.AwaitsDisk it) e) row
row_seeks home log p t try.TakesShared it row e = sought_not (latch_ask t.latching) it e
row_seeks home log p t try.LoadsPhase it row e = cc
row_seeks home log p t try.Walks it row e = sought_not (walk_ask p t.walk) it e
row_seeks home log p t try.CountsTaken it row e = cc
row_seeks home log p t (try.LoadsSafe addr version) it row e = cc
row_seeks home log p t (try.SwapsValue addr) it row e = cc
row_seeks home log p t (try.LoadsCurrent addr) it row e = sought_not (walk_ask p t.walk) it e
row_seeks home log p t (try.ChangesValue addr old) it row e = cc
row_seeks home log p t try.LoadsAnswer it row e = sought_not (walk_ask p t.walk) it e
row_seeks home log p t (try.TakesExclusive old) it row e = sought_not (latch_ask t.latching) it e
row_seeks home log p t try.LoadsOld it row e = sought_not (walk_ask p t.walk) it e
row_seeks home log p t (try.Appends its) it row e = sought_not (append_ask p t.append) it e
row_seeks home log p t (try.LoadsTail waiting) it row e = cc
row_seeks home log p t (try.LoadsTaken waiting) it row e = cc
row_seeks home log p t (try.DropsExclusive its) it row e = awaited home log t.request t.seen its it (sym (passed_answer (latch_ask t.latching) its (answer.AwaitsDisk it) e)) row.1
row_seeks home log p t (try.DropsShared its) it row e = awaited home log t.request t.seen its it (sym (passed_answer (latch_ask t.latching) its (answer.AwaitsDisk it) e)) row.1

pub try_seeks : (home : ℕ → ℕ) (log : Log) (p : Places) (t : TryState) (it : DiskRecord) → TryKnows home log t → try_ask p t ≡ Done (answer.AwaitsDisk it) → AnswerKnows home log t.request t.seen (answer.AwaitsDisk it)
try_seeks home log p t it knows e = row_seeks home log p t t.step it knows.row e
