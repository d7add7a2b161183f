-- Where one reply leads a try, in what the guard's actor is like: only an append is anything to the guard.
use Rattle.std.proofs.Common.{◌≡◌, ℕ, ◌∙◌, refl, sym, ap, subst, Bool, true, false}
use Rattle.std.specs.Prelude.{if◌then◌else◌, ◌==◌, ◌&&◌, ◌||◌, not, nat_le, Option, Some, None}
use Rattle.fkv_base.specs.declared.numbers.Addr.{Addr}
use Rattle.fkv_base.specs.declared.numbers.Version.{Version}
use Rattle.fkv_map.specs.declared.operations.Reply.{Reply}
use Rattle.fkv_map.specs.Map.{absent_word}
use Rattle.fkv_map.specs.Keys.{key_of, reply_from}
use Rattle.fkv_words.specs.declared.phase_words.PhaseSaid.{PhaseSaid}
use Rattle.fkv_words.specs.PhaseWords.{phase_said}
use Rattle.fkv_plane.specs.declared.asks.Ask.{Ask}
use Rattle.fkv_plane.specs.declared.asks.Ask.TheVariants.{Done}
use Rattle.fkv_plane.specs.declared.places.Places.{Places}
use Rattle.fkv_plane.specs.Passing.{is_done}
use Rattle.fkv_log.specs.declared.regions.Region.{Region}
use Rattle.fkv_log.specs.Regions.{seen_region_of}
use Rattle.fkv_latch.specs.declared.latching.LatchAnswer.{LatchAnswer}
use Rattle.fkv_latch.specs.declared.latching.LatchAnswer.TheVariants.{Taken}
use Rattle.fkv_latch.specs.declared.latching.LatchTask.TheVariants.{TakeShared, DropShared, TakeExclusive, DropExclusive}
use Rattle.fkv_latch.specs.Latching.{latch_next_ask}
use Rattle.fkv_ops.specs.declared.answers.Reason.TheVariants as reason
use Rattle.fkv_ops.specs.declared.answers.TryAnswer.{TryAnswer}
use Rattle.fkv_ops.specs.declared.answers.TryAnswer.TheVariants as answer
use Rattle.fkv_ops.specs.declared.appending.Appending.{Appending}
use Rattle.fkv_ops.specs.declared.appending.Appending.TheVariants as appending
use Rattle.fkv_ops.specs.declared.appending.AppendAnswer.{AppendAnswer}
use Rattle.fkv_ops.specs.declared.appending.AppendAnswer.TheVariants as append
use Rattle.fkv_ops.specs.declared.requests.HeldRecord.{HeldRecord}
use Rattle.fkv_ops.specs.declared.requests.Occasion.{Occasion}
use Rattle.fkv_ops.specs.declared.requests.Request.{Request}
use Rattle.fkv_ops.specs.declared.requests.Seen.{Seen}
use Rattle.fkv_ops.specs.declared.trying.OldValue.{OldValue}
use Rattle.fkv_ops.specs.declared.trying.OldValue.TheVariants.{InMemory, Known}
use Rattle.fkv_ops.specs.declared.trying.Trying.{Trying}
use Rattle.fkv_ops.specs.declared.trying.Trying.TheVariants.{Ended, TakesShared, LoadsPhase, Walks, CountsTaken, LoadsSafe, SwapsValue, LoadsCurrent, ChangesValue, LoadsAnswer, TakesExclusive, LoadsOld, Appends, LoadsTail, LoadsTaken, DropsExclusive, DropsShared}
use Rattle.fkv_ops.specs.declared.walking.WalkAnswer.{WalkAnswer}
use Rattle.fkv_ops.specs.declared.walking.WalkAnswer.TheVariants as walk
use Rattle.fkv_ops.specs.Values.{value_of}
use Rattle.fkv_ops.specs.Requests.{is_read, is_blind, is_chain_end}
use Rattle.fkv_ops.specs.Walking.{walk_ask, walk_next, walk_on}
use Rattle.fkv_ops.specs.Appending.{AppendState, append_ask}
use Rattle.fkv_ops.specs.Trying.{TryState, with_latch, is_wait, ended_without, ends_so, ends, is_bounded, ends_by, tail_loaded, taken_loaded, must_count, count_loaded, takes_effect, full_at, walks, wants_shared, try_begun, shared_ledto, must_shift, wants_exclusive, appends, copies_from, copies, awaits, held_used, met_nowhere, met_disk, changes, is_own_version, region_met, met_record, walked, has_walked, walk_ledto, current_ledto, told_value, answer_ledto, exclusive_ledto, old_ledto, append_ledto, exclusive_dropped, shared_dropped, latch_moved, walk_moved, trying_next, new_try, is_next_marked, is_still_in, phase_loaded, is_surely_own}
use Rattle.fkv_ops.proofs.Shown.{is_append_end, AppendRestsOrAsks, append_done}
use Rattle.fkv_flush.specs.GuardSeen.{LastSeen}
use Rattle.fkv_flush.specs.GuardWorld.{ToReserve}
use Rattle.fkv_flush.proofs.Shown.{Likeness}
use Rattle.law_world.specs.GuardSessions.Likenesses.{through, append_onward, append_likeness}
use Rattle.law_world.specs.GuardSessions.Tries.{try_onward, try_likeness}
use Rattle.law_world.proofs.OfGuardSessions.Onwards.{Leads, Keeps, Begins, stayed}
use Rattle.fkv_ops.specs.Bounds.{bounds_at, tail_bound, is_past_taken, is_past_tail}
use Rattle.fkv_ops.specs.Waiting.{told_of, waiting_of}
use Rattle.fkv_ops.specs.declared.answers.Waiting.{Waiting}

-- where a step leads
abbrev pub TryLed : LastSeen → Likeness → TryState → Type 0
TryLed seen mid t = Leads true mid (try_onward t t.step) (try_likeness seen t)

abbrev Free : LastSeen → TryState → Type 0
Free seen t = TryLed seen (through seen) t

either_led : (c : Bool) (seen : LastSeen) (a b : TryState) → Free seen a → Free seen b → Free seen (if c then a else b)
either_led true seen a b one other = one
either_led false seen a b one other = other

without_led : (p : Places) (seen : LastSeen) (t : TryState) (its : TryAnswer) → Free seen (ended_without p t its)
without_led p seen t its = either_led (t.has_shared && not (is_wait its)) seen (with_latch p (record t { has_shared = false }) DropShared (DropsShared its)) (record t { step = Ended its }) (Keeps refl refl) (Keeps refl refl)

ends_so_led : (p : Places) (seen : LastSeen) (t : TryState) (its : TryAnswer) → Free seen (ends_so p t its)
unfolding ends_so
ends_so_led p seen t its = either_led t.has_exclusive seen (with_latch p (record t { has_exclusive = false }) DropExclusive (DropsExclusive its)) (ended_without p t its) (Keeps refl refl) (without_led p seen t its)

ends_by_led : (p : Places) (seen : LastSeen) (t : TryState) (its : TryAnswer) (waiting : Option Waiting) → Free seen (ends_by p t its waiting)
ends_by_led p seen t its None = ends_so_led p seen t its
ends_by_led p seen t its (Some waiting) = either_led (is_bounded t) seen (record t { step = LoadsTail waiting }) (ends_so p t its) (Keeps refl refl) (ends_so_led p seen t its)

ends_led : (p : Places) (seen : LastSeen) (t : TryState) (its : TryAnswer) → Free seen (ends p t its)
unfolding ends
ends_led p seen t its = ends_by_led p seen t its (waiting_of its)

tail_led : (p : Places) (seen : LastSeen) (t : TryState) (waiting : Waiting) (tail : ℕ) → Free seen (tail_loaded p t waiting tail)
unfolding tail_loaded
tail_led p seen t waiting tail =
    either_led (is_past_tail (bounds_at t.occasion) tail) seen (ends_so p t answer.LogFull) _ (ends_so_led p seen t answer.LogFull)
    (either_led (t.walk.entry == 0) seen (record t { step = LoadsTaken waiting }) (ends_so p t (told_of waiting)) (Keeps refl refl) (ends_so_led p seen t (told_of waiting)))

taken_led : (p : Places) (seen : LastSeen) (t : TryState) (waiting : Waiting) (taken : ℕ) → Free seen (taken_loaded p t waiting taken)
unfolding taken_loaded
taken_led p seen t waiting taken = either_led (is_past_taken (bounds_at t.occasion) taken) seen (ends_so p t answer.IndexFull) (ends_so p t (told_of waiting)) (ends_so_led p seen t answer.IndexFull) (ends_so_led p seen t (told_of waiting))

appends_led : (seen : LastSeen) (t : TryState) (old : ℕ) → Free seen (appends t old)
unfolding appends
appends_led seen t old = Begins (ToReserve (tail_bound (bounds_at t.occasion))) refl tt refl refl (refl, refl) refl

copies_from_led : (seen : LastSeen) (t : TryState) (old : OldValue) → Free seen (copies_from t old)
unfolding copies_from
copies_from_led seen t (Known old) = appends_led seen t old
copies_from_led seen t InMemory = either_led (is_blind t.request.op) seen (appends t absent_word) (record t { walk = walk_on t.walk; step = LoadsOld }) (appends_led seen t absent_word) (Keeps refl refl)

copies_led : (p : Places) (seen : LastSeen) (t : TryState) (old : OldValue) (is_current : Bool) → Free seen (copies p t old is_current)
unfolding copies
copies_led p seen t old is_current = either_led (wants_exclusive t is_current) seen (with_latch p t TakeExclusive (TakesExclusive old)) (copies_from t old) (Keeps refl refl) (copies_from_led seen t old)

held_led : (p : Places) (seen : LastSeen) (t : TryState) (addr : Addr) (held : Option HeldRecord) → Free seen (held_used p t addr held)
unfolding held_used
held_led p seen t addr None = ends_led p seen t _
held_led p seen t addr (Some held) =
    either_led (held.entry == t.walk.entry) seen _ (awaits p t addr)
    (either_led (held.key.0 == (key_of t.request.op).0) seen (copies p t (Known held.value) false) _ (copies_led p seen t (Known held.value) false)
    (either_led (is_chain_end t.request.floor held.previous) seen (copies p t (Known absent_word) false) (awaits p t held.previous) (copies_led p seen t (Known absent_word) false) (ends_led p seen t _)))
    (ends_led p seen t _)

nowhere_led : (p : Places) (seen : LastSeen) (t : TryState) → Free seen (met_nowhere p t)
nowhere_led p seen t =
    either_led (is_read t.request.op) seen (ends p t answer.Absent) _ (ends_led p seen t answer.Absent)
    (either_led (must_count p t) seen (record t { step = CountsTaken }) (copies p t (Known absent_word) false) (Keeps refl refl) (copies_led p seen t (Known absent_word) false))

count_led : (p : Places) (seen : LastSeen) (t : TryState) (taken : ℕ) → Free seen (count_loaded p t taken)
unfolding count_loaded
count_led p seen t taken = either_led (is_past_taken (bounds_at t.occasion) taken) seen (ends p t answer.IndexFull) (copies p t (Known absent_word) false) (ends_led p seen t answer.IndexFull) (copies_led p seen t (Known absent_word) false)

disk_led : (p : Places) (seen : LastSeen) (t : TryState) (addr : Addr) → Free seen (met_disk p t addr)
disk_led p seen t addr =
    either_led (is_read t.request.op) seen _ _
    (either_led (is_chain_end t.request.floor addr) seen (ends p t answer.Absent) (awaits p t addr) (ends_led p seen t _) (ends_led p seen t _))
    (either_led (is_blind t.request.op || is_chain_end t.request.floor addr) seen (copies p t (Known absent_word) false) (held_used p t addr t.request.held)
    (copies_led p seen t (Known absent_word) false) (held_led p seen t addr t.request.held))

changes_led : (seen : LastSeen) (t : TryState) (addr : Addr) → Free seen (changes t addr)
changes_led seen t addr = either_led (is_blind t.request.op) seen (record t { step = SwapsValue addr }) (record t { walk = walk_on t.walk; step = LoadsCurrent addr }) (Keeps refl refl) (Keeps refl refl)

region_led : (p : Places) (seen : LastSeen) (t : TryState) (addr : Addr) (version : Version) (found : Option Region) → Free seen (region_met p t addr version found)
region_led p seen t addr version None = Keeps refl refl
region_led p seen t addr version (Some its) = either_led (is_own_version t version) seen (changes t addr) (copies p t InMemory false) (changes_led seen t addr) (copies_led p seen t InMemory false)

record_led : (p : Places) (seen : LastSeen) (t : TryState) (addr : Addr) (version : Version) → Free seen (met_record p t addr version)
record_led p seen t addr version =
    either_led (is_read t.request.op) seen (record t { walk = walk_on t.walk; step = LoadsAnswer }) (region_met p t addr version (seen_region_of addr.0 t.seen.offsets)) (Keeps refl refl) (region_led p seen t addr version (seen_region_of addr.0 t.seen.offsets))

walked_led : (p : Places) (seen : LastSeen) (t : TryState) (its : WalkAnswer) → Free seen (walked p t its)
walked_led p seen t (walk.Found addr version) = record_led p seen t addr version
walked_led p seen t walk.Nowhere = nowhere_led p seen t
walked_led p seen t (walk.OnDisk addr) = disk_led p seen t addr
walked_led p seen t (walk.Value value) = ends_led p seen t _
walked_led p seen t walk.Full = ends_led p seen t _
walked_led p seen t walk.Kept = ends_led p seen t _
walked_led p seen t walk.Contended = ends_led p seen t _

walk_led : (p : Places) (seen : LastSeen) (t : TryState) (ask : Ask WalkAnswer) → t.step ≡ Walks → Free seen (walk_ledto p t ask)
unfolding walk_ledto
walk_led p seen t (Done its) at =
    let after : TryState = record t { spare = t.walk.spare } in
    either_led (has_walked its && must_shift after) seen (ends p after answer.Shift) (walked p after its) (ends_led p seen after answer.Shift) (walked_led p seen after its)
walk_led p seen t ask at = rw at (Keeps refl refl)

current_led : (p : Places) (seen : LastSeen) (t : TryState) (addr : Addr) (ask : Ask WalkAnswer) → t.step ≡ LoadsCurrent addr → Free seen (current_ledto p t addr ask)
unfolding current_ledto
current_led p seen t addr (Done (walk.Value old)) at = Keeps refl refl
current_led p seen t addr (Done its) at = ends_led p seen t _
current_led p seen t addr ask at = rw at (Keeps refl refl)

answer_led : (p : Places) (seen : LastSeen) (t : TryState) (ask : Ask WalkAnswer) → t.step ≡ LoadsAnswer → Free seen (answer_ledto p t ask)
unfolding answer_ledto
answer_led p seen t (Done (walk.Value value)) at = ends_led p seen t (told_value (value_of value))
answer_led p seen t (Done its) at = ends_led p seen t _
answer_led p seen t ask at = rw at (Keeps refl refl)

old_led : (p : Places) (seen : LastSeen) (t : TryState) (ask : Ask WalkAnswer) → t.step ≡ LoadsOld → Free seen (old_ledto p t ask)
unfolding old_ledto
old_led p seen t (Done (walk.Value value)) at = appends_led seen t value
old_led p seen t (Done its) at = ends_led p seen t _
old_led p seen t ask at = rw at (Keeps refl refl)

phase_led : (p : Places) (seen : LastSeen) (t : TryState) (said : PhaseSaid) → Free seen (phase_loaded p t said)
unfolding phase_loaded
phase_led p seen t said = either_led (is_still_in said t.request.version) seen (walks p t) (ends p t answer.Shift) (Keeps refl refl) (ends_led p seen t answer.Shift)

shared_led : (p : Places) (seen : LastSeen) (t : TryState) (ask : Ask LatchAnswer) → t.step ≡ TakesShared → Free seen (shared_ledto p t ask)
unfolding shared_ledto
shared_led p seen t (Done Taken) at = either_led (is_next_marked t.request.version) seen (record t { has_shared = true; step = LoadsPhase }) (walks p (record t { has_shared = true })) (Keeps refl refl) (Keeps refl refl)
shared_led p seen t (Done its) at = ends_led p seen t answer.Shift
shared_led p seen t ask at = rw at (Keeps refl refl)

exclusive_led : (p : Places) (seen : LastSeen) (t : TryState) (old : OldValue) (ask : Ask LatchAnswer) → t.step ≡ TakesExclusive old → Free seen (exclusive_ledto p t old ask)
unfolding exclusive_ledto
exclusive_led p seen t old (Done Taken) at = copies_from_led seen (record t { has_exclusive = true }) old
exclusive_led p seen t old (Done its) at = ends_led p seen t _
exclusive_led p seen t old ask at = rw at (Keeps refl refl)

dropped_led : (p : Places) (seen : LastSeen) (t : TryState) (its : TryAnswer) (ask : Ask LatchAnswer) → t.step ≡ DropsExclusive its → Free seen (exclusive_dropped p t its ask)
unfolding exclusive_dropped
dropped_led p seen t its (Done told) at = without_led p seen t its
dropped_led p seen t its ask at = rw at (Keeps refl refl)

unshared_led : (seen : LastSeen) (t : TryState) (its : TryAnswer) (ask : Ask LatchAnswer) → t.step ≡ DropsShared its → Free seen (shared_dropped t its ask)
unfolding shared_dropped
unshared_led seen t its (Done told) at = Keeps refl refl
unshared_led seen t its ask at = rw at (Keeps refl refl)

-- at its end an append is through
append_through : (seen : LastSeen) (mid : Likeness) (a : AppendState) (step : Appending) → is_append_end step ≡ true → Leads true mid (append_onward a step) (append_likeness seen (record a { step = step })) → mid ≡ through seen
append_through seen mid a (appending.Ended its) ended led = stayed true mid (through seen) led
append_through seen mid a step ended led = cc

pub append_led : (p : Places) (seen : LastSeen) (mid : Likeness) (t : TryState) (its : Reply) (ask : Ask AppendAnswer) → t.step ≡ Appends its → append_ask p t.append ≡ ask → AppendRestsOrAsks t.append
    → Leads true mid (append_onward t.append t.append.step) (append_likeness seen t.append) → TryLed seen mid (append_ledto p t its ask)
unfolding append_ledto
append_led p seen mid t its ask at asks rests led = by_ask ask asks
  where
    ended : (told : AppendAnswer) → append_ask p t.append ≡ Done told → mid ≡ through seen
    ended told e = append_through seen mid t.append t.append.step (sym (append_done p t.append rests) ∙ ap is_done e) led

    freed : (after : TryState) → mid ≡ through seen → Free seen after → TryLed seen mid after
    freed after e free = subst (λ m. TryLed seen m after) (sym e) free

    by_ask : (ask : Ask AppendAnswer) → append_ask p t.append ≡ ask → TryLed seen mid (append_ledto p t its ask)
    by_ask (Done append.Published) e = freed (takes_effect p t its) (ended append.Published e) (ends_led p seen (record t { effect = Some its }) (answer.Done its))
    by_ask (Done append.Full) e = freed (ends p t (full_at t.occasion answer.LogFull)) (ended append.Full e) (ends_led p seen t (full_at t.occasion answer.LogFull))
    by_ask (Done append.NoRoom) e = freed (ends p t (answer.Wait reason.NoRoom)) (ended append.NoRoom e) (ends_led p seen t (answer.Wait reason.NoRoom))
    by_ask (Done append.Contended) e = freed (ends p t (answer.Wait reason.Contended)) (ended append.Contended e) (ends_led p seen t (answer.Wait reason.Contended))
    by_ask ask e = rw at led

-- a step of a try that appends nothing
abbrev pub is_appending : Trying → Bool
is_appending (Appends its) = true
is_appending step = false

pub try_free : (p : Places) (room : ℕ) (seen : LastSeen) (t : TryState) (step : Trying) (reply : ℕ) → t.step ≡ step → is_appending step ≡ false → Free seen (trying_next p room t step reply)
unfolding trying_next
try_free p room seen t (Ended its) reply at other = rw at (Keeps refl refl)
try_free p room seen t TakesShared reply at other = shared_led p seen (latch_moved t reply) (latch_next_ask t.latching reply) at
try_free p room seen t LoadsPhase reply at other = phase_led p seen t (phase_said reply)
try_free p room seen t Walks reply at other = walk_led p seen (walk_moved p t reply) (walk_ask p (walk_next p t.walk reply)) at
try_free p room seen t CountsTaken reply at other = count_led p seen t reply
try_free p room seen t (LoadsSafe addr version) reply at other =
    either_led (nat_le reply addr.0) seen (ends p t (answer.Wait reason.Fuzzy)) (copies p t InMemory (is_surely_own t version)) (ends_led p seen t _) (copies_led p seen t InMemory (is_surely_own t version))
try_free p room seen t (SwapsValue addr) reply at other = ends_led p seen (record t { effect = Some (reply_from None t.request.op) }) _
try_free p room seen t (LoadsCurrent addr) reply at other = current_led p seen (walk_moved p t reply) addr (walk_ask p (walk_next p t.walk reply)) at
try_free p room seen t (ChangesValue addr old) reply at other =
    either_led (reply == old) seen (takes_effect p t (reply_from (value_of old) t.request.op)) (ends p t (answer.Wait reason.Contended)) (ends_led p seen (record t { effect = Some (reply_from (value_of old) t.request.op) }) _) (ends_led p seen t _)
try_free p room seen t LoadsAnswer reply at other = answer_led p seen (walk_moved p t reply) (walk_ask p (walk_next p t.walk reply)) at
try_free p room seen t (TakesExclusive old) reply at other = exclusive_led p seen (latch_moved t reply) old (latch_next_ask t.latching reply) at
try_free p room seen t LoadsOld reply at other = old_led p seen (walk_moved p t reply) (walk_ask p (walk_next p t.walk reply)) at
try_free p room seen t (Appends its) reply at other = cc
try_free p room seen t (LoadsTail waiting) reply at other = tail_led p seen t waiting reply
try_free p room seen t (LoadsTaken waiting) reply at other = taken_led p seen t waiting reply
try_free p room seen t (DropsExclusive its) reply at other = dropped_led p seen (latch_moved t reply) its (latch_next_ask t.latching reply) at
try_free p room seen t (DropsShared its) reply at other = unshared_led seen (latch_moved t reply) its (latch_next_ask t.latching reply) at

-- how a try begins, whoever does
pub begun_free : (protected : Bool) (p : Places) (bits : ℕ) (seen : LastSeen) (request : Request) (its_seen : Seen) (occasion : Occasion) (spare : ℕ)
    → (let after : TryState = try_begun p bits request its_seen occasion spare in Leads protected (through seen) (try_onward after after.step) (try_likeness seen after))
begun_free protected p bits seen request its_seen occasion spare = by_test (wants_shared its)
  where
    its : TryState
    its = new_try bits request its_seen occasion spare

    by_test : (b : Bool) → (let after : TryState = if b then with_latch p its TakeShared TakesShared else walks p its in Leads protected (through seen) (try_onward after after.step) (try_likeness seen after))
    by_test true = Keeps refl refl
    by_test false = Keeps refl refl
