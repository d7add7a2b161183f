-- Each true reply leads a try on to a state of which it knows what it has to.
use Rattle.std.proofs.Common.{◌≡◌, ℕ, ◌∙◌, refl, sym, ap, subst, Bool, true, false, Option, Some, None}
use Rattle.std.specs.Prelude.{◌==◌, ◌&&◌, if◌then◌else◌, nat_lt, ◌^◌}
use Rattle.fkv_base.specs.declared.numbers.Addr.{Addr}
use Rattle.fkv_base.specs.declared.numbers.Key.{Key}
use Rattle.fkv_map.specs.declared.operations.Reply.{Reply}
use Rattle.fkv_map.specs.Keys.{reply_from}
use Rattle.fkv_words.specs.declared.phase_words.PhaseSaid.{PhaseSaid}
use Rattle.fkv_words.specs.PhaseWords.{phase_said}
use Rattle.fkv_plane.specs.declared.asks.Ask.{Ask}
use Rattle.fkv_plane.specs.declared.asks.Ask.TheVariants.{Done}
use Rattle.fkv_plane.specs.declared.places.Places.{Places}
use Rattle.fkv_log.specs.declared.loading.Loading.{Loading}
use Rattle.fkv_log.specs.declared.loading.Loading.TheVariants as load
use Rattle.fkv_log.specs.declared.reserving.ReserveAnswer.{ReserveAnswer}
use Rattle.fkv_log.specs.declared.reserving.ReserveAnswer.TheVariants as reserve
use Rattle.fkv_log.specs.Reserving.{reserve_next, reserve_next_ask}
use Rattle.fkv_log.specs.Filling.{fill_begun, fill_ask, fill_next}
use Rattle.fkv_log.specs.Invalidating.{invalidate_ask, invalidate_next}
use Rattle.fkv_latch.specs.declared.latching.LatchAnswer.{LatchAnswer}
use Rattle.fkv_latch.specs.declared.latching.LatchAnswer.TheVariants as latch
use Rattle.fkv_latch.specs.Latching.{latch_next, latch_next_ask}
use Rattle.fkv_index.specs.declared.publishing.PublishAnswer.{PublishAnswer}
use Rattle.fkv_index.specs.declared.publishing.PublishAnswer.TheVariants as publish
use Rattle.fkv_index.specs.Publishing.{publish_next, publish_next_ask}
use Rattle.fkv_index.specs.Slots.{entry_addr}
use Rattle.law_log.specs.Begins.{Live}
use Rattle.law_log.specs.Chains.{value_at}
use Rattle.law_log.specs.Ghosts.{Log}
use Rattle.law_log.specs.Enabled.{StandsStill}
use Rattle.fkv_ops.specs.declared.answers.Reason.TheVariants as reason
use Rattle.fkv_ops.specs.declared.answers.TryAnswer.{TryAnswer}
use Rattle.fkv_ops.specs.declared.answers.TryAnswer.TheVariants as answer
use Rattle.fkv_ops.specs.declared.appending.AppendAnswer.{AppendAnswer}
use Rattle.fkv_ops.specs.declared.appending.AppendAnswer.TheVariants as append
use Rattle.fkv_ops.specs.declared.appending.Appending.{Appending}
use Rattle.fkv_ops.specs.declared.appending.Appending.TheVariants as appending
use Rattle.fkv_ops.specs.declared.requests.Request.{Request}
use Rattle.fkv_ops.specs.declared.requests.Seen.{Seen}
use Rattle.fkv_ops.specs.declared.trying.OldValue.{OldValue}
use Rattle.fkv_ops.specs.declared.trying.Trying.{Trying}
use Rattle.fkv_ops.specs.declared.trying.Trying.TheVariants.{Ended, TakesShared, LoadsPhase, Walks, CountsTaken, LoadsSafe, SwapsValue, LoadsCurrent, ChangesValue, LoadsAnswer, TakesExclusive, LoadsOld, Appends, LoadsTail, LoadsTaken, DropsExclusive, DropsShared}
use Rattle.fkv_ops.specs.declared.walking.WalkAnswer.TheVariants as walk
use Rattle.fkv_ops.specs.declared.walking.Walking.{Walking}
use Rattle.fkv_ops.specs.declared.walking.Walking.TheVariants as walking
use Rattle.fkv_ops.specs.Values.{value_of}
use Rattle.fkv_ops.specs.Walking.{WalkState, walk_ask, walk_next}
use Rattle.fkv_ops.specs.Appending.{AppendState, append_ended, addr_reserved, reserve_ledto, fill_ledto, publish_ledto, invalidate_ledto, appending_next, append_ask, append_next}
use Rattle.fkv_ops.specs.Trying.{TryState, ends_so, tail_loaded, taken_loaded, count_loaded, copies, ends, takes_effect, walks, is_next_marked, latch_shared, shared_ledto, is_still_in, phase_loaded, current_ledto, value_changed, told_value, answer_ledto, exclusive_ledto, old_ledto, append_ledto, exclusive_dropped, shared_dropped, trying_next, try_next}
use Rattle.law_local.specs.Tries.OnWay.{IsFoundAt, IsOrderly}
use Rattle.law_local.specs.Tries.Replies.{IsTrueOfLoad, IsTrueOfWalk, IsTrueReply}
use Rattle.law_local.specs.Tries.WalkRows.{begin_of, LoadsFrom}
use Rattle.law_local.specs.Tries.TryRows.{floor_in, key_in, first_of, RequestKnows, LoadsFound, MayChange, OldKnows, cell_of, AppendKnows, AnswerKnows, IsUpdate, IsFree, MarksTell, NoneLaterPast, TryRow, TryKnows}
use Rattle.law_local.proofs.OfTries.WalkRows.{walk_leads, loads_value, loads_same}
use Rattle.law_local.proofs.OfTries.WalkBegins.{walk_lives}
use Rattle.law_local.proofs.OfTries.WalkKept.{KeepsKey, walk_keeps}
use Rattle.law_local.proofs.OfTries.Made.{same_old}
use Rattle.law_local.proofs.OfTries.TryEnds.{ended_knows, ends_knows, full_knows, walks_knows, update_free, appends_knows, copies_from_knows, ends_so_knows, copies_knows}
use Rattle.law_local.proofs.OfTries.TryWalks.{walk_led_knows, safe_knows}
use Rattle.fkv_ops.specs.Bounds.{bounds_at, is_past_taken, is_past_tail}
use Rattle.fkv_ops.specs.Waiting.{told_of}
use Rattle.fkv_ops.specs.declared.answers.Waiting.{Waiting}
use Rattle.fkv_map.specs.Map.{absent_word}
use Rattle.fkv_ops.specs.declared.trying.OldValue.TheVariants.{Known}

-- ---- the value that is loaded
-- a true reply is the value of the record that the walk has found
value_said : (home : ℕ → ℕ) (log : Log) (p : Places) (w : WalkState) (addr : Addr) (reply : ℕ) → LoadsFrom w addr → IsTrueOfWalk home log p w w.step reply → IsTrueOfLoad log (load.LoadsValue addr (0) (0)) reply
value_said home log p w addr reply loads says = by_step w.step loads.its_step says
  where
    by_load : (loading : Loading) → loading ≡ load.LoadsValue addr loads.header loads.key → IsTrueOfLoad log loading reply → IsTrueOfLoad log (load.LoadsValue addr (0) (0)) reply
    by_load loading e told = subst (λ l. IsTrueOfLoad log l reply) e told

    by_step : (step : Walking) → step ≡ walking.LoadsValue → IsTrueOfWalk home log p w step reply → IsTrueOfLoad log (load.LoadsValue addr (0) (0)) reply
    by_step walking.LoadsValue e told = by_load w.loading loads.its_loading told
    by_step (walking.Ended its) e told = cc
    by_step walking.Finds e told = cc
    by_step (walking.Meets a) e told = cc
    by_step (walking.HasFound a v) e told = cc

pub found_value : (home : ℕ → ℕ) (log : Log) (p : Places) (request : Request) (seen : Seen) (w : WalkState) (addr : Addr) (reply : ℕ) → LoadsFound home log request seen w addr → IsTrueOfWalk home log p w w.step reply
    → value_of reply ≡ value_at (log.cells (first_of home log request (begin_of w)))
found_value home log p request seen w addr reply its says =
    value_said home log p w addr reply its.loads says its.found.cell its.found.its ∙ sym (ap value_at its.found.its) ∙ sym (ap (λ a. value_at (log.cells a)) its.found.first)

-- ---- latches
latch_knows : (home : ℕ → ℕ) (log : Log) (p : Places) (t : TryState) → RequestKnows home log t.request t.seen → IsUpdate t.request → TryKnows home log (latch_shared p t)
latch_knows home log p t request update = by_mark (is_next_marked t.request.version)
  where
    by_mark : (b : Bool) → TryKnows home log (if b then record t { step = LoadsPhase } else walks p t)
    by_mark true = record { request = request; free = update_free t.request t.has_shared t.has_exclusive update; row = update }
    by_mark false = walks_knows home log p t request (update_free t.request t.has_shared t.has_exclusive update)

phase_knows : (home : ℕ → ℕ) (log : Log) (p : Places) (t : TryState) (said : PhaseSaid) → RequestKnows home log t.request t.seen → IsUpdate t.request → TryKnows home log (phase_loaded p t said)
unfolding phase_loaded
phase_knows home log p t said request update = by_word (is_still_in said t.request.version)
  where
    by_word : (b : Bool) → TryKnows home log (if b then walks p t else ends p t answer.Shift)
    by_word true = walks_knows home log p t request (update_free t.request t.has_shared t.has_exclusive update)
    by_word false = ends_knows home log p t answer.Shift request (update_free t.request t.has_shared t.has_exclusive update) tt

-- ---- the looks for room
count_knows : (home : ℕ → ℕ) (log : Log) (p : Places) (t : TryState) (taken : ℕ) → RequestKnows home log t.request t.seen → IsUpdate t.request → OldKnows home log t.request t.seen t.walk (Known absent_word) → TryKnows home log (count_loaded p t taken)
unfolding count_loaded
count_knows home log p t taken request update knows = by_test (is_past_taken (bounds_at t.occasion) taken)
  where
    by_test : (b : Bool) → TryKnows home log (if b then ends p t answer.IndexFull else copies p t (Known absent_word) false)
    by_test true = ends_knows home log p t answer.IndexFull request (update_free t.request t.has_shared t.has_exclusive update) tt
    by_test false = copies_knows home log p t (Known absent_word) false request update knows

tail_knows : (home : ℕ → ℕ) (log : Log) (p : Places) (t : TryState) (waiting : Waiting) (tail : ℕ) → RequestKnows home log t.request t.seen → IsUpdate t.request → AnswerKnows home log t.request t.seen (told_of waiting) → TryKnows home log (tail_loaded p t waiting tail)
unfolding tail_loaded
tail_knows home log p t waiting tail request update knows = by_tests (is_past_tail (bounds_at t.occasion) tail) (t.walk.entry == 0)
  where
    by_tests : (a b : Bool) → TryKnows home log (if a then ends_so p t answer.LogFull else if b then record t { step = LoadsTaken waiting } else ends_so p t (told_of waiting))
    by_tests true b = ends_so_knows home log p t answer.LogFull request (update_free t.request t.has_shared t.has_exclusive update) tt
    by_tests false true = record { request = request; free = update_free t.request t.has_shared t.has_exclusive update; row = (update, knows) }
    by_tests false false = ends_so_knows home log p t (told_of waiting) request (update_free t.request t.has_shared t.has_exclusive update) knows

taken_knows : (home : ℕ → ℕ) (log : Log) (p : Places) (t : TryState) (waiting : Waiting) (taken : ℕ) → RequestKnows home log t.request t.seen → IsUpdate t.request → AnswerKnows home log t.request t.seen (told_of waiting) → TryKnows home log (taken_loaded p t waiting taken)
unfolding taken_loaded
taken_knows home log p t waiting taken request update knows = by_test (is_past_taken (bounds_at t.occasion) taken)
  where
    by_test : (b : Bool) → TryKnows home log (if b then ends_so p t answer.IndexFull else ends_so p t (told_of waiting))
    by_test true = ends_so_knows home log p t answer.IndexFull request (update_free t.request t.has_shared t.has_exclusive update) tt
    by_test false = ends_so_knows home log p t (told_of waiting) request (update_free t.request t.has_shared t.has_exclusive update) knows

shared_knows : (home : ℕ → ℕ) (log : Log) (p : Places) (t : TryState) (ask : Ask LatchAnswer) → RequestKnows home log t.request t.seen → IsUpdate t.request → t.step ≡ TakesShared → TryKnows home log (shared_ledto p t ask)
unfolding shared_ledto
shared_knows home log p t (Done latch.Taken) request update at = latch_knows home log p (record t { has_shared = true }) request update
shared_knows home log p t (Done its) request update at = ends_knows home log p t answer.Shift request (update_free t.request t.has_shared t.has_exclusive update) tt
shared_knows home log p t ask request update at = record { request = request; free = update_free t.request t.has_shared t.has_exclusive update; row = subst (TryRow home log t) (sym at) update }

exclusive_knows : (home : ℕ → ℕ) (log : Log) (p : Places) (t : TryState) (old : OldValue) (ask : Ask LatchAnswer) → RequestKnows home log t.request t.seen → IsUpdate t.request → t.step ≡ TakesExclusive old → OldKnows home log t.request t.seen t.walk old
    → TryKnows home log (exclusive_ledto p t old ask)
unfolding exclusive_ledto
exclusive_knows home log p t old (Done latch.Taken) request update at knows = copies_from_knows home log (record t { has_exclusive = true }) old request update knows
exclusive_knows home log p t old (Done its) request update at knows = ends_knows home log p t (answer.Wait reason.Latch) request (update_free t.request t.has_shared t.has_exclusive update) tt
exclusive_knows home log p t old ask request update at knows = record { request = request; free = update_free t.request t.has_shared t.has_exclusive update; row = subst (TryRow home log t) (sym at) (update, knows) }

dropped_knows : (home : ℕ → ℕ) (log : Log) (p : Places) (t : TryState) (its : TryAnswer) (ask : Ask LatchAnswer) → RequestKnows home log t.request t.seen → IsFree t.request t.has_shared t.has_exclusive → t.step ≡ DropsExclusive its → IsUpdate t.request
    → AnswerKnows home log t.request t.seen its → TryKnows home log (exclusive_dropped p t its ask)
unfolding exclusive_dropped
dropped_knows home log p t its (Done told) request free at update knows = ended_knows home log p t its request free knows
dropped_knows home log p t its ask request free at update knows = record { request = request; free = free; row = subst (TryRow home log t) (sym at) (update, knows) }

unshared_knows : (home : ℕ → ℕ) (log : Log) (t : TryState) (its : TryAnswer) (ask : Ask LatchAnswer) → RequestKnows home log t.request t.seen → IsFree t.request t.has_shared t.has_exclusive → t.step ≡ DropsShared its → IsUpdate t.request
    → AnswerKnows home log t.request t.seen its → TryKnows home log (shared_dropped t its ask)
unfolding shared_dropped
unshared_knows home log t its (Done told) request free at update knows = record { request = request; free = free; row = knows }
unshared_knows home log t its ask request free at update knows = record { request = request; free = free; row = subst (TryRow home log t) (sym at) (update, knows) }

-- ---- a change in place
changed_knows : (home : ℕ → ℕ) (log : Log) (p : Places) (t : TryState) (old found : ℕ) → RequestKnows home log t.request t.seen → IsUpdate t.request → TryKnows home log (value_changed p t old found)
changed_knows home log p t old found request update = by_test (found == old)
  where
    by_test : (b : Bool) → TryKnows home log (if b then takes_effect p t (reply_from (value_of old) t.request.op) else ends p t (answer.Wait reason.Contended))
    by_test true = ends_knows home log p (record t { effect = Some (reply_from (value_of old) t.request.op) }) (answer.Done (reply_from (value_of old) t.request.op)) request (update_free t.request t.has_shared t.has_exclusive update) tt
    by_test false = ends_knows home log p t (answer.Wait reason.Contended) request (update_free t.request t.has_shared t.has_exclusive update) tt

-- ---- an append
-- what the append is to write, and what is known of it
abbrev pub MakesAt : (ℕ → ℕ) → Log → Request → Reply → AppendState → Type 0
MakesAt home log request its a = AppendKnows home log request its (cell_of request.version.0 a.its_words) a.step

ended_append : (home : ℕ → ℕ) (log : Log) (request : Request) (its : Reply) (a : AppendState) (answer : AppendAnswer) → MakesAt home log request its (append_ended a answer)
ended_append home log request its a answer = tt

reserved_append : (home : ℕ → ℕ) (log : Log) (request : Request) (its : Reply) (a : AppendState) (addr : Addr) → MakesAt home log request its (addr_reserved a addr)
reserved_append home log request its a addr = by_test (nat_lt a.its_words.header.previous.0 addr.0 && nat_lt addr.0 (2 ^ 48))
  where
    by_test : (b : Bool) → MakesAt home log request its (if b then record a { filling = fill_begun addr a.its_words; step = appending.Fills addr } else append_ended a append.Contended)
    by_test true = tt
    by_test false = tt

reserve_append : (home : ℕ → ℕ) (log : Log) (request : Request) (its : Reply) (a : AppendState) (ask : Ask ReserveAnswer) → MakesAt home log request its a → MakesAt home log request its (reserve_ledto a ask)
unfolding reserve_ledto
reserve_append home log request its a (Done (reserve.Reserved addr)) makes = reserved_append home log request its a addr
reserve_append home log request its a (Done reserve.Full) makes = tt
reserve_append home log request its a (Done reserve.NoRoom) makes = tt
reserve_append home log request its a (Done reserve.Contended) makes = tt
reserve_append home log request its a ask makes = makes

fill_append : (home : ℕ → ℕ) (log : Log) (request : Request) (its : Reply) (a : AppendState) (addr : Addr) (ask : Ask (Unit {0})) → MakesAt home log request its a → MakesAt home log request its (fill_ledto a addr ask)
unfolding fill_ledto
fill_append home log request its a addr (Done told) makes = tt
fill_append home log request its a addr ask makes = makes

publish_append : (home : ℕ → ℕ) (log : Log) (request : Request) (its : Reply) (a : AppendState) (addr : Addr) (ask : Ask PublishAnswer) → MakesAt home log request its a → MakesAt home log request its (publish_ledto a addr ask)
unfolding publish_ledto
publish_append home log request its a addr (Done publish.Won) makes = tt
publish_append home log request its a addr (Done publish.Lost) makes = tt
publish_append home log request its a addr ask makes = makes

invalidate_append : (home : ℕ → ℕ) (log : Log) (request : Request) (its : Reply) (a : AppendState) (ask : Ask (Unit {0})) → MakesAt home log request its a → MakesAt home log request its (invalidate_ledto a ask)
unfolding invalidate_ledto
invalidate_append home log request its a (Done told) makes = tt
invalidate_append home log request its a ask makes = makes

append_row : (home : ℕ → ℕ) (log : Log) (p : Places) (room : ℕ) (request : Request) (its : Reply) (a : AppendState) (step : Appending) (reply : ℕ) → MakesAt home log request its a → MakesAt home log request its (appending_next p room a step reply)
unfolding appending_next
append_row home log p room request its a (appending.Ended told) reply makes = makes
append_row home log p room request its a appending.Reserves reply makes = reserve_append home log request its (record a { reserving = reserve_next a.reserving reply }) (reserve_next_ask room a.reserving reply) makes
append_row home log p room request its a (appending.Fills addr) reply makes = fill_append home log request its (record a { filling = fill_next a.filling }) addr (fill_ask p (fill_next a.filling)) makes
append_row home log p room request its a (appending.Publishes addr) reply makes = publish_append home log request its (record a { publishing = publish_next a.publishing reply }) addr (publish_next_ask a.publishing reply) makes
append_row home log p room request its a appending.Invalidates reply makes = invalidate_append home log request its (record a { invalidating = invalidate_next a.invalidating }) (invalidate_ask p (invalidate_next a.invalidating)) makes

append_knows : (home : ℕ → ℕ) (log : Log) (p : Places) (t : TryState) (its : Reply) (ask : Ask AppendAnswer) → RequestKnows home log t.request t.seen → IsUpdate t.request → t.step ≡ Appends its → MakesAt home log t.request its t.append
    → TryKnows home log (append_ledto p t its ask)
unfolding append_ledto
append_knows home log p t its (Done append.Published) request update at makes = ends_knows home log p (record t { effect = Some its }) (answer.Done its) request (update_free t.request t.has_shared t.has_exclusive update) tt
append_knows home log p t its (Done append.Full) request update at makes = full_knows home log p t answer.LogFull t.occasion request (update_free t.request t.has_shared t.has_exclusive update) tt
append_knows home log p t its (Done append.NoRoom) request update at makes = ends_knows home log p t (answer.Wait reason.NoRoom) request (update_free t.request t.has_shared t.has_exclusive update) tt
append_knows home log p t its (Done append.Contended) request update at makes = ends_knows home log p t (answer.Wait reason.Contended) request (update_free t.request t.has_shared t.has_exclusive update) tt
append_knows home log p t its ask request update at makes = record { request = request; free = update_free t.request t.has_shared t.has_exclusive update; row = subst (TryRow home log t) (sym at) (update, makes) }

-- ---- values behind their loads
current_knows : (home : ℕ → ℕ) (log : Log) (p : Places) (t : TryState) (addr : Addr) (value : ℕ) → RequestKnows home log t.request t.seen → IsUpdate t.request → MayChange home log t.request t.seen (begin_of t.walk) addr.0
    → TryKnows home log (current_ledto p t addr (Done (walk.Value value)))
unfolding current_ledto
current_knows home log p t addr value request update may = record { request = request; free = update_free t.request t.has_shared t.has_exclusive update; row = (update, may) }

answer_knows : (home : ℕ → ℕ) (log : Log) (p : Places) (t : TryState) (value : ℕ) → RequestKnows home log t.request t.seen → IsFree t.request t.has_shared t.has_exclusive → TryKnows home log (answer_ledto p t (Done (walk.Value value)))
unfolding answer_ledto
answer_knows home log p t value request free = by_value (value_of value)
  where
    by_value : (its : Option ℕ) → TryKnows home log (ends p t (told_value its))
    by_value None = ends_knows home log p t answer.Absent request free tt
    by_value (Some its) = ends_knows home log p t (answer.Found (record { 0 = its })) request free tt

old_knows : (home : ℕ → ℕ) (log : Log) (p : Places) (t : TryState) (value : ℕ) → RequestKnows home log t.request t.seen → IsUpdate t.request → (addr : ℕ) (version : ℕ) → IsFoundAt home log (key_in t.request) (begin_of t.walk) addr version
    → StandsStill log addr t.request.version.0 → value_of value ≡ value_at (log.cells (first_of home log t.request (begin_of t.walk))) → TryKnows home log (old_ledto p t (Done (walk.Value value)))
unfolding old_ledto
old_knows home log p t value request update addr version found still says = appends_knows home log t value request update found.begins (subst (λ a. StandsStill log a t.request.version.0) (sym found.first) still)
    (same_old t.request.op value (value_at (log.cells (first_of home log t.request (begin_of t.walk)))) says)

-- ---- by the control state
-- the walk goes by the same entry
at_same : (X : ℕ → Type 0) (w w' : WalkState) → w'.entry ≡ w.entry → X (begin_of w) → X (begin_of w')
at_same X w w' same it = subst (λ n. X (entry_addr n)) (sym same) it

row_leads : (home : ℕ → ℕ) (log : Log) (p : Places) (room : ℕ) (t : TryState) (step : Trying) (reply : ℕ) → IsOrderly home log → Live (floor_in t.request) home log → NoneLaterPast home log p t reply → MarksTell log p t reply → RequestKnows home log t.request t.seen
    → IsFree t.request t.has_shared t.has_exclusive → t.step ≡ step → TryRow home log t step → IsTrueReply home log p t step reply → TryKnows home log (trying_next p room (record t { effect = None }) step reply)
unfolding trying_next
row_leads home log p room t (Ended its) reply orderly live newest marks request free at row says = record { request = request; free = free; row = subst (TryRow home log (record t { effect = None })) (sym at) row }
row_leads home log p room t TakesShared reply orderly live newest marks request free at row says = shared_knows home log p (record t { effect = None; latching = latch_next t.latching reply }) (latch_next_ask t.latching reply) request row at
row_leads home log p room t LoadsPhase reply orderly live newest marks request free at row says = phase_knows home log p (record t { effect = None }) (phase_said reply) request row
row_leads home log p room t Walks reply orderly live newest marks request free at row says =
    walk_led_knows home log p (record t { effect = None; walk = walk_next p t.walk reply }) (walk_ask p (walk_next p t.walk reply)) orderly (newest at) (marks at) request free at
    (record { its_key = kept.key ∙ row.0.its_key; its_head = kept.head ∙ row.0.its_head }) (walk_leads home log p t.walk reply orderly.chains row.1 says)
    (walk_lives home log p t.request t.walk reply (record { fixed = request.low_floor; live = live }) (ap (λ (k : Key). k.0) row.0.its_key) row.1 says row.2) refl
  where
    kept : KeepsKey t.walk (walk_next p t.walk reply)
    kept = walk_keeps p t.walk reply
row_leads home log p room t CountsTaken reply orderly live newest marks request free at row says = count_knows home log p (record t { effect = None }) reply request row.0 row.1
row_leads home log p room t (LoadsSafe addr version) reply orderly live newest marks request free at row says = safe_knows home log p (record t { effect = None }) addr version reply request row.0 row.1 says
row_leads home log p room t (SwapsValue addr) reply orderly live newest marks request free at row says =
    ends_knows home log p (record t { effect = Some (reply_from None t.request.op) }) (answer.Done (reply_from None t.request.op)) request free tt
row_leads home log p room t (LoadsCurrent addr) reply orderly live newest marks request free at row says =
    subst (λ ask. TryKnows home log (current_ledto p (record t { effect = None; walk = walk_next p t.walk reply }) addr ask)) (sym (loads_value p t.walk addr reply row.1))
    (current_knows home log p (record t { effect = None; walk = walk_next p t.walk reply }) addr reply request row.0 (at_same (λ e. MayChange home log t.request t.seen e addr.0) t.walk (walk_next p t.walk reply) (loads_same p t.walk addr reply row.1) row.2))
row_leads home log p room t (ChangesValue addr old) reply orderly live newest marks request free at row says = changed_knows home log p (record t { effect = None }) old reply request row.0
row_leads home log p room t LoadsAnswer reply orderly live newest marks request free at row says =
    subst (λ ask. TryKnows home log (answer_ledto p (record t { effect = None; walk = walk_next p t.walk reply }) ask)) (sym (loads_value p t.walk row.addr reply row.its.loads))
    (answer_knows home log p (record t { effect = None; walk = walk_next p t.walk reply }) reply request free)
row_leads home log p room t (TakesExclusive old) reply orderly live newest marks request free at row says = exclusive_knows home log p (record t { effect = None; latching = latch_next t.latching reply }) old (latch_next_ask t.latching reply) request row.0 at row.1
row_leads home log p room t LoadsOld reply orderly live newest marks request free at row says =
    subst (λ ask. TryKnows home log (old_ledto p (record t { effect = None; walk = walk_next p t.walk reply }) ask)) (sym (loads_value p t.walk row.1.addr reply row.1.its.loads))
    (old_knows home log p (record t { effect = None; walk = walk_next p t.walk reply }) reply request row.0 row.1.addr.0 row.1.its.version
    (at_same (λ e. IsFoundAt home log (key_in t.request) e row.1.addr.0 row.1.its.version) t.walk (walk_next p t.walk reply) same row.1.its.found) row.1.still
    (at_same (λ e. value_of reply ≡ value_at (log.cells (first_of home log t.request e))) t.walk (walk_next p t.walk reply) same (found_value home log p t.request t.seen t.walk row.1.addr reply row.1.its says)))
  where
    same : (walk_next p t.walk reply).entry ≡ t.walk.entry
    same = loads_same p t.walk row.1.addr reply row.1.its.loads
row_leads home log p room t (Appends its) reply orderly live newest marks request free at row says =
    append_knows home log p (record t { effect = None; append = append_next p room t.append reply }) its (append_ask p (append_next p room t.append reply)) request row.0 at (append_row home log p room t.request its t.append t.append.step reply row.1)
row_leads home log p room t (LoadsTail waiting) reply orderly live newest marks request free at row says = tail_knows home log p (record t { effect = None }) waiting reply request row.0 row.1
row_leads home log p room t (LoadsTaken waiting) reply orderly live newest marks request free at row says = taken_knows home log p (record t { effect = None }) waiting reply request row.0 row.1
row_leads home log p room t (DropsExclusive its) reply orderly live newest marks request free at row says = dropped_knows home log p (record t { effect = None; latching = latch_next t.latching reply }) its (latch_next_ask t.latching reply) request free at row.0 row.1
row_leads home log p room t (DropsShared its) reply orderly live newest marks request free at row says = unshared_knows home log (record t { effect = None; latching = latch_next t.latching reply }) its (latch_next_ask t.latching reply) request free at row.0 row.1

pub try_leads : (home : ℕ → ℕ) (log : Log) (p : Places) (room : ℕ) (t : TryState) (reply : ℕ) → IsOrderly home log → Live (floor_in t.request) home log → NoneLaterPast home log p t reply → MarksTell log p t reply → TryKnows home log t → IsTrueReply home log p t t.step reply
    → TryKnows home log (try_next p room t reply)
try_leads home log p room t reply orderly live newest marks knows says = row_leads home log p room t t.step reply orderly live newest marks knows.request knows.free refl knows.row says
