-- The effect of a reply to a try is what takes effect by the log's events of the step.
use Rattle.std.proofs.Common.{◌≡◌, ℕ, ◌<◌, ◌∙◌, arith, refl, sym, ap, subst, Bool, true, false, List, [], ◌∷◌}
use Rattle.std.specs.Prelude.{◌==◌, ◌&&◌, not, nat_le, if◌then◌else◌, Option, Some, None, nat_lt, ◌^◌, ◌||◌}
use Rattle.std.proofs.lemmas.Bool.Decides.{nat_tests}
use Rattle.fkv_base.specs.declared.numbers.Addr.{Addr}
use Rattle.fkv_base.specs.declared.numbers.Key.{Key}
use Rattle.fkv_base.specs.declared.numbers.Version.{Version}
use Rattle.fkv_map.specs.declared.history.HistoryEntry.{HistoryEntry}
use Rattle.fkv_map.specs.declared.operations.Op.{Op}
use Rattle.fkv_map.specs.declared.operations.Op.TheVariants.{Upsert, Delete}
use Rattle.fkv_map.specs.declared.operations.Reply.{Reply}
use Rattle.fkv_map.specs.Map.{absent_word}
use Rattle.fkv_map.specs.Keys.{key_of, value_applied, reply_from}
use Rattle.law_log.specs.Ghosts.{GhostEvent, Changes, Reserves as TakesAddr, Drops}
use Rattle.fkv_words.specs.declared.phase_words.PhaseSaid.{PhaseSaid}
use Rattle.fkv_words.specs.PhaseWords.{phase_said}
use Rattle.fkv_plane.specs.declared.asks.Ask.{Ask}
use Rattle.fkv_plane.specs.declared.asks.Ask.TheVariants.{Load, Store, Swap, Cas, Add, Max, Put, Take, Done}
use Rattle.fkv_plane.specs.declared.places.RecordWord.TheVariants as rec
use Rattle.fkv_plane.specs.Places.{record_place}
use Rattle.fkv_plane.specs.declared.places.Places.{Places}
use Rattle.fkv_plane.specs.Passing.{passed}
use Rattle.law_world.specs.Below.fkv_log.Region.{Region}
use Rattle.law_world.specs.Below.fkv_log.Regions.{seen_region_of}
use Rattle.fkv_latch.specs.declared.latching.LatchAnswer.{LatchAnswer}
use Rattle.fkv_latch.specs.declared.latching.LatchAnswer.TheVariants as latch
use Rattle.fkv_latch.specs.declared.latching.LatchTask.TheVariants.{DropShared, TakeExclusive, DropExclusive}
use Rattle.fkv_latch.specs.Latching.{latch_next_ask}
use Rattle.law_world.specs.Below.fkv_ops.Reason.TheVariants as reason
use Rattle.law_world.specs.Below.fkv_ops.TryAnswer.{TryAnswer}
use Rattle.law_world.specs.Below.fkv_ops.TryAnswer.TheVariants as answer
use Rattle.law_world.specs.Below.fkv_ops.TheAppending.{Appending}
use Rattle.law_world.specs.Below.fkv_ops.TheAppending.TheVariants as appending
use Rattle.law_world.specs.Below.fkv_ops.AppendAnswer.{AppendAnswer}
use Rattle.law_world.specs.Below.fkv_ops.AppendAnswer.TheVariants as append
use Rattle.law_world.specs.Below.fkv_ops.HeldRecord.{HeldRecord}
use Rattle.law_world.specs.Below.fkv_ops.Request.{Request}
use Rattle.law_world.specs.Below.fkv_ops.OldValue.{OldValue}
use Rattle.law_world.specs.Below.fkv_ops.OldValue.TheVariants.{InMemory, Known}
use Rattle.law_world.specs.Below.fkv_ops.TheTrying.{Trying}
use Rattle.law_world.specs.Below.fkv_ops.TheTrying.TheVariants.{Ended, TakesShared, LoadsPhase, Walks, CountsTaken, LoadsSafe, SwapsValue, LoadsCurrent, ChangesValue, LoadsAnswer, TakesExclusive, LoadsOld, Appends, LoadsTail, LoadsTaken, DropsExclusive, DropsShared}
use Rattle.law_world.specs.Below.fkv_ops.WalkAnswer.{WalkAnswer}
use Rattle.law_world.specs.Below.fkv_ops.WalkAnswer.TheVariants as walk
use Rattle.law_world.specs.Below.fkv_ops.Requests.{is_read, is_blind, is_chain_end}
use Rattle.law_world.specs.Below.fkv_ops.Values.{value_of, word_of}
use Rattle.law_world.specs.Below.fkv_ops.Walking.{WalkState, walk_ask, walk_next, walk_on}
use Rattle.law_world.specs.Below.fkv_ops.Appending.{AppendState, append_ask, append_next, append_ended, appending_ask, reserve_ledto, fill_ledto, publish_ledto, invalidate_ledto, appending_next}
use Rattle.law_world.specs.Below.fkv_ops.Trying.{TryState, with_latch, is_wait, ended_without, ends_so, ends_by, is_bounded, tail_loaded, taken_loaded, must_count, count_loaded, ends, takes_effect, full_at, shared_ledto, must_shift, wants_exclusive, appends, copies_from, copies, awaits, held_used, met_nowhere, met_disk, changes, is_own_version, region_met, met_record, walked, has_walked, walk_ledto, safe_loaded, current_ledto, told_value, answer_ledto, exclusive_ledto, old_ledto, append_ledto, exclusive_dropped, shared_dropped, latch_moved, walk_moved, trying_ask, try_ask, trying_next, try_next, is_next_marked, is_still_in, phase_loaded, is_surely_own, walks}
use Rattle.law_world.proofs.Below.fkv_ops.Shown.{is_append_end, TryRestsOrAsks, IsAppendUnderWay}
use Rattle.law_world.specs.Below.fkv_pending.PendingRequest.{PendingRequest}
use Rattle.law_world.specs.Below.fkv_log.ReserveAnswer.{ReserveAnswer}
use Rattle.law_world.specs.Below.fkv_log.ReserveAnswer.TheVariants as reserve
use Rattle.law_world.specs.Below.fkv_log.Reserving.{reserve_next, reserve_next_ask}
use Rattle.law_world.specs.Below.fkv_log.Filling.{fill_begun, fill_ask, fill_next}
use Rattle.law_world.specs.Below.fkv_log.Invalidating.{invalidate_ask, invalidate_next}
use Rattle.fkv_index.specs.declared.publishing.PublishAnswer.{PublishAnswer}
use Rattle.fkv_index.specs.declared.publishing.PublishAnswer.TheVariants as publish
use Rattle.fkv_index.specs.declared.publishing.Publishing.{Publishing}
use Rattle.fkv_index.specs.declared.publishing.Publishing.TheVariants.{AtRest, SwapsEntry}
use Rattle.fkv_index.specs.IndexWorld.{new_entry}
use Rattle.fkv_index.specs.Publishing.{publish_ask, publish_next, publish_next_ask, published_where}
use Rattle.fkv_index.specs.Slots.{entry_addr}
use Rattle.law_refine.specs.Events.Appends.{entry_made, reserved_ghosts, publish_ghosts, invalidate_ghosts, append_ghosts, NewRecord, new_record}
use Rattle.law_world.specs.GuardSessions.Tries.{is_for_entry}
use Rattle.law_local.specs.Tries.TryRows.{cell_of}
use Rattle.law_refine.specs.Events.Effects.{AreQuiet, Stepped, stepped, ChangesAt, TakesEffect, Quietly, InPlace, ByRecord}
use Rattle.law_refine.specs.Events.Reservations.{Reservation, reservation, append_reserves, try_reserves}
use Rattle.law_refine.proofs.OfEvents.TryAppends.{HoldsAt, WordsAre, KnowsAt, IsTryAt}
use Rattle.law_refine.specs.Events.Tries.{search_ghosts, try_ghosts}
use Rattle.law_refine.proofs.OfEvents.Searches.{invalidate_all, search_all}
use Rattle.law_world.specs.Below.fkv_ops.Bounds.{bounds_at, is_past_taken, is_past_tail}
use Rattle.law_world.specs.Below.fkv_ops.Waiting.{told_of, waiting_of}
use Rattle.law_world.specs.Below.fkv_ops.TheWaiting.{Waiting}

-- the entry of an effect with this reply
abbrev pub made_entry : ℕ → PendingRequest → Option Reply → Option HistoryEntry
made_entry session pending None = None
made_entry session pending (Some its) = Some (entry_made session pending its)

pub quiet : (session : ℕ) (pending : PendingRequest) (its_step : Stepped) (events : List GhostEvent) (made : Option Reply) → AreQuiet events → made ≡ None → TakesEffect its_step events (made_entry session pending made)
quiet session pending its_step events made still none = rw none (Quietly events still)

-- so it is of an ask that is passed on
pub passes_on : {A B : Type 0} (p : Places) (version : Version) (reserved : Option Reservation) (ask : Ask A) (told : B) (reply : ℕ) (events : List GhostEvent) (made : Option HistoryEntry)
    → TakesEffect (stepped p version reserved ask reply) events made → TakesEffect (stepped p version reserved (passed ask told) reply) events made
unfolding passed
passes_on p version reserved (Load place) told reply events made its = its
passes_on p version reserved (Store place new) told reply events made its = its
passes_on p version reserved (Swap place new) told reply events made its = its
passes_on p version reserved (Cas place old new) told reply events made its = its
passes_on p version reserved (Add place k) told reply events made its = its
passes_on p version reserved (Max place k) told reply events made its = its
passes_on p version reserved (Put slot action) told reply events made its = its
passes_on p version reserved (Take slot) told reply events made its = its
passes_on p version reserved (Done inner) told reply events made its = its

-- ---- an append
abbrev published_reply : Reply → Ask AppendAnswer → Option Reply
published_reply its (Done append.Published) = Some its
published_reply its ask = None

passed_none : {A : Type 0} (its : Reply) (ask : Ask A) → published_reply its (passed ask append.Contended) ≡ None
unfolding passed
passed_none its (Done inner) = refl
passed_none its ask = refl

going_none : (p : Places) (a : AppendState) (step : Appending) (its : Reply) → is_append_end step ≡ false → published_reply its (appending_ask p a step) ≡ None
unfolding appending_ask
going_none p a (appending.Ended told) its e = cc
going_none p a step its e = passed_none its _

reserve_none : (p : Places) (a : AppendState) (its : Reply) (ask : Ask ReserveAnswer) → a.step ≡ appending.Reserves → published_reply its (append_ask p (reserve_ledto a ask)) ≡ None
unfolding reserve_ledto appending_ask
reserve_none p a its (Done (reserve.Reserved addr)) at = by_test (nat_lt a.its_words.header.previous.0 addr.0 && nat_lt addr.0 (2 ^ 48))
  where
    by_test : (c : Bool) → published_reply its (append_ask p (if c then record a { filling = fill_begun addr a.its_words; step = appending.Fills addr } else append_ended a append.Contended)) ≡ None
    by_test true = passed_none its (fill_ask p (fill_begun addr a.its_words))
    by_test false = refl
reserve_none p a its (Done reserve.Full) at = refl
reserve_none p a its (Done reserve.NoRoom) at = refl
reserve_none p a its (Done reserve.Contended) at = refl
reserve_none p a its ask at = going_none p a a.step its (ap is_append_end at)

fill_none : (p : Places) (a : AppendState) (its : Reply) (addr : Addr) (ask : Ask (Unit {0})) → a.step ≡ appending.Fills addr → published_reply its (append_ask p (fill_ledto a addr ask)) ≡ None
unfolding fill_ledto
fill_none p a its addr (Done told) at = going_none p (fill_ledto a addr (Done told)) (appending.Publishes addr) its refl
fill_none p a its addr ask at = going_none p a a.step its (ap is_append_end at)

invalidate_none : (p : Places) (a : AppendState) (its : Reply) (ask : Ask (Unit {0})) → a.step ≡ appending.Invalidates → published_reply its (append_ask p (invalidate_ledto a ask)) ≡ None
unfolding invalidate_ledto appending_ask
invalidate_none p a its (Done told) at = refl
invalidate_none p a its ask at = going_none p a a.step its (ap is_append_end at)

reserved_quiet : (a : AppendState) (made : NewRecord) (ask : Ask ReserveAnswer) → AreQuiet (reserved_ghosts a made ask)
reserved_quiet a made (Done (reserve.Reserved addr)) = by_test (is_for_entry a addr)
  where
    by_test : (c : Bool) → AreQuiet (if c then TakesAddr addr.0 made.entry (cell_of made.version a.its_words) ∷ [] else Drops addr.0 ∷ TakesAddr addr.0 made.entry (cell_of made.version a.its_words) ∷ [])
    by_test true = (tt, tt)
    by_test false = (tt, (tt, tt))
reserved_quiet a made ask = tt

new_addr : (addr tag : ℕ) → addr < 2 ^ 48 → entry_addr (new_entry addr tag) ≡ addr
new_addr addr tag low = omega (arith, low)

-- the Cas that publishes it
publish_takes : (p : Places) (a : AppendState) (session : ℕ) (pending : PendingRequest) (its : Reply) (addr : Addr) (place word tag reply : ℕ) → addr.0 < 2 ^ 48 → WordsAre pending.request a.its_words word
    → TakesEffect (stepped {A = PublishAnswer} p pending.request.version (Some (reservation a (new_record session pending its) addr.0)) (Cas place word (new_entry addr.0 tag)) reply) (publish_ghosts addr.0 (Done (published_where word reply)))
    (made_entry session pending (published_reply its (append_ask p (publish_ledto (record a { publishing = AtRest }) addr (Done (published_where word reply))))))
unfolding publish_ledto appending_ask
publish_takes p a session pending its addr place word tag reply fits so = by_test (reply == word) refl
  where
    found : (reply == word) ≡ true → entry_addr reply ≡ a.its_words.header.previous.0
    found e = let its_word : reply ≡ word = grind (arith, nat_tests, e) in ap entry_addr its_word ∙ sym so.previous

    by_test : (c : Bool) → (reply == word) ≡ c
        → TakesEffect (record { places = p; place = Some place; found = reply; word = if c then new_entry addr.0 tag else reply; version = pending.request.version; reserved = Some (reservation a (new_record session pending its) addr.0) })
        (publish_ghosts addr.0 (Done (if c then publish.Won else publish.Lost)))
        (made_entry session pending (published_reply its (append_ask p (publish_ledto (record a { publishing = AtRest }) addr (Done (if c then publish.Won else publish.Lost))))))
    by_test true e =
        ByRecord (reservation a (new_record session pending its) addr.0)
        (record { reserved = refl; its_key = ap (λ (key : Key). key.0) so.its_key; its_version = refl; previous = found e; its_addr = new_addr addr.0 tag fits })
    by_test false e = quiet session pending _ [] _ tt (going_none p (publish_ledto (record a { publishing = AtRest }) addr (Done publish.Lost)) appending.Invalidates its refl)

publish_so : (p : Places) (a : AppendState) (session : ℕ) (pending : PendingRequest) (its : Reply) (addr : Addr) (step : Publishing) (place word tag reply : ℕ) → step ≡ SwapsEntry place word (new_entry addr.0 tag) → addr.0 < 2 ^ 48
    → WordsAre pending.request a.its_words word
    → TakesEffect (stepped p pending.request.version (Some (reservation a (new_record session pending its) addr.0)) (publish_ask step) reply) (publish_ghosts addr.0 (publish_next_ask step reply))
    (made_entry session pending (published_reply its (append_ask p (publish_ledto (record a { publishing = publish_next step reply }) addr (publish_next_ask step reply)))))
unfolding publish_ask publish_next publish_next_ask
publish_so p a session pending its addr step place word tag reply e fits so = rw e (publish_takes p a session pending its addr place word tag reply fits so)

append_takes : (p : Places) (room : ℕ) (a : AppendState) (session : ℕ) (pending : PendingRequest) (its : Reply) (step : Appending) (reply : ℕ) → a.step ≡ step → is_append_end step ≡ false
    → HoldsAt a step → WordsAre pending.request a.its_words a.slot.entry
    → TakesEffect (stepped p pending.request.version (append_reserves a (new_record session pending its) step) (appending_ask p a step) reply) (append_ghosts room a (new_record session pending its) step reply)
    (made_entry session pending (published_reply its (append_ask p (appending_next p room a step reply))))
unfolding appending_next appending_ask
append_takes p room a session pending its (appending.Ended told) reply at goes holds same = cc
append_takes p room a session pending its appending.Reserves reply at goes holds same =
    quiet session pending _ (reserved_ghosts a (new_record session pending its) (reserve_next_ask room a.reserving reply)) _ (reserved_quiet a _ (reserve_next_ask room a.reserving reply))
    (reserve_none p (record a { reserving = reserve_next a.reserving reply }) its (reserve_next_ask room a.reserving reply) at)
append_takes p room a session pending its (appending.Fills addr) reply at goes holds same =
    quiet session pending _ [] _ tt (fill_none p (record a { filling = fill_next a.filling }) its addr (fill_ask p (fill_next a.filling)) at)
append_takes p room a session pending its (appending.Publishes addr) reply at goes holds same =
    passes_on p pending.request.version (Some (reservation a (new_record session pending its) addr.0)) (publish_ask a.publishing) append.Contended reply _ _
    (publish_so p a session pending its addr a.publishing a.slot.place a.slot.entry a.slot.tag reply holds.1 holds.0 same)
append_takes p room a session pending its appending.Invalidates reply at goes holds same =
    quiet session pending _ (invalidate_ghosts a.invalidating) _ (invalidate_all AreQuiet tt (λ addr. (tt, tt)) a.invalidating) (invalidate_none p (record a { invalidating = invalidate_next a.invalidating }) its (invalidate_ask p (invalidate_next a.invalidating)) at)

-- ---- where a try goes on or ends, what it has told as its effect stays
either_keeps : (c : Bool) (a b : TryState) (made : Option Reply) → a.effect ≡ made → b.effect ≡ made → (if c then a else b).effect ≡ made
either_keeps true a b made one other = one
either_keeps false a b made one other = other

without_keeps : (p : Places) (t : TryState) (its : TryAnswer) → (ended_without p t its).effect ≡ t.effect
without_keeps p t its = either_keeps (t.has_shared && not (is_wait its)) (with_latch p (record t { has_shared = false }) DropShared (DropsShared its)) (record t { step = Ended its }) t.effect refl refl

ends_so_keeps : (p : Places) (t : TryState) (its : TryAnswer) → (ends_so p t its).effect ≡ t.effect
unfolding ends_so
ends_so_keeps p t its = either_keeps t.has_exclusive (with_latch p (record t { has_exclusive = false }) DropExclusive (DropsExclusive its)) (ended_without p t its) t.effect refl (without_keeps p t its)

ends_by_keeps : (p : Places) (t : TryState) (its : TryAnswer) (waiting : Option Waiting) → (ends_by p t its waiting).effect ≡ t.effect
ends_by_keeps p t its None = ends_so_keeps p t its
ends_by_keeps p t its (Some waiting) = either_keeps (is_bounded t) (record t { step = LoadsTail waiting }) (ends_so p t its) t.effect (refl) (ends_so_keeps p t its)

ends_keeps : (p : Places) (t : TryState) (its : TryAnswer) → (ends p t its).effect ≡ t.effect
unfolding ends
ends_keeps p t its = ends_by_keeps p t its (waiting_of its)

tail_keeps : (p : Places) (t : TryState) (waiting : Waiting) (tail : ℕ) → (tail_loaded p t waiting tail).effect ≡ t.effect
unfolding tail_loaded
tail_keeps p t waiting tail =
    either_keeps (is_past_tail (bounds_at t.occasion) tail) (ends_so p t answer.LogFull) (if t.walk.entry == 0 then record t { step = LoadsTaken waiting } else ends_so p t (told_of waiting)) t.effect (ends_so_keeps p t answer.LogFull) (either_keeps (t.walk.entry == 0) (record t { step = LoadsTaken waiting }) (ends_so p t (told_of waiting)) t.effect (refl) (ends_so_keeps p t (told_of waiting)))

taken_keeps : (p : Places) (t : TryState) (waiting : Waiting) (taken : ℕ) → (taken_loaded p t waiting taken).effect ≡ t.effect
unfolding taken_loaded
taken_keeps p t waiting taken = either_keeps (is_past_taken (bounds_at t.occasion) taken) (ends_so p t answer.IndexFull) (ends_so p t (told_of waiting)) t.effect (ends_so_keeps p t answer.IndexFull) (ends_so_keeps p t (told_of waiting))

appends_keeps : (t : TryState) (old : ℕ) → (appends t old).effect ≡ t.effect
unfolding appends
appends_keeps t old = refl

copies_from_keeps : (t : TryState) (old : OldValue) → (copies_from t old).effect ≡ t.effect
unfolding copies_from
copies_from_keeps t (Known old) = appends_keeps t old
copies_from_keeps t InMemory = either_keeps (is_blind t.request.op) (appends t absent_word) (record t { walk = walk_on t.walk; step = LoadsOld }) t.effect (appends_keeps t absent_word) refl

copies_keeps : (p : Places) (t : TryState) (old : OldValue) (is_current : Bool) → (copies p t old is_current).effect ≡ t.effect
unfolding copies
copies_keeps p t old is_current = either_keeps (wants_exclusive t is_current) (with_latch p t TakeExclusive (TakesExclusive old)) (copies_from t old) t.effect refl (copies_from_keeps t old)

held_keeps : (p : Places) (t : TryState) (addr : Addr) (held : Option HeldRecord) → (held_used p t addr held).effect ≡ t.effect
unfolding held_used
held_keeps p t addr None = ends_keeps p t (answer.AwaitsDisk (record { entry = t.walk.entry; addr = addr }))
held_keeps p t addr (Some held) =
    either_keeps (held.entry == t.walk.entry)
    (if held.key.0 == (key_of t.request.op).0 then copies p t (Known held.value) false
    else if is_chain_end t.request.floor held.previous then copies p t (Known absent_word) false else awaits p t held.previous)
    (awaits p t addr) t.effect
    (either_keeps (held.key.0 == (key_of t.request.op).0) (copies p t (Known held.value) false)
    (if is_chain_end t.request.floor held.previous then copies p t (Known absent_word) false else awaits p t held.previous) t.effect
    (copies_keeps p t (Known held.value) false)
    (either_keeps (is_chain_end t.request.floor held.previous) (copies p t (Known absent_word) false) (awaits p t held.previous) t.effect
    (copies_keeps p t (Known absent_word) false) (ends_keeps p t (answer.AwaitsDisk (record { entry = t.walk.entry; addr = held.previous })))))
    (ends_keeps p t (answer.AwaitsDisk (record { entry = t.walk.entry; addr = addr })))

nowhere_keeps : (p : Places) (t : TryState) → (met_nowhere p t).effect ≡ t.effect
nowhere_keeps p t =
    either_keeps (is_read t.request.op) (ends p t answer.Absent) (if must_count p t then record t { step = CountsTaken } else copies p t (Known absent_word) false) t.effect (ends_keeps p t answer.Absent)
    (either_keeps (must_count p t) (record t { step = CountsTaken }) (copies p t (Known absent_word) false) t.effect refl (copies_keeps p t (Known absent_word) false))

count_keeps : (p : Places) (t : TryState) (taken : ℕ) → (count_loaded p t taken).effect ≡ t.effect
unfolding count_loaded
count_keeps p t taken = either_keeps (is_past_taken (bounds_at t.occasion) taken) (ends p t answer.IndexFull) (copies p t (Known absent_word) false) t.effect (ends_keeps p t answer.IndexFull) (copies_keeps p t (Known absent_word) false)

disk_keeps : (p : Places) (t : TryState) (addr : Addr) → (met_disk p t addr).effect ≡ t.effect
disk_keeps p t addr =
    let dead : Bool = is_chain_end t.request.floor addr in
    either_keeps (is_read t.request.op) (if dead then ends p t answer.Absent else awaits p t addr)
    (if is_blind t.request.op || dead then copies p t (Known absent_word) false else held_used p t addr t.request.held) t.effect
    (either_keeps dead (ends p t answer.Absent) (awaits p t addr) t.effect (ends_keeps p t answer.Absent)
    (ends_keeps p t (answer.AwaitsDisk (record { entry = t.walk.entry; addr = addr }))))
    (either_keeps (is_blind t.request.op || dead) (copies p t (Known absent_word) false) (held_used p t addr t.request.held) t.effect
    (copies_keeps p t (Known absent_word) false) (held_keeps p t addr t.request.held))

changes_keeps : (t : TryState) (addr : Addr) → (changes t addr).effect ≡ t.effect
changes_keeps t addr = either_keeps (is_blind t.request.op) (record t { step = SwapsValue addr }) (record t { walk = walk_on t.walk; step = LoadsCurrent addr }) t.effect refl refl

region_keeps : (p : Places) (t : TryState) (addr : Addr) (version : Version) (region : Option Region) → (region_met p t addr version region).effect ≡ t.effect
region_keeps p t addr version None = refl
region_keeps p t addr version (Some its) = either_keeps (is_own_version t version) (changes t addr) (copies p t InMemory false) t.effect (changes_keeps t addr) (copies_keeps p t InMemory false)

record_keeps : (p : Places) (t : TryState) (addr : Addr) (version : Version) → (met_record p t addr version).effect ≡ t.effect
record_keeps p t addr version =
    either_keeps (is_read t.request.op) (record t { walk = walk_on t.walk; step = LoadsAnswer }) (region_met p t addr version (seen_region_of addr.0 t.seen.offsets)) t.effect refl (region_keeps p t addr version (seen_region_of addr.0 t.seen.offsets))

walked_keeps : (p : Places) (t : TryState) (its : WalkAnswer) → (walked p t its).effect ≡ t.effect
walked_keeps p t (walk.Found addr version) = record_keeps p t addr version
walked_keeps p t walk.Nowhere = nowhere_keeps p t
walked_keeps p t (walk.OnDisk addr) = disk_keeps p t addr
walked_keeps p t (walk.Value value) = ends_keeps p t (answer.Wait reason.Contended)
walked_keeps p t walk.Full = ends_keeps p t (full_at t.occasion answer.IndexFull)
walked_keeps p t walk.Kept = ends_keeps p t (full_at t.occasion answer.IndexFull)
walked_keeps p t walk.Contended = ends_keeps p t (answer.Wait reason.Contended)

shared_keeps : (p : Places) (t : TryState) (ask : Ask LatchAnswer) → (shared_ledto p t ask).effect ≡ t.effect
unfolding shared_ledto
shared_keeps p t (Done latch.Taken) = either_keeps (is_next_marked t.request.version) (record t { has_shared = true; step = LoadsPhase }) (walks p (record t { has_shared = true })) t.effect refl refl
shared_keeps p t (Done its) = ends_keeps p t answer.Shift
shared_keeps p t ask = refl

phase_keeps : (p : Places) (t : TryState) (said : PhaseSaid) → (phase_loaded p t said).effect ≡ t.effect
unfolding phase_loaded
phase_keeps p t said = either_keeps (is_still_in said t.request.version) (walks p t) (ends p t answer.Shift) t.effect refl (ends_keeps p t answer.Shift)

walk_keeps : (p : Places) (t : TryState) (ask : Ask WalkAnswer) → (walk_ledto p t ask).effect ≡ t.effect
unfolding walk_ledto
walk_keeps p t (Done its) =
    either_keeps (has_walked its && must_shift (record t { spare = t.walk.spare })) (ends p (record t { spare = t.walk.spare }) answer.Shift) (walked p (record t { spare = t.walk.spare }) its) t.effect
    (ends_keeps p (record t { spare = t.walk.spare }) answer.Shift) (walked_keeps p (record t { spare = t.walk.spare }) its)
walk_keeps p t ask = refl

safe_keeps : (p : Places) (t : TryState) (addr : Addr) (version : Version) (safe : ℕ) → (safe_loaded p t addr version safe).effect ≡ t.effect
safe_keeps p t addr version safe =
    either_keeps (nat_le safe addr.0) (ends p t (answer.Wait reason.Fuzzy)) (copies p t InMemory (is_surely_own t version)) t.effect (ends_keeps p t (answer.Wait reason.Fuzzy)) (copies_keeps p t InMemory (is_surely_own t version))

current_keeps : (p : Places) (t : TryState) (addr : Addr) (ask : Ask WalkAnswer) → (current_ledto p t addr ask).effect ≡ t.effect
unfolding current_ledto
current_keeps p t addr (Done (walk.Value old)) = refl
current_keeps p t addr (Done its) = ends_keeps p t (answer.Wait reason.Contended)
current_keeps p t addr ask = refl

answer_keeps : (p : Places) (t : TryState) (ask : Ask WalkAnswer) → (answer_ledto p t ask).effect ≡ t.effect
unfolding answer_ledto
answer_keeps p t (Done (walk.Value value)) = ends_keeps p t (told_value (value_of value))
answer_keeps p t (Done its) = ends_keeps p t (answer.Wait reason.Contended)
answer_keeps p t ask = refl

exclusive_keeps : (p : Places) (t : TryState) (old : OldValue) (ask : Ask LatchAnswer) → (exclusive_ledto p t old ask).effect ≡ t.effect
unfolding exclusive_ledto
exclusive_keeps p t old (Done latch.Taken) = copies_from_keeps (record t { has_exclusive = true }) old
exclusive_keeps p t old (Done its) = ends_keeps p t (answer.Wait reason.Latch)
exclusive_keeps p t old ask = refl

old_keeps : (p : Places) (t : TryState) (ask : Ask WalkAnswer) → (old_ledto p t ask).effect ≡ t.effect
unfolding old_ledto
old_keeps p t (Done (walk.Value value)) = appends_keeps t value
old_keeps p t (Done its) = ends_keeps p t (answer.Wait reason.Contended)
old_keeps p t ask = refl

exclusive_dropped_keeps : (p : Places) (t : TryState) (its : TryAnswer) (ask : Ask LatchAnswer) → (exclusive_dropped p t its ask).effect ≡ t.effect
unfolding exclusive_dropped
exclusive_dropped_keeps p t its (Done told) = without_keeps p t its
exclusive_dropped_keeps p t its ask = refl

shared_dropped_keeps : (t : TryState) (its : TryAnswer) (ask : Ask LatchAnswer) → (shared_dropped t its ask).effect ≡ t.effect
unfolding shared_dropped
shared_dropped_keeps t its (Done told) = refl
shared_dropped_keeps t its ask = refl

-- but for an append that has published its record
append_effect : (p : Places) (t : TryState) (its : Reply) (ask : Ask AppendAnswer) → t.effect ≡ None → (append_ledto p t its ask).effect ≡ published_reply its ask
unfolding append_ledto
append_effect p t its (Done append.Published) none = ends_keeps p (record t { effect = Some its }) (answer.Done its)
append_effect p t its (Done append.Full) none = ends_keeps p t (full_at t.occasion answer.LogFull) ∙ none
append_effect p t its (Done append.NoRoom) none = ends_keeps p t (answer.Wait reason.NoRoom) ∙ none
append_effect p t its (Done append.Contended) none = ends_keeps p t (answer.Wait reason.Contended) ∙ none
append_effect p t its ask none = none

-- ---- a search has no effect
pub search_quiet : (p : Places) (op : Op) (reader : ℕ) (w : WalkState) (reply : ℕ) → AreQuiet (search_ghosts p op reader w reply)
search_quiet p op reader w reply = search_all AreQuiet tt reader (tt, tt) p op w reply

-- ---- each reply to a try
under_way : (t : TryState) (its : Reply) → t.step ≡ Appends its → TryRestsOrAsks t → IsAppendUnderWay t.append
under_way t its at rests = subst (λ (x : Trying). TryRestsOrAsks (record t { step = x })) at rests

swap_takes : (its_step : Stepped) (session : ℕ) (pending : PendingRequest) (addr : ℕ) (its : Reply) (made : Option Reply) → ChangesAt its_step addr (entry_made session pending its) → made ≡ Some its
    → TakesEffect its_step (Changes addr (entry_made session pending its) ∷ []) (made_entry session pending made)
swap_takes its_step session pending addr its made at e = rw e (InPlace addr (entry_made session pending its) at)

-- what doesn't count the old value
blind_value : (op : Op) (old : Option ℕ) → is_blind op ≡ true → value_applied None op ≡ value_applied old op
blind_value (Upsert key value) old blind = refl
blind_value (Delete key) old blind = refl
blind_value op old blind = cc

blind_reply : (op : Op) (old : Option ℕ) → is_blind op ≡ true → reply_from None op ≡ reply_from old op
blind_reply (Upsert key value) old blind = refl
blind_reply (Delete key) old blind = refl
blind_reply op old blind = cc

change_takes : (p : Places) (session : ℕ) (pending : PendingRequest) (t : TryState) (addr : ℕ) (old found : ℕ) (c : Bool) → (found == old) ≡ c → t.effect ≡ None → t.request ≡ pending.request
    → TakesEffect (record { places = p; place = Some (record_place p addr rec.Value); found = found; word = if c then word_of (value_applied (value_of old) t.request.op) else found; version = pending.request.version; reserved = None })
    (if c then Changes addr (entry_made session pending (reply_from (value_of old) t.request.op)) ∷ [] else [])
    (made_entry session pending (if c then takes_effect p t (reply_from (value_of old) t.request.op) else ends p t (answer.Wait reason.Contended)).effect)
change_takes p session pending t addr old found true e none same =
    let its : Reply = reply_from (value_of old) t.request.op in
    let was : old ≡ found = grind (arith, nat_tests, e) in
    swap_takes _ session pending addr its _ (record {
      there = refl;
      value = ap (λ (n : ℕ). word_of (value_applied (value_of n) t.request.op)) was ∙ ap (λ (r : Request). word_of (value_applied (value_of found) r.op)) same;
      replied = ap (λ (n : ℕ). reply_from (value_of n) t.request.op) was ∙ ap (λ (r : Request). reply_from (value_of found) r.op) same;
    }) (ends_keeps p (record t { effect = Some its }) (answer.Done its))
change_takes p session pending t addr old found false e none same = quiet session pending _ [] _ tt (ends_keeps p t (answer.Wait reason.Contended) ∙ none)

trying_takes : (p : Places) (room session reader : ℕ) (pending : PendingRequest) (t : TryState) (step : Trying) (reply : ℕ) → t.step ≡ step → TryRestsOrAsks t → t.request ≡ pending.request → KnowsAt pending.request t step
    → TakesEffect (stepped p pending.request.version (try_reserves session pending t step) (trying_ask p t step) reply) (try_ghosts p room session reader pending t step reply)
    (made_entry session pending (trying_next p room (record t { effect = None }) step reply).effect)
unfolding trying_next trying_ask
trying_takes p room session reader pending t (Ended its) reply at rests same so = Quietly [] tt
trying_takes p room session reader pending t TakesShared reply at rests same so = quiet session pending _ [] _ tt (shared_keeps p (latch_moved (record t { effect = None }) reply) (latch_next_ask t.latching reply))
trying_takes p room session reader pending t LoadsPhase reply at rests same so = quiet session pending _ [] _ tt (phase_keeps p (record t { effect = None }) (phase_said reply))
trying_takes p room session reader pending t Walks reply at rests same so =
    quiet session pending _ (search_ghosts p pending.request.op reader t.walk reply) _ (search_quiet p pending.request.op reader t.walk reply) (walk_keeps p (walk_moved p (record t { effect = None }) reply) (walk_ask p (walk_next p t.walk reply)))
trying_takes p room session reader pending t CountsTaken reply at rests same so = quiet session pending _ [] _ tt (count_keeps p (record t { effect = None }) reply)
trying_takes p room session reader pending t (LoadsSafe addr version) reply at rests same so = quiet session pending _ [] _ tt (safe_keeps p (record t { effect = None }) addr version reply)
trying_takes p room session reader pending t (SwapsValue addr) reply at rests same so =
    let its : Reply = reply_from None t.request.op in
    swap_takes _ session pending addr.0 its _ (record {
      there = refl;
      value = ap word_of (blind_value t.request.op (value_of reply) so) ∙ ap (λ (r : Request). word_of (value_applied (value_of reply) r.op)) same;
      replied = blind_reply t.request.op (value_of reply) so ∙ ap (λ (r : Request). reply_from (value_of reply) r.op) same;
    }) (ends_keeps p (record t { effect = Some its }) (answer.Done its))
trying_takes p room session reader pending t (LoadsCurrent addr) reply at rests same so = quiet session pending _ [] _ tt (current_keeps p (walk_moved p (record t { effect = None }) reply) addr (walk_ask p (walk_next p t.walk reply)))
trying_takes p room session reader pending t (ChangesValue addr old) reply at rests same so = change_takes p session pending (record t { effect = None }) addr.0 old reply (reply == old) refl refl same
trying_takes p room session reader pending t LoadsAnswer reply at rests same so = quiet session pending _ [] _ tt (answer_keeps p (walk_moved p (record t { effect = None }) reply) (walk_ask p (walk_next p t.walk reply)))
trying_takes p room session reader pending t (TakesExclusive old) reply at rests same so = quiet session pending _ [] _ tt (exclusive_keeps p (latch_moved (record t { effect = None }) reply) old (latch_next_ask t.latching reply))
trying_takes p room session reader pending t LoadsOld reply at rests same so = quiet session pending _ [] _ tt (old_keeps p (walk_moved p (record t { effect = None }) reply) (walk_ask p (walk_next p t.walk reply)))
trying_takes p room session reader pending t (Appends its) reply at rests same so =
    let a : AppendState = append_next p room t.append reply in
    let way : IsAppendUnderWay t.append = under_way t its at rests in
    let made : (append_ledto p (record t { effect = None; append = a }) its (append_ask p a)).effect ≡ published_reply its (append_ask p a) = append_effect p (record t { effect = None; append = a }) its (append_ask p a) refl in
    subst (λ (x : Option Reply). TakesEffect (stepped p pending.request.version (append_reserves t.append (new_record session pending its) t.append.step) (passed (append_ask p t.append) answer.Shift) reply)
    (append_ghosts room t.append (new_record session pending its) t.append.step reply) (made_entry session pending x)) (sym made)
    (passes_on p pending.request.version _ (append_ask p t.append) answer.Shift reply _ _ (append_takes p room t.append session pending its t.append.step reply refl way.goes_on so.holds so.same))
trying_takes p room session reader pending t (LoadsTail waiting) reply at rests same so = quiet session pending _ [] _ tt (tail_keeps p (record t { effect = None }) waiting reply)
trying_takes p room session reader pending t (LoadsTaken waiting) reply at rests same so = quiet session pending _ [] _ tt (taken_keeps p (record t { effect = None }) waiting reply)
trying_takes p room session reader pending t (DropsExclusive its) reply at rests same so = quiet session pending _ [] _ tt (exclusive_dropped_keeps p (latch_moved (record t { effect = None }) reply) its (latch_next_ask t.latching reply))
trying_takes p room session reader pending t (DropsShared its) reply at rests same so = quiet session pending _ [] _ tt (shared_dropped_keeps (latch_moved (record t { effect = None }) reply) its (latch_next_ask t.latching reply))

pub try_takes : (p : Places) (room session reader : ℕ) (pending : PendingRequest) (t : TryState) (reply : ℕ) → TryRestsOrAsks t → IsTryAt pending.request t
    → TakesEffect (stepped p pending.request.version (try_reserves session pending t t.step) (try_ask p t) reply) (try_ghosts p room session reader pending t t.step reply) (made_entry session pending (try_next p room t reply).effect)
try_takes p room session reader pending t reply rests its = trying_takes p room session reader pending t t.step reply refl rests its.same its.knows
