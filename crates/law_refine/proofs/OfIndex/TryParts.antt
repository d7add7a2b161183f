-- What a try is about in the index, and how a reply moves it.
use Rattle.std.proofs.Common.{◌≡◌, ℕ, ◌∙◌, refl, sym, ap, subst, Bool, true, false}
use Rattle.std.specs.Prelude.{if◌then◌else◌, ◌==◌, ◌&&◌, not, nat_le, ⊤, Option, Some, None, ◌||◌}
use Rattle.fkv_base.specs.declared.numbers.Addr.{Addr}
use Rattle.fkv_base.specs.declared.numbers.Version.{Version}
use Rattle.fkv_map.specs.declared.operations.Op.{Op}
use Rattle.fkv_map.specs.declared.operations.Reply.{Reply}
use Rattle.fkv_map.specs.Map.{absent_word}
use Rattle.fkv_map.specs.Keys.{key_of, reply_from}
use Rattle.fkv_words.specs.declared.phase_words.PhaseSaid.{PhaseSaid}
use Rattle.fkv_words.specs.PhaseWords.{phase_said}
use Rattle.fkv_plane.specs.declared.asks.Ask.{Ask}
use Rattle.fkv_plane.specs.declared.asks.Ask.TheVariants.{Done}
use Rattle.fkv_plane.specs.declared.places.Places.{Places}
use Rattle.fkv_plane.specs.Passing.{is_done}
use Rattle.law_world.specs.Below.fkv_log.Region.{Region}
use Rattle.law_world.specs.Below.fkv_log.Regions.{seen_region_of}
use Rattle.fkv_index.specs.declared.finding.Linking.TheVariants.{Never}
use Rattle.fkv_index.specs.Finding.{linking_for}
use Rattle.fkv_index.specs.OneEntry.{IsHome}
use Rattle.fkv_index.specs.Slots.{home_of}
use Rattle.fkv_latch.specs.declared.latching.LatchAnswer.{LatchAnswer}
use Rattle.fkv_latch.specs.declared.latching.LatchAnswer.TheVariants.{Taken, Busy, Dropped}
use Rattle.fkv_latch.specs.declared.latching.LatchTask.TheVariants.{TakeShared, DropShared, TakeExclusive, DropExclusive}
use Rattle.fkv_latch.specs.Latching.{latch_next_ask}
use Rattle.law_world.specs.Below.fkv_ops.Reason.TheVariants as reason
use Rattle.law_world.specs.Below.fkv_ops.TryAnswer.{TryAnswer}
use Rattle.law_world.specs.Below.fkv_ops.TryAnswer.TheVariants as answer
use Rattle.law_world.specs.Below.fkv_ops.TheAppending.{Appending}
use Rattle.law_world.specs.Below.fkv_ops.TheAppending.TheVariants as appending
use Rattle.law_world.specs.Below.fkv_ops.AppendAnswer.{AppendAnswer}
use Rattle.law_world.specs.Below.fkv_ops.AppendAnswer.TheVariants as append
use Rattle.law_world.specs.Below.fkv_ops.HeldRecord.{HeldRecord}
use Rattle.law_world.specs.Below.fkv_ops.Occasion.{Occasion}
use Rattle.law_world.specs.Below.fkv_ops.Request.{Request}
use Rattle.law_world.specs.Below.fkv_ops.Seen.{Seen}
use Rattle.law_world.specs.Below.fkv_ops.OldValue.{OldValue}
use Rattle.law_world.specs.Below.fkv_ops.OldValue.TheVariants.{InMemory, Known}
use Rattle.law_world.specs.Below.fkv_ops.TheTrying.{Trying}
use Rattle.law_world.specs.Below.fkv_ops.TheTrying.TheVariants.{Ended, TakesShared, LoadsPhase, Walks, CountsTaken, LoadsSafe, SwapsValue, LoadsCurrent, ChangesValue, LoadsAnswer, TakesExclusive, LoadsOld, Appends, LoadsTail, LoadsTaken, DropsExclusive, DropsShared}
use Rattle.law_world.specs.Below.fkv_ops.WalkAnswer.{WalkAnswer}
use Rattle.law_world.specs.Below.fkv_ops.WalkAnswer.TheVariants as walk
use Rattle.law_world.specs.Below.fkv_ops.Values.{value_of}
use Rattle.law_world.specs.Below.fkv_ops.Requests.{is_read, is_blind, purpose_at, update_within, is_chain_end}
use Rattle.law_world.specs.Below.fkv_ops.Walking.{walk_ask, walk_next, walk_on}
use Rattle.law_world.specs.Below.fkv_ops.Appending.{append_ask, append_next}
use Rattle.law_world.specs.Below.fkv_ops.Trying.{TryState, with_latch, is_wait, ended_without, ends_so, ends_by, is_bounded, tail_loaded, taken_loaded, must_count, count_loaded, ends, takes_effect, walks, wants_shared, try_begun, shared_ledto, must_shift, wants_exclusive, appends, copies_from, copies, awaits, held_used, met_nowhere, met_disk, changes, is_own_version, region_met, met_record, walked, has_walked, walk_ledto, safe_loaded, current_ledto, value_changed, told_value, answer_ledto, exclusive_ledto, old_ledto, append_ledto, exclusive_dropped, shared_dropped, latch_moved, walk_moved, trying_next, try_next, new_try, is_next_marked, latch_shared, is_still_in, phase_loaded, is_surely_own}
use Rattle.law_world.proofs.Below.fkv_ops.Shown.{is_try_end, is_walk_end, WalkRestsOrAsks, walk_done, walk_rests, TryRestsOrAsks, AppendRestsOrAsks, append_done, append_rests}
use Rattle.law_refine.specs.Index.Finders.{SessionWork, NoWork, KeepsSlot, IndexPart, slot_kept, kept_work, append_work, try_work, try_spare, try_part}
use Rattle.law_refine.proofs.OfIndex.Goes.{spare_by, WorkGoes, Drops, Seeks, Goes, part, stays, drops, IsLeft, Gone, Kept, left}
use Rattle.law_refine.proofs.OfIndex.WalkParts.{IsUpdate, is_finding, walk_behind, walk_on_behind, same_kept, kept_quiet, WalkKnows, walk_part, WalkGoes, walk_goes, end_past, walk_end_kept, walk_end_quiet}
use Rattle.law_refine.proofs.OfIndex.AppendParts.{IsAppendOf, AppendKnows, AppendGoes, append_goes, append_end_none}
use Rattle.law_world.specs.Below.fkv_ops.Bounds.{bounds_at, is_past_taken, is_past_tail}
use Rattle.law_world.specs.Below.fkv_ops.Waiting.{told_of, waiting_of}
use Rattle.law_world.specs.Below.fkv_ops.TheWaiting.{Waiting}
use Rattle.law_world.specs.Below.fkv_ops.TheBounds.{Bounds}

-- an update behind its search goes by the slot that was found
pub record GoesBySlot (t : TryState) : Type 0 where
  pub update : IsUpdate t
  pub past : is_finding t.walk.step ≡ false

pub record AppendsThere (t : TryState) : Type 0 where
  pub update : IsUpdate t
  pub its : IsAppendOf t t.append
  pub knows : AppendKnows t t.append t.append.step

abbrev pub TryKnowsAt : TryState → Trying → Type 0
TryKnowsAt t Walks = WalkKnows t t.walk t.walk.step
TryKnowsAt t CountsTaken = GoesBySlot t
TryKnowsAt t (LoadsSafe addr version) = GoesBySlot t
TryKnowsAt t (TakesExclusive old) = GoesBySlot t
TryKnowsAt t LoadsOld = GoesBySlot t
TryKnowsAt t (LoadsCurrent addr) = is_finding t.walk.step ≡ false
TryKnowsAt t LoadsAnswer = is_finding t.walk.step ≡ false
TryKnowsAt t (Appends its) = AppendsThere t
TryKnowsAt t step = ⊤

pub record TryKnows (p : Places) (t : TryState) : Type 0 where
  pub home : IsHome p t.home
  pub at : TryKnowsAt t t.step

pub record TryGoes (p : Places) (reply : ℕ) (before : IndexPart) (t : TryState) : Type 0 where
  pub knows : TryKnows p t
  pub goes : Goes p reply before (try_part t t.step)

-- nothing is left of its work, or the slot is kept; and it has as much to spare
record Freed (p : Places) (t after : TryState) : Type 0 where
  knows : TryKnows p after
  work : try_work after after.step ≡ NoWork
  spare : try_spare after after.step ≡ t.spare

record Left (p : Places) (t after : TryState) : Type 0 where
  knows : TryKnows p after
  work : IsLeft (kept_work t) (try_work after after.step)
  spare : try_spare after after.step ≡ t.spare

leaves : {p : Places} {t after : TryState} → Freed p t after → Left p t after
leaves freed = record { knows = freed.knows; work = Gone freed.work; spare = freed.spare }

either_freed : (c : Bool) {p : Places} {t : TryState} (a b : TryState) → Freed p t a → Freed p t b → Freed p t (if c then a else b)
either_freed true a b one other = one
either_freed false a b one other = other

either_left : (c : Bool) {p : Places} {t : TryState} (a b : TryState) → Left p t a → Left p t b → Left p t (if c then a else b)
either_left true a b one other = one
either_left false a b one other = other

without_freed : (p : Places) (t : TryState) (its : TryAnswer) → IsHome p t.home → Freed p t (ended_without p t its)
without_freed p t its home =
    either_freed (t.has_shared && not (is_wait its)) (with_latch p (record t { has_shared = false }) DropShared (DropsShared its)) (record t { step = Ended its }) (record { knows = record { home = home; at = tt }; work = refl; spare = refl }) (record { knows = record { home = home; at = tt }; work = refl; spare = refl })

ends_so_freed : (p : Places) (t : TryState) (its : TryAnswer) → IsHome p t.home → Freed p t (ends_so p t its)
unfolding ends_so
ends_so_freed p t its home =
    either_freed t.has_exclusive (with_latch p (record t { has_exclusive = false }) DropExclusive (DropsExclusive its)) (ended_without p t its) (record { knows = record { home = home; at = tt }; work = refl; spare = refl }) (without_freed p t its home)

ends_by_freed : (p : Places) (t : TryState) (its : TryAnswer) (waiting : Option Waiting) → IsHome p t.home → Freed p t (ends_by p t its waiting)
ends_by_freed p t its None home = ends_so_freed p t its home
ends_by_freed p t its (Some waiting) home = either_freed (is_bounded t) (record t { step = LoadsTail waiting }) (ends_so p t its) (record { knows = record { home = home; at = tt }; work = refl; spare = refl }) (ends_so_freed p t its home)

ends_freed : (p : Places) (t : TryState) (its : TryAnswer) → IsHome p t.home → Freed p t (ends p t its)
unfolding ends
ends_freed p t its home = ends_by_freed p t its (waiting_of its) home

tail_freed : (p : Places) (t : TryState) (waiting : Waiting) (tail : ℕ) → IsHome p t.home → Freed p t (tail_loaded p t waiting tail)
unfolding tail_loaded
tail_freed p t waiting tail home =
    either_freed (is_past_tail (bounds_at t.occasion) tail) (ends_so p t answer.LogFull) (_) (ends_so_freed p t answer.LogFull home) (either_freed (t.walk.entry == 0) (record t { step = LoadsTaken waiting }) (ends_so p t (told_of waiting)) (record { knows = record { home = home; at = tt }; work = refl; spare = refl }) (ends_so_freed p t (told_of waiting) home))

taken_freed : (p : Places) (t : TryState) (waiting : Waiting) (taken : ℕ) → IsHome p t.home → Freed p t (taken_loaded p t waiting taken)
unfolding taken_loaded
taken_freed p t waiting taken home = either_freed (is_past_taken (bounds_at t.occasion) taken) (ends_so p t answer.IndexFull) (ends_so p t (told_of waiting)) (ends_so_freed p t answer.IndexFull home) (ends_so_freed p t (told_of waiting) home)

ends_left : (p : Places) (t : TryState) (its : TryAnswer) → IsHome p t.home → Left p t (ends p t its)
ends_left p t its home = leaves (ends_freed p t its home)

appends_left : (p : Places) (t : TryState) (old : ℕ) → IsHome p t.home → IsUpdate t → Left p t (appends t old)
unfolding appends
appends_left p t old home update = record { knows = record { home = home; at = record { update = update; its = record { slot = refl; previous = refl }; knows = tt } }; work = Kept refl; spare = refl }

copies_from_left : (p : Places) (t : TryState) (old : OldValue) → IsHome p t.home → GoesBySlot t → Left p t (copies_from t old)
unfolding copies_from
copies_from_left p t (Known old) home by = appends_left p t old home by.update
copies_from_left p t InMemory home by =
    let on = walk_on_behind t.walk by.past in
    either_left (is_blind t.request.op) (appends t absent_word) (record t { walk = walk_on t.walk; step = LoadsOld }) (appends_left p t absent_word home by.update)
    (record { knows = record { home = home; at = record { update = by.update; past = on.past } }; work = Kept (same_kept t t.walk (walk_on t.walk) on); spare = refl })

copies_left : (p : Places) (t : TryState) (old : OldValue) (is_current : Bool) → IsHome p t.home → GoesBySlot t → Left p t (copies p t old is_current)
unfolding copies
copies_left p t old is_current home by =
    either_left (wants_exclusive t is_current) (with_latch p t TakeExclusive (TakesExclusive old)) (copies_from t old) (record { knows = record { home = home; at = record { update = by.update; past = by.past } }; work = Kept refl; spare = refl }) (copies_from_left p t old home by)

held_left : (p : Places) (t : TryState) (addr : Addr) (held : Option HeldRecord) → IsHome p t.home → GoesBySlot t → Left p t (held_used p t addr held)
unfolding held_used
held_left p t addr None home by = ends_left p t _ home
held_left p t addr (Some held) home by =
    either_left (held.entry == t.walk.entry) _ (awaits p t addr)
    (either_left (held.key.0 == (key_of t.request.op).0) (copies p t (Known held.value) false) _ (copies_left p t (Known held.value) false home by)
    (either_left (is_chain_end t.request.floor held.previous) (copies p t (Known absent_word) false) (awaits p t held.previous)
    (copies_left p t (Known absent_word) false home by) (ends_left p t _ home)))
    (ends_left p t _ home)

-- where the request is no read
by_read : (c : Bool) {p : Places} {t : TryState} (a b : TryState) → (c ≡ true → Left p t a) → (c ≡ false → Left p t b) → Left p t (if c then a else b)
by_read true a b read update = read refl
by_read false a b read update = update refl

nowhere_left : (p : Places) (t : TryState) → IsHome p t.home → is_finding t.walk.step ≡ false → Left p t (met_nowhere p t)
nowhere_left p t home past =
    by_read (is_read t.request.op) (ends p t answer.Absent) _ (λ read. ends_left p t answer.Absent home)
    (λ update. either_left (must_count p t) (record t { step = CountsTaken }) (copies p t (Known absent_word) false) (record { knows = record { home = home; at = record { update = update; past = past } }; work = Kept refl; spare = refl })
    (copies_left p t (Known absent_word) false home (record { update = update; past = past })))

count_left : (p : Places) (t : TryState) (taken : ℕ) → IsHome p t.home → GoesBySlot t → Left p t (count_loaded p t taken)
unfolding count_loaded
count_left p t taken home by = either_left (is_past_taken (bounds_at t.occasion) taken) (ends p t answer.IndexFull) (copies p t (Known absent_word) false) (ends_left p t answer.IndexFull home) (copies_left p t (Known absent_word) false home by)

disk_left : (p : Places) (t : TryState) (addr : Addr) → IsHome p t.home → is_finding t.walk.step ≡ false → Left p t (met_disk p t addr)
disk_left p t addr home past =
    by_read (is_read t.request.op) _ _
    (λ read. either_left (is_chain_end t.request.floor addr) (ends p t answer.Absent) (awaits p t addr) (ends_left p t answer.Absent home)
    (ends_left p t _ home))
    (λ update. either_left (is_blind t.request.op || is_chain_end t.request.floor addr) (copies p t (Known absent_word) false)
    (held_used p t addr t.request.held) (copies_left p t (Known absent_word) false home (record { update = update; past = past }))
    (held_left p t addr t.request.held home (record { update = update; past = past })))

changes_left : (p : Places) (t : TryState) (addr : Addr) → IsHome p t.home → is_finding t.walk.step ≡ false → Left p t (changes t addr)
changes_left p t addr home past =
    let on = walk_on_behind t.walk past in
    either_left (is_blind t.request.op) (record t { step = SwapsValue addr }) (record t { walk = walk_on t.walk; step = LoadsCurrent addr }) (record { knows = record { home = home; at = tt }; work = Gone refl; spare = refl }) (record { knows = record { home = home; at = on.past }; work = Gone refl; spare = refl })

region_left : (p : Places) (t : TryState) (addr : Addr) (version : Version) (region : Option Region) → IsHome p t.home → GoesBySlot t → Left p t (region_met p t addr version region)
region_left p t addr version None home by = record { knows = record { home = home; at = record { update = by.update; past = by.past } }; work = Kept refl; spare = refl }
region_left p t addr version (Some its) home by = either_left (is_own_version t version) (changes t addr) (copies p t InMemory false) (changes_left p t addr home by.past) (copies_left p t InMemory false home by)

record_left : (p : Places) (t : TryState) (addr : Addr) (version : Version) → IsHome p t.home → is_finding t.walk.step ≡ false → Left p t (met_record p t addr version)
record_left p t addr version home past =
    let on = walk_on_behind t.walk past in
    by_read (is_read t.request.op) (record t { walk = walk_on t.walk; step = LoadsAnswer }) (region_met p t addr version (seen_region_of addr.0 t.seen.offsets))
    (λ read. record { knows = record { home = home; at = on.past }; work = Gone refl; spare = refl }) (λ update. region_left p t addr version (seen_region_of addr.0 t.seen.offsets) home (record { update = update; past = past }))

walked_left : (p : Places) (t : TryState) (its : WalkAnswer) → IsHome p t.home → is_finding t.walk.step ≡ false → Left p t (walked p t its)
walked_left p t (walk.Found addr version) home past = record_left p t addr version home past
walked_left p t walk.Nowhere home past = nowhere_left p t home past
walked_left p t (walk.OnDisk addr) home past = disk_left p t addr home past
walked_left p t (walk.Value value) home past = ends_left p t _ home
walked_left p t walk.Full home past = ends_left p t _ home
walked_left p t walk.Kept home past = ends_left p t _ home
walked_left p t walk.Contended home past = ends_left p t _ home

lost_freed : (p : Places) (t : TryState) (its : WalkAnswer) → IsHome p t.home → has_walked its ≡ false → Freed p t (walked p t its)
lost_freed p t (walk.Found addr version) home lost = cc
lost_freed p t walk.Nowhere home lost = cc
lost_freed p t (walk.OnDisk addr) home lost = cc
lost_freed p t (walk.Value value) home lost = ends_freed p t _ home
lost_freed p t walk.Full home lost = ends_freed p t _ home
lost_freed p t walk.Kept home lost = ends_freed p t _ home
lost_freed p t walk.Contended home lost = ends_freed p t _ home

safe_left : (p : Places) (t : TryState) (addr : Addr) (version : Version) (safe : ℕ) → IsHome p t.home → GoesBySlot t → Left p t (safe_loaded p t addr version safe)
safe_left p t addr version safe home by = either_left (nat_le safe addr.0) (ends p t (answer.Wait reason.Fuzzy)) (copies p t InMemory (is_surely_own t version)) (ends_left p t _ home) (copies_left p t InMemory (is_surely_own t version) home by)

-- where the try stays at its step
stayed : (p : Places) (t : TryState) (step : Trying) → t.step ≡ step → IsHome p t.home → TryKnowsAt t step → try_work t step ≡ NoWork → try_spare t step ≡ t.spare → Freed p t t
stayed p t step at home knows none same = record {
  knows = record { home = home; at = subst (λ x. TryKnowsAt t x) (sym at) knows };
  work = ap (λ (x : Trying). try_work t x) at ∙ none;
  spare = ap (λ (x : Trying). try_spare t x) at ∙ same;
}

stays_kept : (p : Places) (t : TryState) (step : Trying) → t.step ≡ step → IsHome p t.home → TryKnowsAt t step → try_work t step ≡ kept_work t → try_spare t step ≡ t.spare → Left p t t
stays_kept p t step at home knows kept same = record {
  knows = record { home = home; at = subst (λ x. TryKnowsAt t x) (sym at) knows };
  work = Kept (ap (λ (x : Trying). try_work t x) at ∙ kept);
  spare = ap (λ (x : Trying). try_spare t x) at ∙ same;
}

current_freed : (p : Places) (t : TryState) (addr : Addr) (ask : Ask WalkAnswer) → t.step ≡ LoadsCurrent addr → IsHome p t.home → is_finding t.walk.step ≡ false → Freed p t (current_ledto p t addr ask)
unfolding current_ledto
current_freed p t addr (Done (walk.Value old)) at home past = record { knows = record { home = home; at = tt }; work = refl; spare = refl }
current_freed p t addr (Done its) at home past = ends_freed p t _ home
current_freed p t addr ask at home past = stayed p t (LoadsCurrent addr) at home past refl refl

value_freed : (p : Places) (t : TryState) (old now : ℕ) → IsHome p t.home → Freed p t (value_changed p t old now)
value_freed p t old now home = either_freed (now == old) (takes_effect p t (reply_from (value_of old) t.request.op)) (ends p t (answer.Wait reason.Contended)) (effect_freed (reply_from (value_of old) t.request.op)) (ends_freed p t _ home)
  where
    effect_freed : (its : Reply) → Freed p t (takes_effect p t its)
    effect_freed its = let freed = ends_freed p (record t { effect = Some its }) (answer.Done its) home in record { knows = freed.knows; work = freed.work; spare = freed.spare }

answer_freed : (p : Places) (t : TryState) (ask : Ask WalkAnswer) → t.step ≡ LoadsAnswer → IsHome p t.home → is_finding t.walk.step ≡ false → Freed p t (answer_ledto p t ask)
unfolding answer_ledto
answer_freed p t (Done (walk.Value value)) at home past = ends_freed p t (told_value (value_of value)) home
answer_freed p t (Done its) at home past = ends_freed p t _ home
answer_freed p t ask at home past = stayed p t LoadsAnswer at home past refl refl

old_left : (p : Places) (t : TryState) (ask : Ask WalkAnswer) → t.step ≡ LoadsOld → IsHome p t.home → GoesBySlot t → Left p t (old_ledto p t ask)
unfolding old_ledto
old_left p t (Done (walk.Value value)) at home by = appends_left p t value home by.update
old_left p t (Done its) at home by = ends_left p t _ home
old_left p t ask at home by = stays_kept p t LoadsOld at home by refl refl

alone_left : (p : Places) (t : TryState) (old : OldValue) (ask : Ask LatchAnswer) → t.step ≡ TakesExclusive old → IsHome p t.home → GoesBySlot t → Left p t (exclusive_ledto p t old ask)
unfolding exclusive_ledto
alone_left p t old (Done Taken) at home by =
    let its = copies_from_left p (record t { has_exclusive = true }) old home (record { update = by.update; past = by.past }) in
    record { knows = its.knows; work = its.work; spare = its.spare }
alone_left p t old (Done its) at home by = ends_left p t _ home
alone_left p t old ask at home by = stays_kept p t (TakesExclusive old) at home by refl refl

dropped_freed : (p : Places) (t : TryState) (its : TryAnswer) (ask : Ask LatchAnswer) → t.step ≡ DropsExclusive its → IsHome p t.home → Freed p t (exclusive_dropped p t its ask)
unfolding exclusive_dropped
dropped_freed p t its (Done told) at home = without_freed p t its home
dropped_freed p t its ask at home = stayed p t (DropsExclusive its) at home tt refl refl

unshared_freed : (p : Places) (t : TryState) (its : TryAnswer) (ask : Ask LatchAnswer) → t.step ≡ DropsShared its → IsHome p t.home → Freed p t (shared_dropped t its ask)
unfolding shared_dropped
unshared_freed p t its (Done told) at home = record { knows = record { home = home; at = tt }; work = refl; spare = refl }
unshared_freed p t its ask at home = stayed p t (DropsShared its) at home tt refl refl

-- where an append ends
ended_freed : (p : Places) (t : TryState) (its : Reply) (answered : AppendAnswer) → IsHome p t.home → Freed p t (append_ledto p t its (Done answered))
unfolding append_ledto
ended_freed p t its append.Published home = let freed = ends_freed p (record t { effect = Some its }) (answer.Done its) home in record { knows = freed.knows; work = freed.work; spare = freed.spare }
ended_freed p t its append.Full home = ends_freed p t _ home
ended_freed p t its append.NoRoom home = ends_freed p t _ home
ended_freed p t its append.Contended home = ends_freed p t _ home

-- from what was, to what is left
free_goes : (p : Places) (reply : ℕ) (before : IndexPart) (t after : TryState) → Goes p reply before (part NoWork t.spare) → Freed p t after → TryGoes p reply before after
free_goes p reply before t after goes freed = record { knows = freed.knows; goes = rw (freed.work, freed.spare) goes }

left_goes : (p : Places) (reply : ℕ) (before : IndexPart) (t after : TryState) → Goes p reply before (part (kept_work t) t.spare) → Left p t after → TryGoes p reply before after
left_goes p reply before t after goes its = record { knows = its.knows; goes = left p reply before (kept_work t) (try_work after after.step) t.spare (try_spare after after.step) (kept_quiet t) goes its.work its.spare }

freely : (p : Places) (reply : ℕ) (t after : TryState) → Freed p t after → TryGoes p reply (part NoWork t.spare) after
freely p reply t after freed = free_goes p reply (part NoWork t.spare) t after (record { work = Drops tt refl; spare = refl }) freed

keeping : (p : Places) (reply : ℕ) (t after : TryState) → Left p t after → TryGoes p reply (part (kept_work t) t.spare) after
keeping p reply t after its = left_goes p reply (part (kept_work t) t.spare) t after (stays p reply (kept_work t) t.spare (kept_quiet t)) its

-- an update's search may link
may_within : (bounds : Option Bounds) → linking_for (update_within bounds) ≡ Never → ⊥
may_within None never = cc
may_within (Some bounds) never = cc

may_first : (occasion : Occasion) (its : Op) → is_read its ≡ false → linking_for (purpose_at occasion its) ≡ Never → ⊥
may_first occasion its update never =
    let same : purpose_at occasion its ≡ update_within (bounds_at occasion) = rw update refl in
    may_within (bounds_at occasion) (sym (ap linking_for same) ∙ never)

walks_begin : (p : Places) (reply : ℕ) (t : TryState) → IsHome p t.home → TryGoes p reply (part NoWork t.spare) (walks p t)
walks_begin p reply t home = record { knows = record { home = home; at = (refl, λ update. may_first t.occasion t.request.op update) }; goes = record { work = Seeks t.home (purpose_at t.occasion t.request.op) tt home refl; spare = refl } }

latch_goes : (p : Places) (reply : ℕ) (t : TryState) → IsHome p t.home → TryGoes p reply (part NoWork t.spare) (latch_shared p t)
latch_goes p reply t home = by_mark (is_next_marked t.request.version)
  where
    by_mark : (b : Bool) → TryGoes p reply (part NoWork t.spare) (if b then record t { step = LoadsPhase } else walks p t)
    by_mark true = freely p reply t (record t { step = LoadsPhase }) (record { knows = record { home = home; at = tt }; work = refl; spare = refl })
    by_mark false = walks_begin p reply t home

phase_goes : (p : Places) (reply : ℕ) (t : TryState) (said : PhaseSaid) → IsHome p t.home → TryGoes p reply (part NoWork t.spare) (phase_loaded p t said)
unfolding phase_loaded
phase_goes p reply t said home = by_word (is_still_in said t.request.version)
  where
    by_word : (b : Bool) → TryGoes p reply (part NoWork t.spare) (if b then walks p t else ends p t answer.Shift)
    by_word true = walks_begin p reply t home
    by_word false = freely p reply t (ends p t answer.Shift) (ends_freed p t answer.Shift home)

shared_goes : (p : Places) (reply : ℕ) (t : TryState) (ask : Ask LatchAnswer) → t.step ≡ TakesShared → IsHome p t.home → TryGoes p reply (part NoWork t.spare) (shared_ledto p t ask)
unfolding shared_ledto
shared_goes p reply t (Done Taken) at home = latch_goes p reply (record t { has_shared = true }) home
shared_goes p reply t (Done Busy) at home = freely p reply t (ends p t answer.Shift) (ends_freed p t answer.Shift home)
shared_goes p reply t (Done Dropped) at home = freely p reply t (ends p t answer.Shift) (ends_freed p t answer.Shift home)
shared_goes p reply t ask at home = freely p reply t t (stayed p t TakesShared at home tt refl refl)

-- a walk that has ended
walk_done_goes : (p : Places) (reply : ℕ) (before : IndexPart) (t : TryState) (its : WalkAnswer) → IsHome p t.home → is_walk_end t.walk.step ≡ true → walk_ask p t.walk ≡ Done its → Goes p reply before (walk_part t t.walk t.walk.step) → TryGoes p reply before (walk_ledto p t (Done its))
unfolding walk_ledto
walk_done_goes p reply before t its home over asks goes = by_end (has_walked its) refl
  where
    after : TryState
    after = record t { spare = t.walk.spare }

    past : is_finding t.walk.step ≡ false
    past = end_past t.walk.step over

    by_end : (c : Bool) → has_walked its ≡ c → TryGoes p reply before (if c && must_shift after then ends p after answer.Shift else walked p after its)
    by_end true found =
        left_goes p reply before after _ (subst (λ x. Goes p reply before (part x t.walk.spare)) (walk_end_kept p t t.walk its over asks found) goes)
        (either_left (must_shift after) (ends p after answer.Shift) (walked p after its) (ends_left p after answer.Shift home) (walked_left p after its home past))
    by_end false lost = free_goes p reply before after (walked p after its) (drops p reply before _ t.walk.spare (walk_end_quiet t t.walk t.walk.step over) goes) (lost_freed p after its home lost)

walk_led_goes : (p : Places) (reply : ℕ) (before : IndexPart) (t : TryState) (ask : Ask WalkAnswer) → t.step ≡ Walks → walk_ask p t.walk ≡ ask → WalkRestsOrAsks t.walk → IsHome p t.home → WalkGoes p reply before t t.walk → TryGoes p reply before (walk_ledto p t ask)
unfolding walk_ledto
walk_led_goes p reply before t (Done its) at asks rests home goes = walk_done_goes p reply before t its home (sym (walk_done p t.walk rests) ∙ ap is_done asks) asks goes.goes
walk_led_goes p reply before t ask at asks rests home goes = record {
  knows = record { home = home; at = subst (λ x. TryKnowsAt t x) (sym at) goes.knows };
  goes = subst (λ x. Goes p reply before (try_part t x)) (sym at) goes.goes;
}

-- an append goes on, or it has ended
append_led_goes : (p : Places) (reply : ℕ) (before : SessionWork) (t : TryState) (its : Reply) (ask : Ask AppendAnswer) → t.step ≡ Appends its → append_ask p t.append ≡ ask → AppendRestsOrAsks t.append → IsHome p t.home → IsUpdate t → t.spare ≡ spare_by p reply before t.spare
    → AppendGoes p reply before t.spare t t.append → TryGoes p reply (part before t.spare) (append_ledto p t its ask)
unfolding append_ledto
append_led_goes p reply before t its (Done answered) at asks rests home update still goes =
    let none = append_end_none t t.append.step (sym (append_done p t.append rests) ∙ ap is_done asks) in
    free_goes p reply (part before t.spare) t (append_ledto p t its (Done answered)) (record { work = subst (λ x. WorkGoes p reply before x t.spare) none goes.goes; spare = still }) (ended_freed p t its answered home)
append_led_goes p reply before t its ask at asks rests home update still goes = record {
  knows = record { home = home; at = subst (λ x. TryKnowsAt t x) (sym at) (record { update = update; its = goes.its; knows = goes.knows }) };
  goes = subst (λ x. Goes p reply (part before t.spare) (try_part t x)) (sym at) (record { work = goes.goes; spare = still });
}

kept_still : (p : Places) (reply spare : ℕ) (t : TryState) → spare ≡ spare_by p reply (kept_work t) spare
kept_still p reply spare t = by_request (is_read t.request.op)
  where
    by_request : (c : Bool) → spare ≡ spare_by p reply (if c then NoWork else KeepsSlot (slot_kept t)) spare
    by_request true = refl
    by_request false = refl

append_still : (p : Places) (reply spare : ℕ) (t : TryState) (step : Appending) → spare ≡ spare_by p reply (append_work t step) spare
append_still p reply spare t (appending.Ended its) = refl
append_still p reply spare t appending.Reserves = kept_still p reply spare t
append_still p reply spare t (appending.Fills addr) = kept_still p reply spare t
append_still p reply spare t (appending.Publishes addr) = refl
append_still p reply spare t appending.Invalidates = refl

-- each part of a try that is under way asks
abbrev pub PartsAsk : TryState → Trying → Type 0
PartsAsk t Walks = WalkRestsOrAsks t.walk
PartsAsk t (Appends its) = AppendRestsOrAsks t.append
PartsAsk t step = ⊤

step_goes : (p : Places) (room : ℕ) (t : TryState) (step : Trying) (reply : ℕ) → t.step ≡ step → IsHome p t.home → TryKnowsAt t step → PartsAsk t step → TryGoes p reply (try_part t step) (trying_next p room (record t { effect = None }) step reply)
unfolding trying_next
step_goes p room t (Ended its) reply at home knows asks = freely p reply (record t { effect = None }) _ (stayed p (record t { effect = None }) (Ended its) at home tt refl refl)
step_goes p room t TakesShared reply at home knows asks = shared_goes p reply (latch_moved (record t { effect = None }) reply) (latch_next_ask t.latching reply) at home
step_goes p room t LoadsPhase reply at home knows asks = phase_goes p reply (record t { effect = None }) (phase_said reply) home
step_goes p room t Walks reply at home knows asks =
    let its = walk_goes p reply (record t { effect = None; walk = walk_next p t.walk reply }) t.walk knows in
    walk_led_goes p reply (walk_part t t.walk t.walk.step) (record t { effect = None; walk = walk_next p t.walk reply }) (walk_ask p (walk_next p t.walk reply)) at refl (walk_rests p t.walk reply asks) home (record { knows = its.knows; goes = its.goes })
step_goes p room t CountsTaken reply at home knows asks = keeping p reply (record t { effect = None }) _ (count_left p (record t { effect = None }) reply home (record { update = knows.update; past = knows.past }))
step_goes p room t (LoadsSafe addr version) reply at home knows asks = keeping p reply (record t { effect = None }) _ (safe_left p (record t { effect = None }) addr version reply home (record { update = knows.update; past = knows.past }))
step_goes p room t (SwapsValue addr) reply at home knows asks =
    let freed = ends_freed p (record t { effect = Some (reply_from None t.request.op) }) (answer.Done (reply_from None t.request.op)) home in
    freely p reply t _ (record { knows = freed.knows; work = freed.work; spare = freed.spare })
step_goes p room t (LoadsCurrent addr) reply at home knows asks = freely p reply (walk_moved p (record t { effect = None }) reply) _ (current_freed p (walk_moved p (record t { effect = None }) reply) addr (walk_ask p (walk_next p t.walk reply)) at home (walk_behind p t.walk reply knows).past)
step_goes p room t (ChangesValue addr old) reply at home knows asks = freely p reply (record t { effect = None }) _ (value_freed p (record t { effect = None }) old reply home)
step_goes p room t LoadsAnswer reply at home knows asks = freely p reply (walk_moved p (record t { effect = None }) reply) _ (answer_freed p (walk_moved p (record t { effect = None }) reply) (walk_ask p (walk_next p t.walk reply)) at home (walk_behind p t.walk reply knows).past)
step_goes p room t (TakesExclusive old) reply at home knows asks =
    keeping p reply (latch_moved (record t { effect = None }) reply) _ (alone_left p (latch_moved (record t { effect = None }) reply) old (latch_next_ask t.latching reply) at home (record { update = knows.update; past = knows.past }))
step_goes p room t LoadsOld reply at home knows asks =
    let moved : TryState = walk_moved p (record t { effect = None }) reply in
    let behind = walk_behind p t.walk reply knows.past in
    subst (λ x. TryGoes p reply (part x t.spare) (old_ledto p moved (walk_ask p (walk_next p t.walk reply)))) (same_kept t t.walk (walk_next p t.walk reply) behind)
    (keeping p reply moved _ (old_left p moved (walk_ask p (walk_next p t.walk reply)) at home (record { update = knows.update; past = behind.past })))
step_goes p room t (Appends its) reply at home knows asks =
    let moved : TryState = record t { effect = None; append = append_next p room t.append reply } in
    append_led_goes p reply (append_work t t.append.step) moved its (append_ask p (append_next p room t.append reply)) at refl (append_rests p room t.append reply asks) home knows.update (append_still p reply t.spare t t.append.step)
    (append_goes p room reply t.spare moved t.append knows.update (record { slot = knows.its.slot; previous = knows.its.previous }) knows.knows)
step_goes p room t (LoadsTail waiting) reply at home knows asks = freely p reply (record t { effect = None }) _ (tail_freed p (record t { effect = None }) waiting reply home)
step_goes p room t (LoadsTaken waiting) reply at home knows asks = freely p reply (record t { effect = None }) _ (taken_freed p (record t { effect = None }) waiting reply home)
step_goes p room t (DropsExclusive its) reply at home knows asks = freely p reply (latch_moved (record t { effect = None }) reply) _ (dropped_freed p (latch_moved (record t { effect = None }) reply) its (latch_next_ask t.latching reply) at home)
step_goes p room t (DropsShared its) reply at home knows asks = freely p reply (latch_moved (record t { effect = None }) reply) _ (unshared_freed p (latch_moved (record t { effect = None }) reply) its (latch_next_ask t.latching reply) at home)

parts_ask : (t : TryState) (step : Trying) → TryRestsOrAsks (record t { step = step }) → PartsAsk t step
parts_ask t Walks asks = asks.asks
parts_ask t (Appends its) asks = asks.asks
parts_ask t step asks = tt

-- each reply
pub try_goes : (p : Places) (room : ℕ) (t : TryState) (reply : ℕ) → TryKnows p t → TryRestsOrAsks t → TryGoes p reply (try_part t t.step) (try_next p room t reply)
try_goes p room t reply knows asks = step_goes p room t t.step reply refl knows.home knows.at (parts_ask t t.step asks)

-- how a try begins
pub begun_goes : (p : Places) (bits reply : ℕ) (request : Request) (seen : Seen) (occasion : Occasion) (spare : ℕ) → IsHome p (home_of bits (key_of request.op)) → TryGoes p reply (part NoWork spare) (try_begun p bits request seen occasion spare)
begun_goes p bits reply request seen occasion spare home =
    let its : TryState = new_try bits request seen occasion spare in
    either_goes (wants_shared its) (with_latch p its TakeShared TakesShared) (walks p its) (record { knows = record { home = home; at = tt }; goes = record { work = Drops tt refl; spare = refl } }) (walks_begin p reply its home)
  where
    either_goes : (c : Bool) (a b : TryState) → TryGoes p reply (part NoWork spare) a → TryGoes p reply (part NoWork spare) b → TryGoes p reply (part NoWork spare) (if c then a else b)
    either_goes true a b one other = one
    either_goes false a b one other = other

-- a try at its end is about nothing
pub try_end_part : (t : TryState) (step : Trying) → is_try_end step ≡ true → try_part t step ≡ part NoWork t.spare
try_end_part t (Ended its) ends = refl
try_end_part t step ends = cc
