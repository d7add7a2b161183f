-- Each true reply leads a try on to what it has to know of versions.
use Rattle.std.proofs.Common.{◌≡◌, ◌⊎◌, inl, inr, ℕ, ◌+◌, ◌<◌, ◌≤◌, ◌^◌, refl, sym, ap, ◌∙◌, subst, arith, Bool, true, false, Option, Some, None}
use Rattle.std.proofs.lemmas.Bool.Decides.{nat_tests}
use Rattle.std.specs.Prelude.{◌==◌, ◌&&◌, ◌||◌, not, nat_lt, nat_le, if◌then◌else◌}
use Rattle.fkv_base.specs.declared.numbers.Addr.{Addr}
use Rattle.fkv_base.specs.declared.numbers.Version.{Version}
use Rattle.fkv_marks.specs.Marks.{mark}
use Rattle.fkv_marks.proofs.Shown.{mark_low, mark_small}
use Rattle.fkv_map.specs.declared.operations.Reply.{Reply}
use Rattle.fkv_map.specs.Map.{absent_word}
use Rattle.fkv_map.specs.Keys.{key_of, reply_from}
use Rattle.fkv_words.specs.declared.phase_words.PhaseSaid.{PhaseSaid}
use Rattle.fkv_words.specs.PhaseWords.{phase_said}
use Rattle.fkv_plane.specs.declared.asks.Ask.{Ask}
use Rattle.fkv_plane.specs.declared.asks.Ask.TheVariants.{Done}
use Rattle.fkv_plane.specs.declared.places.Places.{Places}
use Rattle.fkv_plane.specs.Passing.{is_done, passed}
use Rattle.law_local.specs.Below.fkv_log.TheLoading.{Loading}
use Rattle.law_local.specs.Below.fkv_log.TheLoading.TheVariants as load
use Rattle.law_local.specs.Below.fkv_log.Region.{Region}
use Rattle.law_local.specs.Below.fkv_log.Loading.{load_ask}
use Rattle.law_local.specs.Below.fkv_log.Regions.{seen_region_of}
use Rattle.fkv_latch.specs.declared.latching.LatchAnswer.{LatchAnswer}
use Rattle.fkv_latch.specs.declared.latching.LatchAnswer.TheVariants as latch
use Rattle.fkv_latch.specs.declared.latching.LatchTask.TheVariants.{DropExclusive, DropShared, TakeExclusive, TakeShared}
use Rattle.fkv_latch.specs.declared.latching.Latching.{Latching}
use Rattle.fkv_latch.specs.declared.latching.Latching.TheVariants as latching
use Rattle.fkv_latch.specs.Latching.{latch_ask, latch_next, latch_next_ask}
use Rattle.fkv_index.specs.declared.finding.FindStep.{FindStep}
use Rattle.fkv_index.specs.declared.finding.FindStep.TheVariants as find
use Rattle.fkv_index.specs.declared.finding.Finding.{Finding}
use Rattle.fkv_index.specs.declared.finding.Purpose.{Purpose}
use Rattle.fkv_index.specs.declared.finding.Purpose.TheVariants.{Read, Update, UpdateWithin}
use Rattle.fkv_index.specs.Finding.{find_ask, find_step_ask, first_finding}
use Rattle.fkv_index.specs.Slots.{entry_addr}
use Rattle.law_log.specs.Chains.{VersionsFall, head_of, version_at}
use Rattle.law_log.specs.Enabled.{NoneAbove}
use Rattle.law_log.specs.Ghosts.{Log}
use Rattle.law_log.specs.Trace.{IsIn}
use Rattle.law_local.specs.Below.fkv_ops.Reason.TheVariants as reason
use Rattle.law_local.specs.Below.fkv_ops.TryAnswer.{TryAnswer}
use Rattle.law_local.specs.Below.fkv_ops.TryAnswer.TheVariants as answer
use Rattle.law_local.specs.Below.fkv_ops.TheWaiting.{Waiting}
use Rattle.law_local.specs.Below.fkv_ops.TheWaiting.TheVariants.{For, ForRecord}
use Rattle.law_local.specs.Below.fkv_ops.AppendAnswer.{AppendAnswer}
use Rattle.law_local.specs.Below.fkv_ops.AppendAnswer.TheVariants as append
use Rattle.law_local.specs.Below.fkv_ops.HeldRecord.{HeldRecord}
use Rattle.law_local.specs.Below.fkv_ops.Occasion.{Occasion}
use Rattle.law_local.specs.Below.fkv_ops.Occasion.TheVariants.{Call, Poll}
use Rattle.law_local.specs.Below.fkv_ops.Request.{Request}
use Rattle.law_local.specs.Below.fkv_ops.Seen.{Seen}
use Rattle.law_local.specs.Below.fkv_ops.OldValue.{OldValue}
use Rattle.law_local.specs.Below.fkv_ops.OldValue.TheVariants.{InMemory, Known}
use Rattle.law_local.specs.Below.fkv_ops.TheTrying.{Trying}
use Rattle.law_local.specs.Below.fkv_ops.TheTrying.TheVariants.{Appends, ChangesValue, CountsTaken, DropsExclusive, DropsShared, Ended, LoadsAnswer, LoadsCurrent, LoadsOld, LoadsPhase, LoadsSafe, LoadsTail, LoadsTaken, SwapsValue, TakesExclusive, TakesShared, Walks}
use Rattle.law_local.specs.Below.fkv_ops.WalkAnswer.{WalkAnswer}
use Rattle.law_local.specs.Below.fkv_ops.WalkAnswer.TheVariants as walk
use Rattle.law_local.specs.Below.fkv_ops.TheWalking.{Walking}
use Rattle.law_local.specs.Below.fkv_ops.TheWalking.TheVariants as walking
use Rattle.law_local.specs.Below.fkv_ops.Appending.{append_ask, append_next}
use Rattle.law_local.specs.Below.fkv_ops.Bounds.{bounds_at, is_past_taken, is_past_tail}
use Rattle.law_local.specs.Below.fkv_ops.Requests.{is_blind, is_chain_end, is_read, purpose_at}
use Rattle.law_local.specs.Below.fkv_ops.Trying.{TryState, answer_ledto, append_ledto, appends, awaits, changes, copies, copies_from, count_loaded, current_ledto, ended_without, ends, ends_by, ends_so, exclusive_dropped, exclusive_ledto, full_at, has_walked, held_used, is_above, is_bounded, is_marked, is_moving_on, is_next_marked, is_own_version, is_still_in, is_surely_own, latch_shared, phase_loaded, is_prepare, is_wait, met_disk, met_nowhere, met_record, must_count, must_shift, new_try, old_ledto, region_met, safe_loaded, shared_dropped, shared_ledto, tail_loaded, taken_loaded, takes_effect, told_value, try_ask, try_begun, try_next, trying_ask, trying_next, value_changed, walk_ledto, walked, walks, wants_exclusive, wants_shared, with_latch}
use Rattle.law_local.specs.Below.fkv_ops.Values.{value_of}
use Rattle.law_local.specs.Below.fkv_ops.Waiting.{told_of}
use Rattle.law_local.specs.Below.fkv_ops.Walking.{WalkState, walk_ask, walk_next, walk_on, walking_ask}
use Rattle.law_local.specs.Tries.OnWay.{IsFoundAt, IsOrderly}
use Rattle.law_local.specs.Tries.Replies.{IsTrueReply}
use Rattle.law_local.specs.Tries.TryRows.{IsUpdate, IsWalkFor, MarksTell, NoneIsLater, NoneLaterPast, StandsAt, TryKnows, TryRow, head_in, key_in}
use Rattle.law_local.specs.Tries.WalkRows.{LoadKnows, LoadsFrom, WalkKnows, WalkRow, begin_of}
use Rattle.law_local.proofs.OfTries.WalkRows.{loads_same, same_on, walk_leads, walk_tells}
use Rattle.law_apart.specs.Apart.Rows.{AreNear, CopiesApart, CopiesRow, EndApart, HasComeTo, HasMet, HasMetFirst, HasOwn, IsDropping, IsUnderWay, LatchRow, MovesOn, SharesRow, ShowsLater, TellsPhase, TellsSharer, TryApart, VersionsNear, WalkApart, is_linking, KnowsNone, MetIn}
use Rattle.law_apart.proofs.OfApart.Near.{near_told, small_told, unmarked_small}
use Rattle.law_apart.proofs.OfApart.Tests.{both_true, eq_true, le_false, lt_false, lt_true, not_both, test_true, waits_so}
use Rattle.law_apart.proofs.OfApart.Walks.{walk_apart, walk_met}

-- ---- what a walk's end says
-- no record is later than what the first one shows
none_of_shows : (home : ℕ → ℕ) (log : Log) (request : Request) (seen : Seen) (from : ℕ) → ShowsLater home log request seen from → (head_in seen ≤ from → request.version.0 < version_at (log.cells from) → ⊥)
    → NoneAbove log (home (key_in request)) request.version.0
none_of_shows home log request seen from shows never a is_in = by_test (nat_lt request.version.0 (version_at (log.cells a))) refl
  where
    by_test : (b : Bool) → nat_lt request.version.0 (version_at (log.cells a)) ≡ b → version_at (log.cells a) ≤ request.version.0
    by_test true e = let later = shows a (is_in, lt_true request.version.0 (version_at (log.cells a)) e) in absurd (never later.0 later.1)
    by_test false e = lt_false request.version.0 (version_at (log.cells a)) e

-- where the first version that was met isn't above the request's
passes_test : (prepare read marked above : Bool) → prepare ≡ true → read ≡ false → marked ≡ false → (prepare && not read && not marked && above) ≡ false → above ≡ false
passes_test true false false above one other none e = e
passes_test true false true above one other none e = cc
passes_test true true marked above one other none e = cc
passes_test false read marked above one other none e = cc

met_low : (log : Log) (from : ℕ) (first : Option Version) (version : Version) → version_at (log.cells from) ≤ version.0 + 1 → version.0 < 8191 → HasMetFirst log from first → is_above first version ≡ false → version.0 < version_at (log.cells from) → ⊥
met_low log from None version near few met e high = absurd met
met_low log from (Some was) version near few met e high =
    let low = lt_false (mark version.0) was.0 e in
    let is : version_at (log.cells from) ≡ met.cell.version = ap version_at met.its in
    let same = met.its_mark ∙ mark_small met.cell.version (omega (arith, is, near, few)) in
    let own = mark_small version.0 (omega (arith, few)) in
    omega (arith, low, high, is, same, own)

come_low : (log : Log) (from at head : ℕ) (first : Option Version) (version : Version) → version_at (log.cells from) ≤ version.0 + 1 → version.0 < 8191 → HasComeTo log from first at → is_above first version ≡ false → (at ≡ from → head ≤ from → version.0 < version_at (log.cells from) → ⊥) → head ≤ from
    → version.0 < version_at (log.cells from) → ⊥
come_low log from at head None version near few come e never in_memory high = never come in_memory high
come_low log from at head (Some was) version near few come e never in_memory high = met_low log from (Some was) version near few come e high

-- a walk that has ended in memory or below it, at a try that passes its test
none_past : (home : ℕ → ℕ) (log : Log) (t : TryState) (its : WalkAnswer) → IsOrderly home log → VersionsNear log t → is_prepare t.seen.phase ≡ true → is_next_marked t.request.version ≡ false → EndApart home log t.request t.seen t.walk its → (has_walked its && must_shift t) ≡ false → NoneIsLater home log t.request
none_past home log t its orderly near prepare unmarked apart passes update = by_end its apart passes
  where
    few : t.request.version.0 < 8191
    few = le_false 8191 t.request.version.0 unmarked

    from_near : version_at (log.cells (begin_of t.walk)) ≤ t.request.version.0 + 1
    from_near = (near update).below (begin_of t.walk)

    tested : must_shift t ≡ false → is_above t.walk.first t.request.version ≡ false
    tested e = passes_test (is_prepare t.seen.phase) (is_read t.request.op) (is_next_marked t.request.version) (is_above t.walk.first t.request.version) prepare update unmarked e

    none_at : (from : ℕ) → 0 ≡ from → head_in t.seen ≤ from → t.request.version.0 < version_at (log.cells from) → ⊥
    none_at from e in_memory high =
        let is : version_at (log.cells from) ≡ 0 = ap (λ (n : ℕ). version_at (log.cells n)) (sym e) ∙ ap version_at orderly.none in
        omega (arith, high, is)

    below : (addr from : ℕ) → addr < head_in t.seen → addr ≡ from → head_in t.seen ≤ from → t.request.version.0 < version_at (log.cells from) → ⊥
    below addr from low e in_memory high = omega (arith, low, e, in_memory)

    by_end : (end : WalkAnswer) → EndApart home log t.request t.seen t.walk end → (has_walked end && must_shift t) ≡ false → NoneAbove log (home (key_in t.request)) t.request.version.0
    by_end (walk.Found addr version) so e = none_of_shows home log t.request t.seen (begin_of t.walk) so.0 (λ in_memory high. met_low log (begin_of t.walk) t.walk.first t.request.version from_near few so.1 (tested e) high)
    by_end walk.Nowhere so e = none_of_shows home log t.request t.seen (begin_of t.walk) so.0
        (λ in_memory high. come_low log (begin_of t.walk) 0 (head_in t.seen) t.walk.first t.request.version from_near few so.1 (tested e) (none_at (begin_of t.walk)) in_memory high)
    by_end (walk.OnDisk addr) so e = none_of_shows home log t.request t.seen (begin_of t.walk) so.0
        (λ in_memory high. come_low log (begin_of t.walk) addr.0 (head_in t.seen) t.walk.first t.request.version from_near few so.1 (tested e) (below addr.0 (begin_of t.walk) so.2) in_memory high)
    by_end (walk.Value value) so e = absurd so
    by_end walk.Full so e = absurd so
    by_end walk.Kept so e = absurd so
    by_end walk.Contended so e = absurd so

-- ---- where a walk has come to its end
the_answer : (a b : WalkAnswer) → Done a ≡ Done b → a ≡ b
the_answer a b e = cc

find_asks : (f : Finding) (its : WalkAnswer) {X : Type 0} → (f.step ≡ find.AtRest → ⊥) → passed (find_ask f) walk.Contended ≡ Done its → X
unfolding find_step_ask passed
find_asks f its {X} busy e = by_step f.step refl
  where
    by_step : (step : FindStep) → f.step ≡ step → X
    by_step find.AtRest at = absurd (busy at)
    by_step (find.LoadsSlot slot) at = let clash : passed (find_step_ask f (find.LoadsSlot slot)) walk.Contended ≡ Done its = subst (λ (s : FindStep). passed (find_step_ask f s) walk.Contended ≡ Done its) at e in cc
    by_step find.LoadsLink at = let clash : passed (find_step_ask f find.LoadsLink) walk.Contended ≡ Done its = subst (λ (s : FindStep). passed (find_step_ask f s) walk.Contended ≡ Done its) at e in cc
    by_step (find.LoadsTaken word) at = let clash : passed (find_step_ask f (find.LoadsTaken word)) walk.Contended ≡ Done its = subst (λ (s : FindStep). passed (find_step_ask f s) walk.Contended ≡ Done its) at e in cc
    by_step (find.TakesBucket word taken) at = let clash : passed (find_step_ask f (find.TakesBucket word taken)) walk.Contended ≡ Done its = subst (λ (s : FindStep). passed (find_step_ask f s) walk.Contended ≡ Done its) at e in cc
    by_step (find.LinksBucket word) at = let clash : passed (find_step_ask f (find.LinksBucket word)) walk.Contended ≡ Done its = subst (λ (s : FindStep). passed (find_step_ask f s) walk.Contended ≡ Done its) at e in cc

-- a search that isn't at rest asks for something, by whatever passes it on
find_ends : (f : Finding) (its : TryAnswer) {X : Type 0} → (f.step ≡ find.AtRest → ⊥) → passed (passed (find_ask f) walk.Contended) answer.Shift ≡ Done its → X
unfolding find_step_ask passed
find_ends f its {X} busy e = by_step f.step refl
  where
    asks_at : FindStep → Type 0
    asks_at s = passed (passed (find_step_ask f s) walk.Contended) answer.Shift ≡ Done its

    by_step : (step : FindStep) → f.step ≡ step → X
    by_step find.AtRest at = absurd (busy at)
    by_step (find.LoadsSlot slot) at = let clash : asks_at (find.LoadsSlot slot) = subst asks_at at e in cc
    by_step find.LoadsLink at = let clash : asks_at find.LoadsLink = subst asks_at at e in cc
    by_step (find.LoadsTaken word) at = let clash : asks_at (find.LoadsTaken word) = subst asks_at at e in cc
    by_step (find.TakesBucket word taken) at = let clash : asks_at (find.TakesBucket word taken) = subst asks_at at e in cc
    by_step (find.LinksBucket word) at = let clash : asks_at (find.LinksBucket word) = subst asks_at at e in cc

load_ends : (log : Log) (p : Places) (addr : Addr) (loading : Loading) (its : TryAnswer) {X : Type 0} → LoadKnows log addr loading → passed (passed (load_ask p loading) walk.Contended) answer.Shift ≡ Done its → X
unfolding load_ask passed
load_ends log p addr (load.LoadsHeader at) its knows e = cc
load_ends log p addr (load.LoadsKey at header) its knows e = cc
load_ends log p addr loading its knows e = absurd knows

load_asks : (log : Log) (p : Places) (addr : Addr) (loading : Loading) (its : WalkAnswer) {X : Type 0} → LoadKnows log addr loading → passed (load_ask p loading) walk.Contended ≡ Done its → X
unfolding load_ask passed
load_asks log p addr (load.LoadsHeader at) its knows e = cc
load_asks log p addr (load.LoadsKey at header) its knows e = cc
load_asks log p addr loading its knows e = absurd knows

ended_apart_at : (home : ℕ → ℕ) (log : Log) (request : Request) (seen : Seen) (w : WalkState) (at its : WalkAnswer) → WalkApart home log request seen w (walking.Ended at) → at ≡ its → EndApart home log request seen w its
ended_apart_at home log request seen w (walk.Found addr version) its apart e = absurd apart
ended_apart_at home log request seen w walk.Nowhere its apart e = subst (EndApart home log request seen w) e apart
ended_apart_at home log request seen w (walk.OnDisk addr) its apart e = subst (EndApart home log request seen w) e apart
ended_apart_at home log request seen w (walk.Value value) its apart e = absurd apart
ended_apart_at home log request seen w walk.Full its apart e = absurd apart
ended_apart_at home log request seen w walk.Kept its apart e = absurd apart
ended_apart_at home log request seen w walk.Contended its apart e = absurd apart

end_apart : (home : ℕ → ℕ) (log : Log) (p : Places) (request : Request) (seen : Seen) (w : WalkState) (step : Walking) (its : WalkAnswer) → WalkRow home log w step → WalkApart home log request seen w step → walking_ask p w step ≡ Done its
    → EndApart home log request seen w its
unfolding walking_ask
end_apart home log p request seen w (walking.Ended at) its row apart e = ended_apart_at home log request seen w at its apart (the_answer at its e)
end_apart home log p request seen w walking.Finds its row apart e = find_asks w.finding its apart.1 e
end_apart home log p request seen w (walking.Meets addr) its row apart e = load_asks log p addr w.loading its row.its_load e
end_apart home log p request seen w (walking.HasFound addr version) its row apart e = subst (EndApart home log request seen w) (the_answer (walk.Found addr version) its e) apart
end_apart home log p request seen w walking.LoadsValue its row apart e = absurd apart

first_true : (a b : Bool) → (a && b) ≡ true → a ≡ true
first_true true b e = refl
first_true false b e = cc

second_true : (a b : Bool) → (a && b) ≡ true → b ≡ true
second_true true b e = e
second_true false b e = cc

module _ (home : ℕ → ℕ) (log : Log) (p : Places) where
  -- if it shares its latch none is later
  abbrev SharesNone : TryState → Type 0
  SharesNone t = t.has_shared ≡ true → NoneIsLater home log t.request

  abbrev Apart : TryState → Type 0
  Apart t = TryApart home log t

  -- ---- the end
  ended_apart : (t : TryState) (its : TryAnswer) → (is_wait its ≡ true → SharesNone t) → Apart (ended_without p t its)
  ended_apart t its none = by_test (t.has_shared && not (is_wait its)) refl
    where
      by_test : (b : Bool) → (t.has_shared && not (is_wait its)) ≡ b → Apart (if b then with_latch p (record t { has_shared = false }) DropShared (DropsShared its) else record t { step = Ended its })
      by_test true e = record { latch = tt; shares = λ (has : false ≡ true). cc; copies = tt }
      by_test false e = record { latch = tt; shares = λ has. none (waits_so t.has_shared (is_wait its) has e) has; copies = tt }

  either_apart : (b : Bool) (one other : TryState) → Apart one → Apart other → Apart (if b then one else other)
  either_apart true one other first second = first
  either_apart false one other first second = second

  ends_now_apart : (t : TryState) (its : TryAnswer) → (is_wait its ≡ true → SharesNone t) → Apart (ends_so p t its)
  unfolding ends_so
  ends_now_apart t its none = by_test t.has_exclusive
    where
      by_test : (b : Bool) → Apart (if b then with_latch p (record t { has_exclusive = false }) DropExclusive (DropsExclusive its) else ended_without p t its)
      by_test true = record { latch = tt; shares = λ has wait. none wait has; copies = tt }
      by_test false = ended_apart t its none

  -- it looks for room before it waits
  waits_apart : (t : TryState) (its : TryAnswer) (waiting : Waiting) → SharesNone t → Apart (ends_by p t its (Some waiting))
  waits_apart t its waiting none = either_apart (is_bounded t) (record t { step = LoadsTail waiting }) (ends_so p t its) (record { latch = tt; shares = none; copies = tt }) (ends_now_apart t its (λ wait. none))

  ends_apart : (t : TryState) (its : TryAnswer) → (is_wait its ≡ true → SharesNone t) → Apart (ends p t its)
  unfolding ends
  ends_apart t (answer.Wait it) none = waits_apart t (answer.Wait it) (For it) (none refl)
  ends_apart t (answer.AwaitsDisk it) none = waits_apart t (answer.AwaitsDisk it) (ForRecord it) (none refl)
  ends_apart t its none = ends_now_apart t its none

  tail_apart : (t : TryState) (waiting : Waiting) (tail : ℕ) → SharesNone t → Apart (tail_loaded p t waiting tail)
  unfolding tail_loaded
  tail_apart t waiting tail none =
      let looks : TryState = record t { step = LoadsTaken waiting } in
      either_apart (is_past_tail (bounds_at t.occasion) tail) (ends_so p t answer.LogFull) (if t.walk.entry == 0 then looks else ends_so p t (told_of waiting)) (ends_now_apart t answer.LogFull (λ wait. none))
      (either_apart (t.walk.entry == 0) looks (ends_so p t (told_of waiting)) (record { latch = tt; shares = none; copies = tt }) (ends_now_apart t (told_of waiting) (λ wait. none)))

  taken_apart : (t : TryState) (waiting : Waiting) (taken : ℕ) → SharesNone t → Apart (taken_loaded p t waiting taken)
  unfolding taken_loaded
  taken_apart t waiting taken none =
      either_apart (is_past_taken (bounds_at t.occasion) taken) (ends_so p t answer.IndexFull) (ends_so p t (told_of waiting)) (ends_now_apart t answer.IndexFull (λ wait. none)) (ends_now_apart t (told_of waiting) (λ wait. none))

  full_apart : (t : TryState) (refused : TryAnswer) (occasion : Occasion) → SharesNone t → Apart (ends p t (full_at occasion refused))
  full_apart t refused (Call bounds) none = ends_apart t refused (λ wait. none)
  full_apart t refused Poll none = ends_apart t (answer.Wait reason.Full) (λ wait. none)

  -- ---- a new record
  appends_apart : (t : TryState) (old : ℕ) → SharesNone t → CopiesApart home log t → Apart (appends t old)
  unfolding appends
  appends_apart t old none copy = record { latch = tt; shares = none; copies = copy }

  from_apart : (t : TryState) (old : OldValue) → SharesNone t → CopiesApart home log t → Apart (copies_from t old)
  unfolding copies_from
  from_apart t (Known old) none copy = appends_apart t old none copy
  from_apart t InMemory none copy = by_blind (is_blind t.request.op)
    where
      by_blind : (b : Bool) → Apart (if b then appends t absent_word else record t { walk = walk_on t.walk; step = LoadsOld })
      by_blind true = appends_apart t absent_word none copy
      by_blind false = record {
        latch = tt;
        shares = none;
        copies = λ moves. subst (λ (e : ℕ). (t.has_exclusive ≡ true) ⊎ HasOwn home log t.request (entry_addr e)) (sym (same_on t.walk)) (copy moves);
      }

  copies_apart : (t : TryState) (old : OldValue) (is_current : Bool) → SharesNone t → (is_current ≡ true → HasOwn home log t.request (begin_of t.walk)) → Apart (copies p t old is_current)
  unfolding copies
  copies_apart t old is_current none own = by_test (wants_exclusive t is_current) refl
    where
      by_test : (b : Bool) → wants_exclusive t is_current ≡ b → Apart (if b then with_latch p t TakeExclusive (TakesExclusive old) else copies_from t old)
      by_test true e = record { latch = tt; shares = none; copies = tt }
      by_test false e = from_apart t old none
          (λ moves. inr (own (both_true (is_moving_on t.seen.phase) (t.request.version.0 == t.seen.version.0) is_current moves.0 (test_true t.request.version.0 t.seen.version.0 moves.1) e)))

  anew_apart : (t : TryState) (old : OldValue) → SharesNone t → Apart (copies p t old false)
  anew_apart t old none = copies_apart t old false none (λ (current : false ≡ true). cc)

  awaits_apart : (t : TryState) (addr : Addr) → SharesNone t → Apart (awaits p t addr)
  awaits_apart t addr none = ends_apart t (answer.AwaitsDisk (record { entry = t.walk.entry; addr = addr })) (λ wait. none)

  held_apart : (t : TryState) (addr : Addr) (its : Option HeldRecord) → SharesNone t → Apart (held_used p t addr its)
  unfolding held_used
  held_apart t addr None none = awaits_apart t addr none
  held_apart t addr (Some held) none =
      either_apart (held.entry == t.walk.entry)
      (if held.key.0 == (key_of t.request.op).0 then copies p t (Known held.value) false
      else if is_chain_end t.request.floor held.previous then copies p t (Known absent_word) false else awaits p t held.previous) (awaits p t addr)
      (either_apart (held.key.0 == (key_of t.request.op).0) (copies p t (Known held.value) false)
      (if is_chain_end t.request.floor held.previous then copies p t (Known absent_word) false else awaits p t held.previous)
      (anew_apart t (Known held.value) none)
      (either_apart (is_chain_end t.request.floor held.previous) (copies p t (Known absent_word) false) (awaits p t held.previous)
      (anew_apart t (Known absent_word) none) (awaits_apart t held.previous none)))
      (awaits_apart t addr none)

  nowhere_apart : (t : TryState) → SharesNone t → Apart (met_nowhere p t)
  nowhere_apart t none =
      let counts : TryState = record t { step = CountsTaken } in
      either_apart (is_read t.request.op) (ends p t answer.Absent) (if must_count p t then counts else copies p t (Known absent_word) false) (ends_apart t answer.Absent (λ wait. none))
      (either_apart (must_count p t) counts (copies p t (Known absent_word) false) (record { latch = tt; shares = none; copies = tt }) (anew_apart t (Known absent_word) none))

  count_apart : (t : TryState) (taken : ℕ) → SharesNone t → Apart (count_loaded p t taken)
  unfolding count_loaded
  count_apart t taken none =
      either_apart (is_past_taken (bounds_at t.occasion) taken) (ends p t answer.IndexFull) (copies p t (Known absent_word) false) (ends_apart t answer.IndexFull (λ wait. none)) (anew_apart t (Known absent_word) none)

  disk_apart : (t : TryState) (addr : Addr) → SharesNone t → Apart (met_disk p t addr)
  disk_apart t addr none =
      let dead : Bool = is_chain_end t.request.floor addr in
      let made : TryState = copies p t (Known absent_word) false in
      let goes : TryState = held_used p t addr t.request.held in
      either_apart (is_read t.request.op) (if dead then ends p t answer.Absent else awaits p t addr) (if is_blind t.request.op || dead then made else goes)
      (either_apart dead (ends p t answer.Absent) (awaits p t addr) (ends_apart t answer.Absent (λ wait. none)) (awaits_apart t addr none))
      (either_apart (is_blind t.request.op || dead) made goes (anew_apart t (Known absent_word) none) (held_apart t addr t.request.held none))

  changes_apart : (t : TryState) (addr : Addr) → SharesNone t → Apart (changes t addr)
  changes_apart t addr none =
      either_apart (is_blind t.request.op) (record t { step = SwapsValue addr }) (record t { walk = walk_on t.walk; step = LoadsCurrent addr }) (record { latch = tt; shares = none; copies = tt }) (record { latch = tt; shares = none; copies = tt })

  region_apart : (t : TryState) (addr : Addr) (version : Version) (its : Option Region) → SharesNone t → Apart (region_met p t addr version its)
  region_apart t addr version None none = record { latch = tt; shares = none; copies = tt }
  region_apart t addr version (Some its) none = either_apart (is_own_version t version) (changes t addr) (copies p t InMemory false) (changes_apart t addr none) (anew_apart t InMemory none)

  record_apart : (t : TryState) (addr : Addr) (version : Version) → SharesNone t → Apart (met_record p t addr version)
  record_apart t addr version none =
      either_apart (is_read t.request.op) (record t { walk = walk_on t.walk; step = LoadsAnswer }) (region_met p t addr version (seen_region_of addr.0 t.seen.offsets)) (record { latch = tt; shares = none; copies = tt })
      (region_apart t addr version (seen_region_of addr.0 t.seen.offsets) none)

  walked_apart : (t : TryState) (its : WalkAnswer) → SharesNone t → Apart (walked p t its)
  walked_apart t (walk.Found addr version) none = record_apart t addr version none
  walked_apart t walk.Nowhere none = nowhere_apart t none
  walked_apart t (walk.OnDisk addr) none = disk_apart t addr none
  walked_apart t (walk.Value value) none = ends_apart t (answer.Wait reason.Contended) (λ wait. none)
  walked_apart t walk.Full none = full_apart t answer.IndexFull t.occasion none
  walked_apart t walk.Kept none = full_apart t answer.IndexFull t.occasion none
  walked_apart t walk.Contended none = ends_apart t (answer.Wait reason.Contended) (λ wait. none)

  -- ---- behind the walk
  abbrev Row : TryState → Type 0
  Row t = t.has_shared ≡ true → KnowsNone home log t ⊎ ((is_prepare t.seen.phase ≡ true) × WalkApart home log t.request t.seen t.walk t.walk.step × (t.request.has_latch ≡ false) × (is_next_marked t.request.version ≡ false))

  -- what still asks is under way
  going : (request : Request) (seen : Seen) (w : WalkState) (step : Walking) → is_done (walking_ask p w step) ≡ false → WalkApart home log request seen w step → IsUnderWay step
  unfolding walking_ask
  going request seen w walking.Finds asks apart = tt
  going request seen w (walking.Meets addr) asks apart = tt
  going request seen w (walking.HasFound addr version) asks apart = cc
  going request seen w (walking.Ended its) asks apart = cc
  going request seen w walking.LoadsValue asks apart = absurd apart

  row_on : (t : TryState) → is_done (walk_ask p t.walk) ≡ false → t.step ≡ Walks → Row t → t.has_shared ≡ true → SharesRow home log t t.step
  row_on t asks at row has = subst (SharesRow home log t) (sym at) (elim (row has) [
    | inl none ↦ inl none
    | inr apart ↦ inr (apart.0, going t.request t.seen t.walk t.walk.step asks apart.1, apart.1, apart.2, apart.3)
  ])

  past_none : (t : TryState) (its : WalkAnswer) → IsOrderly home log → VersionsNear log t → WalkKnows home log t.walk → walk_ask p t.walk ≡ Done its → Row t → (has_walked its && must_shift t) ≡ false → SharesNone t
  past_none t its orderly near knows asks row passes has = elim (row has) [
    | inl none ↦ none.0
    | inr apart ↦ none_past home log t its orderly near apart.0 apart.3 (end_apart home log p t.request t.seen t.walk t.walk.step its knows apart.1 asks) passes
  ]

  led_apart : (t : TryState) (ask : Ask WalkAnswer) → IsOrderly home log → VersionsNear log t → WalkKnows home log t.walk → t.step ≡ Walks → walk_ask p t.walk ≡ ask → Row t → Apart (walk_ledto p t ask)
  unfolding walk_ledto
  led_apart t (Done its) orderly near knows at asks row = by_test (has_walked its && must_shift (record t { spare = t.walk.spare })) refl
    where
      by_test : (b : Bool) → (has_walked its && must_shift (record t { spare = t.walk.spare })) ≡ b → Apart (if b then ends p (record t { spare = t.walk.spare }) answer.Shift else walked p (record t { spare = t.walk.spare }) its)
      by_test true e = ends_apart (record t { spare = t.walk.spare }) answer.Shift (λ (wait : false ≡ true). cc)
      by_test false e = walked_apart (record t { spare = t.walk.spare }) its (past_none t its orderly near knows asks row e)
  led_apart t ask orderly near knows at asks row = record {
    latch = subst (LatchRow t) (sym at) tt;
    shares = row_on t (ap is_done asks) at row;
    copies = subst (CopiesRow home log t) (sym at) tt;
  }

  -- ---- latches
  rested_step : find.LoadsSlot 0 ≡ find.AtRest → ⊥
  rested_step e = cc

  walks_apart : (t : TryState) → (t.has_shared ≡ true → NoneIsLater home log t.request ⊎ ((is_prepare t.seen.phase ≡ true) × (t.request.has_latch ≡ false) × (is_next_marked t.request.version ≡ false))) → Apart (walks p t)
  walks_apart t row = record {
    latch = tt;
    shares = λ has. elim (row has) [ inl none ↦ inl (none, tt) | inr prepare ↦ inr (prepare.0, tt, begins, prepare.1, prepare.2) ];
    copies = tt;
  }
    where
      w : WalkState
      w = (walks p t).walk

      unlinked : is_linking w.finding ≡ false
      unlinked = by_purpose (purpose_at t.occasion t.request.op)
        where
          by_purpose : (purpose : Purpose) → is_linking (first_finding p t.home purpose t.spare) ≡ false
          by_purpose Read = refl
          by_purpose Update = refl
          by_purpose (UpdateWithin bound) = refl

      begins : (w.first ≡ None) × (w.finding.step ≡ find.AtRest → ⊥) × (is_linking w.finding ≡ false)
      begins = (refl, rested_step, unlinked)

  latch_apart : (t : TryState) → is_prepare t.seen.phase ≡ true → t.has_shared ≡ true → t.request.has_latch ≡ false → Apart (latch_shared p t)
  latch_apart t prepares has_share without = by_mark (is_next_marked t.request.version) refl
    where
      by_mark : (b : Bool) → is_next_marked t.request.version ≡ b → Apart (if b then record t { step = LoadsPhase } else walks p t)
      by_mark true e = record { latch = (prepares, has_share, without); shares = λ has. tt; copies = tt }
      by_mark false e = walks_apart t (λ has. inr (prepares, without, e))

  -- the phase word tells that none is later, and the share keeps it so
  phase_apart : (t : TryState) (said : PhaseSaid) → (t.has_shared ≡ true → is_still_in said t.request.version ≡ true → NoneIsLater home log t.request) → Apart (phase_loaded p t said)
  unfolding phase_loaded
  phase_apart t said tells = by_word (is_still_in said t.request.version) refl
    where
      by_word : (b : Bool) → is_still_in said t.request.version ≡ b → Apart (if b then walks p t else ends p t answer.Shift)
      by_word true e = walks_apart t (λ has. inl (tells has e))
      by_word false e = ends_apart t answer.Shift (λ (wait : false ≡ true). cc)

  shared_apart : (t : TryState) (ask : Ask LatchAnswer) → t.step ≡ TakesShared → (is_prepare t.seen.phase ≡ true) × (t.has_shared ≡ false) × (t.request.has_latch ≡ false) → Apart (shared_ledto p t ask)
  unfolding shared_ledto
  shared_apart t (Done latch.Taken) at takes = latch_apart (record t { has_shared = true }) takes.0 refl takes.2
  shared_apart t (Done its) at takes = ends_apart t answer.Shift (λ (wait : false ≡ true). cc)
  shared_apart t ask at takes = record {
    latch = subst (LatchRow t) (sym at) takes;
    shares = λ has. subst (SharesRow home log t) (sym at) tt;
    copies = subst (CopiesRow home log t) (sym at) tt;
  }

  exclusive_apart : (t : TryState) (old : OldValue) (ask : Ask LatchAnswer) → t.step ≡ TakesExclusive old → SharesNone t → Apart (exclusive_ledto p t old ask)
  unfolding exclusive_ledto
  exclusive_apart t old (Done latch.Taken) at none = from_apart (record t { has_exclusive = true }) old none (λ moves. inl refl)
  exclusive_apart t old (Done its) at none = ends_apart t (answer.Wait reason.Latch) (λ wait. none)
  exclusive_apart t old ask at none = record { latch = subst (LatchRow t) (sym at) tt; shares = λ has. subst (SharesRow home log t) (sym at) (none has); copies = subst (CopiesRow home log t) (sym at) tt }

  dropped_apart : (t : TryState) (its : TryAnswer) (before : Latching) (reply : ℕ) → IsDropping before → (is_wait its ≡ true → SharesNone t) → Apart (exclusive_dropped p t its (latch_next_ask before reply))
  unfolding exclusive_dropped latch_next_ask
  dropped_apart t its (latching.DropsExclusive place) reply drops none = ended_apart t its none
  dropped_apart t its before reply drops none = absurd drops

  unshared_apart : (t : TryState) (its : TryAnswer) (ask : Ask LatchAnswer) → t.step ≡ DropsShared its → SharesNone t → Apart (shared_dropped t its ask)
  unfolding shared_dropped
  unshared_apart t its (Done told) at none = record { latch = tt; shares = none; copies = tt }
  unshared_apart t its ask at none = record { latch = subst (LatchRow t) (sym at) tt; shares = λ has. subst (SharesRow home log t) (sym at) (none has); copies = subst (CopiesRow home log t) (sym at) tt }

  -- ---- values
  effect_apart : (t : TryState) (its : Reply) → Apart (takes_effect p t its)
  effect_apart t its = ends_apart (record t { effect = Some its }) (answer.Done its) (λ (wait : false ≡ true). cc)

  changed_apart : (t : TryState) (old found : ℕ) → SharesNone t → Apart (value_changed p t old found)
  changed_apart t old found none = either_apart (found == old) (takes_effect p t (reply_from (value_of old) t.request.op)) (ends p t (answer.Wait reason.Contended)) (effect_apart t (reply_from (value_of old) t.request.op)) (ends_apart t (answer.Wait reason.Contended) (λ wait. none))

  current_apart : (t : TryState) (addr : Addr) (ask : Ask WalkAnswer) → t.step ≡ LoadsCurrent addr → SharesNone t → Apart (current_ledto p t addr ask)
  unfolding current_ledto
  current_apart t addr (Done (walk.Value old)) at none = record { latch = tt; shares = none; copies = tt }
  current_apart t addr (Done its) at none = ends_apart t (answer.Wait reason.Contended) (λ wait. none)
  current_apart t addr ask at none = record { latch = subst (LatchRow t) (sym at) tt; shares = λ has. subst (SharesRow home log t) (sym at) (none has); copies = subst (CopiesRow home log t) (sym at) tt }

  told_apart : (t : TryState) (its : Option ℕ) → SharesNone t → Apart (ends p t (told_value its))
  told_apart t None none = ends_apart t answer.Absent (λ wait. none)
  told_apart t (Some value) none = ends_apart t (answer.Found (record { 0 = value })) (λ wait. none)

  answer_apart : (t : TryState) (ask : Ask WalkAnswer) → t.step ≡ LoadsAnswer → SharesNone t → Apart (answer_ledto p t ask)
  unfolding answer_ledto
  answer_apart t (Done (walk.Value value)) at none = told_apart t (value_of value) none
  answer_apart t (Done its) at none = ends_apart t (answer.Wait reason.Contended) (λ wait. none)
  answer_apart t ask at none = record { latch = subst (LatchRow t) (sym at) tt; shares = λ has. subst (SharesRow home log t) (sym at) (none has); copies = subst (CopiesRow home log t) (sym at) tt }

  old_apart : (t : TryState) (ask : Ask WalkAnswer) → t.step ≡ LoadsOld → SharesNone t → CopiesApart home log t → Apart (old_ledto p t ask)
  unfolding old_ledto
  old_apart t (Done (walk.Value value)) at none copy = appends_apart t value none copy
  old_apart t (Done its) at none copy = ends_apart t (answer.Wait reason.Contended) (λ wait. none)
  old_apart t ask at none copy = record { latch = subst (LatchRow t) (sym at) tt; shares = λ has. subst (SharesRow home log t) (sym at) (none has); copies = subst (CopiesRow home log t) (sym at) copy }

  append_apart : (t : TryState) (its : Reply) (ask : Ask AppendAnswer) → t.step ≡ Appends its → SharesNone t → CopiesApart home log t → Apart (append_ledto p t its ask)
  unfolding append_ledto
  append_apart t its (Done append.Published) at none copy = effect_apart t its
  append_apart t its (Done append.Full) at none copy = full_apart t answer.LogFull t.occasion none
  append_apart t its (Done append.NoRoom) at none copy = ends_apart t (answer.Wait reason.NoRoom) (λ wait. none)
  append_apart t its (Done append.Contended) at none copy = ends_apart t (answer.Wait reason.Contended) (λ wait. none)
  append_apart t its ask at none copy = record { latch = subst (LatchRow t) (sym at) tt; shares = λ has. subst (SharesRow home log t) (sym at) (none has); copies = subst (CopiesRow home log t) (sym at) copy }

  -- ---- the safe read-only offset
  own_there : (t : TryState) (addr : Addr) (version : Version) → AreNear log t.request t.seen → t.request.version.0 < 2 ^ 13 → StandsAt home log t.request t.seen t.walk addr version → addr.0 < log.fixed → version.0 ≡ mark t.request.version.0 → HasOwn home log t.request (begin_of t.walk)
  own_there t addr version near small stands fixed own = record {
    at = addr.0;
    found = subst (IsFoundAt home log (key_in t.request) (begin_of t.walk) addr.0) same (subst (λ (k : _). IsFoundAt home log k.0 (begin_of t.walk) addr.0 stands.knows.version) stands.its.its_key stands.knows.found);
    fixed = fixed;
  }
    where
      there : version_at (log.cells addr.0) ≡ stands.knows.version
      there = ap version_at stands.knows.found.its ∙ stands.knows.found.its_version

      same : stands.knows.version ≡ t.request.version.0
      same = let low = near.below addr.0 in small_told t.request.version.0 stands.knows.version t.request.some_version small (omega (arith, low, there)) (sym stands.knows.its_mark ∙ own)

  safe_apart : (t : TryState) (addr : Addr) (version : Version) (safe : ℕ) → AreNear log t.request t.seen → SharesNone t → StandsAt home log t.request t.seen t.walk addr version → safe ≡ log.fixed → Apart (safe_loaded p t addr version safe)
  safe_apart t addr version safe near none stands is_fixed = by_test (nat_le safe addr.0) refl
    where
      by_test : (b : Bool) → nat_le safe addr.0 ≡ b → Apart (if b then ends p t (answer.Wait reason.Fuzzy) else copies p t InMemory (is_surely_own t version))
      by_test true e = ends_apart t (answer.Wait reason.Fuzzy) (λ wait. none)
      by_test false e =
          copies_apart t InMemory (is_surely_own t version) none
          (λ own. own_there t addr version near (unmarked_small t.request.version (first_true (not (is_marked t.request.version)) (is_own_version t version) own)) stands (let low : addr.0 < safe = le_false safe addr.0 e in omega (arith, low, is_fixed)) (eq_true version.0 (mark t.request.version.0) (second_true (not (is_marked t.request.version)) (is_own_version t version) own)))

  -- ---- each reply
  row_apart : (room : ℕ) (t : TryState) (step : Trying) (reply : ℕ) → IsOrderly home log → VersionsFall log.cells (log.chains (home (key_in t.request))) → VersionsNear log t → TellsSharer home log p t reply → TellsPhase home log t reply → t.step ≡ step → TryRow home log t step
      → IsTrueReply home log p t step reply → LatchRow t step → (t.has_shared ≡ true → SharesRow home log t step) → CopiesRow home log t step → Apart (trying_next p room (record t { effect = None }) step reply)
  unfolding trying_next
  row_apart room t (Ended its) reply orderly falls near tells word at row says takes shares copies =
      record { latch = subst (LatchRow (record t { effect = None })) (sym at) tt; shares = λ has. subst (SharesRow home log (record t { effect = None })) (sym at) (shares has); copies = subst (CopiesRow home log (record t { effect = None })) (sym at) tt }
  row_apart room t TakesShared reply orderly falls near tells word at row says takes shares copies = shared_apart (record t { effect = None; latching = latch_next t.latching reply }) (latch_next_ask t.latching reply) at takes
  row_apart room t LoadsPhase reply orderly falls near tells word at row says takes shares copies = phase_apart (record t { effect = None }) (phase_said reply) (word at)
  row_apart room t Walks reply orderly falls near tells word at row says takes shares copies =
      led_apart (record t { effect = None; walk = walk_next p t.walk reply }) (walk_ask p (walk_next p t.walk reply)) orderly near (walk_leads home log p t.walk reply orderly.chains row.1 says) at refl walk_row
    where
      walk_row : Row (record t { effect = None; walk = walk_next p t.walk reply })
      walk_row has = elim (shares has) [
        | inl none ↦ inl (none.0, walk_met home log t.request t.seen p t.walk reply row.0 row.1 none.1)
        | inr apart ↦
            let its = tells at has apart.0 in
            elim (walk_apart home log t.request t.seen p orderly its.above its.in_ring falls t.walk reply row.0 row.1 says its.search apart.2) [
              | inl none ↦ inl none
              | inr on ↦ inr (apart.0, on, apart.3, apart.4)
            ]
      ]
  row_apart room t CountsTaken reply orderly falls near tells word at row says takes shares copies = count_apart (record t { effect = None }) reply shares
  row_apart room t (LoadsSafe addr version) reply orderly falls near tells word at row says takes shares copies = safe_apart (record t { effect = None }) addr version reply (near row.0) shares row.1 says
  row_apart room t (SwapsValue addr) reply orderly falls near tells word at row says takes shares copies = effect_apart (record t { effect = None }) (reply_from None t.request.op)
  row_apart room t (LoadsCurrent addr) reply orderly falls near tells word at row says takes shares copies = current_apart (record t { effect = None; walk = walk_next p t.walk reply }) addr (walk_ask p (walk_next p t.walk reply)) at shares
  row_apart room t (ChangesValue addr old) reply orderly falls near tells word at row says takes shares copies = changed_apart (record t { effect = None }) old reply shares
  row_apart room t LoadsAnswer reply orderly falls near tells word at row says takes shares copies = answer_apart (record t { effect = None; walk = walk_next p t.walk reply }) (walk_ask p (walk_next p t.walk reply)) at shares
  row_apart room t (TakesExclusive old) reply orderly falls near tells word at row says takes shares copies = exclusive_apart (record t { effect = None; latching = latch_next t.latching reply }) old (latch_next_ask t.latching reply) at shares
  row_apart room t LoadsOld reply orderly falls near tells word at row says takes shares copies =
      old_apart (record t { effect = None; walk = walk_next p t.walk reply }) (walk_ask p (walk_next p t.walk reply)) at shares
      (λ moves. subst (λ (e : ℕ). (t.has_exclusive ≡ true) ⊎ HasOwn home log t.request (entry_addr e)) (sym (loads_same p t.walk row.1.addr reply row.1.its.loads)) (copies moves))
  row_apart room t (Appends its) reply orderly falls near tells word at row says takes shares copies = append_apart (record t { effect = None; append = append_next p room t.append reply }) its (append_ask p (append_next p room t.append reply)) at shares copies
  row_apart room t (LoadsTail waiting) reply orderly falls near tells word at row says takes shares copies = tail_apart (record t { effect = None }) waiting reply shares
  row_apart room t (LoadsTaken waiting) reply orderly falls near tells word at row says takes shares copies = taken_apart (record t { effect = None }) waiting reply shares
  row_apart room t (DropsExclusive its) reply orderly falls near tells word at row says takes shares copies = dropped_apart (record t { effect = None; latching = latch_next t.latching reply }) its t.latching reply takes (λ wait has. shares has wait)
  row_apart room t (DropsShared its) reply orderly falls near tells word at row says takes shares copies = unshared_apart (record t { effect = None; latching = latch_next t.latching reply }) its (latch_next_ask t.latching reply) at shares

pub try_apart : (home : ℕ → ℕ) (log : Log) (p : Places) (room : ℕ) (t : TryState) (reply : ℕ) → IsOrderly home log → VersionsFall log.cells (log.chains (home (key_in t.request))) → VersionsNear log t → TellsSharer home log p t reply → TellsPhase home log t reply
    → TryKnows home log t → IsTrueReply home log p t t.step reply → TryApart home log t → TryApart home log (try_next p room t reply)
try_apart home log p room t reply orderly falls near tells word knows says apart = row_apart home log p room t t.step reply orderly falls near tells word refl knows.row says apart.latch apart.shares apart.copies

-- so one that shares its latch leads on past its walk
pub sharers_pass : (home : ℕ → ℕ) (log : Log) (p : Places) (t : TryState) (reply : ℕ) → IsOrderly home log → VersionsFall log.cells (log.chains (home (key_in t.request))) → VersionsNear log t → TellsSharer home log p t reply
    → TryKnows home log t → IsTrueReply home log p t t.step reply → TryApart home log t → t.has_shared ≡ true → NoneLaterPast home log p t reply
sharers_pass home log p t reply orderly falls near tells knows says apart has at addr version ends passes =
    let row : TryRow home log t Walks = subst (TryRow home log t) at knows.row in
    let told : IsTrueReply home log p t Walks reply = subst (λ (s : Trying). IsTrueReply home log p t s reply) at says in
    let shares : SharesRow home log t Walks = subst (SharesRow home log t) at (apart.shares has) in
    elim shares [
      | inl none ↦ none.0
      | inr walks ↦
          let its = tells at has walks.0 in
          elim (walk_apart home log t.request t.seen p orderly its.above its.in_ring falls t.walk reply row.0 row.1 told its.search walks.2) [
            | inl none ↦ none.0
            | inr on ↦
                none_past home log (record t { walk = walk_next p t.walk reply }) (walk.Found addr version) orderly near walks.0 walks.4
                (end_apart home log p t.request t.seen (walk_next p t.walk reply) (walk_next p t.walk reply).step (walk.Found addr version) (walk_leads home log p t.walk reply orderly.chains row.1 told) on ends) passes
          ]
    ]

-- ---- a record that is met in memory
-- is of the version whose mark its header has
pub marks_told : (home : ℕ → ℕ) (log : Log) (p : Places) (t : TryState) (reply : ℕ) → IsOrderly home log → VersionsNear log t → TryKnows home log t → IsTrueReply home log p t t.step reply → MarksTell log p t reply
marks_told home log p t reply orderly near knows says at addr said ends update mutable own =
    let row : TryRow home log t Walks = subst (TryRow home log t) at knows.row in
    let told : IsTrueReply home log p t Walks reply = subst (λ (s : Trying). IsTrueReply home log p t s reply) at says in
    let found = (walk_tells home log p (walk_next p t.walk reply) (walk.Found addr said) (walk_leads home log p t.walk reply orderly.chains row.1 told) ends).1 in
    let there : version_at (log.cells addr.0) ≡ found.version = ap version_at found.found.its ∙ found.found.its_version in
    let low = (near update).below addr.0 in
    let high = (near update).above addr.0 found.found.cell mutable found.found.its in
    there ∙ near_told t.request.version.0 found.version t.request.some_version (omega (arith, low, there)) (let is = found.found.its_version in omega (arith, high, is)) (sym found.its_mark ∙ own)

-- ---- one whose request came with its share
-- has met nothing that is later, so it doesn't shift
pub came_stays : (home : ℕ → ℕ) (log : Log) (p : Places) (t : TryState) (reply : ℕ) → TryKnows home log t → TryApart home log t → t.step ≡ Walks → t.has_shared ≡ true → t.request.has_latch ≡ true
    → must_shift (record t { walk = walk_next p t.walk reply }) ≡ false
came_stays home log p t reply knows apart at has came =
    let row : TryRow home log t Walks = subst (TryRow home log t) at knows.row in
    let shares : SharesRow home log t Walks = subst (SharesRow home log t) at (apart.shares has) in
    elim shares [
      | inl none ↦ by_read none.0 (walk_met home log t.request t.seen p t.walk reply row.0 row.1 none.1)
      | inr walks ↦ not_both t.request.has_latch came walks.3
    ]
  where
    both_false : (a b m c : Bool) → (b ≡ false → m ≡ false → c ≡ false) → (a && not b && not m && c) ≡ false
    both_false true false false true so = let clash = so refl refl in cc
    both_false true false false false so = refl
    both_false true false true c so = refl
    both_false true true m c so = refl
    both_false false b m c so = refl

    low : NoneIsLater home log t.request → is_read t.request.op ≡ false → t.request.version.0 < 8191 → (found : Option Version) → MetIn log (log.chains (home (key_in t.request))) found → is_above found t.request.version ≡ false
    low none update few None met = refl
    low none update few (Some its) met =
        let high = none update met.at met.is_in in
        let is : version_at (log.cells met.at) ≡ met.met.cell.version = ap version_at met.met.its in
        let same = met.met.its_mark in
        let lower = mark_low met.met.cell.version in
        let own = mark_small t.request.version.0 (omega (arith, few)) in
        let under : its.0 ≤ mark t.request.version.0 = omega (arith, high, is, same, lower, own) in
        grind (arith, nat_tests, under)

    by_read : NoneIsLater home log t.request → MetIn log (log.chains (home (key_in t.request))) (walk_next p t.walk reply).first → must_shift (record t { walk = walk_next p t.walk reply }) ≡ false
    by_read none met = both_false (is_prepare t.seen.phase) (is_read t.request.op) (is_next_marked t.request.version) (is_above (walk_next p t.walk reply).first t.request.version) (λ update unmarked. low none update (le_false 8191 t.request.version.0 unmarked) (walk_next p t.walk reply).first met)

-- ---- where a try has come to its end
-- one that has, and shares its latch, has none later
pub none_at_end : (home : ℕ → ℕ) (log : Log) (p : Places) (t : TryState) (its : TryAnswer) → TryKnows home log t → TryApart home log t → try_ask p t ≡ Done its → t.has_shared ≡ true → NoneIsLater home log t.request
unfolding trying_ask walking_ask latch_ask passed
none_at_end home log p t its knows apart asks has = by_step t.step asks knows.row apart.latch (apart.shares has)
  where
    by_latch : (before : Latching) (told : TryAnswer) → IsDropping before → passed (latch_ask before) told ≡ Done its → NoneIsLater home log t.request
    by_latch (latching.DropsExclusive place) told drops e = cc
    by_latch before told drops e = absurd drops

    by_walk : (step : Walking) → WalkRow home log t.walk step → IsUnderWay step → WalkApart home log t.request t.seen t.walk step → passed (walking_ask p t.walk step) answer.Shift ≡ Done its → NoneIsLater home log t.request
    by_walk walking.Finds row under so e = find_ends t.walk.finding its so.1 e
    by_walk (walking.Meets addr) row under so e = load_ends log p addr t.walk.loading its row.its_load e
    by_walk step row under so e = absurd under

    by_step : (step : Trying) → trying_ask p t step ≡ Done its → TryRow home log t step → LatchRow t step → SharesRow home log t step → NoneIsLater home log t.request
    by_step TakesShared e row takes shares = not_both t.has_shared has takes.1
    by_step LoadsPhase e row takes shares = cc
    by_step Walks e row takes shares = elim shares [ inl none ↦ none.0 | inr walks ↦ by_walk t.walk.step row.1 walks.1 walks.2 e ]
    by_step (DropsExclusive told) e row takes shares = by_latch t.latching told takes e
    by_step (Ended told) e row takes shares = shares
    by_step CountsTaken e row takes shares = shares
    by_step (LoadsSafe addr version) e row takes shares = shares
    by_step (SwapsValue addr) e row takes shares = shares
    by_step (LoadsCurrent addr) e row takes shares = shares
    by_step (ChangesValue addr old) e row takes shares = shares
    by_step LoadsAnswer e row takes shares = shares
    by_step (TakesExclusive old) e row takes shares = shares
    by_step LoadsOld e row takes shares = shares
    by_step (Appends reply) e row takes shares = shares
    by_step (LoadsTail waiting) e row takes shares = shares
    by_step (LoadsTaken waiting) e row takes shares = shares
    by_step (DropsShared told) e row takes shares = shares

-- ---- as a try begins
wants_so : (prepare read shared : Bool) → (prepare && not read && not shared) ≡ true → (prepare ≡ true) × (shared ≡ false)
wants_so true false false e = (refl, refl)
wants_so true false true e = cc
wants_so true true shared e = cc
wants_so false read shared e = cc

pub try_begins_apart : (home : ℕ → ℕ) (log : Log) (p : Places) (bits : ℕ) (request : Request) (seen : Seen) (occasion : Occasion) (spare : ℕ) → (request.has_latch ≡ true → NoneIsLater home log request)
    → TryApart home log (try_begun p bits request seen occasion spare)
try_begins_apart home log p bits request seen occasion spare none = by_test (wants_shared its) refl
  where
    its : TryState
    its = new_try bits request seen occasion spare

    by_test : (b : Bool) → wants_shared its ≡ b → TryApart home log (if b then with_latch p its TakeShared TakesShared else walks p its)
    by_test true e =
        let so = wants_so (is_prepare seen.phase) (is_read request.op) request.has_latch e in
        record { latch = (so.0, so.1, so.1); shares = λ has. tt; copies = tt }
    by_test false e = walks_apart home log p its (λ has. inl (none has))

-- and asks for something
pub begun_asks : (p : Places) (bits : ℕ) (request : Request) (seen : Seen) (occasion : Occasion) (spare : ℕ) → is_done (try_ask p (try_begun p bits request seen occasion spare)) ≡ false
unfolding trying_ask passed latch_ask walking_ask find_step_ask
begun_asks p bits request seen occasion spare = by_test (wants_shared its)
  where
    its : TryState
    its = new_try bits request seen occasion spare

    by_test : (b : Bool) → is_done (try_ask p (if b then with_latch p its TakeShared TakesShared else walks p its)) ≡ false
    by_test true = refl
    by_test false = refl
