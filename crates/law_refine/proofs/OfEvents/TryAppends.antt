-- What a try appends has the mark of its request's version, and is published by a word that carries the address which it has reserved, behind the record that was found.
use Rattle.std.proofs.Common.{◌≡◌, ℕ, ◌^◌, ◌<◌, arith, refl, sym, ap, subst, Bool, true, false}
use Rattle.std.specs.Prelude.{◌==◌, ◌&&◌, not, nat_le, nat_lt, if◌then◌else◌, ⊤, Option, Some, None, ◌||◌}
use Rattle.std.proofs.lemmas.Bool.Decides.{nat_tests}
use Rattle.fkv_base.specs.declared.numbers.Addr.{Addr}
use Rattle.fkv_base.specs.declared.numbers.Version.{Version}
use Rattle.fkv_marks.specs.Marks.{mark}
use Rattle.fkv_map.specs.declared.operations.Reply.{Reply}
use Rattle.fkv_map.specs.Map.{absent_word}
use Rattle.fkv_map.specs.Keys.{key_of, reply_from}
use Rattle.fkv_words.specs.declared.phase_words.PhaseSaid.{PhaseSaid}
use Rattle.fkv_words.specs.PhaseWords.{phase_said}
use Rattle.fkv_plane.specs.declared.asks.Ask.{Ask}
use Rattle.fkv_plane.specs.declared.asks.Ask.TheVariants.{Done}
use Rattle.fkv_plane.specs.declared.places.Places.{Places}
use Rattle.law_world.specs.Below.fkv_log.RecordWords.{RecordWords}
use Rattle.law_world.specs.Below.fkv_log.Region.{Region}
use Rattle.law_world.specs.Below.fkv_log.Regions.{seen_region_of}
use Rattle.law_world.specs.Below.fkv_log.ReserveAnswer.{ReserveAnswer}
use Rattle.law_world.specs.Below.fkv_log.ReserveAnswer.TheVariants as reserve
use Rattle.law_world.specs.Below.fkv_log.Reserving.{reserve_next, reserve_next_ask}
use Rattle.law_world.specs.Below.fkv_log.Filling.{fill_begun, fill_ask, fill_next}
use Rattle.law_world.specs.Below.fkv_log.Invalidating.{invalidate_ask, invalidate_next}
use Rattle.fkv_latch.specs.declared.latching.LatchAnswer.{LatchAnswer}
use Rattle.fkv_latch.specs.declared.latching.LatchAnswer.TheVariants as latch
use Rattle.fkv_latch.specs.declared.latching.LatchTask.TheVariants.{TakeShared, DropShared, TakeExclusive, DropExclusive}
use Rattle.fkv_index.specs.IndexWorld.{new_entry}
use Rattle.fkv_index.specs.Publishing.{publish_next, publish_next_ask}
use Rattle.fkv_index.specs.Slots.{entry_addr}
use Rattle.fkv_index.specs.declared.publishing.PublishAnswer.TheVariants as publish
use Rattle.fkv_index.specs.declared.publishing.Publishing.{Publishing}
use Rattle.fkv_index.specs.declared.publishing.Publishing.TheVariants.{AtRest, SwapsEntry}
use Rattle.law_world.specs.Below.fkv_ops.Reason.TheVariants as reason
use Rattle.law_world.specs.Below.fkv_ops.TryAnswer.{TryAnswer}
use Rattle.law_world.specs.Below.fkv_ops.TryAnswer.TheVariants as answer
use Rattle.law_world.specs.Below.fkv_ops.TheAppending.{Appending}
use Rattle.law_world.specs.Below.fkv_ops.TheAppending.TheVariants as appending
use Rattle.law_world.specs.Below.fkv_ops.AppendAnswer.{AppendAnswer}
use Rattle.law_world.specs.Below.fkv_ops.AppendAnswer.TheVariants as append
use Rattle.law_world.specs.Below.fkv_ops.HeldRecord.{HeldRecord}
use Rattle.law_world.specs.Below.fkv_ops.Occasion.{Occasion}
use Rattle.law_world.specs.Below.fkv_ops.Request.{Request}
use Rattle.law_world.specs.Below.fkv_ops.Seen.{Seen}
use Rattle.law_world.specs.Below.fkv_ops.OldValue.{OldValue}
use Rattle.law_world.specs.Below.fkv_ops.OldValue.TheVariants.{InMemory, Known}
use Rattle.law_world.specs.Below.fkv_ops.TheTrying.{Trying}
use Rattle.law_world.specs.Below.fkv_ops.TheTrying.TheVariants.{Ended, TakesShared, LoadsPhase, Walks, CountsTaken, LoadsSafe, SwapsValue, LoadsCurrent, ChangesValue, LoadsAnswer, TakesExclusive, LoadsOld, Appends, LoadsTail, LoadsTaken, DropsExclusive, DropsShared}
use Rattle.law_world.specs.Below.fkv_ops.WalkAnswer.{WalkAnswer}
use Rattle.law_world.specs.Below.fkv_ops.WalkAnswer.TheVariants as walk
use Rattle.law_world.specs.Below.fkv_ops.Requests.{is_read, is_blind, is_chain_end}
use Rattle.law_world.specs.Below.fkv_ops.Values.{value_of}
use Rattle.law_world.specs.Below.fkv_ops.Walking.{walk_on}
use Rattle.law_world.specs.Below.fkv_ops.Appending.{AppendState, append_ended, append_ask, append_next, reserve_ledto, fill_ledto, publish_ledto, invalidate_ledto, appending_next}
use Rattle.law_world.specs.Below.fkv_ops.Trying.{TryState, with_latch, is_wait, ended_without, ends_so, ends_by, is_bounded, tail_loaded, taken_loaded, must_count, count_loaded, ends, takes_effect, full_at, wants_shared, walks, try_begun, shared_ledto, must_shift, wants_exclusive, appends, copies_from, copies, awaits, held_used, changes, is_own_version, region_met, walked, has_walked, walk_ledto, safe_loaded, current_ledto, value_changed, told_value, answer_ledto, exclusive_ledto, old_ledto, append_ledto, exclusive_dropped, shared_dropped, trying_next, try_next, new_try, is_next_marked, is_still_in, phase_loaded, is_surely_own}
use Rattle.law_world.specs.Below.fkv_ops.Bounds.{bounds_at, is_past_taken, is_past_tail}
use Rattle.law_world.specs.Below.fkv_ops.Waiting.{told_of, waiting_of}
use Rattle.law_world.specs.Below.fkv_ops.TheWaiting.{Waiting}

-- ---- an append
-- by its control state: the address fits an entry, and the publish swaps in a word with it
abbrev pub HoldsAt : AppendState → Appending → Type 0
HoldsAt a (appending.Fills addr) = addr.0 < 2 ^ 48
HoldsAt a (appending.Publishes addr) = (addr.0 < 2 ^ 48) × (a.publishing ≡ SwapsEntry a.slot.place a.slot.entry (new_entry addr.0 a.slot.tag))
HoldsAt a step = ⊤

-- its words have the mark of this request's version, and its key, and the record before is the one that the word of the entry names which was found
pub record WordsAre (request : Request) (its_words : RecordWords) (entry : ℕ) : Type 0 where
  pub its_mark : its_words.header.version.0 ≡ mark request.version.0
  pub its_key : its_words.key ≡ key_of request.op
  pub previous : its_words.header.previous.0 ≡ entry_addr entry

pub record IsAppendOf (request : Request) (a : AppendState) : Type 0 where
  pub same : WordsAre request a.its_words a.slot.entry
  pub holds : HoldsAt a a.step

still : (request : Request) (a : AppendState) (step : Appending) → a.step ≡ step → WordsAre request a.its_words a.slot.entry → HoldsAt a step → IsAppendOf request a
still request a step at same its = record { same = same; holds = subst (HoldsAt a) (sym at) its }

both_second : (b c : Bool) → (b && c) ≡ true → c ≡ true
both_second true c e = e
both_second false c e = cc

reserved_of : (request : Request) (a : AppendState) (ask : Ask ReserveAnswer) → a.step ≡ appending.Reserves → WordsAre request a.its_words a.slot.entry → IsAppendOf request (reserve_ledto a ask)
unfolding reserve_ledto
reserved_of request a (Done (reserve.Reserved addr)) at same = by_test (nat_lt a.its_words.header.previous.0 addr.0 && nat_lt addr.0 (2 ^ 48)) refl
  where
    fits : (nat_lt a.its_words.header.previous.0 addr.0 && nat_lt addr.0 (2 ^ 48)) ≡ true → addr.0 < 2 ^ 48
    fits e = let less : nat_lt addr.0 (2 ^ 48) ≡ true = both_second (nat_lt a.its_words.header.previous.0 addr.0) (nat_lt addr.0 (2 ^ 48)) e in grind (arith, nat_tests, less)

    by_test : (c : Bool) → (nat_lt a.its_words.header.previous.0 addr.0 && nat_lt addr.0 (2 ^ 48)) ≡ c
        → IsAppendOf request (if c then record a { filling = fill_begun addr a.its_words; step = appending.Fills addr } else append_ended a append.Contended)
    by_test true e = record { same = same; holds = fits e }
    by_test false e = record { same = same; holds = tt }
reserved_of request a (Done reserve.Full) at same = record { same = same; holds = tt }
reserved_of request a (Done reserve.NoRoom) at same = record { same = same; holds = tt }
reserved_of request a (Done reserve.Contended) at same = record { same = same; holds = tt }
reserved_of request a ask at same = still request a appending.Reserves at same tt

filled_of : (request : Request) (a : AppendState) (addr : Addr) (ask : Ask (Unit {0})) → a.step ≡ appending.Fills addr → addr.0 < 2 ^ 48 → WordsAre request a.its_words a.slot.entry → IsAppendOf request (fill_ledto a addr ask)
unfolding fill_ledto
filled_of request a addr (Done told) at fits same = record { same = same; holds = (fits, refl) }
filled_of request a addr ask at fits same = still request a (appending.Fills addr) at same fits

published_of : (request : Request) (a : AppendState) (addr : Addr) (its : Publishing) (reply : ℕ) → WordsAre request a.its_words a.slot.entry
    → IsAppendOf request (publish_ledto (record a { publishing = publish_next its reply }) addr (publish_next_ask its reply))
unfolding publish_ledto publish_next publish_next_ask
published_of request a addr AtRest reply same = record { same = same; holds = tt }
published_of request a addr (SwapsEntry place word entry) reply same = by_test (reply == word)
  where
    by_test : (c : Bool) → IsAppendOf request (publish_ledto (record a { publishing = AtRest }) addr (Done (if c then publish.Won else publish.Lost)))
    by_test true = record { same = same; holds = tt }
    by_test false = record { same = same; holds = tt }

invalidated_of : (request : Request) (a : AppendState) (ask : Ask (Unit {0})) → a.step ≡ appending.Invalidates → WordsAre request a.its_words a.slot.entry → IsAppendOf request (invalidate_ledto a ask)
unfolding invalidate_ledto
invalidated_of request a (Done told) at same = record { same = same; holds = tt }
invalidated_of request a ask at same = still request a appending.Invalidates at same tt

appending_of : (p : Places) (room : ℕ) (request : Request) (a : AppendState) (step : Appending) (reply : ℕ) → a.step ≡ step → HoldsAt a step → WordsAre request a.its_words a.slot.entry → IsAppendOf request (appending_next p room a step reply)
unfolding appending_next
appending_of p room request a (appending.Ended told) reply at holds same = still request a (appending.Ended told) at same tt
appending_of p room request a appending.Reserves reply at holds same = reserved_of request (record a { reserving = reserve_next a.reserving reply }) (reserve_next_ask room a.reserving reply) at same
appending_of p room request a (appending.Fills addr) reply at holds same = filled_of request (record a { filling = fill_next a.filling }) addr (fill_ask p (fill_next a.filling)) at holds same
appending_of p room request a (appending.Publishes addr) reply at holds same = published_of request a addr a.publishing reply same
appending_of p room request a appending.Invalidates reply at holds same = invalidated_of request (record a { invalidating = invalidate_next a.invalidating }) (invalidate_ask p (invalidate_next a.invalidating)) at same

-- ---- a try
-- by its control state: one Swap changes a value where the old one doesn't count
abbrev pub KnowsAt : Request → TryState → Trying → Type 0
KnowsAt request t (SwapsValue addr) = is_blind t.request.op ≡ true
KnowsAt request t (Appends its) = IsAppendOf request t.append
KnowsAt request t step = ⊤

pub record IsTryAt (request : Request) (t : TryState) : Type 0 where
  pub same : t.request ≡ request
  pub knows : KnowsAt request t t.step

either_at : (c : Bool) (request : Request) (a b : TryState) → IsTryAt request a → IsTryAt request b → IsTryAt request (if c then a else b)
either_at true request a b one other = one
either_at false request a b one other = other

ended_at : (p : Places) (request : Request) (t : TryState) (its : TryAnswer) → t.request ≡ request → IsTryAt request (ended_without p t its)
ended_at p request t its e =
    either_at (t.has_shared && not (is_wait its)) request (with_latch p (record t { has_shared = false }) DropShared (DropsShared its)) (record t { step = Ended its }) (record { same = e; knows = tt }) (record { same = e; knows = tt })

ends_so_at : (p : Places) (request : Request) (t : TryState) (its : TryAnswer) → t.request ≡ request → IsTryAt request (ends_so p t its)
unfolding ends_so
ends_so_at p request t its e =
    either_at t.has_exclusive request (with_latch p (record t { has_exclusive = false }) DropExclusive (DropsExclusive its)) (ended_without p t its) (record { same = e; knows = tt }) (ended_at p request t its e)

ends_by_at : (p : Places) (request : Request) (t : TryState) (its : TryAnswer) (waiting : Option Waiting) → t.request ≡ request → IsTryAt request (ends_by p t its waiting)
ends_by_at p request t its None e = ends_so_at p request t its e
ends_by_at p request t its (Some waiting) e = either_at (is_bounded t) request (record t { step = LoadsTail waiting }) (ends_so p t its) (record { same = e; knows = tt }) (ends_so_at p request t its e)

ends_at : (p : Places) (request : Request) (t : TryState) (its : TryAnswer) → t.request ≡ request → IsTryAt request (ends p t its)
unfolding ends
ends_at p request t its e = ends_by_at p request t its (waiting_of its) e

tail_at : (p : Places) (request : Request) (t : TryState) (waiting : Waiting) (tail : ℕ) → t.request ≡ request → IsTryAt request (tail_loaded p t waiting tail)
unfolding tail_loaded
tail_at p request t waiting tail e =
    either_at (is_past_tail (bounds_at t.occasion) tail) request (ends_so p t answer.LogFull) (_) (ends_so_at p request t answer.LogFull e) (either_at (t.walk.entry == 0) request (record t { step = LoadsTaken waiting }) (ends_so p t (told_of waiting)) (record { same = e; knows = tt }) (ends_so_at p request t (told_of waiting) e))

taken_at : (p : Places) (request : Request) (t : TryState) (waiting : Waiting) (taken : ℕ) → t.request ≡ request → IsTryAt request (taken_loaded p t waiting taken)
unfolding taken_loaded
taken_at p request t waiting taken e = either_at (is_past_taken (bounds_at t.occasion) taken) request (ends_so p t answer.IndexFull) (ends_so p t (told_of waiting)) (ends_so_at p request t answer.IndexFull e) (ends_so_at p request t (told_of waiting) e)

takes_at : (p : Places) (request : Request) (t : TryState) (its : Reply) → t.request ≡ request → IsTryAt request (takes_effect p t its)
takes_at p request t its e = ends_at p request (record t { effect = Some its }) (answer.Done its) e

appends_at : (request : Request) (t : TryState) (old : ℕ) → t.request ≡ request → IsTryAt request (appends t old)
unfolding appends
appends_at request t old e = record { same = e; knows = record { same = record { its_mark = ap (λ (r : Request). mark r.version.0) e; its_key = ap (λ (r : Request). key_of r.op) e; previous = refl }; holds = tt } }

from_at : (request : Request) (t : TryState) (old : OldValue) → t.request ≡ request → IsTryAt request (copies_from t old)
unfolding copies_from
from_at request t (Known old) e = appends_at request t old e
from_at request t InMemory e = either_at (is_blind t.request.op) request (appends t absent_word) (record t { walk = walk_on t.walk; step = LoadsOld }) (appends_at request t absent_word e) (record { same = e; knows = tt })

copies_at : (p : Places) (request : Request) (t : TryState) (old : OldValue) (is_current : Bool) → t.request ≡ request → IsTryAt request (copies p t old is_current)
unfolding copies
copies_at p request t old is_current e =
    either_at (wants_exclusive t is_current) request (with_latch p t TakeExclusive (TakesExclusive old)) (copies_from t old) (record { same = e; knows = tt }) (from_at request t old e)

count_at : (p : Places) (request : Request) (t : TryState) (taken : ℕ) → t.request ≡ request → IsTryAt request (count_loaded p t taken)
unfolding count_loaded
count_at p request t taken e = either_at (is_past_taken (bounds_at t.occasion) taken) request (ends p t answer.IndexFull) (copies p t (Known absent_word) false) (ends_at p request t answer.IndexFull e) (copies_at p request t (Known absent_word) false e)

held_at : (p : Places) (request : Request) (t : TryState) (addr : Addr) (held : Option HeldRecord) → t.request ≡ request → IsTryAt request (held_used p t addr held)
unfolding held_used
held_at p request t addr None e = ends_at p request t _ e
held_at p request t addr (Some held) e =
    either_at (held.entry == t.walk.entry) request _ (awaits p t addr)
    (either_at (held.key.0 == (key_of t.request.op).0) request (copies p t (Known held.value) false) _ (copies_at p request t (Known held.value) false e)
    (either_at (is_chain_end t.request.floor held.previous) request (copies p t (Known absent_word) false) (awaits p t held.previous)
    (copies_at p request t (Known absent_word) false e) (ends_at p request t _ e)))
    (ends_at p request t _ e)

changes_at : (request : Request) (t : TryState) (addr : Addr) (c : Bool) → is_blind t.request.op ≡ c → t.request ≡ request → IsTryAt request (if c then record t { step = SwapsValue addr } else record t { walk = walk_on t.walk; step = LoadsCurrent addr })
changes_at request t addr true blind e = record { same = e; knows = blind }
changes_at request t addr false blind e = record { same = e; knows = tt }

region_at : (p : Places) (request : Request) (t : TryState) (addr : Addr) (found : Version) (its : Option Region) → t.request ≡ request → IsTryAt request (region_met p t addr found its)
region_at p request t addr found None e = record { same = e; knows = tt }
region_at p request t addr found (Some its) e =
    either_at (is_own_version t found) request (changes t addr) (copies p t InMemory false)
    (changes_at request t addr (is_blind t.request.op) refl e) (copies_at p request t InMemory false e)

walked_at : (p : Places) (request : Request) (t : TryState) (its : WalkAnswer) → t.request ≡ request → IsTryAt request (walked p t its)
walked_at p request t (walk.Found addr found) e =
    either_at (is_read t.request.op) request (record t { walk = walk_on t.walk; step = LoadsAnswer }) (region_met p t addr found (seen_region_of addr.0 t.seen.offsets)) (record { same = e; knows = tt })
    (region_at p request t addr found (seen_region_of addr.0 t.seen.offsets) e)
walked_at p request t walk.Nowhere e =
    either_at (is_read t.request.op) request (ends p t answer.Absent) _ (ends_at p request t answer.Absent e)
    (either_at (must_count p t) request (record t { step = CountsTaken }) (copies p t (Known absent_word) false) (record { same = e; knows = tt }) (copies_at p request t (Known absent_word) false e))
walked_at p request t (walk.OnDisk addr) e =
    either_at (is_read t.request.op) request _ _
    (either_at (is_chain_end t.request.floor addr) request (ends p t answer.Absent) (awaits p t addr) (ends_at p request t answer.Absent e)
    (ends_at p request t _ e))
    (either_at (is_blind t.request.op || is_chain_end t.request.floor addr) request (copies p t (Known absent_word) false) (held_used p t addr t.request.held)
    (copies_at p request t (Known absent_word) false e) (held_at p request t addr t.request.held e))
walked_at p request t (walk.Value value) e = ends_at p request t (answer.Wait reason.Contended) e
walked_at p request t walk.Full e = ends_at p request t (full_at t.occasion answer.IndexFull) e
walked_at p request t walk.Kept e = ends_at p request t (full_at t.occasion answer.IndexFull) e
walked_at p request t walk.Contended e = ends_at p request t (answer.Wait reason.Contended) e

-- a state that goes on, and is no append
stays_at : (request : Request) (t : TryState) (step : Trying) → t.step ≡ step → KnowsAt request t step → t.request ≡ request → IsTryAt request t
stays_at request t step at its e = record { same = e; knows = subst (KnowsAt request t) (sym at) its }

shared_at : (p : Places) (request : Request) (t : TryState) (ask : Ask LatchAnswer) → t.step ≡ TakesShared → t.request ≡ request → IsTryAt request (shared_ledto p t ask)
unfolding shared_ledto
shared_at p request t (Done latch.Taken) at e = either_at (is_next_marked t.request.version) request (record t { has_shared = true; step = LoadsPhase }) (walks p (record t { has_shared = true })) (record { same = e; knows = tt }) (record { same = e; knows = tt })
shared_at p request t (Done told) at e = ends_at p request t answer.Shift e
shared_at p request t ask at e = stays_at request t TakesShared at tt e

phase_at : (p : Places) (request : Request) (t : TryState) (said : PhaseSaid) → t.request ≡ request → IsTryAt request (phase_loaded p t said)
unfolding phase_loaded
phase_at p request t said e = either_at (is_still_in said t.request.version) request (walks p t) (ends p t answer.Shift) (record { same = e; knows = tt }) (ends_at p request t answer.Shift e)

walk_at : (p : Places) (request : Request) (t : TryState) (ask : Ask WalkAnswer) → t.step ≡ Walks → t.request ≡ request → IsTryAt request (walk_ledto p t ask)
unfolding walk_ledto
walk_at p request t (Done told) at e =
    let after : TryState = record t { spare = t.walk.spare } in
    either_at (has_walked told && must_shift after) request (ends p after answer.Shift) (walked p after told) (ends_at p request after answer.Shift e) (walked_at p request after told e)
walk_at p request t ask at e = stays_at request t Walks at tt e

safe_at : (p : Places) (request : Request) (t : TryState) (addr : Addr) (found : Version) (safe : ℕ) → t.request ≡ request → IsTryAt request (safe_loaded p t addr found safe)
safe_at p request t addr found safe e =
    either_at (nat_le safe addr.0) request (ends p t (answer.Wait reason.Fuzzy)) (copies p t InMemory (is_surely_own t found)) (ends_at p request t (answer.Wait reason.Fuzzy) e) (copies_at p request t InMemory (is_surely_own t found) e)

current_at : (p : Places) (request : Request) (t : TryState) (addr : Addr) (ask : Ask WalkAnswer) → t.step ≡ LoadsCurrent addr → t.request ≡ request → IsTryAt request (current_ledto p t addr ask)
unfolding current_ledto
current_at p request t addr (Done (walk.Value old)) at e = record { same = e; knows = tt }
current_at p request t addr (Done told) at e = ends_at p request t (answer.Wait reason.Contended) e
current_at p request t addr ask at e = stays_at request t (LoadsCurrent addr) at tt e

changed_at : (p : Places) (request : Request) (t : TryState) (old found : ℕ) → t.request ≡ request → IsTryAt request (value_changed p t old found)
changed_at p request t old found e =
    either_at (found == old) request (takes_effect p t (reply_from (value_of old) t.request.op)) (ends p t (answer.Wait reason.Contended)) (takes_at p request t _ e) (ends_at p request t (answer.Wait reason.Contended) e)

answer_at : (p : Places) (request : Request) (t : TryState) (ask : Ask WalkAnswer) → t.step ≡ LoadsAnswer → t.request ≡ request → IsTryAt request (answer_ledto p t ask)
unfolding answer_ledto
answer_at p request t (Done (walk.Value value)) at e = ends_at p request t (told_value (value_of value)) e
answer_at p request t (Done told) at e = ends_at p request t (answer.Wait reason.Contended) e
answer_at p request t ask at e = stays_at request t LoadsAnswer at tt e

exclusive_at : (p : Places) (request : Request) (t : TryState) (old : OldValue) (ask : Ask LatchAnswer) → t.step ≡ TakesExclusive old → t.request ≡ request → IsTryAt request (exclusive_ledto p t old ask)
unfolding exclusive_ledto
exclusive_at p request t old (Done latch.Taken) at e = from_at request (record t { has_exclusive = true }) old e
exclusive_at p request t old (Done told) at e = ends_at p request t (answer.Wait reason.Latch) e
exclusive_at p request t old ask at e = stays_at request t (TakesExclusive old) at tt e

old_at : (p : Places) (request : Request) (t : TryState) (ask : Ask WalkAnswer) → t.step ≡ LoadsOld → t.request ≡ request → IsTryAt request (old_ledto p t ask)
unfolding old_ledto
old_at p request t (Done (walk.Value value)) at e = appends_at request t value e
old_at p request t (Done told) at e = ends_at p request t (answer.Wait reason.Contended) e
old_at p request t ask at e = stays_at request t LoadsOld at tt e

append_at : (p : Places) (request : Request) (t : TryState) (its : Reply) (ask : Ask AppendAnswer) → t.step ≡ Appends its → IsAppendOf request t.append → t.request ≡ request → IsTryAt request (append_ledto p t its ask)
unfolding append_ledto
append_at p request t its (Done append.Published) at so e = takes_at p request t its e
append_at p request t its (Done append.Full) at so e = ends_at p request t (full_at t.occasion answer.LogFull) e
append_at p request t its (Done append.NoRoom) at so e = ends_at p request t (answer.Wait reason.NoRoom) e
append_at p request t its (Done append.Contended) at so e = ends_at p request t (answer.Wait reason.Contended) e
append_at p request t its ask at so e = stays_at request t (Appends its) at so e

exclusive_dropped_at : (p : Places) (request : Request) (t : TryState) (end : TryAnswer) (ask : Ask LatchAnswer) → t.step ≡ DropsExclusive end → t.request ≡ request → IsTryAt request (exclusive_dropped p t end ask)
unfolding exclusive_dropped
exclusive_dropped_at p request t end (Done told) at e = ended_at p request t end e
exclusive_dropped_at p request t end ask at e = stays_at request t (DropsExclusive end) at tt e

shared_dropped_at : (request : Request) (t : TryState) (end : TryAnswer) (ask : Ask LatchAnswer) → t.step ≡ DropsShared end → t.request ≡ request → IsTryAt request (shared_dropped t end ask)
unfolding shared_dropped
shared_dropped_at request t end (Done told) at e = record { same = e; knows = tt }
shared_dropped_at request t end ask at e = stays_at request t (DropsShared end) at tt e

-- each reply to it
step_at : (p : Places) (room : ℕ) (request : Request) (t : TryState) (step : Trying) (reply : ℕ) → t.step ≡ step → KnowsAt request t step → t.request ≡ request → IsTryAt request (trying_next p room t step reply)
unfolding trying_next
step_at p room request t (Ended end) reply at so e = stays_at request t (Ended end) at tt e
step_at p room request t TakesShared reply at so e = shared_at p request _ _ at e
step_at p room request t LoadsPhase reply at so e = phase_at p request t (phase_said reply) e
step_at p room request t Walks reply at so e = walk_at p request _ _ at e
step_at p room request t CountsTaken reply at so e = count_at p request t reply e
step_at p room request t (LoadsSafe addr found) reply at so e = safe_at p request t addr found reply e
step_at p room request t (SwapsValue addr) reply at so e = takes_at p request t _ e
step_at p room request t (LoadsCurrent addr) reply at so e = current_at p request _ addr _ at e
step_at p room request t (ChangesValue addr old) reply at so e = changed_at p request t old reply e
step_at p room request t LoadsAnswer reply at so e = answer_at p request _ _ at e
step_at p room request t (TakesExclusive old) reply at so e = exclusive_at p request _ old _ at e
step_at p room request t LoadsOld reply at so e = old_at p request _ _ at e
step_at p room request t (Appends its) reply at so e =
    append_at p request (record t { append = append_next p room t.append reply }) its (append_ask p (append_next p room t.append reply)) at (appending_of p room request t.append t.append.step reply refl so.holds so.same) e
step_at p room request t (LoadsTail waiting) reply at so e = tail_at p request t waiting reply e
step_at p room request t (LoadsTaken waiting) reply at so e = taken_at p request t waiting reply e
step_at p room request t (DropsExclusive end) reply at so e = exclusive_dropped_at p request _ end _ at e
step_at p room request t (DropsShared end) reply at so e = shared_dropped_at request _ end _ at e

pub try_at : (p : Places) (room : ℕ) (request : Request) (t : TryState) (reply : ℕ) → IsTryAt request t → IsTryAt request (try_next p room t reply)
try_at p room request t reply its = step_at p room request (record t { effect = None }) t.step reply refl (quietened t.step its.knows) its.same
  where
    quietened : (step : Trying) → KnowsAt request t step → KnowsAt request (record t { effect = None }) step
    quietened (Appends made) so = so
    quietened (SwapsValue addr) so = so
    quietened step so = tt

pub begun_at : (p : Places) (bits : ℕ) (request : Request) (seen : Seen) (occasion : Occasion) (spare : ℕ) → IsTryAt request (try_begun p bits request seen occasion spare)
begun_at p bits request seen occasion spare =
    let its : TryState = new_try bits request seen occasion spare in
    either_at (wants_shared its) request (with_latch p its TakeShared TakesShared) (walks p its) (record { same = refl; knows = tt }) (record { same = refl; knows = tt })
