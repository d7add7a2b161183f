-- The words that a try writes beside its records' are none of the guard's: they are latches, links and entries of the index.
use Rattle.std.proofs.Common.{◌≡◌, ℕ, ◌<◌, ◌∙◌, refl, sym, ap, subst, Bool, true, false}
use Rattle.std.specs.Prelude.{if◌then◌else◌, ◌==◌, ◌&&◌, ◌||◌, not, nat_le, ⊤, Option, Some, None}
use Rattle.fkv_base.specs.declared.numbers.Addr.{Addr}
use Rattle.fkv_base.specs.declared.numbers.Version.{Version}
use Rattle.fkv_map.specs.declared.operations.Reply.{Reply}
use Rattle.fkv_map.specs.Map.{absent_word}
use Rattle.fkv_map.specs.Keys.{key_of, reply_from}
use Rattle.fkv_words.specs.declared.phase_words.PhaseSaid.{PhaseSaid}
use Rattle.fkv_words.specs.PhaseWords.{phase_said}
use Rattle.fkv_plane.specs.declared.asks.Ask.{Ask}
use Rattle.fkv_plane.specs.declared.asks.Ask.TheVariants.{Done}
use Rattle.fkv_plane.specs.declared.places.Places.{Places}
use Rattle.fkv_plane.specs.Passing.{passed}
use Rattle.fkv_flush.specs.GuardWorld.{is_guarded}
use Rattle.fkv_index.specs.declared.finding.Linking.TheVariants.{Never}
use Rattle.fkv_index.specs.Finding.{linking_for}
use Rattle.fkv_index.specs.Slots.{home_of}
use Rattle.fkv_map.specs.declared.operations.Op.{Op}
use Rattle.fkv_latch.specs.declared.latching.LatchAnswer.{LatchAnswer}
use Rattle.fkv_latch.specs.declared.latching.LatchAnswer.TheVariants.{Taken}
use Rattle.fkv_latch.specs.declared.latching.LatchTask.TheVariants.{TakeShared, DropShared, TakeExclusive, DropExclusive}
use Rattle.fkv_latch.specs.Latching.{latch_next_ask}
use Rattle.fkv_log.specs.declared.regions.Region.{Region}
use Rattle.fkv_log.specs.Regions.{seen_region_of}
use Rattle.fkv_ops.specs.declared.answers.Reason.TheVariants as reason
use Rattle.fkv_ops.specs.declared.answers.TryAnswer.{TryAnswer}
use Rattle.fkv_ops.specs.declared.answers.TryAnswer.TheVariants as answer
use Rattle.fkv_ops.specs.declared.appending.AppendAnswer.{AppendAnswer}
use Rattle.fkv_ops.specs.declared.appending.AppendAnswer.TheVariants as append
use Rattle.fkv_ops.specs.declared.requests.HeldRecord.{HeldRecord}
use Rattle.fkv_ops.specs.declared.requests.Occasion.{Occasion}
use Rattle.fkv_ops.specs.declared.requests.Request.{Request}
use Rattle.fkv_ops.specs.declared.requests.Seen.{Seen}
use Rattle.fkv_ops.specs.declared.trying.OldValue.{OldValue}
use Rattle.fkv_ops.specs.declared.trying.OldValue.TheVariants.{InMemory, Known}
use Rattle.fkv_ops.specs.declared.trying.Trying.{Trying}
use Rattle.fkv_ops.specs.declared.trying.Trying.TheVariants.{Ended, TakesShared, LoadsPhase, Walks, CountsTaken, LoadsSafe, SwapsValue, LoadsCurrent, ChangesValue, LoadsAnswer, TakesExclusive, LoadsOld, Appends, LoadsTail, LoadsTaken, DropsExclusive, DropsShared}
use Rattle.fkv_ops.specs.declared.walking.WalkAnswer.{WalkAnswer}
use Rattle.fkv_ops.specs.declared.walking.WalkAnswer.TheVariants as walk
use Rattle.fkv_ops.specs.Values.{value_of}
use Rattle.fkv_ops.specs.Requests.{purpose_at, update_within, is_read, is_blind, is_chain_end}
use Rattle.fkv_ops.specs.Walking.{WalkState, walk_ask, walk_next, walk_on}
use Rattle.fkv_ops.specs.Appending.{append_ask, append_next}
use Rattle.fkv_ops.specs.Trying.{TryState, trying_ask, with_latch, is_wait, ended_without, ends_so, ends, is_bounded, ends_by, tail_loaded, taken_loaded, must_count, count_loaded, takes_effect, walks, wants_shared, try_begun, shared_ledto, must_shift, wants_exclusive, slot_of, words_of, appends, copies_from, copies, awaits, held_used, met_nowhere, met_disk, changes, is_own_version, region_met, met_record, walked, has_walked, walk_ledto, safe_loaded, current_ledto, value_changed, told_value, answer_ledto, exclusive_ledto, old_ledto, append_ledto, exclusive_dropped, shared_dropped, latch_moved, trying_next, try_next, new_try, is_next_marked, is_still_in, phase_loaded, is_surely_own}
use Rattle.law_world.specs.GuardSessions.Steps.{IsOuter}
use Rattle.law_world.specs.GuardSessions.Tries.{TryWritesOuter}
use Rattle.law_world.proofs.OfGuardSessions.OuterAsks.{passed_is_outer, IsLatchOuter, latch_outer, latch_next_outer, latch_first_outer}
use Rattle.law_world.proofs.OfGuardSessions.WalksOuter.{IsWalkOuter, AnswerOuter, WalkTells, walk_outer, walk_tells, walk_next_outer, walk_on_outer, walk_begun_outer}
use Rattle.law_world.proofs.OfGuardSessions.AppendsOuter.{IsAppendOuter, append_owes, append_next_outer, append_begun_outer}
use Rattle.fkv_ops.specs.Bounds.{bounds_at, tail_bound, is_past_taken, is_past_tail}
use Rattle.fkv_ops.specs.Waiting.{told_of, waiting_of}
use Rattle.fkv_ops.specs.declared.answers.Waiting.{Waiting}
use Rattle.fkv_ops.specs.declared.bounds.Bounds.{Bounds}

-- a walk of an update is behind it, and has its slot
pub record HasWalked (p : Places) (w : WalkState) : Type 0 where
  pub place : is_guarded p w.place ≡ false
  pub walk : IsWalkOuter p false w

-- by its step: its latch, its walk, or its append
abbrev pub TryRow : Places → TryState → Trying → Type 0
TryRow p t (Ended its) = ⊤
TryRow p t TakesShared = IsLatchOuter p t.latching
TryRow p t LoadsPhase = ⊤
TryRow p t Walks = IsWalkOuter p (is_read t.request.op) t.walk
TryRow p t CountsTaken = HasWalked p t.walk
TryRow p t (LoadsSafe addr version) = HasWalked p t.walk
TryRow p t (SwapsValue addr) = ⊤
TryRow p t (LoadsCurrent addr) = IsWalkOuter p false t.walk
TryRow p t (ChangesValue addr old) = ⊤
TryRow p t LoadsAnswer = IsWalkOuter p (is_read t.request.op) t.walk
TryRow p t (TakesExclusive old) = IsLatchOuter p t.latching × HasWalked p t.walk
TryRow p t LoadsOld = IsWalkOuter p false t.walk
TryRow p t (Appends its) = IsAppendOuter p t.append
TryRow p t (LoadsTail waiting) = ⊤
TryRow p t (LoadsTaken waiting) = ⊤
TryRow p t (DropsExclusive its) = IsLatchOuter p t.latching
TryRow p t (DropsShared its) = IsLatchOuter p t.latching

-- and its bucket is one of the index
pub record IsTryOuter (p : Places) (t : TryState) : Type 0 where
  pub low : t.home.bucket < p.buckets
  pub row : TryRow p t t.step

-- what a try owes, as its ask is passed on
twice_outer : {A B C : Type 0} (p : Places) (ask : Ask A) (x : B) (y : C) → IsOuter p ask → IsOuter p (passed (passed ask x) y)
twice_outer p ask x y outer = passed_is_outer p (passed ask x) y (passed_is_outer p ask x outer)

pub try_owes : {A B : Type 0} (p : Places) (t : TryState) (step : Trying) (x : A) (y : B) → TryRow p t step → TryWritesOuter p t step (passed (passed (trying_ask p t step) x) y)
unfolding trying_ask passed
try_owes p t (Ended its) x y row = tt
try_owes p t TakesShared x y row = twice_outer p _ x y (passed_is_outer p _ answer.Shift (latch_outer p t.latching row))
try_owes p t LoadsPhase x y row = tt
try_owes p t Walks x y row = twice_outer p _ x y (passed_is_outer p _ answer.Shift (walk_outer p (is_read t.request.op) t.walk row))
try_owes p t CountsTaken x y row = tt
try_owes p t (LoadsSafe addr version) x y row = tt
try_owes p t (SwapsValue addr) x y row = tt
try_owes p t (LoadsCurrent addr) x y row = twice_outer p _ x y (passed_is_outer p _ answer.Shift (walk_outer p false t.walk row))
try_owes p t (ChangesValue addr old) x y row = tt
try_owes p t LoadsAnswer x y row = twice_outer p _ x y (passed_is_outer p _ answer.Shift (walk_outer p (is_read t.request.op) t.walk row))
try_owes p t (TakesExclusive old) x y row = twice_outer p _ x y (passed_is_outer p _ answer.Shift (latch_outer p t.latching row.0))
try_owes p t LoadsOld x y row = twice_outer p _ x y (passed_is_outer p _ answer.Shift (walk_outer p false t.walk row))
try_owes p t (Appends its) x y row = append_owes p t.append t.append.step answer.Shift x y row.publishes
try_owes p t (LoadsTail waiting) x y row = tt
try_owes p t (LoadsTaken waiting) x y row = tt
try_owes p t (DropsExclusive its) x y row = twice_outer p _ x y (passed_is_outer p _ its (latch_outer p t.latching row))
try_owes p t (DropsShared its) x y row = twice_outer p _ x y (passed_is_outer p _ its (latch_outer p t.latching row))

-- where a reply leads
either_outer : (c : Bool) (p : Places) (a b : TryState) → IsTryOuter p a → IsTryOuter p b → IsTryOuter p (if c then a else b)
either_outer true p a b one other = one
either_outer false p a b one other = other

stays_outer : (p : Places) (t : TryState) (step : Trying) → t.step ≡ step → t.home.bucket < p.buckets → TryRow p t step → IsTryOuter p t
stays_outer p t step at low row = record { low = low; row = subst (λ x. TryRow p t x) (sym at) row }

without_outer : (p : Places) (t : TryState) (its : TryAnswer) → t.home.bucket < p.buckets → IsTryOuter p (ended_without p t its)
without_outer p t its low =
    either_outer (t.has_shared && not (is_wait its)) p (with_latch p (record t { has_shared = false }) DropShared (DropsShared its)) (record t { step = Ended its })
    (record { low = low; row = latch_first_outer p DropShared t.home.bucket low }) (record { low = low; row = tt })

ends_so_outer : (p : Places) (t : TryState) (its : TryAnswer) → t.home.bucket < p.buckets → IsTryOuter p (ends_so p t its)
unfolding ends_so
ends_so_outer p t its low =
    either_outer t.has_exclusive p (with_latch p (record t { has_exclusive = false }) DropExclusive (DropsExclusive its)) (ended_without p t its)
    (record { low = low; row = latch_first_outer p DropExclusive t.home.bucket low }) (without_outer p t its low)

ends_by_outer : (p : Places) (t : TryState) (its : TryAnswer) (waiting : Option Waiting) → t.home.bucket < p.buckets → IsTryOuter p (ends_by p t its waiting)
ends_by_outer p t its None low = ends_so_outer p t its low
ends_by_outer p t its (Some waiting) low = either_outer (is_bounded t) p (record t { step = LoadsTail waiting }) (ends_so p t its) (record { low = low; row = tt }) (ends_so_outer p t its low)

ends_outer : (p : Places) (t : TryState) (its : TryAnswer) → t.home.bucket < p.buckets → IsTryOuter p (ends p t its)
unfolding ends
ends_outer p t its low = ends_by_outer p t its (waiting_of its) low

tail_outer : (p : Places) (t : TryState) (waiting : Waiting) (tail : ℕ) → t.home.bucket < p.buckets → IsTryOuter p (tail_loaded p t waiting tail)
unfolding tail_loaded
tail_outer p t waiting tail low =
    either_outer (is_past_tail (bounds_at t.occasion) tail) p (ends_so p t answer.LogFull) _ (ends_so_outer p t answer.LogFull low)
    (either_outer (t.walk.entry == 0) p (record t { step = LoadsTaken waiting }) (ends_so p t (told_of waiting)) (record { low = low; row = tt }) (ends_so_outer p t (told_of waiting) low))

taken_outer : (p : Places) (t : TryState) (waiting : Waiting) (taken : ℕ) → t.home.bucket < p.buckets → IsTryOuter p (taken_loaded p t waiting taken)
unfolding taken_loaded
taken_outer p t waiting taken low = either_outer (is_past_taken (bounds_at t.occasion) taken) p (ends_so p t answer.IndexFull) (ends_so p t (told_of waiting)) (ends_so_outer p t answer.IndexFull low) (ends_so_outer p t (told_of waiting) low)

-- the search of an update may link
may_within : (bounds : Option Bounds) → linking_for (update_within bounds) ≡ Never → ⊥
may_within None never = cc
may_within (Some bounds) never = cc

may_link : (occasion : Occasion) (its : Op) → is_read its ≡ false → linking_for (purpose_at occasion its) ≡ Never → ⊥
may_link occasion its e never =
    let same : purpose_at occasion its ≡ update_within (bounds_at occasion) = rw e refl in
    may_within (bounds_at occasion) (sym (ap linking_for same) ∙ never)

walks_outer : (p : Places) (t : TryState) → t.home.bucket < p.buckets → IsTryOuter p (walks p t)
walks_outer p t low = record { low = low; row = walk_begun_outer p (is_read t.request.op) t.home (key_of t.request.op) (purpose_at t.occasion t.request.op) t.seen.offsets.head t.spare low (may_link t.occasion t.request.op) }

appends_outer : (p : Places) (t : TryState) (old : ℕ) → t.home.bucket < p.buckets → is_guarded p t.walk.place ≡ false → IsTryOuter p (appends t old)
unfolding appends
appends_outer p t old low place = record { low = low; row = append_begun_outer p (slot_of t) (words_of t.request t.walk.entry (value_of old)) (tail_bound (bounds_at t.occasion)) place }

copies_from_outer : (p : Places) (t : TryState) (old : OldValue) → t.home.bucket < p.buckets → HasWalked p t.walk → IsTryOuter p (copies_from t old)
unfolding copies_from
copies_from_outer p t (Known old) low its = appends_outer p t old low its.place
copies_from_outer p t InMemory low its =
    either_outer (is_blind t.request.op) p (appends t absent_word) (record t { walk = walk_on t.walk; step = LoadsOld }) (appends_outer p t absent_word low its.place) (record { low = low; row = walk_on_outer p false t.walk its.walk })

copies_outer : (p : Places) (t : TryState) (old : OldValue) (is_current : Bool) → t.home.bucket < p.buckets → HasWalked p t.walk → IsTryOuter p (copies p t old is_current)
unfolding copies
copies_outer p t old is_current low its =
    either_outer (wants_exclusive t is_current) p (with_latch p t TakeExclusive (TakesExclusive old)) (copies_from t old)
    (record { low = low; row = (latch_first_outer p TakeExclusive t.home.bucket low, its) }) (copies_from_outer p t old low its)

held_outer : (p : Places) (t : TryState) (addr : Addr) (held : Option HeldRecord) → t.home.bucket < p.buckets → HasWalked p t.walk → IsTryOuter p (held_used p t addr held)
unfolding held_used
held_outer p t addr None low its = ends_outer p t _ low
held_outer p t addr (Some held) low its =
    either_outer (held.entry == t.walk.entry) p _ (awaits p t addr)
    (either_outer (held.key.0 == (key_of t.request.op).0) p (copies p t (Known held.value) false) _ (copies_outer p t (Known held.value) false low its)
    (either_outer (is_chain_end t.request.floor held.previous) p (copies p t (Known absent_word) false) (awaits p t held.previous) (copies_outer p t (Known absent_word) false low its) (ends_outer p t _ low)))
    (ends_outer p t _ low)

-- a walk that has come to its end: a read's, or an update's, which has its slot
record HasCome (p : Places) (t : TryState) : Type 0 where
  low : t.home.bucket < p.buckets
  walk : IsWalkOuter p (is_read t.request.op) t.walk
  place : is_read t.request.op ≡ false → is_guarded p t.walk.place ≡ false

update_walked : (p : Places) (t : TryState) → HasCome p t → is_read t.request.op ≡ false → HasWalked p t.walk
update_walked p t its e = record { place = its.place e; walk = subst (λ reads. IsWalkOuter p reads t.walk) e its.walk }

-- what a read does, or else an update
by_kind : (p : Places) (t a b : TryState) → HasCome p t → IsTryOuter p a → (HasWalked p t.walk → IsTryOuter p b) → IsTryOuter p (if is_read t.request.op then a else b)
by_kind p t a b its one other = by_test (is_read t.request.op) refl
  where
    by_test : (reads : Bool) → is_read t.request.op ≡ reads → IsTryOuter p (if reads then a else b)
    by_test true e = one
    by_test false e = other (update_walked p t its e)

nowhere_outer : (p : Places) (t : TryState) → HasCome p t → IsTryOuter p (met_nowhere p t)
nowhere_outer p t its =
    by_kind p t (ends p t answer.Absent) _ its (ends_outer p t answer.Absent its.low)
    (λ walked. either_outer (must_count p t) p (record t { step = CountsTaken }) (copies p t (Known absent_word) false) (record { low = its.low; row = walked }) (copies_outer p t (Known absent_word) false its.low walked))

count_outer : (p : Places) (t : TryState) (taken : ℕ) → t.home.bucket < p.buckets → HasWalked p t.walk → IsTryOuter p (count_loaded p t taken)
unfolding count_loaded
count_outer p t taken low its = either_outer (is_past_taken (bounds_at t.occasion) taken) p (ends p t answer.IndexFull) (copies p t (Known absent_word) false) (ends_outer p t answer.IndexFull low) (copies_outer p t (Known absent_word) false low its)

disk_outer : (p : Places) (t : TryState) (addr : Addr) → HasCome p t → IsTryOuter p (met_disk p t addr)
disk_outer p t addr its =
    by_kind p t _ _ its
    (either_outer (is_chain_end t.request.floor addr) p (ends p t answer.Absent) (awaits p t addr) (ends_outer p t _ its.low) (ends_outer p t _ its.low))
    (λ walked. either_outer (is_blind t.request.op || is_chain_end t.request.floor addr) p (copies p t (Known absent_word) false) (held_used p t addr t.request.held)
    (copies_outer p t (Known absent_word) false its.low walked) (held_outer p t addr t.request.held its.low walked))

changes_outer : (p : Places) (t : TryState) (addr : Addr) → t.home.bucket < p.buckets → HasWalked p t.walk → IsTryOuter p (changes t addr)
changes_outer p t addr low its = either_outer (is_blind t.request.op) p (record t { step = SwapsValue addr }) (record t { walk = walk_on t.walk; step = LoadsCurrent addr }) (record { low = low; row = tt }) (record { low = low; row = walk_on_outer p false t.walk its.walk })

region_outer : (p : Places) (t : TryState) (addr : Addr) (version : Version) (found : Option Region) → t.home.bucket < p.buckets → HasWalked p t.walk → IsTryOuter p (region_met p t addr version found)
region_outer p t addr version None low its = record { low = low; row = its }
region_outer p t addr version (Some there) low its = either_outer (is_own_version t version) p (changes t addr) (copies p t InMemory false) (changes_outer p t addr low its) (copies_outer p t InMemory false low its)

met_outer : (p : Places) (t : TryState) (addr : Addr) (version : Version) → HasCome p t → IsTryOuter p (met_record p t addr version)
met_outer p t addr version its =
    by_kind p t (record t { walk = walk_on t.walk; step = LoadsAnswer }) (region_met p t addr version (seen_region_of addr.0 t.seen.offsets)) its
    (record { low = its.low; row = walk_on_outer p (is_read t.request.op) t.walk its.walk }) (λ walked. region_outer p t addr version (seen_region_of addr.0 t.seen.offsets) its.low walked)

walked_outer : (p : Places) (t : TryState) (its : WalkAnswer) → t.home.bucket < p.buckets → IsWalkOuter p (is_read t.request.op) t.walk → AnswerOuter p (is_read t.request.op) t.walk its → IsTryOuter p (walked p t its)
walked_outer p t (walk.Found addr version) low row tells = met_outer p t addr version (record { low = low; walk = row; place = tells })
walked_outer p t walk.Nowhere low row tells = nowhere_outer p t (record { low = low; walk = row; place = tells })
walked_outer p t (walk.OnDisk addr) low row tells = disk_outer p t addr (record { low = low; walk = row; place = tells })
walked_outer p t (walk.Value value) low row tells = ends_outer p t _ low
walked_outer p t walk.Full low row tells = ends_outer p t _ low
walked_outer p t walk.Kept low row tells = ends_outer p t _ low
walked_outer p t walk.Contended low row tells = ends_outer p t _ low

walk_ledto_outer : (p : Places) (t : TryState) (ask : Ask WalkAnswer) → t.step ≡ Walks → t.home.bucket < p.buckets → IsWalkOuter p (is_read t.request.op) t.walk → WalkTells p (is_read t.request.op) t.walk ask → IsTryOuter p (walk_ledto p t ask)
unfolding walk_ledto
walk_ledto_outer p t (Done its) at low row tells =
    let after : TryState = record t { spare = t.walk.spare } in
    either_outer (has_walked its && must_shift after) p (ends p after answer.Shift) (walked p after its) (ends_outer p after answer.Shift low) (walked_outer p after its low row tells)
walk_ledto_outer p t ask at low row tells = stays_outer p t Walks at low row

safe_outer : (p : Places) (t : TryState) (addr : Addr) (version : Version) (safe : ℕ) → t.home.bucket < p.buckets → HasWalked p t.walk → IsTryOuter p (safe_loaded p t addr version safe)
safe_outer p t addr version safe low its =
    either_outer (nat_le safe addr.0) p (ends p t (answer.Wait reason.Fuzzy)) (copies p t InMemory (is_surely_own t version)) (ends_outer p t _ low) (copies_outer p t InMemory (is_surely_own t version) low its)

current_outer : (p : Places) (t : TryState) (addr : Addr) (ask : Ask WalkAnswer) → t.step ≡ LoadsCurrent addr → t.home.bucket < p.buckets → IsWalkOuter p false t.walk → IsTryOuter p (current_ledto p t addr ask)
unfolding current_ledto
current_outer p t addr (Done (walk.Value old)) at low row = record { low = low; row = tt }
current_outer p t addr (Done its) at low row = ends_outer p t _ low
current_outer p t addr ask at low row = stays_outer p t (LoadsCurrent addr) at low row

value_outer : (p : Places) (t : TryState) (old found : ℕ) → t.home.bucket < p.buckets → IsTryOuter p (value_changed p t old found)
value_outer p t old found low =
    either_outer (found == old) p (takes_effect p t (reply_from (value_of old) t.request.op)) (ends p t (answer.Wait reason.Contended))
    (ends_outer p (record t { effect = Some (reply_from (value_of old) t.request.op) }) _ low) (ends_outer p t _ low)

answer_outer : (p : Places) (t : TryState) (ask : Ask WalkAnswer) → t.step ≡ LoadsAnswer → t.home.bucket < p.buckets → IsWalkOuter p (is_read t.request.op) t.walk → IsTryOuter p (answer_ledto p t ask)
unfolding answer_ledto
answer_outer p t (Done (walk.Value value)) at low row = ends_outer p t (told_value (value_of value)) low
answer_outer p t (Done its) at low row = ends_outer p t _ low
answer_outer p t ask at low row = stays_outer p t LoadsAnswer at low row

phase_outer : (p : Places) (t : TryState) (said : PhaseSaid) → t.home.bucket < p.buckets → IsTryOuter p (phase_loaded p t said)
unfolding phase_loaded
phase_outer p t said low = either_outer (is_still_in said t.request.version) p (walks p t) (ends p t answer.Shift) (walks_outer p t low) (ends_outer p t answer.Shift low)

shared_outer : (p : Places) (t : TryState) (ask : Ask LatchAnswer) → t.step ≡ TakesShared → t.home.bucket < p.buckets → IsLatchOuter p t.latching → IsTryOuter p (shared_ledto p t ask)
unfolding shared_ledto
shared_outer p t (Done Taken) at low row =
    either_outer (is_next_marked t.request.version) p (record t { has_shared = true; step = LoadsPhase }) (walks p (record t { has_shared = true })) (record { low = low; row = tt }) (walks_outer p (record t { has_shared = true }) low)
shared_outer p t (Done its) at low row = ends_outer p t answer.Shift low
shared_outer p t ask at low row = stays_outer p t TakesShared at low row

exclusive_outer : (p : Places) (t : TryState) (old : OldValue) (ask : Ask LatchAnswer) → t.step ≡ TakesExclusive old → t.home.bucket < p.buckets → IsLatchOuter p t.latching → HasWalked p t.walk → IsTryOuter p (exclusive_ledto p t old ask)
unfolding exclusive_ledto
exclusive_outer p t old (Done Taken) at low row its = copies_from_outer p (record t { has_exclusive = true }) old low its
exclusive_outer p t old (Done told) at low row its = ends_outer p t _ low
exclusive_outer p t old ask at low row its = stays_outer p t (TakesExclusive old) at low (row, its)

old_outer : (p : Places) (t : TryState) (ask : Ask WalkAnswer) → t.step ≡ LoadsOld → t.home.bucket < p.buckets → IsWalkOuter p false t.walk → WalkTells p false t.walk ask → IsTryOuter p (old_ledto p t ask)
unfolding old_ledto
old_outer p t (Done (walk.Value value)) at low row tells = appends_outer p t value low (tells refl)
old_outer p t (Done its) at low row tells = ends_outer p t _ low
old_outer p t ask at low row tells = stays_outer p t LoadsOld at low row

append_ledto_outer : (p : Places) (t : TryState) (its : Reply) (ask : Ask AppendAnswer) → t.step ≡ Appends its → t.home.bucket < p.buckets → IsAppendOuter p t.append → IsTryOuter p (append_ledto p t its ask)
unfolding append_ledto
append_ledto_outer p t its (Done append.Published) at low row = ends_outer p (record t { effect = Some its }) (answer.Done its) low
append_ledto_outer p t its (Done append.Full) at low row = ends_outer p t _ low
append_ledto_outer p t its (Done append.NoRoom) at low row = ends_outer p t _ low
append_ledto_outer p t its (Done append.Contended) at low row = ends_outer p t _ low
append_ledto_outer p t its ask at low row = stays_outer p t (Appends its) at low row

dropped_outer : (p : Places) (t : TryState) (its : TryAnswer) (ask : Ask LatchAnswer) → t.step ≡ DropsExclusive its → t.home.bucket < p.buckets → IsLatchOuter p t.latching → IsTryOuter p (exclusive_dropped p t its ask)
unfolding exclusive_dropped
dropped_outer p t its (Done told) at low row = without_outer p t its low
dropped_outer p t its ask at low row = stays_outer p t (DropsExclusive its) at low row

unshared_outer : (p : Places) (t : TryState) (its : TryAnswer) (ask : Ask LatchAnswer) → t.step ≡ DropsShared its → t.home.bucket < p.buckets → IsLatchOuter p t.latching → IsTryOuter p (shared_dropped t its ask)
unfolding shared_dropped
unshared_outer p t its (Done told) at low row = record { low = low; row = tt }
unshared_outer p t its ask at low row = stays_outer p t (DropsShared its) at low row

next_outer : (p : Places) (room : ℕ) (t : TryState) (step : Trying) (reply : ℕ) → t.step ≡ step → t.home.bucket < p.buckets → TryRow p t step → IsTryOuter p (trying_next p room t step reply)
unfolding trying_next
next_outer p room t (Ended its) reply at low row = stays_outer p t (Ended its) at low tt
next_outer p room t TakesShared reply at low row = shared_outer p (latch_moved t reply) (latch_next_ask t.latching reply) at low (latch_next_outer p t.latching reply row)
next_outer p room t LoadsPhase reply at low row = phase_outer p t (phase_said reply) low
next_outer p room t Walks reply at low row =
    let after = walk_next_outer p (is_read t.request.op) t.walk reply row in
    walk_ledto_outer p (record t { walk = walk_next p t.walk reply }) (walk_ask p (walk_next p t.walk reply)) at low after (walk_tells p (is_read t.request.op) (walk_next p t.walk reply) after)
next_outer p room t CountsTaken reply at low row = count_outer p t reply low row
next_outer p room t (LoadsSafe addr version) reply at low row = safe_outer p t addr version reply low row
next_outer p room t (SwapsValue addr) reply at low row = ends_outer p (record t { effect = Some (reply_from None t.request.op) }) _ low
next_outer p room t (LoadsCurrent addr) reply at low row = current_outer p (record t { walk = walk_next p t.walk reply }) addr (walk_ask p (walk_next p t.walk reply)) at low (walk_next_outer p false t.walk reply row)
next_outer p room t (ChangesValue addr old) reply at low row = value_outer p t old reply low
next_outer p room t LoadsAnswer reply at low row = answer_outer p (record t { walk = walk_next p t.walk reply }) (walk_ask p (walk_next p t.walk reply)) at low (walk_next_outer p (is_read t.request.op) t.walk reply row)
next_outer p room t (TakesExclusive old) reply at low row = exclusive_outer p (latch_moved t reply) old (latch_next_ask t.latching reply) at low (latch_next_outer p t.latching reply row.0) row.1
next_outer p room t LoadsOld reply at low row =
    let after = walk_next_outer p false t.walk reply row in
    old_outer p (record t { walk = walk_next p t.walk reply }) (walk_ask p (walk_next p t.walk reply)) at low after (walk_tells p false (walk_next p t.walk reply) after)
next_outer p room t (Appends its) reply at low row = append_ledto_outer p (record t { append = append_next p room t.append reply }) its (append_ask p (append_next p room t.append reply)) at low (append_next_outer p room t.append reply row)
next_outer p room t (LoadsTail waiting) reply at low row = tail_outer p t waiting reply low
next_outer p room t (LoadsTaken waiting) reply at low row = taken_outer p t waiting reply low
next_outer p room t (DropsExclusive its) reply at low row = dropped_outer p (latch_moved t reply) its (latch_next_ask t.latching reply) at low (latch_next_outer p t.latching reply row)
next_outer p room t (DropsShared its) reply at low row = unshared_outer p (latch_moved t reply) its (latch_next_ask t.latching reply) at low (latch_next_outer p t.latching reply row)

-- the effect that was told is no matter
effect_outer : (p : Places) (t : TryState) (step : Trying) → TryRow p t step → TryRow p (record t { effect = None }) step
effect_outer p t (Ended its) row = tt
effect_outer p t TakesShared row = row
effect_outer p t LoadsPhase row = tt
effect_outer p t Walks row = row
effect_outer p t CountsTaken row = row
effect_outer p t (LoadsSafe addr version) row = row
effect_outer p t (SwapsValue addr) row = tt
effect_outer p t (LoadsCurrent addr) row = row
effect_outer p t (ChangesValue addr old) row = tt
effect_outer p t LoadsAnswer row = row
effect_outer p t (TakesExclusive old) row = row
effect_outer p t LoadsOld row = row
effect_outer p t (Appends its) row = row
effect_outer p t (LoadsTail waiting) row = tt
effect_outer p t (LoadsTaken waiting) row = tt
effect_outer p t (DropsExclusive its) row = row
effect_outer p t (DropsShared its) row = row

-- each reply
pub try_next_outer : (p : Places) (room : ℕ) (t : TryState) (reply : ℕ) → IsTryOuter p t → IsTryOuter p (try_next p room t reply)
try_next_outer p room t reply its = next_outer p room (record t { effect = None }) t.step reply refl its.low (effect_outer p t t.step its.row)

-- as it begins
pub try_begun_outer : (p : Places) (bits : ℕ) (request : Request) (seen : Seen) (occasion : Occasion) (spare : ℕ) → (home_of bits (key_of request.op)).bucket < p.buckets → IsTryOuter p (try_begun p bits request seen occasion spare)
try_begun_outer p bits request seen occasion spare low =
    let its : TryState = new_try bits request seen occasion spare in
    either_outer (wants_shared its) p (with_latch p its TakeShared TakesShared) (walks p its) (record { low = low; row = latch_first_outer p TakeShared (home_of bits (key_of request.op)).bucket low }) (walks_outer p its low)
