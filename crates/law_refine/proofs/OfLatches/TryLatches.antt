-- How one reply to a try moves its machine for latches, and what the try holds alone then.
use Rattle.std.proofs.Common.{◌≡◌, ℕ, ◌<◌, ◌∙◌, refl, sym, ap, subst, List, [], ◌∷◌, Bool, true, false, arith}
use Rattle.std.specs.Prelude.{if◌then◌else◌, ◌==◌, ◌&&◌, not, nat_le, ⊤, Option, Some, None, ◌||◌}
use Rattle.std.proofs.lemmas.Bool.Decides.{nat_tests}
use Rattle.fkv_base.specs.declared.numbers.Addr.{Addr}
use Rattle.fkv_base.specs.declared.numbers.Version.{Version}
use Rattle.fkv_map.specs.declared.operations.Reply.{Reply}
use Rattle.fkv_map.specs.Map.{absent_word}
use Rattle.fkv_map.specs.Keys.{key_of, reply_from}
use Rattle.fkv_words.specs.declared.phase_words.PhaseSaid.{PhaseSaid}
use Rattle.fkv_words.specs.PhaseWords.{phase_said}
use Rattle.fkv_plane.specs.declared.asks.Ask.{Ask}
use Rattle.fkv_plane.specs.declared.asks.Ask.TheVariants.{Done}
use Rattle.fkv_plane.specs.declared.places.Places.{Places}
use Rattle.law_world.specs.Below.fkv_log.Region.{Region}
use Rattle.law_world.specs.Below.fkv_log.Regions.{seen_region_of}
use Rattle.fkv_latch.specs.declared.latching.LatchAnswer.{LatchAnswer}
use Rattle.fkv_latch.specs.declared.latching.LatchAnswer.TheVariants.{Taken, Busy}
use Rattle.fkv_latch.specs.declared.latching.LatchTask.{LatchTask}
use Rattle.fkv_latch.specs.declared.latching.LatchTask.TheVariants.{TakeShared, DropShared, TakeExclusive, DropExclusive}
use Rattle.fkv_latch.specs.declared.latching.Latching.{Latching}
use Rattle.fkv_latch.specs.declared.latching.Latching.TheVariants as latching
use Rattle.fkv_latch.specs.Latching.{latch_first, latch_ask, latch_next, latch_next_ask, is_exclusive, is_free}
use Rattle.fkv_latch.specs.LatchWorld.{times, without}
use Rattle.law_world.specs.Below.fkv_ops.Reason.TheVariants as reason
use Rattle.law_world.specs.Below.fkv_ops.TryAnswer.{TryAnswer}
use Rattle.law_world.specs.Below.fkv_ops.TryAnswer.TheVariants as answer
use Rattle.law_world.specs.Below.fkv_ops.AppendAnswer.{AppendAnswer}
use Rattle.law_world.specs.Below.fkv_ops.AppendAnswer.TheVariants as append
use Rattle.law_world.specs.Below.fkv_ops.HeldRecord.{HeldRecord}
use Rattle.law_world.specs.Below.fkv_ops.Occasion.{Occasion}
use Rattle.law_world.specs.Below.fkv_ops.Request.{Request}
use Rattle.law_world.specs.Below.fkv_ops.Seen.{Seen}
use Rattle.law_world.specs.Below.fkv_ops.OldValue.{OldValue}
use Rattle.law_world.specs.Below.fkv_ops.OldValue.TheVariants.{InMemory, Known}
use Rattle.law_world.specs.Below.fkv_ops.TheTrying.{Trying}
use Rattle.law_world.specs.Below.fkv_ops.TheTrying.TheVariants.{Ended, TakesShared, LoadsPhase, Walks, CountsTaken, LoadsSafe, SwapsValue, LoadsCurrent, ChangesValue, LoadsAnswer, TakesExclusive, LoadsOld, Appends, LoadsTail, LoadsTaken, DropsExclusive, DropsShared}
use Rattle.law_world.specs.Below.fkv_ops.WalkAnswer.{WalkAnswer}
use Rattle.law_world.specs.Below.fkv_ops.WalkAnswer.TheVariants as walk
use Rattle.law_world.specs.Below.fkv_ops.Values.{value_of}
use Rattle.law_world.specs.Below.fkv_ops.Requests.{is_read, is_blind, is_chain_end}
use Rattle.law_world.specs.Below.fkv_ops.Walking.{walk_ask, walk_next, walk_on}
use Rattle.law_world.specs.Below.fkv_ops.Appending.{append_ask, append_next}
use Rattle.law_world.specs.Below.fkv_ops.Trying.{TryState, with_latch, is_wait, is_prepare, ended_without, ends_so, ends_by, is_bounded, tail_loaded, taken_loaded, must_count, count_loaded, ends, takes_effect, walks, wants_shared, try_begun, shared_ledto, must_shift, wants_exclusive, appends, copies_from, copies, awaits, held_used, met_nowhere, met_disk, changes, is_own_version, region_met, met_record, walked, has_walked, walk_ledto, safe_loaded, current_ledto, value_changed, told_value, answer_ledto, exclusive_ledto, old_ledto, append_ledto, exclusive_dropped, shared_dropped, latch_moved, trying_next, try_next, new_try, is_next_marked, latch_shared, is_still_in, phase_loaded, is_surely_own}
use Rattle.fkv_index.specs.Slots.{home_of}
use Rattle.law_refine.specs.Latches.Latchers.{its_latch, try_latching, held_if, try_alone}
use Rattle.law_world.specs.Below.fkv_ops.Bounds.{bounds_at, is_past_taken, is_past_tail}
use Rattle.law_world.specs.Below.fkv_ops.Waiting.{told_of, waiting_of}
use Rattle.law_world.specs.Below.fkv_ops.TheWaiting.{Waiting}

-- who begins to drop a latch that it holds alone holds it no more
abbrev pub alone_left : LatchTask → ℕ → List ℕ → List ℕ
alone_left DropExclusive place held = without place held
alone_left task place held = held

-- and who is answered that it has taken it holds it
abbrev pub alone_given : Latching → Ask LatchAnswer → List ℕ → List ℕ
alone_given (latching.SetsExclusive place word) (Done Taken) held = place ∷ held
alone_given step ask held = held

-- no task has begun just now
abbrev pub is_first : Latching → Bool
is_first (latching.AddsShare place) = true
is_first (latching.DropsShare place) = true
is_first (latching.LoadsWord place) = true
is_first (latching.DropsExclusive place) = true
is_first step = false

-- who begins to drop a latch that it holds alone has held it
abbrev pub HasHeld : LatchTask → ℕ → List ℕ → Type 0
HasHeld DropExclusive place held = 0 < times place held
HasHeld task place held = ⊤

-- Behind a step of its machine an actor is at this step, and holds these alone: so is the session, or it has begun a task with a latch.
pub data Fits (latch : ℕ) (step : Latching) (held : List ℕ) (its : Latching) (alone : List ℕ) : Type 0 where
  Keeps : step ≡ its → held ≡ alone → is_first its ≡ false → Fits latch step held its alone
  Starts : (task : LatchTask) → step ≡ latching.AtRest → its ≡ latch_first task latch → alone_left task latch held ≡ alone → HasHeld task latch held → Fits latch step held its alone

-- how a try shares its latch, and takes it alone
pub data TakesShare (latch : ℕ) (step : Latching) : Type 0 where
  Adds : step ≡ latching.AddsShare latch → TakesShare latch step
  Gives : step ≡ latching.GivesBack latch → TakesShare latch step

pub data TakesAlone (latch : ℕ) (step : Latching) : Type 0 where
  Loads : step ≡ latching.LoadsWord latch → TakesAlone latch step
  Sets : (word : ℕ) → step ≡ latching.SetsExclusive latch word → TakesAlone latch step

abbrev pub IsNotAlone : TryState → Type 0
IsNotAlone t = t.has_exclusive ≡ false

-- at most of its steps a try holds nothing alone, and its machine works on the latch of its bucket
abbrev pub TryKnows : Places → TryState → Trying → Type 0
TryKnows p t TakesShared = IsNotAlone t × TakesShare (its_latch p t) t.latching × (t.has_shared ≡ false)
TryKnows p t (TakesExclusive old) = IsNotAlone t × TakesAlone (its_latch p t) t.latching
TryKnows p t (DropsExclusive its) = IsNotAlone t × (t.latching ≡ latching.DropsExclusive (its_latch p t))
TryKnows p t (DropsShared its) = IsNotAlone t × (t.latching ≡ latching.DropsShare (its_latch p t))
TryKnows p t LoadsOld = ⊤
TryKnows p t (Appends its) = ⊤
TryKnows p t (LoadsTail waiting) = ⊤
TryKnows p t (LoadsTaken waiting) = ⊤
TryKnows p t step = IsNotAlone t

-- its bucket is one of the index, and what it knows
pub record IsTry (p : Places) (t : TryState) : Type 0 where
  pub low : t.home.bucket < p.buckets
  pub knows : TryKnows p t t.step

-- where a step leads
pub record TryLed (p : Places) (step : Latching) (held : List ℕ) (t : TryState) : Type 0 where
  pub its : IsTry p t
  pub fits : Fits (its_latch p t) step held (try_latching t t.step) (try_alone p t t.step)

either_led : (c : Bool) (p : Places) (step : Latching) (held : List ℕ) (a b : TryState) → TryLed p step held a → TryLed p step held b → TryLed p step held (if c then a else b)
either_led true p step held a b one other = one
either_led false p step held a b one other = other

-- a machine inside goes on
stays_led : (p : Places) (t : TryState) (step : Trying) → t.step ≡ step → t.home.bucket < p.buckets → TryKnows p t step → is_first (try_latching t step) ≡ false → TryLed p (try_latching t step) (try_alone p t step) t
stays_led p t step at low knows later =
    let at' = sym at in
    record {
      its = record { low = low; knows = subst (λ x. TryKnows p t x) at' knows };
      fits = subst (λ x. Fits (its_latch p t) (try_latching t step) (try_alone p t step) (try_latching t x) (try_alone p t x)) at' (Keeps refl refl later);
    }

same_same : (a : ℕ) → (a == a) ≡ true
same_same a = grind (arith, nat_tests)

without_one : (place : ℕ) → without place (place ∷ []) ≡ []
without_one place = rw (same_same place) refl

held_one : (place : ℕ) → 0 < times place (place ∷ [])
held_one place = rw (same_same place) (omega arith)

without_led : (p : Places) (t : TryState) (its : TryAnswer) → t.home.bucket < p.buckets → IsNotAlone t → TryLed p latching.AtRest [] (ended_without p t its)
without_led p t its low alone =
    either_led (t.has_shared && not (is_wait its)) p latching.AtRest [] (with_latch p (record t { has_shared = false }) DropShared (DropsShared its)) (record t { step = Ended its })
    (record { its = record { low = low; knows = (alone, refl) }; fits = Starts DropShared refl refl refl tt })
    (record { its = record { low = low; knows = alone }; fits = Keeps refl refl refl })

ends_so_led : (p : Places) (t : TryState) (its : TryAnswer) → t.home.bucket < p.buckets → TryLed p latching.AtRest (held_if (its_latch p t) t.has_exclusive) (ends_so p t its)
unfolding ends_so
ends_so_led p t its low = by_alone t.has_exclusive refl
  where
    by_alone : (b : Bool) → t.has_exclusive ≡ b → TryLed p latching.AtRest (held_if (its_latch p t) b) (if b then with_latch p (record t { has_exclusive = false }) DropExclusive (DropsExclusive its) else ended_without p t its)
    by_alone true e = record { its = record { low = low; knows = (refl, refl) }; fits = Starts DropExclusive refl refl (without_one (its_latch p t)) (held_one (its_latch p t)) }
    by_alone false e = without_led p t its low e

-- it holds the latch still, while it looks for room
ends_by_led : (p : Places) (t : TryState) (its : TryAnswer) (waiting : Option Waiting) → t.home.bucket < p.buckets → TryLed p latching.AtRest (held_if (its_latch p t) t.has_exclusive) (ends_by p t its waiting)
ends_by_led p t its None low = ends_so_led p t its low
ends_by_led p t its (Some waiting) low =
    either_led (is_bounded t) p latching.AtRest (held_if (its_latch p t) t.has_exclusive) (record t { step = LoadsTail waiting }) (ends_so p t its)
    (record { its = record { low = low; knows = tt }; fits = Keeps refl refl refl }) (ends_so_led p t its low)

ends_led : (p : Places) (t : TryState) (its : TryAnswer) → t.home.bucket < p.buckets → TryLed p latching.AtRest (held_if (its_latch p t) t.has_exclusive) (ends p t its)
unfolding ends
ends_led p t its low = ends_by_led p t its (waiting_of its) low

tail_led : (p : Places) (t : TryState) (waiting : Waiting) (tail : ℕ) → t.home.bucket < p.buckets → TryLed p latching.AtRest (held_if (its_latch p t) t.has_exclusive) (tail_loaded p t waiting tail)
unfolding tail_loaded
tail_led p t waiting tail low =
    either_led (is_past_tail (bounds_at t.occasion) tail) p latching.AtRest (held_if (its_latch p t) t.has_exclusive) (ends_so p t answer.LogFull) _ (ends_so_led p t answer.LogFull low)
    (either_led (t.walk.entry == 0) p latching.AtRest (held_if (its_latch p t) t.has_exclusive) (record t { step = LoadsTaken waiting }) (ends_so p t (told_of waiting))
    (record { its = record { low = low; knows = tt }; fits = Keeps refl refl refl }) (ends_so_led p t (told_of waiting) low))

taken_led : (p : Places) (t : TryState) (waiting : Waiting) (taken : ℕ) → t.home.bucket < p.buckets → TryLed p latching.AtRest (held_if (its_latch p t) t.has_exclusive) (taken_loaded p t waiting taken)
unfolding taken_loaded
taken_led p t waiting taken low =
    either_led (is_past_taken (bounds_at t.occasion) taken) p latching.AtRest (held_if (its_latch p t) t.has_exclusive) (ends_so p t answer.IndexFull) (ends_so p t (told_of waiting)) (ends_so_led p t answer.IndexFull low) (ends_so_led p t (told_of waiting) low)

-- where it held nothing
ends_none : (p : Places) (t : TryState) (its : TryAnswer) → t.home.bucket < p.buckets → IsNotAlone t → TryLed p latching.AtRest [] (ends p t its)
ends_none p t its low alone = subst (λ b. TryLed p latching.AtRest (held_if (its_latch p t) b) (ends p t its)) alone (ends_led p t its low)

walks_led : (p : Places) (t : TryState) → t.home.bucket < p.buckets → IsNotAlone t → TryLed p latching.AtRest [] (walks p t)
walks_led p t low alone = record { its = record { low = low; knows = alone }; fits = Keeps refl refl refl }

appends_led : (p : Places) (t : TryState) (old : ℕ) → t.home.bucket < p.buckets → TryLed p latching.AtRest (held_if (its_latch p t) t.has_exclusive) (appends t old)
unfolding appends
appends_led p t old low = record { its = record { low = low; knows = tt }; fits = Keeps refl refl refl }

copies_from_led : (p : Places) (t : TryState) (old : OldValue) → t.home.bucket < p.buckets → TryLed p latching.AtRest (held_if (its_latch p t) t.has_exclusive) (copies_from t old)
unfolding copies_from
copies_from_led p t (Known old) low = appends_led p t old low
copies_from_led p t InMemory low =
    either_led (is_blind t.request.op) p latching.AtRest (held_if (its_latch p t) t.has_exclusive) (appends t absent_word) (record t { walk = walk_on t.walk; step = LoadsOld })
    (appends_led p t absent_word low) (record { its = record { low = low; knows = tt }; fits = Keeps refl refl refl })

copies_led : (p : Places) (t : TryState) (old : OldValue) (is_current : Bool) → t.home.bucket < p.buckets → IsNotAlone t → TryLed p latching.AtRest [] (copies p t old is_current)
unfolding copies
copies_led p t old is_current low alone =
    either_led (wants_exclusive t is_current) p latching.AtRest [] (with_latch p t TakeExclusive (TakesExclusive old)) (copies_from t old)
    (record { its = record { low = low; knows = (alone, Loads refl) }; fits = Starts TakeExclusive refl refl refl tt })
    (subst (λ b. TryLed p latching.AtRest (held_if (its_latch p t) b) (copies_from t old)) alone (copies_from_led p t old low))

held_led : (p : Places) (t : TryState) (addr : Addr) (held : Option HeldRecord) → t.home.bucket < p.buckets → IsNotAlone t → TryLed p latching.AtRest [] (held_used p t addr held)
unfolding held_used
held_led p t addr None low alone = ends_none p t _ low alone
held_led p t addr (Some held) low alone =
    either_led (held.entry == t.walk.entry) p latching.AtRest [] _ (awaits p t addr)
    (either_led (held.key.0 == (key_of t.request.op).0) p latching.AtRest [] (copies p t (Known held.value) false) _ (copies_led p t (Known held.value) false low alone)
    (either_led (is_chain_end t.request.floor held.previous) p latching.AtRest [] (copies p t (Known absent_word) false) (awaits p t held.previous)
    (copies_led p t (Known absent_word) false low alone) (ends_none p t _ low alone)))
    (ends_none p t _ low alone)

nowhere_led : (p : Places) (t : TryState) → t.home.bucket < p.buckets → IsNotAlone t → TryLed p latching.AtRest [] (met_nowhere p t)
nowhere_led p t low alone =
    either_led (is_read t.request.op) p latching.AtRest [] (ends p t answer.Absent) _ (ends_none p t answer.Absent low alone)
    (either_led (must_count p t) p latching.AtRest [] (record t { step = CountsTaken }) (copies p t (Known absent_word) false) (record { its = record { low = low; knows = alone }; fits = Keeps refl refl refl }) (copies_led p t (Known absent_word) false low alone))

count_led : (p : Places) (t : TryState) (taken : ℕ) → t.home.bucket < p.buckets → IsNotAlone t → TryLed p latching.AtRest [] (count_loaded p t taken)
unfolding count_loaded
count_led p t taken low alone =
    either_led (is_past_taken (bounds_at t.occasion) taken) p latching.AtRest [] (ends p t answer.IndexFull) (copies p t (Known absent_word) false) (ends_none p t answer.IndexFull low alone) (copies_led p t (Known absent_word) false low alone)

disk_led : (p : Places) (t : TryState) (addr : Addr) → t.home.bucket < p.buckets → IsNotAlone t → TryLed p latching.AtRest [] (met_disk p t addr)
disk_led p t addr low alone =
    either_led (is_read t.request.op) p latching.AtRest [] _ _
    (either_led (is_chain_end t.request.floor addr) p latching.AtRest [] (ends p t answer.Absent) (awaits p t addr) (ends_none p t answer.Absent low alone)
    (ends_none p t _ low alone))
    (either_led (is_blind t.request.op || is_chain_end t.request.floor addr) p latching.AtRest [] (copies p t (Known absent_word) false)
    (held_used p t addr t.request.held) (copies_led p t (Known absent_word) false low alone) (held_led p t addr t.request.held low alone))

changes_led : (p : Places) (t : TryState) (addr : Addr) → t.home.bucket < p.buckets → IsNotAlone t → TryLed p latching.AtRest [] (changes t addr)
changes_led p t addr low alone =
    either_led (is_blind t.request.op) p latching.AtRest [] (record t { step = SwapsValue addr }) (record t { walk = walk_on t.walk; step = LoadsCurrent addr })
    (record { its = record { low = low; knows = alone }; fits = Keeps refl refl refl }) (record { its = record { low = low; knows = alone }; fits = Keeps refl refl refl })

region_led : (p : Places) (t : TryState) (addr : Addr) (version : Version) (found : Option Region) → t.home.bucket < p.buckets → IsNotAlone t → TryLed p latching.AtRest [] (region_met p t addr version found)
region_led p t addr version None low alone = record { its = record { low = low; knows = alone }; fits = Keeps refl refl refl }
region_led p t addr version (Some its) low alone =
    either_led (is_own_version t version) p latching.AtRest [] (changes t addr) (copies p t InMemory false) (changes_led p t addr low alone) (copies_led p t InMemory false low alone)

record_led : (p : Places) (t : TryState) (addr : Addr) (version : Version) → t.home.bucket < p.buckets → IsNotAlone t → TryLed p latching.AtRest [] (met_record p t addr version)
record_led p t addr version low alone =
    either_led (is_read t.request.op) p latching.AtRest [] (record t { walk = walk_on t.walk; step = LoadsAnswer }) (region_met p t addr version (seen_region_of addr.0 t.seen.offsets))
    (record { its = record { low = low; knows = alone }; fits = Keeps refl refl refl }) (region_led p t addr version (seen_region_of addr.0 t.seen.offsets) low alone)

walked_led : (p : Places) (t : TryState) (its : WalkAnswer) → t.home.bucket < p.buckets → IsNotAlone t → TryLed p latching.AtRest [] (walked p t its)
walked_led p t (walk.Found addr version) low alone = record_led p t addr version low alone
walked_led p t walk.Nowhere low alone = nowhere_led p t low alone
walked_led p t (walk.OnDisk addr) low alone = disk_led p t addr low alone
walked_led p t (walk.Value value) low alone = ends_none p t _ low alone
walked_led p t walk.Full low alone = ends_none p t _ low alone
walked_led p t walk.Kept low alone = ends_none p t _ low alone
walked_led p t walk.Contended low alone = ends_none p t _ low alone

walk_led : (p : Places) (t : TryState) (ask : Ask WalkAnswer) → t.step ≡ Walks → t.home.bucket < p.buckets → IsNotAlone t → TryLed p latching.AtRest [] (walk_ledto p t ask)
unfolding walk_ledto
walk_led p t (Done its) at low alone =
    let after : TryState = record t { spare = t.walk.spare } in
    either_led (has_walked its && must_shift after) p latching.AtRest [] (ends p after answer.Shift) (walked p after its) (ends_none p after answer.Shift low alone) (walked_led p after its low alone)
walk_led p t ask at low alone = stays_led p t Walks at low alone refl

safe_led : (p : Places) (t : TryState) (addr : Addr) (version : Version) (safe : ℕ) → t.home.bucket < p.buckets → IsNotAlone t → TryLed p latching.AtRest [] (safe_loaded p t addr version safe)
safe_led p t addr version safe low alone =
    either_led (nat_le safe addr.0) p latching.AtRest [] (ends p t (answer.Wait reason.Fuzzy)) (copies p t InMemory (is_surely_own t version)) (ends_none p t _ low alone) (copies_led p t InMemory (is_surely_own t version) low alone)

current_led : (p : Places) (t : TryState) (addr : Addr) (ask : Ask WalkAnswer) → t.step ≡ LoadsCurrent addr → t.home.bucket < p.buckets → IsNotAlone t → TryLed p latching.AtRest [] (current_ledto p t addr ask)
unfolding current_ledto
current_led p t addr (Done (walk.Value old)) at low alone = record { its = record { low = low; knows = alone }; fits = Keeps refl refl refl }
current_led p t addr (Done its) at low alone = ends_none p t _ low alone
current_led p t addr ask at low alone = stays_led p t (LoadsCurrent addr) at low alone refl

value_led : (p : Places) (t : TryState) (old found : ℕ) → t.home.bucket < p.buckets → IsNotAlone t → TryLed p latching.AtRest [] (value_changed p t old found)
value_led p t old found low alone =
    either_led (found == old) p latching.AtRest [] (takes_effect p t (reply_from (value_of old) t.request.op)) (ends p t (answer.Wait reason.Contended))
    (ends_none p (record t { effect = Some (reply_from (value_of old) t.request.op) }) _ low alone) (ends_none p t _ low alone)

answer_led : (p : Places) (t : TryState) (ask : Ask WalkAnswer) → t.step ≡ LoadsAnswer → t.home.bucket < p.buckets → IsNotAlone t → TryLed p latching.AtRest [] (answer_ledto p t ask)
unfolding answer_ledto
answer_led p t (Done (walk.Value value)) at low alone = ends_none p t (told_value (value_of value)) low alone
answer_led p t (Done its) at low alone = ends_none p t _ low alone
answer_led p t ask at low alone = stays_led p t LoadsAnswer at low alone refl

old_led : (p : Places) (t : TryState) (ask : Ask WalkAnswer) → t.step ≡ LoadsOld → t.home.bucket < p.buckets → TryLed p latching.AtRest (held_if (its_latch p t) t.has_exclusive) (old_ledto p t ask)
unfolding old_ledto
old_led p t (Done (walk.Value value)) at low = appends_led p t value low
old_led p t (Done its) at low = ends_led p t _ low
old_led p t ask at low = stays_led p t LoadsOld at low tt refl

append_led : (p : Places) (t : TryState) (its : Reply) (ask : Ask AppendAnswer) → t.step ≡ Appends its → t.home.bucket < p.buckets → TryLed p latching.AtRest (held_if (its_latch p t) t.has_exclusive) (append_ledto p t its ask)
unfolding append_ledto
append_led p t its (Done append.Published) at low = ends_led p (record t { effect = Some its }) (answer.Done its) low
append_led p t its (Done append.Full) at low = ends_led p t _ low
append_led p t its (Done append.NoRoom) at low = ends_led p t _ low
append_led p t its (Done append.Contended) at low = ends_led p t _ low
append_led p t its ask at low = stays_led p t (Appends its) at low tt refl

latch_led : (p : Places) (t : TryState) → t.home.bucket < p.buckets → IsNotAlone t → TryLed p latching.AtRest [] (latch_shared p t)
latch_led p t low alone =
    either_led (is_next_marked t.request.version) p latching.AtRest [] (record t { step = LoadsPhase }) (walks p t) (record { its = record { low = low; knows = alone }; fits = Keeps refl refl refl }) (walks_led p t low alone)

phase_led : (p : Places) (t : TryState) (said : PhaseSaid) → t.home.bucket < p.buckets → IsNotAlone t → TryLed p latching.AtRest [] (phase_loaded p t said)
unfolding phase_loaded
phase_led p t said low alone = either_led (is_still_in said t.request.version) p latching.AtRest [] (walks p t) (ends p t answer.Shift) (walks_led p t low alone) (ends_none p t answer.Shift low alone)

-- the machine for latches, where the try shares its latch
shared_led : (p : Places) (t : TryState) (step : Latching) (reply : ℕ) → t.latching ≡ latch_next step reply → t.step ≡ TakesShared → t.home.bucket < p.buckets → IsNotAlone t → t.has_shared ≡ false → TakesShare (its_latch p t) step
    → TryLed p (latch_next step reply) (alone_given step (latch_next_ask step reply) []) (shared_ledto p t (latch_next_ask step reply))
unfolding latch_next latch_next_ask latch_ask shared_ledto
shared_led p t (latching.AddsShare place) reply next at low alone free takes = by_word (is_exclusive reply) next
  where
    by_word : (b : Bool) → t.latching ≡ (if b then latching.GivesBack place else latching.AtRest)
        → TryLed p (if b then latching.GivesBack place else latching.AtRest) (alone_given (latching.AddsShare place) (if b then latch_ask (latching.GivesBack place) else Done Taken) []) (shared_ledto p t (if b then latch_ask (latching.GivesBack place) else Done Taken))
    by_word true its = elim takes [
      | Adds same ↦ (let here : place ≡ its_latch p t = cc in
          subst (λ x. TryLed p x [] t) its (stays_led p t TakesShared at low (alone, Gives (its ∙ ap latching.GivesBack here), free) (ap is_first its)))
      | Gives other ↦ cc
    ]
    by_word false its = latch_led p (record t { has_shared = true }) low alone
shared_led p t (latching.GivesBack place) reply next at low alone free takes = ends_none p t answer.Shift low alone
shared_led p t step reply next at low alone free (Adds same) = cc
shared_led p t step reply next at low alone free (Gives same) = cc

-- where it takes it alone
alone_led : (p : Places) (t : TryState) (old : OldValue) (step : Latching) (reply : ℕ) → t.latching ≡ latch_next step reply → t.step ≡ TakesExclusive old → t.home.bucket < p.buckets → IsNotAlone t → TakesAlone (its_latch p t) step
    → TryLed p (latch_next step reply) (alone_given step (latch_next_ask step reply) []) (exclusive_ledto p t old (latch_next_ask step reply))
unfolding latch_next latch_next_ask latch_ask exclusive_ledto
alone_led p t old (latching.LoadsWord place) reply next at low alone takes = by_word (is_free reply) next
  where
    by_word : (b : Bool) → t.latching ≡ (if b then latching.SetsExclusive place reply else latching.AtRest)
        → TryLed p (if b then latching.SetsExclusive place reply else latching.AtRest) [] (exclusive_ledto p t old (if b then latch_ask (latching.SetsExclusive place reply) else Done Busy))
    by_word true its = elim takes [
      | Loads same ↦ (let here : place ≡ its_latch p t = cc in
          subst (λ x. TryLed p x [] t) its (stays_led p t (TakesExclusive old) at low (alone, Sets reply (its ∙ ap (λ q. latching.SetsExclusive q reply) here)) (ap is_first its)))
      | Sets word other ↦ cc
    ]
    by_word false its = ends_none p t (answer.Wait reason.Latch) low alone
alone_led p t old (latching.SetsExclusive place word) reply next at low alone takes = by_word (reply == word)
  where
    here : place ≡ its_latch p t
    here = elim takes [ Loads other ↦ cc | Sets its same ↦ cc ]

    by_word : (b : Bool) → TryLed p latching.AtRest (alone_given (latching.SetsExclusive place word) (Done (if b then Taken else Busy)) []) (exclusive_ledto p t old (Done (if b then Taken else Busy)))
    by_word true = subst (λ q. TryLed p latching.AtRest (q ∷ []) (copies_from (record t { has_exclusive = true }) old)) (sym here) (copies_from_led p (record t { has_exclusive = true }) old low)
    by_word false = ends_none p t (answer.Wait reason.Latch) low alone
alone_led p t old step reply next at low alone (Loads same) = cc
alone_led p t old step reply next at low alone (Sets word same) = cc

-- and where it drops it
dropped_led : (p : Places) (t : TryState) (its : TryAnswer) (step : Latching) (place reply : ℕ) → step ≡ latching.DropsExclusive place → t.home.bucket < p.buckets → IsNotAlone t
    → TryLed p (latch_next step reply) (alone_given step (latch_next_ask step reply) []) (exclusive_dropped p t its (latch_next_ask step reply))
unfolding latch_next latch_next_ask exclusive_dropped
dropped_led p t its step place reply same low alone = rw (same, latch_next, latch_next_ask) (without_led p t its low alone)

unshared_led : (p : Places) (t : TryState) (its : TryAnswer) (step : Latching) (place reply : ℕ) → step ≡ latching.DropsShare place → t.home.bucket < p.buckets → IsNotAlone t
    → TryLed p (latch_next step reply) (alone_given step (latch_next_ask step reply) []) (shared_dropped t its (latch_next_ask step reply))
unfolding latch_next latch_next_ask shared_dropped
unshared_led p t its step place reply same low alone = rw (same, latch_next, latch_next_ask) (record { its = record { low = low; knows = alone }; fits = Keeps refl refl refl })

resting : (p : Places) (held : List ℕ) (t : TryState) (reply : ℕ) → TryLed p latching.AtRest held t → TryLed p (latch_next latching.AtRest reply) held t
unfolding latch_next
resting p held t reply led = led

step_led : (p : Places) (room : ℕ) (t : TryState) (step : Trying) (reply : ℕ) → t.step ≡ step → t.home.bucket < p.buckets → TryKnows p t step
    → TryLed p (latch_next (try_latching t step) reply) (alone_given (try_latching t step) (latch_next_ask (try_latching t step) reply) (try_alone p t step)) (trying_next p room (record t { effect = None }) step reply)
unfolding trying_next
step_led p room t (Ended its) reply at low knows = resting p [] (record t { effect = None }) reply (stays_led p (record t { effect = None }) (Ended its) at low knows refl)
step_led p room t TakesShared reply at low knows = shared_led p (latch_moved (record t { effect = None }) reply) t.latching reply refl at low knows.0 knows.2 knows.1
step_led p room t LoadsPhase reply at low knows = resting p [] _ reply (phase_led p (record t { effect = None }) (phase_said reply) low knows)
step_led p room t Walks reply at low knows = resting p [] _ reply (walk_led p (record t { effect = None; walk = walk_next p t.walk reply }) (walk_ask p (walk_next p t.walk reply)) at low knows)
step_led p room t CountsTaken reply at low knows = resting p [] _ reply (count_led p (record t { effect = None }) reply low knows)
step_led p room t (LoadsSafe addr version) reply at low knows = resting p [] _ reply (safe_led p (record t { effect = None }) addr version reply low knows)
step_led p room t (SwapsValue addr) reply at low knows = resting p [] _ reply (ends_none p (record t { effect = Some (reply_from None t.request.op) }) _ low knows)
step_led p room t (LoadsCurrent addr) reply at low knows = resting p [] _ reply (current_led p (record t { effect = None; walk = walk_next p t.walk reply }) addr (walk_ask p (walk_next p t.walk reply)) at low knows)
step_led p room t (ChangesValue addr old) reply at low knows = resting p [] _ reply (value_led p (record t { effect = None }) old reply low knows)
step_led p room t LoadsAnswer reply at low knows = resting p [] _ reply (answer_led p (record t { effect = None; walk = walk_next p t.walk reply }) (walk_ask p (walk_next p t.walk reply)) at low knows)
step_led p room t (TakesExclusive old) reply at low knows = alone_led p (latch_moved (record t { effect = None }) reply) old t.latching reply refl at low knows.0 knows.1
step_led p room t LoadsOld reply at low knows = resting p (held_if (its_latch p t) t.has_exclusive) _ reply (old_led p (record t { effect = None; walk = walk_next p t.walk reply }) (walk_ask p (walk_next p t.walk reply)) at low)
step_led p room t (Appends its) reply at low knows = resting p (held_if (its_latch p t) t.has_exclusive) _ reply
    (append_led p (record t { effect = None; append = append_next p room t.append reply }) its (append_ask p (append_next p room t.append reply)) at low)
step_led p room t (LoadsTail waiting) reply at low knows = resting p (held_if (its_latch p t) t.has_exclusive) _ reply (tail_led p (record t { effect = None }) waiting reply low)
step_led p room t (LoadsTaken waiting) reply at low knows = resting p (held_if (its_latch p t) t.has_exclusive) _ reply (taken_led p (record t { effect = None }) waiting reply low)
step_led p room t (DropsExclusive its) reply at low knows = dropped_led p (latch_moved (record t { effect = None }) reply) its t.latching (its_latch p t) reply knows.1 low knows.0
step_led p room t (DropsShared its) reply at low knows = unshared_led p (latch_moved (record t { effect = None }) reply) its t.latching (its_latch p t) reply knows.1 low knows.0

-- each reply
pub try_led : (p : Places) (room : ℕ) (t : TryState) (reply : ℕ) → IsTry p t
    → TryLed p (latch_next (try_latching t t.step) reply) (alone_given (try_latching t t.step) (latch_next_ask (try_latching t t.step) reply) (try_alone p t t.step)) (try_next p room t reply)
try_led p room t reply its = step_led p room t t.step reply refl its.low its.knows

-- how a try begins
pub begun_led : (p : Places) (bits : ℕ) (request : Request) (seen : Seen) (occasion : Occasion) (spare : ℕ) → (home_of bits (key_of request.op)).bucket < p.buckets → TryLed p latching.AtRest [] (try_begun p bits request seen occasion spare)
begun_led p bits request seen occasion spare low =
    by_test (wants_shared its) refl
  where
    its : TryState
    its = new_try bits request seen occasion spare

    last_not : (a b c : Bool) → (a && b && not c) ≡ true → c ≡ false
    last_not true true true e = cc
    last_not true false true e = cc
    last_not false b true e = cc
    last_not a b false e = refl

    by_test : (b : Bool) → wants_shared its ≡ b → TryLed p latching.AtRest [] (if b then with_latch p its TakeShared TakesShared else walks p its)
    by_test true e = record { its = record { low = low; knows = (refl, Adds refl, last_not (is_prepare seen.phase) (not (is_read request.op)) request.has_latch e) }; fits = Starts TakeShared refl refl refl tt }
    by_test false e = walks_led p its low refl
