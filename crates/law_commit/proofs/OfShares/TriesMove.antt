-- A try holds a latch alone only where its session is between two versions.
use Rattle.std.proofs.Common.{◌≡◌, ◌⊎◌, inl, inr, ℕ, refl, sym, subst, Bool, true, false, ◌∙◌, arith}
use Rattle.std.proofs.lemmas.Bool.Decides.{nat_tests}
use Rattle.std.specs.Prelude.{if◌then◌else◌, ◌==◌, ◌&&◌, ◌||◌, not, nat_le, ⊤, Option, Some, None}
use Rattle.fkv_base.specs.declared.numbers.Addr.{Addr}
use Rattle.fkv_base.specs.declared.numbers.Version.{Version}
use Rattle.fkv_map.specs.declared.operations.Reply.{Reply}
use Rattle.fkv_map.specs.Map.{absent_word}
use Rattle.fkv_map.specs.Keys.{key_of, reply_from}
use Rattle.fkv_words.specs.declared.phase_words.PhaseSaid.{PhaseSaid}
use Rattle.fkv_words.specs.PhaseWords.{phase_said}
use Rattle.fkv_plane.specs.declared.asks.Ask.{Ask}
use Rattle.fkv_plane.specs.declared.asks.Ask.TheVariants.{Done}
use Rattle.fkv_plane.specs.declared.places.Places.{Places}
use Rattle.fkv_latch.specs.declared.latching.LatchAnswer.{LatchAnswer}
use Rattle.fkv_latch.specs.declared.latching.LatchAnswer.TheVariants.{Taken}
use Rattle.fkv_latch.specs.declared.latching.LatchTask.TheVariants.{TakeShared, DropShared, TakeExclusive, DropExclusive}
use Rattle.fkv_latch.specs.declared.latching.Latching.{Latching}
use Rattle.fkv_latch.specs.declared.latching.Latching.TheVariants as latching
use Rattle.fkv_latch.specs.Latching.{is_exclusive, is_free, latch_next, latch_next_ask}
use Rattle.law_refine.specs.Below.fkv_log.Region.{Region}
use Rattle.law_refine.specs.Below.fkv_log.Regions.{seen_region_of}
use Rattle.law_refine.specs.Below.fkv_ops.Reason.TheVariants as reason
use Rattle.law_refine.specs.Below.fkv_ops.TryAnswer.{TryAnswer}
use Rattle.law_refine.specs.Below.fkv_ops.TryAnswer.TheVariants as answer
use Rattle.law_refine.specs.Below.fkv_ops.AppendAnswer.{AppendAnswer}
use Rattle.law_refine.specs.Below.fkv_ops.AppendAnswer.TheVariants as append
use Rattle.law_refine.specs.Below.fkv_ops.HeldRecord.{HeldRecord}
use Rattle.law_refine.specs.Below.fkv_ops.Occasion.{Occasion}
use Rattle.law_refine.specs.Below.fkv_ops.Request.{Request}
use Rattle.law_refine.specs.Below.fkv_ops.Seen.{Seen}
use Rattle.law_refine.specs.Below.fkv_ops.OldValue.{OldValue}
use Rattle.law_refine.specs.Below.fkv_ops.OldValue.TheVariants.{InMemory, Known}
use Rattle.law_refine.specs.Below.fkv_ops.TheTrying.{Trying}
use Rattle.law_refine.specs.Below.fkv_ops.TheTrying.TheVariants.{Ended, TakesShared, LoadsPhase, Walks, CountsTaken, LoadsSafe, SwapsValue, LoadsCurrent, ChangesValue, LoadsAnswer, TakesExclusive, LoadsOld, Appends, LoadsTail, LoadsTaken, DropsExclusive, DropsShared}
use Rattle.law_refine.specs.Below.fkv_ops.WalkAnswer.{WalkAnswer}
use Rattle.law_refine.specs.Below.fkv_ops.WalkAnswer.TheVariants as walk
use Rattle.law_refine.specs.Below.fkv_ops.Values.{value_of}
use Rattle.law_refine.specs.Below.fkv_ops.Requests.{is_read, is_blind, is_chain_end}
use Rattle.law_refine.specs.Below.fkv_ops.Walking.{walk_ask, walk_next, walk_on}
use Rattle.law_refine.specs.Below.fkv_ops.Appending.{append_ask, append_next}
use Rattle.law_refine.specs.Below.fkv_ops.Trying.{TryState, with_latch, is_moving_on, is_prepare, is_wait, ended_without, ends_so, ends_by, is_bounded, tail_loaded, taken_loaded, must_count, count_loaded, ends, takes_effect, walks, wants_shared, try_begun, is_next_marked, latch_shared, shared_ledto, is_still_in, phase_loaded, is_surely_own, must_shift, wants_exclusive, appends, copies_from, copies, awaits, held_used, met_nowhere, met_disk, changes, is_own_version, region_met, met_record, walked, has_walked, walk_ledto, safe_loaded, current_ledto, value_changed, told_value, answer_ledto, exclusive_ledto, old_ledto, append_ledto, exclusive_dropped, shared_dropped, latch_moved, trying_next, try_next, new_try}
use Rattle.law_refine.specs.Below.fkv_ops.TheWaiting.{Waiting}
use Rattle.law_refine.specs.Below.fkv_ops.TheWaiting.TheVariants.{For, ForRecord}
use Rattle.law_refine.specs.Below.fkv_ops.Bounds.{bounds_at, is_past_tail, is_past_taken}
use Rattle.law_refine.specs.Below.fkv_ops.Waiting.{told_of}

-- the session is between two versions, and the request is of its own
abbrev pub MovesOn : Seen → TryState → Type 0
MovesOn seen t = (is_moving_on seen.phase ≡ true) × (t.request.version.0 ≡ seen.version.0)

abbrev pub is_dropping : Latching → Bool
is_dropping (latching.DropsExclusive place) = true
is_dropping step = false

-- it keeps what it has seen; if it holds a latch alone, or is dropping one, the session is so
abbrev pub KeepsMoving : Seen → TryState → Type 0
KeepsMoving seen t = (t.seen ≡ seen) × (t.has_exclusive ≡ true → MovesOn seen t) × (is_dropping t.latching ≡ true → MovesOn seen t)

-- and if it takes one alone
abbrev pub TakesMoving : Seen → TryState → Trying → Type 0
TakesMoving seen t (TakesExclusive old) = MovesOn seen t
TakesMoving seen t step = ⊤

-- in prepare an update shares its latch, so does one whose request has come with it, and no other does
abbrev pub HasShare : TryState → Type 0
HasShare t =
    (is_prepare t.seen.phase ≡ true → is_read t.request.op ≡ false → t.has_shared ≡ true) × (t.request.has_latch ≡ true → t.has_shared ≡ true)
    × (t.has_shared ≡ true → (is_prepare t.seen.phase ≡ true) ⊎ (t.request.has_latch ≡ true))

-- so it is once the share is taken, which is so in prepare alone, and as long as it isn't dropped; at the end if the request has to wait
abbrev pub SharesBy : TryState → Trying → Type 0
SharesBy t TakesShared = is_prepare t.seen.phase ≡ true
SharesBy t (DropsShared its) = is_wait its ≡ false
SharesBy t (DropsExclusive its) = is_wait its ≡ true → HasShare t
SharesBy t (Ended its) = is_wait its ≡ true → HasShare t
SharesBy t step = HasShare t

pub record IsTryMoving (seen : Seen) (t : TryState) : Type 0 where
  pub keeps : KeepsMoving seen t
  pub takes : TakesMoving seen t t.step
  pub shares : SharesBy t t.step

-- what is known between
abbrev Inner : Seen → TryState → Type 0
Inner seen t = (t.seen ≡ seen) × (t.has_exclusive ≡ true → MovesOn seen t) × (is_dropping t.latching ≡ true → MovesOn seen t) × HasShare t

no_drop : {X : Type 0} → false ≡ true → X
no_drop e = cc

next_drops : (step : Latching) (reply : ℕ) → is_dropping (latch_next step reply) ≡ false
unfolding latch_next
next_drops (latching.AddsShare place) reply = by_word (is_exclusive reply)
  where
    by_word : (b : Bool) → is_dropping (if b then latching.GivesBack place else latching.AtRest) ≡ false
    by_word true = refl
    by_word false = refl
next_drops (latching.LoadsWord place) reply = by_word (is_free reply)
  where
    by_word : (b : Bool) → is_dropping (if b then latching.SetsExclusive place reply else latching.AtRest) ≡ false
    by_word true = refl
    by_word false = refl
next_drops step reply = refl

-- where a reply leads
either_moving : (c : Bool) (seen : Seen) (a b : TryState) → IsTryMoving seen a → IsTryMoving seen b → IsTryMoving seen (if c then a else b)
either_moving true seen a b one other = one
either_moving false seen a b one other = other

stays_moving : (seen : Seen) (t : TryState) (step : Trying) → t.step ≡ step → KeepsMoving seen t → TakesMoving seen t step → SharesBy t step → IsTryMoving seen t
stays_moving seen t step at keeps takes shares = record { keeps = keeps; takes = subst (λ x. TakesMoving seen t x) (sym at) takes; shares = subst (λ x. SharesBy t x) (sym at) shares }

without_moving : (p : Places) (seen : Seen) (t : TryState) (its : TryAnswer) → KeepsMoving seen t → (is_wait its ≡ true → HasShare t) → IsTryMoving seen (ended_without p t its)
without_moving p seen t its keeps shares = by_wait (is_wait its) refl
  where
    by_wait : (b : Bool) → is_wait its ≡ b → IsTryMoving seen (if t.has_shared && not b then with_latch p (record t { has_shared = false }) DropShared (DropsShared its) else record t { step = Ended its })
    by_wait false e =
        either_moving (t.has_shared && true) seen (with_latch p (record t { has_shared = false }) DropShared (DropsShared its)) (record t { step = Ended its })
        (record { keeps = (keeps.0, keeps.1, λ x. no_drop x); takes = tt; shares = e }) (record { keeps = keeps; takes = tt; shares = shares })
    by_wait true e = never (t.has_shared && false) (none_of t.has_shared)
      where
        none_of : (a : Bool) → (a && false) ≡ false
        none_of true = refl
        none_of false = refl

        never : (b : Bool) → b ≡ false → IsTryMoving seen (if b then with_latch p (record t { has_shared = false }) DropShared (DropsShared its) else record t { step = Ended its })
        never true none = cc
        never false none = record { keeps = keeps; takes = tt; shares = shares }

ends_so_with : (p : Places) (seen : Seen) (t : TryState) (its : TryAnswer) → KeepsMoving seen t → (is_wait its ≡ true → HasShare t) → IsTryMoving seen (ends_so p t its)
unfolding ends_so
ends_so_with p seen t its keeps shares = by_alone t.has_exclusive refl
  where
    by_alone : (b : Bool) → t.has_exclusive ≡ b → IsTryMoving seen (if b then with_latch p (record t { has_exclusive = false }) DropExclusive (DropsExclusive its) else ended_without p t its)
    by_alone true e = record { keeps = (keeps.0, λ x. no_drop x, λ x. keeps.1 e); takes = tt; shares = shares }
    by_alone false e = without_moving p seen t its keeps shares

-- it looks for room before it waits
looks_with : (p : Places) (seen : Seen) (t : TryState) (its : TryAnswer) (waiting : Waiting) → KeepsMoving seen t → HasShare t → IsTryMoving seen (ends_by p t its (Some waiting))
looks_with p seen t its waiting keeps shares =
    either_moving (is_bounded t) seen (record t { step = LoadsTail waiting }) (ends_so p t its) (record { keeps = keeps; takes = tt; shares = shares }) (ends_so_with p seen t its keeps (λ wait. shares))

ends_with : (p : Places) (seen : Seen) (t : TryState) (its : TryAnswer) → KeepsMoving seen t → (is_wait its ≡ true → HasShare t) → IsTryMoving seen (ends p t its)
unfolding ends
ends_with p seen t (answer.Wait it) keeps shares = looks_with p seen t (answer.Wait it) (For it) keeps (shares refl)
ends_with p seen t (answer.AwaitsDisk it) keeps shares = looks_with p seen t (answer.AwaitsDisk it) (ForRecord it) keeps (shares refl)
ends_with p seen t its keeps shares = ends_so_with p seen t its keeps shares

tail_moving : (p : Places) (seen : Seen) (t : TryState) (waiting : Waiting) (tail : ℕ) → Inner seen t → IsTryMoving seen (tail_loaded p t waiting tail)
unfolding tail_loaded
tail_moving p seen t waiting tail keeps =
    either_moving (is_past_tail (bounds_at t.occasion) tail) seen (ends_so p t answer.LogFull) _ (ends_so_with p seen t answer.LogFull (keeps.0, keeps.1, keeps.2) (λ wait. keeps.3))
    (either_moving (t.walk.entry == 0) seen (record t { step = LoadsTaken waiting }) (ends_so p t (told_of waiting)) (record { keeps = (keeps.0, keeps.1, keeps.2); takes = tt; shares = keeps.3 }) (ends_so_with p seen t (told_of waiting) (keeps.0, keeps.1, keeps.2) (λ wait. keeps.3)))

taken_moving : (p : Places) (seen : Seen) (t : TryState) (waiting : Waiting) (taken : ℕ) → Inner seen t → IsTryMoving seen (taken_loaded p t waiting taken)
unfolding taken_loaded
taken_moving p seen t waiting taken keeps =
    either_moving (is_past_taken (bounds_at t.occasion) taken) seen (ends_so p t answer.IndexFull) (ends_so p t (told_of waiting)) (ends_so_with p seen t answer.IndexFull (keeps.0, keeps.1, keeps.2) (λ wait. keeps.3)) (ends_so_with p seen t (told_of waiting) (keeps.0, keeps.1, keeps.2) (λ wait. keeps.3))

ends_moving : (p : Places) (seen : Seen) (t : TryState) (its : TryAnswer) → Inner seen t → IsTryMoving seen (ends p t its)
ends_moving p seen t its keeps = ends_with p seen t its (keeps.0, keeps.1, keeps.2) (λ wait. keeps.3)

walks_moving : (p : Places) (seen : Seen) (t : TryState) → Inner seen t → IsTryMoving seen (walks p t)
walks_moving p seen t keeps = record { keeps = (keeps.0, keeps.1, keeps.2); takes = tt; shares = keeps.3 }

appends_moving : (seen : Seen) (t : TryState) (old : ℕ) → Inner seen t → IsTryMoving seen (appends t old)
unfolding appends
appends_moving seen t old keeps = record { keeps = (keeps.0, keeps.1, keeps.2); takes = tt; shares = keeps.3 }

copies_from_moving : (seen : Seen) (t : TryState) (old : OldValue) → Inner seen t → IsTryMoving seen (copies_from t old)
unfolding copies_from
copies_from_moving seen t (Known old) keeps = appends_moving seen t old keeps
copies_from_moving seen t InMemory keeps = either_moving (is_blind t.request.op) seen (appends t absent_word) (record t { walk = walk_on t.walk; step = LoadsOld }) (appends_moving seen t absent_word keeps) (record { keeps = (keeps.0, keeps.1, keeps.2); takes = tt; shares = keeps.3 })

first_two : (a : Bool) (m n : ℕ) (c : Bool) → (a && m == n && c) ≡ true → (a ≡ true) × (m ≡ n)
first_two true m n c e = by_same (m == n) refl e
  where
    by_same : (b : Bool) → (m == n) ≡ b → (b && c) ≡ true → (true ≡ true) × (m ≡ n)
    by_same true same f = let it : m ≡ n = grind (arith, nat_tests, same) in (refl, it)
    by_same false same f = cc
first_two false m n c e = cc

copies_moving : (p : Places) (seen : Seen) (t : TryState) (old : OldValue) (is_current : Bool) → Inner seen t → IsTryMoving seen (copies p t old is_current)
unfolding copies
copies_moving p seen t old is_current keeps = by_need (wants_exclusive t is_current) refl
  where
    by_need : (b : Bool) → wants_exclusive t is_current ≡ b → IsTryMoving seen (if b then with_latch p t TakeExclusive (TakesExclusive old) else copies_from t old)
    by_need true e =
        let moves : MovesOn t.seen t = first_two (is_moving_on t.seen.phase) (t.request.version.0) (t.seen.version.0) (not is_current) e in
        record { keeps = (keeps.0, keeps.1, λ x. no_drop x); takes = subst (λ (s : Seen). MovesOn s t) keeps.0 moves; shares = keeps.3 }
    by_need false e = copies_from_moving seen t old keeps

held_moving : (p : Places) (seen : Seen) (t : TryState) (addr : Addr) (held : Option HeldRecord) → Inner seen t → IsTryMoving seen (held_used p t addr held)
unfolding held_used
held_moving p seen t addr None keeps = ends_moving p seen t _ keeps
held_moving p seen t addr (Some held) keeps =
    either_moving (held.entry == t.walk.entry) seen _ (awaits p t addr)
    (either_moving (held.key.0 == (key_of t.request.op).0) seen (copies p t (Known held.value) false) _ (copies_moving p seen t (Known held.value) false keeps)
    (either_moving (is_chain_end t.request.floor held.previous) seen (copies p t (Known absent_word) false) (awaits p t held.previous) (copies_moving p seen t (Known absent_word) false keeps) (ends_moving p seen t _ keeps)))
    (ends_moving p seen t _ keeps)

nowhere_moving : (p : Places) (seen : Seen) (t : TryState) → Inner seen t → IsTryMoving seen (met_nowhere p t)
nowhere_moving p seen t keeps =
    either_moving (is_read t.request.op) seen (ends p t answer.Absent) _ (ends_moving p seen t answer.Absent keeps)
    (either_moving (must_count p t) seen (record t { step = CountsTaken }) (copies p t (Known absent_word) false) (record { keeps = (keeps.0, keeps.1, keeps.2); takes = tt; shares = keeps.3 }) (copies_moving p seen t (Known absent_word) false keeps))

count_moving : (p : Places) (seen : Seen) (t : TryState) (taken : ℕ) → Inner seen t → IsTryMoving seen (count_loaded p t taken)
unfolding count_loaded
count_moving p seen t taken keeps = either_moving (is_past_taken (bounds_at t.occasion) taken) seen (ends p t answer.IndexFull) (copies p t (Known absent_word) false) (ends_moving p seen t answer.IndexFull keeps) (copies_moving p seen t (Known absent_word) false keeps)

disk_moving : (p : Places) (seen : Seen) (t : TryState) (addr : Addr) → Inner seen t → IsTryMoving seen (met_disk p t addr)
disk_moving p seen t addr keeps =
    either_moving (is_read t.request.op) seen _ _
    (either_moving (is_chain_end t.request.floor addr) seen (ends p t answer.Absent) (awaits p t addr)
    (ends_moving p seen t answer.Absent keeps) (ends_moving p seen t _ keeps))
    (either_moving (is_blind t.request.op || is_chain_end t.request.floor addr) seen (copies p t (Known absent_word) false)
    (held_used p t addr t.request.held) (copies_moving p seen t (Known absent_word) false keeps) (held_moving p seen t addr t.request.held keeps))

changes_moving : (seen : Seen) (t : TryState) (addr : Addr) → Inner seen t → IsTryMoving seen (changes t addr)
changes_moving seen t addr keeps = either_moving (is_blind t.request.op) seen (record t { step = SwapsValue addr }) (record t { walk = walk_on t.walk; step = LoadsCurrent addr }) (record { keeps = (keeps.0, keeps.1, keeps.2); takes = tt; shares = keeps.3 }) (record { keeps = (keeps.0, keeps.1, keeps.2); takes = tt; shares = keeps.3 })

region_moving : (p : Places) (seen : Seen) (t : TryState) (addr : Addr) (version : Version) (found : Option Region) → Inner seen t → IsTryMoving seen (region_met p t addr version found)
region_moving p seen t addr version None keeps = record { keeps = (keeps.0, keeps.1, keeps.2); takes = tt; shares = keeps.3 }
region_moving p seen t addr version (Some its) keeps = either_moving (is_own_version t version) seen (changes t addr) (copies p t InMemory false) (changes_moving seen t addr keeps) (copies_moving p seen t InMemory false keeps)

met_moving : (p : Places) (seen : Seen) (t : TryState) (addr : Addr) (version : Version) → Inner seen t → IsTryMoving seen (met_record p t addr version)
met_moving p seen t addr version keeps =
    either_moving (is_read t.request.op) seen (record t { walk = walk_on t.walk; step = LoadsAnswer }) (region_met p t addr version (seen_region_of addr.0 t.seen.offsets)) (record { keeps = (keeps.0, keeps.1, keeps.2); takes = tt; shares = keeps.3 })
    (region_moving p seen t addr version (seen_region_of addr.0 t.seen.offsets) keeps)

walked_moving : (p : Places) (seen : Seen) (t : TryState) (its : WalkAnswer) → Inner seen t → IsTryMoving seen (walked p t its)
walked_moving p seen t (walk.Found addr version) keeps = met_moving p seen t addr version keeps
walked_moving p seen t walk.Nowhere keeps = nowhere_moving p seen t keeps
walked_moving p seen t (walk.OnDisk addr) keeps = disk_moving p seen t addr keeps
walked_moving p seen t (walk.Value value) keeps = ends_moving p seen t _ keeps
walked_moving p seen t walk.Full keeps = ends_moving p seen t _ keeps
walked_moving p seen t walk.Kept keeps = ends_moving p seen t _ keeps
walked_moving p seen t walk.Contended keeps = ends_moving p seen t _ keeps

walk_ledto_moving : (p : Places) (seen : Seen) (t : TryState) (ask : Ask WalkAnswer) → t.step ≡ Walks → Inner seen t → IsTryMoving seen (walk_ledto p t ask)
unfolding walk_ledto
walk_ledto_moving p seen t (Done its) at keeps =
    let after : TryState = record t { spare = t.walk.spare } in
    either_moving (has_walked its && must_shift after) seen (ends p after answer.Shift) (walked p after its) (ends_moving p seen after answer.Shift keeps) (walked_moving p seen after its keeps)
walk_ledto_moving p seen t ask at keeps = stays_moving seen t Walks at (keeps.0, keeps.1, keeps.2) tt keeps.3

safe_moving : (p : Places) (seen : Seen) (t : TryState) (addr : Addr) (version : Version) (safe : ℕ) → Inner seen t → IsTryMoving seen (safe_loaded p t addr version safe)
safe_moving p seen t addr version safe keeps = either_moving (nat_le safe addr.0) seen (ends p t (answer.Wait reason.Fuzzy)) (copies p t InMemory (is_surely_own t version)) (ends_moving p seen t _ keeps) (copies_moving p seen t InMemory (is_surely_own t version) keeps)

current_moving : (p : Places) (seen : Seen) (t : TryState) (addr : Addr) (ask : Ask WalkAnswer) → t.step ≡ LoadsCurrent addr → Inner seen t → IsTryMoving seen (current_ledto p t addr ask)
unfolding current_ledto
current_moving p seen t addr (Done (walk.Value old)) at keeps = record { keeps = (keeps.0, keeps.1, keeps.2); takes = tt; shares = keeps.3 }
current_moving p seen t addr (Done its) at keeps = ends_moving p seen t _ keeps
current_moving p seen t addr ask at keeps = stays_moving seen t (LoadsCurrent addr) at (keeps.0, keeps.1, keeps.2) tt keeps.3

value_moving : (p : Places) (seen : Seen) (t : TryState) (old found : ℕ) → Inner seen t → IsTryMoving seen (value_changed p t old found)
value_moving p seen t old found keeps =
    either_moving (found == old) seen (takes_effect p t (reply_from (value_of old) t.request.op)) (ends p t (answer.Wait reason.Contended))
    (ends_moving p seen (record t { effect = Some (reply_from (value_of old) t.request.op) }) _ keeps) (ends_moving p seen t _ keeps)

answer_moving : (p : Places) (seen : Seen) (t : TryState) (ask : Ask WalkAnswer) → t.step ≡ LoadsAnswer → Inner seen t → IsTryMoving seen (answer_ledto p t ask)
unfolding answer_ledto
answer_moving p seen t (Done (walk.Value value)) at keeps = ends_moving p seen t (told_value (value_of value)) keeps
answer_moving p seen t (Done its) at keeps = ends_moving p seen t _ keeps
answer_moving p seen t ask at keeps = stays_moving seen t LoadsAnswer at (keeps.0, keeps.1, keeps.2) tt keeps.3

latch_moving : (p : Places) (seen : Seen) (t : TryState) → Inner seen t → IsTryMoving seen (latch_shared p t)
latch_moving p seen t keeps = either_moving (is_next_marked t.request.version) seen (record t { step = LoadsPhase }) (walks p t) (record { keeps = (keeps.0, keeps.1, keeps.2); takes = tt; shares = keeps.3 }) (walks_moving p seen t keeps)

phase_moving : (p : Places) (seen : Seen) (t : TryState) (said : PhaseSaid) → Inner seen t → IsTryMoving seen (phase_loaded p t said)
unfolding phase_loaded
phase_moving p seen t said keeps = either_moving (is_still_in said t.request.version) seen (walks p t) (ends p t answer.Shift) (walks_moving p seen t keeps) (ends_moving p seen t answer.Shift keeps)

shared_moving : (p : Places) (seen : Seen) (t : TryState) (ask : Ask LatchAnswer) → t.step ≡ TakesShared → KeepsMoving seen t → is_prepare t.seen.phase ≡ true → IsTryMoving seen (shared_ledto p t ask)
unfolding shared_ledto
shared_moving p seen t (Done Taken) at keeps prepares = latch_moving p seen (record t { has_shared = true }) (keeps.0, keeps.1, keeps.2, (λ prepare update. refl, λ has. refl, λ has. inl prepares))
shared_moving p seen t (Done its) at keeps prepares = ends_with p seen t answer.Shift keeps (λ wait. no_drop wait)
shared_moving p seen t ask at keeps prepares = stays_moving seen t TakesShared at keeps tt prepares

exclusive_moving : (p : Places) (seen : Seen) (t : TryState) (old : OldValue) (ask : Ask LatchAnswer) → t.step ≡ TakesExclusive old → Inner seen t → MovesOn seen t → IsTryMoving seen (exclusive_ledto p t old ask)
unfolding exclusive_ledto
exclusive_moving p seen t old (Done Taken) at keeps moves = copies_from_moving seen (record t { has_exclusive = true }) old (keeps.0, λ e. moves, keeps.2, keeps.3)
exclusive_moving p seen t old (Done its) at keeps moves = ends_moving p seen t _ keeps
exclusive_moving p seen t old ask at keeps moves = stays_moving seen t (TakesExclusive old) at (keeps.0, keeps.1, keeps.2) moves keeps.3

old_moving : (p : Places) (seen : Seen) (t : TryState) (ask : Ask WalkAnswer) → t.step ≡ LoadsOld → Inner seen t → IsTryMoving seen (old_ledto p t ask)
unfolding old_ledto
old_moving p seen t (Done (walk.Value value)) at keeps = appends_moving seen t value keeps
old_moving p seen t (Done its) at keeps = ends_moving p seen t _ keeps
old_moving p seen t ask at keeps = stays_moving seen t LoadsOld at (keeps.0, keeps.1, keeps.2) tt keeps.3

append_ledto_moving : (p : Places) (seen : Seen) (t : TryState) (its : Reply) (ask : Ask AppendAnswer) → t.step ≡ Appends its → Inner seen t → IsTryMoving seen (append_ledto p t its ask)
unfolding append_ledto
append_ledto_moving p seen t its (Done append.Published) at keeps = ends_moving p seen (record t { effect = Some its }) (answer.Done its) keeps
append_ledto_moving p seen t its (Done append.Full) at keeps = ends_moving p seen t _ keeps
append_ledto_moving p seen t its (Done append.NoRoom) at keeps = ends_moving p seen t _ keeps
append_ledto_moving p seen t its (Done append.Contended) at keeps = ends_moving p seen t _ keeps
append_ledto_moving p seen t its ask at keeps = stays_moving seen t (Appends its) at (keeps.0, keeps.1, keeps.2) tt keeps.3

dropped_moving : (p : Places) (seen : Seen) (t : TryState) (its : TryAnswer) (ask : Ask LatchAnswer) → t.step ≡ DropsExclusive its → KeepsMoving seen t → (is_wait its ≡ true → HasShare t) → IsTryMoving seen (exclusive_dropped p t its ask)
unfolding exclusive_dropped
dropped_moving p seen t its (Done told) at keeps shares = without_moving p seen t its keeps shares
dropped_moving p seen t its ask at keeps shares = stays_moving seen t (DropsExclusive its) at keeps tt shares

waits_not : {X : Type 0} (b : Bool) → b ≡ false → b ≡ true → X
waits_not true e f = cc
waits_not false e f = cc

unshared_moving : (seen : Seen) (t : TryState) (its : TryAnswer) (ask : Ask LatchAnswer) → t.step ≡ DropsShared its → KeepsMoving seen t → is_wait its ≡ false → IsTryMoving seen (shared_dropped t its ask)
unfolding shared_dropped
unshared_moving seen t its (Done told) at keeps none = record { keeps = keeps; takes = tt; shares = λ wait. waits_not (is_wait its) none wait }
unshared_moving seen t its ask at keeps none = stays_moving seen t (DropsShared its) at keeps tt none

-- a machine for latches that goes on drops none
latch_keeps : (seen : Seen) (t : TryState) (reply : ℕ) → KeepsMoving seen t → KeepsMoving seen (latch_moved t reply)
latch_keeps seen t reply keeps = (keeps.0, keeps.1, λ e. no_drop (sym (next_drops t.latching reply) ∙ e))

next_moving : (p : Places) (room : ℕ) (seen : Seen) (t : TryState) (step : Trying) (reply : ℕ) → t.step ≡ step → KeepsMoving seen t → TakesMoving seen t step → SharesBy t step → IsTryMoving seen (trying_next p room t step reply)
unfolding trying_next
next_moving p room seen t (Ended its) reply at keeps takes shares = stays_moving seen t (Ended its) at keeps tt shares
next_moving p room seen t TakesShared reply at keeps takes shares = shared_moving p seen (latch_moved t reply) (latch_next_ask t.latching reply) at (latch_keeps seen t reply keeps) shares
next_moving p room seen t LoadsPhase reply at keeps takes shares = phase_moving p seen t (phase_said reply) (keeps.0, keeps.1, keeps.2, shares)
next_moving p room seen t Walks reply at keeps takes shares = walk_ledto_moving p seen (record t { walk = walk_next p t.walk reply }) (walk_ask p (walk_next p t.walk reply)) at (keeps.0, keeps.1, keeps.2, shares)
next_moving p room seen t CountsTaken reply at keeps takes shares = count_moving p seen t reply (keeps.0, keeps.1, keeps.2, shares)
next_moving p room seen t (LoadsSafe addr version) reply at keeps takes shares = safe_moving p seen t addr version reply (keeps.0, keeps.1, keeps.2, shares)
next_moving p room seen t (SwapsValue addr) reply at keeps takes shares = ends_moving p seen (record t { effect = Some (reply_from None t.request.op) }) _ (keeps.0, keeps.1, keeps.2, shares)
next_moving p room seen t (LoadsCurrent addr) reply at keeps takes shares = current_moving p seen (record t { walk = walk_next p t.walk reply }) addr (walk_ask p (walk_next p t.walk reply)) at (keeps.0, keeps.1, keeps.2, shares)
next_moving p room seen t (ChangesValue addr old) reply at keeps takes shares = value_moving p seen t old reply (keeps.0, keeps.1, keeps.2, shares)
next_moving p room seen t LoadsAnswer reply at keeps takes shares = answer_moving p seen (record t { walk = walk_next p t.walk reply }) (walk_ask p (walk_next p t.walk reply)) at (keeps.0, keeps.1, keeps.2, shares)
next_moving p room seen t (TakesExclusive old) reply at keeps takes shares = exclusive_moving p seen (latch_moved t reply) old (latch_next_ask t.latching reply) at (let k = latch_keeps seen t reply keeps in (k.0, k.1, k.2, shares)) takes
next_moving p room seen t LoadsOld reply at keeps takes shares = old_moving p seen (record t { walk = walk_next p t.walk reply }) (walk_ask p (walk_next p t.walk reply)) at (keeps.0, keeps.1, keeps.2, shares)
next_moving p room seen t (Appends its) reply at keeps takes shares = append_ledto_moving p seen (record t { append = append_next p room t.append reply }) its (append_ask p (append_next p room t.append reply)) at (keeps.0, keeps.1, keeps.2, shares)
next_moving p room seen t (LoadsTail waiting) reply at keeps takes shares = tail_moving p seen t waiting reply (keeps.0, keeps.1, keeps.2, shares)
next_moving p room seen t (LoadsTaken waiting) reply at keeps takes shares = taken_moving p seen t waiting reply (keeps.0, keeps.1, keeps.2, shares)
next_moving p room seen t (DropsExclusive its) reply at keeps takes shares = dropped_moving p seen (latch_moved t reply) its (latch_next_ask t.latching reply) at (latch_keeps seen t reply keeps) shares
next_moving p room seen t (DropsShared its) reply at keeps takes shares = unshared_moving seen (latch_moved t reply) its (latch_next_ask t.latching reply) at (latch_keeps seen t reply keeps) shares

effect_shares : (t : TryState) (step : Trying) → SharesBy t step → SharesBy (record t { effect = None }) step
effect_shares t (Ended its) shares = shares
effect_shares t TakesShared shares = shares
effect_shares t LoadsPhase shares = shares
effect_shares t Walks shares = shares
effect_shares t CountsTaken shares = shares
effect_shares t (LoadsSafe addr version) shares = shares
effect_shares t (SwapsValue addr) shares = shares
effect_shares t (LoadsCurrent addr) shares = shares
effect_shares t (ChangesValue addr old) shares = shares
effect_shares t LoadsAnswer shares = shares
effect_shares t (TakesExclusive old) shares = shares
effect_shares t LoadsOld shares = shares
effect_shares t (Appends its) shares = shares
effect_shares t (LoadsTail waiting) shares = shares
effect_shares t (LoadsTaken waiting) shares = shares
effect_shares t (DropsExclusive its) shares = shares
effect_shares t (DropsShared its) shares = shares

-- each reply
pub try_next_moving : (p : Places) (room : ℕ) (seen : Seen) (t : TryState) (reply : ℕ) → IsTryMoving seen t → IsTryMoving seen (try_next p room t reply)
try_next_moving p room seen t reply its = next_moving p room seen (record t { effect = None }) t.step reply refl its.keeps its.takes (effect_shares t t.step its.shares)

-- as it begins
pub try_begun_moving : (p : Places) (bits : ℕ) (request : Request) (seen : Seen) (occasion : Occasion) (spare : ℕ) → IsTryMoving seen (try_begun p bits request seen occasion spare)
try_begun_moving p bits request seen occasion spare = by_want (wants_shared its) refl
  where
    its : TryState
    its = new_try bits request seen occasion spare

    unwanted : (prepare read has : Bool) → (prepare && not read && not has) ≡ false → prepare ≡ true → read ≡ false → has ≡ true
    unwanted true false true e f g = refl
    unwanted true false false e f g = cc
    unwanted true true has e f g = cc
    unwanted false read has e f g = cc

    first_one : (a b c : Bool) → (a && b && c) ≡ true → a ≡ true
    first_one true b c e = refl
    first_one false b c e = cc

    by_want : (b : Bool) → wants_shared its ≡ b → IsTryMoving seen (if b then with_latch p its TakeShared TakesShared else walks p its)
    by_want true e = record { keeps = (refl, λ x. no_drop x, λ x. no_drop x); takes = tt; shares = first_one (is_prepare seen.phase) (not (is_read request.op)) (not request.has_latch) e }
    by_want false e = walks_moving p seen its (refl, λ x. no_drop x, λ x. no_drop x, (λ prepare update. unwanted (is_prepare seen.phase) (is_read request.op) request.has_latch e prepare update, λ has. has, λ has. inr has))
