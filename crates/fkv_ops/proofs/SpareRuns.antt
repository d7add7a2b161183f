-- Over every list of replies the overflow bucket that a try has to spare is the one that its asks tell.
use Rattle.std.proofs.Common.{◌≡◌, ℕ, ◌+◌, ◌-◌, ◌≤◌, List, [], ◌∷◌, refl, arith, sym, ap, ◌∙◌, subst, Bool, true, false}
use Rattle.std.specs.Prelude.{◌==◌, ◌&&◌, ◌||◌, not, nat_lt, nat_le, if◌then◌else◌, ⊤, Option, Some, None}
use Rattle.fkv_base.specs.declared.numbers.Addr.{Addr}
use Rattle.fkv_base.specs.declared.numbers.Key.{Key}
use Rattle.fkv_base.specs.declared.numbers.Version.{Version}
use Rattle.fkv_map.specs.declared.operations.Reply.{Reply}
use Rattle.fkv_map.specs.Map.{absent_word}
use Rattle.fkv_map.specs.Keys.{key_of, value_applied, reply_from}
use Rattle.fkv_words.specs.declared.phase_words.PhaseSaid.{PhaseSaid}
use Rattle.fkv_words.specs.PhaseWords.{phase_said}
use Rattle.fkv_plane.specs.declared.asks.Ask.{Ask}
use Rattle.fkv_plane.specs.declared.asks.Ask.TheVariants.{Load, Cas, Done}
use Rattle.fkv_plane.specs.declared.places.Places.{Places}
use Rattle.fkv_plane.specs.declared.places.RecordWord.TheVariants as rec
use Rattle.fkv_plane.specs.declared.places.SharedWord.TheVariants as one
use Rattle.fkv_plane.specs.Places.{shared_place, overflow_place, record_place}
use Rattle.fkv_plane.specs.Passing.{passed, is_done}
use Rattle.fkv_log.specs.declared.loading.LoadAnswer.{LoadAnswer}
use Rattle.fkv_log.specs.declared.loading.LoadAnswer.TheVariants as load
use Rattle.fkv_log.specs.declared.loading.Loading.TheVariants.{LoadsHeader}
use Rattle.fkv_log.specs.declared.regions.Region.{Region}
use Rattle.fkv_log.specs.Loading.{load_ask, load_next, load_next_ask}
use Rattle.fkv_latch.specs.declared.latching.LatchAnswer.{LatchAnswer}
use Rattle.fkv_latch.specs.declared.latching.LatchAnswer.TheVariants as latch
use Rattle.fkv_latch.specs.declared.latching.LatchTask.TheVariants.{TakeShared, DropShared, TakeExclusive, DropExclusive}
use Rattle.fkv_latch.specs.Latching.{latch_ask, latch_next, latch_next_ask}
use Rattle.fkv_index.specs.declared.finding.Found.{Found}
use Rattle.fkv_index.specs.declared.finding.Found.TheVariants as found
use Rattle.fkv_index.specs.declared.finding.FindAnswer.{FindAnswer}
use Rattle.fkv_index.specs.declared.finding.FindStep.{FindStep}
use Rattle.fkv_index.specs.declared.finding.FindStep.TheVariants as find
use Rattle.fkv_index.specs.declared.finding.Finding.{Finding}
use Rattle.fkv_index.specs.declared.finding.Linking.{Linking}
use Rattle.fkv_index.specs.declared.finding.Linking.TheVariants.{Never, Once, Within, Made}
use Rattle.fkv_index.specs.Slots.{bucket_slots, entry_addr, entry_tag, is_entry, link_of, slot_word}
use Rattle.fkv_index.specs.Finding.{spare_of, find_step_ask, find_led, find_next, find_next_ask, slot_led, slot_after, entered, ended_list, link_led, is_kept, takes_led, taken_led, took_led, linked_led, led_to, led_ask}
use Rattle.fkv_ops.specs.declared.answers.Reason.TheVariants as reason
use Rattle.fkv_ops.specs.declared.answers.TryAnswer.{TryAnswer}
use Rattle.fkv_ops.specs.declared.answers.TryAnswer.TheVariants as answer
use Rattle.fkv_ops.specs.declared.appending.AppendAnswer.{AppendAnswer}
use Rattle.fkv_ops.specs.declared.appending.AppendAnswer.TheVariants as append
use Rattle.fkv_ops.specs.declared.header_words.HeaderSaid.{HeaderSaid}
use Rattle.fkv_ops.specs.declared.header_words.HeaderSaid.TheVariants as said
use Rattle.fkv_ops.specs.declared.answers.Waiting.{Waiting}
use Rattle.fkv_ops.specs.declared.answers.Waiting.TheVariants.{For, ForRecord}
use Rattle.fkv_ops.specs.Bounds.{bounds_at, is_past_taken, is_past_tail}
use Rattle.fkv_ops.specs.Waiting.{told_of}
use Rattle.fkv_ops.specs.declared.requests.HeldRecord.{HeldRecord}
use Rattle.fkv_ops.specs.declared.trying.OldValue.{OldValue}
use Rattle.fkv_ops.specs.declared.trying.OldValue.TheVariants.{InMemory, Known}
use Rattle.fkv_ops.specs.declared.trying.Trying.{Trying}
use Rattle.fkv_ops.specs.declared.trying.Trying.TheVariants.{Ended, TakesShared, LoadsPhase, Walks, CountsTaken, LoadsSafe, SwapsValue, LoadsCurrent, ChangesValue, LoadsAnswer, TakesExclusive, LoadsOld, Appends, LoadsTail, LoadsTaken, DropsExclusive, DropsShared}
use Rattle.fkv_ops.specs.declared.walking.WalkAnswer.{WalkAnswer}
use Rattle.fkv_ops.specs.declared.walking.WalkAnswer.TheVariants as walk
use Rattle.fkv_ops.specs.declared.walking.Walking.{Walking}
use Rattle.fkv_ops.specs.declared.walking.Walking.TheVariants as walking
use Rattle.fkv_ops.specs.HeaderWords.{header_said}
use Rattle.fkv_ops.specs.Values.{value_of, word_of}
use Rattle.fkv_ops.specs.Requests.{is_read, is_blind, is_chain_end}
use Rattle.fkv_ops.specs.Walking.{WalkState, walking_ask, walk_ask, walk_ended, reached, slot_found, find_ledto, first_met, record_met, load_ledto, walking_next, walk_next, walk_on}
use Rattle.fkv_ops.specs.Appending.{append_ask, append_next}
use Rattle.fkv_ops.specs.Trying.{TryState, new_try, trying_ask, try_ask, trying_next, try_next, with_latch, is_wait, ended_without, is_bounded, ends, ends_by, ends_so, tail_loaded, taken_loaded, takes_effect, full_at, walks, wants_shared, is_next_marked, latch_shared, shared_ledto, is_still_in, phase_loaded, must_shift, wants_exclusive, appends, copies_from, copies, awaits, held_used, must_count, met_nowhere, count_loaded, met_disk, changes, is_own_version, region_met, walked, has_walked, walk_ledto, is_surely_own, safe_loaded, current_ledto, value_changed, told_value, answer_ledto, exclusive_ledto, old_ledto, append_ledto, exclusive_dropped, shared_dropped, words_of}
use Rattle.fkv_ops.specs.TryRun.{Trial, trial_begun, try_run, Told, exchanges, effects_of}
use Rattle.fkv_ops.specs.Spares.{is_count, is_linking, spare_after, spare_told, UsesSpare, EachUsesSpare, EachTellsSpare}
use Rattle.fkv_ops.proofs.Searched.{StandsAt, SearchStep, search_asks, spare_few}
use Rattle.fkv_ops.proofs.Walked.{WalkRow, WalkKnows, walk_true}
use Rattle.fkv_ops.proofs.TryRows.{norm, TryRow}
use Rattle.fkv_ops.proofs.TrySteps.{quieted}
use Rattle.fkv_ops.proofs.TryRuns.{quieted_next, at_end}
use Rattle.fkv_ops.proofs.Effected.{anything, any_known}
use Rattle.fkv_ops.proofs.SpareAsks.{IsAside, aside_after, aside_uses, load_aside, loads_aside, value_aside, append_aside, share_aside, alone_aside, drop_aside, unshare_aside, link_is, spare_there, walk_uses}

-- what is to spare at a step: while the try walks its search has it
abbrev spare_at : TryState → Trying → ℕ
spare_at t Walks = t.walk.finding.spare
spare_at t step = t.spare

abbrev is_finding : Walking → Bool
is_finding walking.Finds = true
is_finding step = false

-- behind its search a walk has what the search has
abbrev HasFoundSpare : WalkState → Type 0
HasFoundSpare w = is_finding w.step ≡ false → w.spare ≡ w.finding.spare

abbrev AtWalk : TryState → Trying → Type 0
AtWalk t Walks = HasFoundSpare t.walk
AtWalk t step = ⊤

record Keeps (n : ℕ) (t : TryState) : Type 0 where
  its_spare : spare_at t t.step ≡ n
  walk : AtWalk t t.step

without_keeps : (p : Places) (t : TryState) (its : TryAnswer) → Keeps t.spare (ended_without p t its)
without_keeps p t its = by_test (t.has_shared && not (is_wait its))
  where
    by_test : (b : Bool) → Keeps t.spare (if b then with_latch p (record t { has_shared = false }) DropShared (DropsShared its) else record t { step = Ended its })
    by_test true = record { its_spare = refl; walk = tt }
    by_test false = record { its_spare = refl; walk = tt }

ends_so_keeps : (p : Places) (t : TryState) (its : TryAnswer) → Keeps t.spare (ends_so p t its)
unfolding ends_so
ends_so_keeps p t its = by_test t.has_exclusive
  where
    by_test : (b : Bool) → Keeps t.spare (if b then with_latch p (record t { has_exclusive = false }) DropExclusive (DropsExclusive its) else ended_without p t its)
    by_test true = record { its_spare = refl; walk = tt }
    by_test false = without_keeps p t its

waits_keeps : (p : Places) (t : TryState) (its : TryAnswer) (waiting : Waiting) → Keeps t.spare (ends_by p t its (Some waiting))
waits_keeps p t its waiting = by_test (is_bounded t)
  where
    by_test : (b : Bool) → Keeps t.spare (if b then record t { step = LoadsTail waiting } else ends_so p t its)
    by_test true = record { its_spare = refl; walk = tt }
    by_test false = ends_so_keeps p t its

ends_keeps : (p : Places) (t : TryState) (its : TryAnswer) → Keeps t.spare (ends p t its)
unfolding ends
ends_keeps p t (answer.Wait it) = waits_keeps p t (answer.Wait it) (For it)
ends_keeps p t (answer.AwaitsDisk it) = waits_keeps p t (answer.AwaitsDisk it) (ForRecord it)
ends_keeps p t its = ends_so_keeps p t its

tail_keeps : (p : Places) (t : TryState) (waiting : Waiting) (tail : ℕ) → Keeps t.spare (tail_loaded p t waiting tail)
unfolding tail_loaded
tail_keeps p t waiting tail = by_tests (is_past_tail (bounds_at t.occasion) tail) (t.walk.entry == 0)
  where
    by_tests : (a b : Bool) → Keeps t.spare (if a then ends_so p t answer.LogFull else if b then record t { step = LoadsTaken waiting } else ends_so p t (told_of waiting))
    by_tests true b = ends_so_keeps p t answer.LogFull
    by_tests false true = record { its_spare = refl; walk = tt }
    by_tests false false = ends_so_keeps p t (told_of waiting)

taken_keeps : (p : Places) (t : TryState) (waiting : Waiting) (taken : ℕ) → Keeps t.spare (taken_loaded p t waiting taken)
unfolding taken_loaded
taken_keeps p t waiting taken = by_test (is_past_taken (bounds_at t.occasion) taken)
  where
    by_test : (b : Bool) → Keeps t.spare (if b then ends_so p t answer.IndexFull else ends_so p t (told_of waiting))
    by_test true = ends_so_keeps p t answer.IndexFull
    by_test false = ends_so_keeps p t (told_of waiting)

effect_keeps : (p : Places) (t : TryState) (its : Reply) → Keeps t.spare (takes_effect p t its)
effect_keeps p t its = ends_keeps p (record t { effect = Some its }) (answer.Done its)

appends_keeps : (t : TryState) (old : ℕ) → Keeps t.spare (appends t old)
unfolding appends
appends_keeps t old = record { its_spare = refl; walk = tt }

copies_from_keeps : (t : TryState) (old : OldValue) → Keeps t.spare (copies_from t old)
unfolding copies_from
copies_from_keeps t (Known old) = appends_keeps t old
copies_from_keeps t InMemory = by_blind (is_blind t.request.op)
  where
    by_blind : (b : Bool) → Keeps t.spare (if b then appends t absent_word else record t { walk = walk_on t.walk; step = LoadsOld })
    by_blind true = appends_keeps t absent_word
    by_blind false = record { its_spare = refl; walk = tt }

copies_keeps : (p : Places) (t : TryState) (old : OldValue) (is_current : Bool) → Keeps t.spare (copies p t old is_current)
unfolding copies
copies_keeps p t old is_current = by_need (wants_exclusive t is_current)
  where
    by_need : (b : Bool) → Keeps t.spare (if b then with_latch p t TakeExclusive (TakesExclusive old) else copies_from t old)
    by_need true = record { its_spare = refl; walk = tt }
    by_need false = copies_from_keeps t old

awaits_keeps : (p : Places) (t : TryState) (addr : Addr) → Keeps t.spare (awaits p t addr)
awaits_keeps p t addr = ends_keeps p t (answer.AwaitsDisk (record { entry = t.walk.entry; addr = addr }))

held_keeps : (p : Places) (t : TryState) (addr : Addr) (its : Option HeldRecord) → Keeps t.spare (held_used p t addr its)
unfolding held_used
held_keeps p t addr None = awaits_keeps p t addr
held_keeps p t addr (Some held) = by_tests (held.entry == t.walk.entry) (held.key.0 == (key_of t.request.op).0) (is_chain_end t.request.floor held.previous)
  where
    by_tests : (a b d : Bool) → Keeps t.spare (if a then (if b then copies p t (Known held.value) false else if d then copies p t (Known absent_word) false else awaits p t held.previous) else awaits p t addr)
    by_tests true true d = copies_keeps p t (Known held.value) false
    by_tests true false true = copies_keeps p t (Known absent_word) false
    by_tests true false false = awaits_keeps p t held.previous
    by_tests false b d = awaits_keeps p t addr

nowhere_keeps : (p : Places) (t : TryState) → Keeps t.spare (met_nowhere p t)
nowhere_keeps p t = by_tests (is_read t.request.op) (must_count p t)
  where
    by_tests : (a b : Bool) → Keeps t.spare (if a then ends p t answer.Absent else if b then record t { step = CountsTaken } else copies p t (Known absent_word) false)
    by_tests true b = ends_keeps p t answer.Absent
    by_tests false true = record { its_spare = refl; walk = tt }
    by_tests false false = copies_keeps p t (Known absent_word) false

count_keeps : (p : Places) (t : TryState) (taken : ℕ) → Keeps t.spare (count_loaded p t taken)
unfolding count_loaded
count_keeps p t taken = by_test (is_past_taken (bounds_at t.occasion) taken)
  where
    by_test : (b : Bool) → Keeps t.spare (if b then ends p t answer.IndexFull else copies p t (Known absent_word) false)
    by_test true = ends_keeps p t answer.IndexFull
    by_test false = copies_keeps p t (Known absent_word) false

disk_keeps : (p : Places) (t : TryState) (addr : Addr) → Keeps t.spare (met_disk p t addr)
disk_keeps p t addr = by_tests (is_read t.request.op) (is_chain_end t.request.floor addr) (is_blind t.request.op || is_chain_end t.request.floor addr)
  where
    by_tests : (a b d : Bool)
        → Keeps t.spare (if a then (if b then ends p t answer.Absent else awaits p t addr) else if d then copies p t (Known absent_word) false else held_used p t addr t.request.held)
    by_tests true true d = ends_keeps p t answer.Absent
    by_tests true false d = awaits_keeps p t addr
    by_tests false b true = copies_keeps p t (Known absent_word) false
    by_tests false b false = held_keeps p t addr t.request.held

changes_keeps : (t : TryState) (addr : Addr) → Keeps t.spare (changes t addr)
changes_keeps t addr = by_blind (is_blind t.request.op)
  where
    by_blind : (b : Bool) → Keeps t.spare (if b then record t { step = SwapsValue addr } else record t { walk = walk_on t.walk; step = LoadsCurrent addr })
    by_blind true = record { its_spare = refl; walk = tt }
    by_blind false = record { its_spare = refl; walk = tt }

region_keeps : (p : Places) (t : TryState) (addr : Addr) (version : Version) (region : Option Region) → Keeps t.spare (region_met p t addr version region)
region_keeps p t addr version None = record { its_spare = refl; walk = tt }
region_keeps p t addr version (Some its) = by_version (is_own_version t version)
  where
    by_version : (b : Bool) → Keeps t.spare (if b then changes t addr else copies p t InMemory false)
    by_version true = changes_keeps t addr
    by_version false = copies_keeps p t InMemory false

record_keeps : (p : Places) (t : TryState) (addr : Addr) (version : Version) (region : Option Region) → Keeps t.spare (if is_read t.request.op then record t { walk = walk_on t.walk; step = LoadsAnswer } else region_met p t addr version region)
record_keeps p t addr version region = by_read (is_read t.request.op)
  where
    by_read : (b : Bool) → Keeps t.spare (if b then record t { walk = walk_on t.walk; step = LoadsAnswer } else region_met p t addr version region)
    by_read true = record { its_spare = refl; walk = tt }
    by_read false = region_keeps p t addr version region

walked_keeps : (p : Places) (t : TryState) (its : WalkAnswer) → Keeps t.spare (walked p t its)
walked_keeps p t (walk.Found addr version) = record_keeps p t addr version _
walked_keeps p t walk.Nowhere = nowhere_keeps p t
walked_keeps p t (walk.OnDisk addr) = disk_keeps p t addr
walked_keeps p t (walk.Value value) = ends_keeps p t (answer.Wait reason.Contended)
walked_keeps p t walk.Full = ends_keeps p t (full_at t.occasion answer.IndexFull)
walked_keeps p t walk.Kept = ends_keeps p t (full_at t.occasion answer.IndexFull)
walked_keeps p t walk.Contended = ends_keeps p t (answer.Wait reason.Contended)

safe_keeps : (p : Places) (t : TryState) (addr : Addr) (version : Version) (safe : ℕ) → Keeps t.spare (safe_loaded p t addr version safe)
safe_keeps p t addr version safe = by_safe (nat_le safe addr.0)
  where
    by_safe : (b : Bool) → Keeps t.spare (if b then ends p t (answer.Wait reason.Fuzzy) else copies p t InMemory (is_surely_own t version))
    by_safe true = ends_keeps p t (answer.Wait reason.Fuzzy)
    by_safe false = copies_keeps p t InMemory (is_surely_own t version)

changed_keeps : (p : Places) (t : TryState) (old reply : ℕ) → Keeps t.spare (value_changed p t old reply)
changed_keeps p t old reply = by_word (reply == old)
  where
    by_word : (b : Bool) → Keeps t.spare (if b then takes_effect p t (reply_from (value_of old) t.request.op) else ends p t (answer.Wait reason.Contended))
    by_word true = effect_keeps p t (reply_from (value_of old) t.request.op)
    by_word false = ends_keeps p t (answer.Wait reason.Contended)

current_keeps : (p : Places) (t : TryState) (addr : Addr) (ask : Ask WalkAnswer) → Keeps t.spare t → Keeps t.spare (current_ledto p t addr ask)
unfolding current_ledto
current_keeps p t addr (Done (walk.Value old)) same = record { its_spare = refl; walk = tt }
current_keeps p t addr (Done its) same = ends_keeps p t (answer.Wait reason.Contended)
current_keeps p t addr ask same = same

answer_keeps : (p : Places) (t : TryState) (ask : Ask WalkAnswer) → Keeps t.spare t → Keeps t.spare (answer_ledto p t ask)
unfolding answer_ledto
answer_keeps p t (Done (walk.Value value)) same = ends_keeps p t (told_value (value_of value))
answer_keeps p t (Done its) same = ends_keeps p t (answer.Wait reason.Contended)
answer_keeps p t ask same = same

old_keeps : (p : Places) (t : TryState) (ask : Ask WalkAnswer) → Keeps t.spare t → Keeps t.spare (old_ledto p t ask)
unfolding old_ledto
old_keeps p t (Done (walk.Value value)) same = appends_keeps t value
old_keeps p t (Done its) same = ends_keeps p t (answer.Wait reason.Contended)
old_keeps p t ask same = same

alone_keeps : (p : Places) (t : TryState) (old : OldValue) (ask : Ask LatchAnswer) → Keeps t.spare t → Keeps t.spare (exclusive_ledto p t old ask)
unfolding exclusive_ledto
alone_keeps p t old (Done latch.Taken) same = copies_from_keeps (record t { has_exclusive = true }) old
alone_keeps p t old (Done its) same = ends_keeps p t (answer.Wait reason.Latch)
alone_keeps p t old ask same = same

append_keeps : (p : Places) (t : TryState) (its : Reply) (ask : Ask AppendAnswer) → Keeps t.spare t → Keeps t.spare (append_ledto p t its ask)
unfolding append_ledto
append_keeps p t its (Done append.Published) same = effect_keeps p t its
append_keeps p t its (Done append.Full) same = ends_keeps p t (full_at t.occasion answer.LogFull)
append_keeps p t its (Done append.NoRoom) same = ends_keeps p t (answer.Wait reason.NoRoom)
append_keeps p t its (Done append.Contended) same = ends_keeps p t (answer.Wait reason.Contended)
append_keeps p t its ask same = same

drop_keeps : (p : Places) (t : TryState) (its : TryAnswer) (ask : Ask LatchAnswer) → Keeps t.spare t → Keeps t.spare (exclusive_dropped p t its ask)
unfolding exclusive_dropped
drop_keeps p t its (Done told) same = without_keeps p t its
drop_keeps p t its ask same = same

unshare_keeps : (t : TryState) (its : TryAnswer) (ask : Ask LatchAnswer) → Keeps t.spare t → Keeps t.spare (shared_dropped t its ask)
unfolding shared_dropped
unshare_keeps t its (Done told) same = record { its_spare = refl; walk = tt }
unshare_keeps t its ask same = same

-- what is known behind a list of replies: what the asks have told is to spare
record Spared (c : Trial) (spare n : ℕ) (t : TryState) : Type 0 where
  now : spare_of c.places (spare_at t t.step) ≡ n
  few : spare ≤ c.places.overflow → spare_at t t.step ≤ c.places.overflow
  walk : AtWalk t t.step

kept : (c : Trial) (spare n m : ℕ) (t : TryState) → Keeps m t → spare_of c.places m ≡ n → (spare ≤ c.places.overflow → m ≤ c.places.overflow) → Spared c spare n t
kept c spare n m t keeps now few = record { now = ap (spare_of c.places) keeps.its_spare ∙ now; few = λ low. subst (λ x. x ≤ c.places.overflow) (sym keeps.its_spare) (few low); walk = keeps.walk }

-- an ask that has nothing to do with it
aside : (c : Trial) (spare n m : ℕ) (ask : Ask TryAnswer) (reply : ℕ) (t : TryState) → IsAside c ask → spare_of c.places m ≡ n → (spare ≤ c.places.overflow → m ≤ c.places.overflow) → Keeps m t → Spared c spare (spare_after c.places ask reply n) t
aside c spare n m ask reply t is now few keeps = subst (λ x. Spared c spare x t) (sym (aside_after c ask reply n is)) (kept c spare n m t keeps now few)

-- as a walk begins, its search drops what is no overflow bucket
walks_spared : (c : Trial) (spare n : ℕ) (t : TryState) → spare_of c.places t.spare ≡ n → Spared c spare n (walks c.places t)
walks_spared c spare n t now = record { now = spare_there c (spare_of c.places t.spare) (spare_few c t.spare) ∙ now; few = λ low. spare_few c t.spare; walk = λ e. cc }

latch_shared_spared : (c : Trial) (spare n : ℕ) (t : TryState) → spare_of c.places t.spare ≡ n → (spare ≤ c.places.overflow → t.spare ≤ c.places.overflow) → Spared c spare n (latch_shared c.places t)
latch_shared_spared c spare n t now few = by_mark (is_next_marked t.request.version)
  where
    by_mark : (b : Bool) → Spared c spare n (if b then record t { step = LoadsPhase } else walks c.places t)
    by_mark true = record { now = now; few = few; walk = tt }
    by_mark false = walks_spared c spare n t now

phase_spared : (c : Trial) (spare n : ℕ) (t : TryState) (said : PhaseSaid) → spare_of c.places t.spare ≡ n → (spare ≤ c.places.overflow → t.spare ≤ c.places.overflow) → Spared c spare n (phase_loaded c.places t said)
unfolding phase_loaded
phase_spared c spare n t said now few = by_word (is_still_in said t.request.version)
  where
    by_word : (b : Bool) → Spared c spare n (if b then walks c.places t else ends c.places t answer.Shift)
    by_word true = walks_spared c spare n t now
    by_word false = kept c spare n t.spare (ends c.places t answer.Shift) (ends_keeps c.places t answer.Shift) now few

shared_spared : (c : Trial) (spare n : ℕ) (t : TryState) (ask : Ask LatchAnswer) → spare_of c.places t.spare ≡ n → (spare ≤ c.places.overflow → t.spare ≤ c.places.overflow) → Keeps t.spare t → Spared c spare n (shared_ledto c.places t ask)
unfolding shared_ledto
shared_spared c spare n t (Done latch.Taken) now few same = latch_shared_spared c spare n (record t { has_shared = true }) now few
shared_spared c spare n t (Done its) now few same = kept c spare n t.spare (ends c.places t answer.Shift) (ends_keeps c.places t answer.Shift) now few
shared_spared c spare n t ask now few same = kept c spare n t.spare t same now few

begun_spared : (c : Trial) (spare : ℕ) → Spared c spare (spare_of c.places spare) (trial_begun c spare)
begun_spared c spare = by_share (wants_shared its)
  where
    its : TryState
    its = new_try c.bits c.request c.seen c.occasion spare

    by_share : (b : Bool) → Spared c spare (spare_of c.places spare) (if b then with_latch c.places its TakeShared TakesShared else walks c.places its)
    by_share true = record { now = refl; few = λ low. low; walk = tt }
    by_share false = walks_spared c spare (spare_of c.places spare) its refl

the_answer : {A : Type 0} (a b : A) → Done a ≡ Done b → a ≡ b
the_answer a b e = cc

-- where a search goes it has this bucket to spare, and answers that where it ends
record Has (n : ℕ) (ask : Ask FindAnswer) (f : Finding) : Type 0 where
  its_spare : f.spare ≡ n
  answers : (its : FindAnswer) → ask ≡ Done its → its.spare ≡ f.spare

on_spare : (f : Finding) (step : FindStep) (its : FindAnswer) → find_step_ask f step ≡ Done its → its.spare ≡ f.spare
unfolding find_step_ask
on_spare f find.AtRest its e = ap (λ i. i.spare) (sym (the_answer (record { found = found.Contended; spare = f.spare }) its e))
on_spare f (find.LoadsSlot slot) its e = cc
on_spare f find.LoadsLink its e = cc
on_spare f (find.LoadsTaken word) its e = cc
on_spare f (find.TakesBucket word taken) its e = cc
on_spare f (find.LinksBucket word) its e = cc

goes_on : (f : Finding) → Has f.spare (find_step_ask f f.step) f
goes_on f = record { its_spare = refl; answers = on_spare f f.step }

it_ends : (f : Finding) (it : Found) → Has f.spare (Done (record { found = it; spare = f.spare })) (record f { step = find.AtRest })
it_ends f it = record { its_spare = refl; answers = λ its e. ap (λ i. i.spare) (sym (the_answer (record { found = it; spare = f.spare }) its e)) }

slot_has : (f : Finding) (slot word : ℕ) → Has f.spare (led_ask (slot_led f slot word (slot_word word))) (led_to (slot_led f slot word (slot_word word)))
unfolding slot_word
slot_has f slot word = by_zero (word == 0) refl
  where
    by_tag : (b : Bool) → (entry_tag word == f.home.tag) ≡ b → is_entry word ≡ true → (word == 0) ≡ false → Has f.spare (led_ask (slot_led f slot word (slot_word word))) (led_to (slot_led f slot word (slot_word word)))
    by_tag true e entry some = rw (some, entry, e) (it_ends f (found.Slot (f.base + slot) word))
    by_tag false e entry some = rw (some, entry, e) (goes_on (record f { step = slot_after slot }))

    by_entry : (b : Bool) → is_entry word ≡ b → (word == 0) ≡ false → Has f.spare (led_ask (slot_led f slot word (slot_word word))) (led_to (slot_led f slot word (slot_word word)))
    by_entry true e some = by_tag (entry_tag word == f.home.tag) refl e some
    by_entry false e some = rw (some, e) (it_ends f found.Contended)

    by_zero : (b : Bool) → (word == 0) ≡ b → Has f.spare (led_ask (slot_led f slot word (slot_word word))) (led_to (slot_led f slot word (slot_word word)))
    by_zero true e = rw e (it_ends f (found.Slot (f.base + slot) 0))
    by_zero false e = by_entry (is_entry word) refl e

entered_has : (p : Places) (f : Finding) (number : ℕ) → Has f.spare (led_ask (entered p f number)) (led_to (entered p f number))
entered_has p f number = by_tests (nat_lt 0 f.links) (nat_le number p.overflow) refl refl
  where
    by_tests : (a b : Bool) → nat_lt 0 f.links ≡ a → nat_le number p.overflow ≡ b → Has f.spare (led_ask (entered p f number)) (led_to (entered p f number))
    by_tests true true d e = rw (d, e) (goes_on (record f { base = overflow_place p number 0; links = f.links - 1; step = find.LoadsSlot 0 }))
    by_tests true false d e = rw (d, e) (it_ends f found.Contended)
    by_tests false b d e = rw d (it_ends f found.Contended)

list_has : (f : Finding) (word : ℕ) (linking : Linking) → Has f.spare (led_ask (ended_list f word linking)) (led_to (ended_list f word linking))
list_has f word Never = it_ends f found.NoSlot
list_has f word Once = goes_on (record f { step = if f.spare == 0 then find.LoadsTaken word else find.LinksBucket word })
list_has f word (Within bound) = goes_on (record f { step = find.LoadsTaken word })
list_has f word Made = it_ends f found.Contended

link_has : (p : Places) (f : Finding) (word : ℕ) → Has f.spare (led_ask (link_led p f word)) (led_to (link_led p f word))
link_has p f word = by_link (link_of word == 0) refl
  where
    by_link : (b : Bool) → (link_of word == 0) ≡ b → Has f.spare (led_ask (link_led p f word)) (led_to (link_led p f word))
    by_link true e = rw e (list_has f word f.linking)
    by_link false e = rw e (entered_has p f (link_of word))

count_has : (p : Places) (f : Finding) (word reply : ℕ) → Has f.spare (led_ask (taken_led p f word reply)) (led_to (taken_led p f word reply))
count_has p f word reply = by_kept (is_kept f.linking reply) refl
  where
    by_count : (b : Bool) → nat_lt reply p.overflow ≡ b → Has f.spare (led_ask (takes_led p f word reply)) (led_to (takes_led p f word reply))
    by_count true e = rw e (goes_on (record f { step = find.TakesBucket word reply }))
    by_count false e = rw e (it_ends f found.Full)

    by_spare : (b : Bool) → (f.spare == 0) ≡ b → is_kept f.linking reply ≡ false → Has f.spare (led_ask (taken_led p f word reply)) (led_to (taken_led p f word reply))
    by_spare true e below = rw (below, e) (by_count (nat_lt reply p.overflow) refl)
    by_spare false e below = rw (below, e) (goes_on (record f { step = find.LinksBucket word }))

    by_kept : (b : Bool) → is_kept f.linking reply ≡ b → Has f.spare (led_ask (taken_led p f word reply)) (led_to (taken_led p f word reply))
    by_kept true e = rw e (it_ends f found.Kept)
    by_kept false e = by_spare (f.spare == 0) refl e

took_has : (f : Finding) (word taken reply : ℕ) (b : Bool) → (reply == taken) ≡ b → Has (if b then taken + 1 else f.spare) (led_ask (took_led f word taken reply)) (led_to (took_led f word taken reply))
took_has f word taken reply true e = rw e (goes_on (record f { spare = taken + 1; step = find.LinksBucket word }))
took_has f word taken reply false e = rw e (it_ends f found.Contended)

linked_has : (p : Places) (f : Finding) (word reply : ℕ) (b : Bool) → (reply == word) ≡ b → Has (if b then 0 else f.spare) (led_ask (linked_led p f word reply)) (led_to (linked_led p f word reply))
linked_has p f word reply true e = rw e (entered_has p (record f { linking = Made; spare = 0 }) f.spare)
linked_has p f word reply false e = rw e (it_ends f found.Contended)

-- where a search goes, by its ask
record SearchGoes (c : Trial) (f : Finding) (ask : Ask TryAnswer) (reply : ℕ) (next : Ask FindAnswer) (after : Finding) : Type 0 where
  told : (n : ℕ) → f.spare ≡ n → spare_after c.places ask reply n ≡ after.spare
  there : after.spare ≤ c.places.overflow
  answers : (its : FindAnswer) → next ≡ Done its → its.spare ≡ after.spare

stays : (c : Trial) (told : Told) (f : Finding) (place reply : ℕ) (next : Ask FindAnswer) (after : Finding) → StandsAt c told f → Has f.spare next after → SearchGoes c f (Load place) reply next after
stays c told f place reply next after stands has = record { told = λ n at. sym at ∙ sym has.its_spare; there = subst (λ x. x ≤ c.places.overflow) (sym has.its_spare) stands.few; answers = has.answers }

search_goes : (c : Trial) (told : Told) (f : Finding) (step : FindStep) (reply : ℕ) → StandsAt c told f → SearchStep c told f step
    → SearchGoes c f (passed (passed (find_step_ask f step) walk.Contended) answer.Shift) reply (led_ask (find_led c.places f step reply)) (led_to (find_led c.places f step reply))
unfolding find_step_ask find_led passed
search_goes c told f find.AtRest reply stands knows = absurd knows
search_goes c told f (find.LoadsSlot slot) reply stands knows = stays c told f (f.base + slot) reply _ _ stands (slot_has f slot reply)
search_goes c told f find.LoadsLink reply stands knows = stays c told f (f.base + bucket_slots) reply _ _ stands (link_has c.places f reply)
search_goes c told f (find.LoadsTaken word) reply stands knows = stays c told f (shared_place one.Taken) reply _ _ stands (count_has c.places f word reply)
search_goes c told f (find.TakesBucket word taken) reply stands knows = record { told = λ n at. by_word n at (reply == taken) ∙ sym has.its_spare; there = subst (λ x. x ≤ c.places.overflow) (sym has.its_spare) (fits (reply == taken)); answers = has.answers }
  where
    has : Has (if reply == taken then taken + 1 else f.spare) (led_ask (took_led f word taken reply)) (led_to (took_led f word taken reply))
    has = took_has f word taken reply (reply == taken) refl

    by_word : (n : ℕ) → f.spare ≡ n → (b : Bool) → (if b then taken + 1 else n) ≡ (if b then taken + 1 else f.spare)
    by_word n at true = refl
    by_word n at false = sym at

    fits : (b : Bool) → (if b then taken + 1 else f.spare) ≤ c.places.overflow
    fits true = let few = knows.1 in omega (arith, few)
    fits false = stands.few
search_goes c told f (find.LinksBucket word) reply stands knows = record {
  told = λ n at. by_word n at (reply == word) (is_count (f.base + bucket_slots)) (is_linking c.places (f.base + bucket_slots) word (word + f.spare)) is.1 is.0 ∙ sym has.its_spare;
  there = subst (λ x. x ≤ c.places.overflow) (sym has.its_spare) (fits (reply == word));
  answers = has.answers;
}
  where
    is : (is_linking c.places (f.base + bucket_slots) word (word + f.spare) ≡ true) × (is_count (f.base + bucket_slots) ≡ false)
    is = link_is c told f word stands knows

    has : Has (if reply == word then 0 else f.spare) (led_ask (linked_led c.places f word reply)) (led_to (linked_led c.places f word reply))
    has = linked_has c.places f word reply (reply == word) refl

    by_word : (n : ℕ) → f.spare ≡ n → (b d e : Bool) → d ≡ false → e ≡ true → (if b then (if d then word + f.spare else if e then 0 else n) else n) ≡ (if b then 0 else f.spare)
    by_word n at true true e x y = cc
    by_word n at true false true x y = refl
    by_word n at true false false x y = cc
    by_word n at false d e x y = sym at

    fits : (b : Bool) → (if b then 0 else f.spare) ≤ c.places.overflow
    fits true = omega arith
    fits false = stands.few

-- what the walk does behind its search changes neither
abbrev IsSame : WalkState → WalkState → Type 0
IsSame w after = (after.spare ≡ w.spare) × (after.finding ≡ w.finding)

reached_same : (p : Places) (w : WalkState) (addr : ℕ) → IsSame w (reached p w addr)
reached_same p w addr = by_tests (addr == 0) (nat_lt addr w.head.0) (nat_lt (addr - w.head.0) p.ring)
  where
    by_tests : (a b d : Bool) → IsSame w (if a then walk_ended w walk.Nowhere else if b then walk_ended w (walk.OnDisk (record { 0 = addr })) else if d then record w { loading = LoadsHeader (record { 0 = addr }); step = walking.Meets (record { 0 = addr }) } else walk_ended w walk.Contended)
    by_tests true b d = (refl, refl)
    by_tests false true d = (refl, refl)
    by_tests false false true = (refl, refl)
    by_tests false false false = (refl, refl)

slot_same : (p : Places) (w : WalkState) (its : Found) → IsSame w (slot_found p w its)
slot_same p w (found.Slot place word) = reached_same p (record w { place = place; entry = word }) (entry_addr word)
slot_same p w found.NoSlot = (refl, refl)
slot_same p w found.Full = (refl, refl)
slot_same p w found.Kept = (refl, refl)
slot_same p w found.Contended = (refl, refl)

record_same : (p : Places) (w : WalkState) (addr : Addr) (key : Key) (its : HeaderSaid) → IsSame w (record_met p w addr key its)
record_same p w addr key said.Spoiled = (refl, refl)
record_same p w addr key (said.Says previous version) = by_tests (nat_lt previous.0 addr.0) (key.0 == w.key.0)
  where
    by_tests : (a b : Bool) → IsSame w (if a then (if b then record w { first = first_met w.first version; step = walking.HasFound addr version } else reached p (record w { first = first_met w.first version }) previous.0) else walk_ended w walk.Contended)
    by_tests true true = (refl, refl)
    by_tests true false = reached_same p (record w { first = first_met w.first version }) previous.0
    by_tests false b = (refl, refl)

load_same : (p : Places) (w : WalkState) (addr : Addr) (ask : Ask LoadAnswer) → IsSame w (load_ledto p w addr ask)
unfolding load_ledto
load_same p w addr (Done (load.Met header key)) = record_same p w addr key (header_said header)
load_same p w addr (Done other) = (refl, refl)
load_same p w addr ask = (refl, refl)

yes : {X : Type 0} → true ≡ false → X
yes e = cc

found_spare : (p : Places) (w : WalkState) (ask : Ask FindAnswer) → w.step ≡ walking.Finds → ((its : FindAnswer) → ask ≡ Done its → its.spare ≡ w.finding.spare)
    → HasFoundSpare (find_ledto p w ask) × ((find_ledto p w ask).finding ≡ w.finding)
unfolding find_ledto
found_spare p w (Done its) at spare = let same = slot_same p (record w { spare = its.spare }) its.found in (λ e. same.0 ∙ spare its refl ∙ sym (ap (λ f. f.spare) same.1), same.1)
found_spare p w ask at spare = (λ e. yes (sym (ap is_finding at) ∙ e), refl)

-- where a walk goes, by its ask
record WalkGoes (c : Trial) (w : WalkState) (ask : Ask TryAnswer) (reply : ℕ) (after : WalkState) : Type 0 where
  told : (n : ℕ) → spare_of c.places w.finding.spare ≡ n → spare_of c.places after.finding.spare ≡ spare_after c.places ask reply n
  there : w.finding.spare ≤ c.places.overflow → after.finding.spare ≤ c.places.overflow
  found : HasFoundSpare after

walk_goes : (c : Trial) (told : Told) (w : WalkState) (step : Walking) (reply : ℕ) → w.step ≡ step → WalkRow c told w step → HasFoundSpare w → WalkGoes c w (passed (walking_ask c.places w step) answer.Shift) reply (walking_next c.places w step reply)
unfolding walking_ask walking_next passed
walk_goes c told w (walking.Ended its) reply at row has = record { told = λ n now. now; there = λ low. low; found = has }
walk_goes c told w walking.Finds reply at row has = record {
  told = λ n now. ap (λ f. spare_of c.places f.spare) after.1 ∙ spare_there c (find_next c.places w.finding reply).spare goes.there ∙ sym (goes.told n (sym (spare_there c w.finding.spare row.0.0.few) ∙ now));
  there = λ low. subst (λ f. f.spare ≤ c.places.overflow) (sym after.1) goes.there;
  found = after.0;
}
  where
    goes : SearchGoes c w.finding (passed (passed (find_step_ask w.finding w.finding.step) walk.Contended) answer.Shift) reply (find_next_ask c.places w.finding reply) (find_next c.places w.finding reply)
    goes = search_goes c told w.finding w.finding.step reply row.0.0 row.0.1

    after : HasFoundSpare (find_ledto c.places (record w { finding = find_next c.places w.finding reply }) (find_next_ask c.places w.finding reply))
        × ((find_ledto c.places (record w { finding = find_next c.places w.finding reply }) (find_next_ask c.places w.finding reply)).finding ≡ find_next c.places w.finding reply)
    after = found_spare c.places (record w { finding = find_next c.places w.finding reply }) (find_next_ask c.places w.finding reply) at goes.answers
walk_goes c told w (walking.Meets addr) reply at row has = record {
  told = λ n now. ap (λ f. spare_of c.places f.spare) same.1 ∙ now ∙ sym (aside_after c (passed (passed (load_ask c.places w.loading) walk.Contended) answer.Shift) reply n (load_aside c w.loading));
  there = λ low. subst (λ f. f.spare ≤ c.places.overflow) (sym same.1) low;
  found = λ e. same.0 ∙ has (ap is_finding at) ∙ sym (ap (λ f. f.spare) same.1);
}
  where
    same : IsSame w (load_ledto c.places (record w { loading = load_next w.loading reply }) addr (load_next_ask c.places w.loading reply))
    same = load_same c.places (record w { loading = load_next w.loading reply }) addr (load_next_ask c.places w.loading reply)
walk_goes c told w (walking.HasFound addr version) reply at row has = record { told = λ n now. now; there = λ low. low; found = has }
walk_goes c told w walking.LoadsValue reply at row has = absurd row

not_passed : {A B : Type 0} (ask : Ask A) (a b : B) → is_done ask ≡ false → passed ask a ≡ Done b → ⊥
unfolding passed
not_passed (Done its) a b e f = cc
not_passed ask a b e f = cc

-- a walk that answers is behind its search
is_behind : (c : Trial) (told : Told) (w : WalkState) (step : Walking) (its : WalkAnswer) → WalkRow c told w step → walking_ask c.places w step ≡ Done its → is_finding step ≡ false
unfolding walking_ask
is_behind c told w walking.Finds its row e = absurd (not_passed (find_step_ask w.finding w.finding.step) walk.Contended its (search_asks c told w.finding w.finding.step row.0.1) e)
is_behind c told w step its row e = refl

walk_spared : (c : Trial) (told : Told) (spare n : ℕ) (t : TryState) (ask : Ask WalkAnswer) → t.step ≡ Walks → WalkKnows c told t.walk → walk_ask c.places t.walk ≡ ask → HasFoundSpare t.walk
    → spare_of c.places t.walk.finding.spare ≡ n → (spare ≤ c.places.overflow → t.walk.finding.spare ≤ c.places.overflow) → Spared c spare n (walk_ledto c.places t ask)
unfolding walk_ledto
walk_spared c told spare n t (Done its) at knows e has now few = by_shift (has_walked its && must_shift (record t { spare = t.walk.spare }))
  where
    same : t.walk.spare ≡ t.walk.finding.spare
    same = has (is_behind c told t.walk t.walk.step its knows.its_row e)

    by_shift : (b : Bool) → Spared c spare n (if b then ends c.places (record t { spare = t.walk.spare }) answer.Shift else walked c.places (record t { spare = t.walk.spare }) its)
    by_shift true = kept c spare n t.walk.spare (ends c.places (record t { spare = t.walk.spare }) answer.Shift) (ends_keeps c.places (record t { spare = t.walk.spare }) answer.Shift) (ap (spare_of c.places) same ∙ now) (λ low. subst (λ x. x ≤ c.places.overflow) (sym same) (few low))
    by_shift false = kept c spare n t.walk.spare (walked c.places (record t { spare = t.walk.spare }) its) (walked_keeps c.places (record t { spare = t.walk.spare }) its) (ap (spare_of c.places) same ∙ now) (λ low. subst (λ x. x ≤ c.places.overflow) (sym same) (few low))
walk_spared c told spare n t ask at knows e has now few = record {
  now = subst (λ s. spare_of c.places (spare_at t s) ≡ n) (sym at) now;
  few = λ low. subst (λ s. spare_at t s ≤ c.places.overflow) (sym at) (few low);
  walk = subst (AtWalk t) (sym at) has;
}

-- the state that a reply meets is as it was
keeps_at : (t : TryState) (step : Trying) → t.step ≡ step → spare_at t step ≡ t.spare → AtWalk t step → Keeps t.spare t
keeps_at t step at same walk = record { its_spare = ap (spare_at t) at ∙ same; walk = subst (AtWalk t) (sym at) walk }

-- each step of each try
row_spared : (c : Trial) (t : TryState) (step : Trying) (reply spare n : ℕ) → t.step ≡ step → TryRow c anything t step → spare_of c.places (spare_at t step) ≡ n → (spare ≤ c.places.overflow → spare_at t step ≤ c.places.overflow) → AtWalk t step
    → Spared c spare (spare_after c.places (trying_ask c.places (norm c t) step) reply n) (trying_next c.places c.room (quieted c t) step reply)
unfolding trying_ask trying_next
row_spared c t (Ended its) reply spare n at row now few walk = kept c spare n t.spare (quieted c t) (keeps_at (quieted c t) (Ended its) at refl tt) now few
row_spared c t TakesShared reply spare n at row now few walk =
    let s : TryState = record (quieted c t) { latching = latch_next t.latching reply } in
    subst (λ x. Spared c spare x (shared_ledto c.places s (latch_next_ask t.latching reply))) (sym (aside_after c (passed (latch_ask t.latching) answer.Shift) reply n (share_aside c anything t.latching row.its_latching)))
    (shared_spared c spare n s (latch_next_ask t.latching reply) now few (keeps_at s TakesShared at refl tt))
row_spared c t LoadsPhase reply spare n at row now few walk = phase_spared c spare n (quieted c t) (phase_said reply) now few
row_spared c t Walks reply spare n at row now few walk =
    let goes = walk_goes c anything t.walk t.walk.step reply refl row.walks.its_row walk in
    walk_spared c anything spare (spare_after c.places (passed (walk_ask c.places t.walk) answer.Shift) reply n) (record (quieted c t) { walk = walk_next c.places t.walk reply }) (walk_ask c.places (walk_next c.places t.walk reply)) at
    (walk_true c anything t.walk reply row.walks tt) refl goes.found (goes.told n now) (λ low. goes.there (few low))
row_spared c t CountsTaken reply spare n at row now few walk = kept c spare n t.spare (count_loaded c.places (quieted c t) reply) (count_keeps c.places (quieted c t) reply) now few
row_spared c t (LoadsSafe addr version) reply spare n at row now few walk = kept c spare n t.spare (safe_loaded c.places (quieted c t) addr version reply) (safe_keeps c.places (quieted c t) addr version reply) now few
row_spared c t (SwapsValue addr) reply spare n at row now few walk = kept c spare n t.spare (takes_effect c.places (quieted c t) (reply_from None c.request.op)) (effect_keeps c.places (quieted c t) (reply_from None c.request.op)) now few
row_spared c t (LoadsCurrent addr) reply spare n at row now few walk =
    let s : TryState = record (quieted c t) { walk = walk_next c.places t.walk reply } in
    let ask : Ask WalkAnswer = walk_ask c.places (walk_next c.places t.walk reply) in
    aside c spare n t.spare (passed (walk_ask c.places t.walk) answer.Shift) reply (current_ledto c.places s addr ask) (loads_aside c t.walk addr row.2) now few (current_keeps c.places s addr ask (keeps_at s (LoadsCurrent addr) at refl tt))
row_spared c t (ChangesValue addr old) reply spare n at row now few walk =
    aside c spare n t.spare (Cas (record_place c.places addr.0 rec.Value) old (word_of (value_applied (value_of old) c.request.op))) reply (value_changed c.places (quieted c t) old reply)
    (value_aside c addr.0 old (word_of (value_applied (value_of old) c.request.op))) now few (changed_keeps c.places (quieted c t) old reply)
row_spared c t LoadsAnswer reply spare n at row now few walk =
    let s : TryState = record (quieted c t) { walk = walk_next c.places t.walk reply } in
    let ask : Ask WalkAnswer = walk_ask c.places (walk_next c.places t.walk reply) in
    aside c spare n t.spare (passed (walk_ask c.places t.walk) answer.Shift) reply (answer_ledto c.places s ask) (loads_aside c t.walk row.addr row.loads) now few (answer_keeps c.places s ask (keeps_at s LoadsAnswer at refl tt))
row_spared c t (TakesExclusive old) reply spare n at row now few walk =
    let s : TryState = record (quieted c t) { latching = latch_next t.latching reply } in
    aside c spare n t.spare (passed (latch_ask t.latching) answer.Shift) reply (exclusive_ledto c.places s old (latch_next_ask t.latching reply)) (alone_aside c anything t.latching row.its_latching) now few
    (alone_keeps c.places s old (latch_next_ask t.latching reply) (keeps_at s (TakesExclusive old) at refl tt))
row_spared c t LoadsOld reply spare n at row now few walk =
    let s : TryState = record (quieted c t) { walk = walk_next c.places t.walk reply } in
    let ask : Ask WalkAnswer = walk_ask c.places (walk_next c.places t.walk reply) in
    aside c spare n t.spare (passed (walk_ask c.places t.walk) answer.Shift) reply (old_ledto c.places s ask) (loads_aside c t.walk row.addr row.loads) now few (old_keeps c.places s ask (keeps_at s LoadsOld at refl tt))
row_spared c t (Appends its) reply spare n at row now few walk =
    let s : TryState = record (quieted c t) { append = append_next c.places c.room t.append reply } in
    let ask : Ask AppendAnswer = append_ask c.places (append_next c.places c.room t.append reply) in
    aside c spare n t.spare (passed (append_ask c.places t.append) answer.Shift) reply (append_ledto c.places s its ask)
    (append_aside c anything row.place row.entry (words_of c.request row.entry row.old) row.last t.append t.append.step row.appends.has_slot row.appends.its_row) now few (append_keeps c.places s its ask (keeps_at s (Appends its) at refl tt))
row_spared c t (LoadsTail waiting) reply spare n at row now few walk = kept c spare n t.spare (tail_loaded c.places (quieted c t) waiting reply) (tail_keeps c.places (quieted c t) waiting reply) now few
row_spared c t (LoadsTaken waiting) reply spare n at row now few walk = kept c spare n t.spare (taken_loaded c.places (quieted c t) waiting reply) (taken_keeps c.places (quieted c t) waiting reply) now few
row_spared c t (DropsExclusive its) reply spare n at row now few walk =
    let s : TryState = record (quieted c t) { latching = latch_next t.latching reply } in
    aside c spare n t.spare (passed (latch_ask t.latching) its) reply (exclusive_dropped c.places s its (latch_next_ask t.latching reply)) (subst (λ x. IsAside c (passed (latch_ask x) its)) (sym row.its_latching) (drop_aside c its)) now few
    (drop_keeps c.places s its (latch_next_ask t.latching reply) (keeps_at s (DropsExclusive its) at refl tt))
row_spared c t (DropsShared its) reply spare n at row now few walk =
    let s : TryState = record (quieted c t) { latching = latch_next t.latching reply } in
    aside c spare n t.spare (passed (latch_ask t.latching) its) reply (shared_dropped s its (latch_next_ask t.latching reply)) (subst (λ x. IsAside c (passed (latch_ask x) its)) (sym row.its_latching) (unshare_aside c its)) now few
    (unshare_keeps s its (latch_next_ask t.latching reply) (keeps_at s (DropsShared its) at refl tt))

walk_step_uses : (c : Trial) (w : WalkState) (step : Walking) (n : ℕ) → WalkRow c anything w step → spare_of c.places w.finding.spare ≡ n → UsesSpare c.places n (passed (walking_ask c.places w step) answer.Shift)
unfolding walking_ask passed
walk_step_uses c w (walking.Ended its) n row now = tt
walk_step_uses c w walking.Finds n row now = walk_uses c anything w.finding n row.0.0 row.0.1 now
walk_step_uses c w (walking.Meets addr) n row now = aside_uses c n (passed (passed (load_ask c.places w.loading) walk.Contended) answer.Shift) (load_aside c w.loading)
walk_step_uses c w (walking.HasFound addr version) n row now = tt
walk_step_uses c w walking.LoadsValue n row now = absurd row

-- each ask of each try
row_uses : (c : Trial) (t : TryState) (step : Trying) (n : ℕ) → TryRow c anything t step → spare_of c.places (spare_at t step) ≡ n → UsesSpare c.places n (trying_ask c.places (norm c t) step)
unfolding trying_ask
row_uses c t (Ended its) n row now = tt
row_uses c t TakesShared n row now = aside_uses c n (passed (latch_ask t.latching) answer.Shift) (share_aside c anything t.latching row.its_latching)
row_uses c t LoadsPhase n row now = tt
row_uses c t Walks n row now = walk_step_uses c t.walk t.walk.step n row.walks.its_row now
row_uses c t CountsTaken n row now = tt
row_uses c t (LoadsSafe addr version) n row now = tt
row_uses c t (SwapsValue addr) n row now = tt
row_uses c t (LoadsCurrent addr) n row now = aside_uses c n (passed (walk_ask c.places t.walk) answer.Shift) (loads_aside c t.walk addr row.2)
row_uses c t (ChangesValue addr old) n row now =
    aside_uses c n (Cas (record_place c.places addr.0 rec.Value) old (word_of (value_applied (value_of old) c.request.op))) (value_aside c addr.0 old (word_of (value_applied (value_of old) c.request.op)))
row_uses c t LoadsAnswer n row now = aside_uses c n (passed (walk_ask c.places t.walk) answer.Shift) (loads_aside c t.walk row.addr row.loads)
row_uses c t (TakesExclusive old) n row now = aside_uses c n (passed (latch_ask t.latching) answer.Shift) (alone_aside c anything t.latching row.its_latching)
row_uses c t LoadsOld n row now = aside_uses c n (passed (walk_ask c.places t.walk) answer.Shift) (loads_aside c t.walk row.addr row.loads)
row_uses c t (Appends its) n row now =
    aside_uses c n (passed (append_ask c.places t.append) answer.Shift) (append_aside c anything row.place row.entry (words_of c.request row.entry row.old) row.last t.append t.append.step row.appends.has_slot row.appends.its_row)
row_uses c t (LoadsTail waiting) n row now = tt
row_uses c t (LoadsTaken waiting) n row now = tt
row_uses c t (DropsExclusive its) n row now = aside_uses c n (passed (latch_ask t.latching) its) (subst (λ x. IsAside c (passed (latch_ask x) its)) (sym row.its_latching) (drop_aside c its))
row_uses c t (DropsShared its) n row now = aside_uses c n (passed (latch_ask t.latching) its) (subst (λ x. IsAside c (passed (latch_ask x) its)) (sym row.its_latching) (unshare_aside c its))

normal_ask : (c : Trial) (t : TryState) → t ≡ norm c t → try_ask c.places t ≡ trying_ask c.places (norm c t) t.step
normal_ask c t same = ap (λ x. trying_ask c.places x t.step) same

run_spared : (c : Trial) (spare : ℕ) (replies : List ℕ) → Spared c spare (spare_told c.places (spare_of c.places spare) (exchanges c (trial_begun c spare) replies)) (try_run c (trial_begun c spare) replies)
run_spared c spare [] = begun_spared c spare
run_spared c spare (reply ∷ earlier) =
    let t : TryState = try_run c (trial_begun c spare) earlier in
    let n : ℕ = spare_told c.places (spare_of c.places spare) (exchanges c (trial_begun c spare) earlier) in
    let known = any_known c spare earlier in
    let so = run_spared c spare earlier in
    subst (λ ask. Spared c spare (spare_after c.places ask reply n) (try_next c.places c.room t reply)) (sym (normal_ask c t known.same))
    (subst (λ s. Spared c spare (spare_after c.places (trying_ask c.places (norm c t) t.step) reply n) s) (quieted_next c t reply known.same) (row_spared c t t.step reply spare n refl known.row so.now so.few so.walk))

pub each_uses_spare : EachUsesSpare
each_uses_spare c spare replies =
    let t : TryState = try_run c (trial_begun c spare) replies in
    let n : ℕ = spare_told c.places (spare_of c.places spare) (exchanges c (trial_begun c spare) replies) in
    let known = any_known c spare replies in
    subst (UsesSpare c.places n) (sym (normal_ask c t known.same)) (row_uses c t t.step n known.row (run_spared c spare replies).now)

pub each_tells_spare : EachTellsSpare
each_tells_spare c spare replies its e = record {
  told = λ low. sym (spare_there c t.spare (subst (λ x. x ≤ c.places.overflow) at (so.few low))) ∙ sym (ap (spare_of c.places) at) ∙ so.now ∙ ap (λ n. spare_told c.places n (exchanges c (trial_begun c spare) replies)) (spare_there c spare low);
  few = λ low. subst (λ x. x ≤ c.places.overflow) at (so.few low);
  any = sym (ap (spare_of c.places) at) ∙ so.now;
}
  where
    t : TryState
    t = try_run c (trial_begun c spare) replies

    so : Spared c spare (spare_told c.places (spare_of c.places spare) (exchanges c (trial_begun c spare) replies)) t
    so = run_spared c spare replies

    at : spare_at t t.step ≡ t.spare
    at = ap (spare_at t) (at_end c anything (effects_of c (trial_begun c spare) replies) t its (any_known c spare replies) e)
