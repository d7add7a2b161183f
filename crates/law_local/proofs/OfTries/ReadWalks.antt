-- How far a read has come goes along with its walk and its try.
use Rattle.std.proofs.Common.{◌≡◌, inl, inr, ℕ, ◌∙◌, refl, sym, ap, subst, Bool, true, false, Option, Some, None}
use Rattle.std.specs.Prelude.{◌&&◌, ◌||◌, if◌then◌else◌, nat_lt, nat_le}
use Rattle.fkv_base.specs.declared.numbers.Key.{Key}
use Rattle.fkv_map.specs.Map.{absent_word}
use Rattle.fkv_plane.specs.declared.asks.Ask.{Ask}
use Rattle.fkv_plane.specs.declared.asks.Ask.TheVariants.{Done}
use Rattle.fkv_plane.specs.declared.places.Places.{Places}
use Rattle.fkv_plane.specs.Passing.{passed, is_done}
use Rattle.fkv_log.specs.declared.regions.Region.TheVariants as region
use Rattle.fkv_log.specs.Loading.{load_next, load_next_ask}
use Rattle.fkv_index.specs.declared.finding.Found.{Found}
use Rattle.fkv_index.specs.declared.finding.Found.TheVariants as found
use Rattle.fkv_index.specs.declared.finding.FindAnswer.{FindAnswer}
use Rattle.fkv_index.specs.Slots.{entry_addr}
use Rattle.fkv_index.specs.Finding.{find_ask, find_next, find_next_ask}
use Rattle.law_log.specs.Chains.{head_of}
use Rattle.law_log.specs.Ghosts.{Log, Reading, found as found_there}
use Rattle.fkv_ops.specs.declared.answers.Reason.TheVariants as reason
use Rattle.fkv_ops.specs.declared.answers.TryAnswer.{TryAnswer}
use Rattle.fkv_ops.specs.declared.answers.TryAnswer.TheVariants as answer
use Rattle.fkv_ops.specs.declared.requests.Occasion.{Occasion}
use Rattle.fkv_ops.specs.declared.requests.Occasion.TheVariants.{Call, Poll}
use Rattle.fkv_ops.specs.declared.trying.OldValue.TheVariants.{Known}
use Rattle.fkv_ops.specs.declared.trying.Trying.{Trying}
use Rattle.fkv_ops.specs.declared.trying.Trying.TheVariants as try
use Rattle.fkv_ops.specs.declared.walking.WalkAnswer.{WalkAnswer}
use Rattle.fkv_ops.specs.declared.walking.WalkAnswer.TheVariants as walk
use Rattle.fkv_ops.specs.declared.walking.Walking.{Walking}
use Rattle.fkv_ops.specs.declared.walking.Walking.TheVariants.{Ended, Finds, Meets, HasFound, LoadsValue}
use Rattle.fkv_ops.specs.Requests.{is_read, is_blind, is_chain_end}
use Rattle.fkv_ops.specs.Values.{value_of}
use Rattle.fkv_ops.specs.Walking.{WalkState, walking_ask, walk_ask, slot_found, find_ledto, load_ledto, value_ledto, walking_next, walk_next, walk_on}
use Rattle.fkv_ops.specs.Trying.{TryState, trying_ask, try_ask, must_count, ends, full_at, must_shift, copies, awaits, held_used, region_met, walked, has_walked, walk_ledto, told_value, answer_ledto, trying_next, try_next}
use Rattle.law_local.specs.Tries.Replies.{IsTrueOfWalk, IsTrueReply}
use Rattle.law_local.specs.Tries.WalkRows.{begin_of, WalkRow, WalkKnows}
use Rattle.law_local.specs.Tries.Tells.{BeginsAtFound, BeginsBehind}
use Rattle.law_local.specs.Tries.TryRows.{key_in, IsFree, TryRow, TryKnows}
use Rattle.law_local.specs.Tries.ReadRows.{GoesFrom, IsCalledFor, EndReads, WalkReads, TryReads, finds_start, search_starts, walk_starts, try_starts, started}
use Rattle.law_local.proofs.OfTries.Tests.{not_both}
use Rattle.law_local.proofs.OfTries.WalkRows.{same_on, loads_value, loads_same}
use Rattle.law_local.proofs.OfTries.Tells.{the_answer, passed_answer, ends_free}
use Rattle.law_local.proofs.OfTries.WalkBegins.{load_same, value_same, find_begins}

-- ---- a walk
-- one that goes down from somewhere has been called
pub going : (reading : Reading) (key from : ℕ) → GoesFrom reading key from → IsCalledFor reading key
going reading key from goes = inr (from, goes)

going_end : (key : ℕ) (reading : Reading) (from : ℕ) (b : Bool) → GoesFrom reading key from → EndReads key reading from b
going_end key reading from true goes = goes
going_end key reading from false goes = going reading key from goes

going_any : (key : ℕ) (reading : Reading) (w : WalkState) (step : Walking) → GoesFrom reading key (begin_of w) → WalkReads key reading w step
going_any key reading w Finds goes = going reading key (begin_of w) goes
going_any key reading w (Ended its) goes = going_end key reading (begin_of w) (has_walked its) goes
going_any key reading w (Meets addr) goes = goes
going_any key reading w (HasFound addr version) goes = goes
going_any key reading w LoadsValue goes = goes

called_end : (key : ℕ) (reading : Reading) (from : ℕ) (b : Bool) → EndReads key reading from b → IsCalledFor reading key
called_end key reading from true goes = going reading key from goes
called_end key reading from false called = called

called_any : (key : ℕ) (reading : Reading) (w : WalkState) (step : Walking) → WalkReads key reading w step → IsCalledFor reading key
called_any key reading w Finds reads = reads
called_any key reading w (Ended its) reads = called_end key reading (begin_of w) (has_walked its) reads
called_any key reading w (Meets addr) reads = going reading key (begin_of w) reads
called_any key reading w (HasFound addr version) reads = going reading key (begin_of w) reads
called_any key reading w LoadsValue reads = going reading key (begin_of w) reads

-- where its chain begins it goes down from there
found_goes : (home : ℕ → ℕ) (log : Log) (key : ℕ) (reading : Reading) → IsCalledFor reading key → GoesFrom (found_there home log reading) key (head_of (log.chains (home key)))
found_goes home log key reading (inl called) = (called.0, ap (found_there home log) called.1)
found_goes home log key reading (inr goes) = (goes.1.0, ap (found_there home log) goes.1.1)

at_head : (home : ℕ → ℕ) (log : Log) (key : ℕ) (reading : Reading) (w : WalkState) (step : Walking) → IsCalledFor reading key → begin_of w ≡ head_of (log.chains (home key)) → WalkReads key (found_there home log reading) w step
at_head home log key reading w step called same = going_any key (found_there home log reading) w step (subst (GoesFrom (found_there home log reading) key) (sym same) (found_goes home log key reading called))

slot_reads : (home : ℕ → ℕ) (log : Log) (p : Places) (reading : Reading) (w : WalkState) (its : Found) → IsCalledFor reading w.key.0 → BeginsAtFound (head_of (log.chains (home w.key.0))) (begin_of (slot_found p w its)) its
    → WalkReads w.key.0 (started home log reading (finds_start its)) (slot_found p w its) (slot_found p w its).step
slot_reads home log p reading w (found.Slot place word) called begins = at_head home log w.key.0 reading (slot_found p w (found.Slot place word)) (slot_found p w (found.Slot place word)).step called begins
slot_reads home log p reading w found.NoSlot called begins = at_head home log w.key.0 reading (slot_found p w found.NoSlot) (slot_found p w found.NoSlot).step called begins
slot_reads home log p reading w found.Full called begins = called
slot_reads home log p reading w found.Kept called begins = called
slot_reads home log p reading w found.Contended called begins = called

find_reads : (home : ℕ → ℕ) (log : Log) (p : Places) (reading : Reading) (w : WalkState) (ask : Ask FindAnswer) → w.step ≡ Finds → IsCalledFor reading w.key.0 → BeginsBehind (head_of (log.chains (home w.key.0))) (begin_of (find_ledto p w ask)) ask
    → WalkReads w.key.0 (started home log reading (search_starts ask)) (find_ledto p w ask) (find_ledto p w ask).step
unfolding find_ledto
find_reads home log p reading w (Done its) at called begins = slot_reads home log p reading (record w { spare = its.spare }) its.found called begins
find_reads home log p reading w ask at called begins = subst (WalkReads w.key.0 reading w) (sym at) called

row_reads : (home : ℕ → ℕ) (log : Log) (p : Places) (reading : Reading) (w : WalkState) (step : Walking) (reply : ℕ) → w.step ≡ step → WalkRow home log w step → IsTrueOfWalk home log p w step reply → WalkReads w.key.0 reading w step
    → WalkReads w.key.0 (started home log reading (walk_starts p w step reply)) (walking_next p w step reply) (walking_next p w step reply).step
unfolding walking_next
row_reads home log p reading w (Ended its) reply at row says reads = subst (WalkReads w.key.0 reading w) (sym at) reads
row_reads home log p reading w Finds reply at row says reads =
    find_reads home log p reading (record w { finding = find_next p w.finding reply }) (find_next_ask p w.finding reply) at reads (find_begins home log p (record w { finding = find_next p w.finding reply }) (find_next_ask p w.finding reply) row says)
row_reads home log p reading w (Meets addr) reply at row says reads =
    let after : WalkState = load_ledto p (record w { loading = load_next w.loading reply }) addr (load_next_ask p w.loading reply) in
    going_any w.key.0 reading after after.step (subst (λ n. GoesFrom reading w.key.0 (entry_addr n)) (sym (load_same p (record w { loading = load_next w.loading reply }) addr (load_next_ask p w.loading reply))) reads)
row_reads home log p reading w (HasFound addr version) reply at row says reads = subst (WalkReads w.key.0 reading w) (sym at) reads
row_reads home log p reading w LoadsValue reply at row says reads =
    let after : WalkState = value_ledto (record w { loading = load_next w.loading reply }) (load_next_ask p w.loading reply) in
    going_any w.key.0 reading after after.step (subst (λ n. GoesFrom reading w.key.0 (entry_addr n)) (sym (value_same (record w { loading = load_next w.loading reply }) (load_next_ask p w.loading reply))) reads)

walk_reads : (home : ℕ → ℕ) (log : Log) (p : Places) (reading : Reading) (w : WalkState) (reply : ℕ) → WalkKnows home log w → IsTrueOfWalk home log p w w.step reply → WalkReads w.key.0 reading w w.step
    → WalkReads w.key.0 (started home log reading (walk_starts p w w.step reply)) (walk_next p w reply) (walk_next p w reply).step
walk_reads home log p reading w reply knows says reads = row_reads home log p reading w w.step reply refl knows says reads

-- where the walk comes to an end
ended_reads : (key : ℕ) (reading : Reading) (from : ℕ) (its it : WalkAnswer) → it ≡ its → EndReads key reading from (has_walked it) → EndReads key reading from (has_walked its)
ended_reads key reading from its it e reads = subst (λ a. EndReads key reading from (has_walked a)) e reads

walk_the : (a b : WalkAnswer) → Done a ≡ Done b → a ≡ b
walk_the a b e = cc

walk_passed : {A : Type 0} (ask : Ask A) (b : WalkAnswer) → passed ask walk.Contended ≡ Done b → walk.Contended ≡ b
unfolding passed
walk_passed (Done its) b e = cc
walk_passed ask b e = cc

told_reads : (key : ℕ) (reading : Reading) (p : Places) (w : WalkState) (step : Walking) (its : WalkAnswer) → WalkReads key reading w step → walking_ask p w step ≡ Done its → EndReads key reading (begin_of w) (has_walked its)
unfolding walking_ask
told_reads key reading p w (Ended it) its reads e = ended_reads key reading (begin_of w) its it (walk_the it its e) reads
told_reads key reading p w Finds its reads e = ended_reads key reading (begin_of w) its walk.Contended (walk_passed (find_ask w.finding) its e) reads
told_reads key reading p w (Meets addr) its reads e = going_end key reading (begin_of w) (has_walked its) reads
told_reads key reading p w (HasFound addr version) its reads e = going_end key reading (begin_of w) (has_walked its) reads
told_reads key reading p w LoadsValue its reads e = going_end key reading (begin_of w) (has_walked its) reads

-- ---- a try
-- a value, none, or a record of the device come from where the read goes down
abbrev pub AnswerReads : ℕ → Reading → ℕ → TryAnswer → Type 0
AnswerReads key reading from (answer.Found value) = GoesFrom reading key from
AnswerReads key reading from answer.Absent = GoesFrom reading key from
AnswerReads key reading from (answer.AwaitsDisk it) = GoesFrom reading key from
AnswerReads key reading from its = IsCalledFor reading key

pub record TryReadsOn (key : ℕ) (reading : Reading) (p : Places) (t : TryState) : Type 0 where
  pub row : TryReads key reading t t.step
  pub answers : (its : TryAnswer) → try_ask p t ≡ Done its → AnswerReads key reading (begin_of t.walk) its

ended_on : (key : ℕ) (reading : Reading) (p : Places) (t : TryState) (its : TryAnswer) → AnswerReads key reading (begin_of t.walk) its → TryReadsOn key reading p (record t { step = try.Ended its })
unfolding trying_ask
ended_on key reading p t its reads = record { row = tt; answers = λ told e. subst (AnswerReads key reading (begin_of t.walk)) (the_answer its told e) reads }

ends_on : (key : ℕ) (reading : Reading) (p : Places) (t : TryState) (its : TryAnswer) → is_read t.request.op ≡ true → IsFree t.request t.has_shared t.has_exclusive → AnswerReads key reading (begin_of t.walk) its → TryReadsOn key reading p (ends p t its)
ends_on key reading p t its reads free goes = subst (TryReadsOn key reading p) (sym (ends_free p t its reads (free reads).0 (free reads).1)) (ended_on key reading p t its goes)

-- what is under way tells no value
under_way : (key : ℕ) (reading : Reading) (from : ℕ) (ask : Ask WalkAnswer) (its : TryAnswer) → IsCalledFor reading key → passed ask answer.Shift ≡ Done its → AnswerReads key reading from its
under_way key reading from ask its called e = subst (AnswerReads key reading from) (sym (passed_answer ask answer.Shift its e)) called

answering_on : (key : ℕ) (reading : Reading) (p : Places) (t : TryState) → GoesFrom reading key (begin_of (walk_on t.walk)) → TryReadsOn key reading p (record t { walk = walk_on t.walk; step = try.LoadsAnswer })
unfolding trying_ask
answering_on key reading p t goes = record { row = goes; answers = λ its e. under_way key reading (begin_of (walk_on t.walk)) (walk_ask p (walk_on t.walk)) its (going reading key (begin_of (walk_on t.walk)) goes) e }

walking_on_reads : (key : ℕ) (reading : Reading) (p : Places) (t : TryState) → t.step ≡ try.Walks → WalkReads key reading t.walk t.walk.step → TryReadsOn key reading p t
unfolding trying_ask
walking_on_reads key reading p t at reads = record {
  row = subst (TryReads key reading t) (sym at) reads;
  answers = λ its e. under_way key reading (begin_of t.walk) (walk_ask p t.walk) its (called_any key reading t.walk t.walk.step reads) (ap (trying_ask p t) (sym at) ∙ e);
}

full_on : (key : ℕ) (reading : Reading) (p : Places) (t : TryState) (occasion : Occasion) → is_read t.request.op ≡ true → IsFree t.request t.has_shared t.has_exclusive → IsCalledFor reading key → TryReadsOn key reading p (ends p t (full_at occasion answer.IndexFull))
full_on key reading p t (Call bounds) reads free called = ends_on key reading p t answer.IndexFull reads free called
full_on key reading p t Poll reads free called = ends_on key reading p t (answer.Wait reason.Full) reads free called

walked_on : (key : ℕ) (reading : Reading) (p : Places) (t : TryState) (its : WalkAnswer) → is_read t.request.op ≡ true → IsFree t.request t.has_shared t.has_exclusive → EndReads key reading (begin_of t.walk) (has_walked its) → TryReadsOn key reading p (walked p t its)
walked_on key reading p t (walk.Found addr version) reads free goes = by_read (is_read t.request.op) reads
  where
    by_read : (b : Bool) → b ≡ true
        → TryReadsOn key reading p (if b then record t { walk = walk_on t.walk; step = try.LoadsAnswer } else region_met p t addr version (if nat_lt addr.0 t.seen.offsets.head.0 then Some region.Disk else if nat_le t.seen.offsets.read_only.0 addr.0 then Some region.Mutable else None))
    by_read true e = answering_on key reading p t (subst (λ n. GoesFrom reading key (entry_addr n)) (sym (same_on t.walk)) goes)
    by_read false e = cc
walked_on key reading p t walk.Nowhere reads free goes = by_read (is_read t.request.op) reads
  where
    by_read : (b : Bool) → b ≡ true → TryReadsOn key reading p (if b then ends p t answer.Absent else if must_count p t then record t { step = try.CountsTaken } else copies p t (Known absent_word) false)
    by_read true e = ends_on key reading p t answer.Absent reads free goes
    by_read false e = cc
walked_on key reading p t (walk.OnDisk addr) reads free goes = by_read (is_read t.request.op) reads
  where
    by_end : (b : Bool) → TryReadsOn key reading p (if b then ends p t answer.Absent else awaits p t addr)
    by_end true = ends_on key reading p t answer.Absent reads free goes
    by_end false = ends_on key reading p t (answer.AwaitsDisk (record { entry = t.walk.entry; addr = addr })) reads free goes

    by_read : (b : Bool) → b ≡ true
        → TryReadsOn key reading p (if b then (if is_chain_end t.request.floor addr then ends p t answer.Absent else awaits p t addr) else if is_blind t.request.op || is_chain_end t.request.floor addr then copies p t (Known absent_word) false else held_used p t addr t.request.held)
    by_read true e = by_end (is_chain_end t.request.floor addr)
    by_read false e = cc
walked_on key reading p t (walk.Value value) reads free called = ends_on key reading p t (answer.Wait reason.Contended) reads free called
walked_on key reading p t walk.Full reads free called = full_on key reading p t t.occasion reads free called
walked_on key reading p t walk.Kept reads free called = full_on key reading p t t.occasion reads free called
walked_on key reading p t walk.Contended reads free called = ends_on key reading p t (answer.Wait reason.Contended) reads free called

walk_led_on : (key : ℕ) (reading : Reading) (p : Places) (t : TryState) (ask : Ask WalkAnswer) → is_read t.request.op ≡ true → IsFree t.request t.has_shared t.has_exclusive → t.step ≡ try.Walks → WalkReads key reading t.walk t.walk.step → walk_ask p t.walk ≡ ask
    → TryReadsOn key reading p (walk_ledto p t ask)
unfolding walk_ledto
walk_led_on key reading p t (Done its) reads free at goes asks = by_shift (has_walked its && must_shift (record t { spare = t.walk.spare }))
  where
    by_shift : (b : Bool) → TryReadsOn key reading p (if b then ends p (record t { spare = t.walk.spare }) answer.Shift else walked p (record t { spare = t.walk.spare }) its)
    by_shift true = ends_on key reading p (record t { spare = t.walk.spare }) answer.Shift reads free (called_any key reading t.walk t.walk.step goes)
    by_shift false = walked_on key reading p (record t { spare = t.walk.spare }) its reads free (told_reads key reading p t.walk t.walk.step its goes asks)
walk_led_on key reading p t ask reads free at goes asks = walking_on_reads key reading p t at goes

answer_on : (key : ℕ) (reading : Reading) (p : Places) (t : TryState) (value : ℕ) → is_read t.request.op ≡ true → IsFree t.request t.has_shared t.has_exclusive → GoesFrom reading key (begin_of t.walk) → TryReadsOn key reading p (answer_ledto p t (Done (walk.Value value)))
unfolding answer_ledto
answer_on key reading p t value reads free goes = by_value (value_of value)
  where
    by_value : (its : Option ℕ) → TryReadsOn key reading p (ends p t (told_value its))
    by_value None = ends_on key reading p t answer.Absent reads free goes
    by_value (Some its) = ends_on key reading p t (answer.Found (record { 0 = its })) reads free goes

done_not : {X : Type 0} {A : Type 0} (its : A) → is_done (Done its) ≡ false → X
done_not its e = cc

trying_reads : (home : ℕ → ℕ) (log : Log) (p : Places) (room : ℕ) (reading : Reading) (t : TryState) (step : Trying) (reply : ℕ) → is_read t.request.op ≡ true → IsFree t.request t.has_shared t.has_exclusive → t.step ≡ step → TryRow home log t step
    → is_done (trying_ask p t step) ≡ false → IsTrueReply home log p t step reply → TryReads (key_in t.request) reading t step
    → TryReadsOn (key_in t.request) (started home log reading (try_starts p t step reply)) p (trying_next p room (record t { effect = None }) step reply)
unfolding trying_next trying_ask
trying_reads home log p room reading t (try.Ended its) reply reads free at row asks says goes = done_not its asks
trying_reads home log p room reading t try.TakesShared reply reads free at row asks says goes = not_both (is_read t.request.op) reads row
trying_reads home log p room reading t try.LoadsPhase reply reads free at row asks says goes = not_both (is_read t.request.op) reads row
trying_reads home log p room reading t try.Walks reply reads free at row asks says goes =
    walk_led_on (key_in t.request) (started home log reading (walk_starts p t.walk t.walk.step reply)) p (record t { effect = None; walk = walk_next p t.walk reply }) (walk_ask p (walk_next p t.walk reply)) reads free at
    (subst (λ (k : Key). WalkReads k.0 (started home log reading (walk_starts p t.walk t.walk.step reply)) (walk_next p t.walk reply) (walk_next p t.walk reply).step) row.0.its_key
    (walk_reads home log p reading t.walk reply row.1 says (subst (λ (k : Key). WalkReads k.0 reading t.walk t.walk.step) (sym row.0.its_key) goes))) refl
trying_reads home log p room reading t try.CountsTaken reply reads free at row asks says goes = not_both (is_read t.request.op) reads row.0
trying_reads home log p room reading t (try.LoadsSafe addr version) reply reads free at row asks says goes = not_both (is_read t.request.op) reads row.0
trying_reads home log p room reading t (try.SwapsValue addr) reply reads free at row asks says goes = not_both (is_read t.request.op) reads row.0
trying_reads home log p room reading t (try.LoadsCurrent addr) reply reads free at row asks says goes = not_both (is_read t.request.op) reads row.0
trying_reads home log p room reading t (try.ChangesValue addr old) reply reads free at row asks says goes = not_both (is_read t.request.op) reads row.0
trying_reads home log p room reading t try.LoadsAnswer reply reads free at row asks says goes =
    subst (λ ask. TryReadsOn (key_in t.request) reading p (answer_ledto p (record t { effect = None; walk = walk_next p t.walk reply }) ask)) (sym (loads_value p t.walk row.addr reply row.its.loads))
    (answer_on (key_in t.request) reading p (record t { effect = None; walk = walk_next p t.walk reply }) reply reads free
    (subst (λ n. GoesFrom reading (key_in t.request) (entry_addr n)) (sym (loads_same p t.walk row.addr reply row.its.loads)) goes))
trying_reads home log p room reading t (try.TakesExclusive old) reply reads free at row asks says goes = not_both (is_read t.request.op) reads row.0
trying_reads home log p room reading t try.LoadsOld reply reads free at row asks says goes = not_both (is_read t.request.op) reads row.0
trying_reads home log p room reading t (try.Appends its) reply reads free at row asks says goes = not_both (is_read t.request.op) reads row.0
trying_reads home log p room reading t (try.LoadsTail waiting) reply reads free at row asks says goes = not_both (is_read t.request.op) reads row.0
trying_reads home log p room reading t (try.LoadsTaken waiting) reply reads free at row asks says goes = not_both (is_read t.request.op) reads row.0
trying_reads home log p room reading t (try.DropsExclusive its) reply reads free at row asks says goes = not_both (is_read t.request.op) reads row.0
trying_reads home log p room reading t (try.DropsShared its) reply reads free at row asks says goes = not_both (is_read t.request.op) reads row.0

pub try_reads : (home : ℕ → ℕ) (log : Log) (p : Places) (room : ℕ) (reading : Reading) (t : TryState) (reply : ℕ) → TryKnows home log t → is_read t.request.op ≡ true → is_done (try_ask p t) ≡ false → IsTrueReply home log p t t.step reply
    → TryReads (key_in t.request) reading t t.step → TryReadsOn (key_in t.request) (started home log reading (try_starts p t t.step reply)) p (try_next p room t reply)
try_reads home log p room reading t reply knows reads asks says goes = trying_reads home log p room reading t t.step reply reads knows.free refl knows.row asks says goes
