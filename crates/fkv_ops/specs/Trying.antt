-- One try of a request: its latch, the walk to the record of its key, and then the change in place or the new record.
use Rattle.std.specs.Prelude.{ℕ, ◌==◌, ◌&&◌, ◌||◌, not, nat_lt, nat_le, if◌then◌else◌, Bool, true, false, Option, Some, None}
use Rattle.std.proofs.Common.{arith}
use Rattle.fkv_base.specs.declared.numbers.Addr.{Addr}
use Rattle.fkv_base.specs.declared.numbers.Version.{Version}
use Rattle.fkv_base.specs.declared.phases.Phase.{Phase}
use Rattle.fkv_base.specs.declared.phases.Phase.TheVariants as phase
use Rattle.fkv_marks.specs.Marks.{mark}
use Rattle.fkv_marks.proofs.Shown.{mark_some, mark_fits}
use Rattle.fkv_map.specs.declared.operations.Reply.{Reply}
use Rattle.fkv_map.specs.Map.{absent_word}
use Rattle.fkv_map.specs.Keys.{key_of, value_applied, reply_from}
use Rattle.fkv_words.specs.declared.headers.Header.{Header}
use Rattle.fkv_words.specs.declared.phase_words.PhaseSaid.{PhaseSaid}
use Rattle.fkv_words.specs.declared.phase_words.PhaseSaid.TheVariants.{Says}
use Rattle.fkv_words.specs.PhaseWords.{phase_said}
use Rattle.fkv_plane.specs.declared.asks.Ask.{Ask}
use Rattle.fkv_plane.specs.declared.asks.Ask.TheVariants.{Load, Swap, Cas, Done}
use Rattle.fkv_plane.specs.declared.places.Places.{Places}
use Rattle.fkv_plane.specs.declared.places.SharedWord.TheVariants as one
use Rattle.fkv_plane.specs.declared.places.RecordWord.TheVariants as rec
use Rattle.fkv_plane.specs.Places.{shared_place, bucket_place, record_place}
use Rattle.fkv_plane.specs.Passing.{passed}
use Rattle.fkv_log.specs.declared.record_words.RecordWords.{RecordWords}
use Rattle.fkv_log.specs.declared.regions.Region.{Region}
use Rattle.fkv_log.specs.Regions.{seen_region_of}
use Rattle.fkv_latch.specs.declared.latching.LatchAnswer.{LatchAnswer}
use Rattle.fkv_latch.specs.declared.latching.LatchAnswer.TheVariants as latch
use Rattle.fkv_latch.specs.declared.latching.LatchTask.{LatchTask}
use Rattle.fkv_latch.specs.declared.latching.LatchTask.TheVariants.{TakeShared, DropShared, TakeExclusive, DropExclusive}
use Rattle.fkv_latch.specs.declared.latching.Latching.{Latching}
use Rattle.fkv_latch.specs.declared.latching.Latching.TheVariants.{AtRest}
use Rattle.fkv_latch.specs.Latching.{latch_first, latch_ask, latch_next, latch_next_ask}
use Rattle.fkv_index.specs.declared.homes.Home.{Home}
use Rattle.fkv_index.specs.Slots.{entry_addr, home_of}
use Rattle.fkv_index.specs.Finding.{is_beyond}
use Rattle.fkv_ops.specs.declared.answers.Reason.TheVariants as reason
use Rattle.fkv_ops.specs.declared.answers.TryAnswer.{TryAnswer}
use Rattle.fkv_ops.specs.declared.answers.TryAnswer.TheVariants as answer
use Rattle.fkv_ops.specs.declared.answers.Waiting.{Waiting}
use Rattle.fkv_ops.specs.declared.appending.AppendAnswer.{AppendAnswer}
use Rattle.fkv_ops.specs.declared.appending.AppendAnswer.TheVariants as append
use Rattle.fkv_ops.specs.declared.appending.FoundSlot.{FoundSlot}
use Rattle.fkv_ops.specs.declared.requests.HeldRecord.{HeldRecord}
use Rattle.fkv_ops.specs.declared.requests.Occasion.{Occasion}
use Rattle.fkv_ops.specs.declared.requests.Occasion.TheVariants.{Call, Poll}
use Rattle.fkv_ops.specs.declared.requests.Request.{Request}
use Rattle.fkv_ops.specs.declared.requests.Seen.{Seen}
use Rattle.fkv_ops.specs.declared.trying.OldValue.{OldValue}
use Rattle.fkv_ops.specs.declared.trying.OldValue.TheVariants.{InMemory, Known}
use Rattle.fkv_ops.specs.declared.trying.Trying.{Trying}
use Rattle.fkv_ops.specs.declared.trying.Trying.TheVariants.{Ended, TakesShared, LoadsPhase, Walks, CountsTaken, LoadsSafe, SwapsValue, LoadsCurrent, ChangesValue, LoadsAnswer, TakesExclusive, LoadsOld, Appends, LoadsTail, LoadsTaken, DropsExclusive, DropsShared}
use Rattle.fkv_ops.specs.declared.walking.WalkAnswer.{WalkAnswer}
use Rattle.fkv_ops.specs.declared.walking.WalkAnswer.TheVariants as walk
use Rattle.fkv_ops.specs.Values.{value_of, word_of}
use Rattle.fkv_ops.specs.Resting.{no_request, nothing_seen}
use Rattle.fkv_ops.specs.Bounds.{bounds_at, has_bounds, tail_bound, is_past_taken, is_past_tail}
use Rattle.fkv_ops.specs.Waiting.{told_of, waiting_of}
use Rattle.fkv_ops.specs.Requests.{purpose_at, is_read, is_blind, is_chain_end}
use Rattle.fkv_ops.specs.Walking.{WalkState, walk_rested, walk_begun, walk_ask, walk_next, walk_on}
use Rattle.fkv_ops.specs.Appending.{AppendState, append_rested, append_begun, append_ask, append_next}

pub record TryState : Type 0 where
  pub request : Request
  pub seen : Seen
  pub occasion : Occasion
  pub home : Home
  -- the request shares the latch of its bucket; the try holds that latch alone
  pub has_shared : Bool
  pub has_exclusive : Bool
  -- what the update was told whose effect the last reply made
  pub effect : Option Reply
  pub spare : ℕ
  -- the machines inside it
  pub walk : WalkState
  pub latching : Latching
  pub append : AppendState
  pub step : Trying

pub record Trier : Type 0 where
  pub places : Places
  -- the index has 2^bits buckets
  pub bits : ℕ
  -- how many addresses the log has on the device
  pub room : ℕ
  pub state : TryState

-- A try that is given this and hasn't begun. It is made of that alone: nothing is left of an earlier one.
abbrev pub new_try : ℕ → Request → Seen → Occasion → ℕ → TryState
new_try bits request seen occasion spare = record { request = request; seen = seen; occasion = occasion; home = home_of bits (key_of request.op); has_shared = request.has_latch; has_exclusive = false; effect = None; spare = spare; walk = walk_rested; latching = AtRest; append = append_rested; step = Ended answer.Shift }

-- before it first starts it is at its end, and has nothing
unfoldable pub try_rested : ℕ → TryState
try_rested bits = new_try bits no_request nothing_seen (Call None) 0

-- what each state asks
unfoldable pub trying_ask : Places → TryState → Trying → Ask TryAnswer
trying_ask p t (Ended its) = Done its
trying_ask p t TakesShared = passed (latch_ask t.latching) answer.Shift
trying_ask p t LoadsPhase = Load (shared_place one.Phase)
trying_ask p t Walks = passed (walk_ask p t.walk) answer.Shift
trying_ask p t CountsTaken = Load (shared_place one.Taken)
trying_ask p t (LoadsSafe addr version) = Load (shared_place one.SafeReadOnly)
trying_ask p t (SwapsValue addr) = Swap (record_place p addr.0 rec.Value) (word_of (value_applied None t.request.op))
trying_ask p t (LoadsCurrent addr) = passed (walk_ask p t.walk) answer.Shift
trying_ask p t (ChangesValue addr old) = Cas (record_place p addr.0 rec.Value) old (word_of (value_applied (value_of old) t.request.op))
trying_ask p t LoadsAnswer = passed (walk_ask p t.walk) answer.Shift
trying_ask p t (TakesExclusive old) = passed (latch_ask t.latching) answer.Shift
trying_ask p t LoadsOld = passed (walk_ask p t.walk) answer.Shift
trying_ask p t (Appends its) = passed (append_ask p t.append) answer.Shift
trying_ask p t (LoadsTail waiting) = Load (shared_place one.Tail)
trying_ask p t (LoadsTaken waiting) = Load (shared_place one.Taken)
trying_ask p t (DropsExclusive its) = passed (latch_ask t.latching) its
trying_ask p t (DropsShared its) = passed (latch_ask t.latching) its

abbrev pub try_ask : Places → TryState → Ask TryAnswer
try_ask p t = trying_ask p t t.step

-- the latch of the home's bucket is in the bucket's last word
abbrev pub with_latch : Places → TryState → LatchTask → Trying → TryState
with_latch p t task step = record t { latching = latch_first task (bucket_place p t.home.bucket 7); step = step }

abbrev pub is_wait : TryAnswer → Bool
is_wait (answer.Wait its) = true
is_wait (answer.AwaitsDisk its) = true
is_wait its = false

-- the try ends, and its request keeps the shared latch exactly where it has to wait
abbrev pub ended_without : Places → TryState → TryAnswer → TryState
ended_without p t its = if t.has_shared && not (is_wait its) then with_latch p (record t { has_shared = false }) DropShared (DropsShared its) else record t { step = Ended its }

-- the exclusive latch is dropped however the try ends
unfoldable pub ends_so : Places → TryState → TryAnswer → TryState
ends_so p t its = if t.has_exclusive then with_latch p (record t { has_exclusive = false }) DropExclusive (DropsExclusive its) else ended_without p t its

-- an update at its call, of a store whose calls have bounds
abbrev pub is_bounded : TryState → Bool
is_bounded t = has_bounds (bounds_at t.occasion) && not (is_read t.request.op)

-- such an update loads the tail before it waits
abbrev pub ends_by : Places → TryState → TryAnswer → Option Waiting → TryState
ends_by p t its None = ends_so p t its
ends_by p t its (Some waiting) = if is_bounded t then record t { step = LoadsTail waiting } else ends_so p t its

unfoldable pub ends : Places → TryState → TryAnswer → TryState
ends p t its = ends_by p t its (waiting_of its)

-- where no more than the margin of the log is left, it is refused. Else, where its key has no entry, the count of taken overflow buckets is loaded too
unfoldable pub tail_loaded : Places → TryState → Waiting → ℕ → TryState
tail_loaded p t waiting tail =
    if is_past_tail (bounds_at t.occasion) tail then ends_so p t answer.LogFull else if t.walk.entry == 0 then record t { step = LoadsTaken waiting } else ends_so p t (told_of waiting)

-- where no more than the margin of the index is left, it is refused
unfoldable pub taken_loaded : Places → TryState → Waiting → ℕ → TryState
taken_loaded p t waiting taken = if is_past_taken (bounds_at t.occasion) taken then ends_so p t answer.IndexFull else ends_so p t (told_of waiting)

-- the update has taken effect
abbrev pub takes_effect : Places → TryState → Reply → TryState
takes_effect p t its = ends p (record t { effect = Some its }) (answer.Done its)

-- where the index or the log is full a new request is refused, and a pending one waits
abbrev pub full_at : Occasion → TryAnswer → TryAnswer
full_at (Call bounds) refused = refused
full_at Poll refused = answer.Wait reason.Full

abbrev pub walks : Places → TryState → TryState
walks p t = record t { walk = walk_begun p t.home (key_of t.request.op) (purpose_at t.occasion t.request.op) t.seen.offsets.head t.spare; step = Walks }

abbrev pub is_prepare : Phase → Bool
is_prepare phase.Prepare = true
is_prepare its = false

-- while a commit's sessions go on to the next version, records of that version are made under the exclusive latch
abbrev pub is_moving_on : Phase → Bool
is_moving_on phase.InProgress = true
is_moving_on phase.WaitPending = true
is_moving_on its = false

-- in prepare an update shares the latch of its bucket
abbrev pub wants_shared : TryState → Bool
wants_shared t = is_prepare t.seen.phase && not (is_read t.request.op) && not t.has_shared

abbrev pub try_begun : Places → ℕ → Request → Seen → Occasion → ℕ → TryState
try_begun p bits request seen occasion spare =
    let its : TryState = new_try bits request seen occasion spare in
    if wants_shared its then with_latch p its TakeShared TakesShared else walks p its

-- past the versions with marks of their own an older version has the mark too
abbrev pub is_marked : Version → Bool
is_marked version = nat_lt 8191 version.0

-- and so it is with the next version: its mark isn't above this one's
abbrev pub is_next_marked : Version → Bool
is_next_marked version = nat_le 8191 version.0

-- The latch is shared. Where the mark of a record doesn't tell whether others have gone on, the phase word is loaded before the walk: it tells, and
-- from then on the share keeps them from making a record of the next version in this bucket.
abbrev pub latch_shared : Places → TryState → TryState
latch_shared p t = if is_next_marked t.request.version then record t { step = LoadsPhase } else walks p t

-- one that holds the latch alone is of the next version already
unfoldable pub shared_ledto : Places → TryState → Ask LatchAnswer → TryState
shared_ledto p t (Done latch.Taken) = latch_shared p (record t { has_shared = true })
shared_ledto p t (Done its) = ends p t answer.Shift
shared_ledto p t ask = t

-- the word says prepare of this version
abbrev pub is_still_in : PhaseSaid → Version → Bool
is_still_in (Says phase.Prepare its) version = its.0 == version.0
is_still_in said version = false

-- any other word tells that others have gone on
unfoldable pub phase_loaded : Places → TryState → PhaseSaid → TryState
phase_loaded p t said = if is_still_in said t.request.version then walks p t else ends p t answer.Shift

-- so is one that has published a record of the next version at the head of the chain, whose header has this mark
abbrev pub is_above : Option Version → Version → Bool
is_above None version = false
is_above (Some first) version = nat_lt (mark version.0) first.0

abbrev pub must_shift : TryState → Bool
must_shift t = is_prepare t.seen.phase && not (is_read t.request.op) && not (is_next_marked t.request.version) && is_above t.walk.first t.request.version

-- a record of the session's version is copied, or made, under the exclusive latch where others may still be at the version before,
-- and no record of that version was found in memory
abbrev pub wants_exclusive : TryState → Bool → Bool
wants_exclusive t is_current = is_moving_on t.seen.phase && t.request.version.0 == t.seen.version.0 && not is_current

-- the header of the new record: before it comes the record that the entry names, and of its version it has the mark
abbrev pub header_of : Request → ℕ → Header
header_of request entry = record { previous = record { 0 = entry_addr entry }; version = record { 0 = mark request.version.0 }; invalid = false; previous_fits = omega arith; some_version = mark_some request.version.0 request.some_version; version_fits = mark_fits request.version.0 }

abbrev pub words_of : Request → ℕ → Option ℕ → RecordWords
words_of request entry old = record { header = header_of request entry; key = key_of request.op; value = word_of (value_applied old request.op) }

abbrev pub slot_of : TryState → FoundSlot
slot_of t = record { place = t.walk.place; entry = t.walk.entry; tag = t.home.tag }

-- a new record is made of the old value
unfoldable pub appends : TryState → ℕ → TryState
appends t old = record t { append = append_begun (slot_of t) (words_of t.request t.walk.entry (value_of old)) (tail_bound (bounds_at t.occasion)); step = Appends (reply_from (value_of old) t.request.op) }

-- the old value is loaded first, where it is in memory and counts
unfoldable pub copies_from : TryState → OldValue → TryState
copies_from t (Known old) = appends t old
copies_from t InMemory = if is_blind t.request.op then appends t absent_word else record t { walk = walk_on t.walk; step = LoadsOld }

unfoldable pub copies : Places → TryState → OldValue → Bool → TryState
copies p t old is_current = if wants_exclusive t is_current then with_latch p t TakeExclusive (TakesExclusive old) else copies_from t old

abbrev pub awaits : Places → TryState → Addr → TryState
awaits p t addr = ends p t (answer.AwaitsDisk (record { entry = t.walk.entry; addr = addr }))

-- What the request holds tells the old value where it was read along a walk from the same entry: the record of its key, or the last of
-- the chain. Else the walk goes on at the record before it. The chain ends below the request's floor too.
unfoldable pub held_used : Places → TryState → Addr → Option HeldRecord → TryState
held_used p t addr None = awaits p t addr
held_used p t addr (Some held) =
    if held.entry == t.walk.entry then (if held.key.0 == (key_of t.request.op).0 then copies p t (Known held.value) false else if is_chain_end t.request.floor held.previous then copies p t (Known absent_word) false else awaits p t held.previous)
    else awaits p t addr

-- An update with bounds whose key has no entry, and whose empty slot is in an overflow bucket that others have linked. Such a slot may be one that
-- a poll needs.
abbrev pub must_count : Places → TryState → Bool
must_count p t = is_bounded t && t.walk.entry == 0 && is_beyond p t.walk.finding

-- the chain has no record of the key
abbrev pub met_nowhere : Places → TryState → TryState
met_nowhere p t = if is_read t.request.op then ends p t answer.Absent else if must_count p t then record t { step = CountsTaken } else copies p t (Known absent_word) false

-- where no more than the margin of the index is left, the update is refused
unfoldable pub count_loaded : Places → TryState → ℕ → TryState
count_loaded p t taken = if is_past_taken (bounds_at t.occasion) taken then ends p t answer.IndexFull else copies p t (Known absent_word) false

-- The chain leaves memory. Where it leads below the request's floor it has ended: there is no record of the key.
abbrev pub met_disk : Places → TryState → Addr → TryState
met_disk p t addr =
    if is_read t.request.op then (if is_chain_end t.request.floor addr then ends p t answer.Absent else awaits p t addr)
    else if is_blind t.request.op || is_chain_end t.request.floor addr then copies p t (Known absent_word) false else held_used p t addr t.request.held

-- a record with the mark of the update's version is changed in place, where the session may: by one Swap where the old value doesn't count
abbrev pub changes : TryState → Addr → TryState
changes t addr = if is_blind t.request.op then record t { step = SwapsValue addr } else record t { walk = walk_on t.walk; step = LoadsCurrent addr }

abbrev pub is_own_version : TryState → Version → Bool
is_own_version t version = version.0 == mark t.request.version.0

-- by the region of the record: else the safe read-only offset is loaded, or the record is copied
abbrev pub region_met : Places → TryState → Addr → Version → Option Region → TryState
region_met p t addr version None = record t { step = LoadsSafe addr version }
region_met p t addr version (Some its) = if is_own_version t version then changes t addr else copies p t InMemory false

abbrev pub met_record : Places → TryState → Addr → Version → TryState
met_record p t addr version = if is_read t.request.op then record t { walk = walk_on t.walk; step = LoadsAnswer } else region_met p t addr version (seen_region_of addr.0 t.seen.offsets)

-- where the walk has ended
abbrev pub walked : Places → TryState → WalkAnswer → TryState
walked p t (walk.Found addr version) = met_record p t addr version
walked p t walk.Nowhere = met_nowhere p t
walked p t (walk.OnDisk addr) = met_disk p t addr
walked p t (walk.Value value) = ends p t (answer.Wait reason.Contended)
walked p t walk.Full = ends p t (full_at t.occasion answer.IndexFull)
walked p t walk.Kept = ends p t (full_at t.occasion answer.IndexFull)
walked p t walk.Contended = ends p t (answer.Wait reason.Contended)

-- whether the walk came to its end in memory or below it: only there a version above tells something
abbrev pub has_walked : WalkAnswer → Bool
has_walked (walk.Found addr version) = true
has_walked walk.Nowhere = true
has_walked (walk.OnDisk addr) = true
has_walked its = false

-- by what the walk asks next
unfoldable pub walk_ledto : Places → TryState → Ask WalkAnswer → TryState
walk_ledto p t (Done its) =
    let after : TryState = record t { spare = t.walk.spare } in
    if has_walked its && must_shift after then ends p after answer.Shift else walked p after its
walk_ledto p t ask = t

-- below the read-only offset a record with the mark is of the update's version, where no older version has that mark
abbrev pub is_surely_own : TryState → Version → Bool
is_surely_own t version = not (is_marked t.request.version) && is_own_version t version

-- a session that has looked less lately may still change what lies at or above the safe read-only offset
abbrev pub safe_loaded : Places → TryState → Addr → Version → ℕ → TryState
safe_loaded p t addr version safe = if nat_le safe addr.0 then ends p t (answer.Wait reason.Fuzzy) else copies p t InMemory (is_surely_own t version)

unfoldable pub current_ledto : Places → TryState → Addr → Ask WalkAnswer → TryState
current_ledto p t addr (Done (walk.Value old)) = record t { step = ChangesValue addr old }
current_ledto p t addr (Done its) = ends p t (answer.Wait reason.Contended)
current_ledto p t addr ask = t

abbrev pub value_changed : Places → TryState → ℕ → ℕ → TryState
value_changed p t old found = if found == old then takes_effect p t (reply_from (value_of old) t.request.op) else ends p t (answer.Wait reason.Contended)

-- what a read tells of the value's word
abbrev pub told_value : Option ℕ → TryAnswer
told_value None = answer.Absent
told_value (Some value) = answer.Found (record { 0 = value })

unfoldable pub answer_ledto : Places → TryState → Ask WalkAnswer → TryState
answer_ledto p t (Done (walk.Value value)) = ends p t (told_value (value_of value))
answer_ledto p t (Done its) = ends p t (answer.Wait reason.Contended)
answer_ledto p t ask = t

unfoldable pub exclusive_ledto : Places → TryState → OldValue → Ask LatchAnswer → TryState
exclusive_ledto p t old (Done latch.Taken) = copies_from (record t { has_exclusive = true }) old
exclusive_ledto p t old (Done its) = ends p t (answer.Wait reason.Latch)
exclusive_ledto p t old ask = t

unfoldable pub old_ledto : Places → TryState → Ask WalkAnswer → TryState
old_ledto p t (Done (walk.Value value)) = appends t value
old_ledto p t (Done its) = ends p t (answer.Wait reason.Contended)
old_ledto p t ask = t

unfoldable pub append_ledto : Places → TryState → Reply → Ask AppendAnswer → TryState
append_ledto p t its (Done append.Published) = takes_effect p t its
append_ledto p t its (Done append.Full) = ends p t (full_at t.occasion answer.LogFull)
append_ledto p t its (Done append.NoRoom) = ends p t (answer.Wait reason.NoRoom)
append_ledto p t its (Done append.Contended) = ends p t (answer.Wait reason.Contended)
append_ledto p t its ask = t

unfoldable pub exclusive_dropped : Places → TryState → TryAnswer → Ask LatchAnswer → TryState
exclusive_dropped p t its (Done told) = ended_without p t its
exclusive_dropped p t its ask = t

unfoldable pub shared_dropped : TryState → TryAnswer → Ask LatchAnswer → TryState
shared_dropped t its (Done told) = record t { step = Ended its }
shared_dropped t its ask = t

abbrev pub latch_moved : TryState → ℕ → TryState
latch_moved t reply = record t { latching = latch_next t.latching reply }

abbrev pub walk_moved : Places → TryState → ℕ → TryState
walk_moved p t reply = record t { walk = walk_next p t.walk reply }

-- where the reply leads
unfoldable pub trying_next : Places → ℕ → TryState → Trying → ℕ → TryState
trying_next p room t (Ended its) reply = t
trying_next p room t TakesShared reply = shared_ledto p (latch_moved t reply) (latch_next_ask t.latching reply)
trying_next p room t LoadsPhase reply = phase_loaded p t (phase_said reply)
trying_next p room t Walks reply = walk_ledto p (walk_moved p t reply) (walk_ask p (walk_next p t.walk reply))
trying_next p room t CountsTaken reply = count_loaded p t reply
trying_next p room t (LoadsSafe addr version) reply = safe_loaded p t addr version reply
trying_next p room t (SwapsValue addr) reply = takes_effect p t (reply_from None t.request.op)
trying_next p room t (LoadsCurrent addr) reply = current_ledto p (walk_moved p t reply) addr (walk_ask p (walk_next p t.walk reply))
trying_next p room t (ChangesValue addr old) reply = value_changed p t old reply
trying_next p room t LoadsAnswer reply = answer_ledto p (walk_moved p t reply) (walk_ask p (walk_next p t.walk reply))
trying_next p room t (TakesExclusive old) reply = exclusive_ledto p (latch_moved t reply) old (latch_next_ask t.latching reply)
trying_next p room t LoadsOld reply = old_ledto p (walk_moved p t reply) (walk_ask p (walk_next p t.walk reply))
trying_next p room t (Appends its) reply = append_ledto p (record t { append = append_next p room t.append reply }) its (append_ask p (append_next p room t.append reply))
trying_next p room t (LoadsTail waiting) reply = tail_loaded p t waiting reply
trying_next p room t (LoadsTaken waiting) reply = taken_loaded p t waiting reply
trying_next p room t (DropsExclusive its) reply = exclusive_dropped p (latch_moved t reply) its (latch_next_ask t.latching reply)
trying_next p room t (DropsShared its) reply = shared_dropped (latch_moved t reply) its (latch_next_ask t.latching reply)

-- an effect is told at the step that makes it, and at no other
abbrev pub try_next : Places → ℕ → TryState → ℕ → TryState
try_next p room t reply = trying_next p room (record t { effect = None }) t.step reply
