-- What a try's answer says, by what the try asked and was replied, and by no state of its machine.
use Rattle.std.specs.Prelude.{◌≡◌, ◌≢◌, ℕ, ◌+◌, ◌*◌, ◌^◌, ◌<◌, ◌≤◌, ◌⊎◌, ◌==◌, ◌&&◌, not, Bool, true, false, List, Some, None}
use Rattle.fkv_marks.specs.Marks.{mark}
use Rattle.fkv_map.specs.Map.{absent_word}
use Rattle.fkv_map.specs.Keys.{key_of, value_applied}
use Rattle.fkv_words.specs.PhaseWords.{phase_said}
use Rattle.fkv_plane.specs.declared.asks.Ask.TheVariants.{Load, Store, Cas, Add, Done}
use Rattle.fkv_plane.specs.declared.places.SharedWord.TheVariants as one
use Rattle.fkv_plane.specs.declared.places.RecordWord.TheVariants as rec
use Rattle.fkv_plane.specs.Places.{shared_place, bucket_place, overflow_place, record_place}
use Rattle.fkv_latch.specs.Latching.{one_share, exclusive_bit}
use Rattle.fkv_index.specs.Slots.{bucket_slots, entry_addr, entry_tag, is_entry, link_of}
use Rattle.fkv_index.specs.IndexWorld.{new_entry}
use Rattle.fkv_ops.specs.declared.answers.DiskRecord.{DiskRecord}
use Rattle.fkv_ops.specs.declared.answers.Reason.{Reason}
use Rattle.fkv_ops.specs.declared.answers.Reason.TheVariants as reason
use Rattle.fkv_ops.specs.declared.answers.TryAnswer.{TryAnswer}
use Rattle.fkv_ops.specs.declared.answers.TryAnswer.TheVariants as answer
use Rattle.fkv_ops.specs.declared.requests.HeldRecord.{HeldRecord}
use Rattle.fkv_ops.specs.declared.bounds.Bounds.{Bounds}
use Rattle.fkv_ops.specs.declared.requests.Occasion.TheVariants.{Poll}
use Rattle.fkv_ops.specs.Bounds.{bounds_at, IsCall}
use Rattle.fkv_ops.specs.Values.{value_of, word_of}
use Rattle.fkv_ops.specs.Requests.{is_read, is_blind}
use Rattle.fkv_ops.specs.HeaderWords.{previous_in, version_in, is_header}
use Rattle.fkv_ops.specs.Trying.{is_prepare, is_moving_on, is_marked, is_next_marked, is_still_in, try_ask}
use Rattle.fkv_ops.specs.TryRun.{Trial, home_at, try_run, trial_begun, Told, told_by}

-- the eighth word of the key's bucket, which has its latch
abbrev pub latch_place : Trial → ℕ
latch_place c = bucket_place c.places (home_at c).bucket 7

abbrev pub Loaded : Told → ℕ → ℕ → Type 0
Loaded told place word = told (Load place) word

pub record IsStored (told : Told) (place word : ℕ) : Type 0 where
  pub reply : ℕ
  pub its_store : told (Store place word) reply

-- a Cas is won where it is replied the word that it expects
abbrev pub Won : Told → ℕ → ℕ → ℕ → Type 0
Won told place old new = told (Cas place old new) old

pub record IsLost (told : Told) (place old new : ℕ) : Type 0 where
  pub found : ℕ
  pub its_cas : told (Cas place old new) found
  pub another : found ≢ old

-- Where a search comes to, bucket by bucket: the home's first, and from each the overflow bucket that its eighth word leads to, or the one
-- that the try has linked there itself. How many links that were, and whether one was its own.
pub data ComesTo (c : Trial) (told : Told) : ℕ → Bool → ℕ → Type 0 where
  AtHome : ComesTo c told 0 false (bucket_place c.places (home_at c).bucket 0)
  ByLink : {links : ℕ} {own : Bool} {base : ℕ} (word : ℕ) → ComesTo c told links own base → Loaded told (base + bucket_slots) word
      → 0 < link_of word → link_of word ≤ c.places.overflow → ComesTo c told (links + 1) own (overflow_place c.places (link_of word) 0)
  ByOwn : {links : ℕ} {own : Bool} {base : ℕ} (word number : ℕ) → ComesTo c told links own base → Won told (base + bucket_slots) word (word + number)
      → 0 < number → number ≤ c.places.overflow → ComesTo c told (links + 1) true (overflow_place c.places number 0)

-- a slot of such a bucket had this word
pub record HasSlot (c : Trial) (told : Told) (place word : ℕ) : Type 0 where
  pub links : ℕ
  pub own : Bool
  pub base : ℕ
  pub slot : ℕ
  pub its_bucket : ComesTo c told links own base
  pub few : slot < bucket_slots
  pub its_place : place ≡ base + slot
  pub its_word : Loaded told place word

-- the slot of the key's home: it was empty, or had an entry of the home's tag
pub record HasEntry (c : Trial) (told : Told) (place word : ℕ) : Type 0 where
  pub its_slot : HasSlot c told place word
  pub its_tag : (word ≡ 0) ⊎ (entry_tag word ≡ (home_at c).tag)

-- the last of the buckets, from which no link leads on
pub record HasEnd (c : Trial) (told : Told) (own : Bool) : Type 0 where
  pub links : ℕ
  pub base : ℕ
  pub word : ℕ
  pub its_bucket : ComesTo c told links own base
  pub its_word : Loaded told (base + bucket_slots) word
  pub no_link : link_of word ≡ 0

-- the addresses of the chain that an entry begins: the entry's own, and behind each record that is of another key the one that its header
-- names. So a walk passes no record of the request's key
pub data Reaches (c : Trial) (told : Told) (entry : ℕ) : ℕ → Type 0 where
  AtEntry : Reaches c told entry (entry_addr entry)
  Behind : {addr : ℕ} (header key : ℕ) → Reaches c told entry addr → Loaded told (record_place c.places addr rec.Header) header → Loaded told (record_place c.places addr rec.Key) key
      → key ≢ (key_of c.request.op).0 → Reaches c told entry (previous_in header)

-- the walk comes to this address from the entry of a slot
pub record WalksTo (c : Trial) (told : Told) (place entry addr : ℕ) : Type 0 where
  pub slot : HasEntry c told place entry
  pub reached : Reaches c told entry addr

-- the walk found a record of the request's key, in memory: the first one of its chain
pub record HasFound (c : Trial) (told : Told) (place entry addr version : ℕ) : Type 0 where
  pub walk : WalksTo c told place entry addr
  pub header : ℕ
  pub in_memory : c.seen.offsets.head.0 ≤ addr
  pub its_header : Loaded told (record_place c.places addr rec.Header) header
  pub its_version : version_in header ≡ version
  pub its_key : Loaded told (record_place c.places addr rec.Key) (key_of c.request.op).0

-- the walk leaves memory at this address
pub record LeavesMemory (c : Trial) (told : Told) (place entry addr : ℕ) : Type 0 where
  pub walk : WalksTo c told place entry addr
  pub some : 0 < addr
  pub below : addr < c.seen.offsets.head.0

-- there the chain ends: that address lies below the request's floor
abbrev pub EndsBelow : Trial → Told → ℕ → ℕ → ℕ → Type 0
EndsBelow c told place entry addr = LeavesMemory c told place entry addr × (addr < c.request.floor.0)

-- no record of the key: the chain ends, at 0 or below the request's floor, or there is no slot of the key's home
pub data HasNone (c : Trial) (told : Told) : Type 0 where
  AtItsEnd : {place entry : ℕ} → WalksTo c told place entry 0 → HasNone c told
  BelowFloor : {place entry addr : ℕ} → EndsBelow c told place entry addr → HasNone c told
  WithoutSlot : HasEnd c told false → HasNone c told

-- the record is at or above the safe read-only offset that was loaded, and below the one that the session has seen
pub record IsFuzzy (c : Trial) (told : Told) : Type 0 where
  pub place : ℕ
  pub entry : ℕ
  pub addr : ℕ
  pub version : ℕ
  pub safe : ℕ
  pub found : HasFound c told place entry addr version
  pub below_seen : addr < c.seen.offsets.read_only.0
  pub its_safe : Loaded told (shared_place one.SafeReadOnly) safe
  pub above_safe : safe ≤ addr

-- the request holds a record that was read along a walk from this same entry, and the walk leaves memory again
pub record HoldsFrom (c : Trial) (told : Told) (place : ℕ) (held : HeldRecord) : Type 0 where
  pub holds : c.request.held ≡ Some held
  pub counts : is_blind c.request.op ≡ false
  pub addr : ℕ
  pub leaves : LeavesMemory c told place held.entry addr

-- the request holds no record that was read along a walk from this entry; a read goes by none
pub data HoldsNone (c : Trial) (entry : ℕ) : Type 0 where
  AsRead : is_read c.request.op ≡ true → HoldsNone c entry
  WithoutHeld : c.request.held ≡ None → HoldsNone c entry
  FromAnother : {held : HeldRecord} → c.request.held ≡ Some held → held.entry ≢ entry → HoldsNone c entry

-- the record behind the one that the request holds, which is of another key
pub record IsBehindHeld (c : Trial) (told : Told) (it : DiskRecord) : Type 0 where
  pub update : is_read c.request.op ≡ false
  pub place : ℕ
  pub held : HeldRecord
  pub its_entry : it.entry ≡ held.entry
  pub its_addr : it.addr ≡ held.previous
  pub holds : HoldsFrom c told place held
  pub another : held.key.0 ≢ (key_of c.request.op).0
  pub some : 0 < it.addr.0
  pub on : c.request.floor.0 ≤ it.addr.0

-- The old value counts, and what the request holds doesn't tell it. No record below the request's floor is awaited.
pub data IsOnDisk (c : Trial) (told : Told) (it : DiskRecord) : Type 0 where
  BelowHead : {place : ℕ} → LeavesMemory c told place it.entry it.addr.0 → c.request.floor.0 ≤ it.addr.0 → is_blind c.request.op ≡ false → HoldsNone c it.entry → IsOnDisk c told it
  BehindHeld : IsBehindHeld c told it → IsOnDisk c told it

-- bit 63 or a count was met, or the Cas from a free word that was loaded was lost
pub data HasMetLatch (c : Trial) (told : Told) : Type 0 where
  Held : (word : ℕ) → Loaded told (latch_place c) word → one_share ≤ word → HasMetLatch c told
  Quicker : (word : ℕ) → word < one_share → Loaded told (latch_place c) word → IsLost told (latch_place c) word (word + exclusive_bit) → HasMetLatch c told

-- while a commit's sessions go on, a record of their version is made under the exclusive latch, where none of it was found
abbrev pub needs_exclusive : Trial → Bool → Bool
needs_exclusive c is_current = is_moving_on c.seen.phase && c.request.version.0 == c.seen.version.0 && not is_current

-- by this mark a record is of the request's version wherever it lies: no older version has it
abbrev pub tells_own : Trial → ℕ → Bool
tells_own c version = not (is_marked c.request.version) && version == mark c.request.version.0

-- the walk found no record that is surely of the request's version: one with another mark, or with one that older versions have too, or none,
-- or it left memory
pub data HasNoneOfVersion (c : Trial) (told : Told) : Type 0 where
  FoundMarked : {place entry addr version : ℕ} → HasFound c told place entry addr version → is_marked c.request.version ≡ true → HasNoneOfVersion c told
  FoundAnother : {place entry addr version : ℕ} → HasFound c told place entry addr version → version ≢ mark c.request.version.0 → HasNoneOfVersion c told
  FoundNone : {place entry : ℕ} → WalksTo c told place entry 0 → HasNoneOfVersion c told
  FoundBelow : {place entry addr : ℕ} → LeavesMemory c told place entry addr → HasNoneOfVersion c told

-- an update that has to make its record under the exclusive latch has met the latch
pub record WaitsForLatch (c : Trial) (told : Told) : Type 0 where
  pub update : is_read c.request.op ≡ false
  pub needed : needs_exclusive c false ≡ true
  pub none : HasNoneOfVersion c told
  pub met : HasMetLatch c told

-- no limit was above the tail
pub record HasNoRoom (told : Told) (tail : ℕ) : Type 0 where
  pub limit : ℕ
  pub its_limit : Loaded told (shared_place one.Limit) limit
  pub its_tail : Loaded told (shared_place one.Tail) tail
  pub high : limit ≤ tail

-- the home has no slot, and no overflow bucket is left
pub record IsIndexFull (c : Trial) (told : Told) : Type 0 where
  pub ends : HasEnd c told false
  pub taken : ℕ
  pub its_count : Loaded told (shared_place one.Taken) taken
  pub all : c.places.overflow ≤ taken

-- Another session has gone on to the next version: it holds the latch alone, or the first record of the chain has a later mark. Where the next
-- version's mark isn't above, the phase word tells: it says prepare of the request's version no more
pub data OthersWentOn (c : Trial) (told : Told) : Type 0 where
  ByLatch : (word : ℕ) → told (Add (latch_place c) one_share) word → exclusive_bit ≤ word → OthersWentOn c told
  ByRecord : {place entry : ℕ} (header : ℕ) → HasEntry c told place entry → Loaded told (record_place c.places (entry_addr entry) rec.Header) header
      → mark c.request.version.0 < version_in header → OthersWentOn c told
  ByWord : (word : ℕ) → is_next_marked c.request.version ≡ true → Loaded told (shared_place one.Phase) word → is_still_in (phase_said word) c.request.version ≡ false → OthersWentOn c told

pub record MustShift (c : Trial) (told : Told) : Type 0 where
  pub in_prepare : is_prepare c.seen.phase ≡ true
  pub update : is_read c.request.op ≡ false
  pub others : OthersWentOn c told

-- the value of the record of the key
pub record HasValue (c : Trial) (told : Told) (word : ℕ) : Type 0 where
  pub place : ℕ
  pub entry : ℕ
  pub addr : ℕ
  pub version : ℕ
  pub found : HasFound c told place entry addr version
  pub its_value : Loaded told (record_place c.places addr rec.Value) word

pub record ReadFinds (c : Trial) (told : Told) (word : ℕ) : Type 0 where
  pub reads : is_read c.request.op ≡ true
  pub its_value : HasValue c told word
  pub present : word ≢ absent_word

pub record ReadMisses (c : Trial) (told : Told) : Type 0 where
  pub reads : is_read c.request.op ≡ true
  pub none : HasValue c told absent_word ⊎ HasNone c told

-- A reply that no store gives: a slot or a header that is no spelling, a link to no bucket, more links than there are buckets, a previous
-- address that doesn't fall, an address a ring or more above the seen head, and a reserved address that no entry can have or that is
-- not above the entry's.
pub data IsSpoiled (c : Trial) (told : Told) : Type 0 where
  NoSlot : {place word : ℕ} → HasSlot c told place word → word ≢ 0 → is_entry word ≡ false → IsSpoiled c told
  NoBucket : {links : ℕ} {own : Bool} {base word : ℕ} → ComesTo c told links own base → Loaded told (base + bucket_slots) word → c.places.overflow < link_of word → IsSpoiled c told
  TooMany : {links : ℕ} {own : Bool} {base : ℕ} → ComesTo c told links own base → c.places.overflow < links → IsSpoiled c told
  NoHeader : {place entry addr header : ℕ} → WalksTo c told place entry addr → Loaded told (record_place c.places addr rec.Header) header → is_header header ≡ false → IsSpoiled c told
  NotBelow : {place entry addr header : ℕ} → WalksTo c told place entry addr → Loaded told (record_place c.places addr rec.Header) header → addr ≤ previous_in header → IsSpoiled c told
  PastRing : {place entry addr : ℕ} → WalksTo c told place entry addr → c.seen.offsets.head.0 + c.places.ring ≤ addr → IsSpoiled c told
  NoAddress : {place entry addr : ℕ} → HasEntry c told place entry → Won told (shared_place one.Tail) addr (addr + 1) → (addr ≤ entry_addr entry) ⊎ (2 ^ 48 ≤ addr) → IsSpoiled c told

-- the search has found no entry of the key's home: an empty slot, or the last of the buckets, or a word that no store writes
pub data HasNoEntry (c : Trial) (told : Told) : Type 0 where
  AtEmpty : {place : ℕ} → HasEntry c told place 0 → HasNoEntry c told
  AtLast : {own : Bool} → HasEnd c told own → HasNoEntry c told
  AtSpoiled : IsSpoiled c told → HasNoEntry c told

-- an update within bounds has loaded a count of taken overflow buckets at which no more than the margin is left
pub record IsPastTaken (c : Trial) (told : Told) : Type 0 where
  pub update : is_read c.request.op ≡ false
  pub bounds : Bounds
  pub has : bounds_at c.occasion ≡ Some bounds
  pub taken : ℕ
  pub its_count : Loaded told (shared_place one.Taken) taken
  pub past : bounds.taken ≤ taken

-- the same of the tail
pub record IsPastTail (c : Trial) (told : Told) : Type 0 where
  pub update : is_read c.request.op ≡ false
  pub bounds : Bounds
  pub has : bounds_at c.occasion ≡ Some bounds
  pub tail : ℕ
  pub its_tail : Loaded told (shared_place one.Tail) tail
  pub past : bounds.tail ≤ tail

-- what is left of the index is the polls'
pub record AreBucketsKept (c : Trial) (told : Told) : Type 0 where
  pub none : HasNoEntry c told
  pub past : IsPastTaken c told

-- The Cas that was to publish a record was lost, and the record is invalidated: at the address that was reserved for it its header is stored
-- with bit 62.
pub record LosesEntry (c : Trial) (told : Told) : Type 0 where
  pub place : ℕ
  pub entry : ℕ
  pub addr : ℕ
  pub slot : HasEntry c told place entry
  pub reserved : Won told (shared_place one.Tail) addr (addr + 1)
  pub its_cas : IsLost told place entry (new_entry addr (home_at c).tag)
  pub its_header : IsStored told (record_place c.places addr rec.Header) (entry_addr entry + mark c.request.version.0 * 2 ^ 48 + 2 ^ 62)

-- A Cas was lost: of the count of taken overflow buckets, of a link, of the tail, of the entry, or of the value that was to be changed in place.
-- What such a Cas expects was loaded there. Or others have filled the bucket that the try linked, or a reply is none that a store gives.
pub data IsContended (c : Trial) (told : Told) : Type 0 where
  CountLost : (taken : ℕ) → Loaded told (shared_place one.Taken) taken → IsLost told (shared_place one.Taken) taken (taken + 1) → IsContended c told
  LinkLost : {links : ℕ} {own : Bool} {base : ℕ} (word number : ℕ) → ComesTo c told links own base → number ≤ c.places.overflow → Loaded told (base + bucket_slots) word → IsLost told (base + bucket_slots) word (word + number) → IsContended c told
  TailLost : (tail : ℕ) → Loaded told (shared_place one.Tail) tail → IsLost told (shared_place one.Tail) tail (tail + 1) → IsContended c told
  EntryLost : LosesEntry c told → IsContended c told
  ValueLost : {place entry addr : ℕ} (old : ℕ) → HasFound c told place entry addr (mark c.request.version.0) → Loaded told (record_place c.places addr rec.Value) old
      → IsLost told (record_place c.places addr rec.Value) old (word_of (value_applied (value_of old) c.request.op))
      → IsContended c told
  OwnIsFull : HasEnd c told true → IsContended c told
  NoStore : IsSpoiled c told → IsContended c told

-- each reason to wait. A try that waits for the device says where its record is
abbrev pub IsReason : Trial → Told → Reason → Type 0
IsReason c told reason.Fuzzy = IsFuzzy c told
IsReason c told reason.Disk = ⊥
IsReason c told reason.Latch = WaitsForLatch c told
IsReason c told reason.Contended = IsContended c told
IsReason c told reason.NoRoom = ((tail : ℕ) × HasNoRoom told tail × (tail ≢ c.room)) ⊎ IsPastTail c told
IsReason c told reason.Full = (c.occasion ≡ Poll) × (IsIndexFull c told ⊎ HasNoRoom told c.room)

-- each answer. That of an update that is done is told by its effect
abbrev pub IsTrue : Trial → Told → TryAnswer → Type 0
IsTrue c told (answer.Done reply) = is_read c.request.op ≡ false
IsTrue c told (answer.Found value) = ReadFinds c told value.0
IsTrue c told answer.Absent = ReadMisses c told
IsTrue c told (answer.Wait its) = IsReason c told its
IsTrue c told (answer.AwaitsDisk it) = IsOnDisk c told it
IsTrue c told answer.Shift = MustShift c told
IsTrue c told answer.IndexFull = IsCall c.occasion × (IsIndexFull c told ⊎ AreBucketsKept c told)
IsTrue c told answer.LogFull = IsCall c.occasion × (HasNoRoom told c.room ⊎ IsPastTail c told)

-- over every list of replies, each answer was found by the try that gives it
abbrev pub EachIsTrue : Type 0
EachIsTrue = (c : Trial) (spare : ℕ) (replies : List ℕ) (answer : TryAnswer) → try_ask c.places (try_run c (trial_begun c spare) replies) ≡ Done answer
    → IsTrue c (told_by c (trial_begun c spare) replies) answer
