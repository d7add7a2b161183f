-- The effect of a try, by what the try asked and was replied: one of three asks makes it, and what was done before shows that it may.
use Rattle.std.specs.Prelude.{◌≡◌, ◌≢◌, ℕ, ◌+◌, ◌*◌, ◌^◌, ◌<◌, ◌≤◌, ◌&&◌, ◌||◌, not, Bool, true, false, List, ◌∷◌, Option, Some, None}
use Rattle.fkv_base.specs.declared.numbers.Key.{Key}
use Rattle.fkv_marks.specs.Marks.{mark}
use Rattle.fkv_map.specs.declared.operations.Op.{Op}
use Rattle.fkv_map.specs.declared.operations.Op.TheVariants.{Read}
use Rattle.fkv_map.specs.declared.operations.Reply.{Reply}
use Rattle.fkv_map.specs.Keys.{key_of, value_applied, reply_from}
use Rattle.fkv_words.specs.PhaseWords.{phase_said}
use Rattle.fkv_plane.specs.declared.asks.Ask.{Ask}
use Rattle.fkv_plane.specs.declared.asks.Ask.TheVariants.{Swap, Cas, Add, Done}
use Rattle.fkv_plane.specs.declared.places.SharedWord.TheVariants as one
use Rattle.fkv_plane.specs.declared.places.RecordWord.TheVariants as rec
use Rattle.fkv_plane.specs.Places.{shared_place, record_place}
use Rattle.fkv_latch.specs.Latching.{one_share, exclusive_bit}
use Rattle.fkv_index.specs.Slots.{entry_addr}
use Rattle.fkv_index.specs.IndexWorld.{new_entry}
use Rattle.fkv_ops.specs.declared.answers.TryAnswer.{TryAnswer}
use Rattle.fkv_ops.specs.declared.requests.HeldRecord.{HeldRecord}
use Rattle.fkv_ops.specs.Values.{value_of, word_of}
use Rattle.fkv_ops.specs.HeaderWords.{version_in}
use Rattle.fkv_ops.specs.Requests.{is_read, is_blind, is_chain_end}
use Rattle.fkv_ops.specs.Trying.{is_prepare, is_wait, is_next_marked, is_still_in, TryState, try_ask}
use Rattle.fkv_ops.specs.TryRun.{Trial, home_at, try_run, trial_begun, Told, told_by, effects_of, reply_told}
use Rattle.fkv_ops.specs.Reasons.{latch_place, Loaded, IsStored, Won, HasEntry, WalksTo, HasFound, LeavesMemory, EndsBelow, HoldsFrom, needs_exclusive, tells_own}

-- a record with the mark of the request's version, at or above the read-only offset that the session has seen: such a one is changed in place
pub record MayChange (c : Trial) (told : Told) (addr : ℕ) : Type 0 where
  pub place : ℕ
  pub entry : ℕ
  pub found : HasFound c told place entry addr (mark c.request.version.0)
  pub mutable : c.seen.offsets.read_only.0 ≤ addr

-- one with another mark there, or one below the safe read-only offset that was loaded: such a one is copied, and none that may be fuzzy
pub data MayCopy (c : Trial) (told : Told) (addr version : ℕ) : Type 0 where
  OfAnother : c.seen.offsets.read_only.0 ≤ addr → version ≢ mark c.request.version.0 → MayCopy c told addr version
  BelowSafe : (safe : ℕ) → addr < c.seen.offsets.read_only.0 → Loaded told (shared_place one.SafeReadOnly) safe → addr < safe → MayCopy c told addr version

-- the old value that a new record is made of: it is loaded where it counts
pub data IsOld (c : Trial) (told : Told) (addr : ℕ) : Option ℕ → Type 0 where
  CountsNot : {old : Option ℕ} → is_blind c.request.op ≡ true → IsOld c told addr old
  IsLoaded : (word : ℕ) → Loaded told (record_place c.places addr rec.Value) word → IsOld c told addr (value_of word)

-- What a new record is made of, and whether the walk found a record that is surely of the request's version: a record in memory that may be copied, none
-- where the chain ends, at 0 or below the request's floor, any below the head where the old value doesn't count, and else the one that the request holds.
pub data IsMadeOf (c : Trial) (told : Told) (place entry : ℕ) : Option ℕ → Bool → Type 0 where
  OfRecord : {addr version : ℕ} {old : Option ℕ} → HasFound c told place entry addr version → MayCopy c told addr version → IsOld c told addr old
      → IsMadeOf c told place entry old (tells_own c version)
  OfNone : WalksTo c told place entry 0 → IsMadeOf c told place entry None false
  OfNoneBelow : {addr : ℕ} → EndsBelow c told place entry addr → IsMadeOf c told place entry None false
  OfAny : {addr : ℕ} → LeavesMemory c told place entry addr → is_blind c.request.op ≡ true → IsMadeOf c told place entry None false
  OfHeld : {held : HeldRecord} → HoldsFrom c told place held → held.entry ≡ entry → held.key.0 ≡ (key_of c.request.op).0 → IsMadeOf c told place entry (value_of held.value) false
  OfNoneBehind : {held : HeldRecord} → HoldsFrom c told place held → held.entry ≡ entry → held.key.0 ≢ (key_of c.request.op).0 → is_chain_end c.request.floor held.previous ≡ true → IsMadeOf c told place entry None false

-- the try has set bit 63 of the bucket's eighth word, which had neither that nor a count
pub record HasSetBit (c : Trial) (told : Told) : Type 0 where
  pub word : ℕ
  pub free : word < one_share
  pub its_cas : Won told (latch_place c) word (word + exclusive_bit)

-- The value word of a record is swapped for that of a value which doesn't depend on the old one. The reply is the operation's on the value
-- that was there.
pub record IsSwapped (c : Trial) (told : Told) (ask : Ask TryAnswer) (reply : ℕ) (its : Reply) : Type 0 where
  pub addr : ℕ
  pub may : MayChange c told addr
  pub blind : is_blind c.request.op ≡ true
  pub its_ask : ask ≡ Swap (record_place c.places addr rec.Value) (word_of (value_applied (value_of reply) c.request.op))
  pub its_reply : its ≡ reply_from (value_of reply) c.request.op

-- the value word of a record is changed from the word that was loaded there, by a Cas that was won
pub record IsChanged (c : Trial) (told : Told) (ask : Ask TryAnswer) (reply : ℕ) (its : Reply) : Type 0 where
  pub addr : ℕ
  pub may : MayChange c told addr
  pub its_old : Loaded told (record_place c.places addr rec.Value) reply
  pub its_ask : ask ≡ Cas (record_place c.places addr rec.Value) reply (word_of (value_applied (value_of reply) c.request.op))
  pub its_reply : its ≡ reply_from (value_of reply) c.request.op

-- A new record takes the place of the entry that was found, by a Cas that was won. Its address was reserved, and value, key and header were
-- stored before.
pub record IsPublished (c : Trial) (told : Told) (ask : Ask TryAnswer) (reply : ℕ) (its : Reply) : Type 0 where
  pub place : ℕ
  pub addr : ℕ
  pub old : Option ℕ
  pub is_current : Bool
  pub its_ask : ask ≡ Cas place reply (new_entry addr (home_at c).tag)
  pub slot : HasEntry c told place reply
  pub made_of : IsMadeOf c told place reply old is_current
  pub alone : needs_exclusive c is_current ≡ true → HasSetBit c told
  pub reserved : Won told (shared_place one.Tail) addr (addr + 1)
  pub above : entry_addr reply < addr
  pub its_value : IsStored told (record_place c.places addr rec.Value) (word_of (value_applied old c.request.op))
  pub its_key : IsStored told (record_place c.places addr rec.Key) (key_of c.request.op).0
  pub its_header : IsStored told (record_place c.places addr rec.Header) (entry_addr reply + mark c.request.version.0 * 2 ^ 48)
  pub its_reply : its ≡ reply_from old c.request.op

pub data IsEffect (c : Trial) (told : Told) (ask : Ask TryAnswer) (reply : ℕ) (its : Reply) : Type 0 where
  BySwap : IsSwapped c told ask reply its → IsEffect c told ask reply its
  ByChange : IsChanged c told ask reply its → IsEffect c told ask reply its
  ByRecord : IsPublished c told ask reply its → IsEffect c told ask reply its

-- over every list of replies: a step that makes an effect is one of these three, and what it tells is true
abbrev pub EffectsAreTrue : Type 0
EffectsAreTrue = (c : Trial) (spare : ℕ) (replies : List ℕ) (reply : ℕ) (its : Reply) → (try_run c (trial_begun c spare) (reply ∷ replies)).effect ≡ Some its
    → IsEffect c (told_by c (trial_begun c spare) replies) (try_ask c.places (try_run c (trial_begun c spare) replies)) reply its

-- a try that ends as done has made its effect at just one step, and tells what was told there; one that ends otherwise at none
abbrev pub EffectsAreOnce : Type 0
EffectsAreOnce = (c : Trial) (spare : ℕ) (replies : List ℕ) (answer : TryAnswer) → try_ask c.places (try_run c (trial_begun c spare) replies) ≡ Done answer
    → effects_of c (trial_begun c spare) replies ≡ reply_told answer

-- an update of a session in prepare shares the latch
abbrev pub shares_latch : Trial → Bool
shares_latch c = is_prepare c.seen.phase && not (is_read c.request.op)

-- at its end no try holds the latch alone; it shares the latch where its request has to wait, and shared it or is an update in prepare
pub record IsLatchKept (c : Trial) (answer : TryAnswer) (t : TryState) : Type 0 where
  pub not_alone : t.has_exclusive ≡ false
  pub shares : t.has_shared ≡ (is_wait answer && (c.request.has_latch || shares_latch c))

abbrev pub LatchesAreKept : Type 0
LatchesAreKept = (c : Trial) (spare : ℕ) (replies : List ℕ) (answer : TryAnswer) → try_ask c.places (try_run c (trial_begun c spare) replies) ≡ Done answer
    → IsLatchKept c answer (try_run c (trial_begun c spare) replies)

-- a share was added to a word without bit 63
pub record HasShared (c : Trial) (told : Told) : Type 0 where
  pub word : ℕ
  pub its_add : told (Add (latch_place c) one_share) word
  pub not_alone : word < exclusive_bit

-- where an update in prepare doesn't share the latch yet, to share it is the first that the try asks, and it makes its effect only once it does
pub record SharesBefore (c : Trial) (spare : ℕ) : Type 0 where
  pub first : try_ask c.places (trial_begun c spare) ≡ Add (latch_place c) one_share
  pub does : (replies : List ℕ) (reply : ℕ) (its : Reply) → (try_run c (trial_begun c spare) (reply ∷ replies)).effect ≡ Some its → HasShared c (told_by c (trial_begun c spare) replies)

abbrev pub SharesFirst : Type 0
SharesFirst = (c : Trial) (spare : ℕ) → shares_latch c ≡ true → c.request.has_latch ≡ false → SharesBefore c spare

-- the first record of the chain has no mark above that of the request's version, or it isn't in memory
pub data FirstIsNotAbove (c : Trial) (told : Told) (entry : ℕ) : Type 0 where
  FirstInMemory : (header : ℕ) → Loaded told (record_place c.places (entry_addr entry) rec.Header) header → version_in header ≤ mark c.request.version.0 → FirstIsNotAbove c told entry
  FirstBelowHead : entry_addr entry < c.seen.offsets.head.0 → FirstIsNotAbove c told entry
  FirstNowhere : entry_addr entry ≡ 0 → FirstIsNotAbove c told entry

pub record SeesNoneAbove (c : Trial) (told : Told) : Type 0 where
  pub place : ℕ
  pub entry : ℕ
  pub slot : HasEntry c told place entry
  pub its_first : FirstIsNotAbove c told entry

-- Where the next version's mark isn't above, no record tells. Then the phase word was loaded, and said prepare of the request's version; or the
-- request came with its share.
pub data MayStay (c : Trial) (told : Told) : Type 0 where
  BySight : SeesNoneAbove c told → MayStay c told
  OnWord : (word : ℕ) → is_next_marked c.request.version ≡ true → Loaded told (shared_place one.Phase) word → is_still_in (phase_said word) c.request.version ≡ true → MayStay c told
  WithLatch : is_next_marked c.request.version ≡ true → c.request.has_latch ≡ true → MayStay c told

-- an update in prepare makes its effect only where it has seen that its session may stay at its version
abbrev pub EachMayStay : Type 0
EachMayStay = (c : Trial) (spare : ℕ) (replies : List ℕ) (reply : ℕ) (its : Reply) → shares_latch c ≡ true → (try_run c (trial_begun c spare) (reply ∷ replies)).effect ≡ Some its
    → MayStay c (told_by c (trial_begun c spare) replies)

-- what the kinds of operations mean: a read is one, and no update is; and one whose old value doesn't count makes the same of every old value,
-- and is told the same
pub record AreKindsSo : Type 0 where
  pub reads : (key : Key) → is_read (Read key) ≡ true
  pub reads_alone : (op : Op) → is_read op ≡ true → op ≡ Read (key_of op)
  pub same_value : (op : Op) (old : Option ℕ) → is_blind op ≡ true → value_applied old op ≡ value_applied None op
  pub same_reply : (op : Op) (old : Option ℕ) → is_blind op ≡ true → reply_from old op ≡ reply_from None op
