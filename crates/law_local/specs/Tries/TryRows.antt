-- What a try knows of the log, by its control state.
use Rattle.std.specs.Prelude.{◌≡◌, ◌⊎◌, ℕ, ◌≤◌, ⊤, Bool, true, false, Option}
use Rattle.fkv_base.specs.declared.numbers.Addr.{Addr}
use Rattle.fkv_base.specs.declared.numbers.Version.{Version}
use Rattle.fkv_marks.specs.Marks.{mark}
use Rattle.fkv_map.specs.declared.history.HistoryEntry.{HistoryEntry}
use Rattle.fkv_map.specs.declared.operations.Op.{Op}
use Rattle.fkv_map.specs.declared.operations.Reply.{Reply}
use Rattle.fkv_map.specs.Map.{IsReserved}
use Rattle.fkv_map.specs.Keys.{key_of, value_applied, reply_from}
use Rattle.fkv_log.specs.declared.record_words.RecordWords.{RecordWords}
use Rattle.law_log.specs.Begins.{IsWalkLive}
use Rattle.law_log.specs.Chains.{Cell, value_at, version_at, IsWithin}
use Rattle.law_log.specs.Ghosts.{Log, first_from}
use Rattle.law_log.specs.Enabled.{IsFixed, StandsStill, IsMade, NoneAbove}
use Rattle.fkv_ops.specs.declared.answers.TryAnswer.{TryAnswer}
use Rattle.fkv_ops.specs.declared.answers.TryAnswer.TheVariants as answer
use Rattle.fkv_ops.specs.declared.appending.Appending.{Appending}
use Rattle.fkv_ops.specs.declared.appending.Appending.TheVariants.{Reserves}
use Rattle.fkv_ops.specs.declared.requests.Request.{Request}
use Rattle.fkv_ops.specs.declared.requests.Seen.{Seen}
use Rattle.fkv_ops.specs.declared.trying.OldValue.{OldValue}
use Rattle.fkv_ops.specs.declared.trying.OldValue.TheVariants.{InMemory, Known}
use Rattle.fkv_ops.specs.declared.trying.Trying.{Trying}
use Rattle.fkv_ops.specs.declared.trying.Trying.TheVariants.{Ended, TakesShared, LoadsPhase, Walks, CountsTaken, LoadsSafe, SwapsValue, LoadsCurrent, ChangesValue, LoadsAnswer, TakesExclusive, LoadsOld, Appends, LoadsTail, LoadsTaken, DropsExclusive, DropsShared}
use Rattle.fkv_ops.specs.declared.walking.Walking.TheVariants.{HasFound}
use Rattle.fkv_ops.specs.Requests.{is_read, is_blind}
use Rattle.fkv_ops.specs.Values.{value_of}
use Rattle.fkv_ops.specs.Walking.{WalkState, walk_ask, walk_next}
use Rattle.fkv_ops.specs.Trying.{TryState, must_shift}
use Rattle.fkv_ops.specs.declared.walking.WalkAnswer.TheVariants as walked
use Rattle.fkv_plane.specs.declared.asks.Ask.TheVariants.{Done}
use Rattle.fkv_plane.specs.declared.places.Places.{Places}
use Rattle.law_local.specs.Tries.OnWay.{IsFoundAt}
use Rattle.law_local.specs.Tries.WalkRows.{begin_of, FoundKnows, LoadsFrom, WalkKnows}
use Rattle.law_local.specs.Tries.HeldRows.{HeldKnows, IsSoughtFrom}
use Rattle.fkv_ops.specs.Waiting.{told_of}
use Rattle.fkv_map.specs.Map.{absent_word}

abbrev pub key_in : Request → ℕ
key_in request = (key_of request.op).0

abbrev pub head_in : Seen → ℕ
head_in seen = seen.offsets.head.0

abbrev pub floor_in : Request → ℕ
floor_in request = request.floor.0

-- the first record of the request's key from an address on
abbrev pub first_of : (ℕ → ℕ) → Log → Request → ℕ → ℕ
first_of home log request from = first_from home log (key_in request) from

-- What a request knows: it brings a value that there is; what lies below the head that its session has seen is fixed, and so is what lies below its floor;
-- and what it holds.
pub record RequestKnows (home : ℕ → ℕ) (log : Log) (request : Request) (seen : Seen) : Type 0 where
  pub plain : IsReserved request.op → ⊥
  pub low : head_in seen ≤ log.fixed
  pub low_floor : floor_in request ≤ log.fixed
  pub held : HeldKnows home log (floor_in request) (key_in request) (head_in seen) request.held

-- the walk is for the request's key, and leaves memory at the head that the session has seen
pub record IsWalkFor (request : Request) (seen : Seen) (w : WalkState) : Type 0 where
  pub its_key : w.key ≡ key_of request.op
  pub its_head : w.head ≡ seen.offsets.head

-- once it has found its entry it does without the records below the request's floor
abbrev pub WalkIsLive : (ℕ → ℕ) → Log → Request → WalkState → Type 0
WalkIsLive home log request w = (w.entry ≡ 0) ⊎ (IsWithin (begin_of w) (log.chains (home (key_in request))) × IsWalkLive (floor_in request) home log (key_in request) (begin_of w))

-- the walk stands at the record that it has found
pub record StandsAt (home : ℕ → ℕ) (log : Log) (request : Request) (seen : Seen) (w : WalkState) (addr : Addr) (version : Version) : Type 0 where
  pub its : IsWalkFor request seen w
  pub at : w.step ≡ HasFound addr version
  pub knows : FoundKnows home log w addr version

-- a record of the request's key and version, which the session may change in place
pub record MayChange (home : ℕ → ℕ) (log : Log) (request : Request) (seen : Seen) (from at : ℕ) : Type 0 where
  pub found : IsFoundAt home log (key_in request) from at request.version.0
  pub mutable : seen.offsets.read_only.0 ≤ at

-- the walk loads the value of the record that it has found
pub record LoadsFound (home : ℕ → ℕ) (log : Log) (request : Request) (seen : Seen) (w : WalkState) (addr : Addr) : Type 0 where
  pub version : ℕ
  pub found : IsFoundAt home log (key_in request) (begin_of w) addr.0 version
  pub in_memory : head_in seen ≤ addr.0
  pub loads : LoadsFrom w addr

pub record AnswersFrom (home : ℕ → ℕ) (log : Log) (request : Request) (seen : Seen) (w : WalkState) : Type 0 where
  pub addr : Addr
  pub its : LoadsFound home log request seen w addr

-- and that record stands still, so a new one may be made of it
pub record LoadsStill (home : ℕ → ℕ) (log : Log) (request : Request) (seen : Seen) (w : WalkState) : Type 0 where
  pub addr : Addr
  pub its : LoadsFound home log request seen w addr
  pub still : StandsStill log addr.0 request.version.0

pub record CopiesStill (home : ℕ → ℕ) (log : Log) (request : Request) (seen : Seen) (w : WalkState) : Type 0 where
  pub addr : Addr
  pub version : Version
  pub stands : StandsAt home log request seen w addr version
  pub still : StandsStill log addr.0 request.version.0

-- of the value that this word stands for an operation makes the same, and tells the same, as of this value
pub record IsOldFor (op : Op) (word : ℕ) (logged_value : Option ℕ) : Type 0 where
  pub same_value : value_applied (value_of word) op ≡ value_applied logged_value op
  pub same_reply : reply_from (value_of word) op ≡ reply_from logged_value op

-- of the value of the first record of its key, which is fixed
pub record KnowsOld (home : ℕ → ℕ) (log : Log) (request : Request) (from word : ℕ) : Type 0 where
  pub begins : IsWithin from (log.chains (home (key_in request)))
  pub fixed : IsFixed log (first_of home log request from)
  pub its_old : IsOldFor request.op word (value_at (log.cells (first_of home log request from)))

abbrev pub OldKnows : (ℕ → ℕ) → Log → Request → Seen → WalkState → OldValue → Type 0
OldKnows home log request seen w InMemory = CopiesStill home log request seen w
OldKnows home log request seen w (Known word) = KnowsOld home log request (begin_of w) word

-- the record that these words are, of this version: their header has no more than its mark
abbrev pub cell_of : ℕ → RecordWords → Cell
cell_of version its = record { key = its.key.0; value = value_of its.value; version = version; previous = its.header.previous.0 }

-- an entry of the history for an operation, with this reply
abbrev pub IsEntryOf : Op → Reply → HistoryEntry → Type 0
IsEntryOf op its entry = (entry.op ≡ op) × (entry.reply ≡ its)

-- a record is made as it has to be, for whichever entry of the operation with this reply
abbrev pub IsMadeFor : (ℕ → ℕ) → Log → Op → Reply → Cell → Type 0
IsMadeFor home log op its cell = (entry : HistoryEntry) → IsEntryOf op its entry → IsMade home log entry cell

-- so is the one that is to be written, of the request's version, until its address is reserved: from then on the log has it
abbrev pub AppendKnows : (ℕ → ℕ) → Log → Request → Reply → Cell → Appending → Type 0
AppendKnows home log request its cell Reserves = (cell.version ≡ request.version.0) × IsMadeFor home log request.op its cell
AppendKnows home log request its cell step = ⊤

-- a record of the device that is awaited lies on the way from its entry
abbrev pub AnswerKnows : (ℕ → ℕ) → Log → Request → Seen → TryAnswer → Type 0
AnswerKnows home log request seen (answer.AwaitsDisk it) = IsSoughtFrom home log (floor_in request) (key_in request) (head_in seen) it
AnswerKnows home log request seen its = ⊤

abbrev pub IsUpdate : Request → Type 0
IsUpdate request = is_read request.op ≡ false

-- no record of the home of an update's key is of a later version than its request
abbrev pub NoneIsLater : (ℕ → ℕ) → Log → Request → Type 0
NoneIsLater home log request = IsUpdate request → NoneAbove log (home (key_in request)) request.version.0

-- if the reply ends the walk at a record of the key, and the try passes its test for a later version, then there is none
abbrev pub NoneLaterPast : (ℕ → ℕ) → Log → Places → TryState → ℕ → Type 0
NoneLaterPast home log p t reply =
    t.step ≡ Walks → (addr : Addr) (version : Version) → walk_ask p (walk_next p t.walk reply) ≡ Done (walked.Found addr version) → must_shift (record t { walk = walk_next p t.walk reply }) ≡ false
    → NoneIsLater home log t.request

-- If the reply ends an update's walk at a record that the session may change in place, and its header has the mark of the request's version, then
-- the record is of that version.
abbrev pub MarksTell : Log → Places → TryState → ℕ → Type 0
MarksTell log p t reply =
    t.step ≡ Walks → (addr : Addr) (said : Version) → walk_ask p (walk_next p t.walk reply) ≡ Done (walked.Found addr said) → IsUpdate t.request → t.seen.offsets.read_only.0 ≤ addr.0 → said.0 ≡ mark t.request.version.0
    → version_at (log.cells addr.0) ≡ t.request.version.0

abbrev pub TryRow : (ℕ → ℕ) → Log → TryState → Trying → Type 0
TryRow home log t (Ended its) = AnswerKnows home log t.request t.seen its
TryRow home log t TakesShared = IsUpdate t.request
TryRow home log t LoadsPhase = IsUpdate t.request
TryRow home log t Walks = IsWalkFor t.request t.seen t.walk × WalkKnows home log t.walk × WalkIsLive home log t.request t.walk
TryRow home log t CountsTaken = IsUpdate t.request × OldKnows home log t.request t.seen t.walk (Known absent_word)
TryRow home log t (LoadsSafe addr version) = IsUpdate t.request × StandsAt home log t.request t.seen t.walk addr version
TryRow home log t (SwapsValue addr) = IsUpdate t.request × (is_blind t.request.op ≡ true) × MayChange home log t.request t.seen (begin_of t.walk) addr.0
TryRow home log t (LoadsCurrent addr) = IsUpdate t.request × LoadsFrom t.walk addr × MayChange home log t.request t.seen (begin_of t.walk) addr.0
TryRow home log t (ChangesValue addr old) = IsUpdate t.request × MayChange home log t.request t.seen (begin_of t.walk) addr.0
TryRow home log t LoadsAnswer = AnswersFrom home log t.request t.seen t.walk
TryRow home log t (TakesExclusive old) = IsUpdate t.request × OldKnows home log t.request t.seen t.walk old
TryRow home log t LoadsOld = IsUpdate t.request × LoadsStill home log t.request t.seen t.walk
TryRow home log t (Appends its) = IsUpdate t.request × AppendKnows home log t.request its (cell_of t.request.version.0 t.append.its_words) t.append.step
TryRow home log t (LoadsTail waiting) = IsUpdate t.request × AnswerKnows home log t.request t.seen (told_of waiting)
TryRow home log t (LoadsTaken waiting) = IsUpdate t.request × AnswerKnows home log t.request t.seen (told_of waiting)
TryRow home log t (DropsExclusive its) = IsUpdate t.request × AnswerKnows home log t.request t.seen its
TryRow home log t (DropsShared its) = IsUpdate t.request × AnswerKnows home log t.request t.seen its

-- a read holds no latch
abbrev pub IsFree : Request → Bool → Bool → Type 0
IsFree request has_shared has_exclusive = is_read request.op ≡ true → (has_shared ≡ false) × (has_exclusive ≡ false)

-- What a try knows: what its request does, and what comes by its control state.
pub record TryKnows (home : ℕ → ℕ) (log : Log) (t : TryState) : Type 0 where
  pub request : RequestKnows home log t.request t.seen
  pub free : IsFree t.request t.has_shared t.has_exclusive
  pub row : TryRow home log t t.step
