-- What the laws say of walks and tries.
use Rattle.std.specs.Prelude.{◌≡◌, ◌<◌, ◌≤◌, ℕ, true, false, None, List}
use Rattle.fkv_base.specs.declared.numbers.Addr.{Addr}
use Rattle.fkv_map.specs.declared.history.HistoryEntry.{HistoryEntry}
use Rattle.fkv_map.specs.declared.operations.Reply.{Reply}
use Rattle.fkv_map.specs.Map.{Map}
use Rattle.fkv_map.specs.Keys.{value_applied, reply_from}
use Rattle.fkv_plane.specs.declared.asks.Ask.TheVariants.{Done}
use Rattle.fkv_plane.specs.declared.places.Places.{Places}
use Rattle.fkv_plane.specs.Passing.{is_done}
use Rattle.fkv_log.specs.declared.reserving.ReserveAnswer.TheVariants.{Reserved}
use Rattle.fkv_log.specs.Reserving.{reserve_next_ask}
use Rattle.law_log.specs.Begins.{Live}
use Rattle.law_log.specs.Ghosts.{Log, Ghosts, GhostEvent, log_after, ghost_run}
use Rattle.law_log.specs.Enabled.{AreChains, IsMade, IsOpened, AreEnabled, IsEnabled}
use Rattle.fkv_ops.specs.declared.answers.DiskRecord.{DiskRecord}
use Rattle.fkv_ops.specs.declared.answers.TryAnswer.TheVariants.{AwaitsDisk}
use Rattle.fkv_ops.specs.declared.appending.Appending.TheVariants.{Reserves}
use Rattle.fkv_ops.specs.declared.requests.Occasion.{Occasion}
use Rattle.fkv_ops.specs.declared.requests.Request.{Request}
use Rattle.fkv_ops.specs.declared.requests.Seen.{Seen}
use Rattle.fkv_ops.specs.declared.trying.Trying.TheVariants.{SwapsValue, ChangesValue, Appends}
use Rattle.fkv_ops.specs.declared.walking.WalkAnswer.{WalkAnswer}
use Rattle.fkv_ops.specs.Requests.{is_read}
use Rattle.fkv_ops.specs.Trying.{TryState, try_begun, try_ask, try_next}
use Rattle.fkv_ops.specs.Values.{value_of, word_of}
use Rattle.fkv_ops.specs.Walking.{WalkState, walk_ask, walk_next}
use Rattle.law_local.specs.Tries.Changes.{IsAlone, IsEnabledChange}
use Rattle.law_local.specs.Tries.HeldRows.{IsSoughtFrom}
use Rattle.law_local.specs.Tries.Kept.{KeepsForTry}
use Rattle.law_local.specs.Tries.OnWay.{IsOrderly}
use Rattle.law_local.specs.Tries.Replies.{IsTrueOfWalk, IsTrueReply}
use Rattle.law_local.specs.Tries.Tells.{TryTells, WalkBegins, TryGoesFrom}
use Rattle.law_local.specs.Tries.TryRows.{key_in, head_in, floor_in, RequestKnows, cell_of, IsEntryOf, MarksTell, NoneLaterPast, TryKnows}
use Rattle.law_local.specs.Tries.WalkRows.{WalkKnows, WalkTells}

-- What is known of a log is known after each further event that keeps to its rule, whatever list of such events was before, from whatever
-- opening.
abbrev pub StaysWhere : ((ℕ → ℕ) → Log → Log → Type 0) → ((ℕ → ℕ) → Log → Type 0) → Type 0
StaysWhere Keeps Knows =
    (home : ℕ → ℕ) (m : Map) (version : ℕ) (opening : Ghosts) (events : List GhostEvent) (event : GhostEvent) → IsOpened home m version opening → AreEnabled home opening events
    → IsEnabled home (ghost_run home opening events) event → Keeps home (ghost_run home opening events).log (log_after home (ghost_run home opening events).log event)
    → Knows home (ghost_run home opening events).log → Knows home (log_after home (ghost_run home opening events).log event)

-- nothing more has to be kept
abbrev pub Stays : ((ℕ → ℕ) → Log → Type 0) → Type 0
Stays Knows = StaysWhere (λ home before after. Unit {0}) Knows

-- ---- walks
abbrev pub WalkRowsStay : Type 0
WalkRowsStay = (w : WalkState) → Stays (λ home log. WalkKnows home log w)

-- each true reply leads a walk on to what it has to know
abbrev pub WalksLeadOn : Type 0
WalksLeadOn = (home : ℕ → ℕ) (log : Log) (p : Places) (w : WalkState) (reply : ℕ) → AreChains home log → WalkKnows home log w → IsTrueOfWalk home log p w w.step reply → WalkKnows home log (walk_next p w reply)

-- and where it waits or has ended, what it tells is so
abbrev pub WalksTell : Type 0
WalksTell = (home : ℕ → ℕ) (log : Log) (p : Places) (w : WalkState) (its : WalkAnswer) → WalkKnows home log w → walk_ask p w ≡ Done its → WalkTells home log w its

-- as its search ends a walk goes down from where its chain begins then, and it goes down from there until its end
abbrev pub WalksBeginAtHead : Type 0
WalksBeginAtHead = (home : ℕ → ℕ) (log : Log) (p : Places) (w : WalkState) (reply : ℕ) → WalkKnows home log w → IsTrueOfWalk home log p w w.step reply → WalkBegins home log p w w.step reply

-- ---- tries
-- what a request knows it knows on as the head rises that its session has seen
abbrev pub RequestsKnowLater : Type 0
RequestsKnowLater = (home : ℕ → ℕ) (log : Log) (request : Request) (seen later : Seen) → head_in seen ≤ head_in later → head_in later ≤ log.fixed → RequestKnows home log request seen → RequestKnows home log request later

abbrev pub HasNoLatch : Request → Type 0
HasNoLatch request = is_read request.op ≡ true → request.has_latch ≡ false

-- a try of what a request knows begins with what it has to know
abbrev pub TriesBegin : Type 0
TriesBegin = (home : ℕ → ℕ) (log : Log) (p : Places) (bits : ℕ) (request : Request) (seen : Seen) (occasion : Occasion) (spare : ℕ) → RequestKnows home log request seen → HasNoLatch request → TryKnows home log (try_begun p bits request seen occasion spare)

abbrev pub TryRowsStay : Type 0
TryRowsStay = (t : TryState) → StaysWhere (λ home log after. KeepsForTry home log after t t.step) (λ home log. TryKnows home log t)

-- the log does without its records below the request's floor, where a walk begins
abbrev pub TriesLeadOn : Type 0
TriesLeadOn = (home : ℕ → ℕ) (log : Log) (p : Places) (room : ℕ) (t : TryState) (reply : ℕ) → IsOrderly home log → Live (floor_in t.request) home log → NoneLaterPast home log p t reply → MarksTell log p t reply → TryKnows home log t → IsTrueReply home log p t t.step reply → TryKnows home log (try_next p room t reply)

-- the won Cas of the tail reserves an address above what its record leads to, which is made as it has to be
abbrev pub ReservesAreEnabled : Type 0
ReservesAreEnabled = (home : ℕ → ℕ) (log : Log) (p : Places) (room : ℕ) (t : TryState) (reply : ℕ) (its : Reply) (addr : Addr) (entry : HistoryEntry) → TryKnows home log t → IsTrueReply home log p t t.step reply → t.step ≡ Appends its
    → t.append.step ≡ Reserves → reserve_next_ask room t.append.reserving reply ≡ Done (Reserved addr) → IsEntryOf t.request.op its entry
    → ((cell_of t.request.version.0 t.append.its_words).previous < addr.0) × IsMade home log entry (cell_of t.request.version.0 t.append.its_words)

-- a Swap of a value word makes a change that may be made
abbrev pub SwapsAreEnabled : Type 0
SwapsAreEnabled = (home : ℕ → ℕ) (log : Log) (t : TryState) (addr : Addr) (entry : HistoryEntry) → TryKnows home log t → t.step ≡ SwapsValue addr → IsEntryOf t.request.op (reply_from None t.request.op) entry → IsAlone home log t.request t.seen addr.0
    → IsEnabledChange home log addr.0 (word_of (value_applied None t.request.op)) entry

-- and so does a Cas of it that is won
abbrev pub CasesAreEnabled : Type 0
CasesAreEnabled = (home : ℕ → ℕ) (log : Log) (p : Places) (t : TryState) (addr : Addr) (old reply : ℕ) (entry : HistoryEntry) → TryKnows home log t → IsTrueReply home log p t t.step reply → t.step ≡ ChangesValue addr old → reply ≡ old
    → IsEntryOf t.request.op (reply_from (value_of old) t.request.op) entry → IsAlone home log t.request t.seen addr.0 → IsEnabledChange home log addr.0 (word_of (value_applied (value_of old) t.request.op)) entry

-- the reply that ends a try of a read ends it with what it has to tell
abbrev pub ReadsTell : Type 0
ReadsTell = (home : ℕ → ℕ) (log : Log) (p : Places) (room : ℕ) (t : TryState) (reply : ℕ) → IsOrderly home log → Live (floor_in t.request) home log → TryKnows home log t → is_read t.request.op ≡ true → is_done (try_ask p t) ≡ false → IsTrueReply home log p t t.step reply
    → TryTells home log p (try_next p room t reply)

-- a try that awaits a record of the device names one that lies on the way from its entry
abbrev pub TriesSeek : Type 0
TriesSeek = (home : ℕ → ℕ) (log : Log) (p : Places) (t : TryState) (it : DiskRecord) → TryKnows home log t → try_ask p t ≡ Done (AwaitsDisk it) → IsSoughtFrom home log (floor_in t.request) (key_in t.request) (head_in t.seen) it

-- and it goes by the entry by which its walk does
abbrev pub TriesGoFrom : Type 0
TriesGoFrom = (p : Places) (room : ℕ) (t : TryState) (reply : ℕ) → TryGoesFrom p room t t.step reply
