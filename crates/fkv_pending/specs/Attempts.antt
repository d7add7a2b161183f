-- What comes of an attempt, over every list of replies.
use Rattle.std.specs.Prelude.{◌≡◌, ◌≢◌, ◌⊎◌, ℕ, ◌^◌, ◌≤◌, ◌==◌, ◌&&◌, ◌||◌, if◌then◌else◌, Bool, true, false, List, [], ◌∷◌, Option, Some, None, ⊤}
use Rattle.std.specs.Option.{is_some}
use Rattle.fkv_base.specs.declared.numbers.Addr.{Addr}
use Rattle.fkv_base.specs.declared.numbers.Version.{Version}
use Rattle.fkv_map.specs.declared.operations.Reply.{Reply}
use Rattle.fkv_map.specs.Keys.{key_of}
use Rattle.fkv_plane.specs.declared.asks.Ask.{Ask}
use Rattle.fkv_plane.specs.declared.asks.Ask.TheVariants.{Load, Store, Done}
use Rattle.fkv_plane.specs.declared.places.Places.{Places}
use Rattle.fkv_plane.specs.declared.places.SessionWord.TheVariants as own
use Rattle.fkv_plane.specs.Places.{session_place}
use Rattle.fkv_ops.specs.declared.answers.DiskRecord.{DiskRecord}
use Rattle.fkv_ops.specs.declared.answers.Reason.TheVariants as reason
use Rattle.fkv_ops.specs.declared.answers.TryAnswer.{TryAnswer}
use Rattle.fkv_ops.specs.declared.answers.TryAnswer.TheVariants as answer
use Rattle.fkv_ops.specs.declared.header_words.HeaderSaid.{HeaderSaid}
use Rattle.fkv_ops.specs.declared.header_words.HeaderSaid.TheVariants.{Says, Spoiled}
use Rattle.fkv_ops.specs.declared.requests.HeldRecord.{HeldRecord}
use Rattle.fkv_ops.specs.declared.requests.Occasion.{Occasion}
use Rattle.fkv_ops.specs.declared.requests.Occasion.TheVariants.{Poll}
use Rattle.fkv_ops.specs.Bounds.{IsCall}
use Rattle.fkv_ops.specs.declared.requests.Request.{Request}
use Rattle.fkv_ops.specs.declared.requests.Seen.{Seen}
use Rattle.fkv_ops.specs.HeaderWords.{header_said}
use Rattle.fkv_ops.specs.Requests.{is_read, is_chain_end}
use Rattle.fkv_ops.specs.Values.{value_of}
use Rattle.fkv_ops.specs.Trying.{TryState, try_ask, try_next}
use Rattle.fkv_ops.specs.TryRun.{Trial, try_run, trial_begun, Exchange}
use Rattle.fkv_ops.specs.Spares.{spare_told}
use Rattle.fkv_pending.specs.declared.attempting.Attempting.{Attempting}
use Rattle.fkv_pending.specs.declared.attempting.Attempting.TheVariants.{Ended, Looks, Tries, Puts}
use Rattle.fkv_pending.specs.declared.mailing.MailAnswer.{MailAnswer}
use Rattle.fkv_pending.specs.declared.mailing.MailAnswer.TheVariants as mail
use Rattle.fkv_pending.specs.declared.mailing.MailRecord.{MailRecord}
use Rattle.fkv_pending.specs.declared.pending_requests.PendingRequest.{PendingRequest}
use Rattle.fkv_pending.specs.Mailing.{mail_empty, mail_ask, mail_next, is_gone, begin_told}
use Rattle.fkv_pending.specs.Attempting.{AttemptState, attempt_ask, attempt_begun, attempt_next, held_kept}

-- What the run of an attempt has told so far.
pub record AttemptPast : Type 0 where
  -- the record that the look into the mailbox has taken
  pub taken : Option MailRecord
  -- what the try has come to
  pub tried : Option TryAnswer
  -- the address that was stored in the mailbox, and what putting it has come to
  pub address : Option ℕ
  pub put : Option MailAnswer

abbrev pub look_told : Ask MailAnswer → AttemptPast → AttemptPast
look_told (Done (mail.Taken its)) past = record past { taken = Some its }
look_told ask past = past

abbrev pub try_told : Ask TryAnswer → AttemptPast → AttemptPast
try_told (Done its) past = record past { tried = Some its }
try_told ask past = past

abbrev pub address_told : ℕ → Ask MailAnswer → AttemptPast → AttemptPast
address_told session (Store place word) past = if place == session_place session own.MailAddress then record past { address = Some word } else past
address_told session ask past = past

abbrev pub put_told : Ask MailAnswer → AttemptPast → AttemptPast
put_told (Done its) past = record past { put = Some its }
put_told ask past = past

-- by the machine inside that is driven: what it asks, and what it asks behind the reply
abbrev pub attempt_told : Places → ℕ → ℕ → AttemptState → Attempting → ℕ → AttemptPast → AttemptPast
attempt_told p room session a (Ended its) reply past = past
attempt_told p room session a Looks reply past = look_told (mail_ask session (mail_next a.mailing reply)) past
attempt_told p room session a Tries reply past = try_told (try_ask p (try_next p room a.trial reply)) past
attempt_told p room session a Puts reply past = put_told (mail_ask session (mail_next a.mailing reply)) (address_told session (mail_ask session a.mailing) past)

-- an attempt, by the replies that it has met, the newest first
unfoldable pub attempt_run : Places → ℕ → ℕ → ℕ → AttemptState → List ℕ → AttemptState
attempt_run p bits room session begun [] = begun
attempt_run p bits room session begun (reply ∷ before) = attempt_next p bits room session (attempt_run p bits room session begun before) reply

unfoldable pub attempt_past : Places → ℕ → ℕ → ℕ → AttemptState → List ℕ → AttemptPast
attempt_past p bits room session begun [] = record { taken = None; tried = None; address = None; put = None }
attempt_past p bits room session begun (reply ∷ before) =
    let a = attempt_run p bits room session begun before in
    attempt_told p room session a a.step reply (attempt_past p bits room session begun before)

-- a request has finished that is answered anything but that it has to wait, or that its session has to shift
abbrev pub is_finished : TryAnswer → Bool
is_finished (answer.Wait its) = false
is_finished answer.Shift = false
is_finished its = true

abbrev pub has_finished : Ask TryAnswer → Bool
has_finished (Done its) = is_finished its
has_finished ask = false

-- its mail is under way where the put was answered so; and where it had asked before, as long as no record was taken
abbrev pub is_under_way : Option MailAnswer → Option MailRecord → Bool → Bool
is_under_way (Some mail.Asked) taken had_asked = true
is_under_way put (Some its) had_asked = false
is_under_way put None had_asked = had_asked

-- a request that has asked in this attempt has asked for the record that it seeks
pub record HasAskedForSought (sought : Option DiskRecord) (address : Option ℕ) : Type 0 where
  pub record_sought : DiskRecord
  pub its_sought : sought ≡ Some record_sought
  pub its_address : address ≡ Some record_sought.addr.0

-- what a request waits for that waits for the device: its mail is under way, or the mailbox was occupied. Or it seeks nothing, since its record is gone.
-- (Else its try has ended so by itself, which no try does.)
abbrev pub IsAwaiting : PendingRequest → AttemptPast → Type 0
IsAwaiting pending past =
    (pending.has_asked ≡ true)
    ⊎ ((past.put ≡ Some mail.Occupied)
    ⊎ ((past.tried ≡ Some (answer.Wait reason.Disk))
    ⊎ (pending.sought ≡ None)))

-- the request's floor: the begin that the mail told whose record is gone, and else what it was
abbrev pub floor_behind : PendingRequest → Option MailRecord → Addr
floor_behind first None = first.request.floor
floor_behind first (Some its) = if is_gone its then begin_told its else first.request.floor

-- what is held came by the mail that was taken, with the entry of the record that was sought then
pub record HasCome (sought : Option DiskRecord) (taken : Option MailRecord) (its : HeldRecord) : Type 0 where
  pub record_sought : DiskRecord
  pub its_sought : sought ≡ Some record_sought
  pub mail : MailRecord
  pub its_mail : taken ≡ Some mail
  pub its_entry : its.entry ≡ record_sought.entry
  pub its_key : its.key ≡ mail.key
  pub its_value : its.value ≡ mail.value
  pub version : Version
  pub its_previous : header_said mail.header ≡ Says its.previous version

-- What holds of an attempt of this request, at each moment: by the ask that it makes then.
pub record IsAttemptTrue (pending : PendingRequest) (is_orphaned : Bool) (a : AttemptState) (past : AttemptPast) (ask : Ask TryAnswer) : Type 0 where
  pub under_way : a.pending.has_asked ≡ is_under_way past.put past.taken pending.has_asked
  -- mail is for nobody just where it was before, or where the request has finished while its mail is under way
  pub orphaned : a.is_orphaned ≡ (is_orphaned || (has_finished ask && a.pending.has_asked))
  pub asked : past.put ≡ Some mail.Asked → HasAskedForSought a.pending.sought past.address
  pub awaits : ask ≡ Done (answer.Wait reason.Disk) → IsAwaiting a.pending past
  pub held : (its : HeldRecord) → a.pending.request.held ≡ Some its → (pending.request.held ≡ Some its) ⊎ HasCome pending.sought past.taken its
  pub floor : a.pending.request.floor ≡ floor_behind pending past.taken

abbrev pub AttemptsTrue : Type 0
AttemptsTrue =
    (p : Places) (bits room session : ℕ) (pending : PendingRequest) (seen : Seen) (occasion : Occasion) (spare : ℕ) (is_orphaned : Bool) (replies : List ℕ)
    → let begun = attempt_begun p bits pending seen occasion spare is_orphaned in
    let its = attempt_run p bits room session begun replies in
    IsAttemptTrue pending is_orphaned its (attempt_past p bits room session begun replies) (attempt_ask p session its)

-- What an attempt is given.
pub record AttemptGiven : Type 0 where
  pub places : Places
  -- the index has 2^bits buckets
  pub bits : ℕ
  pub its_buckets : places.buckets ≡ 2 ^ bits
  -- how many addresses the log has on the device
  pub room : ℕ
  -- whose mailbox it is
  pub session : ℕ
  pub pending : PendingRequest
  -- what the session has seen
  pub seen : Seen
  pub occasion : Occasion
  -- the overflow bucket that the session has taken and not linked
  pub spare : ℕ
  pub is_orphaned : Bool

-- it begins
abbrev pub begun_by : AttemptGiven → AttemptState
begun_by c = attempt_begun c.places c.bits c.pending c.seen c.occasion c.spare c.is_orphaned

abbrev pub run_by : AttemptGiven → List ℕ → AttemptState
run_by c replies = attempt_run c.places c.bits c.room c.session (begun_by c) replies

-- The effect that an attempt tells is the one that its try told at that step; the mailbox makes none.
abbrev pub effect_of_try : AttemptGiven → AttemptState → Attempting → ℕ → Option Reply
effect_of_try c a Tries reply = (try_next c.places c.room a.trial reply).effect
effect_of_try c a step reply = None

abbrev pub told_effect : AttemptGiven → List ℕ → Option Reply
told_effect c [] = None
told_effect c (reply ∷ others) = effect_of_try c (run_by c others) (run_by c others).step reply

abbrev pub EffectsTold : Type 0
EffectsTold = (c : AttemptGiven) (replies : List ℕ) → (run_by c replies).effect ≡ told_effect c replies

abbrev pub past_by : AttemptGiven → List ℕ → AttemptPast
past_by c replies = attempt_past c.places c.bits c.room c.session (begun_by c) replies

-- the replies that the try has met, the newest first
abbrev pub try_reply : Attempting → ℕ → List ℕ → List ℕ
try_reply Tries reply its = reply ∷ its
try_reply step reply its = its

abbrev pub try_replies : AttemptGiven → List ℕ → List ℕ
try_replies c [] = []
try_replies c (reply ∷ others) = try_reply (run_by c others).step reply (try_replies c others)

-- what its try is given: this request, what the session has seen, and the attempt's own occasion
abbrev pub trial_of : AttemptGiven → Request → Trial
trial_of c request = record { places = c.places; bits = c.bits; its_buckets = c.its_buckets; room = c.room; request = request; seen = c.seen; occasion = c.occasion }

-- what the try holds: the record that was taken, with the entry of the record that was sought; and without one what was held
abbrev pub HoldsMail : Option DiskRecord → MailRecord → HeaderSaid → Option HeldRecord → Type 0
HoldsMail (Some sought) its (Says previous version) held = held ≡ Some (record { entry = sought.entry; previous = previous; key = its.key; value = its.value })
HoldsMail sought its said held = held ≡ None

abbrev pub HoldsSo : PendingRequest → Option MailRecord → Option HeldRecord → Type 0
HoldsSo first None held = held ≡ first.request.held
HoldsSo first (Some its) held = HoldsMail first.sought its (header_said its.header) held

-- The try of an attempt is one of the request that waits, with its latch, at the attempt's own occasion, with the session's spare bucket;
-- and it has met these replies.
pub record IsItsTry (c : AttemptGiven) (taken : Option MailRecord) (trial : TryState) (replies : List ℕ) : Type 0 where
  pub request : Request
  pub its_op : request.op ≡ c.pending.request.op
  pub its_version : request.version ≡ c.pending.request.version
  pub its_latch : request.has_latch ≡ c.pending.request.has_latch
  pub its_held : HoldsSo c.pending taken request.held
  pub its_floor : request.floor ≡ floor_behind c.pending taken
  pub its_run : trial ≡ try_run (trial_of c request) (trial_begun (trial_of c request) c.spare) replies

-- How far the try has come, and whether the request shares its latch then, and what the session's spare bucket is: as they were given, up to
-- the try's end, and from there on as the try has left them.
pub data TryStands (c : AttemptGiven) (has_latch : Bool) (spare : ℕ) (trial : TryState) (taken : Option MailRecord) (tried : Option TryAnswer) (replies : List ℕ) : Type 0 where
  NotTried : replies ≡ [] → tried ≡ None → has_latch ≡ c.pending.request.has_latch → spare ≡ c.spare → TryStands c has_latch spare trial taken tried replies
  UnderWay : IsItsTry c taken trial replies → tried ≡ None → has_latch ≡ c.pending.request.has_latch → spare ≡ c.spare → TryStands c has_latch spare trial taken tried replies
  HasEnded : (its : TryAnswer) → IsItsTry c taken trial replies → try_ask c.places trial ≡ Done its → tried ≡ Some its → has_latch ≡ trial.has_shared → spare ≡ trial.spare
      → TryStands c has_latch spare trial taken tried replies

-- Name, operation and version stay.
pub record IsSameRequest (first its : PendingRequest) : Type 0 where
  pub name : its.name ≡ first.name
  pub op : its.request.op ≡ first.request.op
  pub version : its.request.version ≡ first.request.version

-- what is held when a record of the device is awaited was read from the same entry
abbrev pub HoldsFromEntry : Option TryAnswer → Option HeldRecord → Type 0
HoldsFromEntry tried held = (sought : DiskRecord) → tried ≡ Some (answer.AwaitsDisk sought) → (its : HeldRecord) → held ≡ Some its → its.entry ≡ sought.entry

-- What holds of the try of an attempt, at each moment.
pub record IsTryKept (c : AttemptGiven) (a : AttemptState) (past : AttemptPast) (replies : List ℕ) : Type 0 where
  pub same : IsSameRequest c.pending a.pending
  pub stands : TryStands c a.pending.request.has_latch a.spare a.trial past.taken past.tried replies
  -- a read that seeks a record is not tried at a poll
  pub reads : c.occasion ≡ Poll → is_read c.pending.request.op ≡ true → is_some c.pending.sought ≡ true → replies ≡ []
  pub held : HoldsFromEntry past.tried a.pending.request.held

abbrev pub TriesKept : Type 0
TriesKept = (c : AttemptGiven) (replies : List ℕ) → IsTryKept c (run_by c replies) (past_by c replies) (try_replies c replies)

-- What a read at a poll is answered by the record that was taken: that record's value, where it has the read's key; that the key is absent,
-- where it has that key without a value, or is another's and the last of its chain; and else, or where it is gone or spoiled, that it has to wait.
abbrev pub IsReadBy : PendingRequest → MailRecord → HeaderSaid → TryAnswer → Type 0
IsReadBy first its (Says previous version) (answer.Found value) = (its.key.0 ≡ (key_of first.request.op).0) × (value_of its.value ≡ Some value.0)
IsReadBy first its (Says previous version) answer.Absent =
    ((its.key.0 ≡ (key_of first.request.op).0) × (value_of its.value ≡ None)) ⊎ ((its.key.0 ≢ (key_of first.request.op).0) × (is_chain_end first.request.floor previous ≡ true))
IsReadBy first its (Says previous version) (answer.Wait reason.Disk) = (its.key.0 ≢ (key_of first.request.op).0) × (is_chain_end first.request.floor previous ≡ false)
IsReadBy first its Spoiled (answer.Wait reason.Disk) = ⊤
IsReadBy first its said told = ⊥

-- without a record it has to wait
abbrev pub IsReadEnd : PendingRequest → Option MailRecord → TryAnswer → Type 0
IsReadEnd first None told = told ≡ answer.Wait reason.Disk
IsReadEnd first (Some its) told = IsReadBy first its (header_said its.header) told

-- any other request is answered what its try has come to; one whose try awaits a record has to wait
abbrev pub IsTryEnd : Option TryAnswer → TryAnswer → Type 0
IsTryEnd None told = ⊥
IsTryEnd (Some (answer.AwaitsDisk sought)) told = told ≡ answer.Wait reason.Disk
IsTryEnd (Some its) told = told ≡ its

-- A read at a poll seeks the record before the one that was taken, along the walk from the same entry, where that one is another key's and
-- not the last of its chain. Where it is gone the read seeks none, and else what it sought.
abbrev pub IsBefore : Option DiskRecord → Addr → Option DiskRecord → Type 0
IsBefore None previous sought = sought ≡ None
IsBefore (Some its) previous sought = sought ≡ Some (record { entry = its.entry; addr = previous })

pub record SeeksBefore (first : PendingRequest) (its : MailRecord) (previous : Addr) (sought : Option DiskRecord) : Type 0 where
  pub goes_on : its.key.0 ≢ (key_of first.request.op).0 → is_chain_end first.request.floor previous ≡ false → IsBefore first.sought previous sought
  pub stays : (its.key.0 ≡ (key_of first.request.op).0) ⊎ (is_chain_end first.request.floor previous ≡ true) → sought ≡ first.sought

-- what a request seeks still behind its mail, as long as no try has told more
abbrev pub sought_behind : PendingRequest → Option MailRecord → Option DiskRecord
sought_behind first None = first.sought
sought_behind first (Some its) = if is_gone its then None else first.sought

abbrev pub ReadSeeksBy : PendingRequest → MailRecord → HeaderSaid → Option DiskRecord → Type 0
ReadSeeksBy first its Spoiled sought = sought ≡ sought_behind first (Some its)
ReadSeeksBy first its (Says previous version) sought = SeeksBefore first its previous sought

abbrev pub ReadSeeks : PendingRequest → Option MailRecord → Option DiskRecord → Type 0
ReadSeeks first None sought = sought ≡ first.sought
ReadSeeks first (Some its) sought = ReadSeeksBy first its (header_said its.header) sought

-- Any other request seeks the record that its try awaits, but where its mail is under way: then, and where its try awaits none, it seeks what
-- it sought, or nothing where that is gone.
abbrev pub TrySeeks : PendingRequest → Option MailRecord → Option TryAnswer → Option DiskRecord → Type 0
TrySeeks first taken (Some (answer.AwaitsDisk its)) sought = sought ≡ (if is_under_way None taken first.has_asked then first.sought else Some its)
TrySeeks first taken tried sought = sought ≡ sought_behind first taken

-- an update, a read at its call, or a read that seeks no record
abbrev pub IsToBeTried : AttemptGiven → Type 0
IsToBeTried c = IsCall c.occasion ⊎ ((is_read c.pending.request.op ≡ false) ⊎ (is_some c.pending.sought ≡ false))

-- What an attempt is answered, and what its request seeks then.
pub record IsAnswered (c : AttemptGiven) (a : AttemptState) (past : AttemptPast) (ask : Ask TryAnswer) : Type 0 where
  pub read_end : c.occasion ≡ Poll → is_read c.pending.request.op ≡ true → is_some c.pending.sought ≡ true → (its : TryAnswer) → ask ≡ Done its → IsReadEnd c.pending past.taken its
  pub read_seeks : c.occasion ≡ Poll → is_read c.pending.request.op ≡ true → is_some c.pending.sought ≡ true → ReadSeeks c.pending past.taken a.pending.sought
  pub try_end : IsToBeTried c → (its : TryAnswer) → ask ≡ Done its → IsTryEnd past.tried its
  pub try_seeks : IsToBeTried c → TrySeeks c.pending past.taken past.tried a.pending.sought

abbrev pub AnswersSo : Type 0
AnswersSo = (c : AttemptGiven) (replies : List ℕ) → IsAnswered c (run_by c replies) (past_by c replies) (attempt_ask c.places c.session (run_by c replies))

-- the state of the mailbox that was loaded last to put an address there
abbrev pub state_met : AttemptGiven → Ask MailAnswer → ℕ → Option ℕ → Option ℕ
state_met c (Load place) reply met = if place == session_place c.session own.MailState then Some reply else met
state_met c ask reply met = met

abbrev pub state_of_put : AttemptGiven → AttemptState → Attempting → ℕ → Option ℕ → Option ℕ
state_of_put c a Puts reply met = state_met c (mail_ask c.session a.mailing) reply met
state_of_put c a step reply met = met

abbrev pub met_state : AttemptGiven → List ℕ → Option ℕ
met_state c [] = None
met_state c (reply ∷ others) = state_of_put c (run_by c others) (run_by c others).step reply (met_state c others)

-- An address is stored only where the mailbox was found empty, or where this attempt has emptied it by taking a record.
pub data IsFree (met : Option ℕ) (taken : Option MailRecord) : Type 0 where
  WasEmpty : met ≡ Some mail_empty → IsFree met taken
  WasTaken : (its : MailRecord) → taken ≡ Some its → IsFree met taken

abbrev pub PutsWhereFree : Type 0
PutsWhereFree = (c : AttemptGiven) (replies : List ℕ) (word : ℕ) → (past_by c replies).address ≡ Some word → IsFree (met_state c replies) (past_by c replies).taken

-- What is left of a record that the request had when its try came to await one: it stays where it was read from the entry of that one, and
-- goes where it was read from another.
pub record HoldsOfEntry (first : PendingRequest) (taken : Option MailRecord) (entry : ℕ) (held : Option HeldRecord) : Type 0 where
  pub had : Option HeldRecord
  pub came : HoldsSo first taken had
  pub its_held : held ≡ held_kept had entry

-- However else its try ends, and as long as it has not ended, the record that was taken stays, or what was held where none was.
abbrev pub HoldsBehind : PendingRequest → Option MailRecord → Option TryAnswer → Option HeldRecord → Type 0
HoldsBehind first taken (Some (answer.AwaitsDisk sought)) held = HoldsOfEntry first taken sought.entry held
HoldsBehind first taken tried held = HoldsSo first taken held

-- what a read at a poll holds: what it held, and nothing where its record is gone
abbrev pub held_behind : PendingRequest → Option MailRecord → Option HeldRecord
held_behind first None = first.request.held
held_behind first (Some its) = if is_gone its then None else first.request.held

-- What a request holds, at each moment.
pub record IsHeldKept (c : AttemptGiven) (past : AttemptPast) (held : Option HeldRecord) : Type 0 where
  pub read : c.occasion ≡ Poll → is_read c.pending.request.op ≡ true → is_some c.pending.sought ≡ true → held ≡ held_behind c.pending past.taken
  pub other : IsToBeTried c → HoldsBehind c.pending past.taken past.tried held

abbrev pub HeldKept : Type 0
HeldKept = (c : AttemptGiven) (replies : List ℕ) → IsHeldKept c (past_by c replies) (run_by c replies).pending.request.held

-- what an attempt has asked, each with its reply, the newest first
abbrev pub attempt_exchanges : AttemptGiven → List ℕ → List Exchange
attempt_exchanges c [] = []
attempt_exchanges c (reply ∷ others) = record { ask = attempt_ask c.places c.session (run_by c others); reply = reply } ∷ attempt_exchanges c others

-- The session's spare bucket: as it was given up to the end of the try, and from there on the one that all asks of the attempt tell. It is
-- an overflow bucket that there is, or 0.
pub record IsSpareKept (c : AttemptGiven) (past : AttemptPast) (spare told : ℕ) : Type 0 where
  pub given : past.tried ≡ None → spare ≡ c.spare
  pub its_asks : (its : TryAnswer) → past.tried ≡ Some its → spare ≡ told
  pub few : spare ≤ c.places.overflow

abbrev pub SpareKept : Type 0
SpareKept = (c : AttemptGiven) (replies : List ℕ) → c.spare ≤ c.places.overflow
    → IsSpareKept c (past_by c replies) (run_by c replies).spare (spare_told c.places c.spare (attempt_exchanges c replies))
