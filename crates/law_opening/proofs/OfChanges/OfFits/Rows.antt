-- What a session that attempts something knows by its control state of numbers: what it has loaded fits in a word, and what it seeks on the device is there.
use Rattle.std.proofs.Common.{◌≡◌, ◌⊎◌, ◌∙◌, inl, inr, ℕ, ◌<◌, ◌≤◌, arith, false, subst, sym, Option, Some, None}
use Rattle.std.proofs.lemmas.Bool.{cases_lt}
use Rattle.std.specs.Prelude.{⊤, ◌==◌}
use Rattle.fkv_base.specs.declared.numbers.Addr.{Addr}
use Rattle.fkv_record.proofs.Shown.{from_below, from_on}
use Rattle.fkv_record.specs.Begin.{from_or_none}
use Rattle.law_refine.specs.Below.fkv_log.TheLoading.{Loading}
use Rattle.law_refine.specs.Below.fkv_log.TheLoading.TheVariants as load
use Rattle.law_refine.specs.Below.fkv_log.RecordWords.{RecordWords}
use Rattle.fkv_map.specs.Fits.{NumberFits, OpFits}
use Rattle.law_refine.specs.Below.fkv_ops.Requests.{is_chain_end}
use Rattle.law_refine.specs.Below.fkv_ops.Request.{Request}
use Rattle.law_refine.specs.Below.fkv_ops.Trying.{TryState}
use Rattle.law_refine.specs.Below.fkv_ops.Walking.{WalkState}
use Rattle.law_refine.specs.Below.fkv_ops.DiskRecord.{DiskRecord}
use Rattle.law_refine.specs.Below.fkv_ops.TryAnswer.{TryAnswer}
use Rattle.law_refine.specs.Below.fkv_ops.TryAnswer.TheVariants as answer
use Rattle.law_refine.specs.Below.fkv_ops.HeaderSaid.{HeaderSaid}
use Rattle.law_refine.specs.Below.fkv_ops.HeaderSaid.TheVariants.{Says, Spoiled}
use Rattle.law_refine.specs.Below.fkv_ops.HeldRecord.{HeldRecord}
use Rattle.law_refine.specs.Below.fkv_ops.OldValue.{OldValue}
use Rattle.law_refine.specs.Below.fkv_ops.OldValue.TheVariants.{InMemory, Known}
use Rattle.law_refine.specs.Below.fkv_ops.TheTrying.{Trying}
use Rattle.law_refine.specs.Below.fkv_ops.TheTrying.TheVariants.{Ended, TakesExclusive, Appends, DropsExclusive, DropsShared, LoadsTail, LoadsTaken}
use Rattle.law_refine.specs.Below.fkv_ops.WalkAnswer.{WalkAnswer}
use Rattle.law_refine.specs.Below.fkv_ops.WalkAnswer.TheVariants as walk
use Rattle.law_refine.specs.Below.fkv_ops.TheWalking.{Walking}
use Rattle.law_refine.specs.Below.fkv_ops.TheWalking.TheVariants as walking
use Rattle.law_refine.specs.Below.fkv_pending.Attempting.{AttemptState}
use Rattle.law_refine.specs.Below.fkv_pending.MailRecord.{MailRecord}
use Rattle.law_refine.specs.Below.fkv_pending.MailTask.{MailTask}
use Rattle.law_refine.specs.Below.fkv_pending.MailTask.TheVariants.{Clear, Take, Put}
use Rattle.law_refine.specs.Below.fkv_pending.TheMailing.{Mailing}
use Rattle.law_refine.specs.Below.fkv_pending.TheMailing.TheVariants as mailing
use Rattle.law_refine.specs.Below.fkv_pending.PendingRequest.{PendingRequest}
use Rattle.law_opening.proofs.OfChanges.Rows.{IsAt, Stays}
use Rattle.law_log.specs.Ghosts.{Log}
use Rattle.law_refine.specs.Events.Published.{IsPublished}
use Rattle.law_refine.specs.Below.fkv_ops.Waiting.{told_of}

-- ---- on the device
-- a published record is there, below the flushed offset
abbrev pub IsThere : Log → ℕ → ℕ → Type 0
IsThere log flushed a = IsPublished (log.cells a) × (a < flushed)

-- and so whatever is led to from there, unless that is none, or below the log's begin
abbrev pub IsLedThere : ℕ → Log → ℕ → ℕ → Type 0
IsLedThere begin log flushed a = (from_or_none begin a ≡ 0) ⊎ IsThere log flushed a

-- where a request with such a floor goes on, a record is there
pub led_on : (begin : ℕ) (log : Log) (flushed : ℕ) (floor addr : Addr) → begin ≤ floor.0 → is_chain_end floor addr ≡ false → IsLedThere begin log flushed addr.0 → IsThere log flushed addr.0
led_on begin log flushed floor addr above on (inl none) = absurd (goes (cases_lt addr.0 floor.0))
  where
    not_zero : (n : ℕ) → n ≡ 0 → (n == 0) ≡ false → ⊥
    not_zero n none other = let zero : (0 == 0) ≡ false = subst (λ (x : ℕ). (x == 0) ≡ false) none other in cc

    goes : (addr.0 < floor.0) ⊎ (floor.0 ≤ addr.0) → ⊥
    goes (inl below) = not_zero (from_or_none floor.0 addr.0) (from_below floor.0 addr.0 below) on
    goes (inr past) = not_zero (from_or_none floor.0 addr.0) (from_on floor.0 addr.0 past ∙ sym (from_on begin addr.0 (let low = above in let high = past in omega (arith, low, high))) ∙ none) on
led_on begin log flushed floor addr above on (inr there) = there

abbrev pub SaysThere : ℕ → Log → ℕ → HeaderSaid → Type 0
SaysThere begin log flushed (Says previous version) = IsLedThere begin log flushed previous.0
SaysThere begin log flushed Spoiled = ⊤

-- ---- a request
-- what it holds fits, and its floor is no lower than the log's begin
abbrev pub HeldOk : ℕ → Log → ℕ → Addr → Option HeldRecord → Type 0
HeldOk begin log flushed floor None = ⊤
HeldOk begin log flushed floor (Some it) = NumberFits it.value × (IsLedThere begin log flushed it.previous.0 × (begin ≤ floor.0))

abbrev pub SoughtOk : Log → ℕ → Option DiskRecord → Type 0
SoughtOk log flushed None = ⊤
SoughtOk log flushed (Some it) = IsThere log flushed it.addr.0

abbrev pub RequestOk : ℕ → Log → ℕ → Request → Type 0
RequestOk begin log flushed request = HeldOk begin log flushed request.floor request.held

abbrev pub PendingOk : ℕ → Log → ℕ → PendingRequest → Type 0
PendingOk begin log flushed pending = RequestOk begin log flushed pending.request × (SoughtOk log flushed pending.sought × (begin ≤ pending.request.floor.0))

-- ---- a walk
-- what it loads is of a published record, at or above the head
abbrev pub LoadsAt : Log → ℕ → Loading → Type 0
LoadsAt log head (load.LoadsHeader its) = IsAt log head its.0
LoadsAt log head (load.LoadsKey its header) = IsAt log head its.0
LoadsAt log head (load.HasKey its header key) = IsAt log head its.0
LoadsAt log head (load.LoadsValue its header key) = IsAt log head its.0
LoadsAt log head load.AtRest = ⊤

abbrev pub WalkAnswerOk : Log → ℕ → WalkAnswer → Type 0
WalkAnswerOk log flushed (walk.OnDisk addr) = IsThere log flushed addr.0
WalkAnswerOk log flushed (walk.Value value) = NumberFits value
WalkAnswerOk log flushed its = ⊤

abbrev pub WalkRow : Log → ℕ → ℕ → Loading → Walking → Type 0
WalkRow log flushed head loading (walking.Ended its) = WalkAnswerOk log flushed its
WalkRow log flushed head loading walking.Finds = ⊤
WalkRow log flushed head loading step = LoadsAt log head loading

abbrev pub WalkOk : Log → ℕ → WalkState → Type 0
WalkOk log flushed w = WalkRow log flushed w.head.0 w.loading w.step

-- ---- a try
abbrev pub AnswerOk : Log → ℕ → TryAnswer → Type 0
AnswerOk log flushed (answer.AwaitsDisk it) = IsThere log flushed it.addr.0
AnswerOk log flushed its = ⊤

abbrev pub OldOk : OldValue → Type 0
OldOk (Known word) = NumberFits word
OldOk InMemory = ⊤

-- the words of a record that is made fit
abbrev pub WordsOk : RecordWords → Type 0
WordsOk its = NumberFits its.key.0 × NumberFits its.value

abbrev pub TryRow : Log → ℕ → TryState → Trying → Type 0
TryRow log flushed t (Ended its) = AnswerOk log flushed its
TryRow log flushed t (LoadsTail waiting) = AnswerOk log flushed (told_of waiting)
TryRow log flushed t (LoadsTaken waiting) = AnswerOk log flushed (told_of waiting)
TryRow log flushed t (DropsExclusive its) = AnswerOk log flushed its
TryRow log flushed t (DropsShared its) = AnswerOk log flushed its
TryRow log flushed t (TakesExclusive old) = OldOk old
TryRow log flushed t (Appends its) = OpFits t.request.op → WordsOk t.append.its_words
TryRow log flushed t step = ⊤

-- the request and the walk of a try
abbrev pub BaseOk : ℕ → Log → ℕ → TryState → Type 0
BaseOk begin log flushed t = RequestOk begin log flushed t.request × WalkOk log flushed t.walk

abbrev pub TryOk : ℕ → Log → ℕ → TryState → Type 0
TryOk begin log flushed t = BaseOk begin log flushed t × TryRow log flushed t t.step

-- ---- an attempt
abbrev pub TaskOk : Log → ℕ → MailTask → Type 0
TaskOk log flushed (Put addr) = IsThere log flushed addr.0
TaskOk log flushed task = ⊤

-- what it asks for in the mailbox is there
abbrev pub MailingOk : Log → ℕ → Mailing → Type 0
MailingOk log flushed (mailing.LoadsState task) = TaskOk log flushed task
MailingOk log flushed (mailing.StoresAddress addr) = IsThere log flushed addr.0
MailingOk log flushed step = ⊤

abbrev pub AttemptOk : ℕ → Log → ℕ → AttemptState → Type 0
AttemptOk begin log flushed a = PendingOk begin log flushed a.pending × (MailingOk log flushed a.mailing × TryOk begin log flushed a.trial)

-- A record that comes by the mailbox. One that is gone tells a begin of the log no lower than this.
abbrev pub RecordOk : ℕ → Log → ℕ → MailRecord → HeaderSaid → Type 0
RecordOk begin log flushed its said = NumberFits its.value × (SaysThere begin log flushed said × (its.header ≡ 0 → begin ≤ its.key.0))

-- ---- as the log grows and is flushed
module _ (log log' : Log) (stays : Stays log log') (flushed flushed' : ℕ) (rises : flushed ≤ flushed') where
  below : (a : ℕ) → a < flushed → a < flushed'
  below a low = omega (arith, low, rises)

  pub there_grows : (a : ℕ) → IsThere log flushed a → IsThere log' flushed' a
  there_grows a its = (stays a its.0, below a its.1)

  sought_grows : (sought : Option DiskRecord) → SoughtOk log flushed sought → SoughtOk log' flushed' sought
  sought_grows None ok = tt
  sought_grows (Some it) ok = there_grows it.addr.0 ok

  at_grows : (head a : ℕ) → IsAt log head a → IsAt log' head a
  at_grows head a at = (stays a at.0, at.1)

  loads_grow : (head : ℕ) (loading : Loading) → LoadsAt log head loading → LoadsAt log' head loading
  loads_grow head (load.LoadsHeader its) ok = at_grows head its.0 ok
  loads_grow head (load.LoadsKey its header) ok = at_grows head its.0 ok
  loads_grow head (load.HasKey its header key) ok = at_grows head its.0 ok
  loads_grow head (load.LoadsValue its header key) ok = at_grows head its.0 ok
  loads_grow head load.AtRest ok = tt

  walk_answer_grows : (its : WalkAnswer) → WalkAnswerOk log flushed its → WalkAnswerOk log' flushed' its
  walk_answer_grows (walk.OnDisk addr) ok = there_grows addr.0 ok
  walk_answer_grows (walk.Value value) ok = ok
  walk_answer_grows its ok = tt

  walk_grows : (head : ℕ) (loading : Loading) (step : Walking) → WalkRow log flushed head loading step → WalkRow log' flushed' head loading step
  walk_grows head loading (walking.Ended its) ok = walk_answer_grows its ok
  walk_grows head loading walking.Finds ok = tt
  walk_grows head loading (walking.Meets addr) ok = loads_grow head loading ok
  walk_grows head loading (walking.HasFound addr version) ok = loads_grow head loading ok
  walk_grows head loading walking.LoadsValue ok = loads_grow head loading ok

  answer_grows : (its : TryAnswer) → AnswerOk log flushed its → AnswerOk log' flushed' its
  answer_grows (answer.AwaitsDisk it) ok = there_grows it.addr.0 ok
  answer_grows its ok = tt

  try_row_grows : (t : TryState) (step : Trying) → TryRow log flushed t step → TryRow log' flushed' t step
  try_row_grows t (Ended its) ok = answer_grows its ok
  try_row_grows t (LoadsTail waiting) ok = answer_grows (told_of waiting) ok
  try_row_grows t (LoadsTaken waiting) ok = answer_grows (told_of waiting) ok
  try_row_grows t (DropsExclusive its) ok = answer_grows its ok
  try_row_grows t (DropsShared its) ok = answer_grows its ok
  try_row_grows t (TakesExclusive old) ok = ok
  try_row_grows t (Appends its) ok = ok
  try_row_grows t step ok = tt

  pub task_grows : (task : MailTask) → TaskOk log flushed task → TaskOk log' flushed' task
  task_grows (Put addr) ok = there_grows addr.0 ok
  task_grows Clear ok = tt
  task_grows Take ok = tt

  mailing_grows : (step : Mailing) → MailingOk log flushed step → MailingOk log' flushed' step
  mailing_grows (mailing.LoadsState task) ok = task_grows task ok
  mailing_grows (mailing.StoresAddress addr) ok = there_grows addr.0 ok
  mailing_grows step ok = tt

  module _ (begin : ℕ) where
    led_there_grows : (a : ℕ) → IsLedThere begin log flushed a → IsLedThere begin log' flushed' a
    led_there_grows a (inl none) = inl none
    led_there_grows a (inr its) = inr (there_grows a its)

    said_there_grows : (said : HeaderSaid) → SaysThere begin log flushed said → SaysThere begin log' flushed' said
    said_there_grows (Says previous version) ok = led_there_grows previous.0 ok
    said_there_grows Spoiled ok = tt

    pub taken_grows : (its : MailRecord) (said : HeaderSaid) → RecordOk begin log flushed its said → RecordOk begin log' flushed' its said
    taken_grows its said ok = (ok.0, (said_there_grows said ok.1.0, ok.1.1))

    held_grows : (floor : Addr) (held : Option HeldRecord) → HeldOk begin log flushed floor held → HeldOk begin log' flushed' floor held
    held_grows floor None ok = tt
    held_grows floor (Some it) ok = (ok.0, (led_there_grows it.previous.0 ok.1.0, ok.1.1))

    pub pending_grows : (pending : PendingRequest) → PendingOk begin log flushed pending → PendingOk begin log' flushed' pending
    pending_grows pending ok = (held_grows pending.request.floor pending.request.held ok.0, (sought_grows pending.sought ok.1.0, ok.1.1))

    try_grows : (t : TryState) → TryOk begin log flushed t → TryOk begin log' flushed' t
    try_grows t ok = ((held_grows t.request.floor t.request.held ok.0.0, walk_grows t.walk.head.0 t.walk.loading t.walk.step ok.0.1), try_row_grows t t.step ok.1)

    pub attempt_grows : (a : AttemptState) → AttemptOk begin log flushed a → AttemptOk begin log' flushed' a
    attempt_grows a ok = (pending_grows a.pending ok.0, (mailing_grows a.mailing ok.1.0, try_grows a.trial ok.1.1))
