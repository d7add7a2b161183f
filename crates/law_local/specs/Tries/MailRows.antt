-- What an attempt knows of the record that it takes from the mailbox, and of the address that it puts there.
use Rattle.std.specs.Prelude.{◌≡◌, ◌≢◌, ◌≤◌, ℕ, ⊤, Option, Some, None}
use Rattle.fkv_base.specs.declared.numbers.Addr.{Addr}
use Rattle.law_log.specs.Chains.{Cell, Logged, Published}
use Rattle.law_log.specs.Ghosts.{Log}
use Rattle.fkv_ops.specs.declared.answers.DiskRecord.{DiskRecord}
use Rattle.fkv_ops.specs.Values.{value_of}
use Rattle.fkv_pending.specs.declared.mailing.MailAnswer.{MailAnswer}
use Rattle.fkv_pending.specs.declared.mailing.MailAnswer.TheVariants.{Taken}
use Rattle.fkv_pending.specs.declared.mailing.MailRecord.{MailRecord}
use Rattle.fkv_pending.specs.declared.mailing.MailTask.TheVariants.{Put}
use Rattle.fkv_pending.specs.declared.mailing.Mailing.{Mailing}
use Rattle.fkv_pending.specs.declared.mailing.Mailing.TheVariants.{Ended, LoadsState, LoadsHeader, LoadsKey, LoadsValue, StoresEmpty, StoresAddress}
use Rattle.law_local.specs.Tries.Floors.{LeadsByFloor}
use Rattle.law_local.specs.Tries.Replies.{SaysKey, SaysValue}

-- A published record is there, and this header leads where it does, by the floor of the request. It is of whatever version: all that a store was opened with
-- counts as of one version, and its headers say older ones too. Nobody asks a record that comes by the mailbox for its version.
pub record LeadsAs (floor : ℕ) (logged : Logged) (word : ℕ) : Type 0 where
  pub cell : Cell
  pub its : logged ≡ Published cell
  pub leads : LeadsByFloor floor cell.previous word

-- a published record is there, and this is its key
pub record IsKeyOf (logged : Logged) (word : ℕ) : Type 0 where
  pub cell : Cell
  pub its : logged ≡ Published cell
  pub same : word ≡ cell.key

-- and these words lead where it does, and are its key and its value
pub record IsRecordOf (floor : ℕ) (logged : Logged) (it : MailRecord) : Type 0 where
  pub cell : Cell
  pub its : logged ≡ Published cell
  pub leads : LeadsByFloor floor cell.previous it.header
  pub key : it.key.0 ≡ cell.key
  pub value : value_of it.value ≡ cell.value

-- ---- what was loaded so far of the record that is taken
-- a record has another header than one that is gone
abbrev pub TakenKnows : ℕ → Logged → MailAnswer → Type 0
TakenKnows floor logged (Taken it) = it.header ≢ 0 → IsRecordOf floor logged it
TakenKnows floor logged its = ⊤

abbrev pub MailRow : ℕ → Logged → Mailing → Type 0
MailRow floor logged (LoadsKey header) = header ≢ 0 → LeadsAs floor logged header
MailRow floor logged (LoadsValue header key) = header ≢ 0 → LeadsAs floor logged header × IsKeyOf logged key
MailRow floor logged (StoresEmpty its) = TakenKnows floor logged its
MailRow floor logged (Ended its) = TakenKnows floor logged its
MailRow floor logged step = ⊤

-- where the record is gone the key is the log's begin: all below that is fixed
abbrev pub GoneTells : Log → MailAnswer → Type 0
GoneTells log (Taken it) = it.header ≡ 0 → it.key.0 ≤ log.fixed
GoneTells log its = ⊤

abbrev pub GoneRow : Log → Mailing → Type 0
GoneRow log (LoadsValue header key) = header ≡ 0 → key ≤ log.fixed
GoneRow log (StoresEmpty its) = GoneTells log its
GoneRow log (Ended its) = GoneTells log its
GoneRow log step = ⊤

-- it is the record that the request seeks
abbrev pub SoughtRow : Log → ℕ → Option DiskRecord → Mailing → Type 0
SoughtRow log floor None step = ⊤
SoughtRow log floor (Some it) step = MailRow floor (log.cells it.addr.0) step

abbrev pub MailKnows : Log → ℕ → Option DiskRecord → Mailing → Type 0
MailKnows log floor sought step = GoneRow log step × SoughtRow log floor sought step

-- ---- what the words tell that are loaded there
abbrev pub SaysPrevious : ℕ → Logged → ℕ → Type 0
SaysPrevious floor logged word = (cell : Cell) → logged ≡ Published cell → LeadsByFloor floor cell.previous word

abbrev pub IsTrueOfMail : ℕ → Logged → Mailing → ℕ → Type 0
IsTrueOfMail floor logged LoadsHeader reply = reply ≢ 0 → SaysPrevious floor logged reply
IsTrueOfMail floor logged (LoadsKey header) reply = header ≢ 0 → SaysKey logged reply
IsTrueOfMail floor logged (LoadsValue header key) reply = header ≢ 0 → SaysValue logged reply
IsTrueOfMail floor logged step reply = ⊤

abbrev pub IsTrueOfGone : Log → Mailing → ℕ → Type 0
IsTrueOfGone log (LoadsKey header) reply = header ≡ 0 → reply ≤ log.fixed
IsTrueOfGone log step reply = ⊤

abbrev pub IsTrueOfSought : Log → ℕ → Option DiskRecord → Mailing → ℕ → Type 0
IsTrueOfSought log floor None step reply = ⊤
IsTrueOfSought log floor (Some it) step reply = IsTrueOfMail floor (log.cells it.addr.0) step reply

abbrev pub IsTrueOfLook : Log → ℕ → Option DiskRecord → Mailing → ℕ → Type 0
IsTrueOfLook log floor sought step reply = IsTrueOfGone log step reply × IsTrueOfSought log floor sought step reply

-- ---- the address that is put there is the one that the request seeks
abbrev pub PutsThere : Addr → Mailing → Type 0
PutsThere addr (LoadsState (Put it)) = it ≡ addr
PutsThere addr (StoresAddress it) = it ≡ addr
PutsThere addr step = ⊤

abbrev pub PutsSought : Option DiskRecord → Mailing → Type 0
PutsSought None step = ⊥
PutsSought (Some it) step = PutsThere it.addr step
