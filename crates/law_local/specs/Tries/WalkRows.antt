-- What a walk knows of the log, by its control state.
use Rattle.std.specs.Prelude.{◌≡◌, ℕ, ◌<◌, ◌≤◌, ⊤}
use Rattle.fkv_base.specs.declared.numbers.Addr.{Addr}
use Rattle.fkv_base.specs.declared.numbers.Version.{Version}
use Rattle.fkv_marks.specs.Marks.{mark}
use Rattle.fkv_log.specs.declared.loading.Loading.{Loading}
use Rattle.fkv_log.specs.declared.loading.Loading.TheVariants as load
use Rattle.fkv_index.specs.Slots.{entry_addr}
use Rattle.law_log.specs.Chains.{Cell, Logged, Published}
use Rattle.law_log.specs.Ghosts.{Log}
use Rattle.fkv_ops.specs.declared.header_words.HeaderSaid.TheVariants.{Says}
use Rattle.fkv_ops.specs.declared.walking.WalkAnswer.{WalkAnswer}
use Rattle.fkv_ops.specs.declared.walking.WalkAnswer.TheVariants as answer
use Rattle.fkv_ops.specs.declared.walking.Walking.{Walking}
use Rattle.fkv_ops.specs.declared.walking.Walking.TheVariants.{Ended, Finds, Meets, HasFound, LoadsValue}
use Rattle.fkv_ops.specs.HeaderWords.{header_said}
use Rattle.fkv_ops.specs.Walking.{WalkState}
use Rattle.law_local.specs.Tries.OnWay.{IsOnWay, ComesBelow, FindsNone, IsFoundAt}

-- where the walk goes down from: the address of the entry that was found, 0 where there is none
abbrev pub begin_of : WalkState → ℕ
begin_of w = entry_addr w.entry

-- a published record is there, and this word is its header, which has the mark of its version
pub record IsHeaderOf (logged : Logged) (word : ℕ) : Type 0 where
  pub cell : Cell
  pub its : logged ≡ Published cell
  pub says : header_said word ≡ Says (record { 0 = cell.previous }) (record { 0 = mark cell.version })

-- what is loaded so far of the record that is met
abbrev pub LoadKnows : Log → Addr → Loading → Type 0
LoadKnows log addr (load.LoadsHeader its) = its ≡ addr
LoadKnows log addr (load.LoadsKey its header) = (its ≡ addr) × IsHeaderOf (log.cells addr.0) header
LoadKnows log addr loading = ⊥

-- the record is in memory, and the walk has come to it
pub record MeetKnows (home : ℕ → ℕ) (log : Log) (w : WalkState) (addr : Addr) : Type 0 where
  pub way : IsOnWay home log w.key.0 (begin_of w) addr.0
  pub some : 0 < addr.0
  pub in_memory : w.head.0 ≤ addr.0
  pub its_load : LoadKnows log addr w.loading

-- The record of the key is found, in memory, and its value can be loaded. Its header said this mark of its version.
pub record FoundKnows (home : ℕ → ℕ) (log : Log) (w : WalkState) (addr : Addr) (said : Version) : Type 0 where
  pub version : ℕ
  pub found : IsFoundAt home log w.key.0 (begin_of w) addr.0 version
  pub its_mark : said.0 ≡ mark version
  pub in_memory : w.head.0 ≤ addr.0
  pub header : ℕ
  pub key : ℕ
  pub its_loading : w.loading ≡ load.HasKey addr header key

-- the walk is loading that value
pub record LoadsFrom (w : WalkState) (addr : Addr) : Type 0 where
  pub header : ℕ
  pub key : ℕ
  pub its_step : w.step ≡ LoadsValue
  pub its_loading : w.loading ≡ load.LoadsValue addr header key

pub record ValueKnows (home : ℕ → ℕ) (log : Log) (w : WalkState) : Type 0 where
  pub addr : Addr
  pub version : ℕ
  pub found : IsFoundAt home log w.key.0 (begin_of w) addr.0 version
  pub in_memory : w.head.0 ≤ addr.0
  pub header : ℕ
  pub key : ℕ
  pub its_loading : w.loading ≡ load.LoadsValue addr header key

-- what the walk has come to: no record of the key, or a record of the device. The value that was loaded may have changed since
abbrev pub EndKnows : (ℕ → ℕ) → Log → WalkState → WalkAnswer → Type 0
EndKnows home log w (answer.Found addr version) = ⊥
EndKnows home log w answer.Nowhere = FindsNone home log w.key.0 (begin_of w)
EndKnows home log w (answer.OnDisk addr) = ComesBelow home log w.key.0 (begin_of w) addr.0 w.head.0
EndKnows home log w its = ⊤

abbrev pub WalkRow : (ℕ → ℕ) → Log → WalkState → Walking → Type 0
WalkRow home log w (Ended its) = EndKnows home log w its
WalkRow home log w Finds = w.entry ≡ 0
WalkRow home log w (Meets addr) = MeetKnows home log w addr
WalkRow home log w (HasFound addr version) = FoundKnows home log w addr version
WalkRow home log w LoadsValue = ValueKnows home log w

abbrev pub WalkKnows : (ℕ → ℕ) → Log → WalkState → Type 0
WalkKnows home log w = WalkRow home log w w.step

-- what it tells where it waits or has ended
abbrev pub WalkTells : (ℕ → ℕ) → Log → WalkState → WalkAnswer → Type 0
WalkTells home log w (answer.Found addr version) = (w.step ≡ HasFound addr version) × FoundKnows home log w addr version
WalkTells home log w its = EndKnows home log w its
