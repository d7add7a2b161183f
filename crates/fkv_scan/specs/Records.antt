-- The records that a scan meets.
use Rattle.std.specs.Prelude.{◌≡◌, ℕ, ◌+◌, ◌≤◌, List, Bool, false, ◌&&◌, nat_lt, ◌==◌, count_by}
use Rattle.fkv_marks.specs.Window.{version_in}
use Rattle.fkv_disk.specs.Bytes.{bytes_at}
use Rattle.fkv_record.specs.declared.lost_ranges.LostRange.{LostRange}
use Rattle.fkv_record.specs.declared.records.Record.{Record}
use Rattle.fkv_record.specs.Begin.{from_or_none}
use Rattle.fkv_record.specs.Layout.{record_bytes}
use Rattle.fkv_record.specs.Places.{record_place}
use Rattle.fkv_scan.specs.Log.{Log, record_home}

-- the bytes at this address spell this record
abbrev pub Stands : Log → ℕ → Record → Type 0
Stands log a x = record_bytes x ≡ bytes_at log.image (record_place log.shape a) 24

-- where a record leads: to the address in its header, or nowhere where that lies below the log's begin
abbrev pub next_of : Log → Record → ℕ
next_of log x = from_or_none log.begin x.header.previous.0

-- the version of a record of the scan: what the mark in its header is read as
abbrev pub version_of : Log → Record → ℕ
version_of log x = version_in log.version x.header.version.0

-- a record of this version is lost where a range has that version and ends above its address
abbrev pub is_in : ℕ → ℕ → LostRange → Bool
is_in a version range = nat_lt a range.to.0 && version == range.version.0

-- how many ranges it is lost by
unfoldable pub losses : List LostRange → ℕ → ℕ → ℕ
losses ranges a version = count_by (is_in a version) ranges

abbrev pub losses_of : Log → ℕ → Record → ℕ
losses_of log a x = losses log.lost a (version_of log x)

-- a valid record of this home stands at this address
pub record IsValid (log : Log) (its_home a : ℕ) (x : Record) : Type 0 where
  pub stands : Stands log a x
  pub valid : x.header.invalid ≡ false
  pub same : record_home log.shape.bucket_bits x ≡ its_home

-- and it isn't lost
pub record IsKept (log : Log) (its_home a : ℕ) (x : Record) : Type 0 where
  pub here : IsValid log its_home a x
  pub not_lost : losses_of log a x ≡ 0

-- and it isn't newer than the commit: such a record counts
pub record IsCounted (log : Log) (its_home a : ℕ) (x : Record) : Type 0 where
  pub kept : IsKept log its_home a x
  pub old_enough : version_of log x ≤ log.version

-- a valid record of the version after the commit's: recovery leaves it out
pub record IsNewer (log : Log) (a : ℕ) (x : Record) : Type 0 where
  pub stands : Stands log a x
  pub valid : x.header.invalid ≡ false
  pub newer : version_of log x ≡ log.version + 1
