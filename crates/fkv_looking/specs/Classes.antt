-- What stands at an address of the log of an opened store.
use Rattle.std.specs.Prelude.{◌≡◌, ℕ, Bool, true, false, ◌&&◌, nat_lt, nat_le, if◌then◌else◌, List, Option, Some, None}
use Rattle.fkv_disk.specs.Bytes.{bytes_at}
use Rattle.fkv_marks.specs.Window.{version_in}
use Rattle.fkv_words.specs.Fields.{Reads}
use Rattle.fkv_record.specs.declared.records.Record.{Record}
use Rattle.fkv_record.specs.Layout.{record_bytes}
use Rattle.fkv_record.specs.Places.{record_place}
use Rattle.fkv_scan.specs.Records.{losses}
use Rattle.fkv_opening.specs.declared.opened_store.Opened.{Opened}
use Rattle.fkv_looking.specs.declared.classes.RecordClass.{RecordClass}
use Rattle.fkv_looking.specs.declared.classes.RecordClass.TheVariants.{Valid, Invalid, Lost, Newer, NoRecord}

-- the version of a record: in the scan what its mark is read as, and below that the mark itself
unfoldable pub version_at : Opened → ℕ → Record → ℕ
version_at opened a x = if nat_le opened.checkpoint.first.0 a then version_in opened.number.0 x.header.version.0 else x.header.version.0

-- A valid record is newer than the commit if its version is above the commit's number. Else it is lost if it stands in the scan and a lost range in hand has it.
unfoldable pub class_of_valid : Opened → ℕ → Record → RecordClass
class_of_valid opened a x =
    if nat_lt opened.number.0 (version_at opened a x) then Newer
    else if nat_le opened.checkpoint.first.0 a && nat_lt 0 (losses opened.lost.items a (version_at opened a x)) then Lost else Valid

-- the class of a record at an address, or of none
abbrev pub class_of : Opened → ℕ → Option Record → RecordClass
class_of opened a None = NoRecord
class_of opened a (Some x) = if x.header.invalid then Invalid else class_of_valid opened a x

-- the bytes at an address of the log spell a record of this class, or none
pub record IsClass (image : List ℕ) (opened : Opened) (a : ℕ) (class : RecordClass) : Type 0 where
  pub held : Option Record
  pub stands : Reads record_bytes (bytes_at image (record_place opened.shape a) 24) held
  pub classed : class ≡ class_of opened a held

-- whether a class is this one
abbrev pub is_class : RecordClass → RecordClass → Bool
is_class Valid Valid = true
is_class Invalid Invalid = true
is_class Lost Lost = true
is_class Newer Newer = true
is_class NoRecord NoRecord = true
is_class one other = false
