-- The lost ranges that a store has in hand once it is opened.
use Rattle.std.specs.Prelude.{◌≡◌, ◌+◌, ◌++◌, Bool, true, false, List, [], ◌∷◌}
use Rattle.fkv_record.specs.declared.lost_ranges.LostRange.{LostRange}
use Rattle.fkv_scan.specs.Log.{Log}
use Rattle.fkv_scan.specs.Scanned.{TellsNewer}

-- Behind the ranges of the slot comes one more where recovery left records out: those of the version after the commit's, up to the log's end.
abbrev pub Extends : Log → Bool → List LostRange → Type 0
Extends log false ranges = ranges ≡ log.lost
Extends log true ranges = (added : LostRange) × (added.to.0 ≡ log.tail) × (added.version.0 ≡ log.version + 1) × (ranges ≡ log.lost ++ added ∷ [])

-- recovery left records out just where the scan meets a valid one that is newer than the commit
pub record AreInHand (log : Log) (ranges : List LostRange) : Type 0 where
  pub left_out : Bool
  pub tells : TellsNewer log log.tail left_out
  pub extends : Extends log left_out ranges
