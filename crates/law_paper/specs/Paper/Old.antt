-- What stands of a log where the commit in force uses the checkpoint with which the store was opened: recovery meets again what the opening's recovery met, and
-- then what this life has written.
use Rattle.std.specs.Prelude.{◌≡◌, ◌↔◌, ℕ, ◌<◌, ◌≤◌, false, List}
use Rattle.fkv_chains.specs.Chains.{HasChains}
use Rattle.fkv_chains.specs.Entries.{Counts}
use Rattle.law_log.specs.Chains.{Cell, Published}
use Rattle.law_log.specs.Ghosts.{Log}
use Rattle.law_log.specs.Trace.{IsIn}
use Rattle.fkv_record.specs.declared.lost_ranges.LostRange.{LostRange}
use Rattle.fkv_record.specs.declared.records.Record.{Record}
use Rattle.fkv_scan.specs.Log as scan
use Rattle.fkv_scan.specs.Log.{AreApart, AreBelow, record_home}
use Rattle.fkv_scan.specs.Records.{Stands, version_of, losses}
use Rattle.fkv_scan.specs.Scan.{Has, HasScan}
use Rattle.law_paper.specs.Paper.Images.{IsCut, IsOrderly, IsRecent, ShowsLog}

-- Two scans go by the same checkpoint and begin, and meet the same records from there to the end of the first. The second is of no earlier commit, and ends no
-- lower.
pub record GoesOnFrom (was image : scan.Log) : Type 0 where
  pub begin : image.begin ≡ was.begin
  pub start : image.start ≡ was.start
  pub oldest : image.oldest ≡ was.oldest
  pub bits : image.shape.bucket_bits ≡ was.shape.bucket_bits
  pub triples : image.triples ≡ was.triples
  pub longer : was.tail ≤ image.tail
  pub newer : was.version ≤ image.version
  pub bytes : (a : ℕ) (x : Record) → was.begin ≤ a → a < was.tail → Stands was a x ↔ Stands image a x

-- the opening's recovery found no fault in the scan, the chains and the triples
pub record WasSound (was : scan.Log) : Type 0 where
  pub scan : HasScan was
  pub chains : HasChains was
  pub apart : AreApart was.triples
  pub below : AreBelow was.tail was.triples
  pub some_start : 0 < was.start
  pub begins : was.begin ≤ was.start
  pub upwards : was.start ≤ was.tail

-- below the opening's end the log's chains have what counted there, all of the opening's version
pub record HasWhatCounted (was : scan.Log) (g : Log) : Type 0 where
  pub counted : (h a : ℕ) → a < was.tail → IsIn a (g.chains h) ↔ Has (Counts was h) a
  pub one_version : (a : ℕ) (cell : Cell) → a < was.tail → g.cells a ≡ Published cell → cell.version ≡ was.version

-- of the valid records that the opening's scan met, these ranges lose just those that aren't in the log's chains
abbrev pub LosesTheRest : List LostRange → scan.Log → Log → Type 0
LosesTheRest lost was g = (a : ℕ) (x : Record) → was.start ≤ a → a < was.tail → Stands was a x → x.header.invalid ≡ false
    → IsIn a (g.chains (record_home was.shape.bucket_bits x)) ↔ (losses lost a (version_of was x) ≡ 0)

-- The log is in order, the image shows it from the opening's end on, its records from there on are recent, and the commit cuts it. What lies below that end is what the opening's recovery met, and
-- the log has of it just what counted.
pub record StandsOnOld (home : ℕ → ℕ) (was image : scan.Log) (g : Log) : Type 0 where
  pub orderly : IsOrderly home g
  pub shows : ShowsLog home was.tail image g
  pub recent : IsRecent was.tail image g
  pub cut : IsCut image g
  pub goes_on : GoesOnFrom was image
  pub opened : WasSound was
  pub before : HasWhatCounted was g
  pub loses : LosesTheRest image.lost was g
