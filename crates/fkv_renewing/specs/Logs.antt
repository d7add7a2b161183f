-- A renewed log.
use Rattle.std.specs.Prelude.{◌≡◌, ℕ, ◌+◌, ◌≤◌, List, [], length, Some, slice_get}
use Rattle.fkv_base.specs.declared.numbers.Key.{Key}
use Rattle.fkv_base.specs.declared.numbers.Value.{Value}
use Rattle.fkv_record.specs.declared.records.Record.{Record}
use Rattle.fkv_scan.specs.Log.{Log}
use Rattle.fkv_scan.specs.Records.{Stands}
use Rattle.fkv_renewing.specs.Records.{AreRecords}

-- The log of commit 1, whose checkpoint has no triples, holds the records of these pairs from address 1 on, and nothing else. No record is lost.
pub record IsRenewedLog (log : Log) (pairs : List (Key × Value)) (records : List Record) : Type 0 where
  pub version : log.version ≡ 1
  pub oldest : log.oldest ≤ 1
  pub begin : log.begin ≡ 1
  pub start : log.start ≡ 1
  pub tail : log.tail ≡ length pairs + 1
  pub lost : log.lost ≡ []
  pub triples : log.triples ≡ []
  pub are_records : AreRecords log.shape.bucket_bits pairs records
  pub stand : (i : ℕ) (x : Record) → slice_get records i ≡ Some x → Stands log (i + 1) x
