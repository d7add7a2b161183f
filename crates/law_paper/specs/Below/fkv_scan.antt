-- What crates above name of `fkv_scan`.
pub use Rattle.fkv_scan.specs.Checkpoint
pub use Rattle.fkv_scan.specs.Log
pub use Rattle.fkv_scan.specs.Records
pub use Rattle.fkv_scan.specs.Scan
pub use Rattle.fkv_scan.specs.Scanned
