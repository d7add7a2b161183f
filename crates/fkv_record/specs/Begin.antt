-- Where a log begins, for the crates above.
pub use Rattle.fkv_begin.specs.Begin.{from_or_none}
