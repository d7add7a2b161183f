-- What the clauses of `src` say: they take all of it under one name.
pub use Rattle.fkv_disk.specs.Device.{LeavesOnly}
pub use Rattle.fkv_opening.specs.Opened.{IsStoreOf}
pub use Rattle.fkv_threads.specs.Below.fkv_table.Calls.{IsReady}
pub use Rattle.fkv_threads.specs.Calling.{IsToldCallOf}
pub use Rattle.fkv_threads.specs.Models.{opening}
pub use Rattle.fkv_threads_tests.specs.Firsts.{AreFirstOfOne}
