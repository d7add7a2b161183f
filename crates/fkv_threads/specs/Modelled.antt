-- What the models of `src` say: they take all of it under one name.
pub use Rattle.law_threads.specs.Below.fkv_table.Calls.{IsReady}
pub use Rattle.fkv_threads.specs.Models.{IsAtTable, Opening, Sitting, Watch, opening, sitting_of, watch_of}
