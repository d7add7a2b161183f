-- What the clauses of `src` say: they take all of it under one name.
pub use Rattle.fkv_base.specs.Limits.{max_pending}
pub use Rattle.fkv_base.specs.declared.commits.CommitKind.TheVariants.{Full}
pub use Rattle.fkv_base.specs.declared.faults.Fault.TheVariants.{Memory}
pub use Rattle.fkv_creating.specs.Created.{created_bytes}
pub use Rattle.fkv_disk.specs.Asks.{asked_call}
pub use Rattle.fkv_disk.specs.Device.{LeavesOnly}
pub use Rattle.fkv_handles.specs.Handles.{IsGiven, IsKeeperGiven, IsToldHonestly, begin_of, due_of, keys_of, sitting_of, store_is_open, store_keeper, store_keys, store_sessions, wanted_of, watch_of}
pub use Rattle.fkv_handles.specs.Kept.{IsAskedBy, IsToldBy, IsTurnedBy}
pub use Rattle.fkv_handles.specs.Laid.{laid_call, laid_op}
pub use Rattle.fkv_handles.specs.Opens.{AreFirst, IsOpenedFrom, IsOpeningRefused, IsRecovered}
pub use Rattle.fkv_handles.specs.Sittings.{AreOfOneStore, HaveMet, IsLastSerial, IsToldCall, finished_in}
pub use Rattle.fkv_handles.specs.declared.refusals.Refusal.TheVariants.{HandleOut}
pub use Rattle.fkv_map.specs.declared.operations.Call.TheVariants.{Op}
pub use Rattle.fkv_opening.specs.Opened.{IsStoreOf}
pub use Rattle.fkv_threads.specs.Models.{opening}
pub use Rattle.fkv_warming.specs.Warmed.{warm_from}
pub use Rattle.std.specs.Prelude.{Err, IfErr, IfOk, Ok, OnErr, OnOk, Some, is_some, length, map}
