-- What the words say by which C holds its handles: they take all of it under one name.
pub use Rattle.std.specs.Borrow.{sem}
pub use Rattle.std_alloc.specs.Box.Ownership.{box_owns}
pub use Rattle.std_heap.specs.declared.Global.{Global}
pub use Rattle.std_heap.specs.contracts.GlobalAllocator.TheImpl.{ghosts}
pub use Rattle.fkv_handles.specs.declared.keepers.Keeper.{Keeper}
pub use Rattle.fkv_handles.specs.declared.sessions.Session.{Session}
pub use Rattle.fkv_handles.specs.declared.stores.Store.{Store}
pub use Rattle.fkv_handles.specs.contracts.keepers.Keeper.{the_row as keeper_row}
pub use Rattle.fkv_handles.specs.contracts.sessions.Session.{the_row as session_row}
pub use Rattle.fkv_handles.specs.contracts.stores.Store.{the_row as store_row}
