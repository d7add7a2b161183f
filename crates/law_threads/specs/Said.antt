-- What the clauses of `src` say: they take all of it under one name.
pub use Rattle.fkv_seats.specs.Rule.{AreAllowed}
pub use Rattle.fkv_table.specs.Planes.{plane}
pub use Rattle.fkv_table.specs.declared.happenings.Happening.{Happening}
pub use Rattle.law_order.specs.Below.fkv_world.Runs.{World}
pub use Rattle.law_threads.specs.Calls.{OfEachRun}
pub use Rattle.law_threads.specs.Durable.{ItsDurableNeverFalls, RecoversItsDurable, TellsItsDurable}
pub use Rattle.law_threads.specs.Images.{RecoversWithin}
pub use Rattle.law_threads.specs.Kinds.{TellsKinds}
pub use Rattle.law_threads.specs.Laws.{GoesOnFromWhatWasSeen, IsThreadLaw, IsWithin, SharesOneHistory}
pub use Rattle.law_threads.specs.Refusals.{OfEachRefusal}
pub use Rattle.law_threads.specs.Turns.{OfEachTurn}
