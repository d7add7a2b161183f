-- What the clauses of `src` say: they take all of it under one name.
pub use Rattle.clap.specs.Walk.{texts}
pub use Rattle.fkv_cli.specs.Output.{IsOutputOf}
pub use Rattle.fkv_cli_tests.specs.Shelves.{TellsOf, devices_of, memory_of, shelf_files, shelf_image, shelf_name}
pub use Rattle.fkv_cli_tests.specs.declared.shelves.Shelf.{Shelf}
pub use Rattle.fkv_runs.specs.Below.fkv_playing.InTurn.{Writes}
pub use Rattle.fkv_runs.specs.Beginnings.{BreaksOff}
