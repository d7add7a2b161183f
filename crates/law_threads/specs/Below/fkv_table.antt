-- What crates above name of `fkv_table`.
pub use Rattle.fkv_table.specs.Calls
pub use Rattle.fkv_table.specs.Desks
pub use Rattle.fkv_table.specs.KeeperCalls
pub use Rattle.fkv_table.specs.Keeps
pub use Rattle.fkv_table.specs.Meets
pub use Rattle.fkv_table.specs.Openings
pub use Rattle.fkv_table.specs.Planes
pub use Rattle.fkv_table.specs.Starts
pub use Rattle.fkv_table.specs.Turns
pub use Rattle.fkv_table.specs.declared.happenings.Happening
pub use Rattle.fkv_table.specs.declared.keepers.KeeperPass
pub use Rattle.fkv_table.specs.declared.rule.Pass
pub use Rattle.fkv_table.specs.declared.sessions.Session
pub use Rattle.fkv_table.specs.declared.turns.TurnAsk
