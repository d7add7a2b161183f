-- What crates above name of `fkv_playing`.
pub use Rattle.fkv_playing.specs.Beats
pub use Rattle.fkv_playing.specs.Finishes
pub use Rattle.fkv_playing.specs.Groups
pub use Rattle.fkv_playing.specs.InTurn
pub use Rattle.fkv_playing.specs.Players
pub use Rattle.fkv_playing.specs.Queues
pub use Rattle.fkv_playing.specs.Seats
pub use Rattle.fkv_playing.specs.Texts
pub use Rattle.fkv_playing.specs.declared.calls.ActorCall
pub use Rattle.fkv_playing.specs.declared.calls.Outcome
pub use Rattle.fkv_playing.specs.declared.calls.Stage
pub use Rattle.fkv_playing.specs.declared.calls.Telling
pub use Rattle.fkv_playing.specs.declared.players.Waits
