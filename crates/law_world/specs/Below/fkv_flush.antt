-- What crates above name of `fkv_flush`.
pub use Rattle.fkv_flush.specs.Flushing
pub use Rattle.fkv_flush.specs.GuardAsks
pub use Rattle.fkv_flush.specs.GuardCalm
pub use Rattle.fkv_flush.specs.GuardFlushed
pub use Rattle.fkv_flush.specs.GuardLevels
pub use Rattle.fkv_flush.specs.GuardLimit
pub use Rattle.fkv_flush.specs.GuardMail
pub use Rattle.fkv_flush.specs.GuardPhase
pub use Rattle.fkv_flush.specs.GuardReserved
pub use Rattle.fkv_flush.specs.GuardSeen
pub use Rattle.fkv_flush.specs.GuardWorld
pub use Rattle.fkv_flush.specs.Guarded
pub use Rattle.fkv_flush.specs.Serving
pub use Rattle.fkv_flush.specs.declared.answers.DeviceAnswer
pub use Rattle.fkv_flush.specs.declared.flushing.Flushing as TheFlushing
pub use Rattle.fkv_flush.specs.declared.serving.Mail
pub use Rattle.fkv_flush.specs.declared.serving.Serving as TheServing
