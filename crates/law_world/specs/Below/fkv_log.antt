-- What crates above name of `fkv_log`.
pub use Rattle.fkv_log.specs.Filling
pub use Rattle.fkv_log.specs.Invalidating
pub use Rattle.fkv_log.specs.Loading
pub use Rattle.fkv_log.specs.Moving
pub use Rattle.fkv_log.specs.Regions
pub use Rattle.fkv_log.specs.Reserved
pub use Rattle.fkv_log.specs.Reserving
pub use Rattle.fkv_log.specs.Shifting
pub use Rattle.fkv_log.specs.Turning
pub use Rattle.fkv_log.specs.declared.filling.Filling as TheFilling
pub use Rattle.fkv_log.specs.declared.invalidating.Invalidating as TheInvalidating
pub use Rattle.fkv_log.specs.declared.loading.LoadAnswer
pub use Rattle.fkv_log.specs.declared.loading.Loading as TheLoading
pub use Rattle.fkv_log.specs.declared.moving.MoveAnswer
pub use Rattle.fkv_log.specs.declared.moving.Moving as TheMoving
pub use Rattle.fkv_log.specs.declared.moving.Offset
pub use Rattle.fkv_log.specs.declared.moving.Target
pub use Rattle.fkv_log.specs.declared.record_words.RecordWords
pub use Rattle.fkv_log.specs.declared.regions.Region
pub use Rattle.fkv_log.specs.declared.reserving.ReserveAnswer
pub use Rattle.fkv_log.specs.declared.reserving.Reserving as TheReserving
pub use Rattle.fkv_log.specs.declared.shifting.ShiftAnswer
pub use Rattle.fkv_log.specs.declared.shifting.Shifting as TheShifting
pub use Rattle.fkv_log.specs.declared.turning.TurnForm
pub use Rattle.fkv_log.specs.declared.turning.Turning as TheTurning
