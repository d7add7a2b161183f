-- What crates above name of `fkv_log`.
pub use Rattle.fkv_log.specs.Loading
pub use Rattle.fkv_log.specs.Regions
pub use Rattle.fkv_log.specs.declared.loading.LoadAnswer
pub use Rattle.fkv_log.specs.declared.loading.Loading as TheLoading
pub use Rattle.fkv_log.specs.declared.regions.Region
