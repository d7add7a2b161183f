-- What crates above name of `fkv_maintain`.
pub use Rattle.fkv_maintain.specs.MaintainRun
pub use Rattle.fkv_maintain.specs.Maintaining
pub use Rattle.fkv_maintain.specs.Parts
pub use Rattle.fkv_maintain.specs.declared.maintaining.MaintainAnswer
pub use Rattle.fkv_maintain.specs.declared.maintaining.Maintaining as TheMaintaining
