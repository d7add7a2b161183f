-- What crates above name of `fkv_session`.
pub use Rattle.fkv_session.specs.CatchingUp
pub use Rattle.fkv_session.specs.Refused
pub use Rattle.fkv_session.specs.Sessions
pub use Rattle.fkv_session.specs.declared.catching_up.Catching
pub use Rattle.fkv_session.specs.declared.sessions.CatchCause
pub use Rattle.fkv_session.specs.declared.sessions.Sitting
