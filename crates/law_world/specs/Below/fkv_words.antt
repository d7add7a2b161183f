-- What crates above name of `fkv_words`.
pub use Rattle.fkv_words.specs.PhaseWords
pub use Rattle.fkv_words.specs.declared.phase_words.PhaseSaid
