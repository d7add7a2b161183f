-- What crates above name of `fkv_threads`.
pub use Rattle.fkv_threads.specs.Models
