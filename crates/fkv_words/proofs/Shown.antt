-- What the crates above may cite of these proofs.
pub use Rattle.fkv_words.proofs.Apart.{header_apart}
pub use Rattle.fkv_words.proofs.Bits.{bit_small}
pub use Rattle.fkv_words.proofs.Spelled.{same_made, reads_made}
pub use Rattle.fkv_words.proofs.Said.{spelled_says, said_version}
