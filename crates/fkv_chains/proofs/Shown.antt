-- What the crates above may cite of these proofs.
pub use Rattle.fkv_chains.proofs.Entering.{along_some, followed}
pub use Rattle.fkv_chains.proofs.Faultless.{no_fault}
pub use Rattle.fkv_chains.proofs.FollowedTo.{read_stands, read_alone, none_along}
pub use Rattle.fkv_chains.proofs.Reaching.{told_of, on_chain, some_home}
pub use Rattle.fkv_chains.proofs.Ways.{to_follow, at_way, way_told}
