-- What the crates above may cite of these proofs.
pub use Rattle.law_commit.proofs.Counted.{life_counted, life_risen, life_point}
pub use Rattle.law_commit.proofs.Sights.{view_seen, coming_seen}
pub use Rattle.law_commit.proofs.LifeBegun.{life_stands, life_turn}
pub use Rattle.law_commit.proofs.Rising.{version_rises, version_below}
pub use Rattle.law_commit.proofs.NextNumbers.{numbers_in_turn}
pub use Rattle.law_commit.proofs.PhaseStores.{keeper_stores}
pub use Rattle.law_commit.proofs.OldBegins.{run_old}
pub use Rattle.law_commit.proofs.Specified.{BeginStays, run_stays}
pub use Rattle.law_commit.proofs.OwnTurnStores.{own_turn_stores}
pub use Rattle.law_commit.proofs.Sweeps.{sweep_begins, sweep_moves, sweep_reads}
