-- What crates above name of `fkv_keeper`.
pub use Rattle.fkv_keeper.specs.Answers
pub use Rattle.fkv_keeper.specs.CheckpointLaws
pub use Rattle.fkv_keeper.specs.KeeperAsks
pub use Rattle.fkv_keeper.specs.KeeperLaws
pub use Rattle.fkv_keeper.specs.KeeperRun
pub use Rattle.fkv_keeper.specs.Keeping
pub use Rattle.fkv_keeper.specs.LastCommits
pub use Rattle.fkv_keeper.specs.NewKeepers
pub use Rattle.fkv_keeper.specs.Running
pub use Rattle.fkv_keeper.specs.SlotLaws
pub use Rattle.fkv_keeper.specs.SweepLaws
pub use Rattle.fkv_keeper.specs.declared.answers.Finished
pub use Rattle.fkv_keeper.specs.declared.answers.KeeperAsk
pub use Rattle.fkv_keeper.specs.declared.answers.KeeperTold
pub use Rattle.fkv_keeper.specs.declared.answers.Turn
pub use Rattle.fkv_keeper.specs.declared.keepers.Keeping as TheKeeping
pub use Rattle.fkv_keeper.specs.declared.last_commits.Area
pub use Rattle.fkv_keeper.specs.declared.last_commits.Checkpoint
