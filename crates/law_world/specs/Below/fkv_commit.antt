-- What crates above name of `fkv_commit`.
pub use Rattle.fkv_commit.specs.Commits
pub use Rattle.fkv_commit.specs.Cuts
pub use Rattle.fkv_commit.specs.Deferring
pub use Rattle.fkv_commit.specs.Entering
pub use Rattle.fkv_commit.specs.Finishing
pub use Rattle.fkv_commit.specs.Seeking
pub use Rattle.fkv_commit.specs.Starting
pub use Rattle.fkv_commit.specs.Waiting
pub use Rattle.fkv_commit.specs.declared.commits.Commit
pub use Rattle.fkv_commit.specs.declared.deferring.DeferAnswer
pub use Rattle.fkv_commit.specs.declared.deferring.Deferred
pub use Rattle.fkv_commit.specs.declared.deferring.Deferring as TheDeferring
pub use Rattle.fkv_commit.specs.declared.entering.EnterAnswer
pub use Rattle.fkv_commit.specs.declared.entering.Entering as TheEntering
pub use Rattle.fkv_commit.specs.declared.finishing.FinishAnswer
pub use Rattle.fkv_commit.specs.declared.finishing.Finishing as TheFinishing
pub use Rattle.fkv_commit.specs.declared.seeking.SeekAnswer
pub use Rattle.fkv_commit.specs.declared.seeking.Seeking as TheSeeking
pub use Rattle.fkv_commit.specs.declared.starting.StartAnswer
pub use Rattle.fkv_commit.specs.declared.starting.Starting as TheStarting
pub use Rattle.fkv_commit.specs.declared.waiting.WaitAnswer
pub use Rattle.fkv_commit.specs.declared.waiting.Waiting as TheWaiting
