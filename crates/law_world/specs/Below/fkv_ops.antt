-- What crates above name of `fkv_ops`.
pub use Rattle.fkv_ops.specs.Appending
pub use Rattle.fkv_ops.specs.Bounds
pub use Rattle.fkv_ops.specs.EachAsk
pub use Rattle.fkv_ops.specs.HeaderWords
pub use Rattle.fkv_ops.specs.Reasons
pub use Rattle.fkv_ops.specs.Requests
pub use Rattle.fkv_ops.specs.Resting
pub use Rattle.fkv_ops.specs.TryRun
pub use Rattle.fkv_ops.specs.Trying
pub use Rattle.fkv_ops.specs.Values
pub use Rattle.fkv_ops.specs.Waiting
pub use Rattle.fkv_ops.specs.Walking
pub use Rattle.fkv_ops.specs.declared.answers.DiskRecord
pub use Rattle.fkv_ops.specs.declared.answers.Reason
pub use Rattle.fkv_ops.specs.declared.answers.TryAnswer
pub use Rattle.fkv_ops.specs.declared.answers.Waiting as TheWaiting
pub use Rattle.fkv_ops.specs.declared.appending.AppendAnswer
pub use Rattle.fkv_ops.specs.declared.appending.Appending as TheAppending
pub use Rattle.fkv_ops.specs.declared.appending.FoundSlot
pub use Rattle.fkv_ops.specs.declared.bounds.Bounds as TheBounds
pub use Rattle.fkv_ops.specs.declared.header_words.HeaderSaid
pub use Rattle.fkv_ops.specs.declared.requests.HeldRecord
pub use Rattle.fkv_ops.specs.declared.requests.Occasion
pub use Rattle.fkv_ops.specs.declared.requests.Request
pub use Rattle.fkv_ops.specs.declared.requests.Seen
pub use Rattle.fkv_ops.specs.declared.trying.OldValue
pub use Rattle.fkv_ops.specs.declared.trying.Trying as TheTrying
pub use Rattle.fkv_ops.specs.declared.walking.WalkAnswer
pub use Rattle.fkv_ops.specs.declared.walking.Walking as TheWalking
