mod Asked
mod CutsRead
mod DeferTold
mod EndLeft
mod EnterLeft
mod EnterTold
mod FinishTold
mod InOrder
mod Left
mod Replies
mod SeekKeeps
mod SeekLeft
pub mod Shown
mod SeekTold
mod StartLeft
mod StartTold
mod WaitTold
