pub mod OneCommit
pub mod OwnCalls
pub mod OwnRun
