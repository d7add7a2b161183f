pub mod AllLives
mod Beats
mod Calm
pub mod Checked
pub mod CrashReports
pub mod EachLine
mod FewCalls
mod FewSeats
mod FinishedCommits
mod InLife
pub mod Interleaved
mod Keeper
pub mod Led
pub mod Lives
pub mod NewFiles
pub mod NewStores
mod NotedBeats
pub mod NotedGroups
mod OneCall
mod Pieces
mod Polled
mod PolledReads
mod ReadCalls
pub mod Replies
pub mod Runs
pub mod Scripts
pub mod Steps
mod Tickets
mod ToldToWait
mod Unswept
mod Waiting
