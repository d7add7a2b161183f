mod ByDevice
pub mod Called
pub mod KeeperCalled
pub mod KeeperCommits
pub mod KeeperMoments
pub mod KeeperNotes
pub mod KeeperSettled
pub mod KeeperSteps
pub mod KeeperWords
pub mod Laid
pub mod LaidWords
pub mod LineSteps
pub mod Lives
pub mod Meets
pub mod Moved
pub mod Opens
mod Parting
pub mod Raises
pub mod Ready
pub mod Seating
pub mod Settled
pub mod StandIns
pub mod Starts
pub mod Steps
pub mod Straights
