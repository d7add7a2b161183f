mod Attempting
pub mod BelowEnd
pub mod Chained
pub mod ChainsGrow
pub mod Ended
pub mod Ends
pub mod EndsRise
mod KeeperEnds
pub mod Later
pub mod Lives
pub mod Scans
pub mod Spelled
pub mod Taken
mod Tails
mod Undecided
