mod AttemptSits
pub mod Changes
pub mod GoneTold
pub mod Permitted
mod KeeperKeeps
mod KeeperParts
mod KeeperServes
pub mod LifeReads
pub mod Lives
mod MailSteps
mod Moved
pub mod Openings
pub mod ReadSteps
mod SessionSits
pub mod StoodThere
pub mod Takes
mod Worlds
