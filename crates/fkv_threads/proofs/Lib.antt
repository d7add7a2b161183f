pub mod Below
mod Lawful
mod Meetings
mod OneMore
mod Opens
mod Shares
mod Taken
mod Watching
