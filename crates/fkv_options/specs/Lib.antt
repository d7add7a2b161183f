pub mod CommandLine
pub mod Options
pub mod RunFault
pub mod Threads
