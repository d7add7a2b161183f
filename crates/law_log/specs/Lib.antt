pub mod Begins
pub mod Chains
pub mod Ghosts
pub mod Laws
pub mod Enabled
pub mod Trace
pub mod Worked
