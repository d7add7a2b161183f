pub mod Accepted
pub mod Cells
pub mod History
pub mod Life
pub mod Points
pub mod Requests
pub mod Reserves
pub mod Sights
