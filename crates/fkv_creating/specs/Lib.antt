pub mod Created
pub mod Filled
pub mod Long
pub mod Moments
