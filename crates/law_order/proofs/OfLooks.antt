mod Asking
mod LifeAsks
mod LifeMails
pub mod Looks
pub mod Ready
mod There
pub mod Truth
