mod Agreeing
mod Ending
mod Exact
mod Fitting
mod Listing
mod OneFault
mod Refusing
mod Shared
mod SharedChains
pub mod Shown
mod Telling
mod Warming
