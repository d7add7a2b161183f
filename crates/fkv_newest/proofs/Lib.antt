mod Counting
mod Faultless
mod Finding
mod Heading
mod Losing
mod Refusing
pub mod Shown
