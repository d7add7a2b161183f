mod Asking
mod BytesLemmas
mod Carry
mod Counting
mod Forgotten
mod Images
mod Left
mod Moments
mod Paged
mod Quieter
mod Recorded
mod Replayed
pub mod Shown
mod Spliced
mod Tearing
