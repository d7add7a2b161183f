mod EntriesFound
mod FilledBuckets
mod FilledIndex
mod Grouped
mod Laid
mod Opening
mod Positions
mod Tags
pub mod Shown
