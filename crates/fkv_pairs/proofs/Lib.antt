mod Along
mod Chained
mod Faultless
mod Meeting
mod Pairing
mod ShownPairs
mod Ways
