mod Hindered
mod Listing
mod Short
mod Tallies
