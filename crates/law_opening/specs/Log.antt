pub mod Begins
pub mod Laws
pub mod Lives
pub mod Maps
pub mod OpeningLog
pub mod Records
