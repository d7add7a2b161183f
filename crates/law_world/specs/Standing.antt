pub mod CallsMade
pub mod Opening
pub mod Standing
