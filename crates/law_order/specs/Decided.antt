pub mod Cut
pub mod Laws
pub mod Old
