pub mod Laws
pub mod WholeCalls
