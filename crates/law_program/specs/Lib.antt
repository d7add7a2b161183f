pub mod PlayedCalls
pub mod Said
pub mod WholeCalls
