pub mod Heart
