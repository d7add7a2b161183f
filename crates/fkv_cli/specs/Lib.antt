pub mod Output
