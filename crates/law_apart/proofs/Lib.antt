pub mod OfApart
