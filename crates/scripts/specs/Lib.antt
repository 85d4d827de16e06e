pub mod Scripts
pub mod Laws
