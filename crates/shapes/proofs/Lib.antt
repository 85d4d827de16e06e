pub mod Balls
pub mod Counts
pub mod Ranges
pub mod Exact
pub mod Made
pub mod Pigeons
pub mod Products
