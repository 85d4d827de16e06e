pub mod Caps
pub mod Capped
pub mod Pass
pub mod Mates
